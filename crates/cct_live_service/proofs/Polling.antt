-- What a poll does, made of its visits.
use Rattle.std.proofs.Common.{◌≡◌, ◌≢◌, ◌≤◌, ◌<◌, ◌+◌, ◌%◌, ◌∙◌, ◌⊎◌, ◌==◌, ℕ, zero, suc, List, [], ◌∷◌, ◌++◌, Bool, true, false, Option, Some, None, Ok, Err, refl, sym, ap, subst, inl, inr, eqb-true, arith}
use Rattle.std.specs.Prelude.{⊤}
use Rattle.std.specs.List.{All, list_any}
use Rattle.std.proofs.lemmas.Bool.Decides.{nat_tests}
use Rattle.std.proofs.lemmas.List.{append-nil}
use Rattle.std.proofs.lemmas.List.Elements.{All-cons, All-nil}
use Rattle.cct_model.specs.lines.command.Command.TheVariants as command
use Rattle.cct_model.specs.lines.entry.Entry.{Entry}
use Rattle.cct_laws_live.specs.LiveStep.{LiveStep}
use Rattle.cct_laws_live.specs.LiveStep as live
use Rattle.cct_live_survey.specs.declared.finding.Finding.{Finding}
use Rattle.cct_live_service.specs.declared.attempts.Until.TheVariants as until_of
use Rattle.cct_live_service.specs.declared.served.Served.{Served}
use Rattle.cct_live_service.specs.declared.visit.TheConstants.{MOST_ROUNDS}
use Rattle.cct_live_service.specs.declared.visit.Task.{Task}
use Rattle.cct_live_service.specs.declared.visit.Task.TheVariants as task
use Rattle.cct_live_service.specs.Doing.{AreVisits, BeginsRound, DoesTask, EndsAs, EndsRound, Finds, GoesOnTo, IsAsking, IsLastRound, IsMovedRound, IsPoll, IsRound, IsVisit, ReadsOut, Rise, Then, ThenBy, Times, VisitsLast, VisitsOthers, VisitsTurn, VisitsUnless}
use Rattle.cct_live_service.specs.Ends.{is_moved, tells_moved}
use Rattle.cct_live_service.specs.Known.{Tasks}
use Rattle.cct_live_service.specs.Told.{Told, findings_in}
use Rattle.cct_live_service.proofs.Doings.{moved_ends, nothing_after, then_by, then_one, times_more}
use Rattle.cct_live_service.proofs.Found.{attempt_finds, attempts_find, finds_none, finds_weaker, found_then, one_finds, times_find}

-- one thing, and nothing after it
pub then_nothing : (P Q : List LiveStep → List Told → Type 0) → Q [] [] → (steps : List LiveStep) (told : List Told) →
    P steps told → Then P Q steps told
then_nothing P Q none steps told h = record {
  before = steps;
  after = [];
  said = told;
  added = [];
  steps_are = sym (append-nil steps);
  told_is = sym (append-nil told);
  first = h;
  next = none;
}

-- the same where the other one goes by it
by_nothing : (P : List LiveStep → List Told → Type 0) (Q : List Told → List LiveStep → List Told → Type 0) →
    ((said : List Told) → Q said [] []) → (steps : List LiveStep) (told : List Told) → P steps told →
    ThenBy P Q steps told
by_nothing P Q none steps told h = record {
  before = steps;
  after = [];
  said = told;
  added = [];
  steps_are = sym (append-nil steps);
  told_is = sym (append-nil told);
  first = h;
  next = none told;
}

-- nothing, and one thing after it
pub nothing_then : (P Q : List LiveStep → List Told → Type 0) → P [] [] → (steps : List LiveStep) (told : List Told) →
    Q steps told → Then P Q steps told
nothing_then P Q none steps told h = record {
  before = [];
  after = steps;
  said = [];
  added = told;
  steps_are = refl;
  told_is = refl;
  first = none;
  next = h;
}

-- what is two things is also two others
pub then_weaker : (P Q M N : List LiveStep → List Told → Type 0) →
    ((steps : List LiveStep) (told : List Told) → P steps told → M steps told) →
    ((steps : List LiveStep) (told : List Told) → Q steps told → N steps told) → (steps : List LiveStep) (told : List Told) →
    Then P Q steps told → Then M N steps told
then_weaker P Q M N one other steps told h = record {
  before = h.before;
  after = h.after;
  said = h.said;
  added = h.added;
  steps_are = h.steps_are;
  told_is = h.told_is;
  first = one h.before h.said h.first;
  next = other h.after h.added h.next;
}

-- a round that ended, by the entries of its last attempt
abbrev Goes : ℕ → List LiveStep → List Told → Type 0
Goes addr = GoesOnTo ⊤ until_of.Failed addr

pub round_ended : (addr : ℕ) (entries : List Entry) (Ends : List Told → Type 0) →
    ((told : List Told) → tells_moved told ≡ list_any is_moved entries → Ends told) → (steps : List LiveStep) (told : List Told) →
    EndsRound (Ok tt) entries addr steps told → IsRound Ends addr steps told
round_ended addr entries Ends to =
    then_weaker (BeginsRound addr) (EndsAs (Ok tt) entries (Goes addr)) (BeginsRound addr)
    (λ steps told. Goes addr steps told × Ends told) (λ steps told h. h)
    (λ steps told h. (h.0, to told (h.1 is_moved moved_ends)))

-- so many rounds, and one more after which a further one comes
pub moved_more : (addr before : ℕ) (entries : List Entry) → list_any is_moved entries ≡ true → (s1 s2 : List LiveStep)
    (t1 t2 : List Told) → Times before (IsMovedRound addr) s1 t1 → EndsRound (Ok tt) entries addr s2 t2 →
    Times (before + 1) (IsMovedRound addr) (s1 ++ s2) (t1 ++ t2)
moved_more addr before entries moved s1 s2 t1 t2 h k =
    subst (λ n. Times n (IsMovedRound addr) (s1 ++ s2) (t1 ++ t2)) (one_more before)
    (times_more (IsMovedRound addr) before s1 s2 t1 t2 h
    (round_ended addr entries (λ told. tells_moved told ≡ true) (λ told is. is ∙ moved) s2 t2 k))
  where
    one_more : (n : ℕ) → suc n ≡ n + 1
    one_more n = omega arith

-- or the last one
pub last_round : (addr before : ℕ) → suc before ≤ MOST_ROUNDS → (entries : List Entry) → list_any is_moved entries ≡ false →
    (s1 s2 : List LiveStep) (t1 t2 : List Told) → Times before (IsMovedRound addr) s1 t1 →
    EndsRound (Ok tt) entries addr s2 t2 → ReadsOut addr (s1 ++ s2) (t1 ++ t2)
last_round addr before few entries quiet s1 s2 t1 t2 h k = (
  before,
  few,
  then_one (Times before (IsMovedRound addr)) (IsLastRound before addr) s1 s2 t1 t2 h
      (round_ended addr entries (λ told. (tells_moved told ≡ false) ⊎ (suc before ≡ MOST_ROUNDS)) (λ told is. inl (is ∙ quiet))
      s2 t2 k),
)

-- as many as are made
pub all_rounds : (addr before : ℕ) → before ≡ MOST_ROUNDS → (steps : List LiveStep) (told : List Told) →
    Times before (IsMovedRound addr) steps told → ReadsOut addr steps told
all_rounds addr zero all steps told h = absurd (some all)
  where
    some : 0 ≡ MOST_ROUNDS → ⊥
    some is = omega (arith, is)
all_rounds addr (suc before) all steps told h = (
  before,
  few before all,
  then_weaker (Times before (IsMovedRound addr)) (IsMovedRound addr) (Times before (IsMovedRound addr))
      (IsLastRound before addr) (λ s t k. k)
      (then_weaker (BeginsRound addr) (λ s t. Goes addr s t × (tells_moved t ≡ true)) (BeginsRound addr)
      (λ s t. Goes addr s t × ((tells_moved t ≡ false) ⊎ (suc before ≡ MOST_ROUNDS))) (λ s t k. k)
      (λ s t k. (k.0, inr all)))
      steps told h,
)
  where
    few : (n : ℕ) → suc n ≡ MOST_ROUNDS → suc n ≤ MOST_ROUNDS
    few n is = omega (arith, is)

-- a round that wasn't reported to its end
quiet_round : (addr before : ℕ) → IsLastRound before addr [] []
quiet_round addr before =
    nothing_then (BeginsRound addr)
    (λ steps told. Goes addr steps told × ((tells_moved told ≡ false) ⊎ (suc before ≡ MOST_ROUNDS))) (inl (refl, refl)) [] []
    (inl ((refl, refl), tt), inl refl)

abbrev OneRound : ℕ → ℕ → List LiveStep → List Told → Type 0
OneRound addr before = Then (Times before (IsMovedRound addr)) (Then (BeginsRound addr) (Goes addr))

round_ends : (addr before : ℕ) → suc before ≤ MOST_ROUNDS → (steps : List LiveStep) (told : List Told) →
    OneRound addr before steps told → ReadsOut addr steps told
round_ends addr before few steps told h =
    by_moved (tells_moved h.next.added) (suc before == MOST_ROUNDS) refl refl
  where
    as_last : (tells_moved h.next.added ≡ false) ⊎ (suc before ≡ MOST_ROUNDS) → ReadsOut addr steps told
    as_last over = (
      before,
      few,
      record {
        before = h.before;
        after = h.after;
        said = h.said;
        added = h.added;
        steps_are = h.steps_are;
        told_is = h.told_is;
        first = h.first;
        next = record {
          before = h.next.before;
          after = h.next.after;
          said = h.next.said;
          added = h.next.added;
          steps_are = h.next.steps_are;
          told_is = h.next.told_is;
          first = h.next.first;
          next = (h.next.next, over);
        };
      },
    )

    fewer : (n most : ℕ) → suc n ≤ most → (suc n == most) ≡ false → suc (suc n) ≤ most
    fewer n most le other = grind (arith, nat_tests, le, other)

    by_moved : (moved all : Bool) → tells_moved h.next.added ≡ moved → (suc before == MOST_ROUNDS) ≡ all →
        ReadsOut addr steps told
    by_moved false all quiet is = as_last (inl quiet)
    by_moved true true moved is = as_last (inr (eqb-true (suc before) MOST_ROUNDS is))
    by_moved true false moved is = (
      suc before,
      fewer before MOST_ROUNDS few is,
      then_nothing (Times (suc before) (IsMovedRound addr)) (IsLastRound (suc before) addr)
          (quiet_round addr (suc before)) steps told
          (record {
            before = h.before;
            after = h.after;
            said = h.said;
            added = h.added;
            steps_are = h.steps_are;
            told_is = h.told_is;
            first = h.first;
            next = record {
              before = h.next.before;
              after = h.next.after;
              said = h.next.said;
              added = h.next.added;
              steps_are = h.next.steps_are;
              told_is = h.next.told_is;
              first = h.next.first;
              next = (h.next.next, moved);
            };
          }),
    )

pub round_broken : (how : Served) (addr before : ℕ) (entries : List Entry) → suc before ≤ MOST_ROUNDS →
    (s1 s2 : List LiveStep) (t1 t2 : List Told) → Times before (IsMovedRound addr) s1 t1 →
    EndsRound (Err how) entries addr s2 t2 → ReadsOut addr (s1 ++ s2) (t1 ++ t2)
round_broken how addr before entries few s1 s2 t1 t2 h k =
    round_ends addr before few (s1 ++ s2) (t1 ++ t2)
    (then_one (Times before (IsMovedRound addr)) (Then (BeginsRound addr) (Goes addr)) s1 s2 t1 t2 h
    (then_weaker (BeginsRound addr) (EndsAs (Err how) entries (Goes addr)) (BeginsRound addr) (Goes addr) (λ s t q. q)
    (λ s t q. q.0) s2 t2 k))

-- a round that is begun alone
pub begins_alone : (how : Served) (entries : List Entry) (addr : ℕ) (steps : List LiveStep) (told : List Told) →
    BeginsRound addr steps told → EndsRound (Err how) entries addr steps told
begins_alone how entries addr =
    then_nothing (BeginsRound addr) (EndsAs (Err how) entries (Goes addr)) (inl ((refl, refl), tt), tt)

-- visits report no findings
goes_find : (addr : ℕ) (steps : List LiveStep) (told : List Told) → Goes addr steps told → findings_in told ≡ []
goes_find addr steps told (inl none) = ap findings_in none.0.1
goes_find addr steps told (inr made) = attempts_find until_of.Failed addr steps told made

begins_find : (addr : ℕ) (steps : List LiveStep) (told : List Told) → BeginsRound addr steps told → findings_in told ≡ []
begins_find addr steps told (inl none) = ap findings_in none.1
begins_find addr steps told (inr begun) = one_finds (live.command (command.Round addr)) steps told begun

then_find : (P Q : List LiveStep → List Told → Type 0) →
    ((steps : List LiveStep) (told : List Told) → P steps told → findings_in told ≡ []) →
    ((steps : List LiveStep) (told : List Told) → Q steps told → findings_in told ≡ []) → (steps : List LiveStep)
    (told : List Told) → Then P Q steps told → findings_in told ≡ []
then_find P Q one other steps told h =
    ap findings_in h.told_is ∙ found_then h.said h.added
    ∙ ap (λ fs. fs ++ findings_in h.added) (one h.before h.said h.first) ∙ other h.after h.added h.next

round_finds : (addr : ℕ) (Ends : List Told → Type 0) (steps : List LiveStep) (told : List Told) →
    IsRound Ends addr steps told → findings_in told ≡ []
round_finds addr Ends =
    then_find (BeginsRound addr) (λ s t. Goes addr s t × Ends t) (begins_find addr) (λ s t k. goes_find addr s t k.0)

-- the same of one thing that goes by the other
by_find : (P : List LiveStep → List Told → Type 0) (Q : List Told → List LiveStep → List Told → Type 0) →
    ((steps : List LiveStep) (told : List Told) → P steps told → findings_in told ≡ []) →
    ((said : List Told) (steps : List LiveStep) (told : List Told) → Q said steps told → findings_in told ≡ []) →
    (steps : List LiveStep) (told : List Told) → ThenBy P Q steps told → findings_in told ≡ []
by_find P Q one other steps told h =
    ap findings_in h.told_is ∙ found_then h.said h.added
    ∙ ap (λ fs. fs ++ findings_in h.added) (one h.before h.said h.first) ∙ other h.said h.after h.added h.next

task_finds : (what : Task) (addr : ℕ) (steps : List LiveStep) (told : List Told) → DoesTask what addr steps told →
    findings_in told ≡ []
task_finds task.Nothing addr steps told h = ap findings_in h.1
task_finds task.Attempt addr steps told h = attempt_finds addr steps told h
task_finds task.ReadOut addr steps told h =
    then_find (Times h.0 (IsMovedRound addr)) (IsLastRound h.0 addr)
    (times_find (IsMovedRound addr) (round_finds addr (λ told. tells_moved told ≡ true)) h.0)
    (round_finds addr (λ told. (tells_moved told ≡ false) ⊎ (suc h.0 ≡ MOST_ROUNDS))) steps told h.2

visit_finds : (Has : ℕ → Task → Type 0) (addr : ℕ) (steps : List LiveStep) (told : List Told) → IsVisit Has addr steps told →
    findings_in told ≡ []
visit_finds Has addr steps told h = task_finds h.0 addr steps told h.2

visits_find : (has : Tasks) (visited : List ℕ) (steps : List LiveStep) (told : List Told) →
    AreVisits has visited steps told → findings_in told ≡ []
visits_find has [] steps told h = ap findings_in h.1
visits_find has (addr ∷ visited) steps told h =
    by_find (AreVisits has visited) (λ said. IsVisit (has said) addr) (visits_find has visited)
    (λ said. visit_finds (has said) addr) steps told h

turn_finds : (Has : ℕ → Task → Type 0) (turn : Option ℕ) (steps : List LiveStep) (told : List Told) →
    VisitsTurn Has turn steps told → findings_in told ≡ []
turn_finds Has None steps told h = ap findings_in h.1
turn_finds Has (Some addr) steps told (inl none) = ap findings_in none.1
turn_finds Has (Some addr) steps told (inr visit) = visit_finds Has addr steps told visit

pub last_finds : (Has : ℕ → Task → Type 0) (turn : Option ℕ) (findings : List Finding) (steps : List LiveStep)
    (told : List Told) → VisitsTurn Has turn steps told → Finds findings findings (VisitsTurn Has turn) steps told
last_finds Has turn findings = finds_none findings (VisitsTurn Has turn) (turn_finds Has turn)

pub others_find : (has : Tasks) (turn : Option ℕ) (findings : List Finding) (steps : List LiveStep) (told : List Told) →
    VisitsOthers has turn steps told → Finds findings findings (VisitsOthers has turn) steps told
others_find has turn findings =
    finds_none findings (VisitsOthers has turn) (λ steps told h. visits_find has h.1 steps told h.4)

-- no visit
pub none_at : (Has : ℕ → Task → Type 0) (turn : Option ℕ) → VisitsTurn Has turn [] []
none_at Has None = (refl, refl)
none_at Has (Some addr) = inl (refl, refl)

-- the device that has its turn is visited or not
pub visit_at : (Has : ℕ → Task → Type 0) (turn : Option ℕ) (addr : ℕ) → turn ≡ Some addr → (steps : List LiveStep)
    (told : List Told) → VisitsTurn Has (Some addr) steps told → VisitsTurn Has turn steps told
visit_at Has turn addr is steps told h = subst (λ at. VisitsTurn Has at steps told) (sym is) h

no_asking : IsAsking [] []
no_asking = ([], (refl, refl))

pub last_none : (has : Tasks) (turn : Option ℕ) → VisitsLast has turn [] []
last_none has turn =
    inl (then_by IsAsking (λ said. VisitsTurn (has said) turn) [] [] [] [] no_asking (none_at (has []) turn))

pub asking_then : (has : Tasks) (turn : Option ℕ) (s1 s2 : List LiveStep) (t1 t2 : List Told) → IsAsking s1 t1 →
    VisitsTurn (has t1) turn s2 t2 → VisitsLast has turn (s1 ++ s2) (t1 ++ t2)
asking_then has turn s1 s2 t1 t2 h k = inl (then_by IsAsking (λ said. VisitsTurn (has said) turn) s1 s2 t1 t2 h k)

pub asking_alone : (has : Tasks) (turn : Option ℕ) (a b : List Finding) (steps : List LiveStep) (told : List Told) →
    Finds a b IsAsking steps told → Finds a b (VisitsLast has turn) steps told
asking_alone has turn a b =
    finds_weaker a b IsAsking (VisitsLast has turn)
    (λ steps told h. inl (by_nothing IsAsking (λ said. VisitsTurn (has said) turn) (λ said. none_at (has said) turn) steps told h))

pub visit_then_asking : (has : Tasks) (turn : Option ℕ) (s1 s2 : List LiveStep) (t1 t2 : List Told) →
    VisitsTurn (has []) turn s1 t1 → IsAsking s2 t2 → VisitsLast has turn (s1 ++ s2) (t1 ++ t2)
visit_then_asking has turn s1 s2 t1 t2 h k = inr (then_one (VisitsTurn (has []) turn) IsAsking s1 s2 t1 t2 h k)

pub visit_alone : (has : Tasks) (turn : Option ℕ) (findings : List Finding) (steps : List LiveStep) (told : List Told) →
    VisitsTurn (has []) turn steps told → Finds findings findings (VisitsLast has turn) steps told
visit_alone has turn findings steps told h =
    finds_weaker findings findings (VisitsTurn (has []) turn) (VisitsLast has turn)
    (λ s t k. inr (then_nothing (VisitsTurn (has []) turn) IsAsking no_asking s t k)) steps told
    (last_finds (has []) turn findings steps told h)

pub polls : (has : Tasks) (turn : Option ℕ) (s1 s2 : List LiveStep) (t1 t2 : List Told) → VisitsOthers has turn s1 t1 →
    VisitsLast (λ more. has (t1 ++ more)) turn s2 t2 → IsPoll has (s1 ++ s2) (t1 ++ t2)
polls has turn s1 s2 t1 t2 h k =
    (turn, then_by (VisitsOthers has turn) (λ said. VisitsLast (λ more. has (said ++ more)) turn) s1 s2 t1 t2 h k)

pub polls_alone : (has : Tasks) (turn : Option ℕ) (findings : List Finding) (steps : List LiveStep) (told : List Told) →
    VisitsOthers has turn steps told → Finds findings findings (IsPoll has) steps told
polls_alone has turn findings steps told h =
    finds_weaker findings findings (VisitsOthers has turn) (IsPoll has)
    (λ s t k. (
      turn,
      by_nothing (VisitsOthers has turn) (λ said. VisitsLast (λ more. has (said ++ more)) turn)
          (λ said. last_none (λ more. has (said ++ more)) turn) s t k,
    )) steps told
    (others_find has turn findings steps told h)

pub poll_none : (has : Tasks) → IsPoll has [] []
poll_none has = (
  None,
  then_by (VisitsOthers has None) (λ said. VisitsLast (λ more. has (said ++ more)) None) [] [] [] [] (0, [], tt, All-nil (λ addr. None ≢ Some addr), (refl, refl))
      (last_none has None),
)

-- What is visited of the first so many addresses from the first one, without the one that has its turn later.
pub record SoFar (has : Tasks) (first step : ℕ) (turn : Option ℕ) (steps : List LiveStep) (told : List Told) : Type 0 where
  visited : List ℕ
  few : step ≤ 256
  rise : Rise first step visited
  others : All (λ addr. turn ≢ Some addr) visited
  visits : AreVisits has visited steps told

pub far_none : (has : Tasks) (first : ℕ) (turn : Option ℕ) → SoFar has first 0 turn [] []
far_none has first turn = record {
  visited = [];
  few = omega arith;
  rise = tt;
  others = All-nil (λ addr. turn ≢ Some addr);
  visits = (refl, refl);
}

rise_weaker : (first n m : ℕ) → n ≤ m → (visited : List ℕ) → Rise first n visited → Rise first m visited
rise_weaker first n m le [] h = tt
rise_weaker first n m le (addr ∷ before) h = (h.0, less h.0 h.1, h.2, h.3)
  where
    less : (place : ℕ) → place < n → place < m
    less place is = omega (arith, le, is)

one_behind : (n : ℕ) → n < n + 1
one_behind n = omega arith

pub far_more : (has : Tasks) (first step addr : ℕ) → step < 256 → addr ≡ (first + step) % 256 → (turn : Option ℕ)
    (s1 s2 : List LiveStep) (t1 t2 : List Told) → SoFar has first step turn s1 t1 →
    VisitsUnless (has t1) turn addr s2 t2 → SoFar has first (step + 1) turn (s1 ++ s2) (t1 ++ t2)
far_more has first step addr few is turn s1 s2 t1 t2 h (inl none) = record {
  visited = h.visited;
  few = omega (arith, few);
  rise = rise_weaker first step (step + 1) (omega arith) h.visited h.rise;
  others = h.others;
  visits = nothing_after (AreVisits has h.visited) s1 s2 t1 t2 none.0 none.1 h.visits;
}
far_more has first step addr few is turn s1 s2 t1 t2 h (inr (visit, other)) = record {
  visited = addr ∷ h.visited;
  few = omega (arith, few);
  rise = (step, one_behind step, is, h.rise);
  others = All-cons (λ a. turn ≢ Some a) addr h.visited other h.others;
  visits = then_by (AreVisits has h.visited) (λ said. IsVisit (has said) addr) s1 s2 t1 t2 h.visits visit;
}

pub far_all : (has : Tasks) (first step : ℕ) (turn : Option ℕ) (steps : List LiveStep) (told : List Told) →
    SoFar has first step turn steps told → VisitsOthers has turn steps told
far_all has first step turn steps told h =
    (first, h.visited, rise_weaker first step 256 h.few h.visited h.rise, h.others, h.visits)
