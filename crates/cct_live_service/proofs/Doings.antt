-- What is done for a line, made of its parts.
use Rattle.std.proofs.Common.{◌≡◌, ◌≤◌, ◌+◌, ◌∙◌, ◌⊎◌, ℕ, zero, suc, List, [], ◌∷◌, ◌++◌, length, Bool, true, false, Ok, Err, ◌==◌, ◌||◌, refl, eqb-true, sym, ap, subst, inl, inr, arith}
use Rattle.std.specs.List.{list_any}
use Rattle.std.proofs.lemmas.Bool.Decides.{nat_tests}
use Rattle.std.proofs.lemmas.List.{append-nil}
use Rattle.std.proofs.lemmas.List.Elements.{All-nil}
use Rattle.cct_model.specs.terms.device.DeviceSetup.{DeviceSetup}
use Rattle.cct_model.specs.terms.device.Setup.{Setup}
use Rattle.cct_model.specs.lines.entry.Entry.{Entry}
use Rattle.cct_model.specs.lines.entry.Entry.TheVariants as entry_of
use Rattle.cct_laws_live.specs.LiveStep.{LiveStep}
use Rattle.cct_laws_live.specs.LiveStep as live
use Rattle.cct_script.specs.declared.live.LiveLine.{LiveLine}
use Rattle.cct_script.specs.declared.live.LiveLine.TheVariants as says
use Rattle.cct_live_survey.specs.declared.finding.Finding.{Finding}
use Rattle.cct_live_service.specs.declared.visit.Task.{Task}
use Rattle.cct_live_service.specs.declared.attempts.TheConstants.{MOST_ATTEMPTS}
use Rattle.cct_live_service.specs.declared.attempts.Until.{Until}
use Rattle.cct_live_service.specs.declared.attempts.Until.TheVariants as until_of
use Rattle.cct_live_service.specs.declared.served.Served.{Served}
use Rattle.cct_live_service.specs.declared.stopping.AtEnd.TheVariants as at_end
use Rattle.cct_live_service.specs.declared.input.InputLine.TheVariants as input
use Rattle.cct_live_service.specs.declared.notice.Notice.{Notice}
use Rattle.cct_live_service.specs.Watch.{IsOfWatch}
use Rattle.cct_live_service.specs.Doing.{Does, DoesKnown, DoesLine, DoesLines, EndsAs, FrontOf, GoesOn, IsAttempt, IsAttemptWith, IsLastTry, IsStating, MakesAttempts, PlaysLines, ServesLines, ServesOn, Tells, Then, ThenBy, Times, is_known}
use Rattle.cct_live_service.specs.Ends.{IsOfEnd, is_end, is_moved, is_unanswered, tells_end, tells_some}
use Rattle.cct_live_service.specs.Known.{Knows, Rests, Tasks, tasks_by}
use Rattle.cct_live_service.specs.Said.{Said}
use Rattle.cct_live_service.specs.Told.{Told, as_told, attempt_told, entry, findings_in, notice, notices_told, told_unsent, unheard}
use Rattle.cct_live_service.proofs.Parts.{front_whole}
use Rattle.cct_live_service.proofs.Visiting.{poll_weaker}

-- something once more
pub times_more : (P : List LiveStep → List Told → Type 0) (n : ℕ) (s1 s2 : List LiveStep) (t1 t2 : List Told) →
    Times n P s1 t1 → P s2 t2 → Times (suc n) P (s1 ++ s2) (t1 ++ t2)
times_more P n s1 s2 t1 t2 h k = record {
  before = s1;
  after = s2;
  said = t1;
  added = t2;
  steps_are = refl;
  told_is = refl;
  first = h;
  next = k;
}

-- and nothing more
pub nothing_after : (P : List LiveStep → List Told → Type 0) (s1 s2 : List LiveStep) (t1 t2 : List Told) → s2 ≡ [] → t2 ≡ [] →
    P s1 t1 → P (s1 ++ s2) (t1 ++ t2)
nothing_after P s1 s2 t1 t2 s t h =
    subst (λ steps. P steps (t1 ++ t2)) (sym (ap (λ more. s1 ++ more) s ∙ append-nil s1))
    (subst (P s1) (sym (ap (λ more. t1 ++ more) t ∙ append-nil t1)) h)

-- what is one thing is also another
times_weaker : (P Q : List LiveStep → List Told → Type 0) →
    ((steps : List LiveStep) (told : List Told) → P steps told → Q steps told) → (n : ℕ) (steps : List LiveStep)
    (told : List Told) → Times n P steps told → Times n Q steps told
times_weaker P Q to zero steps told h = h
times_weaker P Q to (suc n) steps told h = record {
  before = h.before;
  after = h.after;
  said = h.said;
  added = h.added;
  steps_are = h.steps_are;
  told_is = h.told_is;
  first = times_weaker P Q to n h.before h.said h.first;
  next = to h.after h.added h.next;
}

-- an attempt that isn't made breaks one off
pub attempt_broken : (sent : Bool) (entries : List Entry) (addr : ℕ) → FrontOf (IsAttemptWith sent entries addr) [] []
attempt_broken sent entries addr = record {
  undone = live.next addr ∷ [];
  untold = attempt_told sent entries ++ [];
  whole = (refl, ([], All-nil IsOfWatch, refl));
}

-- by a test of how jobs ended
module _ (is_such : Entry → Bool) (of_end : IsOfEnd is_such) where
  -- one of the entries that an attempt reports is such where one of its entries is
  some_notices : (notices : List Notice) → tells_some is_such (notices_told notices) ≡ false
  some_notices [] = refl
  some_notices (n ∷ notices) = some_notices notices

  some_as : (entries : List Entry) (notices : List Notice) →
      tells_some is_such (as_told entries ++ notices_told notices) ≡ list_any is_such entries
  some_as [] notices = some_notices notices
  some_as (e ∷ entries) notices = ap (λ b. is_such e || b) (some_as entries notices)

  some_unsent : (e : Entry) (told : List Told) →
      tells_some is_such (told_unsent e (unheard e) ∷ told) ≡ (is_such e || tells_some is_such told)
  some_unsent (entry_of.Wire addr sent []) told =
      ap (λ b. b || tells_some is_such told) (sym (of_end (entry_of.Wire addr sent []) refl))
  some_unsent (entry_of.Wire addr sent (byte ∷ heard)) told = refl
  some_unsent e told = refl

  some_attempt : (sent : Bool) (entries : List Entry) (notices : List Notice) →
      tells_some is_such (attempt_told sent entries ++ notices_told notices) ≡ list_any is_such entries
  some_attempt true entries notices = some_as entries notices
  some_attempt false [] notices = some_notices notices
  some_attempt false (e ∷ entries) notices =
      some_unsent e (as_told entries ++ notices_told notices) ∙ ap (λ b. is_such e || b) (some_as entries notices)

  some_with : (sent : Bool) (entries : List Entry) (addr : ℕ) (steps : List LiveStep) (told : List Told) →
      IsAttemptWith sent entries addr steps told → tells_some is_such told ≡ list_any is_such entries
  some_with sent entries addr steps told h = ap (tells_some is_such) h.1.2 ∙ some_attempt sent entries h.1.0

  -- an attempt that doesn't end its job has none
  apart : (b c : Bool) → (b || c) ≡ false → (b ≡ false) × (c ≡ false)
  apart false c k = (refl, k)
  apart true c k = cc k

  none_such : (told : List Told) → tells_end told ≡ false → tells_some is_such told ≡ false
  none_such [] h = refl
  none_such (entry e ∷ told) h =
      let parts = apart (is_end e) (tells_end told) h in
      ap (λ b. b || tells_some is_such told) (of_end e parts.0) ∙ none_such told parts.1
  none_such (what ∷ told) h = none_such told h

  such_then : (t1 t2 : List Told) → tells_some is_such t1 ≡ false →
      tells_some is_such (t1 ++ t2) ≡ tells_some is_such t2
  such_then [] t2 h = refl
  such_then (entry e ∷ t1) t2 h =
      let parts = apart (is_such e) (tells_some is_such t1) h in
      ap (λ b. b || tells_some is_such (t1 ++ t2)) parts.0 ∙ such_then t1 t2 parts.1
  such_then (what ∷ t1) t2 h = such_then t1 t2 h

  pub times_such : (addr n : ℕ) (steps : List LiveStep) (told : List Told) → Times n (GoesOn addr) steps told →
      tells_some is_such told ≡ false
  times_such addr zero steps told h = ap (tells_some is_such) h.1
  times_such addr (suc n) steps told h =
      ap (tells_some is_such) h.told_is ∙ such_then h.said h.added (times_such addr n h.before h.said h.first)
      ∙ none_such h.added h.next.1

  -- nor do the entries of one
  pub list_such : (entries : List Entry) → list_any is_end entries ≡ false → list_any is_such entries ≡ false
  list_such [] h = refl
  list_such (e ∷ entries) h =
      let parts = apart (is_end e) (list_any is_end entries) h in
      ap (λ b. b || list_any is_such entries) (of_end e parts.0) ∙ list_such entries parts.1

  -- attempts, and the last one
  pub ended_as : (addr made : ℕ) (sent : Bool) (entries : List Entry) (s1 s2 : List LiveStep) (t1 t2 : List Told) →
      Times made (GoesOn addr) s1 t1 → IsAttemptWith sent entries addr s2 t2 →
      tells_some is_such (t1 ++ t2) ≡ list_any is_such entries
  ended_as addr made sent entries s1 s2 t1 t2 h k =
      such_then t1 t2 (times_such addr made s1 t1 h) ∙ some_with sent entries addr s2 t2 k

with_end : (sent : Bool) (entries : List Entry) (addr : ℕ) (steps : List LiveStep) (told : List Told) →
    IsAttemptWith sent entries addr steps told → tells_end told ≡ list_any is_end entries
with_end = some_with is_end (λ e on. on)

pub unanswered_ends : IsOfEnd is_unanswered
unanswered_ends (entry_of.Ended addr end) on = cc on
unanswered_ends e on = refl

pub moved_ends : IsOfEnd is_moved
moved_ends (entry_of.Ended addr end) on = cc on
moved_ends e on = refl

-- attempts, none of which is the last one, and one more
pub then_one : (P Q : List LiveStep → List Told → Type 0) (s1 s2 : List LiveStep) (t1 t2 : List Told) → P s1 t1 → Q s2 t2 →
    Then P Q (s1 ++ s2) (t1 ++ t2)
then_one P Q s1 s2 t1 t2 h k = record {
  before = s1;
  after = s2;
  said = t1;
  added = t2;
  steps_are = refl;
  told_is = refl;
  first = h;
  next = k;
}

pub goes_on_one : (addr made : ℕ) (sent : Bool) (entries : List Entry) → list_any is_end entries ≡ false →
    (s1 s2 : List LiveStep) (t1 t2 : List Told) → Times made (GoesOn addr) s1 t1 → IsAttemptWith sent entries addr s2 t2 →
    Times (made + 1) (GoesOn addr) (s1 ++ s2) (t1 ++ t2)
goes_on_one addr made sent entries on s1 s2 t1 t2 h k =
    subst (λ n. Times n (GoesOn addr) (s1 ++ s2) (t1 ++ t2)) (one_more made)
    (times_more (GoesOn addr) made s1 s2 t1 t2 h ((sent, entries, k), with_end sent entries addr s2 t2 k ∙ on))
  where
    one_more : (n : ℕ) → suc n ≡ n + 1
    one_more n = omega arith

last_try : (until : Until) (addr made : ℕ) (steps : List LiveStep) (told : List Told) → IsAttempt addr steps told →
    (until ≡ until_of.Ended → (tells_end told ≡ true) ⊎ (suc made ≡ MOST_ATTEMPTS)) → IsLastTry until made addr steps told
last_try until_of.Ended addr made steps told h over = (h, over refl)
last_try until_of.Failed addr made steps told h over = h

-- and the last one
pub last_made : (until : Until) (addr made : ℕ) (sent : Bool) (entries : List Entry) → suc made ≤ MOST_ATTEMPTS →
    (until ≡ until_of.Ended → list_any is_end entries ≡ true) → (s1 s2 : List LiveStep) (t1 t2 : List Told) →
    Times made (GoesOn addr) s1 t1 → IsAttemptWith sent entries addr s2 t2 →
    MakesAttempts until addr (s1 ++ s2) (t1 ++ t2)
last_made until addr made sent entries few over s1 s2 t1 t2 h k = (
  made,
  few,
  then_one (Times made (GoesOn addr)) (IsLastTry until made addr) s1 s2 t1 t2 h
      (last_try until addr made s2 t2 (sent, entries, k) (λ is. inl (with_end sent entries addr s2 t2 k ∙ over is))),
)

-- as many as are made
pub all_made : (until : Until) (addr made : ℕ) → made ≡ MOST_ATTEMPTS → (steps : List LiveStep) (told : List Told) →
    Times made (GoesOn addr) steps told → MakesAttempts until addr steps told
all_made until addr zero all steps told h = absurd (some all)
  where
    some : 0 ≡ MOST_ATTEMPTS → ⊥
    some is = omega (arith, is)
all_made until addr (suc made) all steps told h = (
  made,
  few,
  record {
    before = h.before;
    after = h.after;
    said = h.said;
    added = h.added;
    steps_are = h.steps_are;
    told_is = h.told_is;
    first = h.first;
    next = last_try until addr made h.after h.added h.next.0 (λ is. inr all);
  },
)
  where
    few : suc made ≤ MOST_ATTEMPTS
    few = omega (arith, all)

-- attempts of which the last one wasn't reported to its end
abbrev pub OneMore : ℕ → ℕ → List LiveStep → List Told → Type 0
OneMore made addr = Then (Times made (GoesOn addr)) (IsAttempt addr)

pub one_more_made : (made addr : ℕ) (sent : Bool) (entries : List Entry) (s1 s2 : List LiveStep) (t1 t2 : List Told) →
    Times made (GoesOn addr) s1 t1 → IsAttemptWith sent entries addr s2 t2 → OneMore made addr (s1 ++ s2) (t1 ++ t2)
one_more_made made addr sent entries s1 s2 t1 t2 h k =
    then_one (Times made (GoesOn addr)) (IsAttempt addr) s1 s2 t1 t2 h (sent, entries, k)

pub attempts_broken : (until : Until) (addr made : ℕ) → suc made ≤ MOST_ATTEMPTS → (steps : List LiveStep)
    (told : List Told) → OneMore made addr steps told → FrontOf (MakesAttempts until addr) steps told
attempts_broken until addr made few steps told h =
    by_end (tells_end h.added) (suc made == MOST_ATTEMPTS) refl refl
  where
    as_last : (until ≡ until_of.Ended → (tells_end h.added ≡ true) ⊎ (suc made ≡ MOST_ATTEMPTS)) →
        FrontOf (MakesAttempts until addr) steps told
    as_last over = front_whole (MakesAttempts until addr) steps told (
      made,
      few,
      record {
        before = h.before;
        after = h.after;
        said = h.said;
        added = h.added;
        steps_are = h.steps_are;
        told_is = h.told_is;
        first = h.first;
        next = last_try until addr made h.after h.added h.next over;
      },
    )

    fewer : (n most : ℕ) → suc n ≤ most → (suc n == most) ≡ false → suc (suc n) ≤ most
    fewer n most le other = grind (arith, nat_tests, le, other)

    by_end : (ends all : Bool) → tells_end h.added ≡ ends → (suc made == MOST_ATTEMPTS) ≡ all →
        FrontOf (MakesAttempts until addr) steps told
    by_end true all ended is = as_last (λ until. inl ended)
    by_end false true on is = as_last (λ until. inr (eqb-true (suc made) MOST_ATTEMPTS is))
    by_end false false on is = record {
      undone = live.next addr ∷ [];
      untold = attempt_told true (entry_of.Idle addr ∷ []) ++ notices_told [];
      whole = last_made until addr (suc made) true (entry_of.Idle addr ∷ []) (fewer made MOST_ATTEMPTS few is) (λ is. refl)
          steps (live.next addr ∷ []) told (attempt_told true (entry_of.Idle addr ∷ []) ++ notices_told [])
          (record {
            before = h.before;
            after = h.after;
            said = h.said;
            added = h.added;
            steps_are = h.steps_are;
            told_is = h.told_is;
            first = h.first;
            next = (h.next, on);
          })
          (refl, ([], All-nil IsOfWatch, refl));
    }

-- and where the host stops, nothing is said of the last one
pub broken_as : (how : Served) (entries : List Entry) (P : List LiveStep → List Told → Type 0) (steps : List LiveStep)
    (told : List Told) → FrontOf P steps told → FrontOf (EndsAs (Err how) entries P) steps told
broken_as how entries P steps told h = record { undone = h.undone; untold = h.untold; whole = (h.whole, tt) }

-- the last try is an attempt
pub tried : (until : Until) (addr made : ℕ) (steps : List LiveStep) (told : List Told) → IsLastTry until made addr steps told →
    IsAttempt addr steps told
tried until_of.Ended addr made steps told h = h.0
tried until_of.Failed addr made steps told h = h

-- what is done for a line, where more is known
does_weaker : (A B : Bool → Type 0) → ((rest : Bool) → A rest → B rest) → (has more : Tasks) →
    ((told : List Told) (addr : ℕ) (what : Task) → has told addr what → more told addr what) → (M N : Type 0) → (M → N) → (devices : List DeviceSetup)
    (findings : List Finding) (said : LiveLine) (steps : List LiveStep) (told : List Told) →
    Does A has M devices findings said steps told → Does B more N devices findings said steps told
does_weaker A B to has more tasks M N miss devices findings says.Poll steps told h = record {
  before = h.before;
  after = h.after;
  said = h.said;
  added = h.added;
  steps_are = h.steps_are;
  told_is = h.told_is;
  first = serves_on h.first;
  next = poll_weaker (λ on. has (h.said ++ on)) (λ on. more (h.said ++ on)) (λ on. tasks (h.said ++ on)) h.after h.added h.next;
}
  where
    serves_on : ServesOn A findings h.before h.said → ServesOn B findings h.before h.said
    serves_on (inl none) = inl (none.0, to true none.1)
    serves_on (inr some) = inr (some.0, to false some.1)
does_weaker A B to has more tasks M N miss devices findings (says.Command c) steps told h = h
does_weaker A B to has more tasks M N miss devices findings (says.Next addr) steps told h = h
does_weaker A B to has more tasks M N miss devices findings (says.Do addr) steps told h = h
does_weaker A B to has more tasks M N miss devices findings says.Balance steps told h = h
does_weaker A B to has more tasks M N miss devices findings says.Status steps told h = h
does_weaker A B to has more tasks M N miss devices findings (says.Order id) steps told h = (h.0, (h.1.0, h.1.1, λ unread. miss (h.1.2 unread)))
does_weaker A B to has more tasks M N miss devices findings (says.Stock addr count) steps told h = h
does_weaker A B to has more tasks M N miss devices findings (says.Change first amount) steps told h = h
does_weaker A B to has more tasks M N miss devices findings says.Serve steps told h = h
does_weaker A B to has more tasks M N miss devices findings says.End steps told h = h

known_weaker : (A B : Bool → Type 0) → ((rest : Bool) → A rest → B rest) → (has more : Tasks) →
    ((told : List Told) (addr : ℕ) (what : Task) → has told addr what → more told addr what) → (M N : Type 0) → (M → N) → (known : Bool)
    (devices : List DeviceSetup) (findings : List Finding) (number : ℕ) (said : LiveLine) (steps : List LiveStep)
    (told : List Told) → DoesKnown A has M known devices findings number said steps told →
    DoesKnown B more N known devices findings number said steps told
known_weaker A B to has more tasks M N miss true devices findings number said steps told h = does_weaker A B to has more tasks M N miss devices findings said steps told h
known_weaker A B to has more tasks M N miss false devices findings number said steps told h = h

stating_weaker : (M N : Type 0) → (M → N) → (steps : List LiveStep) (told : List Told) → IsStating M steps told →
    IsStating N steps told
stating_weaker M N miss steps told (none, inl known) = (none, inl known)
stating_weaker M N miss steps told (none, inr unread) = (none, inr (unread.0, miss unread.1))

pub line_weaker : (A B : Bool → Type 0) → ((rest : Bool) → A rest → B rest) → (has more : Tasks) →
    ((told : List Told) (addr : ℕ) (what : Task) → has told addr what → more told addr what) → (M N : Type 0) → (M → N) →
    (devices : List DeviceSetup) (findings : List Finding) (number : ℕ) (said : Said) (steps : List LiveStep)
    (told : List Told) → DoesLine A has M devices findings number said steps told →
    DoesLine B more N devices findings number said steps told
line_weaker A B to has more tasks M N miss devices findings number (Ok (input.Host said)) steps told h =
    known_weaker A B to has more tasks M N miss (is_known devices said) devices findings number said steps told h
line_weaker A B to has more tasks M N miss devices findings number (Ok input.State) steps told h = stating_weaker M N miss steps told h
line_weaker A B to has more tasks M N miss devices findings number (Err why) steps told h = h

-- one thing, and then another one that goes by it
pub then_by : (P : List LiveStep → List Told → Type 0) (Q : List Told → List LiveStep → List Told → Type 0)
    (s1 s2 : List LiveStep) (t1 t2 : List Told) → P s1 t1 → Q t1 s2 t2 → ThenBy P Q (s1 ++ s2) (t1 ++ t2)
then_by P Q s1 s2 t1 t2 h k = record {
  before = s1;
  after = s2;
  said = t1;
  added = t2;
  steps_are = refl;
  told_is = refl;
  first = h;
  next = k;
}

-- lines, where more was missed
pub lines_missed : (knows : Knows) (M N : Type 0) → (M → N) → (setup : Setup) (findings : List Finding) (lines : List Said)
    (steps : List LiveStep) (told : List Told) → DoesLines knows M setup findings lines steps told →
    DoesLines knows N setup findings lines steps told
lines_missed knows M N miss setup findings [] steps told h = h
lines_missed knows M N miss setup findings (said ∷ lines) steps told h = record {
  before = h.before;
  after = h.after;
  said = h.said;
  added = h.added;
  steps_are = h.steps_are;
  told_is = h.told_is;
  first = lines_missed knows M N miss setup findings lines h.before h.said h.first;
  next = line_weaker (λ rest. knows h.said (Rests setup rest)) (λ rest. knows h.said (Rests setup rest)) (λ rest k. k)
      (λ more. tasks_by knows setup (h.said ++ more)) (λ more. tasks_by knows setup (h.said ++ more)) (λ more addr what k. k) M N miss
      setup.devices (findings ++ findings_in h.said) (suc (length lines)) said h.after h.added h.next;
}

-- lines, and the next one, by what is known and was found up to then
pub line_then : (knows : Knows) (Rested : Bool → Type 0) (has : Tasks) (Before Line Missed : Type 0) → (Before → Missed) →
    (Line → Missed) → (setup : Setup) (findings now : List Finding) (lines : List Said) (number : ℕ) (said : Said) →
    suc (length lines) ≡ number → (s1 s2 : List LiveStep) (t1 t2 : List Told) →
    ((rest : Bool) → Rested rest → knows t1 (Rests setup rest)) →
    ((more : List Told) (addr : ℕ) (what : Task) → has more addr what → tasks_by knows setup (t1 ++ more) addr what) →
    DoesLines knows Before setup findings lines s1 t1 →
    now ≡ findings ++ findings_in t1 → DoesLine Rested has Line setup.devices now number said s2 t2 →
    DoesLines knows Missed setup findings (said ∷ lines) (s1 ++ s2) (t1 ++ t2)
line_then knows Rested has Before Line Missed before miss setup findings now lines number said is s1 s2 t1 t2 to tasks h found k =
    then_by (DoesLines knows Missed setup findings lines)
    (λ told. DoesLine (λ rest. knows told (Rests setup rest)) (λ more. tasks_by knows setup (told ++ more)) Missed setup.devices
    (findings ++ findings_in told) (suc (length lines)) said) s1 s2 t1 t2
    (lines_missed knows Before Missed before setup findings lines s1 t1 h)
    (line_weaker Rested (λ rest. knows t1 (Rests setup rest)) to has (λ more. tasks_by knows setup (t1 ++ more)) tasks Line Missed
    miss setup.devices (findings ++ findings_in t1) (suc (length lines)) said s2 t2
    (subst (λ f. DoesLine Rested has Line setup.devices f (suc (length lines)) said s2 t2) found
    (subst (λ n. DoesLine Rested has Line setup.devices now n said s2 t2) (sym is) k)))

-- what is reported first, and then lines
pub opening_then : (knows : Knows) (Missed : Type 0) (setup : Setup) (opening : Notice) (findings : List Finding) (lines : List Said)
    (s1 s2 : List LiveStep) (t1 t2 : List Told) → Tells (notice opening) s1 t1 → DoesLines knows Missed setup findings lines s2 t2 →
    PlaysLines knows Missed setup opening findings lines (s1 ++ s2) (t1 ++ t2)
opening_then knows Missed setup opening findings lines =
    then_one (Tells (notice opening)) (DoesLines knows Missed setup findings lines)

-- that alone
pub opening_alone : (knows : Knows) (Missed : Type 0) (setup : Setup) (opening : Notice) (findings : List Finding) (steps : List LiveStep)
    (told : List Told) → Tells (notice opening) steps told → PlaysLines knows Missed setup opening findings [] steps told
opening_alone knows Missed setup opening findings steps told h = record {
  before = steps;
  after = [];
  said = told;
  added = [];
  steps_are = sym (append-nil steps);
  told_is = sym (append-nil told);
  first = h;
  next = (refl, refl);
}

-- lines, and nothing at the end
pub end_none : (E : Type 0) (knows : Knows) (Missed : Type 0) (setup : Setup) (opening : Notice) (findings : List Finding) (lines : List Said)
    (steps : List LiveStep) (told : List Told) → PlaysLines knows Missed setup opening findings lines steps told →
    ServesLines E knows Missed setup opening findings at_end.Leave lines steps told
end_none E knows Missed setup opening findings lines steps told h = record {
  before = steps;
  after = [];
  said = told;
  added = [];
  steps_are = sym (append-nil steps);
  told_is = sym (append-nil told);
  first = h;
  next = (refl, refl);
}

-- the number of the next line
pub next_number : (many number : ℕ) → suc many ≡ number → suc (suc many) ≡ number + 1
next_number many number is = omega (arith, is)
