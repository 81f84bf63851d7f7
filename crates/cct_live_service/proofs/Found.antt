-- What was found, read off what is reported.
use Rattle.std.proofs.Common.{◌≡◌, ◌≤◌, ◌∙◌, ℕ, zero, suc, List, [], ◌∷◌, ◌++◌, Bool, true, false, Option, Some, None, refl, sym, ap, subst, append_assoc, length, drop, take, arith}
use Rattle.std.proofs.lemmas.List.{append-nil, map-append}
use Rattle.cct_model.specs.terms.device.DeviceSetup.{DeviceSetup}
use Rattle.cct_model.specs.terms.device.Setup.{Setup}
use Rattle.cct_model.specs.lines.command.Command.{Command}
use Rattle.cct_model.specs.lines.entry.Entry.{Entry}
use Rattle.cct_model.specs.lines.entry.Entry.TheVariants as entry_of
use Rattle.cct_model.specs.lines.entry.LineKind.{LineKind}
use Rattle.cct_laws_live.specs.LiveStep.{LiveStep}
use Rattle.cct_laws_live.specs.LiveStep as live
use Rattle.cct_live_survey.specs.declared.finding.Finding.{Finding}
use Rattle.cct_live_survey.specs.declared.withholding.Withheld.{Withheld}
use Rattle.cct_live_survey.specs.Finding.{withheld_by}
use Rattle.cct_live_service.specs.declared.visit.Task.{Task}
use Rattle.cct_live_service.specs.declared.attempts.Until.{Until}
use Rattle.cct_live_service.specs.declared.notice.Notice.{Notice}
use Rattle.cct_live_service.specs.declared.notice.Notice.TheVariants as notice_of
use Rattle.cct_live_service.specs.Doing.{Decides, DoesCommand, DoesLine, DoesLines, Finds, FrontOf, GoesOn, IsAsking, IsAttempt, IsFound, IsOrder, IsStatus, MakesAttempts, Tells, TellsOne, Times}
use Rattle.cct_live_service.specs.Told.{Told, as_told, attempt_told, entry, falls_short, finding, findings_in, found_told, knows, last, notice, notices_told, operates, pays, refused, told_unsent, unheard, unsent}
use Rattle.cct_live_service.specs.Known.{Knows, Rests, Tasks, tasks_by}
use Rattle.cct_live_service.specs.Said.{Said}
use Rattle.cct_live_service.proofs.Doings.{line_then, tried}

-- what was found among what is reported first and then
pub found_then : (first then : List Told) → findings_in (first ++ then) ≡ findings_in first ++ findings_in then
found_then [] then = refl
found_then (entry e ∷ first) then = found_then first then
found_then (unsent addr sent ∷ first) then = found_then first then
found_then (refused number why ∷ first) then = found_then first then
found_then (notice n ∷ first) then = found_then first then
found_then (finding f ∷ first) then = ap (λ fs. f ∷ fs) (found_then first then)
found_then (last e ∷ first) then = found_then first then
found_then (operates s e ∷ first) then = found_then first then
found_then (pays p answer ∷ first) then = found_then first then
found_then (falls_short p paid rest ∷ first) then = found_then first then
found_then (knows all line ∷ first) then = found_then first then

-- entries and notices report none
found_as : (entries : List Entry) → findings_in (as_told entries) ≡ []
found_as [] = refl
found_as (e ∷ entries) = found_as entries

found_unsent : (e : Entry) (told : List Told) → findings_in (told_unsent e (unheard e) ∷ told) ≡ findings_in told
found_unsent (entry_of.Wire addr sent []) told = refl
found_unsent (entry_of.Wire addr sent (byte ∷ heard)) told = refl
found_unsent e told = refl

found_attempt : (is_sent : Bool) (entries : List Entry) → findings_in (attempt_told is_sent entries) ≡ []
found_attempt true entries = found_as entries
found_attempt false [] = refl
found_attempt false (e ∷ entries) = found_unsent e (as_told entries) ∙ found_as entries

found_notices : (notices : List Notice) → findings_in (notices_told notices) ≡ []
found_notices [] = refl
found_notices (n ∷ notices) = found_notices notices

-- findings report themselves
pub found_found : (findings : List Finding) → findings_in (found_told findings) ≡ findings
found_found [] = refl
found_found (f ∷ findings) = ap (λ fs. f ∷ fs) (found_found findings)

pub attempt_finds : (addr : ℕ) (steps : List LiveStep) (told : List Told) → IsAttempt addr steps told →
    findings_in told ≡ []
attempt_finds addr steps told h =
    let entries = h.1 in
    let notices = h.2.1.0 in
    ap findings_in h.2.1.2 ∙ found_then (attempt_told h.0 entries) (notices_told notices)
    ∙ ap (λ fs. fs ++ findings_in (notices_told notices)) (found_attempt h.0 entries) ∙ found_notices notices

pub one_finds : (s : LiveStep) (steps : List LiveStep) (told : List Told) → TellsOne s steps told → findings_in told ≡ []
one_finds s steps told h = ap findings_in h.1.1

pub times_find : (P : List LiveStep → List Told → Type 0) →
    ((steps : List LiveStep) (told : List Told) → P steps told → findings_in told ≡ []) → (n : ℕ) (steps : List LiveStep)
    (told : List Told) → Times n P steps told → findings_in told ≡ []
times_find P none zero steps told h = ap findings_in h.1
times_find P none (suc n) steps told h =
    ap findings_in h.told_is ∙ found_then h.said h.added
    ∙ ap (λ fs. fs ++ findings_in h.added) (times_find P none n h.before h.said h.first) ∙ none h.after h.added h.next

pub attempts_find : (until : Until) (addr : ℕ) (steps : List LiveStep) (told : List Told) →
    MakesAttempts until addr steps told → findings_in told ≡ []
attempts_find until addr steps told h =
    ap findings_in h.2.told_is ∙ found_then h.2.said h.2.added
    ∙ ap (λ fs. fs ++ findings_in h.2.added)
    (times_find (GoesOn addr) (λ s t k. attempt_finds addr s t k.0) h.0 h.2.before h.2.said h.2.first)
    ∙ attempt_finds addr h.2.after h.2.added (tried until addr h.0 h.2.after h.2.added h.2.next)

pub status_finds : (devices : List DeviceSetup) (steps : List LiveStep) (told : List Told) →
    IsStatus devices steps told → findings_in told ≡ []
status_finds devices steps told h = ap findings_in h.1.2 ∙ found_notices h.1.0

pub order_finds : (M : Type 0) (id : ℕ) (steps : List LiveStep) (told : List Told) → IsOrder M id steps told →
    findings_in told ≡ []
order_finds M id steps told h = ap findings_in h.1.1

pub command_finds : (c : Command) (why : Option Withheld) (steps : List LiveStep) (told : List Told) →
    DoesCommand c why steps told → findings_in told ≡ []
command_finds c None steps told h = one_finds (live.command c) steps told h
command_finds c (Some why) steps told h = ap findings_in h.1

-- where none is reported, what is found stays
pub finds_none : (findings : List Finding) (P : List LiveStep → List Told → Type 0) →
    ((steps : List LiveStep) (told : List Told) → P steps told → findings_in told ≡ []) → (steps : List LiveStep)
    (told : List Told) → P steps told → Finds findings findings P steps told
finds_none findings P none steps told h =
    (h, sym (ap (λ fs. findings ++ fs) (none steps told h) ∙ append-nil findings))

-- what is found first, and then
pub found_on : (a b c : List Finding) (t1 t2 : List Told) → b ≡ a ++ findings_in t1 → c ≡ b ++ findings_in t2 →
    c ≡ a ++ findings_in (t1 ++ t2)
found_on a b c t1 t2 h k =
    k ∙ ap (λ fs. fs ++ findings_in t2) h ∙ append_assoc a (findings_in t1) (findings_in t2)
    ∙ ap (λ fs. a ++ fs) (sym (found_then t1 t2))

pub finds_then : (a b c : List Finding) (P Q R : List LiveStep → List Told → Type 0) →
    ((s1 s2 : List LiveStep) (t1 t2 : List Told) → P s1 t1 → Q s2 t2 → R (s1 ++ s2) (t1 ++ t2)) →
    (s1 s2 : List LiveStep) (t1 t2 : List Told) → Finds a b P s1 t1 → Finds b c Q s2 t2 → Finds a c R (s1 ++ s2) (t1 ++ t2)
finds_then a b c P Q R to s1 s2 t1 t2 h k = (to s1 s2 t1 t2 h.0 k.0, found_on a b c t1 t2 h.1 k.1)

pub finds_weaker : (a b : List Finding) (P Q : List LiveStep → List Told → Type 0) →
    ((steps : List LiveStep) (told : List Told) → P steps told → Q steps told) → (steps : List LiveStep) (told : List Told) →
    Finds a b P steps told → Finds a b Q steps told
finds_weaker a b P Q to steps told h = (to steps told h.0, h.1)

-- no question
pub asking_none : (findings : List Finding) → Finds findings findings IsAsking [] []
asking_none findings = (([], (refl, refl)), sym (append-nil findings))

-- findings that are reported, where they are what is new
pub asking_new : (a b added : List Finding) → b ≡ a ++ added → (steps : List LiveStep) (told : List Told) →
    IsFound added steps told → Finds a b IsAsking steps told
asking_new a b added is steps told h =
    ((added, h), is ∙ ap (λ fs. a ++ fs) (sym (ap findings_in h.1 ∙ found_found added)))

-- a command that is decided after questions
pub decides_then : (a b : List Finding) (c : Command) (s1 s2 : List LiveStep) (t1 t2 : List Told) →
    Finds a b IsAsking s1 t1 → DoesCommand c (withheld_by b c) s2 t2 → Finds a b (Decides a c) (s1 ++ s2) (t1 ++ t2)
decides_then a b c s1 s2 t1 t2 h k = (
  record {
    before = s1;
    after = s2;
    said = t1;
    added = t2;
    steps_are = refl;
    told_is = refl;
    first = h.0;
    next = subst (λ f. DoesCommand c (withheld_by f c) s2 t2) h.1 k;
  },
  found_on a b b t1 t2 h.1
      (sym (ap (λ fs. b ++ fs) (command_finds c (withheld_by b c) s2 t2 k) ∙ append-nil b)),
)

some_command : (c : Command) (why : Option Withheld) →
    (steps : List LiveStep) × (told : List Told) × DoesCommand c why steps told
some_command c None = (live.command c ∷ [], entry entry_of.Words ∷ [], (refl, (entry_of.Words, refl)))
some_command c (Some why) = ([], notice (notice_of.Withheld c why) ∷ [], (refl, refl))

-- one that isn't decided any more
pub decides_broken : (a b : List Finding) (c : Command) (steps : List LiveStep) (told : List Told) →
    Finds a b IsAsking steps told → FrontOf (Finds a b (Decides a c)) steps told
decides_broken a b c steps told h =
    let k = some_command c (withheld_by b c) in
    record { undone = k.0; untold = k.1; whole = decides_then a b c steps k.0 told k.1 h k.2 }

-- findings, and one more
pub found_more : (f : Finding) (findings : List Finding) (s1 s2 : List LiveStep) (t1 t2 : List Told) →
    IsFound findings s1 t1 → Tells (finding f) s2 t2 → IsFound (findings ++ f ∷ []) (s1 ++ s2) (t1 ++ t2)
found_more f findings s1 s2 t1 t2 h k = (
  ap (λ s. s ++ s2) h.0 ∙ k.0,
  ap (λ t. t ++ t2) h.1 ∙ ap (λ t. found_told findings ++ t) k.1 ∙ sym (map-append (λ f. finding f) findings (f ∷ [])),
)

-- the first of some findings
pub found_broken : (first rest : List Finding) (steps : List LiveStep) (told : List Told) → IsFound first steps told →
    FrontOf (IsFound (first ++ rest)) steps told
found_broken first rest steps told h = record {
  undone = [];
  untold = found_told rest;
  whole = (
    append-nil steps ∙ h.0,
    ap (λ t. t ++ found_told rest) h.1 ∙ sym (map-append (λ f. finding f) first rest),
  );
}

none : (m : ℕ) → suc m ≤ 0 → ⊥
none m le = omega (arith, le)

pub take_whole : (n : ℕ) (findings : List Finding) → length findings ≤ n → take n findings ≡ findings
take_whole zero [] h = refl
take_whole zero (f ∷ findings) h = absurd (none (length findings) h)
take_whole (suc n) [] h = refl
take_whole (suc n) (f ∷ findings) h = ap (λ fs. f ∷ fs) (take_whole n findings (less (length findings) h))
  where
    less : (m : ℕ) → suc m ≤ suc n → m ≤ n
    less m le = omega (arith, le)

drop_front : (a b : List Finding) → drop (length a) (a ++ b) ≡ b
drop_front [] b = refl
drop_front (f ∷ a) b = drop_front a b

-- findings that are reported, where they are those after the first so many
pub asking_rest : (a b added : List Finding) (known : ℕ) → b ≡ a ++ added → known ≡ length a → (steps : List LiveStep)
    (told : List Told) → IsFound (drop known b) steps told → Finds a b IsAsking steps told
asking_rest a b added known is len steps told h =
    asking_new a b (drop known b)
    (is ∙ ap (λ fs. a ++ fs)
    (sym (drop_front a added) ∙ sym (ap (λ fs. drop (length a) fs) is) ∙ ap (λ n. drop n b) (sym len)))
    steps told h

-- lines, and the next one, and what is found then
pub lines_then : (learned : Knows) (Rested : Bool → Type 0) (has : Tasks) (Before Line Missed : Type 0) → (Before → Missed) →
    (first between : Setup) → between ≡ first → (a b c : List Finding) (lines : List Said) (number : ℕ) (said : Said) →
    suc (length lines) ≡ number → (s1 s2 : List LiveStep) (t1 t2 : List Told) →
    ((rest : Bool) → Rested rest → learned t1 (Rests first rest)) →
    ((more : List Told) (addr : ℕ) (what : Task) → has more addr what → tasks_by learned first (t1 ++ more) addr what) →
    (Line → Missed) → Finds a b (DoesLines learned Before first a lines) s1 t1 →
    Finds b c (DoesLine Rested has Line between.devices b number said) s2 t2 →
    Finds a c (DoesLines learned Missed first a (said ∷ lines)) (s1 ++ s2) (t1 ++ t2)
lines_then learned Rested has Before Line Missed before first between same a b c lines number said is s1 s2 t1 t2 to tasks miss h k = (
  line_then learned Rested has Before Line Missed before miss first a b lines number said is s1 s2 t1 t2 to tasks h.0 h.1
      (subst (λ setup. DoesLine Rested has Line setup.devices b number said s2 t2) same k.0),
  found_on a b c t1 t2 h.1 k.1,
)

pub tells_finds : (n : ℕ) (why : LineKind) (steps : List LiveStep) (told : List Told) → Tells (refused n why) steps told →
    findings_in told ≡ []
tells_finds n why steps told h = ap findings_in h.1

pub lines_none : (learned : Knows) (Missed : Type 0) (setup : Setup) (findings : List Finding) →
    Finds findings findings (DoesLines learned Missed setup findings []) [] []
lines_none learned Missed setup findings = ((refl, refl), sym (append-nil findings))
