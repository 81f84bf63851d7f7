-- What every script says is in range: its setup and its steps.
use Rattle.std.proofs.Common.{◌≡◌, ℕ, ◌+◌, nat_lt, Bool, true, false, cond, List, [], ◌∷◌, ◌++◌, length, refl, sym, subst, Result, Ok, Err, All, append-nil}
use Rattle.std.specs.Prelude.{⊤}
use Rattle.std.specs.List.{AllByRecursion, slice_split}
use Rattle.std.proofs.lemmas.List.Elements.{All-from_recursion, All-weaker, All-nil}
use Rattle.cct_model.specs.terms.device.Setup.{Setup}
use Rattle.cct_model.specs.lines.setup.SetupLine.{SetupLine}
use Rattle.cct_model.specs.lines.setup.SetupLine.TheVariants as says
use Rattle.cct_model.specs.lines.command.Step.{Step}
use Rattle.cct_model.specs.lines.command.Step.TheVariants as step
use Rattle.cct_model.specs.lines.entry.Entry.{Entry}
use Rattle.cct_model.specs.lines.entry.LineKind.{LineKind}
use Rattle.cct_model.specs.lines.entry.LineKind.TheVariants as kind
use Rattle.cct_model.specs.Device.{IsSound}
use Rattle.cct_model.specs.Grammar.{setup_line, step_line, added}
use Rattle.cct_model.specs.AtDesk.{LegalAtDesk}
use Rattle.cct_model.specs.Legal.{Legal, is_played}
use Rattle.cct_model.specs.Script.{Stage, at_setup, at_steps, at_end, setup_at, Read, opens, plays, refuses, opened, read_setup_line, read_step_line, read_form, most_lines, most_bytes, is_over, read_line, Script, stage_after, goes_on, script_from, no_devices, script, is_line_feed, IsInRange}
use Rattle.cct_model.proofs.Added.{AreAll, KeepsEach, added_keeps}
use Rattle.cct_model.specs.Text.{text}
use Rattle.cct_text.proofs.Whole.{text_is_one}
use Rattle.cct_model.specs.Setup.{IsSoundSetup}
use Rattle.cct_laws.specs.Law.{HasBytes, AreOfToday}
use Rattle.cct_laws.specs.Right.{IsRight}
use Rattle.cct_laws.specs.Scope.{EachTranscript}
use Rattle.cct_laws.proofs.steps.AtTheDesk.{legal_at_desk}
use Rattle.cct_laws.proofs.acceptor.Coinless.{each_in_order, each_covers, each_tallies}
use Rattle.cct_laws.proofs.wire.HonestAsReported.{legal_as_told}
use Rattle.cct_laws.proofs.orders.Payments.{legal_paid, legal_fresh}
use Rattle.cct_laws.proofs.text.LinesInRange.{KeepsSound, IfSaid, IsToday, setup_said, step_said}
use Rattle.cct_laws.proofs.text.Texts.{legal_written}

-- a step that a script can have
abbrev IsPlain : Step → Type 0
IsPlain s = IsInRange s × (is_played s ≡ true) × HasBytes s

-- a line keeps the setup, and plays a step that a script can have
abbrev IsRead : Read → Type 0
IsRead (opens next) = AreAll IsSound (setup_at next)
IsRead (plays s next) = IsPlain s × AreAll IsSound (setup_at next)
IsRead (refuses why) = ⊤

-- what the lines from a stage on say
pub record IsAllSaid (said : Script) : Type 0 where
  pub fits : AreAll IsSound said.setup
  pub plain : AllByRecursion IsPlain said.steps

-- a setup line
opened_read : (setup : Setup) (line : SetupLine) (r : Result Setup LineKind) → added setup line ≡ r → KeepsEach IsSound line → AreAll IsSound setup → IsRead (opened r)
opened_read setup line (Ok new) was keeps all = added_keeps IsSound setup new line keeps all was
opened_read setup line (Err why) was keeps all = tt

setup_read : (setup : Setup) (r : Result SetupLine LineKind) → IfSaid KeepsSound r → AreAll IsSound setup → IsRead (read_setup_line setup r)
setup_read setup (Err why) fit all = tt
setup_read setup (Ok says.Begin) fit all = all
setup_read setup (Ok (says.Acceptor d)) fit all = opened_read setup (says.Acceptor d) _ refl fit all
setup_read setup (Ok (says.Hopper d)) fit all = opened_read setup (says.Hopper d) _ refl fit all
setup_read setup (Ok (says.Bills d)) fit all = opened_read setup (says.Bills d) _ refl fit all
setup_read setup (Ok (says.Value addr place value id)) fit all = opened_read setup (says.Value addr place value id) _ refl fit all
setup_read setup (Ok (says.Named addr texts)) fit all = opened_read setup (says.Named addr texts) _ refl fit all

-- a step line
known_read : (known : Bool) (setup : Setup) (s : Step) → AreAll IsSound setup → IsPlain s → IsRead (cond known (plays s (at_steps setup)) (refuses kind.Device))
known_read true setup s all plain = (plain, all)
known_read false setup s all plain = tt

step_read : (setup : Setup) (r : Result Step LineKind) → IfSaid IsToday r → AreAll IsSound setup → IsRead (read_step_line setup r)
step_read setup (Err why) today all = tt
step_read setup (Ok step.End) today all = all
step_read setup (Ok (step.Coin addr place)) today all = known_read _ setup (step.Coin addr place) all (today, refl, tt)
step_read setup (Ok (step.Alien addr)) today all = known_read _ setup (step.Alien addr) all (tt, refl, tt)
step_read setup (Ok (step.Bill addr place)) today all = known_read _ setup (step.Bill addr place) all (today, refl, tt)
step_read setup (Ok (step.Fall addr)) today all = known_read _ setup (step.Fall addr) all (tt, refl, tt)
step_read setup (Ok (step.Jam addr)) today all = known_read _ setup (step.Jam addr) all (tt, refl, tt)
step_read setup (Ok (step.Reset addr)) today all = known_read _ setup (step.Reset addr) all (tt, refl, tt)
step_read setup (Ok (step.Next addr)) today all = known_read true setup (step.Next addr) all (tt, refl, today)
step_read setup (Ok (step.Fault f)) today all = known_read true setup (step.Fault f) all (today.0, refl, today.1)
step_read setup (Ok (step.Command c)) today all = known_read true setup (step.Command c) all (today.0, refl, today.1)
step_read setup (Ok (step.Crash at choice)) today all =
    known_read true setup (step.Crash at choice) all (today, refl, tt)
step_read setup (Ok step.Balance) today all = known_read true setup step.Balance all (tt, refl, tt)
step_read setup (Ok (step.Stock addr count)) today all = known_read _ setup (step.Stock addr count) all (tt, refl, tt)
step_read setup (Ok (step.Change first amount)) today all =
    known_read true setup (step.Change first amount) all (today, refl, tt)
step_read setup (Ok step.Serve) today all = known_read true setup step.Serve all (tt, refl, tt)

-- a line
form_read : (stage : Stage) (line : List ℕ) → AreAll IsSound (setup_at stage) → IsRead (read_form stage line)
unfolding read_form
form_read (at_setup setup) line all = setup_read setup (setup_line line) (setup_said line) all
form_read (at_steps setup) line all = step_read setup (step_line line) (step_said line) all
form_read (at_end setup) line all = tt

refused_if : (b : Bool) (why : LineKind) (r : Read) → IsRead r → IsRead (cond b (refuses why) r)
refused_if true why r known = tt
refused_if false why r known = known

line_read : (number : ℕ) (stage : Stage) (line : List ℕ) → AreAll IsSound (setup_at stage) → IsRead (read_line number stage line)
line_read number stage line all =
    refused_if (is_over stage) kind.Trailing _
    (refused_if (nat_lt most_lines number) kind.Lines _ (refused_if (nat_lt most_bytes (length line)) kind.Long _ (form_read stage line all)))

-- the setup after it
after_fits : (stage : Stage) (r : Read) → IsRead r → AreAll IsSound (setup_at stage) → AreAll IsSound (setup_at (stage_after stage r))
after_fits stage (opens next) known all = known
after_fits stage (plays s next) known all = known.1
after_fits stage (refuses why) known all = all

-- a line, and what the lines after it say
said_on : (number : ℕ) (stage : Stage) (r : Read) (rest : Script) → IsRead r → AreAll IsSound (setup_at stage) → IsAllSaid rest → IsAllSaid (goes_on number stage r rest)
said_on number stage (opens next) rest known all said = said
said_on number stage (plays s next) rest known all said = record { fits = said.fits; plain = (known.0, said.plain) }
said_on number stage (refuses why) rest known all said = record { fits = all; plain = tt }

said_from : (number : ℕ) (stage : Stage) (parts : List (List ℕ)) → AreAll IsSound (setup_at stage) → IsAllSaid (script_from number stage parts)
said_from number stage [] all = record { fits = all; plain = tt }
said_from number stage (rest ∷ []) all = record { fits = all; plain = tt }
said_from number stage (line ∷ next ∷ parts) all =
    let r = read_line number stage line in
    let known : IsRead r = line_read number stage line all in
    said_on number stage r _ known all (said_from (number + 1) (stage_after stage r) (next ∷ parts) (after_fits stage r known all))

-- what bytes say
said : (bytes : List ℕ) → IsAllSaid (script bytes)
unfolding script
said bytes = said_from 1 (at_setup no_devices) (slice_split is_line_feed bytes) (record { each = All-nil IsSound; distinct = tt })

-- a front of the steps
front_plain : (played rest : List Step) → AllByRecursion IsPlain (played ++ rest) → AllByRecursion IsPlain played
front_plain [] rest all = tt
front_plain (s ∷ played) rest all = (all.0, front_plain played rest all.1)

-- the setup of a script
pub setup_sound : (bytes : List ℕ) → IsSoundSetup (script bytes).setup
setup_sound bytes = let all = (said bytes).fits in record { devices = all.each; distinct = all.distinct }

-- a front of the steps of a script
pub front_of_today : (bytes : List ℕ) (played rest : List Step) → (script bytes).steps ≡ played ++ rest → AreOfToday played
front_of_today bytes played rest fronts =
    let plain : All IsPlain played = All-from_recursion IsPlain played (front_plain played rest (subst (AllByRecursion IsPlain) fronts (said bytes).plain)) in
    record {
      in_range = All-weaker IsPlain IsInRange (λ s is. is.0) played plain;
      played = All-weaker IsPlain (λ s. is_played s ≡ true) (λ s is. is.1) played plain;
      bytes = All-weaker IsPlain HasBytes (λ s is. is.2) played plain;
    }

-- and all of them
pub steps_of_today : (bytes : List ℕ) → AreOfToday (script bytes).steps
steps_of_today bytes = front_of_today bytes (script bytes).steps [] (sym (append-nil (script bytes).steps))

-- the money of a legal transcript is right
pub legal_right : EachTranscript (λ capacity setup transcript. IsRight setup transcript)
legal_right capacity setup steps transcript sound in_range legal = record {
  fresh = legal_fresh capacity setup steps transcript sound legal;
  in_order = λ d own honest. each_in_order capacity setup steps transcript d sound own in_range legal honest;
  covers = λ d own honest. each_covers capacity setup steps transcript d sound own in_range legal honest;
  tallies = λ d own honest. each_tallies capacity setup steps transcript d sound own in_range legal honest;
  paid = λ d own paying honest. legal_paid capacity setup steps transcript d sound own paying in_range legal honest;
  as_told = legal_as_told capacity setup steps transcript legal;
}

-- what a script played at the operator's desk up to a step is legal
pub front_legal : (capacity : ℕ) (bytes : List ℕ) (played rest : List Step) (transcript : List Entry) →
    (script bytes).steps ≡ played ++ rest → LegalAtDesk capacity (script bytes).setup played transcript →
    Legal capacity (script bytes).setup played transcript
front_legal capacity bytes played rest transcript fronts legal =
    legal_at_desk capacity (script bytes).setup played transcript (setup_sound bytes)
    (front_of_today bytes played rest fronts).in_range legal

-- so is that of a script that was played up to a step
pub played_right : (capacity : ℕ) (bytes : List ℕ) (played rest : List Step) (transcript : List Entry) →
    (script bytes).steps ≡ played ++ rest → Legal capacity (script bytes).setup played transcript →
    IsRight (script bytes).setup transcript
played_right capacity bytes played rest transcript fronts legal =
    legal_right capacity (script bytes).setup played transcript (setup_sound bytes)
    (front_of_today bytes played rest fronts).in_range legal

-- the texts of two scripts that were played up to a step show their transcripts, whatever the
-- journals take
pub played_texts : (capacity room : ℕ) (bytes other : List ℕ) (played rest others more : List Step)
    (first second : List Entry) → (script bytes).steps ≡ played ++ rest → (script other).steps ≡ others ++ more →
    Legal capacity (script bytes).setup played first → Legal room (script other).setup others second →
    text first ≡ text second → first ≡ second
played_texts capacity room bytes other played rest others more first second fronts other_fronts legal other_legal same =
    let steps = front_of_today bytes played rest fronts in
    let other_steps = front_of_today other others more other_fronts in
    text_is_one first second
    (legal_written capacity (script bytes).setup played first (setup_sound bytes) steps.in_range steps.bytes
    legal)
    (legal_written room (script other).setup others second (setup_sound other) other_steps.in_range
    other_steps.bytes other_legal) same
