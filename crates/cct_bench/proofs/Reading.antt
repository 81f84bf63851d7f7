-- What a whole line is to a script, by its word, its form and what it adds.
use Rattle.std.proofs.Common.{◌≡◌, ℕ, true, false, List, Result, Ok, Err, refl, sym, ap, ◌∙◌, subst}
use Rattle.std.specs.Prelude.{MatchResult, IsTrue, IsErr, IsErrAnd}
use Rattle.cct_model.specs.terms.device.Setup.{Setup}
use Rattle.cct_model.specs.lines.setup.SetupLine.{SetupLine}
use Rattle.cct_model.specs.lines.setup.SetupLine.TheVariants as says
use Rattle.cct_model.specs.lines.command.Step.{Step}
use Rattle.cct_model.specs.lines.entry.LineKind.{LineKind}
use Rattle.cct_model.specs.lines.entry.LineKind.TheVariants as kind
use Rattle.cct_model.specs.Grammar.{setup_line, step_line, added}
use Rattle.cct_model.specs.Script.{is_known, at_setup, at_steps, Read, opens}
use Rattle.cct_model.specs.Script.{plays, refuses, opened, read_known, read_setup_line, read_step_line, read_form}
use Rattle.cct_model.specs.Script.{IsInRange}
use Rattle.cct_model.specs.Legal.{is_played}
use Rattle.cct_model.specs.lines.command.Step.TheVariants as step
use Rattle.cct_bench.specs.declared.opening.Opened.{Opened}
use Rattle.cct_bench.specs.Setup.{stage_of, opened_by}
use Rattle.cct_bench.specs.Playing.{is_end, read_as, CanPlay}
use Rattle.cct_laws.proofs.text.LinesInRange.{IfSaid, IsToday, step_said}
use Rattle.cct_text.proofs.Writing.{passes_up}

-- a setup line is what it says
setup_form : (setup : Setup) (line : List ℕ) → read_form (at_setup setup) line ≡ read_setup_line setup (setup_line line)
unfolding read_form
setup_form setup line = refl

-- a line that is in no form
pub setup_refused : (setup : Setup) (line : List ℕ) (why : LineKind) → setup_line line ≡ Err why →
    read_form (at_setup setup) line ≡ refuses why
setup_refused setup line why e = setup_form setup line ∙ ap (read_setup_line setup) e

-- what is added
added_opens : (setup new : Setup) (said : SetupLine) → added setup said ≡ Ok new
    → read_setup_line setup (Ok said) ≡ opens (stage_of (opened_by said) new)
unfolding added
added_opens setup new (says.Acceptor d) e = ap opened e
added_opens setup new (says.Hopper d) e = ap opened e
added_opens setup new (says.Bills d) e = ap opened e
added_opens setup new (says.Value addr place value id) e = ap opened e
added_opens setup new (says.Named addr texts) e = ap opened e
added_opens setup new says.Begin e = let same : setup ≡ new = cc e in ap (λ s. opens (at_steps s)) same

added_refuses : (setup : Setup) (said : SetupLine) (why : LineKind) → added setup said ≡ Err why
    → read_setup_line setup (Ok said) ≡ refuses why
unfolding added
added_refuses setup (says.Acceptor d) why e = ap opened e
added_refuses setup (says.Hopper d) why e = ap opened e
added_refuses setup (says.Bills d) why e = ap opened e
added_refuses setup (says.Value addr place value id) why e = ap opened e
added_refuses setup (says.Named addr texts) why e = ap opened e
added_refuses setup says.Begin why e = cc e

pub setup_adds : (setup new : Setup) (line : List ℕ) (said : SetupLine) → setup_line line ≡ Ok said
    → added setup said ≡ Ok new → read_form (at_setup setup) line ≡ opens (stage_of (opened_by said) new)
setup_adds setup new line said e adds =
    setup_form setup line ∙ (ap (read_setup_line setup) e ∙ added_opens setup new said adds)

pub setup_adds_not : (setup : Setup) (line : List ℕ) (said : SetupLine) (why : LineKind) → setup_line line ≡ Ok said
    → added setup said ≡ Err why → read_form (at_setup setup) line ≡ refuses why
setup_adds_not setup line said why e not_added =
    setup_form setup line ∙ (ap (read_setup_line setup) e ∙ added_refuses setup said why not_added)

-- a setup line that is refused for what is passed up
pub setup_passes : (setup new : Setup) (line : List ℕ) (r : Result Opened LineKind) (why : LineKind) → IsErr r
    × IsErrAnd r (λ e. e ≡ why) →
    read_form (at_setup setup) line ≡ refuses why →
    MatchResult r (λ opened. read_form (at_setup setup) line ≡ opens (stage_of opened new))
    (λ e. read_form (at_setup setup) line ≡ refuses e)
setup_passes setup new line r why h refused =
    subst (λ x. MatchResult x (λ opened. read_form (at_setup setup) line ≡ opens (stage_of opened new))
    (λ e. read_form (at_setup setup) line ≡ refuses e))
    (sym (passes_up r why h)) refused

-- a step line is what it says
pub step_form : (setup : Setup) (line : List ℕ) (read : Read) → read_step_line setup (step_line line) ≡ read
    → read_form (at_steps setup) line ≡ read
unfolding read_form
step_form setup line read e = e

-- a step whose device is there is played
known_plays : (setup : Setup) (s : Step) → is_known setup s ≡ true → read_known setup s ≡ plays s (at_steps setup)
known_plays setup s known = rw known refl

pub known_reads : (setup : Setup) (s : Step) → is_known setup s ≡ true → read_step_line setup (Ok s) ≡ read_as setup s
known_reads setup step.End known = refl
known_reads setup s known = known_plays setup s known

-- and one whose device isn't is refused
known_refuses : (setup : Setup) (s : Step) → is_known setup s ≡ false → read_known setup s ≡ refuses kind.Device
known_refuses setup s unknown = rw unknown refl

pub unknown_reads : (setup : Setup) (s : Step) → is_known setup s ≡ false
    → read_step_line setup (Ok s) ≡ refuses kind.Device
unknown_reads setup step.End unknown = cc unknown
unknown_reads setup s unknown = known_refuses setup s unknown

pub step_unknown : (setup : Setup) (line : List ℕ) (s : Step) → step_line line ≡ Ok s → is_known setup s ≡ false
    → read_form (at_steps setup) line ≡ refuses kind.Device
step_unknown setup line s says unknown =
    step_form setup line (refuses kind.Device) (ap (read_step_line setup) says ∙ unknown_reads setup s unknown)

-- what a step line says
pub step_reads : (setup : Setup) (line : List ℕ) (s : Step) → step_line line ≡ Ok s → is_known setup s ≡ true
    → read_form (at_steps setup) line ≡ read_as setup s
step_reads setup line s says known =
    step_form setup line (read_as setup s) (ap (read_step_line setup) says ∙ known_reads setup s known)

-- a step that is played and is no end
of_today : (s : Step) → is_end s ≡ false → IsToday s → IsInRange s × IsTrue (is_played s)
of_today (step.Coin addr place) e today = (today, refl)
of_today (step.Alien addr) e today = (tt, refl)
of_today (step.Bill addr place) e today = (today, refl)
of_today (step.Fall addr) e today = (tt, refl)
of_today (step.Jam addr) e today = (tt, refl)
of_today (step.Reset addr) e today = (tt, refl)
of_today (step.Fault f) e today = (today.0, refl)
of_today (step.Next addr) e today = (tt, refl)
of_today (step.Command c) e today = (today.0, refl)
of_today step.Balance e today = (tt, refl)
of_today (step.Stock addr count) e today = (tt, refl)
of_today (step.Change first amount) e today = (today, refl)
of_today step.Serve e today = (tt, refl)
of_today (step.Crash at choice) e today = (today, refl)
of_today step.End e today = cc e

pub step_can : (setup : Setup) (line : List ℕ) (s : Step) → step_line line ≡ Ok s → is_known setup s ≡ true
    → is_end s ≡ false → CanPlay setup s
step_can setup line s says known going =
    let plays = of_today s going (subst (IfSaid IsToday) says (step_said line)) in
    record { in_range = plays.0; known = known; played = plays.1 }
