-- What a whole line is to a script that is proofread, by its word, its form and what it adds.
use Rattle.std.proofs.Common.{◌≡◌, ◌∙◌, ℕ, true, false, List, Ok, Err, refl, ap}
use Rattle.cct_model_lines.specs.terms.device.Setup.{Setup}
use Rattle.cct_model_lines.specs.declared.setup.SetupLine.{SetupLine}
use Rattle.cct_model_lines.specs.declared.setup.SetupLine.TheVariants as says
use Rattle.cct_model_lines.specs.declared.command.Step.{Step}
use Rattle.cct_model_lines.specs.declared.command.Step.TheVariants as step
use Rattle.cct_model_lines.specs.declared.entry.LineKind.{LineKind}
use Rattle.cct_model_lines.specs.declared.entry.LineKind.TheVariants as kind
use Rattle.cct_model_lines.specs.Grammar.{added, setup_line, step_line}
use Rattle.cct_model_lines.specs.Script.{at_setup, at_steps, is_known, opened, read_known, read_setup_line, read_step_line}
use Rattle.cct_model_lines.specs.Script.{read_form}
use Rattle.cct_script_check.specs.Parts.{looked_behind, mark_as, part_after, stage_of}
use Rattle.cct_script_check.specs.Proof.{goes, left_out, mark_form, mark_of}

setup_form : (setup : Setup) (line : List ℕ)
    → mark_form (at_setup setup) line ≡ mark_of (read_setup_line setup (setup_line line))
unfolding read_form
setup_form setup line = refl

step_form : (setup : Setup) (line : List ℕ)
    → mark_form (at_steps setup) line ≡ mark_of (read_step_line setup (step_line line))
unfolding read_form
step_form setup line = refl

-- a setup line that is in no form
pub setup_refused : (setup : Setup) (line : List ℕ) (why : LineKind) → setup_line line ≡ Err why
    → mark_form (at_setup setup) line ≡ left_out why
setup_refused setup line why is = setup_form setup line ∙ ap (λ said. mark_of (read_setup_line setup said)) is

added_goes : (setup new : Setup) (said : SetupLine) → added setup said ≡ Ok new
    → mark_of (read_setup_line setup (Ok said)) ≡ goes (stage_of (part_after said) new)
unfolding added
added_goes setup new (says.Acceptor d) is = ap (λ r. mark_of (opened r)) is
added_goes setup new (says.Hopper d) is = ap (λ r. mark_of (opened r)) is
added_goes setup new (says.Bills d) is = ap (λ r. mark_of (opened r)) is
added_goes setup new (says.Value addr place value id) is = ap (λ r. mark_of (opened r)) is
added_goes setup new (says.Named addr texts) is = ap (λ r. mark_of (opened r)) is
added_goes setup new says.Begin is = let same : setup ≡ new = cc is in ap (λ s. goes (at_steps s)) same

added_not : (setup : Setup) (said : SetupLine) (why : LineKind) → added setup said ≡ Err why
    → mark_of (read_setup_line setup (Ok said)) ≡ left_out why
unfolding added
added_not setup (says.Acceptor d) why is = ap (λ r. mark_of (opened r)) is
added_not setup (says.Hopper d) why is = ap (λ r. mark_of (opened r)) is
added_not setup (says.Bills d) why is = ap (λ r. mark_of (opened r)) is
added_not setup (says.Value addr place value id) why is = ap (λ r. mark_of (opened r)) is
added_not setup (says.Named addr texts) why is = ap (λ r. mark_of (opened r)) is
added_not setup says.Begin why is = cc is

-- one that adds to the setup
pub setup_adds : (setup new : Setup) (line : List ℕ) (said : SetupLine) → setup_line line ≡ Ok said
    → added setup said ≡ Ok new → mark_form (at_setup setup) line ≡ goes (stage_of (part_after said) new)
setup_adds setup new line said is adds =
    setup_form setup line ∙ (ap (λ r. mark_of (read_setup_line setup r)) is ∙ added_goes setup new said adds)

-- one that can't
pub setup_adds_not : (setup : Setup) (line : List ℕ) (said : SetupLine) (why : LineKind) → setup_line line ≡ Ok said
    → added setup said ≡ Err why → mark_form (at_setup setup) line ≡ left_out why
setup_adds_not setup line said why is adds =
    setup_form setup line ∙ (ap (λ r. mark_of (read_setup_line setup r)) is ∙ added_not setup said why adds)

-- a step line that is in no form
pub step_refused : (setup : Setup) (line : List ℕ) (why : LineKind) → step_line line ≡ Err why
    → mark_form (at_steps setup) line ≡ left_out why
step_refused setup line why is = step_form setup line ∙ ap (λ said. mark_of (read_step_line setup said)) is

-- a step whose device isn't there
stranger_marks : (setup : Setup) (s : Step) → is_known setup s ≡ false
    → mark_of (read_known setup s) ≡ left_out kind.Device
stranger_marks setup s unknown = rw unknown refl

unknown_marks : (setup : Setup) (s : Step) → is_known setup s ≡ false
    → mark_of (read_step_line setup (Ok s)) ≡ left_out kind.Device
unknown_marks setup step.End unknown = cc unknown
unknown_marks setup s unknown = stranger_marks setup s unknown

pub step_unknown : (setup : Setup) (line : List ℕ) (s : Step) → step_line line ≡ Ok s → is_known setup s ≡ false
    → mark_form (at_steps setup) line ≡ left_out kind.Device
step_unknown setup line s is unknown =
    step_form setup line ∙ (ap (λ r. mark_of (read_step_line setup r)) is ∙ unknown_marks setup s unknown)

-- a step whose device is there
played_marks : (setup : Setup) (s : Step) → is_known setup s ≡ true → mark_of (read_known setup s) ≡ goes (at_steps setup)
played_marks setup s known = rw known refl

known_marks : (setup : Setup) (s : Step) → is_known setup s ≡ true
    → mark_of (read_step_line setup (Ok s)) ≡ mark_as (looked_behind s) setup
known_marks setup step.End known = refl
known_marks setup s known = played_marks setup s known

pub step_goes : (setup : Setup) (line : List ℕ) (s : Step) → step_line line ≡ Ok s → is_known setup s ≡ true
    → mark_form (at_steps setup) line ≡ mark_as (looked_behind s) setup
step_goes setup line s is known =
    step_form setup line ∙ (ap (λ r. mark_of (read_step_line setup r)) is ∙ known_marks setup s known)
