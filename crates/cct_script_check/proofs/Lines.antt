-- A script that is proofread, by its lines.
use Rattle.std.proofs.Common.{◌≡◌, false, refl}
use Rattle.cct_model_lines.specs.terms.device.Setup.{Setup}
use Rattle.cct_model_lines.specs.Script.{is_over}
use Rattle.cct_script.proofs.Continuing.{Lawful}
use Rattle.cct_script_check.specs.Parts.{stage_of}
use Rattle.cct_script_check.specs.Proof.{mark_form, of_proof}
use Rattle.cct_script_check.specs.declared.taking.Part.{Part}
use Rattle.cct_script_check.specs.declared.taking.Part.TheVariants as part

abbrev pub by_proof : Lawful of_proof
by_proof = record {
  form = mark_form;
  refused = λ number stage why rest. refl;
  last = λ number stage part. refl;
  whole = λ number stage line next parts. refl;
}

-- a part wants more lines
pub part_going : (part : Part) (setup : Setup) → is_over (stage_of part setup) ≡ false
part_going part.Setup setup = refl
part_going part.Steps setup = refl
