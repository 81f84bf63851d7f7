-- A setup line keeps a setup sound.
use Rattle.std.proofs.Common.{◌≡◌, subst, sym, Result, Ok, Err}
use Rattle.cct_model_lines.specs.terms.device.Setup.{Setup}
use Rattle.cct_model_lines.specs.declared.setup.SetupLine.{SetupLine}
use Rattle.cct_model_lines.specs.declared.setup.SetupLine.TheVariants as says
use Rattle.cct_model_lines.specs.declared.entry.LineKind.{LineKind}
use Rattle.cct_model_lines.specs.Device.{IsSound}
use Rattle.cct_model_lines.specs.Setup.{IsSoundSetup}
use Rattle.cct_model_lines.specs.SetupLine.{IsSetupLine}
use Rattle.cct_model_lines.specs.Grammar.{added}
use Rattle.cct_script.specs.Changing.{Changes}
use Rattle.cct_model_lines.proofs.Added.{AreAll, KeepsEach, added_keeps}
use Rattle.cct_model_lines.proofs.Sound.{named_sound, valued_sound}

-- a setup line in range keeps each device sound
keeps_sound : (line : SetupLine) → IsSetupLine line → KeepsEach IsSound line
keeps_sound (says.Acceptor d) wanted = wanted.0
keeps_sound (says.Hopper d) wanted = wanted.0
keeps_sound (says.Bills d) wanted = wanted.0
keeps_sound (says.Value addr place value id) wanted =
    λ d e sound was. valued_sound d e place value id d.body wanted.4 wanted.5 sound sound.body was
keeps_sound (says.Named addr texts) wanted =
    λ d e sound was. named_sound d e texts wanted.1 wanted.2 wanted.3 wanted.4 sound was
keeps_sound says.Begin wanted = tt

added_sound : (setup new : Setup) (line : SetupLine) → IsSetupLine line → IsSoundSetup setup →
    added setup line ≡ Ok new → IsSoundSetup new
added_sound setup new line wanted sound was =
    let all : AreAll IsSound setup = record { each = sound.devices; distinct = sound.distinct } in
    let more = added_keeps IsSound setup new line (keeps_sound line wanted) all was in
    record { devices = more.each; distinct = more.distinct }

-- what adding a line leaves is sound, whether it was added or not
pub kept_sound : (setup new : Setup) (line : SetupLine) (r : Result Unit LineKind) → IsSetupLine line →
    Changes setup new (added setup line) r → IsSoundSetup setup → IsSoundSetup new
kept_sound setup new line (Ok done) wanted h sound = added_sound setup new line wanted sound h
kept_sound setup new line (Err why) wanted h sound = subst IsSoundSetup (sym h.1) sound
