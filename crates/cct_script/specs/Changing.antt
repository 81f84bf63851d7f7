-- What adding a setup line makes of a setup.
use Rattle.std.specs.Prelude.{◌≡◌, Result, Ok, Err, MatchResult}
use Rattle.cct_model_lines.specs.terms.device.Setup.{Setup}
use Rattle.cct_model_lines.specs.declared.entry.LineKind.{LineKind}

-- It is the setup that is wanted, or unchanged for the reason why none is.
abbrev pub Changes : Setup → Setup → Result Setup LineKind → Result (Unit {0}) LineKind → Type 0
Changes old new wanted result =
    MatchResult result (λ done. wanted ≡ Ok new) (λ why. (wanted ≡ Err why) × (new ≡ old))
