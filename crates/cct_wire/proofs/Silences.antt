-- Silence after an echo.
use Rattle.std.proofs.Common.{◌≡◌, ℕ, List, [], Some, None, refl, ap, ◌∙◌}
use Rattle.std.specs.Prelude.{option_and_then}
use Rattle.cct_model_wire.specs.declared.wire.CheckKind.{CheckKind}
use Rattle.cct_model_wire.specs.declared.wire.CheckKind.TheVariants.{Simple, Crc}
use Rattle.cct_model_wire.specs.Message.{message}
use Rattle.cct_model_wire.specs.Exchange.{after_echo}
use Rattle.cct_wire.specs.Heard.{message_after}

no_byte : (kind : CheckKind) → message kind [] ≡ None
unfolding message
no_byte Simple = refl
no_byte Crc = refl

-- silence is no message
pub silent : (kind : CheckKind) (sent heard : List ℕ) → after_echo sent heard ≡ Some [] → message_after kind sent heard ≡ None
silent kind sent heard e = ap (option_and_then (message kind)) e ∙ no_byte kind
