-- Requests that a program in another language asks.
use Rattle.std.specs.Prelude.{Option, Some, None}
use Rattle.cct_model_wire.specs.declared.request.Request.{Request}
use Rattle.cct_model_wire.specs.declared.request.Request.TheVariants.{CipherDispense, CipherKey}
use Rattle.cct_model_wire.specs.declared.request.Request.TheVariants.{PumpRng}

-- A request whose data bytes aren't under a cipher, or none.
abbrev pub in_clear : Option Request → Option Request
in_clear (Some CipherDispense) = None
in_clear (Some CipherKey) = None
in_clear (Some PumpRng) = None
in_clear asked = asked
