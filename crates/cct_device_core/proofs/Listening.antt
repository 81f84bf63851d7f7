-- Bytes of a message for another device ask nothing of a device, whatever their check.
use Rattle.std.proofs.Common.{◌≡◌, ℕ, ◌+◌, ◌*◌, ◌%◌, ◌==◌, ◌&&◌, ◌||◌, Bool, true, false, cond, not, List, [], ◌∷◌, refl, sym, ◌∙◌, Option, Some, None, option_and_then, sum, take, slice_index}
use Rattle.cct_model_wire.specs.declared.wire.TheConstants.{BROADCAST}
use Rattle.cct_model_wire.specs.declared.wire.CheckKind.{CheckKind}
use Rattle.cct_model_wire.specs.declared.wire.CheckKind.TheVariants.{Simple, Crc}
use Rattle.cct_model_wire.specs.declared.device.DeviceSetup.{DeviceSetup}
use Rattle.cct_model_wire.specs.declared.request.Request.{Request}
use Rattle.cct_model_wire.specs.Exchange.{asked_of, asks_of, to_all, to_one}
use Rattle.cct_model_wire.specs.Message.{Message, message, length_agrees, crc}
use Rattle.cct_model_wire.specs.Request.{request_of}
use Rattle.cct_device_core.specs.declared.hearing.Listener.{Listener}
use Rattle.cct_device_core.specs.Listening.{HeardSince, is_elsewhere, is_for}

-- a message for another asks nothing
asks_other : (addr : ℕ) (m : Message) → not (is_for addr m.to) ≡ true → asked_of addr m ≡ None
asks_other addr m other = by_tests (m.to == addr) (m.to == BROADCAST) (request_of m.header m.body) other
  where
    by_tests : (own all : Bool) (request : Option Request) → not (own || all) ≡ true →
        cond own (to_one request) (cond all (to_all request) None) ≡ None
    by_tests true all request other = absurd cc
    by_tests false true request other = absurd cc
    by_tests false false request other = refl

if_whole : (addr : ℕ) (whole : Bool) (m : Message) → not (is_for addr m.to) ≡ true →
    option_and_then (asked_of addr) (cond whole (Some m) None) ≡ None
if_whole addr true m other = asks_other addr m other
if_whole addr false m other = refl

by_kind : (addr : ℕ) (kind : CheckKind) (bytes : List ℕ) → is_elsewhere addr bytes ≡ true →
    option_and_then (asked_of addr) (message kind bytes) ≡ None
unfolding message
by_kind addr Simple [] other = refl
by_kind addr Simple (to ∷ []) other = refl
by_kind addr Simple (to ∷ said ∷ []) other = refl
by_kind addr Simple (to ∷ said ∷ from ∷ []) other = refl
by_kind addr Simple (to ∷ said ∷ from ∷ header ∷ rest) other =
    if_whole addr (length_agrees said rest && (sum (to ∷ said ∷ from ∷ header ∷ rest) % 256 == 0))
    (record { to = to; from = Some from; header = header; body = take said rest }) other
by_kind addr Crc [] other = refl
by_kind addr Crc (to ∷ []) other = refl
by_kind addr Crc (to ∷ said ∷ []) other = refl
by_kind addr Crc (to ∷ said ∷ low ∷ []) other = refl
by_kind addr Crc (to ∷ said ∷ low ∷ header ∷ rest) other =
    if_whole addr
    (length_agrees said rest && (crc (to ∷ said ∷ header ∷ take said rest) == low + 256 * slice_index rest said))
    (record { to = to; from = None; header = header; body = take said rest }) other

pub asks_nothing : (d : DeviceSetup) (bytes : List ℕ) (listener : Listener) → HeardSince listener d.addr bytes → listener.elsewhere ≡ true → asks_of d bytes ≡ None
unfolding asks_of
asks_nothing d bytes listener heard other = by_kind d.addr d.kind bytes (sym heard.elsewhere ∙ other)
