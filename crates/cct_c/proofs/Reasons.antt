-- What a call answers to what follows an echo.
use Rattle.std.proofs.Common.{◌≡◌, ℕ, List, [], ◌∷◌, Option, Some, None, option_and_then, refl}
use Rattle.cct_model_wire.specs.declared.request.ReplyForm.{ReplyForm}
use Rattle.cct_model_wire.specs.declared.wire.CheckKind.{CheckKind}
use Rattle.cct_model_wire.specs.declared.wire.CheckKind.TheVariants.{Simple, Crc}
use Rattle.cct_model_wire.specs.Message.{Message, message}
use Rattle.cct_frame.specs.declared.reading.FrameFault.{FrameFault}
use Rattle.cct_wire.specs.Heard.{fault_in_rest}
use Rattle.cct_msg.specs.Wanted.{reason_in}
use Rattle.cct_c.specs.Codes.{fault_code}
use Rattle.cct_c.specs.Told.{reason_answer, rest_answer}

-- bytes that are no message are refused by what is wrong first
pub broken_answer : (kind : CheckKind) (form : ReplyForm) (addr : ℕ) (o : Option (List ℕ)) (fault : FrameFault)
    → option_and_then (message kind) o ≡ None → option_and_then (fault_in_rest kind) o ≡ Some fault
    → rest_answer kind form addr o ≡ fault_code fault
broken_answer kind form addr None fault none first = absurd cc
broken_answer kind form addr (Some []) fault none first = absurd cc
broken_answer kind form addr (Some (byte ∷ rest)) fault none first = rw (none, first) refl

no_message : (kind : CheckKind) (m : Message) → message kind [] ≡ Some m → ⊥
unfolding message
no_message Simple m e = absurd cc
no_message Crc m e = absurd cc

-- a message is refused by why it isn't the wanted reply
pub message_answer : (kind : CheckKind) (form : ReplyForm) (addr : ℕ) (o : Option (List ℕ)) (m : Message)
    → option_and_then (message kind) o ≡ Some m → rest_answer kind form addr o ≡ reason_answer (reason_in form addr m)
message_answer kind form addr None m e = absurd cc
message_answer kind form addr (Some []) m e = absurd (no_message kind m e)
message_answer kind form addr (Some (byte ∷ rest)) m e = rw e refl
