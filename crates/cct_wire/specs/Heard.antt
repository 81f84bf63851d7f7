-- What the host hears in one exchange: its own echo, and what follows it.
use Rattle.std.specs.Prelude.{◌≡◌, ⊤, ℕ, List, [], ◌∷◌, Option, Some, None, option_and_then}
use Rattle.cct_model_wire.specs.declared.wire.CheckKind.{CheckKind}
use Rattle.cct_model_wire.specs.Message.{Message, message}
use Rattle.cct_model_wire.specs.Exchange.{after_echo}
use Rattle.cct_frame.specs.declared.reading.FrameFault.{FrameFault}
use Rattle.cct_frame.specs.Frame.{message_of, fault_in}
use Rattle.cct_wire.specs.declared.hearing.Heard.{Heard}
use Rattle.cct_wire.specs.declared.hearing.Heard.TheVariants as answer
use Rattle.cct_wire.specs.Echo.{echo_place}

-- The first thing that is wrong with what follows an echo, or none: where no byte follows, there is
-- nothing to be wrong.
abbrev pub fault_in_rest : CheckKind → List ℕ → Option FrameFault
fault_in_rest kind [] = None
fault_in_rest kind (byte ∷ rest) = fault_in kind (byte ∷ rest)

-- The message that follows the whole echo of what was sent, or none.
abbrev pub message_after : CheckKind → List ℕ → List ℕ → Option Message
message_after kind sent heard = option_and_then (message kind) (after_echo sent heard)

-- What is wrong with what follows the whole echo of what was sent, or none.
abbrev pub fault_after : CheckKind → List ℕ → List ℕ → Option FrameFault
fault_after kind sent heard = option_and_then (fault_in_rest kind) (after_echo sent heard)

-- The message that was heard, or none.
abbrev pub message_in : Heard → Option Message
message_in (answer.Message view) = Some (message_of view)
message_in (answer.EchoBad at) = None
message_in answer.Silence = None
message_in (answer.Broken fault) = None

-- What each answer says of the bytes sent and heard: the echo is damaged, first at this place; the
-- echo is whole and no byte follows; what follows is no message, for this reason first; what
-- follows is this message.
abbrev pub Tells : CheckKind → List ℕ → List ℕ → Heard → Type 0
Tells kind sent heard (answer.EchoBad at) =
    (after_echo sent heard ≡ None) × (at ≡ echo_place sent heard)
Tells kind sent heard answer.Silence = after_echo sent heard ≡ Some []
Tells kind sent heard (answer.Broken fault) =
    (message_after kind sent heard ≡ None) × (fault_after kind sent heard ≡ Some fault)
Tells kind sent heard (answer.Message view) = message_after kind sent heard ≡ Some (message_of view)

-- The data bytes of a message that was heard lie at this place of memory.
abbrev pub BodyLiesAt : ℕ × ℕ → Heard → Type 0
BodyLiesAt place (answer.Message view) = view.body.ref_ptr ≡ place
BodyLiesAt place (answer.EchoBad at) = ⊤
BodyLiesAt place answer.Silence = ⊤
BodyLiesAt place (answer.Broken fault) = ⊤
