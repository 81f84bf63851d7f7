-- Messages that are written and read for a program in another language.
use Rattle.std.specs.Prelude.{◌≡◌, ℕ, ◌==◌, nat_le, List, length, if◌then◌else◌, Option, Some, None}
use Rattle.cct_model_wire.specs.Exchange.{ask}
use Rattle.cct_model_wire.specs.Message.{Message, spelling}
use Rattle.cct_model_wire.specs.declared.request.Request.{Request}
use Rattle.cct_model_wire.specs.declared.wire.CheckKind.{CheckKind}
use Rattle.cct_c.specs.declared.codes.TheConstants.{OK, BAD_CHECK, NO_REQUEST, NO_ROOM, TOO_LONG}
use Rattle.cct_c.specs.declared.frames.LhFrame.{LhFrame}

-- The source that a program reads in its struct.
abbrev pub source_in : LhFrame → Option ℕ
source_in frame = if frame.named == 0 then None else Some frame.from

-- The program's struct shows a message, but for its data bytes, which it counts.
pub record Shows (m : Message) (frame : LhFrame) : Type 0 where
  pub to : frame.to ≡ m.to
  pub from : source_in frame ≡ m.from
  pub header : frame.header ≡ m.header
  pub count : frame.count ≡ length m.body

-- What a call answers that puts bytes into so much room.
abbrev pub put_answer : ℕ → List ℕ → ℕ
put_answer room bytes = if nat_le (length bytes) room then OK else NO_ROOM

-- What a call answers that writes a message under a check into so much room.
abbrev pub write_answer : Option CheckKind → ℕ → Message → ℕ
write_answer None room m = BAD_CHECK
write_answer (Some kind) room m =
    if nat_le (length m.body) 255 then put_answer room (spelling kind m) else TOO_LONG

-- What a call answers that writes a request to an address, if it is one, into so much room.
abbrev pub request_answer : Option CheckKind → ℕ → ℕ → Option Request → ℕ
request_answer None to room asked = BAD_CHECK
request_answer (Some kind) to room None = NO_REQUEST
request_answer (Some kind) to room (Some q) = put_answer room (ask kind to q)
