-- Frames: what a view of a message says, what is reported of a piece that is none, and what a check
-- carries of a message.
use Rattle.std.specs.Prelude.{ℕ, ◌+◌, ◌-◌, ◌*◌, ◌%◌, ◌==◌, nat_lt, List, ◌++◌, length, take, drop}
use Rattle.std.specs.Prelude.{sum, if◌then◌else◌, Option, Some, None, slice_index, slice_range}
use Rattle.cct_model_wire.specs.declared.wire.CheckKind.{CheckKind}
use Rattle.cct_model_wire.specs.declared.wire.CheckKind.TheVariants.{Simple, Crc}
use Rattle.cct_model_wire.specs.Message.{Message, closing_byte, crc}
use Rattle.cct_frame.specs.declared.reading.FrameView.{FrameView}
use Rattle.cct_frame.specs.declared.reading.FrameFault.{FrameFault}
use Rattle.cct_frame.specs.declared.reading.FrameFault.TheVariants.{Short, Length, Check, CrcCheck}

-- The message that a view shows.
abbrev pub message_of : FrameView → Message
message_of view =
    record { to = view.to; from = view.from; header = view.header; body = view.body.now }

-- The source that a piece names: its third byte under the simple check, and nobody under the CRC.
abbrev pub source_in : CheckKind → List ℕ → Option ℕ
source_in Simple piece = Some (slice_index piece 2)
source_in Crc piece = None

-- The message that arrives when a message is sent under a check: the CRC leaves no room for a
-- source.
abbrev pub carried : CheckKind → Message → Message
carried Simple m = m
carried Crc m = record { to = m.to; from = None; header = m.header; body = m.body }

-- What a check makes of bytes that come one by one: their sum modulo 256, or the CRC of all but the
-- third.
unfoldable pub run_over : CheckKind → List ℕ → ℕ
run_over Simple bytes = sum bytes % 256
run_over Crc bytes = crc (take 2 bytes ++ drop 3 bytes)

-- All bytes but the last.
abbrev pub before_last : List ℕ → List ℕ
before_last bytes = take (length bytes - 1) bytes

-- What is wrong with the check of a piece whose sum is to be 0 modulo 256: the last byte does not
-- close the sum of those before it.
abbrev pub sum_fault : List ℕ → Option FrameFault
sum_fault piece =
    let want = closing_byte (take (length piece - 1) piece) in
    let got = slice_index piece (length piece - 1) in
    if want == got then None else Some (Check want got)

-- What the CRC in a piece is the CRC of: all its bytes but the third and the last.
abbrev pub under_crc : List ℕ → List ℕ
under_crc piece = take 2 piece ++ slice_range piece 3 (length piece - 1)

-- The CRC that a piece carries: its third byte is the low byte, and its last the high one.
abbrev pub crc_in : List ℕ → ℕ
crc_in piece = slice_index piece 2 + 256 * slice_index piece (length piece - 1)

-- What is wrong with the check of a piece under the CRC: it does not carry the CRC of its other
-- bytes.
abbrev pub crc_fault : List ℕ → Option FrameFault
crc_fault piece =
    let want = crc (under_crc piece) in
    let got = crc_in piece in
    if want == got then None else Some (CrcCheck want got)

-- What is wrong with the check of a piece.
abbrev pub check_fault : CheckKind → List ℕ → Option FrameFault
check_fault Simple piece = sum_fault piece
check_fault Crc piece = crc_fault piece

-- What is wrong with a piece under a check, by the first test that it fails: it has fewer than five
-- bytes; its second byte and five are not its length; its check is not that of its bytes.
abbrev pub fault_in : CheckKind → List ℕ → Option FrameFault
fault_in kind piece =
    let have = length piece in
    let said = slice_index piece 1 in
    if nat_lt have 5 then Some (Short have)
    else if said + 5 == have then check_fault kind piece
    else Some (Length said have)
