-- Messages: the bytes of one whole checked frame, under either check.
use Rattle.std.specs.Prelude.{ℕ, ◌+◌, ◌-◌, ◌*◌, ◌/◌, ◌%◌, ◌==◌, ◌&&◌, nat_le, Bool, List, [], ◌∷◌}
use Rattle.std.specs.Prelude.{◌++◌, length, take, sum, fold, flat_map, if◌then◌else◌, Option, Some}
use Rattle.std.specs.Prelude.{None, bit_xor, slice_index, unwrap_or}
use Rattle.cct_model_wire.specs.declared.wire.CheckKind.{CheckKind}
use Rattle.cct_model_wire.specs.declared.wire.CheckKind.TheVariants.{Simple, Crc}

-- A message says whom it is for, who sends it (nobody is named under the CRC), its header and its
-- data bytes.
pub record Message : Type 0 where
  pub to : ℕ
  pub from : Option ℕ
  pub header : ℕ
  pub body : List ℕ

-- The bits of a byte, the most significant first.
abbrev pub bits_of : ℕ → List ℕ
bits_of byte = byte / 128 % 2 ∷ byte / 64 % 2 ∷ byte / 32 % 2 ∷ byte / 16 % 2 ∷ byte / 8 % 2
    ∷ byte / 4 % 2 ∷ byte / 2 % 2 ∷ byte % 2 ∷ []

-- A bit goes into the register of 16 bits: the register is shifted left by one place, and where its
-- top bit was not that bit, 0x1021 is added without carry.
abbrev pub crc_bit : ℕ → ℕ → ℕ
crc_bit register bit =
    if register / 32768 == bit then register * 2 % 65536 else bit_xor (register * 2 % 65536) 4129

-- The CRC of bytes: the register that starts at 0 and takes their bits in order.
unfoldable pub crc : List ℕ → ℕ
crc bytes = fold crc_bit 0 (flat_map bits_of bytes)

-- The last byte that makes the sum of all bytes 0 modulo 256.
abbrev pub closing_byte : List ℕ → ℕ
closing_byte bytes = (256 - sum bytes % 256) % 256

-- The bytes that spell a message: destination, number of data bytes, source, header, data bytes and
-- the byte that closes the sum. Under the CRC its low byte is in the place of the source, and its
-- high byte at the end.
unfoldable pub spelling : CheckKind → Message → List ℕ
spelling Simple m =
    let front = m.to ∷ length m.body ∷ unwrap_or m.from 0 ∷ m.header ∷ [] ++ m.body in
    front ++ closing_byte front ∷ []
spelling Crc m =
    let check = crc (m.to ∷ length m.body ∷ m.header ∷ m.body) in
    m.to ∷ length m.body ∷ check % 256 ∷ m.header ∷ [] ++ m.body ++ check / 256 ∷ []

-- The number of data bytes agrees with the length: after the first four bytes come the data and one
-- byte more.
abbrev pub length_agrees : ℕ → List ℕ → Bool
length_agrees said rest = nat_le said 255 && (length rest == said + 1)

-- A message under the simple check: the sum of its bytes is 0 modulo 256, and its third byte is the
-- source.
abbrev pub simple_message : ℕ → ℕ → ℕ → ℕ → List ℕ → Option Message
simple_message to said from header rest =
    if length_agrees said rest && (sum (to ∷ said ∷ from ∷ header ∷ rest) % 256 == 0)
    then Some (record { to = to; from = Some from; header = header; body = take said rest })
    else None

-- A message under the CRC: its third byte and its last are the low and the high byte of the CRC of
-- all the others.
abbrev pub crc_message : ℕ → ℕ → ℕ → ℕ → List ℕ → Option Message
crc_message to said low header rest =
    if length_agrees said rest && (crc (to ∷ said ∷ header ∷ take said rest) == low
    + 256 * slice_index rest said)
    then Some (record { to = to; from = None; header = header; body = take said rest })
    else None

-- The message that bytes are under a check, or none.
unfoldable pub message : CheckKind → List ℕ → Option Message
message Simple (to ∷ said ∷ from ∷ header ∷ rest) = simple_message to said from header rest
message Crc (to ∷ said ∷ low ∷ header ∷ rest) = crc_message to said low header rest
message kind piece = None
