-- The CRC of 16 bits, by single bits.
use Rattle.std.specs.Prelude.{ℕ, ◌*◌, ◌/◌, ◌%◌, ◌==◌, List, [], ◌∷◌, fold, flat_map, if◌then◌else◌}
use Rattle.std.specs.Prelude.{bit_xor}

-- The bits of a byte, the most significant first.
abbrev pub bits_of : ℕ → List ℕ
bits_of byte = byte / 128 % 2 ∷ byte / 64 % 2 ∷ byte / 32 % 2 ∷ byte / 16 % 2 ∷ byte / 8 % 2
    ∷ byte / 4 % 2 ∷ byte / 2 % 2 ∷ byte % 2 ∷ []

-- A bit goes into the register of 16 bits: the register is shifted left by one place, and where its
-- top bit was not that bit, 0x1021 is added without carry.
abbrev pub crc_bit : ℕ → ℕ → ℕ
crc_bit register bit =
    if register / 32768 == bit then register * 2 % 65536 else bit_xor (register * 2 % 65536) 4129

-- The CRC of bytes: the register that starts at 0 and takes their bits in order.
unfoldable pub crc : List ℕ → ℕ
crc bytes = fold crc_bit 0 (flat_map bits_of bytes)

-- The register after it has taken the bits of one byte more.
unfoldable pub crc_after : ℕ → ℕ → ℕ
crc_after register byte = fold crc_bit register (bits_of byte)
