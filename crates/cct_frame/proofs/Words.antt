-- The CRC is defined where messages are, and again where it is computed: the definitions say the same.
use Rattle.std.proofs.Common.{◌≡◌, ℕ, List, refl}
use Rattle.cct_model_wire.specs.Message.{crc}
use Rattle.cct_check.specs.Check.{crc as crc_computed}

pub same_crc : (bytes : List ℕ) → crc bytes ≡ crc_computed bytes
unfolding crc crc_computed
same_crc bytes = refl
