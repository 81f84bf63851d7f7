-- What is wrong with the bytes since the last gap, byte by byte.
use Rattle.std.proofs.Common.{◌≡◌, ℕ, List, [], ◌∷◌, ◌++◌, map, replicate, take, Some, None, refl}
use Rattle.cct_model.specs.terms.wire.CheckKind.TheVariants.{Simple, Crc}
use Rattle.cct_model.specs.Message.{message, crc}
use Rattle.cct_frame.specs.declared.reading.FrameFault.TheVariants.{Short, Length, CrcCheck}
use Rattle.cct_wire.specs.Framer.{fault_since}

-- a poll of device 2 by the host
abbrev poll : List ℕ
poll = 2 ∷ 0 ∷ 1 ∷ 254 ∷ 255 ∷ []

poll_is_whole : message Simple poll ≡ Some (record { to = 2; from = Some 1; header = 254; body = [] })
unfolding message
poll_is_whole = refl

poll_has_no_fault : fault_since Simple poll ≡ None
poll_has_no_fault = refl

-- it is whole with its last byte alone
fronts_are_none : map (λ count. message Simple (take count poll)) (0 ∷ 1 ∷ 2 ∷ 3 ∷ 4 ∷ []) ≡ replicate 5 None
unfolding message
fronts_are_none = refl

nothing_is_short : fault_since Simple [] ≡ Some (Short 0)
nothing_is_short = refl

-- two messages without a gap between are none
a_byte_more : fault_since Simple (poll ++ 0 ∷ []) ≡ Some (Length 0 6)
a_byte_more = refl

a_message_more : fault_since Simple (poll ++ 0 ∷ poll) ≡ Some (Length 0 11)
a_message_more = refl

-- more bytes than a message has are counted
too_many : fault_since Simple (replicate 261 85) ≡ Some (Length 85 261)
too_many = refl

one_more : fault_since Simple (replicate 262 85) ≡ Some (Length 85 262)
one_more = refl

-- the CRC passes over its low byte
under_the_crc : fault_since Crc (2 ∷ 0 ∷ 177 ∷ 254 ∷ 96 ∷ []) ≡ None
unfolding crc
under_the_crc = refl

wrong_crc : fault_since Crc (2 ∷ 0 ∷ 177 ∷ 254 ∷ 97 ∷ []) ≡ Some (CrcCheck 24753 25009)
unfolding crc
wrong_crc = refl
