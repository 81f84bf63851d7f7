-- The CRC of bytes whose CRC is published. The last is the check value of CRC-16/XMODEM; the others are destination,
-- number of data bytes and header of messages.
use Rattle.std.proofs.Common.{◌≡◌, [], ◌∷◌, codes, refl}
use Rattle.cct_check.specs.Check.{crc, crc_after}

of_a_poll_of_2 : crc (2 ∷ 0 ∷ 254 ∷ []) ≡ 24753
unfolding crc
of_a_poll_of_2 = refl

of_a_poll_of_9 : crc (9 ∷ 0 ∷ 254 ∷ []) ≡ 36928
unfolding crc
of_a_poll_of_9 = refl

of_an_address_poll : crc (0 ∷ 0 ∷ 253 ∷ []) ≡ 16050
unfolding crc
of_an_address_poll = refl

of_digits : crc (codes "123456789") ≡ 12739
unfolding crc
of_digits = refl

of_a_digit_more : crc_after (crc (codes "12345678")) 57 ≡ 12739
unfolding crc crc_after
of_a_digit_more = refl
