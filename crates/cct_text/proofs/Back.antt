-- The fields of an entry are read back as the entry, and none of them has a space.
use Rattle.std.proofs.Common.{◌≡◌, ℕ, ◌/◌, ◌%◌, ◌≤◌, true, List, [], ◌∷◌, map, Option, Some, Result, refl, ap, ◌∙◌, arith}
use Rattle.std.specs.List.{filter_map, cons_option}
use Rattle.std.specs.Result.{result_unwrap_or}
use Rattle.hex.specs.Hex.{IsBytes}
use Rattle.hex.proofs.HexLemmas.{decode_of-encode_lower}
use Rattle.cct_model_lines.specs.terms.coin.Coin.{Coin}
use Rattle.cct_model_lines.specs.declared.record.Record.{Record}
use Rattle.cct_model_lines.specs.declared.record.Record.TheVariants as record_of
use Rattle.cct_model_lines.specs.declared.command.CommandNo.{CommandNo}
use Rattle.cct_model_lines.specs.declared.command.CommandNo.TheVariants as refusal
use Rattle.cct_model_lines.specs.declared.command.WireFault.{WireFault}
use Rattle.cct_model_lines.specs.declared.command.WireFault.TheVariants as fault
use Rattle.cct_model_lines.specs.declared.entry.LineKind.{LineKind}
use Rattle.cct_model_lines.specs.declared.entry.LineKind.TheVariants as kind
use Rattle.cct_model_lines.specs.Text.{number_text, piece_field, mask_field, coin_text, coins_field, record_fields, reason_fields, fault_fields, kind_field}
use Rattle.cct_text.specs.Reading.{parts_at, number_in, piece_in, mask_of, mask_in, coin_of, coins_in, record_in, reason_in, fault_in, kind_in}
use Rattle.cct_text.specs.Written.{IsMask, IsRecord, IsFault}
use Rattle.cct_text.proofs.Cuts.{all_above, EachAbove, above_append, above_weaker, number_above, number_field, piece_above, mask_above, mask_bytes, joined_above, cut_joined}
use Rattle.cct_text.proofs.Numbers.{number_back}

-- numbers

pub one_back : {A : Type 0} (make : ℕ → A) (a : ℕ) → make (number_in (number_text a)) ≡ make a
one_back make a = ap make (number_back a)

pub two_back : {A : Type 0} (make : ℕ → ℕ → A) (a b : ℕ)
    → make (number_in (number_text a)) (number_in (number_text b)) ≡ make a b
two_back make a b = one_back (λ x. make x (number_in (number_text b))) a ∙ one_back (make a) b

pub three_back : {A : Type 0} (make : ℕ → ℕ → ℕ → A) (a b c : ℕ)
    → make (number_in (number_text a)) (number_in (number_text b)) (number_in (number_text c)) ≡ make a b c
three_back make a b c =
    one_back (λ x. make x (number_in (number_text b)) (number_in (number_text c))) a ∙ two_back (make a) b c

pub four_back : {A : Type 0} (make : ℕ → ℕ → ℕ → ℕ → A) (a b c d : ℕ)
    → make (number_in (number_text a)) (number_in (number_text b)) (number_in (number_text c))
    (number_in (number_text d)) ≡ make a b c d
four_back make a b c d =
    one_back (λ x. make x (number_in (number_text b)) (number_in (number_text c)) (number_in (number_text d))) a
    ∙ three_back (make a) b c d

pub five_back : {A : Type 0} (make : ℕ → ℕ → ℕ → ℕ → ℕ → A) (a b c d e : ℕ)
    → make (number_in (number_text a)) (number_in (number_text b)) (number_in (number_text c))
    (number_in (number_text d)) (number_in (number_text e)) ≡ make a b c d e
five_back make a b c d e =
    one_back (λ x. make x (number_in (number_text b)) (number_in (number_text c)) (number_in (number_text d))
    (number_in (number_text e))) a
    ∙ four_back (make a) b c d e

-- pieces and masks

pub piece_back : (piece : List ℕ) → IsBytes piece → piece_in (piece_field piece) ≡ piece
piece_back [] h = refl
piece_back (byte ∷ bytes) h =
    let bytes_of : Result (List ℕ) _ → List ℕ = λ r. result_unwrap_or r [] in
    ap bytes_of (decode_of-encode_lower (byte ∷ bytes) h)

mask_of_bytes : (mask : ℕ) → mask_of (mask / 256 ∷ mask % 256 ∷ []) ≡ mask
mask_of_bytes mask = omega arith

pub mask_back : (mask : ℕ) → IsMask mask → mask_in (mask_field mask) ≡ mask
mask_back mask fits =
    let number_of : Result (List ℕ) _ → ℕ = λ r. mask_of (result_unwrap_or r []) in
    ap number_of (decode_of-encode_lower (mask / 256 ∷ mask % 256 ∷ []) (mask_bytes mask fits)) ∙ mask_of_bytes mask

-- coins

coin_parts : (coin : Coin) → parts_at 47 (coin_text coin) ≡ number_text coin.place ∷ number_text coin.path ∷ []
coin_parts coin =
    cut_joined 47 (number_text coin.place) (number_text coin.path ∷ [])
    (number_above coin.place, (number_above coin.path, tt))

coin_back : (coin : Coin) → coin_of (parts_at 47 (coin_text coin)) ≡ Some coin
coin_back coin =
    let make : ℕ → ℕ → Option Coin = λ place path. Some (record { place = place; path = path }) in
    ap coin_of (coin_parts coin) ∙ two_back make coin.place coin.path

coins_read : (coins : List Coin) → filter_map (λ text. coin_of (parts_at 47 text)) (map coin_text coins) ≡ coins
coins_read [] = refl
coins_read (coin ∷ coins) =
    let read : List ℕ → Option Coin = λ text. coin_of (parts_at 47 text) in
    ap (λ o. cons_option o (filter_map read (map coin_text coins))) (coin_back coin)
    ∙ ap (λ rest. coin ∷ rest) (coins_read coins)

coin_above : (coin : Coin) → all_above 44 (coin_text coin) ≡ true
coin_above coin =
    above_append 44 (number_text coin.place) (47 ∷ number_text coin.path)
    (above_weaker 44 47 (omega arith) (number_text coin.place) (number_above coin.place))
    (above_weaker 44 47 (omega arith) (number_text coin.path) (number_above coin.path))

coins_above : (coins : List Coin) → EachAbove 44 (map coin_text coins)
coins_above [] = tt
coins_above (coin ∷ coins) = (coin_above coin, coins_above coins)

pub each_weaker : (low high : ℕ) → low ≤ high → (texts : List (List ℕ)) → EachAbove high texts → EachAbove low texts
each_weaker low high below [] h = tt
each_weaker low high below (text ∷ texts) h = (above_weaker low high below text h.0, each_weaker low high below texts h.1)

pub coins_back : (coins : List Coin) → coins_in (coins_field coins) ≡ coins
coins_back [] = refl
coins_back (coin ∷ coins) =
    let read : List ℕ → Option Coin = λ text. coin_of (parts_at 47 text) in
    ap (filter_map read) (cut_joined 44 (coin_text coin) (map coin_text coins) (coins_above (coin ∷ coins)))
    ∙ coins_read (coin ∷ coins)

pub coins_field_above : (coins : List Coin) → all_above 32 (coins_field coins) ≡ true
coins_field_above [] = refl
coins_field_above (coin ∷ coins) =
    joined_above 32 44 refl (map coin_text (coin ∷ coins))
    (each_weaker 32 44 (omega arith) (map coin_text (coin ∷ coins)) (coins_above (coin ∷ coins)))

-- records

pub record_back : (r : Record) → IsRecord r → record_in (record_fields r) ≡ Some r
record_back (record_of.Epoch addr mask accepts) h =
    two_back (λ a n. Some (record_of.Epoch a (mask_in (mask_field mask)) n)) addr accepts
    ∙ ap (λ m. Some (record_of.Epoch addr m accepts)) (mask_back mask h)
record_back (record_of.Reading addr counter lost accepts posted) h =
    four_back (λ a c l n. Some (record_of.Reading a c l n (coins_in (coins_field posted)))) addr counter lost accepts
    ∙ ap (λ coins. Some (record_of.Reading addr counter lost accepts coins)) (coins_back posted)
record_back (record_of.Broken addr seen counter lost accepts posted) h =
    four_back (λ a c l n. Some (record_of.Broken a (mask_in (mask_field seen)) c l n (coins_in (coins_field posted))))
    addr counter lost accepts
    ∙ ap (λ m. Some (record_of.Broken addr m counter lost accepts (coins_in (coins_field posted)))) (mask_back seen h)
    ∙ ap (λ coins. Some (record_of.Broken addr seen counter lost accepts coins)) (coins_back posted)
record_back (record_of.EpochEnd addr) h = one_back (λ a. Some (record_of.EpochEnd a)) addr
record_back (record_of.Opened id addr count life) h =
    four_back (λ i a c l. Some (record_of.Opened i a c l)) id addr count life
record_back (record_of.Closed id paid unpaid) h = three_back (λ i p u. Some (record_of.Closed i p u)) id paid unpaid
record_back (record_of.Odd id before after) h = three_back (λ i b a. Some (record_of.Odd i b a)) id before after
record_back (record_of.Sold id price) h = two_back (λ i p. Some (record_of.Sold i p)) id price

pub record_above : (r : Record) → IsRecord r → EachAbove 32 (record_fields r)
record_above (record_of.Epoch addr mask accepts) h =
    (refl, (number_field addr, (mask_above mask h, (number_field accepts, tt))))
record_above (record_of.Reading addr counter lost accepts posted) h = (
  refl,
  (
    number_field addr,
    (
      number_field counter,
      (number_field lost, (number_field accepts, (coins_field_above posted, tt))),
    ),
  ),
)
record_above (record_of.Broken addr seen counter lost accepts posted) h = (
  refl,
  (
    number_field addr,
    (
      mask_above seen h,
      (
        number_field counter,
        (number_field lost, (number_field accepts, (coins_field_above posted, tt))),
      ),
    ),
  ),
)
record_above (record_of.EpochEnd addr) h = (refl, (number_field addr, tt))
record_above (record_of.Opened id addr count life) h =
    (refl, (number_field id, (number_field addr, (number_field count, (number_field life, tt)))))
record_above (record_of.Closed id paid unpaid) h =
    (refl, (number_field id, (number_field paid, (number_field unpaid, tt))))
record_above (record_of.Odd id before after) h =
    (refl, (number_field id, (number_field before, (number_field after, tt))))
record_above (record_of.Sold id price) h = (refl, (number_field id, (number_field price, tt)))

-- reasons

pub reason_back : (why : CommandNo) → reason_in (reason_fields why) ≡ Some why
reason_back refusal.NoDevice = refl
reason_back refusal.WrongKind = refl
reason_back refusal.Busy = refl
reason_back refusal.EpochRuns = refl
reason_back refusal.NoEpoch = refl
reason_back (refusal.NoValue place) = one_back (λ n. Some (refusal.NoValue n)) place
reason_back (refusal.OrderOpen id) = one_back (λ n. Some (refusal.OrderOpen n)) id
reason_back refusal.NoOrder = refl
reason_back refusal.NoPayout = refl
reason_back (refusal.OldId last) = one_back (λ n. Some (refusal.OldId n)) last
reason_back (refusal.Short have) = one_back (λ n. Some (refusal.Short n)) have
reason_back (refusal.JournalFull used held need) =
    three_back (λ u o n. Some (refusal.JournalFull u o n)) used held need

pub reason_above : (why : CommandNo) → EachAbove 32 (reason_fields why)
reason_above refusal.NoDevice = (refl, tt)
reason_above refusal.WrongKind = (refl, tt)
reason_above refusal.Busy = (refl, tt)
reason_above refusal.EpochRuns = (refl, tt)
reason_above refusal.NoEpoch = (refl, tt)
reason_above (refusal.NoValue place) = (refl, (number_field place, tt))
reason_above (refusal.OrderOpen id) = (refl, (number_field id, tt))
reason_above refusal.NoOrder = (refl, tt)
reason_above refusal.NoPayout = (refl, tt)
reason_above (refusal.OldId last) = (refl, (number_field last, tt))
reason_above (refusal.Short have) = (refl, (number_field have, tt))
reason_above (refusal.JournalFull used held need) =
    (refl, (number_field used, (number_field held, (number_field need, tt))))

-- faults and kinds of refused lines

pub fault_back : (f : WireFault) → IsFault f → fault_in (fault_fields f) ≡ Some f
fault_back fault.Clear h = refl
fault_back (fault.DevicesHear piece) h = ap (λ p. Some (fault.DevicesHear p)) (piece_back piece h)
fault_back (fault.HostHears piece) h = ap (λ p. Some (fault.HostHears p)) (piece_back piece h)
fault_back (fault.WholeHeard piece) h = ap (λ p. Some (fault.WholeHeard p)) (piece_back piece h)

pub fault_above : (f : WireFault) → IsFault f → EachAbove 32 (fault_fields f)
fault_above fault.Clear h = (refl, tt)
fault_above (fault.DevicesHear piece) h = (refl, (piece_above piece h, tt))
fault_above (fault.HostHears piece) h = (refl, (piece_above piece h, tt))
fault_above (fault.WholeHeard piece) h = (refl, (piece_above piece h, tt))

pub kind_back : (why : LineKind) → kind_in (kind_field why) ≡ Some why
kind_back kind.Trailing = refl
kind_back kind.Lines = refl
kind_back kind.Long = refl
kind_back kind.Cut = refl
kind_back kind.Word = refl
kind_back kind.Form = refl
kind_back kind.Device = refl
kind_back kind.Again = refl

pub kind_above : (why : LineKind) → all_above 32 (kind_field why) ≡ true
kind_above kind.Trailing = refl
kind_above kind.Lines = refl
kind_above kind.Long = refl
kind_above kind.Cut = refl
kind_above kind.Word = refl
kind_above kind.Form = refl
kind_above kind.Device = refl
kind_above kind.Again = refl
