-- Devices in rising order of address are the same devices, and what they answer together has room.
use Rattle.std.proofs.Common.{◌≡◌, ◌≢◌, ℕ, suc, ◌+◌, ◌≤◌, ◌==◌, Bool, true, false, cond, List, [], ◌∷◌, length, nat_le, slice_index, Option, Some, None, refl, ap, subst, ◌∙◌, arith, inl, inr}
use Rattle.std.specs.List.{All}
use Rattle.std.proofs.lemmas.Bool.{cases_eq}
use Rattle.std.proofs.lemmas.Bool.Decides.{nat_tests}
use Rattle.std.proofs.lemmas.List.Elements.{All-head, All-tail}
use Rattle.cct_model.specs.terms.device.DeviceSetup.{DeviceSetup}
use Rattle.cct_model.specs.Device.{IsSound}
use Rattle.cct_model.specs.Exchange.{by_address, device_at, put_by_address}
use Rattle.cct_model.specs.Setup.{AreDistinct}
use Rattle.cct_bus.specs.Room.{most_answered, most_said}

-- two tests that don't both hold may be made in either order
swapped : (a b : Bool) (x y z : Option DeviceSetup) → (a ≡ true → b ≡ true → ⊥) → cond b x (cond a y z) ≡ cond a y (cond b x z)
swapped true true x y z apart = absurd (apart refl refl)
swapped true false x y z apart = refl
swapped false b x y z apart = refl

apart_by : (d e addr : ℕ) → nat_le d e ≡ false → (d == addr) ≡ true → (e == addr) ≡ true → ⊥
apart_by d e addr above here there = grind (arith, nat_tests)

found_by : (below : Bool) (d e : DeviceSetup) (es : List DeviceSetup) (addr : ℕ) → nat_le d.addr e.addr ≡ below → device_at (put_by_address d es) addr ≡ device_at (d ∷ es) addr
    → device_at (cond below (d ∷ e ∷ es) (e ∷ put_by_address d es)) addr ≡ device_at (d ∷ e ∷ es) addr
found_by true d e es addr test rest = refl
found_by false d e es addr test rest =
    ap (λ v. cond (e.addr == addr) (Some e) v) rest
    ∙ swapped (d.addr == addr) (e.addr == addr) (Some e) (Some d) (device_at es addr) (apart_by d.addr e.addr addr test)

found_put : (d : DeviceSetup) (es : List DeviceSetup) (addr : ℕ) → device_at (put_by_address d es) addr ≡ device_at (d ∷ es) addr
found_put d [] addr = refl
found_put d (e ∷ es) addr = found_by (nat_le d.addr e.addr) d e es addr refl (found_put d es addr)

-- the device at an address is found wherever the devices stand
pub found_by_address : (devices : List DeviceSetup) (addr : ℕ) → device_at (by_address devices) addr ≡ device_at devices addr
found_by_address [] addr = refl
found_by_address (d ∷ ds) addr =
    found_put d (by_address ds) addr ∙ ap (λ v. cond (d.addr == addr) (Some d) v) (found_by_address ds addr)

none_both : (same : Bool) (x : DeviceSetup) (rest : Option DeviceSetup) → cond same (Some x) rest ≡ None → (same ≡ false) × (rest ≡ None)
none_both true x rest e = absurd cc
none_both false x rest e = (refl, e)

none_of : (same : Bool) (x : DeviceSetup) (rest : Option DeviceSetup) → same ≡ false → rest ≡ None → cond same (Some x) rest ≡ None
none_of true x rest e h = absurd cc
none_of false x rest e h = h

turned : (a b : ℕ) → (a == b) ≡ false → (b == a) ≡ false
turned a b e = grind (arith, nat_tests)

distinct_by : (below : Bool) (d e : DeviceSetup) (es : List DeviceSetup) → device_at (e ∷ es) d.addr ≡ None → AreDistinct (e ∷ es) → AreDistinct (put_by_address d es)
    → AreDistinct (cond below (d ∷ e ∷ es) (e ∷ put_by_address d es))
distinct_by true d e es none distinct rest = (none, distinct)
distinct_by false d e es none distinct rest =
    let parts : ((e.addr == d.addr) ≡ false) × (device_at es d.addr ≡ None) = none_both _ _ _ none in
    (found_put d es e.addr ∙ none_of (d.addr == e.addr) d (device_at es e.addr) (turned e.addr d.addr parts.0) distinct.0, rest)

distinct_put : (d : DeviceSetup) (es : List DeviceSetup) → device_at es d.addr ≡ None → AreDistinct es → AreDistinct (put_by_address d es)
distinct_put d [] none distinct = (refl, tt)
distinct_put d (e ∷ es) none distinct =
    distinct_by (nat_le d.addr e.addr) d e es none distinct (distinct_put d es (none_both (e.addr == d.addr) e (device_at es d.addr) none).1 distinct.1)

-- devices of different addresses have them in their order too
pub distinct_by_address : (devices : List DeviceSetup) → AreDistinct devices → AreDistinct (by_address devices)
distinct_by_address [] distinct = tt
distinct_by_address (d ∷ ds) distinct =
    distinct_put d (by_address ds) (found_by_address ds d.addr ∙ distinct.0) (distinct_by_address ds distinct.1)

answered_by : (below : Bool) (piece : List ℕ) (d e : DeviceSetup) (es : List DeviceSetup) → most_answered piece (put_by_address d es) ≡ most_answered piece (d ∷ es)
    → most_answered piece (cond below (d ∷ e ∷ es) (e ∷ put_by_address d es)) ≡ most_answered piece (d ∷ e ∷ es)
answered_by true piece d e es rest = refl
answered_by false piece d e es rest =
    let same : most_said e.addr piece + most_answered piece (put_by_address d es) ≡ most_said d.addr piece + (most_said e.addr piece + most_answered piece es) = omega (arith, rest) in
    same

answered_put : (piece : List ℕ) (d : DeviceSetup) (es : List DeviceSetup) → most_answered piece (put_by_address d es) ≡ most_answered piece (d ∷ es)
answered_put piece d [] = refl
answered_put piece d (e ∷ es) = answered_by (nat_le d.addr e.addr) piece d e es (answered_put piece d es)

-- what devices answer has the room that they have in their order
pub answered_by_address : (piece : List ℕ) (devices : List DeviceSetup) → most_answered piece (by_address devices) ≡ most_answered piece devices
answered_by_address piece [] = refl
answered_by_address piece (d ∷ ds) =
    answered_put piece d (by_address ds) ∙ ap (λ n. most_said d.addr piece + n) (answered_by_address piece ds)

-- a device answers a piece for all by one byte at most, and a piece for another by none
said_to_all : (addr : ℕ) (piece : List ℕ) → slice_index piece 0 ≡ 0 → 2 ≤ addr → most_said addr piece ≤ 1
said_to_all addr piece to_all low = grind (arith, nat_tests)

said_to_other : (addr : ℕ) (piece : List ℕ) → slice_index piece 0 ≢ 0 → addr ≢ slice_index piece 0 → most_said addr piece ≡ 0
said_to_other addr piece to_one other = grind (arith, nat_tests)

said_at_most : (addr : ℕ) (piece : List ℕ) → most_said addr piece ≤ 260
said_at_most addr piece = grind (arith, nat_tests)

pub other_of : (a b : ℕ) → (a == b) ≡ false → a ≢ b
other_of a b e = grind (arith, nat_tests)

-- to all devices each answers by one byte
said_by_all : (piece : List ℕ) (devices : List DeviceSetup) → slice_index piece 0 ≡ 0 → All IsSound devices → most_answered piece devices ≤ length devices
said_by_all piece [] to_all sound = omega arith
said_by_all piece (d ∷ ds) to_all sound =
    let first : IsSound d = All-head IsSound d ds sound in
    let one : most_said d.addr piece ≤ 1 = said_to_all d.addr piece to_all first.low in
    let rest : most_answered piece ds ≤ length ds = said_by_all piece ds to_all (All-tail IsSound d ds sound) in
    let sum : most_said d.addr piece + most_answered piece ds ≤ suc (length ds) = omega arith in
    sum

-- to another address nobody answers
said_by_none : (piece : List ℕ) (devices : List DeviceSetup) → slice_index piece 0 ≢ 0 → device_at devices (slice_index piece 0) ≡ None → most_answered piece devices ≡ 0
said_by_none piece [] to_one none = refl
said_by_none piece (d ∷ ds) to_one none =
    let parts : ((d.addr == slice_index piece 0) ≡ false) × (device_at ds (slice_index piece 0) ≡ None) = none_both _ _ _ none in
    let first : most_said d.addr piece ≡ 0 = said_to_other d.addr piece to_one (other_of _ _ parts.0) in
    let rest : most_answered piece ds ≡ 0 = said_by_none piece ds to_one parts.1 in
    let sum : most_said d.addr piece + most_answered piece ds ≡ 0 = omega arith in
    sum

-- to one address one answers at most
said_by_one : (piece : List ℕ) (devices : List DeviceSetup) → slice_index piece 0 ≢ 0 → AreDistinct devices → most_answered piece devices ≤ 260
said_by_one piece [] to_one distinct = omega arith
said_by_one piece (d ∷ ds) to_one distinct =
    elim (cases_eq d.addr (slice_index piece 0)) as (λ _. most_answered piece (d ∷ ds) ≤ 260) [
      | inl here ↦
          let rest : most_answered piece ds ≡ 0 = said_by_none piece ds to_one (subst (λ addr. device_at ds addr ≡ None) here distinct.0) in
          let first : most_said d.addr piece ≤ 260 = said_at_most d.addr piece in
          let sum : most_said d.addr piece + most_answered piece ds ≤ 260 = omega arith in
          sum
      | inr there ↦
          let first : most_said d.addr piece ≡ 0 = said_to_other d.addr piece to_one there in
          let rest : most_answered piece ds ≤ 260 = said_by_one piece ds to_one distinct.1 in
          let sum : most_said d.addr piece + most_answered piece ds ≤ 260 = omega arith in
          sum
    ]

-- what the devices of a setup answer together has room
pub answers_short : (piece : List ℕ) (devices : List DeviceSetup) → All IsSound devices → AreDistinct devices → length devices ≤ 32 → most_answered piece devices ≤ 260
answers_short piece devices sound distinct few =
    elim (cases_eq (slice_index piece 0) 0) [
      | inl to_all ↦ omega (arith, said_by_all piece devices to_all sound)
      | inr to_one ↦ said_by_one piece devices to_one distinct
    ]
