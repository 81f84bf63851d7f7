-- The accounts of all addresses.
use Rattle.std.proofs.Common.{◌≡◌, ℕ, zero, suc, ◌+◌, ◌∙◌, List, [], ◌∷◌, ◌++◌, length, map, get_or, set, Option, Some, None, refl, ap, arith}
use Rattle.std.proofs.Common.{length-append}
use Rattle.std.proofs.lemmas.List.{length-map, length-set, map-append}
use Rattle.std.proofs.lemmas.List.Elements.{All-map, All-set, All-weaker}
use Rattle.std.specs.Prelude.{All}
use Rattle.cct_model.specs.DeviceSet.{addresses_below, all_addresses}
use Rattle.cct_model.specs.Carried.{empty_carry}
use Rattle.cct_model.specs.lines.carry.Carry.{Carry}
use Rattle.cct_model.specs.lines.record.Record.{Record}
use Rattle.cct_bench_state.specs.Account.{IsWithin, account_in, account_with, changed}
use Rattle.cct_bench_state.specs.declared.account.Account.{Account}

below_more : (n : ℕ) → addresses_below (n + 1) ≡ addresses_below n ++ n ∷ []
below_more n = let is : n + 1 ≡ suc n = omega arith in ap addresses_below is

pub below_length : (n : ℕ) → length (addresses_below n) ≡ n
below_length zero = refl
below_length (suc n) = omega (arith, length-append (addresses_below n) (n ∷ []), below_length n)

-- one address more
pub accounts_more : (c : Carry) (n : ℕ)
    → map (account_in c) (addresses_below (n + 1)) ≡ map (account_in c) (addresses_below n) ++ account_in c n ∷ []
accounts_more c n =
    ap (map (account_in c)) (below_more n) ∙ map-append (account_in c) (addresses_below n) (n ∷ [])

pub accounts_length : (c : Carry) (n : ℕ) → length (map (account_in c) (addresses_below n)) ≡ n
accounts_length c n = length-map (addresses_below n) (account_in c) ∙ below_length n

pub accounts_all : (c : Carry) (n : ℕ) → n ≡ 256
    → map (account_in c) (addresses_below n) ≡ map (account_in c) all_addresses
unfolding all_addresses
accounts_all c n is = ap (λ k. map (account_in c) (addresses_below k)) is

pub all_length : (c : Carry) → length (map (account_in c) all_addresses) ≡ 256
unfolding all_addresses
all_length c = accounts_length c 256

-- nothing came to any address yet
pub fresh_within : (c : Carry) (many : ℕ) (addrs : List ℕ) → All (IsWithin many) (map (account_in c) addrs)
fresh_within c many addrs = All-map (IsWithin many) (account_in c) addrs
    (λ i d within. record { posted = omega arith; lost = omega arith; paid = omega arith })

-- a place is changed
pub changed_length : (r : Record) (accounts : List Account) (place : Option ℕ)
    → length (changed r accounts place) ≡ length accounts
changed_length r accounts None = refl
changed_length r accounts (Some place) =
    length-set accounts place (account_with r (get_or accounts place (account_in empty_carry 0)))

more_within : (many : ℕ) (a : Account) → IsWithin many a → IsWithin (many + 1) a
more_within many a h =
    record { posted = omega (arith, h.posted); lost = omega (arith, h.lost); paid = omega (arith, h.paid) }

pub still_within : (many : ℕ) (accounts : List Account) → All (IsWithin many) accounts
    → All (IsWithin (many + 1)) accounts
still_within many accounts h = All-weaker (IsWithin many) (IsWithin (many + 1)) (more_within many) accounts h

pub set_within : (many place : ℕ) (a : Account) (accounts : List Account) → IsWithin (many + 1) a
    → All (IsWithin many) accounts → All (IsWithin (many + 1)) (set accounts place a)
set_within many place a accounts new h =
    All-set (IsWithin (many + 1)) accounts place a new (still_within many accounts h)
