-- Sets of addresses.
use Rattle.std.specs.Prelude.{ℕ, suc, zero, ◌==◌, ◌||◌, nat_lt, Bool, false, List, [], ◌∷◌, ◌++◌}
use Rattle.std.specs.Prelude.{if◌then◌else◌, Option, Some, None, filter, slice_index_or}
use Rattle.cct_model_lines.specs.declared.device_set.DeviceSet.{DeviceSet}

-- Whether a set has an address.
abbrev pub has : DeviceSet → ℕ → Bool
has set addr = slice_index_or set.members addr false

-- The addresses below a number, in rising order.
abbrev pub addresses_below : ℕ → List ℕ
addresses_below zero = []
addresses_below (suc n) = addresses_below n ++ n ∷ []

-- All addresses, in rising order.
unfoldable pub all_addresses : List ℕ
all_addresses = addresses_below 256

-- The addresses of a set, in rising order.
abbrev pub addresses_in : DeviceSet → List ℕ
addresses_in set = filter (has set) all_addresses

-- A list of addresses in rising order with one more in its place, or as it is where it has that
-- address.
unfoldable pub with_address : ℕ → List ℕ → List ℕ
with_address addr [] = addr ∷ []
with_address addr (first ∷ rest) =
    if nat_lt addr first then addr ∷ first ∷ rest
    else if first == addr then first ∷ rest
    else first ∷ with_address addr rest

-- A list of addresses without one of them.
unfoldable pub without_address : ℕ → List ℕ → List ℕ
without_address addr [] = []
without_address addr (first ∷ rest) =
    if first == addr then without_address addr rest
    else first ∷ without_address addr rest

-- Whether a list of addresses has one.
unfoldable pub is_address_in : List ℕ → ℕ → Bool
is_address_in [] addr = false
is_address_in (first ∷ rest) addr = (first == addr) || is_address_in rest addr

-- The first address of a list, if it has any.
unfoldable pub first_address : List ℕ → Option ℕ
first_address [] = None
first_address (first ∷ rest) = Some first
