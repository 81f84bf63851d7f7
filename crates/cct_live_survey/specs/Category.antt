-- The family that an equipment category names.
use Rattle.std.specs.Prelude.{List, ℕ, if◌then◌else◌, Option, Some, None, codes, bytes_eq}
use Rattle.cct_model_wire.specs.declared.family.Family.{Family}
use Rattle.cct_model_wire.specs.declared.family.Family.TheVariants as family

-- The family that has a category, if one has it.
abbrev pub family_told : List ℕ → Option Family
family_told text =
    if bytes_eq text (codes "Coin Acceptor") then Some family.Acceptor
    else if bytes_eq text (codes "Payout") then Some family.Hopper
    else if bytes_eq text (codes "Bill Validator") then Some family.Bill
    else None
