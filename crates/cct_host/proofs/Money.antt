-- What the carry of a host shows is what the operator has, with what the jobs of its desks reserve.
use Rattle.std.proofs.Common.{◌≡◌, ℕ, ◌≤◌, ◌<◌, ◌+◌, ◌-◌, true, false, cond, nat_le, List, sym, ap, ap₂, ◌∙◌, Some, None, arith, le-leb}
use Rattle.std.proofs.lemmas.Bool.Decides.{nat_tests}
use Rattle.cct_model.specs.terms.device.Setup.{Setup}
use Rattle.cct_model.specs.lines.carry.Carry.{Carry}
use Rattle.cct_model.specs.lines.command.CommandNo.TheVariants.{Short}
use Rattle.cct_model.specs.lines.entry.Entry.{Entry}
use Rattle.cct_model.specs.lines.entry.Totals.{Totals}
use Rattle.cct_model.specs.Carry.{available_held, carry, owed_by, reserved_held}
use Rattle.cct_model.specs.Following.{all_follow}
use Rattle.cct_model.specs.Money.{available, available_beside, reserved, totals}
use Rattle.cct_model.specs.Records.{records}
use Rattle.cct_model.specs.Refusal as refusals
use Rattle.cct_journal_carry.proofs.Carried.{available_carried, reserved_carried}
use Rattle.cct_host.specs.declared.desks.Desks.{Desks}
use Rattle.cct_host.specs.Desks.{StandsFor, reserved_of, setup_of}
use Rattle.cct_host.proofs.Held.{reserved_is}

-- what is available by a carry, beside what else is reserved
less_beside : (value reserved paid sold beside : ℕ) →
    value - (reserved + 0 + paid + sold) - beside ≡ value - (reserved + beside + paid + sold)
less_beside value reserved paid sold beside = omega arith

pub left_beside : (setup : Setup) (c : Carry) (beside : ℕ) →
    available_held setup c 0 - beside ≡ available_held setup c beside
left_beside setup c beside = less_beside c.value (reserved_held setup c) c.paid_value c.sold beside

-- totals with the same parts
abbrev of_parts : (a b c d : ℕ) → Totals
of_parts a b c d = record { available = a; reserved = b; paid = c; sold = d }

same_totals : (a b c d a' b' c' d' : ℕ) → a ≡ a' → b ≡ b' → c ≡ c' → d ≡ d' → of_parts a b c d ≡ of_parts a' b' c' d'
same_totals a b c d a' b' c' d' p q r s = cc

module _ (desks : Desks) (past : List Entry) (c : Carry) (stands : StandsFor desks past)
    (follow : all_follow (setup_of desks) (records past) ≡ true) (is : c ≡ carry (setup_of desks) (records past)) where
  -- what the operator has
  available_is : available_held (setup_of desks) c (reserved_of desks) ≡ available (setup_of desks) past
  available_is =
      ap (λ (x : Carry). available_held (setup_of desks) x (reserved_of desks)) is
      ∙ available_carried (setup_of desks) (records past) stands.sound follow (reserved_of desks)
      ∙ ap (available_beside (setup_of desks) (records past)) (reserved_is desks past stands)

  reserved_all : reserved_held (setup_of desks) c + reserved_of desks ≡ reserved (setup_of desks) past
  reserved_all =
      ap₂ (λ m n. m + n) (ap (reserved_held (setup_of desks)) is
      ∙ reserved_carried (setup_of desks) (records past) stands.sound follow) (reserved_is desks past stands)

  -- by what a host reads of its carry and its desks, over a setup that is theirs
  module _ (setup : Setup) (same : setup ≡ setup_of desks) (beside : ℕ) (held : beside ≡ reserved_of desks) where
    pub available_by : (have : ℕ) → have ≡ available_held setup c 0 → have - beside ≡ available (setup_of desks) past
    available_by have told =
        ap₂ (λ m n. m - n) (told ∙ ap (λ s. available_held s c 0) same) held
        ∙ left_beside (setup_of desks) c (reserved_of desks) ∙ available_is

    pub totals_by : (have owed : ℕ) → have ≡ available (setup_of desks) past → owed ≡ owed_by setup c.orders
        → of_parts have (owed + c.odd_value + beside) c.paid_value c.sold ≡ totals (setup_of desks) past
    totals_by have owed told owes =
        same_totals have (owed + c.odd_value + beside) c.paid_value c.sold _ _ _ _ told
        (ap₂ (λ m n. m + c.odd_value + n) (owes ∙ ap (λ s. owed_by s c.orders) same) held ∙ reserved_all)
        (ap (λ (x : Carry). x.paid_value) is) (ap (λ (x : Carry). x.sold) is)

-- whether so much is available
less_no : (a b : ℕ) → b < a → nat_le a b ≡ false
less_no a b less = grind (arith, nat_tests)

pub enough_is : (setup : Setup) (past : List Entry) (have wanted : ℕ) → have ≡ available setup past → wanted ≤ have
    → None ≡ refusals.short_refusal setup past wanted
enough_is setup past have wanted known enough =
    sym (ap (λ b. cond b None (Some (Short (available setup past))))
    (le-leb wanted (available setup past) (omega (arith, known, enough))))

pub short_is : (setup : Setup) (past : List Entry) (have wanted : ℕ) → have ≡ available setup past → have < wanted
    → Some (Short have) ≡ refusals.short_refusal setup past wanted
short_is setup past have wanted known short =
    ap (λ n. Some (Short n)) known
    ∙ sym (ap (λ b. cond b None (Some (Short (available setup past))))
    (less_no wanted (available setup past) (omega (arith, known, short))))
