use Rattle.std.proofs.Common.{◌≡◌, ℕ, ◌*◌, ◌^◌, ◌≤◌, ◌↔◌, ◌∷◌, [], List, Bool, IsTrue, arith, lit<}
use Rattle.std.specs.Prelude.{All}
use Rattle.std.proofs.lemmas.List.Elements.{All-from_recursion}
use Rattle.cct_model_lines.specs.Carried.{AreSmall}
use Rattle.cct_model_lines.specs.declared.carry.Carry.{Carry}
use Rattle.cct_record.proofs.carry_reading.are_small.Goals as goal

-- The eight sums of a carry.
abbrev sums_of : Carry → List ℕ
sums_of c = c.value ∷ c.paid_value ∷ c.odd_value ∷ c.posted ∷ c.lost ∷ c.paid ∷ c.unpaid ∷ c.sold ∷ []

-- Each of the eight is small exactly if all of them are.
each_small : (r : Bool) (base most : ℕ) (c : Carry) → most ≡ base * 4294967296
    → (IsTrue r ↔ All (λ sum. sum ≤ most) (sums_of c)) → IsTrue r ↔ AreSmall base c
each_small r base most c is all =
    let at_most : (sum : ℕ) → sum ≤ most → sum ≤ 2 ^ 32 * base = λ sum small. omega arith in
    let within : (sum : ℕ) → sum ≤ 2 ^ 32 * base → sum ≤ most = λ sum small. omega arith in (
      λ tested. let every = all.0 tested in record {
        value = at_most c.value (every 0 0 (lit< tt));
        paid_value = at_most c.paid_value (every 1 0 (lit< tt));
        odd_value = at_most c.odd_value (every 2 0 (lit< tt));
        posted = at_most c.posted (every 3 0 (lit< tt));
        lost = at_most c.lost (every 4 0 (lit< tt));
        paid = at_most c.paid (every 5 0 (lit< tt));
        unpaid = at_most c.unpaid (every 6 0 (lit< tt));
        sold = at_most c.sold (every 7 0 (lit< tt));
      },
      λ small. all.1 (All-from_recursion (λ sum. sum ≤ most) (sums_of c) (
        within c.value small.value,
        (
          within c.paid_value small.paid_value,
          (
            within c.odd_value small.odd_value,
            (
              within c.posted small.posted,
              (
                within c.lost small.lost,
                (
                  within c.paid small.paid,
                  (within c.unpaid small.unpaid, (within c.sold small.sold, tt)),
                ),
              ),
            ),
          ),
        ),
      )),
    )

pub returns : goal.returns
returns c =
    each_small c.are_at_most.result c.args.base (c.from.result * 4294967296) c.args.carry.now
    (grind (arith, c.from.ensures)) c.are_at_most.ensures
