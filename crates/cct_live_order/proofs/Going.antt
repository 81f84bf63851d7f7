-- The records that were read so far, and what they show of an order.
use Rattle.std.proofs.Common.{◌≡◌, ◌∙◌, ℕ, ◌+◌, ◌-◌, List, [], ◌∷◌, ◌++◌, length, reverse, Option, Some, Result, Ok, Err, refl, sym, ap, subst, append_assoc, arith}
use Rattle.std.specs.List.{slice_get}
use Rattle.std.specs.Prelude.{IfErr, IfOk}
use Rattle.std.proofs.lemmas.List.{append-nil, length-append, length-reverse, nil_from_length, reverse-append, reverse-reverse}
use Rattle.std.proofs.lemmas.Option.{same_Some}
use Rattle.cct_model.specs.lines.carry.Carry.{Carry}
use Rattle.cct_model.specs.lines.record.Record.{Record}
use Rattle.cct_journal.specs.Image.{HasFrom}
use Rattle.cct_journal.specs.Opening.{RefusesOpen}
use Rattle.cct_journal.specs.Stands.{ReadsFrom}
use Rattle.cct_journal.specs.declared.refusal.OpenNo.{OpenNo}
use Rattle.cct_journal.specs.declared.refusal.OpenNo.TheVariants.{Disk}
use Rattle.cct_journal.specs.declared.place.Place.{Place}
use Rattle.cct_live_order.specs.Told.{order_in, told_after}
use Rattle.cct_live_order.specs.Looking.{IsKnownBy, Looks, ReadsNext}
use Rattle.cct_live_order.specs.declared.told.OrderTold.{OrderTold}
use Rattle.cct_live_order.specs.declared.told.OrderTold.TheVariants.{Unknown}

-- So many were read that the index is reached: the first of each list that is held.
pub record Going (holds : List Record → Type 0) (base id : ℕ) (told : OrderTold) (index : ℕ) : Type 0 where
  pub before : List Record
  pub count : index ≡ base + length before
  pub is : told ≡ order_in id before
  pub first : (rest : List Record) → holds rest → (later : List Record) × (rest ≡ reverse before ++ later)

pub going_starts : (holds : List Record → Type 0) (base id : ℕ) → Going holds base id Unknown base
going_starts holds base id = record { before = []; count = omega arith; is = refl; first = λ rest held. (rest, refl) }

-- the record after the first ones is that of their number
after_first : (first later : List Record) (r : Record) → slice_get (first ++ later) (length first) ≡ Some r →
    (rest : List Record) × (later ≡ r ∷ rest)
after_first [] [] r is = absurd cc
after_first [] (x ∷ rest) r is = (rest, cc)
after_first (x ∷ first) later r is = after_first first later r is

next_is : (before rest later : List Record) (place : ℕ) (r : Record) → rest ≡ reverse before ++ later →
    place ≡ length before → slice_get rest place ≡ Some r → (more : List Record) × (rest ≡ reverse before ++ r ∷ more)
next_is before rest later place r split at is =
    let here : slice_get (reverse before ++ later) (length (reverse before)) ≡ Some r =
    ap (slice_get (reverse before ++ later)) (length-reverse before ∙ sym at)
    ∙ ap (λ l. slice_get l place) (sym split) ∙ is in
    let found = after_first (reverse before) later r here in
    (found.0, split ∙ ap (λ l. reverse before ++ l) found.1)

-- one more
pub going_on : {holds : List Record → Type 0} {base id : ℕ} {told : OrderTold} {index : ℕ} →
    Going holds base id told index → (here : List Record → Type 0) (own : ℕ) → own ≡ base →
    ((rest : List Record) → holds rest → here rest) → (now : OrderTold) → ReadsNext here own index id told now →
    Going holds base id now (index + 1)
going_on {holds} {base} {id} {told} {index} going here own same still now one =
    let before = going.before in
    let r = one.0 in
    let place : index - own ≡ length before = omega (arith, same, going.count) in record {
      before = r ∷ before;
      count = omega (arith, going.count);
      is = one.2 ∙ told_same r before going.is;
      first = λ rest held.
          let front = going.first rest held in
          let next = next_is before rest front.0 (index - own) r front.1 place (one.1 rest (still rest held)) in (
            next.0,
            next.1 ∙ sym (append_assoc (reverse before) (r ∷ []) next.0)
                ∙ ap (λ l. l ++ next.0) (sym (reverse-append (r ∷ []) before)),
          );
    }
  where
    told_same : (r : Record) (before : List Record) → told ≡ order_in id before →
        told_after id r told ≡ order_in id (r ∷ before)
    told_same r before is = ap (told_after id r) is

-- all of them
pub going_all : {holds : List Record → Type 0} {base id : ℕ} {told : OrderTold} {index : ℕ} →
    Going holds base id told index → ((rest : List Record) → holds rest → index ≡ base + length rest) →
    (rest : List Record) → holds rest → told ≡ order_in id (reverse rest)
going_all {holds} {base} {id} going many rest held =
    let before = going.before in
    let front = going.first rest held in
    let none : length front.0 ≡ 0 =
    omega (arith, many rest held, going.count, ap length front.1, length-append (reverse before) front.0, length-reverse before) in
    let all : rest ≡ reverse before =
    front.1 ∙ ap (λ l. reverse before ++ l) (nil_from_length front.0 none) ∙ append-nil (reverse before) in
    going.is ∙ ap (order_in id) (sym (reverse-reverse before) ∙ ap reverse (sym all))

-- what a read gives of a place is what its image has
pub reads_has : {D : Type 0} (seen : D → Option (List ℕ)) (disk : D) (place : Place) (image : List ℕ) (rest : List Record) →
    seen disk ≡ Some image → ReadsFrom seen disk place rest → HasFrom image place.base place.carry rest
reads_has seen disk place image rest told reads =
    subst (λ i. HasFrom i place.base place.carry rest) (same_Some reads.image image (sym reads.tells ∙ told))
    (record { second = place.second; generation = place.generation; current = reads.has })

-- what was looked up in a journal that was opened is what its image shows
pub looked : (image : List ℕ) (id base : ℕ) (c : Carry) (rest : List Record) (holds : List Record → Type 0)
    (result : Result OrderTold OpenNo) → HasFrom image base c rest → holds rest →
    IfOk result (IsKnownBy holds id) → IfErr result (λ why. (rest : List Record) → holds rest → why ≡ Disk) →
    Looks image id result
looked image id base c rest holds (Ok told) has held known refused = (base, c, rest, has, known rest held)
looked image id base c rest holds (Err why) has held known refused =
    subst (λ w. RefusesOpen w image) (sym (refused rest held)) tt
