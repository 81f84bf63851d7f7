-- Looking up and setting, as the code does it.
use Rattle.std.proofs.Common.{◌≡◌, ℕ, suc, ◌+◌, ◌<◌, ◌≤◌, ◌==◌, cond, ltb, true, false, List, [], ◌∷◌, ◌++◌, length, take, drop, Option, Some, None, refl, ap, sym, ◌∙◌, subst, arith, eq-eqb, eqb-true, true≢false, length-append}
use Rattle.std.specs.Prelude.{insert, remove, slice_get}
use Rattle.std.specs.List.{find, prefix_len}
use Rattle.std.proofs.lemmas.Bool.{cond-false, cond-true, le-ltb, lt-ltb}
use Rattle.std.proofs.lemmas.List.{length-take-le, take-append-drop}
use Rattle.std.proofs.lemmas.List.Sums.{prefix_len-le-length}
use Rattle.std.specs.Option.{option_map}
use Rattle.cct_model.specs.lines.carry.Carry.{Carry}
use Rattle.cct_model.specs.lines.carry.CarryEpoch.{CarryEpoch}
use Rattle.cct_model.specs.lines.carry.CarryOrder.{CarryOrder}
use Rattle.cct_model.specs.declared.judging.EpochState.{EpochState}
use Rattle.cct_model.specs.declared.judging.OpenOrder.{OpenOrder}
use Rattle.cct_model.specs.Carried.{addr_of_epoch, addr_of_order, first_with, id_of_order, set_with, with_some}
use Rattle.cct_journal_carry.specs.Places.{TakesOut, has_key}
use Rattle.cct_journal_carry.proofs.Sets.{by_order, set_before, set_here, set_past}
use Rattle.cct_model.specs.Carry.{epoch_from, epoch_held, order_from, order_held, order_with}

-- what a search finds is the first with a key
pub found_first : {X : Type 0} (key : X → ℕ) (wanted : ℕ) (xs : List X)
    → find (λ x. key x == wanted) xs ≡ first_with key wanted xs
found_first key wanted [] = refl
found_first key wanted (x ∷ xs) = ap (λ rest. cond (key x == wanted) (Some x) rest) (found_first key wanted xs)

-- so is the epoch that is held there
pub epoch_found : (addr : ℕ) (c : Carry) (epochs : List CarryEpoch) (found : Option CarryEpoch) (state : EpochState)
    → state ≡ epoch_from found → found ≡ find (λ e. e.addr == addr) epochs → epochs ≡ c.epochs
    → state ≡ epoch_held addr c
epoch_found addr c epochs found state is by_find same =
    is ∙ ap epoch_from (by_find ∙ found_first addr_of_epoch addr epochs)
    ∙ ap (λ es. epoch_from (first_with addr_of_epoch addr es)) same

-- and the order, by its address or by its id
pub order_found : (addr : ℕ) (c : Carry) (orders : List CarryOrder) (found : Option CarryOrder)
    (owed : Option OpenOrder) → owed ≡ option_map order_from found → found ≡ find (λ o. o.addr == addr) orders
    → orders ≡ c.orders → owed ≡ order_held addr c
order_found addr c orders found owed is by_find same =
    is ∙ ap (option_map order_from) (by_find ∙ found_first addr_of_order addr orders)
    ∙ ap (λ os. option_map order_from (first_with addr_of_order addr os)) same

pub named_found : (id : ℕ) (c : Carry) (orders : List CarryOrder) (found : Option CarryOrder)
    (owed : Option OpenOrder) → owed ≡ option_map order_from found → found ≡ find (λ o. o.id == id) orders
    → orders ≡ c.orders → owed ≡ order_with id c
named_found id c orders found owed is by_find same =
    is ∙ ap (option_map order_from) (by_find ∙ found_first id_of_order id orders)
    ∙ ap (λ os. option_map order_from (first_with id_of_order id os)) same

-- what is put in after a front is after it
insert_after : {X : Type 0} (front later : List X) (x : X) → insert (front ++ later) (length front) x ≡ front ++ x ∷ later
insert_after [] later x = refl
insert_after (y ∷ front) later x = ap (λ rest. y ∷ rest) (insert_after front later x)

module _ {X : Type 0} (key : X → ℕ) (wanted : ℕ) where
  -- how many stand before the place of a key
  abbrev place_in : List X → ℕ
  place_in xs = prefix_len (λ x. ltb (key x) wanted) xs

  place_past : (x : X) (xs : List X) → key x < wanted → place_in (x ∷ xs) ≡ suc (place_in xs)
  place_past x xs less =
      let one : 1 + place_in xs ≡ suc (place_in xs) = omega arith in
      cond-true (ltb (key x) wanted) (1 + place_in xs) 0 (lt-ltb (key x) wanted less) ∙ one

  place_here : (x : X) (xs : List X) → wanted ≤ key x → place_in (x ∷ xs) ≡ 0
  place_here x xs above = cond-false (ltb (key x) wanted) (1 + place_in xs) 0 (le-ltb (key x) wanted above)

  -- setting, by what is at an index
  record SplitsAt (new : Option X) (xs : List X) (n : ℕ) : Type 0 where
    pub there : has_key key wanted (slice_get xs n) ≡ true
        → set_with key wanted new xs ≡ take n xs ++ with_some new (drop (suc n) xs)
    pub none : has_key key wanted (slice_get xs n) ≡ false
        → set_with key wanted new xs ≡ take n xs ++ with_some new (drop n xs)

  set_splits : (new : Option X) (xs : List X) → SplitsAt new xs (place_in xs)
  set_splits new [] = record { there = λ is. absurd cc; none = λ is. refl }
  set_splits new (x ∷ xs) =
      let later = set_splits new xs in
      let At : ℕ → Type 0 = λ n. SplitsAt new (x ∷ xs) n in
      by_order (key x) wanted
      (λ less. subst At (sym (place_past x xs less)) (record {
        there = λ is. set_past key wanted new x xs less ∙ ap (λ rest. x ∷ rest) (later.there is);
        none = λ is. set_past key wanted new x xs less ∙ ap (λ rest. x ∷ rest) (later.none is);
      }))
      (λ same. subst At (sym (place_here x xs (omega arith))) (record {
        there = λ is. set_here key wanted new x xs same;
        none = λ is. absurd (true≢false (sym (eq-eqb (key x) wanted same) ∙ is));
      }))
      (λ more. subst At (sym (place_here x xs (omega arith))) (record {
        there = λ is. let same = eqb-true (key x) wanted is in absurd (omega arith);
        none = λ is. set_before key wanted new x xs more;
      }))

  -- what is there is taken out
  pub takes_out : (xs : List X) (n : ℕ) → n ≡ place_in xs → has_key key wanted (slice_get xs n) ≡ true
      → TakesOut key wanted xs n (remove xs n)
  takes_out xs n is there =
      let splits = λ (new : Option X). subst (λ k. SplitsAt new xs k) (sym is) (set_splits new xs) in
      let within : n ≤ length xs = omega (arith, prefix_len-le-length (λ x. ltb (key x) wanted) xs) in
      let front : length (take n xs) ≡ n = length-take-le n xs within in
      let whole = length-append (take n xs) (drop (suc n) xs) in
      record {
        taken = sym ((splits None).there there);
        within = omega arith;
        longer = λ x.
            let set = ap length ((splits (Some x)).there there) in
            let parts = length-append (take n xs) (x ∷ drop (suc n) xs) in
            omega arith;
        inserted = λ x. ap (λ k. insert (remove xs n) k x) (sym front)
            ∙ insert_after (take n xs) (drop (suc n) xs) x ∙ sym ((splits (Some x)).there there);
      }

  -- where none stands, none is
  pub leaves_all : (xs : List X) (n : ℕ) → n ≡ place_in xs → has_key key wanted (slice_get xs n) ≡ false
      → TakesOut key wanted xs n xs
  leaves_all xs n is none =
      let splits = λ (new : Option X). subst (λ k. SplitsAt new xs k) (sym is) (set_splits new xs) in
      let within : n ≤ length xs = omega (arith, prefix_len-le-length (λ x. ltb (key x) wanted) xs) in
      let whole = ap length (take-append-drop n xs) in
      let old = length-append (take n xs) (drop n xs) in
      record {
        taken = sym ((splits None).none none ∙ take-append-drop n xs);
        within = within;
        longer = λ x.
            let set = ap length ((splits (Some x)).none none) in
            let parts = length-append (take n xs) (x ∷ drop n xs) in
            omega arith;
        inserted = λ x. sym ((splits (Some x)).none none);
      }

  -- as the code sees the list
  pub taken_seen : (old seen seen_then left : List X) (n : ℕ) → seen ≡ old → n ≡ place_in seen → seen_then ≡ old
      → true ≡ has_key key wanted (slice_get seen_then n) → left ≡ remove old n → TakesOut key wanted old n left
  taken_seen old seen seen_then left n is place is_then there removed =
      subst (λ rest. TakesOut key wanted old n rest) (sym removed)
      (takes_out old n (place ∙ ap place_in is)
      (sym (there ∙ ap (λ xs. has_key key wanted (slice_get xs n)) is_then)))

  pub left_seen : (old seen seen_then : List X) (n : ℕ) → seen ≡ old → n ≡ place_in seen → seen_then ≡ old
      → false ≡ has_key key wanted (slice_get seen_then n) → TakesOut key wanted old n old
  left_seen old seen seen_then n is place is_then none =
      leaves_all old n (place ∙ ap place_in is)
      (sym (none ∙ ap (λ xs. has_key key wanted (slice_get xs n)) is_then))
