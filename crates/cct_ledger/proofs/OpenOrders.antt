-- Open orders in a list, found by their ids.
use Rattle.std.proofs.Common.{◌≡◌, ℕ, true, List, get_or, ap, sym, ◌∙◌, Option, Some, None, eqb-true}
use Rattle.std.specs.Prelude.{slice_get}
use Rattle.std.specs.List.{list_any, position}
use Rattle.std.proofs.lemmas.Option.{get_or_from_slice_get}
use Rattle.cct_model.specs.declared.judging.OpenOrder.{OpenOrder}
use Rattle.cct_ledger.specs.Orders.{has_id}
use Rattle.cct_ledger.proofs.Positions.{at_position, any_at}

-- an open order with an id is in a list at a place
pub record IsOpenAt (orders : List (Option OpenOrder)) (id place : ℕ) (o : OpenOrder) : Type 0 where
  pub there : slice_get orders place ≡ Some (Some o)
  pub own : o.id ≡ id
  pub is_any : list_any (has_id id) orders ≡ true

-- what is found by an id, in a list that was lent, is an open order with that id
has_order : (id : ℕ) (item found : Option OpenOrder) → item ≡ found → has_id id item ≡ true → has_id id found ≡ true
has_order id item found same passes = ap (has_id id) (sym same) ∙ passes

pub open_at : (orders lent : List (Option OpenOrder)) (id place : ℕ) (o : OpenOrder) → lent ≡ orders →
    Some place ≡ position (has_id id) orders → get_or lent place None ≡ Some o → IsOpenAt orders id place o
open_at orders lent id place o own is read =
    let at = at_position (has_id id) orders place (sym is) in
    let same : at.item ≡ Some o =
    sym (get_or_from_slice_get orders place at.item None at.there) ∙ ap
    (λ (os : List (Option OpenOrder)). get_or os place None) (sym own)
    ∙ read in
    let passes : has_id id (Some o) ≡ true = has_order id at.item (Some o) same at.passes in
    record {
      there = at.there ∙ ap Some same;
      own = eqb-true o.id id passes;
      is_any = any_at (has_id id) orders place at.item at.there at.passes;
    }

pub never_none : (orders lent : List (Option OpenOrder)) (id place : ℕ) → lent ≡ orders →
    Some place ≡ position (has_id id) orders → get_or lent place None ≡ None → ⊥
never_none orders lent id place own is read =
    let at = at_position (has_id id) orders place (sym is) in
    let same : at.item ≡ None =
    sym (get_or_from_slice_get orders place at.item None at.there) ∙ ap
    (λ (os : List (Option OpenOrder)). get_or os place None) (sym own)
    ∙ read in
    let passes : has_id id None ≡ true = has_order id at.item None same at.passes in
    cc
