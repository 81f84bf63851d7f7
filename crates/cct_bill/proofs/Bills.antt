-- What a bill makes of what a bill acceptor holds.
use Rattle.std.proofs.Common.{◌≡◌, ℕ, suc, ◌&&◌, Bool, true, false, List, [], ◌∷◌, refl, ap, ◌∙◌, Option, Some, None}
use Rattle.std.specs.Prelude.{is_none}
use Rattle.cct_model_wire.specs.declared.request.TheConstants.{RETURN_CODE, STACK_CODE}
use Rattle.cct_model_wire.specs.declared.request.Request.TheVariants.{RouteBill}
use Rattle.cct_model_wire.specs.Acceptor.{accepts, settings}
use Rattle.cct_model_wire.specs.Bill.{bill_events, bill_held, held_with, holds, is_way, stacked_bills}
use Rattle.cct_model_wire.specs.History.{Met, coin, heard}
use Rattle.cct_model_wire.specs.Setting.{Setting, mask_set, master_set, path_set, default_set, mask_in, is_normal_in, has_place, accepts_in}
use Rattle.cct_device_intake.specs.declared.intake.Intake.{Intake}
use Rattle.cct_device_intake.specs.Intake.{Holds, IsInhibits}
use Rattle.cct_bill.specs.Bill.{inhibits_in}

-- the settings of the inhibits have the mask of all
mask_kept : (set : List Setting) → mask_in (inhibits_in set) ≡ mask_in set
mask_kept [] = refl
mask_kept (mask_set mask ∷ set) = refl
mask_kept (master_set value ∷ set) = mask_kept set
mask_kept (path_set place path ∷ set) = mask_kept set
mask_kept (default_set path ∷ set) = mask_kept set

-- and their master inhibit
normal_kept : (set : List Setting) → is_normal_in (inhibits_in set) ≡ is_normal_in set
normal_kept [] = refl
normal_kept (mask_set mask ∷ set) = normal_kept set
normal_kept (master_set value ∷ set) = refl
normal_kept (path_set place path ∷ set) = normal_kept set
normal_kept (default_set path ∷ set) = normal_kept set

-- so they leave the inhibits
pub settings_inhibit : (past : List Met) → IsInhibits (inhibits_in (settings past)) past
settings_inhibit past = record { mask = mask_kept (settings past); normal = normal_kept (settings past) }

-- and let in the bills of the same places
pub lets_in : (past : List Met) (place : ℕ) → accepts_in (inhibits_in (settings past)) place ≡ accepts past place
lets_in past place =
    ap (λ mask. has_place mask place && is_normal_in (inhibits_in (settings past))) (mask_kept (settings past))
    ∙ ap (λ normal. has_place (mask_in (settings past)) place && normal) (normal_kept (settings past))

-- the escrow after a bill that is held, and after one that isn't
held_now : (place : ℕ) (lets : Bool) (before : Option ℕ) → (lets && is_none before) ≡ true → Some place ≡ held_with place lets before
held_now place true None e = refl
held_now place true (Some other) e = absurd cc
held_now place false None e = absurd cc
held_now place false (Some other) e = absurd cc

held_before : (place : ℕ) (lets : Bool) (before : Option ℕ) → (lets && is_none before) ≡ false → before ≡ held_with place lets before
held_before place true None e = absurd cc
held_before place true (Some other) e = refl
held_before place false None e = refl
held_before place false (Some other) e = refl

pub held_is : (past : List Met) (place : ℕ) → holds past place ≡ true → Some place ≡ bill_held (coin place ∷ past)
held_is past place e = held_now place (accepts past place) (bill_held past) e

pub held_stays : (past : List Met) (place : ℕ) → holds past place ≡ false → bill_held past ≡ bill_held (coin place ∷ past)
held_stays past place e = held_before place (accepts past place) (bill_held past) e

-- a bill that is held is the event of its place and 1
pub held_holds : (intake : Intake) (start : ℕ) (past : List Met) (place : ℕ) → holds past place ≡ true
    → Holds intake start (inhibits_in (settings past)) (record { a = place; b = 1 } ∷ bill_events past) (stacked_bills past)
    → Holds intake start (inhibits_in (settings (coin place ∷ past))) (bill_events (coin place ∷ past)) (stacked_bills (coin place ∷ past))
held_holds intake start past place e so = rw e so

-- one that isn't is error 2
pub inhibited_holds : (intake : Intake) (start : ℕ) (past : List Met) (place : ℕ) → holds past place ≡ false
    → Holds intake start (inhibits_in (settings past)) (record { a = 0; b = 2 } ∷ bill_events past) (stacked_bills past)
    → Holds intake start (inhibits_in (settings (coin place ∷ past))) (bill_events (coin place ∷ past)) (stacked_bills (coin place ∷ past))
inhibited_holds intake start past place e so = rw e so

-- what a bill acceptor holds after a request that routes a bill
abbrev pub Routes : Intake → ℕ → List Met → ℕ → Type 0
Routes intake start past way =
    Holds intake start (inhibits_in (settings (heard (Some (RouteBill way)) ∷ past))) (bill_events (heard (Some (RouteBill way)) ∷ past)) (stacked_bills (heard (Some (RouteBill way)) ∷ past))

-- a held bill that is stacked is the event of its place and 0, and the accept counter rises
pub stacked_holds : (intake : Intake) (start : ℕ) (past : List Met) (place : ℕ) → bill_held past ≡ Some place
    → Holds intake start (inhibits_in (settings past)) (record { a = place; b = 0 } ∷ bill_events past) (suc (stacked_bills past))
    → Routes intake start past STACK_CODE
stacked_holds intake start past place is so = rw is so

-- one that is given back is error 1
pub returned_holds : (intake : Intake) (start : ℕ) (past : List Met) (place : ℕ) → bill_held past ≡ Some place
    → Holds intake start (inhibits_in (settings past)) (record { a = 0; b = 1 } ∷ bill_events past) (stacked_bills past)
    → Routes intake start past RETURN_CODE
returned_holds intake start past place is so = rw is so

-- a held bill that is routed is held no longer
pub held_no_more : (past : List Met) (way : ℕ) → is_way way ≡ true → None ≡ bill_held (heard (Some (RouteBill way)) ∷ past)
held_no_more past way e = rw e refl

both_false : (lets : Bool) → false ≡ (lets && false)
both_false true = refl
both_false false = refl

both_true : (lets : Bool) → lets ≡ (lets && true)
both_true true = refl
both_true false = refl

-- where one is held no other is, and where none is the inhibits decide
pub not_beside : (past : List Met) (place other : ℕ) → bill_held past ≡ Some other → false ≡ holds past place
not_beside past place other is = rw is (both_false (accepts past place))

pub as_inhibited : (past : List Met) (place : ℕ) (lets : Bool) → bill_held past ≡ None → lets ≡ accepts past place → lets ≡ holds past place
as_inhibited past place lets none e = e ∙ rw none (both_true (accepts past place))
