-- The carry of records that all follow is safe.
use Rattle.std.proofs.Common.{◌≡◌, ◌+◌, ◌*◌, ◌≤◌, ◌==◌, nat_le, not, refl, true, List, [], ◌∷◌, length, All, sym, ◌∙◌, subst, arith}
use Rattle.std.proofs.lemmas.Bool.{and_from, and_parts, eqb-false, le-leb, leb-true, ne_eqb, not-true, not_from_false}
use Rattle.std.proofs.lemmas.List.Elements.{All-head, All-tail, All-weaker}
use Rattle.std.proofs.lemmas.List.Sums.{AllPass-from_list_all, list_all-from_AllPass}
use Rattle.cct_model.specs.terms.device.Setup.{Setup}
use Rattle.cct_model.specs.terms.device.TheConstants.{DEVICES}
use Rattle.cct_model.specs.lines.record.Record.{Record}
use Rattle.cct_model.specs.lines.carry.Carry.{Carry}
use Rattle.cct_model.specs.lines.carry.CarryEpoch.{CarryEpoch}
use Rattle.cct_model.specs.lines.carry.CarryOrder.{CarryOrder}
use Rattle.cct_model.specs.Carried.{OrderFits}
use Rattle.cct_model.specs.Carry.{AreApart, Fits, IsOther, IsSafe, carry, owed_by}
use Rattle.cct_model.specs.Exchange.{device_at, hopper_there, taker_there}
use Rattle.cct_model.specs.Following.{all_follow}
use Rattle.cct_model.specs.Setup.{IsSoundSetup}
use Rattle.cct_record.specs.Body.{InRange}
use Rattle.cct_journal_carry.specs.Tests.{are_apart, fits}
use Rattle.cct_journal_carry.proofs.Coins.{worth_most}
use Rattle.cct_journal_carry.proofs.Follows.{follows_carried}
use Rattle.cct_journal_carry.proofs.Keeping.{in_reach, safe_empty, safe_next}
use Rattle.cct_journal_carry.proofs.Resumed.{carry_first}
use Rattle.cct_journal_carry.proofs.Steps.{carry_next}

pub carry_safe : (setup : Setup) (before : List Record) → IsSoundSetup setup
    → length setup.devices ≤ DEVICES → all_follow setup before ≡ true → All InRange before
    → IsSafe setup (length before) (carry setup before)
carry_safe setup [] sound devices ok fits =
    subst (λ c. IsSafe setup 0 c) (sym (carry_first setup)) (safe_empty setup 0)
carry_safe setup (r ∷ before) sound devices ok fits =
    let parts = and_parts _ _ ok in
    let safe = carry_safe setup before sound devices parts.1 (All-tail InRange r before fits) in
    let next = safe_next setup (length before) (carry setup before) r sound devices safe
    (follows_carried setup before sound parts.1 r ∙ parts.0) (in_reach r (All-head InRange r before fits)) in
    let many : length before + 1 ≡ length (r ∷ before) = omega arith in
    subst (λ n. IsSafe setup n (carry setup (r ∷ before))) many
    (subst (λ c. IsSafe setup (length before + 1) c) (carry_next setup before sound r ok) next)

-- what open orders are worth at most
pub owed_most : (setup : Setup) (orders : List CarryOrder) → IsSoundSetup setup → All OrderFits orders
    → owed_by setup orders ≤ 255000000 * length orders
owed_most setup [] sound fit = omega arith
owed_most setup (o ∷ orders) sound fit =
    let count = (All-head OrderFits o orders fit).count in
    let here = worth_most setup o.addr o.count 255 sound.devices (omega arith) in
    let later = owed_most setup orders sound (All-tail OrderFits o orders fit) in
    omega arith

-- the tests of a carry say what they are to say
apart_from : (orders : List CarryOrder) → are_apart orders ≡ true → AreApart orders
apart_from [] ok = tt
apart_from (o ∷ orders) ok =
    let parts = and_parts _ _ ok in
    let others = AllPass-from_list_all (λ (p : CarryOrder). not (p.id == o.id)) orders parts.0 in (
      All-weaker (λ (p : CarryOrder). not (p.id == o.id) ≡ true) (IsOther o.id)
          (λ p other. eqb-false p.id o.id (not-true (p.id == o.id) other)) orders others,
      apart_from orders parts.1,
    )

apart_to : (orders : List CarryOrder) → AreApart orders → are_apart orders ≡ true
apart_to [] apart = refl
apart_to (o ∷ orders) apart =
    and_from _ _ (list_all-from_AllPass (λ (p : CarryOrder). not (p.id == o.id)) orders
    (All-weaker (IsOther o.id) (λ (p : CarryOrder). not (p.id == o.id) ≡ true)
    (λ p other. not_from_false (p.id == o.id) (ne_eqb p.id o.id other)) orders apart.0)) (apart_to orders apart.1)

pub fits_from : (setup : Setup) (c : Carry) → fits setup c ≡ true → Fits setup c
fits_from setup c ok =
    let money = and_parts _ _ ok in
    let apart = and_parts _ _ money.0 in
    let ids = and_parts _ _ apart.0 in
    let kinds = and_parts _ _ ids.0 in
    record {
      epochs = AllPass-from_list_all (λ (e : CarryEpoch). taker_there (device_at setup.devices e.addr)) c.epochs kinds.0;
      orders = AllPass-from_list_all (λ (o : CarryOrder). hopper_there (device_at setup.devices o.addr)) c.orders kinds.1;
      ids = All-weaker (λ (o : CarryOrder). nat_le o.id c.last_id ≡ true) (λ o. o.id ≤ c.last_id)
          (λ o below. leb-true o.id c.last_id below) c.orders
          (AllPass-from_list_all (λ (o : CarryOrder). nat_le o.id c.last_id) c.orders ids.1);
      apart = apart_from c.orders apart.1;
      covered = leb-true _ _ money.1;
    }

pub fits_to : (setup : Setup) (c : Carry) → Fits setup c → fits setup c ≡ true
fits_to setup c ok =
    and_from _ _ (and_from _ _ (and_from _ _ (and_from _ _
    (list_all-from_AllPass (λ (e : CarryEpoch). taker_there (device_at setup.devices e.addr)) c.epochs ok.epochs)
    (list_all-from_AllPass (λ (o : CarryOrder). hopper_there (device_at setup.devices o.addr)) c.orders ok.orders))
    (list_all-from_AllPass (λ (o : CarryOrder). nat_le o.id c.last_id) c.orders
    (All-weaker (λ (o : CarryOrder). o.id ≤ c.last_id) (λ o. nat_le o.id c.last_id ≡ true)
    (λ o below. le-leb o.id c.last_id below) c.orders ok.ids)))
    (apart_to c.orders ok.apart)) (le-leb _ _ ok.covered)
