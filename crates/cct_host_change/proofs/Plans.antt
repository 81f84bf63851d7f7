-- A plan of an amount pays some coin.
use Rattle.std.proofs.Common.{◌≡◌, ◌≢◌, ℕ, ◌+◌, ◌*◌, ◌<◌, ◌^◌, ◌==◌, drop, get_or, MatchOption, Bool, true, false, List, [], ◌∷◌, length, refl, sym, ap, ◌∙◌, arith, cond, Option, Some, None, eq-eqb}
use Rattle.std.proofs.lemmas.Bool.{eqb-true}
use Rattle.cct_model.specs.declared.change.Tray.{Tray}
use Rattle.std.specs.Option.{IfSome, option_map}
use Rattle.std.proofs.lemmas.List.{drop_more}
use Rattle.cct_model.specs.declared.change.Payment.{Payment}
use Rattle.cct_model.specs.declared.change.Session.{Session}
use Rattle.cct_model.specs.Change.{IsStuck, PaysNext, first_pay}
use Rattle.cct_model.specs.Plan.{AreWithin, IsChosen, worth}

-- there is one count for each tray
pub one_each : (trays : List Tray) (counts : List ℕ) → AreWithin trays counts → length counts ≡ length trays
one_each [] [] within = refl
one_each [] (c ∷ cs) within = absurd within
one_each (t ∷ ts) [] within = absurd within
one_each (t ∷ ts) (c ∷ cs) within = omega (arith, one_each ts cs within.1)

none_here : (none : Bool) (found : ℕ × ℕ) (rest : Option (ℕ × ℕ)) → cond none rest (Some found) ≡ None → (none ≡ true) × (rest ≡ None)
none_here true found rest is = (refl, is)
none_here false found rest is = absurd cc

-- where no coin is paid, the counts are worth nothing
pub none_paid : (trays : List Tray) (counts : List ℕ) → first_pay trays counts ≡ None → worth trays counts ≡ 0
none_paid [] counts is = refl
none_paid (t ∷ ts) [] is = refl
none_paid (t ∷ ts) (c ∷ cs) is =
    let parts : ((c == 0) ≡ true) × (first_pay ts cs ≡ None) = none_here (c == 0) (t.addr, c) (first_pay ts cs) is in
    let none : c ≡ 0 = eqb-true c 0 parts.0 in
    let rest : worth ts cs ≡ 0 = none_paid ts cs parts.1 in
    ap (λ n. n * t.value + worth ts cs) none ∙ omega (arith, rest)

-- a tray of which no coin is taken is passed over
passed : (none : Bool) (found : ℕ × ℕ) (rest : Option (ℕ × ℕ)) → none ≡ true → cond none rest (Some found) ≡ rest
passed true found rest is = refl
passed false found rest is = absurd cc

pub first_past : (trays : List Tray) (counts : List ℕ) (i : ℕ) → i < length trays → length counts ≡ length trays
    → get_or counts i 0 ≡ 0 → first_pay (drop (i + 1) trays) (drop (i + 1) counts) ≡ first_pay (drop i trays) (drop i counts)
first_past trays counts i some same none =
    let t : Tray = record { addr = 0; value = 0; stock = 0 } in
    sym (ap (λ ts. first_pay ts (drop i counts)) (drop_more trays i t some)
    ∙ ap (first_pay (get_or trays i t ∷ drop (i + 1) trays)) (drop_more counts i 0 (omega arith))
    ∙ passed (get_or counts i 0 == 0) ((get_or trays i t).addr, get_or counts i 0) _ (eq-eqb (get_or counts i 0) 0 none))

-- the first count of the chosen plan that isn't 0 is the next payment, and there is one
pub planned : (result : Option Payment) (trays : List Tray) (counts : List ℕ) (s : Session) (id : ℕ)
    → option_map (λ (p : Payment). (p.addr, p.count)) result ≡ first_pay trays counts → IfSome result (λ p. p.id ≡ id)
    → s.next ≡ id → id < 2 ^ 32 → s.rest ≢ 0 → IsChosen trays s.rest counts
    → MatchOption result (IsStuck trays s) (λ p. PaysNext trays s p)
planned None trays counts s id first named next fits rest chosen =
    absurd (rest (sym chosen.fewest.plan.pays ∙ none_paid trays counts (sym first)))
planned (Some p) trays counts s id first named next fits rest chosen = record {
  counts = counts;
  chosen = chosen;
  pays = sym first;
  id = named ∙ sym next;
  within = omega (arith, next, fits);
}
