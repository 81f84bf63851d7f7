-- A device of a family that knows what happens to it.
use Rattle.std.proofs.Common.{◌≡◌, Bool, true, false, Option, Some, None, refl, subst, sym}
use Rattle.std.specs.Prelude.{IsTrue, MatchBool, is_some}
use Rattle.cct_model.specs.terms.device.DeviceSetup.{DeviceSetup}
use Rattle.cct_model.specs.terms.family.Happening.{Happening}
use Rattle.cct_model.specs.Exchange.{known_there}
use Rattle.cct_model.specs.Family.{family_of, known_to}
use Rattle.cct_model.specs.Legal.{OfKnowing}

-- it is there
pub is_there : (what : Happening) (found : Option DeviceSetup) → IsTrue (known_there what found) → IsTrue (is_some found)
is_there what None known = absurd cc
is_there what (Some d) known = refl

-- the one that was found knows it
pub found_knows : (what : Happening) (found : Option DeviceSetup) (d : DeviceSetup) → found ≡ Some d →
    IsTrue (known_there what found) → known_to what (family_of d.body) ≡ true
found_knows what None d is known = absurd cc
found_knows what (Some e) d is known =
    let same : e ≡ d = cc in
    subst (λ x. known_to what (family_of x.body) ≡ true) same known

-- a fact of the one that was found
pub of_known : (what : Happening) (found : Option DeviceSetup) (d : DeviceSetup) (P : DeviceSetup → Type 0) →
    found ≡ Some d → IsTrue (known_there what found) → P d → OfKnowing what found P
of_known what None d P is known fact = absurd cc
of_known what (Some e) d P is known fact =
    let same : e ≡ d = cc in
    by_test (known_to what (family_of e.body)) known (subst P (sym same) fact)
  where
    by_test : (test : Bool) → IsTrue test → P e → MatchBool test (P e) ⊥
    by_test true holds fact = fact
    by_test false holds fact = absurd cc

-- what its fact makes of it, and of anything else
pub knowing_both : (what : Happening) (found : Option DeviceSetup) (P Q : DeviceSetup → Type 0) (A : Type 0) →
    ((d : DeviceSetup) → found ≡ Some d → P d → Q d × A) → OfKnowing what found P → OfKnowing what found Q × A
knowing_both what None P Q A makes fact = absurd fact
knowing_both what (Some d) P Q A makes fact = by_test (known_to what (family_of d.body)) fact
  where
    by_test : (test : Bool) → MatchBool test (P d) ⊥ → MatchBool test (Q d) ⊥ × A
    by_test true fact = makes d refl fact
    by_test false fact = absurd fact
