-- A device represents something that it met, whatever else it meets.
use Rattle.std.proofs.Common.{◌≡◌, ℕ, ◌≤◌, List, [], ◌∷◌, length, ap, refl, subst}
use Rattle.std.specs.Prelude.{unwrap_or}
use Rattle.std.proofs.Math.Bool.{Bool-set}
use Rattle.std.proofs.Math.Logic.{∥∥₁_elim, ∥∥₁_map}
use Rattle.std.proofs.Math.Bridge.{le_prop}
use Rattle.cct_model.specs.terms.device.DeviceSetup.{DeviceSetup}
use Rattle.cct_model.specs.Exchange.{answer}
use Rattle.cct_model.specs.History.{Met}
use Rattle.cct_model.specs.terms.device.DeviceBody.{DeviceBody}
use Rattle.cct_model.specs.terms.device.DeviceBody.TheVariants as body
use Rattle.cct_model.specs.terms.family.Family.TheVariants as family
use Rattle.cct_model.specs.terms.family.Happening.{Happening}
use Rattle.cct_model.specs.Device.{IsAcceptor, IsBill, IsHopper}
use Rattle.cct_model.specs.Family.{family_of, known_to}
use Rattle.cct_bus.specs.declared.body.Body.{Body}
use Rattle.cct_bus.specs.declared.body.Body.TheVariants.{Acceptor, Bill, Hopper}
use Rattle.cct_bus.specs.Body.{IsAtGap, KeepsGap, StandsFor, family_in}
use Rattle.cct_bus.specs.Room.{most_said}
use Rattle.cct_bus.proofs.Said.{said_room}

-- it represents that and one thing more
pub lives_on : (a b : Body) (d : DeviceSetup) (m : Met) → ∥ ((past : List Met) × StandsFor a d past) ∥₁
    → ((past : List Met) → StandsFor a d past → StandsFor b d (m ∷ past)) → ∥ ((past : List Met) × StandsFor b d past) ∥₁
lives_on a b d m lived step = ∥∥₁_map lived (λ h. (m ∷ h.0, step h.0 h.1))

-- whatever it met, its answer has its room
pub lives_short : (a : Body) (d : DeviceSetup) (piece said : List ℕ) → ∥ ((past : List Met) × StandsFor a d past) ∥₁
    → ((past : List Met) → StandsFor a d past → said ≡ unwrap_or (answer d past piece) [])
    → length said ≤ 260 → length said ≤ most_said d.addr piece
lives_short a d piece said lived tells fits =
    ∥∥₁_elim lived le_prop (λ h. said_room d h.0 piece said (tells h.0 h.1) fits)

family_stands : (a : Body) (d : DeviceSetup) (past : List Met) → StandsFor a d past → family_in a ≡ family_of d.body
family_stands (Acceptor a) d past so = accepting d.body so.kind
  where
    accepting : (b : DeviceBody) → IsAcceptor b → family.Acceptor ≡ family_of b
    accepting (body.Acceptor accepts values ids) kind = refl
    accepting (body.Hopper life value) kind = absurd kind
    accepting (body.Bill accepts values ids) kind = absurd kind
family_stands (Hopper h) d past so = paying d.body so.kind
  where
    paying : (b : DeviceBody) → IsHopper b → family.Hopper ≡ family_of b
    paying (body.Acceptor accepts values ids) kind = absurd kind
    paying (body.Hopper life value) kind = refl
    paying (body.Bill accepts values ids) kind = absurd kind
family_stands (Bill b) d past so = holding d.body so.kind
  where
    holding : (b : DeviceBody) → IsBill b → family.Bill ≡ family_of b
    holding (body.Acceptor accepts values ids) kind = absurd kind
    holding (body.Hopper life value) kind = absurd kind
    holding (body.Bill accepts values ids) kind = refl

-- and it knows what the family of its setup does
pub known_lived : (a : Body) (d : DeviceSetup) (what : Happening) → ∥ ((past : List Met) × StandsFor a d past) ∥₁
    → known_to what (family_in a) ≡ known_to what (family_of d.body)
known_lived a d what lived =
    ∥∥₁_elim lived (Bool-set _ _) (λ h. ap (known_to what) (family_stands a d h.0 h.1))

-- no byte came to it, as a struct keeps it and as it is reported
pub at_gap : (a : Body) → KeepsGap a → IsAtGap a
at_gap (Acceptor a) kept = kept.0 a refl
at_gap (Hopper h) kept = kept.1 h refl
at_gap (Bill b) kept = kept.2 b refl

pub keeps_gap : (a : Body) → IsAtGap a → KeepsGap a
keeps_gap (Acceptor a) gap = (λ o is. subst (λ x. IsAtGap x) is gap, λ h is. absurd cc, λ b is. absurd cc)
keeps_gap (Hopper h) gap = (λ a is. absurd cc, λ o is. subst (λ x. IsAtGap x) is gap, λ b is. absurd cc)
keeps_gap (Bill b) gap = (λ a is. absurd cc, λ h is. absurd cc, λ o is. subst (λ x. IsAtGap x) is gap)
