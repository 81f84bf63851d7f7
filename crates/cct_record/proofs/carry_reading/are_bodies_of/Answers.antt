use Rattle.std.proofs.Common.{◌≡◌, Bool, List, subst, ◌∙◌}
use Rattle.std.specs.Bool.{Decides}
use Rattle.std.proofs.lemmas.Slice.Eq.{slice_eq-Decides, bytes_eq-Decides}
use Rattle.cct_record.proofs.carry_reading.are_bodies_of.Goals as goal

-- What is decided of one list is so of another that is the same.
decides_same : {A : Type 0} (r : Bool) (xs ys zs : List A) → xs ≡ zs → Decides r (xs ≡ ys) → Decides r (zs ≡ ys)
decides_same r xs ys zs same decides = subst (λ x. Decides r (x ≡ ys)) same decides

pub returns : goal.returns
returns c =
    decides_same c.eq.result c.as_slice.result.now c.args.bodies.now _
    (c.as_slice.ensures.value ∙ c.encode_carry.ensures)
    (slice_eq-Decides bytes_eq-Decides c.as_slice.result.now c.args.bodies.now c.eq.result c.eq.ensures)
