-- What one call more makes of a part.
use Rattle.std.proofs.Common.{inl, inr, ⊎_elim, ℕ, List, ◌∷◌, arith}
use Rattle.cct_disk.specs.declared.disk.Disk.{Ghosts}
use Rattle.cct_disk.specs.Disk.{Elapses, LeavesOnly}
use Rattle.cct_disk_queue.specs.Obeyed.{HasMade}
use Rattle.cct_disk_queue.specs.Calls.{Act, Since}
use Rattle.cct_disk_queue.specs.Queue.{now_counts}

-- one call more: what might have been left before it still might
pub since_more : (base : List ℕ) (call : Act) (before : List Act) (image : List ℕ)
    → Since base before 0 image → Since base (call ∷ before) 0 image
since_more base call before image is = inr (omega arith, is)

module _ {D : Type 0} (g : Ghosts D) (old new : D) (base : List ℕ) (call : Act) (before : List Act)
    (so_far : HasMade g.honest g.seen g.may_leave old base before) where
  -- at each moment of the call
  pub call_moments : ((c : List ℕ) → g.left_since old (g.moment old) c → g.may_leave old c)
      → Elapses g.moment g.left_since g.may_leave old new
      → ((c : List ℕ) → g.may_leave new c → Since base (call ∷ before) 0 c)
      → LeavesOnly g.moment g.left_since old new (Since base (call ∷ before) 0)
  call_moments only_now time now = record {
    later = time.later;
    each = λ c left. ⊎_elim
        (λ past. since_more base call before c
        (now_counts base before 0 c (so_far.images c (only_now c past))))
        (now c) (time.nothing_else (g.moment old) c (omega arith) left);
    before = λ t c le left. ⊎_elim (λ past. inl past) (λ is. inr (now c is)) (time.nothing_else t c le left);
  }

-- one run after another
pub then_leaves : {D : Type 0} (moment : D → ℕ) (left_since : D → ℕ → List ℕ → Type 0) (first mid last : D)
    (P Q : List ℕ → Type 0) → ((c : List ℕ) → P c → Q c)
    → LeavesOnly moment left_since first mid P → LeavesOnly moment left_since mid last Q
    → LeavesOnly moment left_since first last Q
then_leaves moment left_since first mid last P Q more one two = record {
  later = omega (arith, one.later, two.later);
  each = λ c left. ⊎_elim (λ past. more c (one.each c past)) (λ is. is) (two.before (moment first) c one.later left);
  before = λ t c le left. ⊎_elim
      (λ past. ⊎_elim (λ earlier. inl earlier) (λ is. inr (more c is)) (one.before t c le past))
      (λ is. inr is) (two.before t c (omega (arith, le, one.later)) left);
}

-- what was left only so was left only as is weaker
pub leaves_more : {D : Type 0} (moment : D → ℕ) (left_since : D → ℕ → List ℕ → Type 0) (first last : D)
    (P Q : List ℕ → Type 0) → ((c : List ℕ) → P c → Q c)
    → LeavesOnly moment left_since first last P → LeavesOnly moment left_since first last Q
leaves_more moment left_since first last P Q more one = record {
  later = one.later;
  each = λ c left. more c (one.each c left);
  before = λ t c le left. ⊎_elim (λ earlier. inl earlier) (λ is. inr (more c is)) (one.before t c le left);
}
