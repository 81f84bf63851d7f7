-- All calls but the last, and then that.
use Rattle.std.proofs.lemmas.Result.{on_ok_weaker}
use Rattle.std.proofs.Common.{◌∷◌, ◌-◌, List, length, map, reverse, take, slice_index_or, sym, subst, rules}
use Rattle.cct_disk.specs.Disk.{LeavesOnly}
use Rattle.cct_disk_queue.specs.Calls.{Act, Since, called}
use Rattle.cct_disk_queue.specs.Obeyed.{HasMade}
use Rattle.cct_disk_queue.specs.declared.calls.Note.TheVariants.{Write}
use Rattle.cct_disk_queue.proofs.Making.{leaves_more, since_more, then_leaves}
use Rattle.cct_disk_queue.proofs.Noted.{acts_last, in_front, within_front}
use Rattle.cct_disk_queue.proofs.obey.+make_noted.Goals as goal

pub make_noted-requires : goal.make_noted-requires
make_noted-requires g t c κs within =
    let kept = c.args.kept.now in
    let row = c.args.notes.now in
    let some = c.in-len1-up.len_at_least in (
      search rules,
      (
        within,
        (
          in_front kept row (Write 0 0 0) some (length kept) c.requires.there,
          within_front kept row (Write 0 0 0) some (g.D.Disk.size c.args.part.now) c.requires.within,
        ),
      ),
    )

pub returns-in_err-make_noted-in-len1-up-clause-moments :
    goal.returns-in_err-make_noted-in-len1-up-clause-moments
returns-in_err-make_noted-in-len1-up-clause-moments g t c = λ base holds.
    let kept = c.args.kept.now in
    let row = c.args.notes.now in
    let front = map (called kept) (reverse (take (length row - 1) row)) in
    let act = called kept (slice_index_or row (length row - 1) (Write 0 0 0)) in
    subst (λ (all : List Act). LeavesOnly g.D.Disk.moment g.D.Disk.left_since c.args.part.now c.make_noted.new.part (Since base all 0))
    (sym (acts_last kept row (Write 0 0 0) c.in-len1-up.len_at_least))
    (leaves_more g.D.Disk.moment g.D.Disk.left_since c.args.part.now c.make_noted.new.part (Since base front 0)
    (Since base (act ∷ front) 0) (since_more base act front) (c.make_noted.ensures.moments base holds))

pub returns-in_ok-make_noted-in-len1-up-clause-moments :
    goal.returns-in_ok-make_noted-in-len1-up-clause-moments
returns-in_ok-make_noted-in-len1-up-clause-moments g t c = λ base holds.
    let kept = c.args.kept.now in
    let row = c.args.notes.now in
    let front = map (called kept) (reverse (take (length row - 1) row)) in
    let act = called kept (slice_index_or row (length row - 1) (Write 0 0 0)) in
    subst (λ (all : List Act). LeavesOnly g.D.Disk.moment g.D.Disk.left_since c.args.part.now c.make_one.new.part (Since base all 0))
    (sym (acts_last kept row (Write 0 0 0) c.in-len1-up.len_at_least))
    (then_leaves g.D.Disk.moment g.D.Disk.left_since c.args.part.now c.make_noted.new.part c.make_one.new.part
    (Since base front 0) (Since base (act ∷ front) 0) (since_more base act front)
    (c.make_noted.ensures.moments base holds)
    (c.make_one.ensures.moments base front (c.in_ok-make_noted-in-len1-up.ensures.made base holds)))

pub returns-in_ok-make_noted-in-len1-up-clause-made :
    goal.returns-in_ok-make_noted-in-len1-up-clause-made
returns-in_ok-make_noted-in-len1-up-clause-made g t c =
    let kept = c.args.kept.now in
    let row = c.args.notes.now in
    let front = map (called kept) (reverse (take (length row - 1) row)) in
    on_ok_weaker c.make_one.result
    (λ made base holds.
    subst (λ (all : List Act). HasMade g.D.Disk.honest g.D.Disk.seen g.D.Disk.may_leave c.make_one.new.part base all)
    (sym (acts_last kept row (Write 0 0 0) c.in-len1-up.len_at_least))
    (made base front (c.in_ok-make_noted-in-len1-up.ensures.made base holds)))
    c.make_one.ensures.made
