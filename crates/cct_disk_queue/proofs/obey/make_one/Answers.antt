-- What a sync makes of a part.
use Rattle.std.proofs.Common.{◌∷◌, sym, subst}
use Rattle.cct_disk.specs.Disk.{LeavesOnly}
use Rattle.cct_disk_queue.specs.Calls.{Since, Sync, called}
use Rattle.cct_disk_queue.specs.Queue.{now_counts}
use Rattle.cct_disk_queue.specs.declared.calls.Note.{Note}
use Rattle.cct_disk_queue.proofs.Making.{call_moments, since_more}
use Rattle.cct_disk_queue.proofs.obey.make_one.Goals as goal

pub returns-in-Sync-clause-moments : goal.returns-in-Sync-clause-moments
returns-in-Sync-clause-moments g c = λ base before so_far.
    subst (λ (n : Note). LeavesOnly g.D.Disk.moment g.D.Disk.left_since c.args.part.now c.sync.new.self
    (Since base (called c.args.kept.now n ∷ before) 0)) (sym c.in-Sync.is)
    (call_moments g.D.Disk c.args.part.now c.sync.new.self base Sync before so_far (g.met.D.Disk.only_now c.args.part.now) c.sync.ensures.time
    (λ image is. since_more base Sync before image
    (now_counts base before 0 image (so_far.images image (c.sync.ensures.images so_far.keeps_synced image is)))))
