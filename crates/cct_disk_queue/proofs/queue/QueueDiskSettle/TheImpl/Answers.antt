-- A queue that is settled.
use Rattle.std.proofs.Common.{ℕ, List, Some, length, refl, ap}
use Rattle.cct_disk_queue.specs.Queue.{Queue}
use Rattle.cct_disk_queue.proofs.Images.{same_bytes, settle_within}
use Rattle.cct_disk_queue.proofs.queue.QueueDiskSettle.TheImpl.Goals as goal

pub settle-tells : goal.settle-tells
settle-tells c =
    let same = same_bytes c.args.self.now c.new.self.now c.ensures.settled in
    record {
      none = ap (λ (q : Queue). length q.calls) c.ensures.settled;
      settles = record {
        same_size = ap length same;
        same_honest = refl;
        same_seen = ap (λ (l : List ℕ). Some l) same;
        images = settle_within c.args.self.now c.new.self.now c.ensures.settled;
        same_cuts = refl;
        same_faults = ap (λ (q : Queue). q.faults) c.ensures.settled;
      };
    }
