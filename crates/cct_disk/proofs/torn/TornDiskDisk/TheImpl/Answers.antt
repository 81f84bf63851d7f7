-- A write that may be torn does what a write of a disk does.
use Rattle.std.proofs.Common.{refl}
use Rattle.cct_disk.proofs.Writing.{writes, fails_torn}
use Rattle.cct_disk.proofs.torn.TornDiskDisk.TheImpl.Goals as goal

pub write-tells : goal.write-tells
write-tells c =
    let old = c.args.self.now in
    let new = c.new.self.now in
    let answers = c.ensures.answers in
    record {
      written = writes c.args.at c.args.bytes.now old.memory new.memory c.result answers.after;
      torn = fails_torn c.args.at c.args.bytes.now old.memory new.memory old.choice c.requires c.result answers.torn
          answers.after_fault;
      images = λ _. c.ensures.images;
      goes_on = c.ensures.goes_on;
      time = c.ensures.time;
      below = refl;
      spends = λ _ _ never. absurd never;
      cause = answers.cause;
    }
