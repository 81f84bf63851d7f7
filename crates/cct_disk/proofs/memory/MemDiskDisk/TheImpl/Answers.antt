-- A call of the disk in memory does what one of a disk does.
use Rattle.std.proofs.Common.{arith, refl, rules}
use Rattle.cct_disk.specs.Content.{settled, written}
use Rattle.cct_disk.proofs.Writing.{fails_whole, reads_on, replaces, spends, writes}
use Rattle.cct_disk.proofs.memory.MemDiskDisk.TheImpl.Goals as goal

pub read-tells : goal.read-tells
read-tells c =
    let answers = c.ensures.answers in
    record {
      gives = search rules;
      room = search rules;
      seen = search rules;
      images = search rules;
      goes_on = search rules;
      time = search rules;
      ready = reads_on c.args.self.now c.new.self.now c.result answers.fails.0 answers.after;
      cause = answers.cause;
    }

pub write-tells : goal.write-tells
write-tells c =
    let old = c.args.self.now in
    let new = c.new.self.now in
    let answers = c.ensures.answers in
    record {
      written = writes c.args.at c.args.bytes.now old new c.result answers.after;
      torn = fails_whole c.args.at c.args.bytes.now old new c.result answers.after_fault;
      images = λ _. c.ensures.images;
      goes_on = c.ensures.goes_on;
      time = c.ensures.time;
      below = refl;
      spends = spends (written c.args.at c.args.bytes.now old.content) _ old new c.result answers.fails.0 answers.after
          (replaces c.args.at c.args.bytes.now old.content);
      cause = answers.cause;
    }

pub sync-tells : goal.sync-tells
sync-tells c =
    let old = c.args.self.now in
    let answers = c.ensures.answers in
    record {
      kept = search rules;
      seen = search rules;
      images = search rules;
      goes_on = search rules;
      time = search rules;
      below = refl;
      spends = spends (settled old.content) 0 old c.new.self.now c.result answers.fails.0 answers.after (omega arith);
      cause = answers.cause;
    }
