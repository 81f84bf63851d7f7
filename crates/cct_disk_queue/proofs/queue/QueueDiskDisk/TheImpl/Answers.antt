-- A call that is noted does what one of a disk does.
use Rattle.std.proofs.Common.{rules}
use Rattle.cct_disk_queue.proofs.Images.{read_stays, sync_spends, sync_within, write_follows, write_goes_on, write_spends}
use Rattle.cct_disk_queue.proofs.queue.QueueDiskDisk.TheImpl.Goals as goal

pub read-tells : goal.read-tells
read-tells c = record {
  gives = search rules;
  room = search rules;
  seen = search rules;
  images = search rules;
  goes_on = search rules;
  time = search rules;
  ready = read_stays c.args.self.now c.new.self.now c.result c.ensures.stays c.ensures.sure;
  cause = c.ensures.cause;
}

pub write-tells : goal.write-tells
write-tells c = record {
  written = search rules;
  torn = search rules;
  images = λ _. write_follows c.args.at c.args.bytes.now c.args.self.now c.new.self.now c.requires c.result c.ensures.written c.ensures.failed;
  goes_on = write_goes_on c.args.at c.args.bytes.now c.args.self.now c.new.self.now c.requires c.result c.ensures.written c.ensures.failed;
  time = search rules;
  below = search rules;
  spends = write_spends c.args.self.now c.new.self.now c.args.at c.args.bytes.now c.result c.ensures.written c.ensures.sure;
  cause = c.ensures.cause;
}

pub sync-tells : goal.sync-tells
sync-tells c = record {
  kept = search rules;
  seen = search rules;
  images = λ _. sync_within c.args.self.now c.new.self.now c.result c.ensures.synced c.ensures.failed;
  goes_on = search rules;
  time = search rules;
  below = search rules;
  spends = sync_spends c.args.self.now c.new.self.now c.result c.ensures.synced c.ensures.sure;
  cause = c.ensures.cause;
}
