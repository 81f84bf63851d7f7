use Rattle.cct_model.specs.Carried.{addr_of_epoch}
use Rattle.cct_journal_carry.proofs.Splits.{left_seen, taken_seen}
use Rattle.cct_journal_carry.proofs.entries.take_out_epoch.Goals as goal

pub returns-then-epoch_is_at : goal.returns-then-epoch_is_at
returns-then-epoch_is_at c =
    taken_seen addr_of_epoch c.args.addr c.args.epochs.now c.as_slice.result.now c.as_slice-2.result.now
    c.remove.new.self c.epoch_place-index.result c.as_slice.ensures.value c.epoch_place-index.ensures
    c.as_slice-2.ensures.value c.if-epoch_is_at.ensures c.remove.ensures

pub returns-else-epoch_is_at : goal.returns-else-epoch_is_at
returns-else-epoch_is_at c =
    left_seen addr_of_epoch c.args.addr c.args.epochs.now c.as_slice.result.now c.as_slice-2.result.now
    c.epoch_place-index.result c.as_slice.ensures.value c.epoch_place-index.ensures c.as_slice-2.ensures.value
    c.if-epoch_is_at.ensures
