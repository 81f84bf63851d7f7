use Rattle.std.proofs.Common.{Ok, refl}
use Rattle.cct_text.proofs.Writing.{wrote_none}
use Rattle.cct_journal.specs.declared.refusal.OpenNo.TheVariants as opening
use Rattle.cct_bench.proofs.StateEnds.{puts_unread}
use Rattle.cct_bench.proofs.stating.finish_state.Goals as goal

pub returns-in-Done-clause-writes : goal.returns-in-Done-clause-writes
returns-in-Done-clause-writes g c =
    let sink = g.K.Sink in
    rw c.in-Done.is (Ok tt, wrote_none sink.written sink.puts c.args.out.now, refl)

pub returns-in-Unwritten-clause-writes : goal.returns-in-Unwritten-clause-writes
returns-in-Unwritten-clause-writes g c =
    let sink = g.K.Sink in
    rw c.in-Unwritten.is (Ok tt, wrote_none sink.written sink.puts c.args.out.now, refl)

pub returns-in-Unread-Disk-clause-writes : goal.returns-in-Unread-Disk-clause-writes
returns-in-Unread-Disk-clause-writes g c =
    let sink = g.K.Sink in
    let put = c.close in
    puts_unread sink.written sink.puts c.args.out.now put.new.out put.result c.args.how _ opening.Disk
    c.in-Unread-Disk.is (rw c.in-Unread-Disk.is at c.in-Unread-Disk.field-0-is) put.ensures.writes

pub returns-in-Unread-Alien-clause-writes : goal.returns-in-Unread-Alien-clause-writes
returns-in-Unread-Alien-clause-writes g c =
    let sink = g.K.Sink in
    let put = c.close-in-Unread-Alien in
    puts_unread sink.written sink.puts c.args.out.now put.new.out put.result c.args.how _ opening.Alien
    c.in-Unread-Alien.is (rw c.in-Unread-Alien.is at c.in-Unread-Alien.field-0-is) put.ensures.writes

pub returns-in-Unread-BadRecord-clause-writes : goal.returns-in-Unread-BadRecord-clause-writes
returns-in-Unread-BadRecord-clause-writes g c =
    let sink = g.K.Sink in
    let put = c.close-in-Unread-BadRecord in
    puts_unread sink.written sink.puts c.args.out.now put.new.out put.result c.args.how _
    (opening.BadRecord c.in-Unread-BadRecord.index)
    c.in-Unread-BadRecord.is (rw c.in-Unread-BadRecord.is at c.in-Unread-BadRecord.field-0-is) put.ensures.writes
