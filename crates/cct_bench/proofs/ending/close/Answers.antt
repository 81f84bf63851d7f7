use Rattle.std.proofs.Common.{sym, ap}
use Rattle.cct_bench.specs.Run.{status_by}
use Rattle.cct_text.proofs.Writing.{writes_one}
use Rattle.cct_bench.proofs.ending.close.Goals as goal

pub returns-in-Ok-clause-writes : goal.returns-in-Ok-clause-writes
returns-in-Ok-clause-writes g c =
    let sink = g.K.Sink in
    let wrote = c.write_entry.ensures in (
      c.write_entry.result,
      writes_one sink.written sink.puts c.args.out.now c.write_entry.new.out c.args.entry.now c.write_entry.result
          wrote.puts,
      sym (ap (λ answer. status_by answer c.args.status) c.in-Ok.is),
    )

pub returns-in-Err-clause-writes : goal.returns-in-Err-clause-writes
returns-in-Err-clause-writes g c =
    let sink = g.K.Sink in
    let wrote = c.write_entry.ensures in (
      c.write_entry.result,
      writes_one sink.written sink.puts c.args.out.now c.write_entry.new.out c.args.entry.now c.write_entry.result
          wrote.puts,
      sym (ap (λ answer. status_by answer c.args.status) c.in-Err.is),
    )
