use Rattle.cct_text.proofs.Writing.{writes_one}
use Rattle.cct_bench_load.specs.Played.{first_line}
use Rattle.cct_bench_load.proofs.load.write_first.Goals as goal

pub returns-clause-writes : goal.returns-clause-writes
returns-clause-writes g c =
    let sink = g.K.Sink in
    let wrote = c.write_entry.ensures in
    writes_one sink.written sink.puts c.args.out.now c.write_entry.new.out (first_line c.args.load) c.write_entry.result
    wrote.puts
