use Rattle.std.proofs.Common.{Ok, sym, ap, ◌∙◌, subst}
use Rattle.cct_text.specs.Writing.{Writes}
use Rattle.cct_bench.specs.Run.{listed, status_by}
use Rattle.cct_text.proofs.Writing.{wrote_none}
use Rattle.cct_bench.proofs.ending.finish_run.Goals as goal

pub returns-in-Some-clause-writes : goal.returns-in-Some-clause-writes
returns-in-Some-clause-writes g c =
    let sink = g.K.Sink in
    let closed = c.close.ensures.writes in (
      closed.0,
      subst (λ last. Writes sink.written sink.puts c.args.out.now (listed last) closed.0 c.close.new.out)
          (sym c.in-Some.is ∙ c.last_entry.ensures) closed.1,
      closed.2 ∙ ap (status_by closed.0) c.status_of-status.ensures,
    )

pub returns-in-None-clause-writes : goal.returns-in-None-clause-writes
returns-in-None-clause-writes g c =
    let sink = g.K.Sink in
    let out = c.args.out.now in (
      Ok tt,
      subst (λ last. Writes sink.written sink.puts out (listed last) (Ok tt) out)
          (sym c.in-None.is ∙ c.last_entry.ensures) (wrote_none sink.written sink.puts out),
      c.status_of-status.ensures,
    )
