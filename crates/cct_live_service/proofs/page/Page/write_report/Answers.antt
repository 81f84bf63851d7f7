use Rattle.std.proofs.Common.{subst}
use Rattle.cct_text.specs.Writing.{Writes}
use Rattle.cct_live_service.proofs.Telling.{told_entries}
use Rattle.cct_live_service.proofs.page.Page.write_report.Goals as goal

pub returns-clause-writes : goal.returns-clause-writes
returns-clause-writes g c =
    let sink = g.K.Sink in
    told_entries sink.written sink.puts c.args.out.now c.write_entries.new.out c.args.self.now.report.items
    c.write_entries.result
    (subst (λ es. Writes sink.written sink.puts c.args.out.now es c.write_entries.result c.write_entries.new.out)
    c.as_slice.ensures.value c.write_entries.ensures.writes)
