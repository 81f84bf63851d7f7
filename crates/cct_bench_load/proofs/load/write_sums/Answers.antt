use Rattle.std.proofs.Common.{◌++◌, ◌∷◌, [], ap, ◌∙◌, subst}
use Rattle.cct_model.specs.lines.entry.Entry.TheVariants.{Balance}
use Rattle.cct_text.specs.Writing.{Writes}
use Rattle.cct_bench_load.proofs.load.write_sums.Goals as goal

pub returns-clause-writes : goal.returns-clause-writes
returns-clause-writes g c played past sums =
    let sink = g.K.Sink in
    let told = c.told-told.ensures.sums played past sums in
    let answer = c.write_entries.result in
    let now = c.write_entries.new.out in
    subst (λ entries. Writes sink.written sink.puts c.args.out.now entries answer now)
    (c.as_slice.ensures.value ∙ c.push.ensures.items ∙ ap (λ es. es ++ Balance c.args.totals ∷ []) told)
    c.write_entries.ensures.writes
