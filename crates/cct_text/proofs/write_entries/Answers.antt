use Rattle.std.proofs.Common.{[], ◌∷◌, ◌++◌, take, Ok, Err, ap, sym, ◌∙◌, subst, arith}
use Rattle.std.proofs.lemmas.List.{take_more}
use Rattle.cct_text.specs.Writing.{Writes}
use Rattle.cct_text.proofs.Writing.{passes_up, writes_one, writes_next, writes_broke}
use Rattle.cct_text.proofs.write_entries.Goals as goal

pub returns-in_err-write_entry-clause-writes : goal.returns-in_err-write_entry-clause-writes
returns-in_err-write_entry-clause-writes g c =
    let sink = g.K.Sink in
    let i = c.loop-entry.entry-index in
    let e = c.entry-item.result in
    let why = c.in_err-write_entry.field-0.0 in
    let wrote = c.in_err-write_entry.ensures in
    let out1 = c.loop-entry.out in
    let out2 = c.write_entry.new.out in
    subst (λ r. Writes sink.written sink.puts c.args.out.now c.args.entries.now r out2)
    (sym (passes_up c.from_residual.result why c.from_residual.ensures))
    (
    writes_broke sink.written sink.puts c.args.out.now out1 out2 c.args.entries.now i e why (omega arith) c.entry-item.is
    c.loop-entry.invariant.0
    (writes_one sink.written sink.puts out1 out2 e (Err why) wrote.puts)
    )

pub loop-entry-preserved : goal.loop-entry-preserved
loop-entry-preserved g c =
    let sink = g.K.Sink in
    let i = c.loop-entry.entry-index in
    let e = c.entry-item.result in
    let wrote = c.in_ok-write_entry.ensures in
    let out1 = c.loop-entry.out in
    let out2 = c.write_entry.new.out in
    let more = take_more c.args.entries.now i e (omega arith)
    ∙ ap (λ x. take i c.args.entries.now ++ x ∷ []) (sym c.entry-item.is) in (
      writes_next sink.written sink.puts c.args.out.now out1 out2 c.args.entries.now i e c.loop-entry.invariant.0
          (writes_one sink.written sink.puts out1 out2 e (Ok c.in_ok-write_entry.field-0) wrote.puts)
          more,
      wrote.serves.tells ∙ c.loop-entry.invariant.1,
      omega (arith, c.loop-entry.invariant.2, wrote.serves.later),
    )
