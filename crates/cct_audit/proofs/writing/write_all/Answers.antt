use Rattle.std.proofs.Common.{[], ◌∷◌, ◌++◌, take, map, Ok, Err, ap, sym, ◌∙◌, subst, arith}
use Rattle.std.proofs.lemmas.List.{take_more}
use Rattle.cct_text.proofs.Writing.{passes_up}
use Rattle.cct_audit.proofs.Puts.{writes_one, writes_next, writes_broke}
use Rattle.cct_audit.proofs.Lines.{said_at, said_whole, said_within}
use Rattle.cct_audit.specs.Telling.{said_line}
use Rattle.cct_audit.specs.Writing.{WritesLines}
use Rattle.cct_audit.proofs.writing.write_all.Goals as goal

pub returns-in_err-write_said-clause-writes : goal.returns-in_err-write_said-clause-writes
returns-in_err-write_said-clause-writes g c =
    let sink = g.K.Sink in
    let i = c.loop-one.one-index in
    let x = c.one-item.result in
    let all = c.args.said.now in
    let why = c.in_err-write_said.field-0.0 in
    let out1 = c.loop-one.out in
    let out2 = c.write_said.new.out in
    let wrote = c.in_err-write_said.ensures.puts in
    subst (λ r. WritesLines sink.written sink.puts c.args.out.now (map said_line all) r out2)
    (sym (passes_up c.from_residual.result why c.from_residual.ensures))
    (
    writes_broke sink.written sink.puts c.args.out.now out1 out2 (map said_line all) i (said_line x) why
    (said_within all i (omega arith)) (said_at all i x (omega arith) c.one-item.is) c.loop-one.invariant.0
    (writes_one sink.written sink.puts out1 out2 (said_line x) (Err why) wrote)
    )

pub loop-one-preserved : goal.loop-one-preserved
loop-one-preserved g c =
    let sink = g.K.Sink in
    let i = c.loop-one.one-index in
    let x = c.one-item.result in
    let all = c.args.said.now in
    let es = map said_line all in
    let out1 = c.loop-one.out in
    let out2 = c.write_said.new.out in
    let put = c.in_ok-write_said.ensures in
    let wrote = put.puts in
    let more = take_more es i (said_line x) (said_within all i (omega arith))
    ∙ ap (λ e. take i es ++ e ∷ []) (sym (said_at all i x (omega arith) c.one-item.is)) in (
      writes_next sink.written sink.puts c.args.out.now out1 out2 es i (said_line x) c.loop-one.invariant.0
          (writes_one sink.written sink.puts out1 out2 (said_line x) (Ok c.in_ok-write_said.field-0) wrote)
          more,
      put.serves.tells ∙ c.loop-one.invariant.1,
      omega (arith, c.loop-one.invariant.2, put.serves.later),
    )

pub returns-clause-writes : goal.returns-clause-writes
returns-clause-writes g c =
    let sink = g.K.Sink in
    subst (λ es. WritesLines sink.written sink.puts c.args.out.now es (Ok tt) c.loop-one.out) (said_whole c.args.said.now _ (omega arith))
    c.loop-one.invariant.0
