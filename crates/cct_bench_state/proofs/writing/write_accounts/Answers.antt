use Rattle.std.proofs.Common.{◌+◌, ◌∙◌, Err, Ok, arith, drop, flat_map, rules, subst, sym, take}
use Rattle.std.proofs.lemmas.List.{take_all}
use Rattle.cct_audit.proofs.Puts.{writes_then}
use Rattle.cct_audit.specs.Writing.{WritesLines}
use Rattle.cct_bench_state.specs.Lines.{account_lines}
use Rattle.cct_bench_state.proofs.Chains.{broke_then, flat_more, flat_parts, wrote_none}
use Rattle.cct_text.proofs.Writing.{passes_up}
use Rattle.cct_bench_state.proofs.writing.write_accounts.Goals as goal

pub returns-in_err-write_account-clause-writes : goal.returns-in_err-write_account-clause-writes
returns-in_err-write_account-clause-writes g c =
    let sink = g.K.Sink in
    let i = c.loop-account.account-index in
    let all = c.args.accounts.now in
    let why = c.in_err-write_account.field-0.0 in
    let out0 = c.args.out.now in
    let out1 = c.loop-account.out in
    let out2 = c.write_account.new.out in
    subst (λ r. WritesLines sink.written sink.puts out0 (flat_map account_lines all) r out2)
    (sym (passes_up c.from_residual.result why c.from_residual.ensures))
    (subst (λ l. WritesLines sink.written sink.puts out0 l (Err why) out2)
    (sym (flat_parts account_lines all i _ (omega arith)))
    (broke_then sink.written sink.puts out0 out1 out2 (flat_map account_lines (take i all)) _
    (flat_map account_lines (drop (i + 1) all)) why c.loop-account.invariant.0 c.in_err-write_account.ensures.writes))

pub loop-account-init : goal.loop-account-init
loop-account-init g c =
    let sink = g.K.Sink in (wrote_none sink.written sink.puts c.args.out.now, search rules, omega arith)

pub loop-account-preserved : goal.loop-account-preserved
loop-account-preserved g c =
    let sink = g.K.Sink in
    let i = c.loop-account.account-index in
    let all = c.args.accounts.now in
    let out0 = c.args.out.now in
    let out1 = c.loop-account.out in
    let out2 = c.write_account.new.out in
    let one = c.in_ok-write_account.ensures in (
      subst (λ l. WritesLines sink.written sink.puts out0 l (Ok tt) out2)
          (sym (flat_more account_lines all i _ (omega arith)))
          (writes_then sink.written sink.puts out0 out1 out2 (flat_map account_lines (take i all)) _
          (Ok c.in_ok-write_account.field-0) c.loop-account.invariant.0 one.writes),
      one.serves.tells ∙ c.loop-account.invariant.1,
      omega (arith, c.loop-account.invariant.2, one.serves.later),
    )

pub returns-clause-writes : goal.returns-clause-writes
returns-clause-writes g c =
    let sink = g.K.Sink in
    subst (λ l. WritesLines sink.written sink.puts c.args.out.now (flat_map account_lines l) (Ok tt) c.loop-account.out)
    (take_all c.loop-account.account-index c.args.accounts.now (omega arith)) c.loop-account.invariant.0
