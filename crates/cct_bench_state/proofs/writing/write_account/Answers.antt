use Rattle.std.proofs.Common.{◌++◌, Err, Ok, subst, sym}
use Rattle.cct_audit.proofs.Puts.{writes_more, writes_then}
use Rattle.cct_audit.specs.Writing.{WritesLines}
use Rattle.cct_bench_state.specs.Lines.{account_lines, epoch_lines, open_lines, since_lines}
use Rattle.cct_text.proofs.Writing.{passes_up}
use Rattle.cct_bench_state.proofs.writing.write_account.Goals as goal

pub returns-in_err-write_epoch-clause-writes : goal.returns-in_err-write_epoch-clause-writes
returns-in_err-write_epoch-clause-writes g c =
    let sink = g.K.Sink in
    let x = c.args.account.now in
    let epoch = epoch_lines x.addr x.epoch in
    let order = open_lines x.order in
    let why = c.in_err-write_epoch.field-0.0 in
    let a = c.args.out.now in
    let b = c.write_epoch.new.out in
    subst (λ r. WritesLines sink.written sink.puts a (account_lines x) r b)
    (sym (passes_up c.from_residual.result why c.from_residual.ensures))
    (writes_more sink.written sink.puts a b (epoch ++ order) (since_lines x) why
    (writes_more sink.written sink.puts a b epoch order why c.in_err-write_epoch.ensures.writes))

pub returns-in_err-write_open-clause-writes : goal.returns-in_err-write_open-clause-writes
returns-in_err-write_open-clause-writes g c =
    let sink = g.K.Sink in
    let x = c.args.account.now in
    let epoch = epoch_lines x.addr x.epoch in
    let order = open_lines x.order in
    let why = c.in_err-write_open.field-0.0 in
    let a = c.args.out.now in
    let b = c.write_epoch.new.out in
    let d = c.write_open.new.out in
    subst (λ r. WritesLines sink.written sink.puts a (account_lines x) r d)
    (sym (passes_up c.from_residual-in_err-write_open.result why c.from_residual-in_err-write_open.ensures))
    (writes_more sink.written sink.puts a d (epoch ++ order) (since_lines x) why
    (writes_then sink.written sink.puts a b d epoch order (Err why) c.in_ok-write_epoch.ensures.writes
    c.in_err-write_open.ensures.writes))

pub returns-clause-writes : goal.returns-clause-writes
returns-clause-writes g c =
    let sink = g.K.Sink in
    let x = c.args.account.now in
    let epoch = epoch_lines x.addr x.epoch in
    let order = open_lines x.order in
    let a = c.args.out.now in
    let b = c.write_epoch.new.out in
    let d = c.write_open.new.out in
    let e = c.write_since.new.out in
    writes_then sink.written sink.puts a d e (epoch ++ order) (since_lines x) c.write_since.result
    (writes_then sink.written sink.puts a b d epoch order (Ok c.in_ok-write_open.field-0)
    c.in_ok-write_epoch.ensures.writes c.in_ok-write_open.ensures.writes) c.write_since.ensures.writes
