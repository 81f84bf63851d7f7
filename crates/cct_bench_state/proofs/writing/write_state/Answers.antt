use Rattle.std.proofs.Common.{◌++◌, ◌∷◌, Err, Ok, [], flat_map, subst, sym}
use Rattle.cct_audit.proofs.Puts.{writes_more, writes_then}
use Rattle.cct_audit.specs.Writing.{WritesLines}
use Rattle.cct_model.specs.Text.{line_of}
use Rattle.cct_bench_report.specs.Listing.{total_in}
use Rattle.cct_bench_state.specs.Books.{tally_lines}
use Rattle.cct_bench_state.specs.Lines.{account_lines, last_line}
use Rattle.cct_bench_state.proofs.Chains.{broke_then}
use Rattle.cct_text.proofs.Writing.{passes_up}
use Rattle.cct_bench_state.proofs.writing.write_state.Goals as goal

pub returns-in_err-write_accounts-clause-writes : goal.returns-in_err-write_accounts-clause-writes
returns-in_err-write_accounts-clause-writes g c =
    let sink = g.K.Sink in
    let x = c.args.books.now in
    let first = flat_map account_lines x.accounts.items in
    let rest = last_line x.last_id ∷ line_of (total_in x.sums) ∷ tally_lines x.tally in
    let why = c.in_err-write_accounts.field-0.0 in
    let a = c.args.out.now in
    let b = c.write_accounts.new.out in
    subst (λ r. WritesLines sink.written sink.puts a (first ++ rest) r b)
    (sym (passes_up c.from_residual.result why c.from_residual.ensures))
    (writes_more sink.written sink.puts a b first rest why
    (subst (λ l. WritesLines sink.written sink.puts a (flat_map account_lines l) (Err why) b) c.as_slice.ensures.value
    c.in_err-write_accounts.ensures.writes))

pub returns-in_err-write_last-clause-writes : goal.returns-in_err-write_last-clause-writes
returns-in_err-write_last-clause-writes g c =
    let sink = g.K.Sink in
    let x = c.args.books.now in
    let first = flat_map account_lines x.accounts.items in
    let second = last_line x.last_id ∷ [] in
    let rest = line_of (total_in x.sums) ∷ tally_lines x.tally in
    let why = c.in_err-write_last.field-0.0 in
    let a = c.args.out.now in
    let b = c.write_accounts.new.out in
    let d = c.write_last.new.out in
    subst (λ r. WritesLines sink.written sink.puts a (first ++ (second ++ rest)) r d)
    (sym (passes_up c.from_residual-in_err-write_last.result why c.from_residual-in_err-write_last.ensures))
    (broke_then sink.written sink.puts a b d first second rest why (subst (λ l. WritesLines sink.written sink.puts a (flat_map account_lines l) (Ok tt) b) c.as_slice.ensures.value
    c.in_ok-write_accounts.ensures.writes)
    c.in_err-write_last.ensures.writes)

pub returns-in_err-put_entry-clause-writes : goal.returns-in_err-put_entry-clause-writes
returns-in_err-put_entry-clause-writes g c =
    let sink = g.K.Sink in
    let x = c.args.books.now in
    let first = flat_map account_lines x.accounts.items in
    let second = last_line x.last_id ∷ [] in
    let third = line_of (total_in x.sums) ∷ [] in
    let rest = tally_lines x.tally in
    let why = c.in_err-put_entry.field-0.0 in
    let a = c.args.out.now in
    let b = c.write_accounts.new.out in
    let d = c.write_last.new.out in
    let e = c.put_entry.new.out in
    subst (λ r. WritesLines sink.written sink.puts a (first ++ (second ++ (third ++ rest))) r e)
    (sym (passes_up c.from_residual-in_err-put_entry.result why c.from_residual-in_err-put_entry.ensures))
    (writes_then sink.written sink.puts a b e first (second ++ (third ++ rest)) (Err why)
    (subst (λ l. WritesLines sink.written sink.puts a (flat_map account_lines l) (Ok tt) b) c.as_slice.ensures.value
    c.in_ok-write_accounts.ensures.writes)
    (broke_then sink.written sink.puts b d e second third rest why c.in_ok-write_last.ensures.writes
    (subst (λ t. WritesLines sink.written sink.puts d (line_of t ∷ []) (Err why) e) c.total.ensures
    c.in_err-put_entry.ensures.writes)))

pub returns-clause-writes : goal.returns-clause-writes
returns-clause-writes g c =
    let sink = g.K.Sink in
    let x = c.args.books.now in
    let first = flat_map account_lines x.accounts.items in
    let second = last_line x.last_id ∷ [] in
    let third = line_of (total_in x.sums) ∷ [] in
    let rest = tally_lines x.tally in
    let a = c.args.out.now in
    let b = c.write_accounts.new.out in
    let d = c.write_last.new.out in
    let e = c.put_entry.new.out in
    let f = c.write_money.new.out in
    writes_then sink.written sink.puts a b f first (second ++ (third ++ rest)) c.write_money.result
    (subst (λ l. WritesLines sink.written sink.puts a (flat_map account_lines l) (Ok tt) b) c.as_slice.ensures.value
    c.in_ok-write_accounts.ensures.writes)
    (writes_then sink.written sink.puts b d f second (third ++ rest) c.write_money.result
    c.in_ok-write_last.ensures.writes
    (writes_then sink.written sink.puts d e f third rest c.write_money.result
    (subst (λ t. WritesLines sink.written sink.puts d (line_of t ∷ []) (Ok tt) e) c.total.ensures
    c.in_ok-put_entry.ensures.writes) c.write_money.ensures.writes))
