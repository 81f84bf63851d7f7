use Rattle.std.proofs.Common.{Err, Ok, subst}
use Rattle.std.specs.Prelude.{option_map}
use Rattle.cct_audit.specs.Writing.{WritesLines}
use Rattle.cct_journal.specs.Journal.{carry_before}
use Rattle.cct_bench_state.proofs.Chains.{wrote_none}
use Rattle.cct_bench_state.proofs.Going.{lines_same, suits_kept}
use Rattle.cct_bench_state.proofs.telling.tell_journal.Goals as goal

pub returns-in-Ok-write_state-clause-told : goal.returns-in-Ok-write_state-clause-told
returns-in-Ok-write_state-clause-told g c =
    let sink = g.K.Sink in
    let setup = option_map (λ s. s.now) c.args.setup in
    let carry = carry_before c.args.journal.now in
    let books = c.in-Ok.books in
    let all = c.in-Ok.ensures.all in (
      all.before,
      all.all,
      suits_kept setup carry all.before books all.keeps,
      subst (λ l. WritesLines sink.written sink.puts c.args.out.now l (Ok tt) c.write_state.new.out)
          (lines_same setup carry all.before books all.keeps)
          c.in-Ok-write_state.ensures.writes,
    )

pub returns-in-Err-write_state-clause-told : goal.returns-in-Err-write_state-clause-told
returns-in-Err-write_state-clause-told g c =
    let sink = g.K.Sink in
    let setup = option_map (λ s. s.now) c.args.setup in
    let carry = carry_before c.args.journal.now in
    let books = c.in-Ok.books in
    let failed = c.in-Err-write_state.field-0 in
    let all = c.in-Ok.ensures.all in (
      all.before,
      all.all,
      suits_kept setup carry all.before books all.keeps,
      failed,
      subst (λ l. WritesLines sink.written sink.puts c.args.out.now l (Err failed) c.write_state.new.out)
          (lines_same setup carry all.before books all.keeps)
          c.in-Err-write_state.ensures.writes,
    )

pub returns-in-Err-clause-told : goal.returns-in-Err-clause-told
returns-in-Err-clause-told g c =
    let sink = g.K.Sink in
    (c.in-Err.ensures.refused, wrote_none sink.written sink.puts c.args.out.now)
