use Rattle.std.proofs.Common.{◌∷◌, [], Err, Ok, subst}
use Rattle.cct_model.specs.Text.{line_of}
use Rattle.cct_text.specs.Writing.{PutsLine}
use Rattle.cct_live_service.specs.Notice.{notice_line}
use Rattle.cct_live_service.specs.Told.{falls_short, pays, withheld_for}
use Rattle.cct_live_service.proofs.Telling.{told_cut, told_one, told_then}
use Rattle.cct_live_service.proofs.session.tell_then.Goals as goal

pub returns-in-Ok-clause-writes : goal.returns-in-Ok-clause-writes
returns-in-Ok-clause-writes g c p why paid rest notice short =
    let sink = g.K.Sink in
    told_then sink.written sink.puts c.args.out.now c.tell.new.out c.write_entry.new.out (pays p (withheld_for why) ∷ [])
    (falls_short p paid rest ∷ []) c.write_entry.result
    (told_one sink.written sink.puts c.args.out.now c.tell.new.out (pays p (withheld_for why)) (Ok tt)
    (subst (λ n. PutsLine sink.written sink.puts c.args.out.now (notice_line n) (Ok tt) c.tell.new.out) notice c.in-Ok.ensures.puts))
    (told_one sink.written sink.puts c.tell.new.out c.write_entry.new.out (falls_short p paid rest) c.write_entry.result
    (subst (λ e. PutsLine sink.written sink.puts c.tell.new.out (line_of e) c.write_entry.result c.write_entry.new.out) short
    c.write_entry.ensures.puts))

pub returns-in-Err-clause-writes : goal.returns-in-Err-clause-writes
returns-in-Err-clause-writes g c p why paid rest notice short =
    let sink = g.K.Sink in
    told_cut sink.written sink.puts c.args.out.now c.tell.new.out (pays p (withheld_for why)) (falls_short p paid rest ∷ [])
    c.in-Err.failed
    (subst (λ n. PutsLine sink.written sink.puts c.args.out.now (notice_line n) (Err c.in-Err.failed) c.tell.new.out) notice
    c.in-Err.ensures.puts)
