use Rattle.std.proofs.Common.{◌∙◌, ◌∷◌, ◌-◌, [], false, Ok, Err, take, drop, length, sym, subst}
use Rattle.cct_live_service.specs.Told.{WritesTold, as_told, attempt_told, told_unsent, unheard}
use Rattle.cct_live_service.proofs.Telling.{first_apart, told_cut, told_entries, told_one, told_then}
use Rattle.cct_live_service.proofs.page.Page.write_unsent.Goals as goal

pub returns-in-Ok-clause-writes : goal.returns-in-Ok-clause-writes
returns-in-Ok-clause-writes g c =
    let sink = g.K.Sink in
    let out = c.args.out.now in
    let between = c.tell_first.new.out in
    let last = c.write_entries.new.out in
    let all = c.as_slice.result.now in
    let first = c.first-item.result in
    let rest = take (length all - 1) (drop 1 all) in
    let what = told_unsent first (unheard first) in
    let apart = sym (first_apart all first c.in-len1-up.len_at_least c.first-item.is) ∙ c.as_slice.ensures.value in
    subst (λ es. WritesTold sink.written sink.puts out (attempt_told false es) c.write_entries.result last) apart
    (told_then sink.written sink.puts out between last (what ∷ []) (as_told rest) c.write_entries.result
    (told_one sink.written sink.puts out between what (Ok tt) c.in-Ok.ensures.puts)
    (told_entries sink.written sink.puts between last rest c.write_entries.result c.write_entries.ensures.writes))

pub returns-in-Err-clause-writes : goal.returns-in-Err-clause-writes
returns-in-Err-clause-writes g c =
    let sink = g.K.Sink in
    let out = c.args.out.now in
    let between = c.tell_first.new.out in
    let all = c.as_slice.result.now in
    let first = c.first-item.result in
    let rest = take (length all - 1) (drop 1 all) in
    let apart = sym (first_apart all first c.in-len1-up.len_at_least c.first-item.is) ∙ c.as_slice.ensures.value in
    subst (λ es. WritesTold sink.written sink.puts out (attempt_told false es) (Err c.in-Err.failed) between) apart
    (told_cut sink.written sink.puts out between (told_unsent first (unheard first)) (as_told rest) c.in-Err.failed
    c.in-Err.ensures.puts)
