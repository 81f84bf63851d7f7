use Rattle.std.proofs.Common.{◌∷◌, ◌++◌, ◌∙◌, [], take, ap, sym}
use Rattle.std.proofs.lemmas.List.{take_more}
use Rattle.cct_live_service.specs.Watch.{seen_all, seen_at}
use Rattle.cct_live_service.proofs.Watching.{seen_more}
use Rattle.cct_live_service.proofs.watch.Watch.see_ends.Goals as goal

pub loop-entry-preserved : goal.loop-entry-preserved
loop-entry-preserved c =
    let entries = c.args.entries.now in
    let i = c.loop-entry.entry-index in
    let e = c.entry-item.result in
    let more = take_more entries i e c.loop-entry-test.true ∙ ap (λ x. take i entries ++ x ∷ []) (sym c.entry-item.is) in
    c.see_end.ensures ∙ ap (λ w. seen_at w e) c.loop-entry.invariant ∙ sym (seen_more c.args.self.now (take i entries) e)
    ∙ ap (seen_all c.args.self.now) (sym more)
