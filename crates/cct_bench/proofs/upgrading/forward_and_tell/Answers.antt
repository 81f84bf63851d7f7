use Rattle.std.proofs.Common.{[], ◌∷◌, ◌∙◌, ap, subst, sym}
use Rattle.cct_text.specs.Writing.{Writes}
use Rattle.cct_bench.specs.Run.{status_by}
use Rattle.cct_bench.proofs.UpgradeEnds.{done_ok}
use Rattle.cct_bench.proofs.upgrading.forward_and_tell.Goals as goal

pub returns-clause-told : goal.returns-clause-told
returns-clause-told g c =
    let sink = g.K.Sink in
    let closed = c.close.ensures.writes in
    let brought = c.bring_forward-answer in
    let told = c.told_by-entry in (
      brought.result.0,
      closed.0,
      brought.ensures.answers,
      record { cause = brought.ensures.cause.rose; kept = brought.ensures.kept },
      subst (λ line. Writes sink.written sink.puts c.args.out.now (line ∷ []) closed.0 c.close.new.out) told.ensures.entry
          closed.1,
      closed.2 ∙ ap (status_by closed.0) told.ensures.status,
    )

pub returns-clause-forward : goal.returns-clause-forward
returns-clause-forward g c done =
    let closed = c.close.ensures.writes in
    let brought = c.bring_forward-answer in
    brought.ensures.forward (done_ok brought.result.0 closed.0
    (sym (closed.2 ∙ ap (status_by closed.0) c.told_by-entry.ensures.status) ∙ done))
