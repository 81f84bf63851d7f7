use Rattle.std.proofs.Common.{◌∷◌, [], Some, ap, refl, subst, sym}
use Rattle.cct_live_service.specs.declared.notice.Notice.TheVariants as notice_of
use Rattle.cct_live_service.specs.AtDesk.{Both, FollowsDesk}
use Rattle.cct_live_service.specs.Doing.{DoesPay}
use Rattle.cct_live_service.specs.Linked.{IsDecision}
use Rattle.cct_live_service.specs.Parts.{Acts}
use Rattle.cct_live_service.specs.Told.{falls_short, pays, withheld_for}
use Rattle.cct_live_service.proofs.Desks.{follows, withheld_at_desk}
use Rattle.cct_live_service.proofs.Parts.{acts_told}
use Rattle.cct_live_service.proofs.Sessions.{session_runs}
use Rattle.cct_live_service.proofs.session.withhold.Goals as goal

pub returns : goal.returns
returns g c =
    let sink = g.K.Sink in
    let host = c.args.host.now in
    let p = c.args.payment in
    let why = c.args.why in
    let short = c.refused-shortfall.result in
    let told = pays p (withheld_for why) ∷ falls_short p short.paid short.rest ∷ [] in
    let does = DoesPay p (Some why) in
    record {
      acts = λ old asks.
          let new = c.refused-shortfall.new.self in
          let linked = Both (IsDecision (Some p.addr)) (FollowsDesk c.by_writing.result old new) in
          subst (λ r. Acts sink.written sink.puts sink.faults linked does r c.args.out.now c.tell_then.new.out host host)
          (sym c.by_writing.ensures)
          (acts_told sink.written sink.puts sink.faults linked c.tell_then.result c.args.out.now c.tell_then.new.out host told (
            (pays p (withheld_for why), falls_short p short.paid short.rest ∷ [], refl, refl, refl),
            follows c.by_writing.result old new told (withheld_at_desk old c.args.desk.now new p why short.paid short.rest asks
                c.refused-shortfall.ensures.told c.refused-shortfall.ensures.desk),
          ) does refl (λ past keeps. tt)
          (c.tell_then.ensures.writes p why short.paid short.rest (ap (λ k. notice_of.Withheld k why) c.command_of.ensures)
          c.short_entry.ensures)
          c.requires.whole c.tell_then.ensures.serves (refl, (short.paid, short.rest, refl)));
      watch = refl;
    }

pub refused-shortfall-requires : goal.refused-shortfall-requires
refused-shortfall-requires g c = session_runs c.args.desk.now c.args.payment.id c.requires.waits
