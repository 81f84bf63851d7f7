use Rattle.std.proofs.Common.{◌∷◌, [], ◌∙◌, None, Some, inl, inr, refl, sym, subst}
use Rattle.cct_host.specs.Host.{disk_of}
use Rattle.cct_laws_live.specs.LiveStep as live
use Rattle.cct_model.specs.lines.entry.Entry.TheVariants as entry_of
use Rattle.cct_live_service.specs.AtDesk.{Both, FollowsDesk}
use Rattle.cct_live_service.specs.Doing.{DoesPay}
use Rattle.cct_live_service.specs.Linked.{IsDecision}
use Rattle.cct_live_service.specs.Parts.{Acts}
use Rattle.cct_live_service.specs.Told.{WritesTold, as_told, falls_short, pay_of, pays, refused_for, taken}
use Rattle.cct_live_service.proofs.Desks.{follows, refused_at_desk, taken_at_desk}
use Rattle.cct_live_service.proofs.Parts.{acts_step, disk_same}
use Rattle.cct_live_service.proofs.Telling.{told_as}
use Rattle.cct_live_service.proofs.Sessions.{session_runs}
use Rattle.cct_live_service.proofs.session.give.Goals as goal

pub returns-in-Ok : goal.returns-in-Ok
returns-in-Ok g c =
    let sink = g.K.Sink in
    let disk = g.D.Disk in
    let host = c.args.host.now in
    let after = c.ask_host.new.host in
    let p = c.args.payment in
    let es = entry_of.Taken (pay_of p) ∷ [] in
    let told = pays p taken ∷ [] in
    let does = DoesPay p None in
    record {
      acts = λ old asks.
          let new = c.taken.new.self in
          let linked = Both (IsDecision (Some p.addr)) (FollowsDesk c.by_writing.result old new) in
          subst (λ r. Acts sink.written sink.puts sink.faults linked does r c.args.out.now c.write_report.new.out host after)
          (sym c.by_writing.ensures)
          (acts_step sink.written sink.puts sink.faults linked c.write_report.result c.args.out.now c.write_report.new.out host
          after (live.command (pay_of p)) told
          ((pays p taken, [], refl, refl, refl), follows c.by_writing.result old new told (taken_at_desk old c.args.desk.now new p asks c.taken.ensures)) does
          (told_as sink.written sink.puts c.args.out.now c.write_report.new.out (as_told es) told c.write_report.result refl refl
          (subst (λ rs. WritesTold sink.written sink.puts c.args.out.now (as_told rs) c.write_report.result c.write_report.new.out)
          c.report_taken.ensures c.write_report.ensures.writes))
          c.in-Ok.ensures.lives (refl, inl refl) (c.in-Ok.ensures.whole ∙ c.requires.whole)
          c.in-Ok.ensures.setup c.write_report.ensures.serves
          (disk_same disk.size disk.honest disk.seen disk.cuts disk.faults (disk_of host) (disk_of after)
          c.in-Ok.ensures.disk));
      watch = c.write_report.ensures.watch;
    }

pub returns-in-Err : goal.returns-in-Err
returns-in-Err g c =
    let sink = g.K.Sink in
    let disk = g.D.Disk in
    let host = c.args.host.now in
    let after = c.ask_host.new.host in
    let p = c.args.payment in
    let es = entry_of.No (pay_of p) c.in-Err.why ∷ entry_of.Short c.refused-shortfall.result.paid c.refused-shortfall.result.rest ∷ [] in
    let told = pays p (refused_for c.in-Err.why) ∷ falls_short p c.refused-shortfall.result.paid c.refused-shortfall.result.rest ∷ [] in
    let does = DoesPay p None in
    record {
      acts = λ old asks.
          let new = c.refused-shortfall.new.self in
          let linked = Both (IsDecision (Some p.addr)) (FollowsDesk c.by_writing-in-Err.result old new) in
          subst (λ r. Acts sink.written sink.puts sink.faults linked does r c.args.out.now c.write_report-in-Err.new.out host after)
          (sym c.by_writing-in-Err.ensures)
          (acts_step sink.written sink.puts sink.faults linked c.write_report-in-Err.result c.args.out.now c.write_report-in-Err.new.out host
          after (live.command (pay_of p)) told (
            (
              pays p (refused_for c.in-Err.why),
              falls_short p c.refused-shortfall.result.paid c.refused-shortfall.result.rest ∷ [],
              refl,
              refl,
              refl,
            ),
            follows c.by_writing-in-Err.result old new told (refused_at_desk old c.args.desk.now new p c.in-Err.why
                c.refused-shortfall.result.paid c.refused-shortfall.result.rest asks c.refused-shortfall.ensures.told
                c.refused-shortfall.ensures.desk),
          ) does
          (told_as sink.written sink.puts c.args.out.now c.write_report-in-Err.new.out (as_told es) told c.write_report-in-Err.result refl refl
          (subst (λ rs. WritesTold sink.written sink.puts c.args.out.now (as_told rs) c.write_report-in-Err.result c.write_report-in-Err.new.out)
          c.report_refused.ensures c.write_report-in-Err.ensures.writes))
          c.in-Err.ensures.lives (refl, inr (c.in-Err.why, c.refused-shortfall.result.paid, c.refused-shortfall.result.rest, refl)) (c.in-Err.ensures.whole ∙ c.requires.whole)
          c.in-Err.ensures.setup c.write_report-in-Err.ensures.serves
          (disk_same disk.size disk.honest disk.seen disk.cuts disk.faults (disk_of host) (disk_of after)
          c.in-Err.ensures.disk));
      watch = c.write_report-in-Err.ensures.watch;
    }

pub refused-shortfall-requires : goal.refused-shortfall-requires
refused-shortfall-requires g c = session_runs c.args.desk.now c.args.payment.id c.requires.waits
