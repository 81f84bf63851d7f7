use Rattle.std.proofs.Common.{Some, refl, sym, subst}
use Rattle.cct_live_service.specs.declared.notice.Notice.TheVariants as notice_of
use Rattle.cct_live_service.specs.Asked.{asked_before}
use Rattle.cct_live_service.specs.AtDesk.{Both, IsApart}
use Rattle.cct_live_service.specs.Doing.{DoesCommand}
use Rattle.cct_live_service.specs.Linked.{IsDecision}
use Rattle.cct_live_service.specs.Parts.{Acts}
use Rattle.cct_live_service.specs.Told.{notice}
use Rattle.cct_live_service.proofs.Linking.{withheld_decides}
use Rattle.cct_live_service.proofs.Parts.{acts_line}
use Rattle.cct_live_service.proofs.commands.withhold.Goals as goal

pub returns : goal.returns
returns g c =
    let sink = g.K.Sink in
    let host = c.args.host.now in
    let what = notice (notice_of.Withheld c.args.command.now c.args.why) in
    let does = DoesCommand c.args.command.now (Some c.args.why) in
    record {
      acts = subst (λ r. Acts sink.written sink.puts sink.faults (Both (IsDecision (asked_before c.args.command.now)) IsApart) does r c.args.out.now c.tell.new.out host host)
          (sym c.by_writing.ensures)
          (acts_line sink.written sink.puts sink.faults (Both (IsDecision (asked_before c.args.command.now)) IsApart) c.tell.result c.args.out.now c.tell.new.out host what (withheld_decides c.args.command.now c.args.why, λ desk. refl) refl
          (λ past. (tt, tt)) c.tell.ensures.puts c.requires.whole c.tell.ensures.serves);
      watch = refl;
    }
