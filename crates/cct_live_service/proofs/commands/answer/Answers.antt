use Rattle.std.proofs.Common.{◌∷◌, ◌++◌, [], ◌∙◌, ap, refl, sym, subst}
use Rattle.cct_host.specs.Host.{disk_of}
use Rattle.cct_laws_live.specs.LiveStep as live
use Rattle.cct_live_service.specs.Asked.{asked_before}
use Rattle.cct_live_service.specs.AtDesk.{Both, IsApart}
use Rattle.cct_live_service.specs.Doing.{TellsOne}
use Rattle.cct_live_service.specs.Linked.{IsDecision}
use Rattle.cct_live_service.specs.Parts.{Acts}
use Rattle.cct_live_service.specs.Told.{WritesTold, as_told}
use Rattle.cct_live_service.proofs.Parts.{acts_step, disk_same}
use Rattle.cct_live_service.proofs.commands.answer.Goals as goal

pub returns : goal.returns
returns g c =
    let sink = g.K.Sink in
    let disk = g.D.Disk in
    let host = c.args.host.now in
    let after = c.answer_of.new.host in
    let told = c.answer_of.result in
    let does = TellsOne (live.command c.args.command.now) in
    let alone = c.push.ensures.items ∙ ap (λ es. es ++ told ∷ []) c.clear.ensures in
    record {
      acts = subst (λ r. Acts sink.written sink.puts sink.faults (Both (IsDecision (asked_before c.args.command.now)) IsApart) does r c.args.out.now c.write_report.new.out host after)
          (sym c.by_writing.ensures)
          (acts_step sink.written sink.puts sink.faults (Both (IsDecision (asked_before c.args.command.now)) IsApart) c.write_report.result c.args.out.now c.write_report.new.out host
          after (live.command c.args.command.now) (as_told (told ∷ [])) c.answer_of.ensures.quiet
          does
          (subst (λ es. WritesTold sink.written sink.puts c.args.out.now (as_told es) c.write_report.result c.write_report.new.out)
          alone c.write_report.ensures.writes)
          c.answer_of.ensures.lives (refl, (told, refl)) (c.answer_of.ensures.whole ∙ c.requires.whole)
          c.answer_of.ensures.setup c.write_report.ensures.serves
          (disk_same disk.size disk.honest disk.seen disk.cuts disk.faults (disk_of host) (disk_of after)
          c.answer_of.ensures.disk));
      watch = c.write_report.ensures.watch;
    }
