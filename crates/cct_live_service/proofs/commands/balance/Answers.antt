use Rattle.std.proofs.Common.{◌∷◌, ◌++◌, [], ◌∙◌, ap, refl, sym, subst}
use Rattle.cct_host.specs.Host.{disk_of}
use Rattle.cct_model.specs.lines.entry.Entry.TheVariants.{Balance}
use Rattle.cct_laws_live.specs.LiveStep as live
use Rattle.cct_live_service.specs.AtDesk.{Both, IsApart}
use Rattle.cct_live_service.specs.Doing.{TellsOne}
use Rattle.cct_live_service.specs.Linked.{AreQuiet}
use Rattle.cct_live_service.specs.Parts.{Acts}
use Rattle.cct_live_service.specs.Told.{WritesTold, as_told}
use Rattle.cct_live_service.proofs.Desks.{apart_balance}
use Rattle.cct_live_service.proofs.Parts.{acts_step, balance_goes, disk_same}
use Rattle.cct_live_service.proofs.commands.balance.Goals as goal

pub returns : goal.returns
returns g c =
    let sink = g.K.Sink in
    let disk = g.D.Disk in
    let host = c.args.host.now in
    let told = c.totals.result in
    let does = TellsOne live.balance in
    let alone = c.push.ensures.items ∙ ap (λ es. es ++ Balance told ∷ []) c.clear.ensures in
    record {
      acts = subst (λ r. Acts sink.written sink.puts sink.faults (Both AreQuiet IsApart) does r c.args.out.now c.write_report.new.out host host)
          (sym c.by_writing.ensures)
          (acts_step sink.written sink.puts sink.faults (Both AreQuiet IsApart) c.write_report.result c.args.out.now c.write_report.new.out host
          host live.balance (as_told (Balance told ∷ [])) (refl, apart_balance told) does
          (subst (λ es. WritesTold sink.written sink.puts c.args.out.now (as_told es) c.write_report.result c.write_report.new.out)
          alone c.write_report.ensures.writes)
          (balance_goes host told c.totals.ensures) (refl, (Balance told, refl)) c.requires.whole refl
          c.write_report.ensures.serves
          (disk_same disk.size disk.honest disk.seen disk.cuts disk.faults (disk_of host) (disk_of host) refl));
      watch = c.write_report.ensures.watch;
    }
