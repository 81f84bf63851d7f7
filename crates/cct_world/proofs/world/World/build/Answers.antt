use Rattle.std.proofs.Common.{[], refl, subst, sym}
use Rattle.cct_disk.specs.Disk.{IsTrusted}
use Rattle.cct_journal.specs.Journal as journals
use Rattle.cct_laws.specs.Recorded.{HasNoJob}
use Rattle.cct_host.specs.Host as hosts
use Rattle.cct_host.specs.OnDisk.{KeepsRecords}
use Rattle.cct_host.proofs.Starting.{started_stands}
use Rattle.cct_world.specs.Machine as machines
use Rattle.cct_world.proofs.world.World.build.Goals as goal

pub returns-in-Ok-new-2-clause-fresh : goal.returns-in-Ok-new-2-clause-fresh
returns-in-Ok-new-2-clause-fresh g c stands =
    let disk = g.D.Disk in
    let start = c.in-Ok-start.ensures in
    let nothing : HasNoJob [] = record { devices = λ d. refl; scan = refl; sale = refl } in
    let host = started_stands c.in-Ok-start.host [] [] nothing refl (start.fresh c.requires.unused)
    (λ trusted. subst (λ setup. KeepsRecords setup disk.honest disk.seen disk.may_leave
    (hosts.disk_of c.in-Ok-start.host) (journals.place_of (hosts.journal_of c.in-Ok-start.host)) []) (sym start.setup)
    (start.stands [] (stands (subst (λ j. IsTrusted disk.honest disk.seen (journals.disk_of j))
    (start.untouched c.requires.unused) trusted)))) in
    subst (λ m. machines.StandsFor m []) (sym c.in-Ok-new-2.ensures.ok) (record { host = host; bus = c.in-Ok.ensures.fresh })
