use Rattle.std.proofs.Common.{inr, sym, subst}
use Rattle.cct_host.specs.Host as hosts
use Rattle.cct_journal.specs.Journal as journals
use Rattle.cct_live_service.specs.Causes.{Refuses}
use Rattle.cct_live_service.proofs.Begins.{opened_by}
use Rattle.cct_live_service.proofs.Causing.{not_true, reads_serve, refuses_start}
use Rattle.cct_live_service.proofs.Parts.{disk_then}
use Rattle.cct_live_service.proofs.opening.open_host.Goals as goal

pub returns-in-Ok-start-clause-opened : goal.returns-in-Ok-start-clause-opened
returns-in-Ok-start-clause-opened g c =
    let setup = c.args.setup.now in
    let start = c.in-Ok-start.ensures in
    opened_by {g = g.D.Disk} c.args.disk c.in-Ok.opened.0 c.in-Ok-start.host setup c.in-Ok.opened.1 start.setup
    c.requires.sound c.in-Ok.ensures.opened (λ found told. c.in-Ok.ensures.opens setup found c.requires.sound told)
    start.begins start.resumes start.knows start.fresh start.stands start.reads c.in-Ok.ensures.serves start.untouched
    start.place

pub returns-in-Ok-start-clause-serves : goal.returns-in-Ok-start-clause-serves
returns-in-Ok-start-clause-serves g c =
    let disk = g.D.Disk in
    let journal = c.in-Ok.opened.0 in
    let host = c.in-Ok-start.host in
    let start = c.in-Ok-start.ensures in
    disk_then disk.size disk.honest disk.seen disk.cuts disk.faults c.args.disk (journals.disk_of journal)
    (hosts.disk_of host) ⊥ ⊥ c.in-Ok.ensures.serves
    (reads_serve disk.size disk.honest disk.seen disk.may_leave disk.moment disk.left_since disk.cuts disk.faults
    (journals.disk_of journal) (hosts.disk_of host) ⊥ start.reads (record { later = start.cause; rose = λ e. absurd e })) ⊥
    (λ fails. inr fails)

pub returns-in-Err-start-clause-refuses : goal.returns-in-Err-start-clause-refuses
returns-in-Err-start-clause-refuses g c =
    let disk = g.D.Disk in
    let start = c.in-Err-start.ensures in
    let back = c.in-Err-start.disk in
    let why = c.in-Err-start.why in
    subst (Refuses disk.size disk.honest disk.seen disk.may_leave disk.moment disk.left_since disk.cuts disk.faults
    c.args.disk back c.args.setup.now) (sym c.unstarted.ensures)
    (refuses_start {g = disk} c.args.disk back c.in-Ok.opened.0 c.args.setup.now c.in-Ok.opened.1 why c.in-Ok.ensures.sized
    c.in-Ok.ensures.opened c.in-Ok.ensures.serves start.stops start.cause (λ none. not_true (start.starts none)) start.reads)

pub returns-in-Err-clause-refuses : goal.returns-in-Err-clause-refuses
returns-in-Err-clause-refuses g c = c.in-Err.ensures.refuses c.args.setup.now
