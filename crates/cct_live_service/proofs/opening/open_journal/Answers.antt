use Rattle.std.proofs.Common.{◌≡◌, ◌∙◌, inl, inr, sym, subst}
use Rattle.std.specs.Prelude.{⊤}
use Rattle.cct_journal.specs.declared.refusal.OpenNo.TheVariants.{Disk}
use Rattle.cct_journal.specs.Opening.{RefusesOpen}
use Rattle.cct_journal.specs.Creating.{IsCreated}
use Rattle.cct_journal.specs.Journal as journals
use Rattle.cct_journal.proofs.Moments.{reads_hold, then, weaker}
use Rattle.cct_live_service.specs.Causes.{Refuses}
use Rattle.cct_live_service.proofs.Begins.{opens_there}
use Rattle.cct_live_service.proofs.Causing.{reads_serve, refuses_bad, refuses_fault, refuses_made, refuses_other}
use Rattle.cct_live_service.proofs.Parts.{disk_then}
use Rattle.cct_live_service.proofs.opening.open_journal.Goals as goal

pub returns-then-len-ne-MADE_LEN-clause-refuses : goal.returns-then-len-ne-MADE_LEN-clause-refuses
returns-then-len-ne-MADE_LEN-clause-refuses g c setup =
    let disk = g.D.Disk in
    refuses_other disk.size disk.honest disk.seen disk.may_leave disk.moment disk.left_since disk.cuts disk.faults
    c.args.disk setup c.len-len.result c.len-len.ensures (λ same. c.if-len-ne-MADE_LEN.true (c.len-len.ensures ∙ same))
    g.met.D.Disk.only_now

pub returns-in-Ok-clause-opens : goal.returns-in-Ok-clause-opens
returns-in-Ok-clause-opens g c setup found sound tells =
    opens_there {g = g.D.Disk} c.args.disk c.in-Ok.journal setup found sound c.in-Ok.ensures.finds c.in-Ok.ensures.stands
    c.in-Ok.ensures.reads tells

pub returns-in-Ok-clause-opened : goal.returns-in-Ok-clause-opened
returns-in-Ok-clause-opened g c = (c.in-Ok.ensures.finds, c.in-Ok.ensures.reads, c.in-Ok.ensures.stands)

pub returns-in-Ok-clause-serves : goal.returns-in-Ok-clause-serves
returns-in-Ok-clause-serves g c =
    let disk = g.D.Disk in
    reads_serve disk.size disk.honest disk.seen disk.may_leave disk.moment disk.left_since disk.cuts disk.faults c.args.disk
    (journals.disk_of c.in-Ok.journal) ⊥ c.in-Ok.ensures.reads
    (record { later = c.in-Ok.ensures.cause; rose = λ e. absurd e })

pub returns-in-Ok-make_journal-clause-opens : goal.returns-in-Ok-make_journal-clause-opens
returns-in-Ok-make_journal-clause-opens g c setup found sound none =
    c.in-Ok-make_journal.ensures.opens setup found none

pub returns-in-Ok-make_journal-clause-opened : goal.returns-in-Ok-make_journal-clause-opened
returns-in-Ok-make_journal-clause-opened g c =
    let disk = g.D.Disk in
    let made = c.in-Ok-make_journal.ensures.made in
    let reads = c.in-Err.ensures.reads in (
      made.0,
      λ image told. made.1 image (reads.same_seen ∙ told),
      λ image holds.
          let here = reads_hold reads image holds in
          then disk.moment disk.left_since c.args.disk c.in-Err.disk (journals.disk_of c.in-Ok-make_journal.journal)
          (IsCreated image)
          (weaker disk.moment disk.left_since c.args.disk c.in-Err.disk (disk.may_leave c.args.disk) (IsCreated image)
          (λ bytes left. inl (holds.only bytes left)) (reads.moments holds.keeps_synced))
          (made.2 image here),
    )

pub returns-in-Ok-make_journal-clause-serves : goal.returns-in-Ok-make_journal-clause-serves
returns-in-Ok-make_journal-clause-serves g c =
    let disk = g.D.Disk in
    let mid = c.in-Err.disk in
    let journal = c.in-Ok-make_journal.journal in
    disk_then disk.size disk.honest disk.seen disk.cuts disk.faults c.args.disk mid (journals.disk_of journal) (c.in-Err.why ≡ Disk) ⊥
    (reads_serve disk.size disk.honest disk.seen disk.may_leave disk.moment disk.left_since disk.cuts disk.faults c.args.disk
    mid (c.in-Err.why ≡ Disk) c.in-Err.ensures.reads c.in-Err.ensures.cause)
    c.in-Ok-make_journal.ensures.serves ⊥ (λ fails. inr fails)

pub returns-in-Err-make_journal-clause-refuses : goal.returns-in-Err-make_journal-clause-refuses
returns-in-Err-make_journal-clause-refuses g c setup =
    let disk = g.D.Disk in
    let mid = c.in-Err.disk in
    let refuses = c.in-Err-make_journal.ensures.refuses in
    let back = c.in-Err-make_journal.ended.1 in
    subst (Refuses disk.size disk.honest disk.seen disk.may_leave disk.moment disk.left_since disk.cuts disk.faults
    c.args.disk back setup) (sym refuses.1)
    (refuses_made disk.size disk.honest disk.seen disk.may_leave disk.moment disk.left_since disk.cuts disk.faults
    c.args.disk mid back setup refuses.0 (c.in-Err.why ≡ Disk) (sym c.len-len.ensures ∙ c.if-len-ne-MADE_LEN.false)
    (λ image told. subst (λ why. RefusesOpen why image) c.in-Alien.is (c.in-Err.ensures.refused image told))
    c.in-Err.ensures.reads c.in-Err.ensures.cause refuses.2)

pub returns-in-Disk-clause-refuses : goal.returns-in-Disk-clause-refuses
returns-in-Disk-clause-refuses g c setup =
    let disk = g.D.Disk in
    refuses_fault disk.size disk.honest disk.seen disk.may_leave disk.moment disk.left_since disk.cuts disk.faults
    c.args.disk c.in-Err.disk setup (sym c.len-len.ensures ∙ c.if-len-ne-MADE_LEN.false)
    (reads_serve disk.size disk.honest disk.seen disk.may_leave disk.moment disk.left_since disk.cuts disk.faults c.args.disk
    c.in-Err.disk ⊤ c.in-Err.ensures.reads
    (record { later = c.in-Err.ensures.cause.later; rose = λ fails. c.in-Err.ensures.cause.rose c.in-Disk.is }))

pub returns-in-BadRecord-clause-refuses : goal.returns-in-BadRecord-clause-refuses
returns-in-BadRecord-clause-refuses g c setup =
    let disk = g.D.Disk in
    refuses_bad disk.size disk.honest disk.seen disk.may_leave disk.moment disk.left_since disk.cuts disk.faults c.args.disk
    c.in-Err.disk setup c.in-BadRecord.index (c.in-Err.why ≡ Disk) (sym c.len-len.ensures ∙ c.if-len-ne-MADE_LEN.false)
    (λ image told. subst (λ why. RefusesOpen why image) c.in-BadRecord.is (c.in-Err.ensures.refused image told))
    c.in-Err.ensures.reads c.in-Err.ensures.cause
