use Rattle.std.proofs.Common.{subst, sym, ◌∙◌, ◌+◌, ap, inl, length}
use Rattle.std.proofs.lemmas.Result.{IfErr-weaker, IfOk-weaker}
use Rattle.cct_model.specs.Carry.{carry_of, carry_over}
use Rattle.cct_journal.specs.Journal as journals
use Rattle.cct_journal.specs.OldImage.{OldStandsFor}
use Rattle.cct_journal.specs.OldJournal as olds
use Rattle.cct_journal.specs.OldStands.{IsTurned}
use Rattle.cct_journal.proofs.Moments.{reads_then, weaker}
use Rattle.cct_host.specs.Upgrading.{CanTurn, CanUpgrade, IsBrought, RefusesUpgrade, StandsBrought, disk_after}
use Rattle.cct_host.proofs.Records.{rest_many}
use Rattle.cct_host.proofs.Upgrades.{brought_leave, can_upgrade, if_ok_both, only_image, refused_old, refused_opened, same_image, stands_brought, upgrade_has, whole_carry}
use Rattle.cct_host.proofs.upgrading.upgrade.Goals as goal

pub returns-in-Ok-clause-moments : goal.returns-in-Ok-clause-moments
returns-in-Ok-clause-moments g c image base carry rest held has =
    let from = c.in-Ok.ensures.reads_from image base carry rest held.tells has in
    brought_leave g.D.Disk c.args.setup.now (olds.place_of c.in-Ok.journal) base carry rest image c.args.disk
    (olds.disk_of c.in-Ok.journal) (disk_after c.bring_forward.result) held c.in-Ok.ensures.reads has from.0 from.1
    from.2.count (c.bring_forward.ensures.moments rest (c.in-Ok.ensures.stands image rest held from.2))

pub returns-in-Ok-clause-stands : goal.returns-in-Ok-clause-stands
returns-in-Ok-clause-stands g c image records held stands first =
    weaker g.D.Disk.moment g.D.Disk.left_since c.args.disk (disk_after c.bring_forward.result)
    (IsBrought c.args.setup.now stands.base stands.carry stands.rest) (StandsBrought c.args.setup.now records)
    (stands_brought c.args.setup.now stands.base stands.carry stands.rest records c.requires.sound stands.continues first)
    (returns-in-Ok-clause-moments g c image stands.base stands.carry stands.rest held stands.has)

pub returns-in-Ok-clause-alone : goal.returns-in-Ok-clause-alone
returns-in-Ok-clause-alone g c image held none =
    let counts = c.in-Ok.ensures.counts image held.tells in
    let same = same_image _ _ (sym counts.tells ∙ c.in-Ok.ensures.reads.same_seen ∙ held.tells) in
    only_image g.D.Disk c.args.disk (disk_after c.bring_forward.result) image held
    (reads_then c.in-Ok.ensures.reads (c.bring_forward.ensures.alone counts (λ rest reads can.
    none (olds.base_of c.in-Ok.journal) (olds.carry_before c.in-Ok.journal) rest
    (subst (λ i. CanUpgrade c.args.setup.now i (olds.base_of c.in-Ok.journal) (olds.carry_before c.in-Ok.journal) rest)
    same (can_upgrade counts c.args.setup.now rest reads can)))))

pub returns-in-Ok-clause-done : goal.returns-in-Ok-clause-done
returns-in-Ok-clause-done g c =
    IfOk-weaker c.bring_forward.result _ _
    (λ brought done image base carry rest held has.
    let from = c.in-Ok.ensures.reads_from image base carry rest held.tells has in
    subst (λ n. IsTurned g.D.Disk.honest g.D.Disk.seen g.D.Disk.may_leave (journals.disk_of brought.0) n
    (carry_over c.args.setup.now carry rest)) (from.2.count ∙ ap (λ n. n + length rest) (sym from.0))
    (subst (λ k. IsTurned g.D.Disk.honest g.D.Disk.seen g.D.Disk.may_leave (journals.disk_of brought.0)
    (olds.used_of c.in-Ok.journal) (carry_over c.args.setup.now k rest)) (sym from.1)
    (done rest (c.in-Ok.ensures.stands image rest held from.2))))
    c.bring_forward.ensures.done

pub returns-in-Ok-clause-keeps : goal.returns-in-Ok-clause-keeps
returns-in-Ok-clause-keeps g c =
    if_ok_both c.bring_forward.result _ _ _
    (λ brought keeps can image records held stands first.
    let from = c.in-Ok.ensures.reads_from image stands.base stands.carry stands.rest held.tells stands.has in
    let turns = subst (λ k. CanTurn c.args.setup.now k stands.rest) (sym from.1) (can stands.rest from.2) in
    keeps stands.rest (c.in-Ok.ensures.stands image stands.rest held from.2) (carry_of c.args.setup.now) records
    (from.2.count ∙ ap (λ n. n + length stands.rest) (sym from.0)
    ∙ rest_many c.args.setup.now stands.base stands.carry stands.rest records c.requires.sound stands.continues)
    (ap (λ k. carry_over c.args.setup.now k stands.rest) (sym from.1)
    ∙ whole_carry c.args.setup.now stands.base stands.carry stands.rest records c.requires.sound stands.continues
    first turns))
    c.bring_forward.ensures.keeps c.bring_forward.ensures.can

pub returns-in-Ok-clause-counts : goal.returns-in-Ok-clause-counts
returns-in-Ok-clause-counts g c =
    IfOk-weaker c.bring_forward.result _ _
    (λ brought told image tells.
    let counts = c.in-Ok.ensures.counts image tells in
    let same = same_image _ _ (sym counts.tells ∙ c.in-Ok.ensures.reads.same_seen ∙ tells) in
    let all = told counts in
    record {
      base = olds.base_of c.in-Ok.journal;
      carry = olds.carry_before c.in-Ok.journal;
      rest = all.rest;
      can = subst (λ i. CanUpgrade c.args.setup.now i (olds.base_of c.in-Ok.journal)
          (olds.carry_before c.in-Ok.journal) all.rest) same
          (can_upgrade counts c.args.setup.now all.rest all.reads all.can);
      count = all.count ∙ all.reads.count;
    })
    c.bring_forward.ensures.counts

pub returns-in-Ok-clause-never : goal.returns-in-Ok-clause-never
returns-in-Ok-clause-never g c =
    IfErr-weaker c.bring_forward.result _ _
    (λ e never image base carry rest tells can.
    let from = c.in-Ok.ensures.reads_from image base carry rest tells (upgrade_has _ image base carry rest can) in
    never rest from.2 (subst (λ k. CanTurn c.args.setup.now k rest) from.1 can.can))
    c.bring_forward.ensures.never

pub returns-in-Err-clause-refused : goal.returns-in-Err-clause-refused
returns-in-Err-clause-refused g c image tells =
    subst (λ n. RefusesUpgrade n c.args.setup.now image) (sym c.from.ensures)
    (refused_old c.in-Err.why c.args.setup.now image (c.in-Err.ensures.refused image tells))

pub returns-in-Ok-clause-refused : goal.returns-in-Ok-clause-refused
returns-in-Ok-clause-refused g c =
    IfErr-weaker c.bring_forward.result _ _
    (λ e refused image tells.
    let counts = c.in-Ok.ensures.counts image tells in
    subst (RefusesUpgrade e.1 c.args.setup.now)
    (same_image _ _ (sym counts.tells ∙ c.in-Ok.ensures.reads.same_seen ∙ tells))
    (refused_opened counts e.1 c.args.setup.now (refused counts)))
    c.bring_forward.ensures.refused

pub returns-in-Ok-clause-unchanged : goal.returns-in-Ok-clause-unchanged
returns-in-Ok-clause-unchanged g c =
    IfErr-weaker c.bring_forward.result _ _ (λ e kept other. reads_then c.in-Ok.ensures.reads (kept other))
    c.bring_forward.ensures.unchanged

pub returns-in-Err-clause-stands : goal.returns-in-Err-clause-stands
returns-in-Err-clause-stands g c image records held stands first =
    weaker g.D.Disk.moment g.D.Disk.left_since c.args.disk c.in-Err.disk (g.D.Disk.may_leave c.args.disk)
    (StandsBrought c.args.setup.now records)
    (λ d left.
    inl (subst (λ i. OldStandsFor (carry_of c.args.setup.now) i records) (sym (held.only d left)) stands))
    (c.in-Err.ensures.reads.moments held.keeps_synced)
