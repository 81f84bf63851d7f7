use Rattle.std.proofs.Common.{◌+◌, ◌∙◌, ap, arith, rules, subst, sym}
use Rattle.cct_journal_carry.specs.Tally as tallies
use Rattle.cct_journal.specs.Journal as journals
use Rattle.cct_journal.specs.declared.place.Place.{Place}
use Rattle.cct_host.specs.OnDisk.{ReadsRest}
use Rattle.cct_host.specs.Starting.{TalliesSome}
use Rattle.cct_host.proofs.Tallying.{first_same, went_all}
use Rattle.cct_host.proofs.replay.replay_rest.Goals as goal

pub returns-clause-over : goal.returns-clause-over
returns-clause-over g c rest reads fits =
    went_all _ _ _ _ rest c.loop-index.index
    (omega (arith, reads.count, c.used-index-end.ensures.value, c.loop-index-test.false, c.loop-index.auto.index-end))
    (c.loop-index.invariant.over rest reads fits)

pub loop-index-preserved : goal.loop-index-preserved
loop-index-preserved g c =
    let before = c.loop-index.invariant in
    let next = c.in_ok-replay_next.ensures in
    let base = journals.base_of c.args.journal.now in
    let first = tallies.carry_in c.args.before in
    record {
      setup = next.setup ∙ before.setup;
      counted = search rules;
      some = λ fits.
          subst (λ s. TalliesSome s base first (c.loop-index.index + 1) (tallies.carry_in c.replay_next.new.tally)) before.setup
          (next.some base first
          (subst (λ s. TalliesSome s base first c.loop-index.index (tallies.carry_in c.loop-index.tally)) (sym before.setup)
          (before.some fits)));
      over = λ rest reads fits.
          let only = before.reads in
          let at = ap (λ (p : Place). p.base) only.place in
          let now = c.loop-index.journal in
          let here : ReadsRest g.D.Disk.seen (journals.disk_of now) (journals.place_of now) rest =
          subst (λ p. ReadsRest g.D.Disk.seen (journals.disk_of now) p rest) (sym only.place)
          (record {
            image = reads.image;
            tells = only.disk.same_seen ∙ reads.tells;
            has = reads.has;
            count = reads.count;
          }) in
          first_same _ _ _ _ first _ rest _ before.setup at
          (next.over rest here first
          (first_same _ _ _ _ first _ rest _ (sym before.setup) (sym at) (before.over rest reads fits)));
      none = search rules;
      reads = search rules;
    }
