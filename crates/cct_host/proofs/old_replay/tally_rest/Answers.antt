use Rattle.std.proofs.Common.{arith, subst, sym, ◌∙◌}
use Rattle.cct_journal_carry.specs.Tally as tallies
use Rattle.cct_host.specs.OldTally.{TalliesUpTo}
use Rattle.cct_host.proofs.OldTallying.{bad_still, err_passed, first_goes, read_on, reads_still, up_goes, up_still}
use Rattle.cct_host.proofs.Tallying.{went_all}
use Rattle.cct_host.proofs.old_replay.tally_rest.Goals as goal

pub returns-in_err-tally_next-clause-bad : goal.returns-in_err-tally_next-clause-bad
returns-in_err-tally_next-clause-bad g c =
    let now = c.loop-index.invariant in
    err_passed _ c.in_err-tally_next.field-0.0 _ c.from_residual.ensures (λ counts.
    bad_still c.args.journal.now c.loop-index.journal now.reads.place now.reads.disk.same_seen
    c.in_err-tally_next.field-0.0 _ _ now.setup counts (λ later.
    c.in_err-tally_next.ensures.bad later
    (subst (λ s. TalliesUpTo s c.loop-index.journal c.loop-index.index
    (tallies.carry_in c.loop-index.tally)) (sym now.setup)
    (up_still c.args.journal.now c.loop-index.journal now.reads.place now.reads.disk.same_seen _ _ _
    (now.up_to counts)))))

pub loop-index-preserved : goal.loop-index-preserved
loop-index-preserved g c =
    let now = c.loop-index.invariant in
    let first = c.args.journal.now in
    let last = c.loop-index.journal in
    record {
      setup = c.in_ok-tally_next.ensures.setup ∙ now.setup;
      counted = (let more = c.in_ok-tally_next.ensures.counted in omega (arith, more, now.counted));
      over = λ rest reads.
          first_goes first last now.reads.place now.reads.disk.same_seen _ _ rest c.loop-index.index _ _ now.setup
          (c.in_ok-tally_next.ensures.over rest
          (reads_still first last now.reads.place now.reads.disk.same_seen rest reads)) (now.over rest reads);
      up_to = λ counts.
          up_goes first last now.reads.place now.reads.disk.same_seen _ _ c.loop-index.index _ _ now.setup
          c.in_ok-tally_next.ensures.reads_next (now.up_to counts)
          (λ index carry went. up_still last first (sym now.reads.place) (sym now.reads.disk.same_seen) _ index carry went);
      reads = read_on now.reads c.in_ok-tally_next.ensures.reads;
    }

pub returns-clause-over : goal.returns-clause-over
returns-clause-over g c rest reads =
    went_all _ _ _ _ rest c.loop-index.index
    (omega (arith, reads.count, c.used-index-end.ensures.value, c.loop-index-test.false, c.loop-index.auto.index-end))
    (c.loop-index.invariant.over rest reads)
