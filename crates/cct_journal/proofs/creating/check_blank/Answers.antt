use Rattle.std.proofs.Common.{◌≡◌, ◌+◌, ◌∙◌, length, take, subst, arith}
use Rattle.std.specs.Option.{MatchOption}
use Rattle.std.proofs.lemmas.Grind.{common_steps}
use Rattle.cct_journal.specs.Image.{IsBlankBetween, IsFirstByteFrom}
use Rattle.cct_journal.proofs.Blanks.{blank_first, blank_more}
use Rattle.cct_journal.proofs.Moments.{reads_then}
use Rattle.cct_journal.proofs.creating.check_blank.Goals as goal

pub returns-in-Some-clause-refused : goal.returns-in-Some-clause-refused
returns-in-Some-clause-refused g c image told =
    let seen = c.loop-at.invariant.reads.same_seen ∙ told in
    let P = λ (o : _). MatchOption o
    (IsBlankBetween c.loop-at.at (c.loop-at.at + length (take c.min-count.result c.loop-at.room)) image)
    (λ index. IsFirstByteFrom c.loop-at.at image (c.loop-at.at + index)) in
    blank_first image c.loop-at.at _ (c.loop-at.invariant.blank image told)
    (subst P c.in-Some.is (c.in_ok-index.ensures.found image seen))

pub loop-at-preserved : goal.loop-at-preserved
loop-at-preserved g c = record {
  within = omega (arith, c.min-count.ensures, c.loop-at-test.true);
  reads = reads_then c.loop-at.invariant.reads c.read_block.ensures.reads;
  ready = λ is. c.read_block.ensures.ready (c.loop-at.invariant.ready is);
  later = omega (arith, c.loop-at.invariant.later, c.read_block.ensures.cause.later);
  blank = λ image told.
      let seen = c.loop-at.invariant.reads.same_seen ∙ told in
      let P = λ (o : _). MatchOption o
      (IsBlankBetween c.loop-at.at (c.loop-at.at + length (take c.min-count.result c.loop-at.room)) image)
      (λ index. IsFirstByteFrom c.loop-at.at image (c.loop-at.at + index)) in
      let whole : length (take c.min-count.result c.loop-at.room) ≡ c.min-count.result = grind (arith, common_steps) in
      blank_more image c.loop-at.at _ (c.loop-at.invariant.blank image told)
      (subst (λ n. IsBlankBetween c.loop-at.at (c.loop-at.at + n) image) whole
      (subst P c.in_default.is (c.in_ok-index.ensures.found image seen)));
}
