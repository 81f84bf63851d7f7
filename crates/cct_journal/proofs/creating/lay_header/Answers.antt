use Rattle.std.proofs.Common.{◌∙◌, inl, refl, arith}
use Rattle.cct_journal.specs.Creating.{IsCreated}
use Rattle.cct_journal.specs.Gated.{IsBegun}
use Rattle.cct_journal.specs.Places.{behind_start}
use Rattle.cct_journal.proofs.Blanks.{begun_created_by, created_stands, told_image}
use Rattle.cct_journal.proofs.Moments.{then_leaves}
use Rattle.cct_disk.proofs.Taking.{takes_sure}
use Rattle.cct_journal.proofs.creating.lay_header.Goals as goal

pub returns-clause-created : goal.returns-clause-created
returns-clause-created g c = record {
  stands = λ honest told carry_of none.
      let disk = g.D.Disk in
      let seen = told_image (disk.seen c.args.disk.now) told in
      let reads = c.check_blank.ensures.reads in
      created_stands disk.honest disk.seen disk.may_leave c.write_start.new.disk seen.0
      (c.in_ok-check_blank.ensures.blank seen.0 seen.1)
      (omega (arith, g.met.D.Disk.fits _ seen.0 seen.1, c.len-len.ensures, c.if-len-lt-LEAST.false))
      c.empty-carry.result c.empty-carry.ensures c.write_start.ensures.whole
      (c.in_ok-write_start.ensures.done (reads.same_honest ∙ honest) seen.0 (reads.same_seen ∙ seen.1)) carry_of none;
  none = refl;
  blank = c.in_ok-check_blank.ensures.blank;
  long = omega (arith, c.len-len.ensures, c.if-len-lt-LEAST.false);
}

pub returns-in_err-write_start-clause-moments : goal.returns-in_err-write_start-clause-moments
returns-in_err-write_start-clause-moments g c image held =
    let blank = c.in_ok-check_blank.ensures.blank image held.tells in
    then_leaves c.check_blank.ensures.reads image held (IsBegun 0 (behind_start 0 0 c.empty-carry.result) image)
    (IsCreated image) (c.write_start.ensures.moments image)
    (begun_created_by image blank
    (omega (arith, g.met.D.Disk.fits _ image held.tells, c.len-len.ensures, c.if-len-lt-LEAST.false))
    c.empty-carry.result c.empty-carry.ensures c.write_start.ensures.whole) (λ c same. inl same)

pub returns-clause-moments : goal.returns-clause-moments
returns-clause-moments g c image held =
    let blank = c.in_ok-check_blank.ensures.blank image held.tells in
    then_leaves c.check_blank.ensures.reads image held (IsBegun 0 (behind_start 0 0 c.empty-carry.result) image)
    (IsCreated image) (c.write_start.ensures.moments image)
    (begun_created_by image blank
    (omega (arith, g.met.D.Disk.fits _ image held.tells, c.len-len.ensures, c.if-len-lt-LEAST.false))
    c.empty-carry.result c.empty-carry.ensures c.write_start.ensures.whole) (λ c same. inl same)

pub returns-then-len-lt-LEAST-clause-sure : goal.returns-then-len-lt-LEAST-clause-sure
returns-then-len-lt-LEAST-clause-sure g c ready = g.met.D.Disk.unfailed _ 0 0 ready

pub returns-in_err-check_blank-clause-sure : goal.returns-in_err-check_blank-clause-sure
returns-in_err-check_blank-clause-sure g c ready = g.met.D.Disk.unfailed _ 0 0 (c.check_blank.ensures.ready ready)

pub returns-in_err-write_start-clause-sure : goal.returns-in_err-write_start-clause-sure
returns-in_err-write_start-clause-sure g c ready =
    takes_sure g.met.D.Disk.unfailed (omega arith) (omega arith) c.write_start.ensures.takes
    (c.check_blank.ensures.ready ready)

pub returns-clause-sure : goal.returns-clause-sure
returns-clause-sure g c ready =
    takes_sure g.met.D.Disk.unfailed (omega arith) (omega arith) c.write_start.ensures.takes
    (c.check_blank.ensures.ready ready)
