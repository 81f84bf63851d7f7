use Rattle.std.proofs.Common.{◌≡◌, ◌∙◌, ◌+◌, ap, arith, inl, length, refl, subst, sym}
use Rattle.std.specs.Prelude.{Err}
use Rattle.cct_model.specs.Carry.{carry_of}
use Rattle.cct_journal.specs.Image.{IsBadAt}
use Rattle.cct_journal.specs.Journal as journals
use Rattle.cct_journal.specs.Opening.{RefusesOpen}
use Rattle.cct_host.specs.OnDisk.{KeepsRecords}
use Rattle.cct_host.specs.Host.{put_by}
use Rattle.cct_host.specs.Restarting.{RefusesRestart}
use Rattle.cct_host.proofs.Losses.{if_kept, if_lost, kept_is, no_error, none_lost, opens_by, stands_before}
use Rattle.cct_host.proofs.restart.lose.Goals as goal

pub returns-in-Ok-clause-restarts : goal.returns-in-Ok-clause-restarts
returns-in-Ok-clause-restarts g c =
    let restarted = c.restart.ensures in
    let found = c.in-Ok.ensures in
    if_kept c.kept_in.result _ _ _ c.kept_in.ensures.kept c.kept_in.ensures.counts
    (λ kept same counts. record {
      whole = found.unbroken;
      kept_is = same;
      counts = omega (arith, counts, found.counted, c.used-put.ensures.value);
      found = found.finds.found;
      stands = λ setup records stands so_far.
          let left = found.stands (carry_of setup) records
          (stands_before setup c.args.journal.now c.args.so_far.now c.args.due records stands so_far) in
          let many : length left.0 ≡ length records + length (put_by kept) =
          omega (arith, left.2.count, stands.count, c.used-put.ensures.value, found.counted, counts) in
          let is = kept_is c.args.calls c.args.due kept records left.0 left.1 many same in (
            is.0,
            subst (KeepsRecords setup g.D.Disk.honest g.D.Disk.seen g.D.Disk.may_leave (journals.disk_of c.restart.new.self)
                (journals.place_of c.restart.new.self)) is.1 left.2,
          );
      cut = restarted.cut (λ no. no_error c.restart.result c.in-Ok.found _ c.in-Ok.is no);
      outlasts = restarted.outlasts;
      later = restarted.cause.later;
    })

pub returns-in-Ok-clause-fails : goal.returns-in-Ok-clause-fails
returns-in-Ok-clause-fails g c =
    let restarted = c.restart.ensures in
    let found = c.in-Ok.ensures in
    if_lost c.kept_in.result _ _ c.kept_in.ensures.lost
    (λ why lost setup. record {
      refused = subst (RefusesRestart c.args.journal.now c.restart.new.self c.args.due setup) (sym lost.0)
          (found.counted, c.used-put.ensures.value, lost.1, opens_by setup c.restart.new.self found.finds.found);
      leaves = λ records stands so_far.
          let left = found.stands (carry_of setup) records
          (stands_before setup c.args.journal.now c.args.so_far.now c.args.due records stands so_far) in
          absurd (none_lost c.args.calls c.args.due records left.0 c.in-Ok.found c.used-put.result left.1
          (found.counted ∙ left.2.count) (c.used-put.ensures.value ∙ stands.count) lost.1);
      cause = record { later = restarted.cause.later; rose = λ is. let told = lost.0 in absurd cc };
      cut = λ other. restarted.cut (λ no. no_error c.restart.result c.in-Ok.found _ c.in-Ok.is no);
      outlasts = restarted.outlasts;
    })

pub returns-in-Ok-clause-never : goal.returns-in-Ok-clause-never
returns-in-Ok-clause-never g c =
    if_lost c.kept_in.result _ _ c.kept_in.ensures.lost
    (λ why lost setup records stands so_far.
    let left = c.in-Ok.ensures.stands (carry_of setup) records
    (stands_before setup c.args.journal.now c.args.so_far.now c.args.due records stands so_far) in
    absurd (none_lost c.args.calls c.args.due records left.0 c.in-Ok.found c.used-put.result left.1
    (c.in-Ok.ensures.counted ∙ left.2.count) (c.used-put.ensures.value ∙ stands.count) lost.1))

pub returns-in-Err-Disk-clause-fails : goal.returns-in-Err-Disk-clause-fails
returns-in-Err-Disk-clause-fails g c setup =
    let restarted = c.restart.ensures in
    record {
      refused = tt;
      leaves = λ records stands so_far. c.in-Err-Disk.ensures.left (carry_of setup) records
          (stands_before setup c.args.journal.now c.args.so_far.now c.args.due records stands so_far);
      cause = record {
        later = restarted.cause.later;
        rose = λ is. restarted.cause.rose (c.in-Err-Disk.is ∙ ap Err c.in-Err-Disk.field-0-is);
      };
      cut = λ other. absurd (other refl);
      outlasts = restarted.outlasts;
    }

pub returns-in-Err-Alien-clause-fails : goal.returns-in-Err-Alien-clause-fails
returns-in-Err-Alien-clause-fails g c setup =
    let restarted = c.restart.ensures in
    record {
      refused = λ image tells. subst (λ why. RefusesOpen why image) c.in-Err-Alien.field-0-is
          (c.in-Err-Alien.ensures.refused image tells);
      leaves = λ records stands so_far. c.in-Err-Alien.ensures.left (carry_of setup) records
          (stands_before setup c.args.journal.now c.args.so_far.now c.args.due records stands so_far);
      cause = record { later = restarted.cause.later; rose = λ is. absurd cc };
      cut = λ other. restarted.cut (λ is. cc);
      outlasts = restarted.outlasts;
    }

pub returns-in-Err-Alien-clause-never : goal.returns-in-Err-Alien-clause-never
returns-in-Err-Alien-clause-never g c setup records stands so_far =
    let never = c.in-Err-Alien.ensures.never (carry_of setup) records
    (stands_before setup c.args.journal.now c.args.so_far.now c.args.due records stands so_far) in
    absurd cc

pub returns-in-Err-BadRecord-clause-fails : goal.returns-in-Err-BadRecord-clause-fails
returns-in-Err-BadRecord-clause-fails g c setup =
    let restarted = c.restart.ensures in
    record {
      refused = λ image tells. inl (subst (IsBadAt image) (sym c.in-Err-BadRecord.index-is)
          (subst (λ why. RefusesOpen why image) c.in-Err-BadRecord.field-0-is
          (c.in-Err-BadRecord.ensures.refused image tells)));
      leaves = λ records stands so_far. c.in-Err-BadRecord.ensures.left (carry_of setup) records
          (stands_before setup c.args.journal.now c.args.so_far.now c.args.due records stands so_far);
      cause = record { later = restarted.cause.later; rose = λ is. absurd cc };
      cut = λ other. restarted.cut (λ is. cc);
      outlasts = restarted.outlasts;
    }

pub returns-in-Err-BadRecord-clause-never : goal.returns-in-Err-BadRecord-clause-never
returns-in-Err-BadRecord-clause-never g c setup records stands so_far =
    let never = c.in-Err-BadRecord.ensures.never (carry_of setup) records
    (stands_before setup c.args.journal.now c.args.so_far.now c.args.due records stands so_far) in
    absurd cc
