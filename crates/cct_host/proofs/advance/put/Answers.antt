use Rattle.std.proofs.Common.{◌≡◌, ◌+◌, ◌++◌, ◌∙◌, None, Some, append-nil, arith, length, refl, subst, sym}
use Rattle.cct_disk.specs.Disk.{LeavesOnly}
use Rattle.cct_model.specs.Carry.{carry_of}
use Rattle.cct_journal.specs.Journal as journals
use Rattle.cct_host.specs.Host.{put_by}
use Rattle.cct_host.proofs.Fills.{fills_none, fills_one}
use Rattle.cct_host.proofs.Putting.{same_moments}
use Rattle.cct_host.specs.OnDisk.{KeepsRecords, StandsUpTo}
use Rattle.cct_disk.proofs.Taking.{takes_none}
use Rattle.cct_journal.specs.Turning.{put_bytes, put_calls}
use Rattle.cct_host.proofs.advance.put.Goals as goal

none_some : {X : Type 0} {x : X} → None ≡ Some x → ⊥
none_some e = cc e

pub returns-in-Err-Disk-clause-fails : goal.returns-in-Err-Disk-clause-fails
returns-in-Err-Disk-clause-fails g c =
    let failed = c.in-Err-Disk.ensures in
    record {
      place = failed.still;
      left = (
        _,
        c.in-Some.is,
        λ setup records stands so_far. failed.left (carry_of setup) records (record { stands = stands; carry_is = so_far }),
      );
      moments = λ setup records stands so_far. subst
          (λ d. LeavesOnly g.D.Disk.moment g.D.Disk.left_since (journals.disk_of c.args.journal.now)
          (journals.disk_of c.put.new.self) (StandsUpTo setup d records)) (sym c.in-Some.is)
          (failed.moments (carry_of setup) records (record { stands = stands; carry_is = so_far }));
    }

pub returns-in-None-clause-puts : goal.returns-in-None-clause-puts
returns-in-None-clause-puts g c =
    let none = c.in-None.is in
    record {
      whole = c.requires.whole;
      counted = subst (λ d. journals.used_of c.args.journal.now ≡ journals.used_of c.args.journal.now + length (put_by d))
          (sym none) (omega arith);
      done = λ setup records stands so_far. subst
          (λ d. KeepsRecords setup g.D.Disk.honest g.D.Disk.seen g.D.Disk.may_leave (journals.disk_of c.args.journal.now)
          (journals.place_of c.args.journal.now) (records ++ put_by d)) (sym none)
          (subst (KeepsRecords setup g.D.Disk.honest g.D.Disk.seen g.D.Disk.may_leave (journals.disk_of c.args.journal.now)
          (journals.place_of c.args.journal.now)) (sym (append-nil records)) stands);
      moments = λ setup records stands so_far. subst
          (λ d. LeavesOnly g.D.Disk.moment g.D.Disk.left_since (journals.disk_of c.args.journal.now)
          (journals.disk_of c.args.journal.now) (StandsUpTo setup d records)) (sym none)
          (same_moments setup g.met.D.Disk.only_now stands);
      quiet = λ due. refl;
    }

pub returns-in-Ok-clause-puts : goal.returns-in-Ok-clause-puts
returns-in-Ok-clause-puts g c =
    let some = c.in-Some.is in
    let put = c.in-Ok.ensures in
    record {
      whole = put.unbroken;
      counted = subst (λ d. journals.used_of c.put.new.self ≡ journals.used_of c.args.journal.now + length (put_by d))
          (sym some) put.counted;
      done = λ setup records stands so_far. subst
          (λ d. KeepsRecords setup g.D.Disk.honest g.D.Disk.seen g.D.Disk.may_leave (journals.disk_of c.put.new.self)
          (journals.place_of c.put.new.self) (records ++ put_by d)) (sym some)
          (put.done (carry_of setup) records (record { stands = stands; carry_is = so_far }));
      moments = λ setup records stands so_far. subst
          (λ d. LeavesOnly g.D.Disk.moment g.D.Disk.left_since (journals.disk_of c.args.journal.now)
          (journals.disk_of c.put.new.self) (StandsUpTo setup d records)) (sym some)
          (put.moments (carry_of setup) records (record { stands = stands; carry_is = so_far }));
      quiet = λ due. absurd (none_some (sym due ∙ some));
    }

pub returns-in-None-clause-fills : goal.returns-in-None-clause-fills
returns-in-None-clause-fills g c = fills_none c.args.journal.now

pub returns-in-Ok-clause-fills : goal.returns-in-Ok-clause-fills
returns-in-Ok-clause-fills g c =
    let put = c.in-Ok.ensures in
    fills_one c.args.journal.now c.put.new.self put.counted put.turns

pub returns-in-None-clause-takes : goal.returns-in-None-clause-takes
returns-in-None-clause-takes g c = takes_none put_calls put_bytes (journals.disk_of c.args.journal.now)
