use Rattle.std.proofs.Common.{◌≡◌, ◌∙◌, ◌+◌, ◌++◌, Option, Some, None, false, append-nil, arith, length, refl, reverse, subst, sym}
use Rattle.std.specs.Prelude.{is_some}
use Rattle.cct_model.specs.lines.record.Record.{Record}
use Rattle.cct_model.specs.Carry.{carry}
use Rattle.cct_model.specs.Legal.{due_at}
use Rattle.cct_model.specs.Records.{records}
use Rattle.cct_disk.specs.Disk.{LeavesOnly}
use Rattle.cct_journal_carry.specs.Tally as tallies
use Rattle.cct_journal.specs.Journal as journals
use Rattle.cct_host.specs.OnDisk.{KeepsRecords, StandsUpTo}
use Rattle.cct_host.specs.Desks.{due_on, setup_of}
use Rattle.cct_host.specs.Host.{put_by}
use Rattle.cct_host.proofs.Fills.{fills_none}
use Rattle.cct_host.proofs.Putting.{same_moments}
use Rattle.cct_disk.proofs.Taking.{takes_none}
use Rattle.cct_journal.specs.Turning.{put_bytes, put_calls}
use Rattle.cct_host.proofs.advance.advance.Goals as goal

none_there : (due : Option Record) → false ≡ is_some due → due ≡ None
none_there None e = refl
none_there (Some r) e = absurd cc

pub returns-else-puts_there-clause-advances : goal.returns-else-puts_there-clause-advances
returns-else-puts_there-clause-advances g c =
    let disk = g.D.Disk in
    let journal = c.args.journal.now in
    let setup = setup_of c.args.desks.now in
    let none = none_there (due_on c.args.desks.now c.args.addr)
    (sym c.if-puts_there.false ∙ c.puts_there.ensures.value) in
    record {
      whole = c.requires.whole;
      nexts = c.ask_there.ensures.nexts;
      counts = subst (λ d. journals.used_of journal ≡ journals.used_of journal + length (put_by d)) (sym none) (omega arith);
      quiet = λ due. refl;
      puts = λ past stands.
          let no_put = none_there (due_at setup past c.args.addr)
          (sym c.if-puts_there.false ∙ c.puts_there.ensures.stands past stands) in
          record {
            used = subst (λ d. journals.used_of journal ≡ journals.used_of journal + length (put_by d)) (sym no_put)
                (omega arith);
            on_disk = λ stood so_far. subst
                (λ d. KeepsRecords setup disk.honest disk.seen disk.may_leave (journals.disk_of journal)
                (journals.place_of journal) (reverse (records past) ++ put_by d)) (sym no_put)
                (subst (KeepsRecords setup disk.honest disk.seen disk.may_leave (journals.disk_of journal)
                (journals.place_of journal)) (sym (append-nil (reverse (records past)))) stood);
            moments = λ stood so_far. subst
                (λ d. LeavesOnly disk.moment disk.left_since (journals.disk_of journal) (journals.disk_of journal)
                (StandsUpTo setup d (reverse (records past)))) (sym none)
                (same_moments setup g.met.D.Disk.only_now stood);
            adds = λ follow so_far. subst
                (λ d. tallies.carry_in c.args.tally.now ≡ carry setup (put_by d ++ records past)) (sym no_put) so_far;
          };
    }

pub returns-else-puts_there-clause-fills : goal.returns-else-puts_there-clause-fills
returns-else-puts_there-clause-fills g c = fills_none c.args.journal.now

pub returns-else-puts_there-clause-takes : goal.returns-else-puts_there-clause-takes
returns-else-puts_there-clause-takes g c = takes_none put_calls put_bytes (journals.disk_of c.args.journal.now)
