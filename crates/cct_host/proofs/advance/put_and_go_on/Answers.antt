use Rattle.std.proofs.Common.{◌≡◌, ◌+◌, ◌∷◌, ◌++◌, ◌∙◌, Option, ap, length, refl, reverse, subst, sym, true}
use Rattle.std.specs.Prelude.{is_some}
use Rattle.std.specs.Option.{IfSome}
use Rattle.std.proofs.lemmas.List.{reverse-reverse}
use Rattle.cct_model.specs.lines.record.Record.{Record}
use Rattle.cct_model.specs.Carry.{carry}
use Rattle.cct_model.specs.Following.{all_follow}
use Rattle.cct_model.specs.Legal.{due_at}
use Rattle.cct_model.specs.Records.{records}
use Rattle.cct_disk.specs.Disk.{LeavesOnly}
use Rattle.cct_journal_carry.specs.Tally as tallies
use Rattle.cct_journal.specs.Journal as journals
use Rattle.cct_host.specs.OnDisk.{KeepsRecords, StandsUpTo}
use Rattle.cct_host.specs.Desks.{setup_of}
use Rattle.cct_host.specs.Host.{put_by}
use Rattle.cct_host.proofs.Hosts.{if_failed}
use Rattle.cct_host.proofs.advance.put_and_go_on.Goals as goal

pub returns-clause-advances : goal.returns-clause-advances
returns-clause-advances g c =
    let disk = g.D.Disk in
    let written = c.put.new.journal in
    let setup = setup_of c.args.desks.now in
    let put = c.in_ok-put.ensures.puts in
    let tallied = tallies.setup_of c.args.tally.now in
    let same = c.requires.together.same in
    let counted = λ (d : Option Record). journals.used_of c.args.journal.now + length (put_by d) in
    record {
      whole = put.whole;
      nexts = c.next_there.ensures.nexts;
      counts = put.counted ∙ ap counted c.due_there-due.ensures.value;
      quiet = λ none. put.quiet (c.due_there-due.ensures.value ∙ none);
      puts = λ past stands.
          let due_is = c.due_there-due.ensures.stands past stands in
          record {
            used = put.counted ∙ ap counted due_is;
            on_disk = λ stood so_far. subst
                (λ d. KeepsRecords setup disk.honest disk.seen disk.may_leave (journals.disk_of written)
                (journals.place_of written) (reverse (records past) ++ put_by d)) due_is
                (put.done setup (reverse (records past)) stood
                (c.carry.ensures.value ∙ so_far ∙ ap (carry setup) (sym (reverse-reverse (records past)))));
            moments = λ stood so_far. subst
                (λ d. LeavesOnly disk.moment disk.left_since (journals.disk_of c.args.journal.now) (journals.disk_of written)
                (StandsUpTo setup d (reverse (records past)))) c.due_there-due.ensures.value
                (put.moments setup (reverse (records past)) stood
                (c.carry.ensures.value ∙ so_far ∙ ap (carry setup) (sym (reverse-reverse (records past)))));
            adds = λ follow so_far. subst
                (λ s. tallies.carry_in c.count.new.tally ≡ carry s (put_by (due_at setup past c.args.addr) ++ records past))
                same
                (subst (λ d. tallies.carry_in c.count.new.tally ≡ carry tallied (put_by d ++ records past)) due_is
                (c.count.ensures.adds (records past)
                (subst (λ s. IfSome c.due_there-due.result (λ r. all_follow s (r ∷ records past) ≡ true)) (sym same)
                (subst (λ d. IfSome d (λ r. all_follow setup (r ∷ records past) ≡ true)) (sym due_is) follow))
                (so_far ∙ ap (λ s. carry s (records past)) (sym same))));
          };
    }

pub returns-in_err-put-clause-fails : goal.returns-in_err-put-clause-fails
returns-in_err-put-clause-fails g c =
    let failed = c.in_err-put.ensures.fails in
    if_failed c.from_residual.result _
    (record {
      due = ap is_some (sym c.due_there-due.ensures.value ∙ failed.left.1);
      desks_stay = refl;
      tally_stays = refl;
      place = failed.place;
      fails = λ past stands. (
        failed.left.0,
        sym (c.due_there-due.ensures.stands past stands) ∙ failed.left.1,
        λ records stood so_far.
            failed.left.2 (setup_of c.args.desks.now) records stood (c.carry.ensures.value ∙ so_far),
      );
      moments = λ past stands records stood so_far. subst
          (λ d. LeavesOnly g.D.Disk.moment g.D.Disk.left_since (journals.disk_of c.args.journal.now)
          (journals.disk_of c.put.new.journal) (StandsUpTo (setup_of c.args.desks.now) d records))
          (c.due_there-due.ensures.stands past stands)
          (failed.moments (setup_of c.args.desks.now) records stood (c.carry.ensures.value ∙ so_far));
    })
