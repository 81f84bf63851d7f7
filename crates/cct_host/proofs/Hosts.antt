-- What a host represents after it went on.
use Rattle.std.proofs.Common.{◌≡◌, ℕ, ◌+◌, ◌≤◌, Bool, true, List, ◌∷◌, ◌++◌, length, reverse, refl, sym, ap, ap₂, subst, ◌∙◌, Option, Some, None, arith}
use Rattle.std.specs.Prelude.{Err, Ok, OnErr, OnOk, Result}
use Rattle.std.specs.Option.{IfSome, option_or}
use Rattle.std.proofs.lemmas.List.{reverse-reverse}
use Rattle.cct_edge.specs.declared.fault.Failed.{Failed}
use Rattle.cct_model.specs.lines.command.Command.{Command}
use Rattle.cct_model.specs.lines.command.CommandNo.{CommandNo}
use Rattle.cct_model.specs.lines.record.Record.{Record}
use Rattle.cct_model.specs.terms.device.Setup.{Setup}
use Rattle.cct_model.specs.Carry.{carry}
use Rattle.cct_model.specs.Following.{all_follow}
use Rattle.cct_model.specs.lines.entry.Entry.{Entry}
use Rattle.cct_model.specs.Legal.{EntriesOfNext, command_entry, due_at}
use Rattle.cct_model.specs.Records.{records}
use Rattle.cct_model.specs.Refusal.{refusal, state_refusal}
use Rattle.cct_model.specs.Rows.{puts_in}
use Rattle.cct_disk.specs.declared.disk.Disk.{Ghosts}
use Rattle.cct_disk.specs.Disk.{IsTrusted, LeavesOnly}
use Rattle.cct_journal.specs.declared.journal.Journal.{Journal}
use Rattle.cct_journal.specs.declared.place.Place.{Place}
use Rattle.cct_journal_carry.specs.declared.tally.Tally.{Tally}
use Rattle.cct_journal_carry.specs.Tally as tallies
use Rattle.cct_journal.specs.Journal as journals
use Rattle.cct_journal.specs.declared.format.TheConstants.{MOST_RECORDS}
use Rattle.cct_disk.specs.Disk.{GoesOn}
use Rattle.cct_host.specs.declared.desks.Desks.{Desks}
use Rattle.cct_host.specs.declared.host.Host.{Host}
use Rattle.cct_host.specs.Attempt.{news_of}
use Rattle.cct_host.specs.OnDisk.{KeepsRecords, StandsUpTo}
use Rattle.cct_host.specs.Desk.{no_of, puts_at, sum_in}
use Rattle.cct_host.specs.Desks as all_desks
use Rattle.cct_host.specs.Host.{Advances, Answers, Fails, FailsToPut, Keeps, Nexts, PutSuits, PutsDue, StandsFor, capacity_in, disk_of, put_by, setup_of}
use Rattle.cct_host.specs.Parts.{BelongTogether}
use Rattle.cct_host.specs.Running.{needed, rows_begun}
use Rattle.cct_host.proofs.Putting.{next_records, put_last}
use Rattle.cct_host.proofs.Turning.{puts_held, room_kept}

-- what is so is so of an answer that fails
pub if_failed : (result : Result Unit Failed) (P : Type 0) → P → OnErr result P
if_failed (Ok done) P p = tt
if_failed (Err why) P p = p

-- a disk that goes on is trusted as before
pub trusted_before : {D : Type 0} (size : D → ℕ) (honest : D → Bool) (seen : D → Option (List ℕ)) (cuts : D → ℕ)
    (old new : D) → GoesOn size honest seen cuts old new → IsTrusted honest seen new → IsTrusted honest seen old
trusted_before size honest seen cuts old new goes trusted =
    (sym goes.same_honest ∙ trusted.0, sym goes.same_telling ∙ trusted.1)

counted_so : (used before : ℕ) (due : Option Record) (rs : List Record) → used ≡ before + length (put_by due)
    → before ≡ length rs → used ≡ length (put_by due ++ rs)
counted_so used before None rs is was = omega (arith, is, was)
counted_so used before (Some r) rs is was = omega (arith, is, was)

follow_so : (setup : Setup) (due : Option Record) (rs : List Record) → all_follow setup rs ≡ true
    → IfSome due (λ r. all_follow setup (r ∷ rs) ≡ true) → all_follow setup (put_by due ++ rs) ≡ true
follow_so setup None rs all follow = all
follow_so setup (Some r) rs all follow = follow

nothing_further : (why : Option CommandNo) → why ≡ option_or why None
nothing_further None = refl
nothing_further (Some why) = refl

command_records : (c : Command) (why : Option CommandNo) (past : List Entry)
    → records (command_entry c why ∷ past) ≡ records past
command_records c None past = refl
command_records c (Some why) past = refl

module _ {D : Type 0} {g : Ghosts D} where
  next_keeps : (old new : Host D g) (addr : ℕ) (past news : List Entry) (rs : List Record)
      → records (news ++ past) ≡ rs → rs ≡ put_by (due_at (setup_of old) past addr) ++ records past
      → PutsDue past addr old.desks old.tally new.tally old.journal new.journal
      → setup_of new ≡ setup_of old → Keeps old past → PutSuits (setup_of old) past addr
      → all_desks.StandsFor new.desks (news ++ past) → Keeps new (news ++ past)
  next_keeps old new addr past news rs named is puts same keeps suits desks = record {
    desks = desks;
    follow = ap₂ all_follow same (named ∙ is)
        ∙ follow_so (setup_of old) (due_at (setup_of old) past addr) (records past) keeps.follow suits.follow;
    carry_is = subst (λ ls. tallies.carry_in new.tally ≡ carry (setup_of new) ls) (sym (named ∙ is))
        (puts.adds suits.follow keeps.carry_is ∙ ap (λ s. carry s (put_by (due_at (setup_of old) past addr) ++ records past))
        (sym same));
    used = counted_so _ _ (due_at (setup_of old) past addr) (records past) puts.used keeps.used
        ∙ sym (ap length (named ∙ is));
  }

  pub next_stands : (hears : List ℕ → List ℕ) (old new : Host D g) (addr : ℕ) (past news : List Entry)
      → GoesOn g.size g.honest g.seen g.cuts (disk_of old) (disk_of new)
      → PutsDue past addr old.desks old.tally new.tally old.journal new.journal
      → setup_of new ≡ setup_of old → StandsFor old past → PutSuits (setup_of old) past addr
      → EntriesOfNext hears (setup_of old) past addr news → all_desks.StandsFor new.desks (news ++ past)
      → StandsFor new (news ++ past)
  next_stands hears old new addr past news goes puts same stands suits entries desks =
      let due = due_at (setup_of old) past addr in
      let is = next_records hears (setup_of old) past addr news entries in
      record {
        keeps = next_keeps old new addr past news _ refl is puts same stands.keeps suits desks;
        on_disk = λ trusted. subst
            (KeepsRecords (setup_of new) g.honest g.seen g.may_leave (disk_of new) (journals.place_of new.journal))
            (sym (put_last due (records past) (records (news ++ past)) is))
            (subst (λ s. KeepsRecords s g.honest g.seen g.may_leave (disk_of new) (journals.place_of new.journal)
            (reverse (records past) ++ put_by due)) (sym same)
            (puts.on_disk (stands.on_disk (trusted_before g.size g.honest g.seen g.cuts (disk_of old) (disk_of new) goes
            trusted)) stands.keeps.carry_is));
      }

  pub next_goes : {L : Type 0} (gives : L → List ℕ → List ℕ → L → Type 0) (link left : L) (addr : ℕ)
      (old new : Host D g) (report reported : List Entry) → setup_of new ≡ setup_of old
      → GoesOn g.size g.honest g.seen g.cuts (disk_of old) (disk_of new)
      → Advances gives link left addr old.desks new.desks old.tally new.tally old.journal new.journal report reported
      → Nexts gives link left addr old new report reported
  next_goes gives link left addr old new report reported same goes advances =
      let nexts = advances.nexts in
      record {
        what = nexts.what;
        reported_is = nexts.reported_is;
        link = nexts.link;
        sent_is = nexts.sent_is;
        counts = advances.counts ∙ ap (λ d. journals.used_of old.journal + length (put_by d)) (sym nexts.put_is);
        goes = λ hears past heard stands suits.
            let turned = nexts.goes hears past heard stands.keeps.desks suits.owned in (
              turned.0,
              next_stands hears old new addr past (news_of addr nexts.what) goes (advances.puts past stands.keeps.desks)
                  same stands suits turned.0 turned.1,
            );
        moments = λ past stands trusted. subst
            (λ d. LeavesOnly g.moment g.left_since (disk_of old) (disk_of new)
            (StandsUpTo (setup_of old) d (reverse (records past)))) (sym nexts.put_is)
            ((advances.puts past stands.keeps.desks).moments (stands.on_disk trusted) stands.keeps.carry_is);
        quiet = λ none. advances.quiet (sym nexts.put_is ∙ none);
      }

  -- a put that failed
  pub put_failed : (old new : Host D g) (addr : ℕ)
      → FailsToPut addr old.desks new.desks old.tally new.tally old.journal new.journal
      → Fails old new addr
  put_failed old new addr fails past stands =
      let failed = fails.fails past stands.keeps.desks in (
        record {
          desks = subst (λ d. all_desks.StandsFor d past) (sym fails.desks_stay) stands.keeps.desks;
          follow = ap (λ d. all_follow (all_desks.setup_of d) (records past)) fails.desks_stay ∙ stands.keeps.follow;
          carry_is = ap tallies.carry_in fails.tally_stays ∙ stands.keeps.carry_is
              ∙ ap (λ d. carry (all_desks.setup_of d) (records past)) (sym fails.desks_stay);
          used = ap (λ (p : Place). p.used) fails.place ∙ stands.keeps.used;
        },
        (
          failed.0,
          failed.1,
          λ trusted. failed.2 (reverse (records past)) (stands.on_disk trusted)
              (stands.keeps.carry_is ∙ ap (carry (setup_of old)) (sym (reverse-reverse (records past)))),
        ),
      )

  pub put_failed_between : (old : Host D g) (addr : ℕ) (turned : Desks) (added : Tally) (written : Journal D g)
      → FailsToPut addr old.desks turned old.tally added old.journal written
      → (past : List Entry) → StandsFor old past → IsTrusted g.honest g.seen (disk_of old)
      → LeavesOnly g.moment g.left_since (disk_of old) (journals.disk_of written)
      (StandsUpTo (setup_of old) (due_at (setup_of old) past addr) (reverse (records past)))
  put_failed_between old addr turned added written fails past stands trusted =
      fails.moments past stands.keeps.desks (reverse (records past)) (stands.on_disk trusted)
      (stands.keeps.carry_is ∙ ap (carry (setup_of old)) (sym (reverse-reverse (records past))))

  -- after a command that had room the parts of a host still belong together
  pub together_taken : (desks turned : Desks) (tally : Tally) (journal : Journal D g) (c : Command)
      (result : Result Unit CommandNo) → BelongTogether desks tally journal
      → all_desks.setup_of turned ≡ all_desks.setup_of desks → OnOk result (all_desks.TakesIn c desks turned)
      → OnErr result (all_desks.Stays desks turned)
      → (1 ≤ puts_in (rows_begun (all_desks.setup_of desks) c)
      → journals.used_of journal + all_desks.held_of desks + needed (all_desks.setup_of desks) c
      ≤ MOST_RECORDS)
      → BelongTogether turned tally journal
  together_taken desks turned tally journal c (Ok taken) together setup takes stays fits = record {
    same = together.same ∙ sym setup;
    tallied = together.tallied;
    fits = room_kept (puts_in (rows_begun (all_desks.setup_of desks) c)) _ _ _ _ _ _ _ together.fits takes.puts
        (puts_held turned) takes.holds fits;
  }
  together_taken desks turned tally journal c (Err why) together setup takes stays fits =
      let puts : all_desks.puts_of turned ≡ all_desks.puts_of desks =
      ap₂ (λ ks k. sum_in puts_at ks + puts_at k) stays.1 stays.3 in
      record {
        same = together.same ∙ sym setup;
        tallied = together.tallied;
        fits = omega (arith, puts, together.fits);
      }

  -- a command that is tried with room for it is taken or refused as it has to be
  pub tried_answers : (old new : Host D g) (c : Command) (result : Result Unit CommandNo)
      → ((past : List Entry) → Keeps old past
      → option_or (state_refusal (setup_of old) past c) None ≡ refusal (capacity_in old) (setup_of old) past c)
      → all_desks.Answers old.desks new.desks c result
      → setup_of new ≡ setup_of old → new.tally ≡ old.tally → new.journal ≡ old.journal → Answers old new c result
  tried_answers old new c result room desks setup tally same past stands =
      let told = desks past stands.keeps.desks in
      let quiet = command_records c (no_of result) past in (
        told.0 ∙ nothing_further _ ∙ room past stands.keeps,
        record {
          keeps = record {
            desks = told.1;
            follow = ap₂ all_follow setup quiet ∙ stands.keeps.follow;
            carry_is = ap tallies.carry_in tally ∙ stands.keeps.carry_is
                ∙ ap₂ carry (sym setup) (sym quiet);
            used = ap journals.used_of same ∙ stands.keeps.used ∙ sym (ap length quiet);
          };
          on_disk = subst (λ journal. IsTrusted g.honest g.seen (journals.disk_of journal)
              → KeepsRecords (setup_of new) g.honest g.seen g.may_leave (journals.disk_of journal) (journals.place_of journal)
              (reverse (records (command_entry c (no_of result) ∷ past)))) (sym same)
              (λ trusted. subst (λ s. KeepsRecords s g.honest g.seen g.may_leave (disk_of old)
              (journals.place_of old.journal) (reverse (records (command_entry c (no_of result) ∷ past)))) (sym setup)
              (subst (λ rs. KeepsRecords (setup_of old) g.honest g.seen g.may_leave (disk_of old)
              (journals.place_of old.journal) (reverse rs)) (sym quiet) (stands.on_disk trusted)));
        },
      )
