-- What a service leaves of the disk that it was given, by one step.
use Rattle.std.proofs.Common.{◌≡◌, ◌∙◌, ◌+◌, ◌-◌, ℕ, zero, suc, arith, length, take, Bool, List, [], ◌∷◌, ◌++◌, Option, Some, None, reverse, is_some, inl, inr, refl, sym, ap, subst, append_assoc}
use Rattle.std.proofs.lemmas.List.{length-append, reverse-append}
use Rattle.cct_model.specs.terms.device.Setup.{Setup}
use Rattle.cct_model.specs.lines.command.Command.{Command}
use Rattle.cct_model.specs.lines.command.CommandNo.{CommandNo}
use Rattle.cct_model.specs.lines.record.Record.{Record}
use Rattle.cct_model.specs.lines.entry.Entry.{Entry}
use Rattle.cct_model.specs.Carry.{carry_of}
use Rattle.cct_model.specs.Legal.{command_entry}
use Rattle.cct_model.specs.Records.{records}
use Rattle.cct_disk.specs.declared.disk.Disk.{Ghosts}
use Rattle.cct_disk.specs.Disk.{GoesOn, Holds, IsTrusted, LeavesOnly, OnlyReads}
use Rattle.cct_journal.specs.Image.{StandsFor, half_room, kept_after, kept_before}
use Rattle.cct_journal.specs.Journal as journals
use Rattle.cct_journal.proofs.Moments.{then, weaker}
use Rattle.cct_host.specs.declared.host.Host.{Host}
use Rattle.cct_host.specs.Attempt.{Attempt, asked, idle, news_of, put, put_of}
use Rattle.cct_host.specs.Host.{FillsOn, disk_of, journal_of, put_by, setup_of}
use Rattle.cct_host.specs.Host as hosts
use Rattle.cct_host.specs.OnDisk.{StandsUpTo}
use Rattle.cct_live_service.specs.Since.{Given, MayStand, StandsForFirst, StandsSince, kept_since, since_turn}
use Rattle.cct_live_service.specs.Stated.{kept_in}

-- the records of a past after an attempt, and after a command
pub attempt_records : (addr : ℕ) (what : Attempt) (past : List Entry) →
    records (news_of addr what ++ past) ≡ put_by (put_of what) ++ records past
attempt_records addr idle past = refl
attempt_records addr (asked sent heard None) past = refl
attempt_records addr (asked sent heard (Some end)) past = refl
attempt_records addr (put r None) past = refl
attempt_records addr (put r (Some end)) past = refl

pub command_records : (c : Command) (why : Option CommandNo) (past : List Entry) →
    records (command_entry c why ∷ past) ≡ records past
command_records c None past = refl
command_records c (Some why) past = refl

-- an image that represents the first ones of records
module _ (setup : Setup) (found : List Record) (c : List ℕ) where
  first_more : (more all : List Record) → StandsForFirst setup found all c → StandsForFirst setup found (more ++ all) c
  first_more more all h = record {
    later = more ++ h.later;
    put = h.put;
    all_are = ap (λ rs. more ++ rs) h.all_are ∙ sym (append_assoc more h.later (h.put ++ found));
    stands = h.stands;
  }

  pub first_all : (all puts : List Record) → all ≡ puts ++ found → StandsFor (carry_of setup) c (reverse all) →
      StandsForFirst setup found all c
  first_all all puts is h = record {
    later = [];
    put = puts;
    all_are = is;
    stands = subst (λ rs. StandsFor (carry_of setup) c (reverse rs)) is h;
  }

  first_upto : (due : Option Record) (all puts : List Record) → all ≡ puts ++ found →
      StandsUpTo setup due (reverse all) c → StandsForFirst setup found (put_by due ++ all) c
  first_upto None all puts is h = first_all all puts is h
  first_upto (Some r) all puts is (inl h) = first_more (r ∷ []) all (first_all all puts is h)
  first_upto (Some r) all puts is (inr h) =
      first_all (r ∷ all) (r ∷ puts) (ap (λ rs. r ∷ rs) is)
      (subst (StandsFor (carry_of setup) c) (sym (reverse-append (r ∷ []) all)) h)

  stand_more : (there : Bool) (old : List ℕ) (more all : List Record) → MayStand setup there old found all c →
      MayStand setup there old found (more ++ all) c
  stand_more there old more all (inl making) = inl making
  stand_more there old more all (inr h) = inr (first_more more all h)

none_put : (due : Option Record) (rs : List Record) → put_by due ++ rs ≡ [] → (due ≡ None) × (rs ≡ [])
none_put None rs is = (refl, is)
none_put (Some r) rs is = absurd cc

-- puts after puts
kept_more : (room kept many more all : ℕ) → all ≡ more + many →
    kept_after room (kept_after room kept many) more ≡ kept_after room kept all
kept_more room kept many zero all is = ap (kept_after room kept) (none many all is)
  where
    none : (n m : ℕ) → m ≡ 0 + n → n ≡ m
    none n m e = omega (arith, e)
kept_more room kept many (suc more) zero is = absurd (omega (arith, is))
kept_more room kept many (suc more) (suc all) is =
    ap (λ n. suc (kept_before room n)) (kept_more room kept many more all (less many more all is))
  where
    less : (n m k : ℕ) → suc k ≡ suc m + n → k ≡ m + n
    less n m k e = omega (arith, e)

module _ {D : Type 0} {g : Ghosts D} where
  -- the records that the current half has
  pub since_kept : (host : Host D g) (given : Given D) (found : List Record) (past : List Entry) →
      StandsSince host given found past →
      kept_in host past ≡ since_turn (g.size given.disk) given.base found (records past)
  since_kept host given found past since =
      ap (λ n. take n (records past))
      (since.kept ∙ ap (kept_since (g.size given.disk) given.base (length found)) since.stands.keeps.used)

  kept_then : (before after : Host D g) (given : Given D) (found : List Record) (past next : List Entry) (due : Option Record) →
      StandsSince before given found past → FillsOn (journal_of before) (journal_of after) →
      records next ≡ put_by due ++ records past → hosts.StandsFor after next →
      journals.kept_of (journal_of after)
      ≡ kept_since (g.size given.disk) given.base (length found) (journals.used_of (journal_of after))
  kept_then before after given found past next due since fills is stands =
      let room = half_room (g.size given.disk) in
      let first = length found - given.base in
      let was = journals.used_of (journal_of before) in
      let now = journals.used_of (journal_of after) in
      fills
      ∙ ap (λ size. kept_after (half_room size) (journals.kept_of (journal_of before)) (now - was)) since.sized
      ∙ ap (λ kept. kept_after room kept (now - was)) since.kept
      ∙ kept_more room first (was - length found) (now - was) (now - length found)
      (parts (length (put_by due)) (length since.put) (length found) was now
      (since.stands.keeps.used ∙ ap length since.put_are ∙ length-append since.put found)
      (stands.keeps.used ∙ ap length is ∙ length-append (put_by due) (records past))
      (ap length since.put_are ∙ length-append since.put found))
    where
      parts : (one more many was now : ℕ) {all : ℕ} → was ≡ more + many → now ≡ one + all → all ≡ more + many →
          now - many ≡ (now - was) + (was - many)
      parts one more many was now e h k = omega (arith, e, h, k)

  -- what might have been left up to here, after a step that put a record, or none
  pub since_left : (before after : Host D g) (given : Given D) (found : List Record) (past : List Entry)
      (all : List Record) (due : Option Record) → StandsSince before given found past → setup_of after ≡ setup_of before →
      all ≡ put_by due ++ records past →
      (IsTrusted g.honest g.seen (disk_of before) → LeavesOnly g.moment g.left_since (disk_of before) (disk_of after)
      (StandsUpTo (setup_of before) due (reverse (records past)))) →
      Holds g.honest g.seen g.may_leave given.disk given.image →
      LeavesOnly g.moment g.left_since given.disk (disk_of after)
      (MayStand (setup_of after) given.there given.image found all)
  since_left before after given found past all due since same is moments holds =
      let setup = setup_of before in
      let old = records past in
      let Now = MayStand setup given.there given.image found (put_by due ++ old) in
      subst (λ s. LeavesOnly g.moment g.left_since given.disk (disk_of after)
      (MayStand s given.there given.image found all)) (sym same)
      (subst (λ rs. LeavesOnly g.moment g.left_since given.disk (disk_of after)
      (MayStand setup given.there given.image found rs)) (sym is)
      (then g.moment g.left_since given.disk (disk_of before) (disk_of after) Now
      (weaker g.moment g.left_since given.disk (disk_of before) (MayStand setup given.there given.image found old) Now
      (λ c h. stand_more setup found c given.there given.image (put_by due) old h) (since.left holds))
      (weaker g.moment g.left_since (disk_of before) (disk_of after) (StandsUpTo setup due (reverse old)) Now
      (λ c h. inr (first_upto setup found c due old since.put since.put_are h))
      (moments (since.trusted (holds.keeps_synced, ap is_some holds.tells))))))

  -- a step that put a record, or none
  pub since_put : (before after : Host D g) (given : Given D) (found : List Record) (past next : List Entry)
      (due : Option Record) → StandsSince before given found past → setup_of after ≡ setup_of before →
      GoesOn g.size g.honest g.seen g.cuts (disk_of before) (disk_of after) → records next ≡ put_by due ++ records past →
      (IsTrusted g.honest g.seen (disk_of before) → LeavesOnly g.moment g.left_since (disk_of before) (disk_of after)
      (StandsUpTo (setup_of before) due (reverse (records past)))) →
      (due ≡ None → disk_of after ≡ disk_of before) → FillsOn (journal_of before) (journal_of after) →
      hosts.StandsFor after next → StandsSince after given found next
  since_put before after given found past next due since same on is moments quiet fills stands = record {
    stands = stands;
    trusted = λ trusted.
        let before_too = since.trusted trusted in
        (on.same_honest ∙ before_too.0, on.same_telling ∙ before_too.1);
    put = put_by due ++ since.put;
    put_are = is ∙ ap (λ rs. put_by due ++ rs) since.put_are ∙ sym (append_assoc (put_by due) since.put found);
    sized = on.same_size ∙ since.sized;
    kept = kept_then before after given found past next due since fills is stands;
    left = since_left before after given found past (records next) due since same is moments;
    read = λ there none.
        let nothing = none_put due since.put none in
        subst (OnlyReads g.size g.honest g.seen g.may_leave g.moment g.left_since g.cuts given.disk) (sym (quiet nothing.0))
        (since.read there nothing.1);
  }

  -- one that leaves the journal alone
  pub since_same : (before after : Host D g) (given : Given D) (found : List Record) (past next : List Entry) →
      StandsSince before given found past → setup_of after ≡ setup_of before → journal_of after ≡ journal_of before →
      records next ≡ records past → hosts.StandsFor after next → StandsSince after given found next
  since_same before after given found past next since same journal is stands = let disk = ap journals.disk_of journal in record {
    stands = stands;
    trusted = λ trusted. subst (IsTrusted g.honest g.seen) (sym disk) (since.trusted trusted);
    put = since.put;
    put_are = is ∙ since.put_are;
    sized = ap g.size disk ∙ since.sized;
    kept = subst (λ j. journals.kept_of j
        ≡ kept_since (g.size given.disk) given.base (length found) (journals.used_of j)) (sym journal) since.kept;
    left = λ holds.
        subst (λ d. LeavesOnly g.moment g.left_since given.disk d
        (MayStand (setup_of after) given.there given.image found (records next))) (sym disk)
        (subst (λ s. LeavesOnly g.moment g.left_since given.disk (disk_of before)
        (MayStand s given.there given.image found (records next))) (sym same)
        (subst (λ rs. LeavesOnly g.moment g.left_since given.disk (disk_of before)
        (MayStand (setup_of before) given.there given.image found rs)) (sym is) (since.left holds)));
    read = λ there none.
        subst (OnlyReads g.size g.honest g.seen g.may_leave g.moment g.left_since g.cuts given.disk) (sym disk)
        (since.read there none);
  }
