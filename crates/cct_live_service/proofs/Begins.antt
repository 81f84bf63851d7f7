-- A host that has just started represents the records that were found.
use Rattle.std.proofs.Common.{◌≡◌, ℕ, ◌-◌, arith, length, Bool, true, false, List, [], ◌∷◌, map, reverse, refl, sym, ap, ◌∙◌, subst, inl, inr, is_some, Option, Some, None, Result, true≢false}
use Rattle.std.proofs.lemmas.List.{reverse-reverse}
use Rattle.cct_model.specs.terms.device.Setup.{Setup}
use Rattle.cct_model.specs.lines.record.Record.{Record}
use Rattle.cct_model.specs.lines.entry.Entry.TheVariants as entry
use Rattle.cct_model.specs.lines.carry.Carry.{Carry}
use Rattle.cct_model.specs.Carry.{Fits, all_follow_carry, carry_of}
use Rattle.cct_model.specs.Following.{all_follow}
use Rattle.cct_model.specs.Records.{records}
use Rattle.cct_model.specs.Setup.{IsSoundSetup}
use Rattle.cct_laws.specs.Recorded.{HasNoJob}
use Rattle.cct_journal_carry.proofs.Resumed.{carry_of_none}
use Rattle.cct_disk.specs.declared.disk.Disk.{Ghosts}
use Rattle.cct_disk.specs.Disk.{Holds, IsTrusted, LeavesOnly, OnlyReads}
use Rattle.cct_journal.specs.Creating.{IsCreated}
use Rattle.cct_journal.specs.Image as images
use Rattle.cct_journal.specs.Image.{HasFrom, half_room, kept_after}
use Rattle.cct_journal.specs.Opening.{Finds}
use Rattle.cct_journal.specs.Stands.{Settled}
use Rattle.cct_journal.specs.declared.journal.Journal.{Journal}
use Rattle.cct_journal.specs.declared.place.Place.{Place}
use Rattle.cct_journal.specs.Journal as journals
use Rattle.cct_journal.proofs.Moments.{reads_then, weaker}
use Rattle.cct_host.specs.declared.host.Host.{Host}
use Rattle.cct_host.specs.Host.{StandsFor, disk_of, journal_of, setup_of}
use Rattle.cct_host.specs.OnDisk.{KeepsRecords, ReadsRecords, ReadsRest}
use Rattle.cct_host.specs.Starting.{FirstFollow, HasReplayed, HasResumed, HasResumedSome}
use Rattle.cct_host.proofs.Records.{first_follow}
use Rattle.cct_host.proofs.Starting.{resumed_replayed, started_stands}
use Rattle.cct_laws_live.specs.Live.{started}
use Rattle.cct_edge.specs.declared.fault.Failed.{Failed}
use Rattle.cct_text.specs.Writing.{PutsLine}
use Rattle.cct_live_service.specs.Causes.{DiskServes, WasOpened}
use Rattle.cct_live_service.specs.Found.{Begun, EndsIn, FoundOn, Opens, Tells, ToldOn, found_there, made_new, was_found}
use Rattle.cct_live_service.specs.Notice.{notice_line}
use Rattle.cct_live_service.specs.Opening.{HasBegun, IsFound, Opened, TellsOpening, opening_of, opening_over}
use Rattle.cct_live_service.specs.Since.{MayStand}
use Rattle.cct_live_service.proofs.Causing.{same_bytes}
use Rattle.cct_live_service.proofs.Counting.{numbers_same}
use Rattle.cct_live_service.proofs.Since.{first_all}

put_again : (before : List Record) → records (map (λ r. entry.Put r) before) ≡ before
put_again [] = refl
put_again (r ∷ before) = ap (λ rs. r ∷ rs) (put_again before)

no_job : (before : List Record) → HasNoJob (started before)
no_job before = record { devices = λ d. refl; scan = refl; sale = refl }

-- how many records the current half has at first: none, where the journal was made
kept_none : (used base room many : ℕ) → used ≡ 0 → many ≡ 0 → used - base ≡ kept_after room (many - 0) (used - many)
kept_none used base room many none few =
    let no_more : used - many ≡ 0 = omega (arith, none) in
    let no_kept : used - base ≡ many - 0 = omega (arith, none, few) in
    no_kept ∙ sym (ap (kept_after room (many - 0)) no_more)

-- those that it has
kept_found : (used base own room many : ℕ) → base ≡ own → used ≡ many →
    used - base ≡ kept_after room (many - own) (used - many)
kept_found used base own room many same all =
    let no_more : used - many ≡ 0 = omega (arith, all) in
    let are_kept : used - base ≡ many - own = omega (arith, same, all) in
    are_kept ∙ sym (ap (kept_after room (many - own)) no_more)

module _ {D : Type 0} {g : Ghosts D} where
  -- a journal that was there, read as records
  pub opens_there : (disk : D) (journal : Journal D g) (setup : Setup) (found : List Record) → IsSoundSetup setup →
      Finds g.seen disk (journals.disk_of journal) (journals.place_of journal) →
      ((of : List Record → Carry) (rs : List Record) → Settled of g.honest g.seen g.may_leave disk rs →
      journals.JournalStands of journal rs) →
      OnlyReads g.size g.honest g.seen g.may_leave g.moment g.left_since g.cuts disk (journals.disk_of journal) →
      Tells g.honest g.seen g.may_leave disk setup found → Opens journal setup true found
  opens_there disk journal setup found sound finds stands reads tells =
      let read = finds.every (carry_of setup) tells.image (reverse found) tells.seen_is tells.stands in
      let follow : all_follow setup (reverse (reverse found)) ≡ true =
      ap (all_follow setup) (reverse-reverse found) ∙ tells.follow in (
        (read, first_follow setup _ _ read.rest (reverse found) sound read.continues follow),
        λ trusted. stands (carry_of setup) (reverse found)
            (tells.settled (sym reads.same_honest ∙ trusted.0, ap is_some (sym reads.same_seen) ∙ trusted.1)),
      )

  -- a host that started over a journal
  pub begins : (host : Host D g) (journal : Journal D g) (was_there : Bool) (found : List Record) →
      ((rs : List Record) → (reads : ReadsRecords (setup_of host) g.seen (journals.disk_of journal)
      (journals.place_of journal) rs) → FirstFollow (setup_of host) reads → HasReplayed host (reverse rs)) →
      (journals.used_of journal ≡ 0 → HasReplayed host []) →
      ((rs : List Record) → KeepsRecords (setup_of host) g.honest g.seen g.may_leave (journals.disk_of journal)
      (journals.place_of journal) rs → KeepsRecords (setup_of host) g.honest g.seen g.may_leave (disk_of host)
      (journals.place_of (journal_of host)) rs) →
      OnlyReads g.size g.honest g.seen g.may_leave g.moment g.left_since g.cuts (journals.disk_of journal) (disk_of host) →
      Opens journal (setup_of host) was_there found → StandsFor host (started found)
  begins host journal true found knows fresh stands reads opens =
      started_stands host (started found) found (no_job found) (put_again found)
      (subst (HasReplayed host) (reverse-reverse found) (knows (reverse found) opens.0.0 opens.0.1))
      (λ trusted. stands (reverse found)
      (opens.1 (sym reads.same_honest ∙ trusted.0, ap is_some (sym reads.same_seen) ∙ trusted.1)))
  begins host journal false found knows fresh stands reads opens =
      started_stands host (started found) found (no_job found) (put_again found)
      (subst (HasReplayed host) (sym opens.0) (fresh opens.1))
      (λ trusted. stands (reverse found)
      (subst (λ rs. KeepsRecords (setup_of host) g.honest g.seen g.may_leave (journals.disk_of journal)
      (journals.place_of journal) (reverse rs)) (sym opens.0)
      (opens.2 (sym reads.same_honest ∙ trusted.0, ap is_some (sym reads.same_seen) ∙ trusted.1))))

  -- the same, where the setup is reported
  begins_by : (host : Host D g) (journal : Journal D g) (setup : Setup) (was_there : Bool) (found : List Record) →
      setup_of host ≡ setup →
      ((rs : List Record) → (reads : ReadsRecords setup g.seen (journals.disk_of journal) (journals.place_of journal) rs) →
      FirstFollow setup reads → HasReplayed host (reverse rs)) →
      (journals.used_of journal ≡ 0 → HasReplayed host []) →
      ((rs : List Record) → KeepsRecords setup g.honest g.seen g.may_leave (journals.disk_of journal)
      (journals.place_of journal) rs → KeepsRecords setup g.honest g.seen g.may_leave (disk_of host)
      (journals.place_of (journal_of host)) rs) →
      OnlyReads g.size g.honest g.seen g.may_leave g.moment g.left_since g.cuts (journals.disk_of journal) (disk_of host) →
      Opens journal setup was_there found → StandsFor host (started found)
  begins_by host journal setup was_there found same knows fresh stands reads opens =
      subst (λ s. ((rs : List Record) → (reads : ReadsRecords s g.seen (journals.disk_of journal) (journals.place_of journal) rs)
      → FirstFollow s reads → HasReplayed host (reverse rs))
      → ((rs : List Record) → KeepsRecords s g.honest g.seen g.may_leave (journals.disk_of journal) (journals.place_of journal) rs
      → KeepsRecords s g.honest g.seen g.may_leave (disk_of host) (journals.place_of (journal_of host)) rs)
      → Opens journal s was_there found → StandsFor host (started found)) same
      (λ k st op. begins host journal was_there found k fresh st reads op) knows stands opens

  -- what a host began with that found a journal
  found_by : (disk : D) (journal : Journal D g) (host : Host D g) (setup : Setup) (o : Option (List ℕ)) → g.seen disk ≡ o →
      setup_of host ≡ setup → Finds g.seen disk (journals.disk_of journal) (journals.place_of journal) →
      OnlyReads g.size g.honest g.seen g.may_leave g.moment g.left_since g.cuts disk (journals.disk_of journal) →
      HasResumedSome host (journals.base_of journal) (journals.carry_before journal) →
      ((rest : List Record) → ReadsRest g.seen (journals.disk_of journal) (journals.place_of journal) rest →
      HasResumed host (journals.base_of journal) (journals.carry_before journal) rest) →
      (rest : List Record)
      × IsFound g.seen disk setup (journals.base_of journal) (journals.carry_before journal) rest
      × HasResumed host (journals.base_of journal) (journals.carry_before journal) rest
  found_by disk journal host setup None is same finds reads some resumes =
      let base = journals.base_of journal in
      let c = journals.carry_before journal in (
        some.rest,
        record {
          fits = subst (λ s. Fits s c) same some.resumed.fits;
          follow = subst (λ s. all_follow_carry s c some.rest ≡ true) same some.resumed.follow;
          read = λ image told. absurd (no_bytes image (sym told ∙ is));
          first = some.empty;
        },
        some.resumed,
      )
    where
      no_bytes : (image : List ℕ) → Some image ≡ None → ⊥
      no_bytes image e = cc e
  found_by disk journal host setup (Some image) is same finds reads some resumes =
      let place = journals.place_of journal in
      let c = journals.carry_before journal in
      let found = finds.found image is in
      let resumed = resumes found.0 found.1 in
      let has : HasFrom found.1.image place.base place.carry found.0 =
      record { second = place.second; generation = place.generation; current = found.1.has } in (
        found.0,
        record {
          fits = subst (λ s. Fits s c) same resumed.fits;
          follow = subst (λ s. all_follow_carry s c found.0 ≡ true) same resumed.follow;
          read = λ bytes told. subst (λ b. HasFrom b place.base place.carry found.0)
              (same_bytes found.1.image bytes (sym found.1.tells ∙ (reads.same_seen ∙ told))) has;
          first = some.empty;
        },
        resumed,
      )

  -- a host that found one is as one that went over all records that end in what it found
  ends_replayed : (disk : D) (host : Host D g) (base : ℕ) (c : Carry) (rest found : List Record) →
      HasResumed host base c rest → EndsIn g.honest g.seen g.may_leave disk (setup_of host) base c rest found →
      HasReplayed host found
  ends_replayed disk host base c rest found resumed ends =
      subst (HasReplayed host) (reverse-reverse found)
      (resumed_replayed host base c rest (reverse found) ends.continues ends.follow resumed)

  -- and represents them
  ends_stand : (disk : D) (journal : Journal D g) (host : Host D g) (base : ℕ) (c : Carry) (rest found : List Record) →
      HasResumed host base c rest → EndsIn g.honest g.seen g.may_leave disk (setup_of host) base c rest found →
      ((of : List Record → Carry) (rs : List Record) → Settled of g.honest g.seen g.may_leave disk rs →
      journals.JournalStands of journal rs) →
      OnlyReads g.size g.honest g.seen g.may_leave g.moment g.left_since g.cuts disk (journals.disk_of journal) →
      ((rs : List Record) → KeepsRecords (setup_of host) g.honest g.seen g.may_leave (journals.disk_of journal)
      (journals.place_of journal) rs → KeepsRecords (setup_of host) g.honest g.seen g.may_leave (disk_of host)
      (journals.place_of (journal_of host)) rs) →
      OnlyReads g.size g.honest g.seen g.may_leave g.moment g.left_since g.cuts (journals.disk_of journal) (disk_of host) →
      StandsFor host (started found)
  ends_stand disk journal host base c rest found resumed ends settles reads stands starts =
      started_stands host (started found) found (no_job found) (put_again found)
      (ends_replayed disk host base c rest found resumed ends)
      (λ trusted. stands (reverse found)
      (settles (carry_of (setup_of host)) (reverse found)
      (ends.settled (
        sym reads.same_honest ∙ (sym starts.same_honest ∙ trusted.0),
        ap is_some (sym reads.same_seen) ∙ (ap is_some (sym starts.same_seen) ∙ trusted.1),
      ))))

  -- what a host began with, which was started over a journal that was there or was made
  pub opened_by : (disk : D) (journal : Journal D g) (host : Host D g) (setup : Setup) (there : Bool) →
      setup_of host ≡ setup → IsSoundSetup setup → WasOpened disk journal there →
      ((found : List Record) → ToldOn g.honest g.seen g.may_leave disk setup there found → Opens journal setup there found) →
      HasResumedSome host (journals.base_of journal) (journals.carry_before journal) →
      ((rest : List Record) → ReadsRest g.seen (journals.disk_of journal) (journals.place_of journal) rest →
      HasResumed host (journals.base_of journal) (journals.carry_before journal) rest) →
      ((rs : List Record) → (reads : ReadsRecords setup g.seen (journals.disk_of journal) (journals.place_of journal) rs) →
      FirstFollow setup reads → HasReplayed host (reverse rs)) →
      (journals.used_of journal ≡ 0 → HasReplayed host []) →
      ((rs : List Record) → KeepsRecords setup g.honest g.seen g.may_leave (journals.disk_of journal)
      (journals.place_of journal) rs → KeepsRecords setup g.honest g.seen g.may_leave (disk_of host)
      (journals.place_of (journal_of host)) rs) →
      OnlyReads g.size g.honest g.seen g.may_leave g.moment g.left_since g.cuts (journals.disk_of journal) (disk_of host) →
      DiskServes g.size g.honest g.seen g.cuts g.faults disk (journals.disk_of journal) ⊥ →
      (journals.used_of journal ≡ 0 → journal_of host ≡ journal) →
      journals.place_of (journal_of host) ≡ journals.place_of journal → Opened disk setup host there
  opened_by disk journal host setup false same sound opened opens some resumes knows fresh stands reads serves still place = record {
    begun = made_new;
    there_is = refl;
    on = opened.1;
    has = fresh opened.0;
    since = λ found none image. record {
      stands = begins_by host journal setup false found same knows fresh stands reads (opens found none);
      trusted = λ trusted. (
        reads.same_honest ∙ serves.goes_on.same_honest ∙ trusted.0,
        ap is_some reads.same_seen ∙ serves.goes_on.same_telling ∙ trusted.1,
      );
      put = [];
      put_are = put_again found;
      sized = reads.same_size ∙ serves.goes_on.same_size;
      kept = kept_none (journals.used_of (journal_of host)) (journals.place_of (journal_of host)).base
          (half_room (g.size disk)) (length found) (ap (λ (p : Place). p.used) place ∙ opened.0) (ap length none);
      left = λ holds.
          weaker g.moment g.left_since disk (disk_of host) (IsCreated image)
          (MayStand (setup_of host) false image found (records (started found))) (λ c h. inl h)
          (subst (λ j. LeavesOnly g.moment g.left_since disk (journals.disk_of j) (IsCreated image)) (sym (still opened.0))
          (opened.2 image holds));
      read = λ there none. absurd (true≢false (sym there));
    };
    numbers = λ found none. refl;
  }
  opened_by disk journal host setup true same sound opened opens some resumes knows fresh stands reads serves still place =
      let found = found_by disk journal host setup (g.seen disk) refl same opened.0 opened.1 some resumes in
      record {
        begun = found_there (journals.base_of journal) (journals.carry_before journal) found.0;
        there_is = refl;
        on = found.1;
        has = found.2;
        since = λ records on image.
            let both = reads_then opened.1 reads in
            record {
              stands = each found.0 found.2 records on;
              trusted = λ trusted. (both.same_honest ∙ trusted.0, ap is_some both.same_seen ∙ trusted.1);
              put = [];
              put_are = put_again records;
              sized = both.same_size;
              kept = kept_found (journals.used_of (journal_of host)) (journals.place_of (journal_of host)).base
                  (journals.base_of journal) (half_room (g.size disk)) (length records)
                  (ap (λ (p : Place). p.base) place)
                  ((each found.0 found.2 records on).keeps.used ∙ ap length (put_again records));
              left = λ holds. left_at found.0 records on image both holds;
              read = λ there none. both;
            };
        numbers = λ records on. numbers_by found.0 found.2 records on;
      }
    where
      each : (rest : List Record) → HasResumed host (journals.base_of journal) (journals.carry_before journal) rest →
          (records : List Record) →
          FoundOn g.honest g.seen g.may_leave disk setup
          (found_there (journals.base_of journal) (journals.carry_before journal) rest) records →
          StandsFor host (started records)
      each rest resumed records (inl told) =
          begins_by host journal setup true records same knows fresh stands reads (opens records told)
      each rest resumed records (inr ends) =
          ends_stand disk journal host (journals.base_of journal) (journals.carry_before journal) rest records resumed
          (subst (λ s. EndsIn g.honest g.seen g.may_leave disk s (journals.base_of journal) (journals.carry_before journal) rest
          records) (sym same) ends) opened.2 opened.1
          (subst (λ s. (rs : List Record) → KeepsRecords s g.honest g.seen g.may_leave (journals.disk_of journal)
          (journals.place_of journal) rs → KeepsRecords s g.honest g.seen g.may_leave (disk_of host)
          (journals.place_of (journal_of host)) rs) (sym same) stands) reads

      settled_on : (rest records : List Record) →
          FoundOn g.honest g.seen g.may_leave disk setup
          (found_there (journals.base_of journal) (journals.carry_before journal) rest) records →
          IsTrusted g.honest g.seen disk → Settled (carry_of setup) g.honest g.seen g.may_leave disk (reverse records)
      settled_on rest records (inl told) trusted = told.settled trusted
      settled_on rest records (inr ends) trusted = ends.settled trusted

      left_at : (rest found : List Record) →
          FoundOn g.honest g.seen g.may_leave disk setup
          (found_there (journals.base_of journal) (journals.carry_before journal) rest) found → (image : List ℕ) →
          OnlyReads g.size g.honest g.seen g.may_leave g.moment g.left_since g.cuts disk (disk_of host) →
          Holds g.honest g.seen g.may_leave disk image →
          LeavesOnly g.moment g.left_since disk (disk_of host)
          (MayStand (setup_of host) true image found (records (started found)))
      left_at rest found on image both holds =
          let settled = settled_on rest found on (holds.keeps_synced, ap is_some holds.tells) in
          let all = records (started found) in
          weaker g.moment g.left_since disk (disk_of host) (g.may_leave disk)
          (MayStand (setup_of host) true image found all)
          (λ c left. inr (first_all (setup_of host) found c all [] (put_again found)
          (subst (λ rs. images.StandsFor (carry_of (setup_of host)) c (reverse rs)) (sym (put_again found))
          (subst (λ s. images.StandsFor (carry_of s) c (reverse found)) (sym same)
          (subst (λ bytes. images.StandsFor (carry_of setup) bytes (reverse found)) (sym (settled.held.only c left)) settled.stands)))))
          (both.moments holds.keeps_synced)

      numbers_by : (rest : List Record) →
          HasResumed host (journals.base_of journal) (journals.carry_before journal) rest → (records : List Record) →
          FoundOn g.honest g.seen g.may_leave disk setup
          (found_there (journals.base_of journal) (journals.carry_before journal) rest) records →
          opening_of setup (found_there (journals.base_of journal) (journals.carry_before journal) rest)
          ≡ opening_over setup (found_there (journals.base_of journal) (journals.carry_before journal) rest) records
      numbers_by rest resumed records (inl told) =
          let reads = opens records told in
          subst (λ s. opening_of s (found_there (journals.base_of journal) (journals.carry_before journal) rest)
          ≡ opening_over s (found_there (journals.base_of journal) (journals.carry_before journal) rest) records) same
          (numbers_same host (journals.base_of journal) (journals.carry_before journal) rest records resumed
          (subst (HasReplayed host) (reverse-reverse records) (knows (reverse records) reads.0.0 reads.0.1)))
      numbers_by rest resumed records (inr ends) =
          subst (λ s. opening_of s (found_there (journals.base_of journal) (journals.carry_before journal) rest)
          ≡ opening_over s (found_there (journals.base_of journal) (journals.carry_before journal) rest) records) same
          (numbers_same host (journals.base_of journal) (journals.carry_before journal) rest records resumed
          (ends_replayed disk host (journals.base_of journal) (journals.carry_before journal) rest records resumed
          (subst (λ s. EndsIn g.honest g.seen g.may_leave disk s (journals.base_of journal) (journals.carry_before journal) rest
          records) (sym same) ends)))

-- over a disk that shows nothing, whose journal never turned, the records after the empty carry are those that were found
pub ends_alone : {D : Type 0} (honest : D → Bool) (seen : D → Option (List ℕ)) (may_leave : D → List ℕ → Type 0) (disk : D)
    (setup : Setup) (c : Carry) (rest : List Record) → seen disk ≡ None → IsFound seen disk setup 0 c rest →
    EndsIn honest seen may_leave disk setup 0 c rest (reverse rest)
ends_alone honest seen may_leave disk setup c rest silent found = record {
  continues = record {
    first = [];
    all = reverse-reverse rest;
    many = refl;
    carry_is = found.first refl ∙ sym (carry_of_none setup);
  };
  follow = refl;
  settled = λ trusted. absurd (true≢false (sym trusted.1 ∙ ap is_some silent));
}

-- what was reported first is what a host began with
pub opening_put : {K D : Type 0} {g : Ghosts D} (written : K → Option (List ℕ))
    (puts : K → List ℕ → Result (Unit {0}) Failed → K → Type 0) (host : Host D g) {there : Bool} {before now : K}
    {result : Result (Unit {0}) Failed} → TellsOpening written puts host there before result now → (begun : Begun) →
    HasBegun host begun → there ≡ was_found begun →
    PutsLine written puts before (notice_line (opening_of (setup_of host) begun)) result now
opening_put written puts host {there} {before} {now} {result} tells begun has is =
    subst (λ n. PutsLine written puts before (notice_line n) result now) (tells.is begun has is) tells.put
