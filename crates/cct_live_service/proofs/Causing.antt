-- Why a service ends, by what the calls below it answer.
use Rattle.std.proofs.Common.{◌≡◌, ◌≢◌, ◌<◌, ◌⊎◌, ◌∙◌, ℕ, Bool, true, false, List, Option, Some, Result, Ok, Err, IsErr, refl, sym, ap, subst, is_some, inl, inr, arith}
use Rattle.std.specs.Prelude.{IsTrue, ⊤}
use Rattle.cct_edge.specs.declared.fault.Failed.{Failed}
use Rattle.cct_edge.specs.Faults.{Caused}
use Rattle.cct_model.specs.terms.device.Setup.{Setup}
use Rattle.cct_model.specs.lines.record.Record.{Record}
use Rattle.cct_disk.specs.Disk.{OnlyReads}
use Rattle.cct_disk.specs.declared.disk.Disk.{Ghosts}
use Rattle.cct_disk.specs.declared.file.TheConstants.{MADE_LEN}
use Rattle.cct_journal.specs.Image.{HasFrom, IsAlien, IsBadAt, least_size}
use Rattle.cct_journal.specs.Opening.{Finds}
use Rattle.cct_journal.specs.declared.refusal.CreateNo.{CreateNo}
use Rattle.cct_journal.specs.declared.refusal.CreateNo.TheVariants as making
use Rattle.cct_journal.specs.declared.refusal.ReadNo.{ReadNo}
use Rattle.cct_journal.specs.declared.refusal.ReadNo.TheVariants as reading
use Rattle.cct_journal.specs.declared.journal.Journal.{Journal}
use Rattle.cct_journal.specs.Journal as journals
use Rattle.cct_journal.proofs.Moments.{reads_then}
use Rattle.cct_host.specs.OnDisk.{FindsBad, ReadsRest}
use Rattle.cct_host.specs.Starting.{RefusesResume}
use Rattle.cct_live_service.specs.declared.served.Served.{Served}
use Rattle.cct_live_service.specs.declared.served.Served.TheVariants as served
use Rattle.cct_live_service.specs.Causes.{DiskServes, IsDiskFault, IsUnread, IsUnwritten, Refuses, RefusesMaking, SuitsDisk, WasOpened}
use Rattle.cct_live_service.specs.Ending.{IsOfDisk, closed_by, unmade_by, unstarted_by}
use Rattle.cct_live_service.specs.Said.{IsOfInput}
use Rattle.cct_live_service.proofs.Parts.{disk_then, disk_weaker}

-- the disk brings an end of its own
pub disk_not_unread : (how : Served) → IsOfDisk how → IsUnread how → ⊥
disk_not_unread served.Unread of is = of
disk_not_unread served.Done of is = is
disk_not_unread (served.Refused number why) of is = is
disk_not_unread served.Unwritten of is = is
disk_not_unread served.Disk of is = is
disk_not_unread (served.OtherSize len) of is = is
disk_not_unread served.Alien of is = is
disk_not_unread (served.BadRecord index) of is = is

pub disk_not_unwritten : (how : Served) → IsOfDisk how → IsUnwritten how → ⊥
disk_not_unwritten served.Unwritten of is = of
disk_not_unwritten served.Done of is = is
disk_not_unwritten (served.Refused number why) of is = is
disk_not_unwritten served.Unread of is = is
disk_not_unwritten served.Disk of is = is
disk_not_unwritten (served.OtherSize len) of is = is
disk_not_unwritten served.Alien of is = is
disk_not_unwritten (served.BadRecord index) of is = is

-- and so does the input
pub input_not_unwritten : (how : Served) → IsOfInput how → IsUnwritten how → ⊥
input_not_unwritten served.Unwritten of is = of
input_not_unwritten served.Done of is = is
input_not_unwritten (served.Refused number why) of is = is
input_not_unwritten served.Unread of is = is
input_not_unwritten served.Disk of is = is
input_not_unwritten (served.OtherSize len) of is = is
input_not_unwritten served.Alien of is = is
input_not_unwritten (served.BadRecord index) of is = is

pub input_no_fault : (how : Served) → IsOfInput how → IsDiskFault how → ⊥
input_no_fault served.Disk of is = of
input_no_fault served.Done of is = is
input_no_fault (served.Refused number why) of is = is
input_no_fault served.Unread of is = is
input_no_fault served.Unwritten of is = is
input_no_fault (served.OtherSize len) of is = is
input_no_fault served.Alien of is = is
input_no_fault (served.BadRecord index) of is = is

pub unread_of_input : (how : Served) → IsUnread how → IsOfInput how
unread_of_input served.Unread is = tt
unread_of_input served.Done is = absurd is
unread_of_input (served.Refused number why) is = absurd is
unread_of_input served.Unwritten is = absurd is
unread_of_input served.Disk is = absurd is
unread_of_input (served.OtherSize len) is = absurd is
unread_of_input served.Alien is = absurd is
unread_of_input (served.BadRecord index) is = absurd is

-- an end, where the last line is written or not
pub close_unread : (answer : Result (Unit {0}) Failed) (how result : Served) → result ≡ closed_by answer how →
    result ≡ served.Unread → IsUnread how
close_unread (Ok done) how result is e = subst IsUnread (sym (sym is ∙ e)) tt
close_unread (Err failed) how result is e = absurd (subst IsUnread (sym (sym is ∙ e)) tt)

pub close_fault : (answer : Result (Unit {0}) Failed) (how result : Served) → result ≡ closed_by answer how →
    result ≡ served.Disk → IsDiskFault how
close_fault (Ok done) how result is e = subst IsDiskFault (sym (sym is ∙ e)) tt
close_fault (Err failed) how result is e = absurd (subst IsDiskFault (sym (sym is ∙ e)) tt)

pub close_unwritten : (answer : Result (Unit {0}) Failed) (how result : Served) → result ≡ closed_by answer how →
    result ≡ served.Unwritten → IsUnwritten how ⊎ IsErr answer
close_unwritten (Ok done) how result is e = inl (subst IsUnwritten (sym (sym is ∙ e)) tt)
close_unwritten (Err failed) how result is e = inr refl

pub close_size : (answer : Result (Unit {0}) Failed) (how result : Served) (len : ℕ) → result ≡ closed_by answer how →
    how ≡ served.OtherSize len → (result ≡ served.OtherSize len) ⊎ (result ≡ served.Unwritten)
close_size (Ok done) how result len is e = inl (is ∙ e)
close_size (Err failed) how result len is e = inr is

pub not_true : IsTrue false → ⊥
not_true e = cc e

pub same_bytes : (a b : List ℕ) → Some a ≡ Some b → a ≡ b
same_bytes a b e = cc e

no_size : (n : ℕ) → n ≡ MADE_LEN → n < least_size → ⊥
no_size n made small = omega (arith, made, small)

module _ {D : Type 0} (size : D → ℕ) (honest : D → Bool) (seen : D → Option (List ℕ)) (may_leave : D → List ℕ → Type 0)
    (moment : D → ℕ) (left_since : D → ℕ → List ℕ → Type 0) (cuts : D → ℕ) where
  -- a disk of which no call was made was only read
  pub reads_none : (disk : D) → ((d : D) (c : List ℕ) → left_since d (moment d) c → may_leave d c) →
      OnlyReads size honest seen may_leave moment left_since cuts disk disk
  reads_none disk only_now = record {
    same_size = refl;
    same_honest = refl;
    same_seen = refl;
    same_cuts = refl;
    images = λ is c left. left;
    moments = λ is. record { later = omega arith; each = only_now disk; before = λ t c le left. inl left };
  }

  pub close_suits : (given back : D) (setup : Setup) (answer : Result (Unit {0}) Failed) (how result : Served) →
      result ≡ closed_by answer how → SuitsDisk size honest seen may_leave moment left_since cuts given back setup how →
      SuitsDisk size honest seen may_leave moment left_since cuts given back setup result
  close_suits given back setup (Ok done) how result is suits =
      subst (SuitsDisk size honest seen may_leave moment left_since cuts given back setup) (sym is) suits
  close_suits given back setup (Err failed) how result is suits =
      subst (SuitsDisk size honest seen may_leave moment left_since cuts given back setup) (sym is) tt

  module _ (faults : D → ℕ) where
    -- a disk that was only read serves
    pub reads_serve : (a b : D) (E : Type 0) → OnlyReads size honest seen may_leave moment left_since cuts a b →
        Caused (faults a) (faults b) E → DiskServes size honest seen cuts faults a b E
    reads_serve a b E reads cause = record {
      goes_on = record {
        same_size = reads.same_size;
        same_honest = reads.same_honest;
        same_telling = ap is_some reads.same_seen;
        same_cuts = reads.same_cuts;
      };
      cause = cause;
    }

    pub refuses_other : (disk : D) (setup : Setup) (len : ℕ) → len ≡ size disk → size disk ≢ MADE_LEN →
        ((d : D) (c : List ℕ) → left_since d (moment d) c → may_leave d c) →
        Refuses size honest seen may_leave moment left_since cuts faults disk disk setup (served.OtherSize len)
    refuses_other disk setup len is other only_now = record {
      of_disk = tt;
      suits = (other, is, reads_none disk only_now);
      other = λ ne. ap served.OtherSize is;
      serves = reads_serve disk disk ⊥ (reads_none disk only_now) (record { later = omega arith; rose = λ e. absurd e });
    }

    pub refuses_fault : (given back : D) (setup : Setup) → size given ≡ MADE_LEN →
        DiskServes size honest seen cuts faults given back ⊤ →
        Refuses size honest seen may_leave moment left_since cuts faults given back setup served.Disk
    refuses_fault given back setup sized serves =
        record { of_disk = tt; suits = tt; other = λ ne. absurd (ne sized); serves = serves }

    -- a record that can't be read
    pub refuses_bad : (given back : D) (setup : Setup) (index : ℕ) (E : Type 0) → size given ≡ MADE_LEN →
        ((image : List ℕ) → seen given ≡ Some image → IsBadAt image index) →
        OnlyReads size honest seen may_leave moment left_since cuts given back → Caused (faults given) (faults back) E →
        Refuses size honest seen may_leave moment left_since cuts faults given back setup (served.BadRecord index)
    refuses_bad given back setup index E sized bad reads cause = record {
      of_disk = tt;
      suits = (sized, λ image told. inl (bad image told), reads);
      other = λ ne. absurd (ne sized);
      serves = reads_serve given back ⊥ reads (record { later = cause.later; rose = λ e. absurd e });
    }

    -- no journal is made on a disk that has none
    pub refuses_made : (given mid back : D) (setup : Setup) (why : CreateNo) (E : Type 0) → size given ≡ MADE_LEN →
        ((image : List ℕ) → seen given ≡ Some image → IsAlien image) →
        OnlyReads size honest seen may_leave moment left_since cuts given mid → Caused (faults given) (faults mid) E →
        RefusesMaking size honest seen may_leave moment left_since cuts faults mid back why →
        Refuses size honest seen may_leave moment left_since cuts faults given back setup (unmade_by why)
    refuses_made given mid back setup (making.Small len) E sized alien reads cause refuses =
        absurd (no_size (size mid) (reads.same_size ∙ sized) refuses.reason.1)
    refuses_made given mid back setup making.Disk E sized alien reads cause refuses =
        refuses_fault given back setup sized
        (disk_then size honest seen cuts faults given mid back E ⊤
        (reads_serve given mid E reads cause)
        (disk_weaker size honest seen cuts faults mid back (making.Disk ≡ making.Disk) ⊤ (λ _. refl) refuses.serves) ⊤
        (λ fails. inr fails))
    refuses_made given mid back setup (making.NotBlank at) E sized alien reads cause refuses =
        let differs : making.NotBlank at ≢ making.Disk = λ e. cc e in
        let all = reads_then reads (refuses.reads differs) in
        record {
          of_disk = tt;
          suits = (
            sized,
            λ image told.
                record { alien = alien image told; at = at; first = refuses.reason.1 image (reads.same_seen ∙ told) },
            all,
          );
          other = λ ne. absurd (ne sized);
          serves = disk_then size honest seen cuts faults given mid back E (making.NotBlank at ≡ making.Disk)
              (reads_serve given mid E reads cause) refuses.serves ⊥ (λ fails. absurd fails);
        }

module _ {D : Type 0} {g : Ghosts D} where
  -- the bad record that a start meets
  bad_in : (given : D) (journal : Journal D g) (setup : Setup) (index : ℕ) →
      Finds g.seen given (journals.disk_of journal) (journals.place_of journal) →
      OnlyReads g.size g.honest g.seen g.may_leave g.moment g.left_since g.cuts given (journals.disk_of journal) →
      ((rest : List Record) → ReadsRest g.seen (journals.disk_of journal) (journals.place_of journal) rest →
      RefusesResume (reading.BadRecord index) setup (journals.base_of journal) (journals.carry_before journal) rest) →
      (image : List ℕ) → g.seen given ≡ Some image → FindsBad setup image (journals.used_of journal) index
  bad_in given journal setup index finds reads stops image told =
      let found = finds.found image told in
      let same = same_bytes found.1.image image (sym found.1.tells ∙ (reads.same_seen ∙ told)) in
      let place = journals.place_of journal in
      let has : HasFrom found.1.image place.base place.carry found.0 =
      record { second = place.second; generation = place.generation; current = found.1.has } in
      record {
        base = journals.base_of journal;
        carry = journals.carry_before journal;
        rest = found.0;
        has = subst (λ bytes. HasFrom bytes place.base place.carry found.0) same has;
        count = found.1.count;
        stops = stops found.0 found.1;
      }

  -- no host starts over a journal
  pub refuses_start : (given back : D) (journal : Journal D g) (setup : Setup) (was_there : Bool) (why : ReadNo) →
      g.size given ≡ MADE_LEN → WasOpened given journal was_there →
      DiskServes g.size g.honest g.seen g.cuts g.faults given (journals.disk_of journal) ⊥ →
      ((rest : List Record) → ReadsRest g.seen (journals.disk_of journal) (journals.place_of journal) rest →
      RefusesResume why setup (journals.base_of journal) (journals.carry_before journal) rest) →
      Caused (g.faults (journals.disk_of journal)) (g.faults back) (why ≡ reading.Disk) →
      (journals.used_of journal ≡ 0 → ⊥) →
      OnlyReads g.size g.honest g.seen g.may_leave g.moment g.left_since g.cuts (journals.disk_of journal) back →
      Refuses g.size g.honest g.seen g.may_leave g.moment g.left_since g.cuts g.faults given back setup (unstarted_by why)
  refuses_start given back journal setup false why sized opened serves stops cause some reads = absurd (some opened.0)
  refuses_start given back journal setup true reading.Disk sized opened serves stops cause some reads =
      refuses_fault g.size g.honest g.seen g.may_leave g.moment g.left_since g.cuts g.faults given back setup sized
      (disk_then g.size g.honest g.seen g.cuts g.faults given (journals.disk_of journal) back ⊥ ⊤ serves
      (reads_serve g.size g.honest g.seen g.may_leave g.moment g.left_since g.cuts g.faults (journals.disk_of journal) back
      ⊤ reads (record { later = cause.later; rose = λ fails. cause.rose refl })) ⊤ (λ fails. inr fails))
  refuses_start given back journal setup true (reading.BadRecord index) sized opened serves stops cause some reads =
      record {
        of_disk = tt;
        suits = (
          sized,
          λ image told.
              inr (journals.used_of journal, bad_in given journal setup index opened.0 opened.1 stops image told),
          reads_then opened.1 reads,
        );
        other = λ ne. absurd (ne sized);
        serves = disk_then g.size g.honest g.seen g.cuts g.faults given (journals.disk_of journal) back ⊥ ⊥ serves
            (reads_serve g.size g.honest g.seen g.may_leave g.moment g.left_since g.cuts g.faults
            (journals.disk_of journal) back ⊥ reads (record { later = cause.later; rose = λ e. absurd e })) ⊥
            (λ fails. inr fails);
      }
