-- The last line of a run, and what its status says.
use Rattle.std.proofs.Common.{◌≡◌, ◌≢◌, ℕ, List, [], ◌∷◌, ◌++◌, Option, None, Some, Result, Ok, Err, refl}
use Rattle.std.proofs.Common.{sym, ap, subst, inl, inr, append_assoc, arith, ◌∙◌, ◌⊎◌}
use Rattle.std.specs.Prelude.{IfSome, is_some, true}
use Rattle.std.proofs.lemmas.List.{append-nil}
use Rattle.cct_edge.specs.declared.fault.Failed.{Failed}
use Rattle.cct_model.specs.terms.device.Setup.{Setup}
use Rattle.cct_model.specs.lines.command.Step.{Step}
use Rattle.cct_model.specs.lines.command.Step.TheVariants as step
use Rattle.cct_model.specs.lines.entry.Entry.{Entry}
use Rattle.cct_model.specs.AtDesk.{LegalAtDesk}
use Rattle.cct_model.specs.Change.{Desk, clear_desk}
use Rattle.cct_model.specs.lines.entry.Entry.TheVariants as entry
use Rattle.cct_model.specs.Script.{script, Refusal}
use Rattle.cct_model.specs.Transcript.{onto}
use Rattle.cct_model.specs.Honest.{Honest}
use Rattle.cct_laws_change.specs.Change.{ChangeIsPaid}
use Rattle.cct_laws_change.proofs.Runs.{change_paid}
use Rattle.cct_laws.proofs.text.Scripts.{front_legal, front_of_today, played_right, setup_sound}
use Rattle.cct_journal.specs.Image.{IsBlank, IsFirstByteFrom}
use Rattle.cct_bench.specs.declared.outcome.Status.{Status}
use Rattle.cct_bench.specs.declared.outcome.Status.TheVariants as status
use Rattle.cct_bench.specs.declared.ending.Ending.{Ending}
use Rattle.cct_bench.specs.declared.ending.Ending.TheVariants as ending
use Rattle.cct_bench.specs.declared.play.TheConstants.{JOURNAL_BYTES}
use Rattle.cct_journal.specs.declared.refusal.CreateNo.TheVariants as create_no
use Rattle.cct_host.specs.declared.refusal.CrashNo.{CrashNo}
use Rattle.cct_host.specs.declared.refusal.CrashNo.TheVariants as crash_no
use Rattle.cct_world.specs.Early.{LegalBeforeLoss}
use Rattle.cct_world.specs.Restarts.{LosesAt, no_step}
use Rattle.cct_world.specs.Relying.{First, IsCrash, IsReliable, losses_in}
use Rattle.cct_bench.specs.Disks.{Disks, most_records}
use Rattle.cct_laws.specs.Right.{IsRight}
use Rattle.cct_bench.specs.Money.{RightBeforeLoss}
use Rattle.cct_script.specs.Source.{AreTold, OfBytes, to_come}
use Rattle.cct_text.specs.Writing.{Writes, Wrote, Broke}
use Rattle.cct_bench.specs.Run.{RecordsLeftByLine, BreaksOff, Closes, Completes, Ends, EndsLost, OverCut}
use Rattle.cct_bench.specs.Run.{OverLost, Played, Ran, TellsLoss, TellsOf, last_entry, listed, status_by, status_of}
use Rattle.cct_world.proofs.Early.{early_none}
use Rattle.cct_world.proofs.Relying.{rose_just}
use Rattle.cct_text.proofs.Writing.{writes_then}

-- what holds of the bytes that an object shows, or of some where it shows none, also holds by a
-- weaker fact
pub bytes_weaker : (P Q : List ℕ → Type 0) (known : Option (List ℕ)) → ((bytes : List ℕ) → P bytes → Q bytes)
    → OfBytes known P → OfBytes known Q
bytes_weaker P Q known f h = (h.0, h.1, f h.0 h.2)

-- what is so before the first power cut, by what is so of the first of the steps
pub early_right : (setup : Setup) (played : List Step) (transcript : List Entry) (now : Desk)
    → ((first later : List Step) (told : List Entry) → played ≡ first ++ later
    → LegalAtDesk most_records setup first told
    → IsRight setup told × (Honest told → ChangeIsPaid most_records setup first told))
    → LegalBeforeLoss most_records setup played transcript now → RightBeforeLoss setup played transcript
early_right setup played transcript now rights e =
    let legal : LegalAtDesk most_records setup e.first e.told = (e.so.1, e.so.2) in
    let right = rights e.first e.later e.told e.steps_are legal in
    record {
      first = e.first;
      later = e.later;
      told = e.told;
      rest = e.rest;
      steps_are = e.steps_are;
      transcript_is = e.transcript_is;
      none = e.none;
      ends = e.ends;
      so = (legal, right.0, right.1);
    }

-- the money of a script that was played up to a step is right, where its transcript is legal at the
-- operator's desk
desk_right : (bytes : List ℕ) (played rest : List Step) (transcript : List Entry) → (script bytes).steps ≡ played ++ rest
    → LegalAtDesk most_records (script bytes).setup played transcript → IsRight (script bytes).setup transcript
desk_right bytes played rest transcript fronts legal =
    played_right most_records bytes played rest transcript fronts
    (front_legal most_records bytes played rest transcript fronts legal)

-- and its sessions of change pay what they report
desk_changes : (bytes : List ℕ) (played rest : List Step) (transcript : List Entry)
    → (script bytes).steps ≡ played ++ rest
    → LegalAtDesk most_records (script bytes).setup played transcript → Honest transcript
    → ChangeIsPaid most_records (script bytes).setup played transcript
desk_changes bytes played rest transcript fronts legal honest =
    change_paid most_records (script bytes).setup played transcript (setup_sound bytes)
    (front_of_today bytes played rest fronts).in_range legal honest

desk_rights : (bytes : List ℕ) (played rest : List Step) (transcript : List Entry)
    → (script bytes).steps ≡ played ++ rest → LegalAtDesk most_records (script bytes).setup played transcript
    → IsRight (script bytes).setup transcript
    × (Honest transcript → ChangeIsPaid most_records (script bytes).setup played transcript)
desk_rights bytes played rest transcript fronts legal =
    (desk_right bytes played rest transcript fronts legal, desk_changes bytes played rest transcript fronts legal)

-- a last line shows a fault of the source, or of the disk, only where the steps came to their end by one
unread_tail : (how : Ending) → listed (last_entry how) ≡ entry.ReadFault ∷ [] → how ≡ ending.Unread
unread_tail ending.Done is = cc is
unread_tail (ending.Refused number why) is = cc is
unread_tail ending.Unread is = refl
unread_tail ending.Unwritten is = cc is
unread_tail ending.NoMemory is = cc is
unread_tail (ending.OtherSize len) is = cc is
unread_tail (ending.Uncreated (create_no.Small len)) is = cc is
unread_tail (ending.Uncreated create_no.Disk) is = cc is
unread_tail (ending.Uncreated (create_no.NotBlank at)) is = cc is
unread_tail (ending.Unplayed crash_no.Disk) is = cc is
unread_tail (ending.Unplayed crash_no.Alien) is = cc is
unread_tail (ending.Unplayed (crash_no.BadRecord index)) is = cc is
unread_tail (ending.Unplayed (crash_no.Lost found put)) is = cc is

pub failed_tail : (how : Ending) → listed (last_entry how) ≡ entry.DiskFault ∷ [] → status_of how ≡ status.DiskFault
failed_tail ending.Done is = cc is
failed_tail (ending.Refused number why) is = cc is
failed_tail ending.Unread is = cc is
failed_tail ending.Unwritten is = cc is
failed_tail ending.NoMemory is = cc is
failed_tail (ending.OtherSize len) is = cc is
failed_tail (ending.Uncreated (create_no.Small len)) is = cc is
failed_tail (ending.Uncreated create_no.Disk) is = refl
failed_tail (ending.Uncreated (create_no.NotBlank at)) is = cc is
failed_tail (ending.Unplayed crash_no.Disk) is = refl
failed_tail (ending.Unplayed crash_no.Alien) is = cc is
failed_tail (ending.Unplayed (crash_no.BadRecord index)) is = cc is
failed_tail (ending.Unplayed (crash_no.Lost found put)) is = cc is

-- the steps came to their end by a fault only where there was one
pub record IsCaused (how : Ending) (source_failed disk_failed : Type 0) : Type 0 where
  pub unread : how ≡ ending.Unread → source_failed
  pub failed : status_of how ≡ status.DiskFault → disk_failed

-- a run by its status, from what was played
ran_by : (bytes : List ℕ) (how : Ending) (s : Status) (tail : List Entry) (left : Option (List ℕ)) (disks : Disks)
    (Before Written : List Entry → Type 0) (Broken Breaks : List Entry → List Entry → Type 0)
    (source_failed disk_failed : Type 0) → tail ≡ listed (last_entry how) → IsCaused how source_failed disk_failed
    → (disks.trusted → TellsLoss tail → ⊥)
    → (p : Played (IsReliable disks.trusted) bytes how left Before Broken (OverCut disks))
    → Ends disks bytes p.taken p.played p.unplayed p.transcript s tail Written Breaks
    → (disks.trusted → p.taken ≢ [] → RecordsLeftByLine disks (script bytes).setup p.unplayed (onto [] p.transcript) tail)
    → Ran bytes s left Written Breaks disks source_failed disk_failed
ran_by bytes how s tail left disks Before Written Broken Breaks source_failed disk_failed is caused keeps p ends book =
    record {
      taken = p.taken;
      played = p.played;
      unplayed = p.unplayed;
      transcript = p.transcript;
      tail = tail;
      took = p.took;
      steps_are = p.steps_are;
      legal = p.legal;
      money = λ sure. desk_right bytes p.played p.unplayed p.transcript p.steps_are (p.legal sure);
      change = λ sure honest. desk_changes bytes p.played p.unplayed p.transcript p.steps_are (p.legal sure) honest;
      early = early_right (script bytes).setup p.played p.transcript p.early.0
          (λ first later told fronts legal. desk_rights bytes first (later ++ p.unplayed) told
          (p.steps_are ∙ ap (λ xs. xs ++ p.unplayed) fronts ∙ append_assoc first later p.unplayed) legal) p.early.1;
      ends = ends;
      book = book;
      keeps = keeps;
      source_cause = λ tells. caused.unread (unread_tail how (sym is ∙ tells));
      disk_cause = λ tells. caused.failed (failed_tail how (sym is ∙ tells));
      survived = p.beside.survived;
      cut = p.beside.cut;
      just = p.beside.just;
    }

-- a last line was written whole, or broke off
abbrev pub LastLine : (List Entry → Type 0) → (List Entry → Type 0) → (List Entry → List Entry → Type 0) → List Entry
    → Result (Unit {0}) Failed → Type 0
LastLine Before Written Breaks tail (Ok done) = (xs : List Entry) → Before xs → Written (xs ++ tail)
LastLine Before Written Breaks tail (Err failed) = (xs : List Entry) → Before xs → Breaks xs tail

-- the sink failed within the last line
breaks_last : (Relies : List Entry → Type 0) (setup : Setup) (played : List Step) (transcript tail : List Entry)
    (Breaks : List Entry → List Entry → Type 0)
    → (Relies (onto [] transcript) → LegalAtDesk most_records setup played transcript) → Breaks transcript tail
    → BreaksOff Relies setup played transcript tail Breaks
breaks_last Relies setup played transcript tail Breaks legal breaks = record {
  before = played;
  last = [];
  whole = transcript;
  cut = [];
  steps_are = sym (append-nil played);
  one_step = omega arith;
  transcript_is = sym (append-nil transcript);
  legal = legal;
  goes_on = λ relies. let is = legal relies in (is.0, is.0, is.1, (refl, refl));
  in_one = inl refl;
  breaks = breaks;
}

-- what a status with a last line says, where that was written whole
abbrev HasLine : Status → Type 0
HasLine status.WriteFault = ⊥
HasLine status.OutOfMemory = ⊥
HasLine s = Unit

module _ (disks : Disks) (bytes taken : List ℕ) (played unplayed : List Step) (transcript : List Entry)
    (Written : List Entry → Type 0) (Breaks : List Entry → List Entry → Type 0) where
  ends_whole : (s : Status) (tail : List Entry) → HasLine s → Closes disks bytes taken played unplayed transcript s tail
      → Written (transcript ++ tail) → Ends disks bytes taken played unplayed transcript s tail Written Breaks
  ends_whole status.WriteFault tail has closes wrote = absurd has
  ends_whole status.OutOfMemory tail has closes wrote = absurd has
  ends_whole s tail has closes wrote = (closes, wrote)

module _ (bytes : List ℕ) (how : Ending) (left : Option (List ℕ)) (disks : Disks) (Before Written : List Entry → Type 0)
    (Broken Breaks : List Entry → List Entry → Type 0) (source_failed disk_failed : Type 0)
    (caused : IsCaused how source_failed disk_failed)
    (p : Played (IsReliable disks.trusted) bytes how left Before Broken (OverCut disks)) where
  -- a run whose last line was put
  ran_last : (answer : Result (Unit {0}) Failed) (s : Status) (tail : List Entry) → tail ≡ listed (last_entry how)
      → HasLine s → (disks.trusted → TellsLoss tail → ⊥) → LastLine Before Written Breaks tail answer
      → Before p.transcript → Closes disks bytes p.taken p.played p.unplayed p.transcript s tail
      → (disks.trusted → p.taken ≢ [] → RecordsLeftByLine disks (script bytes).setup p.unplayed (onto [] p.transcript) tail)
      → Ran bytes (status_by answer s) left Written Breaks disks source_failed disk_failed
  ran_last (Ok done) s tail is has keeps line wrote closes book =
      ran_by bytes how s tail left disks Before Written Broken Breaks source_failed disk_failed is caused keeps p
      (ends_whole disks bytes p.taken p.played p.unplayed p.transcript Written Breaks s tail has closes
      (line p.transcript wrote)) book
  ran_last (Err failed) s tail is has keeps line wrote closes book =
      ran_by bytes how status.WriteFault tail left disks Before Written Broken Breaks source_failed disk_failed is caused
      keeps p (
        inr (s, closes),
        breaks_last (IsReliable disks.trusted) (script bytes).setup p.played p.transcript tail Breaks p.legal
            (line p.transcript wrote),
      ) book

  -- what a power cut left is reported
  ran_lost : (answer : Result (Unit {0}) Failed) (why : CrashNo) (tail : List Entry) → tail ≡ listed (last_entry how)
      → ((P : CrashNo → Type 0) → P why → TellsOf P tail) → LastLine Before Written Breaks tail answer
      → Before p.transcript → OverLost disks (script bytes).setup (onto [] p.transcript) p.unplayed why
      → Ran bytes (status_by answer status.JournalLost) left Written Breaks disks source_failed disk_failed
  ran_lost answer why tail is tells line wrote over =
      ran_last answer status.JournalLost tail is tt (λ trusted told. over.2 trusted) line wrote
      (tells (EndsLost disks (script bytes).setup (onto [] p.transcript) p.unplayed) over.1, over.0)
      (λ trusted some. absurd (over.2 trusted))

breaks_by : (Relies : List Entry → Type 0) (setup : Setup) (played : List Step) (transcript tail : List Entry)
    (Broken Breaks : List Entry → List Entry → Type 0) → ((xs ys : List Entry) → Broken xs ys → Breaks xs ys)
    → BreaksOff Relies setup played transcript tail Broken → BreaksOff Relies setup played transcript tail Breaks
breaks_by Relies setup played transcript tail Broken Breaks b h = record {
  before = h.before;
  last = h.last;
  whole = h.whole;
  cut = h.cut;
  steps_are = h.steps_are;
  one_step = h.one_step;
  transcript_is = h.transcript_is;
  legal = h.legal;
  goes_on = h.goes_on;
  in_one = h.in_one;
  breaks = b h.whole (h.cut ++ tail) h.breaks;
}

-- a run by how its steps came to their end, where its last line is put in this way
ran_ends : (bytes : List ℕ) (how : Ending) (answer : Result (Unit {0}) Failed) (left : Option (List ℕ)) (disks : Disks)
    (Before Written : List Entry → Type 0) (Broken Breaks : List Entry → List Entry → Type 0)
    (source_failed disk_failed : Type 0) → IsCaused how source_failed disk_failed
    → LastLine Before Written Breaks (listed (last_entry how)) answer
    → ((xs ys : List Entry) → last_entry how ≡ None → Broken xs ys → Breaks xs ys)
    → ((failed : Failed) → answer ≡ Err failed → last_entry how ≡ None → ⊥)
    → Played (IsReliable disks.trusted) bytes how left Before Broken (OverCut disks)
    → Ran bytes (status_by answer (status_of how)) left Written Breaks disks source_failed disk_failed
ran_ends bytes ending.Done answer left disks Before Written Broken Breaks source_failed disk_failed caused line broke
    fails p =
    ran_last bytes ending.Done left disks Before Written Broken Breaks source_failed disk_failed caused p answer status.Done
    [] refl tt (λ trusted tells. tells) line p.stops.2
    (p.stops.0, p.stops.1, refl, p.beside.over.0)
    (λ trusted some. p.beside.over.1 trusted)
ran_ends bytes (ending.Refused number why) answer left disks Before Written Broken Breaks source_failed disk_failed caused line broke
    fails p =
    ran_last bytes (ending.Refused number why) left disks Before Written Broken Breaks source_failed disk_failed caused p answer status.ScriptRefused
    (entry.Line number why ∷ []) refl tt (λ trusted tells. tells) line p.stops.2
    (record { number = number; why = why }, p.stops.0, p.stops.1, refl, p.beside.over.0)
    (λ trusted some. p.beside.over.1 trusted)
ran_ends bytes ending.Unread answer left disks Before Written Broken Breaks source_failed disk_failed caused line broke
    fails p =
    ran_last bytes ending.Unread left disks Before Written Broken Breaks source_failed disk_failed caused p answer status.ReadFault
    (entry.ReadFault ∷ []) refl tt (λ trusted tells. tells) line p.stops.1
    (p.stops.0, refl, p.beside.over.0)
    (λ trusted some. p.beside.over.1 trusted)
ran_ends bytes ending.Unwritten (Ok done) left disks Before Written Broken Breaks source_failed disk_failed caused line broke
    fails p =
    ran_by bytes ending.Unwritten status.WriteFault [] left disks Before Written Broken Breaks source_failed disk_failed
    refl caused (λ trusted tells. tells) p (
      inl (refl, p.beside.over.0),
      breaks_by (IsReliable disks.trusted) (script bytes).setup p.played p.transcript [] Broken Breaks
          (λ xs ys b. broke xs ys refl b) p.stops,
    ) (λ trusted some. p.beside.over.1 trusted)
ran_ends bytes ending.Unwritten (Err failed) left disks Before Written Broken Breaks source_failed disk_failed caused line broke
    fails p =
    absurd (fails failed refl refl)
ran_ends bytes ending.NoMemory (Ok done) left disks Before Written Broken Breaks source_failed disk_failed caused line broke
    fails p =
    ran_by bytes ending.NoMemory status.OutOfMemory [] left disks Before Written Broken Breaks source_failed disk_failed
    refl caused (λ trusted tells. tells) p (p.stops.0, refl, line [] p.stops.1)
    (λ trusted some. p.beside.over trusted)
ran_ends bytes ending.NoMemory (Err failed) left disks Before Written Broken Breaks source_failed disk_failed caused line broke
    fails p =
    absurd (fails failed refl refl)
ran_ends bytes (ending.OtherSize len) answer left disks Before Written Broken Breaks source_failed disk_failed caused line broke
    fails p =
    ran_last bytes (ending.OtherSize len) left disks Before Written Broken Breaks source_failed disk_failed caused p answer status.DiskSize
    (entry.DiskSize len ∷ []) refl tt (λ trusted tells. tells) line p.stops
    (p.beside.over.0, ap (λ n. entry.DiskSize n ∷ []) p.beside.over.2, p.beside.over.1)
    (λ trusted some. absurd (some p.beside.over.1.0))
ran_ends bytes (ending.Uncreated (create_no.Small len)) answer left disks Before Written Broken Breaks source_failed disk_failed caused line broke
    fails p =
    absurd (omega (arith, p.beside.over.0, p.beside.over.2.1))
ran_ends bytes (ending.Uncreated create_no.Disk) answer left disks Before Written Broken Breaks source_failed disk_failed caused line broke
    fails p =
    ran_last bytes (ending.Uncreated create_no.Disk) left disks Before Written Broken Breaks source_failed disk_failed caused p answer status.DiskFault
    (entry.DiskFault ∷ []) refl tt (λ trusted tells. tells) line p.stops
    (p.beside.over.0, refl, inl p.beside.over.1)
    (λ trusted some. absurd (some p.beside.over.1.0))
ran_ends bytes (ending.Uncreated (create_no.NotBlank at)) answer left disks Before Written Broken Breaks source_failed disk_failed caused line broke
    fails p =
    ran_last bytes (ending.Uncreated (create_no.NotBlank at)) left disks Before Written Broken Breaks source_failed disk_failed caused p answer status.NotBlank
    (entry.NotBlank at ∷ []) refl tt (λ trusted tells. tells) line p.stops
    (at, p.beside.over.0, refl, p.beside.over.1, p.beside.over.2.1)
    (λ trusted some. absurd (some p.beside.over.1.0))
ran_ends bytes (ending.Unplayed crash_no.Disk) answer left disks Before Written Broken Breaks source_failed disk_failed caused line broke
    fails p =
    ran_last bytes (ending.Unplayed crash_no.Disk) left disks Before Written Broken Breaks source_failed disk_failed caused p answer status.DiskFault
    (entry.DiskFault ∷ []) refl tt (λ trusted tells. tells) line p.stops
    (p.beside.over.0.sized, refl, inr (p.beside.over.0, p.beside.over.1))
    (λ trusted some. p.beside.over.2 trusted)
ran_ends bytes (ending.Unplayed crash_no.Alien) answer left disks Before Written Broken Breaks source_failed disk_failed caused line broke
    fails p =
    ran_lost bytes (ending.Unplayed crash_no.Alien) left disks Before Written Broken Breaks source_failed disk_failed caused p answer
    crash_no.Alien (entry.JournalAlien ∷ []) refl (λ P is. is) line p.stops p.beside.over
ran_ends bytes (ending.Unplayed (crash_no.BadRecord index)) answer left disks Before Written Broken Breaks source_failed disk_failed caused line broke
    fails p =
    ran_lost bytes (ending.Unplayed (crash_no.BadRecord index)) left disks Before Written Broken Breaks source_failed disk_failed caused p answer
    (crash_no.BadRecord index) (entry.JournalBad index ∷ []) refl (λ P is. is) line p.stops p.beside.over
ran_ends bytes (ending.Unplayed (crash_no.Lost found put)) answer left disks Before Written Broken Breaks source_failed disk_failed caused line broke
    fails p =
    ran_lost bytes (ending.Unplayed (crash_no.Lost found put)) left disks Before Written Broken Breaks source_failed disk_failed caused p answer
    (crash_no.Lost found put) (entry.JournalLost found put ∷ []) refl (λ P is. is) line p.stops p.beside.over

-- what was written before, and then the last line
module _ {K : Type 0} (written : K → Option (List ℕ)) (puts : K → List ℕ → Result (Unit {0}) Failed → K → Type 0) where
  pub last_line : (a b c : K) (tail : List Entry) (answer : Result (Unit {0}) Failed)
      → Writes written puts b tail answer c
      → LastLine (Wrote written puts a b) (Wrote written puts a c) (Broke written puts a c) tail answer
  last_line a b c tail (Ok done) h = λ xs before. writes_then written puts a b c xs tail (Ok done) before h
  last_line a b c tail (Err failed) h = λ xs before. (b, failed, before, h)

  -- with no last line nothing more was put
  pub no_line : (b c : K) (last : Option Entry) (answer : Result (Unit {0}) Failed) → last ≡ None
      → Writes written puts b (listed last) answer c → (answer ≡ Ok tt) × (c ≡ b)
  no_line b c None answer is h = h.put
  no_line b c (Some e) answer is h = cc is

  pub ran_written : (a b c : K) (bytes : List ℕ) (how : Ending) (s : Status) (answer : Result (Unit {0}) Failed)
      (left : Option (List ℕ)) (disks : Disks) (source_failed disk_failed : Type 0)
      → IsCaused how source_failed disk_failed → Writes written puts b (listed (last_entry how)) answer c
      → s ≡ status_by answer (status_of how)
      → Played (IsReliable disks.trusted) bytes how left (Wrote written puts a b) (Broke written puts a b) (OverCut disks)
      → Ran bytes s left (Wrote written puts a c) (Broke written puts a c) disks source_failed disk_failed
  ran_written a b c bytes how s answer left disks source_failed disk_failed caused h is p =
      subst (λ s. Ran bytes s left (Wrote written puts a c) (Broke written puts a c) disks source_failed disk_failed)
      (sym is)
      (ran_ends bytes how answer left disks (Wrote written puts a b) (Wrote written puts a c) (Broke written puts a b)
      (Broke written puts a c) source_failed disk_failed caused (last_line a b c (listed (last_entry how)) answer h)
      (λ xs ys none broke. subst (λ k. Broke written puts a k xs ys)
      (sym (no_line b c (last_entry how) answer none h).1) broke)
      (λ failed err none. cc (err, (no_line b c (last_entry how) answer none h).0)) p)

-- what is still to come is what is reported
all_told : (left : Option (List ℕ)) → AreTold left (to_come left)
all_told None = tt
all_told (Some bytes) = refl

-- a run that had no memory for its buffers
pub no_memory : (left : Option (List ℕ)) (Written : List Entry → Type 0) (Breaks : List Entry → List Entry → Type 0)
    (disks : Disks) (source_failed disk_failed : Type 0) → disks.cuts_after ≡ disks.cuts → Written []
    → OfBytes left (λ bytes. Ran bytes status.OutOfMemory left Written Breaks disks source_failed disk_failed)
no_memory left Written Breaks disks source_failed disk_failed uncut wrote =
    let bytes = to_come left in
    let legal : LegalAtDesk most_records (script bytes).setup [] [] = (clear_desk (script bytes).setup, (refl, refl)) in (
      bytes,
      all_told left,
      record {
        taken = [];
        played = [];
        unplayed = (script bytes).steps;
        transcript = [];
        tail = [];
        took = refl;
        steps_are = refl;
        legal = λ sure. legal;
        money = λ sure. desk_right bytes [] (script bytes).steps [] refl legal;
        change = λ sure honest. desk_changes bytes [] (script bytes).steps [] refl legal honest;
        early = early_right (script bytes).setup [] [] (clear_desk (script bytes).setup)
            (λ first later told fronts legal. desk_rights bytes first (later ++ (script bytes).steps) told
            (ap (λ xs. xs ++ (script bytes).steps) fronts ∙ append_assoc first later (script bytes).steps) legal)
            (early_none most_records (script bytes).setup);
        ends = (refl, refl, wrote);
        book = λ trusted some. absurd (some refl);
        keeps = λ trusted tells. tells;
        source_cause = λ tells. cc tells;
        disk_cause = λ tells. cc tells;
        survived = no_step;
        cut = rose_just 0 disks.cuts disks.cuts_after uncut;
        just = λ next. uncut;
      },
    )

completes_none : (refused : Option Refusal) → refused ≡ None → Completes refused status.Done
completes_none None e = inl refl
completes_none (Some line) e = cc

completes_some : (refused : Option Refusal) (line : Refusal) → refused ≡ Some line
    → Completes refused status.ScriptRefused
completes_some None line e = cc
completes_some (Some other) line e = inl refl

completes_memory : (refused : Option Refusal) → Completes refused status.OutOfMemory
completes_memory None = inr refl
completes_memory (Some line) = inr refl

-- with no memory a run is complete, whatever is asked of it
pub memory_completes : (left seen : Option (List ℕ)) (First Second Third : List ℕ → List ℕ → Type 0)
    (read write failed : Type 0) → OfBytes left (λ bytes. IfSome seen (λ image. First bytes image → Second bytes image
    → Third bytes image → read → write → failed → Completes (script bytes).refused status.OutOfMemory))
memory_completes left None First Second Third read write failed = (to_come left, all_told left, tt)
memory_completes left (Some image) First Second Third read write failed = (
  to_come left,
  all_told left,
  λ first second third r w d. completes_memory (script (to_come left)).refused,
)

-- a blank disk has no byte that isn't 0
pub blank_first : (image : List ℕ) (at : ℕ) → IsBlank image → IsFirstByteFrom 0 image at → ⊥
blank_first image at blank first = first.not_zero (blank at first.behind first.is_there)

-- where no step is a power cut, none is the next
pub none_next : (played unplayed : List Step) → losses_in (played ++ unplayed) ≡ 0 → First IsCrash unplayed → ⊥
none_next [] [] none next = next
none_next [] (step.Crash at choice ∷ steps) none next = omega (arith, none)
none_next [] (s ∷ steps) none next = next
none_next (s ∷ played) unplayed none next = none_next played unplayed (omega (arith, none)) next

-- what a last line shows
pub tells_loss : (P : CrashNo → Type 0) (tail : List Entry) → TellsOf P tail → TellsLoss tail
tells_loss P (entry.JournalAlien ∷ []) tells = tt
tells_loss P (entry.JournalBad index ∷ []) tells = tt
tells_loss P (entry.JournalLost found put ∷ []) tells = tt
tells_loss P tail tells = absurd tells

told_so : (P : CrashNo → Type 0) (Q : Type 0) (tail : List Entry) → ((why : CrashNo) → P why → Q) → TellsOf P tail → Q
told_so P Q (entry.JournalAlien ∷ []) so tells = so crash_no.Alien tells
told_so P Q (entry.JournalBad index ∷ []) so tells = so (crash_no.BadRecord index) tells
told_so P Q (entry.JournalLost found put ∷ []) so tells = so (crash_no.Lost found put) tells
told_so P Q tail so tells = absurd tells

-- a step after which no host starts again is a power cut
module _ (sure : Type 0) (Cut : ℕ → (ℕ → Option (List ℕ) → Type 0) → Type 0) (setup : Setup) (past : List Entry)
    (seen : Option (List ℕ)) where
  is_crash : (why : CrashNo) (s : Step) → LosesAt sure Cut setup past seen why s → IsCrash s
  is_crash why (step.Crash at choice) loses = tt
  is_crash why s loses = absurd loses

  first_crash : (why : CrashNo) (steps : List Step) → First (LosesAt sure Cut setup past seen why) steps
      → First IsCrash steps
  first_crash why [] first = first
  first_crash why (s ∷ steps) first = is_crash why s first

  pub lost_next : (unplayed : List Step) (tail : List Entry)
      → TellsOf (λ why. First (LosesAt sure Cut setup past seen why) unplayed) tail → First IsCrash unplayed
  lost_next unplayed tail tells =
      told_so (λ why. First (LosesAt sure Cut setup past seen why) unplayed) (First IsCrash unplayed) tail
      (λ why first. first_crash why unplayed first) tells

-- with no fault on a blank disk a run's status is as the script says, where the disk is trusted or no step is a loss of
-- power
pub ran_completes : (bytes : List ℕ) (s : Status) (left : Option (List ℕ)) (Written : List Entry → Type 0)
    (Breaks : List Entry → List Entry → Type 0) (disks : Disks) (image : List ℕ) (source_failed disk_failed : Type 0)
    → disks.seen ≡ Some image → disks.size ≡ JOURNAL_BYTES → IsBlank image
    → disks.trusted ⊎ (losses_in (script bytes).steps ≡ 0) → (s ≡ status.ReadFault → ⊥)
    → (s ≡ status.WriteFault → ⊥) → (s ≡ status.DiskFault → ⊥)
    → Ran bytes s left Written Breaks disks source_failed disk_failed → Completes (script bytes).refused s
ran_completes bytes status.Done left Written Breaks disks image source_failed disk_failed told sized blank kept r w d h =
    completes_none (script bytes).refused h.ends.0.1
ran_completes bytes status.ScriptRefused left Written Breaks disks image source_failed disk_failed told sized blank kept r w d h =
    completes_some (script bytes).refused h.ends.0.0 h.ends.0.2
ran_completes bytes status.WordsRefused left Written Breaks disks image source_failed disk_failed told sized blank kept r w d h =
    absurd h.ends.0
ran_completes bytes status.ReadFault left Written Breaks disks image source_failed disk_failed told sized blank kept r w d h = absurd (r refl)
ran_completes bytes status.WriteFault left Written Breaks disks image source_failed disk_failed told sized blank kept r w d h = absurd (w refl)
ran_completes bytes status.DiskFault left Written Breaks disks image source_failed disk_failed told sized blank kept r w d h = absurd (d refl)
ran_completes bytes status.NotBlank left Written Breaks disks image source_failed disk_failed told sized blank kept r w d h =
    absurd (blank_first image h.ends.0.0 blank (h.ends.0.4 image told))
ran_completes bytes status.DiskSize left Written Breaks disks image source_failed disk_failed told sized blank kept r w d h =
    absurd (h.ends.0.0 sized)
ran_completes bytes status.OutOfMemory left Written Breaks disks image source_failed disk_failed told sized blank kept r w d h =
    completes_memory (script bytes).refused
ran_completes bytes status.NotUpgraded left Written Breaks disks image source_failed disk_failed told sized blank kept r w d h =
    absurd h.ends.0
ran_completes bytes status.JournalLost left Written Breaks disks image source_failed disk_failed told sized blank (inl trusted) r w d h =
    absurd (h.keeps trusted (tells_loss (EndsLost disks (script bytes).setup (onto [] h.transcript) h.unplayed) h.tail
    h.ends.0.0))
ran_completes bytes status.JournalLost left Written Breaks disks image source_failed disk_failed told sized blank (inr none) r w d h =
    absurd (none_next h.played h.unplayed (ap losses_in (sym h.steps_are) ∙ none)
    (lost_next (IsReliable disks.trusted (onto [] h.transcript)) disks.cut_at (script bytes).setup (onto [] h.transcript) disks.seen_after
    h.unplayed h.tail h.ends.0.0))

-- a run ends by no status of an upgrade
pub ran_other : (bytes : List ℕ) (s : Status) (left : Option (List ℕ)) (Written : List Entry → Type 0)
    (Breaks : List Entry → List Entry → Type 0) (disks : Disks) (source_failed disk_failed : Type 0)
    → Ran bytes s left Written Breaks disks source_failed disk_failed → s ≡ status.NotUpgraded → ⊥
ran_other bytes s left Written Breaks disks source_failed disk_failed h is =
    (subst (λ x. Ran bytes x left Written Breaks disks source_failed disk_failed) is h).ends.0

-- an honest disk that shows its bytes is trusted
pub kept_by : (honest trusted none : Type 0) → (honest → trusted) → honest ⊎ none → trusted ⊎ none
kept_by honest trusted none by (inl is) = inl (by is)
kept_by honest trusted none by (inr is) = inr is

-- with what is known of the disk, and a cause for each fault
pub told_completes : (bytes : List ℕ) (s : Status) (left : Option (List ℕ)) (Written : List Entry → Type 0)
    (Breaks : List Entry → List Entry → Type 0) (disks : Disks) (Read Write Disk Honest : Type 0)
    (seen : Option (List ℕ)) → disks.seen ≡ seen → (Honest → is_some seen ≡ true → disks.trusted)
    → (s ≡ status.ReadFault → Read) → (s ≡ status.WriteFault → Write) → (s ≡ status.DiskFault → Disk)
    → Ran bytes s left Written Breaks disks Read Disk
    → IfSome seen (λ image. disks.size ≡ JOURNAL_BYTES → IsBlank image
    → Honest ⊎ (losses_in (script bytes).steps ≡ 0) → (Read → ⊥) → (Write → ⊥) → (Disk → ⊥)
    → Completes (script bytes).refused s)
told_completes bytes s left Written Breaks disks Read Write Disk Honest None told trusts read write disk ran = tt
told_completes bytes s left Written Breaks disks Read Write Disk Honest (Some image) told trusts read write disk ran =
    λ sized blank kept r w d. ran_completes bytes s left Written Breaks disks image Read Disk told sized blank
    (kept_by Honest disks.trusted (losses_in (script bytes).steps ≡ 0) (λ honest. trusts honest refl) kept)
    (λ is. r (read is)) (λ is. w (write is)) (λ is. d (disk is)) ran
