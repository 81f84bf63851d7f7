-- What a load leaves, by how its steps came to their end, and its last line.
use Rattle.std.proofs.Common.{◌≡◌, ◌⊎◌, ℕ, Bool, true, List, [], ◌∷◌, ◌++◌, Option, None, Some, Result, Ok, Err, All}
use Rattle.std.proofs.Common.{refl, sym, ap, subst, ◌∙◌, inl, inr, append_assoc, arith}
use Rattle.std.specs.Prelude.{IfSome, is_some}
use Rattle.std.proofs.lemmas.List.{append-nil}
use Rattle.std.proofs.lemmas.List.Elements.{All-cons, All-head, All-nil, All-tail}
use Rattle.cct_edge.specs.declared.fault.Failed.{Failed}
use Rattle.cct_model.specs.lines.command.Step.{Step}
use Rattle.cct_model.specs.lines.command.Step.TheVariants as step
use Rattle.cct_model.specs.lines.entry.Entry.{Entry}
use Rattle.cct_model.specs.AtDesk.{LegalAtDesk}
use Rattle.cct_model.specs.Change.{clear_desk}
use Rattle.cct_model.specs.Script.{IsInRange}
use Rattle.cct_model.specs.Transcript.{onto}
use Rattle.cct_laws.proofs.steps.AtTheDesk.{legal_at_desk}
use Rattle.cct_laws.proofs.text.Scripts.{legal_right}
use Rattle.cct_journal.specs.Image.{IsBlank}
use Rattle.cct_disk.specs.Disk.{GoesOn, Outlasts}
use Rattle.cct_disk.specs.declared.disk.Disk.{Ghosts}
use Rattle.cct_disk.specs.Disk.{IsTrusted}
use Rattle.cct_text.specs.Writing.{Broke, Writes, Wrote}
use Rattle.cct_journal.specs.declared.refusal.CreateNo.TheVariants as create_no
use Rattle.cct_host.specs.declared.refusal.CrashNo.{CrashNo}
use Rattle.cct_host.specs.declared.refusal.CrashNo.TheVariants as crash_no
use Rattle.cct_world.specs.declared.world.World.{World}
use Rattle.cct_world.specs.Restarts.{CutAt, LosesAt, no_step}
use Rattle.cct_world.specs.Step.{RoseBy, count_after, crashes}
use Rattle.cct_world.specs.Relying.{First, MayFail, IsReliable, losses_in}
use Rattle.cct_world.specs.World.{disk_of}
use Rattle.cct_world.proofs.Lasting.{lasts_on, lasts_then, trusted_on}
use Rattle.cct_world.proofs.Early.{early_none}
use Rattle.cct_world.proofs.Relying.{rose_just}
use Rattle.cct_world.proofs.Surviving.{loses_by, survived_by}
use Rattle.cct_gen.specs.Load.{load_setup, load_steps}
use Rattle.cct_gen.proofs.LoadSetup.{setup_sound}
use Rattle.cct_gen.proofs.Lines.{lines_in_range}
use Rattle.cct_bench_load.specs.declared.load.Load.{Load}
use Rattle.cct_bench_load.specs.declared.load.LoadEnd.{LoadEnd}
use Rattle.cct_bench_load.specs.declared.load.LoadEnd.TheVariants as load_end
use Rattle.cct_world.specs.Serving.{DiskServes}
use Rattle.cct_bench_load.specs.Played.{LosesJournal, PlaysLoad, Relies, first_line}
use Rattle.cct_bench_load.specs.Played as loads
use Rattle.cct_bench.specs.declared.outcome.Status.{Status}
use Rattle.cct_bench.specs.declared.outcome.Status.TheVariants as status
use Rattle.cct_bench.specs.declared.ending.Ending.{Ending}
use Rattle.cct_bench.specs.declared.ending.Ending.TheVariants as ending
use Rattle.cct_bench.specs.declared.play.TheConstants.{JOURNAL_BYTES}
use Rattle.cct_bench.specs.Disks.{Disks, IsReady, disks, most_records}
use Rattle.cct_bench.specs.Load.{LoadCloses, LoadEnds, LoadPlayed, LoadStops, Loaded, load_ending}
use Rattle.cct_bench.specs.Report.{IsOrMemory}
use Rattle.cct_bench.specs.Run.{EndsLost, IsUnopened, RecordsLeftByLine, TellsLoss, last_entry, listed, status_by, status_of}
use Rattle.cct_model.specs.Honest.{Honest}
use Rattle.cct_laws_change.specs.Change.{ChangeIsPaid}
use Rattle.cct_laws_change.proofs.Runs.{change_paid}
use Rattle.cct_laws.specs.Right.{IsRight}
use Rattle.cct_bench.proofs.Closing.{LastLine, blank_first, early_right, failed_tail, kept_by, last_line, lost_next, no_line, none_next, tells_loss}

-- ---- what the laws say of a load

-- the steps that were played are in range
all_front : (P : Step → Type 0) (xs ys : List Step) → All P (xs ++ ys) → All P xs
all_front P [] ys all = All-nil P
all_front P (x ∷ xs) ys all =
    All-cons P x xs (All-head P x (xs ++ ys) all) (all_front P xs ys (All-tail P x (xs ++ ys) all))

played_in_range : (seed rounds : ℕ) (played unplayed : List Step) → load_steps seed rounds ≡ played ++ unplayed
    → All IsInRange played
played_in_range seed rounds played unplayed steps_are =
    all_front IsInRange played unplayed (subst (All IsInRange) steps_are (lines_in_range seed _))

-- the money of steps of a load, and their sessions of change
load_rights : (seed rounds : ℕ) (played rest : List Step) (transcript : List Entry) → load_steps seed rounds ≡ played ++ rest
    → LegalAtDesk most_records load_setup played transcript
    → IsRight load_setup transcript × (Honest transcript → ChangeIsPaid most_records load_setup played transcript)
load_rights seed rounds played rest transcript fronts legal =
    let range = played_in_range seed rounds played rest fronts in (
      legal_right most_records load_setup played transcript setup_sound range
          (legal_at_desk most_records load_setup played transcript setup_sound range legal),
      change_paid most_records load_setup played transcript setup_sound range legal,
    )

-- a load by its status, from how it came to its end
loaded_by : (seed rounds : ℕ) (how : Ending) (s : Status) (tail : List Entry) (disks : Disks)
    (Before Written : List Entry → Type 0) (Broken Breaks : List Entry → List Entry → Type 0) (disk_failed : Type 0)
    → tail ≡ listed (last_entry how) → (status_of how ≡ status.DiskFault → disk_failed)
    → (p : LoadPlayed seed rounds how Before Broken disks)
    → LoadEnds disks seed rounds p.played p.unplayed (onto [] p.transcript) s p.told tail Written Breaks
    → Loaded seed rounds s Written Breaks disks disk_failed
loaded_by seed rounds how s tail disks Before Written Broken Breaks disk_failed is caused p ends = record {
  played = p.played;
  unplayed = p.unplayed;
  transcript = p.transcript;
  told = p.told;
  tail = tail;
  steps_are = p.steps_are;
  legal = p.legal;
  money = λ sure. (load_rights seed rounds p.played p.unplayed p.transcript p.steps_are (p.legal sure)).0;
  early = early_right load_setup p.played p.transcript p.early.0
      (λ first later told fronts legal. load_rights seed rounds first (later ++ p.unplayed) told
      (p.steps_are ∙ ap (λ xs. xs ++ p.unplayed) fronts ∙ append_assoc first later p.unplayed) legal) p.early.1;
  ends = ends;
  book = λ trusted some. subst (RecordsLeftByLine disks load_setup p.unplayed (onto [] p.transcript)) (sym is)
      (p.book trusted some);
  keeps = λ trusted tells. p.keeps trusted (subst TellsLoss is tells);
  disk_cause = λ tells. caused (failed_tail how (sym is ∙ tells));
  survived = p.survived;
  cut = p.cut;
  just = p.just;
}

-- ---- the last line

module _ (disks : Disks) (seed rounds : ℕ) (played unplayed : List Step) (past told : List Entry)
    (Before Written : List Entry → Type 0) (Broken Breaks : List Entry → List Entry → Type 0) where
  -- what a status with its own lines says, where all was written whole
  load_whole : (s : Status) (tail : List Entry) → LoadCloses disks seed rounds played unplayed past s told tail
      → Written (told ++ tail) → LoadEnds disks seed rounds played unplayed past s told tail Written Breaks
  load_whole status.WriteFault tail closes wrote = absurd closes
  load_whole status.OutOfMemory tail closes wrote = absurd closes
  load_whole s tail closes wrote = (closes, wrote)

  load_last : (s : Status) (tail : List Entry) (answer : Result (Unit {0}) Failed)
      → LastLine Before Written Breaks tail answer
      → LoadCloses disks seed rounds played unplayed past s told tail → Before told
      → LoadEnds disks seed rounds played unplayed past (status_by answer s) told tail Written Breaks
  load_last s tail (Ok done) line closes wrote = load_whole s tail closes (line told wrote)
  load_last s tail (Err failed) line closes wrote = (told, tail, refl, line told wrote, inr (s, closes))

  load_ends : (how : Ending) (answer : Result (Unit {0}) Failed)
      → LastLine Before Written Breaks (listed (last_entry how)) answer
      → ((xs ys : List Entry) → last_entry how ≡ None → Broken xs ys → Breaks xs ys)
      → ((failed : Failed) → answer ≡ Err failed → last_entry how ≡ None → ⊥)
      → LoadStops disks seed rounds played unplayed past how told Before Broken
      → LoadEnds disks seed rounds played unplayed past (status_by answer (status_of how)) told
      (listed (last_entry how)) Written Breaks
  load_ends ending.Unwritten (Ok done) line broke fails (whole, cut, is, breaks, inl first) =
      (whole, cut, append-nil told ∙ is, broke whole cut refl breaks, inl (first, refl))
  load_ends ending.Unwritten (Ok done) line broke fails (whole, cut, is, breaks, inr closes) =
      (whole, cut, append-nil told ∙ is, broke whole cut refl breaks, inr (status.Done, closes))
  load_ends ending.Unwritten (Err failed) line broke fails stops = absurd (fails failed refl refl)
  load_ends ending.NoMemory (Ok done) line broke fails stops = (stops.0, stops.1, refl, line [] stops.2)
  load_ends ending.NoMemory (Err failed) line broke fails stops = absurd (fails failed refl refl)
  load_ends how answer line broke fails stops =
      load_last (status_of how) (listed (last_entry how)) answer line stops.0 stops.1

-- what was written before, and then the last line
module _ {K : Type 0} (written : K → Option (List ℕ)) (puts : K → List ℕ → Result (Unit {0}) Failed → K → Type 0) where
  pub load_written : (a b c : K) (seed rounds : ℕ) (how : Ending) (s : Status) (answer : Result (Unit {0}) Failed)
      (disks : Disks) (disk_failed : Type 0) → (status_of how ≡ status.DiskFault → disk_failed)
      → Writes written puts b (listed (last_entry how)) answer c → s ≡ status_by answer (status_of how)
      → LoadPlayed seed rounds how (Wrote written puts a b) (Broke written puts a b) disks
      → Loaded seed rounds s (Wrote written puts a c) (Broke written puts a c) disks disk_failed
  load_written a b c seed rounds how s answer disks disk_failed caused h is p =
      let tail = listed (last_entry how) in
      subst (λ s. Loaded seed rounds s (Wrote written puts a c) (Broke written puts a c) disks disk_failed) (sym is)
      (loaded_by seed rounds how (status_by answer (status_of how)) tail disks (Wrote written puts a b)
      (Wrote written puts a c) (Broke written puts a b) (Broke written puts a c) disk_failed refl caused p
      (load_ends disks seed rounds p.played p.unplayed (onto [] p.transcript) p.told (Wrote written puts a b)
      (Wrote written puts a c) (Broke written puts a b) (Broke written puts a c) how answer
      (last_line written puts a b c tail answer h)
      (λ xs ys none broke. subst (λ k. Broke written puts a k xs ys)
      (sym (no_line written puts b c (last_entry how) answer none h).1) broke)
      (λ failed err none. cc (err, (no_line written puts b c (last_entry how) answer none h).0)) p.stops))

-- ---- before the first line

-- nothing was played, since there is no journal or no memory
module _ (seed rounds : ℕ) (Written : List Entry → Type 0) (Breaks : List Entry → List Entry → Type 0) (disks : Disks)
    (same : disks.cuts_after ≡ disks.cuts) where
  unbegun : (how : Ending) → (disks.trusted → TellsLoss (listed (last_entry how)) → ⊥)
      → LoadStops disks seed rounds [] (load_steps seed rounds) [] how [] Written Breaks
      → LoadPlayed seed rounds how Written Breaks disks
  unbegun how keeps stops = record {
    played = [];
    unplayed = load_steps seed rounds;
    transcript = [];
    told = [];
    steps_are = refl;
    legal = λ sure. (clear_desk load_setup, (refl, refl));
    early = (clear_desk load_setup, early_none most_records load_setup);
    stops = stops;
    book = λ trusted some. absurd (some refl);
    keeps = keeps;
    survived = no_step;
    cut = rose_just 0 disks.cuts disks.cuts_after same;
    just = λ next. same;
  }

  pub load_unopened : (how : Ending) → IsUnopened disks.size disks.seen how → Written []
      → LoadPlayed seed rounds how Written Breaks disks
  load_unopened (ending.OtherSize len) h wrote =
      unbegun (ending.OtherSize len) (λ trusted tells. tells)
      ((h.0, refl, refl, ap (λ n. listed (last_entry (ending.OtherSize n))) h.1), wrote)
  load_unopened (ending.Uncreated (create_no.Small len)) h wrote = absurd (omega (arith, h.0, h.1.1))
  load_unopened (ending.Uncreated create_no.Disk) h wrote =
      unbegun (ending.Uncreated create_no.Disk) (λ trusted tells. tells) ((h.0, refl, inl (refl, refl)), wrote)
  load_unopened (ending.Uncreated (create_no.NotBlank at)) h wrote =
      unbegun (ending.Uncreated (create_no.NotBlank at)) (λ trusted tells. tells)
      ((at, h.0, refl, refl, refl, h.1.1), wrote)
  load_unopened how h wrote = absurd h

  pub load_no_memory : Written [] → LoadPlayed seed rounds ending.NoMemory Written Breaks disks
  load_no_memory wrote = unbegun ending.NoMemory (λ trusted tells. tells) (refl, refl, wrote)

  -- with no memory to read the words
  pub load_at_once : (disk_failed : Type 0) → Written []
      → Loaded seed rounds status.OutOfMemory Written Breaks disks disk_failed
  load_at_once disk_failed wrote =
      let p = load_no_memory wrote in
      loaded_by seed rounds ending.NoMemory status.OutOfMemory [] disks Written Written Breaks Breaks disk_failed refl
      (λ is. cc is) p (p.stops.0, p.stops.1, refl, p.stops.2)

-- ---- over a machine

-- a first one of some steps is such in another way
first_by : (P Q : Step → Type 0) (steps : List Step) → ((s : Step) → P s → Q s) → First P steps → First Q steps
first_by P Q [] by first = first
first_by P Q (s ∷ steps) by first = by s first

none_first : (steps : List Step) → First (λ s. ⊥) steps → ⊥
none_first [] first = first
none_first (s ∷ steps) first = first

-- the disk may fail in a step where more may be relied on
fails_by : (sure sure1 : Type 0) (past : List Entry) → (sure1 → sure) → (s : Step) → MayFail sure load_setup past s
    → MayFail sure1 load_setup past s
fails_by sure sure1 past more (step.Next addr) fails = λ is. fails (more is)
fails_by sure sure1 past more (step.Crash at choice) fails = tt
fails_by sure sure1 past more s fails = absurd fails

module _ {D : Type 0} {g : Ghosts D} (given left : D) (world : World D g)
    (ready : IsReady (g.size given) (g.seen given)) (on : GoesOn g.size g.honest g.seen g.cuts given (disk_of world))
    (seed rounds : ℕ) (Written : List Entry → Type 0) (Breaks : List Entry → List Entry → Type 0) where
  abbrev ds : Disks
  ds = disks g.size g.honest g.seen g.may_leave g.cuts g.cut_to given left

  abbrev load : Load
  load = record { seed = seed; rounds = rounds }

  lasted : Outlasts g.size g.honest g.seen g.cuts given (disk_of world)
  lasted = lasts_on g.size g.honest g.seen g.cuts given (disk_of world) on

  now_trusted : IsTrusted g.honest g.seen given → IsTrusted g.honest g.seen (disk_of world)
  now_trusted = trusted_on g.size g.honest g.seen g.cuts given (disk_of world) lasted

  relies : (past : List Entry) → IsReliable (IsTrusted g.honest g.seen given) past → Relies world past
  relies past (inl trusted) = inl (now_trusted trusted)
  relies past (inr none) = inr none

  abbrev Cut : D → ℕ → (ℕ → Option (List ℕ) → Type 0) → Type 0
  Cut first = CutAt g.size g.honest g.seen g.cuts g.cut_to first left

  -- the disk of the world lasted from the one that was given
  cut_given : (times : ℕ) (P : ℕ → Option (List ℕ) → Type 0) → Cut (disk_of world) times P → Cut given times P
  cut_given times P cut = record {
    before = cut.before;
    choice = cut.choice;
    after = cut.after;
    lasted = lasts_then g.size g.honest g.seen g.cuts given (disk_of world) cut.before lasted cut.lasted;
    is_cut = cut.is_cut;
    lasts = cut.lasts;
    count = cut.count ∙ ap (count_after times) on.same_cuts;
    holds = cut.holds;
  }

  -- why no host starts again
  lost_by : (why : CrashNo) (unplayed : List Step) (past : List Entry)
      → ((s : Step) → loads.FailsAt world left why past s
      → LosesAt (Relies world past) (Cut (disk_of world)) load_setup past (g.seen left) why s)
      → First (loads.FailsAt world left why past) unplayed → EndsLost ds load_setup past unplayed why
  lost_by why unplayed past is first =
      let sure = IsReliable (IsTrusted g.honest g.seen given) past in
      first_by (loads.FailsAt world left why past)
      (LosesAt sure (Cut given) load_setup past (g.seen left) why) unplayed
      (λ s fails. loses_by (Relies world past) sure (Cut (disk_of world)) (Cut given) (relies past)
      cut_given load_setup past (g.seen left) why s (is s fails)) first

  -- what was reported, by how the playing of it ended
  told_by : (how : LoadEnd) (played unplayed : List Step) (past : List Entry)
      → loads.Ends world left load how played unplayed past Written Breaks
      → (told : List Entry)
      × LoadStops ds seed rounds played unplayed past (load_ending how) told Written Breaks
  told_by load_end.Done played unplayed past ends =
      let sums = ends.1 in (
        _,
        ((ends.0, (sums.0, λ sure. sums.1 (relies past sure), refl), refl, ready), sums.2),
      )
  told_by load_end.Unwritten played unplayed past (inl first) =
      (_, ([], first_line load ∷ [], refl, first.1, inl (refl, first.0, ready)))
  told_by load_end.Unwritten played unplayed past (inr last) =
      let sums = last.1 in (
        _,
        (
          first_line load ∷ [],
          _,
          refl,
          sums.2,
          inr (last.0, (sums.0, λ sure. sums.1 (relies past sure), refl), refl, ready),
        ),
      )
  told_by (load_end.Unplayed crash_no.Disk) played unplayed past ends = (
    _,
    (
      (
        ready.sized,
        refl,
        inr (
          refl,
          ready,
          first_by (MayFail (Relies world past) load_setup past)
              (MayFail (IsReliable (IsTrusted g.honest g.seen given) past) load_setup past) unplayed
              (fails_by (Relies world past) (IsReliable (IsTrusted g.honest g.seen given) past) past (relies past)) ends.0,
        ),
      ),
      ends.1,
    ),
  )
  told_by (load_end.Unplayed crash_no.Alien) played unplayed past ends =
      (_, ((lost_by crash_no.Alien unplayed past (λ s loses. loses) ends.0, refl, ready), ends.1))
  told_by (load_end.Unplayed (crash_no.BadRecord index)) played unplayed past ends =
      (_, ((lost_by (crash_no.BadRecord index) unplayed past (λ s loses. loses) ends.0, refl, ready), ends.1))
  told_by (load_end.Unplayed (crash_no.Lost found put)) played unplayed past ends =
      (_, ((lost_by (crash_no.Lost found put) unplayed past (λ s loses. loses) ends.0, refl, ready), ends.1))

  -- what the disk keeps
  book_by : (how : LoadEnd) (unplayed : List Step) (past : List Entry) → loads.RecordsLeft world left how unplayed past
      → RecordsLeftByLine ds load_setup unplayed past (listed (last_entry (load_ending how)))
  book_by load_end.Done unplayed past book = book
  book_by load_end.Unwritten unplayed past book = book
  book_by (load_end.Unplayed crash_no.Disk) unplayed past book = first_by _ _ unplayed (λ s leaves. leaves) book
  book_by (load_end.Unplayed crash_no.Alien) unplayed past book =
      absurd (none_first unplayed (first_by _ (λ s. ⊥) unplayed (λ s never. never) book))
  book_by (load_end.Unplayed (crash_no.BadRecord index)) unplayed past book =
      absurd (none_first unplayed (first_by _ (λ s. ⊥) unplayed (λ s never. never) book))
  book_by (load_end.Unplayed (crash_no.Lost found put)) unplayed past book =
      absurd (none_first unplayed (first_by _ (λ s. ⊥) unplayed (λ s never. never) book))

  -- and that another journal than was there never comes
  keeps_by : (how : LoadEnd) (unplayed : List Step) (past : List Entry) → loads.RecordsLeft world left how unplayed past
      → TellsLoss (listed (last_entry (load_ending how))) → ⊥
  keeps_by load_end.Done unplayed past book tells = tells
  keeps_by load_end.Unwritten unplayed past book tells = tells
  keeps_by (load_end.Unplayed crash_no.Disk) unplayed past book tells = tells
  keeps_by (load_end.Unplayed crash_no.Alien) unplayed past book tells =
      none_first unplayed (first_by _ (λ s. ⊥) unplayed (λ s never. never) book)
  keeps_by (load_end.Unplayed (crash_no.BadRecord index)) unplayed past book tells =
      none_first unplayed (first_by _ (λ s. ⊥) unplayed (λ s never. never) book)
  keeps_by (load_end.Unplayed (crash_no.Lost found put)) unplayed past book tells =
      none_first unplayed (first_by _ (λ s. ⊥) unplayed (λ s never. never) book)

  pub load_played : (how : LoadEnd) → PlaysLoad world load how left Written Breaks
      → LoadPlayed seed rounds (load_ending how) Written Breaks ds
  load_played how p =
      let past = onto [] p.transcript in
      let told = told_by how p.played p.unplayed past p.ends in
      record {
        played = p.played;
        unplayed = p.unplayed;
        transcript = p.transcript;
        told = told.0;
        steps_are = p.steps_are;
        legal = λ sure. p.legal (relies past sure);
        early = p.early;
        stops = told.1;
        book = λ trusted some. book_by how p.unplayed past (p.book (now_trusted trusted));
        keeps = λ trusted tells. keeps_by how p.unplayed past (p.book (now_trusted trusted)) tells;
        survived = survived_by (Relies world) (IsReliable (IsTrusted g.honest g.seen given)) (Cut (disk_of world)) (Cut given)
            relies cut_given load_setup p.played past p.survived;
        cut = subst (λ n. RoseBy (crashes past) n (g.cuts left)) on.same_cuts p.cut;
        just = λ next. p.just next ∙ ap (count_after (crashes past)) on.same_cuts;
      }

-- ---- with no fault

-- a load ends by no status of an upgrade
pub load_other : (seed rounds : ℕ) (s : Status) (Written : List Entry → Type 0) (Breaks : List Entry → List Entry → Type 0)
    (disks : Disks) (disk_failed : Type 0) → Loaded seed rounds s Written Breaks disks disk_failed → s ≡ status.NotUpgraded
    → ⊥
load_other seed rounds s Written Breaks disks disk_failed h is =
    (subst (λ x. Loaded seed rounds x Written Breaks disks disk_failed) is h).ends.0

load_done : (seed rounds : ℕ) (s : Status) (Written : List Entry → Type 0) (Breaks : List Entry → List Entry → Type 0)
    (disks : Disks) (image : List ℕ) (disk_failed : Type 0) → disks.seen ≡ Some image → disks.size ≡ JOURNAL_BYTES
    → IsBlank image → disks.trusted ⊎ (losses_in (load_steps seed rounds) ≡ 0) → (s ≡ status.WriteFault → ⊥)
    → (s ≡ status.DiskFault → ⊥) → Loaded seed rounds s Written Breaks disks disk_failed → IsOrMemory status.Done s
load_done seed rounds status.Done Written Breaks disks image disk_failed told sized blank kept w d h = inl refl
load_done seed rounds status.ScriptRefused Written Breaks disks image disk_failed told sized blank kept w d h = absurd h.ends.0
load_done seed rounds status.WordsRefused Written Breaks disks image disk_failed told sized blank kept w d h = absurd h.ends.0
load_done seed rounds status.ReadFault Written Breaks disks image disk_failed told sized blank kept w d h = absurd h.ends.0
load_done seed rounds status.WriteFault Written Breaks disks image disk_failed told sized blank kept w d h = absurd (w refl)
load_done seed rounds status.DiskFault Written Breaks disks image disk_failed told sized blank kept w d h = absurd (d refl)
load_done seed rounds status.NotBlank Written Breaks disks image disk_failed told sized blank kept w d h =
    absurd (blank_first image h.ends.0.0 blank (h.ends.0.5 image told))
load_done seed rounds status.DiskSize Written Breaks disks image disk_failed told sized blank kept w d h =
    absurd (h.ends.0.0 sized)
load_done seed rounds status.OutOfMemory Written Breaks disks image disk_failed told sized blank kept w d h = inr refl
load_done seed rounds status.NotUpgraded Written Breaks disks image disk_failed told sized blank kept w d h = absurd h.ends.0
load_done seed rounds status.JournalLost Written Breaks disks image disk_failed told sized blank (inl trusted) w d h =
    absurd (h.keeps trusted (tells_loss (EndsLost disks load_setup (onto [] h.transcript) h.unplayed) h.tail h.ends.0.0))
load_done seed rounds status.JournalLost Written Breaks disks image disk_failed told sized blank (inr none) w d h =
    absurd (none_next h.played h.unplayed (ap losses_in (sym h.steps_are) ∙ none)
    (lost_next (IsReliable disks.trusted (onto [] h.transcript)) disks.cut_at load_setup
    (onto [] h.transcript) disks.seen_after h.unplayed h.tail h.ends.0.0))

-- with what is known of the disk, and a cause for each fault
pub load_completes : (seed rounds : ℕ) (s : Status) (Written : List Entry → Type 0)
    (Breaks : List Entry → List Entry → Type 0) (disks : Disks) (Write Disk Honest : Type 0) (seen : Option (List ℕ))
    → disks.seen ≡ seen → (Honest → is_some seen ≡ true → disks.trusted) → (s ≡ status.WriteFault → Write)
    → (s ≡ status.DiskFault → Disk) → Loaded seed rounds s Written Breaks disks Disk
    → IfSome seen (λ image. disks.size ≡ JOURNAL_BYTES → IsBlank image
    → Honest ⊎ (losses_in (load_steps seed rounds) ≡ 0) → (Write → ⊥) → (Disk → ⊥) → IsOrMemory status.Done s)
load_completes seed rounds s Written Breaks disks Write Disk Honest None told trusts write disk h = tt
load_completes seed rounds s Written Breaks disks Write Disk Honest (Some image) told trusts write disk h =
    λ sized blank kept w d. load_done seed rounds s Written Breaks disks image Disk told sized blank
    (kept_by Honest disks.trusted (losses_in (load_steps seed rounds) ≡ 0) (λ honest. trusts honest refl) kept)
    (λ is. w (write is)) (λ is. d (disk is)) h

-- what a load that was played says of its disk, by its end

disk_status : (how : LoadEnd) → status_of (load_ending how) ≡ status.DiskFault → how ≡ load_end.Unplayed crash_no.Disk
disk_status load_end.Done is = absurd cc
disk_status load_end.Unwritten is = absurd cc
disk_status (load_end.Unplayed crash_no.Disk) is = refl
disk_status (load_end.Unplayed crash_no.Alien) is = absurd cc
disk_status (load_end.Unplayed (crash_no.BadRecord index)) is = absurd cc
disk_status (load_end.Unplayed (crash_no.Lost found put)) is = absurd cc

lost_status : (how : LoadEnd) → status_of (load_ending how) ≡ status.JournalLost → LosesJournal how
lost_status load_end.Done is = absurd cc
lost_status load_end.Unwritten is = absurd cc
lost_status (load_end.Unplayed crash_no.Disk) is = absurd cc
lost_status (load_end.Unplayed crash_no.Alien) is = (crash_no.Alien, λ same. cc same, refl)
lost_status (load_end.Unplayed (crash_no.BadRecord index)) is = (crash_no.BadRecord index, λ same. cc same, refl)
lost_status (load_end.Unplayed (crash_no.Lost found put)) is = (crash_no.Lost found put, λ same. cc same, refl)

pub load_serves : {D : Type 0} (size : D → ℕ) (honest : D → Bool) (seen : D → Option (List ℕ)) (cuts faults : D → ℕ)
    (given old new : D) (how : LoadEnd) (ended : Ending) → old ≡ given → ended ≡ load_ending how
    → DiskServes size honest seen cuts faults old new (how ≡ load_end.Unplayed crash_no.Disk) (LosesJournal how)
    → DiskServes size honest seen cuts faults given new (status_of ended ≡ status.DiskFault)
    (status_of ended ≡ status.JournalLost)
load_serves size honest seen cuts faults given old new how ended same is serves =
    subst
    (λ disk. DiskServes size honest seen cuts faults disk new (status_of ended ≡ status.DiskFault)
    (status_of ended ≡ status.JournalLost)) same
    (subst
    (λ e. DiskServes size honest seen cuts faults old new (status_of e ≡ status.DiskFault)
    (status_of e ≡ status.JournalLost)) (sym is)
    (record {
      outlasts = serves.outlasts;
      later = serves.later;
      rose = λ fault. serves.rose (disk_status how fault);
      lost = λ loss. serves.lost (lost_status how loss);
    }))
