-- What a load of the bench leaves: what it played and wrote, and what is on its disk, by its
-- status.
use Rattle.std.specs.Prelude.{◌≡◌, ◌≢◌, ◌⊎◌, ℕ, List, [], ◌∷◌, ◌++◌, Some}
use Rattle.cct_model.specs.lines.command.Step.{Step}
use Rattle.cct_model.specs.lines.entry.Entry.{Entry}
use Rattle.cct_model.specs.lines.entry.Entry.TheVariants as entry
use Rattle.cct_model.specs.lines.entry.Totals.{Totals}
use Rattle.cct_model.specs.AtDesk.{LegalAtDesk}
use Rattle.cct_model.specs.Change.{Desk}
use Rattle.cct_model.specs.Money.{totals}
use Rattle.cct_model.specs.Transcript.{onto}
use Rattle.cct_journal.specs.Image.{IsFirstByteFrom}
use Rattle.cct_world.specs.Early.{LegalBeforeLoss}
use Rattle.cct_world.specs.Restarts.{Survived}
use Rattle.cct_world.specs.Step.{RoseBy, count_after, crashes}
use Rattle.cct_world.specs.Relying.{First, IsCrash, MayFail, IsReliable}
use Rattle.cct_gen.specs.Load.{load_setup, load_steps}
use Rattle.cct_bench_load.specs.Sums.{sums_of}
use Rattle.cct_bench_load.specs.declared.load.LoadEnd.{LoadEnd}
use Rattle.cct_bench_load.specs.declared.load.LoadEnd.TheVariants as load_end
use Rattle.cct_bench.specs.declared.outcome.Status.{Status}
use Rattle.cct_bench.specs.declared.outcome.Status.TheVariants as status
use Rattle.cct_bench.specs.declared.ending.Ending.{Ending}
use Rattle.cct_bench.specs.declared.ending.Ending.TheVariants as ending
use Rattle.cct_bench.specs.declared.play.TheConstants.{JOURNAL_BYTES}
use Rattle.cct_bench.specs.Disks.{Disks, IsReady, most_records}
use Rattle.cct_laws.specs.Right.{IsRight}
use Rattle.cct_bench.specs.Money.{RightBeforeLoss}
use Rattle.cct_bench.specs.Run.{EndsLost, RecordsLeftByLine, TellsLoss, TellsOf, last_entry, listed}
use Rattle.cct_bench.specs.Run.{status_of}

-- of a load over a disk: the steps that were played and those that weren't, and the past of those
-- played
module _ (disks : Disks) (seed rounds : ℕ) (played unplayed : List Step) (past : List Entry) where
  -- These are all lines of a load whose steps were all played: its first, the sums over its steps
  -- and its past, and what the operator has, which is so where the past may be relied on.
  abbrev pub TellsAll : List Entry → Type 0
  TellsAll told =
      (money : Totals) × (IsReliable disks.trusted past → money ≡ totals load_setup past)
      × (told ≡ entry.Load seed rounds ∷ (sums_of played past ++ entry.Balance money ∷ []))

  -- No step was played, and the first line alone was to be written.
  abbrev pub IsFirst : List Entry → Type 0
  IsFirst told =
      (told ≡ entry.Load seed rounds ∷ []) × (played ≡ []) × IsReady disks.size disks.seen

  -- What is reported of a load by its own lines and by a last line, by its status, and what had
  -- been played then. With no last line all steps were played, and all is reported. A fault of the
  -- disk comes before the first line, in a `next` that was about to put a record, or in a power
  -- cut; a disk that isn't blank is reported by its first byte that isn't 0, and one of another
  -- size by that, before the first line. Another journal than was there comes in a power cut alone,
  -- and is reported as it then is on the disk that comes back. Where a step wasn't played, none of
  -- the load's own lines but the first is reported.
  abbrev pub LoadCloses : Status → List Entry → List Entry → Type 0
  LoadCloses status.Done told tail =
      (unplayed ≡ []) × TellsAll told × (tail ≡ []) × IsReady disks.size disks.seen
  LoadCloses status.DiskFault told tail =
      (disks.size ≡ JOURNAL_BYTES) × (tail ≡ entry.DiskFault ∷ [])
      × (((told ≡ []) × (played ≡ []))
      ⊎ ((told ≡ entry.Load seed rounds ∷ []) × IsReady disks.size disks.seen
      × First (MayFail (IsReliable disks.trusted past) load_setup past) unplayed))
  LoadCloses status.NotBlank told tail =
      (at : ℕ) × (disks.size ≡ JOURNAL_BYTES) × (told ≡ []) × (played ≡ [])
      × (tail ≡ entry.NotBlank at ∷ [])
      × ((image : List ℕ) → disks.seen ≡ Some image → IsFirstByteFrom 0 image at)
  LoadCloses status.DiskSize told tail =
      (disks.size ≢ JOURNAL_BYTES) × (told ≡ []) × (played ≡ [])
      × (tail ≡ entry.DiskSize disks.size ∷ [])
  LoadCloses status.JournalLost told tail =
      TellsOf (EndsLost disks load_setup past unplayed) tail × (told ≡ entry.Load seed rounds ∷ [])
      × IsReady disks.size disks.seen
  LoadCloses s told tail = ⊥

  -- What is written, by the status: the lines of the load and the last line; or those up to a put
  -- that failed, that of the first line, before any step was played, or one of the lines that
  -- another status gives; and nothing where there was no memory.
  abbrev pub LoadEnds : Status → List Entry → List Entry → (List Entry → Type 0)
      → (List Entry → List Entry → Type 0) → Type 0
  LoadEnds status.WriteFault told tail Written Breaks =
      (whole : List Entry) × (cut : List Entry) × (told ++ tail ≡ whole ++ cut) × Breaks whole cut
      × ((IsFirst told × (tail ≡ [])) ⊎ ((s : Status) × LoadCloses s told tail))
  LoadEnds status.OutOfMemory told tail Written Breaks =
      (played ≡ []) × (told ≡ []) × (tail ≡ []) × Written []
  LoadEnds s told tail Written Breaks = LoadCloses s told tail × Written (told ++ tail)

  -- What is written before the last line is put, by how the load came to its end.
  abbrev pub LoadStops : Ending → List Entry → (List Entry → Type 0) →
      (List Entry → List Entry → Type 0) → Type 0
  LoadStops ending.Unwritten told Written Breaks =
      (whole : List Entry) × (cut : List Entry) × (told ≡ whole ++ cut) × Breaks whole cut
      × (IsFirst told ⊎ LoadCloses status.Done told [])
  LoadStops ending.NoMemory told Written Breaks = (played ≡ []) × (told ≡ []) × Written []
  LoadStops how told Written Breaks =
      LoadCloses (status_of how) told (listed (last_entry how)) × Written told

-- A load of so many rounds that a seed gives: the steps that it played and those that it didn't,
-- and the transcript of those played; its own lines, none where it ended before the first, and its
-- last line; what it wrote, where `Written` holds of entries that were written whole, and `Breaks`
-- where a put failed in the second list; and what it left on its disk, once its first line was to
-- be written. The rest is as of a run.
pub record Loaded (seed rounds : ℕ) (s : Status) (Written : List Entry → Type 0)
    (Breaks : List Entry → List Entry → Type 0) (disks : Disks) (disk_failed : Type 0) : Type 0
  where
    pub played : List Step
    pub unplayed : List Step
    pub transcript : List Entry
    pub told : List Entry
    pub tail : List Entry
    -- The steps are the lines that the definitions draw from the two numbers.
    pub steps_are : load_steps seed rounds ≡ played ++ unplayed
    pub legal : IsReliable disks.trusted (onto [] transcript) →
        LegalAtDesk most_records load_setup played transcript
    pub money : IsReliable disks.trusted (onto [] transcript) → IsRight load_setup transcript
    pub early : RightBeforeLoss load_setup played transcript
    -- The first line before the first step, and after the last one the sums and what the operator
    -- has; no line of a step.
    pub ends : LoadEnds disks seed rounds played unplayed (onto [] transcript) s told tail Written
        Breaks
    pub book : disks.trusted → told ≢ [] → RecordsLeftByLine disks load_setup unplayed
        (onto [] transcript) tail
    pub keeps : disks.trusted → TellsLoss tail → ⊥
    pub disk_cause : tail ≡ entry.DiskFault ∷ [] → disk_failed
    pub survived : Survived (IsReliable disks.trusted) disks.cut_at load_setup played
        (onto [] transcript)
    pub cut : RoseBy (crashes (onto [] transcript)) disks.cuts disks.cuts_after
    pub just : (First IsCrash unplayed → ⊥) → disks.cuts_after
        ≡ count_after (crashes (onto [] transcript)) disks.cuts

-- A load came to this end, before its last line is put: what is reported of a load that ended, but
-- for the laws.
pub record LoadPlayed (seed rounds : ℕ) (how : Ending) (Written : List Entry → Type 0)
    (Breaks : List Entry → List Entry → Type 0) (disks : Disks) : Type 0 where
  pub played : List Step
  pub unplayed : List Step
  pub transcript : List Entry
  pub told : List Entry
  pub steps_are : load_steps seed rounds ≡ played ++ unplayed
  pub legal : IsReliable disks.trusted (onto [] transcript) →
      LegalAtDesk most_records load_setup played transcript
  pub early : (now : Desk) × LegalBeforeLoss most_records load_setup played transcript now
  pub stops : LoadStops disks seed rounds played unplayed (onto [] transcript) how told Written
      Breaks
  pub book : disks.trusted → told ≢ []
      → RecordsLeftByLine disks load_setup unplayed (onto [] transcript) (listed (last_entry how))
  pub keeps : disks.trusted → TellsLoss (listed (last_entry how)) → ⊥
  pub survived : Survived (IsReliable disks.trusted) disks.cut_at load_setup played
      (onto [] transcript)
  pub cut : RoseBy (crashes (onto [] transcript)) disks.cuts disks.cuts_after
  pub just : (First IsCrash unplayed → ⊥) → disks.cuts_after
      ≡ count_after (crashes (onto [] transcript)) disks.cuts

-- How a load ends, by how the playing of it did.
abbrev pub load_ending : LoadEnd → Ending
load_ending load_end.Done = ending.Done
load_ending load_end.Unwritten = ending.Unwritten
load_ending (load_end.Unplayed why) = ending.Unplayed why
