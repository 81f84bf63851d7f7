-- What the playing of a load leaves: what was played and written, and what is on the disk, by how
-- it came to its end.
use Rattle.std.specs.Prelude.{◌≡◌, ◌≢◌, ◌⊎◌, ℕ, ◌<◌, List, [], ◌∷◌, ◌++◌, None, reverse, Option}
use Rattle.std.specs.Prelude.{Result, Ok, Err}
use Rattle.cct_edge.specs.declared.fault.Failed.{Failed}
use Rattle.cct_model.specs.lines.command.Step.{Step}
use Rattle.cct_model.specs.lines.entry.Entry.{Entry}
use Rattle.cct_model.specs.lines.entry.Entry.TheVariants as entry
use Rattle.cct_model.specs.lines.entry.Totals.{Totals}
use Rattle.cct_model.specs.AtDesk.{LeavesDesk, LegalAtDesk}
use Rattle.cct_model.specs.Change.{Desk}
use Rattle.cct_model.specs.Money.{totals}
use Rattle.cct_model.specs.Records.{records}
use Rattle.cct_model.specs.Transcript.{onto}
use Rattle.cct_disk.specs.declared.disk.Disk.{Ghosts}
use Rattle.cct_disk.specs.Disk.{IsTrusted}
use Rattle.cct_host.specs.OnDisk.{LeavesRecords}
use Rattle.cct_host.specs.declared.refusal.CrashNo.{CrashNo}
use Rattle.cct_host.specs.declared.refusal.CrashNo.TheVariants as crash_no
use Rattle.cct_world.specs.declared.world.World.{World}
use Rattle.cct_world.specs.Early.{LegalBeforeLoss}
use Rattle.cct_world.specs.Holds.{WorldHolds}
use Rattle.cct_world.specs.Restarts.{CutAt, LosesAt, Survived}
use Rattle.cct_world.specs.Step.{RoseBy, count_after, crashes}
use Rattle.cct_world.specs.Relying.{First, IsCrash, MayFail, IsReliable, due_to}
use Rattle.cct_world.specs.World.{capacity_in, disk_of}
use Rattle.cct_gen.specs.Load.{line_at, lines_before, load_setup, load_steps}
use Rattle.cct_bench_load.specs.declared.load.Load.{Load}
use Rattle.cct_bench_load.specs.declared.load.LoadEnd.{LoadEnd}
use Rattle.cct_bench_load.specs.declared.load.LoadEnd.TheVariants as load_end
use Rattle.cct_bench_load.specs.declared.sums.LoadSums.{LoadSums}
use Rattle.cct_bench_load.specs.Sums.{SumsUp, sums_of}

-- What is written before the first step.
abbrev pub first_line : Load → Entry
first_line load = entry.Load load.seed load.rounds

-- How a load ends whose steps were all played, by whether the lines after them were written.
abbrev pub end_of : Result (Unit {0}) Failed → LoadEnd
end_of (Ok done) = load_end.Done
end_of (Err failed) = load_end.Unwritten

-- A load ended since a power cut left another journal than was there.
abbrev pub LosesJournal : LoadEnd → Type 0
LosesJournal how = (why : CrashNo) × (why ≢ crash_no.Disk) × (how ≡ load_end.Unplayed why)

module _ {D : Type 0} {g : Ghosts D} (world : World D g) where
  -- The disk of the world is trusted.
  abbrev pub HasTrusted : Type 0
  HasTrusted = IsTrusted g.honest g.seen (disk_of world)

  -- A past may be relied on: the disk was trusted, or no power cut is reported.
  abbrev pub Relies : List Entry → Type 0
  Relies past = IsReliable HasTrusted past

  -- So many lines of a load were played on the world, from the first on: the entries of the
  -- transcript are those of the steps, and leave this desk, where its past may be relied on, and in
  -- any case up to the first power cut; and this holds of its past.
  pub record PlayedLines (seed n : ℕ) (now : Desk) (Holds : List Entry → Type 0) : Type 0 where
    pub transcript : List Entry
    pub legal : Relies (onto [] transcript)
        → LeavesDesk (capacity_in world) load_setup (lines_before seed n) transcript now
    pub early : LegalBeforeLoss (capacity_in world) load_setup (lines_before seed n) transcript now
    pub holds : Holds (onto [] transcript)

  -- What is so after a past, where so many lines of a load were played and the world became
  -- another: what holds of a world after a run; and the sums are those of the steps and of the
  -- past.
  pub record Became (next : World D g) (sums : LoadSums) (seed n : ℕ) (past : List Entry) : Type 0
    where
      pub so : WorldHolds (disk_of world) next (lines_before seed n) past
      pub counted : SumsUp sums (lines_before seed n) past

  -- Until the disk became this one its power was cut for this time, and this holds of the choice of
  -- the cut and of what a read gave right after it.
  abbrev pub CutFor : D → ℕ → (ℕ → Option (List ℕ) → Type 0) → Type 0
  CutFor left = CutAt g.size g.honest g.seen g.cuts g.cut_to (disk_of world) left

  -- After each power cut among these steps a host started again, until the disk became this one.
  abbrev pub SurvivedOn : D → List Step → List Entry → Type 0
  SurvivedOn left = Survived Relies (CutFor left) load_setup

  -- Why the step after a past wasn't played, where this disk is left: it failed in a `next` that
  -- was about to put a record, or in a power cut; or it isn't the one that it was, which comes in a
  -- power cut alone, and is reported.
  abbrev pub FailsAt : D → CrashNo → List Entry → Step → Type 0
  FailsAt left crash_no.Disk past s = MayFail (Relies past) load_setup past s
  FailsAt left why past s =
      LosesAt (Relies past) (CutFor left) load_setup past (g.seen left) why s

  -- What a power cut may leave on this disk, where the step after a past wasn't played: each image
  -- stands for the records of the past, or, where a record was due, for these or for these and that
  -- record. Any reason but that the disk failed never comes on a trusted disk.
  abbrev pub LeftAt : D → CrashNo → List Entry → Step → Type 0
  LeftAt left crash_no.Disk past s =
      LeavesRecords load_setup g.honest g.seen g.may_leave left (due_to load_setup past s)
      (reverse (records past))
  LeftAt left why past s = ⊥

  -- The step after a past wasn't played, for this reason, and this disk is left.
  pub record Stopped (left : D) (why : CrashNo) (s : Step) (played : List Step) (past : List Entry)
      : Type 0 where
    pub fails : FailsAt left why past s
    pub book : HasTrusted → LeftAt left why past s
    pub survived : SurvivedOn left played past
    pub cut : RoseBy (crashes past) (g.cuts (disk_of world)) (g.cuts left)
    pub just : (IsCrash s → ⊥) → g.cuts left ≡ count_after (crashes past) (g.cuts (disk_of world))

  -- One of so many lines of a load wasn't played, for this reason, and all lines before were; this
  -- disk is left.
  abbrev pub StoppedWithin : ℕ → ℕ → D → CrashNo → Type 0
  StoppedWithin seed lines left why =
      (n : ℕ) × (n < lines) × (now : Desk)
      × PlayedLines seed n now (Stopped left why (line_at seed n) (lines_before seed n))

  -- This holds of what is written after the steps: their sums, and what is reported that the
  -- operator has, which is so where the past may be relied on.
  abbrev pub Told : List Step → List Entry → (List Entry → Type 0) → Type 0
  Told played past Wrote =
      (told : Totals) × (Relies past → told ≡ totals load_setup past)
      × Wrote (sums_of played past ++ entry.Balance told ∷ [])

  -- What is written of a load, by how it ended: its first line, and what is after its steps, where
  -- all of them were played; where a put failed, a front of the first line, before any step was
  -- played, or that line and a front of what is after all steps; and the first line alone where a
  -- step wasn't played.
  abbrev pub Ends : D → Load → LoadEnd → List Step → List Step → List Entry → (List Entry → Type 0)
      → (List Entry → List Entry → Type 0) → Type 0
  Ends left load load_end.Done played unplayed past Written Breaks =
      (unplayed ≡ []) × Told played past (λ sums. Written (first_line load ∷ sums))
  Ends left load load_end.Unwritten played unplayed past Written Breaks =
      ((played ≡ []) × Breaks [] (first_line load ∷ []))
      ⊎ ((unplayed ≡ []) × Told played past (Breaks (first_line load ∷ [])))
  Ends left load (load_end.Unplayed why) played unplayed past Written Breaks =
      First (FailsAt left why past) unplayed × Written (first_line load ∷ [])

  -- What a power cut may leave on this disk, by how a load ended.
  abbrev pub RecordsLeft : D → LoadEnd → List Step → List Entry → Type 0
  RecordsLeft left (load_end.Unplayed why) unplayed past = First (LeftAt left why past) unplayed
  RecordsLeft left how unplayed past =
      LeavesRecords load_setup g.honest g.seen g.may_leave left None (reverse (records past))

  -- A load was played on the world, ended so, and left this disk: the steps that were played and
  -- those that weren't; the transcript, whose entries are those of the steps, where its past may be
  -- relied on, and in any case up to the first power cut; what was written, where `Written` holds
  -- of entries that were written whole, and `Breaks` where a put failed in the second list; and
  -- what the disk keeps where it was trusted. After each power cut among the steps a host started
  -- again; and the power of the disk was cut at least as often as the transcript shows, and exactly
  -- so often where the step that comes next is no power cut.
  pub record PlaysLoad (load : Load) (how : LoadEnd) (left : D) (Written : List Entry → Type 0)
      (Breaks : List Entry → List Entry → Type 0) : Type 0 where
    pub played : List Step
    pub unplayed : List Step
    pub transcript : List Entry
    pub steps_are : load_steps load.seed load.rounds ≡ played ++ unplayed
    pub legal : Relies (onto [] transcript) →
        LegalAtDesk (capacity_in world) load_setup played transcript
    pub early : (now : Desk) × LegalBeforeLoss (capacity_in world) load_setup played transcript now
    -- The line of the load before its first step, and after the last one the six sums, each record
    -- that was kept counted once, and what the operator has; the first line alone if a step wasn't
    -- played, and a front of these if the sink failed.
    pub ends : Ends left load how played unplayed (onto [] transcript) Written Breaks
    -- On a trusted disk each image that a power cut may leave stands for the records of the
    -- transcript; if the disk failed in a step with a record that was due, for these or for these
    -- and that one.
    pub book : HasTrusted → RecordsLeft left how unplayed (onto [] transcript)
    pub survived : SurvivedOn left played (onto [] transcript)
    pub cut : RoseBy (crashes (onto [] transcript)) (g.cuts (disk_of world)) (g.cuts left)
    pub just : (First IsCrash unplayed → ⊥)
        → g.cuts left ≡ count_after (crashes (onto [] transcript)) (g.cuts (disk_of world))
