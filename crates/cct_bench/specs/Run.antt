-- What a run of the bench leaves: what it took, played and wrote, and what is on its disk, by its
-- status.
use Rattle.std.specs.Prelude.{◌≡◌, ◌≢◌, ℕ, ◌≤◌, ◌⊎◌, List, [], ◌∷◌, ◌++◌, length, Option, Some}
use Rattle.std.specs.Prelude.{None, Result}
use Rattle.std.specs.Prelude.{Ok, Err}
use Rattle.std.specs.Prelude.{reverse, ⊤}
use Rattle.std.specs.Io.KnownBytes.{Appends}
use Rattle.cct_model.specs.lines.command.Step.{Step}
use Rattle.cct_model.specs.terms.device.Setup.{Setup}
use Rattle.cct_model.specs.lines.entry.Entry.{Entry}
use Rattle.cct_model.specs.lines.entry.Entry.TheVariants as entry
use Rattle.cct_model.specs.AtDesk.{AtDeskFrom, LeavesDesk, LegalAtDesk}
use Rattle.cct_model.specs.Change.{Desk}
use Rattle.cct_model.specs.Records.{records}
use Rattle.cct_model.specs.Script.{Refusal, script}
use Rattle.cct_model.specs.Transcript.{onto}
use Rattle.cct_journal.specs.Image.{IsFirstByteFrom}
use Rattle.cct_journal.specs.Creating.{RefusesCreate}
use Rattle.cct_journal.specs.declared.refusal.CreateNo.TheVariants as create_no
use Rattle.cct_bench.specs.declared.outcome.Status.{Status}
use Rattle.cct_bench.specs.declared.outcome.Status.TheVariants as status
use Rattle.cct_edge.specs.Bytes.{AppendsFront}
use Rattle.cct_edge.specs.declared.fault.Failed.{Failed}
use Rattle.cct_script.specs.declared.stops.ScriptStop.{ScriptStop}
use Rattle.cct_script.specs.declared.stops.ScriptStop.TheVariants as stop
use Rattle.cct_bench.specs.declared.ending.Ending.{Ending}
use Rattle.cct_bench.specs.declared.ending.Ending.TheVariants as ending
use Rattle.cct_bench.specs.declared.play.TheConstants.{JOURNAL_BYTES}
use Rattle.cct_world.specs.Early.{LegalBeforeLoss}
use Rattle.cct_world.specs.Restarts.{LosesAt, Survived}
use Rattle.cct_world.specs.Step.{RoseBy, count_after, crashes}
use Rattle.cct_world.specs.Relying.{First, IsCrash, MayFail, IsReliable, due_to}
use Rattle.cct_host.specs.declared.refusal.CrashNo.{CrashNo}
use Rattle.cct_host.specs.declared.refusal.CrashNo.TheVariants as crash_no
use Rattle.cct_bench.specs.Disks.{Disks, IsReady, most_records}
use Rattle.cct_bench.specs.Going.{IsUnbegun}
use Rattle.cct_model.specs.Honest.{Honest}
use Rattle.cct_laws_change.specs.Change.{ChangeIsPaid}
use Rattle.cct_laws.specs.Right.{IsRight}
use Rattle.cct_bench.specs.Money.{RightBeforeLoss}
use Rattle.cct_script.specs.Source.{to_come}

-- Writing broke off in the lines of the last step played or in the last line, and all lines before
-- were written whole: they are a front of the transcript, and the entries of the other steps, where
-- their past may be relied on. The last step goes on at the operator's desk that those leave.
pub record BreaksOff (Relies : List Entry → Type 0) (setup : Setup) (played : List Step)
    (transcript tail : List Entry)
    (Breaks : List Entry → List Entry → Type 0) : Type 0 where
  pub before : List Step
  pub last : List Step
  pub whole : List Entry
  pub cut : List Entry
  pub steps_are : played ≡ before ++ last
  pub one_step : length last ≤ 1
  pub transcript_is : transcript ≡ whole ++ cut
  pub legal : Relies (onto [] whole) → LegalAtDesk most_records setup before whole
  pub goes_on : Relies (onto [] transcript)
      → (desk : Desk) × (next : Desk) × LeavesDesk most_records setup before whole desk
      × AtDeskFrom most_records setup (onto [] whole) desk last (onto [] transcript) next
  pub in_one : (last ≡ []) ⊎ (tail ≡ [])
  pub breaks : Breaks whole (cut ++ tail)

-- Nothing was taken of a script, and nothing played.
abbrev pub IsUntouched : List ℕ → List Step → Type 0
IsUntouched taken played = (taken ≡ []) × (played ≡ [])

-- A last line says why no host starts again after a power cut, and this holds of what it shows:
-- that there is no journal, that a record can't be read or doesn't follow, or that there are other
-- records than were put.
abbrev pub TellsOf : (CrashNo → Type 0) → List Entry → Type 0
TellsOf P (entry.JournalAlien ∷ []) = P crash_no.Alien
TellsOf P (entry.JournalBad index ∷ []) = P (crash_no.BadRecord index)
TellsOf P (entry.JournalLost found put ∷ []) = P (crash_no.Lost found put)
TellsOf P tail = ⊥

-- A last line says that a power cut left another journal than was there.
abbrev pub TellsLoss : List Entry → Type 0
TellsLoss = TellsOf (λ why. ⊤)

-- The first step that wasn't played after a past is a power cut, and this is why no host starts
-- again over what the disk then has that comes back.
abbrev pub EndsLost : Disks → Setup → List Entry → List Step → CrashNo → Type 0
EndsLost disks setup past unplayed why =
    First (LosesAt (IsReliable disks.trusted past) disks.cut_at setup past disks.seen_after why)
    unplayed

-- What a power cut may leave on the disk after a past, by the last line, where these steps weren't
-- played: each image stands for the records of the past; or, where the disk failed in a step with a
-- record that was due, for these or for these and that record.
abbrev pub RecordsLeftByLine : Disks → Setup → List Step → List Entry → List Entry → Type 0
RecordsLeftByLine disks setup unplayed past (entry.DiskFault ∷ tail) =
    First (λ s. disks.leaves setup (due_to setup past s) (reverse (records past))) unplayed
RecordsLeftByLine disks setup unplayed past tail = disks.leaves setup None (reverse (records past))

-- of a run over a disk, with a script of these bytes: what it took of them, the steps that it
-- played and those that it didn't, and the transcript of those played
module _ (disks : Disks) (bytes taken : List ℕ) (played unplayed : List Step)
    (transcript : List Entry) where
  -- The last line of a run, and what had been played then: none at the script's end, that of its
  -- first refused line, or that of a fault in reading, where every step was played whose line
  -- stands whole in the bytes taken. A fault of the disk comes before the first byte of the script,
  -- in a `next` that was about to put a record, or in a power cut; a disk that isn't blank is
  -- reported by its first byte that isn't 0, and one of another size by that, before the first byte
  -- of the script. Another journal than was there comes in a power cut alone, and is reported as it
  -- then is on the disk that comes back.
  abbrev pub Closes : Status → List Entry → Type 0
  Closes status.Done tail =
      (unplayed ≡ []) × ((script bytes).refused ≡ None) × (tail ≡ [])
      × IsReady disks.size disks.seen
  Closes status.ScriptRefused tail =
      (line : Refusal) × (unplayed ≡ []) × ((script bytes).refused ≡ Some line)
      × (tail ≡ entry.Line line.number line.why ∷ []) × IsReady disks.size disks.seen
  Closes status.ReadFault tail =
      ((script taken).steps ≡ played) × (tail ≡ entry.ReadFault ∷ [])
      × IsReady disks.size disks.seen
  Closes status.DiskFault tail =
      (disks.size ≡ JOURNAL_BYTES) × (tail ≡ entry.DiskFault ∷ [])
      × (IsUntouched taken played
      ⊎ (IsReady disks.size disks.seen
      × First (MayFail (IsReliable disks.trusted (onto [] transcript)) (script bytes).setup
      (onto [] transcript)) unplayed))
  Closes status.NotBlank tail =
      (at : ℕ) × (disks.size ≡ JOURNAL_BYTES) × (tail ≡ entry.NotBlank at ∷ [])
      × IsUntouched taken played
      × ((image : List ℕ) → disks.seen ≡ Some image → IsFirstByteFrom 0 image at)
  Closes status.DiskSize tail =
      (disks.size ≢ JOURNAL_BYTES) × (tail ≡ entry.DiskSize disks.size ∷ [])
      × IsUntouched taken played
  Closes status.JournalLost tail =
      TellsOf (EndsLost disks (script bytes).setup (onto [] transcript) unplayed) tail
      × IsReady disks.size disks.seen
  Closes s tail = ⊥

  -- What is written, by the status: the lines of the transcript and the last line, or some of them
  -- where the sink failed. Nothing is played and written where there was no memory.
  abbrev pub Ends : Status → List Entry → (List Entry → Type 0) →
      (List Entry → List Entry → Type 0) → Type 0
  Ends status.WriteFault tail Written Breaks =
      (((tail ≡ []) × IsReady disks.size disks.seen) ⊎ ((s : Status) × Closes s tail))
      × BreaksOff (IsReliable disks.trusted) (script bytes).setup played transcript tail Breaks
  Ends status.OutOfMemory tail Written Breaks = (played ≡ []) × (tail ≡ []) × Written []
  Ends s tail Written Breaks = Closes s tail × Written (transcript ++ tail)

-- A run over a script of these bytes: what it took of them, the steps that it played, and their
-- transcript; its last line; what it wrote, where `Written` holds of entries that were written
-- whole, and `Breaks` where a put failed in the second list; and what it left on its disk, once a
-- byte of the script was taken. The bytes are those taken and those still to come; a source that
-- shows none is taken to have no more. Where the disk was trusted, or no power cut is reported, the
-- entries are those of the steps at the operator's desk, and the money is right; and over an honest
-- wire sessions of change pay what they report. Over any disk all three are so of the steps before
-- the first power cut. The last line shows a fault of the source or of the disk only where this one
-- failed, also where it was torn. Over any disk each step that is a power cut is reported, and no
-- other is, and after each of them a host started again rightly, by what the disk showed right
-- after that cut; on a trusted disk no power cut leaves another journal than was there. The power
-- was cut at least as often as is reported, and exactly so often where the step that comes next is
-- none.
pub record Ran (bytes : List ℕ) (s : Status) (left : Option (List ℕ))
    (Written : List Entry → Type 0)
    (Breaks : List Entry → List Entry → Type 0) (disks : Disks) (source_failed disk_failed : Type 0)
    : Type 0 where
  pub taken : List ℕ
  pub played : List Step
  pub unplayed : List Step
  pub transcript : List Entry
  pub tail : List Entry
  pub took : bytes ≡ taken ++ to_come left
  pub steps_are : (script bytes).steps ≡ played ++ unplayed
  -- The transcript is the legal one of the script's setup and the steps played, where the past may
  -- be relied on; and so it is at the operator's desk, which says what each `change` and each
  -- `serve` gives.
  pub legal : IsReliable disks.trusted (onto [] transcript) →
      LegalAtDesk most_records (script bytes).setup played transcript
  -- And there the posts are accepted coins in order, none is lost in silence, each order is paid at
  -- most once, and no id is used twice.
  pub money : IsReliable disks.trusted (onto [] transcript) →
      IsRight (script bytes).setup transcript
  -- Over an honest wire, sessions of change pay what they report, at each moment of the run.
  pub change : IsReliable disks.trusted (onto [] transcript) → Honest transcript
      → ChangeIsPaid most_records (script bytes).setup played transcript
  -- Over any disk the same holds of the steps before the first power cut.
  pub early : RightBeforeLoss (script bytes).setup played transcript
  -- The lines of the transcript, each by one put, then the last line of the status; a front of that
  -- if writing failed, in which the lines of every step but the last one played are whole.
  pub ends : Ends disks bytes taken played unplayed transcript s tail Written Breaks
  -- Once a byte of the script was taken, each image that a power cut may leave stands for exactly
  -- the records of the transcript, or, if the disk failed with a record due, for these and that
  -- one.
  pub book : disks.trusted → taken ≢ [] →
      RecordsLeftByLine disks (script bytes).setup unplayed (onto [] transcript) tail
  -- Over a trusted disk status 9 never comes.
  pub keeps : disks.trusted → TellsLoss tail → ⊥
  pub source_cause : tail ≡ entry.ReadFault ∷ [] → source_failed
  pub disk_cause : tail ≡ entry.DiskFault ∷ [] → disk_failed
  -- After each power cut a read gave as many records as were put by then, and the one that is
  -- reported as kept, each of which follows those before it.
  pub survived : Survived (IsReliable disks.trusted) disks.cut_at (script bytes).setup played
      (onto [] transcript)
  pub cut : RoseBy (crashes (onto [] transcript)) disks.cuts disks.cuts_after
  -- Exactly so often, if the step after those that were played is no power cut.
  pub just : (First IsCrash unplayed → ⊥) → disks.cuts_after
      ≡ count_after (crashes (onto [] transcript)) disks.cuts

-- How a run ends where a script is read no further.
abbrev pub ending_at : ℕ → ScriptStop → Ending
ending_at number stop.Unread = ending.Unread
ending_at number (stop.Refused why) = ending.Refused number why

-- How a run ends where no journal is created on a disk of this size, whose reads give these bytes:
-- it has another size, which is reported; or this is why a journal refuses it.
abbrev pub IsUnopened : ℕ → Option (List ℕ) → Ending → Type 0
IsUnopened size seen (ending.OtherSize len) = (size ≢ JOURNAL_BYTES) × (len ≡ size)
IsUnopened size seen (ending.Uncreated why) = (size ≡ JOURNAL_BYTES) × RefusesCreate size seen why
IsUnopened size seen how = ⊥

-- The script or its source brought the end.
abbrev pub IsOfScript : Ending → Type 0
IsOfScript ending.Done = Unit
IsOfScript (ending.Refused number why) = Unit
IsOfScript ending.Unread = Unit
IsOfScript how = ⊥

-- The transcript is whole, or it breaks off where the sink failed, by how the steps came to their
-- end.
abbrev pub Stops : (List Entry → Type 0) → Ending → List ℕ → List ℕ → List Step → List Step →
    List Entry
    → (List Entry → Type 0) → (List Entry → List Entry → Type 0) → Type 0
Stops Relies ending.Done bytes taken played unplayed transcript Written Breaks =
    (unplayed ≡ []) × ((script bytes).refused ≡ None) × Written transcript
Stops Relies (ending.Refused number why) bytes taken played unplayed transcript Written Breaks =
    (unplayed ≡ []) × ((script bytes).refused ≡ Some (record { number = number; why = why }))
    × Written transcript
Stops Relies ending.Unread bytes taken played unplayed transcript Written Breaks =
    ((script taken).steps ≡ played) × Written transcript
Stops Relies ending.Unwritten bytes taken played unplayed transcript Written Breaks =
    BreaksOff Relies (script bytes).setup played transcript [] Breaks
Stops Relies ending.NoMemory bytes taken played unplayed transcript Written Breaks =
    (played ≡ []) × Written []
Stops Relies how bytes taken played unplayed transcript Written Breaks = Written transcript

-- A disk was ready and isn't trusted, and no host starts again over it.
abbrev pub OverLost : Disks → Setup → List Entry → List Step → CrashNo → Type 0
OverLost disks setup past unplayed why =
    IsReady disks.size disks.seen × EndsLost disks setup past unplayed why × (disks.trusted → ⊥)

-- What is said of a disk by how the steps came to their end: whether it was ready, and what it
-- keeps of the past.
abbrev pub Over : Disks → Ending → Setup → List ℕ → List Step → List Step → List Entry → Type 0
Over disks ending.NoMemory setup taken played unplayed past =
    disks.trusted → disks.leaves setup None (reverse (records past))
Over disks (ending.OtherSize len) setup taken played unplayed past =
    (disks.size ≢ JOURNAL_BYTES) × IsUntouched taken played × (len ≡ disks.size)
Over disks (ending.Uncreated why) setup taken played unplayed past =
    (disks.size ≡ JOURNAL_BYTES) × IsUntouched taken played
    × RefusesCreate disks.size disks.seen why
Over disks (ending.Unplayed crash_no.Disk) setup taken played unplayed past =
    IsReady disks.size disks.seen × First (MayFail (IsReliable disks.trusted past) setup past)
    unplayed
    × (disks.trusted → First (λ s. disks.leaves setup (due_to setup past s)
    (reverse (records past))) unplayed)
Over disks (ending.Unplayed why) setup taken played unplayed past =
    OverLost disks setup past unplayed why
Over disks how setup taken played unplayed past =
    IsReady disks.size disks.seen × (disks.trusted →
    disks.leaves setup None (reverse (records past)))

-- Beside that, after each power cut a host started again; and the power of the disk was cut at
-- least as often as the past shows, and exactly so often where no power cut is the step that comes
-- next.
pub record OverCut (disks : Disks) (how : Ending) (setup : Setup) (taken : List ℕ)
    (played unplayed : List Step)
    (past : List Entry) : Type 0 where
  pub over : Over disks how setup taken played unplayed past
  pub survived : Survived (IsReliable disks.trusted) disks.cut_at setup played past
  pub cut : RoseBy (crashes past) disks.cuts disks.cuts_after
  pub just : (First IsCrash unplayed → ⊥) → disks.cuts_after ≡ count_after (crashes past) disks.cuts

-- The script or its source brought the end before a step was played.
abbrev pub BeforeSteps : Ending → Setup → List ℕ → List Step → List Step → List Entry → Type 0
BeforeSteps how setup taken played unplayed past = IsOfScript how × IsUnbegun played past

-- The steps of a script of these bytes were played up to this end. `Beside` is what else is said of
-- that, and `Relies` says where the past may be relied on.
pub record Played (Relies : List Entry → Type 0) (bytes : List ℕ) (how : Ending)
    (left : Option (List ℕ))
    (Written : List Entry → Type 0) (Breaks : List Entry → List Entry → Type 0)
    (Beside : Ending → Setup → List ℕ → List Step → List Step → List Entry → Type 0) : Type 0 where
  pub taken : List ℕ
  pub played : List Step
  pub unplayed : List Step
  pub transcript : List Entry
  pub took : bytes ≡ taken ++ to_come left
  pub steps_are : (script bytes).steps ≡ played ++ unplayed
  pub legal : Relies (onto [] transcript) →
      LegalAtDesk most_records (script bytes).setup played transcript
  pub early : (now : Desk) × LegalBeforeLoss most_records (script bytes).setup played transcript now
  pub stops : Stops Relies how bytes taken played unplayed transcript Written Breaks
  pub beside : Beside how (script bytes).setup taken played unplayed (onto [] transcript)

-- A last line was written, and the run ends with its status; or, where the sink failed, a front of
-- the line.
abbrev pub ClosedBy : Status → Status → List ℕ → Option (List ℕ) → Option (List ℕ) → Type 0
ClosedBy result wanted line old new = ((result ≡ wanted) × Appends old new line)
    ⊎ ((result ≡ status.WriteFault) × AppendsFront old new line)

-- The status of a run by the answer of the put of its last line.
abbrev pub status_by : Result (Unit {0}) Failed → Status → Status
status_by (Ok done) wanted = wanted
status_by (Err failed) wanted = status.WriteFault

-- The status of a run by how its steps came to their end, where its last line, if it has one, is
-- written.
abbrev pub status_of : Ending → Status
status_of ending.Done = status.Done
status_of (ending.Refused number kind) = status.ScriptRefused
status_of ending.Unread = status.ReadFault
status_of ending.Unwritten = status.WriteFault
status_of ending.NoMemory = status.OutOfMemory
status_of (ending.OtherSize len) = status.DiskSize
status_of (ending.Uncreated (create_no.Small len)) = status.DiskSize
status_of (ending.Uncreated create_no.Disk) = status.DiskFault
status_of (ending.Uncreated (create_no.NotBlank at)) = status.NotBlank
status_of (ending.Unplayed crash_no.Disk) = status.DiskFault
status_of (ending.Unplayed crash_no.Alien) = status.JournalLost
status_of (ending.Unplayed (crash_no.BadRecord index)) = status.JournalLost
status_of (ending.Unplayed (crash_no.Lost found put)) = status.JournalLost

-- Its last line, if it has one.
abbrev pub last_entry : Ending → Option Entry
last_entry (ending.Refused number kind) = Some (entry.Line number kind)
last_entry ending.Unread = Some entry.ReadFault
last_entry (ending.OtherSize len) = Some (entry.DiskSize len)
last_entry (ending.Uncreated (create_no.Small len)) = Some (entry.DiskSize len)
last_entry (ending.Uncreated create_no.Disk) = Some entry.DiskFault
last_entry (ending.Uncreated (create_no.NotBlank at)) = Some (entry.NotBlank at)
last_entry (ending.Unplayed crash_no.Disk) = Some entry.DiskFault
last_entry (ending.Unplayed crash_no.Alien) = Some entry.JournalAlien
last_entry (ending.Unplayed (crash_no.BadRecord index)) = Some (entry.JournalBad index)
last_entry (ending.Unplayed (crash_no.Lost found put)) = Some (entry.JournalLost found put)
last_entry how = None

-- One entry, or none.
abbrev pub listed : Option Entry → List Entry
listed None = []
listed (Some e) = e ∷ []

-- With no fault a run is done, or a line of the script is refused, exactly as the script says; or
-- there was no memory.
abbrev pub Completes : Option Refusal → Status → Type 0
Completes None result = (result ≡ status.Done) ⊎ (result ≡ status.OutOfMemory)
Completes (Some line) result = (result ≡ status.ScriptRefused) ⊎ (result ≡ status.OutOfMemory)
