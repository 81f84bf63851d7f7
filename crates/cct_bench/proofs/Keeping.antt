-- What a disk keeps over a run, and what is left on it where the steps come to their end.
use Rattle.std.proofs.Common.{◌≡◌, ◌≢◌, ◌⊎◌, ◌++◌, ℕ, Bool, List, [], ◌∷◌, reverse, Option, None, refl, sym, ap, ◌∙◌}
use Rattle.std.proofs.Common.{inl, inr, subst, subst₂, Result, Err}
use Rattle.std.proofs.Math.Nat.{le_trans}
use Rattle.cct_model.specs.terms.device.Setup.{Setup}
use Rattle.cct_model.specs.lines.command.Step.{Step}
use Rattle.cct_model.specs.lines.command.Step.TheVariants as step
use Rattle.cct_model.specs.lines.record.Record.{Record}
use Rattle.cct_model.specs.lines.entry.Entry.{Entry}
use Rattle.cct_model.specs.AtDesk.{EntriesAtDesk}
use Rattle.cct_model.specs.Change.{Desk}
use Rattle.cct_model.specs.Records.{records}
use Rattle.cct_model.specs.Script.{Stage, at_setup, no_devices, plays}
use Rattle.cct_disk.specs.declared.disk.Disk.{Ghosts}
use Rattle.cct_disk.specs.Disk.{IsTrusted}
use Rattle.cct_edge.specs.declared.fault.Failed.{Failed}
use Rattle.cct_disk.specs.Disk.{GoesOn, Outlasts}
use Rattle.cct_journal.specs.declared.place.Place.{Place}
use Rattle.cct_journal.proofs.Calls.{settled_leaves, stands_settled}
use Rattle.cct_host.specs.OnDisk.{KeepsRecords, LeavesRecords}
use Rattle.cct_host.specs.declared.refusal.CrashNo.{CrashNo}
use Rattle.cct_host.specs.declared.refusal.CrashNo.TheVariants as crash_no
use Rattle.cct_world.specs.declared.world.World.{World}
use Rattle.cct_world.specs.Holds.{Holds, WorldHolds}
use Rattle.cct_world.specs.Machine.{LosesIn, StepSuits}
use Rattle.cct_world.specs.Restarts.{CutAt, Survived, no_step}
use Rattle.cct_world.specs.Step.{CutsIn, LastsIn, count_after, crashes}
use Rattle.cct_world.specs.World as worlds
use Rattle.cct_world.specs.World.{Breaks, StandsFor, desk_of, disk_of, setup_of, used_of}
use Rattle.cct_world.specs.Relying.{IsReliable}
use Rattle.cct_world.proofs.Holding.{holds_on, loses_at}
use Rattle.cct_world.proofs.Lasting.{lasts_in, lasts_on, lasts_then, trusted_on, uncut_in}
use Rattle.cct_world.proofs.Restarts.{after_cut_on}
use Rattle.cct_world.proofs.Relying.{crashes_none, rose_just, reliable_back, reliable_survives}
use Rattle.cct_world.proofs.Surviving.{survived_by}
use Rattle.cct_bench.specs.declared.ending.Ending.{Ending}
use Rattle.cct_bench.specs.declared.ending.Ending.TheVariants as ending
use Rattle.cct_bench.specs.Disks.{Books, IsReady, disks, most_records}
use Rattle.cct_bench.specs.declared.play.TheConstants.{JOURNAL_BYTES}
use Rattle.cct_bench.specs.Going.{Going, IsUnbegun}
use Rattle.cct_script.specs.Scripts.{WithMoreTaken}
use Rattle.cct_bench.specs.Lines.{ScriptGoesOn}
use Rattle.cct_bench.specs.Playing.{Plays, PlaysOn}
use Rattle.cct_script.specs.Source.{OfBytes}
use Rattle.cct_bench.specs.Run.{IsUnopened, Over, OverCut, OverLost, Played}
use Rattle.cct_text.specs.Writing.{Broke, Writes, Wrote}
use Rattle.cct_bench.proofs.Going.{Carries, EndsBeside, IsSetupIn, played_broke, played_torn}
use Rattle.cct_bench.proofs.Staying.{IsDone}

-- each image of a disk that keeps just one represents what that one does
pub stands_leaves : {D : Type 0} (setup : Setup) (honest : D → Bool) (seen : D → Option (List ℕ))
    (may_leave : D → List ℕ → Type 0) (disk : D) (place : Place) (rs : List Record)
    → KeepsRecords setup honest seen may_leave disk place rs → LeavesRecords setup honest seen may_leave disk None rs
stands_leaves setup honest seen may_leave disk place rs stands = settled_leaves (stands_settled stands)

-- the script or its source brought the end, and the disk has the records of the past
module _ {D : Type 0} (size : D → ℕ) (honest : D → Bool) (seen : D → Option (List ℕ))
    (may_leave : D → List ℕ → Type 0) (cuts : D → ℕ) (cut_to : D → ℕ → D → Type 0) where
  pub ends_over : (given last : D) (stage : Stage) (Before : List Step → List Entry → Type 0)
      → IsReady (size given) (seen given)
      → ((setup : Setup) (played : List Step) (past : List Entry) → IsSetupIn stage setup → Before played past
      → IsTrusted honest seen given → LeavesRecords setup honest seen may_leave last None (reverse (records past)))
      → ((setup : Setup) (played : List Step) (past : List Entry) → IsSetupIn stage setup → Before played past
      → Survived (IsReliable (IsTrusted honest seen given)) (CutAt size honest seen cuts cut_to given last) setup played past)
      → ((played : List Step) (past : List Entry) → Before played past
      → cuts last ≡ count_after (crashes past) (cuts given))
      → EndsBeside stage Before (OverCut (disks size honest seen may_leave cuts cut_to given last))
  ends_over given last stage Before ready books survives cut ending.Done setup taken played unplayed past is there
      before =
      record {
        over = (ready, books setup played past there before);
        survived = survives setup played past there before;
        cut = rose_just (crashes past) (cuts given) (cuts last) (cut played past before);
        just = λ next. cut played past before;
      }
  ends_over given last stage Before ready books survives cut (ending.Refused number why) setup taken played unplayed past
      is there before =
      record {
        over = (ready, books setup played past there before);
        survived = survives setup played past there before;
        cut = rose_just (crashes past) (cuts given) (cuts last) (cut played past before);
        just = λ next. cut played past before;
      }
  ends_over given last stage Before ready books survives cut ending.Unread setup taken played unplayed past is there
      before =
      record {
        over = (ready, books setup played past there before);
        survived = survives setup played past there before;
        cut = rose_just (crashes past) (cuts given) (cuts last) (cut played past before);
        just = λ next. cut played past before;
      }
  ends_over given last stage Before ready books survives cut how setup taken played unplayed past is there before =
      absurd is

module _ {D : Type 0} {g : Ghosts D} where
  -- the disk of a machine that represents a past has its records
  pub world_books : (world : World D g) (past : List Entry) → StandsFor world past
      → Books (setup_of world) g.honest g.seen g.may_leave (disk_of world) past
  world_books world past stands trusted =
      stands_leaves (setup_of world) g.honest g.seen g.may_leave (disk_of world) _ (reverse (records past)) (stands.host.on_disk trusted)

  -- so what is left where a run over such a machine ends
  pub world_ends : (given last : D) (world : World D g) (stage : Stage)
      → ((setup : Setup) → IsSetupIn stage setup → setup ≡ setup_of world) → IsReady (g.size given) (g.seen given)
      → Outlasts g.size g.honest g.seen g.cuts given (disk_of world) → last ≡ disk_of world
      → EndsBeside stage (WorldHolds given world)
      (OverCut (disks g.size g.honest g.seen g.may_leave g.cuts g.cut_to given last))
  world_ends given last world stage same ready on is =
      ends_over g.size g.honest g.seen g.may_leave g.cuts g.cut_to given last stage (WorldHolds given world) ready
      (λ setup played past there holds trusted.
      subst (λ by. LeavesRecords by g.honest g.seen g.may_leave last None (reverse (records past))) (sym (same setup there))
      (subst (λ disk. LeavesRecords (setup_of world) g.honest g.seen g.may_leave disk None (reverse (records past))) (sym is)
      (world_books world past (holds.stands (inl trusted))
      (trusted_on g.size g.honest g.seen g.cuts given (disk_of world) on trusted))))
      (λ setup played past there holds.
      let relies = IsReliable (IsTrusted g.honest g.seen given) in
      let Cut = CutAt g.size g.honest g.seen g.cuts g.cut_to given in
      subst (λ by. Survived relies (Cut last) by played past) (sym (same setup there))
      (subst (λ disk. Survived relies (Cut disk) (setup_of world) played past) (sym is) holds.survived))
      (λ played past holds. ap g.cuts is ∙ holds.cut)

  -- what holds of a machine does so after a step that was played
  pub world_carried : (given last : D) (world : World D g) (After : List Entry → Type 0) (setup : Setup) (next : Desk)
      (many : ℕ) (s : Step) (WritesThem : List Entry → Type 0) → setup ≡ setup_of world
      → Outlasts g.size g.honest g.seen g.cuts given (disk_of world)
      → LastsIn s g.size g.honest g.seen g.cuts (disk_of world) last
      → PlaysOn (IsTrusted g.honest g.seen (disk_of world)) (StandsFor world) After (setup_of world)
      (desk_of world) next s
      (CutsIn s g.size g.honest g.seen g.cuts g.cut_to (disk_of world) last) (used_of world) many (g.seen last)
      WritesThem
      → Carries (IsReliable (IsTrusted g.honest g.seen given)) (desk_of world) next (WorldHolds given world)
      (Holds g.size g.honest g.seen g.cuts g.cut_to After setup given last many) (setup_of world) s WritesThem
  world_carried given last world After setup next many s WritesThem same on lasts p =
      let trusted = IsTrusted g.honest g.seen given in
      let now = IsTrusted g.honest g.seen (disk_of world) in
      let news = reverse p.report in
      record {
        report = p.report;
        goes = λ played past before suits.
            let goes : IsReliable trusted (news ++ past)
            → EntriesAtDesk most_records (setup_of world) past (desk_of world) s news × After (news ++ past) =
            λ sure. let here = reliable_back trusted news past sure in
            p.plays past (before.stands here) (suits here)
            (reliable_survives trusted now (trusted_on g.size g.honest g.seen g.cuts given (disk_of world) on) news past s
            p.told sure) in (
              λ sure. (goes sure).0,
              subst (λ by. Holds g.size g.honest g.seen g.cuts g.cut_to After by given last many (played ++ s ∷ [])
                  (news ++ past)) (sym same)
                  (holds_on g.size g.honest g.seen g.cuts g.cut_to (setup_of world) given (StandsFor world) After
                  (disk_of world) last s (used_of world) many news played past on lasts p.told p.cut p.counts p.restarts
                  (λ sure. (goes sure).1) before),
            );
        desk = p.desk;
        told = p.told;
        wrote = p.wrote;
      }

  -- a step that was played leaves the records of the past on the disk
  pub books_play : (world next : World D g) (last : D) (s : Step) (report : List Entry)
      → g.size (disk_of world) ≡ JOURNAL_BYTES → worlds.Plays world next s report → last ≡ disk_of next
      → setup_of next ≡ setup_of world
      → Plays (IsTrusted g.honest g.seen (disk_of world)) (StandsFor world)
      (Books (setup_of world) g.honest g.seen g.may_leave last) (setup_of world)
      (desk_of world) s report
  books_play world next last s report sized played is same past stands suits survives =
      let goes = played past stands suits survives in
      let news = reverse report in (
        goes.0,
        subst (λ setup. Books setup g.honest g.seen g.may_leave last (news ++ past)) same
            (subst (λ disk. Books (setup_of next) g.honest g.seen g.may_leave disk (news ++ past)) (sym is)
            (world_books next (news ++ past) goes.1)),
      )

  -- the disk failed in a step
  torn_over : (given left : D) (world : World D g) (s : Step) → IsReady (g.size given) (g.seen given)
      → (IsTrusted g.honest g.seen given → IsTrusted g.honest g.seen (disk_of world))
      → Breaks world left crash_no.Disk s
      → (taken : List ℕ) (played unplayed : List Step) (past : List Entry) → WorldHolds given world played past
      → Over (disks g.size g.honest g.seen g.may_leave g.cuts g.cut_to given left) (ending.Unplayed crash_no.Disk) (setup_of world) taken
      played (s ∷ unplayed) past
  torn_over given left world (step.Next addr) ready on breaks taken played unplayed past holds = (
    ready,
    λ sure. let due = breaks past (holds.stands sure) in (due.0, due.1.0),
    λ trusted. let due = breaks past (holds.stands (inl trusted)) in
        subst (λ r. LeavesRecords (setup_of world) g.honest g.seen g.may_leave left r (reverse (records past))) (sym due.1.0)
        (due.1.1 (on trusted)),
  )
  torn_over given left world (step.Crash at choice) ready on breaks taken played unplayed past holds =
      (ready, tt, λ trusted. breaks past (holds.stands (inl trusted)) (on trusted))
  torn_over given left world s ready on breaks taken played unplayed past holds = absurd breaks

  -- a power cut left something else than what stood on the disk
  lost_over : (given left : D) (world : World D g) (why : CrashNo) (s : Step) → IsReady (g.size given) (g.seen given)
      → Outlasts g.size g.honest g.seen g.cuts given (disk_of world)
      → LastsIn s g.size g.honest g.seen g.cuts (disk_of world) left
      → CutsIn s g.size g.honest g.seen g.cuts g.cut_to (disk_of world) left
      → LosesIn world.machine.value left why s → (played unplayed : List Step) (past : List Entry)
      → WorldHolds given world played past
      → (IsReliable (IsTrusted g.honest g.seen given) past → StepSuits (setup_of world) past s)
      → OverLost (disks g.size g.honest g.seen g.may_leave g.cuts g.cut_to given left) (setup_of world) past (s ∷ unplayed) why
  lost_over given left world why (step.Crash at choice) ready lasted lasts cut loses played unplayed past holds suits = (
    ready,
    loses_at given left world played past holds why (step.Crash at choice) lasted lasts cut loses,
    λ trusted. loses.0 past (holds.stands (inl trusted)) (suits (inl trusted))
        (trusted_on g.size g.honest g.seen g.cuts given (disk_of world) lasted trusted),
  )
  lost_over given left world why s ready lasted lasts cut loses played unplayed past holds suits = absurd loses

  unplayed_over : (given left : D) (world : World D g) (why : CrashNo) (s : Step)
      → IsReady (g.size given) (g.seen given) → Outlasts g.size g.honest g.seen g.cuts given (disk_of world)
      → LastsIn s g.size g.honest g.seen g.cuts (disk_of world) left
      → (why ≢ crash_no.Disk → CutsIn s g.size g.honest g.seen g.cuts g.cut_to (disk_of world) left)
      → Breaks world left why s → (taken : List ℕ) (played unplayed : List Step) (past : List Entry)
      → WorldHolds given world played past
      → (IsReliable (IsTrusted g.honest g.seen given) past → StepSuits (setup_of world) past s)
      → Over (disks g.size g.honest g.seen g.may_leave g.cuts g.cut_to given left) (ending.Unplayed why) (setup_of world) taken
      played (s ∷ unplayed) past
  unplayed_over given left world crash_no.Disk s ready on lasts lost breaks taken played unplayed past holds suits =
      torn_over given left world s ready (trusted_on g.size g.honest g.seen g.cuts given (disk_of world) on) breaks taken
      played unplayed past holds
  unplayed_over given left world crash_no.Alien s ready on lasts lost breaks taken played unplayed past holds suits =
      lost_over given left world crash_no.Alien s ready on lasts (lost (λ is. cc is)) breaks played unplayed past holds suits
  unplayed_over given left world (crash_no.BadRecord index) s ready on lasts lost breaks taken played unplayed past holds
      suits =
      lost_over given left world (crash_no.BadRecord index) s ready on lasts (lost (λ is. cc is)) breaks played unplayed past
      holds suits
  unplayed_over given left world (crash_no.Lost found put) s ready on lasts lost breaks taken played unplayed past holds
      suits =
      lost_over given left world (crash_no.Lost found put) s ready on lasts (lost (λ is. cc is)) breaks played unplayed past
      holds suits

  -- a step that wasn't played
  pub unplayed_cut : (given left : D) (world : World D g) (why : CrashNo) (s : Step)
      → IsReady (g.size given) (g.seen given) → Outlasts g.size g.honest g.seen g.cuts given (disk_of world)
      → LastsIn s g.size g.honest g.seen g.cuts (disk_of world) left
      → (why ≢ crash_no.Disk → CutsIn s g.size g.honest g.seen g.cuts g.cut_to (disk_of world) left)
      → Breaks world left why s
      → (taken : List ℕ) (played unplayed : List Step) (past : List Entry) → WorldHolds given world played past
      → (IsReliable (IsTrusted g.honest g.seen given) past → StepSuits (setup_of world) past s)
      → OverCut (disks g.size g.honest g.seen g.may_leave g.cuts g.cut_to given left) (ending.Unplayed why) (setup_of world) taken
      played (s ∷ unplayed) past
  unplayed_cut given left world why s ready on lasts lost breaks taken played unplayed past holds suits = record {
    over = unplayed_over given left world why s ready on lasts lost breaks taken played unplayed past holds suits;
    survived = survived_by (IsReliable (IsTrusted g.honest g.seen given)) (IsReliable (IsTrusted g.honest g.seen given))
        (CutAt g.size g.honest g.seen g.cuts g.cut_to given (disk_of world))
        (CutAt g.size g.honest g.seen g.cuts g.cut_to given left) (λ es sure. sure)
        (after_cut_on g.size g.honest g.seen g.cuts g.cut_to given (disk_of world) left
        (lasts_in g.size g.honest g.seen g.cuts s (disk_of world) left lasts)) (setup_of world) played past
        holds.survived;
    cut = le_trans (rose_just (crashes past) (g.cuts given) (g.cuts (disk_of world)) holds.cut)
        (lasts_in g.size g.honest g.seen g.cuts s (disk_of world) left lasts).later_cuts;
    just = λ next. uncut_in g.size g.honest g.seen g.cuts s (disk_of world) left lasts (crashes_none s next) ∙ holds.cut;
  }

-- a journal without records was created
module _ {D : Type 0} (size : D → ℕ) (honest : D → Bool) (seen : D → Option (List ℕ))
    (may_leave : D → List ℕ → Type 0) (cuts : D → ℕ) (cut_to : D → ℕ → D → Type 0) where
  -- then nothing else is on the disk that comes back
  fresh_leaves : (setup : Setup) (last disk : D) (place : Place) (past : List Entry) → last ≡ disk → past ≡ []
      → KeepsRecords setup honest seen may_leave disk place []
      → LeavesRecords setup honest seen may_leave last None (reverse (records past))
  fresh_leaves setup last disk place past is none stands =
      subst (λ d. LeavesRecords setup honest seen may_leave d None (reverse (records past))) (sym is)
      (subst (λ p. LeavesRecords setup honest seen may_leave disk None (reverse (records p))) (sym none)
      (stands_leaves setup honest seen may_leave disk place [] stands))

  -- where the script or its source brought the end
  pub fresh_ends : (given last disk : D) (place : Place) → IsReady (size given) (seen given)
      → GoesOn size honest seen cuts given disk → last ≡ disk
      → ((setup : Setup) → IsTrusted honest seen disk → KeepsRecords setup honest seen may_leave disk place [])
      → EndsBeside (at_setup no_devices) IsUnbegun (OverCut (disks size honest seen may_leave cuts cut_to given last))
  fresh_ends given last disk place ready on is stands =
      let same : cuts last ≡ cuts given = ap cuts is ∙ on.same_cuts in
      ends_over size honest seen may_leave cuts cut_to given last (at_setup no_devices) IsUnbegun ready
      (λ setup played past there none trusted. fresh_leaves setup last disk place past is none.1
      (stands setup (trusted_on size honest seen cuts given disk (lasts_on size honest seen cuts given disk on) trusted)))
      (λ setup played past there none.
      subst₂ (Survived (IsReliable (IsTrusted honest seen given)) (CutAt size honest seen cuts cut_to given last) setup)
      (sym none.0) (sym none.1) no_step)
      (λ played past none. same ∙ ap (λ es. count_after (crashes es) (cuts given)) (sym none.1))

  -- a run that ended before its first step
  uncut_over : (given last : D) (how : Ending) (setup : Setup) (taken : List ℕ) (unplayed : List Step)
      → cuts last ≡ cuts given → Over (disks size honest seen may_leave cuts cut_to given last) how setup taken [] unplayed []
      → OverCut (disks size honest seen may_leave cuts cut_to given last) how setup taken [] unplayed []
  uncut_over given last how setup taken unplayed same over = record {
    over = over;
    survived = no_step;
    cut = rose_just 0 (cuts given) (cuts last) same;
    just = λ next. same;
  }

  -- and where there was no memory
  pub fresh_none : (given last disk : D) (place : Place) → GoesOn size honest seen cuts given disk → last ≡ disk
      → ((setup : Setup) → IsTrusted honest seen disk → KeepsRecords setup honest seen may_leave disk place [])
      → (setup : Setup) (taken : List ℕ) (unplayed : List Step)
      → OverCut (disks size honest seen may_leave cuts cut_to given last) ending.NoMemory setup taken [] unplayed []
  fresh_none given last disk place on is stands setup taken unplayed =
      uncut_over given last ending.NoMemory setup taken unplayed (ap cuts is ∙ on.same_cuts)
      (λ trusted. fresh_leaves setup last disk place [] is refl
      (stands setup (trusted_on size honest seen cuts given disk (lasts_on size honest seen cuts given disk on) trusted)))

  -- no journal was created
  unopened_is : (given last : D) (how : Ending) → IsUnopened (size given) (seen given) how → (setup : Setup)
      (unplayed : List Step) → Over (disks size honest seen may_leave cuts cut_to given last) how setup [] [] unplayed []
  unopened_is given last (ending.OtherSize len) h setup unplayed = (h.0, (refl, refl), h.1)
  unopened_is given last (ending.Uncreated why) h setup unplayed = (h.0, (refl, refl), h.1)
  unopened_is given last how h setup unplayed = absurd h

  pub unopened_over : (given last : D) (how : Ending) → GoesOn size honest seen cuts given last
      → IsUnopened (size given) (seen given) how → (setup : Setup) (unplayed : List Step)
      → OverCut (disks size honest seen may_leave cuts cut_to given last) how setup [] [] unplayed []
  unopened_over given last how on h setup unplayed =
      uncut_over given last how setup [] unplayed on.same_cuts (unopened_is given last how h setup unplayed)

-- a put to the sink failed, and the disk has the records of the past
module _ {D : Type 0} (size : D → ℕ) (honest : D → Bool) (seen : D → Option (List ℕ))
    (may_leave : D → List ℕ → Type 0) (cuts : D → ℕ) (cut_to : D → ℕ → D → Type 0) where
  pub broke_over : (given last : D) (setup : Setup) (many : ℕ) → IsReady (size given) (seen given)
      → Outlasts size honest seen cuts given last
      → (taken : List ℕ) (played unplayed : List Step) (past : List Entry)
      → Holds size honest seen cuts cut_to (Books setup honest seen may_leave last) setup given last many played past
      → OverCut (disks size honest seen may_leave cuts cut_to given last) ending.Unwritten setup taken played unplayed past
  broke_over given last setup many ready on taken played unplayed past holds = record {
    over = (ready, λ trusted. holds.stands (inl trusted) (trusted_on size honest seen cuts given last on trusted));
    survived = holds.survived;
    cut = rose_just (crashes past) (cuts given) (cuts last) holds.cut;
    just = λ next. holds.cut;
  }

-- a step ended the run: the sink failed within its entries, or it wasn't played
module _ {K D : Type 0} {g : Ghosts D} (written : K → Option (List ℕ))
    (puts : K → List ℕ → Result (Unit {0}) Failed → K → Type 0) where
  abbrev pub StepEnds : K → K → World D g → Step → Ending → D → Type 0
  StepEnds out out1 world s how last =
      ((how ≡ ending.Unwritten) × (failed : Failed) × (many : ℕ) × (next : Desk)
      × PlaysOn (IsTrusted g.honest g.seen (disk_of world)) (StandsFor world)
      (Books (setup_of world) g.honest g.seen g.may_leave last) (setup_of world) (desk_of world) next s
      (CutsIn s g.size g.honest g.seen g.cuts g.cut_to (disk_of world) last) (used_of world) many (g.seen last) (λ report. Writes written puts out report (Err failed) out1))
      ⊎ ((why : CrashNo) × (how ≡ ending.Unplayed why) × Breaks world last why s
      × (why ≢ crash_no.Disk → CutsIn s g.size g.honest g.seen g.cuts g.cut_to (disk_of world) last) × (out1 ≡ out))

  pub step_ends : (out out1 out2 : K) (left0 left left1 : Option (List ℕ)) (held rest : List ℕ) (number : ℕ)
      (stage : Stage) (how : Ending) (s : Step) (given last : D) (world : World D g)
      → IsReady (g.size given) (g.seen given) → Outlasts g.size g.honest g.seen g.cuts given (disk_of world)
      → LastsIn s g.size g.honest g.seen g.cuts (disk_of world) last → IsDone (setup_of world) stage
      → Going (IsReliable (IsTrusted g.honest g.seen given)) (λ any. desk_of world) left0 left held number stage (WorldHolds given world)
      (Wrote written puts out out1)
      → WithMoreTaken held left left1 (λ bytes. ScriptGoesOn number stage bytes (plays s stage) rest)
      → StepEnds out1 out2 world s how last
      → OfBytes left0 (λ bytes. Played (IsReliable (IsTrusted g.honest g.seen given)) bytes how left1
      (Wrote written puts out out2) (Broke written puts out out2)
      (OverCut (disks g.size g.honest g.seen g.may_leave g.cuts g.cut_to given last)))
  step_ends out out1 out2 left0 left left1 held rest number stage how s given last world ready on lasts done going reads
      (inl (is, failed, many, next, played)) =
      let trusted = IsTrusted g.honest g.seen given in
      let B = Broke written puts out out2 in
      let O = OverCut (disks g.size g.honest g.seen g.may_leave g.cuts g.cut_to given last) in
      let WritesThem : List Entry → Type 0 = λ report. Writes written puts out1 report (Err failed) out2 in
      let books = Books (setup_of world) g.honest g.seen g.may_leave last in
      subst (λ how. OfBytes left0 (λ bytes. Played (IsReliable trusted) bytes how left1 (Wrote written puts out out2) B O))
      (sym is)
      (played_broke (IsReliable trusted) (desk_of world) next left0 left left1 held rest number stage stage (setup_of world)
      (WorldHolds given world) (Holds g.size g.honest g.seen g.cuts g.cut_to books (setup_of world) given last many) s
      (Wrote written puts out out1) WritesThem (Wrote written puts out out2) B O (reliable_back trusted)
      (λ past none. inr none)
      (broke_over g.size g.honest g.seen g.may_leave g.cuts g.cut_to given last (setup_of world) many ready
      (lasts_then g.size g.honest g.seen g.cuts given (disk_of world) last on
      (lasts_in g.size g.honest g.seen g.cuts s (disk_of world) last lasts))) done
      (λ xs ys whole broken. (out1, failed, whole, broken)) going reads
      (world_carried given last world books (setup_of world) next many s WritesThem refl on lasts played))
  step_ends out out1 out2 left0 left left1 held rest number stage how s given last world ready on lasts done going reads
      (inr (why, is, breaks, lost, same)) =
      let trusted = IsTrusted g.honest g.seen given in
      let B = Broke written puts out out2 in
      let O = OverCut (disks g.size g.honest g.seen g.may_leave g.cuts g.cut_to given last) in
      subst (λ how. OfBytes left0 (λ bytes. Played (IsReliable trusted) bytes how left1 (Wrote written puts out out2) B O))
      (sym is)
      (played_torn (IsReliable trusted) (λ any. desk_of world) left0 left left1 held rest number stage stage (setup_of world)
      (WorldHolds given world) s why (Wrote written puts out out1) (Wrote written puts out out2) B O
      (unplayed_cut given last world why s ready on lasts lost breaks) done
      (λ xs wrote. subst (λ k. Wrote written puts out k xs) (sym same) wrote) going reads)
