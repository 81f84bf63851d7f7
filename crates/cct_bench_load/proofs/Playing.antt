-- What the playing of a load keeps from line to line, and what it leaves where it stops.
use Rattle.std.proofs.Common.{◌≡◌, ◌≢◌, ◌≤◌, ◌<◌, ◌+◌, ℕ, List, [], ◌∷◌, ◌++◌, reverse, Some, refl, sym, ◌∙◌, subst, subst₂}
use Rattle.std.proofs.Common.{inl, inr, arith, add-one}
use Rattle.std.proofs.Math.Nat.{le_trans}
use Rattle.cct_edge.proofs.Chains.{Rose-earlier}
use Rattle.cct_model.specs.lines.command.Step.{Step}
use Rattle.cct_model.specs.lines.command.Step.TheVariants as step
use Rattle.cct_model.specs.lines.entry.Entry.{Entry}
use Rattle.cct_model.specs.AtDesk.{EntriesAtDesk, LeavesDesk}
use Rattle.cct_model.specs.Change.{clear_desk}
use Rattle.cct_model.specs.Legal.{due_at}
use Rattle.cct_model.specs.Records.{records}
use Rattle.cct_model.specs.Transcript.{onto}
use Rattle.cct_disk.specs.declared.disk.Disk.{Ghosts}
use Rattle.cct_disk.specs.Disk.{IsTrusted}
use Rattle.cct_disk.specs.Disk.{Outlasts}
use Rattle.cct_host.specs.OnDisk.{LeavesRecords}
use Rattle.cct_laws.specs.Restart.{due_in}
use Rattle.cct_laws.proofs.steps.AtTheDesk.{leaves_more, legal_at_desk}
use Rattle.cct_laws.proofs.steps.OneMore.{transcript_on}
use Rattle.cct_host.specs.declared.refusal.CrashNo.{CrashNo}
use Rattle.cct_host.specs.declared.refusal.CrashNo.TheVariants as crash_no
use Rattle.cct_world.specs.declared.world.World.{World}
use Rattle.cct_world.specs.Early.{LegalBeforeLoss}
use Rattle.cct_world.specs.Holds.{WorldHolds}
use Rattle.cct_world.specs.Machine.{FailsIn, LosesIn, StepSuits}
use Rattle.cct_world.specs.World as worlds
use Rattle.cct_world.specs.Restarts.{LosesAt, Survived}
use Rattle.cct_world.specs.Step.{CutsIn, LastsIn, RoseBy, count_after, crashes, crashes_of}
use Rattle.cct_world.specs.Relying.{MayFail, due_to}
use Rattle.cct_world.specs.Serving.{DiskServes}
use Rattle.cct_world.specs.World.{Breaks, StandsFor, StepPlayed, StepUnplayed, capacity_in, desk_of, disk_of, setup_of, used_of}
use Rattle.cct_world.proofs.Early.{early_more, early_none}
use Rattle.cct_world.proofs.Holding.{holds_first, loses_at, world_on}
use Rattle.cct_world.proofs.Lasting.{lasts_here, lasts_in, lasts_then, trusted_on, uncut_in}
use Rattle.cct_world.proofs.Restarts.{after_cut_on}
use Rattle.cct_world.proofs.Suiting.{legal_suits}
use Rattle.cct_world.proofs.Relying.{crashes_none, reliable_back, reliable_survives}
use Rattle.cct_world.proofs.Surviving.{survived_by}
use Rattle.cct_gen.specs.Load.{line_at, lines_before, load_setup}
use Rattle.cct_gen.proofs.LoadSetup.{setup_sound}
use Rattle.cct_gen.proofs.Lines.{lines_in_range, one_line_more}
use Rattle.cct_bench_load.specs.declared.sums.LoadSums.{LoadSums}
use Rattle.cct_bench_load.specs.Sums.{SumsUp}
use Rattle.cct_bench_load.specs.Played.{Became, CutFor, FailsAt, HasTrusted, LeftAt, PlayedLines, Relies, Stopped, StoppedWithin}

-- a count that went up by so many doesn't fall
rose_later : (many first now last : ℕ) → now ≡ count_after many first → now ≤ last → RoseBy many first last
rose_later many first now last is later = subst (λ n. n ≤ last) is later

module _ {D : Type 0} {g : Ghosts D} (world : World D g) where
  -- What the loop over the lines of a load keeps: so many of them were played, the world became this one, and its disk
  -- outlasts the first one.
  pub record Goes (now : World D g) (sums : LoadSums) (seed n : ℕ) : Type 0 where
    pub lines : PlayedLines world seed n (desk_of now) (Became world now sums seed n)
    pub setup : setup_of now ≡ load_setup
    pub disk : DiskServes g.size g.honest g.seen g.cuts g.faults (disk_of world) (disk_of now) ⊥ ⊥

  pub goes_begin : (sums : LoadSums) (seed : ℕ) → StandsFor world [] → desk_of world ≡ clear_desk load_setup
      → SumsUp sums [] [] → setup_of world ≡ load_setup → Goes world sums seed 0
  unfolding lines_before
  goes_begin sums seed fresh clear counted setup = record {
    lines = record {
      transcript = [];
      legal = λ relies. (refl, clear);
      early = subst (LegalBeforeLoss (capacity_in world) load_setup [] []) (sym clear)
          (early_none (capacity_in world) load_setup);
      holds = record {
        so = holds_first g.size g.honest g.seen g.cuts g.cut_to (setup_of world) (disk_of world) (StandsFor world)
            (disk_of world) (used_of world) refl fresh.host.keeps.used (λ sure. fresh) [] [] refl refl;
        counted = counted;
      };
    };
    setup = setup;
    disk = record {
      outlasts = lasts_here g.size g.honest g.seen g.cuts (disk_of world);
      later = omega arith;
      rose = λ never. absurd never;
      lost = λ never. absurd never;
    };
  }

  -- what a step takes for granted of the past is so after the lines before it
  suits : (now : World D g) (sums : LoadSums) (seed n : ℕ) → (goes : Goes now sums seed n)
      → Relies world (onto [] goes.lines.transcript) → (s : Step)
      → StepSuits (setup_of now) (onto [] goes.lines.transcript) s
  suits now sums seed n goes relies s =
      subst (λ setup. StepSuits setup (onto [] goes.lines.transcript) s) (sym goes.setup)
      (legal_suits (capacity_in world) load_setup (lines_before seed n) goes.lines.transcript s setup_sound
      (lines_in_range seed n)
      (legal_at_desk (capacity_in world) load_setup (lines_before seed n) goes.lines.transcript setup_sound
      (lines_in_range seed n) (desk_of now, goes.lines.legal relies)))

  -- the entries of the step that comes next, and that the world goes on by them
  next_goes : (now next : World D g) (sums : LoadSums) (seed n : ℕ) (s : Step) (report : List Entry)
      → (goes : Goes now sums seed n) → worlds.Plays now next s report → crashes (reverse report) ≡ crashes_of s
      → Relies world (reverse report ++ onto [] goes.lines.transcript)
      → EntriesAtDesk (capacity_in world) load_setup (onto [] goes.lines.transcript) (desk_of now) s (reverse report)
      × StandsFor next (reverse report ++ onto [] goes.lines.transcript)
  next_goes now next sums seed n s report goes plays told relies =
      let past = onto [] goes.lines.transcript in
      let news = reverse report in
      let here = reliable_back (HasTrusted world) news past relies in
      let survives =
      reliable_survives (HasTrusted world) (HasTrusted now)
      (trusted_on g.size g.honest g.seen g.cuts (disk_of world) (disk_of now) goes.disk.outlasts) news past s told relies in
      let goes_so = plays past (goes.lines.holds.so.stands here) (suits now sums seed n goes here s) survives in
      (subst (λ setup. EntriesAtDesk (capacity_in now) setup past (desk_of now) s news) goes.setup goes_so.0, goes_so.1)

  -- one line more
  pub goes_on : (now next : World D g) (sums sums1 : LoadSums) (seed n : ℕ) (s : Step) (report : List Entry)
      → s ≡ line_at seed n → Goes now sums seed n → StepPlayed now next s report
      → ((played : List Step) (past : List Entry) (s : Step) → SumsUp sums played past
      → SumsUp sums1 (played ++ s ∷ []) (reverse report ++ past))
      → Goes next sums1 seed (n + 1)
  goes_on now next sums sums1 seed n s report is goes played counts =
      let t = goes.lines.transcript in
      let past = onto [] t in
      let news = reverse report in
      let before = goes.lines.holds in
      let on : onto [] (t ++ report) ≡ news ++ past = transcript_on t report in
      let more : lines_before seed (n + 1) ≡ lines_before seed n ++ s ∷ [] =
      rw (is, add-one) (one_line_more seed n) in
      let entries = next_goes now next sums seed n s report goes played.plays played.told in
      record {
        lines = record {
          transcript = t ++ report;
          legal = λ relies. let here = subst (Relies world) on relies in
              subst₂ (λ steps desk. LeavesDesk (capacity_in world) load_setup steps (t ++ report) desk) (sym more)
              (sym played.desk)
              (leaves_more (capacity_in world) load_setup (lines_before seed n) t report (desk_of now) s
              (goes.lines.legal (reliable_back (HasTrusted world) news past here)) (entries here).0);
          early = subst₂ (λ steps desk. LegalBeforeLoss (capacity_in world) load_setup steps (t ++ report) desk) (sym more)
              (sym played.desk)
              (early_more (Relies world) (capacity_in world) load_setup (lines_before seed n) t report (desk_of now) s
              (λ es none. inr none) played.told (λ relies. (entries relies).0) goes.lines.early);
          holds = subst (Became world next sums1 seed (n + 1)) (sym on) (record {
            so = subst (λ steps. WorldHolds (disk_of world) next steps (news ++ past)) (sym more)
                (world_on (disk_of world) now next s report (lines_before seed n) past goes.disk.outlasts played
                (λ relies. (entries relies).1) before.so);
            counted = subst (λ steps. SumsUp sums1 steps (news ++ past)) (sym more)
                (counts (lines_before seed n) past s before.counted);
          });
        };
        setup = played.setup ∙ goes.setup;
        disk = record {
          outlasts = lasts_then g.size g.honest g.seen g.cuts (disk_of world) (disk_of now) (disk_of next)
              goes.disk.outlasts (lasts_in g.size g.honest g.seen g.cuts s (disk_of now) (disk_of next) played.lasts);
          later = le_trans goes.disk.later played.later;
          rose = λ never. absurd never;
          lost = λ never. absurd never;
        };
      }

  -- why a step isn't played
  module _ (now : World D g) (left : D) (played : List Step) (past : List Entry) (same : setup_of now ≡ load_setup)
      (holds : WorldHolds (disk_of world) now played past) where
    disk_fails : (s : Step) → FailsIn now.machine.value left s → MayFail (Relies world past) load_setup past s
    disk_fails (step.Next addr) breaks = λ relies.
        let due = breaks past (holds.stands relies) in
        (due.0, subst (λ setup. due_at setup past addr ≡ Some due.0) same due.1.0)
    disk_fails (step.Crash at choice) breaks = tt
    disk_fails s breaks = absurd breaks

    module _ (s : Step) (lasted : Outlasts g.size g.honest g.seen g.cuts (disk_of world) (disk_of now))
        (lasts : LastsIn s g.size g.honest g.seen g.cuts (disk_of now) left) where
      lost_at : (why : CrashNo) → CutsIn s g.size g.honest g.seen g.cuts g.cut_to (disk_of now) left
          → LosesIn now.machine.value left why s
          → LosesAt (Relies world past) (CutFor world left) load_setup past (g.seen left) why s
      lost_at why cut breaks =
          subst (λ setup. LosesAt (Relies world past) (CutFor world left) setup past (g.seen left) why s) same
          (loses_at (disk_of world) left now played past holds why s lasted lasts cut breaks)

      fails_at : (why : CrashNo) → Breaks now left why s
          → (why ≢ crash_no.Disk → CutsIn s g.size g.honest g.seen g.cuts g.cut_to (disk_of now) left)
          → FailsAt world left why past s
      fails_at crash_no.Disk breaks lost = disk_fails s breaks
      fails_at crash_no.Alien breaks lost = lost_at crash_no.Alien (lost (λ is. cc is)) breaks
      fails_at (crash_no.BadRecord index) breaks lost =
          lost_at (crash_no.BadRecord index) (lost (λ is. cc is)) breaks
      fails_at (crash_no.Lost found many) breaks lost =
          lost_at (crash_no.Lost found many) (lost (λ is. cc is)) breaks

    disk_leaves : (s : Step) → HasTrusted world → IsTrusted g.honest g.seen (disk_of now)
        → FailsIn now.machine.value left s
        → LeavesRecords load_setup g.honest g.seen g.may_leave left (due_to load_setup past s) (reverse (records past))
    disk_leaves (step.Next addr) given trusted breaks =
        let due = breaks past (holds.stands (inl given)) in
        let is : due_at load_setup past addr ≡ Some due.0 =
        subst (λ setup. due_at setup past addr ≡ Some due.0) same due.1.0 in
        subst (λ r. LeavesRecords load_setup g.honest g.seen g.may_leave left r (reverse (records past))) (sym is)
        (subst (λ setup. LeavesRecords setup g.honest g.seen g.may_leave left (Some due.0) (reverse (records past))) same
        (due.1.1 trusted))
    disk_leaves (step.Crash at choice) given trusted breaks =
        subst (λ setup. LeavesRecords setup g.honest g.seen g.may_leave left (due_in setup past at) (reverse (records past)))
        same (breaks past (holds.stands (inl given)) trusted)
    disk_leaves s given trusted breaks = absurd breaks

    never_lost : (why : CrashNo) (s : Step) → HasTrusted world → IsTrusted g.honest g.seen (disk_of now)
        → StepSuits (setup_of now) past s → LosesIn now.machine.value left why s → ⊥
    never_lost why (step.Crash at choice) given trusted here breaks = breaks.0 past (holds.stands (inl given)) here trusted
    never_lost why s given trusted here breaks = breaks

    left_at : (why : CrashNo) (s : Step) → HasTrusted world → IsTrusted g.honest g.seen (disk_of now)
        → StepSuits (setup_of now) past s → Breaks now left why s → LeftAt world left why past s
    left_at crash_no.Disk s given trusted here breaks = disk_leaves s given trusted breaks
    left_at why s given trusted here breaks = never_lost why s given trusted here breaks

  -- a line wasn't played
  pub goes_stops : (now : World D g) (left : D) (why : CrashNo) (sums : LoadSums) (seed n lines : ℕ) (s : Step)
      → n < lines → (report : List Entry) → s ≡ line_at seed n → Goes now sums seed n
      → StepUnplayed now left why s report → StoppedWithin world seed lines left why
  goes_stops now left why sums seed n lines s within report is goes unplayed =
      let lasts = unplayed.lasts in
      let past = onto [] goes.lines.transcript in
      let before = goes.lines.holds.so in
      let outlasts = lasts_in g.size g.honest g.seen g.cuts s (disk_of now) left lasts in (
        n,
        within,
        desk_of now,
        record {
          transcript = goes.lines.transcript;
          legal = goes.lines.legal;
          early = goes.lines.early;
          holds = subst (λ x. Stopped world left why x (lines_before seed n) past) is (record {
            fails = fails_at now left (lines_before seed n) past goes.setup before s goes.disk.outlasts lasts why
                unplayed.breaks unplayed.cut;
            book = λ given. left_at now left (lines_before seed n) past goes.setup before why s given
                (trusted_on g.size g.honest g.seen g.cuts (disk_of world) (disk_of now) goes.disk.outlasts given)
                (suits now sums seed n goes (inl given) s) unplayed.breaks;
            survived = subst (λ setup. Survived (Relies world) (CutFor world left) setup (lines_before seed n) past)
                goes.setup
                (survived_by (Relies world) (Relies world) (CutFor world (disk_of now)) (CutFor world left)
                (λ es relies. relies)
                (after_cut_on g.size g.honest g.seen g.cuts g.cut_to (disk_of world) (disk_of now) left outlasts)
                (setup_of now) (lines_before seed n) past before.survived);
            cut = rose_later (crashes past) (g.cuts (disk_of world)) (g.cuts (disk_of now)) (g.cuts left) before.cut
                outlasts.later_cuts;
            just = λ quiet. uncut_in g.size g.honest g.seen g.cuts s (disk_of now) left lasts (crashes_none s quiet)
                ∙ before.cut;
          });
        },
      )

  pub disk_stops : (now : World D g) (left : D) (why : CrashNo) (sums : LoadSums) (seed n : ℕ) (s : Step)
      (report : List Entry) → Goes now sums seed n → StepUnplayed now left why s report
      → DiskServes g.size g.honest g.seen g.cuts g.faults (disk_of world) left (why ≡ crash_no.Disk)
      (why ≢ crash_no.Disk)
  disk_stops now left why sums seed n s report goes unplayed = record {
    outlasts = lasts_then g.size g.honest g.seen g.cuts (disk_of world) (disk_of now) left goes.disk.outlasts
        (lasts_in g.size g.honest g.seen g.cuts s (disk_of now) left unplayed.lasts);
    later = le_trans goes.disk.later unplayed.cause.later;
    rose = λ is. Rose-earlier _ _ _ goes.disk.later (unplayed.cause.rose is);
    lost = λ is. Rose-earlier _ _ _ goes.disk.outlasts.later_cuts (unplayed.lost is);
  }
