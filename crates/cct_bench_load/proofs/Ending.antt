-- What the playing of a load leaves, by how it came to its end.
use Rattle.std.proofs.Common.{◌≡◌, ◌+◌, ◌*◌, ℕ, None, List, [], ◌∷◌, ◌++◌, reverse, refl, sym, ap, ◌∙◌, subst, inl, inr}
use Rattle.std.proofs.Common.{Option, Result, Ok, Err}
use Rattle.std.proofs.lemmas.List.{append-nil}
use Rattle.cct_edge.specs.declared.fault.Failed.{Failed}
use Rattle.cct_model.specs.lines.command.Step.{Step}
use Rattle.cct_model.specs.lines.entry.Entry.{Entry}
use Rattle.cct_model.specs.lines.entry.Entry.TheVariants as entry
use Rattle.cct_model.specs.lines.entry.Totals.{Totals}
use Rattle.cct_model.specs.Money.{totals}
use Rattle.cct_model.specs.Change.{clear_desk}
use Rattle.cct_model.specs.Records.{records}
use Rattle.cct_model.specs.Transcript.{onto}
use Rattle.cct_disk.specs.declared.disk.Disk.{Ghosts}
use Rattle.cct_disk.specs.Disk.{IsTrusted}
use Rattle.cct_disk.specs.Disk.{Outlasts}
use Rattle.cct_journal.proofs.Calls.{settled_leaves, stands_settled}
use Rattle.cct_text.specs.Writing.{Broke, Writes, Wrote}
use Rattle.cct_text.proofs.Writing.{writes_then}
use Rattle.cct_host.specs.OnDisk.{LeavesRecords}
use Rattle.cct_host.specs.declared.refusal.CrashNo.{CrashNo}
use Rattle.cct_world.specs.declared.world.World.{World}
use Rattle.cct_world.specs.Restarts.{Survived, no_step}
use Rattle.cct_world.specs.Step.{crashes}
use Rattle.cct_world.specs.World.{StandsFor, capacity_in, desk_of, disk_of, setup_of}
use Rattle.cct_world.proofs.Early.{early_none}
use Rattle.cct_world.proofs.Lasting.{trusted_on}
use Rattle.cct_world.proofs.Relying.{rose_just}
use Rattle.cct_gen.specs.Load.{line_at, lines_before, load_setup, load_steps}
use Rattle.cct_bench_load.specs.declared.load.Load.{Load}
use Rattle.cct_bench_load.specs.declared.load.LoadEnd.{LoadEnd}
use Rattle.cct_bench_load.specs.declared.load.LoadEnd.TheVariants as load_end
use Rattle.cct_bench_load.specs.declared.sums.LoadSums.{LoadSums}
use Rattle.cct_bench_load.specs.Sums.{sums_of}
use Rattle.cct_bench_load.specs.Played.{Became, RecordsLeft, CutFor, Ends, HasTrusted, PlayedLines, PlaysLoad, Relies, StoppedWithin, SurvivedOn, Told}
use Rattle.cct_bench_load.specs.Played.{end_of, first_line}
use Rattle.cct_bench_load.proofs.Lines.{lines_behind}

module _ {D : Type 0} {g : Ghosts D} where
  -- the disk of a world that represents a past has its records
  world_leaves : (world : World D g) (left : D) (past : List Entry) → left ≡ disk_of world → StandsFor world past
      → IsTrusted g.honest g.seen (disk_of world)
      → LeavesRecords (setup_of world) g.honest g.seen g.may_leave left None (reverse (records past))
  world_leaves world left past is stands trusted =
      subst (λ disk. LeavesRecords (setup_of world) g.honest g.seen g.may_leave disk None (reverse (records past))) (sym is)
      (settled_leaves (stands_settled (stands.host.on_disk trusted)))

-- what is written where all steps were played, by the answer of the puts after them
abbrev pub WritesSums : (List Entry → Type 0) → (List Entry → List Entry → Type 0) → Load → List Entry
    → Result (Unit {0}) Failed → Type 0
WritesSums Written Breaks load told (Ok written) = Written (first_line load ∷ told)
WritesSums Written Breaks load told (Err failed) = Breaks (first_line load ∷ []) told

pub sums_written : {K : Type 0} (written : K → Option (List ℕ))
    (puts : K → List ℕ → Result (Unit {0}) Failed → K → Type 0) (a b c : K) (load : Load) (told : List Entry)
    (answer : Result (Unit {0}) Failed) → Writes written puts a (first_line load ∷ []) (Ok tt) b
    → Writes written puts b told answer c
    → WritesSums (Wrote written puts a c) (Broke written puts a c) load told answer
sums_written written puts a b c load told (Ok done) first last =
    writes_then written puts a b c (first_line load ∷ []) told (Ok done) first last
sums_written written puts a b c load told (Err failed) first last = (b, failed, first, last)

module _ {D : Type 0} {g : Ghosts D} (world : World D g) (load : Load) (left : D) (Written : List Entry → Type 0)
    (Breaks : List Entry → List Entry → Type 0) where
  -- no step was played, since the first line wasn't written whole
  pub broke_first : setup_of world ≡ load_setup → StandsFor world [] → left ≡ disk_of world
      → Breaks [] (first_line load ∷ []) → PlaysLoad world load load_end.Unwritten left Written Breaks
  broke_first same fresh is breaks = record {
    played = [];
    unplayed = load_steps load.seed load.rounds;
    transcript = [];
    steps_are = refl;
    legal = λ relies. (clear_desk load_setup, (refl, refl));
    early = (clear_desk load_setup, early_none (capacity_in world) load_setup);
    ends = inl (refl, breaks);
    book = λ trusted. subst (λ setup. LeavesRecords setup g.honest g.seen g.may_leave left None []) same
        (world_leaves world left [] is fresh trusted);
    survived = no_step;
    cut = rose_just 0 (g.cuts (disk_of world)) (g.cuts left) (ap g.cuts is);
    just = λ quiet. ap g.cuts is;
  }

  -- a step wasn't played
  pub stopped_in : (why : CrashNo) → StoppedWithin world load.seed (6 + 20 * load.rounds) left why
      → Written (first_line load ∷ []) → PlaysLoad world load (load_end.Unplayed why) left Written Breaks
  stopped_in why within wrote =
      let n = within.0 in
      let now = within.2 in
      let lines = within.3 in
      let behind = lines_behind load.seed n (6 + 20 * load.rounds) within.1 in
      record {
        played = lines_before load.seed n;
        unplayed = line_at load.seed n ∷ behind.0;
        transcript = lines.transcript;
        steps_are = behind.1;
        legal = λ relies. (now, lines.legal relies);
        early = (now, lines.early);
        ends = (lines.holds.fails, wrote);
        book = lines.holds.book;
        survived = lines.holds.survived;
        cut = lines.holds.cut;
        just = lines.holds.just;
      }

  -- all steps were played
  module _ (next : World D g) (sums : LoadSums) (told : Totals) (same : setup_of next ≡ load_setup)
      (tells : (past : List Entry) → StandsFor next past → told ≡ totals (setup_of next) past)
      (lasts : Outlasts g.size g.honest g.seen g.cuts (disk_of world) (disk_of next)) (is : left ≡ disk_of next)
      (lines : PlayedLines world load.seed (6 + 20 * load.rounds) (desk_of next)
      (Became world next sums load.seed (6 + 20 * load.rounds))) where
    abbrev steps : List Step
    steps = load_steps load.seed load.rounds

    abbrev past : List Entry
    past = onto [] lines.transcript

    ends_by : (how : LoadEnd) → Ends world left load how steps [] past Written Breaks
        → (HasTrusted world → RecordsLeft world left how [] past) → PlaysLoad world load how left Written Breaks
    ends_by how ends book = record {
      played = steps;
      unplayed = [];
      transcript = lines.transcript;
      steps_are = sym (append-nil steps);
      legal = λ relies. (desk_of next, lines.legal relies);
      early = (desk_of next, lines.early);
      ends = ends;
      book = book;
      survived = subst (λ disk. SurvivedOn world disk steps past) (sym is)
          (subst (λ setup. Survived (Relies world) (CutFor world (disk_of next)) setup steps past) same
          lines.holds.so.survived);
      cut = rose_just (crashes past) (g.cuts (disk_of world)) (g.cuts left) (ap g.cuts is ∙ lines.holds.so.cut);
      just = λ quiet. ap g.cuts is ∙ lines.holds.so.cut;
    }

    leaves_all : HasTrusted world
        → LeavesRecords load_setup g.honest g.seen g.may_leave left None (reverse (records past))
    leaves_all trusted =
        subst (λ setup. LeavesRecords setup g.honest g.seen g.may_leave left None (reverse (records past))) same
        (world_leaves next left past is (lines.holds.so.stands (inl trusted))
        (trusted_on g.size g.honest g.seen g.cuts (disk_of world) (disk_of next) lasts trusted))

    tells_all : (Wrote : List Entry → Type 0) → Wrote (sums_of steps past ++ entry.Balance told ∷ [])
        → Told world steps past Wrote
    tells_all Wrote wrote =
        (told, λ relies. tells past (lines.holds.so.stands relies) ∙ ap (λ setup. totals setup past) same, wrote)

    done : Written (first_line load ∷ (sums_of steps past ++ entry.Balance told ∷ []))
        → PlaysLoad world load load_end.Done left Written Breaks
    done wrote =
        ends_by load_end.Done (refl, tells_all (λ entries. Written (first_line load ∷ entries)) wrote) leaves_all

    broke_last : Breaks (first_line load ∷ []) (sums_of steps past ++ entry.Balance told ∷ [])
        → PlaysLoad world load load_end.Unwritten left Written Breaks
    broke_last broke =
        ends_by load_end.Unwritten (inr (refl, tells_all (Breaks (first_line load ∷ [])) broke)) leaves_all

    pub sums_end : (answer : Result (Unit {0}) Failed)
        → WritesSums Written Breaks load (sums_of steps past ++ entry.Balance told ∷ []) answer
        → PlaysLoad world load (end_of answer) left Written Breaks
    sums_end (Ok written) wrote = done wrote
    sums_end (Err failed) broke = broke_last broke
