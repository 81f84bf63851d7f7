-- What is so after a past goes on over a step.
use Rattle.std.proofs.Common.{◌≡◌, ◌+◌, ◌++◌, ℕ, Bool, List, [], ◌∷◌, Option, None, length, reverse}
use Rattle.std.proofs.Common.{refl, sym, ap, ◌∙◌, subst, subst₂}
use Rattle.cct_model.specs.terms.device.Setup.{Setup}
use Rattle.cct_model.specs.lines.command.CrashAt.{CrashAt}
use Rattle.cct_model.specs.lines.command.Step.{Step}
use Rattle.cct_model.specs.lines.command.Step.TheVariants as step
use Rattle.cct_model.specs.lines.record.Record.{Record}
use Rattle.cct_model.specs.lines.entry.Entry.{Entry}
use Rattle.cct_model.specs.Records.{records}
use Rattle.cct_disk.specs.declared.disk.Disk.{Ghosts}
use Rattle.cct_disk.specs.Disk.{IsTrusted}
use Rattle.cct_disk.specs.Disk.{Outlasts}
use Rattle.cct_laws.specs.Restart.{due_in}
use Rattle.cct_host.specs.Host.{put_by}
use Rattle.cct_world.specs.declared.machine.Machine.{Machine}
use Rattle.cct_host.specs.declared.refusal.CrashNo.{CrashNo}
use Rattle.cct_world.specs.declared.world.World.{World}
use Rattle.cct_world.specs.Holds.{Holds, WorldHolds}
use Rattle.cct_world.specs.Machine.{LosesIn, due_of}
use Rattle.cct_world.specs.Restarts.{CutAt, IsWhole, Loses, LosesAt, RestartsAt, RestartsIn, WasDue, no_step}
use Rattle.cct_world.specs.Step.{CutsIn, LastsIn, crashes, crashes_of}
use Rattle.cct_world.specs.Relying.{IsReliable}
use Rattle.cct_world.specs.World.{RestartsBy, StandsFor, StepPlayed, disk_of, setup_of, used_of}
use Rattle.cct_world.proofs.Lasting.{lasts_in}
use Rattle.cct_world.proofs.Restarts.{after_cut_now, after_cut_on, counts_on}
use Rattle.cct_world.proofs.Surviving.{each_on, survived_by}
use Rattle.cct_world.proofs.Relying.{cut_on}

module _ {D : Type 0} (size : D → ℕ) (honest : D → Bool) (seen : D → Option (List ℕ)) (cuts : D → ℕ)
    (cut_to : D → ℕ → D → Type 0) (setup : Setup) (given : D) where
  abbrev trusted : Type 0
  trusted = IsTrusted honest seen given

  -- before the first step
  pub holds_first : (Stands : List Entry → Type 0) (now : D) (used : ℕ) → cuts now ≡ cuts given → used ≡ 0
      → (IsReliable trusted [] → Stands []) → (played : List Step) (past : List Entry) → played ≡ [] → past ≡ []
      → Holds size honest seen cuts cut_to Stands setup given now used played past
  holds_first Stands now used same none stands played past unplayed is =
      subst₂ (Holds size honest seen cuts cut_to Stands setup given now used) (sym unplayed) (sym is) (record {
        stands = stands;
        counts = none;
        survived = no_step;
        cut = same;
      })

  -- which record was due
  due_at_last : (Before : List Entry → Type 0) (now : D) (used : ℕ) (played : List Step) (past : List Entry)
      (at : Option CrashAt) (due : Option Record) → Holds size honest seen cuts cut_to Before setup given now used played past
      → (at ≡ None → due ≡ None) → ((lived : List Entry) → Before lived → due ≡ due_in setup lived at)
      → WasDue (IsReliable trusted past) setup past at due
  due_at_last Before now used played past at due holds none told = record {
    none = none;
    told = λ is. told past (holds.stands is);
  }

  -- over a step that was played
  module _ (Before After : List Entry → Type 0) (old new : D) where
    -- what its entries show
    told_in : (s : Step) (used many : ℕ) (news : List Entry) (played : List Step) (past : List Entry)
        → Outlasts size honest seen cuts given old → LastsIn s size honest seen cuts old new
        → crashes news ≡ crashes_of s → CutsIn s size honest seen cuts cut_to old new
        → RestartsIn Before setup s used many (seen new) news
        → Holds size honest seen cuts cut_to Before setup given old used played past
        → RestartsAt (IsReliable trusted past) (CutAt size honest seen cuts cut_to given new) setup past s news
    told_in (step.Crash at choice) used many news played past lasted lasts told cut (due, none, was, restarts) before = (
      due,
      many,
      due_at_last Before old used played past at due before none was,
      record {
        kept = restarts.all.kept;
        kept_is = restarts.all.kept_is;
        count = restarts.all.count ∙ ap (λ put. put + length (put_by restarts.all.kept)) before.counts;
      },
      restarts.news_are,
      after_cut_now size honest seen cuts cut_to given choice old new (crashes past)
          (λ chosen after. (chosen ≡ choice) × IsWhole setup after many) lasted before.cut cut
          (refl, restarts.whole),
    )
    told_in s used many news played past lasted lasts told cut unkept before = (told, unkept)

    pub holds_on : (s : Step) (used many : ℕ) (news : List Entry) (played : List Step) (past : List Entry)
        → Outlasts size honest seen cuts given old → LastsIn s size honest seen cuts old new
        → crashes news ≡ crashes_of s → CutsIn s size honest seen cuts cut_to old new
        → many ≡ used + length (records news) → RestartsIn Before setup s used many (seen new) news
        → (IsReliable trusted (news ++ past) → After (news ++ past))
        → Holds size honest seen cuts cut_to Before setup given old used played past
        → Holds size honest seen cuts cut_to After setup given new many (played ++ s ∷ []) (news ++ past)
    holds_on s used many news played past lasted lasts told cut more restarts after before =
        let Before_cut = CutAt size honest seen cuts cut_to given old in
        let After_cut = CutAt size honest seen cuts cut_to given new in
        record {
          stands = after;
          counts = counts_on news past used many before.counts more;
          survived = each_on (λ es x ns. RestartsAt (IsReliable trusted es) After_cut setup es x ns) played news past s
              (survived_by (IsReliable trusted) (IsReliable trusted) Before_cut After_cut (λ es is. is)
              (after_cut_on size honest seen cuts cut_to given old new (lasts_in size honest seen cuts s old new lasts)) setup
              played past before.survived)
              (told_in s used many news played past lasted lasts told cut restarts before);
          cut = cut_on size honest seen cuts cut_to old new s news past (cuts given) before.cut told cut;
        }

module _ {D : Type 0} {g : Ghosts D} where
  -- none is due where a power cut names no put
  due_none : (machine : Machine D g) (at : Option CrashAt) → at ≡ None → due_of machine at ≡ None
  due_none machine at none = ap (due_of machine) none

  -- what a power cut leaves
  pub restarts_in : (now next : World D g) (s : Step) (news : List Entry) → RestartsBy now next s news
      → RestartsIn (StandsFor now) (setup_of now) s (used_of now) (used_of next) (g.seen (disk_of next)) news
  restarts_in now next (step.Crash at choice) news restarts =
      (due_of now.machine.value at, due_none now.machine.value at, restarts.0, restarts.1)
  restarts_in now next s news restarts = restarts

  -- what is so of a world
  pub world_on : (given : D) (now next : World D g) (s : Step) (report : List Entry) (played : List Step)
      (past : List Entry) → Outlasts g.size g.honest g.seen g.cuts given (disk_of now) → StepPlayed now next s report
      → (IsReliable (IsTrusted g.honest g.seen given) (reverse report ++ past)
      → StandsFor next (reverse report ++ past))
      → WorldHolds given now played past → WorldHolds given next (played ++ s ∷ []) (reverse report ++ past)
  world_on given now next s report played past lasted goes stands before =
      let news = reverse report in
      subst (λ setup. Holds g.size g.honest g.seen g.cuts g.cut_to (StandsFor next) setup given (disk_of next)
      (used_of next) (played ++ s ∷ []) (news ++ past)) (sym goes.setup)
      (holds_on g.size g.honest g.seen g.cuts g.cut_to (setup_of now) given (StandsFor now) (StandsFor next)
      (disk_of now) (disk_of next) s (used_of now) (used_of next) news played past lasted goes.lasts goes.told goes.cut
      goes.counts (restarts_in now next s news goes.restarts) stands before)

  -- why no host starts again
  pub loses_at : (given left : D) (now : World D g) (played : List Step) (past : List Entry)
      → WorldHolds given now played past → (why : CrashNo) (s : Step)
      → Outlasts g.size g.honest g.seen g.cuts given (disk_of now)
      → LastsIn s g.size g.honest g.seen g.cuts (disk_of now) left
      → CutsIn s g.size g.honest g.seen g.cuts g.cut_to (disk_of now) left → LosesIn now.machine.value left why s
      → LosesAt (IsReliable (IsTrusted g.honest g.seen given) past)
      (CutAt g.size g.honest g.seen g.cuts g.cut_to given left) (setup_of now) past (g.seen left) why s
  loses_at given left now played past holds why (step.Crash at choice) lasted lasts cut loses =
      let due = due_of now.machine.value at in (
        due,
        due_at_last g.size g.honest g.seen g.cuts g.cut_to (setup_of now) given (StandsFor now) (disk_of now)
            (used_of now) played past at due holds (due_none now.machine.value at) loses.1,
        after_cut_now g.size g.honest g.seen g.cuts g.cut_to given choice (disk_of now) left (crashes past)
            (λ chosen after. (chosen ≡ choice) × (g.seen left ≡ after)
            × Loses (setup_of now) (length (records past)) due after why) lasted holds.cut cut
            (refl, refl, subst (λ put. Loses (setup_of now) put due (g.seen left) why) holds.counts loses.2),
      )
  loses_at given left now played past holds why s lasted lasts cut loses = absurd loses
