-- What the disk of a machine has after a power cut, and after the steps that follow it.
use Rattle.std.proofs.Common.{◌≡◌, ◌⊎◌, ◌+◌, ◌++◌, ℕ, suc, Bool, true, false, List, [], ◌∷◌, length, reverse, refl, sym, ap, ◌∙◌}
use Rattle.std.proofs.Common.{inl, inr, subst, arith, Option, Some, None}
use Rattle.cct_model.specs.terms.device.Setup.{Setup}
use Rattle.cct_model.specs.lines.command.CrashAt.{CrashAt}
use Rattle.cct_model.specs.lines.command.Step.TheVariants as step
use Rattle.cct_model.specs.lines.record.Record.{Record}
use Rattle.cct_model.specs.lines.entry.Entry.{Entry}
use Rattle.cct_model.specs.lines.entry.Entry.TheVariants as entry
use Rattle.cct_model.specs.Legal.{EntriesOfRestart}
use Rattle.cct_model.specs.Records.{records}
use Rattle.cct_edge.specs.Faults.{next_count}
use Rattle.cct_disk.specs.declared.disk.Disk.{Ghosts}
use Rattle.cct_disk.specs.Disk.{IsTrusted}
use Rattle.cct_journal.specs.declared.journal.Journal.{Journal}
use Rattle.cct_journal.specs.Image.{IsBadAt}
use Rattle.cct_journal.specs.Journal as journals
use Rattle.cct_disk.specs.Disk.{Outlasts}
use Rattle.cct_journal.specs.Stands.{CutOnce}
use Rattle.cct_bus.specs.Bus as wires
use Rattle.cct_laws.specs.Restart.{RestartSuits}
use Rattle.cct_host.specs.declared.host.Host.{Host}
use Rattle.cct_host.specs.declared.refusal.CrashNo.{CrashNo}
use Rattle.cct_host.specs.declared.refusal.CrashNo.TheVariants as crash_no
use Rattle.cct_host.specs.declared.restart.Crashed.{Crashed}
use Rattle.cct_host.specs.Attempt.{Attempt, asked, idle, put, put_of}
use Rattle.cct_host.specs.OnDisk.{FindsBad, FindsMany, FindsWhole}
use Rattle.cct_host.specs.Host as hosts
use Rattle.cct_host.specs.Host.{put_by}
use Rattle.cct_host.specs.Restarting as restarting
use Rattle.cct_host.specs.Restarting.{HasAll, IsLost, RefusesRestart, restart_news, due_of, told_by}
use Rattle.cct_world.specs.declared.machine.Machine.{Machine}
use Rattle.cct_world.specs.Machine.{Breaks, DueAsTold, Plays, StandsFor}
use Rattle.cct_world.specs.Restarts.{CutAt, HasBad, Loses, Restarts, kept_in}
use Rattle.cct_world.specs.Step.{count_after, crashes}
use Rattle.cct_world.proofs.Forged.{all_told}
use Rattle.cct_world.proofs.Lasting.{lasts_on, lasts_then}
use Rattle.cct_world.proofs.Wires.{crash_wire}

-- records after others
pub records_counted : (news past : List Entry)
    → length (records (news ++ past)) ≡ length (records news) + length (records past)
records_counted [] past = omega arith
records_counted (entry.Put r ∷ news) past = let rest = records_counted news past in omega (arith, rest)
records_counted (entry.Kept r ∷ news) past = let rest = records_counted news past in omega (arith, rest)
records_counted (e ∷ news) past = records_counted news past

-- a journal counts the records that are reported
pub counts_on : (news past : List Entry) (used many : ℕ) → used ≡ length (records past)
    → many ≡ used + length (records news) → many ≡ length (records (news ++ past))
counts_on news past used many was is = omega (arith, was, is, records_counted news past)

-- the records of an attempt
all_records : (was : Bool) (addr : ℕ) (what : Attempt) → records (all_told was addr what) ≡ put_by (put_of what)
all_records was addr idle = refl
all_records true addr (asked sent heard None) = refl
all_records false addr (asked sent heard None) = refl
all_records true addr (asked sent heard (Some end)) = refl
all_records false addr (asked sent heard (Some end)) = refl
all_records was addr (put r None) = refl
all_records was addr (put r (Some end)) = refl

pub next_counts : (told : List Entry) (was : Bool) (addr : ℕ) (what : Attempt) (used many : ℕ)
    → reverse told ≡ all_told was addr what → many ≡ used + length (put_by (put_of what))
    → many ≡ used + length (records (reverse told))
next_counts told was addr what used many is counts =
    counts ∙ ap (λ rs. used + length rs) (sym (ap records is ∙ all_records was addr what))

-- and that they report no power cut, and none as kept
abbrev IsCalm : List Entry → Type 0
IsCalm news = (crashes news ≡ 0) × (kept_in news ≡ [])

all_calm : (was : Bool) (addr : ℕ) (what : Attempt) → IsCalm (all_told was addr what)
all_calm was addr idle = (refl, refl)
all_calm true addr (asked sent heard None) = (refl, refl)
all_calm false addr (asked sent heard None) = (refl, refl)
all_calm true addr (asked sent heard (Some end)) = (refl, refl)
all_calm false addr (asked sent heard (Some end)) = (refl, refl)
all_calm was addr (put r None) = (refl, refl)
all_calm was addr (put r (Some end)) = (refl, refl)

pub next_told : (told : List Entry) (was : Bool) (addr : ℕ) (what : Attempt) → reverse told ≡ all_told was addr what
    → IsCalm (reverse told)
next_told told was addr what is = subst IsCalm (sym is) (all_calm was addr what)

-- the records of a power cut
told_records : (many : ℕ) (kept : Option Record) → records (told_by many kept) ≡ put_by kept
told_records many None = refl
told_records many (Some r) = refl

pub restarts_count : (setup : Setup) (due : Option Record) (used many : ℕ) (seen : Option (List ℕ)) (news : List Entry)
    → Restarts setup due used many seen news → many ≡ used + length (records news)
restarts_count setup due used many seen news restarts =
    restarts.all.count
    ∙ ap (λ rs. used + length rs) (sym (ap records restarts.news_are ∙ told_records many restarts.all.kept))

module _ {D : Type 0} {g : Ghosts D} where
  -- why no host starts again
  bad_by : (old new : Journal D g) (due : Option Record) (setup : Setup) (index : ℕ) (image : List ℕ)
      → IsBadAt image index
      ⊎ (HasAll due (journals.used_of new) (journals.used_of old) × FindsBad setup image (journals.used_of new) index)
      → IsBadAt image index ⊎ HasBad setup (journals.used_of old) due image index
  bad_by old new due setup index image (inl bad) = inl bad
  bad_by old new due setup index image (inr (all, bad)) = inr (journals.used_of new, all, bad)

  loses_by : (old new : Journal D g) (due : Option Record) (setup : Setup) (why : CrashNo)
      → (why ≡ crash_no.Disk → ⊥) → RefusesRestart old new due setup why
      → Loses setup (journals.used_of old) due (g.seen (journals.disk_of new)) why
  loses_by old new due setup crash_no.Disk other refused = absurd (other refl)
  loses_by old new due setup crash_no.Alien other refused = refused
  loses_by old new due setup (crash_no.BadRecord index) other refused =
      λ image tells. bad_by old new due setup index image (refused image tells)
  loses_by old new due setup (crash_no.Lost found many) other refused = (
    refused.1,
    subst (IsLost due found) refused.1 refused.2,
    λ image tells. subst (FindsMany setup image) (sym refused.0) (refused.3 image tells),
  )

  crash_loses : (old : Machine D g) (at : Option CrashAt) (choice : ℕ) (left : D) (why : CrashNo)
      → (why ≡ crash_no.Disk → ⊥) → restarting.RestartFails old.host at choice left why
      → ((past : List Entry) → StandsFor old past → RestartSuits (hosts.setup_of old.host) past at
      → IsTrusted g.honest g.seen (hosts.disk_of old.host) → ⊥)
      × DueAsTold old at
      × Loses (hosts.setup_of old.host) (journals.used_of (hosts.journal_of old.host)) (due_of old.host at) (g.seen left) why
  crash_loses old at choice left why other fails = (
    λ past stands suits trusted. other (fails.never past stands.host suits trusted),
    λ past stands. fails.due past stands.host,
    subst
        (λ d. Loses (hosts.setup_of old.host) (journals.used_of (hosts.journal_of old.host)) (due_of old.host at) (g.seen d)
        why) fails.refused.1
        (loses_by (hosts.journal_of old.host) fails.refused.0 (due_of old.host at) (hosts.setup_of old.host) why other
        fails.refused.2),
  )

  pub crash_breaks : (old : Machine D g) (at : Option CrashAt) (choice : ℕ) (left : D) (why : CrashNo)
      → restarting.RestartFails old.host at choice left why → Breaks old left why (step.Crash at choice)
  crash_breaks old at choice left crash_no.Disk fails = λ past stands trusted. fails.leaves past stands.host trusted
  crash_breaks old at choice left crash_no.Alien fails =
      crash_loses old at choice left crash_no.Alien (λ is. cc is) fails
  crash_breaks old at choice left (crash_no.BadRecord index) fails =
      crash_loses old at choice left (crash_no.BadRecord index) (λ is. cc is) fails
  crash_breaks old at choice left (crash_no.Lost found many) fails =
      crash_loses old at choice left (crash_no.Lost found many) (λ is. cc is) fails

  -- a machine goes on by the entries of a power cut
  pub crash_plays : (old new : Machine D g) (at : Option CrashAt) (choice : ℕ) (crashed : Crashed) (report : List Entry)
      → reverse report ≡ restart_news crashed → restarting.TellsRestart old.host new.host at crashed → new.bus ≡ old.bus
      → Plays old new (step.Crash at choice) report
  crash_plays old new at choice crashed report told tells same past stands suits trusted =
      let goes = tells past stands.host suits trusted in
      subst (λ news. EntriesOfRestart (hosts.setup_of old.host) past at news × StandsFor new (news ++ past)) (sym told) (
        goes.0,
        record {
          host = goes.1;
          bus = crash_wire new.bus past crashed.records crashed.kept
              (subst (λ bus. wires.StandsFor bus past) (sym same) stands.bus);
        },
      )

  -- a host starts again
  pub crash_restarts : (old new : Host D g) (at : Option CrashAt) (choice : ℕ) (crashed : Crashed) (news : List Entry)
      → news ≡ restart_news crashed → restarting.Restarts old at choice new crashed
      → Restarts (hosts.setup_of old) (due_of old at) (journals.used_of (hosts.journal_of old))
      (journals.used_of (hosts.journal_of new)) (g.seen (hosts.disk_of new)) news
  crash_restarts old new at choice crashed news told restarts = record {
    all = record { kept = crashed.kept; kept_is = restarts.kept; count = sym restarts.records ∙ restarts.counts };
    news_are = told ∙ ap (λ n. told_by n crashed.kept) restarts.records;
    whole = λ image tells. subst (λ setup. FindsWhole setup image (journals.used_of (hosts.journal_of new))) restarts.setup
        (restarts.has_whole image tells);
  }

module _ {D : Type 0} (size : D → ℕ) (honest : D → Bool) (seen : D → Option (List ℕ)) (cuts : D → ℕ)
    (cut_to : D → ℕ → D → Type 0) (given : D) where
  -- what is so after a cut, where the disk lasts
  pub after_cut_on : (old new : D) → Outlasts size honest seen cuts old new → (times : ℕ) (P : ℕ → Option (List ℕ) → Type 0)
      → CutAt size honest seen cuts cut_to given old times P → CutAt size honest seen cuts cut_to given new times P
  after_cut_on old new lasts times P cut = record {
    before = cut.before;
    choice = cut.choice;
    after = cut.after;
    lasted = cut.lasted;
    is_cut = cut.is_cut;
    lasts = lasts_then size honest seen cuts cut.after old new cut.lasts lasts;
    count = cut.count;
    holds = cut.holds;
  }

  -- and after a cut that was made just now
  pub after_cut_now : (choice : ℕ) (old new : D) (times : ℕ) (P : ℕ → Option (List ℕ) → Type 0)
      → Outlasts size honest seen cuts given old → cuts old ≡ count_after times (cuts given)
      → CutOnce size honest seen cuts cut_to choice old new → P choice (seen new)
      → CutAt size honest seen cuts cut_to given new (suc times) P
  after_cut_now choice old new times P lasted before cut here = record {
    before = cut.before;
    choice = choice;
    after = cut.behind;
    lasted = lasts_then size honest seen cuts given old cut.before lasted
        (lasts_on size honest seen cuts old cut.before cut.goes_on);
    is_cut = cut.is_cut;
    lasts = lasts_on size honest seen cuts cut.behind new cut.lasts;
    count = sym cut.lasts.same_cuts ∙ cut.count ∙ ap next_count before;
    holds = subst (P choice) cut.same_seen here;
  }
