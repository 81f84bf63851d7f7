-- A host that starts over a carry of records that follow one another is one that starts over these, and has all of a past
-- without a job that has these records.
use Rattle.std.proofs.Common.{◌≡◌, ◌+◌, ◌-◌, ◌≤◌, ℕ, min, true, List, [], ◌∷◌, length, refl, reverse, sym, ap, ap₂, subst, ◌∙◌, arith}
use Rattle.std.specs.List.{All}
use Rattle.std.proofs.Math.Nat.{min-le_right}
use Rattle.std.proofs.lemmas.List.{length-reverse}
use Rattle.std.proofs.lemmas.List.Elements.{All-head, All-tail}
use Rattle.cct_model.specs.terms.device.DeviceSetup.{DeviceSetup}
use Rattle.cct_model.specs.terms.device.Setup.{Setup}
use Rattle.cct_model.specs.lines.entry.Entry.{Entry}
use Rattle.cct_model.specs.lines.record.Record.{Record}
use Rattle.cct_model.specs.lines.carry.Carry.{Carry}
use Rattle.cct_model.specs.Carry.{carry, carry_of, known_by}
use Rattle.cct_model.specs.Following.{all_follow, known_in}
use Rattle.cct_model.specs.Job as model
use Rattle.cct_model.specs.Order.{order}
use Rattle.cct_model.specs.Records.{epoch_in, greatest_id, order_in, records}
use Rattle.cct_model.specs.Refusal.{running_id, sale_id}
use Rattle.cct_model.specs.Transcript.{lines_of, sale_lines, scan_lines}
use Rattle.cct_disk.specs.declared.disk.Disk.{Ghosts}
use Rattle.cct_disk.specs.Disk.{IsTrusted}
use Rattle.cct_journal.specs.Image.{Continues}
use Rattle.cct_journal.specs.declared.journal.Journal.{Journal}
use Rattle.cct_journal.specs.Journal as journals
use Rattle.cct_journal.specs.declared.format.TheConstants.{MOST_RECORDS}
use Rattle.cct_journal_carry.specs.declared.tally.Tally.{Tally}
use Rattle.cct_journal_carry.specs.Tally as tallies
use Rattle.cct_journal_carry.proofs.Carried.{epoch_carried, order_carried}
use Rattle.cct_laws.specs.Recorded.{HasNoJob}
use Rattle.cct_laws.proofs.money.FromRecordsAlone.{epoch_recorded, order_recorded}
use Rattle.cct_host.specs.declared.desk.JobDesk.{JobDesk}
use Rattle.cct_host.specs.declared.desks.Desks.{Desks}
use Rattle.cct_host.specs.declared.orders.OrderState.{OrderState}
use Rattle.cct_host.specs.declared.host.Host.{Host}
use Rattle.cct_host.specs.OnDisk.{KeepsRecords}
use Rattle.cct_host.specs.Desk.{AllSit, IsFree, Sits, Works, puts_at, sum_in}
use Rattle.cct_host.specs.Desks as all_desks
use Rattle.cct_host.specs.Held.{puts_left}
use Rattle.cct_host.specs.Host.{Keeps, StandsFor, disk_of, setup_of}
use Rattle.cct_host.specs.Parts.{BelongTogether}
use Rattle.cct_host.specs.Place.{device, sales, scans}
use Rattle.cct_host.specs.Replayed.{AllReplay, AreUnused, IsUnused, Replays, ReplaysAt, Resumes}
use Rattle.cct_host.specs.Running.{command_of}
use Rattle.cct_host.specs.Starting.{HasReplayed, HasResumed, WentOver}
use Rattle.cct_host.proofs.Records.{rest_carry, rest_follow, rest_many}
use Rattle.cct_host.proofs.Replaying.{replays_same}

-- the desk of a device
replayed_sits : (d : DeviceSetup) (k : JobDesk) (past : List Entry) (setup : Setup) (before : List Record)
    → model.job (lines_of d past) ≡ model.free → records past ≡ before → IsUnused k → ReplaysAt d k (known_in setup before)
    → Sits past (device d) k
replayed_sits d k past setup before free same unused replays = record {
  works = subst (λ j. Works (device d) k.job j (model.epoch (lines_of d past)) (order (lines_of d past))) (sym free)
      (subst (λ j. Works (device d) j model.free (model.epoch (lines_of d past)) (order (lines_of d past))) (sym unused)
      tt);
  knows = (
    replays.epoch_is ∙ ap (epoch_in d.addr) (sym same) ∙ sym (epoch_recorded d past),
    replays.order_is ∙ ap (order_in d.addr) (sym same) ∙ sym (order_recorded d past),
    replays.id_is ∙ sym (ap (running_id d) free),
    replays.begun_is ∙ sym (ap command_of free),
  );
}

replayed_all : (ds : List DeviceSetup) (ks : List JobDesk) (past : List Entry) (setup : Setup) (before : List Record)
    → HasNoJob past → records past ≡ before → All IsUnused ks → AllReplay ds ks (known_in setup before)
    → AllSit past ds ks
replayed_all [] [] past setup before none same unused replays = tt
replayed_all [] (k ∷ ks) past setup before none same unused replays = absurd replays
replayed_all (d ∷ ds) [] past setup before none same unused replays = absurd replays
replayed_all (d ∷ ds) (k ∷ ks) past setup before none same unused replays = (
  replayed_sits d k past setup before (none.devices d) same (All-head IsUnused k ks unused) replays.0,
  replayed_all ds ks past setup before none same (All-tail IsUnused k ks unused) replays.1,
)

-- the desk of scans
free_scan : (k : JobDesk) (past : List Entry) → model.job (scan_lines past) ≡ model.free → IsFree k → Sits past scans k
free_scan k past none free = record {
  works = subst (λ j. Works scans k.job j (model.epoch (scan_lines past)) (order (scan_lines past))) (sym none)
      (subst (λ j. Works scans j model.free (model.epoch (scan_lines past)) (order (scan_lines past))) (sym free.0) tt);
  knows = ap (λ (x : OrderState). x.begun) free.2 ∙ sym (ap command_of none);
}

-- the desk of sales
free_sale : (k : JobDesk) (past : List Entry) → model.job (sale_lines past) ≡ model.free → IsFree k → Sits past sales k
free_sale k past none free = record {
  works = subst (λ j. Works sales k.job j (model.epoch (sale_lines past)) (order (sale_lines past))) (sym none)
      (subst (λ j. Works sales j model.free (model.epoch (sale_lines past)) (order (sale_lines past))) (sym free.0) tt);
  knows = (
    ap (λ (x : OrderState). x.order) free.2,
    ap (λ (x : OrderState). x.id) free.2 ∙ sym (ap sale_id none),
    ap (λ (x : OrderState). x.begun) free.2 ∙ sym (ap command_of none),
  );
}

pub replayed_stand : (desks : Desks) (past : List Entry) (before : List Record) → HasNoJob past → records past ≡ before
    → Replays desks before → all_desks.StandsFor desks past
replayed_stand desks past before none same replays = record {
  sound = replays.sound;
  devices = replayed_all _ _ past (all_desks.setup_of desks) before none same replays.unused.devices replays.devices;
  scan = free_scan desks.scan past none.scan replays.unused.scan;
  sale = free_sale desks.sale past none.sale replays.unused.sale;
  last = replays.last_is ∙ ap greatest_id (sym same);
}

-- desks that begin with the carry of records that follow one another are as after these
pub begun_over : (desks : Desks) (before : List Record) → all_follow (all_desks.setup_of desks) before ≡ true
    → Resumes desks (carry (all_desks.setup_of desks) before) → WentOver desks before
begun_over desks before follow resumes =
    let setup = all_desks.setup_of desks in
    record {
      replays = record {
        sound = resumes.sound;
        unused = resumes.unused;
        devices = replays_same _ _ (known_by setup (carry setup before)) (known_in setup before)
            (epoch_carried setup before resumes.sound follow) (order_carried setup before resumes.sound follow)
            resumes.devices;
        last_is = resumes.last_is;
      };
      follow = follow;
    }

-- no job may put anything
unused_put : (ks : List JobDesk) → All IsUnused ks → sum_in puts_at ks ≡ 0
unused_put [] unused = refl
unused_put (k ∷ ks) unused =
    ap₂ (λ m n. m + n) (ap puts_left (All-head IsUnused k ks unused))
    (unused_put ks (All-tail IsUnused k ks unused))

pub nothing_put : (desks : Desks) → AreUnused desks → all_desks.puts_of desks ≡ 0
nothing_put desks unused =
    ap₂ (λ m n. m + n) (unused_put desks.devices.items unused.devices) (ap puts_left unused.sale.0)

-- at first
pub nothing_yet : HasNoJob []
nothing_yet = record { devices = λ d. refl; scan = refl; sale = refl }

within : (used base room : ℕ) → base ≤ MOST_RECORDS → used ≤ base + min room (MOST_RECORDS - base)
    → used ≤ MOST_RECORDS
within used base room few fits = omega (arith, few, fits, min-le_right room (MOST_RECORDS - base))

module _ {D : Type 0} {g : Ghosts D} where
  -- a journal has no more records than it takes
  room_within : (journal : Journal D g) → journals.used_of journal ≤ MOST_RECORDS
  room_within journal =
      within (journals.used_of journal) (journals.base_of journal) _ journal.placed.begins.base_fits journal.placed.fits

  -- parts without a job belong together
  pub free_together : (desks : Desks) (tally : Tally) (journal : Journal D g) → AreUnused desks
      → tallies.setup_of tally ≡ all_desks.setup_of desks → tallies.many_of tally ≡ journals.used_of journal
      → BelongTogether desks tally journal
  free_together desks tally journal unused same tallied =
      let puts = nothing_put desks unused in
      record { same = same; tallied = tallied; fits = omega (arith, puts, room_within journal) }

  -- a host that starts over a carry and the rest of records is one that starts over all of them, where the first ones
  -- follow one another
  pub resumed_replayed : (host : Host D g) (base : ℕ) (c : Carry) (rest records : List Record)
      → (continues : Continues (carry_of (setup_of host)) base c rest records)
      → all_follow (setup_of host) (reverse continues.first) ≡ true → HasResumed host base c rest
      → HasReplayed host (reverse records)
  resumed_replayed host base c rest records continues first resumed =
      let setup = setup_of host in
      let sound = resumed.from_carry.resumes.sound in
      let follow = rest_follow setup base c rest records sound continues first resumed.follow in
      let same = resumed.carry_is ∙ rest_carry setup base c rest records sound continues first resumed.follow in
      let many = rest_many setup base c rest records sound continues ∙ sym (length-reverse records) in
      record {
        over = begun_over host.desks (reverse records) follow (subst (Resumes host.desks) same resumed.from_carry.resumes);
        used = resumed.used ∙ many;
        carry_is = same;
      }

  pub started_keeps : (host : Host D g) (past : List Entry) (before : List Record) → HasNoJob past
      → records past ≡ before → HasReplayed host before → Keeps host past
  started_keeps host past before none same starts = record {
    desks = replayed_stand host.desks past before none same starts.over.replays;
    follow = ap (all_follow (setup_of host)) same ∙ starts.over.follow;
    carry_is = starts.carry_is ∙ ap (carry (setup_of host)) (sym same);
    used = starts.used ∙ ap length (sym same);
  }

  -- and represents it, where its disk, if that is trusted, keeps just these records
  pub started_stands : (host : Host D g) (past : List Entry) (before : List Record) → HasNoJob past
      → records past ≡ before → HasReplayed host before
      → (IsTrusted g.honest g.seen (disk_of host)
      → KeepsRecords (setup_of host) g.honest g.seen g.may_leave (disk_of host) (journals.place_of host.journal) (reverse before))
      → StandsFor host past
  started_stands host past before none same starts on_disk = record {
    keeps = started_keeps host past before none same starts;
    on_disk = λ trusted. subst (λ rs. KeepsRecords (setup_of host) g.honest g.seen g.may_leave (disk_of host)
        (journals.place_of host.journal) (reverse rs)) (sym same) (on_disk trusted);
  }
