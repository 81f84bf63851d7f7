-- The sums of the books: each record follows those before it, what is posted covers what is spoken for, and the records
-- and those that are held are no more than the capacity. And how these change where one job changes.
use Rattle.std.proofs.Common.{◌≡◌, ◌≢◌, ℕ, ◌+◌, ◌≤◌, true, List, length, ap, sym, ◌∙◌, arith, le_of_eq}
use Rattle.cct_model.specs.terms.device.DeviceSetup.{DeviceSetup}
use Rattle.cct_model.specs.terms.device.Setup.{Setup}
use Rattle.cct_model.specs.lines.entry.Entry.{Entry}
use Rattle.cct_model.specs.Setup.{IsSoundSetup}
use Rattle.cct_model.specs.Job.{job}
use Rattle.cct_model.specs.Records.{records}
use Rattle.cct_model.specs.Money.{sum_over, posted_in, reserved_by, reserved_by_sale, reserved_at_work, spoken_for}
use Rattle.cct_model.specs.Refusal.{holds_of, holds_at, sale_holds, held}
use Rattle.cct_model.specs.Following.{all_follow}
use Rattle.cct_model.specs.Transcript.{lines_of, sale_lines}
use Rattle.cct_laws.specs.Law.{IsOf}
use Rattle.cct_laws.specs.Recorded.{HasNoJob}
use Rattle.cct_laws.proofs.money.RecordsHeldByAll.{holds_same, held_moved}
use Rattle.cct_laws.proofs.money.Reserved.{spoken_both, at_work_moved}
use Rattle.cct_laws.proofs.money.Covered.{covered_all, spoken_in}
use Rattle.cct_laws.proofs.money.FromRecordsAlone.{nothing_at_work}
use Rattle.cct_laws.proofs.money.Sums.{sum_same_each, all_found}
use Rattle.cct_laws.proofs.jobs.LeftAlone.{AreSame}

-- what the records and the sums over them and over the jobs keep
pub record Counts (capacity : ℕ) (setup : Setup) (past : List Entry) : Type 0 where
  pub follow : all_follow setup (records past) ≡ true
  pub covered : spoken_for setup past ≤ posted_in setup (records past)
  pub room : length (records past) + held setup past ≤ capacity

-- what changes where something came to one device: what the others do stays, and what is spoken for and what is held
-- grow by no more than they have room for
pub record Moves (setup : Setup) (d : DeviceSetup) (past later : List Entry) (spent need : ℕ) : Type 0 where
  pub others : (e : DeviceSetup) → d.addr ≢ e.addr → AreSame (lines_of e later) (lines_of e past)
  pub sale : job (sale_lines later) ≡ job (sale_lines past)
  pub follow : all_follow setup (records later) ≡ true
  pub spends :
      spoken_in setup (records later) + reserved_by setup d (job (lines_of d later)) + posted_in setup (records past)
      ≤ spoken_in setup (records past) + reserved_by setup d (job (lines_of d past)) + spent
      + posted_in setup (records later)
  pub holds :
      length (records later) + holds_of d (lines_of d later)
      ≤ length (records past) + holds_of d (lines_of d past) + need

covered_moved : (all all_later spoken spoken_later at_work at_work_later here here_later posted posted_later : ℕ)
    (spent : ℕ) →
    all ≡ spoken + at_work → all_later ≡ spoken_later + at_work_later → at_work_later + here ≤ at_work + here_later →
    spoken_later + here_later + posted ≤ spoken + here + spent + posted_later → all + spent ≤ posted →
    all_later ≤ posted_later
covered_moved all all_later spoken spoken_later at_work at_work_later here here_later posted posted_later spent both
    both_later moved spends covered =
    omega (arith, both, both_later, moved, spends, covered)

room_moved : (many many_later holds holds_later here here_later need capacity : ℕ) →
    holds_later + here ≤ holds + here_later → many_later + here_later ≤ many + here + need →
    many + holds + need ≤ capacity →
    many_later + holds_later ≤ capacity
room_moved many many_later holds holds_later here here_later need capacity moved grows full =
    omega (arith, moved, grows, full)

pub counts_moved : (capacity : ℕ) (setup : Setup) (d : DeviceSetup) (past later : List Entry) (spent need : ℕ) →
    IsSoundSetup setup → IsOf setup d → Counts capacity setup past →
    spoken_for setup past + spent ≤ posted_in setup (records past) →
    length (records past) + held setup past + need ≤ capacity → Moves setup d past later spent need →
    Counts capacity setup later
counts_moved capacity setup d past later spent need sound own counts covered full m = record {
  follow = m.follow;
  covered =
      covered_moved (spoken_for setup past) (spoken_for setup later) (spoken_in setup (records past))
      (spoken_in setup (records later)) (reserved_at_work setup past)
      (reserved_at_work setup later) (reserved_by setup d (job (lines_of d past)))
      (reserved_by setup d (job (lines_of d later)))
      (posted_in setup (records past)) (posted_in setup (records later)) spent (spoken_both setup past)
      (spoken_both setup later)
      (at_work_moved setup d past later sound.distinct own
      (λ e other. le_of_eq (ap (reserved_by setup e) (apart e other).jobs)) (le_of_eq (ap (reserved_by_sale setup) m.sale)))
      m.spends covered;
  room =
      room_moved (length (records past)) (length (records later)) (held setup past) (held setup later)
      (holds_of d (lines_of d past)) (holds_of d (lines_of d later)) need capacity
      (held_moved setup d past later sound.distinct own
      (λ e other. le_of_eq (holds_same e (lines_of e later) (lines_of e past) (apart e other).jobs
      (apart e other).epochs (apart e other).orders))
      (le_of_eq (ap sale_holds m.sale)))
      m.holds full;
}
  where
    apart : (e : DeviceSetup) → e.addr ≢ d.addr → AreSame (lines_of e later) (lines_of e past)
    apart e other = m.others e (λ same. other (sym same))

-- where the sale changes: what each device does stays
pub record Sells (setup : Setup) (past later : List Entry) (spent need : ℕ) : Type 0 where
  pub devices : (e : DeviceSetup) → IsOf setup e → AreSame (lines_of e later) (lines_of e past)
  pub follow : all_follow setup (records later) ≡ true
  pub spends :
      spoken_in setup (records later) + reserved_by_sale setup (job (sale_lines later)) + posted_in setup (records past)
      ≤ spoken_in setup (records past) + reserved_by_sale setup (job (sale_lines past)) + spent
      + posted_in setup (records later)
  pub holds :
      length (records later) + sale_holds (job (sale_lines later))
      ≤ length (records past) + sale_holds (job (sale_lines past)) + need

-- where the lines of no device changed, the running jobs reserve the same
pub same_at_work : (setup : Setup) (past later : List Entry) → IsSoundSetup setup →
    ((e : DeviceSetup) → IsOf setup e → AreSame (lines_of e later) (lines_of e past)) →
    sum_over (λ e. reserved_by setup e (job (lines_of e later))) setup.devices
    ≡ sum_over (λ e. reserved_by setup e (job (lines_of e past))) setup.devices
same_at_work setup past later sound same =
    sum_same_each (λ e. reserved_by setup e (job (lines_of e later)))
    (λ e. reserved_by setup e (job (lines_of e past))) setup.devices
    (all_found (λ e. reserved_by setup e (job (lines_of e later)) ≡ reserved_by setup e (job (lines_of e past)))
    setup.devices sound.distinct (λ e own. ap (reserved_by setup e) (same e own).jobs))

-- and as many records are held for them
pub same_held : (setup : Setup) (past later : List Entry) → IsSoundSetup setup →
    ((e : DeviceSetup) → IsOf setup e → AreSame (lines_of e later) (lines_of e past)) →
    sum_over (holds_at later) setup.devices ≡ sum_over (holds_at past) setup.devices
same_held setup past later sound same =
    sum_same_each (holds_at later) (holds_at past) setup.devices
    (all_found (λ e. holds_at later e ≡ holds_at past e) setup.devices sound.distinct
    (λ e own. holds_same e (lines_of e later) (lines_of e past) (same e own).jobs (same e own).epochs
    (same e own).orders))

pub same_apart : (few few_later here here_later : ℕ) → few_later ≡ few →
    (few_later + here_later) + here ≤ (few + here) + here_later
same_apart few few_later here here_later same = omega (arith, same)

pub counts_sold : (capacity : ℕ) (setup : Setup) (past later : List Entry) (spent need : ℕ) → IsSoundSetup setup →
    spoken_for setup past + spent ≤ posted_in setup (records past) →
    length (records past) + held setup past + need ≤ capacity → Sells setup past later spent need →
    Counts capacity setup later
counts_sold capacity setup past later spent need sound covered full s = record {
  follow = s.follow;
  covered =
      covered_moved (spoken_for setup past) (spoken_for setup later) (spoken_in setup (records past))
      (spoken_in setup (records later)) (reserved_at_work setup past)
      (reserved_at_work setup later) (reserved_by_sale setup (job (sale_lines past)))
      (reserved_by_sale setup (job (sale_lines later))) (posted_in setup (records past)) (posted_in setup (records later))
      spent (spoken_both setup past) (spoken_both setup later)
      (same_apart _ _ (reserved_by_sale setup (job (sale_lines past))) (reserved_by_sale setup (job (sale_lines later)))
      (same_at_work setup past later sound s.devices))
      s.spends covered;
  room =
      room_moved (length (records past)) (length (records later)) (held setup past) (held setup later)
      (sale_holds (job (sale_lines past))) (sale_holds (job (sale_lines later))) need capacity
      (same_apart _ _ (sale_holds (job (sale_lines past))) (sale_holds (job (sale_lines later)))
      (same_held setup past later sound s.devices)) s.holds full;
}

pub unspent : (spoken spoken_later here here_later posted posted_later : ℕ) → spoken_later ≡ spoken →
    here_later ≡ here → posted_later ≡ posted →
    spoken_later + here_later + posted ≤ spoken + here + 0 + posted_later
unspent spoken spoken_later here here_later posted posted_later first second third =
    omega (arith, first, second, third)

pub unheld : (many many_later here here_later : ℕ) → many_later ≡ many → here_later ≡ here →
    many_later + here_later ≤ many + here + 0
unheld many many_later here here_later first second = omega (arith, first, second)

-- nothing changed but that there are entries more
pub counts_same : (capacity : ℕ) (setup : Setup) (past later : List Entry) → IsSoundSetup setup →
    ((e : DeviceSetup) → IsOf setup e → AreSame (lines_of e later) (lines_of e past)) →
    job (sale_lines later) ≡ job (sale_lines past) → records later ≡ records past → Counts capacity setup past →
    Counts capacity setup later
counts_same capacity setup past later sound same sale same_records counts =
    counts_sold capacity setup past later 0 0 sound (nothing_more _ _ counts.covered) (nothing_more _ _ counts.room)
    (record {
      devices = same;
      follow = ap (all_follow setup) same_records ∙ counts.follow;
      spends =
          unspent (spoken_in setup (records past)) (spoken_in setup (records later))
          (reserved_by_sale setup (job (sale_lines past))) (reserved_by_sale setup (job (sale_lines later)))
          (posted_in setup (records past)) (posted_in setup (records later))
          (ap (spoken_in setup) same_records) (ap (reserved_by_sale setup) sale) (ap (posted_in setup) same_records);
      holds =
          unheld (length (records past)) (length (records later)) (sale_holds (job (sale_lines past)))
          (sale_holds (job (sale_lines later))) (ap length same_records) (ap sale_holds sale);
    })
  where
    nothing_more : (few many : ℕ) → few ≤ many → few + 0 ≤ many
    nothing_more few many le = omega (arith, le)

-- where no job runs, what is covered is what the records show
pub counts_lost : (capacity : ℕ) (setup : Setup) (later : List Entry) → IsSoundSetup setup → HasNoJob later →
    all_follow setup (records later) ≡ true → length (records later) + held setup later ≤ capacity →
    Counts capacity setup later
counts_lost capacity setup later sound none follow room = record {
  follow = follow;
  covered =
      let nothing = nothing_at_work setup later none in
      let covered = covered_all setup (records later) sound.distinct follow in
      let both = spoken_both setup later in
      omega (arith, nothing, covered, both);
  room = room;
}
