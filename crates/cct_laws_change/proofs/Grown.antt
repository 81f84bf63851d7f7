-- What a step adds to what is spoken for and to the records and those that are held: no more than the commands that it takes
-- spend and want room for. So what is available sinks by no more.
use Rattle.std.proofs.Common.{◌≡◌, ◌≢◌, ℕ, suc, ◌+◌, ◌-◌, ◌≤◌, List, [], ◌∷◌, ◌++◌, length, refl, ap, sym, ◌∙◌, subst, Option, Some, None, inl, inr, arith, le_of_eq}
use Rattle.cct_model.specs.terms.wire.TheConstants.{BROADCAST, HOST}
use Rattle.cct_model.specs.terms.device.DeviceSetup.{DeviceSetup}
use Rattle.cct_model.specs.terms.device.Setup.{Setup}
use Rattle.cct_model.specs.lines.record.Record.{Record}
use Rattle.cct_model.specs.lines.record.Record.TheVariants as record_of
use Rattle.cct_model.specs.lines.command.Command.{Command}
use Rattle.cct_model.specs.lines.command.Command.TheVariants as command
use Rattle.cct_model.specs.lines.command.Step.{Step}
use Rattle.cct_model.specs.lines.entry.End.{End}
use Rattle.cct_model.specs.lines.entry.End.TheVariants.{Sold}
use Rattle.cct_model.specs.lines.entry.Entry.{Entry}
use Rattle.cct_model.specs.lines.entry.Entry.TheVariants as entry
use Rattle.cct_model.specs.Exchange.{device_at}
use Rattle.cct_model.specs.Setup.{IsSoundSetup}
use Rattle.cct_model.specs.Line.{Line}
use Rattle.cct_model.specs.Job.{address_of, job, puts}
use Rattle.cct_model.specs.Records.{records}
use Rattle.cct_model.specs.Money.{available, posted_in, reserved_at_work, reserved_by, reserved_by_sale, spoken_for, sum_over, totals}
use Rattle.cct_model.specs.Refusal.{held, holds_of, need_for, sale_holds}
use Rattle.cct_model.specs.Legal.{keeping_restart, with_end}
use Rattle.cct_model.specs.Transcript.{lines_of, met, sale_lines}
use Rattle.cct_laws.specs.Ids.{Ids}
use Rattle.cct_laws.specs.Law.{IsOf}
use Rattle.cct_laws.specs.Recorded.{HasNoJob}
use Rattle.cct_laws.proofs.steps.EachKeeps.{works_at}
use Rattle.cct_laws.proofs.setups.DeviceAt.{same_or_other}
use Rattle.cct_laws.proofs.jobs.AtDesk.{desk_apart}
use Rattle.cct_laws.proofs.jobs.StepBrings.{AtDevice, AtWork, Brought, row_after, balanced, began_sale, began_scan, came, ended_short, faulted, halted, idled, lost_in_put, lost_in_sale, lost_power, made_exchange, made_put, nobody, of_desk, of_device, poll_end, poll_wire, polled, record_end, refused, sold, took, wire_end, wire_of, from_job, IsOfNoJob, came_of_no_job, desk_of_no_job}
use Rattle.cct_laws.proofs.jobs.SeenAtOne.{not_zero}
use Rattle.cct_laws.proofs.jobs.LeftAlone.{AreSame, came_quiet, off_host, records_end, same_came, same_elsewhere, same_end, same_lines, same_put, same_taken, same_wire}
use Rattle.cct_laws.proofs.money.RecordsHeldByAll.{held_kept, held_moved, held_restarted, holds_same}
use Rattle.cct_laws.proofs.money.Books.{Books, due_follows, held_sale_kept, selling_holds, sold_spends, sold_holds}
use Rattle.cct_laws.proofs.money.Counting.{Moves, same_at_work, same_held, same_apart, unspent, unheld}
use Rattle.cct_laws.proofs.money.Covered.{sold_spoken, spoken_in}
use Rattle.cct_laws.proofs.money.JobsCanPut.{scan_unsold}
use Rattle.cct_laws.proofs.money.NoLongerReserved.{sale_reserves}
use Rattle.cct_laws.proofs.money.FromRecordsAlone.{nothing_at_work, restart_frees}
use Rattle.cct_laws.proofs.money.Reserved.{at_work_moved, spent_by, spoken_both}
use Rattle.cct_laws.proofs.money.BooksChange.{moves_asked, moves_halted, moves_put, moves_taken}
use Rattle.cct_laws.proofs.orders.Ids.{put_owned}
use Rattle.cct_laws_change.specs.Course.{commands_in, needs_in}

-- what these commands spend
abbrev pub spent_in : Setup → List Command → ℕ
spent_in setup [] = 0
spent_in setup (c ∷ cs) = spent_by setup c + spent_in setup cs

-- from one past to a later one no more than so much more is spoken for beside what was posted since, and no more than so many
-- more records are put and held
pub record Grows (setup : Setup) (past later : List Entry) (spent need : ℕ) : Type 0 where
  pub spends :
      spoken_for setup later + posted_in setup (records past)
      ≤ spoken_for setup past + spent + posted_in setup (records later)
  pub holds : length (records later) + held setup later ≤ length (records past) + held setup past + need

-- over plain numbers
spends_moved : (all all_later spoken spoken_later at_work at_work_later here here_later posted posted_later spent : ℕ) →
    all ≡ spoken + at_work → all_later ≡ spoken_later + at_work_later → at_work_later + here ≤ at_work + here_later →
    spoken_later + here_later + posted ≤ spoken + here + spent + posted_later →
    all_later + posted ≤ all + spent + posted_later
spends_moved all all_later spoken spoken_later at_work at_work_later here here_later posted posted_later spent both both_later moved spends =
    omega (arith, both, both_later, moved, spends)

holds_moved : (many many_later holds holds_later here here_later need : ℕ) → holds_later + here ≤ holds + here_later →
    many_later + here_later ≤ many + here + need → many_later + holds_later ≤ many + holds + need
holds_moved many many_later holds holds_later here here_later need moved grows = omega (arith, moved, grows)

-- where something came to one device
grows_moved : (setup : Setup) (d : DeviceSetup) (past later : List Entry) (spent need : ℕ) → IsSoundSetup setup →
    IsOf setup d → Moves setup d past later spent need → Grows setup past later spent need
grows_moved setup d past later spent need sound own m = record {
  spends =
      spends_moved (spoken_for setup past) (spoken_for setup later) (spoken_in setup (records past))
      (spoken_in setup (records later)) (reserved_at_work setup past) (reserved_at_work setup later)
      (reserved_by setup d (job (lines_of d past))) (reserved_by setup d (job (lines_of d later)))
      (posted_in setup (records past)) (posted_in setup (records later)) spent (spoken_both setup past)
      (spoken_both setup later)
      (at_work_moved setup d past later sound.distinct own
      (λ e other. le_of_eq (ap (reserved_by setup e) (apart e other).jobs)) (le_of_eq (ap (reserved_by_sale setup) m.sale)))
      m.spends;
  holds =
      holds_moved (length (records past)) (length (records later)) (held setup past) (held setup later)
      (holds_of d (lines_of d past)) (holds_of d (lines_of d later)) need
      (held_moved setup d past later sound.distinct own
      (λ e other. le_of_eq (holds_same e (lines_of e later) (lines_of e past) (apart e other).jobs
      (apart e other).epochs (apart e other).orders))
      (le_of_eq (ap sale_holds m.sale)))
      m.holds;
}
  where
    apart : (e : DeviceSetup) → e.addr ≢ d.addr → AreSame (lines_of e later) (lines_of e past)
    apart e other = m.others e (λ same. other (sym same))

-- where no device's job changes, but the sale may
pub record Sells (setup : Setup) (past later : List Entry) (spent need : ℕ) : Type 0 where
  devices : (e : DeviceSetup) → IsOf setup e → AreSame (lines_of e later) (lines_of e past)
  spends :
      spoken_in setup (records later) + reserved_by_sale setup (job (sale_lines later)) + posted_in setup (records past)
      ≤ spoken_in setup (records past) + reserved_by_sale setup (job (sale_lines past)) + spent
      + posted_in setup (records later)
  holds :
      length (records later) + sale_holds (job (sale_lines later))
      ≤ length (records past) + sale_holds (job (sale_lines past)) + need

grows_sold : (setup : Setup) (past later : List Entry) (spent need : ℕ) → IsSoundSetup setup →
    Sells setup past later spent need → Grows setup past later spent need
grows_sold setup past later spent need sound s = record {
  spends =
      spends_moved (spoken_for setup past) (spoken_for setup later) (spoken_in setup (records past))
      (spoken_in setup (records later)) (reserved_at_work setup past) (reserved_at_work setup later)
      (reserved_by_sale setup (job (sale_lines past))) (reserved_by_sale setup (job (sale_lines later)))
      (posted_in setup (records past)) (posted_in setup (records later)) spent (spoken_both setup past)
      (spoken_both setup later)
      (same_apart _ _ (reserved_by_sale setup (job (sale_lines past))) (reserved_by_sale setup (job (sale_lines later)))
      (same_at_work setup past later sound s.devices))
      s.spends;
  holds =
      holds_moved (length (records past)) (length (records later)) (held setup past) (held setup later)
      (sale_holds (job (sale_lines past))) (sale_holds (job (sale_lines later))) need
      (same_apart _ _ (sale_holds (job (sale_lines past))) (sale_holds (job (sale_lines later)))
      (same_held setup past later sound s.devices)) s.holds;
}

-- where nothing changed but that there are entries more
grows_same : (setup : Setup) (past later : List Entry) → IsSoundSetup setup →
    ((e : DeviceSetup) → IsOf setup e → AreSame (lines_of e later) (lines_of e past)) →
    job (sale_lines later) ≡ job (sale_lines past) → records later ≡ records past → Grows setup past later 0 0
grows_same setup past later sound same sale same_records =
    grows_sold setup past later 0 0 sound (record {
      devices = same;
      spends =
          unspent (spoken_in setup (records past)) (spoken_in setup (records later))
          (reserved_by_sale setup (job (sale_lines past))) (reserved_by_sale setup (job (sale_lines later)))
          (posted_in setup (records past)) (posted_in setup (records later))
          (ap (spoken_in setup) same_records) (ap (reserved_by_sale setup) sale) (ap (posted_in setup) same_records);
      holds =
          unheld (length (records past)) (length (records later)) (sale_holds (job (sale_lines past)))
          (sale_holds (job (sale_lines later))) (ap length same_records) (ap sale_holds sale);
    })

-- where the power was cut: the records alone speak for anything
grows_lost : (setup : Setup) (past later : List Entry) → HasNoJob later →
    spoken_in setup (records later) + posted_in setup (records past)
    ≤ spoken_for setup past + posted_in setup (records later) →
    length (records later) + held setup later ≤ length (records past) + held setup past → Grows setup past later 0 0
grows_lost setup past later none spends holds = record {
  spends =
      let nothing = nothing_at_work setup later none in
      let both = spoken_both setup later in
      omega (arith, nothing, both, spends);
  holds = omega (arith, holds);
}

-- a command wants no less room than was counted
grows_more : (setup : Setup) (past later : List Entry) (spent spent_more need need_more : ℕ) → spent ≤ spent_more →
    need ≤ need_more → Grows setup past later spent need → Grows setup past later spent_more need_more
grows_more setup past later spent spent_more need need_more first second is = record {
  spends = let spends = is.spends in omega (arith, spends, first);
  holds = let holds = is.holds in omega (arith, holds, second);
}

-- from a past over the entries of a step
abbrev pub GrowsBy : Setup → List Entry → List Entry → Type 0
GrowsBy setup past news =
    Grows setup past (news ++ past) (spent_in setup (commands_in news)) (needs_in setup (commands_in news))

none_in_end : (setup : Setup) (past : List Entry) (addr : ℕ) (e : Entry) (end : Option End) → commands_in (e ∷ []) ≡ [] →
    Grows setup past (with_end addr e end ++ past) 0 0 → GrowsBy setup past (with_end addr e end)
none_in_end setup past addr e None none is =
    subst (λ cs. Grows setup past (e ∷ past) (spent_in setup cs) (needs_in setup cs)) (sym none) is
none_in_end setup past addr e (Some end) none is =
    subst (λ cs. Grows setup past (entry.Ended addr end ∷ e ∷ past) (spent_in setup cs) (needs_in setup cs)) (sym none) is

none_in : (setup : Setup) (past : List Entry) (e : Entry) → commands_in (e ∷ []) ≡ [] → Grows setup past (e ∷ past) 0 0 →
    GrowsBy setup past (e ∷ [])
none_in setup past e none is =
    subst (λ cs. Grows setup past (e ∷ past) (spent_in setup cs) (needs_in setup cs)) (sym none) is

-- what is of no job is no command
none_of_no_job : (e : Entry) → IsOfNoJob e → commands_in (e ∷ []) ≡ []
none_of_no_job (entry.Taken c) is = absurd is
none_of_no_job e is = refl

-- what a step brought at a device
grows_there : (capacity : ℕ) (setup : Setup) (d : DeviceSetup) (past news : List Entry) (s : Step) → IsSoundSetup setup →
    Ids setup past → IsOf setup d → Books capacity setup past → AtDevice capacity setup d past s news →
    GrowsBy setup past news
grows_there capacity setup d past _ _ sound ids own books (came s x m ls comes) =
    let is_quiet = came_quiet d (met d past) s x m ls comes in
    none_in setup past x (none_of_no_job x (came_of_no_job d (met d past) s x m ls comes))
    (grows_same setup past (x ∷ past) sound
    (λ e is_of. elim (same_or_other setup d e e.addr own is_of) [
      | inl same ↦ subst (λ y. AreSame (lines_of y (x ∷ past)) (lines_of y past)) (sym same)
          (same_came d past s x m ls comes)
      | inr other ↦ same_elsewhere capacity setup d e past (x ∷ []) s ids own (λ same. other (sym same))
          (came s x m ls comes)
    ])
    (ap (λ front. job (front ++ sale_lines past)) is_quiet.no_sale) (is_quiet.no_record past))
grows_there capacity setup d past _ _ sound ids own books (took s c gives suited here is_free is_taken is_owed lets) =
    let found : device_at setup.devices (address_of c) ≡ Some d = ap (device_at setup.devices) here ∙ own in
    grows_more setup past (entry.Taken c ∷ past) (spent_by setup c) (spent_by setup c + 0) (need_for (Some d) c)
    (need_for (device_at setup.devices (address_of c)) c + 0) (omega arith)
    (let same = ap (λ x. need_for x c) found in omega (arith, same))
    (grows_moved setup d past (entry.Taken c ∷ past) (spent_by setup c) (need_for (Some d) c) sound own
    (moves_taken capacity setup d past s c sound ids own books.counts.follow suited here is_free is_owed
    (took s c gives suited here is_free is_taken is_owed lets)))
grows_there capacity setup d past _ _ sound ids own books (halted paying can) =
    grows_more setup past (entry.Taken (command.Halt d.addr) ∷ past) 0
    (spent_by setup (command.Halt d.addr) + 0) 0
    (need_for (device_at setup.devices d.addr) (command.Halt d.addr) + 0) (omega arith) (omega arith)
    (grows_moved setup d past (entry.Taken (command.Halt d.addr) ∷ past) 0 0 sound own
    (moves_halted capacity setup d past sound ids own books.counts.follow (halted paying can)))
grows_there capacity setup d past _ _ sound ids own books (idled is_free) =
    grows_same setup past (entry.Idle d.addr ∷ past) sound (λ e is_of. same_lines _ _ refl) refl refl
grows_there capacity setup d past _ _ sound ids own books (made_exchange c since q at_work is_row) =
    none_in_end setup past d.addr (wire_of setup d past q) (wire_end setup d past c since q) refl
    (grows_moved setup d past (with_end d.addr (wire_of setup d past q) (wire_end setup d past c since q) ++ past) 0 0
    sound own
    (moves_asked capacity setup d past c since q sound ids own books.counts.follow at_work is_row
    (works_at d past c since at_work (books.base.ranged d own))))
grows_there capacity setup d past _ _ sound ids own books (made_put c since r at_work is_row) =
    none_in_end setup past d.addr (entry.Put r) (record_end d past c since r) refl
    (grows_moved setup d past (with_end d.addr (entry.Put r) (record_end d past c since r) ++ past) 0 0 sound own
    (moves_put capacity setup d past c since r sound ids own books.counts.follow at_work is_row
    (due_follows capacity setup past r ids books (from_job d c since r own at_work is_row))))

-- a power cut that kept the record of a job at a device: as much is spoken for as if the job had put it
kept_spends : (capacity : ℕ) (setup : Setup) (d : DeviceSetup) (past : List Entry) (c : Command) (since : List Line)
    (r : Record) → IsSoundSetup setup → Ids setup past → IsOf setup d → Books capacity setup past →
    AtWork d past c since → row_after d past c since ≡ puts r →
    spoken_in setup (r ∷ records past) + posted_in setup (records past)
    ≤ spoken_for setup past + posted_in setup (r ∷ records past)
kept_spends capacity setup d past c since r sound ids own books at_work is_row =
    let end = record_end d past c since r in
    let later = with_end d.addr (entry.Put r) end ++ past in
    let m = moves_put capacity setup d past c since r sound ids own books.counts.follow at_work is_row
    (due_follows capacity setup past r ids books (from_job d c since r own at_work is_row)) in
    let whole = (grows_moved setup d past later 0 0 sound own m).spends in
    let same = records_end past d.addr (entry.Put r) end in
    let both = spoken_both setup later in
    fewer (spoken_for setup past) (spoken_for setup later) (spoken_in setup (records later))
    (spoken_in setup (r ∷ records past)) (reserved_at_work setup later) (posted_in setup (records past))
    (posted_in setup (records later)) (posted_in setup (r ∷ records past)) both (ap (spoken_in setup) same)
    (ap (posted_in setup) same) whole
  where
    fewer : (all all_later spoken_later spoken_now at_work_later posted posted_later posted_now : ℕ) →
        all_later ≡ spoken_later + at_work_later → spoken_later ≡ spoken_now → posted_later ≡ posted_now →
        all_later + posted ≤ all + 0 + posted_later → spoken_now + posted ≤ all + posted_now
    fewer all all_later spoken_later spoken_now at_work_later posted posted_later posted_now both first second whole =
        omega (arith, both, first, second, whole)

one_kept : (many later now : ℕ) → suc later ≤ now → suc many + later ≤ many + now
one_kept many later now le = omega (arith, le)

-- so each step adds no more than the commands that it takes spend and want room for
pub grows_step : (capacity : ℕ) (setup : Setup) (past news : List Entry) (s : Step) → IsSoundSetup setup → Ids setup past →
    Books capacity setup past → Brought capacity setup past s news → GrowsBy setup past news
grows_step capacity setup past _ _ sound ids books (of_device d s news own told) =
    grows_there capacity setup d past news s sound ids own books told
grows_step capacity setup past _ _ sound ids books (faulted f) =
    grows_same setup past (entry.Fault f ∷ past) sound (λ e own. same_lines _ _ refl) refl refl
grows_step capacity setup past _ _ sound ids books (refused c why was) =
    grows_same setup past (entry.No c why ∷ past) sound (λ e own. same_lines _ _ refl) refl refl
grows_step capacity setup past _ _ sound ids books (began_scan is_free) =
    grows_more setup past (entry.Taken command.Scan ∷ past) 0 (spent_by setup command.Scan + 0) 0
    (need_for (device_at setup.devices BROADCAST) command.Scan + 0) (omega arith) (omega arith)
    (grows_same setup past (entry.Taken command.Scan ∷ past) sound
    (λ e own. same_taken e past command.Scan (λ same. not_zero setup e sound own (sym same))) refl refl)
grows_step capacity setup past _ _ sound ids books (began_sale id price is_free lets) =
    grows_more setup past (entry.Taken (command.Vend id price) ∷ past) price
    (spent_by setup (command.Vend id price) + 0) 1
    (need_for (device_at setup.devices HOST) (command.Vend id price) + 0) (omega arith)
    (wants (device_at setup.devices HOST))
    (grows_sold setup past (entry.Taken (command.Vend id price) ∷ past) price 1 sound
    (record {
      devices = λ e own. same_taken e past (command.Vend id price) (off_host setup e sound own);
      spends = reserved_more (spoken_in setup (records past)) (reserved_by_sale setup (job (sale_lines past)))
          (posted_in setup (records past));
      holds = held_more (length (records past)) (sale_holds (job (sale_lines past)));
    }))
  where
    wants : (found : Option DeviceSetup) → 1 ≤ need_for found (command.Vend id price) + 0
    wants None = omega arith
    wants (Some d) = omega arith

    reserved_more : (spoken now posted : ℕ) → spoken + (price + 0) + posted ≤ spoken + now + price + posted
    reserved_more spoken now posted = omega arith

    held_more : (many now : ℕ) → many + 1 ≤ many + now + 1
    held_more many now = omega arith
grows_step capacity setup past _ _ sound ids books (nobody addr none) =
    grows_same setup past (entry.Idle addr ∷ past) sound (λ e own. same_lines _ _ refl) refl refl
grows_step capacity setup past _ _ sound ids books (polled c since check addr none is_job is_row) =
    let wire = poll_wire setup past check addr in
    let end = poll_end setup past since check addr in
    none_in_end setup past BROADCAST wire end refl
    (grows_same setup past (with_end BROADCAST wire end ++ past) sound
    (λ e own.
    let other : BROADCAST ≢ e.addr = λ same. not_zero setup e sound own (sym same) in
    same_end e past BROADCAST wire end other (same_wire e past BROADCAST _ _ other))
    (ap job (scan_unsold past wire end refl)) (records_end past BROADCAST wire end))
grows_step capacity setup past _ _ sound ids books (sold id price since none selling) =
    let r = record_of.Sold id price in
    let later = entry.Ended HOST Sold ∷ entry.Put r ∷ past in
    let reserves = sale_reserves setup past id price since selling in
    let one = selling_holds past id price since selling in
    grows_sold setup past later 0 0 sound (record {
      devices = λ e own.
          let other = off_host setup e sound own in
          same_end e past HOST (entry.Put r) (Some Sold) other (same_put e past r other);
      spends = sold_spends price (spoken_in setup (records past)) (spoken_in setup (r ∷ records past))
          (reserved_by_sale setup (job (sale_lines past))) (posted_in setup (records past))
          (sold_spoken setup (records past) id price) reserves;
      holds = sold_holds (length (records past)) (sale_holds (job (sale_lines past))) one;
    })
grows_step capacity setup past _ _ sound ids books balanced =
    grows_same setup past (entry.Balance (totals setup past) ∷ past) sound (λ e own. same_lines _ _ refl) refl refl
grows_step capacity setup past _ _ sound ids books (of_desk s x is) =
    let apart = desk_apart s x is in
    none_in setup past x (none_of_no_job x (desk_of_no_job s x is))
    (grows_same setup past (x ∷ past) sound
    (λ e own. same_lines _ _ (ap (λ front. front ++ lines_of e past) (apart.own_is e past)))
    (ap (λ front. job (front ++ sale_lines past)) apart.no_sale) (apart.no_record past))
grows_step capacity setup past _ _ sound ids books (ended_short addr id count why paid rest small range was) =
    grows_same setup past (entry.Short paid rest ∷ entry.No (command.Pay addr id count) why ∷ past) sound
    (λ e own. same_lines _ _ refl) refl refl
grows_step capacity setup past _ _ sound ids books (lost_power at choice) =
    let n = length (records past) in
    let fewer = held_restarted setup past n in
    let both = spoken_both setup past in
    grows_lost setup past (entry.Crash n ∷ past) (restart_frees (entry.Crash n ∷ past) tt)
    (less (spoken_for setup past) (spoken_in setup (records past)) (reserved_at_work setup past)
    (posted_in setup (records past)) both)
    (no_more n (held setup (entry.Crash n ∷ past)) (held setup past) fewer)
  where
    less : (all spoken at_work posted : ℕ) → all ≡ spoken + at_work → spoken + posted ≤ all + posted
    less all spoken at_work posted both = omega (arith, both)

    no_more : (many later now : ℕ) → later ≤ now → many + later ≤ many + now
    no_more many later now le = omega (arith, le)
grows_step capacity setup past _ _ sound ids books (lost_in_put at choice d c since r own at_work is_row) =
    let later = keeping_restart past r ++ past in
    grows_lost setup past later (restart_frees later tt)
    (kept_spends capacity setup d past c since r sound ids own books at_work is_row)
    (one_kept (length (records past)) (held setup later) (held setup past)
    (held_kept setup d past (suc (length (records past))) c since r sound.distinct own
    (put_owned setup past d c since r own ids at_work is_row) at_work.job_is is_row))
grows_step capacity setup past _ _ sound ids books (lost_in_sale at choice id price since none selling) =
    let later = keeping_restart past (record_of.Sold id price) ++ past in
    grows_lost setup past later (restart_frees later tt)
    (sold_spends (spoken_for setup past) (spoken_in setup (records past))
    (spoken_in setup (record_of.Sold id price ∷ records past)) (posted_in setup (records past))
    (sum_over (λ e. reserved_by setup e (job (lines_of e past))) setup.devices)
    (reserved_by_sale setup (job (sale_lines past))) (spoken_both setup past)
    (sold_spoken setup (records past) id price) (sale_reserves setup past id price since selling))
    (one_kept (length (records past)) (held setup later) (held setup past)
    (held_sale_kept setup past (suc (length (records past))) id price since sound selling))
  where
    sold_spends : (all spoken spoken_later posted devices sale : ℕ) → all ≡ spoken + (devices + sale) →
        spoken_later ≡ spoken + price → sale ≡ price → spoken_later + posted ≤ all + (0 + posted)
    sold_spends all spoken spoken_later posted devices sale both more same = omega (arith, both, more, same)

-- so what is available sinks by no more than they spend
pub available_on : (setup : Setup) (past later : List Entry) (spent need : ℕ) → Grows setup past later spent need →
    spoken_for setup past ≤ posted_in setup (records past) → available setup past ≤ available setup later + spent
available_on setup past later spent need is covered =
    over (spoken_for setup past) (spoken_for setup later) (posted_in setup (records past))
    (posted_in setup (records later)) is.spends covered
  where
    over : (all all_later posted posted_later : ℕ) → all_later + posted ≤ all + spent + posted_later → all ≤ posted →
        posted - all ≤ posted_later - all_later + spent
    over all all_later posted posted_later spends covers = omega (arith, spends, covers)
