-- Every legal step, whatever the wire does, keeps the books: each record follows those before it, what is posted covers
-- what is spoken for, and there is room for all records that are held.
use Rattle.std.proofs.Common.{◌≡◌, ◌≢◌, ℕ, suc, ◌+◌, ◌-◌, ◌≤◌, cond, List, [], ◌∷◌, ◌++◌, length, refl, ap, sym, ◌∙◌, subst, Option, Some, None, All, inl, inr, arith}
use Rattle.std.proofs.lemmas.Bool.{and_from, ne_eqb}
use Rattle.cct_model.specs.terms.wire.TheConstants.{BROADCAST, HOST}
use Rattle.cct_model.specs.terms.device.DeviceSetup.{DeviceSetup}
use Rattle.cct_model.specs.terms.device.Setup.{Setup}
use Rattle.cct_model.specs.lines.record.Record.{Record}
use Rattle.cct_model.specs.lines.record.Record.TheVariants as record_of
use Rattle.cct_model.specs.lines.command.Command.{Command}
use Rattle.cct_model.specs.lines.command.Command.TheVariants as command
use Rattle.cct_model.specs.lines.command.Step.{Step}
use Rattle.cct_model.specs.lines.entry.End.TheVariants.{Sold}
use Rattle.cct_model.specs.lines.entry.Entry.{Entry}
use Rattle.cct_model.specs.lines.entry.Entry.TheVariants as entry
use Rattle.cct_model.specs.Setup.{IsSoundSetup}
use Rattle.cct_model.specs.Exchange.{device_at}
use Rattle.cct_model.specs.Line.{Line, put, restarted}
use Rattle.cct_model.specs.Rows.{puts_in}
use Rattle.cct_model.specs.Job.{job, address_of}
use Rattle.cct_model.specs.Records.{records}
use Rattle.cct_model.specs.Money.{totals, sum_over, posted_in, reserved_by_sale, spoken_for}
use Rattle.cct_model.specs.Refusal.{holds_of, holds_at, sale_holds, held, need_for, refusal}
use Rattle.cct_model.specs.Legal.{with_end, keeping_restart, LegalFrom}
use Rattle.cct_model.specs.Script.{IsInRange}
use Rattle.cct_model.specs.Transcript.{met, lines_of, sale_lines}
use Rattle.cct_laws.specs.Ids.{Ids}
use Rattle.cct_laws.specs.Law.{IsOf}
use Rattle.cct_laws.proofs.money.RecordsHeldByAll.{holds_restarted, held_restarted, held_kept}
use Rattle.cct_laws.proofs.money.Reserved.{spent_by}
use Rattle.cct_laws.proofs.jobs.AtDesk.{desk_apart}
use Rattle.cct_laws.proofs.jobs.StepBrings.{wire_of, wire_end, record_end, poll_wire, poll_end, AtDevice, came, took, halted, idled, made_exchange, made_put, Selling, Due, from_job, from_sale, Brought, of_device, faulted, refused, began_scan, began_sale, nobody, polled, sold, balanced, of_desk, ended_short, lost_power, lost_in_put, lost_in_sale}
use Rattle.cct_laws.proofs.money.Covered.{spoken_in, sold_spoken}
use Rattle.cct_laws.proofs.money.PutsFollow.{Follows, follows_by}
use Rattle.cct_laws.proofs.orders.Ids.{ids_start, put_owned}
use Rattle.cct_laws.proofs.steps.EachKeeps.{works_at}
use Rattle.cct_laws.proofs.orders.Orders.{belongs_all}
use Rattle.cct_laws.proofs.money.FromRecordsAlone.{restart_frees}
use Rattle.cct_laws.proofs.money.Room.{room_for, money_for}
use Rattle.cct_laws.proofs.jobs.SeenAtOne.{not_zero, along_from}
use Rattle.cct_laws.proofs.setups.DeviceAt.{same_or_other}
use Rattle.cct_laws.proofs.money.Sums.{sum_grows_each, sum_none, all_found}
use Rattle.cct_laws.proofs.jobs.LeftAlone.{off_host, AreSame, same_lines, came_quiet, same_came, same_taken, same_put, same_end, same_wire, same_elsewhere, records_end}
use Rattle.cct_laws.proofs.money.Counting.{Counts, counts_moved, counts_sold, counts_same, counts_lost}
use Rattle.cct_laws.proofs.money.BooksChange.{moves_taken, moves_halted, moves_asked, moves_put}
use Rattle.cct_laws.proofs.money.JobsCanPut.{Base, base_start, base_step, due_fits, scan_unsold}
use Rattle.cct_laws.proofs.money.NoLongerReserved.{sale_reserves, affords, due_frees}

-- the books: what the records and the sums over them keep, beside what running jobs need; the records and those that are
-- held are no more than the capacity
pub record Books (capacity : ℕ) (setup : Setup) (past : List Entry) : Type 0 where
  pub base : Base setup past
  pub counts : Counts capacity setup past

-- before any entry there are none
pub books_start : (capacity : ℕ) (setup : Setup) → IsSoundSetup setup → Books capacity setup []
books_start capacity setup sound =
    let none : held setup [] ≡ 0 = ap (λ n. n + 0) (sum_none (holds_at []) setup.devices (λ d. refl)) in record {
      base = base_start setup;
      counts = counts_lost capacity setup [] sound (record { devices = λ d. refl; scan = refl; sale = refl }) refl
          (omega (arith, none));
    }

-- sums, over plain numbers
as_is : (few many : ℕ) → few ≤ many → few + 0 ≤ many
as_is few many le = omega (arith, le)

one_kept : (many later now capacity : ℕ) → suc later ≤ now → many + now ≤ capacity → suc many + later ≤ capacity
one_kept many later now capacity le room = omega (arith, le, room)

-- a command that is taken has room for its records, at a device and of a sale, and what it spends is available
full_taken : (capacity : ℕ) (setup : Setup) (d : DeviceSetup) (past : List Entry) (c : Command) →
    refusal capacity setup past c ≡ None → IsOf setup d → address_of c ≡ d.addr → Counts capacity setup past →
    length (records past) + held setup past + need_for (Some d) c ≤ capacity
full_taken capacity setup d past c lets own here counts =
    subst (λ found. length (records past) + held setup past + need_for found c ≤ capacity)
    (ap (device_at setup.devices) here ∙ own) (room_for capacity setup past c lets counts.room)

sale_needs : (found : Option DeviceSetup) (id price : ℕ) → need_for found (command.Vend id price) ≡ 1
sale_needs None id price = refl
sale_needs (Some d) id price = refl

full_sale : (capacity : ℕ) (setup : Setup) (past : List Entry) (id price : ℕ) →
    refusal capacity setup past (command.Vend id price) ≡ None → Counts capacity setup past →
    length (records past) + held setup past + 1 ≤ capacity
full_sale capacity setup past id price lets counts =
    subst (λ need. length (records past) + held setup past + need ≤ capacity)
    (sale_needs (device_at setup.devices HOST) id price)
    (room_for capacity setup past (command.Vend id price) lets counts.room)

afford : (wanted all posted : ℕ) → wanted ≤ posted - all → all ≤ posted → all + wanted ≤ posted
afford wanted all posted le covered = omega (arith, le, covered)

paid_taken : (capacity : ℕ) (setup : Setup) (past : List Entry) (c : Command) →
    refusal capacity setup past c ≡ None → Counts capacity setup past →
    spoken_for setup past + spent_by setup c ≤ posted_in setup (records past)
paid_taken capacity setup past c lets counts =
    afford (spent_by setup c) (spoken_for setup past) (posted_in setup (records past))
    (money_for capacity setup past c lets) counts.covered

-- a record that is due follows those before it
pub due_follows : (capacity : ℕ) (setup : Setup) (past : List Entry) (r : Record) → Ids setup past →
    Books capacity setup past → Due setup past r → Follows setup (records past) r
due_follows capacity setup past r ids books due =
    follows_by setup (records past) r
    (due_fits setup past r ids books.base (belongs_all setup (records past) books.counts.follow) due)
    (affords setup past r (due_frees setup past r due) books.counts.covered)

-- what a step brought at a device
counts_there : (capacity : ℕ) (setup : Setup) (d : DeviceSetup) (past news : List Entry) (s : Step) →
    IsSoundSetup setup → Ids setup past → IsOf setup d → Books capacity setup past →
    AtDevice capacity setup d past s news → Counts capacity setup (news ++ past)
counts_there capacity setup d past _ _ sound ids own books (came s x m ls comes) =
    let is_quiet = came_quiet d (met d past) s x m ls comes in
    counts_same capacity setup past (x ∷ past) sound
    (λ e is_of. elim (same_or_other setup d e e.addr own is_of) [
      | inl same ↦ subst (λ y. AreSame (lines_of y (x ∷ past)) (lines_of y past)) (sym same)
          (same_came d past s x m ls comes)
      | inr other ↦ same_elsewhere capacity setup d e past (x ∷ []) s ids own (λ same. other (sym same))
          (came s x m ls comes)
    ])
    (ap (λ front. job (front ++ sale_lines past)) is_quiet.no_sale) (is_quiet.no_record past) books.counts
counts_there capacity setup d past _ _ sound ids own books (took s c gives suited here is_free is_taken is_owed lets) =
    counts_moved capacity setup d past (entry.Taken c ∷ past) (spent_by setup c) (need_for (Some d) c) sound own
    books.counts (paid_taken capacity setup past c lets books.counts)
    (full_taken capacity setup d past c lets own here books.counts)
    (moves_taken capacity setup d past s c sound ids own books.counts.follow suited here is_free is_owed
    (took s c gives suited here is_free is_taken is_owed lets))
counts_there capacity setup d past _ _ sound ids own books (halted paying can) =
    counts_moved capacity setup d past (entry.Taken (command.Halt d.addr) ∷ past) 0 0 sound own books.counts
    (as_is _ _ books.counts.covered) (as_is _ _ books.counts.room)
    (moves_halted capacity setup d past sound ids own books.counts.follow (halted paying can))
counts_there capacity setup d past _ _ sound ids own books (idled is_free) =
    counts_same capacity setup past (entry.Idle d.addr ∷ past) sound (λ e is_of. same_lines _ _ refl) refl refl
    books.counts
counts_there capacity setup d past _ _ sound ids own books (made_exchange c since q at_work is_row) =
    counts_moved capacity setup d past
    (with_end d.addr (wire_of setup d past q) (wire_end setup d past c since q) ++ past) 0 0 sound own books.counts
    (as_is _ _ books.counts.covered) (as_is _ _ books.counts.room)
    (moves_asked capacity setup d past c since q sound ids own books.counts.follow at_work is_row
    (works_at d past c since at_work (books.base.ranged d own)))
counts_there capacity setup d past _ _ sound ids own books (made_put c since r at_work is_row) =
    counts_moved capacity setup d past (with_end d.addr (entry.Put r) (record_end d past c since r) ++ past) 0 0 sound
    own books.counts (as_is _ _ books.counts.covered) (as_is _ _ books.counts.room)
    (moves_put capacity setup d past c since r sound ids own books.counts.follow at_work is_row
    (due_follows capacity setup past r ids books (from_job d c since r own at_work is_row)))

-- one record is held for a sale
pub selling_holds : (past : List Entry) (id price : ℕ) (since : List Line) → Selling past id price since →
    sale_holds (job (sale_lines past)) ≡ 1
selling_holds past id price since selling = ap sale_holds selling.job_is ∙ ap puts_in selling.first

-- a power cut with the record of a sale kept
pub held_sale_kept : (setup : Setup) (past : List Entry) (n id price : ℕ) (since : List Line) → IsSoundSetup setup →
    Selling past id price since →
    suc (held setup (entry.Kept (record_of.Sold id price) ∷ entry.Crash n ∷ past)) ≤ held setup past
held_sale_kept setup past n id price since sound selling =
    let later = entry.Kept (record_of.Sold id price) ∷ entry.Crash n ∷ past in
    let devices : sum_over (holds_at later) setup.devices ≤ sum_over (holds_at past) setup.devices =
    sum_grows_each (holds_at later) (holds_at past) setup.devices
    (all_found (λ e. holds_at later e ≤ holds_at past e) setup.devices sound.distinct
    (λ e own.
    subst (λ b. holds_of e (cond b (put (record_of.Sold id price) ∷ []) [] ++ restarted ∷ lines_of e past)
    ≤ holds_of e (lines_of e past))
    (sym (ne_eqb HOST e.addr (off_host setup e sound own))) (holds_restarted e (lines_of e past)))) in
    let before = selling_holds past id price since selling in
    one_sold (sum_over (holds_at later) setup.devices) (sum_over (holds_at past) setup.devices)
    (sale_holds (job (sale_lines past))) devices before
  where
    one_sold : (few many here : ℕ) → few ≤ many → here ≡ 1 → suc (few + 0) ≤ many + here
    one_sold few many here le one = omega (arith, le, one)

-- a sale that is put has spent what it reserved, and the record that it held
pub sold_spends : (price spoken spoken_later now posted : ℕ) → spoken_later ≡ spoken + price → now ≡ price →
    spoken_later + 0 + posted ≤ spoken + now + 0 + (0 + posted)
sold_spends price spoken spoken_later now posted more same = omega (arith, more, same)

pub sold_holds : (many now : ℕ) → now ≡ 1 → suc many + 0 ≤ many + now + 0
sold_holds many now one = omega (arith, one)

-- each step keeps the sums
counts_step : (capacity : ℕ) (setup : Setup) (past news : List Entry) (s : Step) → IsSoundSetup setup →
    Ids setup past → Brought capacity setup past s news → Books capacity setup past →
    Counts capacity setup (news ++ past)
counts_step capacity setup past _ _ sound ids (of_device d s news own told) books =
    counts_there capacity setup d past news s sound ids own books told
counts_step capacity setup past _ _ sound ids (faulted f) books =
    counts_same capacity setup past (entry.Fault f ∷ past) sound (λ e own. same_lines _ _ refl) refl refl books.counts
counts_step capacity setup past _ _ sound ids (refused c why was) books =
    counts_same capacity setup past (entry.No c why ∷ past) sound (λ e own. same_lines _ _ refl) refl refl books.counts
counts_step capacity setup past _ _ sound ids (began_scan is_free) books =
    counts_same capacity setup past (entry.Taken command.Scan ∷ past) sound
    (λ e own. same_taken e past command.Scan (λ same. not_zero setup e sound own (sym same))) refl refl books.counts
counts_step capacity setup past _ _ sound ids (began_sale id price is_free lets) books =
    counts_sold capacity setup past (entry.Taken (command.Vend id price) ∷ past) price 1 sound
    (paid_taken capacity setup past (command.Vend id price) lets books.counts)
    (full_sale capacity setup past id price lets books.counts)
    (record {
      devices = λ e own. same_taken e past (command.Vend id price) (off_host setup e sound own);
      follow = books.counts.follow;
      spends = reserved_more (spoken_in setup (records past)) (reserved_by_sale setup (job (sale_lines past)))
          (posted_in setup (records past));
      holds = held_more (length (records past)) (sale_holds (job (sale_lines past)));
    })
  where
    reserved_more : (spoken now posted : ℕ) → spoken + (price + 0) + posted ≤ spoken + now + price + posted
    reserved_more spoken now posted = omega arith

    held_more : (many now : ℕ) → many + 1 ≤ many + now + 1
    held_more many now = omega arith
counts_step capacity setup past _ _ sound ids (nobody addr none) books =
    counts_same capacity setup past (entry.Idle addr ∷ past) sound (λ e own. same_lines _ _ refl) refl refl books.counts
counts_step capacity setup past _ _ sound ids (polled c since check addr none is_job is_row) books =
    let wire = poll_wire setup past check addr in
    let end = poll_end setup past since check addr in
    counts_same capacity setup past (with_end BROADCAST wire end ++ past) sound
    (λ e own.
    let other : BROADCAST ≢ e.addr = λ same. not_zero setup e sound own (sym same) in
    same_end e past BROADCAST wire end other (same_wire e past BROADCAST _ _ other))
    (ap job (scan_unsold past wire end refl)) (records_end past BROADCAST wire end) books.counts
counts_step capacity setup past _ _ sound ids (sold id price since none selling) books =
    let r = record_of.Sold id price in
    let later = entry.Ended HOST Sold ∷ entry.Put r ∷ past in
    let reserves = sale_reserves setup past id price since selling in
    let one = selling_holds past id price since selling in
    counts_sold capacity setup past later 0 0 sound (as_is _ _ books.counts.covered) (as_is _ _ books.counts.room)
    (record {
      devices = λ e own.
          let other = off_host setup e sound own in
          same_end e past HOST (entry.Put r) (Some Sold) other (same_put e past r other);
      follow = and_from _ _ (due_follows capacity setup past r ids books (from_sale id price since none selling))
          books.counts.follow;
      spends = sold_spends price (spoken_in setup (records past)) (spoken_in setup (r ∷ records past))
          (reserved_by_sale setup (job (sale_lines past))) (posted_in setup (records past))
          (sold_spoken setup (records past) id price)
          reserves;
      holds = sold_holds (length (records past)) (sale_holds (job (sale_lines past))) one;
    })
counts_step capacity setup past _ _ sound ids balanced books =
    counts_same capacity setup past (entry.Balance (totals setup past) ∷ past) sound (λ e own. same_lines _ _ refl) refl
    refl books.counts
counts_step capacity setup past _ _ sound ids (of_desk s x is) books =
    let apart = desk_apart s x is in
    counts_same capacity setup past (x ∷ past) sound
    (λ e own. same_lines _ _ (ap (λ front. front ++ lines_of e past) (apart.own_is e past)))
    (ap (λ front. job (front ++ sale_lines past)) apart.no_sale) (apart.no_record past) books.counts
counts_step capacity setup past _ _ sound ids (ended_short addr id count why paid rest small range was) books =
    counts_same capacity setup past (entry.Short paid rest ∷ entry.No (command.Pay addr id count) why ∷ past) sound
    (λ e own. same_lines _ _ refl) refl refl books.counts
counts_step capacity setup past _ _ sound ids (lost_power at choice) books =
    let n = length (records past) in
    let fewer = held_restarted setup past n in
    let room = books.counts.room in
    counts_lost capacity setup (entry.Crash n ∷ past) sound (restart_frees (entry.Crash n ∷ past) tt)
    books.counts.follow (no_more_held n _ _ fewer room)
  where
    no_more_held : (many later now : ℕ) → later ≤ now → many + now ≤ capacity → many + later ≤ capacity
    no_more_held many later now le room = omega (arith, le, room)
counts_step capacity setup past _ _ sound ids (lost_in_put at choice d c since r own at_work is_row) books =
    let n = suc (length (records past)) in
    let later = keeping_restart past r ++ past in
    let fewer =
    held_kept setup d past n c since r sound.distinct own (put_owned setup past d c since r own ids at_work is_row)
    at_work.job_is is_row in
    counts_lost capacity setup later sound (restart_frees later tt)
    (and_from _ _ (due_follows capacity setup past r ids books (from_job d c since r own at_work is_row))
    books.counts.follow)
    (one_kept (length (records past)) (held setup later) (held setup past) capacity fewer books.counts.room)
counts_step capacity setup past _ _ sound ids (lost_in_sale at choice id price since none selling) books =
    let r = record_of.Sold id price in
    let later = keeping_restart past r ++ past in
    let fewer = held_sale_kept setup past (suc (length (records past))) id price since sound selling in
    counts_lost capacity setup later sound (restart_frees later tt)
    (and_from _ _ (due_follows capacity setup past r ids books (from_sale id price since none selling))
    books.counts.follow)
    (one_kept (length (records past)) (held setup later) (held setup past) capacity fewer books.counts.room)

-- each step keeps the books
pub books_step : (capacity : ℕ) (setup : Setup) (past news : List Entry) (s : Step) → IsSoundSetup setup →
    IsInRange s → Ids setup past → Brought capacity setup past s news → Books capacity setup past →
    Books capacity setup (news ++ past)
books_step capacity setup past news s sound range ids told books = record {
  base = base_step capacity setup past news s sound range ids told books.base;
  counts = counts_step capacity setup past news s sound ids told books;
}

-- an entry that reports a forged exchange is none of them
pub books_forged : (capacity : ℕ) (setup : Setup) (past : List Entry) (addr : ℕ) → Books capacity setup past →
    Books capacity setup (entry.Forged addr ∷ past)
books_forged capacity setup past addr books = record {
  base = record { sells = books.base.sells; ranged = books.base.ranged; needs = books.base.needs };
  counts = record { follow = books.counts.follow; covered = books.counts.covered; room = books.counts.room };
}

-- so they are kept of every legal past, whatever the wire does
pub books_legal : (capacity : ℕ) (setup : Setup) (steps : List Step) (past : List Entry) → IsSoundSetup setup →
    All IsInRange steps → LegalFrom capacity setup [] steps past → Ids setup past × Books capacity setup past
books_legal capacity setup steps past sound in_range legal =
    along_from capacity setup IsInRange (Books capacity setup) sound
    (λ before news s range ids told books. books_step capacity setup before news s sound range ids told books)
    (books_forged capacity setup) [] steps past in_range (ids_start setup) legal (books_start capacity setup sound)
