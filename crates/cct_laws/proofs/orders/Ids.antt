-- Which ids are used, and by whom: every legal step keeps that, whatever is heard on the wire.
use Rattle.std.proofs.Common.{◌≡◌, ◌≢◌, ℕ, ◌<◌, ◌==◌, cond, Bool, true, false, List, [], ◌∷◌, ◌++◌, length, refl, ap, sym, ◌∙◌, subst, Option, Some, None, ◌⊎◌, inl, inr, eq-eqb, eqb-true}
use Rattle.std.proofs.lemmas.Bool.{ne_eqb}
use Rattle.std.proofs.lemmas.Option.{none-some}
use Rattle.std.specs.Prelude.{⊤}
use Rattle.std.specs.List.{list_any}
use Rattle.cct_model.specs.terms.wire.TheConstants.{BROADCAST, HOST}
use Rattle.cct_model.specs.terms.device.DeviceSetup.{DeviceSetup}
use Rattle.cct_model.specs.terms.device.Setup.{Setup}
use Rattle.cct_model.specs.lines.record.Record.{Record}
use Rattle.cct_model.specs.lines.record.Record.TheVariants as record_of
use Rattle.cct_model.specs.lines.command.Command.{Command}
use Rattle.cct_model.specs.lines.command.Command.TheVariants as command
use Rattle.cct_model.specs.lines.command.Step.{Step}
use Rattle.cct_model.specs.lines.entry.End.{End}
use Rattle.cct_model.specs.lines.entry.End.TheVariants.{Sold}
use Rattle.cct_model.specs.lines.entry.Entry.{Entry}
use Rattle.cct_model.specs.lines.entry.Entry.TheVariants as entry
use Rattle.cct_model.specs.declared.judging.OpenOrder.{OpenOrder}
use Rattle.cct_model.specs.Device.{IsSound}
use Rattle.cct_model.specs.Exchange.{device_at}
use Rattle.cct_model.specs.Money.{totals}
use Rattle.cct_model.specs.Setup.{IsSoundSetup}
use Rattle.cct_model.specs.Line.{Line, put, taken}
use Rattle.cct_model.specs.Order.{order}
use Rattle.cct_model.specs.Job.{job, with_line, epoch, puts, address_of, ident_requests}
use Rattle.cct_model.specs.Rows.{id_ahead, rows_of, rows_of_sale, rest, done}
use Rattle.cct_model.specs.Records.{records, hopper_of}
use Rattle.cct_model.specs.Legal.{with_end, keeping_restart}
use Rattle.cct_model.specs.Refusal.{refusal}
use Rattle.cct_model.specs.Transcript.{met, owner, opened_at, lines_of, sale_lines}
use Rattle.cct_model.specs.Paid.{uses, IsFresh}
use Rattle.cct_laws.specs.Ids.{waiting, waiting_at, waiting_sale, Ids}
use Rattle.cct_laws.specs.Law.{IsOf}
use Rattle.cct_laws.specs.Recorded.{HasNoJob}
use Rattle.cct_laws.proofs.setups.DeviceAt.{same_some, found_in}
use Rattle.cct_model.proofs.Rows.{RowHolds, IsOwned, row_owned, after_next, told_no_id}
use Rattle.cct_laws.proofs.jobs.StepBrings.{AtWork, row_after, wire_of, wire_end, record_end, poll_wire, poll_end, AtDevice, came, took, halted, idled, made_exchange, made_put, Selling, Brought, of_device, faulted, refused, began_scan, began_sale, nobody, polled, sold, balanced, of_desk, ended_short, lost_power, lost_in_put, lost_in_sale, IsOfNoJob, came_of_no_job, desk_of_no_job}
use Rattle.cct_laws.proofs.money.FromRecordsAlone.{order_recorded, restart_frees}
use Rattle.cct_laws.proofs.jobs.AwaitedRecords.{one_id, one_id_of_sale, one_after, here_waits, BeginsNone, device_waits_less, sale_waits_less}
use Rattle.cct_laws.proofs.orders.UsedIds.{Unused, Grows, same_records, one_more, grows_owned, more_unused}
use Rattle.cct_laws.proofs.orders.Opening.{Opens, opens_waits, opened_waits, UsesOwn, row_own}
use Rattle.cct_laws.proofs.orders.NewIds.{IsNew, payment_new, sale_new}

-- a job waits with no id that it did not wait with before, and those that it waits with stay unused
abbrev pub WaitsOn : List Record → List Record → Option ℕ → Option ℕ → Type 0
WaitsOn before later with_one after =
    (id : ℕ) → after ≡ Some id → (with_one ≡ Some id) × (Unused id before → Unused id later)

-- no job waits that did not wait before, and records stay, or there is one more whose id is new
pub record Less (setup : Setup) (past later : List Entry) : Type 0 where
  pub grows : Grows (records past) (records later)
  pub devices : (e : DeviceSetup) → IsOf setup e →
      WaitsOn (records past) (records later) (waiting_at past e) (waiting_at later e)
  pub sale : WaitsOn (records past) (records later) (waiting_sale past) (waiting_sale later)

pub ids_less : (setup : Setup) (past later : List Entry) → Less setup past later → Ids setup past → Ids setup later
ids_less setup past later less ids = record {
  waits = λ e id own is. let was = less.devices e own id is in was.1 (ids.waits e id own was.0);
  sale_waits = λ id is. let was = less.sale id is in was.1 (ids.sale_waits id was.0);
  apart = λ d e id own other first second.
      ids.apart d e id own other (less.devices d own id first).0 (less.devices e other id second).0;
  sale_apart = λ e id own first second. ids.sale_apart e id own (less.devices e own id first).0 (less.sale id second).0;
  owned = λ e o own is.
      grows_owned (records past) (records later) e.addr less.grows
      (λ x was. ids.owned e x own (order_recorded e past ∙ was)) o (sym (order_recorded e later) ∙ is);
}

-- an entry that puts nothing
pub ids_quiet : (setup : Setup) (past : List Entry) (e : Entry) → BeginsNone e → records (e ∷ past) ≡ records past →
    Ids setup past → Ids setup (e ∷ past)
ids_quiet setup past e none same = ids_less setup past (e ∷ past) (record {
  grows = subst (Grows (records past)) (sym same) same_records;
  devices = λ d own id is. (device_waits_less d past e none id is, λ unused. ap (list_any (uses id)) same ∙ unused);
  sale = λ id is. (sale_waits_less past e none id is, λ unused. ap (list_any (uses id)) same ∙ unused);
})

pub ids_ended : (setup : Setup) (past : List Entry) (addr : ℕ) (e : Entry) (end : Option End) → Ids setup (e ∷ past) →
    Ids setup (with_end addr e end ++ past)
ids_ended setup past addr e None ids = ids
ids_ended setup past addr e (Some end) ids = ids_quiet setup (e ∷ past) (entry.Ended addr end) tt refl ids

-- an entry that reports a forged exchange
pub ids_forged : (setup : Setup) (past : List Entry) (addr : ℕ) → Ids setup past → Ids setup (entry.Forged addr ∷ past)
ids_forged setup past addr ids = ids_quiet setup past (entry.Forged addr) tt refl ids

-- a device is at no address of a host or of all
pub above_host : (setup : Setup) (e : DeviceSetup) → IsSoundSetup setup → IsOf setup e → HOST < e.addr
above_host setup e sound own = (found_in IsSound setup.devices e.addr e sound.devices own).0.low

-- what waits after a payment that is taken
paid_waits : (d : DeviceSetup) (here : Bool) (addr id count : ℕ) (lines : List Line) (other : ℕ) →
    waiting (rows_of d) (job (cond here (taken (command.Pay addr id count) ∷ []) [] ++ lines)) ≡ Some other →
    ((here ≡ true) × (id ≡ other)) ⊎ (waiting (rows_of d) (job lines) ≡ Some other)
paid_waits d true addr id count lines other is = inl (refl, same_some id other is)
paid_waits d false addr id count lines other is = inr is

-- the payment is taken
ids_paid : (setup : Setup) (past : List Entry) (addr id count : ℕ) → IsNew setup past id → Ids setup past →
    Ids setup (entry.Taken (command.Pay addr id count) ∷ past)
ids_paid setup past addr id count is_new ids = record {
  waits = λ e other own is. elim (waits_at e other is) [
    | inl at ↦ subst (λ x. Unused x (records past)) at.1 is_new.unused
    | inr was ↦ ids.waits e other own was
  ];
  sale_waits = λ other is. ids.sale_waits other (sale_at other is);
  apart = λ d e other own second_own first second. elim (waits_at d other first) [
    | inl at ↦ elim (waits_at e other second) [
      | inl also ↦ sym (eqb-true addr d.addr at.0) ∙ eqb-true addr e.addr also.0
      | inr was ↦ absurd (is_new.devices e other second_own was at.1)
    ]
    | inr was ↦ elim (waits_at e other second) [
      | inl at ↦ absurd (is_new.devices d other own was at.1)
      | inr also ↦ ids.apart d e other own second_own was also
    ]
  ];
  sale_apart = λ e other own first second. elim (waits_at e other first) [
    | inl at ↦ is_new.sale other (sale_at other second) at.1
    | inr was ↦ ids.sale_apart e other own was (sale_at other second)
  ];
  owned = λ e o own is. ids.owned e o own (order_recorded e past ∙ sym (order_recorded e later) ∙ is);
}
  where
    later : List Entry
    later = entry.Taken (command.Pay addr id count) ∷ past

    waits_at : (e : DeviceSetup) (other : ℕ) → waiting_at later e ≡ Some other →
        (((addr == e.addr) ≡ true) × (id ≡ other)) ⊎ (waiting_at past e ≡ Some other)
    waits_at e other is = paid_waits e (addr == e.addr) addr id count (lines_of e past) other is

    sale_at : (other : ℕ) → waiting_sale later ≡ Some other → waiting_sale past ≡ Some other
    sale_at other is =
        here_waits rows_of_sale one_id_of_sale (addr == HOST) (taken (command.Pay addr id count)) (sale_lines past) refl
        other is

-- a sale is taken
ids_vended : (setup : Setup) (past : List Entry) (id price : ℕ) → IsNew setup past id → Ids setup past →
    Ids setup (entry.Taken (command.Vend id price) ∷ past)
ids_vended setup past id price is_new ids = record {
  waits = λ e other own is. ids.waits e other own (waits_at e other is);
  sale_waits = λ other is. subst (λ x. Unused x (records past)) (same_some id other is) is_new.unused;
  apart = λ d e other own second_own first second.
      ids.apart d e other own second_own (waits_at d other first) (waits_at e other second);
  sale_apart = λ e other own first second.
      is_new.devices e other own (waits_at e other first) (same_some id other second);
  owned = λ e o own is. ids.owned e o own (order_recorded e past ∙ sym (order_recorded e later) ∙ is);
}
  where
    later : List Entry
    later = entry.Taken (command.Vend id price) ∷ past

    waits_at : (e : DeviceSetup) (other : ℕ) → waiting_at later e ≡ Some other → waiting_at past e ≡ Some other
    waits_at e other is =
        here_waits (rows_of e) (one_id e) (HOST == e.addr) (taken (command.Vend id price)) (lines_of e past) refl other is

-- what a row puts is of its device
pub put_owned : (setup : Setup) (past : List Entry) (d : DeviceSetup) (c : Command) (since : List Line) (r : Record) →
    IsOf setup d → Ids setup past → AtWork d past c since → row_after d past c since ≡ puts r → owner past r ≡ d.addr
put_owned setup past d c since r own ids work is =
    subst (IsOwned past (address_of c)) is
    (row_owned past d c since (epoch (lines_of d past)) (order (lines_of d past)) opened) ∙ work.is_here
  where
    opened : (o : OpenOrder) → order (lines_of d past) ≡ Some o → opened_at o.id past ≡ address_of c
    opened o owed = let at = ids.owned d o own owed in ap hopper_of at.0 ∙ at.1 ∙ sym work.is_here

-- a record that is put uses a new id, with which no job then waits
pub record IsPutNew (setup : Setup) (past : List Entry) (r : Record) : Type 0 where
  pub is_new : IsFresh (records past) r
  pub devices : (e : DeviceSetup) (other : ℕ) → IsOf setup e →
      waiting_at (entry.Put r ∷ past) e ≡ Some other → uses other r ≡ false
  pub sale : (other : ℕ) → waiting_sale past ≡ Some other → uses other r ≡ false

opened_new : (setup : Setup) (past : List Entry) (d : DeviceSetup) (c : Command) (since : List Line)
    (opened a n life : ℕ) → IsOf setup d → Ids setup past → AtWork d past c since → a ≡ d.addr →
    Opens opened n (rest d c since) → IsPutNew setup past (record_of.Opened opened a n life)
opened_new setup past d c since opened a n life own ids work here opens = record {
  is_new = ids.waits d opened own before;
  devices = λ e other own_too is. ne_eqb opened other (apart e other own_too is);
  sale = λ other is. ne_eqb opened other (λ equal. ids.sale_apart d other own (before ∙ ap Some equal) is);
}
  where
    r : Record
    r = record_of.Opened opened a n life

    before : waiting_at past d ≡ Some opened
    before = ap (waiting (rows_of d)) work.job_is ∙ opens_waits opened n (rest d c since) opens

    after : waiting_at (entry.Put r ∷ past) d ≡ None
    after =
        ap (λ b. waiting (rows_of d) (job (cond b (put r ∷ []) [] ++ lines_of d past))) (eq-eqb a d.addr here)
        ∙ ap (λ j. waiting (rows_of d) (with_line (put r) j)) work.job_is
        ∙ ap id_ahead (after_next (rows_of d c) (done (rows_of d c) since))
        ∙ opened_waits opened n (rest d c since) (one_after (rows_of d c) (done (rows_of d c) since) (one_id d c)) opens

    apart : (e : DeviceSetup) (other : ℕ) → IsOf setup e → waiting_at (entry.Put r ∷ past) e ≡ Some other →
        opened ≢ other
    apart e other own_too is equal =
        let was = device_waits_less e past (entry.Put r) tt other is in
        let at = ids.apart d e other own own_too (before ∙ ap Some equal) was in
        let one = same_some e d (sym own_too ∙ ap (device_at setup.devices) (sym at) ∙ own) in
        none-some other (sym after ∙ ap (waiting_at (entry.Put r ∷ past)) (sym one) ∙ is)

put_new : (setup : Setup) (past : List Entry) (d : DeviceSetup) (c : Command) (since : List Line) (r : Record) →
    IsOf setup d → Ids setup past → AtWork d past c since → owner past r ≡ d.addr →
    UsesOwn r (address_of c) (rest d c since) → IsPutNew setup past r
put_new setup past d c since (record_of.Opened opened a n life) own ids work here uses_own =
    opened_new setup past d c since opened a n life own ids work here uses_own.1
put_new setup past d c since (record_of.Sold id price) own ids work here uses_own = absurd uses_own
put_new setup past d c since r own ids work here uses_own =
    record { is_new = tt; devices = λ e other own_too is. refl; sale = λ other is. refl }

pub row_new : (setup : Setup) (past : List Entry) (d : DeviceSetup) (c : Command) (since : List Line) (r : Record) →
    IsOf setup d → Ids setup past → AtWork d past c since → row_after d past c since ≡ puts r → IsPutNew setup past r
row_new setup past d c since r own ids work is =
    put_new setup past d c since r own ids work (put_owned setup past d c since r own ids work is)
    (subst (RowHolds (λ q. ⊤) (λ x. UsesOwn x (address_of c) (rest d c since))) is
    (row_own d c since (epoch (lines_of d past)) (order (lines_of d past))))

-- the record is put, or is kept when the power is cut
ids_put : (setup : Setup) (past : List Entry) (r : Record) → IsPutNew setup past r → Ids setup past →
    Ids setup (entry.Put r ∷ past)
ids_put setup past r puts_new ids = ids_less setup past (entry.Put r ∷ past) (record {
  grows = one_more r puts_new.is_new;
  devices = λ e own id is.
      (device_waits_less e past (entry.Put r) tt id is, more_unused id r (records past) (puts_new.devices e id own is));
  sale = λ id is.
      let was = sale_waits_less past (entry.Put r) tt id is in
      (was, more_unused id r (records past) (puts_new.sale id was));
}) ids

ids_kept : (setup : Setup) (past : List Entry) (r : Record) → IsFresh (records past) r → Ids setup past →
    Ids setup (keeping_restart past r ++ past)
ids_kept setup past r is_new ids = ids_less setup past (keeping_restart past r ++ past) (record {
  grows = one_more r is_new;
  devices = λ e own id is. absurd (none-some id (sym (ap (waiting (rows_of e)) (freed.devices e)) ∙ is));
  sale = λ id is. absurd (none-some id (sym (ap (waiting rows_of_sale) freed.sale) ∙ is));
}) ids
  where
    freed : HasNoJob (keeping_restart past r ++ past)
    freed = restart_frees (keeping_restart past r ++ past) tt

-- the id of a sale that is about to put its record
selling_waits : (past : List Entry) (id price : ℕ) (since : List Line) → Selling past id price since →
    waiting_sale past ≡ Some id
selling_waits past id price since selling =
    ap (waiting rows_of_sale) selling.job_is ∙ ap id_ahead selling.first

pub sale_unused : (setup : Setup) (past : List Entry) (id price : ℕ) (since : List Line) → Ids setup past →
    Selling past id price since → Unused id (records past)
sale_unused setup past id price since ids selling = ids.sale_waits id (selling_waits past id price since selling)

-- a sale puts its record, and ends
ids_sold : (setup : Setup) (past : List Entry) (id price : ℕ) (since : List Line) → Selling past id price since →
    Ids setup past → Ids setup (entry.Ended HOST Sold ∷ entry.Put (record_of.Sold id price) ∷ past)
ids_sold setup past id price since selling ids = ids_less setup past (entry.Ended HOST Sold ∷ kept) (record {
  grows = one_more (record_of.Sold id price) (sale_unused setup past id price since ids selling);
  devices = λ e own other is.
      let first = device_waits_less e kept (entry.Ended HOST Sold) tt other is in
      let was = device_waits_less e past (entry.Put (record_of.Sold id price)) tt other first in (
        was,
        more_unused other (record_of.Sold id price) (records past) (ne_eqb id other (λ same.
            ids.sale_apart e other own was (selling_waits past id price since selling ∙ ap Some same))),
      );
  sale = λ other is. absurd cc;
}) ids
  where
    kept : List Entry
    kept = entry.Put (record_of.Sold id price) ∷ past

ids_of_no_job : (setup : Setup) (past : List Entry) (e : Entry) → IsOfNoJob e → Ids setup past → Ids setup (e ∷ past)
ids_of_no_job setup past (entry.Taken c) is ids = absurd is
ids_of_no_job setup past (entry.Put r) is ids = absurd is
ids_of_no_job setup past (entry.Kept r) is ids = absurd is
ids_of_no_job setup past e is ids = ids_quiet setup past e tt refl ids

took_ids : (capacity : ℕ) (setup : Setup) (past : List Entry) (c : Command) →
    refusal capacity setup past c ≡ None → Ids setup past → Ids setup (entry.Taken c ∷ past)
took_ids capacity setup past (command.Pay addr id count) passes ids =
    ids_paid setup past addr id count (payment_new capacity setup past addr id count passes) ids
took_ids capacity setup past (command.Vend id price) passes ids =
    ids_vended setup past id price (sale_new capacity setup past id price passes) ids
took_ids capacity setup past (command.Ident addr) passes ids =
    ids_quiet setup past (entry.Taken (command.Ident addr)) (λ e. told_no_id (ident_requests e.body), refl) refl ids
took_ids capacity setup past c passes ids = ids_quiet setup past (entry.Taken c) (λ e. refl, refl) refl ids

device_ids : (capacity : ℕ) (setup : Setup) (past : List Entry) (d : DeviceSetup) (s : Step)
    (news : List Entry) → IsSoundSetup setup → IsOf setup d → AtDevice capacity setup d past s news → Ids setup past →
    Ids setup (news ++ past)
device_ids capacity setup past d _ _ sound own (came s e m ls comes) ids =
    ids_of_no_job setup past e (came_of_no_job d (met d past) s e m ls comes) ids
device_ids capacity setup past d _ _ sound own (took s c gives suited here is_free is_taken owed passes) ids =
    took_ids capacity setup past c passes ids
device_ids capacity setup past d s news sound own (halted paying can) ids =
    ids_quiet setup past (entry.Taken (command.Halt d.addr)) (λ e. refl, refl) refl ids
device_ids capacity setup past d s news sound own (idled is_free) ids =
    ids_quiet setup past (entry.Idle d.addr) tt refl ids
device_ids capacity setup past d s news sound own (made_exchange c since q work is) ids =
    ids_ended setup past d.addr (wire_of setup d past q) (wire_end setup d past c since q)
    (ids_quiet setup past (wire_of setup d past q) tt refl ids)
device_ids capacity setup past d s news sound own (made_put c since r work is) ids =
    ids_ended setup past d.addr (entry.Put r) (record_end d past c since r)
    (ids_put setup past r (row_new setup past d c since r own ids work is) ids)

-- before any entry no job waits and no order is open
pub ids_start : (setup : Setup) → Ids setup []
ids_start setup = record {
  waits = λ e id own is. absurd (none-some id is);
  sale_waits = λ id is. absurd (none-some id is);
  apart = λ d e id own other first second. absurd (none-some id first);
  sale_apart = λ e id own first second. none-some id first;
  owned = λ e o own is. absurd (none-some o is);
}

pub ids_step : (capacity : ℕ) (setup : Setup) (past news : List Entry) (s : Step) → IsSoundSetup setup →
    Brought capacity setup past s news → Ids setup past → Ids setup (news ++ past)
ids_step capacity setup past _ _ sound (of_device d s news own at) ids =
    device_ids capacity setup past d s news sound own at ids
ids_step capacity setup past news s sound (faulted f) ids = ids_quiet setup past (entry.Fault f) tt refl ids
ids_step capacity setup past news s sound (refused c why is) ids = ids_quiet setup past (entry.No c why) tt refl ids
ids_step capacity setup past news s sound (began_scan is_free) ids =
    ids_quiet setup past (entry.Taken command.Scan) (λ e. refl, refl) refl ids
ids_step capacity setup past news s sound (began_sale id price is_free passes) ids =
    ids_vended setup past id price (sale_new capacity setup past id price passes) ids
ids_step capacity setup past news s sound (nobody addr none) ids = ids_quiet setup past (entry.Idle addr) tt refl ids
ids_step capacity setup past news s sound (polled c since check addr none is next) ids =
    ids_ended setup past BROADCAST (poll_wire setup past check addr) (poll_end setup past since check addr)
    (ids_quiet setup past (poll_wire setup past check addr) tt refl ids)
ids_step capacity setup past news s sound (sold id price since none selling) ids =
    ids_sold setup past id price since selling ids
ids_step capacity setup past news s sound balanced ids =
    ids_quiet setup past (entry.Balance (totals setup past)) tt refl ids
ids_step capacity setup past news s sound (of_desk _ e is) ids =
    ids_of_no_job setup past e (desk_of_no_job _ e is) ids
ids_step capacity setup past news s sound (ended_short addr id count why paid rest small range was) ids =
    let refusal_told = entry.No (command.Pay addr id count) why ∷ past in
    ids_quiet setup refusal_told (entry.Short paid rest) tt refl
    (ids_quiet setup past (entry.No (command.Pay addr id count) why) tt refl ids)
ids_step capacity setup past news s sound (lost_power at choice) ids =
    ids_quiet setup past (entry.Crash (length (records past))) tt refl ids
ids_step capacity setup past news s sound (lost_in_put at choice d c since r own work is) ids =
    ids_kept setup past r (row_new setup past d c since r own ids work is).is_new ids
ids_step capacity setup past news s sound (lost_in_sale at choice id price since none selling) ids =
    ids_kept setup past (record_of.Sold id price) (sale_unused setup past id price since ids selling) ids
