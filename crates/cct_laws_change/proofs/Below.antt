-- Which ids are used so far: all those of records, of jobs and of a sale are below a number, as long as each command that is
-- taken has an id below it.
use Rattle.std.proofs.Common.{◌≡◌, ℕ, ◌+◌, ◌<◌, ◌≤◌, List, [], ◌∷◌, ◌++◌, refl, ap, sym, subst, All, inl, inr, arith}
use Rattle.std.specs.Prelude.{unwrap_or, ⊤}
use Rattle.std.proofs.lemmas.List.Elements.{All-head, All-tail}
use Rattle.cct_model.specs.terms.wire.TheConstants.{BROADCAST}
use Rattle.cct_model.specs.terms.device.DeviceSetup.{DeviceSetup}
use Rattle.cct_model.specs.terms.device.Setup.{Setup}
use Rattle.cct_model.specs.lines.record.Record.{Record}
use Rattle.cct_model.specs.lines.record.Record.TheVariants as record_of
use Rattle.cct_model.specs.lines.command.Command.{Command}
use Rattle.cct_model.specs.lines.command.Command.TheVariants as command
use Rattle.cct_model.specs.lines.command.Step.{Step}
use Rattle.cct_model.specs.lines.entry.Entry.{Entry}
use Rattle.cct_model.specs.lines.entry.Entry.TheVariants as entry
use Rattle.cct_model.specs.Setup.{IsSoundSetup}
use Rattle.cct_model.specs.Line.{Line}
use Rattle.cct_model.specs.Job.{free, ident_requests, job, puts, works}
use Rattle.cct_model.specs.Rows.{done, rest, rows_of}
use Rattle.cct_model.specs.Records.{greatest_id, id_of, records}
use Rattle.cct_model.specs.Refusal.{greatest_running, last_id, running_id, sale_id}
use Rattle.cct_model.specs.Legal.{keeping_restart}
use Rattle.cct_model.specs.Transcript.{lines_of, met, sale_lines}
use Rattle.cct_model.proofs.Rows.{told_no_id}
use Rattle.cct_laws.specs.Ids.{Ids}
use Rattle.cct_laws.specs.Law.{IsOf}
use Rattle.cct_laws.proofs.jobs.AtDesk.{desk_apart}
use Rattle.cct_laws.proofs.jobs.StepBrings.{AtDevice, AtWork, Brought, Selling, balanced, began_sale, began_scan, came, ended_short, faulted, halted, idled, lost_in_put, lost_in_sale, lost_power, made_exchange, made_put, nobody, of_desk, of_device, poll_end, poll_wire, polled, record_end, refused, row_after, sold, took, wire_end, wire_of}
use Rattle.cct_laws.proofs.jobs.EntriesOfStep.{Telling, over_telling}
use Rattle.cct_laws.proofs.jobs.LeftAlone.{came_quiet, off_host, records_end, row_uses, unsold}
use Rattle.cct_laws.proofs.jobs.AwaitedRecords.{after_waits, one_id}
use Rattle.cct_laws.proofs.money.JobsCanPut.{scan_unsold}
use Rattle.cct_laws.proofs.money.FromRecordsAlone.{restart_frees}
use Rattle.cct_laws.proofs.money.Sums.{all_found, greatest_holds}
use Rattle.cct_laws.proofs.orders.Opening.{UsesOwn, opens_waits}
use Rattle.cct_laws_change.specs.Course.{commands_in}
use Rattle.cct_laws_change.proofs.Turns.{Turn, begins, has_put, is_over, stays, turn_brought, works_on}

-- all ids are below a number
pub record AreBelow (setup : Setup) (n : ℕ) (past : List Entry) : Type 0 where
  pub recorded : greatest_id (records past) < n
  pub devices : (e : DeviceSetup) → IsOf setup e → running_id e (job (lines_of e past)) < n
  pub sale : sale_id (job (sale_lines past)) < n

-- the last one is just that
greatest_below : (past : List Entry) (ds : List DeviceSetup) (n : ℕ) → 1 ≤ n →
    All (λ d. running_id d (job (lines_of d past)) < n) ds → greatest_running past ds < n
greatest_below past [] n some below = omega (arith, some)
greatest_below past (d ∷ ds) n some below =
    let here = All-head (λ e. running_id e (job (lines_of e past)) < n) d ds below in
    let later = greatest_below past ds n some (All-tail (λ e. running_id e (job (lines_of e past)) < n) d ds below) in
    omega (arith, here, later)

pub last_below : (setup : Setup) (n : ℕ) (past : List Entry) → IsSoundSetup setup → AreBelow setup n past →
    last_id setup past < n
last_below setup n past sound is =
    let recorded = is.recorded in
    let sale = is.sale in
    let running = greatest_below past setup.devices n (omega (arith, recorded))
    (all_found (λ d. running_id d (job (lines_of d past)) < n) setup.devices sound.distinct is.devices) in
    omega (arith, recorded, sale, running)

pub below_last : (setup : Setup) (n : ℕ) (past : List Entry) → last_id setup past < n → AreBelow setup n past
below_last setup n past last = record {
  recorded = omega (arith, last);
  devices = λ e own. let most = greatest_holds past setup.devices e e.addr own in omega (arith, last, most);
  sale = omega (arith, last);
}

pub below_more : (setup : Setup) (n : ℕ) (past : List Entry) → AreBelow setup n past → AreBelow setup (n + 1) past
below_more setup n past is = record {
  recorded = let recorded = is.recorded in omega (arith, recorded);
  devices = λ e own. let here = is.devices e own in omega (arith, here);
  sale = let sale = is.sale in omega (arith, sale);
}

-- a command has an id below a number, or none
abbrev pub IsIdBelow : ℕ → Command → Type 0
IsIdBelow n (command.Pay addr id count) = id < n
IsIdBelow n (command.Vend id price) = id < n
IsIdBelow n c = ⊤

begun_below : (n : ℕ) (d : DeviceSetup) (c : Command) (since : List Line) → 1 ≤ n → IsIdBelow n c →
    running_id d (works c since) < n
begun_below n d (command.Pay addr id count) since some below = below
begun_below n d (command.Ident addr) since some below =
    subst (λ found. unwrap_or found 0 < n) (sym (told_no_id (ident_requests d.body))) (omega (arith, some))
begun_below n d c since some below = omega (arith, some)

turn_below : (n : ℕ) (d : DeviceSetup) (past news : List Entry) → 1 ≤ n → Turn d past news →
    All (IsIdBelow n) (commands_in news) → running_id d (job (lines_of d past)) < n →
    running_id d (job (lines_of d (news ++ past))) < n
turn_below n d past news some (stays jobs orders) ids is = subst (λ j. running_id d j < n) (sym jobs) is
turn_below n d past news some (begins c suited here is_free owed told jobs orders) ids is =
    subst (λ j. running_id d j < n) (sym jobs)
    (begun_below n d c [] some (All-head (IsIdBelow n) c [] (subst (All (IsIdBelow n)) told ids)))
turn_below n d past news some (works_on c since later at jobs orders) ids is =
    subst (λ j. running_id d j < n) (sym jobs) (subst (λ j. running_id d j < n) at is)
turn_below n d past news some (is_over jobs ends orders) ids is =
    subst (λ j. running_id d j < n) (sym jobs) (omega (arith, some))
turn_below n d past news some (has_put c since r at_work is_row only orders (inl goes)) ids is =
    subst (λ j. running_id d j < n) (sym goes.0) (subst (λ j. running_id d j < n) at_work.job_is is)
turn_below n d past news some (has_put c since r at_work is_row only orders (inr over)) ids is =
    subst (λ j. running_id d j < n) (sym over.0) (omega (arith, some))

-- what a job puts has its id
own_id : (d : DeviceSetup) (c : Command) (since : List Line) (r : Record) (addr n : ℕ) → 1 ≤ n →
    UsesOwn r addr (rest d c since) → running_id d (works c since) < n → id_of r < n
own_id d c since (record_of.Opened id at count life) addr n some own below =
    let ahead = after_waits (rows_of d c) (done (rows_of d c) since) id (one_id d c)
    (opens_waits id count (rest d c since) own.1) in
    subst (λ x. x < n) (ap (λ found. unwrap_or found 0) ahead) below
own_id d c since (record_of.Sold id price) addr n some own below = absurd own
own_id d c since r addr n some own below = omega (arith, some)

put_below : (d : DeviceSetup) (past : List Entry) (c : Command) (since : List Line) (r : Record) (n : ℕ) →
    AtWork d past c since → row_after d past c since ≡ puts r → running_id d (job (lines_of d past)) < n →
    greatest_id (records past) < n → greatest_id (r ∷ records past) < n
put_below d past c since r n at_work is_row running recorded =
    let here = own_id d c since r _ n (omega (arith, recorded)) (row_uses d past c since r is_row)
    (subst (λ j. running_id d j < n) at_work.job_is running) in
    omega (arith, here, recorded)

sold_below : (past : List Entry) (id price : ℕ) (since : List Line) (n : ℕ) → Selling past id price since →
    sale_id (job (sale_lines past)) < n → greatest_id (records past) < n →
    greatest_id (record_of.Sold id price ∷ records past) < n
sold_below past id price since n selling sale recorded =
    let here : id < n = subst (λ j. sale_id j < n) selling.job_is sale in
    omega (arith, here, recorded)

-- the records and the sale, where something came to a device
recorded_there : (capacity : ℕ) (setup : Setup) (d : DeviceSetup) (past news : List Entry) (s : Step) (n : ℕ) →
    IsOf setup d → AreBelow setup n past → AtDevice capacity setup d past s news →
    greatest_id (records (news ++ past)) < n
recorded_there capacity setup d past _ _ n own is (came s e m ls comes) =
    subst (λ rs. greatest_id rs < n) (sym ((came_quiet d (met d past) s e m ls comes).no_record past)) is.recorded
recorded_there capacity setup d past _ _ n own is (took s c gives suited here is_free is_taken is_owed lets) = is.recorded
recorded_there capacity setup d past _ _ n own is (halted paying can) = is.recorded
recorded_there capacity setup d past _ _ n own is (idled is_free) = is.recorded
recorded_there capacity setup d past _ _ n own is (made_exchange c since q at_work is_row) =
    subst (λ rs. greatest_id rs < n)
    (sym (records_end past d.addr (wire_of setup d past q) (wire_end setup d past c since q))) is.recorded
recorded_there capacity setup d past _ _ n own is (made_put c since r at_work is_row) =
    subst (λ rs. greatest_id rs < n) (sym (records_end past d.addr (entry.Put r) (record_end d past c since r)))
    (put_below d past c since r n at_work is_row (is.devices d own) is.recorded)

record BelowBut (n : ℕ) (past : List Entry) : Type 0 where
  recorded : greatest_id (records past) < n
  sale : sale_id (job (sale_lines past)) < n

none_sold : (past : List Entry) (n : ℕ) → 1 ≤ n → job (sale_lines past) ≡ free → sale_id (job (sale_lines past)) < n
none_sold past n some none = subst (λ j. sale_id j < n) (sym none) (omega (arith, some))

but_devices : (capacity : ℕ) (setup : Setup) (past news : List Entry) (s : Step) (n : ℕ) → IsSoundSetup setup →
    AreBelow setup n past → All (IsIdBelow n) (commands_in news) → Brought capacity setup past s news →
    BelowBut n (news ++ past)
but_devices capacity setup past _ _ n sound is ids (of_device d s news own told) = record {
  recorded = recorded_there capacity setup d past news s n own is told;
  sale = subst (λ ls. sale_id (job ls) < n)
      (sym (unsold capacity setup d past news s (λ same. off_host setup d sound own (sym same)) told)) is.sale;
}
but_devices capacity setup past _ _ n sound is ids (faulted f) = record { recorded = is.recorded; sale = is.sale }
but_devices capacity setup past _ _ n sound is ids (refused c why was) =
    record { recorded = is.recorded; sale = is.sale }
but_devices capacity setup past _ _ n sound is ids (began_scan is_free) =
    record { recorded = is.recorded; sale = is.sale }
but_devices capacity setup past _ _ n sound is ids (began_sale id price is_free lets) =
    record { recorded = is.recorded; sale = All-head (IsIdBelow n) (command.Vend id price) [] ids }
but_devices capacity setup past _ _ n sound is ids (nobody addr none) =
    record { recorded = is.recorded; sale = is.sale }
but_devices capacity setup past _ _ n sound is ids (polled c since check addr none is_job is_row) = record {
  recorded = subst (λ rs. greatest_id rs < n)
      (sym (records_end past BROADCAST (poll_wire setup past check addr) (poll_end setup past since check addr)))
      is.recorded;
  sale = subst (λ ls. sale_id (job ls) < n)
      (sym (scan_unsold past (poll_wire setup past check addr) (poll_end setup past since check addr) refl)) is.sale;
}
but_devices capacity setup past _ _ n sound is ids (sold id price since none selling) = record {
  recorded = sold_below past id price since n selling is.sale is.recorded;
  sale = let recorded = is.recorded in omega (arith, recorded);
}
but_devices capacity setup past _ _ n sound is ids balanced = record { recorded = is.recorded; sale = is.sale }
but_devices capacity setup past _ _ n sound is ids (of_desk s e at) = record {
  recorded = subst (λ rs. greatest_id rs < n) (sym ((desk_apart s e at).no_record past)) is.recorded;
  sale = subst (λ front. sale_id (job (front ++ sale_lines past)) < n) (sym (desk_apart s e at).no_sale) is.sale;
}
but_devices capacity setup past _ _ n sound is ids (ended_short addr id count why paid left small range was) =
    record { recorded = is.recorded; sale = is.sale }
but_devices capacity setup past _ _ n sound is ids (lost_power at choice) =
    record { recorded = is.recorded; sale = let recorded = is.recorded in omega (arith, recorded) }
but_devices capacity setup past _ _ n sound is ids (lost_in_put at choice d c since r own at_work is_row) = record {
  recorded = put_below d past c since r n at_work is_row (is.devices d own) is.recorded;
  sale =
      let recorded = is.recorded in
      none_sold (keeping_restart past r ++ past) n (omega (arith, recorded))
      (restart_frees (keeping_restart past r ++ past) tt).sale;
}
but_devices capacity setup past _ _ n sound is ids (lost_in_sale at choice id price since none selling) = record {
  recorded = sold_below past id price since n selling is.sale is.recorded;
  sale =
      let recorded = is.recorded in
      none_sold (keeping_restart past (record_of.Sold id price) ++ past) n (omega (arith, recorded))
      (restart_frees (keeping_restart past (record_of.Sold id price) ++ past) tt).sale;
}

below_brought : (capacity : ℕ) (setup : Setup) (past news : List Entry) (s : Step) (n : ℕ) → IsSoundSetup setup →
    Ids setup past → AreBelow setup n past → Brought capacity setup past s news → All (IsIdBelow n) (commands_in news) →
    AreBelow setup n (news ++ past)
below_brought capacity setup past news s n sound ids is told given =
    let but = but_devices capacity setup past news s n sound is given told in
    let recorded = is.recorded in
    record {
      recorded = but.recorded;
      devices = λ e own.
          turn_below n e past news (omega (arith, recorded)) (turn_brought capacity setup e past news s sound own ids told)
          given (is.devices e own);
      sale = but.sale;
    }

-- each step keeps them so
pub below_on : (capacity : ℕ) (setup : Setup) (past news : List Entry) (s : Step) (n : ℕ) → IsSoundSetup setup →
    Ids setup past → Telling capacity setup past s news → AreBelow setup n past → All (IsIdBelow n) (commands_in news) →
    AreBelow setup n (news ++ past)
below_on capacity setup past news s n sound ids told is =
    over_telling capacity setup past news s (λ es. All (IsIdBelow n) (commands_in es) → AreBelow setup n (es ++ past))
    (λ es addr later given.
    let at = later given in record { recorded = at.recorded; devices = at.devices; sale = at.sale }) told
    (below_brought capacity setup past told.told s n sound ids is told.brings)
