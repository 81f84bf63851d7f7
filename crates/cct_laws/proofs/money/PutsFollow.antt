-- What a row of a job at a device puts fits the records before it, where the job has what it needs, and follows them
-- where its money is available.
use Rattle.std.proofs.Common.{◌≡◌, ℕ, ◌+◌, ◌-◌, ◌≤◌, ◌==◌, ◌&&◌, not, Bool, true, false, cond, List, [], ◌∷◌, refl, ap, sym, ◌∙◌, subst, Option, Some, None, is_none, arith, rules, le-leb, eq-eqb, leb-true}
use Rattle.std.specs.Prelude.{⊤}
use Rattle.std.specs.List.{list_any}
use Rattle.std.specs.Option.{option_map}
use Rattle.std.proofs.lemmas.Bool.{and_from, or_parts, ne_eqb, not_from_false}
use Rattle.cct_model.specs.terms.device.DeviceBody.{DeviceBody}
use Rattle.cct_model.specs.terms.device.DeviceBody.TheVariants.{Acceptor, Bill, Hopper}
use Rattle.cct_model.specs.terms.device.DeviceSetup.{DeviceSetup}
use Rattle.cct_model.specs.terms.device.Setup.{Setup}
use Rattle.cct_model.specs.lines.record.Record.{Record}
use Rattle.cct_model.specs.lines.record.Record.TheVariants as record_of
use Rattle.cct_model.specs.lines.command.Command.{Command}
use Rattle.cct_model.specs.lines.command.Command.TheVariants as command
use Rattle.cct_model.specs.lines.command.CommandNo.TheVariants.{NoValue}
use Rattle.cct_model.specs.declared.judging.Judged.{Judged}
use Rattle.cct_model.specs.declared.judging.EpochState.{EpochState}
use Rattle.cct_model.specs.declared.judging.EpochState.TheVariants.{Idle, Running}
use Rattle.cct_model.specs.declared.judging.OpenOrder.{OpenOrder}
use Rattle.cct_model.specs.Device.{is_hopper, is_taker}
use Rattle.cct_model.specs.Exchange.{device_at, hopper_there, taker_there}
use Rattle.cct_model.specs.Line.{Line}
use Rattle.cct_model.specs.Order.{close, life_between}
use Rattle.cct_model.specs.Job.{puts, address_of, credits_read, mask_read, accepts_before, accepts_read, judged_in, noted_in, Noted, ident_requests}
use Rattle.cct_model.specs.Rows.{id_ahead, Then, Due, new_epoch, reading, epoch_end, new_order, order_end, sale, TableRow, asks_for, asks_once, waits_for_coins, puts_due, rows_of, from, rest, first, row}
use Rattle.cct_model.specs.Records.{is_open, epoch_in, order_in}
use Rattle.cct_model.specs.Money.{coins_of, available_in}
use Rattle.cct_model.specs.Refusal.{valueless, start_refusal, running_refusal}
use Rattle.cct_model.specs.Following.{is_running, has_values, count_of, follows}
use Rattle.cct_model.specs.Paid.{uses}
use Rattle.cct_model.specs.Script.{IsCommand}
use Rattle.cct_laws.specs.DeviceJobs.{suits}
use Rattle.cct_laws.proofs.orders.Closes.{closes_so}
use Rattle.cct_laws.proofs.orders.Orders.{Belongs}
use Rattle.cct_model.proofs.Rows.{RowHolds, DueHolds, JudgedHolds, judged_holds, EachRow, each_from, each_left, each_told, fact_from, state_holds, due_holds}

-- a record fits those before it: it follows them, but for the money that the coins of an order and the price of a sale
-- take
abbrev fits : Setup → List Record → Record → Bool
fits setup before (record_of.Opened id addr count life) =
    hopper_there (device_at setup.devices addr) && is_none (order_in addr before) && not (id == 0)
    && not (is_open id before) && not (count == 0)
fits setup before (record_of.Sold id price) = not (id == 0) && not (price == 0)
fits setup before r = follows setup before r

-- a record fits those before it, and follows them
abbrev pub Fits : Setup → List Record → Record → Type 0
Fits setup before r = fits setup before r ≡ true

abbrev pub Follows : Setup → List Record → Record → Type 0
Follows setup before r = follows setup before r ≡ true

-- its money is available
abbrev pub IsAffordable : Setup → List Record → Record → Type 0
IsAffordable setup before (record_of.Opened id addr count life) = coins_of setup addr count ≤ available_in setup before
IsAffordable setup before (record_of.Sold id price) = price ≤ available_in setup before
IsAffordable setup before r = ⊤

-- a record that fits follows where its money is available
pub follows_by : (setup : Setup) (before : List Record) (r : Record) → Fits setup before r →
    IsAffordable setup before r →
    Follows setup before r
follows_by setup before (record_of.Opened id addr count life) fit affords =
    and_from _ _ fit (le-leb (coins_of setup addr count) (available_in setup before) affords)
follows_by setup before (record_of.Sold id price) fit affords =
    and_from _ _ fit (le-leb price (available_in setup before) affords)
follows_by setup before r fit affords = fit

-- what a record that is still to be put needs: that an epoch begins, that none runs and that each place of its mask has
-- a value; a reading and the end of an epoch, that one runs; that an order is opened, that none is open
abbrev pub DueNeeds : DeviceSetup → EpochState → Option OpenOrder → Due → Type 0
DueNeeds d state owed (new_epoch mask) = start_refusal mask d state ≡ None
DueNeeds d state owed reading = is_running state ≡ true
DueNeeds d state owed epoch_end = is_running state ≡ true
DueNeeds d state owed (new_order id count) = owed ≡ None
DueNeeds d state owed due = ⊤

-- a fact of what a row of the table puts
abbrev pub IfPuts : (Due → Type 0) → TableRow → Type 0
IfPuts P (puts_due due behind) = P due
IfPuts P r = ⊤

-- what the rows that a job has ahead need
abbrev pub NeedsOf : DeviceSetup → List TableRow → EpochState → Option OpenOrder → Type 0
NeedsOf d rows state owed = EachRow (IfPuts (DueNeeds d state owed)) rows

-- and of the records: no order of the id that they are yet to record is open
abbrev pub NewOf : List Record → List TableRow → Type 0
NewOf before rows = (id : ℕ) → id_ahead rows ≡ Some id → is_open id before ≡ false

-- what is put is in its range, and for the kind of the device
abbrev IsRanged : DeviceSetup → Due → Type 0
IsRanged d (new_epoch mask) = (is_taker d.body ≡ true) × (1 ≤ mask)
IsRanged d (new_order id count) = (is_hopper d.body ≡ true) × (1 ≤ id) × (1 ≤ count)
IsRanged d (sale id price) = ⊥
IsRanged d due = ⊤

-- the device at an address, whose epoch and open order the records show
pub record Stands (setup : Setup) (before : List Record) (d : DeviceSetup) (addr : ℕ) (state : EpochState)
    (owed : Option OpenOrder) : Type 0 where
  pub found : device_at setup.devices addr ≡ Some d
  pub epoch_is : epoch_in addr before ≡ state
  pub order_is : order_in addr before ≡ owed
  pub belongs : Belongs setup before

-- an order that no record opened isn't open
pub unopened : (id : ℕ) (before : List Record) → list_any (uses id) before ≡ false → is_open id before ≡ false
unopened id [] unused = refl
unopened id (record_of.Opened opened addr count life ∷ before) unused =
    let parts = or_parts (opened == id) (list_any (uses id) before) unused in
    ap (λ b. cond b true (is_open id before)) parts.0 ∙ unopened id before parts.1
unopened id (record_of.Closed closed paid unpaid ∷ before) unused =
    by_here (closed == id) (unopened id before unused)
  where
    by_here : (here : Bool) → is_open id before ≡ false → cond here false (is_open id before) ≡ false
    by_here true rest = refl
    by_here false rest = rest
unopened id (record_of.Odd closed life_before life_after ∷ before) unused =
    by_here (closed == id) (unopened id before unused)
  where
    by_here : (here : Bool) → is_open id before ≡ false → cond here false (is_open id before) ≡ false
    by_here true rest = refl
    by_here false rest = rest
unopened id (record_of.Sold used price ∷ before) unused =
    unopened id before (or_parts (used == id) (list_any (uses id) before) unused).1
unopened id (r ∷ before) unused = unopened id before unused

-- a number that isn't 0
pub not_none : (n : ℕ) → 1 ≤ n → not (n == 0) ≡ true
not_none n least = not_from_false (n == 0) (ne_eqb n 0 (λ none. omega (arith, least, none)))

-- the kind of the device of a job
pub start_kind : (body : DeviceBody) (addr mask : ℕ) → suits body (command.Start addr mask) ≡ true →
    is_taker body ≡ true
start_kind (Acceptor accepts values ids) addr mask suited = refl
start_kind (Hopper life value) addr mask suited = absurd cc
start_kind (Bill accepts values ids) addr mask suited = refl

pub pay_kind : (body : DeviceBody) (addr id count : ℕ) → suits body (command.Pay addr id count) ≡ true →
    is_hopper body ≡ true
pay_kind (Acceptor accepts values ids) addr id count suited = absurd cc
pay_kind (Hopper life value) addr id count suited = refl
pay_kind (Bill accepts values ids) addr id count suited = absurd cc

-- a start that its epoch doesn't refuse
start_lets : (d : DeviceSetup) (mask : ℕ) (state : EpochState) → start_refusal mask d state ≡ None →
    (state ≡ Idle) × (valueless d.body mask ≡ None)
start_lets d mask Idle none = (refl, by_found (valueless d.body mask) none)
  where
    by_found : (found : Option ℕ) → option_map NoValue found ≡ None → found ≡ None
    by_found None lets = refl
    by_found (Some place) lets = absurd cc
start_lets d mask (Running running counter accepts) none = absurd cc

-- a round and a stop that their epoch doesn't refuse
pub runs_by : (state : EpochState) → running_refusal state ≡ None → is_running state ≡ true
runs_by Idle none = absurd cc
runs_by (Running mask counter accepts) none = refl

-- an epoch that begins
begins : (setup : Setup) (before : List Record) (d : DeviceSetup) (addr mask accepts : ℕ) (state : EpochState)
    (owed : Option OpenOrder) → Stands setup before d addr state owed → is_taker d.body ≡ true → 1 ≤ mask →
    start_refusal mask d state ≡ None → Fits setup before (record_of.Epoch addr mask accepts)
begins setup before d addr mask accepts state owed at kind least lets =
    let both = start_lets d mask state lets in
    and_from _ _
    (and_from _ _
    (and_from _ _ (ap taker_there at.found ∙ kind)
    (not_from_false _ (ap is_running (at.epoch_is ∙ both.0))))
    (not_none mask least))
    (ap (λ found. has_values found mask) at.found ∙ ap is_none both.1)

-- an order that is opened
opens : (setup : Setup) (before : List Record) (d : DeviceSetup) (addr id count life : ℕ) (state : EpochState)
    (owed : Option OpenOrder) → Stands setup before d addr state owed → is_hopper d.body ≡ true →
    1 ≤ id → 1 ≤ count → owed ≡ None → is_open id before ≡ false →
    Fits setup before (record_of.Opened id addr count life)
opens setup before d addr id count life state owed at kind id_least least none unused =
    and_from _ _
    (and_from _ _
    (and_from _ _
    (and_from _ _ (ap hopper_there at.found ∙ kind) (ap is_none (at.order_is ∙ none)))
    (not_none id id_least))
    (not_from_false _ unused))
    (not_none count least)

-- an order that is closed
closes : (setup : Setup) (before : List Record) (addr : ℕ) (o : OpenOrder) (life : ℕ) → Belongs setup before →
    order_in addr before ≡ Some o → Fits setup before (close o life)
closes setup before addr o life belongs is =
    let own = belongs.owned addr o is in
    closes_so (Fits setup before) o life (λ test.
    let most = leb-true (life_between o.life life) o.count test in
    let all : life_between o.life life + (o.count - life_between o.life life) ≡ o.count = omega (arith, most) in
    and_from _ _ own.is_open (eq-eqb _ _ (all ∙ sym (ap count_of own.named)))) (λ over. own.is_open)

-- what was judged fits where an epoch runs
abbrev JudgedFits : Setup → List Record → ℕ → Judged → Type 0
JudgedFits setup before addr means = is_running (epoch_in addr before) ≡ true → JudgedHolds (Fits setup before) means

judged_fits : (setup : Setup) (before : List Record) (c : Command) (since : List Line) (state : EpochState) →
    JudgedFits setup before (address_of c) (judged_in c since state)
judged_fits setup before c since state runs =
    judged_holds (Fits setup before) (address_of c) state (credits_read since) (mask_read since) (accepts_before since)
    (accepts_read since) (λ counter lost accepts posted. runs) (λ mask counter lost accepts posted. runs)

-- the rows of a command put what is in its range
ranged_rows : (d : DeviceSetup) (c : Command) → IsCommand c → suits d.body c ≡ true →
    EachRow (IfPuts (IsRanged d)) (rows_of d c)
ranged_rows d (command.Start addr mask) range suited =
    let kind = start_kind d.body addr mask suited in search rules
ranged_rows d (command.Pay addr id count) range suited =
    let kind = pay_kind d.body addr id count suited in search rules
ranged_rows d (command.Ident addr) range suited =
    each_told (IfPuts (IsRanged d)) (λ q. tt) (λ q. tt) (ident_requests d.body)
ranged_rows d c range suited = search rules

-- what is put fits, where it is in its range and has what it needs
due_fits : (setup : Setup) (before : List Record) (d : DeviceSetup) (addr : ℕ) (means : Judged) (state : EpochState)
    (p : Noted) (behind : Then) (rows : List TableRow) (due : Due) → Stands setup before d addr state p.owed →
    JudgedFits setup before addr means → IsRanged d due → DueNeeds d state p.owed due →
    NewOf before (puts_due due behind ∷ rows) → DueHolds (Fits setup before) addr means p due
due_fits setup before d addr means state p behind rows (new_epoch mask) at judged range needs new = λ accepts read.
    begins setup before d addr mask accepts state p.owed at range.0 range.1 needs
due_fits setup before d addr means state p behind rows reading at judged range needs new =
    judged (ap is_running at.epoch_is ∙ needs)
due_fits setup before d addr means state p behind rows epoch_end at judged range needs new =
    ap is_running at.epoch_is ∙ needs
due_fits setup before d addr means state p behind rows (new_order id count) at judged range needs new = λ life read.
    opens setup before d addr id count life state p.owed at range.0 range.1 range.2 needs (new id refl)
due_fits setup before d addr means state p behind rows order_end at judged range needs new = λ o life owed read.
    closes setup before addr o life at.belongs (at.order_is ∙ owed)
due_fits setup before d addr means state p behind rows (sale id price) at judged range needs new = absurd range

first_fits : (setup : Setup) (before : List Record) (d : DeviceSetup) (addr : ℕ) (means : Judged) (state : EpochState)
    (p : Noted) (rows : List TableRow) → Stands setup before d addr state p.owed → JudgedFits setup before addr means →
    EachRow (IfPuts (IsRanged d)) rows → NeedsOf d rows state p.owed → NewOf before rows →
    RowHolds (λ q. ⊤) (Fits setup before) (first addr means p rows)
first_fits setup before d addr means state p [] at judged range needs new = tt
first_fits setup before d addr means state p (asks_for q behind ∷ rows) at judged range needs new = tt
first_fits setup before d addr means state p (asks_once q behind without ∷ rows) at judged range needs new = tt
first_fits setup before d addr means state p (waits_for_coins ∷ rows) at judged range needs new =
    state_holds (λ q. ⊤) (Fits setup before) p.is_marked tt tt
first_fits setup before d addr means state p (puts_due due behind ∷ rows) at judged range needs new =
    due_holds (λ q. ⊤) (Fits setup before) addr means p due
    (due_fits setup before d addr means state p behind rows due at judged range.0 needs.0 new)

-- what any job at a device puts fits
pub row_fits : (setup : Setup) (before : List Record) (d : DeviceSetup) (c : Command) (since : List Line)
    (state : EpochState) (owed : Option OpenOrder) (r : Record) →
    Stands setup before d (address_of c) state owed → IsCommand c → suits d.body c ≡ true →
    NeedsOf d (rest d c since) state owed → NewOf before (rest d c since) → row d c since state owed ≡ puts r →
    Fits setup before r
row_fits setup before d c since state owed r at range suited needs new is =
    let rows = rest d c since in
    let means = judged_in c since state in
    subst (RowHolds (λ q. ⊤) (Fits setup before)) is
    (first_fits setup before d (address_of c) means state (noted_in since owed) (from rows means) at
    (judged_fits setup before c since state) (each_left (IfPuts (IsRanged d)) d c since state (ranged_rows d c range suited))
    (each_from (IfPuts (DueNeeds d state owed)) rows means needs)
    (fact_from (NewOf before) (λ behind later fact. fact) rows means new))
