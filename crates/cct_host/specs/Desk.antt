-- The host's desk for one place: its job, its epoch and its open order, beside what happened.
use Rattle.std.specs.Prelude.{◌≡◌, ◌≤◌, ◌<◌, ℕ, ◌+◌, List, [], ◌∷◌, ◌++◌, Option, Some, None}
use Rattle.std.specs.Prelude.{Result, Ok, Err, ⊤, max, reverse, true}
use Rattle.std.specs.Option.{IfSome}
use Rattle.cct_model.specs.terms.device.DeviceSetup.{DeviceSetup}
use Rattle.cct_model.specs.terms.device.Setup.{Setup}
use Rattle.cct_model.specs.lines.command.Command.{Command}
use Rattle.cct_model.specs.lines.command.CommandNo.{CommandNo}
use Rattle.cct_model.specs.lines.entry.Entry.{Entry}
use Rattle.cct_model.specs.declared.judging.EpochState.{EpochState}
use Rattle.cct_model.specs.declared.judging.EpochState.TheVariants.{Idle}
use Rattle.cct_model.specs.declared.judging.OpenOrder.{OpenOrder}
use Rattle.cct_model.specs.Line.{Line}
use Rattle.cct_model.specs.Job as model
use Rattle.cct_model.specs.Legal.{command_entry}
use Rattle.cct_model.specs.Money.{coins_of}
use Rattle.cct_model.specs.Order.{order}
use Rattle.cct_model.specs.Refusal.{last_id, state_refusal, running_id, sale_id}
use Rattle.cct_model.specs.Rows.{puts_in}
use Rattle.cct_jobs.specs.Ahead.{coins_in}
use Rattle.cct_jobs.specs.declared.job.Job.{Job}
use Rattle.cct_host.specs.declared.orders.OrderState.{OrderState}
use Rattle.cct_jobs.specs.Jobs.{order_of}
use Rattle.cct_host.specs.declared.desk.JobDesk.{JobDesk}
use Rattle.cct_host.specs.Attempt.{Attempt, HeardBy, Links, news_of, put_of, sent_of, used_by}
use Rattle.cct_host.specs.Held.{coins_by, due_by, held_by, piece_of, puts_left, sells_only}
use Rattle.cct_host.specs.Held.{sending_by}
use Rattle.cct_host.specs.Running.{begins_id, command_of, needed, rows_begun}
use Rattle.cct_host.specs.Place.{AreAt, NextAt, OwnsAt, Place, StandsAt, addr_of, device, lines_at}
use Rattle.cct_host.specs.Place.{sales, scans}

-- What the host has at a place is the job that its lines show, beside the epoch and the open order.
abbrev pub Works : Place → Option Job → model.Job → EpochState → Option OpenOrder → Type 0
Works place None model.free state owed = ⊤
Works place (Some job) (model.works c since) state owed = StandsAt place job c since state owed
Works place None (model.works c since) state owed = ⊥
Works place (Some job) model.free state owed = ⊥

-- What is recorded at a place is the epoch, the open order, the id of the payment and the command
-- of the job that its lines show, of sales the id, the command and no order, and of scans the
-- command.
abbrev pub Knows : Place → EpochState → OrderState → List Line → Type 0
Knows (device d) state owed lines =
    (state ≡ model.epoch lines) × (order_of owed.order ≡ order lines)
    × (owed.id ≡ running_id d (model.job lines))
    × (owed.begun ≡ command_of (model.job lines))
Knows scans state owed lines = owed.begun ≡ command_of (model.job lines)
Knows sales state owed lines =
    (owed.order ≡ None) × (owed.id ≡ sale_id (model.job lines))
    × (owed.begun ≡ command_of (model.job lines))

-- A job, an epoch and an open order are those of a place, by its lines.
pub record Keeps (place : Place) (job : Option Job) (state : EpochState) (owed : OrderState)
    (lines : List Line) : Type 0 where
  pub works : Works place job (model.job lines) (model.epoch lines) (order lines)
  pub knows : Knows place state owed lines

-- A desk has the job, the epoch and the open order of its place after all that happened, newest
-- entry first.
abbrev pub Sits : List Entry → Place → JobDesk → Type 0
Sits past place desk = Keeps place desk.job desk.epoch desk.orders (lines_at place past)

-- Each desk is that of the device at its index.
abbrev pub AllSit : List Entry → List DeviceSetup → List JobDesk → Type 0
AllSit past [] [] = ⊤
AllSit past (d ∷ ds) (desk ∷ desks) = Sits past (device d) desk × AllSit past ds desks
AllSit past [] (desk ∷ desks) = ⊥
AllSit past (d ∷ ds) [] = ⊥

-- A desk at which nothing happened.
abbrev pub IsFree : JobDesk → Type 0
IsFree desk = (desk.job ≡ None) × (desk.epoch ≡ Idle)
    × (desk.orders ≡ record { order = None; id = 0; begun = None })

-- Why a command was refused, if it was.
abbrev pub no_of : Result Unit CommandNo → Option CommandNo
no_of (Ok taken) = None
no_of (Err why) = Some why

-- A command at a place is taken or refused as it has to be, and the desk there goes on by its
-- entry.
abbrev pub Commands : Setup → Place → JobDesk → JobDesk → Command → Result Unit CommandNo → Type 0
Commands setup place old new c result =
    (past : List Entry) → Sits past place old → (no_of result ≡ state_refusal setup past c) × Sits
    (command_entry c (no_of result) ∷ past) place new

-- The same of a command that begins a job, after a past with this last id, where it begins an id.
abbrev pub CommandsAbove : Setup → ℕ → Place → JobDesk → JobDesk → Command → Result Unit CommandNo →
    Type 0
CommandsAbove setup last place old new c result =
    (past : List Entry) → (begins_id c ≡ true → last ≡ last_id setup past) → Sits past place old
    → (no_of result ≡ state_refusal setup past c)
    × Sits (command_entry c (no_of result) ∷ past) place new

-- A command that begins or halts a job is refused for this reason, if for any, after a past with
-- this last id, where it begins an id.
abbrev pub RefusesAbove : Setup → ℕ → Place → JobDesk → Command → Option CommandNo → Type 0
RefusesAbove setup last place desk c why =
    (past : List Entry) → (begins_id c ≡ true → last ≡ last_id setup past) → Sits past place desk →
    why ≡ state_refusal setup past c

-- The greatest id of the running payments at desks.
abbrev pub greatest_paying : List JobDesk → ℕ
greatest_paying [] = 0
greatest_paying (desk ∷ desks) = max desk.orders.id (greatest_paying desks)

-- How many records are held for a desk.
abbrev pub held_at : JobDesk → ℕ
held_at desk = held_by desk.job (order_of desk.orders.order)

-- How many records the job at a desk may still put.
abbrev pub puts_at : JobDesk → ℕ
puts_at desk = puts_left desk.job

-- A taken command takes room at a desk: for so many records that are held and so many that the job
-- may put, at most; and its job reserves so much more.
pub record Takes (need begun : ℕ) (reserved : Option Job → ℕ) (amount : ℕ) (old new : JobDesk)
    : Type 0 where
  pub holds : held_at new ≤ held_at old + need
  pub puts : puts_at new ≤ puts_at old + begun
  pub reserves : reserved new.job ≡ reserved old.job + amount

-- The same of a command to a device, by the rows that it begins.
abbrev pub TakesFor : Setup → Command → JobDesk → JobDesk → Type 0
TakesFor setup c old new =
    Takes (needed setup c) (puts_in (rows_begun setup c)) coins_by (coins_in (rows_begun setup c))
    old new

-- An attempt of a job frees room at its desk: that of a record that it puts, and then all coins
-- that it reserved.
pub record Frees (job : Option Job) (desk : JobDesk) : Type 0 where
  pub left : puts_at desk ≤ puts_left job
  pub puts : IfSome (due_by job) (λ r. puts_at desk < puts_left job)
  pub reserves : coins_by desk.job ≤ coins_by job
  pub clears : IfSome (due_by job) (λ r. coins_by desk.job ≡ 0)
  pub sells : sells_only job ≡ true → desk.job ≡ None

-- A sum over desks.
abbrev pub sum_in : (JobDesk → ℕ) → List JobDesk → ℕ
sum_in f [] = 0
sum_in f (desk ∷ desks) = f desk + sum_in f desks

-- How many records are held for desks.
abbrev pub held_in : List JobDesk → ℕ
held_in desks = sum_in held_at desks

-- What the jobs at the desks of these devices reserve.
abbrev pub reserved_over : Setup → List DeviceSetup → List JobDesk → ℕ
reserved_over setup [] desks = 0
reserved_over setup (d ∷ ds) [] = 0
reserved_over setup (d ∷ ds) (desk ∷ desks) =
    coins_of setup d.addr (coins_by desk.job) + reserved_over setup ds desks

-- Entries of an attempt, newest first, are those of a `next` at a place and of its address alone,
-- and its job, its epoch and its open order go on by them.
pub record Goes (hears : List ℕ → List ℕ) (place : Place) (past news : List Entry)
    (job : Option Job)
    (state : EpochState) (owed : OrderState) : Type 0 where
  pub entries : NextAt hears place past (model.job (lines_at place past)) news
  pub at : AreAt (addr_of place) past news
  pub keeps : Keeps place job state owed (lines_at place (news ++ past))

-- A job, an epoch and an open order make one attempt over a link, and leave this desk; it puts the
-- record that was due, if one was, and this is the id that its put used, or 0; it sends what the
-- job was about to send, if anything. What it adds to the report are the entries of a `next` at its
-- place, where what it heard is what follows the piece that it sent, and an order that it closes
-- was opened there.
pub record Attempts {L : Type 0} (gives : L → List ℕ → List ℕ → L → Type 0) (old new : L) (addr : ℕ)
    (job : Option Job)
    (state : EpochState) (owed : OrderState) (desk : JobDesk) (used : ℕ)
    (report reported : List Entry) : Type 0 where
  pub what : Attempt
  pub reported_is : reported ≡ report ++ reverse (news_of addr what)
  pub link : Links gives old new what
  pub put_is : put_of what ≡ due_by job
  pub sent_is : sent_of what ≡ piece_of (sending_by job)
  pub used_is : used ≡ used_by what
  pub goes : (hears : List ℕ → List ℕ) (place : Place) (past : List Entry) → HeardBy hears what →
      addr_of place ≡ addr
      → Keeps place job state owed (lines_at place past) → OwnsAt place past
      → Goes hears place past (news_of addr what) desk.job desk.epoch desk.orders
