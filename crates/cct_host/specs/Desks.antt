-- Desks that represent all that happened.
use Rattle.std.specs.Prelude.{◌≡◌, ◌+◌, ◌-◌, ◌≤◌, ◌<◌, ◌==◌, ℕ, List, ◌∷◌, ◌++◌, if◌then◌else◌}
use Rattle.std.specs.Prelude.{Option, Some, None, Result, length, max, option_and_then, reverse}
use Rattle.std.specs.Prelude.{slice_get}
use Rattle.std.specs.List.{position}
use Rattle.std.specs.Option.{IfSome}
use Rattle.cct_model.specs.terms.wire.TheConstants.{BROADCAST, HOST}
use Rattle.cct_jobs.specs.declared.job.Sending.{Sending}
use Rattle.cct_model.specs.terms.device.Setup.{Setup}
use Rattle.cct_model.specs.lines.command.Command.{Command}
use Rattle.cct_model.specs.lines.command.CommandNo.{CommandNo}
use Rattle.cct_model.specs.lines.record.Record.{Record}
use Rattle.cct_model.specs.lines.entry.Entry.{Entry}
use Rattle.cct_model.specs.Legal.{EntriesOfNext, command_entry}
use Rattle.cct_model.specs.Money.{coins_of}
use Rattle.cct_model.specs.Records.{greatest_id, records}
use Rattle.cct_model.specs.Refusal.{state_refusal}
use Rattle.cct_model.specs.Rows.{puts_in}
use Rattle.cct_model.specs.Setup.{IsSoundSetup}
use Rattle.cct_host.specs.declared.desk.JobDesk.{JobDesk}
use Rattle.cct_host.specs.declared.desks.Desks.{Desks}
use Rattle.cct_host.specs.Attempt.{Attempt, HeardBy, Links, news_of, put_of, sent_of}
use Rattle.cct_host.specs.Desk.{AllSit, Sits, greatest_paying, held_at, held_in, no_of, puts_at}
use Rattle.cct_host.specs.Desk.{reserved_over, sum_in}
use Rattle.cct_host.specs.Held.{coins_by, due_by, piece_of, price_by, sending_by}
use Rattle.cct_host.specs.Place.{OwnsItsPut, sales, scans}
use Rattle.cct_host.specs.Running.{amount_of, needed, rows_begun}

-- The setup of desks.
abbrev pub setup_of : Desks → Setup
setup_of desks = desks.setup.now

-- How many records are held: those that jobs may still put, and one for each open order that no job
-- is running to close.
abbrev pub held_of : Desks → ℕ
held_of desks = held_in desks.devices.items + held_at desks.sale

-- How many records all jobs may still put.
abbrev pub puts_of : Desks → ℕ
puts_of desks = sum_in puts_at desks.devices.items + puts_at desks.sale

-- What all jobs reserve.
abbrev pub reserved_of : Desks → ℕ
reserved_of desks =
    reserved_over (setup_of desks) (setup_of desks).devices desks.devices.items
    + price_by desks.sale.job

-- The greatest id of the running payments and the running sale.
abbrev pub working_id : Desks → ℕ
working_id desks = max (greatest_paying desks.devices.items) desks.sale.orders.id

-- The index of the device at an address, if there is one.
abbrev pub index_at : Setup → ℕ → Option ℕ
index_at setup addr = position (λ d. d.addr == addr) setup.devices

-- The desk of the device at an address, if there is one.
abbrev pub desk_there : Desks → ℕ → Option JobDesk
desk_there desks addr =
    option_and_then (slice_get desks.devices.items) (index_at (setup_of desks) addr)

-- This is the index of the desk of the device at an address, if there is one.
pub record FindsDesk (desks : Desks) (addr : ℕ) (found : Option ℕ) : Type 0 where
  pub is : found ≡ index_at (setup_of desks) addr
  pub within : IfSome found (λ i. i < length desks.devices.items)

-- The record that the job at an address is about to put, if it is about to put one, where this desk
-- of a device is there; one without a device that puts something is the sale's.
abbrev pub due_at_desk : JobDesk → ℕ → Option JobDesk → Option Record
due_at_desk sale addr (Some desk) = due_by desk.job
due_at_desk sale addr None = if addr == HOST then due_by sale.job else None

-- The record that the job at an address is about to put, if it is about to put one.
abbrev pub due_on : Desks → ℕ → Option Record
due_on desks addr = due_at_desk desks.sale addr (desk_there desks addr)

-- The request that the job at an address sends next, if it is about to send one, where this desk of
-- a device is there; one without a device that sends something is that of scans.
abbrev pub sending_at_desk : JobDesk → ℕ → Option JobDesk → Option Sending
sending_at_desk scan addr (Some desk) = sending_by desk.job
sending_at_desk scan addr None = if addr == BROADCAST then sending_by scan.job else None

-- The request that the job at an address sends next, if it is about to send one.
abbrev pub sending_on : Desks → ℕ → Option Sending
sending_on desks addr = sending_at_desk desks.scan addr (desk_there desks addr)

-- What the job at an address reserves, where this desk of a device is there; one without a device
-- that reserves something is the sale's.
abbrev pub amount_at_desk : Setup → JobDesk → ℕ → Option JobDesk → ℕ
amount_at_desk setup sale addr (Some desk) = coins_of setup addr (coins_by desk.job)
amount_at_desk setup sale addr None = if addr == HOST then price_by sale.job else 0

-- What the job at an address reserves.
abbrev pub amount_on : Desks → ℕ → ℕ
amount_on desks addr = amount_at_desk (setup_of desks) desks.sale addr (desk_there desks addr)

-- A taken command takes room for the records that it needs and puts, and reserves its amount.
pub record TakesIn (c : Command) (old new : Desks) : Type 0 where
  -- At most the records that the command needs are held more.
  pub holds : held_of new ≤ held_of old + needed (setup_of old) c
  pub puts : puts_of new ≤ puts_of old + puts_in (rows_begun (setup_of old) c)
  -- And exactly the coins of a payment, or the price of a sale, are reserved more.
  pub reserves : reserved_of new ≡ reserved_of old + amount_of (setup_of old) c

-- A `next` at an address frees room: that of the record that it puts, if it puts one, and then all
-- that the job there reserved; what the others reserve stays.
pub record FreesIn (addr : ℕ) (old new : Desks) : Type 0 where
  pub setup : setup_of new ≡ setup_of old
  -- What its jobs may still put never rises, and falls if a record was due.
  pub left : puts_of new ≤ puts_of old
  pub puts : IfSome (due_on old addr) (λ r. puts_of new < puts_of old)
  pub reserves : amount_on new addr ≤ amount_on old addr
  -- After a record that was due its job reserves nothing.
  pub clears : IfSome (due_on old addr) (λ r. amount_on new addr ≡ 0)
  pub frees : reserved_of new + (amount_on old addr - amount_on new addr) ≡ reserved_of old

-- Desks represent a transcript, newest entry first: their setup is sound, each has the job, the
-- epoch and the open order that the lines of its device show, the scan is that of the lines of
-- address 0, the sale that of the lines of address 1, and the greatest id of the records is known.
pub record StandsFor (desks : Desks) (past : List Entry) : Type 0 where
  pub sound : IsSoundSetup (setup_of desks)
  pub devices : AllSit past (setup_of desks).devices desks.devices.items
  pub scan : Sits past scans desks.scan
  pub sale : Sits past sales desks.sale
  pub last : desks.last ≡ greatest_id (records past)

-- Nothing changed.
abbrev pub Stays : Desks → Desks → Type 0
Stays old new =
    (new.setup ≡ old.setup) × (new.devices.items ≡ old.devices.items) × (new.scan ≡ old.scan)
    × (new.sale ≡ old.sale)
    × (new.last ≡ old.last)

-- A command is taken or refused as it has to be after whatever happened, and the desks go on by its
-- entry.
abbrev pub Answers : Desks → Desks → Command → Result Unit CommandNo → Type 0
Answers old new c result =
    (past : List Entry) → StandsFor old past
    → (no_of result ≡ state_refusal (setup_of old) past c)
    × StandsFor new (command_entry c (no_of result) ∷ past)

-- A command is refused for this reason, if for any, after whatever happened.
abbrev pub Refuses : Desks → Command → Option CommandNo → Type 0
Refuses desks c why =
    (past : List Entry) → StandsFor desks past → why ≡ state_refusal (setup_of desks) past c

-- A `next` at an address makes one attempt over a link, puts the record that was due there, if one
-- was, and sends the request that was next there, if one was. What it adds to the report are the
-- entries of a `next` after whatever happened, where what it heard is what follows the piece that
-- it sent, and an order that it closes was opened at that address; and the desks go on by them.
pub record Nexts {L : Type 0} (gives : L → List ℕ → List ℕ → L → Type 0) (old new : L) (addr : ℕ)
    (before after : Desks)
    (report reported : List Entry) : Type 0 where
  pub what : Attempt
  pub reported_is : reported ≡ report ++ reverse (news_of addr what)
  pub link : Links gives old new what
  pub put_is : put_of what ≡ due_on before addr
  pub sent_is : sent_of what ≡ piece_of (sending_on before addr)
  pub goes : (hears : List ℕ → List ℕ) (past : List Entry) → HeardBy hears what →
      StandsFor before past
      → OwnsItsPut (setup_of before) past addr
      → EntriesOfNext hears (setup_of before) past addr (news_of addr what) × StandsFor after
      (news_of addr what ++ past)
