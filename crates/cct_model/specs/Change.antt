-- Sessions of change: what the desk of the operator knows, read off the steps and their entries.
use Rattle.std.specs.Prelude.{◌≡◌, ◌⊎◌, ℕ, ◌+◌, ◌-◌, ◌*◌, ◌^◌, ◌<◌, ◌≤◌, ◌==◌, ◌&&◌, Bool, true}
use Rattle.std.specs.Prelude.{false, List, [], ◌∷◌, flat_map, if◌then◌else◌, Option, Some, None}
use Rattle.std.specs.Prelude.{MatchBool}
use Rattle.std.specs.List.{list_any}
use Rattle.std.specs.Option.{option_map}
use Rattle.cct_model.specs.terms.device.DeviceBody.{DeviceBody}
use Rattle.cct_model.specs.terms.device.DeviceBody.TheVariants.{Acceptor, Bill, Hopper}
use Rattle.cct_model.specs.terms.device.DeviceSetup.{DeviceSetup}
use Rattle.cct_model.specs.terms.device.Setup.{Setup}
use Rattle.cct_model.specs.lines.command.Command.TheVariants as command
use Rattle.cct_model.specs.lines.command.CommandNo.{CommandNo}
use Rattle.cct_model.specs.lines.command.Step.{Step}
use Rattle.cct_model.specs.lines.command.Step.TheVariants as step
use Rattle.cct_model.specs.lines.record.Record.{Record}
use Rattle.cct_model.specs.lines.record.Record.TheVariants as record_of
use Rattle.cct_model.specs.lines.entry.Entry.{Entry}
use Rattle.cct_model.specs.lines.entry.Entry.TheVariants as entry
use Rattle.cct_model.specs.declared.change.Tray.{Tray}
use Rattle.cct_model.specs.declared.change.Payment.{Payment}
use Rattle.cct_model.specs.declared.change.Phase.{Phase}
use Rattle.cct_model.specs.declared.change.Phase.TheVariants.{Begun, Opened, Closed, Odd, Lost}
use Rattle.cct_model.specs.declared.change.Due.{Due}
use Rattle.cct_model.specs.declared.change.Session.{Session}
use Rattle.cct_model.specs.Exchange.{by_address}
use Rattle.cct_model.specs.Plan.{IsChosen, HasNoPlan}
use Rattle.cct_model.specs.Records.{records}
use Rattle.cct_model.specs.Refusal.{refusal}

-- What the desk of the operator knows: the session that runs, if one does, and the trays, which are
-- the hoppers of the setup in rising order of address.
pub record Desk : Type 0 where
  pub session : Option Session
  pub trays : List Tray

-- The tray of a device, which is empty at first: a hopper has one.
abbrev pub tray_of : ℕ → DeviceBody → List Tray
tray_of addr (Acceptor accepts values ids) = []
tray_of addr (Hopper life value) = record { addr = addr; value = value; stock = 0 } ∷ []
tray_of addr (Bill accepts values ids) = []

-- The trays of devices.
abbrev pub trays_of : List DeviceSetup → List Tray
trays_of devices = flat_map (λ d. tray_of d.addr d.body) devices

-- A desk at which nothing was done.
abbrev pub clear_desk : Setup → Desk
clear_desk setup = record { session = None; trays = trays_of (by_address setup.devices) }

-- Trays of which the stock at an address becomes another.
abbrev pub restocked : ℕ → (ℕ → ℕ) → List Tray → List Tray
restocked addr becomes [] = []
restocked addr becomes (t ∷ ts) =
    (if t.addr == addr then record { addr = t.addr; value = t.value; stock = becomes t.stock } else
    t)
    ∷ restocked addr becomes ts

-- What a coin of the tray at an address is worth, 0 where there is none.
abbrev pub value_in : List Tray → ℕ → ℕ
value_in [] addr = 0
value_in (t ∷ ts) addr = if t.addr == addr then t.value else value_in ts addr

-- A record opens the order of a payment.
abbrev pub is_opening : Payment → Record → Bool
is_opening p (record_of.Opened id addr count life) =
    (id == p.id) && (addr == p.addr) && (count == p.count)
is_opening p r = false

-- An entry ends the job at an address: it shows so, or it shows a power cut.
abbrev pub is_end_at : ℕ → Entry → Bool
is_end_at addr (entry.Ended other end) = other == addr
is_end_at addr (entry.Crash records) = true
is_end_at addr e = false

-- What became of an open order after these records, newest first.
abbrev pub closed_in : ℕ → List Record → Phase
closed_in id [] = Opened
closed_in id (record_of.Closed closed paid unpaid ∷ rs) =
    if closed == id then Closed paid unpaid else closed_in id rs
closed_in id (record_of.Odd closed before after ∷ rs) =
    if closed == id then Odd else closed_in id rs
closed_in id (r ∷ rs) = closed_in id rs

-- What became of a payment after the entries of a step, newest first. Its order is opened by a
-- record that is put or kept in a step before which its job was running; and it never is where that
-- job ended in another step.
abbrev pub phase_after : Payment → List Entry → Phase → Phase
phase_after p news Begun =
    if list_any (is_opening p) (records news) then Opened else if list_any (is_end_at p.addr) news
    then Lost else Begun
phase_after p news Opened = closed_in p.id (records news)
phase_after p news phase = phase

-- A payment that isn't settled after the entries of a step that is none of the desk's.
abbrev pub due_after : List Entry → Due → Due
due_after news due =
    record { payment = due.payment; phase = phase_after due.payment news due.phase }

-- A session after them.
abbrev pub session_after : List Entry → Session → Session
session_after news s =
    record {
      amount = s.amount;
      rest = s.rest;
      next = s.next;
      due =
          option_map (due_after news) s.due;
    }

-- The coins that were paid, as the record says that closed the order.
abbrev pub paid_in_phase : Phase → ℕ
paid_in_phase (Closed paid unpaid) = paid
paid_in_phase phase = 0

-- The stock of a hopper whose payment is settled: the coins that were paid are gone. It is 0 where
-- some were left unpaid, or where the order was never opened.
abbrev pub stock_left : Phase → ℕ → ℕ
stock_left (Closed paid unpaid) before = if unpaid == 0 then before - paid else 0
stock_left phase before = 0

-- A session whose last payment is settled: the value of its paid coins is taken from the rest.
abbrev pub settled : List Tray → Due → Session → Session
settled trays due s = record {
  amount = s.amount;
  rest = s.rest - paid_in_phase due.phase * value_in trays due.payment.addr;
  next = s.next;
  due = None;
}

-- The trays then.
abbrev pub settled_trays : Due → List Tray → List Tray
settled_trays due trays = restocked due.payment.addr (stock_left due.phase) trays

-- The first tray of which a plan takes a coin, by its address, and how many it takes.
abbrev pub first_pay : List Tray → List ℕ → Option (ℕ × ℕ)
first_pay (t ∷ ts) (c ∷ cs) = if c == 0 then first_pay ts cs else Some (t.addr, c)
first_pay ts cs = None

-- What a session pays next: the first count of the chosen plan for the rest that isn't 0.
pub record PaysNext (trays : List Tray) (s : Session) (p : Payment) : Type 0 where
  pub counts : List ℕ
  pub chosen : IsChosen trays s.rest counts
  pub pays : first_pay trays counts ≡ Some (p.addr, p.count)
  pub id : p.id ≡ s.next
  pub within : s.next < 2 ^ 32

-- A session can't pay on: there is no plan for the rest, or there are no ids left.
abbrev pub IsStuck : List Tray → Session → Type 0
IsStuck trays s = HasNoPlan trays s.rest ⊎ (2 ^ 32 ≤ s.next)

-- The entry of a session that ends short.
abbrev pub short_entry : Session → Entry
short_entry s = entry.Short (s.amount - s.rest) s.rest

-- The entries of a payment of a session, newest first: it is taken, or it is refused with this
-- reason, and the session ends.
abbrev pub pay_entries : Session → Payment → Option CommandNo → List Entry
pay_entries s p None = entry.Taken (command.Pay p.addr p.id p.count) ∷ []
pay_entries s p (Some why) = short_entry s ∷ entry.No (command.Pay p.addr p.id p.count) why ∷ []

-- The entries of a session whose payments are settled and that has a rest: it can't pay on, or it
-- pays.
abbrev pub PaysOn : ℕ → Setup → List Entry → List Tray → Session → List Entry → Type 0
PaysOn capacity setup past trays s news =
    (IsStuck trays s × (news ≡ short_entry s ∷ []))
    ⊎ ((p : Payment) × PaysNext trays s p
    × (news ≡ pay_entries s p (refusal capacity setup past (command.Pay p.addr p.id p.count))))

-- The entries of a session whose payments are settled: it is served where nothing is left, else it
-- pays on.
abbrev pub GoesOn : ℕ → Setup → List Entry → List Tray → Session → List Entry → Type 0
GoesOn capacity setup past trays s news =
    MatchBool (s.rest == 0) (news ≡ entry.Served s.amount ∷ [])
    (PaysOn capacity setup past trays s news)

-- The entries of a `serve` while a session has a payment to settle, by what became of that: it
-- waits while the job is at work or the order is open; it ends where the life counts don't fit the
-- order; else it settles it and goes on.
abbrev pub Settles : ℕ → Setup → List Entry → List Tray → Session → Due → Phase → List Entry →
    Type 0
Settles capacity setup past trays s due Begun news = news ≡ entry.ServeWait due.payment.addr ∷ []
Settles capacity setup past trays s due Opened news = news ≡ entry.ServeWait due.payment.addr ∷ []
Settles capacity setup past trays s due Odd news = news ≡ entry.ServeOdd due.payment.id ∷ []
Settles capacity setup past trays s due phase news =
    GoesOn capacity setup past (settled_trays due trays) (settled trays due s) news

-- The entries of a `serve` while a session runs.
abbrev pub ServesDue : ℕ → Setup → List Entry → List Tray → Session → Option Due → List Entry →
    Type 0
ServesDue capacity setup past trays s None news = GoesOn capacity setup past trays s news
ServesDue capacity setup past trays s (Some due) news =
    Settles capacity setup past trays s due due.phase news

-- The entries of a `serve` after all that came before, newest first.
abbrev pub Serves : ℕ → Setup → List Entry → List Tray → Option Session → List Entry → Type 0
Serves capacity setup past trays None news = news ≡ entry.ServeIdle ∷ []
Serves capacity setup past trays (Some s) news = ServesDue capacity setup past trays s s.due news

-- The entry of a `change`: a session begins where none runs.
abbrev pub change_entry : ℕ → ℕ → Option Session → Entry
change_entry first amount None = entry.ChangeOk first amount
change_entry first amount (Some s) = entry.ChangeNo

-- The session that runs then.
abbrev pub changed : ℕ → ℕ → Option Session → Session
changed first amount None = record { amount = amount; rest = amount; next = first; due = None }
changed first amount (Some s) = s

-- The desk after a session whose payments are settled gave these entries: it goes on with the
-- payment that was taken, and else it is over.
abbrev pub gone_on : List Entry → List Tray → Session → Desk
gone_on (entry.Taken (command.Pay addr id count) ∷ news) trays s = record {
  session = Some (record {
    amount = s.amount;
    rest = s.rest;
    next = s.next + 1;
    due = Some (record { payment = record { addr = addr; id = id; count = count }; phase = Begun });
  });
  trays = trays;
}
gone_on news trays s = record { session = None; trays = trays }

-- The desk after a `serve` gave these entries, while a session has a payment to settle, by what
-- became of that.
abbrev pub served_due : List Entry → List Tray → Session → Due → Phase → Desk
served_due news trays s due Begun = record { session = Some s; trays = trays }
served_due news trays s due Opened = record { session = Some s; trays = trays }
served_due news trays s due Odd = record { session = None; trays = trays }
served_due news trays s due phase = gone_on news (settled_trays due trays) (settled trays due s)

-- The desk after them while a session runs.
abbrev pub served_by : List Entry → List Tray → Session → Option Due → Desk
served_by news trays s None = gone_on news trays s
served_by news trays s (Some due) = served_due news trays s due due.phase

-- The desk after a `serve` gave these entries, newest first.
abbrev pub served : List Entry → List Tray → Option Session → Desk
served news trays None = record { session = None; trays = trays }
served news trays (Some s) = served_by news trays s s.due

-- The desk after a step and its entries, newest first.
abbrev pub desk_after : Step → List Entry → Desk → Desk
desk_after (step.Stock addr count) news desk =
    record { session = desk.session; trays = restocked addr (λ before. count) desk.trays }
desk_after (step.Change first amount) news desk =
    record { session = Some (changed first amount desk.session); trays = desk.trays }
desk_after step.Serve news desk = served news desk.trays desk.session
desk_after s news desk =
    record { session = option_map (session_after news) desk.session; trays = desk.trays }
