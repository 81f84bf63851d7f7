-- A ledger that represents the records that it took.
use Rattle.std.specs.Prelude.{◌≡◌, ℕ, ◌+◌, Bool, List, ◌∷◌, length, Result, is_ok, OnOk, OnErr}
use Rattle.cct_model.specs.terms.device.Setup.{Setup}
use Rattle.cct_model.specs.lines.record.Record.{Record}
use Rattle.cct_model.specs.Setup.{IsSoundSetup}
use Rattle.cct_model.specs.Money.{posted_in, reserved_in, paid_in, sold_in}
use Rattle.cct_model.specs.Following.{is_allowed}
use Rattle.cct_ledger.specs.Orders.{KeepsOrders}
use Rattle.cct_ledger.specs.declared.ledger.Ledger.{Ledger}

-- The setup of a ledger.
abbrev pub setup_of : Ledger → Setup
setup_of ledger = ledger.setup.now

-- How many records it took.
abbrev pub applied : Ledger → ℕ
applied ledger = ledger.records

-- What it has available.
abbrev pub available_of : Ledger → ℕ
available_of ledger = ledger.available

-- What is reserved beside the records.
abbrev pub reserved_of : Ledger → ℕ
reserved_of ledger = ledger.reserved

-- A ledger represents these records, newest first, and so much that is reserved beside them: its
-- setup is sound, it counts the records and keeps the open orders, its sums are those over the
-- records, and what is available, reserved, paid and sold is together the value of all coins
-- posted.
pub record StandsFor (ledger : Ledger) (before : List Record) (beside : ℕ) : Type 0 where
  pub sound : IsSoundSetup (setup_of ledger)
  pub counted : applied ledger ≡ length before
  pub orders : KeepsOrders (setup_of ledger) before ledger.orders.items
  pub owed : ledger.owed ≡ reserved_in (setup_of ledger) before
  pub reserved : reserved_of ledger ≡ beside
  pub paid : ledger.paid ≡ paid_in (setup_of ledger) before
  pub sold : ledger.sold ≡ sold_in before
  pub posted : available_of ledger + ledger.owed + reserved_of ledger + ledger.paid + ledger.sold
      ≡ posted_in (setup_of ledger) before

-- A ledger takes a record exactly if it may, after the records and beside what is reserved for
-- which it stands.
abbrev pub Judges : Ledger → Record → Bool → Type 0
Judges ledger r taken =
    (before : List Record) (beside : ℕ) → StandsFor ledger before beside →
    taken ≡ is_allowed (setup_of ledger) before beside r

-- A ledger goes on by a record: it then represents one record more.
abbrev pub GoesOn : Ledger → Ledger → Record → Type 0
GoesOn old new r =
    (before : List Record) (beside : ℕ) → StandsFor old before beside →
    StandsFor new (r ∷ before) beside

-- What a ledger makes of a record, by its answer: it takes it exactly if it may, and then goes on
-- by it; one that it refuses changes nothing. Its setup stays, and so does what is reserved beside
-- the records.
pub record Takes {T E : Type 0} (old new : Ledger) (r : Record) (result : Result T E) : Type 0 where
  pub setup : setup_of new ≡ setup_of old
  pub reserved : reserved_of new ≡ reserved_of old
  pub counted : OnOk result (applied new ≡ applied old + 1)
  -- It is taken exactly if it follows the records before it, and what it takes is available beside
  -- all that is reserved.
  pub exactly : Judges old r (is_ok result)
  -- Coins that are posted have the value of their places at the device that took them; a closed
  -- order pays what fell and frees the rest; one whose life counts don't fit stays reserved.
  pub taken : OnOk result (GoesOn old new r)
  pub refused : OnErr result (new ≡ old)

-- A ledger then has so much available, and so much reserved beside the records, of which it takes
-- none.
pub record Reserves (free held : ℕ) (beside_after : ℕ → ℕ) (old new : Ledger) : Type 0 where
  pub setup : setup_of new ≡ setup_of old
  pub available : available_of new ≡ free
  pub reserved : reserved_of new ≡ held
  pub counted : applied new ≡ applied old
  pub stands : (before : List Record) (beside : ℕ) → StandsFor old before beside
      → StandsFor new before (beside_after beside)
