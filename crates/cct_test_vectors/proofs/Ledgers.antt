-- What a ledger over one acceptor and one hopper takes, row by row, and what it then reports; and
-- the carry of records.
use Rattle.std.proofs.Common.{◌≡◌, ℕ, Bool, true, false, List, [], ◌∷◌, reverse, replicate, if◌then◌else◌, refl}
use Rattle.std.specs.Prelude.{codes}
use Rattle.cct_model.specs.terms.wire.CheckKind.TheVariants.{Simple}
use Rattle.cct_model.specs.terms.device.DeviceBody.{DeviceBody}
use Rattle.cct_model.specs.terms.device.DeviceBody.TheVariants.{Acceptor, Hopper}
use Rattle.cct_model.specs.terms.device.DeviceSetup.{DeviceSetup}
use Rattle.cct_model.specs.terms.device.Setup.{Setup}
use Rattle.cct_model.specs.lines.carry.Carry.{Carry}
use Rattle.cct_model.specs.lines.entry.Totals.{Totals}
use Rattle.cct_model.specs.lines.record.Record.{Record}
use Rattle.cct_model.specs.lines.record.Record.TheVariants.{Epoch, Reading, Broken, EpochEnd, Opened, Closed, Odd, Sold}
use Rattle.cct_model.specs.Carry.{available_held, carry, reserved_held}
use Rattle.cct_model.specs.Following.{is_allowed}
use Rattle.cct_ledger.specs.Told.{totals_beside}
use Rattle.cct_test_vectors.proofs.Played.{texts}

abbrev device : ℕ → DeviceBody → DeviceSetup
device addr body = record { addr = addr; kind = Simple; serial = 1; texts = texts; named = true; body = body }

-- a coin is worth 100, and a coin of the hopper 10
abbrev setup : Setup
setup = record {
  devices = device 2 (Acceptor 0 (replicate 16 100) (replicate 16 (codes "555555"))) ∷ device 3 (Hopper 0 10) ∷ [];
}

-- a reading that posts one coin of a place
abbrev reading : ℕ → ℕ → Record
reading addr place = Reading addr 1 0 1 (record { place = place; path = 1 } ∷ [])

abbrev amounts : ℕ → ℕ → ℕ → ℕ → Totals
amounts available reserved paid sold = record { available = available; reserved = reserved; paid = paid; sold = sold }

-- a record, whether it is taken, and what is then available, reserved, paid and sold
record Row : Type 0 where
  puts : Record
  taken : Bool
  left : Totals

abbrev takes : Record → Totals → Row
takes r left = record { puts = r; taken = true; left = left }

abbrev refuses : Record → Totals → Row
refuses r left = record { puts = r; taken = false; left = left }

abbrev with_record : Bool → Record → List Record → List Record
with_record taken r before = if taken then r ∷ before else before

-- these rows as they come after some records, newest first
abbrev come : List Record → List Row → List Row
come before [] = []
come before (row ∷ rows) =
    let taken = is_allowed setup before 0 row.puts in
    let now = with_record taken row.puts before in
    record { puts = row.puts; taken = taken; left = totals_beside setup now 0 } ∷ come now rows

abbrev table : List Row
table =
    takes (Epoch 2 65535 0) (amounts 0 0 0 0)
    ∷ takes (reading 2 5) (amounts 100 0 0 0)
    ∷ takes (Opened 41 3 4 0) (amounts 60 40 0 0)
    ∷ takes (Closed 41 2 2) (amounts 80 0 20 0)
    ∷ refuses (Closed 41 2 2) (amounts 80 0 20 0)
    -- all that is available, and one unit more
    ∷ refuses (Sold 42 81) (amounts 80 0 20 0)
    ∷ takes (Sold 42 80) (amounts 0 0 20 80)
    ∷ refuses (Sold 43 1) (amounts 0 0 20 80)
    -- no coin of another address, of the hopper, or of a place that isn't there is worth anything
    ∷ takes (reading 9 5) (amounts 0 0 20 80)
    ∷ takes (reading 3 5) (amounts 0 0 20 80)
    ∷ takes (reading 2 0) (amounts 0 0 20 80)
    ∷ takes (reading 2 17) (amounts 0 0 20 80)
    ∷ takes (Broken 2 0 1 9 11 (record { place = 16; path = 1 } ∷ [])) (amounts 100 0 20 80)
    ∷ takes (EpochEnd 2) (amounts 100 0 20 80)
    ∷ takes (Opened 44 3 3 0) (amounts 70 30 20 80)
    ∷ takes (Odd 44 0 9) (amounts 70 30 20 80)
    ∷ refuses (Opened 45 3 8 0) (amounts 70 30 20 80)
    ∷ []

table_comes : come [] table ≡ table
table_comes = refl

-- records that follow one another, newest first
abbrev first : List Record
first =
    reverse
    (Epoch 2 65535 0
    ∷ reading 2 5
    ∷ reading 2 5
    ∷ Opened 41 3 4 0
    ∷ Closed 41 2 2
    ∷ Sold 42 50
    ∷ Opened 43 3 3 0
    ∷ Odd 43 0 9
    ∷ Opened 44 3 5 0
    ∷ [])

-- what is put after them
abbrev later : List Row
later =
    -- the hopper has an open order, which has another id and another number of coins, and more isn't available
    refuses (Opened 45 3 1 0) (amounts 50 80 20 50)
    ∷ refuses (Closed 43 2 1) (amounts 50 80 20 50)
    ∷ refuses (Odd 43 0 9) (amounts 50 80 20 50)
    ∷ refuses (Closed 44 2 2) (amounts 50 80 20 50)
    ∷ refuses (Sold 46 51) (amounts 50 80 20 50)
    ∷ takes (Closed 44 3 2) (amounts 70 30 50 50)
    ∷ refuses (Opened 47 3 8 0) (amounts 70 30 50 50)
    ∷ takes (Opened 47 3 7 0) (amounts 0 100 50 50)
    ∷ takes (reading 2 5) (amounts 100 100 50 50)
    ∷ takes (Sold 48 100) (amounts 0 100 50 150)
    ∷ []

first_worth : totals_beside setup first 0 ≡ amounts 50 80 20 50
first_worth = refl

later_come : come first later ≡ later
later_come = refl

-- what is reserved beside the records isn't available, to an order or a sale
abbrev posted : List Record
posted = reading 2 5 ∷ Epoch 2 65535 0 ∷ []

worth_beside : totals_beside setup posted 61 ≡ amounts 39 61 0 0
worth_beside = refl

opened_beside : is_allowed setup posted 60 (Opened 41 3 4 0) ≡ true
opened_beside = refl

opened_of_reserved : is_allowed setup posted 61 (Opened 41 3 4 0) ≡ false
opened_of_reserved = refl

sold_beside : is_allowed setup posted 61 (Sold 1 39) ≡ true
sold_beside = refl

sold_of_reserved : is_allowed setup posted 61 (Sold 1 40) ≡ false
sold_of_reserved = refl

-- the carry of the first records, and what a ledger that begins with it has
abbrev carried : Carry
carried = record {
  last_id = 44;
  value = 200;
  paid_value = 20;
  odd_value = 30;
  posted = 2;
  lost = 0;
  paid = 2;
  unpaid = 2;
  sold = 50;
  epochs = record { addr = 2; mask = 65535; counter = 1; accepts = 1 } ∷ [];
  orders = record { id = 44; addr = 3; count = 5; life = 0 } ∷ [];
}

first_carried : carry setup first ≡ carried
first_carried = refl

available_carried : available_held setup carried 0 ≡ 50
available_carried = refl

reserved_carried : reserved_held setup carried ≡ 80
reserved_carried = refl
