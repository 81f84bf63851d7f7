-- What the operator has, as sums over all records and over the jobs that run.
use Rattle.std.specs.Prelude.{ℕ, ◌+◌, ◌-◌, ◌*◌, ◌==◌, List, [], ◌∷◌, if◌then◌else◌, Option, Some}
use Rattle.std.specs.Prelude.{None}
use Rattle.cct_model.specs.terms.coin.Coin.{Coin}
use Rattle.cct_model.specs.terms.device.DeviceBody.{DeviceBody}
use Rattle.cct_model.specs.terms.device.DeviceBody.TheVariants.{Acceptor, Bill, Hopper}
use Rattle.cct_model.specs.terms.device.DeviceSetup.{DeviceSetup}
use Rattle.cct_model.specs.terms.device.Setup.{Setup}
use Rattle.cct_model.specs.lines.record.Record.{Record}
use Rattle.cct_model.specs.Effect.{OrderMove, Sale, effect}
use Rattle.cct_model.specs.Effect as move
use Rattle.cct_model.specs.lines.entry.Entry.{Entry}
use Rattle.cct_model.specs.lines.entry.Totals.{Totals}
use Rattle.cct_model.specs.declared.judging.OpenOrder.{OpenOrder}
use Rattle.cct_model.specs.Device.{value_at}
use Rattle.cct_model.specs.Exchange.{device_at}
use Rattle.cct_model.specs.Job.{Job, free, works, job, address_of}
use Rattle.cct_model.specs.Rows.{Due, new_order, sale, TableRow, puts_due, rest, left_of_sale}
use Rattle.cct_model.specs.Records.{records, order_named, order_in, owner_in}
use Rattle.cct_model.specs.Sums.{posts_of, coins_paid, price_sold, sum_in}
use Rattle.cct_model.specs.Transcript.{lines_of, sale_lines}

-- The value of a coin of a place at a device, 0 where there is none or the place has none; places
-- are numbered from 1.
abbrev pub place_value : Option DeviceSetup → ℕ → ℕ
place_value None place = 0
place_value (Some d) place = if place == 0 then 0 else value_at d.body place

-- The value of coins that a device accepted.
abbrev pub coins_value : Option DeviceSetup → List Coin → ℕ
coins_value found [] = 0
coins_value found (coin ∷ coins) = place_value found coin.place + coins_value found coins

-- The value of the coins that a hopper pays, 0 of another device.
abbrev pub paid_value : DeviceBody → ℕ
paid_value (Acceptor accepts values ids) = 0
paid_value (Hopper life value) = value
paid_value (Bill accepts values ids) = 0

-- The value of one coin of the hopper at an address, 0 where there is no device.
abbrev pub hopper_value : Option DeviceSetup → ℕ
hopper_value None = 0
hopper_value (Some d) = paid_value d.body

-- The value of so many coins of the hopper at an address.
abbrev pub coins_of : Setup → ℕ → ℕ → ℕ
coins_of setup addr count = count * hopper_value (device_at setup.devices addr)

-- The value of all coins of an order, 0 of none.
abbrev pub amount : Setup → Option OpenOrder → ℕ
amount setup None = 0
amount setup (Some o) = coins_of setup o.addr o.count

-- The value of the coins that a record posts.
abbrev pub posted_by : Setup → List Record → Record → ℕ
posted_by setup before r = coins_value (device_at setup.devices (owner_in before r)) (posts_of r)

-- The value of all coins posted.
abbrev pub posted_in : Setup → List Record → ℕ
posted_in setup [] = 0
posted_in setup (r ∷ before) = posted_by setup before r + posted_in setup before

-- The value that a record says was paid: of a closed order, that of the coins that fell.
abbrev pub paid_by : Setup → List Record → Record → ℕ
paid_by setup before r = coins_of setup (owner_in before r) (coins_paid r)

-- The value of all coins paid.
abbrev pub paid_in : Setup → List Record → ℕ
paid_in setup [] = 0
paid_in setup (r ∷ before) = paid_by setup before r + paid_in setup before

-- The sum of all prices.
abbrev pub sold_in : List Record → ℕ
sold_in before = sum_in price_sold before

-- The amount of an order that a record closes with counts of life that don't fit it, with the
-- orders by their ids.
abbrev pub odd_amount : Setup → (ℕ → Option OpenOrder) → Record → ℕ
odd_amount setup named r = odd_of (effect r).order
  where
    odd_of : OrderMove → ℕ
    odd_of (move.oddly_closed id) = amount setup (named id)
    odd_of other = 0

-- The amount of an order that was closed with counts of life that don't fit it; it stays reserved.
abbrev pub odd_by : Setup → List Record → Record → ℕ
odd_by setup before r = odd_amount setup (λ id. order_named id before) r

-- The amounts of all such orders.
abbrev pub odd_in : Setup → List Record → ℕ
odd_in setup [] = 0
odd_in setup (r ∷ before) = odd_by setup before r + odd_in setup before

-- A sum over devices.
abbrev pub sum_over : (DeviceSetup → ℕ) → List DeviceSetup → ℕ
sum_over f [] = 0
sum_over f (d ∷ ds) = f d + sum_over f ds

-- The amounts of the open orders.
abbrev pub owed_in : Setup → List Record → ℕ
owed_in setup before = sum_over (λ d. amount setup (order_in d.addr before)) setup.devices

-- What the records reserve: the amounts of the open orders, and of those whose counts of life don't
-- fit.
abbrev pub reserved_in : Setup → List Record → ℕ
reserved_in setup before = owed_in setup before + odd_in setup before

-- What is available beside the records alone.
abbrev pub available_in : Setup → List Record → ℕ
available_in setup before =
    posted_in setup before - (reserved_in setup before + paid_in setup before + sold_in before)

-- What is available: the value of all coins posted, less what the records and others beside them
-- reserve, and what was paid and sold.
abbrev pub available_beside : Setup → List Record → ℕ → ℕ
available_beside setup before beside =
    posted_in setup before - (reserved_in setup before + beside + paid_in setup before
    + sold_in before)

-- What a record that is still to be put reserves, at an address.
abbrev pub reserves : Setup → ℕ → Due → ℕ
reserves setup addr (new_order id count) = coins_of setup addr count
reserves setup addr (sale id price) = price
reserves setup addr due = 0

-- What these rows reserve until they put their records.
abbrev pub reserved_for : Setup → ℕ → List TableRow → ℕ
reserved_for setup addr [] = 0
reserved_for setup addr (puts_due due behind ∷ rows) =
    reserves setup addr due + reserved_for setup addr rows
reserved_for setup addr (row ∷ rows) = reserved_for setup addr rows

-- What the job at a device reserves until it puts its record: the amount of an order that it opens.
abbrev pub reserved_by : Setup → DeviceSetup → Job → ℕ
reserved_by setup d free = 0
reserved_by setup d (works c since) = reserved_for setup (address_of c) (rest d c since)

-- What a sale reserves until it is put: its price.
abbrev pub reserved_by_sale : Setup → Job → ℕ
reserved_by_sale setup free = 0
reserved_by_sale setup (works c since) = reserved_for setup (address_of c) (left_of_sale c since)

-- What all running jobs reserve.
abbrev pub reserved_at_work : Setup → List Entry → ℕ
reserved_at_work setup past =
    sum_over (λ d. reserved_by setup d (job (lines_of d past))) setup.devices
    + reserved_by_sale setup (job (sale_lines past))

-- What running jobs reserve no more once a record is put: the amount of an order that it opens, and
-- the price of a sale.
abbrev pub freed_by : Setup → Record → ℕ
freed_by setup r = freed (effect r).order (effect r).sale
  where
    freed : OrderMove → Option Sale → ℕ
    freed (move.newly_opened id addr count life) _ = coins_of setup addr count
    freed other (Some s) = s.price
    freed other None = 0

-- All that is reserved.
abbrev pub reserved : Setup → List Entry → ℕ
reserved setup past = reserved_in setup (records past) + reserved_at_work setup past

-- What is reserved, paid and sold.
abbrev pub spoken_for : Setup → List Entry → ℕ
spoken_for setup past = reserved setup past + paid_in setup (records past) + sold_in (records past)

-- What is available: the value of all coins posted, less what is reserved, paid and sold.
abbrev pub available : Setup → List Entry → ℕ
available setup past = posted_in setup (records past) - spoken_for setup past

-- What the operator has.
abbrev pub totals : Setup → List Entry → Totals
totals setup past = record {
  available = available setup past;
  reserved = reserved setup past;
  paid = paid_in setup (records past);
  sold = sold_in (records past);
}
