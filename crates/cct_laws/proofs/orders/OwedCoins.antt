-- What a hopper owes of its open order, over plain numbers, and what the rows of a job need besides; everything that
-- comes keeps both. And that an order is closed with just the coins that fell.
use Rattle.std.proofs.Common.{◌≡◌, ℕ, suc, ◌+◌, ◌-◌, ◌%◌, ◌^◌, ◌≤◌, refl, Option, Some, None, arith, List, [], ◌∷◌}
use Rattle.std.specs.Prelude.{⊤}
use Rattle.std.proofs.lemmas.Bool.{le-leb}
use Rattle.cct_model.specs.lines.record.Record.TheVariants as record_of
use Rattle.cct_model.specs.declared.judging.OpenOrder.{OpenOrder}
use Rattle.cct_model.specs.Order.{life_between, close, life_read}
use Rattle.cct_model.specs.Job.{Job, free, works}
use Rattle.cct_model.specs.Paid.{OfOrder}
use Rattle.cct_model.specs.Rows.{new_order, order_end, TableRow, asks_for, asks_once, waits_for_coins, puts_due, telling, rest}
use Rattle.cct_model.specs.terms.device.DeviceSetup.{DeviceSetup}
use Rattle.cct_model.specs.terms.request.Request.{Request}
use Rattle.cct_model.specs.terms.request.Request.TheVariants.{GetLife, Dispense}
use Rattle.cct_model.proofs.Rows.{EachBefore, told_fact}

-- what is counted: the coins that are left to fall and those that ever fell, and the dispenses that were taken and the
-- coins that fell since an order was opened or closed
pub record View : Type 0 where
  pub rest : ℕ
  pub drops : ℕ
  pub taken : ℕ
  pub fallen : ℕ

-- an order is open: its life count is that of one moment, all that fell since is of its count, and so is what is left
-- to fall, and where no dispense was taken for it nothing fell or is left
pub record Owes (start : ℕ) (v : View) (o : OpenOrder) : Type 0 where
  pub first : ℕ
  pub begun : o.life ≡ (start + first) % 2 ^ 24
  pub counted : v.drops ≡ first + v.fallen
  pub within : v.fallen + v.rest ≤ o.count
  pub untaken : v.taken ≡ 0 → v.fallen + v.rest ≡ 0
  pub small : o.count ≤ 255

-- without an open order nothing is left to fall
abbrev pub StateOf : ℕ → View → Option OpenOrder → Type 0
StateOf start v None = v.rest ≡ 0
StateOf start v (Some o) = Owes start v o

-- no more coins are left to fall than before, and nothing else is counted anew
pub record Less (v w : View) : Type 0 where
  pub rest : w.rest ≤ v.rest
  pub drops : w.drops ≡ v.drops
  pub taken : w.taken ≡ v.taken
  pub fallen : w.fallen ≡ v.fallen

-- a coin fell of those that were left
pub record Falls (v w : View) : Type 0 where
  pub rest : suc w.rest ≡ v.rest
  pub drops : w.drops ≡ suc v.drops
  pub taken : w.taken ≡ v.taken
  pub fallen : w.fallen ≡ suc v.fallen

-- a dispense of so many coins was taken
pub record Takes (count : ℕ) (v w : View) : Type 0 where
  pub rest : w.rest ≡ count
  pub drops : w.drops ≡ v.drops
  pub taken : w.taken ≡ suc v.taken
  pub fallen : w.fallen ≡ v.fallen

-- an order was opened or closed
pub record Renews (v w : View) : Type 0 where
  pub rest : w.rest ≡ v.rest
  pub drops : w.drops ≡ v.drops
  pub taken : w.taken ≡ 0
  pub fallen : w.fallen ≡ 0

pub state_less : (start : ℕ) (v w : View) (owed : Option OpenOrder) → Less v w → StateOf start v owed →
    StateOf start w owed
state_less start v w None less state = omega (arith, less.rest, state)
state_less start v w (Some o) less owes = record {
  first = owes.first;
  begun = owes.begun;
  counted = omega (arith, owes.counted, less.drops, less.fallen);
  within = omega (arith, owes.within, less.rest, less.fallen);
  untaken = λ none. omega (arith, owes.untaken (omega (arith, less.taken, none)), less.rest, less.fallen);
  small = owes.small;
}

pub state_falls : (start : ℕ) (v w : View) (owed : Option OpenOrder) → Falls v w → StateOf start v owed →
    StateOf start w owed
state_falls start v w None falls state = absurd (omega (arith, falls.rest, state))
state_falls start v w (Some o) falls owes = record {
  first = owes.first;
  begun = owes.begun;
  counted = omega (arith, owes.counted, falls.drops, falls.fallen);
  within = omega (arith, owes.within, falls.rest, falls.fallen);
  untaken = λ none. absurd (omega (arith, owes.untaken (omega (arith, falls.taken, none)), falls.rest));
  small = owes.small;
}

-- an order of so many coins is open, and no dispense was taken for it
abbrev pub IsFresh : View → Option OpenOrder → ℕ → Type 0
IsFresh v owed count = OfOrder owed (λ o. (v.taken ≡ 0) × (count ≡ o.count))

pub state_takes : (start count : ℕ) (v w : View) (owed : Option OpenOrder) → Takes count v w → IsFresh v owed count →
    StateOf start v owed → StateOf start w owed
state_takes start count v w None takes fresh state = absurd fresh
state_takes start count v w (Some o) takes fresh owes = record {
  first = owes.first;
  begun = owes.begun;
  counted = omega (arith, owes.counted, takes.drops, takes.fallen);
  within = omega (arith, owes.untaken fresh.0, takes.rest, takes.fallen, fresh.1);
  untaken = λ again. absurd (omega (arith, takes.taken, again));
  small = owes.small;
}

pub state_opens : (start : ℕ) (v w : View) (o : OpenOrder) → Renews v w → v.rest ≡ 0 →
    o.life ≡ (start + v.drops) % 2 ^ 24 → o.count ≤ 255 → Owes start w o
state_opens start v w o renews rests begun small = record {
  first = v.drops;
  begun = begun;
  counted = omega (arith, renews.drops, renews.fallen);
  within = omega (arith, renews.rest, renews.fallen, rests);
  untaken = λ none. omega (arith, renews.rest, renews.fallen, rests);
  small = small;
}

-- a coin falls only where an order is open, and is one of its count
pub falls_of_order : (start : ℕ) (v w : View) (owed : Option OpenOrder) → Falls v w → StateOf start v owed →
    OfOrder owed (λ o. suc v.fallen ≤ o.count)
falls_of_order start v w None falls state = absurd (omega (arith, falls.rest, state))
falls_of_order start v w (Some o) falls owes = omega (arith, owes.within, falls.rest)

-- as many coins fell as the life counts are apart
paid_is : (start : ℕ) (v : View) (o : OpenOrder) → Owes start v o →
    life_between o.life ((start + v.drops) % 2 ^ 24) ≡ v.fallen
unfolding life_between
paid_is start v o owes = omega (arith, owes.begun, owes.counted, owes.within, owes.small)

-- so an order is closed with them, and the others of its count
pub close_is : (start : ℕ) (v : View) (o : OpenOrder) → Owes start v o →
    close o ((start + v.drops) % 2 ^ 24) ≡ record_of.Closed o.id v.fallen (o.count - v.fallen)
unfolding close
close_is start v o owes =
    let most : v.fallen ≤ o.count = omega (arith, owes.within) in
    rw (paid_is start v o owes, le-leb v.fallen o.count most) refl

-- an order is open
abbrev pub IsOpen : Option OpenOrder → Type 0
IsOpen owed = OfOrder owed (λ o. ⊤)

-- the life count that a job read last is that of now
abbrev pub IsLife : ℕ → View → Option ℕ → Type 0
IsLife start v life = life ≡ Some ((start + v.drops) % 2 ^ 24)

-- the rows begin with one that closes an order
abbrev ClosesFirst : List TableRow → Type 0
ClosesFirst (puts_due order_end behind ∷ rows) = ⊤
ClosesFirst rows = ⊥

-- a row puts nothing but what opens or closes an order
abbrev IsOfHopper : TableRow → Type 0
IsOfHopper (puts_due (new_order id count) behind) = ⊤
IsOfHopper (puts_due order_end behind) = ⊤
IsOfHopper (puts_due due behind) = ⊥
IsOfHopper r = ⊤

-- what comes after each row of a hopper's job. The life count is read right before a record of an order. A dispense of its
-- coins comes right after it is opened, then the row that waits for them, and after that it is closed
abbrev pub Follows : ℕ → List TableRow → TableRow → Type 0
Follows own [] (asks_for q behind) = ⊤
Follows own [] (puts_due order_end behind) = ⊤
Follows own (asks_for x next ∷ rows) (asks_for q behind) = ⊤
Follows own (asks_for x next ∷ rows) waits_for_coins = ClosesFirst rows
Follows own (puts_due due next ∷ rows) (asks_for q behind) = q ≡ GetLife
Follows own (asks_once x next without ∷ rows) (puts_due (new_order id count) behind) = x ≡ Dispense own count
Follows own (waits_for_coins ∷ rows) (asks_once q behind without) = ⊤
Follows own rows r = ⊥

abbrev pub AreLinked : ℕ → List TableRow → Type 0
AreLinked own rows = EachBefore (λ r later. IsOfHopper r × Follows own later r) rows

-- what rows need of the order: none is open before one that opens its own, which is of a byte of coins; and one is open,
-- of which nothing is left to fall, before one that closes it
abbrev pub Needs : View → Option OpenOrder → List TableRow → Type 0
Needs v owed [] = ⊤
Needs v owed (puts_due (new_order id count) behind ∷ rows) = (owed ≡ None) × (count ≤ 255)
Needs v owed (puts_due order_end behind ∷ rows) = IsOpen owed × (v.rest ≡ 0)
Needs v owed (r ∷ rows) = Needs v owed rows

-- and what the first of them needs besides
abbrev pub FitsRows : ℕ → ℕ → View → Option OpenOrder → Option ℕ → List TableRow → Type 0
FitsRows own start v owed life (puts_due (new_order id count) behind ∷ rows) =
    (owed ≡ None) × (count ≤ 255) × IsLife start v life
FitsRows own start v owed life (puts_due order_end behind ∷ rows) = IsOpen owed × (v.rest ≡ 0) × IsLife start v life
FitsRows own start v owed life (asks_once q behind without ∷ rows) =
    (count : ℕ) × (q ≡ Dispense own count) × IsFresh v owed count
FitsRows own start v owed life (waits_for_coins ∷ rows) = IsOpen owed
FitsRows own start v owed life rows = Needs v owed rows

abbrev pub FitsLeft : ℕ → ℕ → View → Option OpenOrder → Option ℕ → List TableRow → Type 0
FitsLeft own start v owed life rows = AreLinked own rows × FitsRows own start v owed life rows

-- what a job needs
abbrev pub FitsJob : DeviceSetup → ℕ → View → Option OpenOrder → Job → Type 0
FitsJob d start v owed free = ⊤
FitsJob d start v owed (works c since) = FitsLeft d.serial start v owed (life_read since) (rest d c since)

life_on : (start : ℕ) (v w : View) (life : Option ℕ) → w.drops ≡ v.drops → IsLife start v life → IsLife start w life
life_on start v w life same is = rw same is

fresh_less : (v w : View) (owed : Option OpenOrder) (count : ℕ) → Less v w → IsFresh v owed count →
    IsFresh w owed count
fresh_less v w None count less fits = absurd fits
fresh_less v w (Some o) count less fits = (omega (arith, less.taken, fits.0), fits.1)

pub needs_less : (v w : View) (owed : Option OpenOrder) (rows : List TableRow) → Less v w → Needs v owed rows →
    Needs w owed rows
needs_less v w owed [] less needs = tt
needs_less v w owed (puts_due (new_order id count) behind ∷ rows) less needs = needs
needs_less v w owed (puts_due order_end behind ∷ rows) less needs = (needs.0, omega (arith, less.rest, needs.1))
needs_less v w owed (r ∷ rows) less needs = needs_less v w owed rows less needs

pub rows_less : (own start : ℕ) (v w : View) (owed : Option OpenOrder) (life : Option ℕ) (rows : List TableRow) →
    Less v w → FitsRows own start v owed life rows → FitsRows own start w owed life rows
rows_less own start v w owed life (puts_due (new_order id count) behind ∷ rows) less fits =
    (fits.0, fits.1, life_on start v w life less.drops fits.2)
rows_less own start v w owed life (puts_due order_end behind ∷ rows) less fits =
    (fits.0, omega (arith, less.rest, fits.1), life_on start v w life less.drops fits.2)
rows_less own start v w owed life (asks_once q behind without ∷ rows) less fits =
    (fits.0, fits.1, fresh_less v w owed fits.0 less fits.2)
rows_less own start v w owed life (waits_for_coins ∷ rows) less fits = fits
rows_less own start v w owed life rows less fits = needs_less v w owed rows less fits

pub fits_less : (d : DeviceSetup) (start : ℕ) (v w : View) (owed : Option OpenOrder) (at_work : Job) → Less v w →
    FitsJob d start v owed at_work → FitsJob d start w owed at_work
fits_less d start v w owed free less fits = tt
fits_less d start v w owed (works c since) less fits =
    (fits.0, rows_less d.serial start v w owed (life_read since) (rest d c since) less fits.1)

-- a coin falls before nothing is left, so at no row after one that waits for it
fresh_falls : (start : ℕ) (v w : View) (owed : Option OpenOrder) (count : ℕ) → Falls v w → StateOf start v owed →
    IsFresh v owed count → IsFresh w owed count
fresh_falls start v w None count falls state fits = absurd fits
fresh_falls start v w (Some o) count falls owes fits = absurd (omega (arith, falls.rest, owes.untaken fits.0))

none_falls : (start : ℕ) (v w : View) (owed : Option OpenOrder) → Falls v w → StateOf start v owed → owed ≡ None → ⊥
none_falls start v w None falls state none = omega (arith, falls.rest, state)
none_falls start v w (Some o) falls owes none = cc

needs_falls : (v w : View) (owed : Option OpenOrder) (rows : List TableRow) → Falls v w → Needs v owed rows →
    Needs w owed rows
needs_falls v w owed [] falls needs = tt
needs_falls v w owed (puts_due (new_order id count) behind ∷ rows) falls needs = needs
needs_falls v w owed (puts_due order_end behind ∷ rows) falls needs = absurd (omega (arith, falls.rest, needs.1))
needs_falls v w owed (r ∷ rows) falls needs = needs_falls v w owed rows falls needs

rows_fall : (own start : ℕ) (v w : View) (owed : Option OpenOrder) (life : Option ℕ) (rows : List TableRow) →
    Falls v w → StateOf start v owed → FitsRows own start v owed life rows → FitsRows own start w owed life rows
rows_fall own start v w owed life (puts_due (new_order id count) behind ∷ rows) falls state fits =
    absurd (none_falls start v w owed falls state fits.0)
rows_fall own start v w owed life (puts_due order_end behind ∷ rows) falls state fits =
    absurd (omega (arith, falls.rest, fits.1))
rows_fall own start v w owed life (asks_once q behind without ∷ rows) falls state fits =
    (fits.0, fits.1, fresh_falls start v w owed fits.0 falls state fits.2)
rows_fall own start v w owed life (waits_for_coins ∷ rows) falls state fits = fits
rows_fall own start v w owed life rows falls state fits = needs_falls v w owed rows falls fits

pub fits_falls : (d : DeviceSetup) (start : ℕ) (v w : View) (owed : Option OpenOrder) (at_work : Job) → Falls v w →
    StateOf start v owed → FitsJob d start v owed at_work → FitsJob d start w owed at_work
fits_falls d start v w owed free falls state fits = tt
fits_falls d start v w owed (works c since) falls state fits =
    (fits.0, rows_fall d.serial start v w owed (life_read since) (rest d c since) falls state fits.1)

-- and what is asked one after the other needs nothing
pub told_needs : (own start : ℕ) (v : View) (owed : Option OpenOrder) (life : Option ℕ) (qs : List Request) →
    Needs v owed (telling qs) × FitsRows own start v owed life (telling qs)
told_needs own start v owed life =
    told_fact (λ rows. Needs v owed rows × FitsRows own start v owed life rows) (tt, tt)
    (λ q behind rows needs. (needs.0, needs.0))
