-- Which records a job puts: each is of the address of its command, and those of an epoch leave the open order as it is;
-- one that closes an order closes the open one. Neither frees what is reserved.
use Rattle.std.proofs.Common.{◌≡◌, ℕ, List, refl, subst, cond, Bool, true, false, Option, Some, None}
use Rattle.std.specs.Prelude.{⊤}
use Rattle.std.specs.Option.{IfSome}
use Rattle.cct_model.specs.terms.coin.Coin.{Coin}
use Rattle.cct_model.specs.terms.coin.Credits.{Credits}
use Rattle.cct_model.specs.terms.device.DeviceSetup.{DeviceSetup}
use Rattle.cct_model.specs.terms.device.Setup.{Setup}
use Rattle.cct_model.specs.lines.command.Command.{Command}
use Rattle.cct_model.specs.lines.record.Record.{Record}
use Rattle.cct_model.specs.lines.record.Record.TheVariants as record_of
use Rattle.cct_model.specs.lines.entry.Entry.{Entry}
use Rattle.cct_model.specs.declared.judging.OpenOrder.{OpenOrder}
use Rattle.cct_model.specs.declared.judging.EpochState.{EpochState}
use Rattle.cct_model.specs.declared.judging.Judged.{Judged}
use Rattle.cct_model.specs.declared.judging.Judged.TheVariants.{Nothing, Moved, Reading, Broken}
use Rattle.cct_model.specs.Job.{Row, accepts_before, accepts_read, address_of, credits_read, judged_by, judged_in, mask_read, no_row, noted_in, put_or, puts}
use Rattle.cct_model.specs.Rows.{done, rows_of, row, Due, reading, epoch_end, new_epoch, new_order, sale, order_end}
use Rattle.cct_model.specs.Legal.{record_due}
use Rattle.cct_model.specs.Line.{Line}
use Rattle.cct_model.specs.Money.{freed_by}
use Rattle.cct_model.specs.Order.{close, order_by}
use Rattle.cct_model.specs.Transcript.{opened_at, owner}
use Rattle.cct_jobs.specs.Jobs.{ClosesItsOwn}
use Rattle.cct_model.proofs.Rows.{JudgedHolds, RowHolds, is_at_device, DueHolds, judged_holds, each_put, device_puts}

-- a fact of all records that a reading at an address may mean
pub record OfEpochs (P : Record → Type 0) (addr : ℕ) : Type 0 where
  broken : (seen counter lost accepts : ℕ) (posted : List Coin) → P (record_of.Broken addr seen counter lost accepts posted)
  reading : (counter lost accepts : ℕ) (posted : List Coin) → P (record_of.Reading addr counter lost accepts posted)

-- what was judged of a reading is such a record
of_reading : {P : Record → Type 0} (addr : ℕ) (state : EpochState) (credits : Option Credits) (seen before now : Option ℕ) (e : Record)
    → OfEpochs P addr → put_or no_row (judged_by addr state credits seen before now) ≡ puts e → P e
of_reading {P} addr state credits seen before now e of is =
    subst (RowHolds (λ q. ⊤) P) is
    (by_judged (judged_by addr state credits seen before now) (judged_holds P addr state credits seen before now of.reading of.broken))
  where
    by_judged : (means : Judged) → JudgedHolds P means → RowHolds (λ q. ⊤) P (put_or no_row means)
    by_judged Nothing holds = tt
    by_judged Moved holds = tt
    by_judged (Reading r) holds = holds
    by_judged (Broken r) holds = holds

-- each is of that address
own_records : (past : List Entry) (addr : ℕ) → OfEpochs (λ r. owner past r ≡ addr) addr
own_records past addr = record {
  broken = λ seen counter lost accepts posted. refl;
  reading = λ counter lost accepts posted. refl;
}

pub reading_owner : (past : List Entry) (addr : ℕ) (state : EpochState) (credits : Option Credits) (seen before now : Option ℕ)
    (e : Record) → put_or no_row (judged_by addr state credits seen before now) ≡ puts e → owner past e ≡ addr
reading_owner past addr state credits seen before now e is = of_reading addr state credits seen before now e (own_records past addr) is

-- and leaves the open order as it is
still_owed : (owed : Option OpenOrder) (addr : ℕ) → OfEpochs (λ r. order_by r owed ≡ owed) addr
still_owed owed addr = record {
  broken = λ seen counter lost accepts posted. refl;
  reading = λ counter lost accepts posted. refl;
}

pub reading_owes : (owed : Option OpenOrder) (addr : ℕ) (state : EpochState) (credits : Option Credits) (seen before now : Option ℕ)
    (e : Record) → put_or no_row (judged_by addr state credits seen before now) ≡ puts e → order_by e owed ≡ owed
reading_owes owed addr state credits seen before now e is = of_reading addr state credits seen before now e (still_owed owed addr) is

-- and frees nothing
none_freed : (setup : Setup) (addr : ℕ) → OfEpochs (λ r. 0 ≡ freed_by setup r) addr
none_freed setup addr = record {
  broken = λ seen counter lost accepts posted. refl;
  reading = λ counter lost accepts posted. refl;
}

pub reading_frees : (setup : Setup) (addr : ℕ) (state : EpochState) (credits : Option Credits) (seen before now : Option ℕ)
    (e : Record) → put_or no_row (judged_by addr state credits seen before now) ≡ puts e → 0 ≡ freed_by setup e
reading_frees setup addr state credits seen before now e is = of_reading addr state credits seen before now e (none_freed setup addr) is

-- an order that is closed

closed_owner : (b : Bool) (past : List Entry) (addr id paid unpaid before after : ℕ)
    → ClosesItsOwn past addr (cond b (record_of.Closed id paid unpaid) (record_of.Odd id before after))
    → owner past (cond b (record_of.Closed id paid unpaid) (record_of.Odd id before after)) ≡ addr
closed_owner true past addr id paid unpaid before after owns = owns
closed_owner false past addr id paid unpaid before after owns = owns

-- its record is of the address at which it was opened
pub closing_owner : (past : List Entry) (addr : ℕ) (o : OpenOrder) (life : ℕ) → ClosesItsOwn past addr (close o life)
    → owner past (close o life) ≡ addr
unfolding close
closing_owner past addr o life owns = closed_owner _ past addr o.id _ _ o.life life owns

none_by : (b : Bool) (owed : Option OpenOrder) (id paid unpaid before after : ℕ)
    → order_by (cond b (record_of.Closed id paid unpaid) (record_of.Odd id before after)) owed ≡ None
none_by true owed id paid unpaid before after = refl
none_by false owed id paid unpaid before after = refl

-- and none is open then
pub close_leaves_none : (owed : Option OpenOrder) (o : OpenOrder) (life : ℕ) → order_by (close o life) owed ≡ None
unfolding close
close_leaves_none owed o life = none_by _ owed o.id _ _ o.life life

-- nor is anything freed then
closed_frees : (setup : Setup) (b : Bool) (id paid unpaid before after : ℕ)
    → 0 ≡ freed_by setup (cond b (record_of.Closed id paid unpaid) (record_of.Odd id before after))
closed_frees setup true id paid unpaid before after = refl
closed_frees setup false id paid unpaid before after = refl

pub close_frees : (setup : Setup) (o : OpenOrder) (life : ℕ) → 0 ≡ freed_by setup (close o life)
unfolding close
close_frees setup o life = closed_frees setup _ o.id _ _ o.life life

-- where the open order was opened at an address, each record that a row puts closes none of another one

closed_owns : (b : Bool) (past : List Entry) (addr id paid unpaid before after : ℕ) → opened_at id past ≡ addr
    → ClosesItsOwn past addr (cond b (record_of.Closed id paid unpaid) (record_of.Odd id before after))
closed_owns true past addr id paid unpaid before after opened = opened
closed_owns false past addr id paid unpaid before after opened = opened

close_owns : (past : List Entry) (addr : ℕ) (o : OpenOrder) (life : ℕ) → opened_at o.id past ≡ addr
    → ClosesItsOwn past addr (close o life)
unfolding close
close_owns past addr o life opened = closed_owns _ past addr o.id _ _ o.life life opened

if_due : (Q : Record → Type 0) (r : Row) → RowHolds (λ q. ⊤) Q r → IfSome (record_due r) Q
if_due Q (puts e) holds = holds
if_due Q r holds = tt

pub row_owns : (past : List Entry) (addr : ℕ) (d : DeviceSetup) (c : Command) (since : List Line) (state : EpochState)
    (owed : Option OpenOrder) → ((o : OpenOrder) → owed ≡ Some o → opened_at o.id past ≡ addr)
    → IfSome (record_due (row d c since state owed)) (ClosesItsOwn past addr)
row_owns past addr d c since state owed opened =
    if_due (ClosesItsOwn past addr) (row d c since state owed)
    (each_put (ClosesItsOwn past addr) is_at_device d c (done (rows_of d c) since) (judged_in c since state) (noted_in since owed)
    (device_puts d c) due_owns)
  where
    due_owns : (due : Due) → is_at_device due ≡ true
        → DueHolds (ClosesItsOwn past addr) (address_of c) (judged_in c since state) (noted_in since owed) due
    due_owns (new_epoch mask) here = λ accepts read. tt
    due_owns reading here =
        judged_holds (ClosesItsOwn past addr) (address_of c) state (credits_read since) (mask_read since) (accepts_before since)
        (accepts_read since)
        (λ counter lost accepts posted. tt) (λ mask counter lost accepts posted. tt)
    due_owns epoch_end here = tt
    due_owns (new_order id count) here = λ life read. tt
    due_owns order_end here = λ o life is read. close_owns past addr o life (opened o is)
    due_owns (sale id price) here = absurd cc
