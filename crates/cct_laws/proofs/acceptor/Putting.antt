-- What a record that a job has to put shows of its device.
use Rattle.std.proofs.Common.{◌≡◌, ℕ, true, List, [], ◌∷◌, subst, Option, Some, None}
use Rattle.std.specs.Prelude.{⊤}
use Rattle.cct_model.specs.terms.device.DeviceSetup.{DeviceSetup}
use Rattle.cct_model.specs.lines.record.Record.{Record}
use Rattle.cct_model.specs.lines.record.Record.TheVariants as record_of
use Rattle.cct_model.specs.declared.judging.Judged.{Judged}
use Rattle.cct_model.specs.declared.judging.Judged.TheVariants.{Nothing, Moved, Reading, Broken}
use Rattle.cct_model.specs.declared.judging.EpochState.{EpochState}
use Rattle.cct_model.specs.declared.judging.EpochState.TheVariants.{Idle, Running}
use Rattle.cct_model.specs.lines.command.Command.{Command}
use Rattle.cct_model.specs.History.{Met}
use Rattle.cct_model.specs.Line.{Line}
use Rattle.cct_model.specs.Job.{works, job, puts, epoch, begin_row, address_of, judged_in, Noted, noted_in}
use Rattle.cct_model.specs.Rows.{Then, ends_as, if_posted, new_epoch, reading, epoch_end, TableRow, asks_for, asks_once, waits_for_coins, puts_due, row, rest, from, first}
use Rattle.cct_model.specs.Script.{IsCommand}
use Rattle.cct_model.specs.Order.{order}
use Rattle.cct_laws.specs.DeviceJobs.{is_for_taker}
use Rattle.cct_laws.proofs.acceptor.BesideCoins.{World, Silent, world}
use Rattle.cct_laws.proofs.acceptor.Fits.{ReadSoFar, read_so_far, Notes, notes_in, PostsAs, BreaksAs, Ready, IsRunning, FitsAt}
use Rattle.cct_laws.proofs.acceptor.Moves.{Keeps, fits_at, entry_is}
use Rattle.cct_laws.proofs.acceptor.Acceptors.{left_leads}
use Rattle.cct_laws.proofs.acceptor.Leads.{Leads}
use Rattle.cct_laws.proofs.acceptor.Stops.{IsOverNext}
use Rattle.cct_model.proofs.Rows.{EachBefore}

-- an epoch begins at the device's own address, and one that breaks runs; its acceptor is silent at both
abbrev pub Puts : DeviceSetup → World → EpochState → Record → Type 0
Puts d w state (record_of.Epoch addr mask accepts) = (addr ≡ d.addr) × Silent w
Puts d w state (record_of.Broken addr seen k lost accepts posted) = IsRunning state × Silent w
Puts d w state r = ⊤

-- only an epoch that runs is judged broken
abbrev IfBroken : EpochState → Judged → Type 0
IfBroken state (Broken entry) = IsRunning state
IfBroken state judged = ⊤

judged_runs : (c : Command) (since : List Line) (state : EpochState) → IfBroken state (judged_in c since state)
judged_runs c since Idle = tt
judged_runs c since (Running mask counter accepts) = broken_runs (judged_in c since (Running mask counter accepts))
  where
    broken_runs : (judged : Judged) → IfBroken (Running mask counter accepts) judged
    broken_runs Nothing = tt
    broken_runs Moved = tt
    broken_runs (Reading entry) = tt
    broken_runs (Broken entry) = tt

-- what was judged

reading_puts : (d : DeviceSetup) (w : World) (b : ReadSoFar) (entry : Record) → PostsAs w b entry → Puts d w b.epoch entry
reading_puts d w b (record_of.Reading addr k lost accepts posted) posts = tt
reading_puts d w b r posts = absurd posts

break_puts : (d : DeviceSetup) (w : World) (b : ReadSoFar) (entry : Record) → IsRunning b.epoch → BreaksAs w b entry → Puts d w b.epoch entry
break_puts d w b (record_of.Broken addr seen k lost accepts posted) running breaks = (running, breaks.silent)
break_puts d w b r running breaks = absurd breaks

-- the first of the rows that are left

end_puts : (d : DeviceSetup) (w : World) (b : ReadSoFar) (addr : ℕ) (r : Record) → puts (record_of.EpochEnd addr) ≡ puts r → Puts d w b.epoch r
end_puts d w b addr r row_is = subst (Puts d w b.epoch) (entry_is (record_of.EpochEnd addr) r row_is) tt

over_puts : (d : DeviceSetup) (w : World) (b : ReadSoFar) (addr : ℕ) (r : Record) (p : Noted) (rows : List TableRow) →
    IsOverNext rows → first addr Nothing p rows ≡ puts r → Puts d w b.epoch r
over_puts d w b addr r p [] over row_is = absurd cc
over_puts d w b addr r p (puts_due epoch_end (ends_as end) ∷ rows) over row_is = end_puts d w b addr r row_is
over_puts d w b addr r p rows over row_is = absurd over

reading_row : (d : DeviceSetup) (w : World) (b : ReadSoFar) (addr : ℕ) (r : Record) (judged : Judged) (p : Noted)
    (behind : Then) (rows : List TableRow) → IfBroken b.epoch judged → IsOverNext rows → Ready w b judged →
    first addr judged p (from (puts_due reading behind ∷ rows) judged) ≡ puts r → Puts d w b.epoch r
reading_row d w b addr r Nothing p behind rows runs over ready row_is = over_puts d w b addr r p rows over row_is
reading_row d w b addr r Moved p behind rows runs over ready row_is = absurd cc
reading_row d w b addr r (Reading entry) p behind rows runs over ready row_is =
    subst (Puts d w b.epoch) (entry_is entry r row_is) (reading_puts d w b entry ready)
reading_row d w b addr r (Broken entry) p behind rows runs over ready row_is =
    subst (Puts d w b.epoch) (entry_is entry r row_is) (break_puts d w b entry runs ready)

-- the epoch is put with the accept counter that was read
begun_puts : (d : DeviceSetup) (w : World) (state : EpochState) (addr mask : ℕ) (found : Option ℕ) (r : Record) →
    addr ≡ d.addr → Silent w → begin_row addr mask found ≡ puts r → Puts d w state r
begun_puts d w state addr mask None r here silent row_is = absurd cc
begun_puts d w state addr mask (Some accepts) r here silent row_is =
    subst (Puts d w state) (entry_is (record_of.Epoch addr mask accepts) r row_is) (here, silent)

first_puts : (d : DeviceSetup) (w : World) (b : ReadSoFar) (addr : ℕ) (r : Record) (notes : Notes) (judged : Judged)
    (p : Noted) (rows : List TableRow) → addr ≡ d.addr → IfBroken b.epoch judged → EachBefore Leads rows →
    FitsAt w b rows notes judged → first addr judged p (from rows judged) ≡ puts r → Puts d w b.epoch r
first_puts d w b addr r notes judged p [] here runs each fits row_is = absurd cc
first_puts d w b addr r notes judged p (asks_for q behind ∷ rows) here runs each fits row_is = absurd cc
first_puts d w b addr r notes judged p (asks_once q behind without ∷ rows) here runs each fits row_is = absurd cc
first_puts d w b addr r notes judged p (waits_for_coins ∷ rows) here runs each fits row_is = absurd each.0
first_puts d w b addr r notes judged p (puts_due (new_epoch mask) behind ∷ rows) here runs each fits row_is =
    begun_puts d w b.epoch addr mask p.accepts r here fits.1 row_is
first_puts d w b addr r notes judged p (puts_due reading (if_posted of_reading) ∷ rows) here runs each fits row_is =
    reading_row d w b addr r judged p (if_posted of_reading) rows runs each.0.1 fits.0 row_is
first_puts d w b addr r notes judged p (puts_due epoch_end (ends_as end) ∷ rows) here runs each fits row_is =
    end_puts d w b addr r row_is
first_puts d w b addr r notes judged p (puts_due due behind ∷ rows) here runs each fits row_is = absurd each.0

-- the row of any job at a device that takes money
pub row_puts : (d : DeviceSetup) (past : List Met) (lines : List Line) (c : Command) (since : List Line) (r : Record) →
    is_for_taker c ≡ true → IsCommand c → job lines ≡ works c since → address_of c ≡ d.addr →
    row d c since (epoch lines) (order lines) ≡ puts r → Keeps d past lines → Puts d (world d past lines) (epoch lines) r
row_puts d past lines c since r suited in_range is_job here row_is keeps =
    first_puts d (world d past lines) (read_so_far lines) (address_of c) r (notes_in since) (judged_in c since (epoch lines))
    (noted_in since (order lines)) (rest d c since) here
    (judged_runs c since (epoch lines))
    (left_leads d c since suited in_range) (fits_at d past lines c since is_job keeps) row_is
