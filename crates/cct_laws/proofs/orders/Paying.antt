-- What a hopper owes is kept by all that can come over an honest wire; and what follows: each order is paid at most
-- once, without one nothing is left to fall, and no order is closed whose life counts don't fit it.
use Rattle.std.proofs.Common.{◌≡◌, ℕ, ◌≤◌, ◌==◌, true, false, List, [], ◌∷◌, refl, subst, Option, Some, None, arith}
use Rattle.std.proofs.lemmas.Bool.Decides.{nat_tests}
use Rattle.cct_model.specs.terms.device.DeviceSetup.{DeviceSetup}
use Rattle.cct_model.specs.terms.request.Request.{Request}
use Rattle.cct_model.specs.terms.request.Request.TheVariants.{SimplePoll, AddressPoll, Dispense}
use Rattle.cct_model.specs.lines.record.Record.{Record}
use Rattle.cct_model.specs.lines.record.Record.TheVariants as record_of
use Rattle.cct_model.specs.declared.judging.OpenOrder.{OpenOrder}
use Rattle.cct_model.specs.lines.command.Command.{Command}
use Rattle.cct_model.specs.lines.command.Command.TheVariants as command
use Rattle.cct_model.specs.History.{Met, fall, jam, reset, heard}
use Rattle.cct_model.specs.Hopper.{remaining}
use Rattle.cct_model.specs.Device.{IsHopper}
use Rattle.cct_model.specs.Line.{Line, fell, put, taken, restarted}
use Rattle.cct_model.specs.Line as line
use Rattle.cct_model.specs.Order.{order}
use Rattle.cct_model.specs.Job.{Job, free, works, job, with_line, epoch, sends, puts}
use Rattle.cct_model.specs.Rows.{row}
use Rattle.cct_model.specs.Paid.{dispenses, OfOrder, PaidBy, Paid}
use Rattle.cct_model.specs.Script.{IsCommand}
use Rattle.cct_model.proofs.Hoppers.{remaining_fall, remaining_jam}
use Rattle.cct_laws.specs.DeviceJobs.{IsForOthers, is_for_hopper}
use Rattle.cct_laws.specs.LifeCounts.{HasFittingLife}
use Rattle.cct_laws.specs.KeptHopper.{IsOwed, IsKeptHopper}
use Rattle.cct_laws.proofs.orders.OwedCoins.{View, StateOf, Falls, state_falls, falls_of_order, FitsJob, fits_falls}
use Rattle.cct_laws.proofs.orders.Payouts.{view, Pays, pays_less, less_rest, IsMany, less_heard, sent_fits, put_fits, pays_asks, pays_ended, pays_puts}
use Rattle.cct_laws.proofs.wire.Replies.{start_of}
use Rattle.cct_laws.proofs.orders.Commands.{taken_fits}

-- before anything came
pays_start : (d : DeviceSetup) → Pays d [] []
pays_start d = record { paid = tt; state = refl; fits = tt }

-- a coin falls
positive : (n : ℕ) → (n == 0) ≡ false → 1 ≤ n
positive n test = grind (arith, nat_tests)

pays_fall : (d : DeviceSetup) (past : List Met) (lines : List Line) → (remaining d.serial past == 0) ≡ false →
    Pays d past lines → Pays d (fall ∷ past) (fell ∷ lines)
pays_fall d past lines test pays =
    let start = start_of d.body in
    let v = view d past lines in
    let w = view d (fall ∷ past) (fell ∷ lines) in
    let some = positive (remaining d.serial past) test in
    let falls : Falls v w = record {
      rest = omega (arith, remaining_fall d.serial past, some);
      drops = rw test refl;
      taken = refl;
      fallen = refl;
    } in
    record {
      paid = (falls_of_order start v w (order lines) falls pays.state, pays.paid);
      state = state_falls start v w (order lines) falls pays.state;
      fits = fits_falls d start v w (order lines) (job lines) falls pays.state pays.fits;
    }

-- none falls, or one sticks
pays_no_fall : (d : DeviceSetup) (past : List Met) (lines : List Line) → (remaining d.serial past == 0) ≡ true →
    Pays d past lines → Pays d (fall ∷ past) lines
pays_no_fall d past lines test pays =
    pays_less d past (fall ∷ past) lines
    (less_rest d past (fall ∷ past) lines (omega (arith, remaining_fall d.serial past)) (rw test refl)) pays

pays_jam : (d : DeviceSetup) (past : List Met) (lines : List Line) → Pays d past lines → Pays d (jam ∷ past) lines
pays_jam d past lines pays =
    pays_less d past (jam ∷ past) lines
    (less_rest d past (jam ∷ past) lines (omega (arith, remaining_jam d.serial past)) refl) pays

-- the hopper is reset
pays_reset : (d : DeviceSetup) (past : List Met) (lines : List Line) → Pays d past lines →
    Pays d (reset ∷ past) (line.reset ∷ lines)
pays_reset d past lines pays =
    let after = pays_less d past (reset ∷ past) lines (less_rest d past (reset ∷ past) lines (omega arith) refl) pays in
    record { paid = (tt, after.paid); state = after.state; fits = after.fits }

-- bytes are heard that no job at the hopper sends it
many_others : (asked : Option Request) → IsForOthers asked → IsMany asked
many_others None others = tt
many_others (Some AddressPoll) others = refl
many_others (Some SimplePoll) others = refl
many_others (Some q) others = absurd others

pays_elsewhere : (d : DeviceSetup) (past : List Met) (lines : List Line) (asked : Option Request) → IsForOthers asked →
    Pays d past lines → Pays d (heard asked ∷ past) lines
pays_elsewhere d past lines asked others pays =
    pays_less d past (heard asked ∷ past) lines (less_heard d past lines asked (many_others asked others)) pays

-- a command is taken
pays_taken : (d : DeviceSetup) (past : List Met) (lines : List Line) (c : Command) → is_for_hopper c ≡ true →
    IsCommand c → IsOwed c (order lines) → Pays d past lines → Pays d past (taken c ∷ lines)
pays_taken d past lines c played in_range fine pays = record {
  paid = (tt, pays.paid);
  state = pays.state;
  fits = taken_fits d (start_of d.body) (view d past lines) (order lines) c (job lines) played in_range fine;
}

-- a halt is taken, which changes no row
halted_fits : (d : DeviceSetup) (start : ℕ) (v : View) (owed : Option OpenOrder) (addr : ℕ) (at_work : Job) →
    FitsJob d start v owed at_work → FitsJob d start v owed (with_line (taken (command.Halt addr)) at_work)
halted_fits d start v owed addr free fits = tt
halted_fits d start v owed addr (works c work) fits = fits

pays_halted : (d : DeviceSetup) (past : List Met) (lines : List Line) (addr : ℕ) → Pays d past lines →
    Pays d past (taken (command.Halt addr) ∷ lines)
pays_halted d past lines addr pays = record {
  paid = (tt, pays.paid);
  state = pays.state;
  fits = halted_fits d (start_of d.body) (view d past lines) (order lines) addr (job lines) pays.fits;
}

-- the power is cut, before the record of its job is in the journal or after that
pays_restarted : (d : DeviceSetup) (past : List Met) (lines : List Line) → Pays d past lines →
    Pays d past (restarted ∷ lines)
pays_restarted d past lines pays = record { paid = (tt, pays.paid); state = pays.state; fits = tt }

paid_behind : (lines : List Line) (r : Record) → PaidBy lines r → PaidBy (restarted ∷ lines) r
paid_behind lines (record_of.Opened id addr count life) paid = paid
paid_behind lines (record_of.Closed id paid unpaid) fits = fits
paid_behind lines (record_of.Odd id life_before life_after) paid = absurd paid
paid_behind lines r paid = tt

pays_kept_record : (d : DeviceSetup) (past : List Met) (lines : List Line) (c : Command) (work : List Line)
    (r : Record) → job lines ≡ works c work → row d c work (epoch lines) (order lines) ≡ puts r → Pays d past lines →
    Pays d past (put r ∷ restarted ∷ lines)
pays_kept_record d past lines c work r is_job row_is pays =
    let after = pays_puts d past lines c work r is_job row_is pays in
    record { paid = (paid_behind lines r after.paid.0, (tt, pays.paid)); state = after.state; fits = tt }

-- it holds after all that can come
pub pays_kept : (d : DeviceSetup) → IsHopper d.body → IsKeptHopper d (Pays d)
pays_kept d paying = record {
  starts = pays_start d;
  falls = λ past lines test pays. pays_fall d past lines test pays;
  no_falls = λ past lines test pays. pays_no_fall d past lines test pays;
  jams = λ past lines pays. pays_jam d past lines pays;
  resets = λ past lines pays. pays_reset d past lines pays;
  elsewhere = λ past lines asked others pays. pays_elsewhere d past lines asked others pays;
  takes = λ past lines c no_job here in_range played fine pays. pays_taken d past lines c played in_range fine pays;
  halts = λ past lines can pays. pays_halted d past lines d.addr pays;
  restarts = λ past lines pays. pays_restarted d past lines pays;
  asks = λ past lines c work q asked got at row_is fate pays.
      pays_asks d past lines c work q asked got paying at.job_is row_is fate pays;
  keeps = λ past lines c work r at row_is pays. pays_kept_record d past lines c work r at.job_is row_is pays;
  puts = λ past lines c work r at row_is pays.
      pays_ended d past (put r ∷ lines) _ (pays_puts d past lines c work r at.job_is row_is pays);
}

-- each order is paid at most once, and closed with exactly the coins that fell and did not
pub pays_paid : (d : DeviceSetup) (past : List Met) (lines : List Line) → Pays d past lines → Paid lines
pays_paid d past lines pays = pays.paid

-- without an open order nothing is left to fall
pub rests_unowed : (d : DeviceSetup) (past : List Met) (lines : List Line) → Pays d past lines → order lines ≡ None →
    remaining d.serial past ≡ 0
rests_unowed d past lines pays none = subst (StateOf (start_of d.body) (view d past lines)) none pays.state

-- a dispense is sent only where an order of just its coins is open that none was taken for, and to the hopper itself
pub dispense_fresh : (d : DeviceSetup) (past : List Met) (lines : List Line) (c : Command) (work : List Line)
    (serial count : ℕ) → Pays d past lines → job lines ≡ works c work →
    row d c work (epoch lines) (order lines) ≡ sends (Dispense serial count) →
    (serial ≡ d.serial) × OfOrder (order lines) (λ o. (dispenses lines ≡ 0) × (count ≡ o.count))
dispense_fresh d past lines c work serial count pays is_job row_is =
    let sent = sent_fits d past lines c work (Dispense serial count) is_job row_is pays in
    (sent.to_own, sent.fresh)

paid_not_odd : (lines : List Line) (r : Record) → PaidBy lines r → HasFittingLife r
paid_not_odd lines (record_of.Odd id life_before life_after) paid = absurd paid
paid_not_odd lines r paid = tt

pub never_odd : (d : DeviceSetup) (past : List Met) (lines : List Line) (c : Command) (work : List Line) (r : Record) →
    Pays d past lines → job lines ≡ works c work → row d c work (epoch lines) (order lines) ≡ puts r → HasFittingLife r
never_odd d past lines c work r pays is_job row_is =
    paid_not_odd lines r (put_fits d past lines c work r is_job row_is pays).paid
