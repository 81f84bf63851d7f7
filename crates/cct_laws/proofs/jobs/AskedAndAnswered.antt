-- What a job at a device asks is answered, or is what the device refuses: a dispense, or to route a bill.
use Rattle.std.proofs.Common.{◌≡◌, ℕ, true, false, true≢false, List, refl, sym, ◌∙◌, subst, Option, Some, None, ◌⊎◌, inl, inr}
use Rattle.std.specs.Prelude.{⊤}
use Rattle.cct_model.specs.terms.device.DeviceBody.{DeviceBody}
use Rattle.cct_model.specs.terms.device.DeviceBody.TheVariants.{Acceptor, Bill, Hopper}
use Rattle.cct_model.specs.terms.device.DeviceSetup.{DeviceSetup}
use Rattle.cct_model.specs.terms.device.Setup.{Setup}
use Rattle.cct_model.specs.terms.request.Request.{Request}
use Rattle.cct_model.specs.terms.request.Request.TheVariants.{RouteBill, Dispense}
use Rattle.cct_model.specs.declared.judging.Judged.{Judged}
use Rattle.cct_model.specs.lines.command.Command.{Command}
use Rattle.cct_model.specs.lines.command.WireFault.TheVariants as fault
use Rattle.cct_model.specs.lines.entry.Entry.{Entry}
use Rattle.cct_model.specs.Reply.{Reply}
use Rattle.cct_model.specs.History.{Met}
use Rattle.cct_model.specs.Line.{Line}
use Rattle.cct_model.specs.Device.{IsSound, IsAcceptor, IsBill, IsHopper, IsTaker, reply_of}
use Rattle.cct_model.specs.Setup.{IsSoundSetup}
use Rattle.cct_model.specs.Order.{order}
use Rattle.cct_model.specs.Job.{sends, Noted, epoch, judged_in, noted_in}
use Rattle.cct_model.specs.Rows.{row_at, done, rows_of}
use Rattle.cct_model.specs.Script.{IsCommand}
use Rattle.cct_model.specs.Exchange.{ask, asked, asks_of}
use Rattle.cct_model.specs.Transcript.{pending, met, lines_of, heard_by_devices, heard_after, got_by}
use Rattle.cct_model.specs.Honest.{IsHonestFault}
use Rattle.cct_msg.proofs.Exchanges.{asked_back}
use Rattle.cct_laws.specs.DeviceJobs.{Fate, unheard, silenced, answered, IsRefused, WorksAt, suits}
use Rattle.cct_laws.specs.Faults.{may_be_refused}
use Rattle.cct_laws.specs.Law.{IsOf, IsAnswered, IsUnanswered}
use Rattle.cct_laws.proofs.setups.DeviceAt.{found_in}
use Rattle.cct_laws.proofs.steps.EitherKind.{for_hopper, for_taker, kind_of}
use Rattle.cct_laws.proofs.wire.Exchanges.{Answers, fits_of, undisturbed_got, undisturbed_refused, fares}
use Rattle.cct_laws.proofs.acceptor.AcceptorReplies.{Sane}
use Rattle.cct_laws.proofs.acceptor.Commands.{taker_answers}
use Rattle.cct_laws.proofs.orders.Commands.{hopper_answers}
use Rattle.cct_laws.proofs.orders.HopperReplies.{Payer}
use Rattle.cct_laws.proofs.jobs.StepBrings.{row_after}
use Rattle.cct_model.proofs.Rows.{RowHolds, each_ask}

sound_of : (setup : Setup) (d : DeviceSetup) → IsSoundSetup setup → IsOf setup d → IsSound d
sound_of setup d sound own = (found_in IsSound setup.devices d.addr d sound.devices own).0

-- what a job at a device that takes money asks has its reply, or is refused
taken_at : (setup : Setup) (past : List Entry) (d : DeviceSetup) (c : Command) (rows : ℕ) (judged : Judged)
    (p : Noted) (q : Request) → IsSoundSetup setup → IsOf setup d → IsTaker d.body → suits d.body c ≡ true →
    IsCommand c → row_at d c rows judged p ≡ sends q → Answers d (met d past) q
taken_at setup past d c rows judged p q sound own taking suited known asks =
    let sane : Sane d = record { sound = sound_of setup d sound own; taking = taking } in
    subst (RowHolds (Answers d (met d past)) (λ r. ⊤)) asks
    (each_ask (Answers d (met d past)) d c rows judged p
    (taker_answers d (met d past) c sane known suited (for_taker d.body c taking suited)))

-- and so has what one at a hopper asks
paid_at : (setup : Setup) (past : List Entry) (d : DeviceSetup) (c : Command) (rows : ℕ) (judged : Judged)
    (p : Noted) (q : Request) → IsSoundSetup setup → IsOf setup d → IsHopper d.body → suits d.body c ≡ true →
    row_at d c rows judged p ≡ sends q → Answers d (met d past) q
paid_at setup past d c rows judged p q sound own paying suited asks =
    let payer : Payer d = record { sound = sound_of setup d sound own; paying = paying } in
    subst (RowHolds (Answers d (met d past)) (λ r. ⊤)) asks
    (each_ask (Answers d (met d past)) d c rows judged p
    (hopper_answers d (met d past) c payer (for_hopper d.body c paying suited)))

pub answers_at : (setup : Setup) (past : List Entry) (d : DeviceSetup) (c : Command) (rows : ℕ) (judged : Judged)
    (p : Noted) (q : Request) → IsSoundSetup setup → IsOf setup d → suits d.body c ≡ true → IsCommand c →
    row_at d c rows judged p ≡ sends q → Answers d (met d past) q
answers_at setup past d c rows judged p q sound own suited known asks =
    elim (kind_of d.body) [
      | inl taking ↦ taken_at setup past d c rows judged p q sound own taking suited known asks
      | inr paying ↦ paid_at setup past d c rows judged p q sound own paying suited asks
    ]

works_answers : (setup : Setup) (past : List Entry) (d : DeviceSetup) (c : Command) (since : List Line) (q : Request) →
    IsSoundSetup setup → IsOf setup d → WorksAt d (lines_of d past) c since → row_after d past c since ≡ sends q →
    Answers d (met d past) q
works_answers setup past d c since q sound own works is_row =
    answers_at setup past d c (done (rows_of d c) since) (judged_in c since (epoch (lines_of d past)))
    (noted_in since (order (lines_of d past))) q sound own works.suited works.in_range is_row

-- the line of an exchange says what the job asked
pub asked_at : (setup : Setup) (past : List Entry) (d : DeviceSetup) (c : Command) (since : List Line) (q : Request) →
    IsSoundSetup setup → IsOf setup d → WorksAt d (lines_of d past) c since → row_after d past c since ≡ sends q →
    asked d.kind (ask d.kind d.addr q) ≡ Some q
asked_at setup past d c since q sound own works is_row =
    asked_back d.kind d.addr q
    (fits_of d (met d past) q (works_answers setup past d c since q sound own works is_row))

-- and what becomes of it under an honest fault
pub fate_at : (setup : Setup) (past : List Entry) (d : DeviceSetup) (c : Command) (since : List Line) (q : Request) →
    IsSoundSetup setup → IsOf setup d → WorksAt d (lines_of d past) c since → row_after d past c since ≡ sends q →
    IsHonestFault (pending past) (ask d.kind d.addr q) →
    Fate d (met d past) q (asks_of d (heard_by_devices (pending past) (ask d.kind d.addr q)))
    (got_by d (ask d.kind d.addr q) (heard_after setup past (ask d.kind d.addr q)))
fate_at setup past d c since q sound own works is_row honest =
    fares setup d past q (works_answers setup past d c since q sound own works is_row) sound own honest

-- an exchange without a pending fault is answered, unless the device refuses what it asks
clear_answers : (setup : Setup) (past : List Entry) (d : DeviceSetup) (q : Request) → Answers d (met d past) q →
    IsSoundSetup setup → IsOf setup d → pending past ≡ fault.Clear →
    IsAnswered setup d past q ⊎ (IsRefused d (met d past) q × IsUnanswered setup d past q)
clear_answers setup past d q (inl is) sound own clear =
    inl (is.y, is.replied, undisturbed_got setup d past q is sound own clear)
clear_answers setup past d q (inr is) sound own clear =
    inr (is.refuses, undisturbed_refused setup d past q is sound own clear)

pub undisturbed_answered : (setup : Setup) (past : List Entry) (d : DeviceSetup) (c : Command) (rows : ℕ)
    (judged : Judged) (p : Noted) (q : Request) →
    IsSoundSetup setup → IsOf setup d → suits d.body c ≡ true → IsCommand c → pending past ≡ fault.Clear →
    row_at d c rows judged p ≡ sends q →
    IsAnswered setup d past q ⊎ (IsRefused d (met d past) q × IsUnanswered setup d past q)
undisturbed_answered setup past d c rows judged p q sound own suited known clear asks =
    clear_answers setup past d q (answers_at setup past d c rows judged p q sound own suited known asks) sound own clear

-- only a dispense and the routing of a bill are refused, the one by a hopper and the other by a bill acceptor
pub refusable : (d : DeviceSetup) (past : List Met) (q : Request) → IsRefused d past q → may_be_refused (Some q) ≡ true
refusable d past (Dispense serial count) refuses = refl
refusable d past (RouteBill way) refuses = refl
refusable d past q refuses = absurd refuses

refused_by : (d : DeviceSetup) (past : List Met) (q : Request) → IsRefused d past q → IsHopper d.body ⊎ IsBill d.body
refused_by d past (Dispense serial count) refuses = inl refuses.0
refused_by d past (RouteBill way) refuses = inr refuses.0
refused_by d past q refuses = absurd refuses

-- so a coin acceptor refuses nothing
none_refused : (body : DeviceBody) → IsAcceptor body → IsHopper body ⊎ IsBill body → ⊥
none_refused (Acceptor accepts values ids) accepting (inl paying) = paying
none_refused (Acceptor accepts values ids) accepting (inr banking) = banking
none_refused (Hopper life value) accepting refusing = accepting
none_refused (Bill accepts values ids) accepting refusing = accepting

unless_refused : (setup : Setup) (past : List Entry) (d : DeviceSetup) (q : Request) →
    (IsRefused d (met d past) q → ⊥) →
    IsAnswered setup d past q ⊎ (IsRefused d (met d past) q × IsUnanswered setup d past q) → IsAnswered setup d past q
unless_refused setup past d q none (inl answer) = answer
unless_refused setup past d q none (inr refused) = absurd (none refused.0)

-- a job at a device gets the reply to what it asks, unless that may be refused
pub undisturbed_at : (setup : Setup) (past : List Entry) (d : DeviceSetup) (c : Command) (since : List Line)
    (q : Request) → IsSoundSetup setup → IsOf setup d → WorksAt d (lines_of d past) c since →
    row_after d past c since ≡ sends q → pending past ≡ fault.Clear →
    may_be_refused (Some q) ≡ false → IsAnswered setup d past q
undisturbed_at setup past d c since q sound own works is_row clear other =
    unless_refused setup past d q (λ refuses. true≢false (sym (refusable d (met d past) q refuses) ∙ other))
    (clear_answers setup past d q (works_answers setup past d c since q sound own works is_row) sound own clear)

-- and one at a coin acceptor always gets it
pub undisturbed_accepting : (setup : Setup) (past : List Entry) (d : DeviceSetup) (c : Command) (rows : ℕ)
    (judged : Judged) (p : Noted) (q : Request) →
    IsSoundSetup setup → IsOf setup d → IsAcceptor d.body → suits d.body c ≡ true → IsCommand c →
    pending past ≡ fault.Clear → row_at d c rows judged p ≡ sends q → IsAnswered setup d past q
undisturbed_accepting setup past d c rows judged p q sound own accepting suited known clear asks =
    unless_refused setup past d q (λ refuses. none_refused d.body accepting (refused_by d (met d past) q refuses))
    (undisturbed_answered setup past d c rows judged p q sound own suited known clear asks)

got_or_none : (d : DeviceSetup) (past : List Met) (q : Request) (asks : Option Request) (got : Option Reply) →
    Fate d past q asks got →
    (got ≡ None) ⊎ ((y : Reply) × (reply_of d past q ≡ Some y) × (got ≡ Some y))
got_or_none d past q _ _ unheard = inl refl
got_or_none d past q _ _ silenced = inl refl
got_or_none d past q _ _ (answered y replied) = inr (y, replied, refl)

-- an exchange with an honest fault is answered, or nothing is got
pub honest_answered : (setup : Setup) (past : List Entry) (d : DeviceSetup) (c : Command) (rows : ℕ) (judged : Judged)
    (p : Noted) (q : Request) →
    IsSoundSetup setup → IsOf setup d → suits d.body c ≡ true → IsCommand c →
    IsHonestFault (pending past) (ask d.kind d.addr q) → row_at d c rows judged p ≡ sends q →
    IsUnanswered setup d past q ⊎ IsAnswered setup d past q
honest_answered setup past d c rows judged p q sound own suited known honest asks =
    got_or_none d (met d past) q _ _
    (fares setup d past q (answers_at setup past d c rows judged p q sound own suited known asks) sound own honest)
