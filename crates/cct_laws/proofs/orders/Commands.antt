-- The table of the commands to a hopper: what the hopper replies to all that the job of each asks, how its rows come, what the
-- first of them needs, and what its ends are.
use Rattle.std.proofs.Common.{◌≡◌, ℕ, true, List, refl, ap, ◌∙◌, Option, Some, None, inl, rules, false, sym, subst}
use Rattle.cct_model.specs.terms.device.DeviceSetup.{DeviceSetup}
use Rattle.cct_model.specs.terms.request.TheConstants.{ENABLE_CODE}
use Rattle.cct_model.specs.lines.command.Command.{Command}
use Rattle.cct_model.specs.History.{Met}
use Rattle.cct_model.specs.Job.{ident_requests, Job, free, works, begun}
use Rattle.cct_laws.specs.DeviceJobs.{is_for_hopper}
use Rattle.cct_laws.proofs.wire.Exchanges.{Answers}
use Rattle.cct_laws.proofs.wire.CommonReplies.{each_answers, ident_replied}
use Rattle.cct_model.proofs.Rows.{EachRow, each_asked, Asks, EachBefore, told_fact, after_none, AnswerEnds, each_told}
use Rattle.cct_model.specs.Rows.{rows_of, new_order, TableRow, asks_for, puts_due, telling, rest, Then, sent_once}
use Rattle.std.specs.Prelude.{⊤}
use Rattle.cct_model.specs.declared.judging.OpenOrder.{OpenOrder}
use Rattle.cct_model.specs.terms.request.Request.{Request}
use Rattle.cct_laws.specs.KeptHopper.{IsOwed}
use Rattle.cct_model.specs.Refusal.{settle_refusal}
use Rattle.cct_model.specs.Script.{IsCommand}
use Rattle.cct_laws.proofs.acceptor.Moves.{IsOtherEnd}
use Rattle.cct_model.specs.lines.command.Command.TheVariants as command
use Rattle.cct_laws.proofs.orders.HopperReplies.{Payer, enable_replied, life_replied, dispense_by, owns_by, settle_replied}
use Rattle.cct_laws.proofs.orders.OwedCoins.{View, IsOpen, Follows, AreLinked, FitsLeft, FitsJob, told_needs}

-- all that a command asks has a reply in the wanted form, or is a dispense that is refused
pub hopper_answers : (d : DeviceSetup) (past : List Met) (c : Command) → Payer d → is_for_hopper c ≡ true →
    EachRow (Asks (Answers d past)) (rows_of d c)
hopper_answers d past (command.Pay addr id count) payer suited = (
  inl (enable_replied d past ENABLE_CODE payer),
  (inl (life_replied d past payer), (tt, (dispense_by d past count _ payer refl, settle_replied d past payer))),
)
hopper_answers d past (command.Settle addr) payer suited = settle_replied d past payer
hopper_answers d past (command.Ident addr) payer suited =
    each_asked (Answers d past) (ident_requests d.body)
    (each_answers d past (ident_requests d.body)
    (ident_replied d past d.body payer.sound (owns_by d past d.body payer.paying payer)))
hopper_answers d past c payer suited = absurd cc

-- the rows of a hopper's job come so
told_linked : (own : ℕ) (qs : List Request) →
    ((q : Request) (behind : Then) → Follows own (telling qs) (asks_for q behind)) × AreLinked own (telling qs)
told_linked own =
    told_fact (λ rows. ((q : Request) (behind : Then) → Follows own rows (asks_for q behind)) × AreLinked own rows)
    ((λ q behind. tt), tt) (λ q behind rows linked. ((λ x next. tt), ((tt, linked.0 q behind), linked.1)))

pub rows_linked : (d : DeviceSetup) (c : Command) → is_for_hopper c ≡ true → AreLinked d.serial (rows_of d c)
rows_linked d (command.Pay addr id count) played = search rules
rows_linked d (command.Settle addr) played = search rules
rows_linked d (command.Ident addr) played = (told_linked d.serial (ident_requests d.body)).1
rows_linked d c played = absurd cc

-- what is sent once stands right after a row that opens an order
abbrev pub OpensFirst : TableRow → List TableRow → Type 0
OpensFirst (puts_due (new_order id count) behind) rows = ⊤
OpensFirst r rows = sent_once rows ≡ false

abbrev pub AreOpened : List TableRow → Type 0
AreOpened rows = EachBefore OpensFirst rows

told_opened : (qs : List Request) → (sent_once (telling qs) ≡ false) × AreOpened (telling qs)
told_opened =
    told_fact (λ rows. (sent_once rows ≡ false) × AreOpened rows) (refl, tt)
    (λ q behind rows opened. (refl, (opened.0, opened.1)))

pub rows_opened : (d : DeviceSetup) (c : Command) → is_for_hopper c ≡ true → AreOpened (rows_of d c)
rows_opened d (command.Pay addr id count) played = search rules
rows_opened d (command.Settle addr) played = search rules
rows_opened d (command.Ident addr) played = (told_opened (ident_requests d.body)).1
rows_opened d c played = absurd cc

-- the job at an address doesn't stand at a row that is sent once, so at none that lets its hopper dispense
abbrev pub IsNotAtDispense : DeviceSetup → Job → Type 0
IsNotAtDispense d free = ⊤
IsNotAtDispense d (works c since) = sent_once (rest d c since) ≡ false

-- a job that begins stands at no row that is sent once
pub taken_aside : (d : DeviceSetup) (c : Command) (before : Job) → is_for_hopper c ≡ true → IsNotAtDispense d (begun c before)
taken_aside d (command.Pay addr id count) before played = refl
taken_aside d (command.Settle addr) before played = refl
taken_aside d (command.Ident addr) before played =
    ap sent_once (after_none (telling (ident_requests d.body))) ∙ (told_opened (ident_requests d.body)).0
taken_aside d c before played = absurd cc

-- what a job needs when it begins, with what was taken
settle_open : (owed : Option OpenOrder) → settle_refusal owed ≡ None → IsOpen owed
settle_open None fine = absurd cc
settle_open (Some o) fine = tt

pub taken_fits : (d : DeviceSetup) (start : ℕ) (v : View) (owed : Option OpenOrder) (c : Command) (before : Job) → is_for_hopper c ≡ true →
    IsCommand c → IsOwed c owed → FitsJob d start v owed (begun c before)
taken_fits d start v owed (command.Pay addr id count) before played in_range fine =
    (rows_linked d (command.Pay addr id count) played, (fine, in_range.2))
taken_fits d start v owed (command.Settle addr) before played in_range fine =
    (rows_linked d (command.Settle addr) played, settle_open owed fine)
taken_fits d start v owed (command.Ident addr) before played in_range fine =
    subst (FitsLeft d.serial start v owed None) (sym (after_none (telling (ident_requests d.body))))
    (rows_linked d (command.Ident addr) played, (told_needs d.serial start v owed None (ident_requests d.body)).1)
taken_fits d start v owed c before played in_range fine = absurd cc

-- no end of its job is a clean one
pub hopper_ends : (d : DeviceSetup) (c : Command) → is_for_hopper c ≡ true → EachRow (AnswerEnds IsOtherEnd) (rows_of d c)
hopper_ends d (command.Ident addr) suited =
    each_told (AnswerEnds IsOtherEnd) (λ q. tt) (λ q. tt) (ident_requests d.body)
hopper_ends d (command.Pay addr id count) suited = search rules
hopper_ends d (command.Settle addr) suited = search rules
hopper_ends d c suited = absurd cc
