-- Where a hopper has shown that nothing is left to pay, nothing is left to fall until the next order is opened: a
-- payment lets it dispense only right after the record that opens its order.
use Rattle.std.proofs.Common.{◌≡◌, ℕ, suc, ◌==◌, ◌||◌, not, cond, Bool, true, false, List, [], ◌∷◌, ◌++◌, refl, ap, sym, ◌∙◌, subst, Option, Some, None, arith, eqb-true, true≢false}
use Rattle.std.specs.Prelude.{⊤}
use Rattle.cct_model.specs.terms.request.TheConstants.{ENABLE_CODE}
use Rattle.cct_model.specs.terms.device.DeviceSetup.{DeviceSetup}
use Rattle.cct_model.specs.terms.request.Request.{Request}
use Rattle.cct_model.specs.terms.request.Request.TheVariants.{SimplePoll, AddressPoll, Enable, Dispense, GetStatus}
use Rattle.cct_model.specs.lines.record.Record.{Record}
use Rattle.cct_model.specs.lines.record.Record.TheVariants as record_of
use Rattle.cct_model.specs.declared.judging.Judged.{Judged}
use Rattle.cct_model.specs.lines.command.Command.{Command}
use Rattle.cct_model.specs.lines.command.Command.TheVariants as command
use Rattle.cct_model.specs.lines.entry.End.{End}
use Rattle.cct_model.specs.Reply.{Reply}
use Rattle.cct_model.specs.History.{Met, fall, jam, reset, heard}
use Rattle.cct_model.specs.Hopper.{remaining, taken_of}
use Rattle.cct_model.specs.Device.{IsHopper, reply_of}
use Rattle.cct_model.specs.Line.{Line, exchange, put, taken}
use Rattle.cct_model.specs.Order.{order}
use Rattle.cct_model.specs.Job.{Job, free, works, job, with_line, epoch, sends, puts, Noted, noted_in, judged_in, open_row, address_of}
use Rattle.cct_model.specs.Rows.{row, new_epoch, reading, epoch_end, new_order, order_end, sale, TableRow, asks_for, asks_once, waits_for_coins, puts_due, rows_of, after, from, rest, done, first, sent_once, ends_first}
use Rattle.cct_model.specs.Transcript.{doses, met, onto}
use Rattle.cct_model.proofs.Hoppers.{left_heard, remaining_fall, remaining_jam, remaining_heard}
use Rattle.cct_model.proofs.Doses.{job_undosed, same_over, doses_are}
use Rattle.cct_laws.specs.DeviceJobs.{Fate, unheard, silenced, answered, IsForOthers, is_for_hopper, WorksAt, with_ended}
use Rattle.cct_laws.specs.KeptHopper.{IsKeptHopper}
use Rattle.cct_laws.specs.Law.{lines_in}
use Rattle.cct_laws.specs.PaidOut.{shows_none, paid_out_by, is_paid_out}
use Rattle.cct_laws.specs.Scope.{EachHopper}
use Rattle.cct_laws.proofs.steps.EitherKind.{for_hopper}
use Rattle.cct_model.proofs.Rows.{but_first, after_next, before_on, fact_after}
use Rattle.cct_laws.proofs.steps.AllKept.{kept_hopper_legal}
use Rattle.cct_model.proofs.Requests.{IsAgain}
use Rattle.cct_model.proofs.Tries.{due_sends}
use Rattle.cct_model.proofs.RowEnds.{rest_asks, again_row, stays_again}
use Rattle.cct_model.specs.declared.judging.EpochState.{EpochState}
use Rattle.cct_model.specs.declared.judging.OpenOrder.{OpenOrder}
use Rattle.cct_laws.proofs.wire.Replies.{replied_status}
use Rattle.cct_laws.proofs.orders.Commands.{AreOpened, IsNotAtDispense, OpensFirst, rows_opened, taken_aside}

-- a request lets no hopper dispense
abbrev IsNoDispense : Request → Type 0
IsNoDispense (Dispense serial count) = ⊥
IsNoDispense q = ⊤

-- what is kept
abbrev Rests : DeviceSetup → List Met → List Line → Type 0
Rests d past lines = is_paid_out lines ≡ true → (remaining d.serial past ≡ 0) × IsNotAtDispense d (job lines)

-- what is asked again lets no hopper dispense
undosed : (q : Request) → IsAgain q → IsNoDispense q
undosed (Dispense serial count) again = absurd (true≢false (sym again))
undosed q again = tt

-- so the row after one that asks isn't sent once
asked_opened : (addr : ℕ) (means : Judged) (p : Noted) (rows : List TableRow) (q : Request) → AreOpened rows →
    first addr means p rows ≡ sends q → sent_once (but_first rows) ≡ false
asked_opened addr means p [] q each is = refl
asked_opened addr means p (asks_for x behind ∷ rows) q each is = each.0
asked_opened addr means p (asks_once x behind without ∷ rows) q each is = each.0
asked_opened addr means p (waits_for_coins ∷ rows) q each is = each.0
asked_opened addr means p (puts_due due behind ∷ rows) q each is = absurd (due_sends addr means p due q is)

-- nor that after one that puts a record, unless that opens an order
opened_out : (addr id count : ℕ) (life : Option ℕ) (r : Record) (before : Bool) → open_row addr id count life ≡ puts r →
    paid_out_by r before ≡ true → ⊥
opened_out addr id count None r before is out = cc
opened_out addr id count (Some life) r before is out =
    let same : record_of.Opened id addr count life ≡ r = cc in
    true≢false (sym out ∙ ap (λ x. paid_out_by x before) (sym same))

put_opened : (addr : ℕ) (means : Judged) (p : Noted) (rows : List TableRow) (r : Record) (before : Bool) →
    AreOpened rows → first addr means p (from rows means) ≡ puts r → paid_out_by r before ≡ true →
    sent_once (but_first rows) ≡ false
put_opened addr means p [] r before each is out = refl
put_opened addr means p (asks_for x behind ∷ rows) r before each is out = each.0
put_opened addr means p (asks_once x behind without ∷ rows) r before each is out = each.0
put_opened addr means p (waits_for_coins ∷ rows) r before each is out = each.0
put_opened addr means p (puts_due (new_order id count) behind ∷ rows) r before each is out =
    absurd (opened_out addr id count p.life r before is out)
put_opened addr means p (puts_due (new_epoch mask) behind ∷ rows) r before each is out = each.0
put_opened addr means p (puts_due reading behind ∷ rows) r before each is out = each.0
put_opened addr means p (puts_due epoch_end behind ∷ rows) r before each is out = each.0
put_opened addr means p (puts_due order_end behind ∷ rows) r before each is out = each.0
put_opened addr means p (puts_due (sale id price) behind ∷ rows) r before each is out = each.0

-- so it is at the rows of the hopper's job
left_opened : (d : DeviceSetup) (c : Command) (work : List Line) → is_for_hopper c ≡ true → AreOpened (rest d c work)
left_opened d c work played =
    fact_after AreOpened (before_on OpensFirst) (rows_of d c) (done (rows_of d c) work) (rows_opened d c played)

-- after an exchange it is at no row that is sent once
asked_aside : (d : DeviceSetup) (c : Command) (work : List Line) (state : EpochState) (owed : Option OpenOrder)
    (q : Request) (got : Option Reply) → is_for_hopper c ≡ true → row d c work state owed ≡ sends q →
    IsNotAtDispense d (works c (exchange (Some q) got ∷ work))
asked_aside d c work state owed q got played is = by_end (ends_first (rest d c work) got) refl
  where
    goes : sent_once (but_first (rest d c work)) ≡ false
    goes =
        asked_opened (address_of c) (judged_in c work state) (noted_in work owed) (rest d c work) q
        (left_opened d c work played) (rest_asks d c work state owed q is)

    by_end : (ends : Bool) → ends_first (rest d c work) got ≡ ends →
        sent_once (after (rows_of d c) (cond ends (suc (done (rows_of d c) work)) (done (rows_of d c) work))) ≡ false
    by_end true test = ap sent_once (after_next (rows_of d c) (done (rows_of d c) work)) ∙ goes
    by_end false test = stays_again (rest d c work) got test

-- nor after a record, unless that opens an order
put_aside : (d : DeviceSetup) (c : Command) (work : List Line) (state : EpochState) (owed : Option OpenOrder)
    (r : Record) (before : Bool) → is_for_hopper c ≡ true → row d c work state owed ≡ puts r →
    paid_out_by r before ≡ true → IsNotAtDispense d (works c (put r ∷ work))
put_aside d c work state owed r before played is out =
    ap sent_once (after_next (rows_of d c) (done (rows_of d c) work))
    ∙ put_opened (address_of c) (judged_in c work state) (noted_in work owed) (rest d c work) r before
    (left_opened d c work played) is out

-- a hopper with nothing left to fall has nothing left, whatever it hears but a dispense
none_either : (stop : Bool) → let none : ℕ = 0 in cond stop none none ≡ none
none_either true = refl
none_either false = refl

none_heard : (asked : Option Request) → left_heard None asked 0 ≡ 0
none_heard (Some (Enable code)) = none_either (not (code == ENABLE_CODE))
none_heard (Some q) = refl
none_heard None = refl

rests_heard : (own : ℕ) (past : List Met) (asked : Option Request) → taken_of own past asked ≡ None →
    remaining own past ≡ 0 → remaining own (heard asked ∷ past) ≡ 0
rests_heard own past asked untaken rests =
    remaining_heard own asked past ∙ ap (λ took. left_heard took asked (remaining own past)) untaken
    ∙ ap (left_heard None asked) rests ∙ none_heard asked

untaken : (own : ℕ) (past : List Met) (q : Request) → IsNoDispense q → taken_of own past (Some q) ≡ None
untaken own past (Dispense serial count) undosed = absurd undosed
untaken own past q undosed = refl

fate_untaken : (d : DeviceSetup) (past : List Met) (q : Request) (asked : Option Request) (got : Option Reply) →
    IsNoDispense q → Fate d past q asked got → taken_of d.serial past asked ≡ None
fate_untaken d past q asked got undosed unheard = refl
fate_untaken d past q asked got undosed silenced = untaken d.serial past q undosed
fate_untaken d past q asked got undosed (answered y gives) = untaken d.serial past q undosed

others_untaken : (own : ℕ) (past : List Met) (asked : Option Request) → IsForOthers asked →
    taken_of own past asked ≡ None
others_untaken own past None others = refl
others_untaken own past (Some AddressPoll) others = refl
others_untaken own past (Some SimplePoll) others = refl
others_untaken own past (Some q) others = absurd others

-- what it shows is so
shown_none : (d : DeviceSetup) (past : List Met) (y : Reply) → IsHopper d.body → reply_of d past GetStatus ≡ Some y →
    shows_none (Some GetStatus) (Some y) ≡ true → remaining d.serial past ≡ 0
shown_none d past y paying gives shows =
    let told = sym (replied_status d past paying) ∙ gives in
    eqb-true _ _ (ap (shows_none (Some GetStatus)) told ∙ shows)

shown_rests : (d : DeviceSetup) (past : List Met) (q : Request) (asked : Option Request) (got : Option Reply) →
    IsHopper d.body → Fate d past q asked got → shows_none (Some q) got ≡ true →
    IsNoDispense q × (remaining d.serial past ≡ 0)
shown_rests d past GetStatus asked got paying unheard shows = absurd cc
shown_rests d past GetStatus asked got paying silenced shows = absurd cc
shown_rests d past GetStatus asked got paying (answered y gives) shows = (tt, shown_none d past y paying gives shows)
shown_rests d past q asked got paying fate shows = absurd cc

-- so nothing is left after an exchange that shows it, or one after that
asked_rests : (d : DeviceSetup) (past : List Met) (lines : List Line) (c : Command) (work : List Line) (q : Request)
    (asked : Option Request) (got : Option Reply) → IsHopper d.body → job lines ≡ works c work →
    row d c work (epoch lines) (order lines) ≡ sends q → Fate d past q asked got → Rests d past lines →
    (shows : Bool) → shows_none (Some q) got ≡ shows → (shows || is_paid_out lines) ≡ true →
    IsNoDispense q × (remaining d.serial past ≡ 0)
asked_rests d past lines c work q asked got paying is_job row_is fate rests true test out =
    shown_rests d past q asked got paying fate test
asked_rests d past lines c work q asked got paying is_job row_is fate rests false test out =
    let aside = subst (IsNotAtDispense d) is_job (rests out).1 in
    (undosed q (again_row d c work (epoch lines) (order lines) q row_is aside), (rests out).0)

rests_exchange : (d : DeviceSetup) (past : List Met) (lines : List Line) (c : Command) (work : List Line) (q : Request)
    (asked : Option Request) (got : Option Reply) → IsHopper d.body → WorksAt d lines c work →
    row d c work (epoch lines) (order lines) ≡ sends q → Fate d past q asked got → Rests d past lines →
    Rests d (heard asked ∷ past) (exchange (Some q) got ∷ doses d.body d.serial past asked ++ lines)
rests_exchange d past lines c work q asked got paying at row_is fate rests out =
    let dosed = doses d.body d.serial past asked in
    let same = same_over is_paid_out (record { dosed = λ count lines. refl; stacked = λ coin lines. refl }) dosed lines (doses_are d.body d.serial past asked) in
    let both = asked_rests d past lines c work q asked got paying at.job_is row_is fate rests
    (shows_none (Some q) got) refl (ap (λ before. shows_none (Some q) got || before) (sym same) ∙ out) in
    let works_on = sym (job_undosed d.body d.serial past asked lines ∙ at.job_is) in (
      rests_heard d.serial past asked (fate_untaken d past q asked got both.0 fate) both.1,
      subst (λ j. IsNotAtDispense d (with_line (exchange (Some q) got) j)) works_on
          (asked_aside d c work (epoch lines) (order lines) q got (for_hopper d.body c paying at.suited) row_is),
    )

-- the end of a job
rests_ended : (d : DeviceSetup) (past : List Met) (lines : List Line) (end : Option End) → Rests d past lines →
    Rests d past (with_ended end lines)
rests_ended d past lines None rests = rests
rests_ended d past lines (Some end) rests = λ out. ((rests out).0, tt)

-- what is met and asks nothing
rests_less : (d : DeviceSetup) (past now : List Met) (lines : List Line) →
    (remaining d.serial past ≡ 0 → remaining d.serial now ≡ 0) → Rests d past lines → Rests d now lines
rests_less d past now lines less rests = λ out. (less (rests out).0, (rests out).1)

rests_fall : (d : DeviceSetup) (past : List Met) (lines : List Line) → Rests d past lines → Rests d (fall ∷ past) lines
rests_fall d past lines rests =
    rests_less d past (fall ∷ past) lines (λ none. omega (arith, remaining_fall d.serial past, none)) rests

-- commands
halted_aside : (d : DeviceSetup) (addr : ℕ) (at_work : Job) → IsNotAtDispense d at_work →
    IsNotAtDispense d (with_line (taken (command.Halt addr)) at_work)
halted_aside d addr free aside = tt
halted_aside d addr (works c since) aside = aside

-- records
put_out : (r : Record) (before : Bool) → paid_out_by r before ≡ true → before ≡ true
put_out (record_of.Opened id addr count life) before out = absurd cc
put_out r before out = out

rests_put : (d : DeviceSetup) (past : List Met) (lines : List Line) (c : Command) (work : List Line) (r : Record) →
    IsHopper d.body → WorksAt d lines c work → row d c work (epoch lines) (order lines) ≡ puts r → Rests d past lines →
    Rests d past (put r ∷ lines)
rests_put d past lines c work r paying at row_is rests out = (
  (rests (put_out r (is_paid_out lines) out)).0,
  subst (λ j. IsNotAtDispense d (with_line (put r) j)) (sym at.job_is)
      (put_aside d c work (epoch lines) (order lines) r (is_paid_out lines) (for_hopper d.body c paying at.suited) row_is
      out),
)

-- it holds after all that can come
rests_kept : (d : DeviceSetup) → IsHopper d.body → IsKeptHopper d (Rests d)
rests_kept d paying = record {
  starts = λ out. absurd cc;
  falls = λ past lines test rests. rests_fall d past lines rests;
  no_falls = λ past lines test rests. rests_fall d past lines rests;
  jams = λ past lines rests. rests_less d past (jam ∷ past) lines (λ none. remaining_jam d.serial past) rests;
  resets = λ past lines rests. rests_less d past (reset ∷ past) lines (λ none. refl) rests;
  elsewhere = λ past lines asked others rests. rests_less d past (heard asked ∷ past) lines
      (λ none. rests_heard d.serial past asked (others_untaken d.serial past asked others) none) rests;
  takes = λ past lines c no_job here in_range played fine rests out. ((rests out).0, taken_aside d c (job lines) played);
  halts = λ past lines can rests out. ((rests out).0, halted_aside d d.addr (job lines) (rests out).1);
  restarts = λ past lines rests out. ((rests out).0, tt);
  asks = λ past lines c work q asked got at row_is fate rests.
      rests_ended d (heard asked ∷ past) (exchange (Some q) got ∷ doses d.body d.serial past asked ++ lines) _
      (rests_exchange d past lines c work q asked got paying at row_is fate rests);
  keeps = λ past lines c work r at row_is rests out. ((rests (put_out r (is_paid_out lines) out)).0, tt);
  puts = λ past lines c work r at row_is rests.
      rests_ended d past (put r ∷ lines) _ (rests_put d past lines c work r paying at row_is rests);
}

-- a hopper that has shown that nothing is left to pay has nothing left to fall until the next order is opened
pub legal_paid_out : EachHopper (λ d transcript. is_paid_out (lines_in d transcript) ≡ true → remaining d.serial (met
    d (onto [] transcript)) ≡ 0)
legal_paid_out capacity setup steps transcript d sound own paying in_range legal honest out =
    (kept_hopper_legal capacity setup steps transcript d (Rests d) sound own paying in_range legal honest
    (rests_kept d paying) out).0
