-- How all that comes to a hopper, and each row of a payment and of a settlement, keep what it owes.
use Rattle.std.proofs.Common.{◌≡◌, ℕ, suc, ◌+◌, ◌-◌, ◌%◌, ◌^◌, ◌≤◌, ◌==◌, not, cond, Bool, true, false, List, [], ◌∷◌, ◌++◌, refl, ap, sym, ◌∙◌, subst, Option, Some, None, arith, le_refl, eqb-true, true≢false}
use Rattle.std.specs.Prelude.{⊤}
use Rattle.cct_model.specs.terms.request.TheConstants.{ENABLE_CODE}
use Rattle.cct_model.specs.terms.device.DeviceBody.{DeviceBody}
use Rattle.cct_model.specs.terms.device.DeviceBody.TheVariants.{Acceptor, Bill, Hopper}
use Rattle.cct_model.specs.terms.device.DeviceSetup.{DeviceSetup}
use Rattle.cct_model.specs.terms.request.Request.{Request}
use Rattle.cct_model.specs.terms.request.Request.TheVariants.{ResetDevice, Enable, Dispense, GetStatus, GetLife, StopNow, RouteBill}
use Rattle.cct_model.specs.lines.record.Record.{Record}
use Rattle.cct_model.specs.lines.record.Record.TheVariants as record_of
use Rattle.cct_model.specs.declared.judging.Judged.{Judged}
use Rattle.cct_model.specs.declared.judging.OpenOrder.{OpenOrder}
use Rattle.cct_model.specs.lines.command.Command.{Command}
use Rattle.cct_model.specs.lines.entry.End.{End}
use Rattle.cct_model.specs.Reply.{Reply}
use Rattle.cct_model.specs.Reply as reply
use Rattle.cct_model.specs.History.{Met, heard}
use Rattle.cct_model.specs.Hopper.{remaining, dropped, taken_of, life_count, status_of}
use Rattle.cct_model.specs.Device.{IsHopper, reply_of}
use Rattle.cct_model.specs.Line.{Line, dispensed, exchange, put}
use Rattle.cct_model.specs.Order.{order, is_marked, life_read, close, life_line}
use Rattle.cct_model.specs.Job.{Row, works, job, with_line, epoch, sends, puts, Noted, noted_in, state_row, open_row, close_row, judged_in, address_of}
use Rattle.cct_model.specs.Rows.{end_of, row, TableRow, rows_of, after, rest, done, sent_once, ends_first, Then, new_order, order_end, reading, asks_for, asks_once, waits_for_coins, puts_due, first, from}
use Rattle.cct_model.specs.Paid.{dispenses, fallen, PaidBy, Paid}
use Rattle.cct_model.specs.Transcript.{dispensed_by, doses}
use Rattle.cct_model.proofs.Hoppers.{left_heard, remaining_heard, taken_when}
use Rattle.cct_laws.specs.DeviceJobs.{Fate, unheard, silenced, answered, with_ended}
use Rattle.cct_model.proofs.Rows.{RowHolds, EachRow, each_after, but_first, after_next}
use Rattle.cct_laws.proofs.orders.OwedCoins.{View, StateOf, Less, Takes, state_less, IsFresh, state_takes, state_opens, close_is, IsOpen, IsLife, FitsJob, fits_less, FitsLeft, FitsRows, Follows, AreLinked, Needs, needs_less}
use Rattle.cct_model.proofs.Requests.{IsAgain}
use Rattle.cct_model.proofs.Tries.{AsksWell, asks_well, due_sends, same_request}
use Rattle.cct_model.proofs.RowEnds.{failed_stays, once_goes, row_again, row_once, rest_asks}
use Rattle.cct_laws.proofs.wire.Replies.{start_of, replied_status, replied_stop, replied_life, same_reply}

-- what is counted of a hopper
abbrev pub view : DeviceSetup → List Met → List Line → View
view d past lines = record {
  rest = remaining d.serial past;
  drops = dropped d.serial past;
  taken = dispenses lines;
  fallen = fallen lines;
}

-- what holds of a hopper after every step: each order is paid at most once, what it owes after every line, and what its
-- job needs besides
pub record Pays (d : DeviceSetup) (past : List Met) (lines : List Line) : Type 0 where
  pub paid : Paid lines
  pub state : StateOf (start_of d.body) (view d past lines) (order lines)
  pub fits : FitsJob d (start_of d.body) (view d past lines) (order lines) (job lines)

-- what comes and is no line

pub pays_less : (d : DeviceSetup) (past now : List Met) (lines : List Line) →
    Less (view d past lines) (view d now lines) → Pays d past lines → Pays d now lines
pays_less d past now lines less pays = record {
  paid = pays.paid;
  state = state_less (start_of d.body) (view d past lines) (view d now lines) (order lines) less pays.state;
  fits = fits_less d (start_of d.body) (view d past lines) (view d now lines) (order lines) (job lines) less pays.fits;
}

pub less_rest : (d : DeviceSetup) (past now : List Met) (lines : List Line) →
    remaining d.serial now ≤ remaining d.serial past → dropped d.serial now ≡ dropped d.serial past →
    Less (view d past lines) (view d now lines)
less_rest d past now lines rest drops = record { rest = rest; drops = drops; taken = refl; fallen = refl }

-- what was asked is nothing, or is sent again where it isn't answered
abbrev pub IsMany : Option Request → Type 0
IsMany None = ⊤
IsMany (Some q) = IsAgain q

pub zero_or : (b : Bool) (n : ℕ) → cond b 0 n ≤ n
zero_or true n = omega arith
zero_or false n = le_refl n

many_left : (own : ℕ) (past : List Met) (asked : Option Request) → IsMany asked →
    left_heard (taken_of own past asked) asked (remaining own past) ≤ remaining own past
many_left own past None many = le_refl (remaining own past)
many_left own past (Some ResetDevice) many = omega arith
many_left own past (Some (Enable code)) many = zero_or (not (code == ENABLE_CODE)) (remaining own past)
many_left own past (Some StopNow) many = omega arith
many_left own past (Some (Dispense serial count)) many = absurd cc
many_left own past (Some q) many = le_refl (remaining own past)

pub less_heard : (d : DeviceSetup) (past : List Met) (lines : List Line) (asked : Option Request) → IsMany asked →
    Less (view d past lines) (view d (heard asked ∷ past) lines)
less_heard d past lines asked many =
    less_rest d past (heard asked ∷ past) lines
    (subst (λ n. n ≤ remaining d.serial past) (sym (remaining_heard d.serial asked past))
    (many_left d.serial past asked many)) refl

-- the end of a job
pub pays_ended : (d : DeviceSetup) (now : List Met) (lines : List Line) (end : Option End) → Pays d now lines →
    Pays d now (with_ended end lines)
pays_ended d now lines None pays = pays
pays_ended d now lines (Some end) pays = record { paid = (tt, pays.paid); state = pays.state; fits = tt }

-- an exchange

-- what a job needs
abbrev pub FitsBehind : DeviceSetup → List Met → List Line → Command → List Line → Type 0
FitsBehind d now lines c work =
    FitsLeft d.serial (start_of d.body) (view d now lines) (order lines) (life_read work) (rest d c work)

-- what comes of an exchange
abbrev pub PaysAsk : DeviceSetup → List Met → List Line → Command → List Line → Request → Option Request →
    Option Reply → Type 0
PaysAsk d past lines c work q asked got =
    Pays d (heard asked ∷ past) (with_ended (end_of d c (exchange (Some q) got) work (epoch lines))
    (exchange (Some q) got ∷ doses d.body d.serial past asked ++ lines))

pub fits_at : (d : DeviceSetup) (past : List Met) (lines : List Line) (c : Command) (work : List Line) →
    job lines ≡ works c work → Pays d past lines → FitsBehind d past lines c work
fits_at d past lines c work is_job pays =
    subst (FitsJob d (start_of d.body) (view d past lines) (order lines)) is_job pays.fits

pays_exchange : (d : DeviceSetup) (now : List Met) (lines : List Line) (c : Command) (work : List Line)
    (asks : Option Request) (got : Option Reply) → job lines ≡ works c work → Paid lines →
    StateOf (start_of d.body) (view d now lines) (order lines) → FitsBehind d now lines c (exchange asks got ∷ work) →
    Pays d now (exchange asks got ∷ lines)
pays_exchange d now lines c work asks got is_job paid state fits = record {
  paid = (tt, paid);
  state = state;
  fits = subst (λ j. FitsJob d (start_of d.body) (view d now lines) (order lines) (with_line (exchange asks got) j))
      (sym is_job) fits;
}

many_doses : (body : DeviceBody) (own : ℕ) (past : List Met) (asked : Option Request) → IsMany asked →
    doses body own past asked ≡ []
many_doses (Acceptor accepts values ids) own past asked many = refl
many_doses (Hopper life value) own past None many = refl
many_doses (Hopper life value) own past (Some (Dispense serial count)) many = absurd cc
many_doses (Hopper life value) own past (Some q) many = refl
many_doses (Bill accepts values ids) own past None many = refl
many_doses (Bill accepts values ids) own past (Some (RouteBill way)) many = absurd cc
many_doses (Bill accepts values ids) own past (Some q) many = refl

many_exchange : (d : DeviceSetup) (past : List Met) (lines : List Line) (c : Command) (work : List Line) (q : Request)
    (asked : Option Request) (got : Option Reply) → IsMany asked → job lines ≡ works c work → Pays d past lines →
    FitsBehind d (heard asked ∷ past) lines c (exchange (Some q) got ∷ work) → PaysAsk d past lines c work q asked got
many_exchange d past lines c work q asked got many is_job pays fits =
    let now = heard asked ∷ past in
    let end = end_of d c (exchange (Some q) got) work (epoch lines) in
    let state = state_less (start_of d.body) (view d past lines) (view d now lines) (order lines)
    (less_heard d past lines asked many) pays.state in
    subst (λ ds. Pays d now (with_ended end (exchange (Some q) got ∷ ds ++ lines)))
    (sym (many_doses d.body d.serial past asked many))
    (pays_ended d now (exchange (Some q) got ∷ lines) end
    (pays_exchange d now lines c work (Some q) got is_job pays.paid state fits))

-- without an answer the row stays
none_read : (q : Request) → life_line (exchange (Some q) None) ≡ None
none_read GetLife = refl
none_read q = refl

failed_fits : (d : DeviceSetup) (start : ℕ) (v : View) (owed : Option OpenOrder) (c : Command) (work : List Line)
    (q : Request) → sent_once (rest d c work) ≡ false →
    FitsLeft d.serial start v owed (life_read work) (rest d c work) →
    FitsLeft d.serial start v owed (life_read (exchange (Some q) None ∷ work)) (rest d c (exchange (Some q) None ∷ work))
failed_fits d start v owed c work q again fits =
    let stays = sym (failed_stays (rows_of d c) (Some q) work again) in
    rw (none_read q)
    (subst (λ n. FitsLeft d.serial start v owed (life_read work) (after (rows_of d c) n)) stays fits)

failed_exchange : (d : DeviceSetup) (past : List Met) (lines : List Line) (c : Command) (work : List Line) (q : Request)
    (asked : Option Request) → IsMany asked → sent_once (rest d c work) ≡ false → job lines ≡ works c work →
    Pays d past lines → PaysAsk d past lines c work q asked None
failed_exchange d past lines c work q asked many again is_job pays =
    let now = heard asked ∷ past in
    many_exchange d past lines c work q asked None many is_job pays
    (failed_fits d (start_of d.body) (view d now lines) (order lines) c work q again
    (fits_at d now lines c work is_job
    (pays_less d past now lines (less_heard d past lines asked many) pays)))

-- so what is left to show is what the reply brings
asks_many : (d : DeviceSetup) (past : List Met) (lines : List Line) (c : Command) (work : List Line) (q : Request)
    (asked : Option Request) (got : Option Reply) → IsAgain q → sent_once (rest d c work) ≡ false →
    job lines ≡ works c work → Pays d past lines → ((y : Reply) → reply_of d past q ≡ Some y →
    FitsBehind d (heard (Some q) ∷ past) lines c (exchange (Some q) (Some y) ∷ work)) →
    Fate d past q asked got → PaysAsk d past lines c work q asked got
asks_many d past lines c work q asked got many again is_job pays replied unheard =
    failed_exchange d past lines c work q None tt again is_job pays
asks_many d past lines c work q asked got many again is_job pays replied silenced =
    failed_exchange d past lines c work q (Some q) many again is_job pays
asks_many d past lines c work q asked got many again is_job pays replied (answered y gives) =
    many_exchange d past lines c work q (Some q) (Some y) many is_job pays (replied y gives)

-- its life count is that of now
life_next : (d : DeviceSetup) (past : List Met) (lines : List Line) (w : View) (work : List Line) (y : Reply) →
    IsHopper d.body → Less (view d past lines) w → reply_of d past GetLife ≡ Some y →
    IsLife (start_of d.body) w (life_read (exchange (Some GetLife) (Some y) ∷ work))
life_next d past lines w work y paying less gives =
    let read : IsLife (start_of d.body) w (Some (life_count d.serial (start_of d.body) past)) = rw less.drops refl in
    subst (λ z. IsLife (start_of d.body) w (life_read (exchange (Some GetLife) (Some z) ∷ work)))
    (same_reply _ y (sym (replied_life d past paying) ∙ gives)) read

life_asked : (d : DeviceSetup) (past : List Met) (lines : List Line) (w : View) (work : List Line) (q : Request)
    (y : Reply) → IsHopper d.body → Less (view d past lines) w → q ≡ GetLife → reply_of d past q ≡ Some y →
    IsLife (start_of d.body) w (life_read (exchange (Some q) (Some y) ∷ work))
life_asked d past lines w work q y paying less is =
    subst (λ r. reply_of d past r ≡ Some y →
    IsLife (start_of d.body) w (life_read (exchange (Some r) (Some y) ∷ work))) (sym is)
    (life_next d past lines w work y paying less)

-- what an answer brings to the rows after the one that asked
asked_next : (d : DeviceSetup) (past : List Met) (lines : List Line) (w : View) (owed : Option OpenOrder)
    (work : List Line) (q : Request) (behind : Then) (y : Reply) (rows : List TableRow) → IsHopper d.body →
    Less (view d past lines) w → Follows d.serial rows (asks_for q behind) → Needs (view d past lines) owed rows →
    reply_of d past q ≡ Some y →
    FitsRows d.serial (start_of d.body) w owed (life_read (exchange (Some q) (Some y) ∷ work)) rows
asked_next d past lines w owed work q behind y [] paying less follows needs gives = tt
asked_next d past lines w owed work q behind y (asks_for r next ∷ rows) paying less follows needs gives =
    needs_less (view d past lines) w owed rows less needs
asked_next d past lines w owed work q behind y (puts_due (new_order id count) next ∷ rows) paying less follows needs gives =
    (needs.0, needs.1, life_asked d past lines w work q y paying less follows gives)
asked_next d past lines w owed work q behind y (puts_due order_end next ∷ rows) paying less follows needs gives =
    (needs.0, omega (arith, less.rest, needs.1), life_asked d past lines w work q y paying less follows gives)
asked_next d past lines w owed work q behind y (puts_due due next ∷ rows) paying less follows needs gives =
    needs_less (view d past lines) w owed rows less needs
asked_next d past lines w owed work q behind y rows paying less follows needs gives = absurd follows

-- a wait ends by a status that says that nothing is left to fall
none_left : (d : DeviceSetup) (past : List Met) (marked : Bool) (q : Request) (y : Reply) (rows : List TableRow) →
    IsHopper d.body → state_row marked ≡ sends q → reply_of d past q ≡ Some y →
    ends_first (waits_for_coins ∷ rows) (Some y) ≡ true → remaining d.serial past ≡ 0
none_left d past true q y rows paying is gives ends =
    let told : reply.remaining (remaining d.serial past) ≡ y =
    same_reply _ y (sym (replied_stop d past paying) ∙ ap (reply_of d past) (same_request StopNow q is) ∙ gives) in
    absurd (true≢false (sym ends ∙ ap (λ z. ends_first (waits_for_coins ∷ rows) (Some z)) (sym told)))
none_left d past false q y rows paying is gives ends =
    let told : status_of d.serial past ≡ y =
    same_reply _ y (sym (replied_status d past paying) ∙ ap (reply_of d past) (same_request GetStatus q is) ∙ gives) in
    eqb-true (remaining d.serial past) 0 (ap (λ z. ends_first (waits_for_coins ∷ rows) (Some z)) told ∙ ends)

waited_next : (own start : ℕ) (w : View) (owed : Option OpenOrder) (life : Option ℕ) (rows : List TableRow) →
    Follows own rows waits_for_coins → IsOpen owed → w.rest ≡ 0 → FitsRows own start w owed life rows
waited_next own start w owed life (asks_for q next ∷ puts_due order_end behind ∷ rows) follows is_open none =
    (is_open, none)
waited_next own start w owed life rows follows is_open none = absurd follows

-- what an answer brings to a job
rows_next : (d : DeviceSetup) (past : List Met) (lines : List Line) (w : View) (owed : Option OpenOrder)
    (work : List Line) (addr : ℕ) (judged : Judged) (p : Noted) (rows : List TableRow) (q : Request) (y : Reply)
    (ends : Bool) → IsHopper d.body → Less (view d past lines) w → sent_once rows ≡ false →
    FitsLeft d.serial (start_of d.body) (view d past lines) owed (life_read work) rows →
    first addr judged p rows ≡ sends q → reply_of d past q ≡ Some y → ends_first rows (Some y) ≡ ends →
    FitsLeft d.serial (start_of d.body) w owed (life_read (exchange (Some q) (Some y) ∷ work))
    (cond ends (but_first rows) rows)
rows_next d past lines w owed work addr judged p [] q y ends paying less again fits is gives test = absurd cc
rows_next d past lines w owed work addr judged p (asks_for x behind ∷ rows) q y true paying less again fits is gives test =
    let follows = subst (λ r. Follows d.serial rows (asks_for r behind)) (same_request x q is) fits.0.0.1 in
    (fits.0.1, asked_next d past lines w owed work q behind y rows paying less follows fits.1 gives)
rows_next d past lines w owed work addr judged p (asks_for x behind ∷ rows) q y false paying less again fits is gives test =
    absurd (true≢false test)
rows_next d past lines w owed work addr judged p (asks_once x behind without ∷ rows) q y ends paying less again fits is
    gives test = absurd (true≢false again)
rows_next d past lines w owed work addr judged p (waits_for_coins ∷ rows) q y true paying less again fits is gives test =
    let none = none_left d past p.is_marked q y rows paying is gives test in
    (fits.0.1, waited_next d.serial (start_of d.body) w owed _ rows fits.0.0.1 fits.1 (omega (arith, less.rest, none)))
rows_next d past lines w owed work addr judged p (waits_for_coins ∷ rows) q y false paying less again fits is gives test =
    (fits.0, fits.1)
rows_next d past lines w owed work addr judged p (puts_due due behind ∷ rows) q y ends paying less again fits is gives
    test = absurd (due_sends addr judged p due q is)

left_next : (d : DeviceSetup) (c : Command) (work : List Line) (start : ℕ) (w : View) (owed : Option OpenOrder)
    (life : Option ℕ) (ends : Bool) →
    FitsLeft d.serial start w owed life (cond ends (but_first (rest d c work)) (rest d c work)) →
    FitsLeft d.serial start w owed life
    (after (rows_of d c) (cond ends (suc (done (rows_of d c) work)) (done (rows_of d c) work)))
left_next d c work start w owed life true fits =
    subst (FitsLeft d.serial start w owed life) (sym (after_next (rows_of d c) (done (rows_of d c) work))) fits
left_next d c work start w owed life false fits = fits

-- what a row sends and puts

-- what a job needs at its next row
abbrev pub Next : Type 1
Next = View → Option OpenOrder → Option ℕ → Type 0

-- a dispense is sent to the hopper itself, where an order of its count is open that no dispense was taken for; whatever
-- is heard of it, the job goes on
pub record Dispenses (v : View) (owed : Option OpenOrder) (own serial count : ℕ) (F : Next) : Type 0 where
  pub to_own : serial ≡ own
  pub fresh : IsFresh v owed count
  pub goes_on : (w : View) (life : Option ℕ) → F w owed life

-- of what is sent once, a hopper is sent a dispense alone
abbrev pub IsSent : View → Option OpenOrder → ℕ → Next → Request → Type 0
IsSent v owed own F (Dispense serial count) = Dispenses v owed own serial count F
IsSent v owed own F q = IsAgain q

-- a record opens or closes an order as it may, and keeps what is owed and what its job needs
pub record Puts (d : DeviceSetup) (past : List Met) (lines : List Line) (life : Option ℕ) (F : Next) (r : Record) :
    Type 0 where
  pub paid : PaidBy lines r
  pub state : StateOf (start_of d.body) (view d past (put r ∷ lines)) (order (put r ∷ lines))
  pub fits : F (view d past (put r ∷ lines)) (order (put r ∷ lines)) life

-- what a row sends and puts is such, with what its job needs at its next row
abbrev pub RowFits : DeviceSetup → List Met → List Line → Option ℕ → Next → Row → Type 0
RowFits d past lines life F r =
    RowHolds (IsSent (view d past lines) (order lines) d.serial F) (Puts d past lines life F) r

-- a record that opens an order goes on to its dispense
opened_fits : (d : DeviceSetup) (past : List Met) (lines : List Line) (addr id count : ℕ) (life : Option ℕ)
    (behind : Then) (rows : List TableRow) → AreLinked d.serial (puts_due (new_order id count) behind ∷ rows) →
    order lines ≡ None → count ≤ 255 → IsLife (start_of d.body) (view d past lines) life →
    StateOf (start_of d.body) (view d past lines) (order lines) →
    RowFits d past lines life (λ w owed found. FitsLeft d.serial (start_of d.body) w owed found rows)
    (open_row addr id count life)
opened_fits d past lines addr id count None behind rows linked none small read state = absurd cc
opened_fits d past lines addr id count (Some life) behind rows linked none small read state =
    let start = start_of d.body in
    let r = record_of.Opened id addr count life in
    let o : OpenOrder = record { id = id; addr = addr; count = count; life = life } in
    let rests : remaining d.serial past ≡ 0 = subst (StateOf start (view d past lines)) none state in
    let begun : life ≡ (start + dropped d.serial past) % 2 ^ 24 = cc in
    record {
      paid = none;
      state = state_opens start (view d past lines) (view d past (put r ∷ lines)) o
          (record { rest = refl; drops = refl; taken = refl; fallen = refl }) rests begun small;
      fits = (linked.1, opened_next d.serial start (view d past (put r ∷ lines)) o (Some life) behind rows linked.0.1 refl);
    }
  where
    opened_next : (own start : ℕ) (w : View) (o : OpenOrder) (life : Option ℕ) (behind : Then) (rows : List TableRow) →
        Follows own rows (puts_due (new_order o.id o.count) behind) → w.taken ≡ 0 →
        FitsRows own start w (Some o) life rows
    opened_next own start w o life behind (asks_once x next without ∷ rows) follows none = (o.count, follows, (none, refl))
    opened_next own start w o life behind rows follows none = absurd follows

-- and one that closes it is the last
closed_fits : (d : DeviceSetup) (past : List Met) (lines : List Line) (life : Option ℕ) (owed : Option OpenOrder)
    (F : Next) → ((w : View) (next : Option OpenOrder) (found : Option ℕ) → F w next found) →
    order lines ≡ owed → IsOpen owed → remaining d.serial past ≡ 0 →
    IsLife (start_of d.body) (view d past lines) life → StateOf (start_of d.body) (view d past lines) owed →
    RowFits d past lines life F (close_row owed life)
closed_fits d past lines life None F last is_owed is_open rests read state = absurd is_open
closed_fits d past lines None (Some o) F last is_owed is_open rests read state = absurd cc
closed_fits d past lines (Some life) (Some o) F last is_owed is_open rests read owes =
    let v = view d past lines in
    let now : (start_of d.body + v.drops) % 2 ^ 24 ≡ life = cc in
    let closes : record_of.Closed o.id v.fallen (o.count - v.fallen) ≡ close o life =
    sym (close_is (start_of d.body) v o owes) ∙ ap (close o) now in
    let all : v.fallen + (o.count - v.fallen) ≡ o.count = omega (arith, owes.within) in
    let paid : PaidBy lines (record_of.Closed o.id v.fallen (o.count - v.fallen)) = rw is_owed (refl, refl, all) in
    subst (Puts d past lines (Some life) F) closes (record { paid = paid; state = rests; fits = last _ _ _ })

closed_next : (own start : ℕ) (behind : Then) (rows : List TableRow) →
    AreLinked own (puts_due order_end behind ∷ rows) → (w : View) (owed : Option OpenOrder) (life : Option ℕ) →
    FitsLeft own start w owed life rows
closed_next own start behind [] linked w owed life = (tt, tt)
closed_next own start behind (asks_for q next ∷ rows) linked w owed life = absurd linked.0.1
closed_next own start behind (asks_once q next without ∷ rows) linked w owed life = absurd linked.0.1
closed_next own start behind (waits_for_coins ∷ rows) linked w owed life = absurd linked.0.1
closed_next own start behind (puts_due due next ∷ rows) linked w owed life = absurd linked.0.1

state_fits : (d : DeviceSetup) (past : List Met) (lines : List Line) (life : Option ℕ) (F : Next) (marked : Bool) →
    RowFits d past lines life F (state_row marked)
state_fits d past lines life F true = refl
state_fits d past lines life F false = refl

-- what is asked again is no dispense
again_sent : (v : View) (owed : Option OpenOrder) (own : ℕ) (F : Next) (q : Request) → IsAgain q → IsSent v owed own F q
again_sent v owed own F (Dispense serial count) again = absurd (true≢false (sym again))
again_sent v owed own F q again = again

fresh_open : (v : View) (owed : Option OpenOrder) (count : ℕ) → IsFresh v owed count → IsOpen owed
fresh_open v None count fresh = absurd fresh
fresh_open v (Some o) count fresh = tt

-- after a dispense comes the row that waits for its coins
dosed_next : (own start : ℕ) (w : View) (owed : Option OpenOrder) (life : Option ℕ) (q : Request)
    (behind without : Then) (rows : List TableRow) → Follows own rows (asks_once q behind without) → IsOpen owed →
    FitsRows own start w owed life rows
dosed_next own start w owed life q behind without (waits_for_coins ∷ rows) follows is_open = is_open
dosed_next own start w owed life q behind without rows follows is_open = absurd follows

rows_fits : (d : DeviceSetup) (past : List Met) (lines work : List Line) (addr : ℕ) (judged : Judged)
    (rows : List TableRow) → EachRow AsksWell rows →
    FitsLeft d.serial (start_of d.body) (view d past lines) (order lines) (life_read work) rows →
    StateOf (start_of d.body) (view d past lines) (order lines) →
    RowFits d past lines (life_read work)
    (λ w owed life. FitsLeft d.serial (start_of d.body) w owed life (but_first rows))
    (first addr judged (noted_in work (order lines)) rows)
rows_fits d past lines work addr judged [] well fits state = tt
rows_fits d past lines work addr judged (asks_for q behind ∷ rows) well fits state =
    again_sent (view d past lines) (order lines) d.serial _ q well.0
rows_fits d past lines work addr judged (asks_once q behind without ∷ rows) well fits state =
    let count = fits.1.0 in
    let is_open = fresh_open (view d past lines) (order lines) count fits.1.2 in
    let next : Next = λ w owed life. FitsLeft d.serial (start_of d.body) w owed life rows in
    let goes_on : (w : View) (life : Option ℕ) → next w (order lines) life =
    λ w life. (fits.0.1, dosed_next d.serial (start_of d.body) w (order lines) life q behind without rows fits.0.0.1 is_open) in
    let doses : Dispenses (view d past lines) (order lines) d.serial d.serial count next =
    record { to_own = refl; fresh = fits.1.2; goes_on = goes_on } in
    subst (IsSent (view d past lines) (order lines) d.serial next) (sym fits.1.1) doses
rows_fits d past lines work addr judged (waits_for_coins ∷ rows) well fits state =
    state_fits d past lines (life_read work) _ (is_marked work)
rows_fits d past lines work addr judged (puts_due (new_order id count) behind ∷ rows) well fits state =
    opened_fits d past lines addr id count (life_read work) behind rows fits.0 fits.1.0 fits.1.1 fits.1.2 state
rows_fits d past lines work addr judged (puts_due order_end behind ∷ rows) well fits state =
    closed_fits d past lines (life_read work) (order lines) _ (closed_next d.serial (start_of d.body) behind rows fits.0) refl
    fits.1.0 fits.1.1 fits.1.2 state
rows_fits d past lines work addr judged (puts_due due behind ∷ rows) well fits state = absurd fits.0.0.0

-- none of them is passed over
none_passed : (own : ℕ) (rows : List TableRow) (judged : Judged) → AreLinked own rows → from rows judged ≡ rows
none_passed own [] judged linked = refl
none_passed own (puts_due reading behind ∷ rows) judged linked = absurd linked.0.0
none_passed own (r ∷ rows) judged linked = refl

-- what a job needs at its next row
abbrev pub NextOf : DeviceSetup → Command → List Line → Next
NextOf d c work = λ w owed life. FitsLeft d.serial (start_of d.body) w owed life (but_first (rest d c work))

-- so it is at the row of the hopper's job
row_fits : (d : DeviceSetup) (past : List Met) (lines : List Line) (c : Command) (work : List Line) →
    job lines ≡ works c work → Pays d past lines →
    RowFits d past lines (life_read work) (NextOf d c work) (row d c work (epoch lines) (order lines))
row_fits d past lines c work is_job pays =
    let fits = fits_at d past lines c work is_job pays in
    let judged = judged_in c work (epoch lines) in
    subst (λ rows. RowFits d past lines (life_read work) (NextOf d c work)
    (first (address_of c) judged (noted_in work (order lines)) rows))
    (sym (none_passed d.serial (rest d c work) judged fits.0))
    (rows_fits d past lines work (address_of c) judged (rest d c work)
    (each_after AsksWell (rows_of d c) (done (rows_of d c) work) (asks_well d c)) fits pays.state)

pub sent_fits : (d : DeviceSetup) (past : List Met) (lines : List Line) (c : Command) (work : List Line) (q : Request) →
    job lines ≡ works c work → row d c work (epoch lines) (order lines) ≡ sends q → Pays d past lines →
    IsSent (view d past lines) (order lines) d.serial (NextOf d c work) q
sent_fits d past lines c work q is_job row_is pays =
    subst (RowFits d past lines (life_read work) (NextOf d c work)) row_is (row_fits d past lines c work is_job pays)

pub put_fits : (d : DeviceSetup) (past : List Met) (lines : List Line) (c : Command) (work : List Line) (r : Record) →
    job lines ≡ works c work → row d c work (epoch lines) (order lines) ≡ puts r → Pays d past lines →
    Puts d past lines (life_read work) (NextOf d c work) r
put_fits d past lines c work r is_job row_is pays =
    subst (RowFits d past lines (life_read work) (NextOf d c work)) row_is (row_fits d past lines c work is_job pays)

-- a dispense

hopper_doses : (body : DeviceBody) (own : ℕ) (past : List Met) (asked : Option Request) → IsHopper body →
    doses body own past asked ≡ dispensed_by (taken_of own past asked)
hopper_doses (Acceptor accepts values ids) own past asked paying = absurd paying
hopper_doses (Hopper life value) own past asked paying = refl
hopper_doses (Bill accepts values ids) own past asked paying = absurd paying

left_after : (own serial count : ℕ) (past : List Met) (took : Option ℕ) →
    taken_of own past (Some (Dispense serial count)) ≡ took →
    remaining own (heard (Some (Dispense serial count)) ∷ past)
    ≡ left_heard took (Some (Dispense serial count)) (remaining own past)
left_after own serial count past took is =
    remaining_heard own (Some (Dispense serial count)) past
    ∙ ap (λ found. left_heard found (Some (Dispense serial count)) (remaining own past)) is

same_count : (serial count own taken : ℕ) → Some (Dispense serial count) ≡ Some (Dispense own taken) → count ≡ taken
same_count serial count own taken e = cc

-- it is taken, or it isn't
by_taken : (d : DeviceSetup) (past : List Met) (lines : List Line) (c : Command) (work : List Line)
    (serial count : ℕ) (got : Option Reply) (took : Option ℕ) →
    taken_of d.serial past (Some (Dispense serial count)) ≡ took → job lines ≡ works c work →
    IsFresh (view d past lines) (order lines) count →
    ((w : View) → FitsLeft d.serial (start_of d.body) w (order lines)
    (life_read (exchange (Some (Dispense serial count)) got ∷ work))
    (rest d c (exchange (Some (Dispense serial count)) got ∷ work))) → Pays d past lines →
    Pays d (heard (Some (Dispense serial count)) ∷ past)
    (exchange (Some (Dispense serial count)) got ∷ dispensed_by took ++ lines)
by_taken d past lines c work serial count got None is is_job fresh goes_on pays =
    let now = heard (Some (Dispense serial count)) ∷ past in
    let rest = left_after d.serial serial count past None is in
    let less : Less (view d past lines) (view d now lines) =
    less_rest d past now lines (omega (arith, rest)) refl in
    pays_exchange d now lines c work (Some (Dispense serial count)) got is_job pays.paid
    (state_less (start_of d.body) (view d past lines) (view d now lines) (order lines) less pays.state)
    (goes_on (view d now lines))
by_taken d past lines c work serial count got (Some taken) is is_job fresh goes_on pays =
    let now = heard (Some (Dispense serial count)) ∷ past in
    let dosed = dispensed taken ∷ lines in
    let rest = left_after d.serial serial count past (Some taken) is in
    let same : count ≡ taken =
    same_count serial count d.serial taken (taken_when d.serial past (Some (Dispense serial count)) taken is).asks in
    let whole : IsFresh (view d past lines) (order lines) taken =
    subst (IsFresh (view d past lines) (order lines)) same fresh in
    let takes : Takes taken (view d past lines) (view d now dosed) =
    record { rest = rest; drops = refl; taken = refl; fallen = refl } in
    pays_exchange d now dosed c work (Some (Dispense serial count)) got is_job (whole, pays.paid)
    (state_takes (start_of d.body) taken (view d past lines) (view d now dosed) (order lines) takes whole pays.state)
    (goes_on (view d now dosed))

heard_dispense : (d : DeviceSetup) (past : List Met) (lines : List Line) (c : Command) (work : List Line)
    (serial count : ℕ) (got : Option Reply) → IsHopper d.body →
    job lines ≡ works c work → IsFresh (view d past lines) (order lines) count →
    ((w : View) → FitsLeft d.serial (start_of d.body) w (order lines)
    (life_read (exchange (Some (Dispense serial count)) got ∷ work))
    (rest d c (exchange (Some (Dispense serial count)) got ∷ work))) → Pays d past lines →
    PaysAsk d past lines c work (Dispense serial count) (Some (Dispense serial count)) got
heard_dispense d past lines c work serial count got paying is_job fresh goes_on pays =
    let q = Dispense serial count in
    let now = heard (Some q) ∷ past in
    let end = end_of d c (exchange (Some q) got) work (epoch lines) in
    subst (λ ds. Pays d now (with_ended end (exchange (Some q) got ∷ ds ++ lines)))
    (sym (hopper_doses d.body d.serial past (Some q) paying))
    (pays_ended d now (exchange (Some q) got ∷ dispensed_by (taken_of d.serial past (Some q)) ++ lines) end
    (by_taken d past lines c work serial count got (taken_of d.serial past (Some q)) refl is_job fresh goes_on pays))

-- it ends its row, whatever is heard of it
dispense_next : (d : DeviceSetup) (c : Command) (work : List Line) (v w : View) (owed : Option OpenOrder)
    (serial count : ℕ) (got : Option Reply) → sent_once (rest d c work) ≡ true →
    Dispenses v owed d.serial serial count (NextOf d c work) →
    FitsLeft d.serial (start_of d.body) w owed (life_read (exchange (Some (Dispense serial count)) got ∷ work))
    (rest d c (exchange (Some (Dispense serial count)) got ∷ work))
dispense_next d c work v w owed serial count got once dispenses =
    subst (λ n. FitsLeft d.serial (start_of d.body) w owed (life_read work) (after (rows_of d c) n))
    (sym (once_goes (rows_of d c) (Some (Dispense serial count)) got work once))
    (left_next d c work (start_of d.body) w owed (life_read work) true (dispenses.goes_on w (life_read work)))

asks_dispense : (d : DeviceSetup) (past : List Met) (lines : List Line) (c : Command) (work : List Line)
    (serial count : ℕ) (asked : Option Request) (got : Option Reply) → IsHopper d.body → job lines ≡ works c work →
    sent_once (rest d c work) ≡ true →
    Dispenses (view d past lines) (order lines) d.serial serial count (NextOf d c work) → Pays d past lines →
    Fate d past (Dispense serial count) asked got → PaysAsk d past lines c work (Dispense serial count) asked got
asks_dispense d past lines c work serial count asked got paying is_job once dispenses pays unheard =
    many_exchange d past lines c work (Dispense serial count) None None tt is_job pays
    (dispense_next d c work (view d past lines) (view d (heard None ∷ past) lines) (order lines) serial count None once
    dispenses)
asks_dispense d past lines c work serial count asked got paying is_job once dispenses pays silenced =
    heard_dispense d past lines c work serial count None paying is_job dispenses.fresh
    (λ w. dispense_next d c work (view d past lines) w (order lines) serial count None once dispenses) pays
asks_dispense d past lines c work serial count asked got paying is_job once dispenses pays (answered y gives) =
    heard_dispense d past lines c work serial count (Some y) paying is_job dispenses.fresh
    (λ w. dispense_next d c work (view d past lines) w (order lines) serial count (Some y) once dispenses) pays

-- what the hopper's job asks

asks_sent : (d : DeviceSetup) (past : List Met) (lines : List Line) (c : Command) (work : List Line) (q : Request)
    (asked : Option Request) (got : Option Reply) → IsHopper d.body → job lines ≡ works c work →
    row d c work (epoch lines) (order lines) ≡ sends q → Pays d past lines →
    IsSent (view d past lines) (order lines) d.serial (NextOf d c work) q → Fate d past q asked got →
    PaysAsk d past lines c work q asked got
asks_sent d past lines c work (Dispense serial count) asked got paying is_job row_is pays sent fate =
    asks_dispense d past lines c work serial count asked got paying is_job
    (row_once d c work (epoch lines) (order lines) (Dispense serial count) row_is refl) sent pays fate
asks_sent d past lines c work q asked got paying is_job row_is pays sent fate =
    let now = heard (Some q) ∷ past in
    let again = row_again d c work (epoch lines) (order lines) q row_is sent in
    asks_many d past lines c work q asked got sent again is_job pays (λ y gives.
    left_next d c work (start_of d.body) (view d now lines) (order lines) (life_read (exchange (Some q) (Some y) ∷ work))
    (ends_first (rest d c work) (Some y))
    (rows_next d past lines (view d now lines) (order lines) work (address_of c) (judged_in c work (epoch lines))
    (noted_in work (order lines)) (rest d c work) q y (ends_first (rest d c work) (Some y)) paying
    (less_heard d past lines (Some q) sent) again (fits_at d past lines c work is_job pays)
    (rest_asks d c work (epoch lines) (order lines) q row_is) gives refl)) fate

pub pays_asks : (d : DeviceSetup) (past : List Met) (lines : List Line) (c : Command) (work : List Line) (q : Request)
    (asked : Option Request) (got : Option Reply) → IsHopper d.body → job lines ≡ works c work →
    row d c work (epoch lines) (order lines) ≡ sends q → Fate d past q asked got → Pays d past lines →
    PaysAsk d past lines c work q asked got
pays_asks d past lines c work q asked got paying is_job row_is fate pays =
    asks_sent d past lines c work q asked got paying is_job row_is pays
    (sent_fits d past lines c work q is_job row_is pays) fate

-- what it puts
pub pays_puts : (d : DeviceSetup) (past : List Met) (lines : List Line) (c : Command) (work : List Line) (r : Record) →
    job lines ≡ works c work → row d c work (epoch lines) (order lines) ≡ puts r → Pays d past lines →
    Pays d past (put r ∷ lines)
pays_puts d past lines c work r is_job row_is pays =
    let holds = put_fits d past lines c work r is_job row_is pays in
    record {
      paid = (holds.paid, pays.paid);
      state = holds.state;
      fits = subst
          (λ j. FitsJob d (start_of d.body) (view d past (put r ∷ lines)) (order (put r ∷ lines)) (with_line (put r) j))
          (sym is_job)
          (left_next d c work (start_of d.body) (view d past (put r ∷ lines)) (order (put r ∷ lines)) (life_read work) true
          holds.fits);
    }
