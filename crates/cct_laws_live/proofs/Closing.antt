-- What closes an order was heard, whatever the wire does: a job that has it to put heard a state with no coin left to pay, and
-- then the life count, since it began, opened its order and sent its dispense.
use Rattle.std.proofs.Common.{◌≡◌, ◌⊎◌, ℕ, zero, suc, nat_le, ◌+◌, ◌-◌, ◌<◌, cond, true, false, Bool, List, [], ◌∷◌, ◌++◌, refl, ap, sym, ◌∙◌, subst, Option, Some, None, inl, inr, arith, eqb-true}
use Rattle.std.specs.Prelude.{⊤}
use Rattle.std.specs.Option.{option_or}
use Rattle.std.proofs.lemmas.Bool.Decides.{nat_tests}
use Rattle.cct_model.specs.terms.device.DeviceSetup.{DeviceSetup}
use Rattle.cct_model.specs.terms.request.Request.{Request}
use Rattle.cct_model.specs.terms.request.Request.TheVariants.{Dispense, GetStatus, GetLife, StopNow}
use Rattle.cct_model.specs.declared.judging.Judged.{Judged}
use Rattle.cct_model.specs.declared.judging.EpochState.{EpochState}
use Rattle.cct_model.specs.declared.judging.OpenOrder.{OpenOrder}
use Rattle.cct_model.specs.lines.record.Record.{Record}
use Rattle.cct_model.specs.lines.record.Record.TheVariants as record_of
use Rattle.cct_model.specs.lines.command.Command.{Command}
use Rattle.cct_model.specs.lines.command.Command.TheVariants as command
use Rattle.cct_model.specs.Request.{form_of}
use Rattle.cct_model.specs.Reply.{Reply}
use Rattle.cct_model.specs.Reply as reply
use Rattle.cct_model.specs.Line.{Line, exchange, scanned, put, taken, ended, restarted}
use Rattle.cct_model.specs.Order.{order, close, life_between, life_line, life_read}
use Rattle.cct_model.specs.Job.{Job, free, works, job, with_line, puts, Noted, noted_in, open_row, judged_in, address_of, ident_requests}
use Rattle.cct_model.specs.Rows.{Due, new_epoch, reading, epoch_end, new_order, order_end, sale, TableRow, waits_for_coins, rows_of, after, row, row_at, done, ends_first}
use Rattle.cct_model.proofs.Rows.{RowHolds, DueHolds, JudgedHolds, judged_holds, is_at_device, device_puts, puts_only, told_only, each_put}
use Rattle.cct_msg.specs.Forms.{form_shown}
use Rattle.cct_laws_live.specs.Closes.{ClosedBy, CloseOf, Settles, WasOpened, life_heard, none_left_heard, begins_wait, since_sent}
use Rattle.cct_laws_live.specs.Posts.{Has, HasOver, HaveInTurn, since_taken}
use Rattle.cct_laws_live.proofs.InTurn.{AreQuiet, AsksFirst, FitsForm, IsAsk, IsPlain, IsQuiet, Obeys, PutsFirst, back, has_front, less, quiet_stay, read_back}
use Rattle.cct_laws_live.proofs.Posting.{Within, has_all, turn_within, within_more, newest}
use Rattle.cct_laws.proofs.orders.Closes.{closes_so}

-- a row waits for a payout
abbrev IsWait : List TableRow → Type 0
IsWait (waits_for_coins ∷ rows) = ⊤
IsWait rows = ⊥

-- an exchange that ends it is an answered state with no coin left to pay
record IsNoneLeft (asked : Option Request) (got : Option Reply) : Type 0 where
  events : ℕ
  paid : ℕ
  unpaid : ℕ
  is : exchange asked got ≡ none_left_heard events paid unpaid

state_asked : (asked : Option Request) (events left_to_pay paid unpaid : ℕ) →
    (asked ≡ Some GetStatus) ⊎ (asked ≡ Some StopNow) → FitsForm asked (Some (reply.status events left_to_pay paid unpaid)) →
    asked ≡ Some GetStatus
unfolding form_of
state_asked asked events left_to_pay paid unpaid (inl asks) fits = asks
state_asked asked events left_to_pay paid unpaid (inr stops) fits =
    let clash : FitsForm (Some StopNow) (Some (reply.status events left_to_pay paid unpaid)) =
    subst (λ a. FitsForm a (Some (reply.status events left_to_pay paid unpaid))) stops fits in
    absurd (cc clash)

wait_ended : (rows : List TableRow) (asked : Option Request) (got : Option Reply) → IsWait rows → AsksFirst rows asked →
    ends_first rows got ≡ true → FitsForm asked got → IsNoneLeft asked got
wait_ended (waits_for_coins ∷ rows) asked (Some (reply.status events left_to_pay paid unpaid)) is asks ends fits =
    let none : left_to_pay ≡ 0 = eqb-true left_to_pay 0 ends in
    record {
      events = events;
      paid = paid;
      unpaid = unpaid;
      is =
          ap (λ a. exchange a (Some (reply.status events left_to_pay paid unpaid)))
          (state_asked asked events left_to_pay paid unpaid asks fits)
          ∙ ap (λ n. exchange (Some GetStatus) (Some (reply.status events n paid unpaid))) none;
    }
wait_ended (waits_for_coins ∷ rows) asked got is asks ends fits = absurd (cc ends)
wait_ended rows asked got is asks ends fits = absurd is

-- the newest such exchange among the lines of a job
record LeftNone (since : List Line) : Type 0 where
  events : ℕ
  paid : ℕ
  unpaid : ℕ
  newer : List Line
  older : List Line
  is : since ≡ newer ++ (none_left_heard events paid unpaid ∷ older)
  quiet : AreQuiet newer

left_here : (asked : Option Request) (got : Option Reply) (since : List Line) → IsNoneLeft asked got →
    LeftNone (exchange asked got ∷ since)
left_here asked got since none = record {
  events = none.events;
  paid = none.paid;
  unpaid = none.unpaid;
  newer = [];
  older = since;
  is = ap (λ l. l ∷ since) none.is;
  quiet = tt;
}

left_more : (l : Line) (since : List Line) → IsQuiet l → LeftNone since → LeftNone (l ∷ since)
left_more l since quiet by = record {
  events = by.events;
  paid = by.paid;
  unpaid = by.unpaid;
  newer = l ∷ by.newer;
  older = by.older;
  is = ap (λ ls. l ∷ ls) by.is;
  quiet = (quiet, by.quiet);
}

wait_puts : (rows : List TableRow) → IsWait rows → PutsFirst rows → ⊥
wait_puts (waits_for_coins ∷ rows) is puts_it = puts_it
wait_puts rows is puts_it = is

-- by which the row that waits ended
back_wait : (rows : List TableRow) (n : ℕ) (since : List Line) → IsWait (after rows n) → IsPlain (after rows (suc n)) →
    Obeys rows since → done rows since ≡ suc n → LeftNone since
back_wait rows n [] wait plain obeys at = absurd (omega (arith, at))
back_wait rows n (put r ∷ since) wait plain obeys at =
    absurd (wait_puts (after rows n) wait (subst (λ m. PutsFirst (after rows m)) (less (done rows since) n at) obeys.0))
back_wait rows n (exchange asked got ∷ since) wait plain obeys at =
    by_end (ends_first (after rows (done rows since)) got) refl at (λ is. back_wait rows n since wait plain obeys.2 is)
  where
    by_end : (ends : Bool) → ends_first (after rows (done rows since)) got ≡ ends →
        cond ends (suc (done rows since)) (done rows since) ≡ suc n → (done rows since ≡ suc n → LeftNone since) →
        LeftNone (exchange asked got ∷ since)
    by_end true test is earlier =
        let here = less (done rows since) n is in
        left_here asked got since
        (wait_ended (after rows n) asked got wait (subst (λ m. AsksFirst (after rows m) asked) here obeys.0)
        (subst (λ m. ends_first (after rows m) got ≡ true) here test) obeys.1)
    by_end false test is earlier =
        left_more (exchange asked got) since
        (quiet_stay (after rows (suc n)) asked got plain (subst (λ m. AsksFirst (after rows m) asked) is obeys.0)
        (subst (λ m. ends_first (after rows m) got ≡ false) is test))
        (earlier is)
back_wait rows n (taken c ∷ since) wait plain obeys at =
    left_more (taken c) since obeys.0 (back_wait rows n since wait plain obeys.1 at)
back_wait rows n (restarted ∷ since) wait plain obeys at = absurd obeys
back_wait rows n (l ∷ since) wait plain obeys at = left_more l since tt (back_wait rows n since wait plain obeys at)

-- what quiet lines don't change
no_life : (asked : Option Request) → life_line (exchange asked None) ≡ None
no_life None = refl
no_life (Some GetLife) = refl
no_life (Some q) = refl

quiet_life : (l : Line) (ls : List Line) → IsQuiet l → life_read (l ∷ ls) ≡ life_read ls
quiet_life (exchange asked None) ls quiet = ap (λ x. option_or x (life_read ls)) (no_life asked)
quiet_life (exchange asked (Some y)) ls quiet = absurd quiet
quiet_life l ls quiet = refl

read_life : (y : Reply) (older : List Line) (life : ℕ) → form_shown y ≡ form_of GetLife →
    life_read (exchange (Some GetLife) (Some y) ∷ older) ≡ Some life → y ≡ reply.life life
unfolding form_of
read_life (reply.life k) older life fits is = cc
read_life y older life fits is = absurd cc

-- and none begins a new wait
quiet_begins : (l : Line) → IsQuiet l → begins_wait l ≡ false
quiet_begins (exchange None None) quiet = refl
quiet_begins (exchange (Some (Dispense serial count)) None) quiet = absurd quiet
quiet_begins (exchange (Some q) None) quiet = refl
quiet_begins (exchange asked (Some y)) quiet = absurd quiet
quiet_begins (put r) quiet = absurd quiet
quiet_begins (taken (command.Halt addr)) quiet = refl
quiet_begins (taken c) quiet = absurd quiet
quiet_begins restarted quiet = absurd quiet
quiet_begins l quiet = refl

sent_quiet : (newer ls : List Line) → AreQuiet newer → since_sent (newer ++ ls) ≡ newer ++ since_sent ls
sent_quiet [] ls quiet = refl
sent_quiet (l ∷ newer) ls quiet =
    ap (λ b. cond b [] (l ∷ since_sent (newer ++ ls))) (quiet_begins l quiet.0)
    ∙ ap (λ rest. l ∷ rest) (sent_quiet newer ls quiet.1)

-- a state with no coin left to pay was heard, and then a life count
abbrev pub EndsHeard : List Line → ℕ → Type 0
EndsHeard lines life =
    (events : ℕ) × (paid : ℕ) × (unpaid : ℕ) × HaveInTurn lines (life_heard life ∷ none_left_heard events paid unpaid ∷ [])

abbrev pub WasEnded : List Line → Type 0
WasEnded since = (life : ℕ) → life_read since ≡ Some life → EndsHeard (since_sent since) life

over_front : (since newer rest : List Line) (l : Line) (P : List Line → Type 0) → since_sent since ≡ newer ++ (l ∷ rest) → P rest →
    HasOver (since_sent since) l P
over_front since newer rest l P is holds =
    subst (λ ls. HasOver ls l P) (sym is) (has_front newer (l ∷ rest) l P (inl (refl, holds)))

ended_at : (rows : List TableRow) (n : ℕ) (since : List Line) → IsWait (after rows n) → IsAsk (after rows (suc n)) GetLife →
    IsPlain (after rows (suc n)) → IsPlain (after rows (suc (suc n))) → Obeys rows since → done rows since ≡ suc (suc n) →
    WasEnded since
ended_at rows n since wait asks first plain obeys at life is =
    let a = back rows (suc n) GetLife since asks plain obeys at in
    let b = back_wait rows n a.older wait first a.obeys a.at in
    let y_is = read_life a.y a.older life a.fits (sym (read_back life_read quiet_life rows (suc n) GetLife since a) ∙ is) in
    let rest = since_sent a.older in
    let front : since_sent since ≡ a.newer ++ (life_heard life ∷ rest) =
    ap since_sent a.is ∙ sent_quiet a.newer _ a.quiet
    ∙ ap (λ y. a.newer ++ (exchange (Some GetLife) (Some y) ∷ rest)) y_is in
    let left : rest ≡ b.newer ++ (none_left_heard b.events b.paid b.unpaid ∷ since_sent b.older) =
    ap since_sent b.is ∙ sent_quiet b.newer _ b.quiet in (
      b.events,
      b.paid,
      b.unpaid,
      over_front since a.newer rest (life_heard life) (λ older. HaveInTurn older (none_left_heard b.events b.paid b.unpaid ∷ []))
          front
          (over_front a.older b.newer (since_sent b.older) (none_left_heard b.events b.paid b.unpaid) (λ older. ⊤) left tt),
    )

-- a record closes an order
abbrev pub IsClosing : Record → Type 0
IsClosing (record_of.Closed id paid unpaid) = ⊤
IsClosing (record_of.Odd id life_before life_after) = ⊤
IsClosing r = ⊥

opens_none : (addr id count : ℕ) (life : Option ℕ) (r : Record) → open_row addr id count life ≡ puts r → IsClosing r → ⊥
opens_none addr id count None r is closes = absurd cc
opens_none addr id count (Some life) r is closes =
    let same : r ≡ record_of.Opened id addr count life = cc in subst IsClosing same closes

pay_at : (d : DeviceSetup) (addr id count n : ℕ) (means : Judged) (p : Noted) (r : Record) →
    row_at d (command.Pay addr id count) n means p ≡ puts r → IsClosing r → n ≡ 6
pay_at d addr id count zero means p r is closes = absurd cc
pay_at d addr id count (suc zero) means p r is closes = absurd cc
pay_at d addr id count (suc (suc zero)) means p r is closes = absurd (opens_none addr id count p.life r is closes)
pay_at d addr id count (suc (suc (suc zero))) means p r is closes = absurd cc
pay_at d addr id count (suc (suc (suc (suc zero)))) means p r is closes = absurd cc
pay_at d addr id count (suc (suc (suc (suc (suc zero))))) means p r is closes = absurd cc
pay_at d addr id count (suc (suc (suc (suc (suc (suc zero)))))) means p r is closes = refl
pay_at d addr id count (suc (suc (suc (suc (suc (suc (suc n))))))) means p r is closes = absurd cc

settle_at : (d : DeviceSetup) (addr n : ℕ) (means : Judged) (p : Noted) (r : Record) →
    row_at d (command.Settle addr) n means p ≡ puts r → n ≡ 2
settle_at d addr zero means p r is = absurd cc
settle_at d addr (suc zero) means p r is = absurd cc
settle_at d addr (suc (suc zero)) means p r is = refl
settle_at d addr (suc (suc (suc n))) means p r is = absurd cc

-- no other command has one to put
abbrev closes_none : Due → Bool
closes_none order_end = false
closes_none (sale id price) = false
closes_none due = true

judged_closes : (addr : ℕ) (since : List Line) (c : Command) (state : EpochState) →
    JudgedHolds (λ r. IsClosing r → ⊥) (judged_in c since state)
judged_closes addr since c state =
    judged_holds (λ r. IsClosing r → ⊥) (address_of c) state _ _ _ _ (λ counter lost accepts posted closes. closes)
    (λ mask counter lost accepts posted closes. closes)

other_closes : (d : DeviceSetup) (c : Command) (n : ℕ) (means : Judged) (p : Noted) (r : Record) →
    JudgedHolds (λ x. IsClosing x → ⊥) means → puts_only closes_none (rows_of d c) ≡ true → row_at d c n means p ≡ puts r →
    IsClosing r → ⊥
other_closes d c n means p r judged only is =
    subst (RowHolds (λ q. ⊤) (λ x. IsClosing x → ⊥)) is
    (each_put (λ x. IsClosing x → ⊥) closes_none d c n means p only none)
  where
    none : (due : Due) → closes_none due ≡ true → DueHolds (λ x. IsClosing x → ⊥) (address_of c) means p due
    none (new_epoch mask) here = λ accepts read closes. closes
    none reading here = judged
    none epoch_end here = λ closes. closes
    none (new_order id count) here = λ life read closes. closes
    none order_end here = absurd cc
    none (sale id price) here = absurd cc

-- so one that has heard this
pub closing_ended : (d : DeviceSetup) (c : Command) (since : List Line) (state : EpochState) (p : Noted) (r : Record) →
    row_at d c (done (rows_of d c) since) (judged_in c since state) p ≡ puts r → IsClosing r → Obeys (rows_of d c) since →
    WasEnded since
closing_ended d (command.Pay addr id count) since state p r is closes obeys =
    ended_at (rows_of d (command.Pay addr id count)) 4 since tt refl tt tt obeys
    (pay_at d addr id count (done (rows_of d (command.Pay addr id count)) since) _ p r is closes)
closing_ended d (command.Settle addr) since state p r is closes obeys =
    ended_at (rows_of d (command.Settle addr)) 0 since tt refl tt tt obeys
    (settle_at d addr (done (rows_of d (command.Settle addr)) since) _ p r is)
closing_ended d (command.Ident addr) since state p r is closes obeys =
    absurd (other_closes d (command.Ident addr) _ _ p r (judged_closes addr since (command.Ident addr) state)
    (told_only closes_none (ident_requests d.body)) is closes)
closing_ended d c since state p r is closes obeys =
    absurd (other_closes d c (done (rows_of d c) since) _ p r (judged_closes 0 since c state) refl is closes)

-- the lines of a job since its newest wait are among those of its address
cut_within : (l : Line) (since lines : List Line) → Within (since_sent since) (since_sent lines) →
    Within (since_sent (l ∷ since)) (since_sent (l ∷ lines))
cut_within l since lines within = by_test (begins_wait l)
  where
    by_test : (anew : Bool) → Within (cond anew [] (l ∷ since_sent since)) (cond anew [] (l ∷ since_sent lines))
    by_test true = tt
    by_test false = inl (refl, within)

sent_line : (l : Line) (lines : List Line) (c : Command) (since : List Line) (j : Job) →
    ((d : Command) (older : List Line) → j ≡ works d older → Within (since_sent older) (since_sent lines)) →
    with_line l j ≡ works c since → Within (since_sent since) (since_sent (l ∷ lines))
sent_line l lines c since free before is = absurd cc
sent_line l lines c since (works d older) before is =
    let same : l ∷ older ≡ since = cc in
    subst (λ ls. Within (since_sent ls) (since_sent (l ∷ lines))) same (cut_within l older lines (before d older refl))

sent_begun : (a : Command) (lines : List Line) (c : Command) (since : List Line) →
    ((d : Command) (older : List Line) → job lines ≡ works d older → Within (since_sent older) (since_sent lines)) →
    job (taken a ∷ lines) ≡ works c since → Within (since_sent since) (since_sent (taken a ∷ lines))
sent_begun (command.Halt addr) lines c since before is =
    sent_line (taken (command.Halt addr)) lines c since (job lines) before is
sent_begun a lines c since before is =
    let none : [] ≡ since = cc in subst (λ ls. Within (since_sent ls) (since_sent (taken a ∷ lines))) none tt

pub sent_within : (lines : List Line) (c : Command) (since : List Line) → job lines ≡ works c since →
    Within (since_sent since) (since_sent lines)
sent_within [] c since is = absurd cc
sent_within (taken a ∷ lines) c since is = sent_begun a lines c since (sent_within lines) is
sent_within (ended end ∷ lines) c since is = absurd cc
sent_within (restarted ∷ lines) c since is = absurd cc
sent_within (exchange q y ∷ lines) c since is =
    sent_line (exchange q y) lines c since (job lines) (sent_within lines) is
sent_within (scanned check addr rest ∷ lines) c since is =
    sent_line (scanned check addr rest) lines c since (job lines) (sent_within lines) is
sent_within (put r ∷ lines) c since is = sent_line (put r) lines c since (job lines) (sent_within lines) is
sent_within (l ∷ lines) c since is = within_more (since_sent since) (since_sent lines) l (sent_within lines c since is)

ends_within : (since lines : List Line) (life : ℕ) → Within since lines → EndsHeard since life → EndsHeard lines life
ends_within since lines life within heard = (
  heard.0,
  heard.1,
  heard.2,
  turn_within since lines (life_heard life ∷ none_left_heard heard.0 heard.1 heard.2 ∷ []) within heard.3,
)

-- a life count that was read was heard
life_is : (l : Line) (count : ℕ) → life_line l ≡ Some count → l ≡ life_heard count
life_is (exchange (Some GetLife) (Some (reply.life c))) count is = cc
life_is l count is = absurd cc

life_has : (lines : List Line) (count : ℕ) → life_read lines ≡ Some count → Has lines (life_heard count)
life_has [] count is = absurd cc
life_has (l ∷ lines) count is =
    newest life_heard l lines count (life_line l) (life_read lines) (life_is l) (life_has lines count) is

-- an order that is open was opened
more_opened : (l : Line) (lines : List Line) (o : OpenOrder) → WasOpened lines o → WasOpened (l ∷ lines) o
more_opened l lines o opened = inr opened

put_opened : (r : Record) (lines : List Line) (o : OpenOrder) → (order lines ≡ Some o → WasOpened lines o) →
    order (put r ∷ lines) ≡ Some o → WasOpened (put r ∷ lines) o
put_opened (record_of.Opened id addr count life) lines o before is =
    let same : o ≡ record { id = id; addr = addr; count = count; life = life } = cc in
    subst (λ x. WasOpened (put (record_of.Opened id addr count life) ∷ lines) x) (sym same) (inl (refl, tt))
put_opened (record_of.Closed id paid unpaid) lines o before is = absurd cc
put_opened (record_of.Odd id life_before life_after) lines o before is = absurd cc
put_opened r lines o before is = inr (before is)

pub was_opened : (lines : List Line) (o : OpenOrder) → order lines ≡ Some o → WasOpened lines o
was_opened [] o is = absurd cc
was_opened (put r ∷ lines) o is = put_opened r lines o (was_opened lines o) is
was_opened (l ∷ lines) o is = inr (was_opened lines o is)

-- the record that closes an order settles it
fits_count : (a count : ℕ) → nat_le a count ≡ true → a + (count - a) ≡ count
fits_count a count fits = grind (arith, nat_tests)

over_count : (a count : ℕ) → nat_le a count ≡ false → count < a
over_count a count over = grind (arith, nat_tests)

close_settles : (o : OpenOrder) (life : ℕ) → Settles o life (close o life)
close_settles o life =
    closes_so (Settles o life) o life
    (λ fits. (refl, refl, fits_count (life_between o.life life) o.count fits))
    (λ over. (refl, refl, refl, over_count (life_between o.life life) o.count over))

close_is : (o : OpenOrder) (life : ℕ) → IsClosing (close o life)
close_is o life = closes_so IsClosing o life (λ fits. tt) (λ over. tt)

settled_by : (lines : List Line) (o : OpenOrder) (life : ℕ) (r : Record) → order lines ≡ Some o →
    EndsHeard (since_sent lines) life → Settles o life r → ClosedBy WasOpened lines r
settled_by lines o life r is heard settles = record {
  owed = o;
  life = life;
  events = heard.0;
  paid = heard.1;
  unpaid = heard.2;
  is_open = is;
  opened = was_opened lines o is;
  heard = heard.3;
  settles = settles;
}

settled_of : (lines : List Line) (o : OpenOrder) (life : ℕ) (r : Record) → order lines ≡ Some o →
    EndsHeard (since_sent lines) life → Settles o life r → CloseOf WasOpened lines r
settled_of lines o life (record_of.Closed id paid unpaid) is heard settles = settled_by lines o life _ is heard settles
settled_of lines o life (record_of.Odd id life_before life_after) is heard settles =
    settled_by lines o life _ is heard settles
settled_of lines o life r is heard settles = absurd settles

-- what a record closes was heard, if the job that closes it heard its end
abbrev pub ClosesIf : List Line → List Line → Record → Type 0
ClosesIf lines since r = (IsClosing r → WasEnded since) → CloseOf WasOpened lines r

-- so it is of what the row of a job puts
pub row_closes : (lines : List Line) (d : DeviceSetup) (c : Command) (since : List Line) (state : EpochState) →
    Within since (since_taken lines) → Within (since_sent since) (since_sent lines) →
    RowHolds (λ q. ⊤) (ClosesIf lines since) (row d c since state (order lines))
row_closes lines d c since state within cut =
    each_put (ClosesIf lines since) is_at_device d c (done (rows_of d c) since) (judged_in c since state)
    (noted_in since (order lines)) (device_puts d c) due_closes
  where
    due_closes : (due : Due) → is_at_device due ≡ true →
        DueHolds (ClosesIf lines since) (address_of c) (judged_in c since state) (noted_in since (order lines)) due
    due_closes (new_epoch mask) here = λ accepts read given. tt
    due_closes reading here =
        judged_holds (ClosesIf lines since) (address_of c) state _ _ _ _ (λ counter lost accepts posted given. tt)
        (λ mask counter lost accepts posted given. tt)
    due_closes epoch_end here = λ given. tt
    due_closes (new_order id count) here = λ life read given.
        has_all since (since_taken lines) (life_heard life) within (life_has since life read)
    due_closes order_end here = λ o life is read given.
        settled_of lines o life (close o life) is
        (ends_within (since_sent since) (since_sent lines) life cut (given (close_is o life) life read)) (close_settles o life)
    due_closes (sale id price) here = absurd cc
