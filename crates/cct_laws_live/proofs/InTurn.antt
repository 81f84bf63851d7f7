-- A job that has a reading to put heard its four replies in turn, whatever the wire does: the accept counter, the credits,
-- the inhibit mask, and the accept counter again.
use Rattle.std.proofs.Common.{◌≡◌, ℕ, zero, suc, ◌⊎◌, cond, true, false, Bool, List, [], ◌∷◌, ◌++◌, refl, ap, sym, ◌∙◌, subst, Option, Some, None, inl, inr, arith, true≢false}
use Rattle.std.specs.Prelude.{⊤, option_and_then}
use Rattle.std.specs.Option.{option_or}
use Rattle.cct_model.specs.terms.coin.Credits.{Credits}
use Rattle.cct_model.specs.terms.device.DeviceBody.{DeviceBody}
use Rattle.cct_model.specs.terms.device.DeviceBody.TheVariants.{Acceptor, Bill, Hopper}
use Rattle.cct_model.specs.terms.device.DeviceSetup.{DeviceSetup}
use Rattle.cct_model.specs.terms.request.Request.{Request}
use Rattle.cct_model.specs.terms.request.Request.TheVariants.{ReadCredits, GetMask, AcceptCount, ReadBills, Dispense, GetStatus, StopNow}
use Rattle.cct_model.specs.terms.request.ReplyForm.{ReplyForm}
use Rattle.cct_model.specs.terms.wire.CheckKind.{CheckKind}
use Rattle.cct_model.specs.declared.judging.Judged.{Judged}
use Rattle.cct_model.specs.declared.judging.EpochState.{EpochState}
use Rattle.cct_model.specs.declared.judging.OpenOrder.{OpenOrder}
use Rattle.cct_model.specs.lines.record.Record.{Record}
use Rattle.cct_model.specs.lines.record.Record.TheVariants as record_of
use Rattle.cct_model.specs.lines.command.Command.{Command}
use Rattle.cct_model.specs.lines.command.Command.TheVariants as command
use Rattle.cct_model.specs.Message.{Message, message}
use Rattle.cct_model.specs.Request.{form_of}
use Rattle.cct_model.specs.Reply.{Reply, reply_in}
use Rattle.cct_model.specs.Reply as reply
use Rattle.cct_model.specs.Exchange.{after_echo, asked, got, reply_from}
use Rattle.cct_model.specs.Line.{Line, exchange, put, restarted, taken}
use Rattle.cct_model.specs.Order.{close}
use Rattle.cct_model.specs.Job.{sends, puts, Noted, noted_in, state_row, judged_in, address_of, credits_request, ident_requests, settled_events, credits_line, credits_read, mask_line, mask_read, accepts_line, accepts_read, at_credits, accepts_before}
use Rattle.cct_model.specs.Rows.{Due, new_epoch, reading, epoch_end, new_order, order_end, sale, TableRow, asks_for, asks_once, waits_for_coins, puts_due, rows_of, after, from, first, rest, row, row_at, done, ends_first}
use Rattle.cct_model.specs.Transcript.{got_by}
use Rattle.cct_model.proofs.Rows.{RowHolds, DueHolds, puts_only, told_only, each_put}
use Rattle.cct_model.proofs.RowEnds.{rest_asks}
use Rattle.cct_model.proofs.Tries.{due_sends, same_request}
use Rattle.cct_msg.specs.Forms.{form_shown}
use Rattle.cct_msg.proofs.Replies.{reply_form}
use Rattle.cct_laws_live.specs.Posts.{HasOver, HaveInTurn, as_judged, credits_heard, mask_heard, accepts_heard}
use Rattle.cct_laws.proofs.orders.Closes.{closes_so}

-- what the first of these rows asks, and that it puts a record
abbrev pub AsksFirst : List TableRow → Option Request → Type 0
AsksFirst (asks_for q behind ∷ rows) asked = asked ≡ Some q
AsksFirst (asks_once q behind without ∷ rows) asked = asked ≡ Some q
AsksFirst (waits_for_coins ∷ rows) asked = (asked ≡ Some GetStatus) ⊎ (asked ≡ Some StopNow)
AsksFirst rows asked = ⊥

abbrev pub PutsFirst : List TableRow → Type 0
PutsFirst (puts_due due behind ∷ rows) = ⊤
PutsFirst rows = ⊥

-- a reply is in the form that its request wants
abbrev pub FitsForm : Option Request → Option Reply → Type 0
FitsForm (Some q) (Some y) = form_shown y ≡ form_of q
FitsForm asked got = ⊤

-- the only command that is a line of a job is a halt
abbrev pub IsHalt : Command → Type 0
IsHalt (command.Halt addr) = ⊤
IsHalt c = ⊥

-- the lines of a job go by its rows
abbrev pub Obeys : List TableRow → List Line → Type 0
Obeys rows [] = ⊤
Obeys rows (taken c ∷ since) = IsHalt c × Obeys rows since
Obeys rows (restarted ∷ since) = ⊥
Obeys rows (exchange asked got ∷ since) = AsksFirst (after rows (done rows since)) asked × FitsForm asked got × Obeys rows since
Obeys rows (put r ∷ since) = PutsFirst (after rows (done rows since)) × Obeys rows since
Obeys rows (l ∷ since) = Obeys rows since

-- a request dispenses nothing
abbrev pub DosesNone : Option Request → Type 0
DosesNone (Some (Dispense serial count)) = ⊥
DosesNone asked = ⊤

-- a line of a job brings no answer and no record, and sends no dispense
abbrev pub IsQuiet : Line → Type 0
IsQuiet (exchange asked None) = DosesNone asked
IsQuiet (exchange asked (Some y)) = ⊥
IsQuiet (put r) = ⊥
IsQuiet (taken c) = IsHalt c
IsQuiet restarted = ⊥
IsQuiet l = ⊤

abbrev pub AreQuiet : List Line → Type 0
AreQuiet [] = ⊤
AreQuiet (l ∷ ls) = IsQuiet l × AreQuiet ls

-- a row asks this until it is answered
abbrev pub IsAsk : List TableRow → Request → Type 0
IsAsk (asks_for q behind ∷ rows) asked = q ≡ asked
IsAsk rows asked = ⊥

-- an exchange without an end of these rows has no answer, and sends no dispense
abbrev pub IsPlain : List TableRow → Type 0
IsPlain (asks_for q behind ∷ rows) = DosesNone (Some q)
IsPlain (asks_once q behind without ∷ rows) = ⊥
IsPlain (waits_for_coins ∷ rows) = ⊥
IsPlain rows = ⊤

ask_plain : (rows : List TableRow) (q : Request) → DosesNone (Some q) → IsAsk rows q → IsPlain rows
ask_plain (asks_for x behind ∷ rows) q none is = subst (λ a. DosesNone (Some a)) (sym is) none
ask_plain (asks_once x behind without ∷ rows) q none is = absurd is
ask_plain (waits_for_coins ∷ rows) q none is = absurd is
ask_plain rows q none is = tt

pub quiet_stay : (rows : List TableRow) (asked : Option Request) (got : Option Reply) → IsPlain rows → AsksFirst rows asked →
    ends_first rows got ≡ false → IsQuiet (exchange asked got)
quiet_stay (asks_for x behind ∷ rows) asked None plain asks stays = subst DosesNone (sym asks) plain
quiet_stay (asks_for x behind ∷ rows) asked (Some y) plain asks stays = absurd (true≢false stays)
quiet_stay (asks_once x behind without ∷ rows) asked got plain asks stays = absurd plain
quiet_stay (waits_for_coins ∷ rows) asked got plain asks stays = absurd plain
quiet_stay (puts_due due behind ∷ rows) asked got plain asks stays = absurd asks
quiet_stay [] asked got plain asks stays = absurd asks

-- the newest answer, by which a row that asked this ended
pub record Answered (rows : List TableRow) (n : ℕ) (q : Request) (since : List Line) : Type 0 where
  pub y : Reply
  pub newer : List Line
  pub older : List Line
  pub is : since ≡ newer ++ (exchange (Some q) (Some y) ∷ older)
  pub quiet : AreQuiet newer
  pub fits : form_shown y ≡ form_of q
  pub at : done rows older ≡ n
  pub obeys : Obeys rows older

quiet_more : (rows : List TableRow) (n : ℕ) (q : Request) (since : List Line) (l : Line) → IsQuiet l →
    Answered rows n q since → Answered rows n q (l ∷ since)
quiet_more rows n q since l quiet by = record {
  y = by.y;
  newer = l ∷ by.newer;
  older = by.older;
  is = ap (λ ls. l ∷ ls) by.is;
  quiet = (quiet, by.quiet);
  fits = by.fits;
  at = by.at;
  obeys = by.obeys;
}

answered_here : (rows ahead : List TableRow) (n : ℕ) (q : Request) (since : List Line) (asked : Option Request)
    (got : Option Reply) → IsAsk ahead q → AsksFirst ahead asked → ends_first ahead got ≡ true → FitsForm asked got →
    done rows since ≡ n → Obeys rows since → Answered rows n q (exchange asked got ∷ since)
answered_here rows (asks_for x behind ∷ ahead) n q since asked None is asks ends fits at obeys = absurd (true≢false (sym ends))
answered_here rows (asks_for x behind ∷ ahead) n q since asked (Some y) is asks ends fits at obeys =
    let asked_is : asked ≡ Some q = asks ∙ ap Some is in
    record {
      y = y;
      newer = [];
      older = since;
      is = ap (λ a. exchange a (Some y) ∷ since) asked_is;
      quiet = tt;
      fits = subst (λ a. FitsForm a (Some y)) asked_is fits;
      at = at;
      obeys = obeys;
    }
answered_here rows ahead n q since asked got is asks ends fits at obeys = absurd is

pub no_put : (rows : List TableRow) (q : Request) → IsAsk rows q → PutsFirst rows → ⊥
no_put (puts_due due behind ∷ rows) q is puts_it = is
no_put (asks_for x behind ∷ rows) q is puts_it = puts_it
no_put (asks_once x behind without ∷ rows) q is puts_it = puts_it
no_put (waits_for_coins ∷ rows) q is puts_it = puts_it
no_put [] q is puts_it = puts_it

pub less : (m n : ℕ) → suc m ≡ suc n → m ≡ n
less m n is = omega (arith, is)

pub back : (rows : List TableRow) (n : ℕ) (q : Request) (since : List Line) → IsAsk (after rows n) q →
    IsPlain (after rows (suc n)) → Obeys rows since → done rows since ≡ suc n → Answered rows n q since
back rows n q [] ask plain obeys at = absurd (omega (arith, at))
back rows n q (put r ∷ since) ask plain obeys at =
    absurd (no_put (after rows n) q ask (subst (λ m. PutsFirst (after rows m)) (less (done rows since) n at) obeys.0))
back rows n q (exchange asked got ∷ since) ask plain obeys at =
    by_end (ends_first (after rows (done rows since)) got) refl at (λ is. back rows n q since ask plain obeys.2 is)
  where
    by_end : (ends : Bool) → ends_first (after rows (done rows since)) got ≡ ends →
        cond ends (suc (done rows since)) (done rows since) ≡ suc n → (done rows since ≡ suc n → Answered rows n q since) →
        Answered rows n q (exchange asked got ∷ since)
    by_end true test is earlier =
        let here = less (done rows since) n is in
        answered_here rows (after rows n) n q since asked got ask
        (subst (λ m. AsksFirst (after rows m) asked) here obeys.0)
        (subst (λ m. ends_first (after rows m) got ≡ true) here test) obeys.1 here obeys.2
    by_end false test is earlier =
        quiet_more rows n q since (exchange asked got)
        (quiet_stay (after rows (suc n)) asked got plain (subst (λ m. AsksFirst (after rows m) asked) is obeys.0)
        (subst (λ m. ends_first (after rows m) got ≡ false) is test))
        (earlier is)
back rows n q (taken c ∷ since) ask plain obeys at =
    quiet_more rows n q since (taken c) obeys.0 (back rows n q since ask plain obeys.1 at)
back rows n q (restarted ∷ since) ask plain obeys at = absurd obeys
back rows n q (l ∷ since) ask plain obeys at = quiet_more rows n q since l tt (back rows n q since ask plain obeys at)

-- what quiet lines don't change
pub over_quiet : {A : Type 0} (f : List Line → A) → ((l : Line) (ls : List Line) → IsQuiet l → f (l ∷ ls) ≡ f ls) →
    (newer ls : List Line) → AreQuiet newer → f (newer ++ ls) ≡ f ls
over_quiet f same [] ls quiet = refl
over_quiet f same (l ∷ newer) ls quiet = same l (newer ++ ls) quiet.0 ∙ over_quiet f same newer ls quiet.1

pub read_back : {A : Type 0} (f : List Line → A) → ((l : Line) (ls : List Line) → IsQuiet l → f (l ∷ ls) ≡ f ls) →
    (rows : List TableRow) (n : ℕ) (q : Request) (since : List Line) (by : Answered rows n q since) →
    f since ≡ f (exchange (Some q) (Some by.y) ∷ by.older)
read_back f same rows n q since by = ap f by.is ∙ over_quiet f same by.newer _ by.quiet

no_accepts : (asked : Option Request) → accepts_line (exchange asked None) ≡ None
no_accepts None = refl
no_accepts (Some AcceptCount) = refl
no_accepts (Some q) = refl

no_mask : (asked : Option Request) → mask_line (exchange asked None) ≡ None
no_mask None = refl
no_mask (Some GetMask) = refl
no_mask (Some q) = refl

no_credits : (asked : Option Request) → credits_line (exchange asked None) ≡ None
no_credits None = refl
no_credits (Some ReadCredits) = refl
no_credits (Some ReadBills) = refl
no_credits (Some q) = refl

quiet_accepts : (l : Line) (ls : List Line) → IsQuiet l → accepts_read (l ∷ ls) ≡ accepts_read ls
quiet_accepts (exchange asked None) ls quiet = ap (λ x. option_or x (accepts_read ls)) (no_accepts asked)
quiet_accepts (exchange asked (Some y)) ls quiet = absurd quiet
quiet_accepts l ls quiet = refl

quiet_mask : (l : Line) (ls : List Line) → IsQuiet l → mask_read (l ∷ ls) ≡ mask_read ls
quiet_mask (exchange asked None) ls quiet = ap (λ x. option_or x (mask_read ls)) (no_mask asked)
quiet_mask (exchange asked (Some y)) ls quiet = absurd quiet
quiet_mask l ls quiet = refl

quiet_credits : (l : Line) (ls : List Line) → IsQuiet l → credits_read (l ∷ ls) ≡ credits_read ls
quiet_credits (exchange asked None) ls quiet = ap (λ x. option_or x (credits_read ls)) (no_credits asked)
quiet_credits (exchange asked (Some y)) ls quiet = absurd quiet
quiet_credits l ls quiet = refl

quiet_before : (l : Line) (ls : List Line) → IsQuiet l → accepts_before (l ∷ ls) ≡ accepts_before ls
quiet_before (exchange asked None) ls quiet =
    ap (λ x. at_credits x (accepts_read ls) (accepts_before ls)) (no_credits asked)
quiet_before (exchange asked (Some y)) ls quiet = absurd quiet
quiet_before l ls quiet = refl

-- what an answer read
read_accepts : (y : Reply) (older : List Line) (now : ℕ) → form_shown y ≡ form_of AcceptCount →
    accepts_read (exchange (Some AcceptCount) (Some y) ∷ older) ≡ Some now → y ≡ reply.accepts now
unfolding form_of
read_accepts (reply.accepts k) older now fits is = cc
read_accepts y older now fits is = absurd cc

read_mask : (y : Reply) (older : List Line) (seen : ℕ) → form_shown y ≡ form_of GetMask →
    mask_read (exchange (Some GetMask) (Some y) ∷ older) ≡ Some seen → y ≡ reply.mask seen
unfolding form_of
read_mask (reply.mask k) older seen fits is = cc
read_mask y older seen fits is = absurd cc

-- credits as they are judged are those of a reply
record IsReplied (body : DeviceBody) (y : Reply) (judged : Credits) : Type 0 where
  read : Credits
  is : y ≡ reply.credits read
  counter_is : judged.counter ≡ read.counter
  pairs_are : judged.pairs ≡ as_judged body read.pairs

plain_reply : (body : DeviceBody) (read judged : Credits) → judged.counter ≡ read.counter →
    judged.pairs ≡ as_judged body read.pairs → IsReplied body (reply.credits read) judged
plain_reply body read judged counts are = record { read = read; is = refl; counter_is = counts; pairs_are = are }

read_credits : (body : DeviceBody) (y : Reply) (older : List Line) (judged : Credits) →
    form_shown y ≡ form_of (credits_request body) →
    credits_read (exchange (Some (credits_request body)) (Some y) ∷ older) ≡ Some judged → IsReplied body y judged
unfolding form_of
read_credits (Acceptor accepts values ids) (reply.credits k) older judged fits is =
    let same : judged ≡ k = cc in
    plain_reply _ k judged (ap (λ c. c.counter) same) (ap (λ c. c.pairs) same)
read_credits (Acceptor accepts values ids) y older judged fits is = absurd cc
read_credits (Hopper life value) (reply.credits k) older judged fits is =
    let same : judged ≡ k = cc in
    plain_reply _ k judged (ap (λ c. c.counter) same) (ap (λ c. c.pairs) same)
read_credits (Hopper life value) y older judged fits is = absurd cc
read_credits (Bill accepts values ids) (reply.credits k) older judged fits is =
    let same : judged ≡ settled_events k = cc in
    plain_reply _ k judged (ap (λ c. c.counter) same) (ap (λ c. c.pairs) same)
read_credits (Bill accepts values ids) y older judged fits is = absurd cc

before_credits : (body : DeviceBody) (y : Reply) (older : List Line) (first : ℕ) →
    form_shown y ≡ form_of (credits_request body) →
    accepts_before (exchange (Some (credits_request body)) (Some y) ∷ older) ≡ Some first → accepts_read older ≡ Some first
unfolding form_of
before_credits (Acceptor accepts values ids) (reply.credits k) older first fits is = is
before_credits (Acceptor accepts values ids) y older first fits is = absurd cc
before_credits (Hopper life value) (reply.credits k) older first fits is = is
before_credits (Hopper life value) y older first fits is = absurd cc
before_credits (Bill accepts values ids) (reply.credits k) older first fits is = is
before_credits (Bill accepts values ids) y older first fits is = absurd cc

-- replies were heard in turn, among them credits that are judged as these
abbrev pub HeardAs : DeviceBody → List Line → ℕ → ℕ → Credits → ℕ → Type 0
HeardAs body lines now seen judged first =
    (read : Credits) × (judged.counter ≡ read.counter) × (judged.pairs ≡ as_judged body read.pairs)
    × HaveInTurn lines (accepts_heard now ∷ mask_heard seen ∷ credits_heard body read ∷ accepts_heard first ∷ [])

-- the replies of a job were
abbrev pub InTurn : DeviceBody → List Line → Type 0
InTurn body since =
    (first seen now : ℕ) (judged : Credits) → accepts_read since ≡ Some now → mask_read since ≡ Some seen →
    credits_read since ≡ Some judged → accepts_before since ≡ Some first → HeardAs body since now seen judged first

pub has_front : (newer ls : List Line) (l : Line) (P : List Line → Type 0) → HasOver ls l P → HasOver (newer ++ ls) l P
has_front [] ls l P has = has
has_front (x ∷ newer) ls l P has = inr (has_front newer ls l P has)

turn_over : (rows : List TableRow) (n : ℕ) (q : Request) (since before : List Line) (y : Reply)
    (by : Answered rows n q since) → by.y ≡ y → HaveInTurn by.older before →
    HaveInTurn since (exchange (Some q) (Some y) ∷ before)
turn_over rows n q since before y by same turn =
    subst (λ ls. HaveInTurn ls (exchange (Some q) (Some y) ∷ before)) (sym by.is)
    (has_front by.newer (exchange (Some q) (Some by.y) ∷ by.older) (exchange (Some q) (Some y))
    (λ older. HaveInTurn older before) (inl (ap (λ r. exchange (Some q) (Some r)) same, turn)))

in_turn : (body : DeviceBody) (rows : List TableRow) (n : ℕ) (since : List Line)
    (d : Answered rows (suc (suc (suc n))) AcceptCount since) (c : Answered rows (suc (suc n)) GetMask d.older)
    (b : Answered rows (suc n) (credits_request body) c.older) (a : Answered rows n AcceptCount b.older) → InTurn body since
in_turn body rows n since d c b a first seen now judged counts sees reads was =
    let now_is = read_accepts d.y d.older now d.fits (sym (read_back accepts_read quiet_accepts rows _ AcceptCount since d) ∙ counts) in
    let seen_is = read_mask c.y c.older seen c.fits
    (sym (read_back mask_read quiet_mask rows _ AcceptCount since d ∙ read_back mask_read quiet_mask rows _ GetMask d.older c) ∙ sees) in
    let replied = read_credits body b.y b.older judged b.fits
    (sym (read_back credits_read quiet_credits rows _ AcceptCount since d
    ∙ read_back credits_read quiet_credits rows _ GetMask d.older c
    ∙ read_back credits_read quiet_credits rows _ (credits_request body) c.older b) ∙ reads) in
    let was_read = before_credits body b.y b.older first b.fits
    (sym (read_back accepts_before quiet_before rows _ AcceptCount since d
    ∙ read_back accepts_before quiet_before rows _ GetMask d.older c
    ∙ read_back accepts_before quiet_before rows _ (credits_request body) c.older b) ∙ was) in
    let first_is = read_accepts a.y a.older first a.fits
    (sym (read_back accepts_read quiet_accepts rows _ AcceptCount b.older a) ∙ was_read) in (
      replied.read,
      replied.counter_is,
      replied.pairs_are,
      turn_over rows _ AcceptCount since (mask_heard seen ∷ credits_heard body replied.read ∷ accepts_heard first ∷ [])
          (reply.accepts now) d now_is
          (turn_over rows _ GetMask d.older (credits_heard body replied.read ∷ accepts_heard first ∷ []) (reply.mask seen) c seen_is
          (turn_over rows _ (credits_request body) c.older (accepts_heard first ∷ []) (reply.credits replied.read) b replied.is
          (turn_over rows _ AcceptCount b.older [] (reply.accepts first) a first_is tt))),
    )

credits_dose_none : (body : DeviceBody) → DosesNone (Some (credits_request body))
credits_dose_none (Acceptor accepts values ids) = tt
credits_dose_none (Hopper life value) = tt
credits_dose_none (Bill accepts values ids) = tt

turn_at : (body : DeviceBody) (rows : List TableRow) (n : ℕ) (since : List Line) → IsAsk (after rows n) AcceptCount →
    IsAsk (after rows (suc n)) (credits_request body) → IsAsk (after rows (suc (suc n))) GetMask →
    IsAsk (after rows (suc (suc (suc n)))) AcceptCount → IsPlain (after rows (suc (suc (suc (suc n))))) →
    Obeys rows since → done rows since ≡ suc (suc (suc (suc n))) → InTurn body since
turn_at body rows n since first reads sees counts plain obeys at =
    let d = back rows (suc (suc (suc n))) AcceptCount since counts plain obeys at in
    let c = back rows (suc (suc n)) GetMask d.older sees (ask_plain (after rows (suc (suc (suc n)))) AcceptCount tt counts) d.obeys d.at in
    let b = back rows (suc n) (credits_request body) c.older reads (ask_plain (after rows (suc (suc n))) GetMask tt sees) c.obeys c.at in
    let a = back rows n AcceptCount b.older first (ask_plain (after rows (suc n)) (credits_request body) (credits_dose_none body) reads) b.obeys b.at in
    in_turn body rows n since d c b a

-- a record is a reading or a break
abbrev pub IsReading : Record → Type 0
IsReading (record_of.Reading addr counter lost accepts posted) = ⊤
IsReading (record_of.Broken addr seen counter lost accepts posted) = ⊤
IsReading r = ⊥

round_at : (d : DeviceSetup) (addr n : ℕ) (means : Judged) (p : Noted) (r : Record) →
    row_at d (command.Round addr) n means p ≡ puts r → n ≡ 4
round_at d addr zero means p r is = absurd cc
round_at d addr (suc zero) means p r is = absurd cc
round_at d addr (suc (suc zero)) means p r is = absurd cc
round_at d addr (suc (suc (suc zero))) means p r is = absurd cc
round_at d addr (suc (suc (suc (suc zero)))) means p r is = refl
round_at d addr (suc (suc (suc (suc (suc n))))) means p r is = absurd cc

ends_epoch : (addr : ℕ) (r : Record) → puts (record_of.EpochEnd addr) ≡ puts r → IsReading r → ⊥
ends_epoch addr r is reads = let same : r ≡ record_of.EpochEnd addr = cc in subst IsReading same reads

stop_at : (d : DeviceSetup) (addr n : ℕ) (means : Judged) (p : Noted) (r : Record) →
    row_at d (command.Stop addr) n means p ≡ puts r → IsReading r → n ≡ 5
stop_at d addr zero means p r is reads = absurd cc
stop_at d addr (suc zero) means p r is reads = absurd cc
stop_at d addr (suc (suc zero)) means p r is reads = absurd cc
stop_at d addr (suc (suc (suc zero))) means p r is reads = absurd cc
stop_at d addr (suc (suc (suc (suc zero)))) means p r is reads = absurd cc
stop_at d addr (suc (suc (suc (suc (suc zero))))) means p r is reads = refl
stop_at d addr (suc (suc (suc (suc (suc (suc zero)))))) means p r is reads = absurd (ends_epoch addr r is reads)
stop_at d addr (suc (suc (suc (suc (suc (suc (suc n))))))) means p r is reads = absurd cc

-- no other command has a reading to put
abbrev is_other : Due → Bool
is_other reading = false
is_other (sale id price) = false
is_other due = true

close_none : (o : OpenOrder) (life : ℕ) → IsReading (close o life) → ⊥
close_none o life = closes_so (λ r. IsReading r → ⊥) o life (λ fits reads. reads) (λ over reads. reads)

pub other_none : (d : DeviceSetup) (c : Command) (n : ℕ) (means : Judged) (p : Noted) (r : Record) →
    puts_only is_other (rows_of d c) ≡ true → row_at d c n means p ≡ puts r → IsReading r → ⊥
other_none d c n means p r only is =
    subst (RowHolds (λ q. ⊤) (λ x. IsReading x → ⊥)) is
    (each_put (λ x. IsReading x → ⊥) is_other d c n means p only none)
  where
    none : (due : Due) → is_other due ≡ true → DueHolds (λ x. IsReading x → ⊥) (address_of c) means p due
    none (new_epoch mask) here = λ accepts read reads. reads
    none reading here = absurd cc
    none epoch_end here = λ reads. reads
    none (new_order id count) here = λ life read reads. reads
    none order_end here = λ o life owed read. close_none o life
    none (sale id price) here = absurd cc

-- so one that has heard its replies in turn
pub reading_turn : (d : DeviceSetup) (c : Command) (since : List Line) (means : Judged) (p : Noted) (r : Record) →
    row_at d c (done (rows_of d c) since) means p ≡ puts r → IsReading r → Obeys (rows_of d c) since →
    InTurn d.body since
reading_turn d (command.Round addr) since means p r is reads obeys =
    turn_at d.body (rows_of d (command.Round addr)) 0 since refl refl refl refl tt obeys
    (round_at d addr (done (rows_of d (command.Round addr)) since) means p r is)
reading_turn d (command.Stop addr) since means p r is reads obeys =
    turn_at d.body (rows_of d (command.Stop addr)) 1 since refl refl refl refl tt obeys
    (stop_at d addr (done (rows_of d (command.Stop addr)) since) means p r is reads)
reading_turn d (command.Ident addr) since means p r is reads obeys =
    absurd (other_none d (command.Ident addr) _ means p r (told_only is_other (ident_requests d.body)) is reads)
reading_turn d c since means p r is reads obeys = absurd (other_none d c (done (rows_of d c) since) means p r refl is reads)

-- what a job asks and puts goes by its rows
state_by : (marked : Bool) (q : Request) → state_row marked ≡ sends q → (Some q ≡ Some GetStatus) ⊎ (Some q ≡ Some StopNow)
state_by true q is = inr (ap Some (sym (same_request StopNow q is)))
state_by false q is = inl (ap Some (sym (same_request GetStatus q is)))

asks_by : (addr : ℕ) (means : Judged) (p : Noted) (rows : List TableRow) (q : Request) → first addr means p rows ≡ sends q →
    AsksFirst rows (Some q)
asks_by addr means p [] q is = absurd cc
asks_by addr means p (asks_for x behind ∷ rows) q is = ap Some (sym (same_request x q is))
asks_by addr means p (asks_once x behind without ∷ rows) q is = ap Some (sym (same_request x q is))
asks_by addr means p (waits_for_coins ∷ rows) q is = state_by p.is_marked q is
asks_by addr means p (puts_due due behind ∷ rows) q is = absurd (due_sends addr means p due q is)

state_asks : (marked : Bool) (r : Record) → state_row marked ≡ puts r → ⊥
state_asks true r is = cc
state_asks false r is = cc

puts_by : (addr : ℕ) (means : Judged) (p : Noted) (rows : List TableRow) (r : Record) →
    first addr means p (from rows means) ≡ puts r → PutsFirst rows
puts_by addr means p [] r is = absurd cc
puts_by addr means p (asks_for x behind ∷ rows) r is = absurd cc
puts_by addr means p (asks_once x behind without ∷ rows) r is = absurd cc
puts_by addr means p (waits_for_coins ∷ rows) r is = absurd (state_asks p.is_marked r is)
puts_by addr means p (puts_due due behind ∷ rows) r is = tt

from_cond : (b : Bool) (form : ReplyForm) (body : List ℕ) (y : Reply) → cond b (reply_in form body) None ≡ Some y →
    form_shown y ≡ Some form
from_cond true form body y e = reply_form form body y e
from_cond false form body y e = absurd cc

from_message : (form : ReplyForm) (addr : ℕ) (m : Option Message) (y : Reply) →
    option_and_then (reply_from form addr) m ≡ Some y → form_shown y ≡ Some form
from_message form addr None y e = absurd cc
from_message form addr (Some m) y e = from_cond _ form m.body y e

from_rest : (kind : CheckKind) (form : ReplyForm) (addr : ℕ) (after_it : Option (List ℕ)) (y : Reply) →
    option_and_then (λ piece. option_and_then (reply_from form addr) (message kind piece)) after_it ≡ Some y →
    form_shown y ≡ Some form
from_rest kind form addr None y e = absurd cc
from_rest kind form addr (Some piece) y e = from_message form addr (message kind piece) y e

got_form : (kind : CheckKind) (addr : ℕ) (form : ReplyForm) (sent heard : List ℕ) (y : Reply) →
    got kind addr form sent heard ≡ Some y → form_shown y ≡ Some form
unfolding got
got_form kind addr form sent heard y e = from_rest kind form addr (after_echo sent heard) y e

wanted_form : (kind : CheckKind) (addr : ℕ) (form : Option ReplyForm) (sent heard : List ℕ) (y : Reply) →
    option_and_then (λ f. got kind addr f sent heard) form ≡ Some y → form_shown y ≡ form
wanted_form kind addr None sent heard y e = absurd cc
wanted_form kind addr (Some form) sent heard y e = got_form kind addr form sent heard y e

pub fits_by : (d : DeviceSetup) (sent piece : List ℕ) (q : Request) (found : Option Reply) → asked d.kind sent ≡ Some q →
    got_by d sent piece ≡ found → FitsForm (Some q) found
unfolding got_by
fits_by d sent piece q None asks is = tt
fits_by d sent piece q (Some y) asks is =
    wanted_form d.kind d.addr (form_of q) sent piece y
    (sym (ap (λ a. option_and_then (λ f. got d.kind d.addr f sent piece) (option_and_then form_of a)) asks) ∙ is)

pub obeys_asked : (d : DeviceSetup) (c : Command) (since : List Line) (state : EpochState) (owed : Option OpenOrder)
    (q : Request) (sent piece : List ℕ) → row d c since state owed ≡ sends q → asked d.kind sent ≡ Some q →
    Obeys (rows_of d c) since → Obeys (rows_of d c) (exchange (Some q) (got_by d sent piece) ∷ since)
obeys_asked d c since state owed q sent piece is asks obeys = (
  asks_by (address_of c) (judged_in c since state) (noted_in since owed) (rest d c since) q
      (rest_asks d c since state owed q is),
  fits_by d sent piece q (got_by d sent piece) asks refl,
  obeys,
)

pub obeys_put : (d : DeviceSetup) (c : Command) (since : List Line) (state : EpochState) (owed : Option OpenOrder)
    (r : Record) → row d c since state owed ≡ puts r → Obeys (rows_of d c) since → Obeys (rows_of d c) (put r ∷ since)
obeys_put d c since state owed r is obeys =
    (puts_by (address_of c) (judged_in c since state) (noted_in since owed) (rest d c since) r is, obeys)
