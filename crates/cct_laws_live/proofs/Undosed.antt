-- The lines of an address after a past, and after what it shows: they are the same but for the dispenses that a hopper took
-- and the bills that a bill acceptor stacked, which what was sent and what was posted don't go by.
use Rattle.std.proofs.Common.{◌≡◌, inl, inr, ℕ, ◌≤◌, max, ◌==◌, Bool, true, false, cond, List, [], ◌∷◌, ◌++◌, refl, sym, ap, ◌∙◌, subst, Option}
use Rattle.std.specs.Prelude.{⊤}
use Rattle.cct_model.specs.terms.coin.Coin.{Coin}
use Rattle.cct_model.specs.terms.device.DeviceBody.{DeviceBody}
use Rattle.cct_model.specs.terms.device.DeviceSetup.{DeviceSetup}
use Rattle.cct_model.specs.terms.request.Request.{Request}
use Rattle.cct_model.specs.lines.record.Record.{Record}
use Rattle.cct_model.specs.lines.record.Record.TheVariants as record_of
use Rattle.cct_model.specs.lines.command.Command.TheVariants as command
use Rattle.cct_model.specs.lines.entry.Entry.{Entry}
use Rattle.cct_model.specs.lines.entry.Entry.TheVariants as entry
use Rattle.cct_model.specs.Exchange.{asked, asks_of}
use Rattle.cct_model.specs.Job.{epoch, epoch_by}
use Rattle.cct_model.specs.Line.{Line, accepted, dispensed, exchange, put, restarted, taken}
use Rattle.cct_model.specs.Order.{order}
use Rattle.cct_model.specs.Paid.{anew_by}
use Rattle.cct_model.specs.Records.{owner_in, records}
use Rattle.cct_model.specs.Reply.{Reply}
use Rattle.cct_model.specs.Transcript.{doses_of, got_by, heard_by_devices, lines_of, met, onto, own, pending}
use Rattle.cct_model.proofs.Doses as model
use Rattle.cct_laws.specs.Law.{EachEntry, IsOf, lines_in}
use Rattle.cct_laws_live.specs.Live.{EachLive, shown}
use Rattle.cct_laws_live.specs.Posts.{Has, HasOver, HaveInTurn, accepts_heard, credits_heard, mask_heard, PostAt, PostOf, PostedBy, since_taken}
use Rattle.cct_laws_live.specs.Sends.{SentAt, SentBy, one_by, sent_in}
use Rattle.cct_laws_live.proofs.Carrying.{by_law, each_shown}
use Rattle.cct_laws_live.proofs.Followed.{alike_shown}
use Rattle.cct_laws_live.proofs.Onward.{order_same}
use Rattle.cct_laws_live.proofs.Posting.{legal_posts}
use Rattle.cct_laws_live.proofs.Recording.{recorded_shown}
use Rattle.cct_laws_live.proofs.Sends.{legal_few_sent, legal_sent}

-- lines without the dispenses that were taken and without what was accepted
abbrev pub undosed : List Line → List Line
undosed [] = []
undosed (dispensed count ∷ lines) = undosed lines
undosed (accepted coin ∷ lines) = undosed lines
undosed (l ∷ lines) = l ∷ undosed lines

undosed_on : (front lines : List Line) → undosed (front ++ lines) ≡ undosed front ++ undosed lines
undosed_on [] lines = refl
undosed_on (dispensed count ∷ front) lines = undosed_on front lines
undosed_on (accepted coin ∷ front) lines = undosed_on front lines
undosed_on (l ∷ front) lines = ap (λ ls. l ∷ ls) (undosed_on front lines)

-- the same but for these
abbrev pub SameUndosed : List Line → List Line → Type 0
SameUndosed lines others = undosed lines ≡ undosed others

front_same : (front lines others : List Line) → SameUndosed lines others → SameUndosed (front ++ lines) (front ++ others)
front_same front lines others same =
    undosed_on front lines ∙ ap (λ ls. undosed front ++ ls) same ∙ sym (undosed_on front others)

dosed_same : (d : DeviceSetup) (past : List Entry) (sent : List ℕ) →
    SameUndosed (doses_of d past sent ++ lines_of d past) (lines_of d past)
dosed_same d past sent =
    model.undosed undosed (record { dosed = λ count lines. refl; stacked = λ coin lines. refl })
    d.body d.serial (met d past) (asks_of d (heard_by_devices (pending past) sent)) (lines_of d past)

wire_same : (here : Bool) (q : Option Request) (y : Option Reply) (first second lines others : List Line) →
    SameUndosed (first ++ lines) (second ++ others) →
    SameUndosed ((cond here (exchange q y ∷ []) [] ++ first) ++ lines) ((cond here (exchange q y ∷ []) [] ++ second) ++ others)
wire_same true q y first second lines others same = ap (λ ls. exchange q y ∷ ls) same
wire_same false q y first second lines others same = same

put_same : (addr : ℕ) (r : Record) (before after : List Record) (lines others : List Line) → before ≡ after →
    SameUndosed lines others →
    SameUndosed (cond (owner_in before r == addr) (put r ∷ []) [] ++ lines) (cond (owner_in after r == addr) (put r ∷ []) [] ++ others)
put_same addr r before after lines others recorded same =
    ap (λ rs. undosed (cond (owner_in rs r == addr) (put r ∷ []) [] ++ lines)) recorded
    ∙ front_same (cond (owner_in after r == addr) (put r ∷ []) []) lines others same

-- after a past, and after what it shows
pub lines_shown : (d : DeviceSetup) (past : List Entry) → SameUndosed (lines_of d past) (lines_of d (shown past))
lines_shown d [] = refl
lines_shown d (entry.Fault f ∷ past) = lines_shown d past
lines_shown d (entry.Forged addr ∷ past) = lines_shown d past
lines_shown d (entry.Wire addr sent piece ∷ past) =
    wire_same (addr == d.addr) (asked d.kind sent) (got_by d sent piece) (doses_of d past sent)
    (doses_of d (shown past) sent) (lines_of d past) (lines_of d (shown past))
    (dosed_same d past sent ∙ lines_shown d past ∙ sym (dosed_same d (shown past) sent))
lines_shown d (entry.Put r ∷ past) =
    put_same d.addr r (records past) (records (shown past)) (lines_of d past) (lines_of d (shown past))
    (alike_shown past).recorded (lines_shown d past)
lines_shown d (entry.Kept r ∷ past) =
    put_same d.addr r (records past) (records (shown past)) (lines_of d past) (lines_of d (shown past))
    (alike_shown past).recorded (lines_shown d past)
lines_shown d (entry.Accepted addr c ∷ past) =
    front_same (own d [] (entry.Accepted addr c)) (lines_of d past) (lines_of d (shown past)) (lines_shown d past)
lines_shown d (entry.Inhibited addr place ∷ past) =
    front_same (own d [] (entry.Inhibited addr place)) (lines_of d past) (lines_of d (shown past)) (lines_shown d past)
lines_shown d (entry.Alien addr ∷ past) =
    front_same (own d [] (entry.Alien addr)) (lines_of d past) (lines_of d (shown past)) (lines_shown d past)
lines_shown d (entry.Fell addr ∷ past) =
    front_same (own d [] (entry.Fell addr)) (lines_of d past) (lines_of d (shown past)) (lines_shown d past)
lines_shown d (entry.Reset addr ∷ past) =
    front_same (own d [] (entry.Reset addr)) (lines_of d past) (lines_of d (shown past)) (lines_shown d past)
lines_shown d (entry.Taken c ∷ past) =
    front_same (own d [] (entry.Taken c)) (lines_of d past) (lines_of d (shown past)) (lines_shown d past)
lines_shown d (entry.Ended addr end ∷ past) =
    front_same (own d [] (entry.Ended addr end)) (lines_of d past) (lines_of d (shown past)) (lines_shown d past)
lines_shown d (entry.Crash n ∷ past) =
    front_same (own d [] (entry.Crash n)) (lines_of d past) (lines_of d (shown past)) (lines_shown d past)
lines_shown d (e ∷ past) = lines_shown d past

-- how many dispenses were sent
sent_undosed : (lines : List Line) → sent_in lines ≡ sent_in (undosed lines)
sent_undosed [] = refl
sent_undosed (dispensed count ∷ lines) = sent_undosed lines
sent_undosed (accepted coin ∷ lines) = sent_undosed lines
sent_undosed (exchange q y ∷ lines) = ap (one_by q) (sent_undosed lines)
sent_undosed (put r ∷ lines) = ap (anew_by r) (sent_undosed lines)
sent_undosed (restarted ∷ lines) = ap (max 1) (sent_undosed lines)
sent_undosed (l ∷ lines) = sent_undosed lines

pub sent_shown : (d : DeviceSetup) (past : List Entry) → sent_in (lines_of d past) ≡ sent_in (lines_of d (shown past))
sent_shown d past =
    sent_undosed (lines_of d past) ∙ ap sent_in (lines_shown d past) ∙ sym (sent_undosed (lines_of d (shown past)))

-- the epoch, and the lines since a command
epoch_undosed : (lines : List Line) → epoch lines ≡ epoch (undosed lines)
epoch_undosed [] = refl
epoch_undosed (dispensed count ∷ lines) = epoch_undosed lines
epoch_undosed (accepted coin ∷ lines) = epoch_undosed lines
epoch_undosed (put r ∷ lines) = ap (epoch_by r) (epoch_undosed lines)
epoch_undosed (l ∷ lines) = epoch_undosed lines

since_undosed : (lines : List Line) → undosed (since_taken lines) ≡ since_taken (undosed lines)
since_undosed [] = refl
since_undosed (dispensed count ∷ lines) = since_undosed lines
since_undosed (accepted coin ∷ lines) = since_undosed lines
since_undosed (restarted ∷ lines) = refl
since_undosed (taken (command.Halt addr) ∷ lines) = ap (λ ls. taken (command.Halt addr) ∷ ls) (since_undosed lines)
since_undosed (taken c ∷ lines) = refl
since_undosed (l ∷ lines) = ap (λ ls. l ∷ ls) (since_undosed lines)

-- an exchange is among lines as it is among them without these
over_undosed : (q : Option Request) (y : Option Reply) (P Q : List Line → Type 0) →
    ((older : List Line) → P older → Q (undosed older)) → (lines : List Line) → HasOver lines (exchange q y) P →
    HasOver (undosed lines) (exchange q y) Q
over_undosed q y P Q over [] has = absurd has
over_undosed q y P Q over (dispensed count ∷ lines) has = elim has [
  | inl here ↦ absurd (cc here.0)
  | inr older ↦ over_undosed q y P Q over lines older
]
over_undosed q y P Q over (accepted coin ∷ lines) has = elim has [
  | inl here ↦ absurd (cc here.0)
  | inr older ↦ over_undosed q y P Q over lines older
]
over_undosed q y P Q over (l ∷ lines) has = elim has [
  | inl here ↦ inl (here.0, over lines here.1)
  | inr older ↦ inr (over_undosed q y P Q over lines older)
]

over_dosed : (q : Option Request) (y : Option Reply) (P Q : List Line → Type 0) →
    ((older : List Line) → P (undosed older) → Q older) → (lines : List Line) → HasOver (undosed lines) (exchange q y) P →
    HasOver lines (exchange q y) Q
over_dosed q y P Q over [] has = absurd has
over_dosed q y P Q over (dispensed count ∷ lines) has = inr (over_dosed q y P Q over lines has)
over_dosed q y P Q over (accepted coin ∷ lines) has = inr (over_dosed q y P Q over lines has)
over_dosed q y P Q over (l ∷ lines) has = elim has [
  | inl here ↦ inl (here.0, over lines here.1)
  | inr older ↦ inr (over_dosed q y P Q over lines older)
]

has_undosed : (q : Option Request) (y : Option Reply) (lines : List Line) → Has lines (exchange q y) → Has (undosed lines) (exchange q y)
has_undosed q y lines has = over_undosed q y (λ older. ⊤) (λ older. ⊤) (λ older any. tt) lines has

has_dosed : (q : Option Request) (y : Option Reply) (lines : List Line) → Has (undosed lines) (exchange q y) → Has lines (exchange q y)
has_dosed q y lines has = over_dosed q y (λ older. ⊤) (λ older. ⊤) (λ older any. tt) lines has

-- so it is among lines that are the same but for these
pub since_same : (lines others : List Line) → SameUndosed lines others → SameUndosed (since_taken lines) (since_taken others)
since_same lines others same = since_undosed lines ∙ ap since_taken same ∙ sym (since_undosed others)

pub has_same : (q : Option Request) (y : Option Reply) (lines others : List Line) → SameUndosed lines others →
    Has lines (exchange q y) → Has others (exchange q y)
has_same q y lines others same has =
    has_dosed q y others (subst (λ ls. Has ls (exchange q y)) same (has_undosed q y lines has))

-- so are exchanges in turn
abbrev AreExchanges : List Line → Type 0
AreExchanges [] = ⊤
AreExchanges (exchange q y ∷ ls) = AreExchanges ls
AreExchanges (l ∷ ls) = ⊥

pub turn_same : (lines others before : List Line) → AreExchanges before → SameUndosed lines others → HaveInTurn lines before →
    HaveInTurn others before
turn_same lines others [] are same turn = tt
turn_same lines others (exchange q y ∷ before) are same turn =
    over_dosed q y OverAll (λ older. HaveInTurn older before) (λ older holds. holds older refl) others
    (subst (λ ls. HasOver ls (exchange q y) OverAll) same
    (over_undosed q y (λ older. HaveInTurn older before) OverAll
    (λ older holds all is. turn_same older all before are is holds) lines turn))
  where
    OverAll : List Line → Type 0
    OverAll ls = (all : List Line) → ls ≡ undosed all → HaveInTurn all before
turn_same lines others (l ∷ before) are same turn = absurd are

-- what a record posts
posted_same : (body : DeviceBody) (lines others : List Line) (breaks : Bool) (first seen counter lost accepts : ℕ) (posted : List Coin) →
    SameUndosed lines others → PostedBy body lines breaks first seen counter lost accepts posted →
    PostedBy body others breaks first seen counter lost accepts posted
posted_same body lines others breaks first seen counter lost accepts posted same by =
    let since = since_same lines others same in
    record {
      mask = by.mask;
      before = by.before;
      earlier = by.earlier;
      read = by.read;
      runs = sym (epoch_undosed lines ∙ ap epoch same ∙ sym (epoch_undosed others)) ∙ by.runs;
      heard =
          turn_same (since_taken lines) (since_taken others)
          (accepts_heard accepts ∷ mask_heard seen ∷ credits_heard body by.read ∷ accepts_heard first ∷ []) tt
          since by.heard;
      counter_is = by.counter_is;
      shows = by.shows;
      posted_is = by.posted_is;
      lost_is = by.lost_is;
    }

post_same : (body : DeviceBody) (lines others : List Line) (r : Record) → SameUndosed lines others → PostOf body lines r →
    PostOf body others r
post_same body lines others (record_of.Epoch addr mask accepts) same of =
    has_same _ _ (since_taken lines) (since_taken others) (since_same lines others same) of
post_same body lines others (record_of.Reading addr counter lost accepts posted) same of =
    (of.0, posted_same body lines others false accepts of.0 counter lost accepts posted same of.1)
post_same body lines others (record_of.Broken addr seen counter lost accepts posted) same of =
    (of.0, posted_same body lines others true of.0 seen counter lost accepts posted same of.1)
post_same body lines others r same of = tt

pub posts_shown : (d : DeviceSetup) (past : List Entry) (e : Entry) → PostAt d past e → PostAt d (shown past) e
posts_shown d =
    recorded_shown (PostOf d.body) (PostOf d.body) d
    (λ past r of. post_same d.body (lines_of d past) (lines_of d (shown past)) r (lines_shown d past) of)

pub live_posts : EachLive (λ capacity setup transcript. (d : DeviceSetup) → IsOf setup d →
    EachEntry (PostAt d) (onto [] transcript))
live_posts =
    by_law (λ capacity setup past. (d : DeviceSetup) → IsOf setup d → EachEntry (PostAt d) past)
    (λ capacity setup steps transcript sound range legal d own. legal_posts capacity setup steps transcript d sound own legal)
    (λ capacity setup past each d own. each_shown (PostAt d) (posts_shown d) past (each d own))

-- what is sent
by_sent : (d : DeviceSetup) (past : List Entry) (q : Option Request) →
    SentBy d (sent_in (lines_of d past)) (order (lines_of d past)) q →
    SentBy d (sent_in (lines_of d (shown past))) (order (lines_of d (shown past))) q
by_sent d past q by =
    subst (λ owed. SentBy d (sent_in (lines_of d (shown past))) owed q) (order_same d past (shown past) (alike_shown past))
    (subst (λ sent. SentBy d sent (order (lines_of d past)) q) (sent_shown d past) by)

pub sends_shown : (d : DeviceSetup) (past : List Entry) (e : Entry) → SentAt d past e → SentAt d (shown past) e
sends_shown d past (entry.Wire addr sent piece) at = λ here. by_sent d past (asked d.kind sent) (at here)
sends_shown d past e at = tt

pub live_sent : EachLive (λ capacity setup transcript. (d : DeviceSetup) → IsOf setup d →
    EachEntry (SentAt d) (onto [] transcript))
live_sent =
    by_law (λ capacity setup past. (d : DeviceSetup) → IsOf setup d → EachEntry (SentAt d) past)
    (λ capacity setup steps transcript sound range legal d own. legal_sent capacity setup steps transcript d sound own legal)
    (λ capacity setup past each d own. each_shown (SentAt d) (sends_shown d) past (each d own))

pub live_few_sent : EachLive (λ capacity setup transcript. (d : DeviceSetup) → IsOf setup d →
    sent_in (lines_in d transcript) ≤ 1)
live_few_sent =
    by_law (λ capacity setup past. (d : DeviceSetup) → IsOf setup d → sent_in (lines_of d past) ≤ 1)
    (λ capacity setup steps transcript sound range legal d own.
    legal_few_sent capacity setup steps transcript d sound own legal)
    (λ capacity setup past few d own. subst (λ many. many ≤ 1) (sent_shown d past) (few d own))
