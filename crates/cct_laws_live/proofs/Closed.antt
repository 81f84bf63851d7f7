-- Each order is closed by what was heard, in every legal and every live transcript, and in one life.
use Rattle.std.proofs.Common.{◌≡◌, ℕ, ◌==◌, cond, true, false, Bool, List, [], ◌∷◌, ◌++◌, refl, ap, sym, ◌∙◌, subst, Some, inl, inr, eqb-true}
use Rattle.std.specs.Prelude.{⊤}
use Rattle.cct_model.specs.terms.device.DeviceSetup.{DeviceSetup}
use Rattle.cct_model.specs.terms.device.Setup.{Setup}
use Rattle.cct_model.specs.declared.judging.OpenOrder.{OpenOrder}
use Rattle.cct_model.specs.lines.record.Record.{Record}
use Rattle.cct_model.specs.lines.record.Record.TheVariants as record_of
use Rattle.cct_model.specs.lines.command.Command.{Command}
use Rattle.cct_model.specs.lines.command.Step.{Step}
use Rattle.cct_model.specs.lines.entry.Entry.{Entry}
use Rattle.cct_model.specs.lines.entry.Entry.TheVariants as entry
use Rattle.cct_model.specs.Exchange.{asks_of}
use Rattle.cct_model.specs.Job.{address_of, epoch, noted_in, puts}
use Rattle.cct_model.specs.Legal.{Legal}
use Rattle.cct_model.specs.Line.{Line, accepted, dispensed, put, restarted}
use Rattle.cct_model.specs.Order.{order, order_by}
use Rattle.cct_model.specs.Setup.{IsSoundSetup}
use Rattle.cct_model.specs.Transcript.{doses_of, heard_by_devices, lines_of, met, onto, own, owner, pending}
use Rattle.cct_model.proofs.Doses.{order_undosed}
use Rattle.cct_model.proofs.Rows.{RowHolds}
use Rattle.cct_laws.specs.Ids.{Ids}
use Rattle.cct_laws.specs.Law.{EachEntry, IsOf}
use Rattle.cct_laws.proofs.jobs.StepBrings.{AtWork, Brought, row_after}
use Rattle.cct_laws.proofs.jobs.SeenAtOne.{along}
use Rattle.cct_laws.proofs.jobs.EntriesOfStep.{any_steps}
use Rattle.cct_laws_live.specs.Closes.{CloseAt, CloseOf, ClosedBy, WasHeardOpen, WasOpened, before_start, begins_wait, life_heard, none_left_heard, since_sent}
use Rattle.cct_laws_live.specs.Life.{EachLife, EachSinceStart}
use Rattle.cct_laws_live.specs.Live.{EachLive, shown}
use Rattle.cct_laws_live.specs.Recording.{IsKeptBy}
use Rattle.cct_laws_live.specs.Posts.{Has, since_taken}
use Rattle.cct_laws_live.proofs.Carrying.{by_law, each_shown}
use Rattle.cct_laws_live.proofs.Closing.{ClosesIf, closing_ended, row_closes, sent_within, was_opened}
use Rattle.cct_laws_live.proofs.Fronts.{EachFront, front_each, front_since, since_shown}
use Rattle.cct_laws_live.proofs.InTurn.{has_front}
use Rattle.cct_laws_live.proofs.LifeLaws.{life_along}
use Rattle.cct_laws_live.proofs.Posting.{ObeysJob, Orderly, job_within, orderly_step}
use Rattle.cct_laws_live.proofs.Recording.{recorded_shown, step_recorded}
use Rattle.cct_laws_live.proofs.Undosed.{SameUndosed, has_same, lines_shown, since_same, turn_same, undosed}

-- what a job puts
put_closes : (d : DeviceSetup) (past : List Entry) (c : Command) (since : List Line) (r : Record) → AtWork d past c since →
    row_after d past c since ≡ puts r → Orderly d (lines_of d past) → CloseOf WasOpened (lines_of d past) r
put_closes d past c since r at_work is orderly =
    let lines = lines_of d past in
    let closes : ClosesIf lines since r =
    subst (RowHolds (λ q. ⊤) (ClosesIf lines since)) is
    (row_closes lines d c since (epoch lines) (job_within lines c since at_work.job_is) (sent_within lines c since at_work.job_is)) in
    closes (λ ends. closing_ended d c since (epoch lines) (noted_in since (order lines)) r is ends
    (subst (ObeysJob d) at_work.job_is orderly))

-- so each step closes what was heard
closes_step : (capacity : ℕ) (setup : Setup) (d : DeviceSetup) → IsSoundSetup setup → IsOf setup d →
    (past news : List Entry) (s : Step) → Ids setup past → Brought capacity setup past s news →
    Orderly d (lines_of d past) → EachFront (CloseAt WasOpened d) news past
closes_step capacity setup d sound own past news s ids told orderly =
    step_recorded (CloseOf WasOpened) d capacity setup past news s sound own ids told
    (λ c since r at_work is. put_closes d past c since r at_work is orderly)

legal_was_closed : (capacity : ℕ) (setup : Setup) (steps : List Step) (transcript : List Entry) (d : DeviceSetup) →
    IsSoundSetup setup → IsOf setup d → Legal capacity setup steps transcript →
    EachEntry (CloseAt WasOpened d) (onto [] transcript)
legal_was_closed capacity setup steps transcript d sound own legal =
    (along capacity setup (λ s. ⊤) (λ past. Orderly d (lines_of d past) × EachEntry (CloseAt WasOpened d) past) sound
    (λ past news s any ids told both. (
      orderly_step capacity setup d sound own past news s ids told both.0,
      front_each (CloseAt WasOpened d) news past (closes_step capacity setup d sound own past news s ids told both.0) both.1,
    ))
    (λ past addr both. (both.0, (tt, both.1))) steps (onto [] transcript) (any_steps steps) legal (tt, tt)).1

-- the order that is open changes by records alone
order_if : (here : Bool) (l : Line) (lines : List Line) → order (l ∷ lines) ≡ order lines →
    order (cond here (l ∷ []) [] ++ lines) ≡ order lines
order_if true l lines same = same
order_if false l lines same = refl

order_wire : (here : Bool) (l : Line) (dosed lines : List Line) → order (l ∷ dosed ++ lines) ≡ order (dosed ++ lines) →
    order ((cond here (l ∷ []) [] ++ dosed) ++ lines) ≡ order (dosed ++ lines)
order_wire true l dosed lines same = same
order_wire false l dosed lines same = refl

-- so one that was opened by records that were heard was heard
heard_after : (front lines : List Line) (o : OpenOrder) → order (front ++ lines) ≡ order lines →
    (order lines ≡ Some o → WasHeardOpen lines o) → order (front ++ lines) ≡ Some o → WasHeardOpen (front ++ lines) o
heard_after front lines o same before is = has_front front lines _ _ (before (sym same ∙ is))

-- where an order is opened, its life count was heard since a command was taken
abbrev HeardOpening : List Line → Record → Type 0
HeardOpening lines (record_of.Opened id addr count life) = Has (since_taken (before_start lines)) (life_heard life)
HeardOpening lines r = ⊤

heard_before : (lines : List Line) (l : Line) → Has (since_taken lines) l → Has (since_taken (before_start lines)) l
heard_before (restarted ∷ lines) l has = absurd has
heard_before lines l has = has

put_opening : (lines : List Line) (r : Record) → CloseOf WasOpened lines r → HeardOpening lines r
put_opening lines (record_of.Opened id addr count life) of = heard_before lines (life_heard life) of
put_opening lines r of = tt

later_opening : (lines : List Line) (r : Record) → CloseOf WasOpened lines r → HeardOpening (restarted ∷ lines) r
later_opening lines (record_of.Opened id addr count life) of = of
later_opening lines r of = tt

kept_opening : (d : DeviceSetup) (past : List Entry) (r : Record) → owner past r ≡ d.addr →
    IsKeptBy (CloseOf WasOpened) d past r → HeardOpening (lines_of d past) r
kept_opening d (entry.Crash n ∷ past) r here kept = later_opening (lines_of d past) r (kept here)
kept_opening d past r here kept = absurd (kept here)

put_heard : (r : Record) (lines : List Line) (o : OpenOrder) → HeardOpening lines r →
    (order lines ≡ Some o → WasHeardOpen lines o) → order (put r ∷ lines) ≡ Some o → WasHeardOpen (put r ∷ lines) o
put_heard (record_of.Opened id addr count life) lines o of before is =
    let same : o ≡ record { id = id; addr = addr; count = count; life = life } = cc in
    subst (λ x. WasHeardOpen (put (record_of.Opened id addr count life) ∷ lines) x) (sym same) (inl (refl, of))
put_heard (record_of.Closed id paid unpaid) lines o of before is = absurd cc
put_heard (record_of.Odd id life_before life_after) lines o of before is = absurd cc
put_heard r lines o of before is = inr (before is)

record_heard : (here : Bool) (r : Record) (lines : List Line) (o : OpenOrder) → (here ≡ true → HeardOpening lines r) →
    (order lines ≡ Some o → WasHeardOpen lines o) → order (cond here (put r ∷ []) [] ++ lines) ≡ Some o →
    WasHeardOpen (cond here (put r ∷ []) [] ++ lines) o
record_heard true r lines o of before is = put_heard r lines o (of refl) before is
record_heard false r lines o of before is = before is

heard_open : (d : DeviceSetup) (past : List Entry) → EachEntry (CloseAt WasOpened d) past → (o : OpenOrder) →
    order (lines_of d past) ≡ Some o → WasHeardOpen (lines_of d past) o
heard_open d [] each o is = absurd cc
heard_open d (entry.Put r ∷ past) each o is =
    record_heard (owner past r == d.addr) r (lines_of d past) o
    (λ test. put_opening (lines_of d past) r (each.0 (eqb-true (owner past r) d.addr test)))
    (heard_open d past each.1 o) is
heard_open d (entry.Kept r ∷ past) each o is =
    record_heard (owner past r == d.addr) r (lines_of d past) o
    (λ test. kept_opening d past r (eqb-true (owner past r) d.addr test) each.0) (heard_open d past each.1 o) is
heard_open d (entry.Wire addr sent piece ∷ past) each o is =
    let dosed = doses_of d past sent in
    heard_after (own d past (entry.Wire addr sent piece)) (lines_of d past) o
    (order_wire (addr == d.addr) _ dosed (lines_of d past) refl
    ∙ order_undosed d.body d.serial (met d past) (asks_of d (heard_by_devices (pending past) sent)) (lines_of d past))
    (heard_open d past each.1 o) is
heard_open d (entry.Accepted addr c ∷ past) each o is =
    heard_after (own d past (entry.Accepted addr c)) (lines_of d past) o (order_if (addr == d.addr) _ (lines_of d past) refl)
    (heard_open d past each.1 o) is
heard_open d (entry.Inhibited addr place ∷ past) each o is =
    heard_after (own d past (entry.Inhibited addr place)) (lines_of d past) o (order_if (addr == d.addr) _ (lines_of d past) refl)
    (heard_open d past each.1 o) is
heard_open d (entry.Alien addr ∷ past) each o is =
    heard_after (own d past (entry.Alien addr)) (lines_of d past) o (order_if (addr == d.addr) _ (lines_of d past) refl)
    (heard_open d past each.1 o) is
heard_open d (entry.Fell addr ∷ past) each o is =
    heard_after (own d past (entry.Fell addr)) (lines_of d past) o (order_if (addr == d.addr) _ (lines_of d past) refl)
    (heard_open d past each.1 o) is
heard_open d (entry.Reset addr ∷ past) each o is =
    heard_after (own d past (entry.Reset addr)) (lines_of d past) o (order_if (addr == d.addr) _ (lines_of d past) refl)
    (heard_open d past each.1 o) is
heard_open d (entry.Taken c ∷ past) each o is =
    heard_after (own d past (entry.Taken c)) (lines_of d past) o (order_if (address_of c == d.addr) _ (lines_of d past) refl)
    (heard_open d past each.1 o) is
heard_open d (entry.Ended addr end ∷ past) each o is =
    heard_after (own d past (entry.Ended addr end)) (lines_of d past) o (order_if (addr == d.addr) _ (lines_of d past) refl)
    (heard_open d past each.1 o) is
heard_open d (entry.Crash n ∷ past) each o is = inr (heard_open d past each.1 o is)
heard_open d (e ∷ past) each o is = heard_open d past each.1 o is

-- the lines since the newest wait, and the order, are the same but for dispenses that were taken
cut_undosed : (anew : Bool) (l : Line) (ls : List Line) → undosed (l ∷ ls) ≡ l ∷ undosed ls →
    undosed (cond anew [] (l ∷ ls)) ≡ cond anew [] (l ∷ undosed ls)
cut_undosed true l ls plain = refl
cut_undosed false l ls plain = plain

sent_undosed : (lines : List Line) → undosed (since_sent lines) ≡ since_sent (undosed lines)
sent_undosed [] = refl
sent_undosed (dispensed count ∷ lines) = sent_undosed lines
sent_undosed (accepted coin ∷ lines) = sent_undosed lines
sent_undosed (l ∷ lines) =
    cut_undosed (begins_wait l) l (since_sent lines) refl
    ∙ ap (λ ls. cond (begins_wait l) [] (l ∷ ls)) (sent_undosed lines)

sent_same : (lines others : List Line) → SameUndosed lines others → SameUndosed (since_sent lines) (since_sent others)
sent_same lines others same = sent_undosed lines ∙ ap since_sent same ∙ sym (sent_undosed others)

open_undosed : (lines : List Line) → order lines ≡ order (undosed lines)
open_undosed [] = refl
open_undosed (dispensed count ∷ lines) = open_undosed lines
open_undosed (accepted coin ∷ lines) = open_undosed lines
open_undosed (put r ∷ lines) = ap (order_by r) (open_undosed lines)
open_undosed (l ∷ lines) = open_undosed lines

open_same : (lines others : List Line) → SameUndosed lines others → order lines ≡ order others
open_same lines others same = open_undosed lines ∙ ap order same ∙ sym (open_undosed others)

-- so is what closes an order; and of how it was opened more may be known
module _ (P Q : List Line → OpenOrder → Type 0) (lines others : List Line) where
  closed_by : (r : Record) → SameUndosed lines others → ((o : OpenOrder) → order others ≡ Some o → Q others o) →
      ClosedBy P lines r → ClosedBy Q others r
  closed_by r same opens by =
      let is_open : order others ≡ Some by.owed = sym (open_same lines others same) ∙ by.is_open in
      record {
        owed = by.owed;
        life = by.life;
        events = by.events;
        paid = by.paid;
        unpaid = by.unpaid;
        is_open = is_open;
        opened = opens by.owed is_open;
        heard =
            turn_same (since_sent lines) (since_sent others)
            (life_heard by.life ∷ none_left_heard by.events by.paid by.unpaid ∷ []) tt (sent_same lines others same) by.heard;
        settles = by.settles;
      }

  closed_of : (r : Record) → SameUndosed lines others → ((o : OpenOrder) → order others ≡ Some o → Q others o) →
      CloseOf P lines r → CloseOf Q others r
  closed_of (record_of.Opened id addr count life) same opens of =
      has_same _ _ (since_taken lines) (since_taken others) (since_same lines others same) of
  closed_of (record_of.Closed id paid unpaid) same opens of = closed_by (record_of.Closed id paid unpaid) same opens of
  closed_of (record_of.Odd id life_before life_after) same opens of =
      closed_by (record_of.Odd id life_before life_after) same opens of
  closed_of r same opens of = tt

-- over all lives each order was opened at a life count that was heard
kept_heard : (d : DeviceSetup) (past : List Entry) (r : Record) → EachEntry (CloseAt WasOpened d) past →
    IsKeptBy (CloseOf WasOpened) d past r → IsKeptBy (CloseOf WasHeardOpen) d past r
kept_heard d (entry.Crash n ∷ past) r each kept =
    λ here. closed_of WasOpened WasHeardOpen (lines_of d past) (lines_of d past) r refl (heard_open d past each.1) (kept here)
kept_heard d [] r each kept = kept
kept_heard d (e ∷ past) r each kept = kept

at_heard : (d : DeviceSetup) (past : List Entry) (e : Entry) → EachEntry (CloseAt WasOpened d) past →
    CloseAt WasOpened d past e → CloseAt WasHeardOpen d past e
at_heard d past (entry.Put r) each at =
    λ here. closed_of WasOpened WasHeardOpen (lines_of d past) (lines_of d past) r refl (heard_open d past each) (at here)
at_heard d past (entry.Kept r) each at = kept_heard d past r each at
at_heard d past e each at = tt

each_heard : (d : DeviceSetup) (past : List Entry) → EachEntry (CloseAt WasOpened d) past →
    EachEntry (CloseAt WasHeardOpen d) past
each_heard d [] each = tt
each_heard d (e ∷ past) each = (at_heard d past e each.1 each.0, each_heard d past each.1)

pub legal_closed : (capacity : ℕ) (setup : Setup) (steps : List Step) (transcript : List Entry) (d : DeviceSetup) →
    IsSoundSetup setup → IsOf setup d → Legal capacity setup steps transcript →
    EachEntry (CloseAt WasHeardOpen d) (onto [] transcript)
legal_closed capacity setup steps transcript d sound own legal =
    each_heard d (onto [] transcript) (legal_was_closed capacity setup steps transcript d sound own legal)

-- after a past, and after what it shows
closes_shown : (d : DeviceSetup) (past : List Entry) (e : Entry) → CloseAt WasOpened d past e →
    CloseAt WasOpened d (shown past) e
closes_shown d =
    recorded_shown (CloseOf WasOpened) (CloseOf WasOpened) d
    (λ past r of. closed_of WasOpened WasOpened (lines_of d past) (lines_of d (shown past)) r (lines_shown d past)
    (was_opened (lines_of d (shown past))) of)

pub live_closed : EachLive (λ capacity setup transcript. (d : DeviceSetup) → IsOf setup d →
    EachEntry (CloseAt WasHeardOpen d) (onto [] transcript))
live_closed capacity setup steps transcript sound range live d own =
    each_heard d (onto [] transcript) (by_law
    (λ capacity setup past. (d : DeviceSetup) → IsOf setup d → EachEntry (CloseAt WasOpened d) past)
    (λ capacity setup steps transcript sound range legal d own.
    legal_was_closed capacity setup steps transcript d sound own legal)
    (λ capacity setup past each d own. each_shown (CloseAt WasOpened d) (closes_shown d) past (each d own))
    capacity setup steps transcript sound range live d own)

-- and in one life
pub life_closed : EachLife (λ capacity setup found past. (d : DeviceSetup) → IsOf setup d →
    EachSinceStart (CloseAt WasOpened d) past)
life_closed capacity setup found steps past sound life d own =
    life_along (λ es. Orderly d (lines_of d es) × EachSinceStart (CloseAt WasOpened d) es)
    (EachSinceStart (CloseAt WasOpened d)) capacity setup found steps past sound life
    (λ before news s ids told both. (
      orderly_step capacity setup d sound own before news s ids told both.0,
      front_since (CloseAt WasOpened d) news before (closes_step capacity setup d sound own before news s ids told both.0) both.1,
    ))
    (λ before addr both. (both.0, (tt, both.1)))
    (λ before both. since_shown (CloseAt WasOpened d) (closes_shown d) before both.1) (tt, tt)
