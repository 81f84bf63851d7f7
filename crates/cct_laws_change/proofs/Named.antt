-- The order of a payment by the records alone, over any wire: its count, and that it is closed with just that.
use Rattle.std.proofs.Common.{◌≡◌, ◌+◌, ◌==◌, ◌&&◌, ◌||◌, Bool, true, false, cond, List, [], ◌∷◌, ◌++◌, refl, ap, ◌∙◌, Some, inl, inr, eqb-true, ℕ, sym, subst, eq-eqb}
use Rattle.std.specs.Prelude.{⊤}
use Rattle.std.specs.List.{list_any}
use Rattle.std.proofs.lemmas.Bool.{and_parts, cond-true, or_cases, or_left, or_right}
use Rattle.cct_model.specs.terms.device.Setup.{Setup}
use Rattle.cct_model.specs.lines.record.Record.{Record}
use Rattle.cct_model.specs.lines.record.Record.TheVariants as record_of
use Rattle.cct_model.specs.lines.entry.Entry.{Entry}
use Rattle.cct_model.specs.lines.entry.Entry.TheVariants as entry
use Rattle.cct_model.specs.declared.change.Payment.{Payment}
use Rattle.cct_model.specs.declared.change.Phase.{Phase}
use Rattle.cct_model.specs.declared.change.Phase.TheVariants.{Closed, Odd, Opened}
use Rattle.cct_model.specs.Change.{closed_in, is_opening}
use Rattle.cct_model.specs.Following.{all_follow, count_of, follows}
use Rattle.cct_model.specs.Paid.{AreFresh, IsFresh, uses}
use Rattle.cct_model.specs.Records.{hopper_of, is_open, is_open_by, opened_in, order_in, order_named, owner_in, records}
use Rattle.cct_laws_change.specs.Blocks.{IsWaiting}
use Rattle.cct_laws_change.proofs.Closing.{IsClosing}
use Rattle.cct_laws_change.proofs.News.{there_by}
use Rattle.cct_laws.proofs.setups.DeviceAt.{same_some}
use Rattle.cct_laws.proofs.orders.Orders.{belongs_all, named_id}
use Rattle.cct_laws.proofs.orders.UsedIds.{Grows, same_records, one_more}
use Rattle.cct_model.specs.declared.judging.OpenOrder.{OpenOrder}
use Rattle.std.proofs.lemmas.List.{append_cancel_right}

-- the order of a payment was opened last with its count, at its address, among these records
pub record IsNamed (p : Payment) (rs : List Record) : Type 0 where
  pub used : list_any (uses p.id) rs ≡ true
  pub count_is : count_of (order_named p.id rs) ≡ p.count
  pub there : opened_in p.id rs ≡ p.addr

named_over : (p : Payment) (r : Record) (rs : List Record) → IsFresh rs r → IsNamed p rs → IsNamed p (r ∷ rs)
named_over p r rs fresh is = record {
  used = or_right (uses p.id r) (list_any (uses p.id) rs) is.used;
  count_is = ap count_of (there_by p.id r rs fresh is.used) ∙ is.count_is;
  there = ap hopper_of (there_by p.id r rs fresh is.used) ∙ is.there;
}

-- it stays, and is so where a record opens it
pub named_on : (news past : List Entry) (p : Payment) → AreFresh (records (news ++ past)) → IsNamed p (records past) →
    IsNamed p (records (news ++ past))
named_on [] past p fresh is = is
named_on (entry.Put r ∷ news) past p fresh is =
    named_over p r (records (news ++ past)) fresh.0 (named_on news past p fresh.1 is)
named_on (entry.Kept r ∷ news) past p fresh is =
    named_over p r (records (news ++ past)) fresh.0 (named_on news past p fresh.1 is)
named_on (e ∷ news) past p fresh is = named_on news past p fresh is

names_now : (p : Payment) (r : Record) (rs : List Record) → is_opening p r ≡ true → IsNamed p (r ∷ rs)
names_now p (record_of.Opened id addr count life) rs test =
    let outer = and_parts ((id == p.id) && (addr == p.addr)) (count == p.count) test in
    let inner = and_parts (id == p.id) (addr == p.addr) outer.0 in
    let found = cond-true (id == p.id) (Some (record { id = id; addr = addr; count = count; life = life }))
    (order_named p.id rs) inner.0 in
    record {
      used = or_left (id == p.id) (list_any (uses p.id) rs) inner.0;
      count_is = ap count_of found ∙ eqb-true count p.count outer.1;
      there = ap hopper_of found ∙ eqb-true addr p.addr inner.1;
    }
names_now p r rs test = absurd cc

names_first : (p : Payment) (r : Record) (opening : List Record) (rs : List Record) → IsFresh rs r →
    (is_opening p r || list_any (is_opening p) opening) ≡ true →
    (list_any (is_opening p) opening ≡ true → IsNamed p rs) → IsNamed p (r ∷ rs)
names_first p r opening rs fresh test later =
    elim (or_cases (is_opening p r) (list_any (is_opening p) opening) test) [
      | inl now ↦ names_now p r rs now
      | inr earlier ↦ named_over p r rs fresh (later earlier)
    ]

pub named_news : (news past : List Entry) (p : Payment) → AreFresh (records (news ++ past)) →
    list_any (is_opening p) (records news) ≡ true → IsNamed p (records (news ++ past))
named_news [] past p fresh test = absurd cc
named_news (entry.Put r ∷ news) past p fresh test =
    names_first p r (records news) (records (news ++ past)) fresh.0 test (named_news news past p fresh.1)
named_news (entry.Kept r ∷ news) past p fresh test =
    names_first p r (records news) (records (news ++ past)) fresh.0 test (named_news news past p fresh.1)
named_news (e ∷ news) past p fresh test = named_news news past p fresh test

-- where it is closed, its coins are paid or unpaid
abbrev pub Exact : Payment → Phase → Type 0
Exact p (Closed paid unpaid) = paid + unpaid ≡ p.count
Exact p phase = ⊤

exact_over : (setup : Setup) (p : Payment) (r : Record) (closing rs : List Record) → follows setup rs r ≡ true →
    IsNamed p rs → Exact p (closed_in p.id closing) → Exact p (closed_in p.id (r ∷ closing))
exact_over setup p (record_of.Closed id paid unpaid) closing rs follow is later = by_test (id == p.id) refl
  where
    sum_is : (id == p.id) ≡ true → paid + unpaid ≡ p.count
    sum_is test =
        eqb-true (paid + unpaid) (count_of (order_named id rs))
        (and_parts (is_open id rs) (paid + unpaid == count_of (order_named id rs)) follow).1
        ∙ ap (λ i. count_of (order_named i rs)) (eqb-true id p.id test) ∙ is.count_is

    by_test : (here : Bool) → (id == p.id) ≡ here → Exact p (cond here (Closed paid unpaid) (closed_in p.id closing))
    by_test true test = sum_is test
    by_test false test = later
exact_over setup p (record_of.Odd id life_before life_after) closing rs follow is later = by_test (id == p.id)
  where
    by_test : (here : Bool) → Exact p (cond here Odd (closed_in p.id closing))
    by_test true = tt
    by_test false = later
exact_over setup p r closing rs follow is later = later

pub closed_exact : (setup : Setup) (news past : List Entry) (p : Payment) →
    all_follow setup (records (news ++ past)) ≡ true → AreFresh (records (news ++ past)) → IsNamed p (records past) →
    Exact p (closed_in p.id (records news))
closed_exact setup [] past p follow fresh is = tt
closed_exact setup (entry.Put r ∷ news) past p follow fresh is =
    let parts = and_parts (follows setup (records (news ++ past)) r) (all_follow setup (records (news ++ past))) follow in
    exact_over setup p r (records news) (records (news ++ past)) parts.0 (named_on news past p fresh.1 is)
    (closed_exact setup news past p parts.1 fresh.1 is)
closed_exact setup (entry.Kept r ∷ news) past p follow fresh is =
    let parts = and_parts (follows setup (records (news ++ past)) r) (all_follow setup (records (news ++ past))) follow in
    exact_over setup p r (records news) (records (news ++ past)) parts.0 (named_on news past p fresh.1 is)
    (closed_exact setup news past p parts.1 fresh.1 is)
closed_exact setup (e ∷ news) past p follow fresh is = closed_exact setup news past p follow fresh is

-- it is open, too
pub record IsOpenNow (p : Payment) (rs : List Record) : Type 0 where
  pub named : IsNamed p rs
  pub still : is_open p.id rs ≡ true

-- it is open until a record closes it
abbrev pub UnlessClosed : Phase → Type 0 → Type 0
UnlessClosed Opened X = X
UnlessClosed phase X = ⊤

open_over : (id : ℕ) (r : Record) (rs before : List Record) → UnlessClosed (closed_in id rs) (is_open id before ≡ true) →
    UnlessClosed (closed_in id (r ∷ rs)) (is_open_by id r (is_open id before) ≡ true)
open_over id (record_of.Closed closed paid unpaid) rs before is = by_test (closed == id)
  where
    by_test : (here : Bool) → UnlessClosed (cond here (Closed paid unpaid) (closed_in id rs))
        (cond here false (is_open id before) ≡ true)
    by_test true = tt
    by_test false = is
open_over id (record_of.Odd closed life_before life_after) rs before is = by_test (closed == id)
  where
    by_test : (here : Bool) → UnlessClosed (cond here Odd (closed_in id rs)) (cond here false (is_open id before) ≡ true)
    by_test true = tt
    by_test false = is
open_over id (record_of.Opened opened addr count life) rs before is = by_phase (closed_in id rs) (opened == id) is
  where
    by_phase : (phase : Phase) (here : Bool) → UnlessClosed phase (is_open id before ≡ true) →
        UnlessClosed phase (cond here true (is_open id before) ≡ true)
    by_phase Opened true is = refl
    by_phase Opened false is = is
    by_phase phase here is = tt
open_over id r rs before is = is

pub open_on : (id : ℕ) (news past : List Entry) → is_open id (records past) ≡ true →
    UnlessClosed (closed_in id (records news)) (is_open id (records (news ++ past)) ≡ true)
open_on id [] past is = is
open_on id (entry.Put r ∷ news) past is =
    open_over id r (records news) (records (news ++ past)) (open_on id news past is)
open_on id (entry.Kept r ∷ news) past is =
    open_over id r (records news) (records (news ++ past)) (open_on id news past is)
open_on id (e ∷ news) past is = open_on id news past is

-- where a step puts one record, which opens it, it is open then
pub records_of : (news past : List Entry) → records (news ++ past) ≡ records news ++ records past
records_of [] past = refl
records_of (entry.Put r ∷ news) past = ap (λ rs. r ∷ rs) (records_of news past)
records_of (entry.Kept r ∷ news) past = ap (λ rs. r ∷ rs) (records_of news past)
records_of (e ∷ news) past = records_of news past

opens_it : (p : Payment) (r : Record) (rs : List Record) → is_opening p r ≡ true → is_open p.id (r ∷ rs) ≡ true
opens_it p (record_of.Opened id addr count life) rs test =
    let outer = and_parts ((id == p.id) && (addr == p.addr)) (count == p.count) test in
    cond-true (id == p.id) true (is_open p.id rs) (and_parts (id == p.id) (addr == p.addr) outer.0).0
opens_it p r rs test = absurd cc

opens_none : (p : Payment) (more before : List Record) → more ≡ [] → list_any (is_opening p) more ≡ true →
    is_open p.id (more ++ before) ≡ true
opens_none p more before none test =
    let some : list_any (is_opening p) [] ≡ true = subst (λ rs. list_any (is_opening p) rs ≡ true) none test in
    absurd cc

opens_first : (p : Payment) (r : Record) (more before : List Record) → more ≡ r ∷ [] →
    list_any (is_opening p) more ≡ true → is_open p.id (more ++ before) ≡ true
opens_first p r more before one test =
    subst (λ rs. is_open p.id (rs ++ before) ≡ true) (sym one)
    (opens_it p r before (alone (is_opening p r) (subst (λ rs. list_any (is_opening p) rs ≡ true) one test)))
  where
    alone : (b : Bool) → (b || false) ≡ true → b ≡ true
    alone true is = refl
    alone false is = is

opens_one : (p : Payment) (more before all : List Record) → Grows before all → all ≡ more ++ before →
    list_any (is_opening p) more ≡ true → is_open p.id (more ++ before) ≡ true
opens_one p more before _ same_records is test =
    opens_none p more before (sym (append_cancel_right [] more before is)) test
opens_one p more before _ (one_more r is_new) is test =
    opens_first p r more before (sym (append_cancel_right (r ∷ []) more before is)) test

pub opens_news : (p : Payment) (news past : List Entry) → Grows (records past) (records (news ++ past)) →
    list_any (is_opening p) (records news) ≡ true → is_open p.id (records (news ++ past)) ≡ true
opens_news p news past grows test =
    subst (λ rs. is_open p.id rs ≡ true) (sym (records_of news past))
    (opens_one p (records news) (records past) (records (news ++ past)) grows (records_of news past) test)

-- a record that closes the open order of the payment's hopper closes the payment's
abbrev pub closed_id : Record → ℕ
closed_id (record_of.Closed id paid unpaid) = id
closed_id (record_of.Odd id life_before life_after) = id
closed_id r = 0

closing_open : (setup : Setup) (rs : List Record) (r : Record) → follows setup rs r ≡ true → IsClosing r →
    (is_open (closed_id r) rs ≡ true) × (owner_in rs r ≡ opened_in (closed_id r) rs)
closing_open setup rs (record_of.Closed id paid unpaid) follow closes =
    ((and_parts (is_open id rs) (paid + unpaid == count_of (order_named id rs)) follow).0, refl)
closing_open setup rs (record_of.Odd id life_before life_after) follow closes = (follow, refl)
closing_open setup rs r follow closes = absurd closes

pub same_order : (setup : Setup) (rs : List Record) (r : Record) (p : Payment) → all_follow setup rs ≡ true →
    follows setup rs r ≡ true → IsClosing r → owner_in rs r ≡ p.addr → IsOpenNow p rs → closed_id r ≡ p.id
same_order setup rs r p all follow closes own is =
    let belongs = belongs_all setup rs all in
    let opening = closing_open setup rs r follow closes in
    let first = belongs.named (closed_id r) opening.0 in
    let second = belongs.named p.id is.still in
    let first_addr : first.order_is.addr ≡ p.addr = sym (ap hopper_of first.named) ∙ sym opening.1 ∙ own in
    let second_addr : second.order_is.addr ≡ p.addr = sym (ap hopper_of second.named) ∙ is.named.there in
    let same : first.order_is ≡ second.order_is =
    same_some first.order_is second.order_is
    (sym first.at_hopper ∙ ap (λ a. order_in a rs) (first_addr ∙ sym second_addr) ∙ second.at_hopper) in
    sym (named_id (closed_id r) rs first.order_is first.named)
    ∙ ap (λ (o : OpenOrder). o.id) same ∙ named_id p.id rs second.order_is second.named

-- so the payment is waited for no more
pub closed_now : (r : Record) (id : ℕ) → IsClosing r → closed_id r ≡ id → IsWaiting (closed_in id (r ∷ [])) → ⊥
closed_now (record_of.Closed closed paid unpaid) id closes same waits =
    subst IsWaiting (cond-true (closed == id) (Closed paid unpaid) (closed_in id []) (eq-eqb closed id same)) waits
closed_now (record_of.Odd closed life_before life_after) id closes same waits =
    subst IsWaiting (cond-true (closed == id) Odd (closed_in id []) (eq-eqb closed id same)) waits
closed_now r id closes same waits = absurd closes
