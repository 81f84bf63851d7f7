-- What the entries of a step show of an order, by its id: that it was opened, and how it was
-- closed.
use Rattle.std.proofs.Common.{◌≡◌, ℕ, ◌==◌, ◌&&◌, ◌||◌, true, false, cond, List, [], ◌∷◌, ◌++◌, refl, ap, sym, ◌∙◌, subst, Some, inl, inr, append_assoc, eq-eqb, eqb-true}
use Rattle.std.specs.Prelude.{⊤}
use Rattle.std.specs.List.{list_any}
use Rattle.std.proofs.lemmas.Bool.{and_parts, both_ways, cases_Bool, cond-false, cond-true, ne_eqb, or_cases, or_left, or_right}
use Rattle.cct_model.specs.terms.device.DeviceSetup.{DeviceSetup}
use Rattle.cct_model.specs.lines.record.Record.{Record}
use Rattle.cct_model.specs.lines.record.Record.TheVariants as record_of
use Rattle.cct_model.specs.lines.entry.Entry.{Entry}
use Rattle.cct_model.specs.lines.entry.Entry.TheVariants as entry
use Rattle.cct_model.specs.declared.change.Payment.{Payment}
use Rattle.cct_model.specs.declared.change.Phase.{Phase}
use Rattle.cct_model.specs.declared.change.Phase.TheVariants.{Begun, Opened, Closed, Odd, Lost}
use Rattle.cct_model.specs.Change.{closed_in, is_opening}
use Rattle.cct_model.specs.Claims.{AllPast}
use Rattle.cct_model.specs.Line.{Line, put}
use Rattle.cct_model.specs.Paid.{AreFresh, IsFresh, Paid, uses}
use Rattle.cct_model.specs.Records.{hopper_of, named_by, opened_in, order_named, records}
use Rattle.cct_model.specs.Transcript.{at, lines_of, own, owner}
use Rattle.cct_laws_change.specs.Counted.{AreFreshLines, Close, closed_as, opened_as}
use Rattle.cct_laws_change.proofs.Fresh.{closed_stays, fresh_lines, opened_stays}

-- what is sure of a hopper's lines: each order is paid once, and no id is used twice
pub record Sure (d : DeviceSetup) (past : List Entry) : Type 0 where
  pub pays : Paid (lines_of d past)
  pub fresh : AreFresh (records past)

all_after : (P : List Line → Line → Type 0) (more past : List Line) → AllPast P (more ++ past) → AllPast P past
all_after P [] past all = all
all_after P (l ∷ more) past all = all_after P more past all.1

fresh_before : (past : List Entry) (e : Entry) → AreFresh (records (e ∷ past)) → AreFresh (records past)
fresh_before past (entry.Put r) fresh = fresh.1
fresh_before past (entry.Kept r) fresh = fresh.1
fresh_before past e fresh = fresh

pub sure_before : (d : DeviceSetup) (news past : List Entry) → Sure d (news ++ past) → Sure d past
sure_before d [] past sure = sure
sure_before d (e ∷ news) past sure = sure_before d news past (record {
  pays = all_after _ (own d (news ++ past) e) (lines_of d (news ++ past)) sure.pays;
  fresh = fresh_before (news ++ past) e sure.fresh;
})

-- entries add lines to those of a device
pub lines_more : (d : DeviceSetup) (news past : List Entry) →
    (more : List Line) × (lines_of d (news ++ past) ≡ more ++ lines_of d past)
lines_more d [] past = ([], refl)
lines_more d (e ∷ news) past =
    let before = lines_more d news past in (
      own d (news ++ past) e ++ before.0,
      ap (λ ls. own d (news ++ past) e ++ ls) before.1 ∙ sym (append_assoc (own d (news ++ past) e) before.0 (lines_of d past)),
    )

-- an order was opened for a payment at this address: its lines show so, and its id is used there
pub record IsOpened (addr : ℕ) (lines : List Line) (rs : List Record) (p : Payment) : Type 0 where
  pub opened : opened_as p.id lines ≡ Some p.count
  pub used : list_any (uses p.id) rs ≡ true
  pub there : opened_in p.id rs ≡ addr

pub there_by : (id : ℕ) (r : Record) (rs : List Record) → IsFresh rs r → list_any (uses id) rs ≡ true →
    named_by id r (order_named id rs) ≡ order_named id rs
there_by id (record_of.Opened opened addr count life) rs fresh used =
    cond-false (opened == id) (Some (record { id = opened; addr = addr; count = count; life = life })) (order_named id rs)
    (ne_eqb opened id (λ same. both_ways (list_any (uses id) rs) (subst (λ i. list_any (uses i) rs ≡ false) same fresh) used))
there_by id r rs fresh used = refl

opened_over_record : (addr : ℕ) (before lines : List Line) (r : Record) (rs : List Record) (p : Payment) → IsFresh rs r →
    opened_as p.id lines ≡ Some p.count → IsOpened addr before rs p → IsOpened addr lines (r ∷ rs) p
opened_over_record addr before lines r rs p fresh opened is = record {
  opened = opened;
  used = or_right (uses p.id r) (list_any (uses p.id) rs) is.used;
  there = ap hopper_of (there_by p.id r rs fresh is.used) ∙ is.there;
}

opened_over_one : (d : DeviceSetup) (past : List Entry) (e : Entry) (p : Payment) → Sure d (e ∷ past) →
    opened_as p.id (lines_of d (e ∷ past)) ≡ Some p.count → IsOpened d.addr (lines_of d past) (records past) p →
    IsOpened d.addr (lines_of d (e ∷ past)) (records (e ∷ past)) p
opened_over_one d past (entry.Put r) p sure opened is =
    opened_over_record d.addr (lines_of d past) _ r (records past) p sure.fresh.0 opened is
opened_over_one d past (entry.Kept r) p sure opened is =
    opened_over_record d.addr (lines_of d past) _ r (records past) p sure.fresh.0 opened is
opened_over_one d past e p sure opened is = record { opened = opened; used = is.used; there = is.there }

pub opened_over : (d : DeviceSetup) (news past : List Entry) (p : Payment) → Sure d (news ++ past) →
    IsOpened d.addr (lines_of d past) (records past) p →
    IsOpened d.addr (lines_of d (news ++ past)) (records (news ++ past)) p
opened_over d [] past p sure is = is
opened_over d (e ∷ news) past p sure is =
    let before = opened_over d news past p (sure_before d (e ∷ []) (news ++ past) sure) is in
    opened_over_one d (news ++ past) e p sure
    (opened_stays (own d (news ++ past) e) (lines_of d (news ++ past)) p.id p.count
    (fresh_lines d (e ∷ news ++ past) sure.fresh) before.opened) before

-- what is at a device's own address
at_own : {A : Type 0} (addr : ℕ) (d : DeviceSetup) (x : A) → addr ≡ d.addr → at addr d x ≡ x ∷ []
at_own addr d x here = cond-true (addr == d.addr) (x ∷ []) [] (eq-eqb addr d.addr here)

-- a record opens its order
opens_here : (d : DeviceSetup) (past : List Entry) (r : Record) (p : Payment) → p.addr ≡ d.addr →
    is_opening p r ≡ true → IsOpened d.addr (lines_of d (entry.Put r ∷ past)) (r ∷ records past) p
opens_here d past (record_of.Opened id addr count life) p here test =
    let outer = and_parts ((id == p.id) && (addr == p.addr)) (count == p.count) test in
    let inner = and_parts (id == p.id) (addr == p.addr) outer.0 in
    let line = at_own addr d (put (record_of.Opened id addr count life)) (eqb-true addr p.addr inner.1 ∙ here) in
    record {
      opened = ap (λ front. opened_as p.id (front ++ lines_of d past)) line
          ∙ cond-true (id == p.id) (Some count) (opened_as p.id (lines_of d past)) inner.0
          ∙ ap Some (eqb-true count p.count outer.1);
      used = or_left (id == p.id) (list_any (uses p.id) (records past)) inner.0;
      there = ap hopper_of (cond-true (id == p.id) (Some (record { id = id; addr = addr; count = count; life = life }))
          (order_named p.id (records past)) inner.0)
          ∙ (eqb-true addr p.addr inner.1 ∙ here);
    }
opens_here d past r p here test = absurd cc

-- so an order is opened that a step's entries open
opened_first : (d : DeviceSetup) (news past : List Entry) (r : Record) (p : Payment) → p.addr ≡ d.addr →
    (is_opening p r || list_any (is_opening p) (records news)) ≡ true →
    Sure d (entry.Put r ∷ news ++ past) →
    (list_any (is_opening p) (records news) ≡ true →
    IsOpened d.addr (lines_of d (news ++ past)) (records (news ++ past)) p) →
    IsOpened d.addr (lines_of d (entry.Put r ∷ news ++ past)) (r ∷ records (news ++ past)) p
opened_first d news past r p here test sure later =
    elim (or_cases (is_opening p r) (list_any (is_opening p) (records news)) test) [
      | inl now ↦ opens_here d (news ++ past) r p here now
      | inr earlier ↦ opened_over d (entry.Put r ∷ []) (news ++ past) p sure (later earlier)
    ]

pub opened_news : (d : DeviceSetup) (news past : List Entry) (p : Payment) → p.addr ≡ d.addr → Sure d (news ++ past) →
    list_any (is_opening p) (records news) ≡ true →
    IsOpened d.addr (lines_of d (news ++ past)) (records (news ++ past)) p
opened_news d [] past p here sure test = absurd cc
opened_news d (entry.Put r ∷ news) past p here sure test =
    opened_first d news past r p here test sure
    (opened_news d news past p here (sure_before d (entry.Put r ∷ []) (news ++ past) sure))
opened_news d (entry.Kept r ∷ news) past p here sure test =
    opened_first d news past r p here test (record { pays = sure.pays; fresh = sure.fresh })
    (opened_news d news past p here (sure_before d (entry.Kept r ∷ []) (news ++ past) sure))
opened_news d (e ∷ news) past p here sure test =
    opened_over d (e ∷ []) (news ++ past) p sure
    (opened_news d news past p here (sure_before d (e ∷ []) (news ++ past) sure) test)

-- what became of an open order is so by its lines; its life counts fit it
abbrev pub IsCloseIn : ℕ → List Line → Phase → Type 0
IsCloseIn id lines Opened = ⊤
IsCloseIn id lines (Closed paid unpaid) = closed_as id lines ≡ Some (record { paid = paid; unpaid = unpaid })
IsCloseIn id lines phase = ⊥

pub closed_over : (d : DeviceSetup) (news past : List Entry) (id : ℕ) (c : Close) → Sure d (news ++ past) →
    closed_as id (lines_of d past) ≡ Some c → closed_as id (lines_of d (news ++ past)) ≡ Some c
closed_over d news past id c sure is =
    let more = lines_more d news past in
    subst (λ ls. closed_as id ls ≡ Some c) (sym more.1)
    (closed_stays more.0 (lines_of d past) id c (subst Paid more.1 sure.pays)
    (subst AreFreshLines more.1 (fresh_lines d (news ++ past) sure.fresh)) is)

close_over : (d : DeviceSetup) (news past : List Entry) (id : ℕ) (phase : Phase) → Sure d (news ++ past) →
    IsCloseIn id (lines_of d past) phase → IsCloseIn id (lines_of d (news ++ past)) phase
close_over d news past id Begun sure is = absurd is
close_over d news past id Opened sure is = tt
close_over d news past id (Closed paid unpaid) sure is = closed_over d news past id (record { paid = paid; unpaid = unpaid }) sure is
close_over d news past id Odd sure is = absurd is
close_over d news past id Lost sure is = absurd is

-- a record that closes the order is a line of its hopper
closes_here : (d : DeviceSetup) (past : List Entry) (r : Record) (closed : ℕ) (p : Payment) →
    owner past r ≡ opened_in closed (records past) → closed ≡ p.id →
    IsOpened d.addr (lines_of d past) (records past) p → lines_of d (entry.Put r ∷ past) ≡ put r ∷ lines_of d past
closes_here d past r closed p owned same is =
    ap (λ front. front ++ lines_of d past)
    (at_own (owner past r) d (put r) (owned ∙ ap (λ id. opened_in id (records past)) same ∙ is.there))

closed_first : (d : DeviceSetup) (past : List Entry) (closed paid unpaid : ℕ) (p : Payment) (later : Phase) →
    Sure d (entry.Put (record_of.Closed closed paid unpaid) ∷ past) → IsOpened d.addr (lines_of d past) (records past) p →
    IsCloseIn p.id (lines_of d past) later →
    IsCloseIn p.id (lines_of d (entry.Put (record_of.Closed closed paid unpaid) ∷ past))
    (cond (closed == p.id) (Closed paid unpaid) later)
closed_first d past closed paid unpaid p later sure is before =
    let r = record_of.Closed closed paid unpaid in
    elim (cases_Bool (closed == p.id)) [
      | inl test ↦
          subst (λ b. IsCloseIn p.id (lines_of d (entry.Put r ∷ past)) (cond b (Closed paid unpaid) later)) (sym test)
          (ap (closed_as p.id) (closes_here d past r closed p refl (eqb-true closed p.id test) is)
          ∙ cond-true (closed == p.id) (Some (record { paid = paid; unpaid = unpaid })) (closed_as p.id (lines_of d past)) test)
      | inr test ↦
          subst (λ b. IsCloseIn p.id (lines_of d (entry.Put r ∷ past)) (cond b (Closed paid unpaid) later)) (sym test)
          (close_over d (entry.Put r ∷ []) past p.id later sure before)
    ]

-- that the life counts don't fit it is never recorded
odd_first : (d : DeviceSetup) (past : List Entry) (closed before after : ℕ) (p : Payment) (later : Phase) →
    Sure d (entry.Put (record_of.Odd closed before after) ∷ past) → IsOpened d.addr (lines_of d past) (records past) p →
    IsCloseIn p.id (lines_of d past) later →
    IsCloseIn p.id (lines_of d (entry.Put (record_of.Odd closed before after) ∷ past)) (cond (closed == p.id) Odd later)
odd_first d past closed before after p later sure is known =
    let r = record_of.Odd closed before after in
    elim (cases_Bool (closed == p.id)) [
      | inl test ↦ absurd (subst Paid (closes_here d past r closed p refl (eqb-true closed p.id test) is) sure.pays).0
      | inr test ↦
          subst (λ b. IsCloseIn p.id (lines_of d (entry.Put r ∷ past)) (cond b Odd later)) (sym test)
          (close_over d (entry.Put r ∷ []) past p.id later sure known)
    ]

record_closes : (d : DeviceSetup) (past : List Entry) (r : Record) (rs : List Record) (p : Payment) →
    Sure d (entry.Put r ∷ past) → IsOpened d.addr (lines_of d past) (records past) p →
    IsCloseIn p.id (lines_of d past) (closed_in p.id rs) →
    IsCloseIn p.id (lines_of d (entry.Put r ∷ past)) (closed_in p.id (r ∷ rs))
record_closes d past (record_of.Closed closed paid unpaid) rs p sure is before =
    closed_first d past closed paid unpaid p (closed_in p.id rs) sure is before
record_closes d past (record_of.Odd closed life_before life_after) rs p sure is before =
    odd_first d past closed life_before life_after p (closed_in p.id rs) sure is before
record_closes d past r rs p sure is before = close_over d (entry.Put r ∷ []) past p.id (closed_in p.id rs) sure before

pub closed_news : (d : DeviceSetup) (news past : List Entry) (p : Payment) → Sure d (news ++ past) →
    IsOpened d.addr (lines_of d past) (records past) p →
    IsCloseIn p.id (lines_of d (news ++ past)) (closed_in p.id (records news))
closed_news d [] past p sure is = tt
closed_news d (entry.Put r ∷ news) past p sure is =
    let before = sure_before d (entry.Put r ∷ []) (news ++ past) sure in
    record_closes d (news ++ past) r (records news) p sure (opened_over d news past p before is)
    (closed_news d news past p before is)
closed_news d (entry.Kept r ∷ news) past p sure is =
    let before = sure_before d (entry.Kept r ∷ []) (news ++ past) sure in
    record_closes d (news ++ past) r (records news) p (record { pays = sure.pays; fresh = sure.fresh })
    (opened_over d news past p before is) (closed_news d news past p before is)
closed_news d (e ∷ news) past p sure is =
    close_over d (e ∷ []) (news ++ past) p.id (closed_in p.id (records news)) sure
    (closed_news d news past p (sure_before d (e ∷ []) (news ++ past) sure) is)
