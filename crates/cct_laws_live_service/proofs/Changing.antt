-- What is reported of sessions of change is right by the coins that fell.
use Rattle.std.proofs.Common.{◌≡◌, ◌-◌, ◌+◌, ◌==◌, ℕ, Bool, true, false, cond, List, [], ◌∷◌, ◌++◌, Option, Some, None, Result, All, inl, inr, refl, sym, ap, ◌∙◌, subst, append_assoc, arith}
use Rattle.std.specs.Prelude.{MatchBool, ⊤}
use Rattle.std.specs.Option.{option_map}
use Rattle.std.proofs.lemmas.Bool.{eqb-true}
use Rattle.std.proofs.lemmas.List.{append-nil}
use Rattle.std.proofs.lemmas.List.Elements.{All-cons, All-head}
use Rattle.cct_model.specs.terms.device.Setup.{Setup}
use Rattle.cct_model.specs.lines.command.CommandNo.{CommandNo}
use Rattle.cct_model.specs.lines.command.Step.{Step}
use Rattle.cct_model.specs.lines.command.Step.TheVariants as step
use Rattle.cct_model.specs.lines.entry.Entry.{Entry}
use Rattle.cct_model.specs.lines.entry.Entry.TheVariants as entry_of
use Rattle.cct_model.specs.declared.change.Due.{Due}
use Rattle.cct_model.specs.declared.change.Payment.{Payment}
use Rattle.cct_model.specs.declared.change.Phase.{Phase}
use Rattle.cct_model.specs.declared.change.Phase.TheVariants.{Begun, Opened, Closed, Odd, Lost}
use Rattle.cct_model.specs.declared.change.Session.{Session}
use Rattle.cct_model.specs.declared.change.Tray.{Tray}
use Rattle.cct_model.specs.Change.{Desk, GoesOn, PaysNext, PaysOn, Serves, ServesDue, Settles, change_entry, changed, clear_desk, desk_after, gone_on, pay_entries, restocked, served, served_by, served_due, session_after, settled, settled_trays, short_entry, stock_left}
use Rattle.cct_model.specs.Refusal.{refusal}
use Rattle.cct_model.specs.Setup.{IsSoundSetup}
use Rattle.cct_laws_live_devices.specs.World.{is_told}
use Rattle.cct_laws_live_devices.specs.World as worlds
use Rattle.cct_edge.specs.declared.fault.Failed.{Failed}
use Rattle.cct_model.specs.Paid.{AreFresh}
use Rattle.cct_model.specs.Records.{records}
use Rattle.cct_laws_live_devices.proofs.Unseen.{alike_told}
use Rattle.cct_laws_live_devices.specs.Lives.{IsRightOver}
use Rattle.cct_live_port.specs.declared.port.Port.{Port}
use Rattle.cct_live_port.specs.Port.{Gives, faults_of, was_sent}
use Rattle.cct_live_survey.specs.Roll.{Rolled}
use Rattle.cct_live_service.specs.declared.served.Served.{Served}
use Rattle.cct_live_service.specs.declared.served.Served.TheVariants as served_as
use Rattle.cct_live_service.specs.declared.stopping.AtEnd.{AtEnd}
use Rattle.cct_live_service.specs.declared.watch.Watch.{Watch}
use Rattle.cct_live_service.specs.Hears.{Refusal}
use Rattle.cct_live_service.specs.Lived.{Lived}
use Rattle.cct_laws_change.specs.Change.{IsPaid, IsToldRight, IsWithin}
use Rattle.cct_laws_change.specs.Orders.{begun_anew, opened_of, orders_after}
use Rattle.cct_laws_change.proofs.News.{sure_before}
use Rattle.cct_laws_change.proofs.Serving.{asks_next, one_told, served_paid, served_trays, short_paid}
use Rattle.cct_laws_change.proofs.Sessions.{AreSure, HoldsBy, HoldsDue, Settled, by_over, by_restocked, by_stays, by_within, settles}
use Rattle.cct_laws_change.proofs.Trays.{AreTrays, clear_trays, restocked_trays}
use Rattle.cct_live_service.specs.AtDesk.{AtDesk, EndsShort, FollowsTo, GivesAt, answered, ended, seen_at}
use Rattle.cct_live_service.specs.Told.{Answer, Told, answer_news, entry, falls_short, news_of, operates, pay_of, pays, refused_for, taken, unsent, withheld_for}
use Rattle.cct_laws_live_service.specs.Sessions.{TellsRight}

-- what holds of a session that runs
abbrev pub HoldsOf : Setup → List Tray → List Entry → List Payment → Option Session → Type 0
HoldsOf setup trays past orders None = ⊤
HoldsOf setup trays past orders (Some s) = HoldsBy setup trays past orders s.amount s.rest s.due

-- over more that the session doesn't see
of_stays : (setup : Setup) (trays : List Tray) (news past : List Entry) (orders : List Payment) (session : Option Session) →
    AreSure setup past → AreSure setup (news ++ past) → HoldsOf setup trays past orders session →
    HoldsOf setup trays (news ++ past) orders session
of_stays setup trays news past orders None before sure is = tt
of_stays setup trays news past orders (Some s) before sure is =
    by_stays setup trays news past orders s.amount s.rest s.due before sure is

-- over an entry that it sees
of_seen : (setup : Setup) (trays : List Tray) (e : Entry) (past : List Entry) (orders : List Payment)
    (session : Option Session) → AreSure setup past → AreSure setup (e ∷ past) → HoldsOf setup trays past orders session →
    HoldsOf setup trays (e ∷ past) (opened_of (e ∷ []) session ++ orders) (option_map (session_after (e ∷ [])) session)
of_seen setup trays e past orders None before sure is = tt
of_seen setup trays e past orders (Some s) before sure is =
    by_over setup trays (e ∷ []) past orders s s.due before sure is

of_within : (setup : Setup) (trays : List Tray) (past : List Entry) (orders : List Payment) (session : Option Session) →
    AreSure setup past → HoldsOf setup trays past orders session → IsWithin setup past orders session
of_within setup trays past orders None sure is = tt
of_within setup trays past orders (Some s) sure is = by_within setup trays past orders s.amount s.rest s.due sure is

sure_end : (setup : Setup) (news past : List Entry) → AreSure setup (news ++ past) → AreSure setup past
sure_end setup news past sure d own paying = sure_before d news past (sure d own paying)

-- what a `serve` reports is right, whatever the host answers, and what holds of the session holds
-- at the operator's desk after it
abbrev ServesSo : Setup → List Entry → List Payment → Option Session → List Entry → Desk → Type 0
ServesSo setup past orders session news desk =
    All (IsToldRight setup past orders session) news × HoldsOf setup desk.trays past orders desk.session

pays_so : (setup : Setup) (past : List Entry) (orders : List Payment) (trays : List Tray) (s told : Session) (p : Payment)
    (why : Option CommandNo) → told.amount ≡ s.amount → AreTrays setup trays → PaysNext trays s p →
    Settled setup past orders s.amount s.rest →
    ServesSo setup past orders (Some told) (pay_entries s p why) (gone_on (pay_entries s p why) trays s)
pays_so setup past orders trays s told p None same are next is =
    (one_told (IsToldRight setup past orders (Some told)) (entry_of.Taken (pay_of p)) tt, (asks_next setup trays s p are next, is))
pays_so setup past orders trays s told p (Some why) same are next is = (
  All-cons (IsToldRight setup past orders (Some told)) (short_entry s) (entry_of.No (pay_of p) why ∷ [])
      (short_paid setup past orders s told same is)
      (one_told (IsToldRight setup past orders (Some told)) (entry_of.No (pay_of p) why) tt),
  tt,
)

pays_on_so : (capacity : ℕ) (setup : Setup) (other past news : List Entry) (orders : List Payment) (trays : List Tray)
    (s told : Session) → told.amount ≡ s.amount → AreTrays setup trays → Settled setup past orders s.amount s.rest →
    PaysOn capacity setup other trays s news → ServesSo setup past orders (Some told) news (gone_on news trays s)
pays_on_so capacity setup other past news orders trays s told same are is (inl stuck) =
    subst (λ es. ServesSo setup past orders (Some told) es (gone_on es trays s)) (sym stuck.1)
    (one_told (IsToldRight setup past orders (Some told)) (short_entry s) (short_paid setup past orders s told same is), tt)
pays_on_so capacity setup other past news orders trays s told same are is (inr paid) =
    subst (λ es. ServesSo setup past orders (Some told) es (gone_on es trays s)) (sym paid.2)
    (pays_so setup past orders trays s told paid.0 (refusal capacity setup other (pay_of paid.0)) same are paid.1 is)

goes_so : (capacity : ℕ) (setup : Setup) (other past news : List Entry) (orders : List Payment) (trays : List Tray)
    (s told : Session) → told.amount ≡ s.amount → AreTrays setup trays → Settled setup past orders s.amount s.rest →
    GoesOn capacity setup other trays s news → ServesSo setup past orders (Some told) news (gone_on news trays s)
goes_so capacity setup other past news orders trays s told same are is goes = by_rest (s.rest == 0) refl goes
  where
    by_rest : (all : Bool) → (s.rest == 0) ≡ all →
        MatchBool all (news ≡ entry_of.Served s.amount ∷ []) (PaysOn capacity setup other trays s news) →
        ServesSo setup past orders (Some told) news (gone_on news trays s)
    by_rest true all gives =
        subst (λ es. ServesSo setup past orders (Some told) es (gone_on es trays s)) (sym gives) (
          one_told (IsToldRight setup past orders (Some told)) (entry_of.Served s.amount)
              (served_paid setup past orders s told same (eqb-true s.rest 0 all) is),
          tt,
        )
    by_rest false some gives = pays_on_so capacity setup other past news orders trays s told same are is gives

-- by what became of its last payment
abbrev owing : ℕ → ℕ → ℕ → Payment → Phase → Session
owing amount rest next p phase =
    record { amount = amount; rest = rest; next = next; due = Some (record { payment = p; phase = phase }) }

waits_so : (setup : Setup) (past news : List Entry) (orders : List Payment) (trays : List Tray) (s : Session) (addr : ℕ) →
    HoldsOf setup trays past orders (Some s) → news ≡ entry_of.ServeWait addr ∷ [] →
    ServesSo setup past orders (Some s) news (record { session = Some s; trays = trays })
waits_so setup past news orders trays s addr is gives =
    subst (λ es. ServesSo setup past orders (Some s) es (record { session = Some s; trays = trays })) (sym gives)
    (one_told (IsToldRight setup past orders (Some s)) (entry_of.ServeWait addr) tt, is)

due_so : (capacity : ℕ) (setup : Setup) (other past news : List Entry) (orders : List Payment) (trays : List Tray)
    (amount rest next : ℕ) (p : Payment) (phase : Phase) → AreTrays setup trays → AreSure setup past →
    HoldsDue setup trays past orders amount rest p phase →
    Settles capacity setup other trays (owing amount rest next p phase) (record { payment = p; phase = phase }) phase news →
    ServesSo setup past orders (Some (owing amount rest next p phase)) news
    (served_due news trays (owing amount rest next p phase) (record { payment = p; phase = phase }) phase)
due_so capacity setup other past news orders trays amount rest next p Begun are sure is gives =
    waits_so setup past news orders trays (owing amount rest next p Begun) p.addr is gives
due_so capacity setup other past news orders trays amount rest next p Opened are sure is gives =
    waits_so setup past news orders trays (owing amount rest next p Opened) p.addr is gives
due_so capacity setup other past news orders trays amount rest next p Odd are sure is gives = absurd is
due_so capacity setup other past news orders trays amount rest next p (Closed paid unpaid) are sure is gives =
    let due : Due = record { payment = p; phase = Closed paid unpaid } in
    let s = owing amount rest next p (Closed paid unpaid) in
    goes_so capacity setup other past news orders (settled_trays due trays) (settled trays due s) s refl
    (restocked_trays setup p.addr (stock_left (Closed paid unpaid)) trays are)
    (settles setup trays past orders amount rest p (Closed paid unpaid) tt sure is) gives
due_so capacity setup other past news orders trays amount rest next p Lost are sure is gives =
    let due : Due = record { payment = p; phase = Lost } in
    let s = owing amount rest next p Lost in
    goes_so capacity setup other past news orders (settled_trays due trays) (settled trays due s) s refl
    (restocked_trays setup p.addr (stock_left Lost) trays are)
    (settles setup trays past orders amount rest p Lost tt sure is) gives

by_so : (capacity : ℕ) (setup : Setup) (other past news : List Entry) (orders : List Payment) (trays : List Tray)
    (amount rest next : ℕ) (due : Option Due) → AreTrays setup trays → AreSure setup past →
    HoldsBy setup trays past orders amount rest due →
    ServesDue capacity setup other trays (record { amount = amount; rest = rest; next = next; due = due }) due news →
    ServesSo setup past orders (Some (record { amount = amount; rest = rest; next = next; due = due })) news
    (served_by news trays (record { amount = amount; rest = rest; next = next; due = due }) due)
by_so capacity setup other past news orders trays amount rest next None are sure is gives =
    let s : Session = record { amount = amount; rest = rest; next = next; due = None } in
    goes_so capacity setup other past news orders trays s s refl are is gives
by_so capacity setup other past news orders trays amount rest next (Some due) are sure is gives =
    due_so capacity setup other past news orders trays amount rest next due.payment due.phase are sure is gives

serves_so : (capacity : ℕ) (setup : Setup) (other past news : List Entry) (orders : List Payment) (trays : List Tray)
    (session : Option Session) → AreTrays setup trays → AreSure setup past → HoldsOf setup trays past orders session →
    Serves capacity setup other trays session news → ServesSo setup past orders session news (served news trays session)
serves_so capacity setup other past news orders trays None are sure is gives =
    subst (λ es. ServesSo setup past orders None es (record { session = None; trays = trays })) (sym gives)
    (one_told (IsToldRight setup past orders None) entry_of.ServeIdle tt, tt)
serves_so capacity setup other past news orders trays (Some s) are sure is gives =
    by_so capacity setup other past news orders trays s.amount s.rest s.next s.due are sure is gives

-- a step at the operator's desk
record OperatesSo (setup : Setup) (past : List Entry) (orders : List Payment) (session : Option Session) (e : Entry)
    (left : List Payment) (desk : Desk) : Type 0 where
  told : IsToldRight setup past orders session e
  holds : HoldsOf setup desk.trays past left desk.session
  trays : AreTrays setup desk.trays

changes_so : (setup : Setup) (past : List Entry) (orders : List Payment) (trays : List Tray) (first amount : ℕ) (e : Entry)
    (session : Option Session) → AreTrays setup trays → HoldsOf setup trays past orders session →
    e ∷ [] ≡ change_entry first amount session ∷ [] →
    OperatesSo setup past orders session e (begun_anew session orders)
    (record { session = Some (changed first amount session); trays = trays })
changes_so setup past orders trays first amount e None are is gives = record {
  told = All-head (IsToldRight setup past orders None) e []
      (subst (All (IsToldRight setup past orders None)) (sym gives)
      (one_told (IsToldRight setup past orders None) (entry_of.ChangeOk first amount) tt));
  holds = record { closed = tt; sums = omega arith };
  trays = are;
}
changes_so setup past orders trays first amount e (Some s) are is gives = record {
  told = All-head (IsToldRight setup past orders (Some s)) e []
      (subst (All (IsToldRight setup past orders (Some s))) (sym gives)
      (one_told (IsToldRight setup past orders (Some s)) entry_of.ChangeNo tt));
  holds = is;
  trays = are;
}

stocked : (setup : Setup) (past : List Entry) (orders : List Payment) (trays : List Tray) (addr count : ℕ)
    (session : Option Session) → HoldsOf setup trays past orders session →
    HoldsOf setup (restocked addr (λ before. count) trays) past orders session
stocked setup past orders trays addr count None is = tt
stocked setup past orders trays addr count (Some s) is =
    by_restocked setup trays addr (λ before. count) past orders s.amount s.rest s.due is

operates_so : (setup : Setup) (past : List Entry) (orders : List Payment) (desk : Desk) (s : Step) (e : Entry) →
    GivesAt desk s e → AreTrays setup desk.trays → AreSure setup past → HoldsOf setup desk.trays past orders desk.session →
    OperatesSo setup past orders desk.session e (orders_after s (e ∷ []) desk orders) (desk_after s (e ∷ []) desk)
operates_so setup past orders desk (step.Stock addr count) e gives are sure is = record {
  told = All-head (IsToldRight setup past orders desk.session) e []
      (subst (All (IsToldRight setup past orders desk.session)) (sym (gives.1 0 setup []))
      (one_told (IsToldRight setup past orders desk.session) (entry_of.Stock addr count) tt));
  holds = stocked setup past orders desk.trays addr count desk.session is;
  trays = restocked_trays setup addr (λ before. count) desk.trays are;
}
operates_so setup past orders desk (step.Change first amount) e gives are sure is =
    changes_so setup past orders desk.trays first amount e desk.session are is (gives.1 0 setup [])
operates_so setup past orders desk step.Serve e gives are sure is =
    let so = serves_so 0 setup [] past (e ∷ []) orders desk.trays desk.session are sure is (gives.1 0 setup []) in
    record {
      told = All-head (IsToldRight setup past orders desk.session) e [] so.0;
      holds = so.1;
      trays = served_trays setup (e ∷ []) desk.trays desk.session are;
    }
operates_so setup past orders desk s e gives are sure is = absurd gives.0

-- a payment that a `serve` asks for: those before it are settled
abbrev amount_in : Option Session → ℕ
amount_in None = 0
amount_in (Some s) = s.amount

abbrev rest_in : Option Session → ℕ
rest_in None = 0
rest_in (Some s) = s.rest

abbrev runs : Option Session → Bool
runs None = false
runs (Some s) = true

record AsksSo (setup : Setup) (past : List Entry) (orders : List Payment) (trays : List Tray) (s : Session) : Type 0 where
  paid : Settled setup past orders s.amount s.rest
  are : AreTrays setup trays

module _ (setup : Setup) (past : List Entry) (orders : List Payment) (p : Payment) (left : List Tray) (asks : Session) where
  -- the same session goes on with it
  same_goes : (trays : List Tray) (s : Session) → AreTrays setup trays → Settled setup past orders s.amount s.rest →
      gone_on (entry_of.Taken (pay_of p) ∷ []) trays s ≡ gone_on (entry_of.Taken (pay_of p) ∷ []) left asks →
      AsksSo setup past orders left asks
  same_goes trays s are is same =
      let amounts : s.amount ≡ asks.amount = ap (λ desk. amount_in desk.session) same in
      let rests : s.rest ≡ asks.rest = ap (λ desk. rest_in desk.session) same in
      record {
        paid = subst (λ n. Settled setup past orders n asks.rest) amounts
            (subst (λ n. Settled setup past orders s.amount n) rests is);
        are = subst (AreTrays setup) (ap (λ desk. desk.trays) same) are;
      }

  due_asks : (trays : List Tray) (amount rest next : ℕ) (q : Payment) (phase : Phase) → AreTrays setup trays →
      AreSure setup past → HoldsDue setup trays past orders amount rest q phase →
      ((news : List Entry) → served_due news trays (owing amount rest next q phase) (record { payment = q; phase = phase }) phase
      ≡ gone_on news left asks) → AsksSo setup past orders left asks
  due_asks trays amount rest next q Begun are sure is same = let clash = ap (λ desk. runs desk.session) (same []) in absurd (cc clash)
  due_asks trays amount rest next q Opened are sure is same = let clash = ap (λ desk. runs desk.session) (same []) in absurd (cc clash)
  due_asks trays amount rest next q Odd are sure is same = absurd is
  due_asks trays amount rest next q (Closed paid unpaid) are sure is same =
      let due : Due = record { payment = q; phase = Closed paid unpaid } in
      let s = owing amount rest next q (Closed paid unpaid) in
      same_goes (settled_trays due trays) (settled trays due s)
      (restocked_trays setup q.addr (stock_left (Closed paid unpaid)) trays are)
      (settles setup trays past orders amount rest q (Closed paid unpaid) tt sure is)
      (same (entry_of.Taken (pay_of p) ∷ []))
  due_asks trays amount rest next q Lost are sure is same =
      let due : Due = record { payment = q; phase = Lost } in
      let s = owing amount rest next q Lost in
      same_goes (settled_trays due trays) (settled trays due s)
      (restocked_trays setup q.addr (stock_left Lost) trays are)
      (settles setup trays past orders amount rest q Lost tt sure is) (same (entry_of.Taken (pay_of p) ∷ []))

  by_asks : (trays : List Tray) (amount rest next : ℕ) (due : Option Due) → AreTrays setup trays → AreSure setup past →
      HoldsBy setup trays past orders amount rest due →
      ((news : List Entry) → served_by news trays (record { amount = amount; rest = rest; next = next; due = due }) due
      ≡ gone_on news left asks) → AsksSo setup past orders left asks
  by_asks trays amount rest next None are sure is same =
      same_goes trays (record { amount = amount; rest = rest; next = next; due = None }) are is
      (same (entry_of.Taken (pay_of p) ∷ []))
  by_asks trays amount rest next (Some due) are sure is same =
      due_asks trays amount rest next due.payment due.phase are sure is same

  session_asks : (trays : List Tray) (session : Option Session) → AreTrays setup trays → AreSure setup past →
      HoldsOf setup trays past orders session → ((news : List Entry) → served news trays session ≡ gone_on news left asks) →
      AsksSo setup past orders left asks
  session_asks trays None are sure is same =
      let clash = ap (λ desk. runs desk.session) (same (entry_of.Taken (pay_of p) ∷ [])) in absurd (cc clash)
  session_asks trays (Some s) are sure is same = by_asks trays s.amount s.rest s.next s.due are sure is same

-- and so it is at the operator's desk after its answer
answered_so : (setup : Setup) (past : List Entry) (orders : List Payment) (p : Payment) (answer : Answer) (desk : Desk)
    (s : Session) → PaysNext desk.trays s p → AsksSo setup past orders desk.trays s →
    HoldsOf setup (answered p answer desk s).trays past orders (answered p answer desk s).session
    × AreTrays setup (answered p answer desk s).trays
answered_so setup past orders p taken desk s next so = ((asks_next setup desk.trays s p so.are next, so.paid), so.are)
answered_so setup past orders p (refused_for why) desk s next so = (so.paid, so.are)
answered_so setup past orders p (withheld_for why) desk s next so = (so.paid, so.are)

-- what is reported of a session that falls short
abbrev paid_in : Entry → ℕ
paid_in (entry_of.Short paid rest) = paid
paid_in e = 0

abbrev rest_told : Entry → ℕ
rest_told (entry_of.Short paid rest) = rest
rest_told e = 0

-- a session that falls short
short_so : (setup : Setup) (past : List Entry) (orders : List Payment) (trays : List Tray) (session : Option Session)
    (paid rest : ℕ) → HoldsOf setup trays past orders session → EndsShort session paid rest →
    IsPaid setup past orders session paid rest
short_so setup past orders trays None paid rest is ends = absurd ends
short_so setup past orders trays (Some s) paid rest is ends =
    let settled_is = subst (HoldsBy setup trays past orders s.amount s.rest) ends.0 is in
    let same_paid : paid ≡ s.amount - s.rest = ap paid_in ends.1 in
    let same_rest : rest ≡ s.rest = ap rest_told ends.1 in
    let so = short_paid setup past orders s s refl settled_is in
    (ap (λ n. n + rest) same_paid ∙ ap (λ n. s.amount - s.rest + n) same_rest ∙ so.0, so.1 ∙ sym same_paid)

-- the last entry that hosts reported among others, and what is before and after it
record LastTold (later : List Entry) (e : Entry) (news : List Entry) : Type 0 where
  after : List Entry
  between : List Entry
  later_is : later ≡ after ++ (e ∷ between)
  told_is : worlds.told after ≡ news

last_told : (later : List Entry) (e : Entry) (news : List Entry) → worlds.told later ≡ news ++ e ∷ [] → LastTold later e news
last_told [] e [] is = cc is
last_told [] e (n ∷ news) is = cc is
last_told (x ∷ later) e news is = by_told (is_told x) refl (λ told same. last_told later e told same) news is
  where
    by_told : (shown : Bool) → is_told x ≡ shown →
        ((told : List Entry) → worlds.told later ≡ told ++ e ∷ [] → LastTold later e told) → (news : List Entry) →
        cond shown (x ∷ worlds.told later) (worlds.told later) ≡ news ++ e ∷ [] → LastTold (x ∷ later) e news
    by_told false unseen again news same =
        let rest = again news same in
        record {
          after = x ∷ rest.after;
          between = rest.between;
          later_is = ap (λ es. x ∷ es) rest.later_is;
          told_is = ap (λ b. cond b (x ∷ worlds.told rest.after) (worlds.told rest.after)) unseen ∙ rest.told_is;
        }
    by_told true seen again [] same = record {
      after = [];
      between = later;
      later_is = ap (λ y. y ∷ later) (first_same same);
      told_is = refl;
    }
      where
        first_same : (x ∷ worlds.told later) ≡ (e ∷ []) → x ≡ e
        first_same all = cc all
    by_told true seen again (n ∷ news) same =
        let rest = again news (rest_same same) in
        record {
          after = x ∷ rest.after;
          between = rest.between;
          later_is = ap (λ es. x ∷ es) rest.later_is;
          told_is = ap (λ b. cond b (x ∷ worlds.told rest.after) (worlds.told rest.after)) seen
              ∙ ap (λ es. x ∷ es) rest.told_is ∙ ap (λ y. y ∷ news) (first_same same);
        }
      where
        first_same : (x ∷ worlds.told later) ≡ (n ∷ (news ++ e ∷ [])) → x ≡ n
        first_same all = cc all

        rest_same : (x ∷ worlds.told later) ≡ (n ∷ (news ++ e ∷ [])) → worlds.told later ≡ news ++ e ∷ []
        rest_same all = cc all

-- a world, where hosts reported some of it last
record SplitsAt (world news : List Entry) : Type 0 where
  later : List Entry
  before : List Entry
  world_is : world ≡ later ++ before
  told_is : worlds.told later ≡ news

split_at : (world news past : List Entry) → worlds.told world ≡ news ++ past → SplitsAt world news
split_at world [] past is = record { later = []; before = world; world_is = refl; told_is = refl }
split_at [] (n ∷ news) past is = cc is
split_at (x ∷ world) (n ∷ news) past is = by_told (is_told x) refl (λ told same. split_at world told past same) is
  where
    by_told : (shown : Bool) → is_told x ≡ shown →
        ((told : List Entry) → worlds.told world ≡ told ++ past → SplitsAt world told) →
        cond shown (x ∷ worlds.told world) (worlds.told world) ≡ (n ∷ news) ++ past → SplitsAt (x ∷ world) (n ∷ news)
    by_told false unseen again same =
        let rest = again (n ∷ news) same in
        record {
          later = x ∷ rest.later;
          before = rest.before;
          world_is = ap (λ es. x ∷ es) rest.world_is;
          told_is = ap (λ b. cond b (x ∷ worlds.told rest.later) (worlds.told rest.later)) unseen ∙ rest.told_is;
        }
    by_told true seen again same =
        let rest = again news (rest_same same) in
        record {
          later = x ∷ rest.later;
          before = rest.before;
          world_is = ap (λ es. x ∷ es) rest.world_is;
          told_is = ap (λ b. cond b (x ∷ worlds.told rest.later) (worlds.told rest.later)) seen
              ∙ ap (λ es. x ∷ es) rest.told_is ∙ ap (λ y. y ∷ news) (first_same same);
        }
      where
        first_same : (x ∷ worlds.told world) ≡ (n ∷ (news ++ past)) → x ≡ n
        first_same all = cc all

        rest_same : (x ∷ worlds.told world) ≡ (n ∷ (news ++ past)) → worlds.told world ≡ news ++ past
        rest_same all = cc all

-- what has come of a session up to some moment of a world: what hosts reported later is this
record Stands (setup : Setup) (world : List Entry) (desk : Desk) (orders : List Payment) (news : List Entry) : Type 0 where
  later : List Entry
  before : List Entry
  world_is : world ≡ later ++ before
  told_is : worlds.told later ≡ news
  holds : HoldsOf setup desk.trays before orders desk.session
  trays : AreTrays setup desk.trays

module _ (setup : Setup) (world : List Entry) (sure : AreSure setup world) where
  -- in all of the world
  at_end : (desk : Desk) (orders : List Payment) (news : List Entry) (at : Stands setup world desk orders news) →
      AreSure setup at.before × HoldsOf setup desk.trays world orders desk.session
  at_end desk orders news at =
      let whole = subst (AreSure setup) at.world_is sure in
      let before = sure_end setup at.later at.before whole in (
        before,
        subst (λ es. HoldsOf setup desk.trays es orders desk.session) (sym at.world_is)
            (of_stays setup desk.trays at.later at.before orders desk.session before whole at.holds),
      )

  within_at : (desk : Desk) (orders : List Payment) (news : List Entry) → Stands setup world desk orders news →
      IsWithin setup world orders desk.session
  within_at desk orders news at =
      of_within setup desk.trays world orders desk.session sure (at_end desk orders news at).1

  -- up to the next entry that hosts reported, and over it
  record NextTold (desk : Desk) (orders : List Payment) (e : Entry) (news : List Entry) : Type 0 where
    later : List Entry
    before : List Entry
    world_is : world ≡ later ++ (e ∷ before)
    told_is : worlds.told later ≡ news
    holds : HoldsOf setup desk.trays before orders desk.session
    until : AreSure setup before
    over : AreSure setup (e ∷ before)

  next_told : (desk : Desk) (orders : List Payment) (e : Entry) (news : List Entry) →
      Stands setup world desk orders (news ++ e ∷ []) → NextTold desk orders e news
  next_told desk orders e news at =
      let last = last_told at.later e news at.told_is in
      let here : world ≡ last.after ++ (e ∷ (last.between ++ at.before)) =
      at.world_is ∙ ap (λ es. es ++ at.before) last.later_is ∙ append_assoc last.after (e ∷ last.between) at.before in
      let over = sure_end setup last.after (e ∷ (last.between ++ at.before)) (subst (AreSure setup) here sure) in
      let until = sure_end setup (e ∷ []) (last.between ++ at.before) over in
      record {
        later = last.after;
        before = last.between ++ at.before;
        world_is = here;
        told_is = last.told_is;
        holds = of_stays setup desk.trays last.between at.before orders desk.session
            (sure_end setup last.between at.before until) until at.holds;
        until = until;
        over = over;
      }

  seen_on : (desk : Desk) (orders : List Payment) (e : Entry) (news : List Entry) →
      Stands setup world desk orders (news ++ e ∷ []) →
      Stands setup world (seen_at e desk) (opened_of (e ∷ []) desk.session ++ orders) news
  seen_on desk orders e news at =
      let next = next_told desk orders e news at in
      record {
        later = next.later;
        before = e ∷ next.before;
        world_is = next.world_is;
        told_is = next.told_is;
        holds = of_seen setup desk.trays e next.before orders desk.session next.until next.over next.holds;
        trays = at.trays;
      }

  passed_on : (desk : Desk) (orders : List Payment) (e : Entry) (news : List Entry) →
      Stands setup world desk orders (news ++ e ∷ []) → Stands setup world desk orders news
  passed_on desk orders e news at =
      let next = next_told desk orders e news at in
      record {
        later = next.later;
        before = e ∷ next.before;
        world_is = next.world_is;
        told_is = next.told_is;
        holds = of_stays setup desk.trays (e ∷ []) next.before orders desk.session next.until next.over next.holds;
        trays = at.trays;
      }

  answer_on : (desk : Desk) (orders : List Payment) (p : Payment) (answer : Answer) (news : List Entry) →
      Stands setup world desk orders (news ++ answer_news p answer) → Stands setup world desk orders news
  answer_on desk orders p taken news at = passed_on desk orders (entry_of.Taken (pay_of p)) news at
  answer_on desk orders p (refused_for why) news at = passed_on desk orders (entry_of.No (pay_of p) why) news at
  answer_on desk orders p (withheld_for why) news at =
      subst (Stands setup world desk orders) (append-nil news) at

  -- at another desk, with other orders
  stands_as : (desk other : Desk) (orders left : List Payment) (news : List Entry)
      (at : Stands setup world desk orders news) → HoldsOf setup other.trays at.before left other.session →
      AreTrays setup other.trays → Stands setup world other left news
  stands_as desk other orders left news at holds trays = record {
    later = at.later;
    before = at.before;
    world_is = at.world_is;
    told_is = at.told_is;
    holds = holds;
    trays = trays;
  }

  tells_right : (told : List Told) (desk last : Desk) (orders : List Payment) → AtDesk desk last told →
      Stands setup world desk orders (news_of told) → TellsRight setup world desk orders told
  tells_right [] desk last orders h at = within_at desk orders [] at
  tells_right (entry e ∷ told) desk last orders h at = (
    within_at desk orders (news_of told ++ e ∷ []) at,
    tells_right told (seen_at e desk) last (opened_of (e ∷ []) desk.session ++ orders) h
        (seen_on desk orders e (news_of told) at),
  )
  tells_right (unsent addr sent ∷ told) desk last orders h at =
      tells_right told desk last orders h (passed_on desk orders (entry_of.Wire addr sent []) (news_of told) at)
  tells_right (operates s e ∷ told) desk last orders h at =
      let end = at_end desk orders (news_of told) at in
      let here = operates_so setup at.before orders desk s e h.0 at.trays end.0 at.holds in
      let there = operates_so setup world orders desk s e h.0 at.trays sure end.1 in (
        within_at desk orders (news_of told) at,
        there.told,
        tells_right told (desk_after s (e ∷ []) desk) last (orders_after s (e ∷ []) desk orders) h.1
            (stands_as desk (desk_after s (e ∷ []) desk) orders (orders_after s (e ∷ []) desk orders) (news_of told) at here.holds
            here.trays),
      )
  tells_right (pays p answer ∷ told) desk last orders h at =
      let asked = h.0 in
      let asks = h.1 in
      let s = asks.session in
      let then = answer_on desk orders p answer (news_of told) at in
      let end = at_end desk orders (news_of told) then in
      let so = session_asks setup then.before orders p asked.trays s desk.trays desk.session then.trays end.0 then.holds asks.desk in
      let on = answered_so setup then.before orders p answer asked s asks.next so in (
        within_at desk orders (news_of told ++ answer_news p answer) at,
        (
          asked,
          asks,
          tells_right told (answered p answer asked s) last orders h.2
              (stands_as desk (answered p answer asked s) orders orders (news_of told) then on.0 on.1),
        ),
      )
  tells_right (falls_short p paid rest ∷ told) desk last orders h at =
      let end = at_end desk orders (news_of told) at in (
        within_at desk orders (news_of told) at,
        short_so setup world orders desk.trays desk.session paid rest end.1 h.0,
        tells_right told (ended desk) last orders h.1 (stands_as desk (ended desk) orders orders (news_of told) at tt at.trays),
      )
  tells_right (what ∷ told) desk last orders h at = tells_right told desk last orders h at

  -- from a desk at which nothing was done
  pub sessions_right : IsSoundSetup setup → (told : List Told) (last : Desk) (past : List Entry) →
      worlds.told world ≡ news_of told ++ past → AtDesk (clear_desk setup) last told →
      TellsRight setup world (clear_desk setup) [] told
  sessions_right sound told last past is h =
      let split = split_at world (news_of told) past is in
      tells_right told (clear_desk setup) last [] h (record {
        later = split.later;
        before = split.before;
        world_is = split.world_is;
        told_is = split.told_is;
        holds = tt;
        trays = clear_trays setup sound;
      })

-- what a service reported up to its end goes by the desk
followed : (how : Served) (desk left_desk : Desk) (told : List Told) → FollowsTo how desk left_desk told →
    (last : Desk) × AtDesk desk last told
followed served_as.Unwritten desk left_desk told h = h
followed served_as.Disk desk left_desk told h = h
followed served_as.Done desk left_desk told h = (left_desk, h)
followed (served_as.Refused number kind) desk left_desk told h = (left_desk, h)
followed served_as.Unread desk left_desk told h = (left_desk, h)
followed (served_as.OtherSize len) desk left_desk told h = (left_desk, h)
followed served_as.Alien desk left_desk told h = (left_desk, h)
followed (served_as.BadRecord index) desk left_desk told h = (left_desk, h)

-- hoppers are sure where the money is right
right_sure : (setup : Setup) (fallen past : List Entry) (right : IsRightOver setup fallen past) → AreSure setup right.world
right_sure setup fallen past right d own paying = record {
  pays = right.right.paid d own paying;
  fresh = subst AreFresh (sym ((alike_told right.world).recorded ∙ ap records right.over.tells)) right.right.fresh;
}

module _ {L : Type 0} (reads : L → Option (List ℕ) → L → Type 0) (writes : L → List ℕ → Result (Unit {0}) Failed → L → Type 0)
    {K : Type 0} (written : K → Option (List ℕ)) (puts : K → List ℕ → Result (Unit {0}) Failed → K → Type 0)
    {D : Type 0} (size : D → ℕ) (honest : D → Bool) (seen : D → Option (List ℕ)) (may_leave : D → List ℕ → Type 0)
    (moment : D → ℕ) (left_since : D → ℕ → List ℕ → Type 0) (cuts : D → ℕ) where
  pub service_sessions : (setup : Setup) → IsSoundSetup setup → (first last : Port L) (watch watch_then : Watch) (roll now : Rolled) (left_desk : Desk) (missed missed_then : ℕ) (Heard : List Refusal → Type 0)
      (ends : AtEnd) (left : Option (List ℕ)) (how : Served) (old new : K) (given back : D) →
      (service : Lived written puts (Gives reads writes) was_sent faults_of size honest seen may_leave moment left_since cuts
      given back setup roll now (clear_desk setup) left_desk missed missed_then Heard ends left how old new
      (record { link = first; watch = watch }) (record { link = last; watch = watch_then })) →
      (fallen whole : List Entry) (right : IsRightOver setup fallen (news_of service.told ++ whole)) →
      TellsRight setup right.world (clear_desk setup) [] service.told
  service_sessions setup sound first last watch watch_then roll now left_desk missed missed_then Heard ends left how old new given back service fallen whole right =
      let at = followed how (clear_desk setup) left_desk service.told service.at_desk in
      sessions_right setup right.world (right_sure setup fallen (news_of service.told ++ whole) right) sound service.told at.0 whole
      right.over.tells at.1
