-- What a `serve` and a `change` do with a session: what they report is right, and what holds of it
-- holds after them.
use Rattle.std.proofs.Common.{◌≡◌, ℕ, ◌-◌, ◌≤◌, ◌==◌, Bool, true, false, List, [], ◌∷◌, ◌++◌, refl, sym, subst, Option, Some, None, inl, inr, All, arith}
use Rattle.std.specs.Prelude.{MatchBool}
use Rattle.std.proofs.lemmas.Bool.{eqb-true}
use Rattle.std.proofs.lemmas.List.Elements.{All-cons, All-nil}
use Rattle.cct_model.specs.terms.device.Setup.{Setup}
use Rattle.cct_model.specs.lines.command.Command.TheVariants as command
use Rattle.cct_model.specs.lines.command.CommandNo.{CommandNo}
use Rattle.cct_model.specs.lines.entry.Entry.{Entry}
use Rattle.cct_model.specs.lines.entry.Entry.TheVariants as entry
use Rattle.cct_model.specs.declared.change.Due.{Due}
use Rattle.cct_model.specs.declared.change.Payment.{Payment}
use Rattle.cct_model.specs.declared.change.Phase.{Phase}
use Rattle.cct_model.specs.declared.change.Phase.TheVariants.{Begun, Opened, Closed, Odd, Lost}
use Rattle.cct_model.specs.declared.change.Session.{Session}
use Rattle.cct_model.specs.declared.change.Tray.{Tray}
use Rattle.cct_model.specs.Change.{Desk, GoesOn, PaysNext, PaysOn, Serves, ServesDue, Settles, change_entry, changed, gone_on, pay_entries, restocked, served, served_by, served_due, settled, settled_trays, short_entry, stock_left}
use Rattle.cct_model.specs.Money.{coins_of}
use Rattle.cct_model.specs.Refusal.{refusal}
use Rattle.cct_laws_change.specs.Change.{IsPaid, IsToldRight, told_paid}
use Rattle.cct_laws_change.specs.Orders.{begun_anew}
use Rattle.cct_laws_change.proofs.Sessions.{AreSure, Holds, HoldsBy, HoldsDue, IsAsked, Settled, holds_restocked, holds_stays, settled_over, settles}
use Rattle.cct_laws_change.proofs.Trays.{AreTrays, first_is, restocked_trays}

-- what a step reports of a session is right, and what holds of it holds at the operator's desk
-- after it
pub record GoesRight (setup : Setup) (past : List Entry) (orders : List Payment) (session : Option Session)
    (news : List Entry) (left : List Payment) (desk : Desk) : Type 0 where
  pub told : All (IsToldRight setup past orders session) news
  pub holds : AreSure setup (news ++ past) → Holds setup desk.trays (news ++ past) left desk.session

-- so it is over an equation of its entries
right_as : (setup : Setup) (past : List Entry) (orders : List Payment) (session : Option Session) (news is : List Entry)
    (left : List Payment) (desk : List Entry → Desk) → news ≡ is → GoesRight setup past orders session is left (desk is) →
    GoesRight setup past orders session news left (desk news)
right_as setup past orders session news is left desk same right =
    subst (λ es. GoesRight setup past orders session es left (desk es)) (sym same) right

pub one_told : (P : Entry → Type 0) (e : Entry) → P e → All P (e ∷ [])
one_told P e is = All-cons P e [] is (All-nil P)

-- a session whose payments are settled reports rightly that it was served, or that it fell short
pub served_paid : (setup : Setup) (past : List Entry) (orders : List Payment) (s told : Session) → told.amount ≡ s.amount →
    s.rest ≡ 0 → Settled setup past orders s.amount s.rest → IsPaid setup past orders (Some told) s.amount 0
served_paid setup past orders s told same none is =
    let sums = is.sums in (omega (arith, same), omega (arith, sums, none))

pub short_paid : (setup : Setup) (past : List Entry) (orders : List Payment) (s told : Session) → told.amount ≡ s.amount →
    Settled setup past orders s.amount s.rest → IsPaid setup past orders (Some told) (s.amount - s.rest) s.rest
short_paid setup past orders s told same is =
    let sums = is.sums in (omega (arith, same, sums), omega (arith, sums))

-- and from then on its orders are settled at what it reported
served_holds : (setup : Setup) (past : List Entry) (orders : List Payment) (s : Session) → s.rest ≡ 0 → AreSure setup past →
    AreSure setup (entry.Served s.amount ∷ past) → Settled setup past orders s.amount s.rest →
    Settled setup (entry.Served s.amount ∷ past) orders s.amount 0
served_holds setup past orders s none before sure is =
    subst (Settled setup (entry.Served s.amount ∷ past) orders s.amount) none
    (settled_over setup (entry.Served s.amount ∷ []) past orders s.amount s.rest before sure is)

short_holds : (setup : Setup) (news past : List Entry) (orders : List Payment) (s : Session) → AreSure setup past →
    AreSure setup (news ++ past) → Settled setup past orders s.amount s.rest →
    Settled setup (news ++ past) orders (s.amount - s.rest) 0
short_holds setup news past orders s before sure is =
    let later = settled_over setup news past orders s.amount s.rest before sure is in
    let sums = later.sums in
    record { closed = later.closed; sums = omega (arith, sums) }

-- it pays on with a payment that fits the rest
pub asks_next : (setup : Setup) (trays : List Tray) (s : Session) (p : Payment) → AreTrays setup trays → PaysNext trays s p →
    IsAsked setup trays s.rest p
asks_next setup trays s p are next =
    let first = first_is setup trays next.counts p.addr p.count are next.pays in
    record {
      hopper = first.hopper;
      fits = subst (λ n. coins_of setup p.addr p.count ≤ n) next.chosen.fewest.plan.pays first.fits;
      value_is = first.value_is;
    }

pays_right : (setup : Setup) (past : List Entry) (orders : List Payment) (trays : List Tray) (s told : Session)
    (p : Payment) (why : Option CommandNo) → told_paid past ≡ None → told.amount ≡ s.amount → AreTrays setup trays →
    PaysNext trays s p → AreSure setup past → Settled setup past orders s.amount s.rest →
    GoesRight setup past orders (Some told) (pay_entries s p why) orders (gone_on (pay_entries s p why) trays s)
pays_right setup past orders trays s told p None none same are next before is = record {
  told = one_told (IsToldRight setup past orders (Some told)) (entry.Taken (command.Pay p.addr p.id p.count)) tt;
  holds = λ sure. (
    none,
    (
      asks_next setup trays s p are next,
      settled_over setup (entry.Taken (command.Pay p.addr p.id p.count) ∷ []) past orders s.amount s.rest before sure is,
    ),
  );
}
pays_right setup past orders trays s told p (Some why) none same are next before is = record {
  told = All-cons (IsToldRight setup past orders (Some told)) (short_entry s)
      (entry.No (command.Pay p.addr p.id p.count) why ∷ []) (short_paid setup past orders s told same is)
      (one_told (IsToldRight setup past orders (Some told)) (entry.No (command.Pay p.addr p.id p.count) why) tt);
  holds = λ sure.
      short_holds setup (short_entry s ∷ entry.No (command.Pay p.addr p.id p.count) why ∷ []) past orders s before sure is;
}

-- so it is with each way in which it goes on
pays_on_right : (capacity : ℕ) (setup : Setup) (past news : List Entry) (orders : List Payment) (trays : List Tray)
    (s told : Session) → told_paid past ≡ None → told.amount ≡ s.amount → AreTrays setup trays → AreSure setup past →
    Settled setup past orders s.amount s.rest → PaysOn capacity setup past trays s news →
    GoesRight setup past orders (Some told) news orders (gone_on news trays s)
pays_on_right capacity setup past news orders trays s told none same are before is (inl stuck) =
    right_as setup past orders (Some told) news (short_entry s ∷ []) orders (λ es. gone_on es trays s) stuck.1 (record {
      told = one_told (IsToldRight setup past orders (Some told)) (short_entry s)
          (short_paid setup past orders s told same is);
      holds = λ sure. short_holds setup (short_entry s ∷ []) past orders s before sure is;
    })
pays_on_right capacity setup past news orders trays s told none same are before is (inr paid) =
    let p = paid.0 in
    let why = refusal capacity setup past (command.Pay p.addr p.id p.count) in
    right_as setup past orders (Some told) news (pay_entries s p why) orders (λ es. gone_on es trays s) paid.2
    (pays_right setup past orders trays s told p why none same are paid.1 before is)

goes_on_right : (capacity : ℕ) (setup : Setup) (past news : List Entry) (orders : List Payment) (trays : List Tray)
    (s told : Session) → told_paid past ≡ None → told.amount ≡ s.amount → AreTrays setup trays → AreSure setup past →
    Settled setup past orders s.amount s.rest → GoesOn capacity setup past trays s news →
    GoesRight setup past orders (Some told) news orders (gone_on news trays s)
goes_on_right capacity setup past news orders trays s told none same are before is goes =
    by_rest (s.rest == 0) refl goes
  where
    by_rest : (all : Bool) → (s.rest == 0) ≡ all →
        MatchBool all (news ≡ entry.Served s.amount ∷ []) (PaysOn capacity setup past trays s news) →
        GoesRight setup past orders (Some told) news orders (gone_on news trays s)
    by_rest true all gives =
        right_as setup past orders (Some told) news (entry.Served s.amount ∷ []) orders (λ es. gone_on es trays s) gives
        (record {
          told = one_told (IsToldRight setup past orders (Some told)) (entry.Served s.amount)
              (served_paid setup past orders s told same (eqb-true s.rest 0 all) is);
          holds = λ sure. served_holds setup past orders s (eqb-true s.rest 0 all) before sure is;
        })
    by_rest false some gives = pays_on_right capacity setup past news orders trays s told none same are before is gives

-- a session that waits stays as it is
waits_right : (setup : Setup) (past news : List Entry) (orders : List Payment) (trays : List Tray) (s : Session)
    (addr : ℕ) → AreSure setup past → Holds setup trays past orders (Some s) → news ≡ entry.ServeWait addr ∷ [] →
    GoesRight setup past orders (Some s) news orders (record { session = Some s; trays = trays })
waits_right setup past news orders trays s addr before is gives =
    right_as setup past orders (Some s) news (entry.ServeWait addr ∷ []) orders
    (λ es. record { session = Some s; trays = trays }) gives (record {
      told = one_told (IsToldRight setup past orders (Some s)) (entry.ServeWait addr) tt;
      holds = λ sure. holds_stays setup trays (entry.ServeWait addr ∷ []) past orders (Some s) refl before sure is;
    })

-- by what became of its last payment
abbrev owing : ℕ → ℕ → ℕ → Payment → Phase → Session
owing amount rest next p phase =
    record { amount = amount; rest = rest; next = next; due = Some (record { payment = p; phase = phase }) }

due_right : (capacity : ℕ) (setup : Setup) (past news : List Entry) (orders : List Payment) (trays : List Tray)
    (amount rest next : ℕ) (p : Payment) (phase : Phase) → told_paid past ≡ None → AreTrays setup trays →
    AreSure setup past → HoldsDue setup trays past orders amount rest p phase →
    Settles capacity setup past trays (owing amount rest next p phase) (record { payment = p; phase = phase }) phase news →
    GoesRight setup past orders (Some (owing amount rest next p phase)) news orders
    (served_due news trays (owing amount rest next p phase) (record { payment = p; phase = phase }) phase)
due_right capacity setup past news orders trays amount rest next p Begun none are before is gives =
    waits_right setup past news orders trays (owing amount rest next p Begun) p.addr before (none, is) gives
due_right capacity setup past news orders trays amount rest next p Opened none are before is gives =
    waits_right setup past news orders trays (owing amount rest next p Opened) p.addr before (none, is) gives
due_right capacity setup past news orders trays amount rest next p Odd none are before is gives = absurd is
due_right capacity setup past news orders trays amount rest next p (Closed paid unpaid) none are before is gives =
    let due : Due = record { payment = p; phase = Closed paid unpaid } in
    let s = owing amount rest next p (Closed paid unpaid) in
    goes_on_right capacity setup past news orders (settled_trays due trays) (settled trays due s) s none refl
    (restocked_trays setup p.addr (stock_left (Closed paid unpaid)) trays are) before
    (settles setup trays past orders amount rest p (Closed paid unpaid) tt before is) gives
due_right capacity setup past news orders trays amount rest next p Lost none are before is gives =
    let due : Due = record { payment = p; phase = Lost } in
    let s = owing amount rest next p Lost in
    goes_on_right capacity setup past news orders (settled_trays due trays) (settled trays due s) s none refl
    (restocked_trays setup p.addr (stock_left Lost) trays are) before
    (settles setup trays past orders amount rest p Lost tt before is) gives

by_right : (capacity : ℕ) (setup : Setup) (past news : List Entry) (orders : List Payment) (trays : List Tray)
    (amount rest next : ℕ) (due : Option Due) → told_paid past ≡ None → AreTrays setup trays → AreSure setup past →
    HoldsBy setup trays past orders amount rest due →
    ServesDue capacity setup past trays (record { amount = amount; rest = rest; next = next; due = due }) due news →
    GoesRight setup past orders (Some (record { amount = amount; rest = rest; next = next; due = due })) news orders
    (served_by news trays (record { amount = amount; rest = rest; next = next; due = due }) due)
by_right capacity setup past news orders trays amount rest next None none are before is gives =
    let s : Session = record { amount = amount; rest = rest; next = next; due = None } in
    goes_on_right capacity setup past news orders trays s s none refl are before is gives
by_right capacity setup past news orders trays amount rest next (Some due) none are before is gives =
    due_right capacity setup past news orders trays amount rest next due.payment due.phase none are before is gives

pub serves_right : (capacity : ℕ) (setup : Setup) (past news : List Entry) (orders : List Payment) (trays : List Tray)
    (session : Option Session) → AreTrays setup trays → AreSure setup past → Holds setup trays past orders session →
    Serves capacity setup past trays session news →
    GoesRight setup past orders session news orders (served news trays session)
serves_right capacity setup past news orders trays None are before is gives =
    right_as setup past orders None news (entry.ServeIdle ∷ []) orders (λ es. record { session = None; trays = trays })
    gives (record {
      told = one_told (IsToldRight setup past orders None) entry.ServeIdle tt;
      holds = λ sure. holds_stays setup trays (entry.ServeIdle ∷ []) past orders None refl before sure is;
    })
serves_right capacity setup past news orders trays (Some s) are before is gives =
    by_right capacity setup past news orders trays s.amount s.rest s.next s.due is.0 are before is.1 gives

-- the trays stay those of the hoppers
gone_trays : (setup : Setup) (news : List Entry) (trays : List Tray) (s : Session) → AreTrays setup trays →
    AreTrays setup (gone_on news trays s).trays
gone_trays setup (entry.Taken (command.Pay addr id count) ∷ news) trays s are = are
gone_trays setup news trays s are = are

due_trays : (setup : Setup) (news : List Entry) (trays : List Tray) (s : Session) (due : Due) (phase : Phase) →
    AreTrays setup trays → AreTrays setup (served_due news trays s due phase).trays
due_trays setup news trays s due Begun are = are
due_trays setup news trays s due Opened are = are
due_trays setup news trays s due Odd are = are
due_trays setup news trays s due phase are =
    gone_trays setup news (settled_trays due trays) (settled trays due s)
    (restocked_trays setup due.payment.addr (stock_left due.phase) trays are)

by_trays : (setup : Setup) (news : List Entry) (trays : List Tray) (s : Session) (due : Option Due) →
    AreTrays setup trays → AreTrays setup (served_by news trays s due).trays
by_trays setup news trays s None are = gone_trays setup news trays s are
by_trays setup news trays s (Some due) are = due_trays setup news trays s due due.phase are

pub served_trays : (setup : Setup) (news : List Entry) (trays : List Tray) (session : Option Session) →
    AreTrays setup trays → AreTrays setup (served news trays session).trays
served_trays setup news trays None are = are
served_trays setup news trays (Some s) are = by_trays setup news trays s s.due are

-- a session begins with no orders, and where one runs it goes on
pub changes_right : (setup : Setup) (past news : List Entry) (orders : List Payment) (trays : List Tray)
    (first amount : ℕ) (session : Option Session) → AreSure setup past → Holds setup trays past orders session →
    news ≡ change_entry first amount session ∷ [] →
    GoesRight setup past orders session news (begun_anew session orders)
    (record { session = Some (changed first amount session); trays = trays })
changes_right setup past news orders trays first amount None before is gives =
    right_as setup past orders None news (entry.ChangeOk first amount ∷ []) []
    (λ es. record { session = Some (changed first amount None); trays = trays }) gives (record {
      told = one_told (IsToldRight setup past orders None) (entry.ChangeOk first amount) tt;
      holds = λ sure. (refl, record { closed = tt; sums = omega arith });
    })
changes_right setup past news orders trays first amount (Some s) before is gives =
    right_as setup past orders (Some s) news (entry.ChangeNo ∷ []) orders
    (λ es. record { session = Some s; trays = trays }) gives (record {
      told = one_told (IsToldRight setup past orders (Some s)) entry.ChangeNo tt;
      holds = λ sure. holds_stays setup trays (entry.ChangeNo ∷ []) past orders (Some s) refl before sure is;
    })

-- a stock that is reported changes no session
pub stocks_right : (setup : Setup) (past news : List Entry) (orders : List Payment) (trays : List Tray)
    (addr count : ℕ) (session : Option Session) → AreSure setup past → Holds setup trays past orders session →
    news ≡ entry.Stock addr count ∷ [] →
    GoesRight setup past orders session news orders
    (record { session = session; trays = restocked addr (λ before. count) trays })
stocks_right setup past news orders trays addr count session before is gives =
    right_as setup past orders session news (entry.Stock addr count ∷ []) orders
    (λ es. record { session = session; trays = restocked addr (λ before. count) trays }) gives (record {
      told = one_told (IsToldRight setup past orders session) (entry.Stock addr count) tt;
      holds = λ sure.
          holds_restocked setup trays addr (λ before. count) (entry.Stock addr count ∷ past) orders session
          (holds_stays setup trays (entry.Stock addr count ∷ []) past orders session refl before sure is);
    })
