-- What holds of a session of change after each step: what fell for its settled orders, and what is still left of its amount,
-- are the amount together; and its last order is no more than what is left.
use Rattle.std.proofs.Common.{◌≡◌, ℕ, ◌+◌, ◌-◌, ◌*◌, ◌≤◌, Bool, true, false, cond, List, [], ◌∷◌, ◌++◌, refl, ap, sym, ◌∙◌, subst, Option, Some, None, arith}
use Rattle.std.specs.Prelude.{⊤}
use Rattle.std.specs.List.{list_any}
use Rattle.std.specs.Option.{IfSome, option_map}
use Rattle.std.proofs.Math.Nat.{mul-le-mul_right}
use Rattle.cct_model.specs.terms.device.DeviceSetup.{DeviceSetup}
use Rattle.cct_model.specs.terms.device.Setup.{Setup}
use Rattle.cct_model.specs.lines.entry.Entry.{Entry}
use Rattle.cct_model.specs.declared.change.Due.{Due}
use Rattle.cct_model.specs.declared.change.Payment.{Payment}
use Rattle.cct_model.specs.declared.change.Phase.{Phase}
use Rattle.cct_model.specs.declared.change.Phase.TheVariants.{Begun, Opened, Closed, Odd, Lost}
use Rattle.cct_model.specs.declared.change.Session.{Session}
use Rattle.cct_model.specs.declared.change.Tray.{Tray}
use Rattle.cct_model.specs.Change.{closed_in, is_end_at, is_opening, paid_in_phase, phase_after, restocked, session_after, value_in}
use Rattle.cct_model.specs.Device.{IsHopper}
use Rattle.cct_model.specs.Exchange.{device_at}
use Rattle.cct_model.specs.Money.{coins_of, hopper_value}
use Rattle.cct_model.specs.Records.{records}
use Rattle.cct_model.specs.Transcript.{lines_of}
use Rattle.cct_laws_change.specs.Change.{IsStillPaid, IsWithin, lines_there, told_paid, worth_fallen, worth_of}
use Rattle.cct_laws_change.specs.Counted.{Close, Counted, closed_as, fallen_for}
use Rattle.cct_laws_change.specs.Orders.{opened_by, opened_due, opened_of}
use Rattle.cct_laws_change.proofs.Counted.{counted}
use Rattle.cct_laws_change.proofs.Fresh.{fresh_lines}
use Rattle.cct_laws_change.proofs.News.{IsCloseIn, IsOpened, Sure, closed_news, closed_over, opened_news, opened_over}
use Rattle.cct_laws_change.proofs.Trays.{IsHopperAt, address_is, is_own, restocked_value}

-- the lines of all hoppers of a setup are sure
abbrev pub AreSure : Setup → List Entry → Type 0
AreSure setup past =
    (d : DeviceSetup) → device_at setup.devices d.addr ≡ Some d → IsHopper d.body → Sure d past

sure_at : (setup : Setup) (past : List Entry) (addr : ℕ) → AreSure setup past → (h : IsHopperAt setup addr) →
    Sure h.device past
sure_at setup past addr sure h = sure h.device (is_own setup addr h) h.hopper

sure_counted : (d : DeviceSetup) (past : List Entry) → Sure d past → Counted (lines_of d past)
sure_counted d past sure = counted (lines_of d past) sure.pays (fresh_lines d past sure.fresh)

-- what fell for a payment, by the lines of its hopper
worth_there : (setup : Setup) (past : List Entry) (p : Payment) (h : IsHopperAt setup p.addr) →
    worth_fallen setup past p ≡ coins_of setup p.addr (fallen_for p.id (lines_of h.device past))
worth_there setup past p h = ap (λ found. coins_of setup p.addr (fallen_for p.id (lines_there past found))) h.found

-- a payment's order was closed so
pub record IsClosed (setup : Setup) (past : List Entry) (p : Payment) : Type 0 where
  pub hopper : IsHopperAt setup p.addr
  pub close : Close
  pub is_closed : closed_as p.id (lines_of hopper.device past) ≡ Some close

worth_closed : (setup : Setup) (past : List Entry) (p : Payment) → AreSure setup past → (is : IsClosed setup past p) →
    worth_fallen setup past p ≡ coins_of setup p.addr is.close.paid
worth_closed setup past p sure is =
    let counts = sure_counted is.hopper.device past (sure_at setup past p.addr sure is.hopper) in
    worth_there setup past p is.hopper
    ∙ ap (coins_of setup p.addr) (counts.closed_is p.id is.close is.is_closed).0

closed_later : (setup : Setup) (news past : List Entry) (p : Payment) → AreSure setup (news ++ past) →
    IsClosed setup past p → IsClosed setup (news ++ past) p
closed_later setup news past p sure is = record {
  hopper = is.hopper;
  close = is.close;
  is_closed = closed_over is.hopper.device news past p.id is.close (sure_at setup (news ++ past) p.addr sure is.hopper) is.is_closed;
}

abbrev pub AllClosed : Setup → List Entry → List Payment → Type 0
AllClosed setup past [] = ⊤
AllClosed setup past (p ∷ orders) = IsClosed setup past p × AllClosed setup past orders

all_later : (setup : Setup) (news past : List Entry) (orders : List Payment) → AreSure setup (news ++ past) →
    AllClosed setup past orders → AllClosed setup (news ++ past) orders
all_later setup news past [] sure all = tt
all_later setup news past (p ∷ orders) sure all =
    (closed_later setup news past p sure all.0, all_later setup news past orders sure all.1)

-- nothing more falls for closed orders
worth_later : (setup : Setup) (news past : List Entry) (p : Payment) → AreSure setup past →
    AreSure setup (news ++ past) → IsClosed setup past p → worth_fallen setup (news ++ past) p ≡ worth_fallen setup past p
worth_later setup news past p before sure is =
    let later : IsClosed setup (news ++ past) p = record {
      hopper = is.hopper;
      close = is.close;
      is_closed = closed_over is.hopper.device news past p.id is.close
          (sure_at setup (news ++ past) p.addr sure is.hopper) is.is_closed;
    } in
    worth_closed setup (news ++ past) p sure later ∙ sym (worth_closed setup past p before is)

worth_stays : (setup : Setup) (news past : List Entry) (orders : List Payment) → AreSure setup past →
    AreSure setup (news ++ past) → AllClosed setup past orders →
    worth_of setup (news ++ past) orders ≡ worth_of setup past orders
worth_stays setup news past [] before sure all = refl
worth_stays setup news past (p ∷ orders) before sure all =
    let now = worth_later setup news past p before sure all.0 in
    let later = worth_stays setup news past orders before sure all.1 in
    omega (arith, now, later)

-- the orders of a session are settled: what fell for them, and what is left, are its amount
pub record Settled (setup : Setup) (past : List Entry) (orders : List Payment) (amount rest : ℕ) : Type 0 where
  pub closed : AllClosed setup past orders
  pub sums : worth_of setup past orders + rest ≡ amount

pub settled_over : (setup : Setup) (news past : List Entry) (orders : List Payment) (amount rest : ℕ) →
    AreSure setup past → AreSure setup (news ++ past) → Settled setup past orders amount rest →
    Settled setup (news ++ past) orders amount rest
settled_over setup news past orders amount rest before sure is = record {
  closed = all_later setup news past orders sure is.closed;
  sums = ap (λ n. n + rest) (worth_stays setup news past orders before sure is.closed) ∙ is.sums;
}

-- a payment that is asked for, of a rest: it fits it
pub record IsAsked (setup : Setup) (trays : List Tray) (rest : ℕ) (p : Payment) : Type 0 where
  pub hopper : IsHopperAt setup p.addr
  pub fits : coins_of setup p.addr p.count ≤ rest
  pub value_is : value_in trays p.addr ≡ hopper_value (device_at setup.devices p.addr)

-- its order was opened, and isn't settled yet: the earlier ones are
pub record IsOwed (setup : Setup) (trays : List Tray) (past : List Entry) (orders : List Payment) (amount rest : ℕ)
    (p : Payment) : Type 0 where
  pub asked : IsAsked setup trays rest p
  pub earlier : List Payment
  pub orders_are : orders ≡ p ∷ earlier
  pub settled : Settled setup past earlier amount rest
  pub opened : IsOpened asked.hopper.device.addr (lines_of asked.hopper.device past) (records past) p

-- by what became of a payment
abbrev pub HoldsDue : Setup → List Tray → List Entry → List Payment → ℕ → ℕ → Payment → Phase → Type 0
HoldsDue setup trays past orders amount rest p Begun =
    IsAsked setup trays rest p × Settled setup past orders amount rest
HoldsDue setup trays past orders amount rest p Opened = IsOwed setup trays past orders amount rest p
HoldsDue setup trays past orders amount rest p (Closed paid unpaid) =
    (o : IsOwed setup trays past orders amount rest p)
    × (closed_as p.id (lines_of o.asked.hopper.device past) ≡ Some (record { paid = paid; unpaid = unpaid }))
HoldsDue setup trays past orders amount rest p Odd = ⊥
HoldsDue setup trays past orders amount rest p Lost = Settled setup past orders amount rest

abbrev pub HoldsBy : Setup → List Tray → List Entry → List Payment → ℕ → ℕ → Option Due → Type 0
HoldsBy setup trays past orders amount rest None = Settled setup past orders amount rest
HoldsBy setup trays past orders amount rest (Some due) =
    HoldsDue setup trays past orders amount rest due.payment due.phase

-- by what the end of a session reported as paid: its orders are settled, and no more falls for them
abbrev pub HasPaid : Setup → List Entry → List Payment → Option ℕ → Type 0
HasPaid setup past orders None = ⊤
HasPaid setup past orders (Some paid) = Settled setup past orders paid 0

-- while a session runs, no end was reported since it began
abbrev pub Holds : Setup → List Tray → List Entry → List Payment → Option Session → Type 0
Holds setup trays past orders None = HasPaid setup past orders (told_paid past)
Holds setup trays past orders (Some s) =
    (told_paid past ≡ None) × HoldsBy setup trays past orders s.amount s.rest s.due

-- over the entries of a step that is none of the session's own

paid_over : (setup : Setup) (news past : List Entry) (orders : List Payment) (told : Option ℕ) → AreSure setup past →
    AreSure setup (news ++ past) → HasPaid setup past orders told → HasPaid setup (news ++ past) orders told
paid_over setup news past orders None before sure is = tt
paid_over setup news past orders (Some paid) before sure is =
    settled_over setup news past orders paid 0 before sure is

-- of entries that show no end
paid_same : (setup : Setup) (news past : List Entry) (orders : List Payment) → told_paid (news ++ past) ≡ told_paid past →
    AreSure setup past → AreSure setup (news ++ past) → HasPaid setup past orders (told_paid past) →
    HasPaid setup (news ++ past) orders (told_paid (news ++ past))
paid_same setup news past orders same before sure is =
    subst (HasPaid setup (news ++ past) orders) (sym same) (paid_over setup news past orders (told_paid past) before sure is)

owed_over : (setup : Setup) (trays : List Tray) (news past : List Entry) (orders : List Payment) (amount rest : ℕ)
    (p : Payment) → AreSure setup past → AreSure setup (news ++ past) → IsOwed setup trays past orders amount rest p →
    IsOwed setup trays (news ++ past) orders amount rest p
owed_over setup trays news past orders amount rest p before sure is = record {
  asked = is.asked;
  earlier = is.earlier;
  orders_are = is.orders_are;
  settled = settled_over setup news past is.earlier amount rest before sure is.settled;
  opened = opened_over is.asked.hopper.device news past p
      (sure_at setup (news ++ past) p.addr sure is.asked.hopper) is.opened;
}

opens_now : (setup : Setup) (trays : List Tray) (news past : List Entry) (orders : List Payment) (amount rest : ℕ)
    (p : Payment) → AreSure setup past → AreSure setup (news ++ past) → IsAsked setup trays rest p →
    Settled setup past orders amount rest → list_any (is_opening p) (records news) ≡ true →
    IsOwed setup trays (news ++ past) (p ∷ orders) amount rest p
opens_now setup trays news past orders amount rest p before sure asked is test = record {
  asked = asked;
  earlier = orders;
  orders_are = refl;
  settled = settled_over setup news past orders amount rest before sure is;
  opened = opened_news asked.hopper.device news past p (sym (address_is setup p.addr asked.hopper))
      (sure_at setup (news ++ past) p.addr sure asked.hopper) test;
}

begun_over : (setup : Setup) (trays : List Tray) (news past : List Entry) (orders : List Payment) (amount rest : ℕ)
    (p : Payment) (opens ends : Bool) → list_any (is_opening p) (records news) ≡ opens → AreSure setup past →
    AreSure setup (news ++ past) → IsAsked setup trays rest p → Settled setup past orders amount rest →
    HoldsDue setup trays (news ++ past) (cond opens (p ∷ []) [] ++ orders) amount rest p
    (cond opens Opened (cond ends Lost Begun))
begun_over setup trays news past orders amount rest p true ends test before sure asked is =
    opens_now setup trays news past orders amount rest p before sure asked is test
begun_over setup trays news past orders amount rest p false true test before sure asked is =
    settled_over setup news past orders amount rest before sure is
begun_over setup trays news past orders amount rest p false false test before sure asked is =
    (asked, settled_over setup news past orders amount rest before sure is)

owed_phase : (setup : Setup) (trays : List Tray) (past : List Entry) (orders : List Payment) (amount rest : ℕ)
    (p : Payment) (phase : Phase) (o : IsOwed setup trays past orders amount rest p) →
    IsCloseIn p.id (lines_of o.asked.hopper.device past) phase → HoldsDue setup trays past orders amount rest p phase
owed_phase setup trays past orders amount rest p Begun o is = absurd is
owed_phase setup trays past orders amount rest p Opened o is = o
owed_phase setup trays past orders amount rest p (Closed paid unpaid) o is = (o, is)
owed_phase setup trays past orders amount rest p Odd o is = absurd is
owed_phase setup trays past orders amount rest p Lost o is = absurd is

-- where nothing is read off entries, what is due stays as it is
due_stays : (setup : Setup) (trays : List Tray) (news past : List Entry) (orders : List Payment) (amount rest : ℕ)
    (p : Payment) (phase : Phase) → AreSure setup past → AreSure setup (news ++ past) →
    HoldsDue setup trays past orders amount rest p phase → HoldsDue setup trays (news ++ past) orders amount rest p phase
unfolding owed_over
due_stays setup trays news past orders amount rest p Begun before sure is =
    (is.0, settled_over setup news past orders amount rest before sure is.1)
due_stays setup trays news past orders amount rest p Opened before sure is =
    owed_over setup trays news past orders amount rest p before sure is
due_stays setup trays news past orders amount rest p (Closed paid unpaid) before sure is = (
  owed_over setup trays news past orders amount rest p before sure is.0,
  closed_over is.0.asked.hopper.device news past p.id (record { paid = paid; unpaid = unpaid })
      (sure_at setup (news ++ past) p.addr sure is.0.asked.hopper) is.1,
)
due_stays setup trays news past orders amount rest p Odd before sure is = absurd is
due_stays setup trays news past orders amount rest p Lost before sure is =
    settled_over setup news past orders amount rest before sure is

due_over : (setup : Setup) (trays : List Tray) (news past : List Entry) (orders : List Payment) (amount rest : ℕ)
    (p : Payment) (phase : Phase) → AreSure setup past → AreSure setup (news ++ past) →
    HoldsDue setup trays past orders amount rest p phase →
    HoldsDue setup trays (news ++ past) (opened_by p news phase ++ orders) amount rest p (phase_after p news phase)
unfolding owed_over
due_over setup trays news past orders amount rest p Begun before sure is =
    begun_over setup trays news past orders amount rest p (list_any (is_opening p) (records news))
    (list_any (is_end_at p.addr) news) refl before sure is.0 is.1
due_over setup trays news past orders amount rest p Opened before sure is =
    owed_phase setup trays (news ++ past) orders amount rest p (closed_in p.id (records news))
    (owed_over setup trays news past orders amount rest p before sure is)
    (closed_news is.asked.hopper.device news past p (sure_at setup (news ++ past) p.addr sure is.asked.hopper) is.opened)
due_over setup trays news past orders amount rest p phase before sure is =
    due_stays setup trays news past orders amount rest p phase before sure is

pub by_over : (setup : Setup) (trays : List Tray) (news past : List Entry) (orders : List Payment) (s : Session)
    (due : Option Due) → AreSure setup past → AreSure setup (news ++ past) →
    HoldsBy setup trays past orders s.amount s.rest due →
    HoldsBy setup trays (news ++ past) (opened_due news due ++ orders) s.amount s.rest
    (option_map (λ d. record { payment = d.payment; phase = phase_after d.payment news d.phase }) due)
by_over setup trays news past orders s None before sure is =
    settled_over setup news past orders s.amount s.rest before sure is
by_over setup trays news past orders s (Some due) before sure is =
    due_over setup trays news past orders s.amount s.rest due.payment due.phase before sure is

pub holds_over : (setup : Setup) (trays : List Tray) (news past : List Entry) (orders : List Payment)
    (session : Option Session) → told_paid (news ++ past) ≡ told_paid past → AreSure setup past →
    AreSure setup (news ++ past) → Holds setup trays past orders session →
    Holds setup trays (news ++ past) (opened_of news session ++ orders) (option_map (session_after news) session)
holds_over setup trays news past orders None same before sure is = paid_same setup news past orders same before sure is
holds_over setup trays news past orders (Some s) same before sure is =
    (same ∙ is.0, by_over setup trays news past orders s s.due before sure is.1)

-- where nothing is read off entries, a session stays as it is
pub by_stays : (setup : Setup) (trays : List Tray) (news past : List Entry) (orders : List Payment) (amount rest : ℕ)
    (due : Option Due) → AreSure setup past → AreSure setup (news ++ past) →
    HoldsBy setup trays past orders amount rest due → HoldsBy setup trays (news ++ past) orders amount rest due
by_stays setup trays news past orders amount rest None before sure is =
    settled_over setup news past orders amount rest before sure is
by_stays setup trays news past orders amount rest (Some due) before sure is =
    due_stays setup trays news past orders amount rest due.payment due.phase before sure is

pub holds_stays : (setup : Setup) (trays : List Tray) (news past : List Entry) (orders : List Payment)
    (session : Option Session) → told_paid (news ++ past) ≡ told_paid past → AreSure setup past →
    AreSure setup (news ++ past) → Holds setup trays past orders session →
    Holds setup trays (news ++ past) orders session
holds_stays setup trays news past orders None same before sure is = paid_same setup news past orders same before sure is
holds_stays setup trays news past orders (Some s) same before sure is =
    (same ∙ is.0, by_stays setup trays news past orders s.amount s.rest s.due before sure is.1)

-- and over another stock

asked_restocked : (setup : Setup) (trays : List Tray) (addr : ℕ) (becomes : ℕ → ℕ) (rest : ℕ) (p : Payment) →
    IsAsked setup trays rest p → IsAsked setup (restocked addr becomes trays) rest p
asked_restocked setup trays addr becomes rest p is = record {
  hopper = is.hopper;
  fits = is.fits;
  value_is = restocked_value addr becomes trays p.addr ∙ is.value_is;
}

owed_restocked : (setup : Setup) (trays : List Tray) (addr : ℕ) (becomes : ℕ → ℕ) (past : List Entry)
    (orders : List Payment) (amount rest : ℕ) (p : Payment) → IsOwed setup trays past orders amount rest p →
    IsOwed setup (restocked addr becomes trays) past orders amount rest p
unfolding asked_restocked
owed_restocked setup trays addr becomes past orders amount rest p is = record {
  asked = asked_restocked setup trays addr becomes rest p is.asked;
  earlier = is.earlier;
  orders_are = is.orders_are;
  settled = is.settled;
  opened = is.opened;
}

due_restocked : (setup : Setup) (trays : List Tray) (addr : ℕ) (becomes : ℕ → ℕ) (past : List Entry)
    (orders : List Payment) (amount rest : ℕ) (p : Payment) (phase : Phase) →
    HoldsDue setup trays past orders amount rest p phase →
    HoldsDue setup (restocked addr becomes trays) past orders amount rest p phase
unfolding owed_restocked asked_restocked
due_restocked setup trays addr becomes past orders amount rest p Begun is =
    (asked_restocked setup trays addr becomes rest p is.0, is.1)
due_restocked setup trays addr becomes past orders amount rest p Opened is =
    owed_restocked setup trays addr becomes past orders amount rest p is
due_restocked setup trays addr becomes past orders amount rest p (Closed paid unpaid) is =
    (owed_restocked setup trays addr becomes past orders amount rest p is.0, is.1)
due_restocked setup trays addr becomes past orders amount rest p Odd is = absurd is
due_restocked setup trays addr becomes past orders amount rest p Lost is = is

pub by_restocked : (setup : Setup) (trays : List Tray) (addr : ℕ) (becomes : ℕ → ℕ) (past : List Entry)
    (orders : List Payment) (amount rest : ℕ) (due : Option Due) → HoldsBy setup trays past orders amount rest due →
    HoldsBy setup (restocked addr becomes trays) past orders amount rest due
by_restocked setup trays addr becomes past orders amount rest None is = is
by_restocked setup trays addr becomes past orders amount rest (Some due) is =
    due_restocked setup trays addr becomes past orders amount rest due.payment due.phase is

pub holds_restocked : (setup : Setup) (trays : List Tray) (addr : ℕ) (becomes : ℕ → ℕ) (past : List Entry)
    (orders : List Payment) (session : Option Session) → Holds setup trays past orders session →
    Holds setup (restocked addr becomes trays) past orders session
holds_restocked setup trays addr becomes past orders None is = is
holds_restocked setup trays addr becomes past orders (Some s) is =
    (is.0, by_restocked setup trays addr becomes past orders s.amount s.rest s.due is.1)

-- so no more falls for a session's orders than its amount

owed_within : (setup : Setup) (trays : List Tray) (past : List Entry) (orders : List Payment) (amount rest : ℕ)
    (p : Payment) → AreSure setup past → IsOwed setup trays past orders amount rest p → worth_of setup past orders ≤ amount
owed_within setup trays past orders amount rest p sure is =
    let counts = sure_counted is.asked.hopper.device past (sure_at setup past p.addr sure is.asked.hopper) in
    let few = counts.within p.id p.count is.opened.opened in
    let most : coins_of setup p.addr (fallen_for p.id (lines_of is.asked.hopper.device past)) ≤ coins_of setup p.addr p.count =
    mul-le-mul_right (hopper_value (device_at setup.devices p.addr)) few in
    let fell = worth_there setup past p is.asked.hopper in
    let fits = is.asked.fits in
    let sums = is.settled.sums in
    subst (λ os. worth_of setup past os ≤ amount) (sym is.orders_are) (omega (arith, fell, most, fits, sums))

settled_within : (setup : Setup) (past : List Entry) (orders : List Payment) (amount rest : ℕ) →
    Settled setup past orders amount rest → worth_of setup past orders ≤ amount
settled_within setup past orders amount rest is = let sums = is.sums in omega (arith, sums)

due_within : (setup : Setup) (trays : List Tray) (past : List Entry) (orders : List Payment) (amount rest : ℕ)
    (p : Payment) (phase : Phase) → AreSure setup past → HoldsDue setup trays past orders amount rest p phase →
    worth_of setup past orders ≤ amount
due_within setup trays past orders amount rest p Begun sure is = settled_within setup past orders amount rest is.1
due_within setup trays past orders amount rest p Opened sure is =
    owed_within setup trays past orders amount rest p sure is
due_within setup trays past orders amount rest p (Closed paid unpaid) sure is =
    owed_within setup trays past orders amount rest p sure is.0
due_within setup trays past orders amount rest p Odd sure is = absurd is
due_within setup trays past orders amount rest p Lost sure is = settled_within setup past orders amount rest is

pub by_within : (setup : Setup) (trays : List Tray) (past : List Entry) (orders : List Payment) (amount rest : ℕ)
    (due : Option Due) → AreSure setup past → HoldsBy setup trays past orders amount rest due →
    worth_of setup past orders ≤ amount
by_within setup trays past orders amount rest None sure is = settled_within setup past orders amount rest is
by_within setup trays past orders amount rest (Some due) sure is =
    due_within setup trays past orders amount rest due.payment due.phase sure is

pub holds_within : (setup : Setup) (trays : List Tray) (past : List Entry) (orders : List Payment)
    (session : Option Session) → AreSure setup past → Holds setup trays past orders session →
    IsWithin setup past orders session
holds_within setup trays past orders None sure is = tt
holds_within setup trays past orders (Some s) sure is =
    by_within setup trays past orders s.amount s.rest s.due sure is.1

-- and after its end, what fell for them is what the end reported

still_by : (setup : Setup) (past : List Entry) (orders : List Payment) (told : Option ℕ) → HasPaid setup past orders told →
    IfSome told (λ paid. worth_of setup past orders ≡ paid)
still_by setup past orders None is = tt
still_by setup past orders (Some paid) is = let sums = is.sums in omega (arith, sums)

pub holds_still : (setup : Setup) (trays : List Tray) (past : List Entry) (orders : List Payment)
    (session : Option Session) → Holds setup trays past orders session → IsStillPaid setup past orders
holds_still setup trays past orders None is = still_by setup past orders (told_paid past) is
holds_still setup trays past orders (Some s) is =
    subst (λ told. IfSome told (λ paid. worth_of setup past orders ≡ paid)) (sym is.0) tt

-- a payment that is settled

settles_closed : (setup : Setup) (trays : List Tray) (past : List Entry) (orders : List Payment) (amount rest : ℕ)
    (p : Payment) (paid unpaid : ℕ) → AreSure setup past → (o : IsOwed setup trays past orders amount rest p) →
    closed_as p.id (lines_of o.asked.hopper.device past) ≡ Some (record { paid = paid; unpaid = unpaid }) →
    Settled setup past orders amount (rest - paid * value_in trays p.addr)
settles_closed setup trays past orders amount rest p paid unpaid sure o is =
    let close : IsClosed setup past p = record {
      hopper = o.asked.hopper;
      close = record { paid = paid; unpaid = unpaid };
      is_closed = is;
    } in
    let counts = sure_counted o.asked.hopper.device past (sure_at setup past p.addr sure o.asked.hopper) in
    let few = counts.within p.id p.count o.opened.opened in
    let exact = (counts.closed_is p.id (record { paid = paid; unpaid = unpaid }) is).0 in
    let most : coins_of setup p.addr (fallen_for p.id (lines_of o.asked.hopper.device past)) ≤ coins_of setup p.addr p.count =
    mul-le-mul_right (hopper_value (device_at setup.devices p.addr)) few in
    let same : coins_of setup p.addr (fallen_for p.id (lines_of o.asked.hopper.device past)) ≡ coins_of setup p.addr paid =
    ap (coins_of setup p.addr) exact in
    let fell = worth_closed setup past p sure close in
    let taken : paid * value_in trays p.addr ≡ coins_of setup p.addr paid = ap (λ v. paid * v) o.asked.value_is in
    let fits = o.asked.fits in
    let sums = o.settled.sums in
    record {
      closed = subst (AllClosed setup past) (sym o.orders_are) (close, o.settled.closed);
      sums = subst (λ os. worth_of setup past os + (rest - paid * value_in trays p.addr) ≡ amount) (sym o.orders_are)
          (omega (arith, fell, same, most, taken, fits, sums));
    }

settles_none : (setup : Setup) (trays : List Tray) (past : List Entry) (orders : List Payment) (amount rest : ℕ)
    (addr : ℕ) → Settled setup past orders amount rest →
    Settled setup past orders amount (rest - 0 * value_in trays addr)
settles_none setup trays past orders amount rest addr is =
    record { closed = is.closed; sums = let sums = is.sums in omega (arith, sums) }

-- the payment isn't running, nor is its order open
abbrev pub IsDone : Phase → Type 0
IsDone (Closed paid unpaid) = ⊤
IsDone Lost = ⊤
IsDone phase = ⊥

pub settles : (setup : Setup) (trays : List Tray) (past : List Entry) (orders : List Payment) (amount rest : ℕ)
    (p : Payment) (phase : Phase) → IsDone phase → AreSure setup past →
    HoldsDue setup trays past orders amount rest p phase →
    Settled setup past orders amount (rest - paid_in_phase phase * value_in trays p.addr)
settles setup trays past orders amount rest p Begun done sure is = absurd done
settles setup trays past orders amount rest p Opened done sure is = absurd done
settles setup trays past orders amount rest p (Closed paid unpaid) done sure is =
    settles_closed setup trays past orders amount rest p paid unpaid sure is.0 is.1
settles setup trays past orders amount rest p Odd done sure is = absurd done
settles setup trays past orders amount rest p Lost done sure is =
    settles_none setup trays past orders amount rest p.addr is
