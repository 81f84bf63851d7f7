-- A plan stays a plan: what is left of a plan after its first payment is one of the rest, with what is left in the trays. So a
-- session that goes smoothly is served exactly where its amount had a plan as it began.
use Rattle.std.proofs.Common.{◌≡◌, ◌⊎◌, inl, inr, ℕ, ◌+◌, ◌-◌, ◌*◌, ◌<◌, ◌≤◌, ◌==◌, ◌^◌, ◌&&◌, Bool, true, false, cond, List, [], ◌∷◌, sum, refl, ap, sym, ◌∙◌, subst, Option, Some, None, All, arith, eq-eqb, eqb-true}
use Rattle.std.specs.Prelude.{MatchBool, ⊤}
use Rattle.std.specs.List.{list_any}
use Rattle.std.specs.Option.{option_map}
use Rattle.std.proofs.lemmas.Bool.{and_parts, cond-false, cond-true}
use Rattle.std.proofs.Math.Nat.{mul-le-mul_left}
use Rattle.std.proofs.lemmas.List.Sums.{sum_by-cons}
use Rattle.cct_model.specs.terms.device.Setup.{Setup}
use Rattle.cct_model.specs.lines.command.Command.TheVariants as command
use Rattle.cct_model.specs.lines.command.CommandNo.{CommandNo}
use Rattle.cct_model.specs.lines.command.Step.{Step}
use Rattle.cct_model.specs.lines.command.Step.TheVariants as step
use Rattle.cct_model.specs.lines.entry.Entry.{Entry}
use Rattle.cct_model.specs.lines.entry.Entry.TheVariants as entry
use Rattle.cct_model.specs.lines.record.Record.{Record}
use Rattle.cct_model.specs.declared.change.Due.{Due}
use Rattle.cct_model.specs.declared.change.Payment.{Payment}
use Rattle.cct_model.specs.declared.change.Phase.{Phase}
use Rattle.cct_model.specs.declared.change.Phase.TheVariants.{Begun, Opened, Closed, Odd, Lost}
use Rattle.cct_model.specs.declared.change.Session.{Session}
use Rattle.cct_model.specs.declared.change.Tray.{Tray}
use Rattle.cct_model.specs.AtDesk.{EntriesAtDesk}
use Rattle.cct_model.specs.Change.{Desk, GoesOn, IsStuck, PaysNext, PaysOn, Serves, ServesDue, Settles, changed, clear_desk, due_after, first_pay, gone_on, pay_entries, restocked, served, served_by, served_due, session_after, settled, settled_trays, short_entry, stock_left, value_in}
use Rattle.cct_model.specs.Plan.{AreWithin, HasNoPlan, IsPlan, worth}
use Rattle.cct_model.specs.Records.{records}
use Rattle.cct_model.specs.Refusal.{refusal}
use Rattle.cct_model.specs.Script.{IsInRange}
use Rattle.cct_model.specs.Setup.{IsSoundSetup}
use Rattle.cct_laws_change.specs.Blocks.{is_refusal}
use Rattle.cct_laws_change.specs.Tally.{EachTally, HasPlan, IsSmooth, TalliesTo, Tally, is_whole, is_whole_by, is_whole_in, most_made, no_tally, taken_in, tally_after, tally_begun}
use Rattle.cct_laws_change.proofs.Along.{Keeps, along}
use Rattle.cct_laws_change.proofs.Counted.{same_some}
use Rattle.cct_laws_change.proofs.Few.{FewBy, FewIn, IsFew, few_start, keeps_few, valued_at}
use Rattle.cct_laws_change.proofs.Filled.{AreSingle, one_here, pays_filled, restocked_single, trays_at}
use Rattle.cct_laws_change.proofs.Trays.{AreTrays}

-- ---- what is left of a plan

abbrev pub less : ℕ → ℕ → ℕ
less count before = before - count

-- where no tray is at an address, another stock there changes nothing
none_restocked : (addr : ℕ) (becomes : ℕ → ℕ) (trays : List Tray) → trays_at addr trays ≡ 0 →
    restocked addr becomes trays ≡ trays
none_restocked addr becomes [] none = refl
none_restocked addr becomes (t ∷ ts) none =
    by_test (t.addr == addr) none (λ rest. none_restocked addr becomes ts rest)
  where
    by_test : (here : Bool) → one_here here + trays_at addr ts ≡ 0 →
        (trays_at addr ts ≡ 0 → restocked addr becomes ts ≡ ts) →
        cond here (record { addr = t.addr; value = t.value; stock = becomes t.stock }) t ∷ restocked addr becomes ts ≡ t ∷ ts
    by_test true none later = absurd (omega (arith, none))
    by_test false none later = ap (λ xs. t ∷ xs) (later (omega (arith, none)))

restocked_same : (addr : ℕ) (becomes other : ℕ → ℕ) (trays : List Tray) → ((n : ℕ) → becomes n ≡ other n) →
    restocked addr becomes trays ≡ restocked addr other trays
restocked_same addr becomes other [] same = refl
restocked_same addr becomes other (t ∷ ts) same = by_test (t.addr == addr) (restocked_same addr becomes other ts same)
  where
    by_test : (here : Bool) → restocked addr becomes ts ≡ restocked addr other ts →
        cond here (record { addr = t.addr; value = t.value; stock = becomes t.stock }) t ∷ restocked addr becomes ts
        ≡ cond here (record { addr = t.addr; value = t.value; stock = other t.stock }) t ∷ restocked addr other ts
    by_test true later =
        ap (λ n. record { addr = t.addr; value = t.value; stock = n } ∷ restocked addr becomes ts) (same t.stock)
        ∙ ap (λ xs. record { addr = t.addr; value = t.value; stock = other t.stock } ∷ xs) later
    by_test false later = ap (λ xs. t ∷ xs) later

-- what a plan pays first is of a tray that is there
first_there : (trays : List Tray) (counts : List ℕ) (addr count : ℕ) → first_pay trays counts ≡ Some (addr, count) →
    1 ≤ trays_at addr trays
first_there [] counts addr count is = absurd cc
first_there (t ∷ ts) [] addr count is = absurd cc
first_there (t ∷ ts) (c ∷ cs) addr count is = by_test (c == 0) is (first_there ts cs addr count)
  where
    here : t.addr ≡ addr → 1 ≤ one_here (t.addr == addr) + trays_at addr ts
    here same = rw (eq-eqb t.addr addr same) (omega arith)

    by_test : (none : Bool) →
        ◌≡◌ {A = Option (ℕ × ℕ)} (cond none (first_pay ts cs) (Some (t.addr, c))) (Some (addr, count)) →
        (first_pay ts cs ≡ Some (addr, count) → 1 ≤ trays_at addr ts) → 1 ≤ one_here (t.addr == addr) + trays_at addr ts
    by_test true is later = let some = later is in omega (arith, some)
    by_test false is later =
        here (ap {A = ℕ × ℕ} (λ x. x.0) (same_some {A = ℕ × ℕ} (t.addr, c) (addr, count) is))

sum-cons : (c : ℕ) (cs : List ℕ) → sum (c ∷ cs) ≡ c + sum cs
sum-cons c cs = sum_by-cons (λ x. x) c cs

-- a plan of what is left: of the trays without a payment's coins, and of the rest without their value
pub record Tail (trays : List Tray) (counts : List ℕ) (addr count : ℕ) : Type 0 where
  left : List ℕ
  within : AreWithin (restocked addr (less count) trays) left
  pays : worth (restocked addr (less count) trays) left + count * value_in trays addr ≡ worth trays counts
  fewer : sum left + count ≡ sum counts

tail_later : (t : Tray) (ts : List Tray) (cs : List ℕ) (addr count : ℕ) → (t.addr == addr) ≡ false →
    Tail ts cs addr count → Tail (t ∷ ts) (0 ∷ cs) addr count
tail_later t ts cs addr count other later =
    let pays = later.pays in
    let fewer = later.fewer in
    let value = ap (λ v. count * v) (cond-false (t.addr == addr) t.value (value_in ts addr) other) in
    record {
      left = 0 ∷ later.left;
      within = (omega arith, later.within);
      pays = omega (arith, pays, value);
      fewer = omega (arith, fewer, sum-cons 0 later.left, sum-cons 0 cs);
    }

tail_here : (t : Tray) (ts : List Tray) (c : ℕ) (cs : List ℕ) → AreWithin ts cs → trays_at t.addr ts ≡ 0 →
    Tail (t ∷ ts) (c ∷ cs) t.addr c
tail_here t ts c cs within none =
    let same = none_restocked t.addr (less c) ts none in
    let worth_is = ap (λ xs. worth xs cs) same in
    let value = ap (λ v. c * v) (cond-true (t.addr == t.addr) t.value (value_in ts t.addr) (eq-eqb t.addr t.addr refl)) in
    record {
      left = 0 ∷ cs;
      within = (omega arith, subst (λ xs. AreWithin xs cs) (sym same) within);
      pays = omega (arith, worth_is, value);
      fewer = omega (arith, sum-cons 0 cs, sum-cons c cs);
    }

plan_tail : (trays : List Tray) (counts : List ℕ) (addr count : ℕ) → AreSingle trays → AreWithin trays counts →
    first_pay trays counts ≡ Some (addr, count) → Tail trays counts addr count
plan_tail [] counts addr count single within is = absurd cc
plan_tail (t ∷ ts) [] addr count single within is = absurd cc
plan_tail (t ∷ ts) (c ∷ cs) addr count single within is =
    by_test (c == 0) refl is (λ found. plan_tail ts cs addr count (rest_single t ts single) within.1 found)
  where
    rest_single : (t : Tray) (ts : List Tray) → AreSingle (t ∷ ts) → AreSingle ts
    rest_single t ts single a = let one = single a in omega (arith, one)

    apart : first_pay ts cs ≡ Some (addr, count) → (t.addr == addr) ≡ false
    apart found =
        let some = first_there ts cs addr count found in
        let one = single addr in
        only (t.addr == addr) some one
      where
        only : (here : Bool) → 1 ≤ trays_at addr ts → one_here here + trays_at addr ts ≤ 1 → here ≡ false
        only true some one = absurd (omega (arith, some, one))
        only false some one = refl

    none_other : trays_at t.addr ts ≡ 0
    none_other =
        let one = subst (λ b. one_here b + trays_at t.addr ts ≤ 1) (eq-eqb t.addr t.addr refl) (single t.addr) in
        omega (arith, one)

    by_test : (none : Bool) → (c == 0) ≡ none →
        ◌≡◌ {A = Option (ℕ × ℕ)} (cond none (first_pay ts cs) (Some (t.addr, c))) (Some (addr, count)) →
        (first_pay ts cs ≡ Some (addr, count) → Tail ts cs addr count) → Tail (t ∷ ts) (c ∷ cs) addr count
    by_test true test found later =
        subst (λ n. Tail (t ∷ ts) (n ∷ cs) addr count) (sym (eqb-true c 0 test))
        (tail_later t ts cs addr count (apart found) (later found))
    by_test false test found later =
        let pair = same_some {A = ℕ × ℕ} (t.addr, c) (addr, count) found in
        subst (λ a. Tail (t ∷ ts) (c ∷ cs) a count) (ap {A = ℕ × ℕ} (λ x. x.0) pair)
        (subst (λ n. Tail (t ∷ ts) (c ∷ cs) t.addr n) (ap {A = ℕ × ℕ} (λ x. x.1) pair)
        (tail_here t ts c cs within.1 none_other))

-- nothing has a plan
nothing_planned : (trays : List Tray) → HasPlan trays 0
nothing_planned [] = ([], record { within = tt; pays = refl })
nothing_planned (t ∷ ts) =
    let later = nothing_planned ts in
    let pays = later.1.pays in
    (0 ∷ later.0, record { within = (omega arith, later.1.within); pays = omega (arith, pays) })

-- of trays with values a plan has no more coins than its amount
abbrev pub AreValued : List Tray → Type 0
AreValued [] = ⊤
AreValued (t ∷ ts) = (1 ≤ t.value) × AreValued ts

valued_trays : (setup : Setup) (trays : List Tray) → IsSoundSetup setup → AreTrays setup trays → AreValued trays
valued_trays setup [] sound are = tt
valued_trays setup (t ∷ ts) sound are = (
  subst (λ n. 1 ≤ n) (sym are.0.value_is) (valued_at setup t.addr sound are.0.hopper),
  valued_trays setup ts sound are.1,
)

few_coins : (trays : List Tray) (counts : List ℕ) → AreValued trays → AreWithin trays counts → sum counts ≤ worth trays counts
few_coins [] [] valued within = omega arith
few_coins [] (c ∷ cs) valued within = absurd within
few_coins (t ∷ ts) [] valued within = absurd within
few_coins (t ∷ ts) (c ∷ cs) valued within =
    let later = few_coins ts cs valued.1 within.1 in
    let one : c * 1 ≤ c * t.value = mul-le-mul_left c valued.0 in
    omega (arith, later, one, sum-cons c cs)

-- ---- along a session

-- of the rest there is a plan, and the payments made and its coins are no more than so many
pub record Left (trays : List Tray) (made rest most : ℕ) : Type 0 where
  pub counts : List ℕ
  pub plan : IsPlan trays rest counts
  pub few : made + sum counts ≤ most

-- a payment that isn't settled counts as paid
abbrev pub LeftBy : List Tray → ℕ → ℕ → Option Due → ℕ → Type 0
LeftBy trays made rest None most = Left trays made rest most
LeftBy trays made rest (Some due) most =
    Left (restocked due.payment.addr (less due.payment.count) trays) made
    (rest - due.payment.count * value_in trays due.payment.addr) most

-- the session is as it began
pub record IsAtStart (t : Tally) (trays : List Tray) (rest : ℕ) : Type 0 where
  pub rest_is : rest ≡ t.amount
  pub trays_are : trays ≡ t.trays

-- it is, or its amount had a plan
abbrev pub BeganBy : Tally → List Tray → ℕ → Option Due → Type 0
BeganBy t trays rest None = IsAtStart t trays rest ⊎ HasPlan t.trays t.amount
BeganBy t trays rest (Some due) = HasPlan t.trays t.amount

pub record PlanRuns (t : Tally) (made : ℕ) (trays : List Tray) (s : Session) : Type 0 where
  pub began : BeganBy t trays s.rest s.due
  pub left : (counts : List ℕ) → IsPlan t.trays t.amount counts → LeftBy trays made s.rest s.due (sum counts)
  pub next : s.next ≡ t.first + made

abbrev pub PlanIn : Tally → ℕ → List Tray → Option Session → Type 0
PlanIn t made trays None = (counts : List ℕ) → IsPlan t.trays t.amount counts → made ≤ sum counts
PlanIn t made trays (Some s) = PlanRuns t made trays s

pub record IsPlanned (desk : Desk) (t : Tally) : Type 0 where
  pub valued : AreValued t.trays
  pub plan : t.smooth ≡ true → PlanIn t t.made desk.trays desk.session

-- a session whose payments are settled goes on

pub record Settled (t : Tally) (made : ℕ) (trays : List Tray) (s : Session) : Type 0 where
  pub single : AreSingle trays
  pub began : IsAtStart t trays s.rest ⊎ HasPlan t.trays t.amount
  pub left : (counts : List ℕ) → IsPlan t.trays t.amount counts → Left trays made s.rest (sum counts)
  pub next : s.next ≡ t.first + made

over_few : (t : Tally) (made : ℕ) (trays : List Tray) (s : Session) → Settled t made trays s → (counts : List ℕ) →
    IsPlan t.trays t.amount counts → made + 0 ≤ sum counts
over_few t made trays s is counts plan =
    let few = (is.left counts plan).few in
    omega (arith, few)

began_paid : (t : Tally) (trays : List Tray) (rest : ℕ) (counts : List ℕ) →
    IsAtStart t trays rest ⊎ HasPlan t.trays t.amount → IsPlan trays rest counts → HasPlan t.trays t.amount
began_paid t trays rest counts (inl start) plan = (
  counts,
  subst (λ ts. IsPlan ts t.amount counts) start.trays_are
      (subst (λ n. IsPlan trays n counts) start.rest_is plan),
)
began_paid t trays rest counts (inr had) plan = had

paid_left : (trays : List Tray) (made rest most : ℕ) (addr count : ℕ) (chosen : List ℕ) → 1 ≤ count →
    IsPlan trays rest chosen → Tail trays chosen addr count → made + sum chosen ≤ most →
    Left (restocked addr (less count) trays) (made + 1) (rest - count * value_in trays addr) most
paid_left trays made rest most addr count chosen some plan tail few =
    let pays = tail.pays in
    let whole = plan.pays in
    let fewer = tail.fewer in
    record {
      counts = tail.left;
      plan = record { within = tail.within; pays = omega (arith, pays, whole) };
      few = omega (arith, fewer, few, some);
    }

pays_plan : (t : Tally) (made : ℕ) (trays : List Tray) (s : Session) (p : Payment) (why : Option CommandNo) →
    Settled t made trays s → PaysNext trays s p →
    PlanIn t (made + taken_in (pay_entries s p why)) (gone_on (pay_entries s p why) trays s).trays
    (gone_on (pay_entries s p why) trays s).session
pays_plan t made trays s p None is pays =
    let chosen = pays.chosen.fewest in
    let tail = plan_tail trays pays.counts p.addr p.count is.single chosen.plan.within pays.pays in
    let some = (pays_filled trays pays.counts p.addr p.count chosen.plan.within pays.pays).1 in
    let id = is.next in
    record {
      began = began_paid t trays s.rest pays.counts is.began chosen.plan;
      left = λ counts plan.
          let before = is.left counts plan in
          let fewest = chosen.fewest before.counts before.plan in
          let few = before.few in
          paid_left trays made s.rest (sum counts) p.addr p.count pays.counts some chosen.plan tail
          (omega (arith, fewest, few));
      next = omega (arith, id);
    }
pays_plan t made trays s p (Some why) is pays = over_few t made trays s is

plan_as : (t : Tally) (made : ℕ) (news is : List Entry) (desk : List Entry → Desk) → news ≡ is →
    PlanIn t (made + taken_in is) (desk is).trays (desk is).session →
    PlanIn t (made + taken_in news) (desk news).trays (desk news).session
plan_as t made news is desk same plan =
    subst (λ es. PlanIn t (made + taken_in es) (desk es).trays (desk es).session) (sym same) plan

goes_on_plan : (capacity : ℕ) (setup : Setup) (past news : List Entry) (t : Tally) (made : ℕ) (trays : List Tray)
    (s : Session) → Settled t made trays s → GoesOn capacity setup past trays s news →
    PlanIn t (made + taken_in news) (gone_on news trays s).trays (gone_on news trays s).session
goes_on_plan capacity setup past news t made trays s is goes = by_rest (s.rest == 0) goes
  where
    by_rest : (none : Bool) →
        MatchBool none (news ≡ entry.Served s.amount ∷ []) (PaysOn capacity setup past trays s news) →
        PlanIn t (made + taken_in news) (gone_on news trays s).trays (gone_on news trays s).session
    by_rest true gives =
        plan_as t made news (entry.Served s.amount ∷ []) (λ es. gone_on es trays s) gives (over_few t made trays s is)
    by_rest false (inl stuck) =
        plan_as t made news (short_entry s ∷ []) (λ es. gone_on es trays s) stuck.1 (over_few t made trays s is)
    by_rest false (inr paid) =
        let why = refusal capacity setup past (command.Pay paid.0.addr paid.0.id paid.0.count) in
        plan_as t made news (pay_entries s paid.0 why) (λ es. gone_on es trays s) paid.2
        (pays_plan t made trays s paid.0 why is paid.1)

-- its last payment is settled by what is left of its plan
left_settled : (trays : List Tray) (made rest most addr count paid unpaid : ℕ) → (unpaid == 0) ≡ true →
    paid + unpaid ≡ count → Left (restocked addr (less count) trays) made (rest - count * value_in trays addr) most →
    Left (restocked addr (stock_left (Closed paid unpaid)) trays) made (rest - paid * value_in trays addr) most
left_settled trays made rest most addr count paid unpaid none exact is =
    let zero_left = eqb-true unpaid 0 none in
    let all : paid ≡ count = omega (arith, exact, zero_left) in
    let same = restocked_same addr (stock_left (Closed paid unpaid)) (less paid) trays
    (λ n. cond-true (unpaid == 0) (n - paid) 0 none) in
    subst (λ ts. Left ts made (rest - paid * value_in trays addr) most) (sym same)
    (subst (λ n. Left (restocked addr (less n) trays) made (rest - n * value_in trays addr) most) (sym all) is)

pub due_settled : (rs : List Record) (t : Tally) (made bound : ℕ) (trays : List Tray) (amount rest next : ℕ) (p : Payment)
    (paid unpaid : ℕ) → AreSingle trays → (unpaid == 0) ≡ true → paid + unpaid ≡ p.count →
    PlanRuns t made trays (record {
      amount = amount;
      rest = rest;
      next = next;
      due = Some (record { payment = p; phase = Closed paid unpaid });
    }) →
    Settled t made (restocked p.addr (stock_left (Closed paid unpaid)) trays) (record {
      amount = amount;
      rest = rest - paid * value_in trays p.addr;
      next = next;
      due = None;
    })
due_settled rs t made bound trays amount rest next p paid unpaid single none exact is = record {
  single = restocked_single p.addr (stock_left (Closed paid unpaid)) trays single;
  began = inr is.began;
  left = λ counts plan.
      left_settled trays made rest (sum counts) p.addr p.count paid unpaid none exact (is.left counts plan);
  next = is.next;
}

-- it waits
waits_plan : (t : Tally) (made : ℕ) (news : List Entry) (trays : List Tray) (s : Session) (addr : ℕ) →
    PlanRuns t made trays s → news ≡ entry.ServeWait addr ∷ [] → PlanIn t (made + taken_in news) trays (Some s)
waits_plan t made news trays s addr is gives =
    plan_as t made news (entry.ServeWait addr ∷ []) (λ es. record { session = Some s; trays = trays }) gives
    (subst (λ n. PlanRuns t n trays s) (omega arith) is)

abbrev pub with_due : Session → Payment → Phase → Session
with_due s p phase =
    record { amount = s.amount; rest = s.rest; next = s.next; due = Some (record { payment = p; phase = phase }) }

due_plan : (capacity : ℕ) (setup : Setup) (past news : List Entry) (t : Tally) (made bound : ℕ) (trays : List Tray)
    (s : Session) (p : Payment) (phase : Phase) → AreSingle trays →
    FewBy (records past) trays bound made s.rest (Some (record { payment = p; phase = phase })) → is_whole phase ≡ true →
    PlanRuns t made trays (with_due s p phase) →
    Settles capacity setup past trays (with_due s p phase) (record { payment = p; phase = phase }) phase news →
    PlanIn t (made + taken_in news)
    (served_due news trays (with_due s p phase) (record { payment = p; phase = phase }) phase).trays
    (served_due news trays (with_due s p phase) (record { payment = p; phase = phase }) phase).session
due_plan capacity setup past news t made bound trays s p Begun single few whole is gives =
    waits_plan t made news trays (with_due s p Begun) p.addr is gives
due_plan capacity setup past news t made bound trays s p Opened single few whole is gives =
    waits_plan t made news trays (with_due s p Opened) p.addr is gives
due_plan capacity setup past news t made bound trays s p Odd single few whole is gives = cc whole
due_plan capacity setup past news t made bound trays s p (Closed paid unpaid) single few whole is gives =
    let due : Due = record { payment = p; phase = Closed paid unpaid } in
    let now = with_due s p (Closed paid unpaid) in
    goes_on_plan capacity setup past news t made (settled_trays due trays) (settled trays due now)
    (due_settled (records past) t made bound trays s.amount s.rest s.next p paid unpaid single whole few.known is) gives
due_plan capacity setup past news t made bound trays s p Lost single few whole is gives = cc whole

by_plan : (capacity : ℕ) (setup : Setup) (past news : List Entry) (t : Tally) (made bound : ℕ) (trays : List Tray)
    (s : Session) (due : Option Due) → AreSingle trays → FewBy (records past) trays bound made s.rest due →
    is_whole_by due ≡ true →
    PlanRuns t made trays (record { amount = s.amount; rest = s.rest; next = s.next; due = due }) →
    ServesDue capacity setup past trays (record { amount = s.amount; rest = s.rest; next = s.next; due = due }) due news →
    PlanIn t (made + taken_in news)
    (served_by news trays (record { amount = s.amount; rest = s.rest; next = s.next; due = due }) due).trays
    (served_by news trays (record { amount = s.amount; rest = s.rest; next = s.next; due = due }) due).session
by_plan capacity setup past news t made bound trays s None single few whole is gives =
    goes_on_plan capacity setup past news t made trays
    (record { amount = s.amount; rest = s.rest; next = s.next; due = None })
    (record { single = single; began = is.began; left = is.left; next = is.next }) gives
by_plan capacity setup past news t made bound trays s (Some due) single few whole is gives =
    due_plan capacity setup past news t made bound trays s due.payment due.phase single few whole is gives

serve_plan : (capacity : ℕ) (setup : Setup) (past news : List Entry) (t : Tally) (made bound : ℕ) (trays : List Tray)
    (session : Option Session) → AreSingle trays → FewIn (records past) trays bound made session →
    is_whole_in session ≡ true → PlanIn t made trays session → Serves capacity setup past trays session news →
    PlanIn t (made + taken_in news) (served news trays session).trays (served news trays session).session
serve_plan capacity setup past news t made bound trays None single few whole is gives =
    plan_as t made news (entry.ServeIdle ∷ []) (λ es. record { session = None; trays = trays }) gives
    (λ counts plan. let most = is counts plan in omega (arith, most))
serve_plan capacity setup past news t made bound trays (Some s) single few whole is gives =
    by_plan capacity setup past news t made bound trays s s.due single few whole is gives

-- the entries of another step leave the plan as it is
due_kept : (news : List Entry) (t : Tally) (made : ℕ) (trays : List Tray) (amount rest next : ℕ) (due : Option Due) →
    PlanRuns t made trays (record { amount = amount; rest = rest; next = next; due = due }) →
    PlanRuns t made trays (record { amount = amount; rest = rest; next = next; due = option_map (due_after news) due })
due_kept news t made trays amount rest next None is = is
due_kept news t made trays amount rest next (Some due) is =
    record { began = is.began; left = is.left; next = is.next }

plan_kept : (news : List Entry) (t : Tally) (made : ℕ) (trays : List Tray) (session : Option Session) →
    PlanIn t made trays session → PlanIn t made trays (option_map (session_after news) session)
plan_kept news t made trays None is = is
plan_kept news t made trays (Some s) is = due_kept news t made trays s.amount s.rest s.next s.due is

-- a session begins
change_plan : (first amount : ℕ) (desk : Desk) (t : Tally) (session : Option Session) → AreValued desk.trays →
    AreValued t.trays → (t.smooth ≡ true → PlanIn t t.made desk.trays session) →
    AreValued (tally_begun first amount desk.trays session t).trays
    × ((tally_begun first amount desk.trays session t).smooth ≡ true →
    PlanIn (tally_begun first amount desk.trays session t) (tally_begun first amount desk.trays session t).made desk.trays
    (Some (changed first amount session)))
change_plan first amount desk t None valued before plan = (
  valued,
  λ smooth. record {
    began = inl (record { rest_is = refl; trays_are = refl });
    left = λ counts plan. record { counts = counts; plan = plan; few = omega arith };
    next = omega arith;
  },
)
change_plan first amount desk t (Some s) valued before plan = (before, plan)

-- it is the same beside another number of payments
abbrev with_made : Tally → ℕ → Bool → Tally
with_made t made smooth = record {
  first = t.first;
  amount = t.amount;
  trays = t.trays;
  refills = t.refills;
  made = made;
  smooth = smooth;
}

same_by : (t : Tally) (made : ℕ) (smooth : Bool) (trays : List Tray) (amount rest next : ℕ) (due : Option Due) →
    PlanRuns t made trays (record { amount = amount; rest = rest; next = next; due = due }) →
    PlanRuns (with_made t made smooth) made trays (record { amount = amount; rest = rest; next = next; due = due })
same_by t made smooth trays amount rest next None is = record {
  began = same_began is.began;
  left = is.left;
  next = is.next;
}
  where
    same_began : IsAtStart t trays rest ⊎ HasPlan t.trays t.amount →
        IsAtStart (with_made t made smooth) trays rest ⊎ HasPlan t.trays t.amount
    same_began (inl start) = inl (record { rest_is = start.rest_is; trays_are = start.trays_are })
    same_began (inr had) = inr had
same_by t made smooth trays amount rest next (Some due) is =
    record { began = is.began; left = is.left; next = is.next }

same_tally : (t : Tally) (made : ℕ) (smooth : Bool) (trays : List Tray) (session : Option Session) →
    PlanIn t made trays session → PlanIn (with_made t made smooth) made trays session
same_tally t made smooth trays None is = is
same_tally t made smooth trays (Some s) is = same_by t made smooth trays s.amount s.rest s.next s.due is

-- so each step keeps it
abbrev pub IsBoth : List Entry → Desk → Tally → Type 0
IsBoth past desk t = IsFew past desk t × IsPlanned desk t

pub keeps_planned : (capacity : ℕ) (setup : Setup) → IsSoundSetup setup → Keeps tally_after capacity setup IsBoth
keeps_planned capacity setup sound past news desk t (step.Stock addr count) range gives at on is = (
  keeps_few capacity setup sound past news desk t (step.Stock addr count) range gives at on is.0,
  record { valued = is.1.valued; plan = λ smooth. cc smooth },
)
keeps_planned capacity setup sound past news desk t (step.Change first amount) range gives at on is =
    let plan = change_plan first amount desk t desk.session (valued_trays setup desk.trays sound at.trays) is.1.valued
    is.1.plan in (
      keeps_few capacity setup sound past news desk t (step.Change first amount) range gives at on is.0,
      record { valued = plan.0; plan = plan.1 },
    )
keeps_planned capacity setup sound past news desk t step.Serve range gives at on is = (
  keeps_few capacity setup sound past news desk t step.Serve range gives at on is.0,
  record {
    valued = is.1.valued;
    plan = λ smooth.
        let parts = and_parts t.smooth (is_whole_in desk.session) smooth in
        same_tally t (t.made + taken_in news) (t.smooth && is_whole_in desk.session)
        (served news desk.trays desk.session).trays (served news desk.trays desk.session).session
        (serve_plan capacity setup past news t t.made (most_made t) desk.trays desk.session is.0.single is.0.few parts.1
        (is.1.plan parts.0) gives);
  },
)
keeps_planned capacity setup sound past news desk t s range gives at on is = (
  keeps_few capacity setup sound past news desk t s range gives at on is.0,
  record {
    valued = is.1.valued;
    plan = λ smooth. plan_kept news t t.made desk.trays desk.session (is.1.plan smooth);
  },
)

pub both_start : (setup : Setup) → IsSoundSetup setup → IsBoth [] (clear_desk setup) no_tally
both_start setup sound =
    (few_start setup sound, record { valued = tt; plan = λ smooth counts plan. omega arith })

pub both_run : (capacity : ℕ) (setup : Setup) (steps : List Step) (past : List Entry) (desk : Desk) (tally : Tally) →
    IsSoundSetup setup → All IsInRange steps → TalliesTo capacity setup steps past desk tally → IsBoth past desk tally
both_run capacity setup steps past desk tally sound range tallies =
    (along tally_after capacity setup IsBoth (keeps_planned capacity setup sound) no_tally steps past desk tally sound
    range tallies (both_start setup sound)).1

-- ---- what it reports

-- a session that was served had a plan
served_began : (capacity : ℕ) (setup : Setup) (past : List Entry) (t : Tally) (trays : List Tray) (s : Session)
    (amount : ℕ) → IsAtStart t trays s.rest ⊎ HasPlan t.trays t.amount →
    GoesOn capacity setup past trays s (entry.Served amount ∷ []) → HasPlan t.trays t.amount
served_began capacity setup past t trays s amount (inr had) goes = had
served_began capacity setup past t trays s amount (inl start) goes = by_rest (s.rest == 0) refl goes
  where
    not_paid : (p : Payment) (why : Option CommandNo) → entry.Served amount ∷ [] ≡ pay_entries s p why →
        HasPlan t.trays t.amount
    not_paid p None is = cc is
    not_paid p (Some why) is = cc is

    by_rest : (none : Bool) → (s.rest == 0) ≡ none →
        MatchBool none (entry.Served amount ∷ [] ≡ entry.Served s.amount ∷ [])
        (PaysOn capacity setup past trays s (entry.Served amount ∷ [])) → HasPlan t.trays t.amount
    by_rest true test gives =
        subst (HasPlan t.trays) (sym (eqb-true s.rest 0 test) ∙ start.rest_is) (nothing_planned t.trays)
    by_rest false test (inl stuck) = let is = stuck.1 in cc is
    by_rest false test (inr paid) =
        not_paid paid.0 (refusal capacity setup past (command.Pay paid.0.addr paid.0.id paid.0.count)) paid.2

served_by_plan : (capacity : ℕ) (setup : Setup) (past : List Entry) (t : Tally) (trays : List Tray) (s : Session)
    (amount : ℕ) (due : Option Due) → BeganBy t trays s.rest due →
    ServesDue capacity setup past trays s due (entry.Served amount ∷ []) → HasPlan t.trays t.amount
served_by_plan capacity setup past t trays s amount None began gives =
    served_began capacity setup past t trays s amount began gives
served_by_plan capacity setup past t trays s amount (Some due) began gives = began

served_session : (capacity : ℕ) (setup : Setup) (past : List Entry) (t : Tally) (trays : List Tray) (amount : ℕ)
    (session : Option Session) → PlanIn t t.made trays session →
    Serves capacity setup past trays session (entry.Served amount ∷ []) → HasPlan t.trays t.amount
served_session capacity setup past t trays amount None plan gives = cc gives
served_session capacity setup past t trays amount (Some s) plan gives =
    served_by_plan capacity setup past t trays s amount s.due plan.began gives

pub served_planned : EachTally (λ capacity setup past desk tally. (amount : ℕ) → IsSmooth desk tally →
    EntriesAtDesk capacity setup past desk step.Serve (entry.Served amount ∷ []) → HasPlan tally.trays tally.amount)
served_planned capacity setup steps past desk tally sound range tallies amount smooth gives =
    let is = both_run capacity setup steps past desk tally sound range tallies in
    served_session capacity setup past tally desk.trays amount desk.session
    (is.1.plan (and_parts tally.smooth (is_whole_in desk.session) smooth).0) gives

-- where it had one, it isn't stuck
pub not_stuck : (t : Tally) (made : ℕ) (trays : List Tray) (s : Session) (counts : List ℕ) → AreValued t.trays →
    t.first + t.amount < 2 ^ 32 → Settled t made trays s → IsPlan t.trays t.amount counts → IsStuck trays s → ⊥
not_stuck t made trays s counts valued ids is plan (inl none) =
    let left = is.left counts plan in none left.counts left.plan
not_stuck t made trays s counts valued ids is plan (inr used) =
    let few = (is.left counts plan).few in
    let coins = few_coins t.trays counts valued plan.within in
    let whole = plan.pays in
    let next = is.next in
    omega (arith, few, coins, whole, next, used, ids)

-- one that falls short, without a payment that is refused, had none
abbrev pub TellsShort : ℕ → ℕ → List Entry → List Entry → Type 0
TellsShort paid rest earlier news =
    (news ≡ entry.Short paid rest ∷ earlier) × (list_any is_refusal news ≡ false)

short_began : (capacity : ℕ) (setup : Setup) (past news earlier : List Entry) (t : Tally) (made : ℕ) (trays : List Tray)
    (s : Session) (paid rest : ℕ) → AreValued t.trays → t.first + t.amount < 2 ^ 32 → Settled t made trays s →
    TellsShort paid rest earlier news → GoesOn capacity setup past trays s news → HasNoPlan t.trays t.amount
short_began capacity setup past news earlier t made trays s paid rest valued ids is told goes counts plan =
    by_rest (s.rest == 0) goes
  where
    not_paid : (p : Payment) (why : Option CommandNo) → news ≡ pay_entries s p why → ⊥
    not_paid p None gives = let both = sym told.0 ∙ gives in cc both
    not_paid p (Some why) gives =
        let none = subst (λ es. list_any is_refusal es ≡ false) gives told.1 in cc none

    by_rest : (none : Bool) →
        MatchBool none (news ≡ entry.Served s.amount ∷ []) (PaysOn capacity setup past trays s news) → ⊥
    by_rest true gives = let both = sym told.0 ∙ gives in cc both
    by_rest false (inl stuck) = not_stuck t made trays s counts valued ids is plan stuck.0
    by_rest false (inr pays) =
        not_paid pays.0 (refusal capacity setup past (command.Pay pays.0.addr pays.0.id pays.0.count)) pays.2

short_due : (capacity : ℕ) (setup : Setup) (past news earlier : List Entry) (t : Tally) (made bound : ℕ)
    (trays : List Tray) (s : Session) (p : Payment) (phase : Phase) (paid rest : ℕ) → AreValued t.trays →
    t.first + t.amount < 2 ^ 32 → AreSingle trays →
    FewBy (records past) trays bound made s.rest (Some (record { payment = p; phase = phase })) →
    is_whole phase ≡ true → PlanRuns t made trays (with_due s p phase) → TellsShort paid rest earlier news →
    Settles capacity setup past trays (with_due s p phase) (record { payment = p; phase = phase }) phase news →
    HasNoPlan t.trays t.amount
short_due capacity setup past news earlier t made bound trays s p Begun paid rest valued ids single few whole is told gives =
    let both = sym told.0 ∙ gives in cc both
short_due capacity setup past news earlier t made bound trays s p Opened paid rest valued ids single few whole is told gives =
    let both = sym told.0 ∙ gives in cc both
short_due capacity setup past news earlier t made bound trays s p Odd paid rest valued ids single few whole is told gives =
    cc whole
short_due capacity setup past news earlier t made bound trays s p (Closed all none) paid rest valued ids single few whole is told gives =
    let due : Due = record { payment = p; phase = Closed all none } in
    short_began capacity setup past news earlier t made (settled_trays due trays)
    (settled trays due (with_due s p (Closed all none))) paid rest valued ids
    (due_settled (records past) t made bound trays s.amount s.rest s.next p all none single whole few.known is) told gives
short_due capacity setup past news earlier t made bound trays s p Lost paid rest valued ids single few whole is told gives =
    cc whole

short_by : (capacity : ℕ) (setup : Setup) (past news earlier : List Entry) (t : Tally) (made bound : ℕ)
    (trays : List Tray) (s : Session) (due : Option Due) (paid rest : ℕ) → AreValued t.trays →
    t.first + t.amount < 2 ^ 32 → AreSingle trays → FewBy (records past) trays bound made s.rest due →
    is_whole_by due ≡ true →
    PlanRuns t made trays (record { amount = s.amount; rest = s.rest; next = s.next; due = due }) →
    TellsShort paid rest earlier news →
    ServesDue capacity setup past trays (record { amount = s.amount; rest = s.rest; next = s.next; due = due }) due news →
    HasNoPlan t.trays t.amount
short_by capacity setup past news earlier t made bound trays s None paid rest valued ids single few whole is told gives =
    short_began capacity setup past news earlier t made trays
    (record { amount = s.amount; rest = s.rest; next = s.next; due = None }) paid rest valued ids
    (record { single = single; began = is.began; left = is.left; next = is.next }) told gives
short_by capacity setup past news earlier t made bound trays s (Some due) paid rest valued ids single few whole is told gives =
    short_due capacity setup past news earlier t made bound trays s due.payment due.phase paid rest valued ids single few
    whole is told gives

short_session : (capacity : ℕ) (setup : Setup) (past news earlier : List Entry) (t : Tally) (made bound : ℕ)
    (trays : List Tray) (session : Option Session) (paid rest : ℕ) → AreValued t.trays → t.first + t.amount < 2 ^ 32 →
    AreSingle trays → FewIn (records past) trays bound made session → is_whole_in session ≡ true →
    PlanIn t made trays session → TellsShort paid rest earlier news →
    Serves capacity setup past trays session news → HasNoPlan t.trays t.amount
short_session capacity setup past news earlier t made bound trays None paid rest valued ids single few whole is told gives =
    let both = sym told.0 ∙ gives in cc both
short_session capacity setup past news earlier t made bound trays (Some s) paid rest valued ids single few whole is told gives =
    short_by capacity setup past news earlier t made bound trays s s.due paid rest valued ids single few whole is told gives

pub short_unplanned : (capacity : ℕ) (setup : Setup) (past : List Entry) (desk : Desk) (tally : Tally) →
    IsBoth past desk tally → (paid rest : ℕ) (earlier : List Entry) → IsSmooth desk tally →
    tally.first + tally.amount < 2 ^ 32 → list_any is_refusal (entry.Short paid rest ∷ earlier) ≡ false →
    EntriesAtDesk capacity setup past desk step.Serve (entry.Short paid rest ∷ earlier) →
    HasNoPlan tally.trays tally.amount
short_unplanned capacity setup past desk tally is paid rest earlier smooth ids taken gives =
    let parts = and_parts tally.smooth (is_whole_in desk.session) smooth in
    short_session capacity setup past (entry.Short paid rest ∷ earlier) earlier tally tally.made (most_made tally)
    desk.trays desk.session paid rest is.1.valued ids is.0.single is.0.few parts.1 (is.1.plan parts.0) (refl, taken) gives

-- where it pays on, it made fewer payments than any plan of its amount has coins
pub more_made : (t : Tally) (made : ℕ) (trays : List Tray) (s : Session) (p : Payment) (counts : List ℕ) →
    Settled t made trays s → PaysNext trays s p → IsPlan t.trays t.amount counts → made < sum counts
more_made t made trays s p counts is pays plan =
    let chosen = pays.chosen.fewest in
    let tail = plan_tail trays pays.counts p.addr p.count is.single chosen.plan.within pays.pays in
    let some = (pays_filled trays pays.counts p.addr p.count chosen.plan.within pays.pays).1 in
    let before = is.left counts plan in
    let fewest = chosen.fewest before.counts before.plan in
    let few = before.few in
    let fewer = tail.fewer in
    omega (arith, some, fewest, few, fewer)

-- and it makes at most as many payments as a plan has coins
made_by : (t : Tally) (made : ℕ) (trays : List Tray) (s : Session) (due : Option Due) (most : ℕ) →
    LeftBy trays made s.rest due most → made ≤ most
made_by t made trays s None most left = let few = left.few in omega (arith, few)
made_by t made trays s (Some due) most left = let few = left.few in omega (arith, few)

pub made_in : (t : Tally) (made : ℕ) (trays : List Tray) (session : Option Session) → PlanIn t made trays session →
    (counts : List ℕ) → IsPlan t.trays t.amount counts → made ≤ sum counts
made_in t made trays None is counts plan = is counts plan
made_in t made trays (Some s) is counts plan = made_by t made trays s s.due (sum counts) (is.left counts plan)

pub made_planned : EachTally (λ capacity setup past desk tally. (counts : List ℕ) → tally.smooth ≡ true →
    IsPlan tally.trays tally.amount counts → tally.made ≤ sum counts)
made_planned capacity setup steps past desk tally sound range tallies counts smooth plan =
    let is = both_run capacity setup steps past desk tally sound range tallies in
    made_in tally tally.made desk.trays desk.session (is.1.plan smooth) counts plan
