-- Sessions of change: what a step at the operator's desk reports, and a payment.
use Rattle.std.proofs.Common.{◌≡◌, ◌≤◌, ◌==◌, ◌∙◌, ◌⊎◌, ℕ, zero, suc, min, List, [], ◌∷◌, ◌++◌, Bool, true, false, Option, Some, None, refl, sym, ap, subst, inl, inr, arith, cond}
use Rattle.std.specs.Prelude.{IsTrue, is_some}
use Rattle.std.specs.Option.{option_map}
use Rattle.std.proofs.lemmas.List.{append-nil}
use Rattle.cct_model.specs.declared.change.Payment.{Payment}
use Rattle.cct_model.specs.declared.change.Session.{Session}
use Rattle.cct_model.specs.declared.change.Tray.{Tray}
use Rattle.cct_model.specs.terms.device.DeviceSetup.{DeviceSetup}
use Rattle.cct_model.specs.lines.command.CommandNo.{CommandNo}
use Rattle.cct_model.specs.lines.command.Step.{Step}
use Rattle.cct_model.specs.lines.command.Step.TheVariants as step
use Rattle.cct_model.specs.lines.entry.Entry.{Entry}
use Rattle.cct_model.specs.lines.entry.LineKind.TheVariants as kind
use Rattle.cct_model.specs.Change.{Desk, PaysNext, first_pay}
use Rattle.cct_model.specs.Plan.{AreWithin, most_of}
use Rattle.cct_model.specs.Script.{IsCommand}
use Rattle.cct_host_change.specs.declared.desk.Serving.{Serving}
use Rattle.cct_host_change.specs.declared.desk.Serving.TheVariants.{Idle, Wait, Odd, Served, Short, Pay}
use Rattle.cct_host_change.specs.Serving.{ServesBy}
use Rattle.cct_laws_live.specs.LiveStep.{LiveStep}
use Rattle.cct_laws_live.specs.LiveStep as live
use Rattle.cct_script.specs.declared.live.LiveLine.{LiveLine}
use Rattle.cct_live_survey.specs.declared.finding.Finding.{Finding}
use Rattle.cct_live_survey.specs.declared.withholding.Withheld.{Withheld}
use Rattle.cct_live_survey.specs.Finding.{withheld_by}
use Rattle.cct_live_service.specs.Known.{Tasks}
use Rattle.cct_live_service.specs.Doing.{DecidesPay, Does, DoesKnown, DoesPay, Finds, FrontOf, IsAsking, IsPoll, IsServing, ServesOn, Tells, TellsStep, ThenBy}
use Rattle.cct_live_service.specs.Session.{HasAsked}
use Rattle.cct_live_service.specs.Told.{Told, falls_short, findings_in, operates, pay_of, pays, refused, refused_for, taken, withheld_for}
use Rattle.cct_live_service.proofs.Polling.{poll_none}
use Rattle.cct_live_service.proofs.Found.{finds_weaker, found_on}

-- the first count of a plan that isn't 0 can be given to a host
fits : (most stock count : ℕ) → most ≡ min stock 255 → count ≤ most → count ≤ 255
fits most stock count is few = omega (arith, is, few)

some : (count : ℕ) → (count == 0) ≡ false → 1 ≤ count
some zero is = cc is
some (suc n) is = omega arith

abbrev count_in : Option (ℕ × ℕ) → ℕ
count_in None = 0
count_in (Some found) = found.1

first_fits : (trays : List Tray) (counts : List ℕ) (addr count : ℕ) → AreWithin trays counts →
    first_pay trays counts ≡ Some (addr, count) → (1 ≤ count) × (count ≤ 255)
first_fits [] [] addr count within is = cc is
first_fits [] (c ∷ cs) addr count within is = absurd within
first_fits (t ∷ ts) [] addr count within is = absurd within
first_fits (t ∷ ts) (c ∷ cs) addr count within is =
    by_none (c == 0) refl (λ later. first_fits ts cs addr count within.1 later) is
  where
    by_none : (none : Bool) → (c == 0) ≡ none →
        (first_pay ts cs ≡ Some (addr, count) → (1 ≤ count) × (count ≤ 255)) →
        cond none (first_pay ts cs) (Some (t.addr, c)) ≡ Some (addr, count) → (1 ≤ count) × (count ≤ 255)
    by_none true zero_is later h = later h
    by_none false above later h =
        subst (λ n. (1 ≤ n) × (n ≤ 255)) (ap count_in h) (some c above, fits (most_of t) t.stock c refl within.0)

payable : (trays : List Tray) (s : Session) (p : Payment) → PaysNext trays s p → 1 ≤ p.id → IsCommand (pay_of p)
payable trays s p next least =
    let counts = first_fits trays next.counts p.addr p.count next.chosen.fewest.plan.within next.pays in
    (least, counts.0, counts.1)

-- a session runs that has an id
pub session_runs : (desk : Desk) (id : ℕ) → option_map (λ s. s.next) desk.session ≡ Some id → IsTrue (is_some desk.session)
session_runs desk id is = by_session desk.session is
  where
    by_session : (session : Option Session) → option_map (λ s. s.next) session ≡ Some id → IsTrue (is_some session)
    by_session None is = cc is
    by_session (Some s) is = refl

-- what a desk asks for can be given
pub asked_by : (serving : Serving) (old new : Desk) → ServesBy serving old new → HasAsked serving new
asked_by Idle old new h = tt
asked_by (Wait addr) old new h = tt
asked_by (Odd id) old new h = tt
asked_by (Served amount) old new h = tt
asked_by (Short shortfall) old new h = tt
asked_by (Pay p) old new h = (
  payable new.trays h.session p h.next h.some,
  subst (λ o. option_map (λ s. s.next) o ≡ Some p.id) (sym h.runs) (ap (λ n. Some n) (sym h.id)),
)

-- a step at the operator's desk shows no finding
pub step_finds : (s : Step) (steps : List LiveStep) (told : List Told) → TellsStep s steps told → findings_in told ≡ []
step_finds s steps told h = ap findings_in h.1.1

pub tells_step : (s : Step) (e : Entry) (steps : List LiveStep) (told : List Told) → Tells (operates s e) steps told →
    TellsStep s steps told
tells_step s e steps told h = (h.0, (e, h.1))

pub step_serves : (findings : List Finding) (steps : List LiveStep) (told : List Told) → TellsStep step.Serve steps told →
    IsServing findings steps told
step_serves findings steps told h = inl h

pub pay_serves : (findings : List Finding) (p : Payment) (steps : List LiveStep) (told : List Told) →
    DecidesPay findings p steps told → IsServing findings steps told
pay_serves findings p steps told h = inr (p, h)

pub goes_unrested : (Rested : Bool → Type 0) → Rested false → (findings : List Finding) (steps : List LiveStep)
    (told : List Told) → IsServing findings steps told → ServesOn Rested findings steps told
goes_unrested Rested has findings steps told h = inr (h, has)

pub may_rest : (Rested : Bool → Type 0) → Rested true → (findings : List Finding) →
    Finds findings findings (ServesOn Rested findings) [] []
may_rest Rested none findings = (inl ((refl, refl), none), sym (append-nil findings))

-- a payment shows no finding
pay_finds : (p : Payment) (why : Option Withheld) (steps : List LiveStep) (told : List Told) → DoesPay p why steps told →
    findings_in told ≡ []
pay_finds p None steps told h = by_answer h.1
  where
    by_answer : (told ≡ pays p taken ∷ [])
        ⊎ ((why : CommandNo) × (paid : ℕ) × (rest : ℕ) × (told ≡ pays p (refused_for why) ∷ falls_short p paid rest ∷ [])) →
        findings_in told ≡ []
    by_answer (inl is) = ap findings_in is
    by_answer (inr is) = ap findings_in is.3
pay_finds p (Some why) steps told h = ap findings_in h.1.2

pub pays_then : (a b : List Finding) (p : Payment) (s1 s2 : List LiveStep) (t1 t2 : List Told) →
    Finds a b IsAsking s1 t1 → DoesPay p (withheld_by b (pay_of p)) s2 t2 → Finds a b (DecidesPay a p) (s1 ++ s2) (t1 ++ t2)
pays_then a b p s1 s2 t1 t2 h k = (
  record {
    before = s1;
    after = s2;
    said = t1;
    added = t2;
    steps_are = refl;
    told_is = refl;
    first = h.0;
    next = subst (λ f. DoesPay p (withheld_by f (pay_of p)) s2 t2) h.1 k;
  },
  found_on a b b t1 t2 h.1 (sym (ap (λ fs. b ++ fs) (pay_finds p (withheld_by b (pay_of p)) s2 t2 k) ∙ append-nil b)),
)

some_pay : (p : Payment) (why : Option Withheld) → (steps : List LiveStep) × (told : List Told) × DoesPay p why steps told
some_pay p None = (live.command (pay_of p) ∷ [], pays p taken ∷ [], (refl, inl refl))
some_pay p (Some why) =
    ([], pays p (withheld_for why) ∷ falls_short p 0 0 ∷ [], (refl, (0, 0, refl)))

-- one that isn't decided any more
pub pays_broken : (a b : List Finding) (p : Payment) (steps : List LiveStep) (told : List Told) →
    Finds a b IsAsking steps told → FrontOf (Finds a b (DecidesPay a p)) steps told
pays_broken a b p steps told h =
    let k = some_pay p (withheld_by b (pay_of p)) in
    record { undone = k.0; untold = k.1; whole = pays_then a b p steps k.0 told k.1 h k.2 }

-- a session that goes on or not, and then the rest of a poll
pub served_then : (Rested : Bool → Type 0) (has : Tasks) (known : List Finding) (s1 s2 : List LiveStep) (t1 t2 : List Told) →
    ServesOn Rested known s1 t1 → IsPoll (λ more. has (t1 ++ more)) s2 t2 →
    ThenBy (ServesOn Rested known) (λ said. IsPoll (λ more. has (said ++ more))) (s1 ++ s2) (t1 ++ t2)
served_then Rested has known s1 s2 t1 t2 h k = record {
  before = s1;
  after = s2;
  said = t1;
  added = t2;
  steps_are = refl;
  told_is = refl;
  first = h;
  next = k;
}

pub served_alone : (Rested : Bool → Type 0) (has : Tasks) (known now : List Finding) (steps : List LiveStep) (told : List Told) →
    Finds known now (ServesOn Rested known) steps told →
    Finds known now (ThenBy (ServesOn Rested known) (λ said. IsPoll (λ more. has (said ++ more)))) steps told
served_alone Rested has known now =
    finds_weaker known now (ServesOn Rested known)
    (ThenBy (ServesOn Rested known) (λ said. IsPoll (λ more. has (said ++ more)))) (λ steps told h. record {
      before = steps;
      after = [];
      said = told;
      added = [];
      steps_are = sym (append-nil steps);
      told_is = sym (append-nil told);
      first = h;
      next = poll_none (λ more. has (told ++ more));
    })

-- what a line says is done for it, where it names what is there, and else it is refused
pub known_line : (Rested : Bool → Type 0) (has : Tasks) (Missed : Type 0) (known : Bool) → known ≡ true → (devices : List DeviceSetup)
    (findings : List Finding) (number : ℕ) (said : LiveLine) (steps : List LiveStep) (told : List Told) →
    Does Rested has Missed devices findings said steps told → DoesKnown Rested has Missed known devices findings number said steps told
known_line Rested has Missed true is devices findings number said steps told h = h
known_line Rested has Missed false is devices findings number said steps told h = cc is

pub unknown_line : (Rested : Bool → Type 0) (has : Tasks) (Missed : Type 0) (known : Bool) → known ≡ false → (devices : List DeviceSetup)
    (findings : List Finding) (number : ℕ)
    (said : LiveLine) (steps : List LiveStep) (told : List Told) → Tells (refused number kind.Device) steps told →
    DoesKnown Rested has Missed known devices findings number said steps told
unknown_line Rested has Missed true is devices findings number said steps told h = cc is
unknown_line Rested has Missed false is devices findings number said steps told h = h
