-- Each entry of a run of any host: something came to a device, the host did nothing that a device hears, or any bytes were
-- sent.
use Rattle.std.proofs.Common.{◌≡◌, ◌≢◌, ℕ, suc, ◌≤◌, ◌==◌, cond, length, arith, false, List, [], ◌∷◌, ◌++◌, refl, sym, subst, eq-eqb, inl, inr, ap, ◌∙◌}
use Rattle.std.specs.Prelude.{⊤}
use Rattle.std.proofs.lemmas.Bool.{ne_eqb}
use Rattle.cct_model.specs.terms.device.DeviceSetup.{DeviceSetup}
use Rattle.cct_model.specs.terms.device.Setup.{Setup}
use Rattle.cct_model.specs.lines.command.Command.{Command}
use Rattle.cct_model.specs.lines.command.WireFault.{WireFault}
use Rattle.cct_model.specs.lines.command.Step.{Step}
use Rattle.cct_model.specs.lines.command.Step.TheVariants as step
use Rattle.cct_model.specs.lines.entry.Entry.{Entry}
use Rattle.cct_model.specs.lines.entry.Entry.TheVariants as entry
use Rattle.cct_model.specs.History.{Met}
use Rattle.cct_model.specs.Line.{Line}
use Rattle.cct_model.specs.Script.{IsInRange}
use Rattle.cct_model.specs.Transcript.{heard_after, meets, met, own}
use Rattle.cct_laws.specs.Law.{IsOf}
use Rattle.cct_laws.proofs.setups.DeviceAt.{same_or_other}
use Rattle.cct_laws.proofs.jobs.SeenAtOne.{loose, loose_met}
use Rattle.cct_laws.proofs.jobs.StepBrings.{IsOfNoJob, came_of_no_job, AtDevice, came, took, halted, idled, made_exchange, made_put, Brought, of_device, faulted, refused, began_scan, began_sale, nobody, polled, sold, balanced, of_desk, ended_short, lost_power, lost_in_put, lost_in_sale, brought, told_of, Comes, IsOfDesk, tells_stock, begins_change, keeps_change, serves_none, serves_later, serves_odd, serves_all, serves_short}
use Rattle.cct_audit_taps.specs.Taps.{Tap}
use Rattle.cct_laws_any_host.specs.Wild.{WildStep, outside, exchange, IsOutside, WildEntries, WildFrom, before_tap, taps}

-- what one entry brought
pub data Wild (setup : Setup) (past : List Entry) : Entry → Type 0 where
  comes : (d : DeviceSetup) (s : Step) (e : Entry) (m : Met) (ls : List Line) → IsOf setup d → IsInRange s →
      Comes d (met d past) s e m ls → Wild setup past e
  faults : (f : WireFault) → Wild setup past (entry.Fault f)
  takes : (c : Command) → Wild setup past (entry.Taken c)
  sends : (addr : ℕ) (sent : List ℕ) → Wild setup past (entry.Wire addr sent (heard_after setup past sent))

-- what each entry of a past brought
abbrev pub AllWild : Setup → List Entry → Type 0
AllWild setup [] = ⊤
AllWild setup (e ∷ past) = Wild setup past e × AllWild setup past

-- what a step outside the host brings is reported
told_same : (s : Step) (news : List Entry) → IsOutside s → told_of s news ≡ news
told_same (step.Next addr) news is = absurd is
told_same s news is = refl

of_no_desk : (s : Step) (e : Entry) → IsOfDesk s e → IsOutside s → ⊥
of_no_desk _ _ (tells_stock addr count) is = is
of_no_desk _ _ (begins_change first amount) is = is
of_no_desk _ _ (keeps_change first amount) is = is
of_no_desk _ _ serves_none is = is
of_no_desk _ _ (serves_later addr) is = is
of_no_desk _ _ (serves_odd id) is = is
of_no_desk _ _ (serves_all amount) is = is
of_no_desk _ _ (serves_short paid rest) is = is

device_wild : (setup : Setup) (past : List Entry) (d : DeviceSetup) (s : Step) (news : List Entry) → IsOutside s →
    IsInRange s → IsOf setup d → AtDevice 0 setup d past s news → AllWild setup past → AllWild setup (news ++ past)
device_wild setup past d _ _ is range own (came s e m ls at) all = (comes d s e m ls own range at, all)
device_wild setup past d _ _ is range own (took s c gives suited here no_job taken owed none) all = (takes c, all)
device_wild setup past d _ _ is range own (halted paying can) all = absurd is
device_wild setup past d _ _ is range own (idled no_job) all = absurd is
device_wild setup past d _ _ is range own (made_exchange c since q at_work row) all = absurd is
device_wild setup past d _ _ is range own (made_put c since r at_work row) all = absurd is

brought_wild : (setup : Setup) (past : List Entry) (s : Step) (news : List Entry) → IsOutside s → IsInRange s →
    Brought 0 setup past s news → AllWild setup past → AllWild setup (news ++ past)
brought_wild setup past _ _ is range (of_device d s news own at) all = device_wild setup past d s news is range own at all
brought_wild setup past _ _ is range (faulted f) all = (faults f, all)
brought_wild setup past _ _ is range (refused c why refuses) all = absurd is
brought_wild setup past _ _ is range (began_scan no_job) all = absurd is
brought_wild setup past _ _ is range (began_sale id price no_job none) all = absurd is
brought_wild setup past _ _ is range (nobody addr none) all = absurd is
brought_wild setup past _ _ is range (polled c since check addr none at_work due) all = absurd is
brought_wild setup past _ _ is range (sold id price since none selling) all = absurd is
brought_wild setup past _ _ is range balanced all = absurd is
brought_wild setup past _ _ is range (of_desk s e desk) all = absurd (of_no_desk s e desk is)
brought_wild setup past _ _ is range (ended_short addr id count why paid rest small pay refuses) all = absurd is
brought_wild setup past _ _ is range (lost_power at choice) all = absurd is
brought_wild setup past _ _ is range (lost_in_put at choice d c since r own at_work row) all = absurd is
brought_wild setup past _ _ is range (lost_in_sale at choice id price since none selling) all = absurd is

step_wild : (setup : Setup) (past : List Entry) (s : WildStep) (news : List Entry) → WildEntries setup past s news →
    AllWild setup past → AllWild setup (news ++ past)
step_wild setup past (outside s) news told all =
    brought_wild setup past s news told.0 told.1
    (subst (Brought 0 setup past s) (told_same s news told.0) (brought 0 setup past news s told.2)) all
step_wild setup past (exchange sent) news told all =
    subst (λ ns. AllWild setup (ns ++ past)) (sym told.1) (sends told.0 sent, all)

-- a run of any host
pub wild_all : (setup : Setup) (steps : List WildStep) (past end : List Entry) → WildFrom setup past steps end →
    AllWild setup past → AllWild setup end
wild_all setup [] past end goes all = subst (AllWild setup) (sym goes) all
wild_all setup (s ∷ steps) past end goes all =
    wild_all setup steps (goes.0 ++ past) end goes.2 (step_wild setup past s goes.0 goes.1 all)

-- ---- what comes to one device

-- something came to this device, or an entry that it doesn't meet
pub data Seen (d : DeviceSetup) (past : List Entry) : Entry → Type 0 where
  here : (s : Step) (e : Entry) (m : Met) (ls : List Line) → IsInRange s → Comes d (met d past) s e m ls →
      meets d past e ≡ m ∷ [] → own d past e ≡ ls → Seen d past e
  elsewhere : (e : Entry) → meets d past e ≡ [] → own d past e ≡ [] → Seen d past e

comes_here : (d : DeviceSetup) (past : List Entry) (s : Step) (e : Entry) (m : Met) (ls : List Line) → IsInRange s →
    Comes d (met d past) s e m ls → Seen d past e
comes_here d past s e m ls range at =
    let is = loose d (met d past) s e m ls at in
    here s e m ls range at (loose_met d past s e m ls is)
    (is.own_is d past ∙ ap (λ b. cond b ls []) (eq-eqb d.addr d.addr refl))

comes_there : (d other : DeviceSetup) (past : List Entry) (before : List Met) (s : Step) (e : Entry) (m : Met)
    (ls : List Line) → (other.addr == d.addr) ≡ false → Comes other before s e m ls → Seen d past e
comes_there d other past before s e m ls test at =
    let is = loose other before s e m ls at in
    elsewhere e (is.meets_is d past ∙ ap (λ b. cond b (m ∷ []) []) test) (is.own_is d past ∙ ap (λ b. cond b ls []) test)

pub comes_to : (setup : Setup) (d other : DeviceSetup) (past : List Entry) (s : Step) (e : Entry) (m : Met)
    (ls : List Line) → IsOf setup d → IsOf setup other → IsInRange s → Comes other (met other past) s e m ls →
    Seen d past e
comes_to setup d other past s e m ls own_one own_other range at =
    elim (same_or_other setup d other other.addr own_one own_other) [
      | inl same ↦ comes_here d past s e m ls range (subst (λ x. Comes x (met x past) s e m ls) same at)
      | inr differs ↦ comes_there d other past (met other past) s e m ls (ne_eqb other.addr d.addr differs) at
    ]

-- what comes is no exchange
untapped : (e : Entry) (past : List Entry) (P : (ℕ → List Entry) → List Tap → Type 0) → IsOfNoJob e →
    P (λ n. before_tap n past) (taps past) → P (λ n. before_tap n (e ∷ past)) (taps (e ∷ past))
untapped (entry.Wire addr sent piece) past P is p = absurd is
untapped e past P is p = p

pub no_tap : (d : DeviceSetup) (before : List Met) (s : Step) (e : Entry) (m : Met) (ls : List Line)
    (past : List Entry) (P : (ℕ → List Entry) → List Tap → Type 0) → Comes d before s e m ls →
    P (λ n. before_tap n past) (taps past) → P (λ n. before_tap n (e ∷ past)) (taps (e ∷ past))
no_tap d before s e m ls past P at p = untapped e past P (came_of_no_job d before s e m ls at) p

-- the moment of the last tap, and those of the taps before it
pub at_last : (n : ℕ) (past : List Entry) (earlier : List Entry) → n ≡ suc (length (taps past)) →
    cond (suc (length (taps past)) == n) past earlier ≡ past
at_last n past earlier is = rw (eq-eqb (suc (length (taps past))) n (sym is)) refl

pub at_earlier : (n : ℕ) (past : List Entry) (earlier : List Entry) → n ≤ length (taps past) →
    cond (suc (length (taps past)) == n) past earlier ≡ earlier
at_earlier n past earlier most =
    let differs : suc (length (taps past)) ≢ n = omega (arith, most) in
    rw (ne_eqb (suc (length (taps past))) n differs) refl
