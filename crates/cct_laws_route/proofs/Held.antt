-- A bill is reported as held exactly where the bill acceptor holds it, whatever the wire does.
use Rattle.std.proofs.Common.{◌≡◌, ◌≢◌, inl, inr, ℕ, ◌==◌, cond, true, false, Bool, List, [], ◌∷◌, ◌++◌, refl, ap, sym, ◌∙◌, subst, eqb-true}
use Rattle.std.specs.Prelude.{⊤}
use Rattle.cct_model.specs.terms.device.DeviceBody.{DeviceBody}
use Rattle.cct_model.specs.terms.device.DeviceBody.TheVariants.{Acceptor, Bill, Hopper}
use Rattle.cct_model.specs.terms.device.DeviceSetup.{DeviceSetup}
use Rattle.cct_model.specs.terms.device.Setup.{Setup}
use Rattle.cct_model.specs.lines.command.Step.{Step}
use Rattle.cct_model.specs.lines.entry.Entry.{Entry}
use Rattle.cct_model.specs.lines.entry.Entry.TheVariants as entry
use Rattle.cct_model.specs.Bill.{holds}
use Rattle.cct_model.specs.Device.{IsAcceptor, IsBill}
use Rattle.cct_model.specs.History.{Met, coin, alien, fall, jam, reset}
use Rattle.cct_model.specs.Legal.{Legal}
use Rattle.cct_model.specs.Line.{Line}
use Rattle.cct_model.specs.Transcript.{met, onto}
use Rattle.cct_laws.specs.Law.{EachEntry, IsOf}
use Rattle.cct_laws.proofs.setups.DeviceAt.{same_or_other}
use Rattle.cct_laws.proofs.jobs.StepBrings.{Comes, drops_coin, drops_none, is_reset, jams, jams_none, leaves_alien, leaves_bill, leaves_coin, takes_bill, takes_coin}
use Rattle.cct_laws.proofs.jobs.EntriesOfStep.{any_steps}
use Rattle.cct_laws_route.specs.Escrow.{held_bills}
use Rattle.cct_laws_route.specs.Held.{held_told}
use Rattle.cct_laws_route.proofs.Coming.{TellsNoCoin, legal_each}

-- at its address no coin is reported, a bill that is reported as held is held, and one that is reported as inhibited isn't
abbrev IsHeldAt : DeviceSetup → List Entry → Entry → Type 0
IsHeldAt d past (entry.Accepted addr c) = addr ≢ d.addr
IsHeldAt d past (entry.Held addr place) = addr ≡ d.addr → holds (met d past) place ≡ true
IsHeldAt d past (entry.Inhibited addr place) = addr ≡ d.addr → holds (met d past) place ≡ false
IsHeldAt d past e = ⊤

-- so those reported are those held
met_if : (here : Bool) (m : Met) (past : List Met) (told : List ℕ) → (here ≡ true → told ≡ held_bills (m ∷ past)) →
    (here ≡ false → told ≡ held_bills past) → told ≡ held_bills (cond here (m ∷ []) [] ++ past)
met_if true m past told is other = is refl
met_if false m past told is other = other refl

held_if : (here : Bool) (place : ℕ) (past : List Met) (told : List ℕ) → (here ≡ true → holds past place ≡ true) →
    told ≡ held_bills past →
    cond here (place ∷ told) told ≡ held_bills (cond here (coin place ∷ []) [] ++ past)
held_if true place past told is before =
    ap (λ ps. place ∷ ps) before ∙ sym (ap (λ b. cond b (place ∷ held_bills past) (held_bills past)) (is refl))
held_if false place past told is before = before

unheld_if : (here : Bool) (place : ℕ) (past : List Met) (told : List ℕ) → (here ≡ true → holds past place ≡ false) →
    told ≡ held_bills past → told ≡ held_bills (cond here (coin place ∷ []) [] ++ past)
unheld_if true place past told is before =
    before ∙ sym (ap (λ b. cond b (place ∷ held_bills past) (held_bills past)) (is refl))
unheld_if false place past told is before = before

told_is : (d : DeviceSetup) (past : List Entry) → EachEntry (IsHeldAt d) past → held_told d past ≡ held_bills (met d past)
told_is d [] each = refl
told_is d (entry.Accepted addr c ∷ past) each =
    met_if (addr == d.addr) (coin c.place) (met d past) (held_told d past)
    (λ test. absurd (each.0 (eqb-true addr d.addr test))) (λ test. told_is d past each.1)
told_is d (entry.Held addr place ∷ past) each =
    held_if (addr == d.addr) place (met d past) (held_told d past) (λ test. each.0 (eqb-true addr d.addr test))
    (told_is d past each.1)
told_is d (entry.Inhibited addr place ∷ past) each =
    unheld_if (addr == d.addr) place (met d past) (held_told d past) (λ test. each.0 (eqb-true addr d.addr test))
    (told_is d past each.1)
told_is d (entry.Alien addr ∷ past) each =
    met_if (addr == d.addr) alien (met d past) (held_told d past) (λ test. told_is d past each.1) (λ test. told_is d past each.1)
told_is d (entry.Fell addr ∷ past) each =
    met_if (addr == d.addr) fall (met d past) (held_told d past) (λ test. told_is d past each.1) (λ test. told_is d past each.1)
told_is d (entry.NoFall addr ∷ past) each =
    met_if (addr == d.addr) fall (met d past) (held_told d past) (λ test. told_is d past each.1) (λ test. told_is d past each.1)
told_is d (entry.Jammed addr ∷ past) each =
    met_if (addr == d.addr) jam (met d past) (held_told d past) (λ test. told_is d past each.1) (λ test. told_is d past each.1)
told_is d (entry.NoJam addr ∷ past) each =
    met_if (addr == d.addr) jam (met d past) (held_told d past) (λ test. told_is d past each.1) (λ test. told_is d past each.1)
told_is d (entry.Reset addr ∷ past) each =
    met_if (addr == d.addr) reset (met d past) (held_told d past) (λ test. told_is d past each.1) (λ test. told_is d past each.1)
told_is d (e ∷ past) each = told_is d past each.1

-- each step shows so
no_coins : (body : DeviceBody) → IsAcceptor body → IsBill body → ⊥
no_coins (Acceptor accepts values ids) accepting billing = billing
no_coins (Hopper life value) accepting billing = accepting
no_coins (Bill accepts values ids) accepting billing = accepting

came_here : (d : DeviceSetup) (past : List Entry) (s : Step) (e : Entry) (m : Met) (ls : List Line) → IsBill d.body →
    Comes d (met d past) s e m ls → IsHeldAt d past e
came_here d past _ _ _ _ billing (takes_coin place accepting test) = λ here. no_coins d.body accepting billing
came_here d past _ _ _ _ billing (leaves_coin place accepting test) = absurd (no_coins d.body accepting billing)
came_here d past _ _ _ _ billing (takes_bill place is_bill test) = λ here. test
came_here d past _ _ _ _ billing (leaves_bill place is_bill test) = λ here. test
came_here d past _ _ _ _ billing (leaves_alien accepting) = tt
came_here d past _ _ _ _ billing (drops_coin paying test) = tt
came_here d past _ _ _ _ billing (drops_none paying test) = tt
came_here d past _ _ _ _ billing (jams paying test) = tt
came_here d past _ _ _ _ billing (jams_none paying test) = tt
came_here d past _ _ _ _ billing is_reset = tt

came_elsewhere : (d e : DeviceSetup) (past : List Entry) (before : List Met) (s : Step) (n : Entry) (m : Met)
    (ls : List Line) → e.addr ≢ d.addr → Comes e before s n m ls → IsHeldAt d past n
came_elsewhere d e past before _ _ _ _ other (takes_coin place accepting test) = other
came_elsewhere d e past before _ _ _ _ other (leaves_coin place accepting test) = λ here. absurd (other here)
came_elsewhere d e past before _ _ _ _ other (takes_bill place is_bill test) = λ here. absurd (other here)
came_elsewhere d e past before _ _ _ _ other (leaves_bill place is_bill test) = λ here. absurd (other here)
came_elsewhere d e past before _ _ _ _ other (leaves_alien accepting) = tt
came_elsewhere d e past before _ _ _ _ other (drops_coin paying test) = tt
came_elsewhere d e past before _ _ _ _ other (drops_none paying test) = tt
came_elsewhere d e past before _ _ _ _ other (jams paying test) = tt
came_elsewhere d e past before _ _ _ _ other (jams_none paying test) = tt
came_elsewhere d e past before _ _ _ _ other is_reset = tt

came_so : (setup : Setup) (d e : DeviceSetup) (past : List Entry) (s : Step) (n : Entry) (m : Met) (ls : List Line) →
    IsOf setup d → IsBill d.body → IsOf setup e → Comes e (met e past) s n m ls → IsHeldAt d past n
came_so setup d e past s n m ls is_of billing own comes =
    elim (same_or_other setup d e e.addr is_of own) [
      | inl same ↦ came_here d past s n m ls billing (subst (λ x. Comes x (met x past) s n m ls) same comes)
      | inr other ↦ came_elsewhere d e past (met e past) s n m ls other comes
    ]

other_so : (d : DeviceSetup) (past : List Entry) (e : Entry) → TellsNoCoin e → IsHeldAt d past e
other_so d past (entry.Accepted addr c) none = absurd none
other_so d past (entry.Held addr place) none = absurd none
other_so d past (entry.Inhibited addr place) none = absurd none
other_so d past e none = tt

pub legal_told : (capacity : ℕ) (setup : Setup) (steps : List Step) (transcript : List Entry) (d : DeviceSetup) →
    IsOf setup d → IsBill d.body → Legal capacity setup steps transcript →
    held_told d (onto [] transcript) ≡ held_bills (met d (onto [] transcript))
legal_told capacity setup steps transcript d is_of billing legal =
    told_is d (onto [] transcript)
    (legal_each capacity setup (λ s. ⊤) (IsHeldAt d) (other_so d)
    (λ e past s n m ls own any comes. came_so setup d e past s n m ls is_of billing own comes) steps transcript
    (any_steps steps) legal)
