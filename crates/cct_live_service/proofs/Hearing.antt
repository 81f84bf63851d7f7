-- Lemmas on what the program around a service hears.
use Rattle.std.proofs.Common.{◌≡◌, ℕ, suc, List, ◌∷◌, ◌++◌, length, Ok, Err, refl, sym, subst, append_assoc}
use Rattle.cct_model.specs.terms.device.DeviceSetup.{DeviceSetup}
use Rattle.cct_script.specs.declared.live.LiveLine.TheVariants as says
use Rattle.cct_live_service.specs.declared.input.InputLine.TheVariants as input
use Rattle.cct_live_service.specs.Hears.{HearsMore, Refusal}
use Rattle.cct_live_service.specs.Refused.{next_unread, refusals, unnamed, unread}
use Rattle.cct_live_service.specs.Said.{Said, unless_end}

pub hears_then : {O : Type 0} (heard : O → List Refusal → Type 0) (a b c : O) (first then : List Refusal) →
    HearsMore heard a b first → HearsMore heard b c then → HearsMore heard a c (then ++ first)
hears_then heard a b c first then h k before has =
    subst (heard c) (sym (append_assoc then first before)) (k (first ++ before) (h before has))

-- what comes next is refused as what it says
pub unread_next : (number : ℕ) (said : Said) → next_unread number (unless_end said) ≡ unread number said
unread_next number (Ok (input.Host says.End)) = refl
unread_next number (Ok (input.Host (says.Command c))) = refl
unread_next number (Ok (input.Host (says.Next addr))) = refl
unread_next number (Ok (input.Host (says.Do addr))) = refl
unread_next number (Ok (input.Host says.Poll)) = refl
unread_next number (Ok (input.Host says.Balance)) = refl
unread_next number (Ok (input.Host says.Status)) = refl
unread_next number (Ok (input.Host (says.Order id))) = refl
unread_next number (Ok (input.Host (says.Stock addr count))) = refl
unread_next number (Ok (input.Host (says.Change first amount))) = refl
unread_next number (Ok (input.Host says.Serve)) = refl
unread_next number (Ok input.State) = refl
unread_next number (Err why) = refl

-- a line was read and done after others
pub hears_line : {O : Type 0} (heard : O → List Refusal → Type 0) (a b c d : O) (devices there : List DeviceSetup) →
    there ≡ devices → (before : List Said) (number : ℕ) (said : Said) → suc (length before) ≡ number →
    HearsMore heard a b (refusals devices before) → HearsMore heard b c (unread number said) →
    HearsMore heard c d (unnamed there number said) → HearsMore heard a d (refusals devices (said ∷ before))
hears_line heard a b c d devices there same before number said count h reads does =
    let at = subst (λ n. HearsMore heard b c (unread n said)) (sym count) reads in
    let in_setup = subst (λ ds. HearsMore heard c d (unnamed ds number said)) same does in
    let names = subst (λ n. HearsMore heard c d (unnamed devices n said)) (sym count) in_setup in
    hears_then heard a b d (refusals devices before)
    (unnamed devices (suc (length before)) said ++ unread (suc (length before)) said) h
    (hears_then heard b c d (unread (suc (length before)) said) (unnamed devices (suc (length before)) said) at names)
