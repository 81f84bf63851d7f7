-- Only a `change` and a `serve` say how a session begins and ends.
use Rattle.std.proofs.Common.{◌≡◌, ℕ, List, [], ◌∷◌, ◌++◌, refl, ◌∙◌, Option, Some, None, All}
use Rattle.std.specs.Prelude.{⊤}
use Rattle.std.proofs.lemmas.List.Elements.{All-cons, All-head, All-nil, All-tail}
use Rattle.cct_model.specs.terms.device.DeviceSetup.{DeviceSetup}
use Rattle.cct_model.specs.terms.device.Setup.{Setup}
use Rattle.cct_model.specs.lines.command.Step.{Step}
use Rattle.cct_model.specs.lines.command.Step.TheVariants as step
use Rattle.cct_model.specs.lines.entry.End.{End}
use Rattle.cct_model.specs.lines.entry.Entry.{Entry}
use Rattle.cct_model.specs.lines.entry.Entry.TheVariants as entry
use Rattle.cct_model.specs.History.{Met}
use Rattle.cct_model.specs.Legal.{Entries, with_end}
use Rattle.cct_model.specs.Line.{Line}
use Rattle.cct_model.specs.Transcript.{met}
use Rattle.cct_laws_change.specs.Change.{told_paid}
use Rattle.cct_laws.proofs.jobs.StepBrings.{Comes, takes_coin, leaves_coin, takes_bill, leaves_bill, leaves_alien, drops_coin, drops_none, jams, jams_none, is_reset, AtDevice, came, took, halted, idled, made_exchange, made_put, wire_of, wire_end, record_end, poll_wire, poll_end, IsOfDesk, tells_stock, begins_change, keeps_change, serves_none, serves_later, serves_odd, serves_all, serves_short, Brought, of_device, faulted, refused, began_scan, began_sale, nobody, polled, sold, balanced, of_desk, ended_short, lost_power, lost_in_put, lost_in_sale}
use Rattle.cct_laws.proofs.jobs.EntriesOfStep.{over_telling, tells}

-- a step is none of those at the operator's desk
abbrev pub IsNoDesk : Step → Type 0
IsNoDesk (step.Stock addr count) = ⊥
IsNoDesk (step.Change first amount) = ⊥
IsNoDesk step.Serve = ⊥
IsNoDesk s = ⊤

-- an entry shows nothing of a session's begin or end
abbrev pub TellsNothing : Entry → Type 0
TellsNothing (entry.ChangeOk first amount) = ⊥
TellsNothing (entry.Served amount) = ⊥
TellsNothing (entry.Short paid rest) = ⊥
TellsNothing (entry.ServeOdd id) = ⊥
TellsNothing e = ⊤

one_nothing : (e : Entry) → TellsNothing e → All TellsNothing (e ∷ [])
one_nothing e is = All-cons TellsNothing e [] is (All-nil TellsNothing)

two_nothing : (e f : Entry) → TellsNothing e → TellsNothing f → All TellsNothing (e ∷ f ∷ [])
two_nothing e f is other = All-cons TellsNothing e (f ∷ []) is (one_nothing f other)

end_nothing : (addr : ℕ) (e : Entry) (end : Option End) → TellsNothing e → All TellsNothing (with_end addr e end)
end_nothing addr e None is = one_nothing e is
end_nothing addr e (Some end) is = two_nothing (entry.Ended addr end) e tt is

came_nothing : (d : DeviceSetup) (past : List Met) (s : Step) (e : Entry) (m : Met) (ls : List Line) →
    Comes d past s e m ls → TellsNothing e
came_nothing d past _ _ _ _ (takes_coin place accepting test) = tt
came_nothing d past _ _ _ _ (leaves_coin place accepting test) = tt
came_nothing d past _ _ _ _ (takes_bill place banking test) = tt
came_nothing d past _ _ _ _ (leaves_bill place banking test) = tt
came_nothing d past _ _ _ _ (leaves_alien accepting) = tt
came_nothing d past _ _ _ _ (drops_coin paying test) = tt
came_nothing d past _ _ _ _ (drops_none paying test) = tt
came_nothing d past _ _ _ _ (jams paying test) = tt
came_nothing d past _ _ _ _ (jams_none paying test) = tt
came_nothing d past _ _ _ _ is_reset = tt

device_nothing : (capacity : ℕ) (setup : Setup) (d : DeviceSetup) (past news : List Entry) (s : Step) →
    AtDevice capacity setup d past s news → All TellsNothing news
device_nothing capacity setup d past _ _ (came s e m ls comes) =
    one_nothing e (came_nothing d (met d past) s e m ls comes)
device_nothing capacity setup d past _ _ (took s c gives suited here is_free is_taken is_owed lets) = one_nothing _ tt
device_nothing capacity setup d past _ _ (halted paying can) = one_nothing _ tt
device_nothing capacity setup d past _ _ (idled is_free) = one_nothing _ tt
device_nothing capacity setup d past _ _ (made_exchange c since q at_work is_row) =
    end_nothing d.addr (wire_of setup d past q) (wire_end setup d past c since q) tt
device_nothing capacity setup d past _ _ (made_put c since r at_work is_row) =
    end_nothing d.addr (entry.Put r) (record_end d past c since r) tt

desk_nothing : (s : Step) (e : Entry) → IsNoDesk s → IsOfDesk s e → TellsNothing e
desk_nothing _ _ none (tells_stock addr count) = tt
desk_nothing _ _ none (begins_change first amount) = absurd none
desk_nothing _ _ none (keeps_change first amount) = tt
desk_nothing _ _ none serves_none = tt
desk_nothing _ _ none (serves_later addr) = tt
desk_nothing _ _ none (serves_odd id) = absurd none
desk_nothing _ _ none (serves_all amount) = absurd none
desk_nothing _ _ none (serves_short paid rest) = absurd none

brought_nothing : (capacity : ℕ) (setup : Setup) (past news : List Entry) (s : Step) → IsNoDesk s →
    Brought capacity setup past s news → All TellsNothing news
brought_nothing capacity setup past _ _ none (of_device d s news own told) =
    device_nothing capacity setup d past news s told
brought_nothing capacity setup past _ _ none (faulted f) = one_nothing _ tt
brought_nothing capacity setup past _ _ none (refused c why was) = one_nothing _ tt
brought_nothing capacity setup past _ _ none (began_scan is_free) = one_nothing _ tt
brought_nothing capacity setup past _ _ none (began_sale id price is_free lets) = one_nothing _ tt
brought_nothing capacity setup past _ _ none (nobody addr empty) = one_nothing _ tt
brought_nothing capacity setup past _ _ none (polled c since check addr empty is_job is_row) =
    end_nothing 0 (poll_wire setup past check addr) (poll_end setup past since check addr) tt
brought_nothing capacity setup past _ _ none (sold id price since empty selling) = two_nothing _ _ tt tt
brought_nothing capacity setup past _ _ none balanced = one_nothing _ tt
brought_nothing capacity setup past _ _ none (of_desk s e is) = one_nothing e (desk_nothing s e none is)
brought_nothing capacity setup past _ _ none (ended_short addr id count why paid rest small range was) = absurd none
brought_nothing capacity setup past _ _ none (lost_power at choice) = one_nothing _ tt
brought_nothing capacity setup past _ _ none (lost_in_put at choice d c since r own at_work is_row) =
    two_nothing _ _ tt tt
brought_nothing capacity setup past _ _ none (lost_in_sale at choice id price since empty selling) =
    two_nothing _ _ tt tt

pub plain_told : (capacity : ℕ) (setup : Setup) (past news : List Entry) (s : Step) → IsNoDesk s →
    Entries capacity setup past s news → All TellsNothing news
plain_told capacity setup past news s none entries =
    let told = tells capacity setup past news s entries in
    over_telling capacity setup past news s (All TellsNothing)
    (λ es addr before. All-cons TellsNothing (entry.Forged addr) es tt before) told
    (brought_nothing capacity setup past told.told s none told.brings)

-- so such entries leave what was reported last as paid
one_told_paid : (e : Entry) (past : List Entry) → TellsNothing e → told_paid (e ∷ past) ≡ told_paid past
one_told_paid (entry.Served amount) past none = absurd none
one_told_paid (entry.Short paid rest) past none = absurd none
one_told_paid (entry.ChangeOk first amount) past none = absurd none
one_told_paid e past none = refl

pub same_told_paid : (news past : List Entry) → All TellsNothing news → told_paid (news ++ past) ≡ told_paid past
same_told_paid [] past none = refl
same_told_paid (e ∷ news) past none =
    one_told_paid e (news ++ past) (All-head TellsNothing e news none)
    ∙ same_told_paid news past (All-tail TellsNothing e news none)
