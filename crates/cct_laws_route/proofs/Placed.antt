-- In every legal transcript coins and bills are of places from 1 on, whatever the wire does.
use Rattle.std.proofs.Common.{ℕ, ◌≤◌, ◌==◌, cond, true, false, Bool, List, [], ◌∷◌, ◌++◌, All}
use Rattle.std.specs.Prelude.{⊤}
use Rattle.cct_model.specs.terms.device.DeviceSetup.{DeviceSetup}
use Rattle.cct_model.specs.terms.device.Setup.{Setup}
use Rattle.cct_model.specs.lines.command.Step.{Step}
use Rattle.cct_model.specs.lines.entry.Entry.{Entry}
use Rattle.cct_model.specs.lines.entry.Entry.TheVariants as entry
use Rattle.cct_model.specs.History.{Met, coin, alien, fall, jam, reset}
use Rattle.cct_model.specs.Legal.{Legal}
use Rattle.cct_model.specs.Line.{Line}
use Rattle.cct_model.specs.Script.{IsInRange}
use Rattle.cct_model.specs.Transcript.{met, onto}
use Rattle.cct_laws.proofs.jobs.StepBrings.{Comes, drops_coin, drops_none, is_reset, jams, jams_none, leaves_alien, leaves_bill, leaves_coin, takes_bill, takes_coin}
use Rattle.cct_laws_route.specs.Places.{ArePlaced}
use Rattle.cct_laws_route.proofs.Coming.{TellsNoCoin, legal_each}
use Rattle.cct_laws.specs.Law.{EachEntry}

-- an entry of a coin or a bill is of such a place
abbrev IsPlacedAt : Entry → Type 0
IsPlacedAt (entry.Accepted addr c) = 1 ≤ c.place
IsPlacedAt (entry.Held addr place) = 1 ≤ place
IsPlacedAt (entry.Inhibited addr place) = 1 ≤ place
IsPlacedAt e = ⊤

-- so what devices meet is
placed_if : (here : Bool) (place : ℕ) (past : List Met) → 1 ≤ place → ArePlaced past →
    ArePlaced (cond here (coin place ∷ []) [] ++ past)
placed_if true place past some before = (some, before)
placed_if false place past some before = before

other_if : (here : Bool) (m : Met) (past : List Met) → ArePlaced (m ∷ past) → ArePlaced past →
    ArePlaced (cond here (m ∷ []) [] ++ past)
other_if true m past more before = more
other_if false m past more before = before

met_placed : (d : DeviceSetup) (past : List Entry) → EachEntry (λ older. IsPlacedAt) past → ArePlaced (met d past)
met_placed d [] all = tt
met_placed d (entry.Accepted addr c ∷ past) all =
    placed_if (addr == d.addr) c.place (met d past) all.0 (met_placed d past all.1)
met_placed d (entry.Held addr place ∷ past) all =
    placed_if (addr == d.addr) place (met d past) all.0 (met_placed d past all.1)
met_placed d (entry.Inhibited addr place ∷ past) all =
    placed_if (addr == d.addr) place (met d past) all.0 (met_placed d past all.1)
met_placed d (entry.Alien addr ∷ past) all =
    other_if (addr == d.addr) alien (met d past) (met_placed d past all.1) (met_placed d past all.1)
met_placed d (entry.Fell addr ∷ past) all =
    other_if (addr == d.addr) fall (met d past) (met_placed d past all.1) (met_placed d past all.1)
met_placed d (entry.NoFall addr ∷ past) all =
    other_if (addr == d.addr) fall (met d past) (met_placed d past all.1) (met_placed d past all.1)
met_placed d (entry.Jammed addr ∷ past) all =
    other_if (addr == d.addr) jam (met d past) (met_placed d past all.1) (met_placed d past all.1)
met_placed d (entry.NoJam addr ∷ past) all =
    other_if (addr == d.addr) jam (met d past) (met_placed d past all.1) (met_placed d past all.1)
met_placed d (entry.Reset addr ∷ past) all =
    other_if (addr == d.addr) reset (met d past) (met_placed d past all.1) (met_placed d past all.1)
met_placed d (e ∷ past) all = met_placed d past all.1

-- each step in range brings such coins and bills
came_placed : (d : DeviceSetup) (before : List Met) (s : Step) (e : Entry) (m : Met) (ls : List Line) →
    Comes d before s e m ls → IsInRange s → IsPlacedAt e
came_placed d before _ _ _ _ (takes_coin place accepting test) range = range.0
came_placed d before _ _ _ _ (leaves_coin place accepting test) range = range.0
came_placed d before _ _ _ _ (takes_bill place banking test) range = range.0
came_placed d before _ _ _ _ (leaves_bill place banking test) range = range.0
came_placed d before _ _ _ _ (leaves_alien accepting) range = tt
came_placed d before _ _ _ _ (drops_coin paying test) range = tt
came_placed d before _ _ _ _ (drops_none paying test) range = tt
came_placed d before _ _ _ _ (jams paying test) range = tt
came_placed d before _ _ _ _ (jams_none paying test) range = tt
came_placed d before _ _ _ _ is_reset range = tt

other_placed : (e : Entry) → TellsNoCoin e → IsPlacedAt e
other_placed (entry.Accepted addr c) none = absurd none
other_placed (entry.Held addr place) none = absurd none
other_placed (entry.Inhibited addr place) none = absurd none
other_placed e none = tt

pub legal_placed : (capacity : ℕ) (setup : Setup) (steps : List Step) (transcript : List Entry) (d : DeviceSetup) →
    All IsInRange steps → Legal capacity setup steps transcript → ArePlaced (met d (onto [] transcript))
legal_placed capacity setup steps transcript d range legal =
    met_placed d (onto [] transcript)
    (legal_each capacity setup IsInRange (λ older. IsPlacedAt) (λ past. other_placed)
    (λ e past s n m ls own is comes. came_placed e (met e past) s n m ls comes is) steps transcript range legal)
