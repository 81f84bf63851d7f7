-- Steps, the entries of what happens to devices, and power cuts.
use Rattle.std.specs.Prelude.{◌≡◌, ℕ, zero, suc, ◌+◌, ◌≤◌, Bool, true, false, List, [], ◌∷◌, Option}
use Rattle.cct_model.specs.terms.family.Happening.{Happening}
use Rattle.cct_model.specs.terms.family.Happening.TheVariants as happening
use Rattle.cct_model.specs.lines.command.Step.{Step}
use Rattle.cct_model.specs.lines.command.Step.TheVariants as step
use Rattle.cct_model.specs.lines.entry.Entry.{Entry}
use Rattle.cct_model.specs.lines.entry.Entry.TheVariants as entry
use Rattle.cct_bus.specs.declared.outcome.Outcome.{Outcome}
use Rattle.cct_bus.specs.declared.outcome.Outcome.TheVariants as outcome
use Rattle.cct_host_change.specs.declared.desk.Serving.{Serving}
use Rattle.cct_host_change.specs.declared.desk.Serving.TheVariants as serving
use Rattle.cct_edge.specs.Faults.{next_count}
use Rattle.cct_disk.specs.Disk.{GoesOn, Outlasts}
use Rattle.cct_journal.specs.Stands.{CutOnce}

-- The entry of what happened to the device at an address, by what became of it.
abbrev pub entry_told : ℕ → Happening → Outcome → Entry
entry_told addr (happening.Coin place) (outcome.Accepted c) = entry.Accepted addr c
entry_told addr (happening.Coin place) became = entry.Inhibited addr place
entry_told addr happening.Alien became = entry.Alien addr
entry_told addr (happening.Bill place) outcome.Done = entry.Held addr place
entry_told addr (happening.Bill place) became = entry.Inhibited addr place
entry_told addr happening.Fall outcome.Done = entry.Fell addr
entry_told addr happening.Fall became = entry.NoFall addr
entry_told addr happening.Jam outcome.Done = entry.Jammed addr
entry_told addr happening.Jam became = entry.NoJam addr
entry_told addr happening.Reset became = entry.Reset addr

-- The step is a `next`.
abbrev pub is_next : Step → Bool
is_next (step.Next addr) = true
is_next s = false

-- The step is one of the operator's desk: it is reported what is in a hopper, change is wanted, or
-- a session goes on.
abbrev pub is_of_desk : Step → Bool
is_of_desk (step.Stock addr count) = true
is_of_desk (step.Change first amount) = true
is_of_desk step.Serve = true
is_of_desk s = false

-- What is reported of a `serve` that gives the host no payment; of one that does, the answer says
-- it.
abbrev pub entries_told : Serving → List Entry
entries_told serving.Idle = entry.ServeIdle ∷ []
entries_told (serving.Wait addr) = entry.ServeWait addr ∷ []
entries_told (serving.Odd id) = entry.ServeOdd id ∷ []
entries_told (serving.Served amount) = entry.Served amount ∷ []
entries_told (serving.Short shortfall) = entry.Short shortfall.paid shortfall.rest ∷ []
entries_told (serving.Pay p) = []

-- How many power cuts an entry reports: one or none.
abbrev pub crashes_told : Entry → ℕ
crashes_told (entry.Crash used) = 1
crashes_told e = 0

-- How often entries say that the host lost its power.
abbrev pub crashes : List Entry → ℕ
crashes [] = 0
crashes (e ∷ past) = crashes_told e + crashes past

-- How many power cuts a step is: one or none.
abbrev pub crashes_of : Step → ℕ
crashes_of (step.Crash at choice) = 1
crashes_of s = 0

-- A count after so many more: each raises it by one, until it is at its last value.
abbrev pub count_after : ℕ → ℕ → ℕ
count_after zero count = count
count_after (suc many) count = next_count (count_after many count)

-- A count rose by so many at least, or is at its last value.
abbrev pub RoseBy : ℕ → ℕ → ℕ → Type 0
RoseBy many before now = count_after many before ≤ now

-- A disk goes on in a step as it was; in a power cut its power may be cut, and in no other step.
abbrev pub LastsIn : {D : Type 0} → Step → (D → ℕ) → (D → Bool) → (D → Option (List ℕ)) → (D → ℕ) →
    D → D → Type 0
LastsIn (step.Crash at choice) size honest seen cuts old new =
    Outlasts size honest seen cuts old new
LastsIn s size honest seen cuts old new = GoesOn size honest seen cuts old new

-- The power of a disk is cut just once in a power cut, by its choice, and in no other step.
abbrev pub CutsIn : {D : Type 0} → Step → (D → ℕ) → (D → Bool) → (D → Option (List ℕ)) → (D → ℕ) →
    (D → ℕ → D → Type 0) → D → D
    → Type 0
CutsIn (step.Crash at choice) size honest seen cuts cut_to old new =
    CutOnce size honest seen cuts cut_to choice old new
CutsIn s size honest seen cuts cut_to old new = cuts new ≡ cuts old
