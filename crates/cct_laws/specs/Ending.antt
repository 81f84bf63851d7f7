-- When a job ends: which steps ask for it, which ends are its own, which entries are its own, and
-- which show its end.
use Rattle.std.specs.Prelude.{◌≡◌, ◌≢◌, ◌⊎◌, ℕ, suc, ◌+◌, ◌==◌, Bool, true, false, List, [], ◌∷◌}
use Rattle.std.specs.Prelude.{◌++◌, length, if◌then◌else◌, Some, ⊤}
use Rattle.cct_model.specs.terms.device.DeviceSetup.{DeviceSetup}
use Rattle.cct_model.specs.terms.request.Request.TheVariants.{GetStatus}
use Rattle.cct_model.specs.lines.command.Command.{Command}
use Rattle.cct_model.specs.lines.command.Command.TheVariants as command
use Rattle.cct_model.specs.lines.command.Step.{Step}
use Rattle.cct_model.specs.lines.command.Step.TheVariants as step
use Rattle.cct_model.specs.lines.command.WireFault.TheVariants.{Clear}
use Rattle.cct_model.specs.lines.entry.End.{End}
use Rattle.cct_model.specs.lines.entry.End.TheVariants.{Started, Unquiet, Clean, Posted, Broke}
use Rattle.cct_model.specs.lines.entry.End.TheVariants.{Moved, Stopped, Told, PathSet, Closed}
use Rattle.cct_model.specs.lines.entry.End.TheVariants.{OddLife, Routed, RouteUnsure, Sold}
use Rattle.cct_model.specs.lines.entry.Entry.{Entry}
use Rattle.cct_model.specs.lines.entry.Entry.TheVariants as entry
use Rattle.cct_model.specs.Exchange.{asked}
use Rattle.cct_model.specs.Hopper.{remaining}
use Rattle.cct_model.specs.Rows.{rows_of}
use Rattle.cct_model.specs.Line.{ended}
use Rattle.cct_model.specs.Transcript.{pending, met, lines_of}
use Rattle.cct_laws.specs.Moving.{MovedAt}

-- So many `next` at an address after a step.
abbrev pub nexts_after : ℕ → Step → ℕ → ℕ
nexts_after addr (step.Next other) nexts = if other == addr then suc nexts else nexts
nexts_after addr s nexts = nexts

-- How many of these steps are a `next` at an address.
abbrev pub nexts_at : ℕ → List Step → ℕ
nexts_at addr [] = 0
nexts_at addr (s ∷ steps) = nexts_after addr s (nexts_at addr steps)

-- So many halts at an address after a step.
abbrev pub halts_after : ℕ → Step → ℕ → ℕ
halts_after addr (step.Command (command.Halt other)) halts =
    if other == addr then suc halts else halts
halts_after addr s halts = halts

-- How many of these steps are a halt at an address.
abbrev pub halts_at : ℕ → List Step → ℕ
halts_at addr [] = 0
halts_at addr (s ∷ steps) = halts_after addr s (halts_at addr steps)

-- A payment and a settlement are the jobs that can be halted.
abbrev pub is_payment : Command → Bool
is_payment (command.Pay addr id count) = true
is_payment (command.Settle addr) = true
is_payment c = false

-- How many rows the job of a command has at most, at a device.
abbrev pub row_count : DeviceSetup → Command → ℕ
row_count d c = length (rows_of d c)

-- How many `next` the job of a command needs at most, where these steps come: one for each of its
-- rows, and for a payment one more for each halt.
abbrev pub nexts_needed : DeviceSetup → Command → List Step → ℕ
nexts_needed d c steps =
    if is_payment c then row_count d c + halts_at d.addr steps else row_count d c

-- The ends of a job that got its answers: a start that started, or whose acceptor wasn't quiet; a
-- round or a stop that came to its end, that broke, or whose reading has to be made again; an order
-- that was closed. An identification and a path were reported, and a sale was made. A bill was
-- routed, or the bill acceptor held none and refused.
abbrev pub IsEndOf : Command → End → Type 0
IsEndOf (command.Start addr mask) Started = ⊤
IsEndOf (command.Start addr mask) (Unquiet counter) = ⊤
IsEndOf (command.Round addr) Clean = ⊤
IsEndOf (command.Round addr) Posted = ⊤
IsEndOf (command.Round addr) Broke = ⊤
IsEndOf (command.Round addr) Moved = ⊤
IsEndOf (command.Stop addr) Broke = ⊤
IsEndOf (command.Stop addr) Moved = ⊤
IsEndOf (command.Stop addr) Stopped = ⊤
IsEndOf (command.Pay addr id count) Closed = ⊤
IsEndOf (command.Pay addr id count) OddLife = ⊤
IsEndOf (command.Settle addr) Closed = ⊤
IsEndOf (command.Settle addr) OddLife = ⊤
IsEndOf (command.Ident addr) Told = ⊤
IsEndOf (command.Path addr place path) (PathSet at number) = ⊤
IsEndOf (command.Route addr way) Routed = ⊤
IsEndOf (command.Route addr way) RouteUnsure = ⊤
IsEndOf (command.Vend id price) Sold = ⊤
IsEndOf c end = ⊥

-- Among these entries such an end of a command's job is at an address.
abbrev pub ShowsEnd : Command → ℕ → List Entry → Type 0
ShowsEnd c addr [] = ⊥
ShowsEnd c addr (entry.Ended other end ∷ news) =
    ((other ≡ addr) × IsEndOf c end) ⊎ ShowsEnd c addr news
ShowsEnd c addr (e ∷ news) = ShowsEnd c addr news

-- A past goes on to another, and such an end is between them.
abbrev pub EndsAs : Command → ℕ → List Entry → List Entry → Type 0
EndsAs c addr past end = (news : List Entry) × (end ≡ news ++ past) × ShowsEnd c addr news

-- A past goes on to another, and between them a round ends that got its answers: nothing came, a
-- reading was put, a break, or the reading has to be made again.
abbrev pub EndsRound : ℕ → List Entry → List Entry → Type 0
EndsRound addr past end = EndsAs (command.Round addr) addr past end

-- Among these entries no job ends at an address.
abbrev pub HasNoEnd : ℕ → List Entry → Type 0
HasNoEnd addr [] = ⊤
HasNoEnd addr (entry.Ended other end ∷ news) = (other ≢ addr) × HasNoEnd addr news
HasNoEnd addr (e ∷ news) = HasNoEnd addr news

-- Of the entries that went onto a past, each that came while the job at an address was running has
-- this fact: each before the first end at that address.
abbrev pub EachWhileRunning : (List Entry → Entry → Type 0) → ℕ → List Entry → List Entry → Type 0
EachWhileRunning P addr past [] = ⊤
EachWhileRunning P addr past (e ∷ news) =
    (HasNoEnd addr news → P (news ++ past) e) × EachWhileRunning P addr past news

-- An entry is no exchange at an address for which a fault was set, and no power cut.
abbrev pub LeavesAlone : ℕ → List Entry → Entry → Type 0
LeavesAlone addr past (entry.Wire other sent piece) = other ≡ addr → pending past ≡ Clear
LeavesAlone addr past (entry.Crash records) = ⊥
LeavesAlone addr past e = ⊤

-- A past goes on to another, and while the job at an address was running, no fault was set for its
-- exchanges, and the power wasn't cut. Faults for later exchanges, and for those of other
-- addresses, may be set.
abbrev pub IsUndisturbed : ℕ → List Entry → List Entry → Type 0
IsUndisturbed addr past end =
    (news : List Entry) → end ≡ news ++ past → EachWhileRunning (LeavesAlone addr) addr past news

-- An entry is no end of a device's job by which a reading has to be made again, or a coin was
-- accepted between the two readings of the accept counter.
abbrev pub IsMovedByCoin : DeviceSetup → List Entry → Entry → Type 0
IsMovedByCoin d past (entry.Ended addr end) = addr ≡ d.addr → MovedAt (lines_of d past) (ended end)
IsMovedByCoin d past e = ⊤

-- A past goes on to another, and if the job at a device ended because its reading has to be made
-- again, a coin was accepted while it was made.
abbrev pub IsOnlyMovedByCoins : DeviceSetup → List Entry → List Entry → Type 0
IsOnlyMovedByCoins d past end =
    (news : List Entry) → end ≡ news ++ past → EachWhileRunning (IsMovedByCoin d) d.addr past news

-- Where an exchange asks a hopper how its payout goes, no coin is left to pay.
abbrev pub FindsNoneLeft : DeviceSetup → List Entry → Entry → Type 0
FindsNoneLeft d past (entry.Wire other sent piece) =
    other ≡ d.addr → asked d.kind sent ≡ Some GetStatus → remaining d.serial (met d past) ≡ 0
FindsNoneLeft d past e = ⊤

-- A past goes on to another, and whenever the job at a hopper asked how its payout goes, no coin
-- was left to pay.
abbrev pub AlwaysFindsNoneLeft : DeviceSetup → List Entry → List Entry → Type 0
AlwaysFindsNoneLeft d past end =
    (news : List Entry) → end ≡ news ++ past → EachWhileRunning (FindsNoneLeft d) d.addr past news
