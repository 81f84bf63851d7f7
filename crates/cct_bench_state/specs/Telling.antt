-- What the state of a journal is, and what of it was written.
use Rattle.std.specs.Prelude.{◌≡◌, ◌⊎◌, ℕ, ◌+◌, List, [], ◌∷◌, ◌++◌, length, reverse, Option}
use Rattle.std.specs.Prelude.{Result, Ok, Err}
use Rattle.cct_edge.specs.declared.fault.Failed.{Failed}
use Rattle.cct_journal.specs.Image.{HasFrom, IsAlien, IsBadAt}
use Rattle.cct_journal.specs.declared.refusal.OpenNo.TheVariants as opening
use Rattle.cct_model.specs.lines.carry.Carry.{Carry}
use Rattle.cct_model.specs.lines.record.Record.{Record}
use Rattle.cct_model.specs.terms.device.Setup.{Setup}
use Rattle.cct_bench_state.specs.Books.{SuitsSetup, state_lines}
use Rattle.cct_bench_state.specs.declared.telling.StateEnd.{StateEnd}
use Rattle.cct_bench_state.specs.declared.telling.StateEnd.TheVariants.{Done, Unwritten, Unread}

-- The record of this index is the first of some that doesn't follow, by a setup, those before it
-- and those of a carry, of which there are so many; or the carry doesn't fit the setup, and it is
-- the first of all.
abbrev pub IsMisfit : Option Setup → ℕ → Carry → List Record → ℕ → Type 0
IsMisfit setup base c records index =
    ((SuitsSetup setup c [] → ⊥) × (index ≡ base))
    ⊎ ((before : List Record) × (r : Record) × (later : List Record)
    × (records ≡ reverse before ++ r ∷ later)
    × (index ≡ base + length before) × SuitsSetup setup c before
    × (SuitsSetup setup c (r ∷ before) → ⊥))

-- What is known of a disk: which records it has after those of which carry, and how many those are;
-- whether it has no journal; and whether the record of an index can't be read.
pub record Known : Type 1 where
  pub has : ℕ → Carry → List Record → Type 0
  pub alien : Type 0
  pub bad : ℕ → Type 0

-- The record of this index can't be read, or doesn't follow.
abbrev pub IsBad : Known → Option Setup → ℕ → Type 0
IsBad disk setup index =
    disk.bad index
    ⊎ ((base : ℕ) × (c : Carry) × (records : List Record) × disk.has base c records
    × IsMisfit setup base c records index)

-- What was written of the state of such a disk, by a setup where one is given, by how it ended: the
-- whole; up to a put that failed; or nothing, where the disk failed, has no journal, or has a
-- record that can't be read or doesn't follow.
abbrev pub Tells : Known → Option Setup → StateEnd →
    (List (List ℕ) → Result (Unit {0}) Failed → Type 0) → Type 0
Tells disk setup Done writes =
    (base : ℕ) × (c : Carry) × (records : List Record) × disk.has base c records
    × SuitsSetup setup c (reverse records)
    × writes (state_lines setup c (reverse records)) (Ok tt)
Tells disk setup Unwritten writes =
    (base : ℕ) × (c : Carry) × (records : List Record) × disk.has base c records
    × SuitsSetup setup c (reverse records)
    × (failed : Failed) × writes (state_lines setup c (reverse records)) (Err failed)
Tells disk setup (Unread opening.Disk) writes = writes [] (Ok tt)
Tells disk setup (Unread opening.Alien) writes = disk.alien × writes [] (Ok tt)
Tells disk setup (Unread (opening.BadRecord index)) writes =
    IsBad disk setup index × writes [] (Ok tt)

-- A report ended as the image decides, by a setup where one is given: the whole state is reported
-- where the records suit the setup, and else which one doesn't, or can't be read.
pub record Decides (setup : Option Setup) (how : StateEnd) (image : List ℕ) : Type 0 where
  pub done : (base : ℕ) (c : Carry) (records : List Record) → HasFrom image base c records
      → SuitsSetup setup c (reverse records) → how ≡ Done
  pub misfit : (base : ℕ) (c : Carry) (records : List Record) (index : ℕ)
      → HasFrom image base c records → IsMisfit setup base c records index
      → how ≡ Unread (opening.BadRecord index)
  pub alien : IsAlien image → how ≡ Unread opening.Alien
  pub bad : (index : ℕ) → IsBadAt image index → how ≡ Unread (opening.BadRecord index)
