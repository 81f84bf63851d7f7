-- The records of a journal that were read, one by one.
use Rattle.std.specs.Prelude.{◌≡◌, ◌≤◌, ℕ, ◌+◌, ◌-◌, ◌^◌, All, List, [], ◌∷◌, ◌++◌, length, reverse}
use Rattle.std.specs.Prelude.{Option, Some, IfSome, Result, Ok, Err, slice_get, ⊤}
use Rattle.cct_journal_carry.specs.Tally.{many_of}
use Rattle.cct_edge.specs.declared.fault.Failed.{Failed}
use Rattle.cct_journal.specs.declared.refusal.OpenNo.{OpenNo}
use Rattle.cct_journal.specs.declared.refusal.OpenNo.TheVariants as opening
use Rattle.cct_model.specs.lines.carry.Carry.{Carry}
use Rattle.cct_model.specs.lines.record.Record.{Record}
use Rattle.cct_model.specs.terms.device.Setup.{Setup}
use Rattle.cct_bench_report.specs.Sums.{AreWithin}
use Rattle.cct_bench_state.specs.Account.{IsWithin}
use Rattle.cct_bench_state.specs.Books.{Keeps, SuitsSetup, state_lines}
use Rattle.cct_bench_state.specs.Telling.{IsMisfit}
use Rattle.cct_bench_state.specs.declared.books.Books.{Books}
use Rattle.cct_bench_state.specs.declared.telling.StateEnd.{StateEnd}
use Rattle.cct_bench_state.specs.declared.telling.StateEnd.TheVariants.{Done, Unwritten, Unread}

-- No sum of the books is above 2 ^ 32 times so many records, they have all addresses, and a tally
-- went over no more records.
pub record AreReady (many : ℕ) (books : Books) : Type 0 where
  pub each : All (IsWithin many) books.accounts.items
  pub sums : AreWithin many books.sums
  pub all : length books.accounts.items ≡ 256
  pub counted : IfSome books.tally (λ tally. many_of tally ≤ many)

-- Some records, newest first, are the first of each list that is held.
abbrev pub AreFirst : (List Record → Type 0) → List Record → Type 0
AreFirst holds before = (records : List Record) → holds records → (later : List Record)
    × (records ≡ reverse before ++ later)

-- They are all of it.
abbrev pub AreAll : (List Record → Type 0) → List Record → Type 0
AreAll holds before = (records : List Record) → holds records → records ≡ reverse before

-- Books go on by one record more, if by any setup it follows.
abbrev pub GoesOn : Record → Books → Books → Type 0
GoesOn r old new =
    (setup : Option Setup) (c : Carry) (before : List Record) → Keeps setup c before old →
    Keeps setup c (r ∷ before) new

-- A record doesn't follow those that the books were kept over.
abbrev pub FollowsNot : Record → Books → Type 0
FollowsNot r old =
    (setup : Option Setup) (c : Carry) (before : List Record) → Keeps setup c before old
    → SuitsSetup setup c (r ∷ before) → ⊥

-- What came of reading the record of an index, where the first has the index of the base, and of
-- keeping the books on.
abbrev pub ReadsOne : (List Record → Type 0) → ℕ → ℕ → Books → Books → Result (Unit {0}) OpenNo →
    Type 0
ReadsOne holds base index old new (Ok done) =
    (r : Record) × ((records : List Record) → holds records → slice_get records (index - base)
    ≡ Some r) × GoesOn r old new
ReadsOne holds base index old new (Err opening.Disk) = ⊤
ReadsOne holds base index old new (Err opening.Alien) = ⊥
ReadsOne holds base index old new (Err (opening.BadRecord told)) =
    (records : List Record) → holds records
    → (told ≡ index) × ((r : Record) × (slice_get records (index - base) ≡ Some r)
    × FollowsNot r old)

-- Why the records of a journal aren't all read, or don't suit the setup.
abbrev pub RefusesRead : (List Record → Type 0) → Option Setup → ℕ → Carry → OpenNo → Type 0
RefusesRead holds setup base c opening.Disk = ⊤
RefusesRead holds setup base c opening.Alien = ⊥
RefusesRead holds setup base c (opening.BadRecord index) =
    (records : List Record) → holds records → IsMisfit setup base c records index

-- What was written of the state of a journal with the records that are held, by how it ended.
abbrev pub TellsRead : (List Record → Type 0) → Option Setup → ℕ → Carry → StateEnd
    → (List (List ℕ) → Result (Unit {0}) Failed → Type 0) → Type 0
TellsRead holds setup base c Done writes =
    (before : List Record) × AreAll holds before × SuitsSetup setup c before
    × writes (state_lines setup c before) (Ok tt)
TellsRead holds setup base c Unwritten writes =
    (before : List Record) × AreAll holds before × SuitsSetup setup c before
    × (failed : Failed) × writes (state_lines setup c before) (Err failed)
TellsRead holds setup base c (Unread why) writes =
    RefusesRead holds setup base c why × writes [] (Ok tt)

-- Books were kept over all records of a journal after those of its carry.
pub record IsGathered (holds : List Record → Type 0) (setup : Option Setup) (c : Carry)
    (books : Books) : Type 0 where
  pub before : List Record
  pub all : AreAll holds before
  pub keeps : Keeps setup c before books
