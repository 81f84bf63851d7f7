-- What the calls of a disk do to its bytes, and what a power cut may make of them.
use Rattle.std.specs.Prelude.{◌≡◌, ◌⊎◌, ℕ, ◌+◌, ◌<◌, ◌≤◌, Bool, true, Option, Some, is_some, List}
use Rattle.std.specs.Prelude.{◌++◌}
use Rattle.std.specs.Prelude.{length, take, drop}
use Rattle.std.specs.Prelude.{Result, MatchResult}
use Rattle.cct_edge.specs.Faults.{next_count}

-- `old` with `bytes` in place of those from `at` on
abbrev pub put_at : List ℕ → ℕ → List ℕ → List ℕ
put_at old at bytes = take at old ++ bytes ++ drop (at + length bytes) old

-- `new` is as long as `old`, and differs from it at most in the `n` bytes from `at` on
pub record SameOutside (at n : ℕ) (old new : List ℕ) : Type 0 where
  pub before : take at new ≡ take at old
  pub after : drop (at + n) new ≡ drop (at + n) old
  pub size : length new ≡ length old

-- each image of the new ones is one of the old ones after a step
abbrev pub Follows : (List ℕ → List ℕ → Type 0) → (List ℕ → Type 0) → (List ℕ → Type 0) → Type 0
Follows step old new = (c : List ℕ) → new c → (d : List ℕ) × old d × step d c

-- no image is new
abbrev pub IsWithin : (List ℕ → Type 0) → (List ℕ → Type 0) → Type 0
IsWithin old new = (c : List ℕ) → new c → old c

-- there is no image but this
abbrev pub Only : List ℕ → (List ℕ → Type 0) → Type 0
Only bytes images = (c : List ℕ) → images c → c ≡ bytes

-- The clock goes on: a cut since t might have left what it might have left before, or what it may
-- leave now.
pub record ClockGoesOn (before now : ℕ) (past since : ℕ → List ℕ → Type 0)
    (may_leave : List ℕ → Type 0)
    : Type 0 where
  pub later : before ≤ now
  pub nothing_else : (t : ℕ) (c : List ℕ) → t ≤ before → since t c → past t c ⊎ may_leave c
  pub keeps : (t : ℕ) (c : List ℕ) → t ≤ before → past t c → since t c

-- the same from one disk to another
abbrev pub Elapses : {D : Type 0} → (D → ℕ) → (D → ℕ → List ℕ → Type 0) → (D → List ℕ → Type 0) →
    D → D → Type 0
Elapses moment left_since may_leave old new =
    ClockGoesOn (moment old) (moment new) (left_since old) (left_since new) (may_leave new)

-- A disk goes on to show or not to show its bytes, and to be honest or not, and has the same size;
-- no power was cut.
pub record GoesOn {D : Type 0} (size : D → ℕ) (honest : D → Bool) (seen : D → Option (List ℕ))
    (cuts : D → ℕ)
    (old new : D) : Type 0 where
  pub same_size : size new ≡ size old
  pub same_honest : honest new ≡ honest old
  pub same_telling : is_some (seen new) ≡ is_some (seen old)
  pub same_cuts : cuts new ≡ cuts old

-- A disk goes on to show or not to show its bytes, and to be honest or not, and has the same size;
-- its power may have been cut.
pub record Outlasts {D : Type 0} (size : D → ℕ) (honest : D → Bool) (seen : D → Option (List ℕ))
    (cuts : D → ℕ)
    (old new : D) : Type 0 where
  pub same_size : size new ≡ size old
  pub same_honest : honest new ≡ honest old
  pub same_telling : is_some (seen new) ≡ is_some (seen old)
  pub later_cuts : cuts old ≤ cuts new

-- The power was cut by this choice: a read gives one of the images that this might leave, and there
-- is no other left.
pub record IsCutBy {D : Type 0} (honest : D → Bool) (seen : D → Option (List ℕ))
    (may_leave : D → List ℕ → Type 0)
    (cut_to : D → ℕ → D → Type 0) (choice : ℕ) (old new : D) : Type 0 where
  -- So a caller can say that it came from exactly one such call.
  pub one : cut_to old choice new
  pub left : honest old ≡ true → (s : List ℕ) → seen new ≡ Some s → may_leave old s
  pub kept : honest old ≡ true → (s : List ℕ) → seen new ≡ Some s → Only s (may_leave new)

-- a power cut counts one more cut, and one that failed none
abbrev pub CountsCut : {T E : Type 0} → ℕ → ℕ → Result T E → Type 0
CountsCut before now result = MatchResult result (λ _. now ≡ next_count before) (λ _. now ≡ before)

-- how many writes and syncs never fail on a disk that was ready, and how many bytes of them
abbrev pub sure_calls : ℕ
sure_calls = 12

abbrev pub sure_bytes : ℕ
sure_bytes = 1280

-- the next calls of a disk never fail: any reads, and then so many writes and syncs
abbrev pub IsReady : {D : Type 0} → (D → ℕ → ℕ → Type 0) → D → Type 0
IsReady spent disk = spent disk 0 0

-- a write of so many bytes, or a sync, which writes none, is one more of those that never fail
abbrev pub Spends : {D : Type 0} → (D → ℕ → ℕ → Type 0) → ℕ → D → D → Type 0
Spends spent many old new =
    (calls bytes : ℕ) → spent old calls bytes → calls < sure_calls → bytes + many ≤ sure_bytes
    → spent new (calls + 1) (bytes + many)

-- So many more writes and syncs of a disk never fail, of so many bytes in all.
pub record Spares {D : Type 0} (spent : D → ℕ → ℕ → Type 0) (calls bytes : ℕ) (disk : D) : Type 0
  where
    pub taken : ℕ
    pub written : ℕ
    pub is_spent : spent disk taken written
    pub few : taken + calls ≤ sure_calls
    pub short : written + bytes ≤ sure_bytes

-- From `old` to `new` at most so many writes and syncs were made, of at most so many bytes in all:
-- what lies below the noted calls is what it was, and of those that never fail no more are gone.
pub record Takes {D : Type 0} (below : D → List ℕ) (spent : D → ℕ → ℕ → Type 0) (calls bytes : ℕ)
    (old new : D)
    : Type 0 where
  pub same_below : below new ≡ below old
  pub spares : (more many : ℕ) → Spares spent (calls + more) (bytes + many) old
      → Spares spent more many new

-- a cut at any moment from `old` to `new` might have left only what has P; and one since an earlier
-- moment only that, or what it might have left before
pub record LeavesOnly {D : Type 0} (moment : D → ℕ) (left_since : D → ℕ → List ℕ → Type 0)
    (old new : D)
    (P : List ℕ → Type 0) : Type 0 where
  pub later : moment old ≤ moment new
  pub each : (c : List ℕ) → left_since new (moment old) c → P c
  -- for a run that began earlier
  pub before : (t : ℕ) (c : List ℕ) → t ≤ moment old → left_since new t c → left_since old t c ⊎ P c

-- the disk is honest, a read gives the bytes of `image`, and a cut leaves nothing else
pub record Holds {D : Type 0} (honest : D → Bool) (seen : D → Option (List ℕ))
    (may_leave : D → List ℕ → Type 0)
    (disk : D) (image : List ℕ) : Type 0 where
  pub keeps_synced : honest disk ≡ true
  pub tells : seen disk ≡ Some image
  pub only : Only image (may_leave disk)

-- The disk is honest, and says what a read gives.
abbrev pub IsTrusted : {D : Type 0} → (D → Bool) → (D → Option (List ℕ)) → D → Type 0
IsTrusted honest seen disk = (honest disk ≡ true) × (is_some (seen disk) ≡ true)

-- From `old` to `new` the disk was only read: a read gives the same, and no cut might have left
-- anything new.
pub record OnlyReads {D : Type 0} (size : D → ℕ) (honest : D → Bool) (seen : D → Option (List ℕ))
    (may_leave : D → List ℕ → Type 0) (moment : D → ℕ) (left_since : D → ℕ → List ℕ → Type 0)
    (cuts : D → ℕ)
    (old new : D) : Type 0 where
  pub same_size : size new ≡ size old
  pub same_honest : honest new ≡ honest old
  pub same_seen : seen new ≡ seen old
  pub same_cuts : cuts new ≡ cuts old
  pub images : honest old ≡ true → IsWithin (may_leave old) (may_leave new)
  pub moments : honest old ≡ true → LeavesOnly moment left_since old new (may_leave old)
