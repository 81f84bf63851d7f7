-- A write of a disk in memory does what a write of a disk does, also where it fails.
use Rattle.std.proofs.Common.{◌≡◌, ◌⊎◌, inl, inr, ⊎_elim, true, ℕ, ◌+◌, ◌<◌, ◌≤◌, Option, Some, Result, Ok, Err, IsErr, OnOk, OnErr}
use Rattle.std.proofs.Common.{List, drop, length, refl, sym, ◌∙◌, ap, subst, arith}
use Rattle.std.proofs.lemmas.Bool.{cases_lt}
use Rattle.std.proofs.lemmas.List.{length-append, length-take}
use Rattle.cct_edge.specs.Memory.{FailsNext}
use Rattle.cct_edge.specs.declared.fault.Failed.{Failed}
use Rattle.cct_disk.specs.Disk.{IsReady, SameOutside, Spends, put_at, sure_bytes, sure_calls}
use Rattle.cct_disk.specs.Content.{Content, window, written}
use Rattle.cct_disk.specs.Laws.{told}
use Rattle.cct_disk.specs.Memory.{LacksRoom, MemoryDisk, Spent, after_change, after_fault, after_read, after_torn}
use Rattle.cct_disk.specs.declared.traced.TheConstants.{MOST_CHANGES, MOST_REPLACED}
use Rattle.cct_disk.proofs.Tears.{tear_outside}

module _ (at : ℕ) (bytes : List ℕ) (old new : MemoryDisk) where
  pub writes : (result : Result (Unit {0}) Failed)
      → OnOk result (new ≡ after_change (written at bytes old.content) old)
      → OnOk result (true ≡ true → (s : List ℕ) → Some old.content.bytes ≡ Some s
      → Some new.content.bytes ≡ Some (put_at s at bytes))
  writes (Ok _) after = λ _ s is.
      ap (λ (d : MemoryDisk). Some d.content.bytes) after
      ∙ ap (λ (o : Option (List ℕ)). Some (put_at (told o) at bytes)) is
  writes (Err _) after = tt

  -- what a read gives after it is what it gave, but for the range
  abbrev pub Tears : Type 0
  Tears = true ≡ true → (s : List ℕ) → Some old.content.bytes ≡ Some s
      → (c : List ℕ) × (Some new.content.bytes ≡ Some c) × SameOutside at (length bytes) s c

  untouched : new ≡ after_fault old → Tears
  untouched after = λ _ s is.
      (s, ap (λ (d : MemoryDisk). Some d.content.bytes) after ∙ is, record { before = refl; after = refl; size = refl })

  pub fails_whole : (result : Result (Unit {0}) Failed) → OnErr result (new ≡ after_fault old) → OnErr result Tears
  fails_whole (Ok _) after = tt
  fails_whole (Err _) after = untouched after

  module _ (choice : ℕ) (within : at + length bytes ≤ length old.content.bytes) where
    torn : new ≡ after_torn choice at bytes old → Tears
    torn after = λ _ s is. (
      new.content.bytes,
      refl,
      subst (λ (o : Option (List ℕ)). SameOutside at (length bytes) (told o) new.content.bytes) is
          (subst (λ (d : MemoryDisk). SameOutside at (length bytes) old.content.bytes d.content.bytes) (sym after)
          (tear_outside choice at bytes old.content within)),
    )

    lacks_or_not : LacksRoom old (length bytes) ⊎ (LacksRoom old (length bytes) → ⊥)
    lacks_or_not = ⊎_elim
        (λ few. ⊎_elim (λ much. inl (inr much))
        (λ little. inr (⊎_elim (λ many. omega (arith, few, many)) (λ much. omega (arith, little, much))))
        (cases_lt MOST_REPLACED (length old.content.replaced + length bytes)))
        (λ many. inl (inl many))
        (cases_lt old.changes MOST_CHANGES)

    pub fails_torn : (result : Result (Unit {0}) Failed)
        → OnErr result ((LacksRoom old (length bytes) → ⊥) → new ≡ after_torn choice at bytes old)
        → OnErr result (LacksRoom old (length bytes) → new ≡ after_fault old) → OnErr result Tears
    fails_torn (Ok _) by_name by_room = tt
    fails_torn (Err _) by_name by_room =
        ⊎_elim (λ lacks. untouched (by_room lacks)) (λ has. torn (by_name has)) lacks_or_not

-- a call that never fails: none is set to fail, and there is room
sure : (old : MemoryDisk) (many calls bytes : ℕ) → Spent old calls bytes → calls < sure_calls → bytes + many ≤ sure_bytes
    → FailsNext old.fails old.calls ⊎ LacksRoom old many → ⊥
sure old many calls bytes spent few short (inl told) =
    let none = subst (λ (fails : List ℕ). FailsNext fails old.calls) spent.told_none told in omega (arith, none.1)
sure old many calls bytes spent few short (inr (inl full)) = omega (arith, spent.few, few, full)
sure old many calls bytes spent few short (inr (inr full)) = omega (arith, spent.short, short, full)

-- a change is one more of those that never fail
pub spends : (content : Content) (many : ℕ) (old new : MemoryDisk) (result : Result (Unit {0}) Failed)
    → (IsErr result → FailsNext old.fails old.calls ⊎ LacksRoom old many)
    → OnOk result (new ≡ after_change content old) → length content.replaced ≤ length old.content.replaced + many
    → Spends Spent many old new
spends content many old new (Ok _) fails after more calls bytes spent few short =
    subst (λ (d : MemoryDisk). Spent d (calls + 1) (bytes + many)) (sym after) (record {
      told_none = spent.told_none;
      unfailed = spent.unfailed;
      few = omega (arith, spent.few);
      short = omega (arith, spent.short, more);
    })
spends content many old new (Err _) fails after more calls bytes spent few short =
    absurd (sure old many calls bytes spent few short (fails refl))

-- how many bytes a write replaces
pub replaces : (at : ℕ) (bytes : List ℕ) (old : Content)
    → length (written at bytes old).replaced ≤ length old.replaced + length bytes
replaces at bytes old =
    omega (arith, length-append old.replaced (window at (length bytes) old.bytes), length-take (length bytes) (drop at old.bytes))

-- a read of a disk that is ready leaves it so
pub reads_on : (old new : MemoryDisk) (result : Result (Unit {0}) Failed) → (IsErr result → FailsNext old.fails old.calls)
    → OnOk result (new ≡ after_read old) → IsReady Spent old → IsReady Spent new
reads_on old new (Ok _) fails after ready =
    subst (λ (d : MemoryDisk). Spent d 0 0) (sym after) (record {
      told_none = ready.told_none;
      unfailed = ready.unfailed;
      few = ready.few;
      short = ready.short;
    })
reads_on old new (Err _) fails after ready = absurd (sure old 0 0 0 ready (omega arith) (omega arith) (inl (fails refl)))
