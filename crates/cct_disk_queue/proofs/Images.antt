-- What one more call adds to the images, and what is left where it failed.
use Rattle.std.proofs.Common.{◌≡◌, inl, inr, ℕ, ◌+◌, ◌<◌, ◌≤◌, List, [], ◌∷◌, length, refl, sym, ◌∙◌, ap, subst, arith, true≢false, Result, Ok, Err, IsOk, OnOk, OnErr}
use Rattle.cct_edge.specs.declared.fault.Failed.{Failed}
use Rattle.cct_disk.specs.Disk.{Follows, IsReady, IsWithin, SameOutside, Spends}
use Rattle.cct_disk.proofs.Ranges.{put_outside}
use Rattle.cct_disk_queue.specs.Calls.{Act, AreWithin, Sync, Write, after, bytes_in}
use Rattle.cct_disk_queue.specs.declared.calls.TheConstants.{MOST_BYTES, MOST_CALLS}
use Rattle.cct_disk_queue.specs.Queue.{Queue, QueueGoesOn, Spent, bytes_of, faulted, image_after, leaves, noted}

module _ (at : ℕ) (bytes : List ℕ) (old new : Queue) (within : at + length bytes ≤ length (bytes_of old)) where
  noted_follows : Follows (SameOutside at (length bytes)) (leaves old) (leaves (noted at bytes old))
  noted_follows image (inl is) = (
    bytes_of old,
    image_after old.base old.calls,
    subst (λ (i : List ℕ). SameOutside at (length bytes) (bytes_of old) i) (sym is) (put_outside at (bytes_of old) bytes within),
  )
  noted_follows image (inr from) = from

  pub write_follows : (result : Result (Unit {0}) Failed) → OnOk result (new ≡ noted at bytes old)
      → OnErr result (new ≡ faulted old) → Follows (SameOutside at (length bytes)) (leaves old) (leaves new)
  write_follows (Ok _) done failed =
      subst (λ (q : Queue). Follows (SameOutside at (length bytes)) (leaves old) (leaves q)) (sym done) noted_follows
  write_follows (Err _) done failed =
      subst (λ (q : Queue). Follows (SameOutside at (length bytes)) (leaves old) (leaves q)) (sym failed)
      (λ image is. (image, is, record { before = refl; after = refl; size = refl }))

  pub write_goes_on : (result : Result (Unit {0}) Failed) → OnOk result (new ≡ noted at bytes old)
      → OnErr result (new ≡ faulted old) → QueueGoesOn old new
  write_goes_on (Ok _) done failed =
      subst (λ (q : Queue). QueueGoesOn old q) (sym done) (record {
        same_size = (put_outside at (bytes_of old) bytes within).size;
        same_honest = refl;
        same_telling = refl;
        same_cuts = refl;
      })
  write_goes_on (Err _) done failed =
      subst (λ (q : Queue). QueueGoesOn old q) (sym failed) (record {
        same_size = refl;
        same_honest = refl;
        same_telling = refl;
        same_cuts = refl;
      })

module _ (old new : Queue) where
  pub sync_within : (result : Result (Unit {0}) Failed) → OnOk result (new ≡ record old { calls = Sync ∷ old.calls })
      → OnErr result (new ≡ faulted old) → IsWithin (leaves old) (leaves new)
  sync_within (Ok _) done failed =
      subst (λ (q : Queue). IsWithin (leaves old) (leaves q)) (sym done)
      (λ image is. subst (λ (i : List ℕ). leaves old i) (sym is) (image_after old.base old.calls))
  sync_within (Err _) done failed =
      subst (λ (q : Queue). IsWithin (leaves old) (leaves q)) (sym failed) (λ image is. is)

-- calls that are within leave as many bytes
pub after_sized : (base : List ℕ) (calls : List Act) → AreWithin (length base) calls → length (after base calls) ≡ length base
after_sized base [] is = refl
after_sized base (Write at bytes ∷ before) is =
    let same : length (after base before) ≡ length base = after_sized base before is.1 in
    (put_outside at (after base before) bytes (omega (arith, is.0, same))).size ∙ same
after_sized base (Sync ∷ before) is = after_sized base before is

-- all calls were made
module _ (old new : Queue) (settled : new ≡ record old { base = bytes_of old; calls = [] }) where
  pub settle_within : IsWithin (leaves old) (leaves new)
  settle_within =
      subst (λ (q : Queue). IsWithin (leaves old) (leaves q)) (sym settled)
      (λ image is. subst (λ (i : List ℕ). leaves old i) (sym is) (image_after old.base old.calls))

  pub same_bytes : bytes_of new ≡ bytes_of old
  same_bytes = ap bytes_of settled

-- a call that is noted is one more of those that never fail, and a read where none is noted stays so
module _ (old new : Queue) where
  pub write_spends : (at : ℕ) (bytes : List ℕ) (result : Result (Unit {0}) Failed)
      → OnOk result (new ≡ noted at bytes old)
      → (length old.calls < MOST_CALLS → bytes_in old.calls + length bytes ≤ MOST_BYTES → IsOk result)
      → Spends Spent (length bytes) old new
  write_spends at bytes (Ok _) done sure calls many spent few short =
      subst (λ (q : Queue). Spent q (calls + 1) (many + length bytes)) (sym done)
      (record { unfailed = spent.unfailed; few = omega (arith, spent.few); short = omega (arith, spent.short) })
  write_spends at bytes (Err _) done sure calls many spent few short =
      absurd (true≢false (sym (sure (omega (arith, spent.few, few)) (omega (arith, spent.short, short)))))

  pub sync_spends : (result : Result (Unit {0}) Failed) → OnOk result (new ≡ record old { calls = Sync ∷ old.calls })
      → (length old.calls < MOST_CALLS → IsOk result) → Spends Spent 0 old new
  sync_spends (Ok _) done sure calls many spent few short =
      subst (λ (q : Queue). Spent q (calls + 1) (many + 0)) (sym done)
      (record { unfailed = spent.unfailed; few = omega (arith, spent.few); short = omega (arith, spent.short) })
  sync_spends (Err _) done sure calls many spent few short =
      absurd (true≢false (sym (sure (omega (arith, spent.few, few)))))

  pub read_stays : (result : Result (Unit {0}) Failed) → OnOk result (new ≡ old) → (length old.calls ≡ 0 → IsOk result)
      → IsReady Spent old → IsReady Spent new
  read_stays (Ok _) same sure ready = subst (λ (q : Queue). Spent q 0 0) (sym same) ready
  read_stays (Err _) same sure ready = absurd (true≢false (sym (sure (omega (arith, ready.few)))))
