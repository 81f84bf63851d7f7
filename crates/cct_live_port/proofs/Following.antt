-- How reads follow one another, and a write follows them.
use Rattle.std.proofs.Common.{◌≢◌, ◌≤◌, ◌<◌, ℕ, List, Option, length, take, arith, MatchResult, Result, Ok, Err, IsErr, OnErr}
use Rattle.std.proofs.lemmas.Bool.{false≢true}
use Rattle.std.proofs.lemmas.List.{length-take-le}
use Rattle.cct_edge.specs.declared.fault.Failed.{Failed}
use Rattle.cct_live_port.specs.Calls.{Waits, FailsToSend, sending}

-- an answer that is an error has what its errors have
pub on_error : {T E : Type 0} (r : Result T E) (P : T → Type 0) (Q : Type 0) → IsErr r → Q → MatchResult r P (λ _. Q)
on_error (Ok x) P Q err q = absurd (false≢true err)
on_error (Err why) P Q err q = q

-- a read that gave more than no byte brought some
pub some_bytes : (n : ℕ) (room : List ℕ) → n ≤ length room → n ≢ 0 → 0 < length (take n room)
some_bytes n room fits some = omega (arith, length-take-le n room fits, some)

module _ {L : Type 0} (reads : L → Option (List ℕ) → L → Type 0) (writes : L → List ℕ → Result (Unit {0}) Failed → L → Type 0) where
  -- a write that fails after the wait fails to send
  pub fails_by_write : (already wanted : ℕ) (sent : List ℕ) (first quiet last : L) (r : Result (Unit {0}) Failed)
      → Waits reads writes already wanted first quiet → writes quiet sent r last
      → OnErr r (FailsToSend reads writes already wanted sent first last)
  fails_by_write already wanted sent first quiet last (Ok done) waits wrote = tt
  fails_by_write already wanted sent first quiet last (Err why) waits wrote = sending quiet last why waits wrote
