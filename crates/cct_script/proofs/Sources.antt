-- What a source shows goes on from call to call.
use Rattle.std.proofs.Common.{◌≡◌, ◌≤◌, ℕ, List, ◌++◌, Option, Some, None, sym, ◌∙◌, arith}
use Rattle.std.specs.Io.KnownBytes.{Consumes}
use Rattle.std.proofs.Math.Nat.{le_trans}
use Rattle.cct_edge.specs.Bytes.{Serves}
use Rattle.cct_edge.proofs.Chains.{Rose-earlier}
use Rattle.cct_script.specs.Source.{AreTold, to_come}

-- the bytes taken and those still to come are those that a source showed
pub told_by : (left0 left : Option (List ℕ)) (taken : List ℕ) → Consumes left0 left taken
    → AreTold left0 (taken ++ to_come left)
told_by None left taken h = tt
told_by (Some bytes) None taken h = absurd h
told_by (Some bytes) (Some rest) taken h = sym h

-- a source or a sink that served goes on to
pub serves_on : {T : Type 0} {told : T → Option (List ℕ)} {faults : T → ℕ} {a b c : T} {Fails : Type 0}
    → Serves told faults a b ⊥ → Serves told faults b c Fails → Serves told faults a c ⊥
serves_on first second = record {
  tells = second.tells ∙ first.tells;
  later = le_trans first.later second.later;
  rose = λ never. absurd never;
}

-- and fails as it then does
pub serves_then : {T : Type 0} {told : T → Option (List ℕ)} {faults : T → ℕ} {a b c : T} {Fails : Type 0}
    → Serves told faults a b ⊥ → Serves told faults b c Fails → Serves told faults a c Fails
serves_then first second = record {
  tells = second.tells ∙ first.tells;
  later = le_trans first.later second.later;
  rose = λ fails. Rose-earlier _ _ _ first.later (second.rose fails);
}
