-- What a call answers to the bytes that a device answers, or not.
use Rattle.std.proofs.Common.{◌≡◌, Bool, true, false, if◌then◌else◌, List, [], ℕ, Option, Some, None, refl}
use Rattle.std.specs.Prelude.{MatchOption, unwrap_or}
use Rattle.cct_c.specs.declared.codes.TheConstants.{OK, SILENCE}
use Rattle.cct_c.specs.Held.{answer_code}

-- the code of an answer, or of none
pub code_is : (r : Option (List ℕ)) (answers : Bool) (said : List ℕ)
    → MatchOption r ((answers ≡ false) × (said ≡ [])) (λ bytes. (answers ≡ true) × (said ≡ bytes))
    → (if answers then OK else SILENCE) ≡ answer_code r
code_is None answers said h = rw h.0 refl
code_is (Some bytes) answers said h = rw h.0 refl

-- its bytes, or none
pub said_is : (r : Option (List ℕ)) (answers : Bool) (said : List ℕ)
    → MatchOption r ((answers ≡ false) × (said ≡ [])) (λ bytes. (answers ≡ true) × (said ≡ bytes)) → said ≡ unwrap_or r []
said_is None answers said h = h.1
said_is (Some bytes) answers said h = h.1
