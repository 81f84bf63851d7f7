-- A message is sent once more.
use Rattle.std.proofs.Common.{◌≡◌, ◌+◌, false, None, Some, refl, ℕ, List, Option, is_some, subst}
use Rattle.std.proofs.lemmas.Bool.{true≢false}
use Rattle.cct_live_survey.specs.Asking.{Tries, tried}

-- what isn't there is none
pub none_there : {A : Type 0} (found : Option A) → is_some found ≡ false → found ≡ None
none_there None there = refl
none_there (Some x) there = absurd (true≢false there)

module _ {L : Type 0} {gives : L → List ℕ → List ℕ → L → Type 0} where
  -- the bytes that are sent are the message
  pub tried_once : {A : Type 0} (piece sent : List ℕ) (answer : List ℕ → Option A) (first line next : L) (made : ℕ) (heard : List ℕ)
      → sent ≡ piece → Tries gives piece answer first made None line → gives line sent heard next
      → Tries gives piece answer first (made + 1) (answer heard) next
  tried_once piece sent answer first line next made heard same before went =
      tried made heard line next before (subst (λ bytes. gives line bytes heard next) same went)
