-- The epoch at each address after one record more. And of records that follow, the first ones do so too.
use Rattle.std.proofs.Common.{◌≡◌, ◌≢◌, ℕ, true, List, [], ◌∷◌, ◌++◌, refl}
use Rattle.std.proofs.lemmas.Bool.{and_parts}
use Rattle.cct_model.specs.terms.device.Setup.{Setup}
use Rattle.cct_model.specs.lines.record.Record.{Record}
use Rattle.cct_model.specs.Following.{follows, all_follow}
use Rattle.cct_model.specs.Job.{epoch_by}
use Rattle.cct_model.specs.Records.{owner_in, epoch_of, epoch_in}
use Rattle.cct_model.proofs.OpenOrders.{told_own, told_else}

-- the epoch at the address of the record
pub epoch_own : (addr : ℕ) (r : Record) (before : List Record) → owner_in before r ≡ addr →
    epoch_in addr (r ∷ before) ≡ epoch_by r (epoch_in addr before)
epoch_own = told_own epoch_of epoch_by (λ r rs. refl)

-- at another address
pub epoch_else : (addr : ℕ) (r : Record) (before : List Record) → owner_in before r ≢ addr →
    epoch_in addr (r ∷ before) ≡ epoch_in addr before
epoch_else = told_else epoch_of epoch_by (λ r rs. refl)

-- of records that follow one another, the first ones do, and each follows those before it
pub follow_front : (setup : Setup) (later before : List Record) → all_follow setup (later ++ before) ≡ true →
    all_follow setup before ≡ true
follow_front setup [] before follow = follow
follow_front setup (r ∷ later) before follow = follow_front setup later before (and_parts _ _ follow).1

pub follow_at : (setup : Setup) (later : List Record) (r : Record) (before : List Record) →
    all_follow setup (later ++ r ∷ before) ≡ true → follows setup before r ≡ true
follow_at setup later r before follow = (and_parts _ _ (follow_front setup later (r ∷ before) follow)).0
