-- The lines of a state, beside those of sums and money, which are entries of a transcript.
use Rattle.std.specs.Prelude.{◌==◌, ◌&&◌, Bool, ℕ, List, [], ◌∷◌, ◌++◌, codes, if◌then◌else◌}
use Rattle.std.specs.Prelude.{Option, Some, None}
use Rattle.cct_model.specs.Text.{mask_field, number_text}
use Rattle.cct_model.specs.declared.judging.EpochState.{EpochState}
use Rattle.cct_model.specs.declared.judging.EpochState.TheVariants.{Idle, Running}
use Rattle.cct_model.specs.declared.judging.OpenOrder.{OpenOrder}
use Rattle.cct_bench_state.specs.declared.account.Account.{Account}

-- `epoch A MASK COUNTER ACCEPTS`: an epoch that runs.
unfoldable pub epoch_line : ℕ → ℕ → ℕ → ℕ → List ℕ
epoch_line addr mask counter accepts =
    codes "epoch" ++ 32 ∷ number_text addr ++ 32 ∷ mask_field mask ++ 32 ∷ number_text counter
    ++ 32 ∷ number_text accepts ++ 10 ∷ []

-- `order ORDER open A COUNT LIFE`: an order that is open.
unfoldable pub open_line : OpenOrder → List ℕ
open_line o =
    codes "order" ++ 32 ∷ number_text o.id ++ codes " open" ++ 32 ∷ number_text o.addr ++ 32 ∷ number_text o.count
    ++ 32 ∷ number_text o.life ++ 10 ∷ []

-- `since A POSTED LOST PAID`: what the records since the last turn did at an address.
unfoldable pub since_line : Account → List ℕ
since_line a =
    codes "since" ++ 32 ∷ number_text a.addr ++ 32 ∷ number_text a.posted ++ 32 ∷ number_text a.lost
    ++ 32 ∷ number_text a.paid ++ 10 ∷ []

-- `last ORDER`: the greatest id that was used, 0 where none was.
unfoldable pub last_line : ℕ → List ℕ
last_line id = codes "last" ++ 32 ∷ number_text id ++ 10 ∷ []

-- The line of an epoch, where one runs.
abbrev pub epoch_lines : ℕ → EpochState → List (List ℕ)
epoch_lines addr Idle = []
epoch_lines addr (Running mask counter accepts) = epoch_line addr mask counter accepts ∷ []

-- The line of an order, where one is open.
abbrev pub open_lines : Option OpenOrder → List (List ℕ)
open_lines None = []
open_lines (Some o) = open_line o ∷ []

-- Nothing came to an address since the last turn.
abbrev pub is_still : Account → Bool
is_still a = (a.posted == 0) && (a.lost == 0) && (a.paid == 0)

-- The line of what came to an address, where anything did.
abbrev pub since_lines : Account → List (List ℕ)
since_lines a = if is_still a then [] else since_line a ∷ []

-- The lines of an address.
abbrev pub account_lines : Account → List (List ℕ)
account_lines a = epoch_lines a.addr a.epoch ++ open_lines a.order ++ since_lines a
