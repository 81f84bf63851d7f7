-- What a coin makes of what an acceptor holds.
use Rattle.std.proofs.Common.{◌≡◌, ℕ, suc, true, false, List, ◌∷◌}
use Rattle.cct_model_wire.specs.Acceptor.{accepted_coins, accepts, events, path_of, settings}
use Rattle.cct_model_wire.specs.History.{Met, coin}
use Rattle.cct_device_intake.specs.declared.intake.Intake.{Intake}
use Rattle.cct_device_intake.specs.Intake.{Holds}

-- an inhibited coin is error 2, and the accept counter stays
pub inhibited_holds : (intake : Intake) (start : ℕ) (past : List Met) (place : ℕ) → accepts past place ≡ false
    → Holds intake start (settings past) (record { a = 0; b = 2 } ∷ events past) (accepted_coins past)
    → Holds intake start (settings (coin place ∷ past)) (events (coin place ∷ past)) (accepted_coins (coin place ∷ past))
inhibited_holds intake start past place out holds = rw out holds

-- an accepted one is the event of its place and its path, and the accept counter rises
pub accepted_holds : (intake : Intake) (start : ℕ) (past : List Met) (place path : ℕ) → accepts past place ≡ true → path ≡ path_of past place
    → Holds intake start (settings past) (record { a = place; b = path } ∷ events past) (suc (accepted_coins past))
    → Holds intake start (settings (coin place ∷ past)) (events (coin place ∷ past)) (accepted_coins (coin place ∷ past))
accepted_holds intake start past place path lets is holds = rw (lets, ← is) holds
