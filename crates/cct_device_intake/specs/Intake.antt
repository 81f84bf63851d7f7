-- What a device that takes money holds of its inhibits, its events and its accept counter (ccTalk
-- Generic Specification 4, part 2).
use Rattle.std.specs.Prelude.{◌≡◌, ℕ, Bool, true, false, List}
use Rattle.cct_model_wire.specs.declared.coin.Pair.{Pair}
use Rattle.cct_model_wire.specs.declared.request.Request.{Request}
use Rattle.cct_model_wire.specs.declared.request.Request.TheVariants.{SetMask, SetMaster}
use Rattle.cct_model_wire.specs.Acceptor.{counted, mask_of, settings}
use Rattle.cct_model_wire.specs.History.{Met}
use Rattle.cct_model_wire.specs.Setting.{Setting, mask_in, is_normal_in}
use Rattle.cct_ring.specs.Ring as ring
use Rattle.cct_sorter.specs.Table as sorter
use Rattle.cct_device_intake.specs.declared.intake.Intake.{Intake}

-- One whose accept counter started at a number, which was set so and into which these events were
-- put since its last reset, newest first, and which ever accepted so much.
pub record Holds (intake : Intake) (start : ℕ) (set : List Setting) (pushed : List Pair)
    (accepted : ℕ) : Type 0 where
  pub table : sorter.Holds intake.table set
  pub ring : ring.Holds intake.ring pushed
  pub accepts : intake.accepts ≡ counted start accepted

-- Settings leave the inhibits of a device that met all this.
pub record IsInhibits (set : List Setting) (past : List Met) : Type 0 where
  pub mask : mask_in set ≡ mask_of past
  pub normal : is_normal_in set ≡ is_normal_in (settings past)

-- Whether a request sets an inhibit.
abbrev pub is_setting : Request → Bool
is_setting (SetMask mask) = true
is_setting (SetMaster value) = true
is_setting q = false
