-- What a device met, newest first, without bytes: what it heard stands as what that asks of it.
use Rattle.std.specs.Prelude.{ℕ, Option, Some}
use Rattle.cct_model_wire.specs.declared.request.Request.{Request}
use Rattle.cct_model_wire.specs.declared.request.Request.TheVariants.{ResetDevice}

-- A coin of a place fell in, or a bill of a place was put in; an object that is no coin fell in; a
-- coin fell out of a hopper, or stuck in it; the device was reset; or bytes were heard, which ask
-- something of the device or nothing.
pub data Met : Type 0 where
  coin : (place : ℕ) → Met
  alien : Met
  fall : Met
  jam : Met
  reset : Met
  heard : (asked : Option Request) → Met

-- What is kept when bytes are heard: what was before, and what is fresh if they reset the device.
abbrev pub unless_reset : {A : Type 0} → Option Request → A → A → A
unless_reset (Some ResetDevice) fresh before = fresh
unless_reset asked fresh before = before
