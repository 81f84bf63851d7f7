-- What came of the question, by the device that the setup has there.
use Rattle.std.proofs.Common.{sym}
use Rattle.cct_live_survey.specs.Roll.{was_nobody, was_silent, was_told}
use Rattle.cct_live_survey.proofs.roll.Roll.call_at.Goals as goal

pub returns-in-None : goal.returns-in-None
returns-in-None g c = rw c.move_on.ensures (was_nobody c.turn_at-turn.result c.turn_at-turn.ensures (sym c.in-None.ensures))

pub returns-in-Silent : goal.returns-in-Silent
returns-in-Silent g c = rw c.pass_over.ensures
    (was_silent c.turn_at-turn.result c.in-Some.device.now _ c.turn_at-turn.ensures (sym c.in-Some.ensures) c.in-Silent.ensures)

pub returns-in-Told : goal.returns-in-Told
returns-in-Told g c = rw c.go_on.ensures
    (was_told c.turn_at-turn.result c.in-Some.device.now c.in-Told.found _ c.turn_at-turn.ensures (sym c.in-Some.ensures) c.in-Told.ensures)
