-- The rooms for a step.
use Rattle.cct_model.specs.lines.command.Step.{Step}
use Rattle.cct_bench.specs.declared.steps.Room.{Room}
use Rattle.cct_bench.specs.declared.steps.Room.TheVariants as room
use Rattle.cct_bench.specs.declared.steps.StepRooms.{StepRooms}

-- The step that stands in a room.
abbrev pub step_in : StepRooms → Room → Step
step_in rooms room.Attempt = rooms.attempt
step_in rooms room.Command = rooms.command
step_in rooms room.Other = rooms.other
