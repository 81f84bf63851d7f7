use Rattle.cct_text.proofs.ScriptLines.{command_back, taken_is}
use Rattle.cct_text.proofs.laws.a_commands_line_is_read_back.Goals as goal

pub returns : goal.returns
returns c = record { taken = taken_is; back = command_back }
