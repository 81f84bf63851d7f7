use Rattle.std.proofs.Common.{arith}
use Rattle.cct_model_lines.specs.Members.{words_back}
use Rattle.cct_model_lines.proofs.device_set.DeviceSetPartialEq.eq.Goals as goal

pub returns : goal.returns
returns c = grind (arith, words_back)
