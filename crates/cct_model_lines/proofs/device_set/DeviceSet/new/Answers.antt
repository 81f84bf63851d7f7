use Rattle.std.proofs.Common.{[], ◌∷◌, ◌∙◌}
use Rattle.cct_model_lines.proofs.Ordered.{empty_is}
use Rattle.cct_model_lines.proofs.Words.{all_told, has_is, none_set}
use Rattle.cct_model_lines.proofs.device_set.DeviceSet.new.Goals as goal

pub returns-clause-none : goal.returns-clause-none
returns-clause-none c = λ addr. has_is (0 ∷ 0 ∷ 0 ∷ 0 ∷ []) addr ∙ none_set 4 addr

pub returns-clause-whole : goal.returns-clause-whole
returns-clause-whole c = all_told (0 ∷ 0 ∷ 0 ∷ 0 ∷ [])

pub returns-clause-empty : goal.returns-clause-empty
returns-clause-empty c = empty_is _ (returns-clause-none c)
