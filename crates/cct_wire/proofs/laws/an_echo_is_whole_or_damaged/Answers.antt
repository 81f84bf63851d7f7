use Rattle.cct_wire.proofs.Echoes.{whole_is, only_is, none_is, place_within}
use Rattle.cct_wire.proofs.laws.an_echo_is_whole_or_damaged.Goals as goal

pub returns-clause-whole : goal.returns-clause-whole
returns-clause-whole c = whole_is

pub returns-clause-only : goal.returns-clause-only
returns-clause-only c = only_is

pub returns-clause-damaged : goal.returns-clause-damaged
returns-clause-damaged c = λ sent heard. (place_within sent heard, none_is sent heard)
