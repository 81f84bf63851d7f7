-- Where an exchange failed, by whether its message was sent.
use Rattle.std.proofs.Common.{refl}
use Rattle.cct_live_port.specs.Counted.{unsettled_by_silence}
use Rattle.cct_live_port.proofs.Failing.{gives_unheard, gives_unsent}
use Rattle.cct_live_port.proofs.port.Port.converse.Goals as goal

pub returns-in-Err-clause-gives : goal.returns-in-Err-clause-gives
returns-in-Err-clause-gives g c =
    gives_unsent g.L.Line.reads g.L.Line.writes _ _ _ _ _ _ c.wanted-wanted.ensures refl refl c.in-Err.ensures.fails
    c.give_up.ensures.gave_up

pub returns-in-Err-clause-settles : goal.returns-in-Err-clause-settles
returns-in-Err-clause-settles g c =
    unsettled_by_silence _ _ _ _ c.give_up.ensures.gave_up.nothing c.give_up.ensures.gave_up.unsettled

pub returns-in-Err-listen-clause-gives : goal.returns-in-Err-listen-clause-gives
returns-in-Err-listen-clause-gives g c =
    gives_unheard g.L.Line.reads g.L.Line.writes _ _ _ _ _ _ _ _ _ c.wanted-wanted.ensures c.patience-patience.ensures
    c.begin.ensures refl refl c.in-Ok.ensures.sends c.in-Err-listen.ensures.breaks
    c.give_up-in-Err-listen.ensures.gave_up

pub returns-in-Err-listen-clause-settles : goal.returns-in-Err-listen-clause-settles
returns-in-Err-listen-clause-settles g c =
    unsettled_by_silence _ _ _ _ c.give_up-in-Err-listen.ensures.gave_up.nothing
    c.give_up-in-Err-listen.ensures.gave_up.unsettled
