use Rattle.cct_live_port.proofs.Silence.{each_send}
use Rattle.cct_live_port.proofs.laws.each_send_follows_silence.Goals as goal

pub returns : goal.returns
returns g c = each_send g.L.Line.reads g.L.Line.writes
