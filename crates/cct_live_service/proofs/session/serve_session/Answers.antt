use Rattle.cct_live_service.proofs.Sessions.{asked_by}
use Rattle.cct_live_service.proofs.session.serve_session.Goals as goal

pub act_on-requires : goal.act_on-requires
act_on-requires g c = record {
  whole = c.requires.whole;
  asked = asked_by c.serve-serving.result c.args.desk.now c.serve-serving.new.self c.serve-serving.ensures;
}

pub returns : goal.returns
returns g c = record { acts = c.act_on.ensures.acts c.args.desk.now c.serve-serving.ensures }
