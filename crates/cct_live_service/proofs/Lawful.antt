-- Each life is lawful.
use Rattle.std.specs.Prelude.{List}
use Rattle.cct_model.specs.terms.device.Setup.{Setup}
use Rattle.cct_model.specs.lines.record.Record.{Record}
use Rattle.cct_model.specs.lines.entry.Entry.{Entry}
use Rattle.cct_model.specs.Setup.{IsSoundSetup}
use Rattle.cct_journal.specs.declared.format.TheConstants.{MOST_RECORDS}
use Rattle.cct_laws_live.specs.Life.{IsLife}
use Rattle.cct_laws_live.specs.LiveStep.{LiveStep}
use Rattle.cct_laws_live.proofs.LifeBooks.{life_conserved, life_follow, life_room}
use Rattle.cct_laws_live.proofs.LifeLaws.{life_few_sent, life_fresh, life_posts, life_sent}
use Rattle.cct_laws_live.proofs.Routes.{life_few_routed, life_routed}
use Rattle.cct_laws_live_devices.proofs.Real.{life_right}
use Rattle.cct_live_service.specs.Laws.{IsLawful}

pub lawful : (setup : Setup) (found : List Record) (steps : List LiveStep) (past : List Entry) → IsSoundSetup setup →
    IsLife MOST_RECORDS setup found steps past → IsLawful setup found past
lawful setup found steps past sound life = record {
  sent = life_sent MOST_RECORDS setup found steps past sound life;
  once = life_few_sent MOST_RECORDS setup found steps past sound life;
  routed = life_routed MOST_RECORDS setup found steps past sound life;
  routed_once = life_few_routed MOST_RECORDS setup found steps past sound life;
  fresh = life_fresh MOST_RECORDS setup found steps past sound life;
  follow = life_follow MOST_RECORDS setup found steps past sound life;
  conserved = life_conserved MOST_RECORDS setup found steps past sound life;
  room = life_room MOST_RECORDS setup found steps past sound life;
  posts = life_posts MOST_RECORDS setup found steps past sound life;
  real = life_right MOST_RECORDS setup found steps past sound life;
}
