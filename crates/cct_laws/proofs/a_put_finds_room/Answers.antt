use Rattle.cct_laws.proofs.money.Journal.{legal_put, legal_room, legal_settle}
use Rattle.cct_laws.proofs.a_put_finds_room.Goals as goal

pub returns : goal.returns
returns c = record { held = legal_room; puts = legal_put; settlements = legal_settle }
