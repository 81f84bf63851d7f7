use Rattle.cct_laws_live.proofs.Carrying.{live_put, live_room, live_settle}
use Rattle.cct_laws_live.proofs.LifeBooks.{life_put, life_room}
use Rattle.cct_laws_live.proofs.LifeTries.{life_settle}
use Rattle.cct_laws_live.proofs.a_put_of_a_life_finds_room.Goals as goal

pub returns : goal.returns
returns c = record {
  held = live_room;
  puts = live_put;
  settlements = live_settle;
  life_settlements = life_settle;
  life_held = life_room;
  life_puts = life_put;
}
