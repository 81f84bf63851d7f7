use Rattle.cct_laws_live.proofs.Carrying.{live_follow, live_due_follows}
use Rattle.cct_laws_live.proofs.LifeBooks.{life_follow, life_due_follows}
use Rattle.cct_laws_live.proofs.each_record_of_a_life_follows.Goals as goal

pub returns : goal.returns
returns c = record { all = live_follow; due = live_due_follows; life = life_follow; life_due = life_due_follows }
