use Rattle.std.proofs.Common.{[], length, refl, ap, ◌∙◌}
use Rattle.cct_host.proofs.Replaying.{all_unused, none_replayed}
use Rattle.cct_host.proofs.Starting.{nothing_yet, replayed_stand}
use Rattle.cct_host.proofs.desks.Desks.new.Goals as goal

pub returns-clause-replays : goal.returns-clause-replays
returns-clause-replays c = record {
  sound = c.requires.sound;
  unused = record {
    devices = all_unused _ c.free_desks.ensures.free;
    scan = c.default.ensures;
    sale = c.default-2.ensures;
  };
  devices = none_replayed c.args.setup.now _ _ (c.free_desks.ensures.many ∙ ap length c.as_slice.ensures.value)
      c.free_desks.ensures.free;
  last_is = refl;
}

pub returns-clause-fresh : goal.returns-clause-fresh
returns-clause-fresh c = replayed_stand _ [] [] nothing_yet refl (returns-clause-replays c)
