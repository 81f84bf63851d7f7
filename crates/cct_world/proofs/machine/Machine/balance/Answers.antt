use Rattle.std.proofs.Common.{refl, rules}
use Rattle.cct_world.proofs.Steps.{balance_goes}
use Rattle.cct_world.proofs.machine.Machine.balance.Goals as goal

pub returns : goal.returns
returns g c = record {
  setup = refl;
  journal = refl;
  plays = λ past stands suits survives.
      let machine = c.args.self.now in
      let goes = balance_goes machine.host machine.bus past c.totals.result c.tell_alone.new.report.items
      c.tell_alone.ensures c.totals.ensures stands.host stands.bus in
      (goes.0, record { host = goes.1.0; bus = goes.1.1 });
  told = search rules;
  recorded = search rules;
  unkept = search rules;
  desk = refl;
}
