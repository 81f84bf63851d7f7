use Rattle.std.proofs.Common.{refl, subst}
use Rattle.cct_world.proofs.Steps.{HappeningGoes, entries_are, happening_goes, told_plain}
use Rattle.cct_bus.specs.Bus as wires
use Rattle.cct_host.specs.Host as hosts
use Rattle.cct_world.specs.Machine.{capacity_in}
use Rattle.cct_world.proofs.machine.Machine.befall.Goals as goal

pub returns : goal.returns
returns g c =
    let machine = c.args.self.now in
    let bus = c.befall-outcome.new.self in
    let report = c.tell.new.report.items in
    let plain = told_plain _ _ _ _ c.tell.ensures in
    record {
      setup = refl;
      journal = refl;
      plays = λ past stands suits survives.
          let goes = happening_goes (wires.setup_of machine.bus) c.args.addr c.args.what machine.host bus past report
          c.befall-outcome.result (c.befall-outcome.ensures.stands past stands.bus) c.tell.ensures stands.host in
          let here =
          subst (λ s. HappeningGoes s c.args.what c.args.addr machine.host bus past report) machine.same goes in (
            entries_are (capacity_in machine) (hosts.setup_of machine.host) past machine.desk c.args.addr c.args.what _ here.0,
            record { host = here.1.0; bus = here.1.1 },
          );
      told = plain.0;
      recorded = plain.1;
      unkept = plain.2;
      desk = refl;
    }
