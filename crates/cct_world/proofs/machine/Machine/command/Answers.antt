use Rattle.std.proofs.Common.{refl, ◌≡◌, ◌∷◌, Some, subst, ap, sym, ◌∙◌, rules}
use Rattle.cct_model.specs.Legal.{command_entry}
use Rattle.cct_host.specs.Desk.{no_of}
use Rattle.cct_host.specs.Host as hosts
use Rattle.cct_world.proofs.Steps.{command_goes}
use Rattle.cct_world.proofs.machine.Machine.command.Goals as goal

pub returns-in-Err : goal.returns-in-Err
returns-in-Err g c = record {
  setup = c.command.ensures.setup;
  journal = c.command.ensures.journal;
  plays = λ past stands suits survives.
      let machine = c.args.self.now in
      let host = c.command.new.self in
      let why = c.in-Err.why in
      let no : no_of c.command.result ≡ Some why = ap no_of c.in-Err.is in
      let answered = c.command.ensures.answers past stands.host in
      let goes = command_goes (hosts.capacity_in machine.host) (hosts.setup_of machine.host) host machine.bus past
      c.args.command.now (Some why) c.tell_refused.new.report.items
      (sym no ∙ answered.0)
      (subst (λ n. hosts.StandsFor host (command_entry c.args.command.now n ∷ past)) no answered.1) stands.bus
      c.tell_refused.ensures in
      (goes.0, record { host = goes.1.0; bus = goes.1.1 });
  told = search rules;
  recorded = search rules;
  unkept = search rules;
  desk = refl;
}
