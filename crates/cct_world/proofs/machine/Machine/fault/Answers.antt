use Rattle.std.proofs.Common.{◌∷◌, [], ap, refl, subst, ◌∙◌, rules}
use Rattle.cct_model.specs.lines.entry.Entry.TheVariants.{Fault}
use Rattle.cct_bus.specs.Bus as wires
use Rattle.cct_host.proofs.Lines.{fault_quiet}
use Rattle.cct_world.proofs.Steps.{one_goes}
use Rattle.cct_world.proofs.machine.Machine.fault.Goals as goal

pub returns : goal.returns
returns g c = record {
  setup = refl;
  journal = refl;
  plays = λ past stands suits survives.
      let bus = c.set_fault.new.self in
      let goes = one_goes c.args.self.now.host bus past (Fault c.args.fault.now) c.tell_alone.new.report.items
      (c.tell_alone.ensures ∙ ap (λ f. Fault f ∷ []) c.copied-2.ensures)
      (fault_quiet past c.args.fault.now) stands.host
      (subst (λ f. wires.StandsFor bus (Fault f ∷ past)) c.copied.ensures
      (c.set_fault.ensures.stands past stands.bus)) in
      (goes.0, record { host = goes.1.0; bus = goes.1.1 });
  told = search rules;
  recorded = search rules;
  unkept = search rules;
  desk = refl;
}
