use Rattle.std.proofs.Common.{◌∷◌, [], refl}
use Rattle.cct_model.specs.lines.command.Step.TheVariants as step
use Rattle.cct_model.specs.lines.entry.Entry.TheVariants as entry_of
use Rattle.cct_live_service.proofs.session.count_stock.Goals as goal

pub returns : goal.returns
returns g c = record {
  acts = c.tell_desk.ensures.acts (step.Stock c.args.addr c.args.count) c.args.desk.now c.stock.new.self
      (tt, λ capacity setup past. refl) (c.stock.ensures (entry_of.Stock c.args.addr c.args.count ∷ []));
  watch = c.tell_desk.ensures.watch;
}
