use Rattle.std.proofs.Common.{◌∷◌, [], subst, sym}
use Rattle.cct_model.specs.lines.command.Step.TheVariants as step
use Rattle.cct_live_service.specs.AtDesk.{GivesAt}
use Rattle.cct_live_service.proofs.Desks.{change_gives}
use Rattle.cct_live_service.proofs.session.begin_session.Goals as goal

pub returns : goal.returns
returns g c =
    let s = step.Change c.args.first c.args.amount in
    let old = c.args.desk.now in
    record {
      acts = c.tell_desk.ensures.acts s old c.change-began.new.self
          (subst (GivesAt old s) (sym c.change_entry.ensures)
          (change_gives c.args.first c.args.amount old c.change-began.result (c.change-began.ensures.told c.requires.ids)))
          (c.change-began.ensures.desk c.requires.ids (c.change_entry.result ∷ []));
      watch = c.tell_desk.ensures.watch;
    }
