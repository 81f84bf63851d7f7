use Rattle.std.proofs.Common.{[], ◌∷◌, ◌∙◌, ap, refl, reverse, sym}
use Rattle.cct_host_change.specs.Serving.{change_told}
use Rattle.cct_world.proofs.AtDesk.{change_aside, one_aside, plain_aside}
use Rattle.cct_world.proofs.machine.Machine.change.Goals as goal

pub returns : goal.returns
returns g c =
    let machine = c.args.self.now in
    let report = c.tell_change.new.report.items in
    let told = change_told c.args.first c.args.amount c.change-began.result in
    let aside = change_aside c.args.first c.args.amount c.change-began.result in
    let plain = plain_aside report told c.tell_change.ensures aside in
    record {
      setup = refl;
      journal = refl;
      plays = λ past stands suits survives.
          let goes = one_aside machine.host machine.bus past told report c.tell_change.ensures aside stands.host stands.bus in
          (goes.0 ∙ ap (λ e. e ∷ []) (sym (c.change-began.ensures.told c.requires.in_range.0)), record { host = goes.1.0; bus = goes.1.1 });
      told = plain.0;
      recorded = plain.1;
      unkept = plain.2;
      desk = c.change-began.ensures.desk c.requires.in_range.0 (reverse report);
    }
