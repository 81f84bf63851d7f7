use Rattle.std.proofs.Common.{[], ◌∷◌, ◌≡◌, ◌∙◌, ◌++◌, None, Some, ap, refl, reverse, rules, subst, sym}
use Rattle.cct_model.specs.lines.command.Command.TheVariants as command
use Rattle.cct_model.specs.lines.entry.Entry.TheVariants as entry
use Rattle.cct_model.specs.Change.{gone_on, pay_entries}
use Rattle.cct_model.specs.Legal.{command_entry}
use Rattle.cct_host.specs.Desk.{no_of}
use Rattle.cct_host.specs.Host as hosts
use Rattle.cct_world.proofs.AtDesk.{short_goes, short_plain}
use Rattle.cct_world.proofs.Steps.{command_goes}
use Rattle.cct_world.proofs.machine.Machine.pay.Goals as goal

pub returns-in-Ok : goal.returns-in-Ok
returns-in-Ok g c =
    let machine = c.args.self.now in
    let host = c.command.new.self in
    let p = c.args.payment in
    let given = command.Pay p.addr p.id p.count in
    let report = c.tell_taken.new.report.items in
    let told : reverse report ≡ entry.Taken given ∷ [] = ap reverse c.tell_taken.ensures in
    let no : no_of c.command.result ≡ None = ap no_of c.in-Ok.is in
    record {
      setup = c.command.ensures.setup;
      journal = c.command.ensures.journal;
      plays = λ s runs past stands.
          let answered = c.command.ensures.answers past stands.host in
          let goes = command_goes (hosts.capacity_in machine.host) (hosts.setup_of machine.host) host machine.bus past given None
          report (sym no ∙ answered.0) (subst (λ n. hosts.StandsFor host (command_entry given n ∷ past)) no answered.1) stands.bus
          c.tell_taken.ensures in
          (told ∙ ap (pay_entries s p) (sym no ∙ answered.0), record { host = goes.1.0; bus = goes.1.1 });
      told = search rules;
      recorded = search rules;
      unkept = search rules;
      desk = λ s runs. c.taken.ensures s runs ∙ ap (λ news. gone_on news machine.desk.trays s) (sym told);
    }

pub returns-in-Err : goal.returns-in-Err
returns-in-Err g c =
    let machine = c.args.self.now in
    let host = c.command.new.self in
    let p = c.args.payment in
    let why = c.in-Err.why in
    let given = command.Pay p.addr p.id p.count in
    let first = c.tell_refused.new.report.items in
    let report = c.add_short.new.report.items in
    let short = c.refused-shortfall.result in
    let told : reverse report ≡ entry.Short short.paid short.rest ∷ entry.No given why ∷ [] =
    ap reverse (c.add_short.ensures ∙ ap (λ es. es ++ entry.Short short.paid short.rest ∷ []) c.tell_refused.ensures) in
    let plain = short_plain p why short.paid short.rest first report c.tell_refused.ensures c.add_short.ensures in
    let no : no_of c.command.result ≡ Some why = ap no_of c.in-Err.is in
    record {
      setup = c.command.ensures.setup;
      journal = c.command.ensures.journal;
      plays = λ s runs past stands.
          let answered = c.command.ensures.answers past stands.host in
          let goes = short_goes host machine.bus past s p why short.paid short.rest first report c.tell_refused.ensures
          c.add_short.ensures (c.refused-shortfall.ensures.told s runs)
          (subst (λ n. hosts.StandsFor host (command_entry given n ∷ past)) no answered.1) stands.bus in
          (goes.0 ∙ ap (pay_entries s p) (sym no ∙ answered.0), record { host = goes.1.0; bus = goes.1.1 });
      told = plain.0;
      recorded = plain.1;
      unkept = plain.2;
      desk = λ s runs. c.refused-shortfall.ensures.desk ∙ ap (λ news. gone_on news machine.desk.trays s) (sym told);
    }
