use Rattle.std.proofs.Common.{[], ◌∷◌, ap, refl, subst}
use Rattle.cct_model.specs.lines.command.Command.TheVariants as command
use Rattle.cct_model.specs.Job.{address_of}
use Rattle.cct_model.specs.Legal.{command_entry}
use Rattle.cct_host.specs.Desk.{no_of}
use Rattle.cct_host.specs.Place.{AreAt}
use Rattle.cct_host.proofs.Commands.{stays_by}
use Rattle.cct_host.proofs.Lines.{command_at, command_last}
use Rattle.cct_host.proofs.Places.{last_is, sale_turn, scan_turn}
use Rattle.cct_host.proofs.desks.Desks.command.Goals as goal

pub returns-in-Scan-clause-stays : goal.returns-in-Scan-clause-stays
returns-in-Scan-clause-stays c =
    stays_by _ _ _ _ _ _ _ _ _ _ c.scan.ensures.stays (λ same. refl) (λ same. same) (λ same. refl)

pub returns-in-Scan-clause-answers : goal.returns-in-Scan-clause-answers
returns-in-Scan-clause-answers c past stands =
    let refused = no_of c.scan.result in
    let answered = c.scan.ensures.commands past stands.scan in
    let news = command_entry c.args.command.now refused ∷ [] in
    let at = subst (λ a. AreAt a past news) (ap address_of c.in-Scan.is)
    (command_at past c.args.command.now refused) in
    let turned = scan_turn c.args.self.now.setup.now _ c.args.self.now.sale past news stands.sound at stands.devices
    stands.sale in (
      answered.0,
      record {
        sound = stands.sound;
        devices = turned.0;
        scan = answered.1;
        sale = turned.1;
        last = command_last past c.args.command.now refused c.args.self.now.last stands.last;
      },
    )

pub returns-in-Vend-clause-stays : goal.returns-in-Vend-clause-stays
returns-in-Vend-clause-stays c =
    stays_by _ _ _ _ _ _ _ _ _ _ c.sell.ensures.stays (λ same. refl) (λ same. refl) (λ same. same)

pub returns-in-Vend-clause-answers : goal.returns-in-Vend-clause-answers
returns-in-Vend-clause-answers c past stands =
    let k = command.Vend c.in-Vend.id c.in-Vend.price in
    let refused = no_of c.sell.result in
    let last = last_is c.args.self.now past c.last_id-last.result stands c.last_id-last.ensures.value in
    let answered = c.sell.ensures.commands past (λ _. last) stands.sale in
    let turned = sale_turn c.args.self.now.setup.now _ c.args.self.now.scan past (command_entry k refused ∷ [])
    stands.sound (command_at past k refused) stands.devices stands.scan in
    rw c.in-Vend.is (
      answered.0,
      record {
        sound = stands.sound;
        devices = turned.0;
        scan = turned.1;
        sale = answered.1;
        last = command_last past k refused c.args.self.now.last stands.last;
      },
    )
