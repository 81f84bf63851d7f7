use Rattle.std.proofs.Common.{◌+◌, ◌∙◌, [], ◌∷◌, get_or, set, ap, refl, subst}
use Rattle.std.proofs.lemmas.List.{set-get_or}
use Rattle.cct_model.specs.lines.command.CommandNo.TheVariants.{NoDevice}
use Rattle.cct_model.specs.Exchange.{device_at}
use Rattle.cct_model.specs.Legal.{command_entry}
use Rattle.cct_model.specs.Rows.{puts_in}
use Rattle.cct_jobs.specs.Ahead.{coins_in}
use Rattle.cct_host.specs.Desk.{held_at, no_of, puts_at}
use Rattle.cct_host.specs.Desks.{reserved_of}
use Rattle.cct_host.specs.Place.{AreAt}
use Rattle.cct_host.specs.Running.{needed, rows_begun}
use Rattle.cct_host.proofs.Commands.{absent_refused, stays_by}
use Rattle.cct_host.proofs.Lines.{command_at, command_last, refused_quiet}
use Rattle.cct_host.proofs.Places.{desk_lent, desk_sits, device_found, device_turn, fits_three, found_at, last_is, none_at, refilled}
use Rattle.cct_host.proofs.Standing.{desks_stand}
use Rattle.cct_host.proofs.Turning.{amount_asked, ok_by, reserved_turn, sum_turn}
use Rattle.cct_host.proofs.desks.Desks.command_at.Goals as goal

pub command-requires-clause-there : goal.command-requires-clause-there
command-requires-clause-there c =
    let devices = c.args.self.now.setup.now.devices in
    let i = c.in-Some.index in
    let d = c.index-devices-index.result in
    let at = found_at c.args.self.now c.args.addr i _ c.find.ensures c.in-Some.is in
    let is = c.index-devices-index.is ∙ ap (λ ds. get_or ds i d) c.as_slice-devices.ensures.value in
    ap (device_at devices) c.requires.address ∙ (device_found devices i d c.args.addr at.index is).1

pub returns-in-None-clause-answers : goal.returns-in-None-clause-answers
returns-in-None-clause-answers c past stands =
    let desks = c.args.self.now in
    let setup = desks.setup.now in
    let none = (none_at desks c.args.addr _ c.find.ensures c.in-None.is).0 in
    let bare = ap (device_at setup.devices) c.requires.address ∙ none in (
      absent_refused setup past c.args.command.now c.requires.of_device bare,
      desks_stand desks past _ (refused_quiet past c.args.command.now NoDevice) stands,
    )

pub returns-in-Some-clause-stays : goal.returns-in-Some-clause-stays
returns-in-Some-clause-stays c =
    let ks = c.args.self.now.devices.items in
    let i = c.in-Some.index in
    let y = c.index-deref_mut-index.result in
    let lent = c.deref_mut.ensures.value in
    stays_by _ _ _ _ _ _ _ _ _ _ c.command.ensures.stays
    (λ same. refilled ks _ i c.command.new.self lent ∙ ap (set ks i) (same ∙ ap (λ ls. get_or ls i y) lent)
    ∙ set-get_or ks i y) (λ same. refl) (λ same. refl)

pub returns-in-Some-clause-answers : goal.returns-in-Some-clause-answers
returns-in-Some-clause-answers c past stands =
    let setup = c.args.self.now.setup.now in
    let ks = c.args.self.now.devices.items in
    let i = c.in-Some.index in
    let d = c.index-devices-index.result in
    let lent = c.as_slice-devices.ensures.value in
    let kept = c.deref_mut.ensures.value in
    let at = found_at c.args.self.now c.args.addr i _ c.find.ensures c.in-Some.is in
    let is = c.index-devices-index.is ∙ ap (λ ds. get_or ds i d) lent in
    let y = desk_lent ks _ i c.index-deref_mut-index.result kept c.index-deref_mut-index.is in
    let sits = desk_sits setup.devices ks i d _ past at.within is y stands.devices in
    let answered = c.command.ensures.commands (fits_three setup i d stands.sound at.within is) past
    (λ begins. last_is c.args.self.now past c.last_before-last.result stands (c.last_before-last.ensures begins)) sits in
    let news = command_entry c.args.command.now (no_of c.command.result) ∷ [] in
    let here = subst (λ a. AreAt a past news) c.requires.address (command_at past c.args.command.now _) in
    let desks = c.args.self.now in
    let turned = device_turn setup ks _ desks.scan desks.sale i c.command.new.self d c.args.addr past news stands.sound
    kept at.index is here answered.1 stands.devices stands.scan stands.sale in (
      answered.0,
      record {
        sound = stands.sound;
        devices = turned.0;
        scan = turned.1;
        sale = turned.2;
        last = command_last past c.args.command.now (no_of c.command.result) c.args.self.now.last stands.last;
      },
    )

pub returns-in-Some-clause-takes : goal.returns-in-Some-clause-takes
returns-in-Some-clause-takes c =
    let setup = c.args.self.now.setup.now in
    let k = c.args.command.now in
    let ks = c.args.self.now.devices.items in
    let i = c.in-Some.index in
    let d = c.index-devices-index.result in
    let y = c.index-deref_mut-index.result in
    let x = c.command.new.self in
    let kept = c.deref_mut.ensures.value in
    let lent = c.as_slice-devices.ensures.value in
    let at = found_at c.args.self.now c.args.addr i _ c.find.ensures c.in-Some.is in
    let is = c.index-devices-index.is ∙ ap (λ ds. get_or ds i d) lent in
    let place = device_found setup.devices i d c.args.addr at.index is in
    ok_by c.command.result _ _ c.command.ensures.takes
    (λ takes. record {
      holds = sum_turn held_at ks _ i y x _ (needed setup k) kept at.there takes.holds;
      puts = sum_turn puts_at ks _ i y x _ (puts_in (rows_begun setup k)) kept at.there takes.puts;
      reserves = reserved_turn setup ks _ i d c.args.addr y x (coins_in (rows_begun setup k)) _ kept
          c.args.self.now.many at.within is place.2 takes.reserves
          ∙ ap (λ n. reserved_of c.args.self.now + n)
          (amount_asked setup d k c.args.addr c.requires.of_device c.requires.address
          (ap (device_at setup.devices) c.requires.address ∙ place.1));
    })
