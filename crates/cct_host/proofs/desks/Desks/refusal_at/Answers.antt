use Rattle.std.proofs.Common.{◌≡◌, ◌∙◌, get_or, ap}
use Rattle.cct_model.specs.Exchange.{device_at}
use Rattle.cct_host.proofs.Commands.{absent_refused}
use Rattle.cct_host.proofs.Places.{desk_sits, device_found, found_at, last_is, none_at}
use Rattle.cct_host.proofs.desks.Desks.refusal_at.Goals as goal

pub returns-in-None : goal.returns-in-None
returns-in-None c past stands =
    let desks = c.args.self.now in
    let setup = desks.setup.now in
    absent_refused setup past c.args.command.now c.requires.of_device
    (ap (device_at setup.devices) c.requires.address ∙ (none_at desks c.args.addr _ c.find.ensures c.in-None.is).0)

pub returns-in-Some : goal.returns-in-Some
returns-in-Some c past stands =
    let desks = c.args.self.now in
    let setup = desks.setup.now in
    let ks = desks.devices.items in
    let i = c.in-Some.index in
    let d = c.index-devices-index.result in
    let k = c.index-deref-index.result in
    let at = found_at desks c.args.addr i _ c.find.ensures c.in-Some.is in
    let is = c.index-devices-index.is ∙ ap (λ ds. get_or ds i d) c.as_slice-devices.ensures.value in
    let y : k ≡ get_or ks i k = c.index-deref-index.is ∙ ap (λ ls. get_or ls i k) c.deref.ensures.0 in
    let place = device_found setup.devices i d c.args.addr at.index is in
    c.command_refusal.ensures setup (ap (device_at setup.devices) c.requires.address ∙ place.1) past
    (λ begins. last_is desks past c.last_before.result stands (c.last_before.ensures begins))
    (desk_sits setup.devices ks i d k past at.within is y stands.devices)
