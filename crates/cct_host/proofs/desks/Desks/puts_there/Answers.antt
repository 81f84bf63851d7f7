use Rattle.std.proofs.Common.{◌≡◌, ◌∙◌, ap, get_or, sym}
use Rattle.std.specs.Prelude.{is_some}
use Rattle.cct_model.specs.Exchange.{device_at}
use Rattle.cct_host.specs.Desks.{due_at_desk}
use Rattle.cct_host.proofs.Held.{bare_due_is, due_is}
use Rattle.cct_host.proofs.Places.{desk_found, desk_sits, found_at, none_at}
use Rattle.cct_host.proofs.desks.Desks.puts_there.Goals as goal

pub returns-in-Some-clause-value : goal.returns-in-Some-clause-value
returns-in-Some-clause-value c =
    let desks = c.args.self.now in
    let at = found_at desks c.args.addr c.in-Some.index _ c.requires.found c.in-Some.is in
    c.puts.ensures
    ∙ sym (ap (λ found. is_some (due_at_desk desks.sale c.args.addr found))
    (desk_found desks.setup.now.devices desks.devices.items _ c.args.addr c.in-Some.index c.index-deref-index.result
    c.deref.ensures.0 c.index-deref-index.is desks.many at.within at.index))

pub returns-in-Some-clause-stands : goal.returns-in-Some-clause-stands
returns-in-Some-clause-stands c past stands =
    let desks = c.args.self.now in
    let setup = desks.setup.now in
    let i = c.in-Some.index in
    let at = found_at desks c.args.addr i _ c.requires.found c.in-Some.is in
    let k = c.index-deref-index.result in
    let y : k ≡ get_or desks.devices.items i k = c.index-deref-index.is ∙ ap (λ ls. get_or ls i k) c.deref.ensures.0 in
    let sits = desk_sits setup.devices desks.devices.items i at.device k past at.within at.is y stands.devices in
    c.puts.ensures ∙ ap is_some (due_is setup at.device k past c.args.addr (device_at setup.devices c.args.addr) at.at sits)

pub returns-in-None-clause-value : goal.returns-in-None-clause-value
returns-in-None-clause-value c =
    let desks = c.args.self.now in
    c.bare_puts.ensures
    ∙ sym (ap (λ found. is_some (due_at_desk desks.sale c.args.addr found))
    (none_at desks c.args.addr _ c.requires.found c.in-None.is).1)

pub returns-in-None-clause-stands : goal.returns-in-None-clause-stands
returns-in-None-clause-stands c past stands =
    let desks = c.args.self.now in
    c.bare_puts.ensures
    ∙ ap is_some (bare_due_is desks.sale past c.args.addr (device_at desks.setup.now.devices c.args.addr)
    (none_at desks c.args.addr _ c.requires.found c.in-None.is).0 stands.sale)
