use Rattle.std.proofs.Common.{◌≡◌, ◌∙◌, ap, get_or, sym}
use Rattle.cct_model.specs.Money.{coins_of}
use Rattle.cct_host.specs.Desks.{amount_at_desk}
use Rattle.cct_host.proofs.Held.{bare_frees_is, frees_is}
use Rattle.cct_host.proofs.Places.{desk_found, desk_sits, found_at, none_at}
use Rattle.cct_host.proofs.desks.Desks.reserved_there.Goals as goal

pub returns-in-Some-clause-value : goal.returns-in-Some-clause-value
returns-in-Some-clause-value c =
    let desks = c.args.self.now in
    let setup = desks.setup.now in
    let at = found_at desks c.args.addr c.in-Some.index _ c.requires.found c.in-Some.is in
    c.worth_of.ensures.value ∙ ap (coins_of setup c.args.addr) c.coins_reserved.ensures.value
    ∙ sym (ap (amount_at_desk setup desks.sale c.args.addr)
    (desk_found setup.devices desks.devices.items _ c.args.addr c.in-Some.index c.index-deref-index.result
    c.deref.ensures.0 c.index-deref-index.is desks.many at.within at.index))

pub returns-in-Some-clause-frees : goal.returns-in-Some-clause-frees
returns-in-Some-clause-frees c past stands =
    let desks = c.args.self.now in
    let setup = desks.setup.now in
    let ks = desks.devices.items in
    let i = c.in-Some.index in
    let at = found_at desks c.args.addr i _ c.requires.found c.in-Some.is in
    let k = c.index-deref-index.result in
    let y : k ≡ get_or ks i k = c.index-deref-index.is ∙ ap (λ ls. get_or ls i k) c.deref.ensures.0 in
    frees_is setup at.device k desks.sale past c.args.addr c.worth_of.result _
    (desk_found setup.devices ks _ c.args.addr i k c.deref.ensures.0 c.index-deref-index.is desks.many at.within at.index)
    at.addr_is (c.worth_of.ensures.value ∙ ap (coins_of setup c.args.addr) c.coins_reserved.ensures.value)
    (desk_sits setup.devices ks i at.device k past at.within at.is y stands.devices)

pub returns-in-None-clause-value : goal.returns-in-None-clause-value
returns-in-None-clause-value c =
    let desks = c.args.self.now in
    c.bare_reserved.ensures
    ∙ sym (ap (amount_at_desk desks.setup.now desks.sale c.args.addr)
    (none_at desks c.args.addr _ c.requires.found c.in-None.is).1)

pub returns-in-None-clause-frees : goal.returns-in-None-clause-frees
returns-in-None-clause-frees c past stands =
    let desks = c.args.self.now in
    bare_frees_is desks.setup.now desks.sale past c.args.addr c.bare_reserved.result _
    (none_at desks c.args.addr _ c.requires.found c.in-None.is).1 c.bare_reserved.ensures stands.sale
