use Rattle.std.proofs.Common.{◌∙◌, ap, sym}
use Rattle.cct_model.specs.Transcript.{met}
use Rattle.cct_model.proofs.Knowing.{found_knows, of_known}
use Rattle.cct_model_wire.specs.Places.{places_of}
use Rattle.cct_bus.specs.Device.{setup_in}
use Rattle.cct_bus.proofs.Buses.{entry_stands, happening_tells, one_lived, one_stands, setup_found}
use Rattle.cct_bus.proofs.Hears.{setups_kept}
use Rattle.cct_bus.proofs.Places.{place_found}
use Rattle.cct_bus.proofs.bus.Bus.befall.Goals as goal

pub befall-requires-clause-known : goal.befall-requires-clause-known
befall-requires-clause-known c =
    let found = c.index_of-index.ensures.first in
    let is = setup_found _ _ _ c.index_mut.result.now _ c.args.self.now.order found c.index_mut.ensures.value in
    found_knows c.args.what _ _ is c.requires.there

pub invariant_of-self : goal.invariant_of-self
invariant_of-self c = record {
  order = setups_kept _ _ _ _ c.befall.ensures.setup c.index_mut.ensures.value ∙ c.args.self.now.order;
  table = c.args.self.now.table ∙ ap places_of (sym (setups_kept _ _ _ _ c.befall.ensures.setup c.index_mut.ensures.value));
  room = c.args.self.now.room;
  short = c.args.self.now.short;
}

pub returns-clause-stands : goal.returns-clause-stands
returns-clause-stands c past stands =
    let found = c.index_of-index.ensures.first in
    let is = c.index_mut.ensures.value in
    let y = c.index_mut.result.now in
    let tells = happening_tells (setup_in y) _ c.args.what past
    (ap (λ d. (setup_in d).addr) is ∙ (place_found _ _ y _ found).2) in
    of_known c.args.what _ (setup_in y) _ (setup_found _ _ _ y _ stands.order found is) c.requires.there (
      c.befall.ensures.answer _ (one_lived _ _ y _ (λ d. met d past) found is stands.devices),
      record {
        sound = stands.sound;
        order = setups_kept _ _ _ _ c.befall.ensures.setup is ∙ stands.order;
        devices = entry_stands _ _ _ _ past tells
            (one_stands _ _ _ _ _ _ _ (λ d. met d past) stands.order stands.sound found is
            c.befall.ensures.setup c.befall.ensures.lived stands.devices);
        fault = stands.fault ∙ sym tells.1;
        forged = stands.forged ∙ sym tells.2;
      },
    )
