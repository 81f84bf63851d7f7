use Rattle.std.proofs.Common.{refl}
use Rattle.cct_host.proofs.Places.{found_within}
use Rattle.cct_host.proofs.desks.Desks.find.Goals as goal

pub returns : goal.returns
returns c = record {
  is = c.place_of.ensures.first;
  within = found_within c.args.self.now _ c.place_of.result refl c.place_of.ensures.within;
}
