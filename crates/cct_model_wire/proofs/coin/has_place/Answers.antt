use Rattle.std.proofs.Common.{◌-◌, ◌^◌, ◌/◌, eqb, ap}
use Rattle.std.proofs.lemmas.Nat.{and_mask}
use Rattle.cct_model_wire.specs.Setting.{has_place}
use Rattle.cct_model_wire.proofs.coin.has_place.Goals as goal

pub returns : goal.returns
unfolding has_place
returns c = ap (λ bit. eqb bit 1) (and_mask (c.args.mask / 2 ^ (c.args.place - 1)) 1)
