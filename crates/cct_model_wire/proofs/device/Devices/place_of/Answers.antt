use Rattle.std.proofs.Common.{◌∙◌, ◌≡◌, Some, None, ap, get_or, sym, arith}
use Rattle.std.specs.List.{position}
use Rattle.cct_model_wire.specs.Places.{is_at}
use Rattle.cct_model_wire.proofs.Places.{place_at, place_within}
use Rattle.cct_model_wire.proofs.device.Devices.place_of.Goals as goal

found : (c : goal.After-from) → position (is_at c.args.addr) c.args.self.now ≡ Some c.from.result
found c =
    ap (λ ds. position (is_at c.args.addr) ds) (sym c.self.view_is)
    ∙ sym (place_at c.self.inside.devices.items c.args.addr (omega arith))
    ∙ ap (λ table. get_or table c.args.addr None) (sym c.self.invariant.1)
    ∙ c.in-Some.is
    ∙ ap Some (sym c.from.ensures)

pub returns-in-Some-clause-first : goal.returns-in-Some-clause-first
returns-in-Some-clause-first c = sym (found c)

pub returns-in-Some-clause-within : goal.returns-in-Some-clause-within
returns-in-Some-clause-within c = place_within c.args.self.now c.args.addr c.from.result (found c)

pub returns-in-None-clause-first : goal.returns-in-None-clause-first
returns-in-None-clause-first c =
    sym (
    ap (λ ds. position (is_at c.args.addr) ds) (sym c.self.view_is)
    ∙ sym (place_at c.self.inside.devices.items c.args.addr (omega arith))
    ∙ ap (λ table. get_or table c.args.addr None) (sym c.self.invariant.1)
    ∙ c.in-None.is
    )
