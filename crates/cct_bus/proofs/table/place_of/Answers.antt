use Rattle.std.proofs.Common.{◌∙◌, ◌≡◌, Some, ap, sym, arith}
use Rattle.std.specs.List.{position}
use Rattle.cct_bus.proofs.Places.{is_at}
use Rattle.cct_bus.proofs.Tables.{shown, shown_within}
use Rattle.cct_bus.proofs.table.place_of.Goals as goal

found : (c : goal.After-from) → position (is_at c.args.addr) c.args._devices.now ≡ Some c.from.result
found c = sym (shown c.args.places.now c.args._devices.now c.args.addr (omega arith) c.requires) ∙ c.in-Some.is ∙ ap Some (sym c.from.ensures)

pub returns-in-Some-clause-first : goal.returns-in-Some-clause-first
returns-in-Some-clause-first c = sym (found c)

pub returns-in-Some-clause-within : goal.returns-in-Some-clause-within
returns-in-Some-clause-within c = shown_within c.args._devices.now c.args.addr c.from.result (found c)

pub returns-in-None-clause-first : goal.returns-in-None-clause-first
returns-in-None-clause-first c = sym (sym (shown c.args.places.now c.args._devices.now c.args.addr (omega arith) c.requires) ∙ c.in-None.is)
