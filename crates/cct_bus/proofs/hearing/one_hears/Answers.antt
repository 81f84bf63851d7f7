use Rattle.std.proofs.Common.{◌≡◌, ◌∙◌, ◌≤◌, ◌+◌, ◌++◌, List, [], None, Some, length, ap, get_or, sym, append-nil, arith, subst}
use Rattle.std.specs.List.{flat_map, position}
use Rattle.cct_model.specs.Exchange.{device_at}
use Rattle.cct_bus.specs.Device.{setups_in}
use Rattle.cct_bus.proofs.Asked.{found_heard, none_asked, room_for_one, setups_stay}
use Rattle.cct_bus.proofs.Places.{is_at, none_found}
use Rattle.cct_bus.proofs.hearing.one_hears.Goals as goal

pub put_behind-requires : goal.put_behind-requires
put_behind-requires c =
    let is = c.index-devices-index.is in
    let at = get_or c.args.devices.now c.in-Some.index c.index-devices-index.result in
    let said = c.hear.new.said.items in
    let fits : length said ≤ 260 = omega (arith, ap length c.as_slice.ensures.value) in
    let room = room_for_one c.args.piece.now said c.args.answers.now.items c.args.devices.now c.in-Some.index at
    c.index-devices-index.result c.in-Some.ensures.within (c.hear.ensures.room fits) (cc) c.requires.room in
    omega (arith, room, ap length c.as_slice.ensures.value)

pub returns-in-Some-clause-setups : goal.returns-in-Some-clause-setups
returns-in-Some-clause-setups c =
    let is = c.index-devices-index.is in
    let at = get_or c.args.devices.now c.in-Some.index c.index-devices-index.result in
    setups_stay c.args.devices.now c.in-Some.index c.hear.new.self at c.index-devices-index.result c.hear.ensures.setup (cc) is

pub returns-in-Some-clause-stand : goal.returns-in-Some-clause-stand
returns-in-Some-clause-stand c = λ history distinct stand.
    let is = c.index-devices-index.is in
    let at = get_or c.args.devices.now c.in-Some.index c.index-devices-index.result in
    (found_heard c.args.piece.now history c.args.devices.now c.in-Some.index c.hear.new.self at c.index-devices-index.result
    c.args.to c.requires.first c.requires.one (sym c.place_of.ensures.first ∙ c.in-Some.is) c.hear.ensures.setup
    c.hear.ensures.lived (cc) distinct stand).0

pub returns-in-Some-clause-answers : goal.returns-in-Some-clause-answers
returns-in-Some-clause-answers c = λ history distinct stand.
    let is = c.index-devices-index.is in
    let at = get_or c.args.devices.now c.in-Some.index c.index-devices-index.result in
    let all = found_heard c.args.piece.now history c.args.devices.now c.in-Some.index c.hear.new.self at
    c.index-devices-index.result c.args.to c.requires.first c.requires.one (sym c.place_of.ensures.first ∙ c.in-Some.is)
    c.hear.ensures.setup c.hear.ensures.lived (cc) distinct stand in
    c.put_behind.ensures
    ∙ ap (λ said. c.args.answers.now.items ++ said) (c.as_slice.ensures.value ∙ c.hear.ensures.answer _ all.2 ∙ sym all.1)

pub returns-in-None-clause-stand : goal.returns-in-None-clause-stand
returns-in-None-clause-stand c = λ history distinct stand.
    (none_asked c.args.piece.now history c.args.devices.now (λ none. c.requires.one (sym c.requires.first ∙ none))
    (ap (λ a. device_at (setups_in c.args.devices.now) a) c.requires.first
    ∙ none_found c.args.devices.now c.args.to (sym c.place_of.ensures.first ∙ c.in-None.is)) stand).0

pub returns-in-None-clause-answers : goal.returns-in-None-clause-answers
returns-in-None-clause-answers c = λ history distinct stand.
    let none = none_asked c.args.piece.now history c.args.devices.now (λ none. c.requires.one (sym c.requires.first ∙ none))
    (ap (λ a. device_at (setups_in c.args.devices.now) a) c.requires.first
    ∙ none_found c.args.devices.now c.args.to (sym c.place_of.ensures.first ∙ c.in-None.is)) stand in
    sym (append-nil c.args.answers.now.items) ∙ ap (λ said. c.args.answers.now.items ++ said) (sym none.1)
