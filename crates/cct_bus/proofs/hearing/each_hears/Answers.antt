use Rattle.std.proofs.Common.{◌≡◌, ◌∙◌, ◌<◌, ◌≤◌, ◌+◌, List, [], length, drop, get_or, ◌∷◌, ◌++◌, ap, sym, subst, arith}
use Rattle.std.specs.Prelude.{unwrap_or}
use Rattle.cct_model.specs.Exchange.{answer, asks_of}
use Rattle.cct_model.specs.History.{Met, heard}
use Rattle.cct_bus.specs.Device.{Lived, Stands, setup_in}
use Rattle.cct_bus.specs.Room.{most_said}
use Rattle.cct_bus.proofs.Hears.{answers_all, answers_more, hearing, later_kept, rest_is, room_left, setups_kept, stand_all, stand_more}
use Rattle.cct_bus.proofs.hearing.each_hears.Goals as goal

pub loop-device-preserved : goal.loop-device-preserved
loop-device-preserved c =
    let i = c.loop-device.device-index in
    let devices = c.loop-device.devices in
    let all = c.args.devices.now in
    let piece = c.args.piece.now in
    let before = c.loop-device.answers.items in
    let said = c.hear.new.said.items in
    let after = c.put_behind.new.answers.items in
    let y = c.device-item.result in
    let x = c.hear.new.self in
    let is : y ≡ get_or devices i y = c.device-item.is in
    let same : x.setup ≡ y.setup = c.hear.ensures.setup ∙ ap (λ d. d.setup) (sym is) in
    let hears : (past : List Met) → Lived y past → Lived x (heard (asks_of (setup_in y) piece) ∷ past) =
    subst (λ d. (past : List Met) → Lived d past → Lived x (heard (asks_of (setup_in d) piece) ∷ past)) (sym is) c.hear.ensures.lived in
    let says : (past : List Met) → Lived y past → said ≡ unwrap_or (answer (setup_in y) past piece) [] =
    subst (λ d. (past : List Met) → Lived d past → said ≡ unwrap_or (answer (setup_in d) past piece) []) (sym is) c.hear.ensures.answer in
    let fits : length said ≤ 260 = omega (arith, ap length c.as_slice.ensures.value) in
    let short : length said ≤ most_said (setup_in y).addr piece = subst (λ d. length said ≤ most_said (setup_in d).addr piece) (sym is) (c.hear.ensures.room fits) in
    let within : i < length devices = omega arith in
    let rest : drop i all ≡ y ∷ drop (i + 1) all = rest_is devices all i y within is c.loop-device.invariant.later in
    let more : after ≡ before ++ said = c.put_behind.ensures ∙ ap (λ bytes. before ++ bytes) c.as_slice.ensures.value in
    record {
      setups = setups_kept devices i x y same is ∙ c.loop-device.invariant.setups;
      later = later_kept devices all i x c.loop-device.invariant.later;
      room = room_left all i y piece before said after rest c.loop-device.invariant.room short more;
      stand = λ history stand. stand_more devices all i x y piece history within same rest hears stand (c.loop-device.invariant.stand history stand);
      answers = λ history stand. answers_more all i y piece before said after _ history rest says stand more (c.loop-device.invariant.answers history stand);
    }

pub returns-clause-stand : goal.returns-clause-stand
returns-clause-stand c history stand =
    stand_all (Stands (hearing c.args.piece.now history)) c.loop-device.devices c.loop-device.device-index (omega arith) (c.loop-device.invariant.stand history stand)

pub returns-clause-answers : goal.returns-clause-answers
returns-clause-answers c history stand =
    answers_all c.args.devices.now c.loop-device.device-index c.args.piece.now c.loop-device.answers.items _ history c.loop-device-test.false (c.loop-device.invariant.answers history stand)
