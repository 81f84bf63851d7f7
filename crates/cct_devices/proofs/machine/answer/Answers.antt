use Rattle.std.proofs.Common.{◌∙◌, ◌∷◌, ◌++◌, drop, length, ap, subst}
use Rattle.cct_model.specs.lines.entry.Entry.TheVariants as entry
use Rattle.cct_bus.specs.Bus as buses
use Rattle.cct_bus.proofs.Hears.{ok_fact}
use Rattle.cct_devices.proofs.machine.answer.Goals as goal

pub returns-clause-answer : goal.returns-clause-answer
returns-clause-answer c past stands =
    let count = length c.args.bytes.now in
    let said = ok_fact _ _ _ c.unwrap.ensures c.try_extend_from_slice.ensures.ok in
    said
    ∙ ap (λ front. front ++ c.after_echo.result.now) c.clear.ensures
    ∙ c.after_echo.ensures
    ∙ ap (λ whole. drop count whole) c.as_slice.ensures.value
    ∙ ap (λ whole. drop count whole) (c.exchange.ensures.1 past 0 stands).0

pub returns-clause-stands : goal.returns-clause-stands
returns-clause-stands c past stands =
    let exchanged = c.exchange.ensures.1 past 0 stands in
    subst (λ whole. buses.StandsFor c.exchange.new.self (entry.Wire 0 c.args.bytes.now whole ∷ past)) exchanged.0 exchanged.1
