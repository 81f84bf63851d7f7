use Rattle.std.proofs.Common.{◌∙◌, sym, ap, length, take, drop, ◌-◌}
use Rattle.cct_model.specs.Change.{trays_of}
use Rattle.cct_model.specs.Exchange.{by_address}
use Rattle.cct_host_change.specs.Trays.{put_tray}
use Rattle.cct_host_change.proofs.InOrder.{added_none, added_one, first_apart}
use Rattle.cct_host_change.proofs.trays.+add_trays.Goals as goal

pub returns-in-Some-clause-trays : goal.returns-in-Some-clause-trays
returns-in-Some-clause-trays t c =
    let devices = c.args.devices.now in
    let first = c.first-item.result in
    let tray = c.in-Some.tray in
    c.put.ensures.trays ∙ ap (put_tray tray) c.add_trays.ensures.trays
    ∙ sym (added_one first (take (length devices - 1) (drop 1 devices)) tray c.in-Some.ensures.trays c.in-Some.ensures.there)
    ∙ ap (λ ds. trays_of (by_address ds)) (sym (first_apart devices first c.in-len1-up.len_at_least c.first-item.is))

pub returns-in_default-clause-trays : goal.returns-in_default-clause-trays
returns-in_default-clause-trays t c =
    let devices = c.args.devices.now in
    let first = c.first-item.result in
    c.add_trays.ensures.trays
    ∙ sym (added_none first (take (length devices - 1) (drop 1 devices)) c.in_default.ensures.trays)
    ∙ ap (λ ds. trays_of (by_address ds)) (sym (first_apart devices first c.in-len1-up.len_at_least c.first-item.is))
