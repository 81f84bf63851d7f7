use Rattle.std.proofs.Common.{set, sym, ap, ◌∙◌}
use Rattle.cct_monitor.proofs.Positions.{looked_up_none, looked_up_nothing, looked_up_some}
use Rattle.cct_monitor.proofs.places.tap_devices.Goals as goal

pub returns-then-is_empty-clause-kept : goal.returns-then-is_empty-clause-kept
returns-then-is_empty-clause-kept c =
    sym (looked_up_nothing c.args.sent.now c.args.heard.now c.args.number c.args.devices.now.items
    (sym c.is_empty.ensures ∙ c.if-is_empty.true)).same

pub returns-then-is_empty-clause-says : goal.returns-then-is_empty-clause-says
returns-then-is_empty-clause-says c =
    c.requires.empty
    ∙ sym (looked_up_nothing c.args.sent.now c.args.heard.now c.args.number c.args.devices.now.items
    (sym c.is_empty.ensures ∙ c.if-is_empty.true)).silent

pub returns-in_default-clause-kept : goal.returns-in_default-clause-kept
returns-in_default-clause-kept c =
    sym (looked_up_none c.args.sent.now c.args.heard.now c.args.number c.args.devices.now.items c.as_slice-known.result.now
    c.place_of.result (sym c.is_empty.ensures ∙ c.if-is_empty.false) c.as_slice-known.ensures.value
    c.place_of.ensures.first c.in_default.is).same

pub returns-in_default-clause-says : goal.returns-in_default-clause-says
returns-in_default-clause-says c =
    c.requires.empty
    ∙ sym (looked_up_none c.args.sent.now c.args.heard.now c.args.number c.args.devices.now.items
    c.as_slice-known.result.now c.place_of.result (sym c.is_empty.ensures ∙ c.if-is_empty.false)
    c.as_slice-known.ensures.value c.place_of.ensures.first c.in_default.is).silent

pub returns-clause-kept : goal.returns-clause-kept
returns-clause-kept c =
    c.replace_device.ensures
    ∙ ap (set c.args.devices.now.items c.in-Some.place) c.tap-after.ensures.kept
    ∙ (looked_up_some c.args.sent.now c.args.heard.now c.args.number c.args.devices.now.items c.as_slice-known.result.now
    c.place_of.result c.in-Some.place c.device_at-device.result (sym c.is_empty.ensures ∙ c.if-is_empty.false)
    c.as_slice-known.ensures.value c.place_of.ensures.first c.in-Some.is c.device_at-device.ensures c.requires.apart).same

pub returns-clause-says : goal.returns-clause-says
returns-clause-says c =
    c.tap-after.ensures.says
    ∙ (looked_up_some c.args.sent.now c.args.heard.now c.args.number c.args.devices.now.items c.as_slice-known.result.now
    c.place_of.result c.in-Some.place c.device_at-device.result (sym c.is_empty.ensures ∙ c.if-is_empty.false)
    c.as_slice-known.ensures.value c.place_of.ensures.first c.in-Some.is c.device_at-device.ensures c.requires.apart).says
