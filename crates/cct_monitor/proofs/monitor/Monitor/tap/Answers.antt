use Rattle.std.proofs.Common.{◌+◌, length, ap, refl, ◌∙◌}
use Rattle.std.specs.List.{list_any}
use Rattle.cct_monitor.specs.Places.{are_apart, has_addr}
use Rattle.cct_audit_taps.specs.Taps.{tap_of}
use Rattle.cct_monitor.proofs.Monitors.{tap_stands, tap_told}
use Rattle.cct_monitor.proofs.Positions.{any_on, apart_on, length_on}
use Rattle.cct_monitor.proofs.monitor.Monitor.tap.Goals as goal

pub invariant_of-self : goal.invariant_of-self
invariant_of-self c = record {
  apart = ap are_apart c.tap_devices.ensures.kept
      ∙ apart_on (tap_of c.args.sent.now c.args.heard.now) (c.args.self.now.taps + 1) c.args.self.now.devices.items
      ∙ c.args.self.now.apart;
}

pub returns-clause-devices : goal.returns-clause-devices
returns-clause-devices c =
    ap length c.tap_devices.ensures.kept
    ∙ length_on (tap_of c.args.sent.now c.args.heard.now) (c.args.self.now.taps + 1) c.args.self.now.devices.items

pub returns-clause-addresses : goal.returns-clause-addresses
returns-clause-addresses c = λ addr.
    ap (list_any (has_addr addr)) c.tap_devices.ensures.kept
    ∙ any_on (tap_of c.args.sent.now c.args.heard.now) (c.args.self.now.taps + 1) addr c.args.self.now.devices.items

pub returns-clause-stands : goal.returns-clause-stands
returns-clause-stands c = λ past stands.
    tap_stands (tap_of c.args.sent.now c.args.heard.now) past c.args.self.now _ stands refl c.tap_devices.ensures.kept

pub returns-clause-says : goal.returns-clause-says
returns-clause-says c = λ past stands.
    tap_told (tap_of c.args.sent.now c.args.heard.now) past c.args.self.now (c.args.self.now.taps + 1)
    c.tap_devices.new.report.items stands refl c.tap_devices.ensures.says
