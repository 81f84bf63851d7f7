use Rattle.std.proofs.Common.{ap, refl, ◌∙◌}
use Rattle.cct_monitor.specs.declared.watched.Watched.{Watched}
use Rattle.cct_monitor.specs.Places.{put_watched}
use Rattle.cct_monitor.specs.Watches.{Watch}
use Rattle.cct_monitor.proofs.Monitors.{watch_addresses, watch_apart, watch_more, watch_stands}
use Rattle.cct_monitor.proofs.monitor.Monitor.watch.Goals as goal

pub invariant_of-self : goal.invariant_of-self
invariant_of-self c = record {
  apart = watch_apart c.new.result c.args.addr c.args.self.now.devices.items c.put_device.new.devices.items
      (ap (λ (w : Watched). w.addr) c.new.ensures) c.put_device.ensures c.requires.new_address c.args.self.now.apart;
}

pub returns-clause-devices : goal.returns-clause-devices
returns-clause-devices c =
    watch_more c.new.result c.args.self.now.devices.items c.put_device.new.devices.items c.put_device.ensures

pub returns-clause-addresses : goal.returns-clause-addresses
returns-clause-addresses c = λ other.
    watch_addresses c.new.result c.args.addr other c.args.self.now.devices.items c.put_device.new.devices.items
    (ap (λ (w : Watched). w.addr) c.new.ensures) c.put_device.ensures

pub returns-clause-stands : goal.returns-clause-stands
returns-clause-stands c = λ past stands.
    let w : Watch = record { addr = c.args.addr; kind = c.args.kind; family = c.args.family } in
    watch_stands w past c.args.self.now _ stands refl
    (c.put_device.ensures ∙ ap (λ (v : Watched). put_watched v c.args.self.now.devices.items) c.new.ensures)
