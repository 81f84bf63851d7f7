use Rattle.std.proofs.Common.{◌≡◌, ◌==◌, map, if◌then◌else◌, take, drop, length}
use Rattle.cct_model_wire.proofs.device.replace_in.Given as goal

abbrev pub invariant-loop-place : goal.invariant-loop-place
invariant-loop-place l =
    (take l.place-index l.devices ≡ map (λ d. if d.addr == l.device.addr then l.device else d) (take l.place-index l.fn.devices))
    × (drop l.place-index l.devices ≡ drop l.place-index l.fn.devices)
    × (length l.devices ≡ length l.fn.devices)
