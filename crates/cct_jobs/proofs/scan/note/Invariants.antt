use Rattle.std.proofs.Common.{◌≡◌, ℕ, ◌==◌, ◌&&◌, ◌||◌, take}
use Rattle.std.specs.Prelude.{nat_le}
use Rattle.std.specs.List.{list_any}
use Rattle.cct_model.specs.DeviceSet.{has}
use Rattle.cct_jobs.proofs.scan.note.Given as goal

abbrev pub invariant-loop-byte : goal.invariant-loop-byte
invariant-loop-byte l = (addr : ℕ) → has l.due addr ≡ ((nat_le 2 addr && list_any (λ byte. byte == addr) (take l.byte-index l.bytes)) || has l.initial.due addr)
