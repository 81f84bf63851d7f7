-- A poll has five bytes.
use Rattle.std.proofs.Common.{◌≡◌, ℕ, length, refl}
use Rattle.cct_model_wire.specs.declared.wire.CheckKind.{CheckKind}
use Rattle.cct_model_wire.specs.declared.wire.CheckKind.TheVariants.{Simple, Crc}
use Rattle.cct_model_wire.specs.Message.{spelling}
use Rattle.cct_probe_plan.specs.Saying.{poll}

pub poll_length : (kind : CheckKind) (addr : ℕ) → length (poll kind addr) ≡ 5
unfolding spelling
poll_length Simple addr = refl
poll_length Crc addr = refl
