use Rattle.std.proofs.Common.{◌≡◌}
use Rattle.cct_disk.specs.declared.file.TheConstants.{MADE_LEN}
use Rattle.cct_live.proofs.keeping.is_blank.Given as goal

-- the disk has its length
abbrev pub invariant-loop-block : goal.invariant-loop-block
invariant-loop-block g l = g.D.Disk.size l.disk ≡ MADE_LEN
