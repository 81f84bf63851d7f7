-- The exit statuses.
use Rattle.std.specs.Prelude.{ℕ}
use Rattle.cct_bench.specs.declared.outcome.Status.{Status}
use Rattle.cct_bench.specs.declared.outcome.Status.TheVariants.{Done, ScriptRefused, WordsRefused}
use Rattle.cct_bench.specs.declared.outcome.Status.TheVariants.{ReadFault}
use Rattle.cct_bench.specs.declared.outcome.Status.TheVariants.{WriteFault, DiskFault, NotBlank}
use Rattle.cct_bench.specs.declared.outcome.Status.TheVariants.{DiskSize}
use Rattle.cct_bench.specs.declared.outcome.Status.TheVariants.{OutOfMemory, JournalLost}
use Rattle.cct_bench.specs.declared.outcome.Status.TheVariants.{NotUpgraded}

-- The exit status of the program, by how it ended.
abbrev pub code_of : Status → ℕ
code_of Done = 0
code_of ScriptRefused = 1
code_of WordsRefused = 2
code_of ReadFault = 3
code_of WriteFault = 4
code_of DiskFault = 5
code_of NotBlank = 6
code_of DiskSize = 7
code_of OutOfMemory = 8
code_of JournalLost = 9
code_of NotUpgraded = 10
