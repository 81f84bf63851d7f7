-- The line of a script that gives a command.
use Rattle.std.specs.Prelude.{ℕ, ◌^◌, ◌<◌, List, ⊤}
use Rattle.std.specs.List.{join_with_byte}
use Rattle.cct_model_lines.specs.declared.command.Command.{Command}
use Rattle.cct_model_lines.specs.declared.command.Command.TheVariants as command
use Rattle.cct_model_lines.specs.Text.{command_fields}

-- The fields of a command joined by spaces.
abbrev pub command_line : Command → List ℕ
command_line c = join_with_byte 32 (command_fields c)

-- A number fits a byte.
abbrev pub IsByte : ℕ → Type 0
IsByte n = n < 256

-- A number fits 32 bits.
abbrev pub IsWord : ℕ → Type 0
IsWord n = n < 2 ^ 32

-- The numbers of a command fit their types, as those of each command that a program holds.
abbrev pub IsTyped : Command → Type 0
IsTyped (command.Start addr mask) = IsByte addr × (mask < 2 ^ 16)
IsTyped (command.Round addr) = IsByte addr
IsTyped (command.Stop addr) = IsByte addr
IsTyped (command.Pay addr id count) = IsByte addr × IsWord id × IsByte count
IsTyped (command.Settle addr) = IsByte addr
IsTyped (command.Halt addr) = IsByte addr
IsTyped command.Scan = ⊤
IsTyped (command.Ident addr) = IsByte addr
IsTyped (command.Path addr place path) = IsByte addr × IsByte place × IsByte path
IsTyped (command.Route addr way) = IsByte addr × IsByte way
IsTyped (command.Vend id price) = IsWord id × IsWord price
