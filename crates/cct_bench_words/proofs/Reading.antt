-- What the matches of a parse hold, by its rows.
use Rattle.std.proofs.Common.{◌≡◌, refl, sym, ap₂, List, map, Option, Some, None, option_map, codes}
use Rattle.std.specs.Prelude.{Box, String, string_bytes}
use Rattle.std.specs.List.{list_any}
use Rattle.std.specs.declared.alloc.Global.{Global}
use Rattle.std.specs.Box.{box_value}
use Rattle.clap.specs.Matches.{first_value}
use Rattle.clap.specs.Simple.{subcommand_rows}
use Rattle.clap.specs.Walk.{Row, Text, rows_of}
use Rattle.clap.specs.declared.parser.matches.ArgMatches.TheViews.{out-SubCommand}
use Rattle.clap.specs.declared.parser.matches.Found.{Found}
use Rattle.clap.specs.declared.parser.matches.SubCommand.{SubCommand}
use Rattle.clap.proofs.WalkLemmas.{first_value-rows, list_any-map}
use Rattle.cct_bench_words.specs.Said.{is_dashed, load_by, load_in}

-- whether one of the words begins with a hyphen, by their texts
pub dashes_told : (words : List (String Global))
    → list_any is_dashed (map string_bytes words) ≡ list_any (λ word. is_dashed (string_bytes word)) words
dashes_told words = sym (list_any-map is_dashed string_bytes words)

-- the load that matches say, by what their getters read
pub load_reads : (found : Found)
    → load_in (rows_of found) ≡ load_by (first_value found (codes "seed")) (first_value found (codes "rounds"))
load_reads found =
    ap₂ load_by (sym (first_value-rows found (codes "seed"))) (sym (first_value-rows found (codes "rounds")))

module _ {Z : Type 0} where
  -- a subcommand by its name and its rows
  pub met_some : (sub : Option (Box SubCommand Z)) (name : Text) (rows : List Row)
      → Some name ≡ option_map (λ b. (out-SubCommand (box_value b)).name.now) sub
      → Some rows ≡ option_map (λ p. p.1) (subcommand_rows sub)
      → subcommand_rows sub ≡ Some (name, rows)
  met_some None name rows is_name is_rows = absurd (clash is_name)
    where
      clash : Some name ≡ None → ⊥
      clash e = cc
  met_some (Some b) name rows is_name is_rows = cc

  -- no subcommand, where there is no name of one
  pub met_none : (sub : Option (Box SubCommand Z))
      → None ≡ option_map (λ b. (out-SubCommand (box_value b)).name.now) sub → subcommand_rows sub ≡ None
  met_none None no_name = refl
  met_none (Some b) no_name = absurd (clash no_name)
    where
      clash : None ≡ Some (out-SubCommand (box_value b)).name.now → ⊥
      clash e = cc
