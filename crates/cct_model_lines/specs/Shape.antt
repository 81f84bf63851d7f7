-- The table of the commands: where each goes, its word, what the fields after that spell, and the
-- command of such numbers.
use Rattle.std.specs.Prelude.{ℕ, List, [], ◌∷◌, if◌then◌else◌, Option, Some, None}
use Rattle.std.specs.Prelude.{bytes_eq, codes}
use Rattle.cct_model_lines.specs.terms.coin.TheConstants.{COIN_PLACES, PATHS}
use Rattle.cct_model_lines.specs.terms.request.TheConstants.{RETURN_CODE, STACK_CODE}
use Rattle.cct_model_lines.specs.terms.wire.TheConstants.{BROADCAST, HOST}
use Rattle.cct_model_lines.specs.declared.command.Command.{Command}
use Rattle.cct_model_lines.specs.declared.command.Command.TheVariants as command
use Rattle.cct_model_lines.specs.declared.shape.Field.{Field}
use Rattle.cct_model_lines.specs.declared.shape.Field.TheVariants.{Nothing, Number, Mask}

-- A command as a line: its address, a scan being at 0 and a sale at 1; its word; what at most three
-- fields after it spell; and the command of the same word that has such numbers.
pub record Shape : Type 0 where
  pub address : ℕ
  pub word : List ℕ
  pub first : Field
  pub second : Field
  pub third : Field
  pub made : ℕ → ℕ → ℕ → Command

-- A line with an address alone.
abbrev pub addressed : List ℕ → ℕ → (ℕ → Command) → Shape
addressed word addr make = record {
  address = addr;
  word = word;
  first = Number addr 0 255;
  second = Nothing;
  third = Nothing;
  made = λ a b c. make a;
}

-- The table.
abbrev pub shape_of : Command → Shape
shape_of (command.Start addr mask) = record {
  address = addr;
  word = codes "start";
  first = Number addr 0 255;
  second = Mask mask;
  third = Nothing;
  made = λ a b c. command.Start a b;
}
shape_of (command.Round addr) = addressed (codes "round") addr command.Round
shape_of (command.Stop addr) = addressed (codes "stop") addr command.Stop
shape_of (command.Pay addr id count) = record {
  address = addr;
  word = codes "pay";
  first = Number addr 0 255;
  second = Number id 1 4294967295;
  third = Number count 1 255;
  made = command.Pay;
}
shape_of (command.Settle addr) = addressed (codes "settle") addr command.Settle
shape_of (command.Halt addr) = addressed (codes "halt") addr command.Halt
shape_of command.Scan = record {
  address = BROADCAST;
  word = codes "scan";
  first = Nothing;
  second = Nothing;
  third = Nothing;
  made = λ a b c. command.Scan;
}
shape_of (command.Ident addr) = addressed (codes "ident") addr command.Ident
shape_of (command.Path addr place path) = record {
  address = addr;
  word = codes "path";
  first = Number addr 0 255;
  second = Number place 0 COIN_PLACES;
  third = Number path 1 PATHS;
  made = command.Path;
}
shape_of (command.Route addr way) = record {
  address = addr;
  word = codes "route";
  first = Number addr 0 255;
  second = Number way RETURN_CODE STACK_CODE;
  third = Nothing;
  made = λ a b c. command.Route a b;
}
shape_of (command.Vend id price) = record {
  address = HOST;
  word = codes "vend";
  first = Number id 1 4294967295;
  second = Number price 1 1000000000;
  third = Nothing;
  made = λ a b c. command.Vend a b;
}

-- One command of each word, with any numbers.
abbrev pub commands : List Command
commands =
    command.Start 0 0 ∷ command.Round 0 ∷ command.Stop 0 ∷ command.Pay 0 0 0 ∷ command.Settle 0
    ∷ command.Halt 0
    ∷ command.Scan ∷ command.Ident 0 ∷ command.Path 0 0 0 ∷ command.Route 0 0 ∷ command.Vend 0 0
    ∷ []

-- The shape of the first of these commands that has a word.
abbrev pub shape_named : List Command → List ℕ → Option Shape
shape_named [] word = None
shape_named (c ∷ cs) word =
    if bytes_eq word (shape_of c).word then Some (shape_of c) else shape_named cs word

-- What the fields of a command spell.
abbrev pub fields_of : Command → Field × Field × Field
fields_of c = ((shape_of c).first, (shape_of c).second, (shape_of c).third)

-- The number that a field spells, 0 where there is none.
abbrev pub number_of : Field → ℕ
number_of Nothing = 0
number_of (Number number least most) = number
number_of (Mask mask) = mask
