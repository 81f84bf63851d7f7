-- A command is read back from its fields, whatever is after them, and none of them has a space. What is said of each
-- command is what the table says: its word is its own, and its numbers make it.
use Rattle.std.proofs.Common.{◌≡◌, ℕ, true, List, ◌++◌, Some, refl, ap, ◌∙◌, append_assoc}
use Rattle.cct_model_lines.specs.declared.command.Command.{Command}
use Rattle.cct_model_lines.specs.declared.command.Command.TheVariants as command
use Rattle.cct_model_lines.specs.declared.shape.Field.{Field}
use Rattle.cct_model_lines.specs.declared.shape.Field.TheVariants.{Nothing, Number, Mask}
use Rattle.cct_model_lines.specs.Shape.{Shape, commands, number_of, shape_named, shape_of}
use Rattle.cct_model_lines.specs.Grammar.{◌>>=◌}
use Rattle.cct_model_lines.specs.Text.{command_fields, field_texts}
use Rattle.cct_text.specs.Reading.{command_in, number_first, ordered_by}
use Rattle.cct_text.specs.Written.{IsField, IsCommand}
use Rattle.cct_text.proofs.Back.{mask_back}
use Rattle.cct_text.proofs.Cuts.{all_above, EachAbove, each_append, mask_above, number_field}
use Rattle.cct_text.proofs.Numbers.{number_back}

-- the table

-- a field like this one with the number 0
abbrev blank : Field → Field
blank Nothing = Nothing
blank (Number number least most) = Number 0 least most
blank (Mask mask) = Mask 0

abbrev plain : Shape → ℕ → Shape
plain s address = record {
  address = address;
  word = s.word;
  first = blank s.first;
  second = blank s.second;
  third = blank s.third;
  made = s.made;
}

-- what the table says of a command: the first of its word has the same fields, with zeros, and gives commands as this one;
-- its numbers make it
record Known (c : Command) : Type 0 where
  address : ℕ
  found : shape_named commands (shape_of c).word ≡ Some (plain (shape_of c) address)
  made : (shape_of c).made (number_of (shape_of c).first) (number_of (shape_of c).second) (number_of (shape_of c).third) ≡ c
  above : all_above 32 (shape_of c).word ≡ true

known : (c : Command) → Known c
known (command.Start addr mask) = record { address = _; found = refl; made = refl; above = refl }
known (command.Round addr) = record { address = _; found = refl; made = refl; above = refl }
known (command.Stop addr) = record { address = _; found = refl; made = refl; above = refl }
known (command.Pay addr id count) = record { address = _; found = refl; made = refl; above = refl }
known (command.Settle addr) = record { address = _; found = refl; made = refl; above = refl }
known (command.Halt addr) = record { address = _; found = refl; made = refl; above = refl }
known command.Scan = record { address = _; found = refl; made = refl; above = refl }
known (command.Ident addr) = record { address = _; found = refl; made = refl; above = refl }
known (command.Path addr place path) = record { address = _; found = refl; made = refl; above = refl }
known (command.Route addr way) = record { address = _; found = refl; made = refl; above = refl }
known (command.Vend id price) = record { address = _; found = refl; made = refl; above = refl }

-- a field

field_back : (f : Field) (rest : List (List ℕ)) → IsField f
    → number_first (blank f) (field_texts f ++ rest) ≡ Some (number_of f, rest)
field_back Nothing rest h = refl
field_back (Number number least most) rest h = ap (λ n. Some (n, rest)) (number_back number)
field_back (Mask mask) rest h = ap (λ n. Some (n, rest)) (mask_back mask h)

field_above : (f : Field) → IsField f → EachAbove 32 (field_texts f)
field_above Nothing h = tt
field_above (Number number least most) h = (number_field number, tt)
field_above (Mask mask) h = (mask_above mask h, tt)

-- three of them

three_back : (s : Shape) (address : ℕ) (rest : List (List ℕ)) → IsField s.first → IsField s.second → IsField s.third
    → ordered_by (plain s address) (field_texts s.first ++ (field_texts s.second ++ (field_texts s.third ++ rest)))
    ≡ Some (s.made (number_of s.first) (number_of s.second) (number_of s.third), rest)
three_back s address rest a b c =
    rw (field_back s.first (field_texts s.second ++ (field_texts s.third ++ rest)) a)
    (rw (field_back s.second (field_texts s.third ++ rest) b) (rw (field_back s.third rest c) refl))

regroup : (x y z rest : List (List ℕ)) → (x ++ y ++ z) ++ rest ≡ x ++ (y ++ (z ++ rest))
regroup x y z rest = append_assoc (x ++ y) z rest ∙ append_assoc x y (z ++ rest)

-- a command

pub command_back : (c : Command) (rest : List (List ℕ)) → IsCommand c → command_in (command_fields c ++ rest) ≡ Some (c, rest)
command_back c rest h =
    let s = shape_of c in
    let fields = field_texts s.first ++ field_texts s.second ++ field_texts s.third in
    ap (λ o. o >>= (λ s. ordered_by s (fields ++ rest))) (known c).found
    ∙ ap (ordered_by (plain s (known c).address)) (regroup (field_texts s.first) (field_texts s.second) (field_texts s.third) rest)
    ∙ three_back s (known c).address rest h.0 h.1 h.2
    ∙ ap (λ c. Some (c, rest)) (known c).made

pub command_above : (c : Command) → IsCommand c → EachAbove 32 (command_fields c)
command_above c h =
    let s = shape_of c in (
      (known c).above,
      each_append 32 (field_texts s.first ++ field_texts s.second) (field_texts s.third)
          (each_append 32 (field_texts s.first) (field_texts s.second) (field_above s.first h.0) (field_above s.second h.1))
          (field_above s.third h.2),
    )
