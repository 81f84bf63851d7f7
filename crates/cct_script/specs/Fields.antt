-- The fields of a line, and what is read from them.
use Rattle.std.specs.Prelude.{◌≡◌, ℕ, List, [], Option, Some, None, IfSome}
use Rattle.std.specs.List.{slice_split}
use Rattle.std.specs.Borrow.{Bor}
use Rattle.cct_model_lines.specs.Grammar.{is_space}

-- The fields after a space, or none where there is no space.
abbrev pub fields_after : Option (Bor (List ℕ)) → List (List ℕ)
fields_after None = []
fields_after (Some rest) = slice_split is_space rest.now

-- What was read is what the grammar says, and where that is something, it is in range.
pub record Reads {T : Type 0} (result said : Option T) (InRange : T → Type 0) : Type 0 where
  pub reads : result ≡ said
  pub ranged : IfSome result InRange

-- What was read, by the answer and what stands then in the room for it.
abbrev pub read_into : {T : Type 0} → Option (Unit {0}) → T → Option T
read_into (Some done) new = Some new
read_into None new = None

-- What was read into a room is what the grammar says, and where that is something, it is in range.
pub record Sets {T : Type 0} (result : Option (Unit {0})) (new : T) (said : Option T)
    (InRange : T → Type 0) : Type 0 where
  pub reads : read_into result new ≡ said
  pub ranged : IfSome result (λ done. InRange new)
