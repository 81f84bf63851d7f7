-- Texts joined by a byte.
use Rattle.std.proofs.Common.{◌≡◌, ℕ, List, [], ◌∷◌, ◌++◌, refl, ap, sym, ◌∙◌, append_assoc}
use Rattle.std.specs.List.{join_with_byte}
use Rattle.std.proofs.lemmas.List.{append-nil}
use Rattle.cct_text.specs.Joined.{joined}

-- texts joined by a byte are the first, and the others each after the byte
pub joined_is : (byte : ℕ) (fields : List (List ℕ)) → join_with_byte byte fields ≡ joined byte fields
joined_is byte [] = refl
joined_is byte (x ∷ []) = sym (append-nil x)
joined_is byte (x ∷ y ∷ xs) = ap (λ rest. x ++ byte ∷ rest) (joined_is byte (y ∷ xs))

-- a word with two more texts, as a word and fields after it
pub masked : (text word first second : List ℕ) → text ++ (word ++ first ++ second) ≡ text ++ (word ++ (first ++ (second ++ [])))
masked text word first second =
    ap (λ added. text ++ added)
    (append_assoc word first second ∙ ap (λ rest. word ++ (first ++ rest)) (sym (append-nil second)))
