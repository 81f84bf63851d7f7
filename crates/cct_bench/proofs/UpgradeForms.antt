-- What a whole line after `begin` is to the script of an upgrade, by how it begins.
use Rattle.std.proofs.Common.{◌≡◌, ◌≢◌, ◌==◌, ℕ, suc, arith, Bool, true, false, if◌then◌else◌, List, [], ◌∷◌, ◌++◌, take, drop, refl, ap, sym, ◌∙◌, codes}
use Rattle.std.specs.Prelude.{Err, MatchResult}
use Rattle.std.proofs.lemmas.Bool.{eqb-true, false_from_ne_true}
use Rattle.std.proofs.lemmas.List.{take-append-drop}
use Rattle.std.specs.List.{position_or_len, slice_split}
use Rattle.std.specs.Str.{bytes_eq}
use Rattle.std.specs.Cmp.Lexicographic.{bytes_decides}
use Rattle.cct_model.specs.terms.device.Setup.{Setup}
use Rattle.cct_model.specs.lines.entry.LineKind.TheVariants as kind
use Rattle.cct_model.specs.Grammar.{is_space, step_line}
use Rattle.cct_model.specs.Script.{at_end, at_steps, opens, read_form, refuses, word_of}
use Rattle.cct_script.proofs.Splits.{Begins, split_some}
use Rattle.cct_bench.specs.UpgradeScript.{behind_word, upgrade_form}

-- `end` alone
end_alone : (setup : Setup) (line : List ℕ) → line ≡ codes "end" → upgrade_form (at_steps setup) line ≡ opens (at_end setup)
unfolding read_form step_line
end_alone setup line is = ap (upgrade_form (at_steps setup)) is

-- `end` with more fields
with_fields : (setup : Setup) (rest : List ℕ) (fields : List (List ℕ)) → Begins fields → slice_split is_space rest ≡ fields
    → upgrade_form (at_steps setup) (codes "end" ++ 32 ∷ rest) ≡ refuses kind.Form
unfolding read_form step_line
with_fields setup rest fields more is = rw (is, more.2) refl

end_with_fields : (setup : Setup) (line rest : List ℕ) → line ≡ codes "end" ++ 32 ∷ rest
    → upgrade_form (at_steps setup) line ≡ refuses kind.Form
end_with_fields setup line rest is =
    ap (upgrade_form (at_steps setup)) is
    ∙ with_fields setup rest (slice_split is_space rest) (split_some is_space rest) refl

-- a longer word that begins so
longer_word : (setup : Setup) (line : List ℕ) (byte : ℕ) (rest : List ℕ) → line ≡ codes "end" ++ byte ∷ rest
    → (byte == 32) ≡ false → upgrade_form (at_steps setup) line ≡ refuses kind.Word
longer_word setup line byte rest is other =
    let all : List ℕ = codes "end" ++ byte ∷ rest in
    let more : ℕ = position_or_len is_space rest in
    let four : position_or_len is_space all ≡ suc (suc (suc (suc more))) = rw other (omega arith) in
    ap (upgrade_form (at_steps setup)) is
    ∙ ap (λ many. if bytes_eq (take many all) (codes "end") then read_form (at_steps setup) all else refuses kind.Word) four

-- a word that doesn't begin so
begins_with : (line word : List ℕ) → word_of line ≡ word → (rest : List ℕ) × (line ≡ word ++ rest)
begins_with line word is =
    let many = position_or_len is_space line in
    (drop many line, sym (take-append-drop many line) ∙ ap (λ front. front ++ drop many line) is)

pub other_word : (setup : Setup) (line : List ℕ) → ((rest : List ℕ) → line ≢ codes "end" ++ rest)
    → upgrade_form (at_steps setup) line ≡ refuses kind.Word
other_word setup line none =
    let not : bytes_eq (word_of line) (codes "end") ≡ false =
    false_from_ne_true (bytes_eq (word_of line) (codes "end"))
    (λ same. let begins = begins_with line (codes "end") ((bytes_decides (word_of line) (codes "end")).0 same) in
    none begins.0 begins.1) in
    rw not refl

-- a line by what is after the letters of `end`
rest_takes : (setup : Setup) (line : List ℕ) (byte : ℕ) (rest : List ℕ) (b : Bool) → line ≡ codes "end" ++ byte ∷ rest
    → (byte == 32) ≡ b → MatchResult (if b then Err kind.Form else Err kind.Word)
    (λ (done : Unit {0}). upgrade_form (at_steps setup) line ≡ opens (at_end setup))
    (λ why. upgrade_form (at_steps setup) line ≡ refuses why)
rest_takes setup line byte rest true is space =
    end_with_fields setup line rest (is ∙ ap (λ x. codes "end" ++ x ∷ rest) (eqb-true byte 32 space))
rest_takes setup line byte rest false is other = longer_word setup line byte rest is other

pub line_takes : (setup : Setup) (line rest : List ℕ) → line ≡ codes "end" ++ rest → MatchResult (behind_word rest)
    (λ done. upgrade_form (at_steps setup) line ≡ opens (at_end setup))
    (λ why. upgrade_form (at_steps setup) line ≡ refuses why)
line_takes setup line [] is = end_alone setup line is
line_takes setup line (byte ∷ rest) is = rest_takes setup line byte rest (byte == 32) is refl
