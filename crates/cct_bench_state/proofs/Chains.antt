-- Lines that are written one list after another.
use Rattle.std.proofs.Common.{◌≡◌, ℕ, ◌+◌, ◌<◌, List, [], ◌∷◌, ◌++◌, drop, flat_map, get_or, length, take, Option, Result, Err, sym, ◌∙◌, ap}
use Rattle.std.proofs.lemmas.List.{append-nil, drop_more, take-append-drop, take_more}
use Rattle.std.proofs.lemmas.List.Concat.{flat_map-append}
use Rattle.std.specs.Io.KnownBytes.{Appends}
use Rattle.std.specs.Prelude.{OnErr, OnOk}
use Rattle.cct_edge.specs.Bytes.{AppendsFront}
use Rattle.cct_edge.specs.declared.fault.Failed.{Failed}
use Rattle.cct_text.specs.Writing.{PutsLine}
use Rattle.cct_audit.specs.Writing.{WritesLines, WroteLines}
use Rattle.cct_audit.proofs.Puts as lines

module _ {K : Type 0} (written : K → Option (List ℕ)) (puts : K → List ℕ → Result (Unit {0}) Failed → K → Type 0) where
  pub writes_one : (a b : K) (line : List ℕ) (result : Result (Unit {0}) Failed)
      → PutsLine written puts a line result b → WritesLines written puts a (line ∷ []) result b
  writes_one a b line result put = lines.writes_one written puts a b line result put

  pub wrote_none : (a : K) → WroteLines written puts a a []
  wrote_none a = lines.wrote_none written puts a

  pub writes_put : (a b : K) (line : List ℕ) (result : Result (Unit {0}) Failed) → puts a line result b
      → OnOk result (Appends (written a) (written b) line) → OnErr result (AppendsFront (written a) (written b) line)
      → WritesLines written puts a (line ∷ []) result b
  writes_put a b line result one ok err = writes_one a b line result (record { one = one; ok = ok; err = err })

  -- lines were written, and a put failed in the next ones, whatever was to come
  pub broke_then : (a b c : K) (xs ys zs : List (List ℕ)) (failed : Failed) → WroteLines written puts a b xs
      → WritesLines written puts b ys (Err failed) c → WritesLines written puts a (xs ++ (ys ++ zs)) (Err failed) c
  broke_then a b c xs ys zs failed wrote broke =
      lines.writes_then written puts a b c xs (ys ++ zs) (Err failed) wrote
      (lines.writes_more written puts b c ys zs failed broke)

-- the lines of the first of a list, and of one more
pub flat_more : {X Y : Type 0} (f : X → List Y) (xs : List X) (i : ℕ) (d : X) → i < length xs
    → flat_map f (take (i + 1) xs) ≡ flat_map f (take i xs) ++ f (get_or xs i d)
flat_more f xs i d inside =
    ap (flat_map f) (take_more xs i d inside)
    ∙ flat_map-append f (take i xs) (get_or xs i d ∷ [])
    ∙ ap (λ l. flat_map f (take i xs) ++ l) (append-nil (f (get_or xs i d)))

-- those of a whole list, parted there
pub flat_parts : {X Y : Type 0} (f : X → List Y) (xs : List X) (i : ℕ) (d : X) → i < length xs
    → flat_map f xs ≡ flat_map f (take i xs) ++ (f (get_or xs i d) ++ flat_map f (drop (i + 1) xs))
flat_parts f xs i d inside =
    let whole : xs ≡ take i xs ++ get_or xs i d ∷ drop (i + 1) xs =
    sym (take-append-drop i xs) ∙ ap (λ l. take i xs ++ l) (drop_more xs i d inside) in
    ap (flat_map f) whole ∙ flat_map-append f (take i xs) (get_or xs i d ∷ drop (i + 1) xs)
