-- What writing does to a sink, one list of lines after another.
use Rattle.std.proofs.Common.{◌≡◌, ℕ, ◌+◌, ◌<◌, List, [], ◌∷◌, ◌++◌, length, map, get_or, take, drop, Option, Result}
use Rattle.std.proofs.Common.{Ok, Err, refl, ap, sym, ◌∙◌, subst, append_assoc, inl, inr}
use Rattle.std.specs.Prelude.{OnOk, OnErr, MatchResult, IsErr, IsErrAnd}
use Rattle.std.specs.Io.KnownBytes.{Appends}
use Rattle.std.proofs.lemmas.List.{append-nil, take-append-drop, drop_more}
use Rattle.std.proofs.lemmas.List.Concat.{flat_map-append}
use Rattle.cct_edge.specs.Bytes.{AppendsFront}
use Rattle.cct_edge.proofs.Chains.{Appends-nil, Appends-trans, Appends-then_front}
use Rattle.cct_edge.specs.declared.fault.Failed.{Failed}
use Rattle.cct_model.specs.lines.entry.Entry.{Entry}
use Rattle.cct_model.specs.Text.{line_of}
use Rattle.cct_text.specs.Writing.{Puts, PutsLine, Writes}
use Rattle.cct_audit.specs.Writing.{NoLine, WritesLines, WroteLines, bytes_of}
use Rattle.cct_text.proofs.Writing.{put_one, puts_more, puts_then, told_one}

pub wrote_none : {K : Type 0} (written : K → Option (List ℕ))
    (puts : K → List ℕ → Result (Unit {0}) Failed → K → Type 0) (a : K) → WroteLines written puts a a []
wrote_none written puts a = record { put = (refl, refl); told = Appends-nil (written a) }

pub wrote_nothing : {K : Type 0} (written : K → Option (List ℕ))
    (puts : K → List ℕ → Result (Unit {0}) Failed → K → Type 0) (a : K) (xs : List (List ℕ)) →
    NoLine xs → WroteLines written puts a a xs
wrote_nothing written puts a xs none = subst (WroteLines written puts a a) (sym none) (wrote_none written puts a)

told_then : (a b c : Option (List ℕ)) (xs ys : List (List ℕ)) (result : Result (Unit {0}) Failed) → Appends a b (bytes_of xs) →
    MatchResult result (λ _. Appends b c (bytes_of ys)) (λ _. AppendsFront b c (bytes_of ys)) →
    MatchResult result (λ _. Appends a c (bytes_of (xs ++ ys))) (λ _. AppendsFront a c (bytes_of (xs ++ ys)))
told_then a b c xs ys (Ok done) h k =
    subst (Appends a c) (sym (flat_map-append (λ (line : List ℕ). line) xs ys)) (Appends-trans a b c (bytes_of xs) (bytes_of ys) h k)
told_then a b c xs ys (Err failed) h k =
    subst (AppendsFront a c) (sym (flat_map-append (λ (line : List ℕ). line) xs ys)) (Appends-then_front a b c (bytes_of xs) (bytes_of ys) h k)

-- lines were written whole, and then more were written
pub writes_then : {K : Type 0} (written : K → Option (List ℕ))
    (puts : K → List ℕ → Result (Unit {0}) Failed → K → Type 0) (a b c : K) (xs ys : List (List ℕ))
    (result : Result (Unit {0}) Failed) →
    WroteLines written puts a b xs → WritesLines written puts b ys result c → WritesLines written puts a (xs ++ ys) result c
writes_then written puts a b c xs ys result h k = record {
  put = puts_then puts a b c xs ys result h.put k.put;
  told = told_then (written a) (written b) (written c) xs ys result h.told k.told;
}

-- one line was written
pub writes_one : {K : Type 0} (written : K → Option (List ℕ))
    (puts : K → List ℕ → Result (Unit {0}) Failed → K → Type 0) (a b : K) (e : List ℕ)
    (result : Result (Unit {0}) Failed) →
    PutsLine written puts a e result b → WritesLines written puts a (e ∷ []) result b
writes_one written puts a b e result put = record {
  put = put_one puts a b e result put.one;
  told = subst (λ bytes. MatchResult result (λ _. Appends (written a) (written b) bytes)
      (λ _. AppendsFront (written a) (written b) bytes)) (sym (append-nil e))
      (told_one (written a) (written b) e result put.ok put.err);
}

-- writing that broke off, whatever was to be written after
pub writes_more : {K : Type 0} (written : K → Option (List ℕ)) (puts : K → List ℕ → Result (Unit {0}) Failed → K → Type 0)
    (a b : K) (xs ys : List (List ℕ)) (failed : Failed) →
    WritesLines written puts a xs (Err failed) b → WritesLines written puts a (xs ++ ys) (Err failed) b
writes_more written puts a b xs ys failed h =
    let front = h.told in
    record {
      put = puts_more puts a b xs ys failed h.put;
      told = subst (AppendsFront (written a) (written b)) (sym (flat_map-append (λ (line : List ℕ). line) xs ys)) (
        front.0,
        front.1 ++ bytes_of ys,
        ap (λ bytes. bytes ++ bytes_of ys) front.2
            ∙ append_assoc front.0 front.1 (bytes_of ys),
        front.3,
      );
    }

-- the lines before the one of this index were written, and then this one
pub writes_next : {K : Type 0} (written : K → Option (List ℕ))
    (puts : K → List ℕ → Result (Unit {0}) Failed → K → Type 0) (a b c : K) (es : List (List ℕ)) (i : ℕ) (e : List ℕ) →
    WroteLines written puts a b (take i es) → WritesLines written puts b (e ∷ []) (Ok tt) c
    → take (i + 1) es ≡ take i es ++ e ∷ [] → WroteLines written puts a c (take (i + 1) es)
writes_next written puts a b c es i e h k more =
    subst (WroteLines written puts a c) (sym more) (writes_then written puts a b c (take i es) (e ∷ []) (Ok tt) h k)

-- the put of this one failed
pub writes_broke : {K : Type 0} (written : K → Option (List ℕ))
    (puts : K → List ℕ → Result (Unit {0}) Failed → K → Type 0) (a b c : K) (es : List (List ℕ)) (i : ℕ) (e : List ℕ)
    (failed : Failed) →
    i < length es → e ≡ get_or es i e → WroteLines written puts a b (take i es)
    → WritesLines written puts b (e ∷ []) (Err failed) c → WritesLines written puts a es (Err failed) c
writes_broke written puts a b c es i e failed inside at h k =
    let later = drop (i + 1) es in
    let whole : es ≡ (take i es ++ e ∷ []) ++ later =
    sym (take-append-drop i es) ∙ (ap (λ xs. take i es ++ xs) (drop_more es i e inside ∙ ap (λ x. x ∷ later) (sym at))
    ∙ sym (append_assoc (take i es) (e ∷ []) later)) in
    subst (λ xs. WritesLines written puts a xs (Err failed) c) (sym whole)
    (writes_more written puts a c (take i es ++ e ∷ []) later failed
    (writes_then written puts a b c (take i es) (e ∷ []) (Err failed) h k))

-- the line of one entry was written
pub writes_entry : {K : Type 0} (written : K → Option (List ℕ))
    (puts : K → List ℕ → Result (Unit {0}) Failed → K → Type 0) (a b : K) (e : Entry) (result : Result (Unit {0}) Failed) →
    Writes written puts a (e ∷ []) result b → WritesLines written puts a (line_of e ∷ []) result b
writes_entry written puts a b e result h = record { put = h.put; told = h.told }
