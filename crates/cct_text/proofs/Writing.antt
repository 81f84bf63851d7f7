-- What writing does to a sink, one list of entries after another.
use Rattle.std.proofs.Common.{◌≡◌, ℕ, ◌+◌, ◌<◌, List, [], ◌∷◌, ◌++◌, length, map, get_or, take, drop, Option, Result}
use Rattle.std.proofs.Common.{Ok, Err, refl, ap, sym, ◌∙◌, subst, append_assoc, inl, inr}
use Rattle.std.specs.Prelude.{OnOk, OnErr, MatchResult, IsErr, IsErrAnd}
use Rattle.std.specs.Io.KnownBytes.{Appends}
use Rattle.std.proofs.lemmas.List.{append-nil, take-append-drop, drop_more, map-append}
use Rattle.std.proofs.lemmas.List.Concat.{flat_map-append}
use Rattle.cct_edge.specs.Bytes.{AppendsFront}
use Rattle.cct_edge.specs.declared.fault.Failed.{Failed}
use Rattle.cct_edge.proofs.Chains.{Appends-nil, Appends-trans, Appends-then_front}
use Rattle.cct_model_lines.specs.declared.entry.Entry.{Entry}
use Rattle.cct_model_lines.specs.Text.{line_of, text}
use Rattle.cct_text.specs.Writing.{Puts, PutsLine, Writes, Wrote, IsNothing}

-- some puts, and then more
pub puts_then : {K : Type 0} (puts : K → List ℕ → Result (Unit {0}) Failed → K → Type 0) (a b c : K) (xs ys : List (List ℕ))
    (result : Result (Unit {0}) Failed) →
    Puts puts a xs (Ok tt) b → Puts puts b ys result c → Puts puts a (xs ++ ys) result c
puts_then puts a b c [] ys result h k = subst (λ from. Puts puts from ys result c) h.1 k
puts_then puts a b c (x ∷ xs) ys result (inl h) k = inl (h.0, h.1, puts_then puts h.0 b c xs ys result h.2 k)
puts_then puts a b c (x ∷ xs) ys result (inr h) k = cc h.1

-- puts that broke off do so whatever was to be put after
pub puts_more : {K : Type 0} (puts : K → List ℕ → Result (Unit {0}) Failed → K → Type 0) (a b : K) (xs ys : List (List ℕ))
    (failed : Failed) →
    Puts puts a xs (Err failed) b → Puts puts a (xs ++ ys) (Err failed) b
puts_more puts a b [] ys failed h = cc h.0
puts_more puts a b (x ∷ xs) ys failed (inl h) = inl (h.0, h.1, puts_more puts h.0 b xs ys failed h.2)
puts_more puts a b (x ∷ xs) ys failed (inr h) = inr h

pub wrote_none : {K : Type 0} (written : K → Option (List ℕ))
    (puts : K → List ℕ → Result (Unit {0}) Failed → K → Type 0) (a : K) → Wrote written puts a a []
wrote_none written puts a = record { put = (refl, refl); told = Appends-nil (written a) }

pub wrote_nothing : {K : Type 0} (written : K → Option (List ℕ))
    (puts : K → List ℕ → Result (Unit {0}) Failed → K → Type 0) (a : K) (xs : List Entry) →
    IsNothing xs → Wrote written puts a a xs
wrote_nothing written puts a xs none = subst (Wrote written puts a a) (sym none) (wrote_none written puts a)

told_then : (a b c : Option (List ℕ)) (xs ys : List Entry) (result : Result (Unit {0}) Failed) → Appends a b (text xs) →
    MatchResult result (λ _. Appends b c (text ys)) (λ _. AppendsFront b c (text ys)) →
    MatchResult result (λ _. Appends a c (text (xs ++ ys))) (λ _. AppendsFront a c (text (xs ++ ys)))
told_then a b c xs ys (Ok done) h k =
    subst (Appends a c) (sym (flat_map-append line_of xs ys)) (Appends-trans a b c (text xs) (text ys) h k)
told_then a b c xs ys (Err failed) h k =
    subst (AppendsFront a c) (sym (flat_map-append line_of xs ys)) (Appends-then_front a b c (text xs) (text ys) h k)

-- entries were written whole, and then more were written
pub writes_then : {K : Type 0} (written : K → Option (List ℕ))
    (puts : K → List ℕ → Result (Unit {0}) Failed → K → Type 0) (a b c : K) (xs ys : List Entry)
    (result : Result (Unit {0}) Failed) →
    Wrote written puts a b xs → Writes written puts b ys result c → Writes written puts a (xs ++ ys) result c
writes_then written puts a b c xs ys result h k = record {
  put = subst (λ lines. Puts puts a lines result c) (sym (map-append line_of xs ys))
      (puts_then puts a b c (map line_of xs) (map line_of ys) result h.put k.put);
  told = told_then (written a) (written b) (written c) xs ys result h.told k.told;
}

pub put_one : {K : Type 0} (puts : K → List ℕ → Result (Unit {0}) Failed → K → Type 0) (a b : K) (x : List ℕ)
    (result : Result (Unit {0}) Failed) → puts a x result b → Puts puts a (x ∷ []) result b
put_one puts a b x (Ok tt) h = inl (b, h, (refl, refl))
put_one puts a b x (Err failed) h = inr (failed, refl, h)

pub told_one : (a b : Option (List ℕ)) (x : List ℕ) (result : Result (Unit {0}) Failed) → OnOk result (Appends a b x)
    → OnErr result (AppendsFront a b x) →
    MatchResult result (λ _. Appends a b x) (λ _. AppendsFront a b x)
told_one a b x (Ok done) ok err = ok
told_one a b x (Err failed) ok err = err

-- one entry was written
pub writes_one : {K : Type 0} (written : K → Option (List ℕ))
    (puts : K → List ℕ → Result (Unit {0}) Failed → K → Type 0) (a b : K) (e : Entry)
    (result : Result (Unit {0}) Failed) →
    PutsLine written puts a (line_of e) result b → Writes written puts a (e ∷ []) result b
writes_one written puts a b e result put = record {
  put = put_one puts a b (line_of e) result put.one;
  told = subst (λ bytes. MatchResult result (λ _. Appends (written a) (written b) bytes)
      (λ _. AppendsFront (written a) (written b) bytes)) (sym (append-nil (line_of e)))
      (told_one (written a) (written b) (line_of e) result put.ok put.err);
}

-- writing that broke off, whatever was to be written after
pub writes_more : {K : Type 0} (written : K → Option (List ℕ)) (puts : K → List ℕ → Result (Unit {0}) Failed → K → Type 0)
    (a b : K) (xs ys : List Entry) (failed : Failed) →
    Writes written puts a xs (Err failed) b → Writes written puts a (xs ++ ys) (Err failed) b
writes_more written puts a b xs ys failed h =
    let front = h.told in
    record {
      put = subst (λ lines. Puts puts a lines (Err failed) b) (sym (map-append line_of xs ys))
          (puts_more puts a b (map line_of xs) (map line_of ys) failed h.put);
      told = subst (AppendsFront (written a) (written b)) (sym (flat_map-append line_of xs ys)) (
        front.0,
        front.1 ++ text ys,
        ap (λ bytes. bytes ++ text ys) front.2
            ∙ append_assoc front.0 front.1 (text ys),
        front.3,
      );
    }

-- the entries before the one of this index were written, and then this one
pub writes_next : {K : Type 0} (written : K → Option (List ℕ))
    (puts : K → List ℕ → Result (Unit {0}) Failed → K → Type 0) (a b c : K) (es : List Entry) (i : ℕ) (e : Entry) →
    Wrote written puts a b (take i es) → Writes written puts b (e ∷ []) (Ok tt) c
    → take (i + 1) es ≡ take i es ++ e ∷ [] → Wrote written puts a c (take (i + 1) es)
writes_next written puts a b c es i e h k more =
    subst (Wrote written puts a c) (sym more) (writes_then written puts a b c (take i es) (e ∷ []) (Ok tt) h k)

-- the put of this one failed
pub writes_broke : {K : Type 0} (written : K → Option (List ℕ))
    (puts : K → List ℕ → Result (Unit {0}) Failed → K → Type 0) (a b c : K) (es : List Entry) (i : ℕ) (e : Entry)
    (failed : Failed) →
    i < length es → e ≡ get_or es i e → Wrote written puts a b (take i es)
    → Writes written puts b (e ∷ []) (Err failed) c → Writes written puts a es (Err failed) c
writes_broke written puts a b c es i e failed inside at h k =
    let later = drop (i + 1) es in
    let whole : es ≡ (take i es ++ e ∷ []) ++ later =
    sym (take-append-drop i es) ∙ (ap (λ xs. take i es ++ xs) (drop_more es i e inside ∙ ap (λ x. x ∷ later) (sym at))
    ∙ sym (append_assoc (take i es) (e ∷ []) later)) in
    subst (λ xs. Writes written puts a xs (Err failed) c) (sym whole)
    (writes_more written puts a c (take i es ++ e ∷ []) later failed
    (writes_then written puts a b c (take i es) (e ∷ []) (Err failed) h k))

pub on_err : {T E : Type 0} (r : Result T E) (P : Type 0) → P → OnErr r P
on_err (Ok x) P h = tt
on_err (Err e) P h = h

-- an error that is passed up is the one that came
pub passes_up : {T E : Type 0} (r : Result T E) (why : E) → IsErr r × IsErrAnd r (λ e. e ≡ why) → r ≡ Err why
passes_up (Ok x) why h = absurd h.1
passes_up (Err e) why h = ap Err h.1
