-- The bytes that the reader of lines holds, as a part of its buffer.
use Rattle.std.proofs.Common.{◌≡◌, ◌≢◌, ℕ, ◌+◌, ◌-◌, ◌≤◌, ◌<◌, subst, List, [], ◌++◌, length, take, drop, refl, ap}
use Rattle.std.proofs.Common.{sym, ◌∙◌, arith, append_assoc, Option, Some, None, Result, Ok, Err}
use Rattle.std.specs.Prelude.{slice_range}
use Rattle.std.proofs.lemmas.List.{drop-take, length-take-le, take-append-le, drop-drop, length-drop, take_at}
use Rattle.std.proofs.lemmas.List.{append-nil, length-append}
use Rattle.std.proofs.Math.Seq.{take-append-add}
use Rattle.std.proofs.lemmas.Slice.{between_from_start}
use Rattle.std.proofs.lemmas.Bool.{false≢true}
use borrow.Rule.Slice.PartMut.{put_mid}
use Rattle.std.specs.Result.{IsErr, MatchResult}
use Rattle.std.specs.List.{position}
use Rattle.cct_model_lines.specs.declared.entry.TheConstants.{MOST_LINE}
use Rattle.cct_model_lines.specs.Script.{is_line_feed}
use Rattle.cct_edge.specs.Bytes.{Serves, TellsAsBefore}
use Rattle.cct_edge.proofs.Chains.{Consumes-nil, Consumes-trans}
use Rattle.std.specs.Io.KnownBytes.{Consumes, Keeps}
use Rattle.cct_edge.specs.declared.fault.Failed.{Failed}
use Rattle.cct_script.specs.Window.{Fills}
use Rattle.cct_script.specs.Taking.{TakesOn, TakesUntilFault, no_take, take_more}

-- bytes given up at the front
pub held-drop : (bytes : List ℕ) (start count end : ℕ) → start + count ≤ end →
    slice_range bytes (start + count) end ≡ drop count (slice_range bytes start end)
held-drop bytes start count end fits =
    let rest : ℕ = end - (start + count) in
    let e : end - start ≡ count + rest = omega arith in
    rw (e, drop-take count rest (drop start bytes), drop-drop count start bytes) refl

take_front : (front more : List ℕ) (k n : ℕ) → length front ≡ k → take (k + n) (front ++ more) ≡ front ++ take n more
take_front front more k n e = rw (← e) (take-append-add front more n)

-- bytes that came after the held ones, which stand at the front
pub held-filled : (copied room : List ℕ) (k size n : ℕ) → k ≤ length copied → n ≤ length room →
    slice_range (put_mid k size copied room) 0 (k + n) ≡ take k copied ++ take n room
held-filled copied room k size n fits few =
    between_from_start _ (k + n) ∙ take_front (take k copied) _ k n (length-take-le k copied fits)
    ∙ ap (λ xs. take k copied ++ xs) (take-append-le n room _ few)

-- the held bytes alone, with none after them
pub held-copied : (copied room : List ℕ) (k size : ℕ) → k ≤ length copied →
    slice_range (put_mid k size copied room) 0 k ≡ take k copied
held-copied copied room k size fits =
    between_from_start _ k ∙ take_at (take k copied) _ k (length-take-le k copied fits)

pub length-held : (bytes : List ℕ) (start end : ℕ) → start ≤ end → end ≤ length bytes →
    length (slice_range bytes start end) ≡ end - start
length-held bytes start end ordered fits =
    length-take-le (end - start) (drop start bytes) (omega (arith, length-drop start bytes))

-- what a search for a line keeps: the source gave what came, and showed its bytes, or not, as
-- before; a fault came only by its count
module _ {S : Type 0} (left : S → Option (List ℕ)) (faults : S → ℕ) where
  pub record Seeks (held0 held : List ℕ) (source0 source : S) : Type 0 where
    pub fills : Fills held0 held (left source0) (left source)
    pub tells : TellsAsBefore (left source0) (left source)
    pub later : faults source0 ≤ faults source
    pub still : position is_line_feed held0 ≢ None → (source ≡ source0) × (held ≡ held0)

  pub seeks-begin : (held : List ℕ) (source : S) → Seeks held held source source
  seeks-begin held source = record {
    fills = ([], sym (append-nil held), Consumes-nil (left source));
    tells = refl;
    later = omega arith;
    still = λ some. (refl, refl);
  }

pub fills-trans : (a b c : List ℕ) (x y z : Option (List ℕ)) → Fills a b x y → Fills b c y z → Fills a c x z
fills-trans a b c x y z h k = (
  h.0 ++ k.0,
  k.1 ∙ ap (λ xs. xs ++ k.0) h.1 ∙ append_assoc a h.0 k.0,
  Consumes-trans x y z h.0 k.0 h.2 k.2,
)

-- bytes held without a line feed, which leave room for more
pub record IsPart (held : List ℕ) : Type 0 where
  pub none : position is_line_feed held ≡ None
  pub room : length held < MOST_LINE + 1

-- bytes are such a part if they were lent, searched in vain, and didn't fill the room
pub part_held : (held lent : List ℕ) → lent ≡ held → None ≡ position is_line_feed lent → length lent ≤ MOST_LINE + 1 →
    length lent ≢ MOST_LINE + 1 → IsPart held
part_held held lent is searched fits other = record {
  none = ap (position is_line_feed) (sym is) ∙ sym searched;
  room = let same : length lent ≡ length held = ap length is in omega (arith, same, fits, other);
}

module _ {S : Type 0} (left : S → Option (List ℕ)) (faults : S → ℕ) where
  pub seeks-on : (held0 held1 held2 : List ℕ) (source0 source1 source2 : S) (Fails : Type 0) →
      Seeks left faults held0 held1 source0 source1 → Fills held1 held2 (left source1) (left source2) →
      Serves left faults source1 source2 Fails → IsPart held1 → Seeks left faults held0 held2 source0 source2
  seeks-on held0 held1 held2 source0 source1 source2 Fails h fills serves part = record {
    fills = fills-trans held0 held1 held2 _ _ _ h.fills fills;
    tells = serves.tells ∙ h.tells;
    later = omega (arith, serves.later, h.later);
    still = λ some. absurd (some (ap (position is_line_feed) (sym (h.still some).1) ∙ part.none));
  }

-- a call that left the known bytes as they were took none
pub consumes-keeps : (a b : Option (List ℕ)) → Keeps a b → Consumes a b []
consumes-keeps None b h = tt
consumes-keeps (Some xs) None h = absurd h
consumes-keeps (Some xs) (Some ys) h = sym h

module _ {S : Type 0} (takes : S → ℕ → Result ℕ Failed → S → Type 0) (left : S → Option (List ℕ)) where
  -- one more take, of so many bytes, after those that were made
  pub takes-on : (held0 held1 held2 : List ℕ) (source0 source1 source2 : S) (n : ℕ) →
      TakesOn takes left held0 source0 held1 source1 → IsPart held1 →
      takes source1 (MOST_LINE + 1 - length held1) (Ok n) source2 →
      Fills held1 held2 (left source1) (left source2) → length held2 ≡ length held1 + n →
      TakesOn takes left held0 source0 held2 source2
  takes-on held0 held1 held2 source0 source1 source2 n h part one fills count =
      let whole : length held2 ≡ length held1 + length fills.0 = ap length fills.1 ∙ length-append held1 fills.0 in
      let few : n ≡ length fills.0 = omega arith in
      let brought = subst (λ k. takes source1 (MOST_LINE + 1 - length held1) (Ok k) source2) few one in
      take_more held1 fills.0 held2 source1 source2 h part.none part.room brought fills.2 fills.1

  -- a take that failed after those that were made
  pub takes-until : (held0 held1 held2 : List ℕ) (source0 source1 source2 : S) (why : Failed) →
      TakesOn takes left held0 source0 held1 source1 → IsPart held1 →
      takes source1 (MOST_LINE + 1 - length held1) (Err why) source2 →
      held2 ≡ held1 → TakesUntilFault takes left held0 source0 held2 source2
  takes-until held0 held1 held2 source0 source1 source2 why h part one same =
      rw same (record { last = source1; before_it = h; none = part.none; room = part.room; why = why; fails = one })

  -- no byte is such a part
  none_held : (held : List ℕ) → held ≡ [] → IsPart held
  none_held held nothing = record {
    none = ap (position is_line_feed) nothing;
    room = omega (arith, ap length nothing);
  }

  -- a first take, where no byte was held
  pub takes-first : (held held1 : List ℕ) (source source1 : S) (n : ℕ) → held ≡ [] →
      takes source (MOST_LINE + 1 - length held) (Ok n) source1 → Fills held held1 (left source) (left source1) →
      length held1 ≡ length held + n → TakesOn takes left held source held1 source1
  takes-first held held1 source source1 n nothing =
      takes-on held held held1 source source source1 n no_take (none_held held nothing)

  -- a first take that failed, where no byte was held
  pub until-first : (held held1 : List ℕ) (source source1 : S) (why : Failed) → held ≡ [] →
      takes source (MOST_LINE + 1 - length held) (Err why) source1 → held1 ≡ held →
      TakesUntilFault takes left held source held1 source1
  until-first held held1 source source1 why nothing =
      takes-until held held held1 source source source1 why no_take (none_held held nothing)

-- an answer that is an error has what its errors have
pub on-error : {T E : Type 0} (r : Result T E) (P : T → Type 0) (Q : Type 0) → IsErr r → Q → MatchResult r P (λ _. Q)
on-error (Ok x) P Q err q = absurd (false≢true err)
on-error (Err why) P Q err q = q
