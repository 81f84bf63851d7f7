-- What is read of the first bytes of a half.
use Rattle.std.proofs.Common.{◌≡◌, ℕ, Bool, ◌+◌, ◌≤◌, ◌==◌, List, [], ◌∷◌, length, take, drop, slice_index}
use Rattle.std.proofs.Common.{sym, ◌∙◌, ap, ap₂, cond, subst, arith, get_or-take}
use Rattle.std.proofs.Common.{Option, Some, None, IfSome, IfNone, MatchOption}
use Rattle.std.specs.Int.{w32, from_le_bytes}
use Rattle.std.proofs.lemmas.List.{drop-take, drop_more, take-take}
use Rattle.cct_model_lines.specs.declared.carry.Carry.{Carry}
use Rattle.cct_journal.specs.Half.{IsVersionOf, open_gate, turns_in, version_in, window}
use Rattle.cct_journal.specs.Start.{Begins}
use Rattle.cct_journal.specs.Fronts.{IsFront}
use Rattle.cct_journal.specs.declared.format.TheConstants.{START}
use Rattle.cct_journal.specs.declared.opening.Front.{Front}
use Rattle.cct_journal.specs.declared.start.Start.{Start}

-- The four bytes from a place on.
pub four : (bytes : List ℕ) (at : ℕ) → at + 4 ≤ length bytes
    → window at 4 bytes ≡ slice_index bytes at ∷ slice_index bytes (at + 1) ∷ slice_index bytes (at + 1 + 1)
    ∷ slice_index bytes (at + 1 + 1 + 1) ∷ []
four bytes at within =
    ap (λ (l : List ℕ). take 4 l) (drop_more bytes at 0 (omega arith))
    ∙ ap (λ (l : List ℕ). slice_index bytes at ∷ take 3 l) (drop_more bytes (at + 1) 0 (omega arith))
    ∙ ap (λ (l : List ℕ). slice_index bytes at ∷ slice_index bytes (at + 1) ∷ take 2 l)
    (drop_more bytes (at + 1 + 1) 0 (omega arith))
    ∙ ap (λ (l : List ℕ). slice_index bytes at ∷ slice_index bytes (at + 1) ∷ slice_index bytes (at + 1 + 1) ∷ take 1 l)
    (drop_more bytes (at + 1 + 1 + 1) 0 (omega arith))

-- What the front of a half says is in its first 20 bytes.
pub front_of_half : (second : Bool) (front : Front) (bytes whole : List ℕ) → bytes ≡ window 0 20 whole
    → IsFront second front bytes → IsFront second front whole
front_of_half second front bytes whole read is =
    let here : IsFront second front (take 20 whole) = subst (IsFront second front) read is in
    let opening : take 15 (take 20 whole) ≡ take 15 whole = take-take 15 20 whole (omega arith) in
    let version : version_in (take 20 whole) ≡ version_in whole = get_or-take 20 whole 15 0 (omega arith) in
    let number : turns_in (take 20 whole) ≡ turns_in whole =
    ap (from_le_bytes w32)
    (ap (λ (l : List ℕ). take 4 l) (drop-take 16 4 whole) ∙ take-take 4 4 (drop 16 whole) (omega arith)) in
    record {
      gate = here.gate ∙ ap (λ g. g == open_gate) (get_or-take 20 whole 0 0 (omega arith));
      title = λ is_open.
          let first = here.title is_open in record {
            titled = sym opening ∙ first.titled;
            version_is = subst (IsVersionOf second) version first.version_is;
          };
      titled = λ begins. here.titled (record {
        titled = opening ∙ begins.titled;
        version_is = subst (IsVersionOf second) (sym version) begins.version_is;
      });
      version = here.version ∙ version;
      generation_is = here.generation_is ∙ ap₂ (λ v n. cond (v == 1) 0 n) version number;
    }

-- What a half begins with is in its first bytes.
begins_in_half : (second : Bool) (generation base : ℕ) (carry : Carry) (bytes whole : List ℕ)
    → bytes ≡ window 0 START whole → Begins second generation base carry bytes → Begins second generation base carry whole
begins_in_half second generation base carry bytes whole read begins = record {
  may = begins.may;
  starts = sym (take-take START START whole (omega arith)) ∙ ap (λ (l : List ℕ). take START l) (sym read) ∙ begins.starts;
}

-- And these begin so where the half does.
half_begins : (second : Bool) (generation base : ℕ) (carry : Carry) (bytes whole : List ℕ)
    → bytes ≡ window 0 START whole → Begins second generation base carry whole → Begins second generation base carry bytes
half_begins second generation base carry bytes whole read begins = record {
  may = begins.may;
  starts = ap (λ (l : List ℕ). take START l) read ∙ take-take START START whole (omega arith) ∙ begins.starts;
}

-- So what was read of its first bytes is what was read of the half.
pub start_read : (second : Bool) (bytes whole : List ℕ) (found : Option Start) → bytes ≡ window 0 START whole
    → IfSome found (λ s. Begins second s.generation s.base s.carry bytes)
    → IfNone found ((generation base : ℕ) (carry : Carry) → Begins second generation base carry bytes → ⊥)
    → MatchOption found
    ((generation base : ℕ) (carry : Carry) → Begins second generation base carry whole → ⊥)
    (λ s. Begins second s.generation s.base s.carry whole)
start_read second bytes whole None read some none =
    λ generation base carry begins. none generation base carry
    (half_begins second generation base carry bytes whole read begins)
start_read second bytes whole (Some s) read some none =
    begins_in_half second s.generation s.base s.carry bytes whole read some
