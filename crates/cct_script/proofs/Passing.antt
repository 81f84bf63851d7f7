-- A line that is passed over.
use Rattle.std.proofs.Common.{◌≡◌, ℕ, ◌+◌, ◌<◌, ◌≤◌, true, false, List, [], ◌∷◌, ◌++◌, length, refl, sym, ap, ◌∙◌, arith, append_assoc, Option, Some, None, take, Result, Ok, Err}
use Rattle.std.specs.List.{position}
use Rattle.std.specs.Result.{IfOk}
use Rattle.std.proofs.lemmas.List.{append-nil, length-append}
use Rattle.std.proofs.lemmas.List.Elements.{All-append}
use Rattle.std.specs.Io.KnownBytes.{IsAtEnd}
use Rattle.cct_edge.specs.Bytes.{Serves, TellsAsBefore}
use Rattle.cct_edge.proofs.Chains.{Consumes-nil, Consumes-trans}
use Rattle.cct_model_lines.specs.Script.{is_line_feed, most_bytes}
use Rattle.cct_script.specs.declared.endless.Found.{Found}
use Rattle.cct_script.specs.declared.endless.Found.TheVariants as found
use Rattle.cct_script.specs.declared.lines.LinesNo.{LinesNo}
use Rattle.cct_script.specs.declared.lines.LinesNo.TheVariants as no
use Rattle.cct_script.specs.Endless.{DropsLine, EndsWith, GivesNext, IsNoText, IsOneLine, found_given}
use Rattle.cct_script.specs.Window.{Fills}
use Rattle.cct_script.proofs.Splits.{fails_everywhere}
use Rattle.cct_script.proofs.Giving.{line_alone}
use Rattle.cct_script.proofs.Window.{fills-trans}

-- no byte of these is a line feed, by a search for one
pub one_line : (bytes : List ℕ) → position is_line_feed bytes ≡ None → IsOneLine bytes
one_line bytes none = fails_everywhere is_line_feed bytes none

-- the front up to the first line feed has none
pub front_alone : (bytes : List ℕ) (at : ℕ) → position is_line_feed bytes ≡ Some at → IsOneLine (take at bytes)
front_alone bytes at found = one_line (take at bytes) (line_alone bytes at found)

-- what was passed over: bytes without a line feed, all of which came after those held at first, and none is held
module _ {S : Type 0} (left : S → Option (List ℕ)) (faults : S → ℕ) where
  pub record Passes (held0 held : List ℕ) (source0 source : S) (many : ℕ) : Type 0 where
    pub line : List ℕ
    pub long : most_bytes + many < length line
    pub alone : IsOneLine line
    pub fills : Fills held0 line (left source0) (left source)
    pub none : held ≡ []
    pub tells : TellsAsBefore (left source0) (left source)
    pub later : faults source0 ≤ faults source

  pub passes_begin : (held0 held : List ℕ) (source : S) → IsOneLine held0 → most_bytes < length held0 → held ≡ [] →
      Passes held0 held source source 0
  passes_begin held0 held source alone long none = record {
    line = held0;
    long = omega arith;
    alone = alone;
    fills = ([], sym (append-nil held0), Consumes-nil (left source));
    none = none;
    tells = refl;
    later = omega arith;
  }

  -- the bytes passed over, and those that came then
  passed_with : (held0 held came : List ℕ) (source0 source next : S) (many : ℕ) →
      (h : Passes held0 held source0 source many) → Fills held came (left source) (left next) →
      Fills held0 (h.line ++ came) (left source0) (left next)
  passed_with held0 held came source0 source next many h fills = (
    h.fills.0 ++ fills.0,
    ap (λ xs. h.line ++ xs) (fills.1 ∙ ap (λ xs. xs ++ fills.0) h.none)
        ∙ ap (λ xs. xs ++ fills.0) h.fills.1 ∙ append_assoc held0 h.fills.0 fills.0,
    Consumes-trans _ _ _ h.fills.0 fills.0 h.fills.2 fills.2,
  )

  pub passes_on : (held0 held came kept : List ℕ) (source0 source next : S) (many : ℕ) (Fails : Type 0) →
      Passes held0 held source0 source many → Fills held came (left source) (left next) →
      Serves left faults source next Fails → 1 ≤ length came → DropsLine came kept false →
      Passes held0 kept source0 next (many + 1)
  passes_on held0 held came kept source0 source next many Fails h fills serves some drops =
      record {
        line = h.line ++ came;
        long = omega (arith, length-append h.line came, h.long);
        alone = All-append (λ byte. is_line_feed byte ≡ false) h.line came h.alone drops.0;
        fills = passed_with held0 held came source0 source next many h fills;
        none = drops.1;
        tells = serves.tells ∙ h.tells;
        later = omega (arith, serves.later, h.later);
      }

  -- a line feed came: the line is whole
  pub passes_end : (held0 held came kept : List ℕ) (source0 source next : S) (many : ℕ) →
      Passes held0 held source0 source many → Fills held came (left source) (left next) → DropsLine came kept true →
      (line : List ℕ) × (most_bytes < length line) × IsOneLine line
      × Fills held0 (line ++ 10 ∷ kept) (left source0) (left next)
  passes_end held0 held came kept source0 source next many h fills drops =
      let same : h.line ++ came ≡ (h.line ++ drops.0) ++ 10 ∷ kept =
      ap (λ xs. h.line ++ xs) drops.2 ∙ sym (append_assoc h.line drops.0 (10 ∷ kept)) in (
        h.line ++ drops.0,
        omega (arith, length-append h.line drops.0, h.long),
        All-append (λ byte. is_line_feed byte ≡ false) h.line drops.0 h.alone drops.1,
        rw (← same) (passed_with held0 held came source0 source next many h fills),
      )

-- bytes came, and then something was given of them
pub gives_on : (held between kept : List ℕ) (first second third : Option (List ℕ)) (r : Result Found LinesNo) →
    Fills held between first second → IfOk r IsNoText → GivesNext between kept second third (found_given [] r) →
    GivesNext held kept first third (found_given kept r)
gives_on held between kept first second third (Ok (found.Text len)) fills other gives = absurd other
gives_on held between kept first second third (Ok found.Long) fills other gives =
    (gives.0, gives.1, gives.2, fills-trans held between _ first second third fills gives.3)
gives_on held between kept first second third (Ok found.Cut) fills other gives =
    (gives.0, gives.1, gives.2, fills-trans held between _ first second third fills gives.3, gives.4, gives.5)
gives_on held between kept first second third (Ok found.End) fills other gives =
    (fills-trans held between _ first second third fills gives.0, gives.1, gives.2)
gives_on held between kept first second third (Err no.Read) fills other gives =
    (gives.0, gives.1, fills-trans held between _ first second third fills gives.2)
gives_on held between kept first second third (Err no.Long) fills other gives =
    (gives.0, gives.1, gives.2, fills-trans held between _ first second third fills gives.3)
gives_on held between kept first second third (Err no.Cut) fills other gives =
    (gives.0, gives.1, gives.2, fills-trans held between _ first second third fills gives.3)
gives_on held between kept first second third (Err no.TooMany) fills other gives =
    (gives.0, gives.1, gives.2, fills-trans held between _ first second third fills gives.3)

-- the input ended after these bytes
pub gives_end : (held rest kept : List ℕ) (first second : Option (List ℕ)) (what : Found) → Fills held rest first second →
    position is_line_feed rest ≡ None → IsAtEnd second → kept ≡ [] → EndsWith rest what →
    GivesNext held kept first second (found_given kept (Ok what))
gives_end held rest kept first second (found.Text len) fills none end is ends = absurd ends
gives_end held rest kept first second found.Long fills none end is ends = absurd ends
gives_end held rest kept first second found.Cut fills none end is ends = (rest, ends, one_line rest none, fills, is, end)
gives_end held rest kept first second found.End fills none end is ends = (rw (← ends) fills, is, end)
