-- How a script of any kind goes on by what the reader of lines answers.
use Rattle.std.proofs.Common.{◌≡◌, ℕ, ◌+◌, ◌<◌, ◌≤◌, Bool, true, false, ltb, List, [], ◌∷◌, ◌++◌, length, take, drop}
use Rattle.std.proofs.Common.{Option, None, Some, Result, Ok, Err, refl, ap, sym, ◌∙◌, subst, append_assoc, arith, lit<}
use Rattle.std.specs.Prelude.{IfErr, IsErr, IsErrAnd, if◌then◌else◌, ◌&&◌}
use Rattle.std.specs.List.{slice_split, position}
use Rattle.std.specs.Io.KnownBytes.{IsAtEnd}
use Rattle.std.proofs.lemmas.Bool.Decides.{nat_tests}
use Rattle.std.proofs.lemmas.List.{append-nil, length-append}
use Rattle.cct_model_lines.specs.declared.entry.LineKind.{LineKind}
use Rattle.cct_model_lines.specs.declared.entry.LineKind.TheVariants as kind
use Rattle.cct_model_lines.specs.Script.{is_line_feed, most_lines}
use Rattle.cct_edge.specs.declared.fault.Failed.{Failed}
use Rattle.cct_script.specs.Giving.{Standing, Waits, Gives}
use Rattle.cct_script.specs.Scripts.{IsNext, Kind, before_end, behind_end, GoesOnIn, IsClosedIn, StopsIn, WithMoreTaken}
use Rattle.cct_script.specs.Scripts.{tested, unfinished_by}
use Rattle.cct_script.specs.Source.{to_come}
use Rattle.cct_script.specs.Taking.{TakesForLine, TakesOn}
use Rattle.cct_script.specs.Window.{Fills}
use Rattle.cct_script.specs.declared.lines.LinesNo.{LinesNo}
use Rattle.cct_script.specs.declared.lines.LinesNo.TheVariants as no
use Rattle.cct_script.specs.declared.stops.ScriptStop.{ScriptStop}
use Rattle.cct_script.specs.declared.stops.ScriptStop.TheVariants as stop
use Rattle.cct_script.proofs.Splits.{Begins, split_behind, split_at, split_none, split_some, split_front_none}

-- A kind of script goes by its lines: a whole line is this by its form, and the bytes after the last line feed are a line
-- that isn't finished.
pub record Lawful {Stage Read Script : Type 0} (k : Kind Stage Read Script) : Type 0 where
  pub form : Stage → List ℕ → Read
  pub refused : (number : ℕ) (stage : Stage) (why : LineKind) (rest : Script)
      → k.goes_on number stage (k.refuses why) rest ≡ k.closed number stage (Some why)
  pub last : (number : ℕ) (stage : Stage) (part : List ℕ)
      → k.says number stage (part ∷ []) ≡ k.closed number stage (unfinished_by (k.is_over stage) number part)
  pub whole : (number : ℕ) (stage : Stage) (line next : List ℕ) (parts : List (List ℕ))
      → k.says number stage (line ∷ next ∷ parts)
      ≡ k.goes_on number stage (tested k.refuses (k.is_over stage) number line (form stage line))
      (k.says (number + 1) (k.after stage (tested k.refuses (k.is_over stage) number line (form stage line))) (next ∷ parts))

-- a list that is one part is that part
alone_by : (xs part : List ℕ) (at : Option ℕ) → position is_line_feed xs ≡ at → slice_split is_line_feed xs ≡ part ∷ []
    → part ≡ xs
alone_by xs part None none one = let e : part ∷ [] ≡ xs ∷ [] = sym one ∙ split_none is_line_feed xs none in cc
alone_by xs part (Some n) at one =
    let more = split_some is_line_feed (drop (n + 1) xs) in
    let e : part ∷ [] ≡ take n xs ∷ more.0 ∷ more.1 = sym one
    ∙ (split_at is_line_feed xs n 0 at ∙ ap (λ parts. take n xs ∷ parts) more.2) in
    cc

many_rest : (number : ℕ) (over : Bool) (rest : List ℕ) → over ≡ false → 1048576 < number → 1 ≤ length rest
    → unfinished_by over number rest ≡ Some kind.Lines
unfolding most_lines
many_rest number over rest going many some =
    let a : ltb 1048576 number ≡ true = grind (arith, nat_tests) in
    let b : ltb 0 (length rest) ≡ true = grind (arith, nat_tests) in
    rw (going, a, b) refl

long_rest : (number : ℕ) (over : Bool) (rest : List ℕ) → over ≡ false → number ≤ 1048576 → 1200 < length rest
    → unfinished_by over number rest ≡ Some kind.Long
unfolding most_lines
long_rest number over rest going few long =
    let a : ltb 1048576 number ≡ false = grind (arith, nat_tests) in
    let b : ltb 1200 (length rest) ≡ true = grind (arith, nat_tests) in
    rw (going, a, b) refl

none_to_come : (left : Option (List ℕ)) → IsAtEnd left → to_come left ≡ []
none_to_come None end = refl
none_to_come (Some more) end = end

cut_empty : (many : Bool) → (if many && false then Some kind.Lines else Some kind.Cut) ≡ Some kind.Cut
cut_empty true = refl
cut_empty false = refl

cut_rest : (number : ℕ) (over : Bool) (rest : List ℕ) → over ≡ false → length rest < 1201
    → (1048576 < number → rest ≡ []) → unfinished_by over number rest ≡ Some kind.Cut
unfolding most_lines
cut_rest number over [] going short few = rw going (cut_empty (ltb 1048576 number))
cut_rest number over (byte ∷ bytes) going short few =
    let below : (1048576 < number → ⊥) = λ many. let e = few many in cc e in
    let a : ltb 1048576 number ≡ false = grind (arith, nat_tests) in
    let b : ltb 1200 (length (byte ∷ bytes)) ≡ false = grind (arith, nat_tests) in
    rw (going, a, b) refl

-- what holds of the bytes held holds where more bytes came
came_by : (old new : Standing) (left_before left : Option (List ℕ)) (P : List ℕ → Type 0)
    → Waits old new left_before left → P new.held → WithMoreTaken old.held left_before left P
came_by old new left_before left P waits holds = let fills = waits.1 in (fills.0, fills.2, subst P fills.1 holds)

-- a result that is passed up is the error that it was
passed : {T E : Type 0} (r : Result T E) (why : E) → IsErr r × IsErrAnd r (λ e. e ≡ why) → r ≡ Err why
passed (Ok x) why up = absurd cc
passed (Err e) why up = ap Err up.1

module _ {Stage Read Script : Type 0} {k : Kind Stage Read Script} (l : Lawful k) where
  -- What the lines from a number on say, as bytes.
  abbrev said : ℕ → Stage → List ℕ → Script
  said number stage bytes = k.says number stage (slice_split is_line_feed bytes)

  -- A whole line by its number, its length and its form.
  abbrev line_by : ℕ → Stage → List ℕ → Read
  line_by number stage line = tested k.refuses (k.is_over stage) number line (l.form stage line)

  -- The reader of lines answered a script that hasn't ended, which wants a line of this number at a stage.
  pub record Answers (old new : Standing) (left_before left : Option (List ℕ)) (number : ℕ) (stage : Stage)
      (answer : Result (Option (List ℕ)) LinesNo) : Type 0 where
    pub going : k.is_over stage ≡ false
    pub next : IsNext number old
    pub gives : Gives old new left_before left answer

  -- a whole line, and more lines after it
  whole_line : (number : ℕ) (stage : Stage) (line : List ℕ) (lines : List (List ℕ)) → Begins lines →
      k.says number stage (line ∷ lines)
      ≡ k.goes_on number stage (line_by number stage line)
      (k.says (number + 1) (k.after stage (line_by number stage line)) lines)
  whole_line number stage line lines more =
      let read = line_by number stage line in
      ap (λ parts. k.says number stage (line ∷ parts)) more.2
      ∙ l.whole number stage line more.0 more.1
      ∙ sym (ap (λ parts. k.goes_on number stage read (k.says (number + 1) (k.after stage read) parts)) more.2)

  -- a line that is neither past the end, nor one too many, nor too long is read by its form
  pub by_form : (number : ℕ) (stage : Stage) (line : List ℕ) → k.is_over stage ≡ false → number ≤ 1048576 → length line ≤ 1200
      → line_by number stage line ≡ l.form stage line
  unfolding most_lines
  by_form number stage line going few short =
      let a : ltb 1048576 number ≡ false = grind (arith, nat_tests) in
      let b : ltb 1200 (length line) ≡ false = grind (arith, nat_tests) in
      rw (going, a, b) refl

  -- what a whole line is goes on with the script
  pub line_says : (number : ℕ) (stage : Stage) (line rest : List ℕ) (read : Read) → position is_line_feed line ≡ None
      → line_by number stage line ≡ read → GoesOnIn k number stage (line ++ 10 ∷ rest) read rest
  line_says number stage line rest read alone is more =
      let parts = slice_split is_line_feed (rest ++ more) in
      ap (said number stage) (append_assoc line (10 ∷ rest) more)
      ∙ (
      ap (k.says number stage) (split_behind is_line_feed line 10 (rest ++ more) alone refl)
      ∙ (
      whole_line number stage line parts (split_some is_line_feed (rest ++ more))
      ∙ ap (λ r. k.goes_on number stage r (k.says (number + 1) (k.after stage r) parts)) is
      )
      )

  -- and so does what is read of it by its form
  line_goes : (number : ℕ) (stage : Stage) (line rest : List ℕ) (read : Read) → k.is_over stage ≡ false → number ≤ 1048576
      → length line ≤ 1200 → position is_line_feed line ≡ None →
      l.form stage line ≡ read → GoesOnIn k number stage (line ++ 10 ∷ rest) read rest
  line_goes number stage line rest read going few short alone read_is =
      line_says number stage line rest read alone (by_form number stage line going few short ∙ read_is)

  -- the first part, refused whether it is a whole line or the last bytes
  first_refused : (number : ℕ) (stage : Stage) (why : LineKind) (part : List ℕ) (parts : List (List ℕ))
      → line_by number stage part ≡ k.refuses why →
      (parts ≡ [] → unfinished_by (k.is_over stage) number part ≡ Some why)
      → k.says number stage (part ∷ parts) ≡ k.closed number stage (Some why)
  first_refused number stage why part [] line rest =
      l.last number stage part ∙ ap (k.closed number stage) (rest refl)
  first_refused number stage why part (next ∷ parts) line rest =
      l.whole number stage part next parts
      ∙ ap (λ read. k.goes_on number stage read (k.says (number + 1) (k.after stage read) (next ∷ parts))) line
      ∙ l.refused number stage why (k.says (number + 1) (k.after stage (k.refuses why)) (next ∷ parts))

  -- a byte that may not stand here
  byte_closes : (number : ℕ) (stage : Stage) (why : LineKind) (held : List ℕ) (left : Option (List ℕ)) → 1 ≤ length held
      → ((line : List ℕ) → line_by number stage line ≡ k.refuses why) →
      ((rest : List ℕ) → 1 ≤ length rest → unfinished_by (k.is_over stage) number rest ≡ Some why)
      → IsClosedIn k number stage (Some why) left held
  byte_closes number stage why held left some lines rests =
      let more = to_come left in
      let all = held ++ more in
      let first = split_some is_line_feed all in
      ap (k.says number stage) first.2
      ∙ first_refused number stage why first.0 first.1 (lines first.0)
      (λ none.
      let same = alone_by all first.0 _ refl (first.2 ∙ ap (λ parts. first.0 ∷ parts) none) in
      rests first.0 (subst (λ xs. 1 ≤ length xs) (sym same) (omega (arith, length-append held more))))

  -- a line too many
  many_line : (number : ℕ) (stage : Stage) (line : List ℕ) → k.is_over stage ≡ false → 1048576 < number
      → line_by number stage line ≡ k.refuses kind.Lines
  unfolding most_lines
  many_line number stage line going many = let a : ltb 1048576 number ≡ true = grind (arith, nat_tests) in
      rw (going, a) refl

  many_closes : (number : ℕ) (stage : Stage) (held : List ℕ) (left : Option (List ℕ)) → k.is_over stage ≡ false
      → 1048576 < number → 1 ≤ length held → IsClosedIn k number stage (Some kind.Lines) left held
  many_closes number stage held left going many some =
      byte_closes number stage kind.Lines held left some (λ line. many_line number stage line going many)
      (λ rest more. many_rest number (k.is_over stage) rest going many more)

  -- a byte after the end
  trailing_closes : (number : ℕ) (stage : Stage) (held : List ℕ) (left : Option (List ℕ)) → k.is_over stage ≡ true
      → 1 ≤ length held → IsClosedIn k number stage (Some kind.Trailing) left held
  trailing_closes number stage held left over some =
      byte_closes number stage kind.Trailing held left some (λ line. rw over refl)
      (λ rest more. let a : ltb 0 (length rest) ≡ true = grind (arith, nat_tests) in rw (over, a) refl)

  -- a line too long, given by its first bytes
  long_line : (number : ℕ) (stage : Stage) (line : List ℕ) → k.is_over stage ≡ false → number ≤ 1048576 → 1200 < length line
      → line_by number stage line ≡ k.refuses kind.Long
  unfolding most_lines
  long_line number stage line going few long =
      let a : ltb 1048576 number ≡ false = grind (arith, nat_tests) in
      let b : ltb 1200 (length line) ≡ true = grind (arith, nat_tests) in
      rw (going, a, b) refl

  long_closes : (number : ℕ) (stage : Stage) (held : List ℕ) (left : Option (List ℕ)) → k.is_over stage ≡ false
      → number ≤ 1048576 → position is_line_feed held ≡ None → length held ≡ 1201 →
      IsClosedIn k number stage (Some kind.Long) left held
  long_closes number stage held left going few none full =
      let first = split_front_none is_line_feed held (to_come left) none in
      let long : 1200 < length (held ++ first.0) = omega (arith, length-append held first.0) in
      ap (k.says number stage) first.2
      ∙ first_refused number stage kind.Long (held ++ first.0) first.1
      (long_line number stage (held ++ first.0) going few long)
      (λ alone. long_rest number (k.is_over stage) (held ++ first.0) going few long)

  -- the input ends here
  pub ended : (number : ℕ) (stage : Stage) (held : List ℕ) → position is_line_feed held ≡ None
      → said number stage held ≡ k.closed number stage (unfinished_by (k.is_over stage) number held)
  ended number stage held none =
      ap (k.says number stage) (split_none is_line_feed held none) ∙ l.last number stage held

  closed_at_end : (number : ℕ) (stage : Stage) (why : Option LineKind) (held : List ℕ) (left : Option (List ℕ))
      → position is_line_feed held ≡ None → IsAtEnd left →
      unfinished_by (k.is_over stage) number held ≡ why → IsClosedIn k number stage why left held
  closed_at_end number stage why held left none end is =
      ap (λ xs. said number stage (held ++ xs)) (none_to_come left end)
      ∙ (ap (said number stage) (append-nil held)
      ∙ (ended number stage held none ∙ ap (k.closed number stage) is))

  cut_closes : (number : ℕ) (stage : Stage) (held : List ℕ) (left : Option (List ℕ)) → k.is_over stage ≡ false
      → position is_line_feed held ≡ None → length held < 1201 →
      IsAtEnd left → (1048576 < number → held ≡ []) → IsClosedIn k number stage (Some kind.Cut) left held
  cut_closes number stage held left going none short end few =
      closed_at_end number stage (Some kind.Cut) held left none end (cut_rest number (k.is_over stage) held going short few)

  -- nothing is after the end
  end_closes : (number : ℕ) (stage : Stage) (held : List ℕ) (left : Option (List ℕ)) → k.is_over stage ≡ true → held ≡ []
      → IsAtEnd left → IsClosedIn k number stage None left held
  end_closes number stage [] left over none end = closed_at_end number stage None [] left refl end (rw over refl)
  end_closes number stage (byte ∷ bytes) left over none end = cc none

  -- what an answer shows a script that hasn't ended: a line that it may have, or that it stops
  abbrev pub Reads : Standing → Standing → Option (List ℕ) → Option (List ℕ) → ℕ → Stage → Result (List ℕ) ScriptStop
      → Type 0
  Reads old new left_before left number stage (Ok line) =
      (number ≤ 1048576) × (new.given ≡ number) × (length line ≤ 1200) × (position is_line_feed line ≡ None)
      × Fills old.held (line ++ 10 ∷ new.held) left_before left
  Reads old new left_before left number stage (Err why) = WithMoreTaken old.held left_before left (StopsIn k number stage why left)

  reads_before_end : (old new : Standing) (left_before left : Option (List ℕ)) (answer : Result (Option (List ℕ)) LinesNo)
      (number : ℕ) (stage : Stage) → k.is_over stage ≡ false → IsNext number old →
      Gives old new left_before left answer → Reads old new left_before left number stage (before_end answer)
  unfolding most_lines
  reads_before_end old new left_before left (Ok (Some line)) number stage going next gives =
      (omega (arith, next.0, gives.0), omega (arith, next.0, gives.1), gives.2, gives.3, gives.4)
  reads_before_end old new left_before left (Ok None) number stage going next gives =
      came_by old new left_before left (IsClosedIn k number stage (Some kind.Cut) left) gives.0
      (subst (IsClosedIn k number stage (Some kind.Cut) left) (sym gives.1)
      (cut_closes number stage [] left going refl (lit< tt) gives.2 (λ many. refl)))
  reads_before_end old new left_before left (Err no.TooMany) number stage going next gives =
      came_by old new left_before left (IsClosedIn k number stage (Some kind.Lines) left) gives.0
      (many_closes number stage new.held left going (omega (arith, next.0, gives.1)) gives.2)
  reads_before_end old new left_before left (Err no.Long) number stage going next gives =
      came_by old new left_before left (IsClosedIn k number stage (Some kind.Long) left) gives.0
      (long_closes number stage new.held left going (omega (arith, next.0, gives.1)) gives.2 gives.3)
  reads_before_end old new left_before left (Err no.Cut) number stage going next gives =
      came_by old new left_before left (IsClosedIn k number stage (Some kind.Cut) left) gives.0
      (cut_closes number stage new.held left going gives.2 gives.4 gives.5
      (λ many. absurd (omega (arith, next.0, gives.1, many))))
  reads_before_end old new left_before left (Err no.Read) number stage going next gives =
      came_by old new left_before left (StopsIn k number stage stop.Unread left) gives.0 gives.1

  -- a line that was given goes on with the script as its form says
  given_goes : (old new : Standing) (left_before left : Option (List ℕ)) (number : ℕ) (stage : Stage) (line : List ℕ)
      (read : Read) → k.is_over stage ≡ false →
      Reads old new left_before left number stage (Ok line) → l.form stage line ≡ read
      → WithMoreTaken old.held left_before left (λ held. GoesOnIn k number stage held read new.held)
  given_goes old new left_before left number stage line read going reads read_is =
      let fills = reads.4 in (
        fills.0,
        fills.2,
        subst (λ held. GoesOnIn k number stage held read new.held) fills.1
            (line_goes number stage line new.held read going reads.0 reads.2 reads.3 read_is),
      )

  module _ {old new : Standing} {left_before left : Option (List ℕ)} {number : ℕ} {stage : Stage}
      {answer : Result (Option (List ℕ)) LinesNo} (at : Answers old new left_before left number stage answer) where
    pub answer_reads : (read : Result (List ℕ) ScriptStop) → before_end answer ≡ read
        → Reads old new left_before left number stage read
    answer_reads read is =
        subst (Reads old new left_before left number stage) is
        (reads_before_end old new left_before left answer number stage at.going at.next at.gives)

    -- a refusal that is passed up stops the script
    pub stops_up : {T : Type 0} (r : Result T ScriptStop) (why : ScriptStop) → before_end answer ≡ Err why
        → IsErr r × IsErrAnd r (λ e. e ≡ why) →
        IfErr r (λ e. WithMoreTaken old.held left_before left (StopsIn k number stage e left))
    stops_up r why is up =
        subst (λ x. IfErr x (λ e. WithMoreTaken old.held left_before left (StopsIn k number stage e left)))
        (sym (passed r why up)) (answer_reads (Err why) is)

    -- after a line that was given comes the next number
    pub next_after : (line : List ℕ) → before_end answer ≡ Ok line → IsNext (number + 1) new
    next_after line is = let reads = answer_reads (Ok line) is in (omega (arith, reads.1), omega (arith, reads.0))

    -- the line goes on with the script as its form says
    pub goes_by : (line : List ℕ) (read : Read) → before_end answer ≡ Ok line → l.form stage line ≡ read
        → WithMoreTaken old.held left_before left (λ held. GoesOnIn k number stage held read new.held)
    goes_by line read is read_is =
        given_goes old new left_before left number stage line read at.going (answer_reads (Ok line) is) read_is

    -- where it is refused, it closes the script
    pub closes_by : (line : List ℕ) (why : LineKind) → before_end answer ≡ Ok line → l.form stage line ≡ k.refuses why
        → WithMoreTaken old.held left_before left (StopsIn k number stage (stop.Refused why) left)
    closes_by line why is read_is =
        let came = goes_by line (k.refuses why) is read_is in (
          came.0,
          came.1,
          came.2 (to_come left) ∙ l.refused number stage why _,
        )

  -- what an answer shows after the line `end`: nothing follows, or the script stops
  abbrev pub Ends : Standing → Option (List ℕ) → Option (List ℕ) → ℕ → Stage → Result (Unit {0}) ScriptStop → Type 0
  Ends old left_before left number stage (Ok done) =
      WithMoreTaken old.held left_before left (IsClosedIn k number stage None left)
  Ends old left_before left number stage (Err why) =
      WithMoreTaken old.held left_before left (StopsIn k number stage why left)

  trails : (old new : Standing) (left_before left : Option (List ℕ)) (number : ℕ) (stage : Stage)
      → k.is_over stage ≡ true → Waits old new left_before left → 1 ≤ length new.held →
      Ends old left_before left number stage (Err (stop.Refused kind.Trailing))
  trails old new left_before left number stage over waits some =
      came_by old new left_before left (IsClosedIn k number stage (Some kind.Trailing) left) waits
      (trailing_closes number stage new.held left over some)

  reads_behind_end : (old new : Standing) (left_before left : Option (List ℕ)) (answer : Result (Option (List ℕ)) LinesNo)
      (number : ℕ) (stage : Stage) → k.is_over stage ≡ true →
      Gives old new left_before left answer → Ends old left_before left number stage (behind_end answer)
  reads_behind_end old new left_before left (Ok (Some line)) number stage over gives =
      let fills = gives.4 in
      let some : 1 ≤ length (line ++ 10 ∷ new.held) = omega (arith, length-append line (10 ∷ new.held)) in (
        fills.0,
        fills.2,
        subst (IsClosedIn k number stage (Some kind.Trailing) left) fills.1
            (trailing_closes number stage (line ++ 10 ∷ new.held) left over some),
      )
  reads_behind_end old new left_before left (Ok None) number stage over gives =
      came_by old new left_before left (IsClosedIn k number stage None left) gives.0
      (end_closes number stage new.held left over gives.1 gives.2)
  reads_behind_end old new left_before left (Err no.TooMany) number stage over gives =
      trails old new left_before left number stage over gives.0 gives.2
  reads_behind_end old new left_before left (Err no.Long) number stage over gives =
      trails old new left_before left number stage over gives.0 (omega (arith, gives.3))
  reads_behind_end old new left_before left (Err no.Cut) number stage over gives =
      trails old new left_before left number stage over gives.0 gives.3
  reads_behind_end old new left_before left (Err no.Read) number stage over gives =
      came_by old new left_before left (StopsIn k number stage stop.Unread left) gives.0 gives.1

  pub answer_ends : (old new : Standing) (left_before left : Option (List ℕ)) (answer : Result (Option (List ℕ)) LinesNo)
      (number : ℕ) (stage : Stage) (end : Result (Unit {0}) ScriptStop) → k.is_over stage ≡ true →
      Gives old new left_before left answer → behind_end answer ≡ end → Ends old left_before left number stage end
  answer_ends old new left_before left answer number stage end over gives is =
      subst (Ends old left_before left number stage) is
      (reads_behind_end old new left_before left answer number stage over gives)

module _ {S : Type 0} (takes : S → ℕ → Result ℕ Failed → S → Type 0) (left : S → Option (List ℕ)) where
  -- the takes that a line needed which is read
  pub takes_before_end : (held kept : List ℕ) (before now : S) (answer : Result (Option (List ℕ)) LinesNo)
      (line : List ℕ) → TakesForLine takes left held before kept now answer → before_end answer ≡ Ok line
      → TakesOn takes left held before (line ++ 10 ∷ kept) now
  takes_before_end held kept before now (Ok (Some x)) line needed is =
      let same : x ≡ line = cc in
      subst (λ bytes. TakesOn takes left held before (bytes ++ 10 ∷ kept) now) same needed
  takes_before_end held kept before now (Ok None) line needed is = absurd cc
  takes_before_end held kept before now (Err no.Cut) line needed is = absurd cc
  takes_before_end held kept before now (Err no.Long) line needed is = absurd cc
  takes_before_end held kept before now (Err no.TooMany) line needed is = absurd cc
  takes_before_end held kept before now (Err no.Read) line needed is = absurd cc
