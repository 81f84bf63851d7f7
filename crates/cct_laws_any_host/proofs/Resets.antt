-- An acceptor that is watched for resets alone: what is said of a span is so if no reset came between its readings. Without
-- entries or bytes.
use Rattle.std.proofs.Common.{◌≡◌, ℕ, suc, ◌≤◌, ◌==◌, ◌||◌, not, nat_le, Bool, true, false, cond, List, [], ◌∷◌, map, length, refl, sym, subst, arith, Option, Some, None, All}
use Rattle.std.specs.Prelude.{⊤}
use Rattle.std.specs.List.{list_any}
use Rattle.std.proofs.lemmas.Bool.{and_parts}
use Rattle.std.proofs.lemmas.Bool.Decides.{nat_tests}
use Rattle.std.proofs.lemmas.List.Elements.{All-append, All-cons, All-map, All-nil, All-weaker}
use Rattle.cct_model.specs.Acceptor.{credits_in}
use Rattle.cct_model.specs.Reading.{distance}
use Rattle.cct_audit_taps.specs.declared.said.Said.{Said}
use Rattle.cct_audit_taps.specs.declared.said.Said.TheVariants.{Sure, Quiet, Doubt, Fell, Broken}
use Rattle.cct_audit_taps.specs.declared.shown.Shown.{Shown}
use Rattle.cct_audit_taps.specs.declared.shown.Shown.TheVariants.{Read, Masked, Set, Nothing}
use Rattle.cct_monitor.specs.Once.{all_quietly}
use Rattle.cct_monitor.specs.Spans.{Reading, Span, after_it, are_near, coins_of, doubted, goes_on, is_set, is_whole, last_reading, new_reading, quiet_at, quietly, spans, spans_by}
use Rattle.cct_laws_any_host.proofs.Moments.{Behind, World, behind_then}
use Rattle.cct_laws_any_host.proofs.Sure.{AreTold, behind_told}

-- an acceptor at a moment, and how often it was reset by then
pub record Moment : Type 0 where
  pub world : World
  pub resets : ℕ

-- resets are counted, and if none came, all that came since are events
pub record Still (w v : Moment) : Type 0 where
  pub more : w.resets ≤ v.resets
  pub behind : v.resets ≡ w.resets → Behind w.world v.world

pub still_then : (w v u : Moment) → Still w v → Still v u → Still w u
still_then w v u before since = record {
  more = omega (arith, before.more, since.more);
  behind = λ same.
      behind_then w.world v.world u.world (before.behind (omega (arith, before.more, since.more, same)))
      (since.behind (omega (arith, before.more, since.more, same)));
}

-- a reading shows the credits of its moment
abbrev pub Tells : Shown → Moment → Type 0
Tells (Read c) w = c ≡ credits_in w.world.events
Tells (Masked mask) w = ⊤
Tells Set w = ⊤
Tells Nothing w = ⊤

-- taps that showed this, newest first, were made at these moments, by their numbers, and this moment comes after them
abbrev pub Passes : (ℕ → Moment) → List Shown → Moment → Type 0
Passes at [] now = ⊤
Passes at (s ∷ past) now =
    Tells s (at (suc (length past))) × Still (at (suc (length past))) now × Passes at past (at (suc (length past)))

pub passes_same : (at other : ℕ → Moment) (shows : List Shown) (now : Moment) →
    ((n : ℕ) → n ≤ length shows → other n ≡ at n) → Passes at shows now → Passes other shows now
passes_same at other [] now same passes = tt
passes_same at other (s ∷ past) now same passes =
    let here = same (suc (length past)) (omega arith) in
    let rest = passes_same at other past (at (suc (length past))) (λ n most. same n (omega (arith, most))) passes.2 in (
      subst (Tells s) (sym here) passes.0,
      subst (λ w. Still w now) (sym here) passes.1,
      subst (Passes other past) (sym here) rest,
    )

pub passes_later : (at : ℕ → Moment) (shows : List Shown) (w v : Moment) → Still w v → Passes at shows w → Passes at shows v
passes_later at [] w v since passes = tt
passes_later at (s ∷ past) w v since passes =
    (passes.0, still_then (at (suc (length past))) w v passes.1 since, passes.2)

-- the last reading
pub record WasRead (at : ℕ → Moment) (now : Moment) (r : Reading) : Type 0 where
  pub credits_are : r.credits ≡ credits_in (at r.number).world.events
  pub still : Still (at r.number) now

abbrev IfWasRead : (ℕ → Moment) → Moment → Option Reading → Type 0
IfWasRead at now None = ⊤
IfWasRead at now (Some r) = WasRead at now r

goes_by : (at : ℕ → Moment) (before now : Moment) (s : Shown) (found : Option Reading) → Still before now →
    IfWasRead at before found → IfWasRead at now (after_it s found)
goes_by at before now s None moves is = tt
goes_by at before now s (Some r) moves is = record {
  credits_are = is.credits_are;
  still = still_then (at r.number) before now is.still moves;
}

last_was_read : (at : ℕ → Moment) (shows : List Shown) (now : Moment) → Passes at shows now →
    IfWasRead at now (last_reading shows)
last_was_read at [] now passes = tt
last_was_read at (Read c ∷ past) now passes = record { credits_are = passes.0; still = passes.1 }
last_was_read at (s ∷ past) now passes =
    let before = at (suc (length past)) in
    goes_by at before now s (last_reading past) passes.1 (last_was_read at past before passes.2)

-- a span, between two readings
pub record Stretch (at : ℕ → Moment) (x : Span) : Type 0 where
  pub first_is : x.first.credits ≡ credits_in (at x.first.number).world.events
  pub last_is : x.last.credits ≡ credits_in (at x.last.number).world.events
  pub still : Still (at x.first.number) (at x.last.number)

pub new_stretches : (at : ℕ → Moment) (s : Shown) (past : List Shown) → Tells s (at (suc (length past))) →
    Passes at past (at (suc (length past))) → All (Stretch at) (spans_by s (last_reading past) (suc (length past)))
new_stretches at s past tells passes =
    by_shown s (last_reading past) tells (last_was_read at past (at (suc (length past))) passes)
  where
    by_shown : (s : Shown) (found : Option Reading) → Tells s (at (suc (length past))) →
        IfWasRead at (at (suc (length past))) found → All (Stretch at) (spans_by s found (suc (length past)))
    by_shown (Read c) (Some r) tells was =
        let x : Span = record { first = r; last = new_reading (suc (length past)) c } in
        All-cons (Stretch at) x [] (record { first_is = was.credits_are; last_is = tells; still = was.still })
        (All-nil (Stretch at))
    by_shown (Read c) None tells was = All-nil (Stretch at)
    by_shown (Masked mask) found tells was = All-nil (Stretch at)
    by_shown Set found tells was = All-nil (Stretch at)
    by_shown Nothing found tells was = All-nil (Stretch at)

pub all_stretches : (at : ℕ → Moment) (shows : List Shown) (now : Moment) → Passes at shows now →
    All (Stretch at) (spans shows)
all_stretches at [] now passes = All-nil (Stretch at)
all_stretches at (s ∷ past) now passes =
    All-append (Stretch at) (spans_by s (last_reading past) (suc (length past))) (map (goes_on s) (spans past))
    (new_stretches at s past passes.0 passes.2)
    (All-map (Stretch at) (goes_on s) (spans past)
    (All-weaker (Stretch at) (λ x. Stretch at (goes_on s x))
    (λ x is. record { first_is = is.first_is; last_is = is.last_is; still = is.still })
    (spans past) (all_stretches at past (at (suc (length past))) passes.2)))

-- what is said of such an acceptor at an address is true
abbrev pub HoldsQuiet : (ℕ → Moment) → ℕ → Said → Type 0
HoldsQuiet at addr (Sure there first last posted) = ⊥
HoldsQuiet at addr (Quiet there first last posted) =
    (there ≡ addr) × ((at last).resets ≡ (at first).resets → AreTold (at first).world (at last).world posted)
HoldsQuiet at addr (Doubt there first last) = ⊤
HoldsQuiet at addr (Fell there first last count) = ⊥
HoldsQuiet at addr (Broken there premise first last) = ⊥

pub stretch_told : (at : ℕ → Moment) (x : Span) → Stretch at x → is_whole x ≡ true →
    (at x.last.number).resets ≡ (at x.first.number).resets →
    AreTold (at x.first.number).world (at x.last.number).world (coins_of x)
stretch_told at x is whole same =
    let first = x.first.credits.counter in
    let last = x.last.credits.counter in
    let parts = and_parts (not (list_any is_set x.first.after)) (are_near first last) whole in
    let near = and_parts (not (last == 0) || (first == 0)) (nat_le (distance first last) 5) parts.1 in
    behind_told (at x.first.number).world (at x.last.number).world (is.still.behind same) x.first.credits x.last.credits
    is.first_is is.last_is (grind (arith, nat_tests))

quietly_holds : (at : ℕ → Moment) (addr : ℕ) (x : Span) → Stretch at x → HoldsQuiet at addr (quietly addr x)
quietly_holds at addr x is = by_test (is_whole x) refl
  where
    by_test : (whole : Bool) → is_whole x ≡ whole →
        HoldsQuiet at addr (cond whole (Quiet addr x.first.number x.last.number (coins_of x)) (doubted addr x))
    by_test true whole = (refl, stretch_told at x is whole)
    by_test false whole = tt

pub quietly_true : (at : ℕ → Moment) (addr : ℕ) (shows : List Shown) (now : Moment) → Passes at shows now →
    All (HoldsQuiet at addr) (all_quietly addr shows)
quietly_true at addr [] now passes = All-nil (HoldsQuiet at addr)
quietly_true at addr (s ∷ past) now passes =
    All-append (HoldsQuiet at addr) (all_quietly addr past) (quiet_at addr s past)
    (quietly_true at addr past (at (suc (length past))) passes.2)
    (All-map (HoldsQuiet at addr) (quietly addr) (spans_by s (last_reading past) (suc (length past)))
    (All-weaker (Stretch at) (λ x. HoldsQuiet at addr (quietly addr x)) (λ x is. quietly_holds at addr x is)
    (spans_by s (last_reading past) (suc (length past))) (new_stretches at s past passes.0 passes.2)))
