-- No coin is in two spans: each span begins no earlier than an older one ends.
use Rattle.std.proofs.Common.{◌≡◌, ℕ, suc, ◌≤◌, ◌==◌, Bool, true, false, cond, List, [], ◌∷◌, ◌++◌, map, length, refl, sym, ap, subst, arith, Option, Some, None, All}
use Rattle.std.specs.Prelude.{⊤}
use Rattle.std.proofs.lemmas.Bool.Decides.{nat_tests}
use Rattle.std.proofs.lemmas.List.{length-map}
use Rattle.std.proofs.lemmas.List.Elements.{All-cons, All-head, All-map, All-nil, All-tail, All-weaker}
use Rattle.cct_model.specs.terms.coin.Credits.{Credits}
use Rattle.cct_model.specs.terms.device.DeviceSetup.{DeviceSetup}
use Rattle.cct_model.specs.lines.entry.Entry.{Entry}
use Rattle.cct_model.specs.lines.entry.Entry.TheVariants as entry
use Rattle.cct_model.specs.Claims.{coins}
use Rattle.cct_model.specs.Line.{Line, accepted}
use Rattle.cct_model.specs.Transcript.{lines_of, own}
use Rattle.cct_audit_taps.specs.declared.shown.Shown.{Shown}
use Rattle.cct_audit_taps.specs.declared.shown.Shown.TheVariants.{Read, Masked, Set, Nothing}
use Rattle.cct_monitor.specs.Spans.{Reading, Span, after_it, goes_on, last_reading, new_reading, spans, spans_by}
use Rattle.cct_audit_taps.specs.Taps.{shown}
use Rattle.cct_laws_any_host.specs.Wild.{before_tap, taps}
use Rattle.cct_laws_any_host.specs.Claims.{AreApart, StandsIn, coins_before, looks}

-- coins are only added
coins_grow : (ls lines : List Line) → length (coins lines) ≤ length (coins (ls ++ lines))
coins_grow [] lines = omega arith
coins_grow (accepted coin ∷ ls) lines = omega (arith, coins_grow ls lines)
coins_grow (line ∷ ls) lines = coins_grow ls lines

fewer : (d : DeviceSetup) (past : List Entry) (n : ℕ) → length (coins_before d past n) ≤ length (coins (lines_of d past))
fewer d [] n = omega arith
fewer d (entry.Wire addr sent piece ∷ past) n =
    by_test (suc (length (taps past)) == n)
    (coins_grow (own d past (entry.Wire addr sent piece)) (lines_of d past)) (fewer d past n)
  where
    by_test : (b : Bool) →
        length (coins (lines_of d past)) ≤ length (coins (lines_of d (entry.Wire addr sent piece ∷ past))) →
        length (coins_before d past n) ≤ length (coins (lines_of d past)) →
        length (coins (lines_of d (cond b past (before_tap n past))))
        ≤ length (coins (lines_of d (entry.Wire addr sent piece ∷ past)))
    by_test true grown rest = grown
    by_test false grown rest = omega (arith, grown, rest)
fewer d (e ∷ past) n = omega (arith, fewer d past n, coins_grow (own d past e) (lines_of d past))

-- so there are no fewer before a later exchange
rising : (d : DeviceSetup) (past : List Entry) (m n : ℕ) → m ≤ n → n ≤ length (taps past) →
    length (coins_before d past m) ≤ length (coins_before d past n)
rising d [] m n order most = omega arith
rising d (entry.Wire addr sent piece ∷ past) m n order most =
    by_tests (suc (length (taps past)) == m) (suc (length (taps past)) == n) refl refl (rising d past m n order)
  where
    by_tests : (first last : Bool) → (suc (length (taps past)) == m) ≡ first → (suc (length (taps past)) == n) ≡ last →
        (n ≤ length (taps past) → length (coins_before d past m) ≤ length (coins_before d past n)) →
        length (coins (lines_of d (cond first past (before_tap m past))))
        ≤ length (coins (lines_of d (cond last past (before_tap n past))))
    by_tests true true is_first is_last rest = omega arith
    by_tests true false is_first is_last rest = absurd (grind (arith, nat_tests))
    by_tests false true is_first is_last rest = fewer d past m
    by_tests false false is_first is_last rest =
        let below : n ≤ length (taps past) = grind (arith, nat_tests) in rest below
rising d (e ∷ past) m n order most = rising d past m n order most

-- a span begins no earlier than each older one ends
abbrev EndBy : ℕ → List Span → Type 0
EndBy n xs = All (λ x. x.last.number ≤ n) xs

abbrev BeginBy : ℕ → List Span → Type 0
BeginBy n xs = All (λ x. x.first.number ≤ n) xs

abbrev Ordered : List Span → Type 0
Ordered [] = ⊤
Ordered (x ∷ xs) = EndBy x.first.number xs × Ordered xs

-- all spans end by the last reading, and without one there is none
abbrev EndByReading : Option Reading → ℕ → List Span → Type 0
EndByReading None n xs = xs ≡ []
EndByReading (Some r) n xs = (r.number ≤ n) × EndBy r.number xs

record Chain (found : Option Reading) (n : ℕ) (xs : List Span) : Type 0 where
  reads : EndByReading found n xs
  firsts : BeginBy n xs
  ordered : Ordered xs

ordered_on : (s : Shown) (xs : List Span) → Ordered xs → Ordered (map (goes_on s) xs)
ordered_on s [] ordered = tt
ordered_on s (x ∷ xs) ordered = (
  All-map (λ y. y.last.number ≤ x.first.number) (goes_on s) xs ordered.0,
  ordered_on s xs ordered.1,
)

end_on : (s : Shown) (m n : ℕ) (xs : List Span) → m ≤ n → EndBy m xs → EndBy n (map (goes_on s) xs)
end_on s m n xs more ends =
    All-map (λ y. y.last.number ≤ n) (goes_on s) xs
    (All-weaker (λ (y : Span). y.last.number ≤ m) (λ (y : Span). y.last.number ≤ n) (λ y is. omega (arith, is, more)) xs
    ends)

begin_on : (s : Shown) (m n : ℕ) (xs : List Span) → m ≤ n → BeginBy m xs → BeginBy n (map (goes_on s) xs)
begin_on s m n xs more begins =
    All-map (λ y. y.first.number ≤ n) (goes_on s) xs
    (All-weaker (λ (y : Span). y.first.number ≤ m) (λ (y : Span). y.first.number ≤ n)
    (λ y is. omega (arith, is, more)) xs begins)

reads_on : (s : Shown) (found : Option Reading) (n : ℕ) (xs : List Span) → EndByReading found n xs →
    EndByReading (after_it s found) (suc n) (map (goes_on s) xs)
reads_on s None n xs reads = ap (map (goes_on s)) reads
reads_on s (Some r) n xs reads =
    (omega (arith, reads.0), end_on s r.number r.number xs (omega arith) reads.1)

chain_on : (s : Shown) (found : Option Reading) (n : ℕ) (xs : List Span) → Chain found n xs →
    Chain (after_it s found) (suc n) (map (goes_on s) xs)
chain_on s found n xs chain = record {
  reads = reads_on s found n xs chain.reads;
  firsts = begin_on s n (suc n) xs (omega arith) chain.firsts;
  ordered = ordered_on s xs chain.ordered;
}

chain_new : (c : Credits) (found : Option Reading) (n : ℕ) (xs : List Span) → Chain found n xs →
    Chain (Some (new_reading (suc n) c)) (suc n) (spans_by (Read c) found (suc n) ++ map (goes_on (Read c)) xs)
chain_new c None n xs chain =
    subst (λ ys. Chain (Some (new_reading (suc n) c)) (suc n) ys) (sym (ap (map (goes_on (Read c))) chain.reads)) (record {
      reads = (omega arith, All-nil (λ (y : Span). y.last.number ≤ suc n));
      firsts = All-nil (λ (y : Span). y.first.number ≤ suc n);
      ordered = tt;
    })
chain_new c (Some r) n xs chain =
    let x : Span = record { first = r; last = new_reading (suc n) c } in
    let older = map (goes_on (Read c)) xs in
    let low : r.number ≤ suc n = omega (arith, chain.reads.0) in
    record {
      reads = (
        omega arith,
        All-cons (λ (y : Span). y.last.number ≤ suc n) x older (omega arith)
            (end_on (Read c) r.number (suc n) xs low chain.reads.1),
      );
      firsts = All-cons (λ (y : Span). y.first.number ≤ suc n) x older low
          (begin_on (Read c) n (suc n) xs (omega arith) chain.firsts);
      ordered = (end_on (Read c) r.number r.number xs (omega arith) chain.reads.1, ordered_on (Read c) xs chain.ordered);
    }

chain : (shows : List Shown) → Chain (last_reading shows) (length shows) (spans shows)
chain [] = record { reads = refl; firsts = All-nil (λ (y : Span). y.first.number ≤ 0); ordered = tt }
chain (Read c ∷ past) = chain_new c (last_reading past) (length past) (spans past) (chain past)
chain (Masked mask ∷ past) = chain_on (Masked mask) (last_reading past) (length past) (spans past) (chain past)
chain (Set ∷ past) = chain_on Set (last_reading past) (length past) (spans past) (chain past)
chain (Nothing ∷ past) = chain_on Nothing (last_reading past) (length past) (spans past) (chain past)

-- so no coin is in two
two_apart : (d : DeviceSetup) (past : List Entry) (x y : Span) → y.last.number ≤ x.first.number →
    x.first.number ≤ length (taps past) → (i : ℕ) → StandsIn d past i x → StandsIn d past i y → ⊥
two_apart d past x y order most i in_x in_y =
    let more = rising d past y.last.number x.first.number order most in omega (arith, more, in_x.0, in_y.1)

are_apart : (d : DeviceSetup) (past : List Entry) (xs : List Span) → Ordered xs → BeginBy (length (taps past)) xs →
    AreApart d past xs
are_apart d past [] ordered begins = tt
are_apart d past (x ∷ xs) ordered begins =
    let most = All-head (λ (y : Span). y.first.number ≤ length (taps past)) x xs begins in (
      All-weaker (λ (y : Span). y.last.number ≤ x.first.number)
          (λ (y : Span). (i : ℕ) → StandsIn d past i x → StandsIn d past i y → ⊥)
          (λ y order. two_apart d past x y order most) xs ordered.0,
      are_apart d past xs ordered.1 (All-tail (λ (y : Span). y.first.number ≤ length (taps past)) x xs begins),
    )

pub apart : (d : DeviceSetup) (past : List Entry) → AreApart d past (spans (looks d past))
apart d past =
    let all = chain (looks d past) in
    are_apart d past (spans (looks d past)) all.ordered
    (subst (λ n. BeginBy n (spans (looks d past))) (length-map (taps past) (shown d.kind d.addr)) all.firsts)
