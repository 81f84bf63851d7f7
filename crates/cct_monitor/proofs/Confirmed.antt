-- What a tap makes sure are the spans that it confirms.
use Rattle.std.proofs.Common.{◌≡◌, ℕ, suc, ◌==◌, ◌&&◌, ◌||◌, not, Bool, true, false, cond, List, [], ◌∷◌, ◌++◌, map, filter, flat_map, length, reverse, refl, sym, ap, ap₂, ◌∙◌, Option, Some, None, true≢false}
use Rattle.std.specs.List.{list_any}
use Rattle.cct_audit_taps.specs.declared.shown.Shown.{Shown}
use Rattle.cct_audit_taps.specs.declared.shown.Shown.TheVariants.{Read, Masked, Set, Nothing}
use Rattle.cct_audit_taps.specs.declared.said.Said.{Said}
use Rattle.cct_monitor.specs.Spans.{Reading, Span, doubted, goes_on, is_whole, last_reading, leaves_open, new_reading, refused, said_at, spans, spans_by, surely, turned, waits}
use Rattle.cct_monitor.specs.Confirmed.{confirms, ends_window, has_mask, is_confirmed, is_sure, window}

-- a window that nothing ended is all
pub whole_window : (after : List Shown) → list_any ends_window after ≡ false → window after ≡ after
whole_window [] open_yet = refl
whole_window (s ∷ after) open_yet = ap (λ b. cond b (window after) (s ∷ after)) open_yet

-- what doesn't leave a window open ends it, or shows a mask
not_open : (s : Shown) → not (leaves_open s) ≡ (ends_window s || has_mask s)
not_open (Read c) = refl
not_open (Masked mask) = refl
not_open Set = refl
not_open Nothing = refl

or_apart : (a b x y : Bool) → ((a || b) || (x || y)) ≡ ((a || x) || (b || y))
or_apart true b x y = refl
or_apart false true true y = refl
or_apart false true false y = refl
or_apart false false x y = refl

any_not_open : (after : List Shown) →
    list_any (λ s. not (leaves_open s)) after ≡ (list_any ends_window after || list_any has_mask after)
any_not_open [] = refl
any_not_open (s ∷ after) =
    ap₂ (λ a b. a || b) (not_open s) (any_not_open after)
    ∙ or_apart (ends_window s) (has_mask s) (list_any ends_window after) (list_any has_mask after)

shows_one : (s : Shown) → ends_window s ≡ true → has_mask s ≡ false
shows_one (Read c) ends = refl
shows_one (Masked mask) ends = absurd cc
shows_one Set ends = refl
shows_one Nothing ends = absurd cc

none_both : (b : Bool) → (b && not b) ≡ false
none_both true = refl
none_both false = refl

never : (b : Bool) → (b && false) ≡ false
never true = refl
never false = refl

added : (mask before : Bool) → ((mask || before) && not before) ≡ (mask && not before)
added true true = refl
added true false = refl
added false true = refl
added false false = refl

by_tests : (whole ends ended mask before in_window : Bool) → (ended ≡ false → in_window ≡ before) →
    (ends ≡ true → mask ≡ false) →
    ((whole && cond (ends || ended) in_window (mask || before)) && not (whole && in_window))
    ≡ (mask && (whole && not (ended || before)))
by_tests false ends ended mask before in_window all one = sym (never mask)
by_tests true true ended true before in_window all one = absurd (true≢false (one refl))
by_tests true true ended false before in_window all one = none_both in_window
by_tests true false true mask before in_window all one = none_both in_window ∙ sym (never mask)
by_tests true false false mask before in_window all one =
    ap (λ b. (mask || before) && not b) (all refl) ∙ added mask before

-- whether a mask was shown in a window that a tap ends, or not
by_end : (s : Shown) (x : Span) (ended : Bool) →
    list_any has_mask (cond ended (window x.last.after) (s ∷ x.last.after))
    ≡ cond ended (list_any has_mask (window x.last.after)) (has_mask s || list_any has_mask x.last.after)
by_end s x true = refl
by_end s x false = refl

-- a tap confirms a span that waits, by its mask
pub confirms_is : (s : Shown) (x : Span) → confirms s x ≡ (has_mask s && waits x)
confirms_is s x =
    ap (λ b. (is_whole x && b) && not (is_whole x && list_any has_mask (window x.last.after))) (by_end s x (ends_window s || list_any ends_window x.last.after))
    ∙ by_tests (is_whole x) (ends_window s) (list_any ends_window x.last.after) (has_mask s)
    (list_any has_mask x.last.after) (list_any has_mask (window x.last.after))
    (λ open_yet. ap (list_any has_mask) (whole_window x.last.after open_yet)) (shows_one s)
    ∙ ap (λ b. has_mask s && (is_whole x && not b)) (sym (any_not_open x.last.after))

filter_same : (p q : Span → Bool) → ((x : Span) → p x ≡ q x) → (xs : List Span) → filter p xs ≡ filter q xs
filter_same p q same [] = refl
filter_same p q same (x ∷ xs) = ap₂ (λ b ys. cond b (x ∷ ys) ys) (same x) (filter_same p q same xs)

no_spans : List Span
no_spans = []

filter_none : (xs : List Span) → filter (λ x. false) xs ≡ []
filter_none [] = refl
filter_none (x ∷ xs) = filter_none xs

filter_by : (mask : Bool) (xs : List Span) → filter (λ x. mask && waits x) xs ≡ cond mask (filter waits xs) []
filter_by true xs = refl
filter_by false xs = filter_none xs

confirmed_are : (s : Shown) (xs : List Span) → filter (confirms s) xs ≡ cond (has_mask s) (filter waits xs) []
confirmed_are s xs =
    filter_same (confirms s) (λ x. has_mask s && waits x) (confirms_is s) xs ∙ filter_by (has_mask s) xs

-- what is sure among what is said
pub filter_more : (xs ys : List Said) → filter is_sure (xs ++ ys) ≡ filter is_sure xs ++ filter is_sure ys
filter_more [] ys = refl
filter_more (x ∷ xs) ys = by_test (is_sure x) (filter_more xs ys)
  where
    by_test : (sure : Bool) → filter is_sure (xs ++ ys) ≡ filter is_sure xs ++ filter is_sure ys →
        cond sure (x ∷ filter is_sure (xs ++ ys)) (filter is_sure (xs ++ ys))
        ≡ cond sure (x ∷ filter is_sure xs) (filter is_sure xs) ++ filter is_sure ys
    by_test true rest = ap (λ zs. x ∷ zs) rest
    by_test false rest = rest

none_sure : (f : Span → List Said) → ((x : Span) → filter is_sure (f x) ≡ []) → (xs : List Span) →
    filter is_sure (flat_map f xs) ≡ []
none_sure f none [] = refl
none_sure f none (x ∷ xs) =
    filter_more (f x) (flat_map f xs) ∙ ap₂ (λ ys zs. ys ++ zs) (none x) (none_sure f none xs)

refused_none : (addr : ℕ) (x : Span) → filter is_sure (refused addr x) ≡ []
refused_none addr x = by_test (is_whole x)
  where
    by_test : (whole : Bool) → filter is_sure (cond whole [] (doubted addr x ∷ [])) ≡ []
    by_test true = refl
    by_test false = refl

each_sure : (addr : ℕ) (is_zero : Bool) (xs : List Span) →
    filter is_sure (flat_map (λ x. cond is_zero [] (surely addr x ∷ [])) xs)
    ≡ map (surely addr) (cond (not is_zero) xs [])
each_sure addr true xs = none_sure (λ x. []) (λ x. refl) xs
each_sure addr false [] = refl
each_sure addr false (x ∷ xs) = ap (λ ys. surely addr x ∷ ys) (each_sure addr false xs)

turned_sure : (addr : ℕ) (s : Shown) (xs : List Span) →
    filter is_sure (flat_map (turned addr s) xs) ≡ map (surely addr) (cond (has_mask s) xs [])
turned_sure addr (Read c) xs = none_sure (turned addr (Read c)) (λ x. refl) xs
turned_sure addr (Masked mask) xs = each_sure addr (mask == 0) xs
turned_sure addr Set xs = none_sure (turned addr Set) (λ x. refl) xs
turned_sure addr Nothing xs = none_sure (turned addr Nothing) (λ x. refl) xs

turn_round : (mask : Bool) (xs : List Span) → cond mask (reverse xs) [] ≡ reverse (cond mask xs [])
turn_round true xs = refl
turn_round false xs = refl

no_more : (xs : List Said) → xs ++ [] ≡ xs
no_more [] = refl
no_more (x ∷ xs) = ap (λ ys. x ∷ ys) (no_more xs)

pub sure_are : (addr : ℕ) (s : Shown) (past : List Shown) →
    filter is_sure (said_at addr s past) ≡ map (surely addr) (reverse (filter (confirms s) (spans past)))
sure_are addr s past =
    filter_more (flat_map (turned addr s) (reverse (filter waits (spans past))))
    (flat_map (refused addr) (spans_by s (last_reading past) (suc (length past))))
    ∙ ap₂ (λ xs ys. xs ++ ys) (turned_sure addr s (reverse (filter waits (spans past))))
    (none_sure (refused addr) (refused_none addr) (spans_by s (last_reading past) (suc (length past))))
    ∙ no_more (map (surely addr) (cond (has_mask s) (reverse (filter waits (spans past))) []))
    ∙ ap (map (surely addr)) (turn_round (has_mask s) (filter waits (spans past))
    ∙ ap reverse (sym (confirmed_are s (spans past))))

-- one that is confirmed stays so
later : (whole ends ended mask before in_window : Bool) → (ended ≡ false → in_window ≡ before) →
    (whole && in_window) ≡ true →
    (whole && cond (ends || ended) in_window (mask || before)) ≡ true
later false ends ended mask before in_window all is = absurd cc
later true true ended mask before in_window all is = is
later true false true mask before in_window all is = is
later true false false true before in_window all is = refl
later true false false false before in_window all is = sym (all refl) ∙ is

pub stays_confirmed : (s : Shown) (x : Span) → is_confirmed x ≡ true → is_confirmed (goes_on s x) ≡ true
stays_confirmed s x is =
    ap (λ b. is_whole x && b) (by_end s x (ends_window s || list_any ends_window x.last.after))
    ∙ later (is_whole x) (ends_window s) (list_any ends_window x.last.after) (has_mask s)
    (list_any has_mask x.last.after) (list_any has_mask (window x.last.after))
    (λ open_yet. ap (list_any has_mask) (whole_window x.last.after open_yet)) is

-- a new one isn't confirmed yet
pub new_unconfirmed : (s : Shown) (found : Option Reading) (number : ℕ) → filter is_confirmed (spans_by s found number) ≡ []
new_unconfirmed (Read c) (Some r) number =
    let x : Span = record { first = r; last = new_reading number c } in
    ap (λ b. cond b (x ∷ []) []) (never (is_whole x))
new_unconfirmed (Read c) None number = refl
new_unconfirmed (Masked mask) found number = refl
new_unconfirmed Set found number = refl
new_unconfirmed Nothing found number = refl
