-- Each span is said once.
use Rattle.std.proofs.Common.{◌≡◌, ℕ, suc, ◌+◌, ◌<◌, ◌≤◌, ◌==◌, ◌&&◌, not, Bool, true, false, cond, List, [], ◌∷◌, ◌++◌, map, filter, flat_map, length, reverse, refl, sym, ap, ap₂, ◌∙◌, subst, arith, Option, Some, None, eqb-true}
use Rattle.std.specs.Prelude.{⊤}
use Rattle.std.proofs.lemmas.Bool.Decides.{nat_tests}
use Rattle.std.proofs.lemmas.List.{reverse-append}
use Rattle.cct_audit_taps.specs.declared.said.Said.{Said}
use Rattle.cct_audit_taps.specs.declared.said.Said.TheVariants.{Quiet}
use Rattle.cct_audit_taps.specs.declared.shown.Shown.{Shown}
use Rattle.cct_audit_taps.specs.declared.shown.Shown.TheVariants.{Read, Masked, Set, Nothing}
use Rattle.cct_monitor.specs.Confirmed.{confirms, is_confirmed, is_sure}
use Rattle.cct_monitor.specs.Once.{all_quietly, all_said, is_between, is_of}
use Rattle.cct_monitor.specs.Spans.{Reading, Span, coins_of, doubted, goes_on, is_whole, last_reading, leaves_open, new_reading, quiet_at, quietly, refused, said_at, said_last, spans, spans_by, surely, turned, waits}
use Rattle.cct_monitor.proofs.Confirmed.{filter_more, new_unconfirmed, stays_confirmed, sure_are}
use Rattle.cct_monitor.proofs.Machine.{all_wait, none_waits}

-- how many pass a test
abbrev many : {A : Type 0} → (A → Bool) → List A → ℕ
many p xs = length (filter p xs)

abbrev one : Bool → ℕ
one true = 1
one false = 0

-- one that is there or not
maybe_one : {A : Type 0} (p : A → Bool) (x : A) (xs : List A) → many p (x ∷ xs) ≡ one (p x) + many p xs
maybe_one {A} p x xs = by_test (p x)
  where
    by_test : (b : Bool) → length (cond b (x ∷ filter p xs) (filter p xs)) ≡ one b + length (filter p xs)
    by_test true = omega arith
    by_test false = omega arith

filter_both : {A : Type 0} (p : A → Bool) (xs ys : List A) → filter p (xs ++ ys) ≡ filter p xs ++ filter p ys
filter_both p [] ys = refl
filter_both {A} p (x ∷ xs) ys = by_test (p x) (filter_both p xs ys)
  where
    by_test : (b : Bool) → filter p (xs ++ ys) ≡ filter p xs ++ filter p ys →
        cond b (x ∷ filter p (xs ++ ys)) (filter p (xs ++ ys)) ≡ cond b (x ∷ filter p xs) (filter p xs) ++ filter p ys
    by_test true rest = ap (λ zs. x ∷ zs) rest
    by_test false rest = rest

sum_more : (a b c d : ℕ) → c ≡ b + d → a + c ≡ (a + b) + d
sum_more a b c d is = omega arith

many_more : {A : Type 0} (p : A → Bool) (xs ys : List A) → many p (xs ++ ys) ≡ many p xs + many p ys
many_more p [] ys = omega arith
many_more p (x ∷ xs) ys =
    maybe_one p x (xs ++ ys)
    ∙ sum_more (one (p x)) (many p xs) (many p (xs ++ ys)) (many p ys) (many_more p xs ys)
    ∙ ap (λ n. n + many p ys) (sym (maybe_one p x xs))

sum_turned : (a b c : ℕ) → a + b ≡ c → b + a ≡ c
sum_turned a b c is = omega arith

many_turned : {A : Type 0} (p : A → Bool) (xs : List A) → many p (reverse xs) ≡ many p xs
many_turned p [] = refl
many_turned p (x ∷ xs) =
    ap (many p) (reverse-append (x ∷ []) xs)
    ∙ many_more p (reverse xs) (x ∷ [])
    ∙ ap (λ n. n + many p (x ∷ [])) (many_turned p xs)
    ∙ sum_turned (many p (x ∷ [])) (many p xs) (many p (x ∷ xs)) (sym (many_more p (x ∷ []) xs))

-- the spans between two readings stay those, whatever comes after
many_go_on : (f l : ℕ) (s : Shown) (xs : List Span) → many (is_between f l) (map (goes_on s) xs) ≡ many (is_between f l) xs
many_go_on f l s [] = refl
many_go_on f l s (x ∷ xs) =
    maybe_one (is_between f l) (goes_on s x) (map (goes_on s) xs)
    ∙ ap (λ n. one (is_between f l x) + n) (many_go_on f l s xs)
    ∙ sym (maybe_one (is_between f l) x xs)

-- what a tap makes said of the spans that wait
silent : (addr : ℕ) (s : Shown) (x : Span) → leaves_open s ≡ true → turned addr s x ≡ []
silent addr (Read c) x opened = absurd cc
silent addr (Masked mask) x opened = ap (λ b. cond b [] (surely addr x ∷ [])) opened
silent addr Set x opened = absurd cc
silent addr Nothing x opened = refl

all_silent : (addr : ℕ) (s : Shown) (xs : List Span) → leaves_open s ≡ true → flat_map (turned addr s) xs ≡ []
all_silent addr s [] opened = refl
all_silent addr s (x ∷ xs) opened = ap₂ (λ ys zs. ys ++ zs) (silent addr s x opened) (all_silent addr s xs opened)

alone_of : (f l : ℕ) (y : Said) → many (is_of f l) (y ∷ []) ≡ one (is_of f l y)
alone_of f l y = by_test (is_of f l y)
  where
    by_test : (b : Bool) → length (cond b (y ∷ []) []) ≡ one b
    by_test true = refl
    by_test false = refl

turned_one : (f l addr : ℕ) (s : Shown) (x : Span) → leaves_open s ≡ false →
    many (is_of f l) (turned addr s x) ≡ one (is_between f l x)
turned_one f l addr (Read c) x closed = alone_of f l (doubted addr x)
turned_one f l addr (Masked mask) x closed =
    ap (λ b. many (is_of f l) (cond b [] (surely addr x ∷ []))) closed ∙ alone_of f l (surely addr x)
turned_one f l addr Set x closed = alone_of f l (doubted addr x)
turned_one f l addr Nothing x closed = absurd cc

each_turned : (f l addr : ℕ) (s : Shown) (xs : List Span) → leaves_open s ≡ false →
    many (is_of f l) (flat_map (turned addr s) xs) ≡ many (is_between f l) xs
each_turned f l addr s [] closed = refl
each_turned f l addr s (x ∷ xs) closed =
    many_more (is_of f l) (turned addr s x) (flat_map (turned addr s) xs)
    ∙ ap₂ (λ a b. a + b) (turned_one f l addr s x closed) (each_turned f l addr s xs closed)
    ∙ sym (maybe_one (is_between f l) x xs)

none_and : (n : ℕ) → 0 + n ≡ n
none_and n = omega arith

and_none : (n : ℕ) → n + 0 ≡ n
and_none n = omega arith

-- each that waited is said, or waits still
moved : (f l addr : ℕ) (s : Shown) (xs : List Span) →
    many (is_of f l) (flat_map (turned addr s) (reverse (filter waits xs)))
    + many (is_between f l) (filter waits (map (goes_on s) xs))
    ≡ many (is_between f l) (filter waits xs)
moved f l addr s xs = by_open (leaves_open s) refl
  where
    by_open : (b : Bool) → leaves_open s ≡ b →
        many (is_of f l) (flat_map (turned addr s) (reverse (filter waits xs)))
        + many (is_between f l) (filter waits (map (goes_on s) xs))
        ≡ many (is_between f l) (filter waits xs)
    by_open true opened =
        ap₂ (λ a b. a + b) (ap (many (is_of f l)) (all_silent addr s (reverse (filter waits xs)) opened))
        (ap (many (is_between f l)) (all_wait s xs opened) ∙ many_go_on f l s (filter waits xs))
        ∙ none_and (many (is_between f l) (filter waits xs))
    by_open false closed =
        ap₂ (λ a b. a + b)
        (each_turned f l addr s (reverse (filter waits xs)) closed ∙ many_turned (is_between f l) (filter waits xs))
        (ap (many (is_between f l)) (none_waits s xs closed))
        ∙ and_none (many (is_between f l) (filter waits xs))

-- a new span is said, or waits
begun : (f l addr number : ℕ) (s : Shown) (found : Option Reading) →
    many (is_of f l) (flat_map (refused addr) (spans_by s found number))
    + many (is_between f l) (filter waits (spans_by s found number))
    ≡ many (is_between f l) (spans_by s found number)
begun f l addr number (Read c) (Some r) = by_whole (is_whole x)
  where
    x : Span
    x = record { first = r; last = new_reading number c }

    by_test : (b : Bool) → length (cond b (doubted addr x ∷ []) []) + 0 ≡ length (cond b (x ∷ []) [])
    by_test true = omega arith
    by_test false = omega arith

    by_whole : (whole : Bool) →
        many (is_of f l) (cond whole [] (doubted addr x ∷ []) ++ [])
        + many (is_between f l) (cond (whole && true) (x ∷ []) [])
        ≡ many (is_between f l) (x ∷ [])
    by_whole true = none_and (many (is_between f l) (x ∷ []))
    by_whole false = by_test (is_between f l x)
begun f l addr number (Read c) None = omega arith
begun f l addr number (Masked mask) found = omega arith
begun f l addr number Set found = omega arith
begun f l addr number Nothing found = omega arith

total : (before turned_now refused_now waited waits_new waits_still new_spans old_spans : ℕ) →
    before + waited ≡ old_spans → turned_now + waits_still ≡ waited → refused_now + waits_new ≡ new_spans →
    (before + (turned_now + refused_now)) + (waits_new + waits_still) ≡ new_spans + old_spans
total a b c d e f g h i j k = omega arith

-- each span is said, or waits
balance : (f l addr : ℕ) (past : List Shown) →
    many (is_of f l) (all_said addr past) + many (is_between f l) (filter waits (spans past))
    ≡ many (is_between f l) (spans past)
balance f l addr [] = omega arith
balance f l addr (s ∷ past) =
    let new = spans_by s (last_reading past) (suc (length past)) in
    let waiting = reverse (filter waits (spans past)) in
    let said : many (is_of f l) (all_said addr (s ∷ past))
    ≡ many (is_of f l) (all_said addr past)
    + (many (is_of f l) (flat_map (turned addr s) waiting) + many (is_of f l) (flat_map (refused addr) new)) =
    many_more (is_of f l) (all_said addr past) (said_at addr s past)
    ∙ ap (λ n. many (is_of f l) (all_said addr past) + n)
    (many_more (is_of f l) (flat_map (turned addr s) waiting) (flat_map (refused addr) new)) in
    let wait : many (is_between f l) (filter waits (spans (s ∷ past)))
    ≡ many (is_between f l) (filter waits new) + many (is_between f l) (filter waits (map (goes_on s) (spans past))) =
    ap (many (is_between f l)) (filter_both waits new (map (goes_on s) (spans past)))
    ∙ many_more (is_between f l) (filter waits new) (filter waits (map (goes_on s) (spans past))) in
    let all : many (is_between f l) (spans (s ∷ past)) ≡ many (is_between f l) new + many (is_between f l) (spans past) =
    many_more (is_between f l) new (map (goes_on s) (spans past))
    ∙ ap (λ n. many (is_between f l) new + n) (many_go_on f l s (spans past)) in
    ap₂ (λ a b. a + b) said wait
    ∙ total (many (is_of f l) (all_said addr past)) (many (is_of f l) (flat_map (turned addr s) waiting))
    (many (is_of f l) (flat_map (refused addr) new)) (many (is_between f l) (filter waits (spans past)))
    (many (is_between f l) (filter waits new)) (many (is_between f l) (filter waits (map (goes_on s) (spans past))))
    (many (is_between f l) new) (many (is_between f l) (spans past)) (balance f l addr past)
    (moved f l addr s (spans past)) (begun f l addr (suc (length past)) s (last_reading past))
    ∙ sym all

-- of an acceptor that is watched for resets alone each is said at once
one_quietly : (f l addr : ℕ) (x : Span) → is_of f l (quietly addr x) ≡ is_between f l x
one_quietly f l addr x = by_test (is_whole x)
  where
    by_test : (whole : Bool) →
        is_of f l (cond whole (Quiet addr x.first.number x.last.number (coins_of x)) (doubted addr x)) ≡ is_between f l x
    by_test true = refl
    by_test false = refl

each_quietly : (f l addr : ℕ) (xs : List Span) → many (is_of f l) (map (quietly addr) xs) ≡ many (is_between f l) xs
each_quietly f l addr [] = refl
each_quietly f l addr (x ∷ xs) =
    maybe_one (is_of f l) (quietly addr x) (map (quietly addr) xs)
    ∙ ap₂ (λ b n. one b + n) (one_quietly f l addr x) (each_quietly f l addr xs)
    ∙ sym (maybe_one (is_between f l) x xs)

pub quietly_once : (f l addr : ℕ) (past : List Shown) →
    length (filter (is_of f l) (all_quietly addr past)) ≡ length (filter (is_between f l) (spans past))
quietly_once f l addr [] = refl
quietly_once f l addr (s ∷ past) =
    let new = spans_by s (last_reading past) (suc (length past)) in
    many_more (is_of f l) (all_quietly addr past) (quiet_at addr s past)
    ∙ ap₂ (λ a b. a + b) (quietly_once f l addr past) (each_quietly f l addr new)
    ∙ sum_turned (many (is_between f l) new) (many (is_between f l) (spans past)) (many (is_between f l) (spans (s ∷ past)))
    (sym (many_more (is_between f l) new (map (goes_on s) (spans past))
    ∙ ap (λ n. many (is_between f l) new + n) (many_go_on f l s (spans past))))

-- at the end, each that waits is said
each_doubted : (f l addr : ℕ) (xs : List Span) → many (is_of f l) (map (doubted addr) xs) ≡ many (is_between f l) xs
each_doubted f l addr [] = refl
each_doubted f l addr (x ∷ xs) =
    maybe_one (is_of f l) (doubted addr x) (map (doubted addr) xs)
    ∙ ap (λ n. one (is_between f l x) + n) (each_doubted f l addr xs)
    ∙ sym (maybe_one (is_between f l) x xs)

pub said_once : (f l addr : ℕ) (past : List Shown) →
    length (filter (is_of f l) (all_said addr past ++ said_last addr past)) ≡ length (filter (is_between f l) (spans past))
said_once f l addr past =
    many_more (is_of f l) (all_said addr past) (said_last addr past)
    ∙ ap (λ n. many (is_of f l) (all_said addr past) + n)
    (each_doubted f l addr (reverse (filter waits (spans past))) ∙ many_turned (is_between f l) (filter waits (spans past)))
    ∙ balance f l addr past

-- each is confirmed that was, or that the tap confirms
chosen : (f l : ℕ) (x : Span) (b : Bool) (xs : List Span) →
    many (is_between f l) (cond b (x ∷ xs) xs) ≡ cond b (one (is_between f l x)) 0 + many (is_between f l) xs
chosen f l x true xs = maybe_one (is_between f l) x xs
chosen f l x false xs = omega arith

either_way : (now before : Bool) (n : ℕ) → (before ≡ true → now ≡ true) →
    cond now n 0 ≡ cond before n 0 + cond (now && not before) n 0
either_way true true n stays = omega arith
either_way true false n stays = omega arith
either_way false true n stays = absurd (let same : false ≡ true = stays refl in cc)
either_way false false n stays = omega arith

sum_both : (now before confirmed rest old fresh : ℕ) → now ≡ before + confirmed → rest ≡ old + fresh →
    now + rest ≡ (before + old) + (confirmed + fresh)
sum_both a b c d e f g h = omega arith

more_confirmed : (f l : ℕ) (s : Shown) (xs : List Span) →
    many (is_between f l) (filter is_confirmed (map (goes_on s) xs))
    ≡ many (is_between f l) (filter is_confirmed xs) + many (is_between f l) (filter (confirms s) xs)
more_confirmed f l s [] = omega arith
more_confirmed f l s (x ∷ xs) =
    chosen f l (goes_on s x) (is_confirmed (goes_on s x)) (filter is_confirmed (map (goes_on s) xs))
    ∙ sum_both (cond (is_confirmed (goes_on s x)) (one (is_between f l x)) 0)
    (cond (is_confirmed x) (one (is_between f l x)) 0) (cond (confirms s x) (one (is_between f l x)) 0)
    (many (is_between f l) (filter is_confirmed (map (goes_on s) xs))) (many (is_between f l) (filter is_confirmed xs))
    (many (is_between f l) (filter (confirms s) xs))
    (either_way (is_confirmed (goes_on s x)) (is_confirmed x) (one (is_between f l x)) (stays_confirmed s x))
    (more_confirmed f l s xs)
    ∙ ap₂ (λ a b. a + b) (sym (chosen f l x (is_confirmed x) (filter is_confirmed xs)))
    (sym (chosen f l x (confirms s x) (filter (confirms s) xs)))

each_surely : (f l addr : ℕ) (xs : List Span) → many (is_of f l) (map (surely addr) xs) ≡ many (is_between f l) xs
each_surely f l addr [] = refl
each_surely f l addr (x ∷ xs) =
    maybe_one (is_of f l) (surely addr x) (map (surely addr) xs)
    ∙ ap (λ n. one (is_between f l x) + n) (each_surely f l addr xs)
    ∙ sym (maybe_one (is_between f l) x xs)

pub sure_once : (f l addr : ℕ) (past : List Shown) →
    length (filter (is_of f l) (filter is_sure (all_said addr past)))
    ≡ length (filter (is_between f l) (filter is_confirmed (spans past)))
sure_once f l addr [] = refl
sure_once f l addr (s ∷ past) =
    let new = spans_by s (last_reading past) (suc (length past)) in
    let confirmed = filter (confirms s) (spans past) in
    let said : many (is_of f l) (filter is_sure (all_said addr (s ∷ past)))
    ≡ many (is_between f l) (filter is_confirmed (spans past)) + many (is_between f l) confirmed =
    ap (many (is_of f l)) (filter_more (all_said addr past) (said_at addr s past))
    ∙ many_more (is_of f l) (filter is_sure (all_said addr past)) (filter is_sure (said_at addr s past))
    ∙ ap₂ (λ a b. a + b) (sure_once f l addr past)
    (ap (many (is_of f l)) (sure_are addr s past) ∙ each_surely f l addr (reverse confirmed)
    ∙ many_turned (is_between f l) confirmed) in
    let are : filter is_confirmed (spans (s ∷ past)) ≡ filter is_confirmed (map (goes_on s) (spans past)) =
    filter_both is_confirmed new (map (goes_on s) (spans past))
    ∙ ap (λ ys. ys ++ filter is_confirmed (map (goes_on s) (spans past)))
    (new_unconfirmed s (last_reading past) (suc (length past))) in
    said ∙ sym (more_confirmed f l s (spans past)) ∙ ap (many (is_between f l)) (sym are)

-- the last readings of spans stand below a number
abbrev Below : ℕ → List Span → Type 0
Below n [] = ⊤
Below n (x ∷ xs) = (x.last.number ≤ n) × Below n xs

below_both : (n : ℕ) (xs ys : List Span) → Below n xs → Below n ys → Below n (xs ++ ys)
below_both n [] ys h k = k
below_both n (x ∷ xs) ys h k = (h.0, below_both n xs ys h.1 k)

below_more : (n : ℕ) (s : Shown) (xs : List Span) → Below n xs → Below (suc n) (map (goes_on s) xs)
below_more n s [] h = tt
below_more n s (x ∷ xs) h = let under : x.last.number ≤ n = h.0 in (omega arith, below_more n s xs h.1)

below_new : (n : ℕ) (s : Shown) (found : Option Reading) → Below n (spans_by s found n)
below_new n (Read c) (Some r) = (omega arith, tt)
below_new n (Read c) None = tt
below_new n (Masked mask) found = tt
below_new n Set found = tt
below_new n Nothing found = tt

all_below : (past : List Shown) → Below (length past) (spans past)
all_below [] = tt
all_below (s ∷ past) =
    below_both (suc (length past)) (spans_by s (last_reading past) (suc (length past))) (map (goes_on s) (spans past))
    (below_new (suc (length past)) s (last_reading past)) (below_more (length past) s (spans past) (all_below past))

other : (b : Bool) (n l : ℕ) → (n == l) ≡ false → one (b && (n == l)) ≡ 0
other true n l differs = ap one differs
other false n l differs = refl

none_at : (f l n : ℕ) (xs : List Span) → n < l → Below n xs → many (is_between f l) xs ≡ 0
none_at f l n [] past_all h = refl
none_at f l n (x ∷ xs) past_all h =
    let under : x.last.number ≤ n = h.0 in
    let differs : (x.last.number == l) ≡ false = grind (arith, nat_tests) in
    maybe_one (is_between f l) x xs
    ∙ ap₂ (λ a b. a + b) (other (x.first.number == f) x.last.number l differs) (none_at f l n xs past_all h.1)

one_at_most : (b : Bool) → one b ≤ 1
one_at_most true = omega arith
one_at_most false = omega arith

-- a new span is between two readings as no older one is
first_new : (f l n : ℕ) (s : Shown) (found : Option Reading) (old : ℕ) → old ≤ 1 → (n < l + 1 → old ≡ 0) →
    (xs : List Span) → xs ≡ spans_by s found n → many (is_between f l) xs + old ≤ 1
first_new f l n s found old few none xs is = first_found xs s found is
  where
    few_new : (x : Span) → x.last.number ≡ n → one (is_between f l x) + old ≤ 1
    few_new x at = by_test (x.last.number == l) refl
      where
        by_test : (b : Bool) → (x.last.number == l) ≡ b → one (is_between f l x) + old ≤ 1
        by_test true same =
            let is_l : x.last.number ≡ l = eqb-true x.last.number l same in
            let gone : old ≡ 0 = none (omega arith) in
            let some = one_at_most (is_between f l x) in omega arith
        by_test false differs =
            let zero_new : one (is_between f l x) ≡ 0 = other (x.first.number == f) x.last.number l differs in omega arith

    first_found : (xs : List Span) (s : Shown) (found : Option Reading) → xs ≡ spans_by s found n →
        many (is_between f l) xs + old ≤ 1
    first_found xs (Read c) (Some r) is =
        let x : Span = record { first = r; last = new_reading n c } in
        let few_here = few_new x refl in
        let alone : many (is_between f l) xs ≡ one (is_between f l x) + 0 =
        ap (many (is_between f l)) is ∙ maybe_one (is_between f l) x [] in
        omega arith
    first_found xs (Read c) None is =
        let nothing : many (is_between f l) xs ≡ 0 = ap (many (is_between f l)) is in omega arith
    first_found xs (Masked mask) found is =
        let nothing : many (is_between f l) xs ≡ 0 = ap (many (is_between f l)) is in omega arith
    first_found xs Set found is =
        let nothing : many (is_between f l) xs ≡ 0 = ap (many (is_between f l)) is in omega arith
    first_found xs Nothing found is =
        let nothing : many (is_between f l) xs ≡ 0 = ap (many (is_between f l)) is in omega arith

pub one_between : (f l : ℕ) (past : List Shown) → length (filter (is_between f l) (spans past)) ≤ 1
one_between f l [] = omega arith
one_between f l (s ∷ past) =
    let new = spans_by s (last_reading past) (suc (length past)) in
    let all : many (is_between f l) (spans (s ∷ past)) ≡ many (is_between f l) new + many (is_between f l) (spans past) =
    many_more (is_between f l) new (map (goes_on s) (spans past))
    ∙ ap (λ n. many (is_between f l) new + n) (many_go_on f l s (spans past)) in
    let few : many (is_between f l) new + many (is_between f l) (spans past) ≤ 1 =
    first_new f l (suc (length past)) s (last_reading past) (many (is_between f l) (spans past)) (one_between f l past)
    (λ later. none_at f l (length past) (spans past) (omega arith) (all_below past)) new refl in
    subst (λ n. n ≤ 1) (sym all) few
