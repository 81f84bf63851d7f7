-- A span is confirmed just where no setting came between its readings, few pieces came, and a tap of its window shows a mask.
use Rattle.std.proofs.Common.{◌≡◌, ◌≢◌, ℕ, suc, ◌+◌, ◌<◌, ◌≤◌, ◌==◌, ◌||◌, ◌&&◌, nat_le, not, Bool, true, false, cond, List, [], ◌∷◌, ◌++◌, map, length, refl, sym, ap, ap₂, ◌∙◌, subst, subst₂, arith, Option, Some, None, All, Contains, length-append, true≢false}
use Rattle.std.specs.List.{list_any}
use Rattle.std.proofs.lemmas.Bool.{and_parts, or_parts, eq-eqb}
use Rattle.std.proofs.lemmas.Bool.Decides.{nat_tests}
use Rattle.std.proofs.lemmas.List.Elements.{All-append, All-cons, All-map, All-nil, All-weaker}
use Rattle.cct_model.specs.terms.coin.Credits.{Credits}
use Rattle.cct_model.specs.terms.device.DeviceSetup.{DeviceSetup}
use Rattle.cct_model.specs.terms.device.Setup.{Setup}
use Rattle.cct_model.specs.lines.entry.Entry.{Entry}
use Rattle.cct_audit_taps.specs.declared.said.Said.{Said}
use Rattle.cct_model.specs.Acceptor.{counter, credits_in}
use Rattle.cct_model.specs.Device.{IsAcceptor}
use Rattle.cct_model.specs.Honest.{HonestPast}
use Rattle.cct_model.specs.Reading.{distance}
use Rattle.cct_model.specs.Setup.{IsSoundSetup}
use Rattle.cct_laws.specs.Law.{IsOf}
use Rattle.cct_audit_taps.specs.declared.shown.Shown.{Shown}
use Rattle.cct_audit_taps.specs.declared.shown.Shown.TheVariants.{Read, Masked, Set, Nothing}
use Rattle.cct_monitor.specs.Confirmed.{ends_window, has_mask, is_confirmed, window}
use Rattle.cct_monitor.specs.Spans.{Reading, Span, are_near, coins_of, goes_on, is_set, is_whole, last_reading, spans, spans_by, surely}
use Rattle.cct_monitor.specs.Once.{all_said}
use Rattle.cct_audit_taps.specs.Taps.{shown}
use Rattle.cct_monitor.specs.declared.watched.Family.TheVariants as watched_as
use Rattle.cct_monitor.specs.Watches.{Watch, all_told, made_tap, made_watch}
use Rattle.cct_monitor.proofs.Confirmed.{whole_window}
use Rattle.cct_monitor.proofs.Reported.{IsSaid, all_both, confirmed_said, told_of_one}
use Rattle.cct_laws_any_host.specs.Wild.{WildStep, WildFrom, before_tap, taps}
use Rattle.cct_laws_any_host.specs.Claims.{IsOfFamily, IsPlain, IsSureWherePlain, IsToldWhole, IsWatchOf, looks}
use Rattle.cct_laws_any_host.proofs.Moments.{World, Behind, Runs, Shows}
use Rattle.cct_laws_any_host.proofs.Sure.{SpanIn, all_spans, behind_told}
use Rattle.cct_laws_any_host.proofs.Acceptors.{acceptor_runs, world_of}

-- where a tap of the window shows a mask, some coin was let in at the last reading
abbrev IsMasked : (ℕ → World) → Span → Type 0
IsMasked at x = list_any has_mask (window x.last.after) ≡ true → (at x.last.number).mask ≢ 0

mask_shown : (s : Shown) (before : World) → has_mask s ≡ true → Shows s before → before.mask ≢ 0
mask_shown (Masked mask) before some shows = λ none. absurd (true≢false (sym some ∙ ap not (eq-eqb mask 0 (shows ∙ none))))
mask_shown (Read c) before some shows = absurd cc
mask_shown Set before some shows = absurd cc
mask_shown Nothing before some shows = absurd cc

unset_by : (s : Shown) → ends_window s ≡ false → is_set s ≡ false
unset_by (Read c) ends = refl
unset_by (Masked mask) ends = refl
unset_by Set ends = ends
unset_by Nothing ends = refl

unset_all : (after : List Shown) → list_any ends_window after ≡ false → list_any is_set after ≡ false
unset_all [] none = refl
unset_all (s ∷ after) none =
    let parts = or_parts (ends_window s) (list_any ends_window after) none in
    ap₂ (λ a b. a || b) (unset_by s parts.0) (unset_all after parts.1)

masked_on : (at : ℕ → World) (before : World) (s : Shown) (x : Span) → Shows s before → SpanIn at before x →
    IsMasked at x → IsMasked at (goes_on s x)
masked_on at before s x shows is masked = by_end (ends_window s || list_any ends_window x.last.after) refl
  where
    by_mask : (some : Bool) → has_mask s ≡ some → list_any ends_window x.last.after ≡ false →
        (some || list_any has_mask x.last.after) ≡ true → (at x.last.number).mask ≢ 0
    by_mask true some none found =
        (is.last.quiet (unset_all x.last.after none) (mask_shown s before some shows)).masked
    by_mask false some none found =
        masked (ap (list_any has_mask) (whole_window x.last.after none) ∙ found)

    by_end : (ended : Bool) → (ends_window s || list_any ends_window x.last.after) ≡ ended →
        list_any has_mask (cond ended (window x.last.after) (s ∷ x.last.after)) ≡ true → (at x.last.number).mask ≢ 0
    by_end true ends found = masked found
    by_end false ends found =
        by_mask (has_mask s) refl (or_parts (ends_window s) (list_any ends_window x.last.after) ends).1 found

new_masked : (at : ℕ → World) (s : Shown) (found : Option Reading) (number : ℕ) → All (IsMasked at) (spans_by s found number)
new_masked at (Read c) (Some r) number = All-cons (IsMasked at) _ [] (λ none. absurd cc) (All-nil (IsMasked at))
new_masked at (Read c) None number = All-nil (IsMasked at)
new_masked at (Masked mask) found number = All-nil (IsMasked at)
new_masked at Set found number = All-nil (IsMasked at)
new_masked at Nothing found number = All-nil (IsMasked at)

all_masked : (at : ℕ → World) (shows : List Shown) (now : World) → Runs at shows now → All (IsMasked at) (spans shows)
all_masked at [] now runs = All-nil (IsMasked at)
all_masked at (s ∷ past) now runs =
    let before = at (suc (length past)) in
    All-append (IsMasked at) (spans_by s (last_reading past) (suc (length past))) (map (goes_on s) (spans past))
    (new_masked at s (last_reading past) (suc (length past)))
    (All-map (IsMasked at) (goes_on s) (spans past)
    (All-weaker (λ x. SpanIn at before x × IsMasked at x) (λ x. IsMasked at (goes_on s x))
    (λ x is. masked_on at before s x runs.0 is.0 is.1) (spans past)
    (all_both (SpanIn at before) (IsMasked at) (spans past) (all_spans at past before runs.2)
    (all_masked at past before runs.2))))

-- event counters show a whole where few events came
pub near_where_few : (new old : ℕ) → new ≤ 5 → are_near (counter old) (counter (new + old)) ≡ true
unfolding distance
near_where_few new old few = grind (arith, nat_tests)

few_where_near : (new old : ℕ) → new < 255 → are_near (counter old) (counter (new + old)) ≡ true → new ≤ 5
unfolding distance
few_where_near new old less near = grind (arith, nat_tests)

-- the event counters of a span after whose last reading all that came are events
pub counters_are : (first last : Credits) (w v : World) (is : Behind w v) → first ≡ credits_in w.events →
    last ≡ credits_in v.events →
    are_near first.counter last.counter
    ≡ are_near (counter (length w.events)) (counter (length is.new + length w.events))
counters_are first last w v is first_is last_is =
    ap₂ are_near (ap (λ (c : Credits). c.counter) first_is)
    (ap (λ (c : Credits). c.counter) last_is
    ∙ ap (λ es. counter (length es)) is.events_are
    ∙ ap counter (length-append is.new w.events))

is_false : (b : Bool) → not b ≡ true → b ≡ false
is_false true test = absurd cc
is_false false test = refl

pub both_true : (a b : Bool) → a ≡ true → b ≡ true → (a && b) ≡ true
both_true a b is also = rw (is, also) refl

-- what is so of a span at its moments
record PlainAt (at : ℕ → World) (x : Span) : Type 0 where
  unset : list_any is_set x.first.after ≡ false
  few : (at x.last.number).came ≤ (at x.first.number).came + 5
  masked : list_any has_mask (window x.last.after) ≡ true

plain_where_sure : (at : ℕ → World) (now : World) (x : Span) → SpanIn at now x → IsMasked at x →
    (at x.last.number).came < (at x.first.number).came + 255 → is_confirmed x ≡ true → PlainAt at x
plain_where_sure at now x is masked less confirmed =
    let w = at x.first.number in
    let v = at x.last.number in
    let parts = and_parts (is_whole x) (list_any has_mask (window x.last.after)) confirmed in
    let whole = and_parts (not (list_any is_set x.first.after)) (are_near x.first.credits.counter x.last.credits.counter)
    parts.0 in
    let unset = is_false (list_any is_set x.first.after) whole.0 in
    let between : Behind w v = is.quiet unset (masked parts.1) in
    let less_new : length between.new < 255 = omega (arith, less, between.came_are) in
    let few : length between.new ≤ 5 =
    few_where_near (length between.new) (length w.events) less_new
    (sym (counters_are x.first.credits x.last.credits w v between is.first_is is.last.credits_are) ∙ whole.1) in
    record { unset = unset; few = omega (arith, few, between.came_are); masked = parts.1 }

sure_where_plain : (at : ℕ → World) (now : World) (x : Span) → SpanIn at now x → IsMasked at x → PlainAt at x →
    is_confirmed x ≡ true
sure_where_plain at now x is masked plain =
    let w = at x.first.number in
    let v = at x.last.number in
    let between : Behind w v = is.quiet plain.unset (masked plain.masked) in
    let few : length between.new ≤ 5 = omega (arith, plain.few, between.came_are) in
    both_true (is_whole x) (list_any has_mask (window x.last.after))
    (both_true (not (list_any is_set x.first.after)) (are_near x.first.credits.counter x.last.credits.counter)
    (ap not plain.unset)
    (counters_are x.first.credits x.last.credits w v between is.first_is is.last.credits_are
    ∙ near_where_few (length between.new) (length w.events) few))
    plain.masked

pub sure_where_plain_all : (setup : Setup) (steps : List WildStep) (past : List Entry) (d : DeviceSetup) →
    IsSoundSetup setup → IsOf setup d → IsAcceptor d.body → WildFrom setup [] steps past → HonestPast past →
    All (IsSureWherePlain d past) (spans (looks d past))
sure_where_plain_all setup steps past d sound own accepting goes honest =
    let at : ℕ → World = λ n. world_of d (before_tap n past) in
    let runs = acceptor_runs setup steps past d sound own accepting goes honest in
    All-weaker (λ x. SpanIn at (world_of d past) x × IsMasked at x) (IsSureWherePlain d past)
    (λ x is. one x is.0 is.1) (spans (looks d past))
    (all_both (SpanIn at (world_of d past)) (IsMasked at) (spans (looks d past))
    (all_spans at (looks d past) (world_of d past) runs) (all_masked at (looks d past) (world_of d past) runs))
  where
    one : (x : Span) → SpanIn (λ n. world_of d (before_tap n past)) (world_of d past) x →
        IsMasked (λ n. world_of d (before_tap n past)) x → IsSureWherePlain d past x
    one x is masked less = (
      λ confirmed.
          let plain = plain_where_sure (λ n. world_of d (before_tap n past)) (world_of d past) x is masked less confirmed in
          record { unset = plain.unset; few = plain.few; masked = plain.masked },
      λ plain. sure_where_plain (λ n. world_of d (before_tap n past)) (world_of d past) x is masked
          (record { unset = plain.unset; few = plain.few; masked = plain.masked }),
    )

-- so such a span is reported whole
whole_told : (d : DeviceSetup) (past : List Entry) (told : List Said) (x : Span) →
    SpanIn (λ n. world_of d (before_tap n past)) (world_of d past) x → IsMasked (λ n. world_of d (before_tap n past)) x →
    (is_confirmed x ≡ true → Contains told (surely d.addr x)) → IsPlain d past x → IsToldWhole d past told x
whole_told d past told x is masked said plain =
    let at : ℕ → World = λ n. world_of d (before_tap n past) in
    let first = x.first.credits.counter in
    let last = x.last.credits.counter in
    let between : Behind (at x.first.number) (at x.last.number) = is.quiet plain.unset (masked plain.masked) in
    let confirmed = sure_where_plain at (world_of d past) x is masked
    (record { unset = plain.unset; few = plain.few; masked = plain.masked }) in
    let parts = and_parts (is_whole x) (list_any has_mask (window x.last.after)) confirmed in
    let whole = and_parts (not (list_any is_set x.first.after)) (are_near first last) parts.0 in
    let near = and_parts (not (last == 0) || (first == 0)) (nat_le (distance first last) 5) whole.1 in
    let are = behind_told (at x.first.number) (at x.last.number) between x.first.credits x.last.credits is.first_is
    is.last.credits_are (grind (arith, nat_tests)) in
    record { coins = coins_of x; said = said confirmed; whole = are.exact (omega (arith, plain.few)) }

-- by any monitor that watches the acceptor
pub plain_told : (setup : Setup) (steps : List WildStep) (past : List Entry) (watches : List Watch) (w : Watch) (d : DeviceSetup) →
    IsSoundSetup setup → WildFrom setup [] steps past → HonestPast past → Contains watches w → w.family ≡ watched_as.Acceptor →
    IsOf setup d → IsWatchOf w d →
    All (λ x. IsPlain d past x → IsToldWhole d past (all_told (map made_tap (taps past) ++ map made_watch watches)) x)
    (spans (looks d past))
plain_told setup steps past watches w d sound goes honest among accepts own is =
    let at : ℕ → World = λ n. world_of d (before_tap n past) in
    let told = all_told (map made_tap (taps past) ++ map made_watch watches) in
    let accepting : IsAcceptor d.body = subst (λ fam. IsOfFamily fam d.body) accepts is.body_is in
    let runs = acceptor_runs setup steps past d sound own accepting goes honest in
    All-weaker (λ x. (SpanIn at (world_of d past) x × IsMasked at x) × IsSaid d.addr (looks d past) x)
    (λ x. IsPlain d past x → IsToldWhole d past told x)
    (λ x holds. whole_told d past told x holds.0.0 holds.0.1 (λ confirmed. in_all (surely d.addr x) (holds.1 confirmed)))
    (spans (looks d past))
    (all_both (λ x. SpanIn at (world_of d past) x × IsMasked at x) (IsSaid d.addr (looks d past)) (spans (looks d past))
    (all_both (SpanIn at (world_of d past)) (IsMasked at) (spans (looks d past))
    (all_spans at (looks d past) (world_of d past) runs) (all_masked at (looks d past) (world_of d past) runs))
    (confirmed_said d.addr (looks d past)))
  where
    in_all : (x : Said) → Contains (all_said d.addr (looks d past)) x →
        Contains (all_told (map made_tap (taps past) ++ map made_watch watches)) x
    in_all x there =
        told_of_one w watches (taps past) x accepts among
        (subst₂ (λ kind addr. Contains (all_said addr (map (shown kind addr) (taps past))) x) (sym is.kind_is) (sym is.addr_is)
        there)
