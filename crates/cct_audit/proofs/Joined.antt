-- What an audit writes is what the monitor says of a capture, whose devices all come before its taps, each at an address of
-- its own.
use Rattle.std.proofs.Common.{◌≡◌, ◌⊎◌, inl, inr, ℕ, ◌+◌, ◌==◌, ◌||◌, nat_le, nat_lt, Bool, true, false, cond, List, [], ◌∷◌, ◌++◌, map, filter, reverse, length, refl, ap, sym, ◌∙◌, subst, append-nil, All, Contains, Result, Ok, Err, arith}
use Rattle.std.specs.Prelude.{⊤}
use Rattle.std.specs.List.{list_any, slice_split}
use Rattle.std.proofs.lemmas.Bool.Decides.{nat_tests}
use Rattle.std.proofs.lemmas.List.{map-append, reverse-reverse}
use Rattle.std.proofs.lemmas.List.Elements.{All-cons, All-head, All-nil, All-tail}
use Rattle.cct_model.specs.lines.entry.LineKind.{LineKind}
use Rattle.cct_model.specs.lines.entry.LineKind.TheVariants as kind
use Rattle.cct_audit_taps.specs.declared.said.Said.{Said}
use Rattle.cct_model.specs.Script.{is_line_feed, most_bytes, most_lines}
use Rattle.cct_script.specs.declared.capture.CaptureLine.{CaptureLine}
use Rattle.cct_script.specs.declared.capture.CaptureLine.TheVariants as says
use Rattle.cct_script.specs.Capture.{capture_line}
use Rattle.cct_script.specs.Scripts.{tested}
use Rattle.cct_monitor.specs.declared.places.TheConstants.{WATCHED}
use Rattle.cct_monitor.specs.Once.{is_between, is_of_at}
use Rattle.cct_monitor.specs.Spans.{spans}
use Rattle.cct_audit_taps.specs.Taps.{quiet_shown, shown}
use Rattle.cct_monitor.specs.Watches.{Came, Watch, all_told, finally_of_all, made_tap, made_watch, said_of_all}
use Rattle.cct_monitor.proofs.Among.{IsOnly, NoneAt, once_among_all, quiet_among_all}
use Rattle.cct_monitor.proofs.Reported.{has_none, head_or_rest}
use Rattle.cct_audit.specs.Capture.{Capture, Read, Stage, addresses_in, capture, capture_form, capture_from, capture_read, comes, goes_on, is_over, is_refused, opens, over, refuses, stage_after, tap_read, tapping, watch_line, watch_read, watching}
use Rattle.cct_audit.specs.declared.opening.WatchLine.{WatchLine}
use Rattle.cct_audit.specs.declared.opening.WatchLine.TheVariants as opens_by
use Rattle.cct_audit_taps.specs.declared.money.Money.{Money}
use Rattle.cct_monitor.specs.declared.watched.Family.TheVariants as family
use Rattle.cct_audit.specs.Telling.{said_line, told, told_last}
use Rattle.cct_audit.specs.Joined.{taps_among, watches_in}
use Rattle.cct_audit.proofs.Going.{after_others}

-- what is written is what is said
pub told_is : (past : List Came) → told past ≡ map said_line (all_told past)
told_is [] = refl
told_is (made_watch w ∷ past) = append-nil (told past) ∙ told_is past
told_is (made_tap t ∷ past) =
    ap (λ es. es ++ map said_line (said_of_all t past)) (told_is past)
    ∙ sym (map-append said_line (all_told past) (said_of_all t past))

-- newest first: each device came before all taps, and after others at other addresses
abbrev IsOrdered : List Came → Type 0
IsOrdered [] = ⊤
IsOrdered (made_tap t ∷ past) = IsOrdered past
IsOrdered (made_watch w ∷ past) = (taps_among past ≡ []) × NoneAt w.addr (watches_in past) × IsOrdered past

-- after what came, newest first, this comes, oldest first, and all is so at each moment
abbrev StaysOrdered : List Came → List Came → Type 0
StaysOrdered past [] = IsOrdered past
StaysOrdered past (c ∷ later) = IsOrdered past × StaysOrdered (c ∷ past) later

-- what came is at a stage
abbrev IsAt : Stage → List Came → Type 0
IsAt (watching seen) past = (seen ≡ past) × (taps_among past ≡ []) × IsOrdered past
IsAt tapping past = IsOrdered past
IsAt over past = IsOrdered past

-- what a line may be at a stage
abbrev Suits : Stage → Read → Type 0
Suits (watching past) (comes (made_watch w) (watching next)) =
    (list_any (λ a. a == w.addr) (addresses_in past) ≡ false) × (next ≡ made_watch w ∷ past)
Suits (watching past) (opens tapping) = ⊤
Suits (watching past) (refuses why) = ⊤
Suits tapping (comes (made_tap t) tapping) = ⊤
Suits tapping (opens over) = ⊤
Suits tapping (refuses why) = ⊤
Suits over (refuses why) = ⊤
Suits stage read = ⊥

refused_suits : (stage : Stage) (why : LineKind) → Suits stage (refuses why)
refused_suits (watching past) why = tt
refused_suits tapping why = tt
refused_suits over why = tt

neither : (a b : Bool) → (a || b) ≡ false → a ≡ false
neither true b is = is
neither false b is = refl

nor : (a b : Bool) → (a || b) ≡ false → b ≡ false
nor true b is = absurd cc
nor false b is = is

watch_suits : (past : List Came) (line : Result WatchLine LineKind) → Suits (watching past) (watch_read past line)
watch_suits past (Err why) = tt
watch_suits past (Ok (opens_by.Watch addr check fam)) = by_test (is_refused (addresses_in past) addr) refl
  where
    by_test : (test : Bool) → is_refused (addresses_in past) addr ≡ test → Suits (watching past) (cond test (refuses kind.Device)
        (comes (made_watch (record { addr = addr; kind = check; family = fam }))
        (watching (made_watch (record { addr = addr; kind = check; family = fam }) ∷ past))))
    by_test true is = tt
    by_test false is =
        (neither (list_any (λ a. a == addr) (addresses_in past)) (nat_le WATCHED (length (addresses_in past))) is, refl)
watch_suits past (Ok opens_by.Begin) = tt

tap_suits : (line : Result CaptureLine LineKind) → Suits tapping (tap_read line)
tap_suits (Err why) = tt
tap_suits (Ok (says.Watch addr check acceptor)) = tt
tap_suits (Ok says.Begin) = tt
tap_suits (Ok (says.Tap sent heard)) = tt
tap_suits (Ok says.End) = tt

form_suits : (stage : Stage) (line : List ℕ) → Suits stage (capture_form stage line)
unfolding capture_form
form_suits (watching past) line = watch_suits past (watch_line line)
form_suits tapping line = tap_suits (capture_line true line)
form_suits over line = tt

tested_suits : (stage : Stage) (number : ℕ) (line : List ℕ) (form : Read) → Suits stage form →
    Suits stage (tested refuses (is_over stage) number line form)
tested_suits stage number line form suits =
    by_tests (is_over stage) (nat_lt most_lines number) (nat_lt most_bytes (length line))
  where
    by_tests : (a b c : Bool) →
        Suits stage (cond a (refuses kind.Trailing) (cond b (refuses kind.Lines) (cond c (refuses kind.Long) form)))
    by_tests true b c = refused_suits stage kind.Trailing
    by_tests false true c = refused_suits stage kind.Lines
    by_tests false false true = refused_suits stage kind.Long
    by_tests false false false = suits

none_at : (addr : ℕ) (past : List Came) → list_any (λ a. a == addr) (addresses_in past) ≡ false → NoneAt addr (watches_in past)
none_at addr [] none = tt
none_at addr (made_watch v ∷ past) none = (
  neither (v.addr == addr) (list_any (λ a. a == addr) (addresses_in past)) none,
  none_at addr past (nor (v.addr == addr) (list_any (λ a. a == addr) (addresses_in past)) none),
)
none_at addr (made_tap t ∷ past) none = none_at addr past none

so_far : (stage : Stage) (past : List Came) → IsAt stage past → IsOrdered past
so_far (watching seen) past at = at.2
so_far tapping past at = at
so_far over past at = at

on_line : (number : ℕ) (stage : Stage) (read : Read) (rest : Capture) (past : List Came) → Suits stage read → IsAt stage past →
    ((now : List Came) → IsAt (stage_after stage read) now → StaysOrdered now rest.came) →
    StaysOrdered past (goes_on number stage read rest).came
on_line number (watching seen) (comes (made_watch w) (watching next)) rest past suits at later = (
  at.2,
  later (made_watch w ∷ past) (
    suits.1 ∙ ap (λ came. made_watch w ∷ came) at.0,
    at.1,
    (at.1, none_at w.addr past (subst (λ came. list_any (λ a. a == w.addr) (addresses_in came) ≡ false) at.0 suits.0), at.2),
  ),
)
on_line number (watching seen) (opens tapping) rest past suits at later = later past at.2
on_line number (watching seen) (refuses why) rest past suits at later = at.2
on_line number tapping (comes (made_tap t) tapping) rest past suits at later = (at, later (made_tap t ∷ past) at)
on_line number tapping (opens over) rest past suits at later = later past at
on_line number tapping (refuses why) rest past suits at later = at
on_line number over (refuses why) rest past suits at later = at
on_line number stage read rest past suits at later = absurd suits

from_line : (number : ℕ) (stage : Stage) (parts : List (List ℕ)) (past : List Came) → IsAt stage past →
    StaysOrdered past (capture_from number stage parts).came
from_line number stage [] past at = so_far stage past at
from_line number stage (rest ∷ []) past at = so_far stage past at
from_line number stage (line ∷ next ∷ parts) past at =
    let read = capture_read number stage line in
    on_line number stage read (capture_from (number + 1) (stage_after stage read) (next ∷ parts)) past
    (tested_suits stage number line (capture_form stage line) (form_suits stage line)) at
    (from_line (number + 1) (stage_after stage read) (next ∷ parts))

of_bytes : (bytes : List ℕ) → StaysOrdered [] (capture bytes).came
unfolding capture
of_bytes bytes = from_line 1 (watching []) (slice_split is_line_feed bytes) [] (refl, refl, tt)

first_ordered : (past later : List Came) → StaysOrdered past later → IsOrdered past
first_ordered past [] stays = stays
first_ordered past (c ∷ later) stays = stays.0

at_front : (past front more : List Came) → StaysOrdered past (front ++ more) → IsOrdered (reverse front ++ past)
at_front past [] more stays = first_ordered past more stays
at_front past (c ∷ front) more stays =
    subst IsOrdered (after_others c front past) (at_front (c ∷ past) front more stays.1)

ordered : (bytes : List ℕ) (past more : List Came) → (capture bytes).came ≡ reverse past ++ more → IsOrdered past
ordered bytes past more is =
    subst IsOrdered (append-nil (reverse (reverse past)) ∙ reverse-reverse past)
    (at_front [] (reverse past) more (subst (StaysOrdered []) is (of_bytes bytes)))

apart : (past : List Came) → IsOrdered past → past ≡ map made_tap (taps_among past) ++ map made_watch (watches_in past)
apart [] are = refl
apart (made_tap t ∷ past) are = ap (λ came. made_tap t ∷ came) (apart past are)
apart (made_watch w ∷ past) are =
    ap (λ came. made_watch w ∷ came) (apart past are.2 ∙ ap (λ ts. map made_tap ts ++ map made_watch (watches_in past)) are.0)
    ∙ sym (ap (λ ts. map made_tap ts ++ made_watch w ∷ map made_watch (watches_in past)) are.0)

-- what came of a capture are taps after devices
pub came_apart : (bytes : List ℕ) (past more : List Came) → (capture bytes).came ≡ reverse past ++ more →
    past ≡ map made_tap (taps_among past) ++ map made_watch (watches_in past)
came_apart bytes past more is = apart past (ordered bytes past more is)

-- each device that it watches is the only one at its address
other_way : (a b : ℕ) → (a == b) ≡ false → (b == a) ≡ false
other_way a b is = by_test (b == a) refl
  where
    by_test : (c : Bool) → (b == a) ≡ c → (b == a) ≡ false
    by_test true same = absurd (grind (arith, nat_tests))
    by_test false same = same

none_same : (addr : ℕ) (w : Watch) (ws : List Watch) → NoneAt addr ws → Contains ws w → (w.addr == addr) ≡ false
none_same addr w [] none among = absurd (has_none w among)
none_same addr w (v ∷ vs) none among = by_place (head_or_rest v w vs among) (none_same addr w vs none.1)
  where
    by_place : (v ≡ w) ⊎ Contains vs w → (Contains vs w → (w.addr == addr) ≡ false) → (w.addr == addr) ≡ false
    by_place (inl here) rest = subst (λ u. (u.addr == addr) ≡ false) here none.0
    by_place (inr there) rest = rest there

only : (past : List Came) (w : Watch) → IsOrdered past → Contains (watches_in past) w → IsOnly w (watches_in past)
only [] w are among = absurd (has_none w among)
only (made_tap t ∷ past) w are among = only past w are among
only (made_watch v ∷ past) w are among = by_place (head_or_rest v w (watches_in past) among) (only past w are.2)
  where
    by_place : (v ≡ w) ⊎ Contains (watches_in past) w → (Contains (watches_in past) w → IsOnly w (watches_in past)) →
        IsOnly w (v ∷ watches_in past)
    by_place (inl here) rest = inl (here, subst (λ u. NoneAt u.addr (watches_in past)) here are.1)
    by_place (inr there) rest =
        inr (other_way w.addr v.addr (none_same v.addr w (watches_in past) are.1 there), rest there)

-- so each span of each acceptor is said once
pub spoken_once : (bytes : List ℕ) (past more : List Came) (w : Watch) (first last : ℕ) →
    (capture bytes).came ≡ reverse past ++ more → Contains (watches_in past) w → w.family ≡ family.Acceptor →
    length (filter (is_of_at w.addr first last) (all_told past ++ finally_of_all past))
    ≡ length (filter (is_between first last) (spans (map (shown w.kind w.addr) (taps_among past))))
spoken_once bytes past more w first last is among accepts =
    let are = ordered bytes past more is in
    ap (λ came. length (filter (is_of_at w.addr first last) (all_told came ++ finally_of_all came))) (apart past are)
    ∙ once_among_all w first last (watches_in past) (taps_among past) accepts (only past w are among)

pub spoken_quietly : (bytes : List ℕ) (past more : List Came) (money : Money) (w : Watch) (first last : ℕ) →
    (capture bytes).came ≡ reverse past ++ more → Contains (watches_in past) w → w.family ≡ family.QuietAcceptor money →
    length (filter (is_of_at w.addr first last) (all_told past ++ finally_of_all past))
    ≡ length (filter (is_between first last) (spans (map (quiet_shown money w.kind w.addr) (taps_among past))))
spoken_quietly bytes past more money w first last is among accepts =
    let are = ordered bytes past more is in
    ap (λ came. length (filter (is_of_at w.addr first last) (all_told came ++ finally_of_all came))) (apart past are)
    ∙ quiet_among_all money w first last (watches_in past) (taps_among past) accepts (only past w are among)

-- and what holds of all that is said of the taps after the devices holds of all that is written
pub joined : (P : Said → Type 0) (bytes : List ℕ) (past more : List Came) → (capture bytes).came ≡ reverse past ++ more →
    All P (all_told (map made_tap (taps_among past) ++ map made_watch (watches_in past))
    ++ finally_of_all (map made_tap (taps_among past) ++ map made_watch (watches_in past)))
    → All P (all_told past ++ finally_of_all past)
joined P bytes past more is all =
    subst (λ came. All P (all_told came ++ finally_of_all came)) (sym (came_apart bytes past more is)) all
