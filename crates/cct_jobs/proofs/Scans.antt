-- What a call or a poll makes of a scan.
use Rattle.std.proofs.Common.{◌≡◌, inl, inr, ℕ, suc, ◌<◌, ◌==◌, ◌&&◌, ◌||◌, not, Bool, true, false, cond, List, [], ◌∷◌, ◌++◌, length, refl, sym, ap, subst, ◌∙◌, Option, Some, None, arith, eq-eqb}
use Rattle.std.specs.Prelude.{find, nat_le}
use Rattle.std.specs.List.{list_any}
use Rattle.std.proofs.Math.Bool.{and-false, or-true}
use Rattle.std.proofs.lemmas.Bool.{and_parts, cases_eq, ne_eqb}
use Rattle.std.proofs.lemmas.Bool.Decides.{nat_tests}
use Rattle.std.proofs.lemmas.List.{append-nil}
use Rattle.std.proofs.lemmas.List.Folds.{list_any-append}
use Rattle.cct_model.specs.terms.wire.CheckKind.{CheckKind}
use Rattle.cct_model.specs.terms.wire.CheckKind.TheVariants.{Simple, Crc}
use Rattle.cct_model.specs.lines.device_set.DeviceSet.{DeviceSet}
use Rattle.cct_model.specs.lines.entry.Listed.{Listed}
use Rattle.cct_model.specs.lines.entry.End.TheVariants as ends_of
use Rattle.cct_model.specs.DeviceSet.{all_addresses, has}
use Rattle.cct_model.specs.Exchange.{after_echo, ask}
use Rattle.cct_model.specs.Line.{Line, scanned}
use Rattle.cct_model.specs.Scan.{answers, echoes, is_acknowledged, is_due, next_due, noted, noted_by, poll_after, poll_due, poll_of, polls, same_check, scan_row, scan_tries, set_of, end_by_row, end_of_scan, found, listed_in}
use Rattle.cct_model.specs.Transcript.{scan_line}
use Rattle.cct_model.proofs.Polls.{simple_poll_line, poll_line}
use Rattle.cct_jobs.specs.Jobs.{after_failed}
use Rattle.cct_jobs.specs.Scans.{CallsCrc, CallsSimple, HasDue, Lists, Polls, Unpolled}
use Rattle.cct_jobs.proofs.Stages.{one_more_try, third_try}
use Rattle.cct_jobs.proofs.Sets.{find_same, found_passes, same_set}

-- the line of a poll

pub simple_line : (addr : ℕ) (sent heard : List ℕ) → sent ≡ ask Simple addr (poll_of addr) → scan_line sent heard ≡ scanned Simple addr (after_echo sent heard)
simple_line addr sent heard is_ask = subst (λ p. scan_line p heard ≡ scanned Simple addr (after_echo p heard)) (sym is_ask) (simple_poll_line addr heard)

pub crc_line : (addr : ℕ) (sent heard : List ℕ) → addr < 256 → sent ≡ ask Crc addr (poll_of addr) → scan_line sent heard ≡ scanned Crc addr (after_echo sent heard)
crc_line addr sent heard within is_ask = subst (λ p. scan_line p heard ≡ scanned Crc addr (after_echo p heard)) (sym is_ask) (poll_line Crc addr heard within)

device_not_all : (addr : ℕ) → nat_le 2 addr ≡ true → (0 == addr) ≡ false
device_not_all addr is = ne_eqb 0 addr (λ e. grind (arith, nat_tests, is, e))

all_not_device : (addr : ℕ) → nat_le 2 addr ≡ true → (addr == 0) ≡ false
all_not_device addr is = ne_eqb addr 0 (λ e. grind (arith, nat_tests, is, e))

and_gone : (b c : Bool) → ((b && false && c) || false) ≡ false
and_gone true c = refl
and_gone false c = refl

second_open : (x y : Bool) → (x || (y && true)) ≡ ((x || y) && true)
second_open true y = refl
second_open false y = refl

cond_gone : (b : Bool) (n : ℕ) → cond (b && false) n 0 ≡ 0
cond_gone true n = refl
cond_gone false n = refl

found_call : (check other : CheckKind) (rest : Option (List ℕ)) (since : List Line) (a : ℕ) (b : Bool) → nat_le 2 a ≡ b → found check since a ≡ false → found check (scanned other 0 rest ∷ since) a ≡ false
found_call check other rest since a false device e = rw device refl
found_call check other rest since a true device e =
    let none : list_any (answers check a) since ≡ false = sym (ap (λ t. t && list_any (answers check a) since) device) ∙ e in
    rw (device, device_not_all a device, none) (and_gone (same_check check other) (is_acknowledged check a rest))

-- after a call nothing is polled still
fresh_call : (check : CheckKind) (rest : Option (List ℕ)) (since : List Line) → Unpolled since → Unpolled (scanned check 0 rest ∷ since)
fresh_call Simple rest since fresh = record {
  unpolled = λ a device. rw (device_not_all a device, fresh.unpolled a device) refl;
  unfound = λ other a. found_call other Simple rest since a (nat_le 2 a) refl (fresh.unfound other a);
}
fresh_call Crc rest since fresh = record {
  unpolled = fresh.unpolled;
  unfound = λ other a. found_call other Crc rest since a (nat_le 2 a) refl (fresh.unfound other a);
}

pub simple_again : (failed n : ℕ) (since : List Line) → CallsSimple failed since → after_failed failed ≡ Some n → CallsSimple n (scanned Simple 0 None ∷ since)
simple_again failed n since at more =
    let counts = one_more_try failed n more at.few in
    record {
      no_simple = at.no_simple;
      no_crc = at.no_crc;
      nothing = at.nothing;
      fresh = fresh_call Simple None since at.fresh;
      quiet = refl;
      counted = counts.0 ∙ ap suc at.counted;
      few = counts.1;
    }

pub simple_unanswered : (failed : ℕ) (since : List Line) → CallsSimple failed since → after_failed failed ≡ None → end_of_scan (scanned Simple 0 None ∷ since) ≡ Some ends_of.NoAnswer
unfolding end_of_scan
simple_unanswered failed since at last =
    let all : suc (scan_tries Simple since) ≡ 3 = ap suc (sym at.counted) ∙ third_try failed last in
    rw (eq-eqb _ _ all) refl

pub crc_again : (failed n : ℕ) (due : DeviceSet) (since : List Line) → CallsCrc failed due since → after_failed failed ≡ Some n → CallsCrc n due (scanned Crc 0 None ∷ since)
crc_again failed n due since at more =
    let counts = one_more_try failed n more at.few in
    record {
      simple = at.simple;
      no_crc = at.no_crc;
      due_is = at.due_is;
      fresh = fresh_call Crc None since at.fresh;
      quiet = refl;
      counted = counts.0 ∙ ap suc at.counted;
      few = counts.1;
    }

pub crc_unanswered : (failed : ℕ) (due : DeviceSet) (since : List Line) → CallsCrc failed due since → after_failed failed ≡ None → end_of_scan (scanned Crc 0 None ∷ since) ≡ Some ends_of.NoAnswer
unfolding end_of_scan
crc_unanswered failed due since at last =
    let all : suc (scan_tries Crc since) ≡ 3 = ap suc (sym at.counted) ∙ third_try failed last in
    rw (eq-eqb _ _ all) refl

-- what is noted after a call

abbrev among : ℕ → List ℕ → Bool
among a bytes = list_any (λ byte. byte == a) bytes

due_first : (device x : Bool) (p : Bool) → (device ≡ true → p ≡ false) → ((device && x) || false) ≡ (device && x && not p)
due_first true true p none = rw (none refl) refl
due_first true false p none = refl
due_first false x p none = refl

pub simple_called : (failed : ℕ) (before due : DeviceSet) (rest : List ℕ) (since : List Line) → CallsSimple failed since
    → ((a : ℕ) → has before a ≡ false) → ((a : ℕ) → has due a ≡ ((nat_le 2 a && among a rest) || has before a))
    → CallsCrc 0 due (scanned Simple 0 (Some rest) ∷ since)
simple_called failed before due rest since at empty noted_now = record {
  simple = refl;
  no_crc = at.no_crc;
  due_is =
      λ a within.
      noted_now a
      ∙ ap (λ b. (nat_le 2 a && among a rest) || b) (empty a)
      ∙ due_first (nat_le 2 a) (among a rest) (list_any (polls a) (scanned Simple 0 (Some rest) ∷ since)) ((fresh_call Simple (Some rest) since at.fresh).unpolled a)
      ∙ ap (λ bytes. nat_le 2 a && among a bytes && not (list_any (polls a) (scanned Simple 0 (Some rest) ∷ since))) (sym (append-nil rest) ∙ ap (λ bytes. rest ++ bytes) (sym at.nothing));
  fresh = fresh_call Simple (Some rest) since at.fresh;
  quiet = refl;
  counted = refl;
  few = omega arith;
}

due_second : (device x y p : Bool) → (device ≡ true → p ≡ false) → ((device && x) || (device && y && not p)) ≡ (device && (x || y) && not p)
due_second true x y p none = rw (none refl) (second_open x y)
due_second false x y p none = refl

pub crc_called : (failed : ℕ) (before due : DeviceSet) (listed : Listed) (rest : List ℕ) (since : List Line) → CallsCrc failed before since
    → ((a : ℕ) → has due a ≡ ((nat_le 2 a && among a rest) || has before a)) → ((a : ℕ) → has listed.simple a ≡ false) → ((a : ℕ) → has listed.crc a ≡ false)
    → length listed.simple.members ≡ 256 → length listed.crc.members ≡ 256
    → Lists due listed (scanned Crc 0 (Some rest) ∷ since)
crc_called failed before due listed rest since at noted_now no_simple no_crc simple_whole crc_whole =
    let after = fresh_call Crc (Some rest) since at.fresh in
    record {
      simple = at.simple;
      crc = refl;
      due_is =
          λ a within.
          noted_now a
          ∙ ap (λ b. (nat_le 2 a && among a rest) || b) (at.due_is a within)
          ∙ due_second (nat_le 2 a) (among a rest) (among a (noted since)) (list_any (polls a) since) (at.fresh.unpolled a)
          ∙ ap (λ b. nat_le 2 a && b && not (list_any (polls a) since)) (sym (list_any-append (λ byte. byte == a) rest (noted since)));
      found_simple = λ a within. no_simple a ∙ sym (after.unfound Simple a);
      found_crc = λ a within. no_crc a ∙ sym (after.unfound Crc a);
      whole_simple = simple_whole;
      whole_crc = crc_whole;
      quiet_simple = refl;
      quiet_crc = refl;
    }

-- what a poll of a device changes

and_gone_3 : (b c : Bool) → (b && false && c) ≡ false
and_gone_3 true c = refl
and_gone_3 false c = refl

no_echo : (call check : CheckKind) (addr : ℕ) (rest : Option (List ℕ)) → (addr == 0) ≡ false → echoes call 0 (scanned check addr rest) ≡ false
no_echo call check addr None e = refl
no_echo call check addr (Some piece) e = rw e (and-false (same_check call check))

nothing_noted : (check : CheckKind) (addr : ℕ) (rest : Option (List ℕ)) → (addr == 0) ≡ false → noted_by (scanned check addr rest) ≡ []
nothing_noted check addr None e = refl
nothing_noted check addr (Some piece) e = rw e refl

quiet_poll : (call check : CheckKind) (addr : ℕ) (rest : Option (List ℕ)) (since : List Line) → (addr == 0) ≡ false → scan_tries call (scanned check addr rest ∷ since) ≡ 0
quiet_poll call check addr (Some piece) since e = refl
quiet_poll call check addr None since e = rw e (cond_gone (same_check call check) (suc (scan_tries call since)))

eq_swap : (a b : ℕ) → (a == b) ≡ (b == a)
eq_swap a b = elim (cases_eq a b) [
  | inl same ↦ eq-eqb a b same ∙ sym (eq-eqb b a (sym same))
  | inr other ↦ ne_eqb a b other ∙ sym (ne_eqb b a (λ e. other (sym e)))
]

due_less : (p x q : Bool) → (not p && (x && not q)) ≡ (x && not (p || q))
due_less true true q = refl
due_less true false q = refl
due_less false x q = refl

-- a poll under the simple check is no more due
due_simple : (addr : ℕ) (rest : Option (List ℕ)) (before due : DeviceSet) (since : List Line) → HasDue before since → (addr == 0) ≡ false
    → ((a : ℕ) → has due a ≡ (not (a == addr) && has before a)) → HasDue due (scanned Simple addr rest ∷ since)
due_simple addr rest before due since due_is device removed a within =
    removed a
    ∙ ap (λ b. not (a == addr) && b) (due_is a within)
    ∙ ap (λ b. not b && is_due since a) (eq_swap a addr)
    ∙ due_less (addr == a) (nat_le 2 a && among a (noted since)) (list_any (polls a) since)
    ∙ ap (λ bytes. nat_le 2 a && among a (bytes ++ noted since) && not ((addr == a) || list_any (polls a) since)) (sym (nothing_noted Simple addr rest device))

due_crc : (addr : ℕ) (rest : Option (List ℕ)) (due : DeviceSet) (since : List Line) → HasDue due since → (addr == 0) ≡ false → HasDue due (scanned Crc addr rest ∷ since)
due_crc addr rest due since due_is device a within =
    due_is a within ∙ ap (λ bytes. nat_le 2 a && among a (bytes ++ noted since) && not (list_any (polls a) since)) (sym (nothing_noted Crc addr rest device))

-- what a poll shows of the devices

found_by : (check other : CheckKind) (addr : ℕ) (rest : Option (List ℕ)) (since : List Line) (a : ℕ) → (same_check check other && (addr == a) && is_acknowledged check a rest) ≡ false
    → found check (scanned other addr rest ∷ since) a ≡ found check since a
found_by check other addr rest since a e = rw e refl

same_is : (check : CheckKind) → same_check check check ≡ true
same_is Simple = refl
same_is Crc = refl

found_there : (check : CheckKind) (addr : ℕ) (rest : Option (List ℕ)) (since : List Line) → nat_le 2 addr ≡ true → is_acknowledged check addr rest ≡ true
    → found check (scanned check addr rest ∷ since) addr ≡ true
found_there check addr rest since device acked = rw (device, same_is check, eq-eqb addr addr refl, acked) refl

found_more : (check : CheckKind) (addr : ℕ) (rest : Option (List ℕ)) (since : List Line) → nat_le 2 addr ≡ true → is_acknowledged check addr rest ≡ true
    → (a : ℕ) → ((a == addr) || found check since a) ≡ found check (scanned check addr rest ∷ since) a
found_more check addr rest since device acked a = elim (cases_eq a addr) [
  | inl same ↦ ap (λ b. b || found check since a) (eq-eqb a addr same) ∙ sym (ap (found check (scanned check addr rest ∷ since)) same ∙ found_there check addr rest since device acked)
  | inr other ↦
      ap (λ b. b || found check since a) (ne_eqb a addr other)
      ∙ sym (found_by check check addr rest since a (ap (λ b. same_check check check && b && is_acknowledged check a rest) (ne_eqb addr a (λ e. other (sym e))) ∙ and_gone_3 (same_check check check) (is_acknowledged check a rest)))
]

found_same : (check : CheckKind) (addr : ℕ) (rest : Option (List ℕ)) (since : List Line) → is_acknowledged check addr rest ≡ false
    → (a : ℕ) → found check since a ≡ found check (scanned check addr rest ∷ since) a
found_same check addr rest since unacked a = elim (cases_eq a addr) [
  | inl same ↦ sym (found_by check check addr rest since a (ap (λ n. same_check check check && (addr == a) && is_acknowledged check n rest) same ∙ ap (λ b. same_check check check && (addr == a) && b) unacked ∙ and-false (same_check check check && (addr == a))))
  | inr other ↦
      sym (found_by check check addr rest since a (ap (λ b. same_check check check && b && is_acknowledged check a rest) (ne_eqb addr a (λ e. other (sym e))) ∙ and_gone_3 (same_check check check) (is_acknowledged check a rest)))
]

-- the lists after a poll
lists_after : (check : CheckKind) (addr : ℕ) (rest : Option (List ℕ)) (before due : DeviceSet) (was listed : Listed) (since : List Line)
    → Lists before was since → nat_le 2 addr ≡ true → HasDue due (scanned check addr rest ∷ since)
    → ((a : ℕ) → a < 256 → has listed.simple a ≡ found Simple (scanned check addr rest ∷ since) a)
    → ((a : ℕ) → a < 256 → has listed.crc a ≡ found Crc (scanned check addr rest ∷ since) a)
    → length listed.simple.members ≡ 256 → length listed.crc.members ≡ 256
    → Lists due listed (scanned check addr rest ∷ since)
lists_after check addr rest before due was listed since at device due_is simple_is crc_is simple_whole crc_whole =
    let apart = all_not_device addr device in
    record {
      simple = ap (λ b. echoes Simple 0 (scanned check addr rest) || b) at.simple ∙ or-true (echoes Simple 0 (scanned check addr rest));
      crc = ap (λ b. echoes Crc 0 (scanned check addr rest) || b) at.crc ∙ or-true (echoes Crc 0 (scanned check addr rest));
      due_is = due_is;
      found_simple = simple_is;
      found_crc = crc_is;
      whole_simple = simple_whole;
      whole_crc = crc_whole;
      quiet_simple = quiet_poll Simple check addr rest since apart;
      quiet_crc = quiet_poll Crc check addr rest since apart;
    }

-- a poll under the simple check that was acknowledged
pub simple_found : (addr : ℕ) (rest : Option (List ℕ)) (before due : DeviceSet) (was listed : Listed) (since : List Line) → Polls Simple addr before was since
    → ((a : ℕ) → has due a ≡ (not (a == addr) && has before a)) → ((a : ℕ) → has listed.simple a ≡ ((a == addr) || has was.simple a)) → length listed.simple.members ≡ 256 → listed.crc ≡ was.crc
    → is_acknowledged Simple addr rest ≡ true → Lists due listed (scanned Simple addr rest ∷ since)
simple_found addr rest before due was listed since at removed inserted whole same acked =
    lists_after Simple addr rest before due was listed since at.lists at.device (due_simple addr rest before due since at.lists.due_is (all_not_device addr at.device) removed)
    (λ a within. inserted a ∙ ap (λ b. (a == addr) || b) (at.lists.found_simple a within) ∙ found_more Simple addr rest since at.device acked a)
    (λ a within. ap (λ set. has set a) same ∙ at.lists.found_crc a within ∙ sym (found_by Crc Simple addr rest since a refl))
    whole
    (ap (λ set. length set.members) same ∙ at.lists.whole_crc)

simple_missed : (addr : ℕ) (rest : Option (List ℕ)) (before due : DeviceSet) (was : Listed) (since : List Line) → Polls Simple addr before was since
    → ((a : ℕ) → has due a ≡ (not (a == addr) && has before a)) → is_acknowledged Simple addr rest ≡ false → Lists due was (scanned Simple addr rest ∷ since)
simple_missed addr rest before due was since at removed unacked =
    lists_after Simple addr rest before due was was since at.lists at.device (due_simple addr rest before due since at.lists.due_is (all_not_device addr at.device) removed)
    (λ a within. at.lists.found_simple a within ∙ found_same Simple addr rest since unacked a)
    (λ a within. at.lists.found_crc a within ∙ sym (found_by Crc Simple addr rest since a refl))
    at.lists.whole_simple
    at.lists.whole_crc

pub crc_found : (addr : ℕ) (rest : Option (List ℕ)) (due : DeviceSet) (was listed : Listed) (since : List Line) → Polls Crc addr due was since
    → ((a : ℕ) → has listed.crc a ≡ ((a == addr) || has was.crc a)) → length listed.crc.members ≡ 256 → listed.simple ≡ was.simple
    → is_acknowledged Crc addr rest ≡ true → Lists due listed (scanned Crc addr rest ∷ since)
crc_found addr rest due was listed since at inserted whole same acked =
    lists_after Crc addr rest due due was listed since at.lists at.device (due_crc addr rest due since at.lists.due_is (all_not_device addr at.device))
    (λ a within. ap (λ set. has set a) same ∙ at.lists.found_simple a within ∙ sym (found_by Simple Crc addr rest since a refl))
    (λ a within. inserted a ∙ ap (λ b. (a == addr) || b) (at.lists.found_crc a within) ∙ found_more Crc addr rest since at.device acked a)
    (ap (λ set. length set.members) same ∙ at.lists.whole_simple)
    whole

pub crc_missed : (addr : ℕ) (rest : Option (List ℕ)) (due : DeviceSet) (was : Listed) (since : List Line) → Polls Crc addr due was since
    → is_acknowledged Crc addr rest ≡ false → Lists due was (scanned Crc addr rest ∷ since)
crc_missed addr rest due was since at unacked =
    lists_after Crc addr rest due due was was since at.lists at.device (due_crc addr rest due since at.lists.due_is (all_not_device addr at.device))
    (λ a within. at.lists.found_simple a within ∙ sym (found_by Simple Crc addr rest since a refl))
    (λ a within. at.lists.found_crc a within ∙ found_same Crc addr rest since unacked a)
    at.lists.whole_simple
    at.lists.whole_crc

-- what is polled after it

pub after_found : (addr : ℕ) (rest : Option (List ℕ)) (since : List Line) → is_acknowledged Simple addr rest ≡ true
    → poll_after (scanned Simple addr rest ∷ since) ≡ poll_due (next_due (scanned Simple addr rest ∷ since))
after_found addr rest since acked = rw (acked, and-false (not (addr == 0))) refl

pub polls_again : (addr : ℕ) (rest : Option (List ℕ)) (before due : DeviceSet) (was : Listed) (since : List Line) → Polls Simple addr before was since
    → ((a : ℕ) → has due a ≡ (not (a == addr) && has before a)) → is_acknowledged Simple addr rest ≡ false → Polls Crc addr due was (scanned Simple addr rest ∷ since)
polls_again addr rest before due was since at removed unacked =
    let apart = all_not_device addr at.device in
    record { lists = simple_missed addr rest before due was since at removed unacked; next = rw (unacked, apart) refl; device = at.device }

-- what is polled next, or the list

due_found : (due : DeviceSet) (since : List Line) → HasDue due since → next_due since ≡ find (has due) all_addresses
unfolding next_due
due_found due since due_is = sym (find_same (has due) (is_due since) due_is)

due_device : (since : List Line) (addr : ℕ) → next_due since ≡ Some addr → nat_le 2 addr ≡ true
unfolding next_due
due_device since addr e =
    let due = found_passes (is_due since) all_addresses addr e in
    (and_parts _ _ (and_parts _ _ due).0).0

pub polls_next : (due : DeviceSet) (listed : Listed) (since : List Line) (addr : ℕ) → Lists due listed since → poll_after since ≡ poll_due (next_due since)
    → find (has due) all_addresses ≡ Some addr → Polls Simple addr due listed since
polls_next due listed since addr at after first =
    let next : next_due since ≡ Some addr = due_found due since at.due_is ∙ first in
    record { lists = at; next = after ∙ ap poll_due next; device = due_device since addr next }

-- the row of a scan
pub calls_simple_row : (failed : ℕ) (since : List Line) → CallsSimple failed since → scan_row since ≡ Some (Simple, 0)
unfolding scan_row
calls_simple_row failed since at = rw at.no_simple refl

pub calls_crc_row : (failed : ℕ) (due : DeviceSet) (since : List Line) → CallsCrc failed due since → scan_row since ≡ Some (Crc, 0)
unfolding scan_row
calls_crc_row failed due since at = rw (at.simple, at.no_crc) refl

lists_row : (due : DeviceSet) (listed : Listed) (since : List Line) → Lists due listed since → scan_row since ≡ poll_after since
unfolding scan_row
lists_row due listed since at = rw (at.simple, at.crc) refl

pub polls_row : (check : CheckKind) (addr : ℕ) (due : DeviceSet) (listed : Listed) (since : List Line) → Polls check addr due listed since → scan_row since ≡ Some (check, addr)
polls_row check addr due listed since at = lists_row due listed since at.lists ∙ at.next

listed_is : (due : DeviceSet) (listed : Listed) (since : List Line) → Lists due listed since → listed_in since ≡ listed
unfolding listed_in
listed_is due listed since at =
    let simple : listed.simple ≡ set_of (found Simple since) = same_set listed.simple (found Simple since) at.whole_simple at.found_simple in
    let crc_set : listed.crc ≡ set_of (found Crc since) = same_set listed.crc (found Crc since) at.whole_crc at.found_crc in
    ap (λ (set : DeviceSet). record { simple = set; crc = set_of (found Crc since) }) (sym simple) ∙ ap (λ (set : DeviceSet). record { simple = listed.simple; crc = set }) (sym crc_set)

pub scan_ends : (due : DeviceSet) (listed : Listed) (since : List Line) → Lists due listed since → poll_after since ≡ poll_due (next_due since)
    → find (has due) all_addresses ≡ None → end_of_scan since ≡ Some (ends_of.Listed listed)
unfolding end_of_scan
scan_ends due listed since at after first =
    let row_is : scan_row since ≡ None = lists_row due listed since at ∙ after ∙ ap poll_due (due_found due since at.due_is ∙ first) in
    rw (at.quiet_simple, at.quiet_crc, row_is) (ap (λ l. Some (ends_of.Listed l)) (listed_is due listed since at))

-- a scan that sends something isn't done

three_not : (n : ℕ) → n < 3 → (n == 3) ≡ false
three_not n few = grind (arith, nat_tests)

no_end : (since : List Line) (check : CheckKind) (addr : ℕ) → scan_tries Simple since < 3 → scan_tries Crc since < 3
    → scan_row since ≡ Some (check, addr) → end_of_scan since ≡ None
unfolding end_of_scan
no_end since check addr simple crc is_row = rw (three_not _ simple, three_not _ crc) (ap (end_by_row since) is_row)

pub calls_simple_on : (failed : ℕ) (since : List Line) → CallsSimple failed since → end_of_scan since ≡ None
calls_simple_on failed since at =
    no_end since Simple 0 (subst (λ n. n < 3) at.counted at.few) (omega (arith, at.quiet)) (calls_simple_row failed since at)

pub calls_crc_on : (failed : ℕ) (due : DeviceSet) (since : List Line) → CallsCrc failed due since → end_of_scan since ≡ None
calls_crc_on failed due since at =
    no_end since Crc 0 (omega (arith, at.quiet)) (subst (λ n. n < 3) at.counted at.few) (calls_crc_row failed due since at)

pub polls_on : (check : CheckKind) (addr : ℕ) (due : DeviceSet) (listed : Listed) (since : List Line)
    → Polls check addr due listed since → end_of_scan since ≡ None
polls_on check addr due listed since at =
    no_end since check addr (omega (arith, at.lists.quiet_simple)) (omega (arith, at.lists.quiet_crc)) (polls_row check addr due listed since at)

-- the line of a call, by what follows its echo
pub simple_heard : (addr : ℕ) (sent heard : List ℕ) (rest : Option (List ℕ)) → sent ≡ ask Simple addr (poll_of addr) → after_echo sent heard ≡ rest → scan_line sent heard ≡ scanned Simple addr rest
simple_heard addr sent heard rest is_ask echoed = simple_line addr sent heard is_ask ∙ ap (scanned Simple addr) echoed

pub crc_heard : (addr : ℕ) (sent heard : List ℕ) (rest : Option (List ℕ)) → addr < 256 → sent ≡ ask Crc addr (poll_of addr) → after_echo sent heard ≡ rest → scan_line sent heard ≡ scanned Crc addr rest
crc_heard addr sent heard rest within is_ask echoed = crc_line addr sent heard within is_ask ∙ ap (scanned Crc addr) echoed
