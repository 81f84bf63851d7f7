-- A scan lists no device under both checks: it polls each address once under the simple check, and under the CRC only
-- where that wasn't acknowledged.
use Rattle.std.proofs.Common.{◌≡◌, ℕ, zero, suc, ◌<◌, ◌≤◌, ◌==◌, ◌&&◌, ◌||◌, not, nat_le, Bool, true, false, cond, List, [], ◌∷◌, length, map, refl, sym, subst, ◌∙◌, Option, Some, None, arith, eq-eqb, eqb-true}
use Rattle.std.specs.Prelude.{⊤, find, slice_index_or}
use Rattle.std.specs.List.{list_any}
use Rattle.std.proofs.lemmas.List.{length-map}
use Rattle.cct_model.specs.terms.wire.CheckKind.{CheckKind}
use Rattle.cct_model.specs.terms.wire.CheckKind.TheVariants.{Simple, Crc}
use Rattle.cct_model.specs.lines.entry.End.TheVariants as end_of
use Rattle.cct_model.specs.Message.{crc}
use Rattle.cct_model.specs.DeviceSet.{addresses_below, all_addresses, has}
use Rattle.cct_model.specs.Line.{Line, scanned}
use Rattle.cct_model.specs.Scan.{echoes, answers, is_acknowledged, is_due, next_due, noted, poll_after, poll_due, polls, scan_row, scan_tries, set_of, found, listed_in, end_by_row, end_of_scan}
use Rattle.cct_model.proofs.Polls.{length_below}
use Rattle.cct_text.specs.Written.{IsListed, IsEnd}
use Rattle.cct_model_wire.proofs.OfBytes.{Bytes, IfThere, bytes_more}

-- what holds of an address of a device in the lines of a scan: its polls under the simple check go before any answer, and
-- there is at most one of them
abbrev pub FreshHead : ℕ → List Line → Type 0
FreshHead a (scanned Simple addr rest ∷ since) = (addr == a) ≡ true → list_any (answers Simple a) since ≡ false
FreshHead a since = ⊤

pub record Once (a : ℕ) (since : List Line) : Type 0 where
  pub simple : list_any (answers Simple a) since ≡ true → list_any (polls a) since ≡ true
  pub crc : list_any (answers Crc a) since ≡ true → list_any (polls a) since ≡ true
  pub apart : list_any (answers Simple a) since ≡ true → list_any (answers Crc a) since ≡ false
  pub head : FreshHead a since

abbrev pub SmallHead : List Line → Type 0
SmallHead (scanned check addr rest ∷ since) = addr < 256
SmallHead since = ⊤

pub record Fine (since : List Line) : Type 0 where
  pub once : (a : ℕ) → nat_le 2 a ≡ true → Once a since
  pub small : SmallHead since

pub fine_begun : Fine []
fine_begun = record { once = λ a device. record { simple = λ e. absurd cc; crc = λ e. absurd cc; apart = λ e. absurd cc; head = tt }; small = tt }

-- what a scan sends
abbrev pub Asks : List Line → CheckKind → ℕ → Type 0
Asks since Simple addr = nat_le 2 addr ≡ true → list_any (polls addr) since ≡ false
Asks since Crc addr = nat_le 2 addr ≡ true → (list_any (polls addr) since ≡ true) × (list_any (answers Simple addr) since ≡ false)

pub record IsAsked (since : List Line) (poll : CheckKind × ℕ) : Type 0 where
  pub small : poll.1 < 256
  pub asks : Asks since poll.0 poll.1

below_bytes : (n : ℕ) → n ≤ 256 → Bytes (addresses_below n)
below_bytes zero most = tt
below_bytes (suc n) most = bytes_more (addresses_below n) (n ∷ []) (below_bytes n (omega arith)) (omega arith, tt)

abbrev IsFound : (ℕ → Bool) → ℕ → Type 0
IsFound p a = (a < 256) × (p a ≡ true)

find_by : (p : ℕ → Bool) (b : Bool) (x : ℕ) (rest : Option ℕ) → p x ≡ b → x < 256 → IfThere (IsFound p) rest → IfThere (IsFound p) (cond b (Some x) rest)
find_by p true x rest test small later = (small, test)
find_by p false x rest test small later = later

find_in : (p : ℕ → Bool) (xs : List ℕ) → Bytes xs → IfThere (IsFound p) (find p xs)
find_in p [] h = tt
find_in p (x ∷ xs) h = find_by p (p x) x (find p xs) refl h.0 (find_in p xs h.1)

last_not : (a b c : Bool) → (a && b && not c) ≡ true → c ≡ false
last_not true true true e = absurd cc
last_not true true false e = refl
last_not true false c e = absurd cc
last_not false b c e = absurd cc

due_by : (since : List Line) (due : Option ℕ) → IfThere (IsFound (is_due since)) due → IfThere (IsAsked since) (poll_due due)
due_by since None h = tt
due_by since (Some addr) h = record { small = h.0; asks = λ device. last_not (nat_le 2 addr) (list_any (λ byte. byte == addr) (noted since)) (list_any (polls addr) since) h.1 }

due_asked : (since : List Line) → IfThere (IsAsked since) (poll_due (next_due since))
unfolding next_due all_addresses
due_asked since = due_by since (find (is_due since) (addresses_below 256)) (find_in (is_due since) (addresses_below 256) (below_bytes 256 (omega arith)))

crc_asked : (addr : ℕ) (rest : Option (List ℕ)) (since : List Line) (all acknowledged : Bool) → is_acknowledged Simple addr rest ≡ acknowledged → addr < 256 →
    (nat_le 2 addr ≡ true → FreshHead addr (scanned Simple addr rest ∷ since)) →
    IfThere (IsAsked (scanned Simple addr rest ∷ since)) (cond (not all && not acknowledged) (Some (Crc, addr)) (poll_due (next_due (scanned Simple addr rest ∷ since))))
crc_asked addr rest since true acknowledged test small head = due_asked (scanned Simple addr rest ∷ since)
crc_asked addr rest since false true test small head = due_asked (scanned Simple addr rest ∷ since)
crc_asked addr rest since false false test small head =
    record { small = small; asks = λ device. (rw (eq-eqb addr addr refl) refl, rw (eq-eqb addr addr refl, test, head device (eq-eqb addr addr refl)) refl) }

after_asked : (since : List Line) → Fine since → IfThere (IsAsked since) (poll_after since)
after_asked (scanned Simple addr rest ∷ since) fine =
    crc_asked addr rest since (addr == 0) (is_acknowledged Simple addr rest) refl fine.small (λ device. (fine.once addr device).head)
after_asked since fine = due_asked since

calls_asked : (since : List Line) (simple crc : Bool) (rest : Option (CheckKind × ℕ)) → IfThere (IsAsked since) rest →
    IfThere (IsAsked since) (cond (not simple) (Some (Simple, 0)) (cond (not crc) (Some (Crc, 0)) rest))
calls_asked since false crc rest h = record { small = omega arith; asks = λ device. absurd cc }
calls_asked since true false rest h = record { small = omega arith; asks = λ device. absurd cc }
calls_asked since true true rest h = h

pub row_asked : (since : List Line) → Fine since → IfThere (IsAsked since) (scan_row since)
unfolding scan_row
row_asked since fine = calls_asked since (list_any (echoes Simple 0) since) (list_any (echoes Crc 0) since) (poll_after since) (after_asked since fine)

-- a poll more
never : false ≡ true → ⊥
never e = cc

false_is : (b : Bool) → (b ≡ true → false ≡ true) → b ≡ false
false_is true h = absurd (never (h refl))
false_is false h = refl

simple_more : (a addr : ℕ) (rest : Option (List ℕ)) (since : List Line) (here : Bool) → (addr == a) ≡ here → (here ≡ true → list_any (polls a) since ≡ false) → Once a since → Once a (scanned Simple addr rest ∷ since)
simple_more a addr rest since false test fresh once = record {
  simple = rw test once.simple;
  crc = rw test once.crc;
  apart = rw test once.apart;
  head = λ same. absurd (never (subst (λ b. b ≡ true) test same));
}
simple_more a addr rest since true test fresh once =
    let unpolled = fresh refl in
    let unanswered : list_any (answers Simple a) since ≡ false = false_is _ (λ e. sym unpolled ∙ once.simple e) in
    let silent : list_any (answers Crc a) since ≡ false = false_is _ (λ e. sym unpolled ∙ once.crc e) in
    record {
      simple = λ e. rw test refl;
      crc = λ e. rw test refl;
      apart = λ e. silent;
      head = λ same. unanswered;
    }

crc_more : (a addr : ℕ) (rest : Option (List ℕ)) (since : List Line) (here : Bool) → (addr == a) ≡ here → (here ≡ true → (list_any (polls a) since ≡ true) × (list_any (answers Simple a) since ≡ false)) →
    Once a since → Once a (scanned Crc addr rest ∷ since)
crc_more a addr rest since false test asked once = record {
  simple = once.simple;
  crc = rw test once.crc;
  apart = rw test once.apart;
  head = tt;
}
crc_more a addr rest since true test asked once =
    let known = asked refl in
    record {
      simple = once.simple;
      crc = λ e. known.0;
      apart = λ e. absurd (never (subst (λ b. b ≡ true) known.1 e));
      head = tt;
    }

once_more : (check : CheckKind) (a addr : ℕ) (rest : Option (List ℕ)) (since : List Line) → nat_le 2 a ≡ true → Asks since check addr → Once a since → Once a (scanned check addr rest ∷ since)
once_more Simple a addr rest since device asks once =
    simple_more a addr rest since (addr == a) refl (λ e. let is = eqb-true addr a e in subst (λ x. list_any (polls x) since ≡ false) is (asks (subst (λ x. nat_le 2 x ≡ true) (sym is) device))) once
once_more Crc a addr rest since device asks once =
    crc_more a addr rest since (addr == a) refl
    (λ e. let is = eqb-true addr a e in subst (λ x. (list_any (polls x) since ≡ true) × (list_any (answers Simple x) since ≡ false)) is (asks (subst (λ x. nat_le 2 x ≡ true) (sym is) device))) once

pub fine_more : (check : CheckKind) (addr : ℕ) (rest : Option (List ℕ)) (since : List Line) → IsAsked since (check, addr) → Fine since → Fine (scanned check addr rest ∷ since)
fine_more check addr rest since asked fine =
    record { once = λ a device. once_more check a addr rest since device asked.asks (fine.once a device); small = asked.small }

-- the list
set_long : (test : ℕ → Bool) → length (set_of test).members ≡ 256
unfolding all_addresses
set_long test = length-map (addresses_below 256) test ∙ length_below 256

maps_apart : (f g : ℕ → Bool) (xs : List ℕ) (i : ℕ) → ((a : ℕ) → f a ≡ true → g a ≡ false) → slice_index_or (map f xs) i false ≡ true → slice_index_or (map g xs) i false ≡ false
maps_apart f g [] i h e = refl
maps_apart f g (x ∷ xs) zero h e = h x e
maps_apart f g (x ∷ xs) (suc i) h e = maps_apart f g xs i h e

sets_apart : (f g : ℕ → Bool) (a : ℕ) → ((a : ℕ) → f a ≡ true → g a ≡ false) → has (set_of f) a ≡ true → has (set_of g) a ≡ false
sets_apart f g a h e = maps_apart f g all_addresses a h e

found_apart : (device simple crc : Bool) → (device ≡ true → simple ≡ true → crc ≡ false) → (device && simple) ≡ true → (device && crc) ≡ false
found_apart true true crc h e = h refl refl
found_apart true false crc h e = absurd cc
found_apart false simple crc h e = refl

listed_once : (since : List Line) → Fine since → IsListed (listed_in since)
unfolding listed_in
listed_once since fine = record {
  simple = set_long (found Simple since);
  crc = set_long (found Crc since);
  once =
      λ addr e. sets_apart (found Simple since) (found Crc since) addr
      (λ a. found_apart (nat_le 2 a) (list_any (answers Simple a) since) (list_any (answers Crc a) since) (λ device. (fine.once a device).apart)) e;
}

end_by : (since : List Line) (due : Option (CheckKind × ℕ)) → Fine since → IfThere (IsEnd 0) (end_by_row since due)
end_by since None fine = (refl, listed_once since fine)
end_by since (Some poll) fine = tt

ends_by : (since : List Line) (third : Bool) → Fine since → IfThere (IsEnd 0) (cond third (Some end_of.NoAnswer) (end_by_row since (scan_row since)))
ends_by since true fine = omega arith
ends_by since false fine = end_by since (scan_row since) fine

pub scan_ends : (since : List Line) → Fine since → IfThere (IsEnd 0) (end_of_scan since)
unfolding end_of_scan
scan_ends since fine = ends_by since ((scan_tries Simple since == 3) || (scan_tries Crc since == 3)) fine
