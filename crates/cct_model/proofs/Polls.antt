-- The polls of a scan: the line that each is, and how many addresses there are.
use Rattle.std.proofs.Common.{◌≡◌, ℕ, zero, suc, ◌<◌, ◌&&◌, not, Bool, true, false, cond, List, [], ◌∷◌, length, slice_index, inl, inr, refl, ◌∙◌, arith, eq-eqb, length-append}
use Rattle.std.specs.Prelude.{bytes_eq}
use Rattle.std.proofs.lemmas.Bool.{and_parts, cases_eq}
use Rattle.cct_model.specs.terms.wire.CheckKind.{CheckKind}
use Rattle.cct_model.specs.terms.wire.CheckKind.TheVariants.{Simple, Crc}
use Rattle.cct_model.specs.terms.request.Request.{Request}
use Rattle.cct_model.specs.Message.{crc, spelling}
use Rattle.cct_model.specs.Request.{data_of}
use Rattle.cct_model.specs.DeviceSet.{addresses_below}
use Rattle.cct_model.specs.Exchange.{after_echo, ask}
use Rattle.cct_model.specs.Line.{scanned}
use Rattle.cct_model.specs.Scan.{poll_of}
use Rattle.cct_model.specs.Transcript.{scan_line}

bytes_same : (xs : List ℕ) → bytes_eq xs xs ≡ true
bytes_same [] = refl
bytes_same (x ∷ xs) = rw (eq-eqb x x refl, bytes_same xs) refl

first_byte : (check : CheckKind) (addr : ℕ) (q : Request) → slice_index (ask check addr q) 0 ≡ addr
unfolding ask spelling
first_byte Simple addr q = refl
first_byte Crc addr q = refl

line_by : (sent heard : List ℕ) (addr : ℕ) (b : Bool) → slice_index sent 0 ≡ addr → bytes_eq sent (ask Simple addr (poll_of addr)) ≡ b
    → scan_line sent heard ≡ cond b (scanned Simple addr (after_echo sent heard)) (scanned Crc addr (after_echo sent heard))
unfolding scan_line
line_by sent heard addr b first test = rw (first, test) refl

-- a test of every number below another, which computes
abbrev all_below : (ℕ → Bool) → ℕ → Bool
all_below test zero = true
all_below test (suc n) = test n && all_below test n

below : (test : ℕ → Bool) (n : ℕ) → all_below test n ≡ true → (k : ℕ) → k < n → test k ≡ true
below test zero e k within = absurd (omega arith)
below test (suc n) e k within =
    let both = and_parts (test n) (all_below test n) e in
    elim (cases_eq k n) [ inl same ↦ rw same both.0 | inr other ↦ below test n both.1 k (omega arith) ]

not_true : (b : Bool) → not b ≡ true → b ≡ false
not_true true e = absurd cc
not_true false e = refl

-- the two polls of an address are different bytes, at each address
polls_differ : (addr : ℕ) → addr < 256 → bytes_eq (ask Crc addr (poll_of addr)) (ask Simple addr (poll_of addr)) ≡ false
unfolding ask spelling crc data_of
polls_differ addr within = not_true _ (below (λ a. not (bytes_eq (ask Crc a (poll_of a)) (ask Simple a (poll_of a)))) 256 refl addr within)

-- the line of a poll under a check is that of its address and its check
pub simple_poll_line : (addr : ℕ) (heard : List ℕ) → scan_line (ask Simple addr (poll_of addr)) heard ≡ scanned Simple addr (after_echo (ask Simple addr (poll_of addr)) heard)
simple_poll_line addr heard =
    line_by (ask Simple addr (poll_of addr)) heard addr true (first_byte Simple addr (poll_of addr)) (bytes_same (ask Simple addr (poll_of addr)))

pub poll_line : (check : CheckKind) (addr : ℕ) (heard : List ℕ) → addr < 256 →
    scan_line (ask check addr (poll_of addr)) heard ≡ scanned check addr (after_echo (ask check addr (poll_of addr)) heard)
poll_line Simple addr heard within = simple_poll_line addr heard
poll_line Crc addr heard within =
    line_by (ask Crc addr (poll_of addr)) heard addr false (first_byte Crc addr (poll_of addr)) (polls_differ addr within)

-- so many addresses are below a number
pub length_below : (n : ℕ) → length (addresses_below n) ≡ n
length_below zero = refl
length_below (suc n) = length-append (addresses_below n) (n ∷ []) ∙ omega (arith, length_below n)
