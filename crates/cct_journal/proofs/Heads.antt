-- The bytes that a half begins with: how long they are, and that they say what a half begins with.
use Rattle.std.proofs.Common.{◌≡◌, ℕ, zero, suc, ◌+◌, ◌-◌, ◌*◌, ◌^◌, ◌<◌, ◌≤◌, Bool, List, [], ◌∷◌, ◌++◌, length, map, take, drop, replicate, slice_index, get_or, refl, sym, ◌∙◌, ap, subst, arith}
use Rattle.std.proofs.Common.{append_assoc, get_or-take, length-append, lit≤}
use Rattle.std.specs.Prelude.{flat_map}
use Rattle.std.specs.Int.{w32, to_le_bytes, from_le_bytes}
use Rattle.std.proofs.lemmas.Nat.{from_le_bytes-to_le_bytes_4}
use Rattle.std.proofs.lemmas.List.{drop-drop, drop-take, drop_at, length-map, length-replicate, take-take, take_all, take_at, take_more}
use Rattle.cct_model_lines.specs.Carried.{IsRightly}
use Rattle.cct_model_lines.specs.declared.carry.Carry.{Carry}
use Rattle.cct_model_lines.specs.declared.carry.CarryEpoch.{CarryEpoch}
use Rattle.cct_model_lines.specs.declared.carry.CarryOrder.{CarryOrder}
use Rattle.cct_record.specs.CarryBody.{SpellsCarry, SpellsNone, bodies_of, epoch_body, first_sums, order_body, second_sums, third_sums}
use Rattle.cct_record.proofs.CarryBack.{one_carry}
use Rattle.cct_journal.specs.Half.{open_gate, title, turns_in, version_in, window}
use Rattle.cct_journal.specs.Start.{Begins, MayBegin, area_with, carry_slot, header_with, start_of, start_with}
use Rattle.cct_journal.specs.StartReading.{TellsStart, base_in, bodies_in, count_in}
use Rattle.cct_journal.specs.declared.format.TheConstants.{START}

-- Each of some bodies has 31 bytes.
abbrev pub AreBodies : List (List ℕ) → Type 0
AreBodies [] = Unit {0}
AreBodies (body ∷ bodies) = (length body ≡ 31) × AreBodies bodies

-- Two lists of them one after the other.
pub both_bodies : (some more : List (List ℕ)) → AreBodies some → AreBodies more → AreBodies (some ++ more)
both_bodies [] more first second = second
both_bodies (body ∷ some) more first second = (first.0, both_bodies some more first.1 second)

-- The bodies of epochs have 31 bytes each.
epoch_bodies : (es : List CarryEpoch) → AreBodies (map epoch_body es)
unfolding epoch_body
epoch_bodies [] = tt
epoch_bodies (e ∷ es) = (refl, epoch_bodies es)

-- And those of orders.
pub order_bodies : (os : List CarryOrder) → AreBodies (map order_body os)
unfolding order_body
order_bodies [] = tt
order_bodies (o ∷ os) = (refl, order_bodies os)

-- And so have those of sums.
pub sums_long : (c : Carry) → (length (first_sums c) ≡ 31) × (length (second_sums c) ≡ 31) × (length (third_sums c) ≡ 31)
unfolding first_sums second_sums third_sums
sums_long c = (refl, refl, refl)

-- Each body of a carry has 31 bytes.
pub carry_bodies : (c : Carry) → AreBodies (bodies_of c)
carry_bodies c =
    let long = sums_long c in (
      long.0,
      (
        long.1,
        (
          long.2,
          both_bodies (map epoch_body c.epochs) (map order_body c.orders) (epoch_bodies c.epochs)
              (order_bodies c.orders),
        ),
      ),
    )

-- A carry has at most 35 bodies.
pub carry_count : (base : ℕ) (c : Carry) → IsRightly base c → length (bodies_of c) ≤ 35
carry_count base c rightly =
    let few = rightly.few in
    let both = length-append (map epoch_body c.epochs) (map order_body c.orders) in
    let epochs = length-map c.epochs epoch_body in
    let orders = length-map c.orders order_body in
    omega arith

-- A slot has 32 bytes.
slots_long : (bodies : List (List ℕ)) → AreBodies bodies → length (flat_map carry_slot bodies) ≡ 32 * length bodies
slots_long [] are = refl
slots_long (body ∷ bodies) are =
    let rest = slots_long bodies are.1 in
    let both = length-append (carry_slot body) (flat_map carry_slot bodies) in
    omega (arith, are.0)

-- Bytes after them fill up 1,120 bytes.
filled_long : (front : List ℕ) (many : ℕ) → length front ≡ 32 * many → many ≤ 35
    → length (front ++ replicate {A = ℕ} (1120 - 32 * many) 0) ≡ 1120
filled_long front many long few =
    let both = length-append front (replicate {A = ℕ} (1120 - 32 * many) 0) in
    let pad = length-replicate {A = ℕ} (1120 - 32 * many) 0 in
    omega arith

-- The slots of a carry have 1,120 bytes.
area_long : (bodies : List (List ℕ)) → AreBodies bodies → length bodies ≤ 35 → length (area_with bodies) ≡ 1120
area_long bodies are few = filled_long (flat_map carry_slot bodies) (length bodies) (slots_long bodies are) few

-- What a half begins with are a header and the slots of a carry.
start_header : (version generation base : ℕ) (bodies : List (List ℕ))
    → length (start_with version generation base bodies) ≡ 32 + length (area_with bodies)
unfolding start_with
start_header version generation base bodies =
    let both = length-append (header_with version generation base (length bodies)) (area_with bodies) in
    both

-- What a half begins with has 1,152 bytes.
pub with_len : (version generation base : ℕ) (bodies : List (List ℕ)) → AreBodies bodies → length bodies ≤ 35
    → length (start_with version generation base bodies) ≡ 1152
with_len version generation base bodies are few =
    let area = area_long bodies are few in
    let both = start_header version generation base bodies in
    omega arith

pub start_len : (generation base : ℕ) (c : Carry) → IsRightly base c → length (start_of generation base c) ≡ 1152
start_len generation base c rightly =
    with_len 3 generation base (bodies_of c) (carry_bodies c) (carry_count base c rightly)

-- It begins with the open gate and the title,
start_opens : (version generation base : ℕ) (bodies : List (List ℕ))
    → take 15 (start_with version generation base bodies) ≡ title
unfolding start_with
start_opens version generation base bodies = refl

-- and then its version stands.
start_version : (version generation base : ℕ) (bodies : List (List ℕ))
    → version_in (start_with version generation base bodies) ≡ version
unfolding start_with
start_version version generation base bodies = refl

-- Its first byte is the open gate.
pub start_gate : (generation base : ℕ) (c : Carry)
    → start_of generation base c ≡ open_gate ∷ drop 1 (start_of generation base c)
unfolding start_with
start_gate generation base c = refl

-- The generation, the base and how many bodies there are stand in it.
generation_there : (version generation base : ℕ) (bodies : List (List ℕ))
    → window 16 4 (start_with version generation base bodies) ≡ to_le_bytes w32 generation
unfolding start_with
generation_there version generation base bodies = refl

base_there : (version generation base : ℕ) (bodies : List (List ℕ))
    → window 20 4 (start_with version generation base bodies) ≡ to_le_bytes w32 base
unfolding start_with
base_there version generation base bodies = refl

pub count_there : (version generation base : ℕ) (bodies : List (List ℕ))
    → count_in (start_with version generation base bodies) ≡ length bodies
unfolding start_with
count_there version generation base bodies = refl

area_there : (version generation base : ℕ) (bodies : List (List ℕ))
    → drop 32 (start_with version generation base bodies) ≡ area_with bodies
unfolding start_with
area_there version generation base bodies = refl

-- The generation is read back.
pub generation_back : (version generation base : ℕ) (bodies : List (List ℕ)) → generation < 2 ^ 32
    → turns_in (start_with version generation base bodies) ≡ generation
generation_back version generation base bodies fits =
    ap (from_le_bytes w32) (generation_there version generation base bodies)
    ∙ from_le_bytes-to_le_bytes_4 generation fits

-- And so is the base.
pub base_back : (version generation base : ℕ) (bodies : List (List ℕ)) → base < 2 ^ 32
    → base_in (start_with version generation base bodies) ≡ base
base_back version generation base bodies fits =
    ap (from_le_bytes w32) (base_there version generation base bodies) ∙ from_le_bytes-to_le_bytes_4 base fits

-- Bytes that begin with those of another half have the same four bytes at a place before 1,149.
same_window : (at : ℕ) (bytes start : List ℕ) → at + 4 ≤ START → take START bytes ≡ start → window at 4 bytes ≡ window at 4 start
same_window at bytes start early same =
    sym (drop-take at 4 bytes) ∙ sym (ap (λ (xs : List ℕ). drop at xs) (take-take (at + 4) START bytes early))
    ∙ drop-take at 4 (take START bytes) ∙ ap (λ (xs : List ℕ). window at 4 xs) same

module _ (version generation base : ℕ) (bodies : List (List ℕ)) (bytes : List ℕ)
    (begins : take START bytes ≡ start_with version generation base bodies) where
  -- The bytes of a half that begins so have the title,
  pub begun_title : take 15 bytes ≡ title
  begun_title = sym (take-take 15 START bytes (lit≤ tt)) ∙ ap (λ (l : List ℕ). take 15 l) begins
      ∙ start_opens version generation base bodies

  -- and show its version
  pub begun_version : version_in bytes ≡ version
  begun_version = sym (get_or-take START bytes 15 0 (lit≤ tt)) ∙ ap (λ (l : List ℕ). slice_index l 15) begins
      ∙ start_version version generation base bodies

  -- and its generation.
  pub begun_tells : generation < 2 ^ 32 → turns_in bytes ≡ generation
  begun_tells fits =
      ap (from_le_bytes w32) (same_window 16 bytes (start_with version generation base bodies) (lit≤ tt) begins)
      ∙ generation_back version generation base bodies fits

-- The body of a slot is at its place after other slots.
slot_there : (bodies : List (List ℕ)) (rest : List ℕ) (n : ℕ) → AreBodies bodies → n < length bodies
    → window (32 * n + 1) 31 (flat_map carry_slot bodies ++ rest) ≡ get_or bodies n []
slot_there [] rest n are here = absurd (omega arith)
slot_there (body ∷ bodies) rest zero are here =
    ap (λ (xs : List ℕ). take 31 xs) (append_assoc body (flat_map carry_slot bodies) rest)
    ∙ take_at body (flat_map carry_slot bodies ++ rest) 31 are.0
slot_there (body ∷ bodies) rest (suc n) are here =
    let next = slot_there bodies rest n are.1 (omega arith) in
    let place : 32 * suc n + 1 ≡ 32 + (32 * n + 1) = omega arith in
    let whole = append_assoc (carry_slot body) (flat_map carry_slot bodies) rest in
    let first : drop 32 (carry_slot body ++ (flat_map carry_slot bodies ++ rest)) ≡ flat_map carry_slot bodies ++ rest =
    drop_at (carry_slot body) (flat_map carry_slot bodies ++ rest) 32 (ap suc are.0) in
    ap (λ k. window k 31 (flat_map carry_slot (body ∷ bodies) ++ rest)) place
    ∙ ap (λ (xs : List ℕ). take 31 xs) (sym (drop-drop (32 * n + 1) 32 (flat_map carry_slot (body ∷ bodies) ++ rest)))
    ∙ ap (λ (xs : List ℕ). take 31 (drop (32 * n + 1) (drop 32 xs))) whole
    ∙ ap (λ (xs : List ℕ). window (32 * n + 1) 31 xs) first ∙ next

-- The first bodies of a carry are read back.
some_back : (version generation base : ℕ) (bodies : List (List ℕ)) → AreBodies bodies → (n : ℕ) → n ≤ length bodies
    → bodies_in n (start_with version generation base bodies) ≡ take n bodies
some_back version generation base bodies are zero few = refl
some_back version generation base bodies are (suc n) few =
    let before = some_back version generation base bodies are n (omega arith) in
    let start = start_with version generation base bodies in
    let more : n + 1 ≡ suc n = omega arith in
    let place : 33 + 32 * n ≡ 32 + (32 * n + 1) = omega arith in
    let here : window (33 + 32 * n) 31 start ≡ get_or bodies n [] =
    ap (λ k. window k 31 start) place
    ∙ ap (λ (xs : List ℕ). take 31 xs) (sym (drop-drop (32 * n + 1) 32 start))
    ∙ ap (λ (xs : List ℕ). window (32 * n + 1) 31 xs) (area_there version generation base bodies)
    ∙ slot_there bodies (replicate (1120 - 32 * length bodies) 0) n are (omega arith) in
    ap (λ (xs : List (List ℕ)). xs ++ window (33 + 32 * n) 31 start ∷ []) before
    ∙ ap (λ (x : List ℕ). take n bodies ++ x ∷ []) here
    ∙ sym (take_more bodies n [] (omega arith))
    ∙ ap (λ k. take k bodies) more

-- All bodies of a carry are read back.
pub bodies_back : (version generation base : ℕ) (bodies : List (List ℕ)) → AreBodies bodies
    → bodies_in (count_in (start_with version generation base bodies)) (start_with version generation base bodies)
    ≡ bodies
bodies_back version generation base bodies are =
    ap (λ n. bodies_in n (start_with version generation base bodies)) (count_there version generation base bodies)
    ∙ some_back version generation base bodies are (length bodies) (omega arith)
    ∙ take_all (length bodies) bodies (omega arith)

-- Numbers and a carry with which a half may begin stand in the bytes that it begins with.
pub start_told : (second : Bool) (generation base : ℕ) (c : Carry) → MayBegin second generation base c
    → TellsStart generation base c (start_of generation base c)
start_told second generation base c may = record {
  generation_stands = generation_back 3 generation base (bodies_of c) may.generation_fits;
  base_stands = base_back 3 generation base (bodies_of c) (omega (arith, may.base_fits));
  carry_stands = record { rightly = may.rightly; spelt = sym (bodies_back 3 generation base (bodies_of c) (carry_bodies c)) };
}

-- No other numbers stand in the same bytes, and no other carry.
pub one_told : (generation more base basis : ℕ) (c other : Carry) (bytes : List ℕ) → base < 2 ^ 32 → TellsStart generation base c bytes
    → TellsStart more basis other bytes → (generation ≡ more) × (base ≡ basis) × (c ≡ other)
one_told generation more base basis c other bytes fits first second =
    let same : base ≡ basis = sym first.base_stands ∙ second.base_stands in (
      sym first.generation_stands ∙ second.generation_stands,
      same,
      one_carry c other base basis fits (omega arith)
          first.carry_stands.rightly second.carry_stands.rightly (first.carry_stands.spelt ∙ sym second.carry_stands.spelt),
    )

-- No two halves that may begin with the same bytes begin with other numbers or another carry.
pub one_start : (second other : Bool) (generation more base basis : ℕ) (c carry : Carry) → MayBegin second generation base c
    → MayBegin other more basis carry → start_of generation base c ≡ start_of more basis carry
    → (generation ≡ more) × (base ≡ basis) × (c ≡ carry)
one_start second other generation more base basis c carry may might same =
    one_told generation more base basis c carry (start_of generation base c) (omega (arith, may.base_fits))
    (start_told second generation base c may)
    (subst (λ bytes. TellsStart more basis carry bytes) (sym same) (start_told other more basis carry might))

-- The 1,152 bytes with which a half begins are those of its numbers and its carry.
pub begun_whole : (second : Bool) (generation base : ℕ) (c : Carry) (bytes : List ℕ) → length bytes ≡ START
    → Begins second generation base c bytes → start_of generation base c ≡ bytes
begun_whole second generation base c bytes long begins =
    sym begins.starts ∙ take_all START bytes (omega arith)

-- What a half begins with is in its bytes.
begun_told : (second : Bool) (generation base : ℕ) (c : Carry) (bytes : List ℕ) → length bytes ≡ START
    → Begins second generation base c bytes → TellsStart generation base c bytes
begun_told second generation base c bytes long begins =
    subst (λ xs. TellsStart generation base c xs) (begun_whole second generation base c bytes long begins)
    (start_told second generation base c begins.may)

-- No half begins with bytes in which no carry stands.
pub begins_none : (second : Bool) (bytes : List ℕ) → length bytes ≡ START
    → (count_in bytes ≤ 35 → SpellsNone (base_in bytes) (bodies_in (count_in bytes) bytes)) → (generation base : ℕ)
    (c : Carry) → Begins second generation base c bytes → ⊥
begins_none second bytes long none generation base c begins =
    let told = begun_told second generation base c bytes long begins in
    let whole = begun_whole second generation base c bytes long begins in
    let count : count_in bytes ≡ length (bodies_of c) = ap count_in (sym whole) ∙ count_there 3 generation base (bodies_of c) in
    let few = carry_count base c begins.may.rightly in
    none (omega arith) c (subst (λ many. SpellsCarry many c (bodies_in (count_in bytes) bytes)) (sym told.base_stands)
    told.carry_stands)

-- Nor does one begin with bytes in which numbers and a carry stand with which none begins so.
pub begins_no_other : (second : Bool) (generation base : ℕ) (c : Carry) (bytes : List ℕ) → length bytes ≡ START
    → TellsStart generation base c bytes → (Begins second generation base c bytes → ⊥) → (more basis : ℕ) (carry : Carry)
    → Begins second more basis carry bytes → ⊥
begins_no_other second generation base c bytes long told not more basis carry begins =
    let same = one_told more generation basis base carry c bytes (omega (arith, begins.may.base_fits))
    (begun_told second more basis carry bytes long begins) told in
    not (subst (λ x. Begins second generation base x bytes) same.2
    (subst (λ b. Begins second generation b carry bytes) same.1
    (subst (λ g. Begins second g basis carry bytes) same.0 begins)))

-- A half begins so if it may and its bytes are these.
pub begins_so : (second : Bool) (generation base : ℕ) (c : Carry) (bytes : List ℕ) → length bytes ≡ START
    → MayBegin second generation base c → start_of generation base c ≡ bytes → Begins second generation base c bytes
begins_so second generation base c bytes long may spelt = record {
  may = may;
  starts = take_all START bytes (omega arith) ∙ sym spelt;
}
