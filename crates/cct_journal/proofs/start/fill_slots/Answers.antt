use Rattle.std.proofs.Common.{◌≡◌, ℕ, ◌+◌, ◌-◌, ◌*◌, ◌<◌, List, [], ◌∷◌, ◌++◌, length, take, drop, get_or, replicate, refl, sym, ◌∙◌, ap, arith}
use Rattle.std.proofs.Common.{append_assoc, length-append}
use Rattle.std.specs.Prelude.{flat_map}
use Rattle.std.proofs.lemmas.List.{append-nil, drop_at, replicate-append-replicate, take_at, take_more}
use Rattle.std.proofs.lemmas.Grind.{flat_map-append}
use borrow.Rule.Slice.PartMut.{put_mid, post_of}
use Rattle.cct_journal.specs.Start.{carry_slot}
use Rattle.cct_journal.proofs.start.fill_slots.Goals as goal

-- What is written over a part is between what was before it and after it.
put_over : (at many : ℕ) (front part back new all : List ℕ) → all ≡ front ++ (part ++ back) → length front ≡ at
    → length part ≡ many → put_mid at many all new ≡ front ++ (new ++ back)
put_over at many front part back new all is before long =
    ap (λ (xs : List ℕ). put_mid at many xs new) is
    ∙ ap (λ (xs : List ℕ). xs ++ (new ++ post_of at many (front ++ (part ++ back)))) (take_at front (part ++ back) at before)
    ∙ ap (λ (xs : List ℕ). front ++ (new ++ xs))
    (ap (λ (xs : List ℕ). drop many xs) (drop_at front (part ++ back) at before) ∙ drop_at part back many long)

-- One slot more.
one_slot : (bodies : List (List ℕ)) (n : ℕ) (body : List ℕ) → n < length bodies → body ≡ get_or bodies n []
    → flat_map carry_slot (take (n + 1) bodies) ≡ flat_map carry_slot (take n bodies) ++ carry_slot body
one_slot bodies n body here is =
    ap (λ (xs : List (List ℕ)). flat_map carry_slot xs) (take_more bodies n [] here)
    ∙ flat_map-append carry_slot (take n bodies) (get_or bodies n [] ∷ [])
    ∙ ap (λ (xs : List ℕ). flat_map carry_slot (take n bodies) ++ xs) (append-nil (carry_slot (get_or bodies n [])))
    ∙ ap (λ (x : List ℕ). flat_map carry_slot (take n bodies) ++ carry_slot x) (sym is)

-- The slot after others is filled.
slot_filled : (at many rest : ℕ) (front body all new : List ℕ) → length front + 1 ≡ at → many ≡ 31 → length body ≡ 31
    → all ≡ front ++ replicate (32 + rest) 0 → new ≡ body
    → put_mid at many all new ≡ (front ++ carry_slot body) ++ replicate rest 0
slot_filled at many rest front body all new before is long held same =
    let zeros : replicate {A = ℕ} (32 + rest) 0 ≡ replicate 32 0 ++ replicate rest 0 = sym (replicate-append-replicate 32 rest 0) in
    let count = length-append front (0 ∷ []) in
    let whole : all ≡ (front ++ 0 ∷ []) ++ (replicate 31 0 ++ replicate rest 0) =
    held ∙ ap (λ (xs : List ℕ). front ++ xs) zeros ∙ sym (append_assoc front (0 ∷ []) (replicate 31 0 ++ replicate rest 0)) in
    put_over at many (front ++ 0 ∷ []) (replicate 31 0) (replicate rest 0) new all whole (omega arith) (sym is)
    ∙ ap (λ (xs : List ℕ). (front ++ 0 ∷ []) ++ (xs ++ replicate rest 0)) same
    ∙ append_assoc front (0 ∷ []) (body ++ replicate rest 0)
    ∙ sym (append_assoc front (carry_slot body) (replicate rest 0))

pub loop-body-preserved : goal.loop-body-preserved
loop-body-preserved c =
    let n = c.loop-body.body-index in
    let bodies = c.args.bodies.now in
    let body = get_or bodies n [] in
    let front = flat_map carry_slot (take n bodies) in
    let more = one_slot bodies n body c.loop-body-test.true refl in
    let long = c.told-bodies n c.loop-body-test.true in
    let both = length-append front (carry_slot body) in
    let zeros : 1120 - 32 * n ≡ 32 + (1120 - 32 * (n + 1)) = omega (arith, c.requires.few, c.loop-body-test.true) in
    record {
      at = omega (arith, c.loop-body.invariant.at);
      long = ap length more ∙ both ∙ (omega (arith, c.loop-body.invariant.long, long));
      filled = slot_filled c.loop-body.at (c.loop-body.at + 31 - c.loop-body.at) (1120 - 32 * (n + 1)) front body c.loop-body.area
          c.copy_from_slice.new.self (omega (arith, c.loop-body.invariant.long, c.loop-body.invariant.at)) (omega arith) long
          (c.loop-body.invariant.filled ∙ ap (λ k. front ++ replicate k 0) zeros) c.copy_from_slice.ensures.after
          ∙ ap (λ (xs : List ℕ). xs ++ replicate (1120 - 32 * (n + 1)) 0) (sym more);
    }
