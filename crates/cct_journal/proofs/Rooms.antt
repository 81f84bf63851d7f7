-- The slots of an image: its bodies, and the first slot with a shut gate after them, which is the room for one more.
use Rattle.std.proofs.Common.{◌≡◌, ◌≢◌, inl, inr, ℕ, zero, suc, ◌+◌, ◌-◌, ◌*◌, ◌<◌, ◌≤◌, cond, List, [], ◌∷◌, ◌++◌}
use Rattle.std.proofs.Common.{length, take, drop, refl, sym, ◌∙◌, ap, subst, arith, append_assoc, length-append}
use Rattle.std.proofs.Common.{length-drop, take-append-drop, eq-eqb}
use Rattle.std.proofs.lemmas.Bool.{cases_eq, ne_eqb}
use Rattle.std.proofs.lemmas.List.{take_at, drop_at, length-take-le}
use Rattle.cct_journal.specs.Image.{bodies}
use Rattle.cct_journal.specs.Half.{open_gate}

-- the bytes after an open gate are a body
pub opened : (n gate : ℕ) (back : List ℕ) → gate ≡ open_gate
    → bodies (suc n) (gate ∷ back) ≡ take 31 back ∷ bodies n (drop 31 back)
opened n gate back is_open =
    ap (λ b. cond b (take 31 back ∷ bodies n (drop 31 back)) []) (eq-eqb gate open_gate is_open)

-- after an open gate a body counts
step : (n gate : ℕ) (body back : List ℕ) → gate ≡ open_gate → length body ≡ 31
    → bodies (suc n) (gate ∷ (body ++ back)) ≡ body ∷ bodies n back
step n gate body back is_open whole =
    opened n gate (body ++ back) is_open
    ∙ ap (λ x. x ∷ bodies n (drop 31 (body ++ back))) (take_at body back 31 whole)
    ∙ ap (λ (x : List ℕ). body ∷ bodies n x) (drop_at body back 31 whole)

-- after a shut gate nothing counts
pub closed : (n gate : ℕ) (back : List ℕ) → gate ≢ open_gate → bodies n (gate ∷ back) ≡ []
closed zero gate back shut = refl
closed (suc n) gate back shut =
    ap (λ b. cond b (take 31 back ∷ bodies n (drop 31 back)) []) (ne_eqb gate open_gate shut)

-- the first slot with a shut gate: what a byte there and bytes after it make of the bodies
pub record Room (n : ℕ) (bytes : List ℕ) (old : List (List ℕ)) : Type 0 where
  pub front : List ℕ
  pub gate : ℕ
  pub rest : List ℕ
  pub split : bytes ≡ front ++ (gate ∷ rest)
  pub place : length front ≡ 32 * length old
  pub shut : gate ≢ open_gate
  pub left_out : (g : ℕ) (x : List ℕ) → g ≢ open_gate → bodies n (front ++ (g ∷ x)) ≡ old
  pub put_in : (b back : List ℕ) → length b ≡ 31 → bodies (n - suc (length old)) back ≡ []
      → bodies n (front ++ (open_gate ∷ (b ++ back))) ≡ old ++ b ∷ []

-- the first slot is shut
here : (n gate : ℕ) (rest : List ℕ) → gate ≢ open_gate → Room (suc n) (gate ∷ rest) []
here n gate rest shut = record {
  front = [];
  gate = gate;
  rest = rest;
  split = refl;
  place = refl;
  shut = shut;
  left_out = λ g x closed_gate. closed (suc n) g x closed_gate;
  put_in = λ b back whole none.
      let same : suc n - 1 ≡ n = omega arith in
      step n open_gate b back refl whole ∙ ap (λ bs. b ∷ bs) (subst (λ m. bodies m back ≡ []) same none);
}

-- the first slot is open, and the room is among the slots after it
behind : (n gate : ℕ) (body bytes : List ℕ) (old : List (List ℕ)) → gate ≡ open_gate → length body ≡ 31
    → Room n bytes old → Room (suc n) (gate ∷ (body ++ bytes)) (body ∷ old)
behind n gate body bytes old is_open whole r = record {
  front = gate ∷ (body ++ r.front);
  gate = r.gate;
  rest = r.rest;
  split = ap (λ (l : List ℕ). gate ∷ l)
      (ap (λ (l : List ℕ). body ++ l) r.split ∙ sym (append_assoc body r.front (r.gate ∷ r.rest)));
  place = omega (arith, length-append body r.front, r.place);
  shut = r.shut;
  left_out = λ g x closed_gate.
      ap (λ (l : List ℕ). bodies (suc n) (gate ∷ l)) (append_assoc body r.front (g ∷ x))
      ∙ step n gate body (r.front ++ (g ∷ x)) is_open whole
      ∙ ap (λ bs. body ∷ bs) (r.left_out g x closed_gate);
  put_in = λ b back whole_b none.
      let same : suc n - suc (suc (length old)) ≡ n - suc (length old) = omega arith in
      ap (λ (l : List ℕ). bodies (suc n) (gate ∷ l)) (append_assoc body r.front (open_gate ∷ (b ++ back)))
      ∙ step n gate body (r.front ++ (open_gate ∷ (b ++ back))) is_open whole
      ∙ ap (λ bs. body ∷ bs) (r.put_in b back whole_b (subst (λ m. bodies m back ≡ []) same none));
}

-- where there are fewer bodies than slots, there is room
pub room : (n : ℕ) (bytes : List ℕ) (old : List (List ℕ)) → bodies n bytes ≡ old → length old < n
    → 32 * n ≤ length bytes → Room n bytes old
room zero bytes old are few long = absurd (omega arith)
room (suc n) [] old are few long = absurd (omega arith)
room (suc n) (gate ∷ rest) old are few long = elim (cases_eq gate open_gate) [
  | inr shut ↦ subst (λ o. Room (suc n) (gate ∷ rest) o) (sym (closed (suc n) gate rest shut) ∙ are)
      (here n gate rest shut)
  | inl is_open ↦
      let body = take 31 rest in
      let whole : length body ≡ 31 = length-take-le 31 rest (omega arith) in
      let cut : rest ≡ body ++ drop 31 rest = sym (take-append-drop 31 rest) in
      let are_those : old ≡ body ∷ bodies n (drop 31 rest) =
      sym are ∙ ap (λ (l : List ℕ). bodies (suc n) (gate ∷ l)) cut ∙ step n gate body (drop 31 rest) is_open whole in
      let counted : length old ≡ suc (length (bodies n (drop 31 rest))) = ap length are_those in
      let later = room n (drop 31 rest) (bodies n (drop 31 rest)) refl (omega (arith, counted))
      (omega (arith, length-drop 31 rest)) in
      let all = behind n gate body (drop 31 rest) (bodies n (drop 31 rest)) is_open whole later in
      subst (λ o. Room (suc n) (gate ∷ rest) o) (sym are_those)
      (subst (λ (l : List ℕ). Room (suc n) (gate ∷ l) (body ∷ bodies n (drop 31 rest))) (sym cut) all)
]

-- other bytes that are the same up to the shut gate have the same bodies
pub bodies_same : (n : ℕ) (xs ys : List ℕ) (old : List (List ℕ)) → Room n xs old
    → take (32 * length old + 1) ys ≡ take (32 * length old + 1) xs → bodies n ys ≡ old
bodies_same n xs ys old r same =
    let front_long : length (r.front ++ r.gate ∷ []) ≡ 32 * length old + 1 =
    omega (arith, length-append r.front (r.gate ∷ []), r.place) in
    let begins : take (32 * length old + 1) xs ≡ r.front ++ r.gate ∷ [] =
    ap (λ (l : List ℕ). take (32 * length old + 1) l) (r.split ∙ sym (append_assoc r.front (r.gate ∷ []) r.rest))
    ∙ take_at (r.front ++ r.gate ∷ []) r.rest (32 * length old + 1) front_long in
    let whole : ys ≡ r.front ++ (r.gate ∷ drop (32 * length old + 1) ys) =
    sym (take-append-drop (32 * length old + 1) ys)
    ∙ ap (λ (l : List ℕ). l ++ drop (32 * length old + 1) ys) (same ∙ begins)
    ∙ append_assoc r.front (r.gate ∷ []) (drop (32 * length old + 1) ys) in
    ap (bodies n) whole ∙ r.left_out r.gate (drop (32 * length old + 1) ys) r.shut
