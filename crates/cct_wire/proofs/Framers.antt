-- What a framer holds of the bytes that came since the last gap.
use Rattle.std.proofs.Common.{◌≡◌, ◌↔◌, ap₂, IsSome, ℕ, ◌+◌, ◌-◌, ◌^◌, ◌<◌, ◌≤◌, List, [], ◌∷◌, ◌++◌, length, take, get_or, Option, Some, None, refl, sym, ap, subst, ◌∙◌, arith}
use Rattle.std.specs.Prelude.{min, IfErr, Result}
use Rattle.std.proofs.lemmas.Bool.Decides.{nat_tests}
use Rattle.std.proofs.lemmas.List.{take_all, take_at, take-append-le, take_more, length-take-le, length-append, take-take}
use Rattle.cct_model_wire.specs.declared.wire.CheckKind.{CheckKind}
use Rattle.cct_model_wire.specs.declared.wire.CheckKind.TheVariants.{Simple, Crc}
use Rattle.cct_model_wire.specs.Message.{Message, crc, message}
use Rattle.cct_frame.specs.Frame.{before_last, fault_in, run_over}
use Rattle.cct_frame.specs.declared.reading.FrameFault.{FrameFault}
use Rattle.cct_frame.specs.declared.reading.FrameView.{FrameView}
use Rattle.cct_frame.proofs.Places.{none_many}
use Rattle.cct_wire.specs.declared.framer.Framer.{Framer}
use Rattle.cct_wire.specs.Framer.{Since, fault_since, held_by}

-- as long as it counts no more than a message can have, it holds all that came
pub held_whole : (f : Framer) (bytes : List ℕ) → Since f bytes → f.count ≤ 260 → held_by f ≡ bytes
held_whole f bytes since short =
    let fits : length bytes ≤ 260 = omega (arith, since.count) in
    since.held ∙ take_all 260 bytes fits

-- and it counts more exactly where more came
pub count_long : (f : Framer) (bytes : List ℕ) → Since f bytes → 260 ≤ f.count → 260 ≤ length bytes
count_long f bytes since long = omega (arith, since.count)

pub count_many : (f : Framer) (bytes : List ℕ) → Since f bytes → 260 < f.count → 260 < length bytes
count_many f bytes since long = omega (arith, since.count)

-- one byte more for which there is room is held after the others
pub since_more : (old new : Framer) (bytes : List ℕ) (byte : ℕ) → Since old bytes → old.count < 260 → new.count ≡ old.count + 1
    → held_by new ≡ held_by old ++ byte ∷ [] → Since new (bytes ++ byte ∷ [])
since_more old new bytes byte since room counts holds =
    let more : length (bytes ++ byte ∷ []) ≡ length bytes + 1 = length-append bytes (byte ∷ []) in
    let fits : length (bytes ++ byte ∷ []) ≤ 260 = omega (arith, since.count) in
    record {
      count = omega (arith, since.count);
      held = holds ∙ ap (λ front. front ++ byte ∷ []) (held_whole old bytes since (omega arith)) ∙ sym (take_all 260 (bytes ++ byte ∷ []) fits);
    }

-- and one for which there is none is counted
pub since_counted : (old new : Framer) (bytes : List ℕ) (byte : ℕ) → Since old bytes → 260 ≤ old.count → length old.buffer ≡ 260
    → new.buffer ≡ old.buffer → new.count ≡ min (old.count + 1) (2 ^ 64 - 1) → Since new (bytes ++ byte ∷ [])
since_counted old new bytes byte since long whole same counts =
    let more : length (bytes ++ byte ∷ []) ≡ length bytes + 1 = length-append bytes (byte ∷ []) in
    let many : 260 ≤ length bytes = count_long old bytes since long in
    let before : take old.count old.buffer ≡ old.buffer = take_all old.count old.buffer (omega arith) in
    let after : take new.count old.buffer ≡ old.buffer = take_all new.count old.buffer (omega arith) in
    record {
      count = omega (arith, since.count);
      held = ap (take new.count) same ∙ after ∙ sym before ∙ since.held ∙ sym (take-append-le 260 bytes (byte ∷ []) many);
    }

-- what it holds then is a message exactly where all that came is
pub whole_more : (old new : Framer) (bytes : List ℕ) (byte : ℕ) → Since old bytes → old.count < 260 → new.kind ≡ old.kind
    → held_by new ≡ held_by old ++ byte ∷ [] → (IsSome (message new.kind (held_by new)) ↔ IsSome (message old.kind (bytes ++ byte ∷ [])))
whole_more old new bytes byte since room same holds =
    let all : held_by new ≡ bytes ++ byte ∷ [] = holds ∙ ap (λ front. front ++ byte ∷ []) (held_whole old bytes since (omega arith)) in
    let is : message new.kind (held_by new) ≡ message old.kind (bytes ++ byte ∷ []) = ap₂ message same all in
    (λ some. subst (λ m. IsSome m) is some, λ some. subst (λ m. IsSome m) (sym is) some)

-- and no more than a message can have are one
pub none_more : (f : Framer) (bytes : List ℕ) (byte : ℕ) → Since f bytes → 260 ≤ f.count → ¬ IsSome (message f.kind (bytes ++ byte ∷ []))
none_more f bytes byte since long some =
    let many : 260 ≤ length bytes = count_long f bytes since long in
    let none : message f.kind (bytes ++ byte ∷ []) ≡ None = none_many f.kind (bytes ++ byte ∷ []) (omega (arith, length-append bytes (byte ∷ []))) in
    let at_none : IsSome {T = Message} None = subst (λ m. IsSome m) none some in
    cc

-- all bytes but the last of bytes and one more are those
pub before_pushed : (bytes : List ℕ) (byte : ℕ) → before_last (bytes ++ byte ∷ []) ≡ bytes
before_pushed bytes byte = take_at bytes (byte ∷ []) _ (omega (arith, length-append bytes (byte ∷ [])))

before_front : (xs : List ℕ) (n : ℕ) → n ≤ length xs → before_last (take n xs) ≡ take (n - 1) xs
before_front xs n within =
    ap (λ k. take (k - 1) (take n xs)) (length-take-le n xs within) ∙ take-take (n - 1) n xs (omega arith)

-- the first bytes are all of them but the last and the last
pub last_apart : (xs : List ℕ) (n : ℕ) → 0 < n → n ≤ length xs → take n xs ≡ before_last (take n xs) ++ get_or xs (n - 1) 0 ∷ []
last_apart xs n some within =
    ap (λ k. take k xs) (omega arith)
    ∙ take_more xs (n - 1) 0 (omega arith)
    ∙ ap (λ front. front ++ get_or xs (n - 1) 0 ∷ []) (sym (before_front xs n within))

-- a check makes nothing of no byte
pub run_nothing : (kind : CheckKind) → 0 ≡ run_over kind []
unfolding run_over crc
run_nothing Simple = refl
run_nothing Crc = refl

short_fault : (kind : CheckKind) (bytes : List ℕ) → length bytes ≤ 260 → fault_in kind bytes ≡ fault_since kind bytes
short_fault kind bytes short = grind (arith, nat_tests)

-- what is wrong with the bytes that it holds is what is wrong with all that came
pub fault_held : (f : Framer) (bytes : List ℕ) → Since f bytes → f.count ≤ 260 → (read : Result FrameView FrameFault)
    → IfErr read (λ fault. fault_in f.kind (held_by f) ≡ Some fault) → IfErr read (λ fault. fault_since f.kind bytes ≡ Some fault)
fault_held f bytes since short read told =
    let fits : length bytes ≤ 260 = omega (arith, since.count) in
    let same : fault_in f.kind (held_by f) ≡ fault_since f.kind bytes =
    ap (fault_in f.kind) (held_whole f bytes since short) ∙ short_fault f.kind bytes fits in
    subst (λ (found : Option FrameFault). IfErr read (λ fault. found ≡ Some fault)) same told
