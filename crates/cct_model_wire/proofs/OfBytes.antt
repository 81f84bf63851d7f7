-- Lists of bytes, and what follows of what is there.
use Rattle.std.proofs.Common.{ℕ, zero, suc, ◌<◌, ◌==◌, ◌++◌, Bool, true, false, cond, List, [], ◌∷◌, take, slice_index, Option, Some, None, arith}
use Rattle.std.specs.Prelude.{⊤, unwrap_or, option_and_then}
use Rattle.cct_model_wire.specs.declared.wire.CheckKind.{CheckKind}
use Rattle.cct_model_wire.specs.declared.wire.CheckKind.TheVariants.{Simple, Crc}
use Rattle.cct_model_wire.specs.Message.{Message, message}
use Rattle.cct_model_wire.specs.Exchange.{after_echo}

-- each of them is below 256
abbrev pub Bytes : List ℕ → Type 0
Bytes [] = ⊤
Bytes (b ∷ bs) = (b < 256) × Bytes bs

pub bytes_are : (bs : List ℕ) → Bytes bs → (i : ℕ) → slice_index bs i < 256
bytes_are [] all i = omega arith
bytes_are (b ∷ bs) all zero = all.0
bytes_are (b ∷ bs) all (suc i) = bytes_are bs all.1 i

pub are_bytes : (bs : List ℕ) → ((i : ℕ) → slice_index bs i < 256) → Bytes bs
are_bytes [] h = tt
are_bytes (b ∷ bs) h = (h 0, are_bytes bs (λ i. h (suc i)))

pub bytes_more : (xs ys : List ℕ) → Bytes xs → Bytes ys → Bytes (xs ++ ys)
bytes_more [] ys h k = k
bytes_more (x ∷ xs) ys h k = (h.0, bytes_more xs ys h.1 k)

pub bytes_taken : (n : ℕ) (xs : List ℕ) → Bytes xs → Bytes (take n xs)
bytes_taken zero xs h = tt
bytes_taken (suc n) [] h = tt
bytes_taken (suc n) (x ∷ xs) h = (h.0, bytes_taken n xs h.1)

-- a fact of what is there, if it is
abbrev pub IfThere : {A : Type 0} → (A → Type 0) → Option A → Type 0
IfThere P None = ⊤
IfThere P (Some x) = P x

pub there_then : {A B : Type 0} (P : A → Type 0) (Q : B → Type 0) (f : A → Option B) (found : Option A) → IfThere P found
    → ((x : A) → P x → IfThere Q (f x)) → IfThere Q (option_and_then f found)
there_then P Q f None h k = tt
there_then P Q f (Some x) h k = k x h

pub there_if : {A : Type 0} (P : A → Type 0) (b : Bool) (x : A) → P x → IfThere P (cond b (Some x) None)
there_if P true x h = h
there_if P false x h = tt

pub there_when : {A : Type 0} (P : A → Type 0) (b : Bool) (found : Option A) → IfThere P found
    → IfThere P (cond b found None)
there_when P true found h = h
there_when P false found h = tt

-- what follows the echo in a list of bytes
pub rest_bytes : (sent heard : List ℕ) → Bytes heard → IfThere Bytes (after_echo sent heard)
unfolding after_echo
rest_bytes [] heard h = h
rest_bytes (s ∷ sent) [] h = tt
rest_bytes (s ∷ sent) (b ∷ heard) h = there_when Bytes (s == b) (after_echo sent heard) (rest_bytes sent heard h.1)

-- the message that a list of bytes is
pub record IsOfBytes (m : Message) : Type 0 where
  pub from : unwrap_or m.from 1 < 256
  pub body : Bytes m.body

pub message_bytes : (kind : CheckKind) (piece : List ℕ) → Bytes piece → IfThere IsOfBytes (message kind piece)
unfolding message
message_bytes Simple (to ∷ said ∷ from ∷ header ∷ rest) h =
    there_if IsOfBytes _ (record { to = to; from = Some from; header = header; body = take said rest })
    (record { from = h.1.1.0; body = bytes_taken said rest h.1.1.1.1 })
message_bytes Crc (to ∷ said ∷ low ∷ header ∷ rest) h =
    there_if IsOfBytes _ (record { to = to; from = None; header = header; body = take said rest })
    (record { from = omega arith; body = bytes_taken said rest h.1.1.1.1 })
message_bytes kind piece h = tt
