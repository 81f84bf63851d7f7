-- A message and the piece that spells it represent one another.
use Rattle.std.proofs.Common.{◌≡◌, ◌≢◌, ◌↔◌, ℕ, suc, ◌+◌, ◌-◌, ◌*◌, ◌/◌, ◌%◌, ◌<◌, ◌≤◌, ◌&&◌, Bool, true, false, eqb, List, [], ◌∷◌, ◌++◌, length, take, slice_index, sum, refl, sym, ap, ◌∙◌, Option, Some, None, IsSome, arith, cond, eq-eqb}
use Rattle.std.specs.List.{All}
use Rattle.std.proofs.lemmas.Bool.{eqb-true}
use Rattle.std.proofs.lemmas.Bool.Decides.{nat_tests}
use Rattle.std.proofs.lemmas.List.{take_all, take_at, take_more, length-take-le, get_or_append_left, get_or_at, length-append, nil_from_length}
use Rattle.std.proofs.lemmas.List.Elements.{All-get_or}
use Rattle.std.proofs.lemmas.List.Sums.{sum_by_push}
use Rattle.cct_model_wire.specs.declared.wire.CheckKind.{CheckKind}
use Rattle.cct_model_wire.specs.declared.wire.CheckKind.TheVariants.{Simple, Crc}
use Rattle.cct_model_wire.specs.Message.{Message, message, spelling, crc, length_agrees}
use Rattle.cct_model_wire.proofs.Messages.{simple_read_back}
use Rattle.cct_frame.specs.Frame.{carried}
use Rattle.cct_frame.proofs.Places.{agrees, both, none_short, none_length}

-- what is known of a message that two tests let through
passed : {X : Type 0} (a b : Bool) (x m : X) → cond (a && b) (Some x) None ≡ Some m → (a ≡ true) × (b ≡ true) × (x ≡ m)
passed true true x m e = (refl, refl, cc)
passed true false x m e = cc
passed false b x m e = cc

agreed : (said : ℕ) (rest : List ℕ) → length_agrees said rest ≡ true → (said ≤ 255) × (length rest ≡ said + 1)
agreed said rest e = grind (arith, nat_tests)

-- the second byte of a message shows its length
length_said : (kind : CheckKind) (p : List ℕ) (m : Message) → message kind p ≡ Some m → (5 ≤ length p) × (slice_index p 1 + 5 ≡ length p)
length_said kind p m e = grind (arith, none_short kind p, none_length kind p, e)

-- whether the check of a piece is that of its bytes, and whom it names as its source
abbrev holds : CheckKind → ℕ → ℕ → ℕ → ℕ → List ℕ → Bool
holds Simple to said from header rest = eqb (sum (to ∷ said ∷ from ∷ header ∷ rest) % 256) 0
holds Crc to said low header rest = eqb (crc (to ∷ said ∷ header ∷ take said rest)) (low + 256 * slice_index rest said)

abbrev source : CheckKind → ℕ → Option ℕ
source Simple third = Some third
source Crc third = None

-- what is known of a piece that is a message: its length agrees, its check holds, and the message is that of its bytes
known_of : (kind : CheckKind) (to said third header : ℕ) (rest : List ℕ) (m : Message) → message kind (to ∷ said ∷ third ∷ header ∷ rest) ≡ Some m
    → (length_agrees said rest ≡ true) × (holds kind to said third header rest ≡ true)
    × (record { to = to; from = source kind third; header = header; body = take said rest } ≡ m)
unfolding message
known_of Simple to said third header rest m e = passed (length_agrees said rest) (holds Simple to said third header rest) _ m e
known_of Crc to said third header rest m e = passed (length_agrees said rest) (holds Crc to said third header rest) _ m e

-- the last byte of a sum that is closed is the one that closes it
closed_by : (s last : ℕ) → last < 256 → (s + last) % 256 ≡ 0 → (256 - s % 256) % 256 ≡ last
closed_by s last byte e = omega arith

-- a list and its last element
last_apart : (rest : List ℕ) (said : ℕ) → length rest ≡ said + 1 → rest ≡ take said rest ++ slice_index rest said ∷ []
last_apart rest said e =
    sym (take_all (said + 1) rest (omega arith)) ∙ take_more rest said 0 (omega arith)

-- what the places of a piece show of it as a spelling, where its check holds
simple_spelled : (to from header last : ℕ) (body : List ℕ) → last < 256 → sum (to ∷ length body ∷ from ∷ header ∷ (body ++ last ∷ [])) % 256 ≡ 0
    → to ∷ length body ∷ from ∷ header ∷ (body ++ last ∷ []) ≡ spelling Simple (record { to = to; from = Some from; header = header; body = body })
unfolding spelling
simple_spelled to from header last body byte zero =
    let front = to ∷ length body ∷ from ∷ header ∷ body in
    let closed : (256 - sum front % 256) % 256 ≡ last = closed_by (sum front) last byte (sym (ap (λ n. n % 256) (sum_by_push (λ x. x) front last)) ∙ zero) in
    ap (λ n. front ++ n ∷ []) (sym closed)

crc_spelled : (to low header last : ℕ) (body : List ℕ) → low < 256 → crc (to ∷ length body ∷ header ∷ body) ≡ low + 256 * last
    → to ∷ length body ∷ low ∷ header ∷ (body ++ last ∷ []) ≡ spelling Crc (record { to = to; from = None; header = header; body = body })
unfolding spelling
crc_spelled to low header last body byte equal =
    let check = crc (to ∷ length body ∷ header ∷ body) in
    let low_is : low ≡ check % 256 = omega arith in
    let last_is : last ≡ check / 256 = omega arith in
    ap (λ n. to ∷ length body ∷ n ∷ header ∷ (body ++ last ∷ [])) low_is
    ∙ ap (λ n. to ∷ length body ∷ check % 256 ∷ header ∷ (body ++ n ∷ [])) last_is

-- the same of a piece whose data are what its second byte says
spelled_at : (kind : CheckKind) (to third header last : ℕ) (body : List ℕ) → third < 256 → last < 256 → holds kind to (length body) third header (body ++ last ∷ []) ≡ true
    → to ∷ length body ∷ third ∷ header ∷ (body ++ last ∷ []) ≡ spelling kind (record { to = to; from = source kind third; header = header; body = body })
spelled_at Simple to third header last body third_byte last_byte e = simple_spelled to third header last body last_byte (eqb-true _ _ e)
spelled_at Crc to third header last body third_byte last_byte e =
    let data_is : take (length body) (body ++ last ∷ []) ≡ body = take_at body (last ∷ []) (length body) refl in
    let last_is : slice_index (body ++ last ∷ []) (length body) ≡ last = get_or_at body last [] 0 (length body) refl in
    crc_spelled to third header last body third_byte
    (sym (ap (λ xs. crc (to ∷ length body ∷ header ∷ xs)) data_is) ∙ eqb-true _ _ e ∙ ap (λ n. third + 256 * n) last_is)

-- a piece of bytes that is a message is the spelling of that message
pub message_spelled : (kind : CheckKind) (p : List ℕ) (m : Message) → All (λ byte. byte < 256) p → message kind p ≡ Some m → p ≡ spelling kind m
message_spelled kind [] m bytes e = absurd (omega (arith, (length_said kind [] m e).0))
message_spelled kind (to ∷ []) m bytes e = absurd (omega (arith, (length_said kind (to ∷ []) m e).0))
message_spelled kind (to ∷ said ∷ []) m bytes e = absurd (omega (arith, (length_said kind (to ∷ said ∷ []) m e).0))
message_spelled kind (to ∷ said ∷ third ∷ []) m bytes e = absurd (omega (arith, (length_said kind (to ∷ said ∷ third ∷ []) m e).0))
message_spelled kind (to ∷ said ∷ third ∷ header ∷ rest) m bytes e =
    let p = to ∷ said ∷ third ∷ header ∷ rest in
    let known = known_of kind to said third header rest m e in
    let fits = (agreed said rest known.0).1 in
    let body = take said rest in
    let last = slice_index rest said in
    let third_byte : third < 256 = All-get_or (λ byte. byte < 256) p 2 0 (omega arith) bytes in
    let last_byte : last < 256 = All-get_or (λ byte. byte < 256) p (suc (suc (suc (suc said)))) 0 (omega arith) bytes in
    let said_is : said ≡ length body = sym (length-take-le said rest (omega arith)) in
    let rest_is : rest ≡ body ++ last ∷ [] = last_apart rest said fits in
    let held : holds kind to (length body) third header (body ++ last ∷ []) ≡ true =
    sym (ap (λ n. holds kind to n third header (body ++ last ∷ [])) said_is) ∙ sym (ap (holds kind to said third header) rest_is) ∙ known.1 in
    ap (λ n. to ∷ n ∷ third ∷ header ∷ rest) said_is
    ∙ ap (λ xs. to ∷ length body ∷ third ∷ header ∷ xs) rest_is
    ∙ spelled_at kind to third header last body third_byte last_byte held
    ∙ ap (spelling kind) known.2

-- it has 255 data bytes at most, and names its source under the simple check alone
pub message_body : (kind : CheckKind) (p : List ℕ) (m : Message) → message kind p ≡ Some m → length m.body ≤ 255
message_body kind [] m e = absurd (omega (arith, (length_said kind [] m e).0))
message_body kind (to ∷ []) m e = absurd (omega (arith, (length_said kind (to ∷ []) m e).0))
message_body kind (to ∷ said ∷ []) m e = absurd (omega (arith, (length_said kind (to ∷ said ∷ []) m e).0))
message_body kind (to ∷ said ∷ third ∷ []) m e = absurd (omega (arith, (length_said kind (to ∷ said ∷ third ∷ []) m e).0))
message_body kind (to ∷ said ∷ third ∷ header ∷ rest) m e =
    let known = known_of kind to said third header rest m e in
    let fits = agreed said rest known.0 in
    let said_is : length (take said rest) ≡ said = length-take-le said rest (omega arith) in
    let body_is : length (take said rest) ≡ length m.body = ap (λ n. length n.body) known.2 in
    omega arith

source_named : (kind : CheckKind) (third : ℕ) → IsSome (source kind third) ↔ (kind ≡ Simple)
source_named Simple third = (λ named. refl, λ e. refl)
source_named Crc third = (λ named. cc, λ e. cc)

pub message_source : (kind : CheckKind) (p : List ℕ) (m : Message) → message kind p ≡ Some m → IsSome m.from ↔ (kind ≡ Simple)
message_source kind [] m e = absurd (omega (arith, (length_said kind [] m e).0))
message_source kind (to ∷ []) m e = absurd (omega (arith, (length_said kind (to ∷ []) m e).0))
message_source kind (to ∷ said ∷ []) m e = absurd (omega (arith, (length_said kind (to ∷ said ∷ []) m e).0))
message_source kind (to ∷ said ∷ third ∷ []) m e = absurd (omega (arith, (length_said kind (to ∷ said ∷ third ∷ []) m e).0))
message_source kind (to ∷ said ∷ third ∷ header ∷ rest) m e =
    let from_is : source kind third ≡ m.from = ap (λ n. n.from) (known_of kind to said third header rest m e).2 in
    rw (← from_is) (source_named kind third)

-- a message that names its source and has 255 data bytes at most is read back from its spelling under the simple check
simple_back_from : (to header : ℕ) (from : Option ℕ) (body : List ℕ) → length body ≤ 255 → IsSome from →
    message Simple (spelling Simple (record { to = to; from = from; header = header; body = body })) ≡ Some (record { to = to; from = from; header = header; body = body })
simple_back_from to header None body short named = cc
simple_back_from to header (Some from) body short named = simple_read_back to from header body short

pub simple_back : (m : Message) → length m.body ≤ 255 → IsSome m.from → message Simple (spelling Simple m) ≡ Some m
simple_back m short named = simple_back_from m.to m.header m.from m.body short named

-- and under the CRC without its source
crc_back_from : (to header : ℕ) (from : Option ℕ) (body : List ℕ) → length body ≤ 255 →
    message Crc (spelling Crc (record { to = to; from = from; header = header; body = body })) ≡ Some (record { to = to; from = None; header = header; body = body })
unfolding message spelling
crc_back_from to header from body short =
    let check = crc (to ∷ length body ∷ header ∷ body) in
    let last = check / 256 in
    let data_is : take (length body) (body ++ last ∷ []) ≡ body = take_at body (last ∷ []) (length body) refl in
    let last_is : slice_index (body ++ last ∷ []) (length body) ≡ last = get_or_at body last [] 0 (length body) refl in
    let split : check ≡ check % 256 + 256 * (check / 256) = omega arith in
    let equal : crc (to ∷ length body ∷ header ∷ take (length body) (body ++ last ∷ [])) ≡ check % 256 + 256 * slice_index (body ++ last ∷ []) (length body) =
    ap (λ xs. crc (to ∷ length body ∷ header ∷ xs)) data_is ∙ split ∙ sym (ap (λ n. check % 256 + 256 * n) last_is) in
    both _ _ _ _ (agrees (length body) (body ++ last ∷ []) short (length-append body (last ∷ []))) (eq-eqb _ _ equal)
    ∙ ap (λ xs. Some (record { to = to; from = None; header = header; body = xs })) data_is

pub crc_back : (m : Message) → length m.body ≤ 255 → message Crc (spelling Crc m) ≡ Some (carried Crc m)
crc_back m short = crc_back_from m.to m.header m.from m.body short

-- what is written under a check is read back
pub written_back : (kind : CheckKind) (m : Message) → length m.body ≤ 255 → IsSome m.from → message kind (spelling kind m) ≡ Some (carried kind m)
written_back Simple m short named = simple_back m short named
written_back Crc m short named = crc_back m short

-- no message is a proper front of another
pub no_front : (kind : CheckKind) (p q : List ℕ) (m n : Message) → message kind p ≡ Some m → message kind (p ++ q) ≡ Some n → q ≡ []
no_front kind p q m n first second =
    let short = length_said kind p m first in
    let long = length_said kind (p ++ q) n second in
    let same : slice_index (p ++ q) 1 ≡ slice_index p 1 = get_or_append_left p q 0 1 (omega arith) in
    nil_from_length q (omega (arith, length-append p q))

-- so what is written is no message with anything after it
none_unless : (found : Option Message) → ((n : Message) → found ≡ Some n → ⊥) → found ≡ None
none_unless None never = refl
none_unless (Some n) never = absurd (never n refl)

pub written_alone : (kind : CheckKind) (m : Message) (more : List ℕ) → length m.body ≤ 255 → IsSome m.from → more ≢ [] → message kind (spelling kind m ++ more) ≡ None
written_alone kind m more short named some =
    none_unless _ (λ n e. some (no_front kind (spelling kind m) more (carried kind m) n (written_back kind m short named) e))
