-- What a device says has room: it answers by a message only where the piece is for it, and else by its address alone.
use Rattle.std.proofs.Common.{◌≡◌, ℕ, ◌≤◌, ◌==◌, ◌⊎◌, inl, inr, Bool, true, false, cond, List, [], ◌∷◌, length, slice_index, Option, Some, None, refl, ap, ◌∙◌, arith}
use Rattle.std.specs.Prelude.{MatchOption, option_and_then, unwrap_or}
use Rattle.std.specs.Option.{option_or, option_map}
use Rattle.std.proofs.lemmas.Bool.{eqb-true}
use Rattle.std.proofs.lemmas.Bool.Decides.{nat_tests}
use Rattle.cct_model.specs.terms.wire.CheckKind.{CheckKind}
use Rattle.cct_model.specs.terms.wire.CheckKind.TheVariants.{Simple, Crc}
use Rattle.cct_model.specs.terms.device.DeviceBody.{DeviceBody}
use Rattle.cct_model.specs.terms.device.DeviceBody.TheVariants as body
use Rattle.cct_model.specs.terms.device.DeviceSetup.{DeviceSetup}
use Rattle.cct_model.specs.terms.request.Request.{Request}
use Rattle.cct_model.specs.terms.request.Request.TheVariants.{AddressPoll}
use Rattle.cct_model.specs.Acceptor.{acceptor_reply}
use Rattle.cct_model.specs.Bill.{bill_reply}
use Rattle.cct_model.specs.Hopper.{hopper_reply}
use Rattle.cct_model.specs.Device.{common_reply, own_reply, reply_of}
use Rattle.cct_model.specs.Exchange.{answer, answer_to, asked_of, asker, asks_of, reply_bytes, to_all, to_one}
use Rattle.cct_model.specs.History.{Met}
use Rattle.cct_model.specs.Message.{Message, message}
use Rattle.cct_model.specs.Request.{request_of}
use Rattle.cct_bus.specs.Room.{most_said}

some_is : (test : Bool) (x m : Message) → cond test (Some x) None ≡ Some m → x ≡ m
some_is true x m e = cc
some_is false x m e = absurd cc

-- the first byte of a message says whom it is for
message_to : (kind : CheckKind) (piece : List ℕ) (m : Message) → message kind piece ≡ Some m → slice_index piece 0 ≡ m.to
unfolding message
message_to Simple [] m e = absurd cc
message_to Simple (a ∷ []) m e = absurd cc
message_to Simple (a ∷ b ∷ []) m e = absurd cc
message_to Simple (a ∷ b ∷ c ∷ []) m e = absurd cc
message_to Simple (a ∷ b ∷ c ∷ d ∷ rest) m e = ap (λ x. x.to) (some_is _ _ m e)
message_to Crc [] m e = absurd cc
message_to Crc (a ∷ []) m e = absurd cc
message_to Crc (a ∷ b ∷ []) m e = absurd cc
message_to Crc (a ∷ b ∷ c ∷ []) m e = absurd cc
message_to Crc (a ∷ b ∷ c ∷ d ∷ rest) m e = ap (λ x. x.to) (some_is _ _ m e)

poll_only : (r : Option Request) (q : Request) → to_all r ≡ Some q → q ≡ AddressPoll
poll_only None q e = absurd cc
poll_only (Some AddressPoll) q e = cc
poll_only (Some r) q e = absurd cc

asked_by : (here all : Bool) (one r : Option Request) (q : Request) → cond here one (cond all (to_all r) None) ≡ Some q → (here ≡ true) ⊎ ((all ≡ true) × (q ≡ AddressPoll))
asked_by true all one r q e = inl refl
asked_by false true one r q e = inr (refl, poll_only r q e)
asked_by false false one r q e = absurd cc

-- a piece that asks something of a device is for it, or is an address poll for all
abbrev IsForOneOrAll : ℕ → ℕ → Request → Type 0
IsForOneOrAll addr to q = (to ≡ addr) ⊎ ((to ≡ 0) × (q ≡ AddressPoll))

asked_at : (here all : Bool) (addr to : ℕ) (q : Request) → (to == addr) ≡ here → (to == 0) ≡ all → (here ≡ true) ⊎ ((all ≡ true) × (q ≡ AddressPoll)) → IsForOneOrAll addr to q
asked_at here all addr to q e f (inl h) = inl (eqb-true _ _ (e ∙ h))
asked_at here all addr to q e f (inr h) = inr (eqb-true _ _ (f ∙ h.0), h.1)

asked_of_message : (addr : ℕ) (kind : CheckKind) (piece : List ℕ) (found : Option Message) (q : Request) → message kind piece ≡ found → option_and_then (asked_of addr) found ≡ Some q → IsForOneOrAll addr (slice_index piece 0) q
asked_of_message addr kind piece None q read e = absurd cc
asked_of_message addr kind piece (Some m) q read e =
    rw (message_to kind piece m read)
    (asked_at (m.to == addr) (m.to == 0) addr m.to q refl refl
    (asked_by (m.to == addr) (m.to == 0) (to_one (request_of m.header m.body)) (request_of m.header m.body) q e))

pub asked_where : (d : DeviceSetup) (piece : List ℕ) (q : Request) → asks_of d piece ≡ Some q → IsForOneOrAll d.addr (slice_index piece 0) q
unfolding asks_of
asked_where d piece q e = asked_of_message d.addr d.kind piece (message d.kind piece) q refl e

poll_own : (serial : ℕ) (b : DeviceBody) (past : List Met) → own_reply serial b past AddressPoll ≡ None
unfolding acceptor_reply bill_reply hopper_reply
poll_own serial (body.Acceptor accepts values ids) past = refl
poll_own serial (body.Hopper life value) past = refl
poll_own serial (body.Bill accepts values ids) past = refl

-- an address poll is answered by the address
poll_answer : (d : DeviceSetup) (past : List Met) (to : ℕ) → answer_to d past to (Some AddressPoll) ≡ Some (d.addr ∷ [])
unfolding reply_of common_reply
poll_answer d past to =
    ap (λ y. option_or (option_map (reply_bytes d to) y) (Some (d.addr ∷ []))) (poll_own d.serial d.body past)

room_to_one : (addr : ℕ) (piece said : List ℕ) → slice_index piece 0 ≡ addr → length said ≤ 260 → length said ≤ most_said addr piece
room_to_one addr piece said here fits = grind (arith, nat_tests)

room_to_all : (addr : ℕ) (piece said : List ℕ) → slice_index piece 0 ≡ 0 → length said ≤ 1 → length said ≤ most_said addr piece
room_to_all addr piece said here fits = grind (arith, nat_tests)

polled : (d : DeviceSetup) (past : List Met) (to : ℕ) (q : Request) (said : List ℕ) → q ≡ AddressPoll → said ≡ unwrap_or (answer_to d past to (Some q)) [] → length said ≤ 1
polled d past to q said is e =
    let one : said ≡ d.addr ∷ [] = e ∙ ap (λ r. unwrap_or (answer_to d past to (Some r)) []) is ∙ ap (λ v. unwrap_or v []) (poll_answer d past to) in
    omega (arith, ap length one)

room_asked : (d : DeviceSetup) (past : List Met) (piece said : List ℕ) (q : Request) → IsForOneOrAll d.addr (slice_index piece 0) q
    → said ≡ unwrap_or (answer_to d past (asker d.kind piece) (Some q)) [] → length said ≤ 260 → length said ≤ most_said d.addr piece
room_asked d past piece said q (inl here) e fits = room_to_one d.addr piece said here fits
room_asked d past piece said q (inr poll) e fits = room_to_all d.addr piece said poll.0 (polled d past (asker d.kind piece) q said poll.1 e)

room_by : (d : DeviceSetup) (past : List Met) (piece said : List ℕ) (asked : Option Request) → asks_of d piece ≡ asked
    → said ≡ unwrap_or (answer_to d past (asker d.kind piece) asked) [] → length said ≤ 260 → length said ≤ most_said d.addr piece
room_by d past piece said None asks e fits = omega (arith, ap length e)
room_by d past piece said (Some q) asks e fits = room_asked d past piece said q (asked_where d piece q asks) e fits

-- what a device answers has its room
pub said_room : (d : DeviceSetup) (past : List Met) (piece said : List ℕ) → said ≡ unwrap_or (answer d past piece) [] → length said ≤ 260 → length said ≤ most_said d.addr piece
said_room d past piece said e fits = room_by d past piece said (asks_of d piece) refl e fits

-- an answer, or none, as a device gives it
pub said_is : (r : Option (List ℕ)) (answered : Bool) (said : List ℕ) → MatchOption r ((answered ≡ false) × (said ≡ [])) (λ bytes. (answered ≡ true) × (said ≡ bytes)) → said ≡ unwrap_or r []
said_is None answered said h = h.1
said_is (Some bytes) answered said h = h.1
