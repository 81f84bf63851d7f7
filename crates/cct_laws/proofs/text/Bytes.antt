-- Lists of bytes: what is sent, what a device answers, and what is read of what is heard.
use Rattle.std.proofs.Common.{ℕ, ◌*◌, ◌/◌, ◌%◌, ◌<◌, ◌==◌, ◌&&◌, ◌++◌, rules, Bool, true, false, cond, List, [], ◌∷◌, length, fold, bit_xor, Option, Some, None, arith}
use Rattle.std.specs.Prelude.{⊤, unwrap_or, option_and_then, flat_map}
use Rattle.std.proofs.lemmas.Nat.{xor_of_16}
use Rattle.cct_model.specs.terms.wire.CheckKind.{CheckKind}
use Rattle.cct_model.specs.terms.wire.CheckKind.TheVariants.{Simple, Crc}
use Rattle.cct_model.specs.terms.request.Request.{Request}
use Rattle.cct_model.specs.terms.request.Request.TheVariants.{SetMask, Dispense, AddressPoll}
use Rattle.cct_model.specs.terms.request.ReplyForm.{ReplyForm}
use Rattle.cct_model.specs.terms.request.ReplyForm.TheVariants as form
use Rattle.cct_model.specs.Message.{Message, bits_of, crc_bit, crc, closing_byte, spelling, message}
use Rattle.cct_model.specs.Request.{requests_with, open_requests, with_header, request_of}
use Rattle.cct_model.specs.Reply.{Reply}
use Rattle.cct_model.specs.Reply as reply
use Rattle.cct_model.specs.Exchange.{after_echo, is_for_host, reply_from, got, asker, to_all, to_one}
use Rattle.cct_model_wire.proofs.OfBytes.{Bytes, IfThere, bytes_more, there_then, there_when, rest_bytes, IsOfBytes, message_bytes}

-- the register of a CRC has 16 bits
xored_fits : (t : Bool) (x : ℕ) → x < 65536 → cond t x (bit_xor x 4129) < 65536
xored_fits true x h = h
xored_fits false x h = xor_of_16 x 4129 h (omega arith)

fold_fits : (bits : List ℕ) (register : ℕ) → register < 65536 → fold crc_bit register bits < 65536
fold_fits [] register h = h
fold_fits (bit ∷ bits) register h = fold_fits bits (crc_bit register bit) (xored_fits (register / 32768 == bit) (register * 2 % 65536) (omega arith))

crc_fits : (bytes : List ℕ) → crc bytes < 65536
unfolding crc
crc_fits bytes = fold_fits (flat_map bits_of bytes) 0 (omega arith)

-- a message of bytes, and those that spell it
abbrev pub FitsFrom : Option ℕ → Type 0
FitsFrom from = unwrap_or from 0 < 256

pub record FitsMessage (m : Message) : Type 0 where
  pub to : m.to < 256
  pub from : FitsFrom m.from
  pub header : m.header < 256
  pub short : length m.body < 256
  pub body : Bytes m.body

pub spelled_bytes : (kind : CheckKind) (m : Message) → FitsMessage m → Bytes (spelling kind m)
unfolding spelling
spelled_bytes Simple m fits =
    let front = m.to ∷ length m.body ∷ unwrap_or m.from 0 ∷ m.header ∷ m.body in
    bytes_more front (closing_byte front ∷ []) (fits.to, (fits.short, (fits.from, (fits.header, fits.body)))) (omega arith, tt)
spelled_bytes Crc m fits =
    let check = crc (m.to ∷ length m.body ∷ m.header ∷ m.body) in
    let small : check < 65536 = crc_fits (m.to ∷ length m.body ∷ m.header ∷ m.body) in
    (fits.to, (fits.short, (omega arith, (fits.header, bytes_more m.body (check / 256 ∷ []) fits.body (omega (arith, small), tt)))))

-- the asker that a list of bytes names
asker_by : (found : Option Message) → IfThere IsOfBytes found → unwrap_or (option_and_then (λ m. m.from) found) 1 < 256
asker_by None h = omega arith
asker_by (Some m) h = h.from

pub asker_fits : (kind : CheckKind) (piece : List ℕ) → Bytes piece → asker kind piece < 256
unfolding asker
asker_fits kind piece h = asker_by (message kind piece) (message_bytes kind piece h)

-- a request of bytes sets a mask of 16 bits, and asks to pay at most 255 coins
abbrev pub FitsRequest : Request → Type 0
FitsRequest (SetMask mask) = mask < 65536
FitsRequest (Dispense serial count) = count < 256
FitsRequest q = ⊤

abbrev Each : List Request → Type 0
Each [] = ⊤
Each (q ∷ qs) = FitsRequest q × Each qs

request_in : (header : ℕ) (qs : List Request) → Each qs → IfThere FitsRequest (with_header header qs)
request_in header [] each = tt
request_in header (q ∷ qs) each = found_or (header == _) (request_in header qs each.1)
  where
    found_or : (b : Bool) → IfThere FitsRequest (with_header header qs) → IfThere FitsRequest (cond b (Some q) (with_header header qs))
    found_or true later = each.0
    found_or false later = later

requests_fit : (body : List ℕ) → Bytes body → Each (requests_with body)
unfolding requests_with
requests_fit [] h = search rules
requests_fit (byte ∷ []) h = search rules
requests_fit (first ∷ second ∷ []) h = (omega (arith, h.0, h.1.0), (tt, tt))
requests_fit (a ∷ b ∷ c ∷ []) h = tt
requests_fit (a ∷ b ∷ c ∷ d ∷ []) h = (h.1.1.1.0, tt)
requests_fit (a ∷ b ∷ c ∷ d ∷ e ∷ []) h = tt
requests_fit (a ∷ b ∷ c ∷ d ∷ e ∷ f ∷ []) h = tt
requests_fit (a ∷ b ∷ c ∷ d ∷ e ∷ f ∷ g ∷ []) h = tt
requests_fit (a ∷ b ∷ c ∷ d ∷ e ∷ f ∷ g ∷ i ∷ []) h = tt
requests_fit (a ∷ b ∷ c ∷ d ∷ e ∷ f ∷ g ∷ i ∷ j ∷ []) h = (tt, tt)
requests_fit (a ∷ b ∷ c ∷ d ∷ e ∷ f ∷ g ∷ i ∷ j ∷ k ∷ rest) h = tt

pub request_fits : (header : ℕ) (body : List ℕ) → Bytes body → IfThere FitsRequest (request_of header body)
unfolding request_of
request_fits header body h = request_in header (open_requests ++ requests_with body) (tt, (tt, requests_fit body h))

-- what a message of bytes asks of a device
pub to_one_fits : (found : Option Request) → IfThere FitsRequest found → IfThere FitsRequest (to_one found)
to_one_fits None h = tt
to_one_fits (Some q) h = one q h
  where
    one : (q : Request) → FitsRequest q → IfThere FitsRequest (to_one (Some q))
    one q h = search rules

pub to_all_fits : (found : Option Request) → IfThere FitsRequest (to_all found)
to_all_fits (Some AddressPoll) = tt
to_all_fits found = tt

-- a reply whose inhibit mask has 16 bits
abbrev pub FitsReply : Reply → Type 0
FitsReply (reply.mask mask) = mask < 65536
FitsReply y = ⊤

none_fits : (P : Reply → Type 0) (y : Reply) (body : List ℕ) → P y → IfThere P (reply.none_in y body)
none_fits P y [] h = h
none_fits P y (b ∷ body) h = tt

one_fits : (P : Reply → Type 0) (make : ℕ → Reply) (body : List ℕ) → ((a : ℕ) → P (make a)) →
    IfThere P (reply.one_in make body)
one_fits P make [] k = tt
one_fits P make (a ∷ []) k = k a
one_fits P make (a ∷ b ∷ body) k = tt

two_fits : (P : Reply → Type 0) (make : ℕ → ℕ → Reply) (body : List ℕ) → Bytes body → ((a b : ℕ) → a < 256 → b < 256 → P (make a b)) → IfThere P (reply.two_in make body)
two_fits P make [] h k = tt
two_fits P make (a ∷ []) h k = tt
two_fits P make (a ∷ b ∷ []) h k = k a b h.0 h.1.0
two_fits P make (a ∷ b ∷ c ∷ body) h k = tt

three_fits : (P : Reply → Type 0) (make : ℕ → ℕ → ℕ → Reply) (body : List ℕ) → ((a b c : ℕ) → P (make a b c)) → IfThere P (reply.three_in make body)
three_fits P make [] k = tt
three_fits P make (a ∷ []) k = tt
three_fits P make (a ∷ b ∷ []) k = tt
three_fits P make (a ∷ b ∷ c ∷ []) k = k a b c
three_fits P make (a ∷ b ∷ c ∷ d ∷ body) k = tt

status_fits : (body : List ℕ) → IfThere FitsReply (reply.status_in body)
status_fits (a ∷ b ∷ c ∷ d ∷ []) = tt
status_fits body = tt

id_fits : (body : List ℕ) → IfThere FitsReply (reply.coin_id_in body)
id_fits (c1 ∷ c2 ∷ c3 ∷ c4 ∷ c5 ∷ c6 ∷ []) = tt
id_fits body = tt

credits_fit : (body : List ℕ) → IfThere FitsReply (reply.credits_in body)
credits_fit (n ∷ a1 ∷ b1 ∷ a2 ∷ b2 ∷ a3 ∷ b3 ∷ a4 ∷ b4 ∷ a5 ∷ b5 ∷ []) = tt
credits_fit body = tt

reply_in_fits : (f : ReplyForm) (body : List ℕ) → Bytes body → IfThere FitsReply (reply.reply_in f body)
unfolding reply.reply_in
reply_in_fits form.Ack body h = none_fits FitsReply reply.ack body tt
reply_in_fits form.Credits body h = credits_fit body
reply_in_fits form.Mask body h = two_fits FitsReply _ body h (λ a b k l. omega (arith, k, l))
reply_in_fits form.Master body h = one_fits FitsReply reply.master body (λ a. tt)
reply_in_fits form.Path body h = one_fits FitsReply reply.path body (λ a. tt)
reply_in_fits form.CoinId body h = id_fits body
reply_in_fits form.Status body h = status_fits body
reply_in_fits form.Life body h = three_fits FitsReply _ body (λ a b c. tt)
reply_in_fits form.Remaining body h = one_fits FitsReply reply.remaining body (λ a. tt)
reply_in_fits form.Register body h = one_fits FitsReply reply.register body (λ a. tt)
reply_in_fits form.Text body h = tt
reply_in_fits form.Serial body h = three_fits FitsReply _ body (λ a b c. tt)
reply_in_fits form.Revision body h = three_fits FitsReply _ body (λ a b c. tt)
reply_in_fits form.Accepts body h = three_fits FitsReply _ body (λ a b c. tt)

-- the reply that is got in what is heard
pub got_fits : (kind : CheckKind) (addr : ℕ) (f : ReplyForm) (sent heard : List ℕ) → Bytes heard → IfThere FitsReply (got kind addr f sent heard)
unfolding got
got_fits kind addr f sent heard h =
    there_then Bytes FitsReply _ (after_echo sent heard) (rest_bytes sent heard h)
    (λ piece b. there_then IsOfBytes FitsReply (reply_from f addr) (message kind piece) (message_bytes kind piece b)
    (λ m of_bytes. there_when FitsReply (is_for_host addr m && (m.header == 0)) (reply.reply_in f m.body) (reply_in_fits f m.body of_bytes.body)))
