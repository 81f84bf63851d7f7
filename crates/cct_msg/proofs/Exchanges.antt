-- Requests and replies are read back from the pieces that carry them.
use Rattle.std.proofs.Common.{◌≡◌, ℕ, ◌<◌, ◌≤◌, ◌^◌, ◌&&◌, Bool, true, true≢false, cond, List, [], ◌∷◌, length, refl, sym, ap, subst, ◌∙◌, Option, Some, arith, eq-eqb}
use Rattle.std.specs.Prelude.{option_and_then}
use Rattle.std.specs.List.{flat_map}
use Rattle.cct_model_wire.specs.declared.wire.CheckKind.{CheckKind}
use Rattle.cct_model_wire.specs.declared.wire.CheckKind.TheVariants.{Simple, Crc}
use Rattle.cct_model_wire.specs.declared.coin.Pair.{Pair}
use Rattle.cct_model_wire.specs.declared.request.Request.{Request}
use Rattle.cct_model_wire.specs.declared.request.Request.TheVariants.{Dispense}
use Rattle.cct_model_wire.specs.declared.request.ReplyForm.{ReplyForm}
use Rattle.cct_model_wire.specs.declared.request.ReplyForm.TheVariants as form
use Rattle.cct_model_wire.specs.Message.{message, spelling}
use Rattle.cct_model_wire.specs.Request.{header_of, data_of, request_of}
use Rattle.cct_model_wire.specs.Reply.{Reply, IsSayable, pair_bytes, reply_data, reply_header, reply_in, ack, nak, busy, credits, mask, master, path, coin_id, status, life, remaining, register, text, serial, revision, accepts}
use Rattle.cct_model_wire.specs.Exchange.{ask, asked, asking, reply_from, replying}
use Rattle.cct_model_wire.proofs.Requests.{is_asked_again, IsAgain, two_back, three_back, request_back, request_short, credits_back, coin_id_back}
use Rattle.cct_frame.specs.Frame.{carried}
use Rattle.cct_frame.proofs.Spellings.{written_back}
use Rattle.cct_msg.specs.Forms.{FitsItsBytes, IsWhole, form_shown}

-- what a message asks survives either check
asked_carried : (kind : CheckKind) (addr : ℕ) (q : Request) → option_and_then (λ m. request_of m.header m.body) (Some (carried kind (asking addr q))) ≡ request_of (header_of q) (data_of q)
asked_carried Simple addr q = refl
asked_carried Crc addr q = refl

-- a request that is asked again is no dispense, so it fits its bytes
pub again_fits : (q : Request) → IsAgain q → FitsItsBytes q
again_fits q again number count e = absurd (true≢false (sym again ∙ ap is_asked_again e))

-- and so does a dispense under a serial number of three bytes
pub serial_fits : (own count : ℕ) → own < 2 ^ 24 → FitsItsBytes (Dispense own count)
serial_fits own count short number many e = subst (λ n. n < 2 ^ 24) (same e) short
  where
    same : Dispense own count ≡ Dispense number many → own ≡ number
    same e = cc

-- what the host asks is asked
pub asked_back : (kind : CheckKind) (addr : ℕ) (q : Request) → FitsItsBytes q → asked kind (ask kind addr q) ≡ Some q
unfolding asked ask
asked_back kind addr q fits =
    let few = request_short q in
    let short : length (data_of q) ≤ 255 = omega arith in
    ap (option_and_then (λ m. request_of m.header m.body)) (written_back kind (asking addr q) short refl)
    ∙ asked_carried kind addr q
    ∙ request_back q fits

-- a counter and five events are eleven bytes
credits_eleven : (n : ℕ) (pairs : List Pair) → length pairs ≡ 5 → length (n ∷ flat_map pair_bytes pairs) ≡ 11
credits_eleven n [] five = absurd (omega arith)
credits_eleven n (a ∷ []) five = absurd (omega arith)
credits_eleven n (a ∷ b ∷ []) five = absurd (omega arith)
credits_eleven n (a ∷ b ∷ c ∷ []) five = absurd (omega arith)
credits_eleven n (a ∷ b ∷ c ∷ d ∷ []) five = absurd (omega arith)
credits_eleven n (a ∷ b ∷ c ∷ d ∷ e ∷ []) five = refl
credits_eleven n (a ∷ b ∷ c ∷ d ∷ e ∷ f ∷ rest) five = absurd (omega arith)

-- a reply that can be said has 255 data bytes at most
reply_short : (y : Reply) → IsWhole y → IsSayable y → length (reply_data y) ≤ 255
unfolding reply_data
reply_short (credits read) whole sayable = omega (arith, credits_eleven read.counter read.pairs whole)
reply_short (coin_id characters) whole sayable = omega arith
reply_short (text bytes) whole sayable = sayable
reply_short y whole sayable = omega arith

-- a reply that has a form has header 0
form_header : (y : Reply) (wanted : ReplyForm) → form_shown y ≡ Some wanted → reply_header y ≡ 0
form_header nak wanted e = cc
form_header busy wanted e = cc
form_header y wanted e = refl

at_form : (own wanted : ReplyForm) (y : Reply) (body : List ℕ) → Some own ≡ Some wanted → reply_in own body ≡ Some y → reply_in wanted body ≡ Some y
at_form own wanted y body e back =
    let is : own ≡ wanted = cc in
    ap (λ f. reply_in f body) (sym is) ∙ back

-- a reply is read back in its form from its data bytes
pub reply_back : (wanted : ReplyForm) (y : Reply) → form_shown y ≡ Some wanted → IsWhole y → IsSayable y → reply_in wanted (reply_data y) ≡ Some y
unfolding reply_data reply_in
reply_back wanted ack e whole sayable = at_form form.Ack wanted ack [] e refl
reply_back wanted nak e whole sayable = cc
reply_back wanted busy e whole sayable = cc
reply_back wanted (credits read) e whole sayable = at_form form.Credits wanted (credits read) _ e (credits_back read.counter read.pairs whole)
reply_back wanted (mask bits) e whole sayable = at_form form.Mask wanted (mask bits) _ e (ap (λ n. Some (mask n)) (two_back bits))
reply_back wanted (master value) e whole sayable = at_form form.Master wanted (master value) (value ∷ []) e refl
reply_back wanted (path number) e whole sayable = at_form form.Path wanted (path number) (number ∷ []) e refl
reply_back wanted (coin_id characters) e whole sayable = at_form form.CoinId wanted (coin_id characters) characters e (coin_id_back characters whole)
reply_back wanted (status events left paid unpaid) e whole sayable = at_form form.Status wanted (status events left paid unpaid) (events ∷ left ∷ paid ∷ unpaid ∷ []) e refl
reply_back wanted (life count) e whole sayable = at_form form.Life wanted (life count) _ e (ap (λ n. Some (life n)) (three_back count sayable))
reply_back wanted (remaining count) e whole sayable = at_form form.Remaining wanted (remaining count) (count ∷ []) e refl
reply_back wanted (register bits) e whole sayable = at_form form.Register wanted (register bits) (bits ∷ []) e refl
reply_back wanted (text bytes) e whole sayable = at_form form.Text wanted (text bytes) bytes e refl
reply_back wanted (serial number) e whole sayable = at_form form.Serial wanted (serial number) _ e (ap (λ n. Some (serial n)) (three_back number sayable))
reply_back wanted (revision release major minor) e whole sayable = at_form form.Revision wanted (revision release major minor) (release ∷ major ∷ minor ∷ []) e refl
reply_back wanted (accepts count) e whole sayable = at_form form.Accepts wanted (accepts count) _ e (ap (λ n. Some (accepts n)) (three_back count sayable))

both_hold : (a b : Bool) (x y : Option Reply) → a ≡ true → b ≡ true → cond (a && b) x y ≡ x
both_hold a b x y p q = rw (p, q) refl

-- what a message replies survives either check
reply_carried : (kind : CheckKind) (wanted : ReplyForm) (addr : ℕ) (y : Reply) → reply_header y ≡ 0 → reply_from wanted addr (carried kind (replying 1 addr y)) ≡ reply_in wanted (reply_data y)
reply_carried Simple wanted addr y zero = both_hold _ _ _ _ (eq-eqb addr addr refl) (eq-eqb _ _ zero)
reply_carried Crc wanted addr y zero = both_hold true _ _ _ refl (eq-eqb _ _ zero)

-- the host reads what the device of an address replies
pub reply_heard : (kind : CheckKind) (wanted : ReplyForm) (addr : ℕ) (y : Reply) → form_shown y ≡ Some wanted → IsWhole y → IsSayable y → option_and_then (reply_from wanted addr) (message kind (spelling kind (replying 1 addr y))) ≡ Some y
reply_heard kind wanted addr y e whole sayable =
    ap (option_and_then (reply_from wanted addr)) (written_back kind (replying 1 addr y) (reply_short y whole sayable) refl)
    ∙ reply_carried kind wanted addr y (form_header y wanted e)
    ∙ reply_back wanted y e whole sayable
