-- What is read as a reply is a reply of the wanted form with these data bytes.
use Rattle.std.proofs.Common.{◌≡◌, ℕ, ◌/◌, ◌%◌, ◌<◌, List, [], ◌∷◌, refl, subst, Some, arith}
use Rattle.std.specs.List.{All}
use Rattle.cct_model_wire.specs.declared.request.ReplyForm.{ReplyForm}
use Rattle.cct_model_wire.specs.declared.request.ReplyForm.TheVariants as form
use Rattle.cct_model_wire.specs.Request.{from_two, from_three, three_bytes}
use Rattle.cct_model_wire.specs.Reply.{Reply, reply_data, reply_in, none_in, one_in, two_in, three_in, status_in, coin_id_in, credits_in, ack, credits, mask, master, path, coin_id, status, life, remaining, register, text, serial, revision, accepts}
use Rattle.cct_model_wire.proofs.Requests.{two_bytes, byte_at}
use Rattle.cct_msg.specs.Forms.{form_shown}

-- three bytes are those of their number
three_are : (low middle high : ℕ) → low < 256 → middle < 256 → high < 256 → low ∷ middle ∷ high ∷ [] ≡ three_bytes (from_three low middle high)
three_are low middle high a b c =
    let first : low ≡ from_three low middle high % 256 = omega arith in
    let second : middle ≡ from_three low middle high / 256 % 256 = omega arith in
    let third : high ≡ from_three low middle high / 65536 % 256 = omega arith in
    cc

-- a reply of a form, whose data bytes these are
abbrev Reads : ReplyForm → List ℕ → Reply → Type 0
Reads wanted body y = (form_shown y ≡ Some wanted) × (All (λ byte. byte < 256) body → body ≡ reply_data y)

same_reply : (P : Reply → Type 0) (x y : Reply) → P x → Some x ≡ Some y → P y
same_reply P x y p e =
    let is : x ≡ y = cc in
    subst P is p

none_read : (P : List ℕ → Reply → Type 0) (x : Reply) (body : List ℕ) (y : Reply) → P [] x → none_in x body ≡ Some y → P body y
none_read P x [] y p e = same_reply (P []) x y p e
none_read P x (a ∷ rest) y p e = absurd cc

one_read : (P : List ℕ → Reply → Type 0) (make : ℕ → Reply) (body : List ℕ) (y : Reply) → ((a : ℕ) → P (a ∷ []) (make a)) → one_in make body ≡ Some y → P body y
one_read P make [] y p e = absurd cc
one_read P make (a ∷ []) y p e = same_reply (P (a ∷ [])) (make a) y (p a) e
one_read P make (a ∷ b ∷ rest) y p e = absurd cc

two_read : (P : List ℕ → Reply → Type 0) (make : ℕ → ℕ → Reply) (body : List ℕ) (y : Reply) → ((a b : ℕ) → P (a ∷ b ∷ []) (make a b)) → two_in make body ≡ Some y → P body y
two_read P make [] y p e = absurd cc
two_read P make (a ∷ []) y p e = absurd cc
two_read P make (a ∷ b ∷ []) y p e = same_reply (P (a ∷ b ∷ [])) (make a b) y (p a b) e
two_read P make (a ∷ b ∷ c ∷ rest) y p e = absurd cc

three_read : (P : List ℕ → Reply → Type 0) (make : ℕ → ℕ → ℕ → Reply) (body : List ℕ) (y : Reply) → ((a b c : ℕ) → P (a ∷ b ∷ c ∷ []) (make a b c)) → three_in make body ≡ Some y → P body y
three_read P make [] y p e = absurd cc
three_read P make (a ∷ []) y p e = absurd cc
three_read P make (a ∷ b ∷ []) y p e = absurd cc
three_read P make (a ∷ b ∷ c ∷ []) y p e = same_reply (P (a ∷ b ∷ c ∷ [])) (make a b c) y (p a b c) e
three_read P make (a ∷ b ∷ c ∷ d ∷ rest) y p e = absurd cc

status_read : (body : List ℕ) (y : Reply) → status_in body ≡ Some y → Reads form.Status body y
unfolding reply_data
status_read [] y e = absurd cc
status_read (a ∷ []) y e = absurd cc
status_read (a ∷ b ∷ []) y e = absurd cc
status_read (a ∷ b ∷ c ∷ []) y e = absurd cc
status_read (a ∷ b ∷ c ∷ d ∷ []) y e = same_reply (Reads form.Status (a ∷ b ∷ c ∷ d ∷ [])) (status a b c d) y (refl, λ bytes. refl) e
status_read (a ∷ b ∷ c ∷ d ∷ f ∷ rest) y e = absurd cc

coin_id_read : (body : List ℕ) (y : Reply) → coin_id_in body ≡ Some y → Reads form.CoinId body y
unfolding reply_data
coin_id_read [] y e = absurd cc
coin_id_read (a ∷ []) y e = absurd cc
coin_id_read (a ∷ b ∷ []) y e = absurd cc
coin_id_read (a ∷ b ∷ c ∷ []) y e = absurd cc
coin_id_read (a ∷ b ∷ c ∷ d ∷ []) y e = absurd cc
coin_id_read (a ∷ b ∷ c ∷ d ∷ f ∷ []) y e = absurd cc
coin_id_read (a ∷ b ∷ c ∷ d ∷ f ∷ g ∷ []) y e =
    let body = a ∷ b ∷ c ∷ d ∷ f ∷ g ∷ [] in
    same_reply (Reads form.CoinId body) (coin_id body) y (refl, λ bytes. refl) e
coin_id_read (a ∷ b ∷ c ∷ d ∷ f ∷ g ∷ h ∷ rest) y e = absurd cc

credits_read : (body : List ℕ) (y : Reply) → credits_in body ≡ Some y → Reads form.Credits body y
unfolding reply_data
credits_read [] y e = absurd cc
credits_read (n ∷ []) y e = absurd cc
credits_read (n ∷ a1 ∷ []) y e = absurd cc
credits_read (n ∷ a1 ∷ b1 ∷ []) y e = absurd cc
credits_read (n ∷ a1 ∷ b1 ∷ a2 ∷ []) y e = absurd cc
credits_read (n ∷ a1 ∷ b1 ∷ a2 ∷ b2 ∷ []) y e = absurd cc
credits_read (n ∷ a1 ∷ b1 ∷ a2 ∷ b2 ∷ a3 ∷ []) y e = absurd cc
credits_read (n ∷ a1 ∷ b1 ∷ a2 ∷ b2 ∷ a3 ∷ b3 ∷ []) y e = absurd cc
credits_read (n ∷ a1 ∷ b1 ∷ a2 ∷ b2 ∷ a3 ∷ b3 ∷ a4 ∷ []) y e = absurd cc
credits_read (n ∷ a1 ∷ b1 ∷ a2 ∷ b2 ∷ a3 ∷ b3 ∷ a4 ∷ b4 ∷ []) y e = absurd cc
credits_read (n ∷ a1 ∷ b1 ∷ a2 ∷ b2 ∷ a3 ∷ b3 ∷ a4 ∷ b4 ∷ a5 ∷ []) y e = absurd cc
credits_read (n ∷ a1 ∷ b1 ∷ a2 ∷ b2 ∷ a3 ∷ b3 ∷ a4 ∷ b4 ∷ a5 ∷ b5 ∷ []) y e =
    let body = n ∷ a1 ∷ b1 ∷ a2 ∷ b2 ∷ a3 ∷ b3 ∷ a4 ∷ b4 ∷ a5 ∷ b5 ∷ [] in
    let pairs = record { a = a1; b = b1 } ∷ record { a = a2; b = b2 } ∷ record { a = a3; b = b3 } ∷ record { a = a4; b = b4 } ∷ record { a = a5; b = b5 } ∷ [] in
    same_reply (Reads form.Credits body) (credits (record { counter = n; pairs = pairs })) y (refl, λ bytes. refl) e
credits_read (n ∷ a1 ∷ b1 ∷ a2 ∷ b2 ∷ a3 ∷ b3 ∷ a4 ∷ b4 ∷ a5 ∷ b5 ∷ a6 ∷ rest) y e = absurd cc

three_data : (a b c : ℕ) → All (λ byte. byte < 256) (a ∷ b ∷ c ∷ []) → a ∷ b ∷ c ∷ [] ≡ three_bytes (from_three a b c)
three_data a b c bytes =
    let body = a ∷ b ∷ c ∷ [] in
    three_are a b c (byte_at body 0 (omega arith) bytes) (byte_at body 1 (omega arith) bytes) (byte_at body 2 (omega arith) bytes)

-- what is read in a form is a reply of that form, whose data bytes these are
reads : (wanted : ReplyForm) (body : List ℕ) (y : Reply) → reply_in wanted body ≡ Some y → Reads wanted body y
unfolding reply_in reply_data
reads form.Ack body y e = none_read (Reads form.Ack) ack body y (refl, λ bytes. refl) e
reads form.Credits body y e = credits_read body y e
reads form.Mask body y e =
    two_read (Reads form.Mask) (λ low high. mask (from_two low high)) body y
    (λ a b. (refl, λ bytes. two_bytes a b (byte_at (a ∷ b ∷ []) 0 (omega arith) bytes) (byte_at (a ∷ b ∷ []) 1 (omega arith) bytes))) e
reads form.Master body y e = one_read (Reads form.Master) master body y (λ a. (refl, λ bytes. refl)) e
reads form.Path body y e = one_read (Reads form.Path) path body y (λ a. (refl, λ bytes. refl)) e
reads form.CoinId body y e = coin_id_read body y e
reads form.Status body y e = status_read body y e
reads form.Life body y e = three_read (Reads form.Life) (λ low middle high. life (from_three low middle high)) body y (λ a b c. (refl, three_data a b c)) e
reads form.Remaining body y e = one_read (Reads form.Remaining) remaining body y (λ a. (refl, λ bytes. refl)) e
reads form.Register body y e = one_read (Reads form.Register) register body y (λ a. (refl, λ bytes. refl)) e
reads form.Text body y e = same_reply (Reads form.Text body) (text body) y (refl, λ bytes. refl) e
reads form.Serial body y e = three_read (Reads form.Serial) (λ low middle high. serial (from_three low middle high)) body y (λ a b c. (refl, three_data a b c)) e
reads form.Revision body y e = three_read (Reads form.Revision) revision body y (λ a b c. (refl, λ bytes. refl)) e
reads form.Accepts body y e = three_read (Reads form.Accepts) (λ low middle high. accepts (from_three low middle high)) body y (λ a b c. (refl, three_data a b c)) e

pub reply_form : (wanted : ReplyForm) (body : List ℕ) (y : Reply) → reply_in wanted body ≡ Some y → form_shown y ≡ Some wanted
reply_form wanted body y e = (reads wanted body y e).0

pub reply_said : (wanted : ReplyForm) (body : List ℕ) (y : Reply) → All (λ byte. byte < 256) body → reply_in wanted body ≡ Some y → body ≡ reply_data y
reply_said wanted body y bytes e = (reads wanted body y e).1 bytes
