-- A life count and an accept counter that are heard have three bytes.
use Rattle.std.proofs.Common.{◌≡◌, ℕ, ◌<◌, ◌^◌, ◌==◌, ◌&&◌, List, [], ◌∷◌, slice_index, refl, sym, ap, subst, ◌∙◌, Some, arith}
use Rattle.cct_model.specs.terms.request.Request.{Request}
use Rattle.cct_model.specs.terms.request.ReplyForm.{ReplyForm}
use Rattle.cct_model.specs.terms.request.ReplyForm.TheVariants as form
use Rattle.cct_model.specs.terms.wire.CheckKind.{CheckKind}
use Rattle.cct_model.specs.Message.{message}
use Rattle.cct_model.specs.Request.{form_of, from_three}
use Rattle.cct_model.specs.Reply.{Reply, accepts, life, reply_in, three_in}
use Rattle.cct_model.specs.Exchange.{after_echo, got, is_for_host, reply_from}
use Rattle.cct_model_wire.proofs.OfBytes.{Bytes, IfThere, IsOfBytes, are_bytes, message_bytes, rest_bytes, there_then, there_when}
use Rattle.cct_msg.specs.Forms.{form_shown}
use Rattle.cct_jobs.specs.Jobs.{FitsAccepts, FitsLife, replied, reply_wanted}
use Rattle.cct_jobs.proofs.Heard.{form_heard}

-- a number that a reply is has three bytes
abbrev Fits : (ℕ → Reply) → Reply → Type 0
Fits make y = (count : ℕ) → y ≡ make count → count < 2 ^ 24

three_fit : (make : ℕ → Reply) → ((n m : ℕ) → make n ≡ make m → n ≡ m) → (body : List ℕ) → Bytes body
    → IfThere (Fits make) (three_in (λ low middle high. make (from_three low middle high)) body)
three_fit make same [] h = tt
three_fit make same (a ∷ []) h = tt
three_fit make same (a ∷ b ∷ []) h = tt
three_fit make same (a ∷ b ∷ c ∷ []) h = λ count e.
    let fits : from_three a b c < 2 ^ 24 = omega (arith, h.0, h.1.0, h.1.1.0) in
    subst (λ n. n < 2 ^ 24) (same (from_three a b c) count e) fits
three_fit make same (a ∷ b ∷ c ∷ e ∷ body) h = tt

count_got : (wanted : ReplyForm) (make : ℕ → Reply)
    → ((body : List ℕ) → Bytes body → IfThere (Fits make) (reply_in wanted body)) → (kind : CheckKind) (addr : ℕ)
    (sent heard : List ℕ) → Bytes heard → IfThere (Fits make) (got kind addr wanted sent heard)
unfolding got
count_got wanted make fit kind addr sent heard h =
    there_then Bytes (Fits make) _ (after_echo sent heard) (rest_bytes sent heard h)
    (λ piece b. there_then IsOfBytes (Fits make) (reply_from wanted addr) (message kind piece)
    (message_bytes kind piece b)
    (λ m of_bytes. there_when (Fits make) (is_for_host addr m && (m.header == 0)) (reply_in wanted m.body)
    (fit m.body of_bytes.body)))

count_heard : (wanted : ReplyForm) (make : ℕ → Reply) → ((n : ℕ) → form_shown (make n) ≡ Some wanted)
    → ((body : List ℕ) → Bytes body → IfThere (Fits make) (reply_in wanted body)) → (kind : CheckKind) (addr : ℕ)
    (q : Request) (sent heard : List ℕ) (y : Reply) → ((i : ℕ) → slice_index heard i < 256)
    → replied kind addr q sent heard ≡ Some y → Fits make y
count_heard wanted make shown fit kind addr q sent heard y bytes e count is =
    let form_is : form_of q ≡ Some wanted =
    sym (form_heard kind addr q sent heard y e) ∙ ap form_shown is ∙ shown count in
    let at : got kind addr wanted sent heard ≡ Some y =
    sym (ap (λ f. reply_wanted kind addr f sent heard) form_is) ∙ e in
    subst (IfThere (Fits make)) at (count_got wanted make fit kind addr sent heard (are_bytes heard bytes)) count is

same_life : (n m : ℕ) → life n ≡ life m → n ≡ m
same_life n m e = cc

same_accepts : (n m : ℕ) → accepts n ≡ accepts m → n ≡ m
same_accepts n m e = cc

life_fit : (body : List ℕ) → Bytes body → IfThere (Fits life) (reply_in form.Life body)
unfolding reply_in
life_fit body h = three_fit life same_life body h

accepts_fit : (body : List ℕ) → Bytes body → IfThere (Fits accepts) (reply_in form.Accepts body)
unfolding reply_in
accepts_fit body h = three_fit accepts same_accepts body h

-- the life count that a reply to a request is
pub life_heard : (kind : CheckKind) (addr : ℕ) (q : Request) (sent heard : List ℕ) (y : Reply)
    → ((i : ℕ) → slice_index heard i < 256) → replied kind addr q sent heard ≡ Some y → FitsLife y
life_heard = count_heard form.Life life (λ n. refl) life_fit

-- the accept counter that a reply to a request is
pub accepts_heard : (kind : CheckKind) (addr : ℕ) (q : Request) (sent heard : List ℕ) (y : Reply)
    → ((i : ℕ) → slice_index heard i < 256) → replied kind addr q sent heard ≡ Some y → FitsAccepts y
accepts_heard = count_heard form.Accepts accepts (λ n. refl) accepts_fit
