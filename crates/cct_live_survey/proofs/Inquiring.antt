-- A question more is asked of a device, or of all; and questions after questions.
use Rattle.std.proofs.Common.{◌≡◌, ◌≤◌, true, ℕ, List, Option, is_some}
use Rattle.cct_model_wire.specs.declared.wire.CheckKind.{CheckKind}
use Rattle.cct_model_wire.specs.declared.request.Request.{Request}
use Rattle.cct_model_wire.specs.declared.request.ReplyForm.{ReplyForm}
use Rattle.cct_model_wire.specs.Reply.{Reply}
use Rattle.cct_live_survey.specs.Asking.{Asks, Inquires, asks_one, is_identity}

module _ {L : Type 0} {gives : L → List ℕ → List ℕ → L → Type 0} where
  pub one_more : {A : Type 0} (most : ℕ) (kind : CheckKind) (addr : ℕ) (q : Request) (form : ReplyForm) (made_of : Option Reply → A)
      {first line next : L} {told : A} → Inquires gives first line → is_identity q ≡ true → most ≤ 3
      → Asks gives most kind addr q form made_of line told next → Inquires gives first next
  one_more most kind addr q form made_of before is few asks = asks_one most kind addr q form asks.found _ _ before is few asks.asked
