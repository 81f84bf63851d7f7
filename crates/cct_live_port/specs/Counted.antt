-- What a port reports of its last exchange.
use Rattle.std.proofs.Common.{◌∙◌, inl, inr, sym, ap, ap₂}
use Rattle.std.proofs.lemmas.Bool.{false≢true}
use Rattle.std.specs.Prelude.{◌≡◌, refl, ℕ, ◌||◌, Bool, false, List, [], ◌∷◌, Option, Some, None, Result}
use Rattle.cct_edge.specs.declared.fault.Failed.{Failed}
use Rattle.cct_model_wire.specs.declared.wire.CheckKind.{CheckKind}
use Rattle.cct_model_wire.specs.declared.wire.CheckKind.TheVariants.{Simple, Crc}
use Rattle.cct_model_wire.specs.Message.{Message, message}
use Rattle.cct_model_wire.specs.Exchange.{after_echo}
use Rattle.cct_live_port.specs.declared.port.Port.{Port}
use Rattle.cct_live_port.specs.Answer.{answered_by, answered_under, replies}
use Rattle.cct_live_port.specs.Port.{Gives, settled, was_sent}

-- No message is a reply to any.
none_replies : (asked : Option Message) → replies asked None ≡ false
none_replies (Some asked) = refl
none_replies None = refl

-- Silence is no reply under a check.
silence_under : (kind : CheckKind) (sent : List ℕ) → answered_under kind sent [] ≡ false
unfolding message after_echo
silence_under Simple [] = refl
silence_under Crc [] = refl
silence_under kind (byte ∷ bytes) = none_replies (message kind (byte ∷ bytes))

-- Silence is no reply.
silence_is_none : (known : Option CheckKind) (sent : List ℕ) → answered_by known sent [] ≡ false
silence_is_none (Some kind) sent = silence_under kind sent
silence_is_none None sent =
    ap₂ (λ x y. x || y) (silence_under Simple sent) (silence_under Crc sent)

-- What isn't settled, as nothing is heard, was not answered.
pub unsettled_by_silence : (known : Option CheckKind) (sent heard : List ℕ) (is_settled : Bool)
    → heard ≡ [] → is_settled ≡ false → is_settled ≡ answered_by known sent heard
unsettled_by_silence known sent heard is_settled nothing unsettled =
    unsettled ∙ sym (ap (answered_by known sent) nothing ∙ silence_is_none known sent)

module _ {L : Type 0} (reads : L → Option (List ℕ) → L → Type 0)
    (writes : L → List ℕ → Result (Unit {0}) Failed → L → Type 0) where
  -- Of a message that wasn't written nothing is heard.
  pub nothing_unsent : (old : Port L) (sent heard : List ℕ) (new : Port L) →
      Gives reads writes old sent heard new
      → was_sent new ≡ false → heard ≡ []
  nothing_unsent old sent heard new given unsent = elim given.goes [
    | inl h ↦ absurd (false≢true (sym unsent ∙ h.sent_whole))
    | inr g ↦ g.nothing
  ]

  -- A port is settled exactly by the whole reply.
  pub settled_by_reply : (old : Port L) (sent heard : List ℕ) (new : Port L) →
      Gives reads writes old sent heard new
      → (known : Option CheckKind) × (settled new ≡ answered_by known sent heard)
  settled_by_reply old sent heard new given = elim given.goes [
    | inl h ↦ (h.known, h.settles)
    | inr g ↦ (None, unsettled_by_silence None sent heard (settled new) g.nothing g.unsettled)
  ]
