-- The test of an honest fault holds exactly where its damage is honest.
use Rattle.std.proofs.Common.{◌≡◌, ℕ, ◌&&◌, ◌||◌, Bool, true, false, List, ◌++◌, refl, sym, ap, ap₂, ◌∙◌, inl, inr, Option, None, Some, true≢false}
use Rattle.std.specs.Prelude.{bytes_eq, is_none}
use Rattle.std.proofs.Math.Bool.{or-true}
use Rattle.std.proofs.lemmas.Bool.{and_parts, or_cases}
use Rattle.std.proofs.lemmas.Slice.Eq.{bytes_eq-Decides}
use Rattle.cct_model.specs.terms.wire.CheckKind.TheVariants.{Simple, Crc}
use Rattle.cct_model.specs.terms.request.Request.TheVariants.{AddressPoll}
use Rattle.cct_model.specs.lines.command.WireFault.{WireFault}
use Rattle.cct_model.specs.lines.command.WireFault.TheVariants as fault
use Rattle.cct_model.specs.Message.{message}
use Rattle.cct_model.specs.Exchange.{after_echo, ask}
use Rattle.cct_model.specs.Honest.{is_no_message, is_address_poll, has_no_message, IsHonestFault}
use Rattle.cct_laws.specs.Honesty.{IsNoMessage, IsAddressPoll, DamagesHonestly}
use Rattle.cct_laws.proofs.wire.Echoes.{echo_off, echo_known}

-- no message
none_known : {A : Type 0} (found : Option A) → is_none found ≡ true → found ≡ None
none_known None test = refl
none_known (Some x) test = absurd cc

no_message_known : (piece : List ℕ) → is_no_message piece ≡ true → IsNoMessage piece
no_message_known piece test =
    let both = and_parts (is_none (message Simple piece)) (is_none (message Crc piece)) test in
    (none_known (message Simple piece) both.0, none_known (message Crc piece) both.1)

no_message_tested : (piece : List ℕ) → IsNoMessage piece → is_no_message piece ≡ true
no_message_tested piece none = ap₂ (λ x y. is_none x && is_none y) none.0 none.1

-- an address poll
poll_known : (sent : List ℕ) → is_address_poll sent ≡ true → IsAddressPoll sent
poll_known sent test =
    elim (or_cases (bytes_eq sent (ask Simple 0 AddressPoll)) (bytes_eq sent (ask Crc 0 AddressPoll)) test) [
      | inl same ↦ (Simple, (bytes_eq-Decides sent (ask Simple 0 AddressPoll)).0 same)
      | inr same ↦ (Crc, (bytes_eq-Decides sent (ask Crc 0 AddressPoll)).0 same)
    ]

poll_tested : (sent : List ℕ) → IsAddressPoll sent → is_address_poll sent ≡ true
poll_tested sent (Simple, is) =
    ap (λ b. b || bytes_eq sent (ask Crc 0 AddressPoll)) ((bytes_eq-Decides sent (ask Simple 0 AddressPoll)).1 is)
poll_tested sent (Crc, is) =
    ap (λ b. bytes_eq sent (ask Simple 0 AddressPoll) || b) ((bytes_eq-Decides sent (ask Crc 0 AddressPoll)).1 is)
    ∙ or-true (bytes_eq sent (ask Simple 0 AddressPoll))

-- a fact that is asked where no address poll is sent
unless_poll : (sent : List ℕ) (b : Bool) → (is_address_poll sent || b) ≡ true → (IsAddressPoll sent → ⊥) → b ≡ true
unless_poll sent b test none =
    elim (or_cases (is_address_poll sent) b test) [
      | inl polls ↦ absurd (none (poll_known sent polls))
      | inr holds ↦ holds
    ]

poll_or : (sent : List ℕ) (b : Bool) → ((IsAddressPoll sent → ⊥) → b ≡ true) → (is_address_poll sent || b) ≡ true
poll_or sent b holds = by_test (is_address_poll sent) refl
  where
    by_test : (polls : Bool) → is_address_poll sent ≡ polls → (polls || b) ≡ true
    by_test true test = refl
    by_test false test = holds (λ poll. true≢false (sym (poll_tested sent poll) ∙ test))

-- what follows the echo
behind_known : (sent piece : List ℕ) → has_no_message (after_echo sent piece) ≡ true → (rest : List ℕ) →
    piece ≡ sent ++ rest → IsNoMessage rest
behind_known sent piece test rest is =
    no_message_known rest
    (sym (ap has_no_message (ap (after_echo sent) is ∙ echo_off sent rest)) ∙ test)

behind_tested : (sent piece : List ℕ) → ((rest : List ℕ) → piece ≡ sent ++ rest → IsNoMessage rest) →
    has_no_message (after_echo sent piece) ≡ true
behind_tested sent piece none = by_echo (after_echo sent piece) refl
  where
    by_echo : (behind : Option (List ℕ)) → after_echo sent piece ≡ behind → has_no_message behind ≡ true
    by_echo None is = refl
    by_echo (Some rest) is = no_message_tested rest (none rest (echo_known sent piece rest is))

-- a fault whose test holds does honest damage
pub honest_means : (f : WireFault) (sent : List ℕ) → IsHonestFault f sent → DamagesHonestly f sent
honest_means fault.Clear sent test = tt
honest_means (fault.DevicesHear piece) sent test = no_message_known piece test
honest_means (fault.HostHears piece) sent test =
    λ none. no_message_known piece (unless_poll sent (is_no_message piece) test none)
honest_means (fault.WholeHeard piece) sent test = λ none.
    let both = and_parts (is_no_message piece) (has_no_message (after_echo sent piece)) (unless_poll sent _ test none) in
    (no_message_known piece both.0, behind_known sent piece both.1)

-- and the test of one that does honest damage holds
pub means_honest : (f : WireFault) (sent : List ℕ) → DamagesHonestly f sent → IsHonestFault f sent
means_honest fault.Clear sent damage = refl
means_honest (fault.DevicesHear piece) sent damage = no_message_tested piece damage
means_honest (fault.HostHears piece) sent damage =
    poll_or sent (is_no_message piece) (λ none. no_message_tested piece (damage none))
means_honest (fault.WholeHeard piece) sent damage =
    poll_or sent (is_no_message piece && has_no_message (after_echo sent piece))
    (λ none. ap₂ (λ x y. x && y) (no_message_tested piece (damage none).0) (behind_tested sent piece (damage none).1))
