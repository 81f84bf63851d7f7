-- A host that asks an acceptor for its credits and then for its mask, without a fault, makes the span of that round plain.
use Rattle.std.proofs.Common.{◌≡◌, ◌≢◌, ℕ, suc, ◌+◌, ◌≤◌, ◌==◌, ◌||◌, not, Bool, true, false, List, [], ◌∷◌, ◌++◌, map, length, refl, ap, ap₂, sym, ◌∙◌, subst, subst₂, arith, Option, Some, None, Contains, zero-lt-suc, ne_eqb}
use Rattle.std.specs.Prelude.{⊤}
use Rattle.std.specs.List.{list_any}
use Rattle.std.proofs.lemmas.List.{length-map}
use Rattle.cct_model.specs.terms.coin.Credits.{Credits}
use Rattle.cct_model.specs.terms.device.DeviceSetup.{DeviceSetup}
use Rattle.cct_model.specs.terms.device.Setup.{Setup}
use Rattle.cct_model.specs.terms.request.Request.TheVariants.{ReadCredits}
use Rattle.cct_model.specs.lines.command.WireFault.TheVariants as fault
use Rattle.cct_model.specs.lines.entry.Entry.{Entry}
use Rattle.cct_model.specs.Acceptor.{credits_of, mask_of}
use Rattle.cct_model.specs.Device.{IsAcceptor}
use Rattle.cct_model.specs.Exchange.{ask, asks_of}
use Rattle.cct_model.specs.History.{heard}
use Rattle.cct_model.specs.Setup.{IsSoundSetup}
use Rattle.cct_model.specs.Transcript.{heard_by_devices, lines_of, met, pending}
use Rattle.cct_laws.specs.Law.{IsOf}
use Rattle.cct_laws.proofs.wire.Exchanges.{asks_back}
use Rattle.cct_audit_taps.specs.declared.shown.Shown.{Shown}
use Rattle.cct_audit_taps.specs.declared.shown.Shown.TheVariants.{Masked, Nothing, Read, Set}
use Rattle.cct_monitor.specs.Spans.{Reading, Span, after_it, goes_on, is_set, last_reading, spans, spans_by}
use Rattle.cct_audit_taps.specs.Taps.{shown}
use Rattle.cct_laws_any_host.specs.Wild.{before_tap, taps}
use Rattle.cct_laws_any_host.specs.Claims.{IsPlain, after_round, asked_then, came_before, looks, pieces, span_of_round}
use Rattle.cct_laws_any_host.proofs.Run.{at_earlier, at_last}
use Rattle.cct_laws_any_host.proofs.Undisturbed.{credits_shown, mask_shown}

-- the last reading is one of the taps that came
abbrev IsEarly : ℕ → Option Reading → Type 0
IsEarly n None = ⊤
IsEarly n (Some r) = r.number ≤ n

early_more : (n : ℕ) (s : Shown) (found : Option Reading) → IsEarly n found → IsEarly (suc n) (after_it s found)
early_more n s None is = tt
early_more n s (Some r) is = let under : r.number ≤ n = is in omega arith

early : (shows : List Shown) → IsEarly (length shows) (last_reading shows)
early [] = tt
early (Read c ∷ past) = omega arith
early (Masked mask ∷ past) = early_more (length past) (Masked mask) (last_reading past) (early past)
early (Set ∷ past) = early_more (length past) Set (last_reading past) (early past)
early (Nothing ∷ past) = early_more (length past) Nothing (last_reading past) (early past)

-- the span of a reading and a mask after it
abbrev new_span : Reading → ℕ → Credits → ℕ → Span
new_span r number c mask =
    record { first = r; last = record { number = number; credits = c; after = Masked mask ∷ [] } }

has_new : (shows : List Shown) (r : Reading) (c : Credits) (mask : ℕ) → last_reading shows ≡ Some r →
    Contains (spans (Masked mask ∷ Read c ∷ shows)) (new_span r (suc (length shows)) c mask)
has_new shows r c mask is =
    subst (λ found. Contains (map (goes_on (Masked mask)) (spans_by (Read c) found (suc (length shows))
    ++ map (goes_on (Read c)) (spans shows))) (new_span r (suc (length shows)) c mask)) (sym is)
    (0, zero-lt-suc _, refl)

module _ (setup : Setup) (d : DeviceSetup) (past : List Entry) (r : Reading) (sound : IsSoundSetup setup)
    (own : IsOf setup d) (accepting : IsAcceptor d.body) (clear : pending past ≡ fault.Clear)
    (found : last_reading (looks d past) ≡ Some r) where
  -- a request for the credits leaves the mask
  mask_stays : mask_of (met d (asked_then setup d ReadCredits past)) ≡ mask_of (met d past)
  mask_stays =
      ap (λ f. mask_of (heard (asks_of d (heard_by_devices f (ask d.kind d.addr ReadCredits))) ∷ met d past)) clear
      ∙ ap (λ q. mask_of (heard q ∷ met d past)) (asks_back d ReadCredits (λ number count is. absurd cc) refl)

  looks_are : looks d (after_round setup d past)
      ≡ Masked (mask_of (met d past)) ∷ Read (credits_of (met d past)) ∷ looks d past
  looks_are =
      let first = asked_then setup d ReadCredits past in
      ap₂ (λ s t. s ∷ t ∷ looks d past)
      (mask_shown setup d first sound own accepting refl ∙ ap Masked mask_stays)
      (credits_shown setup d past sound own accepting clear)

  is_there : Contains (spans (looks d (after_round setup d past))) (span_of_round d past r)
  is_there =
      subst₂ (λ shows n. Contains (spans shows) (new_span r (suc n) (credits_of (met d past)) (mask_of (met d past))))
      (sym looks_are) (length-map (taps past) (shown d.kind d.addr))
      (has_new (looks d past) r (credits_of (met d past)) (mask_of (met d past)) found)

  before_first : came_before d (after_round setup d past) r.number ≡ came_before d past r.number
  before_first =
      let first = asked_then setup d ReadCredits past in
      let most : r.number ≤ length (looks d past) = subst (IsEarly (length (looks d past))) found (early (looks d past)) in
      let same : length (looks d past) ≡ length (taps past) = length-map (taps past) (shown d.kind d.addr) in
      ap (λ before. pieces (lines_of d before))
      (at_earlier r.number first (before_tap r.number first) (omega (arith, most, same))
      ∙ at_earlier r.number past (before_tap r.number past) (omega (arith, most, same)))

  before_last : came_before d (after_round setup d past) (suc (length (taps past))) ≡ pieces (lines_of d past)
  before_last =
      let first = asked_then setup d ReadCredits past in
      let n = suc (length (taps past)) in
      ap (λ before. pieces (lines_of d before))
      (at_earlier n first (before_tap n first) (omega arith) ∙ at_last n past (before_tap n past) refl)

  pub round_is_plain : list_any is_set r.after ≡ false → pieces (lines_of d past) ≤ came_before d past r.number + 5 →
      mask_of (met d past) ≢ 0 →
      Contains (spans (looks d (after_round setup d past))) (span_of_round d past r)
      × IsPlain d (after_round setup d past) (span_of_round d past r)
  round_is_plain unset few masked = (
    is_there,
    record {
      unset = unset;
      few = subst₂ (λ last first. last ≤ first + 5) (sym before_last) (sym before_first) few;
      masked = by_test (mask_of (met d past) == 0) (ne_eqb (mask_of (met d past)) 0 masked);
    },
  )
    where
      by_test : (b : Bool) → b ≡ false → (not b || false) ≡ true
      by_test false is = refl
      by_test true is = absurd cc
