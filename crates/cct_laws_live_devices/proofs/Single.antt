-- Nothing comes after a whole reply of devices that do what the model's do.
use Rattle.std.proofs.Common.{◌≡◌, ◌≢◌, ◌⊎◌, inl, inr, ℕ, ◌==◌, ◌||◌, Bool, true, false, cond, List, [], ◌∷◌, ◌++◌, slice_index, refl, sym, ap, ap₂, ◌∙◌, Option, Some, None, option_and_then, Result, append_assoc, eq-eqb, eqb-true, true≢false}
use Rattle.std.specs.Prelude.{flat_map, is_none, unwrap_or}
use Rattle.std.proofs.lemmas.Bool.{and_parts}
use Rattle.cct_edge.specs.declared.fault.Failed.{Failed}
use Rattle.cct_model.specs.terms.wire.CheckKind.{CheckKind}
use Rattle.cct_model.specs.terms.wire.CheckKind.TheVariants.{Simple, Crc}
use Rattle.cct_model.specs.terms.wire.TheConstants.{BROADCAST}
use Rattle.cct_model.specs.terms.device.Setup.{Setup}
use Rattle.cct_model.specs.lines.command.WireFault.TheVariants as fault
use Rattle.cct_model.specs.Exchange.{after_echo, answer as answers_to, by_address}
use Rattle.cct_model.specs.Honest.{has_no_message, is_no_message}
use Rattle.cct_model.specs.Message.{Message, message}
use Rattle.cct_model.specs.Setup.{IsSoundSetup}
use Rattle.cct_wire.specs.Heard.{message_after}
use Rattle.cct_live_port.specs.Answer.{answered, replies}
use Rattle.cct_live_port.specs.Port.{echo_of}
use Rattle.cct_laws.proofs.wire.Echoes.{echo_off}
use Rattle.cct_laws_live_devices.specs.Asked.{Moment, heard_by, met_in}
use Rattle.cct_laws_live_devices.specs.World.{IsNoReply}
use Rattle.cct_laws_live_devices.specs.Prompt.{OneReplies}
use Rattle.cct_laws_live_devices.specs.Devices.{IsDamaged, IsModelled}
use Rattle.cct_laws_live_devices.proofs.Fronts.{Parts, behind_echo, parts, said_fronts, short_echo, within_echo}

-- where there is no reply, none is the whole one
none_of : {A : Type 0} (found : Option A) → is_none found ≡ true → found ≡ None
none_of None test = refl
none_of (Some x) test = absurd cc

no_message : (kind : CheckKind) (rest : List ℕ) → is_no_message rest ≡ true → message kind rest ≡ None
no_message Simple rest test =
    none_of (message Simple rest) (and_parts (is_none (message Simple rest)) (is_none (message Crc rest)) test).0
no_message Crc rest test =
    none_of (message Crc rest) (and_parts (is_none (message Simple rest)) (is_none (message Crc rest)) test).1

behind_none : (kind : CheckKind) (behind : Option (List ℕ)) → has_no_message behind ≡ true →
    option_and_then (message kind) behind ≡ None
behind_none kind None test = refl
behind_none kind (Some rest) test = no_message kind rest test

replies_none : (asked heard : Option Message) → heard ≡ None → replies asked heard ≡ false
replies_none (Some asked) None is = refl
replies_none None None is = refl
replies_none asked (Some m) is = absurd cc

unanswered : (sent heard : List ℕ) → IsNoReply sent heard → answered sent heard ≡ false
unanswered sent heard none =
    ap₂ (λ x y. x || y)
    (replies_none (message Simple sent) (message_after Simple sent heard) (behind_none Simple (after_echo sent heard) none))
    (replies_none (message Crc sent) (message_after Crc sent heard) (behind_none Crc (after_echo sent heard) none))

-- a message for all devices has no reply
passed : (fits : Bool) (x m : Message) → cond fits (Some x) None ≡ Some m → x ≡ m
passed true x m found = cc
passed false x m found = absurd cc

to_placed : (kind : CheckKind) (piece : List ℕ) (m : Message) → message kind piece ≡ Some m → m.to ≡ slice_index piece 0
unfolding message
to_placed Simple [] m found = absurd cc
to_placed Simple (a ∷ []) m found = absurd cc
to_placed Simple (a ∷ b ∷ []) m found = absurd cc
to_placed Simple (a ∷ b ∷ c ∷ []) m found = absurd cc
to_placed Simple (to ∷ said ∷ from ∷ header ∷ rest) m found = ap (λ n. n.to) (sym (passed _ _ m found))
to_placed Crc [] m found = absurd cc
to_placed Crc (a ∷ []) m found = absurd cc
to_placed Crc (a ∷ b ∷ []) m found = absurd cc
to_placed Crc (a ∷ b ∷ c ∷ []) m found = absurd cc
to_placed Crc (to ∷ said ∷ low ∷ header ∷ rest) m found = ap (λ n. n.to) (sym (passed _ _ m found))

for_all : (asked : Message) (heard : Option Message) → asked.to ≡ BROADCAST → replies (Some asked) heard ≡ false
for_all asked None is = refl
for_all asked (Some m) is = rw (eq-eqb asked.to BROADCAST is) refl

for_all_found : (kind : CheckKind) (sent : List ℕ) (asked heard : Option Message) → message kind sent ≡ asked →
    slice_index sent 0 ≡ 0 → replies asked heard ≡ false
for_all_found kind sent None None found is = refl
for_all_found kind sent None (Some m) found is = refl
for_all_found kind sent (Some asked) heard found is = for_all asked heard (to_placed kind sent asked found ∙ is)

all_unanswered : (sent heard : List ℕ) → slice_index sent 0 ≡ 0 → answered sent heard ≡ false
all_unanswered sent heard is =
    ap₂ (λ x y. x || y)
    (for_all_found Simple sent (message Simple sent) (message_after Simple sent heard) refl is)
    (for_all_found Crc sent (message Crc sent) (message_after Crc sent heard) refl is)

-- of what devices answer no front but the whole is a whole reply
front_unanswered : (setup : Setup) (history : List Moment) (sent heard rest : List ℕ) → IsSoundSetup setup → rest ≢ [] →
    Parts sent (flat_map (λ d. unwrap_or (answers_to d (met_in d history) sent) []) (by_address setup.devices)) heard rest →
    answered sent heard ≡ false
front_unanswered setup history sent heard rest sound more (within_echo left some is) =
    unanswered sent heard (ap has_no_message (short_echo heard left sent some is))
front_unanswered setup history sent heard rest sound more (behind_echo front is joined) = by_test (slice_index sent 0 == 0) refl
  where
    clash : false ≡ true → ⊥
    clash e = cc

    by_test : (all : Bool) → (slice_index sent 0 == 0) ≡ all → answered sent heard ≡ false
    by_test true test = all_unanswered sent heard (eqb-true (slice_index sent 0) 0 test)
    by_test false test =
        let one : slice_index sent 0 ≢ 0 = (λ same. clash (sym test ∙ eq-eqb (slice_index sent 0) 0 same)) in
        unanswered sent heard
        (ap has_no_message (ap (after_echo sent) is ∙ echo_off sent front)
        ∙ said_fronts setup (λ d. met_in d history) sent sound one front rest joined more)

clear_is : (setup : Setup) (history : List Moment) (sent : List ℕ) →
    heard_by setup (λ d. met_in d history) fault.Clear sent
    ≡ sent ++ flat_map (λ d. unwrap_or (answers_to d (met_in d history) sent) []) (by_address setup.devices)
unfolding heard_by
clear_is setup history sent = refl

module _ {L : Type 0} (reads : L → Option (List ℕ) → L → Type 0) (writes : L → List ℕ → Result (Unit {0}) Failed → L → Type 0)
    (setup : Setup) (echoes : Bool) (answer : L → List ℕ → List ℕ) (history : L → List Moment)
    (modelled : IsModelled reads writes setup echoes answer history) (sound : IsSoundSetup setup) where
  pub one_replies : OneReplies reads writes echoes answer
  one_replies old new sent front [] wrote is whole = refl
  one_replies old new sent front (byte ∷ rest) wrote is whole =
      let echo = echo_of echoes sent in
      let reached = modelled.written old new sent wrote in
      let came : echo ++ answer old sent ≡ (echo ++ front) ++ (byte ∷ rest) =
      ap (λ bytes. echo ++ bytes) is ∙ sym (append_assoc echo front (byte ∷ rest)) in
      absurd (true≢false (sym whole ∙ by_coming reached.at came reached.comes))
    where
      by_coming : {came bytes : List ℕ} (at : List Moment) → came ≡ (echo_of echoes sent ++ front) ++ (byte ∷ rest) →
          ((bytes ≡ sent) × (heard_by setup (λ d. met_in d at) fault.Clear sent ≡ came)) ⊎ IsDamaged sent came →
          answered sent (echo_of echoes sent ++ front) ≡ false
      by_coming at came (inl right) =
          front_unanswered setup at sent (echo_of echoes sent ++ front) (byte ∷ rest) sound (λ none. some none)
          (parts sent (flat_map (λ d. unwrap_or (answers_to d (met_in d at) sent) []) (by_address setup.devices))
          (echo_of echoes sent ++ front) (byte ∷ rest)
          (sym came ∙ sym right.1 ∙ clear_is setup at sent))
        where
          some : (byte ∷ rest) ≡ [] → ⊥
          some e = cc
      by_coming at came (inr damaged) =
          unanswered sent (echo_of echoes sent ++ front) (damaged (echo_of echoes sent ++ front) (byte ∷ rest) came).none
