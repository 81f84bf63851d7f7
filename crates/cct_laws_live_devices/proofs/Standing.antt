-- An honest line represents every setup.
use Rattle.std.proofs.Common.{◌≡◌, inl, ℕ, suc, ◌<◌, true, List, [], ◌∷◌, ◌++◌, length, refl, sym, ap, ◌∙◌, subst, Option, Some, None, Ok, Err, arith, append-nil}
use Rattle.std.specs.Prelude.{◌≢◌}
use Rattle.cct_edge.specs.declared.fault.Failed.{Failed}
use Rattle.cct_model.specs.terms.device.Setup.{Setup}
use Rattle.cct_live_port.specs.Port.{echo_of}
use Rattle.cct_laws_live_devices.specs.Asked.{Moment, asks}
use Rattle.cct_laws_live_devices.specs.Prompt.{IsPrompt}
use Rattle.cct_laws_live_devices.specs.AtOnce.{AtOnce, answer_on, coming_on, history_on, reads_on, silent_on, still, under_way, with_bytes, writes_on}
use Rattle.cct_laws_live_devices.specs.Devices.{Befell, IsModelled, MayReach, Reaches, nothing_befell}
use Rattle.cct_laws_live_devices.specs.Lives.{IsHonestLine}

module _ (setup : Setup) where
  brings : (old new : AtOnce) (piece : List ℕ) → reads_on setup old (Some piece) new → 0 < length piece →
      coming_on old ≡ piece ++ coming_on new
  brings (still silent history) new [] read some = absurd (none some)
    where
      none : 0 < 0 → ⊥
      none few = omega (arith, few)
  brings (still silent history) new (x ∷ piece) read some = absurd read
  brings (under_way byte bytes history) new piece read some =
      sym read.0 ∙ sym (append-nil piece) ∙ ap (λ line. piece ++ coming_on line) (sym read.1)

  clash : (byte : ℕ) (bytes : List ℕ) → [] ≡ byte ∷ bytes → ⊥
  clash byte bytes is = cc is

  counts : (old new : AtOnce) → reads_on setup old (Some []) new →
      (coming_on new ≡ coming_on old) × (silent_on new ≡ suc (silent_on old))
  counts (still silent history) new read = (ap coming_on read.2, ap silent_on read.2)
  counts (under_way byte bytes history) new read = absurd (clash byte bytes read.0)

  fast : (line : AtOnce) → coming_on line ≢ [] → silent_on line < 1
  fast (still silent history) some = absurd (some refl)
  fast (under_way byte bytes history) some = omega arith

  comes : (bytes : List ℕ) (history : List Moment) → coming_on (with_bytes bytes history) ≡ bytes
  comes [] history = refl
  comes (byte ∷ bytes) history = refl

  heard : (bytes : List ℕ) (history : List Moment) → history_on (with_bytes bytes history) ≡ history
  heard [] history = refl
  heard (byte ∷ bytes) history = refl

  brought : (old new : AtOnce) (sent : List ℕ) → writes_on setup old sent (Ok tt) new → coming_on old ≡ [] →
      coming_on new ≡ answer_on setup old sent
  brought (still silent history) new sent wrote none =
      ap coming_on wrote ∙ comes (answer_on setup (still silent history) sent) (asks sent ∷ history)
  brought (under_way byte bytes history) new sent wrote none = absurd wrote

  prompt : IsPrompt (reads_on setup) (writes_on setup) 1 coming_on silent_on (answer_on setup)
  prompt = record { brings = brings; counts = counts; fast = fast; brought = brought }

  while_read : (old new : AtOnce) (piece : Option (List ℕ)) → reads_on setup old piece new →
      Befell setup (history_on old) (history_on new)
  while_read (still silent history) new None read = absurd read
  while_read (still silent history) new (Some []) read =
      subst (λ line. Befell setup history (history_on line)) (sym read.2) read.1
  while_read (still silent history) new (Some (x ∷ piece)) read = absurd read
  while_read (under_way byte bytes history) new None read = absurd read
  while_read (under_way byte bytes history) new (Some piece) read =
      subst (λ line. Befell setup history (history_on line)) (sym read.1) nothing_befell

  written : (old new : AtOnce) (sent : List ℕ) → writes_on setup old sent (Ok tt) new →
      Reaches setup (history_on old) sent (echo_of true sent ++ answer_on setup old sent) (history_on new)
  written (still silent history) new sent wrote = record {
    at = history;
    piece = sent;
    earlier = nothing_befell;
    later =
        subst (Befell setup (asks sent ∷ history))
        (sym (ap history_on wrote ∙ heard (answer_on setup (still silent history) sent) (asks sent ∷ history))) nothing_befell;
    honest = inl refl;
    comes = inl (refl, refl);
  }
  written (under_way byte bytes history) new sent wrote = absurd wrote

  unwritten : (old new : AtOnce) (sent : List ℕ) (why : Failed) → writes_on setup old sent (Err why) new →
      MayReach setup (history_on old) sent (history_on new)
  unwritten (still silent history) new sent why wrote = absurd wrote
  unwritten (under_way byte bytes history) new sent why wrote = absurd wrote

  modelled : IsModelled (reads_on setup) (writes_on setup) setup true (answer_on setup) history_on
  modelled = record { while_read = while_read; written = written; unwritten = unwritten }

  pub stands : IsHonestLine (reads_on setup) (writes_on setup) true 1 coming_on silent_on setup history_on
  stands = record { answer = answer_on setup; prompt = prompt; modelled = modelled }
