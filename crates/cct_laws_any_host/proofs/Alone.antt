-- No other device answers what is sent to one, where the wire does honest damage alone.
use Rattle.std.proofs.Common.{◌≡◌, ℕ, ◌==◌, ◌&&◌, not, cond, true, false, Bool, List, [], ◌∷◌, ◌++◌, slice_index, refl, ap, sym, ◌∙◌, Option, Some, None, option_and_then, unwrap_or, eq-eqb, eqb-true}
use Rattle.std.specs.Option.{option_or, option_map}
use Rattle.std.proofs.Math.Bool.{and-false}
use Rattle.cct_model.specs.terms.wire.CheckKind.{CheckKind}
use Rattle.cct_model.specs.terms.wire.CheckKind.TheVariants.{Simple, Crc}
use Rattle.cct_model.specs.terms.wire.TheConstants.{HOST}
use Rattle.cct_model.specs.terms.device.DeviceSetup.{DeviceSetup}
use Rattle.cct_model.specs.terms.device.Setup.{Setup}
use Rattle.cct_model.specs.terms.request.Request.{Request}
use Rattle.cct_model.specs.terms.request.Request.TheVariants.{AddressPoll}
use Rattle.cct_model.specs.lines.command.WireFault.{WireFault}
use Rattle.cct_model.specs.lines.command.WireFault.TheVariants as fault
use Rattle.cct_model.specs.lines.entry.Entry.{Entry}
use Rattle.cct_model.specs.Message.{Message, message, spelling}
use Rattle.cct_model.specs.Reply.{Reply}
use Rattle.cct_model.specs.History.{Met}
use Rattle.cct_model.specs.Device.{reply_of}
use Rattle.cct_model.specs.Setup.{IsSoundSetup}
use Rattle.cct_model.specs.Exchange.{after_echo, answer_to, asker, asks_of, bare_answer, is_from, reply_bytes, replying}
use Rattle.cct_model.specs.Honest.{IsHonestFault}
use Rattle.cct_model.specs.Transcript.{answers, heard_after, met, pending}
use Rattle.cct_laws.specs.Honesty.{DamagesHonestly, IsAddressPoll}
use Rattle.cct_laws.specs.Law.{IsOf}
use Rattle.cct_laws.proofs.wire.Echoes.{echo_known, echo_off}
use Rattle.cct_laws.proofs.wire.Exchanges.{heard_is, heard_under}
use Rattle.cct_laws.proofs.wire.HeardBytes.{none_under, message_placed}
use Rattle.cct_laws.proofs.wire.HonestFaults.{honest_means}
use Rattle.cct_audit_taps.specs.Taps.{is_message, is_of_other, is_to, other_answers, tap_of}
use Rattle.cct_laws.proofs.wire.Exchanges.{damaged_answers, empty_message}
use Rattle.cct_laws_any_host.proofs.Wire.{alone_answers, no_poll_to, none_some}

-- whom a message names

passed_from : (fits : Bool) (x m : Message) → cond fits (Some x) None ≡ Some m → m.from ≡ x.from
passed_from true x m found = let same : x ≡ m = cc in ap (λ (n : Message). n.from) (sym same)
passed_from false x m found = absurd cc

no_source : (piece : List ℕ) (m : Message) → message Crc piece ≡ Some m → m.from ≡ None
unfolding message
no_source [] m found = absurd cc
no_source (a ∷ []) m found = absurd cc
no_source (a ∷ b ∷ []) m found = absurd cc
no_source (a ∷ b ∷ c ∷ []) m found = absurd cc
no_source (to ∷ said ∷ low ∷ header ∷ rest) m found = passed_from _ _ m found

own_source : (n m : Message) → message Simple (spelling Simple n) ≡ Some m → m.from ≡ Some (unwrap_or n.from 0)
unfolding message spelling
own_source n m found = passed_from _ _ m found

from_own : (addr : ℕ) (from : Option ℕ) → from ≡ Some addr → is_from addr from ≡ true
from_own addr from is = ap (is_from addr) is ∙ eq-eqb addr addr refl

names_own : (kind : CheckKind) (to addr : ℕ) (y : Reply) (m : Message) →
    message kind (spelling kind (replying to addr y)) ≡ Some m → is_from addr m.from ≡ true
names_own Simple to addr y m found = from_own addr m.from (own_source (replying to addr y) m found)
names_own Crc to addr y m found = ap (is_from addr) (no_source (spelling Crc (replying to addr y)) m found)

-- whom the answer of a device names

one_byte : (kind : CheckKind) (byte : ℕ) → message kind (byte ∷ []) ≡ None
unfolding message
one_byte Simple byte = refl
one_byte Crc byte = refl

bare_is : (kind : CheckKind) (addr : ℕ) (q : Request) → message kind (unwrap_or (bare_answer addr q) []) ≡ None
bare_is kind addr AddressPoll = one_byte kind addr
bare_is kind addr q = empty_message kind

reply_names : (d : DeviceSetup) (to : ℕ) (q : Request) (y : Option Reply) (m : Message) →
    message d.kind (unwrap_or (option_or (option_map (reply_bytes d to) y) (bare_answer d.addr q)) []) ≡ Some m →
    is_from d.addr m.from ≡ true
reply_names d to q None m found = absurd (none_some m (sym (bare_is d.kind d.addr q) ∙ found))
reply_names d to q (Some y) m found = names_own d.kind to d.addr y m found

answer_names : (d : DeviceSetup) (past : List Met) (to : ℕ) (asked : Option Request) (m : Message) →
    message d.kind (unwrap_or (answer_to d past to asked) []) ≡ Some m → is_from d.addr m.from ≡ true
answer_names d past to None m found = absurd (none_some m (sym (empty_message d.kind) ∙ found))
answer_names d past to (Some q) m found = reply_names d to q (reply_of d past q) m found

-- what follows the echo under a fault is what the devices answer

none_follows : (kind : CheckKind) (after : Option (List ℕ)) (m : Message) →
    ((rest : List ℕ) → after ≡ Some rest → message kind rest ≡ None) →
    option_and_then (message kind) after ≡ Some m → ⊥
none_follows kind None m none found = none_some m found
none_follows kind (Some rest) m none found = none_some m (sym (none rest refl) ∙ found)

follows : (kind : CheckKind) (sent rest : List ℕ) → option_and_then (message kind) (after_echo sent (sent ++ rest)) ≡ message kind rest
follows kind sent rest = ap (option_and_then (message kind)) (echo_off sent rest)

answered_under : (setup : Setup) (past : List Entry) (kind : CheckKind) (sent : List ℕ) (m : Message) (f : WireFault) →
    (IsAddressPoll sent → ⊥) → DamagesHonestly f sent →
    option_and_then (message kind) (after_echo sent (heard_under setup past f sent)) ≡ Some m →
    message kind (answers setup past sent) ≡ Some m
answered_under setup past kind sent m fault.Clear no_poll damage found = sym (follows kind sent (answers setup past sent)) ∙ found
answered_under setup past kind sent m (fault.DevicesHear piece) no_poll damage found =
    absurd (none_some m (sym (empty_message kind) ∙ ap (message kind) (sym (damaged_answers setup past piece damage))
    ∙ sym (follows kind sent (answers setup past piece)) ∙ found))
answered_under setup past kind sent m (fault.HostHears piece) no_poll damage found =
    absurd (none_some m (sym (none_under kind piece (damage no_poll)) ∙ sym (follows kind sent piece) ∙ found))
answered_under setup past kind sent m (fault.WholeHeard piece) no_poll damage found =
    absurd (none_follows kind (after_echo sent piece) m
    (λ rest after. none_under kind rest ((damage no_poll).1 rest (echo_known sent piece rest after))) found)

-- so it names the device that was asked

to_first : (kind : CheckKind) (addr : ℕ) (sent : List ℕ) (found : Option Message) → message kind sent ≡ found →
    is_to addr found ≡ true → slice_index sent 0 ≡ addr
to_first kind addr sent None is to_it = absurd cc
to_first kind addr sent (Some m) is to_it = sym (message_placed kind sent m is).0 ∙ eqb-true m.to addr to_it

module _ (setup : Setup) (d : DeviceSetup) (past : List Entry) (sent : List ℕ) (sound : IsSoundSetup setup)
    (own : IsOf setup d) (honest : IsHonestFault (pending past) sent) where
  abbrev after : Option Message
  after = option_and_then (message d.kind) (after_echo sent (heard_after setup past sent))

  after_names : (m : Message) → slice_index sent 0 ≡ d.addr → after ≡ Some m → is_from d.addr m.from ≡ true
  after_names m to_it found =
      let answered : message d.kind (answers setup past sent) ≡ Some m =
      answered_under setup past d.kind sent m (pending past) (no_poll_to setup d sent sound own to_it)
      (honest_means (pending past) sent honest)
      (ap (λ heard. option_and_then (message d.kind) (after_echo sent heard)) (sym (heard_is setup past sent)) ∙ found) in
      answer_names d (met d past) (asker d.kind sent) (asks_of d sent) m
      (ap (message d.kind) (sym (alone_answers setup d past sent sound own to_it)) ∙ answered)

  by_after : slice_index sent 0 ≡ d.addr → (found : Option Message) → after ≡ found → is_of_other d.addr found ≡ false
  by_after to_it None is = refl
  by_after to_it (Some m) is =
      ap (λ b. (m.to == HOST) && not b) (after_names m to_it is) ∙ and-false (m.to == HOST)

  by_message : (to_it : Bool) → is_message d.kind d.addr sent ≡ to_it → (to_it && is_of_other d.addr after) ≡ false
  by_message true is = by_after (to_first d.kind d.addr sent (message d.kind sent) refl is) after refl
  by_message false is = refl

  pub none_other : other_answers d.kind d.addr (tap_of sent (heard_after setup past sent)) ≡ false
  none_other = by_message (is_message d.kind d.addr sent) refl
