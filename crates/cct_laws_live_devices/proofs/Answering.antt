-- What a port hears over a prompt line is what devices answer in some world.
use Rattle.std.proofs.Common.{◌≡◌, ◌⊎◌, inl, inr, ℕ, ◌==◌, false, List, [], ◌∷◌, ◌++◌, refl, sym, ap, ◌∙◌}
use Rattle.std.proofs.lemmas.List.{append-nil}
use Rattle.cct_model.specs.terms.wire.TheConstants.{BROADCAST}
use Rattle.cct_model.specs.terms.device.Setup.{Setup}
use Rattle.cct_model.specs.lines.command.WireFault.{WireFault}
use Rattle.cct_model.specs.lines.command.WireFault.TheVariants as fault
use Rattle.cct_model.specs.lines.entry.Entry.{Entry}
use Rattle.cct_model.specs.lines.entry.Entry.TheVariants as entry
use Rattle.cct_model.specs.Honest.{IsHonestFault}
use Rattle.cct_model.specs.Transcript.{heard_after, heard_by_devices, pending}
use Rattle.cct_laws.proofs.wire.HonestFaults.{honest_means}
use Rattle.cct_laws_live_devices.specs.World.{AnswersAt, IsNoReply}
use Rattle.cct_laws_live_devices.proofs.Lost.{lost_answer, lost_request}
use Rattle.cct_laws_live_devices.specs.Prompt.{InSomeWorld}

lost_by : (setup : Setup) (past : List Entry) (addr : ℕ) (sent heard : List ℕ) (f : WireFault) →
    (addr == BROADCAST) ≡ false → IsNoReply sent heard → IsHonestFault f sent →
    (g : WireFault) × AnswersAt setup (entry.Fault g ∷ past) (entry.Wire addr sent heard) × IsHonestFault g sent
    × (heard_by_devices g sent ≡ heard_by_devices f sent)
lost_by setup past addr sent heard (fault.DevicesHear piece) one none honest =
    let lost = lost_request setup past addr sent heard piece one none (honest_means (fault.DevicesHear piece) sent honest) in
    (fault.DevicesHear piece, lost.0, lost.1, refl)
lost_by setup past addr sent heard fault.Clear one none honest =
    let lost = lost_answer setup past addr sent heard one none in (fault.HostHears [], lost.0, lost.1, refl)
lost_by setup past addr sent heard (fault.HostHears piece) one none honest =
    let lost = lost_answer setup past addr sent heard one none in (fault.HostHears [], lost.0, lost.1, refl)
lost_by setup past addr sent heard (fault.WholeHeard piece) one none honest =
    let lost = lost_answer setup past addr sent heard one none in (fault.HostHears [], lost.0, lost.1, refl)

pub in_some_world : (setup : Setup) (past : List Entry) (addr : ℕ) (sent heard rest : List ℕ) →
    (addr == BROADCAST) ≡ false → IsHonestFault (pending past) sent → heard_after setup past sent ≡ heard ++ rest →
    (rest ≡ []) ⊎ IsNoReply sent heard → InSomeWorld setup past addr sent heard
in_some_world setup past addr sent heard rest one honest front (inl whole) = record {
  faults = [];
  answers = inl (sym (front ∙ ap (λ r. heard ++ r) whole ∙ append-nil heard));
  honest = honest;
  same = refl;
}
in_some_world setup past addr sent heard rest one honest front (inr none) =
    let lost = lost_by setup past addr sent heard (pending past) one none honest in
    record { faults = entry.Fault lost.0 ∷ []; answers = lost.1; honest = lost.2; same = lost.3 }
