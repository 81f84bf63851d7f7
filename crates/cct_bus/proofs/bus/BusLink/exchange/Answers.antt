use Rattle.std.proofs.Common.{◌≡◌, ◌∙◌, ◌≤◌, List, ℕ, ◌∷◌, ◌++◌, length, refl, sym, ap, subst, arith}
use Rattle.std.specs.Prelude.{not}
use Rattle.std.specs.List.{All, flat_map}
use Rattle.cct_model.specs.terms.device.DeviceSetup.{DeviceSetup}
use Rattle.cct_model.specs.History.{Met}
use Rattle.cct_model.specs.Honest.{is_honest}
use Rattle.cct_model.specs.Setup.{AreDistinct}
use Rattle.cct_model.specs.Transcript.{heard_by_devices, heard_by_host, met, pending}
use Rattle.cct_model_wire.specs.Places.{places_of}
use Rattle.cct_bus.specs.Device.{Stands, setups_in}
use Rattle.cct_bus.specs.Room.{most_answered}
use Rattle.cct_bus.proofs.Buses.{exchange_stands, exchanged, room_in_order}
use Rattle.cct_bus.proofs.Orders.{distinct_by_address}
use Rattle.cct_bus.proofs.Hears.{answer_of, hearing, ok_fact, refilled}
use Rattle.cct_model.specs.lines.entry.Entry.TheVariants as entry
use Rattle.cct_bus.proofs.bus.BusLink.exchange.Goals as goal

pub all_hear-requires : goal.all_hear-requires
all_hear-requires c =
    let echo : c.try_extend_from_slice.new.self.items ≡ c.clear.new.self.items ++ c.args.sent.now = ok_fact _ _ _ c.unwrap.ensures c.try_extend_from_slice.ensures.ok in
    let piece = c.heard_by_devices-piece.result.now in
    let room : most_answered piece (setups_in c.args.self.now.devices.items) ≤ 260 = room_in_order piece _ _ c.args.self.now.order (c.args.self.now.room piece) in
    let same : most_answered piece (setups_in c.deref_mut.result.now) ≡ most_answered piece (setups_in c.args.self.now.devices.items) = ap (λ ds. most_answered piece (setups_in ds)) c.deref_mut.ensures.value in
    let sent : length c.try_extend_from_slice.new.self.items ≡ length c.args.sent.now = ap length (echo ∙ ap (λ front. front ++ c.args.sent.now) c.clear.ensures) in
    record {
      places = c.args.self.now.table ∙ sym (ap (λ ds. places_of (setups_in ds)) c.deref_mut.ensures.value);
      room = omega arith;
    }

pub returns : goal.returns
returns c =
    let setup = c.args.self.now.setup.now in
    let fault = c.args.self.now.fault in
    let sent = c.args.sent.now in
    let piece = c.heard_by_devices-piece.result.now in
    let old = c.args.self.now.devices.items in
    let new = c.all_hear.new.devices in
    let told = c.all_hear.new.answers.items in
    let heard = c.heard_by_host.new.heard.items in
    let echo : c.try_extend_from_slice.new.self.items ≡ sent = ok_fact _ _ _ c.unwrap.ensures c.try_extend_from_slice.ensures.ok ∙ ap (λ front. front ++ sent) c.clear.ensures in
    let len : c.args.self.now.devices.len ≡ length new = omega arith in
    let back = sym (refilled c.args.self.now.devices.len new old len) in
    let lent : c.deref_mut.result.now ≡ old = c.deref_mut.ensures.value in
    let reached : piece ≡ heard_by_devices fault sent = c.heard_by_devices-piece.ensures in
    let makes : (answered : List ℕ) → told ≡ sent ++ answered → heard ≡ heard_by_host fault sent answered = c.heard_by_host.ensures in
    let says : AreDistinct (setups_in c.deref_mut.result.now) → (history : DeviceSetup → List Met) → All (Stands history) old → told ≡ sent ++ flat_map (answer_of piece history) (setups_in old) =
    (λ distinct history stand. c.all_hear.ensures.answers history distinct (subst (λ ds. All (Stands history) ds) (sym lent) stand) ∙ ap (λ front. front ++ flat_map (answer_of piece history) (setups_in c.deref_mut.result.now)) echo ∙ ap (λ ds. sent ++ flat_map (answer_of piece history) (setups_in ds)) lent) in (
      refl,
      λ past addr stands.
          let same : fault ≡ pending past = stands.fault in
          let distinct : AreDistinct (setups_in c.deref_mut.result.now) =
          subst (λ ds. AreDistinct ds) (sym (ap setups_in lent ∙ stands.order)) (distinct_by_address setup.devices stands.sound.distinct) in
          let hears : All (Stands (hearing piece (λ d. met d past))) new = c.all_hear.ensures.stand (λ d. met d past) distinct (subst (λ ds. All (Stands (λ d. met d past)) ds) (sym lent) stands.devices) in (
            exchanged setup past fault old sent piece told heard same stands.order reached (says distinct) makes stands.devices,
            record {
              sound = stands.sound;
              order = ap setups_in (sym back) ∙ c.all_hear.ensures.setups ∙ ap setups_in lent ∙ stands.order;
              devices = subst (λ ds. All (Stands (λ d. met d (entry.Wire addr sent heard ∷ past))) ds) back (exchange_stands past fault new addr sent piece heard same reached hears);
              fault = c.use_up.ensures;
              forged = ap not (c.is_honest.ensures ∙ ap (λ f. is_honest f sent) same);
            },
          ),
    )
