use Rattle.std.proofs.Common.{◌≡◌, ◌+◌, ◌≤◌, List, ◌∷◌, [], ◌++◌, length, take, drop}
use Rattle.std.specs.Prelude.{unwrap_or}
use Rattle.std.specs.List.{All, flat_map}
use Rattle.cct_model.specs.terms.device.DeviceSetup.{DeviceSetup}
use Rattle.cct_model.specs.Exchange.{answer, asks_of}
use Rattle.cct_model.specs.History.{Met, heard}
use Rattle.cct_bus.specs.Device.{Stands, setups_in}
use Rattle.cct_bus.specs.Room.{most_answered}
use Rattle.cct_bus.proofs.hearing.each_hears.Given as goal

abbrev pub invariant-loop-device : goal.invariant-loop-device
invariant-loop-device l = record {
  setups : setups_in l.devices ≡ setups_in l.initial.devices;
  later : drop l.device-index l.devices ≡ drop l.device-index l.initial.devices;
  room : length l.answers.items + most_answered l.piece (setups_in (drop l.device-index l.initial.devices)) ≤ 520;
  stand : (history : DeviceSetup → List Met) → All (Stands history) l.initial.devices → All (Stands (λ d. heard (asks_of d l.piece) ∷ history d)) (take l.device-index l.devices);
  answers : (history : DeviceSetup → List Met) → All (Stands history) l.initial.devices → l.answers.items ++ flat_map (λ d. unwrap_or (answer d (history d) l.piece) []) (setups_in (drop l.device-index l.initial.devices)) ≡ l.initial.answers.items ++ flat_map (λ d. unwrap_or (answer d (history d) l.piece) []) (setups_in l.initial.devices);
}
