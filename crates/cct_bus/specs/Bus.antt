-- A bus that represents all that happened on it.
use Rattle.std.specs.Prelude.{◌≡◌, ℕ, List, ◌∷◌}
use Rattle.std.specs.List.{All}
use Rattle.cct_model.specs.terms.device.Setup.{Setup}
use Rattle.cct_model.specs.lines.entry.Entry.{Entry}
use Rattle.cct_model.specs.lines.entry.Entry.TheVariants as entry
use Rattle.cct_model.specs.terms.family.Happening.{Happening}
use Rattle.cct_model.specs.Exchange.{by_address, device_at}
use Rattle.cct_model.specs.Honest.{was_forged}
use Rattle.cct_model.specs.Legal.{OfKnowing, happening_entry}
use Rattle.cct_model.specs.Setup.{IsSoundSetup}
use Rattle.cct_model.specs.Transcript.{heard_after, met, pending}
use Rattle.cct_bus.specs.declared.bus.Bus.{Bus}
use Rattle.cct_bus.specs.declared.outcome.Outcome.{Outcome}
use Rattle.cct_bus.specs.Device.{Stands, setups_in}
use Rattle.cct_bus.specs.Outcome.{becomes}

-- The setup of a bus.
abbrev pub setup_of : Bus → Setup
setup_of bus = bus.setup.now

-- A bus represents a transcript, newest entry first: its setup is sound, its devices are those of
-- its setup in rising order of address, each met what the transcript shows of it, the fault that is
-- set is the pending one, and whether the last exchange was forged is what the transcript shows.
pub record StandsFor (bus : Bus) (past : List Entry) : Type 0 where
  pub sound : IsSoundSetup (setup_of bus)
  pub order : setups_in bus.devices.items ≡ by_address (setup_of bus).devices
  pub devices : All (Stands (λ d. met d past)) bus.devices.items
  pub fault : bus.fault ≡ pending past
  pub forged : bus.forged ≡ was_forged past

-- What an exchange on a bus may do: the setup stays, the host hears what it does after the
-- transcript before, and the transcript goes on by the exchange.
abbrev pub Exchanges : Bus → List ℕ → List ℕ → Bus → Type 0
Exchanges old sent heard new =
    (setup_of new ≡ setup_of old)
    × ((past : List Entry) (addr : ℕ) → StandsFor old past
    → (heard ≡ heard_after (setup_of old) past sent)
    × StandsFor new (entry.Wire addr sent heard ∷ past))

-- What something that happens to the device at an address does on a bus: it becomes what it does of
-- one that met what the transcript shows, and the transcript goes on by its entry.
abbrev pub Befalls : Setup → List Entry → ℕ → Happening → Outcome → Bus → Type 0
Befalls setup past addr what outcome new =
    OfKnowing what (device_at setup.devices addr)
    (λ d. (outcome ≡ becomes what d.serial (met d past))
    × StandsFor new (happening_entry addr d past what ∷ past))
