-- What a session of change asks of the host.
use Rattle.std.specs.Prelude.{◌≡◌, Some, ⊤}
use Rattle.std.specs.Option.{option_map}
use Rattle.cct_model.specs.Change.{Desk}
use Rattle.cct_model.specs.Script.{IsCommand}
use Rattle.cct_host_change.specs.declared.desk.Serving.{Serving}
use Rattle.cct_host_change.specs.declared.desk.Serving.TheVariants.{Pay}
use Rattle.cct_live_service.specs.Told.{pay_of}

-- Where it asks for a payment, the host can be given that, and the session at the operator's desk
-- waits for the answer.
abbrev pub HasAsked : Serving → Desk → Type 0
HasAsked (Pay p) desk = IsCommand (pay_of p) × (option_map (λ s. s.next) desk.session ≡ Some p.id)
HasAsked serving desk = ⊤
