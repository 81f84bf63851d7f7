-- In a past in which each open order was opened at its own hopper, no put closes an order of another address.
use Rattle.std.proofs.Common.{◌≡◌, ℕ, zero, suc, ◌==◌, Bool, true, false, cond, List, refl, sym, subst, Option, Some, None}
use Rattle.std.specs.Option.{IfSome}
use Rattle.cct_model.specs.terms.wire.TheConstants.{HOST}
use Rattle.cct_model.specs.terms.device.DeviceSetup.{DeviceSetup}
use Rattle.cct_model.specs.terms.device.Setup.{Setup}
use Rattle.cct_model.specs.lines.command.Command.{Command}
use Rattle.cct_model.specs.declared.judging.Judged.TheVariants.{Nothing}
use Rattle.cct_model.specs.lines.command.Command.TheVariants as command
use Rattle.cct_model.specs.lines.entry.Entry.{Entry}
use Rattle.cct_model.specs.declared.judging.OpenOrder.{OpenOrder}
use Rattle.cct_model.specs.Exchange.{device_at}
use Rattle.cct_model.specs.Line.{Line}
use Rattle.cct_model.specs.Job as model
use Rattle.cct_model.specs.Job.{Noted, noted_in}
use Rattle.cct_model.specs.Rows.{row_of_sale, rows_of_sale, after, done, first}
use Rattle.cct_model.specs.Legal.{due_of, due_of_sale, due_there, record_due}
use Rattle.cct_model.specs.Order.{order}
use Rattle.cct_model.specs.Transcript.{lines_of, opened_at, sale_lines}
use Rattle.cct_jobs.specs.Jobs.{ClosesItsOwn}
use Rattle.cct_jobs.proofs.Owners.{row_owns}
use Rattle.cct_host.specs.Place.{OwnsItsPut}
use Rattle.cct_host.proofs.Commands.{address_there}

-- each open order was opened at its own hopper
abbrev pub AreOwned : Setup → List Entry → Type 0
AreOwned setup past =
    (d : DeviceSetup) → device_at setup.devices d.addr ≡ Some d → (o : OpenOrder) → order (lines_of d past) ≡ Some o
    → opened_at o.id past ≡ d.addr

-- then no job at a device closes another's
device_owns : (past : List Entry) (addr : ℕ) (d : DeviceSetup) (j : model.Job)
    → ((o : OpenOrder) → order (lines_of d past) ≡ Some o → opened_at o.id past ≡ addr)
    → IfSome (due_of d (lines_of d past) j) (ClosesItsOwn past addr)
device_owns past addr d model.free opened = tt
device_owns past addr d (model.works c since) opened = row_owns past addr d c since _ _ opened

-- nor does a sale
vend_owns : (past : List Entry) (addr id price rows : ℕ) (p : Noted)
    → IfSome (record_due (first HOST Nothing p (after (rows_of_sale (command.Vend id price)) rows)))
    (ClosesItsOwn past addr)
vend_owns past addr id price zero p = tt
vend_owns past addr id price (suc rows) p = tt

sale_row_owns : (past : List Entry) (addr : ℕ) (c : Command) (since : List Line)
    → IfSome (record_due (row_of_sale c since)) (ClosesItsOwn past addr)
sale_row_owns past addr (command.Vend id price) since =
    vend_owns past addr id price (done (rows_of_sale (command.Vend id price)) since) (noted_in since None)
sale_row_owns past addr c since = tt

sale_owns : (past : List Entry) (addr : ℕ) (j : model.Job) → IfSome (due_of_sale j) (ClosesItsOwn past addr)
sale_owns past addr model.free = tt
sale_owns past addr (model.works c since) = sale_row_owns past addr c since

bare_owns : (past : List Entry) (addr : ℕ) (host : Bool)
    → IfSome (cond host (due_of_sale (model.job (sale_lines past))) None) (ClosesItsOwn past addr)
bare_owns past addr true = sale_owns past addr (model.job (sale_lines past))
bare_owns past addr false = tt

owns_there : (setup : Setup) (past : List Entry) (addr : ℕ) (found : Option DeviceSetup)
    → device_at setup.devices addr ≡ found → AreOwned setup past
    → IfSome (due_there past addr found) (ClosesItsOwn past addr)
owns_there setup past addr None is owned = bare_owns past addr (addr == HOST)
owns_there setup past addr (Some d) is owned =
    let here : d.addr ≡ addr = address_there setup.devices addr d is in
    subst (λ a. IfSome (due_of d (lines_of d past) (model.job (lines_of d past))) (ClosesItsOwn past a)) here
    (device_owns past d.addr d (model.job (lines_of d past))
    (owned d (subst (λ a. device_at setup.devices a ≡ Some d) (sym here) is)))

pub owns_its_put : (setup : Setup) (past : List Entry) (addr : ℕ) → AreOwned setup past → OwnsItsPut setup past addr
owns_its_put setup past addr owned = owns_there setup past addr (device_at setup.devices addr) refl owned
