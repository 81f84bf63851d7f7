-- A payment that a step gave the host begins its job at a hopper of the setup.
use Rattle.std.proofs.Common.{◌≡◌, ℕ, true, List, [], ◌∷◌, ap, Option, Some, None}
use Rattle.std.specs.Prelude.{⊤}
use Rattle.cct_model.specs.terms.device.DeviceSetup.{DeviceSetup}
use Rattle.cct_model.specs.terms.device.Setup.{Setup}
use Rattle.cct_model.specs.lines.command.Command.TheVariants as command
use Rattle.cct_model.specs.lines.command.Step.{Step}
use Rattle.cct_model.specs.lines.command.Step.TheVariants as step
use Rattle.cct_model.specs.lines.entry.End.{End}
use Rattle.cct_model.specs.lines.entry.Entry.{Entry}
use Rattle.cct_model.specs.lines.entry.Entry.TheVariants as entry
use Rattle.cct_model.specs.Job.{works, job}
use Rattle.cct_model.specs.Legal.{Entries, with_end}
use Rattle.cct_model.specs.Script.{IsCommand, IsInRange}
use Rattle.cct_model.specs.Transcript.{lines_of, met}
use Rattle.cct_laws.specs.DeviceJobs.{suits}
use Rattle.cct_laws.specs.Law.{IsOf}
use Rattle.cct_laws.proofs.jobs.StepBrings.{AtDevice, came, took, halted, idled, made_exchange, made_put, wire_of, wire_end, record_end, poll_wire, poll_end, Brought, of_device, faulted, refused, began_scan, began_sale, nobody, polled, sold, balanced, of_desk, ended_short, lost_power, lost_in_put, lost_in_sale, brought, IsOfNoJob, came_of_no_job, desk_of_no_job}
use Rattle.cct_laws.proofs.jobs.SeenAtOne.{lines_taken}

-- the job of a payment at a hopper
pub record BeginsPay (setup : Setup) (past : List Entry) (addr id count : ℕ) : Type 0 where
  pub device : DeviceSetup
  pub own : IsOf setup device
  pub here : addr ≡ device.addr
  pub suited : suits device.body (command.Pay addr id count) ≡ true
  pub in_range : IsCommand (command.Pay addr id count)
  pub begins : job (lines_of device (entry.Taken (command.Pay addr id count) ∷ past))
      ≡ works (command.Pay addr id count) []

abbrev IfPay : Setup → List Entry → Entry → Type 0
IfPay setup past (entry.Taken (command.Pay addr id count)) = BeginsPay setup past addr id count
IfPay setup past e = ⊤

abbrev IfPays : Setup → List Entry → List Entry → Type 0
IfPays setup past (e ∷ []) = IfPay setup past e
IfPays setup past news = ⊤

pays_of_no_job : (setup : Setup) (past : List Entry) (e : Entry) → IsOfNoJob e → IfPay setup past e
pays_of_no_job setup past (entry.Taken c) is = absurd is
pays_of_no_job setup past e is = tt

end_pays : (setup : Setup) (past : List Entry) (at : ℕ) (e : Entry) (end : Option End) → IfPay setup past e →
    IfPays setup past (with_end at e end)
end_pays setup past at e None is = is
end_pays setup past at e (Some end) is = tt

there_pays : (capacity : ℕ) (setup : Setup) (d : DeviceSetup) (past news : List Entry) (s : Step) → IsInRange s →
    IsOf setup d → AtDevice capacity setup d past s news → IfPays setup past news
there_pays capacity setup d past _ _ range own (came s e m ls comes) =
    pays_of_no_job setup past e (came_of_no_job d (met d past) s e m ls comes)
there_pays capacity setup d past _ _ range own
    (took s (command.Pay addr id count) gives suited here is_free is_taken is_owed lets) = record {
      device = d;
      own = own;
      here = here;
      suited = suited;
      in_range = gives.in_range range;
      begins = ap job (lines_taken d past (command.Pay addr id count) here);
    }
there_pays capacity setup d past _ _ range own (took s c gives suited here is_free is_taken is_owed lets) = tt
there_pays capacity setup d past _ _ range own (halted paying can) = tt
there_pays capacity setup d past _ _ range own (idled is_free) = tt
there_pays capacity setup d past _ _ range own (made_exchange c since q at_work is_row) =
    end_pays setup past d.addr (wire_of setup d past q) (wire_end setup d past c since q) tt
there_pays capacity setup d past _ _ range own (made_put c since r at_work is_row) =
    end_pays setup past d.addr (entry.Put r) (record_end d past c since r) tt

brought_pays : (capacity : ℕ) (setup : Setup) (past news : List Entry) (s : Step) → IsInRange s →
    Brought capacity setup past s news → IfPays setup past news
brought_pays capacity setup past _ _ range (of_device d s news own told) =
    there_pays capacity setup d past news s range own told
brought_pays capacity setup past _ _ range (faulted f) = tt
brought_pays capacity setup past _ _ range (refused c why was) = tt
brought_pays capacity setup past _ _ range (began_scan is_free) = tt
brought_pays capacity setup past _ _ range (began_sale id price is_free lets) = tt
brought_pays capacity setup past _ _ range (nobody addr empty) = tt
brought_pays capacity setup past _ _ range (polled c since check addr empty is_job is_row) =
    end_pays setup past 0 (poll_wire setup past check addr) (poll_end setup past since check addr) tt
brought_pays capacity setup past _ _ range (sold id price since empty selling) = tt
brought_pays capacity setup past _ _ range balanced = tt
brought_pays capacity setup past _ _ range (of_desk s e is) = pays_of_no_job setup past e (desk_of_no_job s e is)
brought_pays capacity setup past _ _ range (ended_short addr id count why paid rest small known was) = tt
brought_pays capacity setup past _ _ range (lost_power at choice) = tt
brought_pays capacity setup past _ _ range (lost_in_put at choice d c since r own at_work is_row) = tt
brought_pays capacity setup past _ _ range (lost_in_sale at choice id price since empty selling) = tt

pub begins_pay : (capacity : ℕ) (setup : Setup) (past : List Entry) (addr id count : ℕ) →
    Entries capacity setup past step.Serve (entry.Taken (command.Pay addr id count) ∷ []) →
    BeginsPay setup past addr id count
begins_pay capacity setup past addr id count entries =
    brought_pays capacity setup past (entry.Taken (command.Pay addr id count) ∷ []) step.Serve tt
    (brought capacity setup past (entry.Taken (command.Pay addr id count) ∷ []) step.Serve entries)
