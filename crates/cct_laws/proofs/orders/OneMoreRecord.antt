-- Each legal step leaves the records as they were, or adds one, whose id is new, whatever is heard on the wire.
use Rattle.std.proofs.Common.{ℕ, List, ◌∷◌, ◌++◌, sym, subst, Option, Some, None}
use Rattle.cct_model.specs.terms.wire.TheConstants.{BROADCAST}
use Rattle.cct_model.specs.terms.device.DeviceSetup.{DeviceSetup}
use Rattle.cct_model.specs.terms.device.Setup.{Setup}
use Rattle.cct_model.specs.lines.record.Record.TheVariants as record_of
use Rattle.cct_model.specs.lines.command.Step.{Step}
use Rattle.cct_model.specs.lines.entry.End.{End}
use Rattle.cct_model.specs.lines.entry.Entry.{Entry}
use Rattle.cct_model.specs.lines.entry.Entry.TheVariants as entry
use Rattle.cct_model.specs.Legal.{with_end}
use Rattle.cct_model.specs.Records.{records}
use Rattle.cct_model.specs.Transcript.{met}
use Rattle.cct_laws.specs.Ids.{Ids}
use Rattle.cct_laws.specs.Law.{IsOf}
use Rattle.cct_laws.proofs.jobs.AtDesk.{desk_apart}
use Rattle.cct_laws.proofs.jobs.StepBrings.{wire_of, wire_end, record_end, poll_wire, poll_end, AtDevice, came, took, halted, idled, made_exchange, made_put, Brought, of_device, faulted, refused, began_scan, began_sale, nobody, polled, sold, balanced, of_desk, ended_short, lost_power, lost_in_put, lost_in_sale}
use Rattle.cct_laws.proofs.orders.Ids.{row_new, sale_unused}
use Rattle.cct_laws.proofs.jobs.LeftAlone.{came_quiet}
use Rattle.cct_laws.proofs.orders.UsedIds.{Grows, same_records, one_more}

-- an end puts nothing
grows_ended : (past : List Entry) (addr : ℕ) (e : Entry) (end : Option End) →
    Grows (records past) (records (e ∷ past)) → Grows (records past) (records (with_end addr e end ++ past))
grows_ended past addr e None grows = grows
grows_ended past addr e (Some end) grows = grows

device_grows : (capacity : ℕ) (setup : Setup) (past : List Entry) (d : DeviceSetup) (s : Step) (news : List Entry) →
    IsOf setup d → AtDevice capacity setup d past s news → Ids setup past →
    Grows (records past) (records (news ++ past))
device_grows capacity setup past d _ _ own (came s e m ls comes) ids =
    subst (Grows (records past)) (sym ((came_quiet d (met d past) s e m ls comes).no_record past)) same_records
device_grows capacity setup past d _ _ own (took s c gives suited here is_free is_taken owed passes) ids = same_records
device_grows capacity setup past d _ _ own (halted paying can) ids = same_records
device_grows capacity setup past d _ _ own (idled is_free) ids = same_records
device_grows capacity setup past d _ _ own (made_exchange c since q work is) ids =
    grows_ended past d.addr (wire_of setup d past q) (wire_end setup d past c since q) same_records
device_grows capacity setup past d _ _ own (made_put c since r work is) ids =
    grows_ended past d.addr (entry.Put r) (record_end d past c since r)
    (one_more r (row_new setup past d c since r own ids work is).is_new)

pub step_grows : (capacity : ℕ) (setup : Setup) (past news : List Entry) (s : Step) → Ids setup past →
    Brought capacity setup past s news → Grows (records past) (records (news ++ past))
step_grows capacity setup past _ _ ids (of_device d s news own at) =
    device_grows capacity setup past d s news own at ids
step_grows capacity setup past _ _ ids (faulted f) = same_records
step_grows capacity setup past _ _ ids (refused c why is) = same_records
step_grows capacity setup past _ _ ids (began_scan is_free) = same_records
step_grows capacity setup past _ _ ids (began_sale id price is_free passes) = same_records
step_grows capacity setup past _ _ ids (nobody addr none) = same_records
step_grows capacity setup past _ _ ids (polled c since check addr none is next) =
    grows_ended past BROADCAST (poll_wire setup past check addr) (poll_end setup past since check addr) same_records
step_grows capacity setup past _ _ ids (sold id price since none selling) =
    one_more (record_of.Sold id price) (sale_unused setup past id price since ids selling)
step_grows capacity setup past _ _ ids balanced = same_records
step_grows capacity setup past _ _ ids (of_desk s e is) =
    subst (Grows (records past)) (sym ((desk_apart s e is).no_record past)) same_records
step_grows capacity setup past _ _ ids (ended_short addr id count why paid rest small range was) =
    same_records
step_grows capacity setup past _ _ ids (lost_power at choice) = same_records
step_grows capacity setup past _ _ ids (lost_in_put at choice d c since r own work is) =
    one_more r (row_new setup past d c since r own ids work is).is_new
step_grows capacity setup past _ _ ids (lost_in_sale at choice id price since none selling) =
    one_more (record_of.Sold id price) (sale_unused setup past id price since ids selling)
