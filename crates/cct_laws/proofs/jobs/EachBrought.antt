-- A fact of each entry of a step, where it is one of exchanges, of balances, and of what coins and bills come to devices.
use Rattle.std.proofs.Common.{ℕ, List, ◌++◌, Option}
use Rattle.std.specs.Prelude.{⊤}
use Rattle.cct_model.specs.terms.device.DeviceSetup.{DeviceSetup}
use Rattle.cct_model.specs.terms.device.Setup.{Setup}
use Rattle.cct_model.specs.lines.command.Step.{Step}
use Rattle.cct_model.specs.lines.entry.End.{End}
use Rattle.cct_model.specs.lines.entry.Entry.{Entry}
use Rattle.cct_model.specs.lines.entry.Entry.TheVariants as entry
use Rattle.cct_model.specs.Exchange.{ask}
use Rattle.cct_model.specs.History.{Met}
use Rattle.cct_model.specs.Legal.{with_end}
use Rattle.cct_model.specs.Line.{Line}
use Rattle.cct_model.specs.Money.{totals}
use Rattle.cct_model.specs.Scan.{poll_of}
use Rattle.cct_model.specs.Transcript.{heard_after, met}
use Rattle.cct_laws.specs.Law.{EachEntry, IsOf}
use Rattle.cct_laws.proofs.jobs.StepBrings.{AtDevice, Brought, Comes, IsOfDesk, balanced, began_sale, began_scan, begins_change, came, ended_short, faulted, halted, idled, keeps_change, lost_in_put, lost_in_sale, lost_power, made_exchange, made_put, nobody, of_desk, of_device, poll_end, polled, record_end, refused, serves_all, serves_later, serves_none, serves_odd, serves_short, sold, tells_stock, took, wire_end}
use Rattle.cct_laws.proofs.jobs.SeenAtOne.{each_with_end}

-- an entry is none of these
abbrev pub IsBeside : Entry → Type 0
IsBeside (entry.Wire addr sent piece) = ⊥
IsBeside (entry.Balance told) = ⊥
IsBeside (entry.Accepted addr c) = ⊥
IsBeside (entry.Held addr place) = ⊥
IsBeside (entry.Inhibited addr place) = ⊥
IsBeside e = ⊤

desk_beside : (s : Step) (e : Entry) → IsOfDesk s e → IsBeside e
desk_beside _ _ (tells_stock addr count) = tt
desk_beside _ _ (begins_change first amount) = tt
desk_beside _ _ (keeps_change first amount) = tt
desk_beside _ _ serves_none = tt
desk_beside _ _ (serves_later addr) = tt
desk_beside _ _ (serves_odd id) = tt
desk_beside _ _ (serves_all amount) = tt
desk_beside _ _ (serves_short paid rest) = tt

module _ (capacity : ℕ) (setup : Setup) (P : List Entry → Entry → Type 0)
    (others : (past : List Entry) (e : Entry) → IsBeside e → P past e)
    (wires : (past : List Entry) (addr : ℕ) (sent : List ℕ) → P past (entry.Wire addr sent (heard_after setup past sent))) where
  with_end_so : (past : List Entry) (addr : ℕ) (e : Entry) (end : Option End) → P past e → EachEntry P past →
      EachEntry P (with_end addr e end ++ past)
  with_end_so past addr e end is before =
      each_with_end P past addr e end is (λ older found. others older (entry.Ended addr found) tt) before

  there_so : (d : DeviceSetup) (past news : List Entry) (s : Step) →
      ((e : Entry) (m : Met) (ls : List Line) → Comes d (met d past) s e m ls → P past e) →
      AtDevice capacity setup d past s news → EachEntry P past → EachEntry P (news ++ past)
  there_so d past _ _ comes_so (came s e m ls comes) before = (comes_so e m ls comes, before)
  there_so d past _ _ comes_so (took s c gives suited here is_free is_taken is_owed lets) before = (others _ _ tt, before)
  there_so d past _ _ comes_so (halted paying can) before = (others _ _ tt, before)
  there_so d past _ _ comes_so (idled is_free) before = (others _ _ tt, before)
  there_so d past _ _ comes_so (made_exchange c since q at_work is_row) before =
      with_end_so past d.addr _ (wire_end setup d past c since q) (wires past d.addr (ask d.kind d.addr q)) before
  there_so d past _ _ comes_so (made_put c since r at_work is_row) before =
      with_end_so past d.addr (entry.Put r) (record_end d past c since r) (others _ _ tt) before

  pub step_so : (past news : List Entry) (s : Step) →
      ((d : DeviceSetup) (e : Entry) (m : Met) (ls : List Line) → IsOf setup d → Comes d (met d past) s e m ls → P past e) →
      P past (entry.Balance (totals setup past)) → Brought capacity setup past s news → EachEntry P past →
      EachEntry P (news ++ past)
  step_so past _ _ comes_so told (of_device d s news own there) before = there_so d past news s (λ e m ls. comes_so d e m ls own) there before
  step_so past _ _ comes_so told (faulted f) before = (others _ _ tt, before)
  step_so past _ _ comes_so told (refused c why was) before = (others _ _ tt, before)
  step_so past _ _ comes_so told (began_scan is_free) before = (others _ _ tt, before)
  step_so past _ _ comes_so told (began_sale id price is_free lets) before = (others _ _ tt, before)
  step_so past _ _ comes_so told (nobody addr none) before = (others _ _ tt, before)
  step_so past _ _ comes_so told (polled c since check addr none is_job is_row) before =
      with_end_so past 0 _ (poll_end setup past since check addr) (wires past 0 (ask check addr (poll_of addr))) before
  step_so past _ _ comes_so told (sold id price since none selling) before = (others _ _ tt, (others _ _ tt, before))
  step_so past _ _ comes_so told balanced before = (told, before)
  step_so past _ _ comes_so told (of_desk s e is) before = (others past e (desk_beside s e is), before)
  step_so past _ _ comes_so told (ended_short addr id count why paid rest small range was) before =
      (others _ _ tt, (others _ _ tt, before))
  step_so past _ _ comes_so told (lost_power at choice) before = (others _ _ tt, before)
  step_so past _ _ comes_so told (lost_in_put at choice d c since r own at_work is_row) before =
      (others _ _ tt, (others _ _ tt, before))
  step_so past _ _ comes_so told (lost_in_sale at choice id price since none selling) before =
      (others _ _ tt, (others _ _ tt, before))
