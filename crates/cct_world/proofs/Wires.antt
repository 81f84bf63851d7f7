-- What one step leaves of the bus.
use Rattle.std.proofs.Common.{◌≡◌, ◌∷◌, ◌++◌, ◌∙◌, ℕ, Bool, true, false, List, Option, Some, None, All, ap, refl, subst, sym}
use Rattle.cct_model.specs.terms.device.DeviceSetup.{DeviceSetup}
use Rattle.cct_model.specs.lines.record.Record.{Record}
use Rattle.cct_model.specs.lines.command.Command.{Command}
use Rattle.cct_model.specs.lines.command.CommandNo.{CommandNo}
use Rattle.cct_model.specs.lines.entry.End.{End}
use Rattle.cct_model.specs.lines.entry.Entry.{Entry}
use Rattle.cct_model.specs.lines.entry.Entry.TheVariants as entry
use Rattle.cct_model.specs.lines.entry.Totals.{Totals}
use Rattle.cct_model.specs.Legal.{command_entry, with_end}
use Rattle.cct_model.specs.History.{Met}
use Rattle.cct_model.specs.Honest.{was_forged}
use Rattle.cct_model.specs.Transcript.{heard_after, met, pending}
use Rattle.cct_bus.specs.declared.bus.Bus.{Bus}
use Rattle.cct_bus.specs.Bus as wires
use Rattle.cct_bus.specs.Device.{Stands}
use Rattle.cct_host.specs.Restarting.{told_by}
use Rattle.cct_host.specs.Attempt.{Attempt, HeardBy, Links, asked, idle, news_of, put}
use Rattle.cct_world.specs.Forged.{forged_told}

-- all that devices met is the same
abbrev pub SameMet : List Entry → List Entry → Type 0
SameMet past later = ◌≡◌ {A = DeviceSetup → List Met} (λ d. met d later) (λ d. met d past)

-- what leaves all that the devices met, the fault that is set and the last exchange as they were
pub still : {bus : Bus} {past later : List Entry} → wires.StandsFor bus past → SameMet past later
    → pending later ≡ pending past → was_forged later ≡ was_forged past → wires.StandsFor bus later
still {bus} s same fault forged = record {
  sound = s.sound;
  order = s.order;
  devices = subst (λ history. All (Stands history) bus.devices.items) (sym same) s.devices;
  fault = s.fault ∙ sym fault;
  forged = s.forged ∙ sym forged;
}

-- an end, an idle address, a record, a command, a balance and that an exchange was forged change nothing on the wire
ended_wire : (bus : Bus) (past : List Entry) (addr : ℕ) (end : End) → wires.StandsFor bus past
    → wires.StandsFor bus (entry.Ended addr end ∷ past)
ended_wire bus past addr end s = still s refl refl refl

idle_wire : (bus : Bus) (past : List Entry) (addr : ℕ) → wires.StandsFor bus past
    → wires.StandsFor bus (entry.Idle addr ∷ past)
idle_wire bus past addr s = still s refl refl refl

put_wire : (bus : Bus) (past : List Entry) (r : Record) → wires.StandsFor bus past
    → wires.StandsFor bus (entry.Put r ∷ past)
put_wire bus past r s = still s refl refl refl

pub command_wire : (bus : Bus) (past : List Entry) (c : Command) (refused : Option CommandNo) → wires.StandsFor bus past
    → wires.StandsFor bus (command_entry c refused ∷ past)
command_wire bus past c None s = still s refl refl refl
command_wire bus past c (Some why) s = still s refl refl refl

pub balance_wire : (bus : Bus) (past : List Entry) (t : Totals) → wires.StandsFor bus past
    → wires.StandsFor bus (entry.Balance t ∷ past)
balance_wire bus past t s = still s refl refl refl

pub told_wire : (bus : Bus) (past : List Entry) (was : Bool) (found : Option ℕ) → wires.StandsFor bus past
    → wires.StandsFor bus (forged_told was found ++ past)
told_wire bus past was None s = s
told_wire bus past false (Some addr) s = s
told_wire bus past true (Some addr) s = still s refl refl refl

pub crash_wire : (bus : Bus) (past : List Entry) (many : ℕ) (kept : Option Record) → wires.StandsFor bus past
    → wires.StandsFor bus (told_by many kept ++ past)
crash_wire bus past many None s = still s refl refl refl
crash_wire bus past many (Some r) s = still s refl refl refl

with_end_wire : (bus : Bus) (past : List Entry) (addr : ℕ) (e : Entry) (end : Option End)
    → wires.StandsFor bus (e ∷ past) → wires.StandsFor bus (with_end addr e end ++ past)
with_end_wire bus past addr e None s = s
with_end_wire bus past addr e (Some end) s = ended_wire bus (e ∷ past) addr end s

-- an attempt on the bus
pub link_setup : (bus after : Bus) (what : Attempt) → Links wires.Exchanges bus after what
    → wires.setup_of after ≡ wires.setup_of bus
link_setup bus after idle link = ap wires.setup_of link
link_setup bus after (asked sent heard end) link = link.0
link_setup bus after (put r end) link = ap wires.setup_of link

-- what an attempt leaves on the bus, and that it heard what the bus gave
pub linked : (bus after : Bus) (addr : ℕ) (past : List Entry) (what : Attempt) → Links wires.Exchanges bus after what
    → wires.StandsFor bus past
    → HeardBy (heard_after (wires.setup_of bus) past) what × wires.StandsFor after (news_of addr what ++ past)
linked bus after addr past idle link stands =
    (tt, subst (λ b. wires.StandsFor b (entry.Idle addr ∷ past)) (sym link) (idle_wire bus past addr stands))
linked bus after addr past (asked sent heard end) link stands =
    let wire = link.1 past addr stands in
    (wire.0, with_end_wire after past addr (entry.Wire addr sent heard) end wire.1)
linked bus after addr past (put r end) link stands = (
  tt,
  subst (λ b. wires.StandsFor b (with_end addr (entry.Put r) end ++ past)) (sym link)
      (with_end_wire bus past addr (entry.Put r) end (put_wire bus past r stands)),
)
