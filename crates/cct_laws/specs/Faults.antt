-- What an exchange without the wanted reply shows: that a fault was set for it.
use Rattle.std.specs.Prelude.{◌≡◌, ◌≢◌, ℕ, zero, suc, ◌==◌, Bool, true, false, List, [], ◌∷◌}
use Rattle.std.specs.Prelude.{Option, Some, None, MatchBool, ⊤}
use Rattle.cct_model.specs.terms.device.DeviceSetup.{DeviceSetup}
use Rattle.cct_model.specs.terms.request.Request.{Request}
use Rattle.cct_model.specs.terms.request.Request.TheVariants.{RouteBill, Dispense}
use Rattle.cct_model.specs.lines.command.Command.{Command}
use Rattle.cct_model.specs.lines.command.Command.TheVariants as command
use Rattle.cct_model.specs.lines.command.WireFault.TheVariants.{Clear}
use Rattle.cct_model.specs.lines.entry.End.TheVariants.{NoAnswer}
use Rattle.cct_model.specs.lines.entry.Entry.{Entry}
use Rattle.cct_model.specs.lines.entry.Entry.TheVariants as entry
use Rattle.cct_model.specs.Exchange.{asked, after_echo}
use Rattle.cct_model.specs.Job.{address_of}
use Rattle.cct_model.specs.Transcript.{pending, got_by}

-- A fault is set for the next exchange.
abbrev pub IsFaultSet : List Entry → Type 0
IsFaultSet past = pending past ≢ Clear

-- An exchange at a device's address that didn't get the wanted reply is where a fault was set.
abbrev pub FailsByFault : DeviceSetup → List Entry → Entry → Type 0
FailsByFault d past (entry.Wire addr sent piece) =
    addr ≡ d.addr → got_by d sent piece ≡ None → IsFaultSet past
FailsByFault d past e = ⊤

-- A device may refuse what it is asked: a hopper a dispense, and a bill acceptor to route a bill.
abbrev pub may_be_refused : Option Request → Bool
may_be_refused (Some (Dispense serial count)) = true
may_be_refused (Some (RouteBill way)) = true
may_be_refused asks = false

-- The same, but for exchanges that ask what is excused.
abbrev pub FailsByFaultBut : (Option Request → Bool) → DeviceSetup → List Entry → Entry → Type 0
FailsByFaultBut excused d past (entry.Wire addr sent piece) =
    addr ≡ d.addr → excused (asked d.kind sent) ≡ false → got_by d sent piece ≡ None →
    IsFaultSet past
FailsByFaultBut excused d past e = ⊤

-- An exchange in which the host didn't hear its own echo is where a fault was set.
abbrev pub EchoFailsByFault : List Entry → Entry → Type 0
EchoFailsByFault past (entry.Wire addr sent piece) = after_echo sent piece ≡ None → IsFaultSet past
EchoFailsByFault past e = ⊤

-- A command begins a job at an address; a halt goes to the job that is there.
abbrev pub begins : ℕ → Command → Bool
begins addr (command.Halt other) = false
begins addr c = address_of c == addr

-- The job at an address made so many exchanges, and its newest ones, so many, each stand where a
-- fault was set.
abbrev pub AreFaulted : ℕ → ℕ → List Entry → Type 0
AreFaulted addr zero past = ⊤
AreFaulted addr (suc many) [] = ⊥
AreFaulted addr (suc many) (entry.Wire other sent piece ∷ past) =
    MatchBool (other == addr) (IsFaultSet past × AreFaulted addr many past)
    (AreFaulted addr (suc many) past)
AreFaulted addr (suc many) (entry.Taken c ∷ past) =
    MatchBool (begins addr c) ⊥ (AreFaulted addr (suc many) past)
AreFaulted addr (suc many) (e ∷ past) = AreFaulted addr (suc many) past

-- Where a job at an address ends for want of an answer, its last three exchanges each stand where a
-- fault was set.
abbrev pub EndsByFaults : ℕ → List Entry → Entry → Type 0
EndsByFaults addr past (entry.Ended other NoAnswer) = other ≡ addr → AreFaulted addr 3 past
EndsByFaults addr past e = ⊤
