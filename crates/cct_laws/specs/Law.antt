-- Words of the laws: a device of a setup and its lines, a fact of each entry, an answered exchange,
-- steps that say bytes.
use Rattle.std.specs.Prelude.{◌≡◌, ◌<◌, true, List, [], ◌∷◌, ◌++◌, Some, None, ⊤}
use Rattle.std.specs.List.{All}
use Rattle.cct_model.specs.terms.device.DeviceSetup.{DeviceSetup}
use Rattle.cct_model.specs.terms.device.Setup.{Setup}
use Rattle.cct_model.specs.terms.request.Request.{Request}
use Rattle.cct_model.specs.lines.command.Command.{Command}
use Rattle.cct_model.specs.lines.command.Command.TheVariants as command
use Rattle.cct_model.specs.lines.command.Step.{Step}
use Rattle.cct_model.specs.lines.command.Step.TheVariants as step
use Rattle.cct_model.specs.lines.entry.Entry.{Entry}
use Rattle.cct_model.specs.Reply.{Reply}
use Rattle.cct_model.specs.Device.{reply_of}
use Rattle.cct_model.specs.Exchange.{ask, device_at}
use Rattle.cct_model.specs.Line.{Line}
use Rattle.cct_model.specs.Job.{address_of}
use Rattle.cct_model.specs.Legal.{is_played}
use Rattle.cct_model.specs.Script.{IsInRange}
use Rattle.cct_model.specs.Transcript.{met, lines_of, heard_after, got_by, onto}
use Rattle.cct_text.specs.Written.{IsFault}

-- The device is the one of a setup at its address.
abbrev pub IsOf : Setup → DeviceSetup → Type 0
IsOf setup d = device_at setup.devices d.addr ≡ Some d

-- The lines of a device's address, newest first, in a transcript, which is oldest first.
abbrev pub lines_in : DeviceSetup → List Entry → List Line
lines_in d transcript = lines_of d (onto [] transcript)

-- A fact of each entry and all that came before it.
abbrev pub EachEntry : (List Entry → Entry → Type 0) → List Entry → Type 0
EachEntry P [] = ⊤
EachEntry P (e ∷ past) = P past e × EachEntry P past

-- An exchange in which a device is asked something is answered: the device replies, and the host
-- gets that reply in the form that the request wants.
abbrev pub IsAnswered : Setup → DeviceSetup → List Entry → Request → Type 0
IsAnswered setup d past q =
    (y : Reply) × (reply_of d (met d past) q ≡ Some y) ×
    (got_by d (ask d.kind d.addr q) (heard_after setup past (ask d.kind d.addr q)) ≡ Some y)

-- In an exchange in which a device is asked something the host gets no reply.
abbrev pub IsUnanswered : Setup → DeviceSetup → List Entry → Request → Type 0
IsUnanswered setup d past q =
    got_by d (ask d.kind d.addr q) (heard_after setup past (ask d.kind d.addr q)) ≡ None

-- The address of a command is a byte, and the mask of a start has 16 bits. Ids, counts and prices
-- are any numbers.
abbrev pub IsCommandOfBytes : Command → Type 0
IsCommandOfBytes (command.Start addr mask) = (addr < 256) × (mask < 65536)
IsCommandOfBytes c = address_of c < 256

-- What a step sends or shows in bytes is such: the address of a `next`, the address and the mask of
-- a command, and the bytes of a fault.
abbrev pub HasBytes : Step → Type 0
HasBytes (step.Next addr) = addr < 256
HasBytes (step.Command c) = IsCommandOfBytes c
HasBytes (step.Fault f) = IsFault f
HasBytes s = ⊤

-- Steps that a script can have today: they are in range, say bytes and are played.
pub record AreOfToday (steps : List Step) : Type 0 where
  pub in_range : All IsInRange steps
  pub bytes : All HasBytes steps
  pub played : All (λ s. is_played s ≡ true) steps

-- Devices stand in strictly rising order of address: each has a lower one than all after it.
abbrev pub AreRising : List DeviceSetup → Type 0
AreRising [] = ⊤
AreRising (d ∷ devices) = All (λ e. d.addr < e.addr) devices × AreRising devices

-- A step is no power cut that names a put, so a disk has no choice in it.
abbrev pub NamesNoPut : Step → Type 0
NamesNoPut (step.Crash (Some at) choice) = ⊥
NamesNoPut s = ⊤

-- A transcript, oldest entry first, begins another.
abbrev pub Begins : List Entry → List Entry → Type 0
Begins shorter longer = (rest : List Entry) × (longer ≡ shorter ++ rest)
