-- What an exchange shows.
use Rattle.std.specs.Prelude.{◌≡◌, ◌⊎◌, ⊤, ℕ, ◌+◌, ◌==◌, ◌&&◌, ◌||◌, not, Bool, true, false, List}
use Rattle.std.specs.Prelude.{[], ◌∷◌, length, take, drop, Option, None, Some, is_none, bytes_eq}
use Rattle.std.specs.Prelude.{if◌then◌else◌}
use Rattle.cct_model_wire.specs.declared.device.DeviceSetup.{DeviceSetup}
use Rattle.cct_model_wire.specs.declared.wire.TheConstants.{MOST_HEARD}
use Rattle.cct_model_wire.specs.Exchange.{is_for_host}
use Rattle.cct_model_wire.specs.Message.{Message, message}
use Rattle.cct_probe_plan.specs.declared.judging.Shown.{Shown}
use Rattle.cct_probe_plan.specs.declared.judging.Shown.TheVariants as shown
use Rattle.cct_probe_plan.specs.declared.memory.Memory.{Memory}
use Rattle.cct_probe_plan.specs.declared.plan.Expected.{Expected}
use Rattle.cct_probe_plan.specs.declared.plan.Expected.TheVariants as expected
use Rattle.cct_probe_plan.specs.declared.plan.Told.{Told}
use Rattle.cct_probe_plan.specs.declared.plan.Told.TheVariants as told_of
use Rattle.cct_probe_plan.specs.declared.plan.Want.{Want}
use Rattle.cct_probe_plan.specs.declared.plan.Want.TheVariants as want
use Rattle.cct_probe_plan.specs.declared.premise.Common.TheVariants as common
use Rattle.cct_probe_plan.specs.declared.premise.Premise.{Premise}
use Rattle.cct_probe_plan.specs.declared.premise.Premise.TheVariants as premise
use Rattle.cct_probe_plan.specs.declared.values.Fits.{Fits}
use Rattle.cct_probe_plan.specs.declared.values.Fits.TheVariants as fits
use Rattle.cct_probe_plan.specs.Saying.{place_of}
use Rattle.cct_probe_plan.specs.Values.{counter_after, counter_in, fit_of, id_at, kept_by}

-- An exchange shows no premise broken.
abbrev pub BreaksNone : Shown → Type 0
BreaksNone shown.Right = ⊤
BreaksNone (shown.Silence premise) = ⊤
BreaksNone shown.Untold = ⊤
BreaksNone shown.Refused = ⊤
BreaksNone (shown.Broken premise) = ⊥

-- A premise that any exchange may show broken, whatever it tries.
abbrev pub IsOfEach : Premise → Type 0
IsOfEach (premise.Common common.Answers) = ⊤
IsOfEach (premise.Common common.Prompt) = ⊤
IsOfEach (premise.Common common.Once) = ⊤
IsOfEach (premise.Common common.Alone) = ⊤
IsOfEach (premise.Common common.Form) = ⊤
IsOfEach this = ⊥

-- A premise is the one that is tried, or one that any exchange may show broken.
abbrev pub IsTried : Premise → Premise → Type 0
IsTried tried this = (this ≡ tried) ⊎ IsOfEach this

-- If an exchange shows a premise broken, or that no byte came, it names one of these.
abbrev pub NamesTried : Premise → Shown → Type 0
NamesTried tried (shown.Silence this) = IsTried tried this
NamesTried tried (shown.Broken this) = IsTried tried this
NamesTried tried other = ⊤

-- Right, or a premise is broken.
abbrev pub right_if : Bool → Premise → Shown
right_if true this = shown.Right
right_if false this = shown.Broken this

-- No byte.
abbrev pub is_none_heard : List ℕ → Bool
is_none_heard bytes = length bytes == 0

-- The message to the host from the device at an address, or from nobody named.
abbrev pub to_host : ℕ → Option Message → Option Message
to_host addr None = None
to_host addr (Some m) = if is_for_host addr m then Some m else None

-- The message to the host from a device that bytes are, under its check.
abbrev pub answer_in : DeviceSetup → List ℕ → Option Message
answer_in d bytes = to_host d.addr (message d.kind bytes)

-- As many bytes as the first message of these says that it has, and the others.
abbrev pub first_part : List ℕ → List ℕ
first_part (to ∷ many ∷ more) = take (many + 5) (to ∷ many ∷ more)
first_part bytes = bytes

-- What is heard after that.
abbrev pub other_part : List ℕ → List ℕ
other_part (to ∷ many ∷ more) = drop (many + 5) (to ∷ many ∷ more)
other_part bytes = []

-- Bytes are the same twice.
abbrev pub is_twice : List ℕ → Bool
is_twice bytes = bytes_eq (first_part bytes) (other_part bytes)

-- A premise is that a reply comes once.
abbrev pub is_once : Premise → Bool
is_once (premise.Common common.Once) = true
is_once this = false

-- One of two equal messages, unless it is tried whether a reply comes once; else all bytes.
abbrev pub single : Premise → List ℕ → List ℕ
single tried bytes = if is_twice bytes && not (is_once tried) then first_part bytes else bytes

-- Which premise is broken where bytes aren't one message: two equal ones are a reply that comes
-- twice, and two others are of two devices.
abbrev pub malformed : DeviceSetup → List ℕ → Premise
malformed d bytes =
    if is_none (answer_in d (first_part bytes)) || is_none (answer_in d (other_part bytes))
    then premise.Common common.Form
    else if is_twice bytes then premise.Common common.Once
    else premise.Common common.Alone

-- What data show by what they are against what is expected.
abbrev pub shown_as : Premise → Fits → Shown
shown_as tried fits.Yes = shown.Right
shown_as tried fits.Others = shown.Broken tried
shown_as tried fits.Form = shown.Broken (premise.Common common.Form)

-- A message has another header than 0.
abbrev pub is_other : Option Message → Bool
is_other None = false
is_other (Some m) = not (m.header == 0)

-- The data of a message with header 0.
abbrev pub data_in : Option Message → Option (List ℕ)
data_in None = None
data_in (Some m) = if m.header == 0 then Some m.body else None

-- What is kept by such data, if there are any.
abbrev pub kept_of : Expected → Option (List ℕ) → Memory → Memory
kept_of this None memory = memory
kept_of this (Some bytes) memory = kept_by this bytes memory

-- Bytes are those that came last.
abbrev pub is_again : Memory → List ℕ → Bool
is_again memory bytes = not (is_none_heard bytes) && bytes_eq bytes memory.reply.items

-- No reply may come; nothing, or a message with another header, may.
abbrev pub other_shows : DeviceSetup → Premise → List ℕ → Option Message → Shown
other_shows d tried bytes None = shown.Broken (malformed d bytes)
other_shows d tried bytes (Some m) = right_if (not (m.header == 0)) tried

-- What it shows where a device refused.
abbrev pub refusal_shows : DeviceSetup → Premise → List ℕ → Shown
refusal_shows d tried bytes =
    if is_none_heard bytes then shown.Right
    else other_shows d tried bytes (answer_in d (single tried bytes))

-- Bytes are a message with another header than 0.
abbrev pub is_refused : DeviceSetup → Premise → List ℕ → Bool
is_refused d tried bytes = is_other (answer_in d (single tried bytes))

-- The setup has no bill of the place of a round.
abbrev pub has_none : DeviceSetup → ℕ → Told → Bool
has_none d round told_of.Bill = is_none (id_at d.body (place_of round))
has_none d round told = false

-- What it shows that this isn't reported: right, if the setup has no bill of that place.
abbrev pub untold : DeviceSetup → ℕ → Told → Shown → Shown
untold d round told this = if has_none d round told then shown.Right else this

-- What is kept of a reply.
abbrev pub reply_keeps : DeviceSetup → Premise → Memory → Expected → List ℕ → Memory
reply_keeps d tried memory this bytes =
    if is_none_heard bytes then memory
    else kept_of this (data_in (answer_in d (single tried bytes))) memory

-- Bytes don't begin with the echo: where none came at all nobody answered, else the form is broken.
abbrev pub unechoed : List ℕ → Shown
unechoed bytes =
    if is_none_heard bytes then shown.Silence (premise.Common common.Answers)
    else shown.Broken (premise.Common common.Form)

-- A counter, if there is one, unless it is this one.
abbrev pub counter_unless : ℕ → Option ℕ → Option ℕ
counter_unless awaited None = None
counter_unless awaited (Some counter) = if counter == awaited then None else Some counter

-- The event counter that data show.
abbrev pub counter_of : Option (List ℕ) → Option ℕ
counter_of None = None
counter_of (Some bytes) = counter_in bytes

-- The event counter that a reply gives, if so many events more than those kept didn't come yet.
abbrev pub counter_before : ℕ → DeviceSetup → Premise → Memory → Option (List ℕ) → Option ℕ
counter_before more d tried memory None = None
counter_before more d tried memory (Some bytes) =
    counter_unless (counter_after memory.counter more) (counter_of (data_in (answer_in d (single tried bytes))))

-- at a device, in a round of a trial of this premise, by what is kept of the device
module _ (d : DeviceSetup) (round : ℕ) (tried : Premise) (memory : Memory) where
  -- What a message shows where a reply has to come.
  abbrev pub message_shows : Expected → List ℕ → Option Message → Shown
  message_shows this bytes None = shown.Broken (malformed d bytes)
  message_shows this bytes (Some m) =
      if m.header == 0 then shown_as tried (fit_of this d round memory m.body)
      else shown.Broken (premise.Common common.Form)

  -- A reply has to come.
  abbrev pub reply_shows : Expected → List ℕ → Shown
  reply_shows this bytes =
      if is_none_heard bytes then shown.Silence (premise.Common common.Answers)
      else message_shows this bytes (answer_in d (single tried bytes))

  -- A reply has to come, but where the device need not know what it is asked.
  abbrev pub told_shows : Told → List ℕ → Shown
  told_shows told bytes =
      if is_none_heard bytes then untold d round told shown.Untold
      else if is_refused d tried bytes then untold d round told shown.Refused
      else reply_shows (expected.Said told) bytes

  -- An acknowledgement has to come, by which the device shows that it hears.
  abbrev pub well_shows : List ℕ → Shown
  well_shows bytes =
      if is_none_heard bytes then shown.Silence tried else reply_shows expected.Ack bytes

  -- What the bytes after the echo show, by what had to come.
  abbrev pub shown_by : Want → List ℕ → Shown
  shown_by want.Silence bytes = right_if (is_none_heard bytes) tried
  shown_by want.Refusal bytes = refusal_shows d tried bytes
  shown_by want.NotAgain bytes =
      right_if (not (is_again memory bytes)) (premise.Common common.Once)
  shown_by want.NobodyElse bytes =
      right_if (is_none_heard bytes || is_again memory bytes) (premise.Common common.Alone)
  shown_by (want.Reply this) bytes = reply_shows this bytes
  shown_by (want.IfTold told) bytes = told_shows told bytes
  shown_by want.Well bytes = well_shows bytes
  shown_by want.Taken bytes =
      if is_refused d tried bytes then shown.Refused else reply_shows expected.Ack bytes

  -- What is then kept, but for the bytes.
  abbrev pub kept_after : Want → List ℕ → Memory
  kept_after (want.Reply this) bytes = reply_keeps d tried memory this bytes
  kept_after this bytes = memory

  -- What an exchange shows by all bytes that were heard and by those after its echo.
  abbrev pub judged : Want → List ℕ → Option (List ℕ) → Shown
  judged this heard None = unechoed heard
  judged this heard (Some bytes) = shown_by this bytes

  -- What is then kept, but for the bytes.
  abbrev pub kept_judged : Want → Option (List ℕ) → Memory
  kept_judged this None = memory
  kept_judged this (Some bytes) = kept_after this bytes

-- The numbers that are kept of a device.
abbrev pub numbers_of : Memory → ℕ × Option ℕ × Option ℕ × ℕ × ℕ
numbers_of memory = (memory.gap, memory.first, memory.last, memory.count, memory.counter)

-- The bytes that are kept: those after the last echo of something that was sent.
abbrev pub reply_after : List ℕ → Option (List ℕ) → List ℕ → List ℕ
reply_after sent None before = before
reply_after sent (Some bytes) before =
    if is_none_heard sent then before else take MOST_HEARD bytes
