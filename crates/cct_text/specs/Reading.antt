-- Reading a transcript back: the entry of a line, and the entries of a text.
use Rattle.std.specs.Prelude.{ℕ, ◌+◌, ◌*◌, ◌==◌, ◌&&◌, Bool, true, false, List, [], ◌∷◌}
use Rattle.std.specs.Prelude.{if◌then◌else◌, map, Option, Some, None, codes}
use Rattle.std.specs.List.{filter_map, slice_split}
use Rattle.std.specs.Result.{result_unwrap_or}
use Rattle.std.specs.Str.{bytes_eq}
use Rattle.std.specs.Str.Parse.{digits_value}
use Rattle.hex.specs.Hex.{decode_of}
use Rattle.cct_model_lines.specs.terms.coin.Coin.{Coin}
use Rattle.cct_model_lines.specs.declared.record.Record.{Record}
use Rattle.cct_model_lines.specs.declared.record.Record.TheVariants as record_of
use Rattle.cct_model_lines.specs.declared.command.Command.{Command}
use Rattle.cct_model_lines.specs.declared.shape.Field.{Field}
use Rattle.cct_model_lines.specs.declared.shape.Field.TheVariants.{Nothing, Number, Mask}
use Rattle.cct_model_lines.specs.Shape.{Shape, commands, shape_named}
use Rattle.cct_model_lines.specs.Grammar.{◌>>=◌}
use Rattle.cct_model_lines.specs.declared.command.CommandNo.{CommandNo}
use Rattle.cct_model_lines.specs.declared.command.CommandNo.TheVariants as refusal
use Rattle.cct_model_lines.specs.declared.command.WireFault.{WireFault}
use Rattle.cct_model_lines.specs.declared.command.WireFault.TheVariants as fault
use Rattle.cct_model_lines.specs.declared.entry.Listed.{Listed}
use Rattle.cct_model_lines.specs.declared.entry.End.TheVariants as end_of
use Rattle.cct_model_lines.specs.declared.entry.LineKind.{LineKind}
use Rattle.cct_model_lines.specs.declared.entry.LineKind.TheVariants as kind
use Rattle.cct_model_lines.specs.declared.entry.Said.TheVariants as said_of
use Rattle.cct_model_lines.specs.declared.entry.Entry.{Entry}
use Rattle.cct_model_lines.specs.declared.entry.Entry.TheVariants as entry
use Rattle.cct_model_lines.specs.DeviceSet.{all_addresses}

-- The parts of bytes between those that are a byte.
abbrev pub parts_at : ℕ → List ℕ → List (List ℕ)
parts_at byte bytes = slice_split (λ b. b == byte) bytes

-- The number of a field.
abbrev pub number_in : List ℕ → ℕ
number_in field = digits_value 10 field

-- The bytes of a field in hexadecimal; none where the field isn't such, as a hyphen.
abbrev pub piece_in : List ℕ → List ℕ
piece_in field = result_unwrap_or (decode_of field) []

-- The number of two bytes, the high one first.
abbrev pub mask_of : List ℕ → ℕ
mask_of (high ∷ low ∷ rest) = high * 256 + low
mask_of _ = 0

-- The inhibit mask of a field.
abbrev pub mask_in : List ℕ → ℕ
mask_in field = mask_of (piece_in field)

-- The coin of two numbers.
abbrev pub coin_of : List (List ℕ) → Option Coin
coin_of (place ∷ path ∷ []) = Some (record { place = number_in place; path = number_in path })
coin_of _ = None

-- The coins of a field.
abbrev pub coins_in : List ℕ → List Coin
coins_in field = filter_map (λ text. coin_of (parts_at 47 text)) (parts_at 44 field)

-- An address of a list, and whether it has the simple check.
pub record Device : Type 0 where
  pub addr : ℕ
  pub is_simple : Bool

-- The device of an address and a check.
abbrev pub device_of : List (List ℕ) → Option Device
device_of (addr ∷ check ∷ []) = Some (record { addr = number_in addr; is_simple = bytes_eq check (codes "simple") })
device_of _ = None

-- The devices of a field.
abbrev pub devices_in : List ℕ → List Device
devices_in field = filter_map (λ text. device_of (parts_at 47 text)) (parts_at 44 field)

-- Whether an address is in a list with the check.
abbrev pub is_listed : Bool → List Device → ℕ → Bool
is_listed is_simple [] addr = false
is_listed is_simple (device ∷ devices) addr =
    if device.addr == addr && (if is_simple then device.is_simple else
    (if device.is_simple then false else true)) then true else is_listed is_simple devices addr

-- The devices listed in a field.
abbrev pub listed_in : List ℕ → Listed
listed_in field = record {
  simple = record { members = map (is_listed true (devices_in field)) all_addresses };
  crc = record { members = map (is_listed false (devices_in field)) all_addresses };
}

-- What is made of one number, where there is just one.
abbrev pub of_one : {A : Type 0} → (ℕ → A) → List (List ℕ) → Option A
of_one make (a ∷ []) = Some (make (number_in a))
of_one make _ = None

-- What is made of two numbers, where there are just two.
abbrev pub of_two : {A : Type 0} → (ℕ → ℕ → A) → List (List ℕ) → Option A
of_two make (a ∷ b ∷ []) = Some (make (number_in a) (number_in b))
of_two make _ = None

-- What is made of three numbers, where there are just three.
abbrev pub of_three : {A : Type 0} → (ℕ → ℕ → ℕ → A) → List (List ℕ) → Option A
of_three make (a ∷ b ∷ c ∷ []) = Some (make (number_in a) (number_in b) (number_in c))
of_three make _ = None

-- What is made of four numbers, where there are just four.
abbrev pub of_four : {A : Type 0} → (ℕ → ℕ → ℕ → ℕ → A) → List (List ℕ) → Option A
of_four make (a ∷ b ∷ c ∷ d ∷ []) =
    Some (make (number_in a) (number_in b) (number_in c) (number_in d))
of_four make _ = None

-- What is made of five numbers, where there are just five.
abbrev pub of_five : {A : Type 0} → (ℕ → ℕ → ℕ → ℕ → ℕ → A) → List (List ℕ) → Option A
of_five make (a ∷ b ∷ c ∷ d ∷ e ∷ []) =
    Some (make (number_in a) (number_in b) (number_in c) (number_in d) (number_in e))
of_five make _ = None

-- A value, where no field is left.
abbrev pub of_none : {A : Type 0} → A → List (List ℕ) → Option A
of_none value [] = Some value
of_none value _ = None

-- What is made of one piece, where there is just one.
abbrev pub of_piece : {A : Type 0} → (List ℕ → A) → List (List ℕ) → Option A
of_piece make (a ∷ []) = Some (make (piece_in a))
of_piece make _ = None

-- What a value is made into, where there is one.
abbrev pub made : {A B : Type 0} → (A → B) → Option A → Option B
made make None = None
made make (Some value) = Some (make value)

-- The first of two where there is one, and else the second.
abbrev pub either : {A : Type 0} → Option A → Option A → Option A
either None second = second
either (Some first) second = Some first

-- The record of its fields: an address, a mask, and an accept counter.
abbrev pub epoch_of : List (List ℕ) → Option Record
epoch_of (addr ∷ mask ∷ accepts ∷ []) =
    Some (record_of.Epoch (number_in addr) (mask_in mask) (number_in accepts))
epoch_of _ = None

-- The record of its fields: an address, an event counter, how many coins are lost, an accept
-- counter, and coins.
abbrev pub reading_of : List (List ℕ) → Option Record
reading_of (addr ∷ counter ∷ lost ∷ accepts ∷ coins ∷ []) =
    Some (record_of.Reading (number_in addr) (number_in counter) (number_in lost)
    (number_in accepts) (coins_in coins))
reading_of _ = None

-- The record of its fields: an address, a mask, an event counter, how many coins are lost, an
-- accept counter, and coins.
abbrev pub broken_of : List (List ℕ) → Option Record
broken_of (addr ∷ mask ∷ counter ∷ lost ∷ accepts ∷ coins ∷ []) =
    Some (record_of.Broken (number_in addr) (mask_in mask) (number_in counter) (number_in lost)
    (number_in accepts) (coins_in coins))
broken_of _ = None

-- The record of a word and the fields after it.
abbrev pub record_by : List ℕ → List (List ℕ) → Option Record
record_by word rest =
    if bytes_eq word (codes "epoch") then epoch_of rest
    else if bytes_eq word (codes "reading") then reading_of rest
    else if bytes_eq word (codes "broken") then broken_of rest
    else if bytes_eq word (codes "epochend") then of_one record_of.EpochEnd rest
    else if bytes_eq word (codes "opened") then of_four record_of.Opened rest
    else if bytes_eq word (codes "closed") then of_three record_of.Closed rest
    else if bytes_eq word (codes "odd") then of_three record_of.Odd rest
    else if bytes_eq word (codes "sold") then of_two record_of.Sold rest
    else None

-- The record of its fields.
abbrev pub record_in : List (List ℕ) → Option Record
record_in [] = None
record_in (word ∷ rest) = record_by word rest

-- A command, and the fields after those of the command.
abbrev pub Ordered : Type 0
Ordered = Command × List (List ℕ)

-- The number of a field like this one, whatever it is, and the fields after it.
abbrev pub number_first : Field → List (List ℕ) → Option (ℕ × List (List ℕ))
number_first Nothing fields = Some (0, fields)
number_first (Number number least most) (field ∷ fields) = Some (number_in field, fields)
number_first (Mask mask) (field ∷ fields) = Some (mask_in field, fields)
number_first field [] = None

-- The command of a shape with the numbers of the fields, and the fields after those.
abbrev pub ordered_by : Shape → List (List ℕ) → Option Ordered
ordered_by s fields = do
  first ← number_first s.first fields
  second ← number_first s.second first.1
  third ← number_first s.third second.1
  Some (s.made first.0 second.0 third.0, third.1)

-- The command that fields begin with.
abbrev pub command_in : List (List ℕ) → Option Ordered
command_in [] = None
command_in (word ∷ rest) = shape_named commands word >>= (λ s. ordered_by s rest)

-- The reason of a word and the fields after it.
abbrev pub reason_by : List ℕ → List (List ℕ) → Option CommandNo
reason_by word rest =
    if bytes_eq word (codes "nodevice") then of_none refusal.NoDevice rest
    else if bytes_eq word (codes "wrongkind") then of_none refusal.WrongKind rest
    else if bytes_eq word (codes "busy") then of_none refusal.Busy rest
    else if bytes_eq word (codes "epochruns") then of_none refusal.EpochRuns rest
    else if bytes_eq word (codes "noepoch") then of_none refusal.NoEpoch rest
    else if bytes_eq word (codes "novalue") then of_one refusal.NoValue rest
    else if bytes_eq word (codes "orderopen") then of_one refusal.OrderOpen rest
    else if bytes_eq word (codes "noorder") then of_none refusal.NoOrder rest
    else if bytes_eq word (codes "nopayout") then of_none refusal.NoPayout rest
    else if bytes_eq word (codes "oldid") then of_one refusal.OldId rest
    else if bytes_eq word (codes "short") then of_one refusal.Short rest
    else if bytes_eq word (codes "journalfull") then of_three refusal.JournalFull rest
    else None

-- The reason of its fields.
abbrev pub reason_in : List (List ℕ) → Option CommandNo
reason_in [] = None
reason_in (word ∷ rest) = reason_by word rest

-- The fault of a word and the fields after it.
abbrev pub fault_by : List ℕ → List (List ℕ) → Option WireFault
fault_by word rest =
    if bytes_eq word (codes "clear") then of_none fault.Clear rest
    else if bytes_eq word (codes "devices") then of_piece fault.DevicesHear rest
    else if bytes_eq word (codes "host") then of_piece fault.HostHears rest
    else if bytes_eq word (codes "whole") then of_piece fault.WholeHeard rest
    else None

-- The fault of its fields.
abbrev pub fault_in : List (List ℕ) → Option WireFault
fault_in [] = None
fault_in (word ∷ rest) = fault_by word rest

-- The kind of a refused line, by its word.
abbrev pub kind_in : List ℕ → Option LineKind
kind_in word =
    if bytes_eq word (codes "trailing") then Some kind.Trailing
    else if bytes_eq word (codes "lines") then Some kind.Lines
    else if bytes_eq word (codes "long") then Some kind.Long
    else if bytes_eq word (codes "cut") then Some kind.Cut
    else if bytes_eq word (codes "word") then Some kind.Word
    else if bytes_eq word (codes "form") then Some kind.Form
    else if bytes_eq word (codes "device") then Some kind.Device
    else if bytes_eq word (codes "again") then Some kind.Again
    else None

-- The entry of a command that was taken, after which no field is left.
abbrev pub taken_by : Option Ordered → Option Entry
taken_by (Some (order, [])) = Some (entry.Taken order)
taken_by _ = None

-- The entry of a command that was refused, after which its reason stands.
abbrev pub refused_by : Option Ordered → Option Entry
refused_by (Some (order, rest)) = made (entry.No order) (reason_in rest)
refused_by None = None

-- The entry of an exchange: an address, what was sent, and what was heard.
abbrev pub exchange_of : List (List ℕ) → Option Entry
exchange_of (addr ∷ sent ∷ heard ∷ []) =
    Some (entry.Wire (number_in addr) (piece_in sent) (piece_in heard))
exchange_of _ = None

-- The entry of a refused line: a number and a kind.
abbrev pub line_by : List (List ℕ) → Option Entry
line_by (number ∷ word ∷ []) = made (entry.Line (number_in number)) (kind_in word)
line_by _ = None

-- The entry of a record that is listed: its index and its fields.
abbrev pub listing_of : List (List ℕ) → Option Entry
listing_of (index ∷ fields) = made (entry.Listing (number_in index)) (record_in fields)
listing_of _ = None

-- The entry of what a journal has: a word, and numbers.
abbrev pub journal_by : List ℕ → List (List ℕ) → Option Entry
journal_by word rest =
    if bytes_eq word (codes "alien") then of_none entry.JournalAlien rest
    else if bytes_eq word (codes "bad") then of_one entry.JournalBad rest
    else if bytes_eq word (codes "lost") then of_two entry.JournalLost rest
    else None

-- The entry of what a journal has.
abbrev pub journal_in : List (List ℕ) → Option Entry
journal_in [] = None
journal_in (word ∷ rest) = journal_by word rest

-- The entry of why an old journal isn't brought forward: a word, and a number.
abbrev pub upgrade_by : List ℕ → List (List ℕ) → Option Entry
upgrade_by word rest =
    if bytes_eq word (codes "current") then of_none entry.UpgradeCurrent rest
    else if bytes_eq word (codes "room") then of_one entry.UpgradeRoom rest
    else if bytes_eq word (codes "epoch") then of_one entry.UpgradeEpoch rest
    else None

-- The entry of why an old journal isn't brought forward.
abbrev pub upgrade_in : List (List ℕ) → Option Entry
upgrade_in [] = None
upgrade_in (word ∷ rest) = upgrade_by word rest

-- The entry of a scan's end: the devices that it lists.
abbrev pub listed_by : List (List ℕ) → Option Entry
listed_by (devices ∷ []) = Some (entry.Ended 0 (end_of.Listed (listed_in devices)))
listed_by _ = None

-- The entry of a coin that fell out of a hopper: its address; or of what a monitor says of a
-- hopper: its address, two numbers of taps, and how many coins fell.
abbrev pub fell_of : List (List ℕ) → Option Entry
fell_of (addr ∷ []) = Some (entry.Fell (number_in addr))
fell_of (addr ∷ first ∷ last ∷ count ∷ []) =
    Some (entry.Said (said_of.Fell (number_in addr) (number_in first) (number_in last)
    (number_in count)))
fell_of _ = None

-- The entry of coins that a monitor is sure of: an address, two numbers of taps, and the coins.
abbrev pub sure_of : List (List ℕ) → Option Entry
sure_of (addr ∷ first ∷ last ∷ coins ∷ []) =
    Some (entry.Said (said_of.Sure (number_in addr) (number_in first) (number_in last)
    (coins_in coins)))
sure_of _ = None

-- The entry of a session of change that began, or of one that didn't, since one runs.
abbrev pub change_by : List ℕ → List (List ℕ) → Option Entry
change_by word rest =
    if bytes_eq word (codes "ok") then of_two entry.ChangeOk rest
    else if bytes_eq word (codes "no") then busy_by rest
    else None
  where
    busy_by : List (List ℕ) → Option Entry
    busy_by (why ∷ []) = if bytes_eq why (codes "busy") then Some entry.ChangeNo else None
    busy_by _ = None

-- The entry of a session of change, by its fields.
abbrev pub change_in : List (List ℕ) → Option Entry
change_in [] = None
change_in (word ∷ rest) = change_by word rest

-- The entry of why a session of change doesn't go on: a word, and a number.
abbrev pub serve_by : List ℕ → List (List ℕ) → Option Entry
serve_by word rest =
    if bytes_eq word (codes "idle") then of_none entry.ServeIdle rest
    else if bytes_eq word (codes "wait") then of_one entry.ServeWait rest
    else if bytes_eq word (codes "odd") then of_one entry.ServeOdd rest
    else None

-- The entry of why a session of change doesn't go on.
abbrev pub serve_in : List (List ℕ) → Option Entry
serve_in [] = None
serve_in (word ∷ rest) = serve_by word rest

-- The entry of what happened to a device, by its word.
abbrev pub device_entry : List ℕ → List (List ℕ) → Option Entry
device_entry word rest =
    if bytes_eq word (codes "accepted") then of_three (λ addr place path. entry.Accepted addr (record { place = place; path = path })) rest
    else if bytes_eq word (codes "held") then of_two entry.Held rest
    else if bytes_eq word (codes "inhibited") then of_two entry.Inhibited rest
    else if bytes_eq word (codes "alien") then of_one entry.Alien rest
    else if bytes_eq word (codes "fell") then fell_of rest
    else if bytes_eq word (codes "nofall") then of_one entry.NoFall rest
    else if bytes_eq word (codes "jammed") then of_one entry.Jammed rest
    else if bytes_eq word (codes "nojam") then of_one entry.NoJam rest
    else if bytes_eq word (codes "reset") then of_one entry.Reset rest
    else if bytes_eq word (codes "fault") then made entry.Fault (fault_in rest)
    else None

-- The entry of what the host did, by its word.
abbrev pub host_entry : List ℕ → List (List ℕ) → Option Entry
host_entry word rest =
    if bytes_eq word (codes "ok") then taken_by (command_in rest)
    else if bytes_eq word (codes "no") then refused_by (command_in rest)
    else if bytes_eq word (codes "idle") then of_one entry.Idle rest
    else if bytes_eq word (codes "wire") then exchange_of rest
    else if bytes_eq word (codes "forged") then of_one entry.Forged rest
    else if bytes_eq word (codes "put") then made entry.Put (record_in rest)
    else if bytes_eq word (codes "kept") then made entry.Kept (record_in rest)
    else if bytes_eq word (codes "crash") then of_one entry.Crash rest
    else if bytes_eq word (codes "balance") then of_four (λ available reserved paid sold.
    entry.Balance (record { available = available; reserved = reserved; paid = paid; sold = sold }))
    rest
    else None

-- The entry of a job's end, by its word.
abbrev pub end_entry : List ℕ → List (List ℕ) → Option Entry
end_entry word rest =
    if bytes_eq word (codes "started") then of_one (λ addr. entry.Ended addr end_of.Started) rest
    else if bytes_eq word (codes "unsure") then of_one (λ addr. entry.Ended addr end_of.StartUnsure) rest
    else if bytes_eq word (codes "unquiet") then of_two (λ addr counter. entry.Ended addr (end_of.Unquiet counter)) rest
    else if bytes_eq word (codes "clean") then of_one (λ addr. entry.Ended addr end_of.Clean) rest
    else if bytes_eq word (codes "posted") then of_one (λ addr. entry.Ended addr end_of.Posted) rest
    else if bytes_eq word (codes "broke") then of_one (λ addr. entry.Ended addr end_of.Broke) rest
    else if bytes_eq word (codes "moved") then of_one (λ addr. entry.Ended addr end_of.Moved) rest
    else if bytes_eq word (codes "stopped") then of_one (λ addr. entry.Ended addr end_of.Stopped) rest
    else if bytes_eq word (codes "closed") then of_one (λ addr. entry.Ended addr end_of.Closed) rest
    else if bytes_eq word (codes "oddlife") then of_one (λ addr. entry.Ended addr end_of.OddLife) rest
    else if bytes_eq word (codes "noanswer") then of_one (λ addr. entry.Ended addr end_of.NoAnswer) rest
    else if bytes_eq word (codes "listed") then listed_by rest
    else if bytes_eq word (codes "told") then of_one (λ addr. entry.Ended addr end_of.Told) rest
    else if bytes_eq word (codes "pathset") then of_three (λ addr place path. entry.Ended addr (end_of.PathSet place path)) rest
    else if bytes_eq word (codes "routed") then of_one (λ addr. entry.Ended addr end_of.Routed) rest
    else if bytes_eq word (codes "routeunsure") then of_one (λ addr. entry.Ended addr end_of.RouteUnsure) rest
    else if bytes_eq word (codes "sold") then of_none (entry.Ended 1 end_of.Sold) rest
    else None

-- The entry of a session of change, of a hopper's stock, or of what a monitor says of an acceptor,
-- by its word.
abbrev pub desk_entry : List ℕ → List (List ℕ) → Option Entry
desk_entry word rest =
    if bytes_eq word (codes "stock") then of_two entry.Stock rest
    else if bytes_eq word (codes "change") then change_in rest
    else if bytes_eq word (codes "serve") then serve_in rest
    else if bytes_eq word (codes "served") then of_one entry.Served rest
    else if bytes_eq word (codes "short") then of_two entry.Short rest
    else if bytes_eq word (codes "sure") then sure_of rest
    else if bytes_eq word (codes "doubt") then of_three (λ addr first last. entry.Said (said_of.Doubt addr first last)) rest
    else None

-- The entry of what isn't a step's, by its word.
abbrev pub other_entry : List ℕ → List (List ℕ) → Option Entry
other_entry word rest =
    if bytes_eq word (codes "refused") then line_by rest
    else if bytes_eq word (codes "words") then of_none entry.Words rest
    else if bytes_eq word (codes "disksize") then of_one entry.DiskSize rest
    else if bytes_eq word (codes "notblank") then of_one entry.NotBlank rest
    else if bytes_eq word (codes "readfault") then of_none entry.ReadFault rest
    else if bytes_eq word (codes "diskfault") then of_none entry.DiskFault rest
    else if bytes_eq word (codes "journal") then journal_in rest
    else if bytes_eq word (codes "upgraded") then of_one entry.Upgraded rest
    else if bytes_eq word (codes "upgrade") then upgrade_in rest
    else if bytes_eq word (codes "record") then listing_of rest
    else if bytes_eq word (codes "total") then of_five entry.Total rest
    else if bytes_eq word (codes "load") then of_two entry.Load rest
    else None

-- The entry of a line's fields.
abbrev pub read_fields : List (List ℕ) → Option Entry
read_fields [] = None
read_fields (word ∷ rest) =
    either (device_entry word rest)
    (either (host_entry word rest)
    (either (end_entry word rest) (either (desk_entry word rest) (other_entry word rest))))

-- The entry of a line without its line feed.
unfoldable pub read_line : List ℕ → Option Entry
read_line line = read_fields (parts_at 32 line)

-- The entries of a text, one for each line that is that of an entry.
unfoldable pub read_text : List ℕ → List Entry
read_text text = filter_map read_line (parts_at 10 text)
