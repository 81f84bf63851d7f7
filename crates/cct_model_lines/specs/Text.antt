-- The text of a transcript: one line for each entry (docs/TRANSCRIPT.md).
use Rattle.std.specs.Prelude.{ℕ, zero, suc, ◌+◌, ◌/◌, ◌%◌, ◌^◌, nat_lt, List, [], ◌∷◌, ◌++◌, map}
use Rattle.std.specs.Prelude.{flat_map, if◌then◌else◌, Option, Some, None, codes}
use Rattle.std.specs.List.{join_with_byte, filter_map}
use Rattle.hex.specs.Hex.{encode_lower}
use Rattle.cct_model_lines.specs.terms.coin.Coin.{Coin}
use Rattle.cct_model_lines.specs.declared.record.Record.{Record}
use Rattle.cct_model_lines.specs.declared.record.Record.TheVariants as record_of
use Rattle.cct_model_lines.specs.declared.command.Command.{Command}
use Rattle.cct_model_lines.specs.declared.command.CommandNo.{CommandNo}
use Rattle.cct_model_lines.specs.declared.command.CommandNo.TheVariants as refusal
use Rattle.cct_model_lines.specs.declared.command.WireFault.{WireFault}
use Rattle.cct_model_lines.specs.declared.command.WireFault.TheVariants as fault
use Rattle.cct_model_lines.specs.declared.entry.Listed.{Listed}
use Rattle.cct_model_lines.specs.declared.entry.End.{End}
use Rattle.cct_model_lines.specs.declared.entry.End.TheVariants as end_of
use Rattle.cct_model_lines.specs.declared.entry.LineKind.{LineKind}
use Rattle.cct_model_lines.specs.declared.entry.LineKind.TheVariants as kind
use Rattle.cct_model_lines.specs.declared.entry.Said.{Said}
use Rattle.cct_model_lines.specs.declared.entry.Said.TheVariants as said_of
use Rattle.cct_model_lines.specs.declared.entry.SumOf.{SumOf}
use Rattle.cct_model_lines.specs.declared.entry.SumOf.TheVariants as sum_of
use Rattle.cct_model_lines.specs.declared.entry.Entry.{Entry}
use Rattle.cct_model_lines.specs.declared.entry.Entry.TheVariants as entry
use Rattle.cct_model_lines.specs.DeviceSet.{has, all_addresses}
use Rattle.cct_model_lines.specs.declared.shape.Field.{Field}
use Rattle.cct_model_lines.specs.declared.shape.Field.TheVariants.{Nothing, Number, Mask}
use Rattle.cct_model_lines.specs.Shape.{shape_of}

-- The last digits of a number: one, and so many more at most.
abbrev pub last_digits : ℕ → ℕ → List ℕ
last_digits zero n = (48 + n % 10) ∷ []
last_digits (suc more) n =
    if nat_lt n 10 then (48 + n) ∷ [] else last_digits more (n / 10) ++ (48 + n % 10) ∷ []

-- A number in decimal, with all its digits: 64 at most below 10 ^ 64, and for each 10 ^ 64 in it no
-- more than one more.
unfoldable pub number_text : ℕ → List ℕ
number_text n = last_digits (n / 10 ^ 64 + 63) n

-- A hyphen, which represents nothing.
abbrev pub hyphen : List ℕ
hyphen = 45 ∷ []

-- A piece in hexadecimal, lower case; an empty one is a hyphen.
abbrev pub piece_field : List ℕ → List ℕ
piece_field [] = hyphen
piece_field (byte ∷ bytes) = encode_lower (byte ∷ bytes)

-- An inhibit mask in four hexadecimal digits.
abbrev pub mask_field : ℕ → List ℕ
mask_field mask = encode_lower (mask / 256 ∷ mask % 256 ∷ [])

-- Texts joined by commas; no text is a hyphen.
abbrev pub list_field : List (List ℕ) → List ℕ
list_field [] = hyphen
list_field (text ∷ texts) = join_with_byte 44 (text ∷ texts)

-- A coin as its place, a slash and its path.
abbrev pub coin_text : Coin → List ℕ
coin_text coin = number_text coin.place ++ 47 ∷ number_text coin.path

-- Coins joined by commas; no coin is a hyphen.
abbrev pub coins_field : List Coin → List ℕ
coins_field coins = list_field (map coin_text coins)

-- A listed device as its address, a slash and its check; none where it isn't listed.
abbrev pub listed_text : Listed → ℕ → Option (List ℕ)
listed_text listed addr =
    if has listed.simple addr then Some (number_text addr ++ codes "/simple")
    else if has listed.crc addr then Some (number_text addr ++ codes "/crc")
    else None

-- Listed devices in rising order of address, joined by commas; no device is a hyphen.
abbrev pub listed_field : Listed → List ℕ
listed_field listed = list_field (filter_map (listed_text listed) all_addresses)

-- The fields of a record.
abbrev pub record_fields : Record → List (List ℕ)
record_fields (record_of.Epoch addr mask accepts) =
    codes "epoch" ∷ number_text addr ∷ mask_field mask ∷ number_text accepts ∷ []
record_fields (record_of.Reading addr counter lost accepts posted) =
    codes "reading" ∷ number_text addr ∷ number_text counter ∷ number_text lost ∷ number_text accepts ∷ coins_field posted
    ∷ []
record_fields (record_of.Broken addr seen counter lost accepts posted) =
    codes "broken" ∷ number_text addr ∷ mask_field seen ∷ number_text counter ∷ number_text lost ∷ number_text accepts
    ∷ coins_field posted ∷ []
record_fields (record_of.EpochEnd addr) = codes "epochend" ∷ number_text addr ∷ []
record_fields (record_of.Opened id addr count life) =
    codes "opened" ∷ number_text id ∷ number_text addr ∷ number_text count ∷ number_text life ∷ []
record_fields (record_of.Closed id paid unpaid) =
    codes "closed" ∷ number_text id ∷ number_text paid ∷ number_text unpaid ∷ []
record_fields (record_of.Odd id before after) =
    codes "odd" ∷ number_text id ∷ number_text before ∷ number_text after ∷ []
record_fields (record_of.Sold id price) = codes "sold" ∷ number_text id ∷ number_text price ∷ []

-- The text of a field, where there is one.
abbrev pub field_texts : Field → List (List ℕ)
field_texts Nothing = []
field_texts (Number number least most) = number_text number ∷ []
field_texts (Mask mask) = mask_field mask ∷ []

-- The fields of a command: its word, and what its line spells after it.
abbrev pub command_fields : Command → List (List ℕ)
command_fields c =
    (shape_of c).word ∷ field_texts (shape_of c).first ++ field_texts (shape_of c).second
    ++ field_texts (shape_of c).third

-- The fields of the reason why a command is refused.
abbrev pub reason_fields : CommandNo → List (List ℕ)
reason_fields refusal.NoDevice = codes "nodevice" ∷ []
reason_fields refusal.WrongKind = codes "wrongkind" ∷ []
reason_fields refusal.Busy = codes "busy" ∷ []
reason_fields refusal.EpochRuns = codes "epochruns" ∷ []
reason_fields refusal.NoEpoch = codes "noepoch" ∷ []
reason_fields (refusal.NoValue place) = codes "novalue" ∷ number_text place ∷ []
reason_fields (refusal.OrderOpen id) = codes "orderopen" ∷ number_text id ∷ []
reason_fields refusal.NoOrder = codes "noorder" ∷ []
reason_fields refusal.NoPayout = codes "nopayout" ∷ []
reason_fields (refusal.OldId last) = codes "oldid" ∷ number_text last ∷ []
reason_fields (refusal.Short have) = codes "short" ∷ number_text have ∷ []
reason_fields (refusal.JournalFull used held need) =
    codes "journalfull" ∷ number_text used ∷ number_text held ∷ number_text need ∷ []

-- The fields of a wire fault: whom it disturbs, and the piece that is heard.
abbrev pub fault_fields : WireFault → List (List ℕ)
fault_fields fault.Clear = codes "clear" ∷ []
fault_fields (fault.DevicesHear piece) = codes "devices" ∷ piece_field piece ∷ []
fault_fields (fault.HostHears piece) = codes "host" ∷ piece_field piece ∷ []
fault_fields (fault.WholeHeard piece) = codes "whole" ∷ piece_field piece ∷ []

-- The fields of a job's end. A scan and a sale have no address.
abbrev pub end_fields : ℕ → End → List (List ℕ)
end_fields addr end_of.Started = codes "started" ∷ number_text addr ∷ []
end_fields addr end_of.StartUnsure = codes "unsure" ∷ number_text addr ∷ []
end_fields addr (end_of.Unquiet counter) = codes "unquiet" ∷ number_text addr ∷ number_text counter ∷ []
end_fields addr end_of.Clean = codes "clean" ∷ number_text addr ∷ []
end_fields addr end_of.Posted = codes "posted" ∷ number_text addr ∷ []
end_fields addr end_of.Broke = codes "broke" ∷ number_text addr ∷ []
end_fields addr end_of.Moved = codes "moved" ∷ number_text addr ∷ []
end_fields addr end_of.Stopped = codes "stopped" ∷ number_text addr ∷ []
end_fields addr end_of.Closed = codes "closed" ∷ number_text addr ∷ []
end_fields addr end_of.OddLife = codes "oddlife" ∷ number_text addr ∷ []
end_fields addr end_of.NoAnswer = codes "noanswer" ∷ number_text addr ∷ []
end_fields addr (end_of.Listed listed) = codes "listed" ∷ listed_field listed ∷ []
end_fields addr end_of.Told = codes "told" ∷ number_text addr ∷ []
end_fields addr (end_of.PathSet place path) =
    codes "pathset" ∷ number_text addr ∷ number_text place ∷ number_text path ∷ []
end_fields addr end_of.Routed = codes "routed" ∷ number_text addr ∷ []
end_fields addr end_of.RouteUnsure = codes "routeunsure" ∷ number_text addr ∷ []
end_fields addr end_of.Sold = codes "sold" ∷ []

-- The field of a refused line's kind.
abbrev pub kind_field : LineKind → List ℕ
kind_field kind.Trailing = codes "trailing"
kind_field kind.Lines = codes "lines"
kind_field kind.Long = codes "long"
kind_field kind.Cut = codes "cut"
kind_field kind.Word = codes "word"
kind_field kind.Form = codes "form"
kind_field kind.Device = codes "device"
kind_field kind.Again = codes "again"

-- The field of what a sum counts.
abbrev pub sum_field : SumOf → List ℕ
sum_field sum_of.Steps = codes "steps"
sum_field sum_of.Accepted = codes "accepted"
sum_field sum_of.Posted = codes "posted"
sum_field sum_of.Lost = codes "lost"
sum_field sum_of.Fell = codes "fell"
sum_field sum_of.Closed = codes "closed"

-- The fields of what a monitor says.
abbrev pub said_fields : Said → List (List ℕ)
said_fields (said_of.Sure addr first last coins) =
    codes "sure" ∷ number_text addr ∷ number_text first ∷ number_text last ∷ coins_field coins ∷ []
said_fields (said_of.Doubt addr first last) =
    codes "doubt" ∷ number_text addr ∷ number_text first ∷ number_text last ∷ []
said_fields (said_of.Fell addr first last count) =
    codes "fell" ∷ number_text addr ∷ number_text first ∷ number_text last ∷ number_text count ∷ []

-- The fields of an entry's line.
abbrev pub fields_of : Entry → List (List ℕ)
fields_of (entry.Accepted addr coin) =
    codes "accepted" ∷ number_text addr ∷ number_text coin.place ∷ number_text coin.path ∷ []
fields_of (entry.Held addr place) = codes "held" ∷ number_text addr ∷ number_text place ∷ []
fields_of (entry.Inhibited addr place) = codes "inhibited" ∷ number_text addr ∷ number_text place ∷ []
fields_of (entry.Alien addr) = codes "alien" ∷ number_text addr ∷ []
fields_of (entry.Fell addr) = codes "fell" ∷ number_text addr ∷ []
fields_of (entry.NoFall addr) = codes "nofall" ∷ number_text addr ∷ []
fields_of (entry.Jammed addr) = codes "jammed" ∷ number_text addr ∷ []
fields_of (entry.NoJam addr) = codes "nojam" ∷ number_text addr ∷ []
fields_of (entry.Reset addr) = codes "reset" ∷ number_text addr ∷ []
fields_of (entry.Fault f) = codes "fault" ∷ fault_fields f
fields_of (entry.Taken c) = codes "ok" ∷ command_fields c
fields_of (entry.No c why) = codes "no" ∷ command_fields c ++ reason_fields why
fields_of (entry.Idle addr) = codes "idle" ∷ number_text addr ∷ []
fields_of (entry.Wire addr sent heard) = codes "wire" ∷ number_text addr ∷ piece_field sent ∷ piece_field heard ∷ []
fields_of (entry.Forged addr) = codes "forged" ∷ number_text addr ∷ []
fields_of (entry.Put r) = codes "put" ∷ record_fields r
fields_of (entry.Kept r) = codes "kept" ∷ record_fields r
fields_of (entry.Crash records) = codes "crash" ∷ number_text records ∷ []
fields_of (entry.Ended addr end) = end_fields addr end
fields_of (entry.Balance totals) =
    codes "balance" ∷ number_text totals.available ∷ number_text totals.reserved ∷ number_text totals.paid
    ∷ number_text totals.sold ∷ []
fields_of (entry.Stock addr count) = codes "stock" ∷ number_text addr ∷ number_text count ∷ []
fields_of (entry.ChangeOk first amount) =
    codes "change" ∷ codes "ok" ∷ number_text first ∷ number_text amount ∷ []
fields_of entry.ChangeNo = codes "change" ∷ codes "no" ∷ codes "busy" ∷ []
fields_of entry.ServeIdle = codes "serve" ∷ codes "idle" ∷ []
fields_of (entry.ServeWait addr) = codes "serve" ∷ codes "wait" ∷ number_text addr ∷ []
fields_of (entry.ServeOdd id) = codes "serve" ∷ codes "odd" ∷ number_text id ∷ []
fields_of (entry.Served amount) = codes "served" ∷ number_text amount ∷ []
fields_of (entry.Short paid rest) = codes "short" ∷ number_text paid ∷ number_text rest ∷ []
fields_of (entry.Said said) = said_fields said
fields_of (entry.Line number why) = codes "refused" ∷ number_text number ∷ kind_field why ∷ []
fields_of entry.Words = codes "words" ∷ []
fields_of (entry.DiskSize len) = codes "disksize" ∷ number_text len ∷ []
fields_of (entry.NotBlank at) = codes "notblank" ∷ number_text at ∷ []
fields_of entry.ReadFault = codes "readfault" ∷ []
fields_of entry.DiskFault = codes "diskfault" ∷ []
fields_of entry.JournalAlien = codes "journal" ∷ codes "alien" ∷ []
fields_of (entry.JournalBad index) = codes "journal" ∷ codes "bad" ∷ number_text index ∷ []
fields_of (entry.JournalLost found put) = codes "journal" ∷ codes "lost" ∷ number_text found ∷ number_text put ∷ []
fields_of (entry.Upgraded records) = codes "upgraded" ∷ number_text records ∷ []
fields_of entry.UpgradeCurrent = codes "upgrade" ∷ codes "current" ∷ []
fields_of (entry.UpgradeRoom used) = codes "upgrade" ∷ codes "room" ∷ number_text used ∷ []
fields_of (entry.UpgradeEpoch addr) = codes "upgrade" ∷ codes "epoch" ∷ number_text addr ∷ []
fields_of (entry.Listing index r) = codes "record" ∷ number_text index ∷ record_fields r
fields_of (entry.Total posted lost paid unpaid sold) =
    codes "total" ∷ number_text posted ∷ number_text lost ∷ number_text paid ∷ number_text unpaid
    ∷ number_text sold ∷ []
fields_of (entry.Load seed rounds) = codes "load" ∷ number_text seed ∷ number_text rounds ∷ []
fields_of (entry.Sum what amount) = sum_field what ∷ number_text amount ∷ []

-- The line of an entry: its fields joined by single spaces, and a line feed.
unfoldable pub line_of : Entry → List ℕ
line_of e = join_with_byte 32 (fields_of e) ++ 10 ∷ []

-- The text of a transcript, oldest entry first.
abbrev pub text : List Entry → List ℕ
text entries = flat_map line_of entries
