-- A transcript, newest entry first: the wire's pending fault, what each device met, and the lines
-- of each address.
use Rattle.std.specs.Prelude.{ℕ, ◌==◌, List, [], ◌∷◌, ◌++◌, flat_map, if◌then◌else◌, Option, Some}
use Rattle.std.specs.Prelude.{None, option_and_then, unwrap_or, slice_index, bytes_eq}
use Rattle.cct_model.specs.terms.wire.TheConstants.{BROADCAST, HOST}
use Rattle.cct_model.specs.terms.wire.CheckKind.TheVariants.{Simple, Crc}
use Rattle.cct_model.specs.terms.device.DeviceBody.{DeviceBody}
use Rattle.cct_model.specs.terms.device.DeviceBody.TheVariants.{Acceptor, Bill, Hopper}
use Rattle.cct_model.specs.terms.device.DeviceSetup.{DeviceSetup}
use Rattle.cct_model.specs.terms.request.Request.{Request}
use Rattle.cct_model.specs.terms.device.Setup.{Setup}
use Rattle.cct_model.specs.lines.command.WireFault.{WireFault}
use Rattle.cct_model.specs.lines.command.WireFault.TheVariants as fault
use Rattle.cct_model.specs.lines.record.Record.{Record}
use Rattle.cct_model.specs.lines.record.Record.TheVariants as record_of
use Rattle.cct_model.specs.lines.entry.Entry.{Entry}
use Rattle.cct_model.specs.lines.entry.Entry.TheVariants as entry
use Rattle.cct_model.specs.Request.{form_of}
use Rattle.cct_model.specs.Reply.{Reply}
use Rattle.cct_model.specs.History.{Met, coin, alien, fall, jam, reset, heard}
use Rattle.cct_model.specs.Exchange.{ask, asked, asks_of, answer, after_echo, got, by_address}
use Rattle.cct_model.specs.Line.{Line}
use Rattle.cct_model.specs.Line as line
use Rattle.cct_model.specs.Bill.{bill_held, stacked_by}
use Rattle.cct_model.specs.Hopper.{taken_of}
use Rattle.cct_model.specs.Job.{address_of}
use Rattle.cct_model.specs.Records.{records, opened_in, owner_in}
use Rattle.cct_model.specs.Scan.{poll_of}

-- What is at an address, where that is the device's.
abbrev pub at : {A : Type 0} → ℕ → DeviceSetup → A → List A
at addr d x = if addr == d.addr then x ∷ [] else []

-- The fault that is set for the next exchange: the last one since the last exchange, or none.
abbrev pub pending : List Entry → WireFault
pending [] = fault.Clear
pending (entry.Fault f ∷ past) = f
pending (entry.Wire addr sent piece ∷ past) = fault.Clear
pending (e ∷ past) = pending past

-- The bytes that the devices hear, where the host sends some.
abbrev pub heard_by_devices : WireFault → List ℕ → List ℕ
heard_by_devices (fault.DevicesHear piece) sent = piece
heard_by_devices f sent = sent

-- What the host hears, where it sent bytes and the devices answer: its own echo, and the answers
-- after it.
abbrev pub heard_by_host : WireFault → List ℕ → List ℕ → List ℕ
heard_by_host (fault.HostHears piece) sent answered = sent ++ piece
heard_by_host (fault.WholeHeard piece) sent answered = piece
heard_by_host f sent answered = sent ++ answered

-- What an entry says that a device met: what fell into it or out of it, its resets, and all bytes
-- that the devices heard, whoever it was for.
abbrev pub meets : DeviceSetup → List Entry → Entry → List Met
meets d past (entry.Accepted addr c) = at addr d (coin c.place)
meets d past (entry.Held addr place) = at addr d (coin place)
meets d past (entry.Inhibited addr place) = at addr d (coin place)
meets d past (entry.Alien addr) = at addr d alien
meets d past (entry.Fell addr) = at addr d fall
meets d past (entry.NoFall addr) = at addr d fall
meets d past (entry.Jammed addr) = at addr d jam
meets d past (entry.NoJam addr) = at addr d jam
meets d past (entry.Reset addr) = at addr d reset
meets d past (entry.Wire addr sent piece) =
    heard (asks_of d (heard_by_devices (pending past) sent)) ∷ []
meets d past e = []

-- All that a device met.
abbrev pub met : DeviceSetup → List Entry → List Met
met d [] = []
met d (e ∷ past) = meets d past e ++ met d past

-- The bytes with which the devices of a setup answer what they hear, in rising order of address.
abbrev pub answers : Setup → List Entry → List ℕ → List ℕ
answers setup past piece =
    flat_map (λ d. unwrap_or (answer d (met d past) piece) []) (by_address setup.devices)

-- What the host hears after it sent bytes.
unfoldable pub heard_after : Setup → List Entry → List ℕ → List ℕ
heard_after setup past sent =
    heard_by_host (pending past) sent (answers setup past (heard_by_devices (pending past) sent))

-- The reply that a device's exchange got: the wanted one to the request that was sent.
unfoldable pub got_by : DeviceSetup → List ℕ → List ℕ → Option Reply
got_by d sent piece = option_and_then (λ form. got d.kind d.addr form sent piece)
    (option_and_then form_of (asked d.kind sent))

-- The address at which an order was opened last with an id, 0 where none was.
abbrev pub opened_at : ℕ → List Entry → ℕ
opened_at id past = opened_in id (records past)

-- The address that a record belongs to, after all these entries.
abbrev pub owner : List Entry → Record → ℕ
owner past r = owner_in (records past) r

-- That a hopper took a dispense of so many coins, as a line of its address.
abbrev pub dispensed_by : Option ℕ → List Line
dispensed_by None = []
dispensed_by (Some count) = line.dispensed count ∷ []

-- That a bill of a place was stacked, as a line of its address: it is accepted then, by path 0.
abbrev pub stacked_line : Option ℕ → List Line
stacked_line None = []
stacked_line (Some place) = line.accepted (record { place = place; path = 0 }) ∷ []

-- What a device did of what it heard, whoever's job the exchange is: a hopper took a dispense, and
-- a bill acceptor stacked the bill that it held.
abbrev pub doses : DeviceBody → ℕ → List Met → Option Request → List Line
doses (Acceptor accepts values ids) own past asked = []
doses (Hopper life value) own past asked = dispensed_by (taken_of own past asked)
doses (Bill accepts values ids) own past asked = stacked_line (stacked_by asked (bill_held past))

-- What a device does in an exchange in which the host sends bytes.
abbrev pub doses_of : DeviceSetup → List Entry → List ℕ → List Line
doses_of d past sent =
    doses d.body d.serial (met d past) (asks_of d (heard_by_devices (pending past) sent))

-- The lines of a device's address that an entry is, newest first: an exchange may be two, of which
-- the one that says what was got is the newer one. A bill that is held is none: it isn't accepted
-- yet.
abbrev pub own : DeviceSetup → List Entry → Entry → List Line
own d past (entry.Accepted addr c) = at addr d (line.accepted c)
own d past (entry.Inhibited addr place) = at addr d (line.inhibited place)
own d past (entry.Alien addr) = at addr d line.alien
own d past (entry.Fell addr) = at addr d line.fell
own d past (entry.Reset addr) = at addr d line.reset
own d past (entry.Taken command) = at (address_of command) d (line.taken command)
own d past (entry.Wire addr sent piece) =
    at addr d (line.exchange (asked d.kind sent) (got_by d sent piece)) ++ doses_of d past sent
own d past (entry.Put r) = at (owner past r) d (line.put r)
own d past (entry.Kept r) = at (owner past r) d (line.put r)
own d past (entry.Ended addr end) = at addr d (line.ended end)
own d past (entry.Crash records) = line.restarted ∷ []
own d past e = []

-- The lines of a device's address.
abbrev pub lines_of : DeviceSetup → List Entry → List Line
lines_of d [] = []
lines_of d (e ∷ past) = own d past e ++ lines_of d past

-- What is at address 0, where scans are.
abbrev pub at_scan : {A : Type 0} → ℕ → A → List A
at_scan addr x = if addr == BROADCAST then x ∷ [] else []

-- The line of a scan that an exchange is: it polled the address that the bytes sent are for, under
-- the check of the two whose poll they are.
unfoldable pub scan_line : List ℕ → List ℕ → Line
scan_line sent piece =
    let addr = slice_index sent 0 in
    if bytes_eq sent (ask Simple addr (poll_of addr))
    then line.scanned Simple addr (after_echo sent piece)
    else line.scanned Crc addr (after_echo sent piece)

-- The line of address 0 that an entry is, or none.
abbrev pub scan_own : Entry → List Line
scan_own (entry.Taken command) = at_scan (address_of command) (line.taken command)
scan_own (entry.Wire addr sent piece) = at_scan addr (scan_line sent piece)
scan_own (entry.Ended addr end) = at_scan addr (line.ended end)
scan_own (entry.Crash records) = line.restarted ∷ []
scan_own e = []

-- The lines of address 0.
abbrev pub scan_lines : List Entry → List Line
scan_lines [] = []
scan_lines (e ∷ past) = scan_own e ++ scan_lines past

-- What is at address 1, where sales are.
abbrev pub at_sale : {A : Type 0} → ℕ → A → List A
at_sale addr x = if addr == HOST then x ∷ [] else []

-- The line of a sale that a record is, or none.
abbrev pub sold_line : Record → List Line
sold_line (record_of.Sold id price) = line.put (record_of.Sold id price) ∷ []
sold_line r = []

-- The line of address 1 that an entry is, or none.
abbrev pub sale_own : Entry → List Line
sale_own (entry.Taken command) = at_sale (address_of command) (line.taken command)
sale_own (entry.Put r) = sold_line r
sale_own (entry.Kept r) = sold_line r
sale_own (entry.Ended addr end) = at_sale addr (line.ended end)
sale_own (entry.Crash records) = line.restarted ∷ []
sale_own e = []

-- The lines of address 1.
abbrev pub sale_lines : List Entry → List Line
sale_lines [] = []
sale_lines (e ∷ past) = sale_own e ++ sale_lines past

-- Entries that were written in this order go onto a past, the last of them newest.
abbrev pub onto : List Entry → List Entry → List Entry
onto past [] = past
onto past (e ∷ entries) = onto (e ∷ past) entries
