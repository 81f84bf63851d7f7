-- One exchange on the wire: what the host sends, what a device makes of it, and what the host then
-- hears.
use Rattle.std.specs.Prelude.{ℕ, ◌==◌, ◌&&◌, nat_le, Bool, true, false, List, [], ◌∷◌}
use Rattle.std.specs.Prelude.{if◌then◌else◌, Option, Some, None, option_and_then, unwrap_or}
use Rattle.std.specs.Option.{option_or, option_map}
use Rattle.cct_model_wire.specs.declared.wire.TheConstants.{BROADCAST, HOST}
use Rattle.cct_model_wire.specs.declared.wire.CheckKind.{CheckKind}
use Rattle.cct_model_wire.specs.declared.device.DeviceSetup.{DeviceSetup}
use Rattle.cct_model_wire.specs.declared.family.Happening.{Happening}
use Rattle.cct_model_wire.specs.declared.request.Request.{Request}
use Rattle.cct_model_wire.specs.declared.request.Request.TheVariants.{AddressPoll}
use Rattle.cct_model_wire.specs.declared.request.ReplyForm.{ReplyForm}
use Rattle.cct_model_wire.specs.Message.{Message, message, spelling}
use Rattle.cct_model_wire.specs.Request.{header_of, data_of, request_of}
use Rattle.cct_model_wire.specs.Reply.{Reply, reply_header, reply_data, reply_in}
use Rattle.cct_model_wire.specs.Family.{family_of, known_to}
use Rattle.cct_model_wire.specs.History.{Met}
use Rattle.cct_model_wire.specs.Device.{is_acceptor, is_bill, is_hopper, is_taker, reply_of}

-- The message by which the host asks a request of an address.
abbrev pub asking : ℕ → Request → Message
asking addr q = record { to = addr; from = Some HOST; header = header_of q; body = data_of q }

-- The bytes by which the host asks a request of an address.
unfoldable pub ask : CheckKind → ℕ → Request → List ℕ
ask kind addr q = spelling kind (asking addr q)

-- The request that bytes spell, whoever it is for, or none.
unfoldable pub asked : CheckKind → List ℕ → Option Request
asked kind piece = option_and_then (λ m. request_of m.header m.body) (message kind piece)

-- What a request to all devices asks of each: the address poll alone is known there.
abbrev pub to_all : Option Request → Option Request
to_all (Some AddressPoll) = Some AddressPoll
to_all asked = None

-- What a request to one device asks of it: an address poll asks nothing there.
abbrev pub to_one : Option Request → Option Request
to_one (Some AddressPoll) = None
to_one asked = asked

-- What a message asks of the device at an address: nothing where it is for another.
abbrev pub asked_of : ℕ → Message → Option Request
asked_of addr m =
    if m.to == addr then to_one (request_of m.header m.body)
    else if m.to == BROADCAST then to_all (request_of m.header m.body)
    else None

-- What bytes ask of a device: nothing where they are no message under the device's check, or one
-- for another.
unfoldable pub asks_of : DeviceSetup → List ℕ → Option Request
asks_of d piece = option_and_then (asked_of d.addr) (message d.kind piece)

-- Whom a device answers: the source of the message that it heard, and the host where no source is
-- named.
unfoldable pub asker : CheckKind → List ℕ → ℕ
asker kind piece = unwrap_or (option_and_then (λ m. m.from) (message kind piece)) HOST

-- The message by which a device gives a reply.
abbrev pub replying : ℕ → ℕ → Reply → Message
replying to addr y =
    record { to = to; from = Some addr; header = reply_header y; body = reply_data y }

-- The bytes with which a device gives a reply, under its check.
abbrev pub reply_bytes : DeviceSetup → ℕ → Reply → List ℕ
reply_bytes d to y = spelling d.kind (replying to d.addr y)

-- The bytes without a check with which a device at an address answers a request, or none: an
-- address poll alone is answered so, by the address.
abbrev pub bare_answer : ℕ → Request → Option (List ℕ)
bare_answer addr AddressPoll = Some (addr ∷ [])
bare_answer addr q = None

-- The bytes with which a device answers what it was asked, after all that it met, or none: it is
-- silent where it was asked nothing, or nothing that it knows.
abbrev pub answer_to : DeviceSetup → List Met → ℕ → Option Request → Option (List ℕ)
answer_to d past to None = None
answer_to d past to (Some q) =
    option_or (option_map (reply_bytes d to) (reply_of d past q)) (bare_answer d.addr q)

-- The bytes with which a device that met all this answers what it hears, or none where it is
-- silent.
abbrev pub answer : DeviceSetup → List Met → List ℕ → Option (List ℕ)
answer d past piece = answer_to d past (asker d.kind piece) (asks_of d piece)

-- What follows the host's own echo in what it heard, or none where that doesn't begin with the
-- echo.
unfoldable pub after_echo : List ℕ → List ℕ → Option (List ℕ)
after_echo [] heard = Some heard
after_echo (s ∷ sent) [] = None
after_echo (s ∷ sent) (h ∷ heard) = if s == h then after_echo sent heard else None

-- A message names this source, or no source.
abbrev pub is_from : ℕ → Option ℕ → Bool
is_from addr None = true
is_from addr (Some source) = source == addr

-- A message is for the host, and comes from this address or from nobody named.
abbrev pub is_for_host : ℕ → Message → Bool
is_for_host addr m = (m.to == HOST) && is_from addr m.from

-- The reply that a message is: it goes to the host, comes from the asked address, and has header 0
-- and the number of data bytes of the wanted form.
abbrev pub reply_from : ReplyForm → ℕ → Message → Option Reply
reply_from form addr m =
    if is_for_host addr m && (m.header == 0) then reply_in form m.body else None

-- The wanted reply that the host got in an exchange with an address, or none.
unfoldable pub got : CheckKind → ℕ → ReplyForm → List ℕ → List ℕ → Option Reply
got kind addr form sent heard = option_and_then
    (λ piece. option_and_then (reply_from form addr) (message kind piece)) (after_echo sent heard)

-- Devices in rising order of address.
abbrev pub put_by_address : DeviceSetup → List DeviceSetup → List DeviceSetup
put_by_address d [] = d ∷ []
put_by_address d (e ∷ es) = if nat_le d.addr e.addr then d ∷ e ∷ es else e ∷ put_by_address d es

-- All devices of a list in rising order of address.
abbrev pub by_address : List DeviceSetup → List DeviceSetup
by_address [] = []
by_address (d ∷ ds) = put_by_address d (by_address ds)

-- The device of a setup at an address, or none.
abbrev pub device_at : List DeviceSetup → ℕ → Option DeviceSetup
device_at [] addr = None
device_at (d ∷ ds) addr = if d.addr == addr then Some d else device_at ds addr

-- Whether there is a device, of a family that knows this.
abbrev pub known_there : Happening → Option DeviceSetup → Bool
known_there what (Some d) = known_to what (family_of d.body)
known_there what None = false

-- Whether the device at an address is a coin acceptor.
abbrev pub acceptor_there : Option DeviceSetup → Bool
acceptor_there (Some d) = is_acceptor d.body
acceptor_there None = false

-- Whether the device at an address is a hopper.
abbrev pub hopper_there : Option DeviceSetup → Bool
hopper_there (Some d) = is_hopper d.body
hopper_there None = false

-- Whether the device at an address is a bill acceptor.
abbrev pub bill_there : Option DeviceSetup → Bool
bill_there (Some d) = is_bill d.body
bill_there None = false

-- Whether the device at an address takes money in.
abbrev pub taker_there : Option DeviceSetup → Bool
taker_there (Some d) = is_taker d.body
taker_there None = false
