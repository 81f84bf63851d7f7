-- The lines of a script: what a setup line and a step line say by their fields, and what a setup
-- line adds to the setup (docs/SCRIPT.md).
use Rattle.std.specs.Prelude.{ℕ, ◌+◌, ◌-◌, ◌*◌, ◌==◌, ◌&&◌, ◌||◌, nat_le, Bool, true, false, List}
use Rattle.std.specs.Prelude.{[], ◌∷◌, ◌++◌, length, map, replicate, if◌then◌else◌, Option, Some}
use Rattle.std.specs.Prelude.{None, is_some, Result, Ok, Err, codes, bytes_eq, slice_index}
use Rattle.std.specs.List.{slice_split, slice_set, list_all}
use Rattle.std.specs.Option.{option_map, ok_or}
use Rattle.std.specs.Result.{result_ok}
use Rattle.hex.specs.Hex.{decode_of}
use Rattle.cct_model_lines.specs.terms.coin.TheConstants.{COIN_PLACES, PATHS}
use Rattle.cct_model_lines.specs.terms.device.TheConstants.{DEVICES}
use Rattle.cct_model_lines.specs.terms.request.TheConstants.{RETURN_CODE, STACK_CODE}
use Rattle.cct_model_lines.specs.terms.wire.TheConstants.{MOST_HEARD, MOST_NAME, MOST_SENT}
use Rattle.cct_model_lines.specs.terms.wire.CheckKind.{CheckKind}
use Rattle.cct_model_lines.specs.terms.wire.CheckKind.TheVariants.{Simple, Crc}
use Rattle.cct_model_lines.specs.terms.device.DeviceBody.{DeviceBody}
use Rattle.cct_model_lines.specs.terms.device.DeviceBody.TheVariants.{Acceptor, Bill, Hopper}
use Rattle.cct_model_lines.specs.terms.device.Texts.{Texts}
use Rattle.cct_model_lines.specs.terms.device.DeviceSetup.{DeviceSetup}
use Rattle.cct_model_lines.specs.terms.device.Setup.{Setup}
use Rattle.cct_model_lines.specs.declared.setup.SetupLine.{SetupLine}
use Rattle.cct_model_lines.specs.declared.setup.SetupLine.TheVariants as says
use Rattle.cct_model_lines.specs.declared.command.TheConstants.{GREATEST_AMOUNT, GREATEST_FIRST}
use Rattle.cct_model_lines.specs.declared.command.Command.TheVariants as command
use Rattle.cct_model_lines.specs.declared.command.WireFault.TheVariants as fault
use Rattle.cct_model_lines.specs.declared.command.Step.{Step}
use Rattle.cct_model_lines.specs.declared.command.Step.TheVariants as step
use Rattle.cct_model_lines.specs.declared.entry.LineKind.{LineKind}
use Rattle.cct_model_lines.specs.declared.entry.LineKind.TheVariants as kind
use Rattle.cct_model_lines.specs.Exchange.{device_at}

-- One reading after another: none where the first gives none.
infixl 10 ◌>>=◌
abbrev pub ◌>>=◌ : {A B : Type 0} → Option A → (A → Option B) → Option B
Some x >>= f = f x
None >>= f = None

-- The byte is a space.
abbrev pub is_space : ℕ → Bool
is_space byte = byte == 32

-- The byte is a decimal digit.
abbrev pub is_digit : ℕ → Bool
is_digit byte = nat_le 48 byte && nat_le byte 57

-- The number that digits go on to spell, or none where a byte is no digit.
abbrev pub digits_from : ℕ → List ℕ → Option ℕ
digits_from n [] = Some n
digits_from n (byte ∷ bytes) =
    if is_digit byte then digits_from (10 * n + (byte - 48)) bytes else None

-- The number that a field spells in decimal, without sign and without leading zeros.
abbrev pub number_in : List ℕ → Option ℕ
number_in [] = None
number_in (byte ∷ []) = digits_from 0 (byte ∷ [])
number_in (byte ∷ next ∷ bytes) = if byte == 48 then None else digits_from 0 (byte ∷ next ∷ bytes)

-- A number within a range.
abbrev pub within : ℕ → ℕ → ℕ → Option ℕ
within least most n = if nat_le least n && nat_le n most then Some n else None

-- The number within a range that a field spells.
unfoldable pub ranged : ℕ → ℕ → List ℕ → Option ℕ
ranged least most field = number_in field >>= within least most

-- A number of three bytes, as serial numbers, accept counters and life counts are.
abbrev pub three_byte_in : List ℕ → Option ℕ
three_byte_in field = ranged 0 16777215 field

-- The check that a field names.
abbrev pub check_in : List ℕ → Option CheckKind
check_in field =
    if bytes_eq field (codes "simple") then Some Simple
    else if bytes_eq field (codes "crc") then Some Crc
    else None

-- The byte is a printing character: 21 to 7e in hexadecimal.
abbrev pub is_printing : ℕ → Bool
is_printing byte = nat_le 33 byte && nat_le byte 126

-- The text that a field is: 1 to 24 printing characters.
unfoldable pub word_in : List ℕ → Option (List ℕ)
word_in field = if nat_le 1 (length field) && nat_le (length field) MOST_NAME
    && list_all is_printing field then Some field else None

-- The identification that a field is: six printing characters.
unfoldable pub id_in : List ℕ → Option (List ℕ)
id_in field = if (length field == 6) && list_all is_printing field then Some field else None

-- The bytes that hexadecimal digits of either case spell, two digits each.
abbrev pub bytes_in : List ℕ → Option (List ℕ)
bytes_in field = result_ok (decode_of field)

-- The piece that a field spells: a hyphen is the empty piece, else it is in hexadecimal and has so
-- many bytes at the most.
unfoldable pub piece_in : ℕ → List ℕ → Option (List ℕ)
piece_in most [] = None
piece_in most (byte ∷ bytes) =
    if bytes_eq (byte ∷ bytes) (codes "-") then Some []
    else if nat_le (length (byte ∷ bytes)) (2 * most) then bytes_in (byte ∷ bytes)
    else None

-- The inhibit mask that two bytes are, high byte first; none where no bit of it is 1.
abbrev pub mask_of_bytes : List ℕ → Option ℕ
mask_of_bytes (high ∷ low ∷ []) = if 256 * high + low == 0 then None else Some (256 * high + low)
mask_of_bytes bytes = None

-- The inhibit mask that a field spells: four hexadecimal digits, not all 0.
unfoldable pub mask_in : List ℕ → Option ℕ
mask_in field = bytes_in field >>= mask_of_bytes

-- The texts of a device of which a script says none.
abbrev pub plain_texts : Texts
plain_texts = record { maker = codes "BENCH"; product = codes "CCT"; software = codes "1"; build = codes "1" }

-- A coin acceptor of which a script says no more: its places have no values, and dots identify
-- their coins.
abbrev pub plain_acceptor : ℕ → DeviceBody
plain_acceptor accepts = Acceptor accepts (replicate COIN_PLACES 0) (replicate COIN_PLACES (codes "......"))

-- A bill acceptor of which a script says no more.
abbrev pub plain_bills : ℕ → DeviceBody
plain_bills accepts = Bill accepts (replicate COIN_PLACES 0) (replicate COIN_PLACES (codes "......"))

-- A device of which a script says no more.
abbrev pub plain_device : ℕ → CheckKind → ℕ → DeviceBody → DeviceSetup
plain_device addr check serial body =
    record {
      addr = addr;
      kind = check;
      serial = serial;
      texts = plain_texts;
      named = false;
      body =
          body;
    }

-- `WORD A CHECK SERIAL ACCEPTS`: a device with an accept counter.
abbrev pub counting_line : (DeviceSetup → SetupLine) → (ℕ → DeviceBody) → List (List ℕ) →
    Option SetupLine
counting_line make plain (a ∷ c ∷ s ∷ n ∷ []) = do
  addr ← ranged 2 255 a
  check ← check_in c
  serial ← three_byte_in s
  accepts ← three_byte_in n
  Some (make (plain_device addr check serial (plain accepts)))
counting_line make plain fields = None

-- `acceptor A CHECK SERIAL ACCEPTS`
abbrev pub acceptor_line : List (List ℕ) → Option SetupLine
acceptor_line fields = counting_line says.Acceptor plain_acceptor fields

-- `bills A CHECK SERIAL ACCEPTS`
abbrev pub bills_line : List (List ℕ) → Option SetupLine
bills_line fields = counting_line says.Bills plain_bills fields

-- `hopper A CHECK SERIAL LIFE VALUE`
abbrev pub hopper_line : List (List ℕ) → Option SetupLine
hopper_line (a ∷ c ∷ s ∷ n ∷ v ∷ []) = do
  addr ← ranged 2 255 a
  check ← check_in c
  serial ← three_byte_in s
  life ← three_byte_in n
  value ← ranged 1 1000000 v
  Some (says.Hopper (plain_device addr check serial (Hopper life value)))
hopper_line fields = None

-- `value A PLACE VALUE ID`
abbrev pub value_line : List (List ℕ) → Option SetupLine
value_line (a ∷ p ∷ v ∷ i ∷ []) = do
  addr ← ranged 2 255 a
  place ← ranged 1 COIN_PLACES p
  value ← ranged 1 1000000 v
  id ← id_in i
  Some (says.Value addr place value id)
value_line fields = None

-- `texts A MAKER PRODUCT SOFTWARE BUILD`
abbrev pub texts_line : List (List ℕ) → Option SetupLine
texts_line (a ∷ m ∷ p ∷ s ∷ b ∷ []) = do
  addr ← ranged 2 255 a
  maker ← word_in m
  product ← word_in p
  software ← word_in s
  build ← word_in b
  Some (says.Named addr (record {
    maker = maker;
    product = product;
    software = software;
    build =
        build;
  }))
texts_line fields = None

-- A word alone on its line.
abbrev pub alone : {A : Type 0} → A → List (List ℕ) → Option A
alone x [] = Some x
alone x fields = None

-- What the fields of a setup line say, the first of them its word.
abbrev pub setup_fields : List (List ℕ) → Result SetupLine LineKind
setup_fields [] = Err kind.Word
setup_fields (word ∷ fields) =
    if bytes_eq word (codes "acceptor") then ok_or (acceptor_line fields) kind.Form
    else if bytes_eq word (codes "hopper") then ok_or (hopper_line fields) kind.Form
    else if bytes_eq word (codes "bills") then ok_or (bills_line fields) kind.Form
    else if bytes_eq word (codes "value") then ok_or (value_line fields) kind.Form
    else if bytes_eq word (codes "texts") then ok_or (texts_line fields) kind.Form
    else if bytes_eq word (codes "begin") then ok_or (alone says.Begin fields) kind.Form
    else Err kind.Word

-- What a setup line says, or why it is refused.
unfoldable pub setup_line : List ℕ → Result SetupLine LineKind
setup_line line = setup_fields (slice_split is_space line)

-- The address that a field of a step line spells.
abbrev pub address_in : List ℕ → Option ℕ
address_in field = ranged 0 255 field

-- `WORD A`: a step at an address.
abbrev pub step_at : (ℕ → Step) → List (List ℕ) → Option Step
step_at make (a ∷ []) = option_map make (address_in a)
step_at make fields = None

-- `WORD A PLACE`: a step of a place at an address.
abbrev pub place_step : (ℕ → ℕ → Step) → List (List ℕ) → Option Step
place_step make (a ∷ p ∷ []) = do
  addr ← address_in a
  place ← ranged 1 COIN_PLACES p
  Some (make addr place)
place_step make fields = None

-- `fault devices PIECE`, `fault host PIECE`, `fault whole PIECE`
abbrev pub fault_step : List (List ℕ) → Option Step
fault_step (whom ∷ p ∷ []) =
    if bytes_eq whom (codes "devices") then option_map (λ piece. step.Fault (fault.DevicesHear piece)) (piece_in MOST_SENT p)
    else if bytes_eq whom (codes "host") then option_map (λ piece. step.Fault (fault.HostHears piece)) (piece_in MOST_SENT p)
    else if bytes_eq whom (codes "whole") then option_map (λ piece. step.Fault (fault.WholeHeard piece)) (piece_in MOST_HEARD p)
    else None
fault_step fields = None

-- `start A MASK`
abbrev pub start_step : List (List ℕ) → Option Step
start_step (a ∷ m ∷ []) = do
  addr ← address_in a
  mask ← mask_in m
  Some (step.Command (command.Start addr mask))
start_step fields = None

-- `pay A ID COUNT`
abbrev pub pay_step : List (List ℕ) → Option Step
pay_step (a ∷ i ∷ n ∷ []) = do
  addr ← address_in a
  id ← ranged 1 4294967295 i
  count ← ranged 1 255 n
  Some (step.Command (command.Pay addr id count))
pay_step fields = None

-- `path A PLACE PATH`
abbrev pub path_step : List (List ℕ) → Option Step
path_step (a ∷ p ∷ q ∷ []) = do
  addr ← address_in a
  place ← ranged 0 COIN_PLACES p
  path ← ranged 1 PATHS q
  Some (step.Command (command.Path addr place path))
path_step fields = None

-- `route A WAY`
abbrev pub route_step : List (List ℕ) → Option Step
route_step (a ∷ w ∷ []) = do
  addr ← address_in a
  way ← ranged RETURN_CODE STACK_CODE w
  Some (step.Command (command.Route addr way))
route_step fields = None

-- `vend ID PRICE`
abbrev pub vend_step : List (List ℕ) → Option Step
vend_step (i ∷ p ∷ []) = do
  id ← ranged 1 4294967295 i
  price ← ranged 1 1000000000 p
  Some (step.Command (command.Vend id price))
vend_step fields = None

-- `stock A COUNT`
abbrev pub stock_step : List (List ℕ) → Option Step
stock_step (a ∷ n ∷ []) = do
  addr ← address_in a
  count ← ranged 0 4294967295 n
  Some (step.Stock addr count)
stock_step fields = None

-- `change FIRST AMOUNT`
abbrev pub change_step : List (List ℕ) → Option Step
change_step (i ∷ n ∷ []) = do
  first ← ranged 1 GREATEST_FIRST i
  amount ← ranged 1 GREATEST_AMOUNT n
  Some (step.Change first amount)
change_step fields = None

-- The choice of a power cut.
abbrev pub choice_in : List ℕ → Option ℕ
choice_in field = ranged 0 18446744073709551615 field

-- `crash CHOICE`, `crash A CALLS CHOICE`
abbrev pub crash_step : List (List ℕ) → Option Step
crash_step (x ∷ []) = option_map (step.Crash None) (choice_in x)
crash_step (a ∷ n ∷ x ∷ []) = do
  addr ← address_in a
  calls ← ranged 0 4 n
  choice ← choice_in x
  Some (step.Crash (Some (record { addr = addr; calls = calls })) choice)
crash_step fields = None

-- What the fields of a step line say, the first of them its word.
abbrev pub step_fields : List (List ℕ) → Result Step LineKind
step_fields [] = Err kind.Word
step_fields (word ∷ fields) =
    if bytes_eq word (codes "coin") then ok_or (place_step step.Coin fields) kind.Form
    else if bytes_eq word (codes "alien") then ok_or (step_at step.Alien fields) kind.Form
    else if bytes_eq word (codes "bill") then ok_or (place_step step.Bill fields) kind.Form
    else if bytes_eq word (codes "fall") then ok_or (step_at step.Fall fields) kind.Form
    else if bytes_eq word (codes "jam") then ok_or (step_at step.Jam fields) kind.Form
    else if bytes_eq word (codes "reset") then ok_or (step_at step.Reset fields) kind.Form
    else if bytes_eq word (codes "next") then ok_or (step_at step.Next fields) kind.Form
    else if bytes_eq word (codes "fault") then ok_or (fault_step fields) kind.Form
    else if bytes_eq word (codes "start") then ok_or (start_step fields) kind.Form
    else if bytes_eq word (codes "round") then ok_or (step_at (λ a. step.Command (command.Round a)) fields) kind.Form
    else if bytes_eq word (codes "stop") then ok_or (step_at (λ a. step.Command (command.Stop a)) fields) kind.Form
    else if bytes_eq word (codes "settle") then ok_or (step_at (λ a. step.Command (command.Settle a)) fields) kind.Form
    else if bytes_eq word (codes "halt") then ok_or (step_at (λ a. step.Command (command.Halt a)) fields) kind.Form
    else if bytes_eq word (codes "ident") then ok_or (step_at (λ a. step.Command (command.Ident a)) fields) kind.Form
    else if bytes_eq word (codes "pay") then ok_or (pay_step fields) kind.Form
    else if bytes_eq word (codes "scan") then ok_or (alone (step.Command command.Scan) fields) kind.Form
    else if bytes_eq word (codes "path") then ok_or (path_step fields) kind.Form
    else if bytes_eq word (codes "route") then ok_or (route_step fields) kind.Form
    else if bytes_eq word (codes "vend") then ok_or (vend_step fields) kind.Form
    else if bytes_eq word (codes "crash") then ok_or (crash_step fields) kind.Form
    else if bytes_eq word (codes "balance") then ok_or (alone step.Balance fields) kind.Form
    else if bytes_eq word (codes "stock") then ok_or (stock_step fields) kind.Form
    else if bytes_eq word (codes "change") then ok_or (change_step fields) kind.Form
    else if bytes_eq word (codes "serve") then ok_or (alone step.Serve fields) kind.Form
    else if bytes_eq word (codes "end") then ok_or (alone step.End fields) kind.Form
    else Err kind.Word

-- What a step line says, or why it is refused.
unfoldable pub step_line : List ℕ → Result Step LineKind
step_line line = step_fields (slice_split is_space line)

-- A setup with one device more, or why there may not be one: the address is another's, or there are
-- as many devices as there may be.
abbrev pub add_device : Setup → DeviceSetup → Result Setup LineKind
add_device setup d =
    if is_some (device_at setup.devices d.addr)
    || nat_le DEVICES (length setup.devices) then Err kind.Device
    else Ok (record { devices = setup.devices ++ d ∷ [] })

-- A setup whose device at an address is changed.
abbrev pub with_device : Setup → DeviceSetup → Setup
with_device setup d =
    record { devices = map (λ e. if e.addr == d.addr then d else e) setup.devices }

-- A device whose place has a value and an identification, as a body made of all its values and
-- identifications; or why it can't have them: the place has a value already.
abbrev pub placed : DeviceSetup → (List ℕ → List (List ℕ) → DeviceBody) → ℕ → ℕ → List ℕ → List ℕ →
    List (List ℕ) → Result DeviceSetup LineKind
placed d make place value id values ids =
    if slice_index values (place - 1) == 0
    then Ok (record d {
      body = make (slice_set values (place - 1) value)
          (slice_set ids (place - 1) id);
    })
    else Err kind.Again

-- An acceptor, of coins or of bills, whose place has a value and an identification, or why it can't
-- have them: it is no acceptor, or the place has a value already.
abbrev pub valued : DeviceSetup → ℕ → ℕ → List ℕ → DeviceBody → Result DeviceSetup LineKind
valued d place value id (Acceptor accepts values ids) =
    placed d (λ vs is. Acceptor accepts vs is) place value id values ids
valued d place value id (Hopper life worth) = Err kind.Device
valued d place value id (Bill accepts values ids) =
    placed d (λ vs is. Bill accepts vs is) place value id values ids

-- A device that has these texts, or why it can't have them: it was given texts already.
abbrev pub named : DeviceSetup → Texts → Result DeviceSetup LineKind
named d texts = if d.named then Err kind.Again else Ok (record d { texts = texts; named = true })

-- A setup in which the device at an address is changed by this, or why it isn't: there is no such
-- device.
abbrev pub change_device : Setup → Option DeviceSetup →
    (DeviceSetup → Result DeviceSetup LineKind) → Result Setup LineKind
change_device setup None change = Err kind.Device
change_device setup (Some d) change = changed_by setup (change d)
  where
    changed_by : Setup → Result DeviceSetup LineKind → Result Setup LineKind
    changed_by before (Ok e) = Ok (with_device before e)
    changed_by before (Err why) = Err why

-- What a setup is with a setup line more, or why the line is refused.
unfoldable pub added : Setup → SetupLine → Result Setup LineKind
added setup (says.Acceptor d) = add_device setup d
added setup (says.Hopper d) = add_device setup d
added setup (says.Bills d) = add_device setup d
added setup (says.Value addr place value id) =
    change_device setup (device_at setup.devices addr) (λ d. valued d place value id d.body)
added setup (says.Named addr texts) =
    change_device setup (device_at setup.devices addr) (λ d. named d texts)
added setup says.Begin = Ok setup
