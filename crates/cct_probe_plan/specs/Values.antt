-- What the data of a reply are against what is expected, and what is kept of them.
use Rattle.std.specs.Prelude.{ℕ, ◌+◌, ◌-◌, ◌%◌, ◌^◌, zero, suc, ◌==◌, ◌&&◌, Bool, true, false, length, take}
use Rattle.std.specs.Prelude.{List, [], ◌∷◌, if◌then◌else◌, Option, Some, None, bytes_eq}
use Rattle.std.specs.Prelude.{slice_index_or}
use Rattle.std.specs.List.{list_all}
use Rattle.cct_model_wire.specs.declared.device.DeviceBody.{DeviceBody}
use Rattle.cct_model_wire.specs.declared.device.DeviceBody.TheVariants as body
use Rattle.cct_model_wire.specs.declared.device.DeviceSetup.{DeviceSetup}
use Rattle.cct_model_wire.specs.Request.{from_three, three_bytes}
use Rattle.cct_live_survey.specs.declared.category.TheConstants.{MOST_CATEGORY}
use Rattle.cct_live_survey.specs.Coins.{coin_of}
use Rattle.cct_live_survey.specs.Roll.{is_family_of}
use Rattle.cct_probe_plan.specs.declared.memory.Memory.{Memory}
use Rattle.cct_probe_plan.specs.declared.plan.Counted.{Counted}
use Rattle.cct_probe_plan.specs.declared.plan.Counted.TheVariants as counted
use Rattle.cct_probe_plan.specs.declared.plan.Expected.{Expected}
use Rattle.cct_probe_plan.specs.declared.plan.Expected.TheVariants as expected
use Rattle.cct_probe_plan.specs.declared.plan.Newest.{Newest}
use Rattle.cct_probe_plan.specs.declared.plan.Newest.TheVariants as newest
use Rattle.cct_probe_plan.specs.declared.plan.Told.{Told}
use Rattle.cct_probe_plan.specs.declared.plan.Told.TheVariants as told
use Rattle.cct_probe_plan.specs.declared.values.Fits.{Fits}
use Rattle.cct_probe_plan.specs.declared.values.Fits.TheVariants.{Yes, Others, Form}
use Rattle.cct_probe_plan.specs.Saying.{mask_of, place_of, tried_place}

-- The data have the form, or not.
abbrev pub of_form : Bool → Fits
of_form true = Yes
of_form false = Form

-- The data have the value, or not.
abbrev pub of_value : Bool → Fits
of_value true = Yes
of_value false = Others

-- The data are these bytes, or so many others, or not so many.
abbrev pub same : List ℕ → List ℕ → Fits
same wanted bytes = if length bytes == length wanted then of_value (bytes_eq bytes wanted) else Form

-- So many bytes, whatever they are.
abbrev pub so_many : ℕ → List ℕ → Fits
so_many many bytes = of_form (length bytes == many)

-- So many bytes, each 0.
abbrev pub are_zeros : List ℕ → Bool
are_zeros bytes = list_all (λ byte. byte == 0) bytes

-- The data are so many bytes of 0, or others, or not so many.
abbrev pub zeros : ℕ → List ℕ → Fits
zeros many bytes = if length bytes == many then of_value (are_zeros bytes) else Form

-- The identification of the coin or the bill of a place, where the setup has one.
abbrev pub id_in : List ℕ → List (List ℕ) → ℕ → Option (List ℕ)
id_in values ids place =
    coin_of (slice_index_or values ((place - 1) % 16) 0) (slice_index_or ids ((place - 1) % 16) [])

-- That of a place of a device; a hopper has none.
abbrev pub id_at : DeviceBody → ℕ → Option (List ℕ)
id_at (body.Acceptor accepts values ids) place = id_in values ids place
id_at (body.Bill accepts values ids) place = id_in values ids place
id_at (body.Hopper life value) place = None

-- The identification of a coin is that of the setup; where that has none, any six bytes are.
abbrev pub fits_coin : Option (List ℕ) → List ℕ → Fits
fits_coin (Some id) bytes = same id bytes
fits_coin None bytes = so_many 6 bytes

-- That of a bill has one character more, which the setup doesn't have.
abbrev pub fits_bill : Option (List ℕ) → List ℕ → Fits
fits_bill None bytes = so_many 7 bytes
fits_bill (Some id) bytes =
    if length bytes == 0 then Form else same id (take (length bytes - 1) bytes)

-- The data are what the setup or the round says.
abbrev pub fits_said : Told → DeviceSetup → ℕ → List ℕ → Fits
fits_said told.Serial d round bytes = same (three_bytes d.serial) bytes
fits_said told.Category d round bytes = of_value (is_family_of d (take MOST_CATEGORY bytes))
fits_said told.Coin d round bytes = fits_coin (id_at d.body (place_of round)) bytes
fits_said told.Bill d round bytes = fits_bill (id_at d.body (place_of round)) bytes
fits_said told.Bit d round bytes = same (mask_of (place_of round)) bytes

-- A number of three bytes, low byte first.
abbrev pub number_in : List ℕ → Option ℕ
number_in (low ∷ middle ∷ high ∷ []) = Some (from_three low middle high)
number_in bytes = None

-- A number of three bytes that is so much further.
abbrev pub further : ℕ → ℕ → ℕ
further number more = (number % 2 ^ 24 + more) % 2 ^ 24

-- A number is as wanted: so much further than the one kept; where it is only kept, any is.
abbrev pub is_counted : Counted → ℕ → ℕ → Bool
is_counted (counted.More more) kept number = number == further kept more
is_counted this kept number = true

-- The data are a number as wanted, another one, or none.
abbrev pub fits_number : Counted → ℕ → Option ℕ → Fits
fits_number this kept (Some number) = of_value (is_counted this kept number)
fits_number this kept None = Form

-- What is then kept.
abbrev pub keep_number : Counted → Option ℕ → Memory → Memory
keep_number counted.First (Some number) memory = record memory { first = Some number }
keep_number counted.Last (Some number) memory = record memory { last = Some number }
keep_number counted.Keeps (Some number) memory = record memory { count = number }
keep_number this found memory = memory

-- The event counter and the five newest events, where there are so many bytes.
abbrev pub counter_in : List ℕ → Option ℕ
counter_in [] = None
counter_in (counter ∷ pairs) = if length pairs == 10 then Some counter else None

-- The bytes of these events.
abbrev pub pairs_in : List ℕ → List ℕ
pairs_in [] = []
pairs_in (counter ∷ pairs) = pairs

-- The event counter after one more event, and after so many: 1 comes after 255.
abbrev pub next_counter : ℕ → ℕ
next_counter counter = if counter == 255 then 1 else counter + 1

-- The event counter after so many more events.
abbrev pub counter_after : ℕ → ℕ → ℕ
counter_after counter zero = counter
counter_after counter (suc more) = next_counter (counter_after counter more)

-- Each of five events is of a place.
abbrev pub is_each : ℕ → List ℕ → Bool
is_each place (a ∷ b ∷ c ∷ d ∷ e ∷ f ∷ g ∷ h ∷ i ∷ j ∷ []) =
    (a == place) && (c == place) && (e == place) && (g == place) && (i == place)
is_each place pairs = false

-- The newest event, by its pair, or all five, are as wanted.
abbrev pub is_newest_by : Newest → ℕ → ℕ → ℕ → List ℕ → Bool
is_newest_by newest.Any place first second pairs = true
is_newest_by newest.Taken place first second pairs = first == place
is_newest_by newest.FiveTaken place first second pairs = is_each place pairs
is_newest_by (newest.Bill what) place first second pairs = (first == place) && (second == what)
is_newest_by newest.Error place first second pairs = first == 0

-- The newest event is as wanted, where there is one.
abbrev pub is_newest : Newest → ℕ → List ℕ → Bool
is_newest this place (first ∷ second ∷ more) =
    is_newest_by this place first second (first ∷ second ∷ more)
is_newest this place pairs = false

-- So many more events came than were kept, the newest as wanted.
abbrev pub fits_counter : ℕ → Newest → ℕ → ℕ → Option ℕ → List ℕ → Fits
fits_counter more this place kept None pairs = Form
fits_counter more this place kept (Some counter) pairs =
    of_value ((counter == counter_after kept more) && is_newest this place pairs)

-- So it is of the bytes of a reply.
abbrev pub fits_events : ℕ → Newest → ℕ → ℕ → List ℕ → Fits
fits_events more this place kept bytes =
    fits_counter more this place kept (counter_in bytes) (pairs_in bytes)

-- The event counter can be kept.
abbrev pub keeps_counter : Option ℕ → Fits
keeps_counter (Some counter) = Yes
keeps_counter None = Form

-- It is then kept.
abbrev pub keep_counter : Option ℕ → Memory → Memory
keep_counter (Some counter) memory = record memory { counter = counter }
keep_counter None memory = memory

-- No coin is left to pay, and what was paid and wasn't are so many together.
abbrev pub fits_halted : ℕ → List ℕ → Fits
fits_halted coins (counter ∷ left ∷ paid ∷ unpaid ∷ []) =
    of_value ((left == 0) && (paid + unpaid == coins))
fits_halted coins bytes = Form

-- What data are against what is expected of a device in a round.
abbrev pub fit_of : Expected → DeviceSetup → ℕ → Memory → List ℕ → Fits
fit_of expected.Ack d round memory bytes = so_many 0 bytes
fit_of (expected.One byte) d round memory bytes = same (byte ∷ []) bytes
fit_of (expected.Two first second) d round memory bytes = same (first ∷ second ∷ []) bytes
fit_of (expected.Zeros many) d round memory bytes = zeros many bytes
fit_of (expected.Any many) d round memory bytes = so_many many bytes
fit_of (expected.Said this) d round memory bytes = fits_said this d round bytes
fit_of (expected.Count this) d round memory bytes = fits_number this memory.count (number_in bytes)
fit_of (expected.Events more this) d round memory bytes =
    fits_events more this (tried_place d.body) memory.counter bytes
fit_of expected.Keeps d round memory bytes = keeps_counter (counter_in bytes)
fit_of (expected.Halted coins) d round memory bytes = fits_halted coins bytes

-- What is then kept of a device.
abbrev pub kept_by : Expected → List ℕ → Memory → Memory
kept_by (expected.Count this) bytes memory = keep_number this (number_in bytes) memory
kept_by expected.Keeps bytes memory = keep_counter (counter_in bytes) memory
kept_by this bytes memory = memory
