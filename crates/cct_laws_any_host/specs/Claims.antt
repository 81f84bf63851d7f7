-- What is claimed of what a monitor of any host's wire says.
use Rattle.std.specs.Prelude.{◌≡◌, ◌↔◌, ℕ, suc, ◌+◌, ◌^◌, ◌<◌, ◌≤◌, true, false, List, [], ◌∷◌}
use Rattle.std.specs.Prelude.{◌++◌, map, length, reverse, if◌then◌else◌, Option, Some, ⊤}
use Rattle.std.specs.List.{All, Contains, list_any}
use Rattle.cct_model.specs.terms.coin.TheConstants.{EVENTS}
use Rattle.cct_model.specs.terms.coin.Coin.{Coin}
use Rattle.cct_model.specs.terms.device.DeviceBody.{DeviceBody}
use Rattle.cct_model.specs.terms.device.DeviceBody.TheVariants as device
use Rattle.cct_model.specs.terms.device.DeviceSetup.{DeviceSetup}
use Rattle.cct_model.specs.terms.device.Setup.{Setup}
use Rattle.cct_model.specs.terms.request.Request.{Request}
use Rattle.cct_model.specs.terms.request.Request.TheVariants.{GetMask, ReadCredits, ResetDevice}
use Rattle.cct_model.specs.terms.request.Request.TheVariants.{RouteBill}
use Rattle.cct_model.specs.lines.entry.Entry.{Entry}
use Rattle.cct_model.specs.lines.entry.Entry.TheVariants as entry
use Rattle.cct_audit_taps.specs.declared.said.Said.{Said}
use Rattle.cct_audit_taps.specs.declared.said.Said.TheVariants.{Sure, Quiet, Doubt, Fell, Broken}
use Rattle.cct_model.specs.Acceptor.{credits_of, mask_of}
use Rattle.cct_model.specs.Claims.{coins}
use Rattle.cct_model.specs.Bill.{bill_held, is_way}
use Rattle.cct_model.specs.Device.{IsAcceptor, IsBill, IsHopper}
use Rattle.cct_model.specs.Exchange.{ask, device_at}
use Rattle.cct_model.specs.History.{Met}
use Rattle.cct_model.specs.History as history
use Rattle.cct_model.specs.Legal.{OfDevice}
use Rattle.cct_model.specs.Line.{Line, accepted, inhibited, alien}
use Rattle.cct_model.specs.Transcript.{heard_after, lines_of, met}
use Rattle.cct_laws.specs.Coins.{all_fallen}
use Rattle.cct_laws.specs.Law.{IsOf}
use Rattle.cct_audit_taps.specs.declared.shown.Shown.{Shown}
use Rattle.cct_audit_taps.specs.declared.shown.Shown.TheVariants.{Masked}
use Rattle.cct_audit_taps.specs.declared.money.Money.{Money}
use Rattle.cct_audit_taps.specs.declared.money.Money.TheVariants.{Coins, Bills}
use Rattle.cct_monitor.specs.declared.watched.Family.{Family}
use Rattle.cct_monitor.specs.declared.watched.Family.TheVariants.{Acceptor, QuietAcceptor, Premises}
use Rattle.cct_monitor.specs.declared.watched.Family.TheVariants.{Hopper, HopperPremises}
use Rattle.cct_audit_taps.specs.Taps.{shown, quiet_shown, life_shown}
use Rattle.cct_monitor.specs.Spans.{Reading, Span, is_set}
use Rattle.cct_monitor.specs.Confirmed.{has_mask, is_confirmed, window}
use Rattle.cct_monitor.specs.Lives.{fell_at}
use Rattle.cct_monitor.specs.Watches.{Watch}
use Rattle.cct_laws_any_host.specs.Wild.{taps, before_tap}

-- What the exchanges of a past show of an acceptor, newest first.
abbrev pub looks : DeviceSetup → List Entry → List Shown
looks d past = map (shown d.kind d.addr) (taps past)

-- What they show of one of this money that is watched for resets alone.
abbrev pub quiet_looks : Money → DeviceSetup → List Entry → List Shown
quiet_looks money d past = map (quiet_shown money d.kind d.addr) (taps past)

-- The life counts that they show of a hopper, newest first.
abbrev pub lives : DeviceSetup → List Entry → List (Option ℕ)
lives d past = map (life_shown d.kind d.addr) (taps past)

-- How many pieces came to an acceptor: coins that it accepted or inhibited, and objects that are no
-- coins.
abbrev pub pieces : List Line → ℕ
pieces [] = 0
pieces (accepted coin ∷ past) = suc (pieces past)
pieces (inhibited place ∷ past) = suc (pieces past)
pieces (alien ∷ past) = suc (pieces past)
pieces (line ∷ past) = pieces past

-- The coins that an acceptor accepted before the exchange of a number, newest first.
abbrev pub coins_before : DeviceSetup → List Entry → ℕ → List Coin
coins_before d past n = coins (lines_of d (before_tap n past))

-- How many pieces had come to it by then.
abbrev pub came_before : DeviceSetup → List Entry → ℕ → ℕ
came_before d past n = pieces (lines_of d (before_tap n past))

-- How many events a bill acceptor had after it heard what asks this of it, beside the bill that it
-- held: one more where that was routed.
abbrev pub with_routed : Option Request → Option ℕ → ℕ → ℕ
with_routed (Some (RouteBill way)) (Some place) n = if is_way way then suc n else n
with_routed asked held n = n

-- How many events it had, before resets too: one for each bill that was put in, and one for each
-- held one that was routed.
abbrev pub bill_pieces : List Met → ℕ
bill_pieces [] = 0
bill_pieces (history.coin place ∷ past) = suc (bill_pieces past)
bill_pieces (history.heard asked ∷ past) = with_routed asked (bill_held past) (bill_pieces past)
bill_pieces (what ∷ past) = bill_pieces past

-- How many events a device that takes money had: an acceptor of coins has one for each piece that
-- comes to it.
abbrev pub events_in : DeviceBody → List Met → List Line → ℕ
events_in (device.Acceptor accepts values ids) meets lines = pieces lines
events_in (device.Hopper life value) meets lines = 0
events_in (device.Bill accepts values ids) meets lines = bill_pieces meets

-- How many it had before the exchange of a number.
abbrev pub events_before : DeviceSetup → List Entry → ℕ → ℕ
events_before d past n =
    events_in d.body (met d (before_tap n past)) (lines_of d (before_tap n past))

-- How many coins had fallen out of a hopper before the exchange of a number.
abbrev pub fallen_before : DeviceSetup → List Entry → ℕ → ℕ
fallen_before d past n = all_fallen (lines_of d (before_tap n past))

-- What is sure between two readings, oldest coin or bill first: they are the newest of those
-- accepted between them, and where fewer than 255 pieces or events came between them, all. How many
-- had come by the exchange of a number is reported by `came`.
pub record AreSure (d : DeviceSetup) (past : List Entry) (came : ℕ → ℕ) (first last : ℕ)
    (posted : List Coin) : Type 0 where
  pub newest : (older : List Coin) × (coins_before d past last ≡ reverse posted ++ older
      ++ coins_before d past first)
  pub exact : came last < came first + 255 →
      coins_before d past last ≡ reverse posted ++ coins_before d past first

-- How many resets a device had after it heard what asks this of it.
abbrev pub resets_by : Option Request → ℕ → ℕ
resets_by (Some ResetDevice) n = suc n
resets_by asked n = n

-- How often a device was reset: by itself, by a power cut, or by what it heard.
abbrev pub resets : List Met → ℕ
resets [] = 0
resets (history.coin place ∷ past) = resets past
resets (history.alien ∷ past) = resets past
resets (history.fall ∷ past) = resets past
resets (history.jam ∷ past) = resets past
resets (history.reset ∷ past) = suc (resets past)
resets (history.heard asked ∷ past) = resets_by asked (resets past)

-- How often it was reset before the exchange of a number.
abbrev pub resets_before : DeviceSetup → List Entry → ℕ → ℕ
resets_before d past n = resets (met d (before_tap n past))

-- What is said of an acceptor that is watched for resets alone: if no reset came between two
-- readings, it is sure.
abbrev pub AreQuiet : DeviceSetup → List Entry → ℕ → ℕ → List Coin → Type 0
AreQuiet d past first last posted =
    resets_before d past last ≡ resets_before d past first →
    AreSure d past (events_before d past) first last posted

-- What a monitor reports of a hopper is true: as many coins fell between two life counts, where
-- that is below 2 ^ 24.
abbrev pub AreFallen : DeviceSetup → List Entry → ℕ → ℕ → ℕ → Type 0
AreFallen d past first last count =
    fallen_before d past last < fallen_before d past first + 2 ^ 24 →
    fallen_before d past last ≡ count + fallen_before d past first

-- What is said is true of the device of a setup at the address that it names; there has to be one.
-- That a span is in doubt claims nothing, and no device is as a broken premise has it.
abbrev pub IsTrue : Setup → List Entry → Said → Type 0
IsTrue setup past (Sure addr first last posted) =
    OfDevice (device_at setup.devices addr)
    (λ d. AreSure d past (came_before d past) first last posted)
IsTrue setup past (Quiet addr first last posted) =
    OfDevice (device_at setup.devices addr) (λ d. AreQuiet d past first last posted)
IsTrue setup past (Doubt addr first last) = ⊤
IsTrue setup past (Fell addr first last count) =
    OfDevice (device_at setup.devices addr) (λ d. AreFallen d past first last count)
IsTrue setup past (Broken addr premise first last) = ⊥

-- A device takes this money.
abbrev pub Takes : Money → DeviceBody → Type 0
Takes Coins body = IsAcceptor body
Takes Bills body = IsBill body

-- A device is of a family of those that are watched.
abbrev pub IsOfFamily : Family → DeviceBody → Type 0
IsOfFamily Acceptor body = IsAcceptor body
IsOfFamily (QuietAcceptor money) body = Takes money body
IsOfFamily (Premises money) body = Takes money body
IsOfFamily Hopper body = IsHopper body
IsOfFamily HopperPremises body = IsHopper body

-- A device is watched as what it is: at its address, under its check, as an acceptor of coins or of
-- bills, or as a hopper.
pub record IsWatchOf (w : Watch) (d : DeviceSetup) : Type 0 where
  pub addr_is : w.addr ≡ d.addr
  pub kind_is : w.kind ≡ d.kind
  pub body_is : IsOfFamily w.family d.body

-- It is one of a setup.
abbrev pub IsWatched : Setup → Watch → Type 0
IsWatched setup w = (d : DeviceSetup) × IsOf setup d × IsWatchOf w d

-- The coin of a number, the first being 0, was accepted between the readings of a span.
abbrev pub StandsIn : DeviceSetup → List Entry → ℕ → Span → Type 0
StandsIn d past i span =
    (length (coins_before d past span.first.number) ≤ i)
    × (i < length (coins_before d past span.last.number))

-- No coin is in two of these spans.
abbrev pub AreApart : DeviceSetup → List Entry → List Span → Type 0
AreApart d past [] = ⊤
AreApart d past (x ∷ xs) =
    All (λ y. (i : ℕ) → StandsIn d past i x → StandsIn d past i y → ⊥) xs × AreApart d past xs

-- All that is said of a hopper at an address at taps that showed these life counts, newest first;
-- what is said first stands first.
abbrev pub all_fell : ℕ → List (Option ℕ) → List Said
all_fell addr [] = []
all_fell addr (s ∷ past) = all_fell addr past ++ fell_at addr s past

-- What makes a span sure: no tap between its readings shows a setting, no more pieces came to the
-- acceptor between them than its credit buffer keeps, and a tap of its window shows a mask other
-- than 0.
pub record IsPlain (d : DeviceSetup) (past : List Entry) (span : Span) : Type 0 where
  pub unset : list_any is_set span.first.after ≡ false
  pub few : came_before d past span.last.number ≤ came_before d past span.first.number + EVENTS
  pub masked : list_any has_mask (window span.last.after) ≡ true

-- A span between whose readings fewer than 255 pieces came is sure just where all this is so.
abbrev pub IsSureWherePlain : DeviceSetup → List Entry → Span → Type 0
IsSureWherePlain d past span =
    came_before d past span.last.number < came_before d past span.first.number + 255 →
    (is_confirmed span ≡ true) ↔ IsPlain d past span

-- What makes a span of an acceptor that is watched for resets alone plain: no tap between its
-- readings asks for a reset, none came, and the acceptor had no more events between them than its
-- buffer keeps.
pub record IsQuietSpan (d : DeviceSetup) (past : List Entry) (span : Span) : Type 0 where
  pub unset : list_any is_set span.first.after ≡ false
  pub same : resets_before d past span.last.number ≡ resets_before d past span.first.number
  pub few : events_before d past span.last.number ≤ events_before d past span.first.number + EVENTS

-- It is said of it, with just the coins or bills that the acceptor accepted between its readings,
-- oldest first.
pub record IsToldQuiet (d : DeviceSetup) (past : List Entry) (told : List Said) (span : Span) : Type
    0 where
  pub coins : List Coin
  pub said : Contains told (Quiet d.addr span.first.number span.last.number coins)
  pub whole : coins_before d past span.last.number ≡ reverse coins
      ++ coins_before d past span.first.number

-- It is said that a span is sure, with just the coins that the acceptor accepted between its
-- readings, oldest first.
pub record IsToldWhole (d : DeviceSetup) (past : List Entry) (told : List Said) (span : Span) : Type
    0 where
  pub coins : List Coin
  pub said : Contains told (Sure d.addr span.first.number span.last.number coins)
  pub whole : coins_before d past span.last.number ≡ reverse coins
      ++ coins_before d past span.first.number

-- A host asks a device something, after all that came.
abbrev pub asked_then : Setup → DeviceSetup → Request → List Entry → List Entry
asked_then setup d q past =
    entry.Wire d.addr (ask d.kind d.addr q) (heard_after setup past (ask d.kind d.addr q)) ∷ past

-- It asks an acceptor for its credits, and then for its inhibit mask.
abbrev pub after_round : Setup → DeviceSetup → List Entry → List Entry
after_round setup d past = asked_then setup d GetMask (asked_then setup d ReadCredits past)

-- The span from a reading to that round.
abbrev pub span_of_round : DeviceSetup → List Entry → Reading → Span
span_of_round d past r = record {
  first = r;
  last = record {
    number = suc (length (taps past));
    credits = credits_of (met d past);
    after = Masked (mask_of (met d past)) ∷ [];
  };
}
