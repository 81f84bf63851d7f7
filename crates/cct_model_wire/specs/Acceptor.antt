-- A coin acceptor, read off all that it met, newest first (ccTalk Generic Specification 4, part 2).
use Rattle.std.specs.Prelude.{ℕ, suc, ◌+◌, ◌-◌, ◌%◌, ◌^◌, ◌==◌, ◌&&◌, Bool, List, [], ◌∷◌, ◌++◌}
use Rattle.std.specs.Prelude.{length, take, replicate, if◌then◌else◌, Option, Some, None, slice_get}
use Rattle.std.specs.Prelude.{unwrap_or}
use Rattle.cct_model_wire.specs.declared.coin.TheConstants.{EVENTS}
use Rattle.cct_model_wire.specs.declared.coin.Pair.{Pair}
use Rattle.cct_model_wire.specs.declared.coin.Credits.{Credits}
use Rattle.cct_model_wire.specs.declared.request.Request.{Request}
use Rattle.cct_model_wire.specs.declared.request.Request.TheVariants.{SetMask, GetMask, SetMaster}
use Rattle.cct_model_wire.specs.declared.request.Request.TheVariants.{GetMaster, ReadCredits}
use Rattle.cct_model_wire.specs.declared.request.Request.TheVariants.{SetPath, GetPath, SetDefault}
use Rattle.cct_model_wire.specs.declared.request.Request.TheVariants.{GetDefault, CoinId}
use Rattle.cct_model_wire.specs.declared.request.Request.TheVariants.{AcceptCount}
use Rattle.cct_model_wire.specs.Reply.{Reply}
use Rattle.cct_model_wire.specs.Reply as reply
use Rattle.cct_model_wire.specs.History.{Met, coin, alien, fall, jam, reset, heard, unless_reset}
use Rattle.cct_model_wire.specs.Setting.{Setting, mask_set, master_set, path_set, default_set}
use Rattle.cct_model_wire.specs.Setting.{is_place, is_path, mask_in, is_normal_in, default_in}
use Rattle.cct_model_wire.specs.Setting.{path_in, accepts_in}

-- The settings after bytes were heard: one more where they ask for one, and none after a reset.
abbrev pub settings_after : Option Request → List Setting → List Setting
settings_after (Some (SetMask mask)) before = mask_set mask ∷ before
settings_after (Some (SetMaster value)) before = master_set value ∷ before
settings_after (Some (SetPath place path)) before = path_set place path ∷ before
settings_after (Some (SetDefault path)) before = default_set path ∷ before
settings_after asked before = unless_reset asked [] before

-- All settings that were asked for since the last reset, newest first.
abbrev pub settings : List Met → List Setting
settings [] = []
settings (coin place ∷ past) = settings past
settings (alien ∷ past) = settings past
settings (fall ∷ past) = settings past
settings (jam ∷ past) = settings past
settings (reset ∷ past) = []
settings (heard asked ∷ past) = settings_after asked (settings past)

-- The inhibit mask.
abbrev pub mask_of : List Met → ℕ
mask_of past = mask_in (settings past)

-- The sorter path by which a coin of a place falls.
abbrev pub path_of : List Met → ℕ → ℕ
path_of past place = path_in (settings past) place

-- Whether a coin of a place is accepted.
abbrev pub accepts : List Met → ℕ → Bool
accepts past place = accepts_in (settings past) place

-- An accepted coin is the event of its place and its path; an inhibited one is error 2.
abbrev pub coin_event : List Met → ℕ → Pair
coin_event past place = if accepts past place then record { a = place; b = path_of past place } else
    record { a = 0; b = 2 }

-- An object that is no coin is error 1.
abbrev pub alien_event : Pair
alien_event = record { a = 0; b = 1 }

-- The events of an acceptor since its last reset, newest first: one for each coin and each other
-- object that fell in.
abbrev pub events : List Met → List Pair
events [] = []
events (coin place ∷ past) = coin_event past place ∷ events past
events (alien ∷ past) = alien_event ∷ events past
events (fall ∷ past) = events past
events (jam ∷ past) = events past
events (reset ∷ past) = []
events (heard asked ∷ past) = unless_reset asked [] (events past)

-- The event counter of so many events: 0 before the first, then 1 to 255, and 1 again.
abbrev pub counter : ℕ → ℕ
counter n = if n == 0 then 0 else 1 + (n - 1) % 255

-- No event.
abbrev pub no_event : Pair
no_event = record { a = 0; b = 0 }

-- The credit buffer is the last five events, newest first, filled up with no event.
abbrev pub last_five : List Pair → List Pair
last_five newest = take EVENTS (newest ++ replicate EVENTS no_event)

-- What is read of events, newest first: the event counter and the credit buffer.
abbrev pub credits_in : List Pair → Credits
credits_in newest = record { counter = counter (length newest); pairs = last_five newest }

-- What header 229 reads.
abbrev pub credits_of : List Met → Credits
credits_of past = credits_in (events past)

-- How many coins were ever accepted, before resets too.
abbrev pub accepted_coins : List Met → ℕ
accepted_coins [] = 0
accepted_coins (coin place ∷ past) =
    if accepts past place then suc (accepted_coins past) else accepted_coins past
accepted_coins (alien ∷ past) = accepted_coins past
accepted_coins (fall ∷ past) = accepted_coins past
accepted_coins (jam ∷ past) = accepted_coins past
accepted_coins (reset ∷ past) = accepted_coins past
accepted_coins (heard asked ∷ past) = accepted_coins past

-- An accept counter: the number at which it started, and one for each coin or bill ever accepted,
-- modulo 2 ^ 24.
abbrev pub counted : ℕ → ℕ → ℕ
counted start accepted = (start + accepted) % 2 ^ 24

-- The accept counter of an acceptor.
abbrev pub accept_count : ℕ → List Met → ℕ
accept_count start past = counted start (accepted_coins past)

-- What header 227 reads: 1 in normal operation, and 0 where all is inhibited.
abbrev pub master_of : List Met → ℕ
master_of past = if is_normal_in (settings past) then 1 else 0

-- The identification of the coin of a place.
abbrev pub id_at : List (List ℕ) → ℕ → List ℕ
id_at ids place = unwrap_or (slice_get ids (place - 1)) []

-- The reply of a device that takes money, and met all this, to a request for its inhibits or for
-- its accept counter, which is at a number; or none.
abbrev pub inhibit_reply : ℕ → List Met → Request → Option Reply
inhibit_reply count past (SetMask mask) = Some reply.ack
inhibit_reply count past GetMask = Some (reply.mask (mask_of past))
inhibit_reply count past (SetMaster value) = Some reply.ack
inhibit_reply count past GetMaster = Some (reply.master (master_of past))
inhibit_reply count past AcceptCount = Some (reply.accepts count)
inhibit_reply count past q = None

-- The reply of an acceptor that met all this to a request of those that only acceptors answer, or
-- none. Its accept counter started at a number, and its coins have these identifications.
unfoldable pub acceptor_reply : ℕ → List (List ℕ) → List Met → Request → Option Reply
acceptor_reply start ids past ReadCredits = Some (reply.credits (credits_of past))
acceptor_reply start ids past (SetPath place path) =
    Some (if is_place place && is_path path then reply.ack else reply.nak)
acceptor_reply start ids past (GetPath place) =
    Some (if is_place place then reply.path (path_of past place) else reply.nak)
acceptor_reply start ids past (SetDefault path) =
    Some (if is_path path then reply.ack else reply.nak)
acceptor_reply start ids past GetDefault = Some (reply.path (default_in (settings past)))
acceptor_reply start ids past (CoinId place) =
    Some (if is_place place then reply.coin_id (id_at ids place) else reply.nak)
acceptor_reply start ids past q = inhibit_reply (accept_count start past) past q
