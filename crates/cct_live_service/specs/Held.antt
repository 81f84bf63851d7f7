-- The bill that a reading of a bill acceptor shows as held.
use Rattle.std.specs.Prelude.{ℕ, ◌==◌, ◌&&◌, ◌||◌, not, Bool, true, false, List, [], ◌∷◌}
use Rattle.std.specs.Prelude.{if◌then◌else◌, Option, Some, None}
use Rattle.cct_model.specs.terms.coin.Credits.{Credits}
use Rattle.cct_model.specs.terms.coin.Pair.{Pair}
use Rattle.cct_model.specs.terms.request.ReplyForm.TheVariants as form
use Rattle.cct_model.specs.terms.wire.CheckKind.{CheckKind}
use Rattle.cct_model.specs.Exchange.{got}
use Rattle.cct_model.specs.Reply.{Reply, credits}
use Rattle.cct_live_service.specs.declared.holds.Hold.{Hold}

-- A message asks for a bill acceptor's events: its header is 159.
abbrev pub asks_bills : List ℕ → Bool
asks_bills (to ∷ count ∷ from ∷ header ∷ rest) = header == 159
asks_bills bytes = false

-- The events that a reply gives.
abbrev pub credits_of : Option Reply → Option Credits
credits_of (Some (credits told)) = Some told
credits_of reply = None

-- The events that an exchange with a bill acceptor reported: none where it asked for something
-- else, or wasn't answered.
abbrev pub bills_told : CheckKind → ℕ → List ℕ → List ℕ → Option Credits
bills_told kind addr sent heard =
    if asks_bills sent then credits_of (got kind addr form.Credits sent heard) else None

-- The bill that an event shows as held: its place isn't 0, and its second byte is 1.
abbrev pub hold_by : ℕ → Pair → Option Hold
hold_by counter event =
    if not (event.a == 0) && (event.b == 1) then Some
    (record { place = event.a; counter = counter }) else None

-- The bill that the first of these events shows as held.
abbrev pub hold_in : ℕ → List Pair → Option Hold
hold_in counter [] = None
hold_in counter (event ∷ older) = hold_by counter event

-- The bill that the newest of these events shows as held.
abbrev pub newest_hold : Credits → Option Hold
newest_hold told = hold_in told.counter told.pairs

-- A bill that is held is another one than the one that was held before: of another place, or by
-- another event counter.
abbrev pub is_other : Hold → Option Hold → Bool
is_other hold None = true
is_other hold (Some before) =
    not (hold.place == before.place) || not (hold.counter == before.counter)
