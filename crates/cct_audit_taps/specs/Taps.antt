-- An exchange as a logger of the wire sees it, and what it shows of a device.
use Rattle.std.specs.Prelude.{ℕ, ◌==◌, ◌&&◌, not, Bool, false, List, Option, Some, None}
use Rattle.std.specs.Prelude.{option_and_then}
use Rattle.cct_model.specs.terms.wire.CheckKind.{CheckKind}
use Rattle.cct_model.specs.terms.wire.TheConstants.{HOST}
use Rattle.cct_model.specs.terms.request.Request.{Request}
use Rattle.cct_model.specs.terms.request.Request.TheVariants.{ReadBills, ReadCredits, GetMask}
use Rattle.cct_model.specs.terms.request.Request.TheVariants.{SetMask, ResetDevice, GetLife}
use Rattle.cct_model.specs.terms.request.ReplyForm.{ReplyForm}
use Rattle.cct_model.specs.terms.request.ReplyForm.TheVariants as form
use Rattle.cct_model.specs.Message.{Message, message}
use Rattle.cct_model.specs.Reply.{Reply}
use Rattle.cct_model.specs.Reply as reply
use Rattle.cct_model.specs.Exchange.{after_echo, asked_of, got, is_from}
use Rattle.cct_model.specs.Job.{settled_events}
use Rattle.cct_audit_taps.specs.declared.money.Money.{Money}
use Rattle.cct_audit_taps.specs.declared.money.Money.TheVariants.{Coins, Bills}
use Rattle.cct_audit_taps.specs.declared.shown.Shown.{Shown}
use Rattle.cct_audit_taps.specs.declared.shown.Shown.TheVariants.{Read, Masked, Set, Nothing}

-- A tap: what was sent, and what was then heard, the echo first.
pub record Tap : Type 0 where
  pub sent : List ℕ
  pub heard : List ℕ

-- A tap of what was sent and heard.
abbrev pub tap_of : List ℕ → List ℕ → Tap
tap_of sent heard = record { sent = sent; heard = heard }

-- What a piece asks of the device at an address under a check, whoever sent it.
abbrev pub asks_at : CheckKind → ℕ → List ℕ → Option Request
asks_at kind addr piece = option_and_then (asked_of addr) (message kind piece)

-- A message is to an address.
abbrev pub is_to : ℕ → Option Message → Bool
is_to addr None = false
is_to addr (Some m) = m.to == addr

-- A piece is a message to an address under a check, whatever it asks.
abbrev pub is_message : CheckKind → ℕ → List ℕ → Bool
is_message kind addr piece = is_to addr (message kind piece)

-- A message is to the host, and names another source than an address. Under the CRC it names none.
abbrev pub is_of_other : ℕ → Option Message → Bool
is_of_other addr None = false
is_of_other addr (Some m) = (m.to == HOST) && not (is_from addr m.from)

-- A tap shows that another device answers what was sent to the one at an address: after the echo of
-- a message to it comes a message of another.
abbrev pub other_answers : CheckKind → ℕ → Tap → Bool
other_answers kind addr tap =
    is_message kind addr tap.sent && is_of_other addr
    (option_and_then (message kind) (after_echo tap.sent tap.heard))

-- A reading of the credits, where a reply is one.
abbrev pub read_in : Option Reply → Shown
read_in (Some (reply.credits c)) = Read c
read_in y = Nothing

-- An inhibit mask, where a reply is one.
abbrev pub mask_in : Option Reply → Shown
mask_in (Some (reply.mask bits)) = Masked bits
mask_in y = Nothing

-- What an exchange shows of an acceptor that was asked something, by what was replied in a form.
-- What asks for another mask or a reset is a setting, heard or not.
abbrev pub shown_by : Option Request → (ReplyForm → Option Reply) → Shown
shown_by (Some ReadCredits) replied = read_in (replied form.Credits)
shown_by (Some GetMask) replied = mask_in (replied form.Mask)
shown_by (Some (SetMask mask)) replied = Set
shown_by (Some ResetDevice) replied = Set
shown_by asked replied = Nothing

-- What a tap shows of the acceptor at an address under a check.
abbrev pub shown : CheckKind → ℕ → Tap → Shown
shown kind addr tap =
    shown_by (asks_at kind addr tap.sent) (λ form. got kind addr form tap.sent tap.heard)

-- Another inhibit mask shows nothing of an acceptor that is watched for resets alone.
abbrev pub but_masks : Option Request → Shown → Shown
but_masks (Some (SetMask mask)) s = Nothing
but_masks asked s = s

-- What a tap shows of the acceptor of coins at an address under a check that is watched for resets
-- alone.
abbrev pub coins_shown : CheckKind → ℕ → Tap → Shown
coins_shown kind addr tap = but_masks (asks_at kind addr tap.sent) (shown kind addr tap)

-- A reading of a bill acceptor as it is credited: a bill that is held is no money yet.
abbrev pub settled_in : Shown → Shown
settled_in (Read c) = Read (settled_events c)
settled_in s = s

-- What an exchange shows of a bill acceptor that was asked something, by what was replied in a
-- form.
abbrev pub bills_by : Option Request → (ReplyForm → Option Reply) → Shown
bills_by (Some ReadBills) replied = settled_in (read_in (replied form.Credits))
bills_by (Some GetMask) replied = mask_in (replied form.Mask)
bills_by (Some ResetDevice) replied = Set
bills_by asked replied = Nothing

-- What a tap shows of the bill acceptor at an address under a check that is watched for resets
-- alone.
abbrev pub bills_shown : CheckKind → ℕ → Tap → Shown
bills_shown kind addr tap =
    bills_by (asks_at kind addr tap.sent) (λ form. got kind addr form tap.sent tap.heard)

-- What a tap shows of the acceptor of this money at an address under a check that is watched for
-- resets alone.
abbrev pub quiet_shown : Money → CheckKind → ℕ → Tap → Shown
quiet_shown Coins kind addr tap = coins_shown kind addr tap
quiet_shown Bills kind addr tap = bills_shown kind addr tap

-- A life count, where a reply is one.
abbrev pub life_in : Option Reply → Option ℕ
life_in (Some (reply.life count)) = Some count
life_in y = None

-- The life count that an exchange shows of a hopper that was asked something, or none.
abbrev pub life_by : Option Request → (ReplyForm → Option Reply) → Option ℕ
life_by (Some GetLife) replied = life_in (replied form.Life)
life_by asked replied = None

-- The life count that a tap shows of the hopper at an address under a check, or none.
abbrev pub life_shown : CheckKind → ℕ → Tap → Option ℕ
life_shown kind addr tap =
    life_by (asks_at kind addr tap.sent) (λ form. got kind addr form tap.sent tap.heard)
