-- Whether a hopper does what is taken for granted of it, as far as taps show that.
use Rattle.std.specs.Prelude.{ℕ, suc, ◌+◌, ◌^◌, ◌==◌, ◌&&◌, ◌||◌, nat_le, Bool, true, false, List}
use Rattle.std.specs.Prelude.{[], ◌∷◌, ◌++◌, length, if◌then◌else◌, Option, Some, None}
use Rattle.cct_model.specs.terms.wire.CheckKind.{CheckKind}
use Rattle.cct_model.specs.terms.request.TheConstants.{ENABLE_CODE}
use Rattle.cct_model.specs.terms.request.Request.{Request}
use Rattle.cct_model.specs.terms.request.Request.TheVariants as request
use Rattle.cct_model.specs.terms.request.ReplyForm.{ReplyForm}
use Rattle.cct_model.specs.terms.request.ReplyForm.TheVariants as form
use Rattle.cct_model.specs.Reply.{Reply}
use Rattle.cct_model.specs.Reply as reply
use Rattle.cct_model.specs.Exchange.{got}
use Rattle.cct_model.specs.Order.{life_between}
use Rattle.cct_model.specs.Reading.{distance}
use Rattle.cct_audit_taps.specs.declared.said.Said.{Said}
use Rattle.cct_audit_taps.specs.declared.said.Said.TheVariants.{Broken}
use Rattle.cct_audit_taps.specs.declared.said.Premise.TheVariants as premise
use Rattle.cct_audit_taps.specs.declared.deeds.Deed.{Deed}
use Rattle.cct_audit_taps.specs.declared.deeds.Deed.TheVariants.{Serial, Enabled, Shut, ResetTaken}
use Rattle.cct_audit_taps.specs.declared.deeds.Deed.TheVariants.{Dispensed, Asked, Status, Life}
use Rattle.cct_audit_taps.specs.declared.deeds.Deed.TheVariants.{OtherAnswers, Nothing}
use Rattle.cct_audit_taps.specs.declared.hoppers.KnownCounter.{KnownCounter}
use Rattle.cct_audit_taps.specs.declared.hoppers.KnownSerial.{KnownSerial}
use Rattle.cct_audit_taps.specs.declared.hoppers.KnownLife.{KnownLife}
use Rattle.cct_audit_taps.specs.declared.hoppers.KnownHopper.{KnownHopper}
use Rattle.cct_audit_taps.specs.Taps.{Tap, asks_at, other_answers}

-- The serial number that a reply gives.
abbrev pub serial_deed : Option Reply → Deed
serial_deed (Some (reply.serial serial)) = Serial serial
serial_deed y = Nothing

-- How a payout goes, as a reply shows it.
abbrev pub status_deed : Option Reply → Deed
status_deed (Some (reply.status counter remaining paid unpaid)) = Status counter remaining paid
status_deed y = Nothing

-- The life count that a reply gives.
abbrev pub life_deed : Option Reply → Deed
life_deed (Some (reply.life count)) = Life count
life_deed y = Nothing

-- Whether a reply acknowledges what was asked; then this, or else that.
abbrev pub if_done : Option Reply → Deed → Deed → Deed
if_done (Some reply.ack) this that = this
if_done y this that = that

-- What an exchange shows of a hopper that was asked something, by what was replied in a form.
abbrev pub deed_by : Option Request → (ReplyForm → Option Reply) → Deed
deed_by (Some request.SerialNumber) replied = serial_deed (replied form.Serial)
deed_by (Some (request.Enable code)) replied =
    if code == ENABLE_CODE then Enabled else if_done (replied form.Ack) Shut Nothing
deed_by (Some (request.Dispense serial count)) replied =
    if_done (replied form.Ack) (Dispensed serial count) (Asked count)
deed_by (Some request.GetStatus) replied = status_deed (replied form.Status)
deed_by (Some request.GetLife) replied = life_deed (replied form.Life)
deed_by (Some request.ResetDevice) replied = if_done (replied form.Ack) ResetTaken Nothing
deed_by asked replied = Nothing

-- What a tap shows of the hopper at an address under a check.
abbrev pub deed : CheckKind → ℕ → Tap → Deed
deed kind addr tap =
    if other_answers kind addr tap then OtherAnswers
    else deed_by (asks_at kind addr tap.sent) (λ form. got kind addr form tap.sent tap.heard)

-- The serial number that is known after a tap of a number: the first one that was shown.
abbrev pub serial_first : ℕ → ℕ → Option KnownSerial → Option KnownSerial
serial_first number serial None = Some (record { number = number; serial = serial })
serial_first number serial (Some k) = Some k

-- The same by what the tap showed.
abbrev pub serial_on : ℕ → Deed → Option KnownSerial → Option KnownSerial
serial_on number (Serial serial) found = serial_first number serial found
serial_on number (Dispensed serial count) found = serial_first number serial found
serial_on number s found = found

-- The number of the tap since which the hopper may not pay, where there is one.
abbrev pub shut_on : ℕ → Deed → Option ℕ → Option ℕ
shut_on number Enabled found = None
shut_on number Shut found = Some number
shut_on number ResetTaken found = Some number
shut_on number OtherAnswers found = None
shut_on number s found = found

-- The greater of two counts.
abbrev pub greater : ℕ → ℕ → ℕ
greater a b = if nat_le a b then b else a

-- How many coins it has left to pay at most.
abbrev pub rest_on : Deed → ℕ → ℕ
rest_on Shut rest = 0
rest_on ResetTaken rest = 0
rest_on (Dispensed serial count) rest = count
rest_on (Asked count) rest = greater rest count
rest_on (Status counter remaining paid) rest = remaining
rest_on OtherAnswers rest = 255
rest_on s rest = rest

-- How many coins may have fallen and may yet fall, with this many more.
abbrev pub more_coins : ℕ → ℕ → ℕ
more_coins most count = if nat_le (2 ^ 24) most then most else most + count

-- A life count after which so many coins were asked for; and whether the hopper took that.
abbrev pub asked_since : Bool → ℕ → Option KnownLife → Option KnownLife
asked_since taken count None = None
asked_since taken count (Some k) = Some (record {
  number = k.number;
  count = k.count;
  most = more_coins k.most count;
  least = k.least;
  has_begun = if taken then true else k.has_begun;
})

-- How many coins fell at least, where it reported that it paid so many of a payout.
abbrev pub least_of : Bool → ℕ → ℕ → ℕ
least_of begun paid least = if begun then greater least paid else least

-- A life count after which it was reported how many coins were paid.
abbrev pub paid_since : ℕ → Option KnownLife → Option KnownLife
paid_since paid None = None
paid_since paid (Some k) = Some (record {
  number = k.number;
  count = k.count;
  most = k.most;
  least = least_of k.has_begun paid k.least;
  has_begun = k.has_begun;
})

-- The last life count, and what came since, after a tap of a number before which at most so many
-- coins were left to pay.
abbrev pub life_known : ℕ → Deed → ℕ → Option KnownLife → Option KnownLife
life_known number (Life count) rest found =
    Some (record { number = number; count = count; most = rest; least = 0; has_begun = false })
life_known number (Dispensed serial count) rest found = asked_since true count found
life_known number (Asked count) rest found = asked_since false count found
life_known number (Status counter remaining paid) rest found = paid_since paid found
life_known number OtherAnswers rest found = None
life_known number s rest found = found

-- An event counter that is known at a tap of a number.
abbrev pub counted_from : ℕ → ℕ → KnownCounter
counted_from number counter = record { number = number; counter = counter; least = 0; most = 0 }

-- One request more, 255 at most.
abbrev pub one_more : ℕ → ℕ
one_more n = if n == 255 then 255 else n + 1

-- An event counter after which a dispense request was sent; and whether the hopper took that.
abbrev pub request_since : Bool → Option KnownCounter → Option KnownCounter
request_since taken None = None
request_since taken (Some k) = Some (record {
  number = k.number;
  counter = k.counter;
  least = if taken then one_more k.least else k.least;
  most = one_more k.most;
})

-- The last event counter, or 0 at a reset, and what came since, after a tap of a number.
abbrev pub counter_known : ℕ → Deed → Option KnownCounter → Option KnownCounter
counter_known number (Status counter remaining paid) found = Some (counted_from number counter)
counter_known number ResetTaken found = Some (counted_from number 0)
counter_known number (Dispensed serial count) found = request_since true found
counter_known number (Asked count) found = request_since false found
counter_known number OtherAnswers found = None
counter_known number s found = found

-- What is known of a hopper after a tap of a number.
abbrev pub hopper_on : ℕ → Deed → KnownHopper → KnownHopper
hopper_on number s k = record {
  serial = serial_on number s k.serial;
  shut = shut_on number s k.shut;
  rest = rest_on s k.rest;
  life = life_known number s k.rest k.life;
  counter = counter_known number s k.counter;
}

-- What is known before any tap: no payout is of more than 255 coins.
abbrev pub no_hopper : KnownHopper
no_hopper = record { serial = None; shut = None; rest = 255; life = None; counter = None }

-- What is known after taps that showed this, newest first. Taps are numbered from 1.
abbrev pub hopper_after : List Deed → KnownHopper
hopper_after [] = no_hopper
hopper_after (s ∷ past) = hopper_on (suc (length past)) s (hopper_after past)

-- A hopper has one serial number, and pays under no other.
abbrev pub broken_serial : ℕ → ℕ → ℕ → Option KnownSerial → List Said
broken_serial addr number serial None = []
broken_serial addr number serial (Some k) =
    if serial == k.serial then [] else Broken addr premise.Serial k.number number ∷ []

-- After a reset, or when it is disabled, it takes no dispense request before it is enabled.
abbrev pub broken_enable : ℕ → ℕ → Option ℕ → List Said
broken_enable addr number None = []
broken_enable addr number (Some first) = Broken addr premise.Enable first number ∷ []

-- A rise of the life count fits what could fall, and what was reported as fallen.
abbrev pub rise_fits : ℕ → KnownLife → Bool
rise_fits rise k = nat_le rise k.most && nat_le k.least rise

-- The life count rises by one with each coin that falls, and else stays.
abbrev pub broken_life : ℕ → ℕ → ℕ → Option KnownLife → List Said
broken_life addr number count None = []
broken_life addr number count (Some k) =
    if nat_le (2 ^ 24) k.most then []
    else if rise_fits (life_between k.count count) k then []
    else Broken addr premise.Life k.number number ∷ []

-- An event counter fits the dispense requests since: if a reset came that no tap shows, those after
-- it, which it was sent; else all that it took, which are at least those that it acknowledged, and
-- at most those that it was sent.
abbrev pub counter_fits : ℕ → KnownCounter → Bool
counter_fits counter k =
    nat_le counter k.most || (nat_le k.least (distance k.counter counter)
    && nat_le (distance k.counter counter) k.most)

-- The event counter rises by one with each dispense request that is taken, and else stays; a reset
-- clears it.
abbrev pub broken_counter : ℕ → ℕ → ℕ → Option KnownCounter → List Said
broken_counter addr number counter None = []
broken_counter addr number counter (Some k) =
    if counter_fits counter k then [] else Broken addr premise.Counter k.number number ∷ []

-- Which premises a tap of a number shows broken, of the hopper at an address.
abbrev pub hopper_broken_by : ℕ → ℕ → Deed → KnownHopper → List Said
hopper_broken_by addr number (Serial serial) k = broken_serial addr number serial k.serial
hopper_broken_by addr number (Dispensed serial count) k =
    broken_serial addr number serial k.serial ++ broken_enable addr number k.shut
hopper_broken_by addr number (Life count) k = broken_life addr number count k.life
hopper_broken_by addr number (Status counter remaining paid) k =
    broken_counter addr number counter k.counter
hopper_broken_by addr number OtherAnswers k = Broken addr premise.Alone number number ∷ []
hopper_broken_by addr number s k = []

-- The same after the taps before it, newest first.
abbrev pub hopper_broken_at : ℕ → Deed → List Deed → List Said
hopper_broken_at addr s past = hopper_broken_by addr (suc (length past)) s (hopper_after past)
