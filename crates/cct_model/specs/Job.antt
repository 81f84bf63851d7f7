-- The job at an address, read off its lines: which command began it, what it has read, and how
-- often a row failed. And the epoch of an acceptor, read off its records.
use Rattle.std.specs.Prelude.{ℕ, suc, ◌==◌, Bool, List, [], ◌∷◌, map, if◌then◌else◌, Option, Some}
use Rattle.std.specs.Prelude.{None}
use Rattle.std.specs.Option.{option_map, option_or}
use Rattle.cct_model.specs.terms.coin.Credits.{Credits}
use Rattle.cct_model.specs.terms.coin.Pair.{Pair}
use Rattle.cct_model.specs.terms.device.DeviceBody.{DeviceBody}
use Rattle.cct_model.specs.terms.device.DeviceBody.TheVariants.{Acceptor, Bill, Hopper}
use Rattle.cct_model.specs.terms.request.Request.{Request}
use Rattle.cct_model.specs.terms.request.Request.TheVariants.{MakerId, Category, ProductCode}
use Rattle.cct_model.specs.terms.request.Request.TheVariants.{SerialNumber, SoftwareRevision}
use Rattle.cct_model.specs.terms.request.Request.TheVariants.{BuildCode, CommsRevision, GetMask}
use Rattle.cct_model.specs.terms.request.Request.TheVariants.{GetMaster, ReadCredits, SetPath}
use Rattle.cct_model.specs.terms.request.Request.TheVariants.{GetPath, SetDefault, GetDefault}
use Rattle.cct_model.specs.terms.request.Request.TheVariants.{CoinId, AcceptCount, ReadBills}
use Rattle.cct_model.specs.terms.request.Request.TheVariants.{TestHopper, GetStatus, StopNow}
use Rattle.cct_model.specs.lines.record.Record.{Record}
use Rattle.cct_model.specs.lines.record.Record.TheVariants as record_of
use Rattle.cct_model.specs.Effect.{EpochMove, effect}
use Rattle.cct_model.specs.Effect as move
use Rattle.cct_model.specs.Shape.{shape_of}
use Rattle.cct_model.specs.declared.judging.Judged.{Judged}
use Rattle.cct_model.specs.declared.judging.Judged.TheVariants.{Nothing, Reading, Broken}
use Rattle.cct_model.specs.declared.judging.Judged.TheVariants as judged_of
use Rattle.cct_model.specs.declared.judging.EpochState.{EpochState}
use Rattle.cct_model.specs.declared.judging.EpochState.TheVariants.{Idle, Running}
use Rattle.cct_model.specs.declared.judging.OpenOrder.{OpenOrder}
use Rattle.cct_model.specs.lines.command.Command.{Command}
use Rattle.cct_model.specs.lines.command.Command.TheVariants as command
use Rattle.cct_model.specs.lines.entry.End.{End}
use Rattle.cct_model.specs.lines.entry.End.TheVariants.{Unquiet, Clean, Moved, NoAnswer, Closed}
use Rattle.cct_model.specs.lines.entry.End.TheVariants.{OddLife}
use Rattle.cct_model.specs.Request.{header_of}
use Rattle.cct_model.specs.Reply.{Reply}
use Rattle.cct_model.specs.Reply as reply
use Rattle.cct_model.specs.Line.{Line, accepted, inhibited, alien, fell, reset, dispensed, exchange}
use Rattle.cct_model.specs.Line.{scanned, put, taken, ended, restarted}
use Rattle.cct_model.specs.Reading.{judge}
use Rattle.cct_model.specs.Order.{close, is_marked, life_read}

-- No job, or the job of a command with its lines since, newest first.
pub data Job : Type 0 where
  free : Job
  works : (command : Command) (since : List Line) → Job

-- A job with one line more.
abbrev pub with_line : Line → Job → Job
with_line line free = free
with_line line (works command since) = works command (line ∷ since)

-- The job after a command was taken: a halt is a line of the job that it stops, and any other
-- command begins its own.
abbrev pub begun : Command → Job → Job
begun (command.Halt addr) before = with_line (taken (command.Halt addr)) before
begun c before = works c []

-- The job at an address: that of the last command taken there, and none where it has ended or the
-- power was cut.
abbrev pub job : List Line → Job
job [] = free
job (taken c ∷ past) = begun c (job past)
job (ended end ∷ past) = free
job (restarted ∷ past) = free
job (exchange asked got ∷ past) = with_line (exchange asked got) (job past)
job (scanned check addr rest ∷ past) = with_line (scanned check addr rest) (job past)
job (put entry ∷ past) = with_line (put entry) (job past)
job (accepted coin ∷ past) = job past
job (inhibited place ∷ past) = job past
job (alien ∷ past) = job past
job (fell ∷ past) = job past
job (reset ∷ past) = job past
job (dispensed count ∷ past) = job past

-- One failed try more, where an exchange asked this header and was not answered; an exchange that
-- was answered, or asked another header, ends what is counted.
abbrev pub tries_after : ℕ → Option Request → Option Reply → ℕ → ℕ
tries_after header (Some q) None before = if header_of q == header then suc before else 0
tries_after header asked got before = 0

-- The failed tries of the row that asks a header: its exchanges without the wanted reply since the
-- last line of the job that is a wanted reply, a put, or an exchange of another row.
abbrev pub tries : ℕ → List Line → ℕ
tries header [] = 0
tries header (put entry ∷ since) = 0
tries header (exchange asked got ∷ since) = tries_after header asked got (tries header since)
tries header (line ∷ since) = tries header since

-- The credits that a reply is, or none.
abbrev pub credits_reply : Option Reply → Option Credits
credits_reply (Some (reply.credits c)) = Some c
credits_reply got = None

-- An event of a bill acceptor as it is judged: that of a held bill, which isn't accepted yet,
-- represents error 1, as that of a bill which is given back does.
abbrev pub settled : Pair → Pair
settled pair = if pair.b == 1 then record { a = 0; b = 1 } else pair

-- The events that a bill acceptor reported, as they are judged.
abbrev pub settled_events : Credits → Credits
settled_events c = record { counter = c.counter; pairs = map settled c.pairs }

-- The credits that a line read, or none where it is no answered header 229 or 159.
abbrev pub credits_line : Line → Option Credits
credits_line (exchange (Some ReadCredits) got) = credits_reply got
credits_line (exchange (Some ReadBills) got) = option_map settled_events (credits_reply got)
credits_line line = None

-- The credits that were last read.
abbrev pub credits_read : List Line → Option Credits
credits_read [] = None
credits_read (line ∷ past) = option_or (credits_line line) (credits_read past)

-- The inhibit mask that a reply is, or none.
abbrev pub mask_reply : Option Reply → Option ℕ
mask_reply (Some (reply.mask m)) = Some m
mask_reply got = None

-- The inhibit mask that a line read, or none where it is no answered header 230.
abbrev pub mask_line : Line → Option ℕ
mask_line (exchange (Some GetMask) got) = mask_reply got
mask_line line = None

-- The inhibit mask that was last read.
abbrev pub mask_read : List Line → Option ℕ
mask_read [] = None
mask_read (line ∷ past) = option_or (mask_line line) (mask_read past)

-- The accept counter that a reply is, or none.
abbrev pub accepts_reply : Option Reply → Option ℕ
accepts_reply (Some (reply.accepts count)) = Some count
accepts_reply got = None

-- The accept counter that a line read, or none where it is no answered header 225.
abbrev pub accepts_line : Line → Option ℕ
accepts_line (exchange (Some AcceptCount) got) = accepts_reply got
accepts_line line = None

-- The accept counter that was last read.
abbrev pub accepts_read : List Line → Option ℕ
accepts_read [] = None
accepts_read (line ∷ past) = option_or (accepts_line line) (accepts_read past)

-- One accept counter where this line read the credits, else an earlier one.
abbrev pub at_credits : Option Credits → Option ℕ → Option ℕ → Option ℕ
at_credits None count earlier = earlier
at_credits (Some read) count earlier = count

-- The accept counter that was last read before the credits were.
abbrev pub accepts_before : List Line → Option ℕ
accepts_before [] = None
accepts_before (line ∷ past) =
    at_credits (credits_line line) (accepts_read past) (accepts_before past)

-- An epoch with another event counter and another accept counter.
abbrev pub counted : ℕ → ℕ → EpochState → EpochState
counted counter accepts Idle = Idle
counted counter accepts (Running mask before earlier) = Running mask counter accepts

-- The epoch after a record: it begins at event counter 0 with the accept counter that it records, a
-- reading moves both, and a break or its end ends it.
abbrev pub epoch_by : Record → EpochState → EpochState
epoch_by r before = epoch_after (effect r).epoch before
  where
    epoch_after : EpochMove → EpochState → EpochState
    epoch_after move.kept before = before
    epoch_after (move.begun mask accepts) before = Running mask 0 accepts
    epoch_after (move.moved counter accepts) before = counted counter accepts before
    epoch_after move.ended before = Idle

-- The epoch of an acceptor: its inhibit mask and its recorded event counter and accept counter, or
-- none.
abbrev pub epoch : List Line → EpochState
epoch [] = Idle
epoch (put entry ∷ past) = epoch_by entry (epoch past)
epoch (line ∷ past) = epoch past

-- What the credits and the mask that a job read mean, with the accept counters before and after
-- them, beside the epoch; nothing where one of them wasn't read, or no epoch runs.
abbrev pub judged_by : ℕ → EpochState → Option Credits → Option ℕ → Option ℕ → Option ℕ → Judged
judged_by addr (Running mask counter accepts) (Some c) (Some seen) (Some before) (Some now) =
    judge addr mask counter accepts c seen before now
judged_by addr state credits seen before now = Nothing

-- What a job has to do next: send a request, or put a record.
pub data Row : Type 0 where
  sends : (request : Request) → Row
  puts : (entry : Record) → Row
  no_row : Row

-- The row that puts what was judged, or another where that is nothing; none after a reading that
-- has to be made again.
abbrev pub put_or : Row → Judged → Row
put_or other Nothing = other
put_or other judged_of.Moved = no_row
put_or other (Reading entry) = puts entry
put_or other (Broken entry) = puts entry

-- The coin places.
abbrev pub coin_places : List ℕ
coin_places = 1 ∷ 2 ∷ 3 ∷ 4 ∷ 5 ∷ 6 ∷ 7 ∷ 8 ∷ 9 ∷ 10 ∷ 11 ∷ 12 ∷ 13 ∷ 14 ∷ 15 ∷ 16 ∷ []

-- What a device of a kind is asked of itself, after what every device is asked.
abbrev pub own_requests : DeviceBody → List Request
own_requests (Acceptor accepts values ids) =
    GetMaster ∷ GetDefault ∷ AcceptCount ∷ map CoinId coin_places
own_requests (Hopper life value) = TestHopper ∷ []
own_requests (Bill accepts values ids) = GetMaster ∷ AcceptCount ∷ []

-- The request that reads the event counter and the last events of a kind of device.
abbrev pub credits_request : DeviceBody → Request
credits_request (Acceptor accepts values ids) = ReadCredits
credits_request (Hopper life value) = ReadCredits
credits_request (Bill accepts values ids) = ReadBills

-- All that a device is asked of itself, in this order.
abbrev pub ident_requests : DeviceBody → List Request
ident_requests body =
    MakerId ∷ Category ∷ ProductCode ∷ SerialNumber ∷ SoftwareRevision ∷ BuildCode ∷ CommsRevision
    ∷ own_requests body

-- The request that sets a sorter path; place 0 sets the default path.
abbrev pub path_set : ℕ → ℕ → Request
path_set place path = if place == 0 then SetDefault path else SetPath place path

-- The request that reads it back.
abbrev pub path_read : ℕ → Request
path_read place = if place == 0 then GetDefault else GetPath place

-- What the lines of a job show beside what they judge: whether its payout is to be stopped, the
-- life count that was last read, the order that is open, and the accept counter that was last read.
pub record Noted : Type 0 where
  pub is_marked : Bool
  pub life : Option ℕ
  pub owed : Option OpenOrder
  pub accepts : Option ℕ

-- The row that begins an epoch, with the accept counter that was read.
abbrev pub begin_row : ℕ → ℕ → Option ℕ → Row
begin_row addr mask None = no_row
begin_row addr mask (Some accepts) = puts (record_of.Epoch addr mask accepts)

-- The row that asks how a payout goes, or that stops it.
abbrev pub state_row : Bool → Row
state_row marked = sends (if marked then StopNow else GetStatus)

-- The row that opens an order, with the life count that was read.
abbrev pub open_row : ℕ → ℕ → ℕ → Option ℕ → Row
open_row addr id count None = no_row
open_row addr id count (Some life) = puts (record_of.Opened id addr count life)

-- The row that closes the open order, with the life count that was read.
abbrev pub close_row : Option OpenOrder → Option ℕ → Row
close_row (Some o) (Some life) = puts (close o life)
close_row owed life = no_row

-- The address of a command: a scan is at 0, and a sale at 1.
abbrev pub address_of : Command → ℕ
address_of c = (shape_of c).address

-- What the lines of a job mean, beside the epoch.
abbrev pub judged_in : Command → List Line → EpochState → Judged
judged_in c since state =
    judged_by (address_of c) state (credits_read since) (mask_read since) (accepts_before since)
    (accepts_read since)

-- What the lines of a job show beside that, and the open order.
abbrev pub noted_in : List Line → Option OpenOrder → Noted
noted_in since owed =
    record {
      is_marked = is_marked since;
      life = life_read since;
      owed = owed;
      accepts =
          accepts_read since;
    }

-- The end of a payment by the record that closes its order.
abbrev pub end_of_close : Record → Option End
end_of_close (record_of.Closed id paid unpaid) = Some Closed
end_of_close (record_of.Odd id life_before life_after) = Some OddLife
end_of_close r = None

-- The end that the credits bring to a start: an acceptor that was just reset has event counter 0.
abbrev pub end_of_credits : ℕ → Option End
end_of_credits counter = if counter == 0 then None else Some (Unquiet counter)

-- A reading that has to be made again ends its job.
abbrev pub end_of_moving : Judged → Option End
end_of_moving judged_of.Moved = Some Moved
end_of_moving judged = None

-- A reading that means nothing ends a round clean, and one that has to be made again ends it too.
abbrev pub end_of_reading : Judged → Option End
end_of_reading Nothing = Some Clean
end_of_reading judged_of.Moved = Some Moved
end_of_reading (Reading entry) = None
end_of_reading (Broken entry) = None

-- The third failed try in succession ends a job.
abbrev pub end_of_tries : ℕ → Option End
end_of_tries failed = if failed == 3 then Some NoAnswer else None
