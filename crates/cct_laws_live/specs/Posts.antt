-- What is posted, whatever the wire does: by what was heard, and by the counters that were
-- recorded.
use Rattle.std.specs.Prelude.{◌≡◌, ◌⊎◌, ℕ, ◌-◌, Bool, true, false, List, [], ◌∷◌, length, map, Some}
use Rattle.std.specs.Prelude.{⊤}
use Rattle.cct_model.specs.terms.coin.Coin.{Coin}
use Rattle.cct_model.specs.terms.coin.Credits.{Credits}
use Rattle.cct_model.specs.terms.coin.Pair.{Pair}
use Rattle.cct_model.specs.terms.device.DeviceBody.{DeviceBody}
use Rattle.cct_model.specs.terms.device.DeviceBody.TheVariants.{Acceptor, Bill, Hopper}
use Rattle.cct_model.specs.terms.device.DeviceSetup.{DeviceSetup}
use Rattle.cct_model.specs.terms.request.Request.TheVariants.{GetMask, AcceptCount}
use Rattle.cct_model.specs.declared.judging.EpochState.TheVariants.{Running}
use Rattle.cct_model.specs.lines.record.Record.{Record}
use Rattle.cct_model.specs.lines.record.Record.TheVariants as record_of
use Rattle.cct_model.specs.lines.entry.Entry.{Entry}
use Rattle.cct_model.specs.lines.command.Command.TheVariants as command
use Rattle.cct_model.specs.Line.{Line, exchange, taken, restarted}
use Rattle.cct_model.specs.Job.{credits_request, epoch, settled}
use Rattle.cct_model.specs.Reading.{distance, posted_of, shows_break, accepted_between}
use Rattle.cct_model.specs.Reply as reply
use Rattle.cct_laws_live.specs.Recording.{IsRecordedBy}

-- A line is among lines, newest first, and this is so of those before it.
abbrev pub HasOver : List Line → Line → (List Line → Type 0) → Type 0
HasOver [] l P = ⊥
HasOver (x ∷ lines) l P = ((x ≡ l) × P lines) ⊎ HasOver lines l P

-- A line is among lines.
abbrev pub Has : List Line → Line → Type 0
Has lines l = HasOver lines l (λ older. ⊤)

-- Lines are among lines in this turn, the newest first.
abbrev pub HaveInTurn : List Line → List Line → Type 0
HaveInTurn lines [] = ⊤
HaveInTurn lines (l ∷ before) = HasOver lines l (λ older. HaveInTurn older before)

-- The lines since the command of a job was taken, or since a host started; a halt is a line of the
-- job that it stops.
abbrev pub since_taken : List Line → List Line
since_taken [] = []
since_taken (restarted ∷ past) = []
since_taken (taken (command.Halt addr) ∷ past) = taken (command.Halt addr) ∷ since_taken past
since_taken (taken c ∷ past) = []
since_taken (line ∷ past) = line ∷ since_taken past

-- The line of an answered header 229, or 159 at a bill acceptor, which reads these credits.
abbrev pub credits_heard : DeviceBody → Credits → Line
credits_heard body read = exchange (Some (credits_request body)) (Some (reply.credits read))

-- The events of a reply as they are judged: a bill that a bill acceptor holds counts as one that it
-- gives back.
abbrev pub as_judged : DeviceBody → List Pair → List Pair
as_judged (Acceptor accepts values ids) pairs = pairs
as_judged (Hopper life value) pairs = pairs
as_judged (Bill accepts values ids) pairs = map settled pairs

-- The line of an answered header 230, which reads this inhibit mask.
abbrev pub mask_heard : ℕ → Line
mask_heard mask = exchange (Some GetMask) (Some (reply.mask mask))

-- The line of an answered header 225, which reads this accept counter.
abbrev pub accepts_heard : ℕ → Line
accepts_heard count = exchange (Some AcceptCount) (Some (reply.accepts count))

-- Coins are posted by replies that an acceptor's address heard since the command of its job was
-- taken, in this turn: the accept counter, the credits, the inhibit mask, and the accept counter
-- again. Posted are, of that reply of the credits, the newest of as many events as its counter
-- shows since the event counter of the running epoch, and no more than a reply has; of a bill
-- acceptor none of a bill that it holds. Lost are as many as the second accept counter shows since
-- that of the epoch, without those posted. The inhibit mask and the event counter show a break, or
-- show none.
pub record PostedBy (body : DeviceBody) (lines : List Line) (breaks : Bool)
    (first seen counter lost accepts : ℕ)
    (posted : List Coin) : Type 0 where
  pub mask : ℕ
  pub before : ℕ
  pub earlier : ℕ
  pub read : Credits
  pub runs : epoch lines ≡ Running mask before earlier
  pub heard : HaveInTurn (since_taken lines)
      (accepts_heard accepts ∷ mask_heard seen ∷ credits_heard body read ∷ accepts_heard first ∷ [])
  pub counter_is : counter ≡ read.counter
  pub shows : shows_break mask before seen counter ≡ breaks
  pub posted_is : posted ≡ posted_of (distance before counter) (as_judged body read.pairs)
  pub lost_is : lost ≡ accepted_between earlier accepts - length posted

-- What a record posts was heard. A reading shows no break, and heard the same accept counter twice;
-- a break shows one. The accept counter at which an epoch begins was heard in the job that begins
-- it.
abbrev pub PostOf : DeviceBody → List Line → Record → Type 0
PostOf body lines (record_of.Epoch addr mask accepts) =
    Has (since_taken lines) (accepts_heard accepts)
PostOf body lines (record_of.Reading addr counter lost accepts posted) =
    (seen : ℕ) × PostedBy body lines false accepts seen counter lost accepts posted
PostOf body lines (record_of.Broken addr seen counter lost accepts posted) =
    (first : ℕ) × PostedBy body lines true first seen counter lost accepts posted
PostOf body lines r = ⊤

-- So does each record of a device that is put, or kept when the power was cut.
abbrev pub PostAt : DeviceSetup → List Entry → Entry → Type 0
PostAt d past e = IsRecordedBy (PostOf d.body) d past e
