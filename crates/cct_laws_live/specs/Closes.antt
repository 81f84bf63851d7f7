-- What closes an order, whatever the wire does: two life counts of its hopper that were heard in
-- their turn, and between them a state with no coin left to pay.
use Rattle.std.specs.Prelude.{◌≡◌, ◌||◌, ℕ, ◌+◌, ◌<◌, Bool, true, false, List, [], ◌∷◌}
use Rattle.std.specs.Prelude.{if◌then◌else◌, Some, ⊤}
use Rattle.cct_model.specs.terms.device.DeviceSetup.{DeviceSetup}
use Rattle.cct_model.specs.terms.request.Request.TheVariants.{Dispense, GetStatus, GetLife}
use Rattle.cct_model.specs.declared.judging.OpenOrder.{OpenOrder}
use Rattle.cct_model.specs.lines.record.Record.{Record}
use Rattle.cct_model.specs.lines.record.Record.TheVariants as record_of
use Rattle.cct_model.specs.lines.entry.Entry.{Entry}
use Rattle.cct_model.specs.lines.command.Command.TheVariants as command
use Rattle.cct_model.specs.Line.{Line, exchange, put, taken, restarted}
use Rattle.cct_model.specs.Order.{order, life_between}
use Rattle.cct_model.specs.Reply as reply
use Rattle.cct_laws_live.specs.Posts.{Has, HasOver, HaveInTurn, since_taken}
use Rattle.cct_laws_live.specs.Recording.{IsRecordedBy}

-- At a line a job begins anew: a command is taken, or a host starts. A halt is a line of the job
-- that it stops.
abbrev pub begins_anew : Line → Bool
begins_anew (taken (command.Halt addr)) = false
begins_anew (taken c) = true
begins_anew restarted = true
begins_anew line = false

-- At a line an order is opened, or its dispense is sent: the payout is to come.
abbrev pub is_sending : Line → Bool
is_sending (put (record_of.Opened id addr count life)) = true
is_sending (exchange (Some (Dispense serial count)) got) = true
is_sending line = false

-- At a line a job begins, or its payout is to come.
abbrev pub begins_wait : Line → Bool
begins_wait line = begins_anew line || is_sending line

-- The lines since a job began, opened its order and sent its dispense.
abbrev pub since_sent : List Line → List Line
since_sent [] = []
since_sent (line ∷ past) = if begins_wait line then [] else line ∷ since_sent past

-- The line of an answered header 168, which reads this life count.
abbrev pub life_heard : ℕ → Line
life_heard count = exchange (Some GetLife) (Some (reply.life count))

-- The line of an answered header 166, by which the hopper has no coin left to pay.
abbrev pub none_left_heard : ℕ → ℕ → ℕ → Line
none_left_heard events paid unpaid =
    exchange (Some GetStatus) (Some (reply.status events 0 paid unpaid))

-- An order was opened, by whichever job and host.
abbrev pub WasOpened : List Line → OpenOrder → Type 0
WasOpened lines o = Has lines (put (record_of.Opened o.id o.addr o.count o.life))

-- The lines before a record: without the start of the host, where it was kept when the power was
-- cut.
abbrev pub before_start : List Line → List Line
before_start (restarted ∷ past) = past
before_start past = past

-- An order was opened where its life count had been heard since a command was taken.
abbrev pub WasHeardOpen : List Line → OpenOrder → Type 0
WasHeardOpen lines o =
    HasOver lines (put (record_of.Opened o.id o.addr o.count o.life))
    (λ older. Has (since_taken (before_start older)) (life_heard o.life))

-- A record closes an order at a life count: paid are as many coins as the two life counts show, and
-- unpaid the others of its count. Where they show more than its count, both are recorded.
abbrev pub Settles : OpenOrder → ℕ → Record → Type 0
Settles o life (record_of.Closed id paid unpaid) =
    (id ≡ o.id) × (paid ≡ life_between o.life life) × (paid + unpaid ≡ o.count)
Settles o life (record_of.Odd id life_before life_after) =
    (id ≡ o.id) × (life_before ≡ o.life) × (life_after ≡ life)
    × (o.count < life_between o.life life)
Settles o life r = ⊥

-- A record closes the order that is open, which was opened so. Since the job that closes it began,
-- opened it and sent its dispense, if it did, its hopper was heard to have no coin left to pay; and
-- then a life count was heard, at which the record closes it.
pub record ClosedBy (Opens : List Line → OpenOrder → Type 0) (lines : List Line) (r : Record) : Type
    0 where
  pub owed : OpenOrder
  pub life : ℕ
  pub events : ℕ
  pub paid : ℕ
  pub unpaid : ℕ
  pub is_open : order lines ≡ Some owed
  pub opened : Opens lines owed
  pub heard : HaveInTurn (since_sent lines)
      (life_heard life ∷ none_left_heard events paid unpaid ∷ [])
  pub settles : Settles owed life r

-- So does each record that closes an order. The life count at which an order is opened was heard in
-- the job that opens it.
abbrev pub CloseOf : (List Line → OpenOrder → Type 0) → List Line → Record → Type 0
CloseOf Opens lines (record_of.Opened id addr count life) =
    Has (since_taken lines) (life_heard life)
CloseOf Opens lines (record_of.Closed id paid unpaid) =
    ClosedBy Opens lines (record_of.Closed id paid unpaid)
CloseOf Opens lines (record_of.Odd id life_before life_after) =
    ClosedBy Opens lines (record_of.Odd id life_before life_after)
CloseOf Opens lines r = ⊤

-- So it is of each record of a device that is put, or kept when the power was cut.
abbrev pub CloseAt : (List Line → OpenOrder → Type 0) → DeviceSetup → List Entry → Entry → Type 0
CloseAt Opens d past e = IsRecordedBy (CloseOf Opens) d past e
