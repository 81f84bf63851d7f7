-- What is promised of the money of what live hosts reported, against what happened to the devices
-- of their world.
use Rattle.std.specs.Prelude.{◌≡◌, ◌⊎◌, ℕ, suc, ◌+◌, ◌==◌, List, [], ◌∷◌, ◌++◌, length, reverse}
use Rattle.std.specs.Prelude.{if◌then◌else◌, Option, Some, None, ⊤}
use Rattle.cct_model.specs.terms.coin.Coin.{Coin}
use Rattle.cct_model.specs.terms.device.DeviceSetup.{DeviceSetup}
use Rattle.cct_model.specs.terms.device.Setup.{Setup}
use Rattle.cct_model.specs.lines.record.Record.{Record}
use Rattle.cct_model.specs.lines.entry.Entry.{Entry}
use Rattle.cct_model.specs.lines.entry.Entry.TheVariants as entry
use Rattle.cct_model.specs.Claims.{AllPast, Pace, coins, mark, tally}
use Rattle.cct_model.specs.Claims as claims
use Rattle.cct_model.specs.Device.{IsAcceptor, IsHopper}
use Rattle.cct_model.specs.Line.{Line}
use Rattle.cct_model.specs.Order.{order}
use Rattle.cct_model.specs.Paid.{AreFresh, Paid, fallen}
use Rattle.cct_model.specs.Records.{records, records_at}
use Rattle.cct_model.specs.Sums.{coins_lost, coins_paid, coins_posted, posts_of, sum_in}
use Rattle.cct_model.specs.Transcript.{lines_of}
use Rattle.cct_laws.specs.Law.{IsOf}
use Rattle.cct_laws.specs.Tallying.{AlwaysTallies}

-- The records that hosts reported of a device, newest first.
abbrev pub records_told : DeviceSetup → List Entry → List Record
records_told d past = records_at d.addr (records past)

-- The coins that records post, newest first.
abbrev pub posted : List Record → List Coin
posted [] = []
posted (r ∷ before) = reverse (posts_of r) ++ posted before

-- Coins are among others in the same order: each is one of the others, and no two are the same one.
abbrev pub AreAmong : List Coin → List Coin → Type 0
AreAmong [] whole = ⊤
AreAmong (coin ∷ some) [] = ⊥
AreAmong (coin ∷ some) (other ∷ whole) =
    ((coin ≡ other) × AreAmong some whole) ⊎ AreAmong (coin ∷ some) whole

-- The coins that an acceptor accepted in a world, newest first.
abbrev pub accepted_at : ℕ → List Entry → List Coin
accepted_at addr [] = []
accepted_at addr (entry.Accepted at coin ∷ past) =
    if at == addr then coin ∷ accepted_at addr past else accepted_at addr past
accepted_at addr (e ∷ past) = accepted_at addr past

-- How many coins fell out of a hopper in a world.
abbrev pub fell_at : ℕ → List Entry → ℕ
fell_at addr [] = 0
fell_at addr (entry.Fell at ∷ past) =
    if at == addr then suc (fell_at addr past) else fell_at addr past
fell_at addr (e ∷ past) = fell_at addr past

-- Where a line reports up to some coins, these are as many as all that were posted and all that
-- were reported as lost.
abbrev pub CountsTo : Option (List Coin) → ℕ → Type 0
CountsTo None many = ⊤
CountsTo (Some known) many = length known ≡ many

-- So at a line, with all that was posted and lost up to it.
abbrev pub CountedAt : List Line → Line → Type 0
CountedAt past line = CountsTo (claims.told past line) (tally (line ∷ past))

-- The money of what live hosts reported is right in their world. Both are given newest entry first.
pub record IsRightIn (setup : Setup) (world past : List Entry) : Type 0 where
  -- No id is used twice.
  pub fresh : AreFresh (records past)
  -- What is posted of an acceptor, of coins or of bills, is what it accepted, in that order, and
  -- nothing of it twice.
  pub posts : (d : DeviceSetup) → IsOf setup d →
      AreAmong (posted (records_told d past)) (coins (lines_of d world))
  -- Of a coin acceptor these are the coins that fell in and were accepted.
  pub accepted : (d : DeviceSetup) → IsAcceptor d.body → coins (lines_of d world)
      ≡ accepted_at d.addr world
  -- After each completed reading as many were posted and reported as lost as had been accepted
  -- before it, at the pace; after any other line as many as at the last one.
  pub counted : (d : DeviceSetup) → IsOf setup d → Pace (lines_of d world) →
      AllPast CountedAt (lines_of d world)
  pub tallies : (d : DeviceSetup) → IsOf setup d → Pace (lines_of d world) →
      AlwaysTallies (lines_of d world)
  -- And so are in the end those that the records show.
  pub recorded : (d : DeviceSetup) → IsOf setup d → Pace (lines_of d world)
      → sum_in coins_posted (records_told d past) + sum_in coins_lost (records_told d past)
      ≡ mark (lines_of d world)
  -- Each order is dispensed at most once, and closed with exactly the coins that fell for it.
  pub paid : (d : DeviceSetup) → IsOf setup d → IsHopper d.body → Paid (lines_of d world)
  -- All coins that fell are those of the closed orders, and those that fell for the open one.
  pub fell : (d : DeviceSetup) → IsOf setup d → IsHopper d.body
      → fell_at d.addr world ≡ sum_in coins_paid (records_told d past) + fallen (lines_of d world)
  pub closed : (d : DeviceSetup) → IsOf setup d → IsHopper d.body → order (lines_of d world) ≡ None
      → fell_at d.addr world ≡ sum_in coins_paid (records_told d past)
