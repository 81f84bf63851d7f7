-- What holds of the lines of an acceptor: its posts are accepted coins in their order, none twice,
-- and none is lost in silence.
use Rattle.std.specs.Prelude.{◌≡◌, ℕ, ◌+◌, ◌-◌, ◌^◌, ◌<◌, ◌≤◌, nat_le, List, [], ◌∷◌, ◌++◌, length}
use Rattle.std.specs.Prelude.{take, reverse, if◌then◌else◌, Option, Some, None, ⊤}
use Rattle.cct_model.specs.terms.coin.Coin.{Coin}
use Rattle.cct_model.specs.lines.record.Record.{Record}
use Rattle.cct_model.specs.lines.record.Record.TheVariants as record_of
use Rattle.cct_model.specs.lines.entry.End.TheVariants.{Clean}
use Rattle.cct_model.specs.Line.{Line, accepted, put, ended}
use Rattle.cct_model.specs.Job.{credits_line, mask_line}
use Rattle.cct_model.specs.Sums.{is_item, coins_lost, coins_posted}

-- The coins that were accepted, newest first.
abbrev pub coins : List Line → List Coin
coins [] = []
coins (accepted coin ∷ past) = coin ∷ coins past
coins (_ ∷ past) = coins past

-- All that came before, where this line read something, else what came before an earlier such line.
abbrev pub behind : {A : Type 0} → Option A → List Line → List Line → List Line
behind None past earlier = earlier
behind (Some read) past earlier = past

-- All that came before the last reading of the credits, which is the last answered header 229 or
-- 159.
abbrev pub reading : List Line → List Line
reading [] = []
reading (line ∷ past) = behind (credits_line line) past (reading past)

-- All that came before the last reading of the mask, which is the last answered header 230.
abbrev pub looking : List Line → List Line
looking [] = []
looking (line ∷ past) = behind (mask_line line) past (looking past)

-- Up to which coins a record that is an item reports, newest first. A reading reports up to those
-- that were accepted before the credits were read; a break, before the mask was read; the begin and
-- the end of an epoch report all that were accepted.
abbrev pub known_by : Record → List Line → List Coin
known_by (record_of.Reading addr counter lost accepts posted) past = coins (reading past)
known_by (record_of.Broken addr seen counter lost accepts posted) past = coins (looking past)
known_by r past = coins past

-- The same, and none where the record is no item.
abbrev pub told_by : Record → List Line → Option (List Coin)
told_by r past = if is_item r then Some (known_by r past) else None

-- An item is a record of an acceptor, or a clean end, which shows as a reading does. Up to which
-- coins it reports.
abbrev pub told : List Line → Line → Option (List Coin)
told past (put entry) = told_by entry past
told past (ended Clean) = Some (coins (reading past))
told past line = None

-- How many coins an item reports, or as many as before.
abbrev pub count_or : ℕ → Option (List Coin) → ℕ
count_or before None = before
count_or before (Some told) = length told

-- The mark is the number of coins up to which the last item reports, 0 before any.
abbrev pub mark : List Line → ℕ
mark [] = 0
mark (line ∷ past) = count_or (mark past) (told past line)

-- The part of an item that reports up to these coins: those of them after the mark of the item
-- before it, newest first.
abbrev pub part : List Line → List Coin → List Coin
part past known = take (length known - mark past) known

-- Of the coins up to two moments, those up to the earlier one.
abbrev pub fewer : List Coin → List Coin → List Coin
fewer one other = if nat_le (length one) (length other) then one else other

-- Posted coins, oldest first, are the newest of these.
abbrev pub AreNewest : List Coin → List Coin → Type 0
AreNewest posted newest = (older : List Coin) × (newest ≡ reverse posted ++ older)

-- A record's posts are the newest coins of its part, in their order; of a break, the newest of
-- those that were accepted before its credits were read. No coin was accepted between an epoch and
-- the item before it.
abbrev pub PostsOf : List Line → Record → Type 0
PostsOf past (record_of.Epoch addr mask accepts) = part past (coins past) ≡ []
PostsOf past (record_of.Reading addr counter lost accepts posted) =
    AreNewest posted (part past (coins (reading past)))
PostsOf past (record_of.Broken addr seen counter lost accepts posted) =
    AreNewest posted (part past (fewer (coins (reading past)) (coins (looking past))))
PostsOf past r = ⊤

-- An item shows no fewer coins than the item before it.
abbrev pub GoesOn : List Line → Option (List Coin) → Type 0
GoesOn past None = ⊤
GoesOn past (Some known) = mark past ≤ length known

-- An item shows no fewer coins than the item before it, and its posts are the newest coins of its
-- part.
abbrev pub OrderAt : List Line → Line → Type 0
OrderAt past (put entry) = GoesOn past (told_by entry past) × PostsOf past entry
OrderAt past (ended Clean) = mark past ≤ length (coins (reading past))
OrderAt past line = ⊤

-- The coins of the part of a reading or of a break are as many as it posts and as it reports as
-- lost, and no coin is between the end of an epoch and the item before it.
abbrev pub UnpostedOf : List Line → Record → Type 0
UnpostedOf past (record_of.Reading addr counter lost accepts posted) =
    length (part past (coins (reading past))) ≡ lost + length posted
UnpostedOf past (record_of.Broken addr seen counter lost accepts posted) =
    length (part past (coins (looking past))) ≡ lost + length posted
UnpostedOf past (record_of.EpochEnd addr) = part past (coins past) ≡ []
UnpostedOf past r = ⊤

-- Each coin of an item's part is posted or reported as lost, and a clean end has no coin in its
-- part.
abbrev pub CoverAt : List Line → Line → Type 0
CoverAt past (put entry) = UnpostedOf past entry
CoverAt past (ended Clean) = part past (coins (reading past)) ≡ []
CoverAt past line = ⊤

-- How many coins the records of these lines post and report as lost.
abbrev pub tally : List Line → ℕ
tally [] = 0
tally (put entry ∷ past) = (coins_lost entry + coins_posted entry) + tally past
tally (line ∷ past) = tally past

-- The coins up to the mark are as many as all that were posted and all that were reported as lost.
abbrev pub Tallies : List Line → Type 0
Tallies lines = mark lines ≡ tally lines

-- How many coins had been accepted when an epoch began, after a record.
abbrev pub base_by : Record → List Line → Option ℕ → Option ℕ
base_by (record_of.Epoch addr mask accepts) past before = Some (length (coins past))
base_by r past before = before

-- How many coins had been accepted when the last epoch began, or none before any.
abbrev pub base : List Line → Option ℕ
base [] = None
base (put entry ∷ past) = base_by entry past (base past)
base (line ∷ past) = base past

-- Fewer than 2 ^ 24 coins were accepted from one number of coins to another, where there is the
-- first.
abbrev pub IsNear : Option ℕ → ℕ → Type 0
IsNear None now = ⊤
IsNear (Some before) now = now < before + 2 ^ 24

-- Fewer than 2 ^ 24 coins were accepted since the last epoch began.
abbrev pub Near : List Line → Type 0
Near lines = IsNear (base lines) (length (coins lines))

-- The same after one line more.
abbrev pub PaceAt : List Line → Line → Type 0
PaceAt past line = Near (line ∷ past)

-- A fact of each line and all that came before it.
abbrev pub AllPast : (List Line → Line → Type 0) → List Line → Type 0
AllPast P [] = ⊤
AllPast P (line ∷ past) = P past line × AllPast P past

-- Posts are accepted coins in their order, none twice.
abbrev pub InOrder : List Line → Type 0
InOrder lines = AllPast OrderAt lines

-- No coin that came before a completed reading is lost in silence: each is posted or reported as
-- lost.
abbrev pub Covers : List Line → Type 0
Covers lines = AllPast CoverAt lines

-- No epoch has 2 ^ 24 coins accepted: the accept counter says how many came, modulo that number.
abbrev pub Pace : List Line → Type 0
Pace lines = AllPast PaceAt lines
