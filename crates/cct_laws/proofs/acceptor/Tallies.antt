-- Where posts are in order and no coin is lost in silence, the coins up to the mark are as many as
-- all that were posted and all that were reported as lost, after each line.
use Rattle.std.proofs.Common.{◌≡◌, ℕ, ◌+◌, ◌-◌, ◌≤◌, List, [], ◌∷◌, length, refl, ap, arith, length-take}
use Rattle.cct_model.specs.terms.coin.Coin.{Coin}
use Rattle.cct_model.specs.lines.record.Record.{Record}
use Rattle.cct_model.specs.lines.record.Record.TheVariants as record_of
use Rattle.cct_model.specs.lines.entry.End.TheVariants.{Clean}
use Rattle.cct_model.specs.Line.{Line, accepted, put, ended}
use Rattle.cct_model.specs.Claims.{coins, reading, looking, mark, part, OrderAt, UnpostedOf, CoverAt, InOrder, Covers, Pace, Tallies}
use Rattle.cct_laws.specs.Law.{lines_in}
use Rattle.cct_laws.specs.Scope.{EachTaker}
use Rattle.cct_laws.specs.Tallying.{AlwaysTallies}
use Rattle.cct_laws.proofs.acceptor.Posts.{legal_in_order, legal_covers}

-- an item that reports up to these coins

told_part : (past : List Line) (known : List Coin) (count : ℕ) → mark past ≤ length known →
    length (part past known) ≡ count → length known ≡ count + mark past
told_part past known count goes_on whole =
    omega (arith, goes_on, whole, length-take (length known - mark past) known)

told_none : (past : List Line) (known : List Coin) → mark past ≤ length known → part past known ≡ [] →
    length known ≡ mark past
told_none past known goes_on none = omega (arith, told_part past known 0 goes_on (ap length none))

-- a record
put_tallied : (past : List Line) (r : Record) → OrderAt past (put r) → UnpostedOf past r → Tallies past →
    Tallies (put r ∷ past)
put_tallied past (record_of.Epoch addr mask accepts) order cover before =
    let none = told_none past (coins past) order.0 order.1 in omega (arith, none, before)
put_tallied past (record_of.Reading addr counter lost accepts posted) order cover before =
    let whole = told_part past (coins (reading past)) (lost + length posted) order.0 cover in
    omega (arith, whole, before)
put_tallied past (record_of.Broken addr seen counter lost accepts posted) order cover before =
    let whole = told_part past (coins (looking past)) (lost + length posted) order.0 cover in
    omega (arith, whole, before)
put_tallied past (record_of.EpochEnd addr) order cover before =
    let none = told_none past (coins past) order.0 cover in omega (arith, none, before)
put_tallied past (record_of.Opened id addr count life) order cover before = omega (arith, before)
put_tallied past (record_of.Closed id paid unpaid) order cover before = omega (arith, before)
put_tallied past (record_of.Odd id life_before life_after) order cover before = omega (arith, before)
put_tallied past (record_of.Sold id price) order cover before = omega (arith, before)

-- any line
line_tallied : (past : List Line) (line : Line) → OrderAt past line → CoverAt past line → Tallies past →
    Tallies (line ∷ past)
line_tallied past (put r) order cover before = put_tallied past r order cover before
line_tallied past (ended Clean) order cover before =
    let none = told_none past (coins (reading past)) order cover in omega (arith, none, before)
line_tallied past line order cover before = before

tallied : (lines : List Line) → InOrder lines → Covers lines → Tallies lines
tallied [] order covers = refl
tallied (line ∷ past) order covers =
    line_tallied past line order.0 covers.0 (tallied past order.1 covers.1)

pub always_tallied : (lines : List Line) → InOrder lines → Covers lines → AlwaysTallies lines
always_tallied [] order covers = tt
always_tallied (line ∷ past) order covers =
    (tallied (line ∷ past) order covers, always_tallied past order.1 covers.1)

pub legal_tallies : EachTaker (λ d transcript. Pace (lines_in d transcript) → AlwaysTallies (lines_in d transcript))
legal_tallies capacity setup steps transcript d sound own taking in_range legal honest pace =
    always_tallied (lines_in d transcript)
    (legal_in_order capacity setup steps transcript d sound own taking in_range legal honest)
    (legal_covers capacity setup steps transcript d sound own taking in_range legal honest pace)

-- A reading that reports a coin before any came is wrong at once, and the coin that comes later
-- makes it right again at the begin of an epoch. That is tallied at the end alone.
abbrev lost_too_early : List Line
lost_too_early =
    put (record_of.Epoch 2 1 0) ∷ accepted (record { place = 1; path = 1 }) ∷ put (record_of.Reading 2 0 1 0 []) ∷ []

right_at_its_end : Tallies lost_too_early
right_at_its_end = refl

wrong_in_its_middle : AlwaysTallies lost_too_early → ⊥
wrong_in_its_middle always = let early : 0 ≡ 1 = always.1.1.0 in omega (arith, early)
