-- What the counters of an acceptor show in its newest epoch, beside what was posted and reported as
-- lost.
use Rattle.std.specs.Prelude.{ℕ, ◌+◌, ◌==◌, ◌≤◌, List, [], ◌∷◌, length, if◌then◌else◌}
use Rattle.cct_model.specs.declared.judging.EpochState.{EpochState}
use Rattle.cct_model.specs.declared.judging.EpochState.TheVariants.{Idle, Running}
use Rattle.cct_model.specs.lines.record.Record.{Record}
use Rattle.cct_model.specs.lines.record.Record.TheVariants as record_of
use Rattle.cct_model.specs.Reading.{distance, accepted_between}
use Rattle.cct_model.specs.Records.{epoch_in}

-- How many events the event counters show, and how many coins are posted of them; how many coins
-- the accept counters show, and how many are reported as lost.
pub record Told : Type 0 where
  pub events : ℕ
  pub posted : ℕ
  pub accepted : ℕ
  pub lost : ℕ

-- Nothing is reported, as where an epoch begins.
abbrev pub none_told : Told
none_told = record { events = 0; posted = 0; accepted = 0; lost = 0 }

-- How many events an event counter shows since the one that was recorded; none where no epoch runs.
abbrev pub events_to : EpochState → ℕ → ℕ
events_to Idle counter = 0
events_to (Running mask before earlier) counter = distance before counter

-- How many coins an accept counter shows since the one that was recorded; none where no epoch runs.
abbrev pub accepted_to : EpochState → ℕ → ℕ
accepted_to Idle accepts = 0
accepted_to (Running mask before earlier) accepts = accepted_between earlier accepts

-- What is reported with one reading more, or one break.
abbrev pub told_with : EpochState → ℕ → ℕ → ℕ → ℕ → Told → Told
told_with state counter accepts posted lost before = record {
  events = events_to state counter + before.events;
  posted = posted + before.posted;
  accepted = accepted_to state accepts + before.accepted;
  lost = lost + before.lost;
}

-- What is reported in all since the newest epoch of the acceptor at an address began, by the
-- readings and the break there.
abbrev pub told_in : ℕ → List Record → Told
told_in addr [] = none_told
told_in addr (record_of.Epoch a mask accepts ∷ before) =
    if a == addr then none_told else told_in addr before
told_in addr (record_of.Reading a counter lost accepts posted ∷ before) =
    if a == addr then told_with (epoch_in addr before) counter accepts (length posted) lost
    (told_in addr before)
    else told_in addr before
told_in addr (record_of.Broken a seen counter lost accepts posted ∷ before) =
    if a == addr then told_with (epoch_in addr before) counter accepts (length posted) lost
    (told_in addr before)
    else told_in addr before
told_in addr (r ∷ before) = told_in addr before

-- The coins that were posted are at most as many as the event counters show events. Those that were
-- reported as lost are at most as many as the accept counters show coins, and together with those
-- posted they are at least as many.
pub record IsTallied (t : Told) : Type 0 where
  pub posts : t.posted ≤ t.events
  pub loses : t.lost ≤ t.accepted
  pub covers : t.accepted ≤ t.posted + t.lost
