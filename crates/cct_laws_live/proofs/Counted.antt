-- What was posted and reported as lost in an epoch, beside what its counters show, whatever the
-- wire does.
use Rattle.std.proofs.Common.{◌≡◌, ℕ, ◌-◌, ◌≤◌, ◌==◌, min, Bool, true, false, cond, List, [], ◌∷◌, ◌++◌, length, take, refl, sym, ◌∙◌, subst, arith, eqb-true}
use Rattle.std.proofs.lemmas.List.{length-reverse, length-take}
use Rattle.cct_model.specs.terms.coin.Coin.{Coin}
use Rattle.cct_model.specs.terms.coin.Pair.{Pair}
use Rattle.cct_model.specs.terms.coin.TheConstants.{EVENTS}
use Rattle.cct_model.specs.terms.device.DeviceSetup.{DeviceSetup}
use Rattle.cct_model.specs.declared.judging.EpochState.{EpochState}
use Rattle.cct_model.specs.declared.judging.EpochState.TheVariants.{Running}
use Rattle.cct_model.specs.lines.record.Record.{Record}
use Rattle.cct_model.specs.lines.record.Record.TheVariants as record_of
use Rattle.cct_model.specs.lines.entry.Entry.{Entry}
use Rattle.cct_model.specs.lines.entry.Entry.TheVariants as entry
use Rattle.cct_model.specs.Reading.{coins_among, distance, posted_of}
use Rattle.cct_model.specs.Records.{epoch_in, records}
use Rattle.cct_model.specs.Transcript.{lines_of, owner}
use Rattle.cct_laws.specs.Law.{EachEntry}
use Rattle.cct_laws.proofs.money.FromRecordsAlone.{epoch_recorded}
use Rattle.cct_laws_live.specs.Counters.{Told, none_told, events_to, accepted_to, told_with, told_in, IsTallied}
use Rattle.cct_laws_live.specs.Posts.{PostAt, PostOf, PostedBy, as_judged}
use Rattle.cct_laws_live.specs.Recording.{IsKeptBy}
use Rattle.cct_laws_live.proofs.Fronts.{EachFront}

none_tallied : IsTallied none_told
none_tallied = record { posts = omega arith; loses = omega arith; covers = omega arith }

-- no more coins are posted than events came
coins_few : (pairs : List Pair) → length (coins_among pairs) ≤ length pairs
coins_few [] = omega arith
coins_few (pair ∷ pairs) = by_test (pair.a == 0) (coins_few pairs)
  where
    by_test : (none : Bool) → length (coins_among pairs) ≤ length pairs →
        length (cond none (coins_among pairs) (record { place = pair.a; path = pair.b } ∷ coins_among pairs))
        ≤ length (pair ∷ pairs)
    by_test true few = omega (arith, few)
    by_test false few = omega (arith, few)

posted_few : (many : ℕ) (pairs : List Pair) → length (posted_of many pairs) ≤ many
posted_few many pairs =
    let taken = take (min many EVENTS) pairs in
    let coins = coins_few taken in
    let same = length-reverse (coins_among taken) in
    let few = length-take (min many EVENTS) pairs in
    omega (arith, coins, same, few)

-- one reading, or one break
one_more : (state : EpochState) (counter accepts posted lost : ℕ) (before : Told) → posted ≤ events_to state counter →
    lost ≡ accepted_to state accepts - posted → IsTallied before →
    IsTallied (told_with state counter accepts posted lost before)
one_more state counter accepts posted lost before few is tallied =
    let posts = tallied.posts in
    let loses = tallied.loses in
    let covers = tallied.covers in
    record {
      posts = omega (arith, few, posts);
      loses = omega (arith, is, loses);
      covers = omega (arith, is, covers);
    }

-- by what was heard
module _ (d : DeviceSetup) (past : List Entry) where
  by_posted : (breaks : Bool) (first seen counter lost accepts : ℕ) (posted : List Coin) →
      PostedBy d.body (lines_of d past) breaks first seen counter lost accepts posted → IsTallied (told_in d.addr (records past)) →
      IsTallied (told_with (epoch_in d.addr (records past)) counter accepts (length posted) lost (told_in d.addr (records past)))
  by_posted breaks first seen counter lost accepts posted by tallied =
      let state_is : Running by.mask by.before by.earlier ≡ epoch_in d.addr (records past) =
      sym by.runs ∙ epoch_recorded d past in
      subst (λ state. IsTallied (told_with state counter accepts (length posted) lost (told_in d.addr (records past))))
      state_is
      (one_more (Running by.mask by.before by.earlier) counter accepts (length posted) lost (told_in d.addr (records past))
      (subst (λ coins. length coins ≤ distance by.before counter) (sym by.posted_is)
      (posted_few (distance by.before counter) (as_judged d.body by.read.pairs))) by.lost_is tallied)

  post_tallied : (r : Record) → (owner past r ≡ d.addr → PostOf d.body (lines_of d past) r) →
      IsTallied (told_in d.addr (records past)) → IsTallied (told_in d.addr (r ∷ records past))
  post_tallied (record_of.Epoch a mask accepts) of tallied = by_test (a == d.addr)
    where
      by_test : (here : Bool) → IsTallied (cond here none_told (told_in d.addr (records past)))
      by_test true = none_tallied
      by_test false = tallied
  post_tallied (record_of.Reading a counter lost accepts posted) of tallied =
      by_test (a == d.addr) (λ here. of (eqb-true a d.addr here))
    where
      by_test : (here : Bool) → (here ≡ true → PostOf d.body (lines_of d past) (record_of.Reading a counter lost accepts posted)) →
          IsTallied (cond here (told_with (epoch_in d.addr (records past)) counter accepts (length posted) lost (told_in d.addr (records past))) (told_in d.addr (records past)))
      by_test true heard =
          let both = heard refl in by_posted false accepts both.0 counter lost accepts posted both.1 tallied
      by_test false heard = tallied
  post_tallied (record_of.Broken a seen counter lost accepts posted) of tallied =
      by_test (a == d.addr) (λ here. of (eqb-true a d.addr here))
    where
      by_test : (here : Bool) → (here ≡ true → PostOf d.body (lines_of d past) (record_of.Broken a seen counter lost accepts posted)) →
          IsTallied (cond here (told_with (epoch_in d.addr (records past)) counter accepts (length posted) lost (told_in d.addr (records past))) (told_in d.addr (records past)))
      by_test true heard =
          let both = heard refl in by_posted true both.0 seen counter lost accepts posted both.1 tallied
      by_test false heard = tallied
  post_tallied r of tallied = tallied

kept_tallied : (d : DeviceSetup) (past : List Entry) (r : Record) → IsKeptBy (PostOf d.body) d past r →
    IsTallied (told_in d.addr (records past)) → IsTallied (told_in d.addr (r ∷ records past))
kept_tallied d (entry.Crash n ∷ past) r kept tallied = post_tallied d past r kept tallied
kept_tallied d past r kept tallied = post_tallied d past r (λ here. absurd (kept here)) tallied

-- so it is over entries that post what was heard
pub front_tallied : (d : DeviceSetup) (news past : List Entry) → EachFront (PostAt d) news past →
    IsTallied (told_in d.addr (records past)) → IsTallied (told_in d.addr (records (news ++ past)))
front_tallied d [] past front tallied = tallied
front_tallied d (entry.Put r ∷ news) past front tallied =
    post_tallied d (news ++ past) r front.0 (front_tallied d news past front.1 tallied)
front_tallied d (entry.Kept r ∷ news) past front tallied =
    kept_tallied d (news ++ past) r front.0 (front_tallied d news past front.1 tallied)
front_tallied d (e ∷ news) past front tallied = front_tallied d news past front.1 tallied

pub each_tallied : (d : DeviceSetup) (past : List Entry) → EachEntry (PostAt d) past →
    IsTallied (told_in d.addr (records past))
each_tallied d [] each = none_tallied
each_tallied d (entry.Put r ∷ past) each = post_tallied d past r each.0 (each_tallied d past each.1)
each_tallied d (entry.Kept r ∷ past) each = kept_tallied d past r each.0 (each_tallied d past each.1)
each_tallied d (e ∷ past) each = each_tallied d past each.1
