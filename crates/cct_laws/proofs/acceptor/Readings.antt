-- What an acceptor's credits, then its mask and then its accept counter show, where they are read
-- while an epoch runs.
use Rattle.std.proofs.Common.{◌≡◌, ◌≢◌, ℕ, ◌+◌, ◌-◌, ◌<◌, ◌≤◌, ◌==◌, ◌&&◌, inl, inr, min, cond, Bool, true, false, List, [], ◌++◌, length, take, drop, reverse, replicate, refl, ap, sym, ◌∙◌, subst, subst₂, Option, Some, arith, eqb-true, take-append-drop, length-append, length-take}
use Rattle.std.specs.Prelude.{◌^◌}
use Rattle.std.proofs.lemmas.Bool.{le-leb, and_parts}
use Rattle.std.proofs.lemmas.Bool.Decides.{nat_tests}
use Rattle.std.proofs.lemmas.List.{length-reverse, nil_from_length}
use Rattle.cct_model.specs.terms.coin.Pair.{Pair}
use Rattle.cct_model.specs.terms.coin.Coin.{Coin}
use Rattle.cct_model.specs.terms.coin.Credits.{Credits}
use Rattle.cct_model.specs.lines.record.Record.TheVariants as record_of
use Rattle.cct_model.specs.declared.judging.Judged.TheVariants.{Nothing, Moved, Reading, Broken}
use Rattle.cct_model.specs.declared.judging.EpochState.{EpochState}
use Rattle.cct_model.specs.declared.judging.EpochState.TheVariants.{Idle, Running}
use Rattle.cct_model.specs.Reading.{coins_among, posted_of, distance, accepted_between, shows_break, shows_move, judge}
use Rattle.cct_model.specs.Acceptor.{counter, last_five, no_event}
use Rattle.cct_model.specs.Job.{judged_by}
use Rattle.cct_model.specs.Claims.{AreNewest, IsNear, fewer}
use Rattle.cct_epoch.proofs.Counters.{distance_most, counter_same, counter_zero}
use Rattle.cct_laws.proofs.acceptor.NewestEvents.{coins_among-append, take_front, posted_newest}
use Rattle.cct_laws.proofs.acceptor.BesideCoins.{World, Silent, After, IsLive, Tracks, mask_at, count_from, count_at}
use Rattle.cct_laws.proofs.acceptor.Fits.{ReadSoFar, Notes, StateOf, Runs, IsRunning, Begun, Reads, Counts, HeldIn, Sees, SeesIn, Posts, Breaks, Nears, Ready}

-- what is read of an acceptor
abbrev pub credits_at : World → Credits
credits_at w = record { counter = counter (length w.events); pairs = last_five w.events }

-- a silent acceptor's buffer has no coin

none_taken : (n : ℕ) (xs : List Pair) → coins_among xs ≡ [] → coins_among (take n xs) ≡ []
none_taken n xs none =
    let whole : length (coins_among (take n xs)) + length (coins_among (drop n xs)) ≡ 0 =
    sym (length-append (coins_among (take n xs)) (coins_among (drop n xs))) ∙ ap length (sym (coins_among-append (take n xs) (drop n xs)) ∙ ap coins_among (take-append-drop n xs) ∙ none) in
    nil_from_length (coins_among (take n xs)) (omega (arith, whole))

none_posted : (n : ℕ) (events : List Pair) → coins_among events ≡ [] → posted_of n (last_five events) ≡ []
none_posted n events none =
    let blank = replicate 5 no_event in
    ap reverse (none_taken (min n 5) (last_five events) (none_taken 5 (events ++ blank) (coins_among-append events blank ∙ ap (λ cs. cs ++ []) none)))

-- what is read after a moment

length_events : (w : World) (k m : ℕ) (after : After w k m) → length w.events ≡ length after.new + length after.old
length_events w k m after = ap length after.split ∙ length-append after.new after.old

part_after : (w : World) (k m : ℕ) (after : After w k m) → take (length w.coins - m) w.coins ≡ coins_among after.new
part_after w k m after = rw (after.coins_are, ← after.marked) (take_front (coins_among after.new) after.before)

most_after : (w : World) (k m : ℕ) (after : After w k m) → distance k (counter (length w.events)) ≤ length after.new
most_after w k m after = rw (← after.counted, length_events w k m after) (distance_most (length after.new) (length after.old))

newest_after : (w : World) (k m : ℕ) → After w k m →
    AreNewest (posted_of (distance k (counter (length w.events))) (last_five w.events)) (take (length w.coins - m) w.coins)
newest_after w k m after =
    let n = distance k (counter (length w.events)) in
    rw (part_after w k m after)
    (subst (λ es. AreNewest (posted_of n (last_five es)) (coins_among after.new)) (sym after.split) (posted_newest after.new after.old n (most_after w k m after)))

newest_silent : (w : World) (m n : ℕ) → Silent w →
    AreNewest (posted_of n (last_five w.events)) (take (length w.coins - m) w.coins)
newest_silent w m n silent =
    let rest = take (length w.coins - m) w.coins in
    let none : AreNewest [] rest = (rest, refl) in
    subst (λ posted. AreNewest posted rest) (sym (none_posted n w.events silent.none)) none

newest_now : (w : World) (m : ℕ) (from : Option ℕ) (mask c accepts : ℕ) → Runs w m from mask c accepts →
    AreNewest (posted_of (distance c (counter (length w.events))) (last_five w.events)) (take (length w.coins - m) w.coins)
newest_now w m from mask c accepts runs = elim runs.live as (λ _. AreNewest (posted_of (distance c (counter (length w.events))) (last_five w.events)) (take (length w.coins - m) w.coins)) [
  | inl is ↦ newest_after w c m (runs.tracks.after is)
  | inr silent ↦ newest_silent w m (distance c (counter (length w.events))) silent
]

counts_after : (w : World) (k m : ℕ) → After w k m → Counts k (counter (length w.events))
counts_after w k m after =
    let count = length_events w k m after in
    record {
      none = λ none. sym after.counted ∙ counter_same (length after.new) (length after.old) (subst₂ (λ c n. distance c (counter n) ≡ 0) (sym after.counted) count none) ∙ ap counter (sym count);
      first = λ first. sym after.counted ∙ counter_zero (length after.new) (length after.old) (ap counter (sym count) ∙ first);
    }

-- the credits just read stand after all events
after_now : (w : World) → After w (counter (length w.events)) (length w.coins)
after_now w = record { new = []; old = w.events; before = w.coins; split = refl; coins_are = refl; counted = refl; marked = refl }

reads_known : (w : World) (b : ReadSoFar) (posted : List Coin) → b.known ≡ w.coins → b.mark ≤ length w.coins →
    AreNewest posted (take (length w.coins - b.mark) w.coins) → Reads b posted
reads_known w b posted known marked newest = record {
  goes_on = subst (λ cs. b.mark ≤ length cs) (sym known) marked;
  newest = subst (λ cs. AreNewest posted (take (length cs - b.mark) cs)) (sym known) newest;
}

tracks_known : (w : World) (b : ReadSoFar) (mask : ℕ) → b.known ≡ w.coins → mask ≢ 0 →
    Tracks w mask (counter (length w.events)) (length b.known)
tracks_known w b mask known some = record {
  nonzero = some;
  after = λ is. subst (λ cs. After w (counter (length w.events)) (length cs)) (sym known) (after_now w);
}

-- a job holds the credits that it just read
pub held_now : (w : World) (b : ReadSoFar) (state : EpochState) (notes : Notes) → b.known ≡ w.coins →
    notes.credits ≡ Some (credits_at w) → b.mark ≤ length w.coins → IsRunning state → Begun w b notes →
    StateOf w b.mark b.base state → HeldIn w b state notes
held_now w b Idle notes known read marked running begun runs = absurd running
held_now w b (Running mask c accepts) notes known read marked running begun runs = record {
  credits = credits_at w;
  read = read;
  begun = begun;
  reads = reads_known w b _ known marked (newest_now w b.mark b.base mask c accepts runs);
  counts = λ is. counts_after w c b.mark (runs.tracks.after is);
  tracks = tracks_known w b mask known runs.tracks.nonzero;
}

-- the lines show this at a look at the mask
abbrev pub looked_at : World → ReadSoFar → ReadSoFar
looked_at w b = record {
  mark = b.mark;
  base = b.base;
  epoch = b.epoch;
  known = b.known;
  seen = w.coins;
  counted = b.counted;
  first = b.first;
}

abbrev pub with_mask : Notes → ℕ → Notes
with_mask notes mask = record { credits = notes.credits; seen = Some mask; before = notes.before; now = notes.now }

pub sees_now : (w : World) (b : ReadSoFar) (state : EpochState) (notes : Notes) → length b.known ≤ length w.coins →
    StateOf w b.mark b.base state → HeldIn w b state notes → SeesIn w (looked_at w b) state (with_mask notes (mask_at w))
sees_now w b Idle notes few runs held = absurd held
sees_now w b (Running mask c accepts) notes few runs held = record {
  credits = held.credits;
  read = held.read;
  begun = record { read = held.begun.read; goes_on = held.begun.goes_on; few = held.begun.few };
  reads = record { goes_on = held.reads.goes_on; newest = held.reads.newest };
  tracks = held.tracks;
  seen = mask_at w;
  looked = refl;
  few = few;
  same = λ is. held.counts is;
  other = λ other. (silent_now w mask other runs.live, refl);
}
  where
    silent_now : (w : World) (mask : ℕ) → mask_at w ≢ mask → IsLive w mask → Silent w
    silent_now w mask other (inl is) = absurd (other is)
    silent_now w mask other (inr silent) = silent

-- what accept counters show, of fewer coins than 2 ^ 24

same_count : (start fewer more : ℕ) → fewer ≤ more → more < fewer + 2 ^ 24 → count_from start fewer ≡ count_from start more →
    fewer ≡ more
same_count start fewer more less near same = omega (arith, less, near, same)

gained : (start fewer more : ℕ) → fewer ≤ more → more < fewer + 2 ^ 24 →
    accepted_between (count_from start fewer) (count_from start more) ≡ more - fewer
unfolding accepted_between
gained start fewer more less near = omega (arith, less, near)

-- there are no more newest coins than coins
newest_most : (posted newest : List Coin) → AreNewest posted newest → length posted ≤ length newest
newest_most posted newest are =
    let whole : length newest ≡ length posted + length are.0 =
    ap length are.1 ∙ length-append (reverse posted) are.0 ∙ ap (λ n. n + length are.0) (length-reverse posted) in
    omega (arith, whole)

part_length : (cs : List Coin) (m : ℕ) → length (take (length cs - m) cs) ≡ length cs - m
part_length cs m = omega (arith, length-take (length cs - m) cs)

unposted : (part gained posted : ℕ) → part ≡ gained → posted ≤ part → part ≡ (gained - posted) + posted
unposted part gained posted same most = omega (arith, same, most)

-- what they show of a reading of an epoch

near_mark : (w : World) (m : ℕ) (from : Option ℕ) (mask c accepts : ℕ) → Runs w m from mask c accepts →
    IsNear from (length w.coins) → length w.coins < m + 2 ^ 24
near_mark w m from mask c accepts runs near =
    let close : IsNear (Some runs.begun) (length w.coins) = subst (λ base. IsNear base (length w.coins)) runs.based near in
    omega (arith, close, runs.least)

gained_now : (w : World) (m : ℕ) (from : Option ℕ) (mask c accepts : ℕ) → m ≤ length w.coins → Runs w m from mask c accepts →
    IsNear from (length w.coins) → accepted_between accepts (count_at w) ≡ length w.coins - m
gained_now w m from mask c accepts marked runs near =
    ap (λ count. accepted_between count (count_at w)) (runs.exact near)
    ∙ gained w.start m (length w.coins) marked (near_mark w m from mask c accepts runs near)

-- no coin came while the reading was made, so those that it knows are all
still_now : (w : World) (b : ReadSoFar) (mask c accepts : ℕ) (notes : Notes) → length b.known ≤ length w.coins →
    Runs w b.mark b.base mask c accepts → Sees w b mask c notes → count_from w.start (length b.first) ≡ count_at w →
    IsNear b.base (length w.coins) → length b.known ≡ length w.coins
still_now w b mask c accepts notes few runs sees same near =
    let close = near_mark w b.mark b.base mask c accepts runs near in
    let begun = sees.begun in
    let all : length b.first ≡ length w.coins = same_count w.start (length b.first) (length w.coins)
    (omega (arith, begun.few, few)) (omega (arith, close, begun.goes_on)) same in
    omega (arith, all, begun.few, few)

-- the tests of the judgement

no_break : (mask recorded read : ℕ) → (read ≡ 0 → recorded ≡ 0) → shows_break mask recorded mask read ≡ false
no_break mask recorded read on = grind (arith, nat_tests)

same_mask : (mask recorded seen read : ℕ) → shows_break mask recorded seen read ≡ false → seen ≡ mask
same_mask mask recorded seen read fine = grind (arith, nat_tests)

other_mask : (mask recorded seen read : ℕ) → (seen ≡ mask → Counts recorded read) →
    shows_break mask recorded seen read ≡ true → seen ≢ mask
other_mask mask recorded seen read counts breaks is =
    clash (sym breaks ∙ ap (λ m. shows_break mask recorded m read) is ∙ no_break mask recorded read (counts is).first)
  where
    clash : true ≡ false → ⊥
    clash e = cc

counts_differ : (mask seen before now : ℕ) → shows_move mask seen before now ≡ true → before ≢ now
counts_differ mask seen before now moves same = clash (sym moves ∙ no_move mask seen before now same)
  where
    no_move : (mask seen before now : ℕ) → before ≡ now → shows_move mask seen before now ≡ false
    no_move mask seen before now same = grind (arith, nat_tests)

    clash : true ≡ false → ⊥
    clash e = cc

counts_same : (mask seen before now : ℕ) → seen ≡ mask → shows_move mask seen before now ≡ false → before ≡ now
counts_same mask seen before now is stays = grind (arith, nat_tests)

fewer_is : (known seen : List Coin) → length known ≤ length seen → fewer known seen ≡ known
fewer_is known seen few = rw (le-leb (length known) (length seen) few) refl

-- the lines show this at the second reading of the accept counter
abbrev pub counted_at : World → ReadSoFar → EpochState → ReadSoFar
counted_at w b state = record {
  mark = b.mark;
  base = b.base;
  epoch = state;
  known = b.known;
  seen = b.seen;
  counted = w.coins;
  first = b.first;
}

-- a coin came between the two
moves_now : (w : World) (b : ReadSoFar) → length b.first ≤ length w.coins →
    count_from w.start (length b.first) ≢ count_at w → length b.first < length w.coins
moves_now w b few differ =
    let other : length b.first ≢ length w.coins = λ same. differ (ap (count_from w.start) same) in
    omega (arith, few, other)

-- the mask is another: the acceptor was reset
breaks_now : (w : World) (b : ReadSoFar) (mask c accepts : ℕ) (notes : Notes) → b.mark ≤ length w.coins →
    Runs w b.mark b.base mask c accepts → (sees : Sees w b mask c notes) → sees.seen ≢ mask →
    Breaks w (counted_at w b (Running mask c accepts))
    (accepted_between accepts (count_at w) - length (posted_of (distance c sees.credits.counter) sees.credits.pairs))
    (posted_of (distance c sees.credits.counter) sees.credits.pairs)
breaks_now w b mask c accepts notes marked runs sees other =
    let posted = posted_of (distance c sees.credits.counter) sees.credits.pairs in
    let still = sees.other other in
    let most = newest_most posted (take (length b.known - b.mark) b.known) sees.reads.newest in
    record {
      goes_on = omega (arith, sees.reads.goes_on, sees.few);
      newest = subst (λ cs. AreNewest posted (take (length cs - b.mark) cs)) (sym (fewer_is b.known b.seen sees.few)) sees.reads.newest;
      covers = λ near.
          unposted (length (take (length b.seen - b.mark) b.seen)) (accepted_between accepts (count_at w)) (length posted)
          (part_length b.seen b.mark ∙ ap (λ n. n - b.mark) (sym still.1)
          ∙ sym (gained_now w b.mark b.base mask c accepts marked runs near))
          (omega (arith, most, part_length b.known b.mark, part_length b.seen b.mark, sees.few));
      silent = still.0;
      marked = still.1;
    }

-- it is that of the epoch, and nothing came: the mark goes up to what was read
nears_now : (w : World) (b : ReadSoFar) (mask c accepts : ℕ) (notes : Notes) → b.mark ≤ length w.coins →
    length b.known ≤ length w.coins → Runs w b.mark b.base mask c accepts → (sees : Sees w b mask c notes) → sees.seen ≡ mask →
    distance c sees.credits.counter ≡ 0 → accepted_between accepts (count_at w) ≡ 0 →
    Nears w (counted_at w b (Running mask c accepts))
nears_now w b mask c accepts notes marked few runs sees is none no_coins =
    let nothing : IsNear b.base (length w.coins) → length w.coins ≡ b.mark = λ near.
    let g = gained_now w b.mark b.base mask c accepts marked runs near in omega (arith, g, no_coins, marked) in
    record {
      goes_on = sees.reads.goes_on;
      none = λ near. let all = nothing near in omega (arith, all, few);
      state = record {
        begun = runs.begun;
        based = runs.based;
        least = omega (arith, runs.least, sees.reads.goes_on);
        live = runs.live;
        tracks = record {
          nonzero = runs.tracks.nonzero;
          after = λ is_mask. earlier (sees.tracks.after is_mask) ((sees.same is).none none);
        };
        exact = λ near.
            let all = nothing near in
            let same : b.mark ≡ length b.known = omega (arith, all, few, sees.reads.goes_on) in
            runs.exact near ∙ ap (count_from w.start) same;
      };
    }
  where
    earlier : {w : World} {c k m : ℕ} → After w k m → c ≡ k → After w c m
    earlier after same = record {
      new = after.new;
      old = after.old;
      before = after.before;
      split = after.split;
      coins_are = after.coins_are;
      counted = after.counted ∙ sym same;
      marked = after.marked;
    }

-- it is that of the epoch, and something came: the reading is to be put
posts_now : (w : World) (b : ReadSoFar) (mask c accepts : ℕ) (notes : Notes) → b.mark ≤ length w.coins →
    length b.known ≤ length w.coins → Runs w b.mark b.base mask c accepts → (sees : Sees w b mask c notes) →
    count_from w.start (length b.first) ≡ count_at w →
    Posts w (counted_at w b (Running mask c accepts)) sees.credits.counter
    (accepted_between accepts (count_at w) - length (posted_of (distance c sees.credits.counter) sees.credits.pairs))
    (count_at w) (posted_of (distance c sees.credits.counter) sees.credits.pairs)
posts_now w b mask c accepts notes marked few runs sees same =
    let posted = posted_of (distance c sees.credits.counter) sees.credits.pairs in
    let most = newest_most posted (take (length b.known - b.mark) b.known) sees.reads.newest in
    let all : IsNear b.base (length w.coins) → length b.known ≡ length w.coins =
    still_now w b mask c accepts notes few runs sees same in
    record {
      reads = record { goes_on = sees.reads.goes_on; newest = sees.reads.newest };
      covers = λ near.
          unposted (length (take (length b.known - b.mark) b.known)) (accepted_between accepts (count_at w)) (length posted)
          (part_length b.known b.mark ∙ ap (λ n. n - b.mark) (all near)
          ∙ sym (gained_now w b.mark b.base mask c accepts marked runs near)) most;
      tracks = sees.tracks;
      exact = λ near. ap (count_from w.start) (sym (all near));
    }

-- by the three tests of the judgement
judged_tests : (w : World) (b : ReadSoFar) (mask c accepts addr : ℕ) (notes : Notes) (sees : Sees w b mask c notes)
    (moves breaks none : Bool) → b.mark ≤ length w.coins → length b.known ≤ length w.coins →
    Runs w b.mark b.base mask c accepts →
    shows_move mask sees.seen (count_from w.start (length b.first)) (count_at w) ≡ moves →
    shows_break mask c sees.seen sees.credits.counter ≡ breaks →
    ((distance c sees.credits.counter == 0) && (accepted_between accepts (count_at w) == 0)) ≡ none →
    Ready w (counted_at w b (Running mask c accepts))
    (cond moves Moved
    (cond breaks
    (Broken (record_of.Broken addr sees.seen sees.credits.counter
    (accepted_between accepts (count_at w) - length (posted_of (distance c sees.credits.counter) sees.credits.pairs))
    (count_at w) (posted_of (distance c sees.credits.counter) sees.credits.pairs)))
    (cond none Nothing
    (Reading (record_of.Reading addr sees.credits.counter
    (accepted_between accepts (count_at w) - length (posted_of (distance c sees.credits.counter) sees.credits.pairs))
    (count_at w) (posted_of (distance c sees.credits.counter) sees.credits.pairs))))))
judged_tests w b mask c accepts addr notes sees true breaks none marked few runs is_move is_break is_none =
    moves_now w b (omega (arith, sees.begun.few, few)) (counts_differ mask sees.seen _ _ is_move)
judged_tests w b mask c accepts addr notes sees false true none marked few runs is_move is_break is_none =
    breaks_now w b mask c accepts notes marked runs sees
    (other_mask mask c sees.seen sees.credits.counter sees.same is_break)
judged_tests w b mask c accepts addr notes sees false false true marked few runs is_move is_break is_none =
    let parts = and_parts _ _ is_none in
    nears_now w b mask c accepts notes marked few runs sees (same_mask mask c sees.seen sees.credits.counter is_break)
    (eqb-true _ _ parts.0) (eqb-true _ _ parts.1)
judged_tests w b mask c accepts addr notes sees false false false marked few runs is_move is_break is_none =
    posts_now w b mask c accepts notes marked few runs sees
    (counts_same mask sees.seen _ _ (same_mask mask c sees.seen sees.credits.counter is_break) is_move)

-- what a job that read all of it has to put or to end with
pub ready_now : (w : World) (b : ReadSoFar) (state : EpochState) (addr : ℕ) (notes : Notes) → b.mark ≤ length w.coins →
    length b.known ≤ length w.coins → StateOf w b.mark b.base state → SeesIn w b state notes →
    Ready w (counted_at w b state)
    (judged_by addr state notes.credits notes.seen notes.before (Some (count_at w)))
unfolding judge
ready_now w b Idle addr notes marked few runs sees = absurd sees
ready_now w b (Running mask c accepts) addr notes marked few runs sees =
    rw (sees.read, sees.looked, sees.begun.read)
    (judged_tests w b mask c accepts addr notes sees _ _ _ marked few runs refl refl refl)
