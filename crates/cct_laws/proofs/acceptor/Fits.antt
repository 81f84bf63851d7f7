-- What holds of a device that takes money beside its epoch, and what the rows of a job need besides; every move of the
-- device keeps both, and a bill that is stacked keeps what holds in an epoch.
use Rattle.std.proofs.Common.{◌≡◌, ◌≢◌, ℕ, ◌+◌, ◌-◌, ◌<◌, ◌≤◌, Bool, true, false, List, [], ◌∷◌, length, take, ap, sym, ◌∙◌, arith, Option, Some, None}
use Rattle.std.specs.Prelude.{⊤}
use Rattle.cct_model.specs.terms.coin.Coin.{Coin}
use Rattle.cct_model.specs.terms.coin.Credits.{Credits}
use Rattle.cct_model.specs.terms.device.DeviceSetup.{DeviceSetup}
use Rattle.cct_model.specs.terms.request.Request.TheVariants.{ResetDevice, ReadCredits, ReadBills, SetMaster, GetMask, AcceptCount, SetMask, RouteBill}
use Rattle.cct_model.specs.lines.record.Record.{Record}
use Rattle.cct_model.specs.lines.record.Record.TheVariants as record_of
use Rattle.cct_model.specs.declared.judging.Judged.{Judged}
use Rattle.cct_model.specs.declared.judging.Judged.TheVariants.{Nothing, Moved, Reading, Broken}
use Rattle.cct_model.specs.declared.judging.EpochState.{EpochState}
use Rattle.cct_model.specs.declared.judging.EpochState.TheVariants.{Idle, Running}
use Rattle.cct_model.specs.Line.{Line}
use Rattle.cct_model.specs.Job.{Job, free, works, epoch, credits_read, mask_read, accepts_before, accepts_read, judged_in}
use Rattle.cct_model.specs.Reading.{distance, posted_of}
use Rattle.cct_model.specs.Rows.{if_quiet, new_epoch, reading, epoch_end, TableRow, asks_for, asks_once, waits_for_coins, puts_due, rest}
use Rattle.cct_model.specs.Claims as claims
use Rattle.cct_model.specs.Claims.{coins, looking, mark, base, fewer, AreNewest, IsNear}
use Rattle.cct_laws.specs.Moving.{counting}
use Rattle.cct_laws.proofs.acceptor.BesideCoins.{World, Shut, Silent, IsLive, Tracks, Goes, On, mask_at, count_from, count_at, tracks_on, closed}

-- what was read so far, which no object changes: the mark, the base and the epoch; the coins before the last reading of the
-- credits, before the last look at the mask, before the last reading of the accept counter, and before the one that stands
-- before the credits
pub record ReadSoFar : Type 0 where
  pub mark : ℕ
  pub base : Option ℕ
  pub epoch : EpochState
  pub known : List Coin
  pub seen : List Coin
  pub counted : List Coin
  pub first : List Coin

abbrev pub read_so_far : List Line → ReadSoFar
read_so_far lines = record {
  mark = mark lines;
  base = base lines;
  epoch = epoch lines;
  known = coins (claims.reading lines);
  seen = coins (looking lines);
  counted = coins (counting lines);
  first = coins (counting (claims.reading lines));
}

-- what a job read: the credits, the mask, the accept counter before the credits, and the last one
pub record Notes : Type 0 where
  pub credits : Option Credits
  pub seen : Option ℕ
  pub before : Option ℕ
  pub now : Option ℕ

abbrev pub notes_in : List Line → Notes
notes_in since = record {
  credits = credits_read since;
  seen = mask_read since;
  before = accepts_before since;
  now = accepts_read since;
}

-- outside of an epoch no coin is accepted, and none came after the mark
pub record Rests (w : World) (m : ℕ) : Type 0 where
  pub shut : Shut w
  pub marked : length w.coins ≡ m

-- in an epoch the recorded event counter and the mark are those of one moment, and so is the recorded accept counter under
-- the pace
pub record Runs (w : World) (m : ℕ) (from : Option ℕ) (mask c accepts : ℕ) : Type 0 where
  pub begun : ℕ
  pub based : from ≡ Some begun
  pub least : begun ≤ m
  pub live : IsLive w mask
  pub tracks : Tracks w mask c m
  pub exact : IsNear from (length w.coins) → accepts ≡ count_from w.start m

abbrev pub StateOf : World → ℕ → Option ℕ → EpochState → Type 0
StateOf w m from Idle = Rests w m
StateOf w m from (Running mask c accepts) = Runs w m from mask c accepts

abbrev pub IsIdle : EpochState → Type 0
IsIdle Idle = ⊤
IsIdle (Running mask c accepts) = ⊥

abbrev pub IsRunning : EpochState → Type 0
IsRunning Idle = ⊥
IsRunning (Running mask c accepts) = ⊤

-- the accept counter was read, before any credits of this reading
pub record Begins (w : World) (b : ReadSoFar) (notes : Notes) : Type 0 where
  pub running : IsRunning b.epoch
  pub read : notes.now ≡ Some (count_from w.start (length b.counted))
  pub goes_on : b.mark ≤ length b.counted
  pub few : length b.counted ≤ length w.coins

-- and then the credits
pub record Begun (w : World) (b : ReadSoFar) (notes : Notes) : Type 0 where
  pub read : notes.before ≡ Some (count_from w.start (length b.first))
  pub goes_on : b.mark ≤ length b.first
  pub few : length b.first ≤ length b.known

-- posts are the newest coins after the mark of those that were read
pub record Reads (b : ReadSoFar) (posted : List Coin) : Type 0 where
  pub goes_on : b.mark ≤ length b.known
  pub newest : AreNewest posted (take (length b.known - b.mark) b.known)

-- what the event counter that was read shows beside the recorded one
pub record Counts (c k : ℕ) : Type 0 where
  pub none : distance c k ≡ 0 → c ≡ k
  pub first : k ≡ 0 → c ≡ 0

-- a job holds the credits that it read
pub record Held (w : World) (b : ReadSoFar) (mask c : ℕ) (notes : Notes) : Type 0 where
  pub credits : Credits
  pub read : notes.credits ≡ Some credits
  pub begun : Begun w b notes
  pub reads : Reads b (posted_of (distance c credits.counter) credits.pairs)
  pub counts : mask_at w ≡ mask → Counts c credits.counter
  pub tracks : Tracks w mask credits.counter (length b.known)

abbrev pub HeldIn : World → ReadSoFar → EpochState → Notes → Type 0
HeldIn w b Idle notes = ⊥
HeldIn w b (Running mask c accepts) notes = Held w b mask c notes

-- and it looked at the mask: if that was the epoch's, the event counter says what came; else the acceptor is silent, and
-- no coin came since
pub record Sees (w : World) (b : ReadSoFar) (mask c : ℕ) (notes : Notes) : Type 0 where
  pub credits : Credits
  pub read : notes.credits ≡ Some credits
  pub begun : Begun w b notes
  pub reads : Reads b (posted_of (distance c credits.counter) credits.pairs)
  pub tracks : Tracks w mask credits.counter (length b.known)
  pub seen : ℕ
  pub looked : notes.seen ≡ Some seen
  pub few : length b.known ≤ length b.seen
  pub same : seen ≡ mask → Counts c credits.counter
  pub other : seen ≢ mask → Silent w × (length w.coins ≡ length b.seen)

abbrev pub SeesIn : World → ReadSoFar → EpochState → Notes → Type 0
SeesIn w b Idle notes = ⊥
SeesIn w b (Running mask c accepts) notes = Sees w b mask c notes

-- the reading that a job has to put
abbrev pub TracksIn : World → EpochState → ℕ → ℕ → Type 0
TracksIn w Idle k m = ⊥
TracksIn w (Running mask c accepts) k m = Tracks w mask k m

pub record Posts (w : World) (b : ReadSoFar) (k lost accepts : ℕ) (posted : List Coin) : Type 0 where
  pub reads : Reads b posted
  pub covers : IsNear b.base (length w.coins) →
      length (take (length b.known - b.mark) b.known) ≡ lost + length posted
  pub tracks : TracksIn w b.epoch k (length b.known)
  pub exact : IsNear b.base (length w.coins) → accepts ≡ count_from w.start (length b.known)

abbrev pub PostsAs : World → ReadSoFar → Record → Type 0
PostsAs w b (record_of.Reading addr k lost accepts posted) = Posts w b k lost accepts posted
PostsAs w b r = ⊥

-- the break that a job has to put: the acceptor is silent, and no coin came since the look at the mask
pub record Breaks (w : World) (b : ReadSoFar) (lost : ℕ) (posted : List Coin) : Type 0 where
  pub goes_on : b.mark ≤ length b.seen
  pub newest : AreNewest posted (take (length (fewer b.known b.seen) - b.mark) (fewer b.known b.seen))
  pub covers : IsNear b.base (length w.coins) →
      length (take (length b.seen - b.mark) b.seen) ≡ lost + length posted
  pub silent : Silent w
  pub marked : length w.coins ≡ length b.seen

abbrev pub BreaksAs : World → ReadSoFar → Record → Type 0
BreaksAs w b (record_of.Broken addr seen k lost accepts posted) = Breaks w b lost posted
BreaksAs w b r = ⊥

-- the reading showed no coin after the mark, so that the mark can go up to it
pub record Nears (w : World) (b : ReadSoFar) : Type 0 where
  pub goes_on : b.mark ≤ length b.known
  pub none : IsNear b.base (length w.coins) → length b.known ≤ b.mark
  pub state : StateOf w (length b.known) b.base b.epoch

abbrev pub Ready : World → ReadSoFar → Judged → Type 0
Ready w b Nothing = Nears w b
Ready w b Moved = length b.first < length b.counted
Ready w b (Reading entry) = PostsAs w b entry
Ready w b (Broken entry) = BreaksAs w b entry

-- an epoch begins, whose mask isn't set yet
pub record Waits (w : World) (b : ReadSoFar) (mask : ℕ) : Type 0 where
  pub accepts : ℕ
  pub running : b.epoch ≡ Running mask 0 accepts
  pub silent : Silent w
  pub marked : length w.coins ≡ b.mark
  pub based : b.base ≡ Some b.mark
  pub exact : accepts ≡ count_from w.start b.mark

-- among these rows is one that ends the epoch
abbrev pub ends_epoch : List TableRow → Bool
ends_epoch [] = false
ends_epoch (puts_due epoch_end behind ∷ rows) = true
ends_epoch (row ∷ rows) = ends_epoch rows

abbrev pub IfOver : Bool → Type 0 → Type 0
IfOver true F = F
IfOver false F = ⊤

pub if_over : (over : Bool) (F G : Type 0) → (F → G) → IfOver over F → IfOver over G
if_over true F G weaker fact = weaker fact
if_over false F G weaker fact = tt

-- every coin is inhibited, and none came since the accept counter was read
abbrev pub IsShutSince : World → ReadSoFar → Type 0
IsShutSince w b = Shut w × (length w.coins ≡ length b.counted)

-- and none came since the last reading, nor since the accept counter before it
abbrev pub IsStill : World → ReadSoFar → Type 0
IsStill w b = Shut w × (length w.coins ≡ length b.known) × (length w.coins ≡ length b.first)

-- what a row that reads the accept counter needs, by the row after it: it begins an epoch, it reads the credits, or it puts
-- what was read
abbrev pub CountsAt : World → ReadSoFar → List TableRow → Notes → Type 0
CountsAt w b (puts_due (new_epoch mask) behind ∷ rows) notes = IsIdle b.epoch × Silent w
CountsAt w b (puts_due reading behind ∷ rows) notes =
    SeesIn w b b.epoch notes × IfOver (ends_epoch rows) (IsStill w b)
CountsAt w b (asks_for ReadCredits behind ∷ rows) notes = IsRunning b.epoch × IfOver (ends_epoch rows) (Shut w)
CountsAt w b (asks_for ReadBills behind ∷ rows) notes = IsRunning b.epoch × IfOver (ends_epoch rows) (Shut w)
CountsAt w b rows notes = ⊤

-- what a job needs, by the first of the rows that are left. No epoch runs before the row that begins one, and the acceptor
-- is silent from its reset on. One runs before its readings, and where a bill is routed. Where the rows end it, no coin
-- comes any more from the row on that inhibits all coins
abbrev pub FitsAt : World → ReadSoFar → List TableRow → Notes → Judged → Type 0
FitsAt w b [] notes judged = ⊤
FitsAt w b (asks_for ResetDevice behind ∷ rows) notes judged = IsIdle b.epoch
FitsAt w b (asks_for ReadCredits if_quiet ∷ rows) notes judged = IsIdle b.epoch × Silent w
FitsAt w b (asks_for ReadCredits behind ∷ rows) notes judged =
    Begins w b notes × IfOver (ends_epoch rows) (IsShutSince w b)
FitsAt w b (asks_for ReadBills if_quiet ∷ rows) notes judged = IsIdle b.epoch × Silent w
FitsAt w b (asks_for ReadBills behind ∷ rows) notes judged =
    Begins w b notes × IfOver (ends_epoch rows) (IsShutSince w b)
FitsAt w b (asks_for (SetMaster value) behind ∷ rows) notes judged = IsRunning b.epoch
FitsAt w b (asks_for GetMask behind ∷ rows) notes judged =
    HeldIn w b b.epoch notes × IfOver (ends_epoch rows) (IsStill w b)
FitsAt w b (asks_for AcceptCount behind ∷ rows) notes judged = CountsAt w b rows notes
FitsAt w b (asks_for q behind ∷ rows) notes judged = FitsAt w b rows notes judged
FitsAt w b (asks_once (SetMask mask) behind without ∷ rows) notes judged = Waits w b mask
FitsAt w b (asks_once (RouteBill way) behind without ∷ rows) notes judged = IsRunning b.epoch
FitsAt w b (asks_once q behind without ∷ rows) notes judged = ⊤
FitsAt w b (waits_for_coins ∷ rows) notes judged = ⊤
FitsAt w b (puts_due (new_epoch mask) behind ∷ rows) notes judged =
    IsIdle b.epoch × Silent w × (notes.now ≡ Some (count_at w))
FitsAt w b (puts_due reading behind ∷ rows) notes judged = Ready w b judged × IfOver (ends_epoch rows) (IsStill w b)
FitsAt w b (puts_due epoch_end behind ∷ rows) notes judged = Rests w b.mark
FitsAt w b (puts_due due behind ∷ rows) notes judged = ⊤

-- what the rows after one need, of whatever it brings: that the acceptor is silent outside of an epoch, credits, that every
-- coin is inhibited, a mask, an accept counter, an epoch, and a reading that goes into an epoch which ends
abbrev pub AfterReset : List TableRow → Type 0
AfterReset rows = (w : World) (b : ReadSoFar) (notes : Notes) (judged : Judged) → IsIdle b.epoch → Silent w →
    FitsAt w b rows notes judged

abbrev pub AfterCredits : List TableRow → Type 0
AfterCredits rows = (w : World) (b : ReadSoFar) (notes : Notes) (judged : Judged) → HeldIn w b b.epoch notes →
    IfOver (ends_epoch rows) (IsStill w b) → FitsAt w b rows notes judged

abbrev pub AfterShut : List TableRow → Type 0
AfterShut rows = (w : World) (b : ReadSoFar) (notes : Notes) (judged : Judged) → IsRunning b.epoch → Shut w →
    FitsAt w b rows notes judged

abbrev pub AfterMask : List TableRow → Type 0
AfterMask rows = (w : World) (b : ReadSoFar) (notes : Notes) (judged : Judged) → SeesIn w b b.epoch notes →
    IfOver (ends_epoch rows) (IsStill w b) → FitsAt w b rows notes judged

abbrev pub AfterCount : List TableRow → Type 0
AfterCount (puts_due (new_epoch mask) behind ∷ rows) = ⊤
AfterCount (puts_due reading behind ∷ rows) = ⊤
AfterCount (asks_for ReadCredits behind ∷ rows) = (w : World) (b : ReadSoFar) (notes : Notes) (judged : Judged) →
    Begins w b notes → IfOver (ends_epoch rows) (IsShutSince w b) → FitsAt w b (asks_for ReadCredits behind ∷ rows) notes judged
AfterCount (asks_for ReadBills behind ∷ rows) = (w : World) (b : ReadSoFar) (notes : Notes) (judged : Judged) →
    Begins w b notes → IfOver (ends_epoch rows) (IsShutSince w b) → FitsAt w b (asks_for ReadBills behind ∷ rows) notes judged
AfterCount rows = (w : World) (b : ReadSoFar) (notes : Notes) (judged : Judged) → FitsAt w b rows notes judged

abbrev pub AfterEpoch : ℕ → List TableRow → Type 0
AfterEpoch mask rows = (w : World) (b : ReadSoFar) (notes : Notes) (judged : Judged) → Waits w b mask →
    FitsAt w b rows notes judged

abbrev pub AfterReading : List TableRow → Type 0
AfterReading rows = (w : World) (b : ReadSoFar) (notes : Notes) (judged : Judged) → Rests w b.mark →
    FitsAt w b rows notes judged

-- what a job needs
abbrev pub Fits : DeviceSetup → World → ReadSoFar → Job → Type 0
Fits d w b free = ⊤
Fits d w b (works c since) = FitsAt w b (rest d c since) (notes_in since) (judged_in c since b.epoch)

-- a move of the acceptor keeps it all

-- what is so of fewer coins than 2 ^ 24 since the epoch began is so of fewer than these
pub near_less : (from : Option ℕ) (fewer more : ℕ) → fewer ≤ more → IsNear from more → IsNear from fewer
near_less None fewer more less near = tt
near_less (Some begun) fewer more less near = omega (arith, less, near)

pub near_on : (w v : World) (from : Option ℕ) → Goes w v → IsNear from (length v.coins) → IsNear from (length w.coins)
near_on w v from goes near = near_less from (length w.coins) (length v.coins) goes.longer near

count_on : (w v : World) (n : ℕ) → Goes w v → count_from w.start n ≡ count_from v.start n
count_on w v n goes = ap (λ start. count_from start n) (sym goes.starts)

read_on : (w v : World) (found : Option ℕ) (n : ℕ) → Goes w v → found ≡ Some (count_from w.start n) →
    found ≡ Some (count_from v.start n)
read_on w v found n goes read = read ∙ ap Some (count_on w v n goes)

rests_on : (w v : World) (m : ℕ) → On w v → Rests w m → Rests v m
rests_on w v m on rests = record { shut = on.shut rests.shut; marked = ap length (on.same rests.shut) ∙ rests.marked }

runs_on : (w v : World) (m : ℕ) (from : Option ℕ) (mask c accepts : ℕ) → Goes w v → Runs w m from mask c accepts →
    Runs v m from mask c accepts
runs_on w v m from mask c accepts goes runs = record {
  begun = runs.begun;
  based = runs.based;
  least = runs.least;
  live = goes.live mask runs.live;
  tracks = tracks_on w v mask c m goes runs.tracks;
  exact = λ near. runs.exact (near_on w v from goes near) ∙ count_on w v m goes;
}

pub state_on : (w v : World) (m : ℕ) (from : Option ℕ) (state : EpochState) → On w v → StateOf w m from state →
    StateOf v m from state
state_on w v m from Idle on rests = rests_on w v m on rests
state_on w v m from (Running mask c accepts) on runs = runs_on w v m from mask c accepts on.goes runs

-- a bill that is stacked in an epoch keeps what holds then
pub running_on : (w v : World) (m : ℕ) (from : Option ℕ) (state : EpochState) → IsRunning state → Goes w v →
    StateOf w m from state → StateOf v m from state
running_on w v m from Idle running goes rests = absurd running
running_on w v m from (Running mask c accepts) running goes runs = runs_on w v m from mask c accepts goes runs

begins_on : (w v : World) (b : ReadSoFar) (notes : Notes) → On w v → Begins w b notes → Begins v b notes
begins_on w v b notes on begins = record {
  running = begins.running;
  read = read_on w v notes.now (length b.counted) on.goes begins.read;
  goes_on = begins.goes_on;
  few = omega (arith, begins.few, on.goes.longer);
}

begun_on : (w v : World) (b : ReadSoFar) (notes : Notes) → On w v → Begun w b notes → Begun v b notes
begun_on w v b notes on begun = record {
  read = read_on w v notes.before (length b.first) on.goes begun.read;
  goes_on = begun.goes_on;
  few = begun.few;
}

held_on : (w v : World) (b : ReadSoFar) (state : EpochState) (notes : Notes) → On w v → HeldIn w b state notes → HeldIn v b state notes
held_on w v b Idle notes on held = absurd held
held_on w v b (Running mask c accepts) notes on held = record {
  credits = held.credits;
  read = held.read;
  begun = begun_on w v b notes on held.begun;
  reads = held.reads;
  counts = λ is_mask. held.counts (on.goes.masked mask held.tracks.nonzero is_mask);
  tracks = tracks_on w v mask held.credits.counter (length b.known) on.goes held.tracks;
}

sees_on : (w v : World) (b : ReadSoFar) (state : EpochState) (notes : Notes) → On w v → SeesIn w b state notes → SeesIn v b state notes
sees_on w v b Idle notes on sees = absurd sees
sees_on w v b (Running mask c accepts) notes on sees = record {
  credits = sees.credits;
  read = sees.read;
  begun = begun_on w v b notes on sees.begun;
  reads = sees.reads;
  tracks = tracks_on w v mask sees.credits.counter (length b.known) on.goes sees.tracks;
  seen = sees.seen;
  looked = sees.looked;
  few = sees.few;
  same = sees.same;
  other = λ other.
      let still = sees.other other in
      (on.silent still.0, ap length (on.same (closed w still.0.masked)) ∙ still.1);
}

tracks_in_on : (w v : World) (state : EpochState) (k m : ℕ) → On w v → TracksIn w state k m → TracksIn v state k m
tracks_in_on w v Idle k m on tracks = absurd tracks
tracks_in_on w v (Running mask c accepts) k m on tracks = tracks_on w v mask k m on.goes tracks

posts_on : (w v : World) (b : ReadSoFar) (entry : Record) → On w v → PostsAs w b entry → PostsAs v b entry
posts_on w v b (record_of.Reading addr k lost accepts posted) on posts = record {
  reads = posts.reads;
  covers = λ near. posts.covers (near_on w v b.base on.goes near);
  tracks = tracks_in_on w v b.epoch k (length b.known) on posts.tracks;
  exact = λ near. posts.exact (near_on w v b.base on.goes near) ∙ count_on w v (length b.known) on.goes;
}
posts_on w v b r on posts = absurd posts

breaks_on : (w v : World) (b : ReadSoFar) (entry : Record) → On w v → BreaksAs w b entry → BreaksAs v b entry
breaks_on w v b (record_of.Broken addr seen k lost accepts posted) on breaks = record {
  goes_on = breaks.goes_on;
  newest = breaks.newest;
  covers = λ near. breaks.covers (near_on w v b.base on.goes near);
  silent = on.silent breaks.silent;
  marked = ap length (on.same (closed w breaks.silent.masked)) ∙ breaks.marked;
}
breaks_on w v b r on breaks = absurd breaks

ready_on : (w v : World) (b : ReadSoFar) (judged : Judged) → On w v → Ready w b judged → Ready v b judged
ready_on w v b Nothing on ready = record {
  goes_on = ready.goes_on;
  none = λ near. ready.none (near_on w v b.base on.goes near);
  state = state_on w v (length b.known) b.base b.epoch on ready.state;
}
ready_on w v b Moved on ready = ready
ready_on w v b (Reading entry) on ready = posts_on w v b entry on ready
ready_on w v b (Broken entry) on ready = breaks_on w v b entry on ready

waits_on : (w v : World) (b : ReadSoFar) (mask : ℕ) → On w v → Waits w b mask → Waits v b mask
waits_on w v b mask on waits = record {
  accepts = waits.accepts;
  running = waits.running;
  silent = on.silent waits.silent;
  marked = ap length (on.same (closed w waits.silent.masked)) ∙ waits.marked;
  based = waits.based;
  exact = waits.exact ∙ count_on w v b.mark on.goes;
}

still_on : (w v : World) (b : ReadSoFar) (over : Bool) → On w v → IfOver over (IsStill w b) → IfOver over (IsStill v b)
still_on w v b over on =
    if_over over (IsStill w b) (IsStill v b)
    (λ still. (on.shut still.0, ap length (on.same still.0) ∙ still.1, ap length (on.same still.0) ∙ still.2))

since_on : (w v : World) (b : ReadSoFar) (over : Bool) → On w v → IfOver over (IsShutSince w b) →
    IfOver over (IsShutSince v b)
since_on w v b over on =
    if_over over (IsShutSince w b) (IsShutSince v b) (λ shut. (on.shut shut.0, ap length (on.same shut.0) ∙ shut.1))

shut_on : (w v : World) (over : Bool) → On w v → IfOver over (Shut w) → IfOver over (Shut v)
shut_on w v over on = if_over over (Shut w) (Shut v) on.shut

-- no coin comes while the acceptor is silent
silent_count : (w v : World) (found : Option ℕ) → On w v → Silent w → found ≡ Some (count_at w) → found ≡ Some (count_at v)
silent_count w v found on silent read =
    read_on w v found (length w.coins) on.goes read
    ∙ ap (λ cs. Some (count_from v.start (length cs))) (sym (on.same (closed w silent.masked)))

counts_on : (w v : World) (b : ReadSoFar) (rows : List TableRow) (notes : Notes) → On w v → CountsAt w b rows notes →
    CountsAt v b rows notes
counts_on w v b (puts_due (new_epoch mask) behind ∷ rows) notes on fits = (fits.0, on.silent fits.1)
counts_on w v b (puts_due reading behind ∷ rows) notes on fits =
    (sees_on w v b b.epoch notes on fits.0, still_on w v b (ends_epoch rows) on fits.1)
counts_on w v b (asks_for ReadCredits behind ∷ rows) notes on fits = (fits.0, shut_on w v (ends_epoch rows) on fits.1)
counts_on w v b (asks_for ReadBills behind ∷ rows) notes on fits = (fits.0, shut_on w v (ends_epoch rows) on fits.1)
counts_on w v b rows notes on fits = tt

pub at_on : (w v : World) (b : ReadSoFar) (rows : List TableRow) (notes : Notes) (judged : Judged) → On w v →
    FitsAt w b rows notes judged → FitsAt v b rows notes judged
at_on w v b [] notes judged on fits = tt
at_on w v b (asks_for ResetDevice behind ∷ rows) notes judged on fits = fits
at_on w v b (asks_for ReadCredits if_quiet ∷ rows) notes judged on fits = (fits.0, on.silent fits.1)
at_on w v b (asks_for ReadCredits behind ∷ rows) notes judged on fits =
    (begins_on w v b notes on fits.0, since_on w v b (ends_epoch rows) on fits.1)
at_on w v b (asks_for ReadBills if_quiet ∷ rows) notes judged on fits = (fits.0, on.silent fits.1)
at_on w v b (asks_for ReadBills behind ∷ rows) notes judged on fits =
    (begins_on w v b notes on fits.0, since_on w v b (ends_epoch rows) on fits.1)
at_on w v b (asks_for (SetMaster value) behind ∷ rows) notes judged on fits = fits
at_on w v b (asks_for GetMask behind ∷ rows) notes judged on fits =
    (held_on w v b b.epoch notes on fits.0, still_on w v b (ends_epoch rows) on fits.1)
at_on w v b (asks_for AcceptCount behind ∷ rows) notes judged on fits = counts_on w v b rows notes on fits
at_on w v b (asks_for q behind ∷ rows) notes judged on fits = at_on w v b rows notes judged on fits
at_on w v b (asks_once (SetMask mask) behind without ∷ rows) notes judged on fits = waits_on w v b mask on fits
at_on w v b (asks_once (RouteBill way) behind without ∷ rows) notes judged on fits = fits
at_on w v b (asks_once q behind without ∷ rows) notes judged on fits = tt
at_on w v b (waits_for_coins ∷ rows) notes judged on fits = tt
at_on w v b (puts_due (new_epoch mask) behind ∷ rows) notes judged on fits =
    (fits.0, on.silent fits.1, silent_count w v notes.now on fits.1 fits.2)
at_on w v b (puts_due reading behind ∷ rows) notes judged on fits =
    (ready_on w v b judged on fits.0, still_on w v b (ends_epoch rows) on fits.1)
at_on w v b (puts_due epoch_end behind ∷ rows) notes judged on fits = rests_on w v b.mark on fits
at_on w v b (puts_due due behind ∷ rows) notes judged on fits = tt

pub fits_on : (d : DeviceSetup) (w v : World) (b : ReadSoFar) (at_work : Job) → On w v → Fits d w b at_work →
    Fits d v b at_work
fits_on d w v b free on fits = tt
fits_on d w v b (works c since) on fits =
    at_on w v b (rest d c since) (notes_in since) (judged_in c since b.epoch) on fits
