-- How the items of an acceptor, its records and a clean end, keep what holds of it, and an end by which a reading has to be
-- made again.
use Rattle.std.proofs.Common.{◌≡◌, ℕ, ◌-◌, ◌<◌, ◌≤◌, List, [], ◌∷◌, length, take, refl, ap, sym, subst, Option, Some, arith, le_refl, inr}
use Rattle.cct_model.specs.terms.coin.Coin.{Coin}
use Rattle.cct_model.specs.lines.record.Record.{Record}
use Rattle.cct_model.specs.lines.record.Record.TheVariants as record_of
use Rattle.cct_model.specs.declared.judging.EpochState.{EpochState}
use Rattle.cct_model.specs.declared.judging.EpochState.TheVariants.{Idle, Running}
use Rattle.cct_model.specs.lines.entry.End.{End}
use Rattle.cct_model.specs.lines.entry.End.TheVariants.{Clean, Moved}
use Rattle.cct_model.specs.History.{Met}
use Rattle.cct_model.specs.Line.{Line, put, ended}
use Rattle.cct_model.specs.Job.{job, epoch, counted, credits_line, puts}
use Rattle.cct_model.specs.Rows.{TableRow, end_kept}
use Rattle.cct_model.specs.Claims.{coins, reading, mark, base, Near, IsNear}
use Rattle.cct_laws.specs.Moving.{counting, IsNoStop}
use Rattle.cct_laws.proofs.acceptor.BesideCoins.{World, world, Shut, Silent, count_from, closed}
use Rattle.cct_laws.proofs.acceptor.Fits.{read_so_far, StateOf, TracksIn, Posts, Breaks, Nears, IsIdle}
use Rattle.cct_laws.specs.DeviceJobs.{with_ended}
use Rattle.cct_laws.proofs.acceptor.Moves.{IsOtherEnd, Keeps, Sound, entry_is, keeps_ended, sound_line}
use Rattle.cct_laws.proofs.jobs.CountersRead.{coins_more, behind_fewer}
use Rattle.cct_model.specs.terms.device.DeviceSetup.{DeviceSetup}

-- no more coins came before the reading than before now

pub reading_fewer : (lines : List Line) → length (coins (reading lines)) ≤ length (coins lines)
reading_fewer [] = le_refl 0
reading_fewer (line ∷ lines) =
    let fewer = behind_fewer (credits_line line) lines (reading lines) (reading_fewer lines) in
    let more = coins_more line lines in
    omega (arith, fewer, more)

part_none : (cs : List Coin) (m : ℕ) → length cs ≤ m → take (length cs - m) cs ≡ []
part_none cs m few =
    let none : length cs - m ≡ 0 = omega (arith, few) in
    ap (λ i. take i cs) none

-- a clean end
pub keeps_clean : (d : DeviceSetup) (past : List Met) (lines : List Line) → Sound d past lines → Nears (world d past lines) (read_so_far lines) → Keeps d past (ended Clean ∷ lines)
keeps_clean d past lines sound nears = record {
  sound = sound_line d past past lines (ended Clean) nears.goes_on (λ near. part_none (coins (reading lines)) (mark lines) (nears.none near)) tt sound.told (reading_fewer lines) nears.state sound;
  fits = tt;
}

-- a reading has to be made again
pub keeps_moved : (d : DeviceSetup) (past : List Met) (lines : List Line) → Sound d past lines →
    length (coins (counting (reading lines))) < length (coins (counting lines)) → IsNoStop (job lines) →
    Keeps d past (ended Moved ∷ lines)
keeps_moved d past lines sound moved other = record {
  sound = sound_line d past past lines (ended Moved) tt (λ near. tt) (moved, other) sound.told sound.marked sound.state sound;
  fits = tt;
}

-- an epoch begins, whose mask isn't set yet

waiting_state : (w : World) (mask m accepts : ℕ) → 1 ≤ mask → Silent w → accepts ≡ count_from w.start m →
    StateOf w m (Some m) (Running mask 0 accepts)
waiting_state w mask m accepts some silent exact = record {
  begun = m;
  based = refl;
  least = le_refl m;
  live = inr silent;
  tracks = record { nonzero = λ none. absurd (omega (arith, some, none)); after = λ is. absurd (omega (arith, some, is, silent.masked)) };
  exact = λ near. exact;
}

rested : (w : World) (m : ℕ) (from : Option ℕ) (state : EpochState) → IsIdle state → StateOf w m from state → length w.coins ≡ m
rested w m from Idle idle rests = rests.marked
rested w m from (Running mask c accepts) idle runs = absurd idle

pub sound_epoch : (d : DeviceSetup) (past : List Met) (lines : List Line) (addr mask accepts : ℕ) → 1 ≤ mask → IsIdle (epoch lines) → Silent (world d past lines) →
    accepts ≡ count_from (world d past lines).start (length (coins lines)) → Sound d past lines →
    Sound d past (put (record_of.Epoch addr mask accepts) ∷ lines)
sound_epoch d past lines addr mask accepts some idle silent exact sound =
    let few = rested (world d past lines) (mark lines) (base lines) (epoch lines) idle sound.state in
    sound_line d past past lines (put (record_of.Epoch addr mask accepts)) (sound.marked, part_none (coins lines) (mark lines) (omega (arith, few))) (λ near. tt) tt sound.told (le_refl _)
    (waiting_state (world d past lines) mask (length (coins lines)) accepts some silent exact) sound

-- a reading

counted_state : (w : World) (m n k accepts : ℕ) (from : Option ℕ) (state : EpochState) → m ≤ n → StateOf w m from state →
    TracksIn w state k n → (IsNear from (length w.coins) → accepts ≡ count_from w.start n) →
    StateOf w n from (counted k accepts state)
counted_state w m n k accepts from Idle goes_on rests tracks exact = absurd tracks
counted_state w m n k accepts from (Running mask c before) goes_on runs tracks exact = record {
  begun = runs.begun;
  based = runs.based;
  least = omega (arith, runs.least, goes_on);
  live = runs.live;
  tracks = tracks;
  exact = exact;
}

pub sound_reading : (d : DeviceSetup) (past : List Met) (lines : List Line) (addr k lost accepts : ℕ) (posted : List Coin) → Posts (world d past lines) (read_so_far lines) k lost accepts posted → Sound d past lines →
    Sound d past (put (record_of.Reading addr k lost accepts posted) ∷ lines)
sound_reading d past lines addr k lost accepts posted posts sound =
    sound_line d past past lines (put (record_of.Reading addr k lost accepts posted)) (posts.reads.goes_on, posts.reads.newest)
    (λ near. posts.covers near) tt sound.told (reading_fewer lines)
    (counted_state (world d past lines) (mark lines) (length (coins (reading lines))) k accepts (base lines) (epoch lines) posts.reads.goes_on sound.state posts.tracks posts.exact) sound

-- a break
pub sound_broken : (d : DeviceSetup) (past : List Met) (lines : List Line) (addr seen k lost accepts : ℕ) (posted : List Coin) → Breaks (world d past lines) (read_so_far lines) lost posted → Sound d past lines →
    Sound d past (put (record_of.Broken addr seen k lost accepts posted) ∷ lines)
sound_broken d past lines addr seen k lost accepts posted breaks sound =
    sound_line d past past lines (put (record_of.Broken addr seen k lost accepts posted)) (breaks.goes_on, breaks.newest) (λ near. breaks.covers near) tt sound.told (omega (arith, breaks.marked))
    (record { shut = closed (world d past lines) breaks.silent.masked; marked = breaks.marked }) sound

-- the end of an epoch
sound_over : (d : DeviceSetup) (past : List Met) (lines : List Line) (addr : ℕ) → Shut (world d past lines) → (Near lines → length (coins lines) ≤ mark lines) → Sound d past lines →
    Sound d past (put (record_of.EpochEnd addr) ∷ lines)
sound_over d past lines addr shut none sound =
    sound_line d past past lines (put (record_of.EpochEnd addr)) (sound.marked, tt) (λ near. part_none (coins lines) (mark lines) (none near)) tt sound.told (le_refl _)
    (record { shut = shut; marked = refl }) sound

-- the epoch's end is put, and ends the job
pub over_put : (d : DeviceSetup) (past : List Met) (lines : List Line) (addr : ℕ) (rows : List TableRow) (end : End)
    (r : Record) → end_kept rows (record_of.EpochEnd addr) ≡ Some end → IsOtherEnd end →
    puts (record_of.EpochEnd addr) ≡ puts r → Shut (world d past lines) →
    (Near lines → length (coins lines) ≤ mark lines) → Sound d past lines →
    Keeps d past (with_ended (end_kept rows r) (put r ∷ lines))
over_put d past lines addr rows end r ends other row shut none sound =
    subst (λ e. Keeps d past (with_ended (end_kept rows e) (put e ∷ lines))) (entry_is (record_of.EpochEnd addr) r row)
    (subst (λ found. Keeps d past (with_ended found (put (record_of.EpochEnd addr) ∷ lines))) (sym ends)
    (keeps_ended d past _ end other (sound_over d past lines addr shut none sound)))
