-- How the rows that begin an epoch keep what holds of a device that takes money.
use Rattle.std.proofs.Common.{◌≡◌, ℕ, ◌≤◌, inl, cond, Bool, true, false, List, [], ◌∷◌, ◌++◌, length, refl, ap, sym, subst, Option, Some, None, arith, le_refl, append-nil}
use Rattle.cct_model.specs.terms.device.DeviceSetup.{DeviceSetup}
use Rattle.cct_model.specs.terms.request.Request.{Request}
use Rattle.cct_model.specs.terms.request.Request.TheVariants.{ResetDevice, ReadCredits, ReadBills, SetMask}
use Rattle.cct_model.specs.lines.record.Record.TheVariants as record_of
use Rattle.cct_model.specs.declared.judging.EpochState.TheVariants.{Running}
use Rattle.cct_model.specs.lines.command.Command.{Command}
use Rattle.cct_model.specs.lines.entry.End.{End}
use Rattle.cct_model.specs.lines.entry.End.TheVariants.{Unquiet}
use Rattle.cct_model.specs.Reply.{Reply}
use Rattle.cct_model.specs.Reply as reply
use Rattle.cct_model.specs.Claims.{mark, base}
use Rattle.cct_model.specs.Setting.{mask_set}
use Rattle.cct_model.specs.History.{Met, heard}
use Rattle.cct_model.specs.terms.coin.Credits.{Credits}
use Rattle.cct_model.specs.Device.{IsTaker}
use Rattle.cct_model.specs.Line.{Line, exchange, put}
use Rattle.cct_model.specs.Job.{works, job, with_line, epoch, judged_in, tries}
use Rattle.cct_laws.specs.DeviceJobs.{Fate, unheard, silenced, answered, with_ended}
use Rattle.cct_laws.proofs.acceptor.BesideCoins.{World, world, Tells, After, Silent, after_heard, world_heard, count_at, with_settings, silent_fresh}
use Rattle.cct_laws.proofs.acceptor.Fits.{ReadSoFar, read_so_far, notes_in, StateOf, IsIdle, Waits, FitsAt, Fits, AfterReset, AfterEpoch}
use Rattle.cct_laws.proofs.acceptor.Moves.{Sound, Keeps, KeepsAsk, AtRows, IsMild, IsOtherEnd, sound_line, sound_exchange, keeps_ended, keeps_with_ended, on_unheard, answered_at, next_at, by_fate}
use Rattle.cct_laws.proofs.acceptor.RecordsKeep.{sound_epoch}
use Rattle.cct_laws.proofs.wire.Replies.{IsReading, reading_tells}
use Rattle.cct_model.specs.Rows.{Then, ends_as, if_quiet, TableRow, asks_for, asks_once, rows_of, rest, end_of, end_failed, sent_once}
use Rattle.cct_model.proofs.Rows.{Behind, behind_answer, put_leaves}
use Rattle.cct_model.specs.Request.{header_of}

-- the acceptor is reset
pub resets : (d : DeviceSetup) (past : List Met) (lines : List Line) (c : Command) (since : List Line) (behind : Then)
    (rows : List TableRow) (asked : Option Request) (got : Option Reply) →
    AtRows d past lines c since (asks_for ResetDevice behind ∷ rows) → Behind IsOtherEnd behind → AfterReset rows →
    IsIdle (epoch lines) → Fate d past ResetDevice asked got → KeepsAsk d past lines c since ResetDevice asked got
resets d past lines c since behind rows asked got at other next idle fate =
    by_fate d past lines c since ResetDevice asked got (ap sent_once at.rest_is) tt at.is_job at.keeps (λ y gives.
    let now = heard (Some ResetDevice) ∷ past in
    let line = exchange (Some ResetDevice) (Some y) in
    let w = world d past lines in
    answered_at d past lines c since (asks_for ResetDevice behind ∷ rows) ResetDevice y at
    (keeps_with_ended d now (line ∷ lines) _ (behind_answer IsOtherEnd behind y _ other)
    (next_at d past lines c since (asks_for ResetDevice behind) rows ResetDevice y at refl tt
    (next (after_heard w (Some ResetDevice)) (read_so_far (line ∷ lines)) _ _ idle (silent_fresh w))))) fate

-- a request that reads the last events changes nothing
pub reading_mild : (q : Request) → IsReading q → IsMild q
reading_mild ReadCredits is_reading = tt
reading_mild ReadBills is_reading = tt
reading_mild q is_reading = absurd is_reading

pub read_same : (w : World) (q : Request) → IsReading q → after_heard w (Some q) ≡ w
read_same w ReadCredits is_reading = refl
read_same w ReadBills is_reading = refl
read_same w q is_reading = absurd is_reading

-- another counter than 0 ends the start
start_counted : (d : DeviceSetup) (now : List Met) (lines : List Line) (k : ℕ) (quiet : Bool) → Keeps d now lines →
    Keeps d now (with_ended (cond quiet None (Some (Unquiet k))) lines)
start_counted d now lines k true kept = kept
start_counted d now lines k false kept = keeps_ended d now lines (Unquiet k) tt kept.sound

-- its last events are read
pub reads_quiet : (d : DeviceSetup) (past : List Met) (lines : List Line) (c : Command) (since : List Line)
    (rows : List TableRow) (q : Request) (asked : Option Request) (got : Option Reply) → IsTaker d.body → IsReading q →
    AtRows d past lines c since (asks_for q if_quiet ∷ rows) → AfterReset rows →
    IsIdle (epoch lines) → Silent (world d past lines) → Fate d past q asked got →
    KeepsAsk d past lines c since q asked got
reads_quiet d past lines c since rows q asked got taking is_reading at next idle silent fate =
    let w = world d past lines in
    let now = heard (Some q) ∷ past in
    let mild = reading_mild q is_reading in
    let replied : (credits : Credits) → KeepsAsk d past lines c since q (Some q) (Some (reply.credits credits)) = λ credits.
    let y = reply.credits credits in
    let line = exchange (Some q) (Some y) in
    let kept : Keeps d now (line ∷ lines) =
    next_at d past lines c since (asks_for q if_quiet) rows q y at refl mild
    (subst (λ v. FitsAt v (read_so_far (line ∷ lines)) rows (notes_in (line ∷ since))
    (judged_in c (line ∷ since) (epoch lines))) (sym (read_same w q is_reading))
    (next w (read_so_far (line ∷ lines)) (notes_in (line ∷ since)) (judged_in c (line ∷ since) (epoch lines)) idle silent)) in
    answered_at d past lines c since (asks_for q if_quiet ∷ rows) q y at
    (start_counted d now (line ∷ lines) credits.counter _ kept) in
    by_fate d past lines c since q asked got (ap sent_once at.rest_is) mild at.is_job at.keeps
    (λ y gives. let told = reading_tells d past q y taking is_reading gives in
    subst (λ z. KeepsAsk d past lines c since q (Some q) (Some z)) (sym told.1) (replied told.0)) fate

-- the mask is set: the epoch's events are those since the acceptor was read

opened_after : (w : World) (mask m : ℕ) → Silent w → length w.coins ≡ m → After (with_settings w (mask_set mask ∷ w.settings)) 0 m
opened_after w mask m silent marked = record {
  new = w.events;
  old = [];
  before = w.coins;
  split = sym (append-nil w.events);
  coins_are = sym (ap (λ cs. cs ++ w.coins) silent.none);
  counted = refl;
  marked = marked;
}

opened_state : (w : World) (b : ReadSoFar) (mask : ℕ) → 1 ≤ mask → Waits w b mask → StateOf (with_settings w (mask_set mask ∷ w.settings)) b.mark b.base b.epoch
opened_state w b mask some waits =
    let v = with_settings w (mask_set mask ∷ w.settings) in
    let runs : StateOf v b.mark b.base (Running mask 0 waits.accepts) = record {
      begun = b.mark;
      based = waits.based;
      least = le_refl b.mark;
      live = inl refl;
      tracks = record { nonzero = λ none. absurd (omega (arith, some, none)); after = λ is. opened_after w mask b.mark waits.silent waits.marked };
      exact = λ near. waits.exact;
    } in
    subst (StateOf v b.mark b.base) (sym waits.running) runs

sound_opened : (d : DeviceSetup) (past : List Met) (lines : List Line) (mask : ℕ) (got : Option Reply) → 1 ≤ mask → Waits (world d past lines) (read_so_far lines) mask → Sound d past lines →
    Sound d (heard (Some (SetMask mask)) ∷ past) (exchange (Some (SetMask mask)) got ∷ lines)
sound_opened d past lines mask got some waits sound =
    let is = sym (world_heard d.body past lines (Some (SetMask mask)) tt) in
    sound_line d past (heard (Some (SetMask mask)) ∷ past) lines (exchange (Some (SetMask mask)) got) tt (λ _. tt) tt
    (subst Tells is sound.told) sound.marked
    (subst (λ w. StateOf w (mark lines) (base lines) (epoch lines)) is
    (opened_state (world d past lines) (read_so_far lines) mask some waits)) sound

-- what is sent once ends its job without an answer too, whatever the lines are then
pub unsure : (d : DeviceSetup) (past now : List Met) (lines : List Line) (c : Command) (since : List Line) (q : Request)
    (end other : End) (rows : List TableRow) (more : List Line) →
    AtRows d past lines c since (asks_once q (ends_as end) (ends_as other) ∷ rows) →
    Keeps d now (with_ended (Some other) more) →
    Keeps d now (with_ended (end_of d c (exchange (Some q) None) since (epoch lines)) more)
unsure d past now lines c since q end other rows more at keeps =
    subst (λ first_rows. Keeps d now (with_ended (end_failed first_rows
    (tries (header_of q) (exchange (Some q) None ∷ since))) more)) (sym at.left_is) keeps

pub opens : (d : DeviceSetup) (past : List Met) (lines : List Line) (c : Command) (since : List Line) (mask : ℕ)
    (end other : End) (rows : List TableRow) (asked : Option Request) (got : Option Reply) → 1 ≤ mask →
    AtRows d past lines c since (asks_once (SetMask mask) (ends_as end) (ends_as other) ∷ rows) → IsOtherEnd end →
    IsOtherEnd other → Waits (world d past lines) (read_so_far lines) mask → Fate d past (SetMask mask) asked got →
    KeepsAsk d past lines c since (SetMask mask) asked got
opens d past lines c since mask end other rows asked got some at is_end is_other waits unheard =
    let now = heard None ∷ past in
    unsure d past now lines c since (SetMask mask) end other rows (exchange (Some (SetMask mask)) None ∷ lines) at
    (keeps_ended d now (exchange (Some (SetMask mask)) None ∷ lines) other is_other
    (sound_exchange d past now lines (Some (SetMask mask)) None (on_unheard d past lines) at.keeps.sound))
opens d past lines c since mask end other rows asked got some at is_end is_other waits silenced =
    let now = heard (Some (SetMask mask)) ∷ past in
    unsure d past now lines c since (SetMask mask) end other rows (exchange (Some (SetMask mask)) None ∷ lines) at
    (keeps_ended d now (exchange (Some (SetMask mask)) None ∷ lines) other is_other
    (sound_opened d past lines mask None some waits at.keeps.sound))
opens d past lines c since mask end other rows asked got some at is_end is_other waits (answered y gives) =
    let now = heard (Some (SetMask mask)) ∷ past in
    let line = exchange (Some (SetMask mask)) (Some y) in
    answered_at d past lines c since (asks_once (SetMask mask) (ends_as end) (ends_as other) ∷ rows) (SetMask mask) y at
    (keeps_ended d now (line ∷ lines) end is_end (sound_opened d past lines mask (Some y) some waits at.keeps.sound))

-- the epoch is put
pub begins : (d : DeviceSetup) (past : List Met) (lines : List Line) (c : Command) (since : List Line) (r : TableRow)
    (rows : List TableRow) (addr mask : ℕ) → 1 ≤ mask → job lines ≡ works c since → rest d c since ≡ r ∷ rows →
    AfterEpoch mask rows → IsIdle (epoch lines) → Silent (world d past lines) → Keeps d past lines →
    Keeps d past (put (record_of.Epoch addr mask (count_at (world d past lines))) ∷ lines)
begins d past lines c since r rows addr mask some is_job rest_is next idle silent keeps =
    let w = world d past lines in
    let line = put (record_of.Epoch addr mask (count_at w)) in
    let b = read_so_far (line ∷ lines) in
    let waits : Waits w b mask = record {
      accepts = count_at w;
      running = refl;
      silent = silent;
      marked = refl;
      based = refl;
      exact = refl;
    } in
    record {
      sound = sound_epoch d past lines addr mask (count_at w) some idle silent refl keeps.sound;
      fits = subst (λ j. Fits d w b (with_line line j)) (sym is_job)
          (subst (λ later. FitsAt w b later (notes_in (line ∷ since)) (judged_in c (line ∷ since) b.epoch))
          (sym (put_leaves (rows_of d c) since r rows rest_is)) (next w b _ _ waits));
    }
