-- Which inhibit mask a device that takes money has while its epoch runs, by what it met since the epoch began.
use Rattle.std.proofs.Common.{◌≡◌, ◌≢◌, ℕ, true, cond, List, [], ◌∷◌, ◌++◌, refl, ap, sym, ◌∙◌, subst, Option, Some, None, inl, inr, eq-eqb}
use Rattle.std.specs.Prelude.{⊤}
use Rattle.cct_model.specs.terms.device.DeviceSetup.{DeviceSetup}
use Rattle.cct_model.specs.terms.request.Request.{Request}
use Rattle.cct_model.specs.terms.request.Request.TheVariants.{AddressPoll, SimplePoll, ResetDevice, SetMask, SetMaster, SetPath, SetDefault}
use Rattle.cct_model.specs.lines.record.Record.{Record}
use Rattle.cct_model.specs.lines.record.Record.TheVariants as record_of
use Rattle.cct_model.specs.declared.judging.Judged.{Judged}
use Rattle.cct_model.specs.declared.judging.EpochState.{EpochState}
use Rattle.cct_model.specs.declared.judging.EpochState.TheVariants.{Idle, Running}
use Rattle.cct_model.specs.lines.command.Command.{Command}
use Rattle.cct_model.specs.lines.entry.End.{End}
use Rattle.cct_model.specs.Reply.{Reply}
use Rattle.cct_model.specs.History.{Met, coin, alien, reset, heard}
use Rattle.cct_model.specs.Acceptor.{mask_of}
use Rattle.cct_model.specs.Claims.{mark, base}
use Rattle.cct_model.specs.Reading.{coins_among}
use Rattle.cct_model.specs.terms.coin.Coin.{Coin}
use Rattle.cct_model.specs.Device.{IsTaker}
use Rattle.cct_model.proofs.Doses.{epoch_undosed}
use Rattle.cct_model.specs.Transcript.{doses}
use Rattle.cct_laws.specs.Takers.{events_of}
use Rattle.cct_model.specs.Line.{Line, exchange, put}
use Rattle.cct_model.specs.Order.{order}
use Rattle.cct_model.specs.Job.{works, job, sends, puts, noted_in, epoch, counted, epoch_by, address_of, judged_in, Noted}
use Rattle.cct_model.specs.Rows.{ends_as, TableRow, asks_for, asks_once, waits_for_coins, puts_due, row, rest, first}
use Rattle.cct_model.specs.Script.{IsCommand}
use Rattle.cct_laws.proofs.steps.EitherKind.{for_taker}
use Rattle.cct_laws.specs.DeviceJobs.{is_for_taker, Fate, unheard, silenced, answered, IsForOthers, with_ended}
use Rattle.cct_laws.specs.SinceEpoch.{since_record, mask_set_in, IsMaskedBy, MayBreak, IsKeptSince}
use Rattle.cct_model.proofs.Rows.{EachBefore}
use Rattle.cct_laws.proofs.acceptor.BesideCoins.{World, Silent, IsLive, mask_at, world}
use Rattle.cct_laws.proofs.acceptor.Fits.{ReadSoFar, read_so_far, Notes, notes_in, StateOf, IsRunning, FitsAt}
use Rattle.cct_laws.proofs.acceptor.Moves.{Keeps, fits_at, request_is}
use Rattle.cct_laws.proofs.acceptor.Acceptors.{left_leads, keeps_kept}
use Rattle.cct_laws.proofs.acceptor.Leads.{Leads}
use Rattle.cct_model.proofs.RowEnds.{rest_asks}
use Rattle.cct_model.proofs.Tries.{due_sends}
use Rattle.cct_laws.proofs.acceptor.Putting.{Puts, row_puts}

-- while an epoch runs, the mask is that which was set since, and that is the epoch's
abbrev pub MaskedIn : EpochState → List Met → List Met → Type 0
MaskedIn Idle since past = ⊤
MaskedIn (Running mask counter accepts) since past = IsMaskedBy mask since past

-- what holds after every step
pub record Masks (d : DeviceSetup) (since past : List Met) (lines : List Line) : Type 0 where
  pub keeps : Keeps d past lines
  pub masked : MaskedIn (epoch lines) since past

-- a request sets no mask, but the epoch's own before its first reading
abbrev Asks : EpochState → Request → Type 0
Asks state (SetMask mask) = (accepts : ℕ) × (state ≡ Running mask 0 accepts)
Asks state q = ⊤

running_is : (mask counter accepts other count : ℕ) → Running mask counter accepts ≡ Running other 0 count → other ≡ mask
running_is mask counter accepts other count same = cc

asked_by : (mask counter accepts : ℕ) (q : Request) (since past : List Met) → Asks (Running mask counter accepts) q → IsMaskedBy mask since past → IsMaskedBy mask (heard (Some q) ∷ since) (heard (Some q) ∷ past)
asked_by mask counter accepts ResetDevice since past asks masked = inr (refl, refl)
asked_by mask counter accepts (SetMask other) since past asks masked =
    let same = running_is mask counter accepts other asks.0 asks.1 in inl (ap Some same, same)
asked_by mask counter accepts (SetMaster value) since past asks masked = masked
asked_by mask counter accepts (SetPath place path) since past asks masked = masked
asked_by mask counter accepts (SetDefault path) since past asks masked = masked
asked_by mask counter accepts q since past asks masked = masked

asked_masked : (state : EpochState) (q : Request) (since past : List Met) → Asks state q → MaskedIn state since past → MaskedIn state (heard (Some q) ∷ since) (heard (Some q) ∷ past)
asked_masked Idle q since past asks masked = tt
asked_masked (Running mask counter accepts) q since past asks masked = asked_by mask counter accepts q since past asks masked

-- what changes no setting
same_masked : (state : EpochState) (m : Met) (since past : List Met) → mask_set_in (m ∷ since) ≡ mask_set_in since → mask_of (m ∷ past) ≡ mask_of past → MaskedIn state since past → MaskedIn state (m ∷ since) (m ∷ past)
same_masked Idle m since past set_stays mask_stays masked = tt
same_masked (Running mask counter accepts) m since past set_stays mask_stays (inl set) = inl (set_stays ∙ set.0, mask_stays ∙ set.1)
same_masked (Running mask counter accepts) m since past set_stays mask_stays (inr none) = inr (set_stays ∙ none.0, mask_stays ∙ none.1)

others_masked : (state : EpochState) (asked : Option Request) (since past : List Met) → IsForOthers asked → MaskedIn state since past → MaskedIn state (heard asked ∷ since) (heard asked ∷ past)
others_masked state None since past others masked = same_masked state (heard None) since past refl refl masked
others_masked state (Some AddressPoll) since past others masked = same_masked state (heard (Some AddressPoll)) since past refl refl masked
others_masked state (Some SimplePoll) since past others masked = same_masked state (heard (Some SimplePoll)) since past refl refl masked
others_masked state (Some q) since past others masked = absurd others

reset_masked : (state : EpochState) (since past : List Met) → MaskedIn state (reset ∷ since) (reset ∷ past)
reset_masked Idle since past = tt
reset_masked (Running mask counter accepts) since past = inr (refl, refl)

-- what the rows of a job send
first_asks : (w : World) (b : ReadSoFar) (addr : ℕ) (notes : Notes) (judged : Judged) (p : Noted)
    (rows : List TableRow) (q : Request) → EachBefore Leads rows → FitsAt w b rows notes judged →
    first addr judged p rows ≡ sends q → Asks b.epoch q
first_asks w b addr notes judged p [] q each fits row = absurd cc
first_asks w b addr notes judged p (asks_for (SetMask mask) behind ∷ rows) q each fits row = absurd each.0.0
first_asks w b addr notes judged p (asks_for x behind ∷ rows) q each fits row =
    subst (Asks b.epoch) (request_is x q row) tt
first_asks w b addr notes judged p (asks_once (SetMask mask) (ends_as end) (ends_as other) ∷ rows) q each fits row =
    subst (Asks b.epoch) (request_is (SetMask mask) q row) (fits.accepts, fits.running)
first_asks w b addr notes judged p (asks_once x (ends_as end) (ends_as other) ∷ rows) q each fits row =
    subst (Asks b.epoch) (request_is x q row) tt
first_asks w b addr notes judged p (asks_once x behind without ∷ rows) q each fits row = absurd each.0
first_asks w b addr notes judged p (waits_for_coins ∷ rows) q each fits row = absurd each.0
first_asks w b addr notes judged p (puts_due due behind ∷ rows) q each fits row =
    absurd (due_sends addr judged p due q row)

row_asks : (d : DeviceSetup) (past : List Met) (lines : List Line) (c : Command) (work : List Line) (q : Request) →
    is_for_taker c ≡ true → IsCommand c → job lines ≡ works c work → Keeps d past lines →
    row d c work (epoch lines) (order lines) ≡ sends q → Asks (epoch lines) q
row_asks d past lines c work q suited in_range is_job keeps row_is =
    first_asks (world d past lines) (read_so_far lines) (address_of c) (notes_in work) (judged_in c work (epoch lines))
    (noted_in work (order lines)) (rest d c work) q (left_leads d c work suited in_range)
    (fits_at d past lines c work is_job keeps) (rest_asks d c work (epoch lines) (order lines) q row_is)

-- an exchange of a job, and its end if there is one

fate_masked : (d : DeviceSetup) (state : EpochState) (q : Request) (asked : Option Request) (got : Option Reply) (since past : List Met) → Asks state q → Fate d past q asked got →
    MaskedIn state since past → MaskedIn state (heard asked ∷ since) (heard asked ∷ past)
fate_masked d state q asked got since past asks unheard masked = same_masked state (heard None) since past refl refl masked
fate_masked d state q asked got since past asks silenced masked = asked_masked state q since past asks masked
fate_masked d state q asked got since past asks (answered y replied) masked = asked_masked state q since past asks masked

with_ended_masked : (end : Option End) (lines : List Line) (since past : List Met) → MaskedIn (epoch lines) since past → MaskedIn (epoch (with_ended end lines)) since past
with_ended_masked None lines since past masked = masked
with_ended_masked (Some end) lines since past masked = masked

-- a record that a job puts

counted_masked : (counter accepts : ℕ) (state : EpochState) (since past : List Met) → MaskedIn state since past → MaskedIn (counted counter accepts state) since past
counted_masked counter accepts Idle since past masked = tt
counted_masked counter accepts (Running mask before earlier) since past masked = masked

put_masked : (d : DeviceSetup) (state : EpochState) (r : Record) (since past : List Met) (lines : List Line) → Puts d (world d past lines) state r → MaskedIn state since past → MaskedIn (epoch_by r state) (since_record d r since) past
put_masked d state (record_of.Epoch addr mask accepts) since past lines puts_it masked =
    subst (λ b. IsMaskedBy mask (cond b [] since) past) (sym (eq-eqb addr d.addr puts_it.0)) (inr (refl, puts_it.1.masked))
put_masked d state (record_of.Reading addr counter lost accepts posted) since past lines puts_it masked = counted_masked counter accepts state since past masked
put_masked d state (record_of.Broken addr seen counter lost accepts posted) since past lines puts_it masked = tt
put_masked d state (record_of.EpochEnd addr) since past lines puts_it masked = tt
put_masked d state r since past lines puts_it masked = masked

-- all that can come keeps it
pub masks_kept : (d : DeviceSetup) → IsTaker d.body → IsKeptSince d (Masks d)
masks_kept d taking =
    let kept = keeps_kept d taking in
    record {
      starts = record { keeps = kept.starts; masked = tt };
      accepts = λ since past lines place accepting low high test holds. record {
        keeps = kept.accepts since past lines place accepting low high test holds.keeps;
        masked = same_masked (epoch lines) (coin place) since past refl refl holds.masked;
      };
      inhibits = λ since past lines place accepting test holds. record {
        keeps = kept.inhibits since past lines place accepting test holds.keeps;
        masked = same_masked (epoch lines) (coin place) since past refl refl holds.masked;
      };
      aliens = λ since past lines accepting holds. record {
        keeps = kept.aliens since past lines accepting holds.keeps;
        masked = same_masked (epoch lines) alien since past refl refl holds.masked;
      };
      holds = λ since past lines place billing low high test holds. record {
        keeps = kept.holds since past lines place billing low high test holds.keeps;
        masked = same_masked (epoch lines) (coin place) since past refl refl holds.masked;
      };
      rejects = λ since past lines place billing test holds. record {
        keeps = kept.rejects since past lines place billing test holds.keeps;
        masked = same_masked (epoch lines) (coin place) since past refl refl holds.masked;
      };
      resets = λ since past lines holds. record { keeps = kept.resets since past lines holds.keeps; masked = reset_masked (epoch lines) since past };
      elsewhere = λ since past lines asked others holds.
          record { keeps = kept.elsewhere since past lines asked others holds.keeps; masked = others_masked (epoch lines) asked since past others holds.masked };
      takes = λ since past lines c is_free here known played is_taken holds.
          record { keeps = kept.takes since past lines c is_free here known played is_taken holds.keeps; masked = holds.masked };
      asks = λ since past lines c work q asked got at_work is_row fate holds. record {
        keeps = kept.asks since past lines c work q asked got at_work is_row fate holds.keeps;
        masked = with_ended_masked _ (exchange (Some q) got ∷ doses d.body d.serial past asked ++ lines) (heard asked ∷ since) (heard asked ∷ past)
            (subst (λ state. MaskedIn state (heard asked ∷ since) (heard asked ∷ past))
            (sym (epoch_undosed d.body d.serial past asked lines))
            (fate_masked d (epoch lines) q asked got since past (row_asks d past lines c work q (for_taker d.body c taking at_work.suited) at_work.in_range at_work.job_is holds.keeps is_row) fate holds.masked));
      };
      restarts = λ since past lines holds. record { keeps = kept.restarts since past lines holds.keeps; masked = holds.masked };
      keeps = λ since past lines c work r at_work is_row holds. record {
        keeps = kept.keeps since past lines c work r at_work is_row holds.keeps;
        masked = put_masked d (epoch lines) r since past lines
            (row_puts d past lines c work r (for_taker d.body c taking at_work.suited) at_work.in_range at_work.job_is at_work.is_here
            is_row holds.keeps) holds.masked;
      };
      puts = λ since past lines c work r at_work is_row holds. record {
        keeps = kept.puts since past lines c work r at_work is_row holds.keeps;
        masked = with_ended_masked _ (put r ∷ lines) (since_record d r since) past
            (put_masked d (epoch lines) r since past lines (row_puts d past lines c work r (for_taker d.body c taking at_work.suited) at_work.in_range at_work.job_is at_work.is_here is_row holds.keeps) holds.masked);
      };
    }

-- an acceptor whose epoch's mask doesn't stand is silent

mask_none : (mask : ℕ) (since past : List Met) → mask_set_in since ≡ None → IsMaskedBy mask since past → mask_of past ≡ 0
mask_none mask since past none (inl set) = absurd (clash (sym none ∙ set.0))
  where
    clash : None ≡ Some mask → ⊥
    clash e = cc
mask_none mask since past none (inr unset) = unset.1

live_silent : (w : World) (mask : ℕ) → mask ≢ 0 → mask_at w ≡ 0 → IsLive w mask → Silent w
live_silent w mask some none (inl set) = absurd (some (sym set ∙ none))
live_silent w mask some none (inr silent) = silent

pub masks_silent : (d : DeviceSetup) (since past : List Met) (lines : List Line) (mask counter accepts : ℕ) → epoch lines ≡ Running mask counter accepts → mask_set_in since ≡ None → Masks d since past lines → coins_among (events_of d.body past) ≡ []
masks_silent d since past lines mask counter accepts running none holds =
    let w = world d past lines in
    let runs = subst (StateOf w (mark lines) (base lines)) running holds.keeps.sound.state in
    let masked : IsMaskedBy mask since past = subst (λ s. MaskedIn s since past) running holds.masked in
    (live_silent w mask runs.tracks.nonzero (mask_none mask since past none masked) runs.live).none

-- and where an acceptor is silent whose epoch runs, the epoch's mask doesn't stand
silent_unset : (d : DeviceSetup) (state : EpochState) (since past : List Met) (lines : List Line) → Silent (world d past lines) → IsRunning state → StateOf (world d past lines) (mark lines) (base lines) state → MaskedIn state since past → mask_set_in since ≡ None
silent_unset d Idle since past lines silent running is masked = absurd running
silent_unset d (Running mask counter accepts) since past lines silent running is (inl set) = absurd (is.tracks.nonzero (sym set.1 ∙ silent.masked))
silent_unset d (Running mask counter accepts) since past lines silent running is (inr unset) = unset.0

-- then a reset came since the epoch began, or no mask was heard
unset_cause : (since : List Met) → mask_set_in since ≡ None → MayBreak since
unset_cause [] none = inr refl
unset_cause (reset ∷ since) none = inl refl
unset_cause (heard (Some ResetDevice) ∷ since) none = inl refl
unset_cause (heard (Some (SetMask mask)) ∷ since) none = absurd cc
unset_cause (heard asked ∷ since) none = unset_cause since none
unset_cause (m ∷ since) none = unset_cause since none

-- a job that has a break to put
pub masks_break : (d : DeviceSetup) (since past : List Met) (lines : List Line) (c : Command) (work : List Line)
    (addr seen counter lost accepts : ℕ) (posted : List Coin) → is_for_taker c ≡ true → IsCommand c → job lines ≡ works c work → address_of c ≡ d.addr →
    row d c work (epoch lines) (order lines) ≡ puts (record_of.Broken addr seen counter lost accepts posted) → Masks d since past lines → MayBreak since
masks_break d since past lines c work addr seen counter lost accepts posted suited in_range is_job here is_row holds =
    let puts_it = row_puts d past lines c work (record_of.Broken addr seen counter lost accepts posted) suited in_range is_job here is_row holds.keeps in
    unset_cause since (silent_unset d (epoch lines) since past lines puts_it.1 puts_it.0 holds.keeps.sound.state holds.masked)
