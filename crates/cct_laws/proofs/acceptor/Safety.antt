-- Where a device that takes money is safe in every legal transcript over an honest wire: which mask
-- it has, what its events then show, and why its epoch breaks.
use Rattle.std.proofs.Common.{◌≡◌, ℕ, false, List, [], ◌∷◌, ◌++◌, take, drop, take-append-drop, refl, ap, sym, ◌∙◌, subst, None, replicate}
use Rattle.cct_model.specs.terms.coin.Coin.{Coin}
use Rattle.cct_model.specs.terms.coin.Pair.{Pair}
use Rattle.cct_model.specs.lines.record.Record.TheVariants as record_of
use Rattle.cct_model.specs.declared.judging.EpochState.TheVariants.{Idle, Running}
use Rattle.cct_model.specs.lines.command.Command.{Command}
use Rattle.cct_model.specs.Acceptor.{accepts, no_event, last_five, credits_in}
use Rattle.cct_laws.specs.Takers.{events_of}
use Rattle.cct_model.specs.Line.{Line}
use Rattle.cct_model.specs.Reading.{coins_among}
use Rattle.cct_model.specs.Order.{order}
use Rattle.cct_model.specs.Job.{works, job, epoch, puts, address_of}
use Rattle.cct_model.specs.Rows.{row}
use Rattle.cct_model.specs.Claims.{mark, base}
use Rattle.cct_model.specs.Transcript.{met, onto}
use Rattle.cct_laws.specs.Law.{lines_in}
use Rattle.cct_laws.specs.SinceEpoch.{since_epoch_in, mask_set_in, IsMaskedBy, MayBreak, HaveCauses}
use Rattle.cct_laws.specs.Scope.{EachTaker}
use Rattle.cct_laws.proofs.acceptor.NewestEvents.{coins_among-append}
use Rattle.cct_laws.proofs.acceptor.Causes.{causes_go_on}
use Rattle.cct_laws.proofs.steps.AllKept.{kept_since_legal, goes_on_legal, ranged_legal}
use Rattle.cct_laws.proofs.acceptor.Fits.{StateOf}
use Rattle.cct_laws.proofs.acceptor.BesideCoins.{world}
use Rattle.cct_laws.proofs.jobs.StepBrings.{IsAt, job_at}
use Rattle.cct_laws.proofs.steps.EitherKind.{for_taker}
use Rattle.cct_laws.proofs.steps.EachKeeps.{IsRanged}
use Rattle.cct_laws.proofs.acceptor.Masks.{MaskedIn, Masks, masks_kept, masks_silent, masks_break}

-- a credit buffer shows no coin where the events show none
front_nil : (xs ys : List Coin) → xs ++ ys ≡ [] → xs ≡ []
front_nil [] ys none = refl
front_nil (coin ∷ xs) ys none = absurd cc

buffer_none : (newest : List Pair) → coins_among newest ≡ [] → coins_among (last_five newest) ≡ []
buffer_none newest none =
    let blank = replicate 5 no_event in
    let all = newest ++ blank in
    let nothing : coins_among all ≡ [] = coins_among-append newest blank ∙ ap (λ cs. cs ++ coins_among blank) none in
    front_nil (coins_among (take 5 all)) (coins_among (drop 5 all))
    (sym (coins_among-append (take 5 all) (drop 5 all)) ∙ ap coins_among (take-append-drop 5 all) ∙ nothing)

legal_masks : EachTaker (λ d transcript. Masks d (since_epoch_in d transcript) (met d (onto [] transcript))
    (lines_in d transcript))
legal_masks capacity setup steps transcript d sound own taking in_range legal honest =
    kept_since_legal capacity setup steps transcript d (Masks d) sound own taking in_range legal honest (masks_kept d taking)

-- without an epoch no coin is accepted
pub legal_shut : EachTaker (λ d transcript. epoch (lines_in d transcript) ≡ Idle → (place : ℕ) → accepts (met d
    (onto [] transcript)) place ≡ false)
legal_shut capacity setup steps transcript d sound own taking in_range legal honest idle place =
    let lines = lines_in d transcript in
    let masks = legal_masks capacity setup steps transcript d sound own taking in_range legal honest in
    (subst (StateOf (world d (met d (onto [] transcript)) lines) (mark lines) (base lines)) idle masks.keeps.sound.state).shut place

-- while an epoch runs, its mask is set or none is
pub legal_masked : EachTaker (λ d transcript. (mask counter accepts : ℕ) → epoch (lines_in d transcript) ≡ Running mask
    counter accepts → IsMaskedBy mask (since_epoch_in d transcript) (met d (onto [] transcript)))
legal_masked capacity setup steps transcript d sound own taking in_range legal honest mask counter accepts running =
    subst (λ s. MaskedIn s (since_epoch_in d transcript) (met d (onto [] transcript))) running (legal_masks capacity setup steps transcript d sound own taking in_range legal honest).masked

-- and where none is, no event is a coin
pub legal_silent : EachTaker (λ d transcript. (mask counter accepts : ℕ) → epoch (lines_in d transcript) ≡ Running mask
    counter accepts → mask_set_in (since_epoch_in d transcript) ≡ None → coins_among (events_of d.body (met d (onto [] transcript))) ≡
    [])
legal_silent capacity setup steps transcript d sound own taking in_range legal honest mask counter accepts running none =
    masks_silent d (since_epoch_in d transcript) (met d (onto [] transcript)) (lines_in d transcript) mask counter accepts running none (legal_masks capacity setup steps transcript d sound own taking in_range legal honest)

pub legal_unread : EachTaker (λ d transcript. (mask counter accepts : ℕ) → epoch (lines_in d transcript) ≡ Running mask
    counter accepts → mask_set_in (since_epoch_in d transcript) ≡ None → coins_among (credits_in
    (events_of d.body (met d (onto [] transcript)))).pairs ≡ [])
legal_unread capacity setup steps transcript d sound own taking in_range legal honest mask counter accepts running none =
    buffer_none (events_of d.body (met d (onto [] transcript))) (legal_silent capacity setup steps transcript d sound own taking in_range legal honest mask counter accepts running none)

-- a break has its cause
pub legal_caused : EachTaker (λ d transcript. (c : Command) (since : List Line) (addr seen counter lost accepts : ℕ) (posted :
    List Coin) → job (lines_in d transcript) ≡ works c since → row d c since (epoch (lines_in d transcript)) (order
    (lines_in d transcript)) ≡ puts (record_of.Broken addr seen counter lost accepts posted) → MayBreak (since_epoch_in d
    transcript))
legal_caused capacity setup steps transcript d sound own taking in_range legal honest c since addr seen counter lost accepts posted is_job is_row =
    let here : address_of c ≡ d.addr = subst (IsAt d.addr) is_job (job_at d (onto [] transcript)) in
    let ranged = subst (IsRanged d) is_job (ranged_legal capacity setup steps transcript d sound own in_range legal) in
    masks_break d (since_epoch_in d transcript) (met d (onto [] transcript)) (lines_in d transcript) c since addr seen counter lost accepts posted
    (for_taker d.body c taking ranged.1) ranged.0 is_job here is_row
    (legal_masks capacity setup steps transcript d sound own taking in_range legal honest)

pub legal_causes : EachTaker (λ d transcript. HaveCauses d (onto [] transcript))
legal_causes capacity setup steps transcript d sound own taking in_range legal honest =
    goes_on_legal capacity setup steps transcript d (Masks d) (HaveCauses d) sound own taking in_range legal honest (masks_kept d taking)
    (λ past news s ranged ids told masks before. causes_go_on capacity setup d past news s sound own taking ranged ids told masks before)
    (λ past addr causes. (tt, causes)) tt
