-- Each balance that is reported is conserved.
use Rattle.std.proofs.Common.{ℕ, List, [], ◌++◌}
use Rattle.cct_model.specs.terms.device.Setup.{Setup}
use Rattle.cct_model.specs.lines.command.Step.{Step}
use Rattle.cct_model.specs.lines.entry.Entry.{Entry}
use Rattle.cct_model.specs.lines.entry.Entry.TheVariants as entry
use Rattle.cct_model.specs.Script.{IsInRange}
use Rattle.cct_model.specs.Transcript.{onto, met}
use Rattle.cct_laws.specs.Balanced.{IsBalanced}
use Rattle.cct_laws.specs.Law.{EachEntry}
use Rattle.cct_laws.specs.Scope.{EachTranscript}
use Rattle.cct_laws.proofs.money.Books.{Books, books_start, books_step, books_forged}
use Rattle.cct_laws.proofs.jobs.EachBrought.{IsBeside, step_so}
use Rattle.cct_laws.proofs.jobs.StepBrings.{Brought, IsOfNoJob, came_of_no_job}
use Rattle.cct_laws.proofs.money.Journal.{conserved}
use Rattle.cct_laws.proofs.jobs.SeenAtOne.{along}

-- so far each was
abbrev AllBalanced : Setup → List Entry → Type 0
AllBalanced setup past = EachEntry (IsBalanced setup) past

balanced_beside : (setup : Setup) (past : List Entry) (e : Entry) → IsBeside e → IsBalanced setup past e
balanced_beside setup past (entry.Balance told) beside = absurd beside
balanced_beside setup past e beside = tt

balanced_of_no_job : (setup : Setup) (past : List Entry) (e : Entry) → IsOfNoJob e → IsBalanced setup past e
balanced_of_no_job setup past (entry.Balance told) is = absurd is
balanced_of_no_job setup past e is = tt

step_balanced : (capacity : ℕ) (setup : Setup) (past news : List Entry) (s : Step) →
    Brought capacity setup past s news → Books capacity setup past → AllBalanced setup past →
    AllBalanced setup (news ++ past)
step_balanced capacity setup past news s told books before =
    step_so capacity setup (IsBalanced setup) (balanced_beside setup) (λ older addr sent. tt) past news s
    (λ d e m ls own comes. balanced_of_no_job setup past e (came_of_no_job d (met d past) s e m ls comes))
    (conserved setup past books.counts.covered) told before

-- each balance is conserved in every legal transcript, whatever the wire does
pub legal_balances : EachTranscript (λ capacity setup transcript. EachEntry (IsBalanced setup) (onto [] transcript))
legal_balances capacity setup steps transcript sound in_range legal =
    (along capacity setup IsInRange (λ past. Books capacity setup past × AllBalanced setup past) sound
    (λ past news s range ids told both. (
      books_step capacity setup past news s sound range ids told both.0,
      step_balanced capacity setup past news s told both.0 both.1,
    ))
    (λ past addr both. (books_forged capacity setup past addr both.0, (tt, both.1)))
    steps (onto [] transcript) in_range legal (books_start capacity setup sound, tt)).1
