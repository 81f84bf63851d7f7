-- In every legal transcript over an honest wire posts are accepted coins in their order, under the pace none is lost in
-- silence, where a reading had to be made again, a coin was accepted meanwhile, and what is accepted is so in an epoch.
use Rattle.std.proofs.Common.{[]}
use Rattle.cct_model.specs.Claims.{InOrder, Covers, Pace}
use Rattle.cct_model.specs.Transcript.{met, onto}
use Rattle.cct_laws.specs.Law.{lines_in}
use Rattle.cct_laws.specs.Moving.{MovesWithCoins, NoStopMoves}
use Rattle.cct_laws.specs.Scope.{EachTaker}
use Rattle.cct_laws.specs.SinceEpoch.{AcceptsInEpochs}
use Rattle.cct_laws.proofs.acceptor.Moves.{Keeps}
use Rattle.cct_laws.proofs.acceptor.Acceptors.{keeps_kept, kept_in_order, kept_covers, kept_moves, kept_stops, kept_epochs}
use Rattle.cct_laws.proofs.steps.AllKept.{kept_legal}

-- what holds of the lines holds in every legal transcript
pub legal_keeps : EachTaker (λ d transcript. Keeps d (met d (onto [] transcript)) (lines_in d transcript))
legal_keeps capacity setup steps transcript d sound own taking in_range legal honest =
    kept_legal capacity setup steps transcript d (Keeps d) sound own taking in_range legal honest (keeps_kept d taking)

-- posts are accepted coins in their order, none twice
pub legal_in_order : EachTaker (λ d transcript. InOrder (lines_in d transcript))
legal_in_order capacity setup steps transcript d sound own taking in_range legal honest =
    kept_in_order d _ _ (legal_keeps capacity setup steps transcript d sound own taking in_range legal honest)

-- under the pace no coin is lost in silence
pub legal_covers : EachTaker (λ d transcript. Pace (lines_in d transcript) → Covers (lines_in d transcript))
legal_covers capacity setup steps transcript d sound own taking in_range legal honest =
    kept_covers d _ _ (legal_keeps capacity setup steps transcript d sound own taking in_range legal honest)

-- where a reading had to be made again, a coin was accepted meanwhile
pub legal_moves : EachTaker (λ d transcript. MovesWithCoins (lines_in d transcript))
legal_moves capacity setup steps transcript d sound own taking in_range legal honest =
    kept_moves d _ _ (legal_keeps capacity setup steps transcript d sound own taking in_range legal honest)

-- and no stop ended so
pub legal_stops : EachTaker (λ d transcript. NoStopMoves (lines_in d transcript))
legal_stops capacity setup steps transcript d sound own taking in_range legal honest =
    kept_stops d _ _ (legal_keeps capacity setup steps transcript d sound own taking in_range legal honest)

-- what is accepted is so while an epoch runs
pub legal_epochs : EachTaker (λ d transcript. AcceptsInEpochs (lines_in d transcript))
legal_epochs capacity setup steps transcript d sound own taking in_range legal honest =
    kept_epochs d _ _ (legal_keeps capacity setup steps transcript d sound own taking in_range legal honest)
