-- The lines of every hopper are sure after every legal past over an honest wire.
use Rattle.std.proofs.Common.{◌≡◌, ℕ, List, [], reverse, sym, ◌∙◌, subst, All}
use Rattle.std.proofs.lemmas.List.{append-nil, reverse-reverse}
use Rattle.cct_model.specs.terms.device.Setup.{Setup}
use Rattle.cct_model.specs.lines.command.Step.{Step}
use Rattle.cct_model.specs.lines.entry.Entry.{Entry}
use Rattle.cct_model.specs.Honest.{HonestPast}
use Rattle.cct_model.specs.Legal.{LegalFrom}
use Rattle.cct_model.specs.Paid.{AreFresh, Paid}
use Rattle.cct_model.specs.Records.{records}
use Rattle.cct_model.specs.Script.{IsInRange}
use Rattle.cct_model.specs.Setup.{IsSoundSetup}
use Rattle.cct_model.specs.Transcript.{lines_of, onto}
use Rattle.cct_laws.specs.Scope.{EachHopper}
use Rattle.cct_laws.specs.Law.{lines_in}
use Rattle.cct_laws.proofs.steps.OneMore.{onto_is}
use Rattle.cct_laws.proofs.orders.Payments.{legal_fresh, legal_paid}
use Rattle.cct_laws_change.specs.Counted.{Counted}
use Rattle.cct_laws_change.proofs.Counted.{counted}
use Rattle.cct_laws_change.proofs.Fresh.{fresh_lines}
use Rattle.cct_laws_change.proofs.Sessions.{AreSure}

-- a past, newest entry first, is that of its transcript
pub past_back : (past : List Entry) → past ≡ onto [] (reverse past)
past_back past = sym (onto_is [] (reverse past) ∙ append-nil (reverse (reverse past)) ∙ reverse-reverse past)

pub sure_legal : (capacity : ℕ) (setup : Setup) (steps : List Step) (past : List Entry) → IsSoundSetup setup →
    All IsInRange steps → LegalFrom capacity setup [] steps past → HonestPast past → AreSure setup past
sure_legal capacity setup steps past sound in_range legal honest =
    let back = past_back past in
    let transcribed = subst (LegalFrom capacity setup [] steps) back legal in
    λ d own paying. record {
      pays = subst (λ es. Paid (lines_of d es)) (sym back)
          (legal_paid capacity setup steps (reverse past) d sound own paying in_range transcribed
          (subst HonestPast back honest));
      fresh = subst (λ es. AreFresh (records es)) (sym back)
          (legal_fresh capacity setup steps (reverse past) sound transcribed);
    }

-- so each order of a hopper is counted right
pub counted_legal : EachHopper (λ d transcript. Counted (lines_in d transcript))
counted_legal capacity setup steps transcript d sound own paying in_range legal honest =
    counted (lines_in d transcript)
    (legal_paid capacity setup steps transcript d sound own paying in_range legal honest)
    (fresh_lines d (onto [] transcript) (legal_fresh capacity setup steps transcript sound legal))
