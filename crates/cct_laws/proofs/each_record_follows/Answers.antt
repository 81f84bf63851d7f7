use Rattle.std.specs.Prelude.{[]}
use Rattle.cct_model.specs.Transcript.{onto}
use Rattle.cct_laws.proofs.money.Journal.{legal_follow, legal_due_follows}
use Rattle.cct_laws.proofs.each_record_follows.Goals as goal

pub returns : goal.returns
returns c = record {
  all = legal_follow;
  due = λ capacity setup steps transcript sound in_range legal addr r.
      legal_due_follows capacity setup steps (onto [] transcript) addr r sound in_range legal;
}
