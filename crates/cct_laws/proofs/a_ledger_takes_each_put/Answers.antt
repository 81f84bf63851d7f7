use Rattle.std.specs.Prelude.{[]}
use Rattle.cct_model.specs.Transcript.{onto}
use Rattle.cct_laws.proofs.money.Journal.{legal_due_allowed}
use Rattle.cct_laws.proofs.a_ledger_takes_each_put.Goals as goal

pub returns : goal.returns
returns c = λ capacity setup steps transcript sound in_range legal addr r.
    legal_due_allowed capacity setup steps (onto [] transcript) addr r sound in_range legal
