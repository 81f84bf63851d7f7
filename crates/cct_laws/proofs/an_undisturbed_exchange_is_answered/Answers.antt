use Rattle.cct_laws.proofs.jobs.AskedAndAnswered.{undisturbed_answered}
use Rattle.cct_laws.proofs.an_undisturbed_exchange_is_answered.Goals as goal

pub returns : goal.returns
returns c = λ setup past d command rows judged payment q given clear is.
    undisturbed_answered setup past d command rows judged payment q given.sound given.own given.suited given.in_range clear is
