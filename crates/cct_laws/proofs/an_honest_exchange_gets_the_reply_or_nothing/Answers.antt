use Rattle.cct_laws.proofs.jobs.AskedAndAnswered.{honest_answered}
use Rattle.cct_laws.proofs.an_honest_exchange_gets_the_reply_or_nothing.Goals as goal

pub returns : goal.returns
returns c = λ setup past d command rows judged payment q given honest is.
    honest_answered setup past d command rows judged payment q given.sound given.own given.suited given.in_range honest is
