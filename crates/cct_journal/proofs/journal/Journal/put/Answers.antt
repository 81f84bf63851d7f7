use Rattle.std.proofs.Common.{inl}
use Rattle.cct_journal.specs.Image.{StandsFor, StandsForOneOf}
use Rattle.cct_journal.proofs.Leaving.{leaves_one_of}
use Rattle.cct_journal.proofs.Moments.{weaker}
use Rattle.cct_journal.proofs.TurnCalls.{same_moments}
use Rattle.cct_disk.proofs.Taking.{takes_none}
use Rattle.cct_journal.specs.Turning.{put_bytes, put_calls}
use Rattle.cct_journal.proofs.journal.Journal.put.Goals as goal

pub returns-then-used-capacity-clause-moments : goal.returns-then-used-capacity-clause-moments
returns-then-used-capacity-clause-moments g c carry_of records stands =
    weaker g.D.Disk.moment g.D.Disk.left_since c.args.self.now.disk c.args.self.now.disk
    (λ image. StandsFor carry_of image records) (StandsForOneOf carry_of records c.args.entry.now)
    (λ image has. inl has) (same_moments g.met.D.Disk.only_now stands.stands)

pub returns-in-Err-clause-left : goal.returns-in-Err-clause-left
returns-in-Err-clause-left g c carry_of records stands =
    leaves_one_of g.met.D.Disk.counts_now c.put_next.ensures.goes_on.same_honest
    c.put_next.ensures.goes_on.same_telling stands.stands c.args.entry.now
    (c.put_next.ensures.moments carry_of records stands)

pub returns-then-used-capacity-clause-takes : goal.returns-then-used-capacity-clause-takes
returns-then-used-capacity-clause-takes g c = takes_none put_calls put_bytes c.args.self.now.disk
