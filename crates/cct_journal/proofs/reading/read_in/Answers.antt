use Rattle.std.proofs.lemmas.Result.{on_ok_weaker}
use Rattle.cct_journal.proofs.Walks.{window_read}
use Rattle.cct_journal.proofs.reading.read_in.Goals as goal

pub returns-clause-gives : goal.returns-clause-gives
returns-clause-gives g c =
    on_ok_weaker c.read.result
    (λ gives image told.
    window_read image c.args.second _ _ _ c.args.at _ c.read.new.room (g.met.D.Disk.fits _ image told) c.len.ensures
    c.start_on-start.ensures c.requires c.read.ensures.room (gives image told)) c.read.ensures.gives
