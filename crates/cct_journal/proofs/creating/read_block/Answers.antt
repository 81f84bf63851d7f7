use Rattle.std.proofs.Common.{◌+◌, subst, arith}
use Rattle.std.specs.Option.{MatchOption}
use Rattle.cct_journal.specs.Image.{IsBlankBetween, IsFirstByteFrom}
use Rattle.cct_journal.proofs.Blanks.{block_found}
use Rattle.cct_journal.proofs.creating.read_block.Goals as goal

pub returns-clause-found : goal.returns-clause-found
returns-clause-found g c image told =
    let size = g.met.D.Disk.fits _ image told in
    subst (λ n. MatchOption c.first_byte.result (IsBlankBetween c.args.at (c.args.at + n) image)
    (λ index. IsFirstByteFrom c.args.at image (c.args.at + index))) c.read.ensures.room
    (block_found c.read.new.room image c.args.at c.first_byte.result (c.in_ok-read.ensures.gives image told)
    (omega (arith, size, c.read.ensures.room, c.requires)) c.first_byte.ensures)
