use Rattle.cct_script.specs.Giving.{standing_of, line_given}
use Rattle.cct_bench.proofs.UpgradeLines.{nothing_closes, nothing_stops}
use Rattle.cct_bench.proofs.upgrade_script.read_nothing.Goals as goal

pub returns-clause-closes : goal.returns-clause-closes
returns-clause-closes g c =
    nothing_closes (standing_of c.args.lines.now) (standing_of c.line.follows.lender-at-none)
    (g.S.Source.left c.args.script.now) (g.S.Source.left c.line.new.source) (line_given c.line.result)
    c.line.follows.holds-at-none.0 c.behind_end.result c.behind_end.ensures

pub returns-clause-stops : goal.returns-clause-stops
returns-clause-stops g c =
    nothing_stops (standing_of c.args.lines.now) (standing_of c.line.follows.lender-at-none)
    (g.S.Source.left c.args.script.now) (g.S.Source.left c.line.new.source) (line_given c.line.result)
    c.line.follows.holds-at-none.0 c.behind_end.result c.behind_end.ensures
