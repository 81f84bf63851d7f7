use Rattle.cct_host_change.proofs.Going.{serves_by, with_closed, with_lost}
use Rattle.cct_host_change.proofs.desk.Desk.serve_due.Goals as goal

pub returns-in-Closed : goal.returns-in-Closed
returns-in-Closed c =
    serves_by c.settle_and_go_on.result c.args.self.now c.settle_and_go_on.new.self _ _
    (with_closed c.args.self.now.trays c.args.self.now.session c.args.session c.args.due c.requires.runs c.requires.due
    c.in-Closed.paid c.in-Closed.unpaid c.in-Closed.is) c.settle_and_go_on.ensures

pub returns-in-Lost : goal.returns-in-Lost
returns-in-Lost c =
    serves_by c.settle_and_go_on-in-Lost.result c.args.self.now c.settle_and_go_on-in-Lost.new.self _ _
    (with_lost c.args.self.now.trays c.args.self.now.session c.args.session c.args.due c.requires.runs c.requires.due
    c.in-Lost.is) c.settle_and_go_on-in-Lost.ensures
