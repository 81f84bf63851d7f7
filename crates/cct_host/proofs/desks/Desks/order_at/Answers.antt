use Rattle.std.proofs.Common.{ap, sym, ◌∙◌}
use Rattle.cct_jobs.specs.Jobs.{order_of}
use Rattle.cct_host.specs.declared.desk.JobDesk.{JobDesk}
use Rattle.cct_host.specs.Standing.{order_there}
use Rattle.cct_host.proofs.Places.{none_at}
use Rattle.cct_host.proofs.Told.{begun_tells, desk_tells, none_begun}
use Rattle.cct_host.proofs.desks.Desks.order_at.Goals as goal

pub returns-in-Some-clause-stands : goal.returns-in-Some-clause-stands
returns-in-Some-clause-stands c past stands =
    c.order_in.ensures ∙ ap (λ (k : JobDesk). order_of k.orders.order) (sym c.index-deref-index.is)
    ∙ (desk_tells c.args.self.now c.args.addr c.in-Some.index _ c.index-deref-index.result _ past c.find.ensures c.in-Some.is
    c.deref.ensures.0 c.index-deref-index.is stands).order

pub returns-in-None-clause-stands : goal.returns-in-None-clause-stands
returns-in-None-clause-stands c past stands =
    sym (ap (order_there past) (none_at c.args.self.now c.args.addr _ c.find.ensures c.in-None.is).0)

pub returns-in-Some-clause-begins : goal.returns-in-Some-clause-begins
returns-in-Some-clause-begins c known last begins there =
    c.order_in.ensures ∙ ap (λ (k : JobDesk). order_of k.orders.order) (sym c.index-deref-index.is)
    ∙ (begun_tells c.args.self.now c.args.addr c.in-Some.index _ c.index-deref-index.result _ known last c.find.ensures
    c.in-Some.is c.deref.ensures.0 c.index-deref-index.is begins).1

pub returns-in-None-clause-begins : goal.returns-in-None-clause-begins
returns-in-None-clause-begins c known last begins there =
    absurd (none_begun c.args.self.now c.args.addr _ c.find.ensures c.in-None.is there)
