use Rattle.std.proofs.Common.{ap, sym, ◌∙◌}
use Rattle.cct_host.specs.declared.desk.JobDesk.{JobDesk}
use Rattle.cct_host.specs.Standing.{epoch_there}
use Rattle.cct_host.proofs.Places.{none_at}
use Rattle.cct_host.proofs.Told.{begun_tells, desk_tells, none_begun}
use Rattle.cct_host.proofs.desks.Desks.epoch_at.Goals as goal

pub returns-in-Some-clause-stands : goal.returns-in-Some-clause-stands
returns-in-Some-clause-stands c past stands =
    ap (λ (k : JobDesk). k.epoch) (sym c.index-deref-index.is)
    ∙ (desk_tells c.args.self.now c.args.addr c.in-Some.index _ c.index-deref-index.result _ past c.find.ensures c.in-Some.is
    c.deref.ensures.0 c.index-deref-index.is stands).epoch

pub returns-in-None-clause-stands : goal.returns-in-None-clause-stands
returns-in-None-clause-stands c past stands =
    sym (ap (epoch_there past) (none_at c.args.self.now c.args.addr _ c.find.ensures c.in-None.is).0)

pub returns-in-Some-clause-begins : goal.returns-in-Some-clause-begins
returns-in-Some-clause-begins c known last begins there =
    ap (λ (k : JobDesk). k.epoch) (sym c.index-deref-index.is)
    ∙ (begun_tells c.args.self.now c.args.addr c.in-Some.index _ c.index-deref-index.result _ known last c.find.ensures
    c.in-Some.is c.deref.ensures.0 c.index-deref-index.is begins).0

pub returns-in-None-clause-begins : goal.returns-in-None-clause-begins
returns-in-None-clause-begins c known last begins there =
    absurd (none_begun c.args.self.now c.args.addr _ c.find.ensures c.in-None.is there)
