use Rattle.std.proofs.Common.{inl, inr, ◌+◌, arith}
use Rattle.std.proofs.lemmas.Result.{on_ok_weaker}
use Rattle.cct_journal.specs.Turning.{IsBeginning, IsClosing, IsTurnedBy, closed_by}
use Rattle.cct_journal.proofs.Moments.{then, weaker}
use Rattle.cct_journal.specs.declared.format.TheConstants.{START}
use Rattle.cct_disk.proofs.Taking.{takes_most, takes_then}
use Rattle.cct_journal.proofs.turning.turn_half.Goals as goal

pub returns-in_err-close_other-clause-moments : goal.returns-in_err-close_other-clause-moments
returns-in_err-close_other-clause-moments g c image held =
    weaker g.D.Disk.moment g.D.Disk.left_since c.args.disk.now c.close_other.new.disk (IsClosing c.args.place.now image)
    (IsTurnedBy c.args.place.now c.args.carry.now image) (λ _ same. inl same) (c.close_other.ensures.moments image held)

pub returns-clause-moments : goal.returns-clause-moments
returns-clause-moments g c image held =
    let disk = g.D.Disk in
    let place = c.args.place.now in
    let carry = c.args.carry.now in
    then disk.moment disk.left_since c.args.disk.now c.close_other.new.disk c.begin_other.new.disk
    (IsTurnedBy place carry image)
    (weaker disk.moment disk.left_since c.args.disk.now c.close_other.new.disk (IsClosing place image)
    (IsTurnedBy place carry image) (λ _ same. inl same) (c.close_other.ensures.moments image held))
    (weaker disk.moment disk.left_since c.close_other.new.disk c.begin_other.new.disk
    (IsBeginning place carry (closed_by place image)) (IsTurnedBy place carry image) (λ _ begun. inr begun)
    (c.begin_other.ensures.moments (closed_by place image) (c.in_ok-close_other.ensures.done image held)))

pub returns-clause-done : goal.returns-clause-done
returns-clause-done g c =
    on_ok_weaker c.begin_other.result
    (λ done image held. done (closed_by c.args.place.now image) (c.in_ok-close_other.ensures.done image held))
    c.begin_other.ensures.done

pub returns-in_err-close_other-clause-takes : goal.returns-in_err-close_other-clause-takes
returns-in_err-close_other-clause-takes g c =
    takes_most 6 (START + 2) (omega arith) (omega arith) c.close_other.ensures.takes

pub returns-clause-takes : goal.returns-clause-takes
returns-clause-takes g c =
    takes_most 6 (START + 2) (omega arith) (omega arith)
    (takes_then c.close_other.ensures.takes c.begin_other.ensures.takes)
