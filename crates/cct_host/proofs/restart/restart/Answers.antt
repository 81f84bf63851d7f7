use Rattle.std.proofs.Common.{◌∙◌, ◌++◌, ◌≡◌, Some, subst, sym}
use Rattle.std.specs.Option.{IfSome}
use Rattle.cct_host.specs.Desks.{setup_of}
use Rattle.cct_host.specs.Host.{put_by}
use Rattle.cct_host.specs.Restarting.{due_for}
use Rattle.cct_host.proofs.Losses.{bad_fails, fails_at, kept_follow, none_stops, restarts_at, stops_at, tallies_over}
use Rattle.cct_host.proofs.Starting.{free_together}
use Rattle.cct_host.proofs.restart.restart.Goals as goal

pub returns-in-None-clause-together : goal.returns-in-None-clause-together
returns-in-None-clause-together g c =
    let over = c.in-Ok.ensures.replayed.each in
    let desks = c.resume.ensures in
    free_together c.resume.result c.lose.new.replay.tally c.lose.new.journal desks.resumes.unused
    (over.2.setup ∙ c.new-replayed.ensures.setup ∙ sym desks.setup) (over.2.counted c.in-None.is ∙ sym over.1)

pub returns-in-None-clause-over : goal.returns-in-None-clause-over
returns-in-None-clause-over g c rest reads =
    tallies_over c.new-replayed.result c.lose.new.replay (setup_of c.args.desks.now) _ _ rest c.in-None.is
    (c.new-replayed.ensures.setup ∙ c.setup-setup.ensures) (c.in-Ok.ensures.replayed.told rest reads)

pub returns-in-Some-clause-together : goal.returns-in-Some-clause-together
returns-in-Some-clause-together g c =
    let parts = c.clear-in-Some.ensures in
    free_together c.clear-in-Some.new.desks c.clear-in-Some.new.tally c.lose.new.journal parts.unused
    (parts.same ∙ sym parts.setup) (parts.tallied ∙ c.used-in-Some.ensures.value)

pub returns-in-Some-clause-fails : goal.returns-in-Some-clause-fails
returns-in-Some-clause-fails g c =
    let setup = setup_of c.args.desks.now in
    bad_fails setup _ _ _ c.args.choice c.args.journal.now c.lose.new.journal c.in-Ok.kept c.in-Some.index
    (restarts_at _ _ _ _ _ _ _ _ _ c.in-Ok.kept c.calls_in.ensures c.due_for-due.ensures.value c.carry.ensures.value
    c.in-Ok.ensures.restarts)
    (λ rest reads.
    stops_at c.new-replayed.result c.lose.new.replay setup _ c.in-Some.index _ rest c.in-Some.is
    (c.new-replayed.ensures.setup ∙ c.setup-setup.ensures) (c.in-Ok.ensures.replayed.told rest reads))

pub returns-in-Some-clause-never : goal.returns-in-Some-clause-never
returns-in-Some-clause-never g c records stands so_far follow fits =
    let setup = setup_of c.args.desks.now in
    let kept = c.in-Ok.kept in
    let restarts = c.in-Ok.ensures.restarts in
    absurd (none_stops setup c.lose.new.journal (records ++ put_by kept) c.in-Some.index c.args.desks.now.sound
    (restarts.stands setup records stands (c.carry.ensures.value ∙ so_far)).1
    (kept_follow setup (due_for c.args.desks.now c.args.at) kept records follow
    (subst (λ d. IfSome kept (λ r. d ≡ Some r)) c.due_for-due.ensures.value restarts.kept_is) fits)
    (λ rest reads.
    stops_at c.new-replayed.result c.lose.new.replay setup _ c.in-Some.index _ rest c.in-Some.is
    (c.new-replayed.ensures.setup ∙ c.setup-setup.ensures) (c.in-Ok.ensures.replayed.told rest reads)))

pub returns-in-Err-clause-together : goal.returns-in-Err-clause-together
returns-in-Err-clause-together g c =
    let parts = c.clear.ensures in
    free_together c.clear.new.desks c.clear.new.tally c.lose.new.journal parts.unused
    (parts.same ∙ sym parts.setup) (parts.tallied ∙ c.used.ensures.value)

pub returns-in-Err-clause-fails : goal.returns-in-Err-clause-fails
returns-in-Err-clause-fails g c =
    let setup = setup_of c.args.desks.now in
    fails_at setup _ _ _ _ c.args.choice c.args.journal.now c.lose.new.journal c.in-Err.why c.due_for-due.ensures.value
    c.carry.ensures.value (c.in-Err.ensures.fails setup)
