use Rattle.std.proofs.Common.{refl, rules}
use Rattle.cct_world.proofs.Restarts.{crash_breaks, crash_plays, crash_restarts, restarts_count}
use Rattle.cct_world.proofs.machine.Machine.crash.Goals as goal

pub returns-in-Ok-clause-played : goal.returns-in-Ok-clause-played
returns-in-Ok-clause-played g c =
    let again = c.in-Ok.ensures.restarts in
    let restarts = crash_restarts c.args.self.now.host c.restart.new.self c.args.at c.args.choice c.in-Ok.crashed _
    c.tell_crash.ensures again in
    record {
      setup = again.setup;
      whole = again.whole;
      plays = crash_plays c.args.self.now _ c.args.at c.args.choice c.in-Ok.crashed c.tell_crash.new.report.items
          c.tell_crash.ensures again.tells refl;
      told = search rules;
      counts = restarts_count _ _ _ _ _ _ restarts;
      restarts = (λ past stands. again.due past stands.host, restarts);
      cut = again.cut;
      lasts = again.outlasts;
      later = again.later;
      desk = refl;
    }

pub returns-in-Err-clause-unplayed : goal.returns-in-Err-clause-unplayed
returns-in-Err-clause-unplayed g c =
    let fails = c.in-Err.ensures.fails in
    record {
      breaks = crash_breaks c.args.self.now c.args.at c.args.choice _ c.in-Err.why fails;
      empty = c.clear.ensures;
      cause = fails.cause;
      cut = fails.cut;
      lost = search rules;
      lasts = fails.outlasts;
    }
