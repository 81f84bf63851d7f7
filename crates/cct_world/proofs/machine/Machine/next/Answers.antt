use Rattle.std.proofs.Common.{[], refl, rules}
use Rattle.cct_world.proofs.Forged.{told_are}
use Rattle.cct_world.proofs.Restarts.{next_counts, next_told}
use Rattle.cct_world.proofs.Steps.{next_goes}
use Rattle.cct_world.proofs.machine.Machine.next.Goals as goal

pub returns-in-Ok-clause-played : goal.returns-in-Ok-clause-played
returns-in-Ok-clause-played g c =
    let machine = c.args.self.now in
    let next = c.next_into.ensures in
    let nexts = c.in-Ok.ensures.nexts in
    let tells = c.tell_forged.ensures in
    let news = told_are [] _ _ c.args.addr nexts.what refl nexts.reported_is tells in
    let report = c.tell_forged.new.report.items in
    let told = next_told report tells.was c.args.addr nexts.what news in
    record {
      setup = next.setup;
      whole = c.in-Ok.ensures.whole;
      plays = λ past stands suits survives.
          let goes = next_goes machine.bus c.next_into.new.link machine.host c.next_into.new.self c.args.addr past _ _
          report nexts
          tells news machine.same stands.host stands.bus suits in
          (goes.0, record { host = goes.1.0; bus = goes.1.1 });
      told = told.0;
      counts = next_counts report tells.was c.args.addr nexts.what _ _ news nexts.counts;
      restarts = told.1;
      cut = next.goes_on.same_cuts;
      lasts = next.goes_on;
      later = search rules;
      desk = refl;
    }

pub returns-in-Err-clause-unplayed : goal.returns-in-Err-clause-unplayed
returns-in-Err-clause-unplayed g c =
    let next = c.next_into.ensures in
    record {
      breaks = λ past stands. let due = (c.in-Err.ensures.fails past stands.host).1 in (due.0, (due.1, due.2));
      empty = c.clear.ensures;
      cause = search rules;
      cut = λ other. absurd (other refl);
      lost = λ other. absurd (other refl);
      lasts = next.goes_on;
    }
