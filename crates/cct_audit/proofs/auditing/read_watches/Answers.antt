use Rattle.std.proofs.Common.{[], ◌∷◌, refl, sym, ◌∙◌, subst, rules, lit≤}
use Rattle.std.proofs.lemmas.List.{append-nil}
use Rattle.cct_script.specs.Giving.{standing_of}
use Rattle.cct_script.specs.Scripts.{GoesOnIn, IsNext, WithMoreTaken}
use Rattle.cct_script.proofs.Sources.{serves_on}
use Rattle.cct_monitor.specs.Monitor.{StandsFor}
use Rattle.cct_monitor.specs.Watches.{made_watch}
use Rattle.cct_audit.specs.Capture.{of_capture, tapping, watching}
use Rattle.cct_audit.specs.Going.{Going}
use Rattle.cct_audit.specs.Reading.{TakesWatch}
use Rattle.cct_audit.specs.Telling.{told}
use Rattle.cct_audit.proofs.Going.{audit_stops, going_begin, going_comes, going_opens}
use Rattle.cct_audit.specs.Writing.{NeverBroke, NoLine}
use Rattle.cct_audit.proofs.auditing.read_watches.Goals as goal

pub loop-number-init : goal.loop-number-init
loop-number-init g c =
    let left = g.S.Source.left c.args.script.now in
    record {
      past = [];
      going = subst (λ standing. Going left left standing.held 1 (watching []) []) (sym c.requires.lines) (going_begin left);
      watches = c.requires.monitor;
      nothing = refl;
      next = subst (IsNext 1) (sym c.requires.lines) (refl, lit≤ tt);
      same = refl;
      source = search rules;
    }

pub returns-in-Ok-Begun-clause-opened : goal.returns-in-Ok-Begun-clause-opened
returns-in-Ok-Begun-clause-opened g c =
    let left0 = g.S.Source.left c.args.script.now in
    let left = g.S.Source.left c.loop-number.script in
    let left1 = g.S.Source.left c.read_watch.new.script in
    let held = (standing_of c.loop-number.lines).held in
    let rest = (standing_of c.read_watch.new.lines).held in
    let number = c.loop-number.number in
    let runs = c.loop-number.invariant in
    let took = subst (λ opened. TakesWatch runs.past opened c.read_watch.new.monitor (λ read. WithMoreTaken held left left1
    (λ bytes. GoesOnIn of_capture number (watching runs.past) bytes read rest)))
    c.in-Ok-Begun.field-0-is (c.in-Ok-Begun.ensures.reads runs.past runs.watches) in (
      runs.past,
      took.1.stands,
      runs.nothing,
      going_opens left0 left left1 held rest number (watching runs.past) tapping runs.past runs.going took.0,
    )

pub returns-in-Err-clause-ended : goal.returns-in-Err-clause-ended
returns-in-Err-clause-ended g c =
    let left0 = g.S.Source.left c.args.script.now in
    let left = g.S.Source.left c.loop-number.script in
    let left1 = g.S.Source.left c.read_watch.new.script in
    let runs = c.loop-number.invariant in
    audit_stops left0 left left1 (standing_of c.loop-number.lines).held c.loop-number.number (watching runs.past) runs.past
    c.in-Err.why c.read_watch.new.monitor NoLine NeverBroke runs.going (subst (λ m. StandsFor m runs.past) (sym c.in-Err.ensures.same) runs.watches.stands)
    (c.in-Err.ensures.stops runs.past runs.watches) runs.nothing

pub loop-number-preserved : goal.loop-number-preserved
loop-number-preserved g c =
    let left0 = g.S.Source.left c.args.script.now in
    let left = g.S.Source.left c.loop-number.script in
    let left1 = g.S.Source.left c.read_watch.new.script in
    let held = (standing_of c.loop-number.lines).held in
    let rest = (standing_of c.read_watch.new.lines).held in
    let number = c.loop-number.number in
    let runs = c.loop-number.invariant in
    let took = subst (λ opened. TakesWatch runs.past opened c.read_watch.new.monitor (λ read. WithMoreTaken held left left1
    (λ bytes. GoesOnIn of_capture number (watching runs.past) bytes read rest)))
    c.in-Ok-Watched.field-0-is (c.in-Ok-Watched.ensures.reads runs.past runs.watches) in
    record {
      past = made_watch took.0 ∷ runs.past;
      going = going_comes left0 left left1 held rest number (watching runs.past) (watching (made_watch took.0 ∷ runs.past))
          runs.past (made_watch took.0) runs.going took.1;
      watches = took.2;
      nothing = append-nil (told runs.past) ∙ runs.nothing;
      next = c.in-Ok-Watched.ensures.next;
      same = c.in-Ok-Watched.ensures.taps ∙ runs.same;
      source = serves_on runs.source c.in-Ok-Watched.ensures.source;
    }
