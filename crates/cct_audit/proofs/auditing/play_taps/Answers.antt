use Rattle.std.proofs.Common.{◌+◌, ◌∷◌, map, Ok, Err, sym, ◌∙◌, subst, rules, arith}
use Rattle.cct_audit.proofs.Puts.{writes_then, wrote_nothing}
use Rattle.cct_script.specs.Giving.{standing_of}
use Rattle.cct_script.specs.Scripts.{GoesOnIn, WithMoreTaken}
use Rattle.cct_script.proofs.Sources.{serves_on}
use Rattle.cct_monitor.specs.Monitor.{StandsFor}
use Rattle.cct_monitor.specs.Watches.{made_tap}
use Rattle.cct_audit.specs.Capture.{of_capture, over, tapping}
use Rattle.cct_audit.specs.Reading.{TakesTap}
use Rattle.cct_audit.specs.Telling.{said_line, tells, told}
use Rattle.cct_audit.proofs.Going.{audit_broke, audit_stops, going_comes, going_opens}
use Rattle.cct_audit.specs.Writing.{BrokeLines, WritesLines, WroteLines}
use Rattle.cct_audit.proofs.auditing.play_taps.Goals as goal

pub loop-lines-init : goal.loop-lines-init
loop-lines-init g c =
    let sink = g.K.Sink in
    record {
      going = λ left0 begun going stands nothing.
          (begun, going, stands, wrote_nothing sink.written sink.puts c.args.out.now (told begun) nothing);
      next = c.requires.next;
      few = omega (arith, c.requires.few);
      source = search rules;
      sink = search rules;
    }

pub read_tap-requires-clause-few : goal.read_tap-requires-clause-few
read_tap-requires-clause-few g c =
    let runs = c.loop-lines.invariant in omega (arith, runs.few, runs.next.1)

pub returns-in-Ok-Ended-clause-audited : goal.returns-in-Ok-Ended-clause-audited
returns-in-Ok-Ended-clause-audited g c left0 begun going stands nothing =
    let left = g.S.Source.left c.loop-lines.script in
    let left1 = g.S.Source.left c.read_tap.new.script in
    let held = (standing_of c.loop-lines.lines).held in
    let rest = (standing_of c.read_tap.new.lines).held in
    let number = c.loop-lines.number in
    let was = c.loop-lines.invariant.going left0 begun going stands nothing in
    let took = subst (λ tapped. TakesTap was.0 tapped c.read_tap.new.monitor c.read_tap.new.report.items
    (λ read. WithMoreTaken held left left1 (λ bytes. GoesOnIn of_capture number tapping bytes read rest)))
    c.in-Ok-Ended.field-0-is (c.in-Ok-Ended.ensures.reads was.0 was.2) in
    c.finish.ensures.audited left0 was.0 (going_opens left0 left left1 held rest number tapping over was.0 was.1 took.0)
    took.1 c.args.out.now was.3

pub returns-in-Err-clause-audited : goal.returns-in-Err-clause-audited
returns-in-Err-clause-audited g c left0 begun going stands nothing =
    let sink = g.K.Sink in
    let left = g.S.Source.left c.loop-lines.script in
    let left1 = g.S.Source.left c.read_tap.new.script in
    let was = c.loop-lines.invariant.going left0 begun going stands nothing in
    audit_stops left0 left left1 (standing_of c.loop-lines.lines).held c.loop-lines.number tapping was.0 c.in-Err.why c.read_tap.new.monitor
    (WroteLines sink.written sink.puts c.args.out.now c.loop-lines.out) (BrokeLines sink.written sink.puts c.args.out.now c.loop-lines.out)
    was.1 (subst (λ m. StandsFor m was.0) (sym c.in-Err.ensures.same) was.2) c.in-Err.ensures.stops was.3

pub returns-in-Err-write_all-clause-audited : goal.returns-in-Err-write_all-clause-audited
returns-in-Err-write_all-clause-audited g c left0 begun going stands nothing =
    let sink = g.K.Sink in
    let left = g.S.Source.left c.loop-lines.script in
    let left1 = g.S.Source.left c.read_tap.new.script in
    let held = (standing_of c.loop-lines.lines).held in
    let rest = (standing_of c.read_tap.new.lines).held in
    let number = c.loop-lines.number in
    let out1 = c.loop-lines.out in
    let out2 = c.write_all.new.out in
    let failed = c.in-Err-write_all.field-0 in
    let was = c.loop-lines.invariant.going left0 begun going stands nothing in
    let took = subst (λ tapped. TakesTap was.0 tapped c.read_tap.new.monitor c.read_tap.new.report.items
    (λ read. WithMoreTaken held left left1 (λ bytes. GoesOnIn of_capture number tapping bytes read rest)))
    c.in-Ok-Tapped.field-0-is (c.in-Ok-Tapped.ensures.reads was.0 was.2) in
    let last = subst (λ said. WritesLines sink.written sink.puts out1 (map said_line said) (Err failed) out2)
    (c.as_slice.ensures.value ∙ took.3) c.in-Err-write_all.ensures.writes in
    audit_broke left0 left1 rest (number + 1) tapping (made_tap took.0) was.0 c.read_tap.new.monitor
    (WroteLines sink.written sink.puts c.args.out.now out2) (BrokeLines sink.written sink.puts c.args.out.now out2)
    (going_comes left0 left left1 held rest number tapping tapping was.0 (made_tap took.0) was.1 took.1) took.2
    (out1, failed, was.3, last)

pub loop-lines-preserved : goal.loop-lines-preserved
loop-lines-preserved g c =
    let sink = g.K.Sink in
    let left = g.S.Source.left c.loop-lines.script in
    let left1 = g.S.Source.left c.read_tap.new.script in
    let held = (standing_of c.loop-lines.lines).held in
    let rest = (standing_of c.read_tap.new.lines).held in
    let number = c.loop-lines.number in
    let out = c.args.out.now in
    let out1 = c.loop-lines.out in
    let out2 = c.write_all.new.out in
    let done = c.in-Ok.field-0 in
    let runs = c.loop-lines.invariant in
    record {
      going = λ left0 begun going stands nothing.
          let was = runs.going left0 begun going stands nothing in
          let took = subst (λ tapped. TakesTap was.0 tapped c.read_tap.new.monitor c.read_tap.new.report.items
          (λ read. WithMoreTaken held left left1 (λ bytes. GoesOnIn of_capture number tapping bytes read rest)))
          c.in-Ok-Tapped.field-0-is (c.in-Ok-Tapped.ensures.reads was.0 was.2) in
          let last = subst (λ said. WritesLines sink.written sink.puts out1 (map said_line said) (Ok done) out2)
          (c.as_slice.ensures.value ∙ took.3) c.in-Ok.ensures.writes in (
            made_tap took.0 ∷ was.0,
            going_comes left0 left left1 held rest number tapping tapping was.0 (made_tap took.0) was.1 took.1,
            took.2,
            writes_then sink.written sink.puts out out1 out2 (told was.0) (tells was.0 (made_tap took.0)) (Ok done) was.3 last,
          );
      next = c.in-Ok-Tapped.ensures.next;
      few = omega (arith, runs.few, c.in-Ok-Tapped.ensures.taps);
      source = serves_on runs.source c.in-Ok-Tapped.ensures.source;
      sink = serves_on runs.sink c.in-Ok.ensures.serves;
    }
