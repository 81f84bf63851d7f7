use Rattle.std.proofs.Common.{◌≡◌, ◌∷◌, ◌++◌, [], Ok, Err, refl, inr, sym, subst, ap, arith, length}
use Rattle.cct_edge.specs.Faults.{Rose}
use Rattle.cct_edge.proofs.Chains.{Rose-earlier, Rose-later}
use Rattle.cct_host.specs.Host.{disk_of, setup_of}
use Rattle.cct_script.specs.Endless.{held_of}
use Rattle.cct_live_service.specs.Causes.{IsDiskFault, IsUnread, IsUnwritten}
use Rattle.cct_live_service.specs.AtDesk.{Both, FollowsDesk}
use Rattle.cct_live_service.specs.Doing.{DoesLine, DoesLines, Finds}
use Rattle.cct_live_service.specs.Known.{KnownAfter, MissedFrom, Rested, TaskAfter}
use Rattle.cct_live_service.specs.Linked.{UsesLink, watched}
use Rattle.cct_live_service.specs.Refused.{refusals}
use Rattle.cct_live_service.specs.Said.{HasSaid}
use Rattle.cct_live_service.proofs.Causing.{input_no_fault, input_not_unwritten, unread_of_input}
use Rattle.cct_live_service.proofs.Doings.{lines_missed, next_number}
use Rattle.cct_live_service.proofs.Found.{lines_none, lines_then}
use Rattle.cct_live_service.proofs.Hearing.{hears_line}
use Rattle.cct_live_service.proofs.KnownLater.{Knowing, acts_knowing, later_then, missed_later, missed_weaker, rested_later, task_then}
use Rattle.cct_live_service.proofs.Linking.{lives_end, lives_stop, roll_desk, roll_none}
use Rattle.cct_live_service.proofs.Parts.{acts_weaker, breaks, disk_weaker, lives_weaker, serves_none, serves_then, serves_weaker}
use Rattle.cct_live_service.proofs.Saying.{said_all, said_broken, said_many, said_more, said_none}
use Rattle.cct_live_service.proofs.play.play.Goals as goal

pub loop-number-init : goal.loop-number-init
loop-number-init g c =
    let source = g.S.Source in
    let sink = g.K.Sink in
    let link = g.L.CountedLink in
    let misses = g.O.Outside.misses in
    let left = source.left c.args.input.now in
    let first = c.args.roll.now.findings in
    let setup = setup_of c.args.host.now in
    let devices = setup.devices in
    let knows = KnownAfter c.args.host.now c.args.desk.now in
    record {
      said = [];
      count = refl;
      acts = roll_none sink.written sink.puts sink.faults g.L.Link.gives link.sent link.failures
          devices c.args.roll.now (watched c.args.link.now c.args.page.now) (FollowsDesk (Ok tt) c.args.desk.now c.args.desk.now) refl c.args.out.now
          c.args.host.now (Finds first first (DoesLines knows (MissedFrom c.args.host.now (Rose (misses c.args.outside.now) (misses c.args.outside.now))) setup first [])) c.requires.whole (lines_none knows (MissedFrom c.args.host.now (Rose (misses c.args.outside.now) (misses c.args.outside.now))) setup first);
      later = omega arith;
      heard = λ before h. h;
      says = subst (λ held. HasSaid left [] held left) (sym c.new-lines.ensures) (said_none left);
      serves = serves_none source.left source.faults c.args.input.now ⊥ (λ fails. fails);
    }

pub returns-in-Err : goal.returns-in-Err
returns-in-Err g c =
    let source = g.S.Source in
    let sink = g.K.Sink in
    let link = g.L.CountedLink in
    let misses = g.O.Outside.misses in
    let disk = g.D.Disk in
    let before = c.loop-number.invariant in
    let how = c.in-Err.how in
    let ends = c.in-Err.ensures.ends in
    let first = c.args.roll.now.findings in
    let setup = setup_of c.args.host.now in
    let devices = setup.devices in
    let knows = KnownAfter c.args.host.now c.args.desk.now in
    let uses = UsesLink g.L.Link.gives link.sent link.failures devices c.args.roll.now c.loop-number.roll (watched c.args.link.now c.args.page.now)
    (watched c.loop-number.link c.loop-number.page) in
    let was_missed = MissedFrom c.args.host.now (Rose (misses c.args.outside.now) (misses c.loop-number.outside)) in
    let missed = MissedFrom c.args.host.now (Rose (misses c.args.outside.now) (misses c.next_line.new.outside)) in
    let rises = Rose-later (misses c.args.outside.now) (misses c.loop-number.outside) (misses c.next_line.new.outside) in
    let did = DoesLines knows was_missed setup first before.said in
    let does = DoesLines knows missed setup first before.said in
    record {
      whole = λ is. before.acts.whole;
      setup = before.acts.setup;
      later = later_then before.later c.in-Err.ensures.later;
      plays = record {
        lines = before.said;
        lives = lives_stop sink.written sink.puts uses how c.args.desk.now c.loop-number.desk does c.args.out.now
            c.loop-number.out c.args.host.now c.loop-number.host ends
            (lives_weaker sink.written sink.puts (Both uses (FollowsDesk (Ok tt) c.args.desk.now c.loop-number.desk)) (Ok tt)
            c.args.out.now c.loop-number.out c.args.host.now
            c.loop-number.host (Finds first c.loop-number.roll.findings did) does
            (λ s t h. lines_missed knows was_missed missed
            (missed_weaker c.args.host.now (Rose (misses c.args.outside.now) (misses c.loop-number.outside))
            (Rose (misses c.args.outside.now) (misses c.next_line.new.outside)) (λ rose. rises rose c.in-Err.ensures.later))
            setup first before.said s t h.0) before.acts.lives);
        says = said_all c.loop-number.number how (source.left c.args.input.now) (source.left c.loop-number.input)
            (source.left c.next_line.new.input) (held_of c.loop-number.lines) (held_of c.next_line.new.lines) before.said
            before.count before.says c.in-Err.ensures.comes;
        heard = λ earlier h. c.in-Err.ensures.heard (refusals devices before.said ++ earlier) (before.heard earlier h);
      };
      input = serves_then source.left source.faults c.args.input.now c.loop-number.input c.next_line.new.input ⊥
          (IsUnread how) before.serves c.in-Err.ensures.serves (IsUnread how) (λ fails. inr fails);
      sink = serves_weaker sink.written sink.faults c.args.out.now c.loop-number.out ⊥ (IsUnwritten how)
          (input_not_unwritten how ends) before.acts.sink;
      disk = disk_weaker disk.size disk.honest disk.seen disk.cuts disk.faults (disk_of c.args.host.now)
          (disk_of c.loop-number.host) ⊥ (IsDiskFault how) (input_no_fault how ends) before.acts.disk;
    }

pub returns-in-Err-take_line : goal.returns-in-Err-take_line
returns-in-Err-take_line g c =
    let source = g.S.Source in
    let sink = g.K.Sink in
    let link = g.L.CountedLink in
    let misses = g.O.Outside.misses in
    let before = c.loop-number.invariant in
    let how = c.in-Err-take_line.how in
    let line = c.in-Ok.line in
    let first = c.args.roll.now.findings in
    let setup = setup_of c.args.host.now in
    let devices = setup.devices in
    let knows = KnownAfter c.args.host.now c.args.desk.now in
    let known = c.loop-number.roll.findings in
    let now = c.take_line.new.roll.findings in
    let number = c.loop-number.number in
    let left = source.left c.args.input.now in
    let out = c.args.out.now in
    let host = c.args.host.now in
    let does = DoesLines knows (MissedFrom c.args.host.now (Rose (misses c.args.outside.now) (misses c.take_line.new.outside))) setup first
    (line ∷ before.said) in
    let was = c.args.desk.now in
    let desk = c.take_line.new.desk in
    let uses = UsesLink g.L.Link.gives link.sent link.failures devices c.args.roll.now c.take_line.new.roll (watched c.args.link.now c.args.page.now)
    (watched c.take_line.new.link c.take_line.new.page) in
    let follows = Both uses (FollowsDesk (Err how) was desk) in
    let rested = Rested c.loop-number.host c.loop-number.desk in
    let tasks = TaskAfter c.loop-number.host c.loop-number.desk in
    let start = misses c.args.outside.now in
    let from = misses c.loop-number.outside in
    let between = misses c.next_line.new.outside in
    let last = misses c.take_line.new.outside in
    let on = later_then c.in-Ok.ensures.later c.take_line.ensures.later in
    let was_missed = MissedFrom c.args.host.now (Rose start from) in
    let line_missed = MissedFrom c.loop-number.host (Rose between last) in
    let missed = MissedFrom c.args.host.now (Rose start last) in
    let missed_before = missed_weaker c.args.host.now (Rose start from) (Rose start last) (λ rose. Rose-later start from last rose on) in
    let missed_then : Rose between last → Rose start last = Rose-earlier start between last (later_then before.later c.in-Ok.ensures.later) in
    let did = Finds first known (DoesLines knows was_missed setup first before.said) in
    let went = Both (UsesLink g.L.Link.gives link.sent link.failures devices c.args.roll.now c.loop-number.roll (watched c.args.link.now c.args.page.now)
    (watched c.loop-number.link c.loop-number.page)) (FollowsDesk (Ok tt) c.args.desk.now c.loop-number.desk) in
    let acts = acts_weaker sink.written sink.puts sink.faults (Err how) out c.take_line.new.out host c.take_line.new.host
    (Finds first now does) does (λ s t h. h.0)
    (roll_desk sink.written sink.puts sink.faults g.L.Link.gives link.sent link.failures c.args.roll.now c.loop-number.roll
    c.take_line.new.roll (watched c.args.link.now c.args.page.now) (watched c.loop-number.link c.loop-number.page) (watched c.take_line.new.link c.take_line.new.page) was c.loop-number.desk desk (Err how) out
    c.loop-number.out c.take_line.new.out host
    c.loop-number.host c.take_line.new.host (Knowing did went host c.loop-number.host)
    (Finds known now (DoesLine rested tasks line_missed (setup_of c.loop-number.host).devices known number line)) (Finds first now does)
    (λ s1 s2 t1 t2 h k. lines_then knows rested tasks was_missed line_missed missed missed_before setup (setup_of c.loop-number.host) before.acts.setup first known now
    before.said number line before.count s1 s2 t1 t2
    (rested_later host c.loop-number.host before.acts.setup was c.loop-number.desk s1 t1 (h.2, h.1.1))
    (task_then host c.loop-number.host before.acts.setup was c.loop-number.desk s1 t1 (h.2, h.1.1))
    (missed_later host c.loop-number.host before.acts.setup was c.loop-number.desk s1 t1 (h.2, h.1.1) (Rose between last)
    (Rose start last) missed_then) h.0 k)
    (acts_knowing sink.written sink.puts sink.faults went out c.loop-number.out host c.loop-number.host did before.acts)
    c.in-Err-take_line.ensures.acts) in
    let other = breaks sink.written sink.puts follows how does out c.take_line.new.out host c.take_line.new.host acts.lives in
    record {
      whole = λ is. absurd (other is);
      setup = acts.setup;
      later = later_then before.later on;
      plays = record {
        lines = line ∷ before.said;
        lives = lives_end sink.written sink.puts uses how was desk does out c.take_line.new.out host c.take_line.new.host acts.lives;
        says = said_broken how left (source.left c.next_line.new.input) (held_of c.next_line.new.lines)
            (line ∷ before.said) other
            (said_more number left (source.left c.loop-number.input) (source.left c.next_line.new.input)
            (held_of c.loop-number.lines) (held_of c.next_line.new.lines) before.said line before.says c.in-Ok.ensures.comes);
        heard = hears_line g.O.Outside.heard c.args.outside.now c.loop-number.outside c.next_line.new.outside c.take_line.new.outside devices
            (setup_of c.loop-number.host).devices (ap (λ s. s.devices) before.acts.setup) before.said number line before.count before.heard
            c.in-Ok.ensures.heard c.take_line.ensures.heard;
      };
      input = serves_then source.left source.faults c.args.input.now c.loop-number.input c.next_line.new.input ⊥ ⊥
          before.serves c.in-Ok.ensures.serves (IsUnread how) (λ fails. inr (other (unread_of_input how fails)));
      sink = acts.sink;
      disk = acts.disk;
    }

pub loop-number-preserved : goal.loop-number-preserved
loop-number-preserved g c =
    let source = g.S.Source in
    let sink = g.K.Sink in
    let link = g.L.CountedLink in
    let misses = g.O.Outside.misses in
    let before = c.loop-number.invariant in
    let line = c.in-Ok.line in
    let first = c.args.roll.now.findings in
    let setup = setup_of c.args.host.now in
    let devices = setup.devices in
    let knows = KnownAfter c.args.host.now c.args.desk.now in
    let known = c.loop-number.roll.findings in
    let now = c.take_line.new.roll.findings in
    let number = c.loop-number.number in
    let left = source.left c.args.input.now in
    let rested = Rested c.loop-number.host c.loop-number.desk in
    let tasks = TaskAfter c.loop-number.host c.loop-number.desk in
    let start = misses c.args.outside.now in
    let from = misses c.loop-number.outside in
    let between = misses c.next_line.new.outside in
    let last = misses c.take_line.new.outside in
    let on = later_then c.in-Ok.ensures.later c.take_line.ensures.later in
    let was_missed = MissedFrom c.args.host.now (Rose start from) in
    let line_missed = MissedFrom c.loop-number.host (Rose between last) in
    let missed = MissedFrom c.args.host.now (Rose start last) in
    let missed_before = missed_weaker c.args.host.now (Rose start from) (Rose start last) (λ rose. Rose-later start from last rose on) in
    let missed_then : Rose between last → Rose start last = Rose-earlier start between last (later_then before.later c.in-Ok.ensures.later) in
    let did = Finds first known (DoesLines knows was_missed setup first before.said) in
    let went = Both (UsesLink g.L.Link.gives link.sent link.failures devices c.args.roll.now c.loop-number.roll (watched c.args.link.now c.args.page.now)
    (watched c.loop-number.link c.loop-number.page)) (FollowsDesk (Ok tt) c.args.desk.now c.loop-number.desk) in
    record {
      said = line ∷ before.said;
      later = later_then before.later on;
      count = next_number (length before.said) number before.count;
      acts = roll_desk sink.written sink.puts sink.faults g.L.Link.gives link.sent link.failures c.args.roll.now c.loop-number.roll
          c.take_line.new.roll (watched c.args.link.now c.args.page.now) (watched c.loop-number.link c.loop-number.page) (watched c.take_line.new.link c.take_line.new.page) c.args.desk.now c.loop-number.desk
          c.take_line.new.desk (Ok tt) c.args.out.now c.loop-number.out c.take_line.new.out
          c.args.host.now c.loop-number.host c.take_line.new.host (Knowing did went c.args.host.now c.loop-number.host)
          (Finds known now (DoesLine rested tasks line_missed (setup_of c.loop-number.host).devices known number line))
          (Finds first now (DoesLines knows missed setup first (line ∷ before.said)))
          (λ s1 s2 t1 t2 h k. lines_then knows rested tasks was_missed line_missed missed missed_before setup (setup_of c.loop-number.host) before.acts.setup first known now
          before.said number line before.count s1 s2 t1 t2
          (rested_later c.args.host.now c.loop-number.host before.acts.setup c.args.desk.now c.loop-number.desk s1 t1
          (h.2, h.1.1))
          (task_then c.args.host.now c.loop-number.host before.acts.setup c.args.desk.now c.loop-number.desk s1 t1
          (h.2, h.1.1))
          (missed_later c.args.host.now c.loop-number.host before.acts.setup c.args.desk.now c.loop-number.desk s1 t1
          (h.2, h.1.1) (Rose between last) (Rose start last) missed_then) h.0 k)
          (acts_knowing sink.written sink.puts sink.faults went c.args.out.now c.loop-number.out c.args.host.now
          c.loop-number.host did before.acts)
          c.in-Ok-take_line.ensures.acts;
      says = said_more number left (source.left c.loop-number.input) (source.left c.next_line.new.input)
          (held_of c.loop-number.lines) (held_of c.next_line.new.lines) before.said line before.says c.in-Ok.ensures.comes;
      heard = hears_line g.O.Outside.heard c.args.outside.now c.loop-number.outside c.next_line.new.outside c.take_line.new.outside devices
          (setup_of c.loop-number.host).devices (ap (λ s. s.devices) before.acts.setup) before.said number line before.count before.heard
          c.in-Ok.ensures.heard c.take_line.ensures.heard;
      serves = serves_then source.left source.faults c.args.input.now c.loop-number.input c.next_line.new.input ⊥ ⊥
          before.serves c.in-Ok.ensures.serves ⊥ (λ fails. inr fails);
    }

pub returns : goal.returns
returns g c =
    let source = g.S.Source in
    let sink = g.K.Sink in
    let link = g.L.CountedLink in
    let misses = g.O.Outside.misses in
    let disk = g.D.Disk in
    let before = c.loop-number.invariant in
    let uses = Both (UsesLink g.L.Link.gives link.sent link.failures (setup_of c.args.host.now).devices c.args.roll.now
    c.loop-number.roll (watched c.args.link.now c.args.page.now) (watched c.loop-number.link c.loop-number.page)) (FollowsDesk (Ok tt) c.args.desk.now c.loop-number.desk) in
    let last : c.loop-number.number ≡ 4294967295 = omega (arith, c.loop-number-test.false, c.loop-number.auto.number-end) in
    let first = c.args.roll.now.findings in
    let setup = setup_of c.args.host.now in
    let devices = setup.devices in
    let knows = KnownAfter c.args.host.now c.args.desk.now in
    let does = DoesLines knows (MissedFrom c.args.host.now (Rose (misses c.args.outside.now) (misses c.loop-number.outside))) setup first before.said in
    record {
      whole = λ is. before.acts.whole;
      setup = before.acts.setup;
      later = before.later;
      plays = record {
        lines = before.said;
        lives = lives_weaker sink.written sink.puts uses (Ok tt) c.args.out.now c.loop-number.out c.args.host.now
            c.loop-number.host (Finds first c.loop-number.roll.findings does) does (λ s t h. h.0) before.acts.lives;
        says = said_many (source.left c.args.input.now) (source.left c.loop-number.input) (held_of c.loop-number.lines)
            before.said (omega (arith, before.count, last)) before.says;
        heard = before.heard;
      };
      input = before.serves;
      sink = before.acts.sink;
      disk = before.acts.disk;
    }
