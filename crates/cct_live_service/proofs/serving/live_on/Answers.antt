use Rattle.std.proofs.Common.{◌∙◌, Ok, Err, inr}
use Rattle.std.specs.Prelude.{⊤}
use Rattle.cct_edge.specs.Faults.{Rose}
use Rattle.cct_host.specs.Host.{disk_of, setup_of}
use Rattle.cct_live_service.specs.Causes.{IsDiskFault, IsUnread, IsUnwritten}
use Rattle.cct_live_service.specs.AtDesk.{Both, FollowsDesk, FollowsTo}
use Rattle.cct_live_service.specs.Doing.{IsDone, PlaysLines, ServesLines, StopsBy, ends_by}
use Rattle.cct_live_service.specs.Known.{KnownAfter, MissedFrom}
use Rattle.cct_live_service.specs.Linked.{UsesLink, watched}
use Rattle.cct_live_service.specs.Opening.{opening_of}
use Rattle.cct_live_service.proofs.Causing.{unread_of_input}
use Rattle.cct_live_service.proofs.Desks.{follows_then}
use Rattle.cct_live_service.proofs.KnownLater.{Knowing, part_knowing}
use Rattle.cct_live_service.proofs.Linking.{both_then, lives_end, roll_told, uses_then}
use Rattle.cct_live_service.proofs.Parts.{breaks, disk_then, lives_then, serves_then, serves_weaker}
use Rattle.cct_live_service.proofs.Saying.{said_ended}
use Rattle.cct_live_service.proofs.Stops.{done_of_input, end_then, ended_by, played_to}
use Rattle.cct_live_service.proofs.serving.live_on.Goals as goal

pub stop_at_end-requires : goal.stop_at_end-requires
stop_at_end-requires g c = record { whole = c.in-Done.ensures.whole tt }

pub returns-in-Ok : goal.returns-in-Ok
returns-in-Ok g c =
    let sink = g.K.Sink in
    let link = g.L.CountedLink in
    let disk = g.D.Disk in
    let known = c.args.roll.now.findings in
    let ends = c.args.ends in
    let host = c.args.host.now in
    let devices = (setup_of host).devices in
    let knows = KnownAfter host c.args.desk.now in
    let misses = g.O.Outside.misses in
    let missed = MissedFrom host (Rose (misses c.args.outside.now) (misses c.open_and_play.new.outside)) in
    let mid = c.open_and_play.new.host in
    let last = c.stop_at_end.new.host in
    let out = c.args.out.now in
    let between = c.open_and_play.new.out in
    let told = c.stop_at_end.new.out in
    let before = c.in-Done.ensures in
    let roll = c.args.roll.now in
    let between_roll = c.open_and_play.new.roll in
    let line = watched c.args.link.now c.args.page.now in
    let between_line = watched c.open_and_play.new.link c.open_and_play.new.page in
    let last_line = watched c.stop_at_end.new.link c.stop_at_end.new.page in
    let was = c.args.desk.now in
    let between_desk = c.open_and_play.new.desk in
    let last_desk = c.stop_at_end.new.desk in
    let played = UsesLink g.L.Link.gives link.sent link.failures (setup_of host).devices roll between_roll line between_line in
    let stopped = UsesLink g.L.Link.gives link.sent link.failures (setup_of mid).devices between_roll between_roll between_line
    last_line in
    let uses = UsesLink g.L.Link.gives link.sent link.failures (setup_of host).devices roll between_roll line last_line in
    let first = Both played (FollowsDesk (Ok tt) was between_desk) in
    let then = Both stopped (FollowsDesk (Ok tt) between_desk last_desk) in
    let all = Both uses (FollowsDesk (Ok tt) was last_desk) in
    let links = both_then played stopped uses (FollowsDesk (Ok tt) was between_desk)
    (FollowsDesk (Ok tt) between_desk last_desk) (FollowsDesk (Ok tt) was last_desk)
    (uses_then g.L.Link.gives link.sent link.failures (setup_of host) (setup_of mid) before.setup roll between_roll
    between_roll line between_line last_line) (follows_then (Ok tt) was between_desk last_desk) in
    let acts = roll_told sink.written sink.puts sink.faults g.L.Link.gives link.sent link.failures (setup_of mid).devices
    between_roll between_line last_line between_desk last_desk (Ok tt) between told mid last (StopsBy ends ⊤ (KnownAfter mid between_desk) (setup_of mid)) c.in-Ok.ensures.acts in
    record {
      setup = acts.setup ∙ before.setup;
      plays = λ begun has there.
          let plays = before.plays begun has there in
          let lines = plays.lines in
          let opening = opening_of (setup_of host) begun in
          let plays_so = PlaysLines knows missed (setup_of host) opening known lines in
          record {
            lines = lines;
            lives = lives_then sink.written sink.puts first then all links (Ok tt) out between told host mid last (Knowing plays_so first host mid)
                (StopsBy ends ⊤ (KnownAfter mid between_desk) (setup_of mid)) (ServesLines ⊤ knows missed (setup_of host) opening known ends lines)
                (λ s1 s2 t1 t2 h k. end_then host mid before.setup was between_desk ⊤ ⊤ (λ lasts. lasts) missed opening known ends lines s1 s2 t1 t2 h.0
                (h.2, h.1.1) k) before.setup
                (part_knowing sink.written sink.puts sink.faults first out between host mid plays_so plays.lives) acts.lives;
            says = plays.says;
            heard = plays.heard;
          };
      input = before.input;
      sink = serves_then sink.written sink.faults out between told ⊥ ⊥ before.sink acts.sink ⊥ (λ fails. inr fails);
      disk = disk_then disk.size disk.honest disk.seen disk.cuts disk.faults (disk_of host) (disk_of mid) (disk_of last) ⊥ ⊥
          before.disk acts.disk ⊥ (λ fails. inr fails);
    }

pub returns-in-Err : goal.returns-in-Err
returns-in-Err g c =
    let sink = g.K.Sink in
    let link = g.L.CountedLink in
    let source = g.S.Source in
    let disk = g.D.Disk in
    let known = c.args.roll.now.findings in
    let ends = c.args.ends in
    let host = c.args.host.now in
    let devices = (setup_of host).devices in
    let knows = KnownAfter host c.args.desk.now in
    let misses = g.O.Outside.misses in
    let missed = MissedFrom host (Rose (misses c.args.outside.now) (misses c.open_and_play.new.outside)) in
    let mid = c.open_and_play.new.host in
    let last = c.stop_at_end.new.host in
    let out = c.args.out.now in
    let between = c.open_and_play.new.out in
    let told = c.stop_at_end.new.out in
    let before = c.in-Done.ensures in
    let how = c.in-Err.how in
    let roll = c.args.roll.now in
    let between_roll = c.open_and_play.new.roll in
    let line = watched c.args.link.now c.args.page.now in
    let between_line = watched c.open_and_play.new.link c.open_and_play.new.page in
    let last_line = watched c.stop_at_end.new.link c.stop_at_end.new.page in
    let was = c.args.desk.now in
    let between_desk = c.open_and_play.new.desk in
    let last_desk = c.stop_at_end.new.desk in
    let played = UsesLink g.L.Link.gives link.sent link.failures (setup_of host).devices roll between_roll line between_line in
    let stopped = UsesLink g.L.Link.gives link.sent link.failures (setup_of mid).devices between_roll between_roll between_line
    last_line in
    let uses = UsesLink g.L.Link.gives link.sent link.failures (setup_of host).devices roll between_roll line last_line in
    let first = Both played (FollowsDesk (Ok tt) was between_desk) in
    let then = Both stopped (FollowsDesk (Err how) between_desk last_desk) in
    let all = Both uses (FollowsDesk (Err how) was last_desk) in
    let links = both_then played stopped uses (FollowsDesk (Ok tt) was between_desk)
    (FollowsDesk (Err how) between_desk last_desk) (FollowsDesk (Err how) was last_desk)
    (uses_then g.L.Link.gives link.sent link.failures (setup_of host) (setup_of mid) before.setup roll between_roll
    between_roll line between_line last_line) (follows_then (Err how) was between_desk last_desk) in
    let acts = roll_told sink.written sink.puts sink.faults g.L.Link.gives link.sent link.failures (setup_of mid).devices
    between_roll between_line last_line between_desk last_desk (Err how) between told mid last (StopsBy ends ⊥ (KnownAfter mid between_desk) (setup_of mid)) c.in-Err.ensures.acts in
    let other = breaks sink.written sink.puts then how (StopsBy ends ⊥ (KnownAfter mid between_desk) (setup_of mid)) between told mid last acts.lives in
    record {
      setup = acts.setup ∙ before.setup;
      plays = λ begun has there.
          let plays = before.plays begun has there in
          let lines = plays.lines in
          let opening = opening_of (setup_of host) begun in
          let plays_so = PlaysLines knows missed (setup_of host) opening known lines in
          record {
            lines = lines;
            lives = lives_end sink.written sink.puts uses how was last_desk (ServesLines (IsDone how) knows missed (setup_of host) opening known (ends_by how ends) lines) out told host last
                (ended_by sink.written sink.puts all how (λ e. ServesLines (IsDone how) knows missed (setup_of host) opening known e lines) ends out told host last
                (lives_then sink.written sink.puts first then all links (Err how) out between told host mid last
                (Knowing plays_so first host mid) (StopsBy ends ⊥ (KnownAfter mid between_desk) (setup_of mid))
                (ServesLines (IsDone how) knows missed (setup_of host) opening known ends lines)
                (λ s1 s2 t1 t2 h k. end_then host mid before.setup was between_desk ⊥ (IsDone how) (λ done. other (done_of_input how done)) missed opening known ends lines s1 s2 t1 t2 h.0
                (h.2, h.1.1) k) before.setup
                (part_knowing sink.written sink.puts sink.faults first out between host mid plays_so plays.lives) acts.lives));
            says = said_ended how (source.left c.args.input.now) lines other plays.says;
            heard = plays.heard;
          };
      input = serves_weaker source.left source.faults c.args.input.now c.open_and_play.new.input ⊥ (IsUnread how)
          (λ fails. other (unread_of_input how fails)) before.input;
      sink = serves_then sink.written sink.faults out between told ⊥ (IsUnwritten how) before.sink acts.sink
          (IsUnwritten how) (λ fails. inr fails);
      disk = disk_then disk.size disk.honest disk.seen disk.cuts disk.faults (disk_of host) (disk_of mid) (disk_of last) ⊥
          (IsDiskFault how) before.disk acts.disk (IsDiskFault how) (λ fails. inr fails);
    }

pub returns-in_default : goal.returns-in_default
returns-in_default g c =
    let sink = g.K.Sink in
    let link = g.L.CountedLink in
    let known = c.args.roll.now.findings in
    let ends = c.args.ends in
    let host = c.args.host.now in
    let devices = (setup_of host).devices in
    let knows = KnownAfter host c.args.desk.now in
    let misses = g.O.Outside.misses in
    let missed = MissedFrom host (Rose (misses c.args.outside.now) (misses c.open_and_play.new.outside)) in
    let before = c.open_and_play.ensures in
    let uses = Both (UsesLink g.L.Link.gives link.sent link.failures devices c.args.roll.now c.open_and_play.new.roll
    (watched c.args.link.now c.args.page.now) (watched c.open_and_play.new.link c.open_and_play.new.page)) (FollowsTo c.open_and_play.result c.args.desk.now c.open_and_play.new.desk) in
    record {
      setup = before.setup;
      plays = λ begun has there.
          let plays = before.plays begun has there in
          let lines = plays.lines in
          let opening = opening_of (setup_of host) begun in
          record {
            lines = lines;
            lives = played_to sink.written sink.puts uses c.open_and_play.result c.in_default.not-Done knows missed (setup_of host)
                opening known ends lines c.args.out.now c.open_and_play.new.out host c.open_and_play.new.host plays.lives;
            says = plays.says;
            heard = plays.heard;
          };
      input = before.input;
      sink = before.sink;
      disk = before.disk;
    }
