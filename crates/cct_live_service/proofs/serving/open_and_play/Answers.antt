use Rattle.std.proofs.Common.{◌∷◌, [], IsErr, Ok, Err, Result, refl, inr}
use Rattle.cct_edge.specs.Faults.{Rose}
use Rattle.cct_edge.specs.declared.fault.Failed.{Failed}
use Rattle.cct_host.specs.Host.{disk_of, setup_of}
use Rattle.cct_live_service.specs.Causes.{IsUnwritten}
use Rattle.cct_live_service.specs.declared.served.Served.TheVariants.{Unwritten}
use Rattle.cct_live_service.specs.AtDesk.{Both, FollowsDesk, FollowsTo}
use Rattle.cct_live_service.specs.Doing.{DoesLines, FrontOf, PlaysLines, Tells}
use Rattle.cct_live_service.specs.Known.{KnownAfter, MissedFrom}
use Rattle.cct_live_service.specs.Opening.{opening_of}
use Rattle.cct_live_service.specs.Linked.{UsesLink, watched}
use Rattle.cct_live_service.specs.Since.{StandsSince}
use Rattle.cct_live_service.specs.Told.{notice}
use Rattle.cct_live_service.proofs.Begins.{opening_put}
use Rattle.cct_live_service.proofs.Desks.{follows_to_then}
use Rattle.cct_live_service.proofs.Doings.{opening_alone, opening_then}
use Rattle.cct_live_service.proofs.Linking.{both_then, opening_quiet, uses_quiet, uses_then}
use Rattle.cct_live_service.proofs.Parts.{disk_none, front_whole, lives_to, part_line, serves_none, serves_then, serves_weaker}
use Rattle.cct_live_service.proofs.Reporting.{so_opening}
use Rattle.cct_live_service.proofs.Saying.{said_broken, said_none}
use Rattle.cct_live_service.proofs.serving.open_and_play.Goals as goal

pub returns-in-Ok : goal.returns-in-Ok
returns-in-Ok g c =
    let sink = g.K.Sink in
    let link = g.L.CountedLink in
    let host = c.args.host.now in
    let out = c.args.out.now in
    let between = c.tell_found.new.out in
    let tells = c.in-Ok.ensures.tells in
    let plays = c.play.ensures.plays in
    let known = c.args.roll.now.findings in
    let went : Result (Unit {0}) Failed = Ok tt in
    let roll = c.args.roll.now in
    let line = watched c.args.link.now c.args.page.now in
    let devices = (setup_of host).devices in
    let desk = c.args.desk.now in
    let knows = KnownAfter host desk in
    let misses = g.O.Outside.misses in
    let missed = MissedFrom host (Rose (misses c.args.outside.now) (misses c.play.new.outside)) in
    let new = c.play.new.desk in
    let result = c.play.result in
    let still = UsesLink g.L.Link.gives link.sent link.failures devices roll roll line line in
    let goes = UsesLink g.L.Link.gives link.sent link.failures devices roll c.play.new.roll line (watched c.play.new.link c.play.new.page) in
    let quiet = Both still (FollowsDesk (Ok tt) desk desk) in
    let uses = Both goes (FollowsTo result desk new) in
    record {
      whole = c.play.ensures.whole;
      setup = c.play.ensures.setup;
      plays = λ begun has there. record {
        lines = plays.lines;
        lives = let opening = opening_of (setup_of host) begun in
            lives_to sink.written sink.puts quiet uses uses
            (both_then still goes goes (FollowsDesk (Ok tt) desk desk) (FollowsTo result desk new) (FollowsTo result desk new)
            (uses_then g.L.Link.gives link.sent link.failures (setup_of host) (setup_of host) refl roll roll c.play.new.roll
            line line (watched c.play.new.link c.play.new.page)) (follows_to_then result desk desk new))
            result out between c.play.new.out host host c.play.new.host
            (Tells (notice opening)) (DoesLines knows missed (setup_of host) known plays.lines) (PlaysLines knows missed (setup_of host) opening known plays.lines)
            (opening_then knows missed (setup_of host) opening known plays.lines) refl
            (part_line sink.written sink.puts quiet out between (Ok tt) (setup_of host) (StandsSince host) (notice opening)
            (Tells (notice opening)) refl (λ past. so_opening (setup_of host) past begun) (opening_put sink.written sink.puts host tells begun has there) (refl, refl) (
              uses_quiet g.L.Link.gives link.sent link.failures devices roll c.args.link.now c.args.page.now c.args.page.now
                  refl (notice opening ∷ [])
                  (opening_quiet (setup_of host) begun),
              refl,
            ))
            plays.lives;
        says = plays.says;
        heard = plays.heard;
      };
      input = c.play.ensures.input;
      sink = serves_then sink.written sink.faults out between c.play.new.out (IsErr went) (IsUnwritten c.play.result)
          c.in-Ok.ensures.serves c.play.ensures.sink (IsUnwritten c.play.result) (λ fails. inr fails);
      disk = c.play.ensures.disk;
    }

pub returns-in-Err : goal.returns-in-Err
returns-in-Err g c =
    let sink = g.K.Sink in
    let link = g.L.CountedLink in
    let source = g.S.Source in
    let disk = g.D.Disk in
    let host = c.args.host.now in
    let out = c.args.out.now in
    let between = c.tell_found.new.out in
    let tells = c.in-Err.ensures.tells in
    let why = c.in-Err.field-0 in
    let known = c.args.roll.now.findings in
    let left = source.left c.args.input.now in
    let roll = c.args.roll.now in
    let line = watched c.args.link.now c.args.page.now in
    let devices = (setup_of host).devices in
    let desk = c.args.desk.now in
    let knows = KnownAfter host desk in
    let misses = g.O.Outside.misses in
    let missed = MissedFrom host (Rose (misses c.args.outside.now) (misses c.args.outside.now)) in
    let uses = Both (UsesLink g.L.Link.gives link.sent link.failures devices roll roll line line) (FollowsTo Unwritten desk desk) in
    let broke : Result (Unit {0}) Failed = Err why in
    record {
      whole = λ is. absurd is;
      setup = refl;
      plays = λ begun has there. record {
        lines = [];
        lives = (
          why,
          let opening = opening_of (setup_of host) begun in
              let whole = PlaysLines knows missed (setup_of host) opening known [] in
              part_line sink.written sink.puts uses out between (Err why) (setup_of host) (StandsSince host) (notice opening)
              (FrontOf whole) refl (λ past. so_opening (setup_of host) past begun) (opening_put sink.written sink.puts host tells begun has there)
              (front_whole whole [] (notice opening ∷ [])
              (opening_alone knows missed (setup_of host) opening known [] (notice opening ∷ []) (refl, refl))) (
                uses_quiet g.L.Link.gives link.sent link.failures devices roll c.args.link.now c.args.page.now c.args.page.now
                    refl (notice opening ∷ [])
                    (opening_quiet (setup_of host) begun),
                (desk, refl),
              ),
        );
        says = said_broken Unwritten left left [] [] (λ is. is) (said_none left);
        heard = λ before h. h;
      };
      input = serves_none source.left source.faults c.args.input.now ⊥ (λ fails. fails);
      sink = serves_weaker sink.written sink.faults out between (IsErr broke) (IsUnwritten Unwritten) (λ _. refl)
          c.in-Err.ensures.serves;
      disk = disk_none disk.size disk.honest disk.seen disk.cuts disk.faults (disk_of host) ⊥ (λ fails. fails);
    }
