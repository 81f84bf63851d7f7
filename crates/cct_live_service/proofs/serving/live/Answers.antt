use Rattle.std.proofs.Common.{◌≡◌, inl, inr, refl, sym, ◌∙◌, subst}
use Rattle.cct_edge.specs.Faults.{Rose}
use Rattle.cct_host.specs.Host.{disk_of, setup_of}
use Rattle.cct_model.specs.Setup.{IsSoundSetup}
use Rattle.cct_live_service.specs.Causes.{DiskServes, IsDiskFault, IsUnread, IsUnwritten}
use Rattle.cct_live_service.specs.AtDesk.{Both, FollowsTo}
use Rattle.cct_live_service.specs.Doing.{IsDone, ServesLines, ends_by}
use Rattle.cct_live_service.specs.Found.{FoundOn}
use Rattle.cct_live_service.specs.Hears.{HearsMore}
use Rattle.cct_live_service.specs.Known.{KnownAfter, MissedFrom}
use Rattle.cct_live_service.specs.Linked.{UsesLink, watched}
use Rattle.cct_live_service.specs.Lived.{Lived}
use Rattle.cct_live_service.specs.Opening.{BegunOn, opening_of, opening_over}
use Rattle.cct_live_service.specs.Parts.{Plays}
use Rattle.cct_live_service.specs.Refused.{refusals}
use Rattle.cct_live_service.proofs.Causing.{disk_not_unread, disk_not_unwritten}
use Rattle.cct_live_service.proofs.Living.{lived_by, lived_suits}
use Rattle.cct_live_service.proofs.Parts.{disk_then, serves_none}
use Rattle.cct_live_service.proofs.serving.live.Goals as goal

pub returns : goal.returns
returns g c =
    let sink = g.K.Sink in
    let disk = g.D.Disk in
    let host = c.in-Ok.opened.0 in
    let opened = c.in-Ok.ensures.opened in
    let begun = opened.begun in
    let last = c.live_on-how.new.host in
    let back = c.into_disk.result in
    let how = c.live_on-how.result in
    let left = g.S.Source.left c.args.input.now in
    let link = g.L.CountedLink in
    let roll = c.args.roll.now in
    let now = c.live_on-how.new.roll in
    let line = watched c.args.link.now c.args.page.now in
    let next = watched c.live_on-how.new.link c.live_on-how.new.page in
    let ends = c.args.ends in
    let missed = g.O.Outside.misses c.args.outside.now in
    let missed_then = g.O.Outside.misses c.live_on-how.new.outside in
    let heard = HearsMore g.O.Outside.heard c.args.outside.now c.live_on-how.new.outside in
    let unread = MissedFrom host (Rose missed missed_then) in
    let desk = c.args.desk.now in
    let left_desk = c.live_on-how.new.desk in
    let linked = Both (UsesLink g.L.Link.gives link.sent link.failures (setup_of host).devices roll now line next)
    (FollowsTo how desk left_desk) in
    let plays = c.live_on-how.ensures.plays begun opened.has opened.there_is in
    let opening = opening_of (setup_of host) begun in
    let p = c.live_on-how.ensures.setup ∙ c.in-Ok.ensures.setup in
    record {
      lived = inl (subst (λ s. Lived sink.written sink.puts g.L.Link.gives link.sent link.failures disk.size disk.honest
          disk.seen disk.may_leave disk.moment disk.left_since disk.cuts c.args.disk back s roll now desk left_desk missed missed_then heard ends left how c.args.out.now c.live_on-how.new.out line next) p
          (lived_by sink.written sink.puts g.L.Link.gives link.sent link.failures c.args.disk back host last begun roll now
          desk left_desk missed missed_then heard ends left line next
          (sym c.live_on-how.ensures.setup) (subst IsSoundSetup (sym p) c.requires.sound) c.into_disk.ensures
          (subst (λ s. BegunOn disk.seen c.args.disk s begun) (sym p) opened.on)
          (λ found on. subst (λ s. opening_of s begun ≡ opening_over s begun found) (sym p)
          (opened.numbers found
          (subst (λ s. FoundOn disk.honest disk.seen disk.may_leave c.args.disk s begun found) p on)))
          (λ found on. opened.since found
          (subst (λ s. FoundOn disk.honest disk.seen disk.may_leave c.args.disk s begun found) p on))
          how c.args.out.now c.live_on-how.new.out
          (subst (λ s. Plays sink.written sink.puts
          linked (ServesLines (IsDone how) (KnownAfter host desk) unread s (opening_of s begun) roll.findings (ends_by how ends)) (λ lines. heard (refusals s.devices lines)) left how c.args.out.now c.live_on-how.new.out host last)
          (sym c.live_on-how.ensures.setup) plays)));
      suits = lived_suits sink.written sink.puts {g = disk} c.args.disk back c.args.setup.now
          linked (ServesLines (IsDone how) (KnownAfter host desk) unread (setup_of host) opening roll.findings (ends_by how ends) plays.lines) how c.args.out.now c.live_on-how.new.out host last plays.lives;
      size = λ other. absurd (other c.in-Ok.ensures.sized);
      input = c.live_on-how.ensures.input;
      sink = c.live_on-how.ensures.sink;
      disk = subst (λ d. DiskServes disk.size disk.honest disk.seen disk.cuts disk.faults c.args.disk d (IsDiskFault how))
          (sym c.into_disk.ensures)
          (disk_then disk.size disk.honest disk.seen disk.cuts disk.faults c.args.disk (disk_of host) (disk_of last) ⊥
          (IsDiskFault how) c.in-Ok.ensures.serves c.live_on-how.ensures.disk (IsDiskFault how) (λ fails. inr fails));
    }

pub returns-in-Err : goal.returns-in-Err
returns-in-Err g c =
    let sink = g.K.Sink in
    let source = g.S.Source in
    let how = c.in-Err.ended.0 in
    let refuses = c.in-Err.ensures.refuses in
    record {
      lived = inr (refuses.of_disk, refl, refl, refl, refl, λ before h. h);
      suits = refuses.suits;
      size = refuses.other;
      input = serves_none source.left source.faults c.args.input.now (IsUnread how) (disk_not_unread how refuses.of_disk);
      sink = serves_none sink.written sink.faults c.args.out.now (IsUnwritten how) (disk_not_unwritten how refuses.of_disk);
      disk = refuses.serves;
    }
