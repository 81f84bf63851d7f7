use Rattle.std.proofs.Common.{◌++◌, ◌∙◌, Err, ap, refl, reverse, sym, subst}
use Rattle.std.specs.Option.{option_map}
use Rattle.cct_host.specs.Host.{setup_of}
use Rattle.cct_laws_live.specs.LiveStep as live
use Rattle.cct_model.specs.terms.device.Setup.{Setup}
use Rattle.cct_model.specs.Change.{Desk, session_after}
use Rattle.cct_live_service.specs.declared.served.Served.TheVariants.{Disk}
use Rattle.cct_live_service.specs.AtDesk.{Both, FollowsDesk}
use Rattle.cct_live_service.specs.Doing.{IsAttemptWith}
use Rattle.cct_live_service.specs.Linked.{Exchanges, watched}
use Rattle.cct_live_service.specs.Parts.{Acts}
use Rattle.cct_live_service.specs.Told.{WritesTold, attempt_told, notices_told}
use Rattle.cct_live_service.specs.Watch.{due_after, notices_in, watch_after}
use Rattle.cct_live_service.proofs.Desks.{attempt_at_desk, follows}
use Rattle.cct_live_service.proofs.Doings.{attempt_broken}
use Rattle.cct_live_service.proofs.Linking.{attempt_linked, exchanges_none}
use Rattle.cct_live_service.proofs.Parts.{acts_broke, acts_step, next_goes}
use Rattle.cct_live_service.proofs.Watching.{due_of_watch}
use Rattle.cct_live_service.proofs.attempts.attempt.Goals as goal

pub returns-in-Ok : goal.returns-in-Ok
returns-in-Ok g c =
    let sink = g.K.Sink in
    let link = g.L.CountedLink in
    let gives = g.L.Link.gives in
    let host = c.args.host.now in
    let after = c.make.new.host in
    let line = c.args.link.now in
    let next = c.make.new.link in
    let out = c.args.out.now in
    let told = c.write_attempt.new.out in
    let reported = c.make.new.page.report.items in
    let is_sent = link.sent next in
    let went = c.in-Ok.went in
    let gone = c.in-Ok.ensures.went in
    let failed = went.has_failed in
    let devices = (setup_of host).devices in
    let kept = c.setup.ensures ∙ c.in-Ok.ensures.setup in
    let watch = c.args.page.now.watch in
    let same = c.in-Ok.ensures.watch in
    let due = ap (λ (s : Setup). due_after s.devices c.make.new.page.watch failed reported) kept
    ∙ ap (λ w. due_after devices w failed reported) same in
    let seen = c.write_attempt.ensures.watch
    ∙ ap (λ (s : Setup). watch_after s.devices c.make.new.page.watch failed reported) kept
    ∙ ap (λ w. watch_after devices w failed reported) same in
    let notices = notices_in (due_after devices watch failed reported) in
    let bears = due_of_watch devices watch failed reported in
    let does = IsAttemptWith is_sent reported c.args.addr in
    let nexts = c.in-Ok.ensures.nexts in
    let was = c.args.desk.now in
    let desk = c.see.new.self in
    let sees = c.see.ensures
    ∙ ap {B = Desk} (λ es. record { session = option_map (session_after (reverse es)) was.session; trays = was.trays })
    c.as_slice.ensures.value in
    let linked = Both (Exchanges gives link.sent link.failures devices (watched line c.args.page.now)
    (watched next c.write_attempt.new.self)) (FollowsDesk c.by_writing.result was desk) in
    let wrote = subst (λ d. WritesTold sink.written sink.puts out (attempt_told is_sent reported ++ notices_told (notices_in d))
    c.write_attempt.result told) due
    (subst (λ b. WritesTold sink.written sink.puts out (attempt_told b reported
    ++ notices_told (notices_in (due_after c.setup.result.now.devices c.make.new.page.watch failed reported)))
    c.write_attempt.result told) gone.0 c.write_attempt.ensures.writes) in
    record {
      acts = subst (λ r. Acts sink.written sink.puts sink.faults linked (IsAttemptWith is_sent r.items c.args.addr)
          c.by_writing.result out told host after) (sym c.write_attempt.ensures.report)
          (subst (λ r. Acts sink.written sink.puts sink.faults linked does r out told host after) (sym c.by_writing.ensures)
          (acts_step sink.written sink.puts sink.faults linked c.write_attempt.result out told host after
          (live.next c.args.addr) (attempt_told is_sent reported ++ notices_told notices) (
            subst (λ w. Exchanges gives link.sent link.failures devices (watched line c.args.page.now)
                (record { link = next; watch = w }) (attempt_told is_sent reported ++ notices_told notices)) (sym seen)
                (attempt_linked gives link.sent link.failures devices g.met.L.CountedLink.unsent line next watch c.args.addr
                nexts.what reported is_sent failed nexts.link nexts.reported_is refl gone.1),
            follows c.by_writing.result was desk (attempt_told is_sent reported ++ notices_told notices)
                (attempt_at_desk was desk c.args.addr nexts.what reported is_sent notices nexts.reported_is sees),
          )
          does wrote
          (next_goes gives g.met.L.CountedLink.few line next c.args.addr host after reported is_sent notices bears
          c.in-Ok.ensures.setup c.in-Ok.ensures.goes_on nexts c.in-Ok.ensures.fills)
          (refl, (notices, bears, refl)) c.in-Ok.ensures.whole c.in-Ok.ensures.setup
          c.write_attempt.ensures.serves
          (record {
            goes_on = c.in-Ok.ensures.goes_on;
            cause = record { later = c.in-Ok.ensures.cause.later; rose = λ e. absurd e };
          })));
    }

pub returns-in-Err : goal.returns-in-Err
returns-in-Err g c =
    let sink = g.K.Sink in
    let link = g.L.CountedLink in
    let is_sent = link.sent c.make.new.link in
    let entries = c.make.new.page.report.items in
    record {
      acts = acts_broke sink.written sink.puts sink.faults
          (Both (Exchanges g.L.Link.gives link.sent link.failures (setup_of c.args.host.now).devices
          (watched c.args.link.now c.args.page.now) (watched c.make.new.link c.make.new.page))
          (FollowsDesk (Err Disk) c.args.desk.now c.args.desk.now)) (
            exchanges_none g.L.Link.gives link.sent link.failures (setup_of c.args.host.now).devices c.args.link.now
                c.make.new.link c.args.page.now c.make.new.page c.in-Err.ensures.link c.in-Err.ensures.watch,
            (c.args.desk.now, refl),
          )
          c.args.out.now c.args.host.now c.make.new.host c.args.addr (IsAttemptWith is_sent entries c.args.addr)
          c.in-Err.ensures.setup c.in-Err.ensures.fails c.in-Err.ensures.between
          (record {
            goes_on = c.in-Err.ensures.goes_on;
            cause = record { later = c.in-Err.ensures.cause.later; rose = λ fails. c.in-Err.ensures.cause.rose refl };
          })
          (attempt_broken is_sent entries c.args.addr);
    }
