use Rattle.std.proofs.Common.{Ok, Err, false}
use Rattle.std.specs.Prelude.{⊤}
use Rattle.cct_host.specs.Host.{setup_of}
use Rattle.cct_live_service.specs.declared.attempts.Until.TheVariants as until_of
use Rattle.cct_live_service.specs.Doing.{BeginsRound, EndsAs, EndsRound, GoesOnTo}
use Rattle.cct_live_service.specs.Known.{HasJob, IsKnown}
use Rattle.cct_live_service.specs.Linked.{watched}
use Rattle.cct_live_service.proofs.Doings.{then_one}
use Rattle.cct_live_service.proofs.Linking.{link_quiet, link_then}
use Rattle.cct_live_service.proofs.Parts.{acts_weaker}
use Rattle.cct_live_service.proofs.Polling.{begins_alone}
use Rattle.cct_live_service.proofs.Stops.{gone_weaker}
use Rattle.cct_live_service.proofs.visit.round.Goals as goal

pub returns-in-Ok : goal.returns-in-Ok
returns-in-Ok g c =
    let sink = g.K.Sink in
    let link = g.L.CountedLink in
    let gives = g.L.Link.gives in
    let addr = c.args.addr in
    let host = c.args.host.now in
    let mid = c.begin_round.new.host in
    let desk = c.args.desk.now in
    let out = c.args.out.now in
    let between = c.begin_round.new.out in
    let line = watched c.args.link.now c.args.page.now in
    let begun = watched c.args.link.now c.begin_round.new.page in
    let result = c.go_on.result in
    let entries = c.go_on.new.page.report.items in
    let no_job = IsKnown mid desk (HasJob (setup_of mid) addr false) in
    let goes = GoesOnTo no_job until_of.Failed addr in
    let on = GoesOnTo ⊤ until_of.Failed addr in
    record {
      acts = link_then sink.written sink.puts sink.faults gives link.sent link.failures line begun
          (watched c.go_on.new.link c.go_on.new.page) desk desk c.go_on.new.desk result out between c.go_on.new.out host mid
          c.go_on.new.host (BeginsRound addr) (EndsAs result entries goes) (EndsRound result entries addr)
          (λ s1 s2 t1 t2 h k. then_one (BeginsRound addr) (EndsAs result entries on) s1 s2 t1 t2 h
          (gone_weaker no_job ⊤ (λ none. tt) until_of.Failed addr s2 t2 k.0, k.1))
          (link_quiet sink.written sink.puts sink.faults gives link.sent link.failures c.args.link.now c.args.page.now
          c.begin_round.new.page c.in-Ok.ensures.watch desk (Ok tt) out between host mid (BeginsRound addr)
          c.in-Ok.ensures.acts)
          c.go_on.ensures.acts;
    }

pub returns-in-Err : goal.returns-in-Err
returns-in-Err g c =
    let sink = g.K.Sink in
    let link = g.L.CountedLink in
    let addr = c.args.addr in
    let host = c.args.host.now in
    let mid = c.begin_round.new.host in
    let how = c.in-Err.how in
    let out = c.args.out.now in
    let between = c.begin_round.new.out in
    let ends = EndsRound (Err how) c.begin_round.new.page.report.items addr in
    record {
      acts = link_quiet sink.written sink.puts sink.faults g.L.Link.gives link.sent link.failures c.args.link.now c.args.page.now
          c.begin_round.new.page c.in-Err.ensures.watch c.args.desk.now (Err how) out between host mid ends
          (acts_weaker sink.written sink.puts sink.faults (Err how) out between host mid (BeginsRound addr) ends
          (begins_alone how c.begin_round.new.page.report.items addr) c.in-Err.ensures.acts);
    }
