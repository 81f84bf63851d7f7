use Rattle.std.proofs.Common.{◌≡◌, ◌+◌, ◌∙◌, Ok, Err, arith, refl, sym}
use Rattle.cct_live_service.specs.declared.visit.TheConstants.{MOST_ROUNDS}
use Rattle.cct_live_service.specs.Doing.{EndsRound, IsMovedRound, ReadsOut, Times}
use Rattle.cct_live_service.specs.Linked.{watched}
use Rattle.cct_live_service.proofs.Linking.{link_none, link_then}
use Rattle.cct_live_service.proofs.Parts.{acts_weaker}
use Rattle.cct_live_service.proofs.Polling.{all_rounds, last_round, moved_more, round_broken}
use Rattle.cct_live_service.proofs.visit.read_out.Goals as goal

pub loop-round-init : goal.loop-round-init
loop-round-init g c =
    let sink = g.K.Sink in
    let link = g.L.CountedLink in
    link_none sink.written sink.puts sink.faults g.L.Link.gives link.sent link.failures
    (watched c.args.link.now c.args.page.now) c.args.desk.now c.args.out.now c.args.host.now
    (Times 0 (IsMovedRound c.args.addr)) c.requires.whole (refl, refl)

pub returns-in-Err : goal.returns-in-Err
returns-in-Err g c =
    let sink = g.K.Sink in
    let link = g.L.CountedLink in
    let addr = c.args.addr in
    let before = c.loop-round._round in
    let entries = c.round.new.page.report.items in
    record {
      acts = link_then sink.written sink.puts sink.faults g.L.Link.gives link.sent link.failures (watched c.args.link.now c.args.page.now)
          (watched c.loop-round.link c.loop-round.page) (watched c.round.new.link c.round.new.page) c.args.desk.now
          c.loop-round.desk c.round.new.desk (Err c.in-Err.how) c.args.out.now c.loop-round.out c.round.new.out c.args.host.now
          c.loop-round.host c.round.new.host (Times before (IsMovedRound addr)) (EndsRound (Err c.in-Err.how) entries addr)
          (ReadsOut addr)
          (round_broken c.in-Err.how addr before entries (omega (arith, c.loop-round-test.true))) c.loop-round.invariant c.in-Err.ensures.acts;
    }

pub loop-round-preserved : goal.loop-round-preserved
loop-round-preserved g c =
    let sink = g.K.Sink in
    let link = g.L.CountedLink in
    let addr = c.args.addr in
    let before = c.loop-round._round in
    let entries = c.round.new.page.report.items in
    link_then sink.written sink.puts sink.faults g.L.Link.gives link.sent link.failures (watched c.args.link.now c.args.page.now)
    (watched c.loop-round.link c.loop-round.page) (watched c.round.new.link c.round.new.page) c.args.desk.now
    c.loop-round.desk c.round.new.desk (Ok tt) c.args.out.now c.loop-round.out c.round.new.out c.args.host.now
    c.loop-round.host c.round.new.host (Times before (IsMovedRound addr)) (EndsRound (Ok tt) entries addr)
    (Times (before + 1) (IsMovedRound addr))
    (moved_more addr before entries (sym c.has_moved.ensures ∙ c.if-not-has_moved.false)) c.loop-round.invariant c.in-Ok.ensures.acts

pub returns-then-not-has_moved : goal.returns-then-not-has_moved
returns-then-not-has_moved g c =
    let sink = g.K.Sink in
    let link = g.L.CountedLink in
    let addr = c.args.addr in
    let before = c.loop-round._round in
    let entries = c.round.new.page.report.items in
    record {
      acts = link_then sink.written sink.puts sink.faults g.L.Link.gives link.sent link.failures (watched c.args.link.now c.args.page.now)
          (watched c.loop-round.link c.loop-round.page) (watched c.round.new.link c.round.new.page) c.args.desk.now
          c.loop-round.desk c.round.new.desk (Ok tt) c.args.out.now c.loop-round.out c.round.new.out c.args.host.now
          c.loop-round.host c.round.new.host (Times before (IsMovedRound addr)) (EndsRound (Ok tt) entries addr)
          (ReadsOut addr)
          (last_round addr before (omega (arith, c.loop-round-test.true)) entries (sym c.has_moved.ensures ∙ c.if-not-has_moved.true)) c.loop-round.invariant c.in-Ok.ensures.acts;
    }

pub returns : goal.returns
returns g c =
    let sink = g.K.Sink in
    let addr = c.args.addr in
    let before = c.loop-round._round in
    let all : before ≡ MOST_ROUNDS = omega (arith, c.loop-round.auto._round-end, c.loop-round-test.false) in
    record {
      acts = acts_weaker sink.written sink.puts sink.faults (Ok tt) c.args.out.now c.loop-round.out c.args.host.now
          c.loop-round.host (Times before (IsMovedRound addr)) (ReadsOut addr) (all_rounds addr before all)
          c.loop-round.invariant;
    }
