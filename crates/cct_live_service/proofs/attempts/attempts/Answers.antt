use Rattle.std.proofs.Common.{◌≡◌, ◌+◌, ◌∙◌, ℕ, Ok, Err, arith, refl, sym}
use Rattle.cct_live_service.specs.declared.attempts.TheConstants.{MOST_ATTEMPTS}
use Rattle.cct_live_service.specs.Doing.{EndsAs, GoesOn, IsAttemptWith, MakesAttempts, Times}
use Rattle.cct_live_service.specs.Linked.{watched}
use Rattle.cct_live_service.proofs.Doings.{OneMore, all_made, attempts_broken, broken_as, ended_as, goes_on_one, last_made, list_such, one_more_made, times_such}
use Rattle.cct_live_service.proofs.Linking.{link_none, link_then}
use Rattle.cct_live_service.proofs.Parts.{acts_front, acts_weaker}
use Rattle.cct_live_service.proofs.attempts.attempts.Goals as goal

some_made : (made : ℕ) → made ≡ MOST_ATTEMPTS → made ≡ 0 → ⊥
some_made made all none = omega (arith, all, none)

pub loop-made-init : goal.loop-made-init
loop-made-init g c =
    let sink = g.K.Sink in
    let link = g.L.CountedLink in
    record {
      acts = link_none sink.written sink.puts sink.faults g.L.Link.gives link.sent link.failures
          (watched c.args.link.now c.args.page.now) c.args.desk.now c.args.out.now c.args.host.now
          (Times 0 (GoesOn c.args.addr)) c.requires.whole (refl, refl);
      unended = λ some. absurd (some refl);
    }

pub returns-in-Err : goal.returns-in-Err
returns-in-Err g c =
    let sink = g.K.Sink in
    let link = g.L.CountedLink in
    let addr = c.args.addr in
    let until = c.args.until in
    let made = c.loop-made._made in
    let sent = link.sent c.attempt.new.link in
    let entries = c.attempt.new.page.report.items in
    record {
      acts = acts_front sink.written sink.puts sink.faults c.in-Err.how c.args.out.now c.attempt.new.out c.args.host.now
          c.attempt.new.host (OneMore made addr) (EndsAs (Err c.in-Err.how) entries (MakesAttempts until addr))
          (λ steps told h. broken_as c.in-Err.how entries (MakesAttempts until addr) steps told
          (attempts_broken until addr made (omega (arith, c.loop-made-test.true)) steps told h))
          (link_then sink.written sink.puts sink.faults g.L.Link.gives link.sent link.failures (watched c.args.link.now c.args.page.now) (watched c.loop-made.link c.loop-made.page)
          (watched c.attempt.new.link c.attempt.new.page) c.args.desk.now c.loop-made.desk c.attempt.new.desk (Err c.in-Err.how) c.args.out.now c.loop-made.out c.attempt.new.out c.args.host.now
          c.loop-made.host c.attempt.new.host (Times made (GoesOn addr)) (IsAttemptWith sent entries addr)
          (OneMore made addr) (one_more_made made addr sent entries) c.loop-made.invariant.acts c.in-Err.ensures.acts);
    }

pub loop-made-preserved : goal.loop-made-preserved
loop-made-preserved g c =
    let sink = g.K.Sink in
    let link = g.L.CountedLink in
    let addr = c.args.addr in
    let made = c.loop-made._made in
    let sent = link.sent c.attempt.new.link in
    let entries = c.attempt.new.page.report.items in
    record {
      acts = link_then sink.written sink.puts sink.faults g.L.Link.gives link.sent link.failures (watched c.args.link.now c.args.page.now) (watched c.loop-made.link c.loop-made.page)
          (watched c.attempt.new.link c.attempt.new.page) c.args.desk.now c.loop-made.desk c.attempt.new.desk (Ok tt) c.args.out.now c.loop-made.out c.attempt.new.out c.args.host.now
          c.loop-made.host c.attempt.new.host (Times made (GoesOn addr)) (IsAttemptWith sent entries addr)
          (Times (made + 1) (GoesOn addr)) (goes_on_one addr made sent entries (c.is_over.ensures.goes_on c.if-is_over.false))
          c.loop-made.invariant.acts c.in-Ok.ensures.acts;
      unended = λ some. c.is_over.ensures.goes_on c.if-is_over.false;
    }

pub returns-then-is_over : goal.returns-then-is_over
returns-then-is_over g c =
    let sink = g.K.Sink in
    let link = g.L.CountedLink in
    let addr = c.args.addr in
    let until = c.args.until in
    let made = c.loop-made._made in
    let sent = link.sent c.attempt.new.link in
    let entries = c.attempt.new.page.report.items in
    record {
      acts = link_then sink.written sink.puts sink.faults g.L.Link.gives link.sent link.failures (watched c.args.link.now c.args.page.now) (watched c.loop-made.link c.loop-made.page)
          (watched c.attempt.new.link c.attempt.new.page) c.args.desk.now c.loop-made.desk c.attempt.new.desk (Ok tt) c.args.out.now c.loop-made.out c.attempt.new.out
          c.args.host.now c.loop-made.host c.attempt.new.host (Times made (GoesOn addr)) (IsAttemptWith sent entries addr)
          (EndsAs (Ok tt) entries (MakesAttempts until addr))
          (λ s1 s2 t1 t2 h k. (
            last_made until addr made sent entries (omega (arith, c.loop-made-test.true))
                (λ ends. sym (c.is_over.ensures.ended ends) ∙ c.if-is_over.true) s1 s2 t1 t2 h k,
            λ is_such of_end. ended_as is_such of_end addr made sent entries s1 s2 t1 t2 h k,
          ))
          c.loop-made.invariant.acts c.in-Ok.ensures.acts;
    }

pub returns-after-loop-made : goal.returns-after-loop-made
returns-after-loop-made g c =
    let sink = g.K.Sink in
    let addr = c.args.addr in
    let until = c.args.until in
    let made = c.loop-made._made in
    let entries = c.loop-made.page.report.items in
    let all : made ≡ MOST_ATTEMPTS = omega (arith, c.loop-made.auto._made-end, c.loop-made-test.false) in
    record {
      acts = acts_weaker sink.written sink.puts sink.faults (Ok tt) c.args.out.now c.loop-made.out c.args.host.now
          c.loop-made.host (Times made (GoesOn addr)) (EndsAs (Ok tt) entries (MakesAttempts until addr))
          (λ steps told h. (
            all_made until addr made all steps told h,
            λ is_such of_end. times_such is_such of_end addr made steps told h
                ∙ sym (list_such is_such of_end entries (c.loop-made.invariant.unended (some_made made all))),
          ))
          c.loop-made.invariant.acts;
    }
