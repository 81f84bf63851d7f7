-- A read that brought nothing is one more in a row, any other ends the row.
use Rattle.std.proofs.Common.{◌≡◌, [], Some, ◌++◌, take, subst, arith}
use Rattle.cct_live_port.specs.Calls.{Hearing, is_noisy, most_reads, unread, paused, brought, never, broke}
use Rattle.cct_live_port.proofs.Following.{on_error, some_bytes}
use Rattle.cct_live_port.proofs.calls.wait.Goals.{then-branch-eq0, else-branch-eq0}
use Rattle.cct_live_port.proofs.calls.wait.Goals as goal

pub loop-init : goal.loop-init
loop-init g c = record { dropped = []; hearing = unread }

pub returns-in_err-read-clause-unquiet : goal.returns-in_err-read-clause-unquiet
returns-in_err-read-clause-unquiet g c =
    on_error _ _ _ c.from_residual.ensures.0 (broke _ _ _ _ _ c.loop.invariant.hearing c.in_err-read.ensures.one)

pub loop-preserved : goal.loop-preserved
loop-preserved g c =
    let before = c.loop.invariant in
    let read = c.in_ok-read.ensures in
    let piece = take c.in_ok-read.field-0 c.read.new.room in
    elim c.if-branch-eq0.branch [
      | then-branch-eq0 w ↦ rw w.silent-is (record {
        dropped = before.dropped;
        hearing = paused _ _ _ _ _ before.hearing (omega (arith, c.if-silent-reads.false))
            (subst (λ k. g.L.Line.reads c.loop.line (Some (take k c.read.new.room)) c.read.new.self) w.if-branch-eq0.true read.one);
      })
      | else-branch-eq0 w ↦ rw w.silent-is (record {
        dropped = before.dropped ++ piece;
        hearing = brought before.dropped piece _ _ _ _ before.hearing (omega (arith, c.if-silent-reads.false))
            (some_bytes _ _ read.bound.0 w.if-branch-eq0.false) read.one;
      })
    ]

pub returns-clause-unquiet : goal.returns-clause-unquiet
returns-clause-unquiet g c =
    let all : c.loop.counter ≡ most_reads c.args.reads = (omega (arith, c.loop-test.false, c.loop.auto.counter-end, c.from-end.ensures)) in
    never _ _ _ (subst (λ made. Hearing g.L.Line.reads g.L.Line.writes (is_noisy c.args.reads) c.args.already c.args.line.now
    c.loop.invariant.dropped c.loop.silent made c.loop.line) all c.loop.invariant.hearing)
