use Rattle.cct_script.specs.Taking.{no_take}
use Rattle.cct_script.proofs.Window.{part_held, seeks-begin, seeks-on, takes-on, takes-until, on-error}
use Rattle.cct_script.proofs.buffer.LineBuffer.seek.Goals as goal

pub loop-at-init : goal.loop-at-init
loop-at-init g c = record { seeks = seeks-begin _ _ _ _; takes = no_take }

pub returns-in_err-fill-clause-fills : goal.returns-in_err-fill-clause-fills
returns-in_err-fill-clause-fills g c =
    let held = c.held-held.ensures in
    let part = part_held c.loop-at.self _ held.value c.in_default.ensures held.fits c.if-len-eq-ROOM.false in
    let fill = c.fill.ensures in
    (seeks-on g.S.Source.left g.S.Source.faults _ _ _ _ _ _ _ c.loop-at.invariant.seeks fill.fills fill.serves part).fills

pub returns-in_err-fill-clause-still : goal.returns-in_err-fill-clause-still
returns-in_err-fill-clause-still g c some =
    let held = c.held-held.ensures in
    let part = part_held c.loop-at.self _ held.value c.in_default.ensures held.fits c.if-len-eq-ROOM.false in
    let fill = c.fill.ensures in
    let seeks = seeks-on g.S.Source.left g.S.Source.faults _ _ _ _ _ _ _ c.loop-at.invariant.seeks fill.fills fill.serves part in
    (seeks.still some).0

pub returns-then-branch-eq0-clause-still : goal.returns-then-branch-eq0-clause-still
returns-then-branch-eq0-clause-still g c some =
    let held = c.held-held.ensures in
    let part = part_held c.loop-at.self _ held.value c.in_default.ensures held.fits c.if-len-eq-ROOM.false in
    let fill = c.fill.ensures in
    let seeks = seeks-on g.S.Source.left g.S.Source.faults _ _ _ _ _ _ _ c.loop-at.invariant.seeks fill.fills fill.serves part in
    (seeks.still some).0

pub returns-in_err-fill-clause-takes : goal.returns-in_err-fill-clause-takes
returns-in_err-fill-clause-takes g c =
    let held = c.held-held.ensures in
    let part = part_held c.loop-at.self _ held.value c.in_default.ensures held.fits c.if-len-eq-ROOM.false in
    let fill = c.in_err-fill.ensures in
    on-error _ _ _ c.from_residual.ensures.0
    (takes-until g.S.Source.takes g.S.Source.left _ c.loop-at.self c.fill.new.self _ _ _
    c.in_err-fill.field-0.0 c.loop-at.invariant.takes part fill.one fill.err)

pub returns-then-branch-eq0-clause-takes : goal.returns-then-branch-eq0-clause-takes
returns-then-branch-eq0-clause-takes g c =
    let held = c.held-held.ensures in
    let part = part_held c.loop-at.self _ held.value c.in_default.ensures held.fits c.if-len-eq-ROOM.false in
    let fill = c.in_ok-fill.ensures in
    takes-on g.S.Source.takes g.S.Source.left _ _ _ _ _ _ c.in_ok-fill.field-0
    c.loop-at.invariant.takes part fill.one fill.fills fill.count

pub loop-at-preserved : goal.loop-at-preserved
loop-at-preserved g c =
    let held = c.held-held.ensures in
    let part = part_held c.loop-at.self _ held.value c.in_default.ensures held.fits c.if-len-eq-ROOM.false in
    let fill = c.in_ok-fill.ensures in
    record {
      seeks = seeks-on g.S.Source.left g.S.Source.faults _ _ _ _ _ _ _ c.loop-at.invariant.seeks fill.fills fill.serves part;
      takes = takes-on g.S.Source.takes g.S.Source.left _ _ _ _ _ _ c.in_ok-fill.field-0
          c.loop-at.invariant.takes part fill.one fill.fills fill.count;
    }
