use Rattle.std.proofs.Common.{refl, sym}
use Rattle.cct_host_change.proofs.Told.{begun_is}
use Rattle.cct_host_change.proofs.seeing.begun_after.Goals as goal

pub returns-then-is_opened : goal.returns-then-is_opened
returns-then-is_opened c =
    rw (begun_is c.args.payment c.args.report.now, sym c.is_opened.ensures, c.if-is_opened.true) refl

pub returns-then-is_ended : goal.returns-then-is_ended
returns-then-is_ended c =
    rw (begun_is c.args.payment c.args.report.now, sym c.is_opened.ensures, c.if-is_opened.false, sym c.is_ended.ensures, c.if-is_ended.true) refl

pub returns : goal.returns
returns c =
    rw (begun_is c.args.payment c.args.report.now, sym c.is_opened.ensures, c.if-is_opened.false, sym c.is_ended.ensures, c.if-is_ended.false) refl
