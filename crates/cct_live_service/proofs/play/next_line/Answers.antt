use Rattle.std.proofs.Common.{◌≡◌, ◌∙◌, Err, Ok, ap, arith, sym, subst}
use Rattle.std.specs.Prelude.{IfErr, IfOk}
use Rattle.cct_edge.specs.Bytes.{Serves}
use Rattle.cct_script.specs.declared.lines.LinesNo.TheVariants.{Read}
use Rattle.cct_script.specs.Endless.{GivesNext, held_of, next_given}
use Rattle.cct_live_service.specs.Causes.{EndsBy, IsUnread}
use Rattle.cct_live_service.specs.Hears.{HearsMore}
use Rattle.cct_live_service.specs.Refused.{next_unread}
use Rattle.cct_live_service.specs.Said.{ComesNext, IsOfInput, IsSayable, stopped_by, unless_end}
use Rattle.cct_live_service.proofs.Hearing.{unread_next}
use Rattle.cct_live_service.proofs.Parts.{serves_weaker}
use Rattle.cct_live_service.proofs.Saying.{comes_long, comes_said, comes_stopped, said_ends, said_not_unread, said_sayable, stopped_ends, stopped_unread}
use Rattle.cct_live_service.proofs.play.next_line.Goals as goal

pub returns-in-Ok-Text : goal.returns-in-Ok-Text
returns-in-Ok-Text g c =
    let source = g.S.Source in
    let held = held_of c.args.lines.now in
    let kept = held_of c.line.follows.lender-at-none in
    let left = source.left c.args.input.now in
    let now = source.left c.line.new.source in
    let line = c.in-Ok-Text.line.now in
    let said = c.read_input_line-said.result in
    let is = sym c.unless_end.ensures in
    record {
      comes = subst (λ r. ComesNext c.args.number r held left kept now) is
          (comes_said c.args.number held kept left now line said c.read_input_line-said.ensures.reads
          (subst (λ r. GivesNext held kept left now (next_given r)) (c.in-Ok-Text.is ∙ ap (λ n. Ok n) c.in-Ok-Text.field-0-is)
          c.line.follows.holds-at-none));
      sayable = subst (λ r. IfOk r IsSayable) is (said_sayable said c.read_input_line-said.ensures.told);
      ends = subst (λ r. IfErr r IsOfInput) is (said_ends said);
      serves = subst (λ r. Serves source.left source.faults c.args.input.now c.line.new.source (EndsBy IsUnread r)) is
          (serves_weaker source.left source.faults c.args.input.now c.line.new.source ⊥ (EndsBy IsUnread (unless_end said))
          (said_not_unread said)
          (serves_weaker source.left source.faults c.args.input.now c.line.new.source (c.line.result ≡ Err Read) ⊥
          (λ never. absurd never) c.line.ensures.serves));
      later = c.tell_refusal.ensures.later;
      heard = subst (λ r. HearsMore g.O.Outside.heard c.args.outside.now c.tell_refusal.new.outside (next_unread c.args.number r)) is
          (subst (HearsMore g.O.Outside.heard c.args.outside.now c.tell_refusal.new.outside) (sym (unread_next c.args.number said))
          c.tell_refusal.ensures.heard);
    }

pub returns-in-Ok-Long-clause-comes : goal.returns-in-Ok-Long-clause-comes
returns-in-Ok-Long-clause-comes g c =
    let held = held_of c.args.lines.now in
    let kept = held_of c.line.follows.lender-at-none in
    let left = g.S.Source.left c.args.input.now in
    let now = g.S.Source.left c.line.new.source in
    comes_long c.args.number held kept left now
    (subst (λ r. GivesNext held kept left now (next_given r)) (c.in-Ok-Long.is ∙ ap (λ n. Ok n) c.in-Ok-Long.field-0-is)
    c.line.follows.holds-at-none)

pub returns-in-Err : goal.returns-in-Err
returns-in-Err g c =
    let source = g.S.Source in
    let held = held_of c.args.lines.now in
    let kept = held_of c.line.follows.lender-at-none in
    let left = source.left c.args.input.now in
    let now = source.left c.line.new.source in
    let why = c.in-Err.why in
    let is = sym c.stopped.ensures in
    record {
      comes = subst (λ how. ComesNext c.args.number (Err how) held left kept now) is
          (comes_stopped c.args.number held kept left now why
          (subst (λ r. GivesNext held kept left now (next_given r)) c.in-Err.is c.line.follows.holds-at-none));
      sayable = tt;
      ends = subst IsOfInput is (stopped_ends c.args.number why);
      serves = subst (λ how. Serves source.left source.faults c.args.input.now c.line.new.source (IsUnread how)) is
          (serves_weaker source.left source.faults c.args.input.now c.line.new.source (c.line.result ≡ Err Read)
          (IsUnread (stopped_by c.args.number why))
          (λ fails. c.in-Err.is ∙ ap (λ w. Err w) (stopped_unread c.args.number why fails)) c.line.ensures.serves);
      later = omega arith;
      heard = λ before h. h;
    }
