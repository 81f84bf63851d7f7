use Rattle.std.proofs.Common.{◌-◌, [], ◌++◌, take, sym, ap, ◌∙◌, arith}
use Rattle.std.proofs.lemmas.List.{append-nil}
use Rattle.cct_script.proofs.Window.{held-filled, held-copied, consumes-keeps}
use Rattle.cct_script.proofs.buffer.LineBuffer.fill.Goals as goal

pub returns-in_err-taken-clause-fills : goal.returns-in_err-taken-clause-fills
returns-in_err-taken-clause-fills g c =
    let s = c.self.inside in (
      [],
      held-copied c.move_to_front.new.bytes c.take.new.room (s.end - s.start) _ (omega arith)
          ∙ (c.move_to_front.ensures ∙ c.self.view_is)
          ∙ sym (append-nil c.args.self.now),
      consumes-keeps _ _ c.in_err-taken.ensures.bytes,
    )

pub returns-clause-fills : goal.returns-clause-fills
returns-clause-fills g c =
    let s = c.self.inside in
    let new = take c.in_ok-taken.taken c.take.new.room in (
      new,
      held-filled c.move_to_front.new.bytes c.take.new.room (s.end - s.start) _ c.in_ok-taken.taken
          (omega arith) c.in_ok-taken.ensures.bound.0
          ∙ ap (λ xs. xs ++ new) (c.move_to_front.ensures ∙ c.self.view_is),
      c.in_ok-taken.ensures.bytes.0,
    )
