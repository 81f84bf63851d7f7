use Rattle.std.proofs.Common.{◌≡◌, ◌-◌, ℕ, List, length, subst, Some, None, IfOk, OnErr, arith}
use Rattle.std.specs.Prelude.{slice_range}
use Rattle.cct_model_wire.specs.Message.{message}
use Rattle.cct_frame.specs.Frame.{message_of}
use Rattle.cct_wire.proofs.Framers.{held_whole, fault_held}
use Rattle.cct_wire.proofs.framer.Framer.view.Goals as goal

pub returns-clause-whole : goal.returns-clause-whole
returns-clause-whole c = λ bytes since.
    subst (λ (p : List ℕ). IfOk c.read_checked.result (λ view. message c.args.self.now.kind p ≡ Some (message_of view)))
    (held_whole c.args.self.now bytes since (omega arith)) c.read_checked.ensures.whole

pub returns-clause-body : goal.returns-clause-body
returns-clause-body c = λ bytes since.
    subst (λ (p : List ℕ). IfOk c.read_checked.result (λ view. view.body.now ≡ slice_range p 4 (length p - 1)))
    (held_whole c.args.self.now bytes since (omega arith)) c.read_checked.ensures.body

pub returns-clause-first_fault : goal.returns-clause-first_fault
returns-clause-first_fault c = λ bytes since.
    fault_held c.args.self.now bytes since (omega arith) c.read_checked.result c.read_checked.ensures.first_fault

pub returns-clause-no_message : goal.returns-clause-no_message
returns-clause-no_message c = λ bytes since.
    subst (λ (p : List ℕ). OnErr c.read_checked.result (message c.args.self.now.kind p ≡ None))
    (held_whole c.args.self.now bytes since (omega arith)) c.read_checked.ensures.no_message
