use Rattle.std.proofs.Common.{inl, inr, refl}
use Rattle.cct_model.specs.lines.command.Command.TheVariants as command
use Rattle.cct_laws_live.specs.LiveStep as live
use Rattle.cct_live_service.specs.AtDesk.{Both, IsApart}
use Rattle.cct_live_service.specs.Doing.{BeginsRound, TellsOne}
use Rattle.cct_live_service.specs.Linked.{AreQuiet}
use Rattle.cct_live_service.proofs.Parts.{acts_none, acts_weaker}
use Rattle.cct_live_service.proofs.visit.begin_round.Goals as goal

pub returns-then-is_none : goal.returns-then-is_none
returns-then-is_none g c =
    let sink = g.K.Sink in
    record {
      acts = acts_weaker sink.written sink.puts sink.faults c.answer.result c.args.out.now c.answer.new.out c.args.host.now
          c.answer.new.host (TellsOne (live.command (command.Round c.args.addr))) (BeginsRound c.args.addr)
          (λ steps told h. inr h) c.answer.ensures.acts;
      watch = c.answer.ensures.watch;
    }

pub returns-else-is_none : goal.returns-else-is_none
returns-else-is_none g c =
    let sink = g.K.Sink in
    record {
      acts = acts_none sink.written sink.puts sink.faults (Both AreQuiet IsApart) (refl, λ desk. refl) c.args.out.now
          c.args.host.now (BeginsRound c.args.addr) c.requires.whole (inl (refl, refl));
      watch = refl;
    }
