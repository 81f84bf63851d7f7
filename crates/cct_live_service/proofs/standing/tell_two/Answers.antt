use Rattle.std.proofs.Common.{◌∷◌, [], IsErr, Ok, Result, inr}
use Rattle.cct_edge.specs.declared.fault.Failed.{Failed}
use Rattle.cct_live_service.specs.Told.{notice}
use Rattle.cct_live_service.proofs.Parts.{serves_then, serves_weaker}
use Rattle.cct_live_service.proofs.Telling.{told_short, told_then}
use Rattle.cct_live_service.proofs.standing.tell_two.Goals as goal

pub returns-in-Ok : goal.returns-in-Ok
returns-in-Ok g c =
    let sink = g.K.Sink in
    let out = c.args.out.now in
    let between = c.tell_one.new.out in
    let last = c.tell_one-in-Ok.new.out in
    let answer = c.tell_one-in-Ok.result in
    let went : Result (Unit {0}) Failed = Ok tt in
    record {
      tells = told_then sink.written sink.puts out between last (notice c.args.first.now ∷ []) (notice c.args.second.now ∷ [])
          answer c.in-Ok.ensures.tells c.tell_one-in-Ok.ensures.tells;
      serves = serves_then sink.written sink.faults out between last ⊥ (IsErr answer)
          (serves_weaker sink.written sink.faults out between (IsErr went) ⊥ (λ never. absurd never) c.in-Ok.ensures.serves)
          c.tell_one-in-Ok.ensures.serves (IsErr answer) (λ fails. inr fails);
    }

pub returns-in-Err-clause-tells : goal.returns-in-Err-clause-tells
returns-in-Err-clause-tells g c =
    let sink = g.K.Sink in
    told_short sink.written sink.puts c.args.out.now c.tell_one.new.out (notice c.args.first.now)
    (notice c.args.second.now ∷ []) c.in-Err.failed c.in-Err.ensures.tells
