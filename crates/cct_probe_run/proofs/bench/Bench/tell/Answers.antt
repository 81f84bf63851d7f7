use Rattle.std.proofs.Common.{refl}
use Rattle.cct_probe_run.proofs.Playing.{no_break, no_holds, one_put, one_tell}
use Rattle.cct_probe_run.proofs.bench.Bench.tell.Goals as goal

pub returns : goal.returns
returns g c = record {
  plays = λ setup trials first played. one_put played (one_tell c.as_slice.result.now _ c.put.ensures.1
      (λ breaks. absurd (no_break c.args.line.now c.as_slice.result.now c.requires.other c.as_slice.ensures breaks)) refl refl refl refl refl
      (λ is. absurd (no_break c.args.line.now c.as_slice.result.now c.requires.other c.as_slice.ensures is)) (λ _. refl)
      (λ promise is. absurd (no_holds c.args.line.now c.as_slice.result.now promise c.requires.other c.as_slice.ensures is)));
  still = refl;
}
