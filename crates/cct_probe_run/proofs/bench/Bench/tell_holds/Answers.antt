use Rattle.std.proofs.Common.{◌∙◌, refl, sym}
use Rattle.cct_probe_run.proofs.Playing.{not_both, one_put, one_tell, same_promise}
use Rattle.cct_probe_run.proofs.bench.Bench.tell_holds.Goals as goal

pub returns : goal.returns
returns g c = record {
  plays = λ setup trials first played. one_put played (one_tell c.holds_line.result.now _ c.put.ensures.1
      (λ is. absurd (not_both c.holds_line.result.now c.args.promise is c.holds_line.ensures)) refl refl refl refl refl
      (λ is. absurd (not_both c.holds_line.result.now c.args.promise is c.holds_line.ensures)) (λ _. refl)
      (λ other is. same_promise c.args.promise other c.args.self.now.broken (sym c.holds_line.ensures ∙ is) c.requires.kept));
}
