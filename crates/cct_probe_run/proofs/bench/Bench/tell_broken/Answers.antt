use Rattle.std.proofs.Common.{refl}
use Rattle.cct_probe_run.proofs.Playing.{begins_on, ends, not_both, one_put, one_tell, that_told, unclear}
use Rattle.cct_probe_run.proofs.bench.Bench.tell_broken.Goals as goal

pub returns : goal.returns
returns g c =
    let breaks = begins_on c.push_wire.new.line c.begin_broken.new.line _ c.as_slice.result.now c.begin_broken.ensures.begins c.push_wire.ensures c.as_slice.ensures in
    record {
      plays = λ setup trials first there shows played. one_put played (one_tell c.as_slice.result.now _ c.put.ensures.1
          (λ _. record {
            trial = c.args.trial.now;
            of_plan = there;
            addr = c.args.addr;
            this = c.args.premise;
            shows = shows;
            front = c.begin_broken.new.line;
            text = ends _ _ c.begin_broken.new.line c.args.addr c.as_slice.ensures c.push_wire.ensures c.as_slice-sent.ensures.value c.as_slice-heard.ensures.value;
            names = c.begin_broken.ensures.names;
          }) refl refl refl refl refl (λ is. c.and-self.ensures)
          (λ isnt. absurd (unclear c.as_slice.result.now breaks isnt))
          (λ promise is. absurd (not_both c.as_slice.result.now promise breaks is)));
      tells = λ setup trials there shows. that_told c.args.premise c.as_slice.result.now _ c.put.ensures.1 breaks
          (record {
            trial = c.args.trial.now;
            of_plan = there;
            addr = c.args.addr;
            this = c.args.premise;
            shows = shows;
            front = c.begin_broken.new.line;
            text = ends _ _ c.begin_broken.new.line c.args.addr c.as_slice.ensures c.push_wire.ensures c.as_slice-sent.ensures.value c.as_slice-heard.ensures.value;
            names = c.begin_broken.ensures.names;
          }) refl refl refl refl refl refl c.and-self.ensures;
    }
