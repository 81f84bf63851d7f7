use Rattle.std.proofs.Common.{refl, subst}
use Rattle.cct_model.specs.Carry.{known_by}
use Rattle.cct_host.specs.Replayed.{AllReplay}
use Rattle.cct_host.proofs.desks.Desks.resume.Goals as goal

pub returns-clause-resumes : goal.returns-clause-resumes
returns-clause-resumes c = record {
  sound = c.requires.sound;
  unused = record {
    devices = c.resumed_desks.ensures.unused;
    scan = c.default.ensures;
    sale = c.default-2.ensures;
  };
  devices = subst (λ ds. AllReplay ds c.resumed_desks.result.items (known_by c.args.setup.now c.args.carry.now))
      c.as_slice.ensures.value (c.resumed_desks.ensures.resumed c.args.setup.now);
  last_is = refl;
}
