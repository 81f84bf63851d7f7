use Rattle.std.proofs.Common.{◌==◌, ◌∙◌, cond, refl, sym, ap, arith}
use Rattle.std.specs.Int.{w32, from_le_bytes}
use Rattle.cct_journal.specs.Half.{version_in}
use Rattle.cct_journal.proofs.Fronts.{four}
use Rattle.cct_journal.proofs.opening.front_of.Goals as goal

pub returns : goal.returns
returns c = record {
  gate = refl;
  title = c.is_open.ensures.0;
  titled = c.is_open.ensures.1;
  version = refl;
  generation_is =
      c.generation_of.ensures
      ∙ ap (λ n. cond (version_in c.args.bytes.now == 1) 0 n)
      (c.from_le_bytes-turns.ensures
      ∙ ap (from_le_bytes w32) (sym (four c.args.bytes.now 16 (omega (arith, c.fits-bytes)))));
}
