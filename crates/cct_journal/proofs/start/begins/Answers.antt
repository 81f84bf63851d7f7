use Rattle.std.proofs.Common.{refl}
use Rattle.cct_journal.proofs.Heads.{begins_so, begun_whole}
use Rattle.cct_journal.proofs.start.begins.Goals as goal

pub returns-then-may_begin : goal.returns-then-may_begin
returns-then-may_begin c =
    let s = c.args.start.now in (
      λ is. begins_so c.args.second s.generation s.base s.carry c.args.bytes.now c.told-bytes (c.if-may_begin.ensures.0 refl)
          (c.is_spelt_by.ensures.0 is),
      λ begins. c.is_spelt_by.ensures.1
          (begun_whole c.args.second s.generation s.base s.carry c.args.bytes.now c.told-bytes begins),
    )
