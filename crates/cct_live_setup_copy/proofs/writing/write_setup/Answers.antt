use Rattle.std.proofs.Common.{◌++◌, codes, ap, sym}
use Rattle.cct_live_setup_copy.specs.Text.{devices_text}
use Rattle.cct_live_setup_copy.proofs.Written.{both_written, written_as}
use Rattle.cct_live_setup_copy.proofs.writing.write_setup.Goals as goal

pub returns-in-Ok : goal.returns-in-Ok
returns-in-Ok g c =
    written_as _ _ _ _ _ _ _ (ap (λ devices. devices_text devices ++ codes "begin\n") (sym c.as_slice.ensures.value))
    (both_written _ _ _ _ _ _ _ _ c.in-Ok.ensures c.put_text.ensures)
