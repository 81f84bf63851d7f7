use Rattle.cct_live_setup_copy.proofs.Parts.{places_parts}
use Rattle.cct_live_setup_copy.proofs.Written.{both_written, written_as}
use Rattle.cct_live_setup_copy.proofs.writing.+put_places.Goals as goal

pub returns-in-Ok : goal.returns-in-Ok
returns-in-Ok g t c =
    let parts = places_parts c.args.addr c.args.place c.args.values.now c.args.ids.now c.in-len1-up.len_at_least
    c.in-len1-up-ids.len_at_least in
    written_as _ _ _ _ _ _ _ parts (both_written _ _ _ _ _ _ _ _ c.in-Ok.ensures c.put_places.ensures)
