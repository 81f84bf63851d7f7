use Rattle.std.proofs.Common.{◌≡◌, arith, length, rules}
use Rattle.std.proofs.lemmas.Result.{on_ok_weaker}
use Rattle.cct_journal.proofs.Calls.{slot_done, slot_early, slot_moments}
use Rattle.cct_disk.proofs.Taking.{takes_most}
use Rattle.cct_journal.proofs.slot.put_slot.Goals as goal

pub returns-clause-moments : goal.returns-clause-moments
returns-clause-moments g c carry_of records stands =
    let disk = g.D.Disk in
    let whole : length c.spell_slot-bytes.result ≡ 32 = search rules in
    slot_moments disk.size disk.honest disk.seen disk.may_leave disk.moment disk.left_since g.met.D.Disk.fits
    c.args.disk.now c.args.place.now c.args.entry.now c.requires.placed c.requires.room
    c.spell_slot-bytes.ensures.in_range c.spell_slot-bytes.result whole c.spell_slot-bytes.ensures.spelt
    c.bytes_behind-count.result c.len-len.result c.len-len.ensures c.from-slot.result c.from-slot.ensures
    c.start_on.result c.start_on.ensures c.slots_on.result c.slots_on.ensures c.bytes_behind-count.ensures carry_of records stands c.write_gated.new.disk
    c.write_gated.ensures.moments

pub returns-clause-early : goal.returns-clause-early
returns-clause-early g c few carry_of records stands =
    let disk = g.D.Disk in
    let whole : length c.spell_slot-bytes.result ≡ 32 = search rules in
    slot_early disk.size disk.honest disk.seen disk.may_leave disk.moment disk.left_since g.met.D.Disk.fits
    c.args.disk.now c.args.place.now c.args.entry.now c.requires.placed c.requires.room
    c.spell_slot-bytes.ensures.in_range c.spell_slot-bytes.result whole c.spell_slot-bytes.ensures.spelt
    c.bytes_behind-count.result c.len-len.result c.len-len.ensures c.from-slot.result c.from-slot.ensures
    c.start_on.result c.start_on.ensures c.slots_on.result c.slots_on.ensures c.bytes_behind-count.ensures carry_of records stands c.write_gated.new.disk
    (c.write_gated.ensures.early few)

pub returns-clause-done : goal.returns-clause-done
returns-clause-done g c =
    let disk = g.D.Disk in
    let whole : length c.spell_slot-bytes.result ≡ 32 = search rules in
    on_ok_weaker c.write_gated.result (λ done all carry_of records stands.
    slot_done disk.size disk.honest disk.seen disk.may_leave disk.moment disk.left_since g.met.D.Disk.fits
    c.args.disk.now c.args.place.now c.args.entry.now c.requires.placed c.requires.room
    c.spell_slot-bytes.ensures.in_range c.spell_slot-bytes.result whole c.spell_slot-bytes.ensures.spelt
    c.bytes_behind-count.result c.len-len.result c.len-len.ensures c.from-slot.result c.from-slot.ensures
    c.start_on.result c.start_on.ensures c.slots_on.result c.slots_on.ensures c.bytes_behind-count.ensures carry_of records stands c.write_gated.new.disk
    (λ image held. done all held.keeps_synced image held.tells)) c.write_gated.ensures.done

pub returns-clause-takes : goal.returns-clause-takes
returns-clause-takes g c = takes_most 4 33 (omega arith) (search rules) c.write_gated.ensures.takes
