use Rattle.std.proofs.Common.{◌≡◌, ◌+◌, ◌∙◌, length, refl, sym, ap, arith}
use Rattle.cct_journal.specs.OldImage.{old_room}
use Rattle.cct_journal.proofs.Moments.{reads_then}
use Rattle.cct_journal.proofs.OldBodies.{counted_end, counted_on}
use Rattle.cct_journal.proofs.old_reading.count_slots.Goals as goal

pub returns-then-slot-clause-counted : goal.returns-then-slot-clause-counted
returns-then-slot-clause-counted g c image told =
    let old = c.args.old.now in
    let base = old.place.base in
    let size = g.met.D.Disk.fits _ image told in
    let room : c.old_room_on-room.result ≡ old_room old.version (length image) base = c.old_room_on-room.ensures.value
    ∙ ap (λ n. old_room old.version n base) (c.len.ensures ∙ sym size) in
    let seen = c.loop-many.invariant.reads.same_seen ∙ told in
    ap (λ n. base + n)
    (sym (counted_end image old c.loop-many.many (c.loop-many.invariant.counted image told)
    (omega (arith, c.requires.long, size)) (omega (arith, room, c.loop-many-test.true)) (base + c.loop-many.many) refl
    (λ is_open. c.if-slot.true (c.in_ok-slot.ensures.gate image seen ∙ is_open))))

pub loop-many-preserved : goal.loop-many-preserved
loop-many-preserved g c = record {
  reads = reads_then c.loop-many.invariant.reads c.read_old_slot.ensures.reads;
  later = omega (arith, c.loop-many.invariant.later, c.read_old_slot.ensures.cause.later);
  counted = λ image told.
      let old = c.args.old.now in
      let base = old.place.base in
      let size = g.met.D.Disk.fits _ image told in
      let room : c.old_room_on-room.result ≡ old_room old.version (length image) base = c.old_room_on-room.ensures.value
      ∙ ap (λ n. old_room old.version n base) (c.len.ensures ∙ sym size) in
      let seen = c.loop-many.invariant.reads.same_seen ∙ told in
      counted_on image old c.loop-many.many (c.loop-many.invariant.counted image told)
      (omega (arith, c.requires.long, size)) (omega (arith, room, c.loop-many-test.true)) (base + c.loop-many.many) refl
      (sym (c.in_ok-slot.ensures.gate image seen) ∙ c.if-slot.false);
}
