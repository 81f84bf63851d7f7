use Rattle.std.proofs.Common.{◌≡◌, ◌+◌, ◌∙◌, refl, length, sym, ap, arith, subst}
use Rattle.cct_record.specs.Body.{IsRefused, Spells}
use Rattle.cct_journal.specs.Image.{room_of}
use Rattle.cct_journal.proofs.Moments.{reads_then}
use Rattle.cct_journal.proofs.Walks.{replayed_all, replayed_on, walked_full, walked_refused, walked_shut}
use Rattle.cct_journal.proofs.reading.replay_records.Goals as goal

pub returns-then-slot-clause-replayed : goal.returns-then-slot-clause-replayed
returns-then-slot-clause-replayed g c =
    replayed_all _ _ _ _ _ _ _ _ _ refl c.loop-many.invariant.replayed
    (λ records walked image told.
    let all : c.room_on-room.result ≡ room_of (length image) c.args.place.now.base = c.room_on-room.ensures.value
    ∙ ap (λ n. room_of n c.args.place.now.base) (c.len.ensures ∙ sym (g.met.D.Disk.fits _ image told)) in
    let seen = c.loop-many.invariant.reads.same_seen ∙ told in
    walked_shut image c.args.place.now.second c.args.place.now.base c.loop-many.many records (walked image told)
    (omega (arith, all, c.loop-many-test.true))
    (λ is_open. c.if-slot.true (c.in_ok-slot.ensures.gate image seen ∙ is_open)))

pub returns-in-None-clause-stopped : goal.returns-in-None-clause-stopped
returns-in-None-clause-stopped g c image told =
    let all : c.room_on-room.result ≡ room_of (length image) c.args.place.now.base = c.room_on-room.ensures.value
    ∙ ap (λ n. room_of n c.args.place.now.base) (c.len.ensures ∙ sym (g.met.D.Disk.fits _ image told)) in
    let seen = c.loop-many.invariant.reads.same_seen ∙ told in
    walked_refused image c.args.place.now.second c.args.place.now.base c.loop-many.many _
    (c.loop-many.invariant.replayed.fact image told) (omega (arith, all, c.loop-many-test.true)) _ refl
    (sym (c.in_ok-slot.ensures.gate image seen) ∙ c.if-slot.false)
    (subst IsRefused (c.in_ok-slot.ensures.body image seen) c.in-None.ensures.refused)

pub loop-many-preserved : goal.loop-many-preserved
loop-many-preserved g c = record {
  reads = reads_then c.loop-many.invariant.reads c.read_slot.ensures.reads;
  ready = λ is. c.read_slot.ensures.ready (c.loop-many.invariant.ready is);
  later = omega (arith, c.loop-many.invariant.later, c.read_slot.ensures.cause.later);
  replayed = replayed_on _ c.args.place.now.second _ _ _ _ _ c.loop-many.many c.in-Some.entry _
      c.loop-many.invariant.replayed
      (c.replay.ensures c.args.replay.now c.args.place.now.base c.args.place.now.carry)
      (λ image told.
      let all : c.room_on-room.result ≡ room_of (length image) c.args.place.now.base = c.room_on-room.ensures.value
      ∙ ap (λ n. room_of n c.args.place.now.base) (c.len.ensures ∙ sym (g.met.D.Disk.fits _ image told)) in
      let seen = c.loop-many.invariant.reads.same_seen ∙ told in (
        omega (arith, all, c.loop-many-test.true),
        sym (c.in_ok-slot.ensures.gate image seen) ∙ c.if-slot.false,
        subst (Spells c.in-Some.entry) (c.in_ok-slot.ensures.body image seen) c.in-Some.ensures.spelt,
      ));
}

pub returns-clause-replayed : goal.returns-clause-replayed
returns-clause-replayed g c =
    let whole : c.loop-many.many ≡ c.room_on-room.result = omega (arith, c.loop-many-test.false, c.loop-many.auto.many-end) in
    replayed_all _ _ _ _ _ _ _ _ _ (ap (λ n. c.args.place.now.base + n) (sym whole)) c.loop-many.invariant.replayed
    (λ records walked image told.
    let all : c.room_on-room.result ≡ room_of (length image) c.args.place.now.base = c.room_on-room.ensures.value
    ∙ ap (λ n. room_of n c.args.place.now.base) (c.len.ensures ∙ sym (g.met.D.Disk.fits _ image told)) in
    walked_full image c.args.place.now.second c.args.place.now.base c.loop-many.many records (walked image told)
    c.room_on-room.result whole all)
