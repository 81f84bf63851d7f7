use Rattle.std.proofs.Common.{◌≡◌, ◌≢◌, ◌∙◌, ℕ, [], ◌∷◌, Ok, Err, IsErr, ap, arith, inl, inr}
use Rattle.cct_edge.specs.Faults.{Rose}
use Rattle.cct_audit.specs.Writing.{WritesLines}
use Rattle.cct_bench_state.specs.declared.telling.StateEnd.TheVariants as telling
use Rattle.cct_live_service.specs.declared.notice.Notice.TheVariants as notice_of
use Rattle.cct_live_service.specs.Told.{notice}
use Rattle.cct_live_service.proofs.Knows.{state_front, state_none, state_whole, told_known, unread_missed}
use Rattle.cct_live_service.proofs.Parts.{serves_then, serves_weaker}
use Rattle.cct_live_service.proofs.Telling.{told_then}
use Rattle.cct_live_service.proofs.knowing.tell_disk.Goals as goal

some_fault : (before now : ℕ) → before ≡ 0 → Rose before now → now ≢ 0
some_fault before now none rose some = omega (arith, none, rose, some)

pub returns-in-Done-clause-tells : goal.returns-in-Done-clause-tells
returns-in-Done-clause-tells g c =
    let sink = g.K.Sink in
    let out = c.args.out.now in
    let how = c.tell_state-how in
    let told = how.new.out in
    let known = state_whole c.args.host.now (λ lines r. WritesLines sink.written sink.puts out lines r told) how.result.0
    c.setup.result.now c.setup.ensures (g.D.Disk.seen c.args.disk) c.requires.same how.ensures.told how.ensures.lines c.in-Done.is in
    inl (known.0, known.1, told_known sink.written sink.puts out told known.0 known.0 (Ok tt) known.2)

pub returns-in-Unwritten-clause-tells : goal.returns-in-Unwritten-clause-tells
returns-in-Unwritten-clause-tells g c =
    let sink = g.K.Sink in
    let out = c.args.out.now in
    let how = c.tell_state-how in
    let told = how.new.out in
    let known = state_front c.args.host.now (λ lines r. WritesLines sink.written sink.puts out lines r told) how.result.0
    c.setup.result.now c.setup.ensures (g.D.Disk.seen c.args.disk) c.requires.same how.ensures.told how.ensures.lines c.in-Unwritten.is in
    inl (known.0, known.1, told_known sink.written sink.puts out told known.0 known.0 (Err known.2.0) known.2.1)

pub count_miss-requires : goal.count_miss-requires
count_miss-requires g c = record {
  failed = λ disk. some_fault (g.D.Disk.faults c.args.disk) (g.D.Disk.faults c.tell_state-how.result.1) c.requires.new
      (c.tell_state-how.ensures.disk_cause.rose (c.in-Unread.is ∙ ap (λ why. telling.Unread why) disk));
}

pub returns-in-Unread : goal.returns-in-Unread
returns-in-Unread g c =
    let sink = g.K.Sink in
    let misses = g.O.Outside.misses in
    let out = c.args.out.now in
    let how = c.tell_state-how in
    let between = how.new.out in
    let last = c.tell_unread.new.out in
    let answer = c.tell_unread.result in
    let host = c.args.host.now in
    let none = state_none host (λ lines r. WritesLines sink.written sink.puts out lines r between) how.result.0 c.setup.result.now c.setup.ensures (g.D.Disk.seen c.args.disk)
    c.requires.same how.ensures.told how.ensures.lines c.in-Unread.why c.in-Unread.is in
    record {
      tells = inr (
        told_then sink.written sink.puts out between last [] (notice notice_of.StateUnread ∷ []) answer
            (told_known sink.written sink.puts out between [] [] (Ok tt) none) c.tell_unread.ensures.tells,
        unread_missed host (λ lines r. WritesLines sink.written sink.puts out lines r between) how.result.0 c.setup.result.now c.setup.ensures (g.D.Disk.seen c.args.disk) c.requires.same
            how.ensures.told how.ensures.lines c.in-Unread.why c.in-Unread.is
            (Rose (misses c.args.outside.now) (misses c.count_miss.new.outside)) c.count_miss.ensures.missed.rose,
      );
      serves = serves_then sink.written sink.faults out between last ⊥ (IsErr answer)
          (serves_weaker sink.written sink.faults out between (how.result.0 ≡ telling.Unwritten) ⊥
          (λ none. absurd none) how.ensures.sink)
          c.tell_unread.ensures.serves (IsErr answer) (λ fails. inr fails);
      later = c.count_miss.ensures.missed.later;
      heard = c.count_miss.ensures.heard;
    }
