-- What a read brought is heard after what the reads before it brought.
use Rattle.std.proofs.Common.{◌≡◌, ◌<◌, false, [], Some, ◌++◌, subst, sym, ap, ◌∙◌, arith}
use Rattle.std.proofs.lemmas.List.{append-nil, append_assoc, nil_from_length}
use Rattle.cct_live_port.specs.Answer.{is_over}
use Rattle.cct_live_port.specs.Calls.{unread, paused, brought}
use Rattle.cct_live_port.proofs.calls.listen.Goals.{then-branch-eq0, else-branch-eq0}
use Rattle.cct_live_port.proofs.calls.listen.Goals as goal

pub loop-init : goal.loop-init
loop-init g c = record { bytes = []; few = omega arith; hearing = unread; heard = sym (append-nil _) }

pub loop-preserved : goal.loop-preserved
loop-preserved g c =
    let before = c.loop.invariant in
    let read = c.in_ok-read_more.ensures.more in
    let fewer : c.loop.silent < c.args.reads = omega (arith, before.few, c.if-silent-reads.false) in
    let more : is_over c.args.sent.now (c.args.heard.now.items ++ before.bytes) ≡ false =
    sym (ap (is_over c.args.sent.now) (c.as_slice.ensures.value ∙ before.heard)) ∙ sym c.is_over.ensures ∙ c.if-is_over.false in
    let heard : c.read_more.new.heard.items ≡ c.args.heard.now.items ++ (before.bytes ++ read.0) =
    read.2 ∙ ap (λ xs. xs ++ read.0) before.heard ∙ append_assoc c.args.heard.now.items before.bytes read.0 in
    elim c.if-branch-eq0.branch [
      | then-branch-eq0 w ↦
          let none : read.0 ≡ [] = nil_from_length read.0 (read.3 ∙ w.if-branch-eq0.true) in
          rw w.silent-is (record {
            bytes = before.bytes;
            few = omega (arith, fewer);
            hearing = paused _ _ _ _ _ before.hearing (fewer, more)
                (subst (λ piece. g.L.Line.reads c.loop.line (Some piece) c.read_more.new.line) none read.1);
            heard = heard ∙ ap (λ piece. c.args.heard.now.items ++ (before.bytes ++ piece)) none
                ∙ ap (λ bytes. c.args.heard.now.items ++ bytes) (append-nil before.bytes);
          })
      | else-branch-eq0 w ↦ rw w.silent-is (record {
        bytes = before.bytes ++ read.0;
        few = omega arith;
        hearing = brought before.bytes read.0 _ _ _ _ before.hearing (fewer, more)
            (omega (arith, read.3, w.if-branch-eq0.false)) read.1;
        heard = heard;
      })
    ]
