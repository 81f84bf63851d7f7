use Rattle.std.proofs.Common.{◌∷◌, ◌++◌, ◌+◌, ◌∙◌, [], Ok, Err, take, drop, ap, sym, refl, subst, arith}
use Rattle.std.proofs.lemmas.List.{take_more, take-append-drop}
use Rattle.cct_live_service.specs.AtDesk.{Both, IsApart}
use Rattle.cct_live_service.specs.Doing.{IsFound, Tells}
use Rattle.cct_live_service.specs.Linked.{AreQuiet}
use Rattle.cct_live_service.specs.Parts.{Acts}
use Rattle.cct_live_service.specs.Told.{finding}
use Rattle.cct_live_service.proofs.Desks.{apart_then}
use Rattle.cct_live_service.proofs.Found.{found_broken, found_more}
use Rattle.cct_live_service.proofs.Linking.{both_then, quiet_then}
use Rattle.cct_live_service.proofs.Parts.{acts_front, acts_none, acts_then}
use Rattle.cct_live_service.proofs.asking.tell_all.Goals as goal

pub loop-found-init : goal.loop-found-init
loop-found-init g c =
    let sink = g.K.Sink in
    record {
      acts = acts_none sink.written sink.puts sink.faults (Both AreQuiet IsApart) (refl, λ desk. refl) c.args.out.now
          c.args.host.now (IsFound []) c.requires.whole (refl, refl);
      watch = refl;
    }

pub loop-found-preserved : goal.loop-found-preserved
loop-found-preserved g c =
    let sink = g.K.Sink in
    let fs = c.args.findings.now in
    let i = c.loop-found.found-index in
    let f = c.found-item.result in
    let more = take_more fs i f (omega arith) ∙ ap (λ x. take i fs ++ x ∷ []) (sym c.found-item.is) in
    record {
      acts = subst (λ told. Acts sink.written sink.puts sink.faults (Both AreQuiet IsApart) (IsFound told) (Ok tt) c.args.out.now c.tell_one.new.out
          c.args.host.now c.tell_one.new.host) (sym more)
          (acts_then sink.written sink.puts sink.faults (Both AreQuiet IsApart) (Both AreQuiet IsApart) (Both AreQuiet IsApart)
          (both_then AreQuiet AreQuiet AreQuiet IsApart IsApart IsApart quiet_then apart_then) (Ok tt) c.args.out.now c.loop-found.out c.tell_one.new.out
          c.args.host.now c.loop-found.host c.tell_one.new.host (IsFound (take i fs)) (Tells (finding f))
          (IsFound (take i fs ++ f ∷ [])) (found_more f (take i fs)) c.loop-found.invariant.acts c.in-Ok.ensures.acts);
      watch = c.in-Ok.ensures.watch ∙ c.loop-found.invariant.watch;
    }

pub returns-in-Err : goal.returns-in-Err
returns-in-Err g c =
    let sink = g.K.Sink in
    let fs = c.args.findings.now in
    let i = c.loop-found.found-index in
    let f = c.found-item.result in
    let how = c.in-Err.how in
    let more = take_more fs i f (omega arith) ∙ ap (λ x. take i fs ++ x ∷ []) (sym c.found-item.is) in
    let whole = ap (λ first. first ++ drop (i + 1) fs) (sym more) ∙ take-append-drop (i + 1) fs in
    let first = take i fs ++ f ∷ [] in
    record {
      acts = subst (λ told. Acts sink.written sink.puts sink.faults (Both AreQuiet IsApart) (IsFound told) (Err how) c.args.out.now
          c.tell_one.new.out c.args.host.now c.tell_one.new.host) whole
          (acts_front sink.written sink.puts sink.faults how c.args.out.now c.tell_one.new.out c.args.host.now
          c.tell_one.new.host (IsFound first) (IsFound (first ++ drop (i + 1) fs)) (found_broken first (drop (i + 1) fs))
          (acts_then sink.written sink.puts sink.faults (Both AreQuiet IsApart) (Both AreQuiet IsApart) (Both AreQuiet IsApart)
          (both_then AreQuiet AreQuiet AreQuiet IsApart IsApart IsApart quiet_then apart_then) (Err how) c.args.out.now c.loop-found.out c.tell_one.new.out
          c.args.host.now c.loop-found.host c.tell_one.new.host (IsFound (take i fs)) (Tells (finding f)) (IsFound first)
          (found_more f (take i fs)) c.loop-found.invariant.acts c.in-Err.ensures.acts));
      watch = c.in-Err.ensures.watch ∙ c.loop-found.invariant.watch;
    }
