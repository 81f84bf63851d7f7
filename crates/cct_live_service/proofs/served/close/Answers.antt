use Rattle.std.proofs.Common.{IsErr, Result, Ok, refl, sym, ◌∙◌, subst, Err}
use Rattle.cct_edge.specs.declared.fault.Failed.{Failed}
use Rattle.cct_live_service.specs.Ending.{lines_of}
use Rattle.cct_live_service.specs.Told.{WritesTold, last}
use Rattle.cct_live_service.proofs.Parts.{no_error, serves_none}
use Rattle.cct_live_service.proofs.Telling.{told_none, told_one}
use Rattle.cct_live_service.proofs.served.close.Goals as goal

pub returns-in-None : goal.returns-in-None
returns-in-None g c =
    let sink = g.K.Sink in
    let out = c.args.out.now in
    let none = sym c.in-None.is ∙ c.last_entry.ensures in
    let answer : Result (Unit {0}) Failed = Ok tt in
    record {
      writes = (
        answer,
        subst (λ e. WritesTold sink.written sink.puts out (lines_of e) (Ok tt) out) none
            (told_none sink.written sink.puts out),
        serves_none sink.written sink.faults out (IsErr answer) (no_error tt),
        refl,
      );
    }

pub returns-in-Ok : goal.returns-in-Ok
returns-in-Ok g c =
    let sink = g.K.Sink in
    let out = c.args.out.now in
    let some = sym c.in-Some.is ∙ c.last_entry.ensures in
    record {
      writes = (
        Ok tt,
        subst (λ e. WritesTold sink.written sink.puts out (lines_of e) (Ok tt) c.write_entry.new.out) some
            (told_one sink.written sink.puts out c.write_entry.new.out (last c.in-Some.entry) (Ok tt) c.in-Ok.ensures.puts),
        c.in-Ok.ensures.serves,
        refl,
      );
    }

pub returns-in-Err : goal.returns-in-Err
returns-in-Err g c =
    let sink = g.K.Sink in
    let out = c.args.out.now in
    let some = sym c.in-Some.is ∙ c.last_entry.ensures in
    let why = c.in-Err.field-0 in
    record {
      writes = (
        Err why,
        subst (λ e. WritesTold sink.written sink.puts out (lines_of e) (Err why) c.write_entry.new.out) some
            (told_one sink.written sink.puts out c.write_entry.new.out (last c.in-Some.entry) (Err why) c.in-Err.ensures.puts),
        c.in-Err.ensures.serves,
        refl,
      );
    }
