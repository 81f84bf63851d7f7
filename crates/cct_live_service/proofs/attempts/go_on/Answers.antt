use Rattle.std.proofs.Common.{◌∙◌, Ok, ap, false, inl, inr, is_some, refl, sym}
use Rattle.std.specs.List.{list_any}
use Rattle.cct_host.specs.Host.{setup_of}
use Rattle.cct_live_service.specs.Doing.{EndsAs, GoesOnTo, MakesAttempts}
use Rattle.cct_live_service.specs.Known.{HasJob, IsKnown}
use Rattle.cct_live_service.specs.Linked.{watched}
use Rattle.cct_live_service.proofs.Linking.{link_none}
use Rattle.cct_live_service.proofs.Parts.{acts_weaker}
use Rattle.cct_live_service.proofs.attempts.go_on.Goals as goal

pub returns-then-is_some : goal.returns-then-is_some
returns-then-is_some g c =
    let sink = g.K.Sink in
    let addr = c.args.addr in
    let until = c.args.until in
    let host = c.args.host.now in
    let no_job = IsKnown host c.args.desk.now (HasJob (setup_of host) addr false) in
    record {
      acts = acts_weaker sink.written sink.puts sink.faults c.attempts.result c.args.out.now c.attempts.new.out host
          c.attempts.new.host (EndsAs c.attempts.result c.attempts.new.page.report.items (MakesAttempts until addr))
          (EndsAs c.attempts.result c.attempts.new.page.report.items (GoesOnTo no_job until addr))
          (λ steps told h. (inr h.0, h.1))
          c.attempts.ensures.acts;
    }

pub returns-else-is_some : goal.returns-else-is_some
returns-else-is_some g c =
    let sink = g.K.Sink in
    let link = g.L.CountedLink in
    let addr = c.args.addr in
    let host = c.args.host.now in
    let no_job = IsKnown host c.args.desk.now (HasJob (setup_of host) addr false) in
    record {
      acts = link_none sink.written sink.puts sink.faults g.L.Link.gives link.sent link.failures (watched c.args.link.now c.args.page.now)
          c.args.desk.now c.args.out.now host (EndsAs (Ok tt) c.clear.new.self.items (GoesOnTo no_job c.args.until addr))
          c.requires.whole (
            inl (
              (refl, refl),
              λ past keeps. ap is_some (sym (c.command_at.ensures past keeps)) ∙ sym c.is_some.ensures ∙ c.if-is_some.false,
            ),
            λ is_such of_end. ap (list_any is_such) (sym c.clear.ensures),
          );
    }
