use Rattle.std.proofs.Common.{◌∙◌, Ok, subst, sym, ap, arith}
use Rattle.cct_edge.specs.Faults.{Rose}
use Rattle.cct_host.specs.Host.{setup_of}
use Rattle.cct_model.specs.lines.entry.LineKind.TheVariants as kind
use Rattle.cct_live_service.specs.AtDesk.{Both, FollowsDesk}
use Rattle.cct_live_service.specs.Doing.{Does, DoesLine, Finds, IsStating, Tells, is_known}
use Rattle.cct_live_service.specs.Hears.{HearsMore}
use Rattle.cct_live_service.specs.Known.{MissedFrom, Rested, TaskAfter}
use Rattle.cct_live_service.specs.declared.input.InputLine.TheVariants as input
use Rattle.cct_live_service.specs.Linked.{UsesLink, watched}
use Rattle.cct_live_service.specs.Parts.{Acts}
use Rattle.cct_live_service.specs.Refused.{unless_named, unnamed}
use Rattle.cct_live_service.specs.Told.{refused}
use Rattle.cct_live_service.proofs.Found.{finds_none, finds_weaker, tells_finds}
use Rattle.cct_live_service.proofs.Knows.{stating_finds}
use Rattle.cct_live_service.proofs.Linking.{quiet_at_desk, roll_quiet}
use Rattle.cct_live_service.proofs.Parts.{acts_weaker}
use Rattle.cct_live_service.proofs.Sessions.{known_line, unknown_line}
use Rattle.cct_live_service.proofs.play.take_line.Goals as goal

pub returns-in-Err : goal.returns-in-Err
returns-in-Err g c =
    let sink = g.K.Sink in
    let link = g.L.CountedLink in
    let roll = c.args.roll.now in
    let known = roll.findings in
    let line = watched c.args.link.now c.args.page.now in
    let desk = c.args.desk.now in
    let host = c.args.host.now in
    let devices = (setup_of host).devices in
    let rested = Rested host c.args.desk.now in
    let tasks = TaskAfter host c.args.desk.now in
    let number = c.args.number in
    let misses = g.O.Outside.misses in
    let missed = MissedFrom host (Rose (misses c.args.outside.now) (misses c.args.outside.now)) in
    let result = c.refuse.result in
    let does = Tells (refused number c.in-Err.kind) in
    let follows = FollowsDesk result desk desk in
    let uses = Both (UsesLink g.L.Link.gives link.sent link.failures devices roll roll line
    (watched c.args.link.now c.refuse.new.page)) follows in
    record {
      acts = subst (λ said. Acts sink.written sink.puts sink.faults uses (Finds known known (DoesLine rested tasks missed devices known number said))
          result c.args.out.now c.refuse.new.out host c.refuse.new.host) (sym c.in-Err.is)
          (roll_quiet sink.written sink.puts sink.faults g.L.Link.gives link.sent link.failures devices roll
          c.args.link.now c.args.page.now c.refuse.new.page c.refuse.ensures.watch follows
          result c.args.out.now c.refuse.new.out host c.refuse.new.host (Finds known known does)
          (quiet_at_desk sink.written sink.puts sink.faults desk result c.args.out.now c.refuse.new.out host c.refuse.new.host
          (Finds known known does)
          (acts_weaker sink.written sink.puts sink.faults result c.args.out.now c.refuse.new.out host
          c.refuse.new.host does (Finds known known does) (finds_none known does (tells_finds number c.in-Err.kind))
          c.refuse.ensures.acts)));
      later = omega arith;
      heard = subst (λ said. HearsMore g.O.Outside.heard c.args.outside.now c.args.outside.now (unnamed devices number said))
          (sym c.in-Err.is) (λ before h. h);
    }

pub returns-then-is_known : goal.returns-then-is_known
returns-then-is_known g c =
    let sink = g.K.Sink in
    let link = g.L.CountedLink in
    let roll = c.args.roll.now in
    let known = roll.findings in
    let now = c.obey.new.roll.findings in
    let host = c.args.host.now in
    let devices = (setup_of host).devices in
    let rested = Rested host c.args.desk.now in
    let tasks = TaskAfter host c.args.desk.now in
    let number = c.args.number in
    let misses = g.O.Outside.misses in
    let missed = MissedFrom host (Rose (misses c.args.outside.now) (misses c.obey.new.outside)) in
    let said = c.in-Ok-Host.said in
    let there = sym (ap (λ setup. is_known setup.devices said) c.setup.ensures) ∙ sym c.is_known.ensures ∙ c.if-is_known.true in
    let uses = Both (UsesLink g.L.Link.gives link.sent link.failures devices roll c.obey.new.roll (watched c.args.link.now c.args.page.now)
    (watched c.obey.new.link c.obey.new.page)) (FollowsDesk c.obey.result c.args.desk.now c.obey.new.desk) in
    record {
      acts = subst (λ said. Acts sink.written sink.puts sink.faults uses (Finds known now (DoesLine rested tasks missed devices known number said))
          c.obey.result c.args.out.now c.obey.new.out host c.obey.new.host) (sym (c.in-Ok-Host.is ∙ ap (λ said. Ok said) (rw c.in-Ok-Host.is at c.in-Ok-Host.field-0-is)))
          (acts_weaker sink.written sink.puts sink.faults c.obey.result c.args.out.now c.obey.new.out host c.obey.new.host
          (Finds known now (Does rested tasks missed devices known said)) (Finds known now (DoesLine rested tasks missed devices known number (Ok (input.Host said))))
          (finds_weaker known now (Does rested tasks missed devices known said) (DoesLine rested tasks missed devices known number (Ok (input.Host said)))
          (known_line rested tasks missed (is_known devices said) there devices known number said))
          c.obey.ensures.acts);
      later = c.obey.ensures.later;
      heard = subst (λ said. HearsMore g.O.Outside.heard c.args.outside.now c.obey.new.outside (unnamed devices number said))
          (sym (c.in-Ok-Host.is ∙ ap (λ said. Ok said) (rw c.in-Ok-Host.is at c.in-Ok-Host.field-0-is)))
          (subst (λ b. HearsMore g.O.Outside.heard c.args.outside.now c.obey.new.outside (unless_named b number)) (sym there)
          c.obey.ensures.heard);
    }

pub returns-else-is_known : goal.returns-else-is_known
returns-else-is_known g c =
    let sink = g.K.Sink in
    let link = g.L.CountedLink in
    let roll = c.args.roll.now in
    let known = roll.findings in
    let line = watched c.args.link.now c.args.page.now in
    let desk = c.args.desk.now in
    let host = c.args.host.now in
    let devices = (setup_of host).devices in
    let rested = Rested host c.args.desk.now in
    let tasks = TaskAfter host c.args.desk.now in
    let number = c.args.number in
    let misses = g.O.Outside.misses in
    let missed = MissedFrom host (Rose (misses c.args.outside.now) (misses c.refuse_unknown.new.outside)) in
    let said = c.in-Ok-Host.said in
    let result = c.refuse_unknown.result in
    let does = Tells (refused number kind.Device) in
    let there = sym (ap (λ setup. is_known setup.devices said) c.setup.ensures) ∙ sym c.is_known.ensures ∙ c.if-is_known.false in
    let follows = FollowsDesk result desk desk in
    let uses = Both (UsesLink g.L.Link.gives link.sent link.failures devices roll roll line
    (watched c.args.link.now c.refuse_unknown.new.page)) follows in
    record {
      acts = subst (λ said. Acts sink.written sink.puts sink.faults uses (Finds known known (DoesLine rested tasks missed devices known number said))
          result c.args.out.now c.refuse_unknown.new.out host c.refuse_unknown.new.host) (sym (c.in-Ok-Host.is ∙ ap (λ said. Ok said) (rw c.in-Ok-Host.is at c.in-Ok-Host.field-0-is)))
          (roll_quiet sink.written sink.puts sink.faults g.L.Link.gives link.sent link.failures devices roll
          c.args.link.now c.args.page.now c.refuse_unknown.new.page c.refuse_unknown.ensures.watch follows
          result c.args.out.now c.refuse_unknown.new.out host c.refuse_unknown.new.host
          (Finds known known (DoesLine rested tasks missed devices known number (Ok (input.Host said))))
          (quiet_at_desk sink.written sink.puts sink.faults desk result c.args.out.now c.refuse_unknown.new.out host
          c.refuse_unknown.new.host (Finds known known (DoesLine rested tasks missed devices known number (Ok (input.Host said))))
          (acts_weaker sink.written sink.puts sink.faults result c.args.out.now c.refuse_unknown.new.out host
          c.refuse_unknown.new.host does (Finds known known (DoesLine rested tasks missed devices known number (Ok (input.Host said))))
          (λ steps told h. finds_weaker known known does (DoesLine rested tasks missed devices known number (Ok (input.Host said)))
          (unknown_line rested tasks missed (is_known devices said) there devices known number said) steps told
          (finds_none known does (tells_finds number kind.Device) steps told h))
          c.refuse_unknown.ensures.acts)));
      later = c.refuse_unknown.ensures.later;
      heard = subst (λ said. HearsMore g.O.Outside.heard c.args.outside.now c.refuse_unknown.new.outside (unnamed devices number said))
          (sym (c.in-Ok-Host.is ∙ ap (λ said. Ok said) (rw c.in-Ok-Host.is at c.in-Ok-Host.field-0-is)))
          (subst (λ b. HearsMore g.O.Outside.heard c.args.outside.now c.refuse_unknown.new.outside (unless_named b number)) (sym there)
          c.refuse_unknown.ensures.heard);
    }

pub returns-in-Ok-State : goal.returns-in-Ok-State
returns-in-Ok-State g c =
    let sink = g.K.Sink in
    let link = g.L.CountedLink in
    let roll = c.args.roll.now in
    let known = roll.findings in
    let line = watched c.args.link.now c.args.page.now in
    let desk = c.args.desk.now in
    let host = c.args.host.now in
    let devices = (setup_of host).devices in
    let rested = Rested host c.args.desk.now in
    let tasks = TaskAfter host c.args.desk.now in
    let number = c.args.number in
    let misses = g.O.Outside.misses in
    let missed = MissedFrom host (Rose (misses c.args.outside.now) (misses c.state.new.outside)) in
    let result = c.state.result in
    let out = c.args.out.now in
    let told = c.state.new.out in
    let after = c.state.new.host in
    let follows = FollowsDesk result desk desk in
    let uses = Both (UsesLink g.L.Link.gives link.sent link.failures devices roll roll line
    (watched c.args.link.now c.state.new.page)) follows in
    record {
      acts = subst (λ said. Acts sink.written sink.puts sink.faults uses (Finds known known (DoesLine rested tasks missed devices known number said))
          result out told host after) (sym (c.in-Ok-State.is ∙ ap (λ said. Ok said) (rw c.in-Ok-State.is at c.in-Ok-State.field-0-is)))
          (roll_quiet sink.written sink.puts sink.faults g.L.Link.gives link.sent link.failures devices roll
          c.args.link.now c.args.page.now c.state.new.page c.state.ensures.watch follows
          result out told host after (Finds known known (IsStating missed))
          (quiet_at_desk sink.written sink.puts sink.faults desk result out told host after (Finds known known (IsStating missed))
          (acts_weaker sink.written sink.puts sink.faults result out told host after (IsStating missed) (Finds known known (IsStating missed))
          (finds_none known (IsStating missed) (stating_finds missed)) c.state.ensures.acts)));
      later = c.state.ensures.later;
      heard = subst (λ said. HearsMore g.O.Outside.heard c.args.outside.now c.state.new.outside (unnamed devices number said))
          (sym (c.in-Ok-State.is ∙ ap (λ said. Ok said) (rw c.in-Ok-State.is at c.in-Ok-State.field-0-is)))
          c.state.ensures.heard;
    }
