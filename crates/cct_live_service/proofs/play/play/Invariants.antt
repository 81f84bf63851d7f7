use Rattle.std.proofs.Common.{◌≡◌, ◌≤◌, suc, List, length, Ok}
use Rattle.cct_edge.specs.Bytes.{Serves}
use Rattle.cct_edge.specs.Faults.{Rose}
use Rattle.cct_host.specs.Host.{setup_of}
use Rattle.cct_script.specs.Endless.{held_of}
use Rattle.cct_live_service.specs.AtDesk.{Both, FollowsDesk}
use Rattle.cct_live_service.specs.Doing.{DoesLines, Finds}
use Rattle.cct_live_service.specs.Hears.{HearsMore}
use Rattle.cct_live_service.specs.Known.{KnownAfter, MissedFrom}
use Rattle.cct_live_service.specs.Linked.{UsesLink, watched}
use Rattle.cct_live_service.specs.Parts.{Acts}
use Rattle.cct_live_service.specs.Refused.{refusals}
use Rattle.cct_live_service.specs.Said.{HasSaid, Said}
use Rattle.cct_live_service.proofs.play.play.Given as goal

-- The host keeps running, and did what the lines before this number said.
abbrev pub invariant-loop-number : goal.invariant-loop-number
invariant-loop-number g l =
    let source = g.S.Source in
    let sink = g.K.Sink in
    let link = g.L.CountedLink in
    record {
      said : List Said;
      count : suc (length said) ≡ l.number;
      acts : Acts sink.written sink.puts sink.faults
          (Both (UsesLink g.L.Link.gives link.sent link.failures (setup_of l.fn.host).devices l.fn.roll l.roll (watched l.fn.link l.fn.page) (watched l.link l.page))
          (FollowsDesk (Ok tt) l.fn.desk l.desk))
          (Finds l.fn.roll.findings l.roll.findings (DoesLines (KnownAfter l.fn.host l.fn.desk)
          (MissedFrom l.fn.host (Rose (g.O.Outside.misses l.fn.outside) (g.O.Outside.misses l.outside))) (setup_of l.fn.host) l.fn.roll.findings said)) (Ok tt) l.fn.out l.out l.fn.host
          l.host;
      later : g.O.Outside.misses l.fn.outside ≤ g.O.Outside.misses l.outside;
      heard : HearsMore g.O.Outside.heard l.fn.outside l.outside (refusals (setup_of l.fn.host).devices said);
      says : HasSaid (source.left l.fn.input) said (held_of l.lines) (source.left l.input);
      serves : Serves source.left source.faults l.fn.input l.input ⊥;
    }
