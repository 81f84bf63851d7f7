-- The reads so far brought what was heard since.
use Rattle.std.proofs.Common.{◌≡◌, ◌≤◌, ◌++◌, List, ℕ}
use Rattle.cct_live_port.specs.Calls.{Hearing, goes_on}
use Rattle.cct_live_port.proofs.calls.listen.Given as goal

abbrev pub invariant-loop : goal.invariant-loop
invariant-loop g l = record {
  bytes : List ℕ;
  few : l.silent ≤ l.reads;
  hearing : Hearing g.L.Line.reads g.L.Line.writes (goes_on l.reads l.sent l.fn.heard.items) 0 l.fn.line bytes l.silent l.counter l.line;
  heard : l.heard.items ≡ l.fn.heard.items ++ bytes;
}
