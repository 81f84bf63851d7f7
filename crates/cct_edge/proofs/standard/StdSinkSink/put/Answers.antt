-- A write moves the bytes that it took from what is left to what is done.
use Rattle.std.proofs.Common.{◌++◌}
use Rattle.std.specs.Prelude.{take}
use Rattle.cct_edge.proofs.Chains.{Appends-trans}
use Rattle.cct_edge.proofs.Pieces.{rest_moves}
use Rattle.cct_edge.proofs.standard.StdSinkSink.put.Goals as goal

pub loop-rest-preserved : goal.loop-rest-preserved
loop-rest-preserved g c =
    let before = c.loop-rest.invariant in
    record {
      done = before.done ++ take c.in-Ok.count c.loop-rest.rest.now;
      piece_is = rest_moves c.args.piece.now before.done c.loop-rest.rest.now c.in-Ok.count before.piece_is;
      written = Appends-trans _ _ _ before.done (take c.in-Ok.count c.loop-rest.rest.now)
          before.written c.in-Ok.ensures.bytes;
      no_fault = before.no_fault;
    }
