-- What came is the front of what was left, and nothing came only where nothing was left.
use Rattle.std.proofs.Common.{arith}
use Rattle.std.proofs.lemmas.List.{length-drop, nil_from_length, take_rest}
use Rattle.cct_edge.proofs.Pieces.{piece_is_front}
use Rattle.cct_edge.proofs.memory.MemSourceSource.take.Goals as goal

pub returns-clause-bytes : goal.returns-clause-bytes
returns-clause-bytes c =
    rw (← c.self.view_is) (
      piece_is_front c.self.inside.bytes.items c.copy_front-count.new.room c.self.inside.taken c.copy_front-count.result
          (rw (c.deref.ensures.value, take_rest c.self.inside.bytes.items c.self.inside.taken)
          at c.copy_front-count.ensures.copied),
      λ none open_room. nil_from_length _ (simp length-drop (omega arith)),
    )
