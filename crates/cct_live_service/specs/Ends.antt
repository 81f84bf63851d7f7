-- By what a job is at its end.
use Rattle.std.specs.Prelude.{◌≡◌, Bool, true, false, ◌||◌, List, [], ◌∷◌}
use Rattle.cct_model.specs.lines.entry.End.TheVariants as end_of
use Rattle.cct_model.specs.lines.entry.Entry.{Entry}
use Rattle.cct_model.specs.lines.entry.Entry.TheVariants as entry_of
use Rattle.cct_live_service.specs.Told.{Told, entry}

-- An entry says that no job is left at its address: it has just ended, or there was none.
abbrev pub is_end : Entry → Bool
is_end (entry_of.Ended addr end) = true
is_end (entry_of.Idle addr) = true
is_end e = false

-- An entry says that a job ended for want of an answer.
abbrev pub is_unanswered : Entry → Bool
is_unanswered (entry_of.Ended addr end_of.NoAnswer) = true
is_unanswered e = false

-- An entry says that a round ended since a coin came while its acceptor was being read.
abbrev pub is_moved : Entry → Bool
is_moved (entry_of.Ended addr end_of.Moved) = true
is_moved e = false

-- Only entries that say that no job is left are such.
abbrev pub IsOfEnd : (Entry → Bool) → Type 0
IsOfEnd is_such = (e : Entry) → is_end e ≡ false → is_such e ≡ false

-- One of the entries among what is reported is such.
abbrev pub tells_some : (Entry → Bool) → List Told → Bool
tells_some is_such [] = false
tells_some is_such (entry e ∷ told) = is_such e || tells_some is_such told
tells_some is_such (what ∷ told) = tells_some is_such told

-- An entry among what is reported says that no job is left.
abbrev pub tells_end : List Told → Bool
tells_end = tells_some is_end

-- And one that a job ended for want of an answer.
abbrev pub tells_unanswered : List Told → Bool
tells_unanswered = tells_some is_unanswered

-- And one that a coin came while an acceptor was being read.
abbrev pub tells_moved : List Told → Bool
tells_moved = tells_some is_moved
