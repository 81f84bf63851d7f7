-- The places to which a put and a turn lead, and the bytes that begin a half.
use Rattle.std.specs.Prelude.{ℕ, ◌+◌, true, not, Option, None, Some, List, [], ◌∷◌, ◌++◌, drop}
use Rattle.cct_model_lines.specs.declared.carry.Carry.{Carry}
use Rattle.cct_journal.specs.Start.{start_of}
use Rattle.cct_journal.specs.declared.place.Place.{Place}

-- The place after one more record.
abbrev pub after_put : Place → Place
after_put place = record {
  used = place.used + 1;
  second = place.second;
  generation = place.generation;
  base = place.base;
  carry = place.carry;
  other_open = place.other_open;
}

-- The place after the other half was begun, with the carry of all records.
abbrev pub after_turn : Place → Carry → Place
after_turn place carry = record {
  used = place.used;
  second = not place.second;
  generation = place.generation + 1;
  base = place.used;
  carry = carry;
  other_open = true;
}

-- The place that a turn led to, or that before, where there was none.
abbrev pub turned_or : Place → Option Place → Place
turned_or place None = place
turned_or place (Some turned) = turned

-- What is written after the gate of a half that begins: the rest of its start, and a shut gate in
-- its first slot.
abbrev pub behind_start : ℕ → ℕ → Carry → List ℕ
behind_start generation base carry = drop 1 (start_of generation base carry) ++ 0 ∷ []
