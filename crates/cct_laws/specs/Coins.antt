-- All coins that fell out of a hopper, and all that the records of its closed orders say were paid.
use Rattle.std.specs.Prelude.{ℕ, suc, ◌+◌, List, [], ◌∷◌}
use Rattle.cct_model.specs.Line.{Line, fell, put}
use Rattle.cct_model.specs.Sums.{coins_paid}

-- How many coins ever fell.
abbrev pub all_fallen : List Line → ℕ
all_fallen [] = 0
all_fallen (fell ∷ past) = suc (all_fallen past)
all_fallen (line ∷ past) = all_fallen past

-- How many coins all closed orders were paid.
abbrev pub all_paid : List Line → ℕ
all_paid [] = 0
all_paid (put entry ∷ past) = coins_paid entry + all_paid past
all_paid (line ∷ past) = all_paid past
