-- The table holds what it is to hold, at each of its 256 places, by computing.
use Rattle.std.proofs.Common.{◌≡◌, ℕ, ◌*◌, ◌<◌, eqb, get_or, refl}
use Rattle.std.proofs.lemmas.Bool.{eqb-true}
use Rattle.cct_check.specs.declared.crc.TheConstants.{TABLE}
use Rattle.cct_check.specs.Check.{crc_after}
use Rattle.cct_check.proofs.Registers.{below}

pub entry : (place : ℕ) → place < 256 → get_or TABLE place 0 ≡ crc_after (place * 256) 0
unfolding crc_after
entry place within = eqb-true _ _ (below (λ n. eqb (get_or TABLE n 0) (crc_after (n * 256) 0)) 256 refl place within)
