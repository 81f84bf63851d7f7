-- Plans: how an amount is paid out of trays of coins. These definitions know no table.
use Rattle.std.specs.Prelude.{◌≡◌, ℕ, ◌+◌, ◌*◌, ◌<◌, ◌≤◌, min, sum, ◌⊎◌, List, [], ◌∷◌, ⊤}
use Rattle.cct_model.specs.declared.change.Tray.{Tray}

-- The most coins that a plan takes of a tray: its stock, and no more than 255.
abbrev pub most_of : Tray → ℕ
most_of t = min t.stock 255

-- What so many coins of each tray are worth together.
abbrev pub worth : List Tray → List ℕ → ℕ
worth (t ∷ ts) (c ∷ cs) = c * t.value + worth ts cs
worth ts cs = 0

-- There is one count for each tray, at most what a plan takes of it.
abbrev pub AreWithin : List Tray → List ℕ → Type 0
AreWithin [] [] = ⊤
AreWithin (t ∷ ts) (c ∷ cs) = (c ≤ most_of t) × AreWithin ts cs
AreWithin ts cs = ⊥

-- A plan of an amount: one count for each tray, at most what a plan takes of it, worth the amount
-- together.
pub record IsPlan (trays : List Tray) (amount : ℕ) (counts : List ℕ) : Type 0 where
  pub within : AreWithin trays counts
  pub pays : worth trays counts ≡ amount

-- A plan is fewest where no plan has fewer coins.
pub record IsFewest (trays : List Tray) (amount : ℕ) (counts : List ℕ) : Type 0 where
  pub plan : IsPlan trays amount counts
  pub fewest : (other : List ℕ) → IsPlan trays amount other → sum counts ≤ sum other

-- One list of counts is the other, or has the greater count where they first differ.
abbrev pub ComesFirst : List ℕ → List ℕ → Type 0
ComesFirst (c ∷ cs) (o ∷ os) = (o < c) ⊎ ((o ≡ c) × ComesFirst cs os)
ComesFirst [] [] = ⊤
ComesFirst cs os = ⊥

-- The chosen plan: among the fewest, the one with the greatest count at the first tray, then at the
-- second, and so on.
pub record IsChosen (trays : List Tray) (amount : ℕ) (counts : List ℕ) : Type 0 where
  pub fewest : IsFewest trays amount counts
  pub first : (other : List ℕ) → IsFewest trays amount other → ComesFirst counts other

-- The amount has no plan.
abbrev pub HasNoPlan : List Tray → ℕ → Type 0
HasNoPlan trays amount = (counts : List ℕ) → IsPlan trays amount counts → ⊥

-- No plan has fewer than so many coins.
abbrev pub NoneFewer : List Tray → ℕ → ℕ → Type 0
NoneFewer trays amount count = (counts : List ℕ) → IsPlan trays amount counts → count ≤ sum counts
