-- What coins and bills are worth by their identifications, worked out by hand.
use Rattle.std.proofs.Common.{◌≡◌, [], ◌∷◌, map, Some, None, refl}
use Rattle.std.specs.Prelude.{codes}
use Rattle.cct_text_worth.specs.Worth.{bill_value, value_told}

figures_are_read : map value_told
    (codes "EU100A" ∷ codes "EU001A" ∷ codes "GB050B" ∷ codes "IT1K0A" ∷ codes "IT2K5A" ∷ codes "IT5K0A" ∷ codes "TR20KA"
    ∷ codes "TRK50A" ∷ codes "TRM10A" ∷ codes "TR1M0A" ∷ [])
    ≡ Some 100 ∷ Some 1 ∷ Some 50 ∷ Some 1000 ∷ Some 2500 ∷ Some 5000 ∷ Some 20000 ∷ Some 500 ∷ Some 100000 ∷ Some 1000000 ∷ []
figures_are_read = refl

-- more than the most, a part of a unit, nothing, figures that are none, no country, and a token
no_value : map value_told
    (codes "TR1M5A" ∷ codes "GB.20A" ∷ codes "EU000A" ∷ codes "EU1KKA" ∷ codes "eu100A" ∷ codes "E1100A" ∷ codes "TK001A"
    ∷ codes "......" ∷ [])
    ≡ None ∷ None ∷ None ∷ None ∷ None ∷ None ∷ None ∷ None ∷ []
no_value = refl

euro : bill_value (codes "EU0005A") 100 ≡ Some 500
euro = refl

euros : bill_value (codes "EU0500B") 100 ≡ Some 50000
euros = refl

yen : bill_value (codes "JP1000A") 1 ≡ Some 1000
yen = refl

no_factor : bill_value (codes "EU0005A") 0 ≡ None
no_factor = refl

no_figure : map (λ id. bill_value id 100) (codes "EU0000A" ∷ codes "TK0005A" ∷ []) ≡ None ∷ None ∷ []
no_figure = refl

too_much : bill_value (codes "EU9999A") 1000 ≡ None
too_much = refl

no_digits : bill_value (codes "EU1K00A") 1 ≡ None
no_digits = refl
