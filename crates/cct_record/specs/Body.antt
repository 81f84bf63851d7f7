-- The body of a record: 31 bytes, and one spelling for each record.
use Rattle.std.specs.Prelude.{◌≡◌, ℕ, ◌-◌, ◌<◌, ◌≤◌, ◌^◌, List, [], ◌∷◌, ◌++◌, length, flat_map}
use Rattle.std.specs.Prelude.{replicate, All, ⊤}
use Rattle.std.specs.Int.{w16, w32, to_le_bytes}
use Rattle.cct_model_lines.specs.terms.coin.Coin.{Coin}
use Rattle.cct_model_lines.specs.terms.coin.TheConstants.{EVENTS}
use Rattle.cct_model_lines.specs.Request.{three_bytes}
use Rattle.cct_model_lines.specs.declared.record.Record.{Record}
use Rattle.cct_model_lines.specs.declared.record.Record.TheVariants.{Epoch, Reading, Broken}
use Rattle.cct_model_lines.specs.declared.record.Record.TheVariants.{EpochEnd, Opened, Closed, Odd}
use Rattle.cct_model_lines.specs.declared.record.Record.TheVariants.{Sold}

-- A coin's coin place and sorter path.
abbrev pub coin_fields : Coin → List ℕ
coin_fields coin = coin.place ∷ coin.path ∷ []

-- How many coins there are, and then the coins, oldest first.
abbrev pub coins_fields : List Coin → List ℕ
coins_fields coins = length coins ∷ flat_map coin_fields coins

-- The number of the kind, and then the fields of the record, each number low byte first.
unfoldable pub fields_of : Record → List ℕ
fields_of (Epoch addr mask accepts) = (1 ∷ addr ∷ to_le_bytes w16 mask) ++ three_bytes accepts
fields_of (Reading addr counter lost accepts posted) =
    (2 ∷ addr ∷ counter ∷ three_bytes lost) ++ three_bytes accepts ++ coins_fields posted
fields_of (Broken addr mask_seen counter lost accepts posted) =
    (3 ∷ addr ∷ counter ∷ to_le_bytes w16 mask_seen) ++ three_bytes lost ++ three_bytes accepts
    ++ coins_fields posted
fields_of (EpochEnd addr) = 4 ∷ addr ∷ []
fields_of (Opened id addr count life) = (5 ∷ addr ∷ to_le_bytes w32 id) ++ count ∷ three_bytes life
fields_of (Closed id paid unpaid) = (6 ∷ to_le_bytes w32 id) ++ paid ∷ unpaid ∷ []
fields_of (Odd id life_before life_after) =
    (7 ∷ to_le_bytes w32 id) ++ three_bytes life_before ++ three_bytes life_after
fields_of (Sold id price) = (8 ∷ to_le_bytes w32 id) ++ to_le_bytes w32 price

-- Fields, filled up with 0 to a body.
abbrev pub filled : List ℕ → List ℕ
filled fields = fields ++ replicate (31 - length fields) 0

-- The body of a record: its fields, filled up with 0.
unfoldable pub body_of : Record → List ℕ
body_of r = filled (fields_of r)

-- A coin place is in a body as 1 to 255.
abbrev pub IsPlaced : Coin → Type 0
IsPlaced coin = 1 ≤ coin.place

-- What a record has to be so that it can be spelt: the coin places of posted coins are at least 1;
-- life counts, accept counters and numbers of lost coins are below 2 ^ 24. All else about a record
-- of the code can be spelt.
abbrev pub Encodable : Record → Type 0
Encodable (Epoch addr mask accepts) = accepts < 2 ^ 24
Encodable (Reading addr counter lost accepts posted) =
    (lost < 2 ^ 24) × (accepts < 2 ^ 24) × All IsPlaced posted
Encodable (Broken addr mask_seen counter lost accepts posted) =
    (lost < 2 ^ 24) × (accepts < 2 ^ 24) × All IsPlaced posted
Encodable (Opened id addr count life) = life < 2 ^ 24
Encodable (Odd id life_before life_after) = (life_before < 2 ^ 24) × (life_after < 2 ^ 24)
Encodable r = ⊤

-- The numbers of a coin fit their bytes.
pub record FitsBytes (coin : Coin) : Type 0 where
  pub place : coin.place < 256
  pub path : coin.path < 256

-- Coins that fit into a body.
pub record AreByteCoins (coins : List Coin) : Type 0 where
  pub few : length coins ≤ EVENTS
  pub placed : All IsPlaced coins
  pub fit : All FitsBytes coins

-- A record whose numbers fit their bytes: only such a record has a body.
abbrev pub InRange : Record → Type 0
InRange (Epoch addr mask accepts) = (addr < 256) × (mask < 2 ^ 16) × (accepts < 2 ^ 24)
InRange (Reading addr counter lost accepts posted) =
    (addr < 256) × (counter < 256) × (lost < 2 ^ 24) × (accepts < 2 ^ 24)
    × AreByteCoins posted
InRange (Broken addr mask_seen counter lost accepts posted) =
    (addr < 256) × (mask_seen < 2 ^ 16) × (counter < 256)
    × (lost < 2 ^ 24) × (accepts < 2 ^ 24) × AreByteCoins posted
InRange (EpochEnd addr) = addr < 256
InRange (Opened id addr count life) = (id < 2 ^ 32) × (addr < 256) × (count < 256) × (life < 2 ^ 24)
InRange (Closed id paid unpaid) = (id < 2 ^ 32) × (paid < 256) × (unpaid < 256)
InRange (Odd id life_before life_after) =
    (id < 2 ^ 32) × (life_before < 2 ^ 24) × (life_after < 2 ^ 24)
InRange (Sold id price) = (id < 2 ^ 32) × (price < 2 ^ 32)

-- A body that is the spelling of no record.
pub record IsRefused (body : List ℕ) : Type 0 where
  pub none : (r : Record) → InRange r → body_of r ≡ body → ⊥

-- A record and the body that spells it.
pub record Spells (r : Record) (body : List ℕ) : Type 0 where
  pub in_range : InRange r
  pub spelt : body_of r ≡ body
