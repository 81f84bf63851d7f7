-- What a link gave, one exchange after another, against what was reported of it.
use Rattle.std.specs.Prelude.{◌≡◌, ℕ, Bool, true, false, List, [], ◌∷◌}
use Rattle.cct_model.specs.terms.device.DeviceSetup.{DeviceSetup}
use Rattle.cct_model.specs.lines.entry.Entry.{Entry}
use Rattle.cct_model.specs.lines.entry.Entry.TheVariants as entry
use Rattle.cct_model.specs.Exchange.{asks_of}
use Rattle.cct_laws_live_devices.specs.Questions.{is_question}
use Rattle.cct_laws_live_devices.specs.World.{is_told}

-- An entry is a live host's, and shows no exchange.
abbrev pub is_besides : Entry → Bool
is_besides (entry.Wire addr sent heard) = false
is_besides e = is_told e

-- Bytes ask no device more than who it is, and which coins it knows.
abbrev pub IsAsking : List ℕ → Type 0
IsAsking sent = (d : DeviceSetup) → is_question (asks_of d sent) ≡ true

-- Over a link of which is known what an exchange gives: it gave the exchanges that these entries
-- show, newest first, in their order, each once. Between them it gave only questions, which no
-- entry reports.
pub data Chain {L : Type 0} (gives : L → List ℕ → List ℕ → L → Type 0) (first : L) : List Entry →
    L → Type 0 where
  not_begun : Chain gives first [] first
  gave_told : (past : List Entry) (addr : ℕ) (sent heard : List ℕ) (line next : L) →
      Chain gives first past line
      → gives line sent heard next → Chain gives first (entry.Wire addr sent heard ∷ past) next
  told_besides : (past : List Entry) (e : Entry) (line : L) → Chain gives first past line →
      is_besides e ≡ true
      → Chain gives first (e ∷ past) line
  gave_question : (past : List Entry) (sent heard : List ℕ) (line next : L) →
      Chain gives first past line → IsAsking sent
      → gives line sent heard next → Chain gives first past next
