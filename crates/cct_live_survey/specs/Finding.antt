-- In what a device isn't as the setup says: the line that shows it, and the commands that are
-- withheld for it.
use Rattle.std.specs.Prelude.{ℕ, ◌==◌, ◌&&◌, nat_le, Bool, true, false, List, [], ◌∷◌, ◌++◌, map}
use Rattle.std.specs.Prelude.{if◌then◌else◌, Option, Some, None, codes}
use Rattle.std.specs.List.{list_any}
use Rattle.cct_model_lines.specs.Text.{number_text}
use Rattle.cct_model_lines.specs.declared.command.Command.{Command}
use Rattle.cct_model_lines.specs.declared.command.Command.TheVariants.{Pay, Start}
use Rattle.cct_model_lines.specs.Setting.{has_place, is_place}
use Rattle.cct_live_survey.specs.declared.finding.Finding.{Finding}
use Rattle.cct_live_survey.specs.declared.finding.Finding.TheVariants as finding
use Rattle.cct_live_survey.specs.declared.withholding.Withheld.{Withheld}
use Rattle.cct_live_survey.specs.declared.withholding.Withheld.TheVariants.{OtherCoin, OtherSerial}

-- A byte as it is shown: itself where it is printing or a space, else a question mark.
abbrev pub shown : ℕ → ℕ
shown byte = if nat_le 32 byte && nat_le byte 126 then byte else 63

-- A line begins with a device and a word.
abbrev pub begun : ℕ → List ℕ → List ℕ
begun addr word = codes "device " ++ number_text addr ++ word

-- A category that was reported, or a dash.
abbrev pub category_text : Option (List ℕ) → List ℕ
category_text (Some text) = map shown text
category_text None = codes "-"

-- What a finding reports, without a line feed.
unfoldable pub finding_text : Finding → List ℕ
finding_text (finding.Absent addr) = begun addr (codes " absent")
finding_text (finding.Kind addr category) = begun addr (codes " kind ") ++ category_text category
finding_text (finding.Serial addr number) = begun addr (codes " serial ") ++ number_text number
finding_text (finding.Coin addr place id) = begun addr (codes " coin ") ++ number_text place ++ 32 ∷ [] ++ map shown id

-- The line of a finding.
abbrev pub finding_line : Finding → List ℕ
finding_line f = finding_text f ++ 10 ∷ []

-- The device at an address gave another serial number.
abbrev pub tells_other_serial : ℕ → Finding → Bool
tells_other_serial addr (finding.Serial there number) = there == addr
tells_other_serial addr f = false

-- The device at an address gave another coin at a place that a mask has.
abbrev pub tells_other_coin : ℕ → ℕ → Finding → Bool
tells_other_coin addr mask (finding.Coin there place id) =
    (there == addr) && is_place place && has_place mask place
tells_other_coin addr mask f = false

-- Why a command isn't to be given to the host, by what was found: no payment goes to a device that
-- gave another serial number, and no start to an acceptor that gave another coin at a place of its
-- mask.
abbrev pub withheld_by : List Finding → Command → Option Withheld
withheld_by findings (Pay addr id count) =
    if list_any (tells_other_serial addr) findings then Some OtherSerial else None
withheld_by findings (Start addr mask) =
    if list_any (tells_other_coin addr mask) findings then Some OtherCoin else None
withheld_by findings command = None
