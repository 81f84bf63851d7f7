-- Which questions are asked at once.
use Rattle.std.specs.Prelude.{◌≡◌, ℕ, List, Option, Some, None, Bool, true, false, ⊤}
use Rattle.cct_model.specs.lines.command.Command.{Command}
use Rattle.cct_model.specs.lines.command.Command.TheVariants.{Pay, Start}
use Rattle.cct_model.specs.terms.device.DeviceSetup.{DeviceSetup}
use Rattle.cct_live_survey.specs.declared.roll.Answered.{Answered}
use Rattle.cct_live_survey.specs.declared.roll.TheConstants.{MOST_FINDINGS}
use Rattle.cct_live_survey.specs.Roll.{AsksRoll, Rolled}
use Rattle.cct_live_service.specs.declared.asking.TheConstants.{MOST_QUESTIONS}

-- The most questions: all that are left at one address, or four.
abbrev pub most_asked : Option ℕ → ℕ
most_asked (Some addr) = MOST_FINDINGS
most_asked None = MOST_QUESTIONS

-- The address of the device that is asked before a command is decided: that of a payment or a
-- start.
abbrev pub asked_before : Command → Option ℕ
asked_before (Pay addr id count) = Some addr
asked_before (Start addr mask) = Some addr
asked_before c = None

-- whether nobody is asked
abbrev pub is_nobody : Option ℕ → Bool
is_nobody None = true
is_nobody (Some addr) = false

-- Nobody is asked.
abbrev pub IsNobody : Option ℕ → Type 0
IsNobody None = ⊤
IsNobody (Some addr) = ⊥

-- Over a link of which is known what an exchange gives: the device at an address was asked what is
-- left there, up to the first silence; or nobody was.
abbrev pub AsksAt : {L : Type 0} → (L → List ℕ → List ℕ → L → Type 0) → List DeviceSetup →
    Option ℕ → Rolled → L → Rolled
    → L → Type 0
AsksAt gives devices (Some addr) old before new after =
    (answered : Answered) × AsksRoll gives devices (Some addr) MOST_FINDINGS old before answered new
    after
AsksAt gives devices None old before new after = (new ≡ old) × (after ≡ before)
