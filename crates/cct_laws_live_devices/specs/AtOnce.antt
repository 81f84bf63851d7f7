-- A line whose devices answer at once: it keeps all that is asked of an honest line.
use Rattle.std.specs.Prelude.{◌≡◌, ℕ, suc, List, [], ◌∷◌, Option, Some, Result, Ok}
use Rattle.cct_edge.specs.declared.fault.Failed.{Failed}
use Rattle.cct_model.specs.terms.device.Setup.{Setup}
use Rattle.cct_model.specs.lines.command.WireFault.TheVariants as fault
use Rattle.cct_laws_live_devices.specs.Asked.{Moment, asks, heard_by, met_in}
use Rattle.cct_laws_live_devices.specs.Devices.{Befell}

-- Nothing is under way, and so many reads were silent; or these bytes are, at least one.
pub data AtOnce : Type 0 where
  still : (silent : ℕ) (history : List Moment) → AtOnce
  under_way : (byte : ℕ) (bytes : List ℕ) (history : List Moment) → AtOnce

-- What is under way.
abbrev pub coming_on : AtOnce → List ℕ
coming_on (still silent history) = []
coming_on (under_way byte bytes history) = byte ∷ bytes

-- How many reads in a row were silent.
abbrev pub silent_on : AtOnce → ℕ
silent_on (still silent history) = silent
silent_on (under_way byte bytes history) = 0

-- What happened to the devices and what bytes they heard.
abbrev pub history_on : AtOnce → List Moment
history_on (still silent history) = history
history_on (under_way byte bytes history) = history

-- The line on which these bytes are under way, if any.
abbrev pub with_bytes : List ℕ → List Moment → AtOnce
with_bytes [] history = still 0 history
with_bytes (byte ∷ bytes) history = under_way byte bytes history

-- What the line gives back of what is sent, and what the devices answer.
abbrev pub answer_on : Setup → AtOnce → List ℕ → List ℕ
answer_on setup line sent = heard_by setup (λ d. met_in d (history_on line)) fault.Clear sent

-- A read brings all that is under way; or it is silent, and meanwhile things happen to the devices.
abbrev pub reads_on : Setup → AtOnce → Option (List ℕ) → AtOnce → Type 0
reads_on setup (still silent history) (Some []) next =
    (later : List Moment) × Befell setup history later × (next ≡ still (suc silent) later)
reads_on setup (under_way byte bytes history) (Some piece) next =
    (piece ≡ byte ∷ bytes) × (next ≡ still 0 history)
reads_on setup line came next = ⊥

-- What is written where nothing is under way the devices hear, and their answer is under way.
abbrev pub writes_on : Setup → AtOnce → List ℕ → Result (Unit {0}) Failed → AtOnce → Type 0
writes_on setup (still silent history) sent (Ok done) next =
    next ≡ with_bytes (answer_on setup (still silent history) sent) (asks sent ∷ history)
writes_on setup line sent answer next = ⊥
