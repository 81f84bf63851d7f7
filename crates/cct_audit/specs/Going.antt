-- What an audit keeps from line to line.
use Rattle.std.specs.Prelude.{◌≡◌, ◌≤◌, ◌*◌, ℕ, List, [], ◌++◌, reverse, Option}
use Rattle.std.specs.List.{slice_split}
use Rattle.std.specs.Io.KnownBytes.{Consumes}
use Rattle.cct_model.specs.Script.{is_line_feed}
use Rattle.cct_script.specs.Giving.{Standing}
use Rattle.cct_script.specs.Scripts.{IsNext}
use Rattle.cct_monitor.specs.declared.monitor.Monitor.{Monitor}
use Rattle.cct_monitor.specs.Monitor.{StandsFor, tap_count}
use Rattle.cct_monitor.specs.Watches.{Came}
use Rattle.cct_audit.specs.Capture.{Capture, Stage, capture, capture_from, tapping, watching}
use Rattle.cct_audit.specs.Reading.{Watches}
use Rattle.cct_audit.specs.Telling.{told}

-- A capture of which this came first, oldest first.
abbrev pub with_came : List Came → Capture → Capture
with_came came rest = record { came = came ++ rest.came; refused = rest.refused }

-- What was taken so far: whatever follows, the capture says what came, newest first, and then what
-- the lines from here on say.
pub record Going (left0 left : Option (List ℕ)) (held : List ℕ) (number : ℕ) (stage : Stage)
    (past : List Came) : Type 0 where
  pub taken : List ℕ
  pub consumed : Consumes left0 left taken
  pub says : (more : List ℕ) → capture (taken ++ more)
      ≡ with_came (reverse past) (capture_from number stage
      (slice_split is_line_feed (held ++ more)))

-- What the reading of lines before `begin` keeps: the capture goes on with what came, which the
-- monitor watches, and which made nothing said.
pub record Opens (left0 left : Option (List ℕ)) (standing : Standing) (number : ℕ)
    (monitor taps : Monitor) (Source : Type 0)
    : Type 0 where
  pub past : List Came
  pub going : Going left0 left standing.held number (watching past) past
  pub watches : Watches monitor past
  pub nothing : told past ≡ []
  pub next : IsNext number standing
  pub same : tap_count monitor ≡ tap_count taps
  pub source : Source

-- What the reading of taps keeps, of any capture that goes so where it begins: it goes on, the
-- monitor represents what came, and what that made said was written.
pub record Taps (first : ℕ) (left1 left : Option (List ℕ)) (standing1 standing : Standing)
    (number : ℕ)
    (monitor1 monitor : Monitor) (Written : List (List ℕ) → Type 0) (Source Sink : Type 0) : Type 0
  where
    pub going : (left0 : Option (List ℕ)) (begun : List Came) →
        Going left0 left1 standing1.held first tapping begun
        → StandsFor monitor1 begun → told begun ≡ [] → (past : List Came)
        × Going left0 left standing.held number tapping past
        × StandsFor monitor past × Written (told past)
    pub next : IsNext number standing
    pub few : tap_count monitor ≤ 2 * number
    pub source : Source
    pub sink : Sink
