-- What an audit of a capture leaves, by how it ends.
use Rattle.std.specs.Prelude.{◌≡◌, ℕ, List, ◌∷◌, ◌++◌, reverse, Option, Some, None, ⊤}
use Rattle.cct_script.specs.Source.{to_come}
use Rattle.cct_script.specs.declared.stops.ScriptStop.TheVariants as stop
use Rattle.cct_monitor.specs.declared.monitor.Monitor.{Monitor}
use Rattle.cct_monitor.specs.Monitor.{StandsFor}
use Rattle.cct_monitor.specs.Watches.{Came}
use Rattle.cct_audit.specs.declared.auditing.AuditEnd.{AuditEnd}
use Rattle.cct_audit.specs.declared.auditing.AuditEnd.TheVariants as ending
use Rattle.cct_audit.specs.Capture.{capture}
use Rattle.cct_audit.specs.Telling.{tells, told, told_last}

-- Reading failed.
abbrev pub IsUnread : AuditEnd → Type 0
IsUnread (ending.Stopped number stop.Unread) = ⊤
IsUnread how = ⊥

-- Writing broke off. It was in what the last tap made said, and all that was said at the taps
-- before it was written whole; or it was in what is said at the end.
pub data BreaksOff (bytes : List ℕ) (Breaks : List (List ℕ) → List (List ℕ) → Type 0) : List Came →
    Type 0 where
  at_tap : (c : Came) (before rest : List Came) → (capture bytes).came ≡ reverse (c ∷ before)
      ++ rest →
      Breaks (told before) (tells before c) → BreaksOff bytes Breaks (c ∷ before)
  at_end : (past : List Came) → capture bytes ≡ record { came = reverse past; refused = None } →
      Breaks (told past) (told_last past) → BreaksOff bytes Breaks past

-- What was written of a capture of these bytes, of which these were taken, and of which this came,
-- newest first: at its end all that is said, in its order; where a line is refused, what is said at
-- the taps before it; where reading fails, what is said at the taps whose lines stand whole in the
-- bytes taken.
abbrev pub Ends : AuditEnd → List ℕ → List ℕ → List Came → (List (List ℕ) → Type 0) →
    (List (List ℕ) → List (List ℕ) → Type 0)
    → Type 0
Ends ending.Done bytes taken past Written Breaks =
    (capture bytes ≡ record { came = reverse past; refused = None })
    × Written (told past ++ told_last past)
Ends (ending.Stopped number stop.Unread) bytes taken past Written Breaks =
    ((capture taken).came ≡ reverse past) × Written (told past)
Ends (ending.Stopped number (stop.Refused why)) bytes taken past Written Breaks =
    (capture bytes ≡ record {
      came = reverse past;
      refused =
          Some (record { number = number; why = why });
    })
    × Written (told past)
Ends ending.Unwritten bytes taken past Written Breaks = BreaksOff bytes Breaks past

-- An audit of a capture of these bytes: what it took of them, what came of it, newest first, for
-- which the monitor stands, and what was written. The bytes are those taken and those still to
-- come; a source that shows none is taken to have no more.
pub record Audited (bytes : List ℕ) (how : AuditEnd) (monitor : Monitor) (left : Option (List ℕ))
    (Written : List (List ℕ) → Type 0)
    (Breaks : List (List ℕ) → List (List ℕ) → Type 0) : Type 0 where
  pub taken : List ℕ
  pub past : List Came
  pub took : bytes ≡ taken ++ to_come left
  pub stands : StandsFor monitor past
  pub ends : Ends how bytes taken past Written Breaks
