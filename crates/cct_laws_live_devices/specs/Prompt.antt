-- A line on which each device answers within a longest time, or never: what is heard in an exchange
-- was then answered to what was sent in it.
use Rattle.std.specs.Prelude.{◌≡◌, ◌≢◌, ℕ, suc, ◌<◌, ◌≤◌, Bool, true, Option, Some, List, [], ◌++◌}
use Rattle.std.specs.Prelude.{Result, Ok, length}
use Rattle.cct_edge.specs.declared.fault.Failed.{Failed}
use Rattle.cct_model.specs.terms.device.Setup.{Setup}
use Rattle.cct_model.specs.lines.entry.Entry.{Entry}
use Rattle.cct_model.specs.lines.entry.Entry.TheVariants as entry
use Rattle.cct_model.specs.Honest.{IsHonestFault}
use Rattle.cct_model.specs.Transcript.{heard_by_devices, pending}
use Rattle.cct_laws_live_devices.specs.World.{AnswersAt}
use Rattle.cct_live_port.specs.declared.port.Port.{Port}
use Rattle.cct_live_port.specs.Answer.{answered}
use Rattle.cct_live_port.specs.Port.{echo_of, line_of, options_of, settled, silent_of}

module _ {L : Type 0} (reads : L → Option (List ℕ) → L → Type 0)
    (writes : L → List ℕ → Result (Unit {0}) Failed → L → Type 0) where
  -- A line on which bytes are under way: those that are still to come, and how many reads were
  -- silent since the last one came or some were sent. Times are counted in silent reads.
  pub record IsPrompt (longest : ℕ) (coming : L → List ℕ) (silent : L → ℕ)
      (answer : L → List ℕ → List ℕ) : Type 0 where
    -- What comes was under way, in its order.
    pub brings : (old new : L) (piece : List ℕ) → reads old (Some piece) new → 0 < length piece
        → coming old ≡ piece ++ coming new
    -- A silent read is counted, and changes nothing.
    pub counts : (old new : L) → reads old (Some []) new → (coming new ≡ coming old)
        × (silent new ≡ suc (silent old))
    -- Each device answers within the longest time, or never.
    pub fast : (line : L) → coming line ≢ [] → silent line < longest
    -- Where nothing is under way, what is sent brings its answer: the echo, where the line gives
    -- it, and what the devices say.
    pub brought : (old new : L) (sent : List ℕ) → writes old sent (Ok tt) new → coming old ≡ [] →
        coming new ≡ answer old sent

  -- Of what was sent nothing comes after a whole reply: the other devices are silent. The line
  -- gives the echo, or the port does.
  abbrev pub OneReplies : Bool → (L → List ℕ → List ℕ) → Type 0
  OneReplies echoes answer =
      (old new : L) (sent front rest : List ℕ) → writes old sent (Ok tt) new → answer old sent
      ≡ front ++ rest
      → answered sent (echo_of echoes sent ++ front) ≡ true → rest ≡ []

  -- Over a port that was answered last nothing is under way, and of the silent reads that it counts
  -- each was one.
  pub record IsQuiet (coming : L → List ℕ) (silent : L → ℕ) (port : Port L) : Type 0 where
    pub nothing : settled port ≡ true → coming (line_of port) ≡ []
    pub counted : silent_of port ≤ silent (line_of port)

  -- What is heard in an exchange is a front of what was answered to what was sent in it, after the
  -- echo; or nothing, where the port failed.
  pub record IsOwnAnswer (coming : L → List ℕ) (answer : L → List ℕ → List ℕ) (old : Port L)
      (sent heard : List ℕ) : Type 0 where
    pub quiet : L
    pub rest : List ℕ
    pub none_under_way : coming quiet ≡ []
    pub front : echo_of (options_of old).echoes sent ++ answer quiet sent ≡ heard ++ rest

-- What was heard in an exchange is what devices answer in a world with perhaps another fault for
-- it, by which they hear the same.
pub record InSomeWorld (setup : Setup) (past : List Entry) (addr : ℕ) (sent heard : List ℕ) : Type 0
  where
    pub faults : List Entry
    pub answers : AnswersAt setup (faults ++ past) (entry.Wire addr sent heard)
    pub honest : IsHonestFault (pending (faults ++ past)) sent
    pub same : heard_by_devices (pending (faults ++ past)) sent ≡ heard_by_devices (pending past) sent
