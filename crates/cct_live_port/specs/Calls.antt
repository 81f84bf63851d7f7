-- What the calls of an exchange do on a line, one after another.
use Rattle.std.specs.Prelude.{◌≡◌, ◌⊎◌, ℕ, ◌+◌, ◌<◌, ◌≤◌, Bool, true, false, Option, Some, None}
use Rattle.std.specs.Prelude.{List, [], ◌++◌, Result, Ok, Err, length, take}
use Rattle.cct_edge.specs.declared.fault.Failed.{Failed}
use Rattle.cct_model_wire.specs.declared.wire.TheConstants.{MOST_HEARD}
use Rattle.cct_live_port.specs.Answer.{is_over}

-- The bytes that a read brought, or none if it failed.
abbrev pub came : Result ℕ Failed → List ℕ → Option (List ℕ)
came (Ok count) room = Some (take count room)
came (Err why) room = None

-- How many reads are made at most, where so many silent ones in a row are wanted.
abbrev pub most_reads : ℕ → ℕ
most_reads wanted = wanted + MOST_HEARD

-- Fewer reads in a row were silent than are wanted.
abbrev pub is_noisy : ℕ → List ℕ → ℕ → Type 0
is_noisy wanted bytes silent = silent < wanted

-- More is wanted of a reply to what was sent: it isn't over, and not so many reads in a row were
-- silent.
abbrev pub goes_on : ℕ → List ℕ → List ℕ → List ℕ → ℕ → Type 0
goes_on patience sent before bytes silent =
    (silent < patience) × (is_over sent (before ++ bytes) ≡ false)

-- Why no more is read.
abbrev pub Stops : ℕ → List ℕ → List ℕ → List ℕ → ℕ → ℕ → Type 0
Stops patience sent before bytes silent made =
    (is_over sent (before ++ bytes) ≡ true) ⊎ (silent ≡ patience) ⊎ (made ≡ most_reads patience)

-- Of a line of which is known what a read and a write do.
module _ {L : Type 0} (reads : L → Option (List ℕ) → L → Type 0)
    (writes : L → List ℕ → Result (Unit {0}) Failed → L → Type 0) where
  -- Reads, each made while more was wanted, by the bytes that had come and by how many of the last
  -- reads were silent. So many were silent in a row before the first of them. The bytes that came,
  -- how many of the last are silent, and how many reads they are.
  pub data Hearing (wants : List ℕ → ℕ → Type 0) (already : ℕ) (first : L) : List ℕ → ℕ → ℕ → L →
      Type 0 where
    unread : Hearing wants already first [] already 0 first
    paused : (bytes : List ℕ) (silent made : ℕ) (line next : L) →
        Hearing wants already first bytes silent made line
        → wants bytes silent → reads line (Some []) next →
        Hearing wants already first bytes (silent + 1) (made + 1) next
    brought : (bytes piece : List ℕ) (silent made : ℕ) (line next : L)
        → Hearing wants already first bytes silent made line → wants bytes silent → 0 < length piece
        → reads line (Some piece) next → Hearing wants already first (bytes ++ piece) 0 (made + 1)
        next

  -- Reads that ended with so many silent ones in a row, those before them counted.
  pub record Waits (already wanted : ℕ) (first last : L) : Type 0 where
    pub dropped : List ℕ
    pub silent : ℕ
    pub made : ℕ
    pub hearing : Hearing (is_noisy wanted) already first dropped silent made last
    pub enough : wanted ≤ silent
    pub few : made ≤ most_reads wanted

  -- Reads that didn't: one failed, or they were too many.
  pub data Unquiet (already wanted : ℕ) (first : L) : L → Type 0 where
    never : (dropped : List ℕ) (silent : ℕ) (last : L)
        → Hearing (is_noisy wanted) already first dropped silent (most_reads wanted) last
        → Unquiet already wanted first last
    broke : (dropped : List ℕ) (silent made : ℕ) (line last : L)
        → Hearing (is_noisy wanted) already first dropped silent made line → reads line None last
        → Unquiet already wanted first last

  -- Reads of what follows what was sent, where this is heard already: until the reply is over, so
  -- many reads in a row were silent, or they were too many. So many of the last are silent.
  pub record Listens (patience : ℕ) (sent before : List ℕ) (first : L) (bytes : List ℕ) (silent : ℕ)
      (last : L)
      : Type 0 where
    pub made : ℕ
    pub hearing : Hearing (goes_on patience sent before) 0 first bytes silent made last
    pub stops : Stops patience sent before bytes silent made

  -- Such reads, and then one that failed.
  pub record Breaks (patience : ℕ) (sent before : List ℕ) (first last : L) : Type 0 where
    pub bytes : List ℕ
    pub silent : ℕ
    pub made : ℕ
    pub line : L
    pub hearing : Hearing (goes_on patience sent before) 0 first bytes silent made line
    pub fails : reads line None last

  -- After so many silent reads in a row these bytes were written once.
  pub record Sends (already wanted : ℕ) (sent : List ℕ) (first asked : L) : Type 0 where
    pub quiet : L
    pub waits : Waits already wanted first quiet
    pub writes_once : writes quiet sent (Ok tt) asked

  -- Nothing was written, as the line wasn't silent for so long; or these bytes were once, after it
  -- was, and that failed.
  pub data FailsToSend (already wanted : ℕ) (sent : List ℕ) (first : L) : L → Type 0 where
    waiting : (last : L) → Unquiet already wanted first last →
        FailsToSend already wanted sent first last
    sending : (quiet last : L) (why : Failed) → Waits already wanted first quiet →
        writes quiet sent (Err why) last
        → FailsToSend already wanted sent first last

  -- After so many silent reads in a row these bytes were written once, and then these were read. So
  -- many of the last reads are silent.
  pub record Converses (already wanted patience : ℕ) (sent before : List ℕ) (first : L)
      (bytes : List ℕ) (silent : ℕ)
      (last : L) : Type 0 where
    pub asked : L
    pub sends : Sends already wanted sent first asked
    pub listens : Listens patience sent before asked bytes silent last

  -- An exchange that failed, by whether all of these bytes were written: it failed to send them, or
  -- to hear what came.
  pub data FailsAt (already wanted patience : ℕ) (sent before : List ℕ) (first : L) : Bool → L →
      Type 0 where
    unsent : (last : L) → FailsToSend already wanted sent first last
        → FailsAt already wanted patience sent before first false last
    unheard : (asked last : L) → Sends already wanted sent first asked →
        Breaks patience sent before asked last
        → FailsAt already wanted patience sent before first true last
