-- What an audit onto a page answers and writes.
use Rattle.std.specs.Prelude.{◌≡◌, ◌+◌, ◌<◌, ℕ, List, ◌++◌, Option, None, length}
use Rattle.cct_audit.specs.Writing.{bytes_of}
use Rattle.cct_bench.specs.declared.outcome.Status.{Status}
use Rattle.cct_bench.specs.Audit.{AuditRan, IsOfAudit}
use Rattle.cct_bench.specs.Status.{code_of}

-- These bytes are those of these lines.
abbrev pub AreLines : List ℕ → List (List ℕ) → Type 0
AreLines page lines = page ≡ bytes_of lines

-- These bytes are those of the first of these lines, and of the others a front: in so much room
-- there is none for the rest.
abbrev pub AreFront : ℕ → List ℕ → List (List ℕ) → List (List ℕ) → Type 0
AreFront room page whole cut =
    (front : List ℕ) × (rest : List ℕ) × (page ≡ bytes_of whole ++ front)
    × (bytes_of cut ≡ front ++ rest)
    × (room < length page + length rest)

-- An audit of this capture, with so much room, answered this code and wrote these bytes: what an
-- audit by the bench says of it, which is right, since reading it can't fail.
pub record IsAudited (capture : List ℕ) (code room : ℕ) (page : List ℕ) : Type 0 where
  pub status : Status
  pub coded : code ≡ code_of status
  -- It never lacks memory.
  pub one : IsOfAudit status
  pub left : Option (List ℕ)
  pub ran : AuditRan capture status None left ⊥ (AreLines page) (AreFront room page)

-- The same, as one word: what it says is unfolded only where it is proved.
unfoldable pub Audits : List ℕ → ℕ → ℕ → List ℕ → Type 0
Audits capture code room page = IsAudited capture code room page
