-- When a job ends for want of an answer.
use Rattle.std.specs.Prelude.{◌≡◌, ◌<◌, ◌⊎◌, ℕ, suc, List, [], ◌∷◌, Option, Some, None, ⊤}
use Rattle.cct_model.specs.terms.wire.CheckKind.TheVariants.{Simple, Crc}
use Rattle.cct_model.specs.terms.request.Request.{Request}
use Rattle.cct_model.specs.lines.entry.End.TheVariants.{NoAnswer}
use Rattle.cct_model.specs.Reply.{Reply}
use Rattle.cct_model.specs.Request.{header_of}
use Rattle.cct_model.specs.Line.{Line, exchange, put, ended}
use Rattle.cct_model.specs.Job.{Job, free, works, job, tries}
use Rattle.cct_model.specs.Scan.{scan_tries}

-- An exchange without the wanted reply is one failed try more of the header that it asked; an
-- answered one ends what is counted.
abbrev pub failed_by : Option Request → Option Reply → List Line → ℕ
failed_by (Some q) None since = suc (tries (header_of q) since)
failed_by asked got since = 0

-- How many tries in succession, of the same row, a job's newest exchange ends without the wanted
-- reply.
abbrev pub failed_tries : List Line → ℕ
failed_tries [] = 0
failed_tries (exchange asked got ∷ since) = failed_by asked got since
failed_tries (put entry ∷ since) = 0
failed_tries (line ∷ since) = failed_tries since

-- The failed tries of a job, if there is one.
abbrev pub failed_in : Job → ℕ
failed_in free = 0
failed_in (works command since) = failed_tries since

-- A job ends for want of an answer exactly after its third failed try in succession: that end is
-- after three, and any other line after fewer.
abbrev pub TriesAt : List Line → Line → Type 0
TriesAt past (ended NoAnswer) = failed_in (job past) ≡ 3
TriesAt past line = failed_in (job past) < 3

-- A scan has fewer than three failed tries in succession of the address poll, under either check.
abbrev pub HasFewTries : Job → Type 0
HasFewTries free = ⊤
HasFewTries (works command since) = (scan_tries Simple since < 3) × (scan_tries Crc since < 3)

-- A scan has three of them, under one of the checks.
abbrev pub HasThreeTries : Job → Type 0
HasThreeTries free = ⊥
HasThreeTries (works command since) = (scan_tries Simple since ≡ 3) ⊎ (scan_tries Crc since ≡ 3)

-- A scan ends for want of an answer exactly after the third failed try in succession of an address
-- poll.
abbrev pub ScanTriesAt : List Line → Line → Type 0
ScanTriesAt past (ended NoAnswer) = HasThreeTries (job past)
ScanTriesAt past line = HasFewTries (job past)
