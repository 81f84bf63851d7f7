-- A job ends for want of an answer exactly after the third failed try in succession, over all lives.
use Rattle.std.proofs.Common.{◌≡◌, ◌<◌, List, [], ◌∷◌, ◌++◌, refl, sym, ap, subst}
use Rattle.cct_model.specs.terms.device.DeviceSetup.{DeviceSetup}
use Rattle.cct_model.specs.lines.entry.End.TheVariants.{NoAnswer}
use Rattle.cct_model.specs.lines.entry.Entry.{Entry}
use Rattle.cct_model.specs.lines.entry.Entry.TheVariants as entry
use Rattle.cct_model.specs.Claims.{AllPast}
use Rattle.cct_model.specs.Job.{job}
use Rattle.cct_model.specs.Line.{Line, accepted, dispensed, ended}
use Rattle.cct_model.specs.Transcript.{lines_of, onto, scan_lines, scan_own}
use Rattle.cct_laws.specs.Law.{IsOf, lines_in}
use Rattle.cct_laws.specs.Tries.{HasFewTries, ScanTriesAt, TriesAt, failed_in}
use Rattle.cct_laws.proofs.jobs.Scans.{legal_few_polls, legal_scans}
use Rattle.cct_laws.proofs.jobs.Tries.{legal_few_tries, legal_tries}
use Rattle.cct_laws_live.specs.Live.{EachLive, shown}
use Rattle.cct_laws_live.specs.Tries.{SeenTriesAt}
use Rattle.cct_laws_live.proofs.Alike.{line_same}
use Rattle.cct_laws_live.proofs.Carrying.{by_law}
use Rattle.cct_laws_live.proofs.Followed.{alike_shown}
use Rattle.cct_laws_live.proofs.Undosed.{lines_shown, undosed}

-- the job of lines without what devices did in exchanges
job_undosed : (lines : List Line) → job lines ≡ job (undosed lines)
job_undosed [] = refl
job_undosed (dispensed count ∷ lines) = job_undosed lines
job_undosed (accepted coin ∷ lines) = job_undosed lines
job_undosed (l ∷ lines) = line_same l lines (undosed lines) (job_undosed lines)

-- tries go by the job alone
tries_over : (past other : List Line) (l : Line) → job past ≡ job other → TriesAt past l → TriesAt other l
tries_over past other (ended NoAnswer) same at = subst (λ at_work. failed_in at_work ≡ 3) same at
tries_over past other l same at = subst (λ at_work. failed_in at_work < 3) same at

pub tries_undosed : (lines : List Line) → AllPast TriesAt lines → AllPast TriesAt (undosed lines)
tries_undosed [] all = tt
tries_undosed (dispensed count ∷ lines) all = tries_undosed lines all.1
tries_undosed (accepted coin ∷ lines) all = tries_undosed lines all.1
tries_undosed (l ∷ lines) all =
    (tries_over lines (undosed lines) l (job_undosed lines) all.0, tries_undosed lines all.1)

pub tries_seen : (lines : List Line) → AllPast TriesAt (undosed lines) → AllPast SeenTriesAt lines
tries_seen [] all = tt
tries_seen (dispensed count ∷ lines) all = (tt, tries_seen lines all)
tries_seen (accepted coin ∷ lines) all = (tt, tries_seen lines all)
tries_seen (l ∷ lines) all =
    (tries_over (undosed lines) lines l (sym (job_undosed lines)) all.0, tries_seen lines all.1)

tries_at_first : (lines : List Line) → AllPast TriesAt lines → AllPast SeenTriesAt lines
tries_at_first lines all = tries_seen lines (tries_undosed lines all)

seen_undosed : (lines : List Line) → AllPast SeenTriesAt lines → AllPast TriesAt (undosed lines)
seen_undosed [] all = tt
seen_undosed (dispensed count ∷ lines) all = seen_undosed lines all.1
seen_undosed (accepted coin ∷ lines) all = seen_undosed lines all.1
seen_undosed (l ∷ lines) all =
    (tries_over lines (undosed lines) l (job_undosed lines) all.0, seen_undosed lines all.1)

pub live_tries : EachLive (λ capacity setup transcript. (d : DeviceSetup) → IsOf setup d →
    AllPast SeenTriesAt (lines_in d transcript))
live_tries =
    by_law (λ capacity setup past. (d : DeviceSetup) → IsOf setup d → AllPast SeenTriesAt (lines_of d past))
    (λ capacity setup steps transcript sound range legal d own.
    tries_at_first (lines_in d transcript) (legal_tries capacity setup steps transcript d sound own legal))
    (λ capacity setup past all d own.
    tries_seen (lines_of d (shown past))
    (subst (AllPast TriesAt) (lines_shown d past) (seen_undosed (lines_of d past) (all d own))))

pub live_few_tries : EachLive (λ capacity setup transcript. (d : DeviceSetup) → IsOf setup d →
    failed_in (job (lines_in d transcript)) < 3)
live_few_tries =
    by_law (λ capacity setup past. (d : DeviceSetup) → IsOf setup d → failed_in (job (lines_of d past)) < 3)
    (λ capacity setup steps transcript sound range legal d own.
    legal_few_tries capacity setup steps transcript d sound own legal)
    (λ capacity setup past few d own.
    subst (λ at_work. failed_in at_work < 3) ((alike_shown past).devices d) (few d own))

-- the lines of scans are the same
pub scans_shown : (past : List Entry) → scan_lines past ≡ scan_lines (shown past)
scans_shown [] = refl
scans_shown (entry.Fault f ∷ past) = scans_shown past
scans_shown (entry.Forged addr ∷ past) = scans_shown past
scans_shown (e ∷ past) = ap (λ ls. scan_own e ++ ls) (scans_shown past)

pub live_scans : EachLive (λ capacity setup transcript. AllPast ScanTriesAt (scan_lines (onto [] transcript)))
live_scans =
    by_law (λ capacity setup past. AllPast ScanTriesAt (scan_lines past))
    (λ capacity setup steps transcript sound range legal. legal_scans capacity setup steps transcript sound legal)
    (λ capacity setup past all. subst (AllPast ScanTriesAt) (scans_shown past) all)

pub live_few_polls : EachLive (λ capacity setup transcript. HasFewTries (job (scan_lines (onto [] transcript))))
live_few_polls =
    by_law (λ capacity setup past. HasFewTries (job (scan_lines past)))
    (λ capacity setup steps transcript sound range legal. legal_few_polls capacity setup steps transcript sound legal)
    (λ capacity setup past few. subst (λ ls. HasFewTries (job ls)) (scans_shown past) few)
