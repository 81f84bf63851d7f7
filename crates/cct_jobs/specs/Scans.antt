-- The lines of a scan, newest first, that a job represents.
use Rattle.std.specs.Prelude.{◌≡◌, ◌<◌, nat_le, ℕ, true, false, List, [], length, Some}
use Rattle.std.specs.List.{list_any}
use Rattle.cct_model.specs.terms.wire.CheckKind.{CheckKind}
use Rattle.cct_model.specs.terms.wire.CheckKind.TheVariants.{Simple, Crc}
use Rattle.cct_model.specs.lines.device_set.DeviceSet.{DeviceSet}
use Rattle.cct_model.specs.lines.entry.Listed.{Listed}
use Rattle.cct_model.specs.DeviceSet.{has}
use Rattle.cct_model.specs.Line.{Line}
use Rattle.cct_model.specs.Scan.{echoes, end_of_scan, found, is_due, noted, poll_after, polls}
use Rattle.cct_model.specs.Scan.{scan_row, scan_tries}
use Rattle.cct_jobs.specs.declared.job.Need.{Need}
use Rattle.cct_jobs.specs.declared.job.Need.TheVariants as need
use Rattle.cct_jobs.specs.declared.job.Job.{Job}
use Rattle.cct_jobs.specs.declared.job.Job.TheVariants.{ScanCallsSimple, ScanCallsCrc}
use Rattle.cct_jobs.specs.declared.job.Job.TheVariants.{ScanPollsSimple, ScanPollsCrc, Done}

-- No device was polled.
pub record Unpolled (since : List Line) : Type 0 where
  pub unpolled : (addr : ℕ) → nat_le 2 addr ≡ true → list_any (polls addr) since ≡ false
  pub unfound : (check : CheckKind) (addr : ℕ) → found check since addr ≡ false

-- A scan that calls all devices under the simple check: no call had a good echo.
pub record CallsSimple (failed : ℕ) (since : List Line) : Type 0 where
  pub no_simple : list_any (echoes Simple 0) since ≡ false
  pub no_crc : list_any (echoes Crc 0) since ≡ false
  pub nothing : noted since ≡ []
  pub fresh : Unpolled since
  pub quiet : scan_tries Crc since ≡ 0
  pub counted : failed ≡ scan_tries Simple since
  pub few : failed < 3

-- A set has the addresses that are due.
abbrev pub HasDue : DeviceSet → List Line → Type 0
HasDue due since = (addr : ℕ) → addr < 256 → has due addr ≡ is_due since addr

-- A scan that calls all devices under the CRC: the call under the simple check had a good echo.
pub record CallsCrc (failed : ℕ) (due : DeviceSet) (since : List Line) : Type 0 where
  pub simple : list_any (echoes Simple 0) since ≡ true
  pub no_crc : list_any (echoes Crc 0) since ≡ false
  pub due_is : HasDue due since
  pub fresh : Unpolled since
  pub quiet : scan_tries Simple since ≡ 0
  pub counted : failed ≡ scan_tries Crc since
  pub few : failed < 3

-- A scan that called all devices under both checks: which addresses are due, and which devices were
-- found.
pub record Lists (due : DeviceSet) (listed : Listed) (since : List Line) : Type 0 where
  pub simple : list_any (echoes Simple 0) since ≡ true
  pub crc : list_any (echoes Crc 0) since ≡ true
  pub due_is : HasDue due since
  pub found_simple : (addr : ℕ) → addr < 256 → has listed.simple addr ≡ found Simple since addr
  pub found_crc : (addr : ℕ) → addr < 256 → has listed.crc addr ≡ found Crc since addr
  pub whole_simple : length listed.simple.members ≡ 256
  pub whole_crc : length listed.crc.members ≡ 256
  pub quiet_simple : scan_tries Simple since ≡ 0
  pub quiet_crc : scan_tries Crc since ≡ 0

-- A scan that polls an address under a check.
pub record Polls (check : CheckKind) (addr : ℕ) (due : DeviceSet) (listed : Listed)
    (since : List Line) : Type 0 where
  pub lists : Lists due listed since
  pub next : poll_after since ≡ Some (check, addr)
  pub device : nat_le 2 addr ≡ true

-- A job represents the lines of a scan since its command was taken.
abbrev pub StandsScan : Job → List Line → Type 0
StandsScan (ScanCallsSimple failed) since = CallsSimple failed since
StandsScan (ScanCallsCrc failed due) since = CallsCrc failed due since
StandsScan (ScanPollsSimple addr due listed) since = Polls Simple addr due listed since
StandsScan (ScanPollsCrc addr due listed) since = Polls Crc addr due listed since
StandsScan (Done end) since = end_of_scan since ≡ Some end
StandsScan job since = ⊥

-- A scan polls an address under a check next.
pub record PollsNext (since : List Line) : Type 0 where
  pub check : CheckKind
  pub addr : ℕ
  pub row_is : scan_row since ≡ Some (check, addr)

-- What a scan needs, by its lines: it polls an address, or it ended so.
abbrev pub NeedsScan : Need → List Line → Type 0
NeedsScan need.Exchange since = PollsNext since
NeedsScan (need.Put entry) since = ⊥
NeedsScan (need.Done end) since = end_of_scan since ≡ Some end
