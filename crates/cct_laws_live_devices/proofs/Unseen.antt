-- Hosts don't see what happens to the devices nor the faults of the wire: a past is like what they
-- report of it.
use Rattle.std.proofs.Common.{◌≡◌, ◌==◌, Bool, true, false, cond, List, [], ◌∷◌, ◌++◌, refl, ap, ◌∙◌}
use Rattle.cct_model.specs.terms.device.DeviceSetup.{DeviceSetup}
use Rattle.cct_model.specs.lines.entry.Entry.{Entry}
use Rattle.cct_model.specs.lines.entry.Entry.TheVariants as entry
use Rattle.cct_model.specs.Line.{Line}
use Rattle.cct_model.specs.Line as line
use Rattle.cct_model.specs.Job.{job}
use Rattle.cct_model.specs.Records.{records}
use Rattle.cct_model.specs.Transcript.{lines_of, sale_lines, scan_lines}
use Rattle.cct_laws_live.proofs.Alike.{Alike, alike_entry, alike_same}
use Rattle.cct_laws_live_devices.specs.World.{told}

-- a line that is at an address, and doesn't change its job
quiet : (here : Bool) (l : Line) (lines others : List Line) → job (l ∷ lines) ≡ job lines → job lines ≡ job others →
    job (cond here (l ∷ []) [] ++ lines) ≡ job others
quiet true l lines others same like = same ∙ like
quiet false l lines others same like = like

by_devices : (e : Entry) (past other : List Entry) → records (e ∷ past) ≡ records past →
    scan_lines (e ∷ past) ≡ scan_lines past → sale_lines (e ∷ past) ≡ sale_lines past →
    ((d : DeviceSetup) → job (lines_of d (e ∷ past)) ≡ job (lines_of d other)) → Alike past other → Alike (e ∷ past) other
by_devices e past other recorded scan sale devices alike = record {
  recorded = recorded ∙ alike.recorded;
  devices = devices;
  scan = ap job scan ∙ alike.scan;
  sale = ap job sale ∙ alike.sale;
}

pub alike_told : (past : List Entry) → Alike past (told past)
alike_told [] = alike_same []
alike_told (entry.Accepted addr c ∷ past) =
    by_devices (entry.Accepted addr c) past (told past) refl refl refl
    (λ d. quiet (addr == d.addr) (line.accepted c) (lines_of d past) (lines_of d (told past)) refl ((alike_told past).devices d))
    (alike_told past)
alike_told (entry.Inhibited addr place ∷ past) =
    by_devices (entry.Inhibited addr place) past (told past) refl refl refl
    (λ d. quiet (addr == d.addr) (line.inhibited place) (lines_of d past) (lines_of d (told past)) refl ((alike_told past).devices d))
    (alike_told past)
alike_told (entry.Alien addr ∷ past) =
    by_devices (entry.Alien addr) past (told past) refl refl refl
    (λ d. quiet (addr == d.addr) line.alien (lines_of d past) (lines_of d (told past)) refl ((alike_told past).devices d))
    (alike_told past)
alike_told (entry.Fell addr ∷ past) =
    by_devices (entry.Fell addr) past (told past) refl refl refl
    (λ d. quiet (addr == d.addr) line.fell (lines_of d past) (lines_of d (told past)) refl ((alike_told past).devices d))
    (alike_told past)
alike_told (entry.Reset addr ∷ past) =
    by_devices (entry.Reset addr) past (told past) refl refl refl
    (λ d. quiet (addr == d.addr) line.reset (lines_of d past) (lines_of d (told past)) refl ((alike_told past).devices d))
    (alike_told past)
alike_told (entry.Held addr place ∷ past) =
    by_devices (entry.Held addr place) past (told past) refl refl refl (alike_told past).devices (alike_told past)
alike_told (entry.NoFall addr ∷ past) =
    by_devices (entry.NoFall addr) past (told past) refl refl refl (alike_told past).devices (alike_told past)
alike_told (entry.Jammed addr ∷ past) =
    by_devices (entry.Jammed addr) past (told past) refl refl refl (alike_told past).devices (alike_told past)
alike_told (entry.NoJam addr ∷ past) =
    by_devices (entry.NoJam addr) past (told past) refl refl refl (alike_told past).devices (alike_told past)
alike_told (entry.Fault f ∷ past) =
    by_devices (entry.Fault f) past (told past) refl refl refl (alike_told past).devices (alike_told past)
alike_told (entry.Forged addr ∷ past) =
    by_devices (entry.Forged addr) past (told past) refl refl refl (alike_told past).devices (alike_told past)
alike_told (e ∷ past) = alike_entry past (told past) e (alike_told past)
