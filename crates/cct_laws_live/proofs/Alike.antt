-- Two pasts with the same jobs and the same records: a host does the same after both, whatever the devices met.
use Rattle.std.proofs.Common.{◌≡◌, ℕ, ◌==◌, Bool, true, false, cond, List, [], ◌∷◌, ◌++◌, refl, sym, ap, ◌∙◌}
use Rattle.cct_model.specs.terms.device.DeviceSetup.{DeviceSetup}
use Rattle.cct_model.specs.lines.record.Record.{Record}
use Rattle.cct_model.specs.lines.entry.Entry.{Entry}
use Rattle.cct_model.specs.lines.entry.Entry.TheVariants as entry
use Rattle.cct_model.specs.Exchange.{asked, asks_of}
use Rattle.cct_model.specs.Line.{Line, accepted, inhibited, alien, fell, reset, exchange, scanned, put, taken, ended, restarted, dispensed}
use Rattle.cct_model.specs.Job.{job, begun, with_line}
use Rattle.cct_model.specs.Records.{records, owner_in}
use Rattle.cct_model.specs.Transcript.{doses_of, got_by, heard_by_devices, lines_of, met, own, pending, sale_lines, sale_own, scan_lines, scan_own}
use Rattle.cct_model.proofs.Doses.{job_undosed}

-- two pasts have the same jobs and the same records
pub record Alike (past other : List Entry) : Type 0 where
  pub recorded : records past ≡ records other
  pub devices : (d : DeviceSetup) → job (lines_of d past) ≡ job (lines_of d other)
  pub scan : job (scan_lines past) ≡ job (scan_lines other)
  pub sale : job (sale_lines past) ≡ job (sale_lines other)

-- one line more
abbrev pub SameJob : List Line → List Line → Type 0
SameJob lines others = job lines ≡ job others

pub line_same : (l : Line) (lines others : List Line) → SameJob lines others → SameJob (l ∷ lines) (l ∷ others)
line_same (taken c) lines others same = ap (begun c) same
line_same (ended end) lines others same = refl
line_same restarted lines others same = refl
line_same (exchange q y) lines others same = ap (with_line (exchange q y)) same
line_same (scanned check addr rest) lines others same = ap (with_line (scanned check addr rest)) same
line_same (put r) lines others same = ap (with_line (put r)) same
line_same (accepted c) lines others same = same
line_same (inhibited place) lines others same = same
line_same alien lines others same = same
line_same fell lines others same = same
line_same reset lines others same = same
line_same (dispensed count) lines others same = same

lines_same : (front lines others : List Line) → SameJob lines others → SameJob (front ++ lines) (front ++ others)
lines_same [] lines others same = same
lines_same (l ∷ front) lines others same = line_same l (front ++ lines) (front ++ others) (lines_same front lines others same)

-- an exchange, and what a device did in it
dosed : (d : DeviceSetup) (past : List Entry) (sent : List ℕ) → SameJob (doses_of d past sent ++ lines_of d past) (lines_of d past)
dosed d past sent =
    job_undosed d.body d.serial (met d past) (asks_of d (heard_by_devices (pending past) sent)) (lines_of d past)

wire_same : (here : Bool) (l : Line) (first second lines others : List Line) → SameJob (first ++ lines) (second ++ others) →
    SameJob ((cond here (l ∷ []) [] ++ first) ++ lines) ((cond here (l ∷ []) [] ++ second) ++ others)
wire_same true l first second lines others same = line_same l (first ++ lines) (second ++ others) same
wire_same false l first second lines others same = same

put_same : (addr : ℕ) (r : Record) (before after : List Record) (lines others : List Line) → before ≡ after →
    SameJob lines others →
    SameJob (cond (owner_in before r == addr) (put r ∷ []) [] ++ lines) (cond (owner_in after r == addr) (put r ∷ []) [] ++ others)
put_same addr r before after lines others recorded same =
    ap (λ rs. job (cond (owner_in rs r == addr) (put r ∷ []) [] ++ lines)) recorded
    ∙ lines_same (cond (owner_in after r == addr) (put r ∷ []) []) lines others same

-- one entry more
device_same : (d : DeviceSetup) (past other : List Entry) (e : Entry) → Alike past other →
    SameJob (lines_of d (e ∷ past)) (lines_of d (e ∷ other))
device_same d past other (entry.Wire addr sent piece) alike =
    wire_same (addr == d.addr) (exchange (asked d.kind sent) (got_by d sent piece)) (doses_of d past sent)
    (doses_of d other sent) (lines_of d past) (lines_of d other)
    (dosed d past sent ∙ alike.devices d ∙ sym (dosed d other sent))
device_same d past other (entry.Put r) alike =
    put_same d.addr r (records past) (records other) (lines_of d past) (lines_of d other) alike.recorded (alike.devices d)
device_same d past other (entry.Kept r) alike =
    put_same d.addr r (records past) (records other) (lines_of d past) (lines_of d other) alike.recorded (alike.devices d)
device_same d past other (entry.Accepted addr c) alike =
    lines_same (own d [] (entry.Accepted addr c)) (lines_of d past) (lines_of d other) (alike.devices d)
device_same d past other (entry.Inhibited addr place) alike =
    lines_same (own d [] (entry.Inhibited addr place)) (lines_of d past) (lines_of d other) (alike.devices d)
device_same d past other (entry.Alien addr) alike =
    lines_same (own d [] (entry.Alien addr)) (lines_of d past) (lines_of d other) (alike.devices d)
device_same d past other (entry.Fell addr) alike =
    lines_same (own d [] (entry.Fell addr)) (lines_of d past) (lines_of d other) (alike.devices d)
device_same d past other (entry.Reset addr) alike =
    lines_same (own d [] (entry.Reset addr)) (lines_of d past) (lines_of d other) (alike.devices d)
device_same d past other (entry.Taken c) alike =
    lines_same (own d [] (entry.Taken c)) (lines_of d past) (lines_of d other) (alike.devices d)
device_same d past other (entry.Ended addr end) alike =
    lines_same (own d [] (entry.Ended addr end)) (lines_of d past) (lines_of d other) (alike.devices d)
device_same d past other (entry.Crash n) alike = refl
device_same d past other e alike = alike.devices d

more_recorded : (past other : List Entry) (e : Entry) → records past ≡ records other →
    records (e ∷ past) ≡ records (e ∷ other)
more_recorded past other (entry.Put r) same = ap (λ rs. r ∷ rs) same
more_recorded past other (entry.Kept r) same = ap (λ rs. r ∷ rs) same
more_recorded past other e same = same

pub alike_entry : (past other : List Entry) (e : Entry) → Alike past other → Alike (e ∷ past) (e ∷ other)
alike_entry past other e alike = record {
  recorded = more_recorded past other e alike.recorded;
  devices = λ d. device_same d past other e alike;
  scan = lines_same (scan_own e) (scan_lines past) (scan_lines other) alike.scan;
  sale = lines_same (sale_own e) (sale_lines past) (sale_lines other) alike.sale;
}

pub alike_same : (past : List Entry) → Alike past past
alike_same past = record { recorded = refl; devices = λ d. refl; scan = refl; sale = refl }

pub alike_chain : (past other third : List Entry) → Alike past other → Alike other third → Alike past third
alike_chain past other third first second = record {
  recorded = first.recorded ∙ second.recorded;
  devices = λ d. first.devices d ∙ second.devices d;
  scan = first.scan ∙ second.scan;
  sale = first.sale ∙ second.sale;
}

pub alike_back : (past other : List Entry) → Alike past other → Alike other past
alike_back past other alike = record {
  recorded = sym alike.recorded;
  devices = λ d. sym (alike.devices d);
  scan = sym alike.scan;
  sale = sym alike.sale;
}
