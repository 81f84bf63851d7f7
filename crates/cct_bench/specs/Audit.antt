-- What an audit of the bench leaves: what it took of its capture, and what it wrote, by its status.
use Rattle.std.specs.Prelude.{◌≡◌, ◌⊎◌, ℕ, List, [], ◌∷◌, ◌++◌, map, length, reverse, Option, Some}
use Rattle.std.specs.Prelude.{None, IfSome, ⊤}
use Rattle.std.specs.List.{All, Contains, filter}
use Rattle.cct_model.specs.terms.device.DeviceSetup.{DeviceSetup}
use Rattle.cct_model.specs.terms.device.Setup.{Setup}
use Rattle.cct_model.specs.lines.entry.Entry.{Entry}
use Rattle.cct_model.specs.lines.entry.Entry.TheVariants as entry
use Rattle.cct_model.specs.Honest.{HonestPast}
use Rattle.cct_model.specs.Script.{Refusal}
use Rattle.cct_model.specs.Setup.{IsSoundSetup}
use Rattle.cct_model.specs.Text.{line_of}
use Rattle.cct_monitor.specs.declared.monitor.Monitor.{Monitor}
use Rattle.cct_audit_taps.specs.declared.money.Money.{Money}
use Rattle.cct_monitor.specs.declared.watched.Family.TheVariants.{Acceptor, QuietAcceptor}
use Rattle.cct_monitor.specs.Monitor.{StandsFor}
use Rattle.cct_monitor.specs.Once.{is_between, is_of_at}
use Rattle.cct_monitor.specs.Spans.{spans}
use Rattle.cct_audit_taps.specs.Taps.{quiet_shown, shown}
use Rattle.cct_monitor.specs.Watches.{Came, Watch, all_told, finally_of_all}
use Rattle.cct_laws.specs.Law.{IsOf}
use Rattle.cct_laws_any_host.specs.Claims.{IsPlain, IsQuietSpan, IsToldQuiet, IsToldWhole, IsTrue}
use Rattle.cct_laws_any_host.specs.Claims.{IsWatchOf, IsWatched, looks, quiet_looks}
use Rattle.cct_laws_any_host.specs.Wild.{WildFrom, WildStep, taps}
use Rattle.cct_script.specs.Source.{to_come}
use Rattle.cct_audit.specs.Audit.{BreaksOff}
use Rattle.cct_audit.specs.Capture.{capture}
use Rattle.cct_audit.specs.Joined.{taps_among, watches_in}
use Rattle.cct_audit.specs.Telling.{told, told_last}
use Rattle.cct_bench.specs.declared.outcome.Status.{Status}
use Rattle.cct_bench.specs.declared.outcome.Status.TheVariants as status

-- of an audit of a capture of these bytes, of which these were taken, and of which this came,
-- newest first
module _ (bytes taken : List ℕ) (past : List Came) (source_failed : Type 0) where
  -- The last line of an audit that isn't done, and its cause: a line of the capture is refused; or
  -- reading failed, and what came are the taps whose lines stand whole in the bytes taken.
  abbrev pub AuditCloses : Status → Entry → Type 0
  AuditCloses status.ScriptRefused line =
      (refusal : Refusal) × (capture bytes ≡ record { came = reverse past; refused = Some refusal })
      × (line ≡ entry.Line refusal.number refusal.why)
  AuditCloses status.ReadFault line =
      ((capture taken).came ≡ reverse past) × source_failed × (line ≡ entry.ReadFault)
  AuditCloses s line = ⊥

  -- What was written: all that the monitor says, in its order; or what it says up to there, and the
  -- last line; or a front of either, in which all that is said at the taps but the last one is
  -- whole. Without memory for the words nothing is.
  abbrev pub AuditEnds : Status → (List (List ℕ) → Type 0) →
      (List (List ℕ) → List (List ℕ) → Type 0) → Type 0
  AuditEnds status.Done Written Breaks =
      (capture bytes ≡ record { came = reverse past; refused = None })
      × Written (told past ++ told_last past)
  AuditEnds status.WriteFault Written Breaks =
      BreaksOff bytes Breaks past
      ⊎ ((s : Status) × (line : Entry) × AuditCloses s line
      × Breaks (told past) (line_of line ∷ []))
  AuditEnds status.OutOfMemory Written Breaks = (taken ≡ []) × Written []
  AuditEnds s Written Breaks =
      (line : Entry) × AuditCloses s line × Written (told past ++ line_of line ∷ [])

-- What an audit says of all that came, newest first, at its taps and at its end, is right.
pub record IsRightAudit (past : List Came) : Type 0 where
  -- Where the taps are those of a run of devices with any host, over a wire whose damage fails its
  -- check, and each device that is watched is one of them, watched as what it is, each line says
  -- what is true.
  pub is_true : (setup : Setup) (steps : List WildStep) (run : List Entry) → IsSoundSetup setup
      → All (IsWatched setup) (watches_in past) → WildFrom setup [] steps run → HonestPast run →
      taps run ≡ taps_among past
      → All (IsTrue setup run) (all_told past ++ finally_of_all past)
  -- Each span that such a run makes plain is reported as sure, with just the coins that the
  -- acceptor accepted between its readings.
  pub complete : (setup : Setup) (steps : List WildStep) (run : List Entry) (w : Watch)
      (d : DeviceSetup) → IsSoundSetup setup
      → WildFrom setup [] steps run → HonestPast run → taps run ≡ taps_among past →
      Contains (watches_in past) w
      → w.family ≡ Acceptor → IsOf setup d → IsWatchOf w d
      → All (λ span. IsPlain d run span → IsToldWhole d run (all_told past) span)
      (spans (looks d run))
  -- The same of an acceptor, of coins or of bills, that is watched for resets alone: each span in
  -- which no reset came.
  pub complete_quiet : (setup : Setup) (steps : List WildStep) (run : List Entry) (money : Money)
      (w : Watch) (d : DeviceSetup)
      → IsSoundSetup setup → WildFrom setup [] steps run → HonestPast run → taps run
      ≡ taps_among past
      → Contains (watches_in past) w → w.family ≡ QuietAcceptor money → IsOf setup d → IsWatchOf w d
      → All (λ span. IsQuietSpan d run span → IsToldQuiet d run (all_told past) span)
      (spans (quiet_looks money d run))
  -- Over any wire each span of each acceptor that is watched is said once.
  pub once : (w : Watch) (first last : ℕ) → Contains (watches_in past) w → w.family ≡ Acceptor
      → length (filter (is_of_at w.addr first last) (all_told past ++ finally_of_all past))
      ≡ length (filter (is_between first last)
      (spans (map (shown w.kind w.addr) (taps_among past))))
  pub once_quiet : (money : Money) (w : Watch) (first last : ℕ) → Contains (watches_in past) w →
      w.family ≡ QuietAcceptor money
      → length (filter (is_of_at w.addr first last) (all_told past ++ finally_of_all past))
      ≡ length (filter (is_between first last)
      (spans (map (quiet_shown money w.kind w.addr) (taps_among past))))

-- An audit of a capture of these bytes: what it took of them, what came of it, newest first, for
-- which the monitor is where one is given, and what it wrote, which is right. The bytes are those
-- taken and those still to come; a source that shows none is taken to have no more.
pub record AuditRan (bytes : List ℕ) (s : Status) (monitor : Option Monitor)
    (left : Option (List ℕ)) (source_failed : Type 0)
    (Written : List (List ℕ) → Type 0) (Breaks : List (List ℕ) → List (List ℕ) → Type 0) : Type 0
  where
    pub taken : List ℕ
    pub past : List Came
    pub took : bytes ≡ taken ++ to_come left
    pub ends : AuditEnds bytes taken past source_failed s Written Breaks
    pub right : IsRightAudit past
    pub stands : IfSome monitor (λ m. StandsFor m past)

-- An audit may end with this status.
abbrev pub IsOfAudit : Status → Type 0
IsOfAudit status.Done = ⊤
IsOfAudit status.ScriptRefused = ⊤
IsOfAudit status.ReadFault = ⊤
IsOfAudit status.WriteFault = ⊤
IsOfAudit s = ⊥
