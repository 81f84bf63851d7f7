-- What a state wrote, by how its report or its script ended, and by the answer of the put of its
-- last line.
use Rattle.std.proofs.Common.{◌≡◌, ◌≢◌, ◌⊎◌, ℕ, Bool, true, List, [], ◌∷◌, ◌++◌, Option, Some, None, Result, Ok, Err, refl, sym, ◌∙◌, ap, subst}
use Rattle.std.proofs.Common.{inl, inr, eqb-true}
use Rattle.std.proofs.lemmas.List.{append-nil}
use Rattle.std.specs.Prelude.{reverse}
use Rattle.cct_edge.proofs.Chains.{Consumes-nil}
use Rattle.cct_edge.specs.declared.fault.Failed.{Failed}
use Rattle.cct_audit.specs.Writing.{WritesLines}
use Rattle.cct_audit.proofs.Puts as lines_put
use Rattle.cct_journal.specs.declared.refusal.OpenNo.{OpenNo}
use Rattle.cct_journal.specs.declared.refusal.OpenNo.TheVariants as opening
use Rattle.cct_model.specs.Text.{line_of}
use Rattle.cct_model.specs.lines.entry.Entry.{Entry}
use Rattle.cct_model.specs.lines.entry.Entry.TheVariants as entry
use Rattle.cct_model.specs.lines.entry.LineKind.{LineKind}
use Rattle.cct_model.specs.lines.entry.LineKind.TheVariants as kind
use Rattle.cct_model.specs.Script.{Refusal}
use Rattle.cct_model.specs.terms.device.Setup.{Setup}
use Rattle.cct_script.specs.Source.{OfBytes, to_come}
use Rattle.cct_script.proofs.Sources.{told_by}
use Rattle.cct_bench_state.specs.Books.{state_lines}
use Rattle.cct_bench_state.specs.Telling.{Tells}
use Rattle.cct_bench_state.specs.declared.telling.StateEnd.{StateEnd}
use Rattle.cct_bench_state.specs.declared.telling.StateEnd.TheVariants as telling
use Rattle.cct_text.specs.Writing.{Writes}
use Rattle.cct_bench.specs.Run.{last_entry, listed, status_by, status_of}
use Rattle.cct_bench.specs.State.{Gives, StateDisk, StateEnds, StateIs, Stated, TellsBy, gives_none, line_behind_state, stated_by}
use Rattle.cct_bench.specs.UpgradeScript.{ScriptSays, WasRead, WasStopped, upgrade_script}
use Rattle.cct_bench.specs.declared.ending.Ending.{Ending}
use Rattle.cct_bench.specs.declared.ending.Ending.TheVariants as ending
use Rattle.cct_bench.specs.declared.outcome.Status.{Status}
use Rattle.cct_bench.specs.declared.outcome.Status.TheVariants as status
use Rattle.cct_bench.specs.declared.play.TheConstants.{JOURNAL_BYTES}

-- a last line was put as it is for a state whose report ended so
abbrev pub PutsLast : {K : Type 0} → (K → Option (List ℕ)) → (K → List ℕ → Result (Unit {0}) Failed → K → Type 0) → K → K
    → Status → StateEnd → Type 0
PutsLast written puts out out1 s how =
    (answer : Result (Unit {0}) Failed) × Writes written puts out (line_behind_state how) answer out1
    × (s ≡ status_by answer (stated_by how))

pub puts_unread : {K : Type 0} (written : K → Option (List ℕ)) (puts : K → List ℕ → Result (Unit {0}) Failed → K → Type 0)
    (out out1 : K) (s : Status) (how : StateEnd) (why known : OpenNo) → how ≡ telling.Unread why → why ≡ known
    → PutsLast written puts out out1 s (telling.Unread known) → PutsLast written puts out out1 s how
puts_unread written puts out out1 s how why known is why_is put =
    subst (PutsLast written puts out out1 s) (sym is)
    (subst (λ x. PutsLast written puts out out1 s (telling.Unread x)) (sym why_is) put)

-- a script that ended before its first line did gives no setup
pub none_given : (how : Ending) (bytes taken : List ℕ) → gives_none how ≡ true → ScriptSays how bytes taken
    → Gives bytes None
none_given (ending.Refused number kind.Cut) bytes taken is says =
    subst (λ n. (upgrade_script bytes).refused ≡ Some (record { number = n; why = kind.Cut })) (eqb-true number 1 is) says
none_given how bytes taken is says = cc is

module _ (disk : StateDisk) (source_failed : Type 0) (bytes taken : List ℕ) where
  -- all lines were written, or up to a put that failed
  pub put_ends : (s : Status) (lines : List (List ℕ)) (answer : Result (Unit {0}) Failed)
      (writes : List (List ℕ) → Result (Unit {0}) Failed → Type 0) → StateIs disk source_failed bytes taken s lines
      → writes lines answer → StateEnds disk source_failed bytes taken (status_by answer s) writes
  put_ends s lines (Err failed) writes is wrote = (s, lines, failed, is, wrote)
  put_ends status.Done lines (Ok done) writes is wrote = (lines, is, wrote)
  put_ends status.ScriptRefused lines (Ok done) writes is wrote = (lines, is, wrote)
  put_ends status.ReadFault lines (Ok done) writes is wrote = (lines, is, wrote)
  put_ends status.DiskFault lines (Ok done) writes is wrote = (lines, is, wrote)
  put_ends status.DiskSize lines (Ok done) writes is wrote = (lines, is, wrote)
  put_ends status.JournalLost lines (Ok done) writes is wrote = (lines, is, wrote)
  put_ends s lines (Ok done) writes is wrote = absurd is

  module _ {K : Type 0} (written : K → Option (List ℕ)) (puts : K → List ℕ → Result (Unit {0}) Failed → K → Type 0) where
    -- a last line alone
    pub last_ends : (a b : K) (s : Status) (e : Entry) (answer : Result (Unit {0}) Failed)
        → StateIs disk source_failed bytes taken s (line_of e ∷ []) → Writes written puts a (e ∷ []) answer b
        → StateEnds disk source_failed bytes taken (status_by answer s) (λ lines r. WritesLines written puts a lines r b)
    last_ends a b s e answer is wrote =
        put_ends s (line_of e ∷ []) answer (λ lines r. WritesLines written puts a lines r b) is
        (lines_put.writes_entry written puts a b e answer wrote)

    -- nothing, and then a last line
    then_last : (a b c : K) (s : Status) (e : Entry) (answer : Result (Unit {0}) Failed)
        → StateIs disk source_failed bytes taken s (line_of e ∷ []) → WritesLines written puts a [] (Ok tt) b
        → Writes written puts b (e ∷ []) answer c
        → StateEnds disk source_failed bytes taken (status_by answer s) (λ lines r. WritesLines written puts a lines r c)
    then_last a b c s e answer is none wrote =
        put_ends s (line_of e ∷ []) answer (λ lines r. WritesLines written puts a lines r c) is
        (lines_put.writes_then written puts a b c [] (line_of e ∷ []) answer none
        (lines_put.writes_entry written puts b c e answer wrote))

    no_line : (a b : K) (answer : Result (Unit {0}) Failed) → Writes written puts a [] answer b
        → WritesLines written puts a [] answer b
    no_line a b answer wrote = record { put = wrote.put; told = wrote.told }

    -- a state, and then its last line
    pub behind : (a b c : K) (setup : Option Setup) (how : StateEnd) (answer : Result (Unit {0}) Failed)
        → disk.size ≡ JOURNAL_BYTES → Gives bytes setup → (how ≡ telling.Unread opening.Disk → disk.failed)
        → Tells disk.known setup how (λ lines r. WritesLines written puts a lines r b)
        → Writes written puts b (line_behind_state how) answer c
        → StateEnds disk source_failed bytes taken (status_by answer (stated_by how))
        (λ lines r. WritesLines written puts a lines r c)
    behind a b c setup telling.Done answer sized gives cause tells last =
        let lines = state_lines setup tells.1 (reverse tells.2) in
        put_ends status.Done lines answer (λ xs r. WritesLines written puts a xs r c)
        (setup, tells.0, tells.1, tells.2, sized, gives, tells.3, tells.4, refl)
        (subst (λ xs. WritesLines written puts a xs answer c) (append-nil lines)
        (lines_put.writes_then written puts a b c lines [] answer tells.5 (no_line b c answer last)))
    behind a b c setup telling.Unwritten (Ok done) sized gives cause tells last =
        let lines = state_lines setup tells.1 (reverse tells.2) in (
          status.Done,
          lines,
          tells.5,
          (setup, tells.0, tells.1, tells.2, sized, gives, tells.3, tells.4, refl),
          subst (λ k. WritesLines written puts a lines (Err tells.5) k) (sym last.put.1) tells.6,
        )
    behind a b c setup telling.Unwritten (Err failed) sized gives cause tells last = cc last.put.0
    behind a b c setup (telling.Unread opening.Disk) answer sized gives cause tells last =
        then_last a b c status.DiskFault entry.DiskFault answer (sized, cause refl, refl) tells last
    behind a b c setup (telling.Unread opening.Alien) answer sized gives cause tells last =
        then_last a b c status.JournalLost entry.JournalAlien answer (sized, inl (tells.0, refl)) tells.1 last
    behind a b c setup (telling.Unread (opening.BadRecord index)) answer sized gives cause tells last =
        then_last a b c status.JournalLost (entry.JournalBad index) answer
        (sized, inr (setup, index, gives, tells.0, refl)) tells.1 last

    -- a script that is read no further
    pub stop_ends : (a b : K) (how : Ending) (answer : Result (Unit {0}) Failed) → disk.size ≡ JOURNAL_BYTES
        → ScriptSays how bytes taken → (how ≡ ending.Unread → source_failed)
        → Writes written puts a (listed (last_entry how)) answer b
        → StateEnds disk source_failed bytes taken (status_by answer (status_of how))
        (λ lines r. WritesLines written puts a lines r b)
    stop_ends a b (ending.Refused number why) answer sized says failed wrote =
        last_ends a b status.ScriptRefused (entry.Line number why) answer
        (record { number = number; why = why }, sized, says, refl) wrote
    stop_ends a b ending.Unread answer sized says failed wrote =
        last_ends a b status.ReadFault entry.ReadFault answer (sized, says, failed refl, refl) wrote
    stop_ends a b how answer sized says failed wrote = absurd says

-- ---- the whole

-- what a fault in reading is may be reported otherwise
is_weaker : (disk : StateDisk) (F G : Type 0) (bytes taken : List ℕ) (s : Status) (lines : List (List ℕ)) → (F → G)
    → StateIs disk F bytes taken s lines → StateIs disk G bytes taken s lines
is_weaker disk F G bytes taken status.ReadFault lines more is = (is.0, is.1, more is.2, is.3)
is_weaker disk F G bytes taken status.Done lines more is = is
is_weaker disk F G bytes taken status.ScriptRefused lines more is = is
is_weaker disk F G bytes taken status.DiskFault lines more is = is
is_weaker disk F G bytes taken status.DiskSize lines more is = is
is_weaker disk F G bytes taken status.JournalLost lines more is = is
is_weaker disk F G bytes taken s lines more is = absurd is

pub weaker : (disk : StateDisk) (F G : Type 0) (bytes taken : List ℕ) (s : Status)
    (writes : List (List ℕ) → Result (Unit {0}) Failed → Type 0) → (F → G) → StateEnds disk F bytes taken s writes
    → StateEnds disk G bytes taken s writes
weaker disk F G bytes taken status.WriteFault writes more ends =
    (ends.0, ends.1, ends.2, is_weaker disk F G bytes taken ends.0 ends.1 more ends.3, ends.4)
weaker disk F G bytes taken status.OutOfMemory writes more ends = ends
weaker disk F G bytes taken status.Done writes more ends = ends
weaker disk F G bytes taken status.ReadFault writes more ends =
    (ends.0, is_weaker disk F G bytes taken status.ReadFault ends.0 more ends.1, ends.2)
weaker disk F G bytes taken status.ScriptRefused writes more ends = ends
weaker disk F G bytes taken status.DiskFault writes more ends = ends
weaker disk F G bytes taken status.DiskSize writes more ends = ends
weaker disk F G bytes taken status.JournalLost writes more ends = ends
weaker disk F G bytes taken s writes more ends = absurd ends.1

-- where the disk has another size, nothing is taken
pub other_size : (disk : StateDisk) (source_failed : Type 0) (left0 : Option (List ℕ)) (result : Status) {K : Type 0}
    (written : K → Option (List ℕ)) (puts : K → List ℕ → Result (Unit {0}) Failed → K → Type 0) (a b : K) (len : ℕ)
    (answer : Result (Unit {0}) Failed) → len ≡ disk.size → disk.size ≢ JOURNAL_BYTES
    → Writes written puts a (entry.DiskSize len ∷ []) answer b → result ≡ status_by answer status.DiskSize
    → OfBytes left0 (λ bytes. Stated disk source_failed bytes result left0 (λ lines r. WritesLines written puts a lines r b))
other_size disk source_failed left0 result written puts a b len answer is other wrote ends = (
  to_come left0,
  told_by left0 left0 [] (Consumes-nil left0),
  record {
    taken = [];
    took = refl;
    ends = subst (λ s. StateEnds disk source_failed (to_come left0) [] s (λ lines r. WritesLines written puts a lines r b))
        (sym ends)
        (last_ends disk source_failed (to_come left0) [] written puts a b status.DiskSize (entry.DiskSize len) answer
        (other, refl, ap (λ n. line_of (entry.DiskSize n) ∷ []) is) wrote);
  },
)

module _ (disk : StateDisk) (source_failed : Type 0) (left0 left : Option (List ℕ)) (result : Status)
    (writes : List (List ℕ) → Result (Unit {0}) Failed → Type 0) where
  -- where a line of the script is refused, or it isn't read to its end
  pub script_stopped : (how : Ending)
      → ((bytes taken : List ℕ) → ScriptSays how bytes taken → StateEnds disk source_failed bytes taken result writes)
      → OfBytes left0 (λ bytes. WasStopped bytes left how)
      → OfBytes left0 (λ bytes. Stated disk source_failed bytes result left writes)
  script_stopped how ends stopped =
      let stop = stopped.2 in (
        stopped.0,
        stopped.1,
        record { taken = stop.taken; took = stop.took; ends = ends stopped.0 stop.taken stop.says },
      )

  -- where it is read
  pub script_read : (setup : Setup)
      → ((bytes taken : List ℕ) → Gives bytes (Some setup) → StateEnds disk source_failed bytes taken result writes)
      → OfBytes left0 (λ bytes. WasRead bytes left setup)
      → OfBytes left0 (λ bytes. Stated disk source_failed bytes result left writes)
  script_read setup ends read =
      let whole = read.2 in (
        read.0,
        read.1,
        record { taken = whole.taken; took = whole.took; ends = ends read.0 whole.taken whole.says },
      )

-- without memory nothing was reported
pub state_no_memory : (disk : StateDisk) (source_failed : Type 0) (left : Option (List ℕ))
    (writes : List (List ℕ) → Result (Unit {0}) Failed → Type 0) → writes [] (Ok tt)
    → OfBytes left (λ bytes. Stated disk source_failed bytes status.OutOfMemory left writes)
state_no_memory disk source_failed left writes none =
    (to_come left, told_by left left [] (Consumes-nil left), record { taken = []; took = refl; ends = (refl, none) })
