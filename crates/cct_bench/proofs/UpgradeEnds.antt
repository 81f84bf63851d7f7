-- How an upgrade ends, by what was read of its script and by what the journal on its disk was.
use Rattle.std.proofs.Common.{◌≡◌, ◌≢◌, ℕ, List, [], ◌∷◌, Option, Some, None, Result, Ok, Err, inl, inr, refl, sym, ◌∙◌, ap, subst}
use Rattle.std.proofs.Common.{arith}
use Rattle.std.specs.Prelude.{Bool, IfErr}
use Rattle.std.specs.Result.{IsOk}
use Rattle.cct_edge.specs.declared.fault.Failed.{Failed}
use Rattle.cct_edge.proofs.Chains.{Consumes-nil}
use Rattle.cct_model.specs.terms.device.Setup.{Setup}
use Rattle.cct_model.specs.lines.entry.Entry.{Entry}
use Rattle.cct_model.specs.lines.entry.Entry.TheVariants as entry
use Rattle.cct_model.specs.Script.{Refusal, Script}
use Rattle.cct_disk.specs.Disk.{Holds, LeavesOnly}
use Rattle.cct_host.specs.declared.refusal.UpgradeNo.{UpgradeNo}
use Rattle.cct_host.specs.declared.refusal.UpgradeNo.TheVariants as no
use Rattle.cct_bench.specs.Report.{IsOrMemory}
use Rattle.cct_bench.specs.Run.{last_entry, listed, status_by, status_of}
use Rattle.cct_script.specs.Source.{OfBytes, to_come}
use Rattle.cct_bench.specs.Upgrade.{AtMoments, ComesBack, ImageAnswers, MayGoForward, OldDisk, UpgradeCloses, UpgradeEnds, Upgraded}
use Rattle.cct_bench.specs.Upgrade.{told_entry, told_status}
use Rattle.cct_bench.specs.UpgradeScript.{ScriptSays, WasRead, WasStopped, upgrade_script}
use Rattle.cct_bench.specs.declared.ending.Ending.{Ending}
use Rattle.cct_bench.specs.declared.ending.Ending.TheVariants as ending
use Rattle.cct_bench.specs.declared.outcome.Status.{Status}
use Rattle.cct_bench.specs.declared.outcome.Status.TheVariants as status
use Rattle.cct_bench.specs.declared.play.TheConstants.{JOURNAL_BYTES}
use Rattle.cct_script.proofs.Sources.{told_by}

-- ---- a disk of which no call was made

module _ {D : Type 0} {honest : D → Bool} {seen : D → Option (List ℕ)} {may_leave : D → List ℕ → Type 0}
    {moment : D → ℕ} {left_since : D → ℕ → List ℕ → Type 0}
    (only_now : (disk : D) (c : List ℕ) → left_since disk (moment disk) c → may_leave disk c) where
  -- it leaves what it has
  same_leaves : (disk : D) (image : List ℕ) (P : List ℕ → Type 0) → Holds honest seen may_leave disk image → P image
      → LeavesOnly moment left_since disk disk P
  same_leaves disk image P holds has = record {
    later = omega arith;
    each = λ c left. subst P (sym (holds.only c (only_now disk c left))) has;
    before = λ t c early left. inl left;
  }

  pub untouched_moments : (disk : D) (setup : Setup) → AtMoments honest seen may_leave moment left_since disk disk setup
  untouched_moments disk setup = record {
    each = λ image base carry rest holds has. same_leaves disk image _ holds (inl has);
    stands = λ image records holds stands follow. same_leaves disk image _ holds (inl stands);
    alone = λ image holds never. same_leaves disk image _ holds refl;
  }

-- ---- its last line

-- an answer shows no fault of the sink and no want of memory
told_other : (answer : Result ℕ UpgradeNo) → (told_status answer ≡ status.WriteFault → ⊥)
    × (told_status answer ≡ status.OutOfMemory → ⊥)
told_other (Ok records) = (λ e. cc e, λ e. cc e)
told_other (Err no.Disk) = (λ e. cc e, λ e. cc e)
told_other (Err no.Alien) = (λ e. cc e, λ e. cc e)
told_other (Err no.Current) = (λ e. cc e, λ e. cc e)
told_other (Err (no.NoRoom used)) = (λ e. cc e, λ e. cc e)
told_other (Err (no.BadRecord index)) = (λ e. cc e, λ e. cc e)
told_other (Err (no.EpochRuns addr)) = (λ e. cc e, λ e. cc e)

-- what is written by a status is so where the put failed, too
pub not_done : (answer : Result (Unit {0}) Failed) (s : Status) → (s ≡ status.Done → ⊥) → status_by answer s ≡ status.Done
    → ⊥
not_done (Ok done) s other is = other is
not_done (Err failed) s other is = cc is

-- status 0 says that the journal was brought forward
pub done_ok : (answer : Result ℕ UpgradeNo) (put : Result (Unit {0}) Failed)
    → status_by put (told_status answer) ≡ status.Done → IsOk answer
done_ok answer (Err failed) is = cc is
done_ok (Ok records) (Ok done) is = refl
done_ok (Err no.Disk) (Ok done) is = cc is
done_ok (Err no.Alien) (Ok done) is = cc is
done_ok (Err no.Current) (Ok done) is = cc is
done_ok (Err (no.NoRoom used)) (Ok done) is = cc is
done_ok (Err (no.BadRecord index)) (Ok done) is = cc is
done_ok (Err (no.EpochRuns addr)) (Ok done) is = cc is

module _ (disk : OldDisk) (source_failed : Type 0) (bytes taken : List ℕ)
    (writes : List Entry → Result (Unit {0}) Failed → Type 0) where
  put_ends : (s : Status) (line : Entry) → UpgradeCloses disk source_failed bytes taken s line → writes (line ∷ []) (Ok tt)
      → UpgradeEnds disk source_failed bytes taken s writes
  put_ends status.WriteFault line closes wrote = absurd ((told_other closes.0).0 (sym closes.5))
  put_ends status.OutOfMemory line closes wrote = absurd ((told_other closes.0).1 (sym closes.5))
  put_ends status.Done line closes wrote = (line, closes, wrote)
  put_ends status.ScriptRefused line closes wrote = (line, closes, wrote)
  put_ends status.WordsRefused line closes wrote = (line, closes, wrote)
  put_ends status.ReadFault line closes wrote = (line, closes, wrote)
  put_ends status.DiskFault line closes wrote = (line, closes, wrote)
  put_ends status.NotBlank line closes wrote = (line, closes, wrote)
  put_ends status.DiskSize line closes wrote = (line, closes, wrote)
  put_ends status.JournalLost line closes wrote = (line, closes, wrote)
  put_ends status.NotUpgraded line closes wrote = (line, closes, wrote)

  pub ends_by : (s result : Status) (line : Entry) (answer : Result (Unit {0}) Failed)
      → UpgradeCloses disk source_failed bytes taken s line → writes (line ∷ []) answer → result ≡ status_by answer s
      → UpgradeEnds disk source_failed bytes taken result writes
  ends_by s result line (Ok done) closes wrote is =
      subst (λ s. UpgradeEnds disk source_failed bytes taken s writes) (sym is) (put_ends s line closes wrote)
  ends_by s result line (Err failed) closes wrote is =
      subst (λ s. UpgradeEnds disk source_failed bytes taken s writes) (sym is) (s, line, failed, closes, wrote)

  -- the line of an answer
  closes_by : (answer : Result ℕ UpgradeNo) → disk.size ≡ JOURNAL_BYTES → (upgrade_script bytes).refused ≡ None
      → disk.answers (upgrade_script bytes).setup answer → ComesBack disk.failed disk.only_read answer
      → UpgradeCloses disk source_failed bytes taken (told_status answer) (told_entry answer)
  closes_by (Ok records) sized none answers back = (Ok records, sized, none, answers, back, refl, refl)
  closes_by (Err no.Disk) sized none answers back = (Err no.Disk, sized, none, answers, back, refl, refl)
  closes_by (Err no.Alien) sized none answers back = (Err no.Alien, sized, none, answers, back, refl, refl)
  closes_by (Err no.Current) sized none answers back = (Err no.Current, sized, none, answers, back, refl, refl)
  closes_by (Err (no.NoRoom used)) sized none answers back =
      (Err (no.NoRoom used), sized, none, answers, back, refl, refl)
  closes_by (Err (no.BadRecord index)) sized none answers back =
      (Err (no.BadRecord index), sized, none, answers, back, refl, refl)
  closes_by (Err (no.EpochRuns addr)) sized none answers back =
      (Err (no.EpochRuns addr), sized, none, answers, back, refl, refl)

  pub answer_ends : (answer : Result ℕ UpgradeNo) (put : Result (Unit {0}) Failed) (result : Status)
      → disk.size ≡ JOURNAL_BYTES → (upgrade_script bytes).refused ≡ None
      → disk.answers (upgrade_script bytes).setup answer → ComesBack disk.failed disk.only_read answer
      → writes (told_entry answer ∷ []) put → result ≡ status_by put (told_status answer)
      → UpgradeEnds disk source_failed bytes taken result writes
  answer_ends answer put result sized none answers back wrote is =
      ends_by (told_status answer) result (told_entry answer) put (closes_by answer sized none answers back) wrote is

  -- the line of a script that is read no further
  pub stop_ends : (how : Ending) (put : Result (Unit {0}) Failed) (result : Status) → disk.size ≡ JOURNAL_BYTES
      → ScriptSays how bytes taken → (how ≡ ending.Unread → source_failed) → disk.untouched
      → writes (listed (last_entry how)) put → result ≡ status_by put (status_of how)
      → UpgradeEnds disk source_failed bytes taken result writes × (result ≢ status.Done)
  stop_ends (ending.Refused number why) put result sized says failed untouched wrote is = (
    ends_by status.ScriptRefused result (entry.Line number why) put
        (record { number = number; why = why }, sized, says, refl, untouched) wrote is,
    λ done. not_done put status.ScriptRefused (λ e. cc e) (sym is ∙ done),
  )
  stop_ends ending.Unread put result sized says failed untouched wrote is = (
    ends_by status.ReadFault result entry.ReadFault put (sized, says, refl, failed refl, untouched) wrote is,
    λ done. not_done put status.ReadFault (λ e. cc e) (sym is ∙ done),
  )
  stop_ends how put result sized says failed untouched wrote is = absurd says

-- ---- the whole

module _ (disk : OldDisk) (source_failed : Type 0) (left0 left : Option (List ℕ)) (result : Status)
    (writes : List Entry → Result (Unit {0}) Failed → Type 0) where
  -- where the disk has another size, nothing is taken
  pub other_size : (len : ℕ) (put : Result (Unit {0}) Failed) → left ≡ left0 → len ≡ disk.size → disk.size ≢ JOURNAL_BYTES
      → disk.untouched → ((setup : Setup) → disk.moments setup) → writes (entry.DiskSize len ∷ []) put
      → result ≡ status_by put status.DiskSize
      → OfBytes left0 (λ bytes. Upgraded disk source_failed bytes result left writes)
  other_size len put same is other untouched moments wrote ends = (
    to_come left0,
    told_by left0 left0 [] (Consumes-nil left0),
    record {
      taken = [];
      took = ap to_come (sym same);
      ends = ends_by disk source_failed (to_come left0) [] writes status.DiskSize result (entry.DiskSize len) put
          (other, ap entry.DiskSize is, refl, untouched) wrote ends;
      moments = moments (upgrade_script (to_come left0)).setup;
      forward = λ done. absurd (not_done put status.DiskSize (λ e. cc e) (sym ends ∙ done));
    },
  )

  -- where a line of the script is refused, or it isn't read to its end
  pub script_stopped : (how : Ending) (put : Result (Unit {0}) Failed) → disk.size ≡ JOURNAL_BYTES
      → (how ≡ ending.Unread → source_failed) → disk.untouched → ((setup : Setup) → disk.moments setup)
      → writes (listed (last_entry how)) put → result ≡ status_by put (status_of how)
      → OfBytes left0 (λ bytes. WasStopped bytes left how)
      → OfBytes left0 (λ bytes. Upgraded disk source_failed bytes result left writes)
  script_stopped how put sized failed untouched moments wrote is stopped =
      let bytes = stopped.0 in
      let stop = stopped.2 in
      let ends =
      stop_ends disk source_failed bytes stop.taken writes how put result sized stop.says failed untouched wrote is in (
        bytes,
        stopped.1,
        record {
          taken = stop.taken;
          took = stop.took;
          ends = ends.0;
          moments = moments (upgrade_script bytes).setup;
          forward = λ done. absurd (ends.1 done);
        },
      )

  -- where it is read
  pub script_read : (setup : Setup) (answer : Result ℕ UpgradeNo) (put : Result (Unit {0}) Failed)
      → disk.size ≡ JOURNAL_BYTES → disk.answers setup answer → ComesBack disk.failed disk.only_read answer
      → disk.moments setup → (result ≡ status.Done → disk.forward setup) → writes (told_entry answer ∷ []) put
      → result ≡ status_by put (told_status answer) → OfBytes left0 (λ bytes. WasRead bytes left setup)
      → OfBytes left0 (λ bytes. Upgraded disk source_failed bytes result left writes)
  script_read setup answer put sized answers back moments forward wrote is read =
      let bytes = read.0 in
      let whole = read.2 in
      let same : setup ≡ (upgrade_script bytes).setup = sym (ap (λ (s : Script). s.setup) whole.says) in
      let none : (upgrade_script bytes).refused ≡ None = ap (λ (s : Script). s.refused) whole.says in (
        bytes,
        read.1,
        record {
          taken = whole.taken;
          took = whole.took;
          ends = answer_ends disk source_failed bytes whole.taken writes answer put result sized none
              (subst (λ by. disk.answers by answer) same answers) back wrote is;
          moments = subst disk.moments same moments;
          forward = λ done. subst disk.forward same (forward done);
        },
      )

  -- where there is no memory, nothing is taken
  pub no_memory_upgraded : left ≡ left0 → disk.untouched → ((setup : Setup) → disk.moments setup) → writes [] (Ok tt)
      → OfBytes left0 (λ bytes. Upgraded disk source_failed bytes status.OutOfMemory left writes)
  no_memory_upgraded same untouched moments wrote = (
    to_come left0,
    told_by left0 left0 [] (Consumes-nil left0),
    record {
      taken = [];
      took = ap to_come (sym same);
      ends = (refl, untouched, wrote);
      moments = moments (upgrade_script (to_come left0)).setup;
      forward = λ done. cc done;
    },
  )

-- what holds of any bytes holds of some
pub some_bytes : (left : Option (List ℕ)) {P : List ℕ → Type 0} → ((bytes : List ℕ) → P bytes) → OfBytes left P
some_bytes left every = (to_come left, told_by left left [] (Consumes-nil left), every (to_come left))

-- ---- where nothing failed

-- what can be brought forward is, unless the disk failed
pub goes_forward : (setup : Setup) (image : List ℕ) (answer : Result ℕ UpgradeNo) → ImageAnswers setup image answer
    → MayGoForward setup image → IfErr answer (λ why. why ≡ no.Disk)
goes_forward setup image (Ok records) is may = tt
goes_forward setup image (Err why) is (inl can) = is.never can.0 can.1 can.2 can.3
goes_forward setup image (Err why) is (inr none) = none why is.tells

done_by : (answer : Result ℕ UpgradeNo) (s : Status) (failed : Type 0) → IfErr answer (λ why. why ≡ no.Disk)
    → (answer ≡ Err no.Disk → failed) → (failed → ⊥) → s ≡ told_status answer → IsOrMemory status.Done s
done_by (Ok records) s failed never cause whole is = inl is
done_by (Err why) s failed never cause whole is = absurd (whole (cause (ap Err never)))

pub upgrade_completes : (disk : OldDisk) (source_failed sink_failed : Type 0) (bytes : List ℕ) (s : Status)
    (left : Option (List ℕ)) (writes : List Entry → Result (Unit {0}) Failed → Type 0)
    → Upgraded disk source_failed bytes s left writes → disk.size ≡ JOURNAL_BYTES → (upgrade_script bytes).refused ≡ None
    → ((answer : Result ℕ UpgradeNo) → disk.answers (upgrade_script bytes).setup answer
    → IfErr answer (λ why. why ≡ no.Disk)) → (s ≡ status.WriteFault → sink_failed) → (source_failed → ⊥)
    → (sink_failed → ⊥) → (disk.failed → ⊥) → IsOrMemory status.Done s
upgrade_completes disk source_failed sink_failed bytes s left writes up sized none never cause no_source no_sink no_disk =
    by_status s up.ends cause
  where
    clash : (line : Refusal) → (upgrade_script bytes).refused ≡ Some line → ⊥
    clash line is = let e : Some line ≡ None = sym is ∙ none in cc e

    answered : (s : Status) (closes : (answer : Result ℕ UpgradeNo) × (disk.size ≡ JOURNAL_BYTES)
        × ((upgrade_script bytes).refused ≡ None) × disk.answers (upgrade_script bytes).setup answer
        × ComesBack disk.failed disk.only_read answer × (s ≡ told_status answer)) → IsOrMemory status.Done s
    answered s closes = done_by closes.0 s disk.failed (never closes.0 closes.3) closes.4.cause no_disk closes.5

    by_status : (s : Status) → UpgradeEnds disk source_failed bytes up.taken s writes
        → (s ≡ status.WriteFault → sink_failed) → IsOrMemory status.Done s
    by_status status.WriteFault ends cause = absurd (no_sink (cause refl))
    by_status status.OutOfMemory ends cause = inr refl
    by_status status.DiskSize ends cause = absurd (ends.1.0 sized)
    by_status status.ScriptRefused ends cause = absurd (clash ends.1.0 ends.1.2)
    by_status status.ReadFault ends cause = absurd (no_source ends.1.3)
    by_status status.Done ends cause = inl refl
    by_status status.WordsRefused ends cause = answered status.WordsRefused (ends.1.0, ends.1.1, ends.1.2, ends.1.3, ends.1.4, ends.1.5)
    by_status status.DiskFault ends cause = answered status.DiskFault (ends.1.0, ends.1.1, ends.1.2, ends.1.3, ends.1.4, ends.1.5)
    by_status status.NotBlank ends cause = answered status.NotBlank (ends.1.0, ends.1.1, ends.1.2, ends.1.3, ends.1.4, ends.1.5)
    by_status status.JournalLost ends cause = answered status.JournalLost (ends.1.0, ends.1.1, ends.1.2, ends.1.3, ends.1.4, ends.1.5)
    by_status status.NotUpgraded ends cause = answered status.NotUpgraded (ends.1.0, ends.1.1, ends.1.2, ends.1.3, ends.1.4, ends.1.5)
