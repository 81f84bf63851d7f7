-- How the rows that end an epoch, and what they put, keep what holds of a device that takes money.
use Rattle.std.proofs.Common.{◌≡◌, ℕ, List, [], ◌∷◌, refl, sym, subst, Option, Some, ap, arith}
use Rattle.std.specs.Prelude.{⊤}
use Rattle.cct_model.specs.terms.device.DeviceSetup.{DeviceSetup}
use Rattle.cct_model.specs.terms.request.Request.{Request}
use Rattle.cct_model.specs.terms.request.Request.TheVariants.{SetMaster}
use Rattle.cct_model.specs.lines.record.Record.{Record}
use Rattle.cct_model.specs.declared.judging.Judged.{Judged}
use Rattle.cct_model.specs.declared.judging.Judged.TheVariants.{Nothing, Moved, Reading, Broken}
use Rattle.cct_model.specs.lines.command.Command.{Command}
use Rattle.cct_model.specs.lines.entry.End.{End}
use Rattle.cct_model.specs.Reply.{Reply}
use Rattle.cct_model.specs.History.{Met, heard}
use Rattle.cct_model.specs.Line.{Line, exchange, put}
use Rattle.cct_model.specs.Job.{works, job, puts, epoch, Noted}
use Rattle.cct_model.specs.Rows.{Then, ends_as, if_posted, reading, epoch_end, TableRow, asks_for, puts_due, from, first, rest, end_kept, sent_once}
use Rattle.cct_model.proofs.Rows.{Behind, behind_answer}
use Rattle.cct_laws.specs.DeviceJobs.{Fate, with_ended}
use Rattle.cct_laws.proofs.acceptor.BesideCoins.{world, Shut, after_heard, shut_by_master}
use Rattle.cct_laws.proofs.acceptor.Fits.{read_so_far, Ready, IsRunning, IfOver, IsStill, ends_epoch, AfterShut}
use Rattle.cct_laws.proofs.acceptor.Moves.{Sound, Keeps, KeepsAsk, AtRows, IsOtherEnd, keeps_with_ended, answered_at, next_at, by_fate, entry_is}
use Rattle.cct_laws.proofs.acceptor.RecordsKeep.{over_put}
use Rattle.cct_laws.proofs.acceptor.Rounds.{IsAfterReading, posts_put, breaks_put}

-- every coin is inhibited
pub shuts : (d : DeviceSetup) (past : List Met) (lines : List Line) (c : Command) (since : List Line) (value : ℕ)
    (behind : Then) (rows : List TableRow) (asked : Option Request) (got : Option Reply) → value ≡ 0 →
    AtRows d past lines c since (asks_for (SetMaster value) behind ∷ rows) → Behind IsOtherEnd behind → AfterShut rows →
    IsRunning (epoch lines) → Fate d past (SetMaster value) asked got →
    KeepsAsk d past lines c since (SetMaster value) asked got
shuts d past lines c since value behind rows asked got none at other next running fate =
    by_fate d past lines c since (SetMaster value) asked got (ap sent_once at.rest_is) none at.is_job at.keeps (λ y gives.
    let now = heard (Some (SetMaster value)) ∷ past in
    let line = exchange (Some (SetMaster value)) (Some y) in
    let v = after_heard (world d past lines) (Some (SetMaster value)) in
    let shut : Shut v =
    subst (λ n. Shut (after_heard (world d past lines) (Some (SetMaster n)))) (sym none) (shut_by_master (world d past lines)) in
    answered_at d past lines c since (asks_for (SetMaster value) behind ∷ rows) (SetMaster value) y at
    (keeps_with_ended d now (line ∷ lines) _ (behind_answer IsOtherEnd behind y _ other)
    (next_at d past lines c since (asks_for (SetMaster value) behind) rows (SetMaster value) y at refl
    none (next v (read_so_far (line ∷ lines)) _ _ running shut)))) fate

-- only the epoch's end is after a row that puts what was judged
abbrev pub IsOverNext : List TableRow → Type 0
IsOverNext [] = ⊤
IsOverNext (puts_due epoch_end (ends_as end) ∷ rows) = IsOtherEnd end
IsOverNext rows = ⊥

-- what was judged is put, or the epoch's end where that is nothing
none_put : (d : DeviceSetup) (past : List Met) (lines : List Line) (of_reading : Option End) (rows : List TableRow)
    (addr : ℕ) (p : Noted) (r : Record) → IsOverNext rows → Ready (world d past lines) (read_so_far lines) Nothing →
    IfOver (ends_epoch rows) (IsStill (world d past lines) (read_so_far lines)) → first addr Nothing p rows ≡ puts r →
    Sound d past lines →
    Keeps d past (with_ended (end_kept (puts_due reading (if_posted of_reading) ∷ rows) r) (put r ∷ lines))
none_put d past lines of_reading [] addr p r over ready still row sound = absurd cc
none_put d past lines of_reading (puts_due epoch_end (ends_as end) ∷ rows) addr p r over ready still row sound =
    over_put d past lines addr
    (puts_due reading (if_posted of_reading) ∷ puts_due epoch_end (ends_as end) ∷ rows) end r refl over row still.0
    (λ near. omega (arith, still.1, ready.none near)) sound
none_put d past lines of_reading rows addr p r over ready still row sound = absurd over

pub judged_put : (d : DeviceSetup) (past : List Met) (lines : List Line) (c : Command) (since : List Line)
    (of_reading : Option End) (rows : List TableRow) (addr : ℕ) (judged : Judged) (p : Noted) (r : Record) →
    job lines ≡ works c since → rest d c since ≡ puts_due reading (if_posted of_reading) ∷ rows →
    IsAfterReading of_reading rows → IsOverNext rows → Ready (world d past lines) (read_so_far lines) judged →
    IfOver (ends_epoch rows) (IsStill (world d past lines) (read_so_far lines)) →
    first addr judged p (from (puts_due reading (if_posted of_reading) ∷ rows) judged) ≡ puts r → Keeps d past lines →
    Keeps d past (with_ended (end_kept (puts_due reading (if_posted of_reading) ∷ rows) r) (put r ∷ lines))
judged_put d past lines c since of_reading rows addr Nothing p r is_job rest_is next over ready still row keeps =
    none_put d past lines of_reading rows addr p r over ready still row keeps.sound
judged_put d past lines c since of_reading rows addr Moved p r is_job rest_is next over ready still row keeps = absurd cc
judged_put d past lines c since of_reading rows addr (Reading entry) p r is_job rest_is next over ready still row keeps =
    subst (λ e. Keeps d past (with_ended (end_kept (puts_due reading (if_posted of_reading) ∷ rows) e) (put e ∷ lines)))
    (entry_is entry r row) (posts_put d past lines c since rows entry of_reading is_job rest_is next ready still keeps)
judged_put d past lines c since of_reading rows addr (Broken entry) p r is_job rest_is next over ready still row keeps =
    subst (λ e. Keeps d past (with_ended (end_kept (puts_due reading (if_posted of_reading) ∷ rows) e) (put e ∷ lines)))
    (entry_is entry r row) (breaks_put d past lines rows entry of_reading ready keeps.sound)
