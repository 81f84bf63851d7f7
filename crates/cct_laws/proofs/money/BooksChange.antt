-- How the books change by what a step brought at a device: what a command spends and how many records it needs have
-- room, an exchange takes nothing more, and a put takes over what its job had reserved and held.
use Rattle.std.proofs.Common.{◌≡◌, ℕ, suc, ◌+◌, ◌≤◌, true, List, [], ◌∷◌, ◌++◌, length, refl, ap, sym, ◌∙◌, subst, Option, Some, None, arith, le_of_eq}
use Rattle.std.proofs.lemmas.Bool.{and_from, and_parts}
use Rattle.cct_model.specs.terms.device.DeviceSetup.{DeviceSetup}
use Rattle.cct_model.specs.terms.device.Setup.{Setup}
use Rattle.cct_model.specs.terms.request.Request.{Request}
use Rattle.cct_model.specs.lines.record.Record.{Record}
use Rattle.cct_model.specs.lines.record.Record.TheVariants as record_of
use Rattle.cct_model.specs.lines.command.Command.{Command}
use Rattle.cct_model.specs.lines.command.Command.TheVariants as command
use Rattle.cct_model.specs.lines.command.Step.{Step}
use Rattle.cct_model.specs.lines.entry.End.{End}
use Rattle.cct_model.specs.lines.entry.Entry.{Entry}
use Rattle.cct_model.specs.lines.entry.Entry.TheVariants as entry
use Rattle.cct_model.specs.Setup.{AreDistinct, IsSoundSetup}
use Rattle.cct_model.specs.Exchange.{ask, asked}
use Rattle.cct_model.specs.Line.{Line, exchange, put, taken}
use Rattle.cct_model.specs.Order.{order}
use Rattle.cct_model.specs.Job.{free, works, with_line, job, puts, sends, address_of}
use Rattle.cct_model.specs.Rows.{rest}
use Rattle.cct_model.specs.Refusal.{need_for, holds_of}
use Rattle.cct_model.specs.Records.{records}
use Rattle.cct_model.specs.Money.{posted_in, reserved_by}
use Rattle.cct_model.specs.Following.{all_follow}
use Rattle.cct_model.specs.Legal.{with_end}
use Rattle.cct_model.specs.Transcript.{lines_of, heard_after, got_by, doses_of}
use Rattle.cct_laws.specs.Ids.{Ids}
use Rattle.cct_laws.specs.DeviceJobs.{suits, with_ended}
use Rattle.cct_laws.specs.KeptHopper.{IsOwed}
use Rattle.cct_laws.specs.Law.{IsOf}
use Rattle.cct_laws.proofs.jobs.AskedAndAnswered.{asked_at}
use Rattle.cct_laws.proofs.money.Reserved.{work_with, work_put, spent_by, work_taken}
use Rattle.cct_laws.proofs.jobs.StepBrings.{AtWork, row_after, wire_of, wire_end, record_end, AtDevice, made_exchange, made_put, begun_at_work}
use Rattle.cct_laws.proofs.money.Covered.{spoken_in, opened_spoken, closed_spoken, odd_spoken, closes_at, closed_counts}
use Rattle.cct_laws.proofs.money.PutsFollow.{Follows}
use Rattle.cct_laws.proofs.money.RecordsHeldByAll.{holds_taken, holds_halted, holds_asked, holds_put}
use Rattle.cct_laws.proofs.orders.Ids.{put_owned}
use Rattle.cct_laws.proofs.orders.Opening.{UsesOwn}
use Rattle.cct_laws.proofs.orders.Orders.{Belongs, belongs_all, opens_at}
use Rattle.cct_laws.proofs.jobs.SeenAtOne.{lines_wire, lines_put, lines_taken, lines_with_end}
use Rattle.cct_laws.proofs.jobs.LeftAlone.{off_host, same_dosed, same_elsewhere, row_uses, unsold, records_end}
use Rattle.cct_laws.proofs.money.SumsOfRecords.{owed_kept}
use Rattle.cct_model.specs.lines.command.Step.TheVariants as step
use Rattle.cct_laws.proofs.money.Counting.{Moves}
use Rattle.cct_laws.specs.DeviceJobs.{WorksAt}

-- an end frees what a job reserves
ended_reserves : (setup : Setup) (d : DeviceSetup) (end : Option End) (lines : List Line) →
    reserved_by setup d (job (with_ended end lines)) ≤ reserved_by setup d (job lines)
ended_reserves setup d None lines = omega arith
ended_reserves setup d (Some end) lines = omega arith

-- what a put takes over: with its record no more is spoken for than its job had reserved besides, and what it posts
put_spends : (setup : Setup) (before : List Record) (d : DeviceSetup) (c : Command) (since : List Line) (r : Record)
    (after : ℕ) → AreDistinct setup.devices → Belongs setup before → Follows setup before r →
    UsesOwn r (address_of c) (rest d c since) → after ≤ reserved_by setup d (works c (put r ∷ since)) →
    spoken_in setup (r ∷ before) + after + posted_in setup before
    ≤ spoken_in setup before + reserved_by setup d (works c since) + 0 + posted_in setup (r ∷ before)
put_spends setup before d c since (record_of.Opened opened at counted life) after distinct belongs ok own less =
    let frees = work_put setup d c since (record_of.Opened opened at counted life) own in
    let spoken =
    opened_spoken setup before opened at counted life distinct (opens_at setup before opened at counted life ok) in
    omega (arith, spoken, frees, less)
put_spends setup before d c since (record_of.Closed id paid unpaid) after distinct belongs ok own less =
    let at = closes_at setup before id (and_parts _ _ ok).0 belongs in
    let spoken =
    closed_spoken setup before id paid unpaid distinct at (closed_counts setup before id paid unpaid ok at) in
    let fewer = work_put setup d c since (record_of.Closed id paid unpaid) own in
    omega (arith, spoken, fewer, less)
put_spends setup before d c since (record_of.Odd id life_before life_after) after distinct belongs ok own less =
    let spoken = odd_spoken setup before id life_before life_after distinct (closes_at setup before id ok belongs) in
    let fewer = work_put setup d c since (record_of.Odd id life_before life_after) own in
    omega (arith, spoken, fewer, less)
put_spends setup before d c since (record_of.Sold id price) after distinct belongs ok own less = absurd own
put_spends setup before d c since r after distinct belongs ok own less =
    let kept = owed_kept setup r before (λ o. refl) in
    let fewer = work_put setup d c since r own in
    omega (arith, kept, fewer, less)

-- what changes at a device by what a step brought there
moves_by : (capacity : ℕ) (setup : Setup) (d : DeviceSetup) (past news : List Entry) (s : Step)
    (spent need : ℕ) → IsSoundSetup setup → Ids setup past → IsOf setup d → AtDevice capacity setup d past s news →
    all_follow setup (records (news ++ past)) ≡ true →
    spoken_in setup (records (news ++ past)) + reserved_by setup d (job (lines_of d (news ++ past)))
    + posted_in setup (records past)
    ≤ spoken_in setup (records past) + reserved_by setup d (job (lines_of d past)) + spent
    + posted_in setup (records (news ++ past)) →
    length (records (news ++ past)) + holds_of d (lines_of d (news ++ past))
    ≤ length (records past) + holds_of d (lines_of d past) + need → Moves setup d past (news ++ past) spent need
moves_by capacity setup d past news s spent need sound ids own at follow spends holds = record {
  others = λ e other. same_elsewhere capacity setup d e past news s ids own other at;
  sale = ap job (unsold capacity setup d past news s (λ same. off_host setup d sound own (sym same)) at);
  follow = follow;
  spends = spends;
  holds = holds;
}

-- sums, over plain numbers
same_spends : (spoken later now spent posted : ℕ) → later ≤ now + spent →
    spoken + later + posted ≤ spoken + now + spent + posted
same_spends spoken later now spent posted le = omega (arith, le)

same_holds : (many later now need : ℕ) → later ≤ now + need → many + later ≤ many + now + need
same_holds many later now need le = omega (arith, le)

no_more : (later now : ℕ) → later ≤ now → later ≤ now + 0
no_more later now le = omega (arith, le)

one_less : (many later now : ℕ) → suc later ≤ now → suc many + later ≤ many + now + 0
one_less many later now le = omega (arith, le)

-- a command is taken
pub moves_taken : (capacity : ℕ) (setup : Setup) (d : DeviceSetup) (past : List Entry) (s : Step) (c : Command) →
    IsSoundSetup setup → Ids setup past → IsOf setup d → all_follow setup (records past) ≡ true →
    suits d.body c ≡ true → address_of c ≡ d.addr → job (lines_of d past) ≡ free → IsOwed c (order (lines_of d past)) →
    AtDevice capacity setup d past s (entry.Taken c ∷ []) →
    Moves setup d past (entry.Taken c ∷ past) (spent_by setup c) (need_for (Some d) c)
moves_taken capacity setup d past s c sound ids own follow suited here is_free is_owed at =
    let begun : job (taken c ∷ lines_of d past) ≡ works c [] = begun_at_work d.body c (lines_of d past) suited in
    let reserves : reserved_by setup d (job (lines_of d (entry.Taken c ∷ past))) ≡ reserved_by setup d (works c []) =
    ap (λ ls. reserved_by setup d (job ls)) (lines_taken d past c here) ∙ ap (reserved_by setup d) begun in
    let spends = work_taken setup d c in
    let fewer : reserved_by setup d (job (lines_of d (entry.Taken c ∷ past)))
    ≤ reserved_by setup d (job (lines_of d past)) + spent_by setup c = omega (arith, reserves, spends) in
    moves_by capacity setup d past (entry.Taken c ∷ []) s (spent_by setup c) (need_for (Some d) c) sound ids own at
    follow
    (same_spends (spoken_in setup (records past)) (reserved_by setup d (job (lines_of d (entry.Taken c ∷ past))))
    (reserved_by setup d (job (lines_of d past))) (spent_by setup c) (posted_in setup (records past)) fewer)
    (same_holds (length (records past)) (holds_of d (lines_of d (entry.Taken c ∷ past))) (holds_of d (lines_of d past))
    (need_for (Some d) c)
    (subst (λ ls. holds_of d ls ≤ holds_of d (lines_of d past) + need_for (Some d) c) (sym (lines_taken d past c here))
    (holds_taken d c (lines_of d past) is_free begun is_owed)))

-- a payment is halted
pub moves_halted : (capacity : ℕ) (setup : Setup) (d : DeviceSetup) (past : List Entry) →
    IsSoundSetup setup → Ids setup past → IsOf setup d → all_follow setup (records past) ≡ true →
    AtDevice capacity setup d past (step.Command (command.Halt d.addr)) (entry.Taken (command.Halt d.addr) ∷ []) →
    Moves setup d past (entry.Taken (command.Halt d.addr) ∷ past) 0 0
moves_halted capacity setup d past sound ids own follow at =
    let lines_are = lines_taken d past (command.Halt d.addr) refl in
    moves_by capacity setup d past (entry.Taken (command.Halt d.addr) ∷ []) (step.Command (command.Halt d.addr)) 0 0
    sound ids own at
    follow
    (same_spends (spoken_in setup (records past)) _ (reserved_by setup d (job (lines_of d past))) 0
    (posted_in setup (records past))
    (no_more _ _
    (subst (λ ls. reserved_by setup d (job ls) ≤ reserved_by setup d (job (lines_of d past))) (sym lines_are)
    (work_with setup d (taken (command.Halt d.addr)) (job (lines_of d past))))))
    (same_holds (length (records past)) _ (holds_of d (lines_of d past)) 0
    (no_more _ _
    (subst (λ ls. holds_of d ls ≤ holds_of d (lines_of d past)) (sym lines_are)
    (le_of_eq (holds_halted d d.addr (lines_of d past))))))

-- an exchange of its job
pub moves_asked : (capacity : ℕ) (setup : Setup) (d : DeviceSetup) (past : List Entry) (c : Command)
    (since : List Line) (q : Request) → IsSoundSetup setup → Ids setup past → IsOf setup d →
    all_follow setup (records past) ≡ true →
    (at_work : AtWork d past c since) → row_after d past c since ≡ sends q → WorksAt d (lines_of d past) c since →
    Moves setup d past (with_end d.addr (wire_of setup d past q) (wire_end setup d past c since q) ++ past) 0 0
moves_asked capacity setup d past c since q sound ids own follow at_work is_row in_range =
    let sent = ask d.kind d.addr q in
    let got = got_by d sent (heard_after setup past sent) in
    let wire = wire_of setup d past q in
    let end = wire_end setup d past c since q in
    let lines = lines_of d past in
    let dosed = doses_of d past sent ++ lines in
    let same = same_dosed d past sent in
    let line = exchange (asked d.kind sent) got in
    let lines_are : lines_of d (with_end d.addr wire end ++ past) ≡ with_ended end (line ∷ dosed) =
    lines_with_end d past wire end (line ∷ dosed) (lines_wire d past sent (heard_after setup past sent)) in
    let records_are : records (with_end d.addr wire end ++ past) ≡ records past = records_end past d.addr wire end in
    let asks_it : asked d.kind sent ≡ Some q = asked_at setup past d c since q sound own in_range is_row in
    let first = ended_reserves setup d end (line ∷ dosed) in
    let second = work_with setup d line (job dosed) in
    let third : reserved_by setup d (job dosed) ≡ reserved_by setup d (job lines) = ap (reserved_by setup d) same.jobs in
    let reserves : reserved_by setup d (job (with_ended end (line ∷ dosed))) ≤ reserved_by setup d (job lines) =
    no_more_through _ _ _ _ first second third in
    moves_by capacity setup d past (with_end d.addr wire end) (step.Next d.addr) 0 0 sound ids own
    (made_exchange c since q at_work is_row) (ap (all_follow setup) records_are ∙ follow)
    (subst (λ rs. spoken_in setup rs + reserved_by setup d (job (lines_of d (with_end d.addr wire end ++ past)))
    + posted_in setup (records past)
    ≤ spoken_in setup (records past) + reserved_by setup d (job lines) + 0 + posted_in setup rs)
    (sym records_are)
    (same_spends (spoken_in setup (records past)) _ (reserved_by setup d (job lines)) 0 (posted_in setup (records past))
    (no_more _ _
    (subst (λ ls. reserved_by setup d (job ls) ≤ reserved_by setup d (job lines)) (sym lines_are) reserves))))
    (subst (λ rs. length rs + holds_of d (lines_of d (with_end d.addr wire end ++ past))
    ≤ length (records past) + holds_of d lines + 0) (sym records_are)
    (same_holds (length (records past)) _ (holds_of d lines) 0
    (no_more _ _
    (subst (λ ls. holds_of d ls ≤ holds_of d lines) (sym lines_are)
    (subst (λ a. holds_of d (with_ended end (exchange a got ∷ dosed)) ≤ holds_of d lines) (sym asks_it)
    (holds_asked d c since q got end lines dosed at_work.job_is is_row same.jobs same.epochs same.orders))))))
  where
    no_more_through : (last third second first : ℕ) → last ≤ third → third ≤ second → second ≡ first → last ≤ first
    no_more_through last third second first one two three = omega (arith, one, two, three)

-- a put of its job
pub moves_put : (capacity : ℕ) (setup : Setup) (d : DeviceSetup) (past : List Entry) (c : Command)
    (since : List Line) (r : Record) → IsSoundSetup setup → Ids setup past → IsOf setup d →
    all_follow setup (records past) ≡ true →
    (at_work : AtWork d past c since) → row_after d past c since ≡ puts r → Follows setup (records past) r →
    Moves setup d past (with_end d.addr (entry.Put r) (record_end d past c since r) ++ past) 0 0
moves_put capacity setup d past c since r sound ids own follow at_work is_row follows_it =
    let end = record_end d past c since r in
    let lines = lines_of d past in
    let later = with_end d.addr (entry.Put r) end ++ past in
    let lines_are : lines_of d later ≡ with_ended end (put r ∷ lines) =
    lines_with_end d past (entry.Put r) end (put r ∷ lines)
    (lines_put d past r (put_owned setup past d c since r own ids at_work is_row)) in
    let records_are : records later ≡ r ∷ records past = records_end past d.addr (entry.Put r) end in
    let jobs : job (put r ∷ lines) ≡ works c (put r ∷ since) = ap (with_line (put r)) at_work.job_is in
    let reserves : reserved_by setup d (job (lines_of d later)) ≤ reserved_by setup d (works c (put r ∷ since)) =
    subst (λ ls. reserved_by setup d (job ls) ≤ reserved_by setup d (works c (put r ∷ since))) (sym lines_are)
    (subst (λ j. reserved_by setup d (job (with_ended end (put r ∷ lines))) ≤ reserved_by setup d j) jobs
    (ended_reserves setup d end (put r ∷ lines))) in
    moves_by capacity setup d past (with_end d.addr (entry.Put r) end) (step.Next d.addr) 0 0 sound ids own
    (made_put c since r at_work is_row)
    (ap (all_follow setup) records_are ∙ and_from _ _ follows_it follow)
    (subst (λ rs. spoken_in setup rs + reserved_by setup d (job (lines_of d later)) + posted_in setup (records past)
    ≤ spoken_in setup (records past) + reserved_by setup d (job lines) + 0 + posted_in setup rs) (sym records_are)
    (subst (λ j. spoken_in setup (r ∷ records past) + reserved_by setup d (job (lines_of d later))
    + posted_in setup (records past)
    ≤ spoken_in setup (records past) + reserved_by setup d j + 0 + posted_in setup (r ∷ records past))
    (sym at_work.job_is)
    (put_spends setup (records past) d c since r (reserved_by setup d (job (lines_of d later))) sound.distinct
    (belongs_all setup (records past) follow) follows_it (row_uses d past c since r is_row) reserves)))
    (subst (λ rs. length rs + holds_of d (lines_of d later) ≤ length (records past) + holds_of d lines + 0)
    (sym records_are)
    (one_less (length (records past)) (holds_of d (lines_of d later)) (holds_of d lines)
    (subst (λ ls. suc (holds_of d ls) ≤ holds_of d lines) (sym lines_are)
    (holds_put d c since r lines at_work.job_is is_row))))
