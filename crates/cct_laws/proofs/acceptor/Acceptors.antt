-- What holds of a device that takes money is kept by all that can come over an honest wire.
use Rattle.std.specs.Prelude.{⊤}
use Rattle.std.proofs.Common.{◌≡◌, ◌∙◌, ◌≤◌, ℕ, true, List, [], ◌∷◌, ◌++◌, refl, ap, sym, subst, Option, Some, None, le_refl, arith, rules}
use Rattle.cct_model.specs.terms.device.DeviceSetup.{DeviceSetup}
use Rattle.cct_model.specs.terms.request.Request.{Request}
use Rattle.cct_model.specs.terms.request.Request.TheVariants.{SimplePoll, AddressPoll, ResetDevice, ReadCredits, ReadBills, SetMaster, GetMask, AcceptCount, SetMask, RouteBill}
use Rattle.cct_model.specs.lines.record.Record.{Record}
use Rattle.cct_model.specs.lines.record.Record.TheVariants as record_of
use Rattle.cct_model.specs.declared.judging.Judged.{Judged}
use Rattle.cct_model.specs.lines.command.Command.{Command}
use Rattle.cct_model.specs.lines.command.Command.TheVariants as command
use Rattle.cct_model.specs.lines.entry.End.{End}
use Rattle.cct_model.specs.lines.entry.End.TheVariants.{Clean, Moved}
use Rattle.cct_model.specs.Reply.{Reply}
use Rattle.cct_model.specs.Script.{IsCommand}
use Rattle.cct_model.specs.History.{Met, heard}
use Rattle.cct_model.specs.terms.request.TheConstants.{STACK_CODE}
use Rattle.cct_model.specs.terms.device.DeviceBody.{DeviceBody}
use Rattle.cct_model.specs.terms.device.DeviceBody.TheVariants.{Acceptor, Bill, Hopper}
use Rattle.cct_model.specs.Bill.{bill_held, stacked_by}
use Rattle.cct_model.specs.Device.{IsTaker}
use Rattle.cct_model.specs.Transcript.{doses, stacked_line}
use Rattle.cct_model.specs.Line.{Line, accepted, exchange, put, ended, restarted}
use Rattle.cct_model.specs.Order.{order}
use Rattle.cct_model.specs.Job.{works, job, sends, puts, ident_requests, Noted, noted_in, begin_row, epoch, judged_in, address_of}
use Rattle.cct_model.specs.Rows.{Then, ends_as, if_quiet, if_posted, new_epoch, reading, epoch_end, TableRow, asks_for, asks_once, waits_for_coins, puts_due, row, rows_of, rest, from, first, done, sent_once, end_of, end_kept, end_by_record}
use Rattle.cct_model.proofs.Rows.{EachRow, EachBefore, before_on, fact_after, Behind, behind_answer, behind_record, PutEnds, each_told, put_end}
use Rattle.cct_laws.specs.DeviceJobs.{Fate, unheard, silenced, answered, IsForOthers, is_for_taker, with_ended}
use Rattle.cct_laws.proofs.steps.EitherKind.{for_taker}
use Rattle.cct_laws.specs.SinceEpoch.{InEpochAt, AcceptsInEpochs, IsKept}
use Rattle.cct_model.specs.Claims.{AllPast, mark, base, InOrder, Covers, Pace}
use Rattle.cct_laws.specs.Moving.{MovedAt, MovesWithCoins, NoStopMovesAt, NoStopMoves}
use Rattle.cct_laws.proofs.acceptor.BesideCoins.{World, world, world_of, Tells, Goes, IsUnrouted, after_heard, count_at, closed, on_nothing}
use Rattle.cct_laws.proofs.acceptor.Kinds.{goes_routed}
use Rattle.cct_laws.proofs.acceptor.Fits.{ReadSoFar, read_so_far, Notes, notes_in, IsRunning, running_on, FitsAt, at_on}
use Rattle.cct_laws.proofs.acceptor.Moves.{StandsWell, Sound, sound_line, near_of, sound_exchange, keeps_ended, Keeps, KeepsAsk, AtRows, IfOther, IsMild, IsNeutral, keeps_accepted, keeps_inhibited, keeps_alien, keeps_reset, keeps_holding, keeps_rejecting, keeps_moved_on, runs_not_idle, keeps_with_ended, answered_at, answered_over, next_at, mild_unrouted, on_after, on_heard, on_unheard, fits_at, by_fate, request_is, entry_is, IsOtherEnd}
use Rattle.cct_laws.proofs.acceptor.Starts.{resets, reads_quiet, unsure, opens, begins}
use Rattle.cct_laws.proofs.acceptor.Rounds.{reads, looks, counts}
use Rattle.cct_laws.proofs.acceptor.RecordsKeep.{over_put}
use Rattle.cct_laws.proofs.acceptor.Stops.{shuts, judged_put}
use Rattle.cct_laws.proofs.acceptor.Commands.{keeps_taken, leads}
use Rattle.cct_laws.proofs.acceptor.Leads.{Leads}
use Rattle.cct_model.specs.declared.judging.EpochState.{EpochState}
use Rattle.cct_model.proofs.Tries.{left_asks, due_sends}
use Rattle.cct_model.proofs.RowEnds.{rest_asks}

-- the rows of a job at a device that takes money, and what each leads to
pub left_leads : (d : DeviceSetup) (c : Command) (since : List Line) → is_for_taker c ≡ true → IsCommand c →
    EachBefore Leads (rest d c since)
left_leads d c since suited in_range =
    fact_after (EachBefore Leads) (before_on Leads) (rows_of d c) (done (rows_of d c) since) (leads d c suited in_range)

-- a request that changes nothing
neutral_mild : (q : Request) → IsNeutral q → IsMild q
neutral_mild (SetMask mask) neutral = absurd neutral
neutral_mild (SetMaster value) neutral = absurd neutral
neutral_mild (RouteBill way) neutral = absurd neutral
neutral_mild q neutral = tt

neutral_told : (w : World) (lines : List Line) (c : Command) (since : List Line) (rows : List TableRow) (q : Request)
    (y : Reply) → IsNeutral q → FitsAt w (read_so_far lines) rows (notes_in since) (judged_in c since (epoch lines)) →
    FitsAt w (read_so_far (exchange (Some q) (Some y) ∷ lines)) rows (notes_in (exchange (Some q) (Some y) ∷ since))
    (judged_in c (exchange (Some q) (Some y) ∷ since) (epoch lines))
neutral_told w lines c since rows ReadCredits y neutral fits = absurd neutral
neutral_told w lines c since rows ReadBills y neutral fits = absurd neutral
neutral_told w lines c since rows GetMask y neutral fits = absurd neutral
neutral_told w lines c since rows AcceptCount y neutral fits = absurd neutral
neutral_told w lines c since rows q y neutral fits = fits

neutral_passes : (w : World) (b : ReadSoFar) (q : Request) (behind : Then) (rows : List TableRow) (notes : Notes)
    (judged : Judged) → IsNeutral q → FitsAt w b (asks_for q behind ∷ rows) notes judged →
    FitsAt w b rows notes judged
neutral_passes w b ResetDevice behind rows notes judged neutral fits = absurd neutral
neutral_passes w b ReadCredits behind rows notes judged neutral fits = absurd neutral
neutral_passes w b ReadBills behind rows notes judged neutral fits = absurd neutral
neutral_passes w b GetMask behind rows notes judged neutral fits = absurd neutral
neutral_passes w b AcceptCount behind rows notes judged neutral fits = absurd neutral
neutral_passes w b (SetMaster value) behind rows notes judged neutral fits = absurd neutral
neutral_passes w b q behind rows notes judged neutral fits = fits

asks_neutral : (d : DeviceSetup) (past : List Met) (lines : List Line) (c : Command) (since : List Line) (q : Request)
    (behind : Then) (rows : List TableRow) (asked : Option Request) (got : Option Reply) →
    AtRows d past lines c since (asks_for q behind ∷ rows) → IsNeutral q → Behind IsOtherEnd behind →
    FitsAt (world d past lines) (read_so_far lines) (asks_for q behind ∷ rows) (notes_in since)
    (judged_in c since (epoch lines)) →
    Fate d past q asked got → KeepsAsk d past lines c since q asked got
asks_neutral d past lines c since q behind rows asked got at neutral other fits fate =
    let mild = neutral_mild q neutral in
    by_fate d past lines c since q asked got (ap sent_once at.rest_is) mild at.is_job at.keeps (λ y gives.
    let now = heard (Some q) ∷ past in
    let line = exchange (Some q) (Some y) in
    let w = world d past lines in
    let v = after_heard w (Some q) in
    let later =
    neutral_passes w (read_so_far lines) q behind rows (notes_in since) (judged_in c since (epoch lines)) neutral fits in
    answered_at d past lines c since (asks_for q behind ∷ rows) q y at
    (keeps_with_ended d now (line ∷ lines) _ (behind_answer IsOtherEnd behind y _ other)
    (next_at d past lines c since (asks_for q behind) rows q y at refl mild
    (neutral_told v lines c since rows q y neutral
    (at_on w v (read_so_far lines) rows (notes_in since) (judged_in c since (epoch lines)) (on_after w q mild) later))))) fate

-- what comes of an exchange, with the line of a bill that is stacked in it
abbrev KeepsDosed : DeviceSetup → List Met → List Line → Command → List Line → Request → Option Request → Option Reply → Type 0
KeepsDosed d past lines c since q asked got =
    Keeps d (heard asked ∷ past)
    (with_ended (end_of d c (exchange (Some q) got) since (epoch lines))
    (exchange (Some q) got ∷ doses d.body d.serial past asked ++ lines))

-- none is, where no bill is routed
none_stacked : (asked : Option Request) (held : Option ℕ) → IsUnrouted asked → stacked_line (stacked_by asked held) ≡ []
none_stacked (Some (RouteBill way)) held unrouted = absurd unrouted
none_stacked asked held unrouted = refl

none_dosed : (body : DeviceBody) (own : ℕ) (past : List Met) (asked : Option Request) → IsTaker body → IsUnrouted asked →
    doses body own past asked ≡ []
none_dosed (Acceptor accepts values ids) own past asked taking unrouted = refl
none_dosed (Hopper life value) own past asked taking unrouted = absurd taking
none_dosed (Bill accepts values ids) own past asked taking unrouted = none_stacked asked (bill_held past) unrouted

fate_unrouted : (d : DeviceSetup) (past : List Met) (q : Request) (asked : Option Request) (got : Option Reply) →
    IsUnrouted (Some q) → Fate d past q asked got → IsUnrouted asked
fate_unrouted d past q asked got unrouted unheard = tt
fate_unrouted d past q asked got unrouted silenced = unrouted
fate_unrouted d past q asked got unrouted (answered y gives) = unrouted

-- the bill that is held may be stacked, while the epoch runs

abbrev AreStacked : List Line → Type 0
AreStacked [] = ⊤
AreStacked (accepted coin ∷ []) = ⊤
AreStacked ls = ⊥

stacked_are : (place : Option ℕ) → AreStacked (stacked_line place)
stacked_are None = tt
stacked_are (Some place) = tt

doses_stacked : (body : DeviceBody) (own : ℕ) (past : List Met) (asked : Option Request) → IsTaker body →
    AreStacked (doses body own past asked)
doses_stacked (Acceptor accepts values ids) own past asked taking = tt
doses_stacked (Hopper life value) own past asked taking = absurd taking
doses_stacked (Bill accepts values ids) own past asked taking = stacked_are (stacked_by asked (bill_held past))

sound_stacked : (d : DeviceSetup) (past now : List Met) (lines ls : List Line) → AreStacked ls → IsRunning (epoch lines) →
    Goes (world d past lines) (world d now (ls ++ lines)) → Sound d past lines → Sound d now (ls ++ lines)
sound_stacked d past now lines [] are running goes sound = record {
  in_order = sound.in_order;
  covers = sound.covers;
  well = sound.well;
  told = goes.told sound.told;
  marked = sound.marked;
  state = running_on (world d past lines) (world d now lines) (mark lines) (base lines) (epoch lines) running goes sound.state;
}
sound_stacked d past now lines (accepted coin ∷ []) are running goes sound =
    sound_line d past now lines (accepted coin) tt (λ _. tt) (runs_not_idle (epoch lines) running) (goes.told sound.told)
    (omega (arith, sound.marked, goes.longer))
    (running_on (world d past lines) (world d now (accepted coin ∷ lines)) (mark lines) (base lines) (epoch lines) running
    goes sound.state) sound
sound_stacked d past now lines ls are running goes sound = absurd are

sound_routed : (d : DeviceSetup) (past : List Met) (lines : List Line) (way : ℕ) (got : Option Reply) → IsTaker d.body →
    way ≤ STACK_CODE → IsRunning (epoch lines) → Sound d past lines →
    Sound d (heard (Some (RouteBill way)) ∷ past)
    (exchange (Some (RouteBill way)) got ∷ doses d.body d.serial past (Some (RouteBill way)) ++ lines)
sound_routed d past lines way got taking small running sound =
    let asked = Some (RouteBill way) in
    let now = heard asked ∷ past in
    let ls = doses d.body d.serial past asked in
    let dosed = sound_stacked d past now lines ls (doses_stacked d.body d.serial past asked taking) running
    (goes_routed d.body d.serial past lines way taking small sound.told) sound in
    sound_exchange d now now (ls ++ lines) asked got (on_nothing (world d now (ls ++ lines))) dosed

-- the request is sent once, and ends its job
routes : (d : DeviceSetup) (past : List Met) (lines : List Line) (c : Command) (since : List Line) (way : ℕ)
    (end other : End) (rows : List TableRow) (asked : Option Request) (got : Option Reply) → IsTaker d.body →
    AtRows d past lines c since (asks_once (RouteBill way) (ends_as end) (ends_as other) ∷ rows) → way ≤ STACK_CODE →
    IsOtherEnd end → IsOtherEnd other → IsRunning (epoch lines) → Fate d past (RouteBill way) asked got →
    KeepsDosed d past lines c since (RouteBill way) asked got
routes d past lines c since way end other rows asked got taking at small is_end is_other running unheard =
    let q = RouteBill way in
    let now = heard None ∷ past in
    subst (λ ls. Keeps d now (with_ended (end_of d c (exchange (Some q) None) since (epoch lines))
    (exchange (Some q) None ∷ ls ++ lines))) (sym (none_dosed d.body d.serial past None taking tt))
    (unsure d past now lines c since q end other rows (exchange (Some q) None ∷ lines) at
    (keeps_ended d now (exchange (Some q) None ∷ lines) other is_other
    (sound_exchange d past now lines (Some q) None (on_unheard d past lines) at.keeps.sound)))
routes d past lines c since way end other rows asked got taking at small is_end is_other running silenced =
    let q = RouteBill way in
    let now = heard (Some q) ∷ past in
    let more = exchange (Some q) None ∷ doses d.body d.serial past (Some q) ++ lines in
    unsure d past now lines c since q end other rows more at
    (keeps_ended d now more other is_other
    (sound_routed d past lines way None taking small running at.keeps.sound))
routes d past lines c since way end other rows asked got taking at small is_end is_other running (answered y gives) =
    let q = RouteBill way in
    let now = heard (Some q) ∷ past in
    let more = exchange (Some q) (Some y) ∷ doses d.body d.serial past (Some q) ++ lines in
    answered_over d past lines c since (asks_once q (ends_as end) (ends_as other) ∷ rows) q y more at
    (keeps_ended d now more end is_end
    (sound_routed d past lines way (Some y) taking small running at.keeps.sound))

-- or a request that changes nothing is sent once
neutral_once : (d : DeviceSetup) (past : List Met) (lines : List Line) (c : Command) (since : List Line) (q : Request)
    (end other : End) (rows : List TableRow) (asked : Option Request) (got : Option Reply) →
    AtRows d past lines c since (asks_once q (ends_as end) (ends_as other) ∷ rows) → IsNeutral q → IsOtherEnd end →
    IsOtherEnd other → Fate d past q asked got → KeepsAsk d past lines c since q asked got
neutral_once d past lines c since q end other rows asked got at neutral is_end is_other unheard =
    let now = heard None ∷ past in
    unsure d past now lines c since q end other rows (exchange (Some q) None ∷ lines) at
    (keeps_ended d now (exchange (Some q) None ∷ lines) other is_other
    (sound_exchange d past now lines (Some q) None (on_unheard d past lines) at.keeps.sound))
neutral_once d past lines c since q end other rows asked got at neutral is_end is_other silenced =
    let now = heard (Some q) ∷ past in
    unsure d past now lines c since q end other rows (exchange (Some q) None ∷ lines) at
    (keeps_ended d now (exchange (Some q) None ∷ lines) other is_other
    (sound_exchange d past now lines (Some q) None (on_heard d past lines q (neutral_mild q neutral)) at.keeps.sound))
neutral_once d past lines c since q end other rows asked got at neutral is_end is_other (answered y gives) =
    let now = heard (Some q) ∷ past in
    let line = exchange (Some q) (Some y) in
    answered_at d past lines c since (asks_once q (ends_as end) (ends_as other) ∷ rows) q y at
    (keeps_ended d now (line ∷ lines) end is_end
    (sound_exchange d past now lines (Some q) (Some y) (on_heard d past lines q (neutral_mild q neutral)) at.keeps.sound))

-- a job at the acceptor asks something: what the first of its rows asks

as_asked : (d : DeviceSetup) (past : List Met) (lines : List Line) (c : Command) (since : List Line) (x q : Request)
    (asked : Option Request) (got : Option Reply) → sends x ≡ sends q →
    (Fate d past x asked got → KeepsDosed d past lines c since x asked got) → Fate d past q asked got →
    KeepsDosed d past lines c since q asked got
as_asked d past lines c since x q asked got row keeps =
    subst (λ r. Fate d past r asked got → KeepsDosed d past lines c since r asked got) (request_is x q row) keeps

as_undosed : (d : DeviceSetup) (past : List Met) (lines : List Line) (c : Command) (since : List Line) (x q : Request)
    (asked : Option Request) (got : Option Reply) → IsTaker d.body → IsUnrouted (Some x) → sends x ≡ sends q →
    (Fate d past x asked got → KeepsAsk d past lines c since x asked got) → Fate d past q asked got →
    KeepsDosed d past lines c since q asked got
as_undosed d past lines c since x q asked got taking unrouted row keeps =
    as_asked d past lines c since x q asked got row (λ fate.
    subst (λ ls. Keeps d (heard asked ∷ past) (with_ended (end_of d c (exchange (Some x) got) since (epoch lines))
    (exchange (Some x) got ∷ ls ++ lines)))
    (sym (none_dosed d.body d.serial past asked taking (fate_unrouted d past x asked got unrouted fate))) (keeps fate))

asks_at : (d : DeviceSetup) (past : List Met) (lines : List Line) (c : Command) (since : List Line)
    (rows : List TableRow) (p : Noted) (q : Request) (asked : Option Request) (got : Option Reply) →
    IsTaker d.body → EachBefore Leads rows → AtRows d past lines c since rows →
    FitsAt (world d past lines) (read_so_far lines) rows (notes_in since) (judged_in c since (epoch lines)) →
    first (address_of c) (judged_in c since (epoch lines)) p rows ≡ sends q → Fate d past q asked got →
    KeepsDosed d past lines c since q asked got
asks_at d past lines c since [] p q asked got taking each at fits row = absurd cc
asks_at d past lines c since (asks_for ResetDevice behind ∷ rows) p q asked got taking each at fits row =
    as_undosed d past lines c since ResetDevice q asked got taking tt row
    (resets d past lines c since behind rows asked got at each.0.0 each.0.1 fits)
asks_at d past lines c since (asks_for ReadCredits if_quiet ∷ rows) p q asked got taking each at fits row =
    as_undosed d past lines c since ReadCredits q asked got taking tt row
    (reads_quiet d past lines c since rows ReadCredits asked got taking tt at each.0 fits.0 fits.1)
asks_at d past lines c since (asks_for ReadCredits behind ∷ rows) p q asked got taking each at fits row =
    as_undosed d past lines c since ReadCredits q asked got taking tt row
    (reads d past lines c since behind rows ReadCredits asked got taking tt at each.0.0 each.0.1 fits.0 fits.1)
asks_at d past lines c since (asks_for ReadBills if_quiet ∷ rows) p q asked got taking each at fits row =
    as_undosed d past lines c since ReadBills q asked got taking tt row
    (reads_quiet d past lines c since rows ReadBills asked got taking tt at each.0 fits.0 fits.1)
asks_at d past lines c since (asks_for ReadBills behind ∷ rows) p q asked got taking each at fits row =
    as_undosed d past lines c since ReadBills q asked got taking tt row
    (reads d past lines c since behind rows ReadBills asked got taking tt at each.0.0 each.0.1 fits.0 fits.1)
asks_at d past lines c since (asks_for (SetMaster value) behind ∷ rows) p q asked got taking each at fits row =
    as_undosed d past lines c since (SetMaster value) q asked got taking tt row
    (shuts d past lines c since value behind rows asked got each.0.0 at each.0.1 each.0.2 fits)
asks_at d past lines c since (asks_for GetMask behind ∷ rows) p q asked got taking each at fits row =
    as_undosed d past lines c since GetMask q asked got taking tt row
    (looks d past lines c since behind rows asked got taking at each.0.0 each.0.1 fits.0 fits.1)
asks_at d past lines c since (asks_for AcceptCount behind ∷ rows) p q asked got taking each at fits row =
    as_undosed d past lines c since AcceptCount q asked got taking tt row
    (counts d past lines c since behind rows asked got taking at each.0.0 each.0.1 fits)
asks_at d past lines c since (asks_for x behind ∷ rows) p q asked got taking each at fits row =
    as_undosed d past lines c since x q asked got taking (mild_unrouted x (neutral_mild x each.0.0)) row
    (asks_neutral d past lines c since x behind rows asked got at each.0.0 each.0.1 fits)
asks_at d past lines c since (asks_once (SetMask mask) (ends_as end) (ends_as other) ∷ rows) p q asked got taking each
    at fits row =
    as_undosed d past lines c since (SetMask mask) q asked got taking tt row
    (opens d past lines c since mask end other rows asked got each.0.0 at each.0.1 each.0.2 fits)
asks_at d past lines c since (asks_once (RouteBill way) (ends_as end) (ends_as other) ∷ rows) p q asked got taking each
    at fits row =
    as_asked d past lines c since (RouteBill way) q asked got row
    (routes d past lines c since way end other rows asked got taking at each.0.0 each.0.1 each.0.2 fits)
asks_at d past lines c since (asks_once x (ends_as end) (ends_as other) ∷ rows) p q asked got taking each at fits
    row =
    as_undosed d past lines c since x q asked got taking (mild_unrouted x (neutral_mild x each.0.0)) row
    (neutral_once d past lines c since x end other rows asked got at each.0.0 each.0.1 each.0.2)
asks_at d past lines c since (asks_once x behind without ∷ rows) p q asked got taking each at fits row =
    absurd each.0
asks_at d past lines c since (waits_for_coins ∷ rows) p q asked got taking each at fits row = absurd each.0
asks_at d past lines c since (puts_due due behind ∷ rows) p q asked got taking each at fits row =
    absurd (due_sends (address_of c) (judged_in c since (epoch lines)) p due q row)

keeps_asks : (d : DeviceSetup) (past : List Met) (lines : List Line) (c : Command) (since : List Line) (q : Request)
    (asked : Option Request) (got : Option Reply) → IsTaker d.body → is_for_taker c ≡ true → IsCommand c →
    job lines ≡ works c since → row d c since (epoch lines) (order lines) ≡ sends q → Fate d past q asked got →
    Keeps d past lines → KeepsDosed d past lines c since q asked got
keeps_asks d past lines c since q asked got taking suited in_range is_job row_is fate keeps =
    asks_at d past lines c since (rest d c since) (noted_in since (order lines)) q asked got taking
    (left_leads d c since suited in_range)
    (record {
      is_job = is_job;
      rest_is = refl;
      left_is = left_asks d c since (epoch lines) (order lines) q row_is;
      keeps = keeps;
    })
    (fits_at d past lines c since is_job keeps) (rest_asks d c since (epoch lines) (order lines) q row_is) fate

-- it puts a record: what the first of its rows puts

begun_is : (addr mask count : ℕ) (found : Option ℕ) (r : Record) → found ≡ Some count →
    begin_row addr mask found ≡ puts r → record_of.Epoch addr mask count ≡ r
begun_is addr mask count found r is row =
    entry_is (record_of.Epoch addr mask count) r (subst (λ o. begin_row addr mask o ≡ puts r) is row)

puts_at : (d : DeviceSetup) (past : List Met) (lines : List Line) (c : Command) (since : List Line)
    (rows : List TableRow) (p : Noted) (r : Record) → job lines ≡ works c since → rest d c since ≡ rows →
    p.accepts ≡ (notes_in since).now → EachBefore Leads rows →
    FitsAt (world d past lines) (read_so_far lines) rows (notes_in since) (judged_in c since (epoch lines)) →
    first (address_of c) (judged_in c since (epoch lines)) p (from rows (judged_in c since (epoch lines))) ≡ puts r →
    Keeps d past lines → Keeps d past (with_ended (end_kept rows r) (put r ∷ lines))
puts_at d past lines c since [] p r is_job rest_is noted each fits row keeps = absurd cc
puts_at d past lines c since (asks_for q behind ∷ rows) p r is_job rest_is noted each fits row keeps = absurd cc
puts_at d past lines c since (asks_once q behind without ∷ rows) p r is_job rest_is noted each fits row keeps = absurd cc
puts_at d past lines c since (waits_for_coins ∷ rows) p r is_job rest_is noted each fits row keeps = absurd each.0
puts_at d past lines c since (puts_due (new_epoch mask) behind ∷ rows) p r is_job rest_is noted each fits row keeps =
    subst (λ e. Keeps d past (with_ended (end_by_record behind e) (put e ∷ lines)))
    (begun_is (address_of c) mask (count_at (world d past lines)) p.accepts r (noted ∙ fits.2) row)
    (keeps_with_ended d past _ _
    (behind_record IsOtherEnd behind (record_of.Epoch (address_of c) mask (count_at (world d past lines))) each.0.1)
    (begins d past lines c since (puts_due (new_epoch mask) behind) rows (address_of c) mask each.0.0 is_job rest_is
    each.0.2 fits.0 fits.1 keeps))
puts_at d past lines c since (puts_due reading (if_posted of_reading) ∷ rows) p r is_job rest_is noted each fits row keeps =
    judged_put d past lines c since of_reading rows (address_of c) (judged_in c since (epoch lines)) p r is_job rest_is
    each.0.0 each.0.1 fits.0 fits.1 row keeps
puts_at d past lines c since (puts_due epoch_end (ends_as end) ∷ rows) p r is_job rest_is noted each fits row keeps =
    over_put d past lines (address_of c) (puts_due epoch_end (ends_as end) ∷ rows) end r refl each.0 row fits.shut
    (λ near. omega (arith, fits.marked)) keeps.sound
puts_at d past lines c since (puts_due due behind ∷ rows) p r is_job rest_is noted each fits row keeps = absurd each.0

keeps_puts : (d : DeviceSetup) (past : List Met) (lines : List Line) (c : Command) (since : List Line) (r : Record) →
    is_for_taker c ≡ true → IsCommand c →
    job lines ≡ works c since → row d c since (epoch lines) (order lines) ≡ puts r → Keeps d past lines →
    Keeps d past (with_ended (end_of d c (put r) since (epoch lines)) (put r ∷ lines))
keeps_puts d past lines c since r suited in_range is_job row_is keeps =
    puts_at d past lines c since (rest d c since) (noted_in since (order lines)) r is_job refl refl
    (left_leads d c since suited in_range) (fits_at d past lines c since is_job keeps) row_is keeps

-- the power is cut
keeps_restarted : (d : DeviceSetup) (past : List Met) (lines : List Line) → Keeps d past lines → Keeps d past (restarted ∷ lines)
keeps_restarted d past lines keeps = record {
  sound = sound_line d past past lines restarted tt (λ _. tt) tt keeps.sound.told keeps.sound.marked keeps.sound.state
      keeps.sound;
  fits = tt;
}

-- no put ends a job clean, or because a reading has to be made again
other_puts : (d : DeviceSetup) (c : Command) → EachRow (PutEnds IsOtherEnd) (rows_of d c)
other_puts d (command.Ident addr) = each_told (PutEnds IsOtherEnd) (λ q. tt) (λ q. tt) (ident_requests d.body)
other_puts d c = search rules

pub put_other : (d : DeviceSetup) (c : Command) (r : Record) (since : List Line) (state : EpochState) →
    IfOther (end_of d c (put r) since state)
put_other d c r since state = put_end IsOtherEnd d c r since state (other_puts d c)

-- what holds after another end held before it
unended : (d : DeviceSetup) (past : List Met) (lines : List Line) (end : Option End) → IfOther end → Keeps d past (with_ended end lines) →
    Sound d past lines
unended d past lines None other keeps = keeps.sound
unended d past lines (Some Clean) other keeps = absurd other
unended d past lines (Some Moved) other keeps = absurd other
unended d past lines (Some end) other keeps = record {
  in_order = keeps.sound.in_order.1;
  covers = λ pace. (keeps.sound.covers (near_of lines pace, pace)).1;
  well = keeps.sound.well.1;
  told = keeps.sound.told;
  marked = keeps.sound.marked;
  state = keeps.sound.state;
}

-- a record after a power cut says what it would have said before it
sound_kept : (d : DeviceSetup) (past : List Met) (lines : List Line) (r : Record) → Sound d past (put r ∷ lines) →
    Sound d past (put r ∷ restarted ∷ lines)
sound_kept d past lines (record_of.Epoch addr mask accepts) sound = record {
  in_order = (sound.in_order.0, (tt, sound.in_order.1));
  covers = λ pace. let before = sound.covers (pace.0, pace.1.1) in (before.0, (tt, before.1));
  well = (tt, (tt, sound.well.1));
  told = sound.told;
  marked = sound.marked;
  state = sound.state;
}
sound_kept d past lines (record_of.Reading addr counter lost accepts posted) sound = record {
  in_order = (sound.in_order.0, (tt, sound.in_order.1));
  covers = λ pace. let before = sound.covers (pace.0, pace.1.1) in (before.0, (tt, before.1));
  well = (tt, (tt, sound.well.1));
  told = sound.told;
  marked = sound.marked;
  state = sound.state;
}
sound_kept d past lines (record_of.Broken addr seen counter lost accepts posted) sound = record {
  in_order = (sound.in_order.0, (tt, sound.in_order.1));
  covers = λ pace. let before = sound.covers (pace.0, pace.1.1) in (before.0, (tt, before.1));
  well = (tt, (tt, sound.well.1));
  told = sound.told;
  marked = sound.marked;
  state = sound.state;
}
sound_kept d past lines r sound = record {
  in_order = (sound.in_order.0, (tt, sound.in_order.1));
  covers = λ pace. let before = sound.covers (pace.0, pace.1.1) in (before.0, (tt, before.1));
  well = (tt, (tt, sound.well.1));
  told = sound.told;
  marked = sound.marked;
  state = sound.state;
}

keeps_kept_record : (d : DeviceSetup) (past : List Met) (lines : List Line) (c : Command) (since : List Line)
    (r : Record) → Keeps d past (with_ended (end_of d c (put r) since (epoch lines)) (put r ∷ lines)) →
    Keeps d past (put r ∷ restarted ∷ lines)
keeps_kept_record d past lines c since r keeps = record {
  sound = sound_kept d past lines r (unended d past (put r ∷ lines) _ (put_other d c r since (epoch lines)) keeps);
  fits = tt;
}

-- bytes that change nothing
keeps_passed : (d : DeviceSetup) (past : List Met) (lines : List Line) (asked : Option Request) → IsForOthers asked →
    Keeps d past lines → Keeps d (heard asked ∷ past) lines
keeps_passed d past lines None others keeps =
    keeps_moved_on d past (heard None ∷ past) lines (on_unheard d past lines) keeps
keeps_passed d past lines (Some AddressPoll) others keeps =
    keeps_moved_on d past (heard (Some AddressPoll) ∷ past) lines (on_heard d past lines AddressPoll tt) keeps
keeps_passed d past lines (Some SimplePoll) others keeps =
    keeps_moved_on d past (heard (Some SimplePoll) ∷ past) lines (on_heard d past lines SimplePoll tt) keeps
keeps_passed d past lines (Some q) others keeps = absurd others

-- before anything came

tells_start : (body : DeviceBody) → Tells (world_of body [] [])
tells_start (Acceptor accepts values ids) = (refl, λ place is. absurd cc)
tells_start (Hopper life value) = (refl, λ place is. absurd cc)
tells_start (Bill accepts values ids) = (refl, λ place is. absurd cc)

keeps_start : (d : DeviceSetup) → Keeps d [] []
keeps_start d = record {
  sound = record {
    in_order = tt;
    covers = λ _. tt;
    well = tt;
    told = tells_start d.body;
    marked = le_refl 0;
    state = record { shut = closed (world d [] []) refl; marked = refl };
  };
  fits = tt;
}

-- it holds after all that can come
pub keeps_kept : (d : DeviceSetup) → IsTaker d.body → IsKept d (Keeps d)
keeps_kept d taking = record {
  starts = keeps_start d;
  accepts = λ since past lines place accepting least most is keeps.
      keeps_accepted d past lines place accepting least is keeps;
  inhibits = λ since past lines place accepting is keeps. keeps_inhibited d past lines place accepting is keeps;
  aliens = λ since past lines accepting keeps. keeps_alien d past lines accepting keeps;
  holds = λ since past lines place billing least most is keeps. keeps_holding d past lines place billing least is keeps;
  rejects = λ since past lines place billing is keeps. keeps_rejecting d past lines place billing is keeps;
  resets = λ since past lines keeps. keeps_reset d past lines keeps;
  elsewhere = λ since past lines asked others keeps. keeps_passed d past lines asked others keeps;
  takes = λ since past lines c no_job here in_range suited fine keeps. keeps_taken d past lines c suited fine keeps;
  asks = λ since past lines c work q asked got at row_is fate keeps.
      keeps_asks d past lines c work q asked got taking (for_taker d.body c taking at.suited) at.in_range at.job_is
      row_is fate keeps;
  restarts = λ since past lines keeps. keeps_restarted d past lines keeps;
  keeps = λ since past lines c work r at row_is keeps.
      keeps_kept_record d past lines c work r
      (keeps_puts d past lines c work r (for_taker d.body c taking at.suited) at.in_range at.job_is row_is keeps);
  puts = λ since past lines c work r at row_is keeps.
      keeps_puts d past lines c work r (for_taker d.body c taking at.suited) at.in_range at.job_is row_is keeps;
}

-- posts are accepted coins in their order, none twice
pub kept_in_order : (d : DeviceSetup) (past : List Met) (lines : List Line) → Keeps d past lines → InOrder lines
kept_in_order d past lines keeps = keeps.sound.in_order

-- under the pace no coin is lost in silence
pub kept_covers : (d : DeviceSetup) (past : List Met) (lines : List Line) → Keeps d past lines → Pace lines → Covers lines
kept_covers d past lines keeps = keeps.sound.covers

-- where a reading had to be made again, a coin was accepted meanwhile, and it was none of a stop
well_met : (past : List Line) (line : Line) → StandsWell past line → MovedAt past line
well_met past (ended Moved) well = well.0
well_met past line well = tt

well_apart : (past : List Line) (line : Line) → StandsWell past line → NoStopMovesAt past line
well_apart past (ended Moved) well = well.1
well_apart past line well = tt

each_past : (P Q : List Line → Line → Type 0) → ((past : List Line) (line : Line) → P past line → Q past line) →
    (lines : List Line) → AllPast P lines → AllPast Q lines
each_past P Q weaker [] each = tt
each_past P Q weaker (line ∷ past) each = (weaker past line each.0, each_past P Q weaker past each.1)

pub kept_moves : (d : DeviceSetup) (past : List Met) (lines : List Line) → Keeps d past lines → MovesWithCoins lines
kept_moves d past lines keeps = each_past StandsWell MovedAt well_met lines keeps.sound.well

pub kept_stops : (d : DeviceSetup) (past : List Met) (lines : List Line) → Keeps d past lines → NoStopMoves lines
kept_stops d past lines keeps = each_past StandsWell NoStopMovesAt well_apart lines keeps.sound.well

-- and what is accepted is so in an epoch
well_epoch : (past : List Line) (line : Line) → StandsWell past line → InEpochAt past line
well_epoch past (accepted coin) well = well
well_epoch past line well = tt

pub kept_epochs : (d : DeviceSetup) (past : List Met) (lines : List Line) → Keeps d past lines → AcceptsInEpochs lines
kept_epochs d past lines keeps = each_past StandsWell InEpochAt well_epoch lines keeps.sound.well
