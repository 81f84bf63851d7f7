-- A step that shows the end of a payment that was closed puts just the record that closes its order.
use Rattle.std.proofs.Common.{◌≡◌, ◌⊎◌, inl, inr, ℕ, ◌≤◌, List, [], ◌∷◌, refl, ◌∙◌, Option, Some, None, arith, rules}
use Rattle.std.specs.Prelude.{⊤}
use Rattle.cct_model.specs.terms.device.DeviceSetup.{DeviceSetup}
use Rattle.cct_model.specs.terms.device.Setup.{Setup}
use Rattle.cct_model.specs.lines.command.Command.{Command}
use Rattle.cct_model.specs.lines.command.Command.TheVariants as command
use Rattle.cct_model.specs.lines.command.Step.{Step}
use Rattle.cct_model.specs.lines.entry.End.{End}
use Rattle.cct_model.specs.lines.entry.End.TheVariants.{Closed, OddLife}
use Rattle.cct_model.specs.lines.entry.Entry.{Entry}
use Rattle.cct_model.specs.lines.entry.Entry.TheVariants as entry
use Rattle.cct_model.specs.lines.record.Record.{Record}
use Rattle.cct_model.specs.lines.record.Record.TheVariants as record_of
use Rattle.cct_model.specs.Exchange.{ask, asked}
use Rattle.cct_model.specs.Job.{epoch, ident_requests}
use Rattle.cct_model.specs.Legal.{with_end}
use Rattle.cct_model.specs.Records.{records}
use Rattle.cct_model.specs.Rows.{Then, goes_on, ends_as, if_quiet, if_judged, if_unmoved, path_told, if_posted, if_closed, new_epoch, reading, epoch_end, new_order, order_end, sale, TableRow, asks_for, asks_once, waits_for_coins, puts_due, rows_of, rest, done, end_by_record, end_kept}
use Rattle.cct_model.specs.Transcript.{got_by, heard_after, lines_of, met, owner}
use Rattle.cct_model.proofs.Rows.{AnswerEnds, BareEnds, EachRow, IfEnd, each_after, each_told, exchange_end}
use Rattle.cct_laws.specs.Ending.{IsEndOf, ShowsEnd}
use Rattle.cct_laws.specs.Ids.{Ids}
use Rattle.cct_laws.specs.Law.{IsOf}
use Rattle.cct_laws.proofs.jobs.StepBrings.{AtDevice, came, took, halted, idled, made_exchange, made_put, wire_of, wire_end, record_end, poll_wire, poll_end, Brought, of_device, faulted, refused, began_scan, began_sale, nobody, polled, sold, balanced, of_desk, ended_short, lost_power, lost_in_put, lost_in_sale, IsOfNoJob, came_of_no_job, desk_of_no_job}
use Rattle.cct_laws.proofs.jobs.EntriesOfStep.{Telling, over_telling}
use Rattle.cct_laws.proofs.orders.Ids.{put_owned}

-- an end closes no order
abbrev IsNoClose : End → Type 0
IsNoClose Closed = ⊥
IsNoClose OddLife = ⊥
IsNoClose end = ⊤

-- a record closes an order
abbrev pub IsClosing : Record → Type 0
IsClosing (record_of.Closed id paid unpaid) = ⊤
IsClosing (record_of.Odd id life_before life_after) = ⊤
IsClosing r = ⊥

-- no exchange ends a job so
answers_none : (d : DeviceSetup) (c : Command) → EachRow (AnswerEnds IsNoClose) (rows_of d c)
answers_none d (command.Ident addr) =
    each_told (AnswerEnds IsNoClose) (λ q. tt) (λ q. tt) (ident_requests d.body)
answers_none d c = search rules

bare_none : (d : DeviceSetup) (c : Command) → EachRow (BareEnds IsNoClose) (rows_of d c)
bare_none d (command.Ident addr) = each_told (BareEnds IsNoClose) (λ q. tt) (λ q. tt) (ident_requests d.body)
bare_none d c = search rules

-- and a put only where it is of a record that closes an order
abbrev PlainBehind : Then → Type 0
PlainBehind (ends_as end) = IsNoClose end
PlainBehind (if_posted of_reading) = IfEnd IsNoClose of_reading
PlainBehind behind = ⊤

abbrev PlainPut : TableRow → Type 0
PlainPut (puts_due due behind) = PlainBehind behind
PlainPut r = ⊤

puts_plain : (d : DeviceSetup) (c : Command) → EachRow PlainPut (rows_of d c)
puts_plain d (command.Ident addr) = each_told PlainPut (λ q. tt) (λ q. tt) (ident_requests d.body)
puts_plain d c = search rules

abbrev ByClose : Record → End → Type 0
ByClose r end = IsNoClose end ⊎ IsClosing r

if_plain : (r : Record) (end : Option End) → IfEnd IsNoClose end → IfEnd (ByClose r) end
if_plain r None plain = tt
if_plain r (Some end) plain = inl plain

behind_closes : (behind : Then) (r : Record) → PlainBehind behind → IfEnd (ByClose r) (end_by_record behind r)
behind_closes goes_on r plain = tt
behind_closes (ends_as end) r plain = inl plain
behind_closes if_quiet r plain = tt
behind_closes if_judged r plain = tt
behind_closes if_unmoved r plain = tt
behind_closes (path_told place) r plain = tt
behind_closes (if_posted of_reading) (record_of.Reading addr counter lost accepts coins) plain =
    if_plain (record_of.Reading addr counter lost accepts coins) of_reading plain
behind_closes (if_posted of_reading) (record_of.Broken addr seen counter lost accepts coins) plain = inl tt
behind_closes (if_posted of_reading) r plain = tt
behind_closes if_closed (record_of.Closed id paid unpaid) plain = inr tt
behind_closes if_closed (record_of.Odd id life_before life_after) plain = inr tt
behind_closes if_closed r plain = tt

kept_closes : (rows : List TableRow) (r : Record) → EachRow PlainPut rows → IfEnd (ByClose r) (end_kept rows r)
kept_closes [] r each = tt
kept_closes (puts_due reading behind ∷ rows) (record_of.Reading addr counter lost accepts coins) each =
    behind_closes behind (record_of.Reading addr counter lost accepts coins) each.0
kept_closes (puts_due reading behind ∷ rows) (record_of.Broken addr seen counter lost accepts coins) each =
    behind_closes behind (record_of.Broken addr seen counter lost accepts coins) each.0
kept_closes (puts_due reading behind ∷ rows) r each = kept_closes rows r each.1
kept_closes (puts_due (new_epoch mask) behind ∷ rows) r each = behind_closes behind r each.0
kept_closes (puts_due epoch_end behind ∷ rows) r each = behind_closes behind r each.0
kept_closes (puts_due (new_order id count) behind ∷ rows) r each = behind_closes behind r each.0
kept_closes (puts_due order_end behind ∷ rows) r each = behind_closes behind r each.0
kept_closes (puts_due (sale id price) behind ∷ rows) r each = behind_closes behind r each.0
kept_closes (asks_for q behind ∷ rows) r each = tt
kept_closes (asks_once q behind without ∷ rows) r each = tt
kept_closes (waits_for_coins ∷ rows) r each = tt

-- the ends of a payment close its order
pay_closes : (addr id count : ℕ) (end : End) → IsEndOf (command.Pay addr id count) end → IsNoClose end → ⊥
pay_closes addr id count Closed is none = none
pay_closes addr id count OddLife is none = none
pay_closes addr id count end is none = is

-- the record that a step puts where it shows the end of a payment at an address
pub record Closes (past : List Entry) (addr : ℕ) (news : List Entry) : Type 0 where
  pub closing : Record
  pub only : records news ≡ closing ∷ []
  pub closes : IsClosing closing
  pub owned : owner past closing ≡ addr

module _ (setup : Setup) (past : List Entry) (addr id count : ℕ) where
  Shows : List Entry → Type 0
  Shows news = ShowsEnd (command.Pay addr id count) addr news

  closes_of_no_job : (e : Entry) → IsOfNoJob e → Shows (e ∷ []) → ⊥
  unfolding Shows
  closes_of_no_job (entry.Ended at end) is shows = is
  closes_of_no_job e is shows = shows

  wire_closes : (at : ℕ) (e : Entry) (end : Option End) → IfEnd IsNoClose end → (Shows (e ∷ []) → ⊥) →
      Shows (with_end at e end) → ⊥
  unfolding Shows
  wire_closes at e None plain none shows = none shows
  wire_closes at e (Some end) plain none (inl here) = pay_closes addr id count end here.1 plain
  wire_closes at e (Some end) plain none (inr later) = none later

  put_closes : (at : ℕ) (r : Record) (end : Option End) → IfEnd (ByClose r) end → owner past r ≡ at →
      Shows (with_end at (entry.Put r) end) → Closes past addr (with_end at (entry.Put r) end)
  unfolding Shows
  put_closes at r None by own shows = absurd shows
  put_closes at r (Some end) (inl plain) own (inl here) = absurd (pay_closes addr id count end here.1 plain)
  put_closes at r (Some end) (inr closing) own (inl here) =
      record { closing = r; only = refl; closes = closing; owned = own ∙ here.0 }
  put_closes at r (Some end) by own (inr later) = absurd later

  there_closes : (capacity : ℕ) (d : DeviceSetup) (news : List Entry) (s : Step) → IsOf setup d → Ids setup past →
      AtDevice capacity setup d past s news → Shows news → Closes past addr news
  unfolding Shows
  there_closes capacity d _ _ own ids (came s e m ls comes) shows =
      absurd (closes_of_no_job e (came_of_no_job d (met d past) s e m ls comes) shows)
  there_closes capacity d _ _ own ids (took s c gives suited here is_free is_taken is_owed lets) shows = absurd shows
  there_closes capacity d _ _ own ids (halted paying can) shows = absurd shows
  there_closes capacity d _ _ own ids (idled is_free) shows = absurd shows
  there_closes capacity d _ _ own ids (made_exchange c since q at_work is_row) shows =
      let sent = ask d.kind d.addr q in
      absurd (wire_closes d.addr (wire_of setup d past q) (wire_end setup d past c since q)
      (exchange_end IsNoClose d c (asked d.kind sent) (got_by d sent (heard_after setup past sent)) since
      (epoch (lines_of d past)) (answers_none d c) (bare_none d c) tt) (λ none. none) shows)
  there_closes capacity d _ _ own ids (made_put c since r at_work is_row) shows =
      put_closes d.addr r (record_end d past c since r)
      (kept_closes (rest d c since) r (each_after PlainPut (rows_of d c) (done (rows_of d c) since) (puts_plain d c)))
      (put_owned setup past d c since r own ids at_work is_row) shows

  poll_closes : (e : Entry) (end : Option End) → 1 ≤ addr → (Shows (e ∷ []) → ⊥) → Shows (with_end 0 e end) → ⊥
  unfolding Shows
  poll_closes e None some none shows = none shows
  poll_closes e (Some end) some none (inl here) = let at = here.0 in omega (arith, some, at)
  poll_closes e (Some end) some none (inr later) = none later

  brought_closes : (capacity : ℕ) (news : List Entry) (s : Step) → 1 ≤ addr → Ids setup past →
      Brought capacity setup past s news → Shows news → Closes past addr news
  unfolding Shows
  brought_closes capacity _ _ some ids (of_device d s news own told) shows =
      there_closes capacity d news s own ids told shows
  brought_closes capacity _ _ some ids (faulted f) shows = absurd shows
  brought_closes capacity _ _ some ids (refused c why was) shows = absurd shows
  brought_closes capacity _ _ some ids (began_scan is_free) shows = absurd shows
  brought_closes capacity _ _ some ids (began_sale used price is_free lets) shows = absurd shows
  brought_closes capacity _ _ some ids (nobody at empty) shows = absurd shows
  brought_closes capacity _ _ some ids (polled c since check at empty is_job is_row) shows =
      absurd (poll_closes (poll_wire setup past check at) (poll_end setup past since check at) some (λ none. none) shows)
  brought_closes capacity _ _ some ids (sold used price since empty selling) (inl here) = absurd here.1
  brought_closes capacity _ _ some ids (sold used price since empty selling) (inr later) = absurd later
  brought_closes capacity _ _ some ids balanced shows = absurd shows
  brought_closes capacity _ _ some ids (of_desk s e is) shows = absurd (closes_of_no_job e (desk_of_no_job s e is) shows)
  brought_closes capacity _ _ some ids (ended_short at used many why paid left small range was) shows = absurd shows
  brought_closes capacity _ _ some ids (lost_power at choice) shows = absurd shows
  brought_closes capacity _ _ some ids (lost_in_put at choice d c since r own at_work is_row) shows = absurd shows
  brought_closes capacity _ _ some ids (lost_in_sale at choice used price since empty selling) shows = absurd shows

  -- so it is of all that a step reports
  pub step_closes : (capacity : ℕ) (news : List Entry) (s : Step) → 1 ≤ addr → Ids setup past →
      Telling capacity setup past s news → ShowsEnd (command.Pay addr id count) addr news → Closes past addr news
  unfolding Shows
  step_closes capacity news s some ids told =
      over_telling capacity setup past news s (λ es. Shows es → Closes past addr es)
      (λ es at before shows.
      let is = before shows in
      record { closing = is.closing; only = is.only; closes = is.closes; owned = is.owned }) told
      (brought_closes capacity told.told s some ids told.brings)
