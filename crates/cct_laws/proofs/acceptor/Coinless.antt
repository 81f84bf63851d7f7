-- A hopper posts nothing: no line of it shows money that was taken, so each is in order, and none
-- is lost at it in silence. So that holds of every device of a setup, of any kind.
use Rattle.std.proofs.Common.{refl, ◌≡◌, ℕ, cond, Bool, true, false, List, ◌∷◌, ◌++◌, subst, Option, Some, None, All, inl, inr, sym, ap, ◌∙◌}
use Rattle.std.specs.Prelude.{⊤}
use Rattle.cct_model.specs.terms.device.DeviceBody.{DeviceBody}
use Rattle.cct_model.specs.terms.device.DeviceBody.TheVariants.{Acceptor, Bill, Hopper}
use Rattle.cct_model.specs.terms.device.DeviceSetup.{DeviceSetup}
use Rattle.cct_model.specs.terms.device.Setup.{Setup}
use Rattle.cct_model.specs.terms.request.Request.{Request}
use Rattle.cct_model.specs.lines.record.Record.{Record}
use Rattle.cct_model.specs.lines.record.Record.TheVariants as record_of
use Rattle.cct_model.specs.declared.judging.EpochState.{EpochState}
use Rattle.cct_model.specs.declared.judging.Judged.{Judged}
use Rattle.cct_model.specs.declared.judging.OpenOrder.{OpenOrder}
use Rattle.cct_model.specs.lines.command.Command.{Command}
use Rattle.cct_model.specs.lines.command.Command.TheVariants as command
use Rattle.cct_model.specs.lines.command.Step.{Step}
use Rattle.cct_model.specs.lines.entry.End.{End}
use Rattle.cct_model.specs.lines.entry.End.TheVariants.{Clean, Moved}
use Rattle.cct_model.specs.lines.entry.Entry.{Entry}
use Rattle.cct_model.specs.Claims.{InOrder, Covers, Pace}
use Rattle.cct_model.specs.Device.{IsHopper}
use Rattle.cct_model.specs.Reply.{Reply}
use Rattle.cct_model.specs.History.{Met}
use Rattle.cct_model.specs.Hopper.{taken_of}
use Rattle.cct_model.specs.Honest.{Honest}
use Rattle.cct_model.specs.Job.{Noted, noted_in, judged_in, epoch, puts, ident_requests, address_of}
use Rattle.cct_model.specs.Rows.{row, end_of, done, Due, new_order, rows_of, order_end}
use Rattle.cct_model.specs.Legal.{Legal}
use Rattle.cct_model.specs.Line.{Line, exchange, put, restarted}
use Rattle.cct_model.specs.Order.{order, close}
use Rattle.cct_model.specs.Script.{IsInRange}
use Rattle.cct_model.specs.Setup.{IsSoundSetup}
use Rattle.cct_model.specs.Transcript.{dispensed_by, doses}
use Rattle.cct_laws.specs.DeviceJobs.{is_for_hopper, with_ended}
use Rattle.cct_laws.specs.KeptHopper.{IsKeptHopper}
use Rattle.cct_laws.specs.Law.{IsOf, lines_in}
use Rattle.cct_laws.specs.Scope.{EachHopper}
use Rattle.cct_laws.specs.Tallying.{AlwaysTallies}
use Rattle.cct_laws.proofs.orders.Closes.{closes_so}
use Rattle.cct_laws.proofs.acceptor.Acceptors.{put_other}
use Rattle.cct_laws.proofs.steps.EitherKind.{for_hopper, kind_of}
use Rattle.cct_laws.proofs.acceptor.Moves.{IfOther, IsOtherEnd, failure_other}
use Rattle.cct_laws.proofs.acceptor.Posts.{legal_in_order, legal_covers}
use Rattle.cct_laws.proofs.acceptor.Tallies.{always_tallied}
use Rattle.cct_model.proofs.Rows.{RowHolds, puts_only, answer_end, DueHolds, told_only, each_put}
use Rattle.cct_laws.proofs.steps.AllKept.{kept_hopper_legal}
use Rattle.cct_laws.proofs.orders.Commands.{hopper_ends}

-- what holds of the lines of a hopper
record Coinless (lines : List Line) : Type 0 where
  in_order : InOrder lines
  covers : Covers lines

-- a record of an order is none of an acceptor
abbrev IsOfOrder : Record → Type 0
IsOfOrder (record_of.Opened id addr count life) = ⊤
IsOfOrder (record_of.Closed id paid unpaid) = ⊤
IsOfOrder (record_of.Odd id life_before life_after) = ⊤
IsOfOrder r = ⊥

coinless_put : (lines : List Line) (r : Record) → IsOfOrder r → Coinless lines → Coinless (put r ∷ lines)
coinless_put lines (record_of.Opened id addr count life) of_order less =
    record { in_order = ((tt, tt), less.in_order); covers = (tt, less.covers) }
coinless_put lines (record_of.Closed id paid unpaid) of_order less =
    record { in_order = ((tt, tt), less.in_order); covers = (tt, less.covers) }
coinless_put lines (record_of.Odd id life_before life_after) of_order less =
    record { in_order = ((tt, tt), less.in_order); covers = (tt, less.covers) }
coinless_put lines r of_order less = absurd of_order

-- the rows of a hopper's jobs put no others
close_of_order : (o : OpenOrder) (life : ℕ) → IsOfOrder (close o life)
close_of_order o life = closes_so IsOfOrder o life (λ fits. tt) (λ over. tt)

abbrev is_order_due : Due → Bool
is_order_due (new_order id count) = true
is_order_due order_end = true
is_order_due due = false

hopper_dues : (d : DeviceSetup) (c : Command) → cond (is_for_hopper c) (puts_only is_order_due (rows_of d c)) true ≡ true
hopper_dues d (command.Ident addr) = told_only is_order_due (ident_requests d.body)
hopper_dues d c = refl

due_of_order : (addr : ℕ) (judged : Judged) (p : Noted) (due : Due) → is_order_due due ≡ true →
    DueHolds IsOfOrder addr judged p due
due_of_order addr judged p (new_order id count) is = λ life read. tt
due_of_order addr judged p order_end is = λ o life owed read. close_of_order o life
due_of_order addr judged p due is = absurd cc

puts_of_order : (d : DeviceSetup) (c : Command) (work : List Line) (state : EpochState) (owed : Option OpenOrder)
    (r : Record) → is_for_hopper c ≡ true → row d c work state owed ≡ puts r → IsOfOrder r
puts_of_order d c work state owed r suited is_row =
    let judged = judged_in c work state in
    let p = noted_in work owed in
    let only : puts_only is_order_due (rows_of d c) ≡ true =
    sym (ap (λ b. cond b (puts_only is_order_due (rows_of d c)) true) suited) ∙ hopper_dues d c in
    subst (RowHolds (λ q. ⊤) IsOfOrder) is_row
    (each_put IsOfOrder is_order_due d c (done (rows_of d c) work) judged p only (due_of_order (address_of c) judged p))

-- and end in no clean end
coinless_ended : (lines : List Line) (end : Option End) → IfOther end → Coinless lines → Coinless (with_ended end lines)
coinless_ended lines None other less = less
coinless_ended lines (Some Clean) other less = absurd other
coinless_ended lines (Some Moved) other less = absurd other
coinless_ended lines (Some end) other less =
    record { in_order = (tt, less.in_order); covers = (tt, less.covers) }

exchange_other : (d : DeviceSetup) (c : Command) (q : Request) (got : Option Reply) (work : List Line)
    (state : EpochState) → is_for_hopper c ≡ true → IfOther (end_of d c (exchange (Some q) got) work state)
exchange_other d c q (Some y) work state suited =
    answer_end IsOtherEnd d c (Some q) y work state (hopper_ends d c suited)
exchange_other d c q None work state suited = failure_other d c q work state

-- any other line is none of an acceptor: so is that of a dispense that was taken
coinless_more : (lines : List Line) (took : Option ℕ) → Coinless lines → Coinless (dispensed_by took ++ lines)
coinless_more lines None less = less
coinless_more lines (Some count) less = record { in_order = (tt, less.in_order); covers = (tt, less.covers) }

coinless_doses : (body : DeviceBody) (own : ℕ) (past : List Met) (asked : Option Request) (lines : List Line) →
    IsHopper body → Coinless lines → Coinless (doses body own past asked ++ lines)
coinless_doses (Acceptor accepts values ids) own past asked lines paying less = absurd paying
coinless_doses (Hopper life value) own past asked lines paying less = coinless_more lines (taken_of own past asked) less
coinless_doses (Bill accepts values ids) own past asked lines paying less = absurd paying

coinless_asks : (d : DeviceSetup) (past : List Met) (lines : List Line) (c : Command) (work : List Line) (q : Request)
    (asked : Option Request) (got : Option Reply) → IsHopper d.body → is_for_hopper c ≡ true → Coinless lines →
    Coinless (with_ended (end_of d c (exchange (Some q) got) work (epoch lines))
    (exchange (Some q) got ∷ doses d.body d.serial past asked ++ lines))
coinless_asks d past lines c work q asked got paying suited less =
    let dosed = coinless_doses d.body d.serial past asked lines paying less in
    coinless_ended (exchange (Some q) got ∷ doses d.body d.serial past asked ++ lines) _
    (exchange_other d c q got work (epoch lines) suited)
    (record { in_order = (tt, dosed.in_order); covers = (tt, dosed.covers) })

coinless_kept : (d : DeviceSetup) → IsHopper d.body → IsKeptHopper d (λ past lines. Coinless lines)
coinless_kept d paying = record {
  starts = record { in_order = tt; covers = tt };
  falls = λ past lines some less. record { in_order = (tt, less.in_order); covers = (tt, less.covers) };
  no_falls = λ past lines none less. less;
  jams = λ past lines less. less;
  resets = λ past lines less. record { in_order = (tt, less.in_order); covers = (tt, less.covers) };
  elsewhere = λ past lines asked others less. less;
  takes = λ past lines c no_job here in_range suited fine less.
      record { in_order = (tt, less.in_order); covers = (tt, less.covers) };
  halts = λ past lines can less. record { in_order = (tt, less.in_order); covers = (tt, less.covers) };
  restarts = λ past lines less. record { in_order = (tt, less.in_order); covers = (tt, less.covers) };
  asks = λ past lines c work q asked got at row_is fate less.
      coinless_asks d past lines c work q asked got paying (for_hopper d.body c paying at.suited) less;
  keeps = λ past lines c work r at row_is less.
      coinless_put (restarted ∷ lines) r
      (puts_of_order d c work (epoch lines) (order lines) r (for_hopper d.body c paying at.suited) row_is)
      (record { in_order = (tt, less.in_order); covers = (tt, less.covers) });
  puts = λ past lines c work r at row_is less.
      coinless_ended (put r ∷ lines) _ (put_other d c r work (epoch lines))
      (coinless_put lines r
      (puts_of_order d c work (epoch lines) (order lines) r (for_hopper d.body c paying at.suited) row_is) less);
}

legal_coinless : EachHopper (λ d transcript. InOrder (lines_in d transcript) × Covers (lines_in d transcript))
legal_coinless capacity setup steps transcript d sound own paying in_range legal honest =
    let less = kept_hopper_legal capacity setup steps transcript d (λ past lines. Coinless lines) sound own paying in_range
    legal honest (coinless_kept d paying) in
    (less.in_order, less.covers)

-- posts are accepted coins in their order, none twice, at a device of any kind
pub each_in_order : (capacity : ℕ) (setup : Setup) (steps : List Step) (transcript : List Entry)
    (d : DeviceSetup) → IsSoundSetup setup → IsOf setup d → All IsInRange steps →
    Legal capacity setup steps transcript → Honest transcript → InOrder (lines_in d transcript)
each_in_order capacity setup steps transcript d sound own in_range legal honest =
    elim (kind_of d.body) [
      | inl taking ↦ legal_in_order capacity setup steps transcript d sound own taking in_range legal honest
      | inr paying ↦ (legal_coinless capacity setup steps transcript d sound own paying in_range legal honest).0
    ]

-- under the pace no coin is lost in silence
pub each_covers : (capacity : ℕ) (setup : Setup) (steps : List Step) (transcript : List Entry)
    (d : DeviceSetup) → IsSoundSetup setup → IsOf setup d → All IsInRange steps →
    Legal capacity setup steps transcript → Honest transcript → Pace (lines_in d transcript) →
    Covers (lines_in d transcript)
each_covers capacity setup steps transcript d sound own in_range legal honest pace =
    elim (kind_of d.body) [
      | inl taking ↦ legal_covers capacity setup steps transcript d sound own taking in_range legal honest pace
      | inr paying ↦ (legal_coinless capacity setup steps transcript d sound own paying in_range legal honest).1
    ]

-- and after each line the coins up to the mark are as many as its records post and report as lost
pub each_tallies : (capacity : ℕ) (setup : Setup) (steps : List Step) (transcript : List Entry)
    (d : DeviceSetup) → IsSoundSetup setup → IsOf setup d → All IsInRange steps →
    Legal capacity setup steps transcript → Honest transcript → Pace (lines_in d transcript) →
    AlwaysTallies (lines_in d transcript)
each_tallies capacity setup steps transcript d sound own in_range legal honest pace =
    always_tallied (lines_in d transcript)
    (each_in_order capacity setup steps transcript d sound own in_range legal honest)
    (each_covers capacity setup steps transcript d sound own in_range legal honest pace)
