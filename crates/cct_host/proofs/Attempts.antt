-- One attempt of a job at a place, and what it leaves.
use Rattle.std.proofs.Common.{◌≡◌, ℕ, zero, suc, List, [], ◌∷◌, ◌++◌, append_assoc, reverse, refl, sym, ap, subst, ◌∙◌, Option, Some, None}
use Rattle.std.specs.Prelude.{is_some, true}
use Rattle.std.specs.Option.{IfSome}
use Rattle.cct_model.specs.terms.wire.TheConstants.{HOST}
use Rattle.cct_model.specs.terms.device.DeviceSetup.{DeviceSetup}
use Rattle.cct_model.specs.terms.request.Request.{Request}
use Rattle.cct_model.specs.lines.record.Record.{Record}
use Rattle.cct_model.specs.lines.record.Record.TheVariants as record_of
use Rattle.cct_model.specs.lines.command.Command.{Command}
use Rattle.cct_model.specs.declared.judging.Judged.TheVariants.{Nothing}
use Rattle.cct_model.specs.lines.command.Command.TheVariants as command
use Rattle.cct_model.specs.lines.entry.End.{End}
use Rattle.cct_model.specs.lines.entry.Entry.{Entry}
use Rattle.cct_model.specs.lines.entry.Entry.TheVariants as entry
use Rattle.cct_model.specs.declared.judging.EpochState.{EpochState}
use Rattle.cct_model.specs.declared.judging.OpenOrder.{OpenOrder}
use Rattle.cct_model.specs.Exchange.{ask}
use Rattle.cct_model.specs.Line.{Line}
use Rattle.cct_model.specs.Line as line
use Rattle.cct_model.specs.Job as model
use Rattle.cct_model.specs.Rows as table
use Rattle.cct_model.specs.Job.{Noted, noted_in}
use Rattle.cct_model.specs.Rows.{row_of_sale, rows_of_sale, after, done, first}
use Rattle.cct_model.specs.Order.{order, order_by}
use Rattle.cct_model.specs.Legal.{PollEntries, RowEntries, SaleRowEntries, due_of, record_due, with_end}
use Rattle.cct_model.specs.Records.{id_of}
use Rattle.cct_model.specs.Scan.{end_of_scan}
use Rattle.cct_model.specs.Transcript.{lines_of, owner, sale_lines, scan_line, sold_line}
use Rattle.cct_jobs.specs.declared.job.Job.{Job}
use Rattle.cct_jobs.specs.declared.job.Job.TheVariants as jobs
use Rattle.cct_jobs.specs.declared.job.Need.TheVariants as need
use Rattle.cct_jobs.specs.declared.owed.Owed.{Owed}
use Rattle.cct_host.specs.declared.orders.OrderState.{OrderState}
use Rattle.cct_jobs.specs.Jobs.{ClosesItsOwn, Needs, PutsNext, Stands, after_put, line_heard, need_of, order_of, owed_after, sending_of}
use Rattle.cct_jobs.specs.Sales.{NeedsSale, StandsSale}
use Rattle.cct_jobs.specs.Scans.{NeedsScan, StandsScan}
use Rattle.cct_jobs.proofs.Epochs.{put_leaves}
use Rattle.cct_jobs.proofs.Needs.{need_known, put_is, scan_need_known}
use Rattle.cct_jobs.proofs.Orders.{put_owes}
use Rattle.cct_jobs.proofs.Sales.{put_sells, sale_need_known, sale_owes}
use Rattle.cct_host.specs.declared.desk.JobDesk.{JobDesk}
use Rattle.cct_host.specs.Attempt as attempt
use Rattle.cct_host.specs.Desk.{Attempts, Goes, Keeps, Knows, Works}
use Rattle.cct_host.specs.Exchange.{Converses, Ends, Exchanges, Puts, Talks}
use Rattle.cct_host.specs.Held.{due_by, piece_of}
use Rattle.cct_host.specs.Place.{Asks, AsksNext, NextAt, OwnsAt, Place, StandsAt, addr_of, device, end_at, line_at, lines_at, sales, scans}
use Rattle.cct_host.specs.Running.{Settles, is_running, orders_left}
use Rattle.cct_host.proofs.Holding.{asks_where_none}
use Rattle.cct_host.proofs.Keeps.{asked_keeps, knows_same, left_keeps, put_keeps, sold_keeps}
use Rattle.cct_host.proofs.Lines.{HasExchanges, dosed_at, end_at_too, epoch_dosed, idle_at, idle_line, job_dosed, order_dosed, own_wire, put_at, wire_at}

-- wherever a job is, its row sends something next
abbrev AsksOn : Job → Type 0
AsksOn job = (place : Place) (c : Command) (since : List Line) (n : EpochState) (owed : Option OpenOrder)
    → StandsAt place job c since n owed → AsksNext place c since n owed

-- a job at a device puts this record next, goes on by it, and its put moves the open order
pub record PutsOn (old new : Job) (r : Record) (before after : Option Owed) : Type 0 where
  pub needs : (d : DeviceSetup) (c : Command) (since : List Line) (n : EpochState) (owed : Option OpenOrder)
      → Stands d old c since n owed → PutsNext r d c since n owed
  pub goes : (d : DeviceSetup) (c : Command) (since : List Line) (n later : EpochState) (owed : Option OpenOrder)
      → Stands d old c since n owed → Stands d new c (line.put r ∷ since) later (order_by r owed)
  pub owes : (d : DeviceSetup) (c : Command) (since : List Line) (n : EpochState)
      → Stands d old c since n (order_of before) → order_of after ≡ order_by r (order_of before)

-- a sale does so too, and owes nothing by it
pub record SellsOn (old new : Job) (r : Record) (before after : Option Owed) : Type 0 where
  pub needs : (c : Command) (since : List Line) → StandsSale old c since → row_of_sale c since ≡ model.puts r
  pub goes : (c : Command) (since : List Line) → StandsSale old c since → StandsSale new c (line.put r ∷ since)
  pub owes : (c : Command) (since : List Line) → StandsSale old c since → after ≡ before

-- it is no scan
abbrev IsNoScan : Job → Type 0
IsNoScan job = (since : List Line) → StandsScan job since → ⊥

-- who asks makes exchanges
has_exchanges : (place : Place) (c : Command) (since : List Line) (n : EpochState) (owed : Option OpenOrder)
    → AsksNext place c since n owed → HasExchanges place
has_exchanges (device d) c since n owed asks = tt
has_exchanges scans c since n owed asks = tt
has_exchanges sales c since n owed asks = absurd asks

-- what a sale puts is one
vend_sold : (id price rows : ℕ) (p : Noted) (r : Record)
    → first HOST Nothing p (after (rows_of_sale (command.Vend id price)) rows) ≡ model.puts r → record_of.Sold id price ≡ r
vend_sold id price zero p r is = cc
vend_sold id price (suc rows) p r is = absurd cc

row_sold : (c : Command) (since : List Line) (r : Record) (past : List Entry) → row_of_sale c since ≡ model.puts r
    → (owner past r ≡ HOST) × (sold_line r ≡ line.put r ∷ [])
row_sold (command.Vend id price) since r past is =
    subst (λ x. (owner past x ≡ HOST) × (sold_line x ≡ line.put x ∷ [])) (vend_sold id price (done (rows_of_sale (command.Vend id price)) since) (noted_in since None) r is)
    (refl, refl)
row_sold c since r past is = absurd cc

-- what a report shows after an entry, and the end that it brought
reported_with : (report told reported : List Entry) (addr : ℕ) (e : Entry) (end : Option End) (new : Job)
    (kept : Option Job) → told ≡ report ++ e ∷ []
    → Settles end new addr kept told reported → reported ≡ report ++ reverse (with_end addr e end)
reported_with report told reported addr e None new kept told_is settled = settled.1 ∙ told_is
reported_with report told reported addr e (Some end) new kept told_is settled =
    settled.1 ∙ ap (λ es. es ++ entry.Ended addr end ∷ []) told_is
    ∙ append_assoc report (e ∷ []) (entry.Ended addr end ∷ [])

-- a job that puts a record sends nothing
pub puts_alone : (job : Job) (r : Record) → due_by (Some job) ≡ Some r → sending_of job ≡ None
puts_alone (jobs.Asks target stage failed) r due = absurd cc
puts_alone (jobs.ScanCallsSimple failed) r due = absurd cc
puts_alone (jobs.ScanCallsCrc failed listed) r due = absurd cc
puts_alone (jobs.ScanPollsSimple addr left listed) r due = absurd cc
puts_alone (jobs.ScanPollsCrc addr left listed) r due = absurd cc
puts_alone job r due = refl

-- no job: the address is idle
idle_by : (hears : List ℕ → List ℕ) (place : Place) (past : List Entry) (state : EpochState) (owed : Option OpenOrder)
    (j : model.Job) → Works place None j state owed → NextAt hears place past j (entry.Idle (addr_of place) ∷ [])
idle_by hears (device d) past state owed model.free works = refl
idle_by hears scans past state owed model.free works = refl
idle_by hears sales past state owed model.free works = refl
idle_by hears place past state owed (model.works c since) works = absurd works

idle_goes : (hears : List ℕ → List ℕ) (place : Place) (past : List Entry) (state : EpochState) (owed : OrderState)
    → Keeps place None state owed (lines_at place past)
    → Goes hears place past (entry.Idle (addr_of place) ∷ []) None state owed
idle_goes hears place past state owed keeps = record {
  entries = idle_by hears place past _ _ (model.job (lines_at place past)) keeps.works;
  at = idle_at (addr_of place) past;
  keeps = subst (Keeps place None state owed) (sym (idle_line (addr_of place) place past)) keeps;
}

pub idle_attempts : {L : Type 0} (gives : L → List ℕ → List ℕ → L → Type 0) (link : L) (addr : ℕ) (state : EpochState)
    (owed : OrderState) (desk : JobDesk) (report reported : List Entry)
    → desk.job ≡ None → desk.epoch ≡ state → desk.orders ≡ owed → reported ≡ report ++ entry.Idle addr ∷ []
    → Attempts gives link link addr None state owed desk 0 report reported
idle_attempts gives link addr state owed desk report reported none same ordered is = record {
  what = attempt.idle;
  reported_is = is;
  link = refl;
  put_is = refl;
  sent_is = refl;
  used_is = refl;
  goes = λ hears place past heard at keeps owns.
      subst (λ a. Goes hears place past (entry.Idle a ∷ []) desk.job desk.epoch desk.orders) at
      (subst (λ j. Goes hears place past (entry.Idle (addr_of place) ∷ []) j desk.epoch desk.orders) (sym none)
      (subst (λ n. Goes hears place past (entry.Idle (addr_of place) ∷ []) None n desk.orders) (sym same)
      (subst (λ o. Goes hears place past (entry.Idle (addr_of place) ∷ []) None state o) (sym ordered)
      (idle_goes hears place past state owed keeps))));
}

-- the entries of an exchange
device_entries : (hears : List ℕ → List ℕ) (d : DeviceSetup) (past : List Entry) (c : Command) (since : List Line)
    (q : Request) (sent heard : List ℕ) (end : Option End)
    → sent ≡ ask d.kind d.addr q → heard ≡ hears sent
    → end ≡ table.end_of d c (line_heard d sent heard) since (model.epoch (lines_of d past))
    → RowEntries hears d past c since (model.sends q) (with_end d.addr (entry.Wire d.addr sent heard) end)
device_entries hears d past c since q sent heard end sent_is heard_is end_is =
    let n = model.epoch (lines_of d past) in
    subst (λ s. with_end d.addr (entry.Wire d.addr sent heard) end ≡ with_end d.addr (entry.Wire d.addr s (hears s))
    (table.end_of d c (line_heard d s (hears s)) since n)) sent_is
    (ap (with_end d.addr (entry.Wire d.addr sent heard)) end_is
    ∙ ap (λ p. with_end d.addr (entry.Wire d.addr sent p) (table.end_of d c (line_heard d sent p) since n)) heard_is)

asked_entries : (hears : List ℕ → List ℕ) (place : Place) (past : List Entry) (c : Command) (since : List Line)
    (sent heard : List ℕ) (end : Option End)
    → Asks place c since (model.epoch (lines_at place past)) (order (lines_at place past)) sent → heard ≡ hears sent
    → end ≡ end_at place c (line_at place sent heard) since (model.epoch (lines_at place past))
    → NextAt hears place past (model.works c since)
    (with_end (addr_of place) (entry.Wire (addr_of place) sent heard) end)
asked_entries hears (device d) past c since sent heard end asks heard_is end_is =
    subst (λ r. RowEntries hears d past c since r (with_end d.addr (entry.Wire d.addr sent heard) end)) (sym asks.1)
    (device_entries hears d past c since asks.0 sent heard end asks.2 heard_is end_is)
asked_entries hears scans past c since sent heard end asks heard_is end_is =
    let a = addr_of scans in
    subst (λ r. PollEntries hears since r (with_end a (entry.Wire a sent heard) end)) (sym asks.1)
    (subst (λ s. with_end a (entry.Wire a sent heard) end ≡ with_end a (entry.Wire a s (hears s))
    (end_of_scan (scan_line s (hears s) ∷ since))) asks.2
    (ap (with_end a (entry.Wire a sent heard)) end_is
    ∙ ap (λ p. with_end a (entry.Wire a sent p) (end_of_scan (scan_line sent p ∷ since))) heard_is))
asked_entries hears sales past c since sent heard end asks heard_is end_is = absurd asks

-- a job that is beside the epoch and the open order of a place is beside those of its lines over a dose
stands_dosed : (place : Place) (past : List Entry) (sent : List ℕ) (job : Job) (c : Command) (since : List Line)
    → StandsAt place job c since (model.epoch (lines_at place past)) (order (lines_at place past))
    → StandsAt place job c since (model.epoch (dosed_at place past sent ++ lines_at place past))
    (order (dosed_at place past sent ++ lines_at place past))
stands_dosed place past sent job c since stands =
    subst (λ n. StandsAt place job c since n (order (dosed_at place past sent ++ lines_at place past)))
    (sym (epoch_dosed place past sent))
    (subst (λ o. StandsAt place job c since (model.epoch (lines_at place past)) o) (sym (order_dosed place past sent))
    stands)

asked_by : (hears : List ℕ → List ℕ) (place : Place) (past : List Entry) (old new : Job) (state : EpochState)
    (owed : OrderState) (sent heard : List ℕ) (end : Option End) (kept : Option Job) (told reported : List Entry)
    (j : model.Job) → model.job (lines_at place past) ≡ j
    → Works place (Some old) j (model.epoch (lines_at place past)) (order (lines_at place past))
    → Knows place state owed (lines_at place past)
    → AsksOn old → Talks old sent heard new → Ends new end → heard ≡ hears sent
    → Settles end new (addr_of place) kept told reported
    → Goes hears place past (with_end (addr_of place) (entry.Wire (addr_of place) sent heard) end) kept state
    (orders_left kept owed)
asked_by hears place past old new state owed sent heard end kept told reported model.free was works knows needs talks
    ends heard_is settled = absurd works
asked_by hears place past old new state owed sent heard end kept told reported (model.works c since) was works knows
    needs talks ends heard_is settled =
    let n = model.epoch (lines_at place past) in
    let o = order (lines_at place past) in
    let e = entry.Wire (addr_of place) sent heard in
    let asks = needs place c since n o works in
    let after = talks place c since n o works asks in
    record {
      entries = subst (λ k. NextAt hears place past k (with_end (addr_of place) e end)) (sym was)
          (asked_entries hears place past c since sent heard end after.0 heard_is
          (ends place c (line_at place sent heard) since n o after.1));
      at = end_at_too (addr_of place) past e end (wire_at (addr_of place) past sent heard);
      keeps = left_keeps place kept new state owed past e end told reported settled
          (subst (Keeps place (Some new) state owed)
          (sym (own_wire place sent heard past (has_exchanges place c since n o asks)))
          (asked_keeps place c since state owed sent heard new (dosed_at place past sent ++ lines_at place past)
          (stands_dosed place past sent new c (line_at place sent heard ∷ since) after.1)
          (job_dosed place past sent ∙ was)
          (knows_same place state owed (lines_at place past) (dosed_at place past sent ++ lines_at place past)
          (job_dosed place past sent) (epoch_dosed place past sent) (order_dosed place past sent) knows)));
    }

-- a job asks
pub ask_attempts : {L : Type 0} (gives : L → List ℕ → List ℕ → L → Type 0) (before after : L) (addr : ℕ) (old new : Job)
    (state : EpochState) (owed : OrderState) (desk : JobDesk) (end : Option End) (report told reported : List Entry)
    → AsksOn old → due_by (Some old) ≡ None → Converses gives before after addr old new report told → Ends new end
    → Settles end new addr desk.job told reported
    → desk.epoch ≡ state → desk.orders ≡ orders_left desk.job owed
    → Attempts gives before after addr (Some old) state owed desk 0 report reported
ask_attempts gives before after addr old new state owed desk end report told reported needs none talk ends settled same
    ordered = record {
      what = attempt.asked talk.sent talk.heard end;
      reported_is = reported_with report told reported addr (entry.Wire addr talk.sent talk.heard) end new desk.job
          talk.reported_is settled;
      link = talk.goes;
      put_is = sym none;
      sent_is = sym talk.asks;
      used_is = refl;
      goes = λ hears place past heard_is at keeps owns.
          let news = with_end addr (entry.Wire addr talk.sent talk.heard) end in
          subst (λ n. Goes hears place past news desk.job n desk.orders) (sym same)
          (subst (λ o. Goes hears place past news desk.job state o) (sym ordered)
          (subst (λ a. Settles end new a desk.job told reported
          → Goes hears place past (with_end a (entry.Wire a talk.sent talk.heard) end) desk.job state
          (orders_left desk.job owed)) at
          (λ s. asked_by hears place past old new state owed talk.sent talk.heard end desk.job told reported
          (model.job (lines_at place past)) refl keeps.works keeps.knows needs talk.talks ends heard_is s) settled));
    }

-- the record that is due
due_owns : (past : List Entry) (addr : ℕ) (r : Record) (due : Option Record) → due ≡ Some r
    → IfSome due (ClosesItsOwn past addr) → ClosesItsOwn past addr r
due_owns past addr r due is owns = subst (λ x. IfSome x (ClosesItsOwn past addr)) is owns

-- what a put leaves
put_by : (hears : List ℕ → List ℕ) (place : Place) (past : List Entry) (old new : Job) (r : Record)
    (state last : EpochState) (owed left : OrderState) (end : Option End) (kept : Option Job)
    (told reported : List Entry) (j : model.Job) → model.job (lines_at place past) ≡ j
    → Works place (Some old) j (model.epoch (lines_at place past)) (order (lines_at place past))
    → Knows place state owed (lines_at place past) → OwnsAt place past → last ≡ model.epoch_by r state
    → PutsOn old new r owed.order left.order → IsNoScan old → SellsOn old new r owed.order left.order
    → left.id ≡ owed.id → left.begun ≡ owed.begun → Ends new end
    → Settles end new (addr_of place) kept told reported
    → Goes hears place past (with_end (addr_of place) (entry.Put r) end) kept last (orders_left kept left)
put_by hears place past old new r state last owed left end kept told reported model.free was works knows owns moved
    puts_on no_scan sells same begun ends settled = absurd works
put_by hears scans past old new r state last owed left end kept told reported (model.works c since) was works knows
    owns moved puts_on no_scan sells same begun ends settled = absurd (no_scan since works)
put_by hears sales past old new r state last owed left end kept told reported (model.works c since) was works knows
    owns moved puts_on no_scan sells same begun ends settled =
    let row = sells.needs c since works in
    let sold = row_sold c since r past row in
    let after = sells.goes c since works in
    record {
      entries = subst (λ k. NextAt hears sales past k (with_end HOST (entry.Put r) end)) (sym was)
          (subst (λ x. SaleRowEntries c since x (with_end HOST (entry.Put r) end)) (sym row)
          (ap (with_end HOST (entry.Put r)) (ends sales c (line.put r) since (model.epoch (sale_lines past))
          (order (sale_lines past)) after)));
      at = end_at_too HOST past (entry.Put r) end (put_at HOST past r sold.0);
      keeps = left_keeps sales kept new last left past (entry.Put r) end told reported settled
          (sold_keeps c since r past last left new sold.1 after was (sells.owes c since works ∙ knows.0)
          (same ∙ knows.1) (begun ∙ knows.2));
    }
put_by hears (device d) past old new r state last owed left end kept told reported (model.works c since) was works knows
    owns moved puts_on no_scan sells same begun ends settled =
    let n = model.epoch (lines_of d past) in
    let o = order (lines_of d past) in
    let puts = puts_on.needs d c since n o works in
    let own : owner past r ≡ d.addr =
    puts.owned past (due_owns past d.addr r _ (ap (due_of d (lines_of d past)) was ∙ ap record_due puts.row_is) owns) in
    let end_is : end ≡ table.end_of d c (line.put r) since n =
    ends (device d) c (line.put r) since n (order_by r o) (puts_on.goes d c since n n o works) in
    record {
      entries = subst (λ k. NextAt hears (device d) past k (with_end d.addr (entry.Put r) end)) (sym was)
          (subst (λ x. RowEntries hears d past c since x (with_end d.addr (entry.Put r) end)) (sym puts.row_is)
          (ap (with_end d.addr (entry.Put r)) end_is));
      at = end_at_too d.addr past (entry.Put r) end (put_at d.addr past r own);
      keeps = left_keeps (device d) kept new last left past (entry.Put r) end told reported settled
          (put_keeps d c since r past last left new own (λ after. puts_on.goes d c since n after o works) was
          (moved ∙ ap (model.epoch_by r) knows.0)
          (puts_on.owes d c since n (subst (Stands d old c since n) (sym knows.1) works) ∙ ap (order_by r) knows.1)
          (same ∙ knows.2) (begun ∙ knows.3));
    }

-- a job puts its record
pub put_attempts : {L : Type 0} (gives : L → List ℕ → List ℕ → L → Type 0) (link : L) (addr : ℕ) (old new : Job)
    (r : Record) (state : EpochState) (owed moves : OrderState) (desk : JobDesk) (used : ℕ) (end : Option End)
    (report told reported : List Entry)
    → PutsOn old new r owed.order moves.order → due_by (Some old) ≡ Some r → IsNoScan old
    → SellsOn old new r owed.order moves.order → moves.id ≡ owed.id → moves.begun ≡ owed.begun → Ends new end
    → told ≡ report ++ entry.Put r ∷ [] → Settles end new addr desk.job told reported
    → desk.epoch ≡ model.epoch_by r state → desk.orders ≡ orders_left desk.job moves → used ≡ id_of r
    → Attempts gives link link addr (Some old) state owed desk used report reported
put_attempts gives link addr old new r state owed moves desk used end report told reported puts_on due no_scan sells
    same begun ends told_is settled moved left used_is = record {
      what = attempt.put r end;
      reported_is = reported_with report told reported addr (entry.Put r) end new desk.job told_is settled;
      link = refl;
      put_is = sym due;
      sent_is = sym (ap piece_of (puts_alone old r due));
      used_is = used_is;
      goes = λ hears place past heard_is at keeps owns.
          subst (λ o. Goes hears place past (with_end addr (entry.Put r) end) desk.job desk.epoch o) (sym left)
          (subst (λ a. Settles end new a desk.job told reported
          → Goes hears place past (with_end a (entry.Put r) end) desk.job desk.epoch (orders_left desk.job moves)) at
          (λ s. put_by hears place past old new r state desk.epoch owed moves end desk.job told reported
          (model.job (lines_at place past)) refl keeps.works keeps.knows owns moved puts_on no_scan sells same
          begun ends s) settled);
    }

-- what a job needs, wherever it is
asks_next : (job : Job) → need_of job ≡ need.Exchange → AsksOn job
asks_next job is (device d) c since state owed stands =
    subst (λ n. Needs n d c since state owed) is (need_known d job c since state owed _ refl stands)
asks_next job is scans c since state owed stands =
    subst (λ n. NeedsScan n since) is (scan_need_known job since _ refl stands)
asks_next job is sales c since state owed stands =
    subst (λ n. NeedsSale n c since) is (sale_need_known job c since _ refl stands)

puts_next : (job : Job) (r : Record) (before after : Option Owed) → need_of job ≡ need.Put r
    → after ≡ owed_after job before → PutsOn job (after_put job) r before after
puts_next job r before after is ordered = record {
  needs = λ d c since state owed stands.
      subst (λ n. Needs n d c since state owed) is (need_known d job c since state owed _ refl stands);
  goes = λ d c since state later owed stands. put_leaves d job c since state later owed r is stands;
  owes = λ d c since state stands. put_owes d job c since state before after r ordered is stands;
}

sells_next : (job : Job) (r : Record) (before after : Option Owed) → need_of job ≡ need.Put r
    → after ≡ owed_after job before → SellsOn job (after_put job) r before after
sells_next job r before after is ordered = record {
  needs = λ c since stands. subst (λ n. NeedsSale n c since) is (sale_need_known job c since _ refl stands);
  goes = λ c since stands. put_sells job (after_put job) c since r refl is stands;
  owes = λ c since stands. sale_owes job c since before after ordered stands;
}

no_scan : (job : Job) (r : Record) → need_of job ≡ need.Put r → IsNoScan job
no_scan job r is since stands = subst (λ n. NeedsScan n since) is (scan_need_known job since _ refl stands)

-- the job at a desk makes an exchange, and this stays of it
pub desk_asks : {L : Type 0} (gives : L → List ℕ → List ℕ → L → Type 0) (before after : L) (addr : ℕ) (job : Option Job)
    (state : EpochState) (owed : OrderState) (desk : JobDesk) (report reported : List Entry)
    → is_some job ≡ true → is_running job ≡ true → due_by job ≡ None
    → IfSome job (λ old. Exchanges gives before after addr old desk.job report reported)
    → desk.epoch ≡ state → desk.orders ≡ orders_left desk.job owed
    → Attempts gives before after addr job state owed desk 0 report reported
desk_asks gives before after addr None state owed desk report reported there runs none exchanges same ordered = absurd cc
desk_asks gives before after addr (Some job) state owed desk report reported there runs none exchanges same ordered =
    ask_attempts gives before after addr job exchanges.new state owed desk _ report exchanges.told reported
    (asks_next job (asks_where_none job runs none)) none exchanges.converses exchanges.ends exchanges.settles same
    ordered

-- or puts the record that was due
pub desk_puts : {L : Type 0} (gives : L → List ℕ → List ℕ → L → Type 0) (link : L) (addr : ℕ) (job : Option Job)
    (r : Record) (state : EpochState) (owed : OrderState) (after : Option Owed) (desk : JobDesk) (used : ℕ)
    (report reported : List Entry)
    → is_some job ≡ true → due_by job ≡ Some r → IfSome job (λ old. after ≡ owed_after old owed.order)
    → IfSome job (λ old. Puts addr old r desk.job report reported)
    → desk.epoch ≡ model.epoch_by r state
    → desk.orders ≡ orders_left desk.job (record { order = after; id = owed.id; begun = owed.begun })
    → used ≡ id_of r → Attempts gives link link addr job state owed desk used report reported
desk_puts gives link addr None r state owed after desk used report reported there due ordered puts moved left used_is =
    absurd cc
desk_puts gives link addr (Some job) r state owed after desk used report reported there due ordered puts moved left
    used_is =
    let is = sym (put_is (need_of job) r (sym due)) in
    put_attempts gives link addr job (after_put job) r state owed
    (record { order = after; id = owed.id; begun = owed.begun }) desk used _
    report _ reported (puts_next job r owed.order after is ordered) due (no_scan job r is)
    (sells_next job r owed.order after is ordered) refl refl puts.ends refl puts.settles moved left used_is
