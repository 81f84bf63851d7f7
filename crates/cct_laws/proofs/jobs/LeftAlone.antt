-- What an entry leaves as it was: the job, the epoch and the open order of a device that it isn't of, and the sale.
use Rattle.std.proofs.Common.{◌≡◌, ◌≢◌, ℕ, ◌==◌, cond, List, [], ◌∷◌, ◌++◌, refl, ap, sym, ◌∙◌, subst, Option, Some, None, arith}
use Rattle.std.proofs.lemmas.Bool.{ne_eqb}
use Rattle.cct_model.specs.terms.wire.TheConstants.{HOST}
use Rattle.cct_model.specs.terms.device.DeviceSetup.{DeviceSetup}
use Rattle.cct_model.specs.terms.device.Setup.{Setup}
use Rattle.cct_model.specs.lines.record.Record.{Record}
use Rattle.cct_model.specs.lines.record.Record.TheVariants as record_of
use Rattle.cct_model.specs.lines.command.Command.{Command}
use Rattle.cct_model.specs.lines.command.Command.TheVariants as command
use Rattle.cct_model.specs.lines.command.Step.{Step}
use Rattle.cct_model.specs.lines.entry.End.{End}
use Rattle.cct_model.specs.lines.entry.Entry.{Entry}
use Rattle.cct_model.specs.lines.entry.Entry.TheVariants as entry
use Rattle.cct_model.specs.History.{Met}
use Rattle.cct_model.specs.Setup.{IsSoundSetup}
use Rattle.cct_model.specs.Exchange.{asked, asks_of}
use Rattle.cct_model.specs.Line.{Line, exchange, put, taken, ended}
use Rattle.cct_model.specs.Order.{order}
use Rattle.cct_model.specs.Job.{job, epoch, puts, address_of}
use Rattle.cct_model.specs.Rows.{TableRow, rest}
use Rattle.cct_model.specs.Legal.{with_end}
use Rattle.cct_model.specs.Records.{records}
use Rattle.cct_model.specs.Transcript.{met, owner, lines_of, sale_own, sale_lines, sold_line, heard_by_devices, pending, got_by, doses_of}
use Rattle.cct_laws.specs.Ids.{Ids}
use Rattle.cct_laws.specs.Law.{IsOf}
use Rattle.cct_laws.proofs.jobs.StepBrings.{Comes, takes_coin, leaves_coin, takes_bill, leaves_bill, leaves_alien, drops_coin, drops_none, jams, jams_none, is_reset, row_after, wire_of, wire_end, record_end, AtDevice, came, took, halted, idled, made_exchange, made_put}
use Rattle.cct_model.proofs.Doses.{job_undosed, epoch_undosed, order_undosed}
use Rattle.cct_laws.proofs.orders.Ids.{above_host, put_owned}
use Rattle.cct_laws.proofs.orders.Opening.{UsesOwn, row_own}
use Rattle.cct_model.proofs.Rows.{RowHolds}
use Rattle.cct_laws.proofs.jobs.SeenAtOne.{IsLoose, loose, loose_line}
use Rattle.std.specs.Prelude.{⊤}

-- lines show the same job, epoch and open order
pub record AreSame (one other : List Line) : Type 0 where
  pub jobs : job one ≡ job other
  pub epochs : epoch one ≡ epoch other
  pub orders : order one ≡ order other

pub same_lines : (one other : List Line) → one ≡ other → AreSame one other
same_lines one other is = record { jobs = ap job is; epochs = ap epoch is; orders = ap order is }

pub same_then : (one other last : List Line) → AreSame one other → AreSame other last → AreSame one last
same_then one other last first second = record {
  jobs = first.jobs ∙ second.jobs;
  epochs = first.epochs ∙ second.epochs;
  orders = first.orders ∙ second.orders;
}

-- what the device did in an exchange
pub same_dosed : (e : DeviceSetup) (past : List Entry) (sent : List ℕ) →
    AreSame (doses_of e past sent ++ lines_of e past) (lines_of e past)
same_dosed e past sent =
    let heard = asks_of e (heard_by_devices (pending past) sent) in
    record {
      jobs = job_undosed e.body e.serial (met e past) heard (lines_of e past);
      epochs = epoch_undosed e.body e.serial (met e past) heard (lines_of e past);
      orders = order_undosed e.body e.serial (met e past) heard (lines_of e past);
    }

-- what comes to a device changes none of them, nor the sale, and is no record
pub record Quiet (ls : List Line) (e : Entry) : Type 0 where
  pub same : (lines : List Line) → AreSame (ls ++ lines) lines
  pub no_sale : sale_own e ≡ []
  pub no_record : (past : List Entry) → records (e ∷ past) ≡ records past

quiet : (ls : List Line) (e : Entry) → ((lines : List Line) → job (ls ++ lines) ≡ job lines) →
    ((lines : List Line) → epoch (ls ++ lines) ≡ epoch lines) →
    ((lines : List Line) → order (ls ++ lines) ≡ order lines) → sale_own e ≡ [] →
    ((past : List Entry) → records (e ∷ past) ≡ records past) → Quiet ls e
quiet ls e jobs epochs orders no_sale no_record = record {
  same = λ lines. record { jobs = jobs lines; epochs = epochs lines; orders = orders lines };
  no_sale = no_sale;
  no_record = no_record;
}

pub came_quiet : (d : DeviceSetup) (past : List Met) (s : Step) (e : Entry) (m : Met) (ls : List Line) →
    Comes d past s e m ls → Quiet ls e
came_quiet d past _ _ _ _ (takes_coin place accepting is) =
    quiet _ _ (λ lines. refl) (λ lines. refl) (λ lines. refl) refl (λ older. refl)
came_quiet d past _ _ _ _ (leaves_coin place accepting is) =
    quiet _ _ (λ lines. refl) (λ lines. refl) (λ lines. refl) refl (λ older. refl)
came_quiet d past _ _ _ _ (takes_bill place banking is) =
    quiet _ _ (λ lines. refl) (λ lines. refl) (λ lines. refl) refl (λ older. refl)
came_quiet d past _ _ _ _ (leaves_bill place banking is) =
    quiet _ _ (λ lines. refl) (λ lines. refl) (λ lines. refl) refl (λ older. refl)
came_quiet d past _ _ _ _ (leaves_alien accepting) =
    quiet _ _ (λ lines. refl) (λ lines. refl) (λ lines. refl) refl (λ older. refl)
came_quiet d past _ _ _ _ (drops_coin paying is) =
    quiet _ _ (λ lines. refl) (λ lines. refl) (λ lines. refl) refl (λ older. refl)
came_quiet d past _ _ _ _ (drops_none paying is) =
    quiet _ _ (λ lines. refl) (λ lines. refl) (λ lines. refl) refl (λ older. refl)
came_quiet d past _ _ _ _ (jams paying is) =
    quiet _ _ (λ lines. refl) (λ lines. refl) (λ lines. refl) refl (λ older. refl)
came_quiet d past _ _ _ _ (jams_none paying is) =
    quiet _ _ (λ lines. refl) (λ lines. refl) (λ lines. refl) refl (λ older. refl)
came_quiet d past _ _ _ _ is_reset =
    quiet _ _ (λ lines. refl) (λ lines. refl) (λ lines. refl) refl (λ older. refl)

-- a device's own lines, and those of another, where something comes
pub same_came : (d : DeviceSetup) (past : List Entry) (s : Step) (x : Entry) (m : Met) (ls : List Line) →
    Comes d (met d past) s x m ls → AreSame (lines_of d (x ∷ past)) (lines_of d past)
same_came d past s x m ls comes =
    same_then (lines_of d (x ∷ past)) (ls ++ lines_of d past) (lines_of d past)
    (same_lines (lines_of d (x ∷ past)) (ls ++ lines_of d past)
    (loose_line d past s x m ls (loose d (met d past) s x m ls comes)))
    ((came_quiet d (met d past) s x m ls comes).same (lines_of d past))

came_away : (e : DeviceSetup) (past : List Entry) (addr : ℕ) (s : Step) (x : Entry) (m : Met) (ls : List Line) →
    addr ≢ e.addr → IsLoose addr s x m ls → lines_of e (x ∷ past) ≡ lines_of e past
came_away e past addr s x m ls other is =
    ap (λ front. front ++ lines_of e past)
    (is.own_is e past ∙ ap (λ b. cond b ls []) (ne_eqb addr e.addr other))

-- what is at another address
line_away : (addr there : ℕ) (l : Line) (lines : List Line) → addr ≢ there →
    cond (addr == there) (l ∷ []) [] ++ lines ≡ lines
line_away addr there l lines other = ap (λ b. cond b (l ∷ []) [] ++ lines) (ne_eqb addr there other)

pub same_taken : (e : DeviceSetup) (past : List Entry) (c : Command) → address_of c ≢ e.addr →
    AreSame (lines_of e (entry.Taken c ∷ past)) (lines_of e past)
same_taken e past c other = same_lines _ _ (line_away (address_of c) e.addr (taken c) (lines_of e past) other)

pub same_put : (e : DeviceSetup) (past : List Entry) (r : Record) → owner past r ≢ e.addr →
    AreSame (lines_of e (entry.Put r ∷ past)) (lines_of e past)
same_put e past r other = same_lines _ _ (line_away (owner past r) e.addr (put r) (lines_of e past) other)

pub same_end : (e : DeviceSetup) (past : List Entry) (addr : ℕ) (x : Entry) (end : Option End) → addr ≢ e.addr →
    AreSame (lines_of e (x ∷ past)) (lines_of e past) →
    AreSame (lines_of e (with_end addr x end ++ past)) (lines_of e past)
same_end e past addr x None other same = same
same_end e past addr x (Some end) other same =
    same_then (lines_of e (entry.Ended addr end ∷ x ∷ past)) (lines_of e (x ∷ past)) (lines_of e past)
    (same_lines _ _ (line_away addr e.addr (ended end) (lines_of e (x ∷ past)) other)) same

pub same_wire : (e : DeviceSetup) (past : List Entry) (addr : ℕ) (sent piece : List ℕ) → addr ≢ e.addr →
    AreSame (lines_of e (entry.Wire addr sent piece ∷ past)) (lines_of e past)
same_wire e past addr sent piece other =
    same_then (lines_of e (entry.Wire addr sent piece ∷ past)) (doses_of e past sent ++ lines_of e past)
    (lines_of e past)
    (same_lines _ _ (ap (λ b. (cond b (exchange (asked e.kind sent) (got_by e sent piece) ∷ []) []
    ++ doses_of e past sent) ++ lines_of e past) (ne_eqb addr e.addr other)))
    (same_dosed e past sent)

-- what a step brought at a device leaves every other as it was
pub same_elsewhere : (capacity : ℕ) (setup : Setup) (d e : DeviceSetup) (past news : List Entry) (s : Step) →
    Ids setup past → IsOf setup d → d.addr ≢ e.addr → AtDevice capacity setup d past s news →
    AreSame (lines_of e (news ++ past)) (lines_of e past)
same_elsewhere capacity setup d e past _ _ ids own other (came s x m ls comes) =
    same_lines _ _ (came_away e past d.addr s x m ls other (loose d (met d past) s x m ls comes))
same_elsewhere capacity setup d e past _ _ ids own other (took s c gives suited here is_free is_taken is_owed lets) =
    same_taken e past c (λ same. other (sym here ∙ same))
same_elsewhere capacity setup d e past _ _ ids own other (halted paying can) =
    same_taken e past (command.Halt d.addr) other
same_elsewhere capacity setup d e past _ _ ids own other (idled is_free) = same_lines _ _ refl
same_elsewhere capacity setup d e past _ _ ids own other (made_exchange c since q at_work is_row) =
    same_end e past d.addr (wire_of setup d past q) (wire_end setup d past c since q) other
    (same_wire e past d.addr _ _ other)
same_elsewhere capacity setup d e past _ _ ids own other (made_put c since r at_work is_row) =
    same_end e past d.addr (entry.Put r) (record_end d past c since r) other
    (same_put e past r (λ same. other (sym (put_owned setup past d c since r own ids at_work is_row) ∙ same)))

-- a device isn't at the address of sales
pub off_host : (setup : Setup) (e : DeviceSetup) → IsSoundSetup setup → IsOf setup e → HOST ≢ e.addr
off_host setup e sound own = λ same. let far = above_host setup e sound own in omega (arith, far, same)

-- and the sale
unsold_record : (r : Record) (addr : ℕ) (rows : List TableRow) → UsesOwn r addr rows → sold_line r ≡ []
unsold_record (record_of.Sold id price) addr rows uses_own = absurd uses_own
unsold_record r addr rows uses_own = refl

pub row_uses : (d : DeviceSetup) (past : List Entry) (c : Command) (since : List Line) (r : Record) →
    row_after d past c since ≡ puts r → UsesOwn r (address_of c) (rest d c since)
row_uses d past c since r is =
    subst (RowHolds (λ q. ⊤) (λ x. UsesOwn x (address_of c) (rest d c since))) is
    (row_own d c since (epoch (lines_of d past)) (order (lines_of d past)))

unsold_end : (past : List Entry) (addr : ℕ) (x : Entry) (end : Option End) → addr ≢ HOST → sale_own x ≡ [] →
    sale_lines (with_end addr x end ++ past) ≡ sale_lines past
unsold_end past addr x None other none = ap (λ ls. ls ++ sale_lines past) none
unsold_end past addr x (Some end) other none =
    line_away addr HOST (ended end) (sale_lines (x ∷ past)) other ∙ ap (λ ls. ls ++ sale_lines past) none

pub unsold : (capacity : ℕ) (setup : Setup) (d : DeviceSetup) (past news : List Entry) (s : Step) →
    d.addr ≢ HOST → AtDevice capacity setup d past s news → sale_lines (news ++ past) ≡ sale_lines past
unsold capacity setup d past _ _ other (came s x m ls comes) =
    ap (λ front. front ++ sale_lines past) (came_quiet d (met d past) s x m ls comes).no_sale
unsold capacity setup d past _ _ other (took s c gives suited here is_free is_taken is_owed lets) =
    line_away (address_of c) HOST (taken c) (sale_lines past) (λ same. other (sym here ∙ same))
unsold capacity setup d past _ _ other (halted paying can) =
    line_away d.addr HOST (taken (command.Halt d.addr)) (sale_lines past) other
unsold capacity setup d past _ _ other (idled is_free) = refl
unsold capacity setup d past _ _ other (made_exchange c since q at_work is_row) =
    unsold_end past d.addr (wire_of setup d past q) (wire_end setup d past c since q) other refl
unsold capacity setup d past _ _ other (made_put c since r at_work is_row) =
    unsold_end past d.addr (entry.Put r) (record_end d past c since r) other
    (unsold_record r (address_of c) (rest d c since) (row_uses d past c since r is_row))

-- the records after an entry and the end of a job
pub records_end : (past : List Entry) (addr : ℕ) (x : Entry) (end : Option End) →
    records (with_end addr x end ++ past) ≡ records (x ∷ past)
records_end past addr x None = refl
records_end past addr x (Some end) = refl
