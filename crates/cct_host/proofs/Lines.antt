-- Which lines an entry is at which place.
use Rattle.std.proofs.Common.{◌≡◌, ◌≢◌, ℕ, ◌==◌, Bool, true, false, cond, List, [], ◌∷◌, ◌++◌, append_assoc, refl, sym, ap, ◌∙◌, eq-eqb, arith, Option, Some, None}
use Rattle.std.specs.Prelude.{max, ⊤}
use Rattle.std.proofs.Math.Nat.{zero-max}
use Rattle.std.proofs.lemmas.Bool.Decides.{nat_tests}
use Rattle.cct_model.specs.terms.coin.Coin.{Coin}
use Rattle.cct_model.specs.terms.wire.CheckKind.TheVariants.{Simple, Crc}
use Rattle.cct_model.specs.terms.wire.TheConstants.{HOST}
use Rattle.cct_model.specs.terms.device.DeviceSetup.{DeviceSetup}
use Rattle.cct_model.specs.lines.record.Record.{Record}
use Rattle.cct_model.specs.lines.record.Record.TheVariants as record_of
use Rattle.cct_model.specs.lines.command.Command.{Command}
use Rattle.cct_model.specs.lines.command.CommandNo.{CommandNo}
use Rattle.cct_model.specs.lines.command.WireFault.{WireFault}
use Rattle.cct_model.specs.lines.entry.End.{End}
use Rattle.cct_model.specs.lines.entry.Entry.{Entry}
use Rattle.cct_model.specs.lines.entry.Entry.TheVariants as entry
use Rattle.cct_model.specs.Line.{Line}
use Rattle.cct_model.specs.Line as line
use Rattle.cct_model.specs.Job as model
use Rattle.cct_model.specs.Job.{address_of}
use Rattle.cct_model.specs.Order.{order}
use Rattle.cct_model.specs.Legal.{command_entry, with_end}
use Rattle.cct_model.specs.Records.{greatest_id, id_of, records}
use Rattle.cct_model.specs.Transcript.{doses_of, heard_by_devices, lines_of, met, owner, pending, sale_lines, scan_line, scan_lines, sold_line}
use Rattle.cct_model.specs.Exchange.{asks_of}
use Rattle.cct_model.proofs.Doses.{epoch_undosed, job_undosed, order_undosed}
use Rattle.cct_host.specs.Attempt.{Attempt, news_of, used_by}
use Rattle.cct_host.specs.Attempt as attempt
use Rattle.cct_host.specs.Place.{AreAt, IsAsBefore, Place, addr_of, device, line_at, lines_at, sales, scans}

-- what is at an address, where that is a place's
abbrev pub only : ℕ → Place → Line → List Line
only addr place x = cond (addr == addr_of place) (x ∷ []) []

other_test : (a b : ℕ) → b ≢ a → (a == b) ≡ false
other_test a b e = grind (arith, nat_tests)

elsewhere : (addr : ℕ) (place : Place) (x : Line) (lines : List Line) → addr_of place ≢ addr
    → only addr place x ++ lines ≡ lines
elsewhere addr place x lines other =
    ap (λ b. cond b (x ∷ []) [] ++ lines) (other_test addr (addr_of place) other)

here : (addr : ℕ) (place : Place) (x : Line) (lines : List Line) → addr ≡ addr_of place
    → only addr place x ++ lines ≡ x ∷ lines
here addr place x lines is = ap (λ b. cond b (x ∷ []) [] ++ lines) (eq-eqb addr (addr_of place) is)

-- what the device of a place takes in an exchange
abbrev pub dosed_at : Place → List Entry → List ℕ → List Line
dosed_at (device d) past sent = doses_of d past sent
dosed_at scans past sent = []
dosed_at sales past sent = []

-- it changes no job, no epoch and no open order
pub job_dosed : (place : Place) (past : List Entry) (sent : List ℕ)
    → model.job (dosed_at place past sent ++ lines_at place past) ≡ model.job (lines_at place past)
job_dosed (device d) past sent =
    job_undosed d.body d.serial (met d past) (asks_of d (heard_by_devices (pending past) sent)) (lines_of d past)
job_dosed scans past sent = refl
job_dosed sales past sent = refl

pub epoch_dosed : (place : Place) (past : List Entry) (sent : List ℕ)
    → model.epoch (dosed_at place past sent ++ lines_at place past) ≡ model.epoch (lines_at place past)
epoch_dosed (device d) past sent =
    epoch_undosed d.body d.serial (met d past) (asks_of d (heard_by_devices (pending past) sent)) (lines_of d past)
epoch_dosed scans past sent = refl
epoch_dosed sales past sent = refl

pub order_dosed : (place : Place) (past : List Entry) (sent : List ℕ)
    → order (dosed_at place past sent ++ lines_at place past) ≡ order (lines_at place past)
order_dosed (device d) past sent =
    order_undosed d.body d.serial (met d past) (asks_of d (heard_by_devices (pending past) sent)) (lines_of d past)
order_dosed scans past sent = refl
order_dosed sales past sent = refl

-- a place whose jobs make exchanges: a sale makes none
abbrev pub HasExchanges : Place → Type 0
HasExchanges sales = ⊥
HasExchanges place = ⊤

-- the lines of an exchange, an end and a command
wire_line : (place : Place) (addr : ℕ) (sent heard : List ℕ) (past : List Entry) → HasExchanges place →
    lines_at place (entry.Wire addr sent heard ∷ past) ≡ only addr place (line_at place sent heard)
    ++ (dosed_at place past sent ++ lines_at place past)
wire_line (device d) addr sent heard past has =
    append_assoc (only addr (device d) (line_at (device d) sent heard)) _ _
wire_line scans addr sent heard past has = refl
wire_line sales addr sent heard past has = absurd has

ended_line : (place : Place) (addr : ℕ) (end : End) (past : List Entry)
    → lines_at place (entry.Ended addr end ∷ past) ≡ only addr place (line.ended end) ++ lines_at place past
ended_line (device d) addr end past = refl
ended_line scans addr end past = refl
ended_line sales addr end past = refl

taken_line : (place : Place) (c : Command) (past : List Entry)
    → lines_at place (entry.Taken c ∷ past) ≡ only (address_of c) place (line.taken c) ++ lines_at place past
taken_line (device d) c past = refl
taken_line scans c past = refl
taken_line sales c past = refl

-- at their own place
pub own_wire : (place : Place) (sent heard : List ℕ) (past : List Entry) → HasExchanges place
    → lines_at place (entry.Wire (addr_of place) sent heard ∷ past) ≡ line_at place sent heard
    ∷ dosed_at place past sent ++ lines_at place past
own_wire place sent heard past has =
    wire_line place (addr_of place) sent heard past has
    ∙ here (addr_of place) place _ (dosed_at place past sent ++ lines_at place past) refl

pub own_ended : (place : Place) (end : End) (past : List Entry)
    → lines_at place (entry.Ended (addr_of place) end ∷ past) ≡ line.ended end ∷ lines_at place past
own_ended place end past =
    ended_line place (addr_of place) end past ∙ here (addr_of place) place _ (lines_at place past) refl

pub own_taken : (place : Place) (c : Command) (past : List Entry) → address_of c ≡ addr_of place
    → lines_at place (entry.Taken c ∷ past) ≡ line.taken c ∷ lines_at place past
own_taken place c past is = taken_line place c past ∙ here (address_of c) place _ (lines_at place past) is

pub own_put : (d : DeviceSetup) (r : Record) (past : List Entry) → owner past r ≡ d.addr
    → lines_of d (entry.Put r ∷ past) ≡ line.put r ∷ lines_of d past
own_put d r past is = here (owner past r) (device d) (line.put r) (lines_of d past) is

pub idle_line : (addr : ℕ) (place : Place) (past : List Entry)
    → lines_at place (entry.Idle addr ∷ past) ≡ lines_at place past
idle_line addr (device d) past = refl
idle_line addr scans past = refl
idle_line addr sales past = refl

-- entries that are no line there change nothing there
same_lines : (place : Place) (past news : List Entry) → lines_at place (news ++ past) ≡ lines_at place past
    → IsAsBefore place past news
same_lines place past news same = (ap model.job same, ap model.epoch same, ap order same)

-- entries of one address
pub idle_at : (addr : ℕ) (past : List Entry) → AreAt addr past (entry.Idle addr ∷ [])
idle_at addr past place other = same_lines place past (entry.Idle addr ∷ []) (idle_line addr place past)

wire_apart : (place : Place) (addr : ℕ) (past : List Entry) (sent heard : List ℕ) → HasExchanges place
    → addr_of place ≢ addr → IsAsBefore place past (entry.Wire addr sent heard ∷ [])
wire_apart place addr past sent heard has other =
    let only_dosed = wire_line place addr sent heard past has
    ∙ elsewhere addr place _ (dosed_at place past sent ++ lines_at place past) other in (
      ap model.job only_dosed ∙ job_dosed place past sent,
      ap model.epoch only_dosed ∙ epoch_dosed place past sent,
      ap order only_dosed ∙ order_dosed place past sent,
    )

pub wire_at : (addr : ℕ) (past : List Entry) (sent heard : List ℕ) → AreAt addr past (entry.Wire addr sent heard ∷ [])
wire_at addr past sent heard (device d) other = wire_apart (device d) addr past sent heard tt other
wire_at addr past sent heard scans other = wire_apart scans addr past sent heard tt other
wire_at addr past sent heard sales other = (refl, refl, refl)

sold_elsewhere : (past : List Entry) (r : Record) (addr : ℕ) → owner past r ≡ addr → HOST ≢ addr → sold_line r ≡ []
sold_elsewhere past (record_of.Sold id price) addr is other = absurd (other is)
sold_elsewhere past r addr is other = refl

pub put_at : (addr : ℕ) (past : List Entry) (r : Record) → owner past r ≡ addr → AreAt addr past (entry.Put r ∷ [])
put_at addr past r is (device d) other =
    same_lines (device d) past (entry.Put r ∷ [])
    (elsewhere (owner past r) (device d) (line.put r) (lines_of d past) (λ at. other (at ∙ is)))
put_at addr past r is scans other = (refl, refl, refl)
put_at addr past r is sales other =
    same_lines sales past (entry.Put r ∷ []) (ap (λ ls. ls ++ sale_lines past) (sold_elsewhere past r addr is other))

pub taken_at : (c : Command) (past : List Entry) → AreAt (address_of c) past (entry.Taken c ∷ [])
taken_at c past place other =
    same_lines place past (entry.Taken c ∷ [])
    (taken_line place c past ∙ elsewhere (address_of c) place _ (lines_at place past) other)

ended_before : (addr : ℕ) (past : List Entry) (e : Entry) (end : End) → AreAt addr past (e ∷ [])
    → AreAt addr past (entry.Ended addr end ∷ e ∷ [])
ended_before addr past e end before place other =
    let none = ended_line place addr end (e ∷ past) ∙ elsewhere addr place _ (lines_at place (e ∷ past)) other in
    let was = before place other in
    (ap model.job none ∙ was.0, ap model.epoch none ∙ was.1, ap order none ∙ was.2)

pub end_at_too : (addr : ℕ) (past : List Entry) (e : Entry) (end : Option End) → AreAt addr past (e ∷ [])
    → AreAt addr past (with_end addr e end)
end_at_too addr past e None before = before
end_at_too addr past e (Some end) before = ended_before addr past e end before

-- an exchange is a line more of the job, and none of the epoch
scanned_by : (b : Bool) (addr : ℕ) (rest : Option (List ℕ)) (lines : List Line) →
    model.job (cond b (line.scanned Simple addr rest) (line.scanned Crc addr rest) ∷ lines) ≡ model.with_line
    (cond b (line.scanned Simple addr rest) (line.scanned Crc addr rest)) (model.job lines)
scanned_by true addr rest lines = refl
scanned_by false addr rest lines = refl

job_scanned : (sent heard : List ℕ) (lines : List Line)
    → model.job (scan_line sent heard ∷ lines) ≡ model.with_line (scan_line sent heard) (model.job lines)
unfolding scan_line
job_scanned sent heard lines = scanned_by _ _ _ lines

pub job_asked : (place : Place) (sent heard : List ℕ) (lines : List Line)
    → model.job (line_at place sent heard ∷ lines) ≡ model.with_line (line_at place sent heard) (model.job lines)
job_asked (device d) sent heard lines = refl
job_asked scans sent heard lines = job_scanned sent heard lines
job_asked sales sent heard lines = refl

-- an entry that changes no job, no epoch and no open order, wherever they are
pub record IsQuiet (past : List Entry) (e : Entry) : Type 0 where
  pub jobs : (place : Place) → model.job (lines_at place (e ∷ past)) ≡ model.job (lines_at place past)
  pub epochs : (place : Place) → model.epoch (lines_at place (e ∷ past)) ≡ model.epoch (lines_at place past)
  pub orders : (place : Place) → order (lines_at place (e ∷ past)) ≡ order (lines_at place past)
  pub records_are : records (e ∷ past) ≡ records past

-- a line that changes none
abbrev Passes : Line → Type 0
Passes x =
    (lines : List Line) → (model.job (x ∷ lines) ≡ model.job lines) × (model.epoch (x ∷ lines) ≡ model.epoch lines)
    × (order (x ∷ lines) ≡ order lines)

job_passes : (same : Bool) (x : Line) (lines : List Line) → Passes x
    → model.job (cond same (x ∷ []) [] ++ lines) ≡ model.job lines
job_passes true x lines passes = (passes lines).0
job_passes false x lines passes = refl

epoch_passes : (same : Bool) (x : Line) (lines : List Line) → Passes x
    → model.epoch (cond same (x ∷ []) [] ++ lines) ≡ model.epoch lines
epoch_passes true x lines passes = (passes lines).1
epoch_passes false x lines passes = refl

order_passes : (same : Bool) (x : Line) (lines : List Line) → Passes x
    → order (cond same (x ∷ []) [] ++ lines) ≡ order lines
order_passes true x lines passes = (passes lines).2
order_passes false x lines passes = refl

-- an entry that is such a line at each device of an address, and none of a scan or a sale
abbrev IsOnly : ℕ → Line → List Entry → Entry → Type 0
IsOnly addr x past e = ((d : DeviceSetup) → lines_of d (e ∷ past) ≡ only addr (device d) x ++ lines_of d past)
    × (scan_lines (e ∷ past) ≡ scan_lines past) × (sale_lines (e ∷ past) ≡ sale_lines past)
    × (records (e ∷ past) ≡ records past)

job_quiet : (x : Line) (addr : ℕ) (past : List Entry) (e : Entry) → Passes x → IsOnly addr x past e → (place : Place)
    → model.job (lines_at place (e ∷ past)) ≡ model.job (lines_at place past)
job_quiet x addr past e passes is (device d) =
    ap model.job (is.0 d) ∙ job_passes (addr == d.addr) x (lines_of d past) passes
job_quiet x addr past e passes is scans = ap model.job is.1
job_quiet x addr past e passes is sales = ap model.job is.2

epoch_quiet : (x : Line) (addr : ℕ) (past : List Entry) (e : Entry) → Passes x → IsOnly addr x past e
    → (place : Place) → model.epoch (lines_at place (e ∷ past)) ≡ model.epoch (lines_at place past)
epoch_quiet x addr past e passes is (device d) =
    ap model.epoch (is.0 d) ∙ epoch_passes (addr == d.addr) x (lines_of d past) passes
epoch_quiet x addr past e passes is scans = ap model.epoch is.1
epoch_quiet x addr past e passes is sales = ap model.epoch is.2

order_quiet : (x : Line) (addr : ℕ) (past : List Entry) (e : Entry) → Passes x → IsOnly addr x past e
    → (place : Place) → order (lines_at place (e ∷ past)) ≡ order (lines_at place past)
order_quiet x addr past e passes is (device d) =
    ap order (is.0 d) ∙ order_passes (addr == d.addr) x (lines_of d past) passes
order_quiet x addr past e passes is scans = ap order is.1
order_quiet x addr past e passes is sales = ap order is.2

quiet : (x : Line) (addr : ℕ) (past : List Entry) (e : Entry) → Passes x → IsOnly addr x past e → IsQuiet past e
quiet x addr past e passes is = record {
  jobs = job_quiet x addr past e passes is;
  epochs = epoch_quiet x addr past e passes is;
  orders = order_quiet x addr past e passes is;
  records_are = is.3;
}

pub accepted_quiet : (past : List Entry) (addr : ℕ) (c : Coin) → IsQuiet past (entry.Accepted addr c)
accepted_quiet past addr c = quiet (line.accepted c) addr past _ (λ ls. (refl, refl, refl)) ((λ d. refl), refl, refl, refl)

pub inhibited_quiet : (past : List Entry) (addr place : ℕ) → IsQuiet past (entry.Inhibited addr place)
inhibited_quiet past addr place = quiet (line.inhibited place) addr past _ (λ ls. (refl, refl, refl)) (
  (λ d. refl),
  refl,
  refl,
  refl,
)

pub alien_quiet : (past : List Entry) (addr : ℕ) → IsQuiet past (entry.Alien addr)
alien_quiet past addr = quiet line.alien addr past _ (λ ls. (refl, refl, refl)) ((λ d. refl), refl, refl, refl)

pub reset_quiet : (past : List Entry) (addr : ℕ) → IsQuiet past (entry.Reset addr)
reset_quiet past addr = quiet line.reset addr past _ (λ ls. (refl, refl, refl)) ((λ d. refl), refl, refl, refl)

pub fell_quiet : (past : List Entry) (addr : ℕ) → IsQuiet past (entry.Fell addr)
fell_quiet past addr = quiet line.fell addr past _ (λ ls. (refl, refl, refl)) ((λ d. refl), refl, refl, refl)

-- an entry that is no line
no_line : (past : List Entry) (e : Entry) → records (e ∷ past) ≡ records past
    → ((place : Place) → lines_at place (e ∷ past) ≡ lines_at place past) → IsQuiet past e
no_line past e put same = record {
  jobs = λ place. ap model.job (same place);
  epochs = λ place. ap model.epoch (same place);
  orders = λ place. ap order (same place);
  records_are = put;
}

fault_line : (f : WireFault) (place : Place) (past : List Entry)
    → lines_at place (entry.Fault f ∷ past) ≡ lines_at place past
fault_line f (device d) past = refl
fault_line f scans past = refl
fault_line f sales past = refl

refused_line : (c : Command) (why : CommandNo) (place : Place) (past : List Entry)
    → lines_at place (entry.No c why ∷ past) ≡ lines_at place past
refused_line c why (device d) past = refl
refused_line c why scans past = refl
refused_line c why sales past = refl

held_line : (addr held : ℕ) (place : Place) (past : List Entry)
    → lines_at place (entry.Held addr held ∷ past) ≡ lines_at place past
held_line addr held (device d) past = refl
held_line addr held scans past = refl
held_line addr held sales past = refl

forgery_line : (addr : ℕ) (place : Place) (past : List Entry)
    → lines_at place (entry.Forged addr ∷ past) ≡ lines_at place past
forgery_line addr (device d) past = refl
forgery_line addr scans past = refl
forgery_line addr sales past = refl

pub idle_quiet : (past : List Entry) (addr : ℕ) → IsQuiet past (entry.Idle addr)
idle_quiet past addr = no_line past _ refl (λ place. idle_line addr place past)

pub fault_quiet : (past : List Entry) (f : WireFault) → IsQuiet past (entry.Fault f)
fault_quiet past f = no_line past _ refl (λ place. fault_line f place past)

-- a bill that is held isn't accepted yet
pub held_quiet : (past : List Entry) (addr held : ℕ) → IsQuiet past (entry.Held addr held)
held_quiet past addr held = no_line past _ refl (λ place. held_line addr held place past)

pub forged_quiet : (past : List Entry) (addr : ℕ) → IsQuiet past (entry.Forged addr)
forged_quiet past addr = no_line past _ refl (λ place. forgery_line addr place past)

pub refused_quiet : (past : List Entry) (c : Command) (why : CommandNo) → IsQuiet past (entry.No c why)
refused_quiet past c why = no_line past _ refl (λ place. refused_line c why place past)

no_fall_line : (addr : ℕ) (place : Place) (past : List Entry)
    → lines_at place (entry.NoFall addr ∷ past) ≡ lines_at place past
no_fall_line addr (device d) past = refl
no_fall_line addr scans past = refl
no_fall_line addr sales past = refl

jammed_line : (addr : ℕ) (place : Place) (past : List Entry)
    → lines_at place (entry.Jammed addr ∷ past) ≡ lines_at place past
jammed_line addr (device d) past = refl
jammed_line addr scans past = refl
jammed_line addr sales past = refl

no_jam_line : (addr : ℕ) (place : Place) (past : List Entry)
    → lines_at place (entry.NoJam addr ∷ past) ≡ lines_at place past
no_jam_line addr (device d) past = refl
no_jam_line addr scans past = refl
no_jam_line addr sales past = refl

pub fall_quiet : (none : Bool) (past : List Entry) (addr : ℕ)
    → IsQuiet past (cond none (entry.NoFall addr) (entry.Fell addr))
fall_quiet true past addr = no_line past _ refl (λ place. no_fall_line addr place past)
fall_quiet false past addr = fell_quiet past addr

pub jam_quiet : (none : Bool) (past : List Entry) (addr : ℕ)
    → IsQuiet past (cond none (entry.NoJam addr) (entry.Jammed addr))
jam_quiet true past addr = no_line past _ refl (λ place. no_jam_line addr place past)
jam_quiet false past addr = no_line past _ refl (λ place. jammed_line addr place past)

-- the answer to a command, at the command's address
pub command_at : (past : List Entry) (c : Command) (refused : Option CommandNo)
    → AreAt (address_of c) past (command_entry c refused ∷ [])
command_at past c None = taken_at c past
command_at past c (Some why) = λ place other.
    same_lines place past (entry.No c why ∷ []) (refused_line c why place past)

-- the greatest id of the records after an attempt, and after a command
greatest_put : (past : List Entry) (addr : ℕ) (r : Record) (end : Option End)
    → greatest_id (records (with_end addr (entry.Put r) end ++ past)) ≡ max (id_of r) (greatest_id (records past))
greatest_put past addr r None = refl
greatest_put past addr r (Some end) = refl

pub wire_records : (past : List Entry) (addr : ℕ) (sent heard : List ℕ) (end : Option End)
    → records (with_end addr (entry.Wire addr sent heard) end ++ past) ≡ records past
wire_records past addr sent heard None = refl
wire_records past addr sent heard (Some end) = refl

last_by : (past : List Entry) (addr : ℕ) (what : Attempt)
    → greatest_id (records (news_of addr what ++ past)) ≡ max (used_by what) (greatest_id (records past))
last_by past addr attempt.idle = sym (zero-max (greatest_id (records past)))
last_by past addr (attempt.asked sent heard end) =
    ap greatest_id (wire_records past addr sent heard end) ∙ sym (zero-max (greatest_id (records past)))
last_by past addr (attempt.put r end) = greatest_put past addr r end

pub attempt_last : (past : List Entry) (addr : ℕ) (what : Attempt) (used last after : ℕ) → used ≡ used_by what
    → last ≡ greatest_id (records past) → after ≡ max used last
    → after ≡ greatest_id (records (news_of addr what ++ past))
attempt_last past addr what used last after used_is last_is after_is =
    after_is ∙ ap (λ u. max u last) used_is ∙ ap (max (used_by what)) last_is ∙ sym (last_by past addr what)

pub command_last : (past : List Entry) (c : Command) (refused : Option CommandNo) (last : ℕ)
    → last ≡ greatest_id (records past) → last ≡ greatest_id (records (command_entry c refused ∷ past))
command_last past c None last is = is
command_last past c (Some why) last is = is
