-- What the books say of every legal transcript: its records follow one another, money is conserved, and no put meets a
-- full journal; and what is due follows, and is allowed.
use Rattle.std.proofs.Common.{◌≡◌, ℕ, suc, ◌+◌, ◌-◌, ◌≤◌, ◌<◌, nat_le, cond, Bool, true, false, List, [], length, refl, Option, Some, None, All, arith, le-leb}
use Rattle.std.specs.Option.{option_or}
use Rattle.std.specs.Prelude.{is_some, not}
use Rattle.cct_model.specs.terms.device.DeviceSetup.{DeviceSetup}
use Rattle.cct_model.specs.terms.device.Setup.{Setup}
use Rattle.cct_model.specs.lines.record.Record.{Record}
use Rattle.cct_model.specs.lines.command.Command.{Command}
use Rattle.cct_model.specs.lines.command.Command.TheVariants as command
use Rattle.cct_model.specs.lines.command.CommandNo.{CommandNo}
use Rattle.cct_model.specs.lines.command.CommandNo.TheVariants.{WrongKind, JournalFull, NoDevice, Busy}
use Rattle.cct_model.specs.lines.command.Step.{Step}
use Rattle.cct_model.specs.lines.entry.Entry.{Entry}
use Rattle.cct_model.specs.declared.judging.OpenOrder.{OpenOrder}
use Rattle.cct_model.specs.Setup.{IsSoundSetup}
use Rattle.cct_model.specs.Exchange.{device_at, hopper_there}
use Rattle.cct_model.specs.Line.{Line}
use Rattle.cct_model.specs.Job.{works, job, puts}
use Rattle.cct_model.specs.Records.{records}
use Rattle.cct_model.specs.Money.{sum_over, posted_in, reserved_at_work, freed_by, spoken_for, totals}
use Rattle.cct_model.specs.Refusal.{unless, settle_refusal, holds_of, holds_at, sale_holds, held, need_for, full_refusal, view_for, state_refusal, room_refusal, refusal}
use Rattle.cct_model.specs.Following.{follows, all_follow, is_allowed}
use Rattle.cct_model.specs.Legal.{due_at, LegalFrom}
use Rattle.cct_model.specs.Script.{IsInRange}
use Rattle.cct_model.specs.Transcript.{lines_of, sale_lines, onto}
use Rattle.cct_laws.specs.Balanced.{IsConserved}
use Rattle.cct_laws.specs.Ids.{Ids}
use Rattle.cct_laws.specs.Law.{IsOf}
use Rattle.cct_laws.specs.Scope.{EachTranscript}
use Rattle.cct_laws.proofs.money.RecordsHeldByAll.{holds_put}
use Rattle.cct_laws.proofs.money.Reserved.{available_both}
use Rattle.cct_laws.proofs.money.Books.{Books, selling_holds, due_follows, books_legal}
use Rattle.cct_laws.proofs.jobs.StepBrings.{row_after, Selling, Due, from_job, from_sale, is_due}
use Rattle.cct_laws.proofs.money.NoLongerReserved.{due_frees, allows}
use Rattle.cct_laws.proofs.money.Sums.{sum_holds}

-- what is available, reserved, paid and sold is what was posted
pub conserved : (setup : Setup) (past : List Entry) → spoken_for setup past ≤ posted_in setup (records past) →
    IsConserved setup past (totals setup past)
conserved setup past covered =
    let both = available_both setup past covered in
    omega (arith, both)

-- where there is room for what is held, a job that is about to put has room for its record
has_room : (capacity many held_here held_all : ℕ) → many + held_all ≤ capacity → held_here ≤ held_all →
    1 ≤ held_here → many < capacity
has_room capacity many held_here held_all room part one = omega (arith, room, part, one)

row_has_room : (capacity : ℕ) (setup : Setup) (d : DeviceSetup) (past : List Entry) (c : Command) (since : List Line)
    (r : Record) → length (records past) + held setup past ≤ capacity → IsOf setup d →
    job (lines_of d past) ≡ works c since → row_after d past c since ≡ puts r → length (records past) < capacity
row_has_room capacity setup d past c since r room own is row_is =
    has_room capacity (length (records past)) (holds_of d (lines_of d past)) (held setup past) room
    (part (sale_holds (job (sale_lines past))) (sum_holds (holds_at past) setup.devices d d.addr own))
    (some (holds_put d c since r (lines_of d past) is row_is))
  where
    part : {here all : ℕ} (sale : ℕ) → here ≤ all → here ≤ all + sale
    part sale le = omega (arith, le)

    some : {later now : ℕ} → suc later ≤ now → 1 ≤ now
    some le = omega (arith, le)

sale_has_room : (capacity : ℕ) (setup : Setup) (past : List Entry) (id price : ℕ) (since : List Line) →
    length (records past) + held setup past ≤ capacity → Selling past id price since → length (records past) < capacity
sale_has_room capacity setup past id price since room selling =
    let one = selling_holds past id price since selling in
    has_room capacity (length (records past)) (sale_holds (job (sale_lines past))) (held setup past) room
    (part (sum_over (holds_at past) setup.devices) (sale_holds (job (sale_lines past)))) (some one)
  where
    part : (devices here : ℕ) → here ≤ devices + here
    part devices here = omega arith

    some : {now : ℕ} → now ≡ 1 → 1 ≤ now
    some same = omega (arith, same)

-- so has any record that is due
due_has_room : (capacity : ℕ) (setup : Setup) (past : List Entry) (r : Record) →
    length (records past) + held setup past ≤ capacity → Due setup past r → length (records past) < capacity
due_has_room capacity setup past _ room (from_job d c since r own at_work is_row) =
    row_has_room capacity setup d past c since r room own at_work.job_is is_row
due_has_room capacity setup past _ room (from_sale id price since none selling) =
    sale_has_room capacity setup past id price since room selling

-- a refusal that isn't for a full journal
abbrev pub IsNotFull : Option CommandNo → Type 0
IsNotFull why = (stored many need : ℕ) → why ≡ Some (JournalFull stored many need) → ⊥

not_full_either : (first second : Option CommandNo) → IsNotFull first → IsNotFull second →
    IsNotFull (option_or first second)
not_full_either None second one other = other
not_full_either (Some why) second one other = one

unless_not_full : (holds : Bool) (why : CommandNo) → IsNotFull (Some why) → IsNotFull (unless holds why)
unless_not_full true why other = λ stored many need is. cc
unless_not_full false why other = other

settle_not_full : (owed : Option OpenOrder) → IsNotFull (settle_refusal owed)
settle_not_full None = λ stored many need is. cc
settle_not_full (Some o) = λ stored many need is. cc

room_not_full : (capacity : ℕ) (setup : Setup) (past : List Entry) (need : ℕ) → need ≡ 0 →
    length (records past) + held setup past ≤ capacity → IsNotFull (full_refusal setup past need capacity)
room_not_full capacity setup past need none room =
    by_test (nat_le (length (records past) + held setup past + need) capacity)
    (le-leb (length (records past) + held setup past + need) capacity
    (none_more (length (records past) + held setup past) room))
  where
    none_more : (many : ℕ) → many ≤ capacity → many + need ≤ capacity
    none_more many le = omega (arith, none, le)

    by_test : (fits : Bool) → fits ≡ true →
        IsNotFull (cond fits None (Some (JournalFull (length (records past)) (held setup past) need)))
    by_test true test = λ stored many wanted is. cc
    by_test false test = absurd cc

-- the one record that a settlement puts was held already
settle_needs : (found : Option DeviceSetup) (addr : ℕ) → need_for found (command.Settle addr) ≡ 0
settle_needs None addr = refl
settle_needs (Some d) addr = refl

pub settle_has_room : (capacity : ℕ) (setup : Setup) (past : List Entry) (addr : ℕ) →
    length (records past) + held setup past ≤ capacity →
    IsNotFull (refusal capacity setup past (command.Settle addr))
settle_has_room capacity setup past addr room =
    let v = view_for setup past (command.Settle addr) in
    not_full_either (state_refusal setup past (command.Settle addr)) (room_refusal capacity setup past (command.Settle addr))
    (not_full_either (unless (is_some v.found) NoDevice) _ (unless_not_full (is_some v.found) NoDevice (λ stored many need is. cc))
    (not_full_either (unless (hopper_there v.found) WrongKind) _
    (unless_not_full (hopper_there v.found) WrongKind (λ stored many need is. cc))
    (not_full_either (unless (not v.is_busy) Busy) _ (unless_not_full (not v.is_busy) Busy (λ stored many need is. cc))
    (settle_not_full v.owed))))
    (room_not_full capacity setup past (need_for (device_at setup.devices addr) (command.Settle addr))
    (settle_needs (device_at setup.devices addr) addr) room)

-- of every legal transcript, whatever the wire does

-- each record follows those before it, so a host that is rebuilt from them refuses none
pub legal_follow : EachTranscript (λ capacity setup transcript. all_follow setup (records (onto [] transcript)) ≡
    true)
legal_follow capacity setup steps transcript sound in_range legal =
    (books_legal capacity setup steps (onto [] transcript) sound in_range legal).1.counts.follow

-- what is reserved, paid and sold is no more than what was posted
pub legal_covered : EachTranscript (λ capacity setup transcript. spoken_for setup (onto [] transcript) ≤ posted_in
    setup (records (onto [] transcript)))
legal_covered capacity setup steps transcript sound in_range legal =
    (books_legal capacity setup steps (onto [] transcript) sound in_range legal).1.counts.covered

-- so money is conserved
pub legal_conserved : EachTranscript (λ capacity setup transcript. IsConserved setup (onto [] transcript) (totals
    setup (onto [] transcript)))
legal_conserved capacity setup steps transcript sound in_range legal =
    conserved setup (onto [] transcript) (legal_covered capacity setup steps transcript sound in_range legal)

-- the journal has room for its records and all that are held
pub legal_room : EachTranscript (λ capacity setup transcript. length (records (onto [] transcript)) + held setup (onto
    [] transcript) ≤ capacity)
legal_room capacity setup steps transcript sound in_range legal =
    (books_legal capacity setup steps (onto [] transcript) sound in_range legal).1.counts.room

-- so a record that a job at any address is about to put has room
pub legal_put : EachTranscript (λ capacity setup transcript. (addr : ℕ) (r : Record) → due_at setup (onto []
    transcript) addr ≡ Some r → length (records (onto [] transcript)) < capacity)
legal_put capacity setup steps transcript sound in_range legal addr r due =
    due_has_room capacity setup (onto [] transcript) r
    (legal_room capacity setup steps transcript sound in_range legal) (is_due setup (onto [] transcript) addr r due)

-- and no settlement is refused for a full journal
pub legal_settle : EachTranscript (λ capacity setup transcript. (addr stored many need : ℕ) → refusal capacity setup
    (onto [] transcript) (command.Settle addr) ≡ Some (JournalFull stored many need) → ⊥)
legal_settle capacity setup steps transcript sound in_range legal addr stored many need is =
    settle_has_room capacity setup (onto [] transcript) addr
    (legal_room capacity setup steps transcript sound in_range legal) stored many need is

-- where ids are in order and the books are kept, a record that a job at any address is about to put follows those before
-- it
pub kept_due_follows : (capacity : ℕ) (setup : Setup) (past : List Entry) (addr : ℕ) (r : Record) → Ids setup past →
    Books capacity setup past → due_at setup past addr ≡ Some r → follows setup (records past) r ≡ true
kept_due_follows capacity setup past addr r ids books due =
    due_follows capacity setup past r ids books (is_due setup past addr r due)

-- and a ledger takes it beside what the other jobs reserve
pub kept_due_allowed : (capacity : ℕ) (setup : Setup) (past : List Entry) (addr : ℕ) (r : Record) → Ids setup past →
    Books capacity setup past → due_at setup past addr ≡ Some r → (freed_by setup r ≤ reserved_at_work setup past)
    × (is_allowed setup (records past) (reserved_at_work setup past - freed_by setup r) r ≡ true)
kept_due_allowed capacity setup past addr r ids books due =
    let told = is_due setup past addr r due in
    let frees = due_frees setup past r told in
    (frees, allows setup past r (due_follows capacity setup past r ids books told) frees books.counts.covered)

-- so in every legal past, whatever the wire does
pub legal_due_follows : (capacity : ℕ) (setup : Setup) (steps : List Step) (past : List Entry) (addr : ℕ) (r : Record) →
    IsSoundSetup setup → All IsInRange steps → LegalFrom capacity setup [] steps past →
    due_at setup past addr ≡ Some r → follows setup (records past) r ≡ true
legal_due_follows capacity setup steps past addr r sound in_range legal =
    let kept = books_legal capacity setup steps past sound in_range legal in
    kept_due_follows capacity setup past addr r kept.0 kept.1

pub legal_due_allowed : (capacity : ℕ) (setup : Setup) (steps : List Step) (past : List Entry) (addr : ℕ) (r : Record) →
    IsSoundSetup setup → All IsInRange steps → LegalFrom capacity setup [] steps past →
    due_at setup past addr ≡ Some r → (freed_by setup r ≤ reserved_at_work setup past)
    × (is_allowed setup (records past) (reserved_at_work setup past - freed_by setup r) r ≡ true)
legal_due_allowed capacity setup steps past addr r sound in_range legal =
    let kept = books_legal capacity setup steps past sound in_range legal in
    kept_due_allowed capacity setup past addr r kept.0 kept.1
