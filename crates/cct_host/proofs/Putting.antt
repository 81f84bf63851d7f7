-- The records after a `next`, and what is put of them.
use Rattle.std.proofs.Common.{◌≡◌, ℕ, ◌==◌, Bool, true, false, cond, List, [], ◌∷◌, ◌++◌, reverse, refl, sym, ap, subst, ◌∙◌, Option, Some, None, arith}
use Rattle.std.specs.Option.{IfSome}
use Rattle.std.specs.Prelude.{MatchBool}
use Rattle.std.proofs.lemmas.Bool.{and_parts}
use Rattle.std.proofs.lemmas.Bool.Decides.{nat_tests}
use Rattle.std.proofs.lemmas.List.{reverse-append}
use Rattle.cct_model.specs.terms.wire.TheConstants.{BROADCAST, HOST}
use Rattle.cct_model.specs.terms.wire.CheckKind.{CheckKind}
use Rattle.cct_model.specs.terms.device.DeviceSetup.{DeviceSetup}
use Rattle.cct_model.specs.terms.device.Setup.{Setup}
use Rattle.cct_model.specs.lines.command.Command.{Command}
use Rattle.cct_model.specs.lines.record.Record.{Record}
use Rattle.cct_model.specs.lines.entry.End.{End}
use Rattle.cct_model.specs.lines.entry.Entry.{Entry}
use Rattle.cct_model.specs.lines.entry.Entry.TheVariants as entry
use Rattle.cct_model.specs.lines.carry.Carry.{Carry}
use Rattle.cct_model.specs.Carry.{carry, carry_of, carry_with, follows_carry}
use Rattle.cct_model.specs.Exchange.{device_at}
use Rattle.cct_model.specs.Following.{all_follow}
use Rattle.cct_model.specs.Job as model
use Rattle.cct_model.specs.Legal.{BareNext, EntriesOfNext, NextEntries, OfNext, PollEntries, RowEntries, SaleEntries, SaleRowEntries, ScanEntries, due_at, due_of, due_of_sale, due_there, record_due, with_end}
use Rattle.cct_model.specs.Line.{Line}
use Rattle.cct_model.specs.Records.{records}
use Rattle.cct_model.specs.Setup.{IsSoundSetup}
use Rattle.cct_model.specs.Scan.{scan_row}
use Rattle.cct_model.specs.Transcript.{lines_of, sale_lines, scan_lines}
use Rattle.cct_journal_carry.proofs.Follows.{follows_carried}
use Rattle.cct_journal_carry.proofs.Steps.{carry_next}
use Rattle.cct_disk.specs.Disk.{LeavesOnly}
use Rattle.cct_journal.specs.Image.{StandsFor}
use Rattle.cct_journal.specs.declared.place.Place.{Place}
use Rattle.cct_journal.proofs.Calls.{stands_settled}
use Rattle.cct_journal.proofs.Moments.{started}
use Rattle.cct_host.specs.OnDisk.{KeepsRecords}
use Rattle.cct_host.specs.Host.{put_by}
use Rattle.cct_host.proofs.Lines.{wire_records}

put_records : (past : List Entry) (addr : ℕ) (r : Record) (end : Option End)
    → records (with_end addr (entry.Put r) end ++ past) ≡ r ∷ records past
put_records past addr r None = refl
put_records past addr r (Some end) = refl

after_is : (past news those : List Entry) (rs : List Record) → news ≡ those → records (those ++ past) ≡ rs
    → records (news ++ past) ≡ rs
after_is past news those rs is those_are = ap (λ es. records (es ++ past)) is ∙ those_are

-- a next at a device
row_records : (hears : List ℕ → List ℕ) (d : DeviceSetup) (past : List Entry) (c : Command) (since : List Line)
    (row : model.Row) (news : List Entry) → RowEntries hears d past c since row news
    → records (news ++ past) ≡ put_by (record_due row) ++ records past
row_records hears d past c since (model.sends q) news is =
    after_is past news _ (records past) is (wire_records past d.addr _ _ _)
row_records hears d past c since (model.puts r) news is =
    after_is past news _ (r ∷ records past) is (put_records past d.addr r _)
row_records hears d past c since model.no_row news is = absurd is

job_records : (hears : List ℕ → List ℕ) (d : DeviceSetup) (past : List Entry) (j : model.Job) (news : List Entry)
    → NextEntries hears d past j news → records (news ++ past) ≡ put_by (due_of d (lines_of d past) j) ++ records past
job_records hears d past model.free news is = after_is past news _ (records past) is refl
job_records hears d past (model.works c since) news is = row_records hears d past c since _ news is

-- a poll
poll_records : (hears : List ℕ → List ℕ) (past : List Entry) (since : List Line) (row : Option (CheckKind × ℕ))
    (news : List Entry) → PollEntries hears since row news → records (news ++ past) ≡ records past
poll_records hears past since None news is = absurd is
poll_records hears past since (Some (check, addr)) news is =
    after_is past news _ (records past) is (wire_records past BROADCAST _ _ _)

scan_records : (hears : List ℕ → List ℕ) (past : List Entry) (j : model.Job) (news : List Entry)
    → ScanEntries hears j news → records (news ++ past) ≡ records past
scan_records hears past model.free news is = after_is past news _ (records past) is refl
scan_records hears past (model.works c since) news is = poll_records hears past since (scan_row since) news is

-- a sale
sale_row_records : (past : List Entry) (c : Command) (since : List Line) (row : model.Row) (news : List Entry)
    → SaleRowEntries c since row news
    → records (news ++ past) ≡ put_by (record_due row) ++ records past
sale_row_records past c since (model.puts r) news is =
    after_is past news _ (r ∷ records past) is (put_records past HOST r _)
sale_row_records past c since (model.sends q) news is = absurd is
sale_row_records past c since model.no_row news is = absurd is

sale_records : (past : List Entry) (j : model.Job) (news : List Entry) → SaleEntries j news
    → records (news ++ past) ≡ put_by (due_of_sale j) ++ records past
sale_records past model.free news is = after_is past news _ (records past) is refl
sale_records past (model.works c since) news is = sale_row_records past c since _ news is

-- an address without a device
pub all_is_no_host : (addr : ℕ) → (addr == BROADCAST) ≡ true → (addr == HOST) ≡ false
all_is_no_host addr is = grind (arith, nat_tests)

bare_records : (hears : List ℕ → List ℕ) (past : List Entry) (addr : ℕ) (all host : Bool) (news : List Entry)
    → (addr == BROADCAST) ≡ all → (addr == HOST) ≡ host
    → MatchBool all (ScanEntries hears (model.job (scan_lines past)) news)
    (MatchBool host (SaleEntries (model.job (sale_lines past)) news) (news ≡ entry.Idle addr ∷ []))
    → records (news ++ past) ≡ put_by (cond (addr == HOST) (due_of_sale (model.job (sale_lines past))) None) ++ records past
bare_records hears past addr true host news every own is =
    scan_records hears past (model.job (scan_lines past)) news is
    ∙ sym (ap (λ b. put_by (cond b (due_of_sale (model.job (sale_lines past))) None) ++ records past)
    (all_is_no_host addr every))
bare_records hears past addr false true news every own is =
    sale_records past (model.job (sale_lines past)) news is
    ∙ sym (ap (λ b. put_by (cond b (due_of_sale (model.job (sale_lines past))) None) ++ records past) own)
bare_records hears past addr false false news every own is =
    after_is past news _ (records past) is refl
    ∙ sym (ap (λ b. put_by (cond b (due_of_sale (model.job (sale_lines past))) None) ++ records past) own)

next_there : (hears : List ℕ → List ℕ) (past : List Entry) (addr : ℕ) (found : Option DeviceSetup) (news : List Entry)
    → OfNext found (λ d. NextEntries hears d past (model.job (lines_of d past)) news) (BareNext hears past addr news)
    → records (news ++ past) ≡ put_by (due_there past addr found) ++ records past
next_there hears past addr (Some d) news is = job_records hears d past (model.job (lines_of d past)) news is
next_there hears past addr None news is =
    bare_records hears past addr (addr == BROADCAST) (addr == HOST) news refl refl is

-- the records after a next are those before it, with the one that was due
pub next_records : (hears : List ℕ → List ℕ) (setup : Setup) (past : List Entry) (addr : ℕ) (news : List Entry)
    → EntriesOfNext hears setup past addr news
    → records (news ++ past) ≡ put_by (due_at setup past addr) ++ records past
next_records hears setup past addr news is = next_there hears past addr (device_at setup.devices addr) news is

-- so it is the last of them in their order
pub one_turned : (due : Option Record) → reverse (put_by due) ≡ put_by due
one_turned None = refl
one_turned (Some r) = refl

pub put_last : (due : Option Record) (before after : List Record) → after ≡ put_by due ++ before
    → reverse after ≡ reverse before ++ put_by due
put_last due before after is =
    ap reverse is ∙ reverse-append (put_by due) before ∙ ap (λ rs. reverse before ++ rs) (one_turned due)

-- the carry goes on by a record that follows
pub carry_added : (setup : Setup) (r : Record) (before : List Record) (old new : Carry) (taken : Bool)
    → IsSoundSetup setup → taken ≡ follows_carry setup old r → (taken ≡ true → new ≡ carry_with setup r old)
    → all_follow setup (r ∷ before) ≡ true → old ≡ carry setup before → new ≡ carry setup (r ∷ before)
carry_added setup r before old new taken sound tells goes follow is =
    let parts = and_parts _ _ follow in
    goes (tells ∙ ap (λ c. follows_carry setup c r) is ∙ follows_carried setup before sound parts.1 r ∙ parts.0)
    ∙ ap (carry_with setup r) is ∙ carry_next setup before sound r follow

pub due_added : (setup : Setup) (due : Option Record) (r : Record) (before : List Record) (old new : Carry) (taken : Bool)
    → due ≡ Some r → IsSoundSetup setup → taken ≡ follows_carry setup old r
    → (taken ≡ true → new ≡ carry_with setup r old) → IfSome due (λ r. all_follow setup (r ∷ before) ≡ true)
    → old ≡ carry setup before → new ≡ carry setup (put_by due ++ before)
due_added setup due r before old new taken there sound tells goes follow is =
    carry_added setup r before old new taken sound tells goes
    (subst (λ d. IfSome d (λ r. all_follow setup (r ∷ before) ≡ true)) there follow) is
    ∙ ap (λ d. carry setup (put_by d ++ before)) (sym there)

-- where no call is made, a disk that keeps records leaves what represents these
pub same_moments : {D : Type 0} {honest : D → Bool} {seen : D → Option (List ℕ)} {may_leave : D → List ℕ → Type 0}
    {moment : D → ℕ} {left_since : D → ℕ → List ℕ → Type 0} {disk : D} {place : Place} {records : List Record}
    (setup : Setup) → ((disk : D) (c : List ℕ) → left_since disk (moment disk) c → may_leave disk c)
    → KeepsRecords setup honest seen may_leave disk place records
    → LeavesOnly moment left_since disk disk (λ c. StandsFor (carry_of setup) c records)
same_moments {D} {honest} {seen} {may_leave} {moment} {left_since} {disk} {place} {records} setup only_now stands =
    let settled = stands_settled stands in
    started moment left_since disk (λ c. StandsFor (carry_of setup) c records) (may_leave disk) (only_now disk)
    (λ c left. subst (λ (image : List ℕ). StandsFor (carry_of setup) image records) (sym (settled.held.only c left))
    settled.stands)
