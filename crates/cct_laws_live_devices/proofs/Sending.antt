-- What a live host sends: a request to the device of a job, or a poll of a scan.
use Rattle.std.proofs.Common.{◌≡◌, ◌≢◌, inl, inr, ℕ, ◌==◌, Bool, true, false, List, [], ◌∷◌, ◌++◌, refl, sym, subst, Option, Some, None, arith}
use Rattle.std.specs.Prelude.{MatchBool, map, ⊤}
use Rattle.cct_model.specs.terms.wire.CheckKind.{CheckKind}
use Rattle.cct_model.specs.terms.wire.TheConstants.{BROADCAST, HOST}
use Rattle.cct_model.specs.terms.device.DeviceSetup.{DeviceSetup}
use Rattle.cct_model.specs.terms.device.Setup.{Setup}
use Rattle.cct_model.specs.lines.command.Command.{Command}
use Rattle.cct_model.specs.lines.command.CommandNo.{CommandNo}
use Rattle.cct_model.specs.lines.command.CrashAt.{CrashAt}
use Rattle.cct_model.specs.lines.record.Record.{Record}
use Rattle.cct_model.specs.lines.entry.End.{End}
use Rattle.cct_model.specs.lines.entry.Entry.{Entry}
use Rattle.cct_model.specs.lines.entry.Entry.TheVariants as entry
use Rattle.cct_model.specs.Device.{IsSound}
use Rattle.cct_model.specs.Exchange.{device_at}
use Rattle.cct_model.specs.Job.{Job, Row, epoch, free, job, no_row, puts, sends, works}
use Rattle.cct_model.specs.Legal.{BareNext, EntriesOfRestart, NextEntries, OfNext, PollEntries, RestartEntries, RowEntries, SaleEntries, SaleRowEntries, ScanEntries, command_entry, due_at, with_end}
use Rattle.cct_model.specs.Line.{Line}
use Rattle.cct_model.specs.Order.{order}
use Rattle.cct_model.specs.Refusal.{refusal}
use Rattle.cct_model.specs.Rows.{row, row_of_sale}
use Rattle.cct_model.specs.Scan.{scan_row}
use Rattle.cct_model.specs.Setup.{IsSoundSetup}
use Rattle.cct_model.specs.Transcript.{lines_of, sale_lines, scan_lines}
use Rattle.cct_laws.proofs.setups.DeviceAt.{found_in}
use Rattle.cct_laws_live.specs.Live.{LiveEntries, LiveFrom, started}
use Rattle.cct_laws_live.specs.LiveStep.{LiveStep}
use Rattle.cct_laws_live.specs.LiveStep as live
use Rattle.cct_laws_live_devices.specs.Chain.{is_besides}
use Rattle.cct_laws_live_devices.proofs.Exchanging.{IsAskedAt, asks_one, polls}

-- each exchange is one of a job, and all else a live host reports too
abbrev pub IsAskedIn : Entry → Type 0
IsAskedIn (entry.Wire addr sent piece) = IsAskedAt addr sent
IsAskedIn e = is_besides e ≡ true

abbrev pub AllAsked : List Entry → Type 0
AllAsked [] = ⊤
AllAsked (e ∷ past) = IsAskedIn e × AllAsked past

pub all_asked : (news past : List Entry) → AllAsked news → AllAsked past → AllAsked (news ++ past)
all_asked [] past new old = old
all_asked (e ∷ news) past new old = (new.0, all_asked news past new.1 old)

pub asked_first : (news past : List Entry) → AllAsked (news ++ past) → AllAsked news
asked_first [] past all = tt
asked_first (e ∷ news) past all = (all.0, asked_first news past all.1)

pub asked_rest : (news past : List Entry) → AllAsked (news ++ past) → AllAsked past
asked_rest [] past all = all
asked_rest (e ∷ news) past all = asked_rest news past all.1

with_end_asked : (addr : ℕ) (e : Entry) (end : Option End) → IsAskedIn e → AllAsked (with_end addr e end)
with_end_asked addr e None is = (is, tt)
with_end_asked addr e (Some end) is = (refl, (is, tt))

row_asked : (hears : List ℕ → List ℕ) (d : DeviceSetup) (past : List Entry) (c : Command) (since : List Line) (r : Row)
    (news : List Entry) → d.addr ≢ BROADCAST → RowEntries hears d past c since r news → AllAsked news
row_asked hears d past c since (sends q) news one is =
    subst AllAsked (sym is) (with_end_asked d.addr _ _ (asks_one one d.kind q))
row_asked hears d past c since (puts r) news one is = subst AllAsked (sym is) (with_end_asked d.addr (entry.Put r) _ refl)
row_asked hears d past c since no_row news one is = absurd is

next_asked : (hears : List ℕ → List ℕ) (d : DeviceSetup) (past : List Entry) (at_work : Job) (news : List Entry) →
    d.addr ≢ BROADCAST → NextEntries hears d past at_work news → AllAsked news
next_asked hears d past free news one is = subst AllAsked (sym is) (refl, tt)
next_asked hears d past (works c since) news one is =
    row_asked hears d past c since (row d c since (epoch (lines_of d past)) (order (lines_of d past))) news one is

poll_asked : (hears : List ℕ → List ℕ) (since : List Line) (poll : Option (CheckKind × ℕ)) (news : List Entry) →
    PollEntries hears since poll news → AllAsked news
poll_asked hears since None news is = absurd is
poll_asked hears since (Some (check, addr)) news is =
    subst AllAsked (sym is) (with_end_asked BROADCAST _ _ (polls refl check addr))

scan_asked : (hears : List ℕ → List ℕ) (at_work : Job) (news : List Entry) → ScanEntries hears at_work news → AllAsked news
scan_asked hears free news is = subst AllAsked (sym is) (refl, tt)
scan_asked hears (works c since) news is = poll_asked hears since (scan_row since) news is

sale_row_asked : (c : Command) (since : List Line) (r : Row) (news : List Entry) → SaleRowEntries c since r news → AllAsked news
sale_row_asked c since (puts r) news is = subst AllAsked (sym is) (with_end_asked HOST (entry.Put r) _ refl)
sale_row_asked c since (sends q) news is = absurd is
sale_row_asked c since no_row news is = absurd is

sale_asked : (at_work : Job) (news : List Entry) → SaleEntries at_work news → AllAsked news
sale_asked free news is = subst AllAsked (sym is) (refl, tt)
sale_asked (works c since) news is = sale_row_asked c since (row_of_sale c since) news is

by_sale : (b : Bool) (P Q : Type 0) (news : List Entry) → (P → AllAsked news) → (Q → AllAsked news) → MatchBool b P Q → AllAsked news
by_sale true P Q news first second is = first is
by_sale false P Q news first second is = second is

bare_asked : (hears : List ℕ → List ℕ) (past : List Entry) (addr : ℕ) (news : List Entry) → BareNext hears past addr news →
    AllAsked news
bare_asked hears past addr news is =
    by_sale (addr == BROADCAST) (ScanEntries hears (job (scan_lines past)) news)
    (MatchBool (addr == HOST) (SaleEntries (job (sale_lines past)) news) (news ≡ entry.Idle addr ∷ [])) news
    (scan_asked hears (job (scan_lines past)) news)
    (by_sale (addr == HOST) (SaleEntries (job (sale_lines past)) news) (news ≡ entry.Idle addr ∷ []) news
    (sale_asked (job (sale_lines past)) news) (λ same. subst AllAsked (sym same) (refl, tt)))
    is

at_asked : (hears : List ℕ → List ℕ) (setup : Setup) (past : List Entry) (addr : ℕ) (news : List Entry)
    (found : Option DeviceSetup) → device_at setup.devices addr ≡ found → IsSoundSetup setup →
    OfNext found (λ d. NextEntries hears d past (job (lines_of d past)) news) (BareNext hears past addr news) → AllAsked news
at_asked hears setup past addr news None there sound is = bare_asked hears past addr news is
at_asked hears setup past addr news (Some d) there sound is =
    let low = (found_in IsSound setup.devices addr d sound.devices there).0.low in
    next_asked hears d past (job (lines_of d past)) news (λ same. omega (arith, low, same)) is

command_asked : (c : Command) (no : Option CommandNo) → AllAsked (command_entry c no ∷ [])
command_asked c None = (refl, tt)
command_asked c (Some why) = (refl, tt)

due_asked : (past : List Entry) (calls : ℕ) (due : Option Record) (news : List Entry) → RestartEntries past calls due news →
    AllAsked news
due_asked past calls None news is = subst AllAsked (sym is) (refl, tt)
due_asked past calls (Some r) news is = elim is [
  | inl bare ↦ subst AllAsked (sym bare.1) (refl, tt)
  | inr keeping ↦ subst AllAsked (sym keeping.1) (refl, (refl, tt))
]

restart_asked : (setup : Setup) (past news : List Entry) (at : Option CrashAt) → EntriesOfRestart setup past at news → AllAsked news
restart_asked setup past news None is = subst AllAsked (sym is) (refl, tt)
restart_asked setup past news (Some at) is = due_asked past at.calls (due_at setup past at.addr) news is

step_asked : (capacity : ℕ) (setup : Setup) (past news : List Entry) (s : LiveStep) → IsSoundSetup setup →
    LiveEntries capacity setup past s news → AllAsked news
step_asked capacity setup past news (live.command c) sound is =
    subst AllAsked (sym is) (command_asked c (refusal capacity setup past c))
step_asked capacity setup past news (live.next addr) sound is =
    at_asked (λ sent. is.0) setup past addr news (device_at setup.devices addr) refl sound is.2
step_asked capacity setup past news live.balance sound is = subst AllAsked (sym is) (refl, tt)
step_asked capacity setup past news (live.start at) sound is = restart_asked setup past news at is

pub live_asked : (capacity : ℕ) (setup : Setup) (steps : List LiveStep) (past end : List Entry) → IsSoundSetup setup →
    AllAsked past → LiveFrom capacity setup past steps end → AllAsked end
live_asked capacity setup [] past end sound before is = subst AllAsked (sym is) before
live_asked capacity setup (s ∷ steps) past end sound before is =
    live_asked capacity setup steps (is.0 ++ past) end sound
    (all_asked is.0 past (step_asked capacity setup past is.0 s sound is.1) before) is.2

records_asked : (found : List Record) → AllAsked (map (λ r. entry.Put r) found)
records_asked [] = tt
records_asked (r ∷ found) = (refl, records_asked found)

pub started_asked : (found : List Record) → AllAsked (started found)
started_asked found = (refl, records_asked found)
