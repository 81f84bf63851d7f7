-- What one step leaves of the host and the bus.
use Rattle.std.proofs.Common.{◌≡◌, ℕ, Bool, true, false, cond, List, [], ◌∷◌, ◌++◌, reverse, refl, sym, ap, subst}
use Rattle.std.proofs.Common.{◌∙◌, Option, Some, None, append_assoc, arith, length, set}
use Rattle.std.specs.Prelude.{◌==◌, not}
use Rattle.cct_model.specs.terms.coin.Coin.{Coin}
use Rattle.cct_model.specs.terms.device.DeviceSetup.{DeviceSetup}
use Rattle.cct_model.specs.terms.device.Setup.{Setup}
use Rattle.cct_model.specs.terms.family.Happening.{Happening}
use Rattle.cct_model.specs.terms.family.Happening.TheVariants as happening
use Rattle.cct_model.specs.lines.command.Command.{Command}
use Rattle.cct_model.specs.lines.command.CommandNo.{CommandNo}
use Rattle.cct_model.specs.lines.entry.Entry.{Entry}
use Rattle.cct_model.specs.lines.entry.Entry.TheVariants as entry
use Rattle.cct_model.specs.lines.entry.Totals.{Totals}
use Rattle.cct_model.specs.Acceptor.{accepts}
use Rattle.cct_model.specs.Bill.{holds}
use Rattle.cct_model.specs.Exchange.{device_at}
use Rattle.cct_model.specs.Honest.{forged_after, was_forged}
use Rattle.cct_model.specs.Hopper.{remaining}
use Rattle.cct_model.specs.AtDesk.{EntriesAtDesk}
use Rattle.cct_model.specs.Change.{Desk}
use Rattle.cct_model.specs.Legal.{EntriesOfHappening, EntriesOfNext, EntriesOnWire, command_entry, happening_entry, step_of}
use Rattle.cct_model.specs.Money.{totals}
use Rattle.cct_model.specs.Records.{records}
use Rattle.cct_model.specs.Refusal.{refusal}
use Rattle.cct_model.specs.Transcript.{heard_after, met}
use Rattle.cct_model.proofs.Knowing.{knowing_both}
use Rattle.cct_bus.specs.declared.bus.Bus.{Bus}
use Rattle.cct_bus.specs.declared.outcome.Outcome.{Outcome}
use Rattle.cct_bus.specs.declared.outcome.Outcome.TheVariants as outcome
use Rattle.cct_bus.specs.Bus as wires
use Rattle.cct_bus.specs.Outcome.{becomes, of_effect, of_inserted}
use Rattle.cct_disk.specs.declared.disk.Disk.{Ghosts}
use Rattle.cct_laws.proofs.wire.ForgedEntriesLast.{on_wire}
use Rattle.cct_host.specs.declared.host.Host.{Host}
use Rattle.cct_host.specs.Attempt.{Attempt, HeardBy, news_of}
use Rattle.cct_host.specs.Host as hosts
use Rattle.cct_host.specs.Host.{PutSuits}
use Rattle.cct_host.proofs.Commands.{address_there}
use Rattle.cct_host.proofs.Lines.{IsQuiet, accepted_quiet, alien_quiet, fall_quiet, forged_quiet, held_quiet, inhibited_quiet, jam_quiet, reset_quiet}
use Rattle.cct_host.proofs.Quiet.{balance_quiet, host_quiet}
use Rattle.cct_world.specs.Forged.{TellsForged, forged_told}
use Rattle.cct_world.specs.Restarts.{kept_in}
use Rattle.cct_world.specs.Step.{crashes, entry_told}
use Rattle.cct_world.proofs.Forged.{all_told, asked_by, told_rightly}
use Rattle.cct_world.proofs.Wires.{balance_wire, command_wire, linked, told_wire}

-- an entry in the place of the only one of a report
pub set_alone : (report : List Entry) (e : Entry) → length report ≡ 1 → set report 0 e ≡ e ∷ []
set_alone [] e one = absurd cc
set_alone (x ∷ []) e one = refl
set_alone (x ∷ y ∷ es) e one = absurd (omega (arith, one))

-- the entries of what happens to a device are those of its step
pub entries_are : (capacity : ℕ) (setup : Setup) (past : List Entry) (desk : Desk) (addr : ℕ) (what : Happening)
    (news : List Entry) → EntriesOfHappening setup past addr what news
    → EntriesAtDesk capacity setup past desk (step_of addr what) news
entries_are capacity setup past desk addr (happening.Coin place) news are = are
entries_are capacity setup past desk addr happening.Alien news are = are
entries_are capacity setup past desk addr (happening.Bill place) news are = are
entries_are capacity setup past desk addr happening.Fall news are = are
entries_are capacity setup past desk addr happening.Jam news are = are
entries_are capacity setup past desk addr happening.Reset news are = are

-- what is made of a choice
of_choice : {X Y : Type 0} (f : X → Y) (test : Bool) (x y : X) → f (cond test x y) ≡ cond test (f x) (f y)
of_choice f true x y = refl
of_choice f false x y = refl

-- by what becomes of it, it is reported as it is to be
entry_is : (d : DeviceSetup) (addr : ℕ) (what : Happening) (past : List Entry) → d.addr ≡ addr
    → entry_told addr what (becomes what d.serial (met d past)) ≡ happening_entry addr d past what
entry_is d addr (happening.Coin place) past is =
    ap (λ a. entry_told a (happening.Coin place) (becomes (happening.Coin place) d.serial (met d past))) (sym is)
    ∙ of_choice (λ became. entry_told d.addr (happening.Coin place) (of_inserted became)) (accepts (met d past) place) _ _
entry_is d addr happening.Alien past is = refl
entry_is d addr (happening.Bill place) past is =
    ap (λ a. entry_told a (happening.Bill place) (becomes (happening.Bill place) d.serial (met d past))) (sym is)
    ∙ by_held (holds (met d past) place)
  where
    by_held : (held : Bool) → entry_told d.addr (happening.Bill place) (of_effect held)
        ≡ cond held (entry.Held d.addr place) (entry.Inhibited d.addr place)
    by_held true = refl
    by_held false = refl
entry_is d addr happening.Fall past is =
    ap (λ a. entry_told a happening.Fall (becomes happening.Fall d.serial (met d past))) (sym is)
    ∙ by_left (remaining d.serial (met d past) == 0)
  where
    by_left : (none : Bool) → entry_told d.addr happening.Fall (of_effect (not none))
        ≡ cond none (entry.NoFall d.addr) (entry.Fell d.addr)
    by_left true = refl
    by_left false = refl
entry_is d addr happening.Jam past is =
    ap (λ a. entry_told a happening.Jam (becomes happening.Jam d.serial (met d past))) (sym is)
    ∙ by_left (remaining d.serial (met d past) == 0)
  where
    by_left : (none : Bool) → entry_told d.addr happening.Jam (of_effect (not none))
        ≡ cond none (entry.NoJam d.addr) (entry.Jammed d.addr)
    by_left true = refl
    by_left false = refl
entry_is d addr happening.Reset past is = refl

-- and changes no job, no epoch, no open order and no record
happening_quiet : (d : DeviceSetup) (addr : ℕ) (what : Happening) (past : List Entry)
    → IsQuiet past (happening_entry addr d past what)
happening_quiet d addr (happening.Coin place) past = by_taken (accepts (met d past) place) _
  where
    by_taken : (took : Bool) (c : Coin) → IsQuiet past (cond took (entry.Accepted d.addr c) (entry.Inhibited d.addr place))
    by_taken true c = accepted_quiet past d.addr c
    by_taken false c = inhibited_quiet past d.addr place
happening_quiet d addr happening.Alien past = alien_quiet past addr
happening_quiet d addr (happening.Bill place) past = by_held (holds (met d past) place)
  where
    by_held : (held : Bool) → IsQuiet past (cond held (entry.Held d.addr place) (entry.Inhibited d.addr place))
    by_held true = held_quiet past d.addr place
    by_held false = inhibited_quiet past d.addr place
happening_quiet d addr happening.Fall past = fall_quiet (remaining d.serial (met d past) == 0) past d.addr
happening_quiet d addr happening.Jam past = jam_quiet (remaining d.serial (met d past) == 0) past d.addr
happening_quiet d addr happening.Reset past = reset_quiet past addr

-- it shows no power cut, puts no record, and shows none as kept
abbrev IsPlain : List Entry → Type 0
IsPlain news = (crashes news ≡ 0) × (records news ≡ []) × (kept_in news ≡ [])

one_plain : (addr : ℕ) (what : Happening) (became : Outcome) → IsPlain (entry_told addr what became ∷ [])
one_plain addr (happening.Coin place) (outcome.Accepted c) = (refl, refl, refl)
one_plain addr (happening.Coin place) became = (refl, refl, refl)
one_plain addr happening.Alien became = (refl, refl, refl)
one_plain addr (happening.Bill place) outcome.Done = (refl, refl, refl)
one_plain addr (happening.Bill place) became = (refl, refl, refl)
one_plain addr happening.Fall outcome.Done = (refl, refl, refl)
one_plain addr happening.Fall became = (refl, refl, refl)
one_plain addr happening.Jam outcome.Done = (refl, refl, refl)
one_plain addr happening.Jam became = (refl, refl, refl)
one_plain addr happening.Reset became = (refl, refl, refl)

pub told_plain : (after : List Entry) (addr : ℕ) (what : Happening) (became : Outcome)
    → after ≡ entry_told addr what became ∷ [] → IsPlain (reverse after)
told_plain after addr what became told = subst (λ es. IsPlain (reverse es)) (sym told) (one_plain addr what became)

module _ {D : Type 0} {g : Ghosts D} where
  -- what a step leaves that gave this report
  abbrev pub Left : Host D g → Bus → List Entry → List Entry → Type 0
  Left host bus past report =
      hosts.StandsFor host (reverse report ++ past) × wires.StandsFor bus (reverse report ++ past)

  -- that an exchange was forged changes nothing of the host
  told_stands : (host : Host D g) (past : List Entry) (was : Bool) (found : Option ℕ) → hosts.StandsFor host past
      → hosts.StandsFor host (forged_told was found ++ past)
  told_stands host past was None stands = stands
  told_stands host past false (Some addr) stands = stands
  told_stands host past true (Some addr) stands =
      host_quiet host past (entry.Forged addr) (forged_quiet past addr) stands

  -- what a next gives and leaves
  abbrev NextGoes : Setup → ℕ → Host D g → Bus → List Entry → List Entry → Type 0
  NextGoes setup addr host bus past news =
      EntriesOnWire setup past addr news × (hosts.StandsFor host (news ++ past) × wires.StandsFor bus (news ++ past))

  -- an attempt, and what is reported of its exchange
  attempt_goes : (setup : Setup) (host : Host D g) (bus : Bus) (addr : ℕ) (past : List Entry) (what : Attempt)
      (was : Bool) → was ≡ was_forged (news_of addr what ++ past)
      → EntriesOfNext (heard_after setup past) setup past addr (news_of addr what)
      → hosts.StandsFor host (news_of addr what ++ past) → wires.StandsFor bus (news_of addr what ++ past)
      → NextGoes setup addr host bus past (all_told was addr what)
  attempt_goes setup host bus addr past what was is goes stands wired =
      let news = news_of addr what in
      let found = asked_by addr what in
      let told : forged_told was found ≡ forged_after past news =
      ap (λ b. forged_told b found) is ∙ told_rightly past addr what in
      let later : forged_told was found ++ (news ++ past) ≡ all_told was addr what ++ past =
      sym (append_assoc (forged_told was found) news past) in (
        subst (λ line. EntriesOnWire setup past addr (line ++ news)) (sym told) (on_wire setup past addr news goes),
        (
          subst (hosts.StandsFor host) later (told_stands host (news ++ past) was found stands),
          subst (wires.StandsFor bus) later (told_wire bus (news ++ past) was found wired),
        ),
      )

  -- a next
  pub next_goes : (bus after : Bus) (host left : Host D g) (addr : ℕ) (past before report told : List Entry)
      (next : hosts.Nexts wires.Exchanges bus after addr host left before report) (tells : TellsForged after report told)
      → reverse told ≡ all_told tells.was addr next.what → wires.setup_of bus ≡ hosts.setup_of host
      → hosts.StandsFor host past → wires.StandsFor bus past → PutSuits (hosts.setup_of host) past addr
      → EntriesOnWire (hosts.setup_of host) past addr (reverse told) × Left left after past told
  next_goes bus after host left addr past before report told next tells is same stands wired suits =
      let setup = hosts.setup_of host in
      let wire = linked bus after addr past next.what next.link wired in
      let heard = subst (λ s. HeardBy (heard_after s past) next.what) same wire.0 in
      let goes = next.goes (heard_after setup past) past heard stands suits in
      subst (NextGoes setup addr left after past) (sym is)
      (attempt_goes setup left after addr past next.what tells.was
      (tells.was_is (news_of addr next.what ++ past) wire.1) goes.0 goes.1 wire.1)

  -- a step of one entry that changes no job, no epoch, no open order and no record
  pub one_goes : (host : Host D g) (bus : Bus) (past : List Entry) (e : Entry) (report : List Entry) → report ≡ e ∷ []
      → IsQuiet past e → hosts.StandsFor host past → wires.StandsFor bus (e ∷ past)
      → (reverse report ≡ e ∷ []) × Left host bus past report
  one_goes host bus past e report is quiet stands wired =
      subst (λ r. (reverse r ≡ e ∷ []) × Left host bus past r) (sym is)
      (refl, (host_quiet host past e quiet stands, wired))

  -- a balance
  pub balance_goes : (host : Host D g) (bus : Bus) (past : List Entry) (told : Totals) (report : List Entry)
      → report ≡ entry.Balance told ∷ [] → ((past : List Entry) → hosts.Keeps host past
      → told ≡ totals (hosts.setup_of host) past) → hosts.StandsFor host past → wires.StandsFor bus past
      → (reverse report ≡ entry.Balance (totals (hosts.setup_of host) past) ∷ []) × Left host bus past report
  balance_goes host bus past told report is tells stands wired =
      let goes = one_goes host bus past (entry.Balance told) report is (balance_quiet past told) stands
      (balance_wire bus past told wired) in
      (goes.0 ∙ ap (λ t. entry.Balance t ∷ []) (tells past stands.keeps), goes.1)

  -- a command
  pub command_goes : (capacity : ℕ) (setup : Setup) (host : Host D g) (bus : Bus) (past : List Entry) (c : Command)
      (refused : Option CommandNo) (report : List Entry) → refused ≡ refusal capacity setup past c
      → hosts.StandsFor host (command_entry c refused ∷ past) → wires.StandsFor bus past
      → report ≡ command_entry c refused ∷ []
      → (reverse report ≡ command_entry c (refusal capacity setup past c) ∷ []) × Left host bus past report
  command_goes capacity setup host bus past c refused report answer stands wired is =
      subst (λ r. (reverse r ≡ command_entry c (refusal capacity setup past c) ∷ []) × Left host bus past r) (sym is)
      (ap (λ n. command_entry c n ∷ []) answer, (stands, command_wire bus past c refused wired))

  -- what something that happens to a device gives and leaves
  abbrev pub HappeningGoes : Setup → Happening → ℕ → Host D g → Bus → List Entry → List Entry → Type 0
  HappeningGoes setup what addr host bus past report =
      EntriesOfHappening setup past addr what (reverse report) × Left host bus past report

  pub happening_goes : (setup : Setup) (addr : ℕ) (what : Happening) (host : Host D g) (bus : Bus)
      (past report : List Entry) (became : Outcome) → wires.Befalls setup past addr what became bus
      → report ≡ entry_told addr what became ∷ [] → hosts.StandsFor host past
      → HappeningGoes setup what addr host bus past report
  happening_goes setup addr what host bus past report became befalls said stands =
      knowing_both what (device_at setup.devices addr)
      (λ d. (became ≡ becomes what d.serial (met d past)) × wires.StandsFor bus (happening_entry addr d past what ∷ past))
      (λ d. reverse report ≡ happening_entry addr d past what ∷ []) (Left host bus past report)
      (λ d at goes. one_goes host bus past (happening_entry addr d past what) report
      (said ∙ ap (λ x. x ∷ []) (ap (entry_told addr what) goes.0
      ∙ entry_is d addr what past (address_there setup.devices addr d at)))
      (happening_quiet d addr what past) stands goes.1) befalls
