-- A command that is taken over a journal has room for its records, and what it spends is available.
use Rattle.std.proofs.Common.{◌≡◌, ℕ, ◌+◌, ◌≤◌, nat_le, List, [], ◌∷◌, Bool, true, false, cond, length, refl, ap, sym, ◌∙◌, Option, Some, None, arith, leb-true}
use Rattle.cct_model.specs.terms.device.DeviceSetup.{DeviceSetup}
use Rattle.cct_model.specs.terms.device.Setup.{Setup}
use Rattle.cct_model.specs.lines.command.Command.{Command}
use Rattle.cct_model.specs.lines.command.Command.TheVariants as command
use Rattle.cct_model.specs.lines.command.CommandNo.{CommandNo}
use Rattle.cct_model.specs.lines.command.CommandNo.TheVariants.{Short, JournalFull}
use Rattle.cct_model.specs.lines.entry.Entry.{Entry}
use Rattle.cct_model.specs.Exchange.{device_at}
use Rattle.cct_model.specs.Job.{ident_requests, address_of}
use Rattle.cct_model.specs.Rows.{need_in, puts_in, rows_for}
use Rattle.cct_model.specs.Records.{records}
use Rattle.cct_model.specs.Money.{coins_of, available}
use Rattle.cct_model.specs.declared.tests.Test.{Test}
use Rattle.cct_model.specs.declared.tests.Test.TheVariants.{WithCoins, WithPrice, WithRoom}
use Rattle.cct_model.specs.Refusal.{asks_room, tests_of, money_in, held, need_for, full_refusal, short_refusal, room_fails, refusal}
use Rattle.cct_model.proofs.Rows.{told_fact}
use Rattle.cct_laws.proofs.money.Reserved.{spent_by}
use Rattle.cct_laws.proofs.jobs.Tests.{Pass, tests_pass}

test_pass : (test : Bool) (why : CommandNo) → cond test None (Some why) ≡ None → test ≡ true
test_pass true why is = refl
test_pass false why is = absurd cc

-- there is room for so many records
pub full_pass : (setup : Setup) (past : List Entry) (need capacity : ℕ) → full_refusal setup past need capacity ≡ None →
    length (records past) + held setup past + need ≤ capacity
full_pass setup past need capacity is =
    leb-true (length (records past) + held setup past + need) capacity
    (test_pass (nat_le (length (records past) + held setup past + need) capacity)
    (JournalFull (length (records past)) (held setup past) need) is)

-- so much is available
pub short_pass : (setup : Setup) (past : List Entry) (wanted : ℕ) → short_refusal setup past wanted ≡ None →
    wanted ≤ available setup past
short_pass setup past wanted is =
    leb-true wanted (available setup past)
    (test_pass (nat_le wanted (available setup past)) (Short (available setup past)) is)

-- the commands without the test for room want none, and put nothing
unneeded : (found : Option DeviceSetup) (c : Command) → cond (asks_room (tests_of c)) 0 (need_for found c) ≡ 0
unneeded (Some d) (command.Ident addr) =
    told_fact (λ rows. need_in rows ≡ 0) refl (λ q behind rows same. same) (ident_requests d.body)
unneeded None (command.Ident addr) = refl
unneeded found c = refl

unput : (found : Option DeviceSetup) (c : Command) → cond (asks_room (tests_of c)) 0 (puts_in (rows_for found c)) ≡ 0
unput (Some d) (command.Ident addr) =
    told_fact (λ rows. puts_in rows ≡ 0) refl (λ q behind rows same. same) (ident_requests d.body)
unput None (command.Ident addr) = refl
unput found c = refl

pub unasked : (found : Option DeviceSetup) (c : Command) → asks_room (tests_of c) ≡ false →
    (need_for found c ≡ 0) × (puts_in (rows_for found c) ≡ 0)
unasked found c none = (
  ap (λ b. cond b 0 (need_for found c)) (sym none) ∙ unneeded found c,
  ap (λ b. cond b 0 (puts_in (rows_for found c))) (sym none) ∙ unput found c,
)

room_by : (capacity : ℕ) (setup : Setup) (past : List Entry) (need : ℕ) (tests : List Test) →
    Pass (room_fails capacity setup past need) tests → asks_room tests ≡ true →
    length (records past) + held setup past + need ≤ capacity
room_by capacity setup past need [] passes asks = absurd cc
room_by capacity setup past need (WithRoom ∷ tests) passes asks = full_pass setup past need capacity passes.0
room_by capacity setup past need (test ∷ tests) passes asks = room_by capacity setup past need tests passes.1 asks

-- a command that is taken has room for its records, where there is room for those that are held, and what it spends is
-- available
pub room_for : (capacity : ℕ) (setup : Setup) (past : List Entry) (c : Command) → refusal capacity setup past c ≡ None →
    length (records past) + held setup past ≤ capacity →
    length (records past) + held setup past + need_for (device_at setup.devices (address_of c)) c ≤ capacity
room_for capacity setup past c lets room = by_test (asks_room (tests_of c)) refl
  where
    need : ℕ
    need = need_for (device_at setup.devices (address_of c)) c

    by_test : (asks : Bool) → asks_room (tests_of c) ≡ asks → length (records past) + held setup past + need ≤ capacity
    by_test true asks =
        room_by capacity setup past need (tests_of c) (tests_pass capacity setup past c lets).room asks
    by_test false asks =
        none_more (length (records past) + held setup past) need
        (unasked (device_at setup.devices (address_of c)) c asks).0 room
      where
        none_more : (many wanted : ℕ) → wanted ≡ 0 → many ≤ capacity → many + wanted ≤ capacity
        none_more many wanted none le = omega (arith, none, le)

money_by : (capacity : ℕ) (setup : Setup) (past : List Entry) (need : ℕ) (tests : List Test) →
    Pass (room_fails capacity setup past need) tests → money_in setup tests ≤ available setup past
money_by capacity setup past need [] passes = omega arith
money_by capacity setup past need (WithCoins addr count ∷ tests) passes =
    short_pass setup past (coins_of setup addr count) passes.0
money_by capacity setup past need (WithPrice price ∷ tests) passes = short_pass setup past price passes.0
money_by capacity setup past need (test ∷ tests) passes = money_by capacity setup past need tests passes.1

pub money_for : (capacity : ℕ) (setup : Setup) (past : List Entry) (c : Command) →
    refusal capacity setup past c ≡ None → spent_by setup c ≤ available setup past
money_for capacity setup past c lets =
    money_by capacity setup past (need_for (device_at setup.devices (address_of c)) c) (tests_of c)
    (tests_pass capacity setup past c lets).room
