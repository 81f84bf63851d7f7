-- The tests of a command, one after the other.
use Rattle.std.proofs.Common.{◌≡◌, ℕ, zero, suc, ◌≤◌, arith, Bool, true, false, List, [], ◌∷◌, drop, get_or, Option, Some, None, refl, sym, ap, ◌∙◌}
use Rattle.std.specs.Option.{option_or}
use Rattle.cct_model.specs.lines.command.Command.{Command}
use Rattle.cct_model.specs.lines.command.CommandNo.{CommandNo}
use Rattle.cct_model.specs.lines.entry.Entry.{Entry}
use Rattle.cct_model.specs.terms.device.DeviceSetup.{DeviceSetup}
use Rattle.cct_model.specs.terms.device.Setup.{Setup}
use Rattle.cct_model.specs.declared.tests.Test.{Test}
use Rattle.cct_model.specs.declared.tests.Test.TheVariants.{WithCoins, WithPrice, WithRoom}
use Rattle.cct_model.specs.Refusal.{asks_room, first_of, listed, of_room, room_fails, room_tests, tests_of}
use Rattle.cct_model.specs.Rows.{puts_in, rows_for}
use Rattle.cct_laws.proofs.money.Room.{unasked}

or_none : (o : Option CommandNo) → o ≡ option_or o None
or_none None = refl
or_none (Some why) = refl

pub first_more : (fails : Test → Option CommandNo) (t : Test) (more : List Test)
    → first_of fails (t ∷ more) ≡ option_or (fails t) (first_of fails more)
first_more fails t [] = or_none (fails t)
first_more fails t (next ∷ more) = refl

-- the first of these tests that fails, where they begin at it
pub first_at : (fails : Test → Option CommandNo) (slots : List (Option Test)) (i : ℕ) (t : Test) (why : CommandNo)
    → get_or slots i None ≡ Some t → fails t ≡ Some why → first_of fails (listed (drop i slots)) ≡ Some why
first_at fails [] i t why at is = absurd cc
first_at fails (slot ∷ more) zero t why at is =
    ap (λ s. first_of fails (listed (s ∷ more))) at ∙ first_more fails t (listed more)
    ∙ ap (λ o. option_or o (first_of fails (listed more))) is
first_at fails (slot ∷ more) (suc i) t why at is = first_at fails more i t why at is

-- the tests of the state look at no money and at no room
pub first_of_room : (capacity : ℕ) (setup : Setup) (past : List Entry) (need : ℕ) (ts : List Test)
    → first_of (room_fails capacity setup past need) (of_room ts) ≡ first_of (room_fails capacity setup past need) ts
first_of_room capacity setup past need [] = refl
first_of_room capacity setup past need (WithCoins addr count ∷ ts) = refl
first_of_room capacity setup past need (WithPrice price ∷ ts) = refl
first_of_room capacity setup past need (WithRoom ∷ ts) = refl
first_of_room capacity setup past need (t ∷ ts) =
    first_of_room capacity setup past need ts ∙ sym (first_more (room_fails capacity setup past need) t ts)

asks_of_room : (ts : List Test) → asks_room (of_room ts) ≡ asks_room ts
asks_of_room [] = refl
asks_of_room (WithCoins addr count ∷ ts) = refl
asks_of_room (WithPrice price ∷ ts) = refl
asks_of_room (WithRoom ∷ ts) = refl
asks_of_room (t ∷ ts) = asks_of_room ts

-- a command whose rows put something asks for room
pub room_asked : (found : Option DeviceSetup) (c : Command) → 1 ≤ puts_in (rows_for found c) → asks_room (room_tests c) ≡ true
room_asked found c puts = asks_of_room (tests_of c) ∙ by_test (asks_room (tests_of c)) refl
  where
    by_test : (asks : Bool) → asks_room (tests_of c) ≡ asks → asks ≡ true
    by_test true is = refl
    by_test false is = absurd (omega (arith, puts, (unasked found c is).1))
