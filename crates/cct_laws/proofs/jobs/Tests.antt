-- A command that is taken passes its tests: those of the state, and those of the money and of the room.
use Rattle.std.proofs.Common.{◌≡◌, ℕ, List, [], ◌∷◌, refl, ap, ◌∙◌, Option, Some, None, Bool, true, false}
use Rattle.std.specs.Prelude.{⊤}
use Rattle.std.specs.Option.{option_or}
use Rattle.cct_model.specs.terms.device.Setup.{Setup}
use Rattle.cct_model.specs.lines.command.Command.{Command}
use Rattle.cct_model.specs.lines.command.CommandNo.{CommandNo}
use Rattle.cct_model.specs.lines.entry.Entry.{Entry}
use Rattle.cct_model.specs.Exchange.{device_at}
use Rattle.cct_model.specs.Job.{address_of}
use Rattle.cct_model.specs.declared.tests.Test.{Test}
use Rattle.cct_model.specs.Refusal.{first_of, tests_of, view_for, state_fails, room_fails, state_refusal, room_refusal, refusal, state_tests, unless, need_for}

-- each of these tests passes
abbrev pub Pass : (Test → Option CommandNo) → List Test → Type 0
Pass fails [] = ⊤
Pass fails (test ∷ tests) = (fails test ≡ None) × Pass fails tests

pub both_pass : {A : Type 0} (first second : Option A) → option_or first second ≡ None → (first ≡ None) × (second ≡ None)
both_pass None second is = (refl, is)
both_pass (Some x) second is = absurd cc

pub all_pass : (fails : Test → Option CommandNo) (tests : List Test) → first_of fails tests ≡ None → Pass fails tests
all_pass fails [] none = tt
all_pass fails (test ∷ []) none = (none, tt)
all_pass fails (test ∷ next ∷ tests) none =
    let both = both_pass (fails test) (first_of fails (next ∷ tests)) none in (both.0, all_pass fails (next ∷ tests) both.1)

pub none_fails : (fails : Test → Option CommandNo) (tests : List Test) → Pass fails tests → first_of fails tests ≡ None
none_fails fails [] pass = refl
none_fails fails (test ∷ []) pass = pass.0
none_fails fails (test ∷ next ∷ tests) pass =
    ap (λ first. option_or first (first_of fails (next ∷ tests))) pass.0 ∙ none_fails fails (next ∷ tests) pass.1

-- what passes these tests passes others, each of which fails only where its own does
pub pass_other : (fails others : Test → Option CommandNo) → ((test : Test) → fails test ≡ None → others test ≡ None) →
    (tests : List Test) → Pass fails tests → Pass others tests
pass_other fails others weaker [] pass = tt
pass_other fails others weaker (test ∷ tests) pass =
    (weaker test pass.0, pass_other fails others weaker tests pass.1)

-- what a test passes by
pub test_holds : (holds : Bool) (why : CommandNo) → unless holds why ≡ None → holds ≡ true
test_holds true why none = refl
test_holds false why none = absurd cc

pub record Passes (capacity : ℕ) (setup : Setup) (past : List Entry) (c : Command) : Type 0 where
  pub state : Pass (state_fails (view_for setup past c)) (state_tests c)
  pub room :
      Pass (room_fails capacity setup past (need_for (device_at setup.devices (address_of c)) c)) (tests_of c)

pub tests_pass : (capacity : ℕ) (setup : Setup) (past : List Entry) (c : Command) →
    refusal capacity setup past c ≡ None → Passes capacity setup past c
tests_pass capacity setup past c lets =
    let both = both_pass (state_refusal setup past c) (room_refusal capacity setup past c) lets in
    record { state = all_pass _ (state_tests c) both.0; room = all_pass _ (tests_of c) both.1 }
