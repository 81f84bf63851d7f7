-- A journal that takes more records refuses no command that one refuses not that takes fewer. So the books that are kept
-- over the one are kept over the other.
use Rattle.std.proofs.Common.{◌≡◌, ℕ, ◌+◌, ◌≤◌, nat_le, Bool, true, false, cond, List, [], ◌∷◌, ◌++◌, length, refl, Option, Some, None, All, arith, le-leb}
use Rattle.std.specs.Option.{option_or}
use Rattle.cct_model.specs.terms.device.DeviceSetup.{DeviceSetup}
use Rattle.cct_model.specs.terms.device.Setup.{Setup}
use Rattle.cct_model.specs.lines.command.Command.{Command}
use Rattle.cct_model.specs.lines.command.Command.TheVariants as command
use Rattle.cct_model.specs.lines.command.CommandNo.{CommandNo}
use Rattle.cct_model.specs.lines.command.CommandNo.TheVariants.{JournalFull}
use Rattle.cct_model.specs.lines.command.Step.{Step}
use Rattle.cct_model.specs.lines.command.Step.TheVariants as step
use Rattle.cct_model.specs.lines.entry.Entry.{Entry}
use Rattle.cct_model.specs.lines.entry.Entry.TheVariants as entry
use Rattle.cct_model.specs.Exchange.{device_at}
use Rattle.cct_model.specs.Job.{address_of}
use Rattle.cct_model.specs.Legal.{LegalFrom}
use Rattle.cct_model.specs.Records.{records}
use Rattle.cct_model.specs.declared.tests.Test.{Test}
use Rattle.cct_model.specs.declared.tests.Test.TheVariants.{WithRoom}
use Rattle.cct_model.specs.Refusal.{first_of, full_refusal, held, need_for, refusal, room_fails, room_refusal, state_refusal, tests_of}
use Rattle.cct_model.specs.Script.{IsInRange}
use Rattle.cct_model.specs.Setup.{IsSoundSetup}
use Rattle.cct_laws.specs.Ids.{Ids}
use Rattle.cct_laws.proofs.jobs.StepBrings.{AtDevice, came, took, halted, idled, made_exchange, made_put, Brought, of_device, faulted, refused, began_scan, began_sale, nobody, polled, sold, balanced, of_desk, ended_short, lost_power, lost_in_put, lost_in_sale}
use Rattle.cct_laws.proofs.jobs.SeenAtOne.{along_from}
use Rattle.cct_laws.proofs.jobs.Tests.{Pass, all_pass, both_pass}
use Rattle.cct_laws.proofs.money.Books.{Books, books_step, books_forged}
use Rattle.cct_laws.proofs.money.Room.{full_pass}

neither : {A : Type 0} (first second : Option A) → first ≡ None → second ≡ None → option_or first second ≡ None
neither None second one other = other
neither (Some x) second one other = absurd cc

module _ (small large : ℕ) (less : small ≤ large) (setup : Setup) (past : List Entry) where
  full_wider : (need : ℕ) → full_refusal setup past need small ≡ None → full_refusal setup past need large ≡ None
  full_wider need is =
      let fits = full_pass setup past need small is in
      fitting (JournalFull (length (records past)) (held setup past) need)
      (nat_le (length (records past) + held setup past + need) large)
      (le-leb (length (records past) + held setup past + need) large (omega (arith, fits, less)))
    where
      fitting : (why : CommandNo) (fits : Bool) → fits ≡ true → cond fits None (Some why) ≡ None
      fitting why true test = refl
      fitting why false test = absurd cc

  test_wider : (need : ℕ) (test : Test) → room_fails small setup past need test ≡ None →
      room_fails large setup past need test ≡ None
  test_wider need WithRoom is = full_wider need is
  test_wider need test is = is

  tests_wider : (need : ℕ) (tests : List Test) → Pass (room_fails small setup past need) tests →
      first_of (room_fails large setup past need) tests ≡ None
  tests_wider need [] passes = refl
  tests_wider need (test ∷ []) passes = test_wider need test passes.0
  tests_wider need (test ∷ next ∷ tests) passes =
      neither (room_fails large setup past need test) (first_of (room_fails large setup past need) (next ∷ tests))
      (test_wider need test passes.0) (tests_wider need (next ∷ tests) passes.1)

  refusal_wider : (c : Command) → refusal small setup past c ≡ None → refusal large setup past c ≡ None
  refusal_wider c is =
      let need = need_for (device_at setup.devices (address_of c)) c in
      let both = both_pass (state_refusal setup past c) (room_refusal small setup past c) is in
      neither (state_refusal setup past c) (room_refusal large setup past c) both.0
      (tests_wider need (tests_of c) (all_pass (room_fails small setup past need) (tests_of c) both.1))

  there_wider : (d : DeviceSetup) (s : Step) (news : List Entry) → AtDevice small setup d past s news →
      AtDevice large setup d past s news
  there_wider d _ _ (came s e m ls comes) = came s e m ls comes
  there_wider d _ _ (took s c gives suited here is_free is_taken is_owed lets) =
      took s c gives suited here is_free is_taken is_owed (refusal_wider c lets)
  there_wider d _ _ (halted paying can) = halted paying can
  there_wider d _ _ (idled is_free) = idled is_free
  there_wider d _ _ (made_exchange c since q at_work is_row) = made_exchange c since q at_work is_row
  there_wider d _ _ (made_put c since r at_work is_row) = made_put c since r at_work is_row

  -- what a step brought is brought over the other journal too, but for a command that is refused
  data Wider : Step → List Entry → Type 0 where
    as_refused : (s : Step) (c : Command) (why : CommandNo) → Wider s (entry.No c why ∷ [])
    as_ended : (c : Command) (why : CommandNo) (paid rest : ℕ) →
        Wider step.Serve (entry.Short paid rest ∷ entry.No c why ∷ [])
    as_brought : (s : Step) (news : List Entry) → Brought large setup past s news → Wider s news

  wider : (s : Step) (news : List Entry) → Brought small setup past s news → Wider s news
  wider _ _ (of_device d s news own told) = as_brought s news (of_device d s news own (there_wider d s news told))
  wider _ _ (faulted f) = as_brought _ _ (faulted f)
  wider _ _ (refused c why was) = as_refused _ c why
  wider _ _ (began_scan is_free) = as_brought _ _ (began_scan is_free)
  wider _ _ (began_sale id price is_free lets) =
      as_brought _ _ (began_sale id price is_free (refusal_wider (command.Vend id price) lets))
  wider _ _ (nobody addr none) = as_brought _ _ (nobody addr none)
  wider _ _ (polled c since check addr none is_job is_row) = as_brought _ _ (polled c since check addr none is_job is_row)
  wider _ _ (sold id price since none selling) = as_brought _ _ (sold id price since none selling)
  wider _ _ balanced = as_brought _ _ balanced
  wider _ _ (of_desk s e is) = as_brought s (e ∷ []) (of_desk s e is)
  wider _ _ (ended_short addr id count why paid rest small range was) =
      as_ended (command.Pay addr id count) why paid rest
  wider _ _ (lost_power at choice) = as_brought _ _ (lost_power at choice)
  wider _ _ (lost_in_put at choice d c since r own at_work is_row) =
      as_brought _ _ (lost_in_put at choice d c since r own at_work is_row)
  wider _ _ (lost_in_sale at choice id price since none selling) =
      as_brought _ _ (lost_in_sale at choice id price since none selling)

-- so the books are kept
books_refused : (capacity : ℕ) (setup : Setup) (past : List Entry) (c : Command) (why : CommandNo) →
    Books capacity setup past → Books capacity setup (entry.No c why ∷ past)
books_refused capacity setup past c why books = record {
  base = record { sells = books.base.sells; ranged = books.base.ranged; needs = books.base.needs };
  counts = record { follow = books.counts.follow; covered = books.counts.covered; room = books.counts.room };
}

-- and an end of a session that follows puts nothing either
books_ended : (capacity : ℕ) (setup : Setup) (past : List Entry) (paid rest : ℕ) → Books capacity setup past →
    Books capacity setup (entry.Short paid rest ∷ past)
books_ended capacity setup past paid rest books = record {
  base = record { sells = books.base.sells; ranged = books.base.ranged; needs = books.base.needs };
  counts = record { follow = books.counts.follow; covered = books.counts.covered; room = books.counts.room };
}

books_wider : (small large : ℕ) (less : small ≤ large) (setup : Setup) (past : List Entry) (s : Step) (news : List Entry) →
    IsSoundSetup setup → IsInRange s → Ids setup past → Wider small large less setup past s news → Books large setup past →
    Books large setup (news ++ past)
books_wider small large less setup past _ _ sound range ids (as_refused s c why) books =
    books_refused large setup past c why books
books_wider small large less setup past _ _ sound range ids (as_ended c why paid rest) books =
    books_ended large setup (entry.No c why ∷ past) paid rest (books_refused large setup past c why books)
books_wider small large less setup past _ _ sound range ids (as_brought s news told) books =
    books_step large setup past news s sound range ids told books

-- after any past in which ids are in order and the books are kept for a journal that takes at least as many
pub books_behind : (small large : ℕ) (setup : Setup) (past : List Entry) (steps : List Step) (end : List Entry) →
    small ≤ large → IsSoundSetup setup → All IsInRange steps → Ids setup past → Books large setup past →
    LegalFrom small setup past steps end → Ids setup end × Books large setup end
books_behind small large setup past steps end less sound range ids books legal =
    along_from small setup IsInRange (Books large setup) sound
    (λ before news s in_range kept told holds.
    books_wider small large less setup before s news sound in_range kept (wider small large less setup before s news told)
    holds)
    (books_forged large setup) past steps end range ids legal books
