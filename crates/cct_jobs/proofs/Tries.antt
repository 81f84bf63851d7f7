-- What the definitions say of failed tries.
use Rattle.std.proofs.Common.{◌≡◌, ◌≢◌, ◌↔◌, ℕ, suc, ◌==◌, Bool, true, false, cond, List, ◌∷◌, refl, ap, ◌∙◌, Some, None, arith, Option, subst, rules, sym, []}
use Rattle.std.proofs.lemmas.Bool.{eqb-true, ne_eqb}
use Rattle.cct_model.specs.lines.command.Command.{Command}
use Rattle.cct_model.specs.lines.command.Command.TheVariants as command
use Rattle.cct_model.specs.terms.device.DeviceSetup.{DeviceSetup}
use Rattle.cct_model.specs.lines.entry.End.TheVariants.{NoAnswer, StartUnsure}
use Rattle.cct_model.specs.terms.request.Request.{Request}
use Rattle.cct_model.specs.terms.request.Request.TheVariants.{SetMask}
use Rattle.cct_model.specs.declared.judging.EpochState.{EpochState}
use Rattle.cct_model.specs.declared.judging.Judged.{Judged}
use Rattle.cct_model.specs.Job.{end_of_tries, ident_requests, path_set, path_read, judged_in, tries, Noted, sends, address_of, state_row, noted_in}
use Rattle.cct_model.specs.Rows.{end_of, TableRow, Then, asks_for, rows_of, first, row, goes_on, asks_once, path_told, end_failed, end_bare, puts_due, left, sent_once, waits_for_coins}
use Rattle.cct_model.specs.Line.{Line, exchange}
use Rattle.cct_model.specs.Reply.{Reply}
use Rattle.cct_model.specs.Request.{header_of}
use Rattle.cct_model.proofs.Rows.{EachRow, IfEnd, answer_end, each_left, told_each}
use Rattle.cct_model.specs.declared.judging.OpenOrder.{OpenOrder}
use Rattle.std.specs.Prelude.{⊤}
use Rattle.cct_model.proofs.Requests.{IsAgain}
use Rattle.cct_model.proofs.Tries.{IsHeardEnd, ident_again, path_set_again, path_read_again, asked_fails, same_request, answers_heard, due_sends, tried}

cond_some : (b : Bool) → cond b (Some NoAnswer) None ≡ Some NoAnswer → b ≡ true
cond_some true e = refl
cond_some false e = absurd cc

by_tries : (failed : ℕ) → end_of_tries failed ≡ Some NoAnswer → failed ≡ 3
by_tries failed e = eqb-true _ _ (cond_some (failed == 3) e)

-- the third failed try of a row that isn't sent once ends a job, and no other does
pub third_ends : (d : DeviceSetup) (c : Command) (q : Request) (since : List Line) (state : EpochState)
    → sent_once (left d c since state) ≡ false
    → (end_of d c (exchange (Some q) None) since state ≡ Some NoAnswer) ↔ (tries (header_of q) since ≡ 2)
third_ends d c q since state again = (
  λ ends.
      let all : tries (header_of q) (exchange (Some q) None ∷ since) ≡ 3 = by_tries _ (sym (fails _) ∙ ends) in
      let more = tried q since in
      omega arith,
  λ two. fails _ ∙ ap end_of_tries (tried q since ∙ ap suc two),
)
  where
    fails : (failed : ℕ) → end_failed (left d c since state) failed ≡ end_of_tries failed
    fails failed = asked_fails (left d c since state) failed again

-- a mask that isn't acknowledged ends its job unsure
abbrev MasksEnd : TableRow → Type 0
MasksEnd (asks_for (SetMask mask) behind) = ⊥
MasksEnd (asks_for q behind) = ⊤
MasksEnd (asks_once (SetMask mask) behind without) = end_bare without ≡ Some StartUnsure
MasksEnd r = ⊤

no_mask : (q : Request) (behind : Then) → IsAgain q → MasksEnd (asks_for q behind)
no_mask (SetMask mask) behind again = absurd cc
no_mask q behind again = tt

masks_end : (d : DeviceSetup) (c : Command) → EachRow MasksEnd (rows_of d c)
masks_end d (command.Ident addr) = told_each IsAgain MasksEnd no_mask (ident_requests d.body) (ident_again d.body)
masks_end d (command.Path addr place path) = (
  no_mask (path_set place path) goes_on (path_set_again (place == 0) place path),
  (no_mask (path_read place) (path_told place) (path_read_again (place == 0) place), tt),
)
masks_end d c = search rules

first_unsure : (addr : ℕ) (means : Judged) (p : Noted) (rows : List TableRow) (mask failed : ℕ) → EachRow MasksEnd rows
    → first addr means p rows ≡ sends (SetMask mask) → end_failed rows failed ≡ Some StartUnsure
first_unsure addr means p [] mask failed each is = absurd cc
first_unsure addr means p (asks_for x behind ∷ rows) mask failed each is =
    absurd (subst (λ q. MasksEnd (asks_for q behind)) (same_request x (SetMask mask) is) each.0)
first_unsure addr means p (asks_once x behind without ∷ rows) mask failed each is =
    subst (λ q. MasksEnd (asks_once q behind without)) (same_request x (SetMask mask) is) each.0
first_unsure addr means p (waits_for_coins ∷ rows) mask failed each is = absurd (marked_not p.is_marked is)
  where
    marked_not : (marked : Bool) → state_row marked ≡ sends (SetMask mask) → ⊥
    marked_not true is = cc
    marked_not false is = cc
first_unsure addr means p (puts_due due behind ∷ rows) mask failed each is =
    absurd (due_sends addr means p due (SetMask mask) is)

pub mask_unsure : (d : DeviceSetup) (c : Command) (mask : ℕ) (since : List Line) (state : EpochState)
    (owed : Option OpenOrder) → row d c since state owed ≡ sends (SetMask mask)
    → end_of d c (exchange (Some (SetMask mask)) None) since state ≡ Some StartUnsure
mask_unsure d c mask since state owed is =
    first_unsure (address_of c) (judged_in c since state) (noted_in since owed) (left d c since state) mask _
    (each_left MasksEnd d c since state (masks_end d c)) is

-- a wanted reply doesn't
pub answer_goes_on : (d : DeviceSetup) (c : Command) (q : Request) (y : Reply) (since : List Line) (state : EpochState)
    → end_of d c (exchange (Some q) (Some y)) since state ≢ Some NoAnswer
answer_goes_on d c q y since state e =
    subst (IfEnd IsHeardEnd) e (answer_end IsHeardEnd d c (Some q) y since state (answers_heard d c))

-- an exchange of another row begins the count anew
pub other_clears : (q : Request) (header : ℕ) (since : List Line) → header_of q ≢ header
    → tries header (exchange (Some q) None ∷ since) ≡ 0
other_clears q header since other = rw (ne_eqb (header_of q) header other) refl
