-- What an exchange of a job's own request does to the row that asked it: what is sent once it ends, whatever is heard; a
-- row that waits for a payout ends by a state with no coin left; any other ends by its answer, and stays without one.
use Rattle.std.proofs.Common.{◌≡◌, suc, true, false, cond, List, [], ◌∷◌, ◌⊎◌, inl, inr, refl, ap, sym, ◌∙◌, subst, ℕ, Bool, true≢false, Option, Some, None}
use Rattle.std.specs.Prelude.{⊤}
use Rattle.cct_model.specs.terms.device.DeviceSetup.{DeviceSetup}
use Rattle.cct_model.specs.terms.request.Request.{Request}
use Rattle.cct_model.specs.declared.judging.Judged.{Judged}
use Rattle.cct_model.specs.declared.judging.EpochState.{EpochState}
use Rattle.cct_model.specs.declared.judging.OpenOrder.{OpenOrder}
use Rattle.cct_model.specs.lines.command.Command.{Command}
use Rattle.cct_model.specs.Reply.{Reply}
use Rattle.cct_model.specs.Reply as reply
use Rattle.cct_model.specs.Line.{Line, exchange}
use Rattle.cct_model.specs.Order.{is_marked}
use Rattle.cct_model.specs.Job.{sends, Noted, noted_in, judged_in, address_of, state_row}
use Rattle.cct_model.specs.Rows.{TableRow, asks_for, asks_once, waits_for_coins, puts_due, after, done, rest, first, row, sent_once, ends_first, has_waits}
use Rattle.cct_model.proofs.Requests.{is_asked_again, IsAgain}
use Rattle.cct_model.proofs.Tries.{FailsAs, fails_as, left_asks, due_sends, same_request}
use Rattle.cct_model.proofs.Rows.{EachRow}

-- without an answer only what is sent once ends
pub unanswered_ends : (rows : List TableRow) → ends_first rows None ≡ sent_once rows
unanswered_ends [] = refl
unanswered_ends (asks_for q behind ∷ rows) = refl
unanswered_ends (asks_once q behind without ∷ rows) = refl
unanswered_ends (waits_for_coins ∷ rows) = refl
unanswered_ends (puts_due due behind ∷ rows) = refl

-- that ends whatever is heard
pub once_ends : (rows : List TableRow) (got : Option Reply) → sent_once rows ≡ true → ends_first rows got ≡ true
once_ends [] got once = absurd cc
once_ends (asks_for q behind ∷ rows) got once = absurd cc
once_ends (asks_once q behind without ∷ rows) got once = refl
once_ends (waits_for_coins ∷ rows) got once = absurd cc
once_ends (puts_due due behind ∷ rows) got once = absurd cc

pub stays_again : (rows : List TableRow) (got : Option Reply) → ends_first rows got ≡ false → sent_once rows ≡ false
stays_again [] got stays = refl
stays_again (asks_for q behind ∷ rows) got stays = refl
stays_again (asks_once q behind without ∷ rows) got stays = absurd (true≢false stays)
stays_again (waits_for_coins ∷ rows) got stays = refl
stays_again (puts_due due behind ∷ rows) got stays = refl

-- so the rows done are as many as before, or one more
pub failed_stays : (rows : List TableRow) (asked : Option Request) (since : List Line) →
    sent_once (after rows (done rows since)) ≡ false → done rows (exchange asked None ∷ since) ≡ done rows since
failed_stays rows asked since again =
    ap (λ ends. cond ends (suc (done rows since)) (done rows since))
    (unanswered_ends (after rows (done rows since)) ∙ again)

pub once_goes : (rows : List TableRow) (asked : Option Request) (got : Option Reply) (since : List Line) →
    sent_once (after rows (done rows since)) ≡ true → done rows (exchange asked got ∷ since) ≡ suc (done rows since)
once_goes rows asked got since once =
    ap (λ ends. cond ends (suc (done rows since)) (done rows since)) (once_ends (after rows (done rows since)) got once)

-- a row that asks is the first that isn't done
pub rest_asks : (d : DeviceSetup) (c : Command) (since : List Line) (state : EpochState) (owed : Option OpenOrder)
    (q : Request) → row d c since state owed ≡ sends q →
    first (address_of c) (judged_in c since state) (noted_in since owed) (rest d c since) ≡ sends q
rest_asks d c since state owed q is =
    subst (λ rows. first (address_of c) (judged_in c since state) (noted_in since owed) rows ≡ sends q)
    (left_asks d c since state owed q is) is

-- an answer ends the row, or the row waits for a payout
abbrev pub AnswersAs : List TableRow → Bool → Request → Type 0
AnswersAs rows marked q =
    ((y : Reply) → ends_first rows (Some y) ≡ true)
    ⊎ ((has_waits rows ≡ true) × (state_row marked ≡ sends q)
    × ((y : Reply) → ends_first rows (Some y) ≡ ends_first (waits_for_coins ∷ []) (Some y)))

answers_first : (addr : ℕ) (means : Judged) (p : Noted) (rows : List TableRow) (q : Request) →
    first addr means p rows ≡ sends q → AnswersAs rows p.is_marked q
answers_first addr means p [] q is = absurd cc
answers_first addr means p (asks_for x behind ∷ rows) q is = inl (λ y. refl)
answers_first addr means p (asks_once x behind without ∷ rows) q is = inl (λ y. refl)
answers_first addr means p (waits_for_coins ∷ rows) q is = inr (refl, is, λ y. same_end y)
  where
    same_end : (y : Reply) → ends_first (waits_for_coins ∷ rows) (Some y) ≡ ends_first (waits_for_coins ∷ []) (Some y)
    same_end (reply.status events left_to_pay paid unpaid) = refl
    same_end y = refl
answers_first addr means p (puts_due due behind ∷ rows) q is = absurd (due_sends addr means p due q is)

pub answers_as : (d : DeviceSetup) (c : Command) (since : List Line) (state : EpochState) (owed : Option OpenOrder)
    (q : Request) → row d c since state owed ≡ sends q → AnswersAs (rest d c since) (is_marked since) q
answers_as d c since state owed q is =
    answers_first (address_of c) (judged_in c since state) (noted_in since owed) (rest d c since) q
    (rest_asks d c since state owed q is)

-- whether the row that asks is sent once is reported by its request, and shows it
pub fails_rest : (d : DeviceSetup) (c : Command) (since : List Line) (state : EpochState) (owed : Option OpenOrder)
    (q : Request) → row d c since state owed ≡ sends q → FailsAs (rest d c since) q
fails_rest d c since state owed q is =
    subst (λ rows. FailsAs rows q) (left_asks d c since state owed q is) (fails_as d c since state owed q is)

again_by : (rows : List TableRow) (q : Request) → FailsAs rows q → IsAgain q → sent_once rows ≡ false
again_by rows q (inl fails) again = fails.1
again_by rows q (inr fails) again = absurd (true≢false (sym again ∙ fails.0))

once_by : (rows : List TableRow) (q : Request) → FailsAs rows q → is_asked_again q ≡ false → sent_once rows ≡ true
once_by rows q (inl fails) once = absurd (true≢false (sym fails.0 ∙ once))
once_by rows q (inr fails) once = fails.1

asks_again_by : (rows : List TableRow) (q : Request) → FailsAs rows q → sent_once rows ≡ false → IsAgain q
asks_again_by rows q (inl fails) again = fails.0
asks_again_by rows q (inr fails) again = absurd (true≢false (sym fails.1 ∙ again))

pub row_again : (d : DeviceSetup) (c : Command) (since : List Line) (state : EpochState) (owed : Option OpenOrder)
    (q : Request) → row d c since state owed ≡ sends q → IsAgain q → sent_once (rest d c since) ≡ false
row_again d c since state owed q is again = again_by (rest d c since) q (fails_rest d c since state owed q is) again

pub row_once : (d : DeviceSetup) (c : Command) (since : List Line) (state : EpochState) (owed : Option OpenOrder)
    (q : Request) → row d c since state owed ≡ sends q → is_asked_again q ≡ false → sent_once (rest d c since) ≡ true
row_once d c since state owed q is once = once_by (rest d c since) q (fails_rest d c since state owed q is) once

pub again_row : (d : DeviceSetup) (c : Command) (since : List Line) (state : EpochState) (owed : Option OpenOrder)
    (q : Request) → row d c since state owed ≡ sends q → sent_once (rest d c since) ≡ false → IsAgain q
again_row d c since state owed q is again = asks_again_by (rest d c since) q (fails_rest d c since state owed q is) again

-- a fact of each request that is sent once
abbrev pub IfOnce : (Request → Type 0) → TableRow → Type 0
IfOnce P (asks_once q behind without) = P q
IfOnce P r = ⊤

pub once_sent : (P : Request → Type 0) (addr : ℕ) (means : Judged) (p : Noted) (rows : List TableRow) (q : Request) →
    first addr means p rows ≡ sends q → sent_once rows ≡ true → EachRow (IfOnce P) rows → P q
once_sent P addr means p [] q is once each = absurd cc
once_sent P addr means p (asks_for x behind ∷ rows) q is once each = absurd cc
once_sent P addr means p (asks_once x behind without ∷ rows) q is once each = subst P (same_request x q is) each.0
once_sent P addr means p (waits_for_coins ∷ rows) q is once each = absurd cc
once_sent P addr means p (puts_due due behind ∷ rows) q is once each = absurd cc
