-- The rows of a payment and of a settlement.
use Rattle.std.specs.Prelude.{⊤}
use Rattle.std.proofs.Common.{◌≡◌, ℕ, ◌<◌, ◌^◌, Bool, true, false, List, ◌∷◌, refl, sym, ap, subst, ◌∙◌, Option, Some, None}
use Rattle.cct_model.specs.terms.request.Request.TheVariants.{Dispense}
use Rattle.cct_model.specs.declared.judging.Judged.{Judged}
use Rattle.cct_model.specs.declared.judging.OpenOrder.{OpenOrder}
use Rattle.cct_model.specs.Reply.{Reply}
use Rattle.cct_model.specs.Line.{Line, exchange}
use Rattle.cct_model.specs.Order.{is_marked}
use Rattle.cct_model.specs.Job.{Noted, sends, state_row}
use Rattle.cct_model.specs.Rows.{end_answered, first, from}
use Rattle.cct_msg.specs.Forms.{FitsItsBytes}
use Rattle.cct_jobs.specs.declared.payout.Payout.{Payout}
use Rattle.cct_jobs.specs.declared.payout.Payout.TheVariants.{Dispenses, Waits, Stops}
use Rattle.cct_jobs.specs.declared.target.Target.{Target}
use Rattle.cct_jobs.specs.Ahead.{payout_ahead}
use Rattle.cct_jobs.specs.Jobs.{KnowsPayout, SuitsPayout, payout_request}
use Rattle.cct_msg.proofs.Exchanges.{again_fits}

-- a row that waits isn't marked, and one that stops is
abbrev pub MarkedFor : Payout → Bool → Type 0
MarkedFor (Waits closing own) marked = marked ≡ false
MarkedFor (Stops closing own) marked = marked ≡ true
MarkedFor row marked = ⊤

pub marked_for : (row : Payout) (since : List Line) (owed : Option OpenOrder) → KnowsPayout row since owed
    → MarkedFor row (is_marked since)
marked_for (Waits closing own) since owed knows = knows.0
marked_for (Stops closing own) since owed knows = knows.0
marked_for row since owed knows = tt

-- the first of the rows that a payment or a settlement has ahead is its own
pub first_of_payout : (row : Payout) (device : Target) (addr : ℕ) (means : Judged) (p : Noted)
    → SuitsPayout row device → MarkedFor row p.is_marked
    → first addr means p (from (payout_ahead device row) means) ≡ sends (payout_request row)
first_of_payout (Dispenses serial own halted) device addr means p suits marked =
    ap (λ n. sends (Dispense n own.order.count)) (sym suits.1)
first_of_payout (Waits closing own) device addr means p suits marked = ap state_row marked
first_of_payout (Stops closing own) device addr means p suits marked = ap state_row marked
first_of_payout row device addr means p suits marked = refl

-- its request fits its bytes
pub payout_fits : (row : Payout) (device : Target) → SuitsPayout row device → FitsItsBytes (payout_request row)
payout_fits (Dispenses serial own halted) device suits = λ number count e.
    let is : serial ≡ number = cc in
    subst (λ n. n < 2 ^ 24) (sym suits.1 ∙ is) suits.0
payout_fits row device suits = again_fits (payout_request row) refl

-- a failed try shows nothing
pub payout_knows : (row : Payout) (since : List Line) (owed : Option OpenOrder) → KnowsPayout row since owed
    → KnowsPayout row (exchange (Some (payout_request row)) None ∷ since) owed
payout_knows (Waits closing own) since owed knows = (knows.0, knows.1, refl)
payout_knows row since owed knows = knows

-- no answer ends the job
pub payout_goes_on : (row : Payout) (device : Target) (y : Reply) (meant means : Judged)
    → end_answered (from (payout_ahead device row) meant) y means ≡ None
payout_goes_on (Dispenses serial own halted) device y meant means = refl
payout_goes_on row device y meant means = refl
