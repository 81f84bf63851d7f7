-- That a hopper took a dispense, or a bill acceptor stacked a bill, is a line that changes no job, no epoch and no order; a
-- coin acceptor has none.
use Rattle.std.proofs.Common.{◌≡◌, ℕ, List, [], ◌∷◌, ◌++◌, refl, ◌∙◌, Option, Some, None}
use Rattle.std.specs.Prelude.{⊤}
use Rattle.cct_model.specs.terms.device.DeviceBody.{DeviceBody}
use Rattle.cct_model.specs.terms.device.DeviceBody.TheVariants.{Acceptor, Bill, Hopper}
use Rattle.cct_model.specs.terms.request.Request.{Request}
use Rattle.cct_model.specs.Device.{IsAcceptor}
use Rattle.cct_model.specs.History.{Met}
use Rattle.cct_model.specs.Hopper.{taken_of}
use Rattle.cct_model.specs.terms.coin.Coin.{Coin}
use Rattle.cct_model.specs.Bill.{bill_held, stacked_by}
use Rattle.cct_model.specs.Line.{Line, accepted, dispensed}
use Rattle.cct_model.specs.Job.{job, epoch}
use Rattle.cct_model.specs.Order.{order}
use Rattle.cct_model.specs.Transcript.{dispensed_by, doses, stacked_line}

-- what neither a dispense nor a bill that is stacked changes
pub record IsAside {A : Type 0} (f : List Line → A) : Type 0 where
  pub dosed : (count : ℕ) (lines : List Line) → f (dispensed count ∷ lines) ≡ f lines
  pub stacked : (coin : Coin) (lines : List Line) → f (accepted coin ∷ lines) ≡ f lines

over_dispense : {A : Type 0} (f : List Line → A) → IsAside f → (count : Option ℕ) (lines : List Line) →
    f (dispensed_by count ++ lines) ≡ f lines
over_dispense f aside None lines = refl
over_dispense f aside (Some count) lines = aside.dosed count lines

over_stacked : {A : Type 0} (f : List Line → A) → IsAside f → (place : Option ℕ) (lines : List Line) →
    f (stacked_line place ++ lines) ≡ f lines
over_stacked f aside None lines = refl
over_stacked f aside (Some place) lines = aside.stacked (record { place = place; path = 0 }) lines

-- does not change over doses
pub undosed : {A : Type 0} (f : List Line → A) → IsAside f →
    (body : DeviceBody) (own : ℕ) (past : List Met) (asked : Option Request) (lines : List Line) →
    f (doses body own past asked ++ lines) ≡ f lines
undosed f aside (Acceptor accepts values ids) own past asked lines = refl
undosed f aside (Hopper life value) own past asked lines = over_dispense f aside (taken_of own past asked) lines
undosed f aside (Bill accepts values ids) own past asked lines =
    over_stacked f aside (stacked_by asked (bill_held past)) lines

pub job_undosed : (body : DeviceBody) (own : ℕ) (past : List Met) (asked : Option Request) (lines : List Line) →
    job (doses body own past asked ++ lines) ≡ job lines
job_undosed = undosed job (record { dosed = λ count lines. refl; stacked = λ coin lines. refl })

pub epoch_undosed : (body : DeviceBody) (own : ℕ) (past : List Met) (asked : Option Request) (lines : List Line) →
    epoch (doses body own past asked ++ lines) ≡ epoch lines
epoch_undosed = undosed epoch (record { dosed = λ count lines. refl; stacked = λ coin lines. refl })

pub order_undosed : (body : DeviceBody) (own : ℕ) (past : List Met) (asked : Option Request) (lines : List Line) →
    order (doses body own past asked ++ lines) ≡ order lines
order_undosed = undosed order (record { dosed = λ count lines. refl; stacked = λ coin lines. refl })

pub no_doses : (body : DeviceBody) (own : ℕ) (past : List Met) (asked : Option Request) → IsAcceptor body →
    doses body own past asked ≡ []
no_doses (Acceptor accepts values ids) own past asked accepting = refl
no_doses (Hopper life value) own past asked accepting = absurd accepting
no_doses (Bill accepts values ids) own past asked accepting = absurd accepting

-- lines that say nothing but that a hopper took dispenses, or a bill acceptor stacked bills
abbrev pub AreDoses : List Line → Type 0
AreDoses [] = ⊤
AreDoses (dispensed count ∷ ls) = AreDoses ls
AreDoses (accepted coin ∷ ls) = AreDoses ls
AreDoses (l ∷ ls) = ⊥

dispensed_are : (count : Option ℕ) → AreDoses (dispensed_by count)
dispensed_are None = tt
dispensed_are (Some count) = tt

stacked_are : (place : Option ℕ) → AreDoses (stacked_line place)
stacked_are None = tt
stacked_are (Some place) = tt

pub doses_are : (body : DeviceBody) (own : ℕ) (past : List Met) (asked : Option Request) → AreDoses (doses body own past asked)
doses_are (Acceptor accepts values ids) own past asked = tt
doses_are (Hopper life value) own past asked = dispensed_are (taken_of own past asked)
doses_are (Bill accepts values ids) own past asked = stacked_are (stacked_by asked (bill_held past))

-- what does not change over one does not change over them
pub same_over : {A : Type 0} (f : List Line → A) → IsAside f → (ls lines : List Line) → AreDoses ls → f (ls ++ lines) ≡ f lines
same_over f aside [] lines are = refl
same_over f aside (dispensed count ∷ ls) lines are = aside.dosed count (ls ++ lines) ∙ same_over f aside ls lines are
same_over f aside (accepted coin ∷ ls) lines are = aside.stacked coin (ls ++ lines) ∙ same_over f aside ls lines are
same_over f aside (l ∷ ls) lines are = absurd are
