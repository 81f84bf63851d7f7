-- The law of change: the coins that fell for the orders of a session are worth what the session
-- reports.
use Rattle.std.specs.Prelude.{◌≡◌, ℕ, ◌+◌, ◌≤◌, List, [], ◌∷◌, ◌++◌, Option, Some, None, ⊤}
use Rattle.std.specs.List.{All}
use Rattle.std.specs.Option.{IfSome}
use Rattle.cct_model.specs.terms.device.DeviceSetup.{DeviceSetup}
use Rattle.cct_model.specs.terms.device.Setup.{Setup}
use Rattle.cct_model.specs.lines.command.Step.{Step}
use Rattle.cct_model.specs.lines.entry.Entry.{Entry}
use Rattle.cct_model.specs.lines.entry.Entry.TheVariants as entry
use Rattle.cct_model.specs.declared.change.Payment.{Payment}
use Rattle.cct_model.specs.declared.change.Session.{Session}
use Rattle.cct_model.specs.AtDesk.{EntriesAtDesk, AtDeskFrom}
use Rattle.cct_model.specs.Change.{Desk, desk_after}
use Rattle.cct_model.specs.Exchange.{device_at}
use Rattle.cct_model.specs.Honest.{HonestPast}
use Rattle.cct_model.specs.Line.{Line}
use Rattle.cct_model.specs.Money.{coins_of}
use Rattle.cct_model.specs.Script.{IsInRange}
use Rattle.cct_model.specs.Setup.{IsSoundSetup}
use Rattle.cct_model.specs.Transcript.{lines_of, onto}
use Rattle.cct_laws_change.specs.Counted.{fallen_for}
use Rattle.cct_laws_change.specs.Orders.{ComesTo}

-- The lines at an address, none where no device is there.
abbrev pub lines_there : List Entry → Option DeviceSetup → List Line
lines_there past None = []
lines_there past (Some d) = lines_of d past

-- The lines at an address of a setup.
abbrev pub lines_at : Setup → List Entry → ℕ → List Line
lines_at setup past addr = lines_there past (device_at setup.devices addr)

-- What the coins are worth that fell at a payment's hopper while its order was open.
abbrev pub worth_fallen : Setup → List Entry → Payment → ℕ
worth_fallen setup past p = coins_of setup p.addr (fallen_for p.id (lines_at setup past p.addr))

-- What those of all these payments are worth together.
abbrev pub worth_of : Setup → List Entry → List Payment → ℕ
worth_of setup past [] = 0
worth_of setup past (p ∷ orders) = worth_fallen setup past p + worth_of setup past orders

-- Where a session runs, what fell for its orders is worth at most its amount.
abbrev pub IsWithin : Setup → List Entry → List Payment → Option Session → Type 0
IsWithin setup past orders None = ⊤
IsWithin setup past orders (Some s) = worth_of setup past orders ≤ s.amount

-- A session runs whose amount is that of these two together, and what fell for its orders is worth
-- the first.
abbrev pub IsPaid : Setup → List Entry → List Payment → Option Session → ℕ → ℕ → Type 0
IsPaid setup past orders None paid rest = ⊥
IsPaid setup past orders (Some s) paid rest =
    (paid + rest ≡ s.amount) × (worth_of setup past orders ≡ paid)

-- What an entry shows of the session that ran before its step: that it was served, all of its
-- amount was paid; that it fell short, as much of it as is reported, and the rest wasn't. That the
-- life counts don't fit its order is never reported.
abbrev pub IsToldRight : Setup → List Entry → List Payment → Option Session → Entry → Type 0
IsToldRight setup past orders session (entry.Served amount) =
    IsPaid setup past orders session amount 0
IsToldRight setup past orders session (entry.Short paid rest) =
    IsPaid setup past orders session paid rest
IsToldRight setup past orders session (entry.ServeOdd id) = ⊥
IsToldRight setup past orders session e = ⊤

-- What the end of a session last reported as paid, where no session began since: a past shows it,
-- newest entry first.
abbrev pub told_paid : List Entry → Option ℕ
told_paid [] = None
told_paid (entry.Served amount ∷ past) = Some amount
told_paid (entry.Short paid rest ∷ past) = Some paid
told_paid (entry.ChangeOk first amount ∷ past) = None
told_paid (e ∷ past) = told_paid past

-- From the end of a session until the next one begins, what fell for its orders stays worth what
-- the end reported.
abbrev pub IsStillPaid : Setup → List Entry → List Payment → Type 0
IsStillPaid setup past orders = IfSome (told_paid past) (λ paid. worth_of setup past orders ≡ paid)

-- A run goes on from a moment by these steps, and ends as these; and all entries of the step that
-- comes next show the session right.
abbrev pub GoesOnRight : ℕ → Setup → List Entry → Desk → List Payment → List Step → List Entry →
    Desk → Type 0
GoesOnRight capacity setup past desk orders [] end last = (end ≡ past) × (last ≡ desk)
GoesOnRight capacity setup past desk orders (s ∷ steps) end last =
    (news : List Entry) × EntriesAtDesk capacity setup past desk s news
    × AtDeskFrom capacity setup (news ++ past) (desk_after s news desk) steps end last
    × All (IsToldRight setup past orders desk.session) news

-- The moment of a run after these steps and before those: while a session runs, what fell for its
-- orders is worth at most its amount; after it has ended, what its end reported; and the next step
-- shows it right.
pub record MomentIsRight (capacity : ℕ) (setup : Setup) (played steps : List Step)
    (end : List Entry) (last : Desk) :
    Type 0 where
  pub past : List Entry
  pub desk : Desk
  pub orders : List Payment
  pub comes : ComesTo capacity setup played past desk orders
  pub within : IsWithin setup past orders desk.session
  pub stays : IsStillPaid setup past orders
  pub goes_on : GoesOnRight capacity setup past desk orders steps end last

-- The law of change of a whole run, whose transcript is oldest entry first: it leaves a desk, and
-- each moment of it, which is after some of its steps, is right.
pub record ChangeIsPaid (capacity : ℕ) (setup : Setup) (steps : List Step) (transcript : List Entry)
    : Type 0 where
  pub last : Desk
  pub each : (played rest : List Step) → steps ≡ played ++ rest →
      MomentIsRight capacity setup played rest (onto [] transcript) last

-- A fact of each moment of each run at the operator's desk, of a sound setup, over an honest wire:
-- of its past, newest entry first, of the desk, and of the orders of its session. The steps are in
-- range.
abbrev pub EachMoment : (ℕ → Setup → List Entry → Desk → List Payment → Type 0) → Type 0
EachMoment P =
    (capacity : ℕ) (setup : Setup) (steps : List Step) (past : List Entry) (desk : Desk)
    (orders : List Payment) →
    IsSoundSetup setup → All IsInRange steps → ComesTo capacity setup steps past desk orders →
    HonestPast past →
    P capacity setup past desk orders
