-- Worked values of what is counted for an order, and of which orders are a session's, by computing.
use Rattle.std.proofs.Common.{◌≡◌, ℕ, List, [], ◌∷◌, ◌++◌, refl, ap, sym, ◌∙◌, subst, Some, None, arith, true, false}
use Rattle.cct_model.specs.lines.record.Record.TheVariants as record_of
use Rattle.cct_model.specs.lines.command.Step.TheVariants as step
use Rattle.cct_model.specs.lines.entry.Entry.{Entry}
use Rattle.cct_model.specs.lines.entry.Entry.TheVariants as entry
use Rattle.cct_model.specs.declared.change.Payment.{Payment}
use Rattle.cct_model.specs.declared.change.Phase.{Phase}
use Rattle.cct_model.specs.declared.change.Phase.TheVariants.{Begun, Closed, Lost}
use Rattle.cct_model.specs.declared.change.Tray.{Tray}
use Rattle.cct_model.specs.terms.device.Setup.{Setup}
use Rattle.cct_model.specs.AtDesk.{EntriesAtDesk}
use Rattle.cct_model.specs.Change.{Desk, clear_desk}
use Rattle.cct_model.specs.Line.{Line, fell, put}
use Rattle.cct_laws_change.specs.Change.{ChangeIsPaid, told_paid}
use Rattle.cct_laws_change.specs.Counted.{closed_as, fallen_for, opened_as}
use Rattle.cct_laws_change.specs.Orders.{orders_after}
use Rattle.cct_laws_change.specs.Blocks.{TellsEnd, is_session_end}
use Rattle.cct_laws_change.specs.Tally.{HasPlan, MakesFew, Tally, is_whole, most_made, no_tally, tally_after}
use Rattle.cct_model.specs.Plan.{HasNoPlan}
use Rattle.std.specs.List.{list_any}
use Rattle.std.proofs.lemmas.List.{append-nil}
use Rattle.cct_model.specs.lines.command.Command.TheVariants as command

-- two coins fall for order 60, one for order 61 after it
two_orders : List Line
two_orders =
    fell ∷ put (record_of.Opened 61 3 1 2) ∷ put (record_of.Closed 60 2 1) ∷ fell ∷ fell ∷ put (record_of.Opened 60 3 3 0)
    ∷ []

counted_each : (fallen_for 60 two_orders ≡ 2) × (fallen_for 61 two_orders ≡ 1) × (fallen_for 62 two_orders ≡ 0)
unfolding two_orders
counted_each = (refl, refl, refl)

known_each : (opened_as 60 two_orders ≡ Some 3) × (closed_as 60 two_orders ≡ Some (record { paid = 2; unpaid = 1 }))
    × (closed_as 61 two_orders ≡ None)
unfolding two_orders
known_each = (refl, refl, refl)

-- a session asked for 2 coins of hopper 3 by order 60
abbrev asked : Payment
asked = record { addr = 3; id = 60; count = 2 }

abbrev at_desk : Phase → Desk
at_desk phase = record {
  session = Some (record { amount = 20; rest = 20; next = 61; due = Some (record { payment = asked; phase = phase }) });
  trays = [];
}

opens : List Entry
opens = entry.Put (record_of.Opened 60 3 2 0) ∷ []

-- the order is the session's where it is opened while its job is running, kept in a power cut too
own_order : orders_after (step.Next 3) opens (at_desk Begun) [] ≡ asked ∷ []
unfolding opens
own_order = refl

kept_order : orders_after (step.Crash (Some (record { addr = 3; calls = 4 })) 0)
    (entry.Kept (record_of.Opened 60 3 2 0) ∷ entry.Crash 1 ∷ []) (at_desk Begun) [] ≡ asked ∷ []
kept_order = refl

-- and isn't where that job had ended: then the operator's own payment opens it
operators_order : orders_after (step.Next 3) opens (at_desk Lost) [] ≡ []
unfolding opens
operators_order = refl

-- nor where it has another count
other_order : orders_after (step.Next 3) (entry.Put (record_of.Opened 60 3 1 0) ∷ []) (at_desk Begun) [] ≡ []
other_order = refl

-- the end of a session says what was paid, until another begins; whatever else is reported leaves that
told_last : (told_paid (entry.ServeIdle ∷ entry.Crash 0 ∷ entry.Served 70 ∷ []) ≡ Some 70)
    × (told_paid (entry.ChangeNo ∷ entry.Short 20 50 ∷ entry.ChangeOk 60 70 ∷ entry.Served 40 ∷ []) ≡ Some 20)
    × (told_paid (entry.ChangeOk 61 30 ∷ entry.Short 20 50 ∷ []) ≡ None)
told_last = (refl, refl, refl)

-- where no session began, none was served: only that no session runs is reported
serves_nothing : (capacity : ℕ) (setup : Setup) (past news : List Entry) (desk : Desk) (orders : List Payment)
    (last : Desk) → past ≡ [] → desk ≡ clear_desk setup →
    EntriesAtDesk capacity setup past desk step.Serve news → entry.Served 70 ∷ [] ≡ news ++ past → ⊥
serves_nothing capacity setup past news desk orders last none clear gives told =
    let gave = subst (λ d. EntriesAtDesk capacity setup past d step.Serve news) clear gives in
    let is = told ∙ ap (λ ns. news ++ ns) none ∙ ap (λ ns. ns ++ []) gave in
    cc is

not_served : (capacity : ℕ) (setup : Setup) →
    ChangeIsPaid capacity setup (step.Serve ∷ []) (entry.Served 70 ∷ []) → ⊥
not_served capacity setup paid =
    let at = paid.each [] (step.Serve ∷ []) refl in
    serves_nothing capacity setup at.past at.goes_on.0 at.desk at.orders paid.last at.comes.0 at.comes.1 at.goes_on.1
    at.goes_on.2.0

-- a session of 70 begins while one of two trays has coins; the other is filled, emptied and filled again; it makes one payment
abbrev two_trays : Desk
two_trays = record {
  session = None;
  trays = record { addr = 3; value = 10; stock = 8 } ∷ record { addr = 5; value = 50; stock = 0 } ∷ [];
}

abbrev paid_once : Tally
paid_once =
    tally_after step.Serve (entry.Taken (command.Pay 3 60 7) ∷ []) two_trays
    (tally_after (step.Stock 5 2) (entry.Stock 5 2 ∷ []) two_trays
    (tally_after (step.Stock 5 0) (entry.Stock 5 0 ∷ []) two_trays
    (tally_after (step.Stock 5 9) (entry.Stock 5 9 ∷ []) two_trays
    (tally_after (step.Change 60 70) (entry.ChangeOk 60 70 ∷ []) two_trays no_tally))))

tallied_once : paid_once ≡ record {
  first = 60;
  amount = 70;
  trays = two_trays.trays;
  refills = 2;
  made = 1;
  smooth = false;
}
tallied_once = refl

most_once : most_made paid_once ≡ 73
most_once = refl

-- a session of 1 with an empty tray makes no second payment
abbrev one_left : Tally
one_left = record {
  first = 60;
  amount = 1;
  trays = record { addr = 3; value = 10; stock = 0 } ∷ [];
  refills = 0;
  made = 2;
  smooth = true;
}

makes_no_second : (desk : Desk) → MakesFew desk one_left → ⊥
makes_no_second desk few = let most = few.all in omega (arith, most)

-- 70 has a plan of 8 coins of 10 and one of 50; and 600 has none of 1,000 coins of 1, since a plan takes 255 of a tray at most
abbrev tens_and_fifty : List Tray
tens_and_fifty = record { addr = 3; value = 10; stock = 8 } ∷ record { addr = 5; value = 50; stock = 1 } ∷ []

planned : HasPlan tens_and_fifty 70
planned = (2 ∷ 1 ∷ [], record { within = (omega arith, (omega arith, tt)); pays = refl })

too_many : HasNoPlan (record { addr = 3; value = 1; stock = 1000 } ∷ []) 600
too_many [] plan = absurd plan.within
too_many (c ∷ []) plan =
    let few = plan.within.0 in
    let whole = plan.pays in
    omega (arith, few, whole)
too_many (c ∷ d ∷ counts) plan = absurd plan.within.1

-- a payment that was closed with coins left unpaid, or never opened, isn't whole; and a session that waits shows no end
whole_or_not : (is_whole (Closed 2 0) ≡ true) × (is_whole (Closed 1 1) ≡ false) × (is_whole Lost ≡ false)
whole_or_not = (refl, refl, refl)

waits_on : TellsEnd [] (entry.ServeWait 3 ∷ entry.Taken (command.Pay 3 60 2) ∷ []) → ⊥
waits_on tells =
    let is = tells.1 ∙ append-nil tells.0 in
    let some = subst (λ es. list_any is_session_end es ≡ true) (sym is) tells.2 in
    cc some
