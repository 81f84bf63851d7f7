-- What a `serve` comes to, before the host is asked.
use Rattle.std.specs.Prelude.{◌≡◌, ℕ, ◌≤◌, Bool, true, false, List, [], ◌∷◌, Some}
use Rattle.cct_model.specs.terms.device.Setup.{Setup}
use Rattle.cct_model.specs.lines.command.Command.TheVariants as command
use Rattle.cct_model.specs.lines.command.TheConstants.{GREATEST_AMOUNT}
use Rattle.cct_model.specs.lines.entry.Entry.{Entry}
use Rattle.cct_model.specs.lines.entry.Entry.TheVariants as entry
use Rattle.cct_model.specs.declared.change.Tray.{Tray}
use Rattle.cct_model.specs.declared.change.Payment.{Payment}
use Rattle.cct_model.specs.declared.change.Session.{Session}
use Rattle.cct_model.specs.Change.{Desk, GoesOn, PaysNext, Serves, gone_on, pay_entries, served}
use Rattle.cct_model.specs.Refusal.{refusal}
use Rattle.cct_host_change.specs.declared.desk.Serving.{Serving}
use Rattle.cct_host_change.specs.declared.desk.Serving.TheVariants.{Idle, Wait, Odd, Served, Short}
use Rattle.cct_host_change.specs.declared.desk.Serving.TheVariants.{Pay}

-- The rest of a session is part of its amount, which a table of plans takes, and its ids begin with
-- 1 or more.
pub record IsInBounds (s : Session) : Type 0 where
  pub ids : 1 ≤ s.next
  pub rest : s.rest ≤ s.amount
  pub amount : s.amount ≤ GREATEST_AMOUNT

-- The entry of a `change`, by whether a session began.
abbrev pub change_told : ℕ → ℕ → Bool → Entry
change_told first amount true = entry.ChangeOk first amount
change_told first amount false = entry.ChangeNo

-- The entries of a `serve` that asks the host for a payment, newest first, after all that came
-- before.
abbrev pub entries_by : ℕ → Setup → List Entry → Session → Payment → List Entry
entries_by capacity setup past s p =
    pay_entries s p (refusal capacity setup past (command.Pay p.addr p.id p.count))

-- A session whose payments are settled ends with this entry, whatever came before, and leaves this
-- desk.
pub record EndsBy (trays : List Tray) (s : Session) (new : Desk) (e : Entry) : Type 0 where
  pub entries : (capacity : ℕ) (setup : Setup) (past : List Entry) →
      GoesOn capacity setup past trays s (e ∷ [])
  pub desk : new ≡ gone_on (e ∷ []) trays s

-- A session whose payments are settled asks for this payment, and waits at this desk for the host's
-- answer.
pub record AsksFor (trays : List Tray) (s : Session) (new : Desk) (p : Payment) : Type 0 where
  pub entries : (capacity : ℕ) (setup : Setup) (past : List Entry)
      → GoesOn capacity setup past trays s (entries_by capacity setup past s p)
  pub desk : new ≡ record { session = Some s; trays = trays }
  pub id : p.id ≡ s.next
  pub some : 1 ≤ p.id
  pub next : PaysNext trays s p

-- So a session goes on whose payments are settled.
abbrev pub GoesOnBy : Serving → List Tray → Session → Desk → Type 0
GoesOnBy (Served amount) trays s new = EndsBy trays s new (entry.Served amount)
GoesOnBy (Short shortfall) trays s new =
    EndsBy trays s new (entry.Short shortfall.paid shortfall.rest)
GoesOnBy (Pay p) trays s new = AsksFor trays s new p
GoesOnBy serving trays s new = ⊥

-- A `serve` gives this entry, whatever came before, and leaves this desk.
pub record Ends (old new : Desk) (e : Entry) : Type 0 where
  pub entries : (capacity : ℕ) (setup : Setup) (past : List Entry)
      → Serves capacity setup past old.trays old.session (e ∷ [])
  pub desk : new ≡ served (e ∷ []) old.trays old.session

-- A `serve` asks for this payment. Its entries and the desk after it are by the host's answer to
-- the session that is then at the operator's desk.
pub record Asks (old new : Desk) (p : Payment) : Type 0 where
  pub session : Session
  pub runs : new.session ≡ Some session
  pub id : p.id ≡ session.next
  pub some : 1 ≤ p.id
  pub next : PaysNext new.trays session p
  pub entries : (capacity : ℕ) (setup : Setup) (past : List Entry)
      → Serves capacity setup past old.trays old.session (entries_by capacity setup past session p)
  pub desk : (news : List Entry) → served news old.trays old.session
      ≡ gone_on news new.trays session

-- What a `serve` comes to.
abbrev pub ServesBy : Serving → Desk → Desk → Type 0
ServesBy Idle old new = Ends old new entry.ServeIdle
ServesBy (Wait addr) old new = Ends old new (entry.ServeWait addr)
ServesBy (Odd id) old new = Ends old new (entry.ServeOdd id)
ServesBy (Served amount) old new = Ends old new (entry.Served amount)
ServesBy (Short shortfall) old new = Ends old new (entry.Short shortfall.paid shortfall.rest)
ServesBy (Pay p) old new = Asks old new p
