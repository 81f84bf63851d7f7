-- What is legal at the desk of the operator is legal: whatever is known there shows one of the ways
-- in which a `change` and a `serve` may go.
use Rattle.std.proofs.Common.{◌≡◌, inl, inr, ℕ, ◌<◌, ◌≤◌, ◌==◌, Bool, true, false, cond, List, [], ◌∷◌, ◌++◌, reverse, refl, sym, ap, subst, Option, Some, None, All, arith}
use Rattle.std.specs.Prelude.{MatchBool}
use Rattle.std.proofs.lemmas.Bool.Decides.{nat_tests}
use Rattle.std.proofs.lemmas.List.Elements.{All-append, All-cons, All-head, All-nil, All-tail}
use Rattle.std.proofs.lemmas.List.Sorted.{All-permutation}
use Rattle.cct_model.specs.terms.device.DeviceBody.{DeviceBody}
use Rattle.cct_model.specs.terms.device.DeviceBody.TheVariants.{Acceptor, Bill, Hopper}
use Rattle.cct_model.specs.terms.device.DeviceSetup.{DeviceSetup}
use Rattle.cct_model.specs.terms.device.Setup.{Setup}
use Rattle.cct_model.specs.lines.command.Command.TheVariants as command
use Rattle.cct_model.specs.lines.command.CommandNo.{CommandNo}
use Rattle.cct_model.specs.lines.command.Step.{Step}
use Rattle.cct_model.specs.lines.command.Step.TheVariants as step
use Rattle.cct_model.specs.lines.entry.Entry.{Entry}
use Rattle.cct_model.specs.lines.entry.Entry.TheVariants as entry
use Rattle.cct_model.specs.declared.change.Due.{Due}
use Rattle.cct_model.specs.declared.change.Payment.{Payment}
use Rattle.cct_model.specs.declared.change.Phase.{Phase}
use Rattle.cct_model.specs.declared.change.Phase.TheVariants.{Begun, Opened, Odd}
use Rattle.cct_model.specs.declared.change.Session.{Session}
use Rattle.cct_model.specs.declared.change.Tray.{Tray}
use Rattle.cct_model.specs.Device.{IsSound}
use Rattle.cct_model.specs.Exchange.{by_address}
use Rattle.cct_model.specs.Plan.{AreWithin}
use Rattle.std.specs.Option.{option_map}
use Rattle.cct_model.specs.Change.{session_after, Desk, GoesOn, PaysOn, Serves, ServesDue, Settles, change_entry, changed, clear_desk, desk_after, first_pay, gone_on, pay_entries, restocked, served, served_by, served_due, settled, settled_trays, stock_left, tray_of, trays_of}
use Rattle.cct_model.specs.Legal.{ChangeEntries, Entries, Legal, LegalFrom, ServeEntries, is_idle, waits, is_odd, is_served, falls_short, pays, is_refused}
use Rattle.cct_model.specs.AtDesk.{AtDeskFrom, EntriesAtDesk, LeavesDesk, LegalAtDesk}
use Rattle.cct_model.specs.Refusal.{refusal}
use Rattle.cct_model.specs.Script.{IsCommand, IsInRange}
use Rattle.cct_model.specs.Setup.{IsSoundSetup}
use Rattle.cct_model.specs.Transcript.{onto}
use Rattle.cct_laws.specs.Desks.{HasNextId, IsRightDesk}
use Rattle.cct_laws.proofs.steps.OneMore.{transcript_on}
use Rattle.cct_laws.proofs.setups.UniquePlan.{paid_addr, paid_count}
use Rattle.cct_laws.proofs.setups.Rising.{same_devices}

-- all trays have addresses that are bytes
abbrev AreOfBytes : List Tray → Type 0
AreOfBytes trays = All (λ t. t.addr < 256) trays

of_bytes_more : (t : Tray) (ts : List Tray) → t.addr < 256 → AreOfBytes ts → AreOfBytes (t ∷ ts)
of_bytes_more t ts small rest = All-cons (λ t. t.addr < 256) t ts small rest

first_of_bytes : (t : Tray) (ts : List Tray) → AreOfBytes (t ∷ ts) → t.addr < 256
first_of_bytes t ts all = All-head (λ t. t.addr < 256) t ts all

rest_of_bytes : (t : Tray) (ts : List Tray) → AreOfBytes (t ∷ ts) → AreOfBytes ts
rest_of_bytes t ts all = All-tail (λ t. t.addr < 256) t ts all

-- the trays of sound devices have
tray_of_bytes : (addr : ℕ) (body : DeviceBody) → addr < 256 → AreOfBytes (tray_of addr body)
tray_of_bytes addr (Acceptor accepts values ids) small = All-nil (λ t. t.addr < 256)
tray_of_bytes addr (Hopper life value) small =
    of_bytes_more (record { addr = addr; value = value; stock = 0 }) [] small (All-nil (λ t. t.addr < 256))
tray_of_bytes addr (Bill accepts values ids) small = All-nil (λ t. t.addr < 256)

trays_of_bytes : (devices : List DeviceSetup) → All IsSound devices → AreOfBytes (trays_of devices)
trays_of_bytes [] sound = All-nil (λ t. t.addr < 256)
trays_of_bytes (d ∷ devices) sound =
    let high = (All-head IsSound d devices sound).high in
    All-append (λ t. t.addr < 256) (tray_of d.addr d.body) (trays_of devices)
    (tray_of_bytes d.addr d.body (omega (arith, high)))
    (trays_of_bytes devices (All-tail IsSound d devices sound))

-- so a desk at which nothing was done is right
pub clear_right : (setup : Setup) → IsSoundSetup setup → IsRightDesk (clear_desk setup)
clear_right setup sound = record {
  next = tt;
  addresses = trays_of_bytes (by_address setup.devices)
      (All-permutation IsSound setup.devices (by_address setup.devices) (same_devices setup.devices) sound.devices);
}

-- another stock changes no address
restocked_of_bytes : (addr : ℕ) (becomes : ℕ → ℕ) (trays : List Tray) → AreOfBytes trays →
    AreOfBytes (restocked addr becomes trays)
restocked_of_bytes addr becomes [] all = all
restocked_of_bytes addr becomes (t ∷ ts) all =
    of_bytes_more _ (restocked addr becomes ts) (by_test (t.addr == addr) (first_of_bytes t ts all))
    (restocked_of_bytes addr becomes ts (rest_of_bytes t ts all))
  where
    by_test : (here : Bool) → t.addr < 256 →
        (cond here (record { addr = t.addr; value = t.value; stock = becomes t.stock }) t).addr < 256
    by_test true small = small
    by_test false small = small

-- what a plan pays first is 1 to 255 coins of a tray
record IsPayable (addr count : ℕ) : Type 0 where
  small : addr < 256
  some : 1 ≤ count
  few : count ≤ 255

payable : (trays : List Tray) (counts : List ℕ) (addr count : ℕ) → AreOfBytes trays → AreWithin trays counts →
    first_pay trays counts ≡ Some (addr, count) → IsPayable addr count
payable [] counts addr count all within is = absurd cc
payable (t ∷ ts) [] addr count all within is = absurd cc
payable (t ∷ ts) (c ∷ cs) addr count all within is =
    by_test (c == 0) refl is (payable ts cs addr count (rest_of_bytes t ts all) within.1)
  where
    few : c ≤ 255
    few = let most = within.0 in omega (arith, most)

    some_of : (c == 0) ≡ false → 1 ≤ c
    some_of test = grind (arith, nat_tests)

    by_test : (none : Bool) → (c == 0) ≡ none →
        cond none (first_pay ts cs) (Some (t.addr, c)) ≡ Some (addr, count) →
        (first_pay ts cs ≡ Some (addr, count) → IsPayable addr count) → IsPayable addr count
    by_test true test is later = later is
    by_test false test is later =
        let addresses : t.addr ≡ addr = ap paid_addr is in
        let counts : c ≡ count = ap paid_count is in
        record {
          small = subst (λ a. a < 256) addresses (first_of_bytes t ts all);
          some = subst (λ n. 1 ≤ n) counts (some_of test);
          few = subst (λ n. n ≤ 255) counts few;
        }

-- a payment of a session is given to the host
pay_entries_legal : (capacity : ℕ) (setup : Setup) (past : List Entry) (s : Session) (p : Payment)
    (why : Option CommandNo) → refusal capacity setup past (command.Pay p.addr p.id p.count) ≡ why → p.addr < 256 →
    IsCommand (command.Pay p.addr p.id p.count) → ServeEntries capacity setup past (pay_entries s p why)
pay_entries_legal capacity setup past s p None was small range = pays p.addr p.id p.count small range was
pay_entries_legal capacity setup past s p (Some why) was small range =
    is_refused p.addr p.id p.count why _ s.rest small range was

pays_legal : (capacity : ℕ) (setup : Setup) (past news : List Entry) (trays : List Tray) (s : Session) →
    AreOfBytes trays → 1 ≤ s.next → PaysOn capacity setup past trays s news → ServeEntries capacity setup past news
pays_legal capacity setup past news trays s all next (inl stuck) =
    subst (ServeEntries capacity setup past) (sym stuck.1) (falls_short _ s.rest)
pays_legal capacity setup past news trays s all next (inr paid) =
    let p = paid.0 in
    let will = paid.1 in
    let fits = payable trays will.counts p.addr p.count all will.chosen.fewest.plan.within will.pays in
    let id_is = will.id in
    let id : 1 ≤ p.id = omega (arith, next, id_is) in
    subst (ServeEntries capacity setup past) (sym paid.2)
    (pay_entries_legal capacity setup past s p _ refl fits.small (id, fits.some, fits.few))

goes_on_legal : (capacity : ℕ) (setup : Setup) (past news : List Entry) (trays : List Tray) (s : Session) →
    AreOfBytes trays → 1 ≤ s.next → GoesOn capacity setup past trays s news → ServeEntries capacity setup past news
goes_on_legal capacity setup past news trays s all next told = by_rest (s.rest == 0) told
  where
    by_rest : (none_left : Bool) →
        MatchBool none_left (news ≡ entry.Served s.amount ∷ []) (PaysOn capacity setup past trays s news) →
        ServeEntries capacity setup past news
    by_rest true is = subst (ServeEntries capacity setup past) (sym is) (is_served s.amount)
    by_rest false is = pays_legal capacity setup past news trays s all next is

settles_legal : (capacity : ℕ) (setup : Setup) (past news : List Entry) (trays : List Tray) (s : Session) (due : Due)
    (phase : Phase) → AreOfBytes trays → 1 ≤ s.next → Settles capacity setup past trays s due phase news →
    ServeEntries capacity setup past news
settles_legal capacity setup past news trays s due Begun all next told =
    subst (ServeEntries capacity setup past) (sym told) (waits due.payment.addr)
settles_legal capacity setup past news trays s due Opened all next told =
    subst (ServeEntries capacity setup past) (sym told) (waits due.payment.addr)
settles_legal capacity setup past news trays s due Odd all next told =
    subst (ServeEntries capacity setup past) (sym told) (is_odd due.payment.id)
settles_legal capacity setup past news trays s due phase all next told =
    goes_on_legal capacity setup past news (settled_trays due trays) (settled trays due s)
    (restocked_of_bytes due.payment.addr (stock_left due.phase) trays all) next told

serves_due_legal : (capacity : ℕ) (setup : Setup) (past news : List Entry) (trays : List Tray) (s : Session)
    (due : Option Due) → AreOfBytes trays → 1 ≤ s.next → ServesDue capacity setup past trays s due news →
    ServeEntries capacity setup past news
serves_due_legal capacity setup past news trays s None all next told =
    goes_on_legal capacity setup past news trays s all next told
serves_due_legal capacity setup past news trays s (Some due) all next told =
    settles_legal capacity setup past news trays s due due.phase all next told

serves_legal : (capacity : ℕ) (setup : Setup) (past news : List Entry) (trays : List Tray) (session : Option Session) →
    AreOfBytes trays → HasNextId session → Serves capacity setup past trays session news →
    ServeEntries capacity setup past news
serves_legal capacity setup past news trays None all next told =
    subst (ServeEntries capacity setup past) (sym told) is_idle
serves_legal capacity setup past news trays (Some s) all next told =
    serves_due_legal capacity setup past news trays s s.due all next told

change_legal : (first amount : ℕ) (news : List Entry) (session : Option Session) →
    news ≡ change_entry first amount session ∷ [] → ChangeEntries first amount news
change_legal first amount news None told = inl told
change_legal first amount news (Some s) told = inr told

-- the entries of a step at a right desk are legal
pub entries_legal : (capacity : ℕ) (setup : Setup) (past : List Entry) (desk : Desk) (s : Step) (news : List Entry) →
    IsRightDesk desk → EntriesAtDesk capacity setup past desk s news → Entries capacity setup past s news
entries_legal capacity setup past desk (step.Change first amount) news right told =
    change_legal first amount news desk.session told
entries_legal capacity setup past desk step.Serve news right told =
    serves_legal capacity setup past news desk.trays desk.session right.addresses right.next told
entries_legal capacity setup past desk s news right told = told

-- what a session does keeps a desk right
abbrev IsRight : Option Session → List Tray → Type 0
IsRight session trays = IsRightDesk (record { session = session; trays = trays })

gone_right : (news : List Entry) (trays : List Tray) (s : Session) → AreOfBytes trays → 1 ≤ s.next →
    IsRightDesk (gone_on news trays s)
gone_right (entry.Taken (command.Pay addr id count) ∷ news) trays s all next =
    record { next = omega (arith, next); addresses = all }
gone_right news trays s all next = record { next = tt; addresses = all }

due_right : (news : List Entry) (trays : List Tray) (s : Session) (due : Due) (phase : Phase) → AreOfBytes trays →
    1 ≤ s.next → IsRightDesk (served_due news trays s due phase)
due_right news trays s due Begun all next = record { next = next; addresses = all }
due_right news trays s due Opened all next = record { next = next; addresses = all }
due_right news trays s due Odd all next = record { next = tt; addresses = all }
due_right news trays s due phase all next =
    gone_right news (settled_trays due trays) (settled trays due s)
    (restocked_of_bytes due.payment.addr (stock_left due.phase) trays all) next

by_right : (news : List Entry) (trays : List Tray) (s : Session) (due : Option Due) → AreOfBytes trays → 1 ≤ s.next →
    IsRightDesk (served_by news trays s due)
by_right news trays s None all next = gone_right news trays s all next
by_right news trays s (Some due) all next = due_right news trays s due due.phase all next

served_right : (news : List Entry) (trays : List Tray) (session : Option Session) → AreOfBytes trays →
    HasNextId session → IsRightDesk (served news trays session)
served_right news trays None all next = record { next = tt; addresses = all }
served_right news trays (Some s) all next = by_right news trays s s.due all next

changed_next : (first amount : ℕ) (session : Option Session) → 1 ≤ first → HasNextId session →
    1 ≤ (changed first amount session).next
changed_next first amount None some next = some
changed_next first amount (Some s) some next = next

-- and so does each step in range
same_right : (news : List Entry) (session : Option Session) (trays : List Tray) → IsRight session trays →
    IsRight (option_map (session_after news) session) trays
same_right news None trays right = record { next = tt; addresses = right.addresses }
same_right news (Some s) trays right = record { next = right.next; addresses = right.addresses }

pub right_after : (s : Step) (news : List Entry) (desk : Desk) → IsInRange s → IsRightDesk desk →
    IsRightDesk (desk_after s news desk)
right_after (step.Stock addr count) news desk range right = record {
  next = right.next;
  addresses = restocked_of_bytes addr (λ before. count) desk.trays right.addresses;
}
right_after (step.Change first amount) news desk range right = record {
  next = changed_next first amount desk.session range.0 right.next;
  addresses = right.addresses;
}
right_after step.Serve news desk range right = served_right news desk.trays desk.session right.addresses right.next
right_after s news desk range right =
    same_right news desk.session desk.trays (record { next = right.next; addresses = right.addresses })

-- steps at a right desk go on legally, and leave a right one
pub at_desk_legal : (capacity : ℕ) (setup : Setup) (past : List Entry) (desk : Desk) (steps : List Step)
    (end : List Entry) (last : Desk) → All IsInRange steps → IsRightDesk desk →
    AtDeskFrom capacity setup past desk steps end last → LegalFrom capacity setup past steps end × IsRightDesk last
at_desk_legal capacity setup past desk [] end last range right told = (told.0, subst IsRightDesk (sym told.1) right)
at_desk_legal capacity setup past desk (s ∷ steps) end last range right told =
    let news = told.0 in
    let later = at_desk_legal capacity setup (news ++ past) (desk_after s news desk) steps end last
    (All-tail IsInRange s steps range) (right_after s news desk (All-head IsInRange s steps range) right) told.2 in
    ((news, entries_legal capacity setup past desk s news right told.1, later.0), later.1)

-- so do those of a whole transcript
pub leaves_legal : (capacity : ℕ) (setup : Setup) (steps : List Step) (transcript : List Entry) (last : Desk) →
    IsSoundSetup setup → All IsInRange steps → LeavesDesk capacity setup steps transcript last →
    Legal capacity setup steps transcript × IsRightDesk last
leaves_legal capacity setup steps transcript last sound range told =
    at_desk_legal capacity setup [] (clear_desk setup) steps (onto [] transcript) last range (clear_right setup sound) told

pub legal_at_desk : (capacity : ℕ) (setup : Setup) (steps : List Step) (transcript : List Entry) →
    IsSoundSetup setup → All IsInRange steps → LegalAtDesk capacity setup steps transcript →
    Legal capacity setup steps transcript
legal_at_desk capacity setup steps transcript sound range told =
    (leaves_legal capacity setup steps transcript told.0 sound range told.1).0

-- steps at a desk, and one more
pub at_desk_more : (capacity : ℕ) (setup : Setup) (past : List Entry) (desk : Desk) (steps : List Step)
    (end : List Entry) (last : Desk) (s : Step) (news : List Entry) →
    AtDeskFrom capacity setup past desk steps end last → EntriesAtDesk capacity setup end last s news →
    AtDeskFrom capacity setup past desk (steps ++ s ∷ []) (news ++ end) (desk_after s news last)
at_desk_more capacity setup past desk [] end last s news told entries = (
  news,
  subst (λ before. EntriesAtDesk capacity setup before desk s news) told.0
      (subst (λ x. EntriesAtDesk capacity setup end x s news) told.1 entries),
  (ap (λ before. news ++ before) told.0, ap (desk_after s news) told.1),
)
at_desk_more capacity setup past desk (x ∷ steps) end last s news told entries = (
  told.0,
  told.1,
  at_desk_more capacity setup (told.0 ++ past) (desk_after x told.0 desk) steps end last s news told.2 entries,
)

pub leaves_more : (capacity : ℕ) (setup : Setup) (played : List Step) (transcript report : List Entry) (last : Desk)
    (s : Step) → LeavesDesk capacity setup played transcript last →
    EntriesAtDesk capacity setup (onto [] transcript) last s (reverse report) →
    LeavesDesk capacity setup (played ++ s ∷ []) (transcript ++ report) (desk_after s (reverse report) last)
leaves_more capacity setup played transcript report last s told entries =
    subst (λ end. AtDeskFrom capacity setup [] (clear_desk setup) (played ++ s ∷ []) end (desk_after s (reverse report) last))
    (sym (transcript_on transcript report))
    (at_desk_more capacity setup [] (clear_desk setup) played (onto [] transcript) last s (reverse report) told entries)
