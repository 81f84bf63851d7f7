-- The desk of the device at an address, by its index.
use Rattle.std.proofs.Common.{◌≡◌, ◌≢◌, ℕ, zero, suc, ◌<◌, ◌≤◌, ◌^◌, ◌==◌, nat_lt, Bool, true, false, cond, List, [], ◌∷◌, ◌++◌, length, set, take, drop, get_or, Option, Some, None, refl, sym, ap, subst, ◌∙◌, arith}
use Rattle.std.specs.List.{All, position, position_or_len}
use Rattle.std.specs.Option.{IfSome}
use Rattle.std.proofs.lemmas.Bool.{eqb-true}
use Rattle.std.proofs.lemmas.Bool.Decides.{nat_tests}
use Rattle.std.proofs.Math.ListN.{length-set}
use Rattle.std.proofs.lemmas.List.{take_at}
use Rattle.std.proofs.lemmas.List.Elements.{All-get_or, All-head, All-tail}
use Rattle.std.proofs.lemmas.List.Quantifiers.{position-Some}
use Rattle.std.proofs.lemmas.List.Sums.{fails_before_first}
use Rattle.std.proofs.lemmas.Option.{slice_get-get_or}
use Rattle.cct_model.specs.terms.wire.TheConstants.{BROADCAST, HOST}
use Rattle.cct_model.specs.terms.device.DeviceSetup.{DeviceSetup}
use Rattle.cct_model.specs.terms.device.Setup.{Setup}
use Rattle.cct_model.specs.lines.entry.Entry.{Entry}
use Rattle.cct_model.specs.Device.{IsSound}
use Rattle.cct_model.specs.Exchange.{device_at}
use Rattle.cct_model.specs.Job as model
use Rattle.cct_model.specs.Legal.{due_of, due_there}
use Rattle.cct_model.specs.Setup.{AreDistinct, IsSoundSetup}
use Rattle.cct_jobs.specs.Jobs.{ClosesItsOwn}
use Rattle.cct_host.specs.declared.desk.JobDesk.{JobDesk}
use Rattle.cct_host.specs.declared.desks.Desks.{Desks}
use Rattle.cct_host.specs.Desk.{AllSit, Sits, greatest_paying}
use Rattle.cct_host.specs.Desks.{FindsDesk, StandsFor, desk_there, setup_of, working_id}
use Rattle.cct_model.specs.Records.{greatest_id, records}
use Rattle.cct_model.specs.Refusal.{greatest_running, last_id, running_id}
use Rattle.cct_model.specs.Transcript.{lines_of}
use Rattle.std.specs.Prelude.{max, option_and_then, slice_get}
use Rattle.cct_host.specs.Place.{AreAt, OwnsAt, OwnsItsPut, device, sales, scans}
use Rattle.cct_host.proofs.Keeps.{keeps_other, keeps_quiet}
use Rattle.cct_host.proofs.Lines.{IsQuiet}

-- the test of a device by its address
abbrev pub is_at : ℕ → DeviceSetup → Bool
is_at addr d = d.addr == addr

none_here : (same : Bool) (d : DeviceSetup) (rest : Option DeviceSetup) → cond same (Some d) rest ≡ None
    → (same ≡ false) × (rest ≡ None)
none_here true d rest e = absurd cc
none_here false d rest e = (refl, e)

at_index : (ds : List DeviceSetup) (i : ℕ) (x : DeviceSetup) (addr : ℕ) → i < length ds
    → is_at addr (get_or ds i x) ≡ true
    → ((k : ℕ) → k < i → is_at addr (get_or ds k x) ≡ false) → device_at ds addr ≡ Some (get_or ds i x)
at_index [] i x addr within here before = absurd (omega arith)
at_index (e ∷ es) zero x addr within here before = ap (λ b. cond b (Some e) (device_at es addr)) here
at_index (e ∷ es) (suc i) x addr within here before =
    ap (λ b. cond b (Some e) (device_at es addr)) (before 0 (omega arith))
    ∙ at_index es i x addr (omega arith) here (λ k below. before (suc k) (omega arith))

-- what the index of an address says
pub device_found : (ds : List DeviceSetup) (i : ℕ) (d : DeviceSetup) (addr : ℕ) → position (is_at addr) ds ≡ Some i
    → d ≡ get_or ds i d
    → (i < length ds) × (device_at ds addr ≡ Some d) × (d.addr ≡ addr)
device_found ds i d addr found is =
    let known : (i < length ds) × (is_at addr (get_or ds i d) ≡ true)
    × ((k : ℕ) → k < i → is_at addr (get_or ds k d) ≡ false) = position-Some (is_at addr) ds i d found in (
      known.0,
      at_index ds i d addr known.0 known.1 known.2 ∙ ap Some (sym is),
      ap (λ x. x.addr) is
          ∙ eqb-true _ _ known.1,
    )

none_at_all : (ds : List DeviceSetup) (addr : ℕ)
    → ((k : ℕ) (x : DeviceSetup) → k < length ds → is_at addr (get_or ds k x) ≡ false) → device_at ds addr ≡ None
none_at_all [] addr fails = refl
none_at_all (e ∷ es) addr fails =
    ap (λ b. cond b (Some e) (device_at es addr)) (fails 0 e (omega arith))
    ∙ none_at_all es addr (λ k x below. fails (suc k) x (omega arith))

past_all : (below : Bool) (i : ℕ) → cond below (Some i) None ≡ None → below ≡ false
past_all true i e = absurd cc
past_all false i e = refl

-- no index, no device
absent : (ds : List DeviceSetup) (addr : ℕ) (found : Option ℕ) → found ≡ position (is_at addr) ds → found ≡ None
    → device_at ds addr ≡ None
absent ds addr found is none =
    let test : nat_lt (position_or_len (is_at addr) ds) (length ds) ≡ false = past_all _ _ (sym is ∙ none) in
    none_at_all ds addr (λ k x below. fails_before_first (is_at addr) ds k x (grind (arith, nat_tests)))

-- an index in a list that was lent
pub found_in : (ds items : List DeviceSetup) (addr : ℕ) (found : Option ℕ) (i : ℕ) → items ≡ ds
    → found ≡ position (is_at addr) items → found ≡ Some i → position (is_at addr) ds ≡ Some i
found_in ds items addr found i lent is there = ap (position (is_at addr)) (sym lent) ∙ sym is ∙ there

-- the device at an index
at_this : (ds : List DeviceSetup) (i : ℕ) → i < length ds → (d : DeviceSetup) × (d ≡ get_or ds i d)
at_this [] i within = absurd (omega arith)
at_this (e ∷ es) zero within = (e, refl)
at_this (e ∷ es) (suc i) within = at_this es i (omega arith)

-- the desk at an index of a list that was lent
pub desk_lent : (ks items : List JobDesk) (i : ℕ) (y : JobDesk) → items ≡ ks → y ≡ get_or items i y
    → get_or items i y ≡ get_or ks i (get_or items i y)
desk_lent ks items i y lent is = ap (λ ls. get_or ls i y) lent ∙ ap (get_or ks i) is

-- it is the desk at the address of that index
pub desk_found : (ds : List DeviceSetup) (ks items : List JobDesk) (addr i : ℕ) (k : JobDesk) → items ≡ ks
    → k ≡ get_or items i k → length ks ≡ length ds → i < length ds → position (is_at addr) ds ≡ Some i
    → option_and_then (slice_get ks) (position (is_at addr) ds) ≡ Some k
desk_found ds ks items addr i k lent is many within found =
    ap (option_and_then (slice_get ks)) found ∙ slice_get-get_or ks i k (omega arith)
    ∙ ap Some (sym (is ∙ ap (λ ls. get_or ls i k) lent))

pub desk_absent : (ds : List DeviceSetup) (ks : List JobDesk) (addr : ℕ) → position (is_at addr) ds ≡ None
    → option_and_then (slice_get ks) (position (is_at addr) ds) ≡ None
desk_absent ds ks addr none = ap (option_and_then (slice_get ks)) none

-- an index in a setup that was lent is one of the desks
pub found_within : (desks : Desks) (lent : List DeviceSetup) (found : Option ℕ) → lent ≡ (setup_of desks).devices
    → IfSome found (λ i. i < length lent) → IfSome found (λ i. i < length desks.devices.items)
found_within desks lent found is within =
    subst (λ n. IfSome found (λ i. i < n)) (ap length is ∙ sym desks.many) within

-- what is known of the desk of the device at an address, by its index
pub record FoundAt (desks : Desks) (addr i : ℕ) : Type 0 where
  pub index : position (is_at addr) (setup_of desks).devices ≡ Some i
  pub within : i < length (setup_of desks).devices
  pub there : i < length desks.devices.items
  pub device : DeviceSetup
  pub is : device ≡ get_or (setup_of desks).devices i device
  pub at : device_at (setup_of desks).devices addr ≡ Some device
  pub addr_is : device.addr ≡ addr

pub found_at : (desks : Desks) (addr i : ℕ) (found : Option ℕ) → FindsDesk desks addr found → found ≡ Some i
    → FoundAt desks addr i
found_at desks addr i found finds some =
    let there : i < length desks.devices.items =
    subst (λ f. IfSome f (λ j. j < length desks.devices.items)) some finds.within in
    let within : i < length (setup_of desks).devices = subst (λ n. i < n) desks.many there in
    let index = sym finds.is ∙ some in
    let this = at_this (setup_of desks).devices i within in
    let place = device_found (setup_of desks).devices i this.0 addr index this.1 in
    record {
      index = index;
      within = within;
      there = there;
      device = this.0;
      is = this.1;
      at = place.1;
      addr_is = place.2;
    }

pub none_at : (desks : Desks) (addr : ℕ) (found : Option ℕ) → FindsDesk desks addr found → found ≡ None
    → (device_at (setup_of desks).devices addr ≡ None) × (desk_there desks addr ≡ None)
none_at desks addr found finds none = (
  absent (setup_of desks).devices addr found finds.is none,
  desk_absent (setup_of desks).devices desks.devices.items addr (sym finds.is ∙ none),
)

-- it is still found where the setup stays
pub still_found : (old new : Desks) (addr : ℕ) (found : Option ℕ) → setup_of new ≡ setup_of old
    → FindsDesk old addr found → FindsDesk new addr found
still_found old new addr found same finds =
    let many : length old.devices.items ≡ length new.devices.items =
    old.many ∙ ap (λ (s : Setup). length s.devices) (sym same) ∙ sym new.many in
    record {
      is = finds.is ∙ ap (λ (s : Setup). position (is_at addr) s.devices) (sym same);
      within = subst (λ n. IfSome found (λ i. i < n)) many finds.within;
    }

-- the desk at the index of a device is the device's
pub desk_sits : (ds : List DeviceSetup) (ks : List JobDesk) (i : ℕ) (d : DeviceSetup) (k : JobDesk) (past : List Entry)
    → i < length ds → d ≡ get_or ds i d → k ≡ get_or ks i k
    → AllSit past ds ks → Sits past (device d) k
desk_sits [] ks i d k past within is at all = absurd (omega arith)
desk_sits (e ∷ es) [] i d k past within is at all = absurd all
desk_sits (e ∷ es) (m ∷ ms) zero d k past within is at all =
    subst (λ x. Sits past (device x) k) (sym is) (subst (λ x. Sits past (device e) x) (sym at) all.0)
desk_sits (e ∷ es) (m ∷ ms) (suc i) d k past within is at all = desk_sits es ms i d k past (omega arith) is at all.1

-- what the device at an address is about to put
pub owns_there : (setup : Setup) (d : DeviceSetup) (addr : ℕ) (past : List Entry)
    → device_at setup.devices addr ≡ Some d → d.addr ≡ addr → OwnsItsPut setup past addr → OwnsAt (device d) past
owns_there setup d addr past there is owns =
    subst (λ a. IfSome (due_of d (lines_of d past) (model.job (lines_of d past))) (ClosesItsOwn past a)) (sym is)
    (subst (λ found. IfSome (due_there past addr found) (ClosesItsOwn past addr)) there owns)

other_of : (a b : ℕ) → (a == b) ≡ false → a ≢ b
other_of a b e = grind (arith, nat_tests)

-- entries of an address without a device
desks_apart : (ds : List DeviceSetup) (ks : List JobDesk) (addr : ℕ) (past news : List Entry) → device_at ds addr ≡ None
    → AreAt addr past news → AllSit past ds ks → AllSit (news ++ past) ds ks
desks_apart [] [] addr past news none at all = tt
desks_apart [] (m ∷ ms) addr past news none at all = absurd all
desks_apart (e ∷ es) [] addr past news none at all = absurd all
desks_apart (e ∷ es) (m ∷ ms) addr past news none at all =
    let parts : ((e.addr == addr) ≡ false) × (device_at es addr ≡ None) = none_here (e.addr == addr) e _ none in (
      keeps_other (device e) m.job m.epoch m.orders past news (at (device e) (other_of _ _ parts.0)) all.0,
      desks_apart es ms addr
          past news parts.1 at all.1,
    )

apart : (es : List DeviceSetup) (i : ℕ) (d : DeviceSetup) (addr : ℕ) → i < length es → device_at es addr ≡ None
    → (get_or es i d).addr ≢ addr
apart [] i d addr within none = absurd (omega arith)
apart (e ∷ es) zero d addr within none = other_of _ _ (none_here (e.addr == addr) e _ none).0
apart (e ∷ es) (suc i) d addr within none = apart es i d addr (omega arith) (none_here (e.addr == addr) e _ none).1

-- entries of the address of one device: its desk changes
desks_at : (ds : List DeviceSetup) (ks : List JobDesk) (i : ℕ) (x : JobDesk) (d : DeviceSetup) (addr : ℕ)
    (past news : List Entry) → AreDistinct ds → i < length ds → d ≡ get_or ds i d → d.addr ≡ addr
    → AreAt addr past news → Sits (news ++ past) (device d) x → AllSit past ds ks
    → AllSit (news ++ past) ds (set ks i x)
desks_at [] ks i x d addr past news distinct within is here at sits all = absurd (omega arith)
desks_at (e ∷ es) [] i x d addr past news distinct within is here at sits all = absurd all
desks_at (e ∷ es) (m ∷ ms) zero x d addr past news distinct within is here at sits all = (
  subst (λ y. Sits (news ++ past) (device y) x) is sits,
  desks_apart es ms addr past news (subst (λ a. device_at es a ≡ None) (ap (λ y. y.addr) (sym is) ∙ here) distinct.0) at
      all.1,
)
desks_at (e ∷ es) (m ∷ ms) (suc i) x d addr past news distinct within is here at sits all =
    let other : e.addr ≢ addr =
    (λ (same : e.addr ≡ addr). apart es i d e.addr (omega arith) distinct.0
    (ap (λ y. y.addr) (sym is) ∙ here ∙ sym same)) in (
      keeps_other (device e) m.job m.epoch m.orders past news (at (device e) other) all.0,
      desks_at es ms i x d addr past news
          distinct.1 (omega arith) is here at sits all.1,
    )

-- no device is at the address of all devices, nor at the host's
above : (a addr : ℕ) → 2 ≤ a → addr < 2 → (a == addr) ≡ false
above a addr low below = grind (arith, nat_tests)

no_device_below : (ds : List DeviceSetup) (addr : ℕ) → addr < 2 → All IsSound ds → device_at ds addr ≡ None
no_device_below [] addr below sound = refl
no_device_below (e ∷ es) addr below sound =
    ap (λ b. cond b (Some e) (device_at es addr)) (above e.addr addr (All-head IsSound e es sound).low below)
    ∙ no_device_below es addr below (All-tail IsSound e es sound)

not_below : (a addr : ℕ) → 2 ≤ a → addr < 2 → addr ≢ a
not_below a addr low below is = omega (arith, low, below, is)

-- the serial number of a device fits its three bytes
pub fits_three : (setup : Setup) (i : ℕ) (d : DeviceSetup) → IsSoundSetup setup → i < length setup.devices
    → d ≡ get_or setup.devices i d → d.serial < 2 ^ 24
fits_three setup i d sound within is =
    (subst IsSound (sym is) (All-get_or IsSound setup.devices i d within sound.devices)).serial

-- a device is apart from the address of all devices, and from the host's
device_apart : (setup : Setup) (i : ℕ) (d : DeviceSetup) (addr below : ℕ) → IsSoundSetup setup
    → position (is_at addr) setup.devices ≡ Some i → d ≡ get_or setup.devices i d → below < 2 → below ≢ addr
device_apart setup i d addr below sound found is less =
    let place = device_found setup.devices i d addr found is in
    let low : 2 ≤ d.addr = (subst IsSound (sym is) (All-get_or IsSound setup.devices i d place.0 sound.devices)).low in
    subst (λ a. below ≢ a) place.2 (not_below d.addr below low less)

-- the two are apart from one another
host_apart : HOST ≢ BROADCAST
host_apart is = omega (arith, is)

all_apart : BROADCAST ≢ HOST
all_apart is = omega (arith, is)

-- a list that was lent, where one desk changed
pub refilled : (ks items : List JobDesk) (i : ℕ) (x : JobDesk) → items ≡ ks
    → take (length ks) (set items i x ++ drop (length (set items i x)) ks) ≡ set ks i x
refilled ks items i x lent =
    let same : length (set items i x) ≡ length ks = simp length-set (ap length lent) in
    take_at (set items i x) (drop (length (set items i x)) ks) (length ks) same ∙ ap (λ ls. set ls i x) lent

-- the desk of a device changes, and all else goes on
pub device_turn : (setup : Setup) (ks items : List JobDesk) (scan sale : JobDesk) (i : ℕ) (x : JobDesk)
    (d : DeviceSetup) (addr : ℕ) (past news : List Entry) → IsSoundSetup setup → items ≡ ks
    → position (is_at addr) setup.devices ≡ Some i → d ≡ get_or setup.devices i d → AreAt addr past news
    → Sits (news ++ past) (device d) x → AllSit past setup.devices ks → Sits past scans scan → Sits past sales sale
    → AllSit (news ++ past) setup.devices (take (length ks) (set items i x ++ drop (length (set items i x)) ks))
    × Sits (news ++ past) scans scan × Sits (news ++ past) sales sale
device_turn setup ks items scan sale i x d addr past news sound lent found is at sits all scanned sold =
    let place = device_found setup.devices i d addr found is in (
      subst (AllSit (news ++ past) setup.devices) (sym (refilled ks items i x lent))
          (desks_at setup.devices ks i x d addr past news sound.distinct place.0 is place.2 at sits all),
      keeps_other scans scan.job scan.epoch scan.orders past news
          (at scans (device_apart setup i d addr BROADCAST sound found is (omega arith))) scanned,
      keeps_other sales sale.job sale.epoch sale.orders past news
          (at sales (device_apart setup i d addr HOST sound found is (omega arith))) sold,
    )

-- the desk of scans changes, and all else goes on
pub scan_turn : (setup : Setup) (ks : List JobDesk) (sale : JobDesk) (past news : List Entry) → IsSoundSetup setup
    → AreAt BROADCAST past news → AllSit past setup.devices ks → Sits past sales sale
    → AllSit (news ++ past) setup.devices ks × Sits (news ++ past) sales sale
scan_turn setup ks sale past news sound at all sold = (
  desks_apart setup.devices ks BROADCAST past news
      (no_device_below setup.devices BROADCAST (omega arith) sound.devices) at all,
  keeps_other sales sale.job sale.epoch sale.orders past news (at sales host_apart) sold,
)

-- the desk of sales changes, and all else goes on
pub sale_turn : (setup : Setup) (ks : List JobDesk) (scan : JobDesk) (past news : List Entry) → IsSoundSetup setup
    → AreAt HOST past news → AllSit past setup.devices ks → Sits past scans scan
    → AllSit (news ++ past) setup.devices ks × Sits (news ++ past) scans scan
sale_turn setup ks scan past news sound at all scanned = (
  desks_apart setup.devices ks HOST past news (no_device_below setup.devices HOST (omega arith) sound.devices) at all,
  keeps_other scans scan.job scan.epoch scan.orders past news (at scans all_apart) scanned,
)

-- an entry that changes no job, no epoch and no open order
pub desks_quiet : (ds : List DeviceSetup) (ks : List JobDesk) (past : List Entry) (e : Entry) → IsQuiet past e
    → AllSit past ds ks → AllSit (e ∷ past) ds ks
desks_quiet [] [] past e quiet all = tt
desks_quiet [] (m ∷ ms) past e quiet all = absurd all
desks_quiet (d ∷ ds) [] past e quiet all = absurd all
desks_quiet (d ∷ ds) (m ∷ ms) past e quiet all =
    (keeps_quiet (device d) m.job m.epoch m.orders past e quiet all.0, desks_quiet ds ms past e quiet all.1)

-- the last id: the greatest of the records, of the running payments and of the running sale
paying_is : (ds : List DeviceSetup) (ks : List JobDesk) (past : List Entry) → AllSit past ds ks
    → greatest_paying ks ≡ greatest_running past ds
paying_is [] [] past all = refl
paying_is [] (m ∷ ms) past all = absurd all
paying_is (d ∷ ds) [] past all = absurd all
paying_is (d ∷ ds) (m ∷ ms) past all =
    ap (λ id. max id (greatest_paying ms)) all.0.knows.2
    ∙ ap (max (running_id d (model.job (lines_of d past)))) (paying_is ds ms past all.1)

pub last_is : (desks : Desks) (past : List Entry) (last : ℕ) → StandsFor desks past
    → last ≡ max desks.last (working_id desks) → last ≡ last_id (setup_of desks) past
last_is desks past last stands is =
    is ∙ ap (λ r. max r (working_id desks)) stands.last
    ∙ ap (λ id. max (greatest_id (records past)) (max id desks.sale.orders.id))
    (paying_is (setup_of desks).devices desks.devices.items past stands.devices)
    ∙ ap (λ id. max (greatest_id (records past)) (max (greatest_running past (setup_of desks).devices) id))
    stands.sale.knows.1
