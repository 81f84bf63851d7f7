-- The device at an address, by its index.
use Rattle.std.proofs.Common.{◌≡◌, ◌≢◌, ℕ, zero, suc, ◌+◌, ◌<◌, ◌≤◌, ◌==◌, nat_le, nat_lt, Bool, true, false, not, cond, List, [], ◌∷◌, ◌++◌, length, set, take, drop, get_or, eq-eqb, Option, Some, None, refl, sym, ap, subst, ◌∙◌, arith}
use Rattle.std.specs.Prelude.{unwrap_or}
use Rattle.std.specs.List.{All, insert, position, position_or_len}
use Rattle.std.proofs.lemmas.Bool.{eqb-true}
use Rattle.std.proofs.lemmas.Bool.Decides.{nat_tests}
use Rattle.std.proofs.lemmas.List.Elements.{All-append, All-cons, All-drop, All-head, All-nil, All-tail, All-take}
use Rattle.std.proofs.lemmas.List.Quantifiers.{position-Some}
use Rattle.cct_model.specs.terms.device.DeviceSetup.{DeviceSetup}
use Rattle.std.proofs.lemmas.List.Sums.{fails_before_first}
use Rattle.cct_model.specs.Exchange.{device_at, put_by_address}
use Rattle.cct_model.specs.History.{Met}
use Rattle.cct_model.specs.Setup.{AreDistinct}
use Rattle.cct_model.specs.Transcript.{at}
use Rattle.cct_bus.specs.declared.device.Device.{Device}
use Rattle.cct_bus.proofs.Orders.{other_of}
use Rattle.cct_bus.specs.Device.{Lived, Stands, setup_in, setups_in}

-- the test of a device by its address
abbrev pub is_at : ℕ → Device → Bool
is_at addr device = (setup_in device).addr == addr

pub none_here : (same : Bool) (d : DeviceSetup) (rest : Option DeviceSetup) → cond same (Some d) rest ≡ None → (same ≡ false) × (rest ≡ None)
none_here true d rest e = absurd cc
none_here false d rest e = (refl, e)

-- the first device that passes the test is the one at the address
at_place : (devices : List Device) (i : ℕ) (x : Device) (addr : ℕ) → i < length devices → is_at addr (get_or devices i x) ≡ true
    → ((k : ℕ) → k < i → is_at addr (get_or devices k x) ≡ false) → device_at (setups_in devices) addr ≡ Some (setup_in (get_or devices i x))
at_place [] i x addr within here before = absurd (omega arith)
at_place (e ∷ es) zero x addr within here before = ap (λ b. cond b (Some (setup_in e)) (device_at (setups_in es) addr)) here
at_place (e ∷ es) (suc i) x addr within here before =
    ap (λ b. cond b (Some (setup_in e)) (device_at (setups_in es) addr)) (before 0 (omega arith))
    ∙ at_place es i x addr (omega arith) here (λ k below. before (suc k) (omega arith))

-- what the index of an address says
pub place_found : (devices : List Device) (i : ℕ) (x : Device) (addr : ℕ) → position (is_at addr) devices ≡ Some i
    → (i < length devices) × (device_at (setups_in devices) addr ≡ Some (setup_in (get_or devices i x))) × ((setup_in (get_or devices i x)).addr ≡ addr)
place_found devices i x addr found =
    let known : (i < length devices) × (is_at addr (get_or devices i x) ≡ true) × ((k : ℕ) → k < i → is_at addr (get_or devices k x) ≡ false) = position-Some (is_at addr) devices i x found in
    (known.0, at_place devices i x addr known.0 known.1 known.2, eqb-true _ _ known.1)

none_at_all : (devices : List Device) (addr : ℕ) → ((k : ℕ) (x : Device) → k < length devices → is_at addr (get_or devices k x) ≡ false) → device_at (setups_in devices) addr ≡ None
none_at_all [] addr fails = refl
none_at_all (e ∷ es) addr fails =
    ap (λ b. cond b (Some (setup_in e)) (device_at (setups_in es) addr)) (fails 0 e (omega arith))
    ∙ none_at_all es addr (λ k x below. fails (suc k) x (omega arith))

past_all : (below : Bool) (i : ℕ) → cond below (Some i) None ≡ None → below ≡ false
past_all true i e = absurd cc
past_all false i e = refl

-- no index, no device
pub none_found : (devices : List Device) (addr : ℕ) → position (is_at addr) devices ≡ None → device_at (setups_in devices) addr ≡ None
none_found devices addr none =
    let test : nat_lt (position_or_len (is_at addr) devices) (length devices) ≡ false = past_all _ _ none in
    none_at_all devices addr (λ k x below. fails_before_first (is_at addr) devices k x (grind (arith, nat_tests)))

known_or : (below : Bool) (i n : ℕ) → (below ≡ false → i ≡ n) → unwrap_or (cond below (Some i) None) n ≡ i
known_or true i n past = refl
known_or false i n past = sym (past refl)

step_at_most : (stops : Bool) (i n : ℕ) → i ≤ n → cond (not stops) (1 + i) 0 ≤ suc n
step_at_most true i n most = omega arith
step_at_most false i n most = omega arith

place_at_most : (p : Device → Bool) (devices : List Device) → position_or_len p devices ≤ length devices
place_at_most p [] = omega arith
place_at_most p (e ∷ es) = step_at_most (p e) (position_or_len p es) (length es) (place_at_most p es)

place_past : (i n : ℕ) → i ≤ n → nat_lt i n ≡ false → i ≡ n
place_past i n most test = grind (arith, nat_tests)

-- the place of the first that passes, or how many there are
pub rank_is : (p : Device → Bool) (devices : List Device) → unwrap_or (position p devices) (length devices) ≡ position_or_len p devices
rank_is p devices =
    known_or (nat_lt (position_or_len p devices) (length devices)) (position_or_len p devices) (length devices)
    (place_past (position_or_len p devices) (length devices) (place_at_most p devices))

-- the devices where one was put in
abbrev pub is_not_below : ℕ → Device → Bool
is_not_below addr device = nat_le addr (setup_in device).addr

put_by : (stops : Bool) (d e : Device) (es : List Device) (rest : ℕ) → setups_in (insert es rest d) ≡ put_by_address (setup_in d) (setups_in es)
    → setups_in (insert (e ∷ es) (cond (not stops) (1 + rest) 0) d) ≡ cond stops (setup_in d ∷ setup_in e ∷ setups_in es) (setup_in e ∷ put_by_address (setup_in d) (setups_in es))
put_by true d e es rest same = refl
put_by false d e es rest same =
    let next : 1 + rest ≡ suc rest = omega arith in
    ap (λ n. setups_in (insert (e ∷ es) n d)) next ∙ ap (λ ds. setup_in e ∷ ds) same

-- a device put before the first whose address isn't below its own is in its place by address
pub put_is : (d : Device) (es : List Device) → setups_in (insert es (position_or_len (is_not_below (setup_in d).addr) es) d) ≡ put_by_address (setup_in d) (setups_in es)
put_is d [] = refl
put_is d (e ∷ es) = put_by (is_not_below (setup_in d).addr e) d e es (position_or_len (is_not_below (setup_in d).addr) es) (put_is d es)

-- a fact of all devices holds where one was put in
pub all_put : (P : Device → Type 0) (d : Device) (es : List Device) (i : ℕ) → P d → All P es → All P (insert es i d)
all_put P d es i here rest =
    All-append P (take i es) (d ∷ drop i es) (All-take P i es rest) (All-cons P d (drop i es) here (All-drop P i es rest))

pub apart : (es : List Device) (i : ℕ) (x : Device) (addr : ℕ) → i < length es → device_at (setups_in es) addr ≡ None → (setup_in (get_or es i x)).addr ≢ addr
apart [] i x addr within none = absurd (omega arith)
apart (e ∷ es) zero x addr within none =
    let test : is_at addr e ≡ false = (none_here (is_at addr e) (setup_in e) _ none).0 in
    grind (arith, nat_tests)
apart (e ∷ es) (suc i) x addr within none = apart es i x addr (omega arith) (none_here (is_at addr e) (setup_in e) _ none).1

-- what a history is with one thing more at an address
abbrev pub marked : ℕ → Met → (DeviceSetup → List Met) → DeviceSetup → List Met
marked addr m history d = at addr d m ++ history d

marked_by : (same : Bool) (m : Met) (past : List Met) → same ≡ false → cond same (m ∷ []) [] ++ past ≡ past
marked_by true m past e = absurd cc
marked_by false m past e = refl

marked_here_by : (same : Bool) (m : Met) (past : List Met) → same ≡ true → cond same (m ∷ []) [] ++ past ≡ m ∷ past
marked_here_by true m past e = refl
marked_here_by false m past e = absurd cc

other_test : (a b : ℕ) → b ≢ a → (a == b) ≡ false
other_test a b e = grind (arith, nat_tests)

marked_other : (addr : ℕ) (m : Met) (history : DeviceSetup → List Met) (d : DeviceSetup) → d.addr ≢ addr → marked addr m history d ≡ history d
marked_other addr m history d other = marked_by (addr == d.addr) m (history d) (other_test addr d.addr other)

marked_here : (addr : ℕ) (m : Met) (history : DeviceSetup → List Met) (d : DeviceSetup) → d.addr ≡ addr → marked addr m history d ≡ m ∷ history d
marked_here addr m history d here = marked_here_by (addr == d.addr) m (history d) (eq-eqb addr d.addr (sym here))

stands_other : (addr : ℕ) (m : Met) (history : DeviceSetup → List Met) (device : Device) → (setup_in device).addr ≢ addr → Stands history device → Stands (marked addr m history) device
stands_other addr m history device other stands =
    subst (λ past. Lived device past) (sym (marked_other addr m history (setup_in device) other)) stands

others_stand : (addr : ℕ) (m : Met) (history : DeviceSetup → List Met) (es : List Device) → device_at (setups_in es) addr ≡ None → All (Stands history) es → All (Stands (marked addr m history)) es
others_stand addr m history [] none stand = All-nil (Stands (marked addr m history))
others_stand addr m history (e ∷ es) none stand =
    let parts : (is_at addr e ≡ false) × (device_at (setups_in es) addr ≡ None) = none_here (is_at addr e) (setup_in e) _ none in
    let other : (setup_in e).addr ≢ addr = other_of _ _ parts.0 in
    All-cons (Stands (marked addr m history)) e es
    (stands_other addr m history e other (All-head (Stands history) e es stand))
    (others_stand addr m history es parts.1 (All-tail (Stands history) e es stand))

-- one device meets something, and the others nothing
pub one_met : (addr : ℕ) (m : Met) (history : DeviceSetup → List Met) (devices : List Device) (i : ℕ) (x : Device) → i < length devices → AreDistinct (setups_in devices)
    → (setup_in x).addr ≡ addr → (setup_in (get_or devices i x)).addr ≡ addr → Lived x (m ∷ history (setup_in x)) → All (Stands history) devices → All (Stands (marked addr m history)) (set devices i x)
one_met addr m history [] i x within distinct now_at was_at lived stand = absurd (omega arith)
one_met addr m history (e ∷ es) zero x within distinct now_at was_at lived stand =
    All-cons (Stands (marked addr m history)) x es
    (subst (λ past. Lived x past) (sym (marked_here addr m history (setup_in x) now_at)) lived)
    (others_stand addr m history es (subst (λ a. device_at (setups_in es) a ≡ None) was_at distinct.0) (All-tail (Stands history) e es stand))
one_met addr m history (e ∷ es) (suc i) x within distinct now_at was_at lived stand =
    let other : (setup_in e).addr ≢ addr = (λ (same : (setup_in e).addr ≡ addr). apart es i x (setup_in e).addr (omega arith) distinct.0 (was_at ∙ sym same)) in
    All-cons (Stands (marked addr m history)) e (set es i x)
    (stands_other addr m history e other (All-head (Stands history) e es stand))
    (one_met addr m history es i x (omega arith) distinct.1 now_at was_at lived (All-tail (Stands history) e es stand))
