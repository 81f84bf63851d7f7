-- What one step on a bus does to all that it represents.
use Rattle.std.proofs.Common.{◌≡◌, ℕ, suc, ◌-◌, ◌≤◌, ◌==◌, Bool, true, false, cond, List, [], ◌∷◌, ◌++◌, length, set, take, drop, get_or, refl, sym, ap, subst, ◌∙◌, Option, Some, None, arith}
use Rattle.std.specs.Prelude.{IsTrue, is_some, unwrap_or}
use Rattle.std.specs.List.{All, flat_map, insert, position, position_or_len}
use Rattle.std.proofs.lemmas.List.{take_all}
use Rattle.std.proofs.lemmas.List.Elements.{All-get_or, All-weaker}
use Rattle.cct_model.specs.lines.command.WireFault.{WireFault}
use Rattle.cct_model.specs.terms.device.DeviceSetup.{DeviceSetup}
use Rattle.cct_model.specs.terms.device.Setup.{Setup}
use Rattle.cct_model.specs.terms.family.Happening.{Happening}
use Rattle.cct_model.specs.terms.family.Happening.TheVariants as happening
use Rattle.cct_model.specs.lines.entry.Entry.{Entry}
use Rattle.cct_model.specs.lines.entry.Entry.TheVariants as entry
use Rattle.cct_model.specs.Acceptor.{accepts}
use Rattle.cct_model.specs.Bill.{holds}
use Rattle.cct_model.specs.Exchange.{by_address, device_at, put_by_address}
use Rattle.cct_model.specs.History.{Met, coin, fall, jam}
use Rattle.cct_model.specs.Legal.{OfKnowing, happening_entry}
use Rattle.cct_model.specs.Honest.{was_forged}
use Rattle.cct_model.specs.Hopper.{remaining}
use Rattle.cct_model.specs.Family.{met_by}
use Rattle.cct_model.specs.Setup.{AreDistinct, IsSoundSetup}
use Rattle.cct_model.specs.Transcript.{answers, at, heard_after, heard_by_devices, heard_by_host, meets, met, pending}
use Rattle.cct_acceptor.specs.declared.acceptor.Inserted.{Inserted}
use Rattle.cct_acceptor.specs.declared.acceptor.Inserted.TheVariants as taken
use Rattle.cct_model.proofs.Knowing.{knowing_both}
use Rattle.cct_bus.specs.declared.bus.Bus.{Bus}
use Rattle.cct_bus.specs.declared.device.Device.{Device}
use Rattle.cct_bus.specs.declared.outcome.Outcome.{Outcome}
use Rattle.cct_bus.specs.Bus.{Befalls, StandsFor}
use Rattle.cct_bus.specs.Device.{Lived, Stands, setup_in, setups_in}
use Rattle.cct_bus.specs.Outcome.{becomes, inserted_of, is_done, of_effect, of_inserted}
use Rattle.cct_bus.specs.Room.{most_answered}
use Rattle.cct_bus.proofs.Hears.{answer_of, hearing}
use Rattle.cct_bus.proofs.Orders.{answered_by_address, distinct_by_address, found_by_address}
use Rattle.cct_bus.proofs.Places.{is_at, is_not_below, marked, none_found, one_met, place_found, put_is, rank_is}

-- a device put in its place among others in rising order of address
pub put_in_order : (device : Device) (devices : List Device) (first : DeviceSetup) (rest : List DeviceSetup) (place : ℕ) → setup_in device ≡ first → setups_in devices ≡ by_address rest
    → place ≡ unwrap_or (position (is_not_below first.addr) devices) (length devices) → setups_in (insert devices place device) ≡ put_by_address first (by_address rest)
put_in_order device devices first rest place is order at_place =
    ap (λ i. setups_in (insert devices i device)) (at_place ∙ rank_is (is_not_below first.addr) devices ∙ ap (λ d. position_or_len (is_not_below d.addr) devices) (sym is))
    ∙ put_is device devices
    ∙ ap (λ d. put_by_address d (setups_in devices)) is
    ∙ ap (λ ds. put_by_address first ds) order

tail_whole : (n : ℕ) (ds : List DeviceSetup) → n ≡ length ds → take n ds ≡ ds
tail_whole n ds e = take_all n ds (omega arith)

-- a list with a first element is that and what follows it
pub first_apart : (setups : List DeviceSetup) (first : DeviceSetup) → 1 ≤ length setups → first ≡ get_or setups 0 first → setups ≡ first ∷ take (length setups - 1) (drop 1 setups)
first_apart [] first some is = absurd (omega arith)
first_apart (d ∷ ds) first some is =
    let rest : take (suc (length ds) - 1) ds ≡ ds = tail_whole (suc (length ds) - 1) ds (omega arith) in
    ap (λ x. x ∷ ds) (sym is) ∙ ap (λ xs. first ∷ xs) (sym rest)

-- what devices in rising order of address answer has the room of their setup
pub room_in_order : (piece : List ℕ) (setups devices : List DeviceSetup) → setups ≡ by_address devices → most_answered piece devices ≤ 260 → most_answered piece setups ≤ 260
room_in_order piece setups devices order room =
    subst (λ n. n ≤ 260) (sym (ap (λ ds. most_answered piece ds) order ∙ answered_by_address piece devices)) room

-- the device at an address of the setup is that at its index
pub setup_found : (devices : List Device) (setup : Setup) (i : ℕ) (y : Device) (addr : ℕ) → setups_in devices ≡ by_address setup.devices → position (is_at addr) devices ≡ Some i → y ≡ get_or devices i y
    → device_at setup.devices addr ≡ Some (setup_in y)
setup_found devices setup i y addr order found is =
    sym (found_by_address setup.devices addr)
    ∙ ap (λ ds. device_at ds addr) (sym order)
    ∙ (place_found devices i y addr found).1
    ∙ ap (λ d. Some (setup_in d)) (sym is)

none_missing : (found : Option DeviceSetup) → found ≡ None → IsTrue (is_some found) → ⊥
none_missing None none there = cc
none_missing (Some d) none there = cc

place_known : (found : Option ℕ) (devices : List Device) (setup : Setup) (addr : ℕ) → setups_in devices ≡ by_address setup.devices → IsTrue (is_some (device_at setup.devices addr)) → position (is_at addr) devices ≡ found → IsTrue (is_some found)
place_known (Some i) devices setup addr order there is = refl
place_known None devices setup addr order there is =
    let none : device_at setup.devices addr ≡ None = sym (found_by_address setup.devices addr) ∙ ap (λ ds. device_at ds addr) (sym order) ∙ none_found devices addr is in
    absurd (none_missing (device_at setup.devices addr) none there)

-- where there is a device at an address of the setup, one of the devices is at it
pub place_there : (devices : List Device) (setup : Setup) (addr : ℕ) → setups_in devices ≡ by_address setup.devices → IsTrue (is_some (device_at setup.devices addr)) → IsTrue (is_some (position (is_at addr) devices))
place_there devices setup addr order there =
    place_known (position (is_at addr) devices) devices setup addr order there refl

-- the device at an index represents what the history shows
pub one_lived : (devices : List Device) (i : ℕ) (y : Device) (addr : ℕ) (history : DeviceSetup → List Met) → position (is_at addr) devices ≡ Some i → y ≡ get_or devices i y
    → All (Stands history) devices → Lived y (history (setup_in y))
one_lived devices i y addr history found is stand =
    let was : Stands history (get_or devices i y) = All-get_or (Stands history) devices i y (place_found devices i y addr found).0 stand in
    subst (λ d. Stands history d) (sym is) was

-- one device meets something, and the others nothing
pub one_stands : (devices : List Device) (setup : Setup) (i : ℕ) (x y : Device) (addr : ℕ) (m : Met) (history : DeviceSetup → List Met) → setups_in devices ≡ by_address setup.devices → IsSoundSetup setup
    → position (is_at addr) devices ≡ Some i → y ≡ get_or devices i y → x.setup ≡ y.setup → ((past : List Met) → Lived y past → Lived x (m ∷ past))
    → All (Stands history) devices → All (Stands (marked addr m history)) (set devices i x)
one_stands devices setup i x y addr m history order sound found is same meets_it stand =
    let place = place_found devices i x addr found in
    let at_y : (setup_in y).addr ≡ addr = ap (λ d. (setup_in d).addr) is ∙ (place_found devices i y addr found).2 in
    let lived : Lived x (m ∷ history (setup_in y)) = meets_it (history (setup_in y)) (one_lived devices i y addr history found is stand) in
    let same_setup : setup_in x ≡ setup_in y = ap (λ s. s.now) same in
    one_met addr m history devices i x place.0
    (subst (λ ds. AreDistinct ds) (sym order) (distinct_by_address setup.devices sound.distinct))
    (ap (λ d. d.addr) same_setup ∙ at_y) place.2
    (subst (λ d. Lived x (m ∷ history d)) (sym same_setup) lived) stand

either : (test : Bool) (P : Entry → Type 0) (x y : Entry) → P x → P y → P (cond test x y)
either true P x y left right = left
either false P x y left right = right

-- by an entry the device at an address meets something, the others nothing, the fault stays, and so does what the last
-- exchange was
abbrev Tells : List Entry → ℕ → Met → Entry → Type 0
Tells past addr m e =
    ((d : DeviceSetup) → meets d past e ≡ at addr d m) × (pending (e ∷ past) ≡ pending past)
    × (was_forged (e ∷ past) ≡ was_forged past)

-- by the entry of what happened to it, the device at that address met that
pub happening_tells : (d : DeviceSetup) (addr : ℕ) (what : Happening) (past : List Entry) → d.addr ≡ addr
    → Tells past addr (met_by what) (happening_entry addr d past what)
happening_tells d addr what past is =
    subst (λ a. Tells past a (met_by what) (happening_entry a d past what)) is (tells what)
  where
    tells : (what : Happening) → Tells past d.addr (met_by what) (happening_entry d.addr d past what)
    tells (happening.Coin place) =
        either (accepts (met d past) place) (Tells past d.addr (coin place)) _ _ ((λ e. refl), refl, refl) ((λ e. refl), refl, refl)
    tells happening.Alien = ((λ e. refl), refl, refl)
    tells (happening.Bill place) =
        either (holds (met d past) place) (Tells past d.addr (coin place)) _ _ ((λ e. refl), refl, refl) ((λ e. refl), refl, refl)
    tells happening.Fall =
        either (remaining d.serial (met d past) == 0) (Tells past d.addr fall) _ _ ((λ e. refl), refl, refl) ((λ e. refl), refl, refl)
    tells happening.Jam =
        either (remaining d.serial (met d past) == 0) (Tells past d.addr jam) _ _ ((λ e. refl), refl, refl) ((λ e. refl), refl, refl)
    tells happening.Reset = ((λ e. refl), refl, refl)

-- after what the device at an address met the devices represent its entry
pub entry_stands : (devices : List Device) (addr : ℕ) (m : Met) (e : Entry) (past : List Entry) → Tells past addr m e
    → All (Stands (marked addr m (λ d. met d past))) devices → All (Stands (λ d. met d (e ∷ past))) devices
entry_stands devices addr m e past tells stand =
    All-weaker (Stands (marked addr m (λ d. met d past))) (Stands (λ d. met d (e ∷ past)))
    (λ device lived. subst (λ ms. Lived device (ms ++ met (setup_in device) past)) (sym (tells.0 (setup_in device))) lived)
    devices stand

-- what became of a coin that fell in, of a bill, and of a coin that fell out of a hopper or got stuck there
pub inserted_back : (i : Inserted) → inserted_of (of_inserted i) ≡ i
inserted_back (taken.Accepted c) = refl
inserted_back taken.Inhibited = refl

pub effect_back : (had_effect : Bool) → is_done (of_effect had_effect) ≡ had_effect
effect_back true = refl
effect_back false = refl

-- what happened to a device, with what became of it said in another form
pub told_as : {B : Type 0} (setup : Setup) (past : List Entry) (addr : ℕ) (what : Happening) (outcome : Outcome)
    (new : Bus) (form : Outcome → B) (said : B) (is : DeviceSetup → B) → said ≡ form outcome
    → ((d : DeviceSetup) → form (becomes what d.serial (met d past)) ≡ is d) → Befalls setup past addr what outcome new
    → OfKnowing what (device_at setup.devices addr)
    (λ d. (said ≡ is d) × StandsFor new (happening_entry addr d past what ∷ past))
told_as setup past addr what outcome new form said is told same befalls =
    (knowing_both what (device_at setup.devices addr)
    (λ d. (outcome ≡ becomes what d.serial (met d past)) × StandsFor new (happening_entry addr d past what ∷ past))
    (λ d. (said ≡ is d) × StandsFor new (happening_entry addr d past what ∷ past)) (Unit {0})
    (λ d at goes. ((told ∙ ap form goes.0 ∙ same d, goes.1), tt)) befalls).0

-- what happened to a device, where its entry is that of any
pub stands_by : (setup : Setup) (past : List Entry) (addr : ℕ) (what : Happening) (outcome : Outcome) (new : Bus)
    (e : Entry) → ((d : DeviceSetup) → happening_entry addr d past what ≡ e) → Befalls setup past addr what outcome new
    → StandsFor new (e ∷ past)
stands_by setup past addr what outcome new e same befalls =
    (knowing_both what (device_at setup.devices addr)
    (λ d. (outcome ≡ becomes what d.serial (met d past)) × StandsFor new (happening_entry addr d past what ∷ past))
    (λ d. Unit {0}) (StandsFor new (e ∷ past))
    (λ d at goes. (tt, subst (λ x. StandsFor new (x ∷ past)) (same d) goes.1)) befalls).1

-- what the host hears, where the devices answered what reached them
pub heard_is : (setup : Setup) (past : List Entry) (fault : WireFault) (setups : List DeviceSetup) (sent heard : List ℕ) → fault ≡ pending past → setups ≡ by_address setup.devices
    → heard ≡ heard_by_host fault sent (flat_map (answer_of (heard_by_devices fault sent) (λ d. met d past)) setups) → heard ≡ heard_after setup past sent
unfolding heard_after
heard_is setup past fault setups sent heard same order is =
    is
    ∙ ap (λ ds. heard_by_host fault sent (flat_map (answer_of (heard_by_devices fault sent) (λ d. met d past)) ds)) order
    ∙ ap (λ f. heard_by_host f sent (answers setup past (heard_by_devices f sent))) same

-- the devices after an exchange, and what the host heard
pub exchanged : (setup : Setup) (past : List Entry) (fault : WireFault) (old : List Device) (sent piece told heard : List ℕ) → fault ≡ pending past → setups_in old ≡ by_address setup.devices
    → piece ≡ heard_by_devices fault sent
    → ((history : DeviceSetup → List Met) → All (Stands history) old → told ≡ sent ++ flat_map (answer_of piece history) (setups_in old))
    → ((answered : List ℕ) → told ≡ sent ++ answered → heard ≡ heard_by_host fault sent answered)
    → All (Stands (λ d. met d past)) old → heard ≡ heard_after setup past sent
exchanged setup past fault old sent piece told heard same order reached says makes stand =
    let all = flat_map (answer_of (heard_by_devices fault sent) (λ d. met d past)) (setups_in old) in
    let told_is : told ≡ sent ++ all = says (λ d. met d past) stand ∙ ap (λ p. sent ++ flat_map (answer_of p (λ d. met d past)) (setups_in old)) reached in
    heard_is setup past fault (setups_in old) sent heard same order (makes all told_is)

-- after an exchange the devices represent it
pub exchange_stands : (past : List Entry) (fault : WireFault) (devices : List Device) (addr : ℕ) (sent piece heard : List ℕ) → fault ≡ pending past → piece ≡ heard_by_devices fault sent
    → All (Stands (hearing piece (λ d. met d past))) devices → All (Stands (λ d. met d (entry.Wire addr sent heard ∷ past))) devices
exchange_stands past fault devices addr sent piece heard same reached stand =
    subst (λ p. All (Stands (hearing p (λ d. met d past))) devices) (reached ∙ ap (λ f. heard_by_devices f sent) same) stand
