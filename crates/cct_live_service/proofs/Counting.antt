-- How many orders are open and how many epochs run, by what is known of a host that has just begun.
use Rattle.std.proofs.Common.{◌≡◌, ◌∙◌, ℕ, ◌+◌, ◌<◌, ◌==◌, zero, suc, Bool, true, false, cond, List, [], ◌∷◌, length, take, get_or, Option, Some, is_some, refl, sym, ap, subst, arith, true≢false}
use Rattle.std.specs.Prelude.{count_by}
use Rattle.std.proofs.lemmas.List.Sums.{count_by_more_no, count_by_more_yes, sum_by-cons}
use Rattle.std.proofs.lemmas.Bool.Decides.{nat_tests}
use Rattle.cct_model.specs.terms.device.DeviceSetup.{DeviceSetup}
use Rattle.cct_model.specs.lines.carry.Carry.{Carry}
use Rattle.cct_model.specs.lines.record.Record.{Record}
use Rattle.cct_model.specs.Carry.{carry_over, known_by}
use Rattle.cct_model.specs.Exchange.{device_at}
use Rattle.cct_model.specs.Following.{Known, known_in}
use Rattle.cct_disk.specs.declared.disk.Disk.{Ghosts}
use Rattle.cct_journal.specs.Journal as journals
use Rattle.cct_host.specs.declared.desk.JobDesk.{JobDesk}
use Rattle.cct_host.specs.declared.host.Host.{Host}
use Rattle.cct_host.specs.Replayed.{AllReplay}
use Rattle.cct_host.specs.Host.{journal_of, setup_of}
use Rattle.cct_host.specs.Starting.{BeginsAs, HasReplayed, HasResumed}
use Rattle.cct_live_service.specs.declared.notice.Notice.TheVariants as notice_of
use Rattle.cct_live_service.specs.Found.{Begun, found_there, made_new, was_found}
use Rattle.cct_live_service.specs.Opening.{HasBegun, epochs_known, is_running, opening_of, opening_over, orders_known}

-- a device is found at its address
some_there : (found : Option DeviceSetup) (here : Bool) (d : DeviceSetup) → is_some found ≡ true →
    is_some (cond here (Some d) found) ≡ true
some_there found true d there = refl
some_there found false d there = there

here_found : (here : Bool) (d : DeviceSetup) (found : Option DeviceSetup) → here ≡ true →
    is_some (cond here (Some d) found) ≡ true
here_found here d found is = ap (λ b. is_some (cond b (Some d) found)) is

pub device_found : (ds : List DeviceSetup) (i : ℕ) (d : DeviceSetup) → i < length ds → d ≡ get_or ds i d →
    is_some (device_at ds d.addr) ≡ true
device_found [] i d within is = absurd (omega (arith, within))
device_found (e ∷ ds) zero d within is =
    here_found (e.addr == d.addr) e (device_at ds d.addr) (grind (arith, nat_tests, ap (λ x. x.addr) is))
device_found (e ∷ ds) (suc i) d within is =
    some_there (device_at ds d.addr) (e.addr == d.addr) e (device_found ds i d (omega (arith, within)) is)

-- one device more of those that were lent, at which something is so or isn't
counted_more : (p : DeviceSetup → Bool) (ds : List DeviceSetup) (i count next : ℕ) (d : DeviceSetup) (here : Bool) →
    i < length ds → d ≡ get_or ds i d → p d ≡ here → count ≡ count_by p (take i ds) → next ≡ count + cond here 1 0 →
    next ≡ count_by p (take (i + 1) ds)
counted_more p ds i count next d true within at is counted more =
    more ∙ ap (λ n. n + 1) counted ∙ sym (count_by_more_yes p ds i d within (ap p (sym at) ∙ is))
counted_more p ds i count next d false within at is counted more =
    more ∙ (omega arith) ∙ counted ∙ sym (count_by_more_no p ds i d within (ap p (sym at) ∙ is))

pub counted_lent : (p : DeviceSetup → Bool) (ds items : List DeviceSetup) (i count next : ℕ) (d : DeviceSetup)
    (here : Bool) → items ≡ ds → i < length items → d ≡ get_or items i d →
    (is_some (device_at ds d.addr) ≡ true → p d ≡ here) → count ≡ count_by p (take i ds) → next ≡ count + cond here 1 0 →
    next ≡ count_by p (take (i + 1) ds)
counted_lent p ds items i count next d here lent within at is counted more =
    let inside : i < length ds = subst (λ l. i < length l) lent within in
    let there : d ≡ get_or ds i d = at ∙ ap (λ l. get_or l i d) lent in
    counted_more p ds i count next d here inside there (is (device_found ds i d inside there)) counted more

found_same : (m1 m2 o1 o2 e1 e2 : ℕ) → m1 ≡ m2 → o1 ≡ o2 → e1 ≡ e2 →
    notice_of.Found m1 o1 e1 ≡ notice_of.Found m2 o2 e2
found_same m1 m2 o1 o2 e1 e2 m o e =
    ap (λ n. notice_of.Found n o1 e1) m ∙ ap (λ n. notice_of.Found m2 n e1) o ∙ ap (λ n. notice_of.Found m2 o2 n) e

-- what is reported of a journal that was there
pub found_told : {D : Type 0} {g : Ghosts D} (host : Host D g) (there : Bool) (many orders epochs : ℕ) → there ≡ true →
    many ≡ journals.used_of (journal_of host) →
    ((k : Known) (last : ℕ) → BeginsAs host k last → orders ≡ orders_known k (setup_of host).devices) →
    ((k : Known) (last : ℕ) → BeginsAs host k last → epochs ≡ epochs_known k (setup_of host).devices) →
    (begun : Begun) → HasBegun host begun → there ≡ was_found begun →
    notice_of.Found many orders epochs ≡ opening_of (setup_of host) begun
found_told host there many orders epochs is counted orders_are epochs_are made_new has made = absurd (true≢false (sym is ∙ made))
found_told host there many orders epochs is counted orders_are epochs_are (found_there base c rest) has was =
    let setup = setup_of host in
    let after = carry_over setup c rest in
    let begins : BeginsAs host (known_by setup after) after.last_id =
    subst (λ t. BeginsAs host (known_by setup t) t.last_id) has.carry_is has.from_carry.resumes in
    found_same _ _ _ _ _ _ (counted ∙ has.used) (orders_are (known_by setup after) after.last_id begins)
    (epochs_are (known_by setup after) after.last_id begins)

-- what is known of each device at one start is the same
counts_same : (p q : DeviceSetup → Bool) (d : DeviceSetup) (ds : List DeviceSetup) → p d ≡ q d →
    count_by p ds ≡ count_by q ds → count_by p (d ∷ ds) ≡ count_by q (d ∷ ds)
counts_same p q d ds here rest =
    sum_by-cons (λ x. cond (p x) 1 0) d ds ∙ ap (λ b. cond b 1 0 + count_by p ds) here
    ∙ ap (λ n. cond (q d) 1 0 + n) rest ∙ sym (sum_by-cons (λ x. cond (q x) 1 0) d ds)

orders_same : (ds : List DeviceSetup) (ks : List JobDesk) (k m : Known) → AllReplay ds ks k → AllReplay ds ks m →
    orders_known k ds ≡ orders_known m ds
orders_same [] [] k m one two = refl
orders_same [] (e ∷ ks) k m one two = absurd one
orders_same (d ∷ ds) [] k m one two = absurd one
orders_same (d ∷ ds) (e ∷ ks) k m one two =
    counts_same (λ x. is_some (k.order_at x.addr)) (λ x. is_some (m.order_at x.addr)) d ds
    (ap is_some (sym one.0.order_is ∙ two.0.order_is)) (orders_same ds ks k m one.1 two.1)

epochs_same : (ds : List DeviceSetup) (ks : List JobDesk) (k m : Known) → AllReplay ds ks k → AllReplay ds ks m →
    epochs_known k ds ≡ epochs_known m ds
epochs_same [] [] k m one two = refl
epochs_same [] (e ∷ ks) k m one two = absurd one
epochs_same (d ∷ ds) [] k m one two = absurd one
epochs_same (d ∷ ds) (e ∷ ks) k m one two =
    counts_same (λ x. is_running (k.epoch_at x.addr)) (λ x. is_running (m.epoch_at x.addr)) d ds
    (ap is_running (sym one.0.epoch_is ∙ two.0.epoch_is)) (epochs_same ds ks k m one.1 two.1)

pub numbers_same : {D : Type 0} {g : Ghosts D} (host : Host D g) (base : ℕ) (c : Carry) (rest found : List Record) →
    HasResumed host base c rest → HasReplayed host found →
    opening_of (setup_of host) (found_there base c rest) ≡ opening_over (setup_of host) (found_there base c rest) found
numbers_same host base c rest found resumed replayed =
    let setup = setup_of host in
    let after = carry_over setup c rest in
    let one : BeginsAs host (known_by setup after) after.last_id =
    subst (λ t. BeginsAs host (known_by setup t) t.last_id) resumed.carry_is resumed.from_carry.resumes in
    let two = replayed.over.replays in
    found_same _ _ _ _ _ _ (sym resumed.used ∙ replayed.used)
    (orders_same _ _ (known_by setup after) (known_in setup found) one.devices two.devices)
    (epochs_same _ _ (known_by setup after) (known_in setup found) one.devices two.devices)
