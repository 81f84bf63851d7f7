-- All that a monitor says at the taps of a run of any host is true.
use Rattle.std.proofs.Common.{◌≡◌, ℕ, Bool, true, false, cond, List, [], ◌∷◌, ◌++◌, map, flat_map, sym, subst, subst₂, append-nil, All, nat_le, refl}
use Rattle.std.specs.Prelude.{⊤}
use Rattle.std.proofs.lemmas.List.Elements.{All-append, All-cons, All-head, All-nil, All-tail, All-weaker}
use Rattle.cct_model.specs.terms.device.DeviceSetup.{DeviceSetup}
use Rattle.cct_model.specs.terms.device.Setup.{Setup}
use Rattle.cct_model.specs.lines.entry.Entry.{Entry}
use Rattle.cct_audit_taps.specs.declared.said.Said.{Said}
use Rattle.cct_audit_taps.specs.declared.said.Said.TheVariants.{Sure, Quiet, Doubt, Fell, Broken}
use Rattle.cct_model.specs.Device.{IsAcceptor, IsHopper}
use Rattle.cct_model.specs.Exchange.{device_at}
use Rattle.cct_model.specs.Honest.{HonestPast}
use Rattle.cct_model.specs.Legal.{OfDevice}
use Rattle.cct_model.specs.Setup.{IsSoundSetup}
use Rattle.cct_model.specs.Transcript.{lines_of}
use Rattle.cct_laws.specs.Law.{IsOf}
use Rattle.cct_laws.proofs.wire.Replies.{start_of}
use Rattle.cct_laws.specs.Coins.{all_fallen}
use Rattle.cct_audit_taps.specs.Signs.{broken_at, sign}
use Rattle.cct_audit_taps.specs.Taps.{Tap, life_shown, quiet_shown, shown}
use Rattle.cct_monitor.specs.Lives.{fell_at}
use Rattle.cct_monitor.specs.Once.{all_quietly, all_said}
use Rattle.cct_monitor.specs.Spans.{quiet_at, said_at}
use Rattle.cct_audit_taps.specs.declared.money.Money.{Money}
use Rattle.cct_monitor.specs.declared.watched.Family.{Family}
use Rattle.cct_monitor.specs.declared.watched.Family.TheVariants as watched_as
use Rattle.cct_monitor.specs.Watches.{Watch, all_told, by_address, finally_of_all, from_begin, made_tap, made_watch, put_watch, said_by, said_of, said_of_all}
use Rattle.cct_monitor.proofs.Among.{finally_doubts, none_told}
use Rattle.cct_monitor.proofs.Captures.{from_the_begin}
use Rattle.cct_laws_any_host.specs.Wild.{WildStep, WildFrom, before_tap, taps}
use Rattle.cct_laws_any_host.specs.Claims.{AreFallen, AreQuiet, AreSure, IsOfFamily, IsTrue, IsWatched, Takes, all_fell, came_before, fallen_before, lives, looks, quiet_looks}
use Rattle.cct_laws_any_host.proofs.Acceptors.{acceptor_runs, world_of}
use Rattle.cct_laws_any_host.proofs.Hoppers.{hopper_runs}
use Rattle.cct_laws_any_host.proofs.Fallen.{HoldsFell, fell_true}
use Rattle.cct_laws_any_host.proofs.Sure.{Holds, said_true}
use Rattle.cct_laws_any_host.proofs.Resets.{HoldsQuiet, quietly_true}
use Rattle.cct_audit_taps.specs.Deeds.{deed, hopper_broken_at}
use Rattle.cct_laws_any_host.proofs.Deeds.{all_wrong, none_wrong}
use Rattle.cct_laws_any_host.proofs.Premises.{all_broken, none_broken}
use Rattle.cct_laws_any_host.proofs.QuietRuns.{moment_of, quiet_runs}

-- of one device
of_found : (setup : Setup) (d : DeviceSetup) (P : DeviceSetup → Type 0) (addr : ℕ) → IsOf setup d → addr ≡ d.addr →
    P d → OfDevice (device_at setup.devices addr) P
of_found setup d P addr own here is =
    subst (λ a. OfDevice (device_at setup.devices a) P) (sym here) (subst (λ found. OfDevice found P) (sym own) is)

sure_of : (d : DeviceSetup) (past : List Entry) (x : Said) (setup : Setup) → IsOf setup d →
    Holds (λ n. world_of d (before_tap n past)) d.addr x → IsTrue setup past x
sure_of d past (Sure addr first last posted) setup own is =
    of_found setup d (λ e. AreSure e past (came_before e past) first last posted) addr own is.0
    (record { newest = is.1.newest; exact = is.1.exact })
sure_of d past (Quiet addr first last posted) setup own is = absurd is
sure_of d past (Doubt addr first last) setup own is = tt
sure_of d past (Fell addr first last count) setup own is = absurd is
sure_of d past (Broken addr premise first last) setup own is = absurd is

fell_of : (d : DeviceSetup) (past : List Entry) (x : Said) (setup : Setup) → IsOf setup d →
    HoldsFell (fallen_before d past) d.addr x → IsTrue setup past x
fell_of d past (Sure addr first last posted) setup own is = absurd is
fell_of d past (Quiet addr first last posted) setup own is = absurd is
fell_of d past (Doubt addr first last) setup own is = tt
fell_of d past (Fell addr first last count) setup own is =
    of_found setup d (λ e. AreFallen e past first last count) addr own is.0 is.1
fell_of d past (Broken addr premise first last) setup own is = absurd is

quiet_of : (d : DeviceSetup) (past : List Entry) (x : Said) (setup : Setup) → IsOf setup d →
    HoldsQuiet (λ n. moment_of d (before_tap n past)) d.addr x → IsTrue setup past x
quiet_of d past (Sure addr first last posted) setup own is = absurd is
quiet_of d past (Quiet addr first last posted) setup own is =
    of_found setup d (λ e. AreQuiet e past first last posted) addr own is.0
    (λ same. let told = is.1 same in record { newest = told.newest; exact = told.exact })
quiet_of d past (Doubt addr first last) setup own is = tt
quiet_of d past (Fell addr first last count) setup own is = absurd is
quiet_of d past (Broken addr premise first last) setup own is = absurd is

pub quiet_true : (money : Money) (setup : Setup) (steps : List WildStep) (past : List Entry) (d : DeviceSetup) →
    IsSoundSetup setup → IsOf setup d → Takes money d.body → WildFrom setup [] steps past → HonestPast past →
    All (IsTrue setup past) (all_quietly d.addr (quiet_looks money d past))
quiet_true money setup steps past d sound own takes goes honest =
    All-weaker (HoldsQuiet (λ n. moment_of d (before_tap n past)) d.addr) (IsTrue setup past)
    (λ x is. quiet_of d past x setup own is) (all_quietly d.addr (quiet_looks money d past))
    (quietly_true (λ n. moment_of d (before_tap n past)) d.addr (quiet_looks money d past) (moment_of d past)
    (quiet_runs money setup steps past d sound own takes goes honest))

pub acceptor_true : (setup : Setup) (steps : List WildStep) (past : List Entry) (d : DeviceSetup) →
    IsSoundSetup setup → IsOf setup d → IsAcceptor d.body → WildFrom setup [] steps past → HonestPast past →
    All (IsTrue setup past) (all_said d.addr (looks d past))
acceptor_true setup steps past d sound own accepting goes honest =
    All-weaker (Holds (λ n. world_of d (before_tap n past)) d.addr) (IsTrue setup past)
    (λ x is. sure_of d past x setup own is) (all_said d.addr (looks d past))
    (said_true (λ n. world_of d (before_tap n past)) d.addr (looks d past) (world_of d past)
    (acceptor_runs setup steps past d sound own accepting goes honest))

pub hopper_true : (setup : Setup) (steps : List WildStep) (past : List Entry) (d : DeviceSetup) →
    IsSoundSetup setup → IsOf setup d → IsHopper d.body → WildFrom setup [] steps past → HonestPast past →
    All (IsTrue setup past) (all_fell d.addr (lives d past))
hopper_true setup steps past d sound own paying goes honest =
    All-weaker (HoldsFell (fallen_before d past) d.addr) (IsTrue setup past)
    (λ x is. fell_of d past x setup own is) (all_fell d.addr (lives d past))
    (fell_true (fallen_before d past) (start_of d.body) d.addr (lives d past) (all_fallen (lines_of d past))
    (hopper_runs setup steps past d sound own paying goes honest))

-- each of two lists
first_all : {A : Type 0} (P : A → Type 0) (xs ys : List A) → All P (xs ++ ys) → All P xs
first_all P [] ys all = All-nil P
first_all P (x ∷ xs) ys all =
    All-cons P x xs (All-head P x (xs ++ ys) all) (first_all P xs ys (All-tail P x (xs ++ ys) all))

last_all : {A : Type 0} (P : A → Type 0) (xs ys : List A) → All P (xs ++ ys) → All P ys
last_all P [] ys all = all
last_all P (x ∷ xs) ys all = last_all P xs ys (All-tail P x (xs ++ ys) all)

-- a fact of each tap and those before it
abbrev EachTap : (Tap → List Tap → Type 0) → List Tap → Type 0
EachTap P [] = ⊤
EachTap P (t ∷ ts) = P t ts × EachTap P ts

-- what is said at each tap, where what is said of all is what is said of those before it, and at the newest one
each_tap : {S : Type 0} (Q : Said → Type 0) (shows : Tap → S) (at : S → List S → List Said) (of_all : List S → List Said) →
    ((s : S) (before : List S) → of_all (s ∷ before) ≡ of_all before ++ at s before) → (ts : List Tap) →
    All Q (of_all (map shows ts)) → EachTap (λ t before. All Q (at (shows t) (map shows before ++ []))) ts
each_tap Q shows at of_all split [] all = tt
each_tap Q shows at of_all split (t ∷ ts) all =
    let before = map shows ts in
    let both : All Q (of_all before ++ at (shows t) before) = subst (All Q) (split (shows t) before) all in (
      subst (λ xs. All Q (at (shows t) xs)) (sym (append-nil before)) (last_all Q (of_all before) _ both),
      each_tap Q shows at of_all split ts (first_all Q (of_all before) _ both),
    )

-- of one that is watched
abbrev IsTold : Setup → List Entry → Watch → List Tap → Type 0
IsTold setup past w ts = EachTap (λ t before. All (IsTrue setup past) (said_of t (from_begin before w))) ts

watch_true : (setup : Setup) (steps : List WildStep) (past : List Entry) (w : Watch) → IsSoundSetup setup →
    IsWatched setup w → WildFrom setup [] steps past → HonestPast past → IsTold setup past w (taps past)
watch_true setup steps past w sound (d, own, is) goes honest = by_family w.family is.body_is
  where
    by_family : (fam : Family) → IsOfFamily fam d.body →
        EachTap (λ t before. All (IsTrue setup past) (said_by fam t (from_begin before w))) (taps past)
    by_family watched_as.Acceptor accepting =
        each_tap (IsTrue setup past) (shown w.kind w.addr) (said_at w.addr) (all_said w.addr) (λ s before. refl) (taps past)
        (subst₂ (λ kind addr. All (IsTrue setup past) (all_said addr (map (shown kind addr) (taps past))))
        (sym is.kind_is) (sym is.addr_is) (acceptor_true setup steps past d sound own accepting goes honest))
    by_family (watched_as.QuietAcceptor money) takes =
        each_tap (IsTrue setup past) (quiet_shown money w.kind w.addr) (quiet_at w.addr) (all_quietly w.addr) (λ s before. refl)
        (taps past)
        (subst₂ (λ kind addr. All (IsTrue setup past) (all_quietly addr (map (quiet_shown money kind addr) (taps past))))
        (sym is.kind_is) (sym is.addr_is) (quiet_true money setup steps past d sound own takes goes honest))
    by_family (watched_as.Premises money) takes =
        each_tap (IsTrue setup past) (sign money w.kind w.addr) (broken_at w.addr) (all_broken w.addr) (λ s before. refl)
        (taps past)
        (subst₂ (λ kind addr. All (IsTrue setup past) (all_broken addr (map (sign money kind addr) (taps past))))
        (sym is.kind_is) (sym is.addr_is)
        (subst (All (IsTrue setup past)) (sym (none_broken money setup steps past d sound own takes goes honest))
        (All-nil (IsTrue setup past))))
    by_family watched_as.Hopper paying =
        each_tap (IsTrue setup past) (life_shown w.kind w.addr) (fell_at w.addr) (all_fell w.addr) (λ s before. refl) (taps past)
        (subst₂ (λ kind addr. All (IsTrue setup past) (all_fell addr (map (life_shown kind addr) (taps past))))
        (sym is.kind_is) (sym is.addr_is) (hopper_true setup steps past d sound own paying goes honest))
    by_family watched_as.HopperPremises paying =
        each_tap (IsTrue setup past) (deed w.kind w.addr) (hopper_broken_at w.addr) (all_wrong w.addr) (λ s before. refl)
        (taps past)
        (subst₂ (λ kind addr. All (IsTrue setup past) (all_wrong addr (map (deed kind addr) (taps past))))
        (sym is.kind_is) (sym is.addr_is)
        (subst (All (IsTrue setup past)) (sym (none_wrong setup steps past d sound own paying goes honest))
        (All-nil (IsTrue setup past))))

-- of all, in rising order of address
all_put : (P : Watch → Type 0) (w : Watch) (ws : List Watch) → P w → All P ws → All P (put_watch w ws)
all_put P w [] is all = All-cons P w [] is all
all_put P w (v ∷ vs) is all =
    by_test (nat_le w.addr v.addr) (all_put P w vs is (All-tail P v vs all))
  where
    by_test : (below : Bool) → All P (put_watch w vs) → All P (cond below (w ∷ v ∷ vs) (v ∷ put_watch w vs))
    by_test true rest = All-cons P w (v ∷ vs) is all
    by_test false rest = All-cons P v (put_watch w vs) (All-head P v vs all) rest

all_by_address : (P : Watch → Type 0) (ws : List Watch) → All P ws → All P (by_address ws)
all_by_address P [] all = All-nil P
all_by_address P (w ∷ ws) all =
    all_put P w (by_address ws) (All-head P w ws all) (all_by_address P ws (All-tail P w ws all))

each_told : (Q : Said → Type 0) (t : Tap) (ts : List Tap) (ws : List Watch) →
    All (λ w. All Q (said_of t (from_begin ts w))) ws → All Q (flat_map (said_of t) (map (from_begin ts) ws))
each_told Q t ts [] all = All-nil Q
each_told Q t ts (w ∷ ws) all =
    All-append Q (said_of t (from_begin ts w)) (flat_map (said_of t) (map (from_begin ts) ws))
    (All-head (λ v. All Q (said_of t (from_begin ts v))) w ws all)
    (each_told Q t ts ws (All-tail (λ v. All Q (said_of t (from_begin ts v))) w ws all))

taps_true : (setup : Setup) (past : List Entry) (watches : List Watch) (ts : List Tap) →
    All (λ w. IsTold setup past w ts) (by_address watches) →
    All (IsTrue setup past) (all_told (map made_tap ts ++ map made_watch watches))
taps_true setup past watches [] all =
    subst (All (IsTrue setup past)) (sym (none_told watches)) (All-nil (IsTrue setup past))
taps_true setup past watches (t ∷ ts) all =
    let came = map made_tap ts ++ map made_watch watches in
    let there = by_address watches in
    All-append (IsTrue setup past) (all_told came) (said_of_all t came)
    (taps_true setup past watches ts
    (All-weaker (λ w. IsTold setup past w (t ∷ ts)) (λ w. IsTold setup past w ts) (λ w is. is.1) there all))
    (subst (λ found. All (IsTrue setup past) (flat_map (said_of t) found)) (sym (from_the_begin watches ts))
    (each_told (IsTrue setup past) t ts there
    (All-weaker (λ w. IsTold setup past w (t ∷ ts)) (λ w. All (IsTrue setup past) (said_of t (from_begin ts w)))
    (λ w is. is.0) there all)))

pub all_true : (setup : Setup) (steps : List WildStep) (past : List Entry) (watches : List Watch) →
    IsSoundSetup setup → All (IsWatched setup) watches → WildFrom setup [] steps past → HonestPast past →
    All (IsTrue setup past) (all_told (map made_tap (taps past) ++ map made_watch watches)
    ++ finally_of_all (map made_tap (taps past) ++ map made_watch watches))
all_true setup steps past watches sound watched goes honest =
    let came = map made_tap (taps past) ++ map made_watch watches in
    All-append (IsTrue setup past) (all_told came) (finally_of_all came)
    (taps_true setup past watches (taps past)
    (all_by_address (λ w. IsTold setup past w (taps past)) watches
    (All-weaker (IsWatched setup) (λ w. IsTold setup past w (taps past))
    (λ w is. watch_true setup steps past w sound is goes honest) watches watched)))
    (finally_doubts (IsTrue setup past) (λ addr first last. tt) came)
