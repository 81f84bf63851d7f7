-- What is kept of all watched devices goes on by what comes.
use Rattle.std.proofs.Common.{◌≡◌, ℕ, suc, ◌+◌, Bool, true, false, cond, nat_le, Option, List, [], ◌∷◌, ◌++◌, map, flat_map, length, refl, sym, ap, ap₂, ◌∙◌, length-append, arith}
use Rattle.std.specs.Prelude.{⊤}
use Rattle.std.proofs.lemmas.List.{length-map, length-replicate}
use Rattle.cct_monitor.specs.declared.watched.Kept.{Kept}
use Rattle.cct_monitor.specs.declared.watched.Kept.TheVariants.{Acceptor, QuietAcceptor, Premises, Hopper, HopperPremises}
use Rattle.cct_audit_taps.specs.declared.money.Money.{Money}
use Rattle.cct_monitor.specs.declared.watched.Family.{Family}
use Rattle.cct_monitor.specs.declared.watched.Family.TheVariants as family
use Rattle.cct_monitor.specs.declared.watched.Heard.{Heard}
use Rattle.cct_audit_taps.specs.Signs.{broken_at, broken_by, known_after, known_on, sign}
use Rattle.cct_audit_taps.specs.Deeds.{deed, hopper_after, hopper_broken_at, hopper_broken_by, hopper_on}
use Rattle.cct_audit_taps.specs.Taps.{Tap, shown, quiet_shown, life_shown}
use Rattle.cct_monitor.specs.Spans.{said_at, said_last, quiet_at}
use Rattle.cct_monitor.specs.Lives.{fell_at, fell_by, last_life}
use Rattle.cct_monitor.specs.Machine.{acceptor_after, acceptor_on, acceptor_says, ends_by, ends_on, family_of, heard_as, kept_on, last_on, life_on, quiet_after, quiet_says, says_by, says_on, watched_on}
use Rattle.cct_monitor.specs.Places.{put_watched}
use Rattle.cct_monitor.specs.Monitor.{heard_of, kept_by, watched_as}
use Rattle.cct_monitor.specs.Tallies.{tally_by, tally_of}
use Rattle.cct_monitor.specs.Watches.{Account, Came, accounts, deeds_of, finally_by, finally_of, lives_of, looks_of, made_tap, made_watch, put_by_address, quiet_looks_of, signs_of, said_by, said_of, taps_in, with_tap}
use Rattle.cct_monitor.proofs.Machine.{ends_is, life_is, quiet_is, says_is}

-- of each device xs many taps came xs of all
abbrev AreCounted : ℕ → List Account → Type 0
AreCounted n [] = ⊤
AreCounted n (a ∷ xs) = (length a.taps + a.before ≡ n) × AreCounted n xs

put_counted : (n : ℕ) (a : Account) (xs : List Account) → length a.taps + a.before ≡ n → AreCounted n xs →
    AreCounted n (put_by_address a xs)
put_counted n a [] own all = (own, tt)
put_counted n a (b ∷ bs) own all = by_test (nat_le a.watch.addr b.watch.addr) (put_counted n a bs own all.1)
  where
    by_test : (below : Bool) → AreCounted n (put_by_address a bs) →
        AreCounted n (cond below (a ∷ b ∷ bs) (b ∷ put_by_address a bs))
    by_test true rest = (own, all)
    by_test false rest = (all.0, rest)

tap_counted : (n : ℕ) (t : Tap) (xs : List Account) → AreCounted n xs → AreCounted (suc n) (map (with_tap t) xs)
tap_counted n t [] all = tt
tap_counted n t (a ∷ xs) all =
    let own : length a.taps + a.before ≡ n = all.0 in
    let one : length (t ∷ a.taps) + a.before ≡ suc n = omega arith in
    (one, tap_counted n t xs all.1)

counted : (past : List Came) → AreCounted (taps_in past) (accounts past)
counted [] = tt
counted (made_watch w ∷ past) =
    put_counted (taps_in past) (record { watch = w; before = taps_in past; taps = [] }) (accounts past) (omega arith)
    (counted past)
counted (made_tap t ∷ past) = tap_counted (taps_in past) t (accounts past) (counted past)

looks_counted : (a : Account) → length (looks_of a) ≡ length a.taps + a.before
looks_counted a = simp (length-append, length-map, length-replicate)

quiet_counted : (money : Money) (a : Account) → length (quiet_looks_of money a) ≡ length a.taps + a.before
quiet_counted money a = simp (length-append, length-map, length-replicate)

signs_counted : (money : Money) (a : Account) → length (signs_of money a) ≡ length a.taps + a.before
signs_counted money a = simp (length-append, length-map, length-replicate)

lives_counted : (a : Account) → length (lives_of a) ≡ length a.taps + a.before
lives_counted a = simp (length-append, length-map, length-replicate)

deeds_counted : (a : Account) → length (deeds_of a) ≡ length a.taps + a.before
deeds_counted a = simp (length-append, length-map, length-replicate)

-- one device
family_kept : (fam : Family) (a : Account) → family_of (kept_by fam a) ≡ fam
family_kept family.Acceptor a = refl
family_kept (family.QuietAcceptor money) a = refl
family_kept (family.Premises money) a = refl
family_kept family.Hopper a = refl
family_kept family.HopperPremises a = refl

one_on : (t : Tap) (n : ℕ) (a : Account) → length a.taps + a.before ≡ n →
    watched_on t (suc n) (watched_as a) ≡ watched_as (with_tap t a)
one_on t n a own =
    ap₂ (λ (fam : Family) (kept : Kept). record {
      addr = a.watch.addr;
      kind = a.watch.kind;
      tally = tally_by fam a.watch.kind a.watch.addr t (tally_of a.watch.family a.watch.kind a.watch.addr a.taps);
      kept = kept;
    }) (family_kept a.watch.family a) (by_family a.watch.family)
  where
    look : acceptor_on (shown a.watch.kind a.watch.addr t) (suc n) (acceptor_after (looks_of a))
        ≡ acceptor_after (looks_of (with_tap t a))
    look = ap (λ m. acceptor_on (shown a.watch.kind a.watch.addr t) (suc m) (acceptor_after (looks_of a)))
        (sym (looks_counted a ∙ own))

    quiet : (money : Money) → last_on (quiet_shown money a.watch.kind a.watch.addr t) (suc n) (quiet_after (quiet_looks_of money a))
        ≡ quiet_after (quiet_looks_of money (with_tap t a))
    quiet money = ap (λ m. last_on (quiet_shown money a.watch.kind a.watch.addr t) (suc m) (quiet_after (quiet_looks_of money a)))
        (sym (quiet_counted money a ∙ own))

    known : (money : Money) →
        known_on (suc n) (sign money a.watch.kind a.watch.addr t) (known_after (signs_of money a))
        ≡ known_after (signs_of money (with_tap t a))
    known money =
        ap (λ m. known_on (suc m) (sign money a.watch.kind a.watch.addr t) (known_after (signs_of money a)))
        (sym (signs_counted money a ∙ own))

    live : life_on (life_shown a.watch.kind a.watch.addr t) (suc n) (last_life (lives_of a))
        ≡ last_life (lives_of (with_tap t a))
    live = ap (λ m. life_on (life_shown a.watch.kind a.watch.addr t) (suc m) (last_life (lives_of a)))
        (sym (lives_counted a ∙ own))
        ∙ life_is (life_shown a.watch.kind a.watch.addr t) (lives_of a)

    done : hopper_on (suc n) (deed a.watch.kind a.watch.addr t) (hopper_after (deeds_of a))
        ≡ hopper_after (deeds_of (with_tap t a))
    done = ap (λ m. hopper_on (suc m) (deed a.watch.kind a.watch.addr t) (hopper_after (deeds_of a)))
        (sym (deeds_counted a ∙ own))

    by_family : (fam : Family) → kept_on a.watch.kind a.watch.addr t (suc n) (kept_by fam a) ≡ kept_by fam (with_tap t a)
    by_family family.Acceptor = ap Acceptor look
    by_family (family.QuietAcceptor money) = ap (QuietAcceptor money) (quiet money)
    by_family (family.Premises money) = ap (Premises money) (known money)
    by_family family.Hopper = ap Hopper live
    by_family family.HopperPremises = ap HopperPremises done

one_says : (t : Tap) (n : ℕ) (a : Account) → length a.taps + a.before ≡ n →
    says_on t (suc n) (watched_as a) ≡ said_of t a
one_says t n a own = by_family a.watch.family
  where
    look : acceptor_says a.watch.addr (shown a.watch.kind a.watch.addr t) (suc n) (acceptor_after (looks_of a))
        ≡ said_at a.watch.addr (shown a.watch.kind a.watch.addr t) (looks_of a)
    look = ap (λ m. acceptor_says a.watch.addr (shown a.watch.kind a.watch.addr t) (suc m) (acceptor_after (looks_of a)))
        (sym (looks_counted a ∙ own))
        ∙ says_is a.watch.addr (shown a.watch.kind a.watch.addr t) (looks_of a)

    quiet : (money : Money) →
        quiet_says a.watch.addr (quiet_shown money a.watch.kind a.watch.addr t) (suc n) (quiet_after (quiet_looks_of money a))
        ≡ quiet_at a.watch.addr (quiet_shown money a.watch.kind a.watch.addr t) (quiet_looks_of money a)
    quiet money =
        ap (λ m. quiet_says a.watch.addr (quiet_shown money a.watch.kind a.watch.addr t) (suc m)
        (quiet_after (quiet_looks_of money a))) (sym (quiet_counted money a ∙ own))
        ∙ quiet_is a.watch.addr (quiet_shown money a.watch.kind a.watch.addr t) (quiet_looks_of money a)

    broken : (money : Money) →
        broken_by a.watch.addr (suc n) (sign money a.watch.kind a.watch.addr t) (known_after (signs_of money a))
        ≡ broken_at a.watch.addr (sign money a.watch.kind a.watch.addr t) (signs_of money a)
    broken money =
        ap (λ m. broken_by a.watch.addr (suc m) (sign money a.watch.kind a.watch.addr t) (known_after (signs_of money a)))
        (sym (signs_counted money a ∙ own))

    live : fell_by a.watch.addr (suc n) (life_shown a.watch.kind a.watch.addr t) (last_life (lives_of a))
        ≡ fell_at a.watch.addr (life_shown a.watch.kind a.watch.addr t) (lives_of a)
    live = ap (λ m. fell_by a.watch.addr (suc m) (life_shown a.watch.kind a.watch.addr t) (last_life (lives_of a)))
        (sym (lives_counted a ∙ own))

    wrong : hopper_broken_by a.watch.addr (suc n) (deed a.watch.kind a.watch.addr t) (hopper_after (deeds_of a))
        ≡ hopper_broken_at a.watch.addr (deed a.watch.kind a.watch.addr t) (deeds_of a)
    wrong = ap (λ m. hopper_broken_by a.watch.addr (suc m) (deed a.watch.kind a.watch.addr t) (hopper_after (deeds_of a)))
        (sym (deeds_counted a ∙ own))

    by_family : (fam : Family) → says_by a.watch.kind a.watch.addr t (suc n) (kept_by fam a) ≡ said_by fam t a
    by_family family.Acceptor = look
    by_family (family.QuietAcceptor money) = quiet money
    by_family (family.Premises money) = broken money
    by_family family.Hopper = live
    by_family family.HopperPremises = wrong

one_ends : (a : Account) → ends_on (watched_as a) ≡ finally_of a
one_ends a = by_family a.watch.family
  where
    by_family : (fam : Family) → ends_by a.watch.addr (kept_by fam a) ≡ finally_by fam a
    by_family family.Acceptor = ends_is a.watch.addr (looks_of a)
    by_family (family.QuietAcceptor money) = refl
    by_family (family.Premises money) = refl
    by_family family.Hopper = refl
    by_family family.HopperPremises = refl

-- what is reported of one
one_heard : (a : Account) → heard_as (watched_as a) ≡ heard_of a
one_heard a =
    ap (λ (fam : Family). record {
      addr = a.watch.addr;
      kind = a.watch.kind;
      family = fam;
      tally = tally_of a.watch.family a.watch.kind a.watch.addr a.taps;
    }) (family_kept a.watch.family a)

pub all_heard : (xs : List Account) → map heard_as (map watched_as xs) ≡ map heard_of xs
all_heard [] = refl
all_heard (a ∷ xs) = ap₂ (λ (h : Heard) hs. h ∷ hs) (one_heard a) (all_heard xs)

-- all devices
all_on : (t : Tap) (n : ℕ) (xs : List Account) → AreCounted n xs →
    map (watched_on t (suc n)) (map watched_as xs) ≡ map watched_as (map (with_tap t) xs)
all_on t n [] all = refl
all_on t n (a ∷ xs) all = ap₂ (λ x xs. x ∷ xs) (one_on t n a all.0) (all_on t n xs all.1)

all_say : (t : Tap) (n : ℕ) (xs : List Account) → AreCounted n xs →
    flat_map (says_on t (suc n)) (map watched_as xs) ≡ flat_map (said_of t) xs
all_say t n [] all = refl
all_say t n (a ∷ xs) all = ap₂ (λ xs ys. xs ++ ys) (one_says t n a all.0) (all_say t n xs all.1)

pub all_end : (xs : List Account) → flat_map ends_on (map watched_as xs) ≡ flat_map finally_of xs
all_end [] = refl
all_end (a ∷ xs) = ap₂ (λ xs ys. xs ++ ys) (one_ends a) (all_end xs)

pub tap_kept : (t : Tap) (past : List Came) →
    map (watched_on t (suc (taps_in past))) (map watched_as (accounts past))
    ≡ map watched_as (accounts (made_tap t ∷ past))
tap_kept t past = all_on t (taps_in past) (accounts past) (counted past)

pub tap_says : (t : Tap) (past : List Came) →
    flat_map (says_on t (suc (taps_in past))) (map watched_as (accounts past)) ≡ flat_map (said_of t) (accounts past)
tap_says t past = all_say t (taps_in past) (accounts past) (counted past)

pub put_kept : (a : Account) (xs : List Account) →
    put_watched (watched_as a) (map watched_as xs) ≡ map watched_as (put_by_address a xs)
put_kept a [] = refl
put_kept a (b ∷ bs) = by_test (nat_le a.watch.addr b.watch.addr) (put_kept a bs)
  where
    by_test : (below : Bool) → put_watched (watched_as a) (map watched_as bs) ≡ map watched_as (put_by_address a bs) →
        cond below (watched_as a ∷ watched_as b ∷ map watched_as bs)
        (watched_as b ∷ put_watched (watched_as a) (map watched_as bs))
        ≡ map watched_as (cond below (a ∷ b ∷ bs) (b ∷ put_by_address a bs))
    by_test true rest = refl
    by_test false rest = ap (λ xs. watched_as b ∷ xs) rest
