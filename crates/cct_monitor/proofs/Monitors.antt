-- A monitor represents one thing more that came to it.
use Rattle.std.proofs.Common.{◌≡◌, ℕ, zero, suc, ◌+◌, ◌==◌, ◌||◌, Bool, true, false, cond, List, [], ◌∷◌, map, flat_map, length, replicate, refl, sym, ap, ap₂, ◌∙◌, None, arith}
use Rattle.std.specs.Prelude.{Option, slice_get}
use Rattle.std.specs.List.{list_any}
use Rattle.cct_monitor.specs.declared.monitor.Monitor.{Monitor}
use Rattle.cct_audit_taps.specs.declared.said.Said.{Said}
use Rattle.cct_audit_taps.specs.declared.shown.Shown.TheVariants.{Nothing}
use Rattle.cct_monitor.specs.declared.watched.Kept.{Kept}
use Rattle.cct_monitor.specs.declared.watched.Kept.TheVariants.{Acceptor, QuietAcceptor, Premises, Hopper, HopperPremises}
use Rattle.cct_monitor.specs.declared.watched.Family.{Family}
use Rattle.cct_monitor.specs.declared.watched.Family.TheVariants as family
use Rattle.cct_monitor.specs.declared.watched.Heard.{Heard}
use Rattle.cct_monitor.specs.declared.watched.Watched.{Watched}
use Rattle.cct_audit_taps.specs.declared.signs.Sign.TheVariants as signs
use Rattle.cct_audit_taps.specs.Signs.{known_after}
use Rattle.cct_audit_taps.specs.declared.deeds.Deed.TheVariants as deeds
use Rattle.cct_audit_taps.specs.Deeds.{hopper_after, no_hopper}
use Rattle.cct_audit_taps.specs.Taps.{Tap}
use Rattle.cct_monitor.specs.Lives.{last_life}
use Rattle.cct_monitor.specs.Machine.{acceptor_after, ends_on, heard_as, kept_first, new_watched, no_tap, quiet_after, says_on, watched_on}
use Rattle.cct_monitor.specs.Places.{are_apart, has_addr, put_watched}
use Rattle.cct_monitor.specs.Monitor.{StandsFor, heard_of, kept_by, tap_count, watched_as}
use Rattle.cct_monitor.specs.Tallies.{no_tally}
use Rattle.cct_monitor.specs.Watches.{Account, Came, Watch, accounts, finally_of_all, made_tap, made_watch, said_of_all, taps_in}
use Rattle.cct_monitor.proofs.Accounts.{all_end, all_heard, put_kept, tap_kept, tap_says}
use Rattle.cct_monitor.proofs.Insertions.{any_put, put_apart, put_more}

-- a device that no tap showed
no_look : (n : ℕ) → acceptor_after (replicate n Nothing) ≡ no_tap
no_look zero = refl
no_look (suc n) = no_look n

no_life : (n : ℕ) → last_life (replicate n None) ≡ None
no_life zero = refl
no_life (suc n) = no_life n

abbrev unseen : Watch → ℕ → Account
unseen w n = record { watch = w; before = n; taps = [] }

no_quiet : (n : ℕ) → quiet_after (replicate n Nothing) ≡ None
no_quiet zero = refl
no_quiet (suc n) = no_quiet n

no_sign : (n : ℕ) → known_after (replicate n signs.Nothing) ≡ None
no_sign zero = refl
no_sign (suc n) = no_sign n

no_deed : (n : ℕ) → hopper_after (replicate n deeds.Nothing) ≡ no_hopper
no_deed zero = refl
no_deed (suc n) = no_deed n

new_is : (w : Watch) (n : ℕ) → new_watched w.addr w.kind w.family ≡ watched_as (unseen w n)
new_is w n = ap (λ (kept : Kept). record { addr = w.addr; kind = w.kind; tally = no_tally; kept = kept }) (by_family w.family)
  where
    by_family : (fam : Family) → kept_first fam ≡ kept_by fam (unseen w n)
    by_family family.Acceptor = ap Acceptor (sym (no_look n))
    by_family (family.QuietAcceptor money) = ap (QuietAcceptor money) (sym (no_quiet n))
    by_family (family.Premises money) = ap (Premises money) (sym (no_sign n))
    by_family family.Hopper = ap Hopper (sym (no_life n))
    by_family family.HopperPremises = ap HopperPremises (sym (no_deed n))

pub watch_stands : (w : Watch) (past : List Came) (old new : Monitor) → StandsFor old past →
    tap_count new ≡ tap_count old →
    new.devices.items ≡ put_watched (new_watched w.addr w.kind w.family) old.devices.items →
    StandsFor new (made_watch w ∷ past)
watch_stands w past old new stands same is = record {
  counted = same ∙ stands.counted;
  devices = is
      ∙ ap₂ put_watched (new_is w (taps_in past)) stands.devices
      ∙ put_kept (unseen w (taps_in past)) (accounts past);
}

pub watch_apart : (w : Watched) (addr : ℕ) (before after : List Watched) → w.addr ≡ addr →
    after ≡ put_watched w before → list_any (has_addr addr) before ≡ false → are_apart before ≡ true →
    are_apart after ≡ true
watch_apart w addr before after own is new apart =
    ap are_apart is ∙ put_apart w before (ap (λ a. list_any (has_addr a) before) own ∙ new) apart

pub watch_more : (w : Watched) (before after : List Watched) → after ≡ put_watched w before →
    length after ≡ length before + 1
watch_more w before after is = ap length is ∙ put_more w before

pub watch_addresses : (w : Watched) (addr other : ℕ) (before after : List Watched) → w.addr ≡ addr →
    after ≡ put_watched w before →
    list_any (has_addr other) after ≡ ((addr == other) || list_any (has_addr other) before)
watch_addresses w addr other before after own is =
    ap (list_any (has_addr other)) is
    ∙ any_put (has_addr other) w before
    ∙ ap (λ a. (a == other) || list_any (has_addr other) before) own

pub tap_stands : (t : Tap) (past : List Came) (old new : Monitor) → StandsFor old past →
    tap_count new ≡ tap_count old + 1 →
    new.devices.items ≡ map (watched_on t (tap_count new)) old.devices.items →
    StandsFor new (made_tap t ∷ past)
tap_stands t past old new stands more is =
    let counted : tap_count old ≡ taps_in past = stands.counted in
    let number : tap_count new ≡ suc (taps_in past) = omega arith in
    record {
      counted = number;
      devices = is ∙ ap₂ (λ n ws. map (watched_on t n) ws) number stands.devices ∙ tap_kept t past;
    }

pub tap_told : (t : Tap) (past : List Came) (old : Monitor) (number : ℕ) (report : List Said) → StandsFor old past →
    number ≡ tap_count old + 1 →
    report ≡ flat_map (says_on t number) old.devices.items →
    report ≡ said_of_all t past
tap_told t past old number report stands more is =
    let counted : tap_count old ≡ taps_in past = stands.counted in
    let number_is : number ≡ suc (taps_in past) = omega arith in
    is ∙ ap₂ (λ n ws. flat_map (says_on t n) ws) number_is stands.devices ∙ tap_says t past

pub finish_told : (past : List Came) (old : Monitor) (report : List Said) → StandsFor old past →
    report ≡ flat_map ends_on old.devices.items → report ≡ finally_of_all past
finish_told past old report stands is = is ∙ ap (flat_map ends_on) stands.devices ∙ all_end (accounts past)

pub heard_told : (past : List Came) (old : Monitor) (place : ℕ) (found : Option Heard) → StandsFor old past →
    found ≡ slice_get (map heard_as old.devices.items) place → found ≡ slice_get (map heard_of (accounts past)) place
heard_told past old place found stands is =
    is ∙ ap (λ hs. slice_get hs place) (ap (map heard_as) stands.devices ∙ all_heard (accounts past))
