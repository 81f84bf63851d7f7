-- Taps that come after all devices are those of each device.
use Rattle.std.proofs.Common.{◌≡◌, ◌++◌, nat_le, Bool, true, false, cond, List, [], ◌∷◌, map, refl, ap, ◌∙◌}
use Rattle.cct_audit_taps.specs.Taps.{Tap}
use Rattle.cct_monitor.specs.Watches.{Watch, accounts, by_address, from_begin, made_tap, made_watch, put_by_address, put_watch, taps_in, with_tap}

no_taps : (ws : List Watch) → taps_in (map made_watch ws) ≡ 0
no_taps [] = refl
no_taps (w ∷ ws) = no_taps ws

put_from : (w : Watch) (ws : List Watch) →
    put_by_address (from_begin [] w) (map (from_begin []) ws) ≡ map (from_begin []) (put_watch w ws)
put_from w [] = refl
put_from w (v ∷ vs) = by_test (nat_le w.addr v.addr) (put_from w vs)
  where
    by_test : (below : Bool) →
        put_by_address (from_begin [] w) (map (from_begin []) vs) ≡ map (from_begin []) (put_watch w vs) →
        cond below (from_begin [] w ∷ from_begin [] v ∷ map (from_begin []) vs)
        (from_begin [] v ∷ put_by_address (from_begin [] w) (map (from_begin []) vs))
        ≡ map (from_begin []) (cond below (w ∷ v ∷ vs) (v ∷ put_watch w vs))
    by_test true rest = refl
    by_test false rest = ap (λ xs. from_begin [] v ∷ xs) rest

watches_alone : (ws : List Watch) → accounts (map made_watch ws) ≡ map (from_begin []) (by_address ws)
watches_alone [] = refl
watches_alone (w ∷ ws) =
    ap (λ n. put_by_address (record { watch = w; before = n; taps = [] }) (accounts (map made_watch ws))) (no_taps ws)
    ∙ ap (put_by_address (from_begin [] w)) (watches_alone ws)
    ∙ put_from w (by_address ws)

tap_more : (t : Tap) (taps : List Tap) (ws : List Watch) →
    map (with_tap t) (map (from_begin taps) ws) ≡ map (from_begin (t ∷ taps)) ws
tap_more t taps [] = refl
tap_more t taps (w ∷ ws) = ap (λ xs. from_begin (t ∷ taps) w ∷ xs) (tap_more t taps ws)

pub from_the_begin : (ws : List Watch) (taps : List Tap) →
    accounts (map made_tap taps ++ map made_watch ws) ≡ map (from_begin taps) (by_address ws)
from_the_begin ws [] = watches_alone ws
from_the_begin ws (t ∷ taps) =
    ap (map (with_tap t)) (from_the_begin ws taps) ∙ tap_more t taps (by_address ws)
