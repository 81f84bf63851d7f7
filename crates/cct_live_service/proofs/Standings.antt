-- Devices are reported as they stand, with the bills that are held.
use Rattle.std.proofs.Common.{ℕ, List, [], ◌∷◌, ◌++◌, Option, Some, None, refl, sym, subst}
use Rattle.std.specs.List.{All}
use Rattle.std.proofs.lemmas.List.{map-append}
use Rattle.std.proofs.lemmas.List.Elements.{All-head, All-tail}
use Rattle.cct_live_service.specs.declared.notice.Notice.{Notice}
use Rattle.cct_live_service.specs.declared.watch.Watch.{Watch}
use Rattle.cct_live_service.specs.Linked.{AreStanding, due_next}
use Rattle.cct_live_service.specs.Status.{HoldsAs, Stand, end_notices, held_notices, stand_notices, stands_notices}
use Rattle.cct_live_service.specs.Told.{Told, notice, notices_told}

-- devices as they stand, and then more
standing_then : (w : Watch) (due : List Notice) (t1 t2 : List Told) → AreStanding w due t1 → AreStanding w [] t2 →
    AreStanding w due (t1 ++ t2)
standing_then w due [] t2 h k = subst (λ d. AreStanding w d t2) (sym h) k
standing_then w due (notice n ∷ t1) t2 h k = (h.0, standing_then w (due_next w due (notice n)) t1 t2 h.1 k)
standing_then w due (what ∷ t1) t2 h k = absurd h

held_stands : (w : Watch) (addr : ℕ) (held : Option ℕ) → AreStanding w (held_notices addr held)
    (notices_told (held_notices addr held))
held_stands w addr None = refl
held_stands w addr (Some place) = (refl, refl)

stand_stands : (w : Watch) (s : Stand) → HoldsAs w s → AreStanding w [] (notices_told (stand_notices s))
stand_stands w s is = (
  tt,
  subst (λ held. AreStanding w (held_notices s.addr held) (notices_told (held_notices s.addr s.held))) is
      (held_stands w s.addr s.held),
)

pub stands_stand : (w : Watch) (stands : List Stand) → All (HoldsAs w) stands →
    AreStanding w [] (notices_told (stands_notices stands))
stands_stand w [] h = refl
stands_stand w (s ∷ stands) h =
    subst (AreStanding w []) (sym (map-append (λ n. notice n) (stand_notices s) (stands_notices stands)))
    (standing_then w [] (notices_told (stand_notices s)) (notices_told (stands_notices stands))
    (stand_stands w s (All-head (HoldsAs w) s stands h)) (stands_stand w stands (All-tail (HoldsAs w) s stands h)))

-- and then the last id and the room
pub status_stands : (w : Watch) (stands : List Stand) (id records : ℕ) → All (HoldsAs w) stands →
    AreStanding w [] (notices_told (stands_notices stands ++ end_notices id records))
status_stands w stands id records h =
    subst (AreStanding w []) (sym (map-append (λ n. notice n) (stands_notices stands) (end_notices id records)))
    (standing_then w [] (notices_told (stands_notices stands)) (notices_told (end_notices id records))
    (stands_stand w stands h) (tt, (tt, refl)))
