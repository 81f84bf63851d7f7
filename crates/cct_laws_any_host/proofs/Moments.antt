-- What is so of an acceptor at a moment, and how it stands to a later one: what Sure rests on, without entries or bytes.
use Rattle.std.proofs.Common.{◌≡◌, ◌≢◌, ℕ, suc, ◌+◌, ◌≤◌, false, List, [], ◌∷◌, ◌++◌, length, refl, sym, ap, ◌∙◌, subst, arith, length-append, append_assoc}
use Rattle.std.specs.Prelude.{⊤}
use Rattle.cct_model.specs.terms.coin.Pair.{Pair}
use Rattle.cct_model.specs.terms.coin.Coin.{Coin}
use Rattle.cct_model.specs.Acceptor.{credits_in}
use Rattle.cct_model.specs.Reading.{coins_among}
use Rattle.cct_audit_taps.specs.declared.shown.Shown.{Shown}
use Rattle.cct_audit_taps.specs.declared.shown.Shown.TheVariants.{Read, Masked, Set, Nothing}
use Rattle.cct_monitor.specs.Spans.{is_set}
use Rattle.cct_laws.proofs.acceptor.NewestEvents.{coins_among-append}

-- the inhibit mask, the events since the last reset, all coins ever accepted, newest first, and how many pieces ever came
pub record World : Type 0 where
  pub mask : ℕ
  pub events : List Pair
  pub coins : List Coin
  pub came : ℕ

-- some coin was let in at the earlier moment, and all that came since are events
pub record Behind (w v : World) : Type 0 where
  pub masked : w.mask ≢ 0
  pub new : List Pair
  pub events_are : v.events ≡ new ++ w.events
  pub coins_are : v.coins ≡ coins_among new ++ w.coins
  pub came_are : v.came ≡ length new + w.came

-- this is so where some coin is let in at the later one
abbrev pub Quiet : World → World → Type 0
Quiet w v = v.mask ≢ 0 → Behind w v

pub quiet_refl : (w : World) → Quiet w w
quiet_refl w masked = record {
  masked = masked;
  new = [];
  events_are = refl;
  coins_are = refl;
  came_are = omega arith;
}

pub behind_then : (w v u : World) → Behind w v → Behind v u → Behind w u
behind_then w v u first last = record {
  masked = first.masked;
  new = last.new ++ first.new;
  events_are = last.events_are ∙ ap (λ es. last.new ++ es) first.events_are
      ∙ sym (append_assoc last.new first.new w.events);
  coins_are = last.coins_are ∙ ap (λ cs. coins_among last.new ++ cs) first.coins_are
      ∙ sym (append_assoc (coins_among last.new) (coins_among first.new) w.coins)
      ∙ ap (λ cs. cs ++ w.coins) (sym (coins_among-append last.new first.new));
  came_are = omega (arith, last.came_are, first.came_are, length-append last.new first.new);
}

pub quiet_then : (w v u : World) → Quiet w v → Quiet v u → Quiet w u
quiet_then w v u before since masked =
    let last = since masked in behind_then w v u (before last.masked) last

-- what a tap shows is what the acceptor was before it
abbrev pub Shows : Shown → World → Type 0
Shows (Read c) w = c ≡ credits_in w.events
Shows (Masked mask) w = mask ≡ w.mask
Shows Set w = ⊤
Shows Nothing w = ⊤

-- taps that showed this, newest first, were made at these moments, by their numbers, and this moment comes after them
abbrev pub Runs : (ℕ → World) → List Shown → World → Type 0
Runs at [] now = ⊤
Runs at (s ∷ past) now =
    Shows s (at (suc (length past))) × (is_set s ≡ false → Quiet (at (suc (length past))) now)
    × Runs at past (at (suc (length past)))

-- moments under other numbers are these where they are the same for all taps that came
pub runs_same : (at other : ℕ → World) (shows : List Shown) (now : World) →
    ((n : ℕ) → n ≤ length shows → other n ≡ at n) → Runs at shows now → Runs other shows now
runs_same at other [] now same runs = tt
runs_same at other (s ∷ past) now same runs =
    let here = same (suc (length past)) (omega arith) in
    let rest = runs_same at other past (at (suc (length past))) (λ n most. same n (omega (arith, most))) runs.2 in (
      subst (Shows s) (sym here) runs.0,
      λ unset. subst (λ w. Quiet w now) (sym here) (runs.1 unset),
      subst (Runs other past) (sym here) rest,
    )
