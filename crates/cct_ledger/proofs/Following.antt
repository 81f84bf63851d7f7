-- Which records a ledger takes, beside which follow.
use Rattle.std.proofs.Common.{◌≡◌, ℕ, ◌&&◌, nat_le, Bool, true, false, List, refl, ap, arith}
use Rattle.std.proofs.lemmas.Bool.{and_parts}
use Rattle.cct_model.specs.terms.device.Setup.{Setup}
use Rattle.cct_model.specs.lines.record.Record.{Record}
use Rattle.cct_model.specs.lines.record.Record.TheVariants.{Opened, Closed, Odd, Sold}
use Rattle.cct_model.specs.Money.{coins_of, available_in, available_beside}
use Rattle.cct_model.specs.Following.{follows, is_allowed}
use Rattle.cct_ledger.specs.Told.{is_of_money}

-- nothing is reserved
nothing_beside : (setup : Setup) (before : List Record) → available_beside setup before 0 ≡ available_in setup before
nothing_beside setup before = omega arith

-- a test that is made twice
twice : (first second third : Bool) → third ≡ second → ((first && second) && third) ≡ (first && second)
twice true true third same = same
twice true false third same = refl
twice false second third same = refl

pub allowed_alone : (setup : Setup) (before : List Record) (r : Record) → is_of_money r ≡ true →
    is_allowed setup before 0 r ≡ follows setup before r
allowed_alone setup before (Opened id addr count life) moves =
    twice _ _ _ (ap (nat_le (coins_of setup addr count)) (nothing_beside setup before))
allowed_alone setup before (Closed id paid unpaid) moves = refl
allowed_alone setup before (Odd id life_before life_after) moves = refl
allowed_alone setup before (Sold id price) moves = twice _ _ _ (ap (nat_le price) (nothing_beside setup before))
allowed_alone setup before r moves = absurd cc

pub allowed_follows : (setup : Setup) (before : List Record) (beside : ℕ) (r : Record) → is_of_money r ≡ true →
    is_allowed setup before beside r ≡ true → follows setup before r ≡ true
allowed_follows setup before beside (Opened id addr count life) moves allowed = (and_parts _ _ allowed).0
allowed_follows setup before beside (Closed id paid unpaid) moves allowed = allowed
allowed_follows setup before beside (Odd id life_before life_after) moves allowed = allowed
allowed_follows setup before beside (Sold id price) moves allowed = (and_parts _ _ allowed).0
allowed_follows setup before beside r moves allowed = absurd cc
