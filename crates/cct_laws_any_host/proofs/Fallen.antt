-- What is said of a hopper is true: as many coins fell between two life counts as they show.
use Rattle.std.proofs.Common.{◌≡◌, ℕ, suc, ◌+◌, ◌<◌, ◌≤◌, List, [], ◌∷◌, length, refl, sym, subst, arith, Option, Some, None, All}
use Rattle.std.specs.Prelude.{◌%◌, ◌^◌, ⊤}
use Rattle.std.proofs.lemmas.List.Elements.{All-append, All-cons, All-nil}
use Rattle.cct_audit_taps.specs.declared.said.Said.{Said}
use Rattle.cct_audit_taps.specs.declared.said.Said.TheVariants.{Sure, Quiet, Doubt, Fell, Broken}
use Rattle.cct_model.specs.Order.{life_between}
use Rattle.cct_monitor.specs.declared.hopper.LastLife.{LastLife}
use Rattle.cct_monitor.specs.Lives.{fell_at, fell_by, last_life}
use Rattle.cct_laws_any_host.specs.Claims.{all_fell}

-- a life count that is shown is that of a hopper whose count started at a number, out of which so many coins fell
abbrev pub ShowsLife : ℕ → Option ℕ → ℕ → Type 0
ShowsLife start None fallen = ⊤
ShowsLife start (Some count) fallen = count ≡ (start + fallen) % 2 ^ 24

-- taps that showed these, newest first, were made when so many coins had fallen, by their numbers, and so many have now
abbrev pub LifeRuns : (ℕ → ℕ) → ℕ → List (Option ℕ) → ℕ → Type 0
LifeRuns at start [] now = ⊤
LifeRuns at start (s ∷ past) now =
    ShowsLife start s (at (suc (length past))) × (at (suc (length past)) ≤ now)
    × LifeRuns at start past (at (suc (length past)))

pub lives_same : (at other : ℕ → ℕ) (start : ℕ) (shows : List (Option ℕ)) (now : ℕ) →
    ((n : ℕ) → n ≤ length shows → other n ≡ at n) → LifeRuns at start shows now → LifeRuns other start shows now
lives_same at other start [] now same runs = tt
lives_same at other start (s ∷ past) now same runs =
    let here = same (suc (length past)) (omega arith) in
    let rest = lives_same at other start past (at (suc (length past))) (λ n most. same n (omega (arith, most))) runs.2 in (
      subst (ShowsLife start s) (sym here) runs.0,
      subst (λ n. n ≤ now) (sym here) runs.1,
      subst (LifeRuns other start past) (sym here) rest,
    )

-- more have fallen now
pub lives_on : (at : ℕ → ℕ) (start : ℕ) (shows : List (Option ℕ)) (now later : ℕ) → now ≤ later →
    LifeRuns at start shows now → LifeRuns at start shows later
lives_on at start [] now later more runs = tt
lives_on at start (s ∷ past) now later more runs = (runs.0, omega (arith, runs.1, more), runs.2)

-- the last life count
record LifeIn (at : ℕ → ℕ) (start now : ℕ) (life : LastLife) : Type 0 where
  count_is : life.count ≡ (start + at life.number) % 2 ^ 24
  before : at life.number ≤ now

abbrev IfLife : (ℕ → ℕ) → ℕ → ℕ → Option LastLife → Type 0
IfLife at start now None = ⊤
IfLife at start now (Some life) = LifeIn at start now life

if_later : (at : ℕ → ℕ) (start now later : ℕ) (found : Option LastLife) → now ≤ later → IfLife at start now found →
    IfLife at start later found
if_later at start now later None more is = tt
if_later at start now later (Some life) more is =
    record { count_is = is.count_is; before = omega (arith, is.before, more) }

last_in : (at : ℕ → ℕ) (start : ℕ) (shows : List (Option ℕ)) (now : ℕ) → LifeRuns at start shows now →
    IfLife at start now (last_life shows)
last_in at start [] now runs = tt
last_in at start (Some count ∷ past) now runs = record { count_is = runs.0; before = runs.1 }
last_in at start (None ∷ past) now runs =
    if_later at start (at (suc (length past))) now (last_life past) runs.1
    (last_in at start past (at (suc (length past))) runs.2)

-- the counts of two moments say how many fell between them
pub since_exact : (start first last before now : ℕ) → before ≡ (start + first) % 2 ^ 24 →
    now ≡ (start + last) % 2 ^ 24 → first ≤ last → last < first + 2 ^ 24 → last ≡ life_between before now + first
unfolding life_between
since_exact start first last before now was is more near = omega (arith, was, is, more, near)

-- what is said of the hopper at an address is true
abbrev pub HoldsFell : (ℕ → ℕ) → ℕ → Said → Type 0
HoldsFell at addr (Sure there first last coins) = ⊥
HoldsFell at addr (Quiet there first last coins) = ⊥
HoldsFell at addr (Doubt there first last) = ⊤
HoldsFell at addr (Fell there first last count) =
    (there ≡ addr) × (at last < at first + 2 ^ 24 → at last ≡ count + at first)
HoldsFell at addr (Broken there premise first last) = ⊥

fell_holds : (at : ℕ → ℕ) (start addr number : ℕ) (s : Option ℕ) (found : Option LastLife) →
    ShowsLife start s (at number) → IfLife at start (at number) found →
    All (HoldsFell at addr) (fell_by addr number s found)
fell_holds at start addr number (Some now) (Some life) shows is =
    All-cons (HoldsFell at addr) (Fell addr life.number number (life_between life.count now)) []
    (refl, λ near. since_exact start (at life.number) (at number) life.count now is.count_is shows is.before near)
    (All-nil (HoldsFell at addr))
fell_holds at start addr number (Some now) None shows is = All-nil (HoldsFell at addr)
fell_holds at start addr number None found shows is = All-nil (HoldsFell at addr)

pub fell_true : (at : ℕ → ℕ) (start addr : ℕ) (shows : List (Option ℕ)) (now : ℕ) → LifeRuns at start shows now →
    All (HoldsFell at addr) (all_fell addr shows)
fell_true at start addr [] now runs = All-nil (HoldsFell at addr)
fell_true at start addr (s ∷ past) now runs =
    let number = suc (length past) in
    All-append (HoldsFell at addr) (all_fell addr past) (fell_at addr s past)
    (fell_true at start addr past (at number) runs.2)
    (fell_holds at start addr number s (last_life past) runs.0 (last_in at start past (at number) runs.2))
