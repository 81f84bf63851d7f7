-- What is reported after an attempt, by whether its exchange was forged.
use Rattle.std.proofs.Common.{◌≡◌, ℕ, Bool, true, false, List, [], ◌∷◌, ◌++◌, reverse, refl, sym, ap, ◌∙◌, subst, Option, Some, None}
use Rattle.std.proofs.lemmas.List.{reverse-reverse}
use Rattle.std.specs.Prelude.{not, if◌then◌else◌}
use Rattle.cct_model.specs.lines.entry.Entry.{Entry}
use Rattle.cct_model.specs.lines.entry.Entry.TheVariants as entry
use Rattle.cct_model.specs.Honest.{forged_after, is_honest, was_forged}
use Rattle.cct_model.specs.Transcript.{pending}
use Rattle.cct_bus.specs.declared.bus.Bus.{Bus}
use Rattle.cct_bus.specs.Bus as wires
use Rattle.cct_host.specs.Attempt.{Attempt, asked, idle, news_of, put}
use Rattle.cct_world.specs.Forged.{TellsForged, asked_at, forged_told}

-- the address of the exchange of an attempt, or none
abbrev pub asked_by : ℕ → Attempt → Option ℕ
asked_by addr (asked sent heard end) = Some addr
asked_by addr what = None

-- the entries of an attempt, newest first, and before them the one that says that its exchange was forged
abbrev pub all_told : Bool → ℕ → Attempt → List Entry
all_told was addr what = forged_told was (asked_by addr what) ++ news_of addr what

-- a report of an attempt, and what is reported after it
reported : (was : Bool) (addr : ℕ) (what : Attempt) →
    let report = reverse (news_of addr what) in
    reverse (report ++ forged_told was (asked_at report)) ≡ all_told was addr what
reported was addr idle = refl
reported true addr (asked sent heard None) = refl
reported false addr (asked sent heard None) = refl
reported true addr (asked sent heard (Some end)) = refl
reported false addr (asked sent heard (Some end)) = refl
reported was addr (put r None) = refl
reported was addr (put r (Some end)) = refl

pub told_are : {bus : Bus} (before report told : List Entry) (addr : ℕ) (what : Attempt) → before ≡ []
    → report ≡ before ++ reverse (news_of addr what) → (tells : TellsForged bus report told)
    → reverse told ≡ all_told tells.was addr what
told_are before report told addr what none is tells =
    let first : report ≡ reverse (news_of addr what) = is ∙ ap (λ es. es ++ reverse (news_of addr what)) none in
    ap reverse (tells.told_is ∙ ap (λ es. es ++ forged_told tells.was (asked_at es)) first) ∙ reported tells.was addr what

-- it is reported just where the exchange was forged
by_honest : (honest : Bool) (addr : ℕ)
    → forged_told (not honest) (Some addr) ≡ (if honest then [] else entry.Forged addr ∷ [])
by_honest true addr = refl
by_honest false addr = refl

pub told_rightly : (past : List Entry) (addr : ℕ) (what : Attempt)
    → forged_told (was_forged (news_of addr what ++ past)) (asked_by addr what) ≡ forged_after past (news_of addr what)
told_rightly past addr idle = refl
told_rightly past addr (asked sent heard None) = by_honest (is_honest (pending past) sent) addr
told_rightly past addr (asked sent heard (Some end)) = by_honest (is_honest (pending past) sent) addr
told_rightly past addr (put r None) = refl
told_rightly past addr (put r (Some end)) = refl
