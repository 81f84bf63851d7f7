-- What the words of a load say, and how many rounds.
use Rattle.std.proofs.Common.{◌≡◌, ◌≤◌, ◌&&◌, ℕ, Bool, true, false, List, [], ◌∷◌, Option, None, Some, codes, refl}
use Rattle.std.proofs.Common.{sym, subst, ◌∙◌}
use Rattle.std.specs.Prelude.{if◌then◌else◌, nat_le}
use Rattle.std.specs.Str.{bytes_eq}
use Rattle.std.proofs.lemmas.Bool.{leb-true}
use Rattle.cct_model.specs.Grammar.{◌>>=◌, alone, number_in, ranged, within}
use Rattle.cct_bench_words.specs.Grammar.{load_words, words_said}
use Rattle.cct_bench_words.specs.declared.words.Words.{Words}
use Rattle.cct_bench_words.specs.declared.words.Words.TheVariants as words

-- a number within a range is no greater than its end
picked_most : (a b : Bool) (n most r : ℕ) → (b ≡ true → n ≤ most) → (if a && b then Some n else None) ≡ Some r
    → r ≤ most
picked_most true true n most r low is = subst (λ k. k ≤ most) (same is) (low refl)
  where
    same : Some n ≡ Some r → n ≡ r
    same e = cc
picked_most true false n most r low is = cc is
picked_most false b n most r low is = cc is

behind_most : (found : Option ℕ) (least most r : ℕ) → (found >>= within least most) ≡ Some r → r ≤ most
behind_most None least most r is = cc is
behind_most (Some n) least most r is =
    picked_most (nat_le least n) (nat_le n most) n most r (leb-true n most) is

ranged_most : (least most : ℕ) (field : List ℕ) (r : ℕ) → ranged least most field ≡ Some r → r ≤ most
unfolding ranged
ranged_most least most field r is = behind_most (number_in field) least most r is

both_most : (seeds found : Option ℕ) (seed rounds : ℕ) → ((r : ℕ) → found ≡ Some r → r ≤ 10000)
    → (seeds >>= (λ s. found >>= (λ n. Some (words.Load s n)))) ≡ Some (words.Load seed rounds) → rounds ≤ 10000
both_most None found seed rounds most is = cc is
both_most (Some s) None seed rounds most is = cc is
both_most (Some s) (Some n) seed rounds most is = most rounds (same is)
  where
    same : Some (words.Load s n) ≡ Some (words.Load seed rounds) → Some n ≡ Some rounds
    same e = cc

load_most : (fields : List (List ℕ)) (seed rounds : ℕ) → load_words fields ≡ Some (words.Load seed rounds)
    → rounds ≤ 10000
unfolding load_words
load_most [] seed rounds is = cc is
load_most (s ∷ []) seed rounds is = cc is
load_most (s ∷ n ∷ []) seed rounds is =
    both_most (ranged 0 18446744073709551615 s) (ranged 1 10000 n) seed rounds (ranged_most 1 10000 n) is
load_most (s ∷ n ∷ field ∷ fields) seed rounds is = cc is

-- a word alone says no load, where it doesn't say one itself
alone_most : (said : Words) (fields : List (List ℕ)) (seed rounds : ℕ)
    → (said ≡ words.Load seed rounds → rounds ≤ 10000) → alone said fields ≡ Some (words.Load seed rounds) → rounds ≤ 10000
alone_most said [] seed rounds low is = low (same is)
  where
    same : Some said ≡ Some (words.Load seed rounds) → said ≡ words.Load seed rounds
    same e = cc
alone_most said (field ∷ fields) seed rounds low is = cc is

form_most : (run report upgrade audit check state load : Bool) (fields : List (List ℕ)) (seed rounds : ℕ)
    → (if run then alone words.Run fields else if report then alone words.Report fields
    else if upgrade then alone words.Upgrade fields else if audit then alone words.Audit fields
    else if check then alone words.Check fields else if state then alone words.State fields
    else if load then load_words fields else None)
    ≡ Some (words.Load seed rounds) → rounds ≤ 10000
form_most true report upgrade audit check state load fields seed rounds is =
    alone_most words.Run fields seed rounds (λ e. cc e) is
form_most false true upgrade audit check state load fields seed rounds is =
    alone_most words.Report fields seed rounds (λ e. cc e) is
form_most false false true audit check state load fields seed rounds is =
    alone_most words.Upgrade fields seed rounds (λ e. cc e) is
form_most false false false true check state load fields seed rounds is =
    alone_most words.Audit fields seed rounds (λ e. cc e) is
form_most false false false false true state load fields seed rounds is =
    alone_most words.Check fields seed rounds (λ e. cc e) is
form_most false false false false false true load fields seed rounds is =
    alone_most words.State fields seed rounds (λ e. cc e) is
form_most false false false false false false true fields seed rounds is = load_most fields seed rounds is
form_most false false false false false false false fields seed rounds is = cc is

-- the words of a load say no more rounds than a load may have
pub words_most : (list : List (List ℕ)) (seed rounds : ℕ) → words_said list ≡ Some (words.Load seed rounds)
    → rounds ≤ 10000
unfolding words_said
words_most [] seed rounds is = cc is
words_most (verb ∷ fields) seed rounds is =
    form_most (bytes_eq verb (codes "run")) (bytes_eq verb (codes "report")) (bytes_eq verb (codes "upgrade"))
    (bytes_eq verb (codes "audit")) (bytes_eq verb (codes "check")) (bytes_eq verb (codes "state"))
    (bytes_eq verb (codes "load")) fields seed rounds is

-- what holds of the load that words say holds of any that they say
pub load_said : (said : Option Words) (seed rounds : ℕ) (P : ℕ → ℕ → Type 0) → said ≡ Some (words.Load seed rounds)
    → P seed rounds → (seed1 rounds1 : ℕ) → said ≡ Some (words.Load seed1 rounds1) → P seed1 rounds1
load_said said seed rounds P is holds seed1 rounds1 is1 =
    subst (λ n. P n rounds1) (seeds (sym is ∙ is1)) (subst (P seed) (numbers (sym is ∙ is1)) holds)
  where
    seeds : Some (words.Load seed rounds) ≡ Some (words.Load seed1 rounds1) → seed ≡ seed1
    seeds e = cc

    numbers : Some (words.Load seed rounds) ≡ Some (words.Load seed1 rounds1) → rounds ≡ rounds1
    numbers e = cc
