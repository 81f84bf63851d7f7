-- What the parser makes of words, against what they say.
use Rattle.std.proofs.Common.{◌≡◌, ◌≢◌, ◌∙◌, inl, inr, ℕ, ◌||◌, Bool, true, false, refl, sym, ap, subst, List, []}
use Rattle.std.proofs.Common.{◌∷◌, Option, Some, None, Result, Ok, Err, IfOk, codes, if◌then◌else◌}
use Rattle.std.specs.List.{list_any}
use Rattle.std.specs.Option.{ok_or}
use Rattle.std.specs.Str.{bytes_eq}
use Rattle.std.specs.Cmp.Lexicographic.{bytes_decides}
use Rattle.std.proofs.lemmas.Bool.{false_from_ne_true, eqb-true}
use Rattle.clap.specs.Faults.{fault_of, is_free_app, is_simple_and_free}
use Rattle.clap.specs.Kinds.{HasKind, IsAmong, Kinds}
use Rattle.clap.specs.Simple.{App, built, is_simple, subcommand_of}
use Rattle.clap.specs.Values.{kind_of}
use Rattle.clap.specs.Walk.{Row, Text}
use Rattle.clap.specs.declared.error.Error.{Error}
use Rattle.clap.specs.declared.error.kind.ErrorKind.{ErrorKind}
use Rattle.clap.specs.declared.error.kind.ErrorKind.TheVariants.{OutOfMemory}
use Rattle.clap.proofs.WalkLemmas.{both}
use Rattle.cct_model_lines.specs.Grammar.{◌>>=◌, ranged}
use Rattle.cct_bench_words.specs.Command.{words_app}
use Rattle.cct_bench_words.specs.Grammar.{load_words, words_said}
use Rattle.cct_bench_words.specs.Said.{is_dashed, said_under}
use Rattle.cct_bench_words.specs.declared.words.Words.{Words}
use Rattle.cct_bench_words.specs.declared.words.WordsNo.{WordsNo}
use Rattle.cct_bench_words.specs.declared.words.WordsNo.TheVariants.{Refused}
use Rattle.cct_bench_words.proofs.Walks.{EntersBare, bare_met, entering_audit, entering_load, entering_report, entering_run, entering_upgrade}
use Rattle.cct_bench_words.proofs.Walks.{entering_check, entering_state}
use Rattle.cct_bench_words.proofs.Walks.{load_more, load_none, load_one}
use Rattle.cct_bench_words.proofs.Walks.{load_rows, load_two, none_given, nothing_behind, other_given, something_behind}
use Rattle.cct_bench_words.proofs.Walks.{words_simple}

-- What is said where there is no fault is what the words say, and where there is one they say nothing.
record Agrees (kinds : Kinds) (met : Option (Text × List Row)) (words : List Text) : Type 0 where
  taken : kinds ≡ [] → said_under met ≡ words_said words
  refused : kinds ≢ [] → words_said words ≡ None

refusal : (kind : ErrorKind) (kinds : Kinds) (met : Option (Text × List Row)) (words : List Text)
    → words_said words ≡ None → Agrees (kind ∷ kinds) met words
refusal kind kinds met words none = record { taken = λ no_fault. absurd (clash no_fault); refused = λ fault. none }
  where
    clash : kind ∷ kinds ≡ [] → ⊥
    clash e = cc

reading : (met : Option (Text × List Row)) (words : List Text) → said_under met ≡ words_said words → Agrees [] met words
reading met words same = record { taken = λ no_fault. same; refused = λ fault. absurd (fault refl) }

-- Words agree with what the parser makes of them.
abbrev IsParsed : List Text → Type 0
IsParsed words = Agrees (fault_of words_app words) (subcommand_of words_app words) words

parsed_as : (words : List Text) (kinds : Kinds) (met : Option (Text × List Row)) → fault_of words_app words ≡ kinds
    → subcommand_of words_app words ≡ met
    → Agrees kinds met words → IsParsed words
parsed_as words kinds met faults meets agrees =
    subst (λ (k : Kinds). Agrees k (subcommand_of words_app words) words) (sym faults)
    (subst (λ (m : Option (Text × List Row)). Agrees kinds m words) (sym meets) agrees)

neither : (a b : Bool) → (a || b) ≡ false → (a ≡ false) × (b ≡ false)
neither true b e = absurd (clash e)
  where
    clash : true ≡ false → ⊥
    clash e = cc
neither false b e = (refl, e)

-- a subcommand without arguments is taken alone, and refused before any word
bare_parsed : (name : Text) → EntersBare name → said_under (bare_met name []) ≡ words_said (name ∷ [])
    → ((word : Text) (words : List Text) → words_said (name ∷ word ∷ words) ≡ None)
    → (words : List Text) → list_any is_dashed words ≡ false → IsParsed (name ∷ words)
bare_parsed name enters said none [] plain =
    let entered = enters [] in
    parsed_as (name ∷ []) [] _ (entered.0 ∙ nothing_behind name) entered.1 (reading _ _ said)
bare_parsed name enters said none (word ∷ words) plain =
    let entered = enters (word ∷ words) in
    parsed_as (name ∷ word ∷ words) _ _
    (entered.0 ∙ something_behind name word words (neither _ _ plain).0) entered.1
    (refusal _ _ _ _ (none word words))

run_parsed : (words : List Text) → list_any is_dashed words ≡ false → IsParsed (codes "run" ∷ words)
unfolding words_said said_under
run_parsed = bare_parsed (codes "run") entering_run refl (λ word words. refl)

report_parsed : (words : List Text) → list_any is_dashed words ≡ false → IsParsed (codes "report" ∷ words)
unfolding words_said said_under
report_parsed = bare_parsed (codes "report") entering_report refl (λ word words. refl)

upgrade_parsed : (words : List Text) → list_any is_dashed words ≡ false → IsParsed (codes "upgrade" ∷ words)
unfolding words_said said_under
upgrade_parsed = bare_parsed (codes "upgrade") entering_upgrade refl (λ word words. refl)

audit_parsed : (words : List Text) → list_any is_dashed words ≡ false → IsParsed (codes "audit" ∷ words)
unfolding words_said said_under
audit_parsed = bare_parsed (codes "audit") entering_audit refl (λ word words. refl)

check_parsed : (words : List Text) → list_any is_dashed words ≡ false → IsParsed (codes "check" ∷ words)
unfolding words_said said_under
check_parsed = bare_parsed (codes "check") entering_check refl (λ word words. refl)

state_parsed : (words : List Text) → list_any is_dashed words ≡ false → IsParsed (codes "state" ∷ words)
unfolding words_said said_under
state_parsed = bare_parsed (codes "state") entering_state refl (λ word words. refl)

load_parsed : (words : List Text) → list_any is_dashed words ≡ false → IsParsed (codes "load" ∷ words)
unfolding words_said said_under load_words
load_parsed [] plain =
    let entered = entering_load [] in
    parsed_as (codes "load" ∷ []) _ _ (entered.0 ∙ load_none) entered.1 (refusal _ _ _ _ refl)
load_parsed (seed ∷ []) plain =
    let entered = entering_load (seed ∷ []) in
    parsed_as (codes "load" ∷ seed ∷ []) _ _
    (entered.0 ∙ load_one seed (neither _ _ plain).0) entered.1 (refusal _ _ _ _ refl)
load_parsed (seed ∷ rounds ∷ []) plain =
    let entered = entering_load (seed ∷ rounds ∷ []) in
    let one = neither _ _ plain in
    let two = neither _ _ one.1 in
    parsed_as (codes "load" ∷ seed ∷ rounds ∷ []) [] _ (entered.0 ∙ load_two seed rounds one.0 two.0)
    (entered.1 ∙ ap (λ (met : Text × List Row). Some met) (load_rows seed rounds one.0 two.0)) (reading _ _ refl)
load_parsed (seed ∷ rounds ∷ word ∷ words) plain =
    let entered = entering_load (seed ∷ rounds ∷ word ∷ words) in
    let one = neither _ _ plain in
    let two = neither _ _ one.1 in
    let three = neither _ _ two.1 in
    parsed_as (codes "load" ∷ seed ∷ rounds ∷ word ∷ words) _ _
    (entered.0 ∙ load_more seed rounds one.0 two.0 word words three.0) entered.1
    (refusal _ _ _ _ refl)

not_so : (xs ys : List ℕ) → bytes_eq xs ys ≡ false → bytes_eq ys xs ≡ false
not_so xs ys e = false_from_ne_true (bytes_eq ys xs)
    (λ same. clash (sym ((bytes_decides xs ys).1 (sym ((bytes_decides ys xs).0 same))) ∙ e))
  where
    clash : true ≡ false → ⊥
    clash e = cc

-- the first word names a subcommand or none
module _ (verb : Text) (words : List Text) (plain : is_dashed verb ≡ false)
    (plain_rest : list_any is_dashed words ≡ false) where
  by_load : (b : Bool) → bytes_eq (codes "run") verb ≡ false → bytes_eq (codes "report") verb ≡ false
      → bytes_eq (codes "upgrade") verb ≡ false → bytes_eq (codes "audit") verb ≡ false
      → bytes_eq (codes "check") verb ≡ false → bytes_eq (codes "state") verb ≡ false
      → bytes_eq (codes "load") verb ≡ b → IsParsed (verb ∷ words)
  unfolding words_said
  by_load true not_run not_report not_upgrade not_audit not_check not_state is = subst (λ (v : Text). IsParsed (v ∷ words))
      ((bytes_decides (codes "load") verb).0 is) (load_parsed words plain_rest)
  by_load false not_run not_report not_upgrade not_audit not_check not_state not_load =
      parsed_as (verb ∷ words) _ _ (other_given verb words plain not_run not_report not_upgrade not_audit not_check not_state
      not_load) refl
      (refusal _ _ _ _
      (rw (
        not_so (codes "run") verb not_run,
        not_so (codes "report") verb not_report,
        not_so (codes "upgrade") verb not_upgrade,
        not_so (codes "audit") verb not_audit,
        not_so (codes "check") verb not_check,
        not_so (codes "state") verb not_state,
        not_so (codes "load") verb not_load,
      ) refl))

  by_state : (b : Bool) → bytes_eq (codes "run") verb ≡ false → bytes_eq (codes "report") verb ≡ false
      → bytes_eq (codes "upgrade") verb ≡ false → bytes_eq (codes "audit") verb ≡ false
      → bytes_eq (codes "check") verb ≡ false → bytes_eq (codes "state") verb ≡ b → IsParsed (verb ∷ words)
  by_state true not_run not_report not_upgrade not_audit not_check is = subst (λ (v : Text). IsParsed (v ∷ words))
      ((bytes_decides (codes "state") verb).0 is) (state_parsed words plain_rest)
  by_state false not_run not_report not_upgrade not_audit not_check not_state =
      by_load (bytes_eq (codes "load") verb) not_run not_report not_upgrade not_audit not_check not_state refl

  by_check : (b : Bool) → bytes_eq (codes "run") verb ≡ false → bytes_eq (codes "report") verb ≡ false
      → bytes_eq (codes "upgrade") verb ≡ false → bytes_eq (codes "audit") verb ≡ false
      → bytes_eq (codes "check") verb ≡ b → IsParsed (verb ∷ words)
  by_check true not_run not_report not_upgrade not_audit is = subst (λ (v : Text). IsParsed (v ∷ words))
      ((bytes_decides (codes "check") verb).0 is) (check_parsed words plain_rest)
  by_check false not_run not_report not_upgrade not_audit not_check =
      by_state (bytes_eq (codes "state") verb) not_run not_report not_upgrade not_audit not_check refl

  by_audit : (b : Bool) → bytes_eq (codes "run") verb ≡ false → bytes_eq (codes "report") verb ≡ false
      → bytes_eq (codes "upgrade") verb ≡ false → bytes_eq (codes "audit") verb ≡ b → IsParsed (verb ∷ words)
  by_audit true not_run not_report not_upgrade is = subst (λ (v : Text). IsParsed (v ∷ words))
      ((bytes_decides (codes "audit") verb).0 is) (audit_parsed words plain_rest)
  by_audit false not_run not_report not_upgrade not_audit =
      by_check (bytes_eq (codes "check") verb) not_run not_report not_upgrade not_audit refl

  by_upgrade : (b : Bool) → bytes_eq (codes "run") verb ≡ false → bytes_eq (codes "report") verb ≡ false
      → bytes_eq (codes "upgrade") verb ≡ b → IsParsed (verb ∷ words)
  by_upgrade true not_run not_report is = subst (λ (v : Text). IsParsed (v ∷ words))
      ((bytes_decides (codes "upgrade") verb).0 is) (upgrade_parsed words plain_rest)
  by_upgrade false not_run not_report not_upgrade =
      by_audit (bytes_eq (codes "audit") verb) not_run not_report not_upgrade refl

  by_report : (b : Bool) → bytes_eq (codes "run") verb ≡ false → bytes_eq (codes "report") verb ≡ b
      → IsParsed (verb ∷ words)
  by_report true not_run is = subst (λ (v : Text). IsParsed (v ∷ words)) ((bytes_decides (codes "report") verb).0 is)
      (report_parsed words plain_rest)
  by_report false not_run not_report = by_upgrade (bytes_eq (codes "upgrade") verb) not_run not_report refl

  by_run : (b : Bool) → bytes_eq (codes "run") verb ≡ b → IsParsed (verb ∷ words)
  by_run true is = subst (λ (v : Text). IsParsed (v ∷ words)) ((bytes_decides (codes "run") verb).0 is)
      (run_parsed words plain_rest)
  by_run false not_run = by_report (bytes_eq (codes "report") verb) not_run refl

parsed : (words : List Text) → list_any is_dashed words ≡ false → IsParsed words
unfolding words_said
parsed [] plain = parsed_as [] _ _ none_given refl (refusal _ _ _ _ refl)
parsed (verb ∷ words) plain =
    let here = neither _ _ plain in by_run verb words here.0 here.1 (bytes_eq (codes "run") verb) refl

-- ---- words with a hyphen in front

no_number : (least most : ℕ) (word : Text) → is_dashed word ≡ true → ranged least most word ≡ None
unfolding ranged
no_number least most [] dashed = absurd (clash dashed)
  where
    clash : false ≡ true → ⊥
    clash e = cc
no_number least most (byte ∷ bytes) dashed =
    subst (λ (x : ℕ). ranged least most (x ∷ bytes) ≡ None) (sym (eqb-true byte 45 dashed)) (hyphen bytes)
  where
    hyphen : (xs : List ℕ) → ranged least most (45 ∷ xs) ≡ None
    hyphen [] = refl
    hyphen (x ∷ xs) = refl

none_behind : {A B : Type 0} (o : Option A) (f : A → Option B) → ((x : A) → f x ≡ None) → (o >>= f) ≡ None
none_behind None f none = refl
none_behind (Some x) f none = none x

no_load : (words : List Text) → list_any is_dashed words ≡ true → load_words words ≡ None
unfolding load_words
no_load [] dashed = refl
no_load (seed ∷ []) dashed = refl
no_load (seed ∷ rounds ∷ []) dashed = by_seed (is_dashed seed) refl
  where
    clash : false ≡ true → ⊥
    clash e = cc

    by_rounds : (b : Bool) → is_dashed rounds ≡ b → is_dashed seed ≡ false → load_words (seed ∷ rounds ∷ []) ≡ None
    by_rounds true is not_seed = none_behind (ranged 0 18446744073709551615 seed) _
        (λ n. rw (no_number 1 10000 rounds is) refl)
    by_rounds false is_not not_seed = absurd (clash (sym (rw (not_seed, is_not) refl) ∙ dashed))

    by_seed : (b : Bool) → is_dashed seed ≡ b → load_words (seed ∷ rounds ∷ []) ≡ None
    by_seed true is = rw (no_number 0 18446744073709551615 seed is) refl
    by_seed false is_not = by_rounds (is_dashed rounds) refl is_not
no_load (seed ∷ rounds ∷ word ∷ words) dashed = refl

-- a form by its name says nothing where what is after the name doesn't
no_form : (is_run is_report is_upgrade is_audit is_check is_state is_load : Bool) (said : Option Words) → said ≡ None
    → (if is_run then None else if is_report then None else if is_upgrade then None else if is_audit then None
    else if is_check then None else if is_state then None else if is_load then said else None)
    ≡ None
no_form true is_report is_upgrade is_audit is_check is_state is_load said none = refl
no_form false true is_upgrade is_audit is_check is_state is_load said none = refl
no_form false false true is_audit is_check is_state is_load said none = refl
no_form false false false true is_check is_state is_load said none = refl
no_form false false false false true is_state is_load said none = refl
no_form false false false false false true is_load said none = refl
no_form false false false false false false true said none = none
no_form false false false false false false false said none = refl

-- words of which one begins with a hyphen say nothing
pub dashed_none : (words : List Text) → list_any is_dashed words ≡ true → words_said words ≡ None
unfolding words_said
dashed_none [] dashed = refl
dashed_none (verb ∷ words) dashed = by_verb (is_dashed verb) refl
  where
    clash : false ≡ true → ⊥
    clash e = cc

    hyphen : (v : Text) → is_dashed v ≡ true → words_said (v ∷ words) ≡ None
    hyphen [] e = absurd (clash e)
    hyphen (byte ∷ bytes) e =
        subst (λ (x : ℕ). words_said ((x ∷ bytes) ∷ words) ≡ None) (sym (eqb-true byte 45 e)) refl

    behind : (rest : List Text) → list_any is_dashed rest ≡ true → words_said (verb ∷ rest) ≡ None
    behind [] e = absurd (clash e)
    behind (word ∷ rest) e =
        no_form (bytes_eq verb (codes "run")) (bytes_eq verb (codes "report")) (bytes_eq verb (codes "upgrade"))
        (bytes_eq verb (codes "audit")) (bytes_eq verb (codes "check"))
        (bytes_eq verb (codes "state")) (bytes_eq verb (codes "load")) (load_words (word ∷ rest)) (no_load (word ∷ rest) e)

    by_verb : (b : Bool) → is_dashed verb ≡ b → words_said (verb ∷ words) ≡ None
    by_verb true is = hyphen verb is
    by_verb false is_not = behind words (sym (rw is_not refl) ∙ dashed)

-- ---- what the parser answers

-- the matches say what the words say
pub matches_say : (a : App) (words : List Text) (met : Option (Text × List Row)) → a ≡ words_app
    → list_any is_dashed words ≡ false
    → (is_simple_and_free a ≡ true → fault_of a words ≡ []) → (is_simple a ≡ true → met ≡ subcommand_of a words)
    → said_under met ≡ words_said words
matches_say a words met is plain no_fault meets =
    let free : is_simple_and_free a ≡ true = ap is_simple_and_free is ∙ words_simple in
    let simple : is_simple a ≡ true = (both (is_simple a) (is_free_app (built a)) free).0 in
    ap said_under (meets simple ∙ ap (λ (b : App). subcommand_of b words) is)
    ∙ Agrees.taken (parsed words plain) (sym (ap (λ (b : App). fault_of b words) is) ∙ no_fault free)

some_kind : (kind : ErrorKind) (kinds : Kinds) → IsAmong kind kinds → kinds ≢ []
some_kind kind [] among = absurd among
some_kind kind (first ∷ rest) among = λ e. clash e
  where
    clash : first ∷ rest ≡ [] → ⊥
    clash e = cc

-- an error that isn't want of memory comes of words that say nothing
pub error_refuses : (a : App) (words : List Text) (error : Error) → a ≡ words_app → list_any is_dashed words ≡ false
    → (is_simple_and_free a ≡ true → HasKind (fault_of a words) error) → kind_of error ≢ OutOfMemory
    → words_said words ≡ None
error_refuses a words error is plain fails not_memory =
    elim (fails (ap is_simple_and_free is ∙ words_simple)) [
      | inl memory ↦ absurd (not_memory memory)
      | inr among ↦ Agrees.refused (parsed words plain)
          (subst (λ (b : App). fault_of b words ≢ []) is (some_kind (kind_of error) (fault_of a words) among))
    ]

-- an answer by what is said
pub answered : (said words : Option Words) → said ≡ words
    → IfOk (ok_or said Refused) (λ s. words ≡ Some s) × (ok_or said Refused ≡ Err Refused → words ≡ None)
answered None words same = (tt, λ e. sym same)
answered (Some s) words same = (sym same, λ e. absurd (clash e))
  where
    clash : ◌≡◌ {A = Result Words WordsNo} (Ok s) (Err Refused) → ⊥
    clash e = cc
