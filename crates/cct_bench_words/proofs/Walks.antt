-- The parser's walk over words of which none begins with a hyphen.
use Rattle.std.proofs.Common.{◌≡◌, ◌∙◌, ℕ, true, false, refl, sym, ap, ap₂, List, [], ◌∷◌, Option, Some, None, codes}
use Rattle.std.proofs.Common.{is_some}
use Rattle.std.specs.Prelude.{find, fold}
use Rattle.std.specs.Str.{bytes_eq}
use Rattle.clap.specs.Lexer.{long_of, short_of}
use Rattle.clap.specs.Kinds.{Kinds, or_else}
use Rattle.clap.specs.declared.error.kind.ErrorKind.TheVariants.{InvalidSubcommand, MissingRequiredArgument}
use Rattle.clap.specs.declared.error.kind.ErrorKind.TheVariants.{MissingSubcommand, UnknownArgument}
use Rattle.clap.specs.declared.builder.value_parser.ValueParser.TheVariants as vp
use Rattle.clap.specs.declared.parser.matches.ValueSource.TheVariants.{CommandLine}
use Rattle.clap.specs.declared.builder.value_parser.Reading.TheVariants.{AsWritten}
use Rattle.clap.specs.Faults.{check_fault, defaults_fault, entered_fault, fault_of, is_simple_and_free, level_fault}
use Rattle.clap.specs.Faults.{other_fault, settle_fault, step_fault, turn_fault, walk_fault}
use Rattle.clap.specs.Simple.{App, Shape, entered, label_of, names_of, new_shape, rows_at, subcommand_of}
use Rattle.clap.specs.Walk.{Held, Names, Row, Rule, Step, Text, Walk, answers_to, arg_by_index, finished, idle}
use Rattle.clap.specs.Walk.{nothing_held, settled, subcommand_met, subcommand_or_other, to_positional, value, walk}
use Rattle.clap.specs.Walk.{walk_from, walked}
use Rattle.clap.proofs.FaultLemmas.{stopped_fault}
use Rattle.clap.proofs.WalkLemmas.{walk_stopped}
use Rattle.cct_bench_words.specs.Command.{bare_app, load_app, one_word, words_app}
use Rattle.cct_bench_words.specs.Said.{is_dashed}

-- An argument that takes one word, as it is built in its place.
abbrev built_word : Text → ℕ → Rule
built_word id place = record (one_word id) {
  index = Some place;
  range = Some (record { start_inclusive = 1; end_inclusive = 1 });
  parser = Some vp.String;
}

-- A subcommand as it is built.
abbrev pub built_sub : Text → List Rule → Shape
built_sub name rules = record (new_shape name) {
  rules = rules;
  no_binary_name = true;
  disable_help_flag = true;
  disable_help_subcommand = true;
  is_built = true;
}

-- `load` as it is built.
abbrev pub load : Shape
load = built_sub (codes "load") (built_word (codes "seed") 1 ∷ built_word (codes "rounds") 2 ∷ [])

-- The command as it is built.
abbrev app : App
app = record {
  top = record (bare_app.top) { is_leaf = false; is_built = true };
  subs = built_sub (codes "run") [] ∷ built_sub (codes "report") [] ∷ built_sub (codes "upgrade") [] ∷ built_sub (codes "audit") [] ∷ built_sub (codes "check") [] ∷ built_sub (codes "state") [] ∷ load ∷ [];
}

-- The names of its subcommands.
abbrev names : Names
names = names_of app

-- the command is one of which the parser's answer is known
pub words_simple : is_simple_and_free words_app ≡ true
unfolding words_app load_app
words_simple = refl

-- ---- one word

-- a word without a hyphen in front is neither a flag nor two hyphens
no_long : (word : Text) → is_dashed word ≡ false → long_of word ≡ None
no_long [] plain = refl
no_long (byte ∷ bytes) plain = rw plain refl

no_short : (word : Text) → is_dashed word ≡ false → short_of word ≡ None
no_short [] plain = refl
no_short (byte ∷ bytes) plain = rw plain refl

no_dashes : (word : Text) → is_dashed word ≡ false → bytes_eq word (45 ∷ 45 ∷ []) ≡ false
no_dashes [] plain = refl
no_dashes (byte ∷ bytes) plain = rw plain refl

-- Where the walk is before a word that nothing waits for.
abbrev at : Held → ℕ → Walk
at h position = record { held = h; waiting = idle; position = position; is_trailing = false; stopped = None }

module _ (word : Text) (plain : is_dashed word ≡ false) where
  met_plain : (c : List Rule) (position : ℕ) (h : Held) → subcommand_or_other c None idle position word h ≡ (h, value)
  met_plain c position h = rw (no_dashes word plain, no_long word plain, no_short word plain) refl

  fault_plain : (s : Shape) (h : Held) → other_fault s None word h ≡ []
  fault_plain s h = rw (no_dashes word plain, no_long word plain, no_short word plain) refl

  -- such a word goes to a positional
  module _ (s : Shape) (called : Names) (h : Held) (position : ℕ)
      (no_name : subcommand_met called idle word ≡ None) where
    turn_plain : turn_fault s called (at h position) word ≡ step_fault s position h value
    turn_plain =
        let faults = λ (found : Option Text). or_else (other_fault s found word h)
        (step_fault s position (subcommand_or_other s.rules found idle position word h).0
        (subcommand_or_other s.rules found idle position word h).1) in
        ap faults no_name
        ∙ ap₂ (λ (kinds : Kinds) (met : Held × Step). or_else kinds (step_fault s position met.0 met.1))
        (fault_plain s h) (met_plain s.rules position h)

    walked_plain : walked s.rules called (at h position) word
        ≡ to_positional s.rules (arg_by_index s.rules position) word (at h position) h
    unfolding walked
    walked_plain = rw (no_name, met_plain s.rules position h) refl

-- ---- the first word

-- What a parse says of its faults, and the subcommand that it enters.
abbrev pub Parses : List Text → Kinds → Option (Text × List Row) → Type 0
Parses words kinds met = (fault_of words_app words ≡ kinds) × (subcommand_of words_app words ≡ met)

-- The faults by the end of the walk and those of the walk.
abbrev faults_at : Walk → Kinds → Kinds
faults_at end first = or_else first
    (or_else (entered_fault app end.stopped) (or_else (settle_fault [] false end.held)
    (or_else (defaults_fault (settled [] end.held).rows [])
    (check_fault app.top (finished [] end.held) (is_some (entered app end.stopped))))))

faults_are : (words : List Text) → fault_of words_app words
    ≡ faults_at (walk [] names nothing_held words) (walk_fault app.top names (walk_from nothing_held) words)
unfolding words_app load_app
faults_are words = refl

met_is : (words : List Text) → subcommand_of words_app words ≡ entered app (walk [] names nothing_held words).stopped
unfolding words_app load_app
met_is words = refl

nothing_more : (kinds : Kinds) → or_else kinds [] ≡ kinds
nothing_more [] = refl
nothing_more (kind ∷ kinds) = refl

-- The walk after the name of a subcommand.
abbrev stopped : Text → List Text → Walk
stopped name words = record (at nothing_held 1) { stopped = Some (name, words) }

-- the words after the name of a subcommand are left to it
entering : (name : Text) (words : List Text) (s : Shape)
    → walked [] names (walk_from nothing_held) name ≡ stopped name []
    → turn_fault app.top names (walk_from nothing_held) name ≡ []
    → find (λ s. answers_to name (label_of s)) app.subs ≡ Some s
    → Parses (name ∷ words) (level_fault s [] nothing_held words false []) (Some (rows_at s words))
unfolding walk_fault defaults_fault
entering name words s stops passes there =
    let end : walk [] names nothing_held (name ∷ words) ≡ stopped name words =
    ap (λ (w : Walk). fold (walked [] names) w words) stops
    ∙ sym (walk_stopped [] names (walk_from nothing_held) name [] words) in
    let first : walk_fault app.top names (walk_from nothing_held) (name ∷ words) ≡ [] =
    ap₂ (λ (kinds : Kinds) (w : Walk). or_else kinds (walk_fault app.top names w words)) passes stops
    ∙ stopped_fault app.top names (walk_from nothing_held) (name, []) words in
    let below : faults_at (stopped name words) [] ≡ level_fault s [] nothing_held words false [] =
    rw there (nothing_more (level_fault s [] nothing_held words false [])) in
    let enters : entered app (Some (name, words)) ≡ Some (rows_at s words) = rw there refl in (
      faults_are (name ∷ words) ∙ ap₂ faults_at end first ∙ below,
      met_is (name ∷ words) ∙ ap (λ (w : Walk). entered app w.stopped) end ∙ enters,
    )

-- what is met at the name of a subcommand without arguments, and that it is entered there
abbrev pub bare_met : Text → List Text → Option (Text × List Row)
bare_met name words = Some (rows_at (built_sub name []) words)

abbrev pub EntersBare : Text → Type 0
EntersBare name = (words : List Text) → Parses (name ∷ words)
    (level_fault (built_sub name []) [] nothing_held words false []) (bare_met name words)

pub entering_run : EntersBare (codes "run")
unfolding walked
entering_run = λ words. entering (codes "run") words (built_sub (codes "run") []) refl refl refl

pub entering_report : EntersBare (codes "report")
unfolding walked
entering_report = λ words. entering (codes "report") words (built_sub (codes "report") []) refl refl refl

pub entering_upgrade : EntersBare (codes "upgrade")
unfolding walked
entering_upgrade = λ words. entering (codes "upgrade") words (built_sub (codes "upgrade") []) refl refl refl

pub entering_audit : EntersBare (codes "audit")
unfolding walked
entering_audit = λ words. entering (codes "audit") words (built_sub (codes "audit") []) refl refl refl

pub entering_check : EntersBare (codes "check")
unfolding walked
entering_check = λ words. entering (codes "check") words (built_sub (codes "check") []) refl refl refl

pub entering_state : EntersBare (codes "state")
unfolding walked
entering_state = λ words. entering (codes "state") words (built_sub (codes "state") []) refl refl refl

pub entering_load : (words : List Text) → Parses (codes "load" ∷ words)
    (level_fault load [] nothing_held words false []) (Some (rows_at load words))
unfolding walked
entering_load words = entering (codes "load") words load refl refl refl

-- no word at all
pub none_given : fault_of words_app [] ≡ MissingSubcommand ∷ []
unfolding words_app load_app walk_fault defaults_fault
none_given = refl

-- a first word that names no subcommand
pub other_given : (verb : Text) (words : List Text) → is_dashed verb ≡ false → bytes_eq (codes "run") verb ≡ false
    → bytes_eq (codes "report") verb ≡ false → bytes_eq (codes "upgrade") verb ≡ false
    → bytes_eq (codes "audit") verb ≡ false → bytes_eq (codes "check") verb ≡ false → bytes_eq (codes "state") verb ≡ false
    → bytes_eq (codes "load") verb ≡ false
    → fault_of words_app (verb ∷ words) ≡ UnknownArgument ∷ InvalidSubcommand ∷ []
unfolding walk_fault
other_given verb words plain not_run not_report not_upgrade not_audit not_check not_state not_load =
    let no_name : subcommand_met names idle verb ≡ None = rw (not_run, not_report, not_upgrade, not_audit, not_check, not_state, not_load) refl in
    faults_are (verb ∷ words) ∙ ap (λ (kinds : Kinds). faults_at (walk [] names nothing_held (verb ∷ words))
    (or_else kinds (walk_fault app.top names (walked [] names (at nothing_held 1) verb) words)))
    (turn_plain verb plain app.top names nothing_held 1 no_name)

-- ---- the words of a subcommand

-- The faults of a subcommand, by the end of its walk and those of the walk.
abbrev faults_below : Shape → Walk → Kinds → Kinds
faults_below s end first = or_else first
    (or_else (settle_fault s.rules false end.held)
    (or_else (defaults_fault (settled s.rules end.held).rows s.rules)
    (check_fault s (finished s.rules end.held) false)))

-- a subcommand without words of its own
pub nothing_behind : (name : Text) → level_fault (built_sub name []) [] nothing_held [] false [] ≡ []
unfolding walk_fault defaults_fault
nothing_behind name = refl

pub something_behind : (name word : Text) (words : List Text) → is_dashed word ≡ false
    → level_fault (built_sub name []) [] nothing_held (word ∷ words) false [] ≡ UnknownArgument ∷ []
unfolding walk_fault
something_behind name word words plain =
    let s = built_sub name [] in
    ap (λ (kinds : Kinds). faults_below s (walk [] [] nothing_held (word ∷ words))
    (or_else kinds (walk_fault s [] (walked [] [] (at nothing_held 1) word) words)))
    (turn_plain word plain s [] nothing_held 1 refl)

-- `load` with no word, with one, with its two, and with more
pub load_none : level_fault load [] nothing_held [] false [] ≡ MissingRequiredArgument ∷ []
unfolding walk_fault defaults_fault
load_none = refl

-- What a word makes of an argument.
abbrev row : Text → Text → Row
row id word = record { id = id; values = word ∷ []; count = None; source = Some CommandLine; reading = AsWritten }

-- Where the walk is after one word, and after two.
abbrev held_one : Text → Held
held_one seed = record { rows = []; pending = Some (codes "seed", seed ∷ []); skip = 0 }

abbrev held_two : Text → Text → Held
held_two seed rounds = record {
  rows = row (codes "seed") seed ∷ [];
  pending = Some (codes "rounds", rounds ∷ []);
  skip = 0;
}

one_walked : (seed : Text) → is_dashed seed ≡ false
    → walked load.rules [] (at nothing_held 1) seed ≡ at (held_one seed) 2
one_walked seed plain = walked_plain seed plain load [] nothing_held 1 refl

two_walked : (seed rounds : Text) → is_dashed rounds ≡ false
    → walked load.rules [] (at (held_one seed) 2) rounds ≡ at (held_two seed rounds) 3
two_walked seed rounds plain = walked_plain rounds plain load [] (held_one seed) 2 refl

one_passed : (seed : Text) → is_dashed seed ≡ false → turn_fault load [] (at nothing_held 1) seed ≡ []
one_passed seed plain = turn_plain seed plain load [] nothing_held 1 refl

two_passed : (seed rounds : Text) → is_dashed rounds ≡ false → turn_fault load [] (at (held_one seed) 2) rounds ≡ []
two_passed seed rounds plain = turn_plain rounds plain load [] (held_one seed) 2 refl

pub load_one : (seed : Text) → is_dashed seed ≡ false
    → level_fault load [] nothing_held (seed ∷ []) false [] ≡ MissingRequiredArgument ∷ []
unfolding walk_fault defaults_fault
load_one seed plain = ap₂ (λ (kinds : Kinds) (end : Walk). faults_below load end (or_else kinds []))
    (one_passed seed plain) (one_walked seed plain)

module _ (seed rounds : Text) (plain : is_dashed seed ≡ false) (plain_too : is_dashed rounds ≡ false) where
  walked_on : (words : List Text) → walk load.rules [] nothing_held (seed ∷ rounds ∷ words)
      ≡ fold (walked load.rules []) (at (held_two seed rounds) 3) words
  walked_on words = ap (λ (w : Walk). fold (walked load.rules []) (walked load.rules [] w rounds) words)
      (one_walked seed plain)
      ∙ ap (λ (w : Walk). fold (walked load.rules []) w words) (two_walked seed rounds plain_too)

  passed_on : (words : List Text) → walk_fault load [] (walk_from nothing_held) (seed ∷ rounds ∷ words)
      ≡ walk_fault load [] (at (held_two seed rounds) 3) words
  unfolding walk_fault
  passed_on words = ap₂ (λ (kinds : Kinds) (w : Walk). or_else kinds (walk_fault load [] w (rounds ∷ words)))
      (one_passed seed plain) (one_walked seed plain)
      ∙ ap₂ (λ (kinds : Kinds) (w : Walk). or_else kinds (walk_fault load [] w words))
      (two_passed seed rounds plain_too) (two_walked seed rounds plain_too)

  pub load_two : level_fault load [] nothing_held (seed ∷ rounds ∷ []) false [] ≡ []
  unfolding walk_fault defaults_fault
  load_two = ap₂ (faults_below load) (walked_on []) (passed_on [])

  pub load_more : (word : Text) (words : List Text) → is_dashed word ≡ false
      → level_fault load [] nothing_held (seed ∷ rounds ∷ word ∷ words) false [] ≡ UnknownArgument ∷ []
  unfolding walk_fault
  load_more word words plain_more =
      ap₂ (faults_below load) (walked_on (word ∷ words)) (passed_on (word ∷ words)
      ∙ ap (λ (kinds : Kinds). or_else kinds
      (walk_fault load [] (walked load.rules [] (at (held_two seed rounds) 3) word) words))
      (turn_plain word plain_more load [] (held_two seed rounds) 3 refl))

  pub load_rows : rows_at load (seed ∷ rounds ∷ [])
      ≡ (codes "load", row (codes "seed") seed ∷ row (codes "rounds") rounds ∷ [])
  load_rows = ap (λ (w : Walk). (codes "load", finished load.rules w.held)) (walked_on [])
