-- The command as the parser sees it.
use Rattle.std.specs.Prelude.{true, [], Some, codes}
use Rattle.clap.specs.Simple.{App, new_app, new_rule, new_shape, with_rule, with_subcommand}
use Rattle.clap.specs.Walk.{Rule, Text}
use Rattle.clap.specs.declared.builder.action.ArgAction.TheVariants.{Set}

-- An argument that takes one word, and is required.
abbrev pub one_word : Text → Rule
one_word id = record (new_rule id) { required = true; action = Some Set }

-- `load`, with its two words.
unfoldable pub load_app : App
load_app = with_rule (with_rule (new_app (codes "load")) (one_word (codes "seed"))) (one_word (codes "rounds"))

-- The program without its subcommands: the first word is one of them, and there is no help.
abbrev pub bare_app : App
bare_app = record {
  top = record (new_shape (codes "cct_main")) {
    no_binary_name = true;
    subcommand_required = true;
    disable_help_flag = true;
    disable_help_subcommand = true;
  };
  subs = [];
}

-- The program with its seven subcommands.
unfoldable pub words_app : App
words_app = with_subcommand
    (with_subcommand
    (with_subcommand
    (with_subcommand
    (with_subcommand
    (with_subcommand (with_subcommand bare_app (new_shape (codes "run"))) (new_shape (codes "report")))
    (new_shape (codes "upgrade"))) (new_shape (codes "audit"))) (new_shape (codes "check")))
    (new_shape (codes "state"))) load_app.top
