-- The words of the command line, and which of them are refused.
use Rattle.std.specs.Prelude.{◌≡◌, List, Option, None, String, map, string_bytes}
use Rattle.std.specs.declared.alloc.Global.{Global}
use Rattle.cct_bench_words.specs.Grammar.{words_said}
use Rattle.cct_bench_words.specs.declared.words.Words.{Words}

-- What the words of the command line say, without the program's name; none where they are in no
-- form.
abbrev pub said_in : List (String Global) → Option Words
said_in list = words_said (map string_bytes list)

-- Words that are refused: those in no form.
abbrev pub AreRefused : Option Words → Type 0
AreRefused said = said ≡ None
