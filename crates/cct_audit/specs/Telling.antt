-- What an audit writes of a capture: a line for each thing that the monitor says at each tap, and
-- at the end.
use Rattle.std.specs.Prelude.{ℕ, List, [], ◌∷◌, ◌++◌, map, codes}
use Rattle.cct_model.specs.terms.coin.Coin.{Coin}
use Rattle.cct_model.specs.lines.entry.Entry.TheVariants as entry
use Rattle.cct_model.specs.lines.entry.Said.TheVariants as spoken
use Rattle.cct_model.specs.Text.{coins_field, line_of, number_text}
use Rattle.cct_audit_taps.specs.declared.said.Premise.{Premise}
use Rattle.cct_audit_taps.specs.declared.said.Premise.TheVariants as premise
use Rattle.cct_audit_taps.specs.declared.said.Said.{Said}
use Rattle.cct_audit_taps.specs.declared.said.Said.TheVariants.{Sure, Quiet, Doubt, Fell, Broken}
use Rattle.cct_monitor.specs.Watches.{Came, finally_of_all, made_tap, made_watch, said_of_all}

-- The line of a span of an acceptor that is watched for resets alone: `quiet A FIRST LAST COINS`,
-- spelt as `sure` is.
unfoldable pub quiet_line : ℕ → ℕ → ℕ → List Coin → List ℕ
quiet_line addr first last coins =
    codes "quiet" ++ 32 ∷ number_text addr ++ 32 ∷ number_text first ++ 32 ∷ number_text last ++ 32 ∷ coins_field coins
    ++ 10 ∷ []

-- The word of a premise.
abbrev pub premise_word : Premise → List ℕ
premise_word premise.Buffer = codes "buffer"
premise_word premise.Mask = codes "mask"
premise_word premise.Reset = codes "reset"
premise_word premise.Serial = codes "serial"
premise_word premise.Enable = codes "enable"
premise_word premise.Life = codes "life"
premise_word premise.Counter = codes "counter"
premise_word premise.Alone = codes "alone"

-- The line of a premise that is broken: `broken A PREMISE FIRST LAST`.
unfoldable pub broken_line : ℕ → Premise → ℕ → ℕ → List ℕ
broken_line addr p first last =
    codes "broken" ++ 32 ∷ number_text addr ++ 32 ∷ premise_word p ++ 32 ∷ number_text first ++ 32 ∷ number_text last ++ 10 ∷ []

-- The line of what a monitor says.
abbrev pub said_line : Said → List ℕ
said_line (Sure addr first last coins) = line_of (entry.Said (spoken.Sure addr first last coins))
said_line (Quiet addr first last coins) = quiet_line addr first last coins
said_line (Doubt addr first last) = line_of (entry.Said (spoken.Doubt addr first last))
said_line (Broken addr premise first last) = broken_line addr premise first last
said_line (Fell addr first last count) = line_of (entry.Said (spoken.Fell addr first last count))

-- The lines of what comes after a past, which is newest first: what a tap makes said.
abbrev pub tells : List Came → Came → List (List ℕ)
tells past (made_watch w) = []
tells past (made_tap t) = map said_line (said_of_all t past)

-- The lines of all that came, newest first.
abbrev pub told : List Came → List (List ℕ)
told [] = []
told (c ∷ past) = told past ++ tells past c

-- The lines at the end of a capture, after all that came, newest first.
abbrev pub told_last : List Came → List (List ℕ)
told_last past = map said_line (finally_of_all past)
