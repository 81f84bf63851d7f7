-- What a wire gives that gives what its caller heard.
use Rattle.std.specs.Prelude.{◌≡◌, ◌≤◌, ℕ, List, length}
use Rattle.cct_model.specs.terms.wire.TheConstants.{MOST_HEARD}

-- What was heard is what the caller heard, if a message has room for it.
abbrev pub Gave : List ℕ → List ℕ → Type 0
Gave told heard = length told ≤ MOST_HEARD → heard ≡ told
