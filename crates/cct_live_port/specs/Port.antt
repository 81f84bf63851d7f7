-- What an exchange over a port does.
use Rattle.std.specs.Prelude.{◌≡◌, ◌⊎◌, ℕ, ◌≤◌, Bool, true, false, List, [], ◌++◌, Option, Result}
use Rattle.std.specs.Prelude.{length, if◌then◌else◌, ◌∷◌, Some, None, is_some}
use Rattle.cct_edge.specs.declared.fault.Failed.{Failed}
use Rattle.cct_edge.specs.Faults.{next_count}
use Rattle.cct_model_wire.specs.declared.wire.CheckKind.{CheckKind}
use Rattle.cct_model_wire.specs.declared.wire.TheConstants.{MOST_HEARD}
use Rattle.cct_model_wire.specs.Exchange.{after_echo}
use Rattle.cct_live_port.specs.declared.port.Options.{Options}
use Rattle.cct_live_port.specs.declared.port.Port.{Port}
use Rattle.cct_live_port.specs.Answer.{answered_by, is_to_all}
use Rattle.cct_live_port.specs.Calls.{Converses, FailsAt}

-- The line of a port.
abbrev pub line_of : {L : Type 0} → Port L → L
line_of port = port.line

-- How it is used.
abbrev pub options_of : {L : Type 0} → Port L → Options
options_of port = port.options

-- Whether the last exchange brought the whole reply, so no late one can come.
abbrev pub settled : {L : Type 0} → Port L → Bool
settled port = port.settled

-- How many reads in a row were silent at the end of the last exchange, since the last byte that
-- came or was sent.
abbrev pub silent_of : {L : Type 0} → Port L → ℕ
silent_of port = port.silent

-- Whether all bytes of the last exchange's message were written.
abbrev pub was_sent : {L : Type 0} → Port L → Bool
was_sent port = port.is_sent

-- How many exchanges failed, as far as a number goes.
abbrev pub faults_of : {L : Type 0} → Port L → ℕ
faults_of port = port.faults

-- How many reads in a row have to be silent before a port sends, those at the end of the last
-- exchange counted.
abbrev pub wanted : {L : Type 0} → Port L → ℕ
wanted port = if port.settled then port.options.gap else port.options.longest

-- How many reads in a row are silent before the reply to what was sent is given up.
abbrev pub patience : {L : Type 0} → Port L → List ℕ → ℕ
patience port sent = if is_to_all sent then port.options.longest else port.options.patience

-- What the port puts before what comes, where the line gives no echo: what was sent.
abbrev pub echo_of : Bool → List ℕ → List ℕ
echo_of echoes sent = if echoes then [] else sent

-- What a port is after an exchange that failed, in which all of the message was written or not: it
-- counts that, nothing is heard, and the next one waits anew.
pub record GaveUp {L : Type 0} (before : Port L) (is_sent : Bool) (heard : List ℕ) (after : Port L)
    : Type 0 where
  pub line : line_of after ≡ line_of before
  pub options : options_of after ≡ options_of before
  pub nothing : heard ≡ []
  pub unsettled : settled after ≡ false
  pub anew : silent_of after ≡ 0
  pub sent : was_sent after ≡ is_sent
  pub counted : faults_of after ≡ next_count (faults_of before)

module _ {L : Type 0} (reads : L → Option (List ℕ) → L → Type 0)
    (writes : L → List ℕ → Result (Unit {0}) Failed → L → Type 0) where
  -- An exchange went through: the line was silent for so long, then these bytes were sent, and what
  -- came since is heard. Only the whole reply settles the port, under the check that is known, or
  -- under either where none is. It keeps how many of the last reads were silent.
  pub record Hears (old : Port L) (sent heard : List ℕ) (new : Port L) : Type 0 where
    pub bytes : List ℕ
    pub calls : Converses reads writes (silent_of old) (wanted old) (patience old sent) sent
        (echo_of old.options.echoes sent) (line_of old) bytes (silent_of new) (line_of new)
    pub hears : heard ≡ echo_of old.options.echoes sent ++ bytes
    pub known : Option CheckKind
    pub settles : settled new ≡ answered_by known sent heard
    pub sent_whole : was_sent new ≡ true
    pub no_fault : faults_of new ≡ faults_of old

  -- An exchange failed: it is counted, nothing is heard, and the next one waits anew.
  pub record GivesUp (old : Port L) (sent heard : List ℕ) (new : Port L) : Type 0 where
    pub calls : FailsAt reads writes (silent_of old) (wanted old) (patience old sent) sent
        (echo_of old.options.echoes sent) (line_of old) (was_sent new) (line_of new)
    pub nothing : heard ≡ []
    pub unsettled : settled new ≡ false
    pub anew : silent_of new ≡ 0
    pub counted : faults_of new ≡ next_count (faults_of old)

  -- What an exchange over a port does.
  pub record Gives (old : Port L) (sent heard : List ℕ) (new : Port L) : Type 0 where
    pub few : length heard ≤ MOST_HEARD
    pub options : options_of new ≡ options_of old
    pub goes : Hears old sent heard new ⊎ GivesUp old sent heard new

-- The address poll by the host, under the simple check.
abbrev pub address_poll : List ℕ
address_poll = 0 ∷ 0 ∷ 1 ∷ 253 ∷ 2 ∷ []

-- Whether what is heard of an address poll begins with it, or none if nothing is heard.
abbrev pub echo_in : List ℕ → Option Bool
echo_in [] = None
echo_in (byte ∷ heard) = Some (is_some (after_echo address_poll (byte ∷ heard)))

-- A port over a line of which this is reported.
abbrev pub with_echo : {L : Type 0} → Bool → Port L → Port L
with_echo echoes port = record port { options = record port.options { echoes = echoes } }

-- A port that waits for so many silent reads before it sends, after a message that was answered.
abbrev pub with_gap : {L : Type 0} → ℕ → Port L → Port L
with_gap gap port = record port { options = record port.options { gap = gap } }
