-- Devices on a line: what happens to them, what they hear, and what comes of it.
use Rattle.std.specs.Prelude.{◌≡◌, ◌⊎◌, ℕ, Bool, true, List, ◌∷◌, ◌++◌, Option, None, Result, Ok}
use Rattle.std.specs.Prelude.{Err}
use Rattle.cct_edge.specs.declared.fault.Failed.{Failed}
use Rattle.cct_model.specs.terms.device.Setup.{Setup}
use Rattle.cct_model.specs.lines.command.WireFault.TheVariants as fault
use Rattle.cct_model.specs.lines.entry.Entry.{Entry}
use Rattle.cct_model.specs.Exchange.{after_echo}
use Rattle.cct_model.specs.Honest.{is_no_message}
use Rattle.cct_laws.specs.Honesty.{IsNoMessage}
use Rattle.cct_laws_live_devices.specs.Asked.{BefallsIn, Moment, asks, did, heard_by, met_in}
use Rattle.cct_laws_live_devices.specs.World.{IsNoReply}
use Rattle.cct_live_port.specs.Port.{echo_of}

-- What happened to devices and what bytes they heard goes on: something happened to some of them,
-- one after another, and each took it as its model does.
pub data Befell (setup : Setup) (before : List Moment) : List Moment → Type 0 where
  nothing_befell : Befell setup before before
  befell_more : (past : List Moment) (e : Entry) → Befell setup before past → BefallsIn setup past e
      → Befell setup before (did e ∷ past)

-- There is no reply to what was sent in what was heard: no message is after the whole echo, and
-- where the echo isn't whole, what was heard is none.
pub record IsUnanswered (sent heard : List ℕ) : Type 0 where
  pub none : IsNoReply sent heard
  pub bare : after_echo sent heard ≡ None → is_no_message heard ≡ true

-- What came was damaged: there is no reply in it, however much of it is heard.
abbrev pub IsDamaged : List ℕ → List ℕ → Type 0
IsDamaged sent came = (front rest : List ℕ) → came ≡ front ++ rest → IsUnanswered sent front

-- What devices hear where these bytes are sent: these, or something that is no message.
abbrev pub IsHeardFrom : List ℕ → List ℕ → Type 0
IsHeardFrom sent piece = (piece ≡ sent) ⊎ IsNoMessage piece

-- Bytes were sent over a wire that does no other damage than an honest one: the devices heard what
-- was sent, or something that is no message, and perhaps things happened to them before and after.
-- What comes of it is the echo and just what the devices answer, or it was damaged.
pub record Reaches (setup : Setup) (before : List Moment) (sent came : List ℕ) (after : List Moment)
    : Type 0 where
  pub at : List Moment
  pub piece : List ℕ
  pub earlier : Befell setup before at
  pub later : Befell setup (asks piece ∷ at) after
  pub honest : IsHeardFrom sent piece
  pub comes : ((piece ≡ sent) × (heard_by setup (λ d. met_in d at) fault.Clear sent ≡ came))
      ⊎ IsDamaged sent came

-- Bytes were sent, and that failed: the devices heard nothing of them, or as above.
pub data MayReach (setup : Setup) (before : List Moment) (sent : List ℕ) (after : List Moment)
    : Type 0 where
  heard_none : Befell setup before after → MayReach setup before sent after
  heard_some : (at : List Moment) (piece : List ℕ) → Befell setup before at → IsHeardFrom sent piece
      → Befell setup (asks piece ∷ at) after → MayReach setup before sent after

module _ {L : Type 0} (reads : L → Option (List ℕ) → L → Type 0)
    (writes : L → List ℕ → Result (Unit {0}) Failed → L → Type 0) where
  -- The devices on a line do what the model's do, over an honest wire; and this is, for each state
  -- of the line, what happened to them and what bytes they heard, newest first.
  pub record IsModelled (setup : Setup) (echoes : Bool) (answer : L → List ℕ → List ℕ)
      (history : L → List Moment) : Type 0 where
    -- While the host reads, things happen to the devices, whatever it reads.
    pub while_read : (old new : L) (piece : Option (List ℕ)) → reads old piece new →
        Befell setup (history old) (history new)
    -- What comes of what was written begins with the echo, from the line, or else from the port.
    pub written : (old new : L) (sent : List ℕ) → writes old sent (Ok tt) new
        → Reaches setup (history old) sent (echo_of echoes sent ++ answer old sent) (history new)
    pub unwritten : (old new : L) (sent : List ℕ) (why : Failed) → writes old sent (Err why) new
        → MayReach setup (history old) sent (history new)
