-- A world: what live hosts and the devices on their line did, and what happened to them. The hosts
-- report a part of it.
use Rattle.std.specs.Prelude.{◌≡◌, ◌⊎◌, ℕ, ◌==◌, Bool, true, false, cond, List, [], ◌∷◌, MatchBool}
use Rattle.std.specs.Prelude.{⊤}
use Rattle.cct_model.specs.terms.wire.TheConstants.{BROADCAST}
use Rattle.cct_model.specs.terms.family.Happening.{Happening}
use Rattle.cct_model.specs.terms.device.Setup.{Setup}
use Rattle.cct_model.specs.lines.entry.Entry.{Entry}
use Rattle.cct_model.specs.lines.entry.Entry.TheVariants as entry
use Rattle.cct_model.specs.Exchange.{after_echo}
use Rattle.cct_model.specs.Family.{IsPlaced}
use Rattle.cct_model.specs.Honest.{HonestPast, has_no_message}
use Rattle.cct_model.specs.Legal.{EntriesOfHappening}
use Rattle.cct_model.specs.Script.{IsFault}
use Rattle.cct_model.specs.Transcript.{heard_after}
use Rattle.cct_laws.specs.Law.{EachEntry}

-- Whether a live host shows an entry: it sees neither what happens to the devices, nor a fault of
-- the wire.
abbrev pub is_told : Entry → Bool
is_told (entry.Accepted addr c) = false
is_told (entry.Held addr place) = false
is_told (entry.Inhibited addr place) = false
is_told (entry.Alien addr) = false
is_told (entry.Fell addr) = false
is_told (entry.NoFall addr) = false
is_told (entry.Jammed addr) = false
is_told (entry.NoJam addr) = false
is_told (entry.Reset addr) = false
is_told (entry.Fault f) = false
is_told (entry.Forged addr) = false
is_told e = true

-- What the hosts of a world report.
abbrev pub told : List Entry → List Entry
told [] = []
told (e ∷ past) = cond (is_told e) (e ∷ told past) (told past)

-- Something happens to a device of the setup, of a family that knows this, and it does what the
-- model of such a device does.
abbrev pub Befalls : Setup → List Entry → Entry → Type 0
Befalls setup past e =
    (addr : ℕ) × (what : Happening) × IsPlaced what
    × EntriesOfHappening setup past addr what (e ∷ [])

-- The newest entry of a past is a host's.
abbrev pub IsJustTold : List Entry → Type 0
IsJustTold [] = ⊥
IsJustTold (e ∷ past) = is_told e ≡ true

-- There is no reply in what was heard: no message is after the whole echo.
abbrev pub IsNoReply : List ℕ → List ℕ → Type 0
IsNoReply sent piece = has_no_message (after_echo sent piece) ≡ true

-- A host hears what the model says. Or there is no reply in the one and none in the other, in an
-- exchange with one device: so it is where the echo is damaged together with what the devices hear.
abbrev pub HeardAs : ℕ → List ℕ → List ℕ → List ℕ → Type 0
HeardAs addr sent piece model =
    (piece ≡ model) ⊎ (((addr == BROADCAST) ≡ false) × IsNoReply sent piece × IsNoReply sent model)

-- What the devices, and the wire to them, have to do with an entry, by all that came before. What a
-- host hears in an exchange is what the model of the devices answers to what it sent, by the fault
-- that was set for this exchange. What happens to a device it takes as its model does. Of what the
-- hosts do nothing is said, but that an end is reported at once with what brought it, and so is a
-- record that a start finds besides those that were put.
abbrev pub AnswersAt : Setup → List Entry → Entry → Type 0
AnswersAt setup past (entry.Wire addr sent piece) =
    HeardAs addr sent piece (heard_after setup past sent)
AnswersAt setup past (entry.Fault f) = IsFault f
AnswersAt setup past (entry.Ended addr end) = IsJustTold past
AnswersAt setup past (entry.Kept r) = IsJustTold past
AnswersAt setup past e = MatchBool (is_told e) ⊤ (Befalls setup past e)

-- Devices answered so in all of a past.
abbrev pub Answers : Setup → List Entry → Type 0
Answers setup past = EachEntry (AnswersAt setup) past

-- Live hosts reported this past of a world in which the devices on their line answered as the
-- model's do, over an honest wire: all bytes that a fault damages fail their check.
pub record OverDevices (setup : Setup) (world past : List Entry) : Type 0 where
  pub answered : Answers setup world
  pub honest : HonestPast world
  pub tells : told world ≡ past
