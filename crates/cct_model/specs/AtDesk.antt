-- A legal transcript of a machine with the operator's desk: what is known there says what a
-- `change` and a `serve` give.
use Rattle.std.specs.Prelude.{◌≡◌, ℕ, List, [], ◌∷◌, ◌++◌}
use Rattle.cct_model.specs.terms.device.Setup.{Setup}
use Rattle.cct_model.specs.lines.command.Step.{Step}
use Rattle.cct_model.specs.lines.command.Step.TheVariants as step
use Rattle.cct_model.specs.lines.entry.Entry.{Entry}
use Rattle.cct_model.specs.Change.{Desk, Serves, change_entry, clear_desk, desk_after}
use Rattle.cct_model.specs.Legal.{Entries}
use Rattle.cct_model.specs.Transcript.{onto}

-- The entries of a step after all that came before, newest first, with what is known at the
-- operator's desk.
abbrev pub EntriesAtDesk : ℕ → Setup → List Entry → Desk → Step → List Entry → Type 0
EntriesAtDesk capacity setup past desk (step.Change first amount) news =
    news ≡ change_entry first amount desk.session ∷ []
EntriesAtDesk capacity setup past desk step.Serve news =
    Serves capacity setup past desk.trays desk.session news
EntriesAtDesk capacity setup past desk s news = Entries capacity setup past s news

-- A past and a desk go on by these steps, and end as these.
abbrev pub AtDeskFrom : ℕ → Setup → List Entry → Desk → List Step → List Entry → Desk → Type 0
AtDeskFrom capacity setup past desk [] end last = (end ≡ past) × (last ≡ desk)
AtDeskFrom capacity setup past desk (s ∷ steps) end last =
    (news : List Entry) × EntriesAtDesk capacity setup past desk s news
    × AtDeskFrom capacity setup (news ++ past) (desk_after s news desk) steps end last

-- A transcript, oldest entry first, is the entries of these steps, over a journal that takes so
-- many records, and leaves this desk.
abbrev pub LeavesDesk : ℕ → Setup → List Step → List Entry → Desk → Type 0
LeavesDesk capacity setup steps transcript last =
    AtDeskFrom capacity setup [] (clear_desk setup) steps (onto [] transcript) last

-- A transcript, oldest entry first, is the entries of these steps, over a journal that takes so
-- many records.
abbrev pub LegalAtDesk : ℕ → Setup → List Step → List Entry → Type 0
LegalAtDesk capacity setup steps transcript =
    (last : Desk) × LeavesDesk capacity setup steps transcript last
