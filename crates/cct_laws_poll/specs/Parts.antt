-- What a part has on which a program makes the calls of a host that calls nothing.
use Rattle.std.specs.Prelude.{◌≡◌, ◌≢◌, ◌⊎◌, ◌<◌, ℕ, ◌+◌, Some, List, [], ◌∷◌, ◌++◌, length, reverse}
use Rattle.std.specs.Prelude.{slice_get}
use Rattle.cct_model.specs.terms.device.Setup.{Setup}
use Rattle.cct_model.specs.lines.record.Record.{Record}
use Rattle.cct_model.specs.lines.entry.Entry.{Entry}
use Rattle.cct_model.specs.Carry.{carry_of}
use Rattle.cct_model.specs.Records.{records}
use Rattle.cct_journal.specs.Image.{StandsFor}
use Rattle.cct_host.specs.Host.{disk_of, setup_of}
use Rattle.cct_disk_queue.specs.Calls.{Act, Leaves}
use Rattle.cct_disk_queue.specs.Queue.{bytes_of}
use Rattle.cct_poll.specs.declared.poll.Poll.{Poll}
use Rattle.cct_laws_poll.specs.Runs.{Deed, Does, advanced, commanded, made}

-- the call that is to be made next on the part
abbrev pub IsNextCall : Poll → Act → Type 0
IsNextCall poll call = slice_get (reverse (disk_of poll.host).calls) poll.made ≡ Some call

-- A call was made that isn't the last that is noted; or it is the last, and then none is noted, and
-- the part has what they made of it.
abbrev pub CountsCall : Poll → Poll → Type 0
CountsCall before after =
    ((before.made + 1 < length (disk_of before.host).calls) × (after.made ≡ before.made + 1)
    × (after.host ≡ before.host))
    ⊎ ((before.made + 1 ≡ length (disk_of before.host).calls) × (after.made ≡ 0)
    × ((disk_of after.host).calls ≡ []) × ((disk_of after.host).base ≡ bytes_of (disk_of before.host)))

-- What the clauses of a poll's calls say of it before and after a deed, of the entries that are
-- reported, and of the calls that are made on the part, newest first: a deed that isn't a made call
-- comes only where none is noted.
abbrev pub DoesOn : Deed → Poll → Poll → List Entry → List Act → Type 0
DoesOn (commanded c) before after told calls =
    Does (commanded c) before.host after.host told × ((disk_of before.host).calls ≡ [])
    × (disk_of after.host ≡ disk_of before.host) × (calls ≡ [])
DoesOn (advanced addr piece heard) before after told calls =
    Does (advanced addr piece heard) before.host after.host told
    × ((disk_of before.host).calls ≡ [])
    × (after.made ≡ before.made) × (calls ≡ [])
DoesOn made before after told calls =
    Does made before.host after.host told × CountsCall before after
    × ((call : Act) × IsNextCall before call × (calls ≡ call ∷ []))

-- A poll goes on by these deeds, and so shows these entries, oldest first, while its program makes
-- these calls on its part, newest first. What it asks and takes meanwhile leaves the host, and how
-- many calls were made.
abbrev pub RunsOn : List Deed → Poll → Poll → List Entry → List Act → Type 0
RunsOn [] before after told calls =
    (after.host ≡ before.host) × (after.made ≡ before.made) × (told ≡ []) × (calls ≡ [])
RunsOn (deed ∷ deeds) before after told calls =
    (between : Poll) × (first : List Entry) × (rest : List Entry) × (now : List Act)
    × (later : List Act)
    × (setup_of between.host ≡ setup_of before.host) × DoesOn deed before between first now
    × RunsOn deeds between after rest later × (told ≡ first ++ rest) × (calls ≡ later ++ now)

-- What a power cut may leave of a part that held these bytes, after these calls, or while the next
-- one is made.
abbrev pub MayHave : List ℕ → List Act → Poll → List ℕ → Type 0
MayHave part calls poll image =
    Leaves part calls image ⊎ ((call : Act) × IsNextCall poll call × Leaves part (call ∷ calls) image)

-- An image represents the records of a past; or, while a call is noted, all but the newest of them,
-- which is being put.
abbrev pub KeepsPast : Setup → Poll → List Entry → List ℕ → Type 0
KeepsPast setup poll past image =
    StandsFor (carry_of setup) image (reverse (records past))
    ⊎ (((disk_of poll.host).calls ≢ []) × (r : Record) × (before : List Record)
    × (records past ≡ r ∷ before) × StandsFor (carry_of setup) image (reverse before))
