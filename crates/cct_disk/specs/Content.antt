-- The content of a disk in memory: its bytes, and the trace of all changes, off which the images
-- are read that a cut may leave, now and at each moment past.
use Rattle.std.specs.Prelude.{◌≡◌, ◌⊎◌, ℕ, ◌+◌, ◌-◌, ◌%◌, ◌<◌, ◌≤◌, ◌==◌, if◌then◌else◌, List, []}
use Rattle.std.specs.Prelude.{◌∷◌, ◌++◌}
use Rattle.std.specs.Prelude.{get_or, length, take, drop}
use Rattle.cct_disk.specs.Disk.{put_at, Elapses}
use Rattle.cct_disk.specs.declared.traced.Change.{Change}
use Rattle.cct_disk.specs.declared.traced.Change.TheVariants.{Wrote, Settled}

-- the bytes, the changes, newest first, and the bytes that the writes replaced, the newest last
pub record Content : Type 0 where
  pub bytes : List ℕ
  pub past : List Change
  pub replaced : List ℕ

-- n bytes from a place on
abbrev pub window : ℕ → ℕ → List ℕ → List ℕ
window at n bytes = take n (drop at bytes)

-- the content after a write
abbrev pub written : ℕ → List ℕ → Content → Content
written at bytes old = record {
  bytes = put_at old.bytes at bytes;
  past = Wrote (record { at = at; len = length bytes }) ∷ old.past;
  replaced = old.replaced ++ window at (length bytes) old.bytes;
}

-- the content after a sync
abbrev pub settled : Content → Content
settled old = record old { past = Settled ∷ old.past }

-- a place was written since the last sync or cut
abbrev pub IsUnsynced : List Change → ℕ → Type 0
IsUnsynced (Wrote span ∷ past) place =
    ((span.at ≤ place) × (place < span.at + span.len)) ⊎ IsUnsynced past place
IsUnsynced past place = ⊥

-- a place was not written since the last sync or cut
abbrev pub IsSynced : List Change → ℕ → Type 0
IsSynced (Wrote span ∷ past) place =
    ((place < span.at) ⊎ (span.at + span.len ≤ place)) × IsSynced past place
IsSynced past place = Unit

-- an image that a cut may leave: it differs from the bytes only at places that were written since
-- the last sync or cut
pub record IsImage (past : List Change) (bytes image : List ℕ) : Type 0 where
  pub size : length image ≡ length bytes
  pub same : (place : ℕ) → IsSynced past place → get_or image place 0 ≡ get_or bytes place 0

-- the bytes before a change
abbrev pub bytes_before : Change → List ℕ → List ℕ → List ℕ
bytes_before (Wrote span) replaced bytes =
    put_at bytes span.at (drop (length replaced - span.len) replaced)
bytes_before Settled replaced bytes = bytes

-- the replaced bytes before a change
abbrev pub replaced_before : Change → List ℕ → List ℕ
replaced_before (Wrote span) replaced = take (length replaced - span.len) replaced
replaced_before Settled replaced = replaced

-- An image that a cut might have left at some moment from t on. The clock counts the changes.
abbrev pub IsImageSince : List Change → List ℕ → List ℕ → ℕ → List ℕ → Type 0
IsImageSince [] replaced bytes t image = IsImage [] bytes image
IsImageSince (change ∷ past) replaced bytes t image =
    IsImage (change ∷ past) bytes image
    ⊎ ((t ≤ length past)
    × IsImageSince past (replaced_before change replaced) (bytes_before change replaced bytes) t
    image)

-- the bytes before all writes since the last sync or cut
abbrev pub synced_bytes : List Change → List ℕ → List ℕ → List ℕ
synced_bytes (Wrote span ∷ past) replaced bytes =
    synced_bytes past (replaced_before (Wrote span) replaced)
    (bytes_before (Wrote span) replaced bytes)
synced_bytes past replaced bytes = bytes

-- how many bytes were written since the last sync or cut, each write by its length
abbrev pub unsynced_in : List Change → ℕ
unsynced_in (Wrote span ∷ past) = span.len + unsynced_in past
unsynced_in past = 0

-- the byte that a cut leaves at a place that was written since the last sync or cut
abbrev pub cut_byte : ℕ → ℕ → ℕ → ℕ → ℕ
cut_byte choice place old new =
    if choice == 0 then old
    else if choice == 1 then new
    else if choice == 2 then (if place % 2 == 0 then new else old)
    else (choice + place) % 256

-- what a torn write leaves from a place on, of the bytes that stood there and those that were to be
-- written
abbrev pub torn_bytes : ℕ → ℕ → List ℕ → List ℕ → List ℕ
torn_bytes choice place (old ∷ olds) (new ∷ news) =
    cut_byte choice place old new ∷ torn_bytes choice (place + 1) olds news
torn_bytes choice place olds news = []

-- the content after a torn write: its range is written, with the bytes that the choice says
abbrev pub written_torn : ℕ → ℕ → List ℕ → Content → Content
written_torn choice at bytes old =
    written at (torn_bytes choice at (window at (length bytes) old.bytes) bytes) old

-- What a cut makes of the bytes: a place that was written since the last sync or cut holds what its
-- choice says, each other keeps its byte.
pub record CutsBytes (choice : ℕ) (old : Content) (bytes : List ℕ) : Type 0 where
  pub size : length bytes ≡ length old.bytes
  pub synced : (place : ℕ) → IsSynced old.past place → get_or bytes place 0
      ≡ get_or old.bytes place 0
  pub unsynced : (place : ℕ) → IsUnsynced old.past place →
      get_or bytes place 0
      ≡ cut_byte choice place (get_or (synced_bytes old.past old.replaced old.bytes) place 0)
      (get_or old.bytes place 0)

-- the images that a cut may leave now
abbrev pub may_leave : Content → List ℕ → Type 0
may_leave content image = IsImage content.past content.bytes image

-- the images that a cut might have left at some moment from t on
abbrev pub left_since : Content → ℕ → List ℕ → Type 0
left_since content t image = IsImageSince content.past content.replaced content.bytes t image

-- from one content to another the clock goes on
abbrev pub ElapsesTo : Content → Content → Type 0
ElapsesTo = Elapses (λ (content : Content). length content.past) left_since may_leave

-- the content after a cut: all is settled, and what the cut replaced is kept
pub record IsCut (choice : ℕ) (old new : Content) : Type 0 where
  pub cuts : CutsBytes choice old new.bytes
  pub earlier : List Change
  pub all_settled : new.past ≡ Settled ∷ earlier
  pub kept : length new.replaced ≡ length old.replaced + unsynced_in old.past
  pub time : ElapsesTo old new

-- From `old` to `new` no cut might have left any other image than from `old` on, and none is
-- forgotten.
pub record AddsNoImage (old new : Content) : Type 0 where
  pub later : length old.past ≤ length new.past
  pub nothing_else : (t : ℕ) (image : List ℕ) → t ≤ length old.past →
      IsImageSince new.past new.replaced new.bytes t image →
      IsImageSince old.past old.replaced old.bytes t image
  pub keeps : (t : ℕ) (image : List ℕ) → t ≤ length old.past →
      IsImageSince old.past old.replaced old.bytes t image →
      IsImageSince new.past new.replaced new.bytes t image
