-- What a traced disk keeps of its trace, and which room is left.
use Rattle.std.specs.Prelude.{◌≡◌, ◌⊎◌, ℕ, ◌+◌, ◌*◌, ◌<◌, ◌≤◌, Option, Some, None, List, [], ◌∷◌}
use Rattle.std.specs.Prelude.{length, reverse}
use Rattle.std.specs.Prelude.{vec_capacity}
use Rattle.cct_disk.specs.Content.{Content, unsynced_in}
use Rattle.cct_disk.specs.declared.traced.Span.{Span}
use Rattle.cct_disk.specs.declared.traced.Change.{Change}
use Rattle.cct_disk.specs.declared.traced.Change.TheVariants.{Wrote, Settled}
use Rattle.cct_disk.specs.declared.traced.Traced.{Traced}
use Rattle.cct_disk.specs.declared.traced.TheConstants.{MOST_CHANGES, MOST_ENTRIES, MOST_REPLACED}

-- the content of a traced disk: its bytes, its changes, newest first, and the bytes that the writes
-- replaced
abbrev pub content_of : Traced → Content
content_of traced =
    record {
      bytes = traced.bytes.items;
      past = reverse traced.trace.items;
      replaced =
          traced.replaced.items;
    }

-- there is room for one more change that replaces so many bytes
abbrev pub HasRoom : Traced → ℕ → Type 0
HasRoom traced more =
    (traced.changes < MOST_CHANGES) × (length traced.replaced.items + more ≤ MOST_REPLACED)

-- after so many changes that replaced so many bytes, one more that replaces so many passes the room
abbrev pub PassesRoom : ℕ → ℕ → ℕ → Type 0
PassesRoom changes replaced more = (MOST_CHANGES ≤ changes) ⊎ (MOST_REPLACED < replaced + more)

-- the span of the newest change, where that is a write
abbrev pub newest_span : List Change → Option Span
newest_span (Wrote span ∷ past) = Some span
newest_span past = None

-- how many writes there were since the last sync or cut
abbrev pub writes_in : List Change → ℕ
writes_in (Wrote span ∷ past) = 1 + writes_in past
writes_in past = 0

-- how many bytes all writes replaced
abbrev pub replaced_in : List Change → ℕ
replaced_in [] = 0
replaced_in (Wrote span ∷ past) = span.len + replaced_in past
replaced_in (Settled ∷ past) = replaced_in past

-- each write was within the disk
abbrev pub AreWithin : ℕ → List Change → Type 0
AreWithin size [] = Unit
AreWithin size (Wrote span ∷ past) = (span.at + span.len ≤ size) × AreWithin size past
AreWithin size (Settled ∷ past) = AreWithin size past

-- the trace fits the bytes, and the memory was taken
pub record IsKept (traced : Traced) : Type 0 where
  pub entry_room : MOST_ENTRIES ≤ vec_capacity traced.trace
  pub byte_room : MOST_REPLACED ≤ vec_capacity traced.replaced
  pub within : AreWithin (length traced.bytes.items) (reverse traced.trace.items)
  pub all_replaced : replaced_in (reverse traced.trace.items) ≡ length traced.replaced.items
  pub few_replaced : length traced.replaced.items ≤ MOST_REPLACED
  pub few_changes : traced.changes ≤ MOST_CHANGES
  pub few_entries : length traced.trace.items ≤ 2 * traced.changes

-- the trace fits the bytes, and the counts are those of the trace, with room for what a cut writes
-- again
pub record IsTraced (traced : Traced) : Type 0 where
  pub kept : IsKept traced
  pub few_unsynced : traced.unsynced ≤ length traced.replaced.items
  pub is_unsynced : traced.unsynced ≡ unsynced_in (reverse traced.trace.items)
  pub cut_room : length traced.trace.items + writes_in (reverse traced.trace.items)
      ≤ 2 * traced.changes

-- a disk has this content after so many changes, and its trace fits
pub record IsTracedAs (content : Content) (changes : ℕ) (disk : Traced) : Type 0 where
  pub traced : IsTraced disk
  pub content_is : content_of disk ≡ content
  pub changes_are : disk.changes ≡ changes
