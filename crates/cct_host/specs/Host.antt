-- A host over its journal, that represents all that happened.
use Rattle.std.specs.Prelude.{◌≡◌, ◌≤◌, ℕ, Bool, ◌+◌, ◌-◌, List, [], ◌∷◌, ◌++◌, Option, Some, None}
use Rattle.std.specs.Prelude.{Result, false, true, is_some, length, reverse}
use Rattle.std.specs.Option.{IfSome}
use Rattle.cct_model.specs.terms.device.Setup.{Setup}
use Rattle.cct_model.specs.lines.command.Command.{Command}
use Rattle.cct_model.specs.lines.command.CommandNo.{CommandNo}
use Rattle.cct_model.specs.lines.record.Record.{Record}
use Rattle.cct_model.specs.lines.entry.Entry.{Entry}
use Rattle.cct_model.specs.lines.carry.Carry.{Carry}
use Rattle.cct_model.specs.Carry.{carry, carry_of}
use Rattle.cct_model.specs.Following.{all_follow, is_allowed}
use Rattle.cct_model.specs.Legal.{EntriesOfNext, command_entry, due_at}
use Rattle.cct_model.specs.Money.{freed_by, reserved_at_work}
use Rattle.cct_model.specs.Records.{records}
use Rattle.cct_model.specs.Refusal.{refusal}
use Rattle.cct_disk.specs.declared.disk.Disk.{Ghosts}
use Rattle.cct_disk.specs.Disk.{IsTrusted, LeavesOnly}
use Rattle.cct_journal.specs.declared.journal.Journal.{Journal}
use Rattle.cct_journal.specs.Journal as journals
use Rattle.cct_journal.specs.Image.{half_room, kept_after}
use Rattle.cct_journal.specs.declared.format.TheConstants.{MOST_RECORDS}
use Rattle.cct_journal_carry.specs.declared.tally.Tally.{Tally}
use Rattle.cct_journal_carry.specs.Tally as tallies
use Rattle.cct_host.specs.declared.desks.Desks.{Desks}
use Rattle.cct_host.specs.declared.host.Host.{Host}
use Rattle.cct_host.specs.Attempt.{Attempt, HeardBy, Links, news_of, put_of, sent_of}
use Rattle.cct_host.specs.Held.{piece_of}
use Rattle.cct_host.specs.OnDisk.{KeepsRecords, LeavesRecords, StandsUpTo}
use Rattle.cct_host.specs.Desk.{no_of}
use Rattle.cct_host.specs.Desks as all_desks
use Rattle.cct_host.specs.Place.{OwnsItsPut}

-- The record that the job at an address is about to put, if it is about to put one, is allowed
-- beside what the other jobs reserve.
abbrev pub TakesItsPut : Setup → List Entry → ℕ → Type 0
TakesItsPut setup past addr =
    IfSome (due_at setup past addr)
    (λ r. (freed_by setup r ≤ reserved_at_work setup past)
    × (is_allowed setup (records past) (reserved_at_work setup past - freed_by setup r) r ≡ true))

-- The records that are put where this one is due, or none.
abbrev pub put_by : Option Record → List Record
put_by None = []
put_by (Some r) = r ∷ []

-- What a `next` at an address takes for granted of the past: the record that it puts, if it puts
-- one, closes no order of another address, is allowed, and follows the records of the past, which
-- follow one another. Every past that is legal is so.
pub record PutSuits (setup : Setup) (past : List Entry) (addr : ℕ) : Type 0 where
  pub owned : OwnsItsPut setup past addr
  pub taken : TakesItsPut setup past addr
  pub follow : IfSome (due_at setup past addr) (λ r. all_follow setup (r ∷ records past) ≡ true)

module _ {D : Type 0} {g : Ghosts D} where
  -- The setup of a host.
  abbrev pub setup_of : Host D g → Setup
  setup_of host = all_desks.setup_of host.desks

  -- Its journal.
  abbrev pub journal_of : Host D g → Journal D g
  journal_of host = host.journal

  -- Its disk.
  abbrev pub disk_of : Host D g → D
  disk_of host = journals.disk_of host.journal

  -- A put of its journal failed.
  abbrev pub has_failed : Host D g → Bool
  has_failed host = journals.has_failed host.journal

  -- How many records its journal takes.
  abbrev pub capacity_in : Host D g → ℕ
  capacity_in host = MOST_RECORDS

  -- A host has all of a transcript, newest entry first, whatever its disk keeps: its desks
  -- represent it, its carry is that of the records, which follow one another, and its journal counts
  -- so many of them.
  pub record Keeps (host : Host D g) (past : List Entry) : Type 0 where
    pub desks : all_desks.StandsFor host.desks past
    pub follow : all_follow (setup_of host) (records past) ≡ true
    pub carry_is : tallies.carry_in host.tally ≡ carry (setup_of host) (records past)
    pub used : journals.used_of host.journal ≡ length (records past)

  -- A host represents a transcript, newest entry first: it has all of it, and if its disk is
  -- trusted, that keeps just the records.
  pub record StandsFor (host : Host D g) (past : List Entry) : Type 0 where
    pub keeps : Keeps host past
    pub on_disk : IsTrusted g.honest g.seen (disk_of host)
        → KeepsRecords (setup_of host) g.honest g.seen g.may_leave (disk_of host)
        (journals.place_of host.journal)
        (reverse (records past))

  -- Nothing changed.
  abbrev pub Stays : Host D g → Host D g → Type 0
  Stays old new =
      all_desks.Stays old.desks new.desks × (new.tally ≡ old.tally) × (new.journal ≡ old.journal)

  -- A command is taken or refused as it has to be after whatever happened, and the host goes on by
  -- its entry.
  abbrev pub Answers : Host D g → Host D g → Command → Result Unit CommandNo → Type 0
  Answers old new c result =
      (past : List Entry) → StandsFor old past
      → (no_of result ≡ refusal (capacity_in old) (setup_of old) past c)
      × StandsFor new (command_entry c (no_of result) ∷ past)

  -- From one value to another a journal put records: so many more does it count, and its current
  -- half has as many as these leave there.
  abbrev pub FillsOn : Journal D g → Journal D g → Type 0
  FillsOn old new =
      journals.kept_of new
      ≡ kept_after (half_room (g.size (journals.disk_of old))) (journals.kept_of old)
      (journals.used_of new - journals.used_of old)

  -- A `next` at an address makes one attempt over a link, and the journal counts the record that it
  -- puts, if it puts one, whatever happened before. What it adds to the report are the entries of a
  -- `next` after whatever happened, where what it heard is what follows the piece that it sent and
  -- the record that it puts, if it puts one, suits the past; and the host goes on by them.
  pub record Nexts {L : Type 0} (gives : L → List ℕ → List ℕ → L → Type 0) (old new : L) (addr : ℕ)
      (before after : Host D g)
      (report reported : List Entry) : Type 0 where
    pub what : Attempt
    pub reported_is : reported ≡ report ++ reverse (news_of addr what)
    pub link : Links gives old new what
    -- What goes out is the request that the host was about to send there, and nothing if none.
    pub sent_is : sent_of what ≡ piece_of (all_desks.sending_on before.desks addr)
    pub counts : journals.used_of (journal_of after)
        ≡ journals.used_of (journal_of before) + length (put_by (put_of what))
    pub goes : (hears : List ℕ → List ℕ) (past : List Entry) → HeardBy hears what →
        StandsFor before past
        → PutSuits (setup_of before) past addr
        → EntriesOfNext hears (setup_of before) past addr (news_of addr what)
        × StandsFor after (news_of addr what ++ past)
    -- Each image that a power cut at a moment of it might have left on a trusted disk stands for
    -- the records of the past, or for these and the one that is put.
    pub moments : (past : List Entry) → StandsFor before past →
        IsTrusted g.honest g.seen (disk_of before)
        → LeavesOnly g.moment g.left_since (disk_of before) (disk_of after)
        (StandsUpTo (setup_of before) (put_of what) (reverse (records past)))
    -- Where it puts no record, the journal stays.
    pub quiet : put_of what ≡ None → journal_of after ≡ journal_of before

  -- A put failed: the job at the address was about to put a record, the host has all of the past as
  -- before, and whatever a power cut leaves on its trusted disk stands for the records of the past,
  -- or for these and that record.
  abbrev pub Fails : Host D g → Host D g → ℕ → Type 0
  Fails old new addr =
      (past : List Entry) → StandsFor old past
      → Keeps new past × ((r : Record) × (due_at (setup_of old) past addr ≡ Some r)
      × (IsTrusted g.honest g.seen (disk_of old)
      → LeavesRecords (setup_of old) g.honest g.seen g.may_leave (disk_of new) (Some r)
      (reverse (records past))))

  -- Each image that a power cut at a moment of a put that failed might have left on a trusted disk
  -- stands for the records of the past, or for these and the one that was due.
  abbrev pub FailsBetween : Host D g → Host D g → ℕ → Type 0
  FailsBetween old new addr =
      (past : List Entry) → StandsFor old past → IsTrusted g.honest g.seen (disk_of old)
      → LeavesOnly g.moment g.left_since (disk_of old) (disk_of new)
      (StandsUpTo (setup_of old) (due_at (setup_of old) past addr) (reverse (records past)))

  -- A record that was due, if one was, is put into a journal with the carry of those before it: so
  -- many more does it count, and its disk keeps them.
  pub record Puts (due : Option Record) (so_far : Carry) (journal written : Journal D g) : Type 0
    where
      pub whole : journals.has_failed written ≡ false
      pub counted : journals.used_of written ≡ journals.used_of journal + length (put_by due)
      pub done : (setup : Setup) (records : List Record)
          → KeepsRecords setup g.honest g.seen g.may_leave (journals.disk_of journal)
          (journals.place_of journal) records
          → so_far ≡ carry_of setup records
          → KeepsRecords setup g.honest g.seen g.may_leave (journals.disk_of written)
          (journals.place_of written)
          (records ++ put_by due)
      pub moments : (setup : Setup) (records : List Record)
          → KeepsRecords setup g.honest g.seen g.may_leave (journals.disk_of journal)
          (journals.place_of journal) records
          → so_far ≡ carry_of setup records
          → LeavesOnly g.moment g.left_since (journals.disk_of journal) (journals.disk_of written)
          (StandsUpTo setup due records)
      pub quiet : due ≡ None → written ≡ journal

  -- A put fails: a record was due, and whatever a power cut leaves on the disk has the records
  -- before it, of which this is the carry, or these and that one.
  pub record PutFails (due : Option Record) (so_far : Carry) (journal written : Journal D g) : Type
      0 where
    pub place : journals.place_of written ≡ journals.place_of journal
    pub left : (r : Record) × (due ≡ Some r) × ((setup : Setup) (records : List Record)
        → KeepsRecords setup g.honest g.seen g.may_leave (journals.disk_of journal)
        (journals.place_of journal) records
        → so_far ≡ carry_of setup records
        → LeavesRecords setup g.honest g.seen g.may_leave (journals.disk_of written) (Some r)
        records)
    pub moments : (setup : Setup) (records : List Record)
        → KeepsRecords setup g.honest g.seen g.may_leave (journals.disk_of journal)
        (journals.place_of journal) records
        → so_far ≡ carry_of setup records
        → LeavesOnly g.moment g.left_since (journals.disk_of journal) (journals.disk_of written)
        (StandsUpTo setup due records)

  -- After all that happened the record that was due at an address, if one was due, was put: the
  -- journal has it, and the tally.
  pub record PutsDue (past : List Entry) (addr : ℕ) (desks : Desks) (tally added : Tally)
      (journal written : Journal D g) : Type 0 where
    pub used : journals.used_of written
        ≡ journals.used_of journal + length (put_by (due_at (all_desks.setup_of desks) past addr))
    pub on_disk : KeepsRecords (all_desks.setup_of desks) g.honest g.seen g.may_leave
        (journals.disk_of journal)
        (journals.place_of journal) (reverse (records past))
        → tallies.carry_in tally ≡ carry (all_desks.setup_of desks) (records past)
        → KeepsRecords (all_desks.setup_of desks) g.honest g.seen g.may_leave
        (journals.disk_of written)
        (journals.place_of written) (reverse (records past)
        ++ put_by (due_at (all_desks.setup_of desks) past addr))
    pub moments : KeepsRecords (all_desks.setup_of desks) g.honest g.seen g.may_leave
        (journals.disk_of journal)
        (journals.place_of journal) (reverse (records past))
        → tallies.carry_in tally ≡ carry (all_desks.setup_of desks) (records past)
        → LeavesOnly g.moment g.left_since (journals.disk_of journal) (journals.disk_of written)
        (StandsUpTo (all_desks.setup_of desks) (all_desks.due_on desks addr)
        (reverse (records past)))
    pub adds : IfSome (due_at (all_desks.setup_of desks) past addr)
        (λ r. all_follow (all_desks.setup_of desks) (r ∷ records past) ≡ true)
        → tallies.carry_in tally ≡ carry (all_desks.setup_of desks) (records past)
        → tallies.carry_in added ≡ carry (all_desks.setup_of desks)
        (put_by (due_at (all_desks.setup_of desks) past addr) ++ records past)

  -- The parts of a host make one attempt at an address over a link, and the record that was due
  -- there, if one was, is put.
  pub record Advances {L : Type 0} (gives : L → List ℕ → List ℕ → L → Type 0) (old new : L)
      (addr : ℕ)
      (desks turned : Desks) (tally added : Tally) (journal written : Journal D g)
      (report reported : List Entry) : Type 0 where
    pub whole : journals.has_failed written ≡ false
    pub nexts : all_desks.Nexts gives old new addr desks turned report reported
    pub counts : journals.used_of written ≡ journals.used_of journal
        + length (put_by (all_desks.due_on desks addr))
    pub puts : (past : List Entry) → all_desks.StandsFor desks past
        → PutsDue past addr desks tally added journal written
    pub quiet : all_desks.due_on desks addr ≡ None → written ≡ journal

  -- The put of the record that is due at an address fails, and nothing but the disk changes.
  pub record FailsToPut (addr : ℕ) (desks turned : Desks) (tally added : Tally)
      (journal written : Journal D g) : Type 0 where
    pub due : is_some (all_desks.due_on desks addr) ≡ true
    pub desks_stay : turned ≡ desks
    pub tally_stays : added ≡ tally
    pub place : journals.place_of written ≡ journals.place_of journal
    pub fails : (past : List Entry) → all_desks.StandsFor desks past
        → (r : Record) × (due_at (all_desks.setup_of desks) past addr ≡ Some r)
        × ((records : List Record)
        → KeepsRecords (all_desks.setup_of desks) g.honest g.seen g.may_leave
        (journals.disk_of journal)
        (journals.place_of journal) records
        → tallies.carry_in tally ≡ carry_of (all_desks.setup_of desks) records
        → LeavesRecords (all_desks.setup_of desks) g.honest g.seen g.may_leave
        (journals.disk_of written) (Some r) records)
    pub moments : (past : List Entry) → all_desks.StandsFor desks past → (records : List Record)
        → KeepsRecords (all_desks.setup_of desks) g.honest g.seen g.may_leave
        (journals.disk_of journal)
        (journals.place_of journal) records
        → tallies.carry_in tally ≡ carry_of (all_desks.setup_of desks) records
        → LeavesOnly g.moment g.left_since (journals.disk_of journal) (journals.disk_of written)
        (StandsUpTo (all_desks.setup_of desks) (due_at (all_desks.setup_of desks) past addr)
        records)
