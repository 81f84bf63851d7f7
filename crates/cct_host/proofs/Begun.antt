-- What a host has that has just started, by its parts.
use Rattle.std.proofs.Common.{◌≡◌, ℕ, ◌+◌, List, [], length, reverse, Option, refl, sym, subst, ◌∙◌}
use Rattle.cct_model.specs.terms.device.Setup.{Setup}
use Rattle.cct_model.specs.lines.carry.Carry.{Carry}
use Rattle.cct_model.specs.lines.record.Record.{Record}
use Rattle.cct_model.specs.Carried.{IsRightly, empty_carry}
use Rattle.cct_disk.specs.declared.disk.Disk.{Ghosts}
use Rattle.cct_journal.specs.Journal as journals
use Rattle.cct_journal.specs.declared.place.Place.{Place}
use Rattle.cct_journal_carry.specs.Tally as tallies
use Rattle.cct_journal_carry.proofs.Resumed.{carry_first}
use Rattle.cct_journal_carry.proofs.Small.{none_empty}
use Rattle.cct_host.specs.declared.host.Host.{Host}
use Rattle.cct_host.specs.Host.{setup_of}
use Rattle.cct_host.specs.OnDisk.{ReadsRecords, ReadsRest}
use Rattle.cct_host.specs.Replayed.{Resumes}
use Rattle.cct_host.specs.Starting.{FirstFollow, HasReplayed, HasResumed, HasResumedSome, TalliesOver, TalliesSome}
use Rattle.cct_host.proofs.Starting.{begun_over, resumed_replayed}

module _ {D : Type 0} {g : Ghosts D} where
  -- a host whose tally went over a carry and the rest after it, and whose desks begin with what the tally has
  pub resumed_by : (host : Host D g) (setup : Setup) (base : ℕ) (c : Carry) (rest : List Record)
      → setup_of host ≡ setup → TalliesOver setup c rest (tallies.carry_in host.tally)
      → Resumes host.desks (tallies.carry_in host.tally)
      → journals.used_of host.journal ≡ base + length rest → HasResumed host base c rest
  resumed_by host setup base c rest same over begins used =
      let went = subst (λ s. TalliesOver s c rest (tallies.carry_in host.tally)) (sym same) over in
      record {
        fits = went.fits;
        follow = went.follow;
        carry_is = went.carry_is;
        from_carry = record { resumes = begins };
        used = used;
      }

  -- the same of some records
  pub resumed_some : (host : Host D g) (setup : Setup) (base : ℕ) (c : Carry) (many : ℕ) → setup_of host ≡ setup
      → TalliesSome setup base c many (tallies.carry_in host.tally)
      → Resumes host.desks (tallies.carry_in host.tally)
      → journals.used_of host.journal ≡ many → IsRightly base c → HasResumedSome host base c
  resumed_some host setup base c many same some begins used rightly = record {
    rest = some.rest;
    resumed = resumed_by host setup base c some.rest same some.over begins (used ∙ some.count);
    empty = λ none. none_empty c (subst (λ n. IsRightly n c) none rightly);
  }

  -- such a host is as one that went over all records, where the first ones follow one another
  pub resumed_all : (host : Host D g) (setup : Setup) (seen : D → Option (List ℕ)) (disk : D) (place : Place)
      (records : List Record) → setup_of host ≡ setup → (reads : ReadsRecords setup seen disk place records)
      → FirstFollow setup reads
      → ((rest : List Record) → ReadsRest seen disk place rest → HasResumed host place.base place.carry rest)
      → HasReplayed host (reverse records)
  resumed_all host setup seen disk place records same =
      subst (λ s. (reads : ReadsRecords s seen disk place records) → FirstFollow s reads
      → ((rest : List Record) → ReadsRest seen disk place rest → HasResumed host place.base place.carry rest)
      → HasReplayed host (reverse records)) same
      (λ reads first resumes.
      resumed_replayed host place.base place.carry reads.rest records reads.continues first
      (resumes reads.rest reads.reads))

  -- and one that begins with the empty carry is as one that went over no record
  pub begun_empty : (host : Host D g) → tallies.carry_in host.tally ≡ empty_carry
      → Resumes host.desks (tallies.carry_in host.tally)
      → journals.used_of host.journal ≡ 0 → HasReplayed host []
  begun_empty host empty begins none =
      let same = empty ∙ sym (carry_first (setup_of host)) in
      record {
        over = begun_over host.desks [] refl (subst (Resumes host.desks) same begins);
        used = none;
        carry_is = same;
      }
