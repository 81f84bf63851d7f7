-- How a listing ended, and the image of its disk.
use Rattle.std.proofs.Common.{◌≡◌, ◌∙◌, ℕ, List, [], Option, Some, Result, Ok, inl, inr, refl, sym, ap, subst}
use Rattle.std.proofs.lemmas.Option.{same_Some}
use Rattle.cct_edge.specs.declared.fault.Failed.{Failed}
use Rattle.cct_model_lines.specs.declared.carry.Carry.{Carry}
use Rattle.cct_model_lines.specs.declared.record.Record.{Record}
use Rattle.cct_model_lines.specs.declared.entry.Entry.{Entry}
use Rattle.cct_journal.specs.declared.refusal.OpenNo.{OpenNo}
use Rattle.cct_journal.specs.declared.refusal.OpenNo.TheVariants as opening
use Rattle.cct_journal.specs.Image.{HasFrom}
use Rattle.cct_journal.specs.Opening.{RefusesOpen}
use Rattle.cct_journal.specs.Stands.{ReadsFrom}
use Rattle.cct_journal.specs.declared.place.Place.{Place}
use Rattle.cct_journal.proofs.Opens.{alien_has_none, bad_has_none, bad_is_none, one_bad}
use Rattle.cct_bench_report.specs.declared.listing.ReportEnd.{ReportEnd}
use Rattle.cct_bench_report.specs.declared.listing.ReportEnd.TheVariants.{Done, Unwritten, Unread}
use Rattle.cct_bench_report.specs.Listing.{Decides, Finds, HasSome, Lists, ListsSome}

-- what a read gives of a place is what its image has
pub reads_has : {D : Type 0} (seen : D → Option (List ℕ)) (disk : D) (place : Place) (image : List ℕ)
    (rest : List Record) → seen disk ≡ Some image → ReadsFrom seen disk place rest
    → HasFrom image place.base place.carry rest
reads_has seen disk place image rest told reads =
    subst (λ i. HasFrom i place.base place.carry rest) (same_Some reads.image image (sym reads.tells ∙ told))
    (record { second = place.second; generation = place.generation; current = reads.has })

-- what was written of records is so of an image that has them
pub opened_finds : (how : ReportEnd) (image : List ℕ) (base : ℕ) (carry : Carry) (rest : List Record) (nothing : Type 0)
    (writes : List Entry → Result (Unit {0}) Failed → Type 0) → HasFrom image base carry rest
    → Lists how base carry rest writes → Finds how image nothing
opened_finds how image base carry rest nothing writes has lists = by_end how lists
  where
    some : HasSome image
    some = record { base = base; carry = carry; rest = rest; has = has }

    by_end : (how : ReportEnd) → Lists how base carry rest writes → Finds how image nothing
    by_end Done wrote = some
    by_end Unwritten wrote = some
    by_end (Unread opening.Disk) wrote = inl some
    by_end (Unread opening.Alien) wrote = absurd wrote
    by_end (Unread (opening.BadRecord index)) wrote = absurd wrote

-- where no journal is opened, nothing is written
pub unopened_finds : (why : OpenNo) (image : List ℕ) (nothing : Type 0) → nothing → RefusesOpen why image
    → Finds (Unread why) image nothing
unopened_finds opening.Disk image nothing none refuses = inr none
unopened_finds opening.Alien image nothing none refuses = (refuses, none)
unopened_finds (opening.BadRecord index) image nothing none refuses = (refuses, none)

pub unopened_lists : (why : OpenNo) (image : List ℕ) (base : ℕ) (carry : Carry) (rest : List Record)
    (writes : List Entry → Result (Unit {0}) Failed → Type 0) → writes [] (Ok tt) → RefusesOpen why image
    → HasFrom image base carry rest → Lists (Unread why) base carry rest writes
unopened_lists opening.Disk image base carry rest writes none refuses has = ([], rest, refl, none)
unopened_lists opening.Alien image base carry rest writes none refuses has =
    absurd (alien_has_none image base carry rest refuses has)
unopened_lists (opening.BadRecord index) image base carry rest writes none refuses has =
    absurd (bad_has_none image index base carry rest refuses has)

pub unopened_some : (why : OpenNo) (writes : List Entry → Result (Unit {0}) Failed → Type 0) → writes [] (Ok tt)
    → ListsSome (Unread why) writes
unopened_some opening.Disk writes none = (0, [], none)
unopened_some opening.Alien writes none = none
unopened_some (opening.BadRecord index) writes none = (0, [], none)

-- a listing that broke off nowhere ended as the image decides
pub decides : (how : ReportEnd) (image : List ℕ) (nothing : Type 0) → Finds how image nothing → (how ≡ Unwritten → ⊥)
    → (how ≡ Unread opening.Disk → ⊥) → Decides how image
decides Done image nothing finds written read = record {
  done = λ base carry rest has. refl;
  alien = λ is. absurd (alien_has_none image finds.base finds.carry finds.rest is finds.has);
  bad = λ index is. absurd (bad_has_none image index finds.base finds.carry finds.rest is finds.has);
}
decides Unwritten image nothing finds written read = absurd (written refl)
decides (Unread opening.Disk) image nothing finds written read = absurd (read refl)
decides (Unread opening.Alien) image nothing finds written read = record {
  done = λ base carry rest has. absurd (alien_has_none image base carry rest finds.0 has);
  alien = λ is. refl;
  bad = λ index is. absurd (bad_is_none image index is finds.0);
}
decides (Unread (opening.BadRecord index)) image nothing finds written read = record {
  done = λ base carry rest has. absurd (bad_has_none image index base carry rest finds.0 has);
  alien = λ is. absurd (bad_is_none image index finds.0 is);
  bad = λ told is. ap (λ i. Unread (opening.BadRecord i)) (one_bad image index told finds.0 is);
}

pub unopened_decides : (why : OpenNo) (image : List ℕ) → RefusesOpen why image → (why ≡ opening.Disk → ⊥)
    → Decides (Unread why) image
unopened_decides opening.Disk image refuses read = absurd (read refl)
unopened_decides opening.Alien image refuses read =
    decides (Unread opening.Alien) image (Unit {0}) (refuses, tt) (λ is. absurd cc) (λ is. absurd cc)
unopened_decides (opening.BadRecord index) image refuses read =
    decides (Unread (opening.BadRecord index)) image (Unit {0}) (refuses, tt) (λ is. absurd cc) (λ is. absurd cc)
