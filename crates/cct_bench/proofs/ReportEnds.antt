-- What a report wrote, by how its listing ended and by the answer of the put of its last line.
use Rattle.std.proofs.Common.{◌≡◌, ◌≢◌, ◌⊎◌, ℕ, List, [], ◌∷◌, ◌++◌, Option, Result, Ok, Err, refl, sym, ◌∙◌, ap, subst}
use Rattle.std.proofs.Common.{inl, inr}
use Rattle.std.proofs.lemmas.List.{append-nil}
use Rattle.cct_edge.specs.declared.fault.Failed.{Failed}
use Rattle.cct_model.specs.lines.carry.Carry.{Carry}
use Rattle.cct_model.specs.lines.record.Record.{Record}
use Rattle.cct_model.specs.lines.entry.Entry.{Entry}
use Rattle.cct_model.specs.lines.entry.Entry.TheVariants as entry
use Rattle.cct_model.specs.Carried.{empty_carry}
use Rattle.cct_text.specs.Writing.{Writes}
use Rattle.cct_text.proofs.Writing.{writes_then}
use Rattle.cct_journal.specs.Image.{HasFrom}
use Rattle.cct_journal.specs.declared.refusal.OpenNo.{OpenNo}
use Rattle.cct_journal.specs.declared.refusal.OpenNo.TheVariants as opening
use Rattle.cct_bench_report.specs.Listing.{Decides, Finds, Lists, ListsSome, listed, listing_from}
use Rattle.cct_bench_report.specs.Sums.{sums_in}
use Rattle.cct_bench_report.specs.declared.listing.ReportEnd.{ReportEnd}
use Rattle.cct_bench_report.specs.declared.listing.ReportEnd.TheVariants as listing
use Rattle.cct_bench.specs.declared.outcome.Status.{Status}
use Rattle.cct_bench.specs.declared.outcome.Status.TheVariants as status
use Rattle.cct_bench.specs.declared.play.TheConstants.{JOURNAL_BYTES}
use Rattle.cct_bench.specs.Report.{IsDecided, Known, ReportIs, Reported, image_known, line_behind, records_known}
use Rattle.cct_bench.specs.Report.{reported_by, size_known}
use Rattle.cct_bench.specs.Run.{status_by}

-- what a listing wrote, by how it ended, of a disk of which this is known
abbrev pub ListsOf : Known → ReportEnd → (List Entry → Result (Unit {0}) Failed → Type 0) → Type 0
ListsOf disk listing.Done writes =
    (base : ℕ) × (carry : Carry) × (rest : List Record) × disk.has base carry rest
    × writes (listed base (sums_in carry) rest) (Ok tt)
ListsOf disk listing.Unwritten writes =
    (base : ℕ) × (carry : Carry) × (rest : List Record) × (failed : Failed) × disk.has base carry rest
    × writes (listed base (sums_in carry) rest) (Err failed)
ListsOf disk (listing.Unread opening.Disk) writes =
    disk.failed × (writes [] (Ok tt)
    ⊎ ((base : ℕ) × (carry : Carry) × (first : List Record) × (later : List Record) × disk.has base carry (first ++ later)
    × writes (listing_from base first) (Ok tt)))
ListsOf disk (listing.Unread opening.Alien) writes = disk.alien × writes [] (Ok tt)
ListsOf disk (listing.Unread (opening.BadRecord index)) writes =
    (base : ℕ) × (first : List Record) × disk.bad first index × writes (listing_from base first) (Ok tt)

pub image_lists : (size : ℕ) (failed : Type 0) (image : List ℕ) (how : ReportEnd) (nothing : Type 0)
    (writes : List Entry → Result (Unit {0}) Failed → Type 0) → (nothing → writes [] (Ok tt))
    → (how ≡ listing.Unread opening.Disk → failed) → Finds how image nothing
    → ((base : ℕ) (carry : Carry) (rest : List Record) → HasFrom image base carry rest → Lists how base carry rest writes)
    → ListsOf (image_known size failed image) how writes
image_lists size failed image listing.Done nothing writes none cause finds every =
    (finds.base, finds.carry, finds.rest, finds.has, every finds.base finds.carry finds.rest finds.has)
image_lists size failed image listing.Unwritten nothing writes none cause finds every =
    let lists = every finds.base finds.carry finds.rest finds.has in
    (finds.base, finds.carry, finds.rest, lists.0, finds.has, lists.1)
image_lists size failed image (listing.Unread opening.Disk) nothing writes none cause (inl finds) every =
    let lists = every finds.base finds.carry finds.rest finds.has in (
      cause refl,
      inr (
        finds.base,
        finds.carry,
        lists.0,
        lists.1,
        subst (HasFrom image finds.base finds.carry) lists.2 finds.has,
        lists.3,
      ),
    )
image_lists size failed image (listing.Unread opening.Disk) nothing writes none cause (inr finds) every =
    (cause refl, inl (none finds))
image_lists size failed image (listing.Unread opening.Alien) nothing writes none cause finds every =
    (finds.0, none finds.1)
image_lists size failed image (listing.Unread (opening.BadRecord index)) nothing writes none cause finds every =
    (0, [], (refl, finds.0), none finds.1)

pub records_lists : (size : ℕ) (failed : Type 0) (base : ℕ) (carry : Carry) (rest : List Record) (how : ReportEnd)
    (writes : List Entry → Result (Unit {0}) Failed → Type 0) → (how ≡ listing.Unread opening.Disk → failed)
    → Lists how base carry rest writes → ListsOf (records_known size failed base carry rest) how writes
records_lists size failed base carry rest listing.Done writes cause lists =
    (base, carry, rest, (refl, refl, refl), lists)
records_lists size failed base carry rest listing.Unwritten writes cause lists =
    (base, carry, rest, lists.0, (refl, refl, refl), lists.1)
records_lists size failed base carry rest (listing.Unread opening.Disk) writes cause lists =
    (cause refl, inr (base, carry, lists.0, lists.1, (refl, refl, sym lists.2), lists.3))
records_lists size failed base carry rest (listing.Unread opening.Alien) writes cause lists = absurd lists
records_lists size failed base carry rest (listing.Unread (opening.BadRecord index)) writes cause lists = absurd lists

pub size_lists : (size : ℕ) (failed : Type 0) (how : ReportEnd)
    (writes : List Entry → Result (Unit {0}) Failed → Type 0) → (how ≡ listing.Unread opening.Disk → failed)
    → ListsSome how writes → ListsOf (size_known size failed) how writes
size_lists size failed listing.Done writes cause lists = (lists.0, lists.1, lists.2, tt, lists.3)
size_lists size failed listing.Unwritten writes cause lists = (lists.0, lists.1, lists.2, lists.3, tt, lists.4)
size_lists size failed (listing.Unread opening.Disk) writes cause lists =
    (cause refl, inr (lists.0, empty_carry, lists.1, [], tt, lists.2))
size_lists size failed (listing.Unread opening.Alien) writes cause lists = (tt, lists)
size_lists size failed (listing.Unread (opening.BadRecord index)) writes cause lists = (lists.0, lists.1, tt, lists.2)

-- all lines were written, or up to a put that failed
pub reported : (disk : Known) (s : Status) (lines : List Entry) (answer : Result (Unit {0}) Failed)
    (writes : List Entry → Result (Unit {0}) Failed → Type 0) → ReportIs disk s lines → writes lines answer
    → Reported disk (status_by answer s) writes
reported disk s lines (Err failed) writes is wrote = (s, lines, failed, is, wrote)
reported disk status.Done lines (Ok done) writes is wrote = (lines, is, wrote)
reported disk status.DiskFault lines (Ok done) writes is wrote = (lines, is, wrote)
reported disk status.DiskSize lines (Ok done) writes is wrote = (lines, is, wrote)
reported disk status.JournalLost lines (Ok done) writes is wrote = (lines, is, wrote)
reported disk s lines (Ok done) writes is wrote = absurd is

-- a report ends by no status of an upgrade
pub report_other : (disk : Known) (s : Status) (writes : List Entry → Result (Unit {0}) Failed → Type 0)
    → Reported disk s writes → s ≡ status.NotUpgraded → ⊥
report_other disk s writes is ends = (subst (λ x. Reported disk x writes) ends is).1

-- a disk of another size is reported by that alone
pub other_reported : (disk : Known) (len : ℕ) (s : Status) (answer : Result (Unit {0}) Failed)
    (writes : List Entry → Result (Unit {0}) Failed → Type 0) → len ≡ disk.size → disk.size ≢ JOURNAL_BYTES
    → writes (entry.DiskSize len ∷ []) answer → s ≡ status_by answer status.DiskSize → Reported disk s writes
other_reported disk len s answer writes same other wrote is =
    subst (λ s. Reported disk s writes) (sym is) (reported disk status.DiskSize (entry.DiskSize len ∷ []) answer writes
    (other, ap (λ n. entry.DiskSize n ∷ []) same) wrote)

-- a last line was put as it is for a listing that ended so
abbrev pub PutsLast : {K : Type 0} → (K → Option (List ℕ)) → (K → List ℕ → Result (Unit {0}) Failed → K → Type 0) → K → K
    → Status → ReportEnd → Type 0
PutsLast written puts out out1 s how =
    (answer : Result (Unit {0}) Failed) × Writes written puts out (line_behind how) answer out1
    × (s ≡ status_by answer (reported_by how))

pub puts_unread : {K : Type 0} (written : K → Option (List ℕ)) (puts : K → List ℕ → Result (Unit {0}) Failed → K → Type 0)
    (out out1 : K) (s : Status) (how : ReportEnd) (why known : OpenNo) → how ≡ listing.Unread why → why ≡ known
    → PutsLast written puts out out1 s (listing.Unread known) → PutsLast written puts out out1 s how
puts_unread written puts out out1 s how why known is why_is put =
    subst (PutsLast written puts out out1 s) (sym is)
    (subst (λ x. PutsLast written puts out out1 s (listing.Unread x)) (sym why_is) put)

-- the listing, and then the last line
module _ {K : Type 0} (written : K → Option (List ℕ)) (puts : K → List ℕ → Result (Unit {0}) Failed → K → Type 0) where
  behind : (disk : Known) (a b c : K) (how : ReportEnd) (answer : Result (Unit {0}) Failed)
      → disk.size ≡ JOURNAL_BYTES → ListsOf disk how (λ lines r. Writes written puts a lines r b)
      → Writes written puts b (line_behind how) answer c
      → Reported disk (status_by answer (reported_by how)) (λ lines r. Writes written puts a lines r c)
  behind disk a b c listing.Done answer sized lists last =
      let lines = listed lists.0 (sums_in lists.1) lists.2 in
      reported disk status.Done lines answer (λ lines r. Writes written puts a lines r c)
      (lists.0, lists.1, lists.2, sized, lists.3, refl) (subst (λ xs. Writes written puts a xs answer c) (append-nil lines)
      (writes_then written puts a b c lines [] answer lists.4 last))
  behind disk a b c listing.Unwritten (Ok done) sized lists last =
      let lines = listed lists.0 (sums_in lists.1) lists.2 in (
        status.Done,
        lines,
        lists.3,
        (lists.0, lists.1, lists.2, sized, lists.4, refl),
        subst (λ k. Writes written puts a lines (Err lists.3) k) (sym last.put.1) lists.5,
      )
  behind disk a b c listing.Unwritten (Err failed) sized lists last = cc last.put.0
  behind disk a b c (listing.Unread opening.Disk) answer sized (failed, inl none) last =
      let tail = entry.DiskFault ∷ [] in
      reported disk status.DiskFault tail answer (λ lines r. Writes written puts a lines r c) (sized, failed, inl refl)
      (writes_then written puts a b c [] tail answer none last)
  behind disk a b c (listing.Unread opening.Disk) answer sized (failed, inr lists) last =
      let tail = entry.DiskFault ∷ [] in
      let first = listing_from lists.0 lists.2 in
      reported disk status.DiskFault (first ++ tail) answer (λ lines r. Writes written puts a lines r c)
      (sized, failed, inr (lists.0, lists.1, lists.2, lists.3, lists.4, refl))
      (writes_then written puts a b c first tail answer lists.5 last)
  behind disk a b c (listing.Unread opening.Alien) answer sized lists last =
      let tail = entry.JournalAlien ∷ [] in
      reported disk status.JournalLost tail answer (λ lines r. Writes written puts a lines r c)
      (sized, inl (lists.0, refl)) (writes_then written puts a b c [] tail answer lists.1 last)
  behind disk a b c (listing.Unread (opening.BadRecord index)) answer sized lists last =
      let tail = entry.JournalBad index ∷ [] in
      let first = listing_from lists.0 lists.1 in
      reported disk status.JournalLost (first ++ tail) answer (λ lines r. Writes written puts a lines r c)
      (sized, inr (lists.0, lists.1, index, lists.2, refl)) (writes_then written puts a b c first tail answer lists.3 last)

  pub reported_behind : (disk : Known) (a b c : K) (how : ReportEnd) (s : Status) (answer : Result (Unit {0}) Failed)
      → disk.size ≡ JOURNAL_BYTES → ListsOf disk how (λ lines r. Writes written puts a lines r b)
      → Writes written puts b (line_behind how) answer c → s ≡ status_by answer (reported_by how)
      → Reported disk s (λ lines r. Writes written puts a lines r c)
  reported_behind disk a b c how s answer sized lists last is =
      subst (λ s. Reported disk s (λ lines r. Writes written puts a lines r c)) (sym is)
      (behind disk a b c how answer sized lists last)

-- a report of a disk of the right size is decided as its listing is, where its last line was put
pub decided : (size : ℕ) (image : List ℕ) (how : ReportEnd) (s : Status) (Fault : Type 0) → size ≡ JOURNAL_BYTES
    → Decides how image → (s ≡ reported_by how) ⊎ ((s ≡ status.WriteFault) × Fault) → (Fault → ⊥)
    → IsDecided size image s
decided size image how s Fault sized decides (inl is) none = record {
  done = λ _ base carry rest has. inl (is ∙ ap reported_by (decides.done base carry rest has));
  alien = λ _ alien. inl (is ∙ ap reported_by (decides.alien alien));
  bad = λ _ index bad. inl (is ∙ ap reported_by (decides.bad index bad));
  other = λ other. absurd (other sized);
}
decided size image how s Fault sized decides (inr broke) none = absurd (none broke.1)
