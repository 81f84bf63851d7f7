-- The books over the records that were read so far, and what is written of them.
use Rattle.std.proofs.Common.{◌≡◌, ℕ, ◌+◌, ◌-◌, List, [], ◌∷◌, ◌++◌, length, reverse, flat_map, Option, Some, None, Result, Ok, Err, refl, sym, ◌∙◌}
use Rattle.std.proofs.Common.{ap, ap₂, subst, append_assoc, arith, inl, inr}
use Rattle.std.specs.List.{slice_get}
use Rattle.std.proofs.lemmas.List.{append-nil, length-append, length-reverse, nil_from_length, reverse-append, reverse-reverse}
use Rattle.cct_journal_carry.specs.declared.tally.Tally.{Tally}
use Rattle.cct_edge.specs.declared.fault.Failed.{Failed}
use Rattle.cct_journal.specs.Opening.{RefusesOpen}
use Rattle.cct_journal.specs.declared.refusal.OpenNo.{OpenNo}
use Rattle.cct_journal.specs.declared.refusal.OpenNo.TheVariants as opening
use Rattle.cct_model.specs.Text.{line_of}
use Rattle.cct_model.specs.lines.carry.Carry.{Carry}
use Rattle.cct_model.specs.lines.entry.Entry.TheVariants as entry
use Rattle.cct_model.specs.lines.record.Record.{Record}
use Rattle.cct_model.specs.terms.device.Setup.{Setup}
use Rattle.cct_bench_report.proofs.Lines.{after_first}
use Rattle.cct_bench_report.specs.Listing.{total_in}
use Rattle.cct_bench_state.specs.Books.{Keeps, SuitsSetup, Tallies, money_in, money_lines, state_lines, tally_lines}
use Rattle.cct_bench_state.specs.Known.{any_disk, of_image}
use Rattle.cct_bench_state.specs.Lines.{account_lines, last_line}
use Rattle.cct_bench_state.specs.Reading.{AreAll, AreFirst, ReadsOne, RefusesRead, TellsRead}
use Rattle.cct_bench_state.specs.Telling.{IsBad, IsMisfit, Known, Tells}
use Rattle.cct_bench_state.specs.declared.books.Books.{Books}
use Rattle.cct_bench_state.specs.declared.telling.StateEnd.{StateEnd}
use Rattle.cct_bench_state.specs.declared.telling.StateEnd.TheVariants.{Done, Unwritten, Unread}

-- The books were kept over so many records that the index is reached, the first of each list that is held.
pub record Going (holds : List Record → Type 0) (setup : Option Setup) (base : ℕ) (c : Carry) (books : Books) (index : ℕ)
    : Type 0 where
  pub before : List Record
  pub count : index ≡ base + length before
  pub keeps : Keeps setup c before books
  pub first : AreFirst holds before

pub going_starts : (holds : List Record → Type 0) (setup : Option Setup) (base : ℕ) (c : Carry) (books : Books)
    → Keeps setup c [] books → Going holds setup base c books base
going_starts holds setup base c books keeps =
    record { before = []; count = omega arith; keeps = keeps; first = λ records held. (records, refl) }

-- records of a setup suit it
suits : (setup : Option Setup) (c : Carry) (before : List Record) (tally : Option Tally) → Tallies setup c before tally
    → SuitsSetup setup c before
suits None c before tally is = tt
suits (Some setup) c before None is = absurd is
suits (Some setup) c before (Some tally) is = is.2

-- the record after those that were read
next_is : (before records later : List Record) (place : ℕ) (r : Record) → records ≡ reverse before ++ later
    → place ≡ length before → slice_get records place ≡ Some r
    → (rest : List Record) × (records ≡ reverse before ++ r ∷ rest)
next_is before records later place r split at is =
    let here : slice_get (reverse before ++ later) (length (reverse before)) ≡ Some r =
    ap (slice_get (reverse before ++ later)) (length-reverse before ∙ sym at)
    ∙ ap (λ l. slice_get l place) (sym split) ∙ is in
    let found = after_first (reverse before) later r here in
    (found.0, split ∙ ap (λ l. reverse before ++ l) found.1)

module _ {holds : List Record → Type 0} {setup : Option Setup} {base : ℕ} {c : Carry} {books : Books} {index : ℕ}
    (going : Going holds setup base c books index) (here : List Record → Type 0) (own : ℕ) (same : own ≡ base)
    (still : (records : List Record) → holds records → here records) where
  place_is : index - own ≡ length going.before
  place_is = omega (arith, same, going.count)

  -- one record more was read
  pub going_on : (new : Books) → ReadsOne here own index books new (Ok tt) → Going holds setup base c new (index + 1)
  going_on new one =
      let before = going.before in
      let r = one.0 in record {
        before = r ∷ before;
        count = omega (arith, going.count);
        keeps = one.2 setup c before going.keeps;
        first = λ records held.
            let front = going.first records held in
            let next = next_is before records front.0 (index - own) r front.1 place_is (one.1 records (still records held)) in (
              next.0,
              next.1
                  ∙ sym (append_assoc (reverse before) (r ∷ []) next.0)
                  ∙ ap (λ l. l ++ next.0) (sym (reverse-append (r ∷ []) before)),
            );
      }

  -- or none
  pub going_ends : (new : Books) (why : OpenNo) → ReadsOne here own index books new (Err why)
      → RefusesRead holds setup base c why
  going_ends new opening.Disk one = tt
  going_ends new opening.Alien one = absurd one
  going_ends new (opening.BadRecord told) one = λ records held.
      let before = going.before in
      let front = going.first records held in
      let bad = one records (still records held) in
      let next = next_is before records front.0 (index - own) bad.1.0 front.1 place_is bad.1.1 in
      inr (
        before,
        bad.1.0,
        next.0,
        next.1,
        bad.0 ∙ going.count,
        suits setup c before books.tally going.keeps.tallies,
        bad.1.2 setup c before going.keeps,
      )

-- all were read
pub going_all : (holds : List Record → Type 0) (before : List Record) → AreFirst holds before
    → ((records : List Record) → holds records → length records ≡ length before) → AreAll holds before
going_all holds before first many = λ records held.
    let front = first records held in
    let none : length front.0 ≡ 0 =
    omega (arith, many records held, ap length front.1, length-append (reverse before) front.0, length-reverse before) in
    front.1
    ∙ ap (λ l. reverse before ++ l) (nil_from_length front.0 none)
    ∙ append-nil (reverse before)

-- ---- what is written

money_same : (setup : Option Setup) (c : Carry) (before : List Record) (tally : Option Tally) → Tallies setup c before tally
    → tally_lines tally ≡ money_lines setup c before
money_same None c before tally is = ap tally_lines is
money_same (Some setup) c before None is = absurd is
money_same (Some setup) c before (Some tally) is =
    ap₂ (λ s held. line_of (entry.Balance (money_in s held)) ∷ []) is.0 is.1

-- the lines of books are those of the records
pub lines_same : (setup : Option Setup) (c : Carry) (before : List Record) (books : Books) → Keeps setup c before books
    → flat_map account_lines books.accounts.items
    ++ last_line books.last_id ∷ line_of (total_in books.sums) ∷ tally_lines books.tally
    ≡ state_lines setup c before
lines_same setup c before books keeps =
    ap₂ (λ xs ys. xs ++ ys) (ap (flat_map account_lines) keeps.accounts)
    (ap₂ (λ x ys. x ∷ ys) (ap last_line keeps.last)
    (ap₂ (λ x ys. x ∷ ys) (ap (λ s. line_of (total_in s)) keeps.sums) (money_same setup c before books.tally keeps.tallies)))

pub suits_kept : (setup : Option Setup) (c : Carry) (before : List Record) (books : Books) → Keeps setup c before books
    → SuitsSetup setup c before
suits_kept setup c before books keeps = suits setup c before books.tally keeps.tallies

-- what was reported of a journal is so of its disk
pub tells_of : (disk : Known) (holds : List Record → Type 0) (setup : Option Setup) (base : ℕ) (c : Carry) (how : StateEnd)
    (writes : List (List ℕ) → Result (Unit {0}) Failed → Type 0)
    → ((before : List Record) → AreAll holds before
    → (records : List Record) × disk.has base c records × (reverse records ≡ before))
    → ((index : ℕ) → ((records : List Record) → holds records → IsMisfit setup base c records index)
    → IsBad disk setup index) → TellsRead holds setup base c how writes → Tells disk setup how writes
tells_of disk holds setup base c Done writes all bad told =
    let found = all told.0 told.1 in (
      base,
      c,
      found.0,
      found.1,
      subst (SuitsSetup setup c) (sym found.2) told.2,
      subst (λ b. writes (state_lines setup c b) (Ok tt)) (sym found.2) told.3,
    )
tells_of disk holds setup base c Unwritten writes all bad told =
    let found = all told.0 told.1 in (
      base,
      c,
      found.0,
      found.1,
      subst (SuitsSetup setup c) (sym found.2) told.2,
      told.3,
      subst (λ b. writes (state_lines setup c b) (Err told.3)) (sym found.2) told.4,
    )
tells_of disk holds setup base c (Unread opening.Disk) writes all bad told = told.1
tells_of disk holds setup base c (Unread opening.Alien) writes all bad told = absurd told.0
tells_of disk holds setup base c (Unread (opening.BadRecord index)) writes all bad told = (bad index told.0, told.1)

-- the records that are held are those of a disk
pub all_held : (has : List Record → Type 0) (holds : List Record → Type 0) (records : List Record) → has records
    → holds records → (before : List Record) → AreAll holds before
    → (records : List Record) × has records × (reverse records ≡ before)
all_held has holds records here held before all =
    (records, here, ap reverse (all records held) ∙ reverse-reverse before)

-- where no journal is opened, nothing is written
pub unopened_image : (why : OpenNo) (image : List ℕ) (setup : Option Setup)
    (writes : List (List ℕ) → Result (Unit {0}) Failed → Type 0) → RefusesOpen why image → writes [] (Ok tt)
    → Tells (of_image image) setup (Unread why) writes
unopened_image opening.Disk image setup writes refuses none = none
unopened_image opening.Alien image setup writes refuses none = (refuses, none)
unopened_image (opening.BadRecord index) image setup writes refuses none = (inl refuses, none)

pub unopened_any : (why : OpenNo) (setup : Option Setup) (writes : List (List ℕ) → Result (Unit {0}) Failed → Type 0)
    → writes [] (Ok tt) → Tells any_disk setup (Unread why) writes
unopened_any opening.Disk setup writes none = none
unopened_any opening.Alien setup writes none = (tt, none)
unopened_any (opening.BadRecord index) setup writes none = (inl tt, none)
