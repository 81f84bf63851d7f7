-- The records that were listed so far.
use Rattle.std.proofs.Common.{◌≡◌, ℕ, ◌+◌, ◌-◌, List, [], ◌∷◌, ◌++◌, length, Option, Some, Result, Ok, Err, refl, sym, ◌∙◌}
use Rattle.std.proofs.Common.{ap, subst, append_assoc, arith, length-append}
use Rattle.std.specs.List.{slice_get}
use Rattle.std.proofs.lemmas.List.{append-nil, nil_from_length}
use Rattle.cct_edge.specs.declared.fault.Failed.{Failed}
use Rattle.cct_model_lines.specs.Carried.{AreSmall}
use Rattle.cct_model_lines.specs.declared.carry.Carry.{Carry}
use Rattle.cct_model_lines.specs.declared.record.Record.{Record}
use Rattle.cct_model_lines.specs.declared.entry.Entry.{Entry}
use Rattle.cct_model_lines.specs.declared.entry.Entry.TheVariants.{Listing}
use Rattle.cct_journal.specs.declared.refusal.OpenNo.TheVariants as opening
use Rattle.cct_text.specs.Writing.{Writes, Wrote}
use Rattle.cct_text.proofs.Writing.{wrote_none, writes_more, writes_then}
use Rattle.cct_bench_report.specs.declared.sums.Sums.{Sums}
use Rattle.cct_bench_report.specs.declared.listing.ReportEnd.{ReportEnd}
use Rattle.cct_bench_report.specs.declared.listing.ReportEnd.TheVariants.{Done, Unwritten, Unread}
use Rattle.cct_bench_report.specs.Sums.{AreWithin, sums_in, sums_over, with_record}
use Rattle.cct_bench_report.specs.Listing.{IsAt, Lists, ListsOne, ListsSome, listed, listing_from, total_in, total_over}
use Rattle.cct_bench_report.proofs.Lines.{after_first, listed_front, listing_more, sums_more}

-- Records are the first of others.
abbrev pub IsFront : List Record → List Record → Type 0
IsFront first records = (later : List Record) × (records ≡ first ++ later)

-- After so many records of a carry so many were read that the index is reached, the first of each list that is held; they
-- were added to the sums of the carry, and their lines written.
pub record Going {K : Type 0} (written : K → Option (List ℕ))
    (puts : K → List ℕ → Result (Unit {0}) Failed → K → Type 0) (before now : K) (holds : List Record → Type 0)
    (base : ℕ) (carry : Carry) (sums : Sums) (index : ℕ) : Type 0 where
  pub read : List Record
  pub count : index ≡ base + length read
  pub summed : sums ≡ sums_over (sums_in carry) read
  pub wrote : Wrote written puts before now (listing_from base read)
  pub first : (records : List Record) → holds records → IsFront read records

-- the sums of a carry that may be one of so many records
pub carry_within : (many : ℕ) (carry : Carry) (sums : Sums) → sums ≡ sums_in carry → AreSmall many carry
    → AreWithin many sums
carry_within many carry sums is small = subst (AreWithin many) (sym is) (record {
  posted = small.posted;
  lost = small.lost;
  paid = small.paid;
  unpaid = small.unpaid;
  sold = small.sold;
})

-- one more of the first records
front_more : (read records : List Record) (base index : ℕ) (entry : Record) → index ≡ base + length read
    → IsFront read records → slice_get records (index - base) ≡ Some entry → IsFront (read ++ entry ∷ []) records
front_more read records base index entry count front is =
    let at : length read ≡ index - base = omega (arith, count) in
    let here : slice_get (read ++ front.0) (length read) ≡ Some entry =
    ap (λ l. slice_get l (length read)) (sym front.1) ∙ ap (λ k. slice_get records k) at ∙ is in
    let found = after_first read front.0 entry here in (
      found.0,
      front.1
          ∙ ap (λ l. read ++ l) found.1
          ∙ sym (append_assoc read (entry ∷ []) found.0),
    )

-- all of them
front_all : (read records : List Record) → IsFront read records → length records ≡ length read → records ≡ read
front_all read records front same =
    let none : length front.0 ≡ 0 = omega (arith, same, ap length front.1, length-append read front.0) in
    front.1 ∙ ap (λ l. read ++ l) (nil_from_length front.0 none) ∙ append-nil read

module _ {K : Type 0} (written : K → Option (List ℕ)) (puts : K → List ℕ → Result (Unit {0}) Failed → K → Type 0) where
  -- before the first record
  pub going_starts : (before : K) (holds : List Record → Type 0) (base : ℕ) (carry : Carry) (sums : Sums)
      → sums ≡ sums_in carry → Going written puts before before holds base carry sums base
  going_starts before holds base carry sums is = record {
    read = [];
    count = omega arith;
    summed = is;
    wrote = wrote_none written puts before;
    first = λ records held. (records, refl);
  }

  -- the line of a record broke off within each listing that begins with the records up to this one
  broke_within : (before between now : K) (base : ℕ) (carry : Carry) (read : List Record) (index : ℕ) (entry : Record)
      (failed : Failed) (records : List Record) → index ≡ base + length read
      → Wrote written puts before between (listing_from base read)
      → Writes written puts between (Listing index entry ∷ []) (Err failed) now → IsFront (read ++ entry ∷ []) records
      → Writes written puts before (listed base (sums_in carry) records) (Err failed) now
  broke_within before between now base carry read index entry failed records count wrote broke front =
      let lines = listing_from base read in
      let sums = sums_in carry in
      let found = listed_front base sums (read ++ entry ∷ []) front.0 in
      let whole : listed base sums records ≡ (lines ++ Listing index entry ∷ []) ++ found.0 =
      ap (listed base sums) front.1 ∙ found.1 ∙ ap (λ l. l ++ found.0) (listing_more base index read entry count) in
      subst (λ l. Writes written puts before l (Err failed) now) (sym whole)
      (writes_more written puts before now (lines ++ Listing index entry ∷ []) found.0 failed
      (writes_then written puts before between now lines (Listing index entry ∷ []) (Err failed) wrote broke))

  module _ {before between : K} {holds : List Record → Type 0} {base : ℕ} {carry : Carry} {sums : Sums} {index : ℕ}
      (going : Going written puts before between holds base carry sums index) (now : K) where
    -- one record more was listed
    pub going_on : (here : List Record → Type 0) (own : ℕ) (after : Sums) → own ≡ base
        → ((records : List Record) → holds records → here records)
        → ListsOne here own index (λ entry. after ≡ with_record entry sums)
        (λ entries answer. Writes written puts between entries answer now) (now ≡ between) (Ok tt)
        → Going written puts before now holds base carry after (index + 1)
    going_on here own after same still one =
        let entry = one.0 in record {
          read = going.read ++ entry ∷ [];
          count = omega (arith, going.count, length-append going.read (entry ∷ []));
          summed = one.2 ∙ ap (with_record entry) going.summed ∙ sums_more (sums_in carry) going.read entry;
          wrote = subst (λ l. Wrote written puts before now l)
              (sym (listing_more base index going.read entry going.count))
              (writes_then written puts before between now (listing_from base going.read) (Listing index entry ∷ [])
              (Ok tt) going.wrote one.3);
          first = λ records held. front_more going.read records base index entry going.count
              (going.first records held) (subst (λ b. IsAt here b index entry) same one.1 records (still records held));
        }

    -- the lines so far, where nothing was written of one record more
    stopped : now ≡ between → Wrote written puts before now (listing_from base going.read)
    stopped same = subst (λ k. Wrote written puts before k (listing_from base going.read)) (sym same) going.wrote

    -- or none, by how the listing ended then
    pub going_ends : (here : List Record → Type 0) (own : ℕ) (adds : Record → Type 0) (how : ReportEnd)
        → ListsOne here own index adds (λ entries answer. Writes written puts between entries answer now)
        (now ≡ between) (Err how)
        → ListsSome how (λ entries answer. Writes written puts before entries answer now)
    going_ends here own adds Done one = absurd one
    going_ends here own adds Unwritten one = (
      base,
      carry,
      going.read ++ one.0 ∷ [],
      one.1,
      broke_within before between now base carry going.read index one.0 one.1 (going.read ++ one.0 ∷ []) going.count
          going.wrote one.3
          ([], sym (append-nil (going.read ++ one.0 ∷ []))),
    )
    going_ends here own adds (Unread opening.Disk) one = (base, going.read, stopped one)
    going_ends here own adds (Unread opening.Alien) one = absurd one
    going_ends here own adds (Unread (opening.BadRecord told)) one = (base, going.read, stopped one.0)

    pub going_ends_within : (here : List Record → Type 0) (own : ℕ) (adds : Record → Type 0) (records : List Record)
        → own ≡ base → holds records → here records → (how : ReportEnd)
        → ListsOne here own index adds (λ entries answer. Writes written puts between entries answer now)
        (now ≡ between) (Err how)
        → Lists how base carry records (λ entries answer. Writes written puts before entries answer now)
    going_ends_within here own adds records same held still Done one = absurd one
    going_ends_within here own adds records same held still Unwritten one = (
      one.1,
      broke_within before between now base carry going.read index one.0 one.1 records going.count going.wrote one.3
          (front_more going.read records base index one.0 going.count (going.first records held)
          (subst (λ b. IsAt here b index one.0) same one.2 records still)),
    )
    going_ends_within here own adds records same held still (Unread opening.Disk) one =
        let front = going.first records held in (going.read, front.0, front.1, stopped one)
    going_ends_within here own adds records same held still (Unread opening.Alien) one = absurd one
    going_ends_within here own adds records same held still (Unread (opening.BadRecord told)) one = absurd (one.1 records still)

    -- the line of the sums after all records
    pub sums_told : (total : Entry) (answer : Result (Unit {0}) Failed) → total ≡ total_in sums
        → Writes written puts between (total ∷ []) answer now
        → Writes written puts before (listed base (sums_in carry) going.read) answer now
    sums_told total answer is wrote =
        writes_then written puts before between now (listing_from base going.read)
        (total_over (sums_in carry) going.read ∷ []) answer going.wrote
        (subst (λ e. Writes written puts between (e ∷ []) answer now) (is ∙ ap total_in going.summed) wrote)

    pub sums_told_of : (total : Entry) (answer : Result (Unit {0}) Failed) (records : List Record) → holds records
        → index ≡ base + length records → total ≡ total_in sums → Writes written puts between (total ∷ []) answer now
        → Writes written puts before (listed base (sums_in carry) records) answer now
    sums_told_of total answer records held all is wrote =
        let whole = front_all going.read records (going.first records held) (omega (arith, all, going.count)) in
        subst (λ l. Writes written puts before (listed base (sums_in carry) l) answer now) (sym whole)
        (sums_told total answer is wrote)
