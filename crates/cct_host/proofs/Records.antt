-- A host goes over a carry and the records after it, oldest first, and finds what one finds that goes over all records.
use Rattle.std.proofs.Common.{◌≡◌, ℕ, ◌+◌, true, List, [], ◌∷◌, ◌++◌, length, reverse, inl, inr, sym, ap, subst, ◌∙◌, append_assoc, length-append, true≢false}
use Rattle.std.proofs.lemmas.Grind.{reverse_onto}
use Rattle.std.proofs.lemmas.List.{length-reverse, reverse-append, reverse-reverse}
use Rattle.cct_model.specs.terms.device.Setup.{Setup}
use Rattle.cct_model.specs.lines.carry.Carry.{Carry}
use Rattle.cct_model.specs.lines.record.Record.{Record}
use Rattle.cct_model.specs.Carry.{Fits, all_follow_carry, carry, carry_of, carry_over, follows_carry}
use Rattle.cct_model.specs.Following.{all_follow}
use Rattle.cct_model.specs.Setup.{IsSoundSetup}
use Rattle.cct_journal.specs.Image.{Continues}
use Rattle.cct_journal.specs.declared.refusal.ReadNo.{ReadNo}
use Rattle.cct_journal.specs.declared.refusal.ReadNo.TheVariants.{Disk, BadRecord}
use Rattle.cct_journal_carry.specs.Tally as tallies
use Rattle.cct_journal_carry.proofs.Over.{carry_followed, follow_after, follows_after}
use Rattle.cct_laws.proofs.money.EpochsReplayed.{follow_at, follow_front}
use Rattle.cct_host.specs.declared.replay.ReplayState.{ReplayState}
use Rattle.cct_host.specs.OnDisk.{IsFirstBad, StopsAt}
use Rattle.cct_host.specs.Replaying.{GoesOver, ReplaysTo}
use Rattle.cct_host.specs.Starting.{IsFirstUnfollowing, RefusesResume, RefusesStart}
use Rattle.cct_journal_carry.proofs.FitsSetup.{carry_fits}

next_before : (before : List Record) (r : Record) (later : List Record)
    → reverse (r ∷ later) ++ before ≡ reverse later ++ r ∷ before
next_before before r later =
    ap (λ rs. rs ++ before) (reverse_onto later r []) ∙ append_assoc (reverse later) (r ∷ []) before

-- a carry of the first ones of records, and the rest of them
module _ (setup : Setup) (base : ℕ) (c : Carry) (rest records : List Record) (sound : IsSoundSetup setup)
    (continues : Continues (carry_of setup) base c rest records) where
  -- all of them newest first
  backwards : reverse records ≡ reverse rest ++ reverse continues.first
  backwards = ap reverse continues.all ∙ reverse-append continues.first rest

  -- the first ones follow one another if all do
  pub first_follow : all_follow setup (reverse records) ≡ true → all_follow setup (reverse continues.first) ≡ true
  first_follow follow =
      follow_front setup (reverse rest) (reverse continues.first) (ap (all_follow setup) (sym backwards) ∙ follow)

  -- all of them follow if the first ones do and the rest follow the carry
  pub rest_follow : all_follow setup (reverse continues.first) ≡ true → all_follow_carry setup c rest ≡ true
      → all_follow setup (reverse records) ≡ true
  rest_follow first follow =
      ap (all_follow setup) backwards ∙ sym (follow_after setup sound rest (reverse continues.first) first)
      ∙ ap (λ d. all_follow_carry setup d rest) (sym continues.carry_is) ∙ follow

  -- and the carry after the rest is that of all
  pub rest_carry : all_follow setup (reverse continues.first) ≡ true → all_follow_carry setup c rest ≡ true
      → carry_over setup c rest ≡ carry setup (reverse records)
  rest_carry first follow =
      ap (λ d. carry_over setup d rest) continues.carry_is
      ∙ carry_followed setup sound (reverse continues.first) rest first
      (ap (λ d. all_follow_carry setup d rest) (sym continues.carry_is) ∙ follow)
      ∙ ap (carry setup) (sym backwards)

  -- there are so many
  pub rest_many : base + length rest ≡ length records
  rest_many =
      ap (λ n. n + length rest) continues.many ∙ sym (length-append continues.first rest)
      ∙ ap length (sym continues.all)

  -- the first record of the rest that doesn't follow is the first one of all
  first_bad : (index : ℕ) → all_follow setup (reverse continues.first) ≡ true
      → IsFirstBad setup base c rest index → IsFirstUnfollowing setup records index
  first_bad index first bad =
      let from : all_follow_carry setup (carry setup (reverse continues.first)) bad.first ≡ true =
      ap (λ d. all_follow_carry setup d bad.first) (sym continues.carry_is) ∙ bad.follow in
      record {
        before = reverse bad.first ++ reverse continues.first;
        bad = bad.bad;
        later = bad.later;
        all = continues.all ∙ ap (λ rs. continues.first ++ rs) bad.all
            ∙ sym (append_assoc continues.first bad.first (bad.bad ∷ bad.later))
            ∙ ap (λ rs. rs ++ bad.bad ∷ bad.later)
            (sym (ap reverse (sym (reverse-append continues.first bad.first))
            ∙ reverse-reverse (continues.first ++ bad.first)));
        many = bad.many ∙ ap (λ n. n + length bad.first) continues.many
            ∙ sym (length-append continues.first bad.first) ∙ sym (length-reverse (continues.first ++ bad.first))
            ∙ ap length (reverse-append continues.first bad.first);
        follow = sym (follow_after setup sound bad.first (reverse continues.first) first) ∙ from;
        refused = sym (follows_after setup sound (reverse continues.first) bad.first bad.bad first from)
            ∙ ap (λ d. follows_carry setup (carry_over setup d bad.first) bad.bad) (sym continues.carry_is)
            ∙ bad.refused;
      }

  -- where a host stops that starts over the carry and the rest, one stops that starts over all
  pub stops_first : (index : ℕ) → all_follow setup (reverse continues.first) ≡ true → StopsAt setup base c rest index
      → IsFirstUnfollowing setup records index
  stops_first index first (inl (unfit, at)) =
      absurd (unfit (subst (Fits setup) (sym continues.carry_is) (carry_fits setup (reverse continues.first) sound first)))
  stops_first index first (inr (fits, bad)) = first_bad index first bad

  pub refuses_start : (why : ReadNo) → all_follow setup (reverse continues.first) ≡ true
      → RefusesResume why setup base c rest → RefusesStart why setup records
  refuses_start Disk first refused = tt
  refuses_start (BadRecord index) first refused = stops_first index first refused

  -- so it stops nowhere if all follow
  pub stops_nowhere : (index : ℕ) → all_follow setup (reverse records) ≡ true → StopsAt setup base c rest index → ⊥
  stops_nowhere index follow stops =
      let bad = stops_first index (first_follow follow) stops in
      let newest : reverse records ≡ reverse bad.later ++ bad.bad ∷ bad.before =
      ap reverse bad.all ∙ reverse-append (reverse bad.before) (bad.bad ∷ bad.later)
      ∙ ap (λ rs. reverse (bad.bad ∷ bad.later) ++ rs) (reverse-reverse bad.before)
      ∙ next_before bad.before bad.bad bad.later in
      true≢false
      (sym (follow_at setup (reverse bad.later) bad.bad bad.before (ap (all_follow setup) (sym newest) ∙ follow))
      ∙ bad.refused)

-- what went over records that are found is so of them oldest first
pub went_over : (first now : ReplayState) (base : ℕ) (c : Carry) (rest : List Record)
    → ReplaysTo first base c (reverse rest) now
    → GoesOver now.bad (tallies.setup_of now.tally) base c rest (tallies.carry_in now.tally)
went_over first now base c rest over =
    subst (λ rs. GoesOver now.bad (tallies.setup_of now.tally) base c rs (tallies.carry_in now.tally))
    (reverse-reverse rest) over.over
