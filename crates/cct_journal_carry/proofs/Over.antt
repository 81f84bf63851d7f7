-- A start from a carry and a start from the whole list agree: which records follow, and the carry after them.
use Rattle.std.proofs.Common.{◌≡◌, ◌&&◌, Bool, true, false, List, [], ◌∷◌, ◌++◌, reverse, refl, ap, sym, ◌∙◌, append_assoc}
use Rattle.std.proofs.lemmas.Bool.{and_from, and_left, and_right}
use Rattle.std.proofs.lemmas.Grind.{reverse_onto}
use Rattle.std.proofs.lemmas.List.{reverse-append}
use Rattle.cct_model.specs.terms.device.Setup.{Setup}
use Rattle.cct_model.specs.lines.record.Record.{Record}
use Rattle.cct_model.specs.lines.carry.Carry.{Carry}
use Rattle.cct_model.specs.Carry.{all_follow_carry, carry, carry_of, carry_over, carry_with, follows_carry}
use Rattle.cct_model.specs.Following.{all_follow, follows}
use Rattle.cct_model.specs.Setup.{IsSoundSetup}
use Rattle.cct_laws.proofs.money.EpochsReplayed.{follow_front}
use Rattle.cct_journal_carry.proofs.Follows.{follows_carried}
use Rattle.cct_journal_carry.proofs.Steps.{carry_next}

-- records and then more, oldest first, over any carry

pub over_append : (setup : Setup) (c : Carry) (first later : List Record) →
    carry_over setup c (first ++ later) ≡ carry_over setup (carry_over setup c first) later
over_append setup c [] later = refl
over_append setup c (r ∷ first) later = over_append setup (carry_with setup r c) first later

pub follow_append : (setup : Setup) (c : Carry) (first later : List Record) →
    all_follow_carry setup c (first ++ later)
    ≡ (all_follow_carry setup c first && all_follow_carry setup (carry_over setup c first) later)
follow_append setup c [] later = refl
follow_append setup c (r ∷ first) later =
    by_test (follows_carry setup c r) (follow_append setup (carry_with setup r c) first later)
  where
    by_test : (b : Bool) → all_follow_carry setup (carry_with setup r c) (first ++ later)
        ≡ (all_follow_carry setup (carry_with setup r c) first
        && all_follow_carry setup (carry_over setup (carry_with setup r c) first) later) →
        (b && all_follow_carry setup (carry_with setup r c) (first ++ later))
        ≡ ((b && all_follow_carry setup (carry_with setup r c) first)
        && all_follow_carry setup (carry_over setup (carry_with setup r c) first) later)
    by_test true rest = rest
    by_test false rest = refl

-- of more records, oldest first, the first one is the next after those before
next_before : (before : List Record) (r : Record) (later : List Record) →
    reverse (r ∷ later) ++ before ≡ reverse later ++ r ∷ before
next_before before r later =
    ap (λ rs. rs ++ before) (reverse_onto later r []) ∙ append_assoc (reverse later) (r ∷ []) before

-- where records don't follow one another, they don't with more of them
stays_refused : (setup : Setup) (later before : List Record) → all_follow setup before ≡ false →
    all_follow setup (later ++ before) ≡ false
stays_refused setup [] before refused = refused
stays_refused setup (r ∷ later) before refused =
    and_right (follows setup (later ++ before) r) (all_follow setup (later ++ before))
    (stays_refused setup later before refused)

-- in a sound setup
module _ (setup : Setup) (sound : IsSoundSetup setup) where
  -- the carry of records that follow one another, after more of them
  pub carry_after : (later before : List Record) → all_follow setup (reverse later ++ before) ≡ true →
      carry_over setup (carry setup before) later ≡ carry setup (reverse later ++ before)
  carry_after [] before follow = refl
  carry_after (r ∷ later) before follow =
      let follow_too : all_follow setup (reverse later ++ r ∷ before) ≡ true =
      ap (all_follow setup) (sym (next_before before r later)) ∙ follow in
      ap (λ c. carry_over setup c later)
      (carry_next setup before sound r (follow_front setup (reverse later) (r ∷ before) follow_too))
      ∙ carry_after later (r ∷ before) follow_too ∙ ap (carry setup) (sym (next_before before r later))

  -- and which follow it
  pub follow_after : (later before : List Record) → all_follow setup before ≡ true →
      all_follow_carry setup (carry setup before) later ≡ all_follow setup (reverse later ++ before)
  follow_after [] before follow = sym follow
  follow_after (r ∷ later) before follow =
      by_test (follows setup before r) refl (λ next. follow_after later (r ∷ before) next)
      ∙ ap (all_follow setup) (sym (next_before before r later))
    where
      by_test : (ok : Bool) → follows setup before r ≡ ok →
          (all_follow setup (r ∷ before) ≡ true →
          all_follow_carry setup (carry setup (r ∷ before)) later ≡ all_follow setup (reverse later ++ r ∷ before)) →
          all_follow_carry setup (carry setup before) (r ∷ later) ≡ all_follow setup (reverse later ++ r ∷ before)
      by_test true test later_same =
          let next = and_from _ _ test follow in
          ap (λ b. b && all_follow_carry setup (carry_with setup r (carry setup before)) later)
          (follows_carried setup before sound follow r ∙ test)
          ∙ ap (λ c. all_follow_carry setup c later) (carry_next setup before sound r next) ∙ later_same next
      by_test false test later_same =
          and_left _ _ (follows_carried setup before sound follow r ∙ test)
          ∙ sym (stays_refused setup (reverse later) (r ∷ before) (and_left _ _ test))

  -- of records that follow a carry, the carry is that of the whole list
  pub carry_followed : (before later : List Record) → all_follow setup before ≡ true →
      all_follow_carry setup (carry setup before) later ≡ true →
      carry_over setup (carry setup before) later ≡ carry setup (reverse later ++ before)
  carry_followed before later follow ok =
      carry_after later before (sym (follow_after later before follow) ∙ ok)

  -- so whether one more follows them is reported by either
  pub follows_after : (before first : List Record) (r : Record) → all_follow setup before ≡ true →
      all_follow_carry setup (carry setup before) first ≡ true →
      follows_carry setup (carry_over setup (carry setup before) first) r ≡ follows setup (reverse first ++ before) r
  follows_after before first r follow ok =
      let follow_too = sym (follow_after first before follow) ∙ ok in
      ap (λ c. follows_carry setup c r) (carry_after first before follow_too)
      ∙ follows_carried setup (reverse first ++ before) sound follow_too r

  -- the same of lists that are oldest first

  pub follow_of : (records later : List Record) → all_follow setup (reverse records) ≡ true →
      all_follow_carry setup (carry_of setup records) later ≡ all_follow setup (reverse (records ++ later))
  follow_of records later follow =
      follow_after later (reverse records) follow ∙ ap (all_follow setup) (sym (reverse-append records later))

  pub carry_of_more : (records later : List Record) → all_follow setup (reverse (records ++ later)) ≡ true →
      carry_over setup (carry_of setup records) later ≡ carry_of setup (records ++ later)
  carry_of_more records later follow =
      carry_after later (reverse records) (ap (all_follow setup) (sym (reverse-append records later)) ∙ follow)
      ∙ ap (carry setup) (sym (reverse-append records later))
