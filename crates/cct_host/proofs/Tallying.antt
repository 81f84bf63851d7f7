-- A tally goes over a carry and over the records after it, one by one.
use Rattle.std.proofs.Common.{◌≡◌, ℕ, ◌+◌, ◌-◌, true, false, List, [], ◌∷◌, ◌++◌, length, reverse, slice_get, Option, Some, None, is_some, inl, inr, refl, sym, ap, subst, ◌∙◌, arith, append_assoc, append-nil, length-append, true≢false}
use Rattle.std.specs.Prelude.{Err, IfErr, IsErr, IsErrAnd, Ok, Result}
use Rattle.std.proofs.lemmas.Bool.{and_from}
use Rattle.std.proofs.lemmas.List.{length-reverse, nil_from_length, reverse-append}
use Rattle.cct_model.specs.terms.device.Setup.{Setup}
use Rattle.cct_model.specs.lines.carry.Carry.{Carry}
use Rattle.cct_model.specs.lines.record.Record.{Record}
use Rattle.cct_model.specs.Carry.{Fits, carry_with, follows_carry}
use Rattle.cct_journal.specs.declared.refusal.ReadNo.{ReadNo}
use Rattle.cct_journal.specs.declared.refusal.ReadNo.TheVariants.{Disk}
use Rattle.cct_journal_carry.specs.Tally as tallies
use Rattle.cct_journal_carry.proofs.Over.{follow_append, over_append}
use Rattle.cct_host.specs.declared.replay.ReplayState.{ReplayState}
use Rattle.cct_host.specs.OnDisk.{StopsAt}
use Rattle.cct_host.specs.Replaying.{GoesOver, ReplaysTo}
use Rattle.cct_host.specs.Starting.{RefusesResume, TalliesFirst, TalliesOver, TalliesSome}

-- one record more, which follows or doesn't

pub tallied_more : (setup : Setup) (c now next : Carry) (first : List Record) (r : Record) → TalliesOver setup c first now
    → follows_carry setup now r ≡ true → next ≡ carry_with setup r now → TalliesOver setup c (first ++ r ∷ []) next
tallied_more setup c now next first r over follows goes = record {
  fits = over.fits;
  follow = follow_append setup c first (r ∷ [])
      ∙ and_from _ _ over.follow
      (and_from _ _ (ap (λ d. follows_carry setup d r) (sym over.carry_is) ∙ follows) refl);
  carry_is = goes ∙ ap (carry_with setup r) over.carry_is ∙ sym (over_append setup c first (r ∷ []));
}

stops_here : (setup : Setup) (base : ℕ) (c now : Carry) (first later : List Record) (r : Record) (index : ℕ)
    → TalliesOver setup c first now → index ≡ base + length first → follows_carry setup now r ≡ false
    → StopsAt setup base c (first ++ r ∷ later) index
stops_here setup base c now first later r index over many refused =
    inr (
      over.fits,
      record {
        first = first;
        bad = r;
        later = later;
        all = refl;
        many = many;
        follow = over.follow;
        refused = ap (λ d. follows_carry setup d r) (sym over.carry_is) ∙ refused;
      },
    )

stops_still : (setup : Setup) (base : ℕ) (c : Carry) (rest more : List Record) (index : ℕ)
    → StopsAt setup base c rest index → StopsAt setup base c (rest ++ more) index
stops_still setup base c rest more index (inl unfit) = inl unfit
stops_still setup base c rest more index (inr (fits, bad)) =
    inr (
      fits,
      record {
        first = bad.first;
        bad = bad.bad;
        later = bad.later ++ more;
        all = ap (λ rs. rs ++ more) bad.all ∙ append_assoc bad.first (bad.bad ∷ bad.later) more;
        many = bad.many;
        follow = bad.follow;
        refused = bad.refused;
      },
    )

-- what goes over records that are shown one after another

going_on : (first old : ReplayState) (base : ℕ) (c : Carry) (before : List Record) (bad : Option ℕ)
    → old.bad ≡ bad → is_some bad ≡ false → ReplaysTo first base c before old
    → TalliesOver (tallies.setup_of old.tally) c (reverse before) (tallies.carry_in old.tally)
going_on first old base c before None is good over =
    subst (λ b. GoesOver b (tallies.setup_of old.tally) base c (reverse before) (tallies.carry_in old.tally)) is over.over
going_on first old base c before (Some index) is good over = absurd (true≢false good)

pub replay_follows : (first old now : ReplayState) (base : ℕ) (c : Carry) (before : List Record) (r : Record)
    → is_some old.bad ≡ false → tallies.setup_of now.tally ≡ tallies.setup_of old.tally
    → tallies.many_of now.tally ≡ tallies.many_of old.tally + 1
    → follows_carry (tallies.setup_of old.tally) (tallies.carry_in old.tally) r ≡ true
    → tallies.carry_in now.tally ≡ carry_with (tallies.setup_of old.tally) r (tallies.carry_in old.tally)
    → now.bad ≡ old.bad → ReplaysTo first base c before old → ReplaysTo first base c (r ∷ before) now
replay_follows first old now base c before r good setup many follows next same over =
    by_bad old.bad refl good
  where
    by_bad : (bad : Option ℕ) → old.bad ≡ bad → is_some bad ≡ false → ReplaysTo first base c (r ∷ before) now
    by_bad (Some index) is fine = absurd (true≢false fine)
    by_bad None is fine = record {
      setup = setup ∙ over.setup;
      counted = λ _. omega (arith, many, over.counted is);
      over = subst (λ b. GoesOver b (tallies.setup_of now.tally) base c (reverse (r ∷ before)) (tallies.carry_in now.tally))
          (sym (same ∙ is))
          (subst (λ s. TalliesOver s c (reverse (r ∷ before)) (tallies.carry_in now.tally)) (sym setup)
          (subst (λ rs. TalliesOver (tallies.setup_of old.tally) c rs (tallies.carry_in now.tally))
          (sym (reverse-append (r ∷ []) before))
          (tallied_more _ c _ _ (reverse before) r (going_on first old base c before None is refl over) follows next)));
    }

pub replay_stops : (first old now : ReplayState) (base : ℕ) (c : Carry) (before : List Record) (r : Record) (index : ℕ)
    → is_some old.bad ≡ false → tallies.setup_of now.tally ≡ tallies.setup_of old.tally
    → follows_carry (tallies.setup_of old.tally) (tallies.carry_in old.tally) r ≡ false → now.bad ≡ Some index
    → index ≡ base + length before → ReplaysTo first base c before old → ReplaysTo first base c (r ∷ before) now
replay_stops first old now base c before r index good setup refused bad many over = record {
  setup = setup ∙ over.setup;
  counted = λ fine. absurd (none_some (sym fine ∙ bad));
  over = subst (λ b. GoesOver b (tallies.setup_of now.tally) base c (reverse (r ∷ before)) (tallies.carry_in now.tally))
      (sym bad)
      (subst (λ s. StopsAt s base c (reverse (r ∷ before)) index) (sym setup)
      (subst (λ rs. StopsAt (tallies.setup_of old.tally) base c rs index) (sym (reverse-append (r ∷ []) before))
      (stops_here _ base c _ (reverse before) [] r index
      (going_on first old base c before old.bad refl good over)
      (many ∙ ap (λ n. base + n) (sym (length-reverse before))) refused)));
}
  where
    none_some : None ≡ Some index → ⊥
    none_some is = absurd cc

pub replay_stopped : (first old : ReplayState) (base : ℕ) (c : Carry) (before : List Record) (r : Record)
    → is_some old.bad ≡ true → ReplaysTo first base c before old → ReplaysTo first base c (r ∷ before) old
replay_stopped first old base c before r stopped over = by_bad old.bad refl stopped
  where
    by_bad : (bad : Option ℕ) → old.bad ≡ bad → is_some bad ≡ true → ReplaysTo first base c (r ∷ before) old
    by_bad None is some = absurd (true≢false (sym some))
    by_bad (Some index) is some = record {
      setup = over.setup;
      counted = λ good. absurd (none_some (sym good ∙ is));
      over = subst (λ b. GoesOver b (tallies.setup_of old.tally) base c (reverse (r ∷ before)) (tallies.carry_in old.tally))
          (sym is)
          (subst (λ rs. StopsAt (tallies.setup_of old.tally) base c rs index) (sym (reverse-append (r ∷ []) before))
          (stops_still _ base c (reverse before) (r ∷ []) index
          (subst (λ b. GoesOver b (tallies.setup_of old.tally) base c (reverse before) (tallies.carry_in old.tally)) is
          over.over)));
    }
      where
        none_some : None ≡ Some index → ⊥
        none_some same = absurd cc

-- records that are read, by their index

after_front : (front later : List Record) → slice_get (front ++ later) (length front) ≡ slice_get later 0
after_front [] later = refl
after_front (r ∷ front) later = after_front front later

first_there : (later : List Record) (entry : Record) → slice_get later 0 ≡ Some entry
    → (rest : List Record) × (later ≡ entry ∷ rest)
first_there [] entry is = absurd cc
first_there (r ∷ rest) entry is = (rest, cc)

next_there : (rest first later : List Record) (base index : ℕ) (entry : Record) → rest ≡ first ++ later
    → index ≡ base + length first → slice_get rest (index - base) ≡ Some entry
    → (more : List Record) × (later ≡ entry ∷ more)
next_there rest first later base index entry all many there =
    let place : length first ≡ index - base = omega (arith, many) in
    first_there later entry
    (sym (after_front first later) ∙ ap (slice_get (first ++ later)) place
    ∙ ap (λ rs. slice_get rs (index - base)) (sym all) ∙ there)

pub goes_next : (setup : Setup) (base : ℕ) (c now next : Carry) (rest : List Record) (index : ℕ) (entry : Record)
    → slice_get rest (index - base) ≡ Some entry → follows_carry setup now entry ≡ true
    → next ≡ carry_with setup entry now → TalliesFirst setup base c rest index now
    → TalliesFirst setup base c rest (index + 1) next
goes_next setup base c now next rest index entry there follows goes went =
    let more = next_there rest went.first went.later base index entry went.all went.many there in
    record {
      first = went.first ++ entry ∷ [];
      later = more.0;
      all = went.all ∙ ap (λ rs. went.first ++ rs) more.1 ∙ sym (append_assoc went.first (entry ∷ []) more.0);
      many = omega (arith, went.many, length-append went.first (entry ∷ []));
      over = tallied_more setup c now next went.first entry went.over follows goes;
    }

pub stops_next : (setup : Setup) (base : ℕ) (c now : Carry) (rest : List Record) (index : ℕ) (entry : Record)
    → slice_get rest (index - base) ≡ Some entry → follows_carry setup now entry ≡ false
    → TalliesFirst setup base c rest index now → StopsAt setup base c rest index
stops_next setup base c now rest index entry there refused went =
    let more = next_there rest went.first went.later base index entry went.all went.many there in
    subst (λ rs. StopsAt setup base c rs index) (sym (went.all ∙ ap (λ rs. went.first ++ rs) more.1))
    (stops_here setup base c now went.first more.0 entry index went.over went.many refused)

-- one that a read gives isn't read only where the disk failed
pub unread : (result : Result Unit ReadNo) (why : ReadNo) (setup : Setup) (base : ℕ) (P : List Record → Type 0)
    (Q : List Record → Carry → Type 0) → IsErr result × IsErrAnd result (λ e. e ≡ why)
    → ((rest : List Record) → P rest → why ≡ Disk)
    → IfErr result (λ e. (rest : List Record) → P rest → (c : Carry) → Q rest c → RefusesResume e setup base c rest)
unread (Ok done) why setup base P Q passed never = tt
unread (Err e) why setup base P Q passed never = λ rest reads c went.
    subst (λ n. RefusesResume n setup base c rest) (sym (passed.1 ∙ never rest reads)) tt

-- at the end
pub went_all : (setup : Setup) (base : ℕ) (c now : Carry) (rest : List Record) (index : ℕ) → index ≡ base + length rest
    → TalliesFirst setup base c rest index now → TalliesOver setup c rest now
went_all setup base c now rest index many went =
    let sum : length rest ≡ length went.first + length went.later = ap length went.all ∙ length-append went.first went.later in
    let none : went.later ≡ [] = nil_from_length went.later (omega (arith, sum, many, went.many)) in
    subst (λ rs. TalliesOver setup c rs now)
    (sym (went.all ∙ ap (λ rs. went.first ++ rs) none ∙ append-nil went.first)) went.over

-- at the beginning
pub went_none : (setup : Setup) (base : ℕ) (c : Carry) (rest : List Record) → Fits setup c
    → TalliesFirst setup base c rest base c
went_none setup base c rest fits = record {
  first = [];
  later = rest;
  all = refl;
  many = omega arith;
  over = record { fits = fits; follow = refl; carry_is = refl };
}

-- some records, whichever they are
pub some_more : (setup : Setup) (base : ℕ) (c now next : Carry) (index : ℕ) (entry : Record)
    → follows_carry setup now entry ≡ true → next ≡ carry_with setup entry now → TalliesSome setup base c index now
    → TalliesSome setup base c (index + 1) next
some_more setup base c now next index entry follows goes some = record {
  rest = some.rest ++ entry ∷ [];
  count = omega (arith, some.count, length-append some.rest (entry ∷ []));
  over = tallied_more setup c now next some.rest entry some.over follows goes;
}

pub some_none : (setup : Setup) (base : ℕ) (c : Carry) → Fits setup c → TalliesSome setup base c base c
some_none setup base c fits = record {
  rest = [];
  count = omega arith;
  over = record { fits = fits; follow = refl; carry_is = refl };
}

-- the same of another setup and another number, where these are the same
pub first_same : (s t : Setup) (a b : ℕ) (c now : Carry) (rest : List Record) (index : ℕ) → s ≡ t → a ≡ b
    → TalliesFirst s a c rest index now → TalliesFirst t b c rest index now
first_same s t a b c now rest index setup base went =
    subst (λ x. TalliesFirst x b c rest index now) setup (subst (λ n. TalliesFirst s n c rest index now) base went)
