-- A life has a point for each of the first ones of its records.
use Rattle.std.proofs.Common.{◌≡◌, ◌⊎◌, ◌≤◌, ◌+◌, inl, inr, ℕ, suc, ◌==◌, Bool, true, false, List, [], ◌∷◌, ◌++◌, length, reverse, refl, sym, ap, ◌∙◌, subst, append_assoc, eqb-true, arith}
use Rattle.std.specs.List.{All}
use Rattle.std.proofs.lemmas.Bool.Decides.{nat_tests}
use Rattle.std.proofs.lemmas.Grind.{reverse_onto}
use Rattle.std.proofs.lemmas.List.{length-append}
use Rattle.std.proofs.lemmas.List.Elements.{All-cons, All-head, All-nil, All-tail}
use Rattle.cct_journal.specs.declared.format.TheConstants.{MOST_RECORDS}
use Rattle.cct_journal.specs.Image.{StandsFor}
use Rattle.cct_model.specs.Carry.{carry_of}
use Rattle.cct_model.specs.Records.{records}
use Rattle.cct_model.specs.terms.device.Setup.{Setup}
use Rattle.cct_model.specs.lines.entry.Entry.{Entry}
use Rattle.cct_model.specs.lines.entry.Entry.TheVariants as entry
use Rattle.cct_model.specs.lines.record.Record.{Record}
use Rattle.cct_laws_live.specs.Life.{IsLife, IsLifeStep}
use Rattle.cct_laws_live.specs.Live.{LiveFrom, started}
use Rattle.cct_laws_live.specs.LiveStep.{LiveStep}
use Rattle.cct_laws_live.proofs.Joining.{put_again}
use Rattle.cct_laws_live_devices.specs.Chain.{Chain, gave_question, gave_told, not_begun, told_besides}
use Rattle.cct_live_service.specs.Since.{StandsForFirst}
use Rattle.cct_laws_live_service.specs.Killed.{Point}
use Rattle.cct_laws_live_service.proofs.Puts.{records_grow, step_puts}

-- two ends of one list that are of one length
same_end : {A : Type 0} (a b c d : List A) → a ++ b ≡ c ++ d → length b ≡ length d → b ≡ d
same_end [] b [] d is long = is
same_end [] b (x ∷ c) d is long =
    absurd (omega (arith, long, ap length is, length-append (x ∷ c) d))
same_end (x ∷ a) b [] d is long =
    absurd (omega (arith, long, ap length is, length-append (x ∷ a) b))
same_end (x ∷ a) b (y ∷ c) d is long = same_end a b c d (rest is) long
  where
    rest : (x ∷ (a ++ b)) ≡ (y ∷ (c ++ d)) → a ++ b ≡ c ++ d
    rest e = cc

-- and two beginnings before one end
same_begin : {A : Type 0} (a b end : List A) → a ++ end ≡ b ++ end → a ≡ b
same_begin [] [] end is = refl
same_begin [] (y ∷ b) end is = absurd (omega (arith, ap length is, length-append (y ∷ b) end))
same_begin (x ∷ a) [] end is = absurd (omega (arith, ap length is, length-append (x ∷ a) end))
same_begin {A} (x ∷ a) (y ∷ b) end is = both (first is) (same_begin a b end (rest is))
  where
    first : (x ∷ (a ++ end)) ≡ (y ∷ (b ++ end)) → x ≡ y
    first e = cc

    rest : (x ∷ (a ++ end)) ≡ (y ∷ (b ++ end)) → a ++ end ≡ b ++ end
    rest e = cc

    both : x ≡ y → a ≡ b → (x ∷ a) ≡ (y ∷ b)
    both e f = cc

-- a chain, cut where some of its entries were reported
pub chain_cut : {L : Type 0} (gives : L → List ℕ → List ℕ → L → Type 0) (first last : L) (all more news : List Entry) →
    all ≡ more ++ news → Chain gives first all last → (line : L) × Chain gives first news line × Chain gives line more last
chain_cut gives first last all [] news is chain = (last, subst (λ es. Chain gives first es last) is chain, not_begun)
chain_cut gives first last _ (e ∷ more) news is not_begun = absurd (clash is)
  where
    clash : [] ≡ (e ∷ (more ++ news)) → ⊥
    clash same = cc
chain_cut gives first last _ (e ∷ more) news is (gave_told past addr sent heard line next goes given) =
    let cut = chain_cut gives first line past more news (rest is) goes in (
      cut.0,
      cut.1,
      subst (λ x. Chain gives cut.0 (x ∷ more) next) (head is)
          (gave_told more addr sent heard line next cut.2 given),
    )
  where
    head : (entry.Wire addr sent heard ∷ past) ≡ (e ∷ (more ++ news)) → entry.Wire addr sent heard ≡ e
    head same = cc

    rest : (entry.Wire addr sent heard ∷ past) ≡ (e ∷ (more ++ news)) → past ≡ more ++ news
    rest same = cc
chain_cut gives first last _ (e ∷ more) news is (told_besides past other line goes besides) =
    let cut = chain_cut gives first line past more news (rest is) goes in (
      cut.0,
      cut.1,
      subst (λ x. Chain gives cut.0 (x ∷ more) line) (head is) (told_besides more other line cut.2 besides),
    )
  where
    head : (other ∷ past) ≡ (e ∷ (more ++ news)) → other ≡ e
    head same = cc

    rest : (other ∷ past) ≡ (e ∷ (more ++ news)) → past ≡ more ++ news
    rest same = cc
chain_cut gives first last _ (e ∷ more) news is (gave_question past sent heard line next goes asks given) =
    let cut = chain_cut gives first line past (e ∷ more) news is goes in
    (cut.0, cut.1, gave_question (e ∷ more) sent heard line next cut.2 asks given)

-- a past goes on by what is reported
live_told : (capacity : ℕ) (setup : Setup) (steps : List LiveStep) (past end : List Entry) →
    LiveFrom capacity setup past steps end → (told : List Entry) × (end ≡ told ++ past)
live_told capacity setup [] past end is = ([], is)
live_told capacity setup (s ∷ steps) past end is =
    let rest = live_told capacity setup steps (is.0 ++ past) end is.2 in
    (rest.0 ++ is.0, rest.1 ∙ sym (append_assoc rest.0 is.0 past))

-- one more of some, up to so many
one_nearer : (n m most : ℕ) → n ≤ suc m → m ≤ most → (m == most) ≡ false → n ≤ most
one_nearer n m most one low other = grind (arith, nat_tests, one, low, other)

at_least : (a b : List Record) → length b ≤ length (a ++ b)
at_least a b = omega (arith, length-append a b)

-- a past that goes on to an end, up to where it has so many records
record Reached (capacity : ℕ) (setup : Setup) (past end : List Entry) (n : ℕ) : Type 0 where
  done : List LiveStep
  are : All IsLifeStep done
  news : List Entry
  more : List Entry
  end_is : end ≡ more ++ (news ++ past)
  live : LiveFrom capacity setup past done (news ++ past)
  count : length (records (news ++ past)) ≡ n

reach : (capacity : ℕ) (setup : Setup) (steps : List LiveStep) (past end : List Entry) (n : ℕ) → All IsLifeStep steps →
    LiveFrom capacity setup past steps end → length (records past) ≤ n → n ≤ length (records end) →
    Reached capacity setup past end n
reach capacity setup [] past end n all is low high = record {
  done = [];
  are = All-nil IsLifeStep;
  news = [];
  more = [];
  end_is = is;
  live = refl;
  count = omega (arith, low, high, ap (λ es. length (records es)) is);
}
reach capacity setup (s ∷ steps) past end n all is low high =
    by_test (length (records past) == n) refl
    (λ near. reach capacity setup steps (is.0 ++ past) end n (All-tail IsLifeStep s steps all) is.2 near high)
  where
    by_test : (here : Bool) → (length (records past) == n) ≡ here →
        (length (records (is.0 ++ past)) ≤ n → Reached capacity setup (is.0 ++ past) end n) → Reached capacity setup past end n
    by_test true test further =
        let told = live_told capacity setup (s ∷ steps) past end is in
        record {
          done = [];
          are = All-nil IsLifeStep;
          news = [];
          more = told.0;
          end_is = told.1;
          live = refl;
          count = eqb-true (length (records past)) n test;
        }
    by_test false test further =
        let one = step_puts capacity setup past is.0 s (All-head IsLifeStep s steps all) is.1 in
        let later =
        further (one_nearer (length (records (is.0 ++ past))) (length (records past)) n one low test) in
        record {
          done = s ∷ later.done;
          are = All-cons IsLifeStep s later.done (All-head IsLifeStep s steps all) later.are;
          news = later.news ++ is.0;
          more = later.more;
          end_is = later.end_is ∙ ap (λ es. later.more ++ es) (sym (append_assoc later.news is.0 past));
          live = (
            is.0,
            is.1,
            subst (LiveFrom capacity setup (is.0 ++ past) later.done) (sym (append_assoc later.news is.0 past)) later.live,
          );
          count = subst (λ es. length (records es) ≡ n) (sym (append_assoc later.news is.0 past)) later.count;
        }

module _ {L : Type 0} (gives : L → List ℕ → List ℕ → L → Type 0) (setup : Setup) (found : List Record) (first last : L)
    (steps : List LiveStep) (told : List Entry) (life : IsLife MOST_RECORDS setup found steps (told ++ started found))
    (chain : Chain gives first told last) where
  -- its end is a point
  abbrev pub point_end : Point gives setup found first last told
  point_end = record {
    steps = steps;
    news = told;
    more = [];
    told_are = refl;
    life = life;
    line = last;
    before = chain;
    after = not_begun;
  }

  -- and there is one for the first ones of its records
  pub point_at : (later put : List Record) → records (told ++ started found) ≡ later ++ (put ++ found) →
      (point : Point gives setup found first last told) × (records (point.news ++ started found) ≡ put ++ found)
  point_at later put all =
      let r = reach MOST_RECORDS setup steps (started found) (told ++ started found) (length (put ++ found)) life.steps_are
      life.live (subst (λ rs. length rs ≤ length (put ++ found)) (sym (put_again found)) (at_least put found))
      (subst (λ rs. length (put ++ found) ≤ length rs) (sym all) (at_least later (put ++ found))) in
      let told_are = same_begin told (r.more ++ r.news) (started found)
      (r.end_is ∙ sym (append_assoc r.more r.news (started found))) in
      let grown = records_grow r.more (r.news ++ started found) in
      let cut = chain_cut gives first last told r.more r.news told_are chain in (
        record {
          steps = r.done;
          news = r.news;
          more = r.more;
          told_are = told_are;
          life = record { follow = life.follow; steps_are = r.are; live = r.live };
          line = cut.0;
          before = cut.1;
          after = cut.2;
        },
        same_end grown.0 (records (r.news ++ started found)) later (put ++ found)
            (sym grown.1 ∙ ap records (sym r.end_is) ∙ all) r.count,
      )

-- an image that stands for the first ones of records and one more, which stands for all of them or for the first ones of those
pub one_due : (setup : Setup) (found rs : List Record) (r : Record) (image : List ℕ) (later put : List Record) →
    r ∷ rs ≡ later ++ (put ++ found) → StandsFor (carry_of setup) image (reverse (put ++ found)) →
    StandsFor (carry_of setup) image (reverse rs ++ r ∷ []) ⊎ StandsForFirst setup found rs image
one_due setup found rs r image [] put all stands =
    inl (subst (StandsFor (carry_of setup) image) (reverse_onto rs r [])
    (subst (λ all. StandsFor (carry_of setup) image (reverse all)) (sym all) stands))
one_due setup found rs r image (x ∷ later) put all stands =
    inr (record { later = later; put = put; all_are = rest all; stands = stands })
  where
    rest : (r ∷ rs) ≡ (x ∷ (later ++ (put ++ found))) → rs ≡ later ++ (put ++ found)
    rest e = cc
