-- What is found on a disk on which a journal of an older version may stand.
use Rattle.std.proofs.Common.{◌≡◌, ◌≢◌, ⊎_elim, ℕ, ◌+◌, ◌≤◌, Bool, false, not, Option, Some, None, List, length, take}
use Rattle.std.proofs.Common.{refl, sym, ◌∙◌, ap, subst, arith, MatchOption, IfSome, IfNone}
use Rattle.std.proofs.lemmas.Bool.{cases_lt}
use Rattle.cct_model_lines.specs.Carried.{empty_carry}
use Rattle.cct_model_lines.specs.declared.carry.Carry.{Carry}
use Rattle.cct_model_lines.specs.declared.record.Record.{Record}
use Rattle.cct_disk.specs.Disk.{Holds}
use Rattle.cct_journal.specs.Fronts.{IsCurrentHalf, before_records}
use Rattle.cct_journal.specs.Half.{IsCurrent, half, has_open_gate, slots_in, version_in, window}
use Rattle.cct_journal.specs.Image.{IsAlien, least_size}
use Rattle.cct_journal.specs.OldImage.{BeginsSecond, HasNoOld, HasOldFrom, HasOldHalf, HasOldPlace, IsOldHeaded, OldBegins, bodies_at, first_header, number_of, old_bodies}
use Rattle.cct_journal.specs.OldStands.{HasFreeHalf, HasNoRoom, MayBeCounted, OldBeginsAt, OldCounts, OldReadsFrom, OldReadsUpTo, OldStands, RefusesOld, first_at}
use Rattle.cct_journal.specs.Start.{Begins}
use Rattle.cct_journal.specs.declared.format.TheConstants.{START}
use Rattle.cct_journal.specs.declared.old_place.OldPlace.{OldPlace}
use Rattle.cct_journal.specs.declared.old_place.OldVersion.{OldVersion}
use Rattle.cct_journal.specs.declared.old_place.OldVersion.TheVariants.{One, Two}
use Rattle.cct_journal.specs.declared.opening.Current.{Current}
use Rattle.cct_journal.specs.declared.refusal.OldNo.{OldNo}
use Rattle.cct_journal.specs.declared.refusal.OldNo.TheVariants.{Disk, Alien, NoRoom}
use Rattle.cct_journal.specs.declared.refusal.OldNo.TheVariants as opening
use Rattle.cct_journal.specs.declared.start.Start.{Start}
use Rattle.cct_record.specs.CarryBody.{bodies_of}
use Rattle.cct_journal.proofs.Blanks.{empty_rightly}
use Rattle.cct_journal.proofs.Currents.{same_half}
use Rattle.cct_journal.proofs.Heads.{begun_version}
use Rattle.cct_journal.proofs.OldBodies.{spelt_many}
use Rattle.cct_journal.proofs.OldHeads.{half_second, old_not_today, old_version, one_old_head, over_old_head, second_in_half}

-- What is reported is one image.
some_is : {x y : List ℕ} → Some x ≡ Some y → x ≡ y
some_is {x} {y} same = cc

-- Without a current half an image has no journal of any version.
pub none_alien : (image : List ℕ) → ((second : Bool) → IsCurrent second image → ⊥) → RefusesOld Alien image
none_alien image none = (
  λ second generation base carry headed. none second headed.current,
  λ version second generation base carry headed. none second headed.current,
)

-- A current half of one version is none of another one.
module _ (image : List ℕ) (found : Current) (current : IsCurrentHalf image found) where
  -- Where it has an older version, the image isn't one of today.
  pub none_today : found.version ≢ 3 → IsAlien image
  none_today other second generation base carry headed =
      let half_is : second ≡ found.second = same_half image second found.second headed.current current.current in
      other (current.version_is ∙ ap (λ s. version_in (half image s)) (sym half_is)
      ∙ begun_version 3 generation base (bodies_of carry) (half image second) headed.begins.starts)

  -- Where no half of its version begins so, it isn't one of an older version.
  pub none_old : ((version : OldVersion) → found.version ≡ number_of version → (generation base : ℕ) (carry : Carry)
      → OldBegins version found.second generation base carry (half image found.second) → ⊥) → HasNoOld image
  none_old none version second generation base carry headed =
      let half_is : second ≡ found.second = same_half image second found.second headed.current current.current in
      none version
      (current.version_is ∙ ap (λ s. version_in (half image s)) (sym half_is)
      ∙ old_version version second generation base carry (half image second) headed.begins)
      generation base carry
      (subst (λ s. OldBegins version s generation base carry (half image s)) half_is headed.begins)

  -- So an image whose current half has version 1, and not its header, has none,
  pub first_alien : found.version ≡ 1 → (take 32 (half image found.second) ≡ first_header → ⊥) → RefusesOld Alien image
  first_alien is none = (none_today (λ three. absurd (omega (arith, is, three))), none_old by_version)
    where
      by_version : (version : OldVersion) → found.version ≡ number_of version → (generation base : ℕ) (carry : Carry)
          → OldBegins version found.second generation base carry (half image found.second) → ⊥
      by_version One same generation base carry begins = none begins.starts
      by_version Two same generation base carry begins = omega (arith, is, same)

  -- and one whose current half has version 2, and no start of it,
  pub second_alien : found.version ≡ 2
      → ((generation base : ℕ) (carry : Carry) → BeginsSecond found.second generation base carry (half image found.second) → ⊥)
      → RefusesOld Alien image
  second_alien is none = (none_today (λ three. absurd (omega (arith, is, three))), none_old by_version)
    where
      by_version : (version : OldVersion) → found.version ≡ number_of version → (generation base : ℕ) (carry : Carry)
          → OldBegins version found.second generation base carry (half image found.second) → ⊥
      by_version One same generation base carry begins = absurd (omega (arith, is, same))
      by_version Two same generation base carry begins = none generation base carry begins

  -- and one whose current half has neither, and no start of today.
  pub today_alien : found.version ≢ 1 → found.version ≢ 2
      → ((generation base : ℕ) (carry : Carry) → Begins found.second generation base carry (half image found.second) → ⊥)
      → RefusesOld Alien image
  today_alien first second none = (by_today, none_old by_version)
    where
      by_today : IsAlien image
      by_today side generation base carry headed =
          let half_is : side ≡ found.second = same_half image side found.second headed.current current.current in
          none generation base carry (subst (λ s. Begins s generation base carry (half image s)) half_is headed.begins)

      by_version : (version : OldVersion) → found.version ≡ number_of version → (generation base : ℕ) (carry : Carry)
          → OldBegins version found.second generation base carry (half image found.second) → ⊥
      by_version One same generation base carry begins = first same
      by_version Two same generation base carry begins = second same

-- What begins as version 1 does begins the first half.
pub first_is_first : (image : List ℕ) (found : Current) → IsCurrentHalf image found → found.version ≡ 1
    → found.second ≡ false
first_is_first image found current is =
    ⊎_elim (λ first. first.1)
    (λ others. absurd (⊎_elim (λ two. omega (arith, two, is, current.version_is))
    (λ three. omega (arith, three, is, current.version_is)) others)) current.current.is_open.version_is

-- So a journal of version 1 begins there.
pub first_begins : (image : List ℕ) (found : Current) → least_size ≤ length image → IsCurrentHalf image found
    → found.version ≡ 1 → take 32 (half image false) ≡ first_header → OldBeginsAt image (first_at found.other_open)
first_begins image found long current is starts =
    let side : found.second ≡ false = first_is_first image found current is in record {
      headed = record {
        long = long;
        current = subst (λ s. IsCurrent s image) side current.current;
        begins = record {
          first = refl;
          none_turned = refl;
          none_before = refl;
          none_carried = refl;
          starts = starts;
        };
      };
      other_gate = ap (λ s. has_open_gate (half image (not s))) (sym side) ∙ current.other_gate;
    }

-- It may be counted.
pub first_counted : (size : ℕ) (other_open : Bool) → least_size ≤ size → MayBeCounted size (first_at other_open)
first_counted size other_open long = record {
  long = long;
  begins = record { parity = refl; turned = omega arith; base_fits = omega arith; rightly = empty_rightly };
}

-- And so one of version 2 begins.
pub second_begins : (image : List ℕ) (found : Current) (start : Start) → least_size ≤ length image
    → IsCurrentHalf image found
    → BeginsSecond found.second start.generation start.base start.carry (half image found.second)
    → OldBeginsAt image (record { version = Two; place = before_records found start })
second_begins image found start long current begins = record {
  headed = record { long = long; current = current.current; begins = begins };
  other_gate = current.other_gate;
}

-- What is neither of version 1 nor of version 2 is of today.
pub version_three : (image : List ℕ) (found : Current) → IsCurrentHalf image found → found.version ≢ 1
    → found.version ≢ 2 → found.version ≡ 3
version_three image found current first second =
    ⊎_elim (λ one. absurd (first (current.version_is ∙ one.0)))
    (λ others. ⊎_elim (λ two. absurd (second (current.version_is ∙ two))) (λ three. current.version_is ∙ three) others)
    current.current.is_open.version_is

-- What was read of the first bytes of a half of version 2 is what was read of the half.
pub second_read : (second : Bool) (bytes whole : List ℕ) (found : Option Start) → bytes ≡ window 0 START whole
    → IfSome found (λ s. BeginsSecond second s.generation s.base s.carry bytes)
    → IfNone found ((generation base : ℕ) (carry : Carry) → BeginsSecond second generation base carry bytes → ⊥)
    → MatchOption found
    ((generation base : ℕ) (carry : Carry) → BeginsSecond second generation base carry whole → ⊥)
    (λ s. BeginsSecond second s.generation s.base s.carry whole)
second_read second bytes whole None read some none =
    λ generation base carry begins. none generation base carry
    (half_second second generation base carry bytes whole read begins)
second_read second bytes whole (Some s) read some none =
    second_in_half second s.generation s.base s.carry bytes whole read some

-- A journal of version 1 with too many open slots.
pub no_room : (version : OldVersion) (image : List ℕ) (second : Bool) (generation base used : ℕ) (carry : Carry)
    → IsOldHeaded image version second generation base carry
    → used ≡ base + length (old_bodies version image second base)
    → (HasFreeHalf version (length image) used → ⊥) → HasNoRoom image used
no_room Two image second generation base used carry headed count full = absurd (full tt)
no_room One image second generation base used carry headed count full =
    let begins = headed.begins in
    let all : used ≡ 0 + length (old_bodies One image false 0) =
    subst (λ b. used ≡ b + length (old_bodies One image false b)) begins.none_before count in
    record {
      headed =
          subst (λ c. IsOldHeaded image One false 0 0 c) begins.none_carried
          (subst (λ b. IsOldHeaded image One false 0 b carry) begins.none_before
          (subst (λ g. IsOldHeaded image One false g base carry) begins.none_turned
          (subst (λ s. IsOldHeaded image One s generation base carry) begins.first headed)));
      count = omega (arith, all);
      full = ⊎_elim (λ is. is) (λ room. absurd (full room)) (cases_lt (slots_in (length image)) (used + 2));
    }

-- What is an old journal with a free half isn't refused.
pub never_old : (why : OldNo) (image : List ℕ) (version : OldVersion) (second : Bool) (generation base : ℕ)
    (carry : Carry) → RefusesOld why image → IsOldHeaded image version second generation base carry
    → HasFreeHalf version (length image) (base + length (old_bodies version image second base)) → why ≡ Disk
never_old Disk image version second generation base carry refuses headed free = refl
never_old Alien image version second generation base carry refuses headed free =
    absurd (refuses.1 version second generation base carry headed)
never_old opening.Current image version second generation base carry today headed free =
    absurd (old_not_today image version second today.second generation today.generation base today.base carry today.carry
    headed today.headed)
never_old (NoRoom used) image version second generation base carry none headed free =
    let one = one_old_head image version One second false generation 0 base 0 carry empty_carry headed none.headed in
    let here : HasFreeHalf One (length image) (0 + length (old_bodies One image false 0)) =
    over_old_head (λ v s g b c. HasFreeHalf v (length image) (b + length (old_bodies v image s b))) one free in
    absurd (omega (arith, here, none.full, none.count))

-- An image of an older version has its records at the place that was found.
pub found_from : {D : Type 0} (seen : D → Option (List ℕ)) (before disk : D) (old : OldPlace) (image : List ℕ) (base : ℕ)
    (carry : Carry) (rest : List Record) → seen before ≡ Some image → seen disk ≡ Some image → OldCounts seen before old
    → HasOldFrom image base carry rest
    → (base ≡ old.place.base) × (carry ≡ old.place.carry) × OldReadsFrom seen disk old rest
found_from seen before disk old image base carry rest was told counts from =
    let same : counts.image ≡ image = some_is (sym counts.tells ∙ was) in
    let headed = subst (λ (c : List ℕ). IsOldHeaded c old.version old.place.second old.place.generation old.place.base
    old.place.carry) same counts.headed in
    let one = one_old_head image from.version old.version from.second old.place.second from.generation
    old.place.generation base old.place.base carry old.place.carry from.current.headed headed in
    let has : HasOldPlace image old rest = over_old_head (λ v s g b c. HasOldHalf image v s g b c rest) one from.current in
    let count : old.place.used ≡ old.place.base + length (bodies_at old image) =
    subst (λ (c : List ℕ). old.place.used ≡ old.place.base + length (bodies_at old c)) same counts.count in (
      one.base_is,
      one.carry_is,
      record {
        image = image;
        tells = told;
        has = has;
        count = omega (arith, count, spelt_many rest (bodies_at old image) has.records_are);
      },
    )

-- And where no power cut leaves anything else, the journal represents them.
pub found_stands : {D : Type 0} (honest : D → Bool) (seen : D → Option (List ℕ)) (may_leave : D → List ℕ → Type 0)
    (disk : D) (old : OldPlace) (image : List ℕ) (rest : List Record) → Holds honest seen may_leave disk image
    → has_open_gate (half image (not old.place.second)) ≡ old.place.other_open → OldReadsFrom seen disk old rest
    → OldStands honest seen may_leave disk old rest
found_stands honest seen may_leave disk old image rest held gate reads =
    let same : reads.image ≡ image = some_is (sym reads.tells ∙ held.tells) in record {
      image = image;
      held = held;
      has = subst (λ (c : List ℕ). HasOldPlace c old rest) same reads.has;
      count = reads.count;
      other_gate = gate;
    }

-- A disk that is only read shows the same of the records up to an index.
pub up_same : {D : Type 0} {seen : D → Option (List ℕ)} {before disk : D} (old : OldPlace) (index : ℕ)
    (records : List Record) → seen disk ≡ seen before → OldReadsUpTo seen before old index records
    → OldReadsUpTo seen disk old index records
up_same old index records same reads = record {
  counts = record {
    image = reads.counts.image;
    tells = same ∙ reads.counts.tells;
    headed = reads.counts.headed;
    count = reads.counts.count;
    free = reads.counts.free;
  };
  count = reads.count;
  spelt = reads.spelt;
}
