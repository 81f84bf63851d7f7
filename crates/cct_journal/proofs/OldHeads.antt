-- What a half of an older version begins with: an image has one such beginning at most.
use Rattle.std.proofs.Common.{◌≡◌, ℕ, ◌^◌, ◌<◌, ◌≤◌, Bool, List, [], ◌∷◌, length, map, take, slice_index}
use Rattle.std.proofs.Common.{cond, ◌==◌, refl, sym, ◌∙◌, ap, subst, arith, get_or-take}
use Rattle.std.proofs.lemmas.List.{length-take-le, take-take, take_all}
use Rattle.cct_model_lines.specs.declared.carry.Carry.{Carry}
use Rattle.cct_model_lines.specs.declared.carry.CarryEpoch.{CarryEpoch}
use Rattle.cct_record.specs.CarryBody.{bodies_of, order_body}
use Rattle.cct_record.specs.OldCarryBody.{OldSpellsCarry, OldSpellsNone, old_bodies_of, old_epoch_body}
use Rattle.cct_record.proofs.OldCarryBack.{old_bodies_few, one_old_carry}
use Rattle.cct_journal.specs.Half.{generation_in, half, turns_in, version_in}
use Rattle.cct_journal.specs.Start.{start_with}
use Rattle.cct_journal.specs.StartReading.{base_in, bodies_in, count_in}
use Rattle.cct_journal.specs.Image.{IsHeaded}
use Rattle.cct_journal.specs.OldImage.{BeginsFirst, BeginsSecond, IsOldHeaded, MayBeginOld, OldBegins, number_of}
use Rattle.cct_journal.specs.declared.format.TheConstants.{START}
use Rattle.cct_journal.specs.declared.old_place.OldVersion.{OldVersion}
use Rattle.cct_journal.specs.declared.old_place.OldVersion.TheVariants.{One, Two}
use Rattle.cct_journal.proofs.Beginnings.{generation_by}
use Rattle.cct_journal.proofs.Currents.{same_half}
use Rattle.cct_journal.proofs.Sides.{half_long}
use Rattle.cct_journal.proofs.Heads.{AreBodies, base_back, begun_tells, begun_version, bodies_back, both_bodies, count_there, generation_back}
use Rattle.cct_journal.proofs.Heads.{order_bodies, sums_long}

-- The bodies of old epochs have 31 bytes each.
old_epoch_bodies : (es : List CarryEpoch) → AreBodies (map old_epoch_body es)
unfolding old_epoch_body
old_epoch_bodies [] = tt
old_epoch_bodies (e ∷ es) = (refl, old_epoch_bodies es)

-- And so has each old body of a carry.
old_carry_bodies : (c : Carry) → AreBodies (old_bodies_of c)
old_carry_bodies c =
    let long = sums_long c in (
      long.0,
      (
        long.1,
        (
          long.2,
          both_bodies (map old_epoch_body c.epochs) (map order_body c.orders)
              (old_epoch_bodies c.epochs) (order_bodies c.orders),
        ),
      ),
    )

-- The bytes with which a half of version 2 begins are those of its numbers and of the bodies of its carry.
module _ (second : Bool) (generation base : ℕ) (carry : Carry) (bytes : List ℕ)
    (begins : BeginsSecond second generation base carry bytes) where
  -- Its bodies have 31 bytes each.
  pub second_bodies : AreBodies begins.carried
  second_bodies = subst AreBodies begins.spelt.spelt (old_carry_bodies carry)

  pub second_few : length begins.carried ≤ 35
  second_few = old_bodies_few base carry begins.carried begins.spelt

  pub second_generation : generation < 2 ^ 32
  second_generation = omega (arith, begins.may.turned, begins.may.base_fits)

  pub second_base : base < 2 ^ 32
  second_base = omega (arith, begins.may.base_fits)

  -- It has that version.
  pub second_version : version_in bytes ≡ 2
  second_version = begun_version 2 generation base begins.carried bytes begins.starts

  module _ (whole : length bytes ≡ START) where
    -- All bytes are these.
    pub second_whole : start_with 2 generation base begins.carried ≡ bytes
    second_whole = sym begins.starts ∙ take_all START bytes (omega arith)

    -- They show its numbers and the bodies of its carry.
    pub second_turns : turns_in bytes ≡ generation
    second_turns = ap turns_in (sym second_whole) ∙ generation_back 2 generation base begins.carried second_generation

    pub second_base_in : base_in bytes ≡ base
    second_base_in = ap base_in (sym second_whole) ∙ base_back 2 generation base begins.carried second_base

    pub second_count : count_in bytes ≡ length begins.carried
    second_count = ap count_in (sym second_whole) ∙ count_there 2 generation base begins.carried

    pub second_carried : bodies_in (count_in bytes) bytes ≡ begins.carried
    second_carried =
        ap (λ (l : List ℕ). bodies_in (count_in l) l) (sym second_whole)
        ∙ bodies_back 2 generation base begins.carried second_bodies

-- No half of version 2 begins with bytes in which no carry of it stands.
pub second_none : (second : Bool) (bytes : List ℕ) (many : ℕ) (bodies : List (List ℕ)) → length bytes ≡ START
    → many ≡ base_in bytes → bodies ≡ bodies_in (count_in bytes) bytes → OldSpellsNone many bodies
    → (generation base : ℕ) (carry : Carry) → BeginsSecond second generation base carry bytes → ⊥
second_none second bytes many bodies whole many_is are none generation base carry begins =
    none carry
    (subst (λ k. OldSpellsCarry k carry bodies)
    (sym (many_is ∙ second_base_in second generation base carry bytes begins whole))
    (subst (λ bs. OldSpellsCarry base carry bs)
    (sym (are ∙ second_carried second generation base carry bytes begins whole)) begins.spelt))

-- Nor does one with more bodies than a carry has.
pub second_fewer : (second : Bool) (bytes : List ℕ) → length bytes ≡ START → 35 < count_in bytes
    → (generation base : ℕ) (carry : Carry) → BeginsSecond second generation base carry bytes → ⊥
second_fewer second bytes whole more generation base carry begins =
    omega (
      arith,
      more,
      second_count second generation base carry bytes begins whole,
      second_few second generation base carry bytes begins,
    )

-- It begins with the numbers that stand there, and the carry that they spell.
pub second_so : (second : Bool) (generation base : ℕ) (c : Carry) (bytes : List ℕ) (bodies : List (List ℕ))
    → length bytes ≡ START → OldSpellsCarry base c bodies → MayBeginOld second generation base c
    → start_with 2 generation base bodies ≡ bytes → BeginsSecond second generation base c bytes
second_so second generation base c bytes bodies whole spelt may is = record {
  may = may;
  carried = bodies;
  spelt = spelt;
  starts = take_all START bytes (omega arith) ∙ sym is;
}

-- It begins with no other ones.
pub second_no_other : (second : Bool) (generation base : ℕ) (c : Carry) (bytes : List ℕ) (bodies : List (List ℕ))
    → length bytes ≡ START → generation ≡ turns_in bytes → base ≡ base_in bytes
    → bodies ≡ bodies_in (count_in bytes) bytes → OldSpellsCarry base c bodies
    → ((MayBeginOld second generation base c × (start_with 2 generation base bodies ≡ bytes)) → ⊥)
    → (more basis : ℕ) (carry : Carry) → BeginsSecond second more basis carry bytes → ⊥
second_no_other second generation base c bytes bodies whole turns bases are spelt not more basis carry begins =
    let same_turns : more ≡ generation =
    sym (turns ∙ second_turns second more basis carry bytes begins whole) in
    let same_base : basis ≡ base = sym (bases ∙ second_base_in second more basis carry bytes begins whole) in
    let same_bodies : begins.carried ≡ bodies =
    sym (are ∙ second_carried second more basis carry bytes begins whole) in
    let same_carry : carry ≡ c =
    one_old_carry carry c basis base bodies (second_base second more basis carry bytes begins)
    (omega (arith, same_base, second_base second more basis carry bytes begins))
    (subst (λ bs. OldSpellsCarry basis carry bs) same_bodies begins.spelt) spelt in
    not (
      subst (λ x. MayBeginOld second generation base x) same_carry
          (subst (λ b. MayBeginOld second generation b carry) same_base
          (subst (λ g. MayBeginOld second g basis carry) same_turns begins.may)),
      ap (λ g. start_with 2 g base bodies) (sym same_turns) ∙ ap (λ b. start_with 2 more b bodies) (sym same_base)
          ∙ ap (λ bs. start_with 2 more basis bs) (sym same_bodies)
          ∙ second_whole second more basis carry bytes begins whole,
    )

-- What a half of version 2 begins with is in its first bytes.
pub second_in_half : (second : Bool) (generation base : ℕ) (carry : Carry) (bytes whole : List ℕ)
    → bytes ≡ take START whole → BeginsSecond second generation base carry bytes
    → BeginsSecond second generation base carry whole
second_in_half second generation base carry bytes whole read begins = record {
  may = begins.may;
  carried = begins.carried;
  spelt = begins.spelt;
  starts = sym (take-take START START whole (omega arith)) ∙ ap (λ (l : List ℕ). take START l) (sym read) ∙ begins.starts;
}

-- And these begin so where the half does.
pub half_second : (second : Bool) (generation base : ℕ) (carry : Carry) (bytes whole : List ℕ)
    → bytes ≡ take START whole → BeginsSecond second generation base carry whole
    → BeginsSecond second generation base carry bytes
half_second second generation base carry bytes whole read begins = record {
  may = begins.may;
  carried = begins.carried;
  spelt = begins.spelt;
  starts = ap (λ (l : List ℕ). take START l) read ∙ take-take START START whole (omega arith) ∙ begins.starts;
}

-- The version of what begins as version 1 does.
pub first_version : (second : Bool) (generation base : ℕ) (carry : Carry) (bytes : List ℕ)
    → BeginsFirst second generation base carry bytes → version_in bytes ≡ 1
first_version second generation base carry bytes begins =
    sym (get_or-take 32 bytes 15 0 (omega arith)) ∙ ap (λ (l : List ℕ). slice_index l 15) begins.starts

-- A half that begins as an older version does has that version.
pub old_version : (version : OldVersion) (second : Bool) (generation base : ℕ) (carry : Carry) (bytes : List ℕ)
    → OldBegins version second generation base carry bytes → version_in bytes ≡ number_of version
old_version One second generation base carry bytes begins = first_version second generation base carry bytes begins
old_version Two second generation base carry bytes begins = second_version second generation base carry bytes begins

-- It says its generation.
pub old_tells : (version : OldVersion) (second : Bool) (generation base : ℕ) (carry : Carry) (bytes : List ℕ)
    → OldBegins version second generation base carry bytes → generation_in bytes ≡ generation
old_tells One second generation base carry bytes begins =
    ap (λ v. cond (v == 1) 0 (turns_in bytes)) (first_version second generation base carry bytes begins)
    ∙ sym begins.none_turned
old_tells Two second generation base carry bytes begins =
    generation_by bytes 2 (second_version second generation base carry bytes begins) (omega arith)
    ∙ begun_tells 2 generation base begins.carried bytes begins.starts
    (second_generation second generation base carry bytes begins)

-- Two ways to say how an image of an older version begins are one.
pub record OneOldHead (version other : OldVersion) (second side : Bool) (generation later base after : ℕ)
    (carry next : Carry) : Type 0 where
  pub version_is : version ≡ other
  pub half_is : second ≡ side
  pub generation_is : generation ≡ later
  pub base_is : base ≡ after
  pub carry_is : carry ≡ next

-- What holds by the one way holds by the other.
pub over_old_head : {version other : OldVersion} {second side : Bool} {generation later base after : ℕ}
    {carry next : Carry} (P : OldVersion → Bool → ℕ → ℕ → Carry → Type 0)
    → OneOldHead version other second side generation later base after carry next
    → P version second generation base carry → P other side later after next
over_old_head {version} {other} {second} {side} {generation} {later} {base} {after} {carry} {next} P one holds =
    subst (λ c. P other side later after c) one.carry_is
    (subst (λ b. P other side later b carry) one.base_is
    (subst (λ g. P other side g base carry) one.generation_is
    (subst (λ s. P other s generation base carry) one.half_is
    (subst (λ v. P v second generation base carry) one.version_is holds))))

-- A half of version 2 begins in one way.
one_second : (second : Bool) (generation later base after : ℕ) (carry next : Carry) (bytes : List ℕ)
    → length bytes ≡ START → BeginsSecond second generation base carry bytes
    → BeginsSecond second later after next bytes
    → (generation ≡ later) × (base ≡ after) × (carry ≡ next)
one_second second generation later base after carry next bytes whole first other =
    let here = second_carried second generation base carry bytes first whole in
    let there = second_carried second later after next bytes other whole in (
      sym (second_turns second generation base carry bytes first whole)
          ∙ second_turns second later after next bytes other whole,
      sym (second_base_in second generation base carry bytes first whole)
          ∙ second_base_in second later after next bytes other whole,
      one_old_carry carry next base after first.carried (second_base second generation base carry bytes first)
          (second_base second later after next bytes other) first.spelt
          (subst (λ bodies. OldSpellsCarry after next bodies) (sym there ∙ here) other.spelt),
    )

-- A half begins in one way as an older version does.
one_old : (version other : OldVersion) (second : Bool) (generation later base after : ℕ) (carry next : Carry)
    (bytes : List ℕ) → START ≤ length bytes → OldBegins version second generation base carry bytes
    → OldBegins other second later after next bytes
    → OneOldHead version other second second generation later base after carry next
one_old One One second generation later base after carry next bytes long first same = record {
  version_is = refl;
  half_is = refl;
  generation_is = first.none_turned ∙ sym same.none_turned;
  base_is = first.none_before ∙ sym same.none_before;
  carry_is = first.none_carried ∙ sym same.none_carried;
}
one_old One Two second generation later base after carry next bytes long first same =
    absurd (omega (
      arith,
      first_version second generation base carry bytes first,
      second_version second later after next bytes same,
    ))
one_old Two One second generation later base after carry next bytes long first same =
    absurd (omega (
      arith,
      second_version second generation base carry bytes first,
      first_version second later after next bytes same,
    ))
one_old Two Two second generation later base after carry next bytes long first same =
    let front = take START bytes in
    let whole : length front ≡ START = length-take-le START bytes long in
    let one = one_second second generation later base after carry next front whole
    (half_second second generation base carry front bytes refl first)
    (half_second second later after next front bytes refl same) in
    record {
      version_is = refl;
      half_is = refl;
      generation_is = one.0;
      base_is = one.1;
      carry_is = one.2;
    }

-- And so does an image.
pub one_old_head : (image : List ℕ) (version other : OldVersion) (second side : Bool) (generation later base after : ℕ)
    (carry next : Carry) → IsOldHeaded image version second generation base carry
    → IsOldHeaded image other side later after next
    → OneOldHead version other second side generation later base after carry next
one_old_head image version other second side generation later base after carry next head same =
    let half_is : second ≡ side = same_half image second side head.current same.current in
    let here : OldBegins version side generation base carry (half image side) =
    subst (λ s. OldBegins version s generation base carry (half image s)) half_is head.begins in
    let one = one_old version other side generation later base after carry next (half image side)
    (omega (arith, half_long image side, head.long)) here same.begins in
    record {
      version_is = one.version_is;
      half_is = half_is;
      generation_is = one.generation_is;
      base_is = one.base_is;
      carry_is = one.carry_is;
    }

-- No older version is today's.
number_not_three : (version : OldVersion) → number_of version ≡ 3 → ⊥
number_not_three One same = omega (arith, same)
number_not_three Two same = omega (arith, same)

-- An image of an older version isn't one of today.
pub old_not_today : (image : List ℕ) (version : OldVersion) (second side : Bool) (generation later base after : ℕ)
    (carry next : Carry) → IsOldHeaded image version second generation base carry
    → IsHeaded image side later after next → ⊥
old_not_today image version second side generation later base after carry next old today =
    let half_is : second ≡ side = same_half image second side old.current today.current in
    let mine : version_in (half image side) ≡ number_of version =
    ap (λ s. version_in (half image s)) (sym half_is)
    ∙ old_version version second generation base carry (half image second) old.begins in
    number_not_three version
    (sym mine ∙ begun_version 3 later after (bodies_of next) (half image side) today.begins.starts)
