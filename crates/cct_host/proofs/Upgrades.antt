-- A journal of an older version is brought forward: what is on its disk, and why it isn't.
use Rattle.std.proofs.Common.{◌≡◌, ℕ, ◌+◌, true, List, [], ◌∷◌, length, reverse, inl, inr, refl, sym, ap, subst, ◌∙◌, append-nil, true≢false, Bool, Option, Some}
use Rattle.std.specs.Prelude.{Err, IfOk, Ok, Result}
use Rattle.std.proofs.lemmas.Bool.{and_parts}
use Rattle.cct_model.specs.terms.device.Setup.{Setup}
use Rattle.cct_model.specs.lines.carry.Carry.{Carry}
use Rattle.cct_model.specs.lines.record.Record.{Record}
use Rattle.cct_model.specs.Carry.{Fits, all_follow_carry, carry_of, carry_over}
use Rattle.cct_model.specs.Following.{all_follow}
use Rattle.cct_model.specs.Setup.{IsSoundSetup}
use Rattle.cct_disk.specs.declared.disk.Disk.{Ghosts}
use Rattle.cct_disk.specs.Disk.{Holds, LeavesOnly, OnlyReads}
use Rattle.cct_journal.specs.Image.{Continues, HasFrom}
use Rattle.cct_journal.specs.OldImage.{AreSpelt, HasOldFrom, HasOldPlace, IsTurning, bodies_at}
use Rattle.cct_journal.specs.OldStands.{HasFreeHalf, OldCounts, OldReadsFrom, OldStands, RefusesOld}
use Rattle.cct_journal.specs.declared.old_place.OldPlace.{OldPlace}
use Rattle.cct_journal.specs.declared.refusal.OldNo.{OldNo}
use Rattle.cct_journal.specs.declared.refusal.OldNo.TheVariants as opening
use Rattle.cct_journal.specs.declared.refusal.ReadNo.{ReadNo}
use Rattle.cct_journal.specs.declared.refusal.ReadNo.TheVariants as reading
use Rattle.cct_journal.proofs.Moments.{then, weaker}
use Rattle.cct_journal_carry.proofs.Over.{follow_append}
use Rattle.cct_host.specs.declared.refusal.UpgradeNo.{UpgradeNo}
use Rattle.cct_host.specs.declared.refusal.UpgradeNo.TheVariants.{Disk, Alien, Current, NoRoom, BadRecord, EpochRuns}
use Rattle.cct_host.specs.OnDisk.{StopsAt}
use Rattle.cct_host.specs.OldTally.{RefusesOpened, TurnsBy}
use Rattle.cct_host.specs.Starting.{RefusesResume}
use Rattle.cct_host.specs.Upgrading.{AreCarried, CanTurn, CanUpgrade, HasOldBodies, HasOldRecords, IsBrought, RefusesUpgrade, StandsBrought, opened_no}
use Rattle.cct_host.proofs.Records.{rest_carry, rest_many}

-- records that follow a carry that fits are refused only where the disk failed
stops_nowhere : (setup : Setup) (base : ℕ) (c : Carry) (rest : List Record) (index : ℕ) → Fits setup c
    → all_follow_carry setup c rest ≡ true → StopsAt setup base c rest index → ⊥
stops_nowhere setup base c rest index fits follow (inl (unfit, at)) = unfit fits
stops_nowhere setup base c rest index fits follow (inr (same, bad)) =
    let all = sym (follow_append setup c bad.first (bad.bad ∷ bad.later))
    ∙ ap (all_follow_carry setup c) (sym bad.all) ∙ follow in
    true≢false (sym (and_parts _ _ (and_parts _ _ all).1).0 ∙ bad.refused)

pub refused_by_disk : (why : ReadNo) (setup : Setup) (base : ℕ) (c : Carry) (rest : List Record)
    → AreCarried setup c rest → RefusesResume why setup base c rest → why ≡ reading.Disk
refused_by_disk reading.Disk setup base c rest can refused = refl
refused_by_disk (reading.BadRecord index) setup base c rest can refused =
    absurd (stops_nowhere setup base c rest index can.fits can.follow refused)

-- an image at a place
pub same_image : (image other : List ℕ) → Some image ≡ Some other → image ≡ other
same_image image other is = cc

has_from : (old : OldPlace) (rest : List Record) (image : List ℕ) → HasOldPlace image old rest
    → HasOldFrom image old.place.base old.place.carry rest
has_from old rest image has = record {
  version = old.version;
  second = old.place.second;
  generation = old.place.generation;
  current = has;
}

-- and what is turned there
to_turns : (setup : Setup) (old : OldPlace) (carry : Carry) (rest : List Record) (image : List ℕ)
    → CanTurn setup old.place.carry rest → carry ≡ carry_over setup old.place.carry rest
    → IsTurning old carry rest image → TurnsBy setup old rest image
to_turns setup old carry rest image can is (inl has) = inl has
to_turns setup old carry rest image can is (inr has) =
    inr (can, subst (λ k. HasFrom image old.place.used k []) is has)

brought_there : (setup : Setup) (old : OldPlace) (rest : List Record) (image : List ℕ)
    → old.place.used ≡ old.place.base + length rest → TurnsBy setup old rest image
    → IsBrought setup old.place.base old.place.carry rest image
brought_there setup old rest image count (inl has) = inl (has_from old rest image has)
brought_there setup old rest image count (inr (can, has)) =
    inr (can, subst (λ n. HasFrom image n (carry_over setup old.place.carry rest) []) count has)

pub to_brought : (setup : Setup) (old : OldPlace) (base : ℕ) (carry : Carry) (rest : List Record) (image : List ℕ)
    → base ≡ old.place.base → carry ≡ old.place.carry → old.place.used ≡ old.place.base + length rest
    → TurnsBy setup old rest image → IsBrought setup base carry rest image
to_brought setup old base carry rest image bases carries count turns =
    subst (λ n. IsBrought setup n carry rest image) (sym bases)
    (subst (λ k. IsBrought setup old.place.base k rest image) (sym carries) (brought_there setup old rest image count turns))

-- what an open journal shows of the image that its disk gives
module _ {D : Type 0} {seen : D → Option (List ℕ)} {disk : D} {old : OldPlace} (counts : OldCounts seen disk old) where
  has_bodies : HasOldBodies counts.image old.place.base old.place.carry (bodies_at old counts.image)
  has_bodies = record {
    version = old.version;
    second = old.place.second;
    generation = old.place.generation;
    headed = counts.headed;
    bodies_are = refl;
    free = subst (HasFreeHalf old.version (length counts.image)) counts.count counts.free;
  }

  has_records : (rest : List Record) → AreSpelt rest (bodies_at old counts.image)
      → HasOldRecords counts.image old.place.base old.place.carry rest
  has_records rest spelt = record { bodies = bodies_at old counts.image; has = has_bodies; spelt = spelt }

  pub can_upgrade : (setup : Setup) (rest : List Record) → OldReadsFrom seen disk old rest
      → CanTurn setup old.place.carry rest → CanUpgrade setup counts.image old.place.base old.place.carry rest
  can_upgrade setup rest reads can = record {
    has = has_records rest
        (subst (λ i. AreSpelt rest (bodies_at old i)) (same_image _ _ (sym reads.tells ∙ counts.tells))
        reads.has.records_are);
    can = can;
  }

  pub refused_opened : (why : UpgradeNo) (setup : Setup)
      → RefusesOpened why setup old.place.base old.place.carry (bodies_at old counts.image)
      → RefusesUpgrade why setup counts.image
  refused_opened Disk setup refused = tt
  refused_opened Alien setup refused = absurd refused
  refused_opened Current setup refused = absurd refused
  refused_opened (NoRoom used) setup refused = absurd refused
  refused_opened (BadRecord index) setup refused = record {
    base = old.place.base;
    carry = old.place.carry;
    bodies = bodies_at old counts.image;
    has = has_bodies;
    bad = refused;
  }
  refused_opened (EpochRuns addr) setup refused = record {
    base = old.place.base;
    carry = old.place.carry;
    rest = refused.rest;
    has = has_records refused.rest refused.spelt;
    runs = refused.runs;
  }

-- and where none is opened
pub refused_old : (why : OldNo) (setup : Setup) (image : List ℕ) → RefusesOld why image
    → RefusesUpgrade (opened_no why) setup image
refused_old opening.Disk setup image refused = tt
refused_old opening.Alien setup image refused = refused
refused_old opening.Current setup image refused = refused
refused_old (opening.NoRoom used) setup image refused = refused

-- what can be brought forward has its records
pub upgrade_has : (setup : Setup) (image : List ℕ) (base : ℕ) (carry : Carry) (rest : List Record)
    → CanUpgrade setup image base carry rest → HasOldFrom image base carry rest
upgrade_has setup image base carry rest can =
    let has = can.has.has in
    record {
      version = has.version;
      second = has.second;
      generation = has.generation;
      current = record { headed = has.headed; records_are = subst (AreSpelt rest) has.bodies_are can.has.spelt };
    }

-- what was turned represents whole lists of records
module _ (setup : Setup) (base : ℕ) (c : Carry) (rest records : List Record) (sound : IsSoundSetup setup)
    (continues : Continues (carry_of setup) base c rest records)
    (first : all_follow setup (reverse continues.first) ≡ true) where
  pub whole_carry : CanTurn setup c rest → carry_over setup c rest ≡ carry_of setup records
  whole_carry can = rest_carry setup base c rest records sound continues first can.carried.follow

  pub stands_brought : (image : List ℕ) → IsBrought setup base c rest image → StandsBrought setup records image
  stands_brought image (inl has) =
      inl (record { base = base; carry = c; rest = rest; has = has; continues = continues })
  stands_brought image (inr (can, has)) =
      inr (record {
        base = base + length rest;
        carry = carry_over setup c rest;
        rest = [];
        has = has;
        continues = record {
          first = records;
          all = sym (append-nil records);
          many = rest_many setup base c rest records sound continues;
          carry_is = whole_carry can;
        };
      })

-- moments of a run that reads, and then turns
module _ {D : Type 0} (g : Ghosts D) (setup : Setup) (old : OldPlace) (rest : List Record) where
  pub reads_leave : (first last : D) → OldStands g.honest g.seen g.may_leave first old rest
      → OnlyReads g.size g.honest g.seen g.may_leave g.moment g.left_since g.cuts first last
      → LeavesOnly g.moment g.left_since first last (TurnsBy setup old rest)
  reads_leave first last stands reads =
      weaker g.moment g.left_since first last (g.may_leave first) (TurnsBy setup old rest)
      (λ c left. inl (subst (λ i. HasOldPlace i old rest) (sym (stands.held.only c left)) stands.has))
      (reads.moments stands.held.keeps_synced)

  pub turns_leave : (first mid last : D) (carry : Carry) → OldStands g.honest g.seen g.may_leave first old rest
      → OnlyReads g.size g.honest g.seen g.may_leave g.moment g.left_since g.cuts first mid
      → CanTurn setup old.place.carry rest → carry ≡ carry_over setup old.place.carry rest
      → LeavesOnly g.moment g.left_since mid last (IsTurning old carry rest)
      → LeavesOnly g.moment g.left_since first last (TurnsBy setup old rest)
  turns_leave first mid last carry stands reads can is turns =
      then g.moment g.left_since first mid last (TurnsBy setup old rest) (reads_leave first mid stands reads)
      (weaker g.moment g.left_since mid last (IsTurning old carry rest) (TurnsBy setup old rest)
      (λ c. to_turns setup old carry rest c can is) turns)

-- and of one that only reads
pub only_image : {D : Type 0} (g : Ghosts D) (first last : D) (image : List ℕ)
    → Holds g.honest g.seen g.may_leave first image
    → OnlyReads g.size g.honest g.seen g.may_leave g.moment g.left_since g.cuts first last
    → LeavesOnly g.moment g.left_since first last (λ c. c ≡ image)
only_image g first last image held reads =
    weaker g.moment g.left_since first last (g.may_leave first) (λ c. c ≡ image) held.only
    (reads.moments held.keeps_synced)

-- what an open journal represents is what a read of it gives
pub read_there : {D : Type 0} {honest : D → Bool} {seen : D → Option (List ℕ)} {may_leave : D → List ℕ → Type 0}
    {disk : D} {old : OldPlace} {rest : List Record} → OldStands honest seen may_leave disk old rest
    → OldReadsFrom seen disk old rest
read_there stands = record {
  image = stands.image;
  tells = stands.held.tells;
  has = stands.has;
  count = stands.count;
}

-- a run that opens the journal of an image, and then brings it forward
pub brought_leave : {D : Type 0} (g : Ghosts D) (setup : Setup) (old : OldPlace) (base : ℕ) (c : Carry)
    (rest : List Record) (image : List ℕ) (first mid last : D) → Holds g.honest g.seen g.may_leave first image
    → OnlyReads g.size g.honest g.seen g.may_leave g.moment g.left_since g.cuts first mid
    → HasOldFrom image base c rest → base ≡ old.place.base → c ≡ old.place.carry
    → old.place.used ≡ old.place.base + length rest
    → LeavesOnly g.moment g.left_since mid last (TurnsBy setup old rest)
    → LeavesOnly g.moment g.left_since first last (IsBrought setup base c rest)
brought_leave g setup old base c rest image first mid last held reads has bases carries count turns =
    then g.moment g.left_since first mid last (IsBrought setup base c rest)
    (weaker g.moment g.left_since first mid (g.may_leave first) (IsBrought setup base c rest)
    (λ d left. inl (subst (λ i. HasOldFrom i base c rest) (sym (held.only d left)) has))
    (reads.moments held.keeps_synced))
    (weaker g.moment g.left_since mid last (TurnsBy setup old rest) (IsBrought setup base c rest)
    (λ d. to_brought setup old base c rest d bases carries count) turns)

-- by what was answered
pub if_ok_all : {T E : Type 0} (result : Result T E) (Q : T → Type 0) → ((x : T) → Q x) → IfOk result Q
if_ok_all (Ok x) Q all = all x
if_ok_all (Err e) Q all = tt

pub if_ok_both : {T E : Type 0} (result : Result T E) (P Q R : T → Type 0) → ((x : T) → P x → Q x → R x)
    → IfOk result P → IfOk result Q → IfOk result R
if_ok_both (Ok x) P Q R both first second = both x first second
if_ok_both (Err e) P Q R both first second = tt
