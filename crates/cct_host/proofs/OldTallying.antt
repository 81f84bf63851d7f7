-- A tally goes over the bodies of a journal of an older version, one by one.
use Rattle.std.proofs.Common.{◌≡◌, ℕ, ◌+◌, ◌<◌, ◌≤◌, false, true, List, [], ◌∷◌, ◌++◌, length, take, slice_get, inl, inr, refl, sym, ap, subst, ◌∙◌, arith, Option}
use Rattle.std.specs.Prelude.{Err, IfErr, IsErr, IsErrAnd, Ok, Result}
use Rattle.std.proofs.lemmas.List.{take_all}
use Rattle.cct_model.specs.terms.device.Setup.{Setup}
use Rattle.cct_model.specs.lines.carry.Carry.{Carry}
use Rattle.cct_model.specs.lines.record.Record.{Record}
use Rattle.cct_model.specs.Carry.{Fits, carry_with, follows_carry}
use Rattle.cct_disk.specs.declared.disk.Disk.{Ghosts}
use Rattle.cct_journal.specs.OldImage.{AreSpelt, bodies_at, old_body_in}
use Rattle.cct_journal.specs.OldJournal as olds
use Rattle.cct_journal.specs.OldStands.{GivesOld, OldCounts, OldReadsFrom, OldReadsUpTo, RefusesOldRead, RefusesOldRecord}
use Rattle.cct_journal.specs.declared.old_journal.OldJournal.{OldJournal}
use Rattle.cct_journal.specs.declared.old_place.OldPlace.{OldPlace}
use Rattle.cct_journal.proofs.OldBodies.{body_there}
use Rattle.cct_journal.specs.declared.refusal.ReadNo.{ReadNo}
use Rattle.cct_journal.specs.declared.refusal.ReadNo.TheVariants.{Disk, BadRecord}
use Rattle.cct_journal.proofs.Moments.{reads_then}
use Rattle.cct_host.specs.OldTally.{OnlyReadOld, RefusesBodies, TalliesUpTo}
use Rattle.cct_host.specs.Starting.{RefusesResume, TalliesFirst, TalliesOver}
use Rattle.cct_host.specs.Upgrading.{IsBadAfter, IsBadFrom}
use Rattle.cct_host.proofs.Tallying.{tallied_more}
use Rattle.cct_host.proofs.Upgrades.{same_image}

module _ {D : Type 0} {g : Ghosts D} (setup : Setup) (old : OldJournal D g) where
  -- before any of them
  pub up_none : OldCounts g.seen (olds.disk_of old) (olds.place_of old) → Fits setup (olds.carry_before old)
      → TalliesUpTo setup old (olds.base_of old) (olds.carry_before old)
  up_none counts fits = record {
    before = [];
    reads = record { counts = counts; count = omega arith; spelt = tt };
    over = record { fits = fits; follow = refl; carry_is = refl };
  }

  -- one more, which follows
  pub up_next : (index : ℕ) (now next : Carry) (entry : Record)
      → GivesOld g.seen (olds.disk_of old) (olds.place_of old) index entry → follows_carry setup now entry ≡ true
      → next ≡ carry_with setup entry now → TalliesUpTo setup old index now → TalliesUpTo setup old (index + 1) next
  up_next index now next entry gives follows goes went = record {
    before = went.before ++ entry ∷ [];
    reads = gives.one_more went.before went.reads;
    over = tallied_more setup (olds.carry_before old) now next went.before entry went.over follows goes;
  }

  -- one that is bad
  module _ (counts : OldCounts g.seen (olds.disk_of old) (olds.place_of old)) (index : ℕ) (now : Carry)
      (from : olds.base_of old ≤ index) (within : index < olds.used_of old) where
    abbrev bodies : List (List ℕ)
    bodies = bodies_at (olds.place_of old) counts.image

    abbrev body : List ℕ
    body = old_body_in (olds.place_of old) index counts.image

    bad_from : IsBadAfter setup now body → TalliesUpTo setup old index now
        → IsBadFrom setup (olds.base_of old) (olds.carry_before old) bodies index
    bad_from bad went =
        inr (
          went.over.fits,
          record {
            first = went.before;
            body = body;
            many = went.reads.count;
            spelt = subst (λ i. AreSpelt went.before (take (length went.before) (bodies_at (olds.place_of old) i)))
                (same_image _ _ (sym went.reads.counts.tells ∙ counts.tells)) went.reads.spelt;
            follow = went.over.follow;
            there = ap (slice_get bodies) (omega (arith, went.reads.count))
                ∙ body_there g.seen (olds.disk_of old) (olds.place_of old) index counts from within;
            bad = subst (λ c. IsBadAfter setup c body) went.over.carry_is bad;
          },
        )

    pub bad_follow : (entry : Record) → GivesOld g.seen (olds.disk_of old) (olds.place_of old) index entry
        → follows_carry setup now entry ≡ false → TalliesUpTo setup old index now
        → IsBadFrom setup (olds.base_of old) (olds.carry_before old) bodies index
    bad_follow entry gives refused = bad_from (inr (entry, gives.spelt counts.image counts.tells, refused))

    bad_read : (why : ReadNo) → RefusesOldRead index body why → TalliesUpTo setup old index now
        → RefusesBodies why setup (olds.base_of old) (olds.carry_before old) bodies
    bad_read Disk refused went = tt
    bad_read (BadRecord told) refused went =
        subst (λ n. IsBadFrom setup (olds.base_of old) (olds.carry_before old) bodies n) (sym refused.0)
        (bad_from (inl refused.1) went)

  pub bad_unread : (index : ℕ) (now : Carry) → olds.base_of old ≤ index → index < olds.used_of old
      → (result : Result Unit ReadNo) (why : ReadNo) → IsErr result × IsErrAnd result (λ e. e ≡ why)
      → RefusesOldRecord g.seen (olds.disk_of old) (olds.place_of old) index why
      → IfErr result (λ e. (counts : OldCounts g.seen (olds.disk_of old) (olds.place_of old))
      → TalliesUpTo setup old index now
      → RefusesBodies e setup (olds.base_of old) (olds.carry_before old) (bodies_at (olds.place_of old) counts.image))
  bad_unread index now from within (Ok done) why passed refused = tt
  bad_unread index now from within (Err e) why passed refused = λ counts went.
      subst (λ n. RefusesBodies n setup (olds.base_of old) (olds.carry_before old)
      (bodies_at (olds.place_of old) counts.image)) (sym passed.1)
      (bad_read counts index now from within why (refused.reason counts.image counts.tells) went)

-- one that a read gives isn't read only where the disk failed
pub old_unread : (result : Result Unit ReadNo) (why : ReadNo) (setup : Setup) (base : ℕ) (c : Carry)
    (P Q : List Record → Type 0) → IsErr result × IsErrAnd result (λ e. e ≡ why)
    → ((rest : List Record) → P rest → why ≡ Disk)
    → IfErr result (λ e. (rest : List Record) → P rest → Q rest → RefusesResume e setup base c rest)
old_unread (Ok done) why setup base c P Q passed never = tt
old_unread (Err e) why setup base c P Q passed never = λ rest reads went.
    subst (λ n. RefusesResume n setup base c rest) (sym (passed.1 ∙ never rest reads)) tt

-- all of them
pub reads_all : {D : Type 0} (seen : D → Option (List ℕ)) (disk : D) (old : OldPlace) (rest : List Record)
    → OldReadsUpTo seen disk old old.place.used rest → OldReadsFrom seen disk old rest
reads_all seen disk old rest up =
    let count = up.counts.count in
    record {
      image = up.counts.image;
      tells = up.counts.tells;
      has = record {
        headed = up.counts.headed;
        records_are = subst (AreSpelt rest)
            (take_all (length rest) (bodies_at old up.counts.image) (omega (arith, count, up.count))) up.spelt;
      };
      count = up.count;
    }

-- a journal that was only read shows the same
module _ {D : Type 0} {g : Ghosts D} (old new : OldJournal D g) (place : olds.place_of new ≡ olds.place_of old)
    (seen : g.seen (olds.disk_of new) ≡ g.seen (olds.disk_of old)) where
  pub counts_still : OldCounts g.seen (olds.disk_of old) (olds.place_of old)
      → OldCounts g.seen (olds.disk_of new) (olds.place_of new)
  counts_still counts = subst (OldCounts g.seen (olds.disk_of new)) (sym place) (record {
    image = counts.image;
    tells = seen ∙ counts.tells;
    headed = counts.headed;
    count = counts.count;
    free = counts.free;
  })

  pub reads_still : (rest : List Record) → OldReadsFrom g.seen (olds.disk_of old) (olds.place_of old) rest
      → OldReadsFrom g.seen (olds.disk_of new) (olds.place_of new) rest
  reads_still rest reads = subst (λ p. OldReadsFrom g.seen (olds.disk_of new) p rest) (sym place) (record {
    image = reads.image;
    tells = seen ∙ reads.tells;
    has = reads.has;
    count = reads.count;
  })

  pub up_still : (setup : Setup) (index : ℕ) (now : Carry) → TalliesUpTo setup old index now
      → TalliesUpTo setup new index now
  up_still setup index now went = record {
    before = went.before;
    reads = subst (λ p. OldReadsUpTo g.seen (olds.disk_of new) p index went.before) (sym place) (record {
      counts = record {
        image = went.reads.counts.image;
        tells = seen ∙ went.reads.counts.tells;
        headed = went.reads.counts.headed;
        count = went.reads.counts.count;
        free = went.reads.counts.free;
      };
      count = went.reads.count;
      spelt = went.reads.spelt;
    });
    over = subst (λ (p : OldPlace). TalliesOver setup p.place.carry went.before now) (sym place) went.over;
  }

  -- so what is refused there is refused here
  pub bad_still : (why : ReadNo) (setup other : Setup) → other ≡ setup
      → (counts : OldCounts g.seen (olds.disk_of old) (olds.place_of old))
      → ((later : OldCounts g.seen (olds.disk_of new) (olds.place_of new)) → RefusesBodies why other (olds.base_of new)
      (olds.carry_before new) (bodies_at (olds.place_of new) later.image))
      → RefusesBodies why setup (olds.base_of old) (olds.carry_before old) (bodies_at (olds.place_of old) counts.image)
  bad_still why setup other same counts refused =
      let later = counts_still counts in
      subst (λ i. RefusesBodies why setup (olds.base_of old) (olds.carry_before old) (bodies_at (olds.place_of old) i))
      (same_image _ _ (sym later.tells ∙ seen ∙ counts.tells))
      (subst (λ (p : OldPlace). RefusesBodies why setup p.place.base p.place.carry (bodies_at p later.image)) place
      (subst (λ s. RefusesBodies why s (olds.base_of new) (olds.carry_before new)
      (bodies_at (olds.place_of new) later.image)) same (refused later)))

  -- and a tally that goes on there goes on here
  pub first_goes : (setup other : Setup) (rest : List Record) (index : ℕ) (now next : Carry) → other ≡ setup
      → (TalliesFirst other (olds.base_of new) (olds.carry_before new) rest index now
      → TalliesFirst other (olds.base_of new) (olds.carry_before new) rest (index + 1) next)
      → TalliesFirst setup (olds.base_of old) (olds.carry_before old) rest index now
      → TalliesFirst setup (olds.base_of old) (olds.carry_before old) rest (index + 1) next
  first_goes setup other rest index now next same goes went =
      subst (λ s. TalliesFirst s (olds.base_of old) (olds.carry_before old) rest (index + 1) next) same
      (subst (λ (p : OldPlace). TalliesFirst other p.place.base p.place.carry rest (index + 1) next) place
      (goes
      (subst (λ s. TalliesFirst s (olds.base_of new) (olds.carry_before new) rest index now) (sym same)
      (subst (λ (p : OldPlace). TalliesFirst setup p.place.base p.place.carry rest index now) (sym place) went))))

  pub up_goes : (setup other : Setup) (index : ℕ) (now next : Carry) → other ≡ setup
      → (TalliesUpTo other new index now → TalliesUpTo other new (index + 1) next) → TalliesUpTo setup old index now
      → ((index : ℕ) (now : Carry) → TalliesUpTo setup new index now → TalliesUpTo setup old index now)
      → TalliesUpTo setup old (index + 1) next
  up_goes setup other index now next same goes went back =
      back (index + 1) next
      (subst (λ s. TalliesUpTo s new (index + 1) next) same
      (goes (subst (λ s. TalliesUpTo s new index now) (sym same) (up_still setup index now went))))

-- one run of reads after another, in which no call failed
pub read_on : {D : Type 0} {g : Ghosts D} {first mid last : OldJournal D g} {F G : Type 0} → OnlyReadOld first mid F
    → OnlyReadOld mid last G → OnlyReadOld first last ⊥
read_on before after = record {
  place = after.place ∙ before.place;
  disk = reads_then before.disk after.disk;
  stands = λ rest stands. after.stands rest (before.stands rest stands);
  cause = record {
    later = (let early = before.cause.later in let late = after.cause.later in omega (arith, early, late));
    rose = λ none. absurd none;
  };
}

-- an error that is passed on
pub err_passed : {T E : Type 0} (result : Result T E) (why : E) (P : E → Type 0)
    → IsErr result × IsErrAnd result (λ e. e ≡ why) → P why → IfErr result P
err_passed (Ok done) why P passed holds = tt
err_passed (Err e) why P passed holds = subst P (sym passed.1) holds
