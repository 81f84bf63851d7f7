-- What is left of the records when the power is cut, and of the disk.
use Rattle.std.proofs.Common.{◌≡◌, inl, inr, ⊎_elim, ℕ, ◌≤◌, Bool, Option, Some, List, [], ◌∷◌, ◌++◌, refl, sym, ap, ◌∙◌, is_some, arith}
use Rattle.std.proofs.lemmas.Bool.{cases_lt}
use Rattle.cct_edge.specs.Faults.{next_count}
use Rattle.cct_model_lines.specs.declared.carry.Carry.{Carry}
use Rattle.cct_model_lines.specs.declared.record.Record.{Record}
use Rattle.cct_disk.specs.Disk.{GoesOn, OnlyReads}
use Rattle.cct_journal.specs.declared.place.Place.{Place}
use Rattle.cct_journal.specs.Opening.{Finds}
use Rattle.cct_journal.specs.PowerCuts.{LeavesBy}
use Rattle.cct_journal.specs.Stands.{CutOnce, Leaves, LeavesOneOf}

-- What a power cut may leave after so many calls of a put.
pub put_leaves : {D : Type 0} {honest : D → Bool} {seen : D → Option (List ℕ)} {may_leave : D → List ℕ → Type 0}
    {disk : D} {carry_of : List Record → Carry} (calls : ℕ) (r : Record) (records : List Record) → calls ≤ 4
    → (calls ≤ 2 → Leaves carry_of honest seen may_leave disk records)
    → LeavesOneOf carry_of honest seen may_leave disk records r
    → (calls ≡ 4 → Leaves carry_of honest seen may_leave disk (records ++ r ∷ []))
    → LeavesBy carry_of honest seen may_leave disk calls (Some r) records
put_leaves calls r records few early one_of done = record {
  keeps_synced = one_of.keeps_synced;
  tells = one_of.tells;
  each = λ c left. elim (cases_lt calls 3) [
    | inl before ↦ (records, inl (omega arith, refl), (early (omega arith)).each c left)
    | inr behind ↦ elim (cases_lt calls 4) [
      | inl within ↦ ⊎_elim (λ keeps. (records, inl (within, refl), keeps))
          (λ keeps. (records ++ r ∷ [], inr (behind, refl), keeps)) (one_of.each c left)
      | inr all ↦ (records ++ r ∷ [], inr (behind, refl), (done (omega arith)).each c left)
    ]
  ];
}

-- The power of a disk was cut, and then it was only read.
pub cut_here : {D : Type 0} (size : D → ℕ) (honest : D → Bool) (seen : D → Option (List ℕ)) (cuts : D → ℕ)
    (cut_to : D → ℕ → D → Type 0) (choice : ℕ) (old before behind : D) → GoesOn size honest seen cuts old before
    → cut_to before choice behind → cuts behind ≡ next_count (cuts before)
    → CutOnce size honest seen cuts cut_to choice old behind
cut_here size honest seen cuts cut_to choice old before behind on is_cut count = record {
  before = before;
  behind = behind;
  goes_on = on;
  is_cut = is_cut;
  lasts = record { same_size = refl; same_honest = refl; same_telling = refl; same_cuts = refl };
  same_seen = refl;
  count = count ∙ ap next_count on.same_cuts;
}

-- It was only read after the cut.
pub cut_read : {D : Type 0} (size : D → ℕ) (honest : D → Bool) (seen : D → Option (List ℕ))
    (may_leave : D → List ℕ → Type 0) (moment : D → ℕ) (left_since : D → ℕ → List ℕ → Type 0) (cuts : D → ℕ)
    (cut_to : D → ℕ → D → Type 0) (choice : ℕ) (old mid new : D) → CutOnce size honest seen cuts cut_to choice old mid
    → OnlyReads size honest seen may_leave moment left_since cuts mid new
    → CutOnce size honest seen cuts cut_to choice old new
cut_read size honest seen may_leave moment left_since cuts cut_to choice old mid new cut reads = record {
  before = cut.before;
  behind = cut.behind;
  goes_on = cut.goes_on;
  is_cut = cut.is_cut;
  lasts = record {
    same_size = reads.same_size ∙ cut.lasts.same_size;
    same_honest = reads.same_honest ∙ cut.lasts.same_honest;
    same_telling = ap is_some reads.same_seen ∙ cut.lasts.same_telling;
    same_cuts = reads.same_cuts ∙ cut.lasts.same_cuts;
  };
  same_seen = reads.same_seen ∙ cut.same_seen;
  count = reads.same_cuts ∙ cut.count;
}

-- A place that was found on a disk which was only read is one of the disk after it.
pub found_again : {D : Type 0} {size : D → ℕ} {honest : D → Bool} {seen : D → Option (List ℕ)}
    {may_leave : D → List ℕ → Type 0} {moment : D → ℕ} {left_since : D → ℕ → List ℕ → Type 0} {cuts : D → ℕ}
    {old new : D} {place : Place} → OnlyReads size honest seen may_leave moment left_since cuts old new
    → Finds seen old new place → Finds seen new new place
found_again reads finds = record {
  found = λ image told. finds.found image (sym reads.same_seen ∙ told);
  every = λ carry_of image records told stands. finds.every carry_of image records (sym reads.same_seen ∙ told) stands;
}
