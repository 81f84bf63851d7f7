-- What a power cut may leave after a run on a disk on which a journal stands, and what it then leaves.
use Rattle.std.proofs.Common.{◌≡◌, ◌⊎◌, inl, inr, ⊎_elim, ℕ, ◌≤◌, true, Bool, Option, None, Some, is_some, List, [], ◌∷◌, ◌++◌, ◌∙◌, ap, subst}
use Rattle.std.specs.Option.{IfSome}
use Rattle.cct_model_lines.specs.declared.carry.Carry.{Carry}
use Rattle.cct_model_lines.specs.declared.record.Record.{Record}
use Rattle.cct_disk.specs.Disk.{Holds, IsCutBy, LeavesOnly, Outlasts}
use Rattle.cct_journal.specs.declared.place.Place.{Place}
use Rattle.cct_journal.specs.Image.{StandsFor, StandsForOneOf}
use Rattle.cct_journal.specs.PowerCuts.{LeavesBy, LeavesWith, LeftBy, StandsForWith}
use Rattle.cct_journal.specs.Stands.{Leaves, LeavesOneOf, Settled, Stands, StandsBefore, StandsWith}
use Rattle.cct_journal.proofs.Blanks.{told_image}
use Rattle.cct_journal.proofs.Moments.{now_too}

module _ {D : Type 0} {honest : D → Bool} {seen : D → Option (List ℕ)} {may_leave : D → List ℕ → Type 0}
    {moment : D → ℕ} {left_since : D → ℕ → List ℕ → Type 0} {old new : D} {place : Place}
    {carry_of : List Record → Carry} {records : List Record}
    (counts_now : (disk : D) (t : ℕ) (c : List ℕ) → t ≤ moment disk → may_leave disk c → left_since disk t c)
    (same_honest : honest new ≡ honest old) (same_telling : is_some (seen new) ≡ is_some (seen old))
    (stands : Stands carry_of honest seen may_leave old place records) where
  -- Where the run adds no record.
  pub leaves_same : LeavesOnly moment left_since old new (λ c. StandsFor carry_of c records)
      → Leaves carry_of honest seen may_leave new records
  leaves_same run = record {
    keeps_synced = same_honest ∙ stands.held.keeps_synced;
    tells = same_telling ∙ ap is_some stands.held.tells;
    each = now_too moment left_since old new (λ c. StandsFor carry_of c records) (may_leave new) (counts_now new) run;
  }

  -- Where it may add one.
  pub leaves_one_of : (entry : Record) → LeavesOnly moment left_since old new (StandsForOneOf carry_of records entry)
      → LeavesOneOf carry_of honest seen may_leave new records entry
  leaves_one_of entry run = record {
    keeps_synced = same_honest ∙ stands.held.keeps_synced;
    tells = same_telling ∙ ap is_some stands.held.tells;
    each = now_too moment left_since old new (StandsForOneOf carry_of records entry) (may_leave new) (counts_now new)
        run;
  }

  -- Where a record is put in it, or none.
  pub leaves_with : (put : Option Record) → LeavesOnly moment left_since old new (StandsForWith carry_of put records)
      → LeavesWith carry_of honest seen may_leave new put records
  leaves_with None run = leaves_same run
  leaves_with (Some r) run = leaves_one_of r run

-- Where a record is to be put, its journal stands with the carry of those before.
pub before_some : {D : Type 0} {honest : D → Bool} {seen : D → Option (List ℕ)} {may_leave : D → List ℕ → Type 0}
    {disk : D} {place : Place} {carry : Carry} {carry_of : List Record → Carry} {records : List Record}
    (put : Option Record) (entry : Record) → put ≡ Some entry
    → StandsBefore carry_of honest seen may_leave disk place carry put records
    → StandsWith carry_of honest seen may_leave disk place carry records
before_some {D} {honest} {seen} {may_leave} {disk} {place} {carry} {carry_of} {records} put entry is before = record {
  stands = before.stands;
  carry_is = subst (λ p. IfSome p (λ _. carry ≡ carry_of records)) is before.carry_is;
}

-- An honest disk whose power was cut keeps one of the images that this might leave.
module _ {D : Type 0} {size : D → ℕ} {honest : D → Bool} {seen : D → Option (List ℕ)}
    {may_leave : D → List ℕ → Type 0} {cuts : D → ℕ} {cut_to : D → ℕ → D → Type 0} {choice : ℕ} {old new : D}
    (outlasts : Outlasts size honest seen cuts old new) (cut : IsCutBy honest seen may_leave cut_to choice old new)
  where
    -- It holds one of them.
    cut_holds : honest old ≡ true → is_some (seen old) ≡ true
        → (image : List ℕ) × Holds honest seen may_leave new image × may_leave old image
    cut_holds is_honest told =
        let found = told_image (seen new) (outlasts.same_telling ∙ told) in (
          found.0,
          record {
            keeps_synced = outlasts.same_honest ∙ is_honest;
            tells = found.1;
            only = cut.kept is_honest found.0 found.1;
          },
          cut.left is_honest found.0 found.1,
        )

    -- So it represents the records.
    pub cut_settled : (carry_of : List Record → Carry) (records : List Record)
        → Leaves carry_of honest seen may_leave old records → Settled carry_of honest seen may_leave new records
    cut_settled carry_of records leaves =
        let found = cut_holds leaves.keeps_synced leaves.tells in
        record { image = found.0; held = found.1; stands = leaves.each found.0 found.2 }

    -- Or for those that are left by so many calls.
    pub cut_by : (calls : ℕ) (put : Option Record) (carry_of : List Record → Carry) (records : List Record)
        → LeavesBy carry_of honest seen may_leave old calls put records
        → (left : List Record) × LeftBy calls put records left × Settled carry_of honest seen may_leave new left
    cut_by calls put carry_of records leaves =
        let found = cut_holds leaves.keeps_synced leaves.tells in
        let which = leaves.each found.0 found.2 in
        (which.0, which.1, record { image = found.0; held = found.1; stands = which.2 })

    -- Or for the records, or these and one more.
    pub cut_one_of : (carry_of : List Record → Carry) (records : List Record) (entry : Record)
        → LeavesOneOf carry_of honest seen may_leave old records entry
        → Settled carry_of honest seen may_leave new records
        ⊎ Settled carry_of honest seen may_leave new (records ++ entry ∷ [])
    cut_one_of carry_of records entry leaves =
        let found = cut_holds leaves.keeps_synced leaves.tells in
        ⊎_elim (λ stands. inl (record { image = found.0; held = found.1; stands = stands }))
        (λ stands. inr (record { image = found.0; held = found.1; stands = stands })) (leaves.each found.0 found.2)
