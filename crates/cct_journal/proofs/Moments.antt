-- What a power cut might have left over a run of calls.
use Rattle.std.proofs.Common.{◌≡◌, inl, inr, ⊎_elim, ℕ, ◌≤◌, Bool, true, Option, List, ◌∙◌, arith}
use Rattle.cct_disk.specs.Disk.{Elapses, Holds, IsWithin, LeavesOnly, OnlyReads}

module _ {D : Type 0} (moment : D → ℕ) (left_since : D → ℕ → List ℕ → Type 0) where
  -- before the first call
  pub started : (disk : D) (P may_leave : List ℕ → Type 0)
      → ((c : List ℕ) → left_since disk (moment disk) c → may_leave c) → ((c : List ℕ) → may_leave c → P c)
      → LeavesOnly moment left_since disk disk P
  started disk P may_leave only_now here = record {
    later = omega arith;
    each = λ c left. here c (only_now c left);
    before = λ t c le left. inl left;
  }

  -- one run after another
  pub then : (old mid new : D) (P : List ℕ → Type 0) → LeavesOnly moment left_since old mid P
      → LeavesOnly moment left_since mid new P → LeavesOnly moment left_since old new P
  then old mid new P first second = record {
    later = omega (arith, first.later, second.later);
    each = λ c left. ⊎_elim (first.each c) (λ has. has) (second.before (moment old) c first.later left);
    before = λ t c le left. ⊎_elim (first.before t c le) (λ has. inr has)
        (second.before t c (omega (arith, le, first.later)) left);
  }

  -- what has P has Q
  pub weaker : (old new : D) (P Q : List ℕ → Type 0) → ((c : List ℕ) → P c → Q c)
      → LeavesOnly moment left_since old new P → LeavesOnly moment left_since old new Q
  weaker old new P Q to run = record {
    later = run.later;
    each = λ c left. to c (run.each c left);
    before = λ t c le left. ⊎_elim (λ was. inl was) (λ has. inr (to c has)) (run.before t c le left);
  }

  -- what may be left now was left at a moment of the run
  pub now_too : (old new : D) (P may_leave : List ℕ → Type 0)
      → ((t : ℕ) (c : List ℕ) → t ≤ moment new → may_leave c → left_since new t c)
      → LeavesOnly moment left_since old new P → (c : List ℕ) → may_leave c → P c
  now_too old new P may_leave counts_now run c now = run.each c (counts_now (moment old) c run.later now)

  -- a call after a run, which adds no image
  then_adds_none : (old mid new : D) (P may_leave : List ℕ → Type 0)
      → ((t : ℕ) (c : List ℕ) → t ≤ moment mid → may_leave c → left_since mid t c)
      → LeavesOnly moment left_since old mid P → LeavesOnly moment left_since mid new may_leave
      → LeavesOnly moment left_since old new P
  then_adds_none old mid new P may_leave counts_now first second =
      then old mid new P first (weaker mid new may_leave P (now_too old mid P may_leave counts_now first) second)

-- a call after a run, which adds no image by what it says of the clock
pub then_elapses : {D : Type 0} {moment : D → ℕ} {left_since : D → ℕ → List ℕ → Type 0}
    {may_leave : D → List ℕ → Type 0} {old mid new : D} {P : List ℕ → Type 0}
    → ((disk : D) (t : ℕ) (c : List ℕ) → t ≤ moment disk → may_leave disk c → left_since disk t c)
    → ((disk : D) (c : List ℕ) → left_since disk (moment disk) c → may_leave disk c)
    → IsWithin (may_leave mid) (may_leave new) → Elapses moment left_since may_leave mid new
    → LeavesOnly moment left_since old mid P → LeavesOnly moment left_since old new P
then_elapses {D} {moment} {left_since} {may_leave} {old} {mid} {new} {P} counts_now only_now within time first =
    then_adds_none moment left_since old mid new P (may_leave mid) (counts_now mid) first (record {
      later = time.later;
      each = λ c left. ⊎_elim (only_now mid c) (within c) (time.nothing_else (moment mid) c (omega arith) left);
      before = λ t c le left. ⊎_elim (λ was. inl was) (λ has. inr (within c has)) (time.nothing_else t c le left);
    })

-- one run that only reads after another
pub reads_then : {D : Type 0} {size : D → ℕ} {honest : D → Bool} {seen : D → Option (List ℕ)}
    {may_leave : D → List ℕ → Type 0} {moment : D → ℕ} {left_since : D → ℕ → List ℕ → Type 0} {cuts : D → ℕ}
    {old mid new : D}
    → OnlyReads size honest seen may_leave moment left_since cuts old mid
    → OnlyReads size honest seen may_leave moment left_since cuts mid new
    → OnlyReads size honest seen may_leave moment left_since cuts old new
reads_then {D} {size} {honest} {seen} {may_leave} {moment} {left_since} {cuts} {old} {mid} {new} first second = record {
  same_size = second.same_size ∙ first.same_size;
  same_honest = second.same_honest ∙ first.same_honest;
  same_seen = second.same_seen ∙ first.same_seen;
  same_cuts = second.same_cuts ∙ first.same_cuts;
  images = λ is c left. first.images is c (second.images (first.same_honest ∙ is) c left);
  moments = λ is. then moment left_since old mid new (may_leave old) (first.moments is)
      (weaker moment left_since mid new (may_leave mid) (may_leave old) (first.images is)
      (second.moments (first.same_honest ∙ is)));
}

-- a disk that was only read holds what it held
pub reads_hold : {D : Type 0} {size : D → ℕ} {honest : D → Bool} {seen : D → Option (List ℕ)}
    {may_leave : D → List ℕ → Type 0} {moment : D → ℕ} {left_since : D → ℕ → List ℕ → Type 0} {cuts : D → ℕ}
    {old new : D}
    → OnlyReads size honest seen may_leave moment left_since cuts old new → (image : List ℕ)
    → Holds honest seen may_leave old image → Holds honest seen may_leave new image
reads_hold run image held = record {
  keeps_synced = run.same_honest ∙ held.keeps_synced;
  tells = run.same_seen ∙ held.tells;
  only = λ c left. held.only c (run.images held.keeps_synced c left);
}

-- a run after one that only reads, by what it leaves of what the disk held
pub then_leaves : {D : Type 0} {size : D → ℕ} {honest : D → Bool} {seen : D → Option (List ℕ)}
    {may_leave : D → List ℕ → Type 0} {moment : D → ℕ} {left_since : D → ℕ → List ℕ → Type 0} {cuts : D → ℕ}
    {old mid new : D}
    → OnlyReads size honest seen may_leave moment left_since cuts old mid → (image : List ℕ)
    → Holds honest seen may_leave old image → (P Q : List ℕ → Type 0)
    → (Holds honest seen may_leave mid image → LeavesOnly moment left_since mid new P) → ((c : List ℕ) → P c → Q c)
    → ((c : List ℕ) → c ≡ image → Q c) → LeavesOnly moment left_since old new Q
then_leaves {D} {size} {honest} {seen} {may_leave} {moment} {left_since} {cuts} {old} {mid} {new} run image held P Q
    second to here =
    then moment left_since old mid new Q
    (weaker moment left_since old mid (may_leave old) Q (λ c left. here c (held.only c left))
    (run.moments held.keeps_synced))
    (weaker moment left_since mid new P Q to (second (reads_hold run image held)))

-- a run that only reads after one that leaves only what has P
pub then_reads : {D : Type 0} {size : D → ℕ} {honest : D → Bool} {seen : D → Option (List ℕ)}
    {may_leave : D → List ℕ → Type 0} {moment : D → ℕ} {left_since : D → ℕ → List ℕ → Type 0} {cuts : D → ℕ}
    {old mid new : D} (P : List ℕ → Type 0)
    → ((t : ℕ) (c : List ℕ) → t ≤ moment mid → may_leave mid c → left_since mid t c) → honest mid ≡ true
    → LeavesOnly moment left_since old mid P
    → OnlyReads size honest seen may_leave moment left_since cuts mid new
    → LeavesOnly moment left_since old new P
then_reads {D} {size} {honest} {seen} {may_leave} {moment} {left_since} {cuts} {old} {mid} {new} P counts_now is first
    run =
    then_adds_none moment left_since old mid new P (may_leave mid) counts_now first (run.moments is)
