-- What an image is to a journal that is opened on it: one thing at most.
use Rattle.std.proofs.Common.{◌≡◌, ℕ, suc, Bool, ◌+◌, List, [], ◌∷◌, ◌++◌, length, map, refl, sym, ◌∙◌, ap, ap₂, subst}
use Rattle.std.specs.List.{All}
use Rattle.std.proofs.lemmas.List.Elements.{All-head, All-tail}
use Rattle.cct_model_lines.specs.declared.carry.Carry.{Carry}
use Rattle.cct_model_lines.specs.declared.record.Record.{Record}
use Rattle.cct_record.specs.Body.{InRange, IsRefused, body_of}
use Rattle.cct_record.proofs.Spellings.{one_spelling}
use Rattle.cct_journal.specs.declared.refusal.OpenNo.{OpenNo}
use Rattle.cct_journal.specs.declared.refusal.OpenNo.TheVariants.{Disk, Alien, BadRecord}
use Rattle.cct_journal.specs.Image.{HasFrom, HasHalf, IsAlien, IsBadAt, IsHeaded, IsRefusedIn, StandsFor}
use Rattle.cct_journal.specs.Opening.{CountsIn, RefusesOpen, StopsCount}
use Rattle.cct_journal.proofs.Currents.{one_head, over_head}

-- The bodies of records are those of no others.
one_list : (rs ss : List Record) → All InRange rs → All InRange ss → map body_of rs ≡ map body_of ss → rs ≡ ss
one_list [] [] fits others same = refl
one_list [] (s ∷ ss) fits others same = absurd cc
one_list (r ∷ rs) [] fits others same = absurd cc
one_list (r ∷ rs) (s ∷ ss) fits others same =
    let first : body_of r ≡ body_of s = cc in
    let later : map body_of rs ≡ map body_of ss = cc in
    ap₂ (λ x xs. x ∷ xs)
    (one_spelling r s (All-head InRange r rs fits) (All-head InRange s ss others) first)
    (one_list rs ss (All-tail InRange r rs fits) (All-tail InRange s ss others) later)

-- So those that are counted are those that the half has.
pub counted_same : (image : List ℕ) (second : Bool) (generation base : ℕ) (carry : Carry) (counted rest : List Record)
    → CountsIn image second base counted → HasHalf image second generation base carry rest → counted ≡ rest
counted_same image second generation base carry counted rest counts has =
    one_list counted rest counts.in_range has.in_range (sym counts.bodies_are ∙ has.records_are)

-- And where the half begins so, it has those that were counted.
pub counted_has : (image : List ℕ) (second : Bool) (generation base : ℕ) (carry : Carry) (counted : List Record)
    → IsHeaded image second generation base carry → CountsIn image second base counted
    → HasHalf image second generation base carry counted
counted_has image second generation base carry counted headed counts =
    record { headed = headed; records_are = counts.bodies_are; in_range = counts.in_range }

-- Where they can't be counted, no journal is opened.
pub stopped_refuses : (why : OpenNo) (image : List ℕ) (second : Bool) (generation base : ℕ) (carry : Carry)
    → IsHeaded image second generation base carry → StopsCount why image second base → RefusesOpen why image
stopped_refuses Disk image second generation base carry headed stops = tt
stopped_refuses Alien image second generation base carry headed stops = absurd stops
stopped_refuses (BadRecord index) image second generation base carry headed stops = record {
  second = second;
  generation = generation;
  base = base;
  carry = carry;
  headed = headed;
  refused = stops;
}

-- A body that spells none isn't among those of records.
none_refused : (before records : List Record) (body : List ℕ) (later : List (List ℕ))
    → map body_of before ++ body ∷ later ≡ map body_of records → All InRange records → IsRefused body → ⊥
none_refused [] [] body later same fits refused = cc
none_refused [] (r ∷ rs) body later same fits refused =
    let is : body ≡ body_of r = cc in
    refused.none r (All-head InRange r rs fits) (sym is)
none_refused (b ∷ bs) [] body later same fits refused = cc
none_refused (b ∷ bs) (r ∷ rs) body later same fits refused =
    let others : map body_of bs ++ body ∷ later ≡ map body_of rs = cc in
    none_refused bs rs body later others (All-tail InRange r rs fits) refused

-- The first one that spells none is after one number of records.
first_refused : (before others : List Record) (body other : List ℕ) (later rest : List (List ℕ))
    → map body_of before ++ body ∷ later ≡ map body_of others ++ other ∷ rest → All InRange before
    → All InRange others → IsRefused body → IsRefused other → length before ≡ length others
first_refused [] [] body other later rest same fits all refused bad = refl
first_refused [] (s ∷ ss) body other later rest same fits all refused bad =
    let is : body ≡ body_of s = cc in
    absurd (refused.none s (All-head InRange s ss all) (sym is))
first_refused (r ∷ rs) [] body other later rest same fits all refused bad =
    let is : body_of r ≡ other = cc in
    absurd (bad.none r (All-head InRange r rs fits) is)
first_refused (r ∷ rs) (s ∷ ss) body other later rest same fits all refused bad =
    let next : map body_of rs ++ body ∷ later ≡ map body_of ss ++ other ∷ rest = cc in
    ap suc
    (first_refused rs ss body other later rest next (All-tail InRange r rs fits) (All-tail InRange s ss all) refused
    bad)

-- An image has one base, one carry and one list of records after them.
pub record OneFrom (base after : ℕ) (carry next : Carry) (rest later : List Record) : Type 0 where
  pub base_is : base ≡ after
  pub carry_is : carry ≡ next
  pub rest_is : rest ≡ later

pub one_from : (image : List ℕ) (base after : ℕ) (carry next : Carry) (rest later : List Record)
    → HasFrom image base carry rest → HasFrom image after next later → OneFrom base after carry next rest later
one_from image base after carry next rest later has other =
    let one = one_head image has.second other.second has.generation other.generation base after carry next
    has.current.headed other.current.headed in
    let here : HasHalf image other.second other.generation after next rest =
    over_head (λ s g b c. HasHalf image s g b c rest) one has.current in
    record {
      base_is = one.base_is;
      carry_is = one.carry_is;
      rest_is = one_list rest later here.in_range other.current.in_range
          (sym here.records_are ∙ other.current.records_are);
    }

-- What holds by the one way holds by the other.
pub over_from : {base after : ℕ} {carry next : Carry} {rest later : List Record} (P : ℕ → Carry → List Record → Type 0)
    → OneFrom base after carry next rest later → P base carry rest → P after next later
over_from {base} {after} {carry} {next} {rest} {later} P one holds =
    subst (λ rs. P after next rs) one.rest_is
    (subst (λ c. P after c rest) one.carry_is (subst (λ b. P b carry rest) one.base_is holds))

-- The image of no journal has none.
pub alien_has_none : (image : List ℕ) (base : ℕ) (carry : Carry) (rest : List Record) → IsAlien image
    → HasFrom image base carry rest → ⊥
alien_has_none image base carry rest alien has = alien has.second has.generation base carry has.current.headed

-- Nor has an image with a body that spells none,
pub bad_has_none : (image : List ℕ) (index base : ℕ) (carry : Carry) (rest : List Record) → IsBadAt image index
    → HasFrom image base carry rest → ⊥
bad_has_none image index base carry rest bad has =
    let one = one_head image has.second bad.second has.generation bad.generation base bad.base carry bad.carry
    has.current.headed bad.headed in
    let here : HasHalf image bad.second bad.generation bad.base bad.carry rest =
    over_head (λ s g b c. HasHalf image s g b c rest) one has.current in
    none_refused bad.refused.before rest bad.refused.body bad.refused.later
    (sym bad.refused.bodies_are ∙ here.records_are) here.in_range bad.refused.refused

-- which isn't that of no journal,
pub bad_is_none : (image : List ℕ) (index : ℕ) → IsBadAt image index → IsAlien image → ⊥
bad_is_none image index bad alien = alien bad.second bad.generation bad.base bad.carry bad.headed

-- and has one index.
pub one_bad : (image : List ℕ) (index other : ℕ) → IsBadAt image index → IsBadAt image other → index ≡ other
one_bad image index other bad same =
    let one = one_head image bad.second same.second bad.generation same.generation bad.base same.base bad.carry
    same.carry bad.headed same.headed in
    let here : IsRefusedIn image same.second same.base index =
    over_head (λ s g b c. IsRefusedIn image s b index) one bad.refused in
    let many = first_refused here.before same.refused.before here.body same.refused.body here.later same.refused.later
    (sym here.bodies_are ∙ same.refused.bodies_are) here.in_range same.refused.in_range here.refused
    same.refused.refused in
    here.count ∙ ap (λ n. same.base + n) many ∙ sym same.refused.count

-- An image that has records is refused only by a disk that fails.
pub never_refused_from : (why : OpenNo) (image : List ℕ) (base : ℕ) (carry : Carry) (rest : List Record)
    → RefusesOpen why image → HasFrom image base carry rest → why ≡ Disk
never_refused_from Disk image base carry rest refuses has = refl
never_refused_from Alien image base carry rest alien has = absurd (alien_has_none image base carry rest alien has)
never_refused_from (BadRecord index) image base carry rest bad has =
    absurd (bad_has_none image index base carry rest bad has)

-- So is one that represents records.
pub never_refused : (why : OpenNo) (carry_of : List Record → Carry) (image : List ℕ) (records : List Record)
    → RefusesOpen why image → StandsFor carry_of image records → why ≡ Disk
never_refused why carry_of image records refuses stands =
    never_refused_from why image stands.base stands.carry stands.rest refuses stands.has
