-- The addresses of a set as a list in rising order: with one more, without one, and which one is first.
use Rattle.std.proofs.Common.{◌≡◌, ◌≢◌, ℕ, suc, zero, ◌<◌, ◌≤◌, ◌==◌, ◌&&◌, ◌||◌, not, inl, inr, Bool, true, false, cond, List, [], ◌∷◌, ◌++◌, refl, sym, ap, ◌∙◌, arith, append_assoc, eq-eqb, ne_eqb}
use Rattle.std.specs.Prelude.{filter, find}
use Rattle.std.proofs.Math.Bool.{or-false}
use Rattle.std.proofs.lemmas.Bool.{cases_eq, cases_lt, le-ltb, lt-ltb}
use Rattle.std.proofs.lemmas.List.Elements.{filter-append}
use Rattle.cct_model_lines.specs.declared.device_set.DeviceSet.{DeviceSet}
use Rattle.cct_model_lines.specs.DeviceSet.{addresses_below, addresses_in, all_addresses, first_address, has, is_address_in, with_address, without_address}

-- no address passes a test that none passes
none_pass : (p : ℕ → Bool) (xs : List ℕ) → ((a : ℕ) → p a ≡ false) → filter p xs ≡ []
none_pass p [] none = refl
none_pass p (x ∷ xs) none = rw (none x) (none_pass p xs none)

-- a set without a member is the list without an address
pub empty_is : (set : DeviceSet) → ((a : ℕ) → has set a ≡ false) → addresses_in set ≡ []
empty_is set none = none_pass (has set) all_addresses none

-- one or no address by a test
abbrev only : Bool → ℕ → List ℕ
only b a = cond b (a ∷ []) []

-- the addresses below one more
filter_more : (p : ℕ → Bool) (n : ℕ) → filter p (addresses_below (suc n)) ≡ filter p (addresses_below n) ++ only (p n) n
filter_more p n = filter-append p (addresses_below n) (n ∷ [])

-- an address is put after those below it
put_behind_one : (addr m : ℕ) (b : Bool) (ys : List ℕ) → m < addr
    → with_address addr (only b m ++ ys) ≡ only b m ++ with_address addr ys
unfolding with_address
put_behind_one addr m true ys above = rw (le-ltb addr m (omega arith), ne_eqb m addr (λ e. omega arith)) refl
put_behind_one addr m false ys above = refl

put_behind : (p : ℕ → Bool) (addr m : ℕ) (ys : List ℕ) → m ≤ addr
    → with_address addr (filter p (addresses_below m) ++ ys) ≡ filter p (addresses_below m) ++ with_address addr ys
put_behind p addr zero ys above = refl
put_behind p addr (suc m) ys above =
    let xs = filter p (addresses_below m) in
    let one = only (p m) m in
    let more : List ℕ → List ℕ = λ zs. with_address addr (zs ++ ys) in
    ap more (filter_more p m)
    ∙ ap (with_address addr) (append_assoc xs one ys)
    ∙ put_behind p addr m (one ++ ys) (omega arith)
    ∙ ap (λ zs. xs ++ zs) (put_behind_one addr m (p m) ys (omega arith))
    ∙ sym (append_assoc xs one (with_address addr ys))
    ∙ ap (λ zs. zs ++ with_address addr ys) (sym (filter_more p m))

-- where it is the greatest, it is the last
put_last : (addr : ℕ) (b : Bool) → with_address addr (only b addr) ≡ addr ∷ []
unfolding with_address
put_last addr true = rw (le-ltb addr addr (omega arith), eq-eqb addr addr refl) refl
put_last addr false = refl

-- a greater one after it stays after it
put_past : (addr n : ℕ) (b : Bool) (x : ℕ) (xs : List ℕ) → x ≢ addr
    → with_address addr xs ++ only b n ≡ with_address addr (xs ++ only b n)
    → with_address addr (x ∷ xs) ++ only b n ≡ with_address addr (x ∷ xs ++ only b n)
unfolding with_address
put_past addr n b x xs other behind =
    elim (cases_lt addr x) [
      | inl below ↦ rw (lt-ltb addr x below) refl
      | inr from ↦ rw (le-ltb addr x from, ne_eqb x addr other) (ap (λ zs. x ∷ zs) behind)
    ]

put_before : (addr n : ℕ) (b : Bool) (xs : List ℕ) → addr < n
    → with_address addr xs ++ only b n ≡ with_address addr (xs ++ only b n)
unfolding with_address
put_before addr n true [] below = rw (lt-ltb addr n below) refl
put_before addr n false [] below = refl
put_before addr n b (x ∷ xs) below =
    elim (cases_eq x addr) [
      | inl same ↦ rw (le-ltb addr x (omega arith), eq-eqb x addr same) refl
      | inr other ↦ put_past addr n b x xs other (put_before addr n b xs below)
    ]

-- a test passes one address more than another
abbrev pub HasMore : ℕ → (ℕ → Bool) → (ℕ → Bool) → Type 0
HasMore addr p q = (a : ℕ) → q a ≡ ((a == addr) || p a)

same_at : (addr n : ℕ) (p q : ℕ → Bool) → HasMore addr p q → n ≢ addr → q n ≡ p n
same_at addr n p q more other = rw (more n, ne_eqb n addr other) refl

same_below : (addr n : ℕ) (p q : ℕ → Bool) → HasMore addr p q → n ≤ addr
    → filter q (addresses_below n) ≡ filter p (addresses_below n)
same_below addr zero p q more up_to = refl
same_below addr (suc n) p q more up_to =
    filter_more q n
    ∙ ap (λ b. filter q (addresses_below n) ++ only b n) (same_at addr n p q more (λ e. omega (arith, e, up_to)))
    ∙ ap (λ xs. xs ++ only (p n) n) (same_below addr n p q more (omega arith))
    ∙ sym (filter_more p n)

one_at : (addr n : ℕ) (p q : ℕ → Bool) → HasMore addr p q → n ≡ addr → q n ≡ true
one_at addr n p q more same = rw (more n, eq-eqb n addr same) refl

-- what passes with one address more, where it is the last
put_at_end : (addr n : ℕ) (p q : ℕ → Bool) → HasMore addr p q → n ≡ addr
    → filter q (addresses_below (suc n)) ≡ with_address addr (filter p (addresses_below (suc n)))
put_at_end addr n p q more same =
    let xs = filter p (addresses_below n) in
    filter_more q n
    ∙ ap (λ b. filter q (addresses_below n) ++ only b n) (one_at addr n p q more same)
    ∙ ap (λ zs. zs ++ n ∷ []) (same_below addr n p q more (omega (arith, same)))
    ∙ ap (λ a. xs ++ a ∷ []) same
    ∙ ap (λ zs. xs ++ zs) (sym (put_last addr (p n)) ∙ ap (λ a. with_address addr (only (p n) a)) (sym same))
    ∙ sym (put_behind p addr n (only (p n) n) (omega (arith, same)))
    ∙ ap (with_address addr) (sym (filter_more p n))

-- .. and where it isn't
put_earlier : (addr n : ℕ) (p q : ℕ → Bool) → HasMore addr p q → addr < n
    → filter q (addresses_below n) ≡ with_address addr (filter p (addresses_below n))
    → filter q (addresses_below (suc n)) ≡ with_address addr (filter p (addresses_below (suc n)))
put_earlier addr n p q more below among =
    filter_more q n
    ∙ ap (λ b. filter q (addresses_below n) ++ only b n) (same_at addr n p q more (λ e. omega (arith, e, below)))
    ∙ ap (λ xs. xs ++ only (p n) n) among
    ∙ put_before addr n (p n) (filter p (addresses_below n)) below
    ∙ ap (with_address addr) (sym (filter_more p n))

-- what passes with one address more is what passes, with it in its place
put_among : (addr n : ℕ) (p q : ℕ → Bool) → HasMore addr p q → addr < n
    → filter q (addresses_below n) ≡ with_address addr (filter p (addresses_below n))
put_among addr zero p q more below = absurd (omega arith)
put_among addr (suc n) p q more below =
    elim (cases_eq n addr) [
      | inl same ↦ put_at_end addr n p q more same
      | inr other ↦
          let less : addr < n = omega (arith, below, other) in
          put_earlier addr n p q more less (put_among addr n p q more less)
    ]

-- a set with an address more is its list with that in its place
pub placed_is : (old new : DeviceSet) (addr : ℕ) → addr < 256 → ((a : ℕ) → has new a ≡ ((a == addr) || has old a))
    → addresses_in new ≡ with_address addr (addresses_in old)
unfolding all_addresses
placed_is old new addr within more = put_among addr 256 (has old) (has new) more within

-- what passes with one address less
left_by : (addr x : ℕ) (p q : ℕ → Bool) (b same : Bool) (xs : List ℕ) → p x ≡ b → (x == addr) ≡ same
    → q x ≡ (not same && b)
    → filter q xs ≡ without_address addr (filter p xs) → filter q (x ∷ xs) ≡ without_address addr (filter p (x ∷ xs))
unfolding without_address
left_by addr x p q true true xs passes is fails rest = rw (passes, fails, is) rest
left_by addr x p q true false xs passes is fails rest = rw (passes, fails, is) (ap (λ zs. x ∷ zs) rest)
left_by addr x p q false true xs passes is fails rest = rw (passes, fails) rest
left_by addr x p q false false xs passes is fails rest = rw (passes, fails) rest

left_among : (addr : ℕ) (p q : ℕ → Bool) (xs : List ℕ) → ((a : ℕ) → q a ≡ (not (a == addr) && p a))
    → filter q xs ≡ without_address addr (filter p xs)
unfolding without_address
left_among addr p q [] less = refl
left_among addr p q (x ∷ xs) less =
    left_by addr x p q (p x) (x == addr) xs refl refl (less x) (left_among addr p q xs less)

-- a set with an address less is its list without that
pub left_is : (old new : DeviceSet) (addr : ℕ) → ((a : ℕ) → has new a ≡ (not (a == addr) && has old a))
    → addresses_in new ≡ without_address addr (addresses_in old)
left_is old new addr less = left_among addr (has old) (has new) all_addresses less

-- the first that passes is the first of what passes
head_by : (p : ℕ → Bool) (x : ℕ) (b : Bool) (xs : List ℕ) → p x ≡ b → find p xs ≡ first_address (filter p xs)
    → find p (x ∷ xs) ≡ first_address (filter p (x ∷ xs))
unfolding first_address
head_by p x true xs passes rest = rw passes refl
head_by p x false xs passes rest = rw passes rest

head_of : (p : ℕ → Bool) (xs : List ℕ) → find p xs ≡ first_address (filter p xs)
unfolding first_address
head_of p [] = refl
head_of p (x ∷ xs) = head_by p x (p x) xs refl (head_of p xs)

-- the least address of a set is the first of its list
pub head_is : (set : DeviceSet) → find (has set) all_addresses ≡ first_address (addresses_in set)
head_is set = head_of (has set) all_addresses

in_either : (first one other both : Bool) → both ≡ (one || other) → (first || both) ≡ ((first || one) || other)
in_either true one other both is = refl
in_either false one other both is = is

-- an address is in a list or in what follows
in_more : (xs ys : List ℕ) (addr : ℕ) → is_address_in (xs ++ ys) addr ≡ (is_address_in xs addr || is_address_in ys addr)
unfolding is_address_in
in_more [] ys addr = refl
in_more (x ∷ xs) ys addr = in_either (x == addr) (is_address_in xs addr) (is_address_in ys addr) _ (in_more xs ys addr)

in_one : (n addr : ℕ) (b same : Bool) → (n == addr) ≡ same → is_address_in (only b n) addr ≡ (same && b)
unfolding is_address_in
in_one n addr true true is = rw is refl
in_one n addr true false is = rw is refl
in_one n addr false true is = refl
in_one n addr false false is = refl

in_suc : (p : ℕ → Bool) (n addr : ℕ)
    → is_address_in (filter p (addresses_below (suc n))) addr
    ≡ (is_address_in (filter p (addresses_below n)) addr || ((n == addr) && p n))
in_suc p n addr =
    ap (λ xs. is_address_in xs addr) (filter_more p n)
    ∙ in_more (filter p (addresses_below n)) (only (p n) n) addr
    ∙ ap (λ b. is_address_in (filter p (addresses_below n)) addr || b) (in_one n addr (p n) (n == addr) refl)

-- none above those that are listed
not_yet : (p : ℕ → Bool) (n addr : ℕ) → n ≤ addr → is_address_in (filter p (addresses_below n)) addr ≡ false
unfolding is_address_in
not_yet p zero addr above = refl
not_yet p (suc n) addr above =
    in_suc p n addr ∙ rw (not_yet p n addr (omega arith), ne_eqb n addr (λ e. omega (arith, e, above))) refl

now_there : (p : ℕ → Bool) (n addr : ℕ) → n ≡ addr → is_address_in (filter p (addresses_below (suc n))) addr ≡ p addr
now_there p n addr same =
    in_suc p n addr ∙ rw (not_yet p n addr (omega (arith, same)), eq-eqb n addr same) (ap p same)

still_there : (p : ℕ → Bool) (n addr : ℕ) → n ≢ addr → is_address_in (filter p (addresses_below n)) addr ≡ p addr
    → is_address_in (filter p (addresses_below (suc n))) addr ≡ p addr
still_there p n addr other before = in_suc p n addr ∙ rw (ne_eqb n addr other, before) (or-false (p addr))

there : (p : ℕ → Bool) (n addr : ℕ) → addr < n → is_address_in (filter p (addresses_below n)) addr ≡ p addr
there p zero addr below = absurd (omega arith)
there p (suc n) addr below =
    elim (cases_eq n addr) [
      | inl same ↦ now_there p n addr same
      | inr other ↦ still_there p n addr other (there p n addr (omega (arith, below, other)))
    ]

-- a set has an address where its list has it
pub listed_is : (set : DeviceSet) (addr : ℕ) → addr < 256 → has set addr ≡ is_address_in (addresses_in set) addr
unfolding all_addresses
listed_is set addr within = sym (there (has set) 256 addr within)
