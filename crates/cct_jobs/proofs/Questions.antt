-- The questions of an identification, each after the one before.
use Rattle.std.proofs.Common.{◌≡◌, ℕ, ◌+◌, suc, zero, ◌<◌, Bool, true, false, List, [], ◌∷◌, length, map, refl, ap, subst, Option, Some, None, arith}
use Rattle.std.proofs.lemmas.Bool.{and_parts}
use Rattle.std.proofs.lemmas.Bool.Decides.{nat_tests}
use Rattle.std.specs.Prelude.{◌==◌, slice_get}
use Rattle.std.specs.List.{list_all}
use Rattle.cct_model.specs.terms.device.DeviceBody.{DeviceBody}
use Rattle.cct_model.specs.terms.device.DeviceBody.TheVariants.{Acceptor, Bill, Hopper}
use Rattle.cct_model.specs.terms.family.Family.{Family}
use Rattle.cct_model.specs.terms.family.Family.TheVariants as family
use Rattle.cct_model.specs.terms.request.Request.{Request}
use Rattle.cct_model.specs.Job.{ident_requests}
use Rattle.cct_model.specs.Family.{family_of}
use Rattle.cct_jobs.specs.Ahead.{body_of, place_of}
use Rattle.cct_jobs.specs.Jobs.{question_after}
use Rattle.cct_model.proofs.Requests.{IsAgain, is_asked_again}

-- what is after each element
abbrev behind_each : List Request → List (Option Request)
behind_each [] = []
behind_each (q ∷ rest) = slice_get rest 0 ∷ behind_each rest

follows : (next : Request → Option Request) (xs : List Request) (n : ℕ) (q : Request) → map next xs ≡ behind_each xs → slice_get xs n ≡ Some q → slice_get xs (suc n) ≡ next q
follows next [] n q e at = absurd cc
follows next (x ∷ xs) zero q e at = cc
follows next (x ∷ xs) (suc n) q e at =
    let rest : map next xs ≡ behind_each xs = cc in
    follows next xs n q rest at

-- the questions to a device of a family
abbrev pub questions : Family → List Request
questions which = ident_requests (body_of which)

-- they are those to any device of the family
pub same_questions : (body : DeviceBody) → questions (family_of body) ≡ ident_requests body
same_questions (Acceptor accepts values ids) = refl
same_questions (Hopper life value) = refl
same_questions (Bill accepts values ids) = refl

each_follows : (which : Family) → map (question_after which) (questions which) ≡ behind_each (questions which)
each_follows family.Acceptor = refl
each_follows family.Hopper = refl
each_follows family.Bill = refl

-- the question at the place after one is the one that follows it
pub next_question : (which : Family) (n : ℕ) (q : Request) → slice_get (questions which) n ≡ Some q
    → slice_get (questions which) (suc n) ≡ question_after which q
next_question which n q at = follows (question_after which) (questions which) n q (each_follows which) at

-- each is found at its place

abbrev numbered : ℕ → List Request → List ℕ
numbered n [] = []
numbered n (q ∷ qs) = n ∷ numbered (suc n) qs

at_number : (place : Request → ℕ) (xs : List Request) (first n : ℕ) (q : Request) → map place xs ≡ numbered first xs
    → slice_get xs n ≡ Some q → place q ≡ n + first
at_number place [] first n q e at = absurd cc
at_number place (x ∷ xs) first zero q e at =
    let is : place q ≡ first = cc in
    omega (arith, is)
at_number place (x ∷ xs) first (suc n) q e at =
    let rest : map place xs ≡ numbered (suc first) xs = cc in
    let found = at_number place xs (suc first) n q rest at in
    omega (arith, found)

each_placed : (which : Family) → map (λ q. place_of q (questions which)) (questions which) ≡ numbered 0 (questions which)
each_placed family.Acceptor = refl
each_placed family.Hopper = refl
each_placed family.Bill = refl

pub placed : (which : Family) (n : ℕ) (q : Request) → slice_get (questions which) n ≡ Some q
    → place_of q (questions which) ≡ n
placed which n q at =
    let found = at_number (λ x. place_of x (questions which)) (questions which) 0 n q (each_placed which) at in
    omega (arith, found)

-- where none follows, that many were asked
pub last_question : (xs : List Request) (n : ℕ) (q : Request) → slice_get xs n ≡ Some q → slice_get xs (suc n) ≡ None → length xs ≡ suc n
last_question [] n q at none = absurd cc
last_question (x ∷ []) zero q at none = refl
last_question (x ∷ []) (suc n) q at none = absurd cc
last_question (x ∷ y ∷ xs) zero q at none = absurd cc
last_question (x ∷ y ∷ xs) (suc n) q at none = ap suc (last_question (y ∷ xs) n q at none)

below : (xs : List Request) (n : ℕ) (q : Request) → slice_get xs n ≡ Some q → n < length xs
below [] n q e = absurd cc
below (x ∷ xs) zero q e = omega arith
below (x ∷ xs) (suc n) q e =
    let rest : n < length xs = below xs n q e in
    omega (arith, rest)

other : (n m : ℕ) → n < m → (m == n) ≡ false
other n m less = grind (arith, nat_tests, less)

-- where one is at a place, there are more than so many
pub question_within : (xs : List Request) (n : ℕ) (q : Request) → slice_get xs n ≡ Some q → (length xs == n) ≡ false
question_within xs n q e = other n (length xs) (below xs n q e)

-- a test of all of a list is one of each
all_at : (test : Request → Bool) (xs : List Request) (n : ℕ) (q : Request) → list_all test xs ≡ true
    → slice_get xs n ≡ Some q → test q ≡ true
all_at test [] n q e at = absurd cc
all_at test (x ∷ xs) zero q e at =
    let is : x ≡ q = cc in
    subst (λ r. test r ≡ true) is (and_parts (test x) (list_all test xs) e).0
all_at test (x ∷ xs) (suc n) q e at = all_at test xs n q (and_parts (test x) (list_all test xs) e).1 at

each_again : (which : Family) → list_all is_asked_again (questions which) ≡ true
each_again family.Acceptor = refl
each_again family.Hopper = refl
each_again family.Bill = refl

-- every question is asked again
pub question_again : (which : Family) (n : ℕ) (q : Request) → slice_get (questions which) n ≡ Some q → IsAgain q
question_again which n q at = all_at is_asked_again (questions which) n q (each_again which) at
