-- Visits, where more is known of what is to be done.
use Rattle.std.proofs.Common.{ℕ, List, [], ◌∷◌, ◌++◌, Option, Some, None, inl, inr}
use Rattle.cct_laws_live.specs.LiveStep.{LiveStep}
use Rattle.cct_live_service.specs.declared.visit.Task.{Task}
use Rattle.cct_live_service.specs.Doing.{AreVisits, IsPoll, IsVisit, VisitsLast, VisitsTurn, VisitsUnless}
use Rattle.cct_live_service.specs.Known.{Tasks}
use Rattle.cct_live_service.specs.Told.{Told}

visit_weaker : (A B : ℕ → Task → Type 0) → ((addr : ℕ) (what : Task) → A addr what → B addr what) → (addr : ℕ)
    (steps : List LiveStep) (told : List Told) → IsVisit A addr steps told → IsVisit B addr steps told
visit_weaker A B to addr steps told h = (h.0, to addr h.0 h.1, h.2)

pub turn_weaker : (A B : ℕ → Task → Type 0) → ((addr : ℕ) (what : Task) → A addr what → B addr what) → (turn : Option ℕ)
    (steps : List LiveStep) (told : List Told) → VisitsTurn A turn steps told → VisitsTurn B turn steps told
turn_weaker A B to None steps told h = h
turn_weaker A B to (Some addr) steps told (inl none) = inl none
turn_weaker A B to (Some addr) steps told (inr visit) = inr (visit_weaker A B to addr steps told visit)

pub unless_weaker : (A B : ℕ → Task → Type 0) → ((addr : ℕ) (what : Task) → A addr what → B addr what) →
    (turn : Option ℕ) (addr : ℕ) (steps : List LiveStep) (told : List Told) → VisitsUnless A turn addr steps told →
    VisitsUnless B turn addr steps told
unless_weaker A B to turn addr steps told (inl none) = inl none
unless_weaker A B to turn addr steps told (inr visit) = inr (visit_weaker A B to addr steps told visit.0, visit.1)

visits_weaker : (A B : Tasks) → ((told : List Told) (addr : ℕ) (what : Task) → A told addr what → B told addr what) →
    (visited : List ℕ) (steps : List LiveStep) (told : List Told) → AreVisits A visited steps told →
    AreVisits B visited steps told
visits_weaker A B to [] steps told h = h
visits_weaker A B to (addr ∷ visited) steps told h = record {
  before = h.before;
  after = h.after;
  said = h.said;
  added = h.added;
  steps_are = h.steps_are;
  told_is = h.told_is;
  first = visits_weaker A B to visited h.before h.said h.first;
  next = visit_weaker (A h.said) (B h.said) (to h.said) addr h.after h.added h.next;
}

pub last_weaker : (A B : Tasks) → ((told : List Told) (addr : ℕ) (what : Task) → A told addr what → B told addr what) →
    (turn : Option ℕ) (steps : List LiveStep) (told : List Told) → VisitsLast A turn steps told →
    VisitsLast B turn steps told
last_weaker A B to turn steps told (inl h) = inl (record {
  before = h.before;
  after = h.after;
  said = h.said;
  added = h.added;
  steps_are = h.steps_are;
  told_is = h.told_is;
  first = h.first;
  next = turn_weaker (A h.said) (B h.said) (to h.said) turn h.after h.added h.next;
})
last_weaker A B to turn steps told (inr h) = inr (record {
  before = h.before;
  after = h.after;
  said = h.said;
  added = h.added;
  steps_are = h.steps_are;
  told_is = h.told_is;
  first = turn_weaker (A []) (B []) (to []) turn h.before h.said h.first;
  next = h.next;
})

pub poll_weaker : (A B : Tasks) → ((told : List Told) (addr : ℕ) (what : Task) → A told addr what → B told addr what) →
    (steps : List LiveStep) (told : List Told) → IsPoll A steps told → IsPoll B steps told
poll_weaker A B to steps told (turn, h) = (
  turn,
  record {
    before = h.before;
    after = h.after;
    said = h.said;
    added = h.added;
    steps_are = h.steps_are;
    told_is = h.told_is;
    first = (h.first.0, h.first.1, h.first.2, h.first.3, visits_weaker A B to h.first.1 h.before h.said h.first.4);
    next = last_weaker (λ more. A (h.said ++ more)) (λ more. B (h.said ++ more)) (λ more. to (h.said ++ more)) turn h.after
        h.added h.next;
  },
)
