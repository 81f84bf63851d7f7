-- What is known of a host and a desk is known of those that began before, after what was reported since.
use Rattle.std.proofs.Common.{◌≡◌, ◌≤◌, ◌∙◌, List, [], ◌++◌, Bool, Option, Result, Ok, refl, sym, ap, subst, append_assoc, arith, ℕ}
use Rattle.cct_edge.specs.declared.fault.Failed.{Failed}
use Rattle.cct_model.specs.lines.entry.Entry.{Entry}
use Rattle.cct_model.specs.Change.{Desk}
use Rattle.cct_disk.specs.declared.disk.Disk.{Ghosts}
use Rattle.cct_journal.specs.declared.format.TheConstants.{MOST_RECORDS}
use Rattle.cct_host.specs.declared.host.Host.{Host}
use Rattle.cct_host.specs.Host.{setup_of}
use Rattle.cct_laws_live.specs.Life.{IsLife}
use Rattle.cct_laws_live.specs.LiveStep.{LiveStep}
use Rattle.cct_live_service.specs.declared.visit.Task.{Task}
use Rattle.cct_live_service.specs.AtDesk.{AtDesk}
use Rattle.cct_live_service.specs.Known.{HasTask, IsKnown, KnownAfter, MissedFrom, Rested, Rests, TaskAfter, TaskNow}
use Rattle.cct_live_service.specs.Parts.{Acts, LifeGoes, Part}
use Rattle.cct_live_service.specs.Since.{StandsSince}
use Rattle.cct_live_service.specs.Told.{Told, news_of}
use Rattle.cct_live_service.proofs.Desks.{desk_then}
use Rattle.cct_live_service.proofs.Telling.{news_then}

-- a count that never falls
pub later_then : {a b c : ℕ} → a ≤ b → b ≤ c → a ≤ c
later_then {a} {b} {c} h k = omega (arith, h, k)

module _ {D : Type 0} {g : Ghosts D} where
  -- what was reported, and the way of a life from one host to another, and from one desk to another
  abbrev pub GoesTo : Host D g → Host D g → Desk → Desk → List LiveStep → List Told → Type 0
  GoesTo host mid was desk steps told =
      LifeGoes g (setup_of host) (StandsSince host) steps told (StandsSince mid) × AtDesk was desk told

  -- What is known of a host that did something, beside what it did.
  abbrev pub Knowing : (List LiveStep → List Told → Type 0) → (List Told → Type 0) → Host D g → Host D g → List LiveStep
      → List Told → Type 0
  Knowing P S old new steps told =
      P steps told × S told × LifeGoes g (setup_of old) (StandsSince old) steps told (StandsSince new)

  -- at once
  pub known_now : (host : Host D g) (desk : Desk) (Fact : Desk → List Entry → Type 0) → IsKnown host desk Fact →
      KnownAfter host desk [] Fact
  known_now host desk Fact known = (desk, refl, λ given found before past life is. known past is.stands.keeps)

  -- later
  pub known_later : (host mid : Host D g) (was desk : Desk) (steps : List LiveStep) (told : List Told) →
      GoesTo host mid was desk steps told → (Fact : Desk → List Entry → Type 0) → IsKnown mid desk Fact →
      KnownAfter host was told Fact
  known_later host mid was desk steps told goes Fact known = (
    desk,
    goes.1,
    λ given found before past life is. known (news_of told ++ past) (goes.0 given found before past life is).1.stands.keeps,
  )

  -- and after more
  pub known_then : (host mid : Host D g) → setup_of mid ≡ setup_of host → (was desk : Desk) (steps : List LiveStep)
      (told more : List Told) → GoesTo host mid was desk steps told → (Fact : Desk → List Entry → Type 0) →
      KnownAfter mid desk more Fact → KnownAfter host was (told ++ more) Fact
  known_then host mid same was desk steps told more goes Fact known = (
    known.0,
    desk_then was desk known.0 told more goes.1 known.1,
    λ given found before past life is.
        let one = goes.0 given found before past life is in
        let all = append_assoc (news_of more) (news_of told) past in
        subst (Fact known.0) (sym all ∙ ap (λ news. news ++ past) (sym (news_then told more)))
        (known.2 given found (before ++ steps) (news_of told ++ past)
        (subst (λ setup. IsLife MOST_RECORDS setup found (before ++ steps) (news_of told ++ past)) (sym same) one.0) one.1),
  )

  -- whether a session has nothing to do
  pub rested_later : (host mid : Host D g) → setup_of mid ≡ setup_of host → (was desk : Desk) (steps : List LiveStep)
      (told : List Told) → GoesTo host mid was desk steps told → (rest : Bool) → Rested mid desk rest →
      KnownAfter host was told (Rests (setup_of host) rest)
  rested_later host mid same was desk steps told goes rest known =
      known_later host mid was desk steps told goes (Rests (setup_of host) rest)
      (subst (λ setup. IsKnown mid desk (Rests setup rest)) same known)

  -- what is to be done at an address, at once
  pub task_now : (host : Host D g) (desk : Desk) (addr : ℕ) (what : Task) → TaskNow host desk addr what →
      TaskAfter host desk [] addr what
  task_now host desk addr what = known_now host desk (HasTask (setup_of host) addr what)

  -- later
  pub task_later : (host mid : Host D g) → setup_of mid ≡ setup_of host → (was desk : Desk) (steps : List LiveStep)
      (told : List Told) → GoesTo host mid was desk steps told → (addr : ℕ) (what : Task) → TaskNow mid desk addr what →
      TaskAfter host was told addr what
  task_later host mid same was desk steps told goes addr what known =
      known_later host mid was desk steps told goes (HasTask (setup_of host) addr what)
      (subst (λ setup. IsKnown mid desk (HasTask setup addr what)) same known)

  -- and after more
  pub task_then : (host mid : Host D g) → setup_of mid ≡ setup_of host → (was desk : Desk) (steps : List LiveStep)
      (told : List Told) → GoesTo host mid was desk steps told → (more : List Told) (addr : ℕ) (what : Task) →
      TaskAfter mid desk more addr what → TaskAfter host was (told ++ more) addr what
  task_then host mid same was desk steps told goes more addr what known =
      known_then host mid same was desk steps told more goes (HasTask (setup_of host) addr what)
      (subst (λ setup. KnownAfter mid desk more (HasTask setup addr what)) same known)

  -- what was missed
  pub missed_later : (host mid : Host D g) → setup_of mid ≡ setup_of host → (was desk : Desk) (steps : List LiveStep)
      (told : List Told) → GoesTo host mid was desk steps told → (M N : Type 0) → (M → N) → MissedFrom mid M →
      MissedFrom host N
  missed_later host mid same was desk steps told goes M N to missed given found before past life since trusted =
      let one = goes.0 given found before past life since in
      to (missed given found (before ++ steps) (news_of told ++ past)
      (subst (λ setup. IsLife MOST_RECORDS setup found (before ++ steps) (news_of told ++ past)) (sym same) one.0) one.1
      trusted)

  pub missed_weaker : (host : Host D g) (M N : Type 0) → (M → N) → MissedFrom host M → MissedFrom host N
  missed_weaker host M N to missed given found before past life since trusted =
      to (missed given found before past life since trusted)

-- of a sink with a count of faults
module _ {K : Type 0} (written : K → Option (List ℕ)) (puts : K → List ℕ → Result (Unit {0}) Failed → K → Type 0)
    (faults : K → ℕ) {D : Type 0} {g : Ghosts D} where
  pub part_knowing : (S : List Told → Type 0) (a b : K) (old new : Host D g) (P : List LiveStep → List Told → Type 0) →
      Part written puts g a b (Ok tt) (setup_of old) (StandsSince old) (StandsSince new) S P →
      Part written puts g a b (Ok tt) (setup_of old) (StandsSince old) (StandsSince new) S (Knowing P S old new)
  part_knowing S a b old new P h = record {
    steps = h.steps;
    told = h.told;
    wrote = h.wrote;
    goes = h.goes;
    does = (h.does, h.linked, h.goes);
    linked = h.linked;
  }

  pub acts_knowing : (S : List Told → Type 0) (a b : K) (old new : Host D g) (P : List LiveStep → List Told → Type 0) →
      Acts written puts faults S P (Ok tt) a b old new → Acts written puts faults S (Knowing P S old new) (Ok tt) a b old new
  acts_knowing S a b old new P h = record {
    whole = h.whole;
    setup = h.setup;
    lives = part_knowing S a b old new P h.lives;
    sink = h.sink;
    disk = h.disk;
  }
