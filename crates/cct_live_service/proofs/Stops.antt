-- The end of a service: each acceptor that runs is stopped.
use Rattle.std.proofs.Common.{◌≡◌, ◌≤◌, ◌+◌, ◌-◌, ◌⊎◌, ℕ, zero, suc, List, [], ◌∷◌, ◌++◌, length, Bool, true, false, Option, Result, Ok, Err, refl, sym, ◌∙◌, subst, inl, inr, append_assoc, arith}
use Rattle.std.proofs.lemmas.List.{append-nil}
use Rattle.std.proofs.lemmas.List.Elements.{All-nil}
use Rattle.cct_edge.specs.declared.fault.Failed.{Failed}
use Rattle.cct_model.specs.terms.device.Setup.{Setup}
use Rattle.cct_model.specs.lines.command.Command.TheVariants as command
use Rattle.cct_model.specs.lines.entry.Entry.{Entry}
use Rattle.cct_model.specs.lines.entry.Entry.TheVariants as entry_of
use Rattle.cct_model.specs.Change.{Desk}
use Rattle.cct_disk.specs.declared.disk.Disk.{Ghosts}
use Rattle.cct_host.specs.declared.host.Host.{Host}
use Rattle.cct_host.specs.Host.{setup_of}
use Rattle.cct_laws_live.specs.LiveStep.{LiveStep}
use Rattle.cct_laws_live.specs.LiveStep as live
use Rattle.cct_live_survey.specs.declared.finding.Finding.{Finding}
use Rattle.cct_live_service.specs.declared.attempts.Until.{Until}
use Rattle.cct_live_service.specs.declared.attempts.Until.TheVariants as until_of
use Rattle.cct_live_service.specs.declared.notice.Notice.{Notice}
use Rattle.cct_live_service.specs.declared.served.Served.{Served}
use Rattle.cct_live_service.specs.declared.served.Served.TheVariants as served
use Rattle.cct_live_service.specs.declared.stopping.AtEnd.{AtEnd}
use Rattle.cct_live_service.specs.declared.stopping.AtEnd.TheVariants as at_end
use Rattle.cct_live_service.specs.Doing.{DoesLines, FrontOf, GivesStop, GoesOnTo, IsDone, MakesAttempts, PlaysLines, ServesLines, StopsAt, StopsBy, StopsRunning, StopsStill, StopsUpTo, TellsOne, ends_by}
use Rattle.cct_live_service.specs.Watch.{IsOfWatch}
use Rattle.cct_live_service.specs.Ends.{tells_unanswered}
use Rattle.cct_live_service.specs.Known.{HasJob, HasTask, IsKnown, KnownAfter, Knows, Rests, Runs, tasks_by}
use Rattle.cct_live_service.specs.Parts.{LivesOn, LivesTo}
use Rattle.cct_live_service.specs.Said.{IsOfInput, Said}
use Rattle.cct_live_service.specs.Told.{Told, attempt_told, entry, findings_in, notices_told}
use Rattle.cct_live_service.proofs.Doings.{end_none, last_made, line_weaker, then_by}
use Rattle.cct_live_service.proofs.KnownLater.{GoesTo, known_later, known_now, known_then}
use Rattle.cct_live_service.proofs.Parts.{front_whole, lives_front, lives_weaker}

-- one attempt
once : ℕ → List Told
once addr = attempt_told true (entry_of.Idle addr ∷ []) ++ notices_told []

made_once : (addr : ℕ) → MakesAttempts until_of.Ended addr (live.next addr ∷ []) (once addr)
unfolding once
made_once addr =
    last_made until_of.Ended addr 0 true (entry_of.Idle addr ∷ []) (omega arith) (λ is. refl) [] (live.next addr ∷ []) []
    (attempt_told true (entry_of.Idle addr ∷ []) ++ notices_told []) (refl, refl)
    (refl, ([], All-nil IsOfWatch, refl))

-- a stop of which the attempts aren't reported
pub gives_front : (knows : Knows) (setup : Setup) (addr : ℕ) (steps : List LiveStep) (told : List Told) →
    TellsOne (live.command (command.Stop addr)) steps told → FrontOf (GivesStop knows setup addr) steps told
gives_front knows setup addr steps told h = record {
  undone = live.next addr ∷ [];
  untold = once addr;
  whole = then_by (TellsOne (live.command (command.Stop addr)))
      (λ said. GoesOnTo (knows said (HasJob setup addr false)) until_of.Ended addr) steps (live.next addr ∷ []) told
      (once addr) h (inr (made_once addr));
}

-- some stop
abbrev stop_steps : ℕ → List LiveStep
stop_steps addr = (live.command (command.Stop addr) ∷ []) ++ live.next addr ∷ []

abbrev stop_told : ℕ → List Told
stop_told addr = (entry entry_of.Words ∷ []) ++ once addr

gives_some : (knows : Knows) (setup : Setup) (addr : ℕ) → GivesStop knows setup addr (stop_steps addr) (stop_told addr)
gives_some knows setup addr =
    then_by (TellsOne (live.command (command.Stop addr)))
    (λ said. GoesOnTo (knows said (HasJob setup addr false)) until_of.Ended addr) (live.command (command.Stop addr) ∷ [])
    (live.next addr ∷ []) (entry entry_of.Words ∷ []) (once addr) (refl, (entry_of.Words, refl)) (inr (made_once addr))

once_answered : (addr : ℕ) → tells_unanswered (once addr) ≡ false
unfolding once
once_answered addr = refl

-- one that is given or not, by what was reported before, where it is broken off
module _ (E : Type 0) (no : E → ⊥) where
  record SomeStill (knows : Knows) (setup : Setup) (addr : ℕ) (said : List Told) : Type 0 where
    steps : List LiveStep
    told : List Told
    still : StopsStill E knows setup addr said steps told

  still_some : (knows : Knows) (setup : Setup) (addr : ℕ) (said : List Told) → SomeStill knows setup addr said
  still_some knows setup addr said = by_end (tells_unanswered said) refl
    where
      by_end : (b : Bool) → tells_unanswered said ≡ b → SomeStill knows setup addr said
      by_end true is = record { steps = []; told = []; still = inl ((refl, refl), inr is) }
      by_end false is = record {
        steps = stop_steps addr;
        told = stop_told addr;
        still = inr (gives_some (λ more. knows (said ++ more)) setup addr, is, λ lasts. absurd (no lasts));
      }

  -- the attempts of a job, before the stop is reported
  pub running_front : (knows : Knows) (setup : Setup) (addr : ℕ) (steps : List LiveStep) (told : List Told) →
      GoesOnTo (knows [] (HasJob setup addr false)) until_of.Ended addr steps told →
      FrontOf (StopsRunning E knows setup addr) steps told
  running_front knows setup addr steps told h =
      let some = still_some knows setup addr told in
      record {
        undone = some.steps;
        untold = some.told;
        whole = then_by (GoesOnTo (knows [] (HasJob setup addr false)) until_of.Ended addr) (StopsStill E knows setup addr) steps
            some.steps told some.told h some.still;
      }

  some_stop : (knows : Knows) (setup : Setup) (addr : ℕ) →
      StopsAt E knows setup addr ((live.next addr ∷ []) ++ stop_steps addr) (once addr ++ stop_told addr)
  some_stop knows setup addr =
      inr (
        then_by (GoesOnTo (knows [] (HasJob setup addr false)) until_of.Ended addr) (StopsStill E knows setup addr)
            (live.next addr ∷ []) (stop_steps addr) (once addr) (stop_told addr) (inr (made_once addr))
            (inr (
              gives_some (λ more. knows (once addr ++ more)) setup addr,
              once_answered addr,
              λ lasts. absurd (no lasts),
            )),
        λ lasts. absurd (no lasts),
      )

  -- the first addresses, before the others
  pub more_stop : (many addr end : ℕ) → many + addr ≡ end → (knows : Knows) (setup : Setup) (steps : List LiveStep)
      (told : List Told) → StopsUpTo addr E knows setup steps told → FrontOf (StopsUpTo end E knows setup) steps told
  more_stop zero addr end is knows setup steps told h =
      subst (λ n. FrontOf (StopsUpTo n E knows setup) steps told) (same addr end is)
      (front_whole (StopsUpTo addr E knows setup) steps told h)
    where
      same : (n m : ℕ) → 0 + n ≡ m → n ≡ m
      same n m e = omega (arith, e)
  more_stop (suc many) addr end is knows setup steps told h =
      let at = many + addr in
      let k = more_stop many addr at refl knows setup steps told h in
      let then_steps = (live.next at ∷ []) ++ stop_steps at in
      let then_told = once at ++ stop_told at in
      subst (λ n. FrontOf (StopsUpTo n E knows setup) steps told) (one_more many addr end is)
      (record {
        undone = k.undone ++ then_steps;
        untold = k.untold ++ then_told;
        whole = subst (λ s. StopsUpTo (suc at) E knows setup s (told ++ (k.untold ++ then_told)))
            (append_assoc steps k.undone then_steps)
            (subst (StopsUpTo (suc at) E knows setup ((steps ++ k.undone) ++ then_steps))
            (append_assoc told k.untold then_told)
            (then_by (StopsUpTo at E knows setup) (λ said. StopsAt E (λ more. knows (said ++ more)) setup at)
            (steps ++ k.undone) then_steps (told ++ k.untold) then_told k.whole
            (some_stop (λ more. knows ((told ++ k.untold) ++ more)) setup at)));
      })
    where
      one_more : (m n e : ℕ) → suc m + n ≡ e → suc (m + n) ≡ e
      one_more m n e eq = omega (arith, eq)

  pub all_stop : (addr : ℕ) → addr ≤ 256 → (knows : Knows) (setup : Setup) (steps : List LiveStep) (told : List Told) →
      StopsUpTo addr E knows setup steps told → FrontOf (StopsUpTo 256 E knows setup) steps told
  all_stop addr few knows setup steps told h =
      more_stop (256 - addr) addr 256 (rest addr few) knows setup steps told h
    where
      rest : (n : ℕ) → n ≤ 256 → (256 - n) + n ≡ 256
      rest n le = omega (arith, le)

  -- lines, before what is done at the end
  stops_none : (ends : AtEnd) (knows : Knows) (setup : Setup) → FrontOf (StopsBy ends E knows setup) [] []
  stops_none at_end.Leave knows setup = front_whole (StopsBy at_end.Leave E knows setup) [] [] (refl, refl)
  stops_none at_end.Stop knows setup = all_stop 0 (omega arith) knows setup [] [] (refl, refl)

  pub end_front : (knows : Knows) (Missed : Type 0) (setup : Setup) (opening : Notice) (findings : List Finding) (ends : AtEnd)
      (lines : List Said) (steps : List LiveStep) (told : List Told) →
      PlaysLines knows Missed setup opening findings lines steps told →
      FrontOf (ServesLines E knows Missed setup opening findings ends lines) steps told
  end_front knows Missed setup opening findings ends lines steps told h =
      let k = stops_none ends (λ more. knows (told ++ more)) setup in
      record {
        undone = k.undone;
        untold = k.untold;
        whole = then_by (PlaysLines knows Missed setup opening findings lines)
            (λ said. StopsBy ends E (λ more. knows (said ++ more)) setup) steps k.undone told k.untold h k.whole;
      }

-- the same, where more is known
pub gone_weaker : (M N : Type 0) → (M → N) → (until : Until) (addr : ℕ) (steps : List LiveStep) (told : List Told) →
    GoesOnTo M until addr steps told → GoesOnTo N until addr steps told
gone_weaker M N by until addr steps told (inl none) = inl (none.0, by none.1)
gone_weaker M N by until addr steps told (inr made) = inr made

module _ (A B : Knows) (to : (told : List Told) (Fact : Desk → List Entry → Type 0) → A told Fact → B told Fact)
    (setup : Setup) where
  lines_weaker : (M N : Type 0) → (M → N) → (findings : List Finding) (lines : List Said) (steps : List LiveStep) (told : List Told) →
      DoesLines A M setup findings lines steps told → DoesLines B N setup findings lines steps told
  lines_weaker M N miss findings [] steps told h = h
  lines_weaker M N miss findings (said ∷ lines) steps told h = record {
    before = h.before;
    after = h.after;
    said = h.said;
    added = h.added;
    steps_are = h.steps_are;
    told_is = h.told_is;
    first = lines_weaker M N miss findings lines h.before h.said h.first;
    next = line_weaker (λ rest. A h.said (Rests setup rest)) (λ rest. B h.said (Rests setup rest))
        (λ rest known. to h.said (Rests setup rest) known)
        (λ more. tasks_by A setup (h.said ++ more)) (λ more. tasks_by B setup (h.said ++ more))
        (λ more addr what. to (h.said ++ more) (HasTask setup addr what)) M N miss setup.devices (findings ++ findings_in h.said)
        (suc (length lines)) said h.after h.added h.next;
  }

  plays_weaker : (M N : Type 0) → (M → N) → (opening : Notice) (findings : List Finding) (lines : List Said) (steps : List LiveStep)
      (told : List Told) → PlaysLines A M setup opening findings lines steps told →
      PlaysLines B N setup opening findings lines steps told
  plays_weaker M N miss opening findings lines steps told h = record {
    before = h.before;
    after = h.after;
    said = h.said;
    added = h.added;
    steps_are = h.steps_are;
    told_is = h.told_is;
    first = h.first;
    next = lines_weaker M N miss findings lines h.after h.added h.next;
  }

  pub gives_weaker : (addr : ℕ) (steps : List LiveStep) (told : List Told) → GivesStop A setup addr steps told →
      GivesStop B setup addr steps told
  gives_weaker addr steps told h = record {
    before = h.before;
    after = h.after;
    said = h.said;
    added = h.added;
    steps_are = h.steps_are;
    told_is = h.told_is;
    first = h.first;
    next = gone_weaker (A h.said (HasJob setup addr false)) (B h.said (HasJob setup addr false))
        (to h.said (HasJob setup addr false)) until_of.Ended addr h.after h.added h.next;
  }

module _ (setup : Setup) (E F : Type 0) (down : F → E) where
  still_weaker : (A B : Knows) → ((told : List Told) (Fact : Desk → List Entry → Type 0) → A told Fact → B told Fact) →
      (addr : ℕ) (said : List Told) (steps : List LiveStep) (told : List Told) →
      StopsStill E A setup addr said steps told → StopsStill F B setup addr said steps told
  still_weaker A B to addr said steps told (inl none) = inl (none.0, by none.1)
    where
      by : A said (Runs setup addr false) ⊎ (tells_unanswered said ≡ true) →
          B said (Runs setup addr false) ⊎ (tells_unanswered said ≡ true)
      by (inl idle) = inl (to said (Runs setup addr false) idle)
      by (inr ended) = inr ended
  still_weaker A B to addr said steps told (inr gives) = inr (
    gives_weaker (λ more. A (said ++ more)) (λ more. B (said ++ more)) (λ more Fact. to (said ++ more) Fact) setup addr
        steps told gives.0,
    gives.1,
    λ lasts. to said (Runs setup addr true) (gives.2 (down lasts)),
  )

  pub at_weaker : (A B : Knows) → ((told : List Told) (Fact : Desk → List Entry → Type 0) → A told Fact → B told Fact) →
      (addr : ℕ) (steps : List LiveStep) (told : List Told) → StopsAt E A setup addr steps told →
      StopsAt F B setup addr steps told
  at_weaker A B to addr steps told (inl none) = inl (none.0, to [] (Runs setup addr false) none.1)
  at_weaker A B to addr steps told (inr (h, runs)) = inr (
    record {
      before = h.before;
      after = h.after;
      said = h.said;
      added = h.added;
      steps_are = h.steps_are;
      told_is = h.told_is;
      first = gone_weaker (A [] (HasJob setup addr false)) (B [] (HasJob setup addr false))
          (to [] (HasJob setup addr false)) until_of.Ended addr h.before h.said h.first;
      next = still_weaker A B to addr h.said h.after h.added h.next;
    },
    λ lasts. to [] (Runs setup addr true) (runs (down lasts)),
  )

  up_to_weaker : (many : ℕ) (A B : Knows) →
      ((told : List Told) (Fact : Desk → List Entry → Type 0) → A told Fact → B told Fact) → (steps : List LiveStep)
      (told : List Told) → StopsUpTo many E A setup steps told → StopsUpTo many F B setup steps told
  up_to_weaker zero A B to steps told h = h
  up_to_weaker (suc many) A B to steps told h = record {
    before = h.before;
    after = h.after;
    said = h.said;
    added = h.added;
    steps_are = h.steps_are;
    told_is = h.told_is;
    first = up_to_weaker many A B to h.before h.said h.first;
    next = at_weaker (λ more. A (h.said ++ more)) (λ more. B (h.said ++ more)) (λ more Fact. to (h.said ++ more) Fact) many
        h.after h.added h.next;
  }

  pub by_weaker : (ends : AtEnd) (A B : Knows) →
      ((told : List Told) (Fact : Desk → List Entry → Type 0) → A told Fact → B told Fact) → (steps : List LiveStep)
      (told : List Told) → StopsBy ends E A setup steps told → StopsBy ends F B setup steps told
  by_weaker at_end.Leave A B to steps told h = h
  by_weaker at_end.Stop A B to steps told h = up_to_weaker 256 A B to steps told h

  pub serves_lines_weaker : (A B : Knows) →
      ((told : List Told) (Fact : Desk → List Entry → Type 0) → A told Fact → B told Fact) → (M N : Type 0) →
      (M → N) → (opening : Notice) (findings : List Finding) (ends : AtEnd) (lines : List Said) (steps : List LiveStep) (told : List Told) →
      ServesLines E A M setup opening findings ends lines steps told →
      ServesLines F B N setup opening findings ends lines steps told
  serves_lines_weaker A B to M N miss opening findings ends lines steps told h = record {
    before = h.before;
    after = h.after;
    said = h.said;
    added = h.added;
    steps_are = h.steps_are;
    told_is = h.told_is;
    first = plays_weaker A B to setup M N miss opening findings lines h.before h.said h.first;
    next = by_weaker ends (λ more. A (h.said ++ more)) (λ more. B (h.said ++ more)) (λ more Fact. to (h.said ++ more) Fact)
        h.after h.added h.next;
  }

-- of a sink, and of hosts
module _ {K : Type 0} (written : K → Option (List ℕ)) (puts : K → List ℕ → Result (Unit {0}) Failed → K → Type 0)
    {D : Type 0} {g : Ghosts D} where
  -- an end that a stop brings
  pub ended_by : (S : List Told → Type 0) (how : Served) (P : AtEnd → List LiveStep → List Told → Type 0) (ends : AtEnd)
      (a b : K) (old new : Host D g) → LivesOn written puts S (P ends) (Err how) a b old new →
      LivesOn written puts S (P (ends_by how ends)) (Err how) a b old new
  ended_by S served.Unwritten P ends a b old new h = h
  ended_by S served.Disk P ends a b old new h = h
  ended_by S served.Done P ends a b old new h = absurd h
  ended_by S (served.Refused number kind) P ends a b old new h = absurd h
  ended_by S served.Unread P ends a b old new h = absurd h
  ended_by S (served.OtherSize len) P ends a b old new h = absurd h
  ended_by S served.Alien P ends a b old new h = absurd h
  ended_by S (served.BadRecord index) P ends a b old new h = absurd h

  -- one before which nothing was stopped
  pub played_to : (S : List Told → Type 0) (how : Served) → (how ≡ served.Done → ⊥) → (knows : Knows)
      (Missed : Type 0) (setup : Setup) (opening : Notice) (findings : List Finding) (ends : AtEnd) (lines : List Said) (a b : K) (old new : Host D g) →
      LivesTo written puts S (PlaysLines knows Missed setup opening findings lines) how a b old new →
      LivesTo written puts S (ServesLines (IsDone how) knows Missed setup opening findings (ends_by how ends) lines) how a b old new
  played_to S served.Done other knows Missed setup opening findings ends lines a b old new h = absurd (other refl)
  played_to S (served.Refused number kind) other knows Missed setup opening findings ends lines a b old new h =
      lives_weaker written puts S (Ok tt) a b old new (PlaysLines knows Missed setup opening findings lines)
      (ServesLines ⊥ knows Missed setup opening findings at_end.Leave lines) (end_none ⊥ knows Missed setup opening findings lines) h
  played_to S served.Unread other knows Missed setup opening findings ends lines a b old new h =
      lives_weaker written puts S (Ok tt) a b old new (PlaysLines knows Missed setup opening findings lines)
      (ServesLines ⊥ knows Missed setup opening findings at_end.Leave lines) (end_none ⊥ knows Missed setup opening findings lines) h
  played_to S served.Unwritten other knows Missed setup opening findings ends lines a b old new h =
      lives_front written puts S served.Unwritten a b old new (PlaysLines knows Missed setup opening findings lines)
      (ServesLines ⊥ knows Missed setup opening findings ends lines) (end_front ⊥ (λ no. no) knows Missed setup opening findings ends lines) h
  played_to S served.Disk other knows Missed setup opening findings ends lines a b old new h =
      lives_front written puts S served.Disk a b old new (PlaysLines knows Missed setup opening findings lines)
      (ServesLines ⊥ knows Missed setup opening findings ends lines) (end_front ⊥ (λ no. no) knows Missed setup opening findings ends lines) h
  played_to S (served.OtherSize len) other knows Missed setup opening findings ends lines a b old new h = absurd h
  played_to S served.Alien other knows Missed setup opening findings ends lines a b old new h = absurd h
  played_to S (served.BadRecord index) other knows Missed setup opening findings ends lines a b old new h = absurd h

-- the end of the input
pub done_of_input : (how : Served) → IsDone how → IsOfInput how
done_of_input served.Done done = tt
done_of_input (served.Refused number kind) done = absurd done
done_of_input served.Unread done = absurd done
done_of_input served.Unwritten done = absurd done
done_of_input served.Disk done = absurd done
done_of_input (served.OtherSize len) done = absurd done
done_of_input served.Alien done = absurd done
done_of_input (served.BadRecord index) done = absurd done

-- of hosts and desks, from one to another
module _ {D : Type 0} {g : Ghosts D} (host mid : Host D g) (same : setup_of mid ≡ setup_of host) (was desk : Desk) where
  known_on : (s1 : List LiveStep) (t1 : List Told) → GoesTo host mid was desk s1 t1 → (told : List Told)
      (Fact : Desk → List Entry → Type 0) → KnownAfter mid desk told Fact → KnownAfter host was (t1 ++ told) Fact
  known_on s1 t1 goes told Fact known = known_then host mid same was desk s1 t1 told goes Fact known

  no_job_on : (addr : ℕ) (s1 : List LiveStep) (t1 : List Told) → GoesTo host mid was desk s1 t1 →
      IsKnown mid desk (HasJob (setup_of mid) addr false) → KnownAfter host was t1 (HasJob (setup_of host) addr false)
  no_job_on addr s1 t1 goes known =
      known_later host mid was desk s1 t1 goes (HasJob (setup_of host) addr false)
      (subst (λ setup. IsKnown mid desk (HasJob setup addr false)) same known)

  -- a stop is taken or not, and its job makes attempts
  pub given_then : (addr : ℕ) (s1 s2 : List LiveStep) (t1 t2 : List Told) →
      TellsOne (live.command (command.Stop addr)) s1 t1 → GoesTo host mid was desk s1 t1 →
      GoesOnTo (IsKnown mid desk (HasJob (setup_of mid) addr false)) until_of.Ended addr s2 t2 →
      GivesStop (KnownAfter host was) (setup_of host) addr (s1 ++ s2) (t1 ++ t2)
  given_then addr s1 s2 t1 t2 h goes k =
      then_by (TellsOne (live.command (command.Stop addr)))
      (λ said. GoesOnTo (KnownAfter host was said (HasJob (setup_of host) addr false)) until_of.Ended addr) s1 s2 t1 t2 h
      (gone_weaker (IsKnown mid desk (HasJob (setup_of mid) addr false))
      (KnownAfter host was t1 (HasJob (setup_of host) addr false)) (no_job_on addr s1 t1 goes) until_of.Ended addr s2 t2 k)

  -- a job makes attempts, and then a stop is given
  pub running_then : (E : Type 0) (addr : ℕ) (s1 s2 : List LiveStep) (t1 t2 : List Told) →
      GoesOnTo (IsKnown host was (HasJob (setup_of host) addr false)) until_of.Ended addr s1 t1 →
      GoesTo host mid was desk s1 t1 → tells_unanswered t1 ≡ false → IsKnown mid desk (Runs (setup_of mid) addr true) →
      GivesStop (KnownAfter mid desk) (setup_of mid) addr s2 t2 →
      StopsRunning E (KnownAfter host was) (setup_of host) addr (s1 ++ s2) (t1 ++ t2)
  running_then E addr s1 s2 t1 t2 h goes answered runs k =
      then_by (GoesOnTo (KnownAfter host was [] (HasJob (setup_of host) addr false)) until_of.Ended addr)
      (StopsStill E (KnownAfter host was) (setup_of host) addr) s1 s2 t1 t2
      (gone_weaker (IsKnown host was (HasJob (setup_of host) addr false))
      (KnownAfter host was [] (HasJob (setup_of host) addr false))
      (known_now host was (HasJob (setup_of host) addr false)) until_of.Ended addr s1 t1 h)
      (inr (
        gives_weaker (KnownAfter mid desk) (λ more. KnownAfter host was (t1 ++ more)) (known_on s1 t1 goes) (setup_of host)
            addr s2 t2 (subst (λ setup. GivesStop (KnownAfter mid desk) setup addr s2 t2) same k),
        answered,
        λ lasts. known_later host mid was desk s1 t1 goes (Runs (setup_of host) addr true)
            (subst (λ setup. IsKnown mid desk (Runs setup addr true)) same runs),
      ))

  -- or none is given
  pub running_none : (E : Type 0) (addr : ℕ) (ended : Bool) (s1 : List LiveStep) (t1 : List Told) →
      GoesOnTo (IsKnown host was (HasJob (setup_of host) addr false)) until_of.Ended addr s1 t1 →
      GoesTo host mid was desk s1 t1 → tells_unanswered t1 ≡ ended →
      (ended ≡ false → IsKnown mid desk (Runs (setup_of mid) addr false)) →
      StopsRunning E (KnownAfter host was) (setup_of host) addr s1 t1
  running_none E addr ended s1 t1 h goes is idle = record {
    before = s1;
    after = [];
    said = t1;
    added = [];
    steps_are = sym (append-nil s1);
    told_is = sym (append-nil t1);
    first = gone_weaker (IsKnown host was (HasJob (setup_of host) addr false))
        (KnownAfter host was [] (HasJob (setup_of host) addr false))
        (known_now host was (HasJob (setup_of host) addr false)) until_of.Ended addr s1 t1 h;
    next = inl ((refl, refl), by_end ended refl);
  }
    where
      by_end : (b : Bool) → ended ≡ b → KnownAfter host was t1 (Runs (setup_of host) addr false) ⊎ (tells_unanswered t1 ≡ true)
      by_end true end = inr (is ∙ end)
      by_end false end =
          inl (known_later host mid was desk s1 t1 goes (Runs (setup_of host) addr false)
          (subst (λ setup. IsKnown mid desk (Runs setup addr false)) same (idle end)))

  -- the first addresses, and the next one
  pub up_to_then : (E F : Type 0) → (F → E) → (addr next : ℕ) → suc addr ≡ next → (s1 s2 : List LiveStep)
      (t1 t2 : List Told) →
      StopsUpTo addr E (KnownAfter host was) (setup_of host) s1 t1 → GoesTo host mid was desk s1 t1 →
      StopsAt F (KnownAfter mid desk) (setup_of mid) addr s2 t2 →
      StopsUpTo next F (KnownAfter host was) (setup_of host) (s1 ++ s2) (t1 ++ t2)
  up_to_then E F down addr next is s1 s2 t1 t2 h goes k =
      subst (λ n. StopsUpTo n F (KnownAfter host was) (setup_of host) (s1 ++ s2) (t1 ++ t2)) is
      (then_by (StopsUpTo addr F (KnownAfter host was) (setup_of host))
      (λ said. StopsAt F (λ more. KnownAfter host was (said ++ more)) (setup_of host) addr) s1 s2 t1 t2
      (up_to_weaker (setup_of host) E F down addr (KnownAfter host was) (KnownAfter host was) (λ told Fact known. known) s1 t1 h)
      (at_weaker (setup_of host) F F (λ lasts. lasts) (KnownAfter mid desk) (λ more. KnownAfter host was (t1 ++ more))
      (known_on s1 t1 goes) addr s2 t2 (subst (λ setup. StopsAt F (KnownAfter mid desk) setup addr s2 t2) same k)))

  -- lines, and the end
  pub end_then : (E F : Type 0) → (F → E) → (Missed : Type 0) (opening : Notice) (findings : List Finding) (ends : AtEnd) (lines : List Said) (s1 s2 : List LiveStep)
      (t1 t2 : List Told) → PlaysLines (KnownAfter host was) Missed (setup_of host) opening findings lines s1 t1 →
      GoesTo host mid was desk s1 t1 → StopsBy ends E (KnownAfter mid desk) (setup_of mid) s2 t2 →
      ServesLines F (KnownAfter host was) Missed (setup_of host) opening findings ends lines (s1 ++ s2) (t1 ++ t2)
  end_then E F down Missed opening findings ends lines s1 s2 t1 t2 h goes k =
      then_by (PlaysLines (KnownAfter host was) Missed (setup_of host) opening findings lines)
      (λ said. StopsBy ends F (λ more. KnownAfter host was (said ++ more)) (setup_of host)) s1 s2 t1 t2 h
      (by_weaker (setup_of host) E F down ends (KnownAfter mid desk) (λ more. KnownAfter host was (t1 ++ more)) (known_on s1 t1 goes)
      s2 t2 (subst (λ setup. StopsBy ends E (KnownAfter mid desk) setup s2 t2) same k))
