-- A service whose host lived to an end.
use Rattle.std.proofs.Common.{◌≡◌, ◌+◌, ℕ, Bool, true, List, [], ◌∷◌, ◌++◌, length, length-append, arith, reverse, sym, ap, subst, inl, inr, ◌∙◌, Option, Some, None, Result, Ok, Err}
use Rattle.std.proofs.lemmas.List.{nil_from_length, reverse-reverse}
use Rattle.cct_edge.specs.Faults.{Rose}
use Rattle.cct_edge.specs.declared.fault.Failed.{Failed}
use Rattle.cct_live_survey.specs.Roll.{Rolled}
use Rattle.cct_live_service.specs.declared.stopping.AtEnd.{AtEnd}
use Rattle.cct_model.specs.terms.device.Setup.{Setup}
use Rattle.cct_model.specs.lines.record.Record.{Record}
use Rattle.cct_model.specs.lines.entry.Entry.{Entry}
use Rattle.cct_model.specs.Following.{all_follow}
use Rattle.cct_model.specs.Change.{Desk}
use Rattle.cct_model.specs.Records.{records}
use Rattle.cct_model.specs.Setup.{IsSoundSetup}
use Rattle.cct_disk.specs.declared.disk.Disk.{Ghosts}
use Rattle.cct_disk.specs.Disk.{Holds, IsTrusted, LeavesOnly, OnlyReads}
use Rattle.cct_journal.specs.declared.format.TheConstants.{MOST_RECORDS}
use Rattle.cct_journal.proofs.Calls.{settled_leaves, stands_settled}
use Rattle.cct_host.specs.declared.host.Host.{Host}
use Rattle.cct_host.specs.Host.{StandsFor, disk_of, setup_of}
use Rattle.cct_host.specs.OnDisk.{LeavesRecords}
use Rattle.cct_host.proofs.Records.{rest_follow}
use Rattle.cct_laws_live.specs.Life.{IsLife}
use Rattle.cct_laws_live.specs.Live.{started}
use Rattle.cct_laws_live.specs.LiveStep.{LiveStep}
use Rattle.cct_laws_live.proofs.Life.{life_begins}
use Rattle.cct_live_service.specs.declared.served.Served.{Served}
use Rattle.cct_live_service.specs.declared.served.Served.TheVariants as served
use Rattle.cct_live_service.specs.Found.{Begun, FoundOn, base_found, found_there, made_new, was_found}
use Rattle.cct_live_service.specs.Opening.{BegunOn, given_as, opening_of, opening_over}
use Rattle.cct_live_service.specs.Laws.{IsLawful}
use Rattle.cct_live_service.specs.Linked.{UsesLink, Watched}
use Rattle.cct_live_service.specs.Hears.{Refusal}
use Rattle.cct_live_service.specs.Lived.{KnownOn, LeftBy, LeftSince, Lived, MissedOn}
use Rattle.cct_live_service.specs.AtDesk.{Both, FollowsTo}
use Rattle.cct_live_service.specs.Doing.{FrontOf, IsDone, ServesLines, ends_by}
use Rattle.cct_live_service.specs.Known.{KnownAfter, MissedFrom}
use Rattle.cct_live_service.specs.Causes.{SuitsDisk}
use Rattle.cct_live_service.specs.Parts.{FailedSince, FailedToPut, LivesTo, Part, Plays}
use Rattle.cct_live_service.specs.Refused.{refusals}
use Rattle.cct_live_service.specs.Reported.{AreSoWhere}
use Rattle.cct_live_service.specs.Since.{Given, MayStand, StandsSince, since_turn}
use Rattle.cct_live_service.specs.Told.{Told, news_of}
use Rattle.cct_live_service.proofs.Lawful.{lawful}
use Rattle.cct_live_service.proofs.Parts.{lives_to_weaker}
use Rattle.cct_live_service.proofs.Stops.{serves_lines_weaker}

-- the records that are found follow one another
found_follow : {D : Type 0} (honest : D → Bool) (seen : D → Option (List ℕ)) (may_leave : D → List ℕ → Type 0) (disk : D)
    (setup : Setup) (begun : Begun) (found : List Record) → IsSoundSetup setup → BegunOn seen disk setup begun →
    FoundOn honest seen may_leave disk setup begun found → all_follow setup found ≡ true
found_follow honest seen may_leave disk setup made_new found sound began on = ap (all_follow setup) on
found_follow honest seen may_leave disk setup (found_there base c rest) found sound began (inl told) = told.follow
found_follow honest seen may_leave disk setup (found_there base c rest) found sound began (inr ends) =
    ap (all_follow setup) (sym (reverse-reverse found))
    ∙ rest_follow setup base c rest (reverse found) sound ends.continues ends.follow began.follow

none_long : (n m : ℕ) → n + m ≡ m → n ≡ 0
none_long n m is = omega (arith, is)

none_before : (more rs : List Record) → more ++ rs ≡ rs → more ≡ []
none_before more rs is =
    nil_from_length more
    (none_long (length more) (length rs) (sym (length-append more rs) ∙ ap length is))

module _ {K : Type 0} (written : K → Option (List ℕ)) (puts : K → List ℕ → Result (Unit {0}) Failed → K → Type 0)
    {L : Type 0} (gives : L → List ℕ → List ℕ → L → Type 0) (sent : L → Bool) (failures : L → ℕ)
    {D : Type 0} {g : Ghosts D} (given back : D) (host last : Host D g) (begun : Begun)
    (roll now : Rolled) (desk left_desk : Desk) (missed missed_then : ℕ) (Heard : List Refusal → Type 0) (ends : AtEnd) (left : Option (List ℕ))
    (line next : Watched L)
    (same : setup_of host ≡ setup_of last) (sound : IsSoundSetup (setup_of last)) (back_is : back ≡ disk_of last)
    (began : BegunOn g.seen given (setup_of last) begun)
    (numbered : (found : List Record) → FoundOn g.honest g.seen g.may_leave given (setup_of last) begun found
    → opening_of (setup_of last) begun ≡ opening_over (setup_of last) begun found)
    (opens : (found : List Record) → FoundOn g.honest g.seen g.may_leave given (setup_of last) begun found
    → (image : List ℕ) → StandsSince host (given_as given image begun) found (started found)) where
  part_lived : (a b : K) (answer : Result (Unit {0}) Failed) (After : Given D → List Record → List Entry → Type 0)
      (Linked : List Told → Type 0) (Doing : List LiveStep → List Told → Type 0)
      (part : Part written puts g a b answer (setup_of host) (StandsSince host) After Linked Doing) (found : List Record) →
      FoundOn g.honest g.seen g.may_leave given (setup_of last) begun found → (image : List ℕ) →
      IsLife MOST_RECORDS (setup_of last) found part.steps (news_of part.told ++ started found)
      × IsLawful (setup_of last) found (news_of part.told ++ started found)
      × After (given_as given image begun) found (news_of part.told ++ started found)
  part_lived a b answer After Linked Doing part found on image =
      let follow = found_follow g.honest g.seen g.may_leave given (setup_of last) begun found sound began on in
      let begins = life_begins MOST_RECORDS (setup_of last) found follow in
      let goes = part.goes (given_as given image begun) found [] (started found)
      (subst (λ setup. IsLife MOST_RECORDS setup found [] (started found)) (sym same) begins) (opens found on image) in
      let life = subst (λ setup. IsLife MOST_RECORDS setup found part.steps (news_of part.told ++ started found)) same goes.0 in
      (life, lawful (setup_of last) found part.steps (news_of part.told ++ started found) sound life, goes.1)

  part_so : (a b : K) (answer : Result (Unit {0}) Failed) (After : Given D → List Record → List Entry → Type 0)
      (Linked : List Told → Type 0) (Doing : List LiveStep → List Told → Type 0)
      (part : Part written puts g a b answer (setup_of host) (StandsSince host) After Linked Doing) (found : List Record) →
      FoundOn g.honest g.seen g.may_leave given (setup_of last) begun found →
      AreSoWhere (IsTrusted g.honest g.seen given) (since_turn (g.size given) (base_found begun) found) (setup_of last) (started found) part.told
  part_so a b answer After Linked Doing part found on =
      let follow = found_follow g.honest g.seen g.may_leave given (setup_of last) begun found sound began on in
      let begins = life_begins MOST_RECORDS (setup_of last) found follow in
      let goes = part.goes (given_as given [] begun) found [] (started found)
      (subst (λ setup. IsLife MOST_RECORDS setup found [] (started found)) (sym same) begins) (opens found on []) in
      subst (λ setup. AreSoWhere (IsTrusted g.honest g.seen given) (since_turn (g.size given) (base_found begun) found) setup (started found) part.told) same goes.2

  -- what a power cut may leave
  left_standing : (past : List Entry) → StandsFor last past → IsTrusted g.honest g.seen back →
      LeavesRecords (setup_of last) g.honest g.seen g.may_leave back None (reverse (records past))
  left_standing past stands trusted =
      subst (λ d. LeavesRecords (setup_of last) g.honest g.seen g.may_leave d None (reverse (records past))) (sym back_is)
      (settled_leaves (stands_settled (stands.on_disk (subst (λ d. IsTrusted g.honest g.seen d) back_is trusted))))

  left_failed : (past : List Entry) → FailedToPut last past →
      LeftBy g.honest g.seen g.may_leave back (setup_of last) served.Disk past
  left_failed past failed = (
    failed.addr,
    failed.r,
    failed.due,
    λ trusted.
        subst (λ d. LeavesRecords (setup_of last) g.honest g.seen g.may_leave d (Some failed.r) (reverse (records past)))
        (sym back_is) (failed.left (subst (λ d. IsTrusted g.honest g.seen d) back_is trusted)),
  )

  -- and what one might have left at a moment of it
  moments_standing : (found : List Record) (image : List ℕ) (past : List Entry) →
      StandsSince last (given_as given image begun) found past → Holds g.honest g.seen g.may_leave given image →
      LeavesOnly g.moment g.left_since given back
      (MayStand (setup_of last) (was_found begun) image found (records past))
  moments_standing found image past since holds =
      subst (λ d. LeavesOnly g.moment g.left_since given d
      (MayStand (setup_of last) (was_found begun) image found (records past))) (sym back_is) (since.left holds)

  moments_failed : (found : List Record) (image : List ℕ) (past : List Entry) →
      FailedSince last (given_as given image begun) found past → Holds g.honest g.seen g.may_leave given image →
      LeftSince g.moment g.left_since given back (setup_of last) served.Disk (was_found begun) image found past
  moments_failed found image past since holds = (
    since.failed.addr,
    since.failed.r,
    since.failed.due,
    subst (λ d. LeavesOnly g.moment g.left_since given d
        (MayStand (setup_of last) (was_found begun) image found (since.failed.r ∷ records past))) (sym back_is)
        (since.left holds),
  )

  read_standing : (found : List Record) (past : List Entry) → StandsSince last (given_as given [] begun) found past →
      was_found begun ≡ true → records past ≡ found →
      OnlyReads g.size g.honest g.seen g.may_leave g.moment g.left_since g.cuts given back
  read_standing found past since there none =
      subst (OnlyReads g.size g.honest g.seen g.may_leave g.moment g.left_since g.cuts given) (sym back_is)
      (since.read there (none_before since.put found (sym since.put_are ∙ none)))

  devices_same : (told : List Told) → UsesLink gives sent failures (setup_of host).devices roll now line next told →
      UsesLink gives sent failures (setup_of last).devices roll now line next told
  devices_same told h = subst (λ s. UsesLink gives sent failures s.devices roll now line next told) same h

  -- what is known after what was reported, whichever records were found
  known_on : (told : List Told) (Fact : Desk → List Entry → Type 0) → KnownAfter host desk told Fact →
      KnownOn g.honest g.seen g.may_leave given (setup_of last) begun desk told Fact
  known_on told Fact known = (
    known.0,
    known.1,
    λ found on.
        let follow = found_follow g.honest g.seen g.may_leave given (setup_of last) begun found sound began on in
        known.2 (given_as given [] begun) found [] (started found)
        (subst (λ setup. IsLife MOST_RECORDS setup found [] (started found)) (sym same)
        (life_begins MOST_RECORDS (setup_of last) found follow)) (opens found on []),
  )

  -- and what was missed
  missed_on : MissedFrom host (Rose missed missed_then) →
      MissedOn g.honest g.seen g.may_leave given (setup_of last) begun missed missed_then
  missed_on was found on trusted =
      let follow = found_follow g.honest g.seen g.may_leave given (setup_of last) begun found sound began on in
      was (given_as given [] begun) found [] (started found)
      (subst (λ setup. IsLife MOST_RECORDS setup found [] (started found)) (sym same)
      (life_begins MOST_RECORDS (setup_of last) found follow)) (opens found on []) trusted

  lived_so : (how : Served) (a b : K) →
      Plays written puts (Both (UsesLink gives sent failures (setup_of host).devices roll now line next) (FollowsTo how desk left_desk))
      (ServesLines (IsDone how) (KnownOn g.honest g.seen g.may_leave given (setup_of last) begun desk) (MissedOn g.honest g.seen g.may_leave given (setup_of last) begun missed missed_then) (setup_of last) (opening_of (setup_of last) begun) roll.findings (ends_by how ends)) (λ lines. Heard (refusals (setup_of last).devices lines)) left how a b host last →
      Lived written puts gives sent failures g.size g.honest g.seen g.may_leave g.moment g.left_since g.cuts given back (setup_of last) roll now desk left_desk missed missed_then Heard ends left how a b
      line next
  lived_so served.Done a b plays = record {
    begun = begun;
    lines = plays.lines;
    steps = plays.lives.steps;
    told = plays.lives.told;
    says = plays.says;
    heard = plays.heard;
    does = plays.lives.does;
    wrote = plays.lives.wrote;
    lived = λ found on.
        let l = part_lived a b (Ok tt) (StandsSince last) (Both (UsesLink gives sent failures (setup_of host).devices roll now line next) (FollowsTo served.Done desk left_desk)) (ServesLines (IsDone served.Done) (KnownOn g.honest g.seen g.may_leave given (setup_of last) begun desk) (MissedOn g.honest g.seen g.may_leave given (setup_of last) begun missed missed_then) (setup_of last) (opening_of (setup_of last) begun) roll.findings (ends_by served.Done ends) plays.lines) plays.lives found on [] in
        (l.0, l.1, left_standing (news_of plays.lives.told ++ started found) l.2.stands);
    standing = λ found on. part_so a b (Ok tt) (StandsSince last) (Both (UsesLink gives sent failures (setup_of host).devices roll now line next) (FollowsTo served.Done desk left_desk)) (ServesLines (IsDone served.Done) (KnownOn g.honest g.seen g.may_leave given (setup_of last) begun desk) (MissedOn g.honest g.seen g.may_leave given (setup_of last) begun missed missed_then) (setup_of last) (opening_of (setup_of last) begun) roll.findings (ends_by served.Done ends) plays.lines) plays.lives found on;
    at_desk = plays.lives.linked.1;
    linked = devices_same plays.lives.told plays.lives.linked.0;
    on = began;
    numbers = numbered;
    moments = λ found on image holds.
        let l = part_lived a b (Ok tt) (StandsSince last) (Both (UsesLink gives sent failures (setup_of host).devices roll now line next) (FollowsTo served.Done desk left_desk)) (ServesLines (IsDone served.Done) (KnownOn g.honest g.seen g.may_leave given (setup_of last) begun desk) (MissedOn g.honest g.seen g.may_leave given (setup_of last) begun missed missed_then) (setup_of last) (opening_of (setup_of last) begun) roll.findings (ends_by served.Done ends) plays.lines) plays.lives found on image in
        moments_standing found image (news_of plays.lives.told ++ started found) l.2 holds;
    read = λ found on there whole none.
        let l = part_lived a b (Ok tt) (StandsSince last) (Both (UsesLink gives sent failures (setup_of host).devices roll now line next) (FollowsTo served.Done desk left_desk)) (ServesLines (IsDone served.Done) (KnownOn g.honest g.seen g.may_leave given (setup_of last) begun desk) (MissedOn g.honest g.seen g.may_leave given (setup_of last) begun missed missed_then) (setup_of last) (opening_of (setup_of last) begun) roll.findings (ends_by served.Done ends) plays.lines) plays.lives found on [] in
        read_standing found (news_of plays.lives.told ++ started found) l.2 there none;
  }
  lived_so (served.Refused number kind) a b plays = record {
    begun = begun;
    lines = plays.lines;
    steps = plays.lives.steps;
    told = plays.lives.told;
    says = plays.says;
    heard = plays.heard;
    does = plays.lives.does;
    wrote = plays.lives.wrote;
    lived = λ found on.
        let l = part_lived a b (Ok tt) (StandsSince last) (Both (UsesLink gives sent failures (setup_of host).devices roll now line next) (FollowsTo (served.Refused number kind) desk left_desk)) (ServesLines (IsDone (served.Refused number kind)) (KnownOn g.honest g.seen g.may_leave given (setup_of last) begun desk) (MissedOn g.honest g.seen g.may_leave given (setup_of last) begun missed missed_then) (setup_of last) (opening_of (setup_of last) begun) roll.findings (ends_by (served.Refused number kind) ends) plays.lines) plays.lives found on [] in
        (l.0, l.1, left_standing (news_of plays.lives.told ++ started found) l.2.stands);
    standing = λ found on. part_so a b (Ok tt) (StandsSince last) (Both (UsesLink gives sent failures (setup_of host).devices roll now line next) (FollowsTo (served.Refused number kind) desk left_desk)) (ServesLines (IsDone (served.Refused number kind)) (KnownOn g.honest g.seen g.may_leave given (setup_of last) begun desk) (MissedOn g.honest g.seen g.may_leave given (setup_of last) begun missed missed_then) (setup_of last) (opening_of (setup_of last) begun) roll.findings (ends_by (served.Refused number kind) ends) plays.lines) plays.lives found on;
    at_desk = plays.lives.linked.1;
    linked = devices_same plays.lives.told plays.lives.linked.0;
    on = began;
    numbers = numbered;
    moments = λ found on image holds.
        let l = part_lived a b (Ok tt) (StandsSince last) (Both (UsesLink gives sent failures (setup_of host).devices roll now line next) (FollowsTo (served.Refused number kind) desk left_desk)) (ServesLines (IsDone (served.Refused number kind)) (KnownOn g.honest g.seen g.may_leave given (setup_of last) begun desk) (MissedOn g.honest g.seen g.may_leave given (setup_of last) begun missed missed_then) (setup_of last) (opening_of (setup_of last) begun) roll.findings (ends_by (served.Refused number kind) ends) plays.lines) plays.lives found on image in
        moments_standing found image (news_of plays.lives.told ++ started found) l.2 holds;
    read = λ found on there whole none.
        let l = part_lived a b (Ok tt) (StandsSince last) (Both (UsesLink gives sent failures (setup_of host).devices roll now line next) (FollowsTo (served.Refused number kind) desk left_desk)) (ServesLines (IsDone (served.Refused number kind)) (KnownOn g.honest g.seen g.may_leave given (setup_of last) begun desk) (MissedOn g.honest g.seen g.may_leave given (setup_of last) begun missed missed_then) (setup_of last) (opening_of (setup_of last) begun) roll.findings (ends_by (served.Refused number kind) ends) plays.lines) plays.lives found on [] in
        read_standing found (news_of plays.lives.told ++ started found) l.2 there none;
  }
  lived_so served.Unread a b plays = record {
    begun = begun;
    lines = plays.lines;
    steps = plays.lives.steps;
    told = plays.lives.told;
    says = plays.says;
    heard = plays.heard;
    does = plays.lives.does;
    wrote = plays.lives.wrote;
    lived = λ found on.
        let l = part_lived a b (Ok tt) (StandsSince last) (Both (UsesLink gives sent failures (setup_of host).devices roll now line next) (FollowsTo served.Unread desk left_desk)) (ServesLines (IsDone served.Unread) (KnownOn g.honest g.seen g.may_leave given (setup_of last) begun desk) (MissedOn g.honest g.seen g.may_leave given (setup_of last) begun missed missed_then) (setup_of last) (opening_of (setup_of last) begun) roll.findings (ends_by served.Unread ends) plays.lines) plays.lives found on [] in
        (l.0, l.1, left_standing (news_of plays.lives.told ++ started found) l.2.stands);
    standing = λ found on. part_so a b (Ok tt) (StandsSince last) (Both (UsesLink gives sent failures (setup_of host).devices roll now line next) (FollowsTo served.Unread desk left_desk)) (ServesLines (IsDone served.Unread) (KnownOn g.honest g.seen g.may_leave given (setup_of last) begun desk) (MissedOn g.honest g.seen g.may_leave given (setup_of last) begun missed missed_then) (setup_of last) (opening_of (setup_of last) begun) roll.findings (ends_by served.Unread ends) plays.lines) plays.lives found on;
    at_desk = plays.lives.linked.1;
    linked = devices_same plays.lives.told plays.lives.linked.0;
    on = began;
    numbers = numbered;
    moments = λ found on image holds.
        let l = part_lived a b (Ok tt) (StandsSince last) (Both (UsesLink gives sent failures (setup_of host).devices roll now line next) (FollowsTo served.Unread desk left_desk)) (ServesLines (IsDone served.Unread) (KnownOn g.honest g.seen g.may_leave given (setup_of last) begun desk) (MissedOn g.honest g.seen g.may_leave given (setup_of last) begun missed missed_then) (setup_of last) (opening_of (setup_of last) begun) roll.findings (ends_by served.Unread ends) plays.lines) plays.lives found on image in
        moments_standing found image (news_of plays.lives.told ++ started found) l.2 holds;
    read = λ found on there whole none.
        let l = part_lived a b (Ok tt) (StandsSince last) (Both (UsesLink gives sent failures (setup_of host).devices roll now line next) (FollowsTo served.Unread desk left_desk)) (ServesLines (IsDone served.Unread) (KnownOn g.honest g.seen g.may_leave given (setup_of last) begun desk) (MissedOn g.honest g.seen g.may_leave given (setup_of last) begun missed missed_then) (setup_of last) (opening_of (setup_of last) begun) roll.findings (ends_by served.Unread ends) plays.lines) plays.lives found on [] in
        read_standing found (news_of plays.lives.told ++ started found) l.2 there none;
  }
  lived_so served.Unwritten a b plays = record {
    begun = begun;
    lines = plays.lines;
    steps = plays.lives.1.steps;
    told = plays.lives.1.told;
    says = plays.says;
    heard = plays.heard;
    does = plays.lives.1.does;
    wrote = (plays.lives.0, plays.lives.1.wrote);
    lived = λ found on.
        let l = part_lived a b (Err plays.lives.0) (StandsSince last) (Both (UsesLink gives sent failures (setup_of host).devices roll now line next) (FollowsTo served.Unwritten desk left_desk)) (FrontOf (ServesLines (IsDone served.Unwritten) (KnownOn g.honest g.seen g.may_leave given (setup_of last) begun desk) (MissedOn g.honest g.seen g.may_leave given (setup_of last) begun missed missed_then) (setup_of last) (opening_of (setup_of last) begun) roll.findings (ends_by served.Unwritten ends) plays.lines)) plays.lives.1 found on [] in
        (l.0, l.1, left_standing (news_of plays.lives.1.told ++ started found) l.2.stands);
    standing = λ found on. part_so a b (Err plays.lives.0) (StandsSince last) (Both (UsesLink gives sent failures (setup_of host).devices roll now line next) (FollowsTo served.Unwritten desk left_desk)) (FrontOf (ServesLines (IsDone served.Unwritten) (KnownOn g.honest g.seen g.may_leave given (setup_of last) begun desk) (MissedOn g.honest g.seen g.may_leave given (setup_of last) begun missed missed_then) (setup_of last) (opening_of (setup_of last) begun) roll.findings (ends_by served.Unwritten ends) plays.lines)) plays.lives.1 found on;
    at_desk = plays.lives.1.linked.1;
    linked = devices_same plays.lives.1.told plays.lives.1.linked.0;
    on = began;
    numbers = numbered;
    moments = λ found on image holds.
        let l = part_lived a b (Err plays.lives.0) (StandsSince last) (Both (UsesLink gives sent failures (setup_of host).devices roll now line next) (FollowsTo served.Unwritten desk left_desk)) (FrontOf (ServesLines (IsDone served.Unwritten) (KnownOn g.honest g.seen g.may_leave given (setup_of last) begun desk) (MissedOn g.honest g.seen g.may_leave given (setup_of last) begun missed missed_then) (setup_of last) (opening_of (setup_of last) begun) roll.findings (ends_by served.Unwritten ends) plays.lines)) plays.lives.1 found on image in
        moments_standing found image (news_of plays.lives.1.told ++ started found) l.2 holds;
    read = λ found on there whole none.
        let l = part_lived a b (Err plays.lives.0) (StandsSince last) (Both (UsesLink gives sent failures (setup_of host).devices roll now line next) (FollowsTo served.Unwritten desk left_desk)) (FrontOf (ServesLines (IsDone served.Unwritten) (KnownOn g.honest g.seen g.may_leave given (setup_of last) begun desk) (MissedOn g.honest g.seen g.may_leave given (setup_of last) begun missed missed_then) (setup_of last) (opening_of (setup_of last) begun) roll.findings (ends_by served.Unwritten ends) plays.lines)) plays.lives.1 found on [] in
        read_standing found (news_of plays.lives.1.told ++ started found) l.2 there none;
  }
  lived_so served.Disk a b plays = record {
    begun = begun;
    lines = plays.lines;
    steps = plays.lives.steps;
    told = plays.lives.told;
    says = plays.says;
    heard = plays.heard;
    does = plays.lives.does;
    wrote = plays.lives.wrote;
    lived = λ found on.
        let l = part_lived a b (Ok tt) (FailedSince last) (Both (UsesLink gives sent failures (setup_of host).devices roll now line next) (FollowsTo served.Disk desk left_desk)) (FrontOf (ServesLines (IsDone served.Disk) (KnownOn g.honest g.seen g.may_leave given (setup_of last) begun desk) (MissedOn g.honest g.seen g.may_leave given (setup_of last) begun missed missed_then) (setup_of last) (opening_of (setup_of last) begun) roll.findings (ends_by served.Disk ends) plays.lines)) plays.lives found on [] in
        (l.0, l.1, left_failed (news_of plays.lives.told ++ started found) l.2.failed);
    standing = λ found on. part_so a b (Ok tt) (FailedSince last) (Both (UsesLink gives sent failures (setup_of host).devices roll now line next) (FollowsTo served.Disk desk left_desk)) (FrontOf (ServesLines (IsDone served.Disk) (KnownOn g.honest g.seen g.may_leave given (setup_of last) begun desk) (MissedOn g.honest g.seen g.may_leave given (setup_of last) begun missed missed_then) (setup_of last) (opening_of (setup_of last) begun) roll.findings (ends_by served.Disk ends) plays.lines)) plays.lives found on;
    at_desk = plays.lives.linked.1;
    linked = devices_same plays.lives.told plays.lives.linked.0;
    on = began;
    numbers = numbered;
    moments = λ found on image holds.
        let l = part_lived a b (Ok tt) (FailedSince last) (Both (UsesLink gives sent failures (setup_of host).devices roll now line next) (FollowsTo served.Disk desk left_desk)) (FrontOf (ServesLines (IsDone served.Disk) (KnownOn g.honest g.seen g.may_leave given (setup_of last) begun desk) (MissedOn g.honest g.seen g.may_leave given (setup_of last) begun missed missed_then) (setup_of last) (opening_of (setup_of last) begun) roll.findings (ends_by served.Disk ends) plays.lines)) plays.lives found on image in
        moments_failed found image (news_of plays.lives.told ++ started found) l.2 holds;
    read = λ found on there whole none. absurd (whole tt);
  }
  lived_so (served.OtherSize len) a b plays = absurd plays.lives
  lived_so served.Alien a b plays = absurd plays.lives
  lived_so (served.BadRecord index) a b plays = absurd plays.lives

  pub lived_by : (how : Served) (a b : K) →
      Plays written puts (Both (UsesLink gives sent failures (setup_of host).devices roll now line next) (FollowsTo how desk left_desk))
      (ServesLines (IsDone how) (KnownAfter host desk) (MissedFrom host (Rose missed missed_then)) (setup_of last) (opening_of (setup_of last) begun) roll.findings (ends_by how ends)) (λ lines. Heard (refusals (setup_of last).devices lines)) left how a b host last →
      Lived written puts gives sent failures g.size g.honest g.seen g.may_leave g.moment g.left_since g.cuts given back (setup_of last) roll now desk left_desk missed missed_then Heard ends left how a b
      line next
  lived_by how a b plays =
      let opening = opening_of (setup_of last) begun in
      let knows = KnownOn g.honest g.seen g.may_leave given (setup_of last) begun desk in
      let unread = MissedOn g.honest g.seen g.may_leave given (setup_of last) begun missed missed_then in
      lived_so how a b (record {
        lines = plays.lines;
        lives = lives_to_weaker written puts
            (Both (UsesLink gives sent failures (setup_of host).devices roll now line next) (FollowsTo how desk left_desk)) how a b host last
            (ServesLines (IsDone how) (KnownAfter host desk) (MissedFrom host (Rose missed missed_then)) (setup_of last) opening roll.findings (ends_by how ends) plays.lines)
            (ServesLines (IsDone how) knows unread (setup_of last) opening roll.findings (ends_by how ends) plays.lines)
            (serves_lines_weaker (setup_of last) (IsDone how) (IsDone how) (λ lasts. lasts) (KnownAfter host desk) knows known_on (MissedFrom host (Rose missed missed_then))
            unread missed_on opening roll.findings (ends_by how ends) plays.lines)
            plays.lives;
        says = plays.says;
        heard = plays.heard;
      })

-- a host that lived had a disk that it could be started over
pub lived_suits : {K D : Type 0} (written : K → Option (List ℕ)) (puts : K → List ℕ → Result (Unit {0}) Failed → K → Type 0)
    {g : Ghosts D} (given back : D) (setup : Setup) (S : List Told → Type 0) (P : List LiveStep → List Told → Type 0)
    (how : Served) (a b : K) (old new : Host D g) → LivesTo written puts S P how a b old new →
    SuitsDisk g.size g.honest g.seen g.may_leave g.moment g.left_since g.cuts given back setup how
lived_suits written puts given back setup S P served.Done a b old new lives = tt
lived_suits written puts given back setup S P (served.Refused number kind) a b old new lives = tt
lived_suits written puts given back setup S P served.Unread a b old new lives = tt
lived_suits written puts given back setup S P served.Unwritten a b old new lives = tt
lived_suits written puts given back setup S P served.Disk a b old new lives = tt
lived_suits written puts given back setup S P (served.OtherSize len) a b old new lives = absurd lives
lived_suits written puts given back setup S P served.Alien a b old new lives = absurd lives
lived_suits written puts given back setup S P (served.BadRecord index) a b old new lives = absurd lives
