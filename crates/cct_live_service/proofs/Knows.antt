-- What is reported of what the journal knows.
use Rattle.std.proofs.Common.{◌≡◌, ◌∙◌, ℕ, List, [], ◌∷◌, ◌++◌, ◌&&◌, ◌-◌, arith, length, take, reverse, map, Bool, true, false, append_assoc, Option, Some, None, is_some, Result, Ok, Err, refl, sym, ap, ap₂, subst, inl, inr}
use Rattle.std.specs.Prelude.{MatchResult}
use Rattle.std.specs.Io.KnownBytes.{Appends}
use Rattle.std.proofs.lemmas.List.{length-append, length-reverse, reverse-append, reverse-reverse, take_at}
use Rattle.std.proofs.lemmas.Option.{same_Some}
use Rattle.cct_audit.specs.Writing.{WritesLines, bytes_of}
use Rattle.cct_edge.specs.Bytes.{AppendsFront}
use Rattle.cct_edge.specs.declared.fault.Failed.{Failed}
use Rattle.cct_disk.specs.declared.disk.Disk.{Ghosts}
use Rattle.cct_disk.specs.Disk.{IsTrusted}
use Rattle.cct_journal.specs.Image.{HasFrom, IsAlien}
use Rattle.cct_journal.specs.Journal as journals
use Rattle.cct_journal.specs.Opening.{RefusesOpen}
use Rattle.cct_journal.specs.declared.refusal.OpenNo.{OpenNo}
use Rattle.cct_journal.specs.declared.refusal.OpenNo.TheVariants as opening
use Rattle.cct_text.specs.Writing.{Puts}
use Rattle.cct_journal.proofs.Opens.{alien_has_none, bad_has_none, one_from}
use Rattle.cct_journal_carry.proofs.FitsSetup.{carry_fits}
use Rattle.cct_journal_carry.proofs.Follows.{follows_carried}
use Rattle.cct_journal_carry.proofs.Steps.{carry_next}
use Rattle.cct_laws.proofs.money.EpochsReplayed.{follow_front}
use Rattle.std.proofs.lemmas.Bool.{and_parts}
use Rattle.cct_model.specs.terms.device.Setup.{Setup}
use Rattle.cct_model.specs.lines.carry.Carry.{Carry}
use Rattle.cct_model.specs.lines.entry.Entry.{Entry}
use Rattle.cct_model.specs.lines.record.Record.{Record}
use Rattle.cct_model.specs.Carry.{carry, carry_with, follows_carry}
use Rattle.cct_model.specs.Following.{all_follow, follows}
use Rattle.cct_model.specs.Setup.{IsSoundSetup}
use Rattle.cct_model.specs.Records.{records}
use Rattle.cct_host.specs.declared.host.Host.{Host}
use Rattle.cct_host.specs.Host.{StandsFor, disk_of, setup_of}
use Rattle.cct_bench_state.specs.Books.{carry_after, follow_after, state_lines}
use Rattle.cct_bench_state.specs.Known.{any_disk, of_image}
use Rattle.cct_bench_state.specs.Telling.{IsBad, IsMisfit, Tells}
use Rattle.cct_bench_state.specs.declared.telling.StateEnd.{StateEnd}
use Rattle.cct_bench_state.specs.declared.telling.StateEnd.TheVariants as telling
use Rattle.cct_laws_live.specs.LiveStep.{LiveStep}
use Rattle.cct_live_order.specs.Told.{order_in}
use Rattle.cct_live_service.specs.Doing.{IsStating}
use Rattle.cct_live_service.specs.AtDesk.{IsApart}
use Rattle.cct_live_service.specs.Linked.{AreQuiet}
use Rattle.cct_live_service.specs.Reported.{AreSoWhere}
use Rattle.cct_live_service.specs.Stated.{IsStateFor, IsStateOf, MissedFor, TellsKnown, kept_in}
use Rattle.cct_live_service.specs.Told.{Told, WritesTold, findings_in, knows_each, news_of, told_line, told_text}

-- it is no news of the host, and no finding
pub news_known : (all lines : List (List ℕ)) → news_of (knows_each all lines) ≡ []
news_known all [] = refl
news_known all (line ∷ lines) = news_known all lines

pub found_known : (all lines : List (List ℕ)) → findings_in (knows_each all lines) ≡ []
found_known all [] = refl
found_known all (line ∷ lines) = found_known all lines

pub stating_finds : (M : Type 0) (steps : List LiveStep) (told : List Told) → IsStating M steps told → findings_in told ≡ []
stating_finds M steps told (none, inl known) = ap findings_in known.1 ∙ found_known known.0 known.0
stating_finds M steps told (none, inr unread) = ap findings_in unread.0

-- nothing goes over the link, and the desk is left as it is
pub quiet_known : (all lines : List (List ℕ)) → AreQuiet (knows_each all lines)
quiet_known all [] = refl
quiet_known all (line ∷ lines) = quiet_known all lines

pub apart_known : (all lines : List (List ℕ)) → IsApart (knows_each all lines)
apart_known all [] desk = refl
apart_known all (line ∷ lines) desk = apart_known all lines desk

-- each line is of all of them
pub so_known : (T : Type 0) (S : List Record → List Record) (setup : Setup) (past : List Entry) (all lines : List (List ℕ)) →
    (T → IsStateOf setup (records past) (S (records past)) all) → AreSoWhere T S setup past (knows_each all lines)
so_known T S setup past all [] is = tt
so_known T S setup past all (line ∷ lines) is = (is, so_known T S setup past all lines is)

-- lines that were written are reported
lines_known : (all lines : List (List ℕ)) → map told_line (knows_each all lines) ≡ lines
lines_known all [] = refl
lines_known all (line ∷ lines) = ap (λ ls. line ∷ ls) (lines_known all lines)

text_known : (all lines : List (List ℕ)) → told_text (knows_each all lines) ≡ bytes_of lines
text_known all [] = refl
text_known all (line ∷ lines) = ap (λ bytes. line ++ bytes) (text_known all lines)

module _ {K : Type 0} (written : K → Option (List ℕ)) (puts : K → List ℕ → Result (Unit {0}) Failed → K → Type 0) where
  pub told_known : (a b : K) (all lines : List (List ℕ)) (result : Result (Unit {0}) Failed) →
      WritesLines written puts a lines result b → WritesTold written puts a (knows_each all lines) result b
  told_known a b all lines result h = record {
    put = subst (λ ls. Puts puts a ls result b) (sym (lines_known all lines)) h.put;
    bytes = subst (λ bytes. MatchResult result (λ _. Appends (written a) (written b) bytes)
        (λ _. AppendsFront (written a) (written b) bytes)) (sym (text_known all lines)) h.told;
  }

-- the records of a past, split where the last ones begin
split_at : (all first rest : List Record) → reverse all ≡ first ++ rest → all ≡ reverse rest ++ reverse first
split_at all first rest is = sym (reverse-reverse all) ∙ ap reverse is ∙ reverse-append first rest

-- the last ones are as many as the current half has
turn_is : (all first rest : List Record) (used base : ℕ) → reverse all ≡ first ++ rest → used ≡ length (reverse all) →
    base ≡ length first → take (used - base) all ≡ reverse rest
turn_is all first rest used base is count many =
    ap (take (used - base)) (split_at all first rest is)
    ∙ take_at (reverse rest) (reverse first) (used - base)
    (omega (arith, length-reverse rest, count, many, ap length is, length-append first rest))

-- the image of a trusted disk is the one that was read: its records are those of the past
module _ {D : Type 0} {g : Ghosts D} (host : Host D g) where
  pub image_state : (image : List ℕ) (base : ℕ) (c : Carry) (rest : List Record) → g.seen (disk_of host) ≡ Some image →
      HasFrom image base c rest → IsStateFor host (state_lines (Some (setup_of host)) c (reverse rest))
  image_state image base c rest seen has past stands trusted =
      let setup = setup_of host in
      let kept = stands.on_disk trusted in
      let place = journals.place_of host.journal in
      let there : HasFrom image place.base place.carry kept.rest =
      subst (λ i. HasFrom i place.base place.carry kept.rest) (same_Some kept.image image (sym kept.held.tells ∙ seen))
      (record { second = place.second; generation = place.generation; current = kept.has }) in
      let one = one_from image base place.base c place.carry rest kept.rest has there in
      let first = kept.continues.first in
      let is : c ≡ carry setup (reverse first) = one.carry_is ∙ kept.continues.carry_is in
      let turn = turn_is (records past) first kept.rest place.used place.base kept.continues.all kept.count kept.continues.many in
      record {
        first = reverse first;
        all_are = split_at (records past) first kept.rest kept.continues.all ∙ ap (λ rs. rs ++ reverse first) (sym turn);
        lines_are = ap₂ (λ k rs. state_lines (Some setup) k (reverse rs)) is one.rest_is
            ∙ ap (state_lines (Some setup) (carry setup (reverse first))) (sym turn);
      }

  -- and what its records show of an order is what those of the past do since the journal last
  -- turned
  pub image_order : (image : List ℕ) (base : ℕ) (c : Carry) (rest : List Record) (id : ℕ) →
      g.seen (disk_of host) ≡ Some image → HasFrom image base c rest → (past : List Entry) → StandsFor host past →
      IsTrusted g.honest g.seen (disk_of host) → order_in id (reverse rest) ≡ order_in id (kept_in host past)
  image_order image base c rest id seen has past stands trusted =
      let kept = stands.on_disk trusted in
      let place = journals.place_of host.journal in
      let there : HasFrom image place.base place.carry kept.rest =
      subst (λ i. HasFrom i place.base place.carry kept.rest) (same_Some kept.image image (sym kept.held.tells ∙ seen))
      (record { second = place.second; generation = place.generation; current = kept.has }) in
      let one = one_from image base place.base c place.carry rest kept.rest has there in
      let turn = turn_is (records past) kept.continues.first kept.rest place.used place.base kept.continues.all kept.count
      kept.continues.many in
      ap (λ rs. order_in id (reverse rs)) one.rest_is ∙ ap (order_in id) (sym turn)

  -- a trusted disk that represents records is refused by nothing that it has
  pub image_refused : (image : List ℕ) (why : OpenNo) → g.seen (disk_of host) ≡ Some image → RefusesOpen why image →
      (past : List Entry) → StandsFor host past → IsTrusted g.honest g.seen (disk_of host) → why ≡ opening.Disk
  image_refused image why seen refuses past stands trusted =
      let kept = stands.on_disk trusted in
      let place = journals.place_of host.journal in
      let there : HasFrom image place.base place.carry kept.rest =
      subst (λ i. HasFrom i place.base place.carry kept.rest) (same_Some kept.image image (sym kept.held.tells ∙ seen))
      (record { second = place.second; generation = place.generation; current = kept.has }) in
      by_why why refuses there
    where
      by_why : (why : OpenNo) → RefusesOpen why image → {base : ℕ} {c : Carry} {rest : List Record} →
          HasFrom image base c rest → why ≡ opening.Disk
      by_why opening.Disk refuses has = refl
      by_why opening.Alien refuses {base} {c} {rest} has = absurd (alien_has_none image base c rest refuses has)
      by_why (opening.BadRecord index) refuses {base} {c} {rest} has =
          absurd (bad_has_none image index base c rest refuses has)

  -- a disk that shows no bytes isn't trusted
  pub untold_state : g.seen (disk_of host) ≡ None → (lines : List (List ℕ)) → IsStateFor host lines
  untold_state none lines past stands trusted =
      absurd (never (subst (λ (s : Option (List ℕ)). is_some s ≡ true) none trusted.1))
    where
      never : false ≡ true → ⊥
      never e = cc e

-- in a sound setup records that follow one another follow the carry of the first ones
module _ (setup : Setup) (sound : IsSoundSetup setup) (first : List Record) where
  since_follow : (since : List Record) → all_follow setup (since ++ first) ≡ true →
      (carry_after setup (carry setup first) since ≡ carry setup (since ++ first))
      × (follow_after setup (carry setup first) since ≡ true)
  since_follow [] follow = (refl, refl)
  since_follow (r ∷ since) follow =
      let parts = and_parts (follows setup (since ++ first) r) (all_follow setup (since ++ first)) follow in
      let one = since_follow since parts.1 in (
        ap (carry_with setup r) one.0 ∙ carry_next setup (since ++ first) sound r follow,
        both (follows_carry setup (carry_after setup (carry setup first) since) r)
            (follow_after setup (carry setup first) since)
            (ap (λ c. follows_carry setup c r) one.0 ∙ follows_carried setup (since ++ first) sound parts.1 r ∙ parts.0) one.1,
      )
    where
      both : (b c : Bool) → b ≡ true → c ≡ true → (b && c) ≡ true
      both true c h k = k
      both false c h k = cc h

  -- so none of them is a misfit
  none_misfit : (base index : ℕ) (rest : List Record) → all_follow setup (reverse rest ++ first) ≡ true →
      IsMisfit (Some setup) base (carry setup first) rest index → ⊥
  none_misfit base index rest follow (inl bad) =
      bad.0 (carry_fits setup first sound (follow_front setup (reverse rest) first follow), refl)
  none_misfit base index rest follow (inr (before, r, later, are, at, suits, bad)) =
      bad (
        carry_fits setup first sound (follow_front setup (reverse rest) first follow),
        (since_follow (r ∷ before) (follow_front setup (reverse later) (r ∷ (before ++ first))
            (ap (all_follow setup) (sym (split before r later)) ∙ ap (λ rs. all_follow setup (reverse rs ++ first)) (sym are)
            ∙ follow))).1,
      )
    where
      split : (xs : List Record) (y : Record) (zs : List Record) →
          reverse (reverse xs ++ y ∷ zs) ++ first ≡ reverse zs ++ y ∷ (xs ++ first)
      split xs y zs =
          ap (λ rs. rs ++ first)
          (reverse-append (reverse xs) (y ∷ zs) ∙ ap (λ rs. reverse (y ∷ zs) ++ rs) (reverse-reverse xs)
          ∙ ap (λ rs. rs ++ xs) (reverse-append (y ∷ []) zs) ∙ append_assoc (reverse zs) (y ∷ []) xs)
          ∙ append_assoc (reverse zs) (y ∷ xs) first

-- a trusted disk that represents records isn't refused
module _ {D : Type 0} {g : Ghosts D} (host : Host D g) where
  never_refused : (image : List ℕ) → g.seen (disk_of host) ≡ Some image → (past : List Entry) → StandsFor host past →
      all_follow (setup_of host) (records past) ≡ true → IsTrusted g.honest g.seen (disk_of host) →
      (IsAlien image → ⊥) × ((index : ℕ) → IsBad (of_image image) (Some (setup_of host)) index → ⊥)
  never_refused image seen past stands follow trusted =
      let setup = setup_of host in
      let kept = stands.on_disk trusted in
      let place = journals.place_of host.journal in
      let there : HasFrom image place.base place.carry kept.rest =
      subst (λ i. HasFrom i place.base place.carry kept.rest) (same_Some kept.image image (sym kept.held.tells ∙ seen))
      (record { second = place.second; generation = place.generation; current = kept.has }) in
      let first = reverse kept.continues.first in
      let all = ap (all_follow setup) (sym (split_at (records past) kept.continues.first kept.rest kept.continues.all)) ∙ follow in (
        λ alien. alien_has_none image place.base place.carry kept.rest alien there,
        λ index bad. by_reason index first there all kept.continues.carry_is stands.keeps.desks.sound bad,
      )
    where
      by_reason : (index : ℕ) (first : List Record) {base : ℕ} {c : Carry} {rest : List Record} →
          HasFrom image base c rest → all_follow (setup_of host) (reverse rest ++ first) ≡ true →
          c ≡ carry (setup_of host) first → IsSoundSetup (setup_of host) →
          IsBad (of_image image) (Some (setup_of host)) index → ⊥
      by_reason index first {base} {c} {rest} there all is sound (inl bad) =
          bad_has_none image index base c rest bad there
      by_reason index first {base} {c} {rest} there all is sound (inr (b, k, rs, has, misfit)) =
          let one = one_from image b base k c rs rest has there in
          none_misfit (setup_of host) sound first b index rest all
          (subst (λ x. IsMisfit (Some (setup_of host)) b x rest index) (one.carry_is ∙ is)
          (subst (λ x. IsMisfit (Some (setup_of host)) b k x index) one.rest_is misfit))

-- what was read of a disk that gives the bytes of the host's is the state of its journal
module _ {D : Type 0} {g : Ghosts D} (host : Host D g) (writes : List (List ℕ) → Result (Unit {0}) Failed → Type 0) where
  whole : (seen : Option (List ℕ)) → seen ≡ g.seen (disk_of host) →
      ((image : List ℕ) → seen ≡ Some image → Tells (of_image image) (Some (setup_of host)) telling.Done writes) →
      Tells any_disk (Some (setup_of host)) telling.Done writes →
      (lines : List (List ℕ)) × IsStateFor host lines × writes lines (Ok tt)
  whole None same told any =
      let lines = state_lines (Some (setup_of host)) any.1 (reverse any.2) in
      (lines, untold_state host (sym same) lines, any.5)
  whole (Some image) same told any =
      let one = told image refl in
      (state_lines (Some (setup_of host)) one.1 (reverse one.2), image_state host image one.0 one.1 one.2 (sym same) one.3, one.5)

  front : (seen : Option (List ℕ)) → seen ≡ g.seen (disk_of host) →
      ((image : List ℕ) → seen ≡ Some image → Tells (of_image image) (Some (setup_of host)) telling.Unwritten writes) →
      Tells any_disk (Some (setup_of host)) telling.Unwritten writes →
      (lines : List (List ℕ)) × IsStateFor host lines × ((failed : Failed) × writes lines (Err failed))
  front None same told any =
      let lines = state_lines (Some (setup_of host)) any.1 (reverse any.2) in
      (lines, untold_state host (sym same) lines, (any.5, any.6))
  front (Some image) same told any =
      let one = told image refl in (
        state_lines (Some (setup_of host)) one.1 (reverse one.2),
        image_state host image one.0 one.1 one.2 (sym same) one.3,
        (one.5, one.6),
      )

  none : (setup : Option Setup) (why : OpenNo) → Tells any_disk setup (telling.Unread why) writes → writes [] (Ok tt)
  none setup opening.Disk told = told
  none setup opening.Alien told = told.1
  none setup (opening.BadRecord index) told = told.1

  -- by how it ended
  module _ (how : StateEnd) (setup : Setup) (same : setup ≡ setup_of host) (seen : Option (List ℕ))
      (gives : seen ≡ g.seen (disk_of host))
      (told : (image : List ℕ) → seen ≡ Some image → Tells (of_image image) (Some setup) how writes)
      (any : Tells any_disk (Some setup) how writes) where
    told_as : (end : StateEnd) → how ≡ end → (image : List ℕ) → seen ≡ Some image →
        Tells (of_image image) (Some (setup_of host)) end writes
    told_as end is image at =
        subst (λ s. Tells (of_image image) (Some s) end writes) same
        (subst (λ h. Tells (of_image image) (Some setup) h writes) is (told image at))

    any_as : (end : StateEnd) → how ≡ end → Tells any_disk (Some (setup_of host)) end writes
    any_as end is =
        subst (λ s. Tells any_disk (Some s) end writes) same (subst (λ h. Tells any_disk (Some setup) h writes) is any)

    pub state_whole : how ≡ telling.Done → (lines : List (List ℕ)) × IsStateFor host lines × writes lines (Ok tt)
    state_whole is = whole seen gives (told_as telling.Done is) (any_as telling.Done is)

    pub state_front : how ≡ telling.Unwritten →
        (lines : List (List ℕ)) × IsStateFor host lines × ((failed : Failed) × writes lines (Err failed))
    state_front is = front seen gives (told_as telling.Unwritten is) (any_as telling.Unwritten is)

    pub state_none : (why : OpenNo) → how ≡ telling.Unread why → writes [] (Ok tt)
    state_none why is = none (Some (setup_of host)) why (any_as (telling.Unread why) is)

    -- it isn't unread but where the disk failed, if it is trusted
    pub unread_missed : (why : OpenNo) → how ≡ telling.Unread why → (Missed : Type 0) → (why ≡ opening.Disk → Missed) →
        MissedFor host Missed
    unread_missed why is Missed missed past stands follow trusted = by_seen (g.seen (disk_of host)) refl
      where
        by_why : (no : OpenNo) → why ≡ no → (image : List ℕ) → g.seen (disk_of host) ≡ Some image →
            Tells (of_image image) (Some (setup_of host)) (telling.Unread no) writes → Missed
        by_why opening.Disk same image at told = missed same
        by_why opening.Alien same image at told =
            absurd ((never_refused host image at past stands follow trusted).0 told.0)
        by_why (opening.BadRecord index) same image at told =
            absurd ((never_refused host image at past stands follow trusted).1 index told.0)

        never : false ≡ true → ⊥
        never e = cc e

        by_seen : (at : Option (List ℕ)) → g.seen (disk_of host) ≡ at → Missed
        by_seen None at = absurd (never (subst (λ (s : Option (List ℕ)). is_some s ≡ true) at trusted.1))
        by_seen (Some image) at =
            by_why why refl image at (told_as (telling.Unread why) is image (gives ∙ at))

-- the state of a journal was reported, or more was missed
pub known_weaker : {K : Type 0} (written : K → Option (List ℕ)) (puts : K → List ℕ → Result (Unit {0}) Failed → K → Type 0)
    {D : Type 0} {g : Ghosts D} (host : Host D g) (M N : Type 0) → (M → N) → (a : K) (result : Result (Unit {0}) Failed)
    (b : K) → TellsKnown written puts host M a result b → TellsKnown written puts host N a result b
known_weaker written puts host M N to a result b (inl known) = inl known
known_weaker written puts host M N to a result b (inr unread) =
    inr (unread.0, λ past stands follow trusted. to (unread.1 past stands follow trusted))
