-- What a host begins with that is started over a part.
use Rattle.std.proofs.Common.{◌≡◌, ◌⊎◌, inl, inr, ℕ, ◌+◌, ◌*◌, ◌<◌, ◌≤◌, Bool, true, false, List, [], length, drop, reverse, slice_index, refl, sym, ◌∙◌, ap, subst, arith, Option, Some, None, is_some, Result, Ok, Err}
use Rattle.std.specs.Prelude.{IfErr, IfOk, IsErr, IsErrAnd}
use Rattle.std.proofs.lemmas.List.{get_or-drop, get_or-take, reverse-reverse}
use Rattle.cct_model.specs.terms.device.Setup.{Setup}
use Rattle.cct_model.specs.lines.carry.Carry.{Carry}
use Rattle.cct_model.specs.lines.record.Record.{Record}
use Rattle.cct_model.specs.lines.entry.Entry.{Entry}
use Rattle.cct_model.specs.Carry.{carry_of}
use Rattle.cct_model.specs.Following.{all_follow}
use Rattle.cct_model.specs.Records.{records}
use Rattle.cct_model.specs.Setup.{IsSoundSetup}
use Rattle.cct_laws.specs.Recorded.{HasNoJob}
use Rattle.cct_disk.specs.declared.disk.Disk.{Ghosts}
use Rattle.cct_disk.specs.Disk.{Holds, Only, OnlyReads}
use Rattle.cct_journal.specs.Creating.{IsCreated, RefusesCreate}
use Rattle.cct_journal.specs.Half.{half, open_gate, slots_in, start_at}
use Rattle.cct_journal.specs.Image as images
use Rattle.cct_journal.specs.Image.{HasFrom, IsAlien, IsBlank, least_size}
use Rattle.cct_journal.specs.Journal as journals
use Rattle.cct_journal.specs.declared.journal.Journal.{Journal}
use Rattle.cct_journal.specs.declared.refusal.CreateNo.{CreateNo}
use Rattle.cct_journal.specs.declared.refusal.CreateNo.TheVariants as create_no
use Rattle.cct_journal.specs.declared.refusal.ReadNo.TheVariants.{BadRecord}
use Rattle.cct_journal.proofs.Moments.{reads_then, then_leaves}
use Rattle.cct_journal_carry.proofs.Resumed.{carry_of_none}
use Rattle.cct_host.specs.declared.host.Host.{Host}
use Rattle.cct_host.specs.Host.{StandsFor, disk_of, journal_of, setup_of}
use Rattle.cct_host.specs.OnDisk.{KeepsRecords, ReadsRecords, ReadsRest}
use Rattle.cct_host.specs.Starting.{FirstFollow, HasReplayed, HasResumed, RefusesResume}
use Rattle.cct_host.proofs.Records.{first_follow}
use Rattle.cct_host.proofs.Starting.{started_stands}
use Rattle.cct_poll.specs.Starts.{RefusesStart, Starts, WasFound, WasMade, found, made}
use Rattle.cct_poll.specs.declared.refusal.PollNo.TheVariants as no

-- a half begins within the bytes
starts_within : (size : ℕ) (second : Bool) → least_size ≤ size → start_at size second < size
starts_within size false long = omega (arith, long)
starts_within size true long = omega (arith, long)

-- bytes that have a journal aren't blank
not_blank : (part : List ℕ) (base : ℕ) (c : Carry) (rest : List Record) → HasFrom part base c rest → IsBlank part → ⊥
not_blank part base c rest has blank =
    let headed = has.current.headed in
    let at = start_at (length part) has.second in
    let many = 32 * slots_in (length part) in
    let gate : slice_index (half part has.second) 0 ≡ open_gate =
    sym (get_or-take 15 (half part has.second) 0 0 (omega arith))
    ∙ ap (λ (l : List ℕ). slice_index l 0) headed.current.is_open.titled in
    let byte : slice_index (half part has.second) 0 ≡ slice_index part (at + 0) =
    get_or-take many (drop at part) 0 0 (omega (arith, headed.long)) ∙ get_or-drop at part 0 0 in
    let zero : slice_index part (at + 0) ≡ 0 =
    blank (at + 0) (omega arith) (omega (arith, starts_within (length part) has.second headed.long)) in
    omega (arith, gate, byte, zero)

bytes_in : Option (List ℕ) → List ℕ
bytes_in (Some bytes) = bytes
bytes_in None = []

pub some_same : (a b : List ℕ) → Some a ≡ Some b → a ≡ b
unfolding bytes_in
some_same a b is = ap bytes_in is

-- an error that is passed on
pub passed_on : {T E : Type 0} (r : Result T E) (why : E) (P : E → Type 0) → IsErr r × IsErrAnd r (λ e. e ≡ why) → P why
    → IfErr r P
passed_on (Ok x) why P passed is = absurd passed.1
passed_on (Err e) why P passed is = subst P (sym passed.1) is

-- bytes that have no journal, and aren't blank
pub refused_alien : (setup : Setup) (part : List ℕ) (at size : ℕ) (seen : Option (List ℕ)) (creates : CreateNo)
    → creates ≡ create_no.NotBlank at → IsAlien part → RefusesCreate size seen creates → size ≡ length part
    → seen ≡ Some part → RefusesStart setup part no.Alien
refused_alien setup part at size seen creates blank alien refuses sized tells =
    let why = subst (RefusesCreate size seen) blank refuses in
    (subst (λ n. least_size ≤ n) sized why.0, (at, why.1 part tells), alien)

-- what is so of a journal that was made is so of one that was found or made
pub if_ok_more : {T E : Type 0} {P Q : T → Type 0} (r : Result T E) → ((x : T) → P x → Q x) → IfOk r P → IfOk r Q
if_ok_more (Ok x) more is = more x is
if_ok_more (Err why) more is = tt

-- a host over a journal that is still as it was
pub still_unfailed : {D : Type 0} {g : Ghosts D} (journal : Journal D g) (host : Host D g) → journal_of host ≡ journal
    → g.faults (journals.disk_of journal) ≡ 0 → g.faults (disk_of host) ≡ 0
still_unfailed {D} {g} journal host same unfailed =
    ap (λ (j : Journal D g). g.faults (journals.disk_of j)) same ∙ unfailed

-- what two clauses say of it
pub if_ok_both : {T E : Type 0} {P Q R : T → Type 0} (r : Result T E) → ((x : T) → P x → Q x → R x) → IfOk r P → IfOk r Q
    → IfOk r R
if_ok_both (Ok x) both is also = both x is also
if_ok_both (Err why) both is also = tt

module _ {D : Type 0} {g : Ghosts D} (disk : D) (journal : Journal D g) (setup : Setup) (part : List ℕ)
    (seen_is : g.seen disk ≡ Some part) where
  -- what was found is what the part has
  has_found : (was : WasFound journal disk) → (rest : List Record)
      × ReadsRest g.seen (journals.disk_of journal) (journals.place_of journal) rest
      × HasFrom part (journals.base_of journal) (journals.carry_before journal) rest
  has_found was =
      let place = journals.place_of journal in
      let there = was.finds.found part seen_is in
      let same = some_same there.1.image part (sym there.1.tells ∙ (was.reads.same_seen ∙ seen_is)) in (
        there.0,
        there.1,
        subst (λ b. HasFrom b place.base place.carry there.0) same
            (record { second = place.second; generation = place.generation; current = there.1.has }),
      )

  -- why no host is started over it
  pub refused_by : (index : ℕ) → WasFound journal disk ⊎ WasMade journal disk
      → ((rest : List Record) → ReadsRest g.seen (journals.disk_of journal) (journals.place_of journal) rest
      → RefusesResume (BadRecord index) setup (journals.base_of journal) (journals.carry_before journal) rest)
      → (journals.used_of journal ≡ 0 → ⊥) → RefusesStart setup part (no.BadRecord index)
  refused_by index (inl was) stops starts =
      let there = has_found was in
      inr (
        journals.base_of journal + length there.0,
        record {
          base = journals.base_of journal;
          carry = journals.carry_before journal;
          rest = there.0;
          has = there.2;
          count = refl;
          stops = stops there.0 there.1;
        },
      )
  refused_by index (inr was) stops starts = absurd (starts was.creates.none)

  module _ (host : Host D g) (same : setup_of host ≡ setup) (sound : IsSoundSetup setup)
      (honest_is : g.honest disk ≡ true) (only : Only part (g.may_leave disk)) (clock : g.moment disk ≡ 0)
      (sized : g.size disk ≡ length part)
      (resumes : (rest : List Record) → ReadsRest g.seen (journals.disk_of journal) (journals.place_of journal) rest
      → HasResumed host (journals.base_of journal) (journals.carry_before journal) rest)
      (knows : (all : List Record) → (reads : ReadsRecords setup g.seen (journals.disk_of journal) (journals.place_of journal) all)
      → FirstFollow setup reads → HasReplayed host (reverse all))
      (fresh : journals.used_of journal ≡ 0 → HasReplayed host [])
      (still : journals.used_of journal ≡ 0 → journal_of host ≡ journal)
      (stands : (all : List Record)
      → KeepsRecords setup g.honest g.seen g.may_leave (journals.disk_of journal) (journals.place_of journal) all
      → KeepsRecords setup g.honest g.seen g.may_leave (disk_of host) (journals.place_of (journal_of host)) all)
      (reads : OnlyReads g.size g.honest g.seen g.may_leave g.moment g.left_since g.cuts (journals.disk_of journal) (disk_of host))
    where
      holds : Holds g.honest g.seen g.may_leave disk part
      holds = record { keeps_synced = honest_is; tells = seen_is; only = only }

      -- a host that went over records that its disk keeps
      stands_over : (before : List Record) → HasReplayed host before
          → KeepsRecords setup g.honest g.seen g.may_leave (journals.disk_of journal) (journals.place_of journal) (reverse before)
          → (past : List Entry) → HasNoJob past → records past ≡ before → StandsFor host past
      stands_over before replayed keeps past none are =
          started_stands host past before none are replayed
          (λ trusted. subst (λ s. KeepsRecords s g.honest g.seen g.may_leave (disk_of host) (journals.place_of (journal_of host))
          (reverse before)) (sym same) (stands (reverse before) keeps))

      -- over a journal that was found
      found_stands : WasFound journal disk → (before : List Record) → images.StandsFor (carry_of setup) part (reverse before)
          → all_follow setup before ≡ true → (past : List Entry) → HasNoJob past → records past ≡ before → StandsFor host past
      found_stands was before is follow =
          let read = was.finds.every (carry_of setup) part (reverse before) seen_is is in
          let all : all_follow setup (reverse (reverse before)) ≡ true = ap (all_follow setup) (reverse-reverse before) ∙ follow in
          stands_over before
          (subst (HasReplayed host) (reverse-reverse before)
          (knows (reverse before) read (first_follow setup _ _ read.rest (reverse before) sound read.continues all)))
          (was.settles (carry_of setup) (reverse before) (record { image = part; held = holds; stands = is }))

      pub starts_by : WasFound journal disk ⊎ WasMade journal disk → Starts setup part host
      starts_by (inl was) =
          let there = has_found was in
          let both = reads_then was.reads reads in
          record {
            begun = found (journals.base_of journal) (journals.carry_before journal) there.0;
            held = (there.2, not_blank part _ _ _ there.2);
            has = resumes there.0 there.1;
            moments = λ image left. only image ((both.moments honest_is).each image
                (subst (λ t. g.left_since (disk_of host) t image) (sym clock) left));
            stands = λ before are. found_stands was before are.0 are.1;
          }
      starts_by (inr was) =
          let seen_read : g.seen was.read ≡ Some part = was.reads.same_seen ∙ seen_is in
          let none = was.creates.none in
          record {
            begun = made;
            held = (
              subst (λ n. least_size ≤ n) (was.reads.same_size ∙ sized) was.creates.long,
              was.creates.blank part seen_read,
            );
            has = fresh none;
            moments = λ image left.
                (then_leaves was.reads part holds (IsCreated part) (IsCreated part) (was.moments part) (λ c is. is)
                (λ c is. inl is)).each image
                (subst (λ j. g.left_since (journals.disk_of j) (g.moment disk) image) (still none)
                (subst (λ t. g.left_since (disk_of host) t image) (sym clock) left));
            stands = λ before are past no_job of.
                stands_over before (subst (HasReplayed host) (sym are) (fresh none))
                (subst (λ rs. KeepsRecords setup g.honest g.seen g.may_leave (journals.disk_of journal) (journals.place_of journal)
                (reverse rs)) (sym are)
                (was.creates.stands (was.reads.same_honest ∙ honest_is) (ap is_some seen_read) (carry_of setup) (carry_of_none setup)))
                past no_job of;
          }
