-- What a host finds after a power cut, and what it makes of it.
use Rattle.std.proofs.Common.{◌≡◌, ◌⊎◌, inl, inr, ℕ, ◌+◌, ◌<◌, true, List, [], ◌∷◌, ◌++◌, length, reverse, Option, Some, None, refl, sym, ap, subst, ◌∙◌, arith, append-nil, length-append}
use Rattle.std.specs.Option.{IfSome}
use Rattle.std.specs.Prelude.{Err, IfErr, IfOk, Ok, Result, is_some}
use Rattle.std.proofs.lemmas.Bool.{and_from}
use Rattle.std.proofs.lemmas.List.{reverse-append, reverse-reverse}
use Rattle.cct_model.specs.terms.device.Setup.{Setup}
use Rattle.cct_model.specs.lines.command.CrashAt.{CrashAt}
use Rattle.cct_model.specs.lines.entry.Entry.{Entry}
use Rattle.cct_model.specs.lines.record.Record.{Record}
use Rattle.cct_model.specs.lines.carry.Carry.{Carry}
use Rattle.cct_model.specs.Carry.{carry, carry_of}
use Rattle.cct_model.specs.Following.{all_follow, follows}
use Rattle.cct_model.specs.Legal.{EntriesOfRestart}
use Rattle.cct_model.specs.Records.{records}
use Rattle.cct_model.specs.Setup.{IsSoundSetup}
use Rattle.cct_disk.specs.declared.disk.Disk.{Ghosts}
use Rattle.cct_disk.specs.Disk.{IsTrusted}
use Rattle.cct_journal.specs.declared.journal.Journal.{Journal}
use Rattle.cct_journal.specs.declared.place.Place.{Place}
use Rattle.cct_journal.specs.Image.{HasFrom}
use Rattle.cct_journal.specs.Image as images
use Rattle.cct_journal.specs.Journal as journals
use Rattle.cct_journal_carry.specs.Tally as tallies
use Rattle.cct_journal.specs.PowerCuts.{LeavesWith, LeftBy}
use Rattle.cct_laws.specs.Restart.{RestartSuits, calls_in, due_in}
use Rattle.cct_laws.proofs.money.Restarts.{restart_bare, entries_free, restart_keeps}
use Rattle.cct_laws.proofs.setups.DeviceAt.{same_some}
use Rattle.cct_host.specs.declared.host.Host.{Host}
use Rattle.cct_host.specs.declared.refusal.CrashNo.{CrashNo}
use Rattle.cct_host.specs.declared.refusal.CrashNo.TheVariants as crash_no
use Rattle.cct_host.specs.declared.replay.ReplayState.{ReplayState}
use Rattle.cct_host.specs.declared.restart.Crashed.{Crashed}
use Rattle.cct_host.specs.OnDisk.{KeepsRecords, LeavesRecords, ReadsRecords, ReadsRest, StopsAt}
use Rattle.cct_host.specs.Desks as all_desks
use Rattle.cct_host.specs.Host.{StandsFor, disk_of, journal_of, put_by, setup_of}
use Rattle.cct_host.specs.Replaying.{GoesOver, ReplaysTo}
use Rattle.cct_host.specs.Restarting.{TellsRestart, IsLost, JournalFails, JournalRestarts, KeptBy, Opens, RestartFails, Restarts, due_of, told_by}
use Rattle.cct_host.specs.Replayed.{Resumes}
use Rattle.cct_host.specs.Starting.{HasResumed, TalliesOver}
use Rattle.cct_host.proofs.Begun.{resumed_all, resumed_by}
use Rattle.cct_host.proofs.Putting.{one_turned}
use Rattle.cct_host.proofs.Records.{first_follow, stops_nowhere, went_over}
use Rattle.cct_host.proofs.Starting.{started_stands}

-- an answer passes on
pub if_kept : {T : Type 0} (result : Result T CrashNo) (P Q R : T → Type 0) → IfOk result P → IfOk result Q
    → ((x : T) → P x → Q x → R x) → IfOk result R
if_kept (Ok x) P Q R p q goes = goes x p q
if_kept (Err why) P Q R p q goes = tt

pub if_each : {T : Type 0} (result : Result T CrashNo) (P Q R S U : T → Type 0) → IfOk result P → IfOk result Q
    → IfOk result R → IfOk result S → ((x : T) → P x → Q x → R x → S x → U x) → IfOk result U
if_each (Ok x) P Q R S U p q r s goes = goes x p q r s
if_each (Err why) P Q R S U p q r s goes = tt

pub if_lost : {T : Type 0} (result : Result T CrashNo) (P R : CrashNo → Type 0) → IfErr result P
    → ((why : CrashNo) → P why → R why) → IfErr result R
if_lost (Ok x) P R p goes = tt
if_lost (Err why) P R p goes = goes why p

pub if_both_lost : {T : Type 0} (result : Result T CrashNo) (P Q R : CrashNo → Type 0) → IfErr result P → IfErr result Q
    → ((why : CrashNo) → P why → Q why → R why) → IfErr result R
if_both_lost (Ok x) P Q R p q goes = tt
if_both_lost (Err why) P Q R p q goes = goes why p q

-- what is given is no error
pub no_error : {T E : Type 0} (result : Result T E) (x : T) (why : E) → result ≡ Ok x → result ≡ Err why → ⊥
no_error (Ok y) x why is fails = absurd cc
no_error (Err y) x why is fails = absurd cc

-- the records that are left are those that were put, with what was kept

one_more : (rs : List Record) (r : Record) (many : ℕ) → many ≡ length (rs ++ r ∷ []) → many ≡ length rs + 1
one_more rs r many is = is ∙ length-append rs (r ∷ [])

-- as many as before are those before
pub kept_is : (calls : ℕ) (due kept : Option Record) (rs left : List Record) → LeftBy calls due rs left
    → length left ≡ length rs + length (put_by kept) → IfSome kept (λ r. due ≡ Some r)
    → KeptBy calls due kept × (left ≡ rs ++ put_by kept)
kept_is calls None None rs left is many same = (inl refl, is ∙ sym (append-nil rs))
kept_is calls None (Some k) rs left is many same = absurd cc
kept_is calls (Some r) None rs left (inl is) many same = (inr is.0, is.1 ∙ sym (append-nil rs))
kept_is calls (Some r) None rs left (inr is) many same =
    let more : length left ≡ length rs + 1 = one_more rs r (length left) (ap length is.1) in
    absurd (omega (arith, more, many))
kept_is calls (Some r) (Some k) rs left (inl is) many same =
    let none : length left ≡ length rs = ap length is.1 in
    absurd (omega (arith, none, many))
kept_is calls (Some r) (Some k) rs left (inr is) many same =
    ((same, is.0), is.1 ∙ ap (λ x. rs ++ x ∷ []) (same_some r k same))

-- and there are as many as before, or one more, so none are lost
pub none_lost : (calls : ℕ) (due : Option Record) (rs left : List Record) (found put : ℕ) → LeftBy calls due rs left
    → found ≡ length left → put ≡ length rs → IsLost due found put → ⊥
none_lost calls None rs left found put is many was lost = lost.others (many ∙ ap length is ∙ sym was)
none_lost calls (Some r) rs left found put (inl is) many was lost = lost.others (many ∙ ap length is.1 ∙ sym was)
none_lost calls (Some r) rs left found put (inr is) many was lost =
    unkept lost.unkept
  where
    unkept : (Some r ≡ None) ⊎ (found ≡ put + 1 → ⊥) → ⊥
    unkept (inl none) = absurd cc
    unkept (inr other) =
        let more : length left ≡ length rs + 1 = one_more rs r (length left) (ap length is.1) in
        other (omega (arith, more, many, was))

-- what stands leaves what was put, with what was due or without it

module _ {D : Type 0} (g : Ghosts D) where
  left_with : (of : List Record → Carry) (disk : D) (calls : ℕ) (due kept : Option Record) (rs : List Record)
      (image : List ℕ) → KeptBy calls due kept → g.honest disk ≡ true → g.seen disk ≡ Some image
      → ((c : List ℕ) → g.may_leave disk c → c ≡ image) → images.StandsFor of image (rs ++ put_by kept)
      → LeavesWith of g.honest g.seen g.may_leave disk due rs
  left_with of disk calls None None rs image by honest tells only stands = record {
    keeps_synced = honest;
    tells = ap is_some tells;
    each = λ c left. subst (λ b. images.StandsFor of b rs) (sym (only c left))
        (subst (images.StandsFor of image) (append-nil rs) stands);
  }
  left_with of disk calls None (Some k) rs image by honest tells only stands = absurd cc
  left_with of disk calls (Some r) None rs image by honest tells only stands = record {
    keeps_synced = honest;
    tells = ap is_some tells;
    each = λ c left. inl (subst (λ b. images.StandsFor of b rs) (sym (only c left))
        (subst (images.StandsFor of image) (append-nil rs) stands));
  }
  left_with of disk calls (Some r) (Some k) rs image by honest tells only stands = record {
    keeps_synced = honest;
    tells = ap is_some tells;
    each = λ c left. inr (subst (λ b. images.StandsFor of b (rs ++ r ∷ [])) (sym (only c left))
        (subst (λ x. images.StandsFor of image (rs ++ x ∷ [])) (sym (same_some r k by.0)) stands));
  }

  pub stands_leave : (setup : Setup) (disk : D) (place : Place) (calls : ℕ) (due kept : Option Record) (rs : List Record)
      → KeptBy calls due kept → KeepsRecords setup g.honest g.seen g.may_leave disk place (rs ++ put_by kept)
      → LeavesRecords setup g.honest g.seen g.may_leave disk due rs
  stands_leave setup disk place calls due kept rs by stands =
      left_with (carry_of setup) disk calls due kept rs stands.image by stands.held.keeps_synced stands.held.tells
      stands.held.only (record {
        base = place.base;
        carry = place.carry;
        rest = stands.rest;
        has = record { second = place.second; generation = place.generation; current = stands.has };
        continues = stands.continues;
      })

  -- a read gives what stands
  pub stands_read : (setup : Setup) (disk : D) (place : Place) (rs : List Record)
      → KeepsRecords setup g.honest g.seen g.may_leave disk place rs → ReadsRecords setup g.seen disk place rs
  stands_read setup disk place rs stands =
      let many : length rs ≡ length stands.continues.first + length stands.rest =
      ap length stands.continues.all ∙ length-append stands.continues.first stands.rest in
      record {
        rest = stands.rest;
        reads = record {
          image = stands.image;
          tells = stands.held.tells;
          has = stands.has;
          count = omega (arith, stands.count, many, stands.continues.many);
        };
        continues = stands.continues;
      }

  -- and the image that it gives has that
  pub read_has : (disk : D) (place : Place) (rest : List Record) (image : List ℕ) → ReadsRest g.seen disk place rest
      → g.seen disk ≡ Some image → HasFrom image place.base place.carry rest
  read_has disk place rest image reads tells =
      subst (λ b. HasFrom b place.base place.carry rest) (same_some reads.image image (sym reads.tells ∙ tells))
      (record { second = place.second; generation = place.generation; current = reads.has })

-- where a host stops over what was replayed
pub stops_at : (first now : ReplayState) (setup : Setup) (base index : ℕ) (c : Carry) (rest : List Record)
    → now.bad ≡ Some index → tallies.setup_of first.tally ≡ setup → ReplaysTo first base c (reverse rest) now
    → StopsAt setup base c rest index
stops_at first now setup base index c rest is same over =
    subst (λ s. StopsAt s base c rest index) (over.setup ∙ same)
    (subst (λ bad. GoesOver bad (tallies.setup_of now.tally) base c rest (tallies.carry_in now.tally)) is
    (went_over first now base c rest over))

-- and what a tally went over that doesn't stop
pub tallies_over : (first now : ReplayState) (setup : Setup) (base : ℕ) (c : Carry) (rest : List Record)
    → now.bad ≡ None → tallies.setup_of first.tally ≡ setup → ReplaysTo first base c (reverse rest) now
    → TalliesOver setup c rest (tallies.carry_in now.tally)
tallies_over first now setup base c rest is same over =
    subst (λ s. TalliesOver s c rest (tallies.carry_in now.tally)) (over.setup ∙ same)
    (subst (λ bad. GoesOver bad (tallies.setup_of now.tally) base c rest (tallies.carry_in now.tally)) is
    (went_over first now base c rest over))

-- what is so whether or not a record is due
either_due : (due : Option Record) (P : Type 0) → P → IfSome due (λ r. P)
either_due None P is = tt
either_due (Some r) P is = is

module _ {D : Type 0} {g : Ghosts D} where
  -- what is before a record that is due
  pub stands_before : (setup : Setup) (journal : Journal D g) (so_far : Carry) (due : Option Record) (rs : List Record)
      → KeepsRecords setup g.honest g.seen g.may_leave (journals.disk_of journal) (journals.place_of journal) rs
      → so_far ≡ carry_of setup rs → journals.JournalStandsBefore (carry_of setup) journal so_far due rs
  stands_before setup journal so_far due rs stands carried = record {
    stands = stands;
    carry_is = either_due due (so_far ≡ carry_of setup rs) carried;
  }

  -- a restart of the journal, by what is due, with the carry so far, and by how many calls were made
  pub restarts_at : (calls many : ℕ) (due found : Option Record) (so_far told : Carry) (choice : ℕ) (old new : Journal D g)
      (kept : Option Record) → calls ≡ many → due ≡ found → so_far ≡ told
      → JournalRestarts calls due so_far choice old new kept → JournalRestarts many found told choice old new kept
  restarts_at calls many due found so_far told choice old new kept counts is carried restarts =
      subst (λ n. JournalRestarts n found told choice old new kept) counts
      (subst (λ d. JournalRestarts calls d told choice old new kept) is
      (subst (λ c. JournalRestarts calls due c choice old new kept) carried restarts))

  pub fails_at : (setup : Setup) (due found : Option Record) (so_far told : Carry) (choice : ℕ) (old new : Journal D g)
      (why : CrashNo) → due ≡ found → so_far ≡ told → JournalFails setup due so_far choice old new why
      → JournalFails setup found told choice old new why
  fails_at setup due found so_far told choice old new why is carried fails =
      subst (λ d. JournalFails setup d told choice old new why) is
      (subst (λ c. JournalFails setup due c choice old new why) carried fails)

  -- what is found has as many records as the journal counts
  pub opens_by : (setup : Setup) (journal : Journal D g)
      → ((image : List ℕ) → g.seen (journals.disk_of journal) ≡ Some image
      → (rest : List Record) × ReadsRest g.seen (journals.disk_of journal) (journals.place_of journal) rest)
      → Opens setup journal
  opens_by setup journal found image tells =
      let read = found image tells in
      record {
        base = journals.base_of journal;
        carry = journals.carry_before journal;
        rest = read.0;
        has = read_has g _ _ read.0 image read.1 tells;
        count = read.1.count;
      }

  -- no host starts over a record that doesn't follow
  pub bad_fails : (setup : Setup) (calls : ℕ) (due : Option Record) (so_far : Carry) (choice : ℕ) (old new : Journal D g)
      (kept : Option Record) (index : ℕ) → JournalRestarts calls due so_far choice old new kept
      → ((rest : List Record) → ReadsRest g.seen (journals.disk_of new) (journals.place_of new) rest
      → StopsAt setup (journals.base_of new) (journals.carry_before new) rest index)
      → JournalFails setup due so_far choice old new (crash_no.BadRecord index)
  bad_fails setup calls due so_far choice old new kept index restarts stops = record {
    refused = λ image tells.
        let found = restarts.found image tells in
        inr (
          record { kept = kept; kept_is = restarts.kept_is; count = restarts.counts },
          record {
            base = journals.base_of new;
            carry = journals.carry_before new;
            rest = found.0;
            has = read_has g _ _ found.0 image found.1 tells;
            count = found.1.count;
            stops = stops found.0 found.1;
          },
        );
    leaves = λ rs stands carried.
        let left = restarts.stands setup rs stands carried in
        stands_leave g setup _ _ calls due kept rs left.0 left.1;
    cause = record { later = restarts.later; rose = λ is. absurd cc };
    cut = λ other. restarts.cut;
    outlasts = restarts.outlasts;
  }

  -- and none stops where all that stands follows
  pub none_stops : (setup : Setup) (journal : Journal D g) (rs : List Record) (index : ℕ) → IsSoundSetup setup
      → KeepsRecords setup g.honest g.seen g.may_leave (journals.disk_of journal) (journals.place_of journal) rs
      → all_follow setup (reverse rs) ≡ true
      → ((rest : List Record) → ReadsRest g.seen (journals.disk_of journal) (journals.place_of journal) rest
      → StopsAt setup (journals.base_of journal) (journals.carry_before journal) rest index) → ⊥
  none_stops setup journal rs index sound stands follow stops =
      let reads = stands_read g setup (journals.disk_of journal) (journals.place_of journal) rs stands in
      stops_nowhere setup (journals.base_of journal) (journals.carry_before journal) reads.rest rs sound reads.continues index
      follow (stops reads.rest reads.reads)

with_kept : (setup : Setup) (due kept : Option Record) (before : List Record) → all_follow setup before ≡ true
    → IfSome kept (λ r. due ≡ Some r) → IfSome due (λ r. follows setup before r ≡ true)
    → all_follow setup (put_by kept ++ before) ≡ true
with_kept setup due None before follow same fits = follow
with_kept setup due (Some k) before follow same fits =
    and_from _ _ (subst (λ d. IfSome d (λ r. follows setup before r ≡ true)) same fits) follow

turned_back : (rs : List Record) (kept : Option Record) → reverse (rs ++ put_by kept) ≡ put_by kept ++ reverse rs
turned_back rs kept = reverse-append rs (put_by kept) ∙ ap (λ ls. ls ++ reverse rs) (one_turned kept)

pub kept_follow : (setup : Setup) (due kept : Option Record) (rs : List Record)
    → all_follow setup (reverse rs) ≡ true → IfSome kept (λ r. due ≡ Some r)
    → IfSome due (λ r. follows setup (reverse rs) r ≡ true) → all_follow setup (reverse (rs ++ put_by kept)) ≡ true
kept_follow setup due kept rs follow same fits =
    ap (all_follow setup) (turned_back rs kept) ∙ with_kept setup due kept (reverse rs) follow same fits

-- the entries of the power cut

pub restart_told : (setup : Setup) (past : List Entry) (at : Option CrashAt) (due kept : Option Record) (many : ℕ)
    → due ≡ due_in setup past at → KeptBy (calls_in at) due kept
    → many ≡ length (records past) + length (put_by kept) → EntriesOfRestart setup past at (told_by many kept)
restart_told setup past at due None many same by is =
    subst (λ n. EntriesOfRestart setup past at (told_by n None)) (omega (arith, is))
    (restart_bare setup past at (nothing by))
  where
    nothing : (due ≡ None) ⊎ (calls_in at < 4) → (due_in setup past at ≡ None) ⊎ (calls_in at < 4)
    nothing (inl none) = inl (sym same ∙ none)
    nothing (inr early) = inr early
restart_told setup past at due (Some r) many same by is =
    subst (λ n. EntriesOfRestart setup past at (told_by n (Some r))) (omega (arith, is))
    (restart_keeps setup past at r (sym same ∙ by.0) by.1)

told_records : (past : List Entry) (many : ℕ) (kept : Option Record)
    → records (told_by many kept ++ past) ≡ put_by kept ++ records past
told_records past many None = refl
told_records past many (Some r) = refl

-- and the host that starts again represents them
module _ {D : Type 0} {g : Ghosts D} where
  restart_stands : (old new : Host D g) (past : List Entry) (at : Option CrashAt) (kept : Option Record) (many : ℕ)
      → EntriesOfRestart (setup_of old) past at (told_by many kept)
      → ((rest : List Record) → ReadsRest g.seen (disk_of new) (journals.place_of (journal_of new)) rest
      → HasResumed new (journals.base_of (journal_of new)) (journals.carry_before (journal_of new)) rest)
      → KeepsRecords (setup_of new) g.honest g.seen g.may_leave (disk_of new) (journals.place_of (journal_of new))
      (reverse (records past) ++ put_by kept)
      → all_follow (setup_of new) (reverse (reverse (records past) ++ put_by kept)) ≡ true
      → StandsFor new (told_by many kept ++ past)
  restart_stands old new past at kept many told resumes stands follow =
      let rs = reverse (records past) ++ put_by kept in
      let back : reverse rs ≡ put_by kept ++ records past =
      turned_back (reverse (records past)) kept ∙ ap (λ ls. put_by kept ++ ls) (reverse-reverse (records past)) in
      let reads = stands_read g (setup_of new) (disk_of new) (journals.place_of (journal_of new)) rs stands in
      let first = first_follow (setup_of new) _ _ reads.rest rs new.desks.sound reads.continues follow in
      started_stands new (told_by many kept ++ past) (reverse rs)
      (entries_free (setup_of old) past at (told_by many kept) told) (told_records past many kept ∙ sym back)
      (resumed_all new (setup_of new) g.seen (disk_of new) (journals.place_of (journal_of new)) rs refl reads first resumes)
      (λ trusted. subst (KeepsRecords (setup_of new) g.honest g.seen g.may_leave (disk_of new) (journals.place_of (journal_of new)))
      (sym (reverse-reverse rs)) stands)

  -- the carry that a host has is that of its records oldest first
  carry_turned : (old : Host D g) (past : List Entry) → StandsFor old past
      → tallies.carry_in old.tally ≡ carry_of (setup_of old) (reverse (records past))
  carry_turned old past stands =
      stands.keeps.carry_is ∙ ap (carry (setup_of old)) (sym (reverse-reverse (records past)))

  -- and these follow one another, with the one that is due
  suits_turned : (old : Host D g) (past : List Entry) (at : Option CrashAt) → due_of old at ≡ due_in (setup_of old) past at
      → RestartSuits (setup_of old) past at
      → (all_follow (setup_of old) (reverse (reverse (records past))) ≡ true)
      × IfSome (due_of old at) (λ r. follows (setup_of old) (reverse (reverse (records past))) r ≡ true)
  suits_turned old past at due suits =
      let back = reverse-reverse (records past) in (
        ap (all_follow (setup_of old)) back ∙ suits.follow,
        subst (λ d. IfSome d (λ r. follows (setup_of old) (reverse (reverse (records past))) r ≡ true)) (sym due)
            (subst (λ ls. IfSome (due_in (setup_of old) past at) (λ r. follows (setup_of old) ls r ≡ true)) (sym back)
            suits.due),
      )

  tells_by : (old new : Host D g) (at : Option CrashAt) (choice : ℕ) (crashed : Crashed) → setup_of new ≡ setup_of old
      → ((past : List Entry) → all_desks.StandsFor old.desks past → due_of old at ≡ due_in (setup_of old) past at)
      → ((rest : List Record) → ReadsRest g.seen (disk_of new) (journals.place_of (journal_of new)) rest
      → HasResumed new (journals.base_of (journal_of new)) (journals.carry_before (journal_of new)) rest)
      → JournalRestarts (calls_in at) (due_of old at) (tallies.carry_in old.tally) choice (journal_of old) (journal_of new)
      crashed.kept
      → crashed.records ≡ journals.used_of (journal_of old) + length (put_by crashed.kept)
      → TellsRestart old new at crashed
  tells_by old new at choice crashed same due resumes restarts counts past stood suits trusted =
      let rs = reverse (records past) in
      let due_is = due past stood.keeps.desks in
      let left = restarts.stands (setup_of old) rs (stood.on_disk trusted) (carry_turned old past stood) in
      let turned = suits_turned old past at due_is suits in
      let told = restart_told (setup_of old) past at (due_of old at) crashed.kept crashed.records
      due_is left.0 (omega (arith, counts, stood.keeps.used)) in (
        told,
        restart_stands old new past at crashed.kept crashed.records told resumes
            (subst (λ s. KeepsRecords s g.honest g.seen g.may_leave (disk_of new) (journals.place_of (journal_of new))
            (rs ++ put_by crashed.kept)) (sym same) left.1)
            (ap (λ s. all_follow s (reverse (rs ++ put_by crashed.kept))) same
            ∙ kept_follow (setup_of old) (due_of old at) crashed.kept rs turned.0 restarts.kept_is turned.1),
      )

  -- nothing but a call of the disk fails where the past suits a power cut
  never_by : (old : Host D g) (past : List Entry) (at : Option CrashAt) (P : Type 0)
      → ((past : List Entry) → all_desks.StandsFor old.desks past → due_of old at ≡ due_in (setup_of old) past at)
      → ((rs : List Record)
      → KeepsRecords (setup_of old) g.honest g.seen g.may_leave (disk_of old) (journals.place_of (journal_of old)) rs
      → tallies.carry_in old.tally ≡ carry_of (setup_of old) rs
      → all_follow (setup_of old) (reverse rs) ≡ true
      → IfSome (due_of old at) (λ r. follows (setup_of old) (reverse rs) r ≡ true) → P)
      → StandsFor old past → RestartSuits (setup_of old) past at → IsTrusted g.honest g.seen (disk_of old) → P
  never_by old past at P due never stands suits trusted =
      let turned = suits_turned old past at (due past stands.keeps.desks) suits in
      never (reverse (records past)) (stands.on_disk trusted) (carry_turned old past stands) turned.0 turned.1

  -- a restart, by that of its journal
  pub restarts_by : (old new : Host D g) (at : Option CrashAt) (choice : ℕ) (crashed : Crashed)
      → setup_of new ≡ setup_of old
      → ((past : List Entry) → all_desks.StandsFor old.desks past → due_of old at ≡ due_in (setup_of old) past at)
      → JournalRestarts (calls_in at) (due_of old at) (tallies.carry_in old.tally) choice (journal_of old) (journal_of new)
      crashed.kept
      → crashed.records ≡ journals.used_of (journal_of new)
      → ((rest : List Record) → ReadsRest g.seen (disk_of new) (journals.place_of (journal_of new)) rest
      → TalliesOver (setup_of old) (journals.carry_before (journal_of new)) rest (tallies.carry_in new.tally))
      → Resumes new.desks (tallies.carry_in new.tally)
      → Restarts old at choice new crashed
  restarts_by old new at choice crashed same due restarts records over begins =
      let counts = records ∙ restarts.counts in
      let resumes = λ (rest : List Record)
      (reads : ReadsRest g.seen (disk_of new) (journals.place_of (journal_of new)) rest).
      resumed_by new (setup_of old) (journals.base_of (journal_of new)) (journals.carry_before (journal_of new)) rest same
      (over rest reads) begins reads.count in
      record {
        setup = same;
        whole = restarts.whole;
        tells = tells_by old new at choice crashed same due resumes restarts counts;
        found = restarts.found;
        has_whole = λ image tells.
            let read = restarts.found image tells in
            let resumed = resumes read.0 read.1 in
            record {
              base = journals.base_of (journal_of new);
              carry = journals.carry_before (journal_of new);
              rest = read.0;
              has = read_has g _ _ read.0 image read.1 tells;
              count = read.1.count;
              fits = resumed.fits;
              follow = resumed.follow;
            };
        resumes = resumes;
        replays = λ rs reads first.
            resumed_all new (setup_of new) g.seen (disk_of new) (journals.place_of (journal_of new)) rs refl reads first resumes;
        records = records;
        counts = counts;
        kept = restarts.kept_is;
        due = λ past stands. due past stands.keeps.desks;
        cut = restarts.cut;
        outlasts = restarts.outlasts;
        later = restarts.later;
      }

  -- and one that fails
  pub fails_by : (old : Host D g) (new : Journal D g) (at : Option CrashAt) (choice : ℕ) (why : CrashNo)
      → ((past : List Entry) → all_desks.StandsFor old.desks past → due_of old at ≡ due_in (setup_of old) past at)
      → JournalFails (setup_of old) (due_of old at) (tallies.carry_in old.tally) choice (journal_of old) new why
      → ((rs : List Record)
      → KeepsRecords (setup_of old) g.honest g.seen g.may_leave (disk_of old) (journals.place_of (journal_of old)) rs
      → tallies.carry_in old.tally ≡ carry_of (setup_of old) rs
      → all_follow (setup_of old) (reverse rs) ≡ true
      → IfSome (due_of old at) (λ r. follows (setup_of old) (reverse rs) r ≡ true) → why ≡ crash_no.Disk)
      → RestartFails old at choice (journals.disk_of new) why
  fails_by old new at choice why due fails never = record {
    refused = (new, refl, fails.refused);
    never = λ past stands suits trusted. never_by old past at (why ≡ crash_no.Disk) due never stands suits trusted;
    leaves = λ past stands trusted.
        subst
        (λ d. LeavesRecords (setup_of old) g.honest g.seen g.may_leave (journals.disk_of new) d (reverse (records past)))
        (due past stands.keeps.desks)
        (fails.leaves (reverse (records past)) (stands.on_disk trusted) (carry_turned old past stands));
    due = λ past stands. due past stands.keeps.desks;
    cause = fails.cause;
    cut = fails.cut;
    outlasts = fails.outlasts;
  }
