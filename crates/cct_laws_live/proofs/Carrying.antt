-- A law of all legal transcripts holds of all live ones, if it goes over to what a past shows.
use Rattle.std.proofs.Common.{◌≡◌, ◌≢◌, ◌≤◌, ◌<◌, ℕ, ◌+◌, ◌-◌, true, List, [], ◌∷◌, length, reverse, sym, ◌∙◌, subst, Some}
use Rattle.std.proofs.lemmas.List.{append-nil, reverse-reverse}
use Rattle.cct_model.specs.terms.device.Setup.{Setup}
use Rattle.cct_model.specs.lines.record.Record.{Record}
use Rattle.cct_model.specs.lines.command.Command.TheVariants as command
use Rattle.cct_model.specs.lines.command.CommandNo.TheVariants.{JournalFull}
use Rattle.cct_model.specs.lines.entry.Entry.{Entry}
use Rattle.cct_model.specs.lines.entry.Entry.TheVariants as entry
use Rattle.cct_model.specs.Following.{all_follow, follows, is_allowed}
use Rattle.cct_model.specs.Legal.{LegalFrom, due_at}
use Rattle.cct_model.specs.Money.{paid_in, posted_in, reserved_at_work, reserved_in, sold_in, freed_by, spoken_for, totals}
use Rattle.cct_model.specs.Paid.{AreFresh}
use Rattle.cct_model.specs.Records.{records}
use Rattle.cct_model.specs.Refusal.{held, refusal}
use Rattle.cct_model.specs.Transcript.{onto}
use Rattle.cct_laws.specs.Balanced.{IsBalanced, IsConserved}
use Rattle.cct_laws.specs.Law.{EachEntry}
use Rattle.cct_laws.specs.Scope.{EachTranscript}
use Rattle.cct_laws.proofs.steps.OneMore.{onto_is}
use Rattle.cct_laws.proofs.money.Balances.{legal_balances}
use Rattle.cct_laws.proofs.money.Journal.{legal_follow, legal_covered, legal_conserved, legal_room, legal_put, legal_settle, legal_due_follows, legal_due_allowed}
use Rattle.cct_laws.proofs.orders.Payments.{legal_fresh}
use Rattle.cct_laws_live.specs.Live.{EachLive, shown}
use Rattle.cct_laws_live.proofs.Followed.{alike_shown, followed}
use Rattle.cct_laws_live.proofs.Onward.{due_same, held_same, refusal_same, reserved_same, totals_same}

-- a past is the entries of the transcript that is its reverse
pub whole : (past : List Entry) → onto [] (reverse past) ≡ past
whole past = onto_is [] (reverse past) ∙ append-nil (reverse (reverse past)) ∙ reverse-reverse past

-- a law of all legal transcripts
pub by_law : (P : ℕ → Setup → List Entry → Type 0) →
    EachTranscript (λ capacity setup transcript. P capacity setup (onto [] transcript)) →
    ((capacity : ℕ) (setup : Setup) (past : List Entry) → P capacity setup past → P capacity setup (shown past)) →
    EachLive (λ capacity setup transcript. P capacity setup (onto [] transcript))
by_law P law shows capacity setup steps transcript sound range is =
    let by = followed capacity setup steps (onto [] transcript) range is in
    let holds = law capacity setup by.steps (reverse by.past) sound by.in_range
    (subst (LegalFrom capacity setup [] by.steps) (sym (whole by.past)) by.legal) in
    subst (P capacity setup) by.shows (shows capacity setup by.past (subst (P capacity setup) (whole by.past) holds))

-- a fact of each entry
pub each_shown : (P : List Entry → Entry → Type 0) →
    ((past : List Entry) (e : Entry) → P past e → P (shown past) e) → (past : List Entry) → EachEntry P past →
    EachEntry P (shown past)
each_shown P over [] each = tt
each_shown P over (entry.Fault f ∷ past) each = each_shown P over past each.1
each_shown P over (entry.Forged addr ∷ past) each = each_shown P over past each.1
each_shown P over (e ∷ past) each = (over past e each.0, each_shown P over past each.1)

-- what the records of a past show, and what is due after them
pub recorded : (past : List Entry) → records past ≡ records (shown past)
recorded past = (alike_shown past).recorded

due : (setup : Setup) (past : List Entry) (addr : ℕ) (r : Record) → due_at setup (shown past) addr ≡ Some r →
    due_at setup past addr ≡ Some r
due setup past addr r is = due_same setup past (shown past) addr (alike_shown past) ∙ is

pub live_fresh : EachLive (λ capacity setup transcript. AreFresh (records (onto [] transcript)))
live_fresh =
    by_law (λ capacity setup past. AreFresh (records past))
    (λ capacity setup steps transcript sound range legal. legal_fresh capacity setup steps transcript sound legal)
    (λ capacity setup past fresh. subst AreFresh (recorded past) fresh)

pub live_follow : EachLive (λ capacity setup transcript. all_follow setup (records (onto [] transcript)) ≡ true)
live_follow =
    by_law (λ capacity setup past. all_follow setup (records past) ≡ true) legal_follow
    (λ capacity setup past follow. subst (λ rs. all_follow setup rs ≡ true) (recorded past) follow)

pub live_due_follows : EachLive (λ capacity setup transcript. (addr : ℕ) (r : Record) →
    due_at setup (onto [] transcript) addr ≡ Some r → follows setup (records (onto [] transcript)) r ≡ true)
live_due_follows =
    by_law (λ capacity setup past. (addr : ℕ) (r : Record) → due_at setup past addr ≡ Some r →
    follows setup (records past) r ≡ true)
    (λ capacity setup steps transcript sound range legal addr r.
    legal_due_follows capacity setup steps (onto [] transcript) addr r sound range legal)
    (λ capacity setup past follow addr r is.
    subst (λ rs. follows setup rs r ≡ true) (recorded past) (follow addr r (due setup past addr r is)))

abbrev TakesPut : Setup → List Record → ℕ → Record → Type 0
TakesPut setup before work r =
    (freed_by setup r ≤ work) × (is_allowed setup before (work - freed_by setup r) r ≡ true)

pub live_due_allowed : EachLive (λ capacity setup transcript. (addr : ℕ) (r : Record) →
    due_at setup (onto [] transcript) addr ≡ Some r →
    (freed_by setup r ≤ reserved_at_work setup (onto [] transcript))
    × (is_allowed setup (records (onto [] transcript)) (reserved_at_work setup (onto [] transcript) - freed_by setup r) r ≡ true))
live_due_allowed =
    by_law (λ capacity setup past. (addr : ℕ) (r : Record) → due_at setup past addr ≡ Some r →
    TakesPut setup (records past) (reserved_at_work setup past) r)
    (λ capacity setup steps transcript sound range legal addr r.
    legal_due_allowed capacity setup steps (onto [] transcript) addr r sound range legal)
    (λ capacity setup past takes addr r is.
    subst (λ work. TakesPut setup (records (shown past)) work r) (reserved_same setup past (shown past) (alike_shown past))
    (subst (λ rs. TakesPut setup rs (reserved_at_work setup past) r) (recorded past) (takes addr r (due setup past addr r is))))

pub live_conserved : EachLive (λ capacity setup transcript.
    IsConserved setup (onto [] transcript) (totals setup (onto [] transcript)))
live_conserved =
    by_law (λ capacity setup past. IsConserved setup past (totals setup past)) legal_conserved
    (λ capacity setup past conserved.
    subst (IsConserved setup (shown past)) (totals_same setup past (shown past) (alike_shown past))
    (subst (λ rs. (totals setup past).available + (totals setup past).reserved + (totals setup past).paid + (totals setup past).sold ≡ posted_in setup rs)
    (recorded past) conserved))

balanced_shown : (setup : Setup) (past : List Entry) (e : Entry) → IsBalanced setup past e → IsBalanced setup (shown past) e
balanced_shown setup past (entry.Balance t) is =
    subst (λ rs. t.available + t.reserved + t.paid + t.sold ≡ posted_in setup rs) (recorded past) is
balanced_shown setup past e is = tt

pub live_balances : EachLive (λ capacity setup transcript. EachEntry (IsBalanced setup) (onto [] transcript))
live_balances =
    by_law (λ capacity setup past. EachEntry (IsBalanced setup) past) legal_balances
    (λ capacity setup past each. each_shown (IsBalanced setup) (balanced_shown setup) past each)

abbrev spoken_by : Setup → List Record → ℕ → ℕ
spoken_by setup before work = reserved_in setup before + work + paid_in setup before + sold_in before

pub live_covered : EachLive (λ capacity setup transcript.
    spoken_for setup (onto [] transcript) ≤ posted_in setup (records (onto [] transcript)))
live_covered =
    by_law (λ capacity setup past. spoken_for setup past ≤ posted_in setup (records past)) legal_covered
    (λ capacity setup past covered.
    subst (λ work. spoken_by setup (records (shown past)) work ≤ posted_in setup (records (shown past)))
    (reserved_same setup past (shown past) (alike_shown past))
    (subst (λ rs. spoken_by setup rs (reserved_at_work setup past) ≤ posted_in setup rs) (recorded past) covered))

pub live_room : EachLive (λ capacity setup transcript.
    length (records (onto [] transcript)) + held setup (onto [] transcript) ≤ capacity)
live_room =
    by_law (λ capacity setup past. length (records past) + held setup past ≤ capacity) legal_room
    (λ capacity setup past room.
    subst (λ many. length (records (shown past)) + many ≤ capacity) (held_same setup past (shown past) (alike_shown past))
    (subst (λ rs. length rs + held setup past ≤ capacity) (recorded past) room))

pub live_put : EachLive (λ capacity setup transcript. (addr : ℕ) (r : Record) →
    due_at setup (onto [] transcript) addr ≡ Some r → length (records (onto [] transcript)) < capacity)
live_put =
    by_law (λ capacity setup past. (addr : ℕ) (r : Record) → due_at setup past addr ≡ Some r →
    length (records past) < capacity) legal_put
    (λ capacity setup past room addr r is.
    subst (λ rs. length rs < capacity) (recorded past) (room addr r (due setup past addr r is)))

pub live_settle : EachLive (λ capacity setup transcript. (addr used held need : ℕ) →
    refusal capacity setup (onto [] transcript) (command.Settle addr) ≢ Some (JournalFull used held need))
live_settle =
    by_law (λ capacity setup past. (addr used held need : ℕ) →
    refusal capacity setup past (command.Settle addr) ≢ Some (JournalFull used held need)) legal_settle
    (λ capacity setup past never addr used held need is.
    never addr used held need (refusal_same capacity setup past (shown past) (command.Settle addr) (alike_shown past) ∙ is))
