-- The last row of a job ends it: whatever ends no job leaves rows after it.
use Rattle.std.proofs.Common.{◌==◌, ◌≡◌, ℕ, zero, suc, ◌<◌, Bool, true, false, cond, List, [], ◌∷◌, length, refl, ap, sym, ◌∙◌, subst, Some, None, ◌⊎◌, inl, inr, arith, rules, true≢false, Option, MatchBool}
use Rattle.std.specs.Prelude.{⊤}
use Rattle.cct_model.specs.terms.device.DeviceSetup.{DeviceSetup}
use Rattle.cct_model.specs.terms.request.Request.{Request}
use Rattle.cct_model.specs.terms.request.Request.TheVariants.{GetPath, GetDefault, RouteBill, Dispense}
use Rattle.cct_model.specs.terms.request.ReplyForm.{ReplyForm}
use Rattle.cct_model.specs.terms.request.ReplyForm.TheVariants as form
use Rattle.cct_model.specs.lines.record.Record.{Record}
use Rattle.cct_model.specs.lines.record.Record.TheVariants as record_of
use Rattle.cct_model.specs.declared.judging.Judged.{Judged}
use Rattle.cct_model.specs.declared.judging.Judged.TheVariants.{Nothing, Moved, Reading, Broken}
use Rattle.cct_model.specs.lines.command.Command.{Command}
use Rattle.cct_model.specs.lines.command.Command.TheVariants as command
use Rattle.cct_model.specs.lines.entry.End.{End}
use Rattle.cct_model.specs.Request.{form_of, header_of}
use Rattle.cct_model.specs.Reply.{Reply}
use Rattle.cct_model.specs.Reply as reply
use Rattle.cct_model.specs.Job.{sends, puts, Noted, ident_requests, address_of, judged_in, noted_in, tries}
use Rattle.cct_model.specs.Rows.{ends_as, path_told, if_posted, if_closed, new_epoch, reading, epoch_end, new_order, order_end, sale, TableRow, asks_for, asks_once, waits_for_coins, puts_due, telling, rows_of, after, from, first, row_at, end_by_answer, end_answered, end_failed, end_kept, end_bare, end_of, done, rest, row, sent_once}
use Rattle.cct_msg.specs.Forms.{form_shown}
use Rattle.cct_laws.proofs.money.RecordsHeld.{IsReading, close_row_closes, same_record}
use Rattle.cct_laws.specs.Ending.{IsEndOf}
use Rattle.cct_laws.specs.Faults.{may_be_refused}
use Rattle.cct_model.proofs.Requests.{is_asked_again}
use Rattle.cct_model.proofs.Rows.{IfEnd, EachRow, each_told, each_after}
use Rattle.cct_model.proofs.Tries.{due_sends, same_request, left_asks}
use Rattle.cct_model.specs.Line.{Line, exchange}
use Rattle.cct_model.specs.declared.judging.EpochState.{EpochState}
use Rattle.cct_model.specs.declared.judging.OpenOrder.{OpenOrder}
use Rattle.cct_model.proofs.RowEnds.{rest_asks, row_once}

-- a row ends its job, whatever answers it in its form, whatever it puts, and without an answer where it asks once
abbrev EndsIt : TableRow → Type 0
EndsIt (asks_for q (ends_as end)) = ⊤
EndsIt (asks_for q (path_told place)) = (wanted : ReplyForm) → form_of q ≡ Some wanted → wanted ≡ form.Path
EndsIt (asks_once q (ends_as end) (ends_as other)) = ⊤
EndsIt (puts_due reading (ends_as end)) = ⊥
EndsIt (puts_due due (ends_as end)) = ⊤
EndsIt (puts_due reading (if_posted (Some end))) = ⊤
EndsIt (puts_due order_end if_closed) = ⊤
EndsIt r = ⊥

abbrev LastEnds : List TableRow → Type 0
LastEnds [] = ⊤
LastEnds (r ∷ []) = EndsIt r
LastEnds (r ∷ s ∷ rows) = LastEnds (s ∷ rows)

told_last : (qs : List Request) → LastEnds (telling qs)
told_last [] = tt
told_last (q ∷ []) = tt
told_last (q ∷ r ∷ []) = tt
told_last (q ∷ r ∷ s ∷ qs) = told_last (r ∷ s ∷ qs)

path_last : (first : Bool) (place : ℕ) (wanted : ReplyForm) →
    form_of (cond first GetDefault (GetPath place)) ≡ Some wanted → wanted ≡ form.Path
unfolding form_of
path_last true place wanted is = cc
path_last false place wanted is = cc

last_ends : (d : DeviceSetup) (c : Command) → LastEnds (rows_of d c)
last_ends d (command.Ident addr) = told_last (ident_requests d.body)
last_ends d (command.Path addr place path) = path_last (place == 0) place
last_ends d c = tt

-- after the rows done are more than one, or the last
few_after : (rows : List TableRow) (n : ℕ) → LastEnds rows → n < length rows →
    (suc n < length rows) ⊎ ((r : TableRow) × EndsIt r × (after rows n ≡ r ∷ []))
few_after [] n ends few = absurd (omega (arith, few))
few_after (r ∷ []) zero ends few = inr (r, ends, refl)
few_after (r ∷ []) (suc n) ends few = absurd (omega (arith, few))
few_after (r ∷ s ∷ rows) zero ends few = inl (omega arith)
few_after (r ∷ s ∷ rows) (suc n) ends few =
    elim (few_after (s ∷ rows) n ends (omega (arith, few))) [
      | inl more ↦ inl (omega (arith, more))
      | inr last ↦ inr last
    ]

-- so what ends no job leaves rows after it, where it would end the job at a last row
few_by : (d : DeviceSetup) (c : Command) (n : ℕ) → n < length (rows_of d c) →
    ((r : TableRow) → EndsIt r → after (rows_of d c) n ≡ r ∷ [] → ⊥) → suc n < length (rows_of d c)
few_by d c n few never =
    elim (few_after (rows_of d c) n (last_ends d c) few) [
      | inl more ↦ more
      | inr last ↦ absurd (never last.0 last.1 last.2)
    ]

-- an answer
path_shown : (wanted : ReplyForm) (place : ℕ) (y : Reply) (means : Judged) → wanted ≡ form.Path →
    form_shown y ≡ Some wanted → end_by_answer (path_told place) y means ≡ None → ⊥
path_shown wanted place (reply.path number) means is shown none = cc
path_shown wanted place y means is shown none = cc

last_answered : (addr : ℕ) (judged means : Judged) (p : Noted) (r : TableRow) (q : Request) (y : Reply)
    (wanted : ReplyForm) → EndsIt r → first addr judged p (r ∷ []) ≡ sends q → form_of q ≡ Some wanted →
    form_shown y ≡ Some wanted → end_answered (r ∷ []) y means ≡ None → ⊥
last_answered addr judged means p (asks_for x (ends_as end)) q y wanted ends is wants shown none = cc
last_answered addr judged means p (asks_for x (path_told place)) q y wanted ends is wants shown none =
    path_shown wanted place y means (ends wanted (ap form_of (same_request x q is) ∙ wants)) shown none
last_answered addr judged means p (asks_once x (ends_as end) (ends_as other)) q y wanted ends is wants shown none = cc
last_answered addr judged means p (puts_due due behind) q y wanted ends is wants shown none =
    due_sends addr judged p due q is
last_answered addr judged means p r q y wanted ends is wants shown none = ends

pub few_answered : (d : DeviceSetup) (c : Command) (n : ℕ) (judged means : Judged) (p : Noted) (q : Request)
    (y : Reply) (wanted : ReplyForm) → first (address_of c) judged p (after (rows_of d c) n) ≡ sends q →
    form_of q ≡ Some wanted → form_shown y ≡ Some wanted → n < length (rows_of d c) →
    end_answered (after (rows_of d c) n) y means ≡ None → suc n < length (rows_of d c)
few_answered d c n judged means p q y wanted is wants shown few none =
    few_by d c n few (λ r ends last.
    last_answered (address_of c) judged means p r q y wanted ends
    (subst (λ rows. first (address_of c) judged p rows ≡ sends q) last is) wants shown
    (subst (λ rows. end_answered rows y means ≡ None) last none))

-- a put
posted_last : (end : End) (e r : Record) → IsReading (Reading e) → e ≡ r →
    end_kept (puts_due reading (if_posted (Some end)) ∷ []) r ≡ None → ⊥
posted_last end (record_of.Reading addr counter lost accepts posted) r reads same none =
    let ended : end_kept (puts_due reading (if_posted (Some end)) ∷ []) (record_of.Reading addr counter lost accepts posted) ≡ None =
    ap (end_kept (puts_due reading (if_posted (Some end)) ∷ [])) same ∙ none in
    cc
posted_last end e r reads same none = reads

broken_last : (end : End) (e r : Record) → IsReading (Broken e) → e ≡ r →
    end_kept (puts_due reading (if_posted (Some end)) ∷ []) r ≡ None → ⊥
broken_last end (record_of.Broken addr seen counter lost accepts posted) r reads same none =
    let ended : end_kept (puts_due reading (if_posted (Some end)) ∷ []) (record_of.Broken addr seen counter lost accepts posted) ≡ None =
    ap (end_kept (puts_due reading (if_posted (Some end)) ∷ [])) same ∙ none in
    cc
broken_last end e r reads same none = reads

reading_last : (addr : ℕ) (judged : Judged) (p : Noted) (end : End) (r : Record) → IsReading judged →
    first addr judged p (from (puts_due reading (if_posted (Some end)) ∷ []) judged) ≡ puts r →
    end_kept (puts_due reading (if_posted (Some end)) ∷ []) r ≡ None → ⊥
reading_last addr Nothing p end r reads is none = cc
reading_last addr Moved p end r reads is none = cc
reading_last addr (Reading e) p end r reads is none = posted_last end e r reads (same_record e r is) none
reading_last addr (Broken e) p end r reads is none = broken_last end e r reads (same_record e r is) none

last_put : (addr : ℕ) (judged : Judged) (p : Noted) (row : TableRow) (r : Record) → IsReading judged → EndsIt row →
    first addr judged p (from (row ∷ []) judged) ≡ puts r → end_kept (row ∷ []) r ≡ None → ⊥
last_put addr judged p (puts_due reading (if_posted (Some end))) r reads ends is none =
    reading_last addr judged p end r reads is none
last_put addr judged p (puts_due order_end if_closed) r reads ends is none =
    (close_row_closes p.owed p.life r is).ends none
last_put addr judged p (puts_due (new_epoch mask) (ends_as end)) r reads ends is none = cc
last_put addr judged p (puts_due epoch_end (ends_as end)) r reads ends is none = cc
last_put addr judged p (puts_due (new_order id count) (ends_as end)) r reads ends is none = cc
last_put addr judged p (puts_due order_end (ends_as end)) r reads ends is none = cc
last_put addr judged p (puts_due (sale id price) (ends_as end)) r reads ends is none = cc
last_put addr judged p (asks_for q behind) r reads ends is none = cc
last_put addr judged p (asks_once q behind without) r reads ends is none = cc
last_put addr judged p row r reads ends is none = ends

pub few_put : (d : DeviceSetup) (c : Command) (n : ℕ) (judged : Judged) (p : Noted) (r : Record) →
    row_at d c n judged p ≡ puts r → IsReading judged → n < length (rows_of d c) →
    end_kept (after (rows_of d c) n) r ≡ None → suc n < length (rows_of d c)
few_put d c n judged p r is reads few none =
    few_by d c n few (λ row ends last.
    last_put (address_of c) judged p row r reads ends
    (subst (λ rows. first (address_of c) judged p (from rows judged) ≡ puts r) last is)
    (subst (λ rows. end_kept rows r ≡ None) last none))

-- what is sent once, without an answer
last_failed : (r : TableRow) (failed : ℕ) → EndsIt r → sent_once (r ∷ []) ≡ true →
    end_failed (r ∷ []) failed ≡ None → ⊥
last_failed (asks_once x (ends_as end) (ends_as other)) failed ends once none = cc
last_failed (asks_for x behind) failed ends once none = true≢false (sym once)
last_failed (puts_due due behind) failed ends once none = true≢false (sym once)
last_failed r failed ends once none = ends

pub few_failed : (d : DeviceSetup) (c : Command) (n failed : ℕ) → sent_once (after (rows_of d c) n) ≡ true →
    n < length (rows_of d c) → end_failed (after (rows_of d c) n) failed ≡ None → suc n < length (rows_of d c)
few_failed d c n failed once few none =
    few_by d c n few (λ r ends last.
    last_failed r failed ends (subst (λ rows. sent_once rows ≡ true) last once)
    (subst (λ rows. end_failed rows failed ≡ None) last none))

-- what may be refused and isn't acknowledged ends no job, or ends it as one that got its answers
abbrev RefusedEnds : Command → TableRow → Type 0
RefusedEnds c (asks_once q behind without) = MatchBool (may_be_refused (Some q)) (IfEnd (IsEndOf c) (end_bare without)) ⊤
RefusedEnds c r = ⊤

refused_rows : (d : DeviceSetup) (c : Command) → EachRow (RefusedEnds c) (rows_of d c)
refused_rows d (command.Ident addr) =
    each_told (RefusedEnds (command.Ident addr)) (λ q. tt) (λ q. tt) (ident_requests d.body)
refused_rows d c = search rules

first_refused : (c : Command) (means : Judged) (p : Noted) (rows : List TableRow) (q : Request) (failed : ℕ) →
    EachRow (RefusedEnds c) rows → sent_once rows ≡ true → may_be_refused (Some q) ≡ true →
    first (address_of c) means p rows ≡ sends q → IfEnd (IsEndOf c) (end_failed rows failed)
first_refused c means p [] q failed each once may is = absurd cc
first_refused c means p (asks_for x behind ∷ rows) q failed each once may is = absurd (true≢false (sym once))
first_refused c means p (asks_once x behind without ∷ rows) q failed each once may is =
    subst (λ b. MatchBool b (IfEnd (IsEndOf c) (end_bare without)) ⊤)
    (ap (λ r. may_be_refused (Some r)) (same_request x q is) ∙ may) each.0
first_refused c means p (waits_for_coins ∷ rows) q failed each once may is = absurd (true≢false (sym once))
first_refused c means p (puts_due due behind ∷ rows) q failed each once may is = absurd (true≢false (sym once))

-- it is asked once
pub refused_once : (q : Request) → may_be_refused (Some q) ≡ true → is_asked_again q ≡ false
refused_once (Dispense serial count) may = refl
refused_once (RouteBill way) may = refl
refused_once q may = absurd cc

pub refused_ends : (d : DeviceSetup) (c : Command) (since : List Line) (state : EpochState) (owed : Option OpenOrder)
    (q : Request) → may_be_refused (Some q) ≡ true → row d c since state owed ≡ sends q →
    IfEnd (IsEndOf c) (end_of d c (exchange (Some q) None) since state)
refused_ends d c since state owed q may is =
    subst (λ rows. IfEnd (IsEndOf c) (end_failed rows (tries (header_of q) (exchange (Some q) None ∷ since))))
    (sym (left_asks d c since state owed q is))
    (first_refused c (judged_in c since state) (noted_in since owed) (rest d c since) q _
    (each_after (RefusedEnds c) (rows_of d c) (done (rows_of d c) since) (refused_rows d c))
    (row_once d c since state owed q is (refused_once q may)) may (rest_asks d c since state owed q is))
