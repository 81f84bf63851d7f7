-- What a failed try brings: no end for want of an answer but at the third of what is asked again.
use Rattle.std.proofs.Common.{◌≡◌, ℕ, suc, ◌==◌, Bool, true, false, cond, List, [], ◌∷◌, ◌⊎◌, inl, inr, refl, sym, ◌∙◌, true≢false, subst, Option, Some, None, rules, eq-eqb}
use Rattle.std.specs.Prelude.{⊤}
use Rattle.cct_model.specs.terms.device.DeviceBody.{DeviceBody}
use Rattle.cct_model.specs.terms.device.DeviceBody.TheVariants.{Acceptor, Bill, Hopper}
use Rattle.cct_model.specs.terms.device.DeviceSetup.{DeviceSetup}
use Rattle.cct_model.specs.terms.request.Request.{Request}
use Rattle.cct_model.specs.terms.request.Request.TheVariants.{SetDefault, SetPath, GetDefault, GetPath, StopNow, GetStatus}
use Rattle.cct_model.specs.declared.judging.Judged.{Judged}
use Rattle.cct_model.specs.declared.judging.Judged.TheVariants.{Nothing, Reading, Broken}
use Rattle.cct_model.specs.declared.judging.EpochState.{EpochState}
use Rattle.cct_model.specs.declared.judging.OpenOrder.{OpenOrder}
use Rattle.cct_model.specs.lines.command.Command.{Command}
use Rattle.cct_model.specs.lines.command.Command.TheVariants as command
use Rattle.cct_model.specs.lines.entry.End.{End}
use Rattle.cct_model.specs.lines.entry.End.TheVariants.{NoAnswer}
use Rattle.cct_model.specs.Request.{header_of}
use Rattle.cct_model.specs.Line.{Line, exchange}
use Rattle.cct_model.specs.Job.{sends, Noted, noted_in, judged_in, address_of, credits_request, ident_requests, state_row, end_of_tries, tries}
use Rattle.cct_model.specs.Rows.{Due, reading, TableRow, asks_for, asks_once, waits_for_coins, puts_due, telling, rows_of, from, done, rest, left, first, due_row, row, sent_once, end_failed}
use Rattle.cct_model.proofs.Requests.{is_asked_again, IsAgain, Each}
use Rattle.cct_model.proofs.Rows.{IfEnd, RowHolds, EachRow, fact_after, EachBefore, before_on, told_fact, told_each, AnswerEnds, PutEnds, Behind, each_left, each_told, due_holds, any_due, behind_bare}

-- an end but that for want of an answer
abbrev pub IsHeardEnd : End → Type 0
IsHeardEnd NoAnswer = ⊥
IsHeardEnd end = ⊤

abbrev pub IfHeard : Option End → Type 0
IfHeard found = IfEnd IsHeardEnd found

-- one more failed try of a row
pub tried : (q : Request) (since : List Line)
    → tries (header_of q) (exchange (Some q) None ∷ since) ≡ suc (tries (header_of q) since)
tried q since = rw (eq-eqb (header_of q) (header_of q) refl) refl

pub ident_again : (body : DeviceBody) → Each IsAgain (ident_requests body)
ident_again (Acceptor accepts values ids) = search rules
ident_again (Hopper life value) = search rules
ident_again (Bill accepts values ids) = search rules

pub credits_again : (body : DeviceBody) → IsAgain (credits_request body)
credits_again (Acceptor accepts values ids) = refl
credits_again (Hopper life value) = refl
credits_again (Bill accepts values ids) = refl

pub path_set_again : (first : Bool) (place path : ℕ) → IsAgain (cond first (SetDefault path) (SetPath place path))
path_set_again true place path = refl
path_set_again false place path = refl

pub path_read_again : (first : Bool) (place : ℕ) → IsAgain (cond first GetDefault (GetPath place))
path_read_again true place = refl
path_read_again false place = refl

-- none of them is for want of an answer
pub answers_heard : (d : DeviceSetup) (c : Command) → EachRow (AnswerEnds IsHeardEnd) (rows_of d c)
answers_heard d (command.Ident addr) = each_told (AnswerEnds IsHeardEnd) (λ q. tt) (λ q. tt) (ident_requests d.body)
answers_heard d c = search rules

pub puts_heard : (d : DeviceSetup) (c : Command) → EachRow (PutEnds IsHeardEnd) (rows_of d c)
puts_heard d (command.Ident addr) = each_told (PutEnds IsHeardEnd) (λ q. tt) (λ q. tt) (ident_requests d.body)
puts_heard d c = search rules

-- what the table asks until it is answered is asked again; of what it asks once no third failed try is counted
abbrev pub AsksWell : TableRow → Type 0
AsksWell (asks_for q behind) = IsAgain q
AsksWell (asks_once q behind without) = (is_asked_again q ≡ false) × Behind IsHeardEnd without
AsksWell r = ⊤

pub told_well : (qs : List Request) → Each IsAgain qs → EachRow AsksWell (telling qs)
told_well = told_each IsAgain AsksWell (λ q behind again. again)

pub asks_well : (d : DeviceSetup) (c : Command) → EachRow AsksWell (rows_of d c)
asks_well d (command.Ident addr) = told_well (ident_requests d.body) (ident_again d.body)
asks_well d (command.Path addr place path) =
    (path_set_again (place == 0) place path, (path_read_again (place == 0) place, tt))
asks_well d (command.Start addr mask) = (refl, (credits_again d.body, (refl, (tt, ((refl, tt), tt)))))
asks_well d (command.Round addr) = (refl, (credits_again d.body, (refl, (refl, (tt, tt)))))
asks_well d (command.Stop addr) = (refl, (refl, (credits_again d.body, (refl, (refl, (tt, (tt, tt)))))))
asks_well d c = search rules

pub same_request : (q r : Request) → sends q ≡ sends r → q ≡ r
same_request q r e = cc

-- what a failed try brings to the row that asked
abbrev pub FailsAs : List TableRow → Request → Type 0
FailsAs rows q =
    ((is_asked_again q ≡ true) × (sent_once rows ≡ false))
    ⊎ ((is_asked_again q ≡ false) × (sent_once rows ≡ true) × ((failed : ℕ) → IfHeard (end_failed rows failed)))

-- what isn't sent once fails by its tries
pub asked_fails : (rows : List TableRow) (failed : ℕ) → sent_once rows ≡ false →
    end_failed rows failed ≡ end_of_tries failed
asked_fails [] failed again = refl
asked_fails (asks_for q behind ∷ rows) failed again = refl
asked_fails (asks_once q behind without ∷ rows) failed again = absurd (true≢false again)
asked_fails (waits_for_coins ∷ rows) failed again = refl
asked_fails (puts_due due behind ∷ rows) failed again = refl

pub state_again : (marked : Bool) (q : Request) → state_row marked ≡ sends q → IsAgain q
state_again true q is = subst IsAgain (same_request StopNow q is) refl
state_again false q is = subst IsAgain (same_request GetStatus q is) refl

pub due_sends : (addr : ℕ) (means : Judged) (p : Noted) (due : Due) (q : Request) → due_row addr means p due ≡ sends q → ⊥
due_sends addr means p due q is =
    subst (RowHolds (λ x. ⊥) (λ r. ⊤)) is (due_holds (λ x. ⊥) (λ r. ⊤) addr means p due (any_due addr means p due))

pub fails_first : (addr : ℕ) (means : Judged) (p : Noted) (rows : List TableRow) (q : Request) → EachRow AsksWell rows →
    first addr means p rows ≡ sends q → FailsAs rows q
fails_first addr means p [] q each is = absurd cc
fails_first addr means p (asks_for x behind ∷ rows) q each is =
    inl (subst IsAgain (same_request x q is) each.0, refl)
fails_first addr means p (asks_once x behind without ∷ rows) q each is =
    inr (
      subst (λ y. is_asked_again y ≡ false) (same_request x q is) each.0.0,
      refl,
      λ failed. behind_bare IsHeardEnd without each.0.1,
    )
fails_first addr means p (waits_for_coins ∷ rows) q each is = inl (state_again p.is_marked q is, refl)
fails_first addr means p (puts_due due behind ∷ rows) q each is = absurd (due_sends addr means p due q is)

pub fails_as : (d : DeviceSetup) (c : Command) (since : List Line) (state : EpochState) (owed : Option OpenOrder)
    (q : Request) → row d c since state owed ≡ sends q → FailsAs (left d c since state) q
fails_as d c since state owed q is =
    fails_first (address_of c) (judged_in c since state) (noted_in since owed) (left d c since state) q
    (each_left AsksWell d c since state (asks_well d c)) is

-- a row that asks is the first that isn't done: none stands right after one that puts a reading
abbrev pub asks_first : List TableRow → Bool
asks_first (asks_for q behind ∷ rows) = true
asks_first (asks_once q behind without ∷ rows) = true
asks_first (waits_for_coins ∷ rows) = true
asks_first rows = false

abbrev pub ReadsLast : TableRow → List TableRow → Type 0
ReadsLast (puts_due reading behind) rows = asks_first rows ≡ false
ReadsLast r rows = ⊤

abbrev pub ReadsWell : List TableRow → Type 0
ReadsWell rows = EachBefore ReadsLast rows

reads_well : (d : DeviceSetup) (c : Command) → ReadsWell (rows_of d c)
reads_well d (command.Ident addr) = told_fact ReadsWell tt (λ q behind rows each. (tt, each)) (ident_requests d.body)
reads_well d c = search rules

sends_asks : (addr : ℕ) (means : Judged) (p : Noted) (rows : List TableRow) (q : Request) →
    first addr means p rows ≡ sends q → asks_first rows ≡ true
sends_asks addr means p [] q is = absurd cc
sends_asks addr means p (asks_for x behind ∷ rows) q is = refl
sends_asks addr means p (asks_once x behind without ∷ rows) q is = refl
sends_asks addr means p (waits_for_coins ∷ rows) q is = refl
sends_asks addr means p (puts_due due behind ∷ rows) q is = absurd (due_sends addr means p due q is)

from_asks : (rows : List TableRow) (means : Judged) → ReadsWell rows → asks_first (from rows means) ≡ true →
    from rows means ≡ rows
from_asks (puts_due reading behind ∷ rows) Nothing each asks = absurd (true≢false (sym asks ∙ each.0))
from_asks (puts_due reading behind ∷ rows) (Reading r) each asks = refl
from_asks (puts_due reading behind ∷ rows) (Broken r) each asks = refl
from_asks (puts_due due behind ∷ rows) means each asks = refl
from_asks (asks_for q behind ∷ rows) means each asks = refl
from_asks (asks_once q behind without ∷ rows) means each asks = refl
from_asks (waits_for_coins ∷ rows) means each asks = refl
from_asks [] means each asks = refl

pub left_asks : (d : DeviceSetup) (c : Command) (since : List Line) (state : EpochState) (owed : Option OpenOrder)
    (q : Request) → row d c since state owed ≡ sends q → left d c since state ≡ rest d c since
left_asks d c since state owed q is =
    from_asks (rest d c since) (judged_in c since state)
    (fact_after ReadsWell (before_on ReadsLast) (rows_of d c) (done (rows_of d c) since) (reads_well d c))
    (sends_asks (address_of c) (judged_in c since state) (noted_in since owed) (left d c since state) q is)
