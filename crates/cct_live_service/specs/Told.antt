-- What a host on a real line reports, and what writing it does to a sink.
use Rattle.std.specs.Prelude.{ℕ, List, [], ◌∷◌, ◌++◌, flat_map, map, Bool, true, false, Option}
use Rattle.std.specs.Prelude.{Some, None, Result, MatchResult, ⊤}
use Rattle.std.specs.Io.KnownBytes.{Appends}
use Rattle.std.specs.Option.{option_to_list}
use Rattle.cct_edge.specs.Bytes.{AppendsFront}
use Rattle.cct_edge.specs.declared.fault.Failed.{Failed}
use Rattle.cct_model.specs.declared.change.Payment.{Payment}
use Rattle.cct_model.specs.lines.command.Command.{Command}
use Rattle.cct_model.specs.lines.command.Command.TheVariants as command
use Rattle.cct_model.specs.lines.command.CommandNo.{CommandNo}
use Rattle.cct_model.specs.lines.command.Step.{Step}
use Rattle.cct_model.specs.lines.entry.Entry.{Entry}
use Rattle.cct_model.specs.lines.entry.Entry.TheVariants as entry_of
use Rattle.cct_model.specs.lines.entry.LineKind.{LineKind}
use Rattle.cct_model.specs.Text.{line_of}
use Rattle.cct_text.specs.Writing.{Puts}
use Rattle.cct_live_service.specs.declared.notice.Notice.{Notice}
use Rattle.cct_live_service.specs.declared.notice.Notice.TheVariants as notice_of
use Rattle.cct_live_service.specs.Notice.{notice_line, unsent_line}
use Rattle.cct_live_survey.specs.declared.finding.Finding.{Finding}
use Rattle.cct_live_survey.specs.declared.withholding.Withheld.{Withheld}
use Rattle.cct_live_survey.specs.Finding.{finding_line}

-- The command of a payment.
abbrev pub pay_of : Payment → Command
pay_of p = command.Pay p.addr p.id p.count

-- What became of a payment that a session of change made: the host took it, or refused it, or
-- wasn't given it.
pub data Answer : Type 0 where
  taken : Answer
  refused_for : (why : CommandNo) → Answer
  withheld_for : (why : Withheld) → Answer

-- An entry of a step, that of an exchange whose message wasn't written, so that nothing was heard,
-- a line of the input that is refused, by its number and kind, a notice, what a device said of
-- itself, or the last line. Of the operator's desk: the entry of a step there that gives the host
-- no payment; the answer to a payment; and that a session ends short, as its payment wasn't taken.
-- And of what the journal knows a line, of all these.
pub data Told : Type 0 where
  entry : (e : Entry) → Told
  unsent : (addr : ℕ) (sent : List ℕ) → Told
  refused : (number : ℕ) (why : LineKind) → Told
  notice : (n : Notice) → Told
  finding : (f : Finding) → Told
  last : (e : Entry) → Told
  operates : (s : Step) (e : Entry) → Told
  pays : (p : Payment) (answer : Answer) → Told
  falls_short : (p : Payment) (paid rest : ℕ) → Told
  knows : (all : List (List ℕ)) (line : List ℕ) → Told

-- The line of an answer to a payment.
abbrev pub answer_line : Payment → Answer → List ℕ
answer_line p taken = line_of (entry_of.Taken (pay_of p))
answer_line p (refused_for why) = line_of (entry_of.No (pay_of p) why)
answer_line p (withheld_for why) = notice_line (notice_of.Withheld (pay_of p) why)

-- The entry of the host among it, if there is one.
abbrev pub answer_news : Payment → Answer → List Entry
answer_news p taken = entry_of.Taken (pay_of p) ∷ []
answer_news p (refused_for why) = entry_of.No (pay_of p) why ∷ []
answer_news p (withheld_for why) = []

-- The line of each.
abbrev pub told_line : Told → List ℕ
told_line (entry e) = line_of e
told_line (unsent addr sent) = unsent_line addr sent
told_line (refused number why) = line_of (entry_of.Line number why)
told_line (notice n) = notice_line n
told_line (finding f) = finding_line f
told_line (last e) = line_of e
told_line (operates s e) = line_of e
told_line (pays p answer) = answer_line p answer
told_line (falls_short p paid rest) = line_of (entry_of.Short paid rest)
told_line (knows all line) = line

-- All lines.
abbrev pub told_text : List Told → List ℕ
told_text told = flat_map told_line told

-- The entries of steps among what is reported, newest first.
abbrev pub news_of : List Told → List Entry
news_of [] = []
news_of (entry e ∷ told) = news_of told ++ e ∷ []
news_of (unsent addr sent ∷ told) = news_of told ++ entry_of.Wire addr sent [] ∷ []
news_of (refused number why ∷ told) = news_of told
news_of (notice n ∷ told) = news_of told
news_of (finding f ∷ told) = news_of told
news_of (last e ∷ told) = news_of told
news_of (operates s e ∷ told) = news_of told
news_of (pays p answer ∷ told) = news_of told ++ answer_news p answer
news_of (falls_short p paid rest ∷ told) = news_of told
news_of (knows all line ∷ told) = news_of told

-- Entries are reported as they are.
abbrev pub as_told : List Entry → List Told
as_told entries = map (λ e. entry e) entries

-- The address and the message of an exchange in which nothing was heard.
abbrev pub unheard : Entry → Option (ℕ × List ℕ)
unheard (entry_of.Wire addr sent []) = Some (addr, sent)
unheard e = None

-- An entry as it is reported where the message of its exchange wasn't written.
abbrev pub told_unsent : Entry → Option (ℕ × List ℕ) → Told
told_unsent e None = entry e
told_unsent e (Some message) = unsent message.0 message.1

-- The entries of an attempt as they are reported. An exchange in which nothing was heard, since its
-- message wasn't written, is reported as unsent.
abbrev pub attempt_told : Bool → List Entry → List Told
attempt_told true entries = as_told entries
attempt_told false [] = []
attempt_told false (e ∷ entries) = told_unsent e (unheard e) ∷ as_told entries

-- Notices are reported.
abbrev pub notices_told : List Notice → List Told
notices_told notices = map (λ n. notice n) notices

-- A notice is reported, if there is one.
abbrev pub maybe_told : Option Notice → List Told
maybe_told n = notices_told (option_to_list n)

-- Some lines of what the journal knows are reported, of all these.
abbrev pub knows_each : List (List ℕ) → List (List ℕ) → List Told
knows_each all lines = map (λ line. knows all line) lines

-- What devices said of themselves is reported.
abbrev pub found_told : List Finding → List Told
found_told findings = map (λ f. finding f) findings

-- What devices said of themselves among what is reported, in its order.
abbrev pub findings_in : List Told → List Finding
findings_in [] = []
findings_in (finding f ∷ told) = f ∷ findings_in told
findings_in (entry e ∷ told) = findings_in told
findings_in (unsent addr sent ∷ told) = findings_in told
findings_in (refused number why ∷ told) = findings_in told
findings_in (notice n ∷ told) = findings_in told
findings_in (last e ∷ told) = findings_in told
findings_in (operates s e ∷ told) = findings_in told
findings_in (pays p answer ∷ told) = findings_in told
findings_in (falls_short p paid rest ∷ told) = findings_in told
findings_in (knows all line ∷ told) = findings_in told

-- These were written to a sink: the line of each was put once, in their order, up to the first
-- whose put failed; and what is known of the bytes grew by their text, or by a front of it where a
-- put failed.
pub record WritesTold {K : Type 0} (written : K → Option (List ℕ))
    (puts : K → List ℕ → Result (Unit {0}) Failed → K → Type 0) (before : K) (told : List Told)
    (result : Result (Unit {0}) Failed) (now : K) : Type 0 where
  pub put : Puts puts before (map told_line told) result now
  pub bytes : MatchResult result (λ _. Appends (written before) (written now) (told_text told))
      (λ _. AppendsFront (written before) (written now) (told_text told))

-- A notice of how a host stands: of a device, of a bill that it holds, of the last id, or of the
-- room of the journal.
abbrev pub IsOfStatus : Notice → Type 0
IsOfStatus (notice_of.Device addr job epoch order) = ⊤
IsOfStatus (notice_of.Held addr place) = ⊤
IsOfStatus (notice_of.Last id) = ⊤
IsOfStatus (notice_of.Room records) = ⊤
IsOfStatus n = ⊥
