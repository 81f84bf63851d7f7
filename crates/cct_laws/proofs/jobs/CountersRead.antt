-- The accept counters that a job read say how many coins had come, as the lines of its device do. So where a reading has
-- to be made again, a coin came between the two.
use Rattle.std.proofs.Common.{◌≡◌, ◌≢◌, ℕ, ◌<◌, ◌≤◌, ◌==◌, ◌&&◌, not, Bool, true, false, cond, List, [], ◌∷◌, ◌++◌, length, refl, ap, sym, ◌∙◌, subst, Option, Some, None, arith, rules, eq-eqb}
use Rattle.std.specs.Prelude.{⊤}
use Rattle.std.specs.Option.{option_or}
use Rattle.std.proofs.Math.Arith.{lt_of_le-ne}
use Rattle.cct_model.specs.terms.coin.Credits.{Credits}
use Rattle.cct_model.specs.terms.device.DeviceBody.{DeviceBody}
use Rattle.cct_model.specs.terms.device.DeviceBody.TheVariants.{Acceptor, Bill, Hopper}
use Rattle.cct_model.specs.terms.device.DeviceSetup.{DeviceSetup}
use Rattle.cct_model.specs.terms.request.Request.{Request}
use Rattle.cct_model.specs.terms.request.Request.TheVariants.{AcceptCount}
use Rattle.cct_model.specs.lines.record.Record.{Record}
use Rattle.cct_model.specs.lines.command.Command.{Command}
use Rattle.cct_model.specs.lines.command.Command.TheVariants as command
use Rattle.cct_model.specs.lines.entry.End.{End}
use Rattle.cct_model.specs.lines.entry.End.TheVariants.{Moved, NoAnswer, Unquiet}
use Rattle.cct_model.specs.declared.judging.Judged.{Judged}
use Rattle.cct_model.specs.declared.judging.Judged.TheVariants.{Nothing, Reading, Broken}
use Rattle.cct_model.specs.declared.judging.Judged.TheVariants as judged_of
use Rattle.cct_model.specs.declared.judging.EpochState.{EpochState}
use Rattle.cct_model.specs.declared.judging.EpochState.TheVariants.{Running}
use Rattle.cct_model.specs.Acceptor.{counted}
use Rattle.cct_model.specs.Claims.{behind, coins, reading}
use Rattle.cct_model.specs.Device.{IsTaker, reply_of}
use Rattle.cct_model.specs.History.{Met}
use Rattle.cct_model.specs.Job.{accepts_line, accepts_reply, accepts_read, accepts_before, at_credits, credits_line, credits_read, mask_read, judged_by, judged_in, address_of, ident_requests}
use Rattle.cct_model.specs.Line.{Line, accepted, exchange, put, ended}
use Rattle.cct_model.specs.Reading.{judge}
use Rattle.cct_model.specs.Reply.{Reply}
use Rattle.cct_model.specs.Reply as reply
use Rattle.cct_model.specs.Rows.{Then, goes_on, ends_as, if_quiet, if_judged, if_unmoved, path_told, if_posted, if_closed, TableRow, asks_for, asks_once, waits_for_coins, puts_due, rows_of, left, end_bare, end_by_answer, end_answered, end_failed, end_of}
use Rattle.cct_model.proofs.Rows.{EachRow, each_told, each_left, IfEnd, PutEnds, put_end}
use Rattle.cct_model.specs.Transcript.{doses}
use Rattle.cct_laws.specs.Moving.{MovedAt, counting}
use Rattle.cct_laws.specs.Takers.{accepted_of}
use Rattle.cct_laws.proofs.wire.Replies.{start_of, replied_accepts, same_reply}
use Rattle.cct_laws.proofs.acceptor.BesideCoins.{count_from}

-- the accept counter where the coins of these lines were accepted
abbrev pub count_of : ℕ → List Line → ℕ
count_of start lines = count_from start (length (coins lines))

-- how many coins had come when an accept counter was last read, and when it was last read before the credits
abbrev pub counted_now : List Line → ℕ
counted_now lines = length (coins (counting lines))

abbrev pub counted_before : List Line → ℕ
counted_before lines = length (coins (counting (reading lines)))

-- an accept counter that a job read is that of so many
abbrev pub CountsAs : ℕ → Option ℕ → List Line → Type 0
CountsAs start read lines = (n : ℕ) → read ≡ Some n → n ≡ count_of start lines

pub record Counted (start : ℕ) (lines since : List Line) : Type 0 where
  pub now : CountsAs start (accepts_read since) (counting lines)
  pub before : CountsAs start (accepts_before since) (counting (reading lines))

-- a job has read none when it begins
pub counted_none : (start : ℕ) (lines : List Line) → Counted start lines []
counted_none start lines = record { now = λ n is. cc; before = λ n is. cc }

-- other lines that show as many
pub counted_same : (start : ℕ) (lines others since : List Line) → counted_now others ≡ counted_now lines →
    counted_before others ≡ counted_before lines → Counted start lines since → Counted start others since
counted_same start lines others since now before counted = record {
  now = λ n is. counted.now n is ∙ ap (count_from start) (sym now);
  before = λ n is. counted.before n is ∙ ap (count_from start) (sym before);
}

-- a line of the job
now_by : (start : ℕ) (read : Option ℕ) (lines since : List Line) → CountsAs start read lines →
    CountsAs start (accepts_read since) (counting lines) →
    CountsAs start (option_or read (accepts_read since)) (behind read lines (counting lines))
now_by start None lines since here earlier = earlier
now_by start (Some count) lines since here earlier = here

before_by : (start : ℕ) (read : Option Credits) (lines since : List Line) → Counted start lines since →
    CountsAs start (at_credits read (accepts_read since) (accepts_before since))
    (counting (behind read lines (reading lines)))
before_by start None lines since counted = counted.before
before_by start (Some credits) lines since counted = counted.now

pub counted_line : (start : ℕ) (l : Line) (lines since : List Line) → CountsAs start (accepts_line l) lines →
    Counted start lines since → Counted start (l ∷ lines) (l ∷ since)
counted_line start l lines since here counted = record {
  now = now_by start (accepts_line l) lines since here counted.now;
  before = before_by start (credits_line l) lines since counted;
}

-- an answered exchange reads the accept counter of its moment, in which no bill is stacked
undosed_count : (body : DeviceBody) (own : ℕ) (past : List Met) → doses body own past (Some AcceptCount) ≡ []
undosed_count (Acceptor accepts values ids) own past = refl
undosed_count (Hopper life value) own past = refl
undosed_count (Bill accepts values ids) own past = refl

pub read_counts : (d : DeviceSetup) (past : List Met) (lines : List Line) (q : Request) (y : Reply) → IsTaker d.body →
    accepted_of d.body past ≡ length (coins lines) → reply_of d past q ≡ Some y →
    CountsAs (start_of d.body) (accepts_line (exchange (Some q) (Some y))) (doses d.body d.serial past (Some q) ++ lines)
read_counts d past lines AcceptCount y taking told replied = λ n is.
    let start = start_of d.body in
    let count = counted start (accepted_of d.body past) in
    let same : reply.accepts count ≡ y =
    same_reply (reply.accepts count) y (sym (replied_accepts d past taking) ∙ replied) in
    same_count n count (sym is ∙ ap (λ x. accepts_reply (Some x)) (sym same))
    ∙ ap (count_from start) told
    ∙ ap (λ ls. count_from start (length (coins (ls ++ lines)))) (sym (undosed_count d.body d.serial past))
  where
    same_count : (n count : ℕ) → Some n ≡ Some count → n ≡ count
    same_count n count is = cc
read_counts d past lines q y taking told replied = λ n is. cc

-- one without an answer reads none
pub none_read : (start : ℕ) (q : Request) (lines : List Line) → CountsAs start (accepts_line (exchange (Some q) None)) lines
none_read start AcceptCount lines = λ n is. cc
none_read start q lines = λ n is. cc

-- no fewer coins had come at the last reading of an accept counter than at an earlier one
pub coins_more : (l : Line) (lines : List Line) → length (coins lines) ≤ length (coins (l ∷ lines))
coins_more (accepted coin) lines = omega arith
coins_more l lines = omega arith

pub behind_fewer : {A : Type 0} (found : Option A) (past earlier : List Line) →
    length (coins earlier) ≤ length (coins past) → length (coins (behind found past earlier)) ≤ length (coins past)
behind_fewer None past earlier fewer = fewer
behind_fewer (Some read) past earlier fewer = omega arith

counting_fewer : (lines : List Line) → counted_now lines ≤ length (coins lines)
counting_fewer [] = omega arith
counting_fewer (l ∷ lines) =
    let fewer = behind_fewer (accepts_line l) lines (counting lines) (counting_fewer lines) in
    let more = coins_more l lines in
    omega (arith, fewer, more)

first_fewer : (lines : List Line) → counted_before lines ≤ counted_now lines
first_fewer [] = omega arith
first_fewer (l ∷ lines) =
    by_read (credits_line l) (accepts_line l) (first_fewer lines) (counting_fewer lines)
  where
    by_read : (credits : Option Credits) (read : Option ℕ) → counted_before lines ≤ counted_now lines →
        counted_now lines ≤ length (coins lines) →
        length (coins (counting (behind credits lines (reading lines)))) ≤ length (coins (behind read lines (counting lines)))
    by_read None None fewer most = fewer
    by_read None (Some count) fewer most = omega (arith, fewer, most)
    by_read (Some c) None fewer most = omega arith
    by_read (Some c) (Some count) fewer most = most

-- a reading has to be made again only where its accept counters differ
judge_differs : (addr mask counter accepts : ℕ) (c : Credits) (seen before now : ℕ) →
    judge addr mask counter accepts c seen before now ≡ judged_of.Moved → before ≢ now
unfolding judge
judge_differs addr mask counter accepts c seen before now is = λ same.
    by_tests (seen == mask) (before == now) _ _ _ _ (eq-eqb before now same) is
  where
    by_tests : (masked same broke none : Bool) (one other : Record) → same ≡ true →
        cond (masked && not same) judged_of.Moved (cond broke (Broken one) (cond none Nothing (Reading other)))
        ≡ judged_of.Moved → ⊥
    by_tests masked false broke none one other stays is = cc
    by_tests true true true none one other stays is = cc
    by_tests true true false true one other stays is = cc
    by_tests true true false false one other stays is = cc
    by_tests false true true none one other stays is = cc
    by_tests false true false true one other stays is = cc
    by_tests false true false false one other stays is = cc

record Differ (before now : Option ℕ) : Type 0 where
  one : ℕ
  other : ℕ
  is_before : before ≡ Some one
  is_now : now ≡ Some other
  differs : one ≢ other

judged_differs : (addr : ℕ) (state : EpochState) (credits : Option Credits) (seen before now : Option ℕ) →
    judged_by addr state credits seen before now ≡ judged_of.Moved → Differ before now
judged_differs addr (Running mask counter accepts) (Some c) (Some seen) (Some before) (Some now) is = record {
  one = before;
  other = now;
  is_before = refl;
  is_now = refl;
  differs = judge_differs addr mask counter accepts c seen before now is;
}
judged_differs addr state credits seen before now is = absurd cc

-- and then a coin came between them
pub moved_fewer : (start : ℕ) (c : Command) (lines since : List Line) (state : EpochState) → Counted start lines since →
    judged_in c since state ≡ judged_of.Moved → counted_before lines < counted_now lines
moved_fewer start c lines since state counted is =
    let differ =
    judged_differs (address_of c) state (credits_read since) (mask_read since) (accepts_before since) (accepts_read since) is in
    lt_of_le-ne (first_fewer lines) (λ same.
    differ.differs (counted.before differ.one differ.is_before ∙ ap (count_from start) same
    ∙ sym (counted.now differ.other differ.is_now)))

-- an answer ends a job so only where its reading means it
abbrev IsOther : Then → Type 0
IsOther (ends_as Moved) = ⊥
IsOther behind = ⊤

ends_other : (end : End) → IsOther (ends_as end) → Some end ≡ Some Moved → ⊥
ends_other end other is = subst (λ e. IsOther (ends_as e)) (same end Moved is) other
  where
    same : (end found : End) → Some end ≡ Some found → end ≡ found
    same end found is = cc

behind_moved : (behind : Then) (y : Reply) (means : Judged) → IsOther behind →
    end_by_answer behind y means ≡ Some Moved → means ≡ judged_of.Moved
behind_moved goes_on y means other is = cc
behind_moved (ends_as end) y means other is = absurd (ends_other end other is)
behind_moved if_quiet (reply.credits c) means other is = absurd (quiet (c.counter == 0) c.counter is)
  where
    quiet : (none : Bool) (counter : ℕ) → cond none None (Some (Unquiet counter)) ≡ Some Moved → ⊥
    quiet true counter is = cc
    quiet false counter is = cc
behind_moved if_quiet y means other is = cc
behind_moved if_judged y Nothing other is = cc
behind_moved if_judged y judged_of.Moved other is = refl
behind_moved if_judged y (Reading r) other is = cc
behind_moved if_judged y (Broken r) other is = cc
behind_moved if_unmoved y Nothing other is = cc
behind_moved if_unmoved y judged_of.Moved other is = refl
behind_moved if_unmoved y (Reading r) other is = cc
behind_moved if_unmoved y (Broken r) other is = cc
behind_moved (path_told place) (reply.path number) means other is = cc
behind_moved (path_told place) y means other is = cc
behind_moved (if_posted of_reading) y means other is = cc
behind_moved if_closed y means other is = cc

abbrev AnswersOther : TableRow → Type 0
AnswersOther (asks_for q behind) = IsOther behind
AnswersOther (asks_once q behind without) = IsOther behind × IsOther without
AnswersOther r = ⊤

answers_other : (d : DeviceSetup) (c : Command) → EachRow AnswersOther (rows_of d c)
answers_other d (command.Ident addr) =
    each_told AnswersOther (λ q. tt) (λ q. tt) (ident_requests d.body)
answers_other d c = search rules

first_moved : (rows : List TableRow) (y : Reply) (means : Judged) → EachRow AnswersOther rows →
    end_answered rows y means ≡ Some Moved → means ≡ judged_of.Moved
first_moved [] y means others is = cc
first_moved (asks_for q behind ∷ rows) y means others is = behind_moved behind y means others.0 is
first_moved (asks_once q behind without ∷ rows) y means others is = behind_moved behind y means others.0.0 is
first_moved (waits_for_coins ∷ rows) y means others is = cc
first_moved (puts_due due behind ∷ rows) y means others is = cc

-- so an answer that ends it so shows that a coin came
tells_of : (lines : List Line) (end : End) → (end ≡ Moved → counted_before lines < counted_now lines) →
    MovedAt lines (ended end)
tells_of lines Moved holds = holds refl
tells_of lines end holds = tt

pub answer_tells : (start : ℕ) (d : DeviceSetup) (c : Command) (asked : Option Request) (y : Reply) (lines since : List Line)
    (state : EpochState) (end : End) → Counted start lines (exchange asked (Some y) ∷ since) →
    end_of d c (exchange asked (Some y)) since state ≡ Some end → MovedAt lines (ended end)
answer_tells start d c asked y lines since state end counted is =
    let later = exchange asked (Some y) ∷ since in
    tells_of lines end (λ moved. moved_fewer start c lines later state counted
    (first_moved (left d c since state) y (judged_in c later state)
    (each_left AnswersOther d c since state (answers_other d c)) (is ∙ ap Some moved)))

-- and an exchange without an answer ends none so
tries_moved : (third : Bool) → cond third (Some NoAnswer) None ≡ Some Moved → ⊥
tries_moved true is = cc
tries_moved false is = cc

bare_moved : (without : Then) → IsOther without → end_bare without ≡ Some Moved → ⊥
bare_moved (ends_as end) other is = ends_other end other is
bare_moved without other is = cc

first_unmoved : (rows : List TableRow) (failed : ℕ) → EachRow AnswersOther rows →
    end_failed rows failed ≡ Some Moved → ⊥
first_unmoved [] failed others is = tries_moved (failed == 3) is
first_unmoved (asks_for q behind ∷ rows) failed others is = tries_moved (failed == 3) is
first_unmoved (asks_once q behind without ∷ rows) failed others is = bare_moved without others.0.1 is
first_unmoved (waits_for_coins ∷ rows) failed others is = tries_moved (failed == 3) is
first_unmoved (puts_due due behind ∷ rows) failed others is = tries_moved (failed == 3) is

pub failed_tells : (d : DeviceSetup) (c : Command) (q : Request) (lines since : List Line) (state : EpochState)
    (end : End) → end_of d c (exchange (Some q) None) since state ≡ Some end → MovedAt lines (ended end)
failed_tells d c q lines since state end is =
    tells_of lines end (λ moved. absurd (first_unmoved (left d c since state) _
    (each_left AnswersOther d c since state (answers_other d c)) (is ∙ ap Some moved)))

-- nor does a put
puts_other : (d : DeviceSetup) (c : Command) → EachRow (PutEnds (λ end. end ≢ Moved)) (rows_of d c)
puts_other d (command.Ident addr) =
    each_told (PutEnds (λ end. end ≢ Moved)) (λ q. tt) (λ q. tt) (ident_requests d.body)
puts_other d c = search rules

pub put_tells : (d : DeviceSetup) (c : Command) (r : Record) (lines since : List Line) (state : EpochState) (end : End) →
    end_of d c (put r) since state ≡ Some end → MovedAt lines (ended end)
put_tells d c r lines since state end is =
    let other : end ≢ Moved =
    subst (IfEnd (λ x. x ≢ Moved)) is (put_end (λ x. x ≢ Moved) d c r since state (puts_other d c)) in
    tells_of lines end (λ moved. absurd (other moved))
