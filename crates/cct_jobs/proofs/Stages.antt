-- The stages of a job at a device: what an exchange makes of them.
use Rattle.std.proofs.Common.{◌≡◌, ℕ, suc, ◌<◌, ◌==◌, Bool, true, false, cond, List, ◌∷◌, length, refl, sym, ap, subst, ◌∙◌, Option, Some, None, arith, eq-eqb}
use Rattle.std.specs.Prelude.{slice_get}
use Rattle.std.proofs.lemmas.Bool.{eqb-true}
use Rattle.std.proofs.lemmas.Bool.Decides.{nat_tests}
use Rattle.cct_model.specs.terms.device.DeviceSetup.{DeviceSetup}
use Rattle.cct_model.specs.terms.coin.Credits.{Credits}
use Rattle.cct_model.specs.terms.family.Family.{Family}
use Rattle.cct_model.specs.terms.family.Family.TheVariants as family
use Rattle.cct_model.specs.terms.request.Request.{Request}
use Rattle.cct_model.specs.declared.judging.EpochState.{EpochState}
use Rattle.cct_model.specs.declared.judging.OpenOrder.{OpenOrder}
use Rattle.cct_model.specs.declared.judging.Judged.{Judged}
use Rattle.cct_model.specs.lines.command.Command.{Command}
use Rattle.cct_model.specs.lines.entry.End.TheVariants.{NoAnswer, Told}
use Rattle.cct_model.specs.Request.{header_of}
use Rattle.cct_model.specs.Reply.{Reply}
use Rattle.cct_model.specs.Reply as reply
use Rattle.cct_model.specs.Line.{Line, exchange}
use Rattle.cct_model.specs.Job.{sends, accepts_before, accepts_read, address_of, credits_read, credits_request, noted_in, judged_in, end_of_tries, tries}
use Rattle.cct_model.specs.Rows.{after, end_answered, end_failed, first, from, left, rest, row, telling, sent_once}
use Rattle.cct_msg.specs.Forms.{FitsItsBytes}
use Rattle.cct_jobs.specs.declared.job.Job.{Job}
use Rattle.cct_jobs.specs.declared.job.Job.TheVariants.{Asks}
use Rattle.cct_jobs.specs.declared.stage.Stage.{Stage}
use Rattle.cct_jobs.specs.declared.stage.Stage.TheVariants.{IdentAsks}
use Rattle.cct_jobs.specs.declared.stage.ReadBy.{ReadBy}
use Rattle.cct_jobs.specs.declared.stage.ReadBy.TheVariants.{Round, Stop}
use Rattle.cct_jobs.specs.declared.target.Target.{Target}
use Rattle.cct_jobs.specs.Ahead.{body_of, place_of, questions_of, stage_ahead, reading_ahead}
use Rattle.cct_jobs.specs.Jobs.{Asking, Knows, Stands, Suits, Trying, after_failed, newest_end, noted_credits, question_after, request_of}
use Rattle.cct_jobs.proofs.Moves.{exchange_moves, exchange_stays}
use Rattle.cct_jobs.proofs.StageFacts.{IsSettled, of_stage}
use Rattle.cct_jobs.proofs.Questions.{next_question, last_question, placed, question_within}
use Rattle.cct_model.proofs.Tries.{asked_fails, tried}
use Rattle.cct_model.proofs.RowEnds.{unanswered_ends}
use Rattle.cct_model.proofs.Rows.{after_next, but_first, told_end}

-- failed tries

test_none : (b : Bool) (n : ℕ) → cond b None (Some n) ≡ None → b ≡ true
test_none true n e = refl
test_none false n e = absurd cc

test_some : (b : Bool) (n m : ℕ) → cond b None (Some n) ≡ Some m → (b ≡ false) × (n ≡ m)
test_some true n m e = absurd cc
test_some false n m e = (refl, cc)

-- one more failed try, and that it isn't the third, or is
pub one_more_try : (failed n : ℕ) → after_failed failed ≡ Some n → failed < 3 → (n ≡ suc failed) × (n < 3)
one_more_try failed n more few =
    let parts = test_some (suc failed == 3) (suc failed) n more in
    let fewer : suc failed < 3 = grind (arith, nat_tests, parts.0) in
    (sym parts.1, subst (λ k. k < 3) parts.1 fewer)

pub third_try : (failed : ℕ) → after_failed failed ≡ None → suc failed ≡ 3
third_try failed last = eqb-true _ _ (test_none (suc failed == 3) (suc failed) last)

tries_now : (q : Request) (failed n : ℕ) (since : List Line) → Trying q failed since → n ≡ suc failed
    → n ≡ tries (header_of q) (exchange (Some q) None ∷ since)
tries_now q failed n since at is = is ∙ ap suc at.counted ∙ sym (tried q since)

module _ {d : DeviceSetup} {device : Target} {stage : Stage} {failed : ℕ} {c : Command} {since : List Line}
    {state : EpochState} {owed : Option OpenOrder} (at : Asking d device stage failed c since state owed) where
  -- the rows that are left beside its epoch
  left_is : left d c since state ≡ from (stage_ahead device stage) (judged_in c since state)
  left_is = ap (λ rows. from rows (judged_in c since state)) at.ahead_is

  -- what a stage sends
  pub stage_row : row d c since state owed ≡ sends (request_of device.family stage)
  stage_row =
      ap (first (address_of c) (judged_in c since state) (noted_in since owed)) left_is
      ∙ (of_stage stage device).sent (address_of c) (judged_in c since state) since state owed at.knows at.suits

  pub stage_fits : FitsItsBytes (request_of device.family stage)
  stage_fits = (of_stage stage device).fits at.suits

  -- the end that a failed try brings
  pub failed_end : sent_once (stage_ahead device stage) ≡ false
      → newest_end d c (exchange (Some (request_of device.family stage)) None ∷ since) state ≡ end_of_tries
      (tries (header_of (request_of device.family stage)) (exchange (Some (request_of device.family stage)) None ∷ since))
  failed_end again =
      ap (λ rows. end_failed rows (tries (header_of (request_of device.family stage)) (exchange (Some (request_of device.family stage)) None ∷ since)))
      (left_is ∙ (of_stage stage device).stays (judged_in c since state))
      ∙ asked_fails (stage_ahead device stage) _ again

  -- it is tried again
  pub stage_again : (n : ℕ) → sent_once (stage_ahead device stage) ≡ false → after_failed failed ≡ Some n
      → Asking d device stage n c (exchange (Some (request_of device.family stage)) None ∷ since) state owed
  stage_again n again more =
      let count = one_more_try failed n more at.trying.few in
      let now = tries_now (request_of device.family stage) failed n since at.trying count.0 in
      let not_third : (n == 3) ≡ false = grind (arith, nat_tests, count.1) in
      record {
        device_is = at.device_is;
        is_here = at.is_here;
        ahead_is = exchange_stays d c since (request_of device.family stage) None _ at.ahead_is (unanswered_ends (stage_ahead device stage) ∙ again);
        suits = at.suits;
        knows = (of_stage stage device).knows since state owed at.knows;
        trying = record { counted = now; few = count.1 };
        goes_on = failed_end again ∙ ap end_of_tries (sym now) ∙ ap (λ b. cond b (Some NoAnswer) None) not_third;
      }

  -- or ends the job after the third failed try
  pub stage_no_answer : sent_once (stage_ahead device stage) ≡ false → after_failed failed ≡ None
      → newest_end d c (exchange (Some (request_of device.family stage)) None ∷ since) state ≡ Some NoAnswer
  stage_no_answer again last =
      failed_end again
      ∙ ap end_of_tries (sym (tries_now (request_of device.family stage) failed 3 since at.trying (sym (third_try failed last))))

  -- the rows that are left then
  pub answered_rest : IsSettled stage → (y : Reply)
      → rest d c (exchange (Some (request_of device.family stage)) (Some y) ∷ since) ≡ but_first (stage_ahead device stage)
  answered_rest settled y =
      exchange_moves d c since (request_of device.family stage) (Some y) _ at.ahead_is ((of_stage stage device).ends y settled at.suits)

  -- the end that an answer brings, by the rows that are left and what was read
  pub end_after : (q : Request) (y : Reply) → newest_end d c (exchange (Some q) (Some y) ∷ since) state ≡ end_answered
      (from (stage_ahead device stage) (judged_in c since state)) y (judged_in c (exchange (Some q) (Some y) ∷ since) state)
  end_after q y = ap (λ rows. end_answered rows y (judged_in c (exchange (Some q) (Some y) ∷ since) state)) left_is

  -- a line leads on to the next stage, which no try has failed yet
  pub line_on : (next : Stage) (line : Line) → rest d c (line ∷ since) ≡ stage_ahead device next → Suits next device
      → Knows next (line ∷ since) state owed → 0 ≡ tries (header_of (request_of device.family next)) (line ∷ since)
      → newest_end d c (line ∷ since) state ≡ None → Asking d device next 0 c (line ∷ since) state owed
  line_on next line rows suits knows fresh on = record {
    device_is = at.device_is;
    is_here = at.is_here;
    ahead_is = rows;
    suits = suits;
    knows = knows;
    trying = record { counted = fresh; few = omega arith };
    goes_on = on;
  }

  -- and so does an answer
  pub stage_on : (job : Job) (next : Stage) → job ≡ Asks device next 0 → IsSettled stage → (y : Reply)
      → but_first (stage_ahead device stage) ≡ stage_ahead device next → Suits next device
      → Knows next (exchange (Some (request_of device.family stage)) (Some y) ∷ since) state owed
      → end_answered (from (stage_ahead device stage) (judged_in c since state)) y
      (judged_in c (exchange (Some (request_of device.family stage)) (Some y) ∷ since) state) ≡ None
      → Stands d job c (exchange (Some (request_of device.family stage)) (Some y) ∷ since) state owed
  stage_on job next begun settled y rows suits knows on =
      subst (λ j. Stands d j c (exchange (Some (request_of device.family stage)) (Some y) ∷ since) state owed) (sym begun)
      (line_on next _ (answered_rest settled y ∙ rows) suits knows refl (end_after (request_of device.family stage) y ∙ on))

-- what a round or a stop reads first, then and after that ends it never, and leads it on to its next row

pub count_on : (read_by : ReadBy) (device : Target) (y : Reply) (meant means : Judged)
    → end_answered (from (reading_ahead device read_by) meant) y means ≡ None
count_on Round device y meant means = refl
count_on Stop device y meant means = refl

pub read_on : (read_by : ReadBy) (device : Target) (y : Reply) (meant means : Judged)
    → end_answered (from (after (reading_ahead device read_by) 1) meant) y means ≡ None
read_on Round device y meant means = refl
read_on Stop device y meant means = refl

pub look_on : (read_by : ReadBy) (device : Target) (y : Reply) (meant means : Judged)
    → end_answered (from (after (reading_ahead device read_by) 2) meant) y means ≡ None
look_on Round device y meant means = refl
look_on Stop device y meant means = refl

pub read_next : (read_by : ReadBy) (device : Target) → but_first (reading_ahead device read_by) ≡ after (reading_ahead device read_by) 1
read_next Round device = refl
read_next Stop device = refl

pub look_next : (read_by : ReadBy) (device : Target)
    → but_first (after (reading_ahead device read_by) 1) ≡ after (reading_ahead device read_by) 2
look_next Round device = refl
look_next Stop device = refl

pub count_next : (read_by : ReadBy) (device : Target)
    → but_first (after (reading_ahead device read_by) 2) ≡ after (reading_ahead device read_by) 3
count_next Round device = refl
count_next Stop device = refl

-- the credits that were read, as they are judged
pub credits_noted : (which : Family) (c : Credits) (since : List Line)
    → credits_read (exchange (Some (credits_request (body_of which))) (Some (reply.credits c)) ∷ since) ≡ Some (noted_credits which c)
credits_noted family.Acceptor c since = refl
credits_noted family.Hopper c since = refl
credits_noted family.Bill c since = refl

-- and the accept counter before them
pub before_noted : (which : Family) (c : Credits) (since : List Line)
    → accepts_before (exchange (Some (credits_request (body_of which))) (Some (reply.credits c)) ∷ since) ≡ accepts_read since
before_noted family.Acceptor c since = refl
before_noted family.Hopper c since = refl
before_noted family.Bill c since = refl

-- the questions of an identification

module _ {d : DeviceSetup} {device : Target} {question : Request} {failed : ℕ} {c : Command} {since : List Line}
    {state : EpochState} {owed : Option OpenOrder} (at : Asking d device (IdentAsks question) failed c since state owed)
  where
    next_is : slice_get (questions_of device) (suc (place_of question (questions_of device))) ≡ question_after
        device.family question
    next_is = next_question device.family (place_of question (questions_of device)) question at.suits

    pub ident_on : (next : Request) (y : Reply) → question_after device.family question ≡ Some next
        → Asking d device (IdentAsks next) 0 c (exchange (Some question) (Some y) ∷ since) state owed
    ident_on next y e =
        let n = place_of question (questions_of device) in
        let more : slice_get (questions_of device) (suc n) ≡ Some next = next_is ∙ e in
        let place : place_of next (questions_of device) ≡ suc n = placed device.family (suc n) next more in
        line_on at (IdentAsks next) (exchange (Some question) (Some y))
        (answered_rest at tt y
        ∙ sym (after_next (telling (questions_of device)) n)
        ∙ ap (after (telling (questions_of device))) (sym place))
        (ap (slice_get (questions_of device)) place ∙ more) tt refl
        (end_after at question y
        ∙ told_end (questions_of device) n _ y _ question at.suits
        ∙ ap (λ b. cond b (Some Told) None) (question_within (questions_of device) (suc n) next more))

    pub ident_told : (y : Reply) → question_after device.family question ≡ None
        → newest_end d c (exchange (Some question) (Some y) ∷ since) state ≡ Some Told
    ident_told y e =
        let n = place_of question (questions_of device) in
        let all : length (questions_of device) ≡ suc n =
        last_question (questions_of device) n question at.suits (next_is ∙ e) in
        end_after at question y ∙ told_end (questions_of device) n _ y _ question at.suits
        ∙ ap (λ b. cond b (Some Told) None) (eq-eqb _ _ all)

-- the line of an answer, by the stage and the reply
pub as_answered : (d : DeviceSetup) (job : Job) (c : Command) (since : List Line) (state : EpochState)
    (owed : Option OpenOrder) (p q : Request) (x y : Reply) → p ≡ q → x ≡ y → Stands d job c (exchange (Some q) (Some y) ∷ since) state owed
    → Stands d job c (exchange (Some p) (Some x) ∷ since) state owed
as_answered d job c since state owed p q x y asked shown at =
    subst (λ r. Stands d job c (exchange (Some r) (Some x) ∷ since) state owed) (sym asked)
    (subst (λ r. Stands d job c (exchange (Some q) (Some r) ∷ since) state owed) (sym shown) at)
