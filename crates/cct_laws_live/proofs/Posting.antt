-- What is posted was heard, whatever the wire does: a job puts what it judged of the lines that it read, and these are among
-- those of its address.
use Rattle.std.proofs.Common.{◌≡◌, ℕ, ◌-◌, ◌==◌, ◌&&◌, ◌||◌, not, cond, true, false, Bool, List, [], ◌∷◌, ◌++◌, length, refl, ap, sym, ◌∙◌, subst, Option, Some, None, ◌⊎◌, inl, inr, eqb-true}
use Rattle.std.specs.Prelude.{⊤}
use Rattle.std.specs.Option.{option_or}
use Rattle.cct_model.specs.terms.coin.Coin.{Coin}
use Rattle.cct_model.specs.terms.coin.Credits.{Credits}
use Rattle.cct_model.specs.terms.device.DeviceBody.{DeviceBody}
use Rattle.cct_model.specs.terms.device.DeviceSetup.{DeviceSetup}
use Rattle.cct_model.specs.terms.device.Setup.{Setup}
use Rattle.cct_model.specs.terms.request.Request.TheVariants.{AcceptCount}
use Rattle.cct_model.specs.declared.judging.Judged.TheVariants.{Nothing, Moved, Reading, Broken}
use Rattle.cct_model.specs.declared.judging.EpochState.{EpochState}
use Rattle.cct_model.specs.declared.judging.EpochState.TheVariants.{Idle, Running}
use Rattle.cct_model.specs.declared.judging.OpenOrder.{OpenOrder}
use Rattle.cct_model.specs.lines.record.Record.{Record}
use Rattle.cct_model.specs.lines.record.Record.TheVariants as record_of
use Rattle.cct_model.specs.lines.command.Command.{Command}
use Rattle.cct_model.specs.lines.command.Command.TheVariants as command
use Rattle.cct_model.specs.lines.command.Step.{Step}
use Rattle.cct_model.specs.lines.entry.End.{End}
use Rattle.cct_model.specs.lines.entry.Entry.{Entry}
use Rattle.cct_model.specs.lines.entry.Entry.TheVariants as entry
use Rattle.cct_model.specs.Setup.{IsSoundSetup}
use Rattle.cct_model.specs.Reply as reply
use Rattle.cct_model.specs.Line.{Line, exchange, scanned, put, taken, ended, restarted}
use Rattle.cct_model.specs.Legal.{Legal}
use Rattle.cct_model.specs.Order.{order, close}
use Rattle.cct_model.specs.Reading.{distance, posted_of, shows_break, shows_move, accepted_between, judge}
use Rattle.cct_model.specs.Job.{Job, free, works, job, with_line, epoch, puts, address_of, judged_by, judged_in, noted_in, credits_read, mask_read, accepts_line, accepts_read, accepts_before}
use Rattle.cct_model.specs.Rows.{Due, new_epoch, reading, epoch_end, new_order, order_end, sale, row, rows_of, done}
use Rattle.cct_model.specs.Transcript.{met, lines_of, onto, pending, heard_by_devices, heard_after, got_by, doses_of}
use Rattle.cct_model.proofs.Doses.{job_undosed}
use Rattle.cct_model.proofs.Rows.{RowHolds, JudgedHolds, DueHolds, is_at_device, device_puts, each_put}
use Rattle.cct_laws.specs.Ids.{Ids}
use Rattle.cct_laws.specs.Law.{IsOf, EachEntry}
use Rattle.cct_laws.proofs.orders.Closes.{closes_so}
use Rattle.cct_laws.proofs.jobs.StepBrings.{AtWork, AtDevice, came, took, halted, idled, made_exchange, made_put, Brought, wire_of, wire_end, record_end, row_after, begun_at_work}
use Rattle.cct_laws.proofs.jobs.SeenAtOne.{Lost, bare, kept_here, kept_elsewhere, seen_here, seen_aside, seen_lost, seen_from, along, passed_job, loose, loose_line, lines_wire, lines_with_end, lines_put, lines_taken, lines_kept, lines_kept_elsewhere}
use Rattle.cct_laws.proofs.jobs.EntriesOfStep.{any_steps}
use Rattle.cct_model.specs.Exchange.{ask, asked, asks_of}
use Rattle.cct_laws.specs.DeviceJobs.{with_ended, suits}
use Rattle.cct_laws.proofs.orders.Ids.{put_owned}
use Rattle.cct_laws_live.proofs.Sends.{asks_it}
use Rattle.cct_laws_live.proofs.InTurn.{HeardAs, InTurn, IsReading, Obeys, reading_turn, obeys_asked, obeys_put}
use Rattle.cct_laws_live.proofs.Fronts.{EachFront, front_each}
use Rattle.cct_laws_live.proofs.Recording.{step_recorded}
use Rattle.cct_laws_live.specs.Posts.{HasOver, Has, HaveInTurn, since_taken, credits_heard, mask_heard, accepts_heard, PostedBy, PostOf, PostAt}

-- lines are among others, in their order
abbrev pub Within : List Line → List Line → Type 0
Within [] lines = ⊤
Within (x ∷ xs) [] = ⊥
Within (x ∷ xs) (y ∷ lines) = ((x ≡ y) × Within xs lines) ⊎ Within (x ∷ xs) lines

pub within_more : (since lines : List Line) (l : Line) → Within since lines → Within since (l ∷ lines)
within_more [] lines l within = tt
within_more (x ∷ xs) lines l within = inr within

has_within : (since lines : List Line) (l : Line) (P Q : List Line → Type 0) →
    ((older all : List Line) → Within older all → P older → Q all) → Within since lines → HasOver since l P →
    HasOver lines l Q
has_within [] lines l P Q on within has = absurd has
has_within (x ∷ xs) [] l P Q on within has = absurd within
has_within (x ∷ xs) (y ∷ lines) l P Q on (inr within) has =
    inr (has_within (x ∷ xs) lines l P Q on within has)
has_within (x ∷ xs) (y ∷ lines) l P Q on (inl both) (inl has) = inl (sym both.0 ∙ has.0, on xs lines both.1 has.1)
has_within (x ∷ xs) (y ∷ lines) l P Q on (inl both) (inr has) = inr (has_within xs lines l P Q on both.1 has)

pub has_all : (since lines : List Line) (l : Line) → Within since lines → Has since l → Has lines l
has_all since lines l = has_within since lines l (λ older. ⊤) (λ older. ⊤) (λ older all within any. tt)

-- the lines of a job are among those since its command was taken
pub line_within : (l : Line) (lines : List Line) (c : Command) (since : List Line) (j : Job) →
    ((d : Command) (older : List Line) → j ≡ works d older → Within older lines) → with_line l j ≡ works c since →
    Within since (l ∷ lines)
line_within l lines c since free before is = absurd cc
line_within l lines c since (works d older) before is =
    let same : l ∷ older ≡ since = cc in
    subst (λ ls. Within ls (l ∷ lines)) same (inl (refl, before d older refl))

begun_within : (a : Command) (lines : List Line) (c : Command) (since : List Line) →
    ((d : Command) (older : List Line) → job lines ≡ works d older → Within older (since_taken lines)) →
    job (taken a ∷ lines) ≡ works c since → Within since (since_taken (taken a ∷ lines))
begun_within (command.Halt addr) lines c since before is =
    line_within (taken (command.Halt addr)) (since_taken lines) c since (job lines) before is
begun_within a lines c since before is =
    let none : [] ≡ since = cc in subst (λ ls. Within ls (since_taken (taken a ∷ lines))) none tt

pub job_within : (lines : List Line) (c : Command) (since : List Line) → job lines ≡ works c since →
    Within since (since_taken lines)
job_within [] c since is = absurd cc
job_within (taken a ∷ lines) c since is = begun_within a lines c since (job_within lines) is
job_within (ended end ∷ lines) c since is = absurd cc
job_within (restarted ∷ lines) c since is = absurd cc
job_within (exchange q y ∷ lines) c since is =
    line_within (exchange q y) (since_taken lines) c since (job lines) (job_within lines) is
job_within (scanned check addr rest ∷ lines) c since is =
    line_within (scanned check addr rest) (since_taken lines) c since (job lines) (job_within lines) is
job_within (put r ∷ lines) c since is =
    line_within (put r) (since_taken lines) c since (job lines) (job_within lines) is
job_within (l ∷ lines) c since is = within_more since (since_taken lines) l (job_within lines c since is)

pub turn_within : (since lines before : List Line) → Within since lines → HaveInTurn since before → HaveInTurn lines before
turn_within since lines [] within turn = tt
turn_within since lines (l ∷ before) within turn =
    has_within since lines l (λ older. HaveInTurn older before) (λ older. HaveInTurn older before)
    (λ older all both. turn_within older all before both) within turn

-- an accept counter that was read was heard
accepts_is : (l : Line) (count : ℕ) → accepts_line l ≡ Some count → l ≡ accepts_heard count
accepts_is (exchange (Some AcceptCount) (Some (reply.accepts c))) count is = cc
accepts_is l count is = absurd cc

pub newest : (heard : ℕ → Line) (l : Line) (lines : List Line) (count : ℕ) (now before : Option ℕ) →
    ((c : ℕ) → now ≡ Some c → l ≡ heard c) → (before ≡ Some count → Has lines (heard count)) →
    option_or now before ≡ Some count → Has (l ∷ lines) (heard count)
newest heard l lines count None before here earlier is = inr (earlier is)
newest heard l lines count (Some c) before here earlier is = inl (here count is, tt)

accepts_has : (lines : List Line) (count : ℕ) → accepts_read lines ≡ Some count → Has lines (accepts_heard count)
accepts_has [] count is = absurd cc
accepts_has (l ∷ lines) count is =
    newest accepts_heard l lines count (accepts_line l) (accepts_read lines) (accepts_is l) (accepts_has lines count) is

-- a reading that shows no break and no move heard one accept counter
shown_same : (mask counter seen read : ℕ) → shows_break mask counter seen read ≡ false → (seen == mask) ≡ true
shown_same mask counter seen read none = by_test (seen == mask) none
  where
    by_test : (same : Bool) → (not same || ((read == 0) && not (counter == 0))) ≡ false → same ≡ true
    by_test true is = refl
    by_test false is = absurd cc

unmoved_by : (same equal : Bool) → same ≡ true → (same && not equal) ≡ false → equal ≡ true
unmoved_by true true is none = refl
unmoved_by true false is none = absurd cc
unmoved_by false equal is none = absurd cc

unmoved : (mask counter seen read before now : ℕ) → shows_break mask counter seen read ≡ false →
    shows_move mask seen before now ≡ false → before ≡ now
unmoved mask counter seen read before now whole still =
    eqb-true before now (unmoved_by (seen == mask) (before == now) (shown_same mask counter seen read whole) still)

-- what a record posts was heard, if the replies of a reading were heard in turn
abbrev PostsIf : DeviceBody → List Line → List Line → Record → Type 0
PostsIf body lines since r = (IsReading r → InTurn body since) → PostOf body lines r

-- so it is of what was judged of the lines of a job
judged_posts : (body : DeviceBody) (lines since : List Line) (addr mask counter accepts : ℕ) (c : Credits)
    (seen before now : ℕ) → epoch lines ≡ Running mask counter accepts →
    (InTurn body since → HeardAs body (since_taken lines) now seen c before) →
    JudgedHolds (PostsIf body lines since) (judge addr mask counter accepts c seen before now)
unfolding judge
judged_posts body lines since addr mask counter accepts c seen before now runs turn =
    by_tests (shows_move mask seen before now) (shows_break mask counter seen c.counter)
    ((distance counter c.counter == 0) && (accepted_between accepts now == 0)) refl refl
  where
    coins : List Coin
    coins = posted_of (distance counter c.counter) c.pairs

    posts : (breaks : Bool) → shows_break mask counter seen c.counter ≡ breaks → InTurn body since →
        PostedBy body lines breaks before seen c.counter (accepted_between accepts now - length coins) now coins
    posts breaks shows heard =
        let told = turn heard in
        record {
          mask = mask;
          before = counter;
          earlier = accepts;
          read = told.0;
          runs = runs;
          heard = told.3;
          counter_is = told.1;
          shows = shows;
          posted_is = ap (posted_of (distance counter c.counter)) told.2;
          lost_is = refl;
        }

    by_tests : (moved broke none : Bool) → shows_move mask seen before now ≡ moved →
        shows_break mask counter seen c.counter ≡ broke →
        JudgedHolds (PostsIf body lines since) (cond moved Moved (cond broke
        (Broken (record_of.Broken addr seen c.counter (accepted_between accepts now - length coins) now coins))
        (cond none Nothing
        (Reading (record_of.Reading addr c.counter (accepted_between accepts now - length coins) now coins)))))
    by_tests true broke none moves breaks = tt
    by_tests false true none moves breaks = λ given. (before, posts true breaks (given tt))
    by_tests false false true moves breaks = tt
    by_tests false false false moves breaks = λ given. (
      seen,
      subst (λ first. PostedBy body lines false first seen c.counter (accepted_between accepts now - length coins) now coins)
          (unmoved mask counter seen c.counter before now breaks moves) (posts false breaks (given tt)),
    )

heard_within : (body : DeviceBody) (since lines : List Line) (now seen first : ℕ) (judged : Credits) → Within since lines →
    HeardAs body since now seen judged first → HeardAs body lines now seen judged first
heard_within body since lines now seen first judged within told = (
  told.0,
  told.1,
  told.2,
  turn_within since lines (accepts_heard now ∷ mask_heard seen ∷ credits_heard body told.0 ∷ accepts_heard first ∷ []) within told.3,
)

judged_by_posts : (body : DeviceBody) (lines since : List Line) (addr : ℕ) (state : EpochState) (credits : Option Credits)
    (seen before now : Option ℕ) → Within since (since_taken lines) → epoch lines ≡ state →
    credits_read since ≡ credits → mask_read since ≡ seen → accepts_before since ≡ before → accepts_read since ≡ now →
    JudgedHolds (PostsIf body lines since) (judged_by addr state credits seen before now)
judged_by_posts body lines since addr (Running mask counter accepts) (Some c) (Some seen) (Some before) (Some now) within runs read saw was is =
    judged_posts body lines since addr mask counter accepts c seen before now runs
    (λ turn. heard_within body since (since_taken lines) now seen before c within (turn before seen now c is saw read was))
judged_by_posts body lines since addr (Running mask counter accepts) (Some c) (Some seen) (Some before) None within runs read saw was is = tt
judged_by_posts body lines since addr (Running mask counter accepts) (Some c) (Some seen) None now within runs read saw was is = tt
judged_by_posts body lines since addr (Running mask counter accepts) (Some c) None before now within runs read saw was is = tt
judged_by_posts body lines since addr (Running mask counter accepts) None seen before now within runs read saw was is = tt
judged_by_posts body lines since addr Idle credits seen before now within runs read saw was is = tt

-- the record that closes an order posts nothing
close_posts : (body : DeviceBody) (lines : List Line) (o : OpenOrder) (life : ℕ) → PostOf body lines (close o life)
close_posts body lines o life = closes_so (PostOf body lines) o life (λ fits. tt) (λ over. tt)

-- so it is of what the row of a job puts
row_posts : (lines : List Line) (d : DeviceSetup) (c : Command) (since : List Line) (owed : Option OpenOrder) →
    Within since (since_taken lines) → RowHolds (λ q. ⊤) (PostsIf d.body lines since) (row d c since (epoch lines) owed)
row_posts lines d c since owed within =
    each_put (PostsIf d.body lines since) is_at_device d c (done (rows_of d c) since) (judged_in c since (epoch lines))
    (noted_in since owed) (device_puts d c) due_posts
  where
    due_posts : (due : Due) → is_at_device due ≡ true →
        DueHolds (PostsIf d.body lines since) (address_of c) (judged_in c since (epoch lines)) (noted_in since owed) due
    due_posts (new_epoch mask) here = λ accepts read given.
        has_all since (since_taken lines) (accepts_heard accepts) within (accepts_has since accepts read)
    due_posts reading here =
        judged_by_posts d.body lines since (address_of c) (epoch lines) (credits_read since) (mask_read since)
        (accepts_before since) (accepts_read since) within refl refl refl refl refl
    due_posts epoch_end here = λ given. tt
    due_posts (new_order id count) here = λ life read given. tt
    due_posts order_end here = λ o life is read given. close_posts d.body lines o life
    due_posts (sale id price) here = absurd cc

-- the job of a device goes by its rows
abbrev pub ObeysJob : DeviceSetup → Job → Type 0
ObeysJob d free = ⊤
ObeysJob d (works c since) = Obeys (rows_of d c) since

abbrev pub Orderly : DeviceSetup → List Line → Type 0
Orderly d lines = ObeysJob d (job lines)

job_turn : (d : DeviceSetup) (past : List Entry) (c : Command) (since : List Line) (r : Record) → AtWork d past c since →
    row_after d past c since ≡ puts r → Orderly d (lines_of d past) → IsReading r → InTurn d.body since
job_turn d past c since r at_work is orderly reads =
    reading_turn d c since (judged_in c since (epoch (lines_of d past))) (noted_in since (order (lines_of d past))) r is reads
    (subst (ObeysJob d) at_work.job_is orderly)

put_posts : (d : DeviceSetup) (past : List Entry) (c : Command) (since : List Line) (r : Record) → AtWork d past c since →
    row_after d past c since ≡ puts r → Orderly d (lines_of d past) → PostOf d.body (lines_of d past) r
put_posts d past c since r at_work is orderly =
    let lines = lines_of d past in
    let posts : PostsIf d.body lines since r =
    subst (RowHolds (λ q. ⊤) (PostsIf d.body lines since)) is
    (row_posts lines d c since (order lines) (job_within lines c since at_work.job_is)) in
    posts (job_turn d past c since r at_work is orderly)

-- each step keeps that
orderly_ended : (d : DeviceSetup) (end : Option End) (lines : List Line) → Orderly d lines → Orderly d (with_ended end lines)
orderly_ended d None lines orderly = orderly
orderly_ended d (Some end) lines orderly = tt

begins_orderly : (d : DeviceSetup) (c : Command) (lines : List Line) → suits d.body c ≡ true → Orderly d (taken c ∷ lines)
begins_orderly d c lines suited = subst (ObeysJob d) (sym (begun_at_work d.body c lines suited)) tt

halted_orderly : (d : DeviceSetup) (addr : ℕ) (j : Job) → ObeysJob d j → ObeysJob d (with_line (taken (command.Halt addr)) j)
halted_orderly d addr free orderly = tt
halted_orderly d addr (works c since) orderly = (tt, orderly)

orderly_there : (capacity : ℕ) (setup : Setup) (d : DeviceSetup) (past news : List Entry) (s : Step) →
    IsSoundSetup setup → IsOf setup d → Ids setup past → AtDevice capacity setup d past s news →
    Orderly d (lines_of d past) → Orderly d (lines_of d (news ++ past))
orderly_there capacity setup d past _ _ sound own ids (came s e m ls comes) orderly =
    let is = loose d (met d past) s e m ls comes in
    subst (Orderly d) (sym (loose_line d past s e m ls is))
    (subst (ObeysJob d) (sym (is.same_job (lines_of d past))) orderly)
orderly_there capacity setup d past _ _ sound own ids (took s c gives suited here is_free is_taken is_owed lets) orderly =
    subst (Orderly d) (sym (lines_taken d past c here)) (begins_orderly d c (lines_of d past) suited)
orderly_there capacity setup d past _ _ sound own ids (halted paying can) orderly =
    subst (Orderly d) (sym (lines_taken d past (command.Halt d.addr) refl))
    (halted_orderly d d.addr (job (lines_of d past)) orderly)
orderly_there capacity setup d past _ _ sound own ids (idled is_free) orderly = orderly
orderly_there capacity setup d past _ _ sound own ids (made_exchange c since q at_work is_row) orderly =
    let lines = lines_of d past in
    let sent = ask d.kind d.addr q in
    let piece = heard_after setup past sent in
    let got = got_by d sent piece in
    let dosed = doses_of d past sent ++ lines in
    let asks = asks_it setup d past c since q sound own is_row in
    let job_is : job dosed ≡ works c since =
    job_undosed d.body d.serial (met d past) (asks_of d (heard_by_devices (pending past) sent)) lines ∙ at_work.job_is in
    subst (Orderly d) (sym (lines_with_end d past (wire_of setup d past q) (wire_end setup d past c since q) _
    (lines_wire d past sent piece)))
    (orderly_ended d (wire_end setup d past c since q) (exchange (asked d.kind sent) got ∷ dosed)
    (subst (λ a. Orderly d (exchange a got ∷ dosed)) (sym asks)
    (subst (λ j. ObeysJob d (with_line (exchange (Some q) got) j)) (sym job_is)
    (obeys_asked d c since (epoch lines) (order lines) q sent piece is_row asks
    (subst (ObeysJob d) at_work.job_is orderly)))))
orderly_there capacity setup d past _ _ sound own ids (made_put c since r at_work is_row) orderly =
    let lines = lines_of d past in
    subst (Orderly d) (sym (lines_with_end d past (entry.Put r) (record_end d past c since r) (put r ∷ lines)
    (lines_put d past r (put_owned setup past d c since r own ids at_work is_row))))
    (orderly_ended d (record_end d past c since r) (put r ∷ lines)
    (subst (λ j. ObeysJob d (with_line (put r) j)) (sym at_work.job_is)
    (obeys_put d c since (epoch lines) (order lines) r is_row (subst (ObeysJob d) at_work.job_is orderly))))

orderly_lost : (d : DeviceSetup) (past news : List Entry) → Lost d past news → Orderly d (lines_of d (news ++ past))
orderly_lost d past _ bare = tt
orderly_lost d past _ (kept_here c since r at_work is_row owned) =
    subst (Orderly d) (sym (lines_kept d past r owned)) tt
orderly_lost d past _ (kept_elsewhere r away caused) =
    subst (Orderly d) (sym (lines_kept_elsewhere d past r away)) tt

-- so each step keeps that, and posts what was heard
pub record PostsWell (d : DeviceSetup) (past news : List Entry) : Type 0 where
  pub orderly : Orderly d (lines_of d (news ++ past))
  pub posts : EachFront (PostAt d) news past

-- so each step keeps that
pub orderly_step : (capacity : ℕ) (setup : Setup) (d : DeviceSetup) → IsSoundSetup setup → IsOf setup d →
    (past news : List Entry) (s : Step) → Ids setup past → Brought capacity setup past s news →
    Orderly d (lines_of d past) → Orderly d (lines_of d (news ++ past))
orderly_step capacity setup d sound own past news s ids told orderly =
    elim (seen_from capacity setup d past news s sound own ids told) [
      | seen_here at ↦ orderly_there capacity setup d past news s sound own ids at orderly
      | seen_aside aside ↦ subst (ObeysJob d) (sym (passed_job d past news aside.passes)) orderly
      | seen_lost lost no_next ↦ orderly_lost d past news lost
    ]

pub posts_step : (capacity : ℕ) (setup : Setup) (d : DeviceSetup) → IsSoundSetup setup → IsOf setup d →
    (past news : List Entry) (s : Step) → Ids setup past → Brought capacity setup past s news →
    Orderly d (lines_of d past) → PostsWell d past news
posts_step capacity setup d sound own past news s ids told orderly = record {
  orderly = orderly_step capacity setup d sound own past news s ids told orderly;
  posts =
      step_recorded (PostOf d.body) d capacity setup past news s sound own ids told
      (λ c since r at_work is. put_posts d past c since r at_work is orderly);
}

-- each record that posts posts what was heard
pub legal_posts : (capacity : ℕ) (setup : Setup) (steps : List Step) (transcript : List Entry) (d : DeviceSetup) →
    IsSoundSetup setup → IsOf setup d → Legal capacity setup steps transcript →
    EachEntry (PostAt d) (onto [] transcript)
legal_posts capacity setup steps transcript d sound own legal =
    (along capacity setup (λ s. ⊤) (λ past. Orderly d (lines_of d past) × EachEntry (PostAt d) past) sound
    (λ past news s any ids told both.
    let well = posts_step capacity setup d sound own past news s ids told both.0 in
    (well.orderly, front_each (PostAt d) news past well.posts both.1))
    (λ past addr both. (both.0, (tt, both.1))) steps (onto [] transcript) (any_steps steps) legal (tt, tt)).1
