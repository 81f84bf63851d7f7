-- How the rows that read a device that takes money in its epoch, and what they put, keep what holds of it.
use Rattle.std.proofs.Common.{◌≡◌, ◌≤◌, ℕ, length, arith, rules, le_refl, true, Bool, List, ◌∷◌, refl, sym, ◌∙◌, subst, Option, Some, None, ap}
use Rattle.std.specs.Prelude.{⊤}
use Rattle.cct_model.specs.terms.device.DeviceSetup.{DeviceSetup}
use Rattle.cct_model.specs.terms.request.Request.{Request}
use Rattle.cct_model.specs.terms.request.Request.TheVariants.{ReadCredits, ReadBills, GetMask, AcceptCount}
use Rattle.cct_model.specs.lines.record.Record.{Record}
use Rattle.cct_model.specs.lines.record.Record.TheVariants as record_of
use Rattle.cct_model.specs.declared.judging.Judged.{Judged}
use Rattle.cct_model.specs.declared.judging.Judged.TheVariants.{Nothing, Moved, Reading, Broken}
use Rattle.cct_model.specs.lines.command.Command.{Command}
use Rattle.cct_model.specs.lines.command.Command.TheVariants as command
use Rattle.cct_model.specs.lines.entry.End.{End}
use Rattle.cct_model.specs.terms.coin.Coin.{Coin}
use Rattle.cct_model.specs.lines.entry.End.TheVariants.{Broke}
use Rattle.cct_model.specs.Reply.{Reply}
use Rattle.cct_model.specs.Reply as reply
use Rattle.cct_model.specs.History.{Met, heard}
use Rattle.cct_model.specs.terms.coin.Credits.{Credits}
use Rattle.cct_model.specs.Acceptor.{counted, mask_of}
use Rattle.cct_model.specs.Device.{IsTaker}
use Rattle.cct_model.specs.Line.{Line, exchange, put}
use Rattle.cct_model.specs.Job.{works, job, with_line, epoch, ident_requests, judged_in, end_of_moving, end_of_reading, address_of}
use Rattle.cct_model.specs.Claims.{coins}
use Rattle.cct_laws.specs.DeviceJobs.{Fate, with_ended}
use Rattle.cct_laws.specs.Moving.{counting, IsNoStop}
use Rattle.cct_laws.proofs.acceptor.BesideCoins.{World, world, world_heard, Shut, count_from, count_at}
use Rattle.cct_laws.proofs.acceptor.Fits.{IsShutSince, read_so_far, Notes, notes_in, Begins, HeldIn, SeesIn, Posts, PostsAs, BreaksAs, Ready, CountsAt, FitsAt, Fits, IfOver, if_over, IsStill, ends_epoch, AfterCredits, AfterMask, AfterCount, AfterReading}
use Rattle.cct_laws.proofs.acceptor.Moves.{Sound, Keeps, KeepsAsk, AtRows, IsOtherEnd, keeps_ended, keeps_with_ended, answered_at, next_at, by_fate}
use Rattle.cct_laws.proofs.acceptor.Readings.{credits_at, held_now, sees_now, ready_now}
use Rattle.cct_laws.proofs.acceptor.Starts.{reading_mild, read_same}
use Rattle.cct_laws.specs.Takers.{accepted_of}
use Rattle.cct_laws.proofs.acceptor.RecordsKeep.{reading_fewer, keeps_clean, keeps_moved, sound_reading, sound_broken}
use Rattle.cct_laws.proofs.wire.Replies.{start_of, IsReading, judged_as, reading_tells, replied_mask, replied_accepts}
use Rattle.cct_model.specs.Rows.{done, Then, if_judged, if_unmoved, if_posted, new_epoch, reading, TableRow, asks_for, puts_due, rows_of, rest, end_by_answer, end_kept, sent_once}
use Rattle.cct_model.proofs.Rows.{EachRow, each_told, each_after, Behind, behind_answer, put_leaves}

-- what the last events say to an epoch
held_at : (d : DeviceSetup) (past : List Met) (lines since : List Line) (q : Request) (credits : Credits) → IsReading q →
    judged_as q credits ≡ credits_at (world d past lines) →
    Begins (world d past lines) (read_so_far lines) (notes_in since) → Sound d past lines →
    HeldIn (world d past lines) (read_so_far (exchange (Some q) (Some (reply.credits credits)) ∷ lines)) (epoch lines)
    (notes_in (exchange (Some q) (Some (reply.credits credits)) ∷ since))
held_at d past lines since ReadCredits credits is_reading told begins sound =
    let line = exchange (Some ReadCredits) (Some (reply.credits credits)) in
    held_now (world d past lines) (read_so_far (line ∷ lines)) (epoch lines) (notes_in (line ∷ since)) refl (ap Some told)
    sound.marked begins.running (record { read = begins.read; goes_on = begins.goes_on; few = begins.few }) sound.state
held_at d past lines since ReadBills credits is_reading told begins sound =
    let line = exchange (Some ReadBills) (Some (reply.credits credits)) in
    held_now (world d past lines) (read_so_far (line ∷ lines)) (epoch lines) (notes_in (line ∷ since)) refl (ap Some told)
    sound.marked begins.running (record { read = begins.read; goes_on = begins.goes_on; few = begins.few }) sound.state
held_at d past lines since q credits is_reading told begins sound = absurd is_reading

still_at : (w : World) (lines : List Line) (q : Request) (credits : Credits) (over : Bool) → IsReading q →
    w.coins ≡ coins lines → IfOver over (IsShutSince w (read_so_far lines)) →
    IfOver over (IsStill w (read_so_far (exchange (Some q) (Some (reply.credits credits)) ∷ lines)))
still_at w lines ReadCredits credits over is_reading all shut =
    if_over over (IsShutSince w (read_so_far lines))
    (IsStill w (read_so_far (exchange (Some ReadCredits) (Some (reply.credits credits)) ∷ lines)))
    (λ is. (is.0, ap length all, is.1)) shut
still_at w lines ReadBills credits over is_reading all shut =
    if_over over (IsShutSince w (read_so_far lines))
    (IsStill w (read_so_far (exchange (Some ReadBills) (Some (reply.credits credits)) ∷ lines)))
    (λ is. (is.0, ap length all, is.1)) shut
still_at w lines q credits over is_reading all shut = absurd is_reading

-- they are read
pub reads : (d : DeviceSetup) (past : List Met) (lines : List Line) (c : Command) (since : List Line) (behind : Then)
    (rows : List TableRow) (q : Request) (asked : Option Request) (got : Option Reply) → IsTaker d.body → IsReading q →
    AtRows d past lines c since (asks_for q behind ∷ rows) → Behind IsOtherEnd behind → AfterCredits rows →
    Begins (world d past lines) (read_so_far lines) (notes_in since) →
    IfOver (ends_epoch rows) (IsShutSince (world d past lines) (read_so_far lines)) →
    Fate d past q asked got → KeepsAsk d past lines c since q asked got
reads d past lines c since behind rows q asked got taking is_reading at other next begins shut fate =
    let w = world d past lines in
    let now = heard (Some q) ∷ past in
    let mild = reading_mild q is_reading in
    let replied : (credits : Credits) → judged_as q credits ≡ credits_at w →
    KeepsAsk d past lines c since q (Some q) (Some (reply.credits credits)) = λ credits told.
    let y = reply.credits credits in
    let line = exchange (Some q) (Some y) in
    let b = read_so_far (line ∷ lines) in
    let still = still_at w lines q credits (ends_epoch rows) is_reading refl shut in
    let fits = next w b (notes_in (line ∷ since)) (judged_in c (line ∷ since) (epoch lines))
    (held_at d past lines since q credits is_reading told begins at.keeps.sound) still in
    let kept = next_at d past lines c since (asks_for q behind) rows q y at refl mild
    (subst (λ v. FitsAt v b rows (notes_in (line ∷ since)) (judged_in c (line ∷ since) (epoch lines)))
    (sym (read_same w q is_reading)) fits) in
    answered_at d past lines c since (asks_for q behind ∷ rows) q y at
    (keeps_with_ended d now (line ∷ lines) _ (behind_answer IsOtherEnd behind y _ other) kept) in
    by_fate d past lines c since q asked got (ap sent_once at.rest_is) mild at.is_job at.keeps
    (λ y gives. let told = reading_tells d past q y taking is_reading gives in
    subst (λ z. KeepsAsk d past lines c since q (Some q) (Some z)) (sym told.1) (replied told.0 told.2)) fate

-- the mask is read
pub looks : (d : DeviceSetup) (past : List Met) (lines : List Line) (c : Command) (since : List Line) (behind : Then)
    (rows : List TableRow) (asked : Option Request) (got : Option Reply) → IsTaker d.body →
    AtRows d past lines c since (asks_for GetMask behind ∷ rows) → Behind IsOtherEnd behind → AfterMask rows →
    HeldIn (world d past lines) (read_so_far lines) (epoch lines) (notes_in since) →
    IfOver (ends_epoch rows) (IsStill (world d past lines) (read_so_far lines)) → Fate d past GetMask asked got →
    KeepsAsk d past lines c since GetMask asked got
looks d past lines c since behind rows asked got taking at other next held still fate =
    let w = world d past lines in
    let now = heard (Some GetMask) ∷ past in
    let y = reply.mask (mask_of past) in
    let line = exchange (Some GetMask) (Some y) in
    let sees : SeesIn w (read_so_far (line ∷ lines)) (epoch lines) (notes_in (line ∷ since)) =
    sees_now w (read_so_far lines) (epoch lines) (notes_in since) (reading_fewer lines) at.keeps.sound.state held in
    let kept = next_at d past lines c since (asks_for GetMask behind) rows GetMask y at refl tt
    (next w (read_so_far (line ∷ lines)) (notes_in (line ∷ since)) _ sees still) in
    let replied : KeepsAsk d past lines c since GetMask (Some GetMask) (Some y) =
    answered_at d past lines c since (asks_for GetMask behind ∷ rows) GetMask y at
    (keeps_with_ended d now (line ∷ lines) _ (behind_answer IsOtherEnd behind y _ other) kept) in
    by_fate d past lines c since GetMask asked got (ap sent_once at.rest_is) tt at.is_job at.keeps
    (λ z gives. subst (λ found. KeepsAsk d past lines c since GetMask (Some GetMask) found)
    (sym (replied_mask d past taking) ∙ gives) replied) fate

-- the accept counter is read

-- it shows all coins that were accepted
count_is : (d : DeviceSetup) (past : List Met) (lines : List Line) → Sound d past lines →
    counted (start_of d.body) (accepted_of d.body past) ≡ count_at (world d past lines)
count_is d past lines sound = ap (λ coins. count_from (start_of d.body) coins) sound.told.0

abbrev counted_by : World → Line
counted_by w = exchange (Some AcceptCount) (Some (reply.accepts (count_at w)))

-- after it the rows fit, whatever the row after it is
counted_fits : (d : DeviceSetup) (past : List Met) (lines : List Line) (c : Command) (since : List Line)
    (rows : List TableRow) → Sound d past lines → AfterCount rows →
    CountsAt (world d past lines) (read_so_far lines) rows (notes_in since) →
    FitsAt (world d past lines) (read_so_far (counted_by (world d past lines) ∷ lines)) rows
    (notes_in (counted_by (world d past lines) ∷ since))
    (judged_in c (counted_by (world d past lines) ∷ since) (epoch lines))
counted_fits d past lines c since (puts_due (new_epoch mask) behind ∷ rows) sound next fits = (fits.0, fits.1, refl)
counted_fits d past lines c since (puts_due reading behind ∷ rows) sound next fits = (
  ready_now (world d past lines) (read_so_far lines) (epoch lines) (address_of c) (notes_in since) sound.marked
      (reading_fewer lines) sound.state fits.0,
  fits.1,
)
counted_fits d past lines c since (asks_for ReadCredits behind ∷ rows) sound next fits =
    next (world d past lines) (read_so_far (counted_by (world d past lines) ∷ lines)) _ _
    (record { running = fits.0; read = refl; goes_on = sound.marked; few = le_refl _ })
    (if_over (ends_epoch rows) (Shut (world d past lines))
    (IsShutSince (world d past lines) (read_so_far (counted_by (world d past lines) ∷ lines))) (λ shut. (shut, refl))
    fits.1)
counted_fits d past lines c since (asks_for ReadBills behind ∷ rows) sound next fits =
    next (world d past lines) (read_so_far (counted_by (world d past lines) ∷ lines)) _ _
    (record { running = fits.0; read = refl; goes_on = sound.marked; few = le_refl _ })
    (if_over (ends_epoch rows) (Shut (world d past lines))
    (IsShutSince (world d past lines) (read_so_far (counted_by (world d past lines) ∷ lines))) (λ shut. (shut, refl))
    fits.1)
counted_fits d past lines c since rows sound next fits =
    next (world d past lines) (read_so_far (counted_by (world d past lines) ∷ lines))
    (notes_in (counted_by (world d past lines) ∷ since))
    (judged_in c (counted_by (world d past lines) ∷ since) (epoch lines))

-- a stop doesn't end by what its reading means
abbrev JudgesNoStop : Command → TableRow → Type 0
JudgesNoStop (command.Stop addr) (asks_for q if_judged) = ⊥
JudgesNoStop c r = ⊤

judges_none : (d : DeviceSetup) (c : Command) → EachRow (JudgesNoStop c) (rows_of d c)
judges_none d (command.Ident addr) =
    each_told (JudgesNoStop (command.Ident addr)) (λ q. tt) (λ q. tt) (ident_requests d.body)
judges_none d c = search rules

no_stop : (c : Command) (since : List Line) (q : Request) → JudgesNoStop c (asks_for q if_judged) →
    IsNoStop (works c since)
no_stop (command.Stop addr) since q judges = absurd judges
no_stop c since q judges = tt

-- a reading that means nothing ends a round clean, and one that has to be made again ends it too
round_judged : (d : DeviceSetup) (now : List Met) (lines : List Line) (judged : Judged) → IsNoStop (job lines) →
    Ready (world d now lines) (read_so_far lines) judged → Keeps d now lines →
    Keeps d now (with_ended (end_of_reading judged) lines)
round_judged d now lines Nothing other ready keeps = keeps_clean d now lines keeps.sound ready
round_judged d now lines Moved other ready keeps = keeps_moved d now lines keeps.sound ready other
round_judged d now lines (Reading entry) other ready keeps = keeps
round_judged d now lines (Broken entry) other ready keeps = keeps

-- no coin comes while a stop reads, so that its reading hasn't to be made again
stop_judged : (d : DeviceSetup) (now : List Met) (lines : List Line) (judged : Judged) →
    length (coins (counting lines)) ≤ length (coins lines) → IsStill (world d now lines) (read_so_far lines) →
    Ready (world d now lines) (read_so_far lines) judged → Keeps d now lines →
    Keeps d now (with_ended (end_of_moving judged) lines)
stop_judged d now lines Nothing few still ready keeps = keeps
stop_judged d now lines Moved few still ready keeps = absurd (omega (arith, few, still.2, ready))
stop_judged d now lines (Reading entry) few still ready keeps = keeps
stop_judged d now lines (Broken entry) few still ready keeps = keeps

-- how a job goes on after it, by the row after it
abbrev pub IsAfterCount : Then → List TableRow → Type 0
IsAfterCount if_judged (puts_due reading after ∷ rows) = ⊤
IsAfterCount if_unmoved (puts_due reading after ∷ rows) = ends_epoch rows ≡ true
IsAfterCount behind rows = Behind IsOtherEnd behind

counted_ends : (d : DeviceSetup) (now : List Met) (lines : List Line) (c : Command) (since : List Line) (behind : Then)
    (rows : List TableRow) (y : Reply) (notes : Notes) (judged : Judged) → job lines ≡ works c since →
    JudgesNoStop c (asks_for AcceptCount behind) → length (coins (counting lines)) ≤ length (coins lines) →
    IsAfterCount behind rows → FitsAt (world d now lines) (read_so_far lines) rows notes judged → Keeps d now lines →
    Keeps d now (with_ended (end_by_answer behind y judged) lines)
counted_ends d now lines c since if_judged (puts_due reading after ∷ rows) y notes judged is_job judges few other fits
    keeps =
    round_judged d now lines judged (subst IsNoStop (sym is_job) (no_stop c since AcceptCount judges)) fits.0 keeps
counted_ends d now lines c since if_unmoved (puts_due reading after ∷ rows) y notes judged is_job judges few other fits
    keeps =
    stop_judged d now lines judged few
    (subst (λ over. IfOver over (IsStill (world d now lines) (read_so_far lines))) other fits.1) fits.0 keeps
counted_ends d now lines c since behind rows y notes judged is_job judges few other fits keeps =
    keeps_with_ended d now lines (end_by_answer behind y judged) (behind_answer IsOtherEnd behind y judged other) keeps

pub counts : (d : DeviceSetup) (past : List Met) (lines : List Line) (c : Command) (since : List Line) (behind : Then)
    (rows : List TableRow) (asked : Option Request) (got : Option Reply) → IsTaker d.body →
    AtRows d past lines c since (asks_for AcceptCount behind ∷ rows) → IsAfterCount behind rows → AfterCount rows →
    CountsAt (world d past lines) (read_so_far lines) rows (notes_in since) → Fate d past AcceptCount asked got →
    KeepsAsk d past lines c since AcceptCount asked got
counts d past lines c since behind rows asked got taking at other next needs fate =
    let w = world d past lines in
    let now = heard (Some AcceptCount) ∷ past in
    let y = reply.accepts (count_at w) in
    let line = exchange (Some AcceptCount) (Some y) in
    let fits = counted_fits d past lines c since rows at.keeps.sound next needs in
    let kept = next_at d past lines c since (asks_for AcceptCount behind) rows AcceptCount y at refl tt fits in
    let judges =
    subst (EachRow (JudgesNoStop c)) at.rest_is
    (each_after (JudgesNoStop c) (rows_of d c) (done (rows_of d c) since) (judges_none d c)) in
    let replied : KeepsAsk d past lines c since AcceptCount (Some AcceptCount) (Some y) =
    answered_at d past lines c since (asks_for AcceptCount behind ∷ rows) AcceptCount y at
    (counted_ends d now (line ∷ lines) c (line ∷ since) behind rows y (notes_in (line ∷ since))
    (judged_in c (line ∷ since) (epoch lines)) (ap (with_line line) at.is_job) judges.0 (le_refl _) other (subst (λ v. FitsAt v (read_so_far (line ∷ lines)) rows (notes_in (line ∷ since))
    (judged_in c (line ∷ since) (epoch lines))) (sym (world_heard d.body past lines (Some AcceptCount) tt)) fits) kept) in
    by_fate d past lines c since AcceptCount asked got (ap sent_once at.rest_is) tt at.is_job at.keeps
    (λ z gives. subst (λ found. KeepsAsk d past lines c since AcceptCount (Some AcceptCount) found)
    (ap (λ n. Some (reply.accepts n)) (sym (count_is d past lines at.keeps.sound)) ∙ sym (replied_accepts d past taking)
    ∙ gives) replied) fate

-- how a job goes on after a reading that it puts
abbrev pub IsAfterReading : Option End → List TableRow → Type 0
IsAfterReading (Some end) rows = IsOtherEnd end
IsAfterReading None rows = (ends_epoch rows ≡ true) × AfterReading rows

-- what was judged is put: a reading goes into the epoch, and a break ends the job
reading_put : (d : DeviceSetup) (past : List Met) (lines : List Line) (c : Command) (since : List Line) (r : TableRow)
    (rows : List TableRow) (addr k lost accepts : ℕ) (posted : List Coin) (of_reading : Option End) → job lines ≡ works c since →
    rest d c since ≡ r ∷ rows → IsAfterReading of_reading rows →
    Posts (world d past lines) (read_so_far lines) k lost accepts posted → IfOver (ends_epoch rows) (IsStill (world d past lines) (read_so_far lines)) →
    Keeps d past lines →
    Keeps d past (with_ended of_reading (put (record_of.Reading addr k lost accepts posted) ∷ lines))
reading_put d past lines c since r rows addr k lost accepts posted (Some end) is_job rest_is other posts still keeps =
    keeps_ended d past _ end other (sound_reading d past lines addr k lost accepts posted posts keeps.sound)
reading_put d past lines c since r rows addr k lost accepts posted None is_job rest_is next posts still keeps =
    let w = world d past lines in
    let line = put (record_of.Reading addr k lost accepts posted) in
    let b = read_so_far (line ∷ lines) in
    let is_still = subst (λ over. IfOver over (IsStill w (read_so_far lines))) next.0 still in
    record {
      sound = sound_reading d past lines addr k lost accepts posted posts keeps.sound;
      fits = subst (λ j. Fits d w b (with_line line j)) (sym is_job)
          (subst (λ later. FitsAt w b later (notes_in (line ∷ since)) (judged_in c (line ∷ since) b.epoch))
          (sym (put_leaves (rows_of d c) since r rows rest_is))
          (next.1 w b _ _ (record { shut = is_still.0; marked = is_still.1 })));
    }

pub posts_put : (d : DeviceSetup) (past : List Met) (lines : List Line) (c : Command) (since : List Line)
    (rows : List TableRow) (entry : Record) (of_reading : Option End) → job lines ≡ works c since →
    rest d c since ≡ puts_due reading (if_posted of_reading) ∷ rows → IsAfterReading of_reading rows →
    PostsAs (world d past lines) (read_so_far lines) entry → IfOver (ends_epoch rows) (IsStill (world d past lines) (read_so_far lines)) →
    Keeps d past lines →
    Keeps d past (with_ended (end_kept (puts_due reading (if_posted of_reading) ∷ rows) entry) (put entry ∷ lines))
posts_put d past lines c since rows (record_of.Reading addr k lost accepts posted) of_reading is_job rest_is next posts still keeps =
    reading_put d past lines c since _ rows addr k lost accepts posted of_reading is_job rest_is next posts still keeps
posts_put d past lines c since rows entry of_reading is_job rest_is next posts still keeps = absurd posts

pub breaks_put : (d : DeviceSetup) (past : List Met) (lines : List Line) (rows : List TableRow) (entry : Record)
    (of_reading : Option End) → BreaksAs (world d past lines) (read_so_far lines) entry → Sound d past lines →
    Keeps d past (with_ended (end_kept (puts_due reading (if_posted of_reading) ∷ rows) entry) (put entry ∷ lines))
breaks_put d past lines rows (record_of.Broken a seen k lost accepts posted) of_reading breaks sound =
    keeps_ended d past _ Broke tt (sound_broken d past lines a seen k lost accepts posted breaks sound)
breaks_put d past lines rows entry of_reading breaks sound = absurd breaks
