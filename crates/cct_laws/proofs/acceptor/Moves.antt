-- What holds of a device that takes money after every step, and how objects, commands, ends and exchanges keep it.
use Rattle.std.proofs.Common.{◌≡◌, ◌≢◌, ◌∙◌, ℕ, ◌≤◌, cond, true, false, List, ◌∷◌, length, refl, sym, subst, Option, Some, None, arith, rules, [], Bool}
use Rattle.std.specs.Prelude.{⊤}
use Rattle.cct_model.specs.terms.coin.Coin.{Coin}
use Rattle.cct_model.specs.terms.device.DeviceSetup.{DeviceSetup}
use Rattle.cct_model.specs.terms.request.Request.{Request}
use Rattle.cct_model.specs.terms.request.Request.TheVariants.{ResetDevice, SetMask, SetMaster, SetPath, SetDefault, ReadCredits, ReadBills, GetMask, AcceptCount, RouteBill}
use Rattle.cct_model.specs.lines.record.Record.{Record}
use Rattle.cct_model.specs.declared.judging.EpochState.{EpochState}
use Rattle.cct_model.specs.declared.judging.EpochState.TheVariants.{Idle, Running}
use Rattle.cct_model.specs.lines.command.Command.{Command}
use Rattle.cct_model.specs.lines.command.Command.TheVariants as command
use Rattle.cct_model.specs.lines.entry.End.{End}
use Rattle.cct_model.specs.lines.entry.End.TheVariants.{Clean, Moved}
use Rattle.cct_model.specs.Reply.{Reply}
use Rattle.cct_model.specs.History.{Met, heard}
use Rattle.cct_model.specs.History as met
use Rattle.cct_model.specs.Acceptor.{accepts, path_of}
use Rattle.cct_model.specs.Bill.{holds}
use Rattle.cct_model.specs.Device.{IsAcceptor, IsBill, reply_of}
use Rattle.cct_model.specs.Line.{Line, accepted, inhibited, exchange, ended}
use Rattle.cct_model.specs.Line as line
use Rattle.cct_model.specs.Job.{works, job, with_line, epoch, judged_in, sends, puts, credits_request, ident_requests}
use Rattle.cct_model.specs.Rows.{Then, goes_on, if_quiet, TableRow, asks_for, telling, rows_of, end_of, end_answered, ends_first, after, rest, left, sent_once}
use Rattle.cct_model.proofs.Requests.{Each}
use Rattle.cct_model.proofs.Rows.{IfEnd, EachRow, BareEnds, each_told, failed_end, ended_leaves}
use Rattle.cct_model.specs.terms.device.DeviceBody.{DeviceBody}
use Rattle.cct_model.specs.terms.device.DeviceBody.TheVariants.{Acceptor, Bill, Hopper}
use Rattle.cct_model.specs.declared.judging.Judged.{Judged}
use Rattle.cct_model.specs.Refusal.{start_refusal, running_refusal}
use Rattle.cct_model.specs.Claims.{AllPast, coins, mark, base, OrderAt, CoverAt, Near, PaceAt, InOrder, Covers, Pace}
use Rattle.cct_laws.specs.Moving.{MovedAt, NoStopMovesAt}
use Rattle.cct_laws.specs.SinceEpoch.{InEpochAt}
use Rattle.cct_laws.specs.DeviceJobs.{Fate, unheard, silenced, answered, with_ended}
use Rattle.cct_laws.proofs.acceptor.BesideCoins.{World, world, Shut, Silent, Tells, On, IsUnrouted, after_heard, world_heard, on_reset, on_master, on_path, on_default, on_nothing}
use Rattle.cct_laws.proofs.acceptor.Kinds.{on_accepted, on_inhibited, on_alien, on_holding, on_rejecting, on_resetting}
use Rattle.cct_laws.proofs.acceptor.Fits.{ReadSoFar, read_so_far, Notes, notes_in, StateOf, IsIdle, IsRunning, IfOver, ends_epoch, CountsAt, FitsAt, Fits, state_on, at_on, fits_on}
use Rattle.cct_model.proofs.RowEnds.{failed_stays}

-- an end by which a reading has to be made again met a coin, and is none of a stop; and what is accepted is so in an epoch
abbrev pub StandsWell : List Line → Line → Type 0
StandsWell past (ended Moved) = MovedAt past (ended Moved) × NoStopMovesAt past (ended Moved)
StandsWell past (accepted coin) = InEpochAt past (accepted coin)
StandsWell past line = ⊤

-- what holds after every line
pub record Sound (d : DeviceSetup) (past : List Met) (lines : List Line) : Type 0 where
  pub in_order : InOrder lines
  pub covers : Pace lines → Covers lines
  pub well : AllPast StandsWell lines
  pub told : Tells (world d past lines)
  pub marked : mark lines ≤ length (coins lines)
  pub state : StateOf (world d past lines) (mark lines) (base lines) (epoch lines)

-- what holds after every step
pub record Keeps (d : DeviceSetup) (past : List Met) (lines : List Line) : Type 0 where
  pub sound : Sound d past lines
  pub fits : Fits d (world d past lines) (read_so_far lines) (job lines)

-- what a line has to show
pub sound_line : (d : DeviceSetup) (past now : List Met) (lines : List Line) (line : Line) → OrderAt lines line →
    (PaceAt lines line → CoverAt lines line) → StandsWell lines line →
    Tells (world d now (line ∷ lines)) → mark (line ∷ lines) ≤ length (coins (line ∷ lines)) →
    StateOf (world d now (line ∷ lines)) (mark (line ∷ lines)) (base (line ∷ lines)) (epoch (line ∷ lines)) →
    Sound d past lines → Sound d now (line ∷ lines)
sound_line d past now lines line order cover well told marked state sound = record {
  in_order = (order, sound.in_order);
  covers = λ pace. (cover pace.0, sound.covers pace.1);
  well = (well, sound.well);
  told = told;
  marked = marked;
  state = state;
}

-- the pace holds of the last line
pub near_of : (lines : List Line) → Pace lines → Near lines
near_of [] pace = tt
near_of (line ∷ lines) pace = pace.0

-- an object

record IsPiece (lines : List Line) (line : Line) : Type 0 where
  orders : OrderAt lines line
  covers : CoverAt lines line
  well : StandsWell lines line
  book_stays : read_so_far (line ∷ lines) ≡ read_so_far lines
  job_stays : job (line ∷ lines) ≡ job lines

keeps_piece : (d : DeviceSetup) (past now : List Met) (lines : List Line) (line : Line) → IsPiece lines line →
    On (world d past lines) (world d now (line ∷ lines)) → Keeps d past lines → Keeps d now (line ∷ lines)
keeps_piece d past now lines line piece on keeps =
    let v = world d now (line ∷ lines) in
    let same = sym piece.book_stays in
    let state = state_on (world d past lines) v (mark lines) (base lines) (epoch lines) on keeps.sound.state in
    let fits = fits_on d (world d past lines) v (read_so_far lines) (job lines) on keeps.fits in
    record {
      sound = sound_line d past now lines line piece.orders (λ _. piece.covers) piece.well (on.goes.told keeps.sound.told)
          (subst (λ (b : ReadSoFar). b.mark ≤ length (coins (line ∷ lines))) same
          (omega (arith, keeps.sound.marked, on.goes.longer)))
          (subst (λ (b : ReadSoFar). StateOf v b.mark b.base b.epoch) same state) keeps.sound;
      fits = subst (Fits d v (read_so_far (line ∷ lines))) (sym piece.job_stays) (subst (λ (b : ReadSoFar). Fits d v b (job lines)) same fits);
    }

-- an acceptor that lets a coin in has an epoch that runs
lets_in_runs : (d : DeviceSetup) (past : List Met) (lines : List Line) (state : EpochState) (place : ℕ) →
    accepts past place ≡ true → StateOf (world d past lines) (mark lines) (base lines) state → IsRunning state
lets_in_runs d past lines Idle place is rests = absurd (clash (sym is ∙ rests.shut place))
  where
    clash : true ≡ false → ⊥
    clash e = cc
lets_in_runs d past lines (Running mask counter accepts) place is runs = tt

pub runs_not_idle : (state : EpochState) → IsRunning state → state ≢ Idle
runs_not_idle Idle running is = running
runs_not_idle (Running mask counter accepts) running is = absurd cc

pub keeps_accepted : (d : DeviceSetup) (past : List Met) (lines : List Line) (place : ℕ) → IsAcceptor d.body → 1 ≤ place →
    accepts past place ≡ true → Keeps d past lines →
    Keeps d (met.coin place ∷ past) (accepted (record { place = place; path = path_of past place }) ∷ lines)
keeps_accepted d past lines place accepting has_place is keeps =
    let coin : Coin = record { place = place; path = path_of past place } in
    keeps_piece d past (met.coin place ∷ past) lines (accepted coin)
    (record {
      orders = tt;
      covers = tt;
      well = runs_not_idle (epoch lines) (lets_in_runs d past lines (epoch lines) place is keeps.sound.state);
      book_stays = refl;
      job_stays = refl;
    })
    (on_accepted d.body past lines place accepting has_place is) keeps

pub keeps_inhibited : (d : DeviceSetup) (past : List Met) (lines : List Line) (place : ℕ) → IsAcceptor d.body →
    accepts past place ≡ false → Keeps d past lines → Keeps d (met.coin place ∷ past) (inhibited place ∷ lines)
keeps_inhibited d past lines place accepting is keeps =
    keeps_piece d past (met.coin place ∷ past) lines (inhibited place)
    (record { orders = tt; covers = tt; well = tt; book_stays = refl; job_stays = refl })
    (on_inhibited d.body past lines place accepting is) keeps

pub keeps_alien : (d : DeviceSetup) (past : List Met) (lines : List Line) → IsAcceptor d.body → Keeps d past lines →
    Keeps d (met.alien ∷ past) (line.alien ∷ lines)
keeps_alien d past lines accepting keeps =
    keeps_piece d past (met.alien ∷ past) lines line.alien
    (record { orders = tt; covers = tt; well = tt; book_stays = refl; job_stays = refl })
    (on_alien d.body past lines accepting) keeps

pub keeps_reset : (d : DeviceSetup) (past : List Met) (lines : List Line) → Keeps d past lines →
    Keeps d (met.reset ∷ past) (line.reset ∷ lines)
keeps_reset d past lines keeps =
    keeps_piece d past (met.reset ∷ past) lines line.reset
    (record { orders = tt; covers = tt; well = tt; book_stays = refl; job_stays = refl })
    (on_resetting d.body past lines) keeps

-- a bill is put in: it is given back, or it is held, which no line shows
pub keeps_rejecting : (d : DeviceSetup) (past : List Met) (lines : List Line) (place : ℕ) → IsBill d.body →
    holds past place ≡ false → Keeps d past lines → Keeps d (met.coin place ∷ past) (inhibited place ∷ lines)
keeps_rejecting d past lines place billing is keeps =
    keeps_piece d past (met.coin place ∷ past) lines (inhibited place)
    (record { orders = tt; covers = tt; well = tt; book_stays = refl; job_stays = refl })
    (on_rejecting d.body past lines place billing is) keeps

pub keeps_moved_on : (d : DeviceSetup) (past now : List Met) (lines : List Line) →
    On (world d past lines) (world d now lines) → Keeps d past lines → Keeps d now lines
keeps_moved_on d past now lines on keeps = record {
  sound = record {
    in_order = keeps.sound.in_order;
    covers = keeps.sound.covers;
    well = keeps.sound.well;
    told = on.goes.told keeps.sound.told;
    marked = keeps.sound.marked;
    state = state_on (world d past lines) (world d now lines) (mark lines) (base lines) (epoch lines) on keeps.sound.state;
  };
  fits = fits_on d (world d past lines) (world d now lines) (read_so_far lines) (job lines) on keeps.fits;
}

pub keeps_holding : (d : DeviceSetup) (past : List Met) (lines : List Line) (place : ℕ) → IsBill d.body → 1 ≤ place →
    holds past place ≡ true → Keeps d past lines → Keeps d (met.coin place ∷ past) lines
keeps_holding d past lines place billing has_place is keeps =
    keeps_moved_on d past (met.coin place ∷ past) lines (on_holding d.body past lines place billing has_place is) keeps

-- the end of a job

-- an end but a clean one, and but one by which a reading has to be made again
abbrev pub IsOtherEnd : End → Type 0
IsOtherEnd Clean = ⊥
IsOtherEnd Moved = ⊥
IsOtherEnd end = ⊤

abbrev pub IfOther : Option End → Type 0
IfOther found = IfEnd IsOtherEnd found

sound_ended : (d : DeviceSetup) (past : List Met) (lines : List Line) (end : End) → IsOtherEnd end → Sound d past lines → Sound d past (ended end ∷ lines)
sound_ended d past lines Clean other sound = absurd other
sound_ended d past lines Moved other sound = absurd other
sound_ended d past lines end other sound =
    sound_line d past past lines (ended end) tt (λ _. tt) tt sound.told sound.marked sound.state sound

pub keeps_ended : (d : DeviceSetup) (past : List Met) (lines : List Line) (end : End) → IsOtherEnd end → Sound d past lines → Keeps d past (ended end ∷ lines)
keeps_ended d past lines end other sound = record { sound = sound_ended d past lines end other sound; fits = tt }

pub keeps_with_ended : (d : DeviceSetup) (past : List Met) (lines : List Line) (end : Option End) → IfOther end → Keeps d past lines → Keeps d past (with_ended end lines)
keeps_with_ended d past lines None other keeps = keeps
keeps_with_ended d past lines (Some end) other keeps = keeps_ended d past lines end other keeps.sound

-- a command is taken

pub idle_taken : (mask : ℕ) (d : DeviceSetup) (state : EpochState) → start_refusal mask d state ≡ None → IsIdle state
idle_taken mask d Idle fine = tt
idle_taken mask d (Running running counter accepts) fine = absurd cc

pub running_taken : (state : EpochState) → running_refusal state ≡ None → IsRunning state
running_taken Idle fine = absurd cc
running_taken (Running mask counter accepts) fine = tt

-- a request that changes nothing of what the rows after it need
abbrev pub IsNeutral : Request → Type 0
IsNeutral ResetDevice = ⊥
IsNeutral ReadCredits = ⊥
IsNeutral ReadBills = ⊥
IsNeutral GetMask = ⊥
IsNeutral AcceptCount = ⊥
IsNeutral (SetMaster value) = ⊥
IsNeutral (SetMask mask) = ⊥
IsNeutral (RouteBill way) = ⊥
IsNeutral q = ⊤

pub neutral_if : (b : Bool) (q r : Request) → IsNeutral q → IsNeutral r → IsNeutral (cond b q r)
neutral_if true q r one other = one
neutral_if false q r one other = other

-- or one that reads the accept counter
abbrev pub IsTold : Request → Type 0
IsTold AcceptCount = ⊤
IsTold q = IsNeutral q

pub ident_told : (body : DeviceBody) → Each IsTold (ident_requests body)
ident_told (Acceptor accepts values ids) = search rules
ident_told (Hopper life value) = search rules
ident_told (Bill accepts values ids) = search rules

pub neutral_fits : (w : World) (b : ReadSoFar) (q : Request) (behind : Then) (rows : List TableRow) (notes : Notes)
    (judged : Judged) → IsNeutral q → FitsAt w b rows notes judged →
    FitsAt w b (asks_for q behind ∷ rows) notes judged
neutral_fits w b ResetDevice behind rows notes judged neutral fits = absurd neutral
neutral_fits w b ReadCredits behind rows notes judged neutral fits = absurd neutral
neutral_fits w b ReadBills behind rows notes judged neutral fits = absurd neutral
neutral_fits w b GetMask behind rows notes judged neutral fits = absurd neutral
neutral_fits w b AcceptCount behind rows notes judged neutral fits = absurd neutral
neutral_fits w b (SetMaster value) behind rows notes judged neutral fits = absurd neutral
neutral_fits w b q behind rows notes judged neutral fits = fits

-- rows that only report need nothing, after the accept counter too
told_counts : (w : World) (b : ReadSoFar) (q : Request) (behind : Then) (rows : List TableRow) (notes : Notes) →
    IsTold q → CountsAt w b (asks_for q behind ∷ rows) notes
told_counts w b ReadCredits behind rows notes told = absurd told
told_counts w b ReadBills behind rows notes told = absurd told
told_counts w b q behind rows notes told = tt

asked_fits : (w : World) (b : ReadSoFar) (q : Request) (behind : Then) (rows : List TableRow) (notes : Notes)
    (judged : Judged) → IsTold q → CountsAt w b rows notes → FitsAt w b rows notes judged →
    FitsAt w b (asks_for q behind ∷ rows) notes judged
asked_fits w b AcceptCount behind rows notes judged told counts fits = counts
asked_fits w b ResetDevice behind rows notes judged told counts fits = absurd told
asked_fits w b ReadCredits behind rows notes judged told counts fits = absurd told
asked_fits w b ReadBills behind rows notes judged told counts fits = absurd told
asked_fits w b GetMask behind rows notes judged told counts fits = absurd told
asked_fits w b (SetMaster value) behind rows notes judged told counts fits = absurd told
asked_fits w b q behind rows notes judged told counts fits = fits

pub told_fits : (w : World) (b : ReadSoFar) (qs : List Request) (notes : Notes) (judged : Judged) →
    Each IsTold qs → FitsAt w b (telling qs) notes judged
told_fits w b [] notes judged each = tt
told_fits w b (q ∷ []) notes judged each = asked_fits w b q _ [] notes judged each.0 tt tt
told_fits w b (q ∷ r ∷ []) notes judged each =
    asked_fits w b q _ (telling (r ∷ [])) notes judged each.0 (told_counts w b r _ [] notes each.1.0)
    (told_fits w b (r ∷ []) notes judged each.1)
told_fits w b (q ∷ r ∷ s ∷ qs) notes judged each =
    asked_fits w b q _ (telling (r ∷ s ∷ qs)) notes judged each.0
    (told_counts w b r _ (telling (s ∷ qs)) notes each.1.0) (told_fits w b (r ∷ s ∷ qs) notes judged each.1)

-- the rows that read the last events, of a device of a kind
pub quiet_fits : (body : DeviceBody) (w : World) (b : ReadSoFar) (rows : List TableRow) (notes : Notes) (judged : Judged) →
    IsIdle b.epoch → Silent w → FitsAt w b (asks_for (credits_request body) if_quiet ∷ rows) notes judged
quiet_fits (Acceptor accepts values ids) w b rows notes judged idle silent = (idle, silent)
quiet_fits (Hopper life value) w b rows notes judged idle silent = (idle, silent)
quiet_fits (Bill accepts values ids) w b rows notes judged idle silent = (idle, silent)

pub reading_counts : (body : DeviceBody) (w : World) (b : ReadSoFar) (rows : List TableRow) (notes : Notes) →
    IsRunning b.epoch → IfOver (ends_epoch rows) (Shut w) →
    CountsAt w b (asks_for (credits_request body) goes_on ∷ rows) notes
reading_counts (Acceptor accepts values ids) w b rows notes running shut = (running, shut)
reading_counts (Hopper life value) w b rows notes running shut = (running, shut)
reading_counts (Bill accepts values ids) w b rows notes running shut = (running, shut)

-- an exchange

pub sound_exchange : (d : DeviceSetup) (past now : List Met) (lines : List Line) (asked : Option Request) (got : Option Reply) → On (world d past lines) (world d now lines) →
    Sound d past lines → Sound d now (exchange asked got ∷ lines)
sound_exchange d past now lines asked got on sound =
    sound_line d past now lines (exchange asked got) tt (λ _. tt) tt (on.goes.told sound.told) sound.marked
    (state_on (world d past lines) (world d now lines) (mark lines) (base lines) (epoch lines) on sound.state) sound

-- what a job needs after an exchange
abbrev pub FitsBehind : DeviceSetup → List Met → List Line → Command → List Line → Type 0
FitsBehind d now lines c since =
    FitsAt (world d now lines) (read_so_far lines) (rest d c since) (notes_in since) (judged_in c since (epoch lines))

pub keeps_exchange : (d : DeviceSetup) (past now : List Met) (lines : List Line) (c : Command) (since : List Line) (asked : Option Request) (got : Option Reply) → job lines ≡ works c since →
    On (world d past lines) (world d now lines) → Sound d past lines → FitsBehind d now (exchange asked got ∷ lines) c (exchange asked got ∷ since) → Keeps d now (exchange asked got ∷ lines)
keeps_exchange d past now lines c since asked got is_job on sound fits = record {
  sound = sound_exchange d past now lines asked got on sound;
  fits = subst (λ j. Fits d (world d now lines) (read_so_far (exchange asked got ∷ lines)) (with_line (exchange asked got) j)) (sym is_job) fits;
}

pub fits_at : (d : DeviceSetup) (past : List Met) (lines : List Line) (c : Command) (since : List Line) → job lines ≡ works c since → Keeps d past lines → FitsBehind d past lines c since
fits_at d past lines c since is_job keeps = subst (Fits d (world d past lines) (read_so_far lines)) is_job keeps.fits

-- what comes of an exchange
abbrev pub KeepsAsk : DeviceSetup → List Met → List Line → Command → List Line → Request → Option Request → Option Reply → Type 0
KeepsAsk d past lines c since q asked got =
    Keeps d (heard asked ∷ past) (with_ended (end_of d c (exchange (Some q) got) since (epoch lines)) (exchange (Some q) got ∷ lines))

bare_other : (d : DeviceSetup) (c : Command) → EachRow (BareEnds IsOtherEnd) (rows_of d c)
bare_other d (command.Ident addr) = each_told (BareEnds IsOtherEnd) (λ q. tt) (λ q. tt) (ident_requests d.body)
bare_other d c = search rules

pub failure_other : (d : DeviceSetup) (c : Command) (q : Request) (since : List Line) (state : EpochState) →
    IfOther (end_of d c (exchange (Some q) None) since state)
failure_other d c q since state = failed_end IsOtherEnd d c q since state (bare_other d c) tt

-- it shows nothing of credits, a mask, an accept counter or a reading
unanswered_fits : (d : DeviceSetup) (now : List Met) (lines : List Line) (c : Command) (since : List Line) (q : Request) →
    FitsAt (world d now lines) (read_so_far lines) (rest d c (exchange (Some q) None ∷ since)) (notes_in since) (judged_in c since (epoch lines)) →
    FitsBehind d now (exchange (Some q) None ∷ lines) c (exchange (Some q) None ∷ since)
unanswered_fits d now lines c since ReadCredits fits = fits
unanswered_fits d now lines c since ReadBills fits = fits
unanswered_fits d now lines c since GetMask fits = fits
unanswered_fits d now lines c since AcceptCount fits = fits
unanswered_fits d now lines c since q fits = fits

-- an exchange without its reply is tried again, or ends the job
keeps_failed : (d : DeviceSetup) (past now : List Met) (lines : List Line) (c : Command) (since : List Line) (q : Request) → sent_once (rest d c since) ≡ false → job lines ≡ works c since →
    On (world d past lines) (world d now lines) → Keeps d past lines →
    Keeps d now (with_ended (end_of d c (exchange (Some q) None) since (epoch lines)) (exchange (Some q) None ∷ lines))
keeps_failed d past now lines c since q again is_job on keeps =
    let line = exchange (Some q) None in
    let before = at_on (world d past lines) (world d now lines) (read_so_far lines) (rest d c since) (notes_in since) (judged_in c since (epoch lines)) on (fits_at d past lines c since is_job keeps) in
    let stays = subst (λ n. FitsAt (world d now lines) (read_so_far lines) (after (rows_of d c) n) (notes_in since) (judged_in c since (epoch lines))) (sym (failed_stays (rows_of d c) (Some q) since again)) before in
    keeps_with_ended d now (line ∷ lines) _ (failure_other d c q since (epoch lines))
    (keeps_exchange d past now lines c since (Some q) None is_job on keeps.sound (unanswered_fits d now lines c since q stays))

-- a request that opens no place, and routes no bill
abbrev pub IsMild : Request → Type 0
IsMild (SetMask mask) = ⊥
IsMild (SetMaster value) = value ≡ 0
IsMild (RouteBill way) = ⊥
IsMild q = ⊤

pub mild_unrouted : (q : Request) → IsMild q → IsUnrouted (Some q)
mild_unrouted (RouteBill way) mild = mild
mild_unrouted q mild = tt

pub on_after : (w : World) (q : Request) → IsMild q → On w (after_heard w (Some q))
on_after w ResetDevice mild = on_reset w
on_after w (SetMask mask) mild = absurd mild
on_after w (SetMaster value) mild = subst (λ n. On w (after_heard w (Some (SetMaster n)))) (sym mild) (on_master w)
on_after w (SetPath place path) mild = on_path w place path
on_after w (SetDefault path) mild = on_default w path
on_after w (RouteBill way) mild = absurd mild
on_after w q mild = on_nothing w

pub on_heard : (d : DeviceSetup) (past : List Met) (lines : List Line) (q : Request) → IsMild q →
    On (world d past lines) (world d (heard (Some q) ∷ past) lines)
on_heard d past lines q mild =
    subst (On (world d past lines)) (sym (world_heard d.body past lines (Some q) (mild_unrouted q mild)))
    (on_after (world d past lines) q mild)

pub on_unheard : (d : DeviceSetup) (past : List Met) (lines : List Line) →
    On (world d past lines) (world d (heard None ∷ past) lines)
on_unheard d past lines =
    subst (On (world d past lines)) (sym (world_heard d.body past lines None tt)) (on_nothing (world d past lines))

-- so what is left to show is what the reply brings
pub by_fate : (d : DeviceSetup) (past : List Met) (lines : List Line) (c : Command) (since : List Line) (q : Request) (asked : Option Request) (got : Option Reply) →
    sent_once (rest d c since) ≡ false → IsMild q → job lines ≡ works c since → Keeps d past lines →
    ((y : Reply) → reply_of d past q ≡ Some y → KeepsAsk d past lines c since q (Some q) (Some y)) → Fate d past q asked got → KeepsAsk d past lines c since q asked got
by_fate d past lines c since q asked got again mild is_job keeps replied unheard =
    keeps_failed d past (heard None ∷ past) lines c since q again is_job (on_unheard d past lines) keeps
by_fate d past lines c since q asked got again mild is_job keeps replied silenced =
    keeps_failed d past (heard (Some q) ∷ past) lines c since q again is_job (on_heard d past lines q mild) keeps
by_fate d past lines c since q asked got again mild is_job keeps replied (answered y gives) = replied y gives

-- a job is at these rows
pub record AtRows (d : DeviceSetup) (past : List Met) (lines : List Line) (c : Command) (since : List Line)
    (rows : List TableRow) : Type 0 where
  pub is_job : job lines ≡ works c since
  pub rest_is : rest d c since ≡ rows
  pub left_is : left d c since (epoch lines) ≡ rows
  pub keeps : Keeps d past lines

-- an answer to the first of them brings its end, whatever the lines are then
pub answered_over : (d : DeviceSetup) (past : List Met) (lines : List Line) (c : Command) (since : List Line)
    (rows : List TableRow) (q : Request) (y : Reply) (more : List Line) → AtRows d past lines c since rows →
    Keeps d (heard (Some q) ∷ past)
    (with_ended (end_answered rows y (judged_in c (exchange (Some q) (Some y) ∷ since) (epoch lines))) more) →
    Keeps d (heard (Some q) ∷ past)
    (with_ended (end_of d c (exchange (Some q) (Some y)) since (epoch lines)) more)
answered_over d past lines c since rows q y more at keeps =
    subst (λ first_rows. Keeps d (heard (Some q) ∷ past)
    (with_ended (end_answered first_rows y (judged_in c (exchange (Some q) (Some y) ∷ since) (epoch lines))) more))
    (sym at.left_is) keeps

pub answered_at : (d : DeviceSetup) (past : List Met) (lines : List Line) (c : Command) (since : List Line)
    (rows : List TableRow) (q : Request) (y : Reply) → AtRows d past lines c since rows →
    Keeps d (heard (Some q) ∷ past)
    (with_ended (end_answered rows y (judged_in c (exchange (Some q) (Some y) ∷ since) (epoch lines)))
    (exchange (Some q) (Some y) ∷ lines)) →
    KeepsAsk d past lines c since q (Some q) (Some y)
answered_at d past lines c since rows q y at keeps =
    answered_over d past lines c since rows q y (exchange (Some q) (Some y) ∷ lines) at keeps

-- and leaves those after it
pub next_at : (d : DeviceSetup) (past : List Met) (lines : List Line) (c : Command) (since : List Line) (r : TableRow)
    (rows : List TableRow) (q : Request) (y : Reply) → AtRows d past lines c since (r ∷ rows) →
    ends_first (r ∷ rows) (Some y) ≡ true → IsMild q →
    FitsAt (after_heard (world d past lines) (Some q)) (read_so_far (exchange (Some q) (Some y) ∷ lines)) rows
    (notes_in (exchange (Some q) (Some y) ∷ since)) (judged_in c (exchange (Some q) (Some y) ∷ since) (epoch lines)) →
    Keeps d (heard (Some q) ∷ past) (exchange (Some q) (Some y) ∷ lines)
next_at d past lines c since r rows q y at ends mild fits =
    let line = exchange (Some q) (Some y) in
    let now = heard (Some q) ∷ past in
    let v = world d now lines in
    let is = sym (world_heard d.body past lines (Some q) (mild_unrouted q mild)) in
    let fits_now = subst (λ w. FitsAt w (read_so_far (line ∷ lines)) rows (notes_in (line ∷ since))
    (judged_in c (line ∷ since) (epoch lines))) is fits in
    keeps_exchange d past now lines c since (Some q) (Some y) at.is_job (on_heard d past lines q mild) at.keeps.sound
    (subst (λ later. FitsAt v (read_so_far (line ∷ lines)) later (notes_in (line ∷ since))
    (judged_in c (line ∷ since) (epoch lines)))
    (sym (ended_leaves (rows_of d c) (Some q) (Some y) since r rows at.rest_is ends)) fits_now)

-- a row shows its request or its record
pub request_is : (q r : Request) → sends q ≡ sends r → q ≡ r
request_is q r row = cc

pub entry_is : (a b : Record) → puts a ≡ puts b → a ≡ b
entry_is a b row = cc
