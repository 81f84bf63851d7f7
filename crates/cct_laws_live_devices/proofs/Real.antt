-- The money of what live hosts reported is right in their world.
use Rattle.std.proofs.Common.{◌≡◌, ℕ, suc, ◌+◌, ◌==◌, Bool, true, false, cond, List, [], ◌∷◌, ◌++◌, reverse, refl, sym, ap, ◌∙◌, subst, Option, Some, None, All, arith}
use Rattle.cct_model.specs.terms.coin.Coin.{Coin}
use Rattle.cct_model.specs.terms.device.DeviceBody.{DeviceBody}
use Rattle.cct_model.specs.terms.device.DeviceBody.TheVariants.{Acceptor, Bill, Hopper}
use Rattle.cct_model.specs.terms.device.DeviceSetup.{DeviceSetup}
use Rattle.cct_model.specs.terms.device.Setup.{Setup}
use Rattle.cct_model.specs.terms.request.Request.{Request}
use Rattle.cct_model.specs.lines.record.Record.{Record}
use Rattle.cct_model.specs.lines.entry.Entry.{Entry}
use Rattle.cct_model.specs.lines.entry.Entry.TheVariants as entry
use Rattle.cct_model.specs.Claims.{AllPast, CoverAt, Covers, InOrder, OrderAt, Pace, coins, mark, tally}
use Rattle.cct_model.specs.Claims as claims
use Rattle.cct_model.specs.Device.{IsAcceptor, IsHopper}
use Rattle.cct_model.specs.Exchange.{asked}
use Rattle.cct_model.specs.History.{Met}
use Rattle.cct_model.specs.Job.{address_of}
use Rattle.cct_model.specs.Line.{Line, accepted, exchange, fell, put, taken}
use Rattle.cct_model.specs.Line as line
use Rattle.cct_model.specs.Order.{order}
use Rattle.cct_model.specs.Paid.{AreFresh, Paid, fallen}
use Rattle.cct_model.specs.Records.{records, records_at}
use Rattle.cct_model.specs.Sums.{coins_lost, coins_paid, coins_posted, sum_in}
use Rattle.cct_model.specs.Transcript.{dispensed_by, doses, doses_of, got_by, lines_of, onto, owner, stacked_line}
use Rattle.cct_laws.specs.Coins.{all_fallen, all_paid}
use Rattle.cct_laws.specs.Law.{IsOf}
use Rattle.cct_laws.specs.Recorded.{put_in}
use Rattle.cct_laws.proofs.acceptor.Tallies.{always_tallied}
use Rattle.cct_laws.proofs.money.FromRecordsAlone.{put_recorded}
use Rattle.cct_laws.proofs.orders.PaidCoins.{fallen_all, fallen_closed}
use Rattle.cct_laws.proofs.text.Scripts.{legal_right}
use Rattle.std.proofs.lemmas.List.{append_cancel_right}
use Rattle.std.proofs.lemmas.List.Elements.{All-append, All-cons, All-nil}
use Rattle.cct_model.specs.Honest.{Honest, HonestPast}
use Rattle.cct_model.specs.Legal.{EntriesOfRestart, LegalFrom}
use Rattle.cct_model.specs.Script.{IsCrash}
use Rattle.cct_model.specs.Setup.{IsSoundSetup}
use Rattle.cct_model.specs.lines.command.CrashAt.{CrashAt}
use Rattle.cct_laws_live.specs.Life.{EachLife, IsLife}
use Rattle.cct_laws_live.specs.LiveStep.{LiveStep}
use Rattle.cct_laws_live.specs.LiveStep as live
use Rattle.cct_laws_live.specs.Live.{EachLive, IsTellable, LiveFrom, started}
use Rattle.cct_laws_live.proofs.Carrying.{whole}
use Rattle.cct_laws_live.proofs.Followed.{live_grown}
use Rattle.cct_laws_live.proofs.Joining.{lives_whole}
use Rattle.cct_laws_live.proofs.Life.{all_tell}
use Rattle.cct_laws_live_devices.specs.Real.{AreAmong, CountedAt, CountsTo, IsRightIn, accepted_at, fell_at, posted, records_told}
use Rattle.cct_laws_live_devices.specs.World.{OverDevices}
use Rattle.cct_laws_live_devices.specs.Whole.{IsWhole}
use Rattle.cct_laws_live_devices.specs.Played.{mended}
use Rattle.cct_laws_live_devices.proofs.Mending.{mended_honest, mended_lines, mended_records}
use Rattle.cct_laws_live_devices.proofs.Among.{posts_among}
use Rattle.cct_laws_live_devices.proofs.Growing.{world_from}
use Rattle.cct_laws_live_devices.proofs.Unseen.{alike_told}

-- the coins that an acceptor accepted are those of its entries
module _ (A : Type 0) (f : List Line → A) where
  -- a line that doesn't count
  pub aside : (here : Bool) (l : Line) (lines : List Line) → f (l ∷ lines) ≡ f lines → f (cond here (l ∷ []) [] ++ lines) ≡ f lines
  aside true l lines same = same
  aside false l lines same = refl

coin_here : (here : Bool) (c : Coin) (lines : List Line) (before : List Coin) → coins lines ≡ before →
    coins (cond here (accepted c ∷ []) [] ++ lines) ≡ cond here (c ∷ before) before
coin_here true c lines before same = ap (λ cs. c ∷ cs) same
coin_here false c lines before same = same

fell_here : (here : Bool) (lines : List Line) (before : ℕ) → all_fallen lines ≡ before →
    all_fallen (cond here (fell ∷ []) [] ++ lines) ≡ cond here (suc before) before
fell_here true lines before same = ap suc same
fell_here false lines before same = same

no_coins : (body : DeviceBody) (serial : ℕ) (past : List Met) (q : Option Request) (lines : List Line) → IsAcceptor body →
    coins (doses body serial past q ++ lines) ≡ coins lines
no_coins (Acceptor accepts values ids) serial past q lines is = refl
no_coins (Hopper life value) serial past q lines is = absurd is
no_coins (Bill accepts values ids) serial past q lines is = absurd is

dispensed_none : (count : Option ℕ) (lines : List Line) → all_fallen (dispensed_by count ++ lines) ≡ all_fallen lines
dispensed_none None lines = refl
dispensed_none (Some count) lines = refl

stacked_none : (place : Option ℕ) (lines : List Line) → all_fallen (stacked_line place ++ lines) ≡ all_fallen lines
stacked_none None lines = refl
stacked_none (Some place) lines = refl

none_fall : (body : DeviceBody) (serial : ℕ) (past : List Met) (q : Option Request) (lines : List Line) →
    all_fallen (doses body serial past q ++ lines) ≡ all_fallen lines
none_fall (Acceptor accepts values ids) serial past q lines = refl
none_fall (Hopper life value) serial past q lines = dispensed_none _ lines
none_fall (Bill accepts values ids) serial past q lines = stacked_none _ lines

wired : (A : Type 0) (f : List Line → A) (here : Bool) (l : Line) (front lines : List Line) →
    ((ls : List Line) → f (l ∷ ls) ≡ f ls) → f (front ++ lines) ≡ f lines →
    f ((cond here (l ∷ []) [] ++ front) ++ lines) ≡ f lines
wired A f true l front lines none same = none (front ++ lines) ∙ same
wired A f false l front lines none same = same

coins_told : (d : DeviceSetup) (past : List Entry) → IsAcceptor d.body → coins (lines_of d past) ≡ accepted_at d.addr past
coins_told d [] is = refl
coins_told d (entry.Accepted addr c ∷ past) is =
    coin_here (addr == d.addr) c (lines_of d past) (accepted_at d.addr past) (coins_told d past is)
coins_told d (entry.Inhibited addr place ∷ past) is =
    aside (List Coin) coins (addr == d.addr) (line.inhibited place) (lines_of d past) refl ∙ coins_told d past is
coins_told d (entry.Alien addr ∷ past) is =
    aside (List Coin) coins (addr == d.addr) line.alien (lines_of d past) refl ∙ coins_told d past is
coins_told d (entry.Fell addr ∷ past) is =
    aside (List Coin) coins (addr == d.addr) fell (lines_of d past) refl ∙ coins_told d past is
coins_told d (entry.Reset addr ∷ past) is =
    aside (List Coin) coins (addr == d.addr) line.reset (lines_of d past) refl ∙ coins_told d past is
coins_told d (entry.Taken c ∷ past) is =
    aside (List Coin) coins (address_of c == d.addr) (taken c) (lines_of d past) refl ∙ coins_told d past is
coins_told d (entry.Wire addr sent piece ∷ past) is =
    wired (List Coin) coins (addr == d.addr) (exchange (asked d.kind sent) (got_by d sent piece)) (doses_of d past sent)
    (lines_of d past) (λ ls. refl) (no_coins d.body d.serial _ _ (lines_of d past) is)
    ∙ coins_told d past is
coins_told d (entry.Put r ∷ past) is =
    aside (List Coin) coins (owner past r == d.addr) (put r) (lines_of d past) refl ∙ coins_told d past is
coins_told d (entry.Kept r ∷ past) is =
    aside (List Coin) coins (owner past r == d.addr) (put r) (lines_of d past) refl ∙ coins_told d past is
coins_told d (entry.Ended addr end ∷ past) is =
    aside (List Coin) coins (addr == d.addr) (line.ended end) (lines_of d past) refl ∙ coins_told d past is
coins_told d (entry.Crash n ∷ past) is = coins_told d past is
coins_told d (e ∷ past) is = coins_told d past is

fell_told : (d : DeviceSetup) (past : List Entry) → all_fallen (lines_of d past) ≡ fell_at d.addr past
fell_told d [] = refl
fell_told d (entry.Accepted addr c ∷ past) =
    aside ℕ all_fallen (addr == d.addr) (accepted c) (lines_of d past) refl ∙ fell_told d past
fell_told d (entry.Inhibited addr place ∷ past) =
    aside ℕ all_fallen (addr == d.addr) (line.inhibited place) (lines_of d past) refl ∙ fell_told d past
fell_told d (entry.Alien addr ∷ past) =
    aside ℕ all_fallen (addr == d.addr) line.alien (lines_of d past) refl ∙ fell_told d past
fell_told d (entry.Fell addr ∷ past) =
    fell_here (addr == d.addr) (lines_of d past) (fell_at d.addr past) (fell_told d past)
fell_told d (entry.Reset addr ∷ past) =
    aside ℕ all_fallen (addr == d.addr) line.reset (lines_of d past) refl ∙ fell_told d past
fell_told d (entry.Taken c ∷ past) =
    aside ℕ all_fallen (address_of c == d.addr) (taken c) (lines_of d past) refl ∙ fell_told d past
fell_told d (entry.Wire addr sent piece ∷ past) =
    wired ℕ all_fallen (addr == d.addr) (exchange (asked d.kind sent) (got_by d sent piece)) (doses_of d past sent)
    (lines_of d past) (λ ls. refl) (none_fall d.body d.serial _ _ (lines_of d past))
    ∙ fell_told d past
fell_told d (entry.Put r ∷ past) =
    aside ℕ all_fallen (owner past r == d.addr) (put r) (lines_of d past) refl ∙ fell_told d past
fell_told d (entry.Kept r ∷ past) =
    aside ℕ all_fallen (owner past r == d.addr) (put r) (lines_of d past) refl ∙ fell_told d past
fell_told d (entry.Ended addr end ∷ past) =
    aside ℕ all_fallen (addr == d.addr) (line.ended end) (lines_of d past) refl ∙ fell_told d past
fell_told d (entry.Crash n ∷ past) = fell_told d past
fell_told d (e ∷ past) = fell_told d past

-- sums over lines are sums over the records among them
paid_put : (lines : List Line) → all_paid lines ≡ sum_in coins_paid (put_in lines)
paid_put [] = refl
paid_put (put r ∷ lines) = ap (λ n. coins_paid r + n) (paid_put lines)
paid_put (l ∷ lines) = paid_put lines

tally_put : (lines : List Line) → tally lines ≡ sum_in coins_posted (put_in lines) + sum_in coins_lost (put_in lines)
tally_put [] = refl
tally_put (put r ∷ lines) = let before = tally_put lines in omega (arith, before)
tally_put (l ∷ lines) = tally_put lines

-- at each item
counts_to : (item : Option (List Coin)) (before many : ℕ) → claims.count_or before item ≡ many → CountsTo item many
counts_to None before many same = tt
counts_to (Some known) before many same = same

tallied_at : (lines : List Line) → InOrder lines → Covers lines → mark lines ≡ tally lines
tallied_at [] order covers = refl
tallied_at (l ∷ past) order covers = (always_tallied (l ∷ past) order covers).0

counted_all : (lines : List Line) → InOrder lines → Covers lines → AllPast CountedAt lines
counted_all [] order covers = tt
counted_all (l ∷ past) order covers = (
  counts_to (claims.told past l) (mark past) (tally (l ∷ past)) (tallied_at (l ∷ past) order covers),
  counted_all past order.1 covers.1,
)

pub right_from : (capacity : ℕ) (setup : Setup) (steps : List LiveStep) (world past : List Entry) → IsSoundSetup setup →
    All IsTellable steps → LiveFrom capacity setup [] steps past → OverDevices setup world past → IsRightIn setup world past
right_from capacity setup steps world past sound range is over =
    let played = world_from capacity setup steps world past range is over in
    let now = mended setup world in
    let right = legal_right capacity setup played.steps (reverse now) sound played.in_range
    (subst (LegalFrom capacity setup [] played.steps) (sym (whole now)) played.legal) in
    let honest : Honest (reverse now) = subst HonestPast (sym (whole now)) (mended_honest setup world over.honest) in
    let lines : (d : DeviceSetup) → lines_of d now ≡ lines_of d world = (λ d. mended_lines setup d world over.answered) in
    let in_order : (d : DeviceSetup) → IsOf setup d → InOrder (lines_of d world) =
    (λ d own. subst InOrder (lines d) (subst (λ es. InOrder (lines_of d es)) (whole now) (right.in_order d own honest))) in
    let covers : (d : DeviceSetup) → IsOf setup d → Pace (lines_of d world) → Covers (lines_of d world) =
    (λ d own. subst (λ ls. Pace ls → Covers ls) (lines d)
    (subst (λ es. Pace (lines_of d es) → Covers (lines_of d es)) (whole now) (right.covers d own honest))) in
    let paid : (d : DeviceSetup) → IsOf setup d → IsHopper d.body → Paid (lines_of d world) =
    (λ d own paying. subst Paid (lines d) (subst (λ es. Paid (lines_of d es)) (whole now) (right.paid d own paying honest))) in
    let told_records : records world ≡ records past = (alike_told world).recorded ∙ ap records over.tells in
    let of_device : (d : DeviceSetup) → put_in (lines_of d world) ≡ records_told d past =
    (λ d. put_recorded d world ∙ ap (records_at d.addr) told_records) in
    let paid_there : (d : DeviceSetup) → all_paid (lines_of d world) ≡ sum_in coins_paid (records_told d past) =
    (λ d. paid_put (lines_of d world) ∙ ap (sum_in coins_paid) (of_device d)) in
    record {
      fresh =
          subst AreFresh (mended_records setup world ∙ told_records) (subst (λ es. AreFresh (records es)) (whole now) right.fresh);
      posts = λ d own.
          subst (λ rs. AreAmong (posted rs) (coins (lines_of d world))) (of_device d)
          (posts_among (lines_of d world) (in_order d own));
      accepted = λ d taking. coins_told d world taking;
      counted = λ d own pace. counted_all (lines_of d world) (in_order d own) (covers d own pace);
      tallies = λ d own pace. always_tallied (lines_of d world) (in_order d own) (covers d own pace);
      recorded = λ d own pace.
          sym (tallied_at (lines_of d world) (in_order d own) (covers d own pace) ∙ tally_put (lines_of d world)
          ∙ ap (λ rs. sum_in coins_posted rs + sum_in coins_lost rs) (of_device d));
      paid = paid;
      fell = λ d own paying.
          sym (fell_told d world) ∙ fallen_all (lines_of d world) (paid d own paying)
          ∙ ap (λ n. n + fallen (lines_of d world)) (paid_there d);
      closed = λ d own paying none.
          sym (fell_told d world) ∙ fallen_closed (lines_of d world) (paid d own paying) none ∙ paid_there d;
    }

pub world_right : EachLive (λ capacity setup transcript. (world : List Entry) → OverDevices setup world (onto [] transcript) →
    IsRightIn setup world (onto [] transcript))
world_right capacity setup steps transcript sound range is world over =
    right_from capacity setup steps world (onto [] transcript) sound range is over

-- one life after those before it
pub life_whole : (capacity : ℕ) (setup : Setup) (found : List Record) (steps : List LiveStep) (past whole : List Entry) →
    IsLife capacity setup found steps past → IsWhole capacity setup found past whole →
    (all : List LiveStep) × All IsTellable all × LiveFrom capacity setup [] all whole
life_whole capacity setup found steps past whole life with =
    let joined = lives_whole capacity setup with.steps with.before with.news with.at steps past with.lived with.restarted
    (subst (λ rs. LiveFrom capacity setup (started rs) steps past) (sym with.left) life.live) in
    let same : with.told ≡ joined.told =
    append_cancel_right with.told joined.told (started found)
    (sym with.ends ∙ joined.ends ∙ ap (λ rs. joined.told ++ started rs) with.left) in (
      with.steps ++ live.start with.at ∷ steps,
      All-append IsTellable with.steps (live.start with.at ∷ steps) with.in_range
          (All-cons IsTellable (live.start with.at) steps with.crash (all_tell steps life.steps_are)),
      subst (LiveFrom capacity setup [] (with.steps ++ live.start with.at ∷ steps))
          (sym (with.all ∙ ap (λ es. es ++ (with.news ++ with.before)) same)) joined.live,
    )

pub life_right : EachLife (λ capacity setup found past. (whole world : List Entry) → IsWhole capacity setup found past whole →
    OverDevices setup world whole → IsRightIn setup world whole)
life_right capacity setup found steps past sound life whole world with over =
    let all = life_whole capacity setup found steps past whole life with in
    right_from capacity setup all.0 world whole sound all.1 all.2 over

-- the first life over a new journal is all that was reported
pub first_whole : (capacity : ℕ) (setup : Setup) (steps : List LiveStep) (past : List Entry) →
    IsLife capacity setup [] steps past → IsWhole capacity setup [] past past
first_whole capacity setup steps past life =
    let grown = live_grown capacity setup steps (started []) past life.live in
    record {
      steps = [];
      before = [];
      at = None;
      news = entry.Crash 0 ∷ [];
      told = grown.0;
      in_range = All-nil IsTellable;
      crash = tt;
      lived = refl;
      restarted = refl;
      left = refl;
      ends = grown.1;
      all = grown.1;
    }

-- a life that is after another one with all before it
pub next_whole : (capacity : ℕ) (setup : Setup) (found left : List Record) (steps : List LiveStep)
    (past whole next news told : List Entry) (at : Option CrashAt) → IsLife capacity setup found steps past →
    IsWhole capacity setup found past whole → IsCrash at → EntriesOfRestart setup whole at news →
    records (news ++ whole) ≡ left → next ≡ told ++ started left →
    IsWhole capacity setup left next (told ++ (news ++ whole))
next_whole capacity setup found left steps past whole next news told at life with crash restarted is ends =
    let all = life_whole capacity setup found steps past whole life with in
    record {
      steps = all.0;
      before = whole;
      at = at;
      news = news;
      told = told;
      in_range = all.1;
      crash = crash;
      lived = all.2;
      restarted = restarted;
      left = is;
      ends = ends;
      all = refl;
    }
