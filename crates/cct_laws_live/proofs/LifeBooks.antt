-- In each life of a host over records that follow one another ids are in order and the books are kept, whatever is heard. So
-- what a job is about to put suits the records before it.
use Rattle.std.proofs.Common.{◌≡◌, ℕ, suc, ◌<◌, ◌≤◌, ◌-◌, ◌+◌, max, true, false, List, [], ◌∷◌, ◌++◌, length, refl, ap, sym, ◌∙◌, subst, subst₂, Option, Some, arith}
use Rattle.std.specs.List.{list_any}
use Rattle.std.proofs.lemmas.Bool.{and_from}
use Rattle.std.proofs.lemmas.List.Elements.{All-nil, All-cons}
use Rattle.std.proofs.lemmas.Option.{none-some}
use Rattle.cct_model.specs.terms.device.DeviceSetup.{DeviceSetup}
use Rattle.cct_model.specs.terms.device.Setup.{Setup}
use Rattle.cct_model.specs.declared.judging.OpenOrder.{OpenOrder}
use Rattle.cct_model.specs.lines.command.CrashAt.{CrashAt}
use Rattle.cct_model.specs.lines.command.Step.TheVariants as step
use Rattle.cct_model.specs.lines.record.Record.{Record}
use Rattle.cct_model.specs.lines.entry.Entry.{Entry}
use Rattle.cct_model.specs.Following.{all_follow, follows, is_allowed}
use Rattle.cct_model.specs.Legal.{due_at, keeping_restart}
use Rattle.cct_model.specs.Money.{freed_by, paid_in, posted_in, reserved_at_work, reserved_in, sold_in, totals}
use Rattle.cct_model.specs.Order.{order}
use Rattle.cct_model.specs.Job.{epoch, free, job}
use Rattle.cct_model.specs.Paid.{uses}
use Rattle.cct_model.specs.Records.{hopper_of, order_named, records}
use Rattle.cct_model.specs.Refusal.{held}
use Rattle.cct_model.specs.Rows.{rows_of, rows_of_sale}
use Rattle.cct_model.specs.Script.{IsInRange}
use Rattle.cct_model.specs.Setup.{IsSoundSetup}
use Rattle.cct_model.specs.Transcript.{lines_of, opened_at}
use Rattle.cct_laws.specs.Balanced.{IsConserved}
use Rattle.cct_laws.specs.Ids.{Ids, waiting, waiting_at, waiting_sale}
use Rattle.cct_laws.specs.Law.{IsOf}
use Rattle.cct_laws.specs.Recorded.{HasNoJob, open_orders}
use Rattle.cct_laws.proofs.steps.EachKeeps.{IsRanged}
use Rattle.cct_laws.proofs.money.Books.{Books}
use Rattle.cct_laws.proofs.money.Counting.{counts_lost}
use Rattle.cct_laws.proofs.money.JobsCanPut.{IsSold}
use Rattle.cct_laws.proofs.money.Journal.{conserved, kept_due_allowed, kept_due_follows}
use Rattle.cct_laws.proofs.money.JobsNeed.{Needs, needs_as}
use Rattle.cct_laws.proofs.money.FromRecordsAlone.{held_recorded, order_recorded, restart_frees}
use Rattle.cct_laws.proofs.money.Restarts.{restart_keeps}
use Rattle.cct_laws.proofs.orders.Orders.{belongs_all}
use Rattle.cct_laws_live.specs.Life.{IsLife, EachLife, room_over}
use Rattle.cct_laws_live.specs.Live.{started}
use Rattle.cct_laws_live.specs.LiveStep.{LiveStep}
use Rattle.cct_laws_live.proofs.Alike.{Alike}
use Rattle.cct_laws_live.proofs.Followed.{alike_shown}
use Rattle.cct_laws_live.proofs.Joining.{put_again}
use Rattle.cct_laws_live.proofs.Life.{life_shows}
use Rattle.cct_laws_live.proofs.Onward.{epoch_same, held_same, order_same, reserved_same}
use Rattle.cct_laws_live.proofs.Wider.{books_behind}

-- after a past without a job, whose records follow one another, ids are in order
pub free_ids : (setup : Setup) (past : List Entry) → HasNoJob past → all_follow setup (records past) ≡ true →
    Ids setup past
free_ids setup past none follow = record {
  waits = λ e id own is. absurd (none-some id (sym (ap (waiting (rows_of e)) (none.devices e)) ∙ is));
  sale_waits = λ id is. absurd (none-some id (sym (ap (waiting rows_of_sale) none.sale) ∙ is));
  apart = λ d e id own other first second. absurd (none-some id (sym (ap (waiting (rows_of d)) (none.devices d)) ∙ first));
  sale_apart = λ e id own first second. none-some id (sym (ap (waiting rows_of_sale) none.sale) ∙ second);
  owned = λ e o own is.
      let owned = (belongs_all setup (records past) follow).owned e.addr o (sym (order_recorded e past) ∙ is) in
      (owned.named, owned.here);
}

-- and the books are kept, where there is room
pub free_books : (capacity : ℕ) (setup : Setup) (past : List Entry) → IsSoundSetup setup → HasNoJob past →
    all_follow setup (records past) ≡ true → length (records past) + open_orders setup (records past) ≤ capacity →
    Books capacity setup past
free_books capacity setup past sound none follow room =
    let many = held_recorded setup past none in
    record {
      base = record {
        sells = subst IsSold (sym none.sale) tt;
        ranged = λ e own. subst (IsRanged e) (sym (none.devices e)) tt;
        needs = λ e own. needs_as e (lines_of e past) free (none.devices e) tt;
      };
      counts = counts_lost capacity setup past sound none follow (omega (arith, room, many));
    }

-- so it is after a past with the same jobs and records
ids_over : (setup : Setup) (past other : List Entry) → Alike past other → Ids setup past → Ids setup other
ids_over setup past other alike ids = record {
  waits = λ e id own is. unused id (ids.waits e id own (at e id is));
  sale_waits = λ id is. unused id (ids.sale_waits id (selling id is));
  apart = λ d e id own also first second. ids.apart d e id own also (at d id first) (at e id second);
  sale_apart = λ e id own first second. ids.sale_apart e id own (at e id first) (selling id second);
  owned = λ e o own is.
      let was = ids.owned e o own (order_same e past other alike ∙ is) in
      (subst (λ rs. order_named o.id rs ≡ Some o) alike.recorded was.0, was.1);
}
  where
    at : (e : DeviceSetup) (id : ℕ) → waiting_at other e ≡ Some id → waiting_at past e ≡ Some id
    at e id is = ap (waiting (rows_of e)) (alike.devices e) ∙ is

    selling : (id : ℕ) → waiting_sale other ≡ Some id → waiting_sale past ≡ Some id
    selling id is = ap (waiting rows_of_sale) alike.sale ∙ is

    unused : (id : ℕ) → list_any (uses id) (records past) ≡ false → list_any (uses id) (records other) ≡ false
    unused id is = subst (λ rs. list_any (uses id) rs ≡ false) alike.recorded is

abbrev spoken_by : Setup → List Record → ℕ → ℕ
spoken_by setup before work = reserved_in setup before + work + paid_in setup before + sold_in before

books_over : (capacity : ℕ) (setup : Setup) (past other : List Entry) → Alike past other → Books capacity setup past →
    Books capacity setup other
books_over capacity setup past other alike books = record {
  base = record {
    sells = subst IsSold alike.sale books.base.sells;
    ranged = λ e own. subst (IsRanged e) (alike.devices e) (books.base.ranged e own);
    needs = λ e own.
        subst (λ j. Needs e j (epoch (lines_of e other)) (order (lines_of e other))) (alike.devices e)
        (subst₂ (λ state owed. Needs e (job (lines_of e past)) state owed) (epoch_same e past other alike)
        (order_same e past other alike) (books.base.needs e own));
  };
  counts = record {
    follow = subst (λ rs. all_follow setup rs ≡ true) alike.recorded books.counts.follow;
    covered =
        subst (λ work. spoken_by setup (records other) work ≤ posted_in setup (records other))
        (reserved_same setup past other alike)
        (subst (λ rs. spoken_by setup rs (reserved_at_work setup past) ≤ posted_in setup rs) alike.recorded
        books.counts.covered);
    room =
        subst (λ many. length (records other) + many ≤ capacity) (held_same setup past other alike)
        (subst (λ rs. length rs + held setup past ≤ capacity) alike.recorded books.counts.room);
  };
}

-- what holds of a past of a life
pub record Kept (capacity : ℕ) (setup : Setup) (past : List Entry) : Type 0 where
  pub ids : Ids setup past
  pub books : Books capacity setup past

first_most : (a b : ℕ) → a ≤ max a b
first_most a b = omega arith

second_most : (a b : ℕ) → b ≤ max a b
second_most a b = omega arith

start_kept : (capacity : ℕ) (setup : Setup) (found : List Record) → IsSoundSetup setup → all_follow setup found ≡ true →
    Kept (room_over capacity setup found) setup (started found)
start_kept capacity setup found sound follow =
    let none = restart_frees (started found) tt in
    let recorded = put_again found in
    let all : all_follow setup (records (started found)) ≡ true = ap (all_follow setup) recorded ∙ follow in
    let fits : length (records (started found)) + open_orders setup (records (started found)) ≤ room_over capacity setup found =
    subst (λ rs. length rs + open_orders setup rs ≤ room_over capacity setup found) (sym recorded)
    (second_most capacity (length found + open_orders setup found)) in
    record {
      ids = free_ids setup (started found) none all;
      books = free_books (room_over capacity setup found) setup (started found) sound none all fits;
    }

pub life_kept : (capacity : ℕ) (setup : Setup) (found : List Record) (steps : List LiveStep) (past : List Entry) →
    IsSoundSetup setup → IsLife capacity setup found steps past → Kept (room_over capacity setup found) setup past
life_kept capacity setup found steps past sound life =
    let room = room_over capacity setup found in
    let shows = life_shows capacity setup found steps past life in
    let start = start_kept capacity setup found sound life.follow in
    let kept =
    books_behind capacity room setup (started found) shows.steps shows.past
    (first_most capacity (length found + open_orders setup found)) sound shows.in_range start.ids start.books shows.legal in
    let alike : Alike shows.past past = subst (Alike shows.past) shows.shows (alike_shown shows.past) in
    record {
      ids = ids_over setup shows.past past alike kept.0;
      books = books_over room setup shows.past past alike kept.1;
    }

-- each open order was opened at its own hopper
abbrev pub IsOwned : Setup → List Entry → Type 0
IsOwned setup past =
    (d : DeviceSetup) → IsOf setup d → (o : OpenOrder) → order (lines_of d past) ≡ Some o → opened_at o.id past ≡ d.addr

pub life_owned : EachLife (λ capacity setup found past. IsOwned setup past)
life_owned capacity setup found steps past sound life d own o is =
    let ids = (life_kept capacity setup found steps past sound life).ids in
    let named = ids.owned d o own is in ap hopper_of named.0 ∙ named.1

-- each record follows those before it, and so does one that is due
pub life_follow : EachLife (λ capacity setup found past. all_follow setup (records past) ≡ true)
life_follow capacity setup found steps past sound life =
    (life_kept capacity setup found steps past sound life).books.counts.follow

pub life_due_follows : EachLife (λ capacity setup found past. (addr : ℕ) (r : Record) → due_at setup past addr ≡ Some r →
    follows setup (records past) r ≡ true)
life_due_follows capacity setup found steps past sound life addr r due =
    let kept = life_kept capacity setup found steps past sound life in
    kept_due_follows (room_over capacity setup found) setup past addr r kept.ids kept.books due

pub life_due_follow : EachLife (λ capacity setup found past. (addr : ℕ) (r : Record) → due_at setup past addr ≡ Some r →
    all_follow setup (r ∷ records past) ≡ true)
life_due_follow capacity setup found steps past sound life addr r due =
    and_from _ _ (life_due_follows capacity setup found steps past sound life addr r due)
    (life_follow capacity setup found steps past sound life)

-- and a ledger takes it
pub life_taken : EachLife (λ capacity setup found past. (addr : ℕ) (r : Record) → due_at setup past addr ≡ Some r →
    (freed_by setup r ≤ reserved_at_work setup past)
    × (is_allowed setup (records past) (reserved_at_work setup past - freed_by setup r) r ≡ true))
life_taken capacity setup found steps past sound life addr r due =
    let kept = life_kept capacity setup found steps past sound life in
    kept_due_allowed (room_over capacity setup found) setup past addr r kept.ids kept.books due

-- money is conserved
pub life_conserved : EachLife (λ capacity setup found past. IsConserved setup past (totals setup past))
life_conserved capacity setup found steps past sound life =
    conserved setup past (life_kept capacity setup found steps past sound life).books.counts.covered

-- there is room
pub life_room : EachLife (λ capacity setup found past.
    length (records past) + held setup past ≤ room_over capacity setup found)
life_room capacity setup found steps past sound life =
    (life_kept capacity setup found steps past sound life).books.counts.room

-- so there is for a record that is due: it may be kept
kept_has_room : (capacity : ℕ) (setup : Setup) (past : List Entry) (addr : ℕ) (r : Record) → IsSoundSetup setup →
    Ids setup past → Books capacity setup past → due_at setup past addr ≡ Some r → length (records past) < capacity
kept_has_room capacity setup past addr r sound ids books due =
    let at : Option CrashAt = Some (record { addr = addr; calls = 4 }) in
    let lost =
    books_behind capacity capacity setup past (step.Crash at 0 ∷ []) (keeping_restart past r ++ past) (omega arith) sound
    (All-cons IsInRange (step.Crash at 0) [] (omega arith) (All-nil IsInRange)) ids books
    (keeping_restart past r, restart_keeps setup past at r due (omega arith), refl) in
    has_one (length (records past)) (held setup (keeping_restart past r ++ past)) lost.1.counts.room
  where
    has_one : (many held : ℕ) → suc many + held ≤ capacity → many < capacity
    has_one many held le = omega (arith, le)

pub life_put : EachLife (λ capacity setup found past. (addr : ℕ) (r : Record) → due_at setup past addr ≡ Some r →
    length (records past) < room_over capacity setup found)
life_put capacity setup found steps past sound life addr r due =
    let kept = life_kept capacity setup found steps past sound life in
    kept_has_room (room_over capacity setup found) setup past addr r sound kept.ids kept.books due
