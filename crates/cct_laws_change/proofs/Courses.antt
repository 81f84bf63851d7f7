-- Along a course: its session stays free to pay as long as it goes smoothly and is left alone, and the journal takes no more
-- records for it than two for each payment, and those of the other commands. So none of its payments is refused.
use Rattle.std.proofs.Common.{◌≡◌, ℕ, ◌+◌, ◌*◌, ◌<◌, ◌≤◌, ◌^◌, suc, true, false, List, [], ◌∷◌, ◌++◌, length, refl, ap, sym, subst, Option, Some, None, All, arith}
use Rattle.std.specs.Prelude.{⊤}
use Rattle.std.specs.List.{list_any}
use Rattle.std.specs.Option.{option_map}
use Rattle.std.proofs.lemmas.Bool.{and_parts}
use Rattle.std.proofs.lemmas.List.Elements.{All-cons, All-head, All-nil, All-tail}
use Rattle.cct_model.specs.terms.device.DeviceSetup.{DeviceSetup}
use Rattle.cct_model.specs.terms.device.Setup.{Setup}
use Rattle.cct_model.specs.lines.command.Command.{Command}
use Rattle.cct_model.specs.lines.command.Command.TheVariants as command
use Rattle.cct_model.specs.lines.command.Step.{Step}
use Rattle.cct_model.specs.lines.command.Step.TheVariants as step
use Rattle.cct_model.specs.lines.entry.Entry.{Entry}
use Rattle.cct_model.specs.lines.entry.Entry.TheVariants as entry
use Rattle.cct_model.specs.declared.change.Session.{Session}
use Rattle.cct_model.specs.declared.change.Tray.{Tray}
use Rattle.cct_model.specs.AtDesk.{EntriesAtDesk}
use Rattle.cct_model.specs.Change.{Desk, Serves, change_entry, changed, desk_after, served, session_after}
use Rattle.cct_model.specs.Exchange.{device_at}
use Rattle.cct_model.specs.Legal.{ServeEntries, falls_short, is_idle, is_odd, is_refused, is_served, pays, waits}
use Rattle.cct_model.specs.Plan.{HasNoPlan}
use Rattle.cct_model.specs.Records.{records}
use Rattle.cct_model.specs.Refusal.{held, need_for}
use Rattle.cct_model.specs.Script.{IsInRange}
use Rattle.cct_model.specs.Setup.{IsSoundSetup}
use Rattle.cct_laws.proofs.steps.AtTheDesk.{entries_legal}
use Rattle.cct_laws_change.specs.Along.{AlongFrom}
use Rattle.cct_laws_change.specs.Blocks.{is_refusal}
use Rattle.cct_laws_change.specs.Course.{AreLeftAlone, CanBegin, Course, CoursesTo, EachCourse, IsUnrelated, commands_in, course_after, needs_in, no_course}
use Rattle.cct_laws_change.specs.Tally.{IsSmooth, Tally, filled_in, most_made, is_whole_in, taken_in, tally_after, tally_begun}
use Rattle.cct_laws_change.proofs.Along.{Keeps, Stands, along}
use Rattle.cct_laws_change.proofs.Few.{FewIn}
use Rattle.cct_laws_change.proofs.Free.{Facts, FreeIn, NotRefused, facts, free_begins, free_idle, free_on, serve_free, serve_taken}
use Rattle.cct_laws_change.proofs.Planned.{IsBoth, both_start, keeps_planned, short_unplanned}

-- the tally of a course goes along as it does alone
pub along_tally : (capacity : ℕ) (setup : Setup) (past : List Entry) (desk : Desk) (c : Course) (steps : List Step)
    (end : List Entry) (last : Desk) (found : Course) →
    AlongFrom course_after capacity setup past desk c steps end last found →
    AlongFrom tally_after capacity setup past desk c.tally steps end last found.tally
along_tally capacity setup past desk c [] end last found told = (told.0, told.1, ap (λ (x : Course). x.tally) told.2)
along_tally capacity setup past desk c (s ∷ steps) end last found told = (
  told.0,
  told.1,
  along_tally capacity setup (told.0 ++ past) (desk_after s told.0 desk) (course_after s told.0 desk c)
      steps end last found told.2,
)

-- the records and those that are held
abbrev pub room_taken : Setup → List Entry → ℕ
room_taken setup past = length (records past) + held setup past

abbrev pub RoomIn : Setup → List Entry → Course → Option Session → Type 0
RoomIn setup past c None = ⊤
RoomIn setup past c (Some s) =
    room_taken setup past ≤ room_taken setup c.before + needs_in setup c.others + 2 * c.tally.made

-- what a session is free by
pub record Lets (setup : Setup) (c : Course) : Type 0 where
  pub smooth : c.tally.smooth ≡ true
  pub can : CanBegin setup c.before c.tally.first c.tally.amount
  pub apart : All (IsUnrelated setup) c.others

pub record OnCourse (setup : Setup) (past : List Entry) (desk : Desk) (c : Course) : Type 0 where
  pub told : c.told ≡ past
  pub both : IsBoth past desk c.tally
  pub ids : c.tally.first + c.tally.amount < 2 ^ 32
  pub room : RoomIn setup past c desk.session
  pub free : Lets setup c → FreeIn setup past desk.trays desk.session

-- commands one after the other
needs_both : (setup : Setup) (cs others : List Command) →
    needs_in setup (cs ++ others) ≡ needs_in setup cs + needs_in setup others
needs_both setup [] others = omega arith
needs_both setup (c ∷ cs) others = let later = needs_both setup cs others in omega (arith, later)

first_apart : (setup : Setup) (cs others : List Command) → All (IsUnrelated setup) (cs ++ others) →
    All (IsUnrelated setup) cs
first_apart setup [] others apart = All-nil (IsUnrelated setup)
first_apart setup (c ∷ cs) others apart =
    All-cons (IsUnrelated setup) c cs (All-head (IsUnrelated setup) c (cs ++ others) apart)
    (first_apart setup cs others (All-tail (IsUnrelated setup) c (cs ++ others) apart))

last_apart : (setup : Setup) (cs others : List Command) → All (IsUnrelated setup) (cs ++ others) →
    All (IsUnrelated setup) others
last_apart setup [] others apart = apart
last_apart setup (c ∷ cs) others apart =
    last_apart setup cs others (All-tail (IsUnrelated setup) c (cs ++ others) apart)

-- any other step
plain_room : (setup : Setup) (past news : List Entry) (c : Course) (session : Option Session) (tally : Tally) →
    Facts setup past news → tally.made ≡ c.tally.made → RoomIn setup past c session →
    RoomIn setup (news ++ past) (record {
      tally = tally;
      told = news ++ c.told;
      before = c.before;
      others = commands_in news ++ c.others;
    }) (option_map (session_after news) session)
plain_room setup past news c None tally f same is = tt
plain_room setup past news c (Some s) tally f same is =
    let grows = f.grows.holds in
    let both = needs_both setup (commands_in news) c.others in
    omega (arith, grows, both, same, is)

plain_free : (setup : Setup) (past news : List Entry) (trays : List Tray) (bound made : ℕ) (session : Option Session) →
    Facts setup past news → All (IsUnrelated setup) (commands_in news) → FewIn (records past) trays bound made session →
    FreeIn setup past trays session → FreeIn setup (news ++ past) trays (option_map (session_after news) session)
plain_free setup past news trays bound made None f apart few is = tt
plain_free setup past news trays bound made (Some s) f apart few is =
    free_on setup past news trays bound made s f apart few is

-- a stock that is reported
same_room : (setup : Setup) (past : List Entry) (e : Entry) (c : Course) (session : Option Session) (tally : Tally) →
    Facts setup past (e ∷ []) → commands_in (e ∷ []) ≡ [] → tally.made ≡ c.tally.made → RoomIn setup past c session →
    RoomIn setup (e ∷ past) (record {
      tally = tally;
      told = e ∷ c.told;
      before = c.before;
      others = commands_in (e ∷ []) ++ c.others;
    }) session
same_room setup past e c None tally f none same is = tt
same_room setup past e c (Some s) tally f none same is =
    let grows = f.grows.holds in
    let no_need = ap (needs_in setup) none in
    let both = needs_both setup (commands_in (e ∷ [])) c.others in
    omega (arith, grows, no_need, both, same, is)

stocked_free : (setup : Setup) (past : List Entry) (trays : List Tray) (session : Option Session) → false ≡ true →
    FreeIn setup past trays session
stocked_free setup past trays None smooth = tt
stocked_free setup past trays (Some s) smooth = cc smooth

-- what a course keeps over a `change`, beside the desk
record Begins (setup : Setup) (past : List Entry) (trays : List Tray) (c : Course) (session : Option Session) : Type 0 where
  room : RoomIn setup past c session
  free : Lets setup c → FreeIn setup past trays session

changes_on : (setup : Setup) (past news : List Entry) (first amount bound : ℕ) (desk : Desk) (c : Course)
    (session : Option Session) → news ≡ change_entry first amount session ∷ [] →
    Facts setup past news → c.told ≡ past → FewIn (records past) desk.trays bound c.tally.made session →
    RoomIn setup past c session → (Lets setup c → FreeIn setup past desk.trays session) →
    Begins setup (news ++ past) desk.trays
    (course_after (step.Change first amount) news (record { session = session; trays = desk.trays }) c)
    (Some (changed first amount session))
changes_on setup past news first amount bound desk c None gives f told few room free =
    subst (λ es. Begins setup (es ++ past) desk.trays
    (course_after (step.Change first amount) es (record { session = None; trays = desk.trays }) c)
    (Some (changed first amount None))) (sym gives) (record {
      room =
          let grows = (subst (Facts setup past) gives f).grows.holds in
          let same = ap (room_taken setup) told in
          omega (arith, grows, same);
      free = λ lets.
          free_idle setup past (entry.ChangeOk first amount) desk.trays (amount + filled_in desk.trays) 0
          (record { amount = amount; rest = amount; next = first; due = None })
          (subst (Facts setup past) gives f) refl refl (λ at. refl) (omega arith)
          (free_begins setup past desk.trays first amount
          (subst (λ es. CanBegin setup es first amount) told lets.can));
    })
changes_on setup past news first amount bound desk c (Some s) gives f told few room free =
    subst (λ es. Begins setup (es ++ past) desk.trays
    (course_after (step.Change first amount) es (record { session = Some s; trays = desk.trays }) c) (Some s))
    (sym gives) (record {
      room = same_room setup past entry.ChangeNo c (Some s) c.tally (subst (Facts setup past) gives f) refl refl room;
      free = λ lets.
          free_idle setup past entry.ChangeNo desk.trays bound c.tally.made s (subst (Facts setup past) gives f) refl refl
          (λ at. refl) few
          (free (record { smooth = lets.smooth; can = lets.can; apart = lets.apart }));
    })

-- a `serve` makes a payment of two records, or none
serve_needs : (capacity : ℕ) (setup : Setup) (past news : List Entry) → ServeEntries capacity setup past news →
    needs_in setup (commands_in news) ≤ 2 * taken_in news
serve_needs capacity setup past _ is_idle = omega arith
serve_needs capacity setup past _ (waits addr) = omega arith
serve_needs capacity setup past _ (is_odd id) = omega arith
serve_needs capacity setup past _ (is_served amount) = omega arith
serve_needs capacity setup past _ (falls_short paid left) = omega arith
serve_needs capacity setup past _ (pays addr id count small range lets) = by_found (device_at setup.devices addr)
  where
    by_found : (found : Option DeviceSetup) → need_for found (command.Pay addr id count) + 0 ≤ 2
    by_found None = omega arith
    by_found (Some d) = omega arith
serve_needs capacity setup past _ (is_refused addr id count why paid left small range was) = omega arith

serves_room : (setup : Setup) (past news : List Entry) (c : Course) (session later : Option Session) (tally : Tally) →
    Facts setup past news → (session ≡ None → later ≡ None) → tally.made ≡ c.tally.made + taken_in news →
    needs_in setup (commands_in news) ≤ 2 * taken_in news → RoomIn setup past c session →
    RoomIn setup (news ++ past) (record {
      tally = tally;
      told = news ++ c.told;
      before = c.before;
      others = c.others;
    }) later
serves_room setup past news c session None tally f ends same needs is = tt
serves_room setup past news c None (Some s) tally f ends same needs is = let none = ends refl in cc none
serves_room setup past news c (Some before) (Some s) tally f ends same needs is =
    let grows = f.grows.holds in
    omega (arith, grows, same, needs, is)

none_served : (news : List Entry) (trays : List Tray) (session : Option Session) → session ≡ None →
    (served news trays session).session ≡ None
none_served news trays None none = refl
none_served news trays (Some s) none = cc none

-- a first id and an amount in range are below 2 ^ 32 together
ids_begun : (first amount : ℕ) (trays : List Tray) (session : Option Session) (t : Tally) →
    IsInRange (step.Change first amount) → t.first + t.amount < 2 ^ 32 →
    (tally_begun first amount trays session t).first + (tally_begun first amount trays session t).amount < 2 ^ 32
ids_begun first amount trays None t range ids =
    let low = range.1 in
    let small = range.3 in
    omega (arith, low, small)
ids_begun first amount trays (Some s) t range ids = ids

-- each step keeps it
pub keeps_course : (capacity : ℕ) (setup : Setup) → IsSoundSetup setup → Keeps course_after capacity setup (OnCourse setup)
keeps_course capacity setup sound past news desk c (step.Stock addr count) range gives at on is =
    let f = facts capacity setup past news desk (step.Stock addr count) sound gives at on in
    record {
      told = ap (λ es. news ++ es) is.told;
      both = keeps_planned capacity setup sound past news desk c.tally (step.Stock addr count) range gives at on is.both;
      ids = is.ids;
      room = subst (λ es. RoomIn setup (es ++ past)
          (course_after (step.Stock addr count) es desk c) desk.session) (sym gives)
          (same_room setup past (entry.Stock addr count) c desk.session
          (tally_after (step.Stock addr count) (entry.Stock addr count ∷ []) desk c.tally)
          (subst (Facts setup past) gives f) refl refl is.room);
      free = λ lets. stocked_free setup (news ++ past) _ desk.session lets.smooth;
    }
keeps_course capacity setup sound past news desk c (step.Change first amount) range gives at on is =
    let f = facts capacity setup past news desk (step.Change first amount) sound gives at on in
    let begins = changes_on setup past news first amount (most_made c.tally) desk c desk.session gives f is.told
    is.both.0.few is.room is.free in
    record {
      told = ap (λ es. news ++ es) is.told;
      both = keeps_planned capacity setup sound past news desk c.tally (step.Change first amount) range gives at on is.both;
      ids = ids_begun first amount desk.trays desk.session c.tally range is.ids;
      room = begins.room;
      free = begins.free;
    }
keeps_course capacity setup sound past news desk c step.Serve range gives at on is =
    let f = facts capacity setup past news desk step.Serve sound gives at on in
    let entries = entries_legal capacity setup past desk step.Serve news at.right gives in
    record {
      told = ap (λ es. news ++ es) is.told;
      both = keeps_planned capacity setup sound past news desk c.tally step.Serve range gives at on is.both;
      ids = is.ids;
      room =
          serves_room setup past news c desk.session (served news desk.trays desk.session).session
          (tally_after step.Serve news desk c.tally) f (none_served news desk.trays desk.session) refl
          (serve_needs capacity setup past news entries) is.room;
      free = λ lets.
          let parts = and_parts c.tally.smooth (is_whole_in desk.session) lets.smooth in
          serve_free capacity setup past news desk.trays (most_made c.tally) c.tally.made desk.session entries f at.trays
          is.both.0.few parts.1 (is.free (record { smooth = parts.0; can = lets.can; apart = lets.apart })) gives;
    }
keeps_course capacity setup sound past news desk c s range gives at on is =
    let f = facts capacity setup past news desk s sound gives at on in
    record {
      told = ap (λ es. news ++ es) is.told;
      both = keeps_planned capacity setup sound past news desk c.tally s range gives at on is.both;
      ids = is.ids;
      room = plain_room setup past news c desk.session c.tally f refl is.room;
      free = λ lets.
          plain_free setup past news desk.trays (most_made c.tally) c.tally.made desk.session f
          (first_apart setup (commands_in news) c.others lets.apart) is.both.0.few
          (is.free (record {
            smooth = lets.smooth;
            can = lets.can;
            apart = last_apart setup (commands_in news) c.others lets.apart;
          }));
    }

pub course_run : (capacity : ℕ) (setup : Setup) (steps : List Step) (past : List Entry) (desk : Desk) (c : Course) →
    IsSoundSetup setup → All IsInRange steps → CoursesTo capacity setup steps past desk c →
    Stands capacity setup past desk × OnCourse setup past desk c
course_run capacity setup steps past desk c sound range courses =
    along course_after capacity setup (OnCourse setup) (keeps_course capacity setup sound) no_course steps past desk c
    sound range courses (record { told = refl; both = both_start setup sound; ids = omega arith; room = tt; free = λ lets. tt })

-- so no payment of a session that is left alone is refused
pub course_taken : (capacity : ℕ) (setup : Setup) (past news : List Entry) (desk : Desk) (c : Course) (payments : ℕ) →
    IsSoundSetup setup → Stands capacity setup past desk → OnCourse setup past desk c → IsSmooth desk c.tally →
    AreLeftAlone capacity setup c payments → c.tally.made < payments →
    EntriesAtDesk capacity setup past desk step.Serve news → NotRefused news
course_taken capacity setup past news desk c payments sound at is smooth alone more gives =
    let parts = and_parts c.tally.smooth (is_whole_in desk.session) smooth in
    by_session desk.session is.both.0.few parts.1
    (is.free (record { smooth = parts.0; can = alone.began; apart = alone.apart })) is.room gives
  where
    by_session : (session : Option Session) → FewIn (records past) desk.trays (most_made c.tally) c.tally.made session →
        is_whole_in session ≡ true → FreeIn setup past desk.trays session → RoomIn setup past c session →
        Serves capacity setup past desk.trays session news → NotRefused news
    by_session None few whole free taken told = ap (list_any is_refusal) told
    by_session (Some s) few whole free taken told =
        serve_taken capacity setup past news desk.trays (most_made c.tally) c.tally.made (Some s) sound at.trays few whole
        free (let room = alone.room in omega (arith, room, taken, more)) told

pub each_taken : EachCourse (λ capacity setup past desk course. (news : List Entry) → IsSmooth desk course.tally →
    AreLeftAlone capacity setup course (suc course.tally.made) →
    EntriesAtDesk capacity setup past desk step.Serve news → list_any is_refusal news ≡ false)
each_taken capacity setup steps past desk c sound range courses news smooth alone gives =
    let run = course_run capacity setup steps past desk c sound range courses in
    course_taken capacity setup past news desk c (suc c.tally.made) sound run.0 run.1 smooth alone (omega arith) gives

-- and where it falls short, its amount had no plan
pub course_short : EachCourse (λ capacity setup past desk course. (paid left : ℕ) (earlier : List Entry) →
    IsSmooth desk course.tally → AreLeftAlone capacity setup course (suc course.tally.made) →
    EntriesAtDesk capacity setup past desk step.Serve (entry.Short paid left ∷ earlier) →
    HasNoPlan course.tally.trays course.tally.amount)
course_short capacity setup steps past desk c sound range courses paid left earlier smooth alone gives =
    let run = course_run capacity setup steps past desk c sound range courses in
    short_unplanned capacity setup past desk c.tally run.1.both paid left earlier smooth run.1.ids
    (course_taken capacity setup past (entry.Short paid left ∷ earlier) desk c (suc c.tally.made) sound run.0 run.1 smooth
    alone (omega arith) gives) gives
