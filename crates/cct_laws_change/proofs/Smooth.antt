-- A session whose amount has a plan is served, in blocks that go smoothly.
use Rattle.std.proofs.Common.{◌≡◌, ◌⊎◌, inl, inr, ℕ, ◌+◌, ◌<◌, ◌≤◌, ◌==◌, ◌^◌, Bool, true, false, List, [], ◌∷◌, ◌++◌, length, sum, refl, ap, sym, ◌∙◌, subst, Option, Some, None, All, arith, append_assoc}
use Rattle.std.specs.Prelude.{MatchBool}
use Rattle.std.specs.List.{list_any}
use Rattle.std.proofs.lemmas.Bool.{and_from, and_parts}
use Rattle.std.proofs.lemmas.List.Elements.{All-head, All-tail}
use Rattle.cct_model.specs.terms.device.Setup.{Setup}
use Rattle.cct_model.specs.lines.command.CommandNo.{CommandNo}
use Rattle.cct_model.specs.lines.command.Step.{Step}
use Rattle.cct_model.specs.lines.command.Step.TheVariants as step
use Rattle.cct_model.specs.lines.entry.Entry.{Entry}
use Rattle.cct_model.specs.lines.entry.Entry.TheVariants as entry
use Rattle.cct_model.specs.declared.change.Due.{Due}
use Rattle.cct_model.specs.declared.change.Payment.{Payment}
use Rattle.cct_model.specs.declared.change.Phase.{Phase}
use Rattle.cct_model.specs.declared.change.Phase.TheVariants.{Begun, Opened, Closed, Odd, Lost}
use Rattle.cct_model.specs.declared.change.Session.{Session}
use Rattle.cct_model.specs.declared.change.Tray.{Tray}
use Rattle.cct_model.specs.Change.{Desk, GoesOn, PaysOn, Serves, ServesDue, Settles, desk_after, gone_on, pay_entries, served, served_by, served_due, settled, settled_trays}
use Rattle.cct_model.specs.Plan.{IsPlan}
use Rattle.cct_model.specs.Records.{records}
use Rattle.cct_model.specs.Refusal.{refusal}
use Rattle.cct_model.specs.Script.{IsInRange}
use Rattle.cct_model.specs.Setup.{IsSoundSetup}
use Rattle.cct_laws_change.specs.Along.{AlongFrom}
use Rattle.cct_laws_change.specs.Blocks.{InBlocks, IsBetween, IsNoStock, IsReady, IsReadyBy, IsSmoothBlock, IsWaiting, TellsService, is_refusal, is_service}
use Rattle.cct_laws_change.specs.Course.{AreLeftAlone, Course, CoursesTo, course_after}
use Rattle.cct_laws_change.specs.Tally.{IsSmooth, Tally, is_whole, is_whole_by, is_whole_in, most_made, taken_in, tally_after, tally_begun}
use Rattle.cct_laws_change.proofs.Along.{Stands, along_desk, along_from, desk_grown, stands_on}
use Rattle.cct_laws_change.proofs.Courses.{OnCourse, along_tally, course_run, course_taken, keeps_course}
use Rattle.cct_laws_change.proofs.Ends.{MadeLast, Pays, all_range, block_ends, blocks_grown, made_between, pay_of, told_later, told_now}
use Rattle.cct_laws_change.proofs.Few.{FewBy, FewIn}
use Rattle.cct_laws_change.proofs.Filled.{AreSingle}
use Rattle.cct_laws_change.proofs.Planned.{AreValued, PlanIn, PlanRuns, Settled, due_settled, made_in, more_made, not_stuck, with_due}

-- a `serve` says that the session was served, or makes a payment
ServesPlan : List Entry → Option Session → Type 0
ServesPlan news session = (list_any is_service news ≡ true) ⊎ Pays news session

paid_serves : (news : List Entry) (trays : List Tray) (s : Session) (p : Payment) (why : Option CommandNo) →
    list_any is_refusal news ≡ false → news ≡ pay_entries s p why → ServesPlan news (gone_on news trays s).session
unfolding ServesPlan
paid_serves news trays s p None taken gives =
    subst (λ es. ServesPlan es (gone_on es trays s).session) (sym gives)
    (inr (record { payment = p; told = refl; last = refl }))
paid_serves news trays s p (Some why) taken gives =
    let none = subst (λ es. list_any is_refusal es ≡ false) gives taken in cc none

goes_on_serves : (capacity : ℕ) (setup : Setup) (past news : List Entry) (t : Tally) (made : ℕ) (trays : List Tray)
    (s : Session) (counts : List ℕ) → AreValued t.trays → t.first + t.amount < 2 ^ 32 → Settled t made trays s →
    IsPlan t.trays t.amount counts → (made < sum counts → list_any is_refusal news ≡ false) →
    GoesOn capacity setup past trays s news →
    ServesPlan news (gone_on news trays s).session
unfolding ServesPlan
goes_on_serves capacity setup past news t made trays s counts valued ids is plan taken goes = by_rest (s.rest == 0) goes
  where
    by_rest : (none : Bool) →
        MatchBool none (news ≡ entry.Served s.amount ∷ []) (PaysOn capacity setup past trays s news) →
        ServesPlan news (gone_on news trays s).session
    by_rest true gives = inl (ap (list_any is_service) gives)
    by_rest false (inl stuck) = absurd (not_stuck t made trays s counts valued ids is plan stuck.0)
    by_rest false (inr paid) =
        paid_serves news trays s paid.0 (refusal capacity setup past (pay_of paid.0))
        (taken (more_made t made trays s paid.0 counts is paid.1 plan)) paid.2

due_serves : (capacity : ℕ) (setup : Setup) (past news : List Entry) (t : Tally) (made bound : ℕ) (trays : List Tray)
    (s : Session) (p : Payment) (phase : Phase) (counts : List ℕ) → AreValued t.trays → t.first + t.amount < 2 ^ 32 →
    AreSingle trays → FewBy (records past) trays bound made s.rest (Some (record { payment = p; phase = phase })) →
    is_whole phase ≡ true → (IsWaiting phase → ⊥) → PlanRuns t made trays (with_due s p phase) →
    IsPlan t.trays t.amount counts → (made < sum counts → list_any is_refusal news ≡ false) →
    Settles capacity setup past trays (with_due s p phase) (record { payment = p; phase = phase }) phase news →
    ServesPlan news (served_due news trays (with_due s p phase) (record { payment = p; phase = phase }) phase).session
due_serves capacity setup past news t made bound trays s p Begun counts valued ids single few whole ready is plan taken gives =
    absurd (ready tt)
due_serves capacity setup past news t made bound trays s p Opened counts valued ids single few whole ready is plan taken gives =
    absurd (ready tt)
due_serves capacity setup past news t made bound trays s p Odd counts valued ids single few whole ready is plan taken gives =
    cc whole
due_serves capacity setup past news t made bound trays s p (Closed paid unpaid) counts valued ids single few whole ready is plan taken gives =
    let due : Due = record { payment = p; phase = Closed paid unpaid } in
    goes_on_serves capacity setup past news t made (settled_trays due trays)
    (settled trays due (with_due s p (Closed paid unpaid))) counts valued ids
    (due_settled (records past) t made bound trays s.amount s.rest s.next p paid unpaid single whole few.known is) plan
    taken gives
due_serves capacity setup past news t made bound trays s p Lost counts valued ids single few whole ready is plan taken gives =
    cc whole

by_serves : (capacity : ℕ) (setup : Setup) (past news : List Entry) (t : Tally) (made bound : ℕ) (trays : List Tray)
    (s : Session) (due : Option Due) (counts : List ℕ) → AreValued t.trays → t.first + t.amount < 2 ^ 32 →
    AreSingle trays → FewBy (records past) trays bound made s.rest due → is_whole_by due ≡ true → IsReadyBy due →
    PlanRuns t made trays (record { amount = s.amount; rest = s.rest; next = s.next; due = due }) →
    IsPlan t.trays t.amount counts → (made < sum counts → list_any is_refusal news ≡ false) →
    ServesDue capacity setup past trays (record { amount = s.amount; rest = s.rest; next = s.next; due = due }) due news →
    ServesPlan news
    (served_by news trays (record { amount = s.amount; rest = s.rest; next = s.next; due = due }) due).session
by_serves capacity setup past news t made bound trays s None counts valued ids single few whole ready is plan taken gives =
    goes_on_serves capacity setup past news t made trays
    (record { amount = s.amount; rest = s.rest; next = s.next; due = None }) counts valued ids
    (record { single = single; began = is.began; left = is.left; next = is.next }) plan taken gives
by_serves capacity setup past news t made bound trays s (Some due) counts valued ids single few whole ready is plan taken gives =
    due_serves capacity setup past news t made bound trays s due.payment due.phase counts valued ids single few whole ready
    is plan taken gives

serve_serves : (capacity : ℕ) (setup : Setup) (past news : List Entry) (t : Tally) (made bound : ℕ) (trays : List Tray)
    (session : Option Session) (counts : List ℕ) → AreValued t.trays → t.first + t.amount < 2 ^ 32 → AreSingle trays →
    FewIn (records past) trays bound made session → is_whole_in session ≡ true → IsReady session →
    PlanIn t made trays session → IsPlan t.trays t.amount counts →
    (made < sum counts → list_any is_refusal news ≡ false) → Serves capacity setup past trays session news → ServesPlan news (served news trays session).session
serve_serves capacity setup past news t made bound trays None counts valued ids single few whole ready is plan taken gives =
    absurd ready
serve_serves capacity setup past news t made bound trays (Some s) counts valued ids single few whole ready is plan taken gives =
    by_serves capacity setup past news t made bound trays s s.due counts valued ids single few whole ready is plan taken gives

-- the steps of a block leave the tally as it is
same_begun : (p : Payment) (first amount : ℕ) (trays : List Tray) (session : Option Session) (t : Tally) →
    MadeLast p session → tally_begun first amount trays session t ≡ t
same_begun p first amount trays None t is = absurd is
same_begun p first amount trays (Some s) t is = refl

same_after : (p : Payment) (s : Step) (news : List Entry) (desk : Desk) (t : Tally) → IsBetween s → IsNoStock s →
    MadeLast p desk.session → tally_after s news desk t ≡ t
same_after p (step.Stock addr count) news desk t between unstocked is = absurd unstocked
same_after p (step.Change first amount) news desk t between unstocked is =
    same_begun p first amount desk.trays desk.session t is
same_after p step.Serve news desk t between unstocked is = absurd between
same_after p s news desk t between unstocked is = refl

same_along : (capacity : ℕ) (setup : Setup) (past : List Entry) (desk : Desk) (t : Tally) (p : Payment) (steps : List Step)
    (end : List Entry) (last : Desk) (found : Tally) → All IsBetween steps → All IsNoStock steps →
    AlongFrom tally_after capacity setup past desk t steps end last found → MadeLast p desk.session → found ≡ t
same_along capacity setup past desk t p [] end last found between unstocked told is = told.2
same_along capacity setup past desk t p (s ∷ steps) end last found between unstocked told is =
    let here = All-head IsBetween s steps between in
    same_along capacity setup (told.0 ++ past) (desk_after s told.0 desk) (tally_after s told.0 desk t) p steps end last
    found (All-tail IsBetween s steps between) (All-tail IsNoStock s steps unstocked) told.2
    (made_between p s told.0 desk here is)
    ∙ same_after p s told.0 desk t here (All-head IsNoStock s steps unstocked) is

-- a moment at which a session with a plan goes smoothly
record GoesSmoothly (capacity : ℕ) (setup : Setup) (past : List Entry) (desk : Desk) (c : Course) (counts : List ℕ) :
    Type 0 where
  on : OnCourse setup past desk c
  smooth : c.tally.smooth ≡ true
  plan : IsPlan c.tally.trays c.tally.amount counts
  alone : AreLeftAlone capacity setup c (sum counts)

MadeSome : Tally → List (List Step) → Tally → List ℕ → Type 0
MadeSome t blocks found counts = (found.made ≡ t.made + length blocks) × (found.made ≤ sum counts)

smooth_on : (capacity : ℕ) (setup : Setup) (past : List Entry) (desk : Desk) (t : Tally) (c : Course) (counts : List ℕ) →
    c.tally ≡ t → OnCourse setup past desk c → AreLeftAlone capacity setup c (sum counts) → t.smooth ≡ true →
    IsPlan t.trays t.amount counts → GoesSmoothly capacity setup past desk c counts
smooth_on capacity setup past desk t c counts same on alone smooth plan = record {
  on = on;
  smooth = subst (λ (x : Tally). x.smooth ≡ true) (sym same) smooth;
  plan = subst (λ (x : Tally). IsPlan x.trays x.amount counts) (sym same) plan;
  alone = alone;
}

serve_blocks : (capacity : ℕ) (setup : Setup) (past : List Entry) (desk : Desk) (c : Course) (blocks : List (List Step))
    (end : List Entry) (last : Desk) (found : Course) (counts : List ℕ) → IsSoundSetup setup →
    Stands capacity setup past desk → GoesSmoothly capacity setup past desk c counts →
    is_whole_in desk.session ≡ true → IsReady desk.session →
    InBlocks course_after (IsSmoothBlock capacity setup (sum counts)) capacity setup past desk c blocks end last found →
    TellsService past end ⊎ MadeSome c.tally blocks found.tally counts
unfolding ServesPlan MadeSome
serve_blocks capacity setup past desk c [] end last found counts sound at is whole ready told =
    let same = ap (λ (x : Course). x.tally.made) told.2 in
    let most = made_in c.tally c.tally.made desk.trays desk.session (is.on.both.1.plan is.smooth) counts is.plan in
    inr (omega (arith, same), omega (arith, same, most))
serve_blocks capacity setup past desk c (block ∷ blocks) end last found counts sound at is whole ready told =
    let t = c.tally in
    let news = told.0 in
    let next = desk_after step.Serve news desk in
    let left = course_after step.Serve news desk c in
    let wanted = told.8 in
    let both = is.on.both in
    let smooth = and_from t.smooth (is_whole_in desk.session) is.smooth whole in
    let on = stands_on capacity setup past news desk step.Serve tt told.1 at in
    let kept = keeps_course capacity setup sound past news desk c step.Serve tt told.1 at on is.on in
    let first = desk_grown capacity setup (news ++ past) next block told.3 told.4
    (along_desk course_after capacity setup (news ++ past) next left block told.3 told.4 told.5 told.6) in
    elim (serve_serves capacity setup past news t t.made (most_made t) desk.trays desk.session counts both.1.valued is.on.ids
    both.0.single both.0.few whole ready (both.1.plan is.smooth) is.plan
    (λ more. course_taken capacity setup past news desk c (sum counts) sound at is.on smooth is.alone more told.1)
    told.1) [
      | inl service ↦ inl (told_now is_service past news told.3 end first.0 first.1
          (blocks_grown course_after (IsSmoothBlock capacity setup (sum counts)) capacity setup told.3 told.4 told.5
          blocks end last found told.9) service)
      | inr pays ↦ (
          let along_block = along_tally capacity setup (news ++ past) next left block told.3 told.4 told.5 told.6 in
          let ended = block_ends capacity setup past news desk left.tally pays.payment block told.3 told.4 told.5.tally
          sound told.1 at on kept.both.0 pays.told pays.last told.2 along_block told.7 in
          let after = along_from course_after capacity setup (OnCourse setup) (keeps_course capacity setup sound)
          (news ++ past) next left block told.3 told.4 told.5 (all_range block told.2) told.6 on kept in
          let same = same_along capacity setup (news ++ past) next left.tally pays.payment block told.3 told.4
          told.5.tally told.2 wanted.unstocked along_block pays.last in
          let goes = smooth_on capacity setup told.3 told.4 left.tally told.5 counts same after.1 wanted.alone smooth
          is.plan in
          let one : taken_in news ≡ 1 = ap taken_in pays.told in
          let more = ended.1 in
          elim (serve_blocks capacity setup told.3 told.4 told.5 blocks end last found counts sound after.0 goes
          wanted.whole ended.0 told.9) [
            | inl service ↦ inl (told_later is_service past (first.0 ++ news) end
                (subst (λ es. TellsService es end) (first.1 ∙ sym (append_assoc first.0 news past)) service))
            | inr made ↦ (let all = made.0 in inr (omega (arith, all, more, one), made.1))
          ])
    ]

-- so it is served, if there are more blocks than its plan has coins
pub blocks_serve : (capacity : ℕ) (setup : Setup) (steps : List Step) (past : List Entry) (desk : Desk) (course : Course)
    (blocks : List (List Step)) (end : List Entry) (last : Desk) (found : Course) (counts : List ℕ) →
    IsSoundSetup setup → All IsInRange steps → CoursesTo capacity setup steps past desk course → IsReady desk.session →
    IsSmooth desk course.tally →
    IsPlan course.tally.trays course.tally.amount counts → AreLeftAlone capacity setup course (sum counts) →
    InBlocks course_after (IsSmoothBlock capacity setup (sum counts)) capacity setup past desk course blocks end last found →
    sum counts < course.tally.made + length blocks → TellsService past end
unfolding MadeSome
blocks_serve capacity setup steps past desk c blocks end last found counts sound range courses ready smooth plan alone told enough =
    let parts = and_parts c.tally.smooth (is_whole_in desk.session) smooth in
    let run = course_run capacity setup steps past desk c sound range courses in
    let goes : GoesSmoothly capacity setup past desk c counts = record {
      on = run.1;
      smooth = parts.0;
      plan = plan;
      alone = alone;
    } in
    elim (serve_blocks capacity setup past desk c blocks end last found counts sound run.0 goes parts.1 ready told) [
      | inl service ↦ service
      | inr made ↦ (let all = made.0 in let few = made.1 in absurd (omega (arith, all, few, enough)))
    ]
