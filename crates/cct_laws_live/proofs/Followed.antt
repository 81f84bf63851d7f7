-- A live transcript is what a legal one shows in which, before each `next`, the bytes that were heard then were set as the
-- fault of its exchange.
use Rattle.hex.specs.Hex.{IsBytes}
use Rattle.std.proofs.Common.{◌≡◌, ◌⊎◌, inl, inr, ℕ, ◌≤◌, ◌<◌, List, [], ◌∷◌, ◌++◌, length, refl, sym, ap, ◌∙◌, subst, Option, Some, None, All, arith, append_assoc}
use Rattle.std.specs.Prelude.{⊤}
use Rattle.std.proofs.lemmas.List.Elements.{All-append, All-head, All-tail, All-nil, All-cons}
use Rattle.cct_model.specs.terms.wire.TheConstants.{BROADCAST, MOST_HEARD}
use Rattle.cct_model.specs.terms.device.DeviceSetup.{DeviceSetup}
use Rattle.cct_model.specs.terms.device.Setup.{Setup}
use Rattle.cct_model.specs.lines.command.Step.{Step}
use Rattle.cct_model.specs.lines.command.Step.TheVariants as step
use Rattle.cct_model.specs.lines.command.WireFault.{WireFault}
use Rattle.cct_model.specs.lines.command.WireFault.TheVariants as fault
use Rattle.cct_model.specs.lines.entry.End.{End}
use Rattle.cct_model.specs.lines.entry.Entry.{Entry}
use Rattle.cct_model.specs.lines.entry.Entry.TheVariants as entry
use Rattle.cct_model.specs.Honest.{forged_after}
use Rattle.cct_model.specs.Legal.{with_end, command_entry, Entries, EntriesOfNext, LegalFrom}
use Rattle.cct_model.specs.Script.{IsInRange}
use Rattle.cct_model.specs.Transcript.{heard_after, met}
use Rattle.cct_laws.specs.Law.{HasBytes}
use Rattle.cct_laws.proofs.wire.ForgedEntriesLast.{next_unforged, forged_off, on_wire}
use Rattle.cct_laws.proofs.jobs.StepBrings.{AtDevice, came, took, halted, idled, made_exchange, made_put, wire_end, record_end, poll_end, Brought, of_device, faulted, refused, began_scan, began_sale, nobody, polled, sold, balanced, of_desk, ended_short, lost_power, lost_in_put, lost_in_sale, told_of, brought, IsOfNoJob, came_of_no_job, desk_of_no_job}
use Rattle.cct_laws.proofs.jobs.EntriesOfStep.{forged_or_not}
use Rattle.cct_laws_live.specs.LiveStep.{LiveStep}
use Rattle.cct_laws_live.specs.LiveStep as live
use Rattle.cct_laws_live.specs.Live.{IsShown, IsTellable, LiveEntries, LiveFrom, shown}
use Rattle.cct_laws_live.specs.Texts.{HearsBytes, SaysBytes}
use Rattle.cct_laws_live.proofs.Alike.{Alike, alike_entry, alike_same, alike_back}
use Rattle.cct_laws_live.proofs.Heard.{piece_in, next_heard}
use Rattle.cct_laws_live.proofs.Onward.{totals_same, refusal_same, restart_over, next_over}

-- what is heard where the bytes were set that are heard
heard_whole : (setup : Setup) (past : List Entry) (heard : List ℕ) →
    (λ (sent : List ℕ). heard) ≡ heard_after setup (entry.Fault (fault.WholeHeard heard) ∷ past)
unfolding heard_after
heard_whole setup past heard = refl

-- neither a fault that is set nor that an exchange was forged is seen by a host
pub alike_fault : (past other : List Entry) (f : WireFault) → Alike past other → Alike (entry.Fault f ∷ past) other
alike_fault past other f alike =
    record { recorded = alike.recorded; devices = alike.devices; scan = alike.scan; sale = alike.sale }

pub alike_forged : (past other : List Entry) (addr : ℕ) → Alike past other → Alike (entry.Forged addr ∷ past) other
alike_forged past other addr alike =
    record { recorded = alike.recorded; devices = alike.devices; scan = alike.scan; sale = alike.sale }

-- so a past is like what it shows
pub alike_shown : (past : List Entry) → Alike past (shown past)
alike_shown [] = alike_same []
alike_shown (entry.Fault f ∷ past) = alike_fault past (shown past) f (alike_shown past)
alike_shown (entry.Forged addr ∷ past) = alike_forged past (shown past) addr (alike_shown past)
alike_shown (e ∷ past) = alike_entry past (shown past) e (alike_shown past)

-- entries of which each is shown
pub shown_on : (news past : List Entry) → shown (news ++ past) ≡ shown news ++ shown past
shown_on [] past = refl
shown_on (entry.Fault f ∷ news) past = shown_on news past
shown_on (entry.Forged addr ∷ news) past = shown_on news past
shown_on (e ∷ news) past = ap (λ es. e ∷ es) (shown_on news past)

abbrev AreShown : List Entry → Type 0
AreShown news = shown news ≡ news

end_shown : (addr : ℕ) (e : Entry) (end : Option End) → AreShown (e ∷ []) → AreShown (with_end addr e end)
end_shown addr e None are = are
end_shown addr e (Some end) are = ap (λ es. entry.Ended addr end ∷ es) are

shown_of_no_job : (e : Entry) → IsOfNoJob e → AreShown (e ∷ [])
shown_of_no_job (entry.Fault f) is = absurd is
shown_of_no_job (entry.Forged addr) is = absurd is
shown_of_no_job e is = refl

there_shown : (capacity : ℕ) (setup : Setup) (d : DeviceSetup) (past news : List Entry) (s : Step) →
    AtDevice capacity setup d past s news → AreShown news
there_shown capacity setup d past _ _ (came s e m ls comes) =
    shown_of_no_job e (came_of_no_job d (met d past) s e m ls comes)
there_shown capacity setup d past _ _ (took s c gives suited here is_free is_taken is_owed lets) = refl
there_shown capacity setup d past _ _ (halted paying can) = refl
there_shown capacity setup d past _ _ (idled is_free) = refl
there_shown capacity setup d past _ _ (made_exchange c since q at_work is_row) =
    end_shown d.addr _ (wire_end setup d past c since q) refl
there_shown capacity setup d past _ _ (made_put c since r at_work is_row) =
    end_shown d.addr _ (record_end d past c since r) refl

-- a step that sets no fault
abbrev SetsNone : Step → Type 0
SetsNone (step.Fault f) = ⊥
SetsNone s = ⊤

brought_shown : (capacity : ℕ) (setup : Setup) (past news : List Entry) (s : Step) → SetsNone s →
    Brought capacity setup past s news → AreShown news
brought_shown capacity setup past _ _ none (of_device d s news own told) = there_shown capacity setup d past news s told
brought_shown capacity setup past _ _ none (faulted f) = absurd none
brought_shown capacity setup past _ _ none (refused c why was) = refl
brought_shown capacity setup past _ _ none (began_scan is_free) = refl
brought_shown capacity setup past _ _ none (began_sale id price is_free lets) = refl
brought_shown capacity setup past _ _ none (nobody addr nobody_there) = refl
brought_shown capacity setup past _ _ none (polled c since check addr nobody_there is_job is_row) =
    end_shown BROADCAST _ (poll_end setup past since check addr) refl
brought_shown capacity setup past _ _ none (sold id price since nobody_there selling) = refl
brought_shown capacity setup past _ _ none balanced = refl
brought_shown capacity setup past _ _ none (of_desk s e is) = shown_of_no_job e (desk_of_no_job s e is)
brought_shown capacity setup past _ _ none (ended_short addr id count why paid rest small range was) = refl
brought_shown capacity setup past _ _ none (lost_power at choice) = refl
brought_shown capacity setup past _ _ none (lost_in_put at choice d c since r own at_work is_row) = refl
brought_shown capacity setup past _ _ none (lost_in_sale at choice id price since nobody_there selling) = refl

-- what a legal past goes on by, where a live one goes on by these entries; its steps are of bytes, if what is said is
record Goes (capacity : ℕ) (setup : Setup) (past news : List Entry) (Says : Type 0) : Type 0 where
  steps : List Step
  end : List Entry
  in_range : All IsInRange steps
  bytes : Says → All HasBytes steps
  legal : LegalFrom capacity setup past steps end
  shows : shown end ≡ news ++ shown past

-- by one step
by_step : (capacity : ℕ) (setup : Setup) (past news : List Entry) (s : Step) (Says : Type 0) → (Says → HasBytes s) →
    SetsNone s → told_of s news ≡ news → IsInRange s → Entries capacity setup past s news →
    Goes capacity setup past news Says
by_step capacity setup past news s Says has none same range is = record {
  steps = s ∷ [];
  end = news ++ past;
  in_range = All-cons IsInRange s [] range (All-nil IsInRange);
  bytes = λ says. All-cons HasBytes s [] (has says) (All-nil HasBytes);
  legal = (news, is, refl);
  shows = shown_on news past ∙ ap (λ es. es ++ shown past) (
      brought_shown capacity setup past news s none
      (subst (Brought capacity setup past s) same (brought capacity setup past news s is))
      );
}

forged_shown : (past told : List Entry) → shown (forged_after past told) ≡ []
forged_shown past told = elim (forged_or_not past told) [
  | inl none ↦ ap shown none
  | inr one ↦ ap shown one.1
]

-- what is said in a step, and what is heard
abbrev Says : LiveStep → List Entry → Type 0
Says s news = SaysBytes s × All HearsBytes news

piece_bytes : (news : List Entry) → All HearsBytes news → IsBytes (piece_in news)
piece_bytes [] all = λ k. omega arith
piece_bytes (entry.Wire addr sent piece ∷ news) all = All-head HearsBytes (entry.Wire addr sent piece) news all
piece_bytes (e ∷ news) all = piece_bytes news (All-tail HearsBytes e news all)

piece_few : (heard piece : List ℕ) → length heard ≤ MOST_HEARD → (piece ≡ heard) ⊎ (piece ≡ []) → length piece ≤ MOST_HEARD
piece_few heard piece few (inl same) = subst (λ p. length p ≤ MOST_HEARD) (sym same) few
piece_few heard piece few (inr none) = subst (λ p. length p ≤ MOST_HEARD) (sym none) (omega arith)

-- by the fault and the `next`
by_piece : (capacity : ℕ) (setup : Setup) (past news : List Entry) (addr : ℕ) (heard : List ℕ) →
    length heard ≤ MOST_HEARD → (Says (live.next addr) news → (addr < 256) × IsBytes heard) →
    EntriesOfNext (λ sent. heard) setup past addr news → Goes capacity setup past news (Says (live.next addr) news)
by_piece capacity setup past news addr heard few has is =
    let set = entry.Fault (fault.WholeHeard heard) ∷ past in
    let next : EntriesOfNext (heard_after setup set) setup set addr news =
    subst (λ hears. EntriesOfNext hears setup set addr news) (heard_whole setup past heard)
    (next_over (λ sent. heard) setup past set news addr (alike_back set past (alike_fault past past _ (alike_same past))) is) in
    let told = forged_after set news ++ news in
    let on = on_wire setup set addr news next in
    let off = forged_off set news (next_unforged (heard_after setup set) setup set addr news next) in
    let are = brought_shown capacity setup set news (step.Next addr) tt
    (subst (Brought capacity setup set (step.Next addr)) off (brought capacity setup set told (step.Next addr) on)) in
    record {
      steps = step.Fault (fault.WholeHeard heard) ∷ step.Next addr ∷ [];
      end = told ++ set;
      in_range = All-cons IsInRange (step.Fault (fault.WholeHeard heard)) (step.Next addr ∷ []) few
          (All-cons IsInRange (step.Next addr) [] tt (All-nil IsInRange));
      bytes = λ says.
          let both = has says in
          All-cons HasBytes (step.Fault (fault.WholeHeard heard)) (step.Next addr ∷ []) both.1
          (All-cons HasBytes (step.Next addr) [] both.0 (All-nil HasBytes));
      legal = (entry.Fault (fault.WholeHeard heard) ∷ [], refl, (told, on, refl));
      shows = shown_on told set ∙ ap (λ es. es ++ shown past) (
          shown_on (forged_after set news) news ∙ ap (λ es. es ++ shown news) (forged_shown set news) ∙ are
          );
    }

-- the fault is of the piece that the entries show
by_next : (capacity : ℕ) (setup : Setup) (past news : List Entry) (addr : ℕ) (heard : List ℕ) →
    length heard ≤ MOST_HEARD → EntriesOfNext (λ sent. heard) setup past addr news →
    Goes capacity setup past news (Says (live.next addr) news)
by_next capacity setup past news addr heard few is =
    let again = next_heard heard news setup past addr is in
    by_piece capacity setup past news addr (piece_in news) (piece_few heard (piece_in news) few again.piece)
    (λ says. (says.0, piece_bytes news says.1)) again.told

-- by any live step
goes : (capacity : ℕ) (setup : Setup) (past news : List Entry) (s : LiveStep) → IsTellable s →
    LiveEntries capacity setup (shown past) s news → Goes capacity setup past news (Says s news)
goes capacity setup past news (live.command c) range is =
    by_step capacity setup past news (step.Command c) (Says (live.command c) news) (λ says. says.0) tt refl range
    (subst (λ why. news ≡ command_entry c why ∷ [])
    (sym (refusal_same capacity setup past (shown past) c (alike_shown past))) is)
goes capacity setup past news (live.next addr) range is =
    by_next capacity setup past news addr is.0 is.1
    (next_over (λ sent. is.0) setup (shown past) past news addr (alike_back past (shown past) (alike_shown past)) is.2)
goes capacity setup past news live.balance range is =
    by_step capacity setup past news step.Balance (Says live.balance news) (λ says. tt) tt refl tt
    (subst (λ t. news ≡ entry.Balance t ∷ []) (sym (totals_same setup past (shown past) (alike_shown past))) is)
goes capacity setup past news (live.start at) range is =
    by_step capacity setup past news (step.Crash at 0) (Says (live.start at) news) (λ says. tt) tt refl range
    (restart_over setup (shown past) past news at (alike_back past (shown past) (alike_shown past)) is)

-- two legal ways, one after the other
pub legal_on : (capacity : ℕ) (setup : Setup) (steps more : List Step) (past middle end : List Entry) →
    LegalFrom capacity setup past steps middle → LegalFrom capacity setup middle more end →
    LegalFrom capacity setup past (steps ++ more) end
legal_on capacity setup [] more past middle end first second =
    subst (λ es. LegalFrom capacity setup es more end) first second
legal_on capacity setup (s ∷ steps) more past middle end first second =
    (first.0, first.1, legal_on capacity setup steps more (first.0 ++ past) middle end first.2 second)

all_later : {A : Type 0} (P : A → Type 0) (first more : List A) → All P (first ++ more) → All P more
all_later P [] more all = all
all_later P (x ∷ first) more all = all_later P first more (All-tail P x (first ++ more) all)

all_first : {A : Type 0} (P : A → Type 0) (first more : List A) → All P (first ++ more) → All P first
all_first P [] more all = All-nil P
all_first P (x ∷ first) more all =
    All-cons P x first (All-head P x (first ++ more) all) (all_first P first more (All-tail P x (first ++ more) all))

-- steps add to a past
pub live_grown : (capacity : ℕ) (setup : Setup) (steps : List LiveStep) (past end : List Entry) →
    LiveFrom capacity setup past steps end → (more : List Entry) × (end ≡ more ++ past)
live_grown capacity setup [] past end is = ([], is)
live_grown capacity setup (s ∷ steps) past end is =
    let later = live_grown capacity setup steps (is.0 ++ past) end is.2 in
    (later.0 ++ is.0, later.1 ∙ sym (append_assoc later.0 is.0 past))

news_heard : (capacity : ℕ) (setup : Setup) (steps : List LiveStep) (past news end : List Entry) →
    LiveFrom capacity setup (news ++ past) steps end → All HearsBytes end → All HearsBytes news
news_heard capacity setup steps past news end is all =
    let later = live_grown capacity setup steps (news ++ past) end is in
    all_first HearsBytes news past (all_later HearsBytes later.0 (news ++ past) (subst (All HearsBytes) later.1 all))

-- a live past is what a legal one shows, of bytes where it is of bytes
pub record Follows (capacity : ℕ) (setup : Setup) (before : List Entry) (lived : List LiveStep) (end : List Entry) : Type 0 where
  pub steps : List Step
  pub past : List Entry
  pub in_range : All IsInRange steps
  pub bytes : All SaysBytes lived → All HearsBytes end → All HasBytes steps
  pub legal : LegalFrom capacity setup before steps past
  pub shows : shown past ≡ end

pub follows_from : (capacity : ℕ) (setup : Setup) (lived : List LiveStep) (past end : List Entry) →
    All IsTellable lived → LiveFrom capacity setup (shown past) lived end → Follows capacity setup past lived end
follows_from capacity setup [] past end range is = record {
  steps = [];
  past = past;
  in_range = All-nil IsInRange;
  bytes = λ said heard. All-nil HasBytes;
  legal = refl;
  shows = sym is;
}
follows_from capacity setup (s ∷ lived) past end range is =
    let one = goes capacity setup past is.0 s (All-head IsTellable s lived range) is.1 in
    let rest = follows_from capacity setup lived one.end end (All-tail IsTellable s lived range)
    (subst (λ es. LiveFrom capacity setup es lived end) (sym one.shows) is.2) in
    record {
      steps = one.steps ++ rest.steps;
      past = rest.past;
      in_range = All-append IsInRange one.steps rest.steps one.in_range rest.in_range;
      bytes = λ said heard.
          All-append HasBytes one.steps rest.steps
          (one.bytes (All-head SaysBytes s lived said, news_heard capacity setup lived (shown past) is.0 end is.2 heard))
          (rest.bytes (All-tail SaysBytes s lived said) heard);
      legal = legal_on capacity setup one.steps rest.steps past one.end rest.past one.legal rest.legal;
      shows = rest.shows;
    }

pub followed_from : (capacity : ℕ) (setup : Setup) (steps : List LiveStep) (past end : List Entry) →
    All IsTellable steps → LiveFrom capacity setup (shown past) steps end → IsShown capacity setup past end
followed_from capacity setup steps past end range is =
    let by = follows_from capacity setup steps past end range is in
    record { steps = by.steps; past = by.past; in_range = by.in_range; legal = by.legal; shows = by.shows }

pub followed : (capacity : ℕ) (setup : Setup) (steps : List LiveStep) (end : List Entry) → All IsTellable steps →
    LiveFrom capacity setup [] steps end → IsShown capacity setup [] end
followed capacity setup steps end range is = followed_from capacity setup steps [] end range is
