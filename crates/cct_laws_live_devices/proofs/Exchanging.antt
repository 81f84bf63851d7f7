-- What happened in an exchange is in the world.
use Rattle.std.proofs.Common.{◌≡◌, ◌≢◌, ◌⊎◌, inl, inr, ℕ, ◌==◌, ◌≤◌, ◌||◌, ◌&&◌, Bool, true, false, List, [], ◌∷◌, ◌++◌, length, refl, sym, ap, ap₂, ◌∙◌, subst, eqb-true, Option, Some, None, arith, append-nil, eq-eqb, true≢false}
use Rattle.std.specs.Prelude.{flat_map, if◌then◌else◌, is_none, unwrap_or}
use Rattle.std.proofs.lemmas.Bool.{ne_eqb}
use Rattle.std.proofs.lemmas.Bool.Decides.{leb_tells}
use Rattle.std.proofs.lemmas.List.{length-append}
use Rattle.cct_frame.proofs.Places.{none_many}
use Rattle.cct_model.specs.terms.wire.CheckKind.{CheckKind}
use Rattle.cct_model.specs.terms.wire.CheckKind.TheVariants.{Simple, Crc}
use Rattle.cct_model.specs.terms.wire.TheConstants.{BROADCAST, MOST_HEARD, MOST_SENT}
use Rattle.cct_model.specs.terms.device.DeviceSetup.{DeviceSetup}
use Rattle.cct_model.specs.terms.device.Setup.{Setup}
use Rattle.cct_model.specs.terms.request.Request.{Request}
use Rattle.cct_model.specs.terms.request.Request.TheVariants.{AddressPoll, SimplePoll}
use Rattle.cct_model.specs.lines.command.WireFault.{WireFault}
use Rattle.cct_model.specs.lines.command.WireFault.TheVariants as fault
use Rattle.cct_model.specs.lines.entry.Entry.{Entry}
use Rattle.cct_model.specs.lines.entry.Entry.TheVariants as entry
use Rattle.cct_model.specs.Exchange.{after_echo, answer, ask, asks_of, by_address}
use Rattle.cct_model.specs.History.{heard}
use Rattle.cct_model.specs.Honest.{IsHonestFault, has_no_message, is_address_poll, is_no_message}
use Rattle.cct_model.specs.Message.{message}
use Rattle.cct_model.specs.Scan.{poll_of}
use Rattle.cct_model.specs.Script.{IsFault}
use Rattle.cct_model.specs.Setup.{IsSoundSetup}
use Rattle.cct_model.specs.Transcript.{heard_after, heard_by_devices, met}
use Rattle.cct_laws.specs.Honesty.{IsAddressPoll, IsNoMessage}
use Rattle.cct_laws.proofs.wire.Echoes.{echo_known}
use Rattle.cct_laws.proofs.wire.HeardBytes.{damaged_asks}
use Rattle.cct_laws.proofs.wire.HonestFaults.{means_honest}
use Rattle.cct_laws_live_devices.specs.Asked.{Moment, asks, entries, heard_by, met_in}
use Rattle.cct_laws_live_devices.specs.Questions.{is_question}
use Rattle.cct_laws_live_devices.specs.Same.{Same}
use Rattle.cct_laws_live_devices.proofs.Lost.{lost_answer, lost_request}
use Rattle.cct_laws_live_devices.proofs.Questions.{same_back, same_met, same_question}
use Rattle.cct_laws_live_devices.proofs.Surveyed.{question_asked}
use Rattle.cct_laws_live_devices.specs.Devices.{IsHeardFrom, IsUnanswered}
use Rattle.cct_laws_live_devices.specs.Explained.{IsExplained}
use Rattle.cct_laws_live_devices.proofs.Explaining.{answered_same, explained_by, explained_clear, explained_question, none_asked, none_empty}
use Rattle.cct_laws_live_devices.proofs.Fronts.{front_unanswered}

-- what happened in an exchange: nothing was sent; or all went as it should, and a front of what came was heard; or there is no
-- reply in what was heard
pub data Happened (setup : Setup) (before : List Moment) (sent piece : List ℕ) : List Moment → Type 0 where
  unsent : piece ≡ [] → Happened setup before sent piece before
  went_right : (rest : List ℕ) → heard_by setup (λ d. met_in d before) fault.Clear sent ≡ piece ++ rest
      → Happened setup before sent piece (asks sent ∷ before)
  went_wrong : (bytes : List ℕ) → IsHeardFrom sent bytes → IsUnanswered sent piece
      → Happened setup before sent piece (asks bytes ∷ before)

-- what is sent in an exchange of a job
pub data IsAskedAt (addr : ℕ) : List ℕ → Type 0 where
  polls : (addr ≡ BROADCAST) → (kind : CheckKind) (polled : ℕ) → IsAskedAt addr (ask kind polled (poll_of polled))
  asks_one : (addr ≢ BROADCAST) → (kind : CheckKind) (q : Request) → IsAskedAt addr (ask kind addr q)

-- where nothing is heard there is no reply
pub silence_unanswered : (sent : List ℕ) → IsUnanswered sent []
unfolding after_echo message
silence_unanswered [] = record { none = refl; bare = λ none. refl }
silence_unanswered (s ∷ sent) = record { none = refl; bare = λ none. refl }

-- the devices heard what was sent, or something that is no message
same_heard : (d : DeviceSetup) (history : List Moment) (world : List Entry) (bytes : List ℕ) → IsNoMessage bytes →
    Same (met_in d history) (met d world) → Same (met_in d (asks bytes ∷ history)) (heard (asks_of d []) ∷ met d world)
same_heard d history world bytes none same =
    subst (λ a. Same (heard (asks_of d bytes) ∷ met_in d history) (heard a ∷ met d world))
    (damaged_asks d bytes none ∙ sym (damaged_asks d [] none_empty))
    (same_met (heard (asks_of d bytes)) (met_in d history) (met d world) same)

-- an exchange with one device
lost_one : (setup : Setup) (history : List Moment) (past : List Entry) (addr : ℕ) (sent piece bytes : List ℕ) →
    (addr == BROADCAST) ≡ false → IsUnanswered sent piece → IsHeardFrom sent bytes →
    IsExplained setup history past → IsExplained setup (asks bytes ∷ history) (entry.Wire addr sent piece ∷ past)
lost_one setup history past addr sent piece bytes one none (inl is) x =
    let all = x.since ++ x.world in
    let lost = lost_answer setup all addr sent piece one none.none in
    explained_by setup history (asks bytes ∷ history) past addr sent piece (fault.HostHears []) x (omega arith) lost.1 lost.0
    (λ d. subst (λ b. Same (heard (asks_of d b) ∷ met_in d history) (heard (asks_of d sent) ∷ met d all)) (sym is)
    (same_met (heard (asks_of d sent)) (met_in d history) (met d all) (x.same d)))
    refl
lost_one setup history past addr sent piece bytes one none (inr damaged) x =
    let all = x.since ++ x.world in
    let lost = lost_request setup all addr sent piece [] one none.none none_empty in
    explained_by setup history (asks bytes ∷ history) past addr sent piece (fault.DevicesHear []) x (omega arith) lost.1 lost.0
    (λ d. same_heard d history all bytes damaged (x.same d)) refl

unsent_one : (setup : Setup) (history : List Moment) (past : List Entry) (addr : ℕ) (sent : List ℕ) →
    (addr == BROADCAST) ≡ false → IsExplained setup history past → IsExplained setup history (entry.Wire addr sent [] ∷ past)
unsent_one setup history past addr sent one x =
    let all = x.since ++ x.world in
    let lost = lost_request setup all addr sent [] [] one (silence_unanswered sent).none none_empty in
    explained_by setup history history past addr sent [] (fault.DevicesHear []) x (omega arith) lost.1 lost.0
    (λ d. same_back (heard (asks_of d []) ∷ met d all) (met_in d history)
    (same_question (asks_of d []) (met d all) (met_in d history) (none_asked d) (same_back (met_in d history) (met d all) (x.same d))))
    refl

-- what is longer than a message is none
long_none : (piece : List ℕ) → is_no_message piece ≡ false → length piece ≤ MOST_SENT
long_none piece is = elim (leb_tells (length piece) MOST_SENT) [
  | inl few ↦ few.1
  | inr many ↦
      absurd (true≢false (sym (ap₂ (λ x y. is_none x && is_none y) (none_many Simple piece many.1) (none_many Crc piece many.1)) ∙ is))
]

-- a fault by which the host hears what it heard in a poll of a scan, and the devices what was sent
record IsPollFault (sent piece : List ℕ) : Type 0 where
  f : WireFault
  range : IsFault f
  honest : IsHonestFault f sent
  devices : heard_by_devices f sent ≡ sent
  hears : (setup : Setup) (past : List Entry) → piece ≡ heard_after setup (entry.Fault f ∷ past) sent

or_true : (b : Bool) → (b || true) ≡ true
or_true true = refl
or_true false = refl

whole_fault : (sent piece : List ℕ) → length piece ≤ MOST_HEARD →
    (is_address_poll sent || (is_no_message piece && has_no_message (after_echo sent piece))) ≡ true → IsPollFault sent piece
unfolding heard_after
whole_fault sent piece few honest =
    record { f = fault.WholeHeard piece; range = few; honest = honest; devices = refl; hears = λ s p. refl }

rest_fault : (sent piece rest : List ℕ) → piece ≡ sent ++ rest → length piece ≤ MOST_SENT → is_no_message rest ≡ true →
    IsPollFault sent piece
unfolding heard_after
rest_fault sent piece rest is few none = record {
  f = fault.HostHears rest;
  range = let long = ap length is in omega (arith, few, long, length-append sent rest);
  honest = ap (λ b. is_address_poll sent || b) none ∙ or_true (is_address_poll sent);
  devices = refl;
  hears = λ s p. is;
}

none_behind : (found : Option (List ℕ)) (rest : List ℕ) → found ≡ Some rest → has_no_message found ≡ true →
    is_no_message rest ≡ true
none_behind found rest is none = ap has_no_message (sym is) ∙ none

poll_fault : (sent piece : List ℕ) → length piece ≤ MOST_HEARD → IsAddressPoll sent ⊎ IsUnanswered sent piece →
    IsPollFault sent piece
poll_fault sent piece few (inl all) =
    whole_fault sent piece few (means_honest (fault.WholeHeard piece) sent (λ none. absurd (none all)))
poll_fault sent piece few (inr none) = by_message (is_no_message piece) refl
  where
    by_echo : (found : Option (List ℕ)) → after_echo sent piece ≡ found → is_no_message piece ≡ false → IsPollFault sent piece
    by_echo None echo is = absurd (true≢false (sym (none.bare echo) ∙ is))
    by_echo (Some rest) echo is =
        rest_fault sent piece rest (echo_known sent piece rest echo) (long_none piece is)
        (none_behind (after_echo sent piece) rest echo none.none)

    by_message : (b : Bool) → is_no_message piece ≡ b → IsPollFault sent piece
    by_message true is =
        whole_fault sent piece few
        (ap₂ (λ x y. is_address_poll sent || (x && y)) is none.none ∙ or_true (is_address_poll sent))
    by_message false is = by_echo (after_echo sent piece) refl is

-- a poll of a scan is a question
poll_question : (polled : ℕ) → is_question (Some (poll_of polled)) ≡ true
poll_question polled = by_test (polled == BROADCAST)
  where
    by_test : (all : Bool) → is_question (Some (if all then AddressPoll else SimplePoll)) ≡ true
    by_test true = refl
    by_test false = refl

poll_asks : (d : DeviceSetup) (kind : CheckKind) (polled : ℕ) → is_question (asks_of d (ask kind polled (poll_of polled))) ≡ true
poll_asks d kind polled = question_asked d fault.Clear kind polled (poll_of polled) (poll_question polled) refl

lost_poll : (setup : Setup) (history later : List Moment) (past : List Entry) (addr : ℕ) (sent piece : List ℕ) →
    ((d : DeviceSetup) → is_question (asks_of d sent) ≡ true) → IsPollFault sent piece →
    (x : IsExplained setup history past) →
    ((d : DeviceSetup) → Same (met_in d later) (met d (x.since ++ x.world))) → entries later ≡ entries history →
    IsExplained setup later (entry.Wire addr sent piece ∷ past)
lost_poll setup history later past addr sent piece question by x same befell =
    let all = x.since ++ x.world in
    explained_by setup history later past addr sent piece by.f x by.range by.honest (inl (by.hears setup all))
    (λ d. subst (λ b. Same (met_in d later) (heard (asks_of d b) ∷ met d all)) (sym by.devices)
    (same_back (heard (asks_of d sent) ∷ met d all) (met_in d later)
    (same_question (asks_of d sent) (met d all) (met_in d later) (question d) (same_back (met_in d later) (met d all) (same d)))))
    befell

-- what devices heard in a poll is a question, or nothing
heard_question : (d : DeviceSetup) (sent bytes : List ℕ) → is_question (asks_of d sent) ≡ true → IsHeardFrom sent bytes →
    is_question (asks_of d bytes) ≡ true
heard_question d sent bytes question (inl is) = subst (λ b. is_question (asks_of d b) ≡ true) (sym is) question
heard_question d sent bytes question (inr none) = ap is_question (damaged_asks d bytes none)

-- all that comes of what was sent
heard_clear : (setup : Setup) (history : List Moment) (sent piece rest : List ℕ) →
    heard_by setup (λ d. met_in d history) fault.Clear sent ≡ piece ++ rest →
    piece ++ rest ≡ sent ++ flat_map (λ d. unwrap_or (answer d (met_in d history) sent) []) (by_address setup.devices)
unfolding heard_by
heard_clear setup history sent piece rest is = sym is

some_more : (byte : ℕ) (rest : List ℕ) → (byte ∷ rest) ≢ []
some_more byte rest = λ none. clash none
  where
    clash : (byte ∷ rest) ≡ [] → ⊥
    clash e = cc

not_equal : (m n : ℕ) → m ≢ n → (m == n) ≡ false
not_equal m n differ = ne_eqb m n differ

-- all went as it should, and all of it was heard
all_heard : (setup : Setup) (history : List Moment) (past : List Entry) (addr : ℕ) (sent piece : List ℕ) →
    heard_by setup (λ d. met_in d history) fault.Clear sent ≡ piece ++ [] → IsExplained setup history past →
    IsExplained setup (asks sent ∷ history) (entry.Wire addr sent piece ∷ past)
all_heard setup history past addr sent piece is x =
    explained_clear setup history past addr sent piece x
    (sym (append-nil piece) ∙ sym is ∙ answered_same setup history past sent x)

one_exchange : (setup : Setup) (history : List Moment) (past : List Entry) (addr : ℕ) (kind : CheckKind) (q : Request)
    (piece : List ℕ) (later : List Moment) → IsSoundSetup setup → addr ≢ BROADCAST → Happened setup history (ask kind addr q) piece later →
    IsExplained setup history past → IsExplained setup later (entry.Wire addr (ask kind addr q) piece ∷ past)
one_exchange setup history past addr kind q piece _ sound one (unsent is) x =
    subst (λ p. IsExplained setup history (entry.Wire addr (ask kind addr q) p ∷ past)) (sym is)
    (unsent_one setup history past addr (ask kind addr q) (not_equal addr BROADCAST one) x)
one_exchange setup history past addr kind q piece _ sound one (went_right [] is) x =
    all_heard setup history past addr (ask kind addr q) piece is x
one_exchange setup history past addr kind q piece _ sound one (went_right (byte ∷ rest) is) x =
    lost_one setup history past addr (ask kind addr q) piece (ask kind addr q) (not_equal addr BROADCAST one)
    (front_unanswered setup (λ d. met_in d history) kind addr q piece (byte ∷ rest) sound one (some_more byte rest)
    (heard_clear setup history (ask kind addr q) piece (byte ∷ rest) is))
    (inl refl) x
one_exchange setup history past addr kind q piece _ sound one (went_wrong bytes honest none) x =
    lost_one setup history past addr (ask kind addr q) piece bytes (not_equal addr BROADCAST one) none honest x

poll_front : (setup : Setup) (history : List Moment) (kind : CheckKind) (polled : ℕ) (piece rest : List ℕ) →
    IsSoundSetup setup → rest ≢ [] →
    heard_by setup (λ d. met_in d history) fault.Clear (ask kind polled (poll_of polled)) ≡ piece ++ rest →
    IsAddressPoll (ask kind polled (poll_of polled)) ⊎ IsUnanswered (ask kind polled (poll_of polled)) piece
poll_front setup history kind polled piece rest sound more is = by_test (polled == BROADCAST) refl
  where
    clash : false ≡ true → ⊥
    clash e = cc

    by_test : (all : Bool) → (polled == BROADCAST) ≡ all →
        IsAddressPoll (ask kind polled (poll_of polled)) ⊎ IsUnanswered (ask kind polled (poll_of polled)) piece
    by_test true test = inl (kind, ap (λ a. ask kind a (poll_of a)) (eqb-true polled BROADCAST test))
    by_test false test =
        inr (front_unanswered setup (λ d. met_in d history) kind polled (poll_of polled) piece rest sound
        (λ same. clash (sym test ∙ eq-eqb polled BROADCAST same)) more
        (heard_clear setup history (ask kind polled (poll_of polled)) piece rest is))

poll_exchange : (setup : Setup) (history : List Moment) (past : List Entry) (addr : ℕ) (kind : CheckKind) (polled : ℕ)
    (piece : List ℕ) (later : List Moment) → IsSoundSetup setup → length piece ≤ MOST_HEARD →
    Happened setup history (ask kind polled (poll_of polled)) piece later → IsExplained setup history past →
    IsExplained setup later (entry.Wire addr (ask kind polled (poll_of polled)) piece ∷ past)
poll_exchange setup history past addr kind polled piece _ sound few (unsent is) x =
    let sent = ask kind polled (poll_of polled) in
    lost_poll setup history history past addr sent piece (λ d. poll_asks d kind polled)
    (poll_fault sent piece few (inr (subst (IsUnanswered sent) (sym is) (silence_unanswered sent)))) x x.same refl
poll_exchange setup history past addr kind polled piece _ sound few (went_right [] is) x =
    all_heard setup history past addr (ask kind polled (poll_of polled)) piece is x
poll_exchange setup history past addr kind polled piece _ sound few (went_right (byte ∷ rest) is) x =
    let sent = ask kind polled (poll_of polled) in
    let all = x.since ++ x.world in
    lost_poll setup history (asks sent ∷ history) past addr sent piece (λ d. poll_asks d kind polled)
    (poll_fault sent piece few (poll_front setup history kind polled piece (byte ∷ rest) sound (some_more byte rest) is)) x
    (λ d. same_question (asks_of d sent) (met_in d history) (met d all) (poll_asks d kind polled) (x.same d)) refl
poll_exchange setup history past addr kind polled piece _ sound few (went_wrong bytes honest none) x =
    let sent = ask kind polled (poll_of polled) in
    let all = x.since ++ x.world in
    lost_poll setup history (asks bytes ∷ history) past addr sent piece (λ d. poll_asks d kind polled)
    (poll_fault sent piece few (inr none)) x
    (λ d. same_question (asks_of d bytes) (met_in d history) (met d all)
    (heard_question d sent bytes (poll_asks d kind polled) honest) (x.same d)) refl

-- an exchange that is reported
pub told_exchange : (setup : Setup) (history : List Moment) (past : List Entry) (addr : ℕ) (sent piece : List ℕ) (later : List Moment) →
    IsSoundSetup setup → length piece ≤ MOST_HEARD → IsAskedAt addr sent → Happened setup history sent piece later →
    IsExplained setup history past → IsExplained setup later (entry.Wire addr sent piece ∷ past)
told_exchange setup history past addr _ piece later sound few (polls is kind polled) happened x =
    poll_exchange setup history past addr kind polled piece later sound few happened x
told_exchange setup history past addr _ piece later sound few (asks_one one kind q) happened x =
    one_exchange setup history past addr kind q piece later sound one happened x

-- a question that no host reports
pub asked_exchange : (setup : Setup) (history : List Moment) (past : List Entry) (sent piece : List ℕ) (later : List Moment) →
    ((d : DeviceSetup) → is_question (asks_of d sent) ≡ true) → Happened setup history sent piece later →
    IsExplained setup history past → IsExplained setup later past
asked_exchange setup history past sent piece _ question (unsent is) x = x
asked_exchange setup history past sent piece _ question (went_right rest is) x =
    explained_question setup history past sent question x
asked_exchange setup history past sent piece _ question (went_wrong bytes honest none) x =
    explained_question setup history past bytes (λ d. heard_question d sent bytes (question d) honest) x
