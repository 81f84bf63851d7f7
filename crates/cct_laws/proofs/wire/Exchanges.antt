-- An exchange with a device of a setup: what is asked is heard by it alone, and what it replies is got, or nothing.
use Rattle.std.proofs.Common.{◌≡◌, ◌≢◌, ℕ, ◌==◌, ◌≤◌, ◌&&◌, nat_le, cond, true, false, Bool, List, [], ◌∷◌, ◌++◌, length, slice_index, flat_map, refl, ap, sym, ◌∙◌, subst₂, Option, Some, None, option_and_then, unwrap_or, arith, eq-eqb, eqb-true, append-nil, ◌⊎◌, inl, inr}
use Rattle.cct_model.specs.terms.wire.CheckKind.{CheckKind}
use Rattle.cct_model.specs.terms.wire.CheckKind.TheVariants.{Simple, Crc}
use Rattle.cct_model.specs.terms.device.DeviceSetup.{DeviceSetup}
use Rattle.cct_model.specs.terms.device.Setup.{Setup}
use Rattle.cct_model.specs.terms.request.Request.{Request}
use Rattle.cct_model.specs.terms.request.ReplyForm.{ReplyForm}
use Rattle.cct_model.specs.lines.command.WireFault.{WireFault}
use Rattle.cct_model.specs.lines.command.WireFault.TheVariants as fault
use Rattle.cct_model.specs.lines.entry.Entry.{Entry}
use Rattle.cct_model.specs.Message.{message, spelling}
use Rattle.cct_model.specs.Request.{header_of, data_of, request_of, form_of}
use Rattle.cct_model.specs.Reply.{Reply, IsSayable, nak, reply_data, reply_in}
use Rattle.cct_model.specs.History.{Met}
use Rattle.cct_model.specs.Device.{IsSound, reply_of}
use Rattle.cct_model.specs.Setup.{AreDistinct, IsSoundSetup}
use Rattle.cct_model.specs.Exchange.{ask, asking, asks_of, asked_of, asker, answer, replying, after_echo, got, to_one, reply_from, put_by_address, by_address, device_at}
use Rattle.cct_model.specs.Transcript.{pending, met, answers, heard_by_devices, heard_by_host, heard_after, got_by}
use Rattle.cct_model.proofs.Requests.{request_back, request_short}
use Rattle.cct_frame.specs.Frame.{carried}
use Rattle.cct_frame.proofs.Spellings.{written_back}
use Rattle.cct_msg.specs.Forms.{FitsItsBytes, IsWhole, form_shown}
use Rattle.cct_msg.proofs.Exchanges.{asked_back, reply_heard}
use Rattle.cct_model.specs.Honest.{IsHonestFault}
use Rattle.cct_laws.specs.Honesty.{IsNoMessage, IsAddressPoll, DamagesHonestly}
use Rattle.cct_laws.proofs.wire.Echoes.{echo_off, echo_known}
use Rattle.cct_laws.proofs.wire.HonestFaults.{honest_means}
use Rattle.cct_laws.specs.DeviceJobs.{Fate, unheard, silenced, answered, IsRefused}
use Rattle.cct_laws.specs.Law.{IsOf}
use Rattle.cct_laws.proofs.wire.HeardBytes.{ask_to, asks_nothing, none_under, damaged_asks}
use Rattle.cct_laws.proofs.setups.DeviceAt.{found_in, same_some}

-- a request with the reply of a device that met all this
pub record Replied (d : DeviceSetup) (past : List Met) (q : Request) : Type 0 where
  pub y : Reply
  pub form : ReplyForm
  pub replied : reply_of d past q ≡ Some y
  pub wants : form_of q ≡ Some form
  pub shown : form_shown y ≡ Some form
  pub whole : IsWhole y
  pub sayable : IsSayable y
  pub fits : FitsItsBytes q
  pub to_its_device : to_one (Some q) ≡ Some q

-- a request that a device that met all this refuses
pub record Refused (d : DeviceSetup) (past : List Met) (q : Request) : Type 0 where
  pub refuses : IsRefused d past q
  pub replied : reply_of d past q ≡ Some nak
  pub fits : FitsItsBytes q
  pub to_its_device : to_one (Some q) ≡ Some q

-- a request that has its reply, or is refused
abbrev pub Answers : DeviceSetup → List Met → Request → Type 0
Answers d past q = Replied d past q ⊎ Refused d past q

-- what the host sends is its message
message_asked : (kind : CheckKind) (addr : ℕ) (q : Request) →
    message kind (ask kind addr q) ≡ Some (carried kind (asking addr q))
unfolding ask
message_asked kind addr q =
    let few = request_short q in
    let short : length (data_of q) ≤ 255 = omega arith in
    written_back kind (asking addr q) short refl

asked_carried : (kind : CheckKind) (addr : ℕ) (q : Request) →
    asked_of addr (carried kind (asking addr q)) ≡ to_one (request_of (header_of q) (data_of q))
asked_carried Simple addr q = rw (eq-eqb addr addr refl) refl
asked_carried Crc addr q = rw (eq-eqb addr addr refl) refl

-- the asked device hears what it is asked
pub asks_back : (d : DeviceSetup) (q : Request) → FitsItsBytes q → to_one (Some q) ≡ Some q →
    asks_of d (ask d.kind d.addr q) ≡ Some q
unfolding asks_of
asks_back d q fits to_it =
    ap (option_and_then (asked_of d.addr)) (message_asked d.kind d.addr q) ∙ asked_carried d.kind d.addr q
    ∙ ap to_one (request_back q fits) ∙ to_it

asker_carried : (kind : CheckKind) (addr : ℕ) (q : Request) →
    unwrap_or (option_and_then (λ m. m.from) (Some (carried kind (asking addr q)))) 1 ≡ 1
asker_carried Simple addr q = refl
asker_carried Crc addr q = refl

asker_back : (kind : CheckKind) (addr : ℕ) (q : Request) → asker kind (ask kind addr q) ≡ 1
unfolding asker
asker_back kind addr q =
    ap (λ found. unwrap_or (option_and_then (λ m. m.from) found) 1) (message_asked kind addr q)
    ∙ asker_carried kind addr q

-- and answers with its reply
answer_back : (d : DeviceSetup) (past : List Met) (q : Request) (y : Reply) → FitsItsBytes q →
    to_one (Some q) ≡ Some q → reply_of d past q ≡ Some y →
    answer d past (ask d.kind d.addr q) ≡ Some (spelling d.kind (replying 1 d.addr y))
answer_back d past q y fits to_it replied = rw (asks_back d q fits to_it, replied, asker_back d.kind d.addr q) refl

-- what one device of several gives, where the others give nothing
skips_by : (f : DeviceSetup → List ℕ) (e x : DeviceSetup) (devices put : List DeviceSetup) (first : Bool) → f e ≡ [] →
    flat_map f put ≡ flat_map f devices → flat_map f (cond first (e ∷ x ∷ devices) (x ∷ put)) ≡ flat_map f (x ∷ devices)
skips_by f e x devices put true none later = rw none refl
skips_by f e x devices put false none later = ap (λ rest. f x ++ rest) later

put_skips : (f : DeviceSetup → List ℕ) (e : DeviceSetup) (devices : List DeviceSetup) → f e ≡ [] →
    flat_map f (put_by_address e devices) ≡ flat_map f devices
put_skips f e [] none = rw none refl
put_skips f e (x ∷ devices) none =
    skips_by f e x devices (put_by_address e devices) (nat_le e.addr x.addr) none (put_skips f e devices none)

front_empty : (xs ys : List ℕ) → xs ++ ys ≡ [] → (xs ≡ []) × (ys ≡ [])
front_empty [] ys e = (refl, e)
front_empty (x ∷ xs) ys e = absurd cc

alone_by : (f : DeviceSetup → List ℕ) (e x : DeviceSetup) (devices put : List DeviceSetup) (first : Bool) →
    f x ++ flat_map f devices ≡ [] → (flat_map f devices ≡ [] → flat_map f put ≡ f e) →
    flat_map f (cond first (e ∷ x ∷ devices) (x ∷ put)) ≡ f e
alone_by f e x devices put true none later = ap (λ rest. f e ++ rest) none ∙ append-nil (f e)
alone_by f e x devices put false none later =
    let parts = front_empty (f x) (flat_map f devices) none in
    ap (λ front. front ++ flat_map f put) parts.0 ∙ later parts.1

put_alone : (f : DeviceSetup → List ℕ) (e : DeviceSetup) (devices : List DeviceSetup) → flat_map f devices ≡ [] →
    flat_map f (put_by_address e devices) ≡ f e
put_alone f e [] none = append-nil (f e)
put_alone f e (x ∷ devices) none =
    alone_by f e x devices (put_by_address e devices) (nat_le e.addr x.addr) none (put_alone f e devices)

-- a device at another address
there_by : (here : Bool) (e : DeviceSetup) (rest : Option DeviceSetup) → cond here (Some e) rest ≡ None →
    (here ≡ false) × (rest ≡ None)
there_by true e rest none = absurd cc
there_by false e rest none = (refl, none)

differs : (m n : ℕ) → (m == n) ≡ false → m ≢ n
differs m n test = λ e. clash (sym test ∙ eq-eqb m n e)
  where
    clash : false ≡ true → ⊥
    clash e = cc

nobody_gives : (f : DeviceSetup → List ℕ) (addr : ℕ) (devices : List DeviceSetup) →
    ((e : DeviceSetup) → e.addr ≢ addr → f e ≡ []) → device_at devices addr ≡ None →
    flat_map f (by_address devices) ≡ []
nobody_gives f addr [] silent none = refl
nobody_gives f addr (e ∷ devices) silent none =
    let there = there_by (e.addr == addr) e (device_at devices addr) none in
    put_skips f e (by_address devices) (silent e (differs e.addr addr there.0))
    ∙ nobody_gives f addr devices silent there.1

one_by : (f : DeviceSetup → List ℕ) (addr : ℕ) (e d : DeviceSetup) (devices : List DeviceSetup) (here : Bool) →
    (e.addr == addr) ≡ here → ((e : DeviceSetup) → e.addr ≢ addr → f e ≡ []) →
    device_at devices e.addr ≡ None → (device_at devices addr ≡ Some d → flat_map f (by_address devices) ≡ f d) →
    cond here (Some e) (device_at devices addr) ≡ Some d →
    flat_map f (put_by_address e (by_address devices)) ≡ f d
one_by f addr e d devices true test silent alone later found =
    let no_more : device_at devices addr ≡ None = ap (device_at devices) (sym (eqb-true e.addr addr test)) ∙ alone in
    put_alone f e (by_address devices) (nobody_gives f addr devices silent no_more) ∙ ap f (same_some e d found)
one_by f addr e d devices false test silent alone later found =
    put_skips f e (by_address devices) (silent e (differs e.addr addr test)) ∙ later found

pub one_gives : (f : DeviceSetup → List ℕ) (addr : ℕ) (d : DeviceSetup) (devices : List DeviceSetup) →
    ((e : DeviceSetup) → e.addr ≢ addr → f e ≡ []) → AreDistinct devices → device_at devices addr ≡ Some d →
    flat_map f (by_address devices) ≡ f d
one_gives f addr d [] silent distinct found = absurd cc
one_gives f addr d (e ∷ devices) silent distinct found =
    one_by f addr e d devices (e.addr == addr) refl silent distinct.0
    (one_gives f addr d devices silent distinct.1) found

-- a device at another address is silent
pub silent_to : (d : DeviceSetup) (past : List Met) (piece : List ℕ) → asks_of d piece ≡ None →
    unwrap_or (answer d past piece) [] ≡ []
silent_to d past piece none = rw none refl

-- the asked device alone answers
answers_back : (setup : Setup) (d : DeviceSetup) (past : List Entry) (q : Request) (y : Reply) → FitsItsBytes q →
    to_one (Some q) ≡ Some q → reply_of d (met d past) q ≡ Some y → IsSoundSetup setup → IsOf setup d →
    answers setup past (ask d.kind d.addr q) ≡ spelling d.kind (replying 1 d.addr y)
answers_back setup d past q y fits to_device replied sound own =
    let sent = ask d.kind d.addr q in
    let to_it : slice_index sent 0 ≡ d.addr = ask_to d.kind d.addr q in
    let low = (found_in IsSound setup.devices d.addr d sound.devices own).0.low in
    let some : d.addr ≢ 0 = omega (arith, low) in
    let silent : (e : DeviceSetup) → e.addr ≢ d.addr → unwrap_or (answer e (met e past) sent) [] ≡ [] =
    λ e other. silent_to e (met e past) sent
    (asks_nothing e sent (λ same. other (sym same ∙ to_it)) (λ zero. some (sym to_it ∙ zero))) in
    one_gives (λ e. unwrap_or (answer e (met e past) sent) []) d.addr d setup.devices silent sound.distinct own
    ∙ ap (λ found. unwrap_or found []) (answer_back d (met d past) q y fits to_device replied)

-- the reply of the asked address is got
got_back : (d : DeviceSetup) (past : List Met) (q : Request) (sent : List ℕ) (is : Replied d past q) →
    got d.kind d.addr is.form sent (sent ++ spelling d.kind (replying 1 d.addr is.y)) ≡ Some is.y
unfolding got
got_back d past q sent is =
    rw (echo_off sent (spelling d.kind (replying 1 d.addr is.y)))
    (reply_heard d.kind is.form d.addr is.y is.shown is.whole is.sayable)

got_by_back : (d : DeviceSetup) (past : List Met) (q : Request) (is : Replied d past q) →
    got_by d (ask d.kind d.addr q) (ask d.kind d.addr q ++ spelling d.kind (replying 1 d.addr is.y)) ≡ Some is.y
unfolding got_by
got_by_back d past q is =
    rw (asked_back d.kind d.addr q is.fits, is.wants) (got_back d past q (ask d.kind d.addr q) is)

-- the reply in a form that bytes from an address are
abbrev read_from : CheckKind → ℕ → ReplyForm → List ℕ → Option Reply
read_from kind addr form piece = option_and_then (reply_from form addr) (message kind piece)

-- no message is a reply
no_message : (kind : CheckKind) (addr : ℕ) (form : ReplyForm) (piece : List ℕ) → message kind piece ≡ None →
    read_from kind addr form piece ≡ None
no_message kind addr form piece none = ap (option_and_then (reply_from form addr)) none

-- a refusal is none in any form, for its header isn't 0
other_header : (is_for : Bool) (y : Option Reply) → cond (is_for && false) y None ≡ None
other_header true y = refl
other_header false y = refl

refusal_carried : (kind : CheckKind) (addr : ℕ) (form : ReplyForm) →
    reply_from form addr (carried kind (replying 1 addr nak)) ≡ None
refusal_carried Simple addr form = other_header (addr == addr) (reply_in form (reply_data nak))
refusal_carried Crc addr form = refl

refusal_read : (kind : CheckKind) (addr : ℕ) (form : ReplyForm) →
    read_from kind addr form (spelling kind (replying 1 addr nak)) ≡ None
unfolding reply_data
refusal_read kind addr form =
    ap (option_and_then (reply_from form addr)) (written_back kind (replying 1 addr nak) (omega arith) refl)
    ∙ refusal_carried kind addr form

-- nothing is got where no such reply is after the echo
none_got : (found : Option ReplyForm) (g : ReplyForm → Option Reply) → ((form : ReplyForm) → g form ≡ None) →
    option_and_then g found ≡ None
none_got None g none = refl
none_got (Some form) g none = none form

none_after : (kind : CheckKind) (addr : ℕ) (form : ReplyForm) (after : Option (List ℕ)) →
    ((rest : List ℕ) → after ≡ Some rest → read_from kind addr form rest ≡ None) →
    option_and_then (read_from kind addr form) after ≡ None
none_after kind addr form None none = refl
none_after kind addr form (Some rest) none = none rest refl

got_none : (kind : CheckKind) (addr : ℕ) (form : ReplyForm) (sent heard : List ℕ) →
    ((rest : List ℕ) → after_echo sent heard ≡ Some rest → read_from kind addr form rest ≡ None) →
    got kind addr form sent heard ≡ None
unfolding got
got_none kind addr form sent heard none = none_after kind addr form (after_echo sent heard) none

nothing_got : (d : DeviceSetup) (sent heard : List ℕ) →
    ((form : ReplyForm) (rest : List ℕ) → after_echo sent heard ≡ Some rest →
    read_from d.kind d.addr form rest ≡ None) →
    got_by d sent heard ≡ None
unfolding got_by
nothing_got d sent heard none = none_got _ _ (λ form. got_none d.kind d.addr form sent heard (none form))

none_behind : (d : DeviceSetup) (sent piece : List ℕ) →
    ((form : ReplyForm) → read_from d.kind d.addr form piece ≡ None) → got_by d sent (sent ++ piece) ≡ None
none_behind d sent piece none =
    nothing_got d sent (sent ++ piece) (λ form rest found.
    ap (read_from d.kind d.addr form) (same_some rest piece (sym found ∙ echo_off sent piece)) ∙ none form)

-- no device answers damaged bytes
all_silent : (f : DeviceSetup → List ℕ) (devices : List DeviceSetup) → ((e : DeviceSetup) → f e ≡ []) →
    flat_map f devices ≡ []
all_silent f [] silent = refl
all_silent f (e ∷ devices) silent = rw (silent e) (all_silent f devices silent)

pub damaged_answers : (setup : Setup) (past : List Entry) (piece : List ℕ) → IsNoMessage piece →
    answers setup past piece ≡ []
damaged_answers setup past piece none =
    all_silent _ (by_address setup.devices) (λ e. silent_to e (met e past) piece (damaged_asks e piece none))

pub empty_message : (kind : CheckKind) → message kind [] ≡ None
unfolding message
empty_message Simple = refl
empty_message Crc = refl

-- what the host hears under a fault
abbrev pub heard_under : Setup → List Entry → WireFault → List ℕ → List ℕ
heard_under setup past f sent = heard_by_host f sent (answers setup past (heard_by_devices f sent))

pub heard_is : (setup : Setup) (past : List Entry) (sent : List ℕ) →
    heard_after setup past sent ≡ heard_under setup past (pending past) sent
unfolding heard_after
heard_is setup past sent = refl

-- without a fault the device's reply is got, and nothing where it refuses
clear_got : (setup : Setup) (d : DeviceSetup) (past : List Entry) (q : Request) (is : Replied d (met d past) q) →
    IsSoundSetup setup → IsOf setup d →
    got_by d (ask d.kind d.addr q) (heard_under setup past fault.Clear (ask d.kind d.addr q)) ≡ Some is.y
clear_got setup d past q is sound own =
    ap (λ heard. got_by d (ask d.kind d.addr q) (ask d.kind d.addr q ++ heard))
    (answers_back setup d past q is.y is.fits is.to_its_device is.replied sound own)
    ∙ got_by_back d (met d past) q is

clear_refused : (setup : Setup) (d : DeviceSetup) (past : List Entry) (q : Request) → Refused d (met d past) q →
    IsSoundSetup setup → IsOf setup d →
    got_by d (ask d.kind d.addr q) (heard_under setup past fault.Clear (ask d.kind d.addr q)) ≡ None
clear_refused setup d past q is sound own =
    ap (λ heard. got_by d (ask d.kind d.addr q) (ask d.kind d.addr q ++ heard))
    (answers_back setup d past q nak is.fits is.to_its_device is.replied sound own)
    ∙ none_behind d (ask d.kind d.addr q) (spelling d.kind (replying 1 d.addr nak)) (refusal_read d.kind d.addr)

-- and an honest one leaves no other fate: nobody heard what was asked, or the device alone did, or its reply was got
abbrev Fares : Setup → DeviceSetup → List Entry → Request → WireFault → Type 0
Fares setup d past q f =
    let sent = ask d.kind d.addr q in
    Fate d (met d past) q (asks_of d (heard_by_devices f sent)) (got_by d sent (heard_under setup past f sent))

fate_is : (d : DeviceSetup) (past : List Met) (q : Request) (asks heard : Option Request) (got found : Option Reply) →
    Fate d past q heard found → asks ≡ heard → got ≡ found → Fate d past q asks got
fate_is d past q asks heard got found fate asks_are got_is = subst₂ (Fate d past q) (sym asks_are) (sym got_is) fate

fares_clear : (setup : Setup) (d : DeviceSetup) (past : List Entry) (q : Request) → Answers d (met d past) q →
    IsSoundSetup setup → IsOf setup d → Fares setup d past q fault.Clear
fares_clear setup d past q (inl is) sound own =
    fate_is d (met d past) q _ (Some q) _ (Some is.y) (answered is.y is.replied)
    (asks_back d q is.fits is.to_its_device) (clear_got setup d past q is sound own)
fares_clear setup d past q (inr is) sound own =
    fate_is d (met d past) q _ (Some q) _ None silenced
    (asks_back d q is.fits is.to_its_device) (clear_refused setup d past q is sound own)

-- what is asked fits its bytes, and is no address poll
pub fits_of : (d : DeviceSetup) (past : List Met) (q : Request) → Answers d past q → FitsItsBytes q
fits_of d past q (inl is) = is.fits
fits_of d past q (inr is) = is.fits

to_device_of : (d : DeviceSetup) (past : List Met) (q : Request) → Answers d past q → to_one (Some q) ≡ Some q
to_device_of d past q (inl is) = is.to_its_device
to_device_of d past q (inr is) = is.to_its_device

pub heard_back : (d : DeviceSetup) (past : List Met) (q : Request) → Answers d past q →
    asks_of d (ask d.kind d.addr q) ≡ Some q
heard_back d past q is = asks_back d q (fits_of d past q is) (to_device_of d past q is)

fares_under : (setup : Setup) (d : DeviceSetup) (past : List Entry) (q : Request) (f : WireFault) →
    Answers d (met d past) q → IsSoundSetup setup → IsOf setup d →
    DamagesHonestly f (ask d.kind d.addr q) → (IsAddressPoll (ask d.kind d.addr q) → ⊥) → Fares setup d past q f
fares_under setup d past q fault.Clear is sound own damage no_poll = fares_clear setup d past q is sound own
fares_under setup d past q (fault.DevicesHear piece) is sound own damage no_poll =
    let sent = ask d.kind d.addr q in
    fate_is d (met d past) q _ None _ None unheard (damaged_asks d piece damage)
    (ap (λ heard. got_by d sent (sent ++ heard)) (damaged_answers setup past piece damage)
    ∙ none_behind d sent [] (λ form. no_message d.kind d.addr form [] (empty_message d.kind)))
fares_under setup d past q (fault.HostHears piece) is sound own damage no_poll =
    fate_is d (met d past) q _ (Some q) _ None silenced (heard_back d (met d past) q is)
    (none_behind d (ask d.kind d.addr q) piece
    (λ form. no_message d.kind d.addr form piece (none_under d.kind piece (damage no_poll))))
fares_under setup d past q (fault.WholeHeard piece) is sound own damage no_poll =
    let sent = ask d.kind d.addr q in
    fate_is d (met d past) q _ (Some q) _ None silenced (heard_back d (met d past) q is)
    (nothing_got d sent piece (λ form rest found. no_message d.kind d.addr form rest
    (none_under d.kind rest ((damage no_poll).1 rest (echo_known sent piece rest found)))))

-- a request to a device is no address poll
no_poll : (setup : Setup) (d : DeviceSetup) (q : Request) → IsSoundSetup setup → IsOf setup d →
    IsAddressPoll (ask d.kind d.addr q) → ⊥
no_poll setup d q sound own poll =
    let low = (found_in IsSound setup.devices d.addr d sound.devices own).0.low in
    let zero : d.addr ≡ 0 =
    sym (ask_to d.kind d.addr q) ∙ ap (λ piece. slice_index piece 0) poll.1 ∙ ask_to poll.0 0 _ in
    omega (arith, low, zero)

pub fares : (setup : Setup) (d : DeviceSetup) (past : List Entry) (q : Request) → Answers d (met d past) q →
    IsSoundSetup setup → IsOf setup d → IsHonestFault (pending past) (ask d.kind d.addr q) →
    Fate d (met d past) q (asks_of d (heard_by_devices (pending past) (ask d.kind d.addr q)))
    (got_by d (ask d.kind d.addr q) (heard_after setup past (ask d.kind d.addr q)))
unfolding heard_after
fares setup d past q is sound own honest =
    fares_under setup d past q (pending past) is sound own
    (honest_means (pending past) (ask d.kind d.addr q) honest) (no_poll setup d q sound own)

-- what is heard where no fault is set
clear_heard : (setup : Setup) (d : DeviceSetup) (past : List Entry) (sent : List ℕ) → pending past ≡ fault.Clear →
    got_by d sent (heard_after setup past sent) ≡ got_by d sent (heard_under setup past fault.Clear sent)
clear_heard setup d past sent clear =
    ap (got_by d sent) (heard_is setup past sent ∙ ap (λ f. heard_under setup past f sent) clear)

pub undisturbed_got : (setup : Setup) (d : DeviceSetup) (past : List Entry) (q : Request)
    (is : Replied d (met d past) q) → IsSoundSetup setup → IsOf setup d → pending past ≡ fault.Clear →
    got_by d (ask d.kind d.addr q) (heard_after setup past (ask d.kind d.addr q)) ≡ Some is.y
undisturbed_got setup d past q is sound own clear =
    clear_heard setup d past (ask d.kind d.addr q) clear ∙ clear_got setup d past q is sound own

pub undisturbed_refused : (setup : Setup) (d : DeviceSetup) (past : List Entry) (q : Request) →
    Refused d (met d past) q → IsSoundSetup setup → IsOf setup d → pending past ≡ fault.Clear →
    got_by d (ask d.kind d.addr q) (heard_after setup past (ask d.kind d.addr q)) ≡ None
undisturbed_refused setup d past q is sound own clear =
    clear_heard setup d past (ask d.kind d.addr q) clear ∙ clear_refused setup d past q is sound own
