-- Of an exchange with one device a front has no reply in it, unless it is all of it.
use Rattle.std.proofs.Common.{◌≡◌, ◌≢◌, ℕ, ◌+◌, ◌==◌, ◌<◌, Bool, true, false, List, [], ◌∷◌, ◌++◌, length, slice_index, refl, sym, ap, ap₂, ◌∙◌, subst, Option, Some, None, All, arith, eq-eqb, eqb-true, append-nil}
use Rattle.std.specs.Prelude.{flat_map, unwrap_or, is_none, ◌&&◌, ◌-◌, ◌%◌, ◌/◌, sum}
use Rattle.std.specs.Option.{option_map, option_or}
use Rattle.std.proofs.lemmas.List.{length-append}
use Rattle.std.proofs.lemmas.List.Elements.{All-head, All-tail}
use Rattle.cct_frame.proofs.Places.{none_length, none_short}
use Rattle.cct_model.specs.terms.wire.CheckKind.{CheckKind}
use Rattle.cct_model.specs.terms.wire.CheckKind.TheVariants.{Simple, Crc}
use Rattle.cct_model.specs.terms.device.DeviceSetup.{DeviceSetup}
use Rattle.cct_model.specs.terms.device.Setup.{Setup}
use Rattle.cct_model.specs.terms.request.Request.{Request}
use Rattle.cct_model.specs.terms.request.Request.TheVariants.{AddressPoll}
use Rattle.cct_model.specs.Exchange.{after_echo, answer, answer_to, ask, asker, asks_of, asking, bare_answer, by_address, reply_bytes, replying}
use Rattle.cct_model.specs.Device.{reply_of}
use Rattle.cct_model.specs.History.{Met}
use Rattle.cct_model.specs.Honest.{has_no_message, is_no_message}
use Rattle.cct_model.specs.Message.{Message, crc, message, spelling}
use Rattle.cct_model.specs.Reply.{Reply}
use Rattle.cct_model.specs.Setup.{IsSoundSetup}
use Rattle.cct_laws.specs.Law.{AreRising}
use Rattle.cct_laws.proofs.wire.Echoes.{echo_off}
use Rattle.cct_laws.proofs.wire.HeardBytes.{ask_to, asks_nothing}
use Rattle.cct_laws.proofs.setups.Rising.{devices_rise}
use Rattle.cct_laws_live_devices.specs.Devices.{IsUnanswered}

-- a front of a message is none, unless it is all of it
front_none : (kind : CheckKind) (front rest : List ℕ) → rest ≢ [] →
    slice_index (front ++ rest) 1 + 5 ≡ length (front ++ rest) → message kind front ≡ None
front_none kind [] rest more fits = none_short kind [] (omega arith)
front_none kind (to ∷ []) rest more fits = none_short kind (to ∷ []) (omega arith)
front_none kind (to ∷ said ∷ front) [] more fits = absurd (more refl)
front_none kind (to ∷ said ∷ front) (x ∷ rest) more fits =
    none_length kind (to ∷ said ∷ front) (λ whole. omega (arith, fits, whole, length-append front (x ∷ rest)))

spelled_length : (kind : CheckKind) (m : Message) → slice_index (spelling kind m) 1 + 5 ≡ length (spelling kind m)
unfolding spelling
spelled_length Simple m = omega (arith, length-append m.body ((256 - sum (m.to ∷ length m.body ∷ unwrap_or m.from 0 ∷ m.header ∷ [] ++ m.body) % 256) % 256 ∷ []))
spelled_length Crc m =
    omega (arith, length-append m.body (crc (m.to ∷ length m.body ∷ m.header ∷ m.body) / 256 ∷ []))

-- bytes of which no front is a message, but perhaps all of them
abbrev pub HasNoFront : List ℕ → Type 0
HasNoFront whole = (front rest : List ℕ) → front ++ rest ≡ whole → rest ≢ [] → is_no_message front ≡ true

pub spelled_fronts : (kind : CheckKind) (m : Message) → HasNoFront (spelling kind m)
spelled_fronts kind m front rest is more =
    let fits : slice_index (front ++ rest) 1 + 5 ≡ length (front ++ rest) =
    subst (λ p. slice_index p 1 + 5 ≡ length p) (sym is) (spelled_length kind m) in
    ap₂ (λ x y. is_none x && is_none y) (front_none Simple front rest more fits) (front_none Crc front rest more fits)

no_fronts : HasNoFront []
no_fronts [] rest is more = absurd (more is)
no_fronts (x ∷ front) rest is more = absurd cc

unsaid : (kind : CheckKind) → is_none (message kind []) ≡ true
unfolding message
unsaid Simple = refl
unsaid Crc = refl

empty_none : is_no_message [] ≡ true
empty_none = ap₂ (λ x y. x && y) (unsaid Simple) (unsaid Crc)

one_front : (byte : ℕ) → HasNoFront (byte ∷ [])
one_front byte [] rest is more = empty_none
one_front byte (x ∷ []) rest is more = absurd (more (behind x rest is))
  where
    behind : (x : ℕ) (rest : List ℕ) → (x ∷ rest) ≡ (byte ∷ []) → rest ≡ []
    behind x rest is = cc
one_front byte (x ∷ y ∷ front) rest is more = absurd cc

-- nor of what one device answers
reply_fronts : (d : DeviceSetup) (to : ℕ) (y : Option Reply) (q : Request) →
    HasNoFront (unwrap_or (option_or (option_map (reply_bytes d to) y) (bare_answer d.addr q)) [])
reply_fronts d to (Some y) q = spelled_fronts d.kind (replying to d.addr y)
reply_fronts d to None AddressPoll = one_front d.addr
reply_fronts d to None q = no_fronts

answer_fronts : (d : DeviceSetup) (past : List Met) (to : ℕ) (asked : Option Request) →
    HasNoFront (unwrap_or (answer_to d past to asked) [])
answer_fronts d past to None = no_fronts
answer_fronts d past to (Some q) = reply_fronts d to (reply_of d past q) q

-- where only the device at an address answers, all answer just that
all_silent : (f : DeviceSetup → List ℕ) (addr : ℕ) (d : DeviceSetup) (devices : List DeviceSetup) →
    ((e : DeviceSetup) → e.addr ≢ addr → f e ≡ []) → d.addr ≡ addr → All (λ e. d.addr < e.addr) devices →
    flat_map f devices ≡ []
all_silent f addr d [] silent is above = refl
all_silent f addr d (e ∷ devices) silent is above =
    let higher = All-head (λ e. d.addr < e.addr) e devices above in
    ap (λ one. one ++ flat_map f devices) (silent e (λ same. omega (arith, higher, same, is)))
    ∙ all_silent f addr d devices silent is (All-tail (λ e. d.addr < e.addr) e devices above)

one_answers : (f : DeviceSetup → List ℕ) (addr : ℕ) (devices : List DeviceSetup) → AreRising devices →
    ((e : DeviceSetup) → e.addr ≢ addr → f e ≡ []) → ((e : DeviceSetup) → HasNoFront (f e)) → HasNoFront (flat_map f devices)
one_answers f addr [] rising silent fronts = no_fronts
one_answers f addr (d ∷ devices) rising silent fronts =
    by_test (d.addr == addr) refl (one_answers f addr devices rising.1 silent fronts)
  where
    by_test : (here : Bool) → (d.addr == addr) ≡ here → HasNoFront (flat_map f devices) →
        HasNoFront (f d ++ flat_map f devices)
    by_test true test later =
        subst (λ rest. HasNoFront (f d ++ rest)) (sym (all_silent f addr d devices silent (eqb-true d.addr addr test) rising.0))
        (subst HasNoFront (sym (append-nil (f d))) (fronts d))
    by_test false test later =
        subst (λ one. HasNoFront (one ++ flat_map f devices)) (sym (silent d (λ same. clash (sym test ∙ eq-eqb d.addr addr same))))
        later
      where
        clash : false ≡ true → ⊥
        clash e = cc

elsewhere : (d : DeviceSetup) (past : List Met) (to : ℕ) (asked : Option Request) → asked ≡ None →
    unwrap_or (answer_to d past to asked) [] ≡ []
elsewhere d past to None is = refl
elsewhere d past to (Some q) is = absurd cc

pub said_fronts : (setup : Setup) (mets : DeviceSetup → List Met) (sent : List ℕ) → IsSoundSetup setup →
    slice_index sent 0 ≢ 0 → HasNoFront (flat_map (λ d. unwrap_or (answer d (mets d) sent) []) (by_address setup.devices))
said_fronts setup mets sent sound one =
    one_answers (λ d. unwrap_or (answer d (mets d) sent) []) (slice_index sent 0) (by_address setup.devices)
    (devices_rise setup sound)
    (λ d other. elsewhere d (mets d) (asker d.kind sent) (asks_of d sent) (asks_nothing d sent (λ same. other (sym same)) one))
    (λ d. answer_fronts d (mets d) (asker d.kind sent) (asks_of d sent))

-- what is heard is a front of the echo, or of the answer after it
pub data Parts (sent said heard rest : List ℕ) : Type 0 where
  within_echo : (more : List ℕ) → more ≢ [] → heard ++ more ≡ sent → Parts sent said heard rest
  behind_echo : (front : List ℕ) → heard ≡ sent ++ front → front ++ rest ≡ said → Parts sent said heard rest

parts_more : (x : ℕ) (sent said heard rest : List ℕ) → Parts sent said heard rest → Parts (x ∷ sent) said (x ∷ heard) rest
parts_more x sent said heard rest (within_echo more some is) = within_echo more some (ap (λ p. x ∷ p) is)
parts_more x sent said heard rest (behind_echo front is joined) = behind_echo front (ap (λ p. x ∷ p) is) joined

pub parts : (sent said heard rest : List ℕ) → heard ++ rest ≡ sent ++ said → Parts sent said heard rest
parts [] said heard rest is = behind_echo heard refl is
parts (s ∷ sent) said [] rest is = within_echo (s ∷ sent) (λ none. clash none) refl
  where
    clash : (s ∷ sent) ≡ [] → ⊥
    clash e = cc
parts (s ∷ sent) said (h ∷ heard) rest is =
    subst (λ x. Parts (s ∷ sent) said (x ∷ heard) rest) (sym (first h s (heard ++ rest) (sent ++ said) is))
    (parts_more s sent said heard rest (parts sent said heard rest (others h s (heard ++ rest) (sent ++ said) is)))
  where
    first : (x y : ℕ) (xs ys : List ℕ) → (x ∷ xs) ≡ (y ∷ ys) → x ≡ y
    first x y xs ys e = cc

    others : (x y : ℕ) (xs ys : List ℕ) → (x ∷ xs) ≡ (y ∷ ys) → xs ≡ ys
    others x y xs ys e = cc

pub short_echo : (heard more sent : List ℕ) → more ≢ [] → heard ++ more ≡ sent → after_echo sent heard ≡ None
unfolding after_echo
short_echo [] [] sent some is = absurd (some refl)
short_echo [] (x ∷ more) sent some is = subst (λ p. after_echo p [] ≡ None) is refl
short_echo (x ∷ heard) more sent some is =
    subst (λ p. after_echo p (x ∷ heard) ≡ None) is
    (rw (eq-eqb x x refl) (short_echo heard more (heard ++ more) some refl))

echo_there : (found : Option (List ℕ)) (front : List ℕ) → found ≡ Some front → found ≡ None → ⊥
echo_there found front is none = clash (sym is ∙ none)
  where
    clash : Some front ≡ None → ⊥
    clash e = cc

unanswered_by : (sent said heard rest : List ℕ) → HasNoFront sent → HasNoFront said → rest ≢ [] →
    Parts sent said heard rest → IsUnanswered sent heard
unanswered_by sent said heard rest whole all more (within_echo left some is) = record {
  none = ap has_no_message (short_echo heard left sent some is);
  bare = λ echo. whole heard left is some;
}
unanswered_by sent said heard rest whole all more (behind_echo front is joined) =
    let found : after_echo sent heard ≡ Some front = ap (after_echo sent) is ∙ echo_off sent front in
    record {
      none = ap has_no_message found ∙ all front rest joined more;
      bare = λ none. absurd (echo_there (after_echo sent heard) front found none);
    }

asked_fronts : (kind : CheckKind) (addr : ℕ) (q : Request) → HasNoFront (ask kind addr q)
unfolding ask
asked_fronts kind addr q = spelled_fronts kind (asking addr q)

pub front_unanswered : (setup : Setup) (mets : DeviceSetup → List Met) (kind : CheckKind) (addr : ℕ) (q : Request)
    (heard rest : List ℕ) → IsSoundSetup setup → addr ≢ 0 → rest ≢ [] →
    heard ++ rest
    ≡ ask kind addr q ++ flat_map (λ d. unwrap_or (answer d (mets d) (ask kind addr q)) []) (by_address setup.devices) →
    IsUnanswered (ask kind addr q) heard
front_unanswered setup mets kind addr q heard rest sound one more is =
    let sent = ask kind addr q in
    let said = flat_map (λ d. unwrap_or (answer d (mets d) sent) []) (by_address setup.devices) in
    unanswered_by sent said heard rest (asked_fronts kind addr q)
    (said_fronts setup mets sent sound (λ same. one (sym (ask_to kind addr q) ∙ same))) more (parts sent said heard rest is)
