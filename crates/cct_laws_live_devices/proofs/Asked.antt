-- Questions that no host reports may be left out of a world.
use Rattle.std.proofs.Common.{◌≡◌, ℕ, ◌==◌, Bool, true, false, List, [], ◌∷◌, ◌++◌, refl, ap, ap₂, ◌∙◌, Option, Some, None, subst}
use Rattle.std.specs.Prelude.{flat_map, if◌then◌else◌, unwrap_or, MatchBool, ⊤}
use Rattle.cct_model.specs.terms.device.DeviceSetup.{DeviceSetup}
use Rattle.cct_model.specs.terms.device.Setup.{Setup}
use Rattle.cct_model.specs.terms.family.Happening.{Happening}
use Rattle.cct_model.specs.terms.family.Happening.TheVariants as happening
use Rattle.cct_model.specs.lines.entry.Entry.{Entry}
use Rattle.cct_model.specs.lines.entry.Entry.TheVariants as entry
use Rattle.cct_model.specs.Exchange.{answer, asks_of, by_address, device_at}
use Rattle.cct_model.specs.Family.{family_of, known_to}
use Rattle.cct_model.specs.History.{Met}
use Rattle.cct_model.specs.Legal.{happening_entry, OfKnowing}
use Rattle.cct_model.specs.Setting.{accepts_in, path_in}
use Rattle.cct_model.specs.Transcript.{heard_after, heard_by_devices, heard_by_host, meets, met, pending}
use Rattle.cct_laws_live_devices.specs.Asked.{Moment, did, asks, entries, met_in, heard_by, befalling, BefallsIn, AnswersIn, AnswersAll, OverAskedDevices}
use Rattle.cct_laws_live_devices.specs.World.{Answers, AnswersAt, Befalls, HeardAs, OverDevices, is_told}
use Rattle.cct_laws_live_devices.specs.Same.{Same}
use Rattle.cct_laws_live_devices.proofs.Questions.{answer_same, holds_same, remains_same, same_all, same_front, same_question}

-- a device is as if it had not been asked
met_same : (setup : Setup) (world : List Moment) (d : DeviceSetup) → AnswersAll setup world →
    Same (met_in d world) (met d (entries world))
met_same setup [] d all = same_all []
met_same setup (did e ∷ past) d all =
    same_front (meets d (entries past) e) (met_in d past) (met d (entries past)) (met_same setup past d all.1)
met_same setup (asks piece ∷ past) d all =
    same_question (asks_of d piece) (met_in d past) (met d (entries past)) (all.0 d) (met_same setup past d all.1)

-- so the same is heard
pub mapped_same : (f g : DeviceSetup → List ℕ) (devices : List DeviceSetup) → ((d : DeviceSetup) → f d ≡ g d) →
    flat_map f devices ≡ flat_map g devices
mapped_same f g [] same = refl
mapped_same f g (d ∷ devices) same = ap₂ (λ a b. a ++ b) (same d) (mapped_same f g devices same)

heard_same : (setup : Setup) (world : List Moment) (sent : List ℕ) → AnswersAll setup world →
    heard_by setup (λ d. met_in d world) (pending (entries world)) sent ≡ heard_after setup (entries world) sent
unfolding heard_after heard_by
heard_same setup world sent all =
    let f = pending (entries world) in
    ap (heard_by_host f sent)
    (mapped_same (λ d. unwrap_or (answer d (met_in d world) (heard_by_devices f sent)) [])
    (λ d. unwrap_or (answer d (met d (entries world)) (heard_by_devices f sent)) []) (by_address setup.devices)
    (λ d. ap (λ a. unwrap_or a [])
    (answer_same d (met_in d world) (met d (entries world)) (heard_by_devices f sent) (met_same setup world d all))))

-- and what happens to a device is the same
coin_by : ℕ → ℕ → Bool → ℕ → Entry
coin_by addr place takes path =
    if takes then entry.Accepted addr (record { place = place; path = path }) else entry.Inhibited addr place

pub befalling_same : (addr : ℕ) (d : DeviceSetup) (one : List Met) (past : List Entry) (what : Happening) →
    Same one (met d past) → befalling addr d one what ≡ happening_entry addr d past what
unfolding coin_by
befalling_same addr d one past (happening.Coin place) same =
    ap (λ s. coin_by d.addr place (accepts_in s place) (path_in s place)) same.set
befalling_same addr d one past happening.Alien same = refl
befalling_same addr d one past (happening.Bill place) same =
    ap (λ h. if h then entry.Held d.addr place else entry.Inhibited d.addr place) (holds_same one (met d past) place same)
befalling_same addr d one past happening.Fall same =
    ap (λ r. if r == 0 then entry.NoFall d.addr else entry.Fell d.addr) (remains_same d.serial one (met d past) same)
befalling_same addr d one past happening.Jam same =
    ap (λ r. if r == 0 then entry.NoJam d.addr else entry.Jammed d.addr) (remains_same d.serial one (met d past) same)
befalling_same addr d one past happening.Reset same = refl

of_known : (b : Bool) (P Q : Type 0) → (P → Q) → MatchBool b P ⊥ → MatchBool b Q ⊥
of_known true P Q over is = over is
of_known false P Q over is = absurd is

pub of_found : (what : Happening) (found : Option DeviceSetup) (P Q : DeviceSetup → Type 0) →
    ((d : DeviceSetup) → P d → Q d) → OfKnowing what found P → OfKnowing what found Q
of_found what None P Q over is = absurd is
of_found what (Some d) P Q over is = of_known (known_to what (family_of d.body)) (P d) (Q d) (over d) is

befalls_same : (setup : Setup) (world : List Moment) (e : Entry) → AnswersAll setup world → BefallsIn setup world e →
    Befalls setup (entries world) e
befalls_same setup world e all (addr, what, placed, is) = (
  addr,
  what,
  placed,
  of_found what (device_at setup.devices addr) (λ d. (e ∷ []) ≡ (befalling addr d (met_in d world) what ∷ []))
      (λ d. (e ∷ []) ≡ (happening_entry addr d (entries world) what ∷ []))
      (λ d at. at ∙ ap (λ x. x ∷ []) (befalling_same addr d (met_in d world) (entries world) what (met_same setup world d all))) is,
)

by_told : (setup : Setup) (world : List Moment) (e : Entry) (b : Bool) → AnswersAll setup world →
    MatchBool b ⊤ (BefallsIn setup world e) → MatchBool b ⊤ (Befalls setup (entries world) e)
by_told setup world e true all at = tt
by_told setup world e false all at = befalls_same setup world e all at

at_same : (setup : Setup) (world : List Moment) (e : Entry) → AnswersAll setup world → AnswersIn setup world (did e) →
    AnswersAt setup (entries world) e
at_same setup world (entry.Wire addr sent piece) all at =
    subst (HeardAs addr sent piece) (heard_same setup world sent all) at
at_same setup world (entry.Fault f) all at = at
at_same setup world (entry.Ended addr end) all at = at
at_same setup world (entry.Kept r) all at = at
at_same setup world e all at = by_told setup world e (is_told e) all at

all_same : (setup : Setup) (world : List Moment) → AnswersAll setup world → Answers setup (entries world)
all_same setup [] all = tt
all_same setup (did e ∷ world) all = (at_same setup world e all.1 all.0, all_same setup world all.1)
all_same setup (asks piece ∷ world) all = all_same setup world all.1

pub over_unasked : (setup : Setup) (world : List Moment) (past : List Entry) → OverAskedDevices setup world past →
    OverDevices setup (entries world) past
over_unasked setup world past over =
    record { answered = all_same setup world over.answered; honest = over.honest; tells = over.tells }
