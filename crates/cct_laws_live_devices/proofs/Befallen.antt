-- What happens to devices may come after what hosts reported: it says nothing of them, and it is
-- the same after worlds in which the devices are the same.
use Rattle.std.proofs.Common.{◌≡◌, ℕ, ◌==◌, Bool, true, false, cond, List, [], ◌∷◌, ◌++◌, refl, sym, ap, ap₂, ◌∙◌, subst, Option, Some, None, suc}
use Rattle.std.specs.Prelude.{if◌then◌else◌, MatchBool}
use Rattle.cct_model.specs.terms.device.DeviceSetup.{DeviceSetup}
use Rattle.cct_model.specs.terms.device.Setup.{Setup}
use Rattle.cct_model.specs.terms.family.Happening.{Happening}
use Rattle.cct_model.specs.terms.family.Happening.TheVariants as happening
use Rattle.cct_model.specs.lines.entry.Entry.{Entry}
use Rattle.cct_model.specs.lines.entry.Entry.TheVariants as entry
use Rattle.cct_model.specs.Acceptor.{accepts}
use Rattle.cct_model.specs.Bill.{holds}
use Rattle.cct_model.specs.Exchange.{device_at}
use Rattle.cct_model.specs.Family.{family_of, known_to}
use Rattle.cct_model.specs.Honest.{HonestPast, IsHonestAt}
use Rattle.cct_model.specs.Hopper.{remaining}
use Rattle.cct_model.specs.Legal.{OfKnowing, happening_entry}
use Rattle.cct_model.specs.Transcript.{meets, met, pending}
use Rattle.cct_laws_live_devices.specs.Asked.{BefallsIn, Moment, befalling, met_in}
use Rattle.cct_laws_live_devices.specs.Real.{accepted_at, fell_at}
use Rattle.cct_laws_live_devices.specs.Same.{Same}
use Rattle.cct_laws_live_devices.specs.World.{Answers, AnswersAt, Befalls, OverDevices, is_told, told}
use Rattle.cct_laws_live_devices.proofs.Asked.{befalling_same, of_found}
use Rattle.cct_laws_live_devices.proofs.Questions.{same_all}
use Rattle.cct_laws_live_devices.specs.Explained.{AllBefell, befallen, is_befalling}

-- an entry of what happened to a device, wherever it stands
pub record IsUntold (e : Entry) : Type 0 where
  untold : is_told e ≡ false
  falls : is_befalling e ≡ true
  leaves : (past : List Entry) → pending (e ∷ past) ≡ pending past
  meets_as : (d : DeviceSetup) (one other : List Entry) → meets d one e ≡ meets d other e
  honest : (past : List Entry) → IsHonestAt past e
  answers : (setup : Setup) (past : List Entry) → Befalls setup past e → AnswersAt setup past e

either : (b : Bool) (one other : Entry) → IsUntold one → IsUntold other → IsUntold (if b then one else other)
either true one other first second = first
either false one other first second = second

happening_untold : (addr : ℕ) (d : DeviceSetup) (past : List Entry) (what : Happening) → IsUntold (happening_entry addr d past what)
happening_untold addr d past (happening.Coin place) =
    either (accepts (met d past) place) _ _
    (record { untold = refl; falls = refl; leaves = λ p. refl; meets_as = λ d o t. refl; honest = λ p. tt; answers = λ s p b. b })
    (record { untold = refl; falls = refl; leaves = λ p. refl; meets_as = λ d o t. refl; honest = λ p. tt; answers = λ s p b. b })
happening_untold addr d past happening.Alien =
    record { untold = refl; falls = refl; leaves = λ p. refl; meets_as = λ d o t. refl; honest = λ p. tt; answers = λ s p b. b }
happening_untold addr d past (happening.Bill place) =
    either (holds (met d past) place) _ _
    (record { untold = refl; falls = refl; leaves = λ p. refl; meets_as = λ d o t. refl; honest = λ p. tt; answers = λ s p b. b })
    (record { untold = refl; falls = refl; leaves = λ p. refl; meets_as = λ d o t. refl; honest = λ p. tt; answers = λ s p b. b })
happening_untold addr d past happening.Fall =
    either (remaining d.serial (met d past) == 0) _ _
    (record { untold = refl; falls = refl; leaves = λ p. refl; meets_as = λ d o t. refl; honest = λ p. tt; answers = λ s p b. b })
    (record { untold = refl; falls = refl; leaves = λ p. refl; meets_as = λ d o t. refl; honest = λ p. tt; answers = λ s p b. b })
happening_untold addr d past happening.Jam =
    either (remaining d.serial (met d past) == 0) _ _
    (record { untold = refl; falls = refl; leaves = λ p. refl; meets_as = λ d o t. refl; honest = λ p. tt; answers = λ s p b. b })
    (record { untold = refl; falls = refl; leaves = λ p. refl; meets_as = λ d o t. refl; honest = λ p. tt; answers = λ s p b. b })
happening_untold addr d past happening.Reset =
    record { untold = refl; falls = refl; leaves = λ p. refl; meets_as = λ d o t. refl; honest = λ p. tt; answers = λ s p b. b }

-- the first of one is that of the other
first_same : (one other : Entry) → (one ∷ []) ≡ (other ∷ []) → one ≡ other
first_same one other is = cc

befalls_known : (setup : Setup) (past : List Entry) (e : Entry) → Befalls setup past e → IsUntold e
befalls_known setup past e (addr, what, placed, is) =
    known_of what (device_at setup.devices addr) is
  where
    known_of : (what : Happening) (found : Option DeviceSetup) →
        OfKnowing what found (λ d. (e ∷ []) ≡ (happening_entry addr d past what ∷ [])) → IsUntold e
    known_of what None is = absurd is
    known_of what (Some d) is = known_by (known_to what (family_of d.body)) is
      where
        known_by : (b : Bool) → MatchBool b ((e ∷ []) ≡ (happening_entry addr d past what ∷ [])) ⊥ → IsUntold e
        known_by true is = subst IsUntold (sym (first_same e _ is)) (happening_untold addr d past what)
        known_by false is = absurd is

-- the same happens to devices that are the same
happening_same : (addr : ℕ) (d : DeviceSetup) (one other : List Entry) (what : Happening) → Same (met d one) (met d other) →
    happening_entry addr d one what ≡ happening_entry addr d other what
happening_same addr d one other what same =
    sym (befalling_same addr d (met d one) one what (same_all (met d one)))
    ∙ befalling_same addr d (met d one) other what same

befalls_over : (setup : Setup) (one other : List Entry) (e : Entry) → ((d : DeviceSetup) → Same (met d one) (met d other)) →
    Befalls setup one e → Befalls setup other e
befalls_over setup one other e same (addr, what, placed, is) = (
  addr,
  what,
  placed,
  of_found what (device_at setup.devices addr) (λ d. (e ∷ []) ≡ (happening_entry addr d one what ∷ []))
      (λ d. (e ∷ []) ≡ (happening_entry addr d other what ∷ []))
      (λ d at. at ∙ ap (λ x. x ∷ []) (happening_same addr d one other what (same d))) is,
)

pub befalls_from : (setup : Setup) (history : List Moment) (past : List Entry) (e : Entry) →
    ((d : DeviceSetup) → Same (met_in d history) (met d past)) → BefallsIn setup history e → Befalls setup past e
befalls_from setup history past e same (addr, what, placed, is) = (
  addr,
  what,
  placed,
  of_found what (device_at setup.devices addr) (λ d. (e ∷ []) ≡ (befalling addr d (met_in d history) what ∷ []))
      (λ d. (e ∷ []) ≡ (happening_entry addr d past what ∷ []))
      (λ d at. at ∙ ap (λ x. x ∷ []) (befalling_same addr d (met_in d history) past what (same d))) is,
)

-- what happened since an entry leaves all else as it was
pub since_pending : (setup : Setup) (past late : List Entry) → AllBefell setup past late → pending (late ++ past) ≡ pending past
since_pending setup past [] all = refl
since_pending setup past (e ∷ late) all =
    (befalls_known setup (late ++ past) e all.0).leaves (late ++ past) ∙ since_pending setup past late all.1

since_told : (setup : Setup) (past late : List Entry) → AllBefell setup past late → told (late ++ past) ≡ told past
since_told setup past [] all = refl
since_told setup past (e ∷ late) all =
    ap (λ b. cond b (e ∷ told (late ++ past)) (told (late ++ past))) (befalls_known setup (late ++ past) e all.0).untold
    ∙ since_told setup past late all.1

since_answers : (setup : Setup) (past late : List Entry) → AllBefell setup past late → Answers setup past →
    Answers setup (late ++ past)
since_answers setup past [] all answers = answers
since_answers setup past (e ∷ late) all answers =
    ((befalls_known setup (late ++ past) e all.0).answers setup (late ++ past) all.0, since_answers setup past late all.1 answers)

since_honest : (setup : Setup) (past late : List Entry) → AllBefell setup past late → HonestPast past → HonestPast (late ++ past)
since_honest setup past [] all honest = honest
since_honest setup past (e ∷ late) all honest =
    ((befalls_known setup (late ++ past) e all.0).honest (late ++ past), since_honest setup past late all.1 honest)

pub since_over : (setup : Setup) (world past late : List Entry) → AllBefell setup world late → OverDevices setup world past →
    OverDevices setup (late ++ world) past
since_over setup world past late all over = record {
  answered = since_answers setup world late all over.answered;
  honest = since_honest setup world late all over.honest;
  tells = since_told setup world late all ∙ over.tells;
}

-- also after another past in which the devices met the same
pub since_met : (setup : Setup) (past other late : List Entry) → AllBefell setup past late → (d : DeviceSetup) →
    met d past ≡ met d other → met d (late ++ past) ≡ met d (late ++ other)
since_met setup past other [] all d same = same
since_met setup past other (e ∷ late) all d same =
    ap₂ (λ m ms. m ++ ms) ((befalls_known setup (late ++ past) e all.0).meets_as d (late ++ past) (late ++ other))
    (since_met setup past other late all.1 d same)

pub since_behind : (setup : Setup) (past other late : List Entry) → ((d : DeviceSetup) → met d past ≡ met d other) →
    AllBefell setup past late → AllBefell setup other late
since_behind setup past other [] same all = tt
since_behind setup past other (e ∷ late) same all = (
  befalls_over setup (late ++ past) (late ++ other) e
      (λ d. subst (Same (met d (late ++ past))) (since_met setup past other late all.1 d (same d)) (same_all (met d (late ++ past))))
      all.0,
  since_behind setup past other late same all.1,
)

-- a device meets the same by what happened to it, in a history too
pub befell_meets : (setup : Setup) (past : List Entry) (e : Entry) → Befalls setup past e → (d : DeviceSetup)
    (one other : List Entry) → meets d one e ≡ meets d other e
befell_meets setup past e is d one other = (befalls_known setup past e is).meets_as d one other

-- what happened is all there, in its order
pub befell_falls : (setup : Setup) (past : List Entry) (e : Entry) → Befalls setup past e → is_befalling e ≡ true
befell_falls setup past e is = (befalls_known setup past e is).falls

pub since_all : (setup : Setup) (past late : List Entry) → AllBefell setup past late →
    befallen (late ++ past) ≡ late ++ befallen past
since_all setup past [] all = refl
since_all setup past (e ∷ late) all =
    ap (λ b. cond b (e ∷ befallen (late ++ past)) (befallen (late ++ past))) (befell_falls setup (late ++ past) e all.0)
    ∙ ap (λ es. e ∷ es) (since_all setup past late all.1)

-- so are the coins that were accepted, and those that fell
pub accepted_all : (addr : ℕ) (world : List Entry) → accepted_at addr world ≡ accepted_at addr (befallen world)
accepted_all addr [] = refl
accepted_all addr (entry.Accepted at c ∷ world) =
    ap (λ coins. if at == addr then c ∷ coins else coins) (accepted_all addr world)
accepted_all addr (entry.Held at place ∷ world) = accepted_all addr world
accepted_all addr (entry.Inhibited at place ∷ world) = accepted_all addr world
accepted_all addr (entry.Alien at ∷ world) = accepted_all addr world
accepted_all addr (entry.Fell at ∷ world) = accepted_all addr world
accepted_all addr (entry.NoFall at ∷ world) = accepted_all addr world
accepted_all addr (entry.Jammed at ∷ world) = accepted_all addr world
accepted_all addr (entry.NoJam at ∷ world) = accepted_all addr world
accepted_all addr (entry.Reset at ∷ world) = accepted_all addr world
accepted_all addr (e ∷ world) = accepted_all addr world

pub fell_all : (addr : ℕ) (world : List Entry) → fell_at addr world ≡ fell_at addr (befallen world)
fell_all addr [] = refl
fell_all addr (entry.Fell at ∷ world) = ap (λ many. if at == addr then suc many else many) (fell_all addr world)
fell_all addr (entry.Accepted at c ∷ world) = fell_all addr world
fell_all addr (entry.Held at place ∷ world) = fell_all addr world
fell_all addr (entry.Inhibited at place ∷ world) = fell_all addr world
fell_all addr (entry.Alien at ∷ world) = fell_all addr world
fell_all addr (entry.NoFall at ∷ world) = fell_all addr world
fell_all addr (entry.Jammed at ∷ world) = fell_all addr world
fell_all addr (entry.NoJam at ∷ world) = fell_all addr world
fell_all addr (entry.Reset at ∷ world) = fell_all addr world
fell_all addr (e ∷ world) = fell_all addr world
