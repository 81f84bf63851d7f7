-- A world goes on: by what hosts report besides exchanges, by what happens to devices, and by
-- exchanges.
use Rattle.std.proofs.Common.{◌≡◌, inl, ℕ, true, false, cond, List, [], ◌∷◌, ◌++◌, refl, sym, ap, ◌∙◌, subst}
use Rattle.std.specs.Prelude.{flat_map, unwrap_or}
use Rattle.cct_model.specs.terms.device.DeviceSetup.{DeviceSetup}
use Rattle.cct_model.specs.terms.device.Setup.{Setup}
use Rattle.cct_model.specs.lines.command.WireFault.{WireFault}
use Rattle.cct_model.specs.lines.command.WireFault.TheVariants as fault
use Rattle.cct_model.specs.lines.entry.Entry.{Entry}
use Rattle.cct_model.specs.lines.entry.Entry.TheVariants as entry
use Rattle.cct_model.specs.Exchange.{answer, asks_of, by_address}
use Rattle.cct_model.specs.History.{heard}
use Rattle.cct_model.specs.Honest.{IsHonestAt, IsHonestFault}
use Rattle.cct_model.specs.Message.{message}
use Rattle.cct_model.specs.Script.{IsFault}
use Rattle.cct_model.specs.Transcript.{heard_after, heard_by_devices, heard_by_host, meets, met, pending}
use Rattle.cct_laws.specs.Honesty.{IsNoMessage}
use Rattle.cct_laws.proofs.wire.HeardBytes.{damaged_asks}
use Rattle.cct_laws_live_devices.specs.Asked.{Moment, asks, entries, heard_by, met_in}
use Rattle.cct_laws_live_devices.specs.Questions.{is_question}
use Rattle.cct_laws_live_devices.specs.Same.{Same}
use Rattle.cct_laws_live_devices.specs.World.{AnswersAt, HeardAs, IsJustTold, is_told, told}
use Rattle.cct_laws_live_devices.proofs.Asked.{mapped_same}
use Rattle.cct_laws_live_devices.proofs.Questions.{answer_same, same_front, same_met, same_question}
use Rattle.cct_laws_live_devices.specs.Chain.{is_besides}
use Rattle.cct_laws_live_devices.specs.Devices.{Befell, nothing_befell, befell_more}
use Rattle.cct_laws_live_devices.specs.Explained.{IsExplained, befallen, is_befalling}
use Rattle.cct_laws_live_devices.proofs.Befallen.{befalls_from, befell_falls, befell_meets, since_all, since_behind, since_met, since_over, since_pending}

-- what a host reports besides exchanges
record IsBesides (e : Entry) : Type 0 where
  tells : is_told e ≡ true
  falls_not : is_befalling e ≡ false
  leaves : (past : List Entry) → pending (e ∷ past) ≡ pending past
  meets_none : (d : DeviceSetup) (past : List Entry) → meets d past e ≡ []
  honest : (past : List Entry) → IsHonestAt past e
  answers : (setup : Setup) (past : List Entry) → IsJustTold past → AnswersAt setup past e

besides_known : (e : Entry) → is_besides e ≡ true → IsBesides e
besides_known (entry.Wire addr sent piece) is = absurd cc
besides_known (entry.Accepted addr c) is = absurd cc
besides_known (entry.Held addr place) is = absurd cc
besides_known (entry.Inhibited addr place) is = absurd cc
besides_known (entry.Alien addr) is = absurd cc
besides_known (entry.Fell addr) is = absurd cc
besides_known (entry.NoFall addr) is = absurd cc
besides_known (entry.Jammed addr) is = absurd cc
besides_known (entry.NoJam addr) is = absurd cc
besides_known (entry.Reset addr) is = absurd cc
besides_known (entry.Fault f) is = absurd cc
besides_known (entry.Forged addr) is = absurd cc
besides_known (entry.Ended addr end) is =
    record { tells = refl; falls_not = refl; leaves = λ p. refl; meets_none = λ d p. refl; honest = λ p. tt; answers = λ s p just. just }
besides_known (entry.Kept r) is =
    record { tells = refl; falls_not = refl; leaves = λ p. refl; meets_none = λ d p. refl; honest = λ p. tt; answers = λ s p just. just }
besides_known e is =
    record { tells = refl; falls_not = refl; leaves = λ p. refl; meets_none = λ d p. refl; honest = λ p. tt; answers = λ s p just. tt }

pub explained_besides : (setup : Setup) (history : List Moment) (past : List Entry) (e : Entry) → is_besides e ≡ true →
    IsExplained setup history past → IsExplained setup history (e ∷ past)
explained_besides setup history past e is x =
    let known = besides_known e is in
    let met_same : (d : DeviceSetup) → met d x.world ≡ met d (e ∷ x.world) =
    (λ d. sym (ap (λ m. m ++ met d x.world) (known.meets_none d x.world))) in
    let behind = since_behind setup x.world (e ∷ x.world) x.since met_same x.befell in
    record {
      world = e ∷ x.world;
      since = x.since;
      over = record {
        answered = (known.answers setup x.world x.newest, x.over.answered);
        honest = (known.honest x.world, x.over.honest);
        tells = ap (λ b. cond b (e ∷ told x.world) (told x.world)) known.tells ∙ ap (λ es. e ∷ es) x.over.tells;
      };
      newest = known.tells;
      befell = behind;
      clear = known.leaves x.world ∙ x.clear;
      same = λ d.
          subst (Same (met_in d history)) (since_met setup x.world (e ∷ x.world) x.since x.befell d (met_same d)) (x.same d);
      all =
          since_all setup (e ∷ x.world) x.since behind
          ∙ ap (λ b. x.since ++ cond b (e ∷ befallen x.world) (befallen x.world)) known.falls_not
          ∙ sym (since_all setup x.world x.since x.befell) ∙ x.all;
    }

-- something happened to devices
pub explained_befell : (setup : Setup) (before after : List Moment) (past : List Entry) → Befell setup before after →
    IsExplained setup before past → IsExplained setup after past
explained_befell setup before _ past nothing_befell x = x
explained_befell setup before _ past (befell_more between e befell at) x =
    let y = explained_befell setup before between past befell x in
    let all = y.since ++ y.world in
    let falls = befalls_from setup between all e y.same at in
    record {
      world = y.world;
      since = e ∷ y.since;
      over = y.over;
      newest = y.newest;
      befell = (falls, y.befell);
      clear = y.clear;
      same = λ d.
          subst (λ m. Same (m ++ met_in d between) (meets d all e ++ met d all)) (befell_meets setup all e falls d all (entries between))
          (same_front (meets d all e) (met_in d between) (met d all) (y.same d));
      all =
          ap (λ b. cond b (e ∷ befallen all) (befallen all)) (befell_falls setup all e falls) ∙ ap (λ es. e ∷ es) y.all;
    }

-- devices heard a question that no host reports
pub explained_question : (setup : Setup) (history : List Moment) (past : List Entry) (piece : List ℕ) →
    ((d : DeviceSetup) → is_question (asks_of d piece) ≡ true) → IsExplained setup history past →
    IsExplained setup (asks piece ∷ history) past
explained_question setup history past piece is x = record {
  world = x.world;
  since = x.since;
  over = x.over;
  newest = x.newest;
  befell = x.befell;
  clear = x.clear;
  same = λ d. same_question (asks_of d piece) (met_in d history) (met d (x.since ++ x.world)) (is d) (x.same d);
  all = x.all;
}

-- an exchange in which all went as it should
pub explained_clear : (setup : Setup) (history : List Moment) (past : List Entry) (addr : ℕ) (sent piece : List ℕ)
    (x : IsExplained setup history past) → piece ≡ heard_after setup (x.since ++ x.world) sent →
    IsExplained setup (asks sent ∷ history) (entry.Wire addr sent piece ∷ past)
explained_clear setup history past addr sent piece x is =
    let all = x.since ++ x.world in
    let over = since_over setup x.world past x.since x.befell x.over in
    let clear : fault.Clear ≡ pending all = sym (since_pending setup x.world x.since x.befell ∙ x.clear) in
    record {
      world = entry.Wire addr sent piece ∷ all;
      since = [];
      over = record {
        answered = (inl is, over.answered);
        honest = (subst (λ f. IsHonestFault f sent) clear refl, over.honest);
        tells = ap (λ es. entry.Wire addr sent piece ∷ es) over.tells;
      };
      newest = refl;
      befell = tt;
      clear = refl;
      same = λ d.
          subst (λ f. Same (heard (asks_of d sent) ∷ met_in d history) (heard (asks_of d (heard_by_devices f sent)) ∷ met d all)) clear
          (same_met (heard (asks_of d sent)) (met_in d history) (met d all) (x.same d));
      all = x.all;
    }

-- one with a fault of the wire
pub explained_by : (setup : Setup) (history later : List Moment) (past : List Entry) (addr : ℕ) (sent piece : List ℕ)
    (f : WireFault) (x : IsExplained setup history past) → IsFault f → IsHonestFault f sent →
    HeardAs addr sent piece (heard_after setup (entry.Fault f ∷ (x.since ++ x.world)) sent) →
    ((d : DeviceSetup) → Same (met_in d later) (heard (asks_of d (heard_by_devices f sent)) ∷ met d (x.since ++ x.world))) →
    entries later ≡ entries history → IsExplained setup later (entry.Wire addr sent piece ∷ past)
explained_by setup history later past addr sent piece f x range honest at same befell =
    let all = x.since ++ x.world in
    let over = since_over setup x.world past x.since x.befell x.over in
    record {
      world = entry.Wire addr sent piece ∷ entry.Fault f ∷ all;
      since = [];
      over = record {
        answered = (at, (range, over.answered));
        honest = (honest, (tt, over.honest));
        tells = ap (λ es. entry.Wire addr sent piece ∷ es) over.tells;
      };
      newest = refl;
      befell = tt;
      clear = refl;
      same = same;
      all = x.all ∙ sym befell;
    }

-- what devices answer after a history is what they answer in the world
pub answered_same : (setup : Setup) (history : List Moment) (past : List Entry) (sent : List ℕ)
    (x : IsExplained setup history past) →
    heard_by setup (λ d. met_in d history) fault.Clear sent ≡ heard_after setup (x.since ++ x.world) sent
unfolding heard_after heard_by
answered_same setup history past sent x =
    let all = x.since ++ x.world in
    let clear : fault.Clear ≡ pending all = sym (since_pending setup x.world x.since x.befell ∙ x.clear) in
    ap (λ said. sent ++ said)
    (mapped_same (λ d. unwrap_or (answer d (met_in d history) sent) []) (λ d. unwrap_or (answer d (met d all) sent) [])
    (by_address setup.devices) (λ d. ap (λ a. unwrap_or a []) (answer_same d (met_in d history) (met d all) sent (x.same d))))
    ∙ ap (λ f. heard_by_host f sent (flat_map (λ d. unwrap_or (answer d (met d all) (heard_by_devices f sent)) []) (by_address setup.devices))) clear

-- what a device heard that is no message, or nothing, in place of the other
pub none_empty : IsNoMessage []
unfolding message
none_empty = (refl, refl)

pub none_asked : (d : DeviceSetup) → is_question (asks_of d []) ≡ true
none_asked d = ap is_question (damaged_asks d [] none_empty)
