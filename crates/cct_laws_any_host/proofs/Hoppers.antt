-- A hopper over a run of any host: the life counts that the taps show are the one at which it started and the coins that fell.
use Rattle.std.proofs.Common.{◌≡◌, ℕ, suc, ◌+◌, ◌≤◌, ◌==◌, cond, true, false, Bool, List, [], ◌∷◌, ◌++◌, length, map, refl, ap, sym, ◌∙◌, subst, arith, Option, Some, None}
use Rattle.std.specs.Prelude.{◌%◌, ◌^◌}
use Rattle.std.proofs.lemmas.List.{length-map}
use Rattle.cct_model.specs.terms.device.DeviceSetup.{DeviceSetup}
use Rattle.cct_model.specs.terms.device.Setup.{Setup}
use Rattle.cct_model.specs.lines.command.Step.{Step}
use Rattle.cct_model.specs.lines.entry.Entry.{Entry}
use Rattle.cct_model.specs.lines.entry.Entry.TheVariants as entry
use Rattle.cct_model.specs.Device.{IsHopper}
use Rattle.cct_model.specs.Exchange.{asked, asks_of}
use Rattle.cct_model.specs.History.{Met}
use Rattle.cct_model.specs.Honest.{HonestPast}
use Rattle.cct_model.specs.Hopper.{dropped}
use Rattle.cct_model.specs.Job.{address_of}
use Rattle.cct_model.specs.Line.{Line}
use Rattle.cct_model.specs.Line as line
use Rattle.cct_model.specs.Setup.{IsSoundSetup}
use Rattle.cct_model.specs.Transcript.{doses_of, got_by, heard_after, heard_by_devices, lines_of, met, own, pending}
use Rattle.cct_model.proofs.Doses.{undosed}
use Rattle.cct_laws.specs.Coins.{all_fallen}
use Rattle.cct_laws.specs.Law.{IsOf}
use Rattle.cct_laws.proofs.wire.Replies.{start_of}
use Rattle.cct_laws.proofs.jobs.StepBrings.{Comes, takes_coin, leaves_coin, takes_bill, leaves_bill, leaves_alien, drops_coin, drops_none, jams, jams_none, is_reset}
use Rattle.cct_audit_taps.specs.Taps.{Tap, life_shown, tap_of}
use Rattle.cct_laws_any_host.specs.Wild.{WildStep, WildFrom, before_tap, taps}
use Rattle.cct_laws_any_host.specs.Claims.{fallen_before, lives}
use Rattle.cct_laws_any_host.proofs.Fallen.{LifeRuns, ShowsLife, lives_on, lives_same}
use Rattle.cct_laws_any_host.proofs.Run.{AllWild, Seen, Wild, at_earlier, at_last, comes, comes_to, elsewhere, faults, here, no_tap, sends, takes, wild_all}
use Rattle.cct_laws_any_host.proofs.Wire.{told_life}

-- how many coins fell out of a device
abbrev fallen : DeviceSetup → List Entry → ℕ
fallen d past = all_fallen (lines_of d past)

-- lines that show no fall
no_fall_with : (x : Line) (b : Bool) (before after : List Line) → all_fallen (x ∷ before ++ after) ≡ all_fallen (before ++ after) →
    all_fallen ((cond b (x ∷ []) [] ++ before) ++ after) ≡ all_fallen (before ++ after)
no_fall_with x true before after none = none
no_fall_with x false before after none = refl

no_fall_at : (x : Line) (b : Bool) (after : List Line) → all_fallen (x ∷ after) ≡ all_fallen after →
    all_fallen (cond b (x ∷ []) [] ++ after) ≡ all_fallen after
no_fall_at x true after none = none
no_fall_at x false after none = refl

wire_fallen : (d : DeviceSetup) (past : List Entry) (addr : ℕ) (sent piece : List ℕ) →
    fallen d (entry.Wire addr sent piece ∷ past) ≡ fallen d past
wire_fallen d past addr sent piece =
    no_fall_with (line.exchange (asked d.kind sent) (got_by d sent piece)) (addr == d.addr) (doses_of d past sent)
    (lines_of d past) refl
    ∙ undosed all_fallen (record { dosed = λ count lines. refl; stacked = λ coin lines. refl })
    d.body d.serial (met d past) (asks_of d (heard_by_devices (pending past) sent)) (lines_of d past)

-- a coin falls where the hopper has some to pay
Fits : DeviceSetup → List Met → List Line → Type 0
Fits d ms lines = all_fallen lines ≡ dropped d.serial ms

fits_comes : (d : DeviceSetup) (ms : List Met) (lines : List Line) (s : Step) (e : Entry) (m : Met) (ls : List Line) →
    Comes d ms s e m ls → Fits d ms lines → Fits d (m ∷ ms) (ls ++ lines)
unfolding Fits
fits_comes d ms lines _ _ _ _ (takes_coin place body lets) fits = fits
fits_comes d ms lines _ _ _ _ (leaves_coin place body out) fits = fits
fits_comes d ms lines _ _ _ _ (takes_bill place banking kept) fits = fits
fits_comes d ms lines _ _ _ _ (leaves_bill place banking back) fits = fits
fits_comes d ms lines _ _ _ _ (leaves_alien body) fits = fits
fits_comes d ms lines _ _ _ _ (drops_coin paying some) fits = rw some (ap suc fits)
fits_comes d ms lines _ _ _ _ (drops_none paying none) fits = rw none fits
fits_comes d ms lines _ _ _ _ (jams paying some) fits = fits
fits_comes d ms lines _ _ _ _ (jams_none paying none) fits = fits
fits_comes d ms lines _ _ _ _ is_reset fits = fits

fits_seen : (d : DeviceSetup) (past : List Entry) (e : Entry) → Seen d past e → Fits d (met d past) (lines_of d past) →
    Fits d (met d (e ∷ past)) (lines_of d (e ∷ past))
fits_seen d past _ (here s e m ls range at meets_are own_are) fits =
    subst (λ ms. Fits d (ms ++ met d past) (own d past e ++ lines_of d past)) (sym meets_are)
    (subst (λ ls. Fits d (m ∷ met d past) (ls ++ lines_of d past)) (sym own_are)
    (fits_comes d (met d past) (lines_of d past) s e m ls at fits))
fits_seen d past _ (elsewhere e meets_are own_are) fits =
    subst (λ ms. Fits d (ms ++ met d past) (own d past e ++ lines_of d past)) (sym meets_are)
    (subst (λ ls. Fits d (met d past) (ls ++ lines_of d past)) (sym own_are) fits)

-- no fewer coins have fallen later
grows_by : (lines ls : List Line) → all_fallen lines ≤ all_fallen (ls ++ lines)
grows_by lines [] = omega arith
grows_by lines (line.fell ∷ ls) = let more = grows_by lines ls in omega (arith, more)
grows_by lines (l ∷ ls) = grows_by lines ls

grows_seen : (d : DeviceSetup) (past : List Entry) (e : Entry) → Seen d past e → fallen d past ≤ fallen d (e ∷ past)
grows_seen d past _ (here s e m ls range at meets_are own_are) =
    subst (λ ls. fallen d past ≤ all_fallen (ls ++ lines_of d past)) (sym own_are)
    (grows_by (lines_of d past) ls)
grows_seen d past _ (elsewhere e meets_are own_are) =
    subst (λ ls. fallen d past ≤ all_fallen (ls ++ lines_of d past)) (sym own_are) (omega arith)

-- the life counts that taps showed ran at these moments
abbrev LivesAt : DeviceSetup → ℕ → (ℕ → List Entry) → List Tap → Type 0
LivesAt d now moments ts =
    LifeRuns (λ n. fallen d (moments n)) (start_of d.body) (map (life_shown d.kind d.addr) ts) now

shows_life : (start fallen_now : ℕ) (s : Option ℕ) → ((count : ℕ) → s ≡ Some count → count ≡ (start + fallen_now) % 2 ^ 24) →
    ShowsLife start s fallen_now
shows_life start fallen_now None told = tt
shows_life start fallen_now (Some count) told = told count refl

module _ (setup : Setup) (d : DeviceSetup) (sound : IsSoundSetup setup) (own_one : IsOf setup d)
    (paying : IsHopper d.body) where
  -- what was dropped is what fell
  one_fits : (past : List Entry) (e : Entry) → Wild setup past e → Fits d (met d past) (lines_of d past) →
      Fits d (met d (e ∷ past)) (lines_of d (e ∷ past))
  unfolding Fits
  one_fits past _ (comes other s e m ls own_other range at) fits =
      fits_seen d past e (comes_to setup d other past s e m ls own_one own_other range at) fits
  one_fits past _ (faults f) fits = fits
  one_fits past _ (takes c) fits =
      no_fall_at (line.taken c) (address_of c == d.addr) (lines_of d past) refl ∙ fits
  one_fits past _ (sends addr sent) fits = wire_fallen d past addr sent (heard_after setup past sent) ∙ fits

  all_fits : (past : List Entry) → AllWild setup past → Fits d (met d past) (lines_of d past)
  unfolding Fits
  all_fits [] all = refl
  all_fits (e ∷ past) all = one_fits past e all.0 (all_fits past all.1)

  wire_lives : (past : List Entry) (addr : ℕ) (sent piece : List ℕ) →
      ((count : ℕ) → life_shown d.kind d.addr (tap_of sent piece) ≡ Some count →
      count ≡ (start_of d.body + fallen d past) % 2 ^ 24) →
      LifeRuns (fallen_before d past) (start_of d.body) (lives d past) (fallen d past) →
      LifeRuns (fallen_before d (entry.Wire addr sent piece ∷ past)) (start_of d.body)
      (lives d (entry.Wire addr sent piece ∷ past)) (fallen d (entry.Wire addr sent piece ∷ past))
  wire_lives past addr sent piece told runs =
      let moments : ℕ → ℕ = fallen_before d (entry.Wire addr sent piece ∷ past) in
      let last : moments (suc (length (lives d past))) ≡ fallen d past =
      ap (fallen d) (at_last (suc (length (lives d past))) past (before_tap (suc (length (lives d past))) past)
      (ap suc (length-map (taps past) (life_shown d.kind d.addr)))) in
      let earlier : LifeRuns moments (start_of d.body) (lives d past) (fallen d past) =
      lives_same (fallen_before d past) moments (start_of d.body) (lives d past) (fallen d past)
      (λ n most. ap (fallen d) (at_earlier n past (before_tap n past)
      (omega (arith, most, length-map (taps past) (life_shown d.kind d.addr))))) runs in
      let more : fallen d past ≤ fallen d (entry.Wire addr sent piece ∷ past) =
      omega (arith, wire_fallen d past addr sent piece) in (
        subst (ShowsLife (start_of d.body) (life_shown d.kind d.addr (tap_of sent piece))) (sym last)
            (shows_life (start_of d.body) (fallen d past) (life_shown d.kind d.addr (tap_of sent piece)) told),
        subst (λ n. n ≤ fallen d (entry.Wire addr sent piece ∷ past)) (sym last) more,
        subst (LifeRuns moments (start_of d.body) (lives d past)) (sym last) earlier,
      )

  -- each entry
  one_lives : (past : List Entry) (e : Entry) → Wild setup past e → HonestPast (e ∷ past) →
      Fits d (met d past) (lines_of d past) →
      LifeRuns (fallen_before d past) (start_of d.body) (lives d past) (fallen d past) →
      LifeRuns (fallen_before d (e ∷ past)) (start_of d.body) (lives d (e ∷ past)) (fallen d (e ∷ past))
  unfolding Fits
  one_lives past _ (comes other s e m ls own_other range at) honest fits runs =
      no_tap other (met other past) s e m ls past (LivesAt d (fallen d (e ∷ past))) at
      (lives_on (fallen_before d past) (start_of d.body) (lives d past) (fallen d past) (fallen d (e ∷ past))
      (grows_seen d past e (comes_to setup d other past s e m ls own_one own_other range at)) runs)
  one_lives past _ (faults f) honest fits runs = runs
  one_lives past _ (takes c) honest fits runs =
      subst (LifeRuns (fallen_before d past) (start_of d.body) (lives d past))
      (sym (no_fall_at (line.taken c) (address_of c == d.addr) (lines_of d past) refl)) runs
  one_lives past _ (sends addr sent) honest fits runs =
      wire_lives past addr sent (heard_after setup past sent)
      (λ count shows. told_life setup d past sent count sound own_one paying honest.0 shows
      ∙ ap (λ n. (start_of d.body + n) % 2 ^ 24) (sym fits)) runs

  all_lives : (past : List Entry) → AllWild setup past → HonestPast past →
      LifeRuns (fallen_before d past) (start_of d.body) (lives d past) (fallen d past)
  all_lives [] all honest = tt
  all_lives (e ∷ past) all honest =
      one_lives past e all.0 honest (all_fits past all.1) (all_lives past all.1 honest.1)

-- the taps of a run of any host show the coins that fell
pub hopper_runs : (setup : Setup) (steps : List WildStep) (past : List Entry) (d : DeviceSetup) → IsSoundSetup setup →
    IsOf setup d → IsHopper d.body → WildFrom setup [] steps past → HonestPast past →
    LifeRuns (fallen_before d past) (start_of d.body) (lives d past) (all_fallen (lines_of d past))
hopper_runs setup steps past d sound own_one paying goes honest =
    all_lives setup d sound own_one paying past (wild_all setup steps [] past goes tt) honest
