-- An acceptor over a run of any host: what the taps show of it is what it was, and where some coin is let in all that came to
-- it since is an event.
use Rattle.std.proofs.Common.{◌≡◌, ℕ, suc, ◌≤◌, ◌==◌, cond, true, false, Bool, List, [], ◌∷◌, ◌++◌, length, map, refl, ap, ap₂, sym, ◌∙◌, subst, arith, Option, Some, None}
use Rattle.std.proofs.lemmas.Bool.Decides.{nat_tests}
use Rattle.std.proofs.lemmas.List.{length-map}
use Rattle.cct_model.specs.terms.coin.Pair.{Pair}
use Rattle.cct_model.specs.terms.device.DeviceBody.{DeviceBody}
use Rattle.cct_model.specs.terms.device.DeviceBody.TheVariants.{Acceptor, Bill, Hopper}
use Rattle.cct_model.specs.terms.device.DeviceSetup.{DeviceSetup}
use Rattle.cct_model.specs.terms.device.Setup.{Setup}
use Rattle.cct_model.specs.terms.request.Request.{Request}
use Rattle.cct_model.specs.terms.request.Request.TheVariants.{SetMask, SetMaster, SetPath, SetDefault, ResetDevice}
use Rattle.cct_model.specs.lines.command.Step.{Step}
use Rattle.cct_model.specs.lines.entry.Entry.{Entry}
use Rattle.cct_model.specs.lines.entry.Entry.TheVariants as entry
use Rattle.cct_model.specs.Acceptor.{accepts, alien_event, coin_event, events, mask_of, path_of, settings, settings_after}
use Rattle.cct_model.specs.Claims.{coins}
use Rattle.cct_model.specs.Device.{IsAcceptor, IsHopper}
use Rattle.cct_model.specs.Exchange.{asked, asks_of}
use Rattle.cct_model.specs.History.{Met, heard, unless_reset}
use Rattle.cct_model.specs.Honest.{HonestPast}
use Rattle.cct_model.specs.Job.{address_of}
use Rattle.cct_model.specs.Line.{Line}
use Rattle.cct_model.specs.Line as line
use Rattle.cct_model.specs.Reading.{coins_among}
use Rattle.cct_model.specs.Script.{IsInRange}
use Rattle.cct_model.specs.Setting.{Setting, mask_in}
use Rattle.cct_model.specs.Setup.{IsSoundSetup}
use Rattle.cct_model.specs.Transcript.{at, doses_of, got_by, heard_after, heard_by_devices, lines_of, met, own, pending}
use Rattle.cct_model.proofs.Doses.{no_doses}
use Rattle.cct_laws.specs.Law.{IsOf}
use Rattle.cct_laws.proofs.jobs.ReadingsMadeAgain.{no_bill}
use Rattle.cct_laws.proofs.jobs.StepBrings.{Comes, takes_coin, leaves_coin, takes_bill, leaves_bill, leaves_alien, drops_coin, drops_none, jams, jams_none, is_reset}
use Rattle.cct_audit_taps.specs.declared.shown.Shown.{Shown}
use Rattle.cct_audit_taps.specs.declared.shown.Shown.TheVariants.{Read, Masked, Set, Nothing}
use Rattle.cct_audit_taps.specs.Taps.{Tap, shown, tap_of}
use Rattle.cct_laws_any_host.specs.Wild.{WildStep, WildFrom, before_tap, taps}
use Rattle.cct_laws_any_host.specs.Claims.{looks, pieces}
use Rattle.cct_laws_any_host.proofs.Moments.{World, Quiet, Runs, Shows, quiet_refl, quiet_then, runs_same}
use Rattle.cct_laws_any_host.proofs.Run.{AllWild, Seen, Wild, at_earlier, at_last, comes, comes_to, elsewhere, faults, here, no_tap, sends, takes, wild_all}
use Rattle.cct_laws_any_host.proofs.Wire.{Keeps, Told, told}

-- an acceptor by all that it met, and by the lines of its address
abbrev pub world_by : List Met → List Line → World
world_by ms ls = record { mask = mask_of ms; events = events ms; coins = coins ls; came = pieces ls }

abbrev pub world_of : DeviceSetup → List Entry → World
world_of d past = world_by (met d past) (lines_of d past)

-- an acceptor is no other kind of device
pub no_hopper : (body : DeviceBody) → IsAcceptor body → IsHopper body → ⊥
no_hopper (Acceptor accepts values ids) accepting paying = paying
no_hopper (Hopper life value) accepting paying = accepting
no_hopper (Bill accepts values ids) accepting paying = accepting

-- a coin that is let in is an event, and one that isn't is an event without a coin
pub let_in : (ms : List Met) (place : ℕ) → 1 ≤ place → accepts ms place ≡ true →
    coins_among (coin_event ms place ∷ []) ≡ record { place = place; path = path_of ms place } ∷ []
let_in ms place low lets =
    let some : (place == 0) ≡ false = grind (arith, nat_tests) in
    rw lets (rw some refl)

pub kept_out : (ms : List Met) (place : ℕ) → accepts ms place ≡ false → coins_among (coin_event ms place ∷ []) ≡ []
kept_out ms place out = rw out refl

-- what comes to it
quiet_comes : (d : DeviceSetup) (ms : List Met) (lines : List Line) (s : Step) (e : Entry) (m : Met) (ls : List Line) →
    IsAcceptor d.body → IsInRange s → Comes d ms s e m ls → Quiet (world_by ms lines) (world_by (m ∷ ms) (ls ++ lines))
quiet_comes d ms lines _ _ _ _ accepting range (takes_coin place body lets) = λ masked. record {
  masked = masked;
  new = coin_event ms place ∷ [];
  events_are = refl;
  coins_are = ap (λ cs. cs ++ coins lines) (sym (let_in ms place range.0 lets));
  came_are = omega arith;
}
quiet_comes d ms lines _ _ _ _ accepting range (leaves_coin place body out) = λ masked. record {
  masked = masked;
  new = coin_event ms place ∷ [];
  events_are = refl;
  coins_are = ap (λ cs. cs ++ coins lines) (sym (kept_out ms place out));
  came_are = omega arith;
}
quiet_comes d ms lines _ _ _ _ accepting range (takes_bill place banking kept) = absurd (no_bill d.body accepting banking)
quiet_comes d ms lines _ _ _ _ accepting range (leaves_bill place banking back) = absurd (no_bill d.body accepting banking)
quiet_comes d ms lines _ _ _ _ accepting range (leaves_alien body) = λ masked. record {
  masked = masked;
  new = alien_event ∷ [];
  events_are = refl;
  coins_are = refl;
  came_are = omega arith;
}
quiet_comes d ms lines _ _ _ _ accepting range (drops_coin paying some) = absurd (no_hopper d.body accepting paying)
quiet_comes d ms lines _ _ _ _ accepting range (drops_none paying none) = absurd (no_hopper d.body accepting paying)
quiet_comes d ms lines _ _ _ _ accepting range (jams paying some) = absurd (no_hopper d.body accepting paying)
quiet_comes d ms lines _ _ _ _ accepting range (jams_none paying none) = absurd (no_hopper d.body accepting paying)
quiet_comes d ms lines _ _ _ _ accepting range is_reset = λ masked. absurd (masked refl)

quiet_seen : (d : DeviceSetup) (past : List Entry) (e : Entry) → IsAcceptor d.body → Seen d past e →
    Quiet (world_of d past) (world_of d (e ∷ past))
quiet_seen d past _ accepting (here s e m ls range at meets_are own_are) =
    subst (λ v. Quiet (world_of d past) v)
    (sym (ap₂ (λ ms ls. world_by (ms ++ met d past) (ls ++ lines_of d past)) meets_are own_are))
    (quiet_comes d (met d past) (lines_of d past) s e m ls accepting range at)
quiet_seen d past _ accepting (elsewhere e meets_are own_are) =
    subst (λ v. Quiet (world_of d past) v)
    (sym (ap₂ (λ ms ls. world_by (ms ++ met d past) (ls ++ lines_of d past)) meets_are own_are))
    (quiet_refl (world_of d past))

-- lines that show no piece
pub same_with : (ms : List Met) (lines : List Line) (x : Line) (b : Bool) → coins (x ∷ lines) ≡ coins lines →
    pieces (x ∷ lines) ≡ pieces lines → world_by ms (cond b (x ∷ []) [] ++ lines) ≡ world_by ms lines
same_with ms lines x true no_coin no_piece =
    ap₂ (λ cs n. record { mask = mask_of ms; events = events ms; coins = cs; came = n }) no_coin no_piece
same_with ms lines x false no_coin no_piece = refl

-- bytes that an acceptor hears, and that ask for no other mask and no reset
mask_kept : (asked : Option Request) (before : List Setting) → Keeps asked →
    mask_in (settings_after asked before) ≡ mask_in before
mask_kept None before keeps = refl
mask_kept (Some (SetMask mask)) before keeps = absurd keeps
mask_kept (Some ResetDevice) before keeps = absurd keeps
mask_kept (Some (SetMaster value)) before keeps = refl
mask_kept (Some (SetPath place path)) before keeps = refl
mask_kept (Some (SetDefault path)) before keeps = refl
mask_kept (Some q) before keeps = refl

events_kept : (asked : Option Request) (before : List Pair) → Keeps asked → unless_reset asked [] before ≡ before
events_kept None before keeps = refl
events_kept (Some ResetDevice) before keeps = absurd keeps
events_kept (Some q) before keeps = refl

hears : (ms : List Met) (lines : List Line) (asked : Option Request) → Keeps asked →
    world_by (heard asked ∷ ms) lines ≡ world_by ms lines
hears ms lines asked keeps =
    ap₂ (λ k es. record { mask = k; events = es; coins = coins lines; came = pieces lines })
    (mask_kept asked (settings ms) keeps) (events_kept asked (events ms) keeps)

no_lines : (xs ys zs : List Line) → ys ≡ [] → (xs ++ ys) ++ zs ≡ xs ++ zs
no_lines [] ys zs none = ap (λ y. y ++ zs) none
no_lines (x ∷ xs) ys zs none = ap (λ rest. x ∷ rest) (no_lines xs ys zs none)

-- an exchange, whoever it is for
pub wire_lines : (d : DeviceSetup) (past : List Entry) (addr : ℕ) (sent piece : List ℕ) (ms : List Met) → IsAcceptor d.body →
    world_by ms (own d past (entry.Wire addr sent piece) ++ lines_of d past) ≡ world_by ms (lines_of d past)
wire_lines d past addr sent piece ms accepting =
    let x = line.exchange (asked d.kind sent) (got_by d sent piece) in
    ap (world_by ms) (no_lines (cond (addr == d.addr) (x ∷ []) []) (doses_of d past sent) (lines_of d past)
    (no_doses d.body d.serial (met d past) (asks_of d (heard_by_devices (pending past) sent)) accepting))
    ∙ same_with ms (lines_of d past) x (addr == d.addr) refl refl

quiet_wire : (d : DeviceSetup) (past : List Entry) (addr : ℕ) (sent piece : List ℕ) → IsAcceptor d.body →
    Keeps (asks_of d (heard_by_devices (pending past) sent)) →
    Quiet (world_of d past) (world_of d (entry.Wire addr sent piece ∷ past))
quiet_wire d past addr sent piece accepting keeps =
    subst (λ v. Quiet (world_of d past) v)
    (sym (wire_lines d past addr sent piece (met d (entry.Wire addr sent piece ∷ past)) accepting
    ∙ hears (met d past) (lines_of d past) (asks_of d (heard_by_devices (pending past) sent)) keeps))
    (quiet_refl (world_of d past))

-- what a tap shows
shows_is : (d : DeviceSetup) (past : List Entry) (sent piece : List ℕ) (s : Shown) → Told d past sent piece →
    shown d.kind d.addr (tap_of sent piece) ≡ s → Shows s (world_of d past)
shows_is d past sent piece (Read c) is shows = is.read c shows
shows_is d past sent piece (Masked mask) is shows = is.masked mask shows
shows_is d past sent piece Set is shows = tt
shows_is d past sent piece Nothing is shows = tt

-- ---- all taps

-- later moments
runs_later : (at : ℕ → World) (shows : List Shown) (w v : World) → Quiet w v → Runs at shows w → Runs at shows v
runs_later at [] w v since runs = tt
runs_later at (s ∷ past) w v since runs =
    (runs.0, λ unset. quiet_then (at (suc (length past))) w v (runs.1 unset) since, runs.2)

-- the taps of a past ran at these moments
abbrev RunsAt : DeviceSetup → World → (ℕ → List Entry) → List Tap → Type 0
RunsAt d now moments ts = Runs (λ n. world_of d (moments n)) (map (shown d.kind d.addr) ts) now

module _ (setup : Setup) (d : DeviceSetup) (sound : IsSoundSetup setup) (own_one : IsOf setup d)
    (accepting : IsAcceptor d.body) where
  wire_runs : (past : List Entry) (addr : ℕ) (sent piece : List ℕ) → Told d past sent piece →
      Runs (λ n. world_of d (before_tap n past)) (looks d past) (world_of d past) →
      Runs (λ n. world_of d (before_tap n (entry.Wire addr sent piece ∷ past)))
      (looks d (entry.Wire addr sent piece ∷ past)) (world_of d (entry.Wire addr sent piece ∷ past))
  wire_runs past addr sent piece is runs =
      let moments : ℕ → World = λ n. world_of d (before_tap n (entry.Wire addr sent piece ∷ past)) in
      let last : moments (suc (length (looks d past))) ≡ world_of d past =
      ap (world_of d) (at_last (suc (length (looks d past))) past (before_tap (suc (length (looks d past))) past)
      (ap suc (length-map (taps past) (shown d.kind d.addr)))) in
      let earlier : Runs moments (looks d past) (world_of d past) =
      runs_same (λ n. world_of d (before_tap n past)) moments (looks d past) (world_of d past)
      (λ n most. ap (world_of d) (at_earlier n past (before_tap n past)
      (omega (arith, most, length-map (taps past) (shown d.kind d.addr))))) runs in (
        subst (Shows (shown d.kind d.addr (tap_of sent piece))) (sym last)
            (shows_is d past sent piece (shown d.kind d.addr (tap_of sent piece)) is refl),
        λ unset. subst (λ w. Quiet w (world_of d (entry.Wire addr sent piece ∷ past))) (sym last)
            (quiet_wire d past addr sent piece accepting (is.keeps unset)),
        subst (Runs moments (looks d past)) (sym last) earlier,
      )

  -- each entry
  one_runs : (past : List Entry) (e : Entry) → Wild setup past e → HonestPast (e ∷ past) →
      Runs (λ n. world_of d (before_tap n past)) (looks d past) (world_of d past) →
      Runs (λ n. world_of d (before_tap n (e ∷ past))) (looks d (e ∷ past)) (world_of d (e ∷ past))
  one_runs past _ (comes other s e m ls own_other range at) honest runs =
      no_tap other (met other past) s e m ls past (RunsAt d (world_of d (e ∷ past))) at
      (runs_later (λ n. world_of d (before_tap n past)) (looks d past) (world_of d past) (world_of d (e ∷ past))
      (quiet_seen d past e accepting (comes_to setup d other past s e m ls own_one own_other range at)) runs)
  one_runs past _ (faults f) honest runs = runs
  one_runs past _ (takes c) honest runs =
      subst (Runs (λ n. world_of d (before_tap n past)) (looks d past))
      (sym (same_with (met d past) (lines_of d past) (line.taken c)
      (address_of c == d.addr) refl refl)) runs
  one_runs past _ (sends addr sent) honest runs =
      wire_runs past addr sent (heard_after setup past sent)
      (told setup d past sent sound own_one accepting honest.0) runs

  all_runs : (past : List Entry) → AllWild setup past → HonestPast past →
      Runs (λ n. world_of d (before_tap n past)) (looks d past) (world_of d past)
  all_runs [] all honest = tt
  all_runs (e ∷ past) all honest = one_runs past e all.0 honest (all_runs past all.1 honest.1)

-- the taps of a run of any host show what the acceptor was, and all that came to it since is an event where some coin is let in
pub acceptor_runs : (setup : Setup) (steps : List WildStep) (past : List Entry) (d : DeviceSetup) → IsSoundSetup setup →
    IsOf setup d → IsAcceptor d.body → WildFrom setup [] steps past → HonestPast past →
    Runs (λ n. world_of d (before_tap n past)) (looks d past) (world_of d past)
acceptor_runs setup steps past d sound own_one accepting goes honest =
    all_runs setup d sound own_one accepting past (wild_all setup steps [] past goes tt) honest
