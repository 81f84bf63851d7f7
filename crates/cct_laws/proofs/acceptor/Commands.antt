-- The table of the commands to a device that takes money: what the first row of the job of each needs, to what each of its
-- rows leads, and what the device replies to all that it asks.
use Rattle.std.proofs.Common.{List, [], inl, refl, rules, subst, sym, true, ℕ, ◌==◌, ◌∷◌, ◌≡◌}
use Rattle.cct_model.specs.terms.device.DeviceSetup.{DeviceSetup}
use Rattle.cct_model.specs.lines.command.Command.{Command}
use Rattle.cct_model.specs.terms.device.DeviceBody.{DeviceBody}
use Rattle.cct_model.specs.terms.device.DeviceBody.TheVariants.{Acceptor, Bill, Hopper}
use Rattle.cct_model.specs.Job.{epoch, ident_requests, job, judged_in, works}
use Rattle.cct_model.specs.Rows.{after, goes_on, path_told, rows_of}
use Rattle.cct_model.specs.Script.{IsCommand}
use Rattle.cct_model.proofs.Rows.{Asks, EachBefore, EachRow, after_none, each_asked}
use Rattle.cct_laws.specs.DeviceJobs.{IsTaken, is_for_taker, suits}
use Rattle.cct_laws.proofs.acceptor.BesideCoins.{World, world}
use Rattle.cct_laws.proofs.acceptor.Fits.{Fits, FitsAt, ReadSoFar, notes_in, read_so_far}
use Rattle.std.specs.Prelude.{is_some, ◌&&◌}
use Rattle.cct_model.specs.declared.judging.EpochState.{EpochState}
use Rattle.cct_model.specs.declared.judging.EpochState.TheVariants.{Idle, Running}
use Rattle.cct_model.specs.History.{Met}
use Rattle.cct_model.specs.Bill.{bill_held, is_way}
use Rattle.cct_model.specs.Device.{IsAcceptor, IsBill}
use Rattle.cct_model.specs.Line.{Line, taken}
use Rattle.cct_model.specs.declared.judging.Judged.TheVariants.{Nothing}
use Rattle.cct_laws.proofs.wire.Exchanges.{Answers}
use Rattle.cct_laws.proofs.wire.CommonReplies.{each_answers, ident_replied, reset_replied}
use Rattle.cct_model.specs.lines.command.Command.TheVariants as command
use Rattle.cct_laws.proofs.acceptor.Moves.{Keeps, sound_line, idle_taken, running_taken, neutral_if, ident_told, neutral_fits, told_fits, quiet_fits, reading_counts}
use Rattle.cct_laws.proofs.acceptor.Leads.{Leads, neutral_leads, told_leads, quiet_leads, reading_leads, counting_leads}
use Rattle.cct_laws.proofs.acceptor.AcceptorReplies.{Sane, credits_replied, set_mask_replied, mask_replied, set_master_replied, accepts_replied, owns_by, set_by, read_by, route_by}

-- what a job at a device that takes money needs when it begins, with what was taken

begun_fits : (d : DeviceSetup) (w : World) (b : ReadSoFar) (c : Command) → is_for_taker c ≡ true → IsTaken d c b.epoch →
    FitsAt w b (rows_of d c) (notes_in []) Nothing
begun_fits d w b (command.Start addr mask) played fine = idle_taken mask d b.epoch fine
begun_fits d w b (command.Round addr) played fine =
    reading_counts d.body w b _ (notes_in []) (running_taken b.epoch fine) tt
begun_fits d w b (command.Stop addr) played fine = running_taken b.epoch fine
begun_fits d w b (command.Ident addr) played fine =
    told_fits w b (ident_requests d.body) (notes_in []) Nothing (ident_told d.body)
begun_fits d w b (command.Path addr place path) played fine =
    neutral_fits w b _ _ _ (notes_in []) Nothing (neutral_if (place == 0) _ _ tt tt)
    (neutral_fits w b _ _ _ (notes_in []) Nothing (neutral_if (place == 0) _ _ tt tt) tt)
begun_fits d w b (command.Route addr way) played fine = running_taken b.epoch fine
begun_fits d w b (command.Pay addr id count) played fine = absurd cc
begun_fits d w b (command.Settle addr) played fine = absurd cc
begun_fits d w b c played fine = search rules

judged_none : (c : Command) (state : EpochState) → judged_in c [] state ≡ Nothing
judged_none c Idle = refl
judged_none c (Running mask counter accepts) = refl

begins_fits : (d : DeviceSetup) (w : World) (b : ReadSoFar) (c : Command) → is_for_taker c ≡ true →
    IsTaken d c b.epoch → Fits d w b (works c [])
begins_fits d w b c played fine =
    subst (λ judged. FitsAt w b (after (rows_of d c) 0) (notes_in []) judged) (sym (judged_none c b.epoch))
    (subst (λ rows. FitsAt w b rows (notes_in []) Nothing) (sym (after_none (rows_of d c))) (begun_fits d w b c played fine))

taken_fits : (d : DeviceSetup) (w : World) (lines : List Line) (c : Command) → is_for_taker c ≡ true →
    IsTaken d c (epoch lines) → Fits d w (read_so_far lines) (job (taken c ∷ lines))
taken_fits d w lines (command.Halt addr) played fine = absurd cc
taken_fits d w lines c played fine = begins_fits d w (read_so_far lines) c played fine

pub keeps_taken : (d : DeviceSetup) (past : List Met) (lines : List Line) (c : Command) → is_for_taker c ≡ true → IsTaken d c (epoch lines) →
    Keeps d past lines → Keeps d past (taken c ∷ lines)
keeps_taken d past lines c played fine keeps = record {
  sound = sound_line d past past lines (taken c) tt (λ _. tt) tt keeps.sound.told keeps.sound.marked keeps.sound.state
      keeps.sound;
  fits = taken_fits d (world d past lines) lines c played fine;
}

-- each row of a job leads to the next
pub leads : (d : DeviceSetup) (c : Command) → is_for_taker c ≡ true → IsCommand c → EachBefore Leads (rows_of d c)
leads d (command.Start addr mask) suited some = (
  (tt, λ w b notes judged idle silent. quiet_fits d.body w b _ notes judged idle silent),
  (
    quiet_leads d.body _ (λ w b notes judged idle silent. (idle, silent)),
    ((tt, tt), ((some, tt, λ w b notes judged waits. waits), ((some, tt, tt), tt))),
  ),
)
leads d (command.Round addr) suited range = (
  counting_leads d.body _,
  (
    reading_leads d.body _ (λ w b notes judged held still. (held, still)),
    ((tt, λ w b notes judged sees still. (sees, still)), ((tt, tt), ((tt, tt), tt))),
  ),
)
leads d (command.Stop addr) suited range = (
  (refl, tt, λ w b notes judged running shut. reading_counts d.body w b _ notes running shut),
  (
    counting_leads d.body _,
    (
      reading_leads d.body _ (λ w b notes judged held still. (held, still)),
      (
        (tt, λ w b notes judged sees still. (sees, still)),
        ((refl, tt), (((refl, λ w b notes judged rests. rests), tt), (tt, tt))),
      ),
    ),
  ),
)
leads d (command.Ident addr) suited range = told_leads (ident_requests d.body) (ident_told d.body)
leads d (command.Path addr place path) suited range = (
  neutral_leads _ goes_on _ (neutral_if (place == 0) _ _ tt tt) tt,
  (neutral_leads _ (path_told place) [] (neutral_if (place == 0) _ _ tt tt) (λ number. tt), tt),
)
leads d (command.Route addr way) suited range = ((range, tt, tt), tt)
leads d (command.Pay addr id count) suited range = absurd cc
leads d (command.Settle addr) suited range = absurd cc
leads d c suited range = search rules

-- the kind of a device by a command to it
sets_paths : (body : DeviceBody) (addr place path : ℕ) → suits body (command.Path addr place path) ≡ true → IsAcceptor body
sets_paths (Acceptor accepts values ids) addr place path suited = tt
sets_paths (Hopper life value) addr place path suited = absurd cc
sets_paths (Bill accepts values ids) addr place path suited = absurd cc

routes_bills : (body : DeviceBody) (addr way : ℕ) → suits body (command.Route addr way) ≡ true → IsBill body
routes_bills (Acceptor accepts values ids) addr way suited = absurd cc
routes_bills (Hopper life value) addr way suited = absurd cc
routes_bills (Bill accepts values ids) addr way suited = tt

-- all that a command asks has a reply in the wanted form, or is to route a bill and is refused
pub taker_answers : (d : DeviceSetup) (past : List Met) (c : Command) → Sane d → IsCommand c →
    suits d.body c ≡ true → is_for_taker c ≡ true → EachRow (Asks (Answers d past)) (rows_of d c)
taker_answers d past (command.Start addr mask) sane known suited for_one = (
  inl (reset_replied d past),
  (
    inl (credits_replied d past sane),
    (inl (accepts_replied d past sane), (tt, (inl (set_mask_replied d past mask sane), tt))),
  ),
)
taker_answers d past (command.Round addr) sane known suited for_one = (
  inl (accepts_replied d past sane),
  (
    inl (credits_replied d past sane),
    (inl (mask_replied d past sane), (inl (accepts_replied d past sane), (tt, tt))),
  ),
)
taker_answers d past (command.Stop addr) sane known suited for_one = (
  inl (set_master_replied d past 0 sane),
  (
    inl (accepts_replied d past sane),
    (
      inl (credits_replied d past sane),
      (inl (mask_replied d past sane), (inl (accepts_replied d past sane), (tt, (tt, tt)))),
    ),
  ),
)
taker_answers d past (command.Ident addr) sane known suited for_one =
    each_asked (Answers d past) (ident_requests d.body)
    (each_answers d past (ident_requests d.body)
    (ident_replied d past d.body sane.sound (owns_by d past d.body refl sane)))
taker_answers d past (command.Path addr place path) sane known suited for_one =
    let accepting = sets_paths d.body addr place path suited in (
      inl (set_by d past place path (place == 0) refl accepting known),
      (inl (read_by d past place (place == 0) refl accepting known.0), tt),
    )
taker_answers d past (command.Route addr way) sane known suited for_one =
    (route_by d past way (is_some (bill_held past) && is_way way) (routes_bills d.body addr way suited) refl, tt)
taker_answers d past c sane known suited for_one = absurd cc
