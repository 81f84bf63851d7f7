-- What a port gives over a line whose devices do what the model's do.
use Rattle.std.proofs.Common.{◌≡◌, ◌⊎◌, inl, inr, ℕ, ◌≤◌, Bool, List, [], ◌∷◌, ◌++◌, refl, sym, ◌∙◌, subst, Option, Some, None, Result}
use Rattle.cct_edge.specs.declared.fault.Failed.{Failed}
use Rattle.cct_model.specs.terms.device.Setup.{Setup}
use Rattle.cct_model.specs.lines.command.WireFault.TheVariants as fault
use Rattle.cct_live_port.specs.declared.port.Port.{Port}
use Rattle.cct_live_port.specs.Calls.{Breaks, FailsAt, FailsToSend, Hearing, Unquiet, Waits, broke, brought, never, paused, sending, unheard, unread, waiting}
use Rattle.cct_live_port.specs.Calls as calls
use Rattle.cct_live_port.specs.Port.{Gives, Hears, echo_of, line_of, options_of, patience, wanted}
use Rattle.cct_laws_live_devices.specs.Asked.{Moment, asks, heard_by, met_in}
use Rattle.cct_laws_live_devices.specs.Prompt.{IsPrompt, IsQuiet}
use Rattle.cct_laws_live_devices.proofs.Prompting.{heard_front}
use Rattle.cct_laws_live_devices.specs.Devices.{Befell, IsHeardFrom, IsModelled, IsUnanswered, MayReach, befell_more, heard_none, heard_some, nothing_befell}
use Rattle.cct_laws_live_devices.proofs.Exchanging.{Happened, silence_unanswered, unsent, went_right, went_wrong}

befell_then : (setup : Setup) (first middle last : List Moment) → Befell setup first middle → Befell setup middle last →
    Befell setup first last
befell_then setup first middle _ before nothing_befell = before
befell_then setup first middle _ before (befell_more past e after at) =
    befell_more past e (befell_then setup first middle past before after) at

-- what happened between a port's reads, and in its exchange
pub record Exchanged (setup : Setup) (before after : List Moment) (sent piece : List ℕ) : Type 0 where
  pub first : List Moment
  pub second : List Moment
  pub earlier : Befell setup before first
  pub happened : Happened setup first sent piece second
  pub later : Befell setup second after

-- bytes were sent, and that failed
pub may_happen : (setup : Setup) (before after : List Moment) (sent : List ℕ) → MayReach setup before sent after →
    Exchanged setup before after sent []
may_happen setup before after sent (heard_none befell) =
    record { first = after; second = after; earlier = befell; happened = unsent refl; later = nothing_befell }
may_happen setup before after sent (heard_some at piece earlier honest later) = record {
  first = at;
  second = asks piece ∷ at;
  earlier = earlier;
  happened = went_wrong piece honest (silence_unanswered sent);
  later = later;
}

-- things happened to devices before and after
around : (setup : Setup) (before first last after : List Moment) (sent piece : List ℕ) → Befell setup before first →
    Exchanged setup first last sent piece → Befell setup last after → Exchanged setup before after sent piece
around setup before first last after sent piece earlier one later = record {
  first = one.first;
  second = one.second;
  earlier = befell_then setup before first one.first earlier one.earlier;
  happened = one.happened;
  later = befell_then setup one.second last after one.later later;
}

module _ {L : Type 0} (reads : L → Option (List ℕ) → L → Type 0) (writes : L → List ℕ → Result (Unit {0}) Failed → L → Type 0)
    (setup : Setup) (echoes : Bool) (answer : L → List ℕ → List ℕ) (history : L → List Moment)
    (modelled : IsModelled reads writes setup echoes answer history) where
  -- while it reads, things happen to devices
  reads_befell : (wants : List ℕ → ℕ → Type 0) (already : ℕ) (first last : L) (bytes : List ℕ) (silent made : ℕ) →
      Hearing reads writes wants already first bytes silent made last → Befell setup (history first) (history last)
  reads_befell wants already first _ _ _ _ unread = nothing_befell
  reads_befell wants already first _ _ _ _ (paused bytes silent made line next before more read) =
      befell_then setup (history first) (history line) (history next)
      (reads_befell wants already first line bytes silent made before) (modelled.while_read line next (Some []) read)
  reads_befell wants already first _ _ _ _ (brought bytes piece silent made line next before more some read) =
      befell_then setup (history first) (history line) (history next)
      (reads_befell wants already first line bytes silent made before) (modelled.while_read line next (Some piece) read)

  waits_befell : (already wanted : ℕ) (first last : L) → Waits reads writes already wanted first last →
      Befell setup (history first) (history last)
  waits_befell already wanted first last waits =
      reads_befell (calls.is_noisy wanted) already first last waits.dropped waits.silent waits.made waits.hearing

  unquiet_befell : (already wanted : ℕ) (first last : L) → Unquiet reads writes already wanted first last →
      Befell setup (history first) (history last)
  unquiet_befell already wanted first _ (never dropped silent last hearing) =
      reads_befell (calls.is_noisy wanted) already first last dropped silent (calls.most_reads wanted) hearing
  unquiet_befell already wanted first _ (broke dropped silent made line last hearing fails) =
      befell_then setup (history first) (history line) (history last)
      (reads_befell (calls.is_noisy wanted) already first line dropped silent made hearing)
      (modelled.while_read line last None fails)

  breaks_befell : (much : ℕ) (sent before : List ℕ) (first last : L) → Breaks reads writes much sent before first last →
      Befell setup (history first) (history last)
  breaks_befell much sent before first last breaks =
      befell_then setup (history first) (history breaks.line) (history last)
      (reads_befell (calls.goes_on much sent before) 0 first breaks.line breaks.bytes breaks.silent breaks.made breaks.hearing)
      (modelled.while_read breaks.line last None breaks.fails)

  -- an exchange that failed
  send_fails : (already wanted : ℕ) (sent : List ℕ) (first last : L) →
      FailsToSend reads writes already wanted sent first last → Exchanged setup (history first) (history last) sent []
  send_fails already wanted sent first _ (waiting last unquiet) = record {
    first = history last;
    second = history last;
    earlier = unquiet_befell already wanted first last unquiet;
    happened = unsent refl;
    later = nothing_befell;
  }
  send_fails already wanted sent first _ (sending quiet last why waits wrote) =
      around setup (history first) (history quiet) (history last) (history last) sent []
      (waits_befell already wanted first quiet waits)
      (may_happen setup (history quiet) (history last) sent (modelled.unwritten quiet last sent why wrote)) nothing_befell

  fails_at : (already wanted much : ℕ) (sent before : List ℕ) (first : L) (is_sent : Bool) (last : L) →
      FailsAt reads writes already wanted much sent before first is_sent last →
      Exchanged setup (history first) (history last) sent []
  fails_at already wanted much sent before first _ _ (calls.unsent last fails) =
      send_fails already wanted sent first last fails
  fails_at already wanted much sent before first _ _ (unheard asked last sends breaks) =
      let reached = modelled.written sends.quiet asked sent sends.writes_once in
      around setup (history first) (history sends.quiet) (history asked) (history last) sent []
      (waits_befell already wanted first sends.quiet sends.waits)
      (may_happen setup (history sends.quiet) (history asked) sent
      (heard_some reached.at reached.piece reached.earlier reached.honest reached.later))
      (breaks_befell much sent before asked last breaks)

  -- one that went through
  comes_of : (before : List Moment) (sent bytes came piece rest : List ℕ) → came ≡ piece ++ rest → IsHeardFrom sent bytes →
      ((bytes ≡ sent) × (heard_by setup (λ d. met_in d before) fault.Clear sent ≡ came))
      ⊎ ((front more : List ℕ) → came ≡ front ++ more → IsUnanswered sent front) →
      Happened setup before sent piece (asks bytes ∷ before)
  comes_of before sent bytes came piece rest is honest (inl right) =
      subst (λ b. Happened setup before sent piece (asks b ∷ before)) (sym right.0) (went_right rest (right.1 ∙ is))
  comes_of before sent bytes came piece rest is honest (inr damaged) = went_wrong bytes honest (damaged piece rest is)

  goes_through : (longest : ℕ) (coming : L → List ℕ) (silent : L → ℕ) →
      IsPrompt reads writes longest coming silent answer → (old new : Port L) (sent heard : List ℕ) →
      longest ≤ (options_of old).longest → (options_of old).echoes ≡ echoes → IsQuiet reads writes coming silent old →
      Hears reads writes old sent heard new → Exchanged setup (history (line_of old)) (history (line_of new)) sent heard
  goes_through longest coming silent prompt old new sent heard long gives_echo known hears =
      let spoken = hears.calls in
      let sends = spoken.sends in
      let listens = spoken.listens in
      let echo = echo_of (options_of old).echoes sent in
      let reached = modelled.written sends.quiet spoken.asked sent sends.writes_once in
      let front = heard_front reads writes longest coming silent answer prompt old new sent heard long hears known in
      around setup (history (line_of old)) (history sends.quiet) (history spoken.asked) (history (line_of new)) sent heard
      (waits_befell _ (wanted old) (line_of old) sends.quiet sends.waits)
      (record {
        first = reached.at;
        second = asks reached.piece ∷ reached.at;
        earlier = reached.earlier;
        happened =
            comes_of reached.at sent reached.piece (echo_of echoes sent ++ answer sends.quiet sent) heard (coming (line_of new))
            (subst (λ e. echo_of e sent ++ answer sends.quiet sent ≡ heard ++ coming (line_of new)) gives_echo front)
            reached.honest reached.comes;
        later = reached.later;
      })
      (reads_befell (calls.goes_on (patience old sent) sent echo) 0 spoken.asked (line_of new) hears.bytes _ listens.made
      listens.hearing)

  pub gives_exchange : (longest : ℕ) (coming : L → List ℕ) (silent : L → ℕ) →
      IsPrompt reads writes longest coming silent answer → (old new : Port L) (sent heard : List ℕ) →
      longest ≤ (options_of old).longest → (options_of old).echoes ≡ echoes → IsQuiet reads writes coming silent old →
      Gives reads writes old sent heard new → Exchanged setup (history (line_of old)) (history (line_of new)) sent heard
  gives_exchange longest coming silent prompt old new sent heard long gives_echo known gives = elim gives.goes [
    | inl hears ↦ goes_through longest coming silent prompt old new sent heard long gives_echo known hears
    | inr gave_up ↦
        subst (Exchanged setup (history (line_of old)) (history (line_of new)) sent) (sym gave_up.nothing)
        (fails_at _ (wanted old) (patience old sent) sent _ (line_of old) _ (line_of new) gave_up.calls)
  ]
