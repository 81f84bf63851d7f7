-- How long a line was silent before a message was sent.
use Rattle.std.proofs.Common.{◌≡◌, ◌⊎◌, ◌≤◌, zero, suc, ℕ, Bool, true, false, Option, List, Result, inl, inr, sym, subst, arith}
use Rattle.cct_edge.specs.declared.fault.Failed.{Failed}
use Rattle.cct_live_port.specs.declared.port.Port.{Port}
use Rattle.cct_live_port.specs.Calls.{FailsAt, FailsToSend, Hearing, Waits, brought, paused, sending, unheard, unread, unsent, waiting}
use Rattle.cct_live_port.specs.Port.{Gives, GivesUp, Hears, line_of, options_of, settled, silent_of, wanted}
use Rattle.cct_live_port.specs.Silence.{EachSendFollowsSilence, HasBeenSilent, Uses, as_made, exchanged, failed_after, set_anew, silent_read, unknown, went_after, wrote_after}

module _ {L : Type 0} (reads : L → Option (List ℕ) → L → Type 0) (writes : L → List ℕ → Result (Unit {0}) Failed → L → Type 0) where
  -- a line that was silent for longer was so for less
  silent_for_less : (m : ℕ) (line : L) → HasBeenSilent reads writes m line → (n : ℕ) → n ≤ m
      → HasBeenSilent reads writes n line
  silent_for_less m last (unknown line) n less =
      subst (λ count. HasBeenSilent reads writes count line) (omega (arith, less)) (unknown line)
  silent_for_less m last (silent_read count line next before silence) zero less = unknown next
  silent_for_less m last (silent_read count line next before silence) (suc n) less =
      subst (λ count. HasBeenSilent reads writes count next) (omega arith)
      (silent_read n line next (silent_for_less count line before n (omega (arith, less))) silence)

  -- the silent reads at the end of those that were heard
  heard_silence : (wants : List ℕ → ℕ → Type 0) (already : ℕ) (first : L) (bytes : List ℕ) (silent made : ℕ) (last : L)
      → HasBeenSilent reads writes already first → Hearing reads writes wants already first bytes silent made last
      → HasBeenSilent reads writes silent last
  heard_silence wants already first bytes silent made last before unread = before
  heard_silence wants already first bytes silent made last before (paused heard count reads_made line next hearing more silence) =
      silent_read count line next (heard_silence wants already first heard count reads_made line before hearing) silence
  heard_silence wants already first bytes silent made last before (brought heard piece count reads_made line next hearing more some comes) =
      unknown next

  -- a wait ends in silence
  waited_silence : (already wanted count : ℕ) (first last : L) → HasBeenSilent reads writes already first → count ≤ wanted
      → (waits : Waits reads writes already wanted first last) → HasBeenSilent reads writes count last
  waited_silence already wanted count first last before less waits =
      silent_for_less _ _ (heard_silence _ _ _ _ _ _ _ before waits.hearing) count (omega (arith, less, waits.enough))

  -- after any exchange the silent reads that a port keeps were made last
  exchanged_silence : (old new : Port L) (sent heard : List ℕ) → Gives reads writes old sent heard new
      → HasBeenSilent reads writes (silent_of new) (line_of new)
  exchanged_silence old new sent heard given = elim given.goes [
    | inl h ↦ heard_silence _ _ _ _ _ _ _ (unknown _) h.calls.listens.hearing
    | inr g ↦ subst (λ count. HasBeenSilent reads writes count (line_of new)) (sym g.anew) (unknown _)
  ]

  -- so it is whatever was done with a port
  used_silence : (first port : Port L) → Uses reads writes first port
      → HasBeenSilent reads writes (silent_of port) (line_of port)
  used_silence first port (as_made none) =
      subst (λ count. HasBeenSilent reads writes count (line_of first)) (sym none) (unknown _)
  used_silence first last (exchanged port next sent heard uses given) = exchanged_silence port next sent heard given
  used_silence first last (set_anew port next uses line silent) =
      subst (λ count. HasBeenSilent reads writes count (line_of next)) (sym silent)
      (subst (λ at. HasBeenSilent reads writes (silent_of port) at) (sym line) (used_silence first port uses))

  -- a write that failed was made in silence
  wrote_in_silence : (already wants count : ℕ) (sent : List ℕ) (first last : L) → HasBeenSilent reads writes already first
      → count ≤ wants → (fails : FailsToSend reads writes already wants sent first last)
      → wrote_after reads writes count fails
  wrote_in_silence already wants count sent first last before less (waiting end unquiet) = tt
  wrote_in_silence already wants count sent first last before less (sending quiet end why waits wrote) =
      waited_silence already wants count first quiet before less waits

  -- an exchange that failed wrote in silence
  failed_in_silence : (already wants patience count : ℕ) (sent echo : List ℕ) (first : L) (is_sent : Bool) (last : L)
      → HasBeenSilent reads writes already first → count ≤ wants
      → (fails : FailsAt reads writes already wants patience sent echo first is_sent last)
      → failed_after reads writes count fails
  failed_in_silence already wants patience count sent echo first is_sent last before less (unsent end fails) =
      wrote_in_silence already wants count sent first end before less fails
  failed_in_silence already wants patience count sent echo first is_sent last before less (unheard asked end sends breaks) =
      waited_silence already wants count first sends.quiet before less sends.waits

  -- any exchange wrote in silence
  went_in_silence : (old new : Port L) (sent heard : List ℕ) (count : ℕ)
      → HasBeenSilent reads writes (silent_of old) (line_of old) → count ≤ wanted old
      → (goes : Hears reads writes old sent heard new ⊎ GivesUp reads writes old sent heard new)
      → went_after reads writes count goes
  went_in_silence old new sent heard count before less (inl hears) =
      waited_silence _ _ count _ _ before less hears.calls.sends.waits
  went_in_silence old new sent heard count before less (inr gives_up) =
      failed_in_silence _ _ _ count _ _ _ _ _ before less gives_up.calls

  -- how long is waited, by whether the last exchange was answered
  longest_unanswered : (port : Port L) → settled port ≡ false → (options_of port).longest ≤ wanted port
  longest_unanswered port is = rw is (omega arith)

  gap_answered : (port : Port L) → settled port ≡ true → (options_of port).gap ≤ wanted port
  gap_answered port is = rw is (omega arith)

  pub each_send : EachSendFollowsSilence reads writes
  each_send first port next sent heard uses given =
      let before = used_silence first port uses in (
        λ unanswered. went_in_silence port next sent heard _ before (longest_unanswered port unanswered) given.goes,
        λ answered. went_in_silence port next sent heard _ before (gap_answered port answered) given.goes,
      )
