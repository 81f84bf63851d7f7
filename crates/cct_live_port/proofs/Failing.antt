-- What an exchange that failed gives.
use Rattle.std.proofs.Common.{◌≡◌, ◌∙◌, inr, sym, ap, subst, arith, ℕ, Bool, true, false, List, length, Option, Result}
use Rattle.cct_edge.specs.declared.fault.Failed.{Failed}
use Rattle.cct_edge.specs.Faults.{next_count}
use Rattle.cct_live_port.specs.declared.port.Port.{Port}
use Rattle.cct_live_port.specs.Calls.{Breaks, FailsAt, FailsToSend, Sends, unheard, unsent}
use Rattle.cct_live_port.specs.Port.{GaveUp, Gives, echo_of, faults_of, line_of, options_of, patience, silent_of, wanted, was_sent}

module _ {L : Type 0} (reads : L → Option (List ℕ) → L → Type 0) (writes : L → List ℕ → Result (Unit {0}) Failed → L → Type 0) where
  -- a port that gives up after calls that failed
  pub gives_up : (old mid new : Port L) (sent heard : List ℕ) (is_sent : Bool) → options_of mid ≡ options_of old
      → faults_of mid ≡ faults_of old → GaveUp mid is_sent heard new
      → FailsAt reads writes (silent_of old) (wanted old) (patience old sent) sent (echo_of old.options.echoes sent)
      (line_of old) is_sent (line_of mid)
      → Gives reads writes old sent heard new
  gives_up old mid new sent heard is_sent options faults gave fails = record {
    few = omega (arith, ap length gave.nothing);
    options = gave.options ∙ options;
    goes = inr (record {
      calls = subst (λ line. FailsAt reads writes (silent_of old) (wanted old) (patience old sent) sent
          (echo_of old.options.echoes sent) (line_of old) (was_sent new) line) (sym gave.line)
          (subst (λ is_sent. FailsAt reads writes (silent_of old) (wanted old) (patience old sent) sent
          (echo_of old.options.echoes sent) (line_of old) is_sent (line_of mid)) (sym gave.sent) fails);
      nothing = gave.nothing;
      unsettled = gave.unsettled;
      anew = gave.anew;
      counted = gave.counted ∙ ap next_count faults;
    });
  }

  -- a message that wasn't sent
  pub gives_unsent : (old mid new : Port L) (sent heard : List ℕ) (waits : ℕ) → waits ≡ wanted old
      → options_of mid ≡ options_of old → faults_of mid ≡ faults_of old
      → FailsToSend reads writes (silent_of old) waits sent (line_of old) (line_of mid) → GaveUp mid false heard new
      → Gives reads writes old sent heard new
  gives_unsent old mid new sent heard waits is options faults fails gave =
      gives_up old mid new sent heard false options faults gave
      (unsent _ (subst (λ waits. FailsToSend reads writes (silent_of old) waits sent (line_of old) (line_of mid)) is fails))

  -- a message that was sent, and a read that failed then
  pub gives_unheard : (old mid new : Port L) (asked : L) (sent heard before : List ℕ) (waits listens : ℕ)
      → waits ≡ wanted old → listens ≡ patience old sent → before ≡ echo_of old.options.echoes sent
      → options_of mid ≡ options_of old → faults_of mid ≡ faults_of old
      → Sends reads writes (silent_of old) waits sent (line_of old) asked
      → Breaks reads writes listens sent before asked (line_of mid) → GaveUp mid true heard new
      → Gives reads writes old sent heard new
  gives_unheard old mid new asked sent heard before waits listens is are begins options faults sends breaks gave =
      gives_up old mid new sent heard true options faults gave
      (unheard asked _ (subst (λ waits. Sends reads writes (silent_of old) waits sent (line_of old) asked) is sends)
      (subst (λ listens. Breaks reads writes listens sent (echo_of old.options.echoes sent) asked (line_of mid)) are
      (subst (λ before. Breaks reads writes listens sent before asked (line_of mid)) begins breaks)))
