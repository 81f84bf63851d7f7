-- Silence makes a line prompt.
use Rattle.std.proofs.Common.{◌≡◌, ◌⊎◌, inl, inr, ℕ, ◌<◌, ◌≤◌, Bool, true, false, List, [], ◌∷◌, ◌++◌, refl, sym, ap, ◌∙◌, subst, ◌||◌, Option, Some, None, Result, arith, append_assoc, true≢false}
use Rattle.std.specs.Prelude.{if◌then◌else◌}
use Rattle.cct_edge.specs.declared.fault.Failed.{Failed}
use Rattle.cct_model.specs.terms.wire.CheckKind.{CheckKind}
use Rattle.cct_model.specs.terms.wire.CheckKind.TheVariants.{Simple, Crc}
use Rattle.cct_live_port.specs.declared.port.Port.{Port}
use Rattle.cct_live_port.specs.Answer.{answered, answered_by, answered_under}
use Rattle.cct_live_port.specs.Calls.{Hearing, unread, paused, brought, is_noisy, goes_on, Waits}
use Rattle.cct_live_port.specs.Port.{Gives, Hears, echo_of, line_of, options_of, settled, silent_of, wanted, patience}
use Rattle.cct_laws_live_devices.specs.Prompt.{IsOwnAnswer, IsPrompt, IsQuiet, OneReplies}

front_none : (one other : List ℕ) → one ++ other ≡ [] → other ≡ []
front_none [] other is = is
front_none (x ∷ one) other is = absurd cc

or_true : (b : Bool) → (b || true) ≡ true
or_true true = refl
or_true false = refl

-- a whole reply under the check that is known is one under either
whole_by : (known : Option CheckKind) (sent heard : List ℕ) → answered_by known sent heard ≡ true → answered sent heard ≡ true
whole_by None sent heard whole = whole
whole_by (Some Simple) sent heard whole = ap (λ b. b || answered_under Crc sent heard) whole
whole_by (Some Crc) sent heard whole =
    ap (λ b. answered_under Simple sent heard || b) whole ∙ or_true (answered_under Simple sent heard)

module _ {L : Type 0} (reads : L → Option (List ℕ) → L → Type 0) (writes : L → List ℕ → Result (Unit {0}) Failed → L → Type 0)
    (longest : ℕ) (coming : L → List ℕ) (quiet_for : L → ℕ) (answer : L → List ℕ → List ℕ)
    (prompt : IsPrompt reads writes longest coming quiet_for answer) where
  -- what came was under way
  came_of : (wants : List ℕ → ℕ → Type 0) (already : ℕ) (first last : L) (bytes : List ℕ) (silent made : ℕ) →
      Hearing reads writes wants already first bytes silent made last → coming first ≡ bytes ++ coming last
  came_of wants already first _ _ _ _ unread = refl
  came_of wants already first _ _ _ _ (paused bytes silent made line next before noisy read) =
      came_of wants already first line bytes silent made before ∙ ap (λ c. bytes ++ c) (sym (prompt.counts line next read).0)
  came_of wants already first _ _ _ _ (brought bytes piece silent made line next before noisy some read) =
      came_of wants already first line bytes silent made before ∙ ap (λ c. bytes ++ c) (prompt.brings line next piece read some)
      ∙ sym (append_assoc bytes piece (coming next))

  -- so many reads were silent
  silent_for : (wants : List ℕ → ℕ → Type 0) (already : ℕ) (first last : L) (bytes : List ℕ) (silent made : ℕ) →
      already ≤ quiet_for first → Hearing reads writes wants already first bytes silent made last → silent ≤ quiet_for last
  silent_for wants already first _ _ _ _ known unread = known
  silent_for wants already first _ _ _ _ known (paused bytes silent made line next before noisy read) =
      let here = silent_for wants already first line bytes silent made known before in
      let more = (prompt.counts line next read).1 in
      omega (arith, here, more)
  silent_for wants already first _ _ _ _ known (brought bytes piece silent made line next before noisy some read) = omega arith

  -- after the longest time nothing is under way
  silence_ends : (line : L) → longest ≤ quiet_for line → coming line ≡ []
  silence_ends line long = by_coming (coming line) refl
    where
      by_coming : (bytes : List ℕ) → coming line ≡ bytes → coming line ≡ []
      by_coming [] is = is
      by_coming (x ∷ bytes) is =
          let fast = prompt.fast line (λ none. some_none x bytes (sym is ∙ none)) in
          absurd (late fast)
        where
          some_none : (x : ℕ) (bytes : List ℕ) → (x ∷ bytes) ≡ [] → ⊥
          some_none x bytes is = cc is

          late : quiet_for line < longest → ⊥
          late fast = omega (arith, fast, long)

  -- before bytes are sent nothing is under way
  quiet_first : (old : Port L) (quiet : L) → longest ≤ (options_of old).longest → IsQuiet reads writes coming quiet_for old →
      Waits reads writes (silent_of old) (wanted old) (line_of old) quiet → coming quiet ≡ []
  quiet_first old quiet long known waits = by_settled (settled old) refl
    where
      by_settled : (b : Bool) → settled old ≡ b → coming quiet ≡ []
      by_settled true is =
          front_none waits.dropped (coming quiet)
          (sym (came_of (is_noisy (wanted old)) (silent_of old) (line_of old) quiet waits.dropped waits.silent waits.made
          waits.hearing)
          ∙ known.nothing is)
      by_settled false is =
          let many : wanted old ≡ (options_of old).longest =
          ap (λ b. if b then (options_of old).gap else (options_of old).longest) is in
          let here =
          silent_for (is_noisy (wanted old)) (silent_of old) (line_of old) quiet waits.dropped waits.silent waits.made
          known.counted waits.hearing in
          silence_ends quiet (omega (arith, here, many, long, waits.enough))

  -- what is heard is a front of what comes of what was sent then
  pub heard_front : (old new : Port L) (sent heard : List ℕ) → longest ≤ (options_of old).longest →
      (hears : Hears reads writes old sent heard new) → IsQuiet reads writes coming quiet_for old →
      echo_of (options_of old).echoes sent ++ answer hears.calls.sends.quiet sent ≡ heard ++ coming (line_of new)
  heard_front old new sent heard long hears known =
      let calls = hears.calls in
      let sends = calls.sends in
      let echo = echo_of (options_of old).echoes sent in
      let still = quiet_first old sends.quiet long known sends.waits in
      let listens = calls.listens in
      let came =
      came_of (goes_on (patience old sent) sent echo) 0 calls.asked (line_of new) hears.bytes (silent_of new) listens.made
      listens.hearing in
      let all : answer sends.quiet sent ≡ hears.bytes ++ coming (line_of new) =
      sym (prompt.brought sends.quiet calls.asked sent sends.writes_once still) ∙ came in
      ap (λ bytes. echo ++ bytes) all ∙ sym (append_assoc echo hears.bytes (coming (line_of new)))
      ∙ ap (λ bytes. bytes ++ coming (line_of new)) (sym hears.hears)

  heard_own : (echoes : Bool) → OneReplies reads writes echoes answer → (old new : Port L) (sent heard : List ℕ) →
      longest ≤ (options_of old).longest → (options_of old).echoes ≡ echoes → IsQuiet reads writes coming quiet_for old → Hears reads writes old sent heard new →
      IsOwnAnswer reads writes coming answer old sent heard × IsQuiet reads writes coming quiet_for new
  heard_own echoes single old new sent heard long gives_echo known hears =
      let calls = hears.calls in
      let sends = calls.sends in
      let still = quiet_first old sends.quiet long known sends.waits in
      let listens = calls.listens in
      let wants = goes_on (patience old sent) sent (echo_of (options_of old).echoes sent) in
      let came = came_of wants 0 calls.asked (line_of new) hears.bytes (silent_of new) listens.made listens.hearing in
      let all : answer sends.quiet sent ≡ hears.bytes ++ coming (line_of new) =
      sym (prompt.brought sends.quiet calls.asked sent sends.writes_once still) ∙ came in (
        record {
          quiet = sends.quiet;
          rest = coming (line_of new);
          none_under_way = still;
          front = heard_front old new sent heard long hears known;
        },
        record {
          nothing = λ is.
              single sends.quiet calls.asked sent hears.bytes (coming (line_of new)) sends.writes_once all
              (ap (λ e. answered sent (echo_of e sent ++ hears.bytes)) (sym gives_echo)
              ∙ ap (answered sent) (sym hears.hears) ∙ whole_by hears.known sent heard (sym hears.settles ∙ is));
          counted =
              silent_for wants 0 calls.asked (line_of new) hears.bytes (silent_of new) listens.made (omega arith) listens.hearing;
        },
      )

  pub exchange_own : (echoes : Bool) → OneReplies reads writes echoes answer → (old new : Port L) (sent heard : List ℕ) →
      longest ≤ (options_of old).longest → (options_of old).echoes ≡ echoes → IsQuiet reads writes coming quiet_for old → Gives reads writes old sent heard new →
      (IsOwnAnswer reads writes coming answer old sent heard ⊎ (heard ≡ [])) × IsQuiet reads writes coming quiet_for new
  exchange_own echoes single old new sent heard long gives_echo known gives = elim gives.goes [
    | inl hears ↦ let own = heard_own echoes single old new sent heard long gives_echo known hears in (inl own.0, own.1)
    | inr gave_up ↦ (
      inr gave_up.nothing,
      record {
        nothing = λ is. absurd (true≢false (sym is ∙ gave_up.unsettled));
        counted = subst (λ n. n ≤ quiet_for (line_of new)) (sym gave_up.anew) (omega arith);
      },
    )
  ]
