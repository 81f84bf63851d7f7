-- A world goes on along a chain of exchanges.
use Rattle.std.proofs.Common.{◌≡◌, ℕ, ◌≤◌, Bool, List, ◌∷◌, ◌++◌, refl, sym, ap, ◌∙◌, subst, Option, Result}
use Rattle.cct_edge.specs.declared.fault.Failed.{Failed}
use Rattle.cct_model.specs.terms.device.Setup.{Setup}
use Rattle.cct_model.specs.lines.entry.Entry.{Entry}
use Rattle.cct_model.specs.lines.entry.Entry.TheVariants as entry
use Rattle.cct_model.specs.Setup.{IsSoundSetup}
use Rattle.cct_live_port.specs.declared.port.Port.{Port}
use Rattle.cct_live_port.specs.Port.{Gives, line_of, options_of}
use Rattle.cct_laws_live_devices.specs.Asked.{Moment}
use Rattle.cct_laws_live_devices.specs.Chain.{Chain, gave_question, gave_told, not_begun, told_besides}
use Rattle.cct_laws_live_devices.specs.Prompt.{IsPrompt, IsQuiet, OneReplies}
use Rattle.cct_laws_live_devices.proofs.Prompting.{exchange_own}
use Rattle.cct_laws_live_devices.specs.Devices.{IsModelled}
use Rattle.cct_laws_live_devices.specs.Explained.{IsExplained}
use Rattle.cct_laws_live_devices.proofs.Exchanging.{asked_exchange, told_exchange}
use Rattle.cct_laws_live_devices.proofs.Explaining.{explained_befell, explained_besides}
use Rattle.cct_laws_live_devices.proofs.Giving.{gives_exchange}
use Rattle.cct_laws_live_devices.proofs.Single.{one_replies}
use Rattle.cct_laws_live_devices.proofs.Sending.{AllAsked}

module _ {L : Type 0} (reads : L → Option (List ℕ) → L → Type 0) (writes : L → List ℕ → Result (Unit {0}) Failed → L → Type 0)
    (setup : Setup) (echoes : Bool) (longest : ℕ) (coming : L → List ℕ) (silent : L → ℕ) (answer : L → List ℕ → List ℕ)
    (history : L → List Moment) (prompt : IsPrompt reads writes longest coming silent answer)
    (modelled : IsModelled reads writes setup echoes answer history) (sound : IsSoundSetup setup) where
  single : OneReplies reads writes echoes answer
  single = one_replies reads writes setup echoes answer history modelled sound

  pub record GoesOn (first last : Port L) (past : List Entry) : Type 0 where
    pub options : options_of last ≡ options_of first
    pub quiet : IsQuiet reads writes coming silent last
    pub explained : IsExplained setup (history (line_of last)) past

  pub chain_explained : (first last : Port L) (before told : List Entry) → longest ≤ (options_of first).longest →
      (options_of first).echoes ≡ echoes → IsQuiet reads writes coming silent first → AllAsked told →
      Chain (Gives reads writes) first told last → IsExplained setup (history (line_of first)) before →
      GoesOn first last (told ++ before)
  chain_explained first _ before _ long gives_echo quiet asked not_begun x =
      record { options = refl; quiet = quiet; explained = x }
  chain_explained first _ before _ long gives_echo quiet asked (gave_told past addr sent heard line next goes given) x =
      let so_far = chain_explained first line before past long gives_echo quiet asked.1 goes x in
      let still_long : longest ≤ (options_of line).longest = subst (λ o. longest ≤ o.longest) (sym so_far.options) long in
      let still_echo : (options_of line).echoes ≡ echoes = ap (λ o. o.echoes) so_far.options ∙ gives_echo in
      let one =
      gives_exchange reads writes setup echoes answer history modelled longest coming silent prompt line next sent heard still_long
      still_echo so_far.quiet given in
      record {
        options = given.options ∙ so_far.options;
        quiet =
            (exchange_own reads writes longest coming silent answer prompt echoes single line next sent heard still_long still_echo
            so_far.quiet given).1;
        explained =
            explained_befell setup one.second (history (line_of next)) (entry.Wire addr sent heard ∷ past ++ before) one.later
            (told_exchange setup one.first (past ++ before) addr sent heard one.second sound given.few asked.0 one.happened
            (explained_befell setup (history (line_of line)) one.first (past ++ before) one.earlier so_far.explained));
      }
  chain_explained first last before _ long gives_echo quiet asked (told_besides past e line goes is) x =
      let so_far = chain_explained first line before past long gives_echo quiet asked.1 goes x in
      record {
        options = so_far.options;
        quiet = so_far.quiet;
        explained = explained_besides setup (history (line_of line)) (past ++ before) e is so_far.explained;
      }
  chain_explained first _ before told long gives_echo quiet asked (gave_question past sent heard line next goes question given) x =
      let so_far = chain_explained first line before told long gives_echo quiet asked goes x in
      let still_long : longest ≤ (options_of line).longest = subst (λ o. longest ≤ o.longest) (sym so_far.options) long in
      let still_echo : (options_of line).echoes ≡ echoes = ap (λ o. o.echoes) so_far.options ∙ gives_echo in
      let one =
      gives_exchange reads writes setup echoes answer history modelled longest coming silent prompt line next sent heard still_long
      still_echo so_far.quiet given in
      record {
        options = given.options ∙ so_far.options;
        quiet =
            (exchange_own reads writes longest coming silent answer prompt echoes single line next sent heard still_long still_echo
            so_far.quiet given).1;
        explained =
            explained_befell setup one.second (history (line_of next)) (told ++ before) one.later
            (asked_exchange setup one.first (told ++ before) sent heard one.second question one.happened
            (explained_befell setup (history (line_of line)) one.first (told ++ before) one.earlier so_far.explained));
      }
