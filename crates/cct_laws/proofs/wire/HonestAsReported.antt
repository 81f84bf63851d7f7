-- A legal transcript shows an honest wire exactly if no entry of it reports a forged exchange.
use Rattle.std.proofs.Common.{◌≡◌, ℕ, Bool, true, false, cond, List, [], ◌∷◌, ◌++◌, refl, sym, ◌∙◌, subst, Option, Some, None}
use Rattle.std.specs.Prelude.{◌↔◌, ⊤}
use Rattle.std.proofs.lemmas.Bool.{true≢false}
use Rattle.cct_model.specs.terms.device.Setup.{Setup}
use Rattle.cct_model.specs.lines.command.Step.{Step}
use Rattle.cct_model.specs.lines.entry.End.{End}
use Rattle.cct_model.specs.lines.entry.Entry.{Entry}
use Rattle.cct_model.specs.lines.entry.Entry.TheVariants as entry
use Rattle.cct_model.specs.Honest.{is_honest, Honest, HonestPast, forged_after, IsUnforged, IsAllUnforged}
use Rattle.cct_model.specs.Legal.{with_end, Legal}
use Rattle.cct_model.specs.Transcript.{pending, onto}
use Rattle.cct_laws.specs.Law.{EachEntry}
use Rattle.cct_laws.proofs.steps.OneMore.{onto_each, each_onto}
use Rattle.cct_laws.proofs.jobs.EntriesOfStep.{TellNoExchange, Makes, makes_none, makes_one, makes, unforged, Telling, each_step, any_steps}

-- no entry of a past reports a forged exchange
abbrev UnforgedPast : List Entry → Type 0
UnforgedPast past = EachEntry (λ older e. IsUnforged e) past

-- a past shows an honest wire exactly if none does
abbrev IsAsTold : List Entry → Type 0
IsAsTold past = HonestPast past ↔ UnforgedPast past

-- entries without an exchange
plain_told : (news past : List Entry) → TellNoExchange news → IsAsTold past → IsAsTold (news ++ past)
plain_told [] past plain told = told
plain_told (entry.Wire addr sent piece ∷ news) past plain told = absurd plain.0
plain_told (entry.Forged addr ∷ news) past plain told = absurd plain.0
plain_told (e ∷ news) past plain told =
    let before = plain_told news past plain.1 told in
    (λ honest. (tt, before.0 honest.1), λ unforged. (tt, before.1 unforged.1))

-- an exchange: what is reported after it, and its end, if it brought one
forged_end : (past : List Entry) (addr : ℕ) (sent piece : List ℕ) (end : Option End) →
    forged_after past (with_end addr (entry.Wire addr sent piece) end)
    ≡ cond (is_honest (pending past) sent) [] (entry.Forged addr ∷ [])
forged_end past addr sent piece None = refl
forged_end past addr sent piece (Some end) = refl

wire_told : (past : List Entry) (addr : ℕ) (sent piece : List ℕ) (end : Option End) (honest : Bool) →
    is_honest (pending past) sent ≡ honest → IsAsTold past →
    IsAsTold ((cond honest [] (entry.Forged addr ∷ []) ++ with_end addr (entry.Wire addr sent piece) end) ++ past)
wire_told past addr sent piece None true test told =
    (λ honest. (tt, told.0 honest.1), λ unforged. (test, told.1 unforged.1))
wire_told past addr sent piece (Some end) true test told =
    (λ honest. (tt, (tt, told.0 honest.1.1)), λ unforged. (tt, (test, told.1 unforged.1.1)))
wire_told past addr sent piece None false test told =
    (λ honest. absurd (true≢false (sym honest.1.0 ∙ test)), λ unforged. absurd unforged.0)
wire_told past addr sent piece (Some end) false test told =
    (λ honest. absurd (true≢false (sym honest.1.1.0 ∙ test)), λ unforged. absurd unforged.0)

-- all that a step reports
made_told : (past news : List Entry) (s : Step) → Makes s news → IsAsTold past →
    IsAsTold ((forged_after past news ++ news) ++ past)
made_told past _ _ (makes_none s news plain) told =
    subst (λ front. IsAsTold ((front ++ news) ++ past)) (sym (unforged past news plain)) (plain_told news past plain told)
made_told past _ _ (makes_one at addr sent piece end) told =
    subst (λ front. IsAsTold ((front ++ with_end addr (entry.Wire addr sent piece) end) ++ past))
    (sym (forged_end past addr sent piece end))
    (wire_told past addr sent piece end (is_honest (pending past) sent) refl told)

step_told : (capacity : ℕ) (setup : Setup) (past news : List Entry) (s : Step) → ⊤ →
    Telling capacity setup past s news → IsAsTold past → IsAsTold (news ++ past)
step_told capacity setup past news s any told before =
    subst (λ es. IsAsTold (es ++ past)) (sym told.whole)
    (made_told past told.told s (makes capacity setup past told.told s told.brings) before)

pub legal_as_told : (capacity : ℕ) (setup : Setup) (steps : List Step) (transcript : List Entry) →
    Legal capacity setup steps transcript →
    (Honest transcript ↔ IsAllUnforged transcript)
legal_as_told capacity setup steps transcript legal =
    let told = each_step capacity setup (λ s. ⊤) IsAsTold (step_told capacity setup) [] steps (onto [] transcript)
    (any_steps steps) legal (λ honest. tt, λ unforged. tt) in (
      λ honest. (onto_each IsUnforged [] transcript (told.0 honest)).1,
      λ unforged. told.1 (each_onto IsUnforged [] transcript tt unforged),
    )
