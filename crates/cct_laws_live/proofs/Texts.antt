-- The text of a live transcript in bytes shows it.
use Rattle.std.proofs.Common.{◌≡◌, ℕ, List, [], ◌∷◌, reverse, sym, subst, All}
use Rattle.std.proofs.lemmas.List.Elements.{All-nil, All-cons}
use Rattle.cct_model.specs.terms.device.Setup.{Setup}
use Rattle.cct_model.specs.lines.entry.Entry.{Entry}
use Rattle.cct_model.specs.Legal.{LegalFrom}
use Rattle.cct_model.specs.Setup.{IsSoundSetup}
use Rattle.cct_model.specs.Text.{text}
use Rattle.cct_model.specs.Transcript.{onto}
use Rattle.cct_text.specs.Written.{IsWritten}
use Rattle.cct_text.proofs.Whole.{text_is_one}
use Rattle.cct_laws.specs.Law.{EachEntry}
use Rattle.cct_laws.proofs.steps.OneMore.{each_onto, onto_each}
use Rattle.cct_laws.proofs.text.Texts.{legal_written}
use Rattle.cct_laws_live.specs.LiveStep.{LiveStep}
use Rattle.cct_laws_live.specs.Texts.{HearsBytes, IsInBytes}
use Rattle.cct_laws_live.proofs.Carrying.{each_shown, whole}
use Rattle.cct_laws_live.proofs.Followed.{follows_from}

pub all_of : (P : Entry → Type 0) (es : List Entry) → EachEntry (λ older e. P e) es → All P es
all_of P [] each = All-nil P
all_of P (e ∷ es) each = All-cons P e es each.0 (all_of P es each.1)

-- every entry of a live transcript in bytes is written
pub live_written : (capacity : ℕ) (setup : Setup) (steps : List LiveStep) (transcript : List Entry) →
    IsSoundSetup setup → IsInBytes capacity setup steps transcript → All IsWritten transcript
live_written capacity setup steps transcript sound is =
    let by = follows_from capacity setup steps [] (onto [] transcript) is.steps_are is.live in
    let heard : All HearsBytes (onto [] transcript) = all_of HearsBytes (onto [] transcript) (each_onto HearsBytes [] transcript tt is.heard) in
    let all =
    legal_written capacity setup by.steps (reverse by.past) sound by.in_range (by.bytes is.said heard)
    (subst (LegalFrom capacity setup [] by.steps) (sym (whole by.past)) by.legal) in
    let each = subst (EachEntry (λ older e. IsWritten e)) (whole by.past) (each_onto IsWritten [] (reverse by.past) tt all) in
    (onto_each IsWritten [] transcript
    (subst (EachEntry (λ older e. IsWritten e)) by.shows (each_shown (λ older e. IsWritten e) (λ past e is. is) by.past each))).1

pub live_text : (capacity room : ℕ) (setup : Setup) (steps others : List LiveStep) (first second : List Entry) →
    IsSoundSetup setup → IsInBytes capacity setup steps first → IsInBytes room setup others second →
    text first ≡ text second → first ≡ second
live_text capacity room setup steps others first second sound one other same =
    text_is_one first second (live_written capacity setup steps first sound one)
    (live_written room setup others second sound other) same
