-- Entries that go onto a past, and what is legal of one step more.
use Rattle.std.proofs.Common.{◌≡◌, ℕ, ◌+◌, ◌<◌, List, [], ◌∷◌, ◌++◌, length, get_or, take, reverse, ap, sym, ◌∙◌}
use Rattle.std.proofs.Common.{subst, append_assoc, refl, add-one, All}
use Rattle.std.proofs.lemmas.List.Elements.{All-head, All-tail, All-nil, All-cons}
use Rattle.std.proofs.Math.Seq.{take-suc}
use Rattle.cct_model.specs.terms.device.Setup.{Setup}
use Rattle.cct_model.specs.lines.command.Step.{Step}
use Rattle.cct_model.specs.lines.entry.Entry.{Entry}
use Rattle.cct_model.specs.Legal.{Entries, Legal, LegalFrom}
use Rattle.cct_model.specs.Transcript.{onto}
use Rattle.cct_laws.specs.Law.{EachEntry}

-- some go onto it, and then more
pub onto-append : (past xs ys : List Entry) → onto past (xs ++ ys) ≡ onto (onto past xs) ys
onto-append past [] ys = refl
onto-append past (x ∷ xs) ys = onto-append (x ∷ past) xs ys

-- the last of them stands first
pub onto_is : (past xs : List Entry) → onto past xs ≡ reverse xs ++ past
onto_is past [] = refl
onto_is past (x ∷ xs) =
    onto_is (x ∷ past) xs ∙ (sym (append_assoc (reverse xs) (x ∷ []) past)
    ∙ ap (λ ys. ys ++ past) (sym (onto_is (x ∷ []) xs)))

-- one more of them
pub onto_next : (past xs : List Entry) (i : ℕ) (e : Entry) → i < length xs → e ≡ get_or xs i e
    → onto past (take (i + 1) xs) ≡ e ∷ onto past (take i xs)
onto_next past xs i e within is =
    let more : take (i + 1) xs ≡ take i xs ++ get_or xs i e ∷ [] = rw add-one (take-suc xs i e within) in
    ap (onto past) more ∙ onto-append past (take i xs) (get_or xs i e ∷ [])
    ∙ ap (λ x. x ∷ onto past (take i xs)) (sym is)

-- a fact of each entry of a past and of those that go onto it
pub onto_each : (P : Entry → Type 0) (past entries : List Entry) → EachEntry (λ older e. P e) (onto past entries) →
    EachEntry (λ older e. P e) past × All P entries
onto_each P past [] each = (each, All-nil P)
onto_each P past (e ∷ entries) each =
    let both = onto_each P (e ∷ past) entries each in (both.0.1, All-cons P e entries both.0.0 both.1)

pub each_onto : (P : Entry → Type 0) (past entries : List Entry) → EachEntry (λ older e. P e) past → All P entries →
    EachEntry (λ older e. P e) (onto past entries)
each_onto P past [] before all = before
each_onto P past (e ∷ entries) before all =
    each_onto P (e ∷ past) entries (All-head P e entries all, before) (All-tail P e entries all)

-- a transcript and the entries of one step more
pub transcript_on : (transcript report : List Entry)
    → onto [] (transcript ++ report) ≡ reverse report ++ onto [] transcript
transcript_on transcript report = onto-append [] transcript report ∙ onto_is (onto [] transcript) report

-- steps leave a past as it is, and add to it
pub grown : (capacity : ℕ) (setup : Setup) (past : List Entry) (steps : List Step) (end : List Entry) →
    LegalFrom capacity setup past steps end → (more : List Entry) × (end ≡ more ++ past)
grown capacity setup past [] end legal = ([], legal)
grown capacity setup past (s ∷ steps) end legal =
    let later = grown capacity setup (legal.0 ++ past) steps end legal.2 in
    (later.0 ++ legal.0, later.1 ∙ sym (append_assoc later.0 legal.0 past))

-- a legal past, and one step more
pub legal_from : (capacity : ℕ) (setup : Setup) (past : List Entry) (steps : List Step) (end : List Entry) (s : Step)
    (news : List Entry) → LegalFrom capacity setup past steps end → Entries capacity setup end s news
    → LegalFrom capacity setup past (steps ++ s ∷ []) (news ++ end)
legal_from capacity setup past [] end s news h e =
    (news, subst (λ before. Entries capacity setup before s news) h e, ap (λ before. news ++ before) h)
legal_from capacity setup past (x ∷ steps) end s news h e =
    (h.0, h.1, legal_from capacity setup (h.0 ++ past) steps end s news h.2 e)

-- a legal transcript, and one step more
pub legal_more : (capacity : ℕ) (setup : Setup) (played : List Step) (transcript report : List Entry) (s : Step)
    → Legal capacity setup played transcript
    → Entries capacity setup (onto [] transcript) s (reverse report)
    → Legal capacity setup (played ++ s ∷ []) (transcript ++ report)
legal_more capacity setup played transcript report s h e =
    subst (LegalFrom capacity setup [] (played ++ s ∷ [])) (sym (transcript_on transcript report))
    (legal_from capacity setup [] played (onto [] transcript) s (reverse report) h e)
