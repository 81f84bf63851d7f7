-- What the entries of a step show of a payment, newest first, is what each of them shows in turn.
use Rattle.std.proofs.Common.{◌≡◌, ℕ, ◌+◌, ◌<◌, ◌||◌, Bool, true, false, List, [], ◌∷◌, length, get_or, take, reverse, refl, sym, ap, ◌∙◌, if◌then◌else◌}
use Rattle.std.specs.List.{list_any}
use Rattle.std.proofs.lemmas.List.{reverse-append, take_more}
use Rattle.std.proofs.lemmas.List.Folds.{list_any-append}
use Rattle.cct_model.specs.lines.record.Record.{Record}
use Rattle.cct_model.specs.lines.record.Record.TheVariants as record_of
use Rattle.cct_model.specs.lines.entry.Entry.{Entry}
use Rattle.cct_model.specs.lines.entry.Entry.TheVariants as entry
use Rattle.cct_model.specs.declared.change.Payment.{Payment}
use Rattle.cct_model.specs.declared.change.Phase.TheVariants.{Begun, Opened, Lost}
use Rattle.cct_model.specs.Change.{closed_in, is_end_at, is_opening, phase_after}
use Rattle.cct_model.specs.Records.{records}
use Rattle.cct_host_change.specs.Seeing.{closed_by, closed_told, opens}

-- a test of some of these entries, in either order
or_comm : (a b : Bool) → (a || b) ≡ (b || a)
or_comm true true = refl
or_comm true false = refl
or_comm false true = refl
or_comm false false = refl

any_reversed : {X : Type 0} (p : X → Bool) (xs : List X) → list_any p (reverse xs) ≡ list_any p xs
any_reversed p [] = refl
any_reversed p (x ∷ xs) =
    ap (list_any p) (reverse-append (x ∷ []) xs) ∙ list_any-append p (reverse xs) (x ∷ [])
    ∙ ap (λ b. b || list_any p (x ∷ [])) (any_reversed p xs) ∙ or_comm (list_any p xs) (list_any p (x ∷ []))
    ∙ sym (list_any-append p (x ∷ []) xs)

-- the records that open the order are reported by entries that do
any_opens : (p : Payment) (es : List Entry) → list_any (is_opening p) (records es) ≡ list_any (opens p) es
any_opens p [] = refl
any_opens p (entry.Put r ∷ es) =
    list_any-append (is_opening p) (r ∷ []) (records es) ∙ ap (λ b. list_any (opens p) (entry.Put r ∷ []) || b) (any_opens p es)
    ∙ sym (list_any-append (opens p) (entry.Put r ∷ []) es)
any_opens p (entry.Kept r ∷ es) =
    list_any-append (is_opening p) (r ∷ []) (records es) ∙ ap (λ b. list_any (opens p) (entry.Kept r ∷ []) || b) (any_opens p es)
    ∙ sym (list_any-append (opens p) (entry.Kept r ∷ []) es)
any_opens p (e ∷ es) = any_opens p es ∙ sym (list_any-append (opens p) (e ∷ []) es)

-- what became of a payment whose job was to open its order
pub begun_is : (p : Payment) (report : List Entry) → phase_after p (reverse report) Begun
    ≡ (if list_any (opens p) report then Opened else if list_any (is_end_at p.addr) report then Lost else Begun)
begun_is p report =
    ap (λ b. if b then Opened else if list_any (is_end_at p.addr) (reverse report) then Lost else Begun)
    (any_opens p (reverse report) ∙ any_reversed (opens p) report)
    ∙ ap (λ b. if list_any (opens p) report then Opened else if b then Lost else Begun) (any_reversed (is_end_at p.addr) report)
