-- What a legal step reports: what it brought, and after an exchange that was forged the entry that
-- shows so. And how a fact that each step keeps goes along all of them.
use Rattle.std.proofs.Common.{◌≡◌, ◌⊎◌, inl, inr, ℕ, Bool, true, false, cond, List, [], ◌∷◌, ◌++◌, refl, ap, sym, subst, Option, Some, None, All}
use Rattle.std.specs.Prelude.{⊤}
use Rattle.std.proofs.lemmas.List.Elements.{All-head, All-tail, All-nil, All-cons}
use Rattle.cct_model.specs.terms.device.DeviceSetup.{DeviceSetup}
use Rattle.cct_model.specs.terms.device.Setup.{Setup}
use Rattle.cct_model.specs.lines.command.Step.{Step}
use Rattle.cct_model.specs.lines.command.Step.TheVariants as step
use Rattle.cct_model.specs.lines.entry.End.{End}
use Rattle.cct_model.specs.lines.entry.Entry.{Entry}
use Rattle.cct_model.specs.lines.entry.Entry.TheVariants as entry
use Rattle.cct_model.specs.Honest.{is_honest, forged_after}
use Rattle.cct_model.specs.Legal.{with_end, Entries, LegalFrom}
use Rattle.cct_model.specs.Transcript.{met, pending}
use Rattle.cct_laws.proofs.jobs.StepBrings.{AtDevice, came, took, halted, idled, made_exchange, made_put, wire_end, record_end, poll_end, Brought, of_device, faulted, refused, began_scan, began_sale, nobody, polled, sold, balanced, of_desk, ended_short, lost_power, lost_in_put, lost_in_sale, told_of, brought, IsOfNoJob, came_of_no_job, desk_of_no_job}

-- an entry is no exchange, and reports none that was forged
abbrev pub TellsNoExchange : Entry → Type 0
TellsNoExchange (entry.Wire addr sent piece) = ⊥
TellsNoExchange (entry.Forged addr) = ⊥
TellsNoExchange e = ⊤

abbrev pub TellNoExchange : List Entry → Type 0
TellNoExchange [] = ⊤
TellNoExchange (e ∷ news) = TellsNoExchange e × TellNoExchange news

-- what a step brought makes no exchange; or it is a `next`, and makes one, which may end a job
pub data Makes : Step → List Entry → Type 0 where
  makes_none : (s : Step) (news : List Entry) → TellNoExchange news → Makes s news
  makes_one : (at addr : ℕ) (sent piece : List ℕ) (end : Option End) →
      Makes (step.Next at) (with_end addr (entry.Wire addr sent piece) end)

plain_end : (addr : ℕ) (e : Entry) (end : Option End) → TellsNoExchange e → TellNoExchange (with_end addr e end)
plain_end addr e None plain = (plain, tt)
plain_end addr e (Some end) plain = (tt, (plain, tt))

plain_of_no_job : (e : Entry) → IsOfNoJob e → TellsNoExchange e
plain_of_no_job (entry.Wire addr sent piece) is = is
plain_of_no_job (entry.Forged addr) is = is
plain_of_no_job e is = tt

makes_there : (capacity : ℕ) (setup : Setup) (d : DeviceSetup) (past news : List Entry) (s : Step) →
    AtDevice capacity setup d past s news → Makes s news
makes_there capacity setup d past _ _ (came s e m ls comes) =
    makes_none s (e ∷ []) (plain_of_no_job e (came_of_no_job d (met d past) s e m ls comes), tt)
makes_there capacity setup d past _ _ (took s c gives suited here is_free is_taken is_owed lets) = makes_none _ _ (tt, tt)
makes_there capacity setup d past _ _ (halted paying can) = makes_none _ _ (tt, tt)
makes_there capacity setup d past _ _ (idled is_free) = makes_none _ _ (tt, tt)
makes_there capacity setup d past _ _ (made_exchange c since q at_work is_row) =
    makes_one d.addr d.addr _ _ (wire_end setup d past c since q)
makes_there capacity setup d past _ _ (made_put c since r at_work is_row) =
    makes_none _ _ (plain_end d.addr (entry.Put r) (record_end d past c since r) tt)

pub makes : (capacity : ℕ) (setup : Setup) (past news : List Entry) (s : Step) → Brought capacity setup past s news →
    Makes s news
makes capacity setup past _ _ (of_device d s news own told) = makes_there capacity setup d past news s told
makes capacity setup past _ _ (faulted f) = makes_none _ _ (tt, tt)
makes capacity setup past _ _ (refused c why was) = makes_none _ _ (tt, tt)
makes capacity setup past _ _ (began_scan is_free) = makes_none _ _ (tt, tt)
makes capacity setup past _ _ (began_sale id price is_free lets) = makes_none _ _ (tt, tt)
makes capacity setup past _ _ (nobody addr none) = makes_none _ _ (tt, tt)
makes capacity setup past _ _ (polled c since check addr none is_job is_row) =
    makes_one 0 0 _ _ (poll_end setup past since check addr)
makes capacity setup past _ _ (sold id price since none selling) = makes_none _ _ (tt, (tt, tt))
makes capacity setup past _ _ balanced = makes_none _ _ (tt, tt)
makes capacity setup past _ _ (of_desk s e is) = makes_none _ _ (plain_of_no_job e (desk_of_no_job s e is), tt)
makes capacity setup past _ _ (ended_short addr id count why paid rest small range was) = makes_none _ _ (tt, (tt, tt))
makes capacity setup past _ _ (lost_power at choice) = makes_none _ _ (tt, tt)
makes capacity setup past _ _ (lost_in_put at choice d c since r own at_work is_row) = makes_none _ _ (tt, (tt, tt))
makes capacity setup past _ _ (lost_in_sale at choice id price since none selling) = makes_none _ _ (tt, (tt, tt))

-- nothing is reported after entries without an exchange
pub unforged : (past news : List Entry) → TellNoExchange news → forged_after past news ≡ []
unforged past [] plain = refl
unforged past (entry.Wire addr sent piece ∷ earlier) plain = absurd plain.0
unforged past (e ∷ earlier) plain = unforged past earlier plain.1

-- any others have one entry, or nothing
forged_by : (honest : Bool) (addr : ℕ) → (cond honest [] (entry.Forged addr ∷ []) ≡ []) ⊎
    ((other : ℕ) × (cond honest [] (entry.Forged addr ∷ []) ≡ entry.Forged other ∷ []))
forged_by true addr = inl refl
forged_by false addr = inr (addr, refl)

pub forged_or_not : (past told : List Entry) →
    (forged_after past told ≡ []) ⊎ ((addr : ℕ) × (forged_after past told ≡ entry.Forged addr ∷ []))
forged_or_not past [] = inl refl
forged_or_not past (entry.Wire addr sent piece ∷ earlier) = forged_by (is_honest (pending (earlier ++ past)) sent) addr
forged_or_not past (e ∷ earlier) = forged_or_not past earlier

-- what a legal step reports
pub record Telling (capacity : ℕ) (setup : Setup) (past : List Entry) (s : Step) (news : List Entry) : Type 0 where
  pub told : List Entry
  pub brings : Brought capacity setup past s told
  pub whole : news ≡ forged_after past told ++ told

-- a step that is no `next` makes no exchange
abbrev IsNoNext : Step → Type 0
IsNoNext (step.Next addr) = ⊥
IsNoNext s = ⊤

none_made : (s : Step) (news : List Entry) → IsNoNext s → Makes s news → TellNoExchange news
none_made _ _ other (makes_none s news plain) = plain
none_made _ _ other (makes_one at addr sent piece end) = absurd other

plain_whole : (past news : List Entry) → TellNoExchange news → news ≡ forged_after past news ++ news
plain_whole past news plain = sym (ap (λ front. front ++ news) (unforged past news plain))

told_whole : (capacity : ℕ) (setup : Setup) (past news : List Entry) (s : Step) →
    Entries capacity setup past s news → Makes s (told_of s news) → news ≡ forged_after past (told_of s news) ++ told_of s news
told_whole capacity setup past news (step.Next addr) entries made = entries.1
told_whole capacity setup past news s entries made = plain_whole past news (none_made s news tt made)

pub tells : (capacity : ℕ) (setup : Setup) (past news : List Entry) (s : Step) → Entries capacity setup past s news →
    Telling capacity setup past s news
tells capacity setup past news s entries =
    let brings = brought capacity setup past news s entries in
    record {
      told = told_of s news;
      brings = brings;
      whole = told_whole capacity setup past news s entries (makes capacity setup past (told_of s news) s brings);
    }

-- a fact goes on over an entry that reports a forged exchange
abbrev pub GoesOverForged : (List Entry → Type 0) → Type 0
GoesOverForged Q = (past : List Entry) (addr : ℕ) → Q past → Q (entry.Forged addr ∷ past)

-- so what holds of the entries that a step brought holds of all that it reports
pub over_telling : (capacity : ℕ) (setup : Setup) (past news : List Entry) (s : Step) (Q : List Entry → Type 0) →
    GoesOverForged Q → (told : Telling capacity setup past s news) → Q told.told → Q news
over_telling capacity setup past news s Q over told holds =
    subst Q (sym told.whole) (elim (forged_or_not past told.told) [
      | inl none ↦ subst (λ front. Q (front ++ told.told)) (sym none) holds
      | inr one ↦ subst (λ front. Q (front ++ told.told)) (sym one.1) (over told.told one.0 holds)
    ])

-- a fact that each step keeps, each of which has a fact of its own
pub each_step : (capacity : ℕ) (setup : Setup) (S : Step → Type 0) (Q : List Entry → Type 0) →
    ((past news : List Entry) (s : Step) → S s → Telling capacity setup past s news → Q past → Q (news ++ past)) →
    (past : List Entry) (steps : List Step) (end : List Entry) → All S steps →
    LegalFrom capacity setup past steps end → Q past → Q end
each_step capacity setup S Q keeps past [] end each legal holds = subst Q (sym legal) holds
each_step capacity setup S Q keeps past (s ∷ steps) end each legal holds =
    each_step capacity setup S Q keeps (legal.0 ++ past) steps end (All-tail S s steps each) legal.2
    (keeps past legal.0 s (All-head S s steps each) (tells capacity setup past legal.0 s legal.1) holds)

-- so it is enough that each keeps it by what it brought, and that it goes on over an entry that
-- reports a forged exchange
pub each_brought : (capacity : ℕ) (setup : Setup) (S : Step → Type 0) (Q : List Entry → Type 0) →
    ((past news : List Entry) (s : Step) → S s → Brought capacity setup past s news → Q past → Q (news ++ past)) →
    GoesOverForged Q → (past : List Entry) (steps : List Step) (end : List Entry) → All S steps →
    LegalFrom capacity setup past steps end → Q past → Q end
each_brought capacity setup S Q keeps over =
    each_step capacity setup S Q (λ past news s is told holds.
    over_telling capacity setup past news s (λ es. Q (es ++ past)) (λ older addr. over (older ++ past) addr) told
    (keeps past told.told s is told.brings holds))

pub any_steps : (steps : List Step) → All (λ s. ⊤) steps
any_steps [] = All-nil (λ s. ⊤)
any_steps (s ∷ steps) = All-cons (λ s. ⊤) s steps tt (any_steps steps)
