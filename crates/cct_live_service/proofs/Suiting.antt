-- Each `next` of a life suits its past.
use Rattle.std.proofs.Common.{◌≡◌, ◌≤◌, ◌-◌, ℕ, true, List, ◌∷◌, refl, Option, Some, None}
use Rattle.std.specs.Option.{IfSome}
use Rattle.cct_model.specs.terms.device.Setup.{Setup}
use Rattle.cct_model.specs.lines.record.Record.{Record}
use Rattle.cct_model.specs.lines.entry.Entry.{Entry}
use Rattle.cct_model.specs.Following.{all_follow, is_allowed}
use Rattle.cct_model.specs.Legal.{due_at}
use Rattle.cct_model.specs.Money.{freed_by, reserved_at_work}
use Rattle.cct_model.specs.Records.{records}
use Rattle.cct_model.specs.Setup.{IsSoundSetup}
use Rattle.cct_host.specs.Host.{PutSuits}
use Rattle.cct_host.proofs.Owned.{owns_its_put}
use Rattle.cct_laws_live.specs.Life.{IsLife}
use Rattle.cct_laws_live.specs.LiveStep.{LiveStep}
use Rattle.cct_laws_live.proofs.LifeBooks.{life_owned, life_taken, life_due_follow}

if_due : (due : Option Record) (P : Record → Type 0) → ((r : Record) → due ≡ Some r → P r) → IfSome due P
if_due None P is = tt
if_due (Some r) P is = is r refl

pub life_suits : (capacity : ℕ) (setup : Setup) (found : List Record) (steps : List LiveStep) (past : List Entry)
    (addr : ℕ) → IsSoundSetup setup → IsLife capacity setup found steps past → PutSuits setup past addr
life_suits capacity setup found steps past addr sound life = record {
  owned = owns_its_put setup past addr (life_owned capacity setup found steps past sound life);
  taken =
      if_due (due_at setup past addr)
      (λ r. (freed_by setup r ≤ reserved_at_work setup past)
      × (is_allowed setup (records past) (reserved_at_work setup past - freed_by setup r) r ≡ true))
      (life_taken capacity setup found steps past sound life addr);
  follow =
      if_due (due_at setup past addr) (λ r. all_follow setup (r ∷ records past) ≡ true)
      (life_due_follow capacity setup found steps past sound life addr);
}
