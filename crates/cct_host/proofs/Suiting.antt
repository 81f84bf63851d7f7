-- Every legal past suits what a host takes for granted of it.
use Rattle.std.proofs.Common.{◌≡◌, ◌≤◌, ◌-◌, ◌∙◌, ℕ, true, List, [], ◌∷◌, ap, refl, Option, Some, None}
use Rattle.std.specs.Option.{IfSome}
use Rattle.cct_model.specs.terms.device.Setup.{Setup}
use Rattle.cct_model.specs.lines.command.CrashAt.{CrashAt}
use Rattle.cct_model.specs.lines.record.Record.{Record}
use Rattle.cct_model.specs.lines.entry.Entry.{Entry}
use Rattle.cct_model.specs.Following.{all_follow, follows, is_allowed}
use Rattle.cct_model.specs.Legal.{due_at}
use Rattle.cct_model.specs.Money.{freed_by, reserved_at_work}
use Rattle.cct_model.specs.Records.{hopper_of, records}
use Rattle.cct_model.specs.Transcript.{onto}
use Rattle.cct_laws.specs.Ids.{Ids}
use Rattle.cct_laws.specs.Restart.{RestartSuits}
use Rattle.cct_laws.specs.Scope.{EachTranscript}
use Rattle.cct_laws.proofs.money.Books.{Books, books_legal}
use Rattle.cct_laws.proofs.money.Journal.{kept_due_allowed}
use Rattle.cct_laws.proofs.money.Restarts.{kept_restart_suits}
use Rattle.cct_host.specs.Host.{PutSuits}
use Rattle.cct_host.proofs.Owned.{AreOwned, owns_its_put}

pub if_due : (due : Option Record) (P : Record → Type 0) → ((r : Record) → due ≡ Some r → P r) → IfSome due P
if_due None P is = tt
if_due (Some r) P is = is r refl

-- records that follow, with the one that is due
follow_with : (setup : Setup) (before : List Record) (due : Option Record) → all_follow setup before ≡ true
    → IfSome due (λ r. follows setup before r ≡ true) → IfSome due (λ r. all_follow setup (r ∷ before) ≡ true)
follow_with setup before None all follow = tt
follow_with setup before (Some r) all follow = rw follow all

-- where ids are in order and the books are kept; each open order is the one that was opened last with its id, at its own
-- hopper, so an order that a put closes is its own address's
owned_by : (setup : Setup) (past : List Entry) → Ids setup past → AreOwned setup past
owned_by setup past ids d there o is = let own = ids.owned d o there is in ap hopper_of own.0 ∙ own.1

pub kept_put_suits : (capacity : ℕ) (setup : Setup) (past : List Entry) (addr : ℕ) → Ids setup past
    → Books capacity setup past → PutSuits setup past addr
kept_put_suits capacity setup past addr ids books =
    let so = kept_restart_suits capacity setup past (Some (record { addr = addr; calls = 0 })) ids books in
    record {
      owned = owns_its_put setup past addr (owned_by setup past ids);
      taken =
          if_due (due_at setup past addr)
          (λ r. (freed_by setup r ≤ reserved_at_work setup past)
          × (is_allowed setup (records past) (reserved_at_work setup past - freed_by setup r) r ≡ true))
          (λ r. kept_due_allowed capacity setup past addr r ids books);
      follow = follow_with setup (records past) (due_at setup past addr) so.follow so.due;
    }

-- and so they are in every legal past
pub legal_put_suits : EachTranscript (λ capacity setup transcript. (addr : ℕ)
    → PutSuits setup (onto [] transcript) addr)
legal_put_suits capacity setup steps transcript sound in_range legal addr =
    let kept = books_legal capacity setup steps (onto [] transcript) sound in_range legal in
    kept_put_suits capacity setup (onto [] transcript) addr kept.0 kept.1

pub legal_restart_suits : EachTranscript (λ capacity setup transcript. (at : Option CrashAt)
    → RestartSuits setup (onto [] transcript) at)
legal_restart_suits capacity setup steps transcript sound in_range legal at =
    let kept = books_legal capacity setup steps (onto [] transcript) sound in_range legal in
    kept_restart_suits capacity setup (onto [] transcript) at kept.0 kept.1
