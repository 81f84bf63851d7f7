-- One life of a host: it begins over the records that it found, and goes on by a command, by a `next`, and by a balance.
use Rattle.std.proofs.Common.{◌≡◌, ℕ, ◌≤◌, true, List, [], ◌∷◌, ◌++◌, length, map, refl, ap, sym, subst, All}
use Rattle.std.proofs.lemmas.List.Elements.{All-append, All-cons, All-nil, All-weaker}
use Rattle.cct_model.specs.terms.wire.TheConstants.{MOST_HEARD}
use Rattle.cct_model.specs.terms.device.Setup.{Setup}
use Rattle.cct_model.specs.lines.command.Command.{Command}
use Rattle.cct_model.specs.lines.record.Record.{Record}
use Rattle.cct_model.specs.lines.entry.Entry.{Entry}
use Rattle.cct_model.specs.lines.entry.Entry.TheVariants as entry
use Rattle.cct_model.specs.Following.{all_follow}
use Rattle.cct_model.specs.Legal.{command_entry, EntriesOfNext}
use Rattle.cct_model.specs.Money.{totals}
use Rattle.cct_model.specs.Refusal.{refusal}
use Rattle.cct_model.specs.Script.{IsCommand}
use Rattle.cct_laws_live.specs.Life.{IsLife, IsLifeStep}
use Rattle.cct_laws_live.specs.Live.{IsShown, IsTellable, LiveEntries, LiveFrom, shown, started}
use Rattle.cct_laws_live.specs.LiveStep.{LiveStep}
use Rattle.cct_laws_live.specs.LiveStep as live
use Rattle.cct_laws_live.proofs.Followed.{followed_from}
use Rattle.cct_laws_live.proofs.Joining.{live_on}

-- it begins
pub life_begins : (capacity : ℕ) (setup : Setup) (found : List Record) → all_follow setup found ≡ true →
    IsLife capacity setup found [] (started found)
life_begins capacity setup found follow =
    record { follow = follow; steps_are = All-nil IsLifeStep; live = refl }

module _ (capacity : ℕ) (setup : Setup) (found : List Record) (steps : List LiveStep) (past : List Entry) where
  -- it goes on by steps, and by one
  pub life_on : (more : List LiveStep) (end : List Entry) → IsLife capacity setup found steps past → All IsLifeStep more →
      LiveFrom capacity setup past more end → IsLife capacity setup found (steps ++ more) end
  life_on more end life are told = record {
    follow = life.follow;
    steps_are = All-append IsLifeStep steps more life.steps_are are;
    live = live_on capacity setup steps more (started found) past end life.live told;
  }

  pub life_goes : (s : LiveStep) (news : List Entry) → IsLife capacity setup found steps past → IsLifeStep s →
      LiveEntries capacity setup past s news → IsLife capacity setup found (steps ++ s ∷ []) (news ++ past)
  life_goes s news life is told =
      life_on (s ∷ []) (news ++ past) life (All-cons IsLifeStep s [] is (All-nil IsLifeStep)) (news, told, refl)

  pub life_command : (c : Command) → IsLife capacity setup found steps past → IsCommand c →
      IsLife capacity setup found (steps ++ live.command c ∷ []) (command_entry c (refusal capacity setup past c) ∷ past)
  life_command c life is = life_goes (live.command c) (command_entry c (refusal capacity setup past c) ∷ []) life is refl

  pub life_next : (addr : ℕ) (heard : List ℕ) (news : List Entry) → IsLife capacity setup found steps past →
      length heard ≤ MOST_HEARD → EntriesOfNext (λ sent. heard) setup past addr news →
      IsLife capacity setup found (steps ++ live.next addr ∷ []) (news ++ past)
  life_next addr heard news life few told = life_goes (live.next addr) news life tt (heard, few, told)

  pub life_balance : IsLife capacity setup found steps past →
      IsLife capacity setup found (steps ++ live.balance ∷ []) (entry.Balance (totals setup past) ∷ past)
  life_balance life = life_goes live.balance (entry.Balance (totals setup past) ∷ []) life tt refl

-- its steps can be reported
tells : (s : LiveStep) → IsLifeStep s → IsTellable s
tells (live.command c) is = is
tells (live.next addr) is = tt
tells live.balance is = tt
tells (live.start at) is = absurd is

pub all_tell : (steps : List LiveStep) → All IsLifeStep steps → All IsTellable steps
all_tell steps all = All-weaker IsLifeStep IsTellable tells steps all

-- it is what a legal past shows that goes on from its start
puts_shown : (found : List Record) → shown (map (λ r. entry.Put r) found) ≡ map (λ r. entry.Put r) found
puts_shown [] = refl
puts_shown (r ∷ found) = ap (λ es. entry.Put r ∷ es) (puts_shown found)

pub start_shown : (found : List Record) → shown (started found) ≡ started found
start_shown found = ap (λ es. entry.Crash (length found) ∷ es) (puts_shown found)

pub life_shows : (capacity : ℕ) (setup : Setup) (found : List Record) (steps : List LiveStep) (past : List Entry) →
    IsLife capacity setup found steps past → IsShown capacity setup (started found) past
life_shows capacity setup found steps past life =
    followed_from capacity setup steps (started found) past (all_tell steps life.steps_are)
    (subst (λ es. LiveFrom capacity setup es steps past) (sym (start_shown found)) life.live)
