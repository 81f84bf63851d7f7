-- All lives are one: a life over the records that earlier ones left is also one after all that
-- these reported.
use Rattle.std.proofs.Common.{◌≡◌, ℕ, List, [], ◌∷◌, ◌++◌, map, refl, sym, ap, ◌∙◌, subst, Option, append_assoc}
use Rattle.cct_model.specs.terms.device.Setup.{Setup}
use Rattle.cct_model.specs.lines.command.CrashAt.{CrashAt}
use Rattle.cct_model.specs.lines.record.Record.{Record}
use Rattle.cct_model.specs.lines.entry.Entry.{Entry}
use Rattle.cct_model.specs.lines.entry.Entry.TheVariants as entry
use Rattle.cct_model.specs.Legal.{command_entry, EntriesOfRestart}
use Rattle.cct_model.specs.Records.{records}
use Rattle.cct_laws.specs.Recorded.{HasNoJob}
use Rattle.cct_laws.proofs.money.Restarts.{entries_free}
use Rattle.cct_laws_live.specs.LiveStep.{LiveStep}
use Rattle.cct_laws_live.specs.LiveStep as live
use Rattle.cct_laws_live.specs.Live.{GoesOnAs, IsOneWith, LiveEntries, LiveFrom, started}
use Rattle.cct_laws_live.proofs.Alike.{Alike, alike_entry}
use Rattle.cct_laws_live.proofs.Onward.{totals_same, refusal_same, restart_over, next_over}

-- a past goes on by the entries by which a like one does
entries_over : (capacity : ℕ) (setup : Setup) (past other news : List Entry) (s : LiveStep) → Alike past other →
    LiveEntries capacity setup past s news → LiveEntries capacity setup other s news
entries_over capacity setup past other news (live.command c) alike is =
    subst (λ why. news ≡ command_entry c why ∷ []) (refusal_same capacity setup past other c alike) is
entries_over capacity setup past other news (live.next addr) alike is =
    (is.0, is.1, next_over (λ sent. is.0) setup past other news addr alike is.2)
entries_over capacity setup past other news live.balance alike is =
    subst (λ t. news ≡ entry.Balance t ∷ []) (totals_same setup past other alike) is
entries_over capacity setup past other news (live.start at) alike is = restart_over setup past other news at alike is

alike_on : (news past other : List Entry) → Alike past other → Alike (news ++ past) (news ++ other)
alike_on [] past other alike = alike
alike_on (e ∷ news) past other alike = alike_entry (news ++ past) (news ++ other) e (alike_on news past other alike)

pub live_over : (capacity : ℕ) (setup : Setup) (steps : List LiveStep) (past other end : List Entry) → Alike past other →
    LiveFrom capacity setup past steps end → GoesOnAs capacity setup past steps end other
live_over capacity setup [] past other end alike is = record { told = []; ends = is; goes = refl }
live_over capacity setup (s ∷ steps) past other end alike is =
    let rest = live_over capacity setup steps (is.0 ++ past) (is.0 ++ other) end (alike_on is.0 past other alike) is.2 in
    record {
      told = rest.told ++ is.0;
      ends = rest.ends ∙ sym (append_assoc rest.told is.0 past);
      goes = (
        is.0,
        entries_over capacity setup past other is.0 s alike is.1,
        subst (LiveFrom capacity setup (is.0 ++ other) steps) (sym (append_assoc rest.told is.0 other)) rest.goes,
      );
    }

-- a host that starts over the records of a past without a job is as after that past
pub put_again : (before : List Record) → records (map (λ r. entry.Put r) before) ≡ before
put_again [] = refl
put_again (r ∷ before) = ap (λ rs. r ∷ rs) (put_again before)

pub alike_started : (past : List Entry) → HasNoJob past → Alike (started (records past)) past
alike_started past none = record {
  recorded = put_again (records past);
  devices = λ d. sym (none.devices d);
  scan = sym none.scan;
  sale = sym none.sale;
}

pub lives_join : (capacity : ℕ) (setup : Setup) (past news : List Entry) (at : Option CrashAt) (steps : List LiveStep)
    (end : List Entry) → EntriesOfRestart setup past at news →
    LiveFrom capacity setup (started (records (news ++ past))) steps end →
    GoesOnAs capacity setup (started (records (news ++ past))) steps end (news ++ past)
lives_join capacity setup past news at steps end restarted is =
    live_over capacity setup steps (started (records (news ++ past))) (news ++ past) end
    (alike_started (news ++ past) (entries_free setup past at news restarted)) is

-- live hosts go on, so all that was reported is reported by live ones
pub live_on : (capacity : ℕ) (setup : Setup) (lived steps : List LiveStep) (past middle end : List Entry) →
    LiveFrom capacity setup past lived middle → LiveFrom capacity setup middle steps end →
    LiveFrom capacity setup past (lived ++ steps) end
live_on capacity setup [] steps past middle end first second =
    subst (λ es. LiveFrom capacity setup es steps end) first second
live_on capacity setup (s ∷ lived) steps past middle end first second =
    (first.0, first.1, live_on capacity setup lived steps (first.0 ++ past) middle end first.2 second)

pub lives_whole : (capacity : ℕ) (setup : Setup) (lived : List LiveStep) (past news : List Entry) (at : Option CrashAt)
    (steps : List LiveStep) (end : List Entry) → LiveFrom capacity setup [] lived past → EntriesOfRestart setup past at news →
    LiveFrom capacity setup (started (records (news ++ past))) steps end →
    IsOneWith capacity setup lived past news at steps end
lives_whole capacity setup lived past news at steps end first restarted is =
    let on = lives_join capacity setup past news at steps end restarted is in
    record {
      told = on.told;
      ends = on.ends;
      live =
          live_on capacity setup lived (live.start at ∷ steps) [] past (on.told ++ (news ++ past)) first
          (news, restarted, on.goes);
    }
