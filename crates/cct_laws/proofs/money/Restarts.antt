-- What a power cut leaves: no job runs, and the records are those before it, or these and the one that was due. So a host
-- restarts over them.
use Rattle.std.proofs.Common.{◌≡◌, ◌⊎◌, inl, inr, ℕ, ◌<◌, true, List, ◌++◌, refl, sym, subst, Option, Some, None}
use Rattle.std.specs.Option.{IfSome}
use Rattle.cct_model.specs.terms.device.Setup.{Setup}
use Rattle.cct_model.specs.lines.record.Record.{Record}
use Rattle.cct_model.specs.lines.command.CrashAt.{CrashAt}
use Rattle.cct_model.specs.lines.entry.Entry.{Entry}
use Rattle.cct_model.specs.Following.{follows}
use Rattle.cct_model.specs.Legal.{bare_restart, keeping_restart, RestartEntries, EntriesOfRestart, due_at}
use Rattle.cct_model.specs.Records.{records}
use Rattle.cct_laws.specs.Ids.{Ids}
use Rattle.cct_laws.specs.Recorded.{HasNoJob}
use Rattle.cct_laws.specs.Restart.{due_in, calls_in, RestartSuits}
use Rattle.cct_laws.proofs.money.Books.{Books}
use Rattle.cct_laws.proofs.money.Journal.{kept_due_follows}
use Rattle.cct_laws.proofs.money.FromRecordsAlone.{restart_frees}

-- the entries of a power cut: nothing was kept, or the record that was due was
pub data RestartLeaves (setup : Setup) (past : List Entry) (at : Option CrashAt) : List Entry → Type 0 where
  left_bare : RestartLeaves setup past at (bare_restart past)
  left_kept : (r : Record) → due_in setup past at ≡ Some r → RestartLeaves setup past at (keeping_restart past r)

left_by : (setup : Setup) (past : List Entry) (at : Option CrashAt) (calls : ℕ) (due : Option Record)
    (news : List Entry) → due_in setup past at ≡ due → RestartEntries past calls due news →
    RestartLeaves setup past at news
left_by setup past at calls None news is told = subst (RestartLeaves setup past at) (sym told) left_bare
left_by setup past at calls (Some r) news is (inl told) = subst (RestartLeaves setup past at) (sym told.1) left_bare
left_by setup past at calls (Some r) news is (inr told) =
    subst (RestartLeaves setup past at) (sym told.1) (left_kept r is)

pub restart_leaves : (setup : Setup) (past : List Entry) (at : Option CrashAt) (news : List Entry) →
    EntriesOfRestart setup past at news → RestartLeaves setup past at news
restart_leaves setup past None news told = subst (RestartLeaves setup past None) (sym told) left_bare
restart_leaves setup past (Some at) news told =
    left_by setup past (Some at) at.calls (due_at setup past at.addr) news refl told

-- nothing was kept, where nothing was due or the put hadn't made its last call
bare_by : (past : List Entry) (calls : ℕ) (due : Option Record) → (due ≡ None) ⊎ (calls < 4) →
    RestartEntries past calls due (bare_restart past)
bare_by past calls None why = refl
bare_by past calls (Some r) (inl none) = cc none
bare_by past calls (Some r) (inr early) = inl (early, refl)

pub restart_bare : (setup : Setup) (past : List Entry) (at : Option CrashAt) →
    (due_in setup past at ≡ None) ⊎ (calls_in at < 4) → EntriesOfRestart setup past at (bare_restart past)
restart_bare setup past None why = refl
restart_bare setup past (Some at) why = bare_by past at.calls (due_at setup past at.addr) why

-- the record that was due was kept, where its gate was written
pub restart_keeps : (setup : Setup) (past : List Entry) (at : Option CrashAt) (r : Record) →
    due_in setup past at ≡ Some r → 2 < calls_in at → EntriesOfRestart setup past at (keeping_restart past r)
restart_keeps setup past None r is late = cc is
restart_keeps setup past (Some at) r is late =
    subst (λ due. RestartEntries past at.calls due (keeping_restart past r)) (sym is) (inr (late, refl))

-- no job is at any address
frees_left : (setup : Setup) (past : List Entry) (at : Option CrashAt) (news : List Entry) →
    RestartLeaves setup past at news → HasNoJob (news ++ past)
frees_left setup past at _ left_bare = restart_frees (bare_restart past ++ past) tt
frees_left setup past at _ (left_kept r is) = restart_frees (keeping_restart past r ++ past) tt

pub entries_free : (setup : Setup) (past : List Entry) (at : Option CrashAt) (news : List Entry) →
    EntriesOfRestart setup past at news → HasNoJob (news ++ past)
entries_free setup past at news told = frees_left setup past at news (restart_leaves setup past at news told)

-- a past suits a restart where ids are in order and the books are kept
pub kept_restart_suits : (capacity : ℕ) (setup : Setup) (past : List Entry) (at : Option CrashAt) → Ids setup past →
    Books capacity setup past → RestartSuits setup past at
kept_restart_suits capacity setup past at ids books = record { follow = books.counts.follow; due = due_suits at }
  where
    each_suits : (due : Option Record) → ((r : Record) → due ≡ Some r → follows setup (records past) r ≡ true) →
        IfSome due (λ r. follows setup (records past) r ≡ true)
    each_suits None holds = tt
    each_suits (Some r) holds = holds r refl

    due_suits : (at : Option CrashAt) → IfSome (due_in setup past at) (λ r. follows setup (records past) r ≡ true)
    due_suits None = tt
    due_suits (Some at) =
        each_suits (due_at setup past at.addr) (λ r. kept_due_follows capacity setup past at.addr r ids books)
