-- A `next` over a wire that gives what the caller heard is a step of his host.
use Rattle.std.proofs.Common.{◌≡◌, ◌≤◌, ℕ, List, [], ◌++◌, length, reverse, refl, sym, ◌∙◌, ap, subst, true, arith, Option, Some, None, Result, Ok, Err, OnErr, OnOk}
use Rattle.std.specs.Prelude.{is_some}
use Rattle.cct_model.specs.lines.entry.Entry.{Entry}
use Rattle.cct_model.specs.terms.wire.TheConstants.{MOST_HEARD}
use Rattle.cct_disk.specs.declared.disk.Disk.{Ghosts}
use Rattle.cct_disk.specs.Disk.{IsReady}
use Rattle.cct_disk_queue.specs.Calls.{bytes_in}
use Rattle.cct_disk_queue.specs.Queue.{Queue, Spent}
use Rattle.cct_host.specs.declared.host.Host.{Host}
use Rattle.cct_host.specs.Attempt.{Attempt, HeardBy, Links, asked, idle, news_of, put, sent_of}
use Rattle.cct_host.specs.Desks.{due_on, sending_on}
use Rattle.cct_host.specs.Held.{piece_of}
use Rattle.cct_host.specs.Host.{Nexts, disk_of}
use Rattle.cct_host.proofs.Alone.{due_alone}
use Rattle.cct_poll.specs.declared.canned.Canned.{Canned}
use Rattle.cct_poll.specs.Canned.{Gave}
use Rattle.cct_poll.specs.Steps.{Sends, Steps}

abbrev gives : Canned → List ℕ → List ℕ → Canned → Type 0
gives before sent heard after = Gave before.heard.now heard

heard_by : (old new : Canned) (what : Attempt) (heard : List ℕ) → Links gives old new what
    → length heard ≤ MOST_HEARD → old.heard.now ≡ heard → HeardBy (λ sent. heard) what
heard_by old new idle told links few is = tt
heard_by old new (asked sent heard end) told links few is = links (subst (λ (l : List ℕ). length l ≤ MOST_HEARD) (sym is) few) ∙ is
heard_by old new (put r end) told links few is = tt

some_same : (a b : List ℕ) → Some a ≡ Some b → a ≡ b
some_same a b is = cc

-- what was to be sent was sent
pub sends_it : (what : Attempt) (piece : List ℕ) → sent_of what ≡ Some piece → Sends piece what
sends_it idle piece is = absurd cc
sends_it (asked sent heard end) piece is = some_same sent piece is
sends_it (put r end) piece is = absurd cc

pub sends_none : (what : Attempt) → sent_of what ≡ None → Sends [] what
sends_none idle is = refl
sends_none (asked sent heard end) is = absurd cc
sends_none (put r end) is = refl

-- a step that sent this
pub steps_of : {D : Type 0} {g : Ghosts D} (old new : Canned) (addr : ℕ) (before after : Host D g)
    (report reported : List Entry) (piece heard : List ℕ) (nexts : Nexts gives old new addr before after report reported)
    → report ≡ [] → length heard ≤ MOST_HEARD → old.heard.now ≡ heard → Sends piece nexts.what
    → g.below (disk_of after) ≡ g.below (disk_of before) → Steps piece heard addr before after reported
steps_of old new addr before after report reported piece heard nexts empty few is sends same = record {
  what = nexts.what;
  told_is = nexts.reported_is ∙ ap (λ (l : List Entry). l ++ reverse (news_of addr nexts.what)) empty;
  sent_is = sends;
  goes = λ past stands suits. nexts.goes (λ sent. heard) past (heard_by old new nexts.what heard nexts.link few is) stands suits;
  part = same;
  moments = nexts.moments;
}

-- a disk on which no call is noted, and of which none failed, takes a put
pub settled_ready : (disk : Queue) → disk.calls ≡ [] → disk.faults ≡ 0 → IsReady Spent disk
settled_ready disk none unfailed = record {
  unfailed = unfailed;
  few = omega (arith, ap length none);
  short = omega (arith, ap bytes_in none);
}

none_there : {X : Type 0} (x : Option X) → is_some x ≡ true → x ≡ None → ⊥
none_there None some is = absurd cc
none_there (Some x) some is = absurd cc

-- where something is to be sent, no put fails
pub never_fails : {D : Type 0} {g : Ghosts D} (host : Host D g) (addr : ℕ) → is_some (sending_on host.desks addr) ≡ true
    → is_some (due_on host.desks addr) ≡ true → ⊥
never_fails host addr sends due = none_there (sending_on host.desks addr) sends (due_alone host.desks addr due)

pub if_done : {T E : Type 0} (result : Result T E) (P Q : Type 0) → OnOk result P → OnErr result Q → (Q → ⊥) → P
if_done (Ok done) P Q done_so failed never = done_so
if_done (Err why) P Q done_so failed never = absurd (never failed)

-- and a put sends nothing
pub put_sends : {D : Type 0} {g : Ghosts D} (old new : Canned) (addr : ℕ) (before after : Host D g)
    (report reported : List Entry) (nexts : Nexts gives old new addr before after report reported)
    → is_some (due_on before.desks addr) ≡ true → Sends [] nexts.what
put_sends old new addr before after report reported nexts due =
    sends_none nexts.what (nexts.sent_is ∙ ap piece_of (due_alone before.desks addr due))
