-- How a host stands is reported as it is, one part of what is reported after another.
use Rattle.std.proofs.Common.{Bool, true, false, List, [], ◌∷◌, ◌++◌, subst, append_assoc}
use Rattle.std.specs.Prelude.{⊤}
use Rattle.std.specs.List.{All}
use Rattle.std.proofs.lemmas.List.Elements.{All-head, All-tail}
use Rattle.cct_model.specs.terms.device.Setup.{Setup}
use Rattle.cct_model.specs.lines.record.Record.{Record}
use Rattle.cct_model.specs.lines.entry.Entry.{Entry}
use Rattle.cct_model.specs.lines.entry.Entry.TheVariants as entry_of
use Rattle.cct_disk.specs.declared.disk.Disk.{Ghosts}
use Rattle.cct_host.specs.declared.host.Host.{Host}
use Rattle.cct_host.specs.Host.{Keeps, setup_of}
use Rattle.cct_live_service.specs.declared.notice.Notice.{Notice}
use Rattle.cct_live_service.specs.declared.notice.Notice.TheVariants as notice_of
use Rattle.cct_live_service.specs.Found.{Begun, found_there, made_new}
use Rattle.cct_live_service.specs.Opening.{opening_of}
use Rattle.cct_live_service.specs.Reported.{AreSoWhere, IsSo, IsSoWhere, IsStatusOf}
use Rattle.cct_live_service.specs.Told.{IsOfStatus, Told, answer_news, as_told, attempt_told, entry, falls_short, finding, knows, last, news_of, notice, notices_told, operates, pays, refused, told_unsent, unheard, unsent}
use Rattle.cct_live_service.specs.Watch.{IsOfWatch}

-- what is reported first and then
pub so_then : (T : Type 0) (S : List Record → List Record) (setup : Setup) (past : List Entry) (t1 t2 : List Told) → AreSoWhere T S setup past t1 →
    AreSoWhere T S setup (news_of t1 ++ past) t2 → AreSoWhere T S setup past (t1 ++ t2)
so_then T S setup past [] t2 h k = k
so_then T S setup past (entry e ∷ t1) t2 h k =
    so_then T S setup (e ∷ past) t1 t2 h
    (subst (λ p. AreSoWhere T S setup p t2) (append_assoc (news_of t1) (e ∷ []) past) k)
so_then T S setup past (unsent addr sent ∷ t1) t2 h k =
    so_then T S setup (entry_of.Wire addr sent [] ∷ past) t1 t2 h
    (subst (λ p. AreSoWhere T S setup p t2) (append_assoc (news_of t1) (entry_of.Wire addr sent [] ∷ []) past) k)
so_then T S setup past (notice n ∷ t1) t2 h k = (h.0, so_then T S setup past t1 t2 h.1 k)
so_then T S setup past (knows all line ∷ t1) t2 h k = (h.0, so_then T S setup past t1 t2 h.1 k)
so_then T S setup past (refused number why ∷ t1) t2 h k = so_then T S setup past t1 t2 h k
so_then T S setup past (finding f ∷ t1) t2 h k = so_then T S setup past t1 t2 h k
so_then T S setup past (last e ∷ t1) t2 h k = so_then T S setup past t1 t2 h k
so_then T S setup past (operates s e ∷ t1) t2 h k = so_then T S setup past t1 t2 h k
so_then T S setup past (pays p answer ∷ t1) t2 h k =
    so_then T S setup (answer_news p answer ++ past) t1 t2 h
    (subst (λ before. AreSoWhere T S setup before t2) (append_assoc (news_of t1) (answer_news p answer) past) k)
so_then T S setup past (falls_short p paid rest ∷ t1) t2 h k = so_then T S setup past t1 t2 h k

-- A notice says how a host is, and none says what is known of an order.
abbrev pub IsSoAnyway : Setup → List Entry → Notice → Type 0
IsSoAnyway setup past (notice_of.Order id told) = ⊥
IsSoAnyway setup past n = IsSo setup past n

-- Each does, on any disk, and nothing is reported of what the journal knows.
abbrev pub AreSo : Setup → List Entry → List Told → Type 0
AreSo setup past [] = ⊤
AreSo setup past (entry e ∷ told) = AreSo setup (e ∷ past) told
AreSo setup past (unsent addr sent ∷ told) = AreSo setup (entry_of.Wire addr sent [] ∷ past) told
AreSo setup past (pays p answer ∷ told) = AreSo setup (answer_news p answer ++ past) told
AreSo setup past (notice n ∷ told) = IsSoAnyway setup past n × AreSo setup past told
AreSo setup past (knows all line ∷ told) = ⊥
AreSo setup past (what ∷ told) = AreSo setup past told

so_anyway : (T : Type 0) (S : List Record → List Record) (setup : Setup) (past : List Entry) (n : Notice) →
    IsSoAnyway setup past n → IsSoWhere T S setup past n
so_anyway T S setup past (notice_of.Device addr job epoch order) h = h
so_anyway T S setup past (notice_of.Last id) h = h
so_anyway T S setup past (notice_of.Room records) h = h
so_anyway T S setup past (notice_of.Order id told) h = absurd h
so_anyway T S setup past n h = tt

-- what is so on any disk is so on this one
pub so_where : (T : Type 0) (S : List Record → List Record) (setup : Setup) (past : List Entry) (told : List Told) → AreSo setup past told →
    AreSoWhere T S setup past told
so_where T S setup past [] h = tt
so_where T S setup past (entry e ∷ told) h = so_where T S setup (e ∷ past) told h
so_where T S setup past (unsent addr sent ∷ told) h = so_where T S setup (entry_of.Wire addr sent [] ∷ past) told h
so_where T S setup past (notice n ∷ told) h = (so_anyway T S setup past n h.0, so_where T S setup past told h.1)
so_where T S setup past (knows all line ∷ told) h = absurd h
so_where T S setup past (refused number why ∷ told) h = so_where T S setup past told h
so_where T S setup past (finding f ∷ told) h = so_where T S setup past told h
so_where T S setup past (last e ∷ told) h = so_where T S setup past told h
so_where T S setup past (operates s e ∷ told) h = so_where T S setup past told h
so_where T S setup past (pays p answer ∷ told) h = so_where T S setup (answer_news p answer ++ past) told h
so_where T S setup past (falls_short p paid rest ∷ told) h = so_where T S setup past told h

-- how the line is, and a bill that is held, say nothing of how a host stands
so_watch : (setup : Setup) (past : List Entry) (n : Notice) → IsOfWatch n → IsSoAnyway setup past n
so_watch setup past (notice_of.Device addr job epoch order) h = absurd h
so_watch setup past (notice_of.Last id) h = absurd h
so_watch setup past (notice_of.Room records) h = absurd h
so_watch setup past (notice_of.Order id told) h = absurd h
so_watch setup past n h = tt

so_notices : (setup : Setup) (past : List Entry) (notices : List Notice) → All IsOfWatch notices →
    AreSo setup past (notices_told notices)
so_notices setup past [] h = tt
so_notices setup past (n ∷ notices) h = (
  so_watch setup past n (All-head IsOfWatch n notices h),
  so_notices setup past notices (All-tail IsOfWatch n notices h),
)

so_as : (setup : Setup) (past : List Entry) (entries : List Entry) (told : List Told) →
    ((later : List Entry) → AreSo setup later told) → AreSo setup past (as_told entries ++ told)
so_as setup past [] told h = h past
so_as setup past (e ∷ entries) told h = so_as setup (e ∷ past) entries told h

so_unsent : (setup : Setup) (past : List Entry) (e : Entry) (told : List Told) →
    ((later : List Entry) → AreSo setup later told) → AreSo setup past (told_unsent e (unheard e) ∷ told)
so_unsent setup past (entry_of.Wire addr sent []) told h = h (entry_of.Wire addr sent [] ∷ past)
so_unsent setup past (entry_of.Wire addr sent (byte ∷ heard)) told h =
    h (entry_of.Wire addr sent (byte ∷ heard) ∷ past)
so_unsent setup past e told h = h (e ∷ past)

-- nor does an attempt
pub so_attempt : (setup : Setup) (past : List Entry) (sent : Bool) (entries : List Entry) (notices : List Notice) →
    All IsOfWatch notices → AreSo setup past (attempt_told sent entries ++ notices_told notices)
so_attempt setup past true entries notices h =
    so_as setup past entries (notices_told notices) (λ later. so_notices setup later notices h)
so_attempt setup past false [] notices h = so_notices setup past notices h
so_attempt setup past false (e ∷ entries) notices h =
    so_unsent setup past e (as_told entries ++ notices_told notices)
    (λ later. so_as setup later entries (notices_told notices) (λ after. so_notices setup after notices h))

-- nor what is reported first
pub so_opening : (setup : Setup) (past : List Entry) (begun : Begun) → AreSo setup past (notice (opening_of setup begun) ∷ [])
so_opening setup past made_new = (tt, tt)
so_opening setup past (found_there base c rest) = (tt, tt)

so_stand : (setup : Setup) (past : List Entry) (n : Notice) → IsOfStatus n → IsSo setup past n → IsSoAnyway setup past n
so_stand setup past (notice_of.Device addr job epoch order) h k = k
so_stand setup past (notice_of.Last id) h k = k
so_stand setup past (notice_of.Room records) h k = k
so_stand setup past (notice_of.Order id told) h k = absurd h
so_stand setup past n h k = tt

-- and the notices of a host say how it stands
pub so_status : {D : Type 0} {g : Ghosts D} (host : Host D g) (notices : List Notice) → All (IsStatusOf host) notices →
    (past : List Entry) → Keeps host past → AreSo (setup_of host) past (notices_told notices)
so_status host [] h past keeps = tt
so_status host (n ∷ notices) h past keeps = (
  so_stand (setup_of host) past n (All-head (IsStatusOf host) n notices h).0
      ((All-head (IsStatusOf host) n notices h).1 past keeps),
  so_status host notices (All-tail (IsStatusOf host) n notices h) past keeps,
)
