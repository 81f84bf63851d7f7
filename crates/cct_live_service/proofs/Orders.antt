-- What is reported of an order, by the records of a journal that was read beside its host.
use Rattle.std.proofs.Common.{◌≡◌, ◌≢◌, ◌∙◌, ◌⊎◌, ℕ, ◌==◌, List, [], ◌∷◌, Bool, true, false, cond, reverse, Option, Some, None, is_some, inl, inr, refl, sym, ap, subst}
use Rattle.cct_disk.specs.declared.disk.Disk.{Ghosts}
use Rattle.cct_model.specs.terms.device.DeviceSetup.{DeviceSetup}
use Rattle.cct_model.specs.terms.device.Setup.{Setup}
use Rattle.cct_model.specs.declared.judging.OpenOrder.{OpenOrder}
use Rattle.cct_model.specs.lines.record.Record.{Record}
use Rattle.cct_model.specs.lines.record.Record.TheVariants as record_of
use Rattle.cct_model.specs.lines.entry.Entry.{Entry}
use Rattle.cct_model.specs.Order.{life_between}
use Rattle.cct_host.specs.declared.host.Host.{Host}
use Rattle.cct_host.specs.Host.{Keeps, disk_of, setup_of}
use Rattle.cct_host.specs.Standing.{order_at}
use Rattle.cct_live_order.specs.Told.{order_in, told_after}
use Rattle.cct_live_order.specs.declared.told.OrderTold.{OrderTold}
use Rattle.cct_live_order.specs.declared.told.OrderTold.TheVariants as order_of
use Rattle.cct_live_service.specs.Reported.{IsOrderOf, IsRecorded, LooksUp, first_in, first_of, open_by, open_in, told_or}
use Rattle.cct_live_service.specs.Stated.{kept_in}
use Rattle.cct_live_service.proofs.Knows.{image_order, image_refused}

-- no record says that the journal couldn't be read
cond_read : (b : Bool) (x y : OrderTold) → x ≢ order_of.Unread → y ≢ order_of.Unread → cond b x y ≢ order_of.Unread
cond_read true x y h k = h
cond_read false x y h k = k

after_read : (id : ℕ) (r : Record) (told : OrderTold) → told ≢ order_of.Unread → told_after id r told ≢ order_of.Unread
after_read id (record_of.Opened opened addr count life) told h =
    cond_read (opened == id) (order_of.Open addr count) told (λ e. cc e) h
after_read id (record_of.Closed closed paid unpaid) told h =
    cond_read (closed == id) (order_of.Closed paid unpaid) told (λ e. cc e) h
after_read id (record_of.Odd closed before after) told h =
    cond_read (closed == id) (order_of.Odd (life_between before after)) told (λ e. cc e) h
after_read id (record_of.Epoch addr mask accepts) told h = h
after_read id (record_of.Reading addr counter lost accepts posted) told h = h
after_read id (record_of.Broken addr mask counter lost accepts posted) told h = h
after_read id (record_of.EpochEnd addr) told h = h
after_read id (record_of.Sold sold price) told h = h

in_read : (id : ℕ) (rs : List Record) → order_in id rs ≢ order_of.Unread
in_read id [] = λ e. cc e
in_read id (r ∷ rs) = after_read id r (order_in id rs) (in_read id rs)

-- nor does an open order
cond_open : (b : Bool) (told : OrderTold) → told ≢ order_of.Unread →
    cond b (Some told) None ≡ Some order_of.Unread → ⊥
cond_open true told h e = h (same told e)
  where
    same : (t : OrderTold) → Some t ≡ Some order_of.Unread → t ≡ order_of.Unread
    same t e = cc e
cond_open false told h e = cc e

by_open : (id addr : ℕ) (order : Option OpenOrder) → open_by id addr order ≡ Some order_of.Unread → ⊥
by_open id addr None e = cc e
by_open id addr (Some owed) e = cond_open (owed.id == id) (order_of.Open addr owed.count) (λ is. cc is) e

first_open : (x y : Option OrderTold) → (x ≡ Some order_of.Unread → ⊥) → (y ≡ Some order_of.Unread → ⊥) →
    first_of x y ≡ Some order_of.Unread → ⊥
first_open None y h k = k
first_open (Some told) y h k = h

first_in_open : (tells : DeviceSetup → Option OrderTold) → ((d : DeviceSetup) → tells d ≡ Some order_of.Unread → ⊥) →
    (ds : List DeviceSetup) → first_in tells ds ≡ Some order_of.Unread → ⊥
first_in_open tells none [] = λ e. cc e
first_in_open tells none (d ∷ ds) =
    first_open (tells d) (first_in tells ds) (none d) (first_in_open tells none ds)

in_open : (setup : Setup) (past : List Entry) (id : ℕ) → open_in setup past id ≡ Some order_of.Unread → ⊥
in_open setup past id =
    first_in_open (λ d. open_by id d.addr (order_at setup past d.addr))
    (λ d. by_open id d.addr (order_at setup past d.addr)) setup.devices

module _ {D : Type 0} {g : Ghosts D} (host : Host D g) (id : ℕ) where
  -- an order that is open
  pub order_open : (Missed : Type 0) (told : OrderTold) →
      ((past : List Entry) → Keeps host past → open_in (setup_of host) past id ≡ Some told) → IsOrderOf host id Missed told
  order_open Missed told is past stands trusted =
      let here = is past stands.keeps in
      inl (
        sym (ap (λ known. told_or known (order_in id (kept_in host past))) here),
        λ unread. in_open (setup_of host) past id (here ∙ ap (λ t. Some t) unread),
      )

  -- one that isn't
  pub order_closed : (Missed : Type 0) (told : OrderTold) →
      ((past : List Entry) → Keeps host past → open_in (setup_of host) past id ≡ None) → IsRecorded host id Missed told →
      IsOrderOf host id Missed told
  order_closed Missed told none is past stands trusted = by_case (is past stands trusted)
    where
      by_case : {X Y : Type 0} → (((told ≡ order_in id (kept_in host past)) × X) ⊎ Y) →
          ((told ≡ told_or (open_in (setup_of host) past id) (order_in id (kept_in host past))) × X) ⊎ Y
      by_case (inl here) = inl (
        here.0 ∙ sym (ap (λ known. told_or known (order_in id (kept_in host past))) (none past stands.keeps)),
        here.1,
      )
      by_case (inr missed) = inr missed

  -- by a disk that gives the bytes of the host's
  pub looked_up : (disk : D) → g.seen disk ≡ g.seen (disk_of host) → (Missed : Type 0) (told : OrderTold) →
      ((image : List ℕ) → g.seen disk ≡ Some image → LooksUp image id Missed told) → IsRecorded host id Missed told
  looked_up disk same Missed told looks past stands trusted = by_seen (g.seen (disk_of host)) refl
    where
      by_look : (image : List ℕ) → g.seen (disk_of host) ≡ Some image → LooksUp image id Missed told →
          ((told ≡ order_in id (kept_in host past)) × (told ≢ order_of.Unread)) ⊎ ((told ≡ order_of.Unread) × Missed)
      by_look image at (inl (base, c, rest, has, is)) = inl (
        is ∙ image_order host image base c rest id at has past stands trusted,
        λ unread. in_read id (reverse rest) (sym is ∙ unread),
      )
      by_look image at (inr (unread, (why, refuses, missed))) =
          inr (unread, missed (image_refused host image why at refuses past stands trusted))

      never : false ≡ true → ⊥
      never e = cc e

      by_seen : (at : Option (List ℕ)) → g.seen (disk_of host) ≡ at →
          ((told ≡ order_in id (kept_in host past)) × (told ≢ order_of.Unread)) ⊎ ((told ≡ order_of.Unread) × Missed)
      by_seen None at = absurd (never (subst (λ (s : Option (List ℕ)). is_some s ≡ true) at trusted.1))
      by_seen (Some image) at = by_look image at (looks image (same ∙ at))

  -- the same, where more was missed
  pub recorded_weaker : (M N : Type 0) → (M → N) → (told : OrderTold) → IsRecorded host id M told → IsRecorded host id N told
  recorded_weaker M N to told is past stands trusted = by_case (is past stands trusted)
    where
      by_case : {X : Type 0} → (X ⊎ ((told ≡ order_of.Unread) × M)) → X ⊎ ((told ≡ order_of.Unread) × N)
      by_case (inl here) = inl here
      by_case (inr missed) = inr (missed.0, to missed.1)
