-- What a desk says of its device: the command of its job, its epoch and its open order; and what
-- one says that has just begun.
use Rattle.std.proofs.Common.{◌≡◌, ◌∙◌, ℕ, zero, suc, ◌<◌, true, List, [], ◌∷◌, Option, Some, None, ap, arith, get_or, is_some, length, subst, sym, true≢false}
use Rattle.cct_model.specs.terms.device.DeviceSetup.{DeviceSetup}
use Rattle.cct_model.specs.lines.entry.Entry.{Entry}
use Rattle.cct_model.specs.Exchange.{device_at}
use Rattle.cct_model.specs.Following.{Known}
use Rattle.cct_jobs.specs.Jobs.{order_of}
use Rattle.cct_host.specs.declared.desk.JobDesk.{JobDesk}
use Rattle.cct_host.specs.declared.desks.Desks.{Desks}
use Rattle.cct_host.specs.Desks.{FindsDesk, StandsFor, setup_of}
use Rattle.cct_host.specs.Replayed.{AllReplay, BeginsWith, ReplaysAt}
use Rattle.cct_host.specs.Standing.{command_at, command_there, epoch_at, epoch_there, order_at, order_there}
use Rattle.cct_host.proofs.Places.{desk_sits, found_at, none_at}

pub record Tells (desks : Desks) (k : JobDesk) (past : List Entry) (addr : ℕ) : Type 0 where
  pub command : k.orders.begun ≡ command_at (setup_of desks) past addr
  pub epoch : k.epoch ≡ epoch_at (setup_of desks) past addr
  pub order : order_of k.orders.order ≡ order_at (setup_of desks) past addr

pub desk_tells : (desks : Desks) (addr i : ℕ) (found : Option ℕ) (k : JobDesk) (items : List JobDesk) (past : List Entry)
    → FindsDesk desks addr found → found ≡ Some i → items ≡ desks.devices.items → k ≡ get_or items i k
    → StandsFor desks past → Tells desks k past addr
desk_tells desks addr i found k items past finds is lent there stands =
    let setup = setup_of desks in
    let at = found_at desks addr i found finds is in
    let y : k ≡ get_or desks.devices.items i k = there ∙ ap (λ ls. get_or ls i k) lent in
    let sits = desk_sits setup.devices desks.devices.items i at.device k past at.within at.is y stands.devices in
    record {
      command = sits.knows.3 ∙ sym (ap (command_there past addr) at.at);
      epoch = sits.knows.0 ∙ sym (ap (epoch_there past) at.at);
      order = sits.knows.1 ∙ sym (ap (order_there past) at.at);
    }

-- the desk of a device at an index has what was known of it
desk_replays : (ds : List DeviceSetup) (ks : List JobDesk) (i : ℕ) (d : DeviceSetup) (k : JobDesk) (known : Known)
    → i < length ds → d ≡ get_or ds i d → k ≡ get_or ks i k → AllReplay ds ks known → ReplaysAt d k known
desk_replays [] ks i d k known within d_is k_is all = absurd (omega (arith, within))
desk_replays (e ∷ ds) [] i d k known within d_is k_is all = absurd all
desk_replays (e ∷ ds) (m ∷ ks) zero d k known within d_is k_is all =
    subst (λ x. ReplaysAt x k known) (sym d_is) (subst (λ x. ReplaysAt e x known) (sym k_is) all.0)
desk_replays (e ∷ ds) (m ∷ ks) (suc i) d k known within d_is k_is all =
    desk_replays ds ks i d k known (omega (arith, within)) d_is k_is all.1

pub begun_tells : (desks : Desks) (addr i : ℕ) (found : Option ℕ) (k : JobDesk) (items : List JobDesk) (known : Known)
    (last : ℕ) → FindsDesk desks addr found → found ≡ Some i → items ≡ desks.devices.items → k ≡ get_or items i k
    → BeginsWith desks known last
    → (k.epoch ≡ known.epoch_at addr) × (order_of k.orders.order ≡ known.order_at addr)
begun_tells desks addr i found k items known last finds is lent there begins =
    let setup = setup_of desks in
    let at = found_at desks addr i found finds is in
    let y : k ≡ get_or desks.devices.items i k = there ∙ ap (λ ls. get_or ls i k) lent in
    let has = desk_replays setup.devices desks.devices.items i at.device k known at.within at.is y begins.devices in
    (has.epoch_is ∙ ap known.epoch_at at.addr_is, has.order_is ∙ ap known.order_at at.addr_is)

pub none_begun : (desks : Desks) (addr : ℕ) (found : Option ℕ) → FindsDesk desks addr found → found ≡ None
    → is_some (device_at (setup_of desks).devices addr) ≡ true → ⊥
none_begun desks addr found finds none there =
    true≢false (sym there ∙ ap is_some (none_at desks addr found finds none).0)
