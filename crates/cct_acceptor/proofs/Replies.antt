-- The replies of an acceptor.
use Rattle.std.proofs.Common.{◌≡◌, ℕ, ◌-◌, Bool, true, false, List, [], get_or, refl}
use Rattle.std.proofs.lemmas.Option.{unwrap_or-slice_get}
use Rattle.cct_model_wire.specs.declared.device.DeviceBody.{DeviceBody}
use Rattle.cct_model_wire.specs.declared.device.DeviceBody.TheVariants as body
use Rattle.cct_model_wire.specs.declared.request.Request.{Request}
use Rattle.cct_model_wire.specs.declared.request.Request.TheVariants.{SetMask, SetMaster, ReadCredits, SetPath, GetPath, SetDefault, GetDefault, CoinId}
use Rattle.cct_model_wire.specs.Acceptor.{accept_count, acceptor_reply, id_at, inhibit_reply, settings}
use Rattle.cct_model_wire.specs.Device.{IsAcceptor, own_reply}
use Rattle.cct_model_wire.specs.History.{Met}
use Rattle.cct_device_intake.specs.Intake.{IsInhibits, is_setting}
use Rattle.cct_acceptor.specs.Acceptor.{ids_of, is_change, start_of}

-- What an acceptor's kind alone answers, it answers by its start and its identifications.
pub own_is : (serial : ℕ) (b : DeviceBody) (past : List Met) (q : Request)
    → IsAcceptor b → own_reply serial b past q ≡ acceptor_reply (start_of b) (ids_of b) past q
own_is serial (body.Acceptor start values ids) past q kind = refl
own_is serial (body.Hopper life value) past q kind = absurd kind
own_is serial (body.Bill start values ids) past q kind = absurd kind

-- The identification of the coin of a place is at the index of one less.
pub id_read : (ids : List (List ℕ)) (place : ℕ) → id_at ids place ≡ get_or ids (place - 1) []
id_read ids place = unwrap_or-slice_get ids (place - 1) []

-- Whether acceptors of coins alone answer a request.
abbrev pub is_of_coins : Request → Bool
is_of_coins ReadCredits = true
is_of_coins (SetPath place path) = true
is_of_coins (GetPath place) = true
is_of_coins (SetDefault path) = true
is_of_coins GetDefault = true
is_of_coins (CoinId place) = true
is_of_coins q = false

-- Any other they answer as all devices do that take money.
pub other_is : (start : ℕ) (ids : List (List ℕ)) (past : List Met) (q : Request)
    → is_of_coins q ≡ false → acceptor_reply start ids past q ≡ inhibit_reply (accept_count start past) past q
unfolding acceptor_reply
other_is start ids past ReadCredits other = absurd cc
other_is start ids past (SetPath place path) other = absurd cc
other_is start ids past (GetPath place) other = absurd cc
other_is start ids past (SetDefault path) other = absurd cc
other_is start ids past GetDefault other = absurd cc
other_is start ids past (CoinId place) other = absurd cc
other_is start ids past q other = refl

-- A request that changes nothing sets no inhibit.
pub sets_nothing : (q : Request) → is_change q ≡ false → is_setting q ≡ false
sets_nothing (SetMask mask) still = absurd cc
sets_nothing (SetMaster value) still = absurd cc
sets_nothing q still = refl

-- An acceptor's settings leave its inhibits.
pub settings_inhibit : (past : List Met) → IsInhibits (settings past) past
settings_inhibit past = record { mask = refl; normal = refl }
