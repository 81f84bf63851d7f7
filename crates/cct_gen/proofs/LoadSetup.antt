-- What the setup lines of a load say, and that its setup is sound.
use Rattle.std.proofs.Common.{◌≡◌, ◌≤◌, [], ◌∷◌, replicate, codes, refl, ap, subst, sym, ◌∙◌, lit≤}
use Rattle.std.proofs.lemmas.List.Elements.{All-cons, All-nil, All-replicate}
use Rattle.cct_model_lines.specs.terms.wire.CheckKind.TheVariants.{Simple}
use Rattle.cct_model_lines.specs.terms.device.DeviceBody.TheVariants.{Acceptor, Hopper}
use Rattle.cct_model_lines.specs.terms.device.DeviceSetup.{DeviceSetup}
use Rattle.cct_model_lines.specs.terms.device.Setup.{Setup}
use Rattle.cct_model_lines.specs.Device.{IsId, IsSound}
use Rattle.cct_model_lines.specs.Setup.{IsSoundSetup}
use Rattle.cct_model_lines.specs.Text.{number_text}
use Rattle.cct_model_lines.specs.Grammar.{added, id_in, plain_device, ranged, setup_line}
use Rattle.cct_model_lines.specs.Script.{most_lines, read_form, script}
use Rattle.cct_model_lines.proofs.Sound.{plain_device_sound, printing_all}
use Rattle.cct_gen.specs.Load.{load_setup}

-- the acceptor of a load, written out
abbrev acceptor : DeviceSetup
acceptor = plain_device 2 Simple 1 (Acceptor 0 (replicate 16 10) (replicate 16 (codes "XX010A")))

-- the hopper of a load, written out
abbrev hopper : DeviceSetup
hopper = plain_device 3 Simple 2 (Hopper 0 10)

-- the setup of a load, written out
abbrev pub load_devices : Setup
load_devices = record { devices = acceptor ∷ hopper ∷ [] }

-- what the setup lines say
pub setup_is : load_setup ≡ load_devices
unfolding load_setup script read_form setup_line ranged id_in added most_lines number_text
setup_is = refl

acceptor_sound : IsSound acceptor
acceptor_sound = plain_device_sound 2 Simple 1 _ (lit≤ tt) (lit≤ tt) (lit≤ tt) (
  lit≤ tt,
  All-replicate (λ value. value ≤ 1000000) 16 10 (lit≤ tt),
  All-replicate IsId 16 (codes "XX010A") (refl, printing_all (codes "XX010A") refl),
  refl,
  refl,
)

hopper_sound : IsSound hopper
hopper_sound = plain_device_sound 3 Simple 2 _ (lit≤ tt) (lit≤ tt) (lit≤ tt) (lit≤ tt, lit≤ tt, lit≤ tt)

devices_sound : IsSoundSetup load_devices
devices_sound = record {
  devices =
      All-cons IsSound acceptor (hopper ∷ []) acceptor_sound
      (All-cons IsSound hopper [] hopper_sound (All-nil IsSound));
  distinct = (refl, (refl, tt));
}

-- a setup of these devices is that of a load
pub made : (setup : Setup) → setup.devices ≡ acceptor ∷ hopper ∷ [] → setup ≡ load_setup
made setup is = ap (λ devices. record { devices = devices }) is ∙ sym setup_is

-- the setup is sound
pub setup_sound : IsSoundSetup load_setup
setup_sound = subst IsSoundSetup (sym setup_is) devices_sound

-- a setup of these devices is sound
pub made_sound : (setup : Setup) → setup.devices ≡ acceptor ∷ hopper ∷ [] → IsSoundSetup setup
made_sound setup is = subst IsSoundSetup (sym (made setup is)) setup_sound
