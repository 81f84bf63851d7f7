-- The identity of a device, as its setup gives it (ccTalk Generic Specification 4, part 2).
use Rattle.std.specs.Prelude.{ℕ, List}
use Rattle.cct_model_wire.specs.declared.device.DeviceSetup.{DeviceSetup}
use Rattle.cct_model_wire.specs.Device.{category_of}
use Rattle.cct_ident.specs.declared.identity.IdentText.{IdentText}
use Rattle.cct_ident.specs.declared.identity.IdentText.TheVariants.{Maker, Category, Product}
use Rattle.cct_ident.specs.declared.identity.IdentText.TheVariants.{Software, Build}
use Rattle.cct_ident.specs.declared.identity.Identity.{Identity}

-- The setup whose identity it is.
abbrev pub setup_of : Identity → DeviceSetup
setup_of identity = identity.setup.now

-- A text by which a device of this setup names itself.
abbrev pub text_of : DeviceSetup → IdentText → List ℕ
text_of d Maker = d.texts.maker
text_of d Category = category_of d.body
text_of d Product = d.texts.product
text_of d Software = d.texts.software
text_of d Build = d.texts.build
