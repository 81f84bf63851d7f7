-- Devices with what a script says of them are sound.
use Rattle.std.proofs.Common.{◌≡◌, ℕ, ◌-◌, ◌^◌, ◌<◌, ◌≤◌, ◌==◌, if◌then◌else◌, Bool, true, false, List, length, get_or, codes, All, Ok, Err, refl, subst, ◌∙◌, lit≤, arith}
use Rattle.std.specs.List.{list_all}
use Rattle.std.specs.Prelude.{slice_index}
use Rattle.std.proofs.lemmas.Bool.Decides.{nat_tests}
use Rattle.std.proofs.lemmas.List.{length-set}
use Rattle.std.proofs.lemmas.List.Elements.{All-replicate, All-set}
use Rattle.std.proofs.lemmas.List.Sums.{AllPass-from_list_all}
use Rattle.cct_model_lines.specs.terms.wire.CheckKind.{CheckKind}
use Rattle.cct_model_lines.specs.terms.device.DeviceBody.{DeviceBody}
use Rattle.cct_model_lines.specs.terms.device.DeviceBody.TheVariants.{Acceptor, Bill, Hopper}
use Rattle.cct_model_lines.specs.terms.device.DeviceSetup.{DeviceSetup}
use Rattle.cct_model_lines.specs.terms.device.Texts.{Texts}
use Rattle.cct_model_lines.specs.declared.entry.LineKind.TheVariants as kind
use Rattle.cct_model_lines.specs.Device.{AreSoundPlaces, IsPrinting, IsId, IsWord, IsSound, IsSoundBody}
use Rattle.cct_model_lines.specs.Grammar.{is_printing, named, placed, plain_acceptor, plain_bills, plain_device, valued}

printing_one : (byte : ℕ) → is_printing byte ≡ true → IsPrinting byte
printing_one byte e = grind (arith, nat_tests)

-- bytes that pass the test are printing characters
pub printing_all : (bytes : List ℕ) → list_all is_printing bytes ≡ true → All IsPrinting bytes
printing_all bytes e =
    λ k d inside. printing_one (get_or bytes k d) (AllPass-from_list_all is_printing bytes e k d inside)

word : (text : List ℕ) → 1 ≤ length text → length text ≤ 24 → list_all is_printing text ≡ true → IsWord text
word text some few e = (some, few, printing_all text e)

-- an acceptor without values has its numbers in their ranges
pub plain_acceptor_sound : (accepts : ℕ) → accepts < 2 ^ 24 → IsSoundBody (plain_acceptor accepts)
plain_acceptor_sound accepts few = (
  few,
  All-replicate (λ value. value ≤ 1000000) 16 0 (lit≤ tt),
  All-replicate IsId 16 (codes "......") (refl, printing_all (codes "......") refl),
  refl,
  refl,
)

-- and a bill acceptor
pub plain_bills_sound : (accepts : ℕ) → accepts < 2 ^ 24 → IsSoundBody (plain_bills accepts)
plain_bills_sound accepts few = plain_acceptor_sound accepts few

-- a device with the texts of all is sound where its numbers are
pub plain_device_sound : (addr : ℕ) (check : CheckKind) (serial : ℕ) (body : DeviceBody) → 2 ≤ addr → addr ≤ 255
    → serial < 2 ^ 24 → IsSoundBody body → IsSound (plain_device addr check serial body)
plain_device_sound addr check serial body low high few sound = record {
  low = low;
  high = high;
  serial = few;
  maker = word (codes "BENCH") (lit≤ tt) (lit≤ tt) refl;
  product = word (codes "CCT") (lit≤ tt) (lit≤ tt) refl;
  software = word (codes "1") (lit≤ tt) (lit≤ tt) refl;
  build = word (codes "1") (lit≤ tt) (lit≤ tt) refl;
  body = sound;
}

valued_by : (b : Bool) (d e : DeviceSetup) (body : DeviceBody) → IsSound d → IsSoundBody body →
    (if b then Ok (record d { body = body }) else Err kind.Again) ≡ Ok e → IsSound e
valued_by true d e body sound fits was =
    let is : record d { body = body } ≡ e = cc was in
    let made : IsSound (record d { body = body }) = record {
      low = sound.low;
      high = sound.high;
      serial = sound.serial;
      maker = sound.maker;
      product = sound.product;
      software = sound.software;
      build = sound.build;
      body = fits;
    } in
    subst IsSound is made
valued_by false d e body sound fits was = cc was

placed_sound : (d e : DeviceSetup) (make : List ℕ → List (List ℕ) → DeviceBody) (place value accepts : ℕ) (id values : List ℕ)
    (ids : List (List ℕ)) → ((vs : List ℕ) (is : List (List ℕ)) → AreSoundPlaces accepts vs is → IsSoundBody (make vs is)) →
    value ≤ 1000000 → IsId id → IsSound d → AreSoundPlaces accepts values ids →
    placed d make place value id values ids ≡ Ok e → IsSound e
placed_sound d e make place value accepts id values ids makes few is_id sound all was =
    valued_by (slice_index values (place - 1) == 0) d e _ sound (makes _ _ (
      all.0,
      All-set (λ worth. worth ≤ 1000000) values (place - 1) value few all.1,
      All-set IsId ids (place - 1) id is_id all.2,
      length-set values (place - 1) value ∙ all.3,
      length-set ids (place - 1) id ∙ all.4,
    )) was

-- the value of a place keeps a device sound
pub valued_sound : (d e : DeviceSetup) (place value : ℕ) (id : List ℕ) (body : DeviceBody) → value ≤ 1000000
    → IsId id → IsSound d → IsSoundBody body → valued d place value id body ≡ Ok e → IsSound e
valued_sound d e place value id (Acceptor accepts values ids) few is_id sound body was =
    placed_sound d e (λ vs is. Acceptor accepts vs is) place value accepts id values ids (λ vs is all. all) few is_id sound body was
valued_sound d e place value id (Hopper life worth) few is_id sound body was = cc was
valued_sound d e place value id (Bill accepts values ids) few is_id sound body was =
    placed_sound d e (λ vs is. Bill accepts vs is) place value accepts id values ids (λ vs is all. all) few is_id sound body was

named_by : (b : Bool) (d e : DeviceSetup) (texts : Texts) → IsWord texts.maker → IsWord texts.product →
    IsWord texts.software → IsWord texts.build → IsSound d →
    (if b then Err kind.Again else Ok (record d { texts = texts; named = true })) ≡ Ok e → IsSound e
named_by true d e texts maker product software build sound was = cc was
named_by false d e texts maker product software build sound was =
    let is : record d { texts = texts; named = true } ≡ e = cc was in
    let made : IsSound (record d { texts = texts; named = true }) = record {
      low = sound.low;
      high = sound.high;
      serial = sound.serial;
      maker = maker;
      product = product;
      software = software;
      build = build;
      body = sound.body;
    } in
    subst IsSound is made

-- texts of its own keep a device sound
pub named_sound : (d e : DeviceSetup) (texts : Texts) → IsWord texts.maker → IsWord texts.product →
    IsWord texts.software → IsWord texts.build → IsSound d → named d texts ≡ Ok e → IsSound e
named_sound d e texts maker product software build sound was =
    named_by d.named d e texts maker product software build sound was
