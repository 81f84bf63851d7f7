-- The bytes of a question ask nothing else of any device, under whichever check it is, also where they are damaged.
use Rattle.std.proofs.Common.{◌≡◌, ℕ, ◌==◌, cond, true, false, Bool, List, [], ◌∷◌, slice_index, refl, ap, sym, ◌∙◌, Option, Some, None, option_and_then, eq-eqb}
use Rattle.cct_model.specs.terms.wire.CheckKind.{CheckKind}
use Rattle.cct_model.specs.terms.wire.CheckKind.TheVariants.{Simple, Crc}
use Rattle.cct_model.specs.terms.device.DeviceSetup.{DeviceSetup}
use Rattle.cct_model.specs.terms.request.Request.{Request}
use Rattle.cct_model.specs.terms.request.Request.TheVariants as request
use Rattle.cct_model.specs.lines.command.WireFault.{WireFault}
use Rattle.cct_model.specs.lines.command.WireFault.TheVariants as fault
use Rattle.cct_model.specs.Exchange.{ask, asked_of, asks_of, to_all, to_one}
use Rattle.cct_model.specs.Honest.{IsHonestFault}
use Rattle.cct_model.specs.Message.{Message, message}
use Rattle.cct_model.specs.Request.{header_of, request_of}
use Rattle.cct_model.specs.Transcript.{heard_by_devices}
use Rattle.cct_model.proofs.Requests.{request_header}
use Rattle.cct_laws.proofs.wire.HeardBytes.{ask_header, damaged_asks}
use Rattle.cct_laws.proofs.wire.HonestFaults.{honest_means}
use Rattle.cct_laws_live_devices.specs.Questions.{is_question}

passed : (fits : Bool) (x m : Message) → cond fits (Some x) None ≡ Some m → x ≡ m
passed true x m found = cc
passed false x m found = absurd cc

pub header_placed : (kind : CheckKind) (piece : List ℕ) (m : Message) → message kind piece ≡ Some m → m.header ≡ slice_index piece 3
unfolding message
header_placed Simple [] m found = absurd cc
header_placed Simple (a ∷ []) m found = absurd cc
header_placed Simple (a ∷ b ∷ []) m found = absurd cc
header_placed Simple (a ∷ b ∷ c ∷ []) m found = absurd cc
header_placed Simple (to ∷ said ∷ from ∷ header ∷ rest) m found = ap (λ n. n.header) (sym (passed _ _ m found))
header_placed Crc [] m found = absurd cc
header_placed Crc (a ∷ []) m found = absurd cc
header_placed Crc (a ∷ b ∷ []) m found = absurd cc
header_placed Crc (a ∷ b ∷ c ∷ []) m found = absurd cc
header_placed Crc (to ∷ said ∷ low ∷ header ∷ rest) m found = ap (λ n. n.header) (sym (passed _ _ m found))

-- a request with the header of a question is one
by_simple_poll : (q : Request) → (header_of q == header_of request.SimplePoll) ≡ true → is_question (Some q) ≡ true
by_simple_poll request.SimplePoll e = refl
by_simple_poll q e = absurd cc

by_address_poll : (q : Request) → (header_of q == header_of request.AddressPoll) ≡ true → is_question (Some q) ≡ true
by_address_poll request.AddressPoll e = refl
by_address_poll q e = absurd cc

by_category : (q : Request) → (header_of q == header_of request.Category) ≡ true → is_question (Some q) ≡ true
by_category request.Category e = refl
by_category q e = absurd cc

by_product : (q : Request) → (header_of q == header_of request.ProductCode) ≡ true → is_question (Some q) ≡ true
by_product request.ProductCode e = refl
by_product q e = absurd cc

by_serial : (q : Request) → (header_of q == header_of request.SerialNumber) ≡ true → is_question (Some q) ≡ true
by_serial request.SerialNumber e = refl
by_serial q e = absurd cc

by_coin : (q : Request) (place : ℕ) → (header_of q == header_of (request.CoinId place)) ≡ true → is_question (Some q) ≡ true
by_coin (request.CoinId other) place e = refl
by_coin q place e = absurd cc

by_header : (q other : Request) → is_question (Some q) ≡ true → (header_of other == header_of q) ≡ true →
    is_question (Some other) ≡ true
by_header request.SimplePoll other is e = by_simple_poll other e
by_header request.AddressPoll other is e = by_address_poll other e
by_header request.Category other is e = by_category other e
by_header request.ProductCode other is e = by_product other e
by_header request.SerialNumber other is e = by_serial other e
by_header (request.CoinId place) other is e = by_coin other place e
by_header q other is e = absurd cc

read_question : (q : Request) (header : ℕ) (body : List ℕ) (found : Option Request) → is_question (Some q) ≡ true →
    request_of header body ≡ found → header ≡ header_of q → is_question found ≡ true
read_question q header body None is was same = refl
read_question q header body (Some other) is was same =
    by_header q other is (eq-eqb _ _ (sym (request_header header body other was) ∙ same))

one_question : (a : Option Request) → is_question a ≡ true → is_question (to_one a) ≡ true
one_question None is = refl
one_question (Some request.AddressPoll) is = refl
one_question a is = is

all_question : (a : Option Request) → is_question (to_all a) ≡ true
all_question None = refl
all_question (Some request.AddressPoll) = refl
all_question a = refl

either_question : (own all : Bool) (a : Option Request) → is_question a ≡ true →
    is_question (cond own (to_one a) (cond all (to_all a) None)) ≡ true
either_question true all a is = one_question a is
either_question false true a is = all_question a
either_question false false a is = refl

found_question : (d : DeviceSetup) (q : Request) (piece : List ℕ) (found : Option Message) → is_question (Some q) ≡ true →
    message d.kind piece ≡ found → slice_index piece 3 ≡ header_of q →
    is_question (option_and_then (asked_of d.addr) found) ≡ true
found_question d q piece None is was same = refl
found_question d q piece (Some m) is was same =
    either_question (m.to == d.addr) (m.to == 0) (request_of m.header m.body)
    (read_question q m.header m.body (request_of m.header m.body) is refl (header_placed d.kind piece m was ∙ same))

asks_question : (d : DeviceSetup) (kind : CheckKind) (addr : ℕ) (q : Request) → is_question (Some q) ≡ true →
    is_question (asks_of d (ask kind addr q)) ≡ true
unfolding asks_of
asks_question d kind addr q is =
    found_question d q (ask kind addr q) (message d.kind (ask kind addr q)) is refl (ask_header kind addr q)

pub question_asked : (d : DeviceSetup) (f : WireFault) (kind : CheckKind) (addr : ℕ) (q : Request) →
    is_question (Some q) ≡ true → IsHonestFault f (ask kind addr q) →
    is_question (asks_of d (heard_by_devices f (ask kind addr q))) ≡ true
question_asked d fault.Clear kind addr q is honest = asks_question d kind addr q is
question_asked d (fault.DevicesHear piece) kind addr q is honest =
    ap is_question (damaged_asks d piece (honest_means (fault.DevicesHear piece) (ask kind addr q) honest))
question_asked d (fault.HostHears piece) kind addr q is honest = asks_question d kind addr q is
question_asked d (fault.WholeHeard piece) kind addr q is honest = asks_question d kind addr q is
