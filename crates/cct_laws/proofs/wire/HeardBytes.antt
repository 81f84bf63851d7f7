-- What bytes ask of a device: the first says whom they are for, and the fourth is the header.
use Rattle.std.proofs.Common.{◌≡◌, ◌≢◌, ℕ, ◌==◌, cond, true, false, Bool, List, [], ◌∷◌, slice_index, refl, ap, sym, ◌∙◌, subst, Option, Some, None, option_and_then, eq-eqb}
use Rattle.std.proofs.lemmas.Bool.{ne_eqb}
use Rattle.cct_model.specs.terms.wire.CheckKind.{CheckKind}
use Rattle.cct_model.specs.terms.wire.CheckKind.TheVariants.{Simple, Crc}
use Rattle.cct_model.specs.terms.device.DeviceSetup.{DeviceSetup}
use Rattle.cct_model.specs.terms.request.Request.{Request}
use Rattle.cct_model.specs.terms.request.Request.TheVariants.{AddressPoll, SimplePoll}
use Rattle.cct_model.specs.lines.command.WireFault.{WireFault}
use Rattle.cct_model.specs.lines.command.WireFault.TheVariants as fault
use Rattle.cct_model.specs.Message.{Message, message, spelling}
use Rattle.cct_model.specs.Request.{header_of, request_of}
use Rattle.cct_model.specs.Exchange.{ask, asks_of, asked_of, to_one, to_all}
use Rattle.cct_model.specs.Scan.{poll_of}
use Rattle.cct_model.specs.Transcript.{heard_by_devices}
use Rattle.cct_model.proofs.Requests.{request_header}
use Rattle.cct_model.specs.Honest.{IsHonestFault}
use Rattle.cct_laws.specs.Honesty.{IsNoMessage}
use Rattle.cct_laws.specs.DeviceJobs.{IsForOthers}
use Rattle.cct_laws.proofs.wire.HonestFaults.{honest_means}

passed : (fits : Bool) (x m : Message) → cond fits (Some x) None ≡ Some m → x ≡ m
passed true x m found = cc
passed false x m found = absurd cc

-- the address and the header of a message stand at these places of its bytes
abbrev pub Placed : List ℕ → Message → Type 0
Placed piece m = (m.to ≡ slice_index piece 0) × (m.header ≡ slice_index piece 3)

placed_of : (piece : List ℕ) (x m : Message) → Placed piece x → x ≡ m → Placed piece m
placed_of piece x m placed is = (ap (λ n. n.to) (sym is) ∙ placed.0, ap (λ n. n.header) (sym is) ∙ placed.1)

pub message_placed : (kind : CheckKind) (piece : List ℕ) (m : Message) → message kind piece ≡ Some m → Placed piece m
unfolding message
message_placed Simple [] m found = absurd cc
message_placed Simple (a ∷ []) m found = absurd cc
message_placed Simple (a ∷ b ∷ []) m found = absurd cc
message_placed Simple (a ∷ b ∷ c ∷ []) m found = absurd cc
message_placed Simple (to ∷ said ∷ from ∷ header ∷ rest) m found = placed_of (to ∷ said ∷ from ∷ header ∷ rest) _ m (refl, refl) (passed _ _ m found)
message_placed Crc [] m found = absurd cc
message_placed Crc (a ∷ []) m found = absurd cc
message_placed Crc (a ∷ b ∷ []) m found = absurd cc
message_placed Crc (a ∷ b ∷ c ∷ []) m found = absurd cc
message_placed Crc (to ∷ said ∷ low ∷ header ∷ rest) m found = placed_of (to ∷ said ∷ low ∷ header ∷ rest) _ m (refl, refl) (passed _ _ m found)

-- the places of what the host asks
pub ask_to : (kind : CheckKind) (addr : ℕ) (q : Request) → slice_index (ask kind addr q) 0 ≡ addr
unfolding ask spelling
ask_to Simple addr q = refl
ask_to Crc addr q = refl

pub ask_header : (kind : CheckKind) (addr : ℕ) (q : Request) → slice_index (ask kind addr q) 3 ≡ header_of q
unfolding ask spelling
ask_header Simple addr q = refl
ask_header Crc addr q = refl

-- a message for another asks nothing
other_asks : (d : DeviceSetup) (piece : List ℕ) (found : Option Message) → message d.kind piece ≡ found → slice_index piece 0 ≢ d.addr → slice_index piece 0 ≢ 0 →
    option_and_then (asked_of d.addr) found ≡ None
other_asks d piece None was other some = refl
other_asks d piece (Some m) was other some =
    let to_is = (message_placed d.kind piece m was).0 in
    rw (ne_eqb m.to d.addr (λ e. other (sym to_is ∙ e)), ne_eqb m.to 0 (λ e. some (sym to_is ∙ e))) refl

pub asks_nothing : (d : DeviceSetup) (piece : List ℕ) → slice_index piece 0 ≢ d.addr → slice_index piece 0 ≢ 0 → asks_of d piece ≡ None
unfolding asks_of
asks_nothing d piece other some = other_asks d piece (message d.kind piece) refl other some

-- what is no message asks nothing
pub none_under : (kind : CheckKind) (piece : List ℕ) → IsNoMessage piece → message kind piece ≡ None
none_under Simple piece none = none.0
none_under Crc piece none = none.1

pub damaged_asks : (d : DeviceSetup) (piece : List ℕ) → IsNoMessage piece → asks_of d piece ≡ None
unfolding asks_of
damaged_asks d piece none = ap (option_and_then (asked_of d.addr)) (none_under d.kind piece none)

-- an honest wire brings a device nothing of what is sent to another
pub asked_elsewhere : (d : DeviceSetup) (f : WireFault) (sent : List ℕ) → IsHonestFault f sent → slice_index sent 0 ≢ d.addr → slice_index sent 0 ≢ 0 → asks_of d (heard_by_devices f sent) ≡ None
asked_elsewhere d fault.Clear sent honest other some = asks_nothing d sent other some
asked_elsewhere d (fault.DevicesHear piece) sent honest other some =
    damaged_asks d piece (honest_means (fault.DevicesHear piece) sent honest)
asked_elsewhere d (fault.HostHears piece) sent honest other some = asks_nothing d sent other some
asked_elsewhere d (fault.WholeHeard piece) sent honest other some = asks_nothing d sent other some

-- a poll of a scan asks nothing else of any device
to_one_others : (a : Option Request) → IsForOthers a → IsForOthers (to_one a)
to_one_others None others = tt
to_one_others (Some AddressPoll) others = tt
to_one_others a others = others

to_all_others : (a : Option Request) → IsForOthers (to_all a)
to_all_others None = tt
to_all_others (Some AddressPoll) = tt
to_all_others a = tt

asked_others : (own all : Bool) (a : Option Request) → IsForOthers a → IsForOthers (cond own (to_one a) (cond all (to_all a) None))
asked_others true all a others = to_one_others a others
asked_others false true a others = to_all_others a
asked_others false false a others = tt

poll_known : (q : Request) (all : Bool) → (header_of q == header_of (cond all AddressPoll SimplePoll)) ≡ true → IsForOthers (Some q)
poll_known SimplePoll all e = tt
poll_known AddressPoll all e = tt
poll_known q true e = absurd cc
poll_known q false e = absurd cc

poll_read : (addr header : ℕ) (body : List ℕ) (found : Option Request) → request_of header body ≡ found → header ≡ header_of (poll_of addr) → IsForOthers found
poll_read addr header body None was is = tt
poll_read addr header body (Some q) was is = poll_known q (addr == 0) (eq-eqb _ _ (sym (request_header header body q was) ∙ is))

poll_found : (d : DeviceSetup) (addr : ℕ) (piece : List ℕ) (found : Option Message) → message d.kind piece ≡ found → slice_index piece 3 ≡ header_of (poll_of addr) → IsForOthers (option_and_then (asked_of d.addr) found)
poll_found d addr piece None was is = tt
poll_found d addr piece (Some m) was is =
    let header_is : m.header ≡ header_of (poll_of addr) = (message_placed d.kind piece m was).1 ∙ is in
    asked_others (m.to == d.addr) (m.to == 0) (request_of m.header m.body) (poll_read addr m.header m.body (request_of m.header m.body) refl header_is)

poll_asks : (d : DeviceSetup) (kind : CheckKind) (addr : ℕ) → IsForOthers (asks_of d (ask kind addr (poll_of addr)))
unfolding asks_of
poll_asks d kind addr =
    let sent = ask kind addr (poll_of addr) in
    poll_found d addr sent (message d.kind sent) refl (ask_header kind addr (poll_of addr))

pub poll_others : (d : DeviceSetup) (f : WireFault) (kind : CheckKind) (addr : ℕ) → IsHonestFault f (ask kind addr (poll_of addr)) → IsForOthers (asks_of d (heard_by_devices f (ask kind addr (poll_of addr))))
poll_others d fault.Clear kind addr honest = poll_asks d kind addr
poll_others d (fault.DevicesHear piece) kind addr honest =
    let damage = honest_means (fault.DevicesHear piece) (ask kind addr (poll_of addr)) honest in
    subst IsForOthers (sym (damaged_asks d piece damage)) tt
poll_others d (fault.HostHears piece) kind addr honest = poll_asks d kind addr
poll_others d (fault.WholeHeard piece) kind addr honest = poll_asks d kind addr
