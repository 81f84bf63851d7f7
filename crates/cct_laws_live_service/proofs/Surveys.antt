-- The questions of a survey are a chain of which nothing is reported.
use Rattle.std.proofs.Common.{◌≡◌, ℕ, ◌==◌, Bool, true, false, cond, List, [], slice_index, refl, sym, ◌∙◌, Option, Some, None, option_and_then, eq-eqb}
use Rattle.cct_model.specs.terms.wire.CheckKind.{CheckKind}
use Rattle.cct_model.specs.terms.wire.CheckKind.TheVariants.{Simple, Crc}
use Rattle.cct_model.specs.terms.wire.TheConstants.{BROADCAST}
use Rattle.cct_model.specs.terms.device.DeviceSetup.{DeviceSetup}
use Rattle.cct_model.specs.terms.request.Request.{Request}
use Rattle.cct_model.specs.terms.request.Request.TheVariants as request
use Rattle.cct_model.specs.Exchange.{ask, asked_of, asks_of, to_all, to_one}
use Rattle.cct_model.specs.Message.{Message, message, spelling}
use Rattle.cct_model.specs.Reply.{Reply}
use Rattle.cct_model.specs.Request.{header_of, request_of}
use Rattle.cct_model.proofs.Requests.{request_header}
use Rattle.cct_laws_live_devices.specs.Questions.{is_question}
use Rattle.cct_laws_live_devices.proofs.Surveyed.{header_placed}
use Rattle.cct_laws_live_devices.specs.Chain.{Chain, IsAsking, not_begun}
use Rattle.cct_laws_live_devices.proofs.Chains.{asks_no_more, chains}
use Rattle.cct_live_survey.specs.declared.valuing.ValueRequest.{ValueRequest}
use Rattle.cct_live_survey.specs.declared.valuing.ValueRequest.TheVariants as value
use Rattle.cct_live_survey.specs.Asking.{Inquires, answers_to_all, ask_value, asks_all, asks_one, asks_value, is_identity, reply_to, still, value_header, value_in}
use Rattle.cct_laws_live_service.proofs.Rolls.{tries_chain}

-- the questions of a survey who a device is are those of a world
identity_asks : (q : Request) → is_identity q ≡ true → is_question (Some q) ≡ true
identity_asks request.SimplePoll is = refl
identity_asks request.AddressPoll is = refl
identity_asks request.Category is = refl
identity_asks request.ProductCode is = refl
identity_asks request.SerialNumber is = refl
identity_asks (request.CoinId place) is = refl
identity_asks q is = absurd cc

-- what a bill or a coin is worth is no request that the model's devices know
no_bill : (q : Request) → (header_of q == 157) ≡ true → ⊥
no_bill request.SimplePoll is = cc is
no_bill q is = cc is

no_scaling : (q : Request) → (header_of q == 156) ≡ true → ⊥
no_scaling request.SimplePoll is = cc is
no_scaling q is = cc is

no_coin : (q : Request) → (header_of q == 171) ≡ true → ⊥
no_coin request.SimplePoll is = cc is
no_coin q is = cc is

no_value : (q : Request) → (header_of q == 131) ≡ true → ⊥
no_value request.SimplePoll is = cc is
no_value q is = cc is

none_known : (v : ValueRequest) (q : Request) → (header_of q == value_header v) ≡ true → ⊥
none_known (value.BillId place) q is = no_bill q is
none_known (value.Scaling first second) q is = no_scaling q is
none_known value.HopperCoin q is = no_coin q is
none_known (value.HopperValue place) q is = no_value q is

value_placed : (kind : CheckKind) (addr : ℕ) (v : ValueRequest) → slice_index (ask_value kind addr v) 3 ≡ value_header v
unfolding ask_value spelling
value_placed Simple addr v = refl
value_placed Crc addr v = refl

unknown : (v : ValueRequest) (header : ℕ) (body : List ℕ) (found : Option Request) → request_of header body ≡ found →
    header ≡ value_header v → found ≡ None
unknown v header body None was is = refl
unknown v header body (Some q) was is =
    absurd (none_known v q (eq-eqb (header_of q) (value_header v) (sym (request_header header body q was) ∙ is)))

nothing_asked : (own all : Bool) (a : Option Request) → a ≡ None → is_question (cond own (to_one a) (cond all (to_all a) None)) ≡ true
nothing_asked true all None is = refl
nothing_asked false true None is = refl
nothing_asked false false None is = refl
nothing_asked own all (Some q) is = absurd cc

value_found : (d : DeviceSetup) (v : ValueRequest) (piece : List ℕ) (found : Option Message) → message d.kind piece ≡ found →
    slice_index piece 3 ≡ value_header v → is_question (option_and_then (asked_of d.addr) found) ≡ true
value_found d v piece None was is = refl
value_found d v piece (Some m) was is =
    nothing_asked (m.to == d.addr) (m.to == BROADCAST) (request_of m.header m.body)
    (unknown v m.header m.body (request_of m.header m.body) refl (header_placed d.kind piece m was ∙ is))

value_asks : (kind : CheckKind) (addr : ℕ) (v : ValueRequest) → IsAsking (ask_value kind addr v)
unfolding asks_of
value_asks kind addr v d =
    value_found d v (ask_value kind addr v) (message d.kind (ask_value kind addr v)) refl (value_placed kind addr v)

module _ {L : Type 0} (gives : L → List ℕ → List ℕ → L → Type 0) where
  pub survey_chain : (first last : L) → Inquires gives first last → Chain gives first [] last
  survey_chain first _ still = not_begun
  survey_chain first _ (asks_one most kind addr q form found line next goes is few asked) =
      chains gives first line next [] [] (survey_chain first line goes)
      (tries_chain gives Reply (ask kind addr q) (reply_to kind addr q form) line asked.made found next
      (asks_no_more kind addr q (identity_asks q is)) asked.tries)
  survey_chain first _ (asks_all kind found line next goes asked) =
      chains gives first line next [] [] (survey_chain first line goes)
      (tries_chain gives (List ℕ) (ask kind BROADCAST request.AddressPoll) (answers_to_all kind) line asked.made found next
      (asks_no_more kind BROADCAST request.AddressPoll refl) asked.tries)
  survey_chain first _ (asks_value kind addr v found line next goes asked) =
      chains gives first line next [] [] (survey_chain first line goes)
      (tries_chain gives (List ℕ) (ask_value kind addr v) (value_in kind addr v) line asked.made found next
      (value_asks kind addr v) asked.tries)
