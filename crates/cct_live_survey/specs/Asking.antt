-- Questions over a link: which messages were sent, and what was made of what was heard.
use Rattle.std.specs.Prelude.{◌≡◌, ℕ, ◌+◌, ◌≤◌, ◌==◌, ◌&&◌, Bool, true, false, List, [], ◌∷◌}
use Rattle.std.specs.Prelude.{length, if◌then◌else◌, Option, Some, None, option_and_then, take}
use Rattle.std.specs.Option.{option_map}
use Rattle.cct_live_survey.specs.declared.category.TheConstants.{MOST_CATEGORY}
use Rattle.cct_model_wire.specs.declared.wire.CheckKind.{CheckKind}
use Rattle.cct_model_wire.specs.declared.wire.TheConstants.{BROADCAST, HOST}
use Rattle.cct_model_wire.specs.declared.request.Request.{Request}
use Rattle.cct_model_wire.specs.declared.request.Request.TheVariants as request
use Rattle.cct_model_wire.specs.declared.request.ReplyForm.{ReplyForm}
use Rattle.cct_model_wire.specs.Reply.{Reply, serial, text, coin_id}
use Rattle.cct_model_wire.specs.Message.{Message, message, spelling}
use Rattle.cct_model_wire.specs.Exchange.{after_echo, ask, got, is_for_host}
use Rattle.cct_live_survey.specs.declared.valuing.ValueRequest.{ValueRequest}
use Rattle.cct_live_survey.specs.declared.valuing.ValueRequest.TheVariants as value

-- A request that only asks who a device is, or which coin it knows.
abbrev pub is_identity : Request → Bool
is_identity request.SimplePoll = true
is_identity request.AddressPoll = true
is_identity request.Category = true
is_identity request.ProductCode = true
is_identity request.SerialNumber = true
is_identity (request.CoinId place) = true
is_identity q = false

-- The header of a question what a bill or a coin is worth (ccTalk Generic Specification 4, part 3).
abbrev pub value_header : ValueRequest → ℕ
value_header (value.BillId place) = 157
value_header (value.Scaling first second) = 156
value_header value.HopperCoin = 171
value_header (value.HopperValue place) = 131

-- Its data bytes.
abbrev pub value_data : ValueRequest → List ℕ
value_data (value.BillId place) = place ∷ []
value_data (value.Scaling first second) = first ∷ second ∷ []
value_data value.HopperCoin = []
value_data (value.HopperValue place) = place ∷ []

-- How many data bytes its reply has.
abbrev pub value_length : ValueRequest → ℕ
value_length (value.BillId place) = 7
value_length (value.Scaling first second) = 3
value_length value.HopperCoin = 6
value_length (value.HopperValue place) = 8

-- The serial number that a reply gives, if it is one.
abbrev pub serial_told : Option Reply → Option ℕ
serial_told (Some (serial number)) = Some number
serial_told found = None

-- The text that a reply gives, if it is one.
abbrev pub text_told : Option Reply → Option (List ℕ)
text_told (Some (text bytes)) = Some bytes
text_told found = None

-- The category that a reply gives, if it is a text.
abbrev pub category_told : Option Reply → Option (List ℕ)
category_told found = option_map (take MOST_CATEGORY) (text_told found)

-- The identification of a coin that a reply gives, if it is one.
abbrev pub id_told : Option Reply → Option (List ℕ)
id_told (Some (coin_id characters)) = Some characters
id_told found = None

-- The reply to a request in a form, in what was heard.
abbrev pub reply_to : CheckKind → ℕ → Request → ReplyForm → List ℕ → Option Reply
reply_to kind addr q form heard = got kind addr form (ask kind addr q) heard

-- The answers to a poll of all devices, bare bytes, in what was heard.
abbrev pub answers_to_all : CheckKind → List ℕ → Option (List ℕ)
answers_to_all kind heard = after_echo (ask kind BROADCAST request.AddressPoll) heard

-- The message by which the host asks what a bill or a coin is worth.
abbrev pub asking_value : ℕ → ValueRequest → Message
asking_value addr q =
    record { to = addr; from = Some HOST; header = value_header q; body = value_data q }

-- Its bytes.
unfoldable pub ask_value : CheckKind → ℕ → ValueRequest → List ℕ
ask_value kind addr q = spelling kind (asking_value addr q)

-- The data bytes of a reply to the host from an address, if there are so many.
abbrev pub data_from : ℕ → ℕ → Message → Option (List ℕ)
data_from many addr m =
    if is_for_host addr m && (m.header == 0) && (length m.body == many) then Some m.body else None

-- The data bytes of the reply to such a question, in what was heard.
unfoldable pub value_in : CheckKind → ℕ → ValueRequest → List ℕ → Option (List ℕ)
value_in kind addr q heard =
    option_and_then (data_from (value_length q) addr)
    (option_and_then (message kind) (after_echo (ask_value kind addr q) heard))

-- Over a link of which is known what an exchange gives.
module _ {L : Type 0} (gives : L → List ℕ → List ℕ → L → Type 0) where
  -- One message was sent so many times, none of them but the last answered, and this is the answer
  -- of the last.
  pub data Tries {A : Type 0} (piece : List ℕ) (answer : List ℕ → Option A) (first : L) : ℕ →
      Option A → L → Type 0 where
    untried : Tries piece answer first 0 None first
    tried : (made : ℕ) (heard : List ℕ) (line next : L) → Tries piece answer first made None line
        → gives line piece heard next → Tries piece answer first (made + 1) (answer heard) next

  -- It was sent at least once, and at most so many times.
  pub record Asked (most : ℕ) {A : Type 0} (piece : List ℕ) (answer : List ℕ → Option A) (first : L)
      (found : Option A) (last : L) : Type 0 where
    pub made : ℕ
    pub some : 1 ≤ made
    pub few : made ≤ most
    pub tries : Tries piece answer first made found last

  -- The device at an address was asked a request for a reply of a form, at most so many times, and
  -- this is what was made of the reply.
  pub record Asks (most : ℕ) {A : Type 0} (kind : CheckKind) (addr : ℕ) (q : Request)
      (form : ReplyForm) (made_of : Option Reply → A) (first : L) (told : A) (last : L) : Type 0 where
    pub found : Option Reply
    pub asked : Asked most (ask kind addr q) (reply_to kind addr q form) first found last
    pub told_is : told ≡ made_of found

  -- Questions of this kind were asked, one after another, each at most three times, and nothing
  -- else was sent.
  pub data Inquires (first : L) : L → Type 0 where
    still : Inquires first first
    asks_one : (most : ℕ) (kind : CheckKind) (addr : ℕ) (q : Request) (form : ReplyForm)
        (found : Option Reply) (line next : L)
        → Inquires first line → is_identity q ≡ true → most ≤ 3
        → Asked most (ask kind addr q) (reply_to kind addr q form) line found next →
        Inquires first next
    asks_all : (kind : CheckKind) (found : Option (List ℕ)) (line next : L) → Inquires first line
        → Asked 3 (ask kind BROADCAST request.AddressPoll) (answers_to_all kind) line found next →
        Inquires first next
    asks_value : (kind : CheckKind) (addr : ℕ) (q : ValueRequest) (found : Option (List ℕ))
        (line next : L) → Inquires first line
        → Asked 3 (ask_value kind addr q) (value_in kind addr q) line found next →
        Inquires first next
