-- The definitions at published and worked values: the CRC's check value, messages, and what an acceptor
-- answers.
use Rattle.std.proofs.Common.{◌≡◌, [], ◌∷◌, Some, None, codes, refl, false, replicate}
use Rattle.cct_model_wire.specs.declared.coin.TheConstants.{COIN_PLACES}
use Rattle.cct_model_wire.specs.declared.device.DeviceBody.TheVariants.{Acceptor}
use Rattle.cct_model_wire.specs.declared.wire.CheckKind.TheVariants.{Simple, Crc}
use Rattle.cct_model_wire.specs.Message.{crc, message, spelling}
use Rattle.cct_model_wire.specs.declared.device.DeviceSetup.{DeviceSetup}
use Rattle.cct_model_wire.specs.declared.request.Request.TheVariants.{AddressPoll, ReadCredits, SetMask, SetPath, Dispense, CipherDispense}
use Rattle.cct_model_wire.specs.Request.{data_of, request_of, requests_with}
use Rattle.cct_model_wire.specs.Reply.{reply_data, nak, text, serial}
use Rattle.cct_model_wire.specs.History.{coin, reset, heard}
use Rattle.cct_model_wire.specs.Setting.{has_place}
use Rattle.cct_model_wire.specs.Acceptor.{coin_event, credits_of, last_five, accept_count, acceptor_reply}
use Rattle.cct_model_wire.specs.Device.{common_reply, reply_of}
use Rattle.cct_model_wire.specs.Exchange.{answer, ask, asker, asks_of, replying}

crc_of_digits : crc (codes "123456789") ≡ 12739
unfolding crc
crc_of_digits = refl

-- a simple poll of address 2, under either check
simple_poll : spelling Simple (record { to = 2; from = Some 1; header = 254; body = [] }) ≡ 2 ∷ 0 ∷ 1 ∷ 254 ∷ 255 ∷ []
unfolding spelling
simple_poll = refl

crc_poll : spelling Crc (record { to = 2; from = None; header = 254; body = [] }) ≡ 2 ∷ 0 ∷ 177 ∷ 254 ∷ 96 ∷ []
unfolding spelling crc
crc_poll = refl

crc_poll_read : message Crc (2 ∷ 0 ∷ 177 ∷ 254 ∷ 96 ∷ []) ≡ Some (record { to = 2; from = None; header = 254; body = [] })
unfolding message crc
crc_poll_read = refl

-- requests as the host asks them, under either check
asks_all : ask Simple 0 AddressPoll ≡ 0 ∷ 0 ∷ 1 ∷ 253 ∷ 2 ∷ []
unfolding ask spelling data_of
asks_all = refl

sets_a_mask : ask Simple 2 (SetMask 32769) ≡ 2 ∷ 2 ∷ 1 ∷ 231 ∷ 1 ∷ 128 ∷ 147 ∷ []
unfolding ask spelling data_of
sets_a_mask = refl

pays_four : ask Simple 3 (Dispense 197121 4) ≡ 3 ∷ 4 ∷ 1 ∷ 167 ∷ 1 ∷ 2 ∷ 3 ∷ 4 ∷ 71 ∷ []
unfolding ask spelling data_of
pays_four = refl

pays_under_a_cipher : ask Simple 3 CipherDispense ≡ 3 ∷ 9 ∷ 1 ∷ 167 ∷ 0 ∷ 0 ∷ 0 ∷ 0 ∷ 0 ∷ 0 ∷ 0 ∷ 0 ∷ 0 ∷ 76 ∷ []
unfolding ask spelling data_of
pays_under_a_cipher = refl

reads_under_the_crc : ask Crc 2 ReadCredits ≡ 2 ∷ 0 ∷ 235 ∷ 229 ∷ 195 ∷ []
unfolding ask spelling data_of crc
reads_under_the_crc = refl

sets_a_mask_under_the_crc : ask Crc 2 (SetMask 32769) ≡ 2 ∷ 2 ∷ 243 ∷ 231 ∷ 1 ∷ 128 ∷ 46 ∷ []
unfolding ask spelling data_of crc
sets_a_mask_under_the_crc = refl

-- replies of device 2: a text, the serial number 12345678, and a refusal under the CRC
tells_a_text : spelling Simple (replying 1 2 (text (codes "Hopper"))) ≡ 1 ∷ 6 ∷ 2 ∷ 0 ∷ 72 ∷ 111 ∷ 112 ∷ 112 ∷ 101 ∷ 114 ∷ 137 ∷ []
unfolding spelling reply_data
tells_a_text = refl

tells_a_serial_number : spelling Simple (replying 1 2 (serial 12345678)) ≡ 1 ∷ 3 ∷ 2 ∷ 0 ∷ 78 ∷ 97 ∷ 188 ∷ 143 ∷ []
unfolding spelling reply_data
tells_a_serial_number = refl

refuses_under_the_crc : spelling Crc (replying 1 2 nak) ≡ 1 ∷ 0 ∷ 149 ∷ 5 ∷ 103 ∷ []
unfolding spelling reply_data crc
refuses_under_the_crc = refl

-- an acceptor at address 2
abbrev the_acceptor : DeviceSetup
the_acceptor = record {
  addr = 2;
  kind = Simple;
  serial = 1;
  texts = record { maker = codes "BENCH"; product = codes "CCT"; software = codes "1"; build = codes "1" };
  named = false;
  body = Acceptor 0 (replicate COIN_PLACES 0) (replicate COIN_PLACES (codes "......"));
}

-- an acceptor answers a poll, and a fresh one the request for its credits, for its product code, and for a path of a
-- place that it doesn't have
answers_poll : answer the_acceptor [] (2 ∷ 0 ∷ 1 ∷ 254 ∷ 255 ∷ []) ≡ Some (1 ∷ 0 ∷ 2 ∷ 0 ∷ 253 ∷ [])
unfolding asker asks_of message request_of requests_with reply_of common_reply reply_data spelling
answers_poll = refl

answers_fresh : answer the_acceptor [] (2 ∷ 0 ∷ 1 ∷ 229 ∷ 24 ∷ []) ≡ Some (1 ∷ 11 ∷ 2 ∷ 0 ∷ 0 ∷ 0 ∷ 0 ∷ 0 ∷ 0 ∷ 0 ∷ 0 ∷ 0 ∷ 0 ∷ 0 ∷ 0 ∷ 242 ∷ [])
unfolding asker asks_of message request_of requests_with reply_of common_reply acceptor_reply reply_data spelling
answers_fresh = refl

answers_category : answer the_acceptor [] (2 ∷ 0 ∷ 1 ∷ 245 ∷ 8 ∷ []) ≡ Some (1 ∷ 13 ∷ 2 ∷ 0 ∷ 67 ∷ 111 ∷ 105 ∷ 110 ∷ 32 ∷ 65 ∷ 99 ∷ 99 ∷ 101 ∷ 112 ∷ 116 ∷ 111 ∷ 114 ∷ 22 ∷ [])
unfolding asker asks_of message request_of requests_with reply_of common_reply reply_data spelling
answers_category = refl

refuses_place_17 : answer the_acceptor [] (2 ∷ 2 ∷ 1 ∷ 210 ∷ 17 ∷ 1 ∷ 23 ∷ []) ≡ Some (1 ∷ 0 ∷ 2 ∷ 5 ∷ 248 ∷ [])
unfolding asker asks_of message request_of requests_with reply_of common_reply acceptor_reply reply_data spelling
refuses_place_17 = refl

-- an address poll is answered by the bare address, at address 0 alone
answers_address_poll : answer the_acceptor [] (0 ∷ 0 ∷ 1 ∷ 253 ∷ 2 ∷ []) ≡ Some (2 ∷ [])
unfolding asker asks_of message request_of requests_with reply_of common_reply acceptor_reply
answers_address_poll = refl

silent_to_its_own_address_poll : answer the_acceptor [] (2 ∷ 0 ∷ 1 ∷ 253 ∷ 0 ∷ []) ≡ None
unfolding asker asks_of message request_of requests_with
silent_to_its_own_address_poll = refl

silent_to_a_hopper_s_request : answer the_acceptor [] (2 ∷ 0 ∷ 1 ∷ 161 ∷ 92 ∷ []) ≡ None
unfolding asker asks_of message request_of requests_with reply_of common_reply acceptor_reply
silent_to_a_hopper_s_request = refl

-- a coin of an accepted place falls by the path that was set for it, and after a reset it is inhibited
accepted_by_path : coin_event (heard (Some (SetPath 5 3)) ∷ heard (Some (SetMask 65535)) ∷ []) 5 ≡ record { a = 5; b = 3 }
unfolding has_place
accepted_by_path = refl

inhibited_after_reset : credits_of (coin 5 ∷ reset ∷ coin 5 ∷ heard (Some (SetMask 65535)) ∷ []) ≡ record { counter = 1; pairs = last_five (record { a = 0; b = 2 } ∷ []) }
unfolding has_place
inhibited_after_reset = refl

counted_over_reset : accept_count 16777215 (coin 5 ∷ reset ∷ coin 5 ∷ heard (Some (SetMask 65535)) ∷ []) ≡ 0
unfolding has_place
counted_over_reset = refl
