-- A worked run of any host: a host that keeps no journal sets a mask, reads the credits before and after a coin, and reads the
-- mask.
use Rattle.std.proofs.Common.{◌≡◌, ℕ, List, [], ◌∷◌, ◌++◌, map, replicate, refl, false, arith}
use Rattle.std.specs.Prelude.{codes}
use Rattle.cct_model.specs.terms.coin.Coin.{Coin}
use Rattle.cct_model.specs.terms.wire.CheckKind.TheVariants.{Simple}
use Rattle.cct_model.specs.terms.device.DeviceBody.TheVariants.{Acceptor, Bill}
use Rattle.cct_model.specs.terms.device.Setup.{Setup}
use Rattle.cct_model.specs.lines.command.Step.TheVariants as step
use Rattle.cct_model.specs.lines.entry.Entry.{Entry}
use Rattle.cct_model.specs.lines.entry.Entry.TheVariants as entry
use Rattle.cct_audit_taps.specs.declared.said.Said.TheVariants.{Sure, Quiet}
use Rattle.cct_model.specs.Message.{message, spelling, crc}
use Rattle.cct_model.specs.Request.{data_of, request_of, requests_with, form_of}
use Rattle.cct_model.specs.Reply.{reply_data, reply_in}
use Rattle.cct_model.specs.Setting.{has_place}
use Rattle.cct_model.specs.Acceptor.{acceptor_reply}
use Rattle.cct_model.specs.Bill.{bill_reply}
use Rattle.cct_model.specs.Device.{common_reply, reply_of}
use Rattle.cct_model.specs.Exchange.{ask, asked, asks_of, asker, after_echo, got}
use Rattle.cct_model.specs.Honest.{HonestPast}
use Rattle.cct_model.specs.Transcript.{heard_after}
use Rattle.cct_model.specs.Reading.{distance}
use Rattle.cct_audit_taps.specs.declared.money.Money.TheVariants.{Coins, Bills}
use Rattle.cct_monitor.specs.declared.watched.Family.TheVariants as watched_as
use Rattle.cct_monitor.specs.Watches.{Watch, all_told, made_tap, made_watch}
use Rattle.cct_laws_any_host.specs.Wild.{WildStep, outside, exchange, WildFrom, taps}

-- an acceptor at address 2, all whose coins are worth 100
abbrev setup : Setup
setup = record {
  devices =
      record {
        addr = 2;
        kind = Simple;
        serial = 1;
        texts = record { maker = codes "BENCH"; product = codes "CCT"; software = codes "1"; build = codes "1" };
        named = false;
        body = Acceptor 0 (replicate 16 100) (replicate 16 (codes "XX100A"));
      }
      ∷ [];
}

abbrev coin : Coin
coin = record { place = 1; path = 1 }

-- it is asked to let in all coins, for its credits, and for its mask; and what it replies
abbrev sets_mask : List ℕ
sets_mask = 2 ∷ 2 ∷ 1 ∷ 231 ∷ 255 ∷ 255 ∷ 22 ∷ []

abbrev acknowledged : List ℕ
acknowledged = 1 ∷ 0 ∷ 2 ∷ 0 ∷ 253 ∷ []

abbrev asks_credits : List ℕ
asks_credits = 2 ∷ 0 ∷ 1 ∷ 229 ∷ 24 ∷ []

abbrev no_event_yet : List ℕ
no_event_yet = 1 ∷ 11 ∷ 2 ∷ 0 ∷ 0 ∷ 0 ∷ 0 ∷ 0 ∷ 0 ∷ 0 ∷ 0 ∷ 0 ∷ 0 ∷ 0 ∷ 0 ∷ 242 ∷ []

abbrev one_event : List ℕ
one_event = 1 ∷ 11 ∷ 2 ∷ 0 ∷ 1 ∷ 1 ∷ 1 ∷ 0 ∷ 0 ∷ 0 ∷ 0 ∷ 0 ∷ 0 ∷ 0 ∷ 0 ∷ 239 ∷ []

abbrev asks_mask : List ℕ
asks_mask = 2 ∷ 0 ∷ 1 ∷ 230 ∷ 23 ∷ []

abbrev all_let_in : List ℕ
all_let_in = 1 ∷ 2 ∷ 2 ∷ 0 ∷ 255 ∷ 255 ∷ 253 ∷ []

abbrev steps : List WildStep
steps =
    exchange sets_mask ∷ exchange asks_credits ∷ outside (step.Coin 2 1) ∷ exchange asks_credits ∷ exchange asks_mask
    ∷ []

abbrev masked : Entry
masked = entry.Wire 2 sets_mask (sets_mask ++ acknowledged)

abbrev read_first : Entry
read_first = entry.Wire 2 asks_credits (asks_credits ++ no_event_yet)

abbrev came_in : Entry
came_in = entry.Accepted 2 coin

abbrev read_last : Entry
read_last = entry.Wire 2 asks_credits (asks_credits ++ one_event)

abbrev shows_mask : Entry
shows_mask = entry.Wire 2 asks_mask (asks_mask ++ all_let_in)

abbrev past : List Entry
past = shows_mask ∷ read_last ∷ came_in ∷ read_first ∷ masked ∷ []

-- it is a run of any host over an honest wire
run : WildFrom setup [] steps past
unfolding message spelling crc data_of request_of requests_with form_of reply_data reply_in has_place acceptor_reply
    common_reply reply_of ask asked asks_of asker after_echo heard_after
run = (
  masked ∷ [],
  (2, refl),
  (
    read_first ∷ [],
    (2, refl),
    (
      came_in ∷ [],
      (tt, (omega arith, omega arith), refl),
      (read_last ∷ [], (2, refl), (shows_mask ∷ [], (2, refl), refl)),
    ),
  ),
)

honest : HonestPast past
honest = (refl, (refl, (tt, (refl, (refl, tt)))))

-- and the coin is sure, between the second tap and the third
abbrev watched : Watch
watched = record { addr = 2; kind = Simple; family = watched_as.Acceptor }

coin_is_sure : all_told (map made_tap (taps past) ++ map made_watch (watched ∷ [])) ≡ Sure 2 2 3 (coin ∷ []) ∷ []
unfolding message request_of requests_with form_of reply_in got after_echo distance
coin_is_sure = refl

-- one that is watched for resets alone needs no mask
abbrev watched_quietly : Watch
watched_quietly = record { addr = 2; kind = Simple; family = watched_as.QuietAcceptor Coins }

coin_is_quiet : all_told (map made_tap (taps past) ++ map made_watch (watched_quietly ∷ [])) ≡ Quiet 2 2 3 (coin ∷ []) ∷ []
unfolding message request_of requests_with form_of reply_in got after_echo distance
coin_is_quiet = refl

-- a bill acceptor at address 40: a bill of place 5 is held, and stacked
abbrev banking : Setup
banking = record {
  devices =
      record {
        addr = 40;
        kind = Simple;
        serial = 1;
        texts = record { maker = codes "BENCH"; product = codes "CCT"; software = codes "1"; build = codes "1" };
        named = false;
        body = Bill 0 (replicate 16 500) (replicate 16 (codes "XX500A"));
      }
      ∷ [];
}

abbrev bill : Coin
bill = record { place = 5; path = 0 }

abbrev sets_bills : List ℕ
sets_bills = 40 ∷ 2 ∷ 1 ∷ 231 ∷ 255 ∷ 255 ∷ 240 ∷ []

abbrev asks_bills : List ℕ
asks_bills = 40 ∷ 0 ∷ 1 ∷ 159 ∷ 56 ∷ []

abbrev stacks : List ℕ
stacks = 40 ∷ 1 ∷ 1 ∷ 154 ∷ 1 ∷ 59 ∷ []

abbrev acknowledged_bills : List ℕ
acknowledged_bills = 1 ∷ 0 ∷ 40 ∷ 0 ∷ 215 ∷ []

abbrev no_bill_yet : List ℕ
no_bill_yet = 1 ∷ 11 ∷ 40 ∷ 0 ∷ 0 ∷ 0 ∷ 0 ∷ 0 ∷ 0 ∷ 0 ∷ 0 ∷ 0 ∷ 0 ∷ 0 ∷ 0 ∷ 204 ∷ []

abbrev bill_is_held : List ℕ
bill_is_held = 1 ∷ 11 ∷ 40 ∷ 0 ∷ 1 ∷ 5 ∷ 1 ∷ 0 ∷ 0 ∷ 0 ∷ 0 ∷ 0 ∷ 0 ∷ 0 ∷ 0 ∷ 197 ∷ []

abbrev bill_is_stacked : List ℕ
bill_is_stacked = 1 ∷ 11 ∷ 40 ∷ 0 ∷ 2 ∷ 5 ∷ 0 ∷ 5 ∷ 1 ∷ 0 ∷ 0 ∷ 0 ∷ 0 ∷ 0 ∷ 0 ∷ 191 ∷ []

abbrev bill_steps : List WildStep
bill_steps =
    exchange sets_bills ∷ exchange asks_bills ∷ outside (step.Bill 40 5) ∷ exchange asks_bills ∷ exchange stacks
    ∷ exchange asks_bills ∷ []

abbrev bills_set : Entry
bills_set = entry.Wire 40 sets_bills (sets_bills ++ acknowledged_bills)

abbrev bills_first : Entry
bills_first = entry.Wire 40 asks_bills (asks_bills ++ no_bill_yet)

abbrev bills_then : Entry
bills_then = entry.Wire 40 asks_bills (asks_bills ++ bill_is_held)

abbrev routes : Entry
routes = entry.Wire 40 stacks (stacks ++ acknowledged_bills)

abbrev bills_last : Entry
bills_last = entry.Wire 40 asks_bills (asks_bills ++ bill_is_stacked)

abbrev bill_past : List Entry
bill_past = bills_last ∷ routes ∷ bills_then ∷ entry.Held 40 5 ∷ bills_first ∷ bills_set ∷ []

bill_run : WildFrom banking [] bill_steps bill_past
unfolding message spelling crc data_of request_of requests_with form_of reply_data reply_in has_place bill_reply
    common_reply reply_of ask asked asks_of asker after_echo heard_after
bill_run = (
  bills_set ∷ [],
  (40, refl),
  (
    bills_first ∷ [],
    (40, refl),
    (
      entry.Held 40 5 ∷ [],
      (tt, (omega arith, omega arith), refl),
      (bills_then ∷ [], (40, refl), (routes ∷ [], (40, refl), (bills_last ∷ [], (40, refl), refl))),
    ),
  ),
)

-- it is reported as stacked between the third exchange and the fifth; while it was held it was none
abbrev bills_watched : Watch
bills_watched = record { addr = 40; kind = Simple; family = watched_as.QuietAcceptor Bills }

bill_is_quiet :
    all_told (map made_tap (taps bill_past) ++ map made_watch (bills_watched ∷ []))
    ≡ Quiet 40 2 3 [] ∷ Quiet 40 3 5 (bill ∷ []) ∷ []
unfolding message request_of requests_with form_of reply_in got after_echo distance
bill_is_quiet = refl
