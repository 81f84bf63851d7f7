-- Two lives of a host, one after the other over one journal, on a line that is silent, damaged, and well. A life over an
-- epoch that was found, on a line that lies about counters, and one over that of a bill acceptor. And what no host does that
-- finds an order open, or that holds a bill.
use Rattle.std.proofs.Common.{◌≡◌, ℕ, ◌≤◌, arith, false, List, [], ◌∷◌, ◌++◌, inr, replicate, refl, Some, None, All}
use Rattle.std.specs.Prelude.{⊤, codes}
use Rattle.std.proofs.lemmas.List.Elements.{All-nil, All-cons}
use Rattle.cct_model.specs.terms.wire.CheckKind.TheVariants.{Simple}
use Rattle.cct_model.specs.terms.coin.Coin.{Coin}
use Rattle.cct_model.specs.terms.device.DeviceBody.TheVariants.{Acceptor, Bill, Hopper}
use Rattle.cct_model.specs.terms.device.DeviceSetup.{DeviceSetup}
use Rattle.cct_model.specs.terms.device.Setup.{Setup}
use Rattle.cct_model.specs.terms.device.Texts.{Texts}
use Rattle.cct_model.specs.lines.command.Command.TheVariants as command
use Rattle.cct_model.specs.lines.command.CommandNo.TheVariants.{NoEpoch}
use Rattle.cct_model.specs.lines.record.Record.{Record}
use Rattle.cct_model.specs.lines.record.Record.TheVariants as record_of
use Rattle.cct_model.specs.lines.entry.End.TheVariants.{Posted, RouteUnsure}
use Rattle.cct_model.specs.lines.entry.Entry.{Entry}
use Rattle.cct_model.specs.lines.entry.Entry.TheVariants as entry
use Rattle.cct_model.specs.Message.{message, spelling}
use Rattle.cct_model.specs.Request.{data_of, request_of, requests_with, form_of}
use Rattle.cct_model.specs.Reply.{reply_data, reply_in}
use Rattle.cct_model.specs.Setting.{has_place}
use Rattle.cct_model.specs.Exchange.{ask, asked, asks_of, after_echo, got}
use Rattle.cct_model.specs.Transcript.{got_by}
use Rattle.cct_model.specs.Reading.{distance, accepted_between, judge}
use Rattle.cct_model.specs.Records.{records}
use Rattle.cct_laws_live.specs.Counters.{IsTallied, told_in}
use Rattle.cct_laws_live.specs.Life.{IsLife, IsLifeStep}
use Rattle.cct_laws_live.specs.LiveStep.{LiveStep}
use Rattle.cct_laws_live.specs.LiveStep as live
use Rattle.cct_laws_live.specs.Live.{LiveEntries, LiveFrom, started}
use Rattle.cct_laws_live.specs.Posts.{PostAt}
use Rattle.cct_laws_live.specs.Routes.{RoutedAt, routed_in}
use Rattle.cct_laws_live.specs.Sends.{SentAt}

-- a coin acceptor at address 2, and a bill acceptor at address 4
abbrev pub texts : Texts
texts = record { maker = codes "BENCH"; product = codes "CCT"; software = codes "1"; build = codes "1" }

abbrev pub banker : DeviceSetup
banker = record {
  addr = 4;
  kind = Simple;
  serial = 9;
  texts = texts;
  named = false;
  body = Bill 0 (replicate 16 500) (replicate 16 (codes "XX500A"));
}

abbrev pub taker : DeviceSetup
taker = record {
  addr = 2;
  kind = Simple;
  serial = 1;
  texts = texts;
  named = false;
  body = Acceptor 0 (replicate 16 100) (replicate 16 (codes "XX100A"));
}

abbrev setup : Setup
setup = record { devices = taker ∷ banker ∷ [] }

-- one step of a run with its entries, newest first
pub record Row : Type 0 where
  pub step : LiveStep
  pub news : List Entry

-- each of these rows has the entries of its step, after the rows before it
abbrev pub Lives : Setup → List Entry → List Row → Type 0
Lives the past [] = ⊤
Lives the past (row ∷ rows) = LiveEntries 65535 the past row.step row.news × Lives the (row.news ++ past) rows

abbrev pub after : List Entry → List Row → List Entry
after past [] = past
after past (row ∷ rows) = after (row.news ++ past) rows

abbrev pub steps_of : List Row → List LiveStep
steps_of [] = []
steps_of (row ∷ rows) = row.step ∷ steps_of rows

abbrev pub one : LiveStep → Entry → Row
one step e = record { step = step; news = e ∷ [] }

-- the acceptor is silent, and then its reply is damaged; the process ends, and the next one begins anew, hears well, and
-- ends in its put
abbrev two_lives : List Row
two_lives =
    one (live.command (command.Start 2 65535)) (entry.Taken (command.Start 2 65535))
    ∷ one (live.next 2) (entry.Wire 2 (2 ∷ 0 ∷ 1 ∷ 1 ∷ 252 ∷ []) (2 ∷ 0 ∷ 1 ∷ 1 ∷ 252 ∷ []))
    ∷ one (live.next 2) (entry.Wire 2 (2 ∷ 0 ∷ 1 ∷ 1 ∷ 252 ∷ []) (2 ∷ 0 ∷ 1 ∷ 1 ∷ 252 ∷ 1 ∷ 0 ∷ 2 ∷ 0 ∷ 254 ∷ []))
    ∷ one (live.start None) (entry.Crash 0)
    ∷ one (live.next 2) (entry.Idle 2)
    ∷ one (live.command (command.Round 2)) (entry.No (command.Round 2) NoEpoch)
    ∷ one (live.command (command.Start 2 65535)) (entry.Taken (command.Start 2 65535))
    ∷ one (live.next 2) (entry.Wire 2 (2 ∷ 0 ∷ 1 ∷ 1 ∷ 252 ∷ []) (2 ∷ 0 ∷ 1 ∷ 1 ∷ 252 ∷ 1 ∷ 0 ∷ 2 ∷ 0 ∷ 253 ∷ []))
    ∷ one (live.next 2) (entry.Wire 2 (2 ∷ 0 ∷ 1 ∷ 229 ∷ 24 ∷ []) (2 ∷ 0 ∷ 1 ∷ 229 ∷ 24 ∷ 1 ∷ 11 ∷ 2 ∷ 0 ∷ 0 ∷ 0 ∷ 0 ∷ 0 ∷ 0 ∷ 0 ∷ 0 ∷ 0 ∷ 0 ∷ 0 ∷ 0 ∷ 242 ∷ []))
    ∷ one (live.next 2) (entry.Wire 2 (2 ∷ 0 ∷ 1 ∷ 225 ∷ 28 ∷ []) (2 ∷ 0 ∷ 1 ∷ 225 ∷ 28 ∷ 1 ∷ 3 ∷ 2 ∷ 0 ∷ 0 ∷ 0 ∷ 0 ∷ 250 ∷ []))
    ∷ record {
      step = live.start (Some (record { addr = 2; calls = 3 }));
      news = entry.Kept (record_of.Epoch 2 65535 0) ∷ entry.Crash 1 ∷ [];
    }
    ∷ one (live.command (command.Round 2)) (entry.Taken (command.Round 2))
    ∷ []

two_lived : Lives setup [] two_lives
unfolding message spelling data_of request_of requests_with form_of reply_data reply_in has_place ask asked asks_of after_echo got
    got_by distance accepted_between judge
two_lived = (
  refl,
  (
    (2 ∷ 0 ∷ 1 ∷ 1 ∷ 252 ∷ [], omega arith, refl),
    (
      (2 ∷ 0 ∷ 1 ∷ 1 ∷ 252 ∷ 1 ∷ 0 ∷ 2 ∷ 0 ∷ 254 ∷ [], omega arith, refl),
      (
        refl,
        (
          ([], omega arith, refl),
          (
            refl,
            (
              refl,
              (
                (2 ∷ 0 ∷ 1 ∷ 1 ∷ 252 ∷ 1 ∷ 0 ∷ 2 ∷ 0 ∷ 253 ∷ [], omega arith, refl),
                (
                  (2 ∷ 0 ∷ 1 ∷ 229 ∷ 24 ∷ 1 ∷ 11 ∷ 2 ∷ 0 ∷ 0 ∷ 0 ∷ 0 ∷ 0 ∷ 0 ∷ 0 ∷ 0 ∷ 0 ∷ 0 ∷ 0 ∷ 0 ∷ 242 ∷ [], omega arith, refl),
                  (
                    (2 ∷ 0 ∷ 1 ∷ 225 ∷ 28 ∷ 1 ∷ 3 ∷ 2 ∷ 0 ∷ 0 ∷ 0 ∷ 0 ∷ 250 ∷ [], omega arith, refl),
                    (
                      inr (omega arith, refl),
                      (refl, tt),
                    ),
                  ),
                ),
              ),
            ),
          ),
        ),
      ),
    ),
  ),
)

-- a start doesn't find a record that was neither put nor due
no_record_from_nothing : LiveEntries 65535 setup [] (live.start None) (entry.Crash 1 ∷ []) → ⊥
no_record_from_nothing e = cc e

-- a command that is refused isn't taken
no_round_without_an_epoch : LiveEntries 65535 setup [] (live.command (command.Round 2)) (entry.Taken (command.Round 2) ∷ []) → ⊥
no_round_without_an_epoch e = cc e

-- a life over an epoch that was found
pub lives_on : (the : Setup) (past : List Entry) (rows : List Row) → Lives the past rows →
    LiveFrom 65535 the past (steps_of rows) (after past rows)
lives_on the past [] lives = refl
lives_on the past (row ∷ rows) lives = (row.news, lives.0, lives_on the (row.news ++ past) rows lives.1)

abbrev AreLifeSteps : List Row → Type 0
AreLifeSteps [] = ⊤
AreLifeSteps (row ∷ rows) = IsLifeStep row.step × AreLifeSteps rows

all_steps : (rows : List Row) → AreLifeSteps rows → All IsLifeStep (steps_of rows)
all_steps [] are = All-nil IsLifeStep
all_steps (row ∷ rows) are = All-cons IsLifeStep row.step (steps_of rows) are.0 (all_steps rows are.1)

abbrev begun : List Record
begun = record_of.Epoch 2 65535 0 ∷ []

abbrev pub coin : Coin
coin = record { place = 1; path = 1 }

-- the event counter shows one event, and the accept counter no coin
abbrev heard_round : List Row
heard_round =
    one (live.command (command.Round 2)) (entry.Taken (command.Round 2))
    ∷ one (live.next 2) (entry.Wire 2 (2 ∷ 0 ∷ 1 ∷ 225 ∷ 28 ∷ []) (2 ∷ 0 ∷ 1 ∷ 225 ∷ 28 ∷ 1 ∷ 3 ∷ 2 ∷ 0 ∷ 0 ∷ 0 ∷ 0 ∷ 250 ∷ []))
    ∷ one (live.next 2) (entry.Wire 2 (2 ∷ 0 ∷ 1 ∷ 229 ∷ 24 ∷ []) (2 ∷ 0 ∷ 1 ∷ 229 ∷ 24 ∷ 1 ∷ 11 ∷ 2 ∷ 0 ∷ 1 ∷ 1 ∷ 1 ∷ 0 ∷ 0 ∷ 0 ∷ 0 ∷ 0 ∷ 0 ∷ 0 ∷ 0 ∷ 239 ∷ []))
    ∷ one (live.next 2) (entry.Wire 2 (2 ∷ 0 ∷ 1 ∷ 230 ∷ 23 ∷ []) (2 ∷ 0 ∷ 1 ∷ 230 ∷ 23 ∷ 1 ∷ 2 ∷ 2 ∷ 0 ∷ 255 ∷ 255 ∷ 253 ∷ []))
    ∷ one (live.next 2) (entry.Wire 2 (2 ∷ 0 ∷ 1 ∷ 225 ∷ 28 ∷ []) (2 ∷ 0 ∷ 1 ∷ 225 ∷ 28 ∷ 1 ∷ 3 ∷ 2 ∷ 0 ∷ 0 ∷ 0 ∷ 0 ∷ 250 ∷ []))
    ∷ []

abbrev one_round : List Row
one_round =
    heard_round
    ++ record {
      step = live.next 2;
      news = entry.Ended 2 Posted ∷ entry.Put (record_of.Reading 2 1 0 0 (coin ∷ [])) ∷ [];
    }
    ∷ []

one_round_lived : Lives setup (started begun) one_round
unfolding message spelling data_of request_of requests_with form_of reply_data reply_in has_place ask asked asks_of after_echo got
    got_by distance accepted_between judge
one_round_lived = (
  refl,
  (
    (2 ∷ 0 ∷ 1 ∷ 225 ∷ 28 ∷ 1 ∷ 3 ∷ 2 ∷ 0 ∷ 0 ∷ 0 ∷ 0 ∷ 250 ∷ [], omega arith, refl),
    (
      (2 ∷ 0 ∷ 1 ∷ 229 ∷ 24 ∷ 1 ∷ 11 ∷ 2 ∷ 0 ∷ 1 ∷ 1 ∷ 1 ∷ 0 ∷ 0 ∷ 0 ∷ 0 ∷ 0 ∷ 0 ∷ 0 ∷ 0 ∷ 239 ∷ [], omega arith, refl),
      (
        (2 ∷ 0 ∷ 1 ∷ 230 ∷ 23 ∷ 1 ∷ 2 ∷ 2 ∷ 0 ∷ 255 ∷ 255 ∷ 253 ∷ [], omega arith, refl),
        (
          (2 ∷ 0 ∷ 1 ∷ 225 ∷ 28 ∷ 1 ∷ 3 ∷ 2 ∷ 0 ∷ 0 ∷ 0 ∷ 0 ∷ 250 ∷ [], omega arith, refl),
          (
            ([], omega arith, refl),
            tt,
          ),
        ),
      ),
    ),
  ),
)

one_life : IsLife 65535 setup begun (steps_of one_round) (after (started begun) one_round)
unfolding has_place
one_life = record {
  follow = refl;
  steps_are = all_steps one_round (tt, (tt, (tt, (tt, (tt, (tt, tt))))));
  live = lives_on setup (started begun) one_round one_round_lived;
}

-- a new host doesn't put at once what the one before it heard
not_by_a_new_host : PostAt taker (entry.Crash 1 ∷ after (started begun) heard_round) (entry.Put (record_of.Reading 2 1 0 0 (coin ∷ []))) → ⊥
not_by_a_new_host at = (at refl).1.heard

-- so a coin is posted that the accept counter doesn't show
more_than_accepted : (told_in 2 (records (after (started begun) one_round))
    ≡ record { events = 1; posted = 1; accepted = 0; lost = 0 })
unfolding distance accepted_between
more_than_accepted = refl

-- two coins aren't posted of one event
no_event_twice : IsTallied (told_in 2 (record_of.Reading 2 1 0 2 (coin ∷ coin ∷ []) ∷ begun)) → ⊥
unfolding distance accepted_between
no_event_twice tallied = let posts : 2 ≤ 1 = tallied.posts in omega (arith, posts)

-- no coin is reported as lost that the accept counter doesn't show, and none that it shows is left
-- out
no_more_lost : IsTallied (told_in 2 (record_of.Reading 2 1 1 0 [] ∷ begun)) → ⊥
unfolding distance accepted_between
no_more_lost tallied = let loses : 1 ≤ 0 = tallied.loses in omega (arith, loses)

none_left_out : IsTallied (told_in 2 (record_of.Reading 2 1 0 1 [] ∷ begun)) → ⊥
unfolding distance accepted_between
none_left_out tallied = let covers : 1 ≤ 0 = tallied.covers in omega (arith, covers)

-- a bill acceptor holds a bill, and a round posts none; the answer to the route is lost; the next round posts the bill, which
-- was stacked
abbrev counts : List ℕ
counts = 4 ∷ 0 ∷ 1 ∷ 225 ∷ 26 ∷ []

abbrev reads_bills : List ℕ
reads_bills = 4 ∷ 0 ∷ 1 ∷ 159 ∷ 92 ∷ []

abbrev reads_mask : List ℕ
reads_mask = 4 ∷ 0 ∷ 1 ∷ 230 ∷ 21 ∷ []

abbrev pub stacks : List ℕ
stacks = 4 ∷ 1 ∷ 1 ∷ 154 ∷ 1 ∷ 95 ∷ []

abbrev none_counted : List ℕ
none_counted = 4 ∷ 0 ∷ 1 ∷ 225 ∷ 26 ∷ 1 ∷ 3 ∷ 4 ∷ 0 ∷ 0 ∷ 0 ∷ 0 ∷ 248 ∷ []

abbrev one_counted : List ℕ
one_counted = 4 ∷ 0 ∷ 1 ∷ 225 ∷ 26 ∷ 1 ∷ 3 ∷ 4 ∷ 0 ∷ 1 ∷ 0 ∷ 0 ∷ 247 ∷ []

abbrev held_read : List ℕ
held_read = 4 ∷ 0 ∷ 1 ∷ 159 ∷ 92 ∷ 1 ∷ 11 ∷ 4 ∷ 0 ∷ 1 ∷ 1 ∷ 1 ∷ 0 ∷ 0 ∷ 0 ∷ 0 ∷ 0 ∷ 0 ∷ 0 ∷ 0 ∷ 237 ∷ []

abbrev stacked_read : List ℕ
stacked_read = 4 ∷ 0 ∷ 1 ∷ 159 ∷ 92 ∷ 1 ∷ 11 ∷ 4 ∷ 0 ∷ 2 ∷ 1 ∷ 0 ∷ 1 ∷ 1 ∷ 0 ∷ 0 ∷ 0 ∷ 0 ∷ 0 ∷ 0 ∷ 235 ∷ []

abbrev mask_read : List ℕ
mask_read = 4 ∷ 0 ∷ 1 ∷ 230 ∷ 21 ∷ 1 ∷ 2 ∷ 4 ∷ 0 ∷ 1 ∷ 0 ∷ 248 ∷ []

abbrev bill : Coin
bill = record { place = 1; path = 0 }

abbrev one_route : List Row
one_route =
    one (live.command (command.Round 4)) (entry.Taken (command.Round 4))
    ∷ one (live.next 4) (entry.Wire 4 counts none_counted)
    ∷ one (live.next 4) (entry.Wire 4 reads_bills held_read)
    ∷ one (live.next 4) (entry.Wire 4 reads_mask mask_read)
    ∷ one (live.next 4) (entry.Wire 4 counts none_counted)
    ∷ record {
      step = live.next 4;
      news = entry.Ended 4 Posted ∷ entry.Put (record_of.Reading 4 1 0 0 []) ∷ [];
    }
    ∷ one (live.command (command.Route 4 1)) (entry.Taken (command.Route 4 1))
    ∷ record { step = live.next 4; news = entry.Ended 4 RouteUnsure ∷ entry.Wire 4 stacks stacks ∷ [] }
    ∷ one (live.command (command.Round 4)) (entry.Taken (command.Round 4))
    ∷ one (live.next 4) (entry.Wire 4 counts one_counted)
    ∷ one (live.next 4) (entry.Wire 4 reads_bills stacked_read)
    ∷ one (live.next 4) (entry.Wire 4 reads_mask mask_read)
    ∷ one (live.next 4) (entry.Wire 4 counts one_counted)
    ∷ record {
      step = live.next 4;
      news = entry.Ended 4 Posted ∷ entry.Put (record_of.Reading 4 2 0 1 (bill ∷ [])) ∷ [];
    }
    ∷ []

one_route_lived : Lives setup (started (record_of.Epoch 4 1 0 ∷ [])) one_route
unfolding message spelling data_of request_of requests_with form_of reply_data reply_in has_place ask asked asks_of after_echo got
    got_by distance accepted_between judge
one_route_lived = (
  refl,
  (
    (none_counted, omega arith, refl),
    (
      (held_read, omega arith, refl),
      (
        (mask_read, omega arith, refl),
        (
          (none_counted, omega arith, refl),
          (
            ([], omega arith, refl),
            (
              refl,
              (
                (stacks, omega arith, refl),
                (
                  refl,
                  (
                    (one_counted, omega arith, refl),
                    (
                      (stacked_read, omega arith, refl),
                      (
                        (mask_read, omega arith, refl),
                        ((one_counted, omega arith, refl), (([], omega arith, refl), tt)),
                      ),
                    ),
                  ),
                ),
              ),
            ),
          ),
        ),
      ),
    ),
  ),
)

-- in this life one request routes a bill: the job of the `route` sends it, by its way, and has sent none before
abbrev routing : List Entry
routing = entry.Taken (command.Route 4 1) ∷ started (record_of.Epoch 4 1 0 ∷ [])

one_is_routed : (routed_in banker (after (started (record_of.Epoch 4 1 0 ∷ [])) one_route) ≡ 1)
unfolding message spelling data_of request_of requests_with has_place ask asked asks_of
one_is_routed = refl

first_route : RoutedAt banker routing (entry.Wire 4 stacks stacks)
unfolding message spelling data_of request_of requests_with form_of reply_data reply_in has_place ask asked asks_of after_echo got
    got_by
first_route = (refl, refl, refl)

-- no host sends two requests for one `route`, whatever was heard of the first
two_are_routed : (routed_in banker (entry.Wire 4 stacks stacks ∷ entry.Wire 4 stacks stacks ∷ routing) ≡ 2)
unfolding message spelling data_of request_of requests_with has_place ask asked asks_of
two_are_routed = refl

no_second_route : RoutedAt banker (entry.Wire 4 stacks stacks ∷ routing) (entry.Wire 4 stacks stacks) → ⊥
unfolding message spelling data_of request_of requests_with form_of reply_data reply_in has_place ask asked asks_of after_echo got
    got_by
no_second_route at = cc at.1

-- nor one by the other way, one after a power cut, one for which no `route` was taken, or one in another device's job
no_other_way : RoutedAt banker routing (entry.Wire 4 (4 ∷ 1 ∷ 1 ∷ 154 ∷ 0 ∷ 96 ∷ []) []) → ⊥
unfolding message spelling data_of request_of requests_with form_of reply_data reply_in has_place ask asked asks_of after_echo got
    got_by
no_other_way at = cc at.2

none_after_a_restart : RoutedAt banker (entry.Crash 1 ∷ routing) (entry.Wire 4 stacks stacks) → ⊥
unfolding message spelling data_of request_of requests_with form_of reply_data reply_in has_place ask asked asks_of after_echo got
    got_by
none_after_a_restart at = cc at.2

none_untaken : RoutedAt banker (started (record_of.Epoch 4 1 0 ∷ [])) (entry.Wire 4 stacks stacks) → ⊥
unfolding message spelling data_of request_of requests_with form_of reply_data reply_in has_place ask asked asks_of after_echo got
    got_by
none_untaken at = cc at.2

none_from_elsewhere : RoutedAt banker routing (entry.Wire 2 stacks stacks) → ⊥
unfolding message spelling data_of request_of requests_with form_of reply_data reply_in has_place ask asked asks_of after_echo got
    got_by
none_from_elsewhere at = cc at.0

-- a hopper at address 3
abbrev hopper : DeviceSetup
hopper = record { addr = 3; kind = Simple; serial = 1; texts = texts; named = false; body = Hopper 0 25 }

-- where an order is found open, no dispense is sent for it
none_for_a_found_order : SentAt hopper (started (record_of.Opened 7 3 4 0 ∷ []))
    (entry.Wire 3 (3 ∷ 4 ∷ 1 ∷ 167 ∷ 1 ∷ 0 ∷ 0 ∷ 4 ∷ 76 ∷ []) []) → ⊥
unfolding message spelling data_of request_of requests_with form_of reply_data reply_in has_place ask asked
none_for_a_found_order at = let both = at refl in cc both.1.0

-- a start is no step of a life
no_start : IsLifeStep (live.start None) → ⊥
no_start is = is
