-- Orders that are closed by what was heard, in one life and in the next one; and what closes none.
use Rattle.std.proofs.Common.{◌≡◌, ℕ, ◌<◌, List, [], ◌∷◌, inl, inr, refl, sym, subst, Some, None, arith, ◌++◌, false}
use Rattle.std.specs.Prelude.{⊤}
use Rattle.cct_model.specs.terms.request.Request.TheVariants.{Dispense, Enable, GetStatus}
use Rattle.cct_model.specs.declared.judging.OpenOrder.{OpenOrder}
use Rattle.cct_model.specs.lines.record.Record.{Record}
use Rattle.cct_model.specs.lines.record.Record.TheVariants as record_of
use Rattle.cct_model.specs.lines.command.Command.TheVariants as command
use Rattle.cct_model.specs.terms.wire.CheckKind.TheVariants.{Simple}
use Rattle.cct_model.specs.terms.device.DeviceBody.TheVariants.{Hopper}
use Rattle.cct_model.specs.terms.device.DeviceSetup.{DeviceSetup}
use Rattle.cct_model.specs.terms.device.Setup.{Setup}
use Rattle.cct_model.specs.lines.entry.End.TheVariants.{Closed}
use Rattle.cct_model.specs.lines.entry.Entry.TheVariants as entry
use Rattle.cct_model.specs.Message.{message, spelling}
use Rattle.cct_model.specs.Request.{data_of, request_of, requests_with, form_of}
use Rattle.cct_model.specs.Reply.{reply_data, reply_in}
use Rattle.cct_model.specs.Setting.{has_place}
use Rattle.cct_model.specs.Exchange.{ask, asked, asks_of, after_echo, got}
use Rattle.cct_model.specs.Transcript.{got_by, lines_of}
use Rattle.cct_model.specs.Reading.{distance, accepted_between, judge}
use Rattle.cct_laws_live.proofs.Worked.{Lives, Row, after, coin, one, taker, texts}
use Rattle.cct_model.specs.Line.{Line, exchange, put, taken, restarted}
use Rattle.cct_model.specs.Order.{close, life_between, order}
use Rattle.cct_model.specs.Reply as reply
use Rattle.cct_laws_live.specs.Live.{started}
use Rattle.cct_laws_live.specs.LiveStep as live
use Rattle.cct_laws_live.specs.Closes.{CloseAt, CloseOf, ClosedBy, WasHeardOpen, WasOpened, life_heard, none_left_heard, since_sent}
use Rattle.cct_laws_live.specs.Posts.{HasOver, HaveInTurn}

-- an order of two coins is opened at the life count 16,777,215, and its dispense isn't answered
abbrev opened : Record
opened = record_of.Opened 7 3 2 16777215

abbrev the_order : OpenOrder
the_order = record { id = 7; addr = 3; count = 2; life = 16777215 }

abbrev paying : List Line
paying =
    exchange (Some (Dispense 1 2)) None
    ∷ put opened
    ∷ life_heard 16777215
    ∷ exchange (Some (Enable 165)) (Some reply.ack)
    ∷ taken (command.Pay 3 7 2)
    ∷ []

-- one coin falls and the other one jams: the life count goes on to 0
abbrev one_left : Line
one_left = exchange (Some GetStatus) (Some (reply.status 1 1 1 0))

abbrev paid_one : List Line
paid_one = life_heard 0 ∷ none_left_heard 1 1 1 ∷ one_left ∷ paying

by_one : (Opens : List Line → OpenOrder → Type 0) (lines : List Line) → order lines ≡ Some the_order →
    Opens lines the_order → HaveInTurn (since_sent lines) (life_heard 0 ∷ none_left_heard 1 1 1 ∷ []) →
    ClosedBy Opens lines (record_of.Closed 7 1 1)
unfolding life_between
by_one Opens lines is_open opened heard = record {
  owed = the_order;
  life = 0;
  events = 1;
  paid = 1;
  unpaid = 1;
  is_open = is_open;
  opened = opened;
  heard = heard;
  settles = (refl, refl, refl);
}

closes_at_one : CloseOf WasHeardOpen paid_one (record_of.Closed 7 1 1)
closes_at_one =
    by_one WasHeardOpen paid_one refl (inr (inr (inr (inr (inl (refl, inl (refl, tt))))))) (inl (refl, inl (refl, tt)))

-- three coins fell of two: both life counts are recorded
closes_odd : CloseOf WasHeardOpen (life_heard 2 ∷ none_left_heard 1 2 0 ∷ paying) (record_of.Odd 7 16777215 2)
unfolding life_between
closes_odd = record {
  owed = the_order;
  life = 2;
  events = 1;
  paid = 2;
  unpaid = 0;
  is_open = refl;
  opened = inr (inr (inr (inl (refl, inl (refl, tt)))));
  heard = inl (refl, inl (refl, tt));
  settles = (refl, refl, refl, omega arith);
}

-- the process ends while the order is open; a `settle` of the next one closes it
abbrev settled_later : List Line
settled_later = life_heard 0 ∷ none_left_heard 1 1 1 ∷ taken (command.Settle 3) ∷ restarted ∷ paying

closes_in_the_next_life : CloseOf WasHeardOpen settled_later (record_of.Closed 7 1 1)
closes_in_the_next_life =
    by_one WasHeardOpen settled_later refl
    (inr (inr (inr (inr (inr (inl (refl, inl (refl, tt)))))))) (inl (refl, inl (refl, tt)))

-- where the order was found open, nothing is known of its first life count but that it was recorded
abbrev found_open : List Line
found_open = life_heard 0 ∷ none_left_heard 1 1 1 ∷ taken (command.Settle 3) ∷ restarted ∷ put opened ∷ []

closes_what_was_found : CloseOf WasOpened found_open (record_of.Closed 7 1 1)
closes_what_was_found =
    by_one WasOpened found_open refl (inr (inr (inr (inr (inl (refl, tt)))))) (inl (refl, inl (refl, tt)))

unheard_at_first : CloseOf WasHeardOpen found_open (record_of.Closed 7 1 1) → ⊥
unheard_at_first by = elim by.opened [
  | inl here ↦ cc here.0
  | inr more ↦ elim more [
    | inl here ↦ cc here.0
    | inr more ↦ elim more [
      | inl here ↦ cc here.0
      | inr more ↦ elim more [
        | inl here ↦ cc here.0
        | inr more ↦ elim more [
          | inl here ↦ here.1
          | inr none ↦ none
        ]
      ]
    ]
  ]
]

-- what was heard since the dispense was sent: nothing; or two lines, of which none is a state without coins left, or they
-- come the other way round
none_heard : (lines : List Line) (r : Record) → since_sent lines ≡ [] → ClosedBy WasHeardOpen lines r → ⊥
none_heard lines r none by =
    let turn : HaveInTurn [] (life_heard by.life ∷ none_left_heard by.events by.paid by.unpaid ∷ []) =
    subst (λ ls. HaveInTurn ls (life_heard by.life ∷ none_left_heard by.events by.paid by.unpaid ∷ [])) none by.heard in
    turn

two_heard : (lines : List Line) (r : Record) (now before : Line) → since_sent lines ≡ now ∷ before ∷ [] →
    ((events paid unpaid : ℕ) → before ≡ none_left_heard events paid unpaid → ⊥) → ClosedBy WasHeardOpen lines r → ⊥
two_heard lines r now before are other by =
    let turn : HaveInTurn (now ∷ before ∷ []) (life_heard by.life ∷ none_left_heard by.events by.paid by.unpaid ∷ []) =
    subst (λ ls. HaveInTurn ls (life_heard by.life ∷ none_left_heard by.events by.paid by.unpaid ∷ [])) are by.heard in
    elim turn [
      | inl first ↦ elim first.1 [
        | inl second ↦ other by.events by.paid by.unpaid second.0
        | inr none ↦ none
      ]
      | inr later ↦ elim later [
        | inl second ↦ second.1
        | inr none ↦ none
      ]
    ]

not_before_it_paid : CloseOf WasHeardOpen (life_heard 0 ∷ one_left ∷ paying) (record_of.Closed 7 1 1) → ⊥
not_before_it_paid =
    two_heard (life_heard 0 ∷ one_left ∷ paying) (record_of.Closed 7 1 1) (life_heard 0) one_left refl
    (λ events paid unpaid is. cc is)

not_by_an_earlier_count : CloseOf WasHeardOpen (none_left_heard 1 1 1 ∷ life_heard 0 ∷ paying) (record_of.Closed 7 1 1) → ⊥
not_by_an_earlier_count =
    two_heard (none_left_heard 1 1 1 ∷ life_heard 0 ∷ paying) (record_of.Closed 7 1 1) (none_left_heard 1 1 1) (life_heard 0)
    refl (λ events paid unpaid is. cc is)

not_by_what_was_heard_before_the_dispense : CloseOf WasHeardOpen paying (record_of.Closed 7 0 2) → ⊥
not_by_what_was_heard_before_the_dispense = none_heard paying (record_of.Closed 7 0 2) refl

not_by_what_an_earlier_life_heard : CloseOf WasHeardOpen (taken (command.Settle 3) ∷ restarted ∷ paid_one) (record_of.Closed 7 1 1) → ⊥
not_by_what_an_earlier_life_heard =
    none_heard (taken (command.Settle 3) ∷ restarted ∷ paid_one) (record_of.Closed 7 1 1) refl

not_by_a_new_host_at_once : CloseOf WasHeardOpen (restarted ∷ paid_one) (record_of.Closed 7 1 1) → ⊥
not_by_a_new_host_at_once = none_heard (restarted ∷ paid_one) (record_of.Closed 7 1 1) refl

-- at the life count that was heard the order is closed in one way
same_some : (o other : OpenOrder) → Some o ≡ Some other → o ≡ other
same_some o other is = cc is

the_count : (by_life : ℕ) (rest : List Line → Type 0) → HasOver (life_heard 0 ∷ none_left_heard 1 1 1 ∷ one_left ∷ []) (life_heard by_life) rest →
    by_life ≡ 0
the_count by_life rest has = elim has [
  | inl here ↦ cc here.0
  | inr more ↦ elim more [
    | inl here ↦ absurd (cc here.0)
    | inr more ↦ elim more [
      | inl here ↦ absurd (cc here.0)
      | inr none ↦ absurd none
    ]
  ]
]

paid_as_told : (r : Record) (by : ClosedBy WasHeardOpen paid_one r) → (by.owed ≡ the_order) × (by.life ≡ 0)
paid_as_told r by = (sym (same_some the_order by.owed by.is_open), the_count by.life (λ older. HasOver older (none_left_heard by.events by.paid by.unpaid) (λ oldest. ⊤)) by.heard)

not_all_where_one_fell : CloseOf WasHeardOpen paid_one (record_of.Closed 7 2 0) → ⊥
unfolding life_between
not_all_where_one_fell by =
    let told = paid_as_told (record_of.Closed 7 2 0) by in
    let same : 2 ≡ life_between the_order.life 0 =
    subst (λ life. 2 ≡ life_between the_order.life life) told.1
    (subst (λ o. 2 ≡ life_between o.life by.life) told.0 by.settles.1) in
    cc same

not_odd_where_one_fell : CloseOf WasHeardOpen paid_one (record_of.Odd 7 16777215 0) → ⊥
unfolding life_between
not_odd_where_one_fell by =
    let told = paid_as_told (record_of.Odd 7 16777215 0) by in
    let more : 2 < life_between the_order.life 0 =
    subst (λ life. 2 < life_between the_order.life life) told.1
    (subst (λ o. o.count < life_between o.life by.life) told.0 by.settles.3) in
    omega (arith, more)

-- no order is opened at a life count that an earlier job heard
not_opened_unheard : CloseOf WasHeardOpen (taken (command.Pay 3 8 2) ∷ put (record_of.Closed 7 1 1) ∷ paid_one)
    (record_of.Opened 8 3 2 0) → ⊥
not_opened_unheard has = has

not_opened_by_a_new_host : CloseOf WasHeardOpen (restarted ∷ life_heard 5 ∷ taken (command.Pay 3 8 2) ∷ [])
    (record_of.Opened 8 3 2 5) → ⊥
not_opened_by_a_new_host has = has

-- so it is on the wire: a payment over coins that were posted, whose dispense isn't answered; the process ends, and a `settle` of
-- the next one closes the order
abbrev payer : DeviceSetup
payer = record { addr = 3; kind = Simple; serial = 1; texts = texts; named = false; body = Hopper 16777215 25 }

abbrev setup : Setup
setup = record { devices = taker ∷ payer ∷ [] }

abbrev posted : List Record
posted = record_of.Reading 2 1 0 1 (coin ∷ []) ∷ record_of.Epoch 2 65535 0 ∷ []

abbrev settling : List Row
settling =
    one (live.command (command.Pay 3 7 2)) (entry.Taken (command.Pay 3 7 2))
    ∷ one (live.next 3) (entry.Wire 3 (3 ∷ 1 ∷ 1 ∷ 164 ∷ 165 ∷ 178 ∷ []) (3 ∷ 1 ∷ 1 ∷ 164 ∷ 165 ∷ 178 ∷ 1 ∷ 0 ∷ 3 ∷ 0 ∷ 252 ∷ []))
    ∷ one (live.next 3) (entry.Wire 3 (3 ∷ 0 ∷ 1 ∷ 168 ∷ 84 ∷ []) (3 ∷ 0 ∷ 1 ∷ 168 ∷ 84 ∷ 1 ∷ 3 ∷ 3 ∷ 0 ∷ 255 ∷ 255 ∷ 255 ∷ 252 ∷ []))
    ∷ one (live.next 3) (entry.Put opened)
    ∷ one (live.next 3) (entry.Wire 3 (3 ∷ 4 ∷ 1 ∷ 167 ∷ 1 ∷ 0 ∷ 0 ∷ 2 ∷ 78 ∷ []) (3 ∷ 4 ∷ 1 ∷ 167 ∷ 1 ∷ 0 ∷ 0 ∷ 2 ∷ 78 ∷ []))
    ∷ one (live.start None) (entry.Crash 3)
    ∷ one (live.command (command.Settle 3)) (entry.Taken (command.Settle 3))
    ∷ one (live.next 3) (entry.Wire 3 (3 ∷ 0 ∷ 1 ∷ 166 ∷ 86 ∷ []) (3 ∷ 0 ∷ 1 ∷ 166 ∷ 86 ∷ 1 ∷ 4 ∷ 3 ∷ 0 ∷ 1 ∷ 0 ∷ 1 ∷ 1 ∷ 245 ∷ []))
    ∷ one (live.next 3) (entry.Wire 3 (3 ∷ 0 ∷ 1 ∷ 168 ∷ 84 ∷ []) (3 ∷ 0 ∷ 1 ∷ 168 ∷ 84 ∷ 1 ∷ 3 ∷ 3 ∷ 0 ∷ 0 ∷ 0 ∷ 0 ∷ 249 ∷ []))
    ∷ []

abbrev closing : Row
closing = record {
  step = live.next 3;
  news = entry.Ended 3 Closed ∷ entry.Put (record_of.Closed 7 1 1) ∷ [];
}

settles : Lives setup (started posted) (settling ++ closing ∷ [])
unfolding message spelling data_of request_of requests_with form_of reply_data reply_in has_place ask asked asks_of after_echo got
    got_by distance accepted_between judge life_between close
settles = (
  refl,
  (
    (3 ∷ 1 ∷ 1 ∷ 164 ∷ 165 ∷ 178 ∷ 1 ∷ 0 ∷ 3 ∷ 0 ∷ 252 ∷ [], omega arith, refl),
    (
      (3 ∷ 0 ∷ 1 ∷ 168 ∷ 84 ∷ 1 ∷ 3 ∷ 3 ∷ 0 ∷ 255 ∷ 255 ∷ 255 ∷ 252 ∷ [], omega arith, refl),
      (
        ([], omega arith, refl),
        (
          (3 ∷ 4 ∷ 1 ∷ 167 ∷ 1 ∷ 0 ∷ 0 ∷ 2 ∷ 78 ∷ [], omega arith, refl),
          (
            refl,
            (
              refl,
              (
                (3 ∷ 0 ∷ 1 ∷ 166 ∷ 86 ∷ 1 ∷ 4 ∷ 3 ∷ 0 ∷ 1 ∷ 0 ∷ 1 ∷ 1 ∷ 245 ∷ [], omega arith, refl),
                (
                  (3 ∷ 0 ∷ 1 ∷ 168 ∷ 84 ∷ 1 ∷ 3 ∷ 3 ∷ 0 ∷ 0 ∷ 0 ∷ 0 ∷ 249 ∷ [], omega arith, refl),
                  (([], omega arith, refl), tt),
                ),
              ),
            ),
          ),
        ),
      ),
    ),
  ),
)

closes_on_the_wire : CloseAt WasHeardOpen payer (after (started posted) settling) (entry.Put (record_of.Closed 7 1 1))
unfolding message spelling data_of request_of requests_with form_of reply_data reply_in has_place ask asked asks_of after_echo got
    got_by life_between
closes_on_the_wire here =
    by_one WasHeardOpen (lines_of payer (after (started posted) settling)) refl
    (inr (inr (inr (inr (inr (inr (inl (refl, inl (refl, tt))))))))) (inl (refl, inl (refl, tt)))

-- so does a power cut in its put that keeps the record; no other kept one does
closes_in_a_power_cut : CloseAt WasHeardOpen payer (entry.Crash 4 ∷ after (started posted) settling) (entry.Kept (record_of.Closed 7 1 1))
closes_in_a_power_cut = closes_on_the_wire

none_kept_without_one : CloseAt WasHeardOpen payer (after (started posted) settling) (entry.Kept (record_of.Closed 7 1 1)) → ⊥
none_kept_without_one at = at refl

none_kept_unheard : CloseAt WasHeardOpen payer (entry.Crash 4 ∷ entry.Crash 3 ∷ after (started posted) settling)
    (entry.Kept (record_of.Closed 7 1 1)) → ⊥
none_kept_unheard at = let by = at refl in none_heard _ (record_of.Closed 7 1 1) refl by
