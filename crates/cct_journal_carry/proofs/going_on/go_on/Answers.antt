use Rattle.std.proofs.Common.{◌+◌, ◌≤◌, length, None, List, ap, sym, ◌∙◌, subst, arith}
use Rattle.cct_model.specs.terms.coin.Coin.{Coin}
use Rattle.cct_model.specs.terms.device.TheConstants.{DEVICES}
use Rattle.cct_model.specs.lines.record.Record.{Record}
use Rattle.cct_model.specs.lines.record.Record.TheVariants as record_of
use Rattle.cct_model.specs.lines.carry.Carry.{Carry}
use Rattle.cct_model.specs.Carried.{addr_of_epoch, set_with}
use Rattle.cct_model.specs.Carry.{carry_with, epoch_entry, epoch_held}
use Rattle.cct_model.specs.Exchange.{device_at}
use Rattle.cct_model.specs.Job.{counted}
use Rattle.cct_model.specs.Money as money
use Rattle.cct_record.specs.Body.{Encodable}
use Rattle.cct_journal_carry.specs.GoingOn.{CanGoOn}
use Rattle.cct_journal_carry.proofs.Arms.{post_room, with_broken, with_closed, with_end, with_epoch, with_odd, with_opened, with_reading, with_sold}
use Rattle.cct_journal_carry.proofs.Keeping.{room_next}
use Rattle.cct_journal_carry.proofs.going_on.go_on.Goals as goal

pub begin-requires : goal.begin-requires
begin-requires c =
    let can = subst (λ (r : Record). CanGoOn c.args.setup.now c.args.carry.now r) c.in-Epoch.is c.requires.can in
    let accepts = subst Encodable c.in-Epoch.is c.requires.encodable in
    (room_next c.args.setup.now c.args.carry.now (record_of.Epoch c.in-Epoch.addr c.in-Epoch.mask c.in-Epoch.accepts) can (omega arith, omega arith, accepts)).epochs

pub post-requires-clause-value : goal.post-requires-clause-value
post-requires-clause-value c =
    post_room c.args.setup.now c.args.carry.now c.args.entry.now c.in-Reading.addr c.as_slice.result.now c.requires.can c.as_slice.ensures.few

pub post-requires-in-Broken-clause-value : goal.post-requires-in-Broken-clause-value
post-requires-in-Broken-clause-value c =
    post_room c.args.setup.now c.args.carry.now c.args.entry.now c.in-Broken.addr c.as_slice-in-Broken.result.now c.requires.can c.as_slice-in-Broken.ensures.few

pub read-requires : goal.read-requires
read-requires c =
    let can = subst (λ (r : Record). CanGoOn c.args.setup.now c.args.carry.now r) c.in-Reading.is c.requires.can in
    let many = ap length c.as_slice.ensures.value in
    let few = c.as_slice.ensures.few in
    let fits = subst Encodable c.in-Reading.is c.requires.encodable in
    let room = room_next c.args.setup.now c.args.carry.now (record_of.Reading c.in-Reading.addr c.in-Reading.counter c.in-Reading.lost c.in-Reading.accepts c.in-Reading.posted) can (omega arith, fits.0, fits.1, omega arith) in
    let Room : Carry → Type 0 = λ d. length (set_with addr_of_epoch c.in-Reading.addr (epoch_entry c.in-Reading.addr (counted c.in-Reading.counter c.in-Reading.accepts (epoch_held c.in-Reading.addr d))) d.epochs) ≤ DEVICES in
    subst Room (sym c.post.ensures) room.epochs

pub end-requires : goal.end-requires
end-requires c =
    let can = subst (λ (r : Record). CanGoOn c.args.setup.now c.args.carry.now r) c.in-Broken.is c.requires.can in
    let many = ap length c.as_slice-in-Broken.ensures.value in
    let few = c.as_slice-in-Broken.ensures.few in
    let fits = subst Encodable c.in-Broken.is c.requires.encodable in
    let room = room_next c.args.setup.now c.args.carry.now (record_of.Broken c.in-Broken.addr c.in-Broken.mask_seen c.in-Broken.counter c.in-Broken.lost c.in-Broken.accepts c.in-Broken.posted) can (fits.0, omega arith) in
    let Room : Carry → Type 0 = λ d. length (set_with addr_of_epoch c.in-Broken.addr None d.epochs) ≤ DEVICES in
    subst Room (sym c.post-in-Broken.ensures) room.epochs

pub end-requires-in-EpochEnd : goal.end-requires-in-EpochEnd
end-requires-in-EpochEnd c =
    let can = subst (λ (r : Record). CanGoOn c.args.setup.now c.args.carry.now r) c.in-EpochEnd.is c.requires.can in
    (room_next c.args.setup.now c.args.carry.now (record_of.EpochEnd c.in-EpochEnd.addr) can tt).epochs

pub open-requires : goal.open-requires
open-requires c =
    let can = subst (λ (r : Record). CanGoOn c.args.setup.now c.args.carry.now r) c.in-Opened.is c.requires.can in
    let life = subst Encodable c.in-Opened.is c.requires.encodable in
    (room_next c.args.setup.now c.args.carry.now (record_of.Opened c.in-Opened.id c.in-Opened.addr c.in-Opened.count c.in-Opened.life) can (omega arith, omega arith, omega arith, life)).orders

pub close-requires-clause-paid_value : goal.close-requires-clause-paid_value
close-requires-clause-paid_value c =
    let can = subst (λ (r : Record). CanGoOn c.args.setup.now c.args.carry.now r) c.in-Closed.is c.requires.can in
    let room = room_next c.args.setup.now c.args.carry.now (record_of.Closed c.in-Closed.id c.in-Closed.paid c.in-Closed.unpaid) can (omega arith, omega arith) in
    omega (arith, room.paid_value)

pub close-requires-clause-room : goal.close-requires-clause-room
close-requires-clause-room c =
    let can = subst (λ (r : Record). CanGoOn c.args.setup.now c.args.carry.now r) c.in-Closed.is c.requires.can in
    (room_next c.args.setup.now c.args.carry.now (record_of.Closed c.in-Closed.id c.in-Closed.paid c.in-Closed.unpaid) can (omega arith, omega arith)).orders

pub set_aside-requires-clause-odd_value : goal.set_aside-requires-clause-odd_value
set_aside-requires-clause-odd_value c =
    let can = subst (λ (r : Record). CanGoOn c.args.setup.now c.args.carry.now r) c.in-Odd.is c.requires.can in
    let room = room_next c.args.setup.now c.args.carry.now (record_of.Odd c.in-Odd.id c.in-Odd.life_before c.in-Odd.life_after) can tt in
    omega (arith, room.odd_value)

pub set_aside-requires-clause-room : goal.set_aside-requires-clause-room
set_aside-requires-clause-room c =
    let can = subst (λ (r : Record). CanGoOn c.args.setup.now c.args.carry.now r) c.in-Odd.is c.requires.can in
    (room_next c.args.setup.now c.args.carry.now (record_of.Odd c.in-Odd.id c.in-Odd.life_before c.in-Odd.life_after) can tt).orders

pub returns-in-Epoch-clause-next : goal.returns-in-Epoch-clause-next
returns-in-Epoch-clause-next c =
    let can = subst (λ (r : Record). CanGoOn c.args.setup.now c.args.carry.now r) c.in-Epoch.is c.requires.can in
    c.begin.ensures ∙ sym (with_epoch c.args.setup.now c.args.carry.now c.in-Epoch.addr c.in-Epoch.mask c.in-Epoch.accepts can)
    ∙ ap (λ (r : Record). carry_with c.args.setup.now r c.args.carry.now) (sym c.in-Epoch.is)

pub returns-in-EpochEnd-clause-next : goal.returns-in-EpochEnd-clause-next
returns-in-EpochEnd-clause-next c =
    let can = subst (λ (r : Record). CanGoOn c.args.setup.now c.args.carry.now r) c.in-EpochEnd.is c.requires.can in
    c.end-in-EpochEnd.ensures ∙ sym (with_end c.args.setup.now c.args.carry.now c.in-EpochEnd.addr can)
    ∙ ap (λ (r : Record). carry_with c.args.setup.now r c.args.carry.now) (sym c.in-EpochEnd.is)

pub returns-in-Opened-clause-next : goal.returns-in-Opened-clause-next
returns-in-Opened-clause-next c =
    let can = subst (λ (r : Record). CanGoOn c.args.setup.now c.args.carry.now r) c.in-Opened.is c.requires.can in
    c.open.ensures ∙ sym (with_opened c.args.setup.now c.args.carry.now c.in-Opened.id c.in-Opened.addr c.in-Opened.count c.in-Opened.life can)
    ∙ ap (λ (r : Record). carry_with c.args.setup.now r c.args.carry.now) (sym c.in-Opened.is)

pub returns-in-Closed-clause-next : goal.returns-in-Closed-clause-next
returns-in-Closed-clause-next c =
    let can = subst (λ (r : Record). CanGoOn c.args.setup.now c.args.carry.now r) c.in-Closed.is c.requires.can in
    c.close.ensures ∙ sym (with_closed c.args.setup.now c.args.carry.now c.in-Closed.id c.in-Closed.paid c.in-Closed.unpaid can)
    ∙ ap (λ (r : Record). carry_with c.args.setup.now r c.args.carry.now) (sym c.in-Closed.is)

pub returns-in-Odd-clause-next : goal.returns-in-Odd-clause-next
returns-in-Odd-clause-next c =
    let can = subst (λ (r : Record). CanGoOn c.args.setup.now c.args.carry.now r) c.in-Odd.is c.requires.can in
    c.set_aside.ensures ∙ sym (with_odd c.args.setup.now c.args.carry.now c.in-Odd.id c.in-Odd.life_before c.in-Odd.life_after can)
    ∙ ap (λ (r : Record). carry_with c.args.setup.now r c.args.carry.now) (sym c.in-Odd.is)

pub returns-in-Sold-clause-next : goal.returns-in-Sold-clause-next
returns-in-Sold-clause-next c =
    let can = subst (λ (r : Record). CanGoOn c.args.setup.now c.args.carry.now r) c.in-Sold.is c.requires.can in
    c.sell.ensures ∙ sym (with_sold c.args.setup.now c.args.carry.now c.in-Sold.id c.in-Sold.price can)
    ∙ ap (λ (r : Record). carry_with c.args.setup.now r c.args.carry.now) (sym c.in-Sold.is)

pub returns-in-Reading-clause-next : goal.returns-in-Reading-clause-next
returns-in-Reading-clause-next c =
    let can = subst (λ (r : Record). CanGoOn c.args.setup.now c.args.carry.now r) c.in-Reading.is c.requires.can in
    let old = c.args.carry.now in
    let addr = c.in-Reading.addr in
    let read : Carry → Carry = λ d. record d {
      epochs = set_with addr_of_epoch addr (epoch_entry addr (counted c.in-Reading.counter c.in-Reading.accepts (epoch_held addr d))) d.epochs;
    } in
    let post : List Coin → Carry = λ coins. record old {
      value = old.value + money.coins_value (device_at c.args.setup.now.devices addr) coins;
      posted = old.posted + length coins;
      lost = old.lost + c.in-Reading.lost;
    } in
    c.read.ensures ∙ ap read (c.post.ensures ∙ ap post c.as_slice.ensures.value)
    ∙ sym (with_reading c.args.setup.now old c.in-Reading.addr c.in-Reading.counter c.in-Reading.lost c.in-Reading.accepts c.in-Reading.posted can)
    ∙ ap (λ (r : Record). carry_with c.args.setup.now r old) (sym c.in-Reading.is)

pub returns-in-Broken-clause-next : goal.returns-in-Broken-clause-next
returns-in-Broken-clause-next c =
    let can = subst (λ (r : Record). CanGoOn c.args.setup.now c.args.carry.now r) c.in-Broken.is c.requires.can in
    let old = c.args.carry.now in
    let addr = c.in-Broken.addr in
    let end : Carry → Carry = λ d. record d { epochs = set_with addr_of_epoch addr None d.epochs } in
    let post : List Coin → Carry = λ coins. record old {
      value = old.value + money.coins_value (device_at c.args.setup.now.devices addr) coins;
      posted = old.posted + length coins;
      lost = old.lost + c.in-Broken.lost;
    } in
    c.end.ensures ∙ ap end (c.post-in-Broken.ensures ∙ ap post c.as_slice-in-Broken.ensures.value)
    ∙ sym (with_broken c.args.setup.now old c.in-Broken.addr c.in-Broken.mask_seen c.in-Broken.counter c.in-Broken.lost c.in-Broken.accepts c.in-Broken.posted can)
    ∙ ap (λ (r : Record). carry_with c.args.setup.now r old) (sym c.in-Broken.is)
