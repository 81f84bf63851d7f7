use Rattle.std.proofs.Common.{◌∙◌, Some, None, refl, sym}
use Rattle.cct_live_service.specs.declared.notice.Notice.TheVariants as notice_of
use Rattle.cct_live_service.proofs.Telling.{writes_one, writes_two}
use Rattle.cct_live_service.proofs.standing.tell_device.Goals as goal

pub returns-in-Some-clause-tells : goal.returns-in-Some-clause-tells
returns-in-Some-clause-tells g c =
    let sink = g.K.Sink in
    let addr = c.args.addr in
    let job = c.command_at.result in
    let epoch = c.epoch_at.result in
    let order = c.order_at.result in
    let place = c.in-Some.place in (
      record { addr = addr; job = job; epoch = epoch; order = order; held = Some place },
      refl,
      sym c.in-Some.is ∙ c.held_at.ensures,
      writes_two sink.written sink.puts c.args.host.now c.args.out.now c.tell_two.new.out
          (notice_of.Device addr job epoch order) (notice_of.Held addr place) c.tell_two.result
          (tt, λ past keeps. (c.command_at.ensures past keeps, c.epoch_at.ensures.stands past keeps, c.order_at.ensures.stands past keeps))
          (tt, λ past keeps. tt) c.tell_two.ensures.tells,
    )

pub returns-in-None-clause-tells : goal.returns-in-None-clause-tells
returns-in-None-clause-tells g c =
    let sink = g.K.Sink in
    let addr = c.args.addr in
    let job = c.command_at.result in
    let epoch = c.epoch_at.result in
    let order = c.order_at.result in (
      record { addr = addr; job = job; epoch = epoch; order = order; held = None },
      refl,
      sym c.in-None.is ∙ c.held_at.ensures,
      writes_one sink.written sink.puts c.args.host.now c.args.out.now c.tell_one.new.out
          (notice_of.Device addr job epoch order) c.tell_one.result
          (tt, λ past keeps. (c.command_at.ensures past keeps, c.epoch_at.ensures.stands past keeps, c.order_at.ensures.stands past keeps))
          c.tell_one.ensures.tells,
    )
