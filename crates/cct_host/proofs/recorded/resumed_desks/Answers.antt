use Rattle.std.proofs.Common.{All, arith, rules, subst, sym}
use Rattle.std.proofs.lemmas.List.Elements.{All-push}
use Rattle.cct_host.specs.Replayed.{IsUnused}
use Rattle.cct_host.proofs.Replaying.{resumed_more}
use Rattle.cct_host.proofs.recorded.resumed_desks.Goals as goal

pub loop-device-preserved : goal.loop-device-preserved
loop-device-preserved c =
    let before = c.loop-device.invariant in
    let pushed = c.push.ensures.items in
    record {
      many = search rules;
      unused = subst (All IsUnused) (sym pushed)
          (All-push IsUnused c.loop-device.desks.items _ before.unused c.resume.ensures.job);
      resumed = resumed_more c.args.devices.now c.loop-device.desks.items _ c.loop-device.device-index c.device-item.result _
          c.args.carry.now (omega (arith, c.loop-device-test.true)) c.device-item.is pushed
          c.resume.ensures.epoch c.resume.ensures.order c.resume.ensures.id
          c.resume.ensures.begun before.resumed;
    }
