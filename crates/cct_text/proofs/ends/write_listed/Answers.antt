use Rattle.std.proofs.Common.{◌∙◌, ◌∷◌, [], length, ap, arith, length-append}
use Rattle.cct_text.proofs.Listing.{lists_none, lists_more, lists_nothing, lists_some}
use Rattle.cct_text.proofs.ends.write_listed.Goals as goal

pub loop-addr-init : goal.loop-addr-init
loop-addr-init c = lists_none c.args.listed.now c.args.line.now

pub loop-addr-preserved : goal.loop-addr-preserved
loop-addr-preserved c =
    lists_more c.args.listed.now c.loop-addr.addr c.args.line.now c.loop-addr.line _ c.loop-addr.separator _
    c.loop-addr.invariant c.write_device-separator.ensures.adds.text c.write_device-separator.ensures.adds.len
    c.write_device-separator.ensures.next

pub returns-then-separator-eq32 : goal.returns-then-separator-eq32
returns-then-separator-eq32 c = record {
  text =
      c.push.ensures
      ∙ lists_nothing c.args.listed.now c.loop-addr.addr c.args.line.now c.loop-addr.line c.loop-addr.separator
      (omega (arith, c.loop-addr-test.false, c.loop-addr.auto.addr-end)) c.loop-addr.invariant c.if-separator-eq32.true;
  len = omega (
    arith,
    ap length c.push.ensures,
    length-append c.loop-addr.line (32 ∷ 45 ∷ []),
    c.loop-addr.invariant.room,
    c.loop-addr-test.false,
    c.loop-addr.auto.addr-end,
  );
}

pub returns-else-separator-eq32 : goal.returns-else-separator-eq32
returns-else-separator-eq32 c = record {
  text =
      lists_some c.args.listed.now c.loop-addr.addr c.args.line.now c.loop-addr.line c.loop-addr.separator
      (omega (arith, c.loop-addr-test.false, c.loop-addr.auto.addr-end)) c.loop-addr.invariant c.if-separator-eq32.false;
  len = omega (arith, c.loop-addr.invariant.room, c.loop-addr-test.false, c.loop-addr.auto.addr-end);
}
