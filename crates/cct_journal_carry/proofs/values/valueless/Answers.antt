use Rattle.std.proofs.Common.{◌≡◌, arith}
use Rattle.cct_journal_carry.proofs.CoinPlaces.{found_nowhere}
use Rattle.cct_journal_carry.proofs.values.valueless.Goals as goal

pub returns : goal.returns
returns c =
    let last : c.loop-place.place ≡ 17 = omega arith in
    found_nowhere c.args.body.now c.args.mask c.loop-place.place c.loop-place.invariant.0 last
