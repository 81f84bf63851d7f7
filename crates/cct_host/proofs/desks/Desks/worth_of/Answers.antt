use Rattle.std.proofs.Common.{◌∙◌, ap, arith, sym}
use Rattle.cct_model.specs.Money.{coins_of}
use Rattle.cct_journal_carry.proofs.Coins.{worth_most}
use Rattle.cct_host.proofs.Turning.{no_coins}
use Rattle.cct_host.proofs.desks.Desks.worth_of.Goals as goal

pub returns-then-coins-eq0-clause-value : goal.returns-then-coins-eq0-clause-value
returns-then-coins-eq0-clause-value c =
    sym (ap (coins_of c.args.self.now.setup.now c.args.addr) c.if-coins-eq0.true ∙ no_coins _)

pub returns-else-coins-eq0-clause-most : goal.returns-else-coins-eq0-clause-most
returns-else-coins-eq0-clause-most c =
    let most =
    worth_most c.args.self.now.setup.now c.args.addr c.args.coins c.args.coins c.args.self.now.sound.devices (omega arith) in
    omega (arith, most, c.coins_of.ensures)
