use Rattle.cct_host.specs.Host.{setup_of}
use Rattle.cct_host.proofs.Money.{enough_is, short_is}
use Rattle.cct_host.proofs.host.Host.short_refusal.Goals as goal

pub returns-then-wanted-have : goal.returns-then-wanted-have
returns-then-wanted-have g c past keeps =
    enough_is (setup_of c.args.self.now) past c.available-have.result c.args.wanted (c.available-have.ensures past keeps)
    c.if-wanted-have.true

pub returns-else-wanted-have : goal.returns-else-wanted-have
returns-else-wanted-have g c past keeps =
    short_is (setup_of c.args.self.now) past c.available-have.result c.args.wanted (c.available-have.ensures past keeps)
    c.if-wanted-have.false
