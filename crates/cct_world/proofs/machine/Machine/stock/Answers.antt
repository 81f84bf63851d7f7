use Rattle.std.proofs.Common.{refl, reverse}
use Rattle.cct_model.specs.lines.entry.Entry.TheVariants as entry
use Rattle.cct_world.proofs.AtDesk.{one_aside, plain_aside, stock_aside}
use Rattle.cct_world.proofs.machine.Machine.stock.Goals as goal

pub returns : goal.returns
returns g c =
    let machine = c.args.self.now in
    let report = c.tell_stock.new.report.items in
    let told = entry.Stock c.args.addr c.args.count in
    let aside = stock_aside c.args.addr c.args.count in
    let plain = plain_aside report told c.tell_stock.ensures aside in
    record {
      setup = refl;
      journal = refl;
      plays = λ past stands suits survives.
          let goes = one_aside machine.host machine.bus past told report c.tell_stock.ensures aside stands.host stands.bus in
          (goes.0, record { host = goes.1.0; bus = goes.1.1 });
      told = plain.0;
      recorded = plain.1;
      unkept = plain.2;
      desk = c.stock.ensures (reverse report);
    }
