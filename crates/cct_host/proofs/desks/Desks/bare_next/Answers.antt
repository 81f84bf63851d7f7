use Rattle.std.proofs.Common.{ap, sym, ◌∙◌}
use Rattle.cct_model.specs.Exchange.{device_at}
use Rattle.cct_host.specs.Held.{piece_of}
use Rattle.cct_host.specs.Place.{sales, scans}
use Rattle.cct_host.proofs.Lines.{attempt_last}
use Rattle.cct_host.proofs.Places.{sale_turn, scan_turn}
use Rattle.cct_host.proofs.Standing.{of_sale, of_scan}
use Rattle.cct_host.proofs.Turning.{none_due, sale_due, sale_sends, scan_due, scan_sends}
use Rattle.cct_host.proofs.desks.Desks.bare_next.Goals as goal

pub next-used-requires-clause-due : goal.next-used-requires-clause-due
next-used-requires-clause-due g c =
    let scan = c.args.self.now.scan in
    c.requires.due ∙ scan_due c.args.self.now.sale c.args.addr _ c.requires.nobody c.if-addr-eq-BROADCAST.true
    ∙ sym (none_due scan.job c.args.self.now.scans)

pub next-used-requires-then-addr-eq-HOST-clause-due : goal.next-used-requires-then-addr-eq-HOST-clause-due
next-used-requires-then-addr-eq-HOST-clause-due g c =
    c.requires.due ∙ sale_due c.args.self.now.sale c.args.addr _ c.requires.nobody c.if-addr-eq-HOST.true

pub returns-then-addr-eq-BROADCAST-clause-nexts : goal.returns-then-addr-eq-BROADCAST-clause-nexts
returns-then-addr-eq-BROADCAST-clause-nexts g c =
    let setup = c.args.self.now.setup.now in
    let attempt = c.next-used.ensures.attempts in
    record {
      what = attempt.what;
      reported_is = attempt.reported_is;
      link = attempt.link;
      put_is = attempt.put_is ∙ none_due c.args.self.now.scan.job c.args.self.now.scans
          ∙ sym (scan_due c.args.self.now.sale c.args.addr _ c.requires.nobody c.if-addr-eq-BROADCAST.true);
      sent_is = attempt.sent_is ∙ sym (ap piece_of
          (scan_sends c.args.self.now.scan c.args.addr _ c.requires.nobody c.if-addr-eq-BROADCAST.true));
      goes = λ hears past heard stands owns.
          let is = c.if-addr-eq-BROADCAST.true in
          let goes = attempt.goes hears scans past heard (sym is) stands.scan tt in
          let sale = c.args.self.now.sale in
          let turned = scan_turn setup _ sale past _ stands.sound goes.at stands.devices stands.sale in (
            of_scan hears (device_at setup.devices c.args.addr) _ past _ c.args.addr c.requires.bare is goes.entries,
            record {
              sound = stands.sound;
              devices = turned.0;
              scan = goes.keeps;
              sale = turned.1;
              last = attempt_last past c.args.addr attempt.what c.next-used.result c.args.self.now.last _
                  attempt.used_is stands.last c.max-self.ensures;
            },
          );
    }

pub returns-then-addr-eq-HOST-clause-nexts : goal.returns-then-addr-eq-HOST-clause-nexts
returns-then-addr-eq-HOST-clause-nexts g c =
    let setup = c.args.self.now.setup.now in
    let attempt = c.next-used-then-addr-eq-HOST.ensures.attempts in
    record {
      what = attempt.what;
      reported_is = attempt.reported_is;
      link = attempt.link;
      put_is = attempt.put_is
          ∙ sym (sale_due c.args.self.now.sale c.args.addr _ c.requires.nobody c.if-addr-eq-HOST.true);
      sent_is = attempt.sent_is ∙ ap piece_of
          (sale_sends c.args.self.now.scan c.args.self.now.sale c.args.addr _ c.requires.nobody c.if-addr-eq-HOST.true
          c.args.self.now.sells);
      goes = λ hears past heard stands owns.
          let is = c.if-addr-eq-HOST.true in
          let goes = attempt.goes hears sales past heard (sym is) stands.sale tt in
          let scan = c.args.self.now.scan in
          let turned = sale_turn setup _ scan past _ stands.sound goes.at stands.devices stands.scan in (
            of_sale hears (device_at setup.devices c.args.addr) _ past _ c.args.addr c.requires.bare is goes.entries,
            record {
              sound = stands.sound;
              devices = turned.0;
              scan = turned.1;
              sale = goes.keeps;
              last = attempt_last past c.args.addr attempt.what c.next-used-then-addr-eq-HOST.result
                  c.args.self.now.last _ attempt.used_is stands.last c.max-self-then-addr-eq-HOST.ensures;
            },
          );
    }
