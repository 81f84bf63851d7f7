use Rattle.std.proofs.Common.{◌∙◌, arith, get_or, ap, refl, subst, sym}
use Rattle.std.proofs.Math.Nat.{zero-max}
use Rattle.cct_model.specs.Exchange.{device_at}
use Rattle.cct_model.specs.Money.{coins_of}
use Rattle.cct_host.specs.Attempt.{news_of}
use Rattle.cct_host.specs.Desk.{puts_at}
use Rattle.cct_host.specs.Desks.{amount_at_desk, due_at_desk, sending_at_desk}
use Rattle.cct_host.specs.Held.{piece_of}
use Rattle.cct_host.specs.Place.{AreAt, device}
use Rattle.cct_host.proofs.Lines.{attempt_last}
use Rattle.cct_host.proofs.Places.{desk_found, desk_lent, desk_sits, device_turn, found_at, none_at, owns_there, still_found}
use Rattle.cct_host.proofs.Standing.{of_next}
use Rattle.cct_host.proofs.Turning.{desk_turned, less_coins, no_coins, reserved_freed, some_by, sum_falls, sum_turn}
use Rattle.cct_host.proofs.desks.Desks.ask_there.Goals as goal

pub bare_next-requires-clause-bare : goal.bare_next-requires-clause-bare
bare_next-requires-clause-bare g c = (none_at c.args.self.now c.args.addr _ c.requires.found c.in-None.is).0

pub bare_next-requires-clause-nobody : goal.bare_next-requires-clause-nobody
bare_next-requires-clause-nobody g c = (none_at c.args.self.now c.args.addr _ c.requires.found c.in-None.is).1

pub ask-requires-clause-due : goal.ask-requires-clause-due
ask-requires-clause-due g c =
    let setup = c.args.self.now.setup.now in
    let ks = c.args.self.now.devices.items in
    let i = c.in-Some.index in
    let y = c.index-deref_mut-index.result in
    let kept = c.deref_mut.ensures.value in
    let at = found_at c.args.self.now c.args.addr i _ c.requires.found c.in-Some.is in
    let here = desk_lent ks _ i y kept c.index-deref_mut-index.is in
    sym (ap (due_at_desk c.args.self.now.sale c.args.addr)
    (desk_found setup.devices ks ks c.args.addr i _ refl here c.args.self.now.many at.within at.index)) ∙ c.requires.due

pub returns-in-None-clause-found : goal.returns-in-None-clause-found
returns-in-None-clause-found g c =
    still_found c.args.self.now _ c.args.addr c.args.found c.bare_next.ensures.frees.setup c.requires.found

pub returns-in-Some-clause-nexts : goal.returns-in-Some-clause-nexts
returns-in-Some-clause-nexts g c =
    let setup = c.args.self.now.setup.now in
    let ks = c.args.self.now.devices.items in
    let i = c.in-Some.index in
    let attempt = c.ask.ensures.attempts in
    let news = news_of c.args.addr attempt.what in
    let kept = c.deref_mut.ensures.value in
    let at = found_at c.args.self.now c.args.addr i _ c.requires.found c.in-Some.is in
    let y = desk_lent ks _ i c.index-deref_mut-index.result kept c.index-deref_mut-index.is in
    record {
      what = attempt.what;
      reported_is = attempt.reported_is;
      link = attempt.link;
      put_is = attempt.put_is ∙ sym (ap (due_at_desk c.args.self.now.sale c.args.addr)
          (desk_found setup.devices ks ks c.args.addr i _ refl y c.args.self.now.many at.within at.index));
      sent_is = attempt.sent_is ∙ sym (ap (λ there. piece_of (sending_at_desk c.args.self.now.scan c.args.addr there))
          (desk_found setup.devices ks ks c.args.addr i _ refl y c.args.self.now.many at.within at.index));
      goes = λ hears past heard stands owns.
          let sits = desk_sits setup.devices ks i at.device _ past at.within at.is y stands.devices in
          let goes = attempt.goes hears (device at.device) past heard at.addr_is sits (owns_there setup at.device c.args.addr
          past at.at at.addr_is owns) in
          let here = subst (λ a. AreAt a past news) at.addr_is goes.at in
          let turned = device_turn setup ks _ c.args.self.now.scan c.args.self.now.sale i c.ask.new.self at.device
          c.args.addr past news stands.sound kept at.index at.is here goes.keeps stands.devices stands.scan stands.sale in (
            of_next (device_at setup.devices c.args.addr) at.device _ _ at.at goes.entries,
            record {
              sound = stands.sound;
              devices = turned.0;
              scan = turned.1;
              sale = turned.2;
              last = attempt_last past c.args.addr attempt.what 0 c.args.self.now.last _ attempt.used_is stands.last
                  (sym (zero-max c.args.self.now.last));
            },
          );
    }

pub returns-in-Some-clause-frees : goal.returns-in-Some-clause-frees
returns-in-Some-clause-frees g c =
    let setup = c.args.self.now.setup.now in
    let sale = c.args.self.now.sale in
    let ks = c.args.self.now.devices.items in
    let i = c.in-Some.index in
    let y = c.index-deref_mut-index.result in
    let x = c.ask.new.self in
    let kept = c.deref_mut.ensures.value in
    let at = found_at c.args.self.now c.args.addr i _ c.requires.found c.in-Some.is in
    let here = desk_found setup.devices ks ks c.args.addr i (get_or _ i y) refl
    (desk_lent ks _ i y kept c.index-deref_mut-index.is) c.args.self.now.many at.within at.index in
    let amount = amount_at_desk setup sale c.args.addr in
    let due = ap (due_at_desk sale c.args.addr) here in
    let before = ap amount here in
    let after = ap amount (desk_turned setup.devices ks _ c.args.addr i x kept at.there at.index) in
    let frees = c.ask.ensures.frees in
    let less = sum_turn puts_at ks _ i y x (puts_at sale) 0 kept at.there (omega (arith, frees.left)) in
    record {
      setup = refl;
      left = omega (arith, less);
      puts = some_by _ _ _ _ due frees.puts (sum_falls puts_at ks _ i y x _ kept at.there);
      reserves = less_coins setup c.args.addr _ _ _ _ frees.reserves before after;
      clears = some_by _ _ _ _ due frees.clears (λ none. after ∙ ap (coins_of setup c.args.addr) none ∙ no_coins _);
      frees = reserved_freed setup ks _ i at.device c.args.addr y x _ _ _ kept c.args.self.now.many at.within at.is at.addr_is
          before after frees.reserves;
    }

pub returns-in-Some-clause-found : goal.returns-in-Some-clause-found
returns-in-Some-clause-found g c = still_found c.args.self.now _ c.args.addr c.args.found refl c.requires.found
