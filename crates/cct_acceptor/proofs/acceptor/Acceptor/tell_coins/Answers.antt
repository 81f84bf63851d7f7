use Rattle.std.proofs.Common.{◌∙◌, ◌≡◌, false, sym, rules}
use Rattle.cct_acceptor.specs.Acceptor.{ids_of, start_of}
use Rattle.cct_acceptor.proofs.Replies.{is_of_coins, other_is, sets_nothing, settings_inhibit}
use Rattle.cct_acceptor.proofs.acceptor.Acceptor.tell_coins.Goals as goal

pub returns-in_default : goal.returns-in_default
returns-in_default c = record {
  answer = λ d past so still.
      let other : is_of_coins c.args.request ≡ false = search rules in
      c.told.ensures.reply _ _ _ _ past so.intake (settings_inhibit past) (sets_nothing c.args.request still)
      ∙ sym (other_is (start_of d.body) (ids_of d.body) past c.args.request other);
  sayable = c.told.ensures.sayable;
}
