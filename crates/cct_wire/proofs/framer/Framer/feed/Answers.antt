use Rattle.std.proofs.Common.{refl, rules}
use Rattle.cct_wire.proofs.Framers.{since_counted, since_more, whole_more, none_more}
use Rattle.cct_wire.proofs.framer.Framer.feed.Goals as goal

pub returns-then-self-ge-MOST_SENT-clause-since : goal.returns-then-self-ge-MOST_SENT-clause-since
returns-then-self-ge-MOST_SENT-clause-since c = λ bytes since.
    since_counted c.args.self.now _ bytes c.args.byte since c.if-self-ge-MOST_SENT.true (search rules) refl (search rules)

pub returns-then-self-ge-MOST_SENT-clause-whole : goal.returns-then-self-ge-MOST_SENT-clause-whole
returns-then-self-ge-MOST_SENT-clause-whole c = λ bytes since.
    (λ is. absurd cc, λ some. absurd (none_more c.args.self.now bytes c.args.byte since c.if-self-ge-MOST_SENT.true some))

pub returns-then-is_whole-clause-since : goal.returns-then-is_whole-clause-since
returns-then-is_whole-clause-since c = λ bytes since.
    since_more c.args.self.now _ bytes c.args.byte since c.if-self-ge-MOST_SENT.false c.take_in.ensures.count c.take_in.ensures.held

pub returns-then-is_whole-clause-whole : goal.returns-then-is_whole-clause-whole
returns-then-is_whole-clause-whole c = λ bytes since.
    let same = whole_more c.args.self.now c.take_in.new.self bytes c.args.byte since c.if-self-ge-MOST_SENT.false c.take_in.ensures.kind c.take_in.ensures.held in
    (λ is. same.0 (c.is_whole.ensures.0 c.if-is_whole.true), λ some. refl)

pub returns-else-is_whole-clause-since : goal.returns-else-is_whole-clause-since
returns-else-is_whole-clause-since c = λ bytes since.
    since_more c.args.self.now _ bytes c.args.byte since c.if-self-ge-MOST_SENT.false c.take_in.ensures.count c.take_in.ensures.held

pub returns-else-is_whole-clause-whole : goal.returns-else-is_whole-clause-whole
returns-else-is_whole-clause-whole c = λ bytes since.
    let same = whole_more c.args.self.now c.take_in.new.self bytes c.args.byte since c.if-self-ge-MOST_SENT.false c.take_in.ensures.kind c.take_in.ensures.held in
    (λ is. absurd cc, λ some. let whole = c.is_whole.ensures.1 (same.1 some) in let not_whole = c.if-is_whole.false in absurd cc)
