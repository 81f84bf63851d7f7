use Rattle.std.proofs.Common.{Some, ap, sym, ◌∙◌, arith}
use Rattle.std.proofs.lemmas.List.{nil_from_length}
use Rattle.cct_wire.proofs.Silences.{silent}
use Rattle.cct_wire.proofs.hearing.hear.Goals as goal

pub returns-in-Ok-empty-clause-message : goal.returns-in-Ok-empty-clause-message
returns-in-Ok-empty-clause-message c =
    let no_more = nil_from_length c.in-Ok-empty.field-0.now (omega arith) in
    sym (silent c.args.kind c.args.sent.now c.args.heard.now (c.in-Ok-empty.ensures.rest ∙ ap Some no_more))
