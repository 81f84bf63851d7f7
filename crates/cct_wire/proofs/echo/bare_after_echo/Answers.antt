use Rattle.std.proofs.Common.{Some, length, ap, sym, ◌∙◌, arith}
use Rattle.std.proofs.lemmas.List.{take_rest}
use Rattle.cct_wire.proofs.Echoes.{rest_is}
use Rattle.cct_wire.proofs.echo.bare_after_echo.Goals as goal

pub returns-clause-rest : goal.returns-clause-rest
returns-clause-rest c =
    let sent = c.args.sent.now in
    let heard = c.args.heard.now in
    rest_is sent heard (omega arith) ∙ ap Some (sym (take_rest heard (length sent)))
