use Rattle.std.proofs.Common.{◌≡◌, ◌∷◌, true, false, refl, sym, subst, arith}
use Rattle.cct_model.specs.lines.entry.Listed.{Listed}
use Rattle.cct_model.specs.terms.wire.CheckKind.TheVariants.{Crc}
use Rattle.cct_model.specs.Exchange.{after_echo}
use Rattle.cct_model.specs.Line.{Line, scanned}
use Rattle.cct_model.specs.Scan.{is_acknowledged}
use Rattle.cct_jobs.specs.Scans.{Lists, StandsScan}
use Rattle.cct_jobs.proofs.Scans.{crc_found, crc_line, crc_missed}
use Rattle.cct_jobs.proofs.scan.crc_poll_heard.Goals.{then-is_acknowledged, else-is_acknowledged}
use Rattle.cct_jobs.proofs.scan.crc_poll_heard.Goals as goal

pub returns-clause-scan : goal.returns-clause-scan
returns-clause-scan c = λ since at is_ask.
    let addr = c.args.addr in
    let rest = after_echo c.args.sent.now c.args.heard.now in
    let after = scanned Crc addr rest ∷ since in
    let lists : Lists c.args.due c.if-is_acknowledged.listed after =
    elim c.if-is_acknowledged.branch [
      | then-is_acknowledged w ↦
          let acked : is_acknowledged Crc addr rest ≡ true = cc in
          subst (λ (listed : Listed). Lists c.args.due listed after) (sym w.listed-is)
          (crc_found addr rest c.args.due c.args.listed _ since at w.insert.ensures.one_more w.insert.ensures.whole refl acked)
      | else-is_acknowledged w ↦
          let unacked : is_acknowledged Crc addr rest ≡ false = cc in
          subst (λ (listed : Listed). Lists c.args.due listed after) (sym w.listed-is)
          (crc_missed addr rest c.args.due c.args.listed since at unacked)
    ] in
    subst (λ (line : Line). StandsScan c.next_poll.result (line ∷ since))
    (sym (crc_line addr c.args.sent.now c.args.heard.now (omega arith) is_ask))
    (c.next_poll.ensures.scan after lists refl)
