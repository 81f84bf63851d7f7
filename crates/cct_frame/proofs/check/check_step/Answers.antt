use Rattle.std.proofs.Common.{◌∙◌, sym}
use Rattle.cct_frame.proofs.Running.{crc_more}
use Rattle.cct_frame.proofs.check.check_step.Goals as goal

pub returns-in-Crc-2 : goal.returns-in-Crc-2
returns-in-Crc-2 c = λ bytes at e.
    crc_more c.args.kind c.args.check c.crc16_step.result c.args.byte bytes c.in-Crc-2.is
    (λ two. c.if-place-eq-LOW_BYTE.false (sym at ∙ two)) e c.crc16_step.ensures.longer
