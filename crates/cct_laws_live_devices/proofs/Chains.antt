-- Chains of exchanges over a link.
use Rattle.std.proofs.Common.{◌≡◌, ℕ, true, List, ◌++◌, Some}
use Rattle.cct_model.specs.terms.wire.CheckKind.{CheckKind}
use Rattle.cct_model.specs.terms.request.Request.{Request}
use Rattle.cct_model.specs.lines.command.WireFault.TheVariants as fault
use Rattle.cct_model.specs.lines.entry.Entry.{Entry}
use Rattle.cct_model.specs.Exchange.{ask}
use Rattle.cct_laws_live_devices.specs.Questions.{is_question}
use Rattle.cct_laws_live_devices.proofs.Surveyed.{question_asked}
use Rattle.cct_laws_live_devices.specs.Chain.{Chain, IsAsking, not_begun, gave_told, told_besides, gave_question}
use Rattle.std.proofs.Common.{refl}

-- a question asks no device more, under whichever check it is
pub asks_no_more : (kind : CheckKind) (addr : ℕ) (q : Request) → is_question (Some q) ≡ true → IsAsking (ask kind addr q)
asks_no_more kind addr q is d = question_asked d fault.Clear kind addr q is refl

-- what was given after one chain goes on with it
pub chains : {L : Type 0} (gives : L → List ℕ → List ℕ → L → Type 0) (first middle last : L) (past more : List Entry) →
    Chain gives first past middle → Chain gives middle more last → Chain gives first (more ++ past) last
chains gives first middle last past _ before not_begun = before
chains gives first middle last past _ before (gave_told more addr sent heard line next goes given) =
    gave_told (more ++ past) addr sent heard line next (chains gives first middle line past more before goes) given
chains gives first middle last past _ before (told_besides more e line goes is) =
    told_besides (more ++ past) e line (chains gives first middle line past more before goes) is
chains gives first middle last past _ before (gave_question more sent heard line next goes asks given) =
    gave_question (more ++ past) sent heard line next (chains gives first middle line past more before goes) asks given
