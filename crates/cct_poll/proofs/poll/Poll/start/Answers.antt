-- What a host begins with, and why none is started.
use Rattle.std.proofs.Common.{⊎_elim, refl, sym, subst, true≢false}
use Rattle.cct_journal.specs.Journal as journals
use Rattle.cct_journal.specs.declared.refusal.ReadNo.TheVariants.{BadRecord}
use Rattle.cct_host.specs.Starting.{RefusesResume}
use Rattle.cct_poll.specs.Starts.{RefusesStart, untouched}
use Rattle.cct_poll.proofs.Starting.{passed_on, refused_by, starts_by, still_unfailed}
use Rattle.cct_poll.proofs.poll.Poll.start.Goals as goal

pub returns-in_err-journal-clause-refused : goal.returns-in_err-journal-clause-refused
returns-in_err-journal-clause-refused c =
    passed_on c.from_residual.result c.in_err-journal.field-0.0 (RefusesStart c.args.setup.now c.args.part.items)
    c.from_residual.ensures (c.in_err-journal.ensures.refused c.args.setup.now)

pub invariant_of-result-clause-unfailed : goal.invariant_of-result-clause-unfailed
invariant_of-result-clause-unfailed c =
    let said = c.in-Ok.ensures in
    ⊎_elim (λ fresh. still_unfailed c.in_ok-journal.journal c.in-Ok.host (said.untouched fresh.0) fresh.1)
    (λ ready. (said.sure ready).unfailed) c.in_ok-journal.ensures.sure

pub returns-in-Ok-clause-starts : goal.returns-in-Ok-clause-starts
returns-in-Ok-clause-starts c =
    let said = c.in-Ok.ensures in
    starts_by (untouched c.args.part.items) c.in_ok-journal.journal c.args.setup.now c.args.part.items refl c.in-Ok.host
    said.setup c.requires.sound refl (λ image is. is) refl refl said.resumes said.knows said.fresh said.untouched said.stands
    said.reads c.in_ok-journal.ensures.opens

pub returns-in-Err-default-BadRecord-clause-refused : goal.returns-in-Err-default-BadRecord-clause-refused
returns-in-Err-default-BadRecord-clause-refused c =
    let said = c.in-Err-default-BadRecord.ensures in
    let journal = c.in_ok-journal.journal in
    refused_by (untouched c.args.part.items) journal c.args.setup.now c.args.part.items refl
    c.in-Err-default-BadRecord.index c.in_ok-journal.ensures.opens
    (λ rest reads.
    subst (λ index. RefusesResume (BadRecord index) c.args.setup.now (journals.base_of journal) (journals.carry_before journal)
    rest) (sym c.in-Err-default-BadRecord.index-is)
    (subst (λ why. RefusesResume why c.args.setup.now (journals.base_of journal) (journals.carry_before journal) rest)
    c.in-Err-default-BadRecord.field-0-1-is (said.stops rest reads)))
    (λ none. true≢false (sym (said.starts none)))
