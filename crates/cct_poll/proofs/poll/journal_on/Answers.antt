-- What was found, and why nothing was.
use Rattle.std.proofs.Common.{inl, inr, sym, ap, subst, ◌∙◌, Some}
use Rattle.std.specs.Prelude.{IfErr}
use Rattle.cct_disk_queue.specs.Queue.{bytes_of}
use Rattle.cct_journal.specs.Image.{IsAlien, IsBadAt}
use Rattle.cct_journal.specs.Opening.{RefusesOpen}
use Rattle.cct_model.specs.terms.device.Setup.{Setup}
use Rattle.cct_poll.specs.Starts.{RefusesStart, WasFound, WasMade, untouched}
use Rattle.cct_poll.proofs.Starting.{if_ok_both, if_ok_more, some_same}
use Rattle.cct_poll.proofs.poll.journal_on.Goals as goal

pub returns-in-Ok-clause-opens : goal.returns-in-Ok-clause-opens
returns-in-Ok-clause-opens c =
    inl (subst (λ disk. WasFound c.in-Ok.journal disk) c.new.ensures.value (record {
      finds = c.in-Ok.ensures.finds;
      settles = c.in-Ok.ensures.stands;
      reads = c.in-Ok.ensures.reads;
    }))

pub returns-in-Ok-clause-sure : goal.returns-in-Ok-clause-sure
returns-in-Ok-clause-sure c = inr (c.in-Ok.ensures.sure c.new.ensures.ready)

pub make_journal-requires : goal.make_journal-requires
make_journal-requires c =
    let alien = c.in-Err-default-Alien in
    let tells = ap (λ disk. Some (bytes_of disk)) c.new.ensures.value in
    let same = c.into_part.ensures ∙ some_same _ _ (alien.ensures.reads.same_seen ∙ tells) in
    subst IsAlien (sym same) (subst (λ why. RefusesOpen why c.args.part.items) alien.field-0-1-is
    (alien.ensures.refused c.args.part.items tells))

pub returns-in-Err-default-Alien-clause-opens : goal.returns-in-Err-default-Alien-clause-opens
returns-in-Err-default-Alien-clause-opens c =
    let tells = ap (λ disk. Some (bytes_of disk)) c.new.ensures.value in
    let same = c.into_part.ensures ∙ some_same _ _ (c.in-Err-default-Alien.ensures.reads.same_seen ∙ tells) in
    if_ok_more c.make_journal.result (λ journal was. inr (subst (λ part. WasMade journal (untouched part)) same was))
    c.make_journal.ensures.made

pub returns-in-Err-default-Alien-clause-sure : goal.returns-in-Err-default-Alien-clause-sure
returns-in-Err-default-Alien-clause-sure c =
    if_ok_both c.make_journal.result (λ journal was unfailed. inl (was.creates.none, unfailed)) c.make_journal.ensures.made
    c.make_journal.ensures.sure

pub returns-in-Err-default-Alien-clause-refused : goal.returns-in-Err-default-Alien-clause-refused
returns-in-Err-default-Alien-clause-refused c =
    let tells = ap (λ disk. Some (bytes_of disk)) c.new.ensures.value in
    let same = c.into_part.ensures ∙ some_same _ _ (c.in-Err-default-Alien.ensures.reads.same_seen ∙ tells) in
    subst (λ part. IfErr c.make_journal.result (λ why. (setup : Setup) → RefusesStart setup part why)) same
    c.make_journal.ensures.refused

pub returns-in-Err-default-BadRecord-clause-refused : goal.returns-in-Err-default-BadRecord-clause-refused
returns-in-Err-default-BadRecord-clause-refused c = λ setup.
    inl (subst (IsBadAt c.args.part.items) (sym c.in-Err-default-BadRecord.index-is)
    (subst (λ why. RefusesOpen why c.args.part.items) c.in-Err-default-BadRecord.field-0-1-is
    (c.in-Err-default-BadRecord.ensures.refused c.args.part.items (ap (λ disk. Some (bytes_of disk)) c.new.ensures.value))))
