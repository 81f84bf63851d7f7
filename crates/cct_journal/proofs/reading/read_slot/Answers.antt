use Rattle.std.proofs.Common.{◌≡◌, ◌+◌, ◌*◌, rules}
use Rattle.cct_journal.specs.declared.format.TheConstants.{FIRST_SLOT}
use Rattle.cct_journal.specs.Half.{half}
use Rattle.cct_journal.proofs.Walks.{body_read}
use Rattle.cct_journal.proofs.reading.read_slot.Goals as goal

pub returns-clause-body : goal.returns-clause-body
returns-clause-body g c image told =
    let place : 32 * (36 + c.from.result) ≡ 32 * (FIRST_SLOT + c.args.many) = search rules in
    body_read c.read_in.new.room c.slot_of.result.body (half image c.args.second) _ (FIRST_SLOT + c.args.many)
    (c.in_ok-read_in.ensures.gives image told) place c.slot_of.ensures.body
