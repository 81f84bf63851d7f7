-- The addresses were searched, and then the devices there asked.
use Rattle.cct_live_survey.specs.Asking.{still}
use Rattle.cct_live_draft.proofs.drafting.draft.Goals as goal

pub returns-in_err-draft_all : goal.returns-in_err-draft_all
returns-in_err-draft_all g c = record {
  inquires = c.draft_all.ensures.inquires _ (c.addresses_heard-heard.ensures.inquires _ still);
}

pub returns-in_err-put_begin : goal.returns-in_err-put_begin
returns-in_err-put_begin g c = record {
  inquires = c.draft_all.ensures.inquires _ (c.addresses_heard-heard.ensures.inquires _ still);
}

pub returns-then-room : goal.returns-then-room
returns-then-room g c = record {
  inquires = c.draft_all.ensures.inquires _ (c.addresses_heard-heard.ensures.inquires _ still);
}

pub returns-else-room : goal.returns-else-room
returns-else-room g c = record {
  inquires = c.draft_all.ensures.inquires _ (c.addresses_heard-heard.ensures.inquires _ still);
}
