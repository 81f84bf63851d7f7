use Rattle.cct_host.proofs.Talks.{talks}
use Rattle.cct_host.proofs.exchange.talk.Goals as goal

pub returns-clause-talks : goal.returns-clause-talks
returns-clause-talks g c =
    talks _ _ _ _ _ _ _ c.request-sending.ensures.row c.request-sending.ensures.scan c.encode_request.ensures
    c.as_slice-2.ensures.value c.as_slice-3.ensures.value c.hear.ensures.device c.hear.ensures.scan
