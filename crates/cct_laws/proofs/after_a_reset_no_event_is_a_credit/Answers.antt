use Rattle.cct_laws.proofs.acceptor.Safety.{legal_silent, legal_unread}
use Rattle.cct_laws.proofs.after_a_reset_no_event_is_a_credit.Goals as goal

pub returns : goal.returns
returns c = record { events = legal_silent; pairs = legal_unread }
