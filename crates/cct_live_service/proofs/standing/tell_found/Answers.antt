use Rattle.cct_live_service.proofs.standing.tell_found.Goals as goal

pub returns-clause-tells : goal.returns-clause-tells
returns-clause-tells g c = record { n = c.opening_notice.result; is = c.opening_notice.ensures; put = c.tell.ensures.puts }
