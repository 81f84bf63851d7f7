use Rattle.std.proofs.Common.{subst}
use Rattle.cct_model.specs.terms.wire.CheckKind.TheVariants.{Simple, Crc}
use Rattle.cct_jobs.specs.declared.job.Job.{Job}
use Rattle.cct_jobs.specs.declared.job.Job.TheVariants.{ScanCallsSimple, ScanCallsCrc, ScanPollsSimple, ScanPollsCrc}
use Rattle.cct_jobs.specs.Scans.{StandsScan}
use Rattle.cct_jobs.proofs.Needs.{poll_asked, poll_sent}
use Rattle.cct_jobs.proofs.job.Job.hear_polled.Goals as goal

pub returns-in-ScanCallsSimple-clause-scan : goal.returns-in-ScanCallsSimple-clause-scan
returns-in-ScanCallsSimple-clause-scan c = λ since check addr stands row is_ask.
    let own = ScanCallsSimple c.in-ScanCallsSimple.failed in
    let at : StandsScan own since = subst (λ (job : Job). StandsScan job since) c.in-ScanCallsSimple.is stands in
    c.simple_call_heard.ensures.scan since at
    (poll_sent Simple check 0 addr c.args.sent.now (poll_asked own since check addr at row) is_ask)

pub returns-in-ScanCallsCrc-clause-scan : goal.returns-in-ScanCallsCrc-clause-scan
returns-in-ScanCallsCrc-clause-scan c = λ since check addr stands row is_ask.
    let own = ScanCallsCrc c.in-ScanCallsCrc.failed c.in-ScanCallsCrc.due in
    let at : StandsScan own since = subst (λ (job : Job). StandsScan job since) c.in-ScanCallsCrc.is stands in
    c.crc_call_heard.ensures.scan since at
    (poll_sent Crc check 0 addr c.args.sent.now (poll_asked own since check addr at row) is_ask)

pub returns-in-ScanPollsSimple-clause-scan : goal.returns-in-ScanPollsSimple-clause-scan
returns-in-ScanPollsSimple-clause-scan c = λ since check addr stands row is_ask.
    let job = c.in-ScanPollsSimple in
    let own = ScanPollsSimple job.addr job.due job.listed in
    let at : StandsScan own since = subst (λ (j : Job). StandsScan j since) job.is stands in
    c.simple_poll_heard.ensures.scan since at
    (poll_sent Simple check job.addr addr c.args.sent.now (poll_asked own since check addr at row) is_ask)

pub returns-in-ScanPollsCrc-clause-scan : goal.returns-in-ScanPollsCrc-clause-scan
returns-in-ScanPollsCrc-clause-scan c = λ since check addr stands row is_ask.
    let job = c.in-ScanPollsCrc in
    let own = ScanPollsCrc job.addr job.due job.listed in
    let at : StandsScan own since = subst (λ (j : Job). StandsScan j since) job.is stands in
    c.crc_poll_heard.ensures.scan since at
    (poll_sent Crc check job.addr addr c.args.sent.now (poll_asked own since check addr at row) is_ask)
