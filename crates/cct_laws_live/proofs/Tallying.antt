-- What was posted and reported as lost is tallied with what the counters show, over all lives.
use Rattle.std.proofs.Common.{ℕ, List, []}
use Rattle.cct_model.specs.terms.device.DeviceSetup.{DeviceSetup}
use Rattle.cct_model.specs.terms.device.Setup.{Setup}
use Rattle.cct_model.specs.lines.command.Step.{Step}
use Rattle.cct_model.specs.lines.entry.Entry.{Entry}
use Rattle.cct_model.specs.Legal.{Legal}
use Rattle.cct_model.specs.Records.{records}
use Rattle.cct_model.specs.Setup.{IsSoundSetup}
use Rattle.cct_model.specs.Transcript.{onto}
use Rattle.cct_laws.specs.Law.{IsOf}
use Rattle.cct_laws_live.specs.Counters.{IsTallied, told_in}
use Rattle.cct_laws_live.specs.Live.{EachLive}
use Rattle.cct_laws_live.proofs.Counted.{each_tallied}
use Rattle.cct_laws_live.proofs.Posting.{legal_posts}
use Rattle.cct_laws_live.proofs.Undosed.{live_posts}

pub legal_tallied : (capacity : ℕ) (setup : Setup) (steps : List Step) (transcript : List Entry) (d : DeviceSetup) →
    IsSoundSetup setup → IsOf setup d → Legal capacity setup steps transcript →
    IsTallied (told_in d.addr (records (onto [] transcript)))
legal_tallied capacity setup steps transcript d sound own legal =
    each_tallied d (onto [] transcript) (legal_posts capacity setup steps transcript d sound own legal)

pub live_tallied : EachLive (λ capacity setup transcript. (d : DeviceSetup) → IsOf setup d →
    IsTallied (told_in d.addr (records (onto [] transcript))))
live_tallied capacity setup steps transcript sound range is d own =
    each_tallied d (onto [] transcript) (live_posts capacity setup steps transcript sound range is d own)
