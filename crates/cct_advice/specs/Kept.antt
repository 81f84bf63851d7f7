-- What contracts see of a source and of a sink of which the last bytes are kept.
use Rattle.cct_advice.specs.declared.kept.KeptSink.{KeptSink}
use Rattle.cct_advice.specs.declared.kept.KeptSource.{KeptSource}
use Rattle.cct_advice.specs.declared.shared.AdvisedSink.{AdvisedSink}
use Rattle.cct_advice.specs.declared.shared.SharedSource.{SharedSource}

-- the source whose bytes are kept
abbrev pub source_of : {S : Type 0} → KeptSource S → S
source_of kept = kept.source

-- the sink whose last put is kept
abbrev pub sink_of : {K : Type 0} → KeptSink K → K
sink_of kept = kept.sink

-- the source whose bytes a sink sees too
abbrev pub shared_source_of : {S : Type 0} → SharedSource S → S
shared_source_of shared = shared.source

-- the sink whose refused lines are explained
abbrev pub advised_sink_of : {K : Type 0} → AdvisedSink K → K
advised_sink_of advised = advised.sink
