-- What contracts see of the sink and the link that the program puts around others.
use Rattle.std.specs.Prelude.{Bool}
use Rattle.cct_live.specs.declared.listening.Listening.{Listening}
use Rattle.cct_live.specs.declared.quiet.QuietSink.{QuietSink}

-- The sink of standard output.
abbrev pub sink_of : {K : Type 0} → QuietSink K → K
sink_of s = s.sink

-- The lines of exchanges are left out.
abbrev pub is_quiet : {K : Type 0} → QuietSink K → Bool
is_quiet s = s.is_quiet

-- The link that is listened to.
abbrev pub link_of : {L : Type 0} → Listening L → L
link_of l = l.link
