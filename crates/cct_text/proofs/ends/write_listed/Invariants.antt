use Rattle.cct_text.proofs.Listing.{Lists}
use Rattle.cct_text.proofs.ends.write_listed.Given as goal

abbrev pub invariant-loop-addr : goal.invariant-loop-addr
invariant-loop-addr l = Lists l.listed l.addr l.initial.line l.line l.separator
