use Rattle.cct_laws_change.proofs.Courses.{course_short, each_taken}
use Rattle.cct_laws_change.proofs.Planned.{made_planned, served_planned}
use Rattle.cct_laws_change.proofs.Smooth.{blocks_serve}
use Rattle.cct_laws_change.proofs.a_session_is_served_where_a_plan_is.Goals as goal

pub returns : goal.returns
returns c = record {
  taken = each_taken;
  served = served_planned;
  short = course_short;
  ends = blocks_serve;
  payments = made_planned;
}
