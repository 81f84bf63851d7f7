use Rattle.std.proofs.Common.{◌≡◌, Option, Some, None, true, refl, sym, ◌∙◌}
use Rattle.std.specs.Prelude.{is_some}
use Rattle.cct_model.specs.lines.record.Record.{Record}
use Rattle.cct_jobs.specs.declared.job.Job.{Job}
use Rattle.cct_host.specs.Held.{due_by}
use Rattle.cct_host.proofs.Attempts.{desk_puts}
use Rattle.cct_host.proofs.Holding.{put_frees}
use Rattle.cct_host.proofs.desk.JobDesk.next.Goals as goal

-- a record is due of a job
puts_there : (job : Option Job) (r : Record) → due_by job ≡ Some r → is_some job ≡ true
puts_there None r due = absurd cc
puts_there (Some job) r due = refl

pub put-requires-clause-there : goal.put-requires-clause-there
put-requires-clause-there g c = puts_there c.args.self.now.job _ (sym c.requires.due ∙ c.in-Some.is)

pub returns-in-Some-clause-attempts : goal.returns-in-Some-clause-attempts
returns-in-Some-clause-attempts g c =
    let desk = c.args.self.now in
    let due = sym c.requires.due ∙ c.in-Some.is in
    desk_puts g.L.Link.gives _ c.args.addr desk.job c.in-Some.entry desk.epoch desk.orders c.order_after-self.result _ _ _ _
    (puts_there desk.job _ due) due c.order_after-self.ensures c.put.ensures.puts
    c.epoch_by-self.ensures c.leave_orders.ensures
    c.id_of-id.ensures

pub returns-in-Some-clause-frees : goal.returns-in-Some-clause-frees
returns-in-Some-clause-frees g c =
    let desk = c.args.self.now in
    let due = sym c.requires.due ∙ c.in-Some.is in
    put_frees c.args.addr desk.job c.in-Some.entry _ _ _ (puts_there desk.job _ due) due c.put.ensures.puts
